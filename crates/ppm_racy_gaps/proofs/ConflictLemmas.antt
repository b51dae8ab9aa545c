-- A conflict is one of the code with puts, or an exchange after which array words are written.
use Rattle.std.proofs.Common.{◌≡◌, ◌⊎◌, ℕ, ◌+◌, true, List, map, Option, Some, None, inl, inr, refl, sym, ap, ◌∙◌, subst}
use Rattle.std.specs.Prelude.{slice_get}
use Rattle.std.specs.Option.{option_map}
use Rattle.std.proofs.lemmas.Option.{same_Some, slice_get-map}
use Rattle.ppm_code.specs.declared.class.Class.{Class}
use Rattle.ppm_code.specs.declared.class.Class.TheVariants.{Array}
use Rattle.ppm_code.specs.declared.class.May.TheVariants.{Read, Write}
use Rattle.ppm_code.specs.declared.instr.Instr.{Instr}
use Rattle.ppm_code.specs.Paths.{may, Any, Does, Exposes, IsConflict, Path, Here, Then}
use Rattle.ppm_gaps.proofs.SearchLemmas.{any}
use Rattle.ppm_racy.specs.declared.instr.RacyInstr.{RacyInstr}
use Rattle.ppm_racy.specs.declared.instr.RacyInstr.TheVariants.{Plain, Cam}
use Rattle.ppm_racy.specs.Acts.{plain_of}
use Rattle.ppm_racy_gaps.specs.Conflicts.{IsRacyConflict, Reads, Writes, is_exchange}
use Rattle.ppm_racy_gaps.specs.Repeats.{IsRepeat}

-- what an instruction reads and writes, and what it does with a put in place of an exchange
reads_back : (i : RacyInstr) (c : Class) → may (plain_of i) ≡ Read c → Reads i c
reads_back (Plain i) c e = e
reads_back (Cam a b o n l) c e = cc

writes_back : (i : RacyInstr) (c : Class) → may (plain_of i) ≡ Write c → Writes i c
writes_back (Plain i) c e = e
writes_back (Cam a b o n l) c e = cc

writes_plain : (i : RacyInstr) (c : Class) → Writes i c → may (plain_of i) ≡ Write c
writes_plain (Plain i) c e = e
writes_plain (Cam a b o n l) c e = ap Write (sym e)

-- an instruction reads one class
pub one_read : (i : RacyInstr) (c d : Class) → Reads i c → Reads i d → c ≡ d
one_read (Plain i) c d e f = let same : Read c ≡ Read d = sym e ∙ f in cc
one_read (Cam a b o n l) c d e f = e ∙ sym f

module _ (is : List RacyInstr) where
  abbrev plain : List Instr
  plain = map plain_of is

  pub there : (at : ℕ) (i : RacyInstr) → slice_get is at ≡ Some i → slice_get plain at ≡ Some (plain_of i)
  there at i e = slice_get-map plain_of is at ∙ ap (λ (o : Option RacyInstr). option_map plain_of o) e

  -- the instruction at a place, of which this is the one with a put in place of an exchange
  record IsOf (at : ℕ) (j : Instr) : Type 0 where
    pub instr : RacyInstr
    pub is_there : slice_get is at ≡ Some instr
    pub same : plain_of instr ≡ j

  back : (at : ℕ) (j : Instr) → slice_get plain at ≡ Some j → IsOf at j
  back at j e = by (slice_get is at) refl
    where
      by : (o : Option RacyInstr) → slice_get is at ≡ o → IsOf at j
      by None f =
          let none : Some j ≡ None = sym e ∙ slice_get-map plain_of is at ∙ ap (λ (o : Option RacyInstr). option_map plain_of o) f in cc
      by (Some i) f = record { instr = i; is_there = f; same = same_Some (plain_of i) j (sym (there at i f) ∙ e) }

  -- a conflict with puts
  pub of_plain : (read write : ℕ) (c : Class) → IsConflict plain read write c → IsRacyConflict is read write c
  of_plain read write c h =
      let r = back read h.exposed.reads.0 h.exposed.reads.1 in
      let w = back write h.writes.0 h.writes.1 in
      record {
        reads = (r.instr, r.is_there, reads_back r.instr c (ap may r.same ∙ h.exposed.reads.2));
        before = h.exposed.before;
        between = subst (λ (n : ℕ). Path plain Any n write) h.goes_on h.between;
        writes = (w.instr, w.is_there, writes_back w.instr c (ap may w.same ∙ h.writes.2));
      }

  exposing : (a b : ℕ) → Path plain Any a b → Path plain (Exposes Array) a b
  exposing a b (Here _) = Here a
  exposing a b (Then _ at _ m p here allowed goes) = Then a at b m (exposing a at p) here tt goes

  -- an exchange after which array words are written
  pub of_repeat : (read write : ℕ) → IsRepeat is read write → IsRacyConflict is read write Array
  of_repeat read write h = by h.instr h.there h.exchanges
    where
      by : (i : RacyInstr) → slice_get is read ≡ Some i → is_exchange i ≡ true → IsRacyConflict is read write Array
      by (Plain i) e x = cc
      by (Cam a b o n l) e x =
          let w = back write h.leads.1.0 h.leads.1.1 in
          record {
            reads = (Cam a b o n l, e, refl);
            before = exposing 0 read h.before;
            between = h.leads.0;
            writes = (w.instr, w.is_there, writes_back w.instr Array (ap may w.same ∙ h.leads.1.2));
          }

  does_write : (at : ℕ) (c : Class) (i : RacyInstr) → slice_get is at ≡ Some i → Writes i c → Does plain at (Write c)
  does_write at c i e w = (plain_of i, there at i e, writes_plain i c w)

  -- there is no other
  pub split : (read write : ℕ) (c : Class) → IsRacyConflict is read write c → IsConflict plain read write c ⊎ (IsRepeat is read write × (c ≡ Array))
  split read write c h = by h.reads.0 h.reads.1 h.reads.2
    where
      writes : Does plain write (Write c)
      writes = does_write write c h.writes.0 h.writes.1 h.writes.2

      by : (i : RacyInstr) → slice_get is read ≡ Some i → Reads i c → IsConflict plain read write c ⊎ (IsRepeat is read write × (c ≡ Array))
      by (Plain i) e m = inl (record {
        exposed = record { reads = (i, there read (Plain i) e, m); before = h.before };
        next = read + 1;
        goes_on = refl;
        between = h.between;
        writes = writes;
      })
      by (Cam a b o n l) e m = inr (
        record {
          instr = Cam a b o n l;
          there = e;
          exchanges = refl;
          before = any plain (Exposes c) 0 read h.before;
          leads = (h.between, subst (λ (d : Class). Does plain write (Write d)) m writes);
        },
        m,
      )
