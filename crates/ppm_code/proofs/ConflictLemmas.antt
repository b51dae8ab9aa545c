-- A capsule made from instructions that have no conflict on any path has none.
use Rattle.std.proofs.Common.{◌≡◌, ◌≤◌, ℕ, zero, suc, ◌+◌, max, List, [], ◌∷◌, length}
use Rattle.std.proofs.Common.{◌⊎◌, inl, inr, refl, sym, ap, subst, arith, slice_set, cond, Option, Some, None}
use Rattle.std.specs.Prelude.{slice_get, replicate}
use Rattle.std.proofs.lemmas.Bool.{cond-false, cond-true}
use Rattle.ppm_strands.specs.Capsule.{Capsule, Ends, In, Memory, is_in}
use Rattle.ppm_strands.specs.Strand.{Own, New as NewWord, Shared}
use Rattle.ppm_strands.specs.Paths.{IsFreePast}
use Rattle.ppm_strands.proofs.LocationLemmas.{decide, in_or_not}
use Rattle.ppm_strands.proofs.PathLemmas.{paths_are_enough}
use Rattle.ppm_strands.proofs.StandsLemmas.{is_idempotent}
use Rattle.ppm_code.specs.RunAgain.{MayRunAgain}
use Rattle.ppm_code.specs.declared.location.FrameWord.TheVariants.{Slot as SlotWord, Value as ValueWord}
use Rattle.ppm_code.specs.declared.class.Class.{Class}
use Rattle.ppm_code.specs.declared.class.Class.TheVariants.{Slot, New, Value, Room, Array}
use Rattle.ppm_code.specs.declared.class.May.{May}
use Rattle.ppm_code.specs.declared.class.May.TheVariants.{Work, Read, Write, Branch, Stop}
use Rattle.ppm_code.specs.declared.act.Act.{Act}
use Rattle.ppm_code.specs.declared.act.Act.TheVariants.{Sets, Passes, Jumps, Steps, Ends as Stops}
use Rattle.ppm_code.specs.declared.act.Step.TheVariants.{Loads, Stores, Asks}
use Rattle.ppm_code.specs.declared.act.End.{End}
use Rattle.ppm_code.specs.declared.act.End.TheVariants.{Finish}
use Rattle.ppm_code.specs.declared.instr.Instr.{Instr}
use Rattle.ppm_code.specs.Acts.{does}
use Rattle.ppm_code.specs.Locations.{Where, location_of, code_locations}
use Rattle.ppm_code.specs.Capsules.{capsule_from, capsule_of, at_act}
use Rattle.ppm_code.specs.Paths.{may, class_of, Follows, Does, GoesTo, Path, Here, Then, Any, Exposes, IsExposed, HasNoConflict}
use Rattle.ppm_code.proofs.CapsuleLemmas.{at_instr, past_end}
use Rattle.ppm_code.proofs.FollowLemmas.{acts_follow}

-- a location that is one of its class
abbrev IsSingle : Where → Type 0
IsSingle (Own k) = Unit {0}
IsSingle (NewWord o) = Unit {0}
IsSingle (Shared x) = ⊥

-- it is told by its class
class_is : (l k : Where) → IsSingle l → class_of l ≡ class_of k → l ≡ k
class_is (Own (SlotWord i)) (Own (SlotWord j)) s e = cc
class_is (Own (SlotWord i)) (Own ValueWord) s e = cc
class_is (Own (SlotWord i)) (NewWord o) s e = cc
class_is (Own (SlotWord i)) (Shared x) s e = cc
class_is (Own ValueWord) (Own (SlotWord j)) s e = cc
class_is (Own ValueWord) (Own ValueWord) s e = refl
class_is (Own ValueWord) (NewWord o) s e = cc
class_is (Own ValueWord) (Shared x) s e = cc
class_is (NewWord o) (Own (SlotWord j)) s e = cc
class_is (NewWord o) (Own ValueWord) s e = cc
class_is (NewWord o) (NewWord p) s e = cc
class_is (NewWord o) (Shared x) s e = cc
class_is (Shared y) k s e = absurd s

-- an instruction that does not write a class leaves it exposed
exposes : (c : Class) (m : May) → (m ≡ Write c → ⊥) → Exposes c m
exposes (Slot i) m h = h
exposes (New o) m h = h
exposes Value m h = h
exposes Room m h = h
exposes Array m h = tt

one_class : (c d : Class) → Write c ≡ Write d → c ≡ d
one_class c d e = cc

module _ (is : List Instr) where
  -- a class was read, exposed, on the way to a place
  record WasRead (c : Class) (at : ℕ) : Type 0 where
    read : ℕ
    exposed : IsExposed is read c
    next : ℕ
    goes_on : GoesTo (Read c) read next
    between : Path is Any next at

  -- of a capsule at a place that has read r and written w: each of r was read on some path, and what is not in w is exposed on some path
  record Covers (at : ℕ) (r w : List Where) : Type 0 where
    reads : (l : Where) → In l r → WasRead (class_of l) at
    fresh : (l : Where) → (IsSingle l × In l w) ⊎ Path is (Exposes (class_of l)) 0 at

  longer : (c : Class) (at t : ℕ) (m : May) → Does is at m → GoesTo m at t → WasRead c at → WasRead c t
  longer c at t m here goes r = record {
    read = r.read;
    exposed = r.exposed;
    next = r.next;
    goes_on = r.goes_on;
    between = Then r.next at t m r.between here tt goes;
  }

  -- past an instruction that writes nothing
  passed : (at t : ℕ) (m : May) (r w : List Where) → Does is at m → GoesTo m at t → ((c : Class) → m ≡ Write c → ⊥) → Covers at r w → Covers t r w
  passed at t m r w here goes none c = record {
    reads = λ l i. longer (class_of l) at t m here goes (c.reads l i);
    fresh = λ l. elim (c.fresh l) [
      | inl h ↦ inl h
      | inr p ↦ inr (Then 0 at t m p here (exposes (class_of l) m (none (class_of l))) goes)
    ];
  }

  -- past a read
  one_read : (at : ℕ) (r w : List Where) (k : Where) → Does is at (Read (class_of k)) → Covers at r w
      → Covers (at + 1) (cond (is_in code_locations k w) r (k ∷ r)) w
  one_read at r w k here c = elim (in_or_not code_locations k w) [
    | inl i ↦ rw (cond-true (is_in code_locations k w) r (k ∷ r) i.1) after
    | inr out ↦ rw (cond-false (is_in code_locations k w) r (k ∷ r) out.1) (record {
      reads = λ l i. elim i [ inl e ↦ subst (λ (j : Where). WasRead (class_of j) (at + 1)) (sym e) (now out.0) | inr j ↦ after.reads l j ];
      fresh = after.fresh;
    })
  ]
    where
      after : Covers (at + 1) r w
      after = passed at (at + 1) (Read (class_of k)) r w here refl (λ d e. cc) c

      now : (In k w → ⊥) → WasRead (class_of k) (at + 1)
      now out = elim (c.fresh k) [
        | inl h ↦ absurd (out h.1)
        | inr p ↦ record { read = at; exposed = record { reads = here; before = p }; next = at + 1; goes_on = refl; between = Here (at + 1) }
      ]

  -- past a write
  one_write : (at : ℕ) (r w : List Where) (k : Where) → Does is at (Write (class_of k)) → Covers at r w → Covers (at + 1) r (k ∷ w)
  one_write at r w k here c = record {
    reads = λ l i. longer (class_of l) at (at + 1) (Write (class_of k)) here refl (c.reads l i);
    fresh = λ l. elim (c.fresh l) [ inl h ↦ inl (h.0, inr h.1) | inr p ↦ still l p ];
  }
    where
      single : (l : Where) → IsSingle l → Path is (Exposes (class_of l)) 0 at → (IsSingle l × In l (k ∷ w)) ⊎ Path is (Exposes (class_of l)) 0 (at + 1)
      single l s p = elim (decide code_locations l k) [
        | inl e ↦ inl (s, inl e)
        | inr ne ↦ inr (Then 0 at (at + 1) (Write (class_of k)) p here
            (exposes (class_of l) (Write (class_of k)) (λ e. ne.0 (class_is l k s (sym (one_class (class_of k) (class_of l) e))))) refl)
      ]

      still : (l : Where) → Path is (Exposes (class_of l)) 0 at → (IsSingle l × In l (k ∷ w)) ⊎ Path is (Exposes (class_of l)) 0 (at + 1)
      still (Own j) p = single (Own j) tt p
      still (NewWord o) p = single (NewWord o) tt p
      still (Shared x) p = inr (Then 0 at (at + 1) (Write (class_of k)) p here tt refl)

  -- a write after an exposed read of its class is a conflict
  clash : (at : ℕ) (c : Class) → Does is at (Write c) → WasRead c at → HasNoConflict is → ⊥
  clash at c here r free = free r.read at c (record { exposed = r.exposed; next = r.next; goes_on = r.goes_on; between = r.between; writes = here })

  module _ (free : HasNoConflict is) (go : ℕ → List ℕ → Capsule Where End) (at : ℕ)
      (on : (r w : List Where) (t : ℕ) (h : List ℕ) → at + 1 ≤ t → Covers t r w → IsFreePast code_locations r w (go t h)) where
    act_free : (m : May) (a : Act) (r w : List Where) (g : List ℕ) → Does is at m → Follows m a → Covers at r w
        → IsFreePast code_locations r w (at_act go (at + 1) a g)
    act_free m (Stops e) r w g here f c = tt
    act_free Work (Sets d v) r w g here f c = on r w (at + 1) (slice_set g d.index v) (omega arith) (passed at (at + 1) Work r w here refl (λ d e. cc) c)
    act_free Work Passes r w g here f c = absurd f
    act_free Work (Jumps u) r w g here f c = absurd f
    act_free Work (Steps (Loads l d)) r w g here f c = absurd f
    act_free Work (Steps (Stores l v)) r w g here f c = absurd f
    act_free Work (Steps (Asks n)) r w g here f c = absurd f
    act_free (Read k) (Steps (Loads l d)) r w g here f c = λ v. on _ w (at + 1) (slice_set g d.index v) (omega arith)
        (one_read at r w (location_of l) (subst (λ (j : Class). Does is at (Read j)) (sym f) here) c)
    act_free (Read k) (Steps (Asks n)) r w g here f c = on r w (at + 1) g (omega arith) (passed at (at + 1) (Read k) r w here refl (λ d e. cc) c)
    act_free (Read k) (Steps (Stores l v)) r w g here f c = absurd f
    act_free (Read k) (Sets d v) r w g here f c = absurd f
    act_free (Read k) Passes r w g here f c = absurd f
    act_free (Read k) (Jumps u) r w g here f c = absurd f
    act_free (Write k) (Steps (Stores l v)) r w g here f c =
        let now = subst (λ (j : Class). Does is at (Write j)) (sym f) here in (
          λ i. clash at (class_of (location_of l)) now (c.reads (location_of l) i) free,
          on r _ (at + 1) g (omega arith) (one_write at r w (location_of l) now c),
        )
    act_free (Write k) (Steps (Loads l d)) r w g here f c = absurd f
    act_free (Write k) (Steps (Asks n)) r w g here f c = absurd f
    act_free (Write k) (Sets d v) r w g here f c = absurd f
    act_free (Write k) Passes r w g here f c = absurd f
    act_free (Write k) (Jumps u) r w g here f c = absurd f
    act_free (Branch t) Passes r w g here f c = on r w (at + 1) g (omega arith) (passed at (at + 1) (Branch t) r w here (inl refl) (λ d e. cc) c)
    act_free (Branch t) (Jumps u) r w g here f c = on r w (max u (at + 1)) g (omega arith)
        (passed at (max u (at + 1)) (Branch t) r w here (inr (ap (λ (v : ℕ). max v (at + 1)) f)) (λ d e. cc) c)
    act_free (Branch t) (Sets d v) r w g here f c = absurd f
    act_free (Branch t) (Steps s) r w g here f c = absurd f
    act_free Stop (Sets d v) r w g here f c = absurd f
    act_free Stop Passes r w g here f c = absurd f
    act_free Stop (Jumps u) r w g here f c = absurd f
    act_free Stop (Steps s) r w g here f c = absurd f

none_there : (words here skip : ℕ) (is : List Instr) (g : List ℕ) → slice_get is skip ≡ None → capsule_from words here skip is g ≡ Ends Finish
none_there words here skip [] g none = refl
none_there words here zero (j ∷ is) g none = cc
none_there words here (suc skip) (j ∷ is) g none = none_there words (here + 1) skip is g none

-- at a place, where it is so from later ones
at_place : (o : Option Instr) (words at : ℕ) (is : List Instr) (r w : List Where) (g : List ℕ) → slice_get is at ≡ o → HasNoConflict is
    → ((r' w' : List Where) (t : ℕ) (h : List ℕ) → at + 1 ≤ t → Covers is t r' w' → IsFreePast code_locations r' w' (capsule_from words 0 t is h))
    → Covers is at r w → IsFreePast code_locations r w (capsule_from words 0 at is g)
at_place None words at is r w g e free on c = rw (none_there words 0 at is g e) tt
at_place (Some i) words at is r w g e free on c =
    rw (at_instr words at is g i e)
    (act_free is free (λ t h. capsule_from words 0 t is h) at on (may i) (does words i g) r w g (i, e, refl) (acts_follow words i g) c)

-- from each place, where what was read and written so far is covered
free_from : (words n at : ℕ) (is : List Instr) (r w : List Where) (g : List ℕ) → HasNoConflict is → length is ≤ at + n → Covers is at r w
    → IsFreePast code_locations r w (capsule_from words 0 at is g)
free_from words zero at is r w g free enough c = rw (past_end words at is g (omega (arith, enough))) tt
free_from words (suc n) at is r w g free enough c =
    at_place (slice_get is at) words at is r w g refl free (λ r' w' t h less c'. free_from words n t is r' w' h free (omega (arith, enough, less)) c') c

pub no_conflict_from : (words : ℕ) (is : List Instr) (g : List ℕ) → HasNoConflict is → IsFreePast code_locations [] [] (capsule_from words 0 0 is g)
no_conflict_from words is g free = free_from words (length is) 0 is [] [] g free (omega arith) (record { reads = λ l i. absurd i; fresh = λ l. inr (Here 0) })

-- such a capsule has no conflict from any words, and it is idempotent
pub may_run_again : (words : ℕ) (is : List Instr) (m : Memory Where) → HasNoConflict is → MayRunAgain words is m
may_run_again words is m none =
    let free = paths_are_enough code_locations (capsule_of words is) m (no_conflict_from words is (replicate 64 0) none) in
    record { free = free; idempotent = is_idempotent code_locations (capsule_of words is) m free }
