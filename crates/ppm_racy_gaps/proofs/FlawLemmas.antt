-- A code with exchanges has one first flaw, or none.
use Rattle.std.proofs.Common.{◌≡◌, ◌<◌, ◌≤◌, ℕ, zero, suc, List, refl, sym, ap, ◌∙◌, subst, arith, ◌⊎◌, inl, inr}
use Rattle.std.proofs.lemmas.Bool.{cases_lt}
use Rattle.std.proofs.lemmas.Option.{same_Some}
use Rattle.ppm_code.specs.declared.class.Class.{Class}
use Rattle.ppm_war.specs.declared.checked.Conflict.{Conflict}
use Rattle.ppm_gaps.specs.declared.gaps.CapsuleGap.{CapsuleGap}
use Rattle.ppm_gaps.specs.declared.racing.Flaw.{Flaw}
use Rattle.ppm_gaps.specs.declared.racing.Flaw.TheVariants.{Conflict as OfConflict, Gap as OfGap}
use Rattle.ppm_gaps.specs.Correct.{FlawsTellCodes}
use Rattle.ppm_gaps.specs.Flaws.{IsFirstFlaw}
use Rattle.ppm_gaps.specs.Gaps.{IsFilledIn}
use Rattle.ppm_gaps.proofs.FlawLemmas.{gap_shows}
use Rattle.ppm_gaps.proofs.LeastLemmas.{without_least, least_of, no_gap_in}
use Rattle.ppm_code.specs.Strands.{instrs_of as plain_instrs}
use Rattle.ppm_racy.specs.declared.code.RacyParts.{RacyParts}
use Rattle.ppm_racy.specs.declared.instr.RacyInstr.{RacyInstr}
use Rattle.ppm_racy.specs.Code.{instrs_of, plain_code}
use Rattle.ppm_racy_gaps.specs.Conflicts.{IsRacyConflict, HasNoRacyConflictIn, IsFirstRacyConflictOf, Reads}
use Rattle.ppm_racy_gaps.specs.Correct.{HasNoFlaw, RacyFlawsTellCodes}
use Rattle.ppm_racy_gaps.specs.Flaws.{IsFirstRacyFlaw}
use Rattle.ppm_racy_gaps.proofs.ConflictLemmas.{one_read}
use Rattle.ppm_racy_gaps.proofs.FirstLemmas.{plain_conflict}

-- conflicts of one read are of one class
one_class : (is : List RacyInstr) (read write later : ℕ) (c d : Class) → IsRacyConflict is read write c → IsRacyConflict is read later d → c ≡ d
one_class is read write later c d f g =
    let same : f.reads.0 ≡ g.reads.0 = same_Some f.reads.0 g.reads.0 (sym f.reads.1 ∙ g.reads.1) in
    one_read g.reads.0 c d (subst (λ (i : RacyInstr). Reads i c) same f.reads.2) g.reads.2

module _ (code : RacyParts) where
  -- two first conflicts are one
  one_conflict_in : (c d : Conflict) → IsFirstRacyConflictOf code c → IsFirstRacyConflictOf code d → c.capsule ≡ d.capsule → c ≡ d
  one_conflict_in c d f g capsule =
      let is : List RacyInstr = instrs_of code d.capsule in
      let of_c : IsRacyConflict is c.read_at c.write_at c.class =
      subst (λ (n : ℕ). IsRacyConflict (instrs_of code n) c.read_at c.write_at c.class) capsule f.conflict in
      let of_d : IsRacyConflict (instrs_of code c.capsule) d.read_at d.write_at d.class =
      subst (λ (n : ℕ). IsRacyConflict (instrs_of code n) d.read_at d.write_at d.class) (sym capsule) g.conflict in
      let read : c.read_at ≡ d.read_at =
      omega (arith, f.least_read d.read_at d.write_at d.class of_d, g.least_read c.read_at c.write_at c.class of_c) in
      let c_reads : IsRacyConflict is d.read_at c.write_at c.class = subst (λ (n : ℕ). IsRacyConflict is n c.write_at c.class) read of_c in
      let d_reads : IsRacyConflict (instrs_of code c.capsule) c.read_at d.write_at d.class =
      subst (λ (n : ℕ). IsRacyConflict (instrs_of code c.capsule) n d.write_at d.class) (sym read) of_d in
      let write : c.write_at ≡ d.write_at =
      omega (arith, f.least_write d.write_at d.class d_reads, g.least_write c.write_at c.class c_reads) in
      let class : c.class ≡ d.class = one_class is d.read_at c.write_at d.write_at c.class d.class c_reads g.conflict in
      λ i. record { capsule = capsule i; read_at = read i; write_at = write i; class = class i }

  shows : (c : Conflict) → IsFirstRacyConflictOf code c → HasNoRacyConflictIn code c.capsule → ⊥
  shows c f none = none c.read_at c.write_at c.class f.conflict

  one_conflict : (c d : Conflict) → IsFirstRacyConflictOf code c → IsFirstRacyConflictOf code d → c ≡ d
  one_conflict c d f g = elim (cases_lt c.capsule d.capsule) [
    | inl less ↦ absurd (shows c f (g.earlier c.capsule less))
    | inr more ↦ elim (cases_lt d.capsule c.capsule) [
      | inl less ↦ absurd (shows d g (f.earlier d.capsule less))
      | inr most ↦ one_conflict_in c d f g (omega (arith, more, most))
    ]
  ]

  -- a first conflict and a first gap are not both the first flaw
  not_both : (c : Conflict) (g : CapsuleGap) → IsFirstRacyFlaw code (OfConflict c) → IsFirstRacyFlaw code (OfGap g) → ⊥
  not_both c g f k = elim (cases_lt g.capsule c.capsule) [
    | inl less ↦ gap_shows (plain_code code) g k.0 (f.1 g.capsule less)
    | inr more ↦ shows c f.0 (k.1 c.capsule (omega (arith, more)))
  ]

  -- a first gap is the first flaw with puts in place of exchanges
  with_puts : (g : CapsuleGap) → IsFirstRacyFlaw code (OfGap g) → IsFirstFlaw (plain_code code) (OfGap g)
  with_puts g f = (f.0, λ number most read write c x. f.1 number most read write c (plain_conflict code number read write c x))

  one_flaw : FlawsTellCodes → (f g : Flaw) → IsFirstRacyFlaw code f → IsFirstRacyFlaw code g → f ≡ g
  one_flaw law (OfConflict c) (OfConflict d) f k = ap OfConflict (one_conflict c d f.0 k.0)
  one_flaw law (OfConflict c) (OfGap h) f k = absurd (not_both c h f k)
  one_flaw law (OfGap g) (OfConflict d) f k = absurd (not_both d g k f)
  one_flaw law (OfGap g) (OfGap h) f k = law.one (plain_code code) (OfGap g) (OfGap h) (with_puts g f) (with_puts h k)

  -- a code without flaws has no first one
  no_first_flaw : (f : Flaw) → HasNoFlaw code → IsFirstRacyFlaw code f → ⊥
  no_first_flaw (OfConflict c) none f = shows c f.0 (none.free c.capsule)
  no_first_flaw (OfGap g) none f = gap_shows (plain_code code) g f.0 (none.filled g.capsule)

  -- a code without a first flaw has none
  module _ (free : (f : Flaw) → IsFirstRacyFlaw code f → ⊥) where
    -- the capsule with a number has no conflict and is filled
    pub record IsFine (n : ℕ) : Type 0 where
      pub no_conflict : HasNoRacyConflictIn code n
      pub filled : IsFilledIn (plain_code code) n

    module _ (n : ℕ) (earlier : (m : ℕ) → m < n → IsFine m) where
      abbrev WritesAt : (read write : ℕ) → Type 0
      WritesAt read write = (c : Class) × IsRacyConflict (instrs_of code n) read write c

      abbrev ReadsAt : (read : ℕ) → Type 0
      ReadsAt read = (write : ℕ) × WritesAt read write

      by_write : (read : ℕ) → ((m : ℕ) → m < read → ReadsAt m → ⊥) → (write : ℕ) → ((m : ℕ) → m < write → WritesAt read m → ⊥)
          → WritesAt read write → ⊥
      by_write read no_read write no_write (c, h) = free (OfConflict (record { capsule = n; read_at = read; write_at = write; class = c })) (
        record {
          conflict = h;
          earlier = λ m less. (earlier m less).no_conflict;
          least_read = λ r w d k. least_of ReadsAt read no_read r (w, (d, k));
          least_write = λ w d k. least_of (WritesAt read) write no_write w (d, k);
        },
        λ m less. (earlier m less).filled,
      )

      by_read : (read : ℕ) → ((m : ℕ) → m < read → ReadsAt m → ⊥) → ReadsAt read → ⊥
      by_read read no_read (write, h) = without_least (WritesAt read) (by_write read no_read) write h

      no_conflict_here : HasNoRacyConflictIn code n
      no_conflict_here read write c h = without_least ReadsAt by_read read (write, (c, h))

      no_conflict_up_to : (m : ℕ) → m ≤ n → HasNoRacyConflictIn code m
      no_conflict_up_to m most = elim (cases_lt m n) [
        | inl less ↦ (earlier m less).no_conflict
        | inr more ↦ let same : n ≡ m = omega (arith, most, more) in subst (λ (k : ℕ). HasNoRacyConflictIn code k) same no_conflict_here
      ]

      filled_here : IsFilledIn (plain_code code) n
      filled_here = no_gap_in (plain_instrs (plain_code code) n) (λ g first. free (OfGap (record { capsule = n; gap = g })) (
        record { earlier = λ m less. (earlier m less).filled; first = record { capsule = refl; first = first } },
        no_conflict_up_to,
      ))

      fine_here : IsFine n
      fine_here = record { no_conflict = no_conflict_here; filled = filled_here }

    fine_below : (k n : ℕ) → n < k → IsFine n
    fine_below zero n less = absurd (omega (arith, less))
    fine_below (suc k) n less = fine_here n (λ m is. fine_below k m (omega (arith, less, is)))

    fine : (n : ℕ) → IsFine n
    fine n = fine_below (suc n) n (omega arith)

    no_flaw : HasNoFlaw code
    no_flaw = record { free = λ n. (fine n).no_conflict; filled = λ n. (fine n).filled }

pub flaws_tell_codes : FlawsTellCodes → RacyFlawsTellCodes
flaws_tell_codes law = record { one = λ code. one_flaw code law; excludes = λ code f. no_first_flaw code f; covers = no_flaw }
