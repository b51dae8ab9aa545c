-- The first of the conflicts of a code with puts, and of its exchanges after which array words are written.
use Rattle.std.proofs.Common.{◌≡◌, ◌⊎◌, ◌<◌, ◌≤◌, ℕ, true, List, map, Option, Some, None, MatchOption, inl, inr, sym, ap, ◌∙◌, subst, arith}
use Rattle.std.specs.Prelude.{slice_get}
use Rattle.std.proofs.lemmas.Option.{same_Some}
use Rattle.ppm_code.specs.declared.class.Class.{Class}
use Rattle.ppm_code.specs.declared.class.Class.TheVariants.{Array}
use Rattle.ppm_code.specs.declared.class.May.TheVariants.{Read}
use Rattle.ppm_code.specs.declared.instr.Instr.{Instr}
use Rattle.ppm_code.specs.Paths.{may, IsConflict}
use Rattle.ppm_code.specs.Strands.{instrs_of as plain_instrs}
use Rattle.ppm_filled.specs.Correct.{HasFilledPaths}
use Rattle.ppm_war.specs.declared.checked.Conflict.{Conflict}
use Rattle.ppm_war.specs.Conflicts.{HasNoConflictIn, IsFirstConflictOf}
use Rattle.ppm_gaps.specs.declared.gaps.CapsuleGap.{CapsuleGap}
use Rattle.ppm_gaps.specs.declared.racing.Flaw.{Flaw}
use Rattle.ppm_gaps.specs.declared.racing.Flaw.TheVariants.{Conflict as OfConflict, Gap as OfGap}
use Rattle.ppm_gaps.specs.Flaws.{IsFirstFlaw}
use Rattle.ppm_racy.specs.declared.code.RacyParts.{RacyParts}
use Rattle.ppm_racy.specs.declared.instr.RacyInstr.{RacyInstr}
use Rattle.ppm_racy.specs.declared.instr.RacyInstr.TheVariants.{Plain, Cam}
use Rattle.ppm_racy.specs.Acts.{plain_of}
use Rattle.ppm_racy.specs.Code.{instrs_of, plain_code}
use Rattle.ppm_racy.specs.Correct.{RacyPathsAreFilled, FaultsOfRacyPathsAreInvisible}
use Rattle.ppm_racy_gaps.specs.Conflicts.{IsRacyConflict, HasNoRacyConflictIn, IsFirstRacyConflictOf, is_exchange}
use Rattle.ppm_racy_gaps.specs.Correct.{HasNoFlaw, IsRestartable, RacyCodesWithoutFlawsAreRestartable}
use Rattle.ppm_racy_gaps.specs.Flaws.{IsFirstRacyFlaw}
use Rattle.ppm_racy_gaps.specs.Repeats.{IsRepeat, HasNoRepeat, AreWithoutRepeats, IsFirstRepeatOf}
use Rattle.ppm_racy_gaps.proofs.CodeLemmas.{same_numbered}
use Rattle.ppm_racy_gaps.proofs.ConflictLemmas.{of_plain, of_repeat, split, there}

-- what stands at an exchange reads nothing with a put in its place
not_plain : (is : List RacyInstr) (read write later : ℕ) (c : Class) → IsRepeat is read write → IsConflict (map plain_of is) read later c → ⊥
not_plain is read write later c h x = by h.instr h.there h.exchanges
  where
    by : (i : RacyInstr) → slice_get is read ≡ Some i → is_exchange i ≡ true → ⊥
    by (Plain i) e holds = cc
    by (Cam a b o n l) e holds =
        let same : plain_of (Cam a b o n l) ≡ x.exposed.reads.0 =
        same_Some (plain_of (Cam a b o n l)) x.exposed.reads.0 (sym (there is read (Cam a b o n l) e) ∙ x.exposed.reads.1) in
        let reads : may (plain_of (Cam a b o n l)) ≡ Read c = ap may same ∙ x.exposed.reads.2 in
        cc

module _ (code : RacyParts) where
  -- a conflict with puts in place of exchanges, and back
  pub plain_conflict : (number read write : ℕ) (c : Class) → IsConflict (plain_instrs (plain_code code) number) read write c
      → IsRacyConflict (instrs_of code number) read write c
  plain_conflict number read write c h =
      of_plain (instrs_of code number) read write c (subst (λ (is : List Instr). IsConflict is read write c) (same_numbered code number) h)

  as_plain : (number read write : ℕ) (c : Class) → IsConflict (map plain_of (instrs_of code number)) read write c
      → IsConflict (plain_instrs (plain_code code) number) read write c
  as_plain number read write c h = subst (λ (is : List Instr). IsConflict is read write c) (sym (same_numbered code number)) h

  -- a capsule that has none with puts, and no exchange after which array words are written, has none
  pub no_conflict_in : (number : ℕ) → HasNoConflictIn (plain_code code) number → HasNoRepeat (instrs_of code number) → HasNoRacyConflictIn code number
  no_conflict_in number free none read write c h = by (split (instrs_of code number) read write c h)
    where
      by : IsConflict (map plain_of (instrs_of code number)) read write c ⊎ (IsRepeat (instrs_of code number) read write × (c ≡ Array)) → ⊥
      by (inl x) = free read write c (as_plain number read write c x)
      by (inr x) = none read write x.0

  -- the first such exchange, where no conflict with puts comes before it
  pub repeat_is_first : (f : Conflict) → IsFirstRepeatOf code f → ((number : ℕ) → number < f.capsule → HasNoConflictIn (plain_code code) number)
      → ((read write : ℕ) (c : Class) → IsConflict (plain_instrs (plain_code code) f.capsule) read write c → f.read_at ≤ read)
      → IsFirstRacyConflictOf code f
  repeat_is_first f first earlier least = record {
    conflict = subst (λ (c : Class). IsRacyConflict (instrs_of code f.capsule) f.read_at f.write_at c) (sym first.first.class)
        (of_repeat (instrs_of code f.capsule) f.read_at f.write_at first.first.first.repeat);
    earlier = λ number less. no_conflict_in number (earlier number less) (first.earlier number less);
    least_read = λ read write c h. elim (split (instrs_of code f.capsule) read write c h) [
      | inl x ↦ least read write c (as_plain f.capsule read write c x)
      | inr x ↦ first.first.first.least_exchange read write x.0
    ];
    least_write = λ write c h. elim (split (instrs_of code f.capsule) f.read_at write c h) [
      | inl x ↦ absurd (not_plain (instrs_of code f.capsule) f.read_at f.write_at write c first.first.first.repeat x)
      | inr x ↦ first.first.first.least_write write x.0
    ];
  }

  -- the first conflict with puts, where no such exchange comes before it
  pub plain_is_first : (f : Conflict) → IsFirstConflictOf (plain_code code) f → ((number : ℕ) → number < f.capsule → HasNoRepeat (instrs_of code number))
      → ((exchange write : ℕ) → IsRepeat (instrs_of code f.capsule) exchange write → f.read_at ≤ exchange) → IsFirstRacyConflictOf code f
  plain_is_first f first earlier least =
      let is : IsConflict (map plain_of (instrs_of code f.capsule)) f.read_at f.write_at f.class =
      subst (λ (is : List Instr). IsConflict is f.read_at f.write_at f.class) (same_numbered code f.capsule) first.first.first.conflict in
      record {
        conflict = of_plain (instrs_of code f.capsule) f.read_at f.write_at f.class is;
        earlier = λ number less. no_conflict_in number (first.earlier number less) (earlier number less);
        least_read = λ read write c h. elim (split (instrs_of code f.capsule) read write c h) [
          | inl x ↦ first.first.first.least_read read write c (as_plain f.capsule read write c x)
          | inr x ↦ least read write x.0
        ];
        least_write = λ write c h. elim (split (instrs_of code f.capsule) f.read_at write c h) [
          | inl x ↦ first.first.first.least_write write c (as_plain f.capsule f.read_at write c x)
          | inr x ↦ absurd (not_plain (instrs_of code f.capsule) f.read_at write f.write_at f.class x.0 is)
        ];
      }

  -- ---- the first flaw

  pub repeat_before : (c f : Conflict) → IsFirstFlaw (plain_code code) (OfConflict c) → IsFirstRepeatOf code f → f.capsule < c.capsule
      → IsFirstRacyFlaw code (OfConflict f)
  repeat_before c f h first less = (
    repeat_is_first f first (λ number below. h.0.earlier number (omega (arith, below, less)))
        (λ read write d x. absurd (h.0.earlier f.capsule less read write d x)),
    λ number below. h.1 number (omega (arith, below, less)),
  )

  pub conflict_before : (c f : Conflict) → IsFirstFlaw (plain_code code) (OfConflict c) → IsFirstRepeatOf code f → c.capsule < f.capsule
      → IsFirstRacyFlaw code (OfConflict c)
  conflict_before c f h first less = (
    plain_is_first c h.0 (λ number below. first.earlier number (omega (arith, below, less)))
        (λ exchange write x. absurd (first.earlier c.capsule less exchange write x)),
    h.1,
  )

  pub repeat_in_it : (c f : Conflict) → IsFirstFlaw (plain_code code) (OfConflict c) → IsFirstRepeatOf code f → f.capsule ≡ c.capsule
      → f.read_at < c.read_at → IsFirstRacyFlaw code (OfConflict f)
  repeat_in_it c f h first same less = (
    repeat_is_first f first (λ number below. h.0.earlier number (omega (arith, below, same)))
        (λ read write d x. omega (
          arith,
          less,
          h.0.first.first.least_read read write d
              (subst (λ (n : ℕ). IsConflict (plain_instrs (plain_code code) n) read write d) same x),
        )),
    λ number below. h.1 number (omega (arith, below, same)),
  )

  pub conflict_in_it : (c f : Conflict) → IsFirstFlaw (plain_code code) (OfConflict c) → IsFirstRepeatOf code f → f.capsule ≡ c.capsule
      → c.read_at ≤ f.read_at → IsFirstRacyFlaw code (OfConflict c)
  conflict_in_it c f h first same less = (
    plain_is_first c h.0 (λ number below. first.earlier number (omega (arith, below, same)))
        (λ exchange write x. omega (
          arith,
          less,
          first.first.first.least_exchange exchange write
              (subst (λ (n : ℕ). IsRepeat (instrs_of code n) exchange write) (sym same) x),
        )),
    h.1,
  )

  pub gap_before : (g : CapsuleGap) (f : Conflict) → IsFirstFlaw (plain_code code) (OfGap g) → IsFirstRepeatOf code f → g.capsule < f.capsule
      → IsFirstRacyFlaw code (OfGap g)
  gap_before g f h first less =
      (h.0, λ number most. no_conflict_in number (h.1 number most) (first.earlier number (omega (arith, most, less))))

  pub repeat_not_after : (g : CapsuleGap) (f : Conflict) → IsFirstFlaw (plain_code code) (OfGap g) → IsFirstRepeatOf code f → f.capsule ≤ g.capsule
      → IsFirstRacyFlaw code (OfConflict f)
  repeat_not_after g f h first most = (
    repeat_is_first f first (λ number below. h.1 number (omega (arith, below, most)))
        (λ read write d x. absurd (h.1 f.capsule most read write d x)),
    λ number below. h.0.earlier number (omega (arith, below, most)),
  )

  pub alone : (f : Flaw) → IsFirstFlaw (plain_code code) f → AreWithoutRepeats code → IsFirstRacyFlaw code f
  alone (OfConflict c) h none =
      (plain_is_first c h.0 (λ number below. none number) (λ exchange write x. absurd (none c.capsule exchange write x)), h.1)
  alone (OfGap g) h none = (h.0, λ number most. no_conflict_in number (h.1 number most) (none number))

  pub repeat_alone : (f : Conflict) → HasFilledPaths (plain_code code) → IsFirstRepeatOf code f → IsFirstRacyFlaw code (OfConflict f)
  repeat_alone f h first = (
    repeat_is_first f first (λ number below. h.free number) (λ read write d x. absurd (h.free f.capsule read write d x)),
    λ number below. h.filled number,
  )

  pub no_flaw : HasFilledPaths (plain_code code) → AreWithoutRepeats code → HasNoFlaw code
  no_flaw h none = record { free = λ number. no_conflict_in number (h.free number) (none number); filled = h.filled }

-- a code without flaws has filled paths with puts in place of its exchanges
pub filled_paths : (code : RacyParts) → HasNoFlaw code → HasFilledPaths (plain_code code)
filled_paths code h = record {
  free = λ number read write c x. h.free number read write c (plain_conflict code number read write c x);
  filled = h.filled;
}

pub restartable : RacyPathsAreFilled → FaultsOfRacyPathsAreInvisible → RacyCodesWithoutFlawsAreRestartable
restartable fills hides code h =
    let paths = filled_paths code h in
    record {
      paths = h;
      ordered = λ words place. (fills code paths words place).0;
      filled = λ words place. (fills code paths words place).1;
      invisible = λ words root arrays stands. hides code paths words root arrays stands;
    }

pub restartable_or : (code : RacyParts) (found : Option Flaw) → RacyCodesWithoutFlawsAreRestartable
    → MatchOption found (HasNoFlaw code) (IsFirstRacyFlaw code) → MatchOption found (IsRestartable code) (IsFirstRacyFlaw code)
restartable_or code None law h = law code h
restartable_or code (Some f) law h = h
