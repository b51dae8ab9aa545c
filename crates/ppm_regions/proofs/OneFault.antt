-- A program is admitted, or has one fault that is told.
use Rattle.std.proofs.Common.{◌≡◌, ◌<◌, inl, inr, ℕ, zero, suc, List, [], ◌∷◌, get_or, refl, sym, ap₂, ◌∙◌, arith}
use Rattle.std.proofs.lemmas.Bool.{cases_lt}
use Rattle.ppm_tree.specs.Tree.{ProgramTree}
use Rattle.ppm_regions.specs.declared.region_error.RegionError.{RegionError}
use Rattle.ppm_regions.specs.declared.region_error.RegionError.TheVariants as error
use Rattle.ppm_regions.specs.Faults.{IsFault}
use Rattle.ppm_regions.specs.ErrorNumbers.{number_of, line_of}
use Rattle.ppm_regions.specs.Admission.{IsFirst, IsAdmitted, ComesFirst, ByNumber, ByLine}
use Rattle.ppm_regions.specs.Correct.{HaveOneFault}

-- the faults by their numbers
kinds : List (ℕ → RegionError)
kinds =
    (λ line. error.NoMemory) ∷ error.UnknownName ∷ error.TwiceNamed ∷ error.WrongKind ∷ error.WrongCount ∷ error.WriteToRef ∷ error.LentTwice
    ∷ error.HiddenRegion ∷ error.BadMain ∷ error.BadInput ∷ error.NoValue ∷ error.TwiceTarget ∷ error.OuterWritten ∷ error.OuterAssigned ∷ []

-- the fault with a number, in a line
fault_of : ℕ → ℕ → RegionError
fault_of n line = get_or kinds n (λ l. error.NoMemory) line

fault_again : (e : RegionError) → fault_of (number_of e) (line_of e) ≡ e
unfolding kinds fault_of
fault_again (error.UnknownName line) = refl
fault_again (error.TwiceNamed line) = refl
fault_again (error.WrongKind line) = refl
fault_again (error.WrongCount line) = refl
fault_again (error.WriteToRef line) = refl
fault_again (error.LentTwice line) = refl
fault_again (error.HiddenRegion line) = refl
fault_again (error.BadMain line) = refl
fault_again (error.BadInput line) = refl
fault_again (error.NoValue line) = refl
fault_again (error.TwiceTarget line) = refl
fault_again (error.OuterWritten line) = refl
fault_again (error.OuterAssigned line) = refl
fault_again error.NoMemory = refl

-- two that come before one another have one number and one line
same_place : (d e : RegionError) → ComesFirst d e → ComesFirst e d → (number_of d ≡ number_of e) × (line_of d ≡ line_of e)
same_place d e (ByNumber p) (ByNumber q) = absurd (omega (arith, p, q))
same_place d e (ByNumber p) (ByLine q r) = absurd (omega (arith, p, q))
same_place d e (ByLine p q) (ByNumber r) = absurd (omega (arith, p, r))
same_place d e (ByLine p q) (ByLine r s) = (p, omega (arith, q, s))

-- and so they are one
same_fault : (d e : RegionError) → ComesFirst d e → ComesFirst e d → d ≡ e
same_fault d e p q =
    let same = same_place d e p q in
    sym (fault_again d) ∙ ap₂ fault_of same.0 same.1 ∙ fault_again e

-- a tree of which no first fault is told
module _ (t : ProgramTree) (free : (e : RegionError) → ¬ IsFirst (IsFault t) e) where
  -- where there is no fault of a lesser number, there is none of this number in the lines up to one
  by_line : (n : ℕ) → ((o : RegionError) → number_of o < n → IsFault t o → ⊥) → (l : ℕ) (e : RegionError) → number_of e ≡ n → line_of e < l →
      IsFault t e → ⊥
  by_line n less zero e same below h = absurd (omega (arith, below))
  by_line n less (suc l) e same below h = free e (record {
    here = h;
    first = λ o k. elim (cases_lt (number_of o) n) [
      | inl lt ↦ absurd (less o lt k)
      | inr ge ↦ elim (cases_lt n (number_of o)) [
        | inl lt ↦ ByNumber (omega (arith, lt, same))
        | inr le ↦ elim (cases_lt (line_of o) (line_of e)) [
          | inl lt ↦ absurd (by_line n less l o (omega (arith, ge, le)) (omega (arith, lt, below)) k)
          | inr up ↦ ByLine (omega (arith, ge, le, same)) up
        ]
      ]
    ];
  })

  -- there is none of the numbers up to one
  by_number : (n : ℕ) (e : RegionError) → number_of e < n → IsFault t e → ⊥
  by_number zero e below h = absurd (omega (arith, below))
  by_number (suc n) e below h =
      elim (cases_lt (number_of e) n) [
        | inl lt ↦ by_number n e lt h
        | inr ge ↦ by_line n (by_number n) (suc (line_of e)) e (omega (arith, ge, below)) (omega arith) h
      ]

  -- there is no fault
  faultless : IsAdmitted t
  faultless = record { faultless = λ e h. by_number (suc (number_of e)) e (omega arith) h }

pub one_fault : HaveOneFault
one_fault t = record {
  fault = λ d e p q. same_fault d e (p.first e q.here) (q.first d p.here);
  either = λ e h a. a.faultless e h.here;
  none = λ free. faultless t free;
}
