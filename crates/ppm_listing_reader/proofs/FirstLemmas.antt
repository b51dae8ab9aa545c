-- The first broken rule of lines.
use Rattle.std.proofs.Common.{◌≡◌, ◌∙◌, ◌⊎◌, inl, inr, ℕ, zero, suc, ◌+◌, ◌-◌, ◌<◌, ◌≤◌, true, false, IsTrue, List, [], ◌∷◌, length, get_or}
use Rattle.std.proofs.Common.{take, drop, take_all, le_refl, Option, Some, None, refl, sym, ap, subst, arith}
use Rattle.std.proofs.lemmas.Bool.{both_ways}
use Rattle.ppm_code.specs.declared.code.CodeParts.{CodeParts}
use Rattle.ppm_listing_reader.specs.declared.listing_error.Fault.{Fault}
use Rattle.ppm_listing_reader.specs.declared.listing_error.Fault.TheVariants.{NoSuchForm, OutOfRange, NotForward, NoEnd, WrongRoom, NotThere}
use Rattle.ppm_listing_reader.specs.declared.part.Part.{Part}
use Rattle.ppm_listing_reader.specs.declared.part.Part.TheVariants as part
use Rattle.ppm_listing_reader.specs.declared.place.Place.{Place}
use Rattle.ppm_listing_reader.specs.declared.place.Place.TheVariants.{AtVersion, AtRoot, AtProcedure, Within}
use Rattle.ppm_listing_reader.specs.ErrorNumbers.{fault_number}
use Rattle.ppm_listing_reader.specs.Places.{next, counted}
use Rattle.ppm_listing_reader.specs.Faults.{breaks, ends_early, BreaksAt, KeepsRules, IsLeastRule, IsFirstBreak}

-- a place counts one more at most
pub counted-next : (place : Place) (l : Option Part) → counted (next place l) ≤ counted place + 1
counted-next AtVersion None = omega arith
counted-next AtVersion (Some part.Version) = omega arith
counted-next AtVersion (Some (part.Root q xs)) = omega arith
counted-next AtVersion (Some (part.Procedure i s k)) = omega arith
counted-next AtVersion (Some (part.Capsule c p)) = omega arith
counted-next AtVersion (Some (part.Instr i)) = omega arith
counted-next AtRoot None = omega arith
counted-next AtRoot (Some part.Version) = omega arith
counted-next AtRoot (Some (part.Root q xs)) = omega arith
counted-next AtRoot (Some (part.Procedure i s k)) = omega arith
counted-next AtRoot (Some (part.Capsule c p)) = omega arith
counted-next AtRoot (Some (part.Instr i)) = omega arith
counted-next (AtProcedure n) None = omega arith
counted-next (AtProcedure n) (Some part.Version) = omega arith
counted-next (AtProcedure n) (Some (part.Root q xs)) = omega arith
counted-next (AtProcedure n) (Some (part.Procedure i s k)) = omega arith
counted-next (AtProcedure n) (Some (part.Capsule c p)) = omega arith
counted-next (AtProcedure n) (Some (part.Instr i)) = omega arith
counted-next (Within c p at room) None = omega arith
counted-next (Within c p at room) (Some part.Version) = omega arith
counted-next (Within c p at room) (Some (part.Root q xs)) = omega arith
counted-next (Within c p at room) (Some (part.Procedure i s k)) = omega arith
counted-next (Within c p at room) (Some (part.Capsule d q)) = omega arith
counted-next (Within c p at room) (Some (part.Instr i)) = omega arith

module _ (code : CodeParts) where
  -- the first lines break no rule, and the others stand at a place: what is broken is broken after them
  pub record IsPassed (place : Place) (ls : List (Option Part)) (here : Place) (left : List (Option Part)) (number : ℕ) : Type 0 where
    pub behind : (fault : Fault) (later : ℕ) → BreaksAt code fault place ls later → (n : ℕ) × (later ≡ number + n) × BreaksAt code fault here left n
    pub ahead : (fault : Fault) (n : ℕ) → BreaksAt code fault here left n → BreaksAt code fault place ls (number + n)

  pub passed_none : (place : Place) (ls : List (Option Part)) → IsPassed place ls place ls 0
  passed_none place ls = record { behind = λ fault later h. (later, omega arith, h); ahead = λ fault n h. subst (BreaksAt code fault place ls) (omega arith) h }

  -- one line more that breaks none
  pub passed_more : (place here : Place) (ls left : List (Option Part)) (l : Option Part) (number : ℕ)
      → IsPassed place ls here (l ∷ left) number → ((fault : Fault) → IsTrue (breaks code fault here l) → ⊥)
      → IsPassed place ls (next here l) left (number + 1)
  passed_more place here ls left l number passed none = record {
    behind = λ fault later h. go fault later (passed.behind fault later h);
    ahead = λ fault n h. subst (BreaksAt code fault place ls) (omega arith) (passed.ahead fault (suc n) h);
  }
    where
      go : (fault : Fault) (later : ℕ) → ((n : ℕ) × (later ≡ number + n) × BreaksAt code fault here (l ∷ left) n)
          → (n : ℕ) × (later ≡ number + 1 + n) × BreaksAt code fault (next here l) left n
      go fault later (zero, e, h) = absurd (none fault h)
      go fault later (suc n, e, h) = (n, omega (arith, e), h)

  -- the next line breaks one
  pub breaks_here : (place here : Place) (ls left : List (Option Part)) (l : Option Part) (number : ℕ) (fault : Fault)
      → IsPassed place ls here (l ∷ left) number → number ≤ length ls → IsTrue (breaks code fault here l)
      → ((other : Fault) → IsTrue (breaks code other here l) → fault_number fault ≤ fault_number other)
      → IsFirstBreak code place ls fault number
  breaks_here place here ls left l number fault passed within is least = record {
    there = subst (BreaksAt code fault place ls) (omega arith) (passed.ahead fault 0 is);
    first = λ other later h. go other later (passed.behind other later h);
    within = within;
  }
    where
      go : (other : Fault) (later : ℕ) → ((n : ℕ) × (later ≡ number + n) × BreaksAt code other here (l ∷ left) n)
          → (number < later) ⊎ ((number ≡ later) × (fault_number fault ≤ fault_number other))
      go other later (zero, e, h) = inr (omega (arith, e), least other h)
      go other later (suc n, e, h) = inl (omega (arith, e))

  -- the text ends where a capsule goes on
  pub ends_within : (place here : Place) (ls : List (Option Part)) (number : ℕ) → IsPassed place ls here [] number
      → ((fault : Fault) → IsTrue (ends_early fault here) → ⊥) → KeepsRules code place ls
  ends_within place here ls number passed none fault later h = go (passed.behind fault later h)
    where
      go : ((n : ℕ) × (later ≡ number + n) × BreaksAt code fault here [] n) → ⊥
      go (zero, e, h) = none fault h
      go (suc n, e, h) = h

  -- it ends before
  pub ends_before : (place here : Place) (ls : List (Option Part)) (number : ℕ) → IsPassed place ls here [] number → number ≤ length ls
      → IsTrue (ends_early NotThere here) → ((fault : Fault) → IsTrue (ends_early fault here) → fault ≡ NotThere)
      → IsFirstBreak code place ls NotThere number
  ends_before place here ls number passed within is only = record {
    there = subst (BreaksAt code NotThere place ls) (omega arith) (passed.ahead NotThere 0 is);
    first = λ other later h. go other later (passed.behind other later h);
    within = within;
  }
    where
      go : (other : Fault) (later : ℕ) → ((n : ℕ) × (later ≡ number + n) × BreaksAt code other here [] n)
          → (number < later) ⊎ ((number ≡ later) × (fault_number NotThere ≤ fault_number other))
      go other later (zero, e, h) = inr (omega (arith, e), omega (arith, ap fault_number (only other h)))
      go other later (suc n, e, h) = absurd h

  -- a loop over lines, by the first and those after it
  pub passed_step : (place here : Place) (ls left : List (Option Part)) (number : ℕ) (l d : Option Part) → 1 ≤ length left → l ≡ get_or left 0 d
      → IsPassed place ls here left number → ((fault : Fault) → IsTrue (breaks code fault here l) → ⊥)
      → IsPassed place ls (next here l) (take (length left - 1) (drop 1 left)) (number + 1)
  passed_step place here ls [] number l d some is passed none = absurd (omega (arith, some))
  passed_step place here ls (k ∷ left) number l d some is passed none =
      let one : length (k ∷ left) - 1 ≡ length left = omega arith in
      let rest : take (length (k ∷ left) - 1) left ≡ left = ap (λ k. take k left) one ∙ take_all (length left) left (le_refl (length left)) in
      subst (λ ls'. IsPassed place ls (next here l) ls' (number + 1)) (sym rest)
      (passed_more place here ls left l number (subst (λ x. IsPassed place ls here (x ∷ left) number) (sym is) passed) none)

  pub breaks_first : (place here : Place) (ls left : List (Option Part)) (number : ℕ) (l d : Option Part) (fault : Fault) → 1 ≤ length left
      → l ≡ get_or left 0 d → IsPassed place ls here left number → number ≤ length ls → IsLeastRule code here l (Some fault)
      → IsFirstBreak code place ls fault number
  breaks_first place here ls [] number l d fault some is passed within rule = absurd (omega (arith, some))
  breaks_first place here ls (k ∷ left) number l d fault some is passed within rule =
      breaks_here place here ls left l number fault (subst (λ x. IsPassed place ls here (x ∷ left) number) (sym is) passed) within rule.is rule.least

  -- the text ends where a capsule goes on, or before
  only_not_there : (here : Place) (fault : Fault) → IsTrue (ends_early fault here) → fault ≡ NotThere
  only_not_there here NotThere h = refl
  only_not_there here NoSuchForm h = absurd (both_ways false refl h)
  only_not_there here OutOfRange h = absurd (both_ways false refl h)
  only_not_there here NotForward h = absurd (both_ways false refl h)
  only_not_there here NoEnd h = absurd (both_ways false refl h)
  only_not_there here WrongRoom h = absurd (both_ways false refl h)

  pub ends_now : (place here : Place) (ls left : List (Option Part)) (number : ℕ) → length left < 1 → IsPassed place ls here left number → number ≤ length ls
      → ends_early NotThere here ≡ true → IsFirstBreak code place ls NotThere number
  ends_now place here ls [] number some passed within early = ends_before place here ls number passed within early (only_not_there here)
  ends_now place here ls (l ∷ left) number some passed within early = absurd (omega (arith, some))

  pub ends_well : (place here : Place) (ls left : List (Option Part)) (number : ℕ) → length left < 1 → IsPassed place ls here left number
      → ends_early NotThere here ≡ false → KeepsRules code place ls
  ends_well place here ls [] number some passed early =
      ends_within place here ls number passed (λ fault h. both_ways (ends_early NotThere here) early
      (subst (λ f. IsTrue (ends_early f here)) (only_not_there here fault h) h))
  ends_well place here ls (l ∷ left) number some passed early = absurd (omega (arith, some))
