-- The capsules of a code with exchanges by their numbers.
use Rattle.std.proofs.Common.{◌≡◌, ◌<◌, ◌≤◌, ℕ, Bool, true, false, List, [], length, map, Option, Some, None, refl, sym, ap, ◌∙◌, subst, arith, nat_lt, get_or}
use Rattle.std.specs.Prelude.{slice_get}
use Rattle.std.specs.Option.{option_map}
use Rattle.std.proofs.lemmas.Bool.{ltb-true, ltb-false}
use Rattle.std.proofs.lemmas.Option.{slice_get_past, slice_get_read, slice_get-map}
use Rattle.ppm_code.specs.Strands.{instrs_of as plain_instrs, instrs_in as plain_instrs_in}
use Rattle.ppm_racy.specs.declared.code.RacyCapsule.{RacyCapsule}
use Rattle.ppm_racy.specs.declared.code.RacyParts.{RacyParts}
use Rattle.ppm_racy.specs.declared.instr.RacyInstr.{RacyInstr}
use Rattle.ppm_racy.specs.Acts.{plain_of}
use Rattle.ppm_racy.specs.Code.{instrs_of, instrs_in, plain_capsule, plain_code}
use Rattle.ppm_racy_gaps.specs.Repeats.{AreWithoutRepeats, HasNoRepeat}

-- its instructions, with a put in place of each exchange
numbered : (found : Option RacyCapsule) → plain_instrs_in (option_map plain_capsule found) ≡ map plain_of (instrs_in found)
numbered None = refl
numbered (Some c) = refl

pub same_numbered : (code : RacyParts) (number : ℕ) → plain_instrs (plain_code code) number ≡ map plain_of (instrs_of code number)
same_numbered code number = ap plain_instrs_in (slice_get-map plain_capsule code.capsules number) ∙ numbered (slice_get code.capsules number)

-- no instructions, no exchange
nothing_there : HasNoRepeat []
nothing_there exchange write x = let e = x.there in cc

past_last : (code : RacyParts) (number : ℕ) → length code.capsules ≤ number → HasNoRepeat (instrs_of code number)
past_last code number past =
    let none : instrs_of code number ≡ [] = ap instrs_in (slice_get_past code.capsules number past) in
    subst (λ (is : List RacyInstr). HasNoRepeat is) (sym none) nothing_there

-- each capsule that is there has none, so none has
pub all_without : (code : RacyParts) (n : ℕ) → length code.capsules ≤ n → ((k : ℕ) → k < n → HasNoRepeat (instrs_of code k))
    → AreWithoutRepeats code
all_without code n past below number = by (nat_lt number n) refl
  where
    by : (b : Bool) → nat_lt number n ≡ b → HasNoRepeat (instrs_of code number)
    by true e = below number (ltb-true number n e)
    by false e = past_last code number (omega (arith, past, ltb-false number n e))

-- the instructions of the capsule that was read at its number
pub racy_instrs_read : (code parts : RacyParts) (all : List RacyCapsule) (number : ℕ) (c : RacyCapsule) (is : List RacyInstr) → parts ≡ code
    → all ≡ parts.capsules → number < length code.capsules → c ≡ get_or all number c → is ≡ c.instrs → is ≡ instrs_of code number
racy_instrs_read code parts all number c is same whole less read has =
    let one = slice_get_read code.capsules (length code.capsules) number c refl less
    (subst (λ (cs : List RacyCapsule). c ≡ get_or cs number c) (whole ∙ ap (λ (p : RacyParts). p.capsules) same) read) in
    has ∙ sym (ap instrs_in one)
