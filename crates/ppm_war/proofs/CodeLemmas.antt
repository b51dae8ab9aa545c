-- The capsules of a code by their numbers.
use Rattle.std.proofs.Common.{◌≡◌, ◌<◌, ◌≤◌, ℕ, ◌+◌, Bool, true, false, List, [], length, refl, sym, ap, ◌∙◌, subst, arith, Some, nat_lt, get_or}
use Rattle.std.specs.Prelude.{slice_get}
use Rattle.std.proofs.lemmas.Bool.{ltb-true, ltb-false}
use Rattle.std.proofs.lemmas.Option.{slice_get_past, slice_get_read}
use Rattle.ppm_code.specs.declared.code.Capsule.{Capsule}
use Rattle.ppm_code.specs.declared.code.CodeParts.{CodeParts}
use Rattle.ppm_code.specs.declared.instr.Instr.{Instr}
use Rattle.ppm_code.specs.Paths.{HasNoConflict}
use Rattle.ppm_code.specs.Strands.{instrs_in, instrs_of}
use Rattle.ppm_war.specs.Conflicts.{HasNoConflictIn, IsFree}

-- the instructions of a capsule that is there
pub instrs_there : (code : CodeParts) (number : ℕ) (c : Capsule) → slice_get code.capsules number ≡ Some c → c.instrs ≡ instrs_of code number
instrs_there code number c one = sym (ap instrs_in one)

-- no instructions, no conflict
nothing_there : HasNoConflict []
nothing_there read write c x = let e = x.exposed.reads.1 in cc

-- a capsule that is not there has none
pub past_last : (code : CodeParts) (number : ℕ) → length code.capsules ≤ number → HasNoConflictIn code number
past_last code number past =
    let none : instrs_of code number ≡ [] = ap instrs_in (slice_get_past code.capsules number past) in
    subst (λ (is : List Instr). HasNoConflict is) (sym none) nothing_there

-- what holds below n and at n holds below n + 1
pub and_here : (P : ℕ → Type 0) (n : ℕ) → ((k : ℕ) → k < n → P k) → P n → (k : ℕ) → k < n + 1 → P k
and_here P n below here k less = by (nat_lt k n) refl
  where
    by : (b : Bool) → nat_lt k n ≡ b → P k
    by true e = below k (ltb-true k n e)
    by false e = let same : n ≡ k = omega (arith, less, ltb-false k n e) in subst P same here

-- each capsule that is there has none, so none has
pub all_free : (code : CodeParts) (n : ℕ) → length code.capsules ≤ n → ((k : ℕ) → k < n → HasNoConflictIn code k) → IsFree code
all_free code n past below number = by (nat_lt number n) refl
  where
    by : (b : Bool) → nat_lt number n ≡ b → HasNoConflictIn code number
    by true e = below number (ltb-true number n e)
    by false e = past_last code number (omega (arith, past, ltb-false number n e))

-- the instructions of the capsule that was read at its number
pub instrs_read : (code parts : CodeParts) (all : List Capsule) (number : ℕ) (c : Capsule) (is : List Instr) → parts ≡ code → all ≡ parts.capsules
    → number < length code.capsules → c ≡ get_or all number c → is ≡ c.instrs → is ≡ instrs_of code number
instrs_read code parts all number c is same whole less read has =
    let one = slice_get_read code.capsules (length code.capsules) number c refl less
    (subst (λ (cs : List Capsule). c ≡ get_or cs number c) (whole ∙ ap (λ (p : CodeParts). p.capsules) same) read) in
    has ∙ instrs_there code number c one
