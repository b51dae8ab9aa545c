-- Of lists of turns: what holds of each, how many are of a processor, and what is told along them.
use Rattle.std.proofs.Common.{◌≡◌, ◌≤◌, ◌+◌, ◌==◌, if◌then◌else◌, ℕ, true, List, [], ◌∷◌, ◌++◌, length, refl, ap, ◌∙◌, arith, length-append}
use Rattle.std.specs.List.{AllByRecursion}
use Rattle.ppm_cells.specs.declared.shape.Shape.{Shape}
use Rattle.ppm_code.specs.declared.code.CodeParts.{CodeParts}
use Rattle.ppm_step.specs.State.{State, after, along, work_of}
use Rattle.ppm_step.specs.declared.turn.Turn.{Turn}
use Rattle.ppm_choice.proofs.TurnsLemmas.{tell_on}
use Rattle.ppm_tickets.specs.Words.{has}
use Rattle.ppm_runs.specs.Work.{work_in}
use Rattle.ppm_progress.specs.Soon.{turns_of}

pub both : {X : Type 0} (P : X → Type 0) (first more : List X) → AllByRecursion P first → AllByRecursion P more → AllByRecursion P (first ++ more)
both P [] more all also = also
both P (x ∷ first) more all also = (all.0, both P first more all.1 also)

pub front : {X : Type 0} (P : X → Type 0) (first more : List X) → AllByRecursion P (first ++ more) → AllByRecursion P first
front P [] more all = tt
front P (x ∷ first) more all = (all.0, front P first more all.1)

pub back : {X : Type 0} (P : X → Type 0) (first more : List X) → AllByRecursion P (first ++ more) → AllByRecursion P more
back P [] more all = all
back P (x ∷ first) more all = back P first more all.1

-- a list that has a number is not empty
pub has_some : (l : List ℕ) (c : ℕ) → has l c ≡ true → 1 ≤ length l
has_some [] c e = absurd (cc)
has_some (x ∷ l) c e = omega arith

-- turns of a processor in two lists
pub of_both : (c : ℕ) (first more : List Turn) → turns_of c (first ++ more) ≡ turns_of c first + turns_of c more
of_both c [] more = let none : turns_of c [] ≡ 0 = refl in omega (arith, none)
of_both c (turn ∷ first) more =
    let rest = of_both c first more in
    let here : ℕ = if turn.processor == c then 1 else 0 in
    let whole : turns_of c ((turn ∷ first) ++ more) ≡ here + turns_of c (first ++ more) = refl in
    let part : turns_of c (turn ∷ first) ≡ here + turns_of c first = refl in
    omega (arith, rest, whole, part)

-- the work of two lists is that of the one and then of the other
pub work_both : (s : Shape) (code : CodeParts) (state : State) (first more : List Turn)
    → work_in s code state (first ++ more) ≡ work_in s code state first + work_in s code (after s code state first) more
work_both s code state first more =
    ap length (tell_on s code work_of state first more) ∙ length-append (along s code work_of state first) (along s code work_of (after s code state first) more)
