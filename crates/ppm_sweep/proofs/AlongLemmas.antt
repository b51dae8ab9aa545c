-- The schedules along what is due.
use Rattle.std.proofs.Common.{◌≡◌, ◌∙◌, inl, inr, refl, sym, ap, subst, arith, ℕ, ◌+◌, ◌≤◌, ◌&&◌, nat_lt, nat_le, Bool, true, false, if◌then◌else◌, List, [], ◌∷◌, ◌++◌, Some, None}
use Rattle.std.specs.List.{AllByRecursion}
use Rattle.std.proofs.lemmas.Bool.{le-ltb}
use Rattle.ppm_cells.specs.declared.shape.Shape.{Shape}
use Rattle.ppm_code.specs.declared.code.CodeParts.{CodeParts}
use Rattle.ppm_core.specs.Situation.{Situation, finish_in}
use Rattle.ppm_choice.specs.Course.{Due, Listed, InRound, act_of, processor_of, is_made, behind_act}
use Rattle.ppm_choice.specs.Schedules.{listed}
use Rattle.ppm_choice.proofs.IdleLemmas.{none_left, not_open, is_shut}
use Rattle.ppm_following.specs.declared.following.Way.{Way}
use Rattle.ppm_following.specs.Following.{course}
use Rattle.ppm_sweep.specs.declared.ahead.Coming.{Coming}
use Rattle.ppm_sweep.specs.declared.ahead.Coming.TheVariants as coming
use Rattle.ppm_sweep.specs.declared.options.Window.{Window}
use Rattle.ppm_sweep.specs.Ahead.{Left, IsStepInRound, dues_in, due_of, first_due, first_in}
use Rattle.ppm_sweep.specs.Spots.{IsLast}
use Rattle.ppm_sweep.specs.Sweep.{Place, Swept, along, before_due, is_in, number_after, passed, strikes}

-- where the last of three fails
no_and : (a b c : Bool) → c ≡ false → (a && (b && c)) ≡ false
no_and true true c e = e
no_and true false c e = refl
no_and false b c e = refl

module _ (s : Shape) (code : CodeParts) (keeper : ℕ) (sweep : Place → List Swept) (window : Window) where
  -- before what isn't made no fault is put
  nothing_before : (number : ℕ) (p : Place) (due : Due) → is_made s code p.course due ≡ false
      → before_due s code keeper sweep window number p due ≡ []
  nothing_before number p due e = ap (λ b. if b && is_in window number then strikes s code keeper sweep p (processor_of (act_of due)) else []) e

  -- where nothing of what is due is made, there is no further schedule
  pub none_made : (number : ℕ) (p : Place) (dues : List Due) → AllByRecursion (λ due. is_made s code p.course due ≡ false) dues
      → along s code keeper sweep window number p dues ≡ []
  none_made number p [] none = refl
  none_made number p (due ∷ dues) none =
      let same : (passed s code p due).course ≡ p.course = ap (λ b. if b then behind_act s code p.course (act_of due) else p.course) none.0 in
      ap (λ l. l ++ along s code keeper sweep window (number_after s code number p due) (passed s code p due) dues)
      (nothing_before number p due none.0)
      ∙ none_made (number_after s code number p due) (passed s code p due) dues
      (subst (λ w. AllByRecursion (λ d. is_made s code w d ≡ false) dues) (sym same) none.1)

  nothing_in : (number : ℕ) → window.from + window.acts ≤ number → (a : Bool) → (a && is_in window number) ≡ false
  nothing_in number h a =
      no_and a (nat_le window.from number) (nat_lt number (window.from + window.acts)) (le-ltb number (window.from + window.acts) h)

  -- where all of what is due comes after the window, there is none either
  pub none_after : (number : ℕ) (p : Place) (dues : List Due) → window.from + window.acts ≤ number
      → along s code keeper sweep window number p dues ≡ []
  none_after number p [] h = refl
  none_after number p (due ∷ dues) h =
      ap (λ b. (if b then strikes s code keeper sweep p (processor_of (act_of due)) else [])
      ++ along s code keeper sweep window (number_after s code number p due) (passed s code p due) dues)
      (nothing_in number h (is_made s code p.course due))
      ∙ none_after (number_after s code number p due) (passed s code p due) dues (still_after number (is_made s code p.course due) h)
    where
      still_after : (n : ℕ) (b : Bool) → window.from + window.acts ≤ n → window.from + window.acts ≤ (if b then n + 1 else n)
      still_after n true le = omega (arith, le)
      still_after n false le = le

-- it fails of all
all_fail : (P : Due → Type 0) → ((due : Due) → P due) → (dues : List Due) → AllByRecursion P dues
all_fail P each [] = tt
all_fail P each (due ∷ dues) = (each due, all_fail P each dues)

-- of steps in rounds
rounds_fail : (P : Due → Type 0) → ((c : ℕ) → P (InRound c)) → (dues : List Due) → AllByRecursion IsStepInRound dues → AllByRecursion P dues
rounds_fail P each [] steps = tt
rounds_fail P each (Listed act ∷ dues) steps = absurd steps.0
rounds_fail P each (InRound c ∷ dues) steps = (each c, rounds_fail P each dues steps.1)

-- a step in a round is first only where nothing of the list is left
later_is : (l : Left) (c : ℕ) → first_due l ≡ Some (InRound c) → dues_in l ≡ l.later
later_is l c e = go l.rest e
  where
    go : (rest : List _) → first_in rest l.later ≡ Some (InRound c) → listed rest ++ l.later ≡ l.later
    go [] f = refl
    go (i ∷ rest) f = cc

-- where what comes next is the last, nothing of what is due is made
pub last_of : (m : Situation) (way : Way) (l : Left) (c : Coming) → IsLast m way c → first_due l ≡ Some (due_of c) → AllByRecursion IsStepInRound l.later
    → AllByRecursion (λ due. is_made m.shape m.code (course m way) due ≡ false) (dues_in l)
last_of m way l (coming.Listed act) none first steps =
    all_fail (λ due. is_made m.shape m.code (course m way) due ≡ false) (λ due. none_left m.shape m.code (course m way) due none) (dues_in l)
last_of m way l (coming.InRound c) (inl none) first steps =
    all_fail (λ due. is_made m.shape m.code (course m way) due ≡ false) (λ due. none_left m.shape m.code (course m way) due none) (dues_in l)
last_of m way l (coming.InRound c) (inr shut) first steps =
    subst (AllByRecursion (λ due. is_made m.shape m.code (course m way) due ≡ false)) (sym (later_is l c first))
    (rounds_fail (λ due. is_made m.shape m.code (course m way) due ≡ false)
    (λ k. not_open m.shape m.code (course m way) (InRound k) (is_shut (finish_in m) (finish_in m) refl shut)) l.later steps)

-- nothing is due
pub no_dues : (l : Left) → first_due l ≡ None → dues_in l ≡ []
no_dues l e = go l.rest l.later e
  where
    go : (rest : List _) (later : List Due) → first_in rest later ≡ None → listed rest ++ later ≡ []
    go [] [] f = refl
    go [] (due ∷ later) f = cc
    go (i ∷ rest) later f = cc
