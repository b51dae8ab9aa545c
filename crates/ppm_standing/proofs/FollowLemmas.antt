-- The steps of a run, one after another, until it stands.
use Rattle.std.proofs.Common.{◌≡◌, ◌<◌, ◌≤◌, ◌+◌, ◌-◌, ℕ, zero, suc, Bool, true, false, nat_lt, List, map, Some, None, Result, Ok, Err, refl, sym, ap, subst, arith, ◌∙◌}
use Rattle.std.specs.Prelude.{if◌then◌else◌}
use Rattle.std.proofs.lemmas.Bool.{ltb-true, ltb-false}
use Rattle.ppm_tree.specs.declared.tree.Proc.{Proc}
use Rattle.ppm_tree.specs.declared.tree.Tree as declared
use Rattle.ppm_tree.specs.Tree.{Procedure, procedure_of, tree_of}
use Rattle.ppm_tree.specs.State.{TrapAt}
use Rattle.ppm_words.specs.declared.trap.Trap.{Trap}
use Rattle.ppm_by_name.specs.declared.stop.Stop.{Stop}
use Rattle.ppm_by_name.specs.declared.stop.Stop.TheVariants as stop
use Rattle.ppm_standing.specs.declared.stood.Stood.{Stood}
use Rattle.ppm_standing.specs.Nexts.{Run}
use Rattle.ppm_standing.specs.Standing.{Does, beginning, stand, stands, steps_of, step, cost, on, advancing, with_left}
use Rattle.ppm_standing.specs.Stood.{IsStood, IsStandOf}

-- a run that has ended stands nowhere
pub nowhere_ended : (n : ℕ) (ps : List Procedure) (w : Run) → w.ended ≡ true → stands n ps w ≡ None
nowhere_ended zero ps w e = refl
nowhere_ended (suc n) ps w e = ap (λ (b : Bool). if b then None else if nat_lt w.left (cost w) then Some w else on (step ps w) (stands n ps)) e

-- the run of a program from its beginning
from_beginning : (t : declared.Tree) (turns steps : ℕ) (ps : List Proc) (v : Run) → steps ≡ steps_of turns → ps ≡ t.procedures → v ≡ beginning (tree_of t) turns
    → stands steps (map procedure_of ps) v ≡ stand (tree_of t) turns
from_beginning t turns steps ps v e f g =
    ap (λ (n : ℕ). stands n (map procedure_of ps) v) e
    ∙ ap (λ (ps : List Proc). stands (steps_of turns) (map procedure_of ps) v) f
    ∙ ap (stands (steps_of turns) (map procedure_of t.procedures)) g

-- one that goes on, by what its next step comes to
on_step : (n : ℕ) (ps : List Procedure) (w : Run) → w.ended ≡ false → nat_lt w.left (cost w) ≡ false → stands (suc n) ps w ≡ on (step ps w) (stands n ps)
on_step n ps w e f =
    ap (λ (b : Bool). if b then None else if nat_lt w.left (cost w) then Some w else on (step ps w) (stands n ps)) e
    ∙ ap (λ (b : Bool). if b then Some w else on (step ps w) (stands n ps)) f

at_last : (n : ℕ) (ps : List Procedure) (w : Run) → w.ended ≡ false → nat_lt w.left (cost w) ≡ true → stands (suc n) ps w ≡ Some w
at_last n ps w e f =
    ap (λ (b : Bool). if b then None else if nat_lt w.left (cost w) then Some w else on (step ps w) (stands n ps)) e
    ∙ ap (λ (b : Bool). if b then Some w else on (step ps w) (stands n ps)) f

-- the comparison of turns
is_less : (m n : ℕ) → m < n → nat_lt m n ≡ true
is_less m n l = by (nat_lt m n) refl
  where
    by : (b : Bool) → nat_lt m n ≡ b → nat_lt m n ≡ true
    by true e = e
    by false e = absurd (let f = ltb-false m n e in omega (arith, l, f))

not_less : (m n : ℕ) → n ≤ m → nat_lt m n ≡ false
not_less m n l = by (nat_lt m n) refl
  where
    by : (b : Bool) → nat_lt m n ≡ b → nat_lt m n ≡ false
    by true e = absurd (let f = ltb-true m n e in omega (arith, l, f))
    by false e = e

-- with steps left a run stands where too few turns are left
pub stands_here : (n i : ℕ) (ps : List Procedure) (w : Run) → i < n → w.ended ≡ false → w.left < cost w → stands (n - i) ps w ≡ Some w
stands_here n i ps w l e less =
    let one : n - i ≡ suc (n - suc i) = omega (arith, l) in
    ap (λ (k : ℕ). stands k ps w) one ∙ at_last (n - suc i) ps w e (is_less w.left (cost w) less)

-- else it stands where it does after the step
pub stands_after : (n i c : ℕ) (ps : List Procedure) (w u : Run) → i < n → w.ended ≡ false → c ≡ cost w → c ≤ w.left
    → advancing ps w.next (with_left (w.left - c) w) ≡ Ok u → stands (n - i) ps w ≡ stands (n - (i + 1)) ps u
stands_after n i c ps w u l e is few said =
    let one : n - i ≡ suc (n - (i + 1)) = omega (arith, l) in
    let done : step ps w ≡ Ok u = ap (λ (c : ℕ). advancing ps w.next (with_left (w.left - c) w)) (sym is) ∙ said in
    ap (λ (k : ℕ). stands k ps w) one ∙ on_step (n - (i + 1)) ps w e (not_less w.left (cost w) (omega (arith, is, few)))
    ∙ ap (λ (r : Result Run TrapAt). on r (stands (n - (i + 1)) ps)) done

-- a stop at a trap, and as an answer
abbrev trapped : Trap → ℕ → Stop
trapped t line = stop.Trapped t line

abbrev halted : Stop → Result (Unit {0}) Stop
halted s = Err s

-- or nowhere, where the step traps
pub stands_nowhere : (n i c : ℕ) (ps : List Procedure) (w u : Run) (s : Stop) (t : Trap) (line : ℕ) → i < n → w.ended ≡ false → c ≡ cost w → c ≤ w.left
    → s ≡ trapped t line → Does (halted s) u (advancing ps w.next (with_left (w.left - c) w)) → stands (n - i) ps w ≡ None
stands_nowhere n i c ps w u s t line l e is few traps does =
    let said : advancing ps w.next (with_left (w.left - c) w) ≡ Err (t, line) =
    subst (λ (s : Stop). Does (halted s) u (advancing ps w.next (with_left (w.left - c) w))) traps does in
    let one : n - i ≡ suc (n - (i + 1)) = omega (arith, l) in
    let done : step ps w ≡ Err (t, line) = ap (λ (c : ℕ). advancing ps w.next (with_left (w.left - c) w)) (sym is) ∙ said in
    ap (λ (k : ℕ). stands k ps w) one ∙ on_step (n - (i + 1)) ps w e (not_less w.left (cost w) (omega (arith, is, few)))
    ∙ ap (λ (r : Result Run TrapAt). on r (stands (n - (i + 1)) ps)) done

-- and none is left at the end
pub none_left : (n i : ℕ) (ps : List Procedure) (w : Run) → n ≤ i → stands (n - i) ps w ≡ None
none_left n i ps w l = let z : n - i ≡ 0 = omega (arith, l) in ap (λ (k : ℕ). stands k ps w) z

-- what is told of the run of a program, from its beginning
pub stood_of : (t : declared.Tree) (turns steps : ℕ) (ps : List Proc) (v w : Run) (stood : Stood) → steps ≡ steps_of turns → ps ≡ t.procedures
    → v ≡ beginning (tree_of t) turns → stands steps (map procedure_of ps) v ≡ Some w → IsStood (map procedure_of ps) w stood
    → IsStandOf (tree_of t) turns (Some stood)
stood_of t turns steps ps v w stood e f g s is = (
  w,
  sym (from_beginning t turns steps ps v e f g) ∙ s,
  subst (λ (ps : List Proc). IsStood (map procedure_of ps) w stood) f is,
)

pub nowhere_of : (t : declared.Tree) (turns steps : ℕ) (ps : List Proc) (v : Run) → steps ≡ steps_of turns → ps ≡ t.procedures
    → v ≡ beginning (tree_of t) turns → stands steps (map procedure_of ps) v ≡ None → IsStandOf (tree_of t) turns None
nowhere_of t turns steps ps v e f g s = sym (from_beginning t turns steps ps v e f g) ∙ s
