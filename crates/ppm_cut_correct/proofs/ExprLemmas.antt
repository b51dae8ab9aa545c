-- The code of an expression, whatever follows: its value comes into the register, or its trap ends the strand; nothing is written.
use Rattle.std.proofs.Common.{◌≡◌, ◌<◌, ◌≤◌, ℕ, zero, suc, ◌+◌, ◌-◌, ◌^◌, Bool, true, false, cond, nat_lt, ℤ, pos, negsuc, List, [], ◌∷◌}
use Rattle.std.proofs.Common.{◌++◌, Result, Ok, Err, Some, None, get_or, length, refl, sym, ap, ap₂, ◌∙◌, subst, arith}
use Rattle.std.specs.Prelude.{slice_index, slice_set, ◌==◌, ◌+ℤ◌, ◌-ℤ◌, ◌*ℤ◌, neg_ℤ, int_lt, int_le}
use Rattle.std.specs.Prelude.{int_div, int_rem, unsigned_abs, not, ◌&&◌, ◌||◌, FitsSigned}
use Rattle.std.specs.Int.{w64}
use Rattle.std.specs.List.{All, sum}
use Rattle.std.specs.Ordering.{int_eq}
use Rattle.std.proofs.lemmas.Bool.{lt-ltb, le-ltb, ltb-true, ltb-false, eqb-true, eqb-false}
use Rattle.std.proofs.lemmas.Bool.Decides.{Decides-int_eq, not_from_Decides}
use Rattle.std.proofs.lemmas.Int.{rem_below, ints}
use Rattle.std.proofs.lemmas.Nat.{mod-mul-add, div-mul-add}
use Rattle.std.proofs.lemmas.List.{get_or-set_same, get_or-set_other, length-set, length-append, take_at, drop_at}
use Rattle.std.proofs.lemmas.List.Elements.{All-head, All-tail, All-take, All-drop}
use Rattle.ppm_words.specs.TwosComplement.{word_of, value_of}
use Rattle.ppm_words.specs.declared.trap.Trap.TheVariants as trap
use Rattle.ppm_words.proofs.TwosComplementLemmas.{value_of-word_of, word_of-below, value_of-fits}
use Rattle.ppm_strands.specs.Capsule.{Capsule, Ends, Memory, ending, leaves, asked, store}
use Rattle.ppm_strands.specs.Strand.{Own, Shared}
use Rattle.ppm_code.specs.declared.act.Act.{Act}
use Rattle.ppm_code.specs.declared.act.Act.TheVariants.{Sets, Passes, Jumps, Steps, Ends as Stops}
use Rattle.ppm_code.specs.declared.act.Step.{Step}
use Rattle.ppm_code.specs.declared.act.Step.TheVariants.{Loads, Stores}
use Rattle.ppm_code.specs.declared.act.End.{End}
use Rattle.ppm_code.specs.declared.act.End.TheVariants.{Trap as Trapping}
use Rattle.ppm_code.specs.declared.instr.Instr.{Instr}
use Rattle.ppm_code.specs.declared.instr.Instr.TheVariants as instr
use Rattle.ppm_code.specs.declared.location.Location.{Location}
use Rattle.ppm_code.specs.declared.location.Location.TheVariants.{Frame as OwnWord, Array}
use Rattle.ppm_code.specs.declared.location.FrameWord.TheVariants.{Slot}
use Rattle.ppm_code.specs.declared.register.Register.{Register}
use Rattle.ppm_code.specs.Acts as acts
use Rattle.ppm_code.specs.Acts.{does, held, traps, is_zero, start_of, length_of, element_of, at_element}
use Rattle.ppm_code.specs.Locations.{Where, code_locations, location_of}
use Rattle.ppm_code.specs.Capsules.{at_act, capsule_from}
use Rattle.ppm_tree.specs.declared.named.Named.{Named}
use Rattle.ppm_tree.specs.declared.operator.Operator.{Operator}
use Rattle.ppm_tree.specs.declared.operator.Operator.TheVariants as operator
use Rattle.ppm_tree.specs.Limits.{IsNode, IsLiteral}
use Rattle.ppm_tree.specs.Parts.{nodes}
use Rattle.ppm_tree.specs.Tree.{Expression}
use Rattle.ppm_tree.specs.Tree as tree
use Rattle.ppm_tree.specs.Values.{fits, in_range, divided, holds, truth, applied, decided, negated}
use Rattle.ppm_tree.specs.State.{TrapAt, then_with, at_line, tested, unless_decided, Region, Frame, Arrays, array_at, word_at, index_in, evaluate}
use Rattle.ppm_ownership.proofs.WordLemmas.{index_below}
use Rattle.ppm_regions.specs.Scope.{Declaration, Scope, declared, is_region}
use Rattle.ppm_cut_code.specs.Layout.{Layout, slot_of, register_with, register}
use Rattle.ppm_cut_code.specs.Expressions.{branch_size, last_size, size_of, truth_code, operator_code}
use Rattle.ppm_cut_code.specs.Expressions.{right_register, branch_code, expression_code}
use Rattle.ppm_cut_code.specs.Fits.{Has, IsKept, FitsExpression}
use Rattle.ppm_cut_code.proofs.RegionWords.{array_within, offset_of, region_word}
use Rattle.ppm_cut_correct.proofs.Holding.{HoldsValue, Lies}

-- p from m does what q from m' does
pub record Goes (p : Capsule Where End) (m : Memory Where) (q : Capsule Where End) (m' : Memory Where) : Type 0 where
  pub ends : ending code_locations p m ≡ ending code_locations q m'
  pub left : leaves code_locations p m ≡ leaves code_locations q m'
  pub asks : asked code_locations p m ≡ asked code_locations q m'

pub goes_on : {p q s : Capsule Where End} {m m' n : Memory Where} → Goes p m q m' → Goes q m' s n → Goes p m s n
goes_on g h = record { ends = g.ends ∙ h.ends; left = g.left ∙ h.left; asks = g.asks ∙ h.asks }

pub goes_same : (p : Capsule Where End) (m : Memory Where) → Goes p m p m
goes_same p m = record { ends = refl; left = refl; asks = refl }

pub goes_equal : (p q : Capsule Where End) (m : Memory Where) → p ≡ q → Goes p m q m
goes_equal p q m e = subst (λ (q : Capsule Where End). Goes p m q m) e (goes_same p m)

-- One instruction: what it does, and the instructions after it.
module _ (W at : ℕ) (i : Instr) (is : List Instr) (g : List ℕ) where
  acted : (act : Act) → does W i g ≡ act
      → capsule_from W at 0 (i ∷ is) g ≡ at_act (λ t h. capsule_from W (at + 1) (t - (at + 1)) is h) (at + 1) act g
  acted act e = ap (λ (act : Act). at_act (λ t h. capsule_from W (at + 1) (t - (at + 1)) is h) (at + 1) act g) e

  from_first : (k : ℕ) (h : List ℕ) → k ≡ 0 → capsule_from W (at + 1) k is h ≡ capsule_from W (at + 1) 0 is h
  from_first k h e = ap (λ (k : ℕ). capsule_from W (at + 1) k is h) e

  pub sets : (r : Register) (v : ℕ) → does W i g ≡ Sets r v
      → capsule_from W at 0 (i ∷ is) g ≡ capsule_from W (at + 1) 0 is (slice_set g r.index v)
  sets r v e = acted (Sets r v) e ∙ from_first ((at + 1) - (at + 1)) (slice_set g r.index v) (omega arith)

  pub passes : does W i g ≡ Passes → capsule_from W at 0 (i ∷ is) g ≡ capsule_from W (at + 1) 0 is g
  passes e = acted Passes e ∙ from_first ((at + 1) - (at + 1)) g (omega arith)

  pub jumps : (t k : ℕ) → does W i g ≡ Jumps t → at + 1 + k ≡ t → capsule_from W at 0 (i ∷ is) g ≡ capsule_from W (at + 1) k is g
  jumps t k e far = acted (Jumps t) e ∙ ap (λ (k : ℕ). capsule_from W (at + 1) k is g) (omega (arith, far))

  pub loads : (l : Location) (r : Register) (m : Memory Where) → does W i g ≡ Steps (Loads l r)
      → Goes (capsule_from W at 0 (i ∷ is) g) m (capsule_from W (at + 1) 0 is (slice_set g r.index (m (location_of l)))) m
  loads l r m e =
      let h = slice_set g r.index (m (location_of l)) in
      let first : Goes (capsule_from W at 0 (i ∷ is) g) m (capsule_from W (at + 1) ((at + 1) - (at + 1)) is h) m =
      goes_on (goes_equal _ _ m (acted (Steps (Loads l r)) e)) (record { ends = refl; left = refl; asks = refl }) in
      goes_on first (goes_equal _ _ m (from_first ((at + 1) - (at + 1)) h (omega arith)))

  pub stores : (l : Location) (v : ℕ) (m : Memory Where) → does W i g ≡ Steps (Stores l v)
      → Goes (capsule_from W at 0 (i ∷ is) g) m (capsule_from W (at + 1) 0 is g) (store code_locations m (location_of l) v)
  stores l v m e =
      let m' = store code_locations m (location_of l) v in
      let first : Goes (capsule_from W at 0 (i ∷ is) g) m (capsule_from W (at + 1) ((at + 1) - (at + 1)) is g) m' =
      goes_on (goes_equal _ _ m (acted (Steps (Stores l v)) e)) (record { ends = refl; left = refl; asks = refl }) in
      goes_on first (goes_equal _ _ m' (from_first ((at + 1) - (at + 1)) g (omega arith)))

  pub stops : (e : End) → does W i g ≡ Stops e → capsule_from W at 0 (i ∷ is) g ≡ Ends e
  stops e is = acted (Stops e) is

-- Leaving out the code of an expression.
module _ (W : ℕ) where
  skip : (here k n : ℕ) (i : Instr) (is : List Instr) (g : List ℕ) → k ≡ suc n → capsule_from W here k (i ∷ is) g ≡ capsule_from W (here + 1) n is g
  skip here k n i is g e = ap (λ (k : ℕ). capsule_from W here k (i ∷ is) g) e

  pub here_is : (here there n : ℕ) (is : List Instr) (g : List ℕ) → here ≡ there → capsule_from W here n is g ≡ capsule_from W there n is g
  here_is here there n is g e = ap (λ (here : ℕ). capsule_from W here n is g) e

  skip_branch : (o : Operator) (here d target k n : ℕ) (is : List Instr) (g : List ℕ) → k ≡ branch_size o + n
      → capsule_from W here k (branch_code o d target is) g ≡ capsule_from W (here + branch_size o) n is g
  skip_branch operator.And here d target k n is g e = skip here k n (instr.BranchZero (register d) target) is g (omega (arith, e))
  skip_branch operator.Or here d target k n is g e = skip here k n (instr.BranchNonZero (register d) target) is g (omega (arith, e))
  skip_branch operator.Add here d target k n is g e = ap₂ (λ (k here : ℕ). capsule_from W here k is g) (omega (arith, e)) (omega arith)
  skip_branch operator.Sub here d target k n is g e = ap₂ (λ (k here : ℕ). capsule_from W here k is g) (omega (arith, e)) (omega arith)
  skip_branch operator.Mul here d target k n is g e = ap₂ (λ (k here : ℕ). capsule_from W here k is g) (omega (arith, e)) (omega arith)
  skip_branch operator.Div here d target k n is g e = ap₂ (λ (k here : ℕ). capsule_from W here k is g) (omega (arith, e)) (omega arith)
  skip_branch operator.Rem here d target k n is g e = ap₂ (λ (k here : ℕ). capsule_from W here k is g) (omega (arith, e)) (omega arith)
  skip_branch operator.Eq here d target k n is g e = ap₂ (λ (k here : ℕ). capsule_from W here k is g) (omega (arith, e)) (omega arith)
  skip_branch operator.Ne here d target k n is g e = ap₂ (λ (k here : ℕ). capsule_from W here k is g) (omega (arith, e)) (omega arith)
  skip_branch operator.Lt here d target k n is g e = ap₂ (λ (k here : ℕ). capsule_from W here k is g) (omega (arith, e)) (omega arith)
  skip_branch operator.Le here d target k n is g e = ap₂ (λ (k here : ℕ). capsule_from W here k is g) (omega (arith, e)) (omega arith)
  skip_branch operator.Gt here d target k n is g e = ap₂ (λ (k here : ℕ). capsule_from W here k is g) (omega (arith, e)) (omega arith)
  skip_branch operator.Ge here d target k n is g e = ap₂ (λ (k here : ℕ). capsule_from W here k is g) (omega (arith, e)) (omega arith)

  skip_two : (here k n : ℕ) (i j : Instr) (is : List Instr) (g : List ℕ) → k ≡ 2 + n
      → capsule_from W here k (i ∷ j ∷ is) g ≡ capsule_from W (here + 2) n is g
  skip_two here k n i j is g e =
      skip here k (suc n) i (j ∷ is) g (omega (arith, e)) ∙ here_is (here + 1 + 1) (here + 2) n is g (omega arith)

  skip_truth : (here d k n : ℕ) (is : List Instr) (g : List ℕ) → k ≡ 2 + n
      → capsule_from W here k (truth_code d is) g ≡ capsule_from W (here + 2) n is g
  skip_truth here d k n is g e =
      skip_two here k n (instr.Const (register (suc d)) (pos 0)) (instr.NotEqual (register d) (register d) (register (suc d))) is g e

  one : (k n : ℕ) → k ≡ 1 + n → k ≡ suc n
  one k n e = omega (arith, e)

  skip_operator : (o : Operator) (here line d k n : ℕ) (is : List Instr) (g : List ℕ) → k ≡ last_size o + n
      → capsule_from W here k (operator_code o line d is) g ≡ capsule_from W (here + last_size o) n is g
  skip_operator operator.And here line d k n is g e = skip_truth here d k n is g (omega (arith, e))
  skip_operator operator.Or here line d k n is g e = skip_truth here d k n is g (omega (arith, e))
  skip_operator operator.Add here line d k n is g e = ap (λ (k : ℕ). capsule_from W here k (operator_code operator.Add line d is) g) (one k n e)
  skip_operator operator.Sub here line d k n is g e = ap (λ (k : ℕ). capsule_from W here k (operator_code operator.Sub line d is) g) (one k n e)
  skip_operator operator.Mul here line d k n is g e = ap (λ (k : ℕ). capsule_from W here k (operator_code operator.Mul line d is) g) (one k n e)
  skip_operator operator.Div here line d k n is g e = ap (λ (k : ℕ). capsule_from W here k (operator_code operator.Div line d is) g) (one k n e)
  skip_operator operator.Rem here line d k n is g e = ap (λ (k : ℕ). capsule_from W here k (operator_code operator.Rem line d is) g) (one k n e)
  skip_operator operator.Eq here line d k n is g e = ap (λ (k : ℕ). capsule_from W here k (operator_code operator.Eq line d is) g) (one k n e)
  skip_operator operator.Ne here line d k n is g e = ap (λ (k : ℕ). capsule_from W here k (operator_code operator.Ne line d is) g) (one k n e)
  skip_operator operator.Lt here line d k n is g e = ap (λ (k : ℕ). capsule_from W here k (operator_code operator.Lt line d is) g) (one k n e)
  skip_operator operator.Le here line d k n is g e = ap (λ (k : ℕ). capsule_from W here k (operator_code operator.Le line d is) g) (one k n e)
  skip_operator operator.Gt here line d k n is g e = ap (λ (k : ℕ). capsule_from W here k (operator_code operator.Gt line d is) g) (one k n e)
  skip_operator operator.Ge here line d k n is g e = ap (λ (k : ℕ). capsule_from W here k (operator_code operator.Ge line d is) g) (one k n e)

  pub skip_expression : (layout : Layout) (e : Expression) (here d at : ℕ) (rest : List Instr) (g : List ℕ) (k n : ℕ) → k ≡ size_of e + n
      → capsule_from W here k (expression_code layout e d at rest) g ≡ capsule_from W (here + size_of e) n rest g
  skip_expression layout (tree.Number z) here d at rest g k n is = skip here k n (instr.Const (register d) z) rest g (omega (arith, is))
  skip_expression layout (tree.Name x) here d at rest g k n is =
      skip here k n (instr.LoadSlot (register d) (slot_of layout x.name)) rest g (omega (arith, is))
  skip_expression layout (tree.Element x index) here d at rest g k n is =
      let load = instr.LoadSlot (register (suc d)) (slot_of layout x.name) in
      let get = instr.Get (register d) (register (suc d)) (register d) x.line in
      skip_expression layout index here d at (load ∷ get ∷ rest) g k (2 + n) (omega (arith, is))
      ∙ skip_two (here + size_of index) (2 + n) n load get rest g refl
      ∙ here_is (here + size_of index + 2) (here + (size_of index + 2)) n rest g (omega arith)
  skip_expression layout (tree.Len x) here d at rest g k n is =
      skip_two here k n (instr.LoadSlot (register d) (slot_of layout x.name)) (instr.Len (register d) (register d)) rest g (omega (arith, is))
  skip_expression layout (tree.Minus line e) here d at rest g k n is =
      let sub = instr.Sub (register d) (register d) (register (suc d)) line in
      skip here k (size_of e + (1 + n)) (instr.Const (register d) (pos 0)) (expression_code layout e (suc d) (suc at) (sub ∷ rest)) g
      (omega (arith, is))
      ∙ skip_expression layout e (here + 1) (suc d) (suc at) (sub ∷ rest) g (size_of e + (1 + n)) (1 + n) refl
      ∙ skip (here + 1 + size_of e) (1 + n) n sub rest g (omega arith)
      ∙ here_is (here + 1 + size_of e + 1) (here + (suc (size_of e) + 1)) n rest g (omega arith)
  skip_expression layout (tree.Binary o line left right) here d at rest g k n is =
      let behind_left = at + size_of left in
      let from = behind_left + branch_size o in
      let last = operator_code o line d rest in
      let second = expression_code layout right (right_register o d) from last in
      let there = here + size_of left + branch_size o in
      skip_expression layout left here d at (branch_code o d (from + size_of right) second) g k (branch_size o + (size_of right + (last_size o + n)))
      (omega (arith, is))
      ∙ skip_branch o (here + size_of left) d (from + size_of right) (branch_size o + (size_of right + (last_size o + n)))
      (size_of right + (last_size o + n)) second g refl
      ∙ skip_expression layout right there (right_register o d) from last g (size_of right + (last_size o + n)) (last_size o + n) refl
      ∙ skip_operator o (there + size_of right) line d (last_size o + n) n rest g refl
      ∙ here_is (there + size_of right + last_size o) (here + (size_of left + branch_size o + size_of right + last_size o)) n rest g (omega arith)

-- the value is in register d, those below are as they were, and there are 64
pub record InReg (d : ℕ) (g : List ℕ) (v : ℤ) (h : List ℕ) : Type 0 where
  pub value : HoldsValue (slice_index h d) v
  pub keeps : (i : ℕ) → i < d → slice_index h i ≡ slice_index g i
  pub count : length h ≡ 64

-- the register with a number below 64 has it as its index
register_index_by : (n : ℕ) (small : Bool) (h : nat_lt n 64 ≡ small) → n < 64 → (register_with n small h).index ≡ n
register_index_by n true h low = refl
register_index_by n false h low = let far : 64 ≤ n = ltb-false n 64 h in absurd (omega (arith, far, low))

register_index : (n : ℕ) → n < 64 → (register n).index ≡ n
register_index n low = register_index_by n (nat_lt n 64) refl low

-- a register that has been set, and the others
pub set_at : (g : List ℕ) (d w : ℕ) → length g ≡ 64 → d < 64 → slice_index (slice_set g (register d).index w) d ≡ w
set_at g d w count low =
    ap (λ (i : ℕ). slice_index (slice_set g i w) d) (register_index d low) ∙ get_or-set_same g d w 0 (omega (arith, count, low))

pub set_else : (g : List ℕ) (d w i : ℕ) → d < 64 → (i ≡ d → ⊥) → slice_index (slice_set g (register d).index w) i ≡ slice_index g i
set_else g d w i low other =
    ap (λ (j : ℕ). slice_index (slice_set g j w) i) (register_index d low) ∙ get_or-set_other g d i w 0 other

pub set_count : (g : List ℕ) (d w : ℕ) → length g ≡ 64 → length (slice_set g (register d).index w) ≡ 64
set_count g d w count = length-set g (register d).index w ∙ count

pub set_keeps : (g : List ℕ) (d w i : ℕ) → d < 64 → i < d → slice_index (slice_set g (register d).index w) i ≡ slice_index g i
set_keeps g d w i low below = set_else g d w i low (λ e. absurd (omega (arith, e, below)))

-- the value of a register that has been set, where those below are as they were
in_reg : (g h : List ℕ) (d w : ℕ) (v : ℤ) → d < 64 → length h ≡ 64 → ((i : ℕ) → i < d → slice_index h i ≡ slice_index g i) → HoldsValue w v
    → InReg d g v (slice_set h (register d).index w)
in_reg g h d w v low count keeps is = record {
  value = subst (λ (w : ℕ). HoldsValue w v) (sym (set_at h d w count low)) is;
  keeps = λ i below. set_keeps h d w i low below ∙ keeps i below;
  count = set_count h d w count;
}

pub held_at : (g : List ℕ) (d : ℕ) → d < 64 → held g (register d) ≡ slice_index g d
held_at g d low = ap (slice_index g) (register_index d low)

-- p comes to the instructions of the rest, the first of which has the number `at`, with registers of which K says the value, or to the trap
abbrev pub Meets : {A : Type 0} → (W at : ℕ) → List Instr → (A → List ℕ → Type 0) → Capsule Where End → Memory Where → Result A TrapAt → Type 0
Meets W at rest K p m (Ok v) = (h : List ℕ) × Goes p m (capsule_from W at 0 rest h) m × K v h
Meets W at rest K p m (Err stop) = Goes p m (Ends (Trapping stop.0 stop.1)) m

module _ (W : ℕ) where
  pub goes_meets : {A : Type 0} (at : ℕ) (rest : List Instr) (K : A → List ℕ → Type 0) (p q : Capsule Where End) (m : Memory Where)
      (t : Result A TrapAt)
      → Goes p m q m → Meets W at rest K q m t → Meets W at rest K p m t
  goes_meets at rest K p q m (Ok v) g h = (h.0, goes_on g h.1, h.2)
  goes_meets at rest K p q m (Err stop) g h = goes_on g h

  pub meets_at : {A : Type 0} (at at' : ℕ) (rest : List Instr) (K : A → List ℕ → Type 0) (p : Capsule Where End) (m : Memory Where)
      (t : Result A TrapAt)
      → at ≡ at' → Meets W at rest K p m t → Meets W at' rest K p m t
  meets_at at at' rest K p m t e h = subst (λ (at : ℕ). Meets W at rest K p m t) e h

  pub bind_meets : {A B : Type 0} (n at : ℕ) (mid rest : List Instr) (K : A → List ℕ → Type 0) (L : B → List ℕ → Type 0) (p : Capsule Where End)
      (m : Memory Where) (t : Result A TrapAt) (f : A → Result B TrapAt) → Meets W n mid K p m t
      → ((v : A) (h : List ℕ) → K v h → Meets W at rest L (capsule_from W n 0 mid h) m (f v)) → Meets W at rest L p m (then_with t f)
  bind_meets n at mid rest K L p m (Ok v) f h go = goes_meets at rest L p (capsule_from W n 0 mid h.0) m (f v) h.1 (go v h.0 h.2)
  bind_meets n at mid rest K L p m (Err stop) f h go = h

-- a number that passes the test is a value, by the language as by the code
fits_signed : (z : ℤ) → fits z ≡ true → FitsSigned w64 z
fits_signed (pos n) e = grind arith
fits_signed (negsuc n) e = grind arith

same_fits : (z : ℤ) → acts.fits z ≡ fits z
same_fits (pos n) = refl
same_fits (negsuc n) = refl

literal_fits : (z : ℤ) → IsLiteral z → FitsSigned w64 z
literal_fits (pos n) h = record { sfits = h }
literal_fits (negsuc n) h = absurd h

-- the word of a value
pub holds_word : (z : ℤ) → FitsSigned w64 z → HoldsValue (word_of z) z
holds_word z h = record { value = value_of-word_of z h; below = word_of-below z h }

pub value_fits : (w : ℕ) (v : ℤ) → HoldsValue w v → FitsSigned w64 v
value_fits w v h = subst (λ (v : ℤ). FitsSigned w64 v) h.value (value_of-fits w h.below)

pub holds_number : (n : ℕ) → n < 2 ^ 63 → HoldsValue n (pos n)
holds_number n low = holds_word (pos n) (record { sfits = low })

word_of-value_of : (w : ℕ) → w < 2 ^ 64 → word_of (value_of w) ≡ w
word_of-value_of w low = by (nat_lt w (2 ^ 63))
  where
    by : (b : Bool) → word_of (cond b (pos w) (negsuc (2 ^ 64 - 1 - w))) ≡ w
    by true = refl
    by false = omega (arith, low)

-- a value has one word
pub word_is : (w : ℕ) (v : ℤ) → HoldsValue w v → w ≡ word_of v
word_is w v h = sym (word_of-value_of w h.below) ∙ ap word_of h.value

-- words are the same where their values are
pub same_words : (w u : ℕ) (x y : ℤ) → HoldsValue w x → HoldsValue u y → (w == u) ≡ int_eq x y
same_words w u x y hx hy = by (w == u) refl (int_eq x y) refl
  where
    by : (b : Bool) → (w == u) ≡ b → (c : Bool) → int_eq x y ≡ c → b ≡ c
    by true e true t = refl
    by false e false t = refl
    by true e false t =
        absurd (not_from_Decides (int_eq x y) (Decides-int_eq x y) t (sym hx.value ∙ ap value_of (eqb-true w u e) ∙ hy.value))
    by false e true t =
        absurd (eqb-false w u e (word_is w x hx ∙ ap word_of ((Decides-int_eq x y).0 t) ∙ sym (word_is u y hy)))

holds_truth : (b : Bool) → HoldsValue (cond b 1 0) (truth b)
holds_truth true = holds_number 1 (omega arith)
holds_truth false = holds_number 0 (omega arith)

turned : (b : Bool) → ◌≡◌ {A = ℕ} (cond b 0 1) (cond (not b) 1 0)
turned true = refl
turned false = refl

same_zero : (y : ℤ) → is_zero y ≡ int_eq y (pos 0)
same_zero (pos zero) = refl
same_zero (pos (suc n)) = by (int_eq (pos (suc n)) (pos 0)) refl
  where
    by : (b : Bool) → int_eq (pos (suc n)) (pos 0) ≡ b → false ≡ b
    by false e = refl
    by true e = let same : suc n ≡ 0 = ap unsigned_abs ((Decides-int_eq (pos (suc n)) (pos 0)).0 e) in absurd (omega (arith, same))
same_zero (negsuc n) = refl

nearer_fits : (r d : ℤ) → unsigned_abs r < unsigned_abs d → FitsSigned w64 d → FitsSigned w64 r
nearer_fits (pos n) (pos m) h f = record { sfits = omega (arith, h, f.sfits) }
nearer_fits (pos n) (negsuc m) h f = record { sfits = omega (arith, h, f.sfits) }
nearer_fits (negsuc n) (pos m) h f = record { sfits = omega (arith, h, f.sfits) }
nearer_fits (negsuc n) (negsuc m) h f = record { sfits = omega (arith, h, f.sfits) }

is_away : (d : ℤ) → int_eq d (pos 0) ≡ false → 0 < unsigned_abs d
is_away (pos zero) e = cc
is_away (pos (suc n)) e = omega arith
is_away (negsuc n) e = omega arith

zero_minus : (v : ℤ) → pos 0 -ℤ v ≡ neg_ℤ v
zero_minus v = omega (arith, ints)

-- an operator that its left operand does not decide
abbrev IsPlain : Operator → Type 0
IsPlain operator.And = ⊥
IsPlain operator.Or = ⊥
IsPlain o = Unit {0}

-- what operators do with the values in two registers
module _ (W : ℕ) (m : Memory Where) (g h : List ℕ) (d : ℕ) (low : suc d < 64) (count : length h ≡ 64)
    (keeps : (i : ℕ) → i < d → slice_index h i ≡ slice_index g i) where
  abbrev comes_to : (at n : ℕ) → List Instr → List Instr → Result ℤ TrapAt → Type 0
  comes_to at n is rest t = Meets W (at + n) rest (InReg d g) (capsule_from W at 0 is h) m t

  set_meets : (i : Instr) (at : ℕ) (rest : List Instr) (w : ℕ) (v : ℤ) → does W i h ≡ Sets (register d) w → HoldsValue w v
      → comes_to at 1 (i ∷ rest) rest (Ok v)
  set_meets i at rest w v e is =
      (slice_set h (register d).index w, goes_equal _ _ m (sets W at i rest h (register d) w e), in_reg g h d w v (omega (arith, low)) count keeps is)

  stop_meets : (i : Instr) (at : ℕ) (rest : List Instr) (stop : TrapAt) → does W i h ≡ traps stop.0 stop.1 → comes_to at 1 (i ∷ rest) rest (Err stop)
  stop_meets i at rest stop e = goes_equal _ _ m (stops W at i rest h (Trapping stop.0 stop.1) e)

  whole_meets : (i : Instr) (at line : ℕ) (rest : List Instr) (z : ℤ) → does W i h ≡ acts.whole line (register d) z
      → comes_to at 1 (i ∷ rest) rest (at_line line (in_range z))
  whole_meets i at line rest z e = by (fits z) refl
    where
      choice : Bool → Act
      choice b = cond b (Sets (register d) (word_of z)) (traps trap.Overflow line)

      by : (b : Bool) → fits z ≡ b → comes_to at 1 (i ∷ rest) rest (at_line line (cond b (Ok z) (Err trap.Overflow)))
      by true t = set_meets i at rest (word_of z) z (e ∙ ap choice (same_fits z ∙ t)) (holds_word z (fits_signed z t))
      by false t = stop_meets i at rest (trap.Overflow, line) (e ∙ ap choice (same_fits z ∙ t))

  divided_meets : (i : Instr) (at line : ℕ) (rest : List Instr) (x y z : ℤ) → does W i h ≡ acts.divided line (register d) x y z
      → (int_eq y (pos 0) ≡ false → fits (int_div x y) ≡ true → FitsSigned w64 z)
      → comes_to at 1 (i ∷ rest) rest (at_line line (divided x y z))
  divided_meets i at line rest x y z e fit = by (int_eq y (pos 0)) refl (fits (int_div x y)) refl
    where
      choice : Bool → Bool → Act
      choice b c = cond b (traps trap.DivZero line) (cond c (Sets (register d) (word_of z)) (traps trap.Overflow line))

      by : (b : Bool) → int_eq y (pos 0) ≡ b → (c : Bool) → fits (int_div x y) ≡ c
          → comes_to at 1 (i ∷ rest) rest (at_line line (cond b (Err trap.DivZero) (cond c (Ok z) (Err trap.Overflow))))
      by true s c t = stop_meets i at rest (trap.DivZero, line) (e ∙ ap₂ choice (same_zero y ∙ s) (same_fits (int_div x y) ∙ t))
      by false s true t = set_meets i at rest (word_of z) z (e ∙ ap₂ choice (same_zero y ∙ s) (same_fits (int_div x y) ∙ t)) (holds_word z (fit s t))
      by false s false t = stop_meets i at rest (trap.Overflow, line) (e ∙ ap₂ choice (same_zero y ∙ s) (same_fits (int_div x y) ∙ t))

  compare_meets : (i : Instr) (at : ℕ) (rest : List Instr) (b : Bool) → does W i h ≡ Sets (register d) (cond b 1 0)
      → comes_to at 1 (i ∷ rest) rest (Ok (truth b))
  compare_meets i at rest b e = set_meets i at rest (cond b 1 0) (truth b) e (holds_truth b)

  module _ (x y : ℤ) (hx : HoldsValue (slice_index h d) x) (hy : HoldsValue (slice_index h (suc d)) y) where
    held_first : held h (register d) ≡ slice_index h d
    held_first = held_at h d (omega (arith, low))

    held_second : held h (register (suc d)) ≡ slice_index h (suc d)
    held_second = held_at h (suc d) low

    first : value_of (held h (register d)) ≡ x
    first = ap value_of held_first ∙ hx.value

    second : value_of (held h (register (suc d))) ≡ y
    second = ap value_of held_second ∙ hy.value

    same_held : (held h (register d) == held h (register (suc d))) ≡ int_eq x y
    same_held = ap₂ (λ (w u : ℕ). w == u) held_first held_second ∙ same_words (slice_index h d) (slice_index h (suc d)) x y hx hy

    plain_meets : (o : Operator) → IsPlain o → (at line : ℕ) (rest : List Instr)
        → comes_to at 1 (operator_code o line d rest) rest (at_line line (applied o x y))
    plain_meets operator.And plain at line rest = absurd plain
    plain_meets operator.Or plain at line rest = absurd plain
    plain_meets operator.Add plain at line rest =
        whole_meets (instr.Add (register d) (register d) (register (suc d)) line) at line rest (x +ℤ y)
        (ap₂ (λ (x y : ℤ). acts.whole line (register d) (x +ℤ y)) first second)
    plain_meets operator.Sub plain at line rest =
        whole_meets (instr.Sub (register d) (register d) (register (suc d)) line) at line rest (x -ℤ y)
        (ap₂ (λ (x y : ℤ). acts.whole line (register d) (x -ℤ y)) first second)
    plain_meets operator.Mul plain at line rest =
        whole_meets (instr.Mul (register d) (register d) (register (suc d)) line) at line rest (x *ℤ y)
        (ap₂ (λ (x y : ℤ). acts.whole line (register d) (x *ℤ y)) first second)
    plain_meets operator.Div plain at line rest =
        divided_meets (instr.Div (register d) (register d) (register (suc d)) line) at line rest x y (int_div x y)
        (ap₂ (λ (x y : ℤ). acts.divided line (register d) x y (int_div x y)) first second) (λ s t. fits_signed (int_div x y) t)
    plain_meets operator.Rem plain at line rest =
        divided_meets (instr.Rem (register d) (register d) (register (suc d)) line) at line rest x y (int_rem x y)
        (ap₂ (λ (x y : ℤ). acts.divided line (register d) x y (int_rem x y)) first second)
        (λ s t. nearer_fits (int_rem x y) y (rem_below x y (is_away y s)) (value_fits (slice_index h (suc d)) y hy))
    plain_meets operator.Eq plain at line rest =
        compare_meets (instr.Equal (register d) (register d) (register (suc d))) at rest (int_eq x y)
        (ap (λ (b : Bool). Sets (register d) (cond b 1 0)) same_held)
    plain_meets operator.Ne plain at line rest =
        compare_meets (instr.NotEqual (register d) (register d) (register (suc d))) at rest (not (int_eq x y))
        (ap (λ (b : Bool). Sets (register d) (cond b 0 1)) same_held ∙ ap (Sets (register d)) (turned (int_eq x y)))
    plain_meets operator.Lt plain at line rest =
        compare_meets (instr.Less (register d) (register d) (register (suc d))) at rest (int_lt x y)
        (ap₂ (λ (x y : ℤ). Sets (register d) (cond (int_lt x y) 1 0)) first second)
    plain_meets operator.Le plain at line rest =
        compare_meets (instr.AtMost (register d) (register d) (register (suc d))) at rest (int_le x y)
        (ap₂ (λ (x y : ℤ). Sets (register d) (cond (int_le x y) 1 0)) first second)
    plain_meets operator.Gt plain at line rest =
        compare_meets (instr.Less (register d) (register (suc d)) (register d)) at rest (int_lt y x)
        (ap₂ (λ (x y : ℤ). Sets (register d) (cond (int_lt y x) 1 0)) first second)
    plain_meets operator.Ge plain at line rest =
        compare_meets (instr.AtMost (register d) (register (suc d)) (register d)) at rest (int_le y x)
        (ap₂ (λ (x y : ℤ). Sets (register d) (cond (int_le y x) 1 0)) first second)

  -- 1 where the word in the register isn't 0, else 0
  pub truth_meets : (v : ℤ) → HoldsValue (slice_index h d) v → (at : ℕ) (rest : List Instr)
      → comes_to at 2 (truth_code d rest) rest (Ok (truth (holds v)))
  truth_meets v hv at rest =
      let zeroed = slice_set h (register (suc d)).index 0 in
      let last = instr.NotEqual (register d) (register d) (register (suc d)) in
      let step : held zeroed (register d) ≡ slice_index h d =
      held_at zeroed d (omega (arith, low)) ∙ set_keeps h (suc d) 0 d low (omega arith) in
      let zero_is : held zeroed (register (suc d)) ≡ 0 = held_at zeroed (suc d) low ∙ set_at h (suc d) 0 count low in
      let same : (held zeroed (register d) == held zeroed (register (suc d))) ≡ int_eq v (pos 0) =
      ap₂ (λ (w u : ℕ). w == u) step zero_is ∙ same_words (slice_index h d) 0 v (pos 0) hv (holds_number 0 (omega arith)) in
      let b = not (int_eq v (pos 0)) in (
        slice_set zeroed (register d).index (cond b 1 0),
        goes_equal _ _ m (sets W at (instr.Const (register (suc d)) (pos 0)) (last ∷ rest) h (register (suc d)) 0 refl
            ∙ sets W (at + 1) last rest zeroed (register d) (cond b 1 0)
            (ap (λ (b : Bool). Sets (register d) (cond b 0 1)) same ∙ ap (Sets (register d)) (turned (int_eq v (pos 0))))
            ∙ here_is W (at + 1 + 1) (at + 2) 0 rest (slice_set zeroed (register d).index (cond b 1 0)) (omega arith)),
        in_reg g zeroed d (cond b 1 0) (truth b) (omega (arith, low)) (set_count h (suc d) 0 count)
            (λ i below. set_keeps h (suc d) 0 i low (omega (arith, below)) ∙ keeps i below) (holds_truth b),
      )

-- a region that lies in its array, of arrays with so many words together at most
pub record IsPlaced (lengths : List ℕ) (r : Region) : Type 0 where
  pub small : sum lengths ≤ 4194304
  pub within : r.start + r.length ≤ get_or lengths r.array 0

module _ (lengths : List ℕ) (r : Region) (placed : IsPlaced lengths r) where
  pub region_short : r.length ≤ 4194304
  region_short = omega (arith, placed.small, placed.within, array_within lengths r.array)

  pub region_end : offset_of lengths r.array + r.start + r.length ≤ sum lengths
  region_end = omega (arith, placed.within, array_within lengths r.array)

  pub region_length : length_of (region_word lengths r) ≡ r.length
  region_length = mod-mul-add (offset_of lengths r.array + r.start) (2 ^ 32) r.length (omega (arith, region_short))

  pub region_start : start_of (region_word lengths r) ≡ offset_of lengths r.array + r.start
  region_start = div-mul-add (offset_of lengths r.array + r.start) (2 ^ 32) r.length (omega (arith, region_short))

  -- what an instruction does at an index of the region
  abbrev pub at_index : (ℕ → Step) → Result ℕ TrapAt → Act
  at_index step (Ok k) = Steps (step (offset_of lengths r.array + (r.start + k)))
  at_index step (Err stop) = traps stop.0 stop.1

  pub element_acts : (line w : ℕ) (i : ℤ) (step : ℕ → Step) → HoldsValue w i
      → at_element line (element_of (sum lengths) (region_word lengths r) w) step ≡ at_index step (index_in line r i)
  element_acts line w i step h =
      ap₂ (λ (length start : ℕ). at_element line (cond (nat_lt w length && nat_lt (start + w) (sum lengths)) (Some (start + w)) None) step)
      region_length region_start ∙ by i h (word_is w i h)
    where
      act : ℕ → Bool → Bool → Act
      act w b c = at_element line (cond (b && c) (Some (offset_of lengths r.array + r.start + w)) None) step

      at_number : (k : ℕ) (b : Bool) → nat_lt k r.length ≡ b
          → act k b (nat_lt (offset_of lengths r.array + r.start + k) (sum lengths)) ≡ at_index step (tested b (trap.Index, line) k)
      at_number k false e = refl
      at_number k true e =
          let low = ltb-true k r.length e in
          ap (act k true) (lt-ltb (offset_of lengths r.array + r.start + k) (sum lengths) (omega (arith, low, region_end)))
          ∙ ap (λ (x : ℕ). Steps (step x)) (omega arith)

      by : (i : ℤ) → HoldsValue w i → w ≡ word_of i
          → act w (nat_lt w r.length) (nat_lt (offset_of lengths r.array + r.start + w) (sum lengths)) ≡ at_index step (index_in line r i)
      by (pos k) h e =
          ap (λ (w : ℕ). act w (nat_lt w r.length) (nat_lt (offset_of lengths r.array + r.start + w) (sum lengths))) e
          ∙ at_number k (nat_lt k r.length) refl
      by (negsuc k) h e =
          let fit = value_fits w (negsuc k) h in
          ap (λ (b : Bool). act w b (nat_lt (offset_of lengths r.array + r.start + w) (sum lengths)))
          (le-ltb w r.length (omega (arith, fit.sfits, e, region_short)))

-- what holds of all of two lists
pub all_front : {X : Type 0} (P : X → Type 0) (xs ys : List X) → All P (xs ++ ys) → All P xs
all_front P xs ys h = subst (All P) (take_at xs ys (length xs) refl) (All-take P (length xs) (xs ++ ys) h)

pub all_behind : {X : Type 0} (P : X → Type 0) (xs ys : List X) → All P (xs ++ ys) → All P ys
all_behind P xs ys h = subst (All P) (drop_at xs ys (length xs) refl) (All-drop P (length xs) (xs ++ ys) h)

-- an expression has a node
pub some_node : (e : Expression) → 1 ≤ length (nodes e)
some_node (tree.Number z) = omega arith
some_node (tree.Name x) = omega arith
some_node (tree.Element x index) = omega arith
some_node (tree.Len x) = omega arith
some_node (tree.Minus line e) = omega arith
some_node (tree.Binary o line left right) = omega arith

-- a memory in which the frame and the arrays are held
pub record Sees (lengths : List ℕ) (scope : Scope) (layout : Layout) (f : Frame) (arrays : Arrays) (m : Memory Where) : Type 0 where
  pub small : sum lengths ≤ 4194304
  pub local : (x : List ℕ) (d : Declaration) → declared scope x ≡ Some d → is_region d.mode ≡ false → Has layout x
      → HoldsValue (m (Own (Slot (slot_of layout x)))) (f.locals x)
  pub region : (x : List ℕ) (d : Declaration) → declared scope x ≡ Some d → is_region d.mode ≡ true → Has layout x
      → m (Own (Slot (slot_of layout x))) ≡ region_word lengths (f.regions x)
  pub word : (k i : ℕ) → i < get_or lengths k 0 → HoldsValue (m (Shared (offset_of lengths k + i))) (get_or (array_at arrays k) i (pos 0))
  pub lies : Lies lengths scope f

module _ (lengths : List ℕ) (scope : Scope) (layout : Layout) (f : Frame) (arrays : Arrays) (m : Memory Where)
    (s : Sees lengths scope layout f arrays m) where
  abbrev W : ℕ
  W = sum lengths

  -- a name's slot holds what it stands for
  pub local_held : (x : List ℕ) → IsKept scope layout false x → HoldsValue (m (Own (Slot (slot_of layout x)))) (f.locals x)
  local_held x k = s.local x k.declaration k.found k.kind k.has

  pub region_held : (x : List ℕ) → IsKept scope layout true x → m (Own (Slot (slot_of layout x))) ≡ region_word lengths (f.regions x)
  region_held x k = s.region x k.declaration k.found k.kind k.has

  pub region_placed : (x : List ℕ) → IsKept scope layout true x → IsPlaced lengths (f.regions x)
  region_placed x k = record { small = s.small; within = s.lies.within x k.declaration k.found k.kind (k.seen refl) }

  -- the word of a region at an index
  get_meets : (r : Region) → IsPlaced lengths r → (d at line : ℕ) (rest : List Instr) (g h : List ℕ) (i : ℤ) → suc d < 64 → length h ≡ 64
      → ((j : ℕ) → j < d → slice_index h j ≡ slice_index g j) → HoldsValue (slice_index h d) i → slice_index h (suc d) ≡ region_word lengths r
      → Meets W (at + 1) rest (InReg d g) (capsule_from W at 0 (instr.Get (register d) (register (suc d)) (register d) line ∷ rest) h) m
      (then_with (index_in line r i) (λ k. Ok (word_at arrays r k)))
  get_meets r placed d at line rest g h i low count keeps is_i is_r = by (index_in line r i) refl
    where
      get : Instr
      get = instr.Get (register d) (register (suc d)) (register d) line

      step : ℕ → Step
      step x = Loads (Array x) (register d)

      act : does W get h ≡ at_index lengths r placed step (index_in line r i)
      act =
          ap₂ (λ (q w : ℕ). at_element line (element_of W q w) step) (held_at h (suc d) low ∙ is_r) (held_at h d (omega (arith, low)))
          ∙ element_acts lengths r placed line (slice_index h d) i step is_i

      by : (t : Result ℕ TrapAt) → index_in line r i ≡ t
          → Meets W (at + 1) rest (InReg d g) (capsule_from W at 0 (get ∷ rest) h) m (then_with t (λ k. Ok (word_at arrays r k)))
      by (Ok k) e =
          let x = offset_of lengths r.array + (r.start + k) in
          let v = m (Shared x) in
          let below = index_below line r i k e in (
            slice_set h (register d).index v,
            loads W at get rest h (Array x) (register d) m (act ∙ ap (at_index lengths r placed step) e),
            in_reg g h d v (word_at arrays r k) (omega (arith, low)) count keeps (s.word r.array (r.start + k) (omega (arith, below, placed.within))),
          )
      by (Err stop) e = goes_equal _ _ m (stops W at get rest h (Trapping stop.0 stop.1) (act ∙ ap (at_index lengths r placed step) e))

  -- after the left operand of `&&` and `||`: past the right one, or through it
  module _ (right : Expression) (d here : ℕ) (rest : List Instr) (g h : List ℕ) (x : ℤ) (low : suc d < 64) (is_x : InReg d g x h)
      (runs : Meets W (here + 1 + size_of right) (truth_code d rest) (InReg d h)
      (capsule_from W (here + 1) 0 (expression_code layout right d (here + 1) (truth_code d rest)) h) m (evaluate f arrays right)) where
    abbrev code : List Instr
    code = expression_code layout right d (here + 1) (truth_code d rest)

    abbrev target : ℕ
    target = here + 1 + size_of right

    abbrev done : ℕ
    done = here + 1 + size_of right + 2

    is_nought : (held h (register d) == 0) ≡ int_eq x (pos 0)
    is_nought =
        ap (λ (w : ℕ). w == 0) (held_at h d (omega (arith, low)))
        ∙ same_words (slice_index h d) 0 x (pos 0) is_x.value (holds_number 0 (omega arith))

    -- past it
    past_meets : (branch : Instr) → does W branch h ≡ Jumps target
        → Meets W done rest (InReg d g) (capsule_from W here 0 (branch ∷ code) h) m (Ok (truth (holds x)))
    past_meets branch e =
        goes_meets W done rest (InReg d g) (capsule_from W here 0 (branch ∷ code) h) (capsule_from W target 0 (truth_code d rest) h) m
        (Ok (truth (holds x)))
        (goes_equal _ _ m (jumps W here branch code h target (size_of right) e refl
        ∙ skip_expression W layout right (here + 1) d (here + 1) (truth_code d rest) h (size_of right) 0 (omega arith)))
        (truth_meets W m g h d low is_x.count is_x.keeps x is_x.value target rest)

    -- through it
    through_meets : (branch : Instr) → does W branch h ≡ Passes
        → Meets W done rest (InReg d g) (capsule_from W here 0 (branch ∷ code) h) m (then_with (evaluate f arrays right) (λ y. Ok (truth (holds y))))
    through_meets branch e =
        goes_meets W done rest (InReg d g) (capsule_from W here 0 (branch ∷ code) h) (capsule_from W (here + 1) 0 code h) m
        (then_with (evaluate f arrays right) (λ y. Ok (truth (holds y)))) (goes_equal _ _ m (passes W here branch code h e))
        (bind_meets W target done (truth_code d rest) rest (InReg d h) (InReg d g) (capsule_from W (here + 1) 0 code h) m (evaluate f arrays right)
        (λ y. Ok (truth (holds y))) runs (λ y h' k.
        truth_meets W m g h' d low k.count (λ i below. k.keeps i below ∙ is_x.keeps i below) y k.value target rest))

    and_meets : (line : ℕ) → Meets W done rest (InReg d g) (capsule_from W here 0 (instr.BranchZero (register d) target ∷ code) h) m
        (unless_decided (decided operator.And x) (then_with (evaluate f arrays right) (λ y. at_line line (applied operator.And x y))))
    and_meets line = by (int_eq x (pos 0)) refl
      where
        branch : Instr
        branch = instr.BranchZero (register d) target

        choice : Bool → Act
        choice b = cond b (Jumps target) Passes

        by : (b : Bool) → int_eq x (pos 0) ≡ b → Meets W done rest (InReg d g) (capsule_from W here 0 (branch ∷ code) h) m
            (unless_decided (cond (not b) None (Some (pos 0))) (then_with (evaluate f arrays right) (λ y. Ok (truth (not b && holds y)))))
        by true e =
            subst (λ (b : Bool). Meets W done rest (InReg d g) (capsule_from W here 0 (branch ∷ code) h) m (Ok (truth (not b)))) e
            (past_meets branch (ap choice (is_nought ∙ e)))
        by false e = through_meets branch (ap choice (is_nought ∙ e))

    or_meets : (line : ℕ) → Meets W done rest (InReg d g) (capsule_from W here 0 (instr.BranchNonZero (register d) target ∷ code) h) m
        (unless_decided (decided operator.Or x) (then_with (evaluate f arrays right) (λ y. at_line line (applied operator.Or x y))))
    or_meets line = by (int_eq x (pos 0)) refl
      where
        branch : Instr
        branch = instr.BranchNonZero (register d) target

        choice : Bool → Act
        choice b = cond b Passes (Jumps target)

        by : (b : Bool) → int_eq x (pos 0) ≡ b → Meets W done rest (InReg d g) (capsule_from W here 0 (branch ∷ code) h) m
            (unless_decided (cond (not b) (Some (pos 1)) None) (then_with (evaluate f arrays right) (λ y. Ok (truth (not b || holds y)))))
        by false e =
            subst (λ (b : Bool). Meets W done rest (InReg d g) (capsule_from W here 0 (branch ∷ code) h) m (Ok (truth (not b)))) e
            (past_meets branch (ap choice (is_nought ∙ e)))
        by true e = through_meets branch (ap choice (is_nought ∙ e))

  -- the code of an expression comes to its value or its trap
  abbrev pub Runs : Expression → Type 0
  Runs e = (d at : ℕ) (rest : List Instr) (g : List ℕ)
      → FitsExpression scope layout e → All IsNode (nodes e) → d + length (nodes e) ≤ 64 → length g ≡ 64
      → Meets W (at + size_of e) rest (InReg d g) (capsule_from W at 0 (expression_code layout e d at rest) g) m (evaluate f arrays e)

  number_runs : (z : ℤ) → Runs (tree.Number z)
  number_runs z d at rest g fits small room count =
      let literal = All-head IsLiteral z [] (All-head IsNode (tree.Number z) [] small).numbers in (
        slice_set g (register d).index (word_of z),
        goes_equal _ _ m (sets W at (instr.Const (register d) z) rest g (register d) (word_of z) refl),
        in_reg g g d (word_of z) z (omega (arith, room)) count (λ i below. refl) (holds_word z (literal_fits z literal)),
      )

  name_runs : (x : Named) → Runs (tree.Name x)
  name_runs x d at rest g fits small room count =
      let slot = slot_of layout x.name in
      let v = m (Own (Slot slot)) in (
        slice_set g (register d).index v,
        loads W at (instr.LoadSlot (register d) slot) rest g (OwnWord (Slot slot)) (register d) m refl,
        in_reg g g d v (f.locals x.name) (omega (arith, room)) count (λ i below. refl) (local_held x.name fits),
      )

  len_runs : (x : Named) → Runs (tree.Len x)
  len_runs x d at rest g fits small room count =
      let slot = slot_of layout x.name in
      let r = f.regions x.name in
      let q = m (Own (Slot slot)) in
      let h = slice_set g (register d).index q in
      let low : d < 64 = omega (arith, room) in
      let length = instr.Len (register d) (register d) in
      let is_length : length_of (held h (register d)) ≡ r.length =
      ap length_of (held_at h d low ∙ set_at g d q count low ∙ region_held x.name fits) ∙ region_length lengths r (region_placed x.name fits) in (
        slice_set h (register d).index r.length,
        goes_on (loads W at (instr.LoadSlot (register d) slot) (length ∷ rest) g (OwnWord (Slot slot)) (register d) m refl)
            (goes_equal _ _ m (sets W (at + 1) length rest h (register d) r.length (ap (Sets (register d)) is_length)
            ∙ here_is W (at + 1 + 1) (at + 2) 0 rest (slice_set h (register d).index r.length) (omega arith))),
        in_reg g h d r.length (pos r.length) low (set_count g d q count) (λ i below. set_keeps g d q i low below)
            (holds_number r.length (omega (arith, region_short lengths r (region_placed x.name fits)))),
      )

  element_runs : (x : Named) (index : Expression) → Runs index → Runs (tree.Element x index)
  element_runs x index p d at rest g fits small room count =
      let slot = slot_of layout x.name in
      let r = f.regions x.name in
      let q = m (Own (Slot slot)) in
      let low : suc d < 64 = omega (arith, room, some_node index) in
      let load = instr.LoadSlot (register (suc d)) slot in
      let get = instr.Get (register d) (register (suc d)) (register d) x.line in
      let mid = load ∷ get ∷ rest in
      let n = at + size_of index in
      let done = at + (size_of index + 2) in
      bind_meets W n done mid rest (InReg d g) (InReg d g) _ m (evaluate f arrays index) _
      (p d at mid g fits.1 (All-tail IsNode (tree.Element x index) (nodes index) small) (omega (arith, room)) count) (λ i h k.
      let h' = slice_set h (register (suc d)).index q in
      let t = then_with (index_in x.line r i) (λ k. Ok (word_at arrays r k)) in
      meets_at W (n + 1 + 1) done rest (InReg d g) (capsule_from W n 0 mid h) m t (omega arith)
      (goes_meets W (n + 1 + 1) rest (InReg d g) (capsule_from W n 0 mid h) (capsule_from W (n + 1) 0 (get ∷ rest) h') m t
      (loads W n load (get ∷ rest) h (OwnWord (Slot slot)) (register (suc d)) m refl)
      (get_meets r (region_placed x.name fits.0) d (n + 1) x.line rest g h' i low (set_count h (suc d) q k.count)
      (λ j below. set_keeps h (suc d) q j low (omega (arith, below)) ∙ k.keeps j below)
      (subst (λ (w : ℕ). HoldsValue w i) (sym (set_keeps h (suc d) q d low (omega arith))) k.value)
      (set_at h (suc d) q k.count low ∙ region_held x.name fits.0))))

  minus_runs : (line : ℕ) (e : Expression) → Runs e → Runs (tree.Minus line e)
  minus_runs line e p d at rest g fits small room count =
      let low : suc d < 64 = omega (arith, room, some_node e) in
      let low' : d < 64 = omega (arith, low) in
      let zero_code = instr.Const (register d) (pos 0) in
      let sub = instr.Sub (register d) (register d) (register (suc d)) line in
      let code = expression_code layout e (suc d) (suc at) (sub ∷ rest) in
      let h = slice_set g (register d).index 0 in
      let n = suc at + size_of e in
      let done = at + (suc (size_of e) + 1) in
      bind_meets W n done (sub ∷ rest) rest (InReg (suc d) h) (InReg d g) _ m (evaluate f arrays e) _
      (goes_meets W n (sub ∷ rest) (InReg (suc d) h) (capsule_from W at 0 (zero_code ∷ code) g) (capsule_from W (suc at) 0 code h) m
      (evaluate f arrays e)
      (goes_equal _ _ m (sets W at zero_code code g (register d) 0 refl ∙ here_is W (at + 1) (suc at) 0 code h (omega arith)))
      (p (suc d) (suc at) (sub ∷ rest) h fits (All-tail IsNode (tree.Minus line e) (nodes e) small) (omega (arith, room)) (set_count g d 0 count)))
      (λ v i j.
      let keeps : (z : ℕ) → z < d → slice_index i z ≡ slice_index g z =
      λ z below. j.keeps z (omega (arith, below)) ∙ set_keeps g d 0 z low' below in
      let nought : value_of (held i (register d)) ≡ pos 0 =
      ap value_of (held_at i d low' ∙ j.keeps d (omega arith) ∙ set_at g d 0 count low') in
      let value : value_of (held i (register (suc d))) ≡ v = ap value_of (held_at i (suc d) low) ∙ j.value.value in
      meets_at W (n + 1) done rest (InReg d g) (capsule_from W n 0 (sub ∷ rest) i) m (at_line line (negated v)) (omega arith)
      (whole_meets W m g i d low j.count keeps sub n line rest (neg_ℤ v)
      (ap₂ (λ (x y : ℤ). acts.whole line (register d) (x -ℤ y)) nought value ∙ ap (acts.whole line (register d)) (zero_minus v))))

  -- the room for the parts of a binary operator
  parts_room : (o : Operator) (line d : ℕ) (left right : Expression) → d + length (nodes (tree.Binary o line left right)) ≤ 64
      → d + 1 + length (nodes left) + length (nodes right) ≤ 64
  parts_room o line d left right room = omega (arith, room, length-append (nodes left) (nodes right))

  plain_runs : (o : Operator) → IsPlain o → (line : ℕ) (left right : Expression) → Runs left → Runs right
      → (d at : ℕ) (rest : List Instr) (g : List ℕ) → FitsExpression scope layout left × FitsExpression scope layout right
      → All IsNode (nodes (tree.Binary o line left right)) → d + length (nodes (tree.Binary o line left right)) ≤ 64 → length g ≡ 64
      → Meets W (at + (size_of left + 0 + size_of right + 1)) rest (InReg d g)
      (capsule_from W at 0 (expression_code layout left d at
      (expression_code layout right (suc d) (at + size_of left + 0) (operator_code o line d rest))) g) m
      (then_with (evaluate f arrays left) (λ x. then_with (evaluate f arrays right) (λ y. at_line line (applied o x y))))
  plain_runs o plain line left right p q d at rest g fits small room count =
      let parts = All-tail IsNode (tree.Binary o line left right) (nodes left ++ nodes right) small in
      let fit = parts_room o line d left right room in
      let low : suc d < 64 = omega (arith, fit, some_node left, some_node right) in
      let last = operator_code o line d rest in
      let n = at + size_of left in
      let from = at + size_of left + 0 in
      let mid = expression_code layout right (suc d) from last in
      let done = at + (size_of left + 0 + size_of right + 1) in
      bind_meets W n done mid rest (InReg d g) (InReg d g) _ m (evaluate f arrays left) _
      (p d at mid g fits.0 (all_front IsNode (nodes left) (nodes right) parts) (omega (arith, fit)) count) (λ x h k.
      bind_meets W (from + size_of right) done last rest (InReg (suc d) h) (InReg d g) _ m (evaluate f arrays right) _
      (goes_meets W (from + size_of right) last (InReg (suc d) h) (capsule_from W n 0 mid h) (capsule_from W from 0 mid h) m (evaluate f arrays right)
      (goes_equal _ _ m (here_is W n from 0 mid h (omega arith)))
      (q (suc d) from last h fits.1 (all_behind IsNode (nodes left) (nodes right) parts) (omega (arith, fit, some_node left)) k.count)) (λ y i j.
      meets_at W (from + size_of right + 1) done rest (InReg d g) (capsule_from W (from + size_of right) 0 last i) m (at_line line (applied o x y))
      (omega arith)
      (plain_meets W m g i d low j.count (λ z below. j.keeps z (omega (arith, below)) ∙ k.keeps z below) x y
      (subst (λ (w : ℕ). HoldsValue w x) (sym (j.keeps d (omega arith))) k.value) j.value o plain (from + size_of right) line rest)))

  and_runs : (line : ℕ) (left right : Expression) → Runs left → Runs right → Runs (tree.Binary operator.And line left right)
  and_runs line left right p q d at rest g fits small room count =
      let parts = All-tail IsNode (tree.Binary operator.And line left right) (nodes left ++ nodes right) small in
      let fit = parts_room operator.And line d left right room in
      let low : suc d < 64 = omega (arith, fit, some_node left, some_node right) in
      let n = at + size_of left in
      let last = truth_code d rest in
      let mid = instr.BranchZero (register d) (n + 1 + size_of right) ∷ expression_code layout right d (n + 1) last in
      let done = at + (size_of left + 1 + size_of right + 2) in
      bind_meets W n done mid rest (InReg d g) (InReg d g) _ m (evaluate f arrays left) _
      (p d at mid g fits.0 (all_front IsNode (nodes left) (nodes right) parts) (omega (arith, fit)) count) (λ x h k.
      meets_at W (n + 1 + size_of right + 2) done rest (InReg d g) (capsule_from W n 0 mid h) m _ (omega arith)
      (and_meets right d n rest g h x low k
      (q d (n + 1) last h fits.1 (all_behind IsNode (nodes left) (nodes right) parts) (omega (arith, fit)) k.count) line))

  or_runs : (line : ℕ) (left right : Expression) → Runs left → Runs right → Runs (tree.Binary operator.Or line left right)
  or_runs line left right p q d at rest g fits small room count =
      let parts = All-tail IsNode (tree.Binary operator.Or line left right) (nodes left ++ nodes right) small in
      let fit = parts_room operator.Or line d left right room in
      let low : suc d < 64 = omega (arith, fit, some_node left, some_node right) in
      let n = at + size_of left in
      let last = truth_code d rest in
      let mid = instr.BranchNonZero (register d) (n + 1 + size_of right) ∷ expression_code layout right d (n + 1) last in
      let done = at + (size_of left + 1 + size_of right + 2) in
      bind_meets W n done mid rest (InReg d g) (InReg d g) _ m (evaluate f arrays left) _
      (p d at mid g fits.0 (all_front IsNode (nodes left) (nodes right) parts) (omega (arith, fit)) count) (λ x h k.
      meets_at W (n + 1 + size_of right + 2) done rest (InReg d g) (capsule_from W n 0 mid h) m _ (omega arith)
      (or_meets right d n rest g h x low k
      (q d (n + 1) last h fits.1 (all_behind IsNode (nodes left) (nodes right) parts) (omega (arith, fit)) k.count) line))

  binary_runs : (o : Operator) (line : ℕ) (left right : Expression) → Runs left → Runs right → Runs (tree.Binary o line left right)
  binary_runs operator.And line left right p q = and_runs line left right p q
  binary_runs operator.Or line left right p q = or_runs line left right p q
  binary_runs operator.Add line left right p q = plain_runs operator.Add tt line left right p q
  binary_runs operator.Sub line left right p q = plain_runs operator.Sub tt line left right p q
  binary_runs operator.Mul line left right p q = plain_runs operator.Mul tt line left right p q
  binary_runs operator.Div line left right p q = plain_runs operator.Div tt line left right p q
  binary_runs operator.Rem line left right p q = plain_runs operator.Rem tt line left right p q
  binary_runs operator.Eq line left right p q = plain_runs operator.Eq tt line left right p q
  binary_runs operator.Ne line left right p q = plain_runs operator.Ne tt line left right p q
  binary_runs operator.Lt line left right p q = plain_runs operator.Lt tt line left right p q
  binary_runs operator.Le line left right p q = plain_runs operator.Le tt line left right p q
  binary_runs operator.Gt line left right p q = plain_runs operator.Gt tt line left right p q
  binary_runs operator.Ge line left right p q = plain_runs operator.Ge tt line left right p q

  pub expr_meets : (e : Expression) → Runs e
  expr_meets (tree.Number z) = number_runs z
  expr_meets (tree.Name x) = name_runs x
  expr_meets (tree.Element x index) = element_runs x index (expr_meets index)
  expr_meets (tree.Len x) = len_runs x
  expr_meets (tree.Minus line e) = minus_runs line e (expr_meets e)
  expr_meets (tree.Binary o line left right) = binary_runs o line left right (expr_meets left) (expr_meets right)
