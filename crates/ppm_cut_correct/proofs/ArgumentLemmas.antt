-- The arguments of a call: they come into registers, one after the other, as they make the callee's frame.
use Rattle.std.proofs.Common.{◌≡◌, ◌≤◌, ◌<◌, ℕ, suc, ◌+◌, cond, Bool, true, false, List, [], ◌∷◌, Some, Result, Ok}
use Rattle.std.proofs.Common.{Err, map, length, refl, sym, ap, ◌∙◌, subst, subst₂, arith}
use Rattle.std.specs.Prelude.{slice_index, slice_set}
use Rattle.std.specs.List.{All, sum}
use Rattle.std.specs.Str.{bytes_eq}
use Rattle.std.proofs.lemmas.List.{length-append, length-map}
use Rattle.ppm_strands.specs.Capsule.{Capsule, Memory}
use Rattle.ppm_strands.specs.Strand.{Own}
use Rattle.ppm_code.specs.declared.act.End.{End}
use Rattle.ppm_code.specs.declared.instr.Instr.{Instr}
use Rattle.ppm_code.specs.declared.instr.Instr.TheVariants as instr
use Rattle.ppm_code.specs.declared.location.FrameWord.{FrameWord}
use Rattle.ppm_code.specs.declared.location.FrameWord.TheVariants.{Slot, Value}
use Rattle.ppm_code.specs.declared.location.Location.TheVariants.{Frame as OwnWord}
use Rattle.ppm_code.specs.Locations.{Where}
use Rattle.ppm_code.specs.Capsules.{capsule_from}
use Rattle.ppm_tree.specs.declared.mode.Mode.{Mode}
use Rattle.ppm_tree.specs.declared.mode.Mode.TheVariants as mode
use Rattle.ppm_tree.specs.declared.named.Named.{Named}
use Rattle.ppm_tree.specs.declared.tree.Parameter.{Parameter}
use Rattle.ppm_tree.specs.Limits.{IsNode}
use Rattle.ppm_tree.specs.Parts.{nodes}
use Rattle.ppm_tree.specs.Tree.{Expression, Argument, Procedure}
use Rattle.ppm_tree.specs.Tree as tree
use Rattle.ppm_tree.specs.State.{TrapAt, Frame, Arrays, with_local, with_region, evaluate, with_argument, with_arguments}
use Rattle.ppm_regions.specs.Scope.{Declaration, Scope, declared, is_region, of_parameter}
use Rattle.ppm_regions.proofs.ScopeLemmas.{names_same, same_names, some_same}
use Rattle.ppm_cut_code.specs.Layout.{Layout, slot_of, parameter_layout, register}
use Rattle.ppm_cut_code.specs.Expressions.{size_of, expression_code}
use Rattle.ppm_cut_code.specs.Fits.{IsNew, IsDistinctLayout, IsRegion, FitsArgument, FitsArguments}
use Rattle.ppm_cut_code.specs.Slots.{procedure_slots}
use Rattle.ppm_cut_code.specs.Statements.{argument_size, argument_code, arguments_size, arguments_code, paired}
use Rattle.ppm_cut_code.proofs.RegionWords.{region_word}
use Rattle.ppm_cut_correct.proofs.Holding.{HoldsValue, Holds}
use Rattle.ppm_cut_correct.proofs.Doing.{argument_nodes}
use Rattle.ppm_cut_correct.proofs.ExprLemmas.{goes_same, loads, InReg, set_at, set_count, set_keeps, Meets, meets_at, bind_meets}
use Rattle.ppm_cut_correct.proofs.ExprLemmas.{all_front, all_behind, some_node, Sees, region_held, expr_meets}

-- what is known of the registers may be said otherwise
meets_as : {A : Type 0} (W at : ℕ) (rest : List Instr) (K L : A → List ℕ → Type 0) (p : Capsule Where End) (m : Memory Where)
    (t : Result A TrapAt)
    → ((v : A) (h : List ℕ) → K v h → L v h) → Meets W at rest K p m t → Meets W at rest L p m t
meets_as W at rest K L p m (Ok v) on h = (h.0, h.1, on v h.0 h.2)
meets_as W at rest K L p m (Err stop) on h = h

-- a procedure has a slot for each parameter
pub parameters_fit : (p : Procedure) → length (parameter_layout p.parameters) ≤ procedure_slots p
parameters_fit p = let same = length-map p.parameters (λ (p : Parameter). p.name.name) in omega (arith, same)

-- as many registers as parameters, and at least as many nodes
pub paired_is : (scope : Scope) (layout : Layout) (ps : List Parameter) (arguments : List Argument) → FitsArguments scope layout ps arguments
    → paired ps arguments ≡ length (parameter_layout ps)
paired_is scope layout [] [] fits = refl
paired_is scope layout [] (a ∷ arguments) fits = absurd fits
paired_is scope layout (p ∷ ps) [] fits = absurd fits
paired_is scope layout (p ∷ ps) (a ∷ arguments) fits = ap suc (paired_is scope layout ps arguments fits.1)

pub paired_few : (ps : List Parameter) (arguments : List Argument) → paired ps arguments ≤ length (argument_nodes arguments)
paired_few [] arguments = omega arith
paired_few (p ∷ ps) [] = omega arith
paired_few (p ∷ ps) (a ∷ arguments) =
    let some = some_node a.value in
    let rest = paired_few ps arguments in
    let both = length-append (nodes a.value) (argument_nodes arguments) in
    omega (arith, some, rest, both)

-- a frame before and after an argument for a parameter x of the mode, which has come into register d
module _ (lengths : List ℕ) where
  pub record Given (o : Mode) (x : List ℕ) (before : Frame) (d : ℕ) (g : List ℕ) (after : Frame) (h : List ℕ) : Type 0 where
    pub local : is_region o ≡ false → HoldsValue (slice_index h d) (after.locals x)
    pub region : is_region o ≡ true → slice_index h d ≡ region_word lengths (after.regions x)
    pub other_locals : (y : List ℕ) → bytes_eq x y ≡ false → after.locals y ≡ before.locals y
    pub other_regions : (y : List ℕ) → bytes_eq x y ≡ false → after.regions y ≡ before.regions y
    pub keeps : (i : ℕ) → i < d → slice_index h i ≡ slice_index g i
    pub count : length h ≡ 64

  -- a frame before and after all arguments for some parameters, which have come into registers from d on
  pub record AreGiven (ps : List Parameter) (before : Frame) (d : ℕ) (g : List ℕ) (after : Frame) (h : List ℕ) : Type 0 where
    pub local : (y : List ℕ) (e : Declaration) → declared (map of_parameter ps) y ≡ Some e → is_region e.mode ≡ false
        → HoldsValue (slice_index h (d + slot_of (parameter_layout ps) y)) (after.locals y)
    pub region : (y : List ℕ) (e : Declaration) → declared (map of_parameter ps) y ≡ Some e → is_region e.mode ≡ true
        → slice_index h (d + slot_of (parameter_layout ps) y) ≡ region_word lengths (after.regions y)
    pub other_locals : (y : List ℕ) → IsNew (parameter_layout ps) y → after.locals y ≡ before.locals y
    pub other_regions : (y : List ℕ) → IsNew (parameter_layout ps) y → after.regions y ≡ before.regions y
    pub keeps : (i : ℕ) → i < d → slice_index h i ≡ slice_index g i
    pub count : length h ≡ 64

  none_given : (before : Frame) (d : ℕ) (g : List ℕ) → length g ≡ 64 → AreGiven [] before d g before g
  none_given before d g count = record {
    local = λ y e found kind. absurd (cc);
    region = λ y e found kind. absurd (cc);
    other_locals = λ y new. refl;
    other_regions = λ y new. refl;
    keeps = λ i low. refl;
    count = count;
  }

  module _ (p : Parameter) (ps : List Parameter) (before middle after : Frame) (d : ℕ) (g h' h : List ℕ)
      (new : IsNew (parameter_layout ps) p.name.name)
      (first : Given p.mode p.name.name before d g middle h') (rest : AreGiven ps middle (suc d) h' after h) where
    abbrev slot_by : Bool → List ℕ → ℕ
    slot_by b y = cond b 0 (suc (slot_of (parameter_layout ps) y))

    first_slot : slice_index h (d + 0) ≡ slice_index h' d
    first_slot = ap (slice_index h) (let e : d + 0 ≡ d = omega arith in e) ∙ rest.keeps d (omega arith)

    later_slot : (y : List ℕ) → slice_index h (suc d + slot_of (parameter_layout ps) y) ≡ slice_index h (d + slot_by false y)
    later_slot y = ap (slice_index h) (let e : suc d + slot_of (parameter_layout ps) y ≡ d + suc (slot_of (parameter_layout ps) y) = omega arith in e)

    local_by : (y : List ℕ) (e : Declaration) → is_region e.mode ≡ false → (b : Bool) → bytes_eq p.name.name y ≡ b
        → cond b (Some (of_parameter p)) (declared (map of_parameter ps) y) ≡ Some e
        → HoldsValue (slice_index h (d + slot_by b y)) (after.locals y)
    local_by y e kind true same found =
        let is_kind : is_region p.mode ≡ false =
        ap (λ (e : Declaration). is_region e.mode) (some_same {o = Some (of_parameter p)} refl found) ∙ kind in
        let is_value : middle.locals p.name.name ≡ after.locals y =
        sym (rest.other_locals p.name.name new) ∙ ap after.locals (same_names p.name.name y same) in
        subst₂ HoldsValue (sym first_slot) is_value (first.local is_kind)
    local_by y e kind false same found = subst (λ (w : ℕ). HoldsValue w (after.locals y)) (later_slot y) (rest.local y e found kind)

    region_by : (y : List ℕ) (e : Declaration) → is_region e.mode ≡ true → (b : Bool) → bytes_eq p.name.name y ≡ b
        → cond b (Some (of_parameter p)) (declared (map of_parameter ps) y) ≡ Some e
        → slice_index h (d + slot_by b y) ≡ region_word lengths (after.regions y)
    region_by y e kind true same found =
        let is_kind : is_region p.mode ≡ true =
        ap (λ (e : Declaration). is_region e.mode) (some_same {o = Some (of_parameter p)} refl found) ∙ kind in
        first_slot ∙ first.region is_kind
        ∙ ap (region_word lengths) (sym (rest.other_regions p.name.name new) ∙ ap after.regions (same_names p.name.name y same))
    region_by y e kind false same found = sym (later_slot y) ∙ rest.region y e found kind

    other_by : (y : List ℕ) (b : Bool) → bytes_eq p.name.name y ≡ b → slot_by b y ≡ suc (length (parameter_layout ps))
        → (bytes_eq p.name.name y ≡ false) × IsNew (parameter_layout ps) y
    other_by y true same is = absurd (omega (arith, is))
    other_by y false same is = (same, omega (arith, is))

    more_given : AreGiven (p ∷ ps) before d g after h
    more_given = record {
      local = λ y e found kind. local_by y e kind (bytes_eq p.name.name y) refl found;
      region = λ y e found kind. region_by y e kind (bytes_eq p.name.name y) refl found;
      other_locals = λ y is. let o = other_by y (bytes_eq p.name.name y) refl is in rest.other_locals y o.1 ∙ first.other_locals y o.0;
      other_regions = λ y is. let o = other_by y (bytes_eq p.name.name y) refl is in rest.other_regions y o.1 ∙ first.other_regions y o.0;
      keeps = λ i low. rest.keeps i (omega (arith, low)) ∙ first.keeps i low;
      count = rest.count;
    }

  -- a frame whose slots are these registers holds the callee's
  pub given_holds : (ps : List Parameter) (before after : Frame) (d : ℕ) (g h : List ℕ) (own : FrameWord → ℕ) → AreGiven ps before d g after h
      → ((k : ℕ) → k < length (parameter_layout ps) → own (Slot k) ≡ slice_index h (d + k)) → own Value ≡ 0
      → Holds lengths (map of_parameter ps) (parameter_layout ps) after own
  given_holds ps before after d g h own given slots value = record {
    local = λ y e found kind has. subst (λ (w : ℕ). HoldsValue w (after.locals y))
        (sym (slots (slot_of (parameter_layout ps) y) has)) (given.local y e found kind);
    region = λ y e found kind has. slots (slot_of (parameter_layout ps) y) has ∙ given.region y e found kind;
    value = value;
  }

module _ (lengths : List ℕ) (scope : Scope) (layout : Layout) (f : Frame) (arrays : Arrays) (m : Memory Where)
    (s : Sees lengths scope layout f arrays m) where
  abbrev W : ℕ
  W = sum lengths

  -- a region is lent
  lent_meets : (o : Mode) → is_region o ≡ true → (x : List ℕ) (y : Named) (before : Frame) (d at : ℕ) (rest : List Instr) (g : List ℕ)
      → IsRegion scope layout y → d < 64 → length g ≡ 64
      → Meets W (at + 1) rest (Given lengths o x before d g) (capsule_from W at 0 (instr.LoadSlot (register d) (slot_of layout y.name) ∷ rest) g) m
      (Ok (with_region before x (f.regions y.name)))
  lent_meets o kind x y before d at rest g fits low count =
      let v = m (Own (Slot (slot_of layout y.name))) in
      let q = f.regions y.name in (
        slice_set g (register d).index v,
        loads W at (instr.LoadSlot (register d) (slot_of layout y.name)) rest g (OwnWord (Slot (slot_of layout y.name))) (register d) m refl,
        record {
          local = λ is. absurd (let t : true ≡ false = sym kind ∙ is in cc);
          region = λ is. set_at g d v count low ∙ region_held lengths scope layout f arrays m s y.name fits
              ∙ ap (λ (b : Bool). region_word lengths (cond b q (before.regions x))) (sym (names_same x x refl));
          other_locals = λ z other. refl;
          other_regions = λ z other. ap (λ (b : Bool). cond b q (before.regions z)) other;
          keeps = λ i below. set_keeps g d v i low below;
          count = set_count g d v count;
        },
      )

  argument_meets : (o : Mode) (x : List ℕ) (e : Expression) (before : Frame) (d at : ℕ) (rest : List Instr) (g : List ℕ)
      → FitsArgument scope layout o e → All IsNode (nodes e) → d + length (nodes e) ≤ 64 → length g ≡ 64
      → Meets W (at + argument_size o e) rest (Given lengths o x before d g) (capsule_from W at 0 (argument_code layout o e d at rest) g) m
      (with_argument f arrays o x e before)
  argument_meets mode.Int x e before d at rest g fits small room count =
      bind_meets W (at + size_of e) (at + size_of e) rest rest (InReg d g) (Given lengths mode.Int x before d g)
      (capsule_from W at 0 (expression_code layout e d at rest) g) m (evaluate f arrays e) (λ v. Ok (with_local before x v))
      (expr_meets lengths scope layout f arrays m s e d at rest g fits small room count) (λ v h k. (
        h,
        goes_same (capsule_from W (at + size_of e) 0 rest h) m,
        record {
          local = λ is. subst (HoldsValue (slice_index h d)) (ap (λ (b : Bool). cond b v (before.locals x)) (sym (names_same x x refl))) k.value;
          region = λ is. absurd (let t : false ≡ true = is in cc);
          other_locals = λ z other. ap (λ (b : Bool). cond b v (before.locals z)) other;
          other_regions = λ z other. refl;
          keeps = k.keeps;
          count = k.count;
        },
      ))
  argument_meets mode.Mut x (tree.Name y) before d at rest g fits small room count =
      lent_meets mode.Mut refl x y before d at rest g fits (omega (arith, room)) count
  argument_meets mode.Mut x (tree.Number z) before d at rest g fits small room count = absurd fits
  argument_meets mode.Mut x (tree.Element y index) before d at rest g fits small room count = absurd fits
  argument_meets mode.Mut x (tree.Len y) before d at rest g fits small room count = absurd fits
  argument_meets mode.Mut x (tree.Minus line e) before d at rest g fits small room count = absurd fits
  argument_meets mode.Mut x (tree.Binary o line left right) before d at rest g fits small room count = absurd fits
  argument_meets mode.Ref x (tree.Name y) before d at rest g fits small room count =
      lent_meets mode.Ref refl x y before d at rest g fits (omega (arith, room)) count
  argument_meets mode.Ref x (tree.Number z) before d at rest g fits small room count = absurd fits
  argument_meets mode.Ref x (tree.Element y index) before d at rest g fits small room count = absurd fits
  argument_meets mode.Ref x (tree.Len y) before d at rest g fits small room count = absurd fits
  argument_meets mode.Ref x (tree.Minus line e) before d at rest g fits small room count = absurd fits
  argument_meets mode.Ref x (tree.Binary o line left right) before d at rest g fits small room count = absurd fits

  pub arguments_meet : (ps : List Parameter) (arguments : List Argument) (before : Frame) (d at : ℕ) (rest : List Instr) (g : List ℕ)
      → FitsArguments scope layout ps arguments → IsDistinctLayout (parameter_layout ps) → All IsNode (argument_nodes arguments)
      → d + length (argument_nodes arguments) ≤ 64 → length g ≡ 64
      → Meets W (at + arguments_size ps arguments) rest (AreGiven lengths ps before d g)
      (capsule_from W at 0 (arguments_code layout ps arguments d at rest) g) m (with_arguments f arrays ps arguments before)
  arguments_meet [] [] before d at rest g fits distinct small room count =
      let done : at ≡ at + 0 = omega arith in
      meets_at W at (at + 0) rest (AreGiven lengths [] before d g) (capsule_from W at 0 rest g) m (Ok before) done
      (g, goes_same (capsule_from W at 0 rest g) m, none_given lengths before d g count)
  arguments_meet [] (a ∷ arguments) before d at rest g fits distinct small room count = absurd fits
  arguments_meet (p ∷ ps) [] before d at rest g fits distinct small room count = absurd fits
  arguments_meet (p ∷ ps) (a ∷ arguments) before d at rest g fits distinct small room count =
      let n = at + argument_size p.mode a.value in
      let done = at + (argument_size p.mode a.value + arguments_size ps arguments) in
      let mid = arguments_code layout ps arguments (suc d) n rest in
      let some = some_node a.value in
      let both = length-append (nodes a.value) (argument_nodes arguments) in
      bind_meets W n done mid rest (Given lengths p.mode p.name.name before d g) (AreGiven lengths (p ∷ ps) before d g)
      (capsule_from W at 0 (argument_code layout p.mode a.value d at mid) g) m (with_argument f arrays p.mode p.name.name a.value before)
      (with_arguments f arrays ps arguments)
      (argument_meets p.mode p.name.name a.value before d at mid g fits.0 (all_front IsNode (nodes a.value) (argument_nodes arguments) small)
      (omega (arith, room, both)) count) (λ middle h k.
      meets_at W (n + arguments_size ps arguments) done rest (AreGiven lengths (p ∷ ps) before d g) (capsule_from W n 0 mid h) m
      (with_arguments f arrays ps arguments middle) (omega arith)
      (meets_as W (n + arguments_size ps arguments) rest (AreGiven lengths ps middle (suc d) h) (AreGiven lengths (p ∷ ps) before d g)
      (capsule_from W n 0 mid h) m (with_arguments f arrays ps arguments middle)
      (λ after h' j. more_given lengths p ps before middle after d g h h' distinct.0 k j)
      (arguments_meet ps arguments middle (suc d) n rest h fits.1 distinct.1 (all_behind IsNode (nodes a.value) (argument_nodes arguments) small)
      (omega (arith, room, both, some)) k.count)))
