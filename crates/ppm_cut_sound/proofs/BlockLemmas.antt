-- All capsules of an admitted program are safe.
use Rattle.std.proofs.Common.{◌≡◌, ◌≤◌, ℕ, suc, ◌+◌, List, [], ◌∷◌, ◌++◌, None, Some, length, map, refl, ap, arith}
use Rattle.std.specs.List.{All, AllByRecursion, Contains}
use Rattle.std.specs.Prelude.{slice_get, Option}
use Rattle.std.proofs.lemmas.List.{length-append}
use Rattle.std.proofs.lemmas.List.Elements.{All-cons, All-nil}
use Rattle.std.proofs.Math.Nat.{le-max_left, le-max_right}
use Rattle.ppm_code.specs.declared.act.End.TheVariants as ends
use Rattle.ppm_code.specs.declared.code.Capsule.{Capsule}
use Rattle.ppm_code.specs.declared.code.CodeParts.{CodeParts}
use Rattle.ppm_code.specs.declared.instr.Instr.TheVariants as instr
use Rattle.ppm_code.specs.Paths.{HasNoConflict}
use Rattle.ppm_code.specs.Sizes.{slots_of}
use Rattle.ppm_code.specs.Strands.{instrs_in}
use Rattle.ppm_code.specs.Tidy.{IsTidyOne}
use Rattle.ppm_tree.specs.declared.tree.Parameter.{Parameter}
use Rattle.ppm_tree.specs.Tree.{Statement, Let, Assign, Put, If, While, Split, Each, Block, Nil, Then, Give, Procedure, ProgramTree}
use Rattle.ppm_tree.specs.Tree as tree
use Rattle.ppm_cut_bounds.specs.Slots.{most_within, most_in_force}
use Rattle.ppm_cut_bounds.specs.Names.{free_names}
use Rattle.ppm_cut_bounds.specs.Names as names
use Rattle.ppm_regions.specs.Scope.{Scope, lets_of, scope_of, split_scope, each_scope, scope_behind}
use Rattle.ppm_regions.specs.Admission.{IsAdmitted}
use Rattle.ppm_regions.proofs.Elements.{contains_head, contains_tail}
use Rattle.ppm_cut_code.specs.Layout.{Layout, parameter_layout}
use Rattle.ppm_cut_code.specs.Numbers.{behind, end_of, hidden_behind, hidden_behind_block, element_block}
use Rattle.ppm_cut_code.specs.Slots.{named_slots, hidden_named_slots, hidden_slots}
use Rattle.ppm_cut_code.specs.Statements.{Last, OnTo, Gives, onward, last_code, with_lets, with_parts, hidden_layout, statement_code, block_code}
use Rattle.ppm_cut_code.specs.Routines.{Routine, OfText, Hidden, Sweep, sweep_layout, routine_behind, hidden_of, hidden_of_block}
use Rattle.ppm_cut_code.specs.Routines.{texts_from, hidden_from, routines_of, routine_code, capsules_from, code_of}
use Rattle.ppm_cut_code.specs.Fits.{layout_behind, FitsStatement, FitsBlock, FitsGive, FitsProcedure}
use Rattle.ppm_cut_code.proofs.FitsLemmas.{each_fits}
use Rattle.ppm_cut_code.proofs.PlaceLemmas.{past, past_length, texts_past, ArePlaced, placed_first, placed_second}
use Rattle.ppm_cut_code.proofs.PlaceLemmas.{hidden_past, hidden_past_block, routines_placed, procedures_have}
use Rattle.ppm_cut_code.proofs.CaughtLemmas.{caught_have_slots}
use Rattle.ppm_cut_code.proofs.LayoutLemmas.{lets_length}
use Rattle.ppm_cut_sound.proofs.PlainLemmas.{all_at, Below, IsSafe, end_last, safe}
use Rattle.ppm_cut_sound.proofs.SafeLemmas.{safe_onward, safe_let, safe_value, safe_move, safe_element, safe_put, safe_test, safe_split}
use Rattle.ppm_cut_sound.proofs.SafeLemmas.{safe_give, safe_each, safe_entry, safe_halving, HasSlots, safe_call, safe_fork}
use Rattle.ppm_cut_sound.specs.Correct.{MayBeStopped, StoresTidily}

-- what holds of each element of two lists holds of each of both together
all_both : {X : Type 0} (P : X → Type 0) (xs ys : List X) → AllByRecursion P xs → AllByRecursion P ys → AllByRecursion P (xs ++ ys)
all_both P [] ys h k = k
all_both P (x ∷ xs) ys h k = (h.0, all_both P xs ys h.1 k)

all_map : {X Y : Type 0} (f : Y → X) (P : X → Type 0) (Q : Y → Type 0) → ((y : Y) → Q y → P (f y)) → (ys : List Y) → AllByRecursion Q ys
    → AllByRecursion P (map f ys)
all_map f P Q go [] h = tt
all_map f P Q go (y ∷ ys) h = (go y h.0, all_map f P Q go ys h.1)

all_each : {X : Type 0} (P Q : X → Type 0) → ((x : X) → Q x → P x) → (xs : List X) → AllByRecursion Q xs → All P xs
all_each P Q go [] h = All-nil P
all_each P Q go (x ∷ xs) h = All-cons P x xs (go x h.0) (all_each P Q go xs h.1)

module _ (procedures : List Procedure) (code : CodeParts) (have : HasSlots procedures code) where
  -- what a block ends with fits
  abbrev FitsLast : Scope → Layout → Last → Type 0
  FitsLast scope layout (OnTo next) = Unit {0}
  FitsLast scope layout (Gives g) = FitsGive procedures scope layout g

  safe_last : (scope : Scope) (layout : Layout) (last : Last) → FitsLast scope layout last → IsSafe code (last_code layout last)
  safe_last scope layout (OnTo next) fits = safe code (Below (length layout)) (onward next) (safe_onward code scope layout next)
  safe_last scope layout (Gives None) fits =
      safe code (Below (length layout)) (instr.Ends ends.Finish ∷ []) (end_last code (Below (length layout)) ends.Finish)
  safe_last scope layout (Gives (Some g)) fits = safe_give code scope layout g fits

  mutual
    safe_statement : (s : Statement) (scope : Scope) (layout : Layout) (spare at h : ℕ) → FitsStatement procedures scope layout s
        → length layout + most_within s ≤ spare → ArePlaced procedures code h (hidden_of layout h s)
        → AllByRecursion (IsSafe code) (statement_code procedures spare layout at h s)
    safe_statement (Let x e) scope layout spare at h fits enough placed = (safe_let code scope layout e fits.0 (suc at), tt)
    safe_statement (Assign x e) scope layout spare at h fits enough placed =
        let less : length layout ≤ spare = omega (arith, enough) in
        (safe_value code scope layout spare less e fits.1 (suc at), (safe_move code scope layout spare less x fits.0.has (suc (suc at)), tt))
    safe_statement (Put x i e) scope layout spare at h fits enough placed =
        let less : length layout ≤ spare = omega (arith, enough) in
        (safe_element code scope layout spare less i e fits.1 fits.2 (suc at), (safe_put code scope layout spare x (suc (suc at)), tt))
    safe_statement (If e s u) scope layout spare at h fits enough placed =
        let first = suc (end_of s (suc at)) in
        let next = suc (end_of u first) in
        let between = hidden_behind_block s h in
        let own = hidden_of_block layout h s in
        let more = hidden_of_block layout between u in
        let l = le-max_left (most_in_force s) (most_in_force u) in
        let r = le-max_right (most_in_force s) (most_in_force u) in (
          safe_test code scope layout e fits.0 (suc at) first,
          all_both (IsSafe code) (block_code procedures spare layout (suc at) h (OnTo next) s)
              (block_code procedures spare layout first between (OnTo next) u)
              (safe_block s scope layout spare (suc at) h (OnTo next) fits.1 (omega (arith, enough, l)) tt
              (placed_first procedures code own more h placed))
              (safe_block u scope layout spare first between (OnTo next) fits.2 (omega (arith, enough, r)) tt
              (placed_second procedures code own more h between (hidden_past_block layout h s) placed)),
        )
    safe_statement (While e s) scope layout spare at h fits enough placed = (
      safe_test code scope layout e fits.0 (suc at) (suc (end_of s (suc at))),
      safe_block s scope layout spare (suc at) h (OnTo at) fits.1 enough tt placed,
    )
    safe_statement (tree.Call s) scope layout spare at h fits enough placed = (safe_call procedures code have scope layout s fits (suc at), tt)
    safe_statement (tree.Fork s u) scope layout spare at h fits enough placed =
        (safe_fork procedures code have scope layout s u fits.0 fits.1 (suc at), tt)
    safe_statement (Split line r e x y s) scope layout spare at h fits enough placed =
        let more : length (with_parts layout x y) ≡ length layout + 2 = length-append layout (x.name ∷ y.name ∷ []) in (
          safe_split code scope layout line r e fits.0.has fits.1 (suc at),
          safe_block s (split_scope scope r x y) (with_parts layout x y) spare (suc at) h (OnTo (suc (end_of s (suc at)))) fits.7
              (omega (arith, enough, more)) tt placed,
        )
    safe_statement (Each i x r s) scope layout spare at h fits enough placed = (
      safe_each code scope layout r s h (suc at) fits.0.has
          (caught_have_slots layout s) placed.0.slots,
      tt,
    )

    safe_block : (b : Block) (scope : Scope) (layout : Layout) (spare at h : ℕ) (last : Last) → FitsBlock procedures scope layout b
        → length layout + most_in_force b ≤ spare → FitsLast (scope_behind scope b) (layout_behind layout b) last
        → ArePlaced procedures code h (hidden_of_block layout h b) → AllByRecursion (IsSafe code) (block_code procedures spare layout at h last b)
    safe_block Nil scope layout spare at h last fits enough ends placed = (safe_last scope layout last ends, tt)
    safe_block (Then s rest) scope layout spare at h last fits enough ends placed =
        let own = hidden_of layout h s in
        let more = hidden_of_block (with_lets layout s) (hidden_behind s h) rest in
        let counted = length (names.lets_of s) + most_in_force rest in
        let l = le-max_left (most_within s) counted in
        let r = le-max_right (most_within s) counted in
        let longer = lets_length layout s in
        all_both (IsSafe code) (statement_code procedures spare layout at h s)
        (block_code procedures spare (with_lets layout s) (behind s at) (hidden_behind s h) last rest)
        (safe_statement s scope layout spare at h fits.0 (omega (arith, enough, l)) (placed_first procedures code own more h placed))
        (safe_block rest (scope ++ lets_of s) (with_lets layout s) spare (behind s at) (hidden_behind s h) last fits.1
        (omega (arith, enough, r, longer)) ends
        (placed_second procedures code own more h (hidden_behind s h) (hidden_past layout h s) placed))

  -- a procedure of the text or a hidden one fits, and those hidden in it are in the code at their numbers
  pub record FitsSweep (s : Sweep) : Type 0 where
    pub scope : Scope
    pub fits : FitsBlock procedures scope (sweep_layout s) s.block
    pub slots : slots_of code s.number ≡ hidden_slots (length s.names) s.block
    pub placed : ArePlaced procedures code (suc s.number) (hidden_of_block (sweep_layout s) (suc s.number) s.block)

  abbrev FitsRoutine : Routine → Type 0
  FitsRoutine (OfText p h) = FitsProcedure procedures p × ArePlaced procedures code h (hidden_of_block (parameter_layout p.parameters) h p.body)
  FitsRoutine (Hidden s) = FitsSweep s

  parameters_counted : (ps : List Parameter) → length (parameter_layout ps) ≡ length ps
  parameters_counted [] = refl
  parameters_counted (p ∷ ps) = ap (λ n. suc n) (parameters_counted ps)

  safe_routine : (r : Routine) (at : ℕ) → FitsRoutine r → AllByRecursion (IsSafe code) (routine_code procedures at r)
  safe_routine (OfText p h) at fits =
      let layout = parameter_layout p.parameters in
      let count = parameters_counted p.parameters in
      safe_block p.body (scope_of p) layout (named_slots p) at h (Gives p.give) fits.0.body (omega (arith, count)) fits.0.give fits.1
  safe_routine (Hidden s) at fits =
      let names = length s.names in
      let entry = safe_entry code at in
      let halving = safe_halving code at s.number (hidden_slots names s.block) names s.line fits.slots (omega arith) in
      let last = safe code (Below 0) (instr.Ends ends.Finish ∷ []) (end_last code (Below 0) ends.Finish) in
      let block = safe_block s.block fits.scope (sweep_layout s) (hidden_named_slots names s.block) (element_block at) (suc s.number) (Gives None)
      fits.fits (omega arith) tt fits.placed in
      (entry, (halving, (last, block)))

  -- the procedures that are hidden in what fits
  mutual
    hidden_fit : (s : Statement) (scope : Scope) (layout : Layout) (h : ℕ) → FitsStatement procedures scope layout s
        → ArePlaced procedures code h (hidden_of layout h s) → AllByRecursion FitsRoutine (hidden_of layout h s)
    hidden_fit (Let x e) scope layout h fits placed = tt
    hidden_fit (Assign x e) scope layout h fits placed = tt
    hidden_fit (Put x i e) scope layout h fits placed = tt
    hidden_fit (If e s u) scope layout h fits placed =
        let between = hidden_behind_block s h in
        let own = hidden_of_block layout h s in
        let more = hidden_of_block layout between u in
        all_both FitsRoutine own more (hidden_fit_block s scope layout h fits.1 (placed_first procedures code own more h placed))
        (hidden_fit_block u scope layout between fits.2 (placed_second procedures code own more h between (hidden_past_block layout h s) placed))
    hidden_fit (While e s) scope layout h fits placed = hidden_fit_block s scope layout h fits.1 placed
    hidden_fit (tree.Call s) scope layout h fits placed = tt
    hidden_fit (tree.Fork s u) scope layout h fits placed = tt
    hidden_fit (Split line r e x y s) scope layout h fits placed =
        hidden_fit_block s (split_scope scope r x y) (with_parts layout x y) h fits.7 placed
    hidden_fit (Each i x r s) scope layout h fits placed = (
      record { scope = each_scope scope r i x; fits = fits.6; slots = placed.0.slots; placed = placed.1 },
      hidden_fit_block s (each_scope scope r i x) (hidden_layout layout i x s) (suc h) fits.6 placed.1,
    )

    hidden_fit_block : (b : Block) (scope : Scope) (layout : Layout) (h : ℕ) → FitsBlock procedures scope layout b
        → ArePlaced procedures code h (hidden_of_block layout h b) → AllByRecursion FitsRoutine (hidden_of_block layout h b)
    hidden_fit_block Nil scope layout h fits placed = tt
    hidden_fit_block (Then s rest) scope layout h fits placed =
        let own = hidden_of layout h s in
        let more = hidden_of_block (with_lets layout s) (hidden_behind s h) rest in
        all_both FitsRoutine own more (hidden_fit s scope layout h fits.0 (placed_first procedures code own more h placed))
        (hidden_fit_block rest (scope ++ lets_of s) (with_lets layout s) (hidden_behind s h) fits.1
        (placed_second procedures code own more h (hidden_behind s h) (hidden_past layout h s) placed))

  -- all procedures, where those of the text fit
  texts_fit : (ps : List Procedure) (h : ℕ) → ((p : Procedure) → Contains ps p → FitsProcedure procedures p)
      → ArePlaced procedures code h (hidden_from h ps) → AllByRecursion FitsRoutine (texts_from h ps)
  texts_fit [] h fit placed = tt
  texts_fit (p ∷ ps) h fit placed =
      let layout = parameter_layout p.parameters in
      let own = hidden_of_block layout h p.body in
      let next = hidden_behind_block p.body h in
      let more = hidden_from next ps in (
        (fit p (contains_head p ps), placed_first procedures code own more h placed),
        texts_fit ps next (λ q c. fit q (contains_tail p q ps c))
            (placed_second procedures code own more h next (hidden_past_block layout h p.body) placed),
      )

  all_hidden_fit : (ps : List Procedure) (h : ℕ) → ((p : Procedure) → Contains ps p → FitsProcedure procedures p)
      → ArePlaced procedures code h (hidden_from h ps) → AllByRecursion FitsRoutine (hidden_from h ps)
  all_hidden_fit [] h fit placed = tt
  all_hidden_fit (p ∷ ps) h fit placed =
      let layout = parameter_layout p.parameters in
      let own = hidden_of_block layout h p.body in
      let next = hidden_behind_block p.body h in
      let more = hidden_from next ps in
      all_both FitsRoutine own more
      (hidden_fit_block p.body (scope_of p) layout h (fit p (contains_head p ps)).body (placed_first procedures code own more h placed))
      (all_hidden_fit ps next (λ q c. fit q (contains_tail p q ps c))
      (placed_second procedures code own more h next (hidden_past_block layout h p.body) placed))

  safe_capsules : (rs : List Routine) (q at : ℕ) → AllByRecursion FitsRoutine rs
      → AllByRecursion (λ c. IsSafe code c.instrs) (capsules_from procedures q at rs)
  safe_capsules [] q at fits = tt
  safe_capsules (r ∷ rs) q at fits =
      all_both (λ c. IsSafe code c.instrs) (map (λ is. record { procedure = q; instrs = is }) (routine_code procedures at r))
      (capsules_from procedures (suc q) (routine_behind r at) rs)
      (all_map (λ is. record { procedure = q; instrs = is }) (λ c. IsSafe code c.instrs) (IsSafe code) (λ is h. h) (routine_code procedures at r)
      (safe_routine r at fits.0))
      (safe_capsules rs (suc q) (routine_behind r at) fits.1)

all_safe : (t : ProgramTree) → IsAdmitted t → AllByRecursion (λ (c : Capsule). IsSafe (code_of t) c.instrs) (code_of t).capsules
all_safe t admitted =
    let ps = t.procedures in
    let code = code_of t in
    let n = length ps in
    let texts = texts_from n ps in
    let hidden = hidden_from n ps in
    let placed = routines_placed t in
    let p = texts_past n ps 0 in
    let l = past_length ps 0 in
    let count : past texts 0 ≡ n = omega (arith, p, l) in
    let hidden_placed = placed_second ps code texts hidden 0 n count placed in
    let have : HasSlots ps code = record { each = λ x found. ((procedures_have t).each x found).slots } in
    let fit = λ (p : Procedure) (c : Contains ps p). each_fits t admitted p c in
    safe_capsules ps code have (routines_of ps) 0 0
    (all_both (FitsRoutine ps code have) texts hidden (texts_fit ps code have ps n fit hidden_placed)
    (all_hidden_fit ps code have ps n fit hidden_placed))

pub no_conflicts : MayBeStopped
no_conflicts t admitted number = of_capsule (slice_get (code_of t).capsules number) refl
  where
    none_there : HasNoConflict []
    none_there read write c h = let e = h.writes.1 in absurd (cc)

    of_capsule : (o : Option Capsule) → slice_get (code_of t).capsules number ≡ o → HasNoConflict (instrs_in o)
    of_capsule None e = none_there
    of_capsule (Some c) e = (all_at (λ (c : Capsule). IsSafe (code_of t) c.instrs) (code_of t).capsules (all_safe t admitted) number c e).free

pub tidily_stored : StoresTidily
tidily_stored t admitted =
    all_each (IsTidyOne (code_of t)) (λ (c : Capsule). IsSafe (code_of t) c.instrs) (λ c h. h.tidy) (code_of t).capsules (all_safe t admitted)
