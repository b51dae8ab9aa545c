-- Each capsule of a procedure keeps the rules of a code.
use Rattle.std.proofs.Common.{◌≡◌, ◌≢◌, ◌≤◌, ◌<◌, ◌+◌, ◌||◌, cond, Bool, true, false, ℕ, zero, suc, List, [], ◌∷◌, ◌++◌, Option, Some}
use Rattle.std.proofs.Common.{None, IfSome, length, map, slice_get, refl, sym, ap, ◌∙◌, subst, arith, length-append}
use Rattle.std.specs.List.{All, AllByRecursion, flat_map}
use Rattle.std.proofs.lemmas.List.Elements.{All-head, recursion_from_All}
use Rattle.std.proofs.lemmas.Grind.{flat_map-append}
use Rattle.ppm_code.specs.declared.act.End.TheVariants as ends
use Rattle.ppm_code.specs.declared.code.Procedure.{Procedure as CodeProcedure}
use Rattle.ppm_code.specs.declared.code.CodeParts.{CodeParts}
use Rattle.ppm_code.specs.declared.instr.Instr.TheVariants as instr
use Rattle.ppm_code.specs.Code.{IsProcedure, IsCapsule, IsCapsuleOf, IsSlot, IsLine, room_of}
use Rattle.ppm_code.specs.Sizes.{slots_of, slots_in, frame_size, fork_size}
use Rattle.ppm_tree.specs.declared.named.Named.{Named}
use Rattle.ppm_tree.specs.Tree.{Expression, Argument, Side, Statement, Block, Nil, Then, Give, Procedure}
use Rattle.ppm_tree.specs.Tree as tree
use Rattle.ppm_tree.specs.Parts.{nodes, nodes_of, statement_and_inner, statements_in}
use Rattle.ppm_tree.specs.Limits.{IsNode, IsNamed, IsSmallStatement, IsSmallGive, node_limit}
use Rattle.ppm_tree.specs.Limits as limits
use Rattle.ppm_cut_bounds.specs.Slots.{most_within, most_in_force, puts, has_put}
use Rattle.ppm_cut_bounds.specs.Names as counted
use Rattle.ppm_cut_bounds.proofs.Keeping.{all-append, all-first, all-second}
use Rattle.ppm_regions.specs.Scope.{Scope, first_named, lets_of, split_scope, scope_behind}
use Rattle.ppm_cut_code.specs.Layout.{Layout, slot_of, target_of, register, caught}
use Rattle.ppm_cut_code.specs.Expressions.{size_of, expression_code}
use Rattle.ppm_cut_code.specs.Numbers.{behind, end_of, hidden_behind, hidden_behind_block, halving, halved, element_block}
use Rattle.ppm_cut_code.specs.Slots.{assigns, has_assignment, spare_slots, hidden_slots, frame_words, fork_words}
use Rattle.ppm_cut_code.specs.Statements.{Instrs, Last, OnTo, Gives, last_code, onward, let_code, value_code, move_code, element_code}
use Rattle.ppm_cut_code.specs.Statements.{put_code, test_code, split_code, each_code, entry_code, halving_code, arguments_size}
use Rattle.ppm_cut_code.specs.Statements.{arguments_code, paired, stores_code, with_lets, with_parts, number_of, call_code, fork_code}
use Rattle.ppm_cut_code.specs.Statements.{callee_parameters, callee_number, callee_slots, statement_code, block_code}
use Rattle.ppm_cut_code.specs.Routines.{hidden_of, hidden_of_block}
use Rattle.ppm_cut_code.specs.Standing.{HasBodies}
use Rattle.ppm_cut_code.specs.Fits.{FitsExpression, FitsTarget, FitsSide, FitsStatement, FitsBlock, layout_behind}
use Rattle.ppm_cut_code.proofs.LayoutLemmas.{lets_length}
use Rattle.ppm_cut_code.proofs.PlaceLemmas.{of_procedure, ArePlaced, placed_first, placed_second, hidden_past, hidden_past_block}
use Rattle.ppm_cut_code.proofs.SizeLemmas.{size_at_most, expression_length, arguments_length, stores_length}
use Rattle.ppm_cut_code.proofs.SizeLemmas.{loads_length, names_length, arguments_at_most, paired_at_most}
use Rattle.ppm_cut_code.proofs.FitLemmas.{IsClosed, closed_end, closed_behind, closed_expression, closed_arguments}
use Rattle.ppm_cut_code.proofs.FitLemmas.{closed_stores, closed_loads, closed_names, line_fits, AllFit, moved, capsule_fits}
use Rattle.ppm_cut_code.proofs.FitLemmas.{expression_fits, arguments_fit, stores_fit, loads_fit, names_fit}
use Rattle.ppm_cut_code.proofs.CaughtLemmas.{caught_have_slots}
use Rattle.ppm_cut_code.proofs.SoundLemmas.{AreSmall, most_slots}

-- the spare slots, by whether something is put and whether something is assigned
abbrev spare_by : Bool → Bool → ℕ
spare_by p a = cond p 2 (cond a 1 0)

spare_first : (p a q b : Bool) → spare_by p a ≤ spare_by (p || q) (a || b)
spare_first true a q b = omega arith
spare_first false true true b = omega arith
spare_first false true false b = omega arith
spare_first false false q b = omega arith

spare_second : (p a q b : Bool) → spare_by q b ≤ spare_by (p || q) (a || b)
spare_second true a true b = omega arith
spare_second true a false true = omega arith
spare_second true a false false = omega arith
spare_second false true true b = omega arith
spare_second false true false true = omega arith
spare_second false true false false = omega arith
spare_second false false q b = omega arith

-- numbers grow
mutual
  behind_grows : (s : Statement) (at : ℕ) → at ≤ behind s at
  behind_grows (tree.Let x e) at = omega arith
  behind_grows (tree.Assign x e) at = omega arith
  behind_grows (tree.Put x index e) at = omega arith
  behind_grows (tree.If e holds other) at =
      let a = end_grows holds (suc at) in
      let b = end_grows other (suc (end_of holds (suc at))) in
      omega (arith, a, b)
  behind_grows (tree.While e block) at = let a = end_grows block (suc at) in omega (arith, a)
  behind_grows (tree.Call s) at = omega arith
  behind_grows (tree.Fork s t) at = omega arith
  behind_grows (tree.Split line r e x y block) at = let a = end_grows block (suc at) in omega (arith, a)
  behind_grows (tree.Each i x r block) at = omega arith

  pub end_grows : (b : Block) (at : ℕ) → at ≤ end_of b at
  end_grows Nil at = omega arith
  end_grows (Then s rest) at = let a = behind_grows s at in let b = end_grows rest (behind s at) in omega (arith, a, b)

-- a procedure with slots is there
there_in : (ps : List CodeProcedure) (q : ℕ) → 1 ≤ slots_in (slice_get ps q) → q < length ps
there_in [] q h = absurd (omega (arith, h))
there_in (p ∷ ps) zero h = omega arith
there_in (p ∷ ps) (suc q) h = let rest = there_in ps q h in omega (arith, rest)

pub procedure_there : (code : CodeParts) (q : ℕ) → 1 ≤ slots_of code q → IsProcedure code q
procedure_there code q h = there_in code.procedures q h

-- the nodes of one expression, of two, and of the arguments of two sides
one_expression : (e : Expression) → All IsNode (nodes e ++ []) → length (nodes e ++ []) ≤ node_limit
    → AllByRecursion IsNode (nodes e) × length (nodes e) ≤ 48
one_expression e n count =
    let l = length-append (nodes e) [] in
    (all-first IsNode (nodes e) [] (recursion_from_All IsNode (nodes e ++ []) n), omega (arith, l, count))

two_expressions : (e f : Expression) → All IsNode (nodes e ++ (nodes f ++ [])) → length (nodes e ++ (nodes f ++ [])) ≤ node_limit
    → AllByRecursion IsNode (nodes e) × AllByRecursion IsNode (nodes f) × length (nodes e) + length (nodes f) ≤ 48
two_expressions e f n count =
    let both = recursion_from_All IsNode (nodes e ++ (nodes f ++ [])) n in
    let l = length-append (nodes e) (nodes f ++ []) in
    let m = length-append (nodes f) [] in (
      all-first IsNode (nodes e) (nodes f ++ []) both,
      all-first IsNode (nodes f) [] (all-second IsNode (nodes e) (nodes f ++ []) both),
      omega (arith, l, m, count),
    )

abbrev side_nodes : Side → List Expression
side_nodes s = flat_map nodes (map (λ a. a.value) s.arguments)

two_sides : (s t : Side) → All IsNode (nodes_of (tree.Fork s t)) → length (nodes_of (tree.Fork s t)) ≤ node_limit
    → AllByRecursion IsNode (side_nodes s) × AllByRecursion IsNode (side_nodes t) × length (side_nodes s) + length (side_nodes t) ≤ 48
two_sides s t n count =
    let same : nodes_of (tree.Fork s t) ≡ side_nodes s ++ side_nodes t =
    flat_map-append nodes (map (λ a. a.value) s.arguments) (map (λ a. a.value) t.arguments) in
    let both = subst (λ (l : List Expression). AllByRecursion IsNode l) same (recursion_from_All IsNode (nodes_of (tree.Fork s t)) n) in
    let l = ap length same ∙ length-append (side_nodes s) (side_nodes t) in
    (all-first IsNode (side_nodes s) (side_nodes t) both, all-second IsNode (side_nodes s) (side_nodes t) both, omega (arith, l, count))

-- what is known of a code as a whole
pub record IsKnown (procedures : List Procedure) (code : CodeParts) : Type 0 where
  pub bodies : HasBodies procedures code
  pub callees : (x : List ℕ) → first_named (λ p. p.name.name) procedures x ≢ None → IsProcedure code (number_of procedures x)
  pub few : (q : ℕ) → slots_of code q ≤ most_slots

module _ (procedures : List Procedure) (code : CodeParts) (known : IsKnown procedures code) where
  -- the slots of a callee
  callee_has : (s : Side) → first_named (λ p. p.name.name) procedures s.callee.name ≢ None
      → slots_of code (callee_number procedures s) ≡ callee_slots procedures s
  callee_has s found = (known.bodies.each s.callee.name found).slots

  callee_few : (s : Side) → first_named (λ p. p.name.name) procedures s.callee.name ≢ None → callee_slots procedures s ≤ most_slots
  callee_few s found = let h = known.few (callee_number procedures s) in let e = callee_has s found in omega (arith, h, e)

  -- arguments have slots in the callee's frame
  paired_few : (s : Side) → paired (callee_parameters procedures s) s.arguments ≤ callee_slots procedures s
  paired_few s = let h = paired_at_most (callee_parameters procedures s) s.arguments in omega (arith, h)

  -- The procedure with the number q, whose spare slots begin at `spare` and whose capsules have the numbers from `low` on in front of `high`.
  module _ (q spare low high : ℕ) (there : IsProcedure code q) (own : (n : ℕ) → low ≤ n → n < high → IsCapsuleOf code q n) where
    abbrev pub Keeps : Instrs → Type 0
    Keeps is = IsCapsule code (of_procedure q is)

    -- an expression and a few instructions after it
    one_keeps : (scope : Scope) (layout : Layout) (e : Expression) (tail : Instrs) → length layout ≤ slots_of code q → FitsExpression scope layout e
        → AllByRecursion IsNode (nodes e) → length (nodes e) ≤ 48 → length tail ≤ 16 → IsClosed tail
        → AllFit code q (expression_code layout e 0 0 tail) (size_of e) tail → Keeps (expression_code layout e 0 0 tail)
    one_keeps scope layout e tail room f n count short closed h =
        let is = expression_code layout e 0 0 tail in
        let size = size_at_most e in
        let long = expression_length layout e 0 0 tail in
        let start : size_of e ≡ 0 + size_of e = omega arith in
        capsule_fits code q is there (omega (arith, size, long, count, short)) (closed_expression layout e 0 0 tail closed)
        (expression_fits code q is scope layout room e 0 0 tail f n (omega (arith, long)) (moved code q is tail (size_of e) (0 + size_of e) start h))

    onward_keeps : (next : ℕ) → IsCapsuleOf code q next → Keeps (onward next)
    onward_keeps next at = capsule_fits code q (onward next) there (omega arith) (closed_end (ends.Next next)) (at, tt)

    let_keeps : (scope : Scope) (layout : Layout) (e : Expression) (next : ℕ) → length layout < slots_of code q → FitsExpression scope layout e
        → AllByRecursion IsNode (nodes e) → length (nodes e) ≤ 48 → IsCapsuleOf code q next → Keeps (let_code layout e next)
    let_keeps scope layout e next room f n count at =
        one_keeps scope layout e (instr.StoreCur (length layout) (register 0) ∷ onward next) (omega (arith, room)) f n count (omega arith)
        (closed_behind _ _ (closed_end (ends.Next next))) (room, (at, tt))

    value_keeps : (scope : Scope) (layout : Layout) (e : Expression) (next : ℕ) → length layout ≤ slots_of code q → spare < slots_of code q
        → FitsExpression scope layout e → AllByRecursion IsNode (nodes e) → length (nodes e) ≤ 48 → IsCapsuleOf code q next
        → Keeps (value_code layout spare e next)
    value_keeps scope layout e next room left f n count at =
        one_keeps scope layout e (instr.StoreCur spare (register 0) ∷ onward next) room f n count (omega arith)
        (closed_behind _ _ (closed_end (ends.Next next))) (left, (at, tt))

    move_keeps : (layout : Layout) (x : Named) (next : ℕ) → spare < slots_of code q → slot_of layout x.name < slots_of code q
        → IsCapsuleOf code q next
        → Keeps (move_code layout spare x next)
    move_keeps layout x next left slot at =
        capsule_fits code q (move_code layout spare x next) there (omega arith) (closed_behind _ _ (closed_behind _ _ (closed_end (ends.Next next))))
        (left, (slot, (at, tt)))

    element_keeps : (scope : Scope) (layout : Layout) (index e : Expression) (next : ℕ) → length layout ≤ slots_of code q
        → suc spare < slots_of code q
        → FitsExpression scope layout index → FitsExpression scope layout e → AllByRecursion IsNode (nodes index) → AllByRecursion IsNode (nodes e)
        → length (nodes index) + length (nodes e) ≤ 48 → IsCapsuleOf code q next → Keeps (element_code layout spare index e next)
    element_keeps scope layout index e next room left f g n m count at =
        let tail = instr.StoreCur spare (register 0) ∷ instr.StoreCur (suc spare) (register 1) ∷ onward next in
        let value = expression_code layout e 1 (size_of index) tail in
        let is = element_code layout spare index e next in
        let a = size_at_most index in
        let b = size_at_most e in
        let long = expression_length layout index 0 0 value in
        let more = expression_length layout e 1 (size_of index) tail in
        let start : size_of index ≡ 0 + size_of index = omega arith in
        capsule_fits code q is there (omega (arith, a, b, long, more, count))
        (closed_expression layout index 0 0 value (closed_expression layout e 1 (size_of index) tail
        (closed_behind _ _ (closed_behind _ _ (closed_end (ends.Next next))))))
        (expression_fits code q is scope layout room index 0 0 value f n (omega (arith, long))
        (moved code q is value (size_of index) (0 + size_of index) start
        (expression_fits code q is scope layout room e 1 (size_of index) tail g m (omega (arith, long, more))
        (omega (arith, left), (left, (at, tt))))))

    put_keeps : (layout : Layout) (x : Named) (next : ℕ) → suc spare < slots_of code q → slot_of layout x.name < slots_of code q → IsLine x.line
        → IsCapsuleOf code q next → Keeps (put_code layout spare x next)
    put_keeps layout x next left slot line at =
        capsule_fits code q (put_code layout spare x next) there (omega arith)
        (closed_behind _ _ (closed_behind _ _ (closed_behind _ _ (closed_behind _ _ (closed_end (ends.Next next))))))
        (slot, (omega (arith, left), (left, (line, (at, tt)))))

    test_keeps : (scope : Scope) (layout : Layout) (e : Expression) (inside next : ℕ) → length layout ≤ slots_of code q
        → FitsExpression scope layout e
        → AllByRecursion IsNode (nodes e) → length (nodes e) ≤ 48 → IsCapsuleOf code q inside → IsCapsuleOf code q next
        → Keeps (test_code layout e inside next)
    test_keeps scope layout e inside next room f n count at_yes at_no =
        let tail = instr.BranchZero (register 0) (suc (suc (size_of e))) ∷ instr.Ends (ends.Next inside) ∷ onward next in
        let long = expression_length layout e 0 0 tail in
        one_keeps scope layout e tail room f n count (omega arith) (closed_behind _ _ (closed_behind _ _ (closed_end (ends.Next next))))
        ((omega arith, omega (arith, long)), (at_yes, (at_no, tt)))

    split_keeps : (scope : Scope) (layout : Layout) (line : ℕ) (r : Named) (e : Expression) (next : ℕ) → suc (length layout) < slots_of code q
        → slot_of layout r.name < slots_of code q → IsLine line → FitsExpression scope layout e → AllByRecursion IsNode (nodes e)
        → length (nodes e) ≤ 48 → IsCapsuleOf code q next → Keeps (split_code layout line r e next)
    split_keeps scope layout line r e next room slot fits f n count at =
        one_keeps scope layout e (instr.LoadSlot (register 1) (slot_of layout r.name)
        ∷ instr.CutLeft (register 2) (register 1) (register 0) line ∷ instr.CutRight (register 3) (register 1) (register 0) line
        ∷ instr.StoreCur (length layout) (register 2) ∷ instr.StoreCur (suc (length layout)) (register 3) ∷ onward next)
        (omega (arith, room)) f n count (omega arith)
        (closed_behind _ _ (closed_behind _ _ (closed_behind _ _ (closed_behind _ _ (closed_behind _ _ (closed_end (ends.Next next)))))))
        (slot, (fits, (fits, (omega (arith, room), (room, (at, tt))))))

    give_keeps : (scope : Scope) (layout : Layout) (e : Expression) → length layout ≤ slots_of code q → FitsExpression scope layout e
        → AllByRecursion IsNode (nodes e) → length (nodes e) ≤ 48
        → Keeps (expression_code layout e 0 0 (instr.Give (register 0) ∷ instr.Ends ends.Finish ∷ []))
    give_keeps scope layout e room f n count =
        one_keeps scope layout e (instr.Give (register 0) ∷ instr.Ends ends.Finish ∷ []) room f n count (omega arith)
        (closed_behind _ _ (closed_end ends.Finish)) (tt, (tt, tt))

    pub finish_keeps : Keeps (instr.Ends ends.Finish ∷ [])
    finish_keeps = capsule_fits code q (instr.Ends ends.Finish ∷ []) there (omega arith) (closed_end ends.Finish) (tt, tt)

    -- a target is a slot
    target_fits : (scope : Scope) (layout : Layout) → length layout ≤ slots_of code q → (x : Option Named) → FitsTarget scope layout x
        → IfSome (target_of layout x) (IsSlot code q)
    target_fits scope layout room None f = tt
    target_fits scope layout room (Some x) f = let h = f.has in omega (arith, h, room)

    call_keeps : (scope : Scope) (layout : Layout) (s : Side) (next : ℕ) → length layout ≤ slots_of code q → FitsSide procedures scope layout s
        → AllByRecursion IsNode (flat_map nodes (map (λ a. a.value) s.arguments)) → length (flat_map nodes (map (λ a. a.value) s.arguments)) ≤ 48
        → IsCapsuleOf code q next → Keeps (call_code procedures layout s next)
    call_keeps scope layout s next room f n count at =
        let is = call_code procedures layout s next in
        let ps = callee_parameters procedures s in
        let slots = callee_slots procedures s in
        let number = paired ps s.arguments in
        let end = instr.Ends (ends.Call (callee_number procedures s) next (target_of layout s.target)) ∷ [] in
        let stores = stores_code 6 0 number end in
        let size = arguments_size ps s.arguments in
        let long = arguments_length layout ps s.arguments 0 1 stores in
        let more = stores_length 6 0 number end in
        let most = arguments_at_most ps s.arguments in
        let few = callee_few s f.callee in
        let in_frame = paired_few s in
        let asked : room_of is ≡ Some (frame_words slots) = refl in
        let same : frame_words slots ≡ frame_size code (callee_number procedures s) = ap (λ n. 6 + n) (sym (callee_has s f.callee)) in
        capsule_fits code q is there (omega (arith, long, more, most, count))
        (closed_behind _ _ (closed_arguments layout ps s.arguments 0 1 stores (closed_stores 6 0 number end (closed_end _)))) (
          (omega arith, omega arith, omega (arith, few)),
          arguments_fit code q is scope layout room ps s.arguments 0 1 stores f.arguments n (omega (arith, long, more))
              (stores_fit code q is (frame_words slots) 6 0 number (1 + size) end asked (omega (arith, in_frame))
              ((known.callees s.callee.name f.callee, at, target_fits scope layout room s.target f.target, ap Some same), tt)),
        )

    fork_keeps : (scope : Scope) (layout : Layout) (s t : Side) (next : ℕ) → length layout ≤ slots_of code q → FitsSide procedures scope layout s
        → FitsSide procedures scope layout t → AllByRecursion IsNode (flat_map nodes (map (λ a. a.value) s.arguments))
        → AllByRecursion IsNode (flat_map nodes (map (λ a. a.value) t.arguments))
        → length (flat_map nodes (map (λ a. a.value) s.arguments)) + length (flat_map nodes (map (λ a. a.value) t.arguments)) ≤ 48
        → IsCapsuleOf code q next → Keeps (fork_code procedures layout s t next)
    fork_keeps scope layout s t next room f g n m count at =
        let is = fork_code procedures layout s t next in
        let l = callee_parameters procedures s in
        let r = callee_parameters procedures t in
        let left = callee_slots procedures s in
        let right = callee_slots procedures t in
        let lefts = paired l s.arguments in
        let rights = paired r t.arguments in
        let words = fork_words left right in
        let first = callee_number procedures s in
        let other = callee_number procedures t in
        let end = instr.Ends (ends.Fork first other next (target_of layout s.target) (target_of layout t.target)) ∷ [] in
        let in_right = stores_code (11 + frame_words left) lefts rights end in
        let in_left = stores_code 11 0 lefts in_right in
        let size = arguments_size l s.arguments in
        let size' = arguments_size r t.arguments in
        let second = arguments_code layout r t.arguments lefts (suc size) in_left in
        let long = arguments_length layout l s.arguments 0 1 second in
        let long' = arguments_length layout r t.arguments lefts (suc size) in_left in
        let more = stores_length 11 0 lefts in_right in
        let more' = stores_length (11 + frame_words left) lefts rights end in
        let most = arguments_at_most l s.arguments in
        let most' = arguments_at_most r t.arguments in
        let few = callee_few s f.callee in
        let few' = callee_few t g.callee in
        let in_frame = paired_few s in
        let in_frame' = paired_few t in
        let asked : room_of is ≡ Some words = refl in
        let same : words ≡ fork_size code (callee_number procedures s) (callee_number procedures t) =
        λ i. 5 + (6 + sym (callee_has s f.callee) i) + (6 + sym (callee_has t g.callee) i) in
        let start : suc size ≡ 1 + size = omega arith in
        capsule_fits code q is there (omega (arith, long, long', more, more', most, most', count))
        (closed_behind _ _ (closed_arguments layout l s.arguments 0 1 second (closed_arguments layout r t.arguments lefts (suc size) in_left
        (closed_stores 11 0 lefts in_right (closed_stores (11 + frame_words left) lefts rights end (closed_end _)))))) (
          (omega arith, omega arith, omega (arith, few, few')),
          arguments_fit code q is scope layout room l s.arguments 0 1 second f.arguments n (omega (arith, long))
              (moved code q is second (suc size) (1 + size) start
              (arguments_fit code q is scope layout room r t.arguments lefts (suc size) in_left g.arguments m (omega (arith, long, long'))
              (stores_fit code q is words 11 0 lefts (suc size + size') in_right asked (omega (arith, in_frame))
              (stores_fit code q is words (11 + frame_words left) lefts rights (suc size + size' + lefts) end asked (omega (arith, in_frame')) (
                (
                  known.callees s.callee.name f.callee,
                  known.callees t.callee.name g.callee,
                  at,
                  target_fits scope layout room s.target f.target,
                  target_fits scope layout room t.target g.target,
                  ap Some same,
                ),
                tt,
              ))))),
        )

    each_keeps : (layout : Layout) (r : Named) (block : Block) (h next : ℕ) → length layout ≤ slots_of code q
        → slot_of layout r.name < slots_of code q
        → slots_of code h ≡ hidden_slots (length (caught layout block)) block → IsCapsuleOf code q next → Keeps (each_code layout r block h next)
    each_keeps layout r block h next room slot hidden at =
        let is = each_code layout r block h next in
        let names = caught layout block in
        let count = length names in
        let slots = hidden_slots count block in
        let end = instr.Ends (ends.Call h next None) ∷ [] in
        let stores = stores_code 6 0 (suc (suc count)) end in
        let few = known.few h in
        let long = loads_length layout names 2 stores in
        let more = stores_length 6 0 (suc (suc count)) end in
        let asked : room_of is ≡ Some (frame_words slots) = refl in
        let same : frame_words slots ≡ frame_size code h = ap (λ n. 6 + n) (sym hidden) in
        let callee : IsProcedure code h = procedure_there code h (omega (arith, hidden)) in
        capsule_fits code q is there (omega (arith, long, more, few, hidden))
        (closed_behind _ _
        (closed_behind _ _ (closed_behind _ _ (closed_loads layout names 2 stores (closed_stores 6 0 (suc (suc count)) end (closed_end _)))))) (
          (omega arith, omega arith, omega (arith, few, hidden)),
          (
            slot,
            (
              tt,
              loads_fit code q is [] layout room names 2 3 stores (caught_have_slots layout block)
                  (stores_fit code q is (frame_words slots) 6 0 (suc (suc count)) (3 + count) end asked (omega arith)
                  ((callee, at, tt, ap Some same), tt)),
            ),
          ),
        )

    -- a hidden procedure is entered, and goes on by halves
    pub entry_keeps : (entry : ℕ) → 1 ≤ slots_of code q → IsCapsuleOf code q (halving entry) → IsCapsuleOf code q (element_block entry)
        → Keeps (entry_code entry)
    entry_keeps entry room at_halves at_block =
        capsule_fits code q (entry_code entry) there (omega arith)
        (closed_behind _ _ (closed_behind _ _ (closed_behind _ _ (closed_behind _ _ (closed_behind _ _ (closed_behind _ _ (closed_behind _ _
        (closed_behind _ _ (closed_end ends.Finish)))))))))
        (room, (tt, (tt, (tt, ((omega arith, omega arith), (at_halves, ((omega arith, omega arith), (at_block, (tt, tt)))))))))

    pub halving_keeps : (entry slots names line : ℕ) → slots_of code q ≡ slots → names + 2 ≤ slots → IsLine line → IsCapsuleOf code q (halved entry)
        → Keeps (halving_code entry q slots names line)
    halving_keeps entry slots names line same room fits at =
        let is = halving_code entry q slots names line in
        let words = fork_words slots slots in
        let right_at = 11 + frame_words slots in
        let end = instr.Ends (ends.Fork q q (halved entry) None None) ∷ [] in
        let in_right = stores_code (suc (suc right_at)) 6 names end in
        let right = instr.StoreNew right_at (register 3) ∷ instr.StoreNew (suc right_at) (register 5) ∷ in_right in
        let in_left = stores_code 13 6 names right in
        let left = instr.StoreNew 11 (register 2) ∷ instr.StoreNew 12 (register 4) ∷ in_left in
        let a = names_length 2 6 names left in
        let b = stores_length 13 6 names right in
        let c = stores_length (suc (suc right_at)) 6 names end in
        let few = known.few q in
        let asked : room_of is ≡ Some words = refl in
        let size : words ≡ fork_size code q q = λ i. 5 + (6 + sym same i) + (6 + sym same i) in
        let behind_left = suc (suc (9 + names)) + names in
        capsule_fits code q is there (omega (arith, a, b, c, few, same, room))
        (closed_behind _ _ (closed_behind _ _ (closed_behind _ _ (closed_behind _ _ (closed_behind _ _ (closed_behind _ _ (closed_behind _ _
        (closed_behind _ _ (closed_behind _ _ (closed_names 2 6 names left (closed_behind _ _ (closed_behind _ _ (closed_stores 13 6 names right
        (closed_behind _ _ (closed_behind _ _ (closed_stores (suc (suc right_at)) 6 names end (closed_end _))))))))))))))))) (
          (omega arith, omega arith, omega (arith, few, same)),
          (
            omega (arith, room, same),
            (
              tt,
              (
                tt,
                (
                  fits,
                  (
                    fits,
                    (
                      fits,
                      (
                        omega (arith, room, same),
                        (
                          fits,
                          names_fit code q is 2 6 names 9 left (omega (arith, room, same)) (
                            (words, asked, omega (arith, room)),
                            (
                              (words, asked, omega (arith, room)),
                              stores_fit code q is words 13 6 names (suc (suc (9 + names))) right asked (omega (arith, room)) (
                                (words, asked, omega (arith, room)),
                                (
                                  (words, asked, omega (arith, room)),
                                  stores_fit code q is words (suc (suc right_at)) 6 names (suc (suc behind_left)) end asked (omega (arith, room))
                                      ((there, there, at, tt, tt, ap Some size), tt),
                                ),
                              ),
                            ),
                          ),
                        ),
                      ),
                    ),
                  ),
                ),
              ),
            ),
          ),
        )

    -- how a block goes on
    abbrev pub LastFits : Scope → Layout → Last → Type 0
    LastFits scope layout (OnTo next) = IsCapsuleOf code q next
    LastFits scope layout (Gives None) = Unit {0}
    LastFits scope layout (Gives (Some g)) = FitsExpression scope layout g.value × IsSmallGive g

    last_keeps : (scope : Scope) (layout : Layout) (last : Last) → LastFits scope layout last → length layout ≤ slots_of code q
        → Keeps (last_code layout last)
    last_keeps scope layout (OnTo next) f room = onward_keeps next f
    last_keeps scope layout (Gives None) f room = finish_keeps
    last_keeps scope layout (Gives (Some g)) f room =
        give_keeps scope layout g.value room f.0 (recursion_from_All IsNode (nodes g.value) f.1.nodes) f.1.count

    mutual
      -- the capsules of a statement
      statement_keeps : (scope : Scope) (layout : Layout) (at h : ℕ) (s : Statement) → FitsStatement procedures scope layout s
          → AreSmall (statement_and_inner s) → ArePlaced procedures code h (hidden_of layout h s) → low ≤ at → behind s at < high
          → length layout + most_within s ≤ spare → length layout + length (counted.lets_of s) ≤ spare
          → spare + spare_by (puts s) (assigns s) ≤ slots_of code q → AllByRecursion Keeps (statement_code procedures spare layout at h s)
      statement_keeps scope layout at h (tree.Let x e) f small placed first last within lets left =
          let n = one_expression e small.0.nodes small.0.count in
          (let_keeps scope layout e (suc at) (omega (arith, lets, left)) f.0 n.0 n.1 (own (suc at) (omega (arith, first)) last), tt)
      statement_keeps scope layout at h (tree.Assign x e) f small placed first last within lets left =
          let n = one_expression e small.0.nodes small.0.count in
          let slot = f.0.has in (
            value_keeps scope layout e (suc at) (omega (arith, lets, left)) (omega (arith, left)) f.1 n.0 n.1
                (own (suc at) (omega (arith, first)) (omega (arith, last))),
            (
              move_keeps layout x (suc (suc at)) (omega (arith, left)) (omega (arith, slot, lets, left))
                  (own (suc (suc at)) (omega (arith, first)) last),
              tt,
            ),
          )
      statement_keeps scope layout at h (tree.Put x index e) f small placed first last within lets left =
          let n = two_expressions index e small.0.nodes small.0.count in
          let slot = f.0.has in
          let line = line_fits (All-head IsNamed x [] small.0.names).line in (
            element_keeps scope layout index e (suc at) (omega (arith, lets, left)) (omega (arith, left)) f.1 f.2 n.0 n.1 n.2
                (own (suc at) (omega (arith, first)) (omega (arith, last))),
            (
              put_keeps layout x (suc (suc at)) (omega (arith, left)) (omega (arith, slot, lets, left)) line
                  (own (suc (suc at)) (omega (arith, first)) last),
              tt,
            ),
          )
      statement_keeps scope layout at h (tree.If e holds other) f small placed first last within lets left =
          let n = one_expression e small.0.nodes small.0.count in
          let between = hidden_behind_block holds h in
          let behind_first = suc (end_of holds (suc at)) in
          let next = suc (end_of other behind_first) in
          let xs = block_code procedures spare layout (suc at) h (OnTo next) holds in
          let ys = block_code procedures spare layout behind_first between (OnTo next) other in
          let hidden = hidden_of_block layout h holds in
          let more = hidden_of_block layout between other in
          let here = statements_in holds in
          let there' = statements_in other in
          let grows = end_grows holds (suc at) in
          let grows' = end_grows other behind_first in
          let a = spare_first (has_put holds) (has_assignment holds) (has_put other) (has_assignment other) in
          let b = spare_second (has_put holds) (has_assignment holds) (has_put other) (has_assignment other) in
          let on : IsCapsuleOf code q next = own next (omega (arith, first, grows, grows')) last in (
            test_keeps scope layout e (suc at) behind_first (omega (arith, lets, left)) f.0 n.0 n.1
                (own (suc at) (omega (arith, first)) (omega (arith, last, grows, grows')))
                (own behind_first (omega (arith, first, grows)) (omega (arith, last, grows'))),
            all-append Keeps xs ys
                (block_keeps scope layout (suc at) h (OnTo next) holds f.1 (all-first IsSmallStatement here there' small.1)
                (placed_first procedures code hidden more h placed) (omega (arith, first)) (omega (arith, last, grows'))
                (omega (arith, within)) (omega (arith, left, a)) on)
                (block_keeps scope layout behind_first between (OnTo next) other f.2 (all-second IsSmallStatement here there' small.1)
                (placed_second procedures code hidden more h between (hidden_past_block layout h holds) placed) (omega (arith, first, grows))
                (omega (arith, last)) (omega (arith, within)) (omega (arith, left, b)) on),
          )
      statement_keeps scope layout at h (tree.While e block) f small placed first last within lets left =
          let n = one_expression e small.0.nodes small.0.count in
          let next = suc (end_of block (suc at)) in
          let grows = end_grows block (suc at) in (
            test_keeps scope layout e (suc at) next (omega (arith, lets, left)) f.0 n.0 n.1
                (own (suc at) (omega (arith, first)) (omega (arith, last, grows))) (own next (omega (arith, first, grows)) last),
            block_keeps scope layout (suc at) h (OnTo at) block f.1 small.1 placed (omega (arith, first)) (omega (arith, last)) within left
                (own at first (omega (arith, last, grows))),
          )
      statement_keeps scope layout at h (tree.Call s) f small placed first last within lets left =
          let n = recursion_from_All IsNode (nodes_of (tree.Call s)) small.0.nodes in
          (call_keeps scope layout s (suc at) (omega (arith, lets, left)) f n small.0.count (own (suc at) (omega (arith, first)) last), tt)
      statement_keeps scope layout at h (tree.Fork s t) f small placed first last within lets left =
          let n = two_sides s t small.0.nodes small.0.count in
          (fork_keeps scope layout s t (suc at) (omega (arith, lets, left)) f.0 f.1 n.0 n.1 n.2 (own (suc at) (omega (arith, first)) last), tt)
      statement_keeps scope layout at h (tree.Split line r e x y block) f small placed first last within lets left =
          let n = one_expression e small.0.nodes small.0.count in
          let next = suc (end_of block (suc at)) in
          let grows = end_grows block (suc at) in
          let slot = f.0.has in
          let fits = line_fits (All-head limits.IsLine line [] small.0.lines) in
          let parts = length-append layout (x.name ∷ y.name ∷ []) in (
            split_keeps scope layout line r e (suc at) (omega (arith, within, left)) (omega (arith, slot, lets, left)) fits f.1 n.0 n.1
                (own (suc at) (omega (arith, first)) (omega (arith, last, grows))),
            block_keeps (split_scope scope r x y) (with_parts layout x y) (suc at) h (OnTo next) block f.7 small.1 placed (omega (arith, first))
                (omega (arith, last)) (omega (arith, within, parts)) left (own next (omega (arith, first, grows)) last),
          )
      statement_keeps scope layout at h (tree.Each i x r block) f small placed first last within lets left =
          let slot = f.0.has in (
            each_keeps layout r block h (suc at) (omega (arith, lets, left)) (omega (arith, slot, lets, left)) placed.0.slots
                (own (suc at) (omega (arith, first)) last),
            tt,
          )

      -- and of a block
      pub block_keeps : (scope : Scope) (layout : Layout) (at h : ℕ) (last : Last) (b : Block) → FitsBlock procedures scope layout b
          → AreSmall (statements_in b) → ArePlaced procedures code h (hidden_of_block layout h b) → low ≤ at → end_of b at < high
          → length layout + most_in_force b ≤ spare → spare + spare_slots b ≤ slots_of code q
          → LastFits (scope_behind scope b) (layout_behind layout b) last → AllByRecursion Keeps (block_code procedures spare layout at h last b)
      block_keeps scope layout at h last Nil f small placed first high' within left on =
          (last_keeps scope layout last on (omega (arith, within, left)), tt)
      block_keeps scope layout at h last (Then s rest) f small placed first high' within left on =
          let next = behind s at in
          let later = with_lets layout s in
          let between = hidden_behind s h in
          let xs = statement_code procedures spare layout at h s in
          let ys = block_code procedures spare later next between last rest in
          let hidden = hidden_of layout h s in
          let more = hidden_of_block later between rest in
          let here = statement_and_inner s in
          let there' = statements_in rest in
          let grows = behind_grows s at in
          let grows' = end_grows rest next in
          let longer = lets_length layout s in
          let a = spare_first (puts s) (assigns s) (has_put rest) (has_assignment rest) in
          let b = spare_second (puts s) (assigns s) (has_put rest) (has_assignment rest) in
          all-append Keeps xs ys
          (statement_keeps scope layout at h s f.0 (all-first IsSmallStatement here there' small) (placed_first procedures code hidden more h placed)
          first (omega (arith, high', grows')) (omega (arith, within)) (omega (arith, within)) (omega (arith, left, a)))
          (block_keeps (scope ++ lets_of s) later next between last rest f.1 (all-second IsSmallStatement here there' small)
          (placed_second procedures code hidden more h between (hidden_past layout h s) placed) (omega (arith, first, grows)) high'
          (omega (arith, within, longer)) (omega (arith, left, b)) on)
