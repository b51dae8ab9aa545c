-- Trees that differ in lines alone have codes that differ in lines alone: a code without its lines is that of the tree without its lines.
use Rattle.std.proofs.Common.{◌≡◌, ℕ, suc, List, [], ◌∷◌, ◌++◌, length, map, refl, ap, ap₂, sym, ◌∙◌}
use Rattle.std.specs.Prelude.{None, codes}
use Rattle.std.proofs.lemmas.List.{length-map, map-append}
use Rattle.ppm_code.specs.declared.act.End.TheVariants as ends
use Rattle.ppm_code.specs.declared.instr.Instr.TheVariants as instr
use Rattle.ppm_tree.specs.declared.tree.Parameter.{Parameter}
use Rattle.ppm_tree.specs.declared.tree.Array.{Array}
use Rattle.ppm_tree.specs.Tree.{Statement, Block, Nil, Then, Procedure, ProgramTree}
use Rattle.ppm_tree.specs.Tree as tree
use Rattle.ppm_tree.specs.Program.{main_of, whole_from}
use Rattle.ppm_cut_code.specs.Layout.{Layout, parameter_layout, caught}
use Rattle.ppm_cut_code.specs.Numbers.{behind, end_of, hidden_behind, hidden_behind_block, element_block}
use Rattle.ppm_cut_code.specs.Slots.{named_slots, hidden_named_slots, hidden_slots}
use Rattle.ppm_cut_code.specs.Statements.{Instrs, Last, OnTo, Gives, move_code, put_code, test_code, split_code}
use Rattle.ppm_cut_code.specs.Statements.{entry_code, halving_code, with_lets, with_parts, statement_code, block_code}
use Rattle.ppm_cut_code.specs.Routines.{Sweep, sweep_layout, Routine, OfText, Hidden, routine_slots, routine_behind, hidden_of, hidden_of_block}
use Rattle.ppm_cut_code.specs.Routines.{texts_from, hidden_from, routines_of, procedures_from, routine_code, capsules_from, code_of}
use Rattle.ppm_cut_code.specs.Correct.{LinesAlone}
use Rattle.ppm_tree.specs.Lines.{bare_name, bare_expression, bare_statement, bare_block, bare_give}
use Rattle.ppm_tree.specs.Lines.{bare_parameter, bare_array, bare_procedure, without_lines}
use Rattle.ppm_cut_code.specs.Lines.{bare_capsule, code_without_lines}
use Rattle.ppm_cut_code.proofs.BareLemmas.{behind_bare, end_bare, hidden_behind_bare, hidden_behind_block_bare, with_lets_bare, caught_bare}
use Rattle.ppm_cut_code.proofs.BareLemmas.{named_slots_bare, procedure_slots_bare, hidden_named_bare, hidden_slots_bare, parameter_layout_bare}
use Rattle.ppm_cut_code.proofs.BareLemmas.{named_bare, number_bare, whole_bare}
use Rattle.ppm_cut_code.proofs.LineLemmas.{bare, bare_last, bares, expression_bare, element_bare, test_bare, split_bare, last_bare, each_bare}
use Rattle.ppm_cut_code.proofs.LineLemmas.{halving_bare, call_bare, fork_bare}

-- capsules in no line
abbrev bare_all : List Instrs → List Instrs
bare_all capsules = map bare capsules

bare_all-append : (xs ys : List Instrs) → bare_all (xs ++ ys) ≡ bare_all xs ++ bare_all ys
bare_all-append xs ys = map-append bare xs ys

module _ (procedures : List Procedure) where
  abbrev others : List Procedure
  others = bares procedures

  mutual
    statement_bare : (spare : ℕ) (layout : Layout) (at h : ℕ) (s : Statement)
        → bare_all (statement_code procedures spare layout at h s) ≡ statement_code others spare layout at h (bare_statement s)
    statement_bare spare layout at h (tree.Let x e) = ap (λ is. is ∷ []) (expression_bare layout e 0 0 _)
    statement_bare spare layout at h (tree.Assign x e) =
        ap (λ (is : Instrs). is ∷ move_code layout spare (bare_name x) (suc (suc at)) ∷ []) (expression_bare layout e 0 0 _)
    statement_bare spare layout at h (tree.Put x index e) =
        ap (λ (is : Instrs). is ∷ bare (put_code layout spare x (suc (suc at))) ∷ []) (element_bare layout spare index e (suc at))
    statement_bare spare layout at h (tree.If e holds other) =
        let first = suc (end_of holds (suc at)) in
        let next = suc (end_of other first) in
        let hidden = hidden_behind_block holds h in
        let t = test_bare layout e (suc at) first in
        let l = block_bare spare layout (suc at) h (OnTo next) holds in
        let r = block_bare spare layout first hidden (OnTo next) other in
        let first_same = sym (end_bare holds (suc at)) in
        let next_same = sym (end_bare other first) in
        let hidden_same = sym (hidden_behind_block_bare holds h) in
        ap (λ cs. bare (test_code layout e (suc at) first) ∷ cs)
        (bare_all-append (block_code procedures spare layout (suc at) h (OnTo next) holds)
        (block_code procedures spare layout first hidden (OnTo next) other))
        ∙ (λ i. t i ∷ (l i ++ r i))
        ∙ (λ i. test_code layout (bare_expression e) (suc at) first
        ∷ (block_code others spare layout (suc at) h (OnTo (suc (next_same i))) (bare_block holds)
        ++ block_code others spare layout first (hidden_same i) (OnTo (suc (next_same i))) (bare_block other)))
        ∙ (λ i. test_code layout (bare_expression e) (suc at) (suc (first_same i))
        ∷ (block_code others spare layout (suc at) h (OnTo (suc (end_of (bare_block other) (suc (first_same i))))) (bare_block holds)
        ++ block_code others spare layout (suc (first_same i)) (hidden_behind_block (bare_block holds) h)
        (OnTo (suc (end_of (bare_block other) (suc (first_same i))))) (bare_block other)))
    statement_bare spare layout at h (tree.While e block) =
        let t = test_bare layout e (suc at) (suc (end_of block (suc at))) in
        let b = block_bare spare layout (suc at) h (OnTo at) block in
        let same = sym (end_bare block (suc at)) in
        (λ i. t i ∷ b i)
        ∙ (λ i. test_code layout (bare_expression e) (suc at) (suc (same i))
        ∷ block_code others spare layout (suc at) h (OnTo at) (bare_block block))
    statement_bare spare layout at h (tree.Call s) = ap (λ is. is ∷ []) (call_bare procedures layout s (suc at))
    statement_bare spare layout at h (tree.Fork s t) = ap (λ is. is ∷ []) (fork_bare procedures layout s t (suc at))
    statement_bare spare layout at h (tree.Split line r e x y block) =
        let t = split_bare layout line r e (suc at) in
        let b = block_bare spare (with_parts layout x y) (suc at) h (OnTo (suc (end_of block (suc at)))) block in
        let same = sym (end_bare block (suc at)) in
        (λ i. t i ∷ b i)
        ∙ (λ i. split_code layout 0 (bare_name r) (bare_expression e) (suc at)
        ∷ block_code others spare (with_parts layout x y) (suc at) h (OnTo (suc (same i))) (bare_block block))
    statement_bare spare layout at h (tree.Each i x r block) = ap (λ is. is ∷ []) (each_bare layout r block h (suc at))

    block_bare : (spare : ℕ) (layout : Layout) (at h : ℕ) (last : Last) (b : Block)
        → bare_all (block_code procedures spare layout at h last b) ≡ block_code others spare layout at h (bare_last last) (bare_block b)
    block_bare spare layout at h last Nil = ap (λ is. is ∷ []) (last_bare layout last)
    block_bare spare layout at h last (Then s rest) =
        let front = statement_bare spare layout at h s in
        let more = block_bare spare (with_lets layout s) (behind s at) (hidden_behind s h) last rest in
        let layout_same = sym (with_lets_bare layout s) in
        let at_same = sym (behind_bare s at) in
        let h_same = sym (hidden_behind_bare s h) in
        bare_all-append (statement_code procedures spare layout at h s)
        (block_code procedures spare (with_lets layout s) (behind s at) (hidden_behind s h) last rest)
        ∙ (λ i. front i ++ more i)
        ∙ (λ i. statement_code others spare layout at h (bare_statement s)
        ++ block_code others spare (layout_same i) (at_same i) (h_same i) (bare_last last) (bare_block rest))

-- procedures of the code, whose blocks are in no line
abbrev bare_sweep : Sweep → Sweep
bare_sweep s = record { number = s.number; line = 0; part = s.part; index = s.index; names = s.names; block = bare_block s.block }

abbrev bare_routine : Routine → Routine
bare_routine (OfText p h) = OfText (bare_procedure p) h
bare_routine (Hidden s) = Hidden (bare_sweep s)

slots_bare : (r : Routine) → routine_slots (bare_routine r) ≡ routine_slots r
slots_bare (OfText p h) = procedure_slots_bare p
slots_bare (Hidden s) = hidden_slots_bare (length s.names) s.block

routine_behind_bare : (r : Routine) (at : ℕ) → routine_behind (bare_routine r) at ≡ routine_behind r at
routine_behind_bare (OfText p h) at = ap (λ n. suc n) (end_bare p.body at)
routine_behind_bare (Hidden s) at = ap (λ n. suc n) (end_bare s.block (element_block at))

mutual
  hidden_bare : (layout : Layout) (h : ℕ) (s : Statement) → hidden_of layout h (bare_statement s) ≡ map bare_routine (hidden_of layout h s)
  hidden_bare layout h (tree.Let x e) = refl
  hidden_bare layout h (tree.Assign x e) = refl
  hidden_bare layout h (tree.Put x index e) = refl
  hidden_bare layout h (tree.If e holds other) =
      let between = hidden_behind_block holds h in
      let l = hidden_block_bare layout h holds in
      let r = hidden_block_bare layout between other in
      ap (λ k. hidden_of_block layout h (bare_block holds) ++ hidden_of_block layout k (bare_block other)) (hidden_behind_block_bare holds h)
      ∙ (λ i. l i ++ r i) ∙ sym (map-append bare_routine (hidden_of_block layout h holds) (hidden_of_block layout between other))
  hidden_bare layout h (tree.While e block) = hidden_block_bare layout h block
  hidden_bare layout h (tree.Call s) = refl
  hidden_bare layout h (tree.Fork s t) = refl
  hidden_bare layout h (tree.Split line r e x y block) = hidden_block_bare (with_parts layout x y) h block
  hidden_bare layout h (tree.Each i x r block) =
      let names = caught_bare layout block in
      let b = hidden_block_bare (x.name ∷ i.name ∷ caught layout block) (suc h) block in
      (λ j. Hidden (record { number = h; line = 0; part = x.name; index = i.name; names = names j; block = bare_block block })
      ∷ hidden_of_block (x.name ∷ i.name ∷ names j) (suc h) (bare_block block))
      ∙ ap (λ rs. Hidden (record { number = h; line = 0; part = x.name; index = i.name; names = caught layout block; block = bare_block block })
      ∷ rs) b

  hidden_block_bare : (layout : Layout) (h : ℕ) (b : Block) → hidden_of_block layout h (bare_block b) ≡ map bare_routine (hidden_of_block layout h b)
  hidden_block_bare layout h Nil = refl
  hidden_block_bare layout h (Then s rest) =
      let l = hidden_bare layout h s in
      let r = hidden_block_bare (with_lets layout s) (hidden_behind s h) rest in
      let layout_same = with_lets_bare layout s in
      let h_same = hidden_behind_bare s h in
      (λ i. hidden_of layout h (bare_statement s) ++ hidden_of_block (layout_same i) (h_same i) (bare_block rest))
      ∙ (λ i. l i ++ r i) ∙ sym (map-append bare_routine (hidden_of layout h s) (hidden_of_block (with_lets layout s) (hidden_behind s h) rest))

texts_bare : (h : ℕ) (ps : List Procedure) → texts_from h (bares ps) ≡ map bare_routine (texts_from h ps)
texts_bare h [] = refl
texts_bare h (p ∷ ps) =
    ap (λ rs. OfText (bare_procedure p) h ∷ rs)
    (ap (λ k. texts_from k (bares ps)) (hidden_behind_block_bare p.body h) ∙ texts_bare (hidden_behind_block p.body h) ps)

hidden_from_bare : (h : ℕ) (ps : List Procedure) → hidden_from h (bares ps) ≡ map bare_routine (hidden_from h ps)
hidden_from_bare h [] = refl
hidden_from_bare h (p ∷ ps) =
    let layout = parameter_layout_bare p.parameters in
    let next = hidden_behind_block_bare p.body h in
    let l = hidden_block_bare (parameter_layout p.parameters) h p.body in
    let r = hidden_from_bare (hidden_behind_block p.body h) ps in
    (λ i. hidden_of_block (layout i) h (bare_block p.body) ++ hidden_from (next i) (bares ps))
    ∙ (λ i. l i ++ r i)
    ∙ sym (map-append bare_routine (hidden_of_block (parameter_layout p.parameters) h p.body) (hidden_from (hidden_behind_block p.body h) ps))

routines_bare : (ps : List Procedure) → routines_of (bares ps) ≡ map bare_routine (routines_of ps)
routines_bare ps =
    let n = length-map ps bare_procedure in
    let l = texts_bare (length ps) ps in
    let r = hidden_from_bare (length ps) ps in
    (λ i. texts_from (n i) (bares ps) ++ hidden_from (n i) (bares ps)) ∙ (λ i. l i ++ r i)
    ∙ sym (map-append bare_routine (texts_from (length ps) ps) (hidden_from (length ps) ps))

procedures_bare : (at : ℕ) (rs : List Routine) → procedures_from at (map bare_routine rs) ≡ procedures_from at rs
procedures_bare at [] = refl
procedures_bare at (r ∷ rs) =
    let slots = slots_bare r in
    let next = routine_behind_bare r at in
    let more = procedures_bare (routine_behind r at) rs in
    (λ i. record { slots = slots i; entry = at } ∷ procedures_from (next i) (map bare_routine rs))
    ∙ ap (λ ps. record { slots = routine_slots r; entry = at } ∷ ps) more

module _ (procedures : List Procedure) where
  routine_bare : (at : ℕ) (r : Routine) → bare_all (routine_code procedures at r) ≡ routine_code (bares procedures) at (bare_routine r)
  routine_bare at (OfText p h) =
      let spare = sym (named_slots_bare p) in
      let layout = sym (parameter_layout_bare p.parameters) in
      block_bare procedures (named_slots p) (parameter_layout p.parameters) at h (Gives p.give) p.body
      ∙ (λ i. block_code (bares procedures) (spare i) (layout i) at h (Gives (bare_give p.give)) (bare_block p.body))
  routine_bare at (Hidden s) =
      let names = length s.names in
      let slots = sym (hidden_slots_bare names s.block) in
      let spare = sym (hidden_named_bare names s.block) in
      let halves = halving_bare at s.number (hidden_slots names s.block) names s.line in
      let b = block_bare procedures (hidden_named_slots names s.block) (sweep_layout s) (element_block at) (suc s.number) (Gives None) s.block in
      (λ i. entry_code at ∷ halves i ∷ (instr.Ends ends.Finish ∷ []) ∷ b i)
      ∙ (λ i. entry_code at ∷ halving_code at s.number (slots i) names 0 ∷ (instr.Ends ends.Finish ∷ [])
      ∷ block_code (bares procedures) (spare i) (sweep_layout s) (element_block at) (suc s.number) (Gives None) (bare_block s.block))

  own_bare : (q : ℕ) (capsules : List Instrs)
      → map bare_capsule (map (λ is. record { procedure = q; instrs = is }) capsules)
      ≡ map (λ is. record { procedure = q; instrs = is }) (bare_all capsules)
  own_bare q [] = refl
  own_bare q (is ∷ capsules) = ap (λ cs. record { procedure = q; instrs = bare is } ∷ cs) (own_bare q capsules)

  capsules_bare : (q at : ℕ) (rs : List Routine)
      → map bare_capsule (capsules_from procedures q at rs) ≡ capsules_from (bares procedures) q at (map bare_routine rs)
  capsules_bare q at [] = refl
  capsules_bare q at (r ∷ rs) =
      let own = own_bare q (routine_code procedures at r) in
      let code = routine_bare at r in
      let more = capsules_bare (suc q) (routine_behind r at) rs in
      let next = sym (routine_behind_bare r at) in
      map-append bare_capsule (map (λ is. record { procedure = q; instrs = is }) (routine_code procedures at r))
      (capsules_from procedures (suc q) (routine_behind r at) rs)
      ∙ (λ i. own i ++ more i)
      ∙ (λ i. map (λ is. record { procedure = q; instrs = is }) (code i) ++ capsules_from (bares procedures) (suc q) (next i) (map bare_routine rs))

-- the arrays of a program's parameters
arrays_bare : (arrays : List Array) (ps : List Parameter)
    → map (λ p. (whole_from 0 (map bare_array arrays) p.name.name).array) (map bare_parameter ps)
    ≡ map (λ p. (whole_from 0 arrays p.name.name).array) ps
arrays_bare arrays [] = refl
arrays_bare arrays (p ∷ ps) =
    let w = whole_bare 0 arrays p.name.name in
    let more = arrays_bare arrays ps in
    λ i. (w i).array ∷ more i

-- a code without its lines is that of the tree without its lines
code_bare : (t : ProgramTree) → code_without_lines (code_of t) ≡ code_of (without_lines t)
code_bare t =
    let root = sym (number_bare t.procedures (codes "main")) in
    let main = named_bare t.procedures (codes "main") in
    let arrays = sym (arrays_bare t.arrays (main_of t).parameters)
    ∙ ap (λ (p : Procedure). map (λ q. (whole_from 0 (map bare_array t.arrays) q.name.name).array) p.parameters) (sym main) in
    let routines = sym (routines_bare t.procedures) in
    let procedures = sym (procedures_bare 0 (routines_of t.procedures)) ∙ ap (procedures_from 0) routines in
    let capsules = capsules_bare t.procedures 0 0 (routines_of t.procedures) ∙ ap (capsules_from (bares t.procedures) 0 0) routines in
    λ i. record { root = root i; arrays = arrays i; procedures = procedures i; capsules = capsules i }

pub lines_alone : LinesAlone
lines_alone t u arrays procedures =
    code_bare t ∙ ap₂ (λ (arrays : List Array) (procedures : List Procedure). code_of (record { arrays = arrays; procedures = procedures; inputs = [] })) arrays procedures
    ∙ sym (code_bare u)
