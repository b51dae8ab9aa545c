-- The instructions of expressions, arguments and stores fit wherever they stand in a capsule, if those after them do.
use Rattle.std.proofs.Common.{◌≡◌, ◌≤◌, ◌<◌, ◌+◌, ℕ, zero, suc, List, [], ◌∷◌, ◌++◌, Some, length, map, slice_get, refl, ap, subst, arith}
use Rattle.std.specs.List.{All, AllByRecursion, flat_map}
use Rattle.std.proofs.lemmas.List.Elements.{All-head}
use Rattle.ppm_code.specs.declared.act.End.{End}
use Rattle.ppm_code.specs.declared.code.CodeParts.{CodeParts}
use Rattle.ppm_code.specs.declared.instr.Instr.{Instr}
use Rattle.ppm_code.specs.declared.instr.Instr.TheVariants as instr
use Rattle.ppm_code.specs.Code.{IsProcedure, IsCapsule, IsLine, Fits, room_of}
use Rattle.ppm_code.specs.Limits.{instr_limit}
use Rattle.ppm_code.specs.Sizes.{slots_of}
use Rattle.ppm_tree.specs.declared.operator.Operator.{Operator}
use Rattle.ppm_tree.specs.declared.operator.Operator.TheVariants as operator
use Rattle.ppm_tree.specs.declared.mode.Mode.{Mode}
use Rattle.ppm_tree.specs.declared.mode.Mode.TheVariants as mode
use Rattle.ppm_tree.specs.declared.tree.Parameter.{Parameter}
use Rattle.ppm_tree.specs.declared.named.Named.{Named}
use Rattle.ppm_tree.specs.Tree.{Expression, Argument}
use Rattle.ppm_tree.specs.Tree as tree
use Rattle.ppm_tree.specs.Parts.{nodes, node_names, node_lines}
use Rattle.ppm_tree.specs.Limits.{IsNode, IsNamed}
use Rattle.ppm_tree.specs.Limits as limits
use Rattle.ppm_cut_bounds.proofs.Keeping.{all-first, all-second}
use Rattle.ppm_regions.specs.Scope.{Scope}
use Rattle.ppm_cut_code.specs.Layout.{Layout, slot_of, register}
use Rattle.ppm_cut_code.specs.Expressions.{size_of, branch_size, last_size, operator_code, right_register, branch_code, expression_code}
use Rattle.ppm_cut_code.specs.Statements.{Instrs, lent_code, argument_size, argument_code, arguments_size}
use Rattle.ppm_cut_code.specs.Statements.{arguments_code, stores_code, loads_code, names_code}
use Rattle.ppm_cut_code.specs.Fits.{Has, FitsExpression, FitsLent, FitsArgument, FitsArguments}
use Rattle.ppm_cut_code.proofs.SizeLemmas.{last_at_least}
use Rattle.ppm_cut_code.proofs.PlaceLemmas.{of_procedure}

-- the last of these instructions is an end
abbrev pub IsClosed : Instrs → Type 0
IsClosed is = (front : Instrs) × (e : End) × (is ≡ front ++ (instr.Ends e ∷ []))

pub closed_end : (e : End) → IsClosed (instr.Ends e ∷ [])
closed_end e = ([], e, refl)

pub closed_behind : (i : Instr) (is : Instrs) → IsClosed is → IsClosed (i ∷ is)
closed_behind i is h = (i ∷ h.0, h.1, ap (λ (l : Instrs). i ∷ l) h.2)

closed_operator : (o : Operator) (line d : ℕ) (rest : Instrs) → IsClosed rest → IsClosed (operator_code o line d rest)
closed_operator operator.Add line d rest h = closed_behind _ rest h
closed_operator operator.Sub line d rest h = closed_behind _ rest h
closed_operator operator.Mul line d rest h = closed_behind _ rest h
closed_operator operator.Div line d rest h = closed_behind _ rest h
closed_operator operator.Rem line d rest h = closed_behind _ rest h
closed_operator operator.Eq line d rest h = closed_behind _ rest h
closed_operator operator.Ne line d rest h = closed_behind _ rest h
closed_operator operator.Lt line d rest h = closed_behind _ rest h
closed_operator operator.Le line d rest h = closed_behind _ rest h
closed_operator operator.Gt line d rest h = closed_behind _ rest h
closed_operator operator.Ge line d rest h = closed_behind _ rest h
closed_operator operator.And line d rest h = closed_behind _ _ (closed_behind _ rest h)
closed_operator operator.Or line d rest h = closed_behind _ _ (closed_behind _ rest h)

closed_branch : (o : Operator) (d target : ℕ) (rest : Instrs) → IsClosed rest → IsClosed (branch_code o d target rest)
closed_branch operator.Add d target rest h = h
closed_branch operator.Sub d target rest h = h
closed_branch operator.Mul d target rest h = h
closed_branch operator.Div d target rest h = h
closed_branch operator.Rem d target rest h = h
closed_branch operator.Eq d target rest h = h
closed_branch operator.Ne d target rest h = h
closed_branch operator.Lt d target rest h = h
closed_branch operator.Le d target rest h = h
closed_branch operator.Gt d target rest h = h
closed_branch operator.Ge d target rest h = h
closed_branch operator.And d target rest h = closed_behind _ rest h
closed_branch operator.Or d target rest h = closed_behind _ rest h

pub closed_expression : (layout : Layout) (e : Expression) (d at : ℕ) (rest : Instrs) → IsClosed rest → IsClosed (expression_code layout e d at rest)
closed_expression layout (tree.Number z) d at rest h = closed_behind _ rest h
closed_expression layout (tree.Name x) d at rest h = closed_behind _ rest h
closed_expression layout (tree.Element x index) d at rest h =
    closed_expression layout index d at
    (instr.LoadSlot (register (suc d)) (slot_of layout x.name) ∷ instr.Get (register d) (register (suc d)) (register d) x.line ∷ rest)
    (closed_behind _ _ (closed_behind _ rest h))
closed_expression layout (tree.Len x) d at rest h = closed_behind _ _ (closed_behind _ rest h)
closed_expression layout (tree.Minus line e) d at rest h =
    closed_behind _ _ (closed_expression layout e (suc d) (suc at) (instr.Sub (register d) (register d) (register (suc d)) line ∷ rest)
    (closed_behind _ rest h))
closed_expression layout (tree.Binary o line left right) d at rest h =
    let from = at + size_of left + branch_size o in
    let last = operator_code o line d rest in
    let second = expression_code layout right (right_register o d) from last in
    closed_expression layout left d at (branch_code o d (from + size_of right) second) (closed_branch o d (from + size_of right) second
    (closed_expression layout right (right_register o d) from last (closed_operator o line d rest h)))

closed_argument : (layout : Layout) (m : Mode) (e : Expression) (d at : ℕ) (rest : Instrs) → IsClosed rest
    → IsClosed (argument_code layout m e d at rest)
closed_argument layout mode.Int e d at rest h = closed_expression layout e d at rest h
closed_argument layout mode.Mut e d at rest h = closed_behind _ rest h
closed_argument layout mode.Ref e d at rest h = closed_behind _ rest h

pub closed_arguments : (layout : Layout) (ps : List Parameter) (arguments : List Argument) (d at : ℕ) (rest : Instrs) → IsClosed rest
    → IsClosed (arguments_code layout ps arguments d at rest)
closed_arguments layout [] arguments d at rest h = h
closed_arguments layout (p ∷ ps) [] d at rest h = h
closed_arguments layout (p ∷ ps) (a ∷ arguments) d at rest h =
    let size = argument_size p.mode a.value in
    closed_argument layout p.mode a.value d at (arguments_code layout ps arguments (suc d) (at + size) rest)
    (closed_arguments layout ps arguments (suc d) (at + size) rest h)

pub closed_stores : (offset d count : ℕ) (rest : Instrs) → IsClosed rest → IsClosed (stores_code offset d count rest)
closed_stores offset d zero rest h = h
closed_stores offset d (suc count) rest h =
    closed_behind _ (stores_code (suc offset) (suc d) count rest) (closed_stores (suc offset) (suc d) count rest h)

pub closed_loads : (layout names : Layout) (d : ℕ) (rest : Instrs) → IsClosed rest → IsClosed (loads_code layout names d rest)
closed_loads layout [] d rest h = h
closed_loads layout (x ∷ names) d rest h = closed_behind _ (loads_code layout names (suc d) rest) (closed_loads layout names (suc d) rest h)

pub closed_names : (slot d count : ℕ) (rest : Instrs) → IsClosed rest → IsClosed (names_code slot d count rest)
closed_names slot d zero rest h = h
closed_names slot d (suc count) rest h = closed_behind _ (names_code (suc slot) (suc d) count rest) (closed_names (suc slot) (suc d) count rest h)

-- a line of the tree is one of a code
pub line_fits : {line : ℕ} → limits.IsLine line → IsLine line
line_fits h = (h.first, h.last)

-- the line of the one name of a node, and of its operator
name_line : (e : Expression) (x : Named) (more : List Named) → node_names e ≡ x ∷ more → IsNode e → IsLine x.line
name_line e x more is h = line_fits (All-head IsNamed x more (subst (All IsNamed) is h.names)).line

own_line : (e : Expression) (line : ℕ) (more : List ℕ) → node_lines e ≡ line ∷ more → IsNode e → IsLine line
own_line e line more is h = line_fits (All-head limits.IsLine line more (subst (All limits.IsLine) is h.lines))

module _ (code : CodeParts) (q : ℕ) (is : Instrs) where
  -- these instructions fit, where the first has the number `at` in the capsule
  abbrev pub AllFit : (at : ℕ) → Instrs → Type 0
  AllFit at [] = Unit {0}
  AllFit at (i ∷ rest) = Fits code q is at i × AllFit (suc at) rest

  -- at another way to write the number
  pub moved : (rest : Instrs) (a b : ℕ) → a ≡ b → AllFit a rest → AllFit b rest
  moved rest a b e h = subst (λ (n : ℕ). AllFit n rest) e h

  fit_at : (rest : Instrs) (at k : ℕ) (i : Instr) → AllFit at rest → slice_get rest k ≡ Some i → Fits code q is (at + k) i
  fit_at [] at k i h found = absurd (cc)
  fit_at (j ∷ rest) at zero i h found =
      let e : at ≡ at + 0 = omega arith in
      let same : j ≡ i = cc in
      subst (λ (n : ℕ). Fits code q is n i) e (subst (λ (l : Instr). Fits code q is at l) same h.0)
  fit_at (j ∷ rest) at (suc k) i h found =
      let e : suc at + k ≡ at + suc k = omega arith in
      subst (λ (n : ℕ). Fits code q is n i) e (fit_at rest (suc at) k i h.1 found)

  -- a capsule of these instructions keeps the rules of a capsule
  pub capsule_fits : IsProcedure code q → length is ≤ instr_limit → IsClosed is → AllFit 0 is → IsCapsule code (of_procedure q is)
  capsule_fits there most closed fit = record {
    procedure = there;
    most = most;
    last = closed;
    each = λ at i found. let e : 0 + at ≡ at = omega arith in subst (λ (n : ℕ). Fits code q is n i) e (fit_at is 0 at i fit found);
  }

  -- an operator, and its branch
  operator_fits : (o : Operator) (line d at : ℕ) (rest : Instrs) → IsLine line → AllFit (at + last_size o) rest
      → AllFit at (operator_code o line d rest)
  operator_fits operator.Add line d at rest l h = (l, moved rest (at + 1) (suc at) (omega arith) h)
  operator_fits operator.Sub line d at rest l h = (l, moved rest (at + 1) (suc at) (omega arith) h)
  operator_fits operator.Mul line d at rest l h = (l, moved rest (at + 1) (suc at) (omega arith) h)
  operator_fits operator.Div line d at rest l h = (l, moved rest (at + 1) (suc at) (omega arith) h)
  operator_fits operator.Rem line d at rest l h = (l, moved rest (at + 1) (suc at) (omega arith) h)
  operator_fits operator.Eq line d at rest l h = (tt, moved rest (at + 1) (suc at) (omega arith) h)
  operator_fits operator.Ne line d at rest l h = (tt, moved rest (at + 1) (suc at) (omega arith) h)
  operator_fits operator.Lt line d at rest l h = (tt, moved rest (at + 1) (suc at) (omega arith) h)
  operator_fits operator.Le line d at rest l h = (tt, moved rest (at + 1) (suc at) (omega arith) h)
  operator_fits operator.Gt line d at rest l h = (tt, moved rest (at + 1) (suc at) (omega arith) h)
  operator_fits operator.Ge line d at rest l h = (tt, moved rest (at + 1) (suc at) (omega arith) h)
  operator_fits operator.And line d at rest l h = (tt, (tt, moved rest (at + 2) (suc (suc at)) (omega arith) h))
  operator_fits operator.Or line d at rest l h = (tt, (tt, moved rest (at + 2) (suc (suc at)) (omega arith) h))

  branch_fits : (o : Operator) (d at target : ℕ) (rest : Instrs) → at + branch_size o ≤ target → target < length is → AllFit (at + branch_size o) rest
      → AllFit at (branch_code o d target rest)
  branch_fits operator.Add d at target rest low high h = moved rest (at + 0) at (omega arith) h
  branch_fits operator.Sub d at target rest low high h = moved rest (at + 0) at (omega arith) h
  branch_fits operator.Mul d at target rest low high h = moved rest (at + 0) at (omega arith) h
  branch_fits operator.Div d at target rest low high h = moved rest (at + 0) at (omega arith) h
  branch_fits operator.Rem d at target rest low high h = moved rest (at + 0) at (omega arith) h
  branch_fits operator.Eq d at target rest low high h = moved rest (at + 0) at (omega arith) h
  branch_fits operator.Ne d at target rest low high h = moved rest (at + 0) at (omega arith) h
  branch_fits operator.Lt d at target rest low high h = moved rest (at + 0) at (omega arith) h
  branch_fits operator.Le d at target rest low high h = moved rest (at + 0) at (omega arith) h
  branch_fits operator.Gt d at target rest low high h = moved rest (at + 0) at (omega arith) h
  branch_fits operator.Ge d at target rest low high h = moved rest (at + 0) at (omega arith) h
  branch_fits operator.And d at target rest low high h = ((omega (arith, low), high), moved rest (at + 1) (suc at) (omega arith) h)
  branch_fits operator.Or d at target rest low high h = ((omega (arith, low), high), moved rest (at + 1) (suc at) (omega arith) h)

  module _ (scope : Scope) (layout : Layout) (room : length layout ≤ slots_of code q) where
    -- a name with a slot of the layout
    pub slot_fits : (x : List ℕ) → Has layout x → slot_of layout x < slots_of code q
    slot_fits x h = omega (arith, h, room)

    pub expression_fits : (e : Expression) (d at : ℕ) (rest : Instrs) → FitsExpression scope layout e → AllByRecursion IsNode (nodes e)
        → at + size_of e ≤ length is → AllFit (at + size_of e) rest → AllFit at (expression_code layout e d at rest)
    expression_fits (tree.Number z) d at rest f n low h = (tt, moved rest (at + 1) (suc at) (omega arith) h)
    expression_fits (tree.Name x) d at rest f n low h = (slot_fits x.name f.has, moved rest (at + 1) (suc at) (omega arith) h)
    expression_fits (tree.Element x index) d at rest f n low h =
        expression_fits index d at
        (instr.LoadSlot (register (suc d)) (slot_of layout x.name) ∷ instr.Get (register d) (register (suc d)) (register d) x.line ∷ rest)
        f.1 n.1 (omega (arith, low)) (
          slot_fits x.name f.0.has,
          (
            name_line (tree.Element x index) x [] refl n.0,
            moved rest (at + (size_of index + 2)) (suc (suc (at + size_of index))) (omega arith) h,
          ),
        )
    expression_fits (tree.Len x) d at rest f n low h = (slot_fits x.name f.has, (tt, moved rest (at + 2) (suc (suc at)) (omega arith) h))
    expression_fits (tree.Minus line e) d at rest f n low h = (
      tt,
      expression_fits e (suc d) (suc at) (instr.Sub (register d) (register d) (register (suc d)) line ∷ rest) f n.1 (omega (arith, low))
          (own_line (tree.Minus line e) line [] refl n.0, moved rest (at + (suc (size_of e) + 1)) (suc (suc at + size_of e)) (omega arith) h),
    )
    expression_fits (tree.Binary o line left right) d at rest f n low h =
        let behind_left = at + size_of left in
        let from = behind_left + branch_size o in
        let target = from + size_of right in
        let last = operator_code o line d rest in
        let second = expression_code layout right (right_register o d) from last in
        let one = last_at_least o in
        let l = all-first IsNode (nodes left) (nodes right) n.1 in
        let r = all-second IsNode (nodes left) (nodes right) n.1 in
        let own = own_line (tree.Binary o line left right) line [] refl n.0 in
        let whole : at + (size_of left + branch_size o + size_of right + last_size o) ≡ target + last_size o = omega arith in
        let inside : target + last_size o ≤ length is = omega (arith, low) in
        expression_fits left d at (branch_code o d target second) f.0 l (omega (arith, low))
        (branch_fits o d behind_left target second (omega arith) (omega (arith, inside, one))
        (expression_fits right (right_register o d) from last f.1 r (omega (arith, inside))
        (operator_fits o line d target rest own (moved rest _ (target + last_size o) whole h))))

    lent_fits : (e : Expression) (d at : ℕ) (rest : Instrs) → FitsLent scope layout e → AllFit (suc at) rest → AllFit at (lent_code layout e d ∷ rest)
    lent_fits (tree.Number z) d at rest f h = absurd f
    lent_fits (tree.Name x) d at rest f h = (slot_fits x.name f.has, h)
    lent_fits (tree.Element x index) d at rest f h = absurd f
    lent_fits (tree.Len x) d at rest f h = absurd f
    lent_fits (tree.Minus line e) d at rest f h = absurd f
    lent_fits (tree.Binary o line left right) d at rest f h = absurd f

    argument_fits : (m : Mode) (e : Expression) (d at : ℕ) (rest : Instrs) → FitsArgument scope layout m e → AllByRecursion IsNode (nodes e)
        → at + argument_size m e ≤ length is → AllFit (at + argument_size m e) rest → AllFit at (argument_code layout m e d at rest)
    argument_fits mode.Int e d at rest f n low h = expression_fits e d at rest f n low h
    argument_fits mode.Mut e d at rest f n low h = lent_fits e d at rest f (moved rest (at + 1) (suc at) (omega arith) h)
    argument_fits mode.Ref e d at rest f n low h = lent_fits e d at rest f (moved rest (at + 1) (suc at) (omega arith) h)

    pub arguments_fit : (ps : List Parameter) (arguments : List Argument) (d at : ℕ) (rest : Instrs) → FitsArguments scope layout ps arguments
        → AllByRecursion IsNode (flat_map nodes (map (λ a. a.value) arguments)) → at + arguments_size ps arguments ≤ length is
        → AllFit (at + arguments_size ps arguments) rest → AllFit at (arguments_code layout ps arguments d at rest)
    arguments_fit [] arguments d at rest f n low h = moved rest (at + 0) at (omega arith) h
    arguments_fit (p ∷ ps) [] d at rest f n low h = moved rest (at + 0) at (omega arith) h
    arguments_fit (p ∷ ps) (a ∷ arguments) d at rest f n low h =
        let size = argument_size p.mode a.value in
        let more = flat_map nodes (map (λ a. a.value) arguments) in
        let whole : at + (size + arguments_size ps arguments) ≡ at + size + arguments_size ps arguments = omega arith in
        argument_fits p.mode a.value d at (arguments_code layout ps arguments (suc d) (at + size) rest) f.0 (all-first IsNode (nodes a.value) more n)
        (omega (arith, low))
        (arguments_fit ps arguments (suc d) (at + size) rest f.1 (all-second IsNode (nodes a.value) more n) (omega (arith, low))
        (moved rest _ (at + size + arguments_size ps arguments) whole h))

    pub loads_fit : (names : Layout) (d at : ℕ) (rest : Instrs) → AllByRecursion (Has layout) names → AllFit (at + length names) rest
        → AllFit at (loads_code layout names d rest)
    loads_fit [] d at rest f h = moved rest (at + 0) at (omega arith) h
    loads_fit (x ∷ names) d at rest f h =
        let whole : at + suc (length names) ≡ suc at + length names = omega arith in
        (slot_fits x f.0, loads_fit names (suc d) (suc at) rest f.1 (moved rest _ (suc at + length names) whole h))

  -- stores into the new block, for which room was asked
  pub stores_fit : (words offset d count at : ℕ) (rest : Instrs) → room_of is ≡ Some words → offset + count ≤ words → AllFit (at + count) rest
      → AllFit at (stores_code offset d count rest)
  stores_fit words offset d zero at rest asked most h = moved rest (at + 0) at (omega arith) h
  stores_fit words offset d (suc count) at rest asked most h =
      let whole : at + suc count ≡ suc at + count = omega arith in (
        (words, asked, omega (arith, most)),
        stores_fit words (suc offset) (suc d) count (suc at) rest asked (omega (arith, most)) (moved rest _ (suc at + count) whole h),
      )

  -- loads of slots, one after the other
  pub names_fit : (slot d count at : ℕ) (rest : Instrs) → slot + count ≤ slots_of code q → AllFit (at + count) rest
      → AllFit at (names_code slot d count rest)
  names_fit slot d zero at rest most h = moved rest (at + 0) at (omega arith) h
  names_fit slot d (suc count) at rest most h =
      let whole : at + suc count ≡ suc at + count = omega arith in
      (omega (arith, most), names_fit (suc slot) (suc d) count (suc at) rest (omega (arith, most)) (moved rest _ (suc at + count) whole h))
