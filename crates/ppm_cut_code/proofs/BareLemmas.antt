-- What a tree's lines do not change: the sizes of code, the numbers of capsules and procedures, slots and names.
use Rattle.std.proofs.Common.{◌≡◌, ◌+◌, ℕ, suc, List, [], ◌∷◌, ◌++◌, length, map, max, refl, ap, sym, ◌∙◌, Bool, true, false, ◌||◌, if◌then◌else◌}
use Rattle.std.specs.Prelude.{Option, Some, None}
use Rattle.std.specs.List.{filter, flat_map}
use Rattle.std.specs.Set.{is_member}
use Rattle.std.specs.Str.{bytes_eq}
use Rattle.std.proofs.lemmas.List.{length-map, map-append}
use Rattle.ppm_tree.specs.declared.mode.Mode.{Mode}
use Rattle.ppm_tree.specs.declared.mode.Mode.TheVariants as mode
use Rattle.ppm_tree.specs.declared.named.Named.{Named}
use Rattle.ppm_tree.specs.declared.tree.Parameter.{Parameter}
use Rattle.ppm_tree.specs.declared.tree.Array.{Array}
use Rattle.ppm_tree.specs.Tree.{Expression, Argument, Side, Statement, Block, Nil, Then, Procedure}
use Rattle.ppm_tree.specs.Tree as tree
use Rattle.ppm_tree.specs.Parts.{nodes, node_names, nodes_of, expressions_of, target_names}
use Rattle.ppm_tree.specs.State.{procedure_named}
use Rattle.ppm_tree.specs.Program.{whole_from}
use Rattle.ppm_cut_bounds.specs.Names.{without, acted_on, used_by, lets_of, free_within, free_names}
use Rattle.ppm_cut_bounds.specs.Slots.{most_within, most_in_force, puts, has_put}
use Rattle.ppm_cut_code.specs.Layout.{Layout, target_of, caught, parameter_layout}
use Rattle.ppm_cut_code.specs.Expressions.{size_of, branch_size, last_size}
use Rattle.ppm_cut_code.specs.Numbers.{behind, end_of, hidden_behind, hidden_behind_block}
use Rattle.ppm_cut_code.specs.Slots.{assigns, has_assignment, spare_slots, named_slots, procedure_slots, hidden_named_slots, hidden_slots}
use Rattle.ppm_cut_code.specs.Statements.{argument_size, arguments_size, paired, with_lets, number_of}
use Rattle.ppm_tree.specs.Lines.{bare_expression, bare_argument, bare_target, bare_statement, bare_block}
use Rattle.ppm_tree.specs.Lines.{bare_parameter, bare_array, bare_procedure}

-- the size of an expression, and of arguments
pub size_bare : (e : Expression) → size_of (bare_expression e) ≡ size_of e
size_bare (tree.Number z) = refl
size_bare (tree.Name x) = refl
size_bare (tree.Element x index) = ap (λ n. n + 2) (size_bare index)
size_bare (tree.Len x) = refl
size_bare (tree.Minus line e) = ap (λ n. suc n + 1) (size_bare e)
size_bare (tree.Binary o line left right) =
    let l = size_bare left in
    let r = size_bare right in
    λ i. l i + branch_size o + r i + last_size o

pub argument_size_bare : (m : Mode) (e : Expression) → argument_size m (bare_expression e) ≡ argument_size m e
argument_size_bare mode.Int e = size_bare e
argument_size_bare mode.Mut e = refl
argument_size_bare mode.Ref e = refl

pub arguments_size_bare : (ps : List Parameter) (arguments : List Argument)
    → arguments_size (map bare_parameter ps) (map bare_argument arguments) ≡ arguments_size ps arguments
arguments_size_bare [] arguments = refl
arguments_size_bare (p ∷ ps) [] = refl
arguments_size_bare (p ∷ ps) (a ∷ arguments) =
    let h = argument_size_bare p.mode a.value in
    let k = arguments_size_bare ps arguments in
    λ i. h i + k i

pub paired_bare : (ps : List Parameter) (arguments : List Argument)
    → paired (map bare_parameter ps) (map bare_argument arguments) ≡ paired ps arguments
paired_bare [] arguments = refl
paired_bare (p ∷ ps) [] = refl
paired_bare (p ∷ ps) (a ∷ arguments) = ap (λ n. suc n) (paired_bare ps arguments)

-- a target's slot
pub target_bare : (layout : Layout) (target : Option Named) → target_of layout (bare_target target) ≡ target_of layout target
target_bare layout None = refl
target_bare layout (Some x) = refl

-- the numbers of capsules
mutual
  pub behind_bare : (s : Statement) (at : ℕ) → behind (bare_statement s) at ≡ behind s at
  behind_bare (tree.Let x e) at = refl
  behind_bare (tree.Assign x e) at = refl
  behind_bare (tree.Put x index e) at = refl
  behind_bare (tree.If e holds other) at =
      let h = end_bare holds (suc at) in
      ap (λ n. suc (end_of (bare_block other) (suc n))) h ∙ ap (λ n. suc n) (end_bare other (suc (end_of holds (suc at))))
  behind_bare (tree.While e block) at = ap (λ n. suc n) (end_bare block (suc at))
  behind_bare (tree.Call s) at = refl
  behind_bare (tree.Fork s t) at = refl
  behind_bare (tree.Split line r e x y block) at = ap (λ n. suc n) (end_bare block (suc at))
  behind_bare (tree.Each i x r block) at = refl

  pub end_bare : (b : Block) (at : ℕ) → end_of (bare_block b) at ≡ end_of b at
  end_bare Nil at = refl
  end_bare (Then s rest) at = ap (end_of (bare_block rest)) (behind_bare s at) ∙ end_bare rest (behind s at)

-- and of hidden procedures
mutual
  pub hidden_behind_bare : (s : Statement) (h : ℕ) → hidden_behind (bare_statement s) h ≡ hidden_behind s h
  hidden_behind_bare (tree.Let x e) h = refl
  hidden_behind_bare (tree.Assign x e) h = refl
  hidden_behind_bare (tree.Put x index e) h = refl
  hidden_behind_bare (tree.If e holds other) h =
      ap (hidden_behind_block (bare_block other)) (hidden_behind_block_bare holds h) ∙ hidden_behind_block_bare other (hidden_behind_block holds h)
  hidden_behind_bare (tree.While e block) h = hidden_behind_block_bare block h
  hidden_behind_bare (tree.Call s) h = refl
  hidden_behind_bare (tree.Fork s t) h = refl
  hidden_behind_bare (tree.Split line r e x y block) h = hidden_behind_block_bare block h
  hidden_behind_bare (tree.Each i x r block) h = hidden_behind_block_bare block (suc h)

  pub hidden_behind_block_bare : (b : Block) (h : ℕ) → hidden_behind_block (bare_block b) h ≡ hidden_behind_block b h
  hidden_behind_block_bare Nil h = refl
  hidden_behind_block_bare (Then s rest) h =
      ap (hidden_behind_block (bare_block rest)) (hidden_behind_bare s h) ∙ hidden_behind_block_bare rest (hidden_behind s h)

-- the names that a statement declares for the rest of its block
pub lets_bare : (s : Statement) → lets_of (bare_statement s) ≡ lets_of s
lets_bare (tree.Let x e) = refl
lets_bare (tree.Assign x e) = refl
lets_bare (tree.Put x index e) = refl
lets_bare (tree.If e holds other) = refl
lets_bare (tree.While e block) = refl
lets_bare (tree.Call s) = refl
lets_bare (tree.Fork s t) = refl
lets_bare (tree.Split line r e x y block) = refl
lets_bare (tree.Each i x r block) = refl

pub with_lets_bare : (layout : Layout) (s : Statement) → with_lets layout (bare_statement s) ≡ with_lets layout s
with_lets_bare layout (tree.Let x e) = refl
with_lets_bare layout (tree.Assign x e) = refl
with_lets_bare layout (tree.Put x index e) = refl
with_lets_bare layout (tree.If e holds other) = refl
with_lets_bare layout (tree.While e block) = refl
with_lets_bare layout (tree.Call s) = refl
with_lets_bare layout (tree.Fork s t) = refl
with_lets_bare layout (tree.Split line r e x y block) = refl
with_lets_bare layout (tree.Each i x r block) = refl

-- the names of nodes
nodes_bare : (e : Expression) → nodes (bare_expression e) ≡ map bare_expression (nodes e)
nodes_bare (tree.Number z) = refl
nodes_bare (tree.Name x) = refl
nodes_bare (tree.Element x index) = ap (λ es. bare_expression (tree.Element x index) ∷ es) (nodes_bare index)
nodes_bare (tree.Len x) = refl
nodes_bare (tree.Minus line e) = ap (λ es. bare_expression (tree.Minus line e) ∷ es) (nodes_bare e)
nodes_bare (tree.Binary o line left right) =
    let l = nodes_bare left in
    let r = nodes_bare right in
    ap (λ es. bare_expression (tree.Binary o line left right) ∷ es) ((λ i. l i ++ r i) ∙ sym (map-append bare_expression (nodes left) (nodes right)))

all_nodes_bare : (es : List Expression) → flat_map nodes (map bare_expression es) ≡ map bare_expression (flat_map nodes es)
all_nodes_bare [] = refl
all_nodes_bare (e ∷ es) =
    let h = nodes_bare e in
    let k = all_nodes_bare es in
    (λ i. h i ++ k i) ∙ sym (map-append bare_expression (nodes e) (flat_map nodes es))

values_bare : (arguments : List Argument) → map (λ a. a.value) (map bare_argument arguments) ≡ map bare_expression (map (λ a. a.value) arguments)
values_bare [] = refl
values_bare (a ∷ arguments) = ap (λ es. bare_expression a.value ∷ es) (values_bare arguments)

expressions_bare : (s : Statement) → expressions_of (bare_statement s) ≡ map bare_expression (expressions_of s)
expressions_bare (tree.Let x e) = refl
expressions_bare (tree.Assign x e) = refl
expressions_bare (tree.Put x index e) = refl
expressions_bare (tree.If e holds other) = refl
expressions_bare (tree.While e block) = refl
expressions_bare (tree.Call s) = values_bare s.arguments
expressions_bare (tree.Fork s t) =
    let l = values_bare s.arguments in
    let r = values_bare t.arguments in
    (λ i. l i ++ r i) ∙ sym (map-append bare_expression (map (λ a. a.value) s.arguments) (map (λ a. a.value) t.arguments))
expressions_bare (tree.Split line r e x y block) = refl
expressions_bare (tree.Each i x r block) = refl

-- names without their lines
abbrev spelled : List Named → List (List ℕ)
spelled xs = map (λ n. n.name) xs

spelled-append : (xs ys : List Named) → spelled (xs ++ ys) ≡ spelled xs ++ spelled ys
spelled-append xs ys = map-append (λ (n : Named). n.name) xs ys

node_names_bare : (e : Expression) → spelled (node_names (bare_expression e)) ≡ spelled (node_names e)
node_names_bare (tree.Number z) = refl
node_names_bare (tree.Name x) = refl
node_names_bare (tree.Element x index) = refl
node_names_bare (tree.Len x) = refl
node_names_bare (tree.Minus line e) = refl
node_names_bare (tree.Binary o line left right) = refl

all_node_names_bare : (es : List Expression) → spelled (flat_map node_names (map bare_expression es)) ≡ spelled (flat_map node_names es)
all_node_names_bare [] = refl
all_node_names_bare (e ∷ es) =
    let h = node_names_bare e in
    let k = all_node_names_bare es in
    spelled-append (node_names (bare_expression e)) (flat_map node_names (map bare_expression es)) ∙ (λ i. h i ++ k i)
    ∙ sym (spelled-append (node_names e) (flat_map node_names es))

target_names_bare : (target : Option Named) → spelled (target_names (bare_target target)) ≡ spelled (target_names target)
target_names_bare None = refl
target_names_bare (Some x) = refl

acted_on_bare : (s : Statement) → spelled (acted_on (bare_statement s)) ≡ spelled (acted_on s)
acted_on_bare (tree.Let x e) = refl
acted_on_bare (tree.Assign x e) = refl
acted_on_bare (tree.Put x index e) = refl
acted_on_bare (tree.If e holds other) = refl
acted_on_bare (tree.While e block) = refl
acted_on_bare (tree.Call s) = target_names_bare s.target
acted_on_bare (tree.Fork s t) =
    let l = target_names_bare s.target in
    let r = target_names_bare t.target in
    spelled-append (target_names (bare_target s.target)) (target_names (bare_target t.target)) ∙ (λ i. l i ++ r i)
    ∙ sym (spelled-append (target_names s.target) (target_names t.target))
acted_on_bare (tree.Split line r e x y block) = refl
acted_on_bare (tree.Each i x r block) = refl

used_bare : (s : Statement) → used_by (bare_statement s) ≡ used_by s
used_bare s =
    let acted = acted_on_bare s in
    let named = ap (λ es. spelled (flat_map node_names (flat_map nodes es))) (expressions_bare s)
    ∙ ap (λ es. spelled (flat_map node_names es)) (all_nodes_bare (expressions_of s)) ∙ all_node_names_bare (nodes_of s) in
    spelled-append (acted_on (bare_statement s)) (flat_map node_names (nodes_of (bare_statement s))) ∙ (λ i. acted i ++ named i)
    ∙ sym (spelled-append (acted_on s) (flat_map node_names (nodes_of s)))

-- the free names of a block
mutual
  free_within_bare : (s : Statement) → free_within (bare_statement s) ≡ free_within s
  free_within_bare (tree.Let x e) = refl
  free_within_bare (tree.Assign x e) = refl
  free_within_bare (tree.Put x index e) = refl
  free_within_bare (tree.If e holds other) = let l = free_names_bare holds in let r = free_names_bare other in λ i. l i ++ r i
  free_within_bare (tree.While e block) = free_names_bare block
  free_within_bare (tree.Call s) = refl
  free_within_bare (tree.Fork s t) = refl
  free_within_bare (tree.Split line r e x y block) = ap (without (x.name ∷ y.name ∷ [])) (free_names_bare block)
  free_within_bare (tree.Each i x r block) = ap (without (i.name ∷ x.name ∷ [])) (free_names_bare block)

  free_names_bare : (b : Block) → free_names (bare_block b) ≡ free_names b
  free_names_bare Nil = refl
  free_names_bare (Then s rest) =
      let u = used_bare s in
      let w = free_within_bare s in
      let d = lets_bare s in
      let r = free_names_bare rest in
      λ i. (u i ++ w i) ++ without (d i) (r i)

pub caught_bare : (layout : Layout) (b : Block) → caught layout (bare_block b) ≡ caught layout b
caught_bare layout b = ap (λ names. filter (is_member bytes_eq names) layout) (free_names_bare b)

-- slots
mutual
  most_within_bare : (s : Statement) → most_within (bare_statement s) ≡ most_within s
  most_within_bare (tree.Let x e) = refl
  most_within_bare (tree.Assign x e) = refl
  most_within_bare (tree.Put x index e) = refl
  most_within_bare (tree.If e holds other) = let l = most_bare holds in let r = most_bare other in λ i. max (l i) (r i)
  most_within_bare (tree.While e block) = most_bare block
  most_within_bare (tree.Call s) = refl
  most_within_bare (tree.Fork s t) = refl
  most_within_bare (tree.Split line r e x y block) = ap (λ n. 2 + n) (most_bare block)
  most_within_bare (tree.Each i x r block) = refl

  most_bare : (b : Block) → most_in_force (bare_block b) ≡ most_in_force b
  most_bare Nil = refl
  most_bare (Then s rest) =
      let w = most_within_bare s in
      let d = lets_bare s in
      let r = most_bare rest in
      λ i. max (w i) (length (d i) + r i)

mutual
  puts_bare : (s : Statement) → puts (bare_statement s) ≡ puts s
  puts_bare (tree.Let x e) = refl
  puts_bare (tree.Assign x e) = refl
  puts_bare (tree.Put x index e) = refl
  puts_bare (tree.If e holds other) = let l = has_put_bare holds in let r = has_put_bare other in λ i. l i || r i
  puts_bare (tree.While e block) = has_put_bare block
  puts_bare (tree.Call s) = refl
  puts_bare (tree.Fork s t) = refl
  puts_bare (tree.Split line r e x y block) = has_put_bare block
  puts_bare (tree.Each i x r block) = refl

  has_put_bare : (b : Block) → has_put (bare_block b) ≡ has_put b
  has_put_bare Nil = refl
  has_put_bare (Then s rest) = let l = puts_bare s in let r = has_put_bare rest in λ i. l i || r i

mutual
  assigns_bare : (s : Statement) → assigns (bare_statement s) ≡ assigns s
  assigns_bare (tree.Let x e) = refl
  assigns_bare (tree.Assign x e) = refl
  assigns_bare (tree.Put x index e) = refl
  assigns_bare (tree.If e holds other) = let l = has_assignment_bare holds in let r = has_assignment_bare other in λ i. l i || r i
  assigns_bare (tree.While e block) = has_assignment_bare block
  assigns_bare (tree.Call s) = refl
  assigns_bare (tree.Fork s t) = refl
  assigns_bare (tree.Split line r e x y block) = has_assignment_bare block
  assigns_bare (tree.Each i x r block) = refl

  has_assignment_bare : (b : Block) → has_assignment (bare_block b) ≡ has_assignment b
  has_assignment_bare Nil = refl
  has_assignment_bare (Then s rest) = let l = assigns_bare s in let r = has_assignment_bare rest in λ i. l i || r i

spare_bare : (b : Block) → spare_slots (bare_block b) ≡ spare_slots b
spare_bare b =
    let p = has_put_bare b in
    let a = has_assignment_bare b in
    λ i. if p i then 2 else if a i then 1 else 0

pub named_slots_bare : (p : Procedure) → named_slots (bare_procedure p) ≡ named_slots p
named_slots_bare p =
    let l = length-map p.parameters bare_parameter in
    let m = most_bare p.body in
    λ i. l i + m i

pub procedure_slots_bare : (p : Procedure) → procedure_slots (bare_procedure p) ≡ procedure_slots p
procedure_slots_bare p = let n = named_slots_bare p in let s = spare_bare p.body in λ i. n i + s i

pub hidden_named_bare : (names : ℕ) (b : Block) → hidden_named_slots names (bare_block b) ≡ hidden_named_slots names b
hidden_named_bare names b = ap (λ n. 2 + names + max 2 n) (most_bare b)

pub hidden_slots_bare : (names : ℕ) (b : Block) → hidden_slots names (bare_block b) ≡ hidden_slots names b
hidden_slots_bare names b = let n = hidden_named_bare names b in let s = spare_bare b in λ i. n i + s i

-- procedures and arrays by their names
pub parameter_layout_bare : (ps : List Parameter) → parameter_layout (map bare_parameter ps) ≡ parameter_layout ps
parameter_layout_bare [] = refl
parameter_layout_bare (p ∷ ps) = ap (λ names. p.name.name ∷ names) (parameter_layout_bare ps)

if_bare : (b : Bool) (p q : Procedure) → (if b then bare_procedure p else bare_procedure q) ≡ bare_procedure (if b then p else q)
if_bare true p q = refl
if_bare false p q = refl

pub named_bare : (ps : List Procedure) (x : List ℕ) → procedure_named (map bare_procedure ps) x ≡ bare_procedure (procedure_named ps x)
named_bare [] x = refl
named_bare (p ∷ ps) x =
    ap (λ q. if bytes_eq p.name.name x then bare_procedure p else q) (named_bare ps x) ∙ if_bare (bytes_eq p.name.name x) p (procedure_named ps x)

pub number_bare : (ps : List Procedure) (x : List ℕ) → number_of (map bare_procedure ps) x ≡ number_of ps x
number_bare [] x = refl
number_bare (p ∷ ps) x = ap (λ n. if bytes_eq p.name.name x then 0 else suc n) (number_bare ps x)

pub whole_bare : (k : ℕ) (arrays : List Array) (x : List ℕ) → whole_from k (map bare_array arrays) x ≡ whole_from k arrays x
whole_bare k [] x = refl
whole_bare k (a ∷ arrays) x =
    ap (λ r. if bytes_eq a.name.name x then record { array = k; start = 0; length = a.words } else r) (whole_bare (suc k) arrays x)
