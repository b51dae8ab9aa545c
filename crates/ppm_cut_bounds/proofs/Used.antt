-- The names that statements use, from those of their expressions.
use Rattle.std.proofs.Common.{◌≡◌, ℕ, List, [], ◌∷◌, ◌++◌, map, refl, sym, ap, ◌∙◌}
use Rattle.std.specs.List.{flat_map}
use Rattle.std.proofs.lemmas.List.{map-append, append-nil, append_assoc}
use Rattle.std.proofs.lemmas.Grind.{flat_map-append}
use Rattle.ppm_tree.specs.declared.named.Named.{Named}
use Rattle.ppm_tree.specs.declared.tree.Argument as declared_argument
use Rattle.ppm_tree.specs.declared.tree.Side as declared_side
use Rattle.ppm_tree.specs.Tree.{Expression, Argument, Call, Fork, expression_of, side_of}
use Rattle.ppm_tree.specs.Parts.{nodes, node_names, target_names}
use Rattle.ppm_cut_bounds.specs.Names.{used_by}
use Rattle.ppm_cut_bounds.specs.Catching.{names_in, names_of_target}

abbrev spelt : List Named → List (List ℕ)
spelt = map (λ n. n.name)

-- the names of nodes
abbrev of_nodes : List Expression → List (List ℕ)
of_nodes ns = spelt (flat_map node_names ns)

pub of_nodes-append : (xs ys : List Expression) → of_nodes (xs ++ ys) ≡ of_nodes xs ++ of_nodes ys
of_nodes-append xs ys = ap spelt (flat_map-append node_names xs ys) ∙ map-append (λ n. n.name) (flat_map node_names xs) (flat_map node_names ys)

-- the names in one expression are those of its nodes
pub names_in_one : (e : Expression) → names_in (e ∷ []) ≡ of_nodes (nodes e)
names_in_one e = ap of_nodes (append-nil (nodes e))

pub names_in-cons : (e : Expression) (es : List Expression) → names_in (e ∷ es) ≡ names_in (e ∷ []) ++ names_in es
names_in-cons e es = of_nodes-append (nodes e) (flat_map nodes es) ∙ ap (λ l. l ++ names_in es) (sym (names_in_one e))

pub names_in-append : (es fs : List Expression) → names_in (es ++ fs) ≡ names_in es ++ names_in fs
names_in-append es fs = ap of_nodes (flat_map-append nodes es fs) ∙ of_nodes-append (flat_map nodes es) (flat_map nodes fs)

-- the names of what is acted on, and then those in expressions
pub used-append : (ns : List Named) (es : List Expression) → spelt (ns ++ flat_map node_names (flat_map nodes es)) ≡ spelt ns ++ names_in es
used-append ns es = map-append (λ n. n.name) ns (flat_map node_names (flat_map nodes es))

-- the argument that a declared type holds
abbrev argument_of : declared_argument.Argument → Argument
argument_of a = record { line = a.line; value = expression_of a.value }

-- the values of arguments
values_of : (xs : List declared_argument.Argument) → map (λ a. a.value) (map argument_of xs) ≡ map (λ a. expression_of a.value) xs
values_of [] = refl
values_of (a ∷ xs) = ap (λ l. expression_of a.value ∷ l) (values_of xs)

-- a call uses its target and the names in its arguments
pub used_by_call : (s : declared_side.Side) → names_of_target s.target ++ names_in (map (λ a. expression_of a.value) s.arguments) ≡ used_by (Call (side_of s))
used_by_call s =
    ap (λ es. names_of_target s.target ++ names_in es) (sym (values_of s.arguments))
    ∙ sym (used-append (target_names s.target) (map (λ a. a.value) (map argument_of s.arguments)))

-- a fork uses both targets, and the names in the arguments of both sides
pub used_by_fork : (s t : declared_side.Side)
    → ((names_of_target s.target ++ names_of_target t.target) ++ names_in (map (λ a. expression_of a.value) s.arguments)) ++ names_in (map (λ a. expression_of a.value) t.arguments)
    ≡ used_by (Fork (side_of s) (side_of t))
used_by_fork s t =
    let left = map (λ a. a.value) (map argument_of s.arguments) in
    let right = map (λ a. a.value) (map argument_of t.arguments) in
    append_assoc (names_of_target s.target ++ names_of_target t.target) (names_in (map (λ a. expression_of a.value) s.arguments)) (names_in (map (λ a. expression_of a.value) t.arguments))
    ∙ ap (λ es. (names_of_target s.target ++ names_of_target t.target) ++ (names_in es ++ names_in (map (λ a. expression_of a.value) t.arguments))) (sym (values_of s.arguments))
    ∙ ap (λ es. (names_of_target s.target ++ names_of_target t.target) ++ (names_in left ++ names_in es)) (sym (values_of t.arguments))
    ∙ ap (λ l. (names_of_target s.target ++ names_of_target t.target) ++ l) (sym (names_in-append left right))
    ∙ ap (λ l. l ++ names_in (left ++ right)) (sym (map-append (λ n. n.name) (target_names s.target) (target_names t.target)))
    ∙ sym (used-append (target_names s.target ++ target_names t.target) (left ++ right))
