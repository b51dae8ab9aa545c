-- Statements that are derived within the limits are within the limits of trees.
use Rattle.std.proofs.Common.{◌≡◌, ℕ, zero, suc, ◌+◌, ◌≤◌, List, [], ◌∷◌, ◌++◌, length, map, refl, sym, ◌∙◌, ap, subst, arith}
use Rattle.std.specs.Prelude.{None}
use Rattle.std.specs.List.{All, sum, flat_map}
use Rattle.std.proofs.lemmas.List.{append-nil, length-append, map-append}
use Rattle.std.proofs.lemmas.List.Elements.{All-nil, All-cons, All-append}
use Rattle.std.proofs.lemmas.List.Sums.{sum_by-append, sum_by-cons}
use Rattle.ppm_grammar.specs.Rows.{In, first, later}
use Rattle.ppm_grammar.specs.Derivation.{due, inside}
use Rattle.ppm_grammar.specs.Limits.{Tally, Adds, with_counts}
use Rattle.ppm_grammar.proofs.WalkLemmas.{Walk, done, took, parted, counts_first, height, tall, HasFirst, Begins}
use Rattle.ppm_text.specs.declared.token.Token.{Token}
use Rattle.ppm_text.specs.Limits.{text_limit}
use Rattle.ppm_text.specs.Tokens.{StandsIn}
use Rattle.ppm_tree.specs.declared.named.Named.{Named}
use Rattle.ppm_tree.specs.Tree.{Expression, Argument, Side, Statement, Block, Nil, Then}
use Rattle.ppm_tree.specs.Tree as tree
use Rattle.ppm_tree.specs.Parts.{nodes, nodes_of, names_of, lines_of, sides_of, side_names, statements_in, statement_and_inner, depth_of, block_depth, eaches_of}
use Rattle.ppm_tree.specs.Limits.{depth_limit, parameter_limit, node_limit, IsLine, IsNamed, IsNode, IsSmallSide, IsSmallStatement}
use Rattle.ppm_rows.specs.Values.{Value, named, expression_in, argument_in, arguments_in, side_in, side_from_name_in, from_name_in}
use Rattle.ppm_rows.specs.Phrases as p
use Rattle.ppm_rows.specs.Making as make
use Rattle.ppm_rows.specs.declared.level.Level.TheVariants as level
use Rattle.ppm_rows.specs.Follow.{may_follow}
use Rattle.ppm_rows.specs.Language.{Form, language, rows, AnElement}
use Rattle.ppm_rows.specs.Limits.{limits, elements}
use Rattle.ppm_rows.proofs.TokensWithin.{Free, free_keeps, name_fine}
use Rattle.ppm_rows.proofs.ExpressionsWithin.{Grows, IsExpr, expr_walk}

-- the values of arguments, and their nodes
abbrev pub argument_nodes : List Argument → List Expression
argument_nodes xs = flat_map nodes (map (λ a. a.value) xs)

abbrev pub argument_lines : List Argument → List ℕ
argument_lines xs = map (λ a. a.line) xs

-- nothing of what limits the whole program was counted, and so many nodes
pub record Counts (c c' : Tally) (n : ℕ) : Type 0 where
  pub arrays : c' 1 ≡ c 1
  pub words : c' 2 ≡ c 2
  pub procedures : c' 3 ≡ c 3
  pub nodes : c' 5 ≡ c 5 + n

counts_of : {c c' : Tally} {n : ℕ} → Grows c c' n → Counts c c' n
counts_of g = record { arrays = g.arrays; words = g.words; procedures = g.procedures; nodes = g.nodes }

counts_both : {a b c : Tally} {j n : ℕ} → Counts a b j → Counts b c n → Counts a c (j + n)
counts_both g h = record {
  arrays = h.arrays ∙ g.arrays;
  words = h.words ∙ g.words;
  procedures = h.procedures ∙ g.procedures;
  nodes = omega (arith, g.nodes, h.nodes);
}

counts_to : {c c' : Tally} {j n : ℕ} → Counts c c' j → j ≡ n → Counts c c' n
counts_to g same = record { arrays = g.arrays; words = g.words; procedures = g.procedures; nodes = omega (arith, g.nodes, same) }

-- an argument
pub record IsArgument (c c' : Tally) (a : Argument) : Type 0 where
  pub counts : Counts c c' (length (nodes a.value))
  pub elements : c' 4 ≡ c 4 + 1
  pub fine : All IsNode (nodes a.value)
  pub line : IsLine a.line
  pub free : Free c'

-- arguments
pub record IsArguments (c c' : Tally) (xs : List Argument) : Type 0 where
  pub counts : Counts c c' (length (argument_nodes xs))
  pub elements : c' 4 ≡ c 4 + length xs
  pub fine : All IsNode (argument_nodes xs)
  pub lines : All IsLine (argument_lines xs)
  pub free : Free c → Free c'

-- a list of arguments
pub record IsList (c c' : Tally) (xs : List Argument) : Type 0 where
  pub counts : Counts c c' (length (argument_nodes xs))
  pub small : length xs ≤ parameter_limit
  pub fine : All IsNode (argument_nodes xs)
  pub lines : All IsLine (argument_lines xs)
  pub free : Free c'

-- a call or a side of a fork
pub record IsSide (c c' : Tally) (s : Side) : Type 0 where
  pub counts : Counts c c' (length (argument_nodes s.arguments))
  pub small : IsSmallSide s
  pub names : All IsNamed (side_names s)
  pub fine : All IsNode (argument_nodes s.arguments)
  pub lines : All IsLine (argument_lines s.arguments)
  pub free : Free c'

-- a statement without blocks, from where its nodes are counted
pub record IsPlain (c c' : Tally) (s : Statement) : Type 0 where
  pub arrays : c' 1 ≡ c 1
  pub words : c' 2 ≡ c 2
  pub procedures : c' 3 ≡ c 3
  pub small : c 5 ≡ 0 → IsSmallStatement s
  pub alone : statement_and_inner s ≡ s ∷ []
  pub eaches : eaches_of s ≡ 0
  pub flat : depth_of s ≡ 0
  pub free : Free c'

-- a statement that stands in so many openings
pub record IsStatement (d : ℕ) (c c' : Tally) (s : Statement) : Type 0 where
  pub arrays : c' 1 ≡ c 1
  pub words : c' 2 ≡ c 2
  pub procedures : c' 3 ≡ c 3 + sum (map eaches_of (statement_and_inner s))
  pub small : All IsSmallStatement (statement_and_inner s)
  pub deep : depth_of s + d ≤ depth_limit
  pub free : Free c'

-- statements that do
pub record IsStatements (d : ℕ) (c c' : Tally) (b : Block) : Type 0 where
  pub arrays : c' 1 ≡ c 1
  pub words : c' 2 ≡ c 2
  pub procedures : c' 3 ≡ c 3 + sum (map eaches_of (statements_in b))
  pub small : All IsSmallStatement (statements_in b)
  pub deep : block_depth b + d ≤ suc depth_limit
  pub free : Free c → Free c'

-- a block that does
pub record IsBlock (d : ℕ) (c c' : Tally) (b : Block) : Type 0 where
  pub arrays : c' 1 ≡ c 1
  pub words : c' 2 ≡ c 2
  pub procedures : c' 3 ≡ c 3 + sum (map eaches_of (statements_in b))
  pub small : All IsSmallStatement (statements_in b)
  pub inner : suc d ≤ depth_limit
  pub deep : block_depth b + d ≤ depth_limit
  pub free : Free c'

-- an argument more in front
arguments_more : {a b c : Tally} (x : Argument) (xs : List Argument) → IsArgument a b x → IsArguments b c xs → IsArguments a c (x ∷ xs)
arguments_more x xs h r = record {
  counts = counts_to (counts_both h.counts r.counts) (sym (length-append (nodes x.value) (argument_nodes xs)));
  elements = omega (arith, h.elements, r.elements);
  fine = All-append IsNode (nodes x.value) (argument_nodes xs) h.fine r.fine;
  lines = All-cons IsLine x.line (argument_lines xs) h.line r.lines;
  free = λ f. r.free h.free;
}

-- no arguments
arguments_none : {c : Tally} → IsArguments c c []
arguments_none = record {
  counts = record { arrays = refl; words = refl; procedures = refl; nodes = omega arith };
  elements = omega arith;
  fine = All-nil IsNode;
  lines = All-nil IsLine;
  free = λ f. f;
}

-- the first token of an argument counts it
pub element_first : {ts : List Token} (c : Tally) → HasFirst language limits ts →
    counts_first language limits (AnElement ∷ []) ts c ≡ with_counts (Adds elements 1 ∷ []) c
element_first c h = ap (λ q. counts_first language limits (AnElement ∷ []) q c) h.shape

-- an expression that is one
argument_is : {a b c : Tally} {v : Value} → b ≡ with_counts (Adds elements 1 ∷ []) a → IsExpr b c v → IsArgument a c (argument_in (make.argument (v ∷ [])))
argument_is {c = c} {v = v} same e =
    let g = subst (λ q. Grows q c (length (nodes (expression_in v)))) same e.grows in
    record {
      counts = record { arrays = g.arrays; words = g.words; procedures = g.procedures; nodes = g.nodes };
      elements = g.elements;
      fine = e.fine;
      line = e.line;
      free = e.free;
    }

-- the nodes of one expression, and of two
pub nodes_one : (e : Expression) → flat_map nodes (e ∷ []) ≡ nodes e
nodes_one e = append-nil (nodes e)

nodes_two : (e f : Expression) → flat_map nodes (e ∷ f ∷ []) ≡ nodes e ++ nodes f
nodes_two e f = ap (λ q. nodes e ++ q) (nodes_one f)

-- a statement whose nodes are these
pub small_by : (s : Statement) (ns : List Expression) → nodes_of s ≡ ns → length ns ≤ node_limit → All IsNode ns → All IsNamed (names_of s) → All IsLine (lines_of s) →
    All IsSmallSide (sides_of s) → IsSmallStatement s
small_by s ns same few fine names lines sides = record {
  count = subst (λ q. length q ≤ node_limit) (sym same) few;
  nodes = subst (All IsNode) (sym same) fine;
  names = names;
  lines = lines;
  sides = sides;
}

-- a call as a statement
pub call_plain : {c c' : Tally} (s : Side) → Free c' → IsSide c c' s → IsPlain c c' (tree.Call s)
call_plain {c' = c'} s free h =
    let k = free_keeps c' free in
    record {
      arrays = h.counts.arrays;
      words = h.counts.words;
      procedures = h.counts.procedures;
      small = λ anew. small_by (tree.Call s) (argument_nodes s.arguments) refl (omega (arith, anew, h.counts.nodes, k.nodes)) h.fine h.names
          (subst (All IsLine) (sym (append-nil (argument_lines s.arguments))) h.lines) (All-cons IsSmallSide s [] h.small (All-nil IsSmallSide));
      alone = refl;
      eaches = refl;
      flat = refl;
      free = free;
    }

-- what is counted of statements in two lists
pub eaches_append : (xs ys : List Statement) → sum (map eaches_of (xs ++ ys)) ≡ sum (map eaches_of xs) + sum (map eaches_of ys)
eaches_append xs ys = ap sum (map-append eaches_of xs ys) ∙ sum_by-append (λ n. n) (map eaches_of xs) (map eaches_of ys)

pub eaches_cons : (s : Statement) (xs : List Statement) → sum (map eaches_of (s ∷ xs)) ≡ eaches_of s + sum (map eaches_of xs)
eaches_cons s xs = sum_by-cons (λ n. n) (eaches_of s) (map eaches_of xs)

-- the statement is derived
module _ {size : ℕ} (short : size ≤ text_limit) where
  -- an argument
  argument_walk : (d : ℕ) {row : Form} {c c' : Tally} {ts mid : List Token} {us : List Value} → In row (rows p.Argument) → Begins language limits row.items ts →
      (w : Walk language limits (StandsIn size) may_follow (due (inside row d) row.items) (counts_first language limits row.counts ts c) ts us c' mid) →
      IsArgument c c' (argument_in (row.make us))
  argument_walk d {c = c} {ts = ts} first b (parted i b' ok w done) =
      argument_is (element_first c b) (expr_walk short (height language limits w) level.Either _ i w (omega arith))
  argument_walk d (later i) b w = elim i [ ]

  -- more arguments
  arguments_walk : (n : ℕ) (d : ℕ) {row : Form} {c c' : Tally} {ts mid : List Token} {us : List Value} → In row (rows p.MoreArguments) →
      (w : Walk language limits (StandsIn size) may_follow (due (inside row d) row.items) (counts_first language limits row.counts ts c) ts us c' mid) →
      height language limits w ≤ n → IsArguments c c' (arguments_in (row.make us))
  arguments_walk zero d i w small = absurd (omega (arith, tall language limits w, small))
  arguments_walk (suc n) d first done small = arguments_none
  arguments_walk (suc n) d (later first) (took is s deep free (parted i b ok w (parted j b' ok' w' done))) small =
      arguments_more _ _ (argument_walk _ i b w) (arguments_walk n _ j w' (omega (arith, small)))
  arguments_walk (suc n) d (later (later i)) w small = elim i [ ]

  -- arguments, or none
  some_arguments_walk : (d : ℕ) {row : Form} {c c' : Tally} {ts mid : List Token} {us : List Value} → In row (rows p.SomeArguments) →
      (w : Walk language limits (StandsIn size) may_follow (due (inside row d) row.items) (counts_first language limits row.counts ts c) ts us c' mid) →
      IsArguments c c' (arguments_in (row.make us))
  some_arguments_walk d first done = arguments_none
  some_arguments_walk d (later first) (parted i b ok w (parted j b' ok' w' done)) =
      arguments_more _ _ (argument_walk _ i b w) (arguments_walk (height language limits w') _ j w' (omega arith))
  some_arguments_walk d (later (later i)) w = elim i [ ]

  -- a list of arguments
  list_walk : (d : ℕ) {row : Form} {c c' : Tally} {ts mid : List Token} {us : List Value} → In row (rows p.ArgumentList) →
      (w : Walk language limits (StandsIn size) may_follow (due (inside row d) row.items) (counts_first language limits row.counts ts c) ts us c' mid) →
      IsList c c' (arguments_in (row.make us))
  list_walk d {c' = c'} first (took is s deep free (parted i b ok w (took is' s' deep' free' done))) =
      let r = some_arguments_walk _ i w in
      let k = free_keeps c' free' in
      record {
        counts = record { arrays = r.counts.arrays; words = r.counts.words; procedures = r.counts.procedures; nodes = r.counts.nodes };
        small = omega (arith, r.elements, k.elements);
        fine = r.fine;
        lines = r.lines;
        free = free';
      }
  list_walk d (later i) w = elim i [ ]

  -- a procedure and its arguments
  side_of : {c c' : Tally} {x : Named} {xs : List Argument} → IsNamed x → IsList c c' xs → IsSide c c' (record { target = None; callee = x; arguments = xs })
  side_of {x = x} h l = record {
    counts = l.counts;
    small = record { arguments = l.small };
    names = All-cons IsNamed x [] h (All-nil IsNamed);
    fine = l.fine;
    lines = l.lines;
    free = l.free;
  }

  -- a call
  pub call_walk : (d : ℕ) {row : Form} {c c' : Tally} {ts mid : List Token} {us : List Value} → In row (rows p.Call) →
      (w : Walk language limits (StandsIn size) may_follow (due (inside row d) row.items) (counts_first language limits row.counts ts c) ts us c' mid) →
      (IsSide c c' (side_in (row.make us))) × ((side_in (row.make us)).target ≡ None)
  call_walk d first (took is s deep free (parted i b ok w done)) = (side_of (name_fine short is s) (list_walk _ i w), refl)
  call_walk d (later i) w = elim i [ ]

  -- a call for a target
  targeted : {c c' : Tally} (s : Side) (x : Named) → IsSide c c' s → s.target ≡ None → IsNamed x → IsSide c c' (make.for_target s x)
  targeted s x h none named = record {
    counts = h.counts;
    small = record { arguments = h.small.arguments };
    names = All-cons IsNamed x (s.callee ∷ []) named (rw none at h.names);
    fine = h.fine;
    lines = h.lines;
    free = h.free;
  }

  -- what goes on from the first name of a side
  after_target_walk : (d : ℕ) {row : Form} {c c' : Tally} {ts mid : List Token} {us : List Value} → In row (rows p.AfterTarget) →
      (w : Walk language limits (StandsIn size) may_follow (due (inside row d) row.items) (counts_first language limits row.counts ts c) ts us c' mid) →
      (x : Named) → IsNamed x → IsSide c c' (side_from_name_in (row.make us) x)
  after_target_walk d first (took is s deep free (parted i b ok w done)) x h = let r = call_walk _ i w in targeted _ x r.0 r.1 h
  after_target_walk d (later first) (parted i b ok w done) x h = side_of h (list_walk _ i w)
  after_target_walk d (later (later i)) w x h = elim i [ ]

  -- a side of a fork
  pub side_walk : (d : ℕ) {row : Form} {c c' : Tally} {ts mid : List Token} {us : List Value} → In row (rows p.Side) →
      (w : Walk language limits (StandsIn size) may_follow (due (inside row d) row.items) (counts_first language limits row.counts ts c) ts us c' mid) →
      IsSide c c' (side_in (row.make us))
  side_walk d first (took is s deep free (parted i b ok w done)) = after_target_walk _ i w _ (name_fine short is s)
  side_walk d (later i) w = elim i [ ]

  -- what goes on from a name that begins a statement
  assigned_walk : (d : ℕ) {row : Form} {c c' : Tally} {ts mid : List Token} {us : List Value} → In row (rows p.Assigned) →
      (w : Walk language limits (StandsIn size) may_follow (due (inside row d) row.items) (counts_first language limits row.counts ts c) ts us c' mid) →
      (x : Named) → IsNamed x → IsPlain c c' (from_name_in (row.make us) x)
  assigned_walk d {c' = c'} first (parted {row = r} {us = us} i b ok w (took is s deep free done)) x h =
      let e = expr_walk short (height language limits w) level.Either _ i w (omega arith) in
      let k = free_keeps c' free in
      record {
        arrays = e.grows.arrays;
        words = e.grows.words;
        procedures = e.grows.procedures;
        small = λ anew. small_by _ (nodes (expression_in (r.make us))) (nodes_one (expression_in (r.make us))) (omega (arith, anew, e.grows.nodes, k.nodes)) e.fine
            (All-cons IsNamed x [] h (All-nil IsNamed)) (All-nil IsLine) (All-nil IsSmallSide);
        alone = refl;
        eaches = refl;
        flat = refl;
        free = free;
      }
  assigned_walk d (later first) (took is s deep free (parted i b ok w (took is' s' deep' free' done))) x h =
      let r = call_walk _ i w in call_plain _ free' (targeted _ x r.0 r.1 h)
  assigned_walk d (later (later i)) w x h = elim i [ ]

  -- an index in brackets
  element_walk : (d : ℕ) {row : Form} {c c' : Tally} {ts mid : List Token} {us : List Value} → In row (rows p.Element) →
      (w : Walk language limits (StandsIn size) may_follow (due (inside row d) row.items) (counts_first language limits row.counts ts c) ts us c' mid) →
      IsExpr c c' (row.make us)
  element_walk d first (took is s deep free (parted i b ok w (took is' s' deep' free' done))) = expr_walk short (height language limits w) level.Either _ i w (omega arith)
  element_walk d (later i) w = elim i [ ]

  -- an index and a value
  put_plain : {a b c : Tally} {u v : Value} (x : Named) → IsNamed x → Free c → IsExpr a b u → IsExpr b c v →
      IsPlain a c (tree.Put x (expression_in u) (expression_in v))
  put_plain {c = c} {u = u} {v = v} x h free e f =
      let k = free_keeps c free in
      let many = length-append (nodes (expression_in u)) (nodes (expression_in v)) in
      record {
        arrays = f.grows.arrays ∙ e.grows.arrays;
        words = f.grows.words ∙ e.grows.words;
        procedures = f.grows.procedures ∙ e.grows.procedures;
        small = λ anew. small_by (tree.Put x (expression_in u) (expression_in v)) (nodes (expression_in u) ++ nodes (expression_in v))
            (nodes_two (expression_in u) (expression_in v)) (omega (arith, anew, e.grows.nodes, f.grows.nodes, k.nodes, many))
            (All-append IsNode (nodes (expression_in u)) (nodes (expression_in v)) e.fine f.fine)
            (All-cons IsNamed x [] h (All-nil IsNamed)) (All-nil IsLine) (All-nil IsSmallSide);
        alone = refl;
        eaches = refl;
        flat = refl;
        free = free;
      }

  pub after_name_walk : (d : ℕ) {row : Form} {c c' : Tally} {ts mid : List Token} {us : List Value} → In row (rows p.AfterName) →
      (w : Walk language limits (StandsIn size) may_follow (due (inside row d) row.items) (counts_first language limits row.counts ts c) ts us c' mid) →
      (x : Named) → IsNamed x → IsPlain c c' (from_name_in (row.make us) x)
  after_name_walk d first (took is s deep free (parted i b ok w done)) x h = assigned_walk _ i w x h
  after_name_walk d (later first) (parted i b ok w (took is s deep free (parted j b' ok' w' (took is' s' deep' free' done)))) x h =
      put_plain x h free' (element_walk _ i w) (expr_walk short (height language limits w') level.Either _ j w' (omega arith))
  after_name_walk d (later (later i)) w x h = elim i [ ]
