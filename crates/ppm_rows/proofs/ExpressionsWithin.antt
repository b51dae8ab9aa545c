-- Expressions that are derived within the limits: their nodes are those that were counted, and each is fine.
use Rattle.std.proofs.Common.{◌≡◌, ℕ, zero, suc, ◌+◌, ◌≤◌, Bool, true, false, List, [], ◌∷◌, ◌++◌, length, refl, sym, ◌∙◌, arith}
use Rattle.std.specs.Prelude.{pos, if◌then◌else◌}
use Rattle.std.specs.List.{All}
use Rattle.std.proofs.lemmas.List.{length-append}
use Rattle.std.proofs.lemmas.List.Elements.{All-nil, All-cons, All-append}
use Rattle.ppm_grammar.specs.Rows.{In, first, later}
use Rattle.ppm_grammar.specs.Derivation.{due, inside}
use Rattle.ppm_grammar.specs.Limits.{Tally, Adds, with_counts}
use Rattle.ppm_grammar.proofs.DerivationLemmas.{Allowed}
use Rattle.ppm_grammar.proofs.WalkLemmas.{Walk, done, took, parted, counts_first, height, tall}
use Rattle.ppm_text.specs.declared.token.Token.{Token}
use Rattle.ppm_text.specs.Limits.{text_limit}
use Rattle.ppm_text.specs.Tokens.{StandsIn}
use Rattle.ppm_tree.specs.declared.named.Named.{Named}
use Rattle.ppm_tree.specs.declared.operator.Operator.{Operator}
use Rattle.ppm_tree.specs.Tree.{Expression}
use Rattle.ppm_tree.specs.Tree as tree
use Rattle.ppm_tree.specs.Parts.{nodes}
use Rattle.ppm_tree.specs.Limits.{IsLine, IsNamed, IsLiteral, IsNode}
use Rattle.ppm_rows.specs.declared.level.Level.{Level}
use Rattle.ppm_rows.specs.declared.level.Level.TheVariants as level
use Rattle.ppm_rows.specs.Values.{Value, Lexed, number_of, named, expression_in, first_line_in, from_operand_in, from_region_in}
use Rattle.ppm_rows.specs.Values as v
use Rattle.ppm_rows.specs.Kinds.{Name, terminal}
use Rattle.ppm_rows.specs.Phrases.{Phrase}
use Rattle.ppm_rows.specs.Phrases as p
use Rattle.ppm_rows.specs.Making as make
use Rattle.ppm_rows.specs.Follow.{may_follow}
use Rattle.ppm_rows.specs.Language.{Form, language, rows}
use Rattle.ppm_rows.specs.Limits.{limits, has_index, nodes as nodes_number}
use Rattle.ppm_rows.proofs.TokensWithin.{Free, line_of, name_fine, number_fine, no_index, an_index}

-- the nodes grew by so many, and no other number that has a limit changed
pub record Grows (c c' : Tally) (n : ℕ) : Type 0 where
  pub arrays : c' 1 ≡ c 1
  pub words : c' 2 ≡ c 2
  pub procedures : c' 3 ≡ c 3
  pub elements : c' 4 ≡ c 4
  pub nodes : c' 5 ≡ c 5 + n

pub grows_none : {c : Tally} → Grows c c 0
grows_none = record { arrays = refl; words = refl; procedures = refl; elements = refl; nodes = omega arith }

pub grows_both : {a b c : Tally} {j n : ℕ} → Grows a b j → Grows b c n → Grows a c (j + n)
grows_both g h = record {
  arrays = h.arrays ∙ g.arrays;
  words = h.words ∙ g.words;
  procedures = h.procedures ∙ g.procedures;
  elements = h.elements ∙ g.elements;
  nodes = omega (arith, g.nodes, h.nodes);
}

pub grows_to : {c c' : Tally} {j n : ℕ} → Grows c c' j → j ≡ n → Grows c c' n
grows_to g same = record {
  arrays = g.arrays;
  words = g.words;
  procedures = g.procedures;
  elements = g.elements;
  nodes = omega (arith, g.nodes, same);
}

-- a token that counts as a node
pub grows_node : {c : Tally} → Grows c (with_counts (Adds nodes_number 1 ∷ []) c) 1
grows_node = record { arrays = refl; words = refl; procedures = refl; elements = refl; nodes = refl }

-- a name alone counts as a node, and one with an index does not
grows_name : {c : Tally} (ts : List Token) (b : Bool) → has_index ts ≡ b →
    Grows c (with_counts (if has_index ts then [] else Adds nodes_number 1 ∷ []) c) (if b then 0 else 1)
grows_name ts true is = rw is grows_none
grows_name ts false is = rw is grows_node

-- an expression
pub record IsExpr (c c' : Tally) (v : Value) : Type 0 where
  pub grows : Grows c c' (length (nodes (expression_in v)))
  pub some : 1 ≤ length (nodes (expression_in v))
  pub fine : All IsNode (nodes (expression_in v))
  pub line : IsLine (first_line_in v)
  pub free : Free c'

-- what goes on from an operand
pub record IsFrom (c c' : Tally) (v : Value) : Type 0 where
  pub count : ℕ
  pub grows : Grows c c' count
  pub makes : (e : Expression) → length (nodes (from_operand_in v e)) ≡ length (nodes e) + count
  pub fine : (e : Expression) → All IsNode (nodes e) → All IsNode (nodes (from_operand_in v e))
  pub free : Free c → Free c'

-- what goes on from a name
pub record IsIndex (ts : List Token) (c c' : Tally) (v : Value) : Type 0 where
  pub count : ℕ
  pub indexed : Bool
  pub is : has_index ts ≡ indexed
  pub some : indexed ≡ true → 1 ≤ count
  pub grows : Grows c c' count
  pub makes : (x : Named) → length (nodes (from_region_in v x)) ≡ count + (if indexed then 0 else 1)
  pub fine : (x : Named) → IsNamed x → All IsNode (nodes (from_region_in v x))
  pub free : Free c → Free c'

-- nodes of each kind
number_node : (n : ℕ) → IsLiteral (pos n) → IsNode (tree.Number (pos n))
number_node n h = record { numbers = All-cons IsLiteral (pos n) [] h (All-nil IsLiteral); names = All-nil IsNamed; lines = All-nil IsLine }

name_node : (x : Named) → IsNamed x → IsNode (tree.Name x)
name_node x h = record { numbers = All-nil IsLiteral; names = All-cons IsNamed x [] h (All-nil IsNamed); lines = All-nil IsLine }

element_node : (x : Named) (e : Expression) → IsNamed x → IsNode (tree.Element x e)
element_node x e h = record { numbers = All-nil IsLiteral; names = All-cons IsNamed x [] h (All-nil IsNamed); lines = All-nil IsLine }

len_node : (x : Named) → IsNamed x → IsNode (tree.Len x)
len_node x h = record { numbers = All-nil IsLiteral; names = All-cons IsNamed x [] h (All-nil IsNamed); lines = All-nil IsLine }

minus_node : (line : ℕ) (e : Expression) → IsLine line → IsNode (tree.Minus line e)
minus_node line e h = record { numbers = All-nil IsLiteral; names = All-nil IsNamed; lines = All-cons IsLine line [] h (All-nil IsLine) }

binary_node : (o : Operator) (line : ℕ) (left right : Expression) → IsLine line → IsNode (tree.Binary o line left right)
binary_node o line left right h =
    record { numbers = All-nil IsLiteral; names = All-nil IsNamed; lines = All-cons IsLine line [] h (All-nil IsLine) }

-- an operation's nodes
binary_length : (o : Operator) (line : ℕ) (left right : Expression) →
    length (nodes (tree.Binary o line left right)) ≡ 1 + length (nodes left) + length (nodes right)
binary_length o line left right = let both = length-append (nodes left) (nodes right) in omega (arith, both)

binary_fine : (o : Operator) (line : ℕ) (left right : Expression) → IsLine line → All IsNode (nodes left) → All IsNode (nodes right) →
    All IsNode (nodes (tree.Binary o line left right))
binary_fine o line left right h a b =
    All-cons IsNode (tree.Binary o line left right) (nodes left ++ nodes right) (binary_node o line left right h)
    (All-append IsNode (nodes left) (nodes right) a b)

-- an operand, and what goes on from it
after_operand : {a b c : Tally} {u w : Value} → IsExpr a b u → IsFrom b c w → IsExpr a c (make.expression (u ∷ w ∷ []))
after_operand {u = u} {w = w} e f = record {
  grows = grows_to (grows_both e.grows f.grows) (sym (f.makes (expression_in u)));
  some = let is = f.makes (expression_in u) in omega (arith, is, e.some);
  fine = f.fine (expression_in u) e.fine;
  line = e.line;
  free = f.free e.free;
}

module _ {size : ℕ} (short : size ≤ text_limit) where
  -- an operator, its operand, and what goes on
  chained : {a b c d : Tally} {t : Token} {u w : Value} (o : Operator) → Grows a b 1 → StandsIn size t → IsExpr b c u → IsFrom c d w →
      IsFrom a d (make.further o (Lexed t ∷ u ∷ w ∷ []))
  chained {t = t} {u = u} {w = w} o one s e f = record {
    count = 1 + length (nodes (expression_in u)) + f.count;
    grows = grows_both (grows_both one e.grows) f.grows;
    makes = λ left. let is = f.makes (tree.Binary o t.line left (expression_in u)) in
        let both = binary_length o t.line left (expression_in u) in omega (arith, is, both);
    fine = λ left h. f.fine _ (binary_fine o t.line left (expression_in u) (line_of short s) h e.fine);
    free = λ h. f.free e.free;
  }

  -- a comparison
  compared : {a b c : Tally} {t : Token} {u : Value} (o : Operator) → Grows a b 1 → StandsIn size t → IsExpr b c u →
      IsFrom a c (make.further o (Lexed t ∷ u ∷ []))
  compared {t = t} {u = u} o one s e = record {
    count = 1 + length (nodes (expression_in u));
    grows = grows_both one e.grows;
    makes = λ left. let both = binary_length o t.line left (expression_in u) in omega (arith, both);
    fine = λ left h. binary_fine o t.line left (expression_in u) (line_of short s) h e.fine;
    free = λ h. e.free;
  }

  -- nothing goes on
  unchanged : {c : Tally} → IsFrom c c (v.FromOperand (λ e. e))
  unchanged = record { count = 0; grows = grows_none; makes = λ e. omega arith; fine = λ e h. h; free = λ h. h }

  -- a minus and its operand
  negated : {a b c : Tally} {t : Token} {u : Value} → Grows a b 1 → StandsIn size t → IsExpr b c u → IsExpr a c (make.minus (Lexed t ∷ u ∷ []))
  negated {t = t} {u = u} one s e = record {
    grows = grows_to (grows_both one e.grows) (omega arith);
    some = omega arith;
    fine = All-cons IsNode (tree.Minus t.line (expression_in u)) (nodes (expression_in u)) (minus_node t.line (expression_in u) (line_of short s)) e.fine;
    line = line_of short s;
    free = e.free;
  }

  -- a name, and its index or none
  indexed : {a b c : Tally} {t : Token} {ts : List Token} {w : Value} → ((q : Bool) → has_index ts ≡ q → Grows a b (if q then 0 else 1)) → terminal t.kind ≡ Name →
      StandsIn size t → Free b → IsIndex ts b c w → IsExpr a c (make.name (Lexed t ∷ w ∷ []))
  indexed {t = t} {w = w} one is s free i =
      let x = named t in
      let many = i.makes x in
      record {
        grows = grows_to (grows_both (one i.indexed i.is) i.grows) (omega (arith, many));
        some = some_node i.indexed i.count many i.some;
        fine = i.fine x (name_fine short is s);
        line = line_of short s;
        free = i.free free;
      }
    where
      some_node : (q : Bool) (n : ℕ) {m : ℕ} → m ≡ n + (if q then 0 else 1) → (q ≡ true → 1 ≤ n) → 1 ≤ m
      some_node true n is h = let one = h refl in omega (arith, is, one)
      some_node false n is h = omega (arith, is)

  mutual
    -- an operation of a level
    pub expr_walk : (n : ℕ) (level : Level) (d : ℕ) {row : Form} {c c' : Tally} {ts mid : List Token} {us : List Value} → In row (rows (p.Operation level)) →
        (w : Walk language limits (StandsIn size) may_follow (due (inside row d) row.items) (counts_first language limits row.counts ts c) ts us c' mid) → height language limits w ≤ n →
        IsExpr c c' (row.make us)
    expr_walk zero level d i w small = absurd (omega (arith, tall language limits w, small))
    expr_walk (suc n) level.Either d first (parted i b ok w (parted j b' ok' w' done)) small = after_operand (expr_walk n level.Both _ i w (omega (arith, small))) (from_walk n level.Either _ j w' (omega (arith, small)))
    expr_walk (suc n) level.Both d first (parted i b ok w (parted j b' ok' w' done)) small = after_operand (expr_walk n level.Comparison _ i w (omega (arith, small))) (from_walk n level.Both _ j w' (omega (arith, small)))
    expr_walk (suc n) level.Comparison d first (parted i b ok w (parted j b' ok' w' done)) small = after_operand (expr_walk n level.Sum _ i w (omega (arith, small))) (from_walk n level.Comparison _ j w' (omega (arith, small)))
    expr_walk (suc n) level.Sum d first (parted i b ok w (parted j b' ok' w' done)) small = after_operand (expr_walk n level.Product _ i w (omega (arith, small))) (from_walk n level.Sum _ j w' (omega (arith, small)))
    expr_walk (suc n) level.Product d first (parted i b ok w (parted j b' ok' w' done)) small = after_operand (operand_walk n _ i w (omega (arith, small))) (from_walk n level.Product _ j w' (omega (arith, small)))
    expr_walk (suc n) level.Either d (later i) w small = elim i [ ]
    expr_walk (suc n) level.Both d (later i) w small = elim i [ ]
    expr_walk (suc n) level.Comparison d (later i) w small = elim i [ ]
    expr_walk (suc n) level.Sum d (later i) w small = elim i [ ]
    expr_walk (suc n) level.Product d (later i) w small = elim i [ ]

    -- what goes on from an operand of a level
    from_walk : (n : ℕ) (level : Level) (d : ℕ) {row : Form} {c c' : Tally} {ts mid : List Token} {us : List Value} → In row (rows (p.FromOperand level)) →
        (w : Walk language limits (StandsIn size) may_follow (due (inside row d) row.items) (counts_first language limits row.counts ts c) ts us c' mid) → height language limits w ≤ n →
        IsFrom c c' (row.make us)
    from_walk zero level d i w small = absurd (omega (arith, tall language limits w, small))
    from_walk (suc n) level.Either d first done small = unchanged
    from_walk (suc n) level.Either d (later first) (took is s deep free (parted i b ok w (parted j b' ok' w' done))) small =
        chained _ grows_node s (expr_walk n level.Both _ i w (omega (arith, small))) (from_walk n level.Either _ j w' (omega (arith, small)))
    from_walk (suc n) level.Both d first done small = unchanged
    from_walk (suc n) level.Both d (later first) (took is s deep free (parted i b ok w (parted j b' ok' w' done))) small =
        chained _ grows_node s (expr_walk n level.Comparison _ i w (omega (arith, small))) (from_walk n level.Both _ j w' (omega (arith, small)))
    from_walk (suc n) level.Comparison d first done small = unchanged
    from_walk (suc n) level.Comparison d (later first) (took is s deep free (parted i b ok w done)) small = compared _ grows_node s (expr_walk n level.Sum _ i w (omega (arith, small)))
    from_walk (suc n) level.Comparison d (later (later first)) (took is s deep free (parted i b ok w done)) small = compared _ grows_node s (expr_walk n level.Sum _ i w (omega (arith, small)))
    from_walk (suc n) level.Comparison d (later (later (later first))) (took is s deep free (parted i b ok w done)) small =
        compared _ grows_node s (expr_walk n level.Sum _ i w (omega (arith, small)))
    from_walk (suc n) level.Comparison d (later (later (later (later first)))) (took is s deep free (parted i b ok w done)) small =
        compared _ grows_node s (expr_walk n level.Sum _ i w (omega (arith, small)))
    from_walk (suc n) level.Comparison d (later (later (later (later (later first))))) (took is s deep free (parted i b ok w done)) small =
        compared _ grows_node s (expr_walk n level.Sum _ i w (omega (arith, small)))
    from_walk (suc n) level.Comparison d (later (later (later (later (later (later first)))))) (took is s deep free (parted i b ok w done)) small =
        compared _ grows_node s (expr_walk n level.Sum _ i w (omega (arith, small)))
    from_walk (suc n) level.Sum d first done small = unchanged
    from_walk (suc n) level.Sum d (later first) (took is s deep free (parted i b ok w (parted j b' ok' w' done))) small =
        chained _ grows_node s (expr_walk n level.Product _ i w (omega (arith, small))) (from_walk n level.Sum _ j w' (omega (arith, small)))
    from_walk (suc n) level.Sum d (later (later first)) (took is s deep free (parted i b ok w (parted j b' ok' w' done))) small =
        chained _ grows_node s (expr_walk n level.Product _ i w (omega (arith, small))) (from_walk n level.Sum _ j w' (omega (arith, small)))
    from_walk (suc n) level.Product d first done small = unchanged
    from_walk (suc n) level.Product d (later first) (took is s deep free (parted i b ok w (parted j b' ok' w' done))) small =
        chained _ grows_node s (operand_walk n _ i w (omega (arith, small))) (from_walk n level.Product _ j w' (omega (arith, small)))
    from_walk (suc n) level.Product d (later (later first)) (took is s deep free (parted i b ok w (parted j b' ok' w' done))) small =
        chained _ grows_node s (operand_walk n _ i w (omega (arith, small))) (from_walk n level.Product _ j w' (omega (arith, small)))
    from_walk (suc n) level.Product d (later (later (later first))) (took is s deep free (parted i b ok w (parted j b' ok' w' done))) small =
        chained _ grows_node s (operand_walk n _ i w (omega (arith, small))) (from_walk n level.Product _ j w' (omega (arith, small)))
    from_walk (suc n) level.Either d (later (later i)) w small = elim i [ ]
    from_walk (suc n) level.Both d (later (later i)) w small = elim i [ ]
    from_walk (suc n) level.Comparison d (later (later (later (later (later (later (later i))))))) w small = elim i [ ]
    from_walk (suc n) level.Sum d (later (later (later i))) w small = elim i [ ]
    from_walk (suc n) level.Product d (later (later (later (later i)))) w small = elim i [ ]

    -- an operand
    operand_walk : (n : ℕ) (d : ℕ) {row : Form} {c c' : Tally} {ts mid : List Token} {us : List Value} → In row (rows p.Operand) →
        (w : Walk language limits (StandsIn size) may_follow (due (inside row d) row.items) (counts_first language limits row.counts ts c) ts us c' mid) → height language limits w ≤ n →
        IsExpr c c' (row.make us)
    operand_walk zero d i w small = absurd (omega (arith, tall language limits w, small))
    operand_walk (suc n) d first (took is s deep free (parted i b ok w done)) small = negated grows_node s (operand_walk n _ i w (omega (arith, small)))
    operand_walk (suc n) d (later first) (took {t = t} is s deep free done) small = record {
      grows = grows_node;
      some = omega arith;
      fine = All-cons IsNode _ [] (number_node (number_of t.kind) (number_fine is s)) (All-nil IsNode);
      line = line_of short s;
      free = free;
    }
    operand_walk (suc n) d (later (later first)) (took {ts = ts} is s deep free (parted j b ok w done)) small =
        indexed (λ q here. grows_name ts q here) is s free (index_walk n _ ok j w (omega (arith, small)))
    operand_walk (suc n) d (later (later (later first))) (took is s deep free (took {t = x} is' s' deep' free' done)) small = record {
      grows = grows_node;
      some = omega arith;
      fine = All-cons IsNode _ [] (len_node (named x) (name_fine short is' s')) (All-nil IsNode);
      line = line_of short s;
      free = free;
    }
    operand_walk (suc n) d (later (later (later (later first)))) (took is s deep free (parted i b ok w (took is' s' deep' free' done))) small =
        let e = expr_walk n level.Either _ i w (omega (arith, small)) in record { grows = e.grows; some = e.some; fine = e.fine; line = line_of short s; free = free' }
    operand_walk (suc n) d (later (later (later (later (later i))))) w small = elim i [ ]

    -- an index, or none
    index_walk : (n : ℕ) (d : ℕ) {row : Form} {c c' : Tally} {ts mid : List Token} {us : List Value} → Allowed language (may_follow p.Index) mid → In row (rows p.Index) →
        (w : Walk language limits (StandsIn size) may_follow (due (inside row d) row.items) (counts_first language limits row.counts ts c) ts us c' mid) → height language limits w ≤ n →
        IsIndex ts c c' (row.make us)
    index_walk zero d ok i w small = absurd (omega (arith, tall language limits w, small))
    index_walk (suc n) d {ts = ts} ok first done small = record {
      count = 0;
      indexed = false;
      is = no_index ts ok;
      some = λ h. cc;
      grows = grows_none;
      makes = λ x. refl;
      fine = λ x h. All-cons IsNode (tree.Name x) [] (name_node x h) (All-nil IsNode);
      free = λ h. h;
    }
    index_walk (suc n) d ok (later first) (took {t = t} {ts = ts} is s deep free (parted {row = r} {us = us} i b ok' w (took is' s' deep' free' done))) small =
        let e = expr_walk n level.Either _ i w (omega (arith, small)) in record {
          count = 1 + length (nodes (expression_in (r.make us)));
          indexed = true;
          is = an_index t ts is;
          some = λ h. omega arith;
          grows = grows_both grows_node e.grows;
          makes = λ x. omega arith;
          fine = λ x h. All-cons IsNode _ _ (element_node x _ h) e.fine;
          free = λ h. free';
        }
    index_walk (suc n) d ok (later (later i)) w small = elim i [ ]
