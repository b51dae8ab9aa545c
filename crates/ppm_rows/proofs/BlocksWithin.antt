-- Statements with blocks that are derived within the limits.
use Rattle.std.proofs.Common.{◌≡◌, ℕ, zero, suc, ◌+◌, ◌≤◌, List, [], ◌∷◌, ◌++◌, map, refl, sym, ◌∙◌, subst, arith}
use Rattle.std.specs.Prelude.{max}
use Rattle.std.specs.List.{All, sum}
use Rattle.std.proofs.lemmas.List.{append-nil, length-append}
use Rattle.std.proofs.lemmas.Grind.{flat_map-append}
use Rattle.std.proofs.lemmas.List.Elements.{All-nil, All-cons, All-append}
use Rattle.ppm_grammar.specs.Rows.{In, Part, first, later}
use Rattle.ppm_grammar.specs.Derivation.{due, inside}
use Rattle.ppm_grammar.specs.Limits.{Tally}
use Rattle.ppm_grammar.proofs.WalkLemmas.{Walk, done, took, parted, counts_first, height, tall}
use Rattle.ppm_text.specs.declared.token.Token.{Token}
use Rattle.ppm_text.specs.Limits.{text_limit}
use Rattle.ppm_text.specs.Tokens.{StandsIn}
use Rattle.ppm_tree.specs.declared.named.Named.{Named}
use Rattle.ppm_tree.specs.Tree.{Expression, Side, Statement, Block, Nil, Then}
use Rattle.ppm_tree.specs.Tree as tree
use Rattle.ppm_tree.specs.Parts.{nodes, statements_in, statement_and_inner, depth_of, block_depth, eaches_of, side_names}
use Rattle.ppm_tree.specs.Limits.{depth_limit, IsLine, IsNamed, IsNode, IsSmallSide, IsSmallStatement}
use Rattle.ppm_rows.specs.Values.{Value, Lexed, named, expression_in, statement_in, block_in}
use Rattle.ppm_rows.specs.Phrases as p
use Rattle.ppm_rows.specs.Making as make
use Rattle.ppm_text.specs.declared.token.Sign.TheVariants as s
use Rattle.ppm_text.specs.declared.token.Keyword.TheVariants as k
use Rattle.ppm_rows.specs.declared.level.Level.TheVariants as level
use Rattle.ppm_rows.specs.Follow.{may_follow}
use Rattle.ppm_rows.specs.Language.{Form, language, rows, name, word, sign, expr, AStatement, AProcedure}
use Rattle.ppm_rows.specs.Limits.{limits}
use Rattle.ppm_rows.proofs.TokensWithin.{Free, free_keeps, line_of, name_fine}
use Rattle.ppm_rows.proofs.ExpressionsWithin.{IsExpr, expr_walk}
use Rattle.ppm_rows.proofs.StatementsWithin.{argument_nodes, argument_lines, IsSide, IsPlain, IsStatement, IsStatements, IsBlock, small_by, nodes_one, eaches_append, eaches_cons}
use Rattle.ppm_rows.proofs.StatementsWithin.{call_plain, call_walk, side_walk, after_name_walk}

-- a plain statement, from where its nodes are counted anew
plain_statement : (d : ℕ) {b c : Tally} (s : Statement) → d ≤ depth_limit → b 5 ≡ 0 → IsPlain b c s → IsStatement d b c s
plain_statement d s low anew h = record {
  arrays = h.arrays;
  words = h.words;
  procedures = rw h.alone (let none = h.eaches in rw none (omega (arith, h.procedures)));
  small = rw h.alone (All-cons IsSmallStatement s [] (h.small anew) (All-nil IsSmallStatement));
  deep = let flat = h.flat in omega (arith, flat, low);
  free = h.free;
}

-- no statements
none_within : (d : ℕ) {c : Tally} → d ≤ depth_limit → IsStatements d c c Nil
none_within d low = record {
  arrays = refl;
  words = refl;
  procedures = omega arith;
  small = All-nil IsSmallStatement;
  deep = omega (arith, low);
  free = λ f. f;
}

-- one more in front
then_within : (d : ℕ) {a b c : Tally} (s : Statement) (rest : Block) → IsStatement d a b s → IsStatements d b c rest → IsStatements d a c (Then s rest)
then_within d s rest h r = record {
  arrays = r.arrays ∙ h.arrays;
  words = r.words ∙ h.words;
  procedures = let both = eaches_append (statement_and_inner s) (statements_in rest) in omega (arith, h.procedures, r.procedures, both);
  small = All-append IsSmallStatement (statement_and_inner s) (statements_in rest) h.small r.small;
  deep = deeper (suc (depth_of s)) (block_depth rest) (omega (arith, h.deep)) r.deep;
  free = λ f. r.free h.free;
}
  where
    deeper : (m n : ℕ) → m + d ≤ suc depth_limit → n + d ≤ suc depth_limit → max m n + d ≤ suc depth_limit
    deeper m n h k = omega (arith, h, k)

-- a block of an `if`, or none after its `else`
pub record IsElse (d : ℕ) (c c' : Tally) (b : Block) : Type 0 where
  pub arrays : c' 1 ≡ c 1
  pub words : c' 2 ≡ c 2
  pub procedures : c' 3 ≡ c 3 + sum (map eaches_of (statements_in b))
  pub small : All IsSmallStatement (statements_in b)
  pub deep : block_depth b + d ≤ depth_limit
  pub free : Free c → Free c'

-- a statement with others in it
around : (d : ℕ) {c c' : Tally} (s : Statement) (inner : List Statement) → statement_and_inner s ≡ s ∷ inner → c' 1 ≡ c 1 → c' 2 ≡ c 2 →
    c' 3 ≡ c 3 + (eaches_of s + sum (map eaches_of inner)) → IsSmallStatement s → All IsSmallStatement inner → depth_of s + d ≤ depth_limit → Free c' →
    IsStatement d c c' s
around d s inner is arrays words procedures small fine deep free = record {
  arrays = arrays;
  words = words;
  procedures = rw is (let all = eaches_cons s inner in omega (arith, all, procedures));
  small = rw is (All-cons IsSmallStatement s inner small fine);
  deep = deep;
  free = free;
}

-- a `let`
let_plain : {b c : Tally} {u : Value} (x : Named) → IsNamed x → Free c → IsExpr b c u → IsPlain b c (tree.Let x (expression_in u))
let_plain {c = c} {u = u} x h free e =
    let k = free_keeps c free in
    record {
      arrays = e.grows.arrays;
      words = e.grows.words;
      procedures = e.grows.procedures;
      small = λ anew. small_by _ (nodes (expression_in u)) (nodes_one (expression_in u)) (omega (arith, anew, e.grows.nodes, k.nodes)) e.fine
          (All-cons IsNamed x [] h (All-nil IsNamed)) (All-nil IsLine) (All-nil IsSmallSide);
      alone = refl;
      eaches = refl;
      flat = refl;
      free = free;
    }

-- a fork
fork_plain : {a b c : Tally} (s t : Side) → Free c → IsSide a b s → IsSide b c t → IsPlain a c (tree.Fork s t)
fork_plain {c = c} s t free h r =
    let k = free_keeps c free in
    let many = length-append (argument_nodes s.arguments) (argument_nodes t.arguments) in
    record {
      arrays = r.counts.arrays ∙ h.counts.arrays;
      words = r.counts.words ∙ h.counts.words;
      procedures = r.counts.procedures ∙ h.counts.procedures;
      small = λ anew. small_by (tree.Fork s t) (argument_nodes s.arguments ++ argument_nodes t.arguments)
          (flat_map-append nodes (map (λ a. a.value) s.arguments) (map (λ a. a.value) t.arguments))
          (omega (arith, anew, h.counts.nodes, r.counts.nodes, k.nodes, many))
          (All-append IsNode (argument_nodes s.arguments) (argument_nodes t.arguments) h.fine r.fine)
          (All-append IsNamed (side_names s) (side_names t) h.names r.names)
          (All-append IsLine (argument_lines s.arguments) (argument_lines t.arguments ++ []) h.lines
          (subst (All IsLine) (sym (append-nil (argument_lines t.arguments))) r.lines))
          (All-cons IsSmallSide s (t ∷ []) h.small (All-cons IsSmallSide t [] r.small (All-nil IsSmallSide)));
      alone = refl;
      eaches = refl;
      flat = refl;
      free = free;
    }

-- an `if`
if_within : (d : ℕ) {a b c e : Tally} {u : Value} (s t : Block) → a 5 ≡ 0 → IsExpr a b u → IsBlock d b c s → IsElse d c e t →
    IsStatement d a e (tree.If (expression_in u) s t)
if_within d {b = b} {u = u} s t anew h r q =
    let k = free_keeps b h.free in
    let both = eaches_append (statements_in s) (statements_in t) in
    around d (tree.If (expression_in u) s t) (statements_in s ++ statements_in t) refl
    (q.arrays ∙ r.arrays ∙ h.grows.arrays) (q.words ∙ r.words ∙ h.grows.words) (omega (arith, q.procedures, r.procedures, h.grows.procedures, both))
    (small_by _ (nodes (expression_in u)) (nodes_one (expression_in u)) (omega (arith, anew, h.grows.nodes, k.nodes)) h.fine
    (All-nil IsNamed) (All-nil IsLine) (All-nil IsSmallSide))
    (All-append IsSmallStatement (statements_in s) (statements_in t) r.small q.small)
    (deeper (block_depth s) (block_depth t) r.deep q.deep) (q.free r.free)
  where
    deeper : (m n : ℕ) → m + d ≤ depth_limit → n + d ≤ depth_limit → max m n + d ≤ depth_limit
    deeper m n h k = omega (arith, h, k)

-- a `while`
while_within : (d : ℕ) {a b c : Tally} {u : Value} (s : Block) → a 5 ≡ 0 → IsExpr a b u → IsBlock d b c s → IsStatement d a c (tree.While (expression_in u) s)
while_within d {b = b} {u = u} s anew h r =
    let k = free_keeps b h.free in
    around d (tree.While (expression_in u) s) (statements_in s) refl (r.arrays ∙ h.grows.arrays) (r.words ∙ h.grows.words)
    (omega (arith, r.procedures, h.grows.procedures))
    (small_by _ (nodes (expression_in u)) (nodes_one (expression_in u)) (omega (arith, anew, h.grows.nodes, k.nodes)) h.fine
    (All-nil IsNamed) (All-nil IsLine) (All-nil IsSmallSide)) r.small r.deep r.free

-- a split
split_within : (d : ℕ) {a b c : Tally} {u : Value} (line : ℕ) (r x y : Named) (s : Block) → a 5 ≡ 0 → IsLine line → IsNamed r → IsNamed x → IsNamed y →
    IsExpr a b u → IsBlock d b c s → IsStatement d a c (tree.Split line r (expression_in u) x y s)
split_within d {b = b} {u = u} line r x y s anew one n m o h q =
    let k = free_keeps b h.free in
    around d (tree.Split line r (expression_in u) x y s) (statements_in s) refl (q.arrays ∙ h.grows.arrays) (q.words ∙ h.grows.words)
    (omega (arith, q.procedures, h.grows.procedures))
    (small_by _ (nodes (expression_in u)) (nodes_one (expression_in u)) (omega (arith, anew, h.grows.nodes, k.nodes)) h.fine
    (All-cons IsNamed r (x ∷ y ∷ []) n (All-cons IsNamed x (y ∷ []) m (All-cons IsNamed y [] o (All-nil IsNamed))))
    (All-cons IsLine line [] one (All-nil IsLine)) (All-nil IsSmallSide)) q.small q.deep q.free

-- an `each`, which counts as a procedure
each_within : (d : ℕ) {a b c : Tally} (i x r : Named) (s : Block) → b 1 ≡ a 1 → b 2 ≡ a 2 → b 3 ≡ a 3 + 1 → IsNamed i → IsNamed x → IsNamed r → IsBlock d b c s →
    IsStatement d a c (tree.Each i x r s)
each_within d i x r s arrays words procedures n m o q =
    around d (tree.Each i x r s) (statements_in s) refl (q.arrays ∙ arrays) (q.words ∙ words) (omega (arith, q.procedures, procedures))
    (small_by _ [] refl (omega arith) (All-nil IsNode)
    (All-cons IsNamed i (x ∷ r ∷ []) n (All-cons IsNamed x (r ∷ []) m (All-cons IsNamed r [] o (All-nil IsNamed))))
    (All-nil IsLine) (All-nil IsSmallSide)) q.small q.deep q.free

-- a statement within the limits, where the nodes are counted anew
anew_within : (d : ℕ) {a b c : Tally} (s : Statement) → b 1 ≡ a 1 → b 2 ≡ a 2 → b 3 ≡ a 3 → IsStatement d b c s → IsStatement d a c s
anew_within d s arrays words procedures h = record {
  arrays = h.arrays ∙ arrays;
  words = h.words ∙ words;
  procedures = omega (arith, h.procedures, procedures);
  small = h.small;
  deep = h.deep;
  free = h.free;
}

module _ {size : ℕ} (short : size ≤ text_limit) where
  -- blocks of so many steps are within the limits
  abbrev Blocks : (n d : ℕ) → Type 0
  Blocks n d = (row : Form) (c c' : Tally) (ts mid : List Token) (us : List Value) → In row (rows p.Block) →
      (w : Walk language limits (StandsIn size) may_follow (due (inside row d) row.items) (counts_first language limits row.counts ts c) ts us c' mid) →
      height language limits w ≤ n → IsBlock d c c' (block_in (row.make us))

  -- and what stands after them
  abbrev Elses : (n d : ℕ) → Type 0
  Elses n d = (row : Form) (c c' : Tally) (ts mid : List Token) (us : List Value) → suc d ≤ depth_limit → In row (rows p.Else) →
      (w : Walk language limits (StandsIn size) may_follow (due (inside row d) row.items) (counts_first language limits row.counts ts c) ts us c' mid) →
      height language limits w ≤ n → IsElse d c c' (block_in (row.make us))

  let_row : (d : ℕ) {c c' : Tally} {ts mid : List Token} {us : List Value} →
      Walk language limits (StandsIn size) may_follow (due d (word k.Let ∷ name ∷ sign s.Assign ∷ expr ∷ sign s.Semicolon ∷ [])) (counts_first language limits (AStatement ∷ []) ts c) ts us c' mid → IsStatement d c c' (statement_in (make.local us))
  let_row d (took is s deep free (took is' s' deep' free' (took is₂ s₂ deep₂ free₂ (parted i b ok w (took is₃ s₃ deep₃ free₃ done))))) =
      anew_within d _ refl refl refl (plain_statement d _ deep refl
      (let_plain _ (name_fine short is' s') free₃ (expr_walk short (height language limits w) level.Either _ i w (omega arith))))

  name_row : (d : ℕ) {c c' : Tally} {ts mid : List Token} {us : List Value} →
      Walk language limits (StandsIn size) may_follow (due d (name ∷ Part p.AfterName ∷ [])) (counts_first language limits (AStatement ∷ []) ts c) ts us c' mid → IsStatement d c c' (statement_in (make.from_name us))
  name_row d (took is s deep free (parted i b ok w done)) =
      anew_within d _ refl refl refl (plain_statement d _ deep refl (after_name_walk short _ i w _ (name_fine short is s)))

  if_row : (n d : ℕ) → Blocks n d → Elses n d → {c c' : Tally} {ts mid : List Token} {us : List Value} →
      (w : Walk language limits (StandsIn size) may_follow (due d (word k.If ∷ expr ∷ Part p.Block ∷ Part p.Else ∷ [])) (counts_first language limits (AStatement ∷ []) ts c) ts us c' mid) → height language limits w ≤ suc n →
      IsStatement d c c' (statement_in (make.choice us))
  if_row n d blocks elses (took is s deep free (parted i b ok w (parted j b' ok' w' (parted l b₂ ok₂ w₂ done)))) small =
      let block = blocks _ _ _ _ _ _ j w' (omega (arith, small)) in
      anew_within d _ refl refl refl (if_within d _ _ refl (expr_walk short (height language limits w) level.Either _ i w (omega arith)) block
      (elses _ _ _ _ _ _ block.inner l w₂ (omega (arith, small))))

  while_row : (n d : ℕ) → Blocks n d → {c c' : Tally} {ts mid : List Token} {us : List Value} →
      (w : Walk language limits (StandsIn size) may_follow (due d (word k.While ∷ expr ∷ Part p.Block ∷ [])) (counts_first language limits (AStatement ∷ []) ts c) ts us c' mid) → height language limits w ≤ suc n →
      IsStatement d c c' (statement_in (make.loop us))
  while_row n d blocks (took is s deep free (parted i b ok w (parted j b' ok' w' done))) small =
      anew_within d _ refl refl refl (while_within d _ refl (expr_walk short (height language limits w) level.Either _ i w (omega arith))
      (blocks _ _ _ _ _ _ j w' (omega (arith, small))))

  call_row : (d : ℕ) {c c' : Tally} {ts mid : List Token} {us : List Value} →
      Walk language limits (StandsIn size) may_follow (due d (word k.Call ∷ Part p.Call ∷ sign s.Semicolon ∷ [])) (counts_first language limits (AStatement ∷ []) ts c) ts us c' mid → IsStatement d c c' (statement_in (make.call us))
  call_row d (took is s deep free (parted i b ok w (took is' s' deep' free' done))) =
      anew_within d _ refl refl refl (plain_statement d _ deep refl (call_plain _ free' (call_walk short _ i w).0))

  fork_row : (d : ℕ) {c c' : Tally} {ts mid : List Token} {us : List Value} →
      Walk language limits (StandsIn size) may_follow (due d (word k.Fork ∷ Part p.Side ∷ word k.And ∷ Part p.Side ∷ sign s.Semicolon ∷ [])) (counts_first language limits (AStatement ∷ []) ts c) ts us c' mid →
      IsStatement d c c' (statement_in (make.fork us))
  fork_row d (took is s deep free (parted i b ok w (took is' s' deep' free' (parted j b' ok' w' (took is₂ s₂ deep₂ free₂ done))))) =
      anew_within d _ refl refl refl (plain_statement d _ deep refl (fork_plain _ _ free₂ (side_walk short _ i w) (side_walk short _ j w')))

  -- a split, after its expression
  split_block : (n d : ℕ) → Blocks n d → (t r y z x : Token) {a b c : Tally} {u : Value} {ts mid : List Token} {us : List Value} → a 5 ≡ 0 → StandsIn size t →
      IsNamed (named r) → IsNamed (named x) → IsExpr a b u →
      (w : Walk language limits (StandsIn size) may_follow (due d (sign s.Comma ∷ name ∷ Part p.Block ∷ [])) b ts us c mid) → height language limits w ≤ n →
      IsStatement d a c (statement_in (make.split (Lexed t ∷ Lexed r ∷ Lexed y ∷ u ∷ Lexed z ∷ Lexed x ∷ us)))
  split_block n d blocks t r y z x anew one h k e (took is s deep free (took is' s' deep' free' (parted j b ok w done))) small =
      split_within d _ _ _ _ _ anew (line_of short one) h k (name_fine short is' s') e (blocks _ _ _ _ _ _ j w (omega (arith, small)))

  split_rest : (n d : ℕ) → Blocks n d → (t r y : Token) {a c : Tally} {ts mid : List Token} {us : List Value} → a 5 ≡ 0 → StandsIn size t → IsNamed (named r) →
      (w : Walk language limits (StandsIn size) may_follow (due d (expr ∷ word k.Into ∷ name ∷ sign s.Comma ∷ name ∷ Part p.Block ∷ [])) a ts us c mid) → height language limits w ≤ n →
      IsStatement d a c (statement_in (make.split (Lexed t ∷ Lexed r ∷ Lexed y ∷ us)))
  split_rest n d blocks t r y anew one h (parted i b ok w (took {t = z} is s deep free (took {t = x} is' s' deep' free' w'))) small =
      split_block n d blocks t r y z x anew one h (name_fine short is' s') (expr_walk short (height language limits w) level.Either _ i w (omega arith)) w' (omega (arith, small))

  split_row : (n d : ℕ) → Blocks n d → {c c' : Tally} {ts mid : List Token} {us : List Value} →
      (w : Walk language limits (StandsIn size) may_follow (due d (word k.Split ∷ name ∷ word k.At ∷ expr ∷ word k.Into ∷ name ∷ sign s.Comma ∷ name ∷ Part p.Block ∷ [])) (counts_first language limits (AStatement ∷ []) ts c) ts us c' mid) →
      height language limits w ≤ suc n → IsStatement d c c' (statement_in (make.split us))
  split_row n d blocks (took {t = t} is s deep free (took {t = r} is₁ s₁ deep₁ free₁ (took {t = y} is₂ s₂ deep₂ free₂ w))) small =
      anew_within d _ refl refl refl (split_rest n d blocks t r y refl s (name_fine short is₁ s₁) w (omega (arith, small)))

  -- an `each`, after its part
  each_rest : (n d : ℕ) → Blocks n d → (t i y x : Token) {a b c : Tally} {ts mid : List Token} {us : List Value} → b 1 ≡ a 1 → b 2 ≡ a 2 → b 3 ≡ a 3 + 1 →
      IsNamed (named i) → IsNamed (named x) → (w : Walk language limits (StandsIn size) may_follow (due d (word k.In ∷ name ∷ Part p.Block ∷ [])) b ts us c mid) → height language limits w ≤ n →
      IsStatement d a c (statement_in (make.each (Lexed t ∷ Lexed i ∷ Lexed y ∷ Lexed x ∷ us)))
  each_rest n d blocks t i y x arrays words procedures h k (took is s deep free (took is' s' deep' free' (parted j b ok w done))) small =
      each_within d _ _ _ _ arrays words procedures h k (name_fine short is' s') (blocks _ _ _ _ _ _ j w (omega (arith, small)))

  each_row : (n d : ℕ) → Blocks n d → {c c' : Tally} {ts mid : List Token} {us : List Value} →
      (w : Walk language limits (StandsIn size) may_follow (due d (word k.Each ∷ name ∷ sign s.Comma ∷ name ∷ word k.In ∷ name ∷ Part p.Block ∷ []))
      (counts_first language limits (AStatement ∷ AProcedure ∷ []) ts c) ts us c' mid) →
      height language limits w ≤ suc n → IsStatement d c c' (statement_in (make.each us))
  each_row n d blocks (took {t = t} is s deep free (took {t = i} is₁ s₁ deep₁ free₁ (took {t = y} is₂ s₂ deep₂ free₂ (took {t = x} is₃ s₃ deep₃ free₃ w)))) small =
      each_rest n d blocks t i y x refl refl refl (name_fine short is₁ s₁) (name_fine short is₃ s₃) w (omega (arith, small))

  mutual
    -- a statement
    pub statement_walk : (n : ℕ) (d : ℕ) {row : Form} {c c' : Tally} {ts mid : List Token} {us : List Value} → In row (rows p.Statement) →
        (w : Walk language limits (StandsIn size) may_follow (due (inside row d) row.items) (counts_first language limits row.counts ts c) ts us c' mid) →
        height language limits w ≤ n → IsStatement d c c' (statement_in (row.make us))
    statement_walk zero d i w small = absurd (omega (arith, tall language limits w, small))
    statement_walk (suc n) d first w small = let_row d w
    statement_walk (suc n) d (later first) w small = name_row d w
    statement_walk (suc n) d (later (later first)) w small =
        if_row n d (λ r a b q m u i w' h. block_walk n d i w' h) (λ r a b q m u low i w' h. else_walk n d low i w' h) w small
    statement_walk (suc n) d (later (later (later first))) w small = while_row n d (λ r a b q m u i w' h. block_walk n d i w' h) w small
    statement_walk (suc n) d (later (later (later (later first)))) w small = call_row d w
    statement_walk (suc n) d (later (later (later (later (later first))))) w small = fork_row d w
    statement_walk (suc n) d (later (later (later (later (later (later first)))))) w small = split_row n d (λ r a b q m u i w' h. block_walk n d i w' h) w small
    statement_walk (suc n) d (later (later (later (later (later (later (later first))))))) w small = each_row n d (λ r a b q m u i w' h. block_walk n d i w' h) w small
    statement_walk (suc n) d (later (later (later (later (later (later (later (later i)))))))) w small = elim i [ ]

    -- statements
    pub statements_walk : (n : ℕ) (d : ℕ) {row : Form} {c c' : Tally} {ts mid : List Token} {us : List Value} → d ≤ depth_limit → In row (rows p.Statements) →
        (w : Walk language limits (StandsIn size) may_follow (due (inside row d) row.items) (counts_first language limits row.counts ts c) ts us c' mid) →
        height language limits w ≤ n → IsStatements d c c' (block_in (row.make us))
    statements_walk zero d low i w small = absurd (omega (arith, tall language limits w, small))
    statements_walk (suc n) d low first done small = none_within d low
    statements_walk (suc n) d low (later first) (parted i b ok w (parted j b' ok' w' done)) small =
        then_within d _ _ (statement_walk n _ i w (omega (arith, small))) (statements_walk n _ low j w' (omega (arith, small)))
    statements_walk (suc n) d low (later (later i)) w small = elim i [ ]

    -- a block
    block_walk : (n : ℕ) (d : ℕ) {row : Form} {c c' : Tally} {ts mid : List Token} {us : List Value} → In row (rows p.Block) →
        (w : Walk language limits (StandsIn size) may_follow (due (inside row d) row.items) (counts_first language limits row.counts ts c) ts us c' mid) →
        height language limits w ≤ n → IsBlock d c c' (block_in (row.make us))
    block_walk zero d i w small = absurd (omega (arith, tall language limits w, small))
    block_walk (suc n) d first (took is s deep free (parted i b ok w (took is' s' deep' free' done))) small =
        let r = statements_walk n (suc d) deep i w (omega (arith, small)) in
        record {
          arrays = r.arrays;
          words = r.words;
          procedures = r.procedures;
          small = r.small;
          inner = deep;
          deep = omega (arith, r.deep);
          free = free';
        }
    block_walk (suc n) d (later i) w small = elim i [ ]

    -- the block after an `else`, or none
    else_walk : (n : ℕ) (d : ℕ) {row : Form} {c c' : Tally} {ts mid : List Token} {us : List Value} → suc d ≤ depth_limit → In row (rows p.Else) →
        (w : Walk language limits (StandsIn size) may_follow (due (inside row d) row.items) (counts_first language limits row.counts ts c) ts us c' mid) →
        height language limits w ≤ n → IsElse d c c' (block_in (row.make us))
    else_walk zero d low i w small = absurd (omega (arith, tall language limits w, small))
    else_walk (suc n) d low first done small = record {
      arrays = refl;
      words = refl;
      procedures = omega arith;
      small = All-nil IsSmallStatement;
      deep = omega (arith, low);
      free = λ f. f;
    }
    else_walk (suc n) d low (later first) (took is s deep free (parted i b ok w done)) small =
        let r = block_walk n _ i w (omega (arith, small)) in
        record { arrays = r.arrays; words = r.words; procedures = r.procedures; small = r.small; deep = r.deep; free = λ f. r.free }
    else_walk (suc n) d low (later (later i)) w small = elim i [ ]
