-- The capsules of a block, statement by statement.
use Rattle.std.proofs.Common.{◌≡◌, ◌≤◌, ◌+◌, ℕ, suc, arith, List, [], ◌∷◌, ◌++◌, map, length, take, refl, sym, ap, subst, ◌∙◌, append_assoc}
use Rattle.std.proofs.lemmas.List.{map-append, append-nil}
use Rattle.std.proofs.Math.Seq.{take-append_seam}
use Rattle.ppm_code.specs.declared.code.Capsule.{Capsule}
use Rattle.ppm_tree.specs.declared.named.Named.{Named}
use Rattle.ppm_tree.specs.Tree.{Expression, Statement, Block, Nil, Then, Let, Assign, Put, If, While, Call, Fork, Split, Each, Procedure}
use Rattle.ppm_cut_code.specs.Layout.{Layout}
use Rattle.ppm_cut_code.specs.Numbers.{behind, end_of, hidden_behind, hidden_behind_block}
use Rattle.ppm_cut_code.specs.Statements.{Instrs, Last, OnTo, with_lets, with_parts, test_code, split_code, each_code, last_code, statement_code, block_code}
use Rattle.ppm_cut.proofs.Growing.{adds_then}
use Rattle.ppm_cut.specs.Counts.{own_count}
use Rattle.ppm_cut.specs.Growth.{Adds, capsule_of}

-- names that are there, and more after them
pub record Extends (start now : Layout) : Type 0 where
  pub more : Layout
  pub is : now ≡ start ++ more

pub extends_same : (a : Layout) → Extends a a
extends_same a = record { more = []; is = sym (append-nil a) }

pub extends_lets : (a b : Layout) (s : Statement) → Extends a b → Extends a (with_lets b s)
extends_lets a b (Let x e) h = record { more = h.more ++ x.name ∷ []; is = ap (λ l. l ++ x.name ∷ []) h.is ∙ append_assoc a h.more (x.name ∷ []) }
extends_lets a b (Assign x e) h = h
extends_lets a b (Put x i e) h = h
extends_lets a b (If e t o) h = h
extends_lets a b (While e t) h = h
extends_lets a b (Call s) h = h
extends_lets a b (Fork s t) h = h
extends_lets a b (Split n r e x y t) h = h
extends_lets a b (Each i x r t) h = h

-- the first of them are those that were there
pub taken : (a b : Layout) (n : ℕ) → n ≡ length a → Extends a b → take n b ≡ a
taken a b n e h = ap (λ k. take k b) e ∙ ap (take (length a)) h.is ∙ take-append_seam a h.more

-- a statement adds a name at most
pub lets_few : (layout : Layout) (s : Statement) → length (with_lets layout s) ≤ length layout + own_count s
lets_few layout (Let x e) = let h = length-push layout x.name in omega (arith, h)
  where
    length-push : (xs : Layout) (x : List ℕ) → length (xs ++ x ∷ []) ≡ suc (length xs)
    length-push [] x = refl
    length-push (y ∷ xs) x = ap suc (length-push xs x)
lets_few layout (Assign x e) = omega arith
lets_few layout (Put x i e) = omega arith
lets_few layout (If e t o) = omega arith
lets_few layout (While e t) = omega arith
lets_few layout (Call s) = omega arith
lets_few layout (Fork s t) = omega arith
lets_few layout (Split n r e x y t) = omega arith
lets_few layout (Each i x r t) = omega arith

module _ (procedures : List Procedure) (q spare : ℕ) (last : Last) where
  -- the capsules of a block from some layout and numbers on
  abbrev pub rest_of : Layout → (at h : ℕ) → Block → List Capsule
  rest_of layout at h b = map (capsule_of q) (block_code procedures spare layout at h last b)

  -- one more statement
  pub body_step : (layout : Layout) (at h : ℕ) (b rest : Block) (s : Statement) (whole m n : List Capsule) → b ≡ Then s rest
      → whole ≡ m ++ rest_of layout at h b → Adds q (statement_code procedures spare layout at h s) m n
      → whole ≡ n ++ rest_of (with_lets layout s) (behind s at) (hidden_behind s h) rest
  body_step layout at h b rest s whole m n is e added =
      let mine = statement_code procedures spare layout at h s in
      let behind_it = block_code procedures spare (with_lets layout s) (behind s at) (hidden_behind s h) last rest in
      e ∙ ap (λ c. m ++ rest_of layout at h c) is ∙ ap (λ l. m ++ l) (map-append (capsule_of q) mine behind_it)
      ∙ sym (append_assoc m (map (capsule_of q) mine) (map (capsule_of q) behind_it)) ∙ ap (λ l. l ++ map (capsule_of q) behind_it) (sym added.whole)

  -- the end of a block
  pub body_end : (layout : Layout) (at h : ℕ) (b : Block) (whole m n : List Capsule) → b ≡ Nil → whole ≡ m ++ rest_of layout at h b
      → Adds q (last_code layout last ∷ []) m n → whole ≡ n
  body_end layout at h b whole m n is e added = e ∙ ap (λ c. m ++ rest_of layout at h c) is ∙ sym added.whole

-- the capsules of something are those of what is equal to it
pub adds_at : {A : Type 0} {q : ℕ} {a b : List Capsule} (f : A → List Instrs) (m n : A) → m ≡ n → Adds q (f m) a b → Adds q (f n) a b
adds_at {q = q} {a = a} {b = b} f m n e h = subst (λ k. Adds q (f k) a b) e h

module _ (procedures : List Procedure) (q spare : ℕ) (layout : Layout) (at h : ℕ) (w : Statement) where
  abbrev code_of : Statement → List Instrs
  code_of s = statement_code procedures spare layout at h s

  abbrev block_at : Layout → (from hidden : ℕ) → Last → Block → List Instrs
  block_at names from hidden last b = block_code procedures spare names from hidden last b

  -- a test, the block where it holds, and the other
  pub if_code : (e : Expression) (b o : Block) (n1 n2 second : ℕ) (names : Layout) (test : Instrs) {a m1 m2 z : List Capsule} → w ≡ If e b o
      → n1 ≡ end_of b (at + 1) → n2 ≡ end_of o (n1 + 1) → second ≡ hidden_behind_block b h → names ≡ layout → test ≡ test_code layout e (at + 1) (n1 + 1)
      → Adds q (test ∷ []) a m1 → Adds q (block_at layout (at + 1) h (OnTo (n2 + 1)) b) m1 m2
      → Adds q (block_at names (n1 + 1) second (OnTo (n2 + 1)) o) m2 z → Adds q (code_of w) a z
  if_code e b o n1 n2 second names test {a = a} {m1 = m1} {m2 = m2} {z = z} is p1 p2 p3 p4 p5 f g k =
      let next : at + 1 ≡ suc at = omega arith in
      let q1 = p1 ∙ ap (end_of b) next in
      let f1 : n1 + 1 ≡ suc (end_of b (suc at)) = omega (arith, q1) in
      let q2 = p2 ∙ ap (end_of o) f1 in
      let f2 : n2 + 1 ≡ suc (end_of o (suc (end_of b (suc at)))) = omega (arith, q2) in
      let test_is = p5 ∙ ap (λ n. test_code layout e n (n1 + 1)) next ∙ ap (test_code layout e (suc at)) f1 in
      let t = adds_at (λ is. is ∷ []) test (test_code layout e (suc at) (suc (end_of b (suc at)))) test_is f in
      let g1 = adds_at (λ n. block_at layout n h (OnTo (n2 + 1)) b) (at + 1) (suc at) next g in
      let g2 = adds_at (λ n. block_at layout (suc at) h (OnTo n) b) (n2 + 1) (suc (end_of o (suc (end_of b (suc at))))) f2 g1 in
      let k1 = adds_at (λ n. block_at names n second (OnTo (n2 + 1)) o) (n1 + 1) (suc (end_of b (suc at))) f1 k in
      let k2 = adds_at (λ n. block_at names (suc (end_of b (suc at))) second (OnTo n) o) (n2 + 1) (suc (end_of o (suc (end_of b (suc at))))) f2 k1 in
      let k3 = adds_at (λ n. block_at names (suc (end_of b (suc at))) n (OnTo (suc (end_of o (suc (end_of b (suc at)))))) o) second (hidden_behind_block b h) p3 k2 in
      let k4 = adds_at (λ l. block_at l (suc (end_of b (suc at))) (hidden_behind_block b h) (OnTo (suc (end_of o (suc (end_of b (suc at)))))) o) names layout p4 k3 in
      subst (λ s. Adds q (code_of s) a z) (sym is) (adds_then t (adds_then g2 k4))

  -- a test, and the block that goes back to it
  pub while_code : (e : Expression) (b : Block) (n1 : ℕ) (test : Instrs) {a m1 z : List Capsule} → w ≡ While e b
      → n1 ≡ end_of b (at + 1) → test ≡ test_code layout e (at + 1) (n1 + 1)
      → Adds q (test ∷ []) a m1 → Adds q (block_at layout (at + 1) h (OnTo at) b) m1 z → Adds q (code_of w) a z
  while_code e b n1 test {a = a} {m1 = m1} {z = z} is p1 p5 f g =
      let next : at + 1 ≡ suc at = omega arith in
      let q1 = p1 ∙ ap (end_of b) next in
      let f1 : n1 + 1 ≡ suc (end_of b (suc at)) = omega (arith, q1) in
      let test_is = p5 ∙ ap (λ n. test_code layout e n (n1 + 1)) next ∙ ap (test_code layout e (suc at)) f1 in
      let t = adds_at (λ is. is ∷ []) test (test_code layout e (suc at) (suc (end_of b (suc at)))) test_is f in
      let g1 = adds_at (λ n. block_at layout n h (OnTo at) b) (at + 1) (suc at) next g in
      subst (λ s. Adds q (code_of s) a z) (sym is) (adds_then t g1)

  -- a split, and its block with both parts
  pub split_code_is : (line : ℕ) (r : Named) (e : Expression) (x y : Named) (b : Block) (n1 : ℕ) (names : Layout) (cut : Instrs) {a m1 z : List Capsule}
      → w ≡ Split line r e x y b → n1 ≡ end_of b (at + 1) → names ≡ with_parts layout x y → cut ≡ split_code layout line r e (at + 1)
      → Adds q (cut ∷ []) a m1 → Adds q (block_at names (at + 1) h (OnTo (n1 + 1)) b) m1 z → Adds q (code_of w) a z
  split_code_is line r e x y b n1 names cut {a = a} {m1 = m1} {z = z} is p1 p4 p5 f g =
      let next : at + 1 ≡ suc at = omega arith in
      let q1 = p1 ∙ ap (end_of b) next in
      let f1 : n1 + 1 ≡ suc (end_of b (suc at)) = omega (arith, q1) in
      let cut_is = p5 ∙ ap (split_code layout line r e) next in
      let t = adds_at (λ is. is ∷ []) cut (split_code layout line r e (suc at)) cut_is f in
      let g1 = adds_at (λ n. block_at names n h (OnTo (n1 + 1)) b) (at + 1) (suc at) next g in
      let g2 = adds_at (λ n. block_at names (suc at) h (OnTo n) b) (n1 + 1) (suc (end_of b (suc at))) f1 g1 in
      let g3 = adds_at (λ l. block_at l (suc at) h (OnTo (suc (end_of b (suc at)))) b) names (with_parts layout x y) p4 g2 in
      subst (λ s. Adds q (code_of s) a z) (sym is) (adds_then t g3)

  -- an `each`
  pub each_code_is : (i x r : Named) (b : Block) (body : Instrs) {a z : List Capsule} → w ≡ Each i x r b → body ≡ each_code layout r b h (at + 1)
      → Adds q (body ∷ []) a z → Adds q (code_of w) a z
  each_code_is i x r b body {a = a} {z = z} is p f =
      let next : at + 1 ≡ suc at = omega arith in
      subst (λ s. Adds q (code_of s) a z) (sym is) (adds_at (λ is. is ∷ []) body (each_code layout r b h (suc at)) (p ∙ ap (each_code layout r b h) next) f)
