-- An expression depends on no words but those that the frame owns, nor do the arguments of a call.
use Rattle.std.proofs.Common.{◌≡◌, ◌<◌, ◌+◌, ℕ, List, [], ◌∷◌, refl, ap, ap₂, ◌∙◌, arith}
use Rattle.std.specs.Prelude.{ℤ, Result, Ok, Err}
use Rattle.ppm_tree.specs.declared.mode.Mode.{Mode}
use Rattle.ppm_tree.specs.declared.mode.Mode.TheVariants as mode
use Rattle.ppm_tree.specs.declared.named.Named.{Named}
use Rattle.ppm_tree.specs.declared.tree.Parameter.{Parameter}
use Rattle.ppm_tree.specs.Tree.{Expression, Number, Name, Element, Len, Minus, Binary, Argument, Side, ProgramTree}
use Rattle.ppm_tree.specs.Values.{applied, decided, negated}
use Rattle.ppm_tree.specs.State.{TrapAt, then_with, at_line, unless_decided, Frame, with_local, Arrays, evaluate, index_in, word_at, put_values}
use Rattle.ppm_tree.specs.State.{with_argument, with_arguments, entered, both_entered}
use Rattle.ppm_regions.specs.declared.ask.Ask.TheVariants as ask
use Rattle.ppm_regions.specs.Scope.{Scope}
use Rattle.ppm_regions.specs.Uses.{Asks, uses_in, uses_of_argument, uses_of_arguments}
use Rattle.ppm_regions.specs.Correct.{Makes, KeepsRules}
use Rattle.ppm_ownership.specs.Words.{AreSameAt}
use Rattle.ppm_ownership.specs.Owning.{Owns}
use Rattle.ppm_ownership.specs.Coming.{callee}
use Rattle.ppm_regions.proofs.SiteLemmas.{AreMade, made_left, made_right, made_head, made_tail}
use Rattle.ppm_ownership.proofs.WordLemmas.{index_below}

-- what goes on alike from every value
pub then_alike : {A B : Type 0} (r : Result A TrapAt) (g h : A → Result B TrapAt) → ((x : A) → r ≡ Ok x → g x ≡ h x) → then_with r g ≡ then_with r h
then_alike (Ok x) g h same = same x refl
then_alike (Err stop) g h same = refl

module _ (t : ProgramTree) (rules : KeepsRules t) (scope : Scope) (f : Frame) (a c : Arrays) (same : AreSameAt (Owns scope f.regions) a c) where
  -- an element of a region that may be read
  element_same : (x : Named) → Makes t scope (Asks ask.Region x) → (k : ℕ) → k < (f.regions x.name).length
      → word_at a (f.regions x.name) k ≡ word_at c (f.regions x.name) k
  element_same x made k below =
      let d = rules.names scope ask.Region x made in
      let r = f.regions x.name in
      same.words r.array (r.start + k) (record {
        name = x.name;
        seen = record { declaration = d.declaration; found = d.found; region = d.kind; shown = d.seen refl };
        has = record { array = refl; from = omega arith; below = omega (arith, below) };
      })

  read_same : (x : Named) → Makes t scope (Asks ask.Region x) → (i : ℤ)
      → then_with (index_in x.line (f.regions x.name) i) (λ k. Ok (word_at a (f.regions x.name) k))
      ≡ then_with (index_in x.line (f.regions x.name) i) (λ k. Ok (word_at c (f.regions x.name) k))
  read_same x made i =
      then_alike (index_in x.line (f.regions x.name) i) (λ k. Ok (word_at a (f.regions x.name) k)) (λ k. Ok (word_at c (f.regions x.name) k))
      (λ k is. ap Ok (element_same x made k (index_below x.line (f.regions x.name) i k is)))

  pub same_value : (e : Expression) → AreMade t scope (uses_in e) → evaluate f a e ≡ evaluate f c e
  same_value (Number z) made = refl
  same_value (Name x) made = refl
  same_value (Element x index) made =
      let rest = same_value index (made_tail t scope (Asks ask.Region x) (uses_in index) made) in
      let read = λ (b : Arrays) (i : ℤ). then_with (index_in x.line (f.regions x.name) i) (λ k. Ok (word_at b (f.regions x.name) k)) in
      ap (λ (r : Result ℤ TrapAt). then_with r (read a)) rest
      ∙ then_alike (evaluate f c index) (read a) (read c) (λ i is. read_same x (made_head t scope (Asks ask.Region x) (uses_in index) made) i)
  same_value (Len x) made = refl
  same_value (Minus line e) made = ap (λ (r : Result ℤ TrapAt). then_with r (λ v. at_line line (negated v))) (same_value e made)
  same_value (Binary o line left right) made =
      ap₂ (λ (l r : Result ℤ TrapAt). then_with l (λ x. unless_decided (decided o x) (then_with r (λ y. at_line line (applied o x y)))))
      (same_value left (made_left t scope (uses_in left) (uses_in right) made)) (same_value right (made_right t scope (uses_in left) (uses_in right) made))

  -- the index and the value of an assignment
  pub same_put : (x : Named) (i e : Expression) → AreMade t scope (uses_in i) → AreMade t scope (uses_in e) → put_values f a x i e ≡ put_values f c x i e
  same_put x i e made made' =
      ap₂ (λ (l r : Result ℤ TrapAt). then_with l (λ i. then_with r (λ v. then_with (index_in x.line (f.regions x.name) i) (λ k. Ok (k, v)))))
      (same_value i made) (same_value e made')

  argument_same : (m : Mode) (x : List ℕ) (line : ℕ) (v : Expression) → AreMade t scope (uses_of_argument m (record { line = line; value = v })) → (g : Frame)
      → with_argument f a m x v g ≡ with_argument f c m x v g
  argument_same mode.Int x line v made g = ap (λ (r : Result ℤ TrapAt). then_with r (λ v. Ok (with_local g x v))) (same_value v made)
  argument_same mode.Mut x line v made g = refl
  argument_same mode.Ref x line v made g = refl

  same_arguments : (ps : List Parameter) (args : List Argument) → AreMade t scope (uses_of_arguments ps args) → (g : Frame)
      → with_arguments f a ps args g ≡ with_arguments f c ps args g
  same_arguments [] args made g = refl
  same_arguments (p ∷ ps) [] made g = refl
  same_arguments (p ∷ ps) (b ∷ args) made g =
      let first = made_left t scope (uses_of_argument p.mode b) (uses_of_arguments ps args) made in
      let later = made_right t scope (uses_of_argument p.mode b) (uses_of_arguments ps args) made in
      ap (λ (r : Result Frame TrapAt). then_with r (with_arguments f a ps args)) (argument_same p.mode p.name.name b.line b.value first g)
      ∙ then_alike (with_argument f c p.mode p.name.name b.value g) (with_arguments f a ps args) (with_arguments f c ps args)
      (λ g₁ is. same_arguments ps args later g₁)

  -- the frames that calls and forks make
  pub same_entered : (s : Side) → AreMade t scope (uses_of_arguments (callee t s).parameters s.arguments)
      → entered t.procedures f a s ≡ entered t.procedures f c s
  same_entered s made = same_arguments (callee t s).parameters s.arguments made _

  pub same_both : (s u : Side) → AreMade t scope (uses_of_arguments (callee t s).parameters s.arguments)
      → AreMade t scope (uses_of_arguments (callee t u).parameters u.arguments) → both_entered t.procedures f a s u ≡ both_entered t.procedures f c s u
  same_both s u made made' =
      ap₂ (λ (l r : Result Frame TrapAt). then_with {B = Frame × Frame} l (λ g. then_with {B = Frame × Frame} r (λ h. Ok (g, h))))
      (same_entered s made) (same_entered u made')
