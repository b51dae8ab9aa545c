-- What waits in the stack stays as it is while the stack changes elsewhere, and chains of a strand are chains of the whole tree.
use Rattle.std.proofs.Common.{◌≡◌, ◌<◌, ◌≤◌, ℕ, List, [], ◌∷◌, ◌++◌, length, get_or, inl, inr, refl, sym, ap, ap₂, ◌∙◌, arith, drop, Option, None}
use Rattle.std.specs.Prelude.{◌⊎◌}
use Rattle.std.proofs.lemmas.List.{length_push}
use Rattle.ppm_depth.specs.declared.frame.Waiting.{Waiting}
use Rattle.ppm_strands.specs.Tree.{Words, Code}
use Rattle.ppm_strands.specs.Run.{Counts}
use Rattle.ppm_depth.specs.Order.{StepsInOrder}
use Rattle.ppm_depth.proofs.OrderLemmas.{under, left, right}
use Rattle.ppm_code.specs.declared.code.CodeParts.{CodeParts}
use Rattle.ppm_code.specs.Strands.{Result}
use Rattle.ppm_code.specs.declared.location.FrameWord.TheVariants.{Slot, Value}
use Rattle.ppm_depth.specs.Stack.{Own, Strands, Waits, ForCallee, ForLeft, ForRight, waits_for, Above, Root, On, listed, tree_at, end_of, Holds, AreOne, IsLaidOut, IsShown, IsShownAt}
use Rattle.ppm_depth.specs.Store.{own_at}
use Rattle.ppm_depth.specs.declared.frame.Frame.{Frame}
use Rattle.ppm_depth.specs.declared.frame.For.{For}
use Rattle.ppm_depth.specs.declared.frame.For.TheVariants as for
use Rattle.ppm_depth.specs.declared.frame.Now.{Now}

module _ (code : CodeParts) where
  -- the words of a frame are as they were
  abbrev pub Same : (old new : List ℕ) → (from to : ℕ) → Type 0
  Same old new from to = (x : ℕ) → from ≤ x → x < to → get_or new x 0 ≡ get_or old x 0

  pub holds_still : (old new : List ℕ) (frame : Frame) (left_to to : Option ℕ) (f : Own) → Same old new frame.base (end_of code frame)
      → Holds code old frame left_to to f → Holds code new frame left_to to f
  holds_still old new frame left_to to f same h = record {
    there = h.there;
    point = h.point;
    left_target = h.left_target;
    target = h.target;
    slot = λ i less. h.slot i less ∙ sym (same (own_at frame.base (Slot i)) (omega arith) (omega (arith, less)));
    value = h.value ∙ sym (same (own_at frame.base Value) (omega arith) (omega arith));
  }

  -- the stack is the same below a word but for a frame
  abbrev pub SameOutside : (old new : List ℕ) → (begin end top : ℕ) → Type 0
  SameOutside old new begin end top = (x : ℕ) → (x < begin) ⊎ (end ≤ x) → x < top → get_or new x 0 ≡ get_or old x 0

  one_still : (old new : List ℕ) (begin end top block : ℕ) (frame : Frame) (on : For) (v : Waits) → SameOutside old new begin end top
      → block ≤ begin → end_of code frame ≤ block → begin ≤ end → end ≤ top
      → AreOne code old end top frame on v → AreOne code new end top frame on v
  one_still old new begin end top block frame (for.Callee to) (ForCallee f) same lies less first last h =
      holds_still old new frame None to f (λ x from to. same x (inl (omega arith)) (omega arith)) h
  one_still old new begin end top block frame (for.Left r left_to to) (ForLeft f g) same lies less first last h = (
    holds_still old new frame left_to to f (λ x from to. same x (inl (omega arith)) (omega arith)) h.0,
    holds_still old new r None None g (λ x from to. same x (inr (omega (arith, h.2, from))) (omega (arith, h.3, to))) h.1,
    h.2,
    h.3,
  )
  one_still old new begin end top block frame (for.Right l left_to to) (ForRight f o) same lies less first last h =
      (holds_still old new frame left_to to f (λ x from to. same x (inl (omega arith)) (omega arith)) h.0, h.1)
  one_still old new begin end top block frame (for.Callee to) (ForLeft f g) same lies less first last h = absurd h
  one_still old new begin end top block frame (for.Callee to) (ForRight f o) same lies less first last h = absurd h
  one_still old new begin end top block frame (for.Left r left_to to) (ForCallee f) same lies less first last h = absurd h
  one_still old new begin end top block frame (for.Left r left_to to) (ForRight f o) same lies less first last h = absurd h
  one_still old new begin end top block frame (for.Right l left_to to) (ForCallee f) same lies less first last h = absurd h
  one_still old new begin end top block frame (for.Right l left_to to) (ForLeft f g) same lies less first last h = absurd h

  -- all that waits
  pub laid_still : (old new : List ℕ) (s : Above) (begin end top : ℕ) → SameOutside old new begin end top → begin ≤ end → end ≤ top
      → IsLaidOut code old s begin end top → IsLaidOut code new s begin end top
  laid_still old new Root begin end top same first last h = tt
  laid_still old new (On w v s) begin end top same first last h = (
    h.0,
    h.1,
    one_still old new begin end top w.block w.frame w.on v same h.0 h.1 first last h.2,
    laid_still old new s w.frame.base (end_of code w.frame) w.block
        (λ x out below. same x (inl (omega (arith, h.0, below))) (omega (arith, h.0, below, first, last)))
        (omega arith) h.1 h.3,
  )

  -- a higher top is as good
  one_higher : (blocks : List ℕ) (end top more : ℕ) (frame : Frame) (on : For) (v : Waits) → top ≤ more
      → AreOne code blocks end top frame on v → AreOne code blocks end more frame on v
  one_higher blocks end top more frame (for.Callee to) (ForCallee f) le h = h
  one_higher blocks end top more frame (for.Left r left_to to) (ForLeft f g) le h = (h.0, h.1, h.2, omega (arith, h.3))
  one_higher blocks end top more frame (for.Right l left_to to) (ForRight f o) le h = h
  one_higher blocks end top more frame (for.Callee to) (ForLeft f g) le h = absurd h
  one_higher blocks end top more frame (for.Callee to) (ForRight f o) le h = absurd h
  one_higher blocks end top more frame (for.Left r left_to to) (ForCallee f) le h = absurd h
  one_higher blocks end top more frame (for.Left r left_to to) (ForRight f o) le h = absurd h
  one_higher blocks end top more frame (for.Right l left_to to) (ForCallee f) le h = absurd h
  one_higher blocks end top more frame (for.Right l left_to to) (ForLeft f g) le h = absurd h

  pub laid_higher : (blocks : List ℕ) (s : Above) (begin end top more : ℕ) → top ≤ more → IsLaidOut code blocks s begin end top
      → IsLaidOut code blocks s begin end more
  laid_higher blocks Root begin end top more le h = tt
  laid_higher blocks (On w v s) begin end top more le h = (h.0, h.1, one_higher blocks end top more w.frame w.on v le h.2, h.3)

-- what is listed with one more after it is that one and what stands before it
abbrev pub Innermost : List Waiting → Waiting → Above → Type 0
Innermost ws w Root = ⊥
Innermost ws w (On x v s) = (x ≡ w) × (listed s ≡ ws)

last_of : {X : Type 0} (xs ys : List X) (x y : X) → xs ++ (x ∷ []) ≡ ys ++ (y ∷ []) → (x ≡ y) × (xs ≡ ys)
last_of [] [] x y e = (ap (λ (zs : List _). get_or zs 0 x) e, refl)
last_of [] (z ∷ ys) x y e = absurd (let n = ap (λ (zs : List _). length zs) e in omega (arith, n, length_push ys y))
last_of (z ∷ xs) [] x y e = absurd (let n = ap (λ (zs : List _). length zs) e in omega (arith, n, length_push xs x))
last_of (z ∷ xs) (u ∷ ys) x y e =
    let rest = last_of xs ys x y (ap (λ (zs : List _). drop 1 zs) e) in
    (rest.0, ap₂ (λ a (zs : List _). a ∷ zs) (ap (λ (zs : List _). get_or zs 0 z) e) rest.1)

pub innermost : (s : Above) (ws : List Waiting) (w : Waiting) → listed s ≡ ws ++ (w ∷ []) → Innermost ws w s
innermost Root ws w e = let n = ap (λ (zs : List Waiting). length zs) e in omega (arith, n, length_push ws w)
innermost (On x v s) ws w e = last_of (listed s) ws x w e

module _ (c : Code Own Result) where
  -- the chains of a strand are chains of the tree in which it stands
  one_lifted : (v : Waits) {k : Counts} {t u : Strands} {a b : Words} → StepsInOrder c k t a u b → StepsInOrder c k (waits_for v t) a (waits_for v u) b
  one_lifted (ForCallee f) s = under c f s.0 s.1
  one_lifted (ForLeft f r) s = left c f _ s.0 s.1
  one_lifted (ForRight f o) s = right c f o s.0 s.1

  pub lifted : (above : Above) {k : Counts} {t u : Strands} {a b : Words} → StepsInOrder c k t a u b
      → StepsInOrder c k (tree_at above t) a (tree_at above u) b
  lifted Root s = s
  lifted (On w v above) s = lifted above (one_lifted v s)

-- what is shown with what stands above it is shown as a tree
pub shown_by : (code : CodeParts) (blocks : List ℕ) (waiting : List Waiting) (current : Now) (s : Above) (leaf t : Strands) → t ≡ tree_at s leaf
    → IsShownAt code blocks waiting current s leaf → IsShown code blocks waiting current t
shown_by code blocks waiting current s leaf t tree it = record { above = s; waits = it.waits; leaf = leaf; tree = tree; at = it.at }
