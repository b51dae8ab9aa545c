-- The strand's loop: what it has come to grows by a turn at its end.
use Rattle.std.proofs.Common.{◌≡◌, ◌<◌, ◌≤◌, ℕ, ◌+◌, ◌-◌, ◌*◌, List, length, sym, ap, ◌∙◌, subst, arith}
use Rattle.std.proofs.lemmas.List.{length_push}
use Rattle.ppm_strands.specs.Tree.{Words, Strand, Over}
use Rattle.ppm_strands.specs.Run.{Counts, none, plus}
use Rattle.ppm_strands.specs.Ahead.{Done}
use Rattle.ppm_depth.specs.Order.{StepsInOrder}
use Rattle.ppm_depth.proofs.OrderLemmas.{then_steps}
use Rattle.ppm_strands.proofs.RunLemmas.{plus_comm, plus_none}
use Rattle.ppm_code.specs.declared.code.CodeParts.{CodeParts}
use Rattle.ppm_depth.specs.Stack.{Own, Strands, Above, Root, On, listed, result_of, tree_at, end_of, IsNow, IsShown}
use Rattle.ppm_depth.specs.Turns.{AreFew, counts_of, strands_over}
use Rattle.ppm_depth.specs.declared.frame.Frame.{Frame}
use Rattle.ppm_depth.specs.declared.frame.Finish.{Finish}
use Rattle.ppm_depth.specs.declared.frame.Now.TheVariants.{At, Over as IsOver}
use Rattle.ppm_depth.specs.declared.frame.Waiting.{Waiting}
use Rattle.ppm_depth.specs.declared.strand.Counts.{Counts as Counted}

-- nothing is counted at the beginning
pub none_few : (k : Counted) → counts_of k ≡ none → AreFew k
none_few k e =
    let forks = ap (λ (j : Counts). j.forks) e in
    let words = ap (λ (j : Counts). j.block_words) e in
    record { forks = omega (arith, forks); block_words = omega (arith, words) }

pub none_within : (k : Counted) (limit : ℕ) → counts_of k ≡ none → k.capsules ≤ limit
none_within k limit e = let capsules = ap (λ (j : Counts). j.capsules) e in omega (arith, capsules)

-- less is left, where no capsule more is run
pub smaller : (limit a b p q r s : ℕ) → a ≡ b → p + r < q + s → 5 * (limit - a) + p + r < 5 * (limit - b) + q + s
smaller limit a b p q r s same less = omega (arith, less, same)

module _ (code : CodeParts) where
  -- no steps
  pub no_steps : (array_words : ℕ) (k : Counted) (t : Strands) (a : Words) → counts_of k ≡ none
      → StepsInOrder (strands_over code array_words) (counts_of k) t a t a
  no_steps array_words k t a e = subst (λ (j : Counts). StepsInOrder (strands_over code array_words) j t a t a) (sym e) (Done t a, tt)

  -- steps after steps
  pub more_steps : (array_words after_words : ℕ) (j k : Counted) (m : Counts) (t u v : Strands) (a b d : Words) → after_words ≡ array_words
      → counts_of k ≡ plus (counts_of j) m → StepsInOrder (strands_over code array_words) (counts_of j) t a u b
      → StepsInOrder (strands_over code after_words) m u b v d → StepsInOrder (strands_over code array_words) (counts_of k) t a v d
  more_steps array_words after_words j k m t u v a b d same counted first then =
      subst (λ (l : Counts). StepsInOrder (strands_over code array_words) l t a v d) (sym counted)
      (then_steps (strands_over code array_words) first.0 first.1
      (subst (λ (n : ℕ). StepsInOrder (strands_over code n) m u b v d) same then))

  -- and steps that count nothing
  pub free_steps : (array_words after_words : ℕ) (j k : Counted) (t u v : Strands) (a b d : Words) → after_words ≡ array_words → k ≡ j → d ≡ b
      → StepsInOrder (strands_over code array_words) (counts_of j) t a u b → StepsInOrder (strands_over code after_words) none u b v b
      → StepsInOrder (strands_over code array_words) (counts_of k) t a v d
  free_steps array_words after_words j k t u v a b d same counts words first then =
      subst (λ (e : Words). StepsInOrder (strands_over code array_words) (counts_of k) t a v e) (sym words)
      (more_steps array_words after_words j k none t u v a b b same
      (ap (λ (l : Counted). counts_of l) counts ∙ sym (plus_comm (counts_of j) none ∙ plus_none (counts_of j))) first then)

  -- a frame at a capsule
  pub frame_there : (blocks : List ℕ) (waiting : List Waiting) (frame : Frame) (t : Strands) → IsShown code blocks waiting (At frame) t
      → (frame.capsule < length code.capsules) × (end_of code frame ≤ length blocks)
  frame_there blocks waiting frame t shown = (shown.at.2.there, shown.at.3)

  pub strand_there : (blocks : List ℕ) (waiting : List Waiting) (frame : Frame) (t : Strands) → IsShown code blocks waiting (At frame) t
      → (above : Above) × (f : Own) × (t ≡ tree_at above (Strand f))
  strand_there blocks waiting frame t shown =
      (shown.above, shown.at.0, shown.tree ∙ ap (λ (u : Strands). tree_at shown.above u) shown.at.1)

  -- where nothing waits, the whole tree is over
  pub tree_over : (blocks : List ℕ) (waiting : List Waiting) (done : Finish) (t : Strands) → IsShown code blocks waiting (IsOver done) t
      → length waiting ≡ 0 → t ≡ Over (result_of done)
  tree_over blocks waiting done t shown empty = by shown.above shown.waits shown.leaf shown.tree shown.at
    where
      by : (s : Above) → listed s ≡ waiting → (u : Strands) → t ≡ tree_at s u → IsNow code blocks (IsOver done) s u → t ≡ Over (result_of done)
      by Root e u tree at = tree ∙ at.0
      by (On w v s) e u tree at = absurd (let n = ap (λ (ws : List Waiting). length ws) e in omega (arith, n, empty, length_push (listed s) w))
