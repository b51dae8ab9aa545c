-- What the strand shows after a capsule, and where that for which a frame waits is over.
use Rattle.std.proofs.Common.{◌≡◌, ◌<◌, ◌≤◌, ℕ, zero, suc, List, length, get_or, replicate, inl, inr, refl, sym, ap, subst, arith, false, Option, Some, None}
use Rattle.std.specs.Prelude.{◌⊎◌, ◌==◌}
use Rattle.std.proofs.lemmas.List.{length-set, get_or-set_other}
use Rattle.ppm_code.specs.declared.code.CodeParts.{CodeParts}
use Rattle.ppm_code.specs.declared.location.FrameWord.TheVariants.{Slot, Value}
use Rattle.ppm_code.specs.Strands.{Point, Gave, at_capsule, with_value, resume}
use Rattle.ppm_depth.specs.Moves.{with_slot, gone_on, stack_gone_on}
use Rattle.ppm_depth.specs.Stack.{Own, result_of, Above, listed, tree_at, end_of, IsTarget, Holds, IsLaidOut, IsShown, IsShownAt}
use Rattle.ppm_depth.specs.Store.{own_at}
use Rattle.ppm_depth.specs.declared.frame.Frame.{Frame}
use Rattle.ppm_depth.specs.declared.frame.Finish.{Finish}
use Rattle.ppm_depth.specs.declared.frame.Finish.TheVariants as finish
use Rattle.ppm_depth.proofs.RestLemmas.{put_word, is_number, is_no_number}
use Rattle.ppm_depth.proofs.StackLemmas.{laid_still, shown_by}

-- a list of zeros has 0 everywhere
pub zeros : (n i : ℕ) → ◌≡◌ {A = ℕ} (get_or (replicate n 0) i 0) 0
zeros zero i = refl
zeros (suc n) zero = refl
zeros (suc n) (suc i) = zeros n i

module _ (code : CodeParts) where
  -- a frame is held after a value has come into a slot
  pub holds_with : (blocks : List ℕ) (frame : Frame) (left_to to : Option ℕ) (f : Own) (slot : Option ℕ) (v : ℕ) (left_to' to' : Option ℕ)
      → end_of code frame ≤ length blocks → IsTarget code frame slot → IsTarget code frame left_to' → IsTarget code frame to'
      → Holds code blocks frame left_to to f
      → Holds code (with_slot frame slot v blocks) frame left_to' to'
      (record { own = with_value slot v f.own; point = record { capsule = frame.capsule; left_to = left_to'; to = to' } })
  holds_with blocks frame left_to to f None v left_to' to' fits one left target h = record {
    there = h.there;
    point = refl;
    left_target = left;
    target = target;
    slot = h.slot;
    value = h.value;
  }
  holds_with blocks frame left_to to f (Some j) v left_to' to' fits one left target h = record {
    there = h.there;
    point = refl;
    left_target = left;
    target = target;
    slot = λ i less. put_word (i == j) blocks (own_at frame.base (Slot j)) (own_at frame.base (Slot i)) v (f.own (Slot i))
        (omega (arith, fits, one)) (λ e. let same = is_number j i e in omega (arith, same))
        (λ e x. is_no_number j i e (omega (arith, x))) (h.slot i less);
    value = put_word false blocks (own_at frame.base (Slot j)) (own_at frame.base Value) v (f.own Value)
        (omega (arith, fits, one)) (λ e. absurd cc) (λ e x. omega (arith, x)) h.value;
  }

  -- the stack keeps its length, and what lies outside the frame
  pub with_length : (blocks : List ℕ) (frame : Frame) (slot : Option ℕ) (v : ℕ) → length (with_slot frame slot v blocks) ≡ length blocks
  with_length blocks frame None v = refl
  with_length blocks frame (Some j) v = length-set blocks (own_at frame.base (Slot j)) v

  with_outside : (blocks : List ℕ) (frame : Frame) (slot : Option ℕ) (v x : ℕ) → IsTarget code frame slot → (x < frame.base) ⊎ (end_of code frame ≤ x)
      → get_or (with_slot frame slot v blocks) x 0 ≡ get_or blocks x 0
  with_outside blocks frame None v x one out = refl
  with_outside blocks frame (Some j) v x one (inl out) = get_or-set_other blocks (own_at frame.base (Slot j)) x v 0 (λ e. omega (arith, e, out))
  with_outside blocks frame (Some j) v x one (inr out) = get_or-set_other blocks (own_at frame.base (Slot j)) x v 0 (λ e. omega (arith, e, out, one))

  pub with_laid : (blocks : List ℕ) (frame : Frame) (slot : Option ℕ) (v : ℕ) (s : Above) → end_of code frame ≤ length blocks → IsTarget code frame slot
      → IsLaidOut code blocks s frame.base (end_of code frame) (length blocks)
      → IsLaidOut code (with_slot frame slot v blocks) s frame.base (end_of code frame) (length (with_slot frame slot v blocks))
  with_laid blocks frame slot v s fits one laid =
      subst (λ (n : ℕ). IsLaidOut code (with_slot frame slot v blocks) s frame.base (end_of code frame) n) (sym (with_length blocks frame slot v))
      (laid_still code blocks (with_slot frame slot v blocks) s frame.base (end_of code frame) (length blocks)
      (λ x out below. with_outside blocks frame slot v x one out) (omega arith) fits laid)

  -- the frame with its point
  pub own_is : (blocks : List ℕ) (frame : Frame) (left_to to : Option ℕ) (f : Own) → Holds code blocks frame left_to to f
      → record { own = f.own; point = record { capsule = frame.capsule; left_to = left_to; to = to } } ≡ f
  own_is blocks frame left_to to f h = ap (λ (p : Point). record { own = f.own; point = p }) (sym h.point)

  -- a frame goes on, or is over by a trap: what stands above it stays
  pub gone_at : (blocks : List ℕ) (s : Above) (frame : Frame) (to : Option ℕ) (f : Own) (done : Finish) → Holds code blocks frame None to f
      → end_of code frame ≤ length blocks → IsLaidOut code blocks s frame.base (end_of code frame) (length blocks)
      → IsShownAt code (stack_gone_on frame to done blocks) (listed s) (gone_on frame done) s (resume f (result_of done))
  gone_at blocks s frame to f (finish.Trapped trap line) holds fits laid = record {
    waits = refl;
    at = (refl, frame.base, end_of code frame, omega arith, fits, laid);
  }
  gone_at blocks s frame to f (finish.Gave v) holds fits laid = record {
    waits = refl;
    at = (
      record { own = with_value to v f.own; point = at_capsule frame.capsule },
      ap (λ (g : Own). resume g (Gave v)) (sym (own_is blocks frame None to f holds)),
      holds_with blocks frame None to f to v None None fits holds.target tt tt holds,
      subst (λ (n : ℕ). end_of code frame ≤ n) (sym (with_length blocks frame to v)) fits,
      with_laid blocks frame to v s fits holds.target laid,
    );
  }

  -- and the tree with it
  pub gone_shown : (blocks : List ℕ) (s : Above) (frame : Frame) (to : Option ℕ) (f : Own) (done : Finish) → Holds code blocks frame None to f
      → end_of code frame ≤ length blocks → IsLaidOut code blocks s frame.base (end_of code frame) (length blocks)
      → IsShown code (stack_gone_on frame to done blocks) (listed s) (gone_on frame done) (tree_at s (resume f (result_of done)))
  gone_shown blocks s frame to f done holds fits laid =
      shown_by code (stack_gone_on frame to done blocks) (listed s) (gone_on frame done) s (resume f (result_of done)) (tree_at s (resume f (result_of done)))
      refl (gone_at blocks s frame to f done holds fits laid)
