-- What the strand shows after a capsule of a frame, by its end.
use Rattle.std.proofs.Common.{◌≡◌, ◌<◌, ◌≤◌, ℕ, ◌+◌, List, length, get_or, take, refl, sym, ap, ◌∙◌, subst, arith, Option, Some, None}
use Rattle.std.specs.Prelude.{IfSome}
use Rattle.std.proofs.lemmas.List.{get_or-take, length-take-le}
use Rattle.ppm_strands.specs.Tree.{Strand, Over, forks_in}
use Rattle.ppm_strands.specs.Capsule.{Memory}
use Rattle.ppm_strands.specs.Strand.{Own, own_of, new_of}
use Rattle.ppm_code.specs.declared.act.End.{End}
use Rattle.ppm_code.specs.declared.act.End.TheVariants.{Next, Finish, Trap, Call, Fork}
use Rattle.ppm_code.specs.declared.code.CodeParts.{CodeParts}
use Rattle.ppm_code.specs.declared.location.FrameWord.{FrameWord}
use Rattle.ppm_code.specs.declared.location.FrameWord.TheVariants.{Value}
use Rattle.ppm_code.specs.Code.{EndFits, IsCode, IsCapsuleOf, room_of}
use Rattle.ppm_code.specs.Locations.{Where}
use Rattle.ppm_code.specs.Sizes.{slots_of, frame_size, fork_size, slot_at, value_at, left_at, right_at, procedure_at, slots_at}
use Rattle.ppm_code.specs.Strands.{Gave, Trapped, at_capsule, built, begun, opens, instrs_of, entry_of}
use Rattle.ppm_code.proofs.BuiltLemmas.{built_slot}
use Rattle.ppm_code.proofs.CodeLemmas.{slots_small, procedure_is, entry_is}
use Rattle.ppm_depth.specs.Moves.{entry_at, moved, now_after, stack_after, waiting_after, forks_by}
use Rattle.ppm_depth.specs.Stack.{Strands, ForCallee, ForLeft, Above, On, listed, tree_at, end_of, IsTarget, Holds, IsLaidOut, IsShown, IsShownAt}
use Rattle.ppm_depth.specs.Store.{Shows}
use Rattle.ppm_depth.specs.Whole.{block_at, kept_of}
use Rattle.ppm_depth.specs.declared.frame.Frame.{Frame}
use Rattle.ppm_depth.specs.declared.frame.For.TheVariants.{Callee, Left}
use Rattle.ppm_depth.proofs.StackLemmas.{holds_still, laid_still, shown_by}

-- an end opens a fork where it says so
pub forks_opened : (code : CodeParts) (e : End) (own : FrameWord → ℕ) (new : ℕ → ℕ) → forks_in (opens code e own new) ≡ forks_by e
forks_opened code (Next capsule) own new = refl
forks_opened code Finish own new = refl
forks_opened code (Trap trap line) own new = refl
forks_opened code (Call q capsule to) own new = refl
forks_opened code (Fork left right capsule left_to right_to) own new = refl

-- what stands above the strand after an end, and the strand
abbrev pub above_after : CodeParts → Frame → (block : ℕ) → Memory Where → Above → End → Above
above_after code frame block m s (Next k) = s
above_after code frame block m s Finish = s
above_after code frame block m s (Trap trap line) = s
above_after code frame block m s (Call q k to) = On (record { frame = moved frame k; block = block; on = Callee to })
    (ForCallee (record { own = own_of m; point = record { capsule = k; left_to = None; to = to } })) s
above_after code frame block m s (Fork q r k left_to right_to) =
    On (record { frame = moved frame k; block = block; on = Left (entry_at code r (block + right_at code q)) left_to right_to })
    (ForLeft (record { own = own_of m; point = record { capsule = k; left_to = left_to; to = right_to } })
    (record { own = built (slots_of code r) (right_at code q) (new_of m); point = at_capsule (entry_of code r) })) s

abbrev pub leaf_after : CodeParts → Memory Where → End → Strands
leaf_after code m (Next k) = Strand (record { own = own_of m; point = at_capsule k })
leaf_after code m Finish = Over (Gave (m (Own Value)))
leaf_after code m (Trap trap line) = Over (Trapped trap line)
leaf_after code m (Call q k to) = begun code q (built (slots_of code q) 0 (new_of m))
leaf_after code m (Fork q r k left_to right_to) = begun code q (built (slots_of code q) left_at (new_of m))

module _ (code : CodeParts) (is_code : IsCode code) (frame : Frame) (block : ℕ) (blocks words : List ℕ) (m : Memory Where)
    (shows : Shows (slots_at code frame.capsule) (block_at code frame.capsule) (record { frame = frame.base; block = block }) blocks words m)
    (fits : end_of code frame ≤ block) (stack : block + block_at code frame.capsule ≡ length blocks)
    (s : Above) (laid : IsLaidOut code blocks s frame.base (end_of code frame) block) where
  -- the frame goes on with another capsule of its procedure
  moved_size : (k : ℕ) → IsCapsuleOf code (procedure_at code frame.capsule) k → end_of code (moved frame k) ≡ end_of code frame
  moved_size k h = ap (λ (q : ℕ). frame.base + frame_size code q) (procedure_is code (procedure_at code frame.capsule) k h)

  moved_slots : (k : ℕ) → IsCapsuleOf code (procedure_at code frame.capsule) k → slots_at code k ≡ slots_at code frame.capsule
  moved_slots k h = ap (slots_of code) (procedure_is code (procedure_at code frame.capsule) k h)

  moved_target : (k : ℕ) → IsCapsuleOf code (procedure_at code frame.capsule) k → (to : Option ℕ)
      → IfSome to (λ slot. slot < slots_at code frame.capsule) → IsTarget code (moved frame k) to
  moved_target k h to one = subst (λ (n : ℕ). IfSome to (λ slot. slot < n)) (sym (moved_slots k h)) one

  -- in any stack that has its words
  moved_holds : (k : ℕ) → IsCapsuleOf code (procedure_at code frame.capsule) k → (left_to to : Option ℕ) → IsTarget code (moved frame k) left_to
      → IsTarget code (moved frame k) to
      → Holds code blocks (moved frame k) left_to to (record { own = own_of m; point = record { capsule = k; left_to = left_to; to = to } })
  moved_holds k h left_to to left target = record {
    there = h.1;
    point = refl;
    left_target = left;
    target = target;
    slot = λ i less. shows.slot i (subst (λ (n : ℕ). i < n) (moved_slots k h) less);
    value = shows.value;
  }

  -- the stack without the new block
  abbrev below : List ℕ
  below = take block blocks

  below_length : length below ≡ block
  below_length = length-take-le block blocks (omega (arith, stack))

  below_laid : IsLaidOut code below s frame.base (end_of code frame) (length below)
  below_laid = subst (λ (n : ℕ). IsLaidOut code below s frame.base (end_of code frame) n) (sym below_length)
      (laid_still code blocks below s frame.base (end_of code frame) block (λ x out less. get_or-take block blocks x 0 less) (omega arith) fits laid)

  below_fits : end_of code frame ≤ length below
  below_fits = subst (λ (n : ℕ). end_of code frame ≤ n) (sym below_length) fits

  -- a frame that was built in the new block
  built_holds : (q base offset : ℕ) → q < length code.procedures → base ≡ block + offset → offset + frame_size code q ≤ block_at code frame.capsule
      → Holds code blocks (entry_at code q base) None None
      (record { own = built (slots_of code q) offset (new_of m); point = at_capsule (entry_of code q) })
  built_holds q base offset there is within =
      let one = entry_is code is_code q there in
      let slots : slots_at code (entry_of code q) ≡ slots_of code q = ap (slots_of code) (procedure_is code q (entry_of code q) one) in
      record {
        there = one.1;
        point = refl;
        left_target = tt;
        target = tt;
        slot = λ i less. built_slot (slots_of code q) offset (new_of m) i (omega (arith, less, slots))
            ∙ shows.new (offset + slot_at i) (omega (arith, less, slots, within))
            ∙ ap (λ (n : ℕ). get_or blocks n 0) (omega (arith, is));
        value = shows.new (offset + value_at) (omega (arith, within)) ∙ ap (λ (n : ℕ). get_or blocks n 0) (omega (arith, is));
      }

  built_end : (q base : ℕ) → q < length code.procedures → end_of code (entry_at code q base) ≡ base + frame_size code q
  built_end q base there = ap (λ (r : ℕ). base + frame_size code r) (procedure_is code q (entry_of code q) (entry_is code is_code q there))

  -- what is asked for is kept
  kept_is : (n : ℕ) → n ≤ 67 → room_of (instrs_of code frame.capsule) ≡ Some n → block_at code frame.capsule ≡ n
  kept_is n few room =
      let is : block_at code frame.capsule ≡ kept_of (Some n) = ap (λ (o : Option ℕ). kept_of o) room in
      omega (arith, is, few)

  -- by each end
  pub followed_at : (e : End) → EndFits code (procedure_at code frame.capsule) (instrs_of code frame.capsule) e
      → IsShownAt code (stack_after block blocks e) (waiting_after code frame block (listed s) e) (now_after code frame block blocks e)
      (above_after code frame block m s e) (leaf_after code m e)
  followed_at (Next k) h = record {
    waits = refl;
    at = (
      record { own = own_of m; point = at_capsule k },
      refl,
      holds_below k h,
      subst (λ (n : ℕ). n ≤ length below) (sym (moved_size k h)) below_fits,
      subst (λ (n : ℕ). IsLaidOut code below s frame.base n (length below)) (sym (moved_size k h)) below_laid,
    );
  }
    where
      holds_below : (k : ℕ) (h : IsCapsuleOf code (procedure_at code frame.capsule) k)
          → Holds code below (moved frame k) None None (record { own = own_of m; point = at_capsule k })
      holds_below k h = holds_still code blocks below (moved frame k) None None (record { own = own_of m; point = at_capsule k })
          (λ x from to. get_or-take block blocks x 0 (let size = moved_size k h in omega (arith, to, size, fits))) (moved_holds k h None None tt tt)
  followed_at Finish h = record {
    waits = refl;
    at = (ap (λ (v : ℕ). Over (Gave v)) shows.value, frame.base, end_of code frame, omega arith, below_fits, below_laid);
  }
  followed_at (Trap trap line) h = record {
    waits = refl;
    at = (refl, frame.base, end_of code frame, omega arith, below_fits, below_laid);
  }
  followed_at (Call q k to) h =
      let size = kept_is (frame_size code q) (let few = slots_small code is_code q in omega (arith, few)) h.3 in
      let ends = built_end q block h.0 in
      record {
        waits = refl;
        at = (
          record { own = built (slots_of code q) 0 (new_of m); point = at_capsule (entry_of code q) },
          refl,
          built_holds q block 0 h.0 (omega arith) (omega (arith, size)),
          omega (arith, ends, size, stack),
          (
            omega arith,
            subst (λ (n : ℕ). n ≤ block) (sym (moved_size k h.1)) fits,
            moved_holds k h.1 None to tt (moved_target k h.1 to h.2),
            subst (λ (n : ℕ). IsLaidOut code blocks s frame.base n block) (sym (moved_size k h.1)) laid,
          ),
        );
      }
  followed_at (Fork q r k left_to right_to) h =
      let size = kept_is (fork_size code q r)
      (let few = slots_small code is_code q in let less = slots_small code is_code r in omega (arith, few, less)) h.5 in
      let left_end = built_end q (block + left_at) h.0 in
      let right_end = built_end r (block + right_at code q) h.1 in
      record {
        waits = refl;
        at = (
          record { own = built (slots_of code q) left_at (new_of m); point = at_capsule (entry_of code q) },
          refl,
          built_holds q (block + left_at) left_at h.0 refl (omega (arith, size)),
          omega (arith, left_end, size, stack),
          (
            omega arith,
            subst (λ (n : ℕ). n ≤ block) (sym (moved_size k h.2)) fits,
            (
              moved_holds k h.2 left_to right_to (moved_target k h.2 left_to h.3) (moved_target k h.2 right_to h.4),
              built_holds r (block + right_at code q) (right_at code q) h.1 refl (omega (arith, size)),
              omega (arith, left_end),
              omega (arith, right_end, size, stack),
            ),
            subst (λ (n : ℕ). IsLaidOut code blocks s frame.base n block) (sym (moved_size k h.2)) laid,
          ),
        );
      }

  -- the tree that is shown then
  tree_after : (e : End) → tree_at s (opens code e (own_of m) (new_of m)) ≡ tree_at (above_after code frame block m s e) (leaf_after code m e)
  tree_after (Next k) = refl
  tree_after Finish = refl
  tree_after (Trap trap line) = refl
  tree_after (Call q k to) = refl
  tree_after (Fork q r k left_to right_to) = refl

  pub followed : (e : End) → EndFits code (procedure_at code frame.capsule) (instrs_of code frame.capsule) e
      → IsShown code (stack_after block blocks e) (waiting_after code frame block (listed s) e) (now_after code frame block blocks e)
      (tree_at s (opens code e (own_of m) (new_of m)))
  followed e h = shown_by code (stack_after block blocks e) (waiting_after code frame block (listed s) e) (now_after code frame block blocks e)
      (above_after code frame block m s e) (leaf_after code m e) (tree_at s (opens code e (own_of m) (new_of m))) (tree_after e) (followed_at e h)
