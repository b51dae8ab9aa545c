-- Capsules where strands may race, alone, do what those of the code do.
use Rattle.std.proofs.Common.{◌≡◌, ◌∙◌, ℕ, ◌==◌, cond, List, [], ◌∷◌, refl, ap, subst, sym}
use Rattle.ppm_strands.specs.Tree.{Words}
use Rattle.ppm_strands.specs.Ahead.{put}
use Rattle.ppm_strands.specs.Capsule.{Capsule, Reads, Writes, Asks, Ends, Memory, store, ending, leaves}
use Rattle.ppm_strands.specs.Strand.{Own, New, Shared}
use Rattle.ppm_unseen.specs.Capsule.{Capsule as Racing, Ends as Stops}
use Rattle.ppm_code.specs.declared.location.FrameWord.{FrameWord}
use Rattle.ppm_code.specs.declared.act.End.{End}
use Rattle.ppm_code.specs.declared.act.End.TheVariants.{Next, Finish, Trap, Call, Fork}
use Rattle.ppm_code.specs.declared.code.CodeParts.{CodeParts}
use Rattle.ppm_code.specs.Locations.{Where, same_frame_word, code_locations}
use Rattle.ppm_code.specs.Strands.{Result, Gave, Trapped, Point, is_trap, opens, kept, resume}
use Rattle.ppm_filled.specs.Racing.{OwnWord, OfFrame, OfBlock, OfEnd, EndWord, OfTrap, OfCall, OfFork, own_words, At, Exit, Of, racing, dropping}
use Rattle.ppm_filled.specs.Racing.{opening, rejoining, frame_words_in, block_in}
use Rattle.ppm_filled.specs.Alone.{end_alone, own_alone, words_alone, AreThose, LeavesThose, code_frame, strand_in, tree_in, RacingCodeIsOfTheCode}

module _ (m : Memory Where) (own : Memory OwnWord) (a : Words) (those : AreThose m own a) (v : ℕ) where
  frame_stored : (k : FrameWord) → AreThose (store code_locations m (Own k) v) (store own_words own (OfFrame k) v) a
  frame_stored k = record {
    frame = λ j. ap (λ (w : ℕ). cond (same_frame_word j k) v w) (those.frame j);
    block = λ n. those.block n;
    shared = λ x. those.shared x;
  }

  block_stored : (n : ℕ) → AreThose (store code_locations m (New n) v) (store own_words own (OfBlock n) v) a
  block_stored n = record {
    frame = λ k. those.frame k;
    block = λ j. ap (λ (w : ℕ). cond (j == n) v w) (those.block j);
    shared = λ x. those.shared x;
  }

  shared_stored : (x : ℕ) → AreThose (store code_locations m (Shared x) v) own (put a x v)
  shared_stored x = record {
    frame = λ k. those.frame k;
    block = λ n. those.block n;
    shared = λ y. ap (λ (w : ℕ). cond (y == x) v w) (those.shared y);
  }

-- what an end keeps as one word is neither of the frame nor of the block
end_kept : (m : Memory Where) (own : Memory OwnWord) (a : Words) (b : EndWord) → AreThose m own a → AreThose m (store own_words own (OfEnd b) 1) a
end_kept m own a b those = record { frame = λ k. those.frame k; block = λ n. those.block n; shared = λ x. those.shared x }

dropped_ends : (xs : List OwnWord) (e : Exit) (own : Memory OwnWord) (a : Words) → end_alone (dropping xs (Stops e)) own a ≡ e
dropped_ends [] e own a = refl
dropped_ends (x ∷ xs) e own a = dropped_ends xs e (store own_words own x 0) a

dropped_words : (xs : List OwnWord) (e : Exit) (own : Memory OwnWord) (a : Words) (x : ℕ) → words_alone (dropping xs (Stops e)) own a x ≡ a x
dropped_words [] e own a y = refl
dropped_words (x ∷ xs) e own a y = dropped_words xs e (store own_words own x 0) a y

-- what is left of a capsule of the model, and of one of the code
record ComesAlike (r : Racing OwnWord Exit) (c : Capsule Where End) (m : Memory Where) (own : Memory OwnWord) (a : Words) : Type 0 where
  ends : end_alone r own a ≡ Of (ending code_locations c m)
  left : LeavesThose (ending code_locations c m) (leaves code_locations c m) (own_alone r own a) (words_alone r own a)

module _ (block : List OwnWord) where
  -- both go on by one word
  found : (go : ℕ → Capsule Where End) (u v : ℕ) (m : Memory Where) (own : Memory OwnWord) (a : Words) → u ≡ v
      → ComesAlike (racing block (go v)) (go v) m own a → ComesAlike (racing block (go u)) (go v) m own a
  found go u v m own a e same = subst (λ (w : ℕ). ComesAlike (racing block (go w)) (go v) m own a) (sym e) same

  same_end : (e : End) (m : Memory Where) (own : Memory OwnWord) (a : Words) → AreThose m own a → ComesAlike (racing block (Ends e)) (Ends e) m own a
  same_end (Next k) m own a those = record { ends = refl; left = those }
  same_end Finish m own a those = record { ends = refl; left = those }
  same_end (Trap t l) m own a those = record {
    ends = dropped_ends block (Of (Trap t l)) (store own_words own (OfEnd OfTrap) 1) a;
    left = λ x. dropped_words block (Of (Trap t l)) (store own_words own (OfEnd OfTrap) 1) a x ∙ those.shared x;
  }
  same_end (Call p k to) m own a those = record { ends = refl; left = end_kept m own a (OfCall p) those }
  same_end (Fork p q k lt rt) m own a those = record { ends = refl; left = end_kept m own a (OfFork p q) those }

  same : (c : Capsule Where End) (m : Memory Where) (own : Memory OwnWord) (a : Words) → AreThose m own a → ComesAlike (racing block c) c m own a
  same (Reads (Own k) go) m own a those =
      let h = found go (own (OfFrame k)) (m (Own k)) m own a (those.frame k) (same (go (m (Own k))) m own a those) in
      record { ends = h.ends; left = h.left }
  same (Reads (New n) go) m own a those =
      let h = found go (own (OfBlock n)) (m (New n)) m own a (those.block n) (same (go (m (New n))) m own a those) in
      record { ends = h.ends; left = h.left }
  same (Reads (Shared x) go) m own a those =
      let h = found go (a x) (m (Shared x)) m own a (those.shared x) (same (go (m (Shared x))) m own a those) in
      record { ends = h.ends; left = h.left }
  same (Writes (Own k) v go) m own a those =
      let h = same go (store code_locations m (Own k) v) (store own_words own (OfFrame k) v) a (frame_stored m own a those v k) in
      record { ends = h.ends; left = h.left }
  same (Writes (New n) v go) m own a those =
      let h = same go (store code_locations m (New n) v) (store own_words own (OfBlock n) v) a (block_stored m own a those v n) in
      record { ends = h.ends; left = h.left }
  same (Writes (Shared x) v go) m own a those =
      let h = same go (store code_locations m (Shared x) v) own (put a x v) (shared_stored m own a those v x) in
      record { ends = h.ends; left = h.left }
  same (Asks n go) m own a those = let h = same go m own a those in record { ends = h.ends; left = h.left }
  same (Ends e) m own a those = same_end e m own a those

ends_alike : (code : CodeParts) (e : End) (own : Memory OwnWord) → tree_in (opening code e own) ≡ opens code e (frame_words_in own) (block_in own)
ends_alike code (Next k) own = refl
ends_alike code Finish own = refl
ends_alike code (Trap t l) own = refl
ends_alike code (Call p k to) own = refl
ends_alike code (Fork p q k lt rt) own = refl

calls_alike : (code : CodeParts) (own : Memory OwnWord) (point : Point) (result : Result)
    → strand_in (rejoining code own (At point) (result ∷ [])) ≡ resume (code_frame own point) result
calls_alike code own point (Gave v) = refl
calls_alike code own point (Trapped t l) = refl

forks_alike : (code : CodeParts) (own : Memory OwnWord) (point : Point) (left right : Result)
    → strand_in (rejoining code own (At point) (left ∷ right ∷ [])) ≡ resume (kept (code_frame own point) left) (cond (is_trap left) left right)
forks_alike code own point (Trapped t l) right = refl
forks_alike code own point (Gave v) (Gave w) = refl
forks_alike code own point (Gave v) (Trapped t l) = refl

pub is_of_the_code : RacingCodeIsOfTheCode
is_of_the_code = record {
  capsules = λ block c m own a those. let h = same block c m own a those in record { ends = h.ends; left = h.left };
  ends = ends_alike;
  calls = calls_alike;
  forks = forks_alike;
}
