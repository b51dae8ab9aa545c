-- What ends open, and how frames go on, by the words that are shown.
use Rattle.std.proofs.Common.{◌≡◌, ◌∙◌, ℕ, List, [], ◌∷◌, get_or, refl, sym, ap, subst, Option, Some, None}
use Rattle.ppm_strands.specs.Capsule.{Memory, store}
use Rattle.ppm_code.specs.declared.code.CodeParts.{CodeParts}
use Rattle.ppm_code.specs.declared.location.FrameWord.{FrameWord}
use Rattle.ppm_code.specs.declared.location.FrameWord.TheVariants.{Slot, Value}
use Rattle.ppm_code.specs.Strands.{Gave, Trapped, at_capsule, with_value}
use Rattle.ppm_depth.specs.declared.frame.Finish.{Finish}
use Rattle.ppm_depth.specs.declared.frame.Finish.TheVariants as finish
use Rattle.ppm_filled.specs.Racing.{OwnWord, OfFrame, own_words, At, HasTrapped, framed, frame_words_in, standing, rejoining}
use Rattle.ppm_interleaving.specs.declared.own.Own.{Own}
use Rattle.ppm_interleaving.specs.declared.running.Running.{Running}
use Rattle.ppm_interleaving.specs.declared.strand.Branches.TheVariants.{Callee, Both}
use Rattle.ppm_interleaving.specs.declared.strand.Strand.{Strand}
use Rattle.ppm_interleaving.specs.declared.strand.Strand.TheVariants.{Running as IsRunning, Waiting as IsWaiting, Tells, Over}
use Rattle.ppm_interleaving.specs.Owns.{ShowsOwn, frame_word_in}
use Rattle.ppm_interleaving.specs.Steps.{IsBegun, BeginsFrame, GoesOnAs, point_by, result_of}

-- a frame that stands at a capsule begins
pub begins_standing : (capsule : ℕ) (own : Own) (r : Running) (words : FrameWord → ℕ) → IsBegun capsule own r → ShowsOwn own (framed words)
    → BeginsFrame r (standing words (at_capsule capsule))
begins_standing capsule own r words b shows = record {
  begun = record { capsule = refl; at = b.at; registers = b.registers; own = refl; settled = b.settled; since = b.since };
  point = ap (λ (n : ℕ). At (at_capsule n)) (sym b.capsule);
  own = subst (λ (x : Own). ShowsOwn x (framed words)) (sym b.own) shows;
}

-- without the block
pub frame_alone : (old new : Own) (o : Memory OwnWord) → new.slots.items ≡ old.slots.items → new.value ≡ old.value → new.block.items ≡ []
    → ShowsOwn old o → ShowsOwn new (framed (frame_words_in o))
frame_alone old new o slots value block shows = record { frame = by; block = λ n. ap (λ (ws : List ℕ). get_or ws n 0) (sym block) }
  where
    by : (k : FrameWord) → o (OfFrame k) ≡ frame_word_in new k
    by (Slot j) = shows.frame (Slot j) ∙ ap (λ (ws : List ℕ). get_or ws j 0) (sym slots)
    by Value = shows.frame Value ∙ sym value

-- a value in its slot
pub value_taken : (own : Own) (slot value : ℕ) (words : FrameWord → ℕ) → ShowsOwn own (store own_words (framed words) (OfFrame (Slot slot)) value)
    → ShowsOwn own (framed (with_value (Some slot) value words))
value_taken own slot value words shows = record { frame = λ k. shows.frame k; block = λ n. shows.block n }

pub none_taken : (own : Own) (value : ℕ) (words : FrameWord → ℕ) → ShowsOwn own (framed words) → ShowsOwn own (framed (with_value None value words))
none_taken own value words shows = record { frame = λ k. shows.frame k; block = λ n. shows.block n }

-- once the left branch gave a value, a frame goes on as after its right one alone
pub joins_right : (code : CodeParts) (o : Memory OwnWord) (capsule value : ℕ) (left_to to : Option ℕ) (right : Finish) (x : Strand)
    → GoesOnAs x (rejoining code (framed (with_value left_to value (frame_words_in o))) (At (point_by capsule (Callee to))) (result_of right ∷ []))
    → GoesOnAs x (rejoining code o (At (point_by capsule (Both left_to to))) (Gave value ∷ result_of right ∷ []))
joins_right code o capsule value left_to to (finish.Gave v) x h = h
joins_right code o capsule value left_to to (finish.Trapped trap line) (IsRunning r) h = absurd (apart h.point)
  where
    apart : HasTrapped (Trapped trap line) ≡ At (at_capsule r.capsule) → ⊥
    apart e = cc
joins_right code o capsule value left_to to (finish.Trapped trap line) (Tells f) h = h
joins_right code o capsule value left_to to (finish.Trapped trap line) (IsWaiting w) h = h
joins_right code o capsule value left_to to (finish.Trapped trap line) (Over f) h = h
