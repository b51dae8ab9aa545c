-- The locations of instructions, as those of the frames of a table of capsules.
use Rattle.std.proofs.Common.{◌≡◌, ℕ, Bool, true, false, ◌==◌, cond, refl, ap, subst}
use Rattle.std.proofs.lemmas.Bool.{eq-eqb, eqb-true}
use Rattle.ppm_strands.specs.Capsule.{Equality}
use Rattle.ppm_strands.specs.Equalities.{numbers, locations}
use Rattle.ppm_strands.specs.Strand.{Location, Own, New, Shared}
use Rattle.ppm_code.specs.declared.location.FrameWord.{FrameWord}
use Rattle.ppm_code.specs.declared.location.FrameWord.TheVariants.{Slot, Value}
use Rattle.ppm_code.specs.declared.location.Location.{Location as Named}
use Rattle.ppm_code.specs.declared.location.Location.TheVariants.{Frame, New as NewWord, Array}

-- where a capsule of code reads and writes: words of its frame, of the new block by their offset, array words
abbrev pub Where : Type 0
Where = Location FrameWord ℕ

-- the location that an instruction names
abbrev pub location_of : Named → Where
location_of (Frame word) = Own word
location_of (NewWord offset) = New offset
location_of (Array index) = Shared index

-- whether two words of a frame are one
abbrev pub same_frame_word : FrameWord → FrameWord → Bool
same_frame_word (Slot i) (Slot j) = i == j
same_frame_word Value Value = true
same_frame_word (Slot i) Value = false
same_frame_word Value (Slot j) = false

-- a test is not both
false_is_not_true : false ≡ true → ⊥
false_is_not_true h = subst (λ (b : Bool). cond b ⊥ (Unit {0})) h tt

pub frame_word_is_one : (k l : FrameWord) → same_frame_word k l ≡ true → k ≡ l
frame_word_is_one (Slot i) (Slot j) h = ap Slot (eqb-true i j h)
frame_word_is_one Value Value h = refl
frame_word_is_one (Slot i) Value h = absurd (false_is_not_true h)
frame_word_is_one Value (Slot j) h = absurd (false_is_not_true h)

pub frame_word_is_self : (k : FrameWord) → same_frame_word k k ≡ true
frame_word_is_self (Slot i) = eq-eqb i i refl
frame_word_is_self Value = refl

-- words of a frame are told apart so
abbrev pub frame_words : Equality FrameWord
frame_words = record { same = same_frame_word; is_one = frame_word_is_one; is_self = frame_word_is_self }

-- and locations
abbrev pub code_locations : Equality Where
code_locations = locations frame_words numbers
