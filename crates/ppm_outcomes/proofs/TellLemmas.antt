-- The text of a state is never refused, and no other state is read from it.
use Rattle.std.proofs.Common.{◌≡◌, ◌≢◌, ◌≤◌, ℕ, List, [], refl}
use Rattle.ppm_words.specs.Limits.{turn_limit}
use Rattle.ppm_words.specs.declared.named_array.NamedArray.{NamedArray}
use Rattle.ppm_code.specs.declared.code.CodeParts.{CodeParts}
use Rattle.ppm_saved_reader.specs.Correct.{FaultsTellSavedTexts, IsRefusal, IsSavedText}
use Rattle.ppm_saved_reader.specs.declared.saved_error.Fault.TheVariants as fault
use Rattle.ppm_saved_reader.specs.declared.saved_error.SavedError.{SavedError}
use Rattle.ppm_saved_reader.specs.declared.saved_error.SavedError.TheVariants as errors
use Rattle.ppm_outcomes.specs.Legs.{worked_in_all, struck_in_all}
use Rattle.ppm_outcomes.specs.CodeResumes.{IsLeftByCode, IsTextLeftByCode}
use Rattle.ppm_outcomes.specs.Resumes.{SavedState, IsTextOf}

module _ (law : FaultsTellSavedTexts) (text : List ℕ) (z : SavedState) (is : IsSavedText text z.shape z.arrays z.code z.words) where
  never_refused : (e : SavedError) → e ≢ errors.NoMemory → IsRefusal text e → ⊥
  never_refused (errors.NoSuchForm line) some w = law.excludes text z.shape z.arrays z.code z.words fault.NoSuchForm line is w
  never_refused (errors.OutOfRange line) some w = law.excludes text z.shape z.arrays z.code z.words fault.OutOfRange line is w
  never_refused (errors.BadListing line) some w = law.excludes text z.shape z.arrays z.code z.words fault.BadListing line is w
  never_refused (errors.BadCode line) some w = law.excludes text z.shape z.arrays z.code z.words fault.BadCode line is w
  never_refused (errors.WrongCount line) some w = law.excludes text z.shape z.arrays z.code z.words fault.WrongCount line is w
  never_refused errors.NoMemory some w = some refl

  one_state : (y : SavedState) → IsTextOf text y → y ≡ z
  one_state y other =
      let k = law.one_state text y.shape z.shape y.arrays z.arrays y.code z.code y.words z.words other.saved is in
      λ i. record { shape = k.0 i; arrays = k.1 i; code = k.2 i; words = k.3 i }

  pub text_left : (code : CodeParts) (input : List NamedArray) (faults : ℕ) (left : IsLeftByCode code input z) → left.legs ≡ []
      → worked_in_all left.start left.legs left.turns ≤ turn_limit → struck_in_all left.start left.legs left.turns ≤ faults → z.shape.processors ≤ 64
      → IsTextLeftByCode code input faults text
  text_left code input faults left alone work struck small = record {
    state = z;
    is = record { short = law.short text z.shape z.arrays z.code z.words is; saved = is };
    accepted = λ r refused. never_refused refused.error refused.of_text refused.refused;
    one = one_state;
    by = left;
    alone = alone;
    work = work;
    struck = struck;
    small = small;
  }
