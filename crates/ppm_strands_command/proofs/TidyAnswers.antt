-- A case has one answer where tidy codes have one.
use Rattle.std.proofs.Common.{◌≡◌, List, sym, ◌∙◌, ap, inl, inr}
use Rattle.ppm_words.specs.declared.named_array.NamedArray.{NamedArray}
use Rattle.ppm_racy.specs.declared.code.RacyParts.{RacyParts}
use Rattle.ppm_racy.specs.Code.{plain_code}
use Rattle.ppm_answers.specs.declared.answer.Answer.{Answer}
use Rattle.ppm_answers.specs.declared.answer.Answer.TheVariants as answers
use Rattle.ppm_loading.proofs.FirstStore.{none_told, one_told}
use Rattle.ppm_strands_command.specs.Cases.{OfTidy}

pub one_of : (Of : RacyParts → List NamedArray → Answer → Type 0) (code : RacyParts) (input : List NamedArray) (a b : Answer)
    → (Of code input a → Of code input b → a ≡ b) → OfTidy Of code input a → OfTidy Of code input b → a ≡ b
one_of Of code input a b law (inl h) (inl k) = law h.1 k.1
one_of Of code input a b law (inl h) (inr k) = absurd (none_told (plain_code code) input k.store k.is h.0)
one_of Of code input a b law (inr h) (inl k) = absurd (none_told (plain_code code) input h.store h.is k.0)
one_of Of code input a b law (inr h) (inr k) =
    h.tells ∙ ap (λ s. answers.Untidy s) (one_told (plain_code code) input h.store k.store h.is k.is) ∙ sym k.tells
