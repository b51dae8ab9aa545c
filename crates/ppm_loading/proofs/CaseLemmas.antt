-- The answers of texts by those of their cases.
use Rattle.std.proofs.Common.{◌≡◌, ◌⊎◌, ◌<◌, ◌≤◌, ℕ, List, [], ◌∷◌, ◌++◌, length, refl, sym, ap, ◌∙◌, subst, inl, inr, arith}
use Rattle.ppm_words.specs.declared.named_array.NamedArray.{NamedArray}
use Rattle.ppm_code.specs.declared.code.CodeParts.{CodeParts}
use Rattle.ppm_ports.specs.Ports.{Port}
use Rattle.ppm_case.specs.Case.{IsCaseOf}
use Rattle.ppm_case.specs.Correct.{FaultsTellCases}
use Rattle.ppm_case.specs.Faults.{HasFault}
use Rattle.ppm_case.specs.Rules.{case_limit}
use Rattle.ppm_case.specs.declared.case_error.CaseFault.{CaseFault}
use Rattle.ppm_case.specs.declared.case_error.CaseFault.TheVariants.{OfInput, OfListing}
use Rattle.ppm_answers.specs.declared.case.InputRefusal.{InputRefusal}
use Rattle.ppm_answers.specs.declared.conflict.ListingRefusal.{ListingRefusal}
use Rattle.ppm_answers.specs.declared.answer.Answer.{Answer}
use Rattle.ppm_answers.specs.declared.answer.Answer.TheVariants as answers
use Rattle.ppm_answers.specs.Reading.{Reads, JudgingMay, TextMay, AreOne, FrontsDecide}
use Rattle.ppm_loading.specs.Cases.{TextHas, RefusedHas, OfCase, refusal_of}

-- the answers that cases have are of some kinds: none is a refusal, a read fault or want of memory
pub record AreCaseKinds (Is : Answer → Type 0) : Type 0 where
  pub no_input : (r : InputRefusal) → ¬ Is (answers.InputRefused r)
  pub no_listing : (r : ListingRefusal) → ¬ Is (answers.ListingRefused r)
  pub no_fault : ¬ Is answers.ReadFault
  pub no_memory : ¬ Is answers.NoMemory
  pub no_plan : (number : ℕ) → ¬ Is (answers.PlanRefused number)

-- the refusal for a fault is the answer of a text that has it
pub refused_has : (Has : CodeParts → List NamedArray → Answer → Type 0) (text : List ℕ) (f : CaseFault) (line : ℕ) → HasFault text f line
    → TextHas Has text (refusal_of f line)
refused_has Has text (OfInput f) line h = record { fault = f; there = h; number_is = refl }
refused_has Has text (OfListing f) line h = record { fault = f; there = h; number_is = refl }

pub refused_may : (text : List ℕ) (f : CaseFault) (line : ℕ) → HasFault text f line → TextMay RefusedHas text (refusal_of f line)
refused_may text (OfInput f) line h = record { fault = f; there = h; number_is = refl }
refused_may text (OfListing f) line h = record { fault = f; there = h; number_is = refl }

module _ (Has : CodeParts → List NamedArray → Answer → Type 0) where
  -- the answer is that of the text's case, or a refusal of it
  abbrev IsCases : List ℕ → Answer → Type 0
  IsCases text a = OfCase text (λ code input. Has code input a)

  pub record IsRefused (text : List ℕ) (a : Answer) : Type 0 where
    pub fault : CaseFault
    pub line : ℕ
    pub there : HasFault text fault line
    pub same : a ≡ refusal_of fault line

  by_text : (text : List ℕ) (a : Answer) → TextHas Has text a → IsCases text a ⊎ IsRefused text a
  by_text text (answers.InputRefused r) h = inr (record {
    fault = OfInput h.fault;
    line = r.line;
    there = h.there;
    same = ap (λ (n : ℕ). answers.InputRefused (record { number = n; line = r.line })) h.number_is;
  })
  by_text text (answers.ListingRefused r) h = inr (record {
    fault = OfListing h.fault;
    line = r.line;
    there = h.there;
    same = ap (λ (n : ℕ). answers.ListingRefused (record { number = n; line = r.line })) h.number_is;
  })
  by_text text a h = inl h

  module _ (texts : FaultsTellCases) where
    -- where codes on inputs have one answer, texts have
    pub text_one : ((code : CodeParts) (input : List NamedArray) (a b : Answer) → Has code input a → Has code input b → a ≡ b)
        → AreOne (TextHas Has)
    text_one one text a b h k = go (by_text text a h) (by_text text b k)
      where
        go : IsCases text a ⊎ IsRefused text a → IsCases text b ⊎ IsRefused text b → a ≡ b
        go (inl c) (inl d) =
            let same = texts.one_case text d.code c.code d.input c.input d.is c.is in
            one c.code c.input a b c.has
            (subst (λ (code : CodeParts). Has code c.input b) same.0 (subst (λ (l : List NamedArray). Has d.code l b) same.1 d.has))
        go (inl c) (inr r) = absurd (texts.excludes text c.code c.input r.fault r.line c.is r.there)
        go (inr r) (inl c) = absurd (texts.excludes text c.code c.input r.fault r.line c.is r.there)
        go (inr r) (inr s) =
            let same = texts.one_fault text r.fault s.fault r.line s.line r.there s.there in
            r.same ∙ ap (λ (f : CaseFault). refusal_of f r.line) same.0 ∙ ap (λ (n : ℕ). refusal_of s.fault n) same.1 ∙ sym s.same

    -- a text that is too long is of no case, so its answer is a refusal, which its front has as well
    pub text_front : FrontsDecide case_limit (TextHas Has)
    text_front text rest a long h = go (by_text text a h)
      where
        go : IsCases text a ⊎ IsRefused text a → TextHas Has (text ++ rest) a
        go (inl c) = let short = c.is.front.short in absurd (omega (arith, long, short))
        go (inr r) =
            subst (TextHas Has (text ++ rest)) (sym r.same)
            (refused_has Has (text ++ rest) r.fault r.line (texts.front text rest r.fault r.line long r.there))

  module _ {Is : Answer → Type 0} (kinds : AreCaseKinds Is)
      (of_code : (code : CodeParts) (input : List NamedArray) (a : Answer) → Has code input a → Is a) where
    -- none is that a plan is refused
    pub plain : (text : List ℕ) (number : ℕ) → ¬ TextHas Has text (answers.PlanRefused number)
    plain text number h = kinds.no_plan number (of_code h.code h.input (answers.PlanRefused number) h.has)

    -- an answer of a code on its input is one of its text
    pub of_text : (text : List ℕ) (code : CodeParts) (input : List NamedArray) → IsCaseOf text code input → (a : Answer) → Has code input a
        → TextHas Has text a
    of_text text code input is (answers.InputRefused r) h = absurd (kinds.no_input r (of_code code input (answers.InputRefused r) h))
    of_text text code input is (answers.ListingRefused r) h = absurd (kinds.no_listing r (of_code code input (answers.ListingRefused r) h))
    of_text text code input is a h = record { code = code; input = input; is = is; has = h }

    module _ (source : Port) (text : List ℕ) (read : Reads case_limit source text) (code : CodeParts) (input : List NamedArray)
        (is : IsCaseOf text code input) where
      -- that of the case that was read may be given
      pub case_may : (a : Answer) → Has code input a → JudgingMay case_limit (TextHas Has) source a
      case_may answers.ReadFault h = absurd (kinds.no_fault (of_code code input answers.ReadFault h))
      case_may answers.NoMemory h = absurd (kinds.no_memory (of_code code input answers.NoMemory h))
      case_may (answers.InputRefused r) h = absurd (kinds.no_input r (of_code code input (answers.InputRefused r) h))
      case_may (answers.ListingRefused r) h = absurd (kinds.no_listing r (of_code code input (answers.ListingRefused r) h))
      case_may a h = (text, read, record { code = code; input = input; is = is; has = h })

      -- or want of memory
      pub wants_may : JudgingMay case_limit (TextHas Has) source answers.NoMemory
      wants_may = ((text, read.whole.most, read.whole.front), read.holds)

  -- and what is answered where there is no case
  pub none_may : (source : Port) (a : Answer) → JudgingMay case_limit RefusedHas source a → JudgingMay case_limit (TextHas Has) source a
  none_may source answers.ReadFault h = h
  none_may source answers.NoMemory h = h
  none_may source (answers.InputRefused r) h = h
  none_may source (answers.ListingRefused r) h = h
  none_may source a h = absurd h.2.has

-- no text has a read fault
pub no_fault : (text : List ℕ) → ¬ RefusedHas text answers.ReadFault
no_fault text h = h.has
