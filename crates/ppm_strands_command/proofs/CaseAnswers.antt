-- A text has one fault or one case, so its answer is that of its fault or one of its case.
use Rattle.std.proofs.Common.{◌≡◌, ◌⊎◌, ℕ, List, refl, sym, ◌∙◌, ap, ap₂, subst, inl, inr, arith, ◌<◌, ◌++◌, length, length-append}
use Rattle.ppm_words.specs.declared.named_array.NamedArray.{NamedArray}
use Rattle.ppm_case.specs.declared.case_error.CaseFault.{CaseFault}
use Rattle.ppm_case.specs.declared.case_error.CaseFault.TheVariants as fault
use Rattle.ppm_case.specs.declared.case_error.InputFault.TheVariants as input_fault
use Rattle.ppm_case.specs.Faults.{input_number}
use Rattle.ppm_case.specs.Rules.{case_limit}
use Rattle.ppm_listing_reader.specs.ErrorNumbers.{fault_number}
use Rattle.ppm_racy.specs.declared.code.RacyParts.{RacyParts}
use Rattle.ppm_racy_case.specs.Case.{IsRacyCaseOf}
use Rattle.ppm_racy_case.specs.Correct.{HasRacyCase, RacyFaultsTellCases}
use Rattle.ppm_racy_case.specs.Faults.{HasRacyCaseFault, TooLong}
use Rattle.ppm_answers.specs.declared.case.InputRefusal.{InputRefusal}
use Rattle.ppm_answers.specs.declared.conflict.ListingRefusal.{ListingRefusal}
use Rattle.ppm_answers.specs.declared.answer.Answer.{Answer}
use Rattle.ppm_answers.specs.declared.answer.Answer.TheVariants as answers
use Rattle.ppm_answers.specs.Reading.{AreOne, FrontsDecide, TextMay}
use Rattle.ppm_loading.specs.Cases.{refusal_of}
use Rattle.ppm_strands_command.specs.Cases.{HasOfCase, MayOf, RefusedHas, RefusesInput, RefusesListing}

-- refusals by their parts
input_path : (q r : InputRefusal) → q.number ≡ r.number → q.line ≡ r.line → q ≡ r
input_path q r number line = λ i. record { number = number i; line = line i }

listing_path : (q r : ListingRefusal) → q.number ≡ r.number → q.line ≡ r.line → q ≡ r
listing_path q r number line = λ i. record { number = number i; line = line i }

-- the answer is that of a fault of the text
record OfFault (text : List ℕ) (a : Answer) : Type 0 where
  pub rule : CaseFault
  pub line : ℕ
  pub has : HasRacyCaseFault text rule line
  pub is : a ≡ refusal_of rule line

-- that of a fault of its arrays, and of its listing
of_input : (text : List ℕ) (r : InputRefusal) → RefusesInput text r → OfFault text (answers.InputRefused r)
of_input text r h = record {
  rule = fault.OfInput h.fault;
  line = r.line;
  has = h.there;
  is = ap (λ x. answers.InputRefused x) (input_path r (record { number = input_number h.fault; line = r.line }) h.number_is refl);
}

of_listing : (text : List ℕ) (r : ListingRefusal) → RefusesListing text r → OfFault text (answers.ListingRefused r)
of_listing text r h = record {
  rule = fault.OfListing h.fault;
  line = r.line;
  has = h.there;
  is = ap (λ x. answers.ListingRefused x) (listing_path r (record { number = fault_number h.fault; line = r.line }) h.number_is refl);
}

module _ (Of : RacyParts → List NamedArray → Answer → Type 0) where
  -- it is an answer of the case of the text
  abbrev OfIts : List ℕ → Answer → Type 0
  OfIts text a = (c : HasRacyCase text) × Of c.code c.input a

  -- each answer is one or the other
  by_parts : (text : List ℕ) (a : Answer) → HasOfCase Of text a → OfFault text a ⊎ OfIts text a
  by_parts text (answers.InputRefused r) h = inl (of_input text r h)
  by_parts text (answers.ListingRefused r) h = inl (of_listing text r h)
  by_parts text a h = inr h

  -- what is answered of a text that is of no case
  pub refused_has : (text : List ℕ) (a : Answer) → TextMay RefusedHas text a → TextMay (HasOfCase Of) text a
  refused_has text answers.NoMemory h = h
  refused_has text (answers.InputRefused r) h = h
  refused_has text (answers.ListingRefused r) h = h
  refused_has text a h = absurd h.1

  -- the answer of a case
  pub case_has : ((code : RacyParts) (input : List NamedArray) (r : InputRefusal) → ¬ Of code input (answers.InputRefused r))
      → ((code : RacyParts) (input : List NamedArray) (r : ListingRefusal) → ¬ Of code input (answers.ListingRefused r))
      → (text : List ℕ) (code : RacyParts) (input : List NamedArray) (a : Answer) → IsRacyCaseOf text code input → MayOf Of code input a
      → TextMay (HasOfCase Of) text a
  case_has no_input no_listing text code input answers.NoMemory is h = tt
  case_has no_input no_listing text code input (answers.InputRefused r) is h = absurd (no_input code input r h)
  case_has no_input no_listing text code input (answers.ListingRefused r) is h = absurd (no_listing code input r h)
  case_has no_input no_listing text code input a is h = (record { code = code; input = input; is = is }, h)

  module _ (law : RacyFaultsTellCases) where
    -- two faults of a text are one
    one_fault : (text : List ℕ) (a b : Answer) → OfFault text a → OfFault text b → a ≡ b
    one_fault text a b f g =
        let same = law.one_fault text f.rule g.rule f.line g.line f.has g.has in
        f.is ∙ ap₂ refusal_of same.0 same.1 ∙ sym g.is

    -- a text of a case has none
    not_both : (text : List ℕ) (a : Answer) → HasRacyCase text → OfFault text a → ⊥
    not_both text a c f = law.excludes text c.code c.input f.rule f.line c.is f.has

    -- two answers of a text are one, where those of a case are
    pub one : ((code : RacyParts) (input : List NamedArray) (a b : Answer) → Of code input a → Of code input b → a ≡ b) → AreOne (HasOfCase Of)
    one one_of text a b h k = go (by_parts text a h) (by_parts text b k)
      where
        go : OfFault text a ⊎ OfIts text a → OfFault text b ⊎ OfIts text b → a ≡ b
        go (inl f) (inl g) = one_fault text a b f g
        go (inl f) (inr d) = absurd (not_both text a d.0 f)
        go (inr c) (inl g) = absurd (not_both text b c.0 g)
        go (inr c) (inr d) =
            let same = law.one_case text c.0.code d.0.code c.0.input d.0.input c.0.is d.0.is in
            let at_code = subst (λ code. Of code c.0.input a) same.0 c.1 in
            one_of d.0.code d.0.input a b (subst (λ input. Of d.0.code input a) same.1 at_code) d.1

    -- a text that is too long has that fault alone, and so has each text that it is a front of
    too_long : (text rest : List ℕ) → case_limit < length text → (f : CaseFault) (line : ℕ) → HasRacyCaseFault text f line
        → HasRacyCaseFault (text ++ rest) f line
    too_long text rest long f line h =
        let more : case_limit < length (text ++ rest) = omega (arith, long, length-append text rest) in
        let same = law.one_fault text (fault.OfInput input_fault.TooMuch) f 1 line (TooLong long) h in
        subst (λ (g : CaseFault). HasRacyCaseFault (text ++ rest) g line) same.0
        (subst (λ (n : ℕ). HasRacyCaseFault (text ++ rest) (fault.OfInput input_fault.TooMuch) n) same.1 (TooLong more))

    -- it is of no case, so what stands after its limit changes no answer
    pub front : FrontsDecide case_limit (HasOfCase Of)
    front text rest (answers.InputRefused r) long h =
        record { fault = h.fault; there = too_long text rest long (fault.OfInput h.fault) r.line h.there; number_is = h.number_is }
    front text rest (answers.ListingRefused r) long h =
        record { fault = h.fault; there = too_long text rest long (fault.OfListing h.fault) r.line h.there; number_is = h.number_is }
    front text rest a long h = absurd (omega (arith, long, law.short text h.0.code h.0.input h.0.is))

-- the refusal for a fault is answered of a text that has it
pub refused_may : (text : List ℕ) (f : CaseFault) (line : ℕ) → HasRacyCaseFault text f line → TextMay RefusedHas text (refusal_of f line)
refused_may text (fault.OfInput f) line h = record { fault = f; there = h; number_is = refl }
refused_may text (fault.OfListing f) line h = record { fault = f; there = h; number_is = refl }

-- no text has a read fault
pub no_fault : (Of : RacyParts → List NamedArray → Answer → Type 0)
    → ((code : RacyParts) (input : List NamedArray) → ¬ Of code input answers.ReadFault) → (text : List ℕ) → ¬ HasOfCase Of text answers.ReadFault
no_fault Of none text h = none h.0.code h.0.input h.1

-- nor is any that a plan is refused
pub no_plan : (Of : RacyParts → List NamedArray → Answer → Type 0)
    → ((code : RacyParts) (input : List NamedArray) (number : ℕ) → ¬ Of code input (answers.PlanRefused number)) → (text : List ℕ) (number : ℕ)
    → ¬ HasOfCase Of text (answers.PlanRefused number)
no_plan Of none text number h = none h.0.code h.0.input number h.1
