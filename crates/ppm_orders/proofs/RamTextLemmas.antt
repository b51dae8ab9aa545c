-- The answers of texts by those of their RAMs.
use Rattle.std.proofs.Common.{◌≡◌, ◌⊎◌, ◌<◌, ℕ, Bool, if◌then◌else◌, List, ◌++◌, length, length-append, Result, Ok, Err, refl, sym, ap, ◌∙◌, subst, inl, inr, arith}
use Rattle.std.proofs.lemmas.Bool.{lt-ltb}
use Rattle.ppm_pieces.specs.Pieces.{split}
use Rattle.ppm_ports.specs.Ports.{Port}
use Rattle.ppm_ram.specs.Correct.{TextsAreOfRams}
use Rattle.ppm_ram.specs.declared.ram.RamParts.{RamParts}
use Rattle.ppm_ram.specs.declared.ram_error.RamFault.{RamFault}
use Rattle.ppm_ram.specs.declared.ram_error.RamFault.TheVariants.{NoSuchForm}
use Rattle.ppm_ram.specs.Limits.{text_limit}
use Rattle.ppm_ram.specs.Lines.{Fault, line_then, ram_in, with_head}
use Rattle.ppm_ram.specs.Text.{IsTextOf}
use Rattle.ppm_answers.specs.declared.refusal.Refusal.{Refusal}
use Rattle.ppm_answers.specs.declared.answer.Answer.{Answer}
use Rattle.ppm_answers.specs.declared.answer.Answer.TheVariants as answers
use Rattle.ppm_answers.specs.Reading.{Reads, JudgingMay, TextMay, AreOne, FrontsDecide}
use Rattle.ppm_loading.proofs.ProgramLemmas.{AreKinds}
use Rattle.ppm_orders.specs.Rams.{OfRam, OfText, RefusedHas, RefusesRam, ram_refusal}

-- what a text says is one RAM or one fault
pub one_ram : (v : Result RamParts Fault) (r s : RamParts) → v ≡ Ok r → v ≡ Ok s → s ≡ r
one_ram v r s e f = cc

one_fault : (v : Result RamParts Fault) (f g : Fault) → v ≡ Err f → v ≡ Err g → f ≡ g
one_fault v f g e h = cc

pub not_both : (v : Result RamParts Fault) (r : RamParts) (f : Fault) → v ≡ Ok r → v ≡ Err f → ⊥
not_both v r f e h = cc

pub said : TextsAreOfRams → (text : List ℕ) (ram : RamParts) → IsTextOf text ram → ram_in text ≡ Ok ram
said texts text ram is = (texts text ram).1 is

-- a text that is too long has the fault that it is
too_long : (text : List ℕ) → text_limit < length text → ram_in text ≡ Err (NoSuchForm, 1)
too_long text long =
    ap (λ (b : Bool). if b then Err (NoSuchForm, 1) else line_then 1 with_head (split 10 text)) (lt-ltb text_limit (length text) long)

-- the refusal for its first fault may be the answer of a text
pub refused_may : (text : List ℕ) (rule : RamFault) (line : ℕ) → ram_in text ≡ Err (rule, line)
    → TextMay RefusedHas text (answers.SourceRefused (ram_refusal (rule, line)))
refused_may text rule line there = record { fault = (rule, line); there = there; same = refl }

front_refused : (text rest : List ℕ) (r : Refusal) → text_limit < length text → RefusesRam text r → RefusesRam (text ++ rest) r
front_refused text rest r long h =
    let longer : text_limit < length (text ++ rest) = omega (arith, length-append text rest, long) in
    record { fault = h.fault; there = too_long (text ++ rest) longer ∙ sym (too_long text long) ∙ h.there; same = h.same }

module _ (Has : RamParts → Answer → Type 0) where
  -- the answer is that of the text's RAM, or a refusal of it
  abbrev IsRams : List ℕ → Answer → Type 0
  IsRams text a = OfRam text (λ ram. Has ram a)

  abbrev IsRefusals : List ℕ → Answer → Type 0
  IsRefusals text a = (r : Refusal) × RefusesRam text r × (a ≡ answers.SourceRefused r)

  by_text : (text : List ℕ) (a : Answer) → OfText Has text a → IsRams text a ⊎ IsRefusals text a
  by_text text (answers.SourceRefused r) h = inr (r, h, refl)
  by_text text a h = inl h

  module _ (texts : TextsAreOfRams) where
    -- where RAMs have one answer, texts have
    pub text_one : ((ram : RamParts) (a b : Answer) → Has ram a → Has ram b → a ≡ b) → AreOne (OfText Has)
    text_one one text a b h k = go (by_text text a h) (by_text text b k)
      where
        go : IsRams text a ⊎ IsRefusals text a → IsRams text b ⊎ IsRefusals text b → a ≡ b
        go (inl c) (inl d) =
            let same : d.ram ≡ c.ram = one_ram (ram_in text) c.ram d.ram (said texts text c.ram c.is) (said texts text d.ram d.is) in
            one c.ram a b c.has (subst (λ (ram : RamParts). Has ram b) same d.has)
        go (inl c) (inr (r, d, f)) = absurd (not_both (ram_in text) c.ram d.fault (said texts text c.ram c.is) d.there)
        go (inr (r, c, e)) (inl d) = absurd (not_both (ram_in text) d.ram c.fault (said texts text d.ram d.is) c.there)
        go (inr (r, c, e)) (inr (s, d, f)) =
            let same : c.fault ≡ d.fault = one_fault (ram_in text) c.fault d.fault c.there d.there in
            e ∙ ap (λ (x : Refusal). answers.SourceRefused x) (c.same ∙ ap (λ (x : Fault). ram_refusal x) same ∙ sym d.same) ∙ sym f

    -- where a text has a fault, its answer is that refusal
    pub fault_told : (text : List ℕ) (f : Fault) → ram_in text ≡ Err f → (a : Answer) → OfText Has text a
        → a ≡ answers.SourceRefused (ram_refusal f)
    fault_told text f e a h = go (by_text text a h)
      where
        go : IsRams text a ⊎ IsRefusals text a → a ≡ answers.SourceRefused (ram_refusal f)
        go (inl c) = absurd (not_both (ram_in text) c.ram f (said texts text c.ram c.is) e)
        go (inr (r, c, same)) =
            same ∙ ap (λ (x : Refusal). answers.SourceRefused x)
            (c.same ∙ ap (λ (x : Fault). ram_refusal x) (one_fault (ram_in text) c.fault f c.there e))

  -- a text that is too long is of no RAM, so its answer is a refusal, which its front has as well
  pub text_front : FrontsDecide text_limit (OfText Has)
  text_front text rest a long h = go (by_text text a h)
    where
      go : IsRams text a ⊎ IsRefusals text a → OfText Has (text ++ rest) a
      go (inl c) = let short = c.is.short in absurd (omega (arith, long, short))
      go (inr (r, c, e)) = subst (OfText Has (text ++ rest)) (sym e) (front_refused text rest r long c)

  module _ {Is : Answer → Type 0} (kinds : AreKinds Is) (of_ram : (ram : RamParts) (a : Answer) → Has ram a → Is a) where
    -- none is that a plan is refused
    pub plain : (text : List ℕ) (number : ℕ) → ¬ OfText Has text (answers.PlanRefused number)
    plain text number h = kinds.no_plan number (of_ram h.ram (answers.PlanRefused number) h.has)

    module _ (source : Port) (text : List ℕ) (read : Reads text_limit source text) (ram : RamParts) (is : IsTextOf text ram) where
      -- an answer of the RAM that was read may be given
      pub ram_may : (a : Answer) → Has ram a → JudgingMay text_limit (OfText Has) source a
      ram_may answers.ReadFault h = absurd (kinds.no_fault (of_ram ram answers.ReadFault h))
      ram_may answers.NoMemory h = absurd (kinds.no_memory (of_ram ram answers.NoMemory h))
      ram_may (answers.SourceRefused r) h = absurd (kinds.no_refusal r (of_ram ram (answers.SourceRefused r) h))
      ram_may a h = (text, read, record { ram = ram; is = is; has = h })

      -- or want of memory
      pub wants_may : JudgingMay text_limit (OfText Has) source answers.NoMemory
      wants_may = ((text, read.whole.most, read.whole.front), read.holds)

-- no text has a read fault
pub no_fault : (text : List ℕ) → ¬ RefusedHas text answers.ReadFault
no_fault text h = h.has
