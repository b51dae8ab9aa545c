-- A saved text has one answer where it goes on by a schedule.
use Rattle.std.proofs.Common.{◌≡◌, ◌≢◌, ◌⊎◌, ◌<◌, ℕ, List, length, get_or, None, inl, inr, refl, sym, ap, ◌∙◌, subst}
use Rattle.std.proofs.lemmas.List.{ext_get_or}
use Rattle.ppm_cells.specs.Cells.{word_count, address, IsCell}
use Rattle.ppm_cells.specs.Finish.{finish_of}
use Rattle.ppm_cells.specs.declared.cell.Cell.{Cell}
use Rattle.ppm_cells.specs.declared.shape.Shape.{Shape}
use Rattle.ppm_cells.proofs.CellLemmas.{all}
use Rattle.ppm_core.specs.Situation.{Situation, loaded}
use Rattle.ppm_plan.specs.declared.schedule_item.ScheduleItem.{ScheduleItem}
use Rattle.ppm_plan.specs.Correct.{HasOneAnswer}
use Rattle.ppm_plan.specs.Forms.{schedule_form}
use Rattle.ppm_plan.specs.Refusals.{number_of as plan_number}
use Rattle.ppm_step.specs.Standings.{unknown_place}
use Rattle.ppm_saved.specs.Names.{lengths_of}
use Rattle.ppm_saved.specs.Renewal.{AreRenewed}
use Rattle.ppm_saved_reader.specs.Correct.{FaultsTellSavedTexts, IsRefusal, IsWrongAt}
use Rattle.ppm_saved_reader.specs.ErrorNumbers.{line_of, number_of, refusal_at}
use Rattle.ppm_saved_reader.specs.declared.saved_error.Fault.{Fault}
use Rattle.ppm_saved_reader.specs.declared.saved_error.Fault.TheVariants as fault
use Rattle.ppm_saved_reader.specs.declared.saved_error.SavedError.{SavedError}
use Rattle.ppm_saved_reader.specs.declared.saved_error.SavedError.TheVariants as errors
use Rattle.ppm_answers.specs.declared.answer.Answer.{Answer}
use Rattle.ppm_answers.specs.declared.answer.Answer.TheVariants as answers
use Rattle.ppm_answers.specs.declared.saved.SavedRefusal.{SavedRefusal}
use Rattle.ppm_answers.specs.Reading.{AreOne}
use Rattle.ppm_loading.specs.Planned.{IsRefusedBy}
use Rattle.ppm_outcomes.specs.Resumes.{SavedState, saved_finish, GoesOnFrom, IsNoText, IsTextOf, OfState}
use Rattle.ppm_legs.specs.SavedTexts.{ByItems, IsBroken, ItemsHave, StateHas, TextHas}

-- ---- what fresh processors find

-- in two lists of words that are renewed each word is that of a cell, so they are one
same_words : (s : Shape) (saved a b : List ℕ) → AreRenewed s saved a → AreRenewed s saved b → a ≡ b
same_words s saved a b p q =
    ext_get_or 0 a b (p.fit ∙ sym q.fit) (λ at h. same at (all s at (subst (λ (n : ℕ). at < n) p.fit h)))
  where
    same : (at : ℕ) → (c : Cell) × IsCell s c × (address s c ≡ at) → get_or a at 0 ≡ get_or b at 0
    same at found =
        ap (λ n. get_or a n 0) (sym found.2) ∙ p.cells found.0 found.1 ∙ sym (q.cells found.0 found.1) ∙ ap (λ n. get_or b n 0) found.2

-- and one machine goes on from a state
pub one_start : (z : SavedState) (m n : Situation) → GoesOnFrom z m → GoesOnFrom z n → m ≡ n
one_start z m n p q =
    p.loads ∙ ap (loaded z.shape z.code (lengths_of z.arrays)) (same_words z.shape z.words p.words q.words p.renewed q.renewed) ∙ sym q.loads

-- ---- faults of texts

-- the fault of a refusal
record FaultOf (text : List ℕ) (e : SavedError) : Type 0 where
  fault : Fault
  line : ℕ
  wrong : IsWrongAt text fault line
  is : e ≡ refusal_at fault line

fault_of : (text : List ℕ) (e : SavedError) → e ≢ errors.NoMemory → IsRefusal text e → FaultOf text e
fault_of text (errors.NoSuchForm line) some w = record { fault = fault.NoSuchForm; line = line; wrong = w; is = refl }
fault_of text (errors.OutOfRange line) some w = record { fault = fault.OutOfRange; line = line; wrong = w; is = refl }
fault_of text (errors.BadListing line) some w = record { fault = fault.BadListing; line = line; wrong = w; is = refl }
fault_of text (errors.BadCode line) some w = record { fault = fault.BadCode; line = line; wrong = w; is = refl }
fault_of text (errors.WrongCount line) some w = record { fault = fault.WrongCount; line = line; wrong = w; is = refl }
fault_of text errors.NoMemory some w = absurd (some refl)

module _ (tell : FaultsTellSavedTexts) (text : List ℕ) where
  -- a text has one fault,
  one_fault : (r q : SavedRefusal) → IsNoText text r → IsNoText text q → r ≡ q
  one_fault r q h k =
      let f = fault_of text h.error h.of_text h.refused in
      let g = fault_of text k.error k.of_text k.refused in
      let same = tell.one text f.fault g.fault f.line g.line f.wrong g.wrong in
      let errors_same : h.error ≡ k.error = f.is ∙ (λ i. refusal_at (same.0 i) (same.1 i)) ∙ sym g.is in
      let numbers : r.number ≡ q.number = h.number_is ∙ ap number_of errors_same ∙ sym k.number_is in
      let lines : r.line ≡ q.line = h.line_is ∙ ap line_of errors_same ∙ sym k.line_is in
      λ i. record { number = numbers i; line = lines i }

  -- or it is that of a state,
  pub never_refused : (z : SavedState) → IsTextOf text z → (r : SavedRefusal) → ¬ IsNoText text r
  never_refused z is r h =
      let f = fault_of text h.error h.of_text h.refused in
      tell.excludes text z.shape z.arrays z.code z.words f.fault f.line is.saved f.wrong

  -- and of one
  pub one_state : (y z : SavedState) → IsTextOf text y → IsTextOf text z → y ≡ z
  one_state y z p q =
      let k = tell.one_state text y.shape z.shape y.arrays z.arrays y.code z.code y.words z.words p.saved q.saved in
      λ i. record { shape = k.0 i; arrays = k.1 i; code = k.2 i; words = k.3 i }

-- ---- answers

module _ (tell : FaultsTellSavedTexts) (plans : HasOneAnswer schedule_form) (Has : List ScheduleItem → SavedState → Answer → Type 0)
    (stands : (items : List ScheduleItem) (z : SavedState) (a : Answer) → Has items z a → finish_of (saved_finish z) ≢ None)
    (one : (items : List ScheduleItem) (z : SavedState) (a b : Answer) → Has items z a → Has items z b → a ≡ b) where
  -- an answer by items is that the words are broken, or one of these
  items_kind : (items : List ScheduleItem) (z : SavedState) (a : Answer) → ItemsHave Has items z a
      → (IsBroken z × (a ≡ answers.Broken unknown_place)) ⊎ Has items z a
  items_kind items z (answers.Broken place) (inl h) = inl (h.0, ap (λ n. answers.Broken n) h.1)
  items_kind items z (answers.Broken place) (inr h) = inr h
  items_kind items z a h = inr h

  items_one : (items : List ScheduleItem) (z : SavedState) (a b : Answer) → ItemsHave Has items z a → ItemsHave Has items z b → a ≡ b
  items_one items z a b h k = go (items_kind items z a h) (items_kind items z b k)
    where
      go : (IsBroken z × (a ≡ answers.Broken unknown_place)) ⊎ Has items z a → (IsBroken z × (b ≡ answers.Broken unknown_place)) ⊎ Has items z b
          → a ≡ b
      go (inl p) (inl q) = p.1 ∙ sym q.1
      go (inl p) (inr q) = absurd (stands items z b q p.0)
      go (inr p) (inl q) = absurd (stands items z a p q.0)
      go (inr p) (inr q) = one items z a b p q

  module _ (schedule : List ℕ) where
    abbrev Refused : SavedState → ℕ → Type 0
    Refused z number = IsRefusedBy schedule_form schedule z.shape.processors number

    abbrev Items : SavedState → Answer → Type 0
    Items z a = ByItems schedule (λ items z. ItemsHave Has items z a) z

    -- one of a state is that the schedule is refused, or one by items
    state_kind : (z : SavedState) (a : Answer) → StateHas Has schedule z a
        → ((number : ℕ) × Refused z number × (a ≡ answers.PlanRefused number)) ⊎ Items z a
    state_kind z (answers.PlanRefused number) h = inl (number, h, refl)
    state_kind z a h = inr h

    state_one : (z : SavedState) (a b : Answer) → StateHas Has schedule z a → StateHas Has schedule z b → a ≡ b
    state_one z a b h k = go (state_kind z a h) (state_kind z b k)
      where
        go : ((number : ℕ) × Refused z number × (a ≡ answers.PlanRefused number)) ⊎ Items z a
            → ((number : ℕ) × Refused z number × (b ≡ answers.PlanRefused number)) ⊎ Items z b → a ≡ b
        go (inl (n, r, e)) (inl (m, s, f)) =
            let same = plans.refusals schedule z.shape.processors r.error s.error r.of_text s.of_text r.refused s.refused in
            e ∙ ap (λ x. answers.PlanRefused x) (r.number_is ∙ ap plan_number same ∙ sym s.number_is) ∙ sym f
        go (inl (n, r, e)) (inr i) = absurd (plans.apart schedule z.shape.processors i.items r.error r.of_text i.accepted r.refused)
        go (inr i) (inl (m, s, f)) = absurd (plans.apart schedule z.shape.processors i.items s.error s.of_text i.accepted s.refused)
        go (inr i) (inr j) =
            let same : j.items ≡ i.items = plans.items schedule j.items i.items j.accepted.has i.accepted.has in
            items_one i.items z a b i.has (subst (λ (x : List ScheduleItem). ItemsHave Has x z b) same j.has)

    -- one of a text is that it is refused, or one of its state
    text_kind : (text : List ℕ) (a : Answer) → TextHas Has schedule text a
        → ((r : SavedRefusal) × IsNoText text r × (a ≡ answers.SavedRefused r)) ⊎ OfState (λ z. StateHas Has schedule z a) text
    text_kind text (answers.SavedRefused r) h = inl (r, h, refl)
    text_kind text a h = inr h

    pub text_one : AreOne (TextHas Has schedule)
    text_one text a b h k = go (text_kind text a h) (text_kind text b k)
      where
        go : ((r : SavedRefusal) × IsNoText text r × (a ≡ answers.SavedRefused r)) ⊎ OfState (λ z. StateHas Has schedule z a) text
            → ((r : SavedRefusal) × IsNoText text r × (b ≡ answers.SavedRefused r)) ⊎ OfState (λ z. StateHas Has schedule z b) text → a ≡ b
        go (inl (r, h, e)) (inl (q, k, f)) = e ∙ ap (λ x. answers.SavedRefused x) (one_fault tell text r q h k) ∙ sym f
        go (inl (r, h, e)) (inr s) = absurd (never_refused tell text s.state s.is r h)
        go (inr s) (inl (q, k, f)) = absurd (never_refused tell text s.state s.is q k)
        go (inr s) (inr t) =
            let same : t.state ≡ s.state = one_state tell text t.state s.state t.is s.is in
            state_one s.state a b s.has (subst (λ (z : SavedState). StateHas Has schedule z b) same t.has)
