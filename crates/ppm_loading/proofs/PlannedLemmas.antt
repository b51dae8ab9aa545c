-- A command that has a plan or a schedule among its words: how its answers are delivered, and what follows.
use Rattle.std.proofs.Common.{◌≡◌, ◌≢◌, ◌⊎◌, ◌<◌, ℕ, List, [], ◌∷◌, ◌++◌, length, Some}
use Rattle.std.proofs.Common.{refl, sym, ap, ◌∙◌, subst, inl, inr}
use Rattle.ppm_ports.specs.Ports.{Port, Fails, Holds}
use Rattle.ppm_ports.specs.Outside.{ToldLists, Ports, Outside}
use Rattle.ppm_ports.specs.Whole.{ReadsTo}
use Rattle.ppm_plan.specs.declared.plan_error.PlanError.{PlanError}
use Rattle.ppm_plan.specs.declared.plan_error.PlanError.TheVariants.{BadItem, NoSuchProcessor, TooManyFaults, AllKilled, NoMemory}
use Rattle.ppm_plan.specs.Correct.{SomeAccepted, SomeRefused, HasOneAnswer as PlansHaveOneAnswer}
use Rattle.ppm_plan.specs.Forms.{Form}
use Rattle.ppm_plan.specs.Refusals.{IsAccepted, IsRefused, number_of}
use Rattle.ppm_answers.specs.declared.refusal.Refusal.{Refusal}
use Rattle.ppm_answers.specs.declared.answer.Answer.{Answer}
use Rattle.ppm_answers.specs.declared.answer.Answer.TheVariants as answers
use Rattle.ppm_answers.specs.declared.status.Status.{Status}
use Rattle.ppm_answers.specs.declared.status.Status.TheVariants as statuses
use Rattle.ppm_answers.specs.Texts.{IsFixed}
use Rattle.ppm_answers.specs.Statuses.{status_of}
use Rattle.ppm_answers.specs.Delivery.{IsWritten, Delivers}
use Rattle.ppm_answers.specs.Reading.{IsUnread, ReadHas, JudgingMay, AreOne, FrontsDecide, DeliversAnswer, Answers}
use Rattle.ppm_answers.specs.Rows.{IsOneOf, GoesWell, ReadOrRefused, PlannedRows}
use Rattle.ppm_answers.proofs.Delivered.{own_or_fault}
use Rattle.ppm_answers.proofs.RowsLemmas.{AreCauses, SaysOfPorts}
use Rattle.ppm_answers.proofs.RowsLemmas as rows_lemmas
use Rattle.ppm_answers.proofs.Judged as judged
use Rattle.ppm_answers.proofs.WholeText.{whole}
use Rattle.ppm_program.specs.Refusals.{IsRefusal}
use Rattle.ppm_loading.specs.Planned.{IsRefusedBy, HasByItems, PlannedHas, PlannedMay, HasSomeAnswer, refusal_of}

module _ {A : Type 0} (form : Form A) (plan : List ℕ) (processors : ℕ) (Has : List A → List ℕ → Answer → Type 0) (limit : ℕ) where
  -- no answer of a text by items is that a plan is refused
  abbrev pub IsSteady : Type 0
  IsSteady = (items : List A) (text : List ℕ) (number : ℕ) → ¬ Has items text (answers.PlanRefused number)

  -- a text that is not refused has one, by items that may be obeyed
  abbrev pub IsAnswered : Type 0
  IsAnswered = (items : List A) (text : List ℕ) → IsAccepted form plan processors items → ((r : Refusal) → ¬ IsRefusal text r)
      → (a : Answer) × Has items text a

  abbrev PH : List ℕ → Answer → Type 0
  PH text a = PlannedHas form plan processors Has text a

  abbrev May : Port → Answer → Type 0
  May source a = PlannedMay form plan processors Has limit source a

  abbrev Refused : ℕ → Type 0
  Refused number = IsRefusedBy form plan processors number

  -- an answer by items is one with the plan
  pub lifted : IsSteady → (text : List ℕ) (a : Answer) → HasByItems form plan processors Has text a → PH text a
  lifted plain text (answers.PlanRefused number) h = absurd (plain h.items text number h.has)
  lifted plain text a h = h

  -- and one with the plan is that the plan is refused, or one by items
  of_plan : (text : List ℕ) (a : Answer) → PH text a →
      ((number : ℕ) × Refused number × (a ≡ answers.PlanRefused number)) ⊎ HasByItems form plan processors Has text a
  of_plan text (answers.PlanRefused number) h = inl (number, h, refl)
  of_plan text a h = inr h

  module _ (law : PlansHaveOneAnswer form) where
    -- a plan that is accepted is not refused
    apart : (items : List A) → IsAccepted form plan processors items → (number : ℕ) → Refused number → ⊥
    apart items accepted number r = law.apart plan processors items r.error r.of_text accepted r.refused

    -- with a plan that is accepted, an answer by its items may be given
    pub by_items : IsSteady → (items : List A) → IsAccepted form plan processors items → (source : Port) (a : Answer)
        → JudgingMay limit (Has items) source a → May source a
    by_items plain items accepted source answers.ReadFault h = (h, record { items = items; accepted = accepted })
    by_items plain items accepted source answers.NoMemory h = (h, λ number r. absurd (apart items accepted number r))
    by_items plain items accepted source (answers.PlanRefused number) h = absurd (plain items h.0 number h.2)
    by_items plain items accepted source a h = (h.0, h.1, record { items = items; accepted = accepted; has = h.2 })

    -- two answers of a text are one
    pub planned_one : ((items : List A) → AreOne (Has items)) → AreOne PH
    planned_one by_items text a b h k = go (of_plan text a h) (of_plan text b k)
      where
        go : ((number : ℕ) × Refused number × (a ≡ answers.PlanRefused number)) ⊎ HasByItems form plan processors Has text a
            → ((number : ℕ) × Refused number × (b ≡ answers.PlanRefused number)) ⊎ HasByItems form plan processors Has text b → a ≡ b
        go (inl (n, r, e)) (inl (m, s, f)) =
            let same = law.refusals plan processors r.error s.error r.of_text s.of_text r.refused s.refused in
            e ∙ ap (λ x. answers.PlanRefused x) (r.number_is ∙ ap number_of same ∙ sym s.number_is) ∙ sym f
        go (inl (n, r, e)) (inr i) = absurd (apart i.items i.accepted n r)
        go (inr i) (inl (m, s, f)) = absurd (apart i.items i.accepted m s)
        go (inr i) (inr j) =
            let same : j.items ≡ i.items = law.items plan j.items i.items j.accepted.has i.accepted.has in
            by_items i.items text a b i.has (subst (λ (x : List A). Has x text b) same j.has)

    -- a text that is not refused has one
    pub some_answer : IsSteady → IsAnswered → HasSomeAnswer form plan processors Has
    some_answer plain answered text free = go (law.some plan processors)
      where
        go : SomeAccepted form plan processors ⊎ SomeRefused form plan processors → (a : Answer) × PH text a
        go (inl h) =
            let a = answered h.items text h.accepted free in
            (a.0, lifted plain text a.0 (record { items = h.items; accepted = h.accepted; has = a.1 }))
        go (inr h) = (
          answers.PlanRefused (number_of h.error),
          record { error = h.error; of_text = h.of_text; refused = h.refused; number_is = refl },
        )

  -- what stands after the limit changes none
  pub planned_front : IsSteady → ((items : List A) → FrontsDecide limit (Has items)) → FrontsDecide limit PH
  planned_front plain fronts text rest a long h = go (of_plan text a h)
    where
      go : ((number : ℕ) × Refused number × (a ≡ answers.PlanRefused number)) ⊎ HasByItems form plan processors Has text a
          → PH (text ++ rest) a
      go (inl (n, r, e)) = subst (PH (text ++ rest)) (sym e) r
      go (inr i) = lifted plain (text ++ rest) a
          (record { items = i.items; accepted = i.accepted; has = fronts i.items text rest a long i.has })

  -- where nothing was read, memory may be wanting
  pub memory_before : (source : Port) → IsUnread source → May source answers.NoMemory
  memory_before source h = (judged.memory_before limit PH source h, λ number r. h)

  -- where the plan is not there, that it is refused may be answered, or that memory was
  pub refused_may : (error : PlanError) → IsRefused form plan processors error → (source : Port) → IsUnread source
      → May source (refusal_of error)
  refused_may (BadItem n) r source h = (record { error = BadItem n; of_text = refl; refused = r; number_is = refl }, h)
  refused_may (NoSuchProcessor n) r source h = (record { error = NoSuchProcessor n; of_text = refl; refused = r; number_is = refl }, h)
  refused_may TooManyFaults r source h = (record { error = TooManyFaults; of_text = refl; refused = r; number_is = refl }, h)
  refused_may AllKilled r source h = (record { error = AllKilled; of_text = refl; refused = r; number_is = refl }, h)
  refused_may NoMemory r source h = memory_before source h

  -- the text that was read has the answer by the plan's items
  abbrev ReadByItems : Port → Answer → Type 0
  ReadByItems source a = ReadHas limit (HasByItems form plan processors Has) source a

  -- an answer of the command is a read fault, want of memory, that the plan is refused, or that of the text that was read
  abbrev Cause : Port → Answer → Type 0
  Cause source a = ((a ≡ answers.ReadFault) × SomeAccepted form plan processors) ⊎ ((a ≡ answers.NoMemory)
      ⊎ (((number : ℕ) × Refused number × IsUnread source × (a ≡ answers.PlanRefused number)) ⊎ ReadByItems source a))

  by_cause : (source : Port) (a : Answer) → May source a → Cause source a
  by_cause source answers.ReadFault h = inl (refl, h.1)
  by_cause source answers.NoMemory h = inr (inl refl)
  by_cause source (answers.PlanRefused number) h = inr (inr (inl (number, h.0, h.1, refl)))
  by_cause source a h = inr (inr (inr h))

  -- where an answer may come whose texts are made, out of memory may come in its place
  memory_may : PlansHaveOneAnswer form → (source : Port) (a : Answer) → May source a → ¬ IsFixed a → May source answers.NoMemory
  memory_may law source a h made = go (by_cause source a h)
    where
      go : Cause source a → May source answers.NoMemory
      go (inl (e, some)) = absurd (made (subst IsFixed (sym e) tt))
      go (inr (inl e)) = absurd (made (subst IsFixed (sym e) tt))
      go (inr (inr (inl p))) = memory_before source p.2
      go (inr (inr (inr r))) = (
        ((r.0, r.1.whole.most, r.1.whole.front), r.1.holds),
        λ number x. absurd (apart law r.2.items r.2.accepted number x),
      )

  -- what was delivered of an answer of the command is the answer, or out of memory in its place; watchers were told what belongs to both
  pub planned_delivered : (Tells : Answer → ToldLists → ToldLists → Type 0) → PlansHaveOneAnswer form → (o : Outside) (a : Answer) (status : Status)
      → Tells a o.told_before o.told_now → Tells answers.NoMemory o.told_before o.told_now → May o.source a
      → Delivers o.out o.err a status ⊎ ((¬ IsFixed a) × Delivers o.out o.err answers.NoMemory status) → Answers (May o.source) Tells o status
  planned_delivered Tells law o a status told wanting h (inl d) = record { answer = a; cause = h; delivered = d; told = told }
  planned_delivered Tells law o a status told wanting h (inr d) =
      record { answer = answers.NoMemory; cause = memory_may law o.source a h d.0; delivered = d.1; told = wanting }

  -- what was delivered of an answer of a command without watchers is the answer, or out of memory in its place
  pub planned_done : PlansHaveOneAnswer form → (o : Ports) (a : Answer) (status : Status) → May o.source a
      → Delivers o.out o.err a status ⊎ ((¬ IsFixed a) × Delivers o.out o.err answers.NoMemory status) → DeliversAnswer (May o.source) o status
  planned_done law o a status h (inl d) = record { answer = a; cause = h; delivered = d }
  planned_done law o a status h (inr d) = record { answer = answers.NoMemory; cause = memory_may law o.source a h d.0; delivered = d.1 }

  -- which answers come where
  reads_or_refuses : (source : Port) (a : Answer) → May source a
      → (a ≡ answers.ReadFault) ⊎ ((a ≡ answers.NoMemory) ⊎ ReadOrRefused Refused (HasByItems form plan processors Has) limit source a)
  reads_or_refuses source answers.ReadFault h = inl refl
  reads_or_refuses source answers.NoMemory h = inr (inl refl)
  reads_or_refuses source (answers.PlanRefused number) h = inr (inr h)
  reads_or_refuses source a h = inr (inr h)

  pub are_causes : AreCauses May (ReadOrRefused Refused (HasByItems form plan processors Has) limit)
  are_causes = record { fault = λ source h. h.0.0; cause = reads_or_refuses }

  -- an answer of what a known source gave is one that its bytes have
  of_all : FrontsDecide limit PH → (source : Port) (all : List ℕ) (a : Answer) → source.before ≡ Some all
      → ReadOrRefused Refused (HasByItems form plan processors Has) limit source a → PH all a
  of_all front source all (answers.PlanRefused number) e h = h.0
  of_all front source all a e h =
      whole limit PH front all source.now h.0 a (subst (λ l. ReadsTo limit l source.now h.0) e h.1.whole) h.2

  -- where the source failed, the answer is a read fault
  pub source_failed : (source : Port) (a : Answer) → May source a → ¬ Holds source → status_of a ≡ statuses.ReadFault
  source_failed source answers.ReadFault h f = refl
  source_failed source answers.NoMemory h f = absurd (f h.0.1)
  source_failed source (answers.PlanRefused number) h f = absurd (f h.1.holds)
  source_failed source a h f = absurd (f h.1.holds)

  module _ (o : Ports) (status : Status) (a : DeliversAnswer (May o.source) o status) where
    -- where the plan is refused, nothing was read, and the status is 3, or 8 or 9
    pub refuses : PlansHaveOneAnswer form → (number : ℕ) → Refused number
        → IsUnread o.source × IsOneOf status (statuses.WordsRefused ∷ statuses.WriteFault ∷ statuses.NoMemory ∷ [])
    refuses law number r = (unread a.answer a.cause, go (own_or_fault o.out o.err a.answer status a.delivered) (by_cause o.source a.answer a.cause))
      where
        unread : (answer : Answer) → May o.source answer → IsUnread o.source
        unread answers.ReadFault h = absurd (apart law h.1.items h.1.accepted number r)
        unread answers.NoMemory h = h.1 number r
        unread (answers.PlanRefused n) h = h.1
        unread answer h = absurd (apart law h.2.items h.2.accepted number r)

        go : (status ≡ statuses.WriteFault) ⊎ IsWritten o.out o.err a.answer status → Cause o.source a.answer
            → IsOneOf status (statuses.WordsRefused ∷ statuses.WriteFault ∷ statuses.NoMemory ∷ [])
        go (inl f) c = inr (inl f)
        go (inr w) (inl (e, some)) = absurd (apart law some.items some.accepted number r)
        go (inr w) (inr (inl e)) = inr (inr (inl (w.own ∙ ap status_of e)))
        go (inr w) (inr (inr (inl p))) = inl (w.own ∙ ap status_of p.3)
        go (inr w) (inr (inr (inr h))) = absurd (apart law h.2.items h.2.accepted number r)

    -- the rows of the command, where what stands after the limit changes no answer, by what each answer's own status says
    pub planned_rows : PlansHaveOneAnswer form → FrontsDecide limit PH → (Says : Status → Type 0)
        → SaysOfPorts o Says
        → ((answer : Answer) → ReadOrRefused Refused (HasByItems form plan processors Has) limit o.source answer
        → IsWritten o.out o.err answer (status_of answer) → Says (status_of answer))
        → PlannedRows Refused (HasByItems form plan processors Has) limit Says o status
    planned_rows plans front Says ports by = record {
      rows = rows_lemmas.rows May (ReadOrRefused Refused (HasByItems form plan processors Has) limit) are_causes o status a PH Says (of_all front o.source) ports by;
      refuses = refuses plans;
    }
