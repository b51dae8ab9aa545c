-- Two runs of a schedule have the same moments.
use Rattle.std.proofs.Common.{◌≡◌, ◌⊎◌, ◌<◌, ◌≤◌, ℕ, ◌+◌, List, [], ◌∷◌, length, Option, Some, None, refl, sym, ap, ◌∙◌, subst, inl, inr, arith}
use Rattle.std.proofs.lemmas.Bool.{cases_order}
use Rattle.ppm_unseen.specs.Run.{System, HasFinished, count}
use Rattle.ppm_code.specs.Strands.{Result}
use Rattle.ppm_depth.specs.declared.frame.Finish.{Finish}
use Rattle.ppm_filled.specs.Racing.{OwnWord, Place, Exit}
use Rattle.ppm_interleaving.specs.declared.deed.Turn.{Turn}
use Rattle.ppm_interleaving.specs.declared.deed.Turn.TheVariants.{Step}
use Rattle.ppm_interleaving.specs.Shows.{FinishesAre}
use Rattle.ppm_interleaving.specs.Steps.{result_of}
use Rattle.ppm_interleaving.specs.Turns.{Moment, deeds, turns, IsRun, SchedulesHaveOneRun}
use Rattle.ppm_strand_runs.specs.Order.{whose, IsNext, OfSchedule, OfRound, GoesOn, InOrder, Begins, Makes}
use Rattle.ppm_strand_runs.proofs.LawLemmas.{tail_of}

-- the next turn, by what is left of the schedule
abbrev NextIs : (left : List Turn) → (next strands : ℕ) → Turn → (after : List Turn) → (then_next : ℕ) → Type 0
NextIs [] next strands turn after then_next = (turn ≡ Step (whose next strands)) × (after ≡ []) × (then_next ≡ whose next strands + 1)
NextIs (t ∷ left) next strands turn after then_next = (turn ≡ t) × (after ≡ left) × (then_next ≡ next)

next_is : {left after : List Turn} {next strands then_next : ℕ} {turn : Turn} → IsNext left next strands turn after then_next
    → NextIs left next strands turn after then_next
next_is (OfSchedule t left next strands) = (refl, refl, refl)
next_is (OfRound next strands) = (refl, refl, refl)

one_next : (left : List Turn) (next strands : ℕ) (t u : Turn) (a b : List Turn) (k l : ℕ) → NextIs left next strands t a k → NextIs left next strands u b l
    → (t ≡ u) × (a ≡ b) × (k ≡ l)
one_next [] next strands t u a b k l p q = (p.0 ∙ sym q.0, p.1 ∙ sym q.1, p.2 ∙ sym q.2)
one_next (x ∷ left) next strands t u a b k l p q = (p.0 ∙ sym q.0, p.1 ∙ sym q.1, p.2 ∙ sym q.2)

module _ (s : System OwnWord Place Exit Result) where
  -- the order of moments, by the last one
  record WasInOrder (schedule : List Turn) (m : Moment) (h : List Moment) (left : List Turn) (next : ℕ) : Type 0 where
    left_before : List Turn
    next_before : ℕ
    before : InOrder s schedule h left_before next_before
    goes : GoesOn s h
    is : IsNext left_before next_before (count s (deeds h)) m.turn left next

  abbrev OrderIs : (schedule : List Turn) → List Moment → (left : List Turn) → (next : ℕ) → Type 0
  OrderIs schedule [] left next = (left ≡ schedule) × (next ≡ 0)
  OrderIs schedule (m ∷ h) left next = WasInOrder schedule m h left next

  order_is : {schedule left : List Turn} {h : List Moment} {next : ℕ} → InOrder s schedule h left next → OrderIs schedule h left next
  order_is Begins = (refl, refl)
  order_is (Makes {left = left} {next = next} turn d o goes is) =
      record { left_before = left; next_before = next; before = o; goes = goes; is = is }

  run_before : (m : Moment) (h : List Moment) → IsRun s (m ∷ h) → IsRun s h
  run_before m h run i = tail_of s (run i).1

  module _ (law : SchedulesHaveOneRun s) (schedule : List Turn) where
    -- as many moments in one order are the same
    pub one_order : (g h : List Moment) → length g ≡ length h → (left after : List Turn) (next then_next : ℕ) → InOrder s schedule g left next
        → InOrder s schedule h after then_next → IsRun s g → IsRun s h → (g ≡ h) × (left ≡ after) × (next ≡ then_next)
    one_order [] [] many left after next then_next o p r q =
        let a = order_is o in let b = order_is p in (refl, a.0 ∙ sym b.0, a.1 ∙ sym b.1)
    one_order [] (n ∷ h) many left after next then_next o p r q = absurd (omega (arith, many))
    one_order (m ∷ g) [] many left after next then_next o p r q = absurd (omega (arith, many))
    one_order (m ∷ g) (n ∷ h) many left after next then_next o p r q =
        let a = order_is o in
        let b = order_is p in
        let few : length g ≡ length h = omega (arith, many) in
        let same = one_order g h few a.left_before b.left_before a.next_before b.next_before a.before b.before (run_before m g r) (run_before n h q) in
        let there = subst (λ (k : List Moment). IsNext b.left_before b.next_before (count s (deeds k)) n.turn after then_next) (sym same.0) b.is in
        let here = subst (λ (l : List Turn). IsNext l b.next_before (count s (deeds g)) n.turn after then_next) (sym same.1) there in
        let now = subst (λ (k : ℕ). IsNext a.left_before k (count s (deeds g)) n.turn after then_next) (sym same.2) here in
        let one = one_next a.left_before a.next_before (count s (deeds g)) m.turn n.turn left after next then_next (next_is a.is) (next_is now) in
        let all : turns (m ∷ g) ≡ turns (n ∷ h) = λ i. one.0 i ∷ ap turns same.0 i in
        ((law (m ∷ g) (n ∷ h) all r q).0, one.1, one.2)

    -- the moments before, of which there are so many: then the run goes on
    record Earlier (n : ℕ) : Type 0 where
      moments : List Moment
      left : List Turn
      next : ℕ
      order : InOrder s schedule moments left next
      run : IsRun s moments
      goes : GoesOn s moments
      many : length moments ≡ n

    earlier : (n : ℕ) (h : List Moment) (left : List Turn) (next : ℕ) → n < length h → InOrder s schedule h left next → IsRun s h → Earlier n
    earlier n [] left next less o r = absurd (omega (arith, less))
    earlier n (m ∷ h) left next less o r =
        let a = order_is o in
        by a (λ fewer. earlier n h a.left_before a.next_before fewer a.before (run_before m h r)) (cases_order n (length h))
      where
        by : WasInOrder schedule m h left next → (n < length h → Earlier n) → (n ≡ length h) ⊎ ((n < length h) ⊎ (length h < n)) → Earlier n
        by a further (inl same) = record {
          moments = h;
          left = a.left_before;
          next = a.next_before;
          order = a.before;
          run = run_before m h r;
          goes = a.goes;
          many = sym same;
        }
        by a further (inr (inl fewer)) = further fewer
        by a further (inr (inr more)) = absurd (omega (arith, less, more))

    -- a run in this order that ended, or made all its turns, is not shorter than another one
    pub not_shorter : (g h : List Moment) (left after : List Turn) (next then_next limit : ℕ) (finishes : ℕ → Option Finish) → FinishesAre finishes (deeds g)
        → (finishes 0 ≡ None → length g ≡ limit) → length h ≤ limit → InOrder s schedule g left next → InOrder s schedule h after then_next
        → IsRun s g → IsRun s h → length g < length h → ⊥
    not_shorter g h left after next then_next limit finishes are ended within o p r q less =
        by (finishes 0) refl
      where
        e : Earlier (length g)
        e = earlier (length g) h after then_next less p q

        same : g ≡ e.moments
        same = (one_order g e.moments (sym e.many) left e.left next e.next o e.order r e.run).0

        by : (f : Option Finish) → finishes 0 ≡ f → ⊥
        by None is = let all = ended is in omega (arith, less, within, all)
        by (Some f) is = e.goes (result_of f) (subst (λ (k : List Moment). HasFinished 0 (result_of f) (deeds k)) same (are.told 0 f is))
