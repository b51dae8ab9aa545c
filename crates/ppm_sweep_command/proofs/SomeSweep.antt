-- A text that is not refused has an answer where it is swept: whether a replay comes to the outcome is not left open.
use Rattle.std.proofs.Common.{◌≡◌, ◌⊎◌, ℕ, ◌+◌, ◌==◌, Bool, true, false, ◌&&◌, cond, List, [], ◌∷◌, ◌++◌, length, Some, None, inl, inr, refl, sym, ap, ◌∙◌, subst, arith, eqb-true}
use Rattle.std.specs.Bool.{Decides}
use Rattle.std.specs.Cmp.Lexicographic.{pointwise}
use Rattle.std.specs.List.{All, AllByRecursion}
use Rattle.std.specs.Ordering.{int_eq}
use Rattle.std.specs.Str.{bytes_eq}
use Rattle.std.proofs.lemmas.Bool.{and_parts, both_ways, eq-eqb}
use Rattle.std.proofs.lemmas.Bool.Decides.{Decides-int_eq}
use Rattle.std.proofs.lemmas.List.Elements.{All-from_recursion}
use Rattle.std.proofs.lemmas.Option.{none-some}
use Rattle.std.proofs.lemmas.Slice.Eq.{bytes_eq-Decides, slice_eq-Decides}
use Rattle.ppm_words.specs.Inputs.{IsInput}
use Rattle.ppm_words.specs.declared.named_array.NamedArray.{NamedArray}
use Rattle.ppm_words.specs.declared.outcome.Outcome.{Outcome}
use Rattle.ppm_words.specs.declared.outcome.Outcome.TheVariants as outcome
use Rattle.ppm_words.specs.declared.trap.Trap.{Trap}
use Rattle.ppm_words.specs.declared.trap.Trap.TheVariants as trap
use Rattle.ppm_cells.specs.declared.shape.Takeover.{Takeover}
use Rattle.ppm_cells.specs.declared.shape.Takeover.TheVariants.{ByPlaces, ByEntries}
use Rattle.ppm_code.specs.Code.{IsCode}
use Rattle.ppm_code.specs.Tidy.{IsTidy}
use Rattle.ppm_code.specs.declared.code.CodeParts.{CodeParts}
use Rattle.ppm_depth.specs.Run.{IsDepthRun, RunsAreThere}
use Rattle.ppm_depth.specs.declared.depth.DepthRun.{DepthRun}
use Rattle.ppm_core.specs.Situation.{Situation}
use Rattle.ppm_plan.specs.Forms.{schedule_form, act_outside}
use Rattle.ppm_plan.specs.Items.{WritesScheduleItem, Once, Times}
use Rattle.ppm_plan.specs.Refusals.{first_at, IsAccepted}
use Rattle.ppm_plan.proofs.AmongLemmas.{act_among}
use Rattle.ppm_plan.specs.Schedules.{IsItemAmong, MayBeDone}
use Rattle.ppm_plan.specs.Spellings.{TextsReadAsWritten, WritesAll, WritesInTurn, Last, More}
use Rattle.ppm_plan.specs.declared.schedule_item.ScheduledAct.TheVariants.{Step, Fails}
use Rattle.ppm_plan.specs.declared.schedule_item.ScheduleItem.{ScheduleItem}
use Rattle.ppm_sweep.specs.Fair.{IsFair, SweepsAreFair}
use Rattle.ppm_sweep.specs.Found.{acts_in, faults_in, left_out, short, swept_by}
use Rattle.ppm_sweep.specs.Sweep.{Swept, is_short}
use Rattle.ppm_sweep.specs.Text.{schedule_text, SchedulesAreWritten}
use Rattle.ppm_sweep.specs.Windows.{windows_for}
use Rattle.ppm_answers.specs.declared.answer.Answer.{Answer}
use Rattle.ppm_answers.specs.declared.answer.Answer.TheVariants as answers
use Rattle.ppm_answers.specs.declared.sweep.Came.{Came}
use Rattle.ppm_answers.specs.declared.sweep.Came.TheVariants as came
use Rattle.ppm_answers.specs.declared.sweep.Difference.{Difference}
use Rattle.ppm_answers.specs.declared.sweep.Sweep.{Sweep}
use Rattle.ppm_cli.specs.Words.{AreSwept}
use Rattle.ppm_cli.specs.declared.sweep.SweepOptions.{SweepOptions}
use Rattle.ppm_cli.specs.declared.takeover.SweptTakeovers.{SweptTakeovers}
use Rattle.ppm_cli.specs.declared.takeover.SweptTakeovers.TheVariants as asked
use Rattle.ppm_loading.specs.Loading.{OpensRun}
use Rattle.ppm_loading.proofs.LoadingLemmas.{opens_processors, some_opening}
use Rattle.ppm_outcomes.specs.Replays.{sizes_of}
use Rattle.ppm_sweep_command.specs.Sweeps.{AllAgree, AllOf, Agrees, Begins, CodeHas, FirstDiffers, FirstOf, IsOutcome, Replays, Tells, replay_options, sum_of, sweeping_of}
use Rattle.ppm_outcomes.proofs.ReplayLemmas.{IsOfProgram, has_said, of_code, replayed_sizes, some_end}
use Rattle.ppm_sweep_command.proofs.SweepAsCode.{swept_replayed}
use Rattle.ppm_sweep_command.proofs.SweepLemmas.{reads_back}

-- it holds, or does not
abbrev IsOpenOrShut : Type 0 → Type 0
IsOpenOrShut P = P ⊎ (P → ⊥)

by_answer : (P : Type 0) (b x : Bool) → Decides b P → b ≡ x → IsOpenOrShut P
by_answer P b true d e = inl (d.0 e)
by_answer P b false d e = inr (λ p. both_ways b e (d.1 p))

by_test : {P : Type 0} (b : Bool) → Decides b P → IsOpenOrShut P
by_test {P = P} b d = by_answer P b b d refl

-- an array is told from another by its name and its values
abbrev same_array : NamedArray → NamedArray → Bool
same_array a b = bytes_eq a.name b.name && pointwise int_eq a.values b.values

both_true : (a b : Bool) → a ≡ true → b ≡ true → (a && b) ≡ true
both_true a b e f = subst (λ (x : Bool). (x && b) ≡ true) (sym e) f

same_array-Decides : (a b : NamedArray) → Decides (same_array a b) (a ≡ b)
same_array-Decides a b = (
  λ e.
      let parts = and_parts (bytes_eq a.name b.name) (pointwise int_eq a.values b.values) e in
      let name : a.name ≡ b.name = (bytes_eq-Decides a.name b.name).0 parts.0 in
      let values : a.values ≡ b.values = (slice_eq-Decides Decides-int_eq a.values b.values (pointwise int_eq a.values b.values) refl).0 parts.1 in
      λ i. record { name = name i; values = values i },
  λ p. both_true (bytes_eq a.name b.name) (pointwise int_eq a.values b.values)
      ((bytes_eq-Decides a.name b.name).1 (ap (λ (x : NamedArray). x.name) p))
      ((slice_eq-Decides Decides-int_eq a.values b.values (pointwise int_eq a.values b.values) refl).1 (ap (λ (x : NamedArray). x.values) p)),
)

same_arrays : (l m : List NamedArray) → IsOpenOrShut (l ≡ m)
same_arrays l m = by_test (pointwise same_array l m) (slice_eq-Decides same_array-Decides l m (pointwise same_array l m) refl)

-- a trap is told from another by a number
abbrev number : Trap → ℕ
number trap.Overflow = 0
number trap.DivZero = 1
number trap.Index = 2
number trap.Split = 3

abbrev trap_of : ℕ → Trap
trap_of n = cond (n == 0) trap.Overflow (cond (n == 1) trap.DivZero (cond (n == 2) trap.Index trap.Split))

trap_back : (t : Trap) → trap_of (number t) ≡ t
trap_back trap.Overflow = refl
trap_back trap.DivZero = refl
trap_back trap.Index = refl
trap_back trap.Split = refl

same_numbers : (m n : ℕ) → IsOpenOrShut (m ≡ n)
same_numbers m n = by_test (m == n) (λ e. eqb-true m n e, λ p. eq-eqb m n p)

same_traps : (t u : Trap) → IsOpenOrShut (t ≡ u)
same_traps t u = by_test (number t == number u) (
  λ e. sym (trap_back t) ∙ ap trap_of (eqb-true (number t) (number u) e) ∙ trap_back u,
  λ p. eq-eqb (number t) (number u) (ap (λ (x : Trap). number x) p),
)

both_or_not : {P Q : Type 0} → IsOpenOrShut P → IsOpenOrShut Q → IsOpenOrShut (P × Q)
both_or_not (inl p) (inl q) = inl (p, q)
both_or_not (inl p) (inr q) = inr (λ b. q b.1)
both_or_not (inr p) q = inr (λ b. p b.0)

-- whether an answer is an outcome
ended_or_not : (arrays : List NamedArray) (a : Answer) → IsOpenOrShut (IsOutcome (outcome.Ended arrays) a)
ended_or_not arrays (answers.EndedWith values tally) = same_arrays values arrays
ended_or_not arrays a = inr (λ o. o)

trapped_or_not : (t : Trap) (line : ℕ) (a : Answer) → IsOpenOrShut (IsOutcome (outcome.Trapped t line) a)
trapped_or_not t line (answers.TrappedWith met at tally) = both_or_not (same_traps met t) (same_numbers at line)
trapped_or_not t line a = inr (λ o. o)

is_or_not : (wanted : Outcome) (a : Answer) → IsOpenOrShut (IsOutcome wanted a)
is_or_not (outcome.Ended arrays) a = ended_or_not arrays a
is_or_not (outcome.Trapped t line) a = trapped_or_not t line a
is_or_not outcome.NotWithin a = inr (λ o. o)

-- each answer of a replay is told
some_told : (processors turns : ℕ) (a : Answer) → IsOfProgram processors turns a → (c : Came) × Tells c a
some_told processors turns (answers.EndedWith arrays tally) k = (came.Ended arrays, refl)
some_told processors turns (answers.TrappedWith t line tally) k = (came.Trapped t line, (refl, refl))
some_told processors turns (answers.Unfinished n) k = (came.Unfinished n, refl)
some_told processors turns (answers.OutOfRoom place) k = (came.OutOfRoom place, refl)
some_told processors turns (answers.Broken place) k = (came.Broken place, refl)
some_told processors turns a k = absurd k

-- The items of a schedule that is accepted are of its processors.
module _ (p : ℕ) where
  done : (piece : List ℕ) (i : ScheduleItem) → WritesScheduleItem piece i → MayBeDone i.act i.times
  done piece i (Once (Step c victim) fits) = (omega arith, omega arith)
  done piece i (Once (Fails c fault) fits) = refl
  done piece i (Times c victim n fits low high) = (low, high)

  abbrev Inside : List ScheduleItem → Type 0
  Inside items = AllByRecursion (λ (i : ScheduleItem). act_outside p i.act ≡ false) items

  inside : (n : ℕ) (items : List ScheduleItem) → first_at (schedule_form.is_outside p) n items ≡ None → Inside items
  inside n [] h = tt
  inside n (i ∷ items) h = go (act_outside p i.act) refl h (inside (n + 1) items)
    where
      go : (b : Bool) → act_outside p i.act ≡ b → cond b (Some n) (first_at (schedule_form.is_outside p) (n + 1) items) ≡ None
          → (first_at (schedule_form.is_outside p) (n + 1) items ≡ None → Inside items) → Inside (i ∷ items)
      go true e k more = absurd (none-some n (sym k))
      go false e k more = (e, more k)

  in_turn : (text : List ℕ) (items : List ScheduleItem) → WritesInTurn WritesScheduleItem text items → Inside items → AllByRecursion (IsItemAmong p) items
  in_turn text items (Last {piece = piece} {i = i} w) h = (record { act = act_among p i.act h.0; times = done piece i w }, tt)
  in_turn text items (More {piece = piece} {text = rest} {i = i} {items = others} w more) h =
      (record { act = act_among p i.act h.0; times = done piece i w }, in_turn rest others more h.1)

  all_written : (text : List ℕ) (items : List ScheduleItem) → WritesAll WritesScheduleItem text items → Inside items → AllByRecursion (IsItemAmong p) items
  all_written text [] w h = tt
  all_written text (i ∷ items) w h = in_turn text (i ∷ items) w h

  accepted_among : TextsReadAsWritten → (text : List ℕ) (items : List ScheduleItem) → IsAccepted schedule_form text p items → All (IsItemAmong p) items
  accepted_among texts text items accepted =
      All-from_recursion (IsItemAmong p) items
      (all_written text items ((texts.schedules text items).0 accepted.has) (inside 1 items accepted.obeyed.there))

-- what the crates below show of schedules and sweeps
pub record SweepLaws : Type 0 where
  pub fair : SweepsAreFair
  pub written : SchedulesAreWritten
  pub texts : TextsReadAsWritten

module _ (laws : SweepLaws) (options : SweepOptions) (are : AreSwept options) (schedule : List ℕ) (items : List ScheduleItem)
    (accepted : IsAccepted schedule_form schedule options.processors items) (code : CodeParts) (input : List NamedArray) (is : IsCode code)
    (fits : IsInput input) where
  module _ (wanted : Outcome) (t : Takeover) where
    -- the machine with which the replays begin
    abbrev keeper : ℕ
    keeper = accepted.keeper

    opening : (m : Situation) × OpensRun (sizes_of (replay_options options t)) code input keeper m
    opening =
        some_opening (sizes_of (replay_options options t)) code input keeper (replayed_sizes (replay_options options t) (swept_replayed options t are))
        accepted.obeyed.below fits

    abbrev start : Situation
    start = opening.0

    abbrev begins : Begins options items code input wanted t
    begins = record { keeper = keeper; spared = accepted.obeyed.kept; start = start; opens = opening.1 }

    abbrev swept : List Swept
    swept = swept_by start items (sweeping_of options keeper)

    abbrev Fair : Swept → Type 0
    Fair v = IsFair options.processors keeper v

    abbrev Agree : Swept → Type 0
    Agree v = Agrees options items code input wanted t v

    all_fair : AllByRecursion Fair swept
    all_fair =
        subst (λ (p : ℕ). AllByRecursion (IsFair p keeper) swept) count
        (laws.fair start.shape start.code keeper options.turns start.state items options.faults (windows_for start items (sweeping_of options keeper))
        (record {
          among = subst (λ (p : ℕ). All (IsItemAmong p) items) (sym count) (accepted_among options.processors laws.texts schedule items accepted);
          kept = accepted.obeyed.kept;
        }))
      where
        count : start.shape.processors ≡ options.processors
        count = opens_processors (sizes_of (replay_options options t)) code input keeper start opening.1

    -- a replay has an answer
    answered : (v : Swept) → Fair v → (a : Answer) × Replays options items code input wanted t v a
    answered v fair =
        let e = some_end (replay_options options t) v.items code input keeper start fair.fair.kept opening.1 is in
        (e.0, has_said (replay_options options t) v.items code input keeper start fair.fair.kept opening.1 is e.0 e.1)

    -- the first of some schedules that differs
    record Found (l : List Swept) : Type 0 where
      before : List Swept
      first : Swept
      after : List Swept
      schedules_are : l ≡ before ++ (first ∷ after)
      few : is_short first ≡ true
      all : AllByRecursion Agree (short before)
      fair : Fair first
      answer : Answer
      replays : Replays options items code input wanted t first answer
      differs : ¬ IsOutcome wanted answer

    abbrev Sought : List Swept → Type 0
    Sought l = AllByRecursion Agree (short l) ⊎ Found l

    -- one that is short and agrees, or is too long, in front of others
    after_one : (v : Swept) (l : List Swept) (b : Bool) → is_short v ≡ b → (b ≡ true → Agree v) → Sought l → Sought (v ∷ l)
    after_one v l true e agree (inl all) =
        inl (subst (λ (x : Bool). AllByRecursion Agree (cond x (v ∷ short l) (short l))) (sym e) (agree refl, all))
    after_one v l false e agree (inl all) = inl (subst (λ (x : Bool). AllByRecursion Agree (cond x (v ∷ short l) (short l))) (sym e) all)
    after_one v l b e agree (inr f) = inr (record {
      before = v ∷ f.before;
      first = f.first;
      after = f.after;
      schedules_are = ap (λ (m : List Swept). v ∷ m) f.schedules_are;
      few = f.few;
      all = by b e agree;
      fair = f.fair;
      answer = f.answer;
      replays = f.replays;
      differs = f.differs;
    })
      where
        by : (c : Bool) → is_short v ≡ c → (c ≡ true → Agree v) → AllByRecursion Agree (short (v ∷ f.before))
        by true e agree = subst (λ (x : Bool). AllByRecursion Agree (cond x (v ∷ short f.before) (short f.before))) (sym e) (agree refl, f.all)
        by false e agree = subst (λ (x : Bool). AllByRecursion Agree (cond x (v ∷ short f.before) (short f.before))) (sym e) f.all

    seek : (l : List Swept) → AllByRecursion Fair l → Sought l
    seek [] fair = inl tt
    seek (v ∷ l) fair = let a = answered v fair.0 in go (is_short v) refl a.0 a.1 (is_or_not wanted a.0) (seek l fair.1)
      where
        go : (b : Bool) → is_short v ≡ b → (a : Answer) → Replays options items code input wanted t v a → IsOpenOrShut (IsOutcome wanted a) → Sought l
            → Sought (v ∷ l)
        go false e a h o rest = after_one v l false e (λ k. absurd (both_ways false refl k)) rest
        go true e a h (inl o) rest = after_one v l true e (λ k. (a, h, o)) rest
        go true e a h (inr other) rest = inr (record {
          before = [];
          first = v;
          after = l;
          schedules_are = refl;
          few = e;
          all = tt;
          fair = fair.0;
          answer = a;
          replays = h;
          differs = other;
        })

    -- all runs of a sweep agree, or one is the first that differs
    under : ((counts : Sweep) × AllAgree options items code input wanted t counts)
        ⊎ ((d : Difference) × FirstDiffers options items code input wanted t d)
    under = go (seek swept all_fair)
      where
        go : Sought swept → ((counts : Sweep) × AllAgree options items code input wanted t counts)
            ⊎ ((d : Difference) × FirstDiffers options items code input wanted t d)
        go (inl all) = inl (
          record {
            runs = length (short swept);
            met = faults_in (short swept);
            acts = acts_in start options.turns wanted (short swept);
            left = length (left_out swept);
          },
          record { begins = begins; all = all; runs = refl; met = refl; acts = refl; left = refl },
        )
        go (inr f) =
            let c = some_told options.processors options.turns f.answer (of_code (replay_options options t) f.first.items code input f.answer f.replays) in
            inr (
              record { takeover = t; schedule = schedule_text f.first.items; came = c.0 },
              record {
                begins = begins;
                before = f.before;
                first = f.first;
                after = f.after;
                schedules_are = f.schedules_are;
                few = f.few;
                all = f.all;
                takeover = refl;
                text = refl;
                reads = reads_back options.processors laws.written laws.texts are.0.1 keeper accepted.obeyed.below f.first.items f.fair.fair
                    (f.fair.few f.few) (schedule_text f.first.items) refl;
                answer = f.answer;
                replays = f.replays;
                differs = f.differs;
                tells = c.1;
              },
            )

  -- and so it is under the takeovers that are asked
  asked_for : (wanted : Outcome) (ts : SweptTakeovers) → ((counts : Sweep) × AllOf options items code input wanted ts counts)
      ⊎ ((d : Difference) × FirstOf options items code input wanted ts d)
  asked_for wanted asked.ByPlaces = under wanted ByPlaces
  asked_for wanted asked.ByEntries = under wanted ByEntries
  asked_for wanted asked.Both = elim (under wanted ByPlaces) [
    | inr f ↦ inr (f.0, inl f.1)
    | inl a ↦ elim (under wanted ByEntries) [
      | inr g ↦ inr (g.0, inr (a.0, a.1, g.1))
      | inl b ↦ inl (sum_of a.0 b.0, (a.0, b.0, a.1, b.1, refl))
    ]
  ]

  -- a tidy code has an answer
  pub some_has : RunsAreThere → IsTidy code → (a : Answer) × CodeHas options items code input a
  some_has there tidy = go (there code input options.capsules).run (there code input options.capsules).is
    where
      go : (run : DepthRun) → IsDepthRun code input options.capsules run → (a : Answer) × CodeHas options items code input a
      go run (inr more) = (answers.NotWithinCapsules options.capsules, (refl, record { tidy = tidy; run = run; more = more }))
      go run (inl w) = elim (asked_for run.outcome options.takeover) [
        | inl a ↦ (answers.Swept a.0, record { tidy = tidy; run = run; within = w; holds = a.1 })
        | inr f ↦ (answers.Differs f.0, record { tidy = tidy; run = run; within = w; holds = f.1 })
      ]
