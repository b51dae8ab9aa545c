-- A text has one answer where it is swept: its code begins one run under each takeover, which makes one list of schedules, and each has one replay.
use Rattle.std.proofs.Common.{◌≡◌, ℕ, true, cond, List, [], ◌∷◌, ◌++◌, length, inl, inr, refl, sym, ap, ◌∙◌, subst, arith}
use Rattle.std.specs.List.{AllByRecursion}
use Rattle.std.proofs.lemmas.List.Elements.{filter-append}
use Rattle.ppm_strands.specs.Run.{End}
use Rattle.ppm_strands.proofs.RunLemmas.{one_end}
use Rattle.ppm_text.specs.Limits.{text_limit}
use Rattle.ppm_words.specs.declared.named_array.NamedArray.{NamedArray}
use Rattle.ppm_words.specs.declared.outcome.Outcome.{Outcome}
use Rattle.ppm_words.specs.declared.trap.Trap.{Trap}
use Rattle.ppm_cells.specs.declared.shape.Takeover.{Takeover}
use Rattle.ppm_cells.specs.declared.shape.Takeover.TheVariants.{ByPlaces, ByEntries}
use Rattle.ppm_code.specs.Inputs.{words_in}
use Rattle.ppm_code.specs.Strands.{Result}
use Rattle.ppm_code.specs.declared.code.CodeParts.{CodeParts}
use Rattle.ppm_depth.specs.Run.{strands_of, said_of, IsWithin, RunsAreThere}
use Rattle.ppm_depth.specs.Start.{words_of, root_strand}
use Rattle.ppm_depth.specs.declared.depth.DepthRun.{DepthRun}
use Rattle.ppm_layout.specs.Correct.{ImagesAreOne}
use Rattle.ppm_plan.specs.declared.schedule_item.ScheduleItem.{ScheduleItem}
use Rattle.ppm_plan.specs.Correct.{HaveOneAnswer as PlansHaveOneAnswer}
use Rattle.ppm_plan.specs.Forms.{schedule_form}
use Rattle.ppm_plan.specs.Refusals.{IsAccepted}
use Rattle.ppm_choice.proofs.KeeperLemmas.{one_keeper}
use Rattle.ppm_tree.specs.Tree.{ProgramTree}
use Rattle.ppm_tree.specs.Program.{initial_arrays}
use Rattle.ppm_cut_code.specs.Routines.{code_of}
use Rattle.ppm_case.specs.Correct.{FaultsTellCases}
use Rattle.ppm_case.specs.Faults.{HasFault}
use Rattle.ppm_case.specs.Rules.{case_limit}
use Rattle.ppm_case.specs.declared.case_error.CaseFault.{CaseFault}
use Rattle.ppm_program.specs.Correct.{HaveOneAnswer as TextsHaveOneProgram}
use Rattle.ppm_program.specs.Programs.{HasProgram}
use Rattle.ppm_program.specs.Refusals.{IsRefusal}
use Rattle.ppm_sweep.specs.Found.{acts_in, faults_in, left_out, short, swept_by}
use Rattle.ppm_sweep.specs.Sweep.{Swept, is_short}
use Rattle.ppm_sweep.specs.Text.{schedule_text}
use Rattle.ppm_answers.specs.declared.answer.Answer.{Answer}
use Rattle.ppm_answers.specs.declared.answer.Answer.TheVariants as answers
use Rattle.ppm_answers.specs.declared.case.UntidyStore.{UntidyStore}
use Rattle.ppm_answers.specs.declared.refusal.Refusal.{Refusal}
use Rattle.ppm_answers.specs.declared.sweep.Came.{Came}
use Rattle.ppm_answers.specs.declared.sweep.Came.TheVariants as came
use Rattle.ppm_answers.specs.declared.sweep.Difference.{Difference}
use Rattle.ppm_answers.specs.declared.sweep.Sweep.{Sweep}
use Rattle.ppm_cli.specs.Words.{AreSwept}
use Rattle.ppm_cli.specs.declared.sweep.SweepOptions.{SweepOptions}
use Rattle.ppm_cli.specs.declared.takeover.SweptTakeovers.{SweptTakeovers}
use Rattle.ppm_cli.specs.declared.takeover.SweptTakeovers.TheVariants as asked
use Rattle.ppm_loading.specs.Loading.{OpensRun}
use Rattle.ppm_loading.specs.Telling.{GoesOn, store_told}
use Rattle.ppm_loading.proofs.CaseInputLemmas.{case_input}
use Rattle.ppm_loading.proofs.CaseLemmas.{AreCaseKinds}
use Rattle.ppm_loading.proofs.CaseLemmas as cases
use Rattle.ppm_loading.proofs.FirstStore.{one_told, none_told}
use Rattle.ppm_loading.proofs.LoadingLemmas.{one_opening}
use Rattle.ppm_loading.proofs.PlannedLemmas.{IsSteady, planned_one, planned_front, some_answer}
use Rattle.ppm_loading.proofs.ProgramLemmas.{AreKinds, of_text, text_one, text_front, plain}
use Rattle.ppm_loading.proofs.TidyLemmas.{all_are}
use Rattle.ppm_outcomes.specs.ProgramsAsCode.{ProgramsAreAsCode}
use Rattle.ppm_sweep_command.specs.CaseSweeps.{HaveOneCaseAnswer}
use Rattle.ppm_sweep_command.specs.CaseSweeps as case_sweeps
use Rattle.ppm_outcomes.specs.Replays.{sizes_of}
use Rattle.ppm_sweep_command.specs.Sweeps.{AllAgree, AllOf, Agrees, Begins, FirstDiffers, FirstOf, IsOutcome, Replays, Tells, WithOutcome, replay_options, schedules, sum_of, sweeping_of}
use Rattle.ppm_sweep_command.specs.Sweeps.{CodeHas, ProgramHas, TextHas, HaveOneAnswer}
use Rattle.ppm_orders.proofs.ScheduledLemmas.{some_scheduled}
use Rattle.ppm_outcomes.proofs.OneReplay as replays
use Rattle.ppm_sweep_command.proofs.SomeSweep.{SweepLaws, some_has}

-- Of two lists one holds of those in front of the first of which the other holds: that is one in both.
module _ (P N : Swept → Type 0) (apart : (v : Swept) → P v → N v → ⊥) where
  abbrev head_or : Swept → List Swept → Swept
  head_or v [] = v
  head_or v (w ∷ l) = w

  abbrev tail_of : List Swept → List Swept
  tail_of [] = []
  tail_of (w ∷ l) = l

  same_first : (a : List Swept) (v : Swept) (b : List Swept) (c : List Swept) (w : Swept) (d : List Swept) → a ++ (v ∷ b) ≡ c ++ (w ∷ d)
      → AllByRecursion P a → AllByRecursion P c → N v → N w → v ≡ w
  same_first [] v b [] w d e all also n m = ap (head_or v) e
  same_first [] v b (x ∷ c) w d e all also n m = absurd (apart x also.0 (subst N (ap (head_or v) e) n))
  same_first (x ∷ a) v b [] w d e all also n m = absurd (apart x all.0 (subst N (sym (ap (head_or w) e)) m))
  same_first (x ∷ a) v b (y ∷ c) w d e all also n m = same_first a v b c w d (ap tail_of e) all.1 also.1 n m

  -- where it holds of all there is no other
  none_first : (l a : List Swept) (v : Swept) (b : List Swept) → l ≡ a ++ (v ∷ b) → AllByRecursion P l → N v → ⊥
  none_first l [] v b e all n = let h = subst (AllByRecursion P) e all in apart v h.0 n
  none_first l (x ∷ a) v b e all n = let h = subst (AllByRecursion P) e all in none_first (a ++ (v ∷ b)) a v b refl h.1 n

-- those that are short, up to one that is
short_front : (before : List Swept) (first : Swept) (after : List Swept) → is_short first ≡ true
    → short (before ++ (first ∷ after)) ≡ short before ++ (first ∷ short after)
short_front before first after few =
    filter-append is_short before (first ∷ after)
    ∙ (λ i. short before ++ cond (few i) (first ∷ short after) (short after))

-- what an answer tells is one
module _ where
  ended_one : (arrays : List NamedArray) (d : Came) (a : Answer) → Tells (came.Ended arrays) a → Tells d a → came.Ended arrays ≡ d
  ended_one arrays (came.Ended others) (answers.EndedWith values tally) h k = ap (λ (l : List NamedArray). came.Ended l) (h ∙ sym k)
  ended_one arrays (came.Trapped trap line) (answers.EndedWith values tally) h k = absurd k
  ended_one arrays (came.Unfinished acts) (answers.EndedWith values tally) h k = absurd k
  ended_one arrays (came.OutOfRoom place) (answers.EndedWith values tally) h k = absurd k
  ended_one arrays (came.Broken place) (answers.EndedWith values tally) h k = absurd k
  ended_one arrays d a h k = absurd h

  trapped_one : (trap : Trap) (line : ℕ) (d : Came) (a : Answer) → Tells (came.Trapped trap line) a → Tells d a → came.Trapped trap line ≡ d
  trapped_one trap line (came.Trapped other at) (answers.TrappedWith t n tally) h k =
      λ i. came.Trapped ((h.0 ∙ sym k.0) i) ((h.1 ∙ sym k.1) i)
  trapped_one trap line (came.Ended arrays) (answers.TrappedWith t n tally) h k = absurd k
  trapped_one trap line (came.Unfinished acts) (answers.TrappedWith t n tally) h k = absurd k
  trapped_one trap line (came.OutOfRoom place) (answers.TrappedWith t n tally) h k = absurd k
  trapped_one trap line (came.Broken place) (answers.TrappedWith t n tally) h k = absurd k
  trapped_one trap line d a h k = absurd h

  unfinished_one : (acts : ℕ) (d : Came) (a : Answer) → Tells (came.Unfinished acts) a → Tells d a → came.Unfinished acts ≡ d
  unfinished_one acts (came.Unfinished others) (answers.Unfinished made) h k = ap (λ (n : ℕ). came.Unfinished n) (h ∙ sym k)
  unfinished_one acts (came.Ended arrays) (answers.Unfinished made) h k = absurd k
  unfinished_one acts (came.Trapped trap line) (answers.Unfinished made) h k = absurd k
  unfinished_one acts (came.OutOfRoom place) (answers.Unfinished made) h k = absurd k
  unfinished_one acts (came.Broken place) (answers.Unfinished made) h k = absurd k
  unfinished_one acts d a h k = absurd h

  full_one : (place : ℕ) (d : Came) (a : Answer) → Tells (came.OutOfRoom place) a → Tells d a → came.OutOfRoom place ≡ d
  full_one place (came.OutOfRoom other) (answers.OutOfRoom full) h k = ap (λ (n : ℕ). came.OutOfRoom n) (h ∙ sym k)
  full_one place (came.Ended arrays) (answers.OutOfRoom full) h k = absurd k
  full_one place (came.Trapped trap line) (answers.OutOfRoom full) h k = absurd k
  full_one place (came.Unfinished acts) (answers.OutOfRoom full) h k = absurd k
  full_one place (came.Broken other) (answers.OutOfRoom full) h k = absurd k
  full_one place d a h k = absurd h

  broken_one : (place : ℕ) (d : Came) (a : Answer) → Tells (came.Broken place) a → Tells d a → came.Broken place ≡ d
  broken_one place (came.Broken other) (answers.Broken broken) h k = ap (λ (n : ℕ). came.Broken n) (h ∙ sym k)
  broken_one place (came.Ended arrays) (answers.Broken broken) h k = absurd k
  broken_one place (came.Trapped trap line) (answers.Broken broken) h k = absurd k
  broken_one place (came.Unfinished acts) (answers.Broken broken) h k = absurd k
  broken_one place (came.OutOfRoom other) (answers.Broken broken) h k = absurd k
  broken_one place d a h k = absurd h

  tells_one : (c d : Came) (a : Answer) → Tells c a → Tells d a → c ≡ d
  tells_one (came.Ended arrays) d a h k = ended_one arrays d a h k
  tells_one (came.Trapped trap line) d a h k = trapped_one trap line d a h k
  tells_one (came.Unfinished acts) d a h k = unfinished_one acts d a h k
  tells_one (came.OutOfRoom place) d a h k = full_one place d a h k
  tells_one (came.Broken place) d a h k = broken_one place d a h k

-- the depth-first run has one outcome
pub same_outcome : (code : CodeParts) (input : List NamedArray) (limit : ℕ) (r s : DepthRun) → IsWithin code input limit r → IsWithin code input limit s
    → r.outcome ≡ s.outcome
same_outcome code input limit r s p q =
    p.outcome
    ∙ ap (λ (e : End Result). said_of input e.words e.outcome)
    (one_end (strands_of code input) (root_strand code input) (words_of (words_in input)) p.end q.end p.comes q.comes)
    ∙ sym q.outcome

module _ (images : ImagesAreOne) (options : SweepOptions) (items : List ScheduleItem) (code : CodeParts) (input : List NamedArray) where
  module _ (wanted : Outcome) (t : Takeover) where
    abbrev Begin : Type 0
    Begin = Begins options items code input wanted t

    abbrev All : Sweep → Type 0
    All counts = AllAgree options items code input wanted t counts

    abbrev First : Difference → Type 0
    First d = FirstDiffers options items code input wanted t d

    abbrev of_sweep : Begin → List Swept
    of_sweep b = schedules options items code input wanted b

    abbrev Agree : Swept → Type 0
    Agree v = Agrees options items code input wanted t v

    -- a replay of a schedule that doesn't come to the outcome
    abbrev Differ : Swept → Type 0
    Differ v = (a : Answer) × Replays options items code input wanted t v a × ¬ IsOutcome wanted a

    -- a replay has one answer
    one_answer : (v : Swept) (a b : Answer) → Replays options items code input wanted t v a → Replays options items code input wanted t v b → a ≡ b
    one_answer v a b h k = replays.code_one images (replay_options options t) v.items code input a b h k

    apart : (v : Swept) → Agree v → Differ v → ⊥
    apart v h k = k.2 (subst (IsOutcome wanted) (one_answer v h.0 k.0 h.1 k.1) h.2)

    -- all runs begin alike
    keeper_is : (b c : Begin) → c.keeper ≡ b.keeper
    keeper_is b c = one_keeper schedule_form items c.keeper b.keeper c.spared b.spared

    start_is : (b c : Begin) → b.start ≡ c.start
    start_is b c =
        one_opening (sizes_of (replay_options options t)) code input b.keeper images b.start c.start b.opens
        (subst (λ (n : ℕ). OpensRun (sizes_of (replay_options options t)) code input n c.start) (keeper_is b c) c.opens)

    same_sweep : (b c : Begin) → of_sweep b ≡ of_sweep c
    same_sweep b c =
        let start = start_is b c in
        let keeper = sym (keeper_is b c) in
        λ i. swept_by (start i) items (sweeping_of options (keeper i))

    -- two counts of a sweep are one
    one_count : (j k : Sweep) → All j → All k → j ≡ k
    one_count j k a b =
        let l = same_sweep a.begins b.begins in
        let start = start_is a.begins b.begins in
        let runs : j.runs ≡ k.runs = a.runs ∙ ap (λ (s : List Swept). length (short s)) l ∙ sym b.runs in
        let met : j.met ≡ k.met = a.met ∙ ap (λ (s : List Swept). faults_in (short s)) l ∙ sym b.met in
        let acts : j.acts ≡ k.acts = a.acts ∙ (λ i. acts_in (start i) options.turns wanted (short (l i))) ∙ sym b.acts in
        let left : j.left ≡ k.left = a.left ∙ ap (λ (s : List Swept). length (left_out s)) l ∙ sym b.left in
        λ i. record { runs = runs i; met = met i; acts = acts i; left = left i }

    differ : (d : Difference) (f : First d) → Differ f.first
    differ d f = (f.answer, f.replays, f.differs)

    -- where all agree none is the first that differs
    not_both : (counts : Sweep) (d : Difference) → All counts → First d → ⊥
    not_both counts d a f =
        none_first Agree Differ apart (short (of_sweep a.begins)) (short f.before) f.first (short f.after)
        (ap (λ (s : List Swept). short s) (same_sweep a.begins f.begins ∙ f.schedules_are) ∙ short_front f.before f.first f.after f.few) a.all (differ d f)

    -- and that is one
    one_schedule : (d e : Difference) (f : First d) (g : First e) → f.first ≡ g.first
    one_schedule d e f g =
        same_first Agree Differ apart (short f.before) f.first (short f.after) (short g.before) g.first (short g.after)
        (sym (short_front f.before f.first f.after f.few)
        ∙ ap (λ (s : List Swept). short s) (sym f.schedules_are ∙ same_sweep f.begins g.begins ∙ g.schedules_are)
        ∙ short_front g.before g.first g.after g.few) f.all g.all (differ d f) (differ e g)

    one_difference : (d e : Difference) → First d → First e → d ≡ e
    one_difference d e f g =
        let same = one_schedule d e f g in
        let answer : f.answer ≡ g.answer =
        one_answer g.first f.answer g.answer (subst (λ (v : Swept). Replays options items code input wanted t v f.answer) same f.replays) g.replays in
        let takeover : d.takeover ≡ e.takeover = f.takeover ∙ sym g.takeover in
        let schedule : d.schedule ≡ e.schedule = f.text ∙ ap (λ (v : Swept). schedule_text v.items) same ∙ sym g.text in
        let so : d.came ≡ e.came = tells_one d.came e.came g.answer (subst (Tells d.came) answer f.tells) g.tells in
        λ i. record { takeover = takeover i; schedule = schedule i; came = so i }

  -- under the takeovers that are asked, with one outcome
  module _ (wanted : Outcome) where
    abbrev Alls : SweptTakeovers → Sweep → Type 0
    Alls ts counts = AllOf options items code input wanted ts counts

    abbrev Firsts : SweptTakeovers → Difference → Type 0
    Firsts ts d = FirstOf options items code input wanted ts d

    counts_one : (ts : SweptTakeovers) (j k : Sweep) → Alls ts j → Alls ts k → j ≡ k
    counts_one asked.ByPlaces j k a b = one_count wanted ByPlaces j k a b
    counts_one asked.ByEntries j k a b = one_count wanted ByEntries j k a b
    counts_one asked.Both j k (p, q, all, also, e) (r, s, has, too, f) =
        let places = one_count wanted ByPlaces p r all has in
        let entries = one_count wanted ByEntries q s also too in
        e ∙ (λ i. sum_of (places i) (entries i)) ∙ sym f

    never_both : (ts : SweptTakeovers) (k : Sweep) (d : Difference) → Alls ts k → Firsts ts d → ⊥
    never_both asked.ByPlaces k d a f = not_both wanted ByPlaces k d a f
    never_both asked.ByEntries k d a f = not_both wanted ByEntries k d a f
    never_both asked.Both k d (p, q, all, also, e) (inl f) = not_both wanted ByPlaces p d all f
    never_both asked.Both k d (p, q, all, also, e) (inr (r, has, f)) = not_both wanted ByEntries q d also f

    differences_one : (ts : SweptTakeovers) (d e : Difference) → Firsts ts d → Firsts ts e → d ≡ e
    differences_one asked.ByPlaces d e f g = one_difference wanted ByPlaces d e f g
    differences_one asked.ByEntries d e f g = one_difference wanted ByEntries d e f g
    differences_one asked.Both d e (inl f) (inl g) = one_difference wanted ByPlaces d e f g
    differences_one asked.Both d e (inl f) (inr (p, all, g)) = absurd (not_both wanted ByPlaces p d all f)
    differences_one asked.Both d e (inr (p, all, f)) (inl g) = absurd (not_both wanted ByPlaces p e all g)
    differences_one asked.Both d e (inr (p, all, f)) (inr (q, also, g)) = one_difference wanted ByEntries d e f g

  abbrev Has : Answer → Type 0
  Has a = CodeHas options items code input a

  abbrev HasCounts : Sweep → Type 0
  HasCounts k = WithOutcome options items code input (λ wanted. Alls wanted options.takeover k)

  abbrev HasDifference : Difference → Type 0
  HasDifference d = WithOutcome options items code input (λ wanted. Firsts wanted options.takeover d)

  -- a run that ends does not go on
  not_on : {H : Outcome → Type 0} → WithOutcome options items code input H → GoesOn options.capsules code input → ⊥
  not_on w g = let more = g.more.more w.within.end w.within.comes in let few = w.within.within in omega (arith, more, few)

  -- what holds of the outcome of one run holds of that of another
  alike : {H K : Outcome → Type 0} (w : WithOutcome options items code input H) (x : WithOutcome options items code input K) → K w.run.outcome
  alike {K = K} w x = subst K (same_outcome code input options.capsules x.run w.run x.within w.within) x.holds

  of_untidy : (u : UntidyStore) (b : Answer) → Has (answers.Untidy u) → Has b → answers.Untidy u ≡ b
  of_untidy u (answers.Untidy v) h k = ap (λ (x : UntidyStore). answers.Untidy x) (one_told code input u v h k)
  of_untidy u (answers.NotWithinCapsules n) h k = absurd (none_told code input u h k.1.tidy)
  of_untidy u (answers.Swept j) h k = absurd (none_told code input u h k.tidy)
  of_untidy u (answers.Differs d) h k = absurd (none_told code input u h k.tidy)
  of_untidy u b h k = absurd k

  of_on : (n : ℕ) (b : Answer) → Has (answers.NotWithinCapsules n) → Has b → answers.NotWithinCapsules n ≡ b
  of_on n (answers.Untidy v) h k = absurd (none_told code input v k h.1.tidy)
  of_on n (answers.NotWithinCapsules m) h k = ap (λ (x : ℕ). answers.NotWithinCapsules x) (h.0 ∙ sym k.0)
  of_on n (answers.Swept j) h k = absurd (not_on k h.1)
  of_on n (answers.Differs d) h k = absurd (not_on k h.1)
  of_on n b h k = absurd k

  of_counts : (j : Sweep) (b : Answer) → Has (answers.Swept j) → Has b → answers.Swept j ≡ b
  of_counts j (answers.Untidy v) h k = absurd (none_told code input v k h.tidy)
  of_counts j (answers.NotWithinCapsules m) h k = absurd (not_on h k.1)
  of_counts j (answers.Swept l) h k =
      ap (λ (x : Sweep). answers.Swept x) (counts_one h.run.outcome options.takeover j l h.holds (alike {K = λ wanted. Alls wanted options.takeover l} h k))
  of_counts j (answers.Differs d) h k =
      absurd (never_both h.run.outcome options.takeover j d h.holds (alike {K = λ wanted. Firsts wanted options.takeover d} h k))
  of_counts j b h k = absurd k

  of_difference : (d : Difference) (b : Answer) → Has (answers.Differs d) → Has b → answers.Differs d ≡ b
  of_difference d (answers.Untidy v) h k = absurd (none_told code input v k h.tidy)
  of_difference d (answers.NotWithinCapsules m) h k = absurd (not_on h k.1)
  of_difference d (answers.Swept l) h k =
      absurd (never_both h.run.outcome options.takeover l d (alike {K = λ wanted. Alls wanted options.takeover l} h k) h.holds)
  of_difference d (answers.Differs e) h k =
      ap (λ (x : Difference). answers.Differs x)
      (differences_one h.run.outcome options.takeover d e h.holds (alike {K = λ wanted. Firsts wanted options.takeover e} h k))
  of_difference d b h k = absurd k

  -- a code has one answer on an input by items
  pub code_one : (a b : Answer) → Has a → Has b → a ≡ b
  code_one (answers.Untidy u) b h k = of_untidy u b h k
  code_one (answers.NotWithinCapsules n) b h k = of_on n b h k
  code_one (answers.Swept j) b h k = of_counts j b h k
  code_one (answers.Differs d) b h k = of_difference d b h k
  code_one a b h k = absurd h

-- the answers that codes have where they are swept
abbrev pub IsOfSweep : Answer → Type 0
IsOfSweep (answers.Untidy u) = Unit {0}
IsOfSweep (answers.NotWithinCapsules n) = Unit {0}
IsOfSweep (answers.Swept counts) = Unit {0}
IsOfSweep (answers.Differs d) = Unit {0}
IsOfSweep _ = ⊥

pub kinds : AreKinds IsOfSweep
kinds = record { no_refusal = λ r k. k; no_fault = λ k. k; no_memory = λ k. k; no_plan = λ number k. k }

pub case_kinds : AreCaseKinds IsOfSweep
case_kinds = record { no_input = λ r k. k; no_listing = λ r k. k; no_fault = λ k. k; no_memory = λ k. k; no_plan = λ number k. k }

pub of_code : (options : SweepOptions) (items : List ScheduleItem) (code : CodeParts) (input : List NamedArray) (a : Answer)
    → CodeHas options items code input a → IsOfSweep a
of_code options items code input (answers.Untidy u) h = tt
of_code options items code input (answers.NotWithinCapsules n) h = tt
of_code options items code input (answers.Swept counts) h = tt
of_code options items code input (answers.Differs d) h = tt
of_code options items code input a h = absurd h

pub of_program : (options : SweepOptions) (items : List ScheduleItem) (t : ProgramTree) (a : Answer) → ProgramHas options items t a → IsOfSweep a
of_program options items t = of_code options items (code_of t) (initial_arrays t)

-- no answer by items is that a schedule is refused
steady : (options : SweepOptions) → IsSteady schedule_form [] options.processors (TextHas options) text_limit
steady options items text number = plain (ProgramHas options items) kinds (of_program options items) text number

case_steady : (options : SweepOptions) → IsSteady schedule_form [] options.processors (case_sweeps.TextHas options) case_limit
case_steady options items text number = cases.plain (CodeHas options items) case_kinds (of_code options items) text number

-- what the crates below show of every text, every code, every image, every run and every schedule
pub record Laws : Type 0 where
  pub texts : TextsHaveOneProgram
  pub programs : ProgramsAreAsCode
  pub images : ImagesAreOne
  pub runs : RunsAreThere
  pub plans : PlansHaveOneAnswer
  pub sweeps : SweepLaws

-- a text that is not refused has an answer by items that may be obeyed
some : Laws → (options : SweepOptions) → AreSwept options → (schedule : List ℕ) (items : List ScheduleItem) (text : List ℕ)
    → IsAccepted schedule_form schedule options.processors items → ((r : Refusal) → ¬ IsRefusal text r) → (a : Answer) × TextHas options items text a
some laws options are schedule items text accepted free =
    let has : (t : ProgramTree) × HasProgram text t = (laws.texts text).none free in
    let may = (laws.programs text has.0 has.1).may in
    let a = some_has laws.sweeps options are schedule items accepted (code_of has.0) (initial_arrays has.0) may.code_is may.input_is laws.runs may.sound.tidy in
    (a.0, of_text (ProgramHas options items) kinds (of_program options items) text has.0 has.1 a.0 a.1)

-- this holds with all options and all schedules
pub have_one_answer : Laws → HaveOneAnswer
have_one_answer laws = record {
  one = λ options schedule.
      planned_one schedule_form schedule options.processors (TextHas options) text_limit laws.plans.schedules
      (λ items. text_one (ProgramHas options items) laws.texts (λ t. code_one laws.images options items (code_of t) (initial_arrays t)));
  front = λ options schedule.
      planned_front schedule_form schedule options.processors (TextHas options) text_limit (steady options)
      (λ items. text_front (ProgramHas options items) laws.texts);
  some = λ options schedule are.
      some_answer schedule_form schedule options.processors (TextHas options) text_limit laws.plans.schedules (steady options)
      (some laws options are schedule);
}

module _ (texts : FaultsTellCases) (images : ImagesAreOne) (runs : RunsAreThere) (plans : PlansHaveOneAnswer) (sweeps : SweepLaws) where
  -- a case has an answer by items that may be obeyed, if no store is not tidy
  some_by_items : (options : SweepOptions) → AreSwept options → (schedule : List ℕ) (items : List ScheduleItem) (text : List ℕ)
      → IsAccepted schedule_form schedule options.processors items → ((f : CaseFault) (line : ℕ) → ¬ HasFault text f line)
      → ((u : UntidyStore) → ¬ case_sweeps.SweepCaseHas options schedule text (answers.Untidy u)) → (a : Answer) × case_sweeps.TextHas options items text a
  some_by_items options are schedule items text accepted free no_store =
      let has = texts.covers text free in
      let tidy = all_are has.code (λ s f. no_store (store_told (length has.input) has.code s) (record {
        items = items;
        accepted = accepted;
        has = record { code = has.code; input = has.input; is = has.is; has = record { store = s; first = f; tells = refl } };
      })) in
      let a = some_has sweeps options are schedule items accepted has.code has.input has.is.listed.code (case_input text has.code has.input has.is) runs tidy in
      (a.0, cases.of_text (CodeHas options items) case_kinds (of_code options items) text has.code has.input has.is a.0 a.1)

  pub have_one_case_answer : HaveOneCaseAnswer
  have_one_case_answer = record {
    one = λ options schedule.
        planned_one schedule_form schedule options.processors (case_sweeps.TextHas options) case_limit plans.schedules
        (λ items. cases.text_one (CodeHas options items) texts (code_one images options items));
    front = λ options schedule.
        planned_front schedule_form schedule options.processors (case_sweeps.TextHas options) case_limit (case_steady options)
        (λ items. cases.text_front (CodeHas options items) texts);
    some = λ options schedule are text free no_store.
        some_scheduled (case_sweeps.TextHas options) (case_steady options) plans schedule options.processors text
        (λ items accepted. some_by_items options are schedule items text accepted free no_store);
  }
