-- The answers that a state has where it is replayed and its counts are told: what its words say after the leg, and what was counted in it.
use Rattle.std.proofs.Common.{◌≡◌, ◌≢◌, ◌<◌, ◌≤◌, ◌+◌, ◌^◌, ℕ, List, length, None, refl, sym, ap, ◌∙◌, subst, arith}
use Rattle.ppm_words.specs.Limits.{turn_limit}
use Rattle.ppm_cells.specs.Finish.{finish_of}
use Rattle.ppm_core.specs.Situation.{Situation, loaded}
use Rattle.ppm_plan.specs.Correct.{HaveOneAnswer as PlansHaveOneAnswer}
use Rattle.ppm_plan.specs.Forms.{schedule_form}
use Rattle.ppm_plan.specs.Refusals.{IsKeeper}
use Rattle.ppm_plan.specs.declared.schedule_item.ScheduleItem.{ScheduleItem}
use Rattle.ppm_step.specs.State.{along, forks_of, takes_of}
use Rattle.ppm_choice.specs.Schedules.{schedule_turns}
use Rattle.ppm_following.specs.Followed.{followed}
use Rattle.ppm_following.specs.OrderedFaults.{ordered_faults}
use Rattle.ppm_trace.specs.RunCounts.{CountsAreOfTurns, run_counts}
use Rattle.ppm_saved.specs.Names.{lengths_of}
use Rattle.ppm_saved.specs.Renewal.{IsRenewalOf}
use Rattle.ppm_saved.specs.declared.names.NamedLength.{NamedLength}
use Rattle.ppm_saved.specs.declared.renewal.Renewed.{Renewed}
use Rattle.ppm_saved.specs.declared.saved.Saved.{Saved}
use Rattle.ppm_saved_reader.specs.Correct.{FaultsTellSavedTexts}
use Rattle.ppm_answers.specs.declared.answer.Answer.{Answer}
use Rattle.ppm_answers.specs.declared.answer.Answer.TheVariants as answers
use Rattle.ppm_answers.specs.declared.run_counts.RunCounts.{RunCounts}
use Rattle.ppm_answers.specs.declared.sweep.Came.{Came}
use Rattle.ppm_answers.specs.declared.tally.Tally.{Tally}
use Rattle.ppm_answers.specs.Texts.{tally_in}
use Rattle.ppm_cli.specs.declared.replay.ReplaySavedOptions.{ReplaySavedOptions}
use Rattle.ppm_loading.specs.Says.{IsTheOne}
use Rattle.ppm_outcomes.specs.Replays.{IsSaid, tally_of, with_tally}
use Rattle.ppm_outcomes.specs.Resumes.{SavedState, saved_finish, IsTextOf, named, state_of}
use Rattle.ppm_outcomes.proofs.CameLemmas.{one_came}
use Rattle.ppm_legs.specs.CountedReplays.{HaveOneAnswer, IsCounted, IsCountedLegOf, StateCounts}
use Rattle.ppm_legs.specs.SavedReplays.{StateReplays, turns_by}
use Rattle.ppm_legs.specs.SavedTexts.{IsLegOf}
use Rattle.ppm_legs.proofs.LegLemmas.{AreKinds, fronts, goes_on}
use Rattle.ppm_legs.proofs.SavedAnswerLemmas.{one_start, text_one}
use Rattle.ppm_legs.proofs.SavedReplayLemmas.{leg_has, leg_lengths, state_one}

-- acts that options may ask for are few
pub few_acts : (acts : ℕ) → acts ≤ turn_limit → acts ≤ 2 ^ 40
few_acts acts most = omega (arith, most)

-- a machine with what fresh processors find of a state, after the acts of a schedule, with what is counted in these acts
pub counted_leg_is : (saved : Saved) (keeper : ℕ) (r : Renewed) (begun m : Situation) (items : List ScheduleItem) (acts : ℕ) (counts : RunCounts)
    → IsRenewalOf saved keeper r → begun ≡ loaded r.image.shape r.code r.image.lengths r.image.words → m ≡ followed begun items acts
    → counts ≡ run_counts (ordered_faults items) begun (schedule_turns begun.shape begun.code begun.state items acts)
    → IsCountedLegOf (state_of saved) items acts m counts
counted_leg_is saved keeper r begun m items acts counts is loads ends counted =
    record { start = begun; goes_on = goes_on saved keeper r begun is loads; ends = ends; counted = counted }

-- without its counts it is a leg
pub plain_leg : (z : SavedState) (items : List ScheduleItem) (acts : ℕ) (m : Situation) (counts : RunCounts) → IsCountedLegOf z items acts m counts
    → IsLegOf z items acts m
plain_leg z items acts m counts leg = record { start = leg.start; goes_on = leg.goes_on; ends = leg.ends }

-- the machine of a counted leg has the arrays of the state
pub counted_lengths : (z : SavedState) (items : List ScheduleItem) (acts : ℕ) (m : Situation) (counts : RunCounts)
    → IsCountedLegOf z items acts m counts → (names : List NamedLength) → names ≡ z.arrays
    → m.array_lengths ≡ lengths_of names
counted_lengths z items acts m counts leg names same = leg_lengths z items acts m (plain_leg z items acts m counts leg) names same

-- of none at first, so many more
from_none : (first more own : ℕ) → first ≡ 0 → own ≡ more → first + more ≡ own
from_none first more own none is = omega (arith, none, is)

module _ (law : CountsAreOfTurns) (options : ReplaySavedOptions) (items : List ScheduleItem) (z : SavedState) (m : Situation) (counts : RunCounts)
    (leg : IsCountedLegOf z items options.turns m counts) where
  -- the machine counts as many forks and takes
  tallies : tally_of m ≡ tally_in counts
  tallies =
      let start = leg.start in
      let turns = turns_by options items start in
      let own = run_counts (ordered_faults items) start turns in
      let of = law (ordered_faults items) start turns in
      let forks = from_none start.forks (length (along start.shape start.code forks_of start.state turns)) own.forks
      (ap (λ (x : Situation). x.forks) leg.goes_on.loads) of.forks in
      let takes = from_none start.takes (length (along start.shape start.code takes_of start.state turns)) own.takes
      (ap (λ (x : Situation). x.takes) leg.goes_on.loads) of.takes in
      let both : tally_of (followed start items options.turns) ≡ tally_in own = λ i. record { forks = forks i; takes = takes i } in
      ap tally_of leg.ends ∙ both ∙ ap tally_in (sym leg.counted)

  -- what is said after the leg, with what was counted in it, is the state's answer
  pub leg_counts : (text : List ℕ) → IsTextOf text z → finish_of (saved_finish z) ≢ None → (keeper : ℕ) → IsKeeper schedule_form items keeper
      → keeper < z.shape.processors → (names : List NamedLength) → names ≡ z.arrays → (c : Came)
      → IsTheOne (IsSaid options.turns m (named names)) (with_tally c (tally_of m)) → StateCounts options items z (answers.ReplayedWith c counts)
  leg_counts text is stands keeper kept there names same c only =
      let plain = leg_has options items z text is stands keeper kept there m (plain_leg z items options.turns m counts leg) names same
      (with_tally c (tally_of m)) only in
      let has : StateReplays options items z (with_tally c (tally_in counts)) =
      subst (λ (t : Tally). StateReplays options items z (with_tally c t)) tallies plain in
      record {
        has = has;
        counted = leg.counted
            ∙ ap (λ (s : Situation). run_counts (ordered_faults items) s (turns_by options items s))
            (one_start z leg.start has.start leg.goes_on has.goes_on);
      }

module _ (options : ReplaySavedOptions) where
  -- an answer of a state is that its run came to this, and counts so much
  pub as_counted : (items : List ScheduleItem) (z : SavedState) (a : Answer) → StateCounts options items z a
      → (c : Came) × (n : RunCounts) × IsCounted options items z c n × (a ≡ answers.ReplayedWith c n)
  as_counted items z (answers.ReplayedWith c n) h = (c, n, h, refl)
  as_counted items z a h = absurd h

  pub kinds : AreKinds (StateCounts options)
  kinds = record {
    no_refusal = λ items z r h. h;
    no_plan = λ items z number h. h;
    no_fault = λ items z h. h;
    no_memory = λ items z h. h;
  }

  stands : (items : List ScheduleItem) (z : SavedState) (a : Answer) → StateCounts options items z a → finish_of (saved_finish z) ≢ None
  stands items z a h = (as_counted items z a h).2.has.stands

  module _ (items : List ScheduleItem) (z : SavedState) where
    -- two counts of a leg are one, and what it came to is one thing
    one : (c d : Came) (n k : RunCounts) → IsCounted options items z c n → IsCounted options items z d k
        → answers.ReplayedWith c n ≡ answers.ReplayedWith d k
    one c d n k h l =
        let same : c ≡ d = one_came c d (tally_in n) (tally_in k)
        (state_one options items z (with_tally c (tally_in n)) (with_tally d (tally_in k)) h.has l.has) in
        let counts : n ≡ k = h.counted
        ∙ ap (λ (s : Situation). run_counts (ordered_faults items) s (turns_by options items s))
        (one_start z h.has.start l.has.start h.has.goes_on l.has.goes_on)
        ∙ sym l.counted in
        ap (λ (x : Came). answers.ReplayedWith x n) same ∙ ap (λ (x : RunCounts). answers.ReplayedWith d x) counts

    -- a state has one answer
    counted_one : (a b : Answer) → StateCounts options items z a → StateCounts options items z b → a ≡ b
    counted_one a b h l =
        let p = as_counted items z a h in
        let q = as_counted items z b l in
        p.3 ∙ one p.0 q.0 p.1 q.1 p.2 q.2 ∙ sym q.3

pub have_one_answer : FaultsTellSavedTexts → PlansHaveOneAnswer → HaveOneAnswer
have_one_answer tell plans = record {
  one = λ options schedule. text_one tell plans.schedules (StateCounts options) (stands options) (counted_one options) schedule;
  front = λ options schedule. fronts (StateCounts options) schedule;
}
