-- What answers of replays of a sound code say: each names the finish that stands after the replay, and that is as the code is.
use Rattle.std.proofs.Common.{◌≡◌, ◌<◌, ℕ, List, Some, sym, ap, ◌∙◌, subst, arith}
use Rattle.ppm_words.specs.declared.named_array.NamedArray.{NamedArray}
use Rattle.ppm_words.specs.declared.outcome.Outcome.TheVariants as outcome
use Rattle.ppm_cells.specs.Finish.{finish_of}
use Rattle.ppm_cells.specs.declared.finish.Finish.{Finish}
use Rattle.ppm_code.specs.declared.code.CodeParts.{CodeParts}
use Rattle.ppm_plan.specs.declared.schedule_item.ScheduleItem.{ScheduleItem}
use Rattle.ppm_plan.specs.Forms.{schedule_form}
use Rattle.ppm_plan.specs.Refusals.{IsAccepted}
use Rattle.ppm_core.specs.Situation.{Situation, finish_in}
use Rattle.ppm_following.specs.Followed.{followed}
use Rattle.ppm_following.proofs.ScheduledLemmas.{scheduled_among}
use Rattle.ppm_words.specs.declared.trap.Trap.{Trap}
use Rattle.ppm_answers.specs.declared.tally.Tally.{Tally}
use Rattle.ppm_answers.specs.declared.answer.Answer.{Answer}
use Rattle.ppm_answers.specs.declared.answer.Answer.TheVariants as answers
use Rattle.ppm_cli.specs.declared.replay.ReplayOptions.{ReplayOptions}
use Rattle.ppm_cli.specs.Words.{AreReplayed}
use Rattle.ppm_loading.specs.Says.{IsOfFinish}
use Rattle.ppm_loading.proofs.LoadingLemmas.{opens_processors, opens_room}
use Rattle.ppm_loading.proofs.SayLemmas.{said_of_word}
use Rattle.ppm_outcomes.specs.AsCode.{MayRun, CodeNeedsMoreRoom, EndsAsCode, IsAsCode, RunsAreAsCode}
use Rattle.ppm_outcomes.specs.CodeReplays.{SaysAsReplay, ReplaysAreAsCode, turns_in}
use Rattle.ppm_outcomes.specs.Replays.{CodeHas, sizes_of, tally_of}
use Rattle.ppm_outcomes.proofs.MeantRows.{ended_replay, trapped_replay, full_replay, broken_replay, no_other, no_other_trap, no_other_room, no_other_broken, past_most, tallied}
use Rattle.ppm_outcomes.proofs.ReplayLemmas.{of_code}
use Rattle.ppm_outcomes.proofs.WorkLemmas.{scheduled_work}

module _ (law : RunsAreAsCode) (options : ReplayOptions) (are : AreReplayed options) (schedule : List ℕ) (items : List ScheduleItem)
    (accepted : IsAccepted schedule_form schedule options.processors items) (code : CodeParts) (input : List NamedArray)
    (may : MayRun code input) where
  abbrev Has : Answer → Type 0
  Has a = CodeHas options items code input a

  abbrev last : Situation → Situation
  last m = followed m items options.turns

  is : (a : Answer) (h : Has a) → IsAsCode h.start (turns_in options items h.start) code input
  is a h =
      law code input may (sizes_of options) h.keeper h.start h.opens (turns_in options items h.start)
      (scheduled_among h.start.shape h.start.code some schedule options.processors items count accepted h.start.state options.turns)
    where
      count : h.start.shape.processors ≡ options.processors
      count = opens_processors (sizes_of options) code input h.keeper h.start h.opens

      some : 0 < h.start.shape.processors
      some = let least = h.start.shape.within.processors_least in omega (arith, least)

  abbrev Says : (a : Answer) → Has a → Type 0
  Says a h = SaysAsReplay options code input h.start (turns_in options items h.start) a

  ends : (arrays : List NamedArray) (tally : Tally) (h : Has (answers.EndedWith arrays tally)) → Says (answers.EndedWith arrays tally) h
  ends arrays tally h =
      let m = last h.start in
      let k = said_of_word (λ values. answers.EndedWith values (tally_of m)) (λ trap line. answers.TrappedWith trap line (tally_of m))
      (λ processor x. ⊥) (λ x. x ≡ answers.Unfinished options.turns) m.shape m.array_lengths m.state.words input (finish_in m)
      (answers.EndedWith arrays tally) (no_other options.turns arrays tally) h.says in
      let e = ended_replay m.shape m.array_lengths m.state.words input options.turns (tally_of m) k.0 arrays tally k.2 in
      let so = (is (answers.EndedWith arrays tally) h).ended (k.1 ∙ ap (λ (f : Finish). Some f) e.0) in
      let counts = tallied items options.turns h.start (ap (λ (x : Situation). x.forks) h.opens.loads)
      (ap (λ (x : Situation). x.takes) h.opens.loads) so.branches tally e.2 in
      record {
        ends = subst (λ (l : List NamedArray). EndsAsCode h.start (turns_in options items h.start) code input (outcome.Ended l)) (sym e.1) so;
        forks = counts.0;
        takes = counts.1;
      }

  traps : (trap : Trap) (line : ℕ) (tally : Tally) (h : Has (answers.TrappedWith trap line tally)) → Says (answers.TrappedWith trap line tally) h
  traps trap line tally h =
      let m = last h.start in
      let k = said_of_word (λ values. answers.EndedWith values (tally_of m)) (λ x n. answers.TrappedWith x n (tally_of m))
      (λ processor x. ⊥) (λ x. x ≡ answers.Unfinished options.turns) m.shape m.array_lengths m.state.words input (finish_in m)
      (answers.TrappedWith trap line tally) (no_other_trap options.turns trap line tally) h.says in
      let e = trapped_replay m.shape m.array_lengths m.state.words input options.turns (tally_of m) k.0 trap line tally k.2 in
      let so = (is (answers.TrappedWith trap line tally) h).trapped trap line (k.1 ∙ ap (λ (f : Finish). Some f) e.0) in
      let counts = tallied items options.turns h.start (ap (λ (x : Situation). x.forks) h.opens.loads)
      (ap (λ (x : Situation). x.takes) h.opens.loads) so.branches tally e.1 in
      record { ends = so; forks = counts.0; takes = counts.1 }

  needs : (place : ℕ) (h : Has (answers.OutOfRoom place)) → CodeNeedsMoreRoom code input options.room
  needs place h =
      let m = last h.start in
      let k = said_of_word (λ values. answers.EndedWith values (tally_of m)) (λ x n. answers.TrappedWith x n (tally_of m))
      (λ processor x. ⊥) (λ x. x ≡ answers.Unfinished options.turns) m.shape m.array_lengths m.state.words input (finish_in m)
      (answers.OutOfRoom place) (no_other_room options.turns place) h.says in
      let e = full_replay m.shape m.array_lengths m.state.words input options.turns (tally_of m) k.0 place k.2 in
      subst (CodeNeedsMoreRoom code input) (opens_room (sizes_of options) code input h.keeper h.start h.opens)
      ((is (answers.OutOfRoom place) h).full place (k.1 ∙ ap (λ (f : Finish). Some f) e)).1

  unbroken : (place : ℕ) → Has (answers.Broken place) → ⊥
  unbroken place h =
      let m = last h.start in
      let k = said_of_word (λ values. answers.EndedWith values (tally_of m)) (λ trap line. answers.TrappedWith trap line (tally_of m))
      (λ processor x. ⊥) (λ x. x ≡ answers.Unfinished options.turns) m.shape m.array_lengths m.state.words input (finish_in m)
      (answers.Broken place) (no_other_broken options.turns place) h.says in
      let e = broken_replay m.shape m.array_lengths m.state.words input options.turns (tally_of m) k.0 place k.2 in
      let many = (is (answers.Broken place) h).unbroken place (k.1 ∙ ap (λ (f : Finish). Some f) e) in
      past_most many (scheduled_work h.start.shape h.start.code h.start.state items options.turns) (let few = are.1.1 in omega (arith, few))

  says : (a : Answer) (h : Has a) → Says a h
  says (answers.EndedWith arrays tally) h = ends arrays tally h
  says (answers.TrappedWith trap line tally) h = traps trap line tally h
  says (answers.Unfinished acts) h = of_code options items code input (answers.Unfinished acts) h
  says (answers.OutOfRoom place) h = needs place h
  says (answers.Broken place) h = absurd (unbroken place h)
  says a h = absurd (of_code options items code input a h)

-- this holds with all options, schedules and sound codes
pub replays_are_as_code : RunsAreAsCode → ReplaysAreAsCode
replays_are_as_code law options are schedule items accepted code input may a h = (
  is law options are schedule items accepted code input may a h,
  says law options are schedule items accepted code input may a h,
)
