-- A replay whose counts are told ends as one without them: its answer is that one's, with the counts.
use Rattle.std.proofs.Common.{◌≡◌, ℕ, List, [], ◌∷◌, inl, inr}
use Rattle.ppm_words.specs.declared.named_array.NamedArray.{NamedArray}
use Rattle.ppm_ports.specs.Outside.{Ports}
use Rattle.ppm_tree.specs.Tree.{ProgramTree}
use Rattle.ppm_code.specs.declared.code.CodeParts.{CodeParts}
use Rattle.ppm_answers.specs.declared.answer.Answer.{Answer}
use Rattle.ppm_answers.specs.declared.answer.Answer.TheVariants as answers
use Rattle.ppm_answers.specs.declared.run_counts.RunCounts.{RunCounts}
use Rattle.ppm_answers.specs.declared.status.Status.{Status}
use Rattle.ppm_answers.specs.declared.status.Status.TheVariants as statuses
use Rattle.ppm_answers.specs.declared.sweep.Came.{Came}
use Rattle.ppm_answers.specs.declared.sweep.Came.TheVariants as came
use Rattle.ppm_answers.specs.Rows.{IsOneOf}
use Rattle.ppm_answers.specs.Statuses.{came_status, status_of}
use Rattle.ppm_answers.specs.Texts.{tally_in}
use Rattle.ppm_cli.specs.declared.replay.ReplayOptions.{ReplayOptions}
use Rattle.ppm_cli.specs.Words.{AreReplayed}
use Rattle.ppm_replay_command.specs.CaseReplays.{ReplayCaseHas}
use Rattle.ppm_replay_command.specs.CountedCases.{CountedCaseHas}
use Rattle.ppm_replay_command.specs.CountedCaseRows.{CountedCaseRows}
use Rattle.ppm_replay_command.specs.CountedReplays.{CountedHas}
use Rattle.ppm_replay_command.specs.CountedReplayRows.{CountedRows}
use Rattle.ppm_outcomes.specs.Replays.{with_tally}
use Rattle.ppm_outcomes.specs.Replays.{ReplayHas}
use Rattle.ppm_outcomes.proofs.MayRunLemmas.{may_run}
use Rattle.ppm_replay_command.proofs.CountedLemmas.{of_code, of_program}
use Rattle.ppm_replay_command.specs.CompleteReplays.{CountedCaseReplayEnds, CountedReplayEnds}
use Rattle.ppm_replay_command.specs.ReplayLaws.{CaseReplaysComplete, IsReplayEnd, ReplaysComplete, UnfinishedNeedMore, UnfinishedProgramsNeedMore}

-- what ended is told with the status of an end
by_came : (status : Status) (c : Came) (n : RunCounts) → IsReplayEnd (with_tally c (tally_in n)) → status ≡ came_status c
    → IsOneOf status (statuses.Ended ∷ statuses.Trapped ∷ [])
by_came status (came.Ended arrays) n is own = inl own
by_came status (came.Trapped trap line) n is own = inr (inl own)
by_came status (came.Unfinished acts) n is own = absurd is
by_came status (came.OutOfRoom place) n is own = absurd is
by_came status (came.Broken place) n is own = absurd is

module _ (options : ReplayOptions) (schedule text : List ℕ) (status : Status) where
  -- the answer without the counts
  plain : (c : Came) (n : RunCounts) → CountedHas options schedule text (answers.ReplayedWith c n) → ReplayHas options schedule text (with_tally c (tally_in n))
  plain (came.Ended arrays) n h = record { items = h.items; accepted = h.accepted; has = (h.has.0, h.has.1, h.has.2.has) }
  plain (came.Trapped trap line) n h = record { items = h.items; accepted = h.accepted; has = (h.has.0, h.has.1, h.has.2.has) }
  plain (came.Unfinished acts) n h = record { items = h.items; accepted = h.accepted; has = (h.has.0, h.has.1, h.has.2.has) }
  plain (came.OutOfRoom place) n h = record { items = h.items; accepted = h.accepted; has = (h.has.0, h.has.1, h.has.2.has) }
  plain (came.Broken place) n h = record { items = h.items; accepted = h.accepted; has = (h.has.0, h.has.1, h.has.2.has) }

  -- where each answer without them is an end, so is this one
  ended : (a : Answer) → CountedHas options schedule text a → ((b : Answer) → ReplayHas options schedule text b → IsReplayEnd b) → status ≡ status_of a
      → IsOneOf status (statuses.Ended ∷ statuses.Trapped ∷ [])
  ended (answers.PlanRefused number) h all own = absurd (all (answers.PlanRefused number) h)
  ended (answers.SourceRefused r) h all own =
      absurd (all (answers.SourceRefused r) (record { items = h.items; accepted = h.accepted; has = h.has }))
  ended (answers.ReplayedWith c n) h all own = by_came status c n (all (with_tally c (tally_in n)) (plain c n h)) own
  ended a h all own = absurd (of_program options h.items h.has.0 a h.has.2)

  -- and likewise of a case
  plain_case : (c : Came) (n : RunCounts) → CountedCaseHas options schedule text (answers.ReplayedWith c n)
      → ReplayCaseHas options schedule text (with_tally c (tally_in n))
  plain_case (came.Ended arrays) n h =
      record { items = h.items; accepted = h.accepted; has = record { code = h.has.code; input = h.has.input; is = h.has.is; has = h.has.has.has } }
  plain_case (came.Trapped trap line) n h =
      record { items = h.items; accepted = h.accepted; has = record { code = h.has.code; input = h.has.input; is = h.has.is; has = h.has.has.has } }
  plain_case (came.Unfinished acts) n h =
      record { items = h.items; accepted = h.accepted; has = record { code = h.has.code; input = h.has.input; is = h.has.is; has = h.has.has.has } }
  plain_case (came.OutOfRoom place) n h =
      record { items = h.items; accepted = h.accepted; has = record { code = h.has.code; input = h.has.input; is = h.has.is; has = h.has.has.has } }
  plain_case (came.Broken place) n h =
      record { items = h.items; accepted = h.accepted; has = record { code = h.has.code; input = h.has.input; is = h.has.is; has = h.has.has.has } }

  ended_case : (a : Answer) → CountedCaseHas options schedule text a → ((b : Answer) → ReplayCaseHas options schedule text b → IsReplayEnd b)
      → status ≡ status_of a → IsOneOf status (statuses.Ended ∷ statuses.Trapped ∷ [])
  ended_case (answers.PlanRefused number) h all own = absurd (all (answers.PlanRefused number) h)
  ended_case (answers.InputRefused r) h all own =
      absurd (all (answers.InputRefused r) (record { items = h.items; accepted = h.accepted; has = h.has }))
  ended_case (answers.ListingRefused r) h all own =
      absurd (all (answers.ListingRefused r) (record { items = h.items; accepted = h.accepted; has = h.has }))
  ended_case (answers.ReplayedWith c n) h all own = by_came status c n (all (with_tally c (tally_in n)) (plain_case c n h)) own
  ended_case a h all own = absurd (of_code options h.items h.has.code h.has.input a h.has.has)

module _ (options : ReplayOptions) (are : AreReplayed options) (schedule : List ℕ) (o : Ports) (status : Status) where
  -- from the rows of `replay` with its counts
  pub counted_replay_ends : UnfinishedProgramsNeedMore → ReplaysComplete → CountedRows options schedule o status
      → CountedReplayEnds options schedule o status
  counted_replay_ends more complete rows = record {
    unfinished = λ w.
        let r = w.replays.read.2 in
        more options are schedule r.items r.accepted w.replays.read.0 r.has.0 r.has.1 options.turns r.has.2.has;
    completes = λ items accepted all e t has enough well.
        let k = rows.rows.rows.known all e well in
        ended options schedule all status k.0 k.1 (λ b h. complete options are schedule items accepted all t has enough b h) k.2.own;
  }

  -- and from those of a case
  pub counted_case_replay_ends : UnfinishedNeedMore → CaseReplaysComplete → CountedCaseRows options schedule o status
      → CountedCaseReplayEnds options schedule o status
  counted_case_replay_ends more complete rows = record {
    unfinished = λ w sound.
        let r = w.replays.read.2 in
        more options are schedule r.items r.accepted r.has.code r.has.input (may_run w.replays.read.0 r.has.code r.has.input r.has.is sound) options.turns
        r.has.has.has;
    completes = λ items accepted all e code input is sound enough well.
        let k = rows.rows.rows.known all e well in
        ended_case options schedule all status k.0 k.1
        (λ b h. complete options are schedule items accepted all code input is sound enough b h) k.2.own;
  }
