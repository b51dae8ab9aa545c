-- The rows of `resume` where its counts are told.
use Rattle.std.proofs.Common.{◌≡◌, ◌∙◌, ℕ, List, [], inl, inr, refl}
use Rattle.ppm_ports.specs.Outside.{Ports}
use Rattle.ppm_tree.specs.Program.{initial_arrays}
use Rattle.ppm_cut_code.specs.Routines.{code_of}
use Rattle.ppm_saved_reader.specs.Rules.{saved_limit}
use Rattle.ppm_answers.specs.declared.answer.Answer.{Answer}
use Rattle.ppm_answers.specs.declared.answer.Answer.TheVariants as answers
use Rattle.ppm_answers.specs.declared.ran.Ran.{Ran}
use Rattle.ppm_answers.specs.declared.ran.Ran.TheVariants as ran
use Rattle.ppm_answers.specs.declared.run_counts.RunCounts.{RunCounts}
use Rattle.ppm_answers.specs.declared.status.Status.{Status}
use Rattle.ppm_answers.specs.Delivery.{IsWritten}
use Rattle.ppm_answers.specs.Reading.{DeliversAnswer}
use Rattle.ppm_answers.specs.Rows.{TextRows}
use Rattle.ppm_answers.specs.Statuses.{ran_status, status_of}
use Rattle.ppm_answers.proofs.RowsLemmas.{SaysOfPorts}
use Rattle.ppm_answers.proofs.Judged.{text_rows}
use Rattle.ppm_cli.specs.declared.resume.ResumeOptions.{ResumeOptions}
use Rattle.ppm_outcomes.specs.CountedResumes.{TextHas, CountedResumeMay}
use Rattle.ppm_outcomes.specs.ResumeCompleteness.{ResumesComplete}
use Rattle.ppm_outcomes.specs.ResumeLaws.{ResumeLaws}
use Rattle.ppm_outcomes.specs.Resumes.{limits_of, plan_of}
use Rattle.ppm_outcomes.specs.Resumes as plain
use Rattle.ppm_outcomes.proofs.CountedResumeLemmas.{fronts_decide}
use Rattle.ppm_outcomes.proofs.LeftLemmas.{text_by_code}
use Rattle.ppm_outcomes.proofs.ResumeComplete.{resumes_complete}
use Rattle.ppm_outcomes.proofs.ResumedOfCode.{left_words_stand, resumes_are_as_code}
use Rattle.ppm_outcomes.proofs.ResumeLemmas.{spent_has, filled_has}
use Rattle.ppm_outcomes.proofs.StrikeLemmas.{strikes_are_planned}
use Rattle.ppm_stop_command.specs.CountedResumeRows.{HasRead, CountedResumeSays, CountedResumeRows}
use Rattle.ppm_stop_command.proofs.OfResume.{ended, program_breaks, program_ends, program_full, program_is, program_needs_turns, program_once}
use Rattle.ppm_stop_command.proofs.OfResume.{program_stands, program_traps, short_behind_stop}

-- what a text has with counts, it has without them, at one status
abbrev IsPlain : ResumeOptions → (plan text : List ℕ) → Answer → Type 0
IsPlain options plan text a = (b : Answer) × plain.TextHas options plan [] [] text b × (status_of a ≡ status_of b)

of_ran : (options : ResumeOptions) (plan text : List ℕ) (r : Ran) (n : RunCounts) → TextHas options plan text (answers.RanWith r n)
    → IsPlain options plan text (answers.RanWith r n)
of_ran options plan text (ran.Ended arrays) n h = (
  answers.Ended arrays,
  record { state = h.state; is = h.is; has = record { items = h.has.items; accepted = h.has.accepted; has = h.has.has.has } },
  refl,
)
of_ran options plan text (ran.Trapped trap line) n h = (
  answers.Trapped trap line,
  record { state = h.state; is = h.is; has = record { items = h.has.items; accepted = h.has.accepted; has = h.has.has.has } },
  refl,
)
of_ran options plan text (ran.OutOfTurns processor) n h = (
  answers.OutOfTurns processor,
  record { state = h.state; is = h.is; has = record { items = h.has.items; accepted = h.has.accepted; has = h.has.has.has } },
  refl,
)
of_ran options plan text (ran.OutOfRoom place) n h = (
  answers.OutOfRoom place,
  record { state = h.state; is = h.is; has = record { items = h.has.items; accepted = h.has.accepted; has = h.has.has.has } },
  refl,
)
of_ran options plan text (ran.Broken place) n h = (
  answers.Broken place,
  record { state = h.state; is = h.is; has = record { items = h.has.items; accepted = h.has.accepted; has = inr h.has.has.has } },
  refl,
)

is_plain : (options : ResumeOptions) (plan text : List ℕ) (a : Answer) → TextHas options plan text a → IsPlain options plan text a
is_plain options plan text (answers.SavedRefused r) h = (answers.SavedRefused r, h, refl)
is_plain options plan text (answers.PlanRefused number) h = (answers.PlanRefused number, record { state = h.state; is = h.is; has = h.has }, refl)
is_plain options plan text (answers.RanWith r n) h = of_ran options plan text r n h
is_plain options plan text (answers.Broken place) h = (
  answers.Broken place,
  record {
    state = h.state;
    is = h.is;
    has = record {
      items = h.has.items;
      accepted = h.has.accepted;
      has = inl (record { none = h.has.has.0; still = refl }, h.has.has.1);
    };
  },
  refl,
)
is_plain options plan text a h = absurd h.has.has

module _ (laws : ResumeLaws) (options : ResumeOptions) (plan : List ℕ) (o : Ports) where
  -- what is said of faults and of want of memory
  of_ports : SaysOfPorts o (CountedResumeSays options plan o)
  of_ports = record { read_fault = λ f. f; write_fault = λ f. f; memory = tt }

  -- what it came to says the sentence of its status
  by_ran : (r : Ran) (n : RunCounts) → HasRead options plan o (answers.RanWith r n) → IsWritten o.out o.err (answers.RanWith r n) (ran_status r)
      → CountedResumeSays options plan o (ran_status r)
  by_ran (ran.Ended arrays) n h w = record {
    arrays = arrays;
    counts = n;
    read = h;
    meant = λ source left. program_ends laws options [] [] h.2.has.items h.2.state source left arrays h.2.has.has.has;
    gets = w.out_takes.0;
  }
  by_ran (ran.Trapped trap line) n h w = record {
    trap = trap;
    line = line;
    counts = n;
    read = h;
    meant = λ source left. program_traps laws options [] [] h.2.has.items h.2.state source left trap line h.2.has.has.has;
    gets = w.out_takes.0;
  }
  by_ran (ran.OutOfTurns processor) n h w =
      let spent = spent_has options [] [] h.2.has.items h.2.state processor h.2.has.has.has in record {
        processor = processor;
        counts = n;
        read = h;
        spent = spent;
        needs = λ source left. program_needs_turns laws options [] [] h.2.has.items h.2.state source left processor h.2.has.has.has spent.1;
        struck = strikes_are_planned (plan_of h.2.state h.2.has.items) (limits_of options) h.2.has.has.has.start h.2.has.has.has.run.turns
            h.2.has.has.has.run.obey;
        stopped = λ source faults left.
            short_behind_stop laws.legs laws.comes options [] [] h.2.has.items (code_of left.by.tree) (initial_arrays left.by.tree)
            (laws.programs source left.by.tree left.by.has).may faults h.0 (text_by_code source faults h.0 left) processor h.2.state h.2.is
            h.2.has.has.has spent.1;
        once = λ source left. program_once laws options [] [] h.2.has.items h.2.state source left (answers.OutOfTurns processor) h.2.has.has.has;
        gets = w.err_takes.0;
      }
  by_ran (ran.OutOfRoom place) n h w = record {
    place = place;
    counts = n;
    read = h;
    full = filled_has options [] [] h.2.has.items h.2.state place h.2.has.has.has;
    there = λ source left. (program_full laws options [] [] h.2.has.items h.2.state source left place h.2.has.has.has).0;
    needs = λ source left. (program_full laws options [] [] h.2.has.items h.2.state source left place h.2.has.has.has).1;
    once = λ source left. program_once laws options [] [] h.2.has.items h.2.state source left (answers.OutOfRoom place) h.2.has.has.has;
    gets = w.err_takes.0;
  }
  by_ran (ran.Broken place) n h w = inl (record {
    place = place;
    counts = n;
    read = h;
    late = λ source left. program_breaks laws options [] [] h.2.has.items h.2.state source left place h.2.has.has.has;
    gets = w.err_takes.0;
  })

  -- an answer that is written says the sentence of its status
  by : (answer : Answer) → HasRead options plan o answer → IsWritten o.out o.err answer (status_of answer)
      → CountedResumeSays options plan o (status_of answer)
  by (answers.SavedRefused r) h w = (r, h, w.err_takes.0)
  by (answers.PlanRefused number) h w = (number, h, w.err_takes.0)
  by (answers.RanWith r n) h w = by_ran r n h w
  by (answers.Broken place) h w = inr (record {
    place = place;
    read = h;
    by_none = λ source left. program_stands laws options [] [] h.2.has.items h.2.state source left h.2.has.has.0;
    gets = w.err_takes.0;
  })
  by answer h w = absurd h.2.has.has

  module _ (status : Status) (a : DeliversAnswer (CountedResumeMay options plan o.source) o status) where
    rows_of : TextRows saved_limit (TextHas options plan) (CountedResumeSays options plan o) o status
    rows_of = text_rows saved_limit (TextHas options plan) (fronts_decide options plan) (CountedResumeSays options plan o) o status a of_ports by

    pub counted_resume_rows : CountedResumeRows options plan o status
    counted_resume_rows = record {
      rows = rows_of;
      meant = λ items z answer h source left. program_is laws options [] [] items z source left answer h;
      completes = λ are all e z is items accepted source left enough well.
          let k = rows_of.known all e well in
          let p = is_plain options plan all k.0 k.1 in
          let complete : ResumesComplete = resumes_complete laws.programs laws.complete in
          ended status p.0 (complete options are all z is plan items accepted source left enough [] [] p.0 p.1) (k.2.own ∙ p.2);
      codes = record {
        as_code = resumes_are_as_code laws.legs laws.comes options [] [];
        stand = left_words_stand laws.legs laws.comes;
        completes = λ are all e z is items accepted code input may left enough well.
            let k = rows_of.known all e well in
            let p = is_plain options plan all k.0 k.1 in
            ended status p.0 (laws.complete options are all z is plan items accepted code input may left enough [] [] p.0 p.1) (k.2.own ∙ p.2);
      };
    }
