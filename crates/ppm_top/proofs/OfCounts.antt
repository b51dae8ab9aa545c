-- The rows of `replay`, of `run` and of `resume` where their counts are told, from an answer of the words that ask for them.
use Rattle.std.proofs.Common.{◌≡◌, ℕ, List, Some, subst}
use Rattle.ppm_ports.specs.Outside.{Outside, ports_of}
use Rattle.ppm_answers.specs.declared.status.Status.{Status}
use Rattle.ppm_answers.specs.declared.status.Status.TheVariants as statuses
use Rattle.ppm_answers.specs.Reading.{DeliversAnswer}
use Rattle.ppm_answers.proofs.Delivered.{of_answers}
use Rattle.ppm_cli.specs.declared.command.Command.{Command}
use Rattle.ppm_cli.specs.declared.command.Command.TheVariants as commands
use Rattle.ppm_cli.specs.declared.replay.ReplayOptions.{ReplayOptions}
use Rattle.ppm_cli.specs.declared.resume.ResumeOptions.{ResumeOptions}
use Rattle.ppm_cli.specs.declared.run.RunOptions.{RunOptions}
use Rattle.ppm_cli.specs.Words.{command_of}
use Rattle.ppm_cli.proofs.RangeLemmas.{is_in_range}
use Rattle.ppm_plan.specs.Forms.{plan_form, schedule_form}
use Rattle.ppm_loading.specs.MachineRows.{RefusesPlan}
use Rattle.ppm_driver.specs.CountedRunCaseRows.{CountedRunCaseSays}
use Rattle.ppm_driver.specs.CountedRunRows.{CountedRunSays}
use Rattle.ppm_driver.proofs.OfCountedRun.{counted_run_rows}
use Rattle.ppm_driver.proofs.OfCountedRunCase.{counted_run_case_rows}
use Rattle.ppm_stop_command.specs.CountedResumeRows.{CountedResumeSays, RefusesPlan as RefusesCountedResume}
use Rattle.ppm_stop_command.proofs.OfCountedResume.{counted_resume_rows}
use Rattle.ppm_replay_command.specs.CountedCaseRows.{CountedCaseSays}
use Rattle.ppm_replay_command.specs.CountedReplayRows.{CountedSays}
use Rattle.ppm_replay_command.proofs.OfCounted.{counted_rows}
use Rattle.ppm_replay_command.proofs.OfCountedCase.{counted_case_rows}
use Rattle.ppm_top.specs.Causes.{CommandMay, CommandTells, IsAnswered}
use Rattle.ppm_top.specs.Laws.{ProgramLaws}
use Rattle.ppm_top.specs.Rows.{CountsByWords, CountsCaseByWords, CountsResumeByWords, CountsRunByWords, CountsRunCaseByWords}
use Rattle.ppm_replay_command.proofs.CountedComplete.{counted_case_replay_ends, counted_replay_ends}

module _ (laws : ProgramLaws) (words : List (List ℕ)) (o : Outside) (status : Status) (a : IsAnswered words o status) where
  -- what was delivered of the command that the words give
  delivered : (command : Command) → command_of words ≡ Some command → DeliversAnswer (CommandMay (Some command) o) (ports_of o) status
  delivered command e =
      subst (λ c. DeliversAnswer (CommandMay c o) (ports_of o) status) e
      (of_answers (CommandMay (command_of words) o) (CommandTells (command_of words) o) o status a)

  -- of a source
  pub counts : CountsByWords words o status
  counts options schedule e =
      let are = is_in_range words (commands.CountedReplay options schedule) e in
      let rows = counted_rows laws.meant options are schedule (ports_of o) status (delivered (commands.CountedReplay options schedule) e) laws.plans
      laws.counted in
      (are, rows, counted_replay_ends options are schedule (ports_of o) status laws.unfinished laws.complete_replays rows)

  -- of a case
  pub counts_case : CountsCaseByWords words o status
  counts_case options schedule e =
      let are = is_in_range words (commands.CountedReplayCase options schedule) e in
      let rows = counted_case_rows laws.case_replays options are schedule (ports_of o) status
      (delivered (commands.CountedReplayCase options schedule) e) laws.plans laws.counted_cases in
      (are, rows, counted_case_replay_ends options are schedule (ports_of o) status laws.unfinished_codes laws.complete_cases rows)

  -- status 3 comes of the schedule alone
  pub counted_refused : (options : ReplayOptions) (schedule : List ℕ) → command_of words ≡ Some (commands.CountedReplay options schedule)
      → status ≡ statuses.WordsRefused → RefusesPlan schedule_form schedule options.processors (ports_of o)
  counted_refused options schedule e refused =
      (subst (CountedSays options schedule (ports_of o)) refused (counts options schedule e).1.rows.rows.says).0

  -- or of that of a case
  pub counted_case_refused : (options : ReplayOptions) (schedule : List ℕ) → command_of words ≡ Some (commands.CountedReplayCase options schedule)
      → status ≡ statuses.WordsRefused → RefusesPlan schedule_form schedule options.processors (ports_of o)
  counted_case_refused options schedule e refused =
      (subst (CountedCaseSays options schedule (ports_of o)) refused (counts_case options schedule e).1.rows.rows.says).0

  -- of `run`
  pub counts_run : CountsRunByWords words o status
  counts_run options plan e =
      let are = is_in_range words (commands.CountedRun options plan) e in (
        are,
        counted_run_rows laws.meant laws.fronts options are plan (ports_of o) status (delivered (commands.CountedRun options plan) e) laws.plans
            laws.counted_runs laws.complete,
      )

  -- of `run` of a case
  pub counts_run_case : CountsRunCaseByWords words o status
  counts_run_case options plan e =
      let are = is_in_range words (commands.CountedRunCase options plan) e in (
        are,
        counted_run_case_rows
            (record {
              runs = laws.case_runs;
              texts = laws.case_faults;
              plans = laws.plans;
              one = laws.case_answers;
              fronts = laws.case_fronts;
            }) options are plan (ports_of o) status (delivered (commands.CountedRunCase options plan) e) laws.counted_run_cases,
      )

  -- of `resume`
  pub counts_resume : CountsResumeByWords words o status
  counts_resume options plan e = (
    is_in_range words (commands.CountedResume options plan) e,
    counted_resume_rows laws.resumes options plan (ports_of o) status (delivered (commands.CountedResume options plan) e),
  )

  -- status 3 comes of the plan alone
  pub counted_run_refused : (options : RunOptions) (plan : List ℕ) → command_of words ≡ Some (commands.CountedRun options plan)
      → status ≡ statuses.WordsRefused → RefusesPlan plan_form plan options.processors (ports_of o)
  counted_run_refused options plan e refused =
      (subst (CountedRunSays options plan (ports_of o)) refused (counts_run options plan e).1.rows.rows.says).0

  pub counted_run_case_refused : (options : RunOptions) (plan : List ℕ) → command_of words ≡ Some (commands.CountedRunCase options plan)
      → status ≡ statuses.WordsRefused → RefusesPlan plan_form plan options.processors (ports_of o)
  counted_run_case_refused options plan e refused =
      (subst (CountedRunCaseSays options plan (ports_of o)) refused (counts_run_case options plan e).1.rows.rows.says).0

  pub counted_resume_refused : (options : ResumeOptions) (plan : List ℕ) → command_of words ≡ Some (commands.CountedResume options plan)
      → status ≡ statuses.WordsRefused → RefusesCountedResume options plan (ports_of o)
  counted_resume_refused options plan e refused =
      subst (CountedResumeSays options plan (ports_of o)) refused (counts_resume options plan e).1.rows.says
