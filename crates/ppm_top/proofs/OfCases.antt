-- The rows of the commands that run a case by a plan or a schedule, from an answer of the words that ask for them.
use Rattle.std.proofs.Common.{◌≡◌, ℕ, List, Some, subst}
use Rattle.ppm_ports.specs.Outside.{Outside, ports_of}
use Rattle.ppm_answers.specs.declared.status.Status.{Status}
use Rattle.ppm_answers.specs.declared.status.Status.TheVariants as statuses
use Rattle.ppm_answers.specs.Reading.{DeliversAnswer, Answers}
use Rattle.ppm_answers.proofs.Delivered.{of_answers}
use Rattle.ppm_cli.specs.declared.command.Command.{Command}
use Rattle.ppm_cli.specs.declared.command.Command.TheVariants as commands
use Rattle.ppm_cli.specs.declared.replay.ReplayOptions.{ReplayOptions}
use Rattle.ppm_cli.specs.declared.run.RunOptions.{RunOptions}
use Rattle.ppm_cli.specs.declared.stop.StopOptions.{StopOptions}
use Rattle.ppm_cli.specs.Words.{command_of, AreReplayed}
use Rattle.ppm_cli.proofs.RangeLemmas.{is_in_range}
use Rattle.ppm_plan.specs.Forms.{plan_form, schedule_form}
use Rattle.ppm_loading.specs.MachineRows.{RefusesPlan}
use Rattle.ppm_driver.specs.CaseHeadline.{CaseHeadline}
use Rattle.ppm_replay_command.specs.CaseReplayRows.{ReplayCaseRows, ReplayCaseSays}
use Rattle.ppm_stop_command.specs.CaseStopRows.{StopCaseSays}
use Rattle.ppm_replay_command.proofs.OfReplayCase.{replay_case_rows}
use Rattle.ppm_driver.proofs.OfRunCase.{case_rows}
use Rattle.ppm_stop_command.proofs.CaseStoppedLemmas.{saved_by_code}
use Rattle.ppm_stop_command.proofs.OfStopCase.{stop_case_rows}
use Rattle.ppm_top.specs.Causes.{CommandMay, CommandTells, IsAnswered}
use Rattle.ppm_top.specs.Laws.{ProgramLaws}
use Rattle.ppm_replay_command.proofs.CompleteReplay.{case_replay_ends}
use Rattle.ppm_top.specs.Rows.{RunsCaseByWords, ReplaysCaseByWords, StopsCaseByWords}

module _ (laws : ProgramLaws) (words : List (List ℕ)) (o : Outside) (status : Status) (a : IsAnswered words o status) where
  -- what was delivered of the command that the words give
  delivered : (command : Command) → command_of words ≡ Some command → DeliversAnswer (CommandMay (Some command) o) (ports_of o) status
  delivered command e =
      subst (λ c. DeliversAnswer (CommandMay c o) (ports_of o) status) e
      (of_answers (CommandMay (command_of words) o) (CommandTells (command_of words) o) o status a)

  -- of `run`
  pub runs_case : RunsCaseByWords words o status
  runs_case options plan e =
      let are = is_in_range words (commands.RunCase options plan) e in (
        are,
        case_rows
            (record {
              runs = laws.case_runs;
              texts = laws.case_faults;
              plans = laws.plans;
              one = laws.case_answers;
              fronts = laws.case_fronts;
            }) options are options.processors plan o status
            (subst (λ c. Answers (CommandMay c o) (CommandTells c o) o status) e a),
      )

  -- of `replay`
  replayed : (options : ReplayOptions) → AreReplayed options → (schedule : List ℕ) → command_of words ≡ Some (commands.ReplayCase options schedule)
      → ReplayCaseRows options schedule (ports_of o) status
  replayed options are schedule e =
      replay_case_rows laws.case_replays options are schedule (ports_of o) status (delivered (commands.ReplayCase options schedule) e) laws.plans
      laws.replayed_cases

  pub replays_case : ReplaysCaseByWords words o status
  replays_case options schedule e =
      let are = is_in_range words (commands.ReplayCase options schedule) e in (
        are,
        replayed options are schedule e,
        case_replay_ends options are schedule (ports_of o) status laws.unfinished_codes laws.complete_cases (replayed options are schedule e),
      )

  -- of `stop`
  pub stops_case : StopsCaseByWords words o status
  stops_case options schedule e =
      let range = is_in_range words (commands.StopCase options schedule) e in (
        range,
        record {
          says = stop_case_rows options schedule (ports_of o) status (delivered (commands.StopCase options schedule) e) laws.plans laws.stopped_cases;
          left = saved_by_code laws.leave_cases options range schedule (ports_of o);
        },
      )

  -- status 3 comes of the plan alone
  pub case_plan_refused : (options : RunOptions) (plan : List ℕ) → command_of words ≡ Some (commands.RunCase options plan)
      → status ≡ statuses.WordsRefused → RefusesPlan plan_form plan options.processors (ports_of o)
  case_plan_refused options plan e refused =
      let h = subst (CaseHeadline options options.processors plan o) refused (runs_case options plan e).1.headline in
      record { number = h.0; refused = h.1.refused; gets = h.2.on_err.0 }

  -- or of the schedule alone
  pub case_schedule_refused : (options : ReplayOptions) (schedule : List ℕ) → command_of words ≡ Some (commands.ReplayCase options schedule)
      → status ≡ statuses.WordsRefused → RefusesPlan schedule_form schedule options.processors (ports_of o)
  case_schedule_refused options schedule e refused =
      (subst (ReplayCaseSays options schedule (ports_of o)) refused (replays_case options schedule e).1.rows.rows.says).0

  -- or of that of a stop
  pub case_stop_refused : (options : StopOptions) (schedule : List ℕ) → command_of words ≡ Some (commands.StopCase options schedule)
      → status ≡ statuses.WordsRefused → RefusesPlan schedule_form schedule options.processors (ports_of o)
  case_stop_refused options schedule e refused =
      (subst (StopCaseSays options schedule (ports_of o)) refused (stops_case options schedule e).1.says.rows.rows.says).0
