-- The rows of `ram`, from an answer of the words that ask for it.
use Rattle.std.proofs.Common.{◌≡◌, ℕ, List, Some, subst}
use Rattle.ppm_ports.specs.Outside.{Outside, ports_of}
use Rattle.ppm_answers.specs.declared.status.Status.{Status}
use Rattle.ppm_answers.specs.declared.status.Status.TheVariants as statuses
use Rattle.ppm_answers.specs.Reading.{Answers}
use Rattle.ppm_cli.specs.declared.command.Command.TheVariants as commands
use Rattle.ppm_cli.specs.declared.run.RunOptions.{RunOptions}
use Rattle.ppm_cli.specs.Words.{command_of}
use Rattle.ppm_cli.proofs.RangeLemmas.{is_in_range}
use Rattle.ppm_plan.specs.Forms.{plan_form}
use Rattle.ppm_loading.specs.MachineRows.{RefusesPlan}
use Rattle.ppm_driver.specs.RamHeadline.{RamHeadline}
use Rattle.ppm_driver.proofs.OfRam.{ram_rows}
use Rattle.ppm_top.specs.Causes.{CommandMay, CommandTells, IsAnswered}
use Rattle.ppm_top.specs.Laws.{ProgramLaws}
use Rattle.ppm_top.specs.Rows.{RunsRamByWords}

module _ (laws : ProgramLaws) (words : List (List ℕ)) (o : Outside) (status : Status) (a : IsAnswered words o status) where
  pub runs_ram : RunsRamByWords words o status
  runs_ram options plan e =
      let are = is_in_range words (commands.Ram options plan) e in (
        are,
        ram_rows
            (record {
              runs = laws.ram_runs;
              texts = laws.ram_texts;
              plans = laws.plans;
              one = laws.ram_answers;
              fronts = laws.ram_fronts;
            }) options are options.processors plan o status
            (subst (λ c. Answers (CommandMay c o) (CommandTells c o) o status) e a),
      )

  -- status 3 comes of the plan alone
  pub ram_plan_refused : (options : RunOptions) (plan : List ℕ) → command_of words ≡ Some (commands.Ram options plan)
      → status ≡ statuses.WordsRefused → RefusesPlan plan_form plan options.processors (ports_of o)
  ram_plan_refused options plan e refused =
      let h = subst (RamHeadline options options.processors plan o) refused (runs_ram options plan e).1.headline in
      record { number = h.0; refused = h.1.refused; gets = h.2.on_err.0 }
