-- The commands that have a plan or a schedule among their words.
use Rattle.std.specs.Prelude.{ℕ, List, Option, Some, None}
use Rattle.ppm_cli.specs.declared.command.Command.{Command}
use Rattle.ppm_cli.specs.declared.command.Command.TheVariants as commands

-- the bytes of a plan or of a schedule, and the processors that it is for
pub record Orders : Type 0 where
  pub processors : ℕ
  pub bytes : List ℕ

-- the plan by which a command runs threads; that of `resume` is for the processors of the text that is read
abbrev pub plan_of : Command → Option Orders
plan_of (commands.Run options plan) = Some (record { processors = options.processors; bytes = plan })
plan_of (commands.RunCase options plan) = Some (record { processors = options.processors; bytes = plan })
plan_of (commands.CountedRun options plan) = Some (record { processors = options.processors; bytes = plan })
plan_of (commands.CountedRunCase options plan) = Some (record { processors = options.processors; bytes = plan })
plan_of (commands.Ram options plan) = Some (record { processors = options.processors; bytes = plan })
plan_of _ = None

-- the schedule that a command follows; one that goes on from a saved text is for the processors of this text
abbrev pub schedule_of : Command → Option Orders
schedule_of (commands.Replay options schedule) = Some (record { processors = options.processors; bytes = schedule })
schedule_of (commands.ReplayCase options schedule) = Some (record { processors = options.processors; bytes = schedule })
schedule_of (commands.CountedReplay options schedule) = Some (record { processors = options.processors; bytes = schedule })
schedule_of (commands.CountedReplayCase options schedule) = Some (record { processors = options.processors; bytes = schedule })
schedule_of (commands.Stop options schedule) = Some (record { processors = options.processors; bytes = schedule })
schedule_of (commands.StopCase options schedule) = Some (record { processors = options.processors; bytes = schedule })
schedule_of (commands.Sweep options schedule) = Some (record { processors = options.processors; bytes = schedule })
schedule_of (commands.SweepCase options schedule) = Some (record { processors = options.processors; bytes = schedule })
schedule_of (commands.Trace options schedule) = Some (record { processors = options.processors; bytes = schedule })
schedule_of (commands.TraceCase options schedule) = Some (record { processors = options.processors; bytes = schedule })
schedule_of _ = None

-- the schedule by which a command goes on from a saved text
abbrev pub saved_schedule_of : Command → Option (List ℕ)
saved_schedule_of (commands.StopSaved options schedule) = Some schedule
saved_schedule_of (commands.ReplaySaved options schedule) = Some schedule
saved_schedule_of (commands.CountedReplaySaved options schedule) = Some schedule
saved_schedule_of (commands.TraceSaved options schedule) = Some schedule
saved_schedule_of _ = None
