use Rattle.std.proofs.Common.{Some, None, map, refl}
use Rattle.std.specs.String.{string_bytes}
use Rattle.ppm_answers.specs.declared.answer.Answer.TheVariants as answers
use Rattle.ppm_cli.specs.declared.command.Command.TheVariants as commands
use Rattle.ppm_answers.proofs.Delivered.{fixed_delivered, left_alone}
use Rattle.ppm_top.proofs.CausesLemmas.{memory_before, by_command, by_ports, of_example, told_nothing}
use Rattle.ppm_answers.specs.Reading.{TellsNothing}
use Rattle.ppm_top.proofs.top.answer_words.Goals as goal

-- the words ask for the serial meaning, which was answered
pub returns-in-Ok-Some-Serial-clause-answers : goal.returns-in-Ok-Some-Serial-clause-answers
returns-in-Ok-Some-Serial-clause-answers g c = by_ports (map string_bytes c.args.words.now) _ _ (Some (commands.Serial _))
    (cc (c.in-Ok-Some-Serial.ensures.value, c.in-Ok-Some-Serial.field-0-is, c.in-Ok-Some-Serial.field-0-0-is)) refl refl
    c.serial_command.ensures.delivers

-- the words ask for the code, which was listed
pub returns-in-Ok-Some-Code-clause-answers : goal.returns-in-Ok-Some-Code-clause-answers
returns-in-Ok-Some-Code-clause-answers g c = by_ports (map string_bytes c.args.words.now) _ _ (Some commands.Code)
    (cc (c.in-Ok-Some-Code.ensures.value, c.in-Ok-Some-Code.field-0-is, c.in-Ok-Some-Code.field-0-0-is)) refl refl
    c.code_command.ensures.delivers

-- the words ask for the code with arrays, which were written
pub returns-in-Ok-Some-CodeCase-clause-answers : goal.returns-in-Ok-Some-CodeCase-clause-answers
returns-in-Ok-Some-CodeCase-clause-answers g c = by_ports (map string_bytes c.args.words.now) _ _ (Some commands.CodeCase)
    (cc (c.in-Ok-Some-CodeCase.ensures.value, c.in-Ok-Some-CodeCase.field-0-is, c.in-Ok-Some-CodeCase.field-0-0-is)) refl refl
    c.case_command.ensures.delivers

-- the words ask for a depth-first run, which was answered
pub returns-in-Ok-Some-Depth-clause-answers : goal.returns-in-Ok-Some-Depth-clause-answers
returns-in-Ok-Some-Depth-clause-answers g c = by_ports (map string_bytes c.args.words.now) _ _ (Some (commands.Depth _))
    (cc (c.in-Ok-Some-Depth.ensures.value, c.in-Ok-Some-Depth.field-0-is, c.in-Ok-Some-Depth.field-0-0-is)) refl refl
    c.depth_command.ensures.delivers

-- the words ask for races, which were sought
pub returns-in-Ok-Some-Races-clause-answers : goal.returns-in-Ok-Some-Races-clause-answers
returns-in-Ok-Some-Races-clause-answers g c = by_ports (map string_bytes c.args.words.now) _ _ (Some (commands.Races _))
    (cc (c.in-Ok-Some-Races.ensures.value, c.in-Ok-Some-Races.field-0-is, c.in-Ok-Some-Races.field-0-0-is)) refl refl
    c.races_command.ensures.delivers

-- the words ask to run strands by a schedule, which was answered
pub returns-in-Ok-Some-Strands-clause-answers : goal.returns-in-Ok-Some-Strands-clause-answers
returns-in-Ok-Some-Strands-clause-answers g c = by_ports (map string_bytes c.args.words.now) _ _ (Some (commands.Strands _ _))
    (cc (c.in-Ok-Some-Strands.ensures.value, c.in-Ok-Some-Strands.field-0-is, c.in-Ok-Some-Strands.field-0-0-is)) refl refl
    c.strands_command.ensures.delivers

-- the words ask to run strands by schedules that are drawn, which was answered
pub returns-in-Ok-Some-DrawnStrands-clause-answers : goal.returns-in-Ok-Some-DrawnStrands-clause-answers
returns-in-Ok-Some-DrawnStrands-clause-answers g c = by_ports (map string_bytes c.args.words.now) _ _ (Some (commands.DrawnStrands _))
    (cc (c.in-Ok-Some-DrawnStrands.ensures.value, c.in-Ok-Some-DrawnStrands.field-0-is, c.in-Ok-Some-DrawnStrands.field-0-0-is)) refl refl
    c.drawn_strands_command.ensures.delivers

-- the words ask for a check, which was answered
pub returns-in-Ok-Some-Check-clause-answers : goal.returns-in-Ok-Some-Check-clause-answers
returns-in-Ok-Some-Check-clause-answers g c = by_ports (map string_bytes c.args.words.now) _ _ (Some commands.Check)
    (cc (c.in-Ok-Some-Check.ensures.value, c.in-Ok-Some-Check.field-0-is, c.in-Ok-Some-Check.field-0-0-is)) refl refl
    c.check_command.ensures.delivers

-- the words ask to check a code whose strands may race, which was answered
pub returns-in-Ok-Some-CheckRacing-clause-answers : goal.returns-in-Ok-Some-CheckRacing-clause-answers
returns-in-Ok-Some-CheckRacing-clause-answers g c = by_ports (map string_bytes c.args.words.now) _ _ (Some commands.CheckRacing)
    (cc (c.in-Ok-Some-CheckRacing.ensures.value, c.in-Ok-Some-CheckRacing.field-0-is, c.in-Ok-Some-CheckRacing.field-0-0-is)) refl refl
    c.racing_check_command.ensures.delivers

-- the words ask for a state, which was shown
pub returns-in-Ok-Some-Show-clause-answers : goal.returns-in-Ok-Some-Show-clause-answers
returns-in-Ok-Some-Show-clause-answers g c = by_ports (map string_bytes c.args.words.now) _ _ (Some commands.Show)
    (cc (c.in-Ok-Some-Show.ensures.value, c.in-Ok-Some-Show.field-0-is, c.in-Ok-Some-Show.field-0-0-is)) refl refl
    c.show_command.ensures.delivers

-- the words ask to explain a text, which was explained
pub returns-in-Ok-Some-Explain-clause-answers : goal.returns-in-Ok-Some-Explain-clause-answers
returns-in-Ok-Some-Explain-clause-answers g c = by_ports (map string_bytes c.args.words.now) _ _ (Some (commands.Explain _))
    (cc (c.in-Ok-Some-Explain.ensures.value, c.in-Ok-Some-Explain.field-0-is, c.in-Ok-Some-Explain.field-0-0-is)) refl refl
    c.explain_command.ensures.delivers

-- the words ask to explain the trap of a source, which was run
pub returns-in-Ok-Some-ExplainTrap-clause-answers : goal.returns-in-Ok-Some-ExplainTrap-clause-answers
returns-in-Ok-Some-ExplainTrap-clause-answers g c = by_ports (map string_bytes c.args.words.now) _ _ (Some (commands.ExplainTrap _))
    (cc (c.in-Ok-Some-ExplainTrap.ensures.value, c.in-Ok-Some-ExplainTrap.field-0-is, c.in-Ok-Some-ExplainTrap.field-0-0-is)) refl refl
    c.explain_trap_command.ensures.delivers

-- the words ask to explain a plan or a schedule, which was explained, and nothing was read
pub returns-in-Ok-Some-ExplainOrders-clause-answers : goal.returns-in-Ok-Some-ExplainOrders-clause-answers
returns-in-Ok-Some-ExplainOrders-clause-answers g c = by_ports (map string_bytes c.args.words.now) _ _ (Some (commands.ExplainOrders _ _))
    (cc (c.in-Ok-Some-ExplainOrders.ensures.value, c.in-Ok-Some-ExplainOrders.field-0-is, c.in-Ok-Some-ExplainOrders.field-0-0-is)) refl refl
    (c.explain_orders_command.ensures _ (left_alone g.S.Source.left g.S.Source.fault_count c.args.source.now)).delivers

-- the words ask for a run, which was answered
pub returns-in-Ok-Some-Run-clause-answers : goal.returns-in-Ok-Some-Run-clause-answers
returns-in-Ok-Some-Run-clause-answers g c = by_command (map string_bytes c.args.words.now) _ _ (Some (commands.Run _ _))
    (cc (c.in-Ok-Some-Run.ensures.value, c.in-Ok-Some-Run.field-0-is, c.in-Ok-Some-Run.field-0-0-is))
    c.run_command.ensures.answers

-- the words ask for a run of a case, which was answered
pub returns-in-Ok-Some-RunCase-clause-answers : goal.returns-in-Ok-Some-RunCase-clause-answers
returns-in-Ok-Some-RunCase-clause-answers g c = by_command (map string_bytes c.args.words.now) _ _ (Some (commands.RunCase _ _))
    (cc (c.in-Ok-Some-RunCase.ensures.value, c.in-Ok-Some-RunCase.field-0-is, c.in-Ok-Some-RunCase.field-0-0-is))
    c.run_case_command.ensures.answers

-- the words ask for a replay of a case, which was answered
pub returns-in-Ok-Some-ReplayCase-clause-answers : goal.returns-in-Ok-Some-ReplayCase-clause-answers
returns-in-Ok-Some-ReplayCase-clause-answers g c = by_ports (map string_bytes c.args.words.now) _ _ (Some (commands.ReplayCase _ _))
    (cc (c.in-Ok-Some-ReplayCase.ensures.value, c.in-Ok-Some-ReplayCase.field-0-is, c.in-Ok-Some-ReplayCase.field-0-0-is)) refl refl
    c.replay_case_command.ensures.delivers

-- the words ask for a replay, which was answered
pub returns-in-Ok-Some-Replay-clause-answers : goal.returns-in-Ok-Some-Replay-clause-answers
returns-in-Ok-Some-Replay-clause-answers g c = by_ports (map string_bytes c.args.words.now) _ _ (Some (commands.Replay _ _))
    (cc (c.in-Ok-Some-Replay.ensures.value, c.in-Ok-Some-Replay.field-0-is, c.in-Ok-Some-Replay.field-0-0-is)) refl refl
    c.replay_command.ensures.delivers

-- the words ask for a replay with its counts, which was answered
pub returns-in-Ok-Some-CountedReplay-clause-answers : goal.returns-in-Ok-Some-CountedReplay-clause-answers
returns-in-Ok-Some-CountedReplay-clause-answers g c = by_ports (map string_bytes c.args.words.now) _ _ (Some (commands.CountedReplay _ _))
    (cc (c.in-Ok-Some-CountedReplay.ensures.value, c.in-Ok-Some-CountedReplay.field-0-is, c.in-Ok-Some-CountedReplay.field-0-0-is)) refl refl
    c.counted_replay_command.ensures.delivers

-- the words ask for a replay of a case with its counts, which was answered
pub returns-in-Ok-Some-CountedReplayCase-clause-answers : goal.returns-in-Ok-Some-CountedReplayCase-clause-answers
returns-in-Ok-Some-CountedReplayCase-clause-answers g c = by_ports (map string_bytes c.args.words.now) _ _ (Some (commands.CountedReplayCase _ _))
    (cc (c.in-Ok-Some-CountedReplayCase.ensures.value, c.in-Ok-Some-CountedReplayCase.field-0-is, c.in-Ok-Some-CountedReplayCase.field-0-0-is)) refl refl
    c.counted_replay_case_command.ensures.delivers

-- the words ask for a run with its counts, which was answered
pub returns-in-Ok-Some-CountedRun-clause-answers : goal.returns-in-Ok-Some-CountedRun-clause-answers
returns-in-Ok-Some-CountedRun-clause-answers g c = by_ports (map string_bytes c.args.words.now) _ _ (Some (commands.CountedRun _ _))
    (cc (c.in-Ok-Some-CountedRun.ensures.value, c.in-Ok-Some-CountedRun.field-0-is, c.in-Ok-Some-CountedRun.field-0-0-is)) refl refl
    c.counted_run_command.ensures.delivers

-- the words ask for a run of a case with its counts, which was answered
pub returns-in-Ok-Some-CountedRunCase-clause-answers : goal.returns-in-Ok-Some-CountedRunCase-clause-answers
returns-in-Ok-Some-CountedRunCase-clause-answers g c = by_ports (map string_bytes c.args.words.now) _ _ (Some (commands.CountedRunCase _ _))
    (cc (c.in-Ok-Some-CountedRunCase.ensures.value, c.in-Ok-Some-CountedRunCase.field-0-is, c.in-Ok-Some-CountedRunCase.field-0-0-is)) refl refl
    c.counted_run_case_command.ensures.delivers

-- the words ask to resume with counts, which was answered
pub returns-in-Ok-Some-CountedResume-clause-answers : goal.returns-in-Ok-Some-CountedResume-clause-answers
returns-in-Ok-Some-CountedResume-clause-answers g c = by_ports (map string_bytes c.args.words.now) _ _ (Some (commands.CountedResume _ _))
    (cc (c.in-Ok-Some-CountedResume.ensures.value, c.in-Ok-Some-CountedResume.field-0-is, c.in-Ok-Some-CountedResume.field-0-0-is)) refl refl
    c.counted_resume_command.ensures.delivers

-- the words ask to resume, which was answered
pub returns-in-Ok-Some-Resume-clause-answers : goal.returns-in-Ok-Some-Resume-clause-answers
returns-in-Ok-Some-Resume-clause-answers g c = by_command (map string_bytes c.args.words.now) _ _ (Some (commands.Resume _ _))
    (cc (c.in-Ok-Some-Resume.ensures.value, c.in-Ok-Some-Resume.field-0-is, c.in-Ok-Some-Resume.field-0-0-is))
    c.resume_command.ensures.answers

-- the words ask for a stop, which was answered
pub returns-in-Ok-Some-Stop-clause-answers : goal.returns-in-Ok-Some-Stop-clause-answers
returns-in-Ok-Some-Stop-clause-answers g c = by_ports (map string_bytes c.args.words.now) _ _ (Some (commands.Stop _ _))
    (cc (c.in-Ok-Some-Stop.ensures.value, c.in-Ok-Some-Stop.field-0-is, c.in-Ok-Some-Stop.field-0-0-is)) refl refl
    c.stop_command.ensures.delivers

-- the words ask for a stop of a case, which was answered
pub returns-in-Ok-Some-StopCase-clause-answers : goal.returns-in-Ok-Some-StopCase-clause-answers
returns-in-Ok-Some-StopCase-clause-answers g c = by_ports (map string_bytes c.args.words.now) _ _ (Some (commands.StopCase _ _))
    (cc (c.in-Ok-Some-StopCase.ensures.value, c.in-Ok-Some-StopCase.field-0-is, c.in-Ok-Some-StopCase.field-0-0-is)) refl refl
    c.stop_case_command.ensures.delivers

-- the words ask for a replay of a saved text, which was answered
pub returns-in-Ok-Some-ReplaySaved-clause-answers : goal.returns-in-Ok-Some-ReplaySaved-clause-answers
returns-in-Ok-Some-ReplaySaved-clause-answers g c = by_ports (map string_bytes c.args.words.now) _ _ (Some (commands.ReplaySaved _ _))
    (cc (c.in-Ok-Some-ReplaySaved.ensures.value, c.in-Ok-Some-ReplaySaved.field-0-is, c.in-Ok-Some-ReplaySaved.field-0-0-is)) refl refl
    c.replay_saved_command.ensures.delivers

-- the words ask to go on from a saved text by a schedule, and to tell what is counted, which was answered
pub returns-in-Ok-Some-CountedReplaySaved-clause-answers : goal.returns-in-Ok-Some-CountedReplaySaved-clause-answers
returns-in-Ok-Some-CountedReplaySaved-clause-answers g c = by_ports (map string_bytes c.args.words.now) _ _ (Some (commands.CountedReplaySaved _ _))
    (cc (c.in-Ok-Some-CountedReplaySaved.ensures.value, c.in-Ok-Some-CountedReplaySaved.field-0-is, c.in-Ok-Some-CountedReplaySaved.field-0-0-is)) refl refl
    c.counted_replay_saved_command.ensures.delivers

-- the words ask for a stop of a saved text, which was answered
pub returns-in-Ok-Some-StopSaved-clause-answers : goal.returns-in-Ok-Some-StopSaved-clause-answers
returns-in-Ok-Some-StopSaved-clause-answers g c = by_ports (map string_bytes c.args.words.now) _ _ (Some (commands.StopSaved _ _))
    (cc (c.in-Ok-Some-StopSaved.ensures.value, c.in-Ok-Some-StopSaved.field-0-is, c.in-Ok-Some-StopSaved.field-0-0-is)) refl refl
    c.stop_saved_command.ensures.delivers

-- the words ask for a trace of a saved text, which was answered
pub returns-in-Ok-Some-TraceSaved-clause-answers : goal.returns-in-Ok-Some-TraceSaved-clause-answers
returns-in-Ok-Some-TraceSaved-clause-answers g c = by_ports (map string_bytes c.args.words.now) _ _ (Some (commands.TraceSaved _ _))
    (cc (c.in-Ok-Some-TraceSaved.ensures.value, c.in-Ok-Some-TraceSaved.field-0-is, c.in-Ok-Some-TraceSaved.field-0-0-is)) refl refl
    c.trace_saved_command.ensures.delivers

-- the words ask for a sweep, which was answered
pub returns-in-Ok-Some-Sweep-clause-answers : goal.returns-in-Ok-Some-Sweep-clause-answers
returns-in-Ok-Some-Sweep-clause-answers g c = by_ports (map string_bytes c.args.words.now) _ _ (Some (commands.Sweep _ _))
    (cc (c.in-Ok-Some-Sweep.ensures.value, c.in-Ok-Some-Sweep.field-0-is, c.in-Ok-Some-Sweep.field-0-0-is)) refl refl
    c.sweep_command.ensures.delivers

-- the words ask for a sweep of a case, which was answered
pub returns-in-Ok-Some-SweepCase-clause-answers : goal.returns-in-Ok-Some-SweepCase-clause-answers
returns-in-Ok-Some-SweepCase-clause-answers g c = by_ports (map string_bytes c.args.words.now) _ _ (Some (commands.SweepCase _ _))
    (cc (c.in-Ok-Some-SweepCase.ensures.value, c.in-Ok-Some-SweepCase.field-0-is, c.in-Ok-Some-SweepCase.field-0-0-is)) refl refl
    c.sweep_case_command.ensures.delivers

-- the words ask for a trace, which was answered
pub returns-in-Ok-Some-Trace-clause-answers : goal.returns-in-Ok-Some-Trace-clause-answers
returns-in-Ok-Some-Trace-clause-answers g c = by_ports (map string_bytes c.args.words.now) _ _ (Some (commands.Trace _ _))
    (cc (c.in-Ok-Some-Trace.ensures.value, c.in-Ok-Some-Trace.field-0-is, c.in-Ok-Some-Trace.field-0-0-is)) refl refl
    c.trace_command.ensures.delivers

-- the words ask for a trace of a case, which was answered
pub returns-in-Ok-Some-TraceCase-clause-answers : goal.returns-in-Ok-Some-TraceCase-clause-answers
returns-in-Ok-Some-TraceCase-clause-answers g c = by_ports (map string_bytes c.args.words.now) _ _ (Some (commands.TraceCase _ _))
    (cc (c.in-Ok-Some-TraceCase.ensures.value, c.in-Ok-Some-TraceCase.field-0-is, c.in-Ok-Some-TraceCase.field-0-0-is)) refl refl
    c.trace_case_command.ensures.delivers

-- the words ask for a run of a RAM, which was answered
pub returns-in-Ok-Some-Ram-clause-answers : goal.returns-in-Ok-Some-Ram-clause-answers
returns-in-Ok-Some-Ram-clause-answers g c = by_command (map string_bytes c.args.words.now) _ _ (Some (commands.Ram _ _))
    (cc (c.in-Ok-Some-Ram.ensures.value, c.in-Ok-Some-Ram.field-0-is, c.in-Ok-Some-Ram.field-0-0-is))
    c.ram_command.ensures.answers

-- the words ask for the program's own example, which was run, and nothing was read
pub returns-in-Ok-Some-Example-clause-answers : goal.returns-in-Ok-Some-Example-clause-answers
returns-in-Ok-Some-Example-clause-answers g c = by_command (map string_bytes c.args.words.now) _ _ (Some (commands.Example _))
    (cc (c.in-Ok-Some-Example.ensures.value, c.in-Ok-Some-Example.field-0-is, c.in-Ok-Some-Example.field-0-0-is))
    (of_example _ _ _ (left_alone g.S.Source.left g.S.Source.fault_count c.args.source.now) (c.self_command.ensures.answers _))

-- the words give no command, and nothing was read
pub returns-in-Ok-None-clause-answers : goal.returns-in-Ok-None-clause-answers
returns-in-Ok-None-clause-answers g c = by_command (map string_bytes c.args.words.now) _ _ None
    (cc (c.in-Ok-None.ensures.value, c.in-Ok-None.field-0-is))
    (fixed_delivered _ TellsNothing _ answers.WordsRefused _ refl tt (left_alone g.S.Source.left g.S.Source.fault_count c.args.source.now) c.deliver.ensures)

-- memory was refused before the words were judged, and nothing was read
pub returns-in-Err-clause-answers : goal.returns-in-Err-clause-answers
returns-in-Err-clause-answers g c = fixed_delivered _ _ _ answers.NoMemory _ (told_nothing _ _ answers.NoMemory _) tt
    (memory_before _ _ (left_alone g.S.Source.left g.S.Source.fault_count c.args.source.now)) c.deliver-in-Err.ensures
