use Rattle.ppm_replay_command.proofs.CompleteReplay.{programs_need_more, replays_complete, case_replays_complete}
use Rattle.ppm_replay_command.proofs.complete_replay.replays_complete.Goals as goal

-- from the laws of sound codes, of texts, of cases and of schedules
pub returns : goal.returns
returns c = record {
  few = λ places. programs_need_more (c.replays_of_code_complete.ensures.few places) c.programs_are_as_code.ensures.law;
  law = λ places. replays_complete (record {
    of_code = c.replays_of_code_complete.ensures.law places;
    programs = c.programs_are_as_code.ensures.law;
    texts = c.have_one_answer.ensures.law;
    plans = c.have_one_answer-2.ensures.law;
  });
  cases = λ places.
      case_replays_complete (c.replays_of_code_complete.ensures.law places) c.faults_tell_cases.ensures.law c.have_one_answer-2.ensures.law;
}
