use Rattle.ppm_top.proofs.SavedEndLemmas.{unfinished_saved_need_more}
use Rattle.ppm_top.proofs.laws.program_laws.Goals as goal

-- each is one of a crate below
pub returns : goal.returns
returns c = record {
  law = record {
    runs = c.answers_are_one.ensures.one;
    fronts = c.answers_are_one.ensures.front;
    meant = c.runs_are_as_programs.ensures.law;
    complete = c.runs_complete.ensures.law;
    unfinished = c.replays_complete.ensures.few c.replays_end_by_places.ensures.law;
    unfinished_codes = c.replays_of_code_complete.ensures.few c.replays_end_by_places.ensures.law;
    unfinished_saved = unfinished_saved_need_more c.images_begin_the_depth_first_run.ensures.shown c.legs_replayed_end_by_places.ensures.law
        c.resume_laws.ensures.law.comes;
    complete_replays = c.replays_complete.ensures.law c.replays_end_by_places.ensures.law;
    complete_cases = c.replays_complete.ensures.cases c.replays_end_by_places.ensures.law;
    sums = c.examples_sum_up.ensures.law;
    resumes = c.resume_laws.ensures.law;
    leave = c.stops_leave_states.ensures.law;
    leave_cases = c.stops_leave_states.ensures.of_code;
    outcomes = c.outcomes_have_one_answer.ensures.law;
    codes = c.codes_have_one_answer.ensures.law;
    faithful = c.codes_are_faithful.ensures.law;
    listings = c.listings_have_one_answer.ensures.law;
    racing_listings = c.racing_listings_have_one_answer.ensures.law;
    states = c.saved_texts_have_one_answer.ensures.law;
    explained = c.texts_have_one_answer.ensures.law;
    explained_orders = c.orders_have_one_answer.ensures.law;
    explained_traps = c.traps_have_one_answer.ensures.law;
    depths = c.depth_runs_have_one_answer.ensures.law;
    races = c.cases_have_one_answer.ensures.law;
    strands = c.strands_have_one_answer.ensures.law;
    drawn_strands = c.drawn_strands_have_one_answer.ensures.law;
    texts = c.case_texts_have_one_answer.ensures.law;
    cases = c.case_texts_are_cases.ensures.law;
    plans = c.have_one_answer.ensures.law;
    replays = c.replays_have_one_answer.ensures.law;
    stops = c.stops_have_one_answer.ensures.law;
    saved_stops = c.saved_stops_have_one_answer.ensures.law;
    saved_replays = c.saved_replays_have_one_answer.ensures.law;
    counted_saved = c.counted_saved_replays_have_one_answer.ensures.law;
    saved_traces = c.saved_traces_have_one_answer.ensures.law;
    begin_chains = c.stops_go_on_chains.ensures.begin;
    chains = c.stops_go_on_chains.ensures.law;
    case_runs = c.answers_are_as_code.ensures.law;
    case_replays = c.replays_are_as_code.ensures.law;
    case_faults = c.faults_tell_cases.ensures.law;
    case_answers = c.case_answers_are_one.ensures.one;
    case_fronts = c.case_answers_are_one.ensures.front;
    replayed_cases = c.case_replays_have_one_answer.ensures.law;
    stopped_cases = c.case_stops_have_one_answer.ensures.law;
    sweeps = c.sweeps_have_one_answer.ensures.law;
    swept_cases = c.case_sweeps_have_one_answer.ensures.law;
    swept_codes = c.sweeps_are_as_code.ensures.law;
    traces = c.traces_have_one_answer.ensures.law;
    traced_cases = c.case_traces_have_one_answer.ensures.law;
    counted = c.counted_replays_have_one_answer.ensures.law;
    counted_cases = c.counted_case_replays_have_one_answer.ensures.law;
    counted_runs = c.counted_answers_are_one.ensures.law;
    counted_run_cases = c.counted_case_answers_are_one.ensures.law;
    coded = c.programs_are_as_code.ensures.law;
    ram_runs = c.answers_are_as_rams.ensures.law;
    ram_answers = c.ram_answers_are_one.ensures.one;
    ram_fronts = c.ram_answers_are_one.ensures.front;
    ram_texts = c.texts_are_of_rams.ensures;
  };
}
