-- What is saved is read back, if the code is tidy and has no conflict: the state after a run is whole, and its sizes are those of `stop`.
use Rattle.std.proofs.Common.{◌≡◌, ◌∙◌, ℕ, ◌*◌, ◌≤◌, true, ◌&&◌, nat_le, List, refl, sym, ap, subst, arith}
use Rattle.std.specs.List.{sum}
use Rattle.std.proofs.lemmas.Bool.{and_from, le-leb}
use Rattle.ppm_words.specs.declared.named_array.NamedArray.{NamedArray}
use Rattle.ppm_cells.specs.Memory.{AreWordsOf}
use Rattle.ppm_cells.specs.declared.shape.Shape.{Shape}
use Rattle.ppm_code.specs.Code.{IsCode}
use Rattle.ppm_code.specs.declared.code.CodeParts.{CodeParts}
use Rattle.ppm_core.specs.Situation.{Situation, loaded, run_on}
use Rattle.ppm_step.specs.State.{after}
use Rattle.ppm_step.specs.declared.turn.Turn.{Turn}
use Rattle.ppm_plan.specs.declared.schedule_item.ScheduleItem.{ScheduleItem}
use Rattle.ppm_cli.specs.declared.stop.StopOptions.{StopOptions}
use Rattle.ppm_cli.specs.Words.{AreStopped}
use Rattle.ppm_choice.specs.Schedules.{schedule_turns}
use Rattle.ppm_following.specs.Followed.{followed}
use Rattle.ppm_loading.specs.Loading.{OpensRun}
use Rattle.ppm_saved.specs.Correct.{SavedTextsTellStates, StateFits}
use Rattle.ppm_cells.specs.Limits.{most_saved_pool_words}
use Rattle.ppm_saved_reader.specs.Rules.{is_from_to, do_pools_fit, sizes_fit}
use Rattle.ppm_saved_reader.specs.Correct.{HasState, sizes_of as sizes_in}
use Rattle.ppm_depth.specs.Start.{NamesArrays}
use Rattle.ppm_outcomes.specs.Stops.{sizes_of, names_of, text_of, IsReadBack}
use Rattle.ppm_loading.specs.Telling.{MayBeRun}
use Rattle.ppm_outcomes.proofs.LengthLemmas.{run_length}
use Rattle.ppm_stop_command.proofs.NamesLemmas.{lengths_are, as_many}
use Rattle.ppm_stop_command.proofs.StopLemmas.{IsReadIf}

-- sizes in their ranges fit
from_to : (least most n m : ℕ) → least ≤ n → n ≤ most → m ≡ n → is_from_to least most m ≡ true
from_to least most n m above below e =
    and_from (nat_le least m) (nat_le m most) (le-leb least m (omega (arith, above, e))) (le-leb m most (omega (arith, below, e)))

module _ (states : SavedTextsTellStates) (code : CodeParts) (input : List NamedArray) (code_is : IsCode code) (named : NamesArrays code input)
    (options : StopOptions) (are : AreStopped options) (keeper : ℕ) (start : Situation) (opens : OpensRun (sizes_of options) code input keeper start) where
  abbrev s : Shape
  s = opens.shape

  abbrev begun : Situation
  begun = loaded s code opens.image.lengths opens.image.words

  sizes : sizes_fit (sizes_in s) ≡ true
  sizes =
      let h = opens.sized in
      let pools = do_pools_fit s.processors s.room in
      let most = most_saved_pool_words in
      let fit : do_pools_fit s.processors s.room ≡ true =
      ap (λ (p : ℕ). do_pools_fit p s.room) h.processors ∙ ap (λ (r : ℕ). do_pools_fit options.processors r) h.room
      ∙ le-leb (options.processors * options.room) most_saved_pool_words are.4 in
      and_from (is_from_to 1 64 s.processors) (is_from_to 64 most s.room && (is_from_to 2 4096 s.slots && pools))
      (from_to 1 64 options.processors s.processors are.0.0 are.0.1 h.processors)
      (and_from (is_from_to 64 most s.room) (is_from_to 2 4096 s.slots && pools)
      (from_to 64 most options.room s.room are.2.0 are.2.1 h.room)
      (and_from (is_from_to 2 4096 s.slots) pools (from_to 2 4096 options.slots s.slots are.3.0 are.3.1 h.slots) fit))

  module _ (turns : List Turn) where
    abbrev m : Situation
    m = run_on begun turns

    -- after turns the state is whole
    state_read : StateFits (names_of input) m.code m.state.words → MayBeRun code → IsReadBack m input
    state_read fits may =
        let opened : AreWordsOf s opens.image.words =
        subst (λ (z : Shape). AreWordsOf z opens.image.words) opens.opens.shape_is opens.image.sized.words_are in
        record {
          sizes = sizes;
          by_places = opens.sized.takeover;
          code_is = code_is;
          whole = record {
            words_are = run_length s code begun.state turns ∙ opened;
            lengths_are = refl;
            arrays_are = ap (λ (l : List ℕ). sum l) (lengths_are input) ∙ sym opens.sized.arrays;
            named = λ k d less. let below = named k d less in omega (arith, below, as_many input);
          };
          fits = fits;
          free = may.free;
          tidy = may.tidy;
          same = refl;
        }

    -- a state that is read from its text has its code, so that may be resumed
    state_only : StateFits (names_of input) m.code m.state.words → HasState (text_of m input) → MayBeRun code
    state_only fits h =
        let one = states s h.shape (names_of input) h.arrays code h.code m.state.words h.words fits h.is.fits h.is.same in
        subst MayBeRun (sym one.code) (record { free = h.is.free; tidy = h.is.tidy })

    state_is : StateFits (names_of input) m.code m.state.words → IsReadIf code m input
    state_is fits = record { read_back = state_read fits; only = state_only fits }

  -- after the run of a schedule it is read so
  pub read_back : (items : List ScheduleItem) → let m = followed start items options.after in StateFits (names_of input) m.code m.state.words
      → IsReadIf code m input
  read_back items =
      subst (λ (x : Situation). let m = followed x items options.after in StateFits (names_of input) m.code m.state.words → IsReadIf code m input)
      (sym opens.loads) (λ fits. state_is (schedule_turns s code begun.state items options.after) fits)
