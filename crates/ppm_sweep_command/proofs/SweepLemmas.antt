-- What a sweep finds of machines, in the words of replays: each schedule that comes to the outcome is answered so, and the first that doesn't is not.
use Rattle.std.proofs.Common.{◌≡◌, ◌<◌, ◌≤◌, ℕ, ◌+◌, nat_lt, Bool, false, ◌||◌, not, cond, List, [], ◌∷◌, ◌++◌, length, Option, Some, None, refl, sym, ap, ◌∙◌, subst, arith}
use Rattle.std.specs.List.{All, AllByRecursion, filter}
use Rattle.std.proofs.lemmas.Bool.{lt-ltb}
use Rattle.std.proofs.lemmas.List.Elements.{All-filter, All-from_recursion, recursion_from_All}
use Rattle.ppm_words.specs.declared.named_array.NamedArray.{NamedArray}
use Rattle.ppm_words.specs.declared.outcome.Outcome.{Outcome}
use Rattle.ppm_cells.specs.declared.shape.Takeover.{Takeover}
use Rattle.ppm_code.specs.Code.{IsCode}
use Rattle.ppm_code.specs.declared.code.CodeParts.{CodeParts}
use Rattle.ppm_core.specs.Machine.{seen}
use Rattle.ppm_core.specs.Situation.{Situation}
use Rattle.ppm_plan.specs.Forms.{schedule_form, victim_outside, act_outside}
use Rattle.ppm_plan.specs.Refusals.{first_at, item_limit, HasItems, IsAccepted, IsKeeper}
use Rattle.ppm_plan.specs.Schedules.{IsActAmong, IsVictimAmong, IsItemAmong}
use Rattle.ppm_plan.specs.Spellings.{TextsReadAsWritten}
use Rattle.ppm_plan.specs.declared.schedule_item.ScheduledAct.{ScheduledAct}
use Rattle.ppm_plan.specs.declared.schedule_item.ScheduledAct.TheVariants.{Step, Fails}
use Rattle.ppm_plan.specs.declared.schedule_item.ScheduleItem.{ScheduleItem}
use Rattle.ppm_following.specs.Followed.{followed}
use Rattle.ppm_sweep.specs.declared.found.Differing.{Differing}
use Rattle.ppm_sweep.specs.declared.found.Stop.{Stop}
use Rattle.ppm_sweep.specs.declared.found.Stop.TheVariants as stops
use Rattle.ppm_sweep.specs.declared.found.Tally.{Tally as SweepTally}
use Rattle.ppm_sweep.specs.Fair.{AreFair, IsFair, SweepsAreFair}
use Rattle.ppm_sweep.specs.Found.{AllCome, Comes, Stops, short, swept_by, zero_tally}
use Rattle.ppm_sweep.specs.Found as found
use Rattle.ppm_sweep.specs.Sweep.{Swept, is_short}
use Rattle.ppm_sweep.specs.Text.{schedule_text, SchedulesAreWritten}
use Rattle.ppm_sweep.specs.Windows.{windows_for}
use Rattle.ppm_answers.specs.declared.answer.Answer.{Answer}
use Rattle.ppm_answers.specs.declared.sweep.Came.{Came}
use Rattle.ppm_answers.specs.declared.sweep.Came.TheVariants as came
use Rattle.ppm_answers.specs.declared.sweep.Difference.{Difference}
use Rattle.ppm_answers.specs.declared.tally.Tally.{Tally}
use Rattle.ppm_cli.specs.declared.sweep.SweepOptions.{SweepOptions}
use Rattle.ppm_sweep.specs.declared.options.Sweeping.{Sweeping}
use Rattle.ppm_loading.specs.Loading.{OpensRun}
use Rattle.ppm_loading.proofs.LoadingLemmas.{opens_processors}
use Rattle.ppm_sweep_command.specs.declared.sweeping.Halt.{Halt}
use Rattle.ppm_sweep_command.specs.declared.sweeping.Halt.TheVariants as halts
use Rattle.ppm_sweep_command.specs.Halts.{HaltsAt, IsHaltOf, IsTold, counts_in}
use Rattle.ppm_outcomes.specs.Replays.{with_tally}
use Rattle.ppm_outcomes.specs.Replays.{IsSaid, sizes_of, tally_of}
use Rattle.ppm_sweep_command.specs.Sweeps.{AllAgree, Agrees, Begins, FirstDiffers, Tells, replay_options, sweeping_of}
use Rattle.ppm_sweep_command.proofs.ComeLemmas.{IsOfInput, comes_so, came_so}
use Rattle.ppm_outcomes.proofs.ReplayLemmas.{has_said, some_end}

-- what holds of all holds of those in front of one, and of that one
parts : (P : Swept → Type 0) (before : List Swept) (first : Swept) (after : List Swept) → AllByRecursion P (before ++ (first ∷ after))
    → AllByRecursion P before × P first
parts P [] first after all = (tt, all.0)
parts P (v ∷ before) first after all = let rest = parts P before first after all.1 in ((all.0, rest.0), rest.1)

-- and of those that are short
short_too : (P : Swept → Type 0) (l : List Swept) → AllByRecursion P l → AllByRecursion P (short l)
short_too P l all = recursion_from_All P (filter is_short l) (All-filter is_short P l (All-from_recursion P l all))

-- what a replay came to tells its answer
tells_so : (c : Came) (tally : Tally) → Tells c (with_tally c tally)
tells_so (came.Ended arrays) tally = refl
tells_so (came.Trapped trap line) tally = (refl, refl)
tells_so (came.Unfinished acts) tally = refl
tells_so (came.OutOfRoom place) tally = refl
tells_so (came.Broken place) tally = refl

tells_of : (c : Came) (tally : Tally) (a : Answer) → with_tally c tally ≡ a → Tells c a
tells_of c tally a e = subst (Tells c) e (tells_so c tally)

-- An item for so many processors names none that is outside.
module _ (p : ℕ) where
  -- one that is there is not outside
  is_there : (c : ℕ) → c < p → not (nat_lt c p) ≡ false
  is_there c less = ap not (lt-ltb c p less)

  neither : (a b : Bool) → a ≡ false → b ≡ false → (a || b) ≡ false
  neither a b e f = subst (λ (x : Bool). (x || b) ≡ false) (sym e) f

  victim_there : (victim : Option ℕ) → IsVictimAmong p victim → victim_outside p victim ≡ false
  victim_there None h = refl
  victim_there (Some v) h = is_there v h

  act_there : (act : ScheduledAct) → IsActAmong p act → act_outside p act ≡ false
  act_there (Step c victim) h = neither (not (nat_lt c p)) (victim_outside p victim) (is_there c h.0) (victim_there victim h.1)
  act_there (Fails c fault) h = is_there c h

  none_outside : (n : ℕ) (items : List ScheduleItem) → AllByRecursion (IsItemAmong p) items → first_at (schedule_form.is_outside p) n items ≡ None
  none_outside n [] all = refl
  none_outside n (i ∷ items) all =
      subst (λ (b : Bool). cond b (Some n) (first_at (schedule_form.is_outside p) (n + 1) items) ≡ None) (sym (act_there i.act all.0.act))
      (none_outside (n + 1) items all.1)

  -- the text of a schedule that may be obeyed is read back, and accepted
  pub reads_back : SchedulesAreWritten → TextsReadAsWritten → p ≤ 64 → (keeper : ℕ) → keeper < p → (items : List ScheduleItem) → AreFair p keeper items
      → length items ≤ item_limit → (text : List ℕ) → text ≡ schedule_text items → IsAccepted schedule_form text p items
  reads_back written texts most keeper below items fair few text e = record {
    has = subst (λ (l : List ℕ). HasItems schedule_form l items) (sym e)
        ((texts.schedules (schedule_text items) items).1 (written p items (omega (arith, most)) fair.among));
    keeper = keeper;
    obeyed = record {
      there = none_outside 1 items (recursion_from_All (IsItemAmong p) items fair.among);
      few = few;
      kept = fair.kept;
      below = below;
    };
  }

module _ (options : SweepOptions) (items : List ScheduleItem) (code : CodeParts) (input : List NamedArray) (wanted : Outcome) (t : Takeover)
    (is : IsCode code) (named : IsOfInput input wanted) (keeper : ℕ) (start : Situation) (spared : IsKeeper schedule_form items keeper)
    (opens : OpensRun (sizes_of (replay_options options t)) code input keeper start) where
  abbrev begins : Begins options items code input wanted t
  begins = record { keeper = keeper; spared = spared; start = start; opens = opens }

  abbrev swept : List Swept
  swept = swept_by start items (sweeping_of options keeper)

  abbrev Fair : Swept → Type 0
  Fair v = IsFair start.shape.processors keeper v

  abbrev Come : Swept → Type 0
  Come v = Comes start options.turns wanted v

  abbrev Agree : Swept → Type 0
  Agree v = Agrees options items code input wanted t v

  -- the answer of a replay
  end : (v : Swept) → Fair v → (a : Answer) × IsSaid options.turns (followed start v.items options.turns) input a
  end v fair = some_end (replay_options options t) v.items code input keeper start fair.fair.kept opens is

  -- one that comes to the outcome agrees
  agrees : (v : Swept) → Fair v → Come v → Agree v
  agrees v fair comes =
      let e = end v fair in (
        e.0,
        has_said (replay_options options t) v.items code input keeper start fair.fair.kept opens is e.0 e.1,
        comes_so (followed start v.items options.turns) options.turns input wanted named e.0 e.1 comes,
      )

  all_agree : (l : List Swept) → AllByRecursion Fair l → AllByRecursion Come l → AllByRecursion Agree l
  all_agree [] fair come = tt
  all_agree (v ∷ l) fair come = (agrees v fair.0 come.0, all_agree l fair.1 come.1)

  module _ (law : SweepsAreFair) (base : AreFair start.shape.processors keeper items) where
    all_fair : AllByRecursion Fair swept
    all_fair =
        law start.shape start.code keeper options.turns start.state items options.faults (windows_for start items (sweeping_of options keeper)) base

    -- all come to the outcome
    pub found_all : (tally : SweepTally) → AllCome start options.turns wanted swept zero_tally tally
        → AllAgree options items code input wanted t (counts_in tally)
    found_all tally a =
        let runs = a.runs in
        let met = a.met in
        let acts = a.acts in
        let left = a.left in
        record {
          begins = begins;
          all = all_agree (short swept) (short_too Fair swept all_fair) a.all;
          runs = omega (arith, runs);
          met = omega (arith, met);
          acts = omega (arith, acts);
          left = omega (arith, left);
        }

    module _ (written : SchedulesAreWritten) (texts : TextsReadAsWritten) (few : start.shape.processors ≤ 64) (below : keeper < start.shape.processors)
        (count : start.shape.processors ≡ options.processors) where
      -- the first that doesn't, as it is told
      pub found_first : (d : Differing) (told : Difference) → found.FirstDiffers start options.turns wanted swept d → IsTold t options.turns input d told
          → FirstDiffers options items code input wanted t told
      found_first d told f is_told =
          let fair = parts Fair f.before f.first f.after (subst (AllByRecursion Fair) f.swept_are all_fair) in
          let e = end f.first fair.1 in
          let text : told.schedule ≡ schedule_text f.first.items = is_told.schedule ∙ ap (λ (l : List ScheduleItem). schedule_text l) f.items in
          record {
            begins = begins;
            before = f.before;
            first = f.first;
            after = f.after;
            schedules_are = f.swept_are;
            few = f.few;
            all = all_agree (short f.before) (short_too Fair f.before fair.0) f.all;
            takeover = is_told.takeover;
            text = text;
            reads = subst (λ (p : ℕ). IsAccepted schedule_form told.schedule p f.first.items) count
                (reads_back start.shape.processors written texts few keeper below f.first.items fair.1.fair (fair.1.few f.few) told.schedule text);
            answer = e.0;
            replays = has_said (replay_options options t) f.first.items code input keeper start fair.1.fair.kept opens is e.0 e.1;
            differs = λ o. f.differs (came_so (followed start f.first.items options.turns) options.turns input wanted named e.0 e.1 o);
            tells = tells_of told.came (tally_of (seen d.machine)) e.0
                (is_told.came e.0 (subst (λ (m : Situation). IsSaid options.turns m input e.0) (sym f.machine) e.1));
          }

      -- why it stops
      pub found_stop : (stop : Stop) (halt : Halt) → Stops start options.turns wanted swept stop → IsHaltOf t options.turns input stop halt
          → HaltsAt (FirstDiffers options items code input wanted t) halt
      found_stop (stops.Differs d) (halts.Differs told) f is_told = found_first d told f is_told
      found_stop (stops.Differs d) halts.NoMemory f is_told = tt
      found_stop stops.NoMemory (halts.Differs told) f is_told = absurd is_told
      found_stop stops.NoMemory halts.NoMemory f is_told = tt

-- What is known where a machine is swept: the code and the input are those of the type's rules, the machine begins their run, with the keeper of the
-- schedule, and the sweep is made as the options say.
module _ (options : SweepOptions) (items : List ScheduleItem) (code : CodeParts) (input : List NamedArray) (wanted : Outcome) (t : Takeover)
    (is : IsCode code) (named : IsOfInput input wanted) (keeper : ℕ) (start : Situation) (spared : IsKeeper schedule_form items keeper)
    (opens : OpensRun (sizes_of (replay_options options t)) code input keeper start) (sweeping : Sweeping)
    (made : sweeping ≡ sweeping_of options keeper) (law : SweepsAreFair) (p : ℕ) (same : p ≡ options.processors) (listed : List ScheduleItem)
    (listed_is : listed ≡ items) (among : All (IsItemAmong p) listed) where
  count : start.shape.processors ≡ options.processors
  count = opens_processors (sizes_of (replay_options options t)) code input keeper start opens

  base : AreFair start.shape.processors keeper items
  base = record {
    among = subst (λ (n : ℕ). All (IsItemAmong n) items) (same ∙ sym count) (subst (All (IsItemAmong p)) listed_is among);
    kept = spared;
  }

  -- all schedules agree
  pub all_of : (tally : SweepTally) → AllCome start sweeping.turns wanted (swept_by start items sweeping) zero_tally tally
      → AllAgree options items code input wanted t (counts_in tally)
  all_of tally a =
      found_all options items code input wanted t is named keeper start spared opens law base tally
      (subst (λ (s : Sweeping). AllCome start s.turns wanted (swept_by start items s) zero_tally tally) made a)

  -- or it stops
  pub stop_of : SchedulesAreWritten → TextsReadAsWritten → keeper < p → (stop : Stop) (halt : Halt)
      → Stops start sweeping.turns wanted (swept_by start items sweeping) stop → IsHaltOf t options.turns input stop halt
      → HaltsAt (FirstDiffers options items code input wanted t) halt
  stop_of written texts below stop halt a is_told =
      found_stop options items code input wanted t is named keeper start spared opens law base written texts start.shape.within.processors_most
      (omega (arith, below, same, count)) count stop halt
      (subst (λ (s : Sweeping). Stops start s.turns wanted (swept_by start items s) stop) made a) is_told
