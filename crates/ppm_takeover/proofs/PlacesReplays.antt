-- A replay by places ends, hard faults in its schedule: rounds are laps, and each lap has a work turn or a new holder, or the finish word is set by then.
use Rattle.std.proofs.Common.{◌≡◌, ◌≢◌, ◌⊎◌, ◌≤◌, ◌<◌, ◌+◌, ◌*◌, ◌-◌, ◌||◌, ℕ, zero, suc, Bool, true, false, List, [], ◌∷◌, ◌++◌, length}
use Rattle.std.proofs.Common.{inl, inr, refl, sym, ap, ◌∙◌, subst, arith}
use Rattle.std.specs.List.{AllByRecursion, list_any}
use Rattle.std.specs.Prelude.{◌^◌}
use Rattle.std.proofs.lemmas.Bool.{eq-eqb, true≢false}
use Rattle.std.proofs.lemmas.List.{append_assoc, length-map}
use Rattle.ppm_strands.specs.Calm.{Calm}
use Rattle.ppm_strands.specs.Run.{End, Ends}
use Rattle.ppm_words.specs.declared.named_array.NamedArray.{NamedArray}
use Rattle.ppm_cells.specs.declared.shape.Shape.{Shape}
use Rattle.ppm_cells.specs.declared.shape.Takeover.TheVariants.{ByPlaces}
use Rattle.ppm_code.specs.Strands.{Result}
use Rattle.ppm_code.specs.declared.code.CodeParts.{CodeParts}
use Rattle.ppm_layout.specs.Correct.{Opens}
use Rattle.ppm_layout.specs.Root.{root_strand}
use Rattle.ppm_layout.specs.declared.images.Image.{Image}
use Rattle.ppm_plan.specs.Faults.{acts_of}
use Rattle.ppm_plan.specs.Forms.{schedule_form, act_kills}
use Rattle.ppm_plan.specs.Refusals.{is_killed}
use Rattle.ppm_plan.specs.Schedules.{IsActAmong}
use Rattle.ppm_plan.specs.declared.fault.Fault.TheVariants as faults
use Rattle.ppm_plan.specs.declared.schedule_item.ScheduledAct.{ScheduledAct}
use Rattle.ppm_plan.specs.declared.schedule_item.ScheduledAct.TheVariants as scheduled
use Rattle.ppm_plan.specs.declared.schedule_item.ScheduleItem.{ScheduleItem}
use Rattle.ppm_step.specs.Among.{IsTurnAmong}
use Rattle.ppm_step.specs.Laws.{finish_at}
use Rattle.ppm_step.specs.State.{State as RunState, along}
use Rattle.ppm_step.specs.declared.turn.Act.TheVariants.{Step, Soft, Hard}
use Rattle.ppm_step.specs.declared.turn.Turn.{Turn}
use Rattle.ppm_choice.specs.Course.{Due, Listed, Course, act_of, processor_of, victim_of, turn_of, seeks, loads_of, behind_all, turns_of as turns_due}
use Rattle.ppm_choice.specs.Schedules.{listed, rounds, dues_of, beginning, schedule_turns}
use Rattle.ppm_choice.proofs.CourseLemmas.{turns_of_both}
use Rattle.ppm_choice.proofs.DueLemmas.{all_due}
use Rattle.ppm_choice.proofs.LoadLemmas.{IsFew}
use Rattle.ppm_choice.proofs.MadeLemmas.{left_at}
use Rattle.ppm_tickets.specs.View as spots
use Rattle.ppm_frames.specs.Views.{view}
use Rattle.ppm_frames.specs.Seen.{arrays_at}
use Rattle.ppm_kept.specs.Running.{IsFair, strands}
use Rattle.ppm_runs.specs.Legs.{Leg, state_then, AreLegs, last_state, work_then, strikes_then, all_work, all_strikes}
use Rattle.ppm_runs.specs.Work.{work_in, undone_in, strikes_in}
use Rattle.ppm_runs.proofs.BoundLemmas.{undone_is}
use Rattle.ppm_runs.proofs.LegWork.{work_over_legs}
use Rattle.ppm_progress.specs.Enough.{faults_of, lap_rounds}
use Rattle.ppm_progress.specs.Replays.{ReplaysEndByPlaces}
use Rattle.ppm_progress.proofs.ListLemmas.{both, front, work_both}
use Rattle.ppm_progress.proofs.ReplayLemmas.{turn_there, acts_due, acts_listed, rounds_whole, faults_both, map_both, undone_few}
use Rattle.ppm_progress.proofs.RoundLemmas.{IsStepDue, rounds_due, rounds_add, rounds_long, turns_all, turns_few}
use Rattle.ppm_takeover.specs.Laps.{holder_tags}
use Rattle.ppm_takeover.specs.Replays.{laps_over_legs, enough_acts_over_legs, LegsReplaysEndByPlaces}
use Rattle.ppm_takeover.proofs.LapRuns.{no_legs_few, sum_after, sum_most}
use Rattle.ppm_takeover.proofs.RoundLaps.{among_due, spared_due, steps_few, From, from_on, lap_gains}
use Rattle.ppm_takeover.proofs.SettleRuns.{Spares, set_later}

-- numbers of laps
more_laps : (a n : ℕ) → a * suc n ≡ a + a * n
more_laps a n = grind arith

split_times : (a q n : ℕ) → a * suc q * n ≡ a * n + a * q * n
split_times a q n = grind arith

laps_fit : (processors a n acts : ℕ) → 1 ≤ processors → a * processors * n ≤ acts → a * n ≤ acts
laps_fit zero a n acts some le = absurd (omega (arith, some))
laps_fit (suc q) a n acts some le = let parts = split_times a q n in omega (arith, le, parts)

-- an item that is no hard fault of processor c
neither : (a b : Bool) → (a || b) ≡ false → (a ≡ false) × (b ≡ false)
neither false b e = (refl, e)
neither true b e = absurd (true≢false e)

act_few : (processors : ℕ) (act : ScheduledAct) → processors ≤ 64 → IsActAmong processors act → processor_of act < 64
act_few processors (scheduled.Step c stated) most among = let lt = among.0 in omega (arith, most, lt)
act_few processors (scheduled.Fails c fault) most among = omega (arith, most, among)

act_spares : (processors : ℕ) (w : Course) (act : ScheduledAct) (c : ℕ) → act_kills c act ≡ false → Spares c (turn_of processors w act)
act_spares processors w (scheduled.Step d stated) c e =
    λ own z. let k : Step (victim_of processors d (loads_of w d) stated (seeks w d)) ≡ Hard = z in cc
act_spares processors w (scheduled.Fails d faults.Soft) c e = λ own z. let k : Soft ≡ Hard = z in cc
act_spares processors w (scheduled.Fails d faults.Hard) c e = λ own z. true≢false (sym (eq-eqb d c own) ∙ e)

all_so : (P Q : Due → Type 0) → ((due : Due) → P due → Q due) → (dues : List Due) → AllByRecursion P dues → AllByRecursion Q dues
all_so P Q each [] all = tt
all_so P Q each (due ∷ dues) all = (each due all.0, all_so P Q each dues all.1)

-- what is due names what is there, and is no hard fault of processor c
abbrev Leaves : (processors c : ℕ) → Due → Type 0
Leaves processors c due = IsActAmong processors (act_of due) × ((act_kills c (act_of due) ≡ false) × IsFew due)

items_leave : (processors c : ℕ) → processors ≤ 64 → (items : List ScheduleItem) → AllByRecursion (λ item. IsActAmong processors item.act) items
    → list_any (schedule_form.kills c) items ≡ false → AllByRecursion (λ item. Leaves processors c (Listed item.act)) items
items_leave processors c most [] all e = tt
items_leave processors c most (item ∷ items) all e =
    let two = neither (act_kills c item.act) (list_any (schedule_form.kills c) items) e in
    ((all.0, (two.0, act_few processors item.act most all.0)), items_leave processors c most items all.1 two.1)

module _ (code : CodeParts) (input : List NamedArray) (s : Shape) (keeper : ℕ) (im : Image) (places : s.takeover ≡ ByPlaces) (fair : IsFair code)
    (opens : Opens code input s keeper im) (calm : Calm (strands s code) (root_strand code input) (arrays_at (view s im.words)))
    (legs : List Leg) (are_legs : AreLegs s code im.words legs) (fewer : (s.processors + 1) * (length legs + 1) < 2 ^ 58) where
  abbrev start : RunState
  start = state_then s code im.words legs

  abbrev at : List Turn → RunState
  at turns = last_state s code im.words legs turns

  abbrev p : ℕ
  p = s.processors

  abbrev Among : List Turn → Type 0
  Among turns = AllByRecursion (IsTurnAmong s.processors) turns

  abbrev Over : List Turn → Type 0
  Over turns = finish_at s (at turns) ≢ 0

  abbrev Reaches : (turns : ℕ) → Course → List Turn → Type 0
  Reaches turns w first = From code input s keeper im places fair opens calm legs are_legs fewer turns w first

  -- work turns, and tags of holders
  abbrev gained : List Turn → ℕ
  gained l = work_in s code start l + holder_tags s.processors (spots.view s (at l).words)

  grows : (first more : List Turn) → Among first → Among more → gained first ≤ gained (first ++ more)
  grows first more a b =
      let works = work_both s code start first more in
      let up = sum_after code input s keeper im places fair opens calm legs are_legs fewer first more a b in
      omega (arith, works, up)

  module _ (c : ℕ) (there : c < s.processors) where
    -- laps, one after the other
    laps_gain : (n turns : ℕ) (w : Course) (first : List Turn) → Reaches turns w first → Among first → AllByRecursion (Spares c) first
        → lap_rounds s.processors * s.processors * n ≤ w.left
        → (n + gained first ≤ gained (first ++ turns_due s code w (rounds s.processors (lap_rounds s.processors * n))))
        ⊎ Over (first ++ turns_due s code w (rounds s.processors (lap_rounds s.processors * n)))
    laps_gain zero turns w first from among spared left =
        let dues = rounds s.processors (lap_rounds s.processors * zero) in
        let due = rounds_due s.processors (lap_rounds s.processors * zero) in
        let up = grows first (turns_due s code w dues) among (among_due code input s keeper im places fair opens calm legs are_legs fewer dues due w) in
        inl (omega (arith, up))
    laps_gain (suc n) turns w first from among spared left =
        let r = lap_rounds s.processors in
        let lap = rounds p r in
        let one = turns_due s code w lap in
        let next = behind_all s code w lap in
        let rest = turns_due s code next (rounds p (r * n)) in
        let split : rounds p (r * suc n) ≡ lap ++ rounds p (r * n) = ap (rounds p) (more_laps r n) ∙ rounds_add p r (r * n) in
        let whole : first ++ turns_due s code w (rounds p (r * suc n)) ≡ (first ++ one) ++ rest =
        ap (λ (l : List Due). first ++ turns_due s code w l) split ∙ ap (λ (l : List Turn). first ++ l) (turns_of_both s code w lap (rounds p (r * n)))
        ∙ sym (append_assoc first one rest) in
        let due = rounds_due p r in
        let among_one = among_due code input s keeper im places fair opens calm legs are_legs fewer lap due w in
        let spared_one = spared_due code input s keeper im places fair opens calm legs are_legs fewer c there lap due w in
        let product = more_laps (r * p) n in
        let few : length one ≤ r * p = let x = turns_few s code lap w in let y = rounds_long p r in omega (arith, x, y) in
        let rest_left : r * p * n ≤ next.left = let is = left_at s code w lap in omega (arith, left, product, is, few) in
        elim (lap_gains code input s keeper im places fair opens calm legs are_legs fewer c there turns w first from among spared (omega (arith, left, product))) [
          | inr set ↦ inr (subst Over (sym whole) (set_later code input s keeper im places fair opens calm legs are_legs fewer (first ++ one) rest set))
          | inl gain ↦
              elim (laps_gain n turns next (first ++ one) (from_on code input s keeper im places fair opens calm legs are_legs fewer turns w first lap (steps_few s lap due) from)
              (both (IsTurnAmong s.processors) first one among among_one) (both (Spares c) first one spared spared_one) rest_left) [
                | inr set ↦ inr (subst Over (sym whole) set)
                | inl more ↦ let same = ap gained whole in inl (omega (arith, gain, more, same))
              ]
        ]

    module _ (items : List ScheduleItem) (named : AllByRecursion (λ item. IsActAmong s.processors item.act) items)
        (spared : is_killed schedule_form c items ≡ false) (end : End Result)
        (ends : Ends (strands s code) (root_strand code input) (arrays_at (view s im.words)) end) (turns : ℕ)
        (enough : enough_acts_over_legs (acts_of items) s.processors end.counts.capsules (strikes_then s code im.words legs) (length legs) ≤ turns) where
      abbrev count : ℕ
      count = laps_over_legs (faults_of (acts_of items)) s.processors end.counts.capsules (strikes_then s code im.words legs) (length legs)

      abbrev r : ℕ
      r = lap_rounds s.processors

      abbrev w : Course
      w = beginning start turns

      abbrev list : List Due
      list = listed items

      abbrev laps : List Due
      laps = rounds s.processors (lap_rounds s.processors * count)

      abbrev after_list : Course
      after_list = behind_all s code w list

      abbrev first : List Turn
      first = turns_due s code w list

      abbrev main : List Turn
      main = turns_due s code w (list ++ laps)

      main_is : main ≡ first ++ turns_due s code after_list laps
      main_is = turns_of_both s code w list laps

      list_leaves : AllByRecursion (Leaves s.processors c) list
      list_leaves =
          front (Leaves s.processors c) list (rounds s.processors 0)
          (all_due (Leaves s.processors c) s.processors items 0 (items_leave s.processors c s.within.processors_most items named spared)
          (λ q lt. ((lt, tt), (refl, let most = s.within.processors_most in omega (arith, lt, most)))))

      among_first : Among first
      among_first =
          turns_all s code (IsTurnAmong s.processors) (Leaves s.processors c)
          (λ k due is. turn_there s.processors (let some = s.within.processors_least in omega (arith, some)) k (act_of due) is.0) list list_leaves w

      spared_first : AllByRecursion (Spares c) first
      spared_first =
          turns_all s code (Spares c) (Leaves s.processors c) (λ k due is. act_spares s.processors k (act_of due) c is.1.0) list list_leaves w

      from : Reaches turns after_list first
      from = record { dues = list; few = all_so (Leaves s.processors c) IsFew (λ due is. is.1.1) list list_leaves; course = refl; turns_are = refl }

      laps_due : AllByRecursion (IsStepDue s.processors) laps
      laps_due = rounds_due s.processors (lap_rounds s.processors * count)

      among_main : Among main
      among_main =
          subst Among (sym main_is)
          (both (IsTurnAmong s.processors) first (turns_due s code after_list laps) among_first
          (among_due code input s keeper im places fair opens calm legs are_legs fewer laps laps_due after_list))

      few_struck : strikes_in s code start main ≤ faults_of (acts_of items)
      few_struck =
          let few : undone_in s code start main ≤ faults_of (acts_due (list ++ laps)) = undone_few s code (list ++ laps) w in
          let same : undone_in s code start main ≡ strikes_in s code start main =
          ap (λ (f : RunState → Turn → List ℕ). length (along s code f start main)) (undone_is s places) in
          let sum = ap faults_of (map_both list laps) ∙ faults_both (acts_due list) (acts_due laps) in
          let none = rounds_whole s.processors laps laps_due in
          let acts = ap faults_of (acts_listed (acts_of items)) in
          omega (arith, few, same, sum, none, acts)

      most_gained : gained main < count
      most_gained =
          let work = work_over_legs code input s keeper im places fair opens calm legs are_legs main among_main end ends in
          let whole : all_work s code im.words legs main ≡ work_then s code im.words legs + work_in s code start main = refl in
          let all : all_strikes s code im.words legs main ≡ strikes_then s code im.words legs + strikes_in s code start main = refl in
          let struck = few_struck in
          let tags : holder_tags s.processors (spots.view s (at main).words) ≤ s.processors * ((s.processors + 1) * length legs + s.processors) =
          sum_most code input s keeper im places fair opens calm legs are_legs fewer main among_main in
          let is : count ≡ 218 * end.counts.capsules + 171 * (strikes_then s code im.words legs + faults_of (acts_of items))
          + 172 * (s.processors * length legs) + 7 + s.processors * ((s.processors + 1) * length legs + s.processors) = refl in
          omega (arith, work, whole, all, struck, tags, is)

      main_over : Over main
      main_over =
          let short : length first ≤ length (acts_of items) =
          let a = turns_few s code list w in let b = length-map (acts_of items) Listed in omega (arith, a, b) in
          let all : length (acts_of items) + r * p * count ≤ turns = enough in
          let is : length first + after_list.left ≡ turns = left_at s code w list in
          let left : r * p * count ≤ after_list.left = omega (arith, is, short, all) in
          elim (laps_gain count turns after_list first from among_first spared_first left) [
            | inr set ↦ subst Over (sym main_is) set
            | inl grown ↦
                let most = most_gained in
                let same = ap gained main_is in
                absurd (omega (arith, grown, most, same))
          ]

      -- the list and the laps, and the rounds after them
      pub replay_over : Over (schedule_turns s code start items turns)
      replay_over =
          let rest = turns - r * count in
          let all : length (acts_of items) + r * p * count ≤ turns = enough in
          let fit = laps_fit p r count turns s.within.processors_least (omega (arith, all)) in
          let is : turns ≡ r * count + rest = omega (arith, fit) in
          let dues_split : dues_of p items turns ≡ (list ++ laps) ++ rounds p rest =
          ap (λ (n : ℕ). list ++ rounds p n) is ∙ ap (λ (l : List Due). list ++ l) (rounds_add p (r * count) rest)
          ∙ sym (append_assoc list laps (rounds p rest)) in
          let split = ap (turns_due s code w) dues_split ∙ turns_of_both s code w (list ++ laps) (rounds p rest) in
          subst Over (sym split) (set_later code input s keeper im places fair opens calm legs are_legs fewer main _ main_over)

pub legs_replays_end_by_places : LegsReplaysEndByPlaces
legs_replays_end_by_places code input s keeper im places fair opens calm legs are_legs fewer items named spared lt spares end ends turns enough =
    replay_over code input s keeper im places fair opens calm legs are_legs fewer spared lt items named spares end ends turns enough

-- from an image as many are enough
no_legs_enough : (a p c f : ℕ) → a + lap_rounds p * p * (218 * c + 171 * (0 + f) + 172 * (p * 0) + 7 + p * ((p + 1) * 0 + p))
    ≡ a + lap_rounds p * p * (218 * c + 171 * f + 7 + p * p)
no_legs_enough a p c f = grind arith

pub replays_end_by_places : ReplaysEndByPlaces
replays_end_by_places code input s keeper im places fair opens calm items named spared lt spares end ends turns enough =
    let same = no_legs_enough (length (acts_of items)) s.processors end.counts.capsules (faults_of (acts_of items)) in
    let enough_ : enough_acts_over_legs (acts_of items) s.processors end.counts.capsules 0 0 ≤ turns = subst (λ (n : ℕ). n ≤ turns) (sym same) enough in
    replay_over code input s keeper im places fair opens calm [] tt (no_legs_few s) spared lt items named spares end ends turns enough_
