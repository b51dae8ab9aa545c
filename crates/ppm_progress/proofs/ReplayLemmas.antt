-- A replay without hard faults ends: thirteen rounds are a lap, or the finish word is set by then.
use Rattle.std.proofs.Common.{◌≡◌, ◌⊎◌, ◌≤◌, ◌<◌, ◌+◌, ◌*◌, ◌-◌, if◌then◌else◌, ℕ, zero, suc, Bool, true, false, List, [], ◌∷◌, ◌++◌, length}
use Rattle.std.proofs.Common.{Option, None, Some, inl, inr, refl, sym, ap, ◌∙◌, subst, arith, map, length-append}
use Rattle.std.specs.List.{AllByRecursion}
use Rattle.std.proofs.lemmas.List.{append_assoc, length-map}
use Rattle.std.proofs.lemmas.Nat.{mod_below}
use Rattle.ppm_strands.specs.Calm.{Calm}
use Rattle.ppm_strands.specs.Run.{End, Ends}
use Rattle.ppm_words.specs.declared.named_array.NamedArray.{NamedArray}
use Rattle.ppm_cells.specs.Memory.{read}
use Rattle.ppm_cells.specs.Restart.{restart_of}
use Rattle.ppm_cells.specs.declared.cell.Cell.TheVariants.{RestartWord}
use Rattle.ppm_cells.specs.declared.restart.Restart.{Restart}
use Rattle.ppm_cells.specs.declared.shape.Shape.{Shape}
use Rattle.ppm_cells.specs.declared.shape.Takeover.{Takeover}
use Rattle.ppm_cells.specs.declared.shape.Takeover.TheVariants.{ByPlaces, ByEntries}
use Rattle.ppm_code.specs.Strands.{Result}
use Rattle.ppm_code.specs.declared.code.CodeParts.{CodeParts}
use Rattle.ppm_layout.specs.Correct.{Opens}
use Rattle.ppm_layout.specs.Root.{root_strand}
use Rattle.ppm_layout.specs.declared.images.Image.{Image}
use Rattle.ppm_plan.specs.Faults.{acts_of}
use Rattle.ppm_plan.specs.Schedules.{IsActAmong, IsVictimAmong}
use Rattle.ppm_plan.specs.declared.fault.Fault.TheVariants as faults
use Rattle.ppm_plan.specs.declared.schedule_item.ScheduleItem.{ScheduleItem}
use Rattle.ppm_plan.specs.declared.schedule_item.ScheduledAct.{ScheduledAct}
use Rattle.ppm_plan.specs.declared.schedule_item.ScheduledAct.TheVariants as scheduled
use Rattle.ppm_step.specs.Among.{IsTurnAmong}
use Rattle.ppm_step.specs.Laws.{reached}
use Rattle.ppm_step.specs.Standings.{Standing}
use Rattle.ppm_step.specs.State.{State as RunState, stand_of, after, along, opening}
use Rattle.ppm_step.specs.declared.turn.Act.TheVariants.{Step}
use Rattle.ppm_step.specs.declared.turn.Turn.{Turn}
use Rattle.ppm_choice.specs.Course.{Due, Listed, InRound, Course, act_of, victim_of, turn_of, loads_of, seeks, behind, behind_all, turns_in, turns_of as turns_due}
use Rattle.ppm_choice.specs.Schedules.{listed, rounds, dues_of, beginning, schedule_turns}
use Rattle.ppm_choice.specs.Deeds.{act_of_fault}
use Rattle.ppm_choice.proofs.CourseLemmas.{turns_of_both}
use Rattle.ppm_choice.proofs.DueLemmas.{all_due}
use Rattle.ppm_choice.proofs.MadeLemmas.{made_or_not, state_in, left_at}
use Rattle.ppm_choice.proofs.TurnsLemmas.{tell_on}
use Rattle.ppm_frames.specs.Views.{view}
use Rattle.ppm_frames.specs.Seen.{arrays_at}
use Rattle.ppm_kept.specs.Running.{IsFair, strands}
use Rattle.ppm_runs.specs.Work.{undoes, undone_of, undone_in}
use Rattle.ppm_runs.proofs.HeirWork.{work_is_bounded}
use Rattle.ppm_progress.specs.Works.{HurtsNone}
use Rattle.ppm_progress.specs.Laps.{IsLap}
use Rattle.ppm_progress.specs.Enough.{IsNoHardAct, faults_of, enough_acts}
use Rattle.ppm_progress.specs.Replays.{ReplaysEnd}
use Rattle.ppm_progress.proofs.LapLemmas.{IsSet, set_on, work, work_grows, lap_after}
use Rattle.ppm_progress.proofs.ListLemmas.{both, front}
use Rattle.ppm_progress.proofs.RoundLemmas.{IsStepDue, rounds_due, rounds_add, rounds_long, turns_all, turns_few, steps_only, Leads, leads_on, each_rounds}

-- what is due names what is there, and is no hard fault
abbrev Sparing : (processors : ℕ) → Due → Type 0
Sparing processors due = IsActAmong processors (act_of due) × IsNoHardAct (act_of due)

victim_there : (processors c j : ℕ) (stated : Option ℕ) (loads : Bool) → 0 < processors → IsVictimAmong processors stated
    → victim_of processors c j stated loads < processors
victim_there processors c j stated false some among = some
victim_there processors c j None true some among = mod_below (c + 1 + j) processors some
victim_there processors c j (Some v) true some among = among

pub turn_there : (processors : ℕ) → 0 < processors → (w : Course) (act : ScheduledAct) → IsActAmong processors act → IsTurnAmong processors (turn_of processors w act)
turn_there processors some w (scheduled.Step c stated) among = record {
  processor = among.0;
  act = victim_there processors c (loads_of w c) stated (seeks w c) some among.1;
}
turn_there processors some w (scheduled.Fails c faults.Soft) among = record { processor = among; act = tt }
turn_there processors some w (scheduled.Fails c faults.Hard) among = record { processor = among; act = tt }

turn_spares : (processors : ℕ) (w : Course) (act : ScheduledAct) → IsNoHardAct act → HurtsNone (turn_of processors w act)
turn_spares processors w (scheduled.Step c stated) spares = tt
turn_spares processors w (scheduled.Fails c faults.Soft) spares = tt
turn_spares processors w (scheduled.Fails c faults.Hard) spares = absurd spares

-- the step of a round names what is there, and is no hard fault
step_spares : (processors : ℕ) (due : Due) → IsStepDue processors due → Sparing processors due
step_spares processors (InRound c) is = ((is, tt), tt)
step_spares processors _ is = absurd is

all_spare : (processors : ℕ) (dues : List Due) → AllByRecursion (IsStepDue processors) dues → AllByRecursion (Sparing processors) dues
all_spare processors [] all = tt
all_spare processors (due ∷ dues) all = (step_spares processors due all.0, all_spare processors dues all.1)

-- the acts that are due
abbrev pub acts_due : List Due → List ScheduledAct
acts_due dues = map act_of dues

pub acts_listed : (acts : List ScheduledAct) → acts_due (map Listed acts) ≡ acts
acts_listed [] = refl
acts_listed (act ∷ acts) = ap (λ (l : List ScheduledAct). act ∷ l) (acts_listed acts)

-- rounds have no faults
pub rounds_whole : (processors : ℕ) (dues : List Due) → AllByRecursion (IsStepDue processors) dues → faults_of (acts_due dues) ≡ 0
rounds_whole processors [] all = refl
rounds_whole processors (InRound c ∷ dues) all = rounds_whole processors dues all.1
rounds_whole processors (Listed act ∷ dues) all = absurd all.0

pub faults_both : (first more : List ScheduledAct) → faults_of (first ++ more) ≡ faults_of first + faults_of more
faults_both [] more = let none : faults_of [] ≡ 0 = refl in omega (arith, none)
faults_both (scheduled.Step c stated ∷ first) more = faults_both first more
faults_both (scheduled.Fails c fault ∷ first) more =
    let rest = faults_both first more in
    let whole : faults_of ((scheduled.Fails c fault ∷ first) ++ more) ≡ 1 + faults_of (first ++ more) = refl in
    let part : faults_of (scheduled.Fails c fault ∷ first) ≡ 1 + faults_of first = refl in
    omega (arith, rest, whole, part)

pub map_both : (first more : List Due) → acts_due (first ++ more) ≡ acts_due first ++ acts_due more
map_both [] more = refl
map_both (due ∷ first) more = ap (λ (l : List ScheduledAct). act_of due ∷ l) (map_both first more)

-- a step undoes nothing
step_undoes : (how : Takeover) (v : ℕ) (x : Standing) (re : Option Restart) → undoes how (Step v) x re ≡ false
step_undoes ByPlaces v x re = refl
step_undoes ByEntries v x re = refl

one_or_none : (y : Bool) (c : ℕ) → length (if y then c ∷ [] else []) ≤ 1
one_or_none true c = omega arith
one_or_none false c = omega arith

module _ (s : Shape) (code : CodeParts) where
  -- what is undone in turns is by faults that are due
  abbrev undone_by : RunState → List Turn → ℕ
  undone_by state turns = length (along s code (undone_of s) state turns)

  one_undone : (state : RunState) (w : Course) (act : ScheduledAct) → length (undone_of s state (turn_of s.processors w act)) ≤ faults_of (act ∷ [])
  one_undone state w (scheduled.Step c stated) =
      let v = victim_of s.processors c (loads_of w c) stated (seeks w c) in
      let none : length (undone_of s state (turn_of s.processors w (scheduled.Step c stated))) ≡ 0 =
      ap (λ (y : Bool). length (if y then c ∷ [] else [])) (step_undoes s.takeover v (stand_of state c) (restart_of (read s state.words (RestartWord c)))) in
      omega (arith, none)
  one_undone state w (scheduled.Fails c fault) =
      one_or_none (undoes s.takeover (act_of_fault fault) (stand_of state c) (restart_of (read s state.words (RestartWord c)))) c

  -- of what is due first
  first_undone : (w : Course) (due : Due) → undone_by w.state (turns_in s code w due) ≤ faults_of (act_of due ∷ [])
  first_undone w due = elim (made_or_not s code w due) [
    | inl m ↦
        let turn = turn_of s.processors w (act_of due) in
        let is : undone_by w.state (turns_in s code w due) ≡ length (undone_of s w.state turn ++ []) = ap (undone_by w.state) m.turns in
        let one = one_undone w.state w (act_of due) in
        let sum = length-append (undone_of s w.state turn) [] in
        omega (arith, is, one, sum)
    | inr k ↦ let is : undone_by w.state (turns_in s code w due) ≡ 0 = ap (undone_by w.state) k.turns in omega (arith, is)
  ]

  pub undone_few : (dues : List Due) (w : Course) → undone_by w.state (turns_due s code w dues) ≤ faults_of (acts_due dues)
  undone_few [] w = let none : undone_by w.state (turns_due s code w []) ≡ 0 = refl in omega (arith, none)
  undone_few (due ∷ dues) w =
      let next = behind s code w due in
      let here = turns_in s code w due in
      let more = turns_due s code next dues in
      let rest = undone_few dues next in
      let told : undone_by w.state (turns_due s code w (due ∷ dues)) ≡ undone_by w.state here + undone_by (after s code w.state here) more =
      ap length (tell_on s code (undone_of s) w.state here more)
      ∙ length-append (along s code (undone_of s) w.state here) (along s code (undone_of s) (after s code w.state here) more) in
      let same : undone_by next.state more ≡ undone_by (after s code w.state here) more = ap (λ (z : RunState). undone_by z more) (state_in s code w due) in
      let sum : faults_of (acts_due (due ∷ dues)) ≡ faults_of (act_of due ∷ []) + faults_of (acts_due dues) = faults_both (act_of due ∷ []) (acts_due dues) in
      let one = first_undone w due in
      omega (arith, rest, told, same, sum, one)

-- thirteen rounds are acts enough for thirteen
thirteen_fit : (processors n acts : ℕ) → 1 ≤ processors → 13 * processors * n ≤ acts → 13 * n ≤ acts
thirteen_fit zero n acts some le = absurd (omega (arith, some))
thirteen_fit (suc q) n acts some le = omega (arith, le)

module _ (code : CodeParts) (input : List NamedArray) (s : Shape) (keeper : ℕ) (im : Image) (fair : IsFair code) (opens : Opens code input s keeper im)
    (calm : Calm (strands s code) (root_strand code input) (arrays_at (view s im.words))) where
  abbrev start : RunState
  start = opening im.words s.processors

  abbrev p : ℕ
  p = s.processors

  abbrev Among : List Turn → Type 0
  Among turns = AllByRecursion (IsTurnAmong s.processors) turns

  abbrev Unhurt : List Turn → Type 0
  Unhurt turns = AllByRecursion HurtsNone turns

  abbrev Over : List Turn → Type 0
  Over turns = IsSet code input s keeper im fair opens calm turns

  abbrev done : List Turn → ℕ
  done turns = work code input s keeper im fair opens calm turns

  due_among : (dues : List Due) → AllByRecursion (Sparing p) dues → (w : Course) → Among (turns_due s code w dues)
  due_among dues all w =
      turns_all s code (IsTurnAmong p) (Sparing p)
      (λ w due is. turn_there p (let some = s.within.processors_least in omega (arith, some)) w (act_of due) is.0) dues all w

  due_unhurt : (dues : List Due) → AllByRecursion (Sparing p) dues → (w : Course) → Unhurt (turns_due s code w dues)
  due_unhurt dues all w = turns_all s code HurtsNone (Sparing p) (λ w due is. turn_spares p w (act_of due) is.1) dues all w

  -- laps of thirteen rounds
  abbrev laps : ℕ → List Due
  laps n = rounds p (13 * n)

  laps_work : (n : ℕ) (w : Course) (first : List Turn) → Leads code input s keeper im fair opens calm first w → Among first → Unhurt first
      → 13 * p * n ≤ w.left → (n + done first ≤ done (first ++ turns_due s code w (laps n))) ⊎ Over (first ++ turns_due s code w (laps n))
  laps_work zero w first at among none left =
      let le = work_grows code input s keeper im fair opens calm first (turns_due s code w (laps 0)) in inl (omega (arith, le))
  laps_work (suc n) w first at among none left =
      let thirteen = rounds p 13 in
      let one = turns_due s code w thirteen in
      let next = behind_all s code w thirteen in
      let rest = turns_due s code next (laps n) in
      let more : 13 * suc n ≡ 13 + 13 * n = omega arith in
      let split : laps (suc n) ≡ thirteen ++ laps n = ap (rounds p) more ∙ rounds_add p 13 (13 * n) in
      let whole : first ++ turns_due s code w (laps (suc n)) ≡ (first ++ one) ++ rest =
      ap (λ (l : List Due). first ++ turns_due s code w l) split ∙ ap (λ (l : List Turn). first ++ l) (turns_of_both s code w thirteen (laps n))
      ∙ sym (append_assoc first one rest) in
      let due = rounds_due p 13 in
      let spare = all_spare p thirteen due in
      let among_one = due_among thirteen spare w in
      let none_one = due_unhurt thirteen spare w in
      let few : length one ≤ 13 * p = let a = turns_few s code thirteen w in let b = rounds_long p 13 in omega (arith, a, b) in
      let fewer : 13 * p * n ≤ next.left = let is = left_at s code w thirteen in omega (arith, left, is, few) in
      elim (each_rounds code input s keeper im fair opens calm 13 w first at none (omega (arith, left))) [
        | inr set ↦ inr (subst Over (sym whole) (set_on code input s keeper im fair opens calm (first ++ one) rest set))
        | inl have ↦
            let is : IsLap s (reached s code im.words first) one =
            λ c there. inr (inr (have c (omega arith) (omega (arith, there)), steps_only s code c thirteen due w)) in
            elim (lap_after code input s keeper im fair opens calm first one among among_one none none_one is) [
              | inr set ↦ inr (subst Over (sym whole) (set_on code input s keeper im fair opens calm (first ++ one) rest set))
              | inl worked ↦
                  elim (laps_work n next (first ++ one) (leads_on code input s keeper im fair opens calm first w thirteen at)
                  (both (IsTurnAmong p) first one among among_one) (both HurtsNone first one none none_one) fewer) [
                    | inr set ↦ inr (subst Over (sym whole) set)
                    | inl more ↦ let same = ap done whole in inl (omega (arith, worked, more, same))
                  ]
            ]
      ]

  module _ (items : List ScheduleItem) (there : AllByRecursion (λ item. IsActAmong s.processors item.act) items)
      (spares : AllByRecursion (λ item. IsNoHardAct item.act) items) (end : End Result)
      (ends : Ends (strands s code) (root_strand code input) (arrays_at (view s im.words)) end) (turns : ℕ)
      (enough : enough_acts (acts_of items) s.processors end.counts.capsules ≤ turns) where
    abbrev count : ℕ
    count = 218 * end.counts.capsules + 171 * faults_of (acts_of items) + 7

    paired : (l : List ScheduleItem) → AllByRecursion (λ item. IsActAmong s.processors item.act) l → AllByRecursion (λ item. IsNoHardAct item.act) l
        → AllByRecursion (λ item. Sparing p (Listed item.act)) l
    paired [] a b = tt
    paired (item ∷ l) a b = ((a.0, b.0), paired l a.1 b.1)

    abbrev w : Course
    w = beginning start turns

    abbrev list : List Due
    list = listed items

    abbrev after_list : Course
    after_list = behind_all s code w list

    abbrev first : List Turn
    first = turns_due s code w list

    -- the list and the laps, and the rounds after them
    dues_split : (rest : ℕ) → turns ≡ 13 * count + rest → dues_of p items turns ≡ (list ++ laps count) ++ rounds p rest
    dues_split rest is =
        ap (λ (n : ℕ). list ++ rounds p n) is ∙ ap (λ (l : List Due). list ++ l) (rounds_add p (13 * count) rest)
        ∙ sym (append_assoc list (laps count) (rounds p rest))

    abbrev main : List Turn
    main = turns_due s code w (list ++ laps count)

    main_is : main ≡ first ++ turns_due s code after_list (laps count)
    main_is = turns_of_both s code w list (laps count)

    all_sparing : AllByRecursion (Sparing p) (list ++ laps count)
    all_sparing =
        both (Sparing p) list (laps count) (front (Sparing p) list (rounds p 0) (all_due (Sparing p) p items 0 (paired items there spares) (λ c lt. ((lt, tt), tt))))
        (all_spare p (laps count) (rounds_due p (13 * count)))

    few_undone : undone_in s code start main ≤ faults_of (acts_of items)
    few_undone =
        let few : undone_in s code start main ≤ faults_of (acts_due (list ++ laps count)) = undone_few s code (list ++ laps count) w in
        let sum = ap faults_of (map_both list (laps count)) ∙ faults_both (acts_due list) (acts_due (laps count)) in
        let none = rounds_whole p (laps count) (rounds_due p (13 * count)) in
        let acts = ap faults_of (acts_listed (acts_of items)) in
        omega (arith, few, sum, none, acts)

    main_over : Over main
    main_over =
        let among = due_among list (front (Sparing p) list (laps count) all_sparing) w in
        let none = due_unhurt list (front (Sparing p) list (laps count) all_sparing) w in
        let short : length first ≤ length (acts_of items) =
        let a = turns_few s code list w in let b = length-map (acts_of items) Listed in omega (arith, a, b) in
        let all : length (acts_of items) + 13 * p * count ≤ turns = enough in
        let is : length first + after_list.left ≡ turns = left_at s code w list in
        let left : 13 * p * count ≤ after_list.left = omega (arith, is, short, all) in
        let leads = leads_on code input s keeper im fair opens calm [] w list refl in
        elim (laps_work count after_list first leads among none left) [
          | inr set ↦ subst Over (sym main_is) set
          | inl worked ↦
              let most = work_is_bounded code input s keeper im fair opens calm main (due_among (list ++ laps count) all_sparing w) end ends in
              let few = few_undone in
              let same = ap done main_is in
              let is : count ≡ 218 * end.counts.capsules + 171 * faults_of (acts_of items) + 7 = refl in
              absurd (omega (arith, worked, most, few, same, is))
        ]

    pub replay_over : Over (schedule_turns s code start items turns)
    replay_over =
        let rest = turns - 13 * count in
        let all : length (acts_of items) + 13 * p * count ≤ turns = enough in
        let fit = thirteen_fit p count turns s.within.processors_least (omega (arith, all)) in
        let is : turns ≡ 13 * count + rest = omega (arith, fit) in
        let split = ap (turns_due s code w) (dues_split rest is) ∙ turns_of_both s code w (list ++ laps count) (rounds p rest) in
        subst Over (sym split) (set_on code input s keeper im fair opens calm main _ main_over)

pub replays_end : ReplaysEnd
replays_end code input s keeper im fair opens calm items there spares end ends turns enough =
    replay_over code input s keeper im fair opens calm items there spares end ends turns enough
