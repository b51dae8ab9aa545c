-- Rounds of a replay by places, hard faults before them: each processor that isn't done makes a step in each round, and one that is spared works, or
-- takes a place over, or looks at each place. So they are a lap.
use Rattle.std.proofs.Common.{◌≡◌, ◌≢◌, ◌⊎◌, ◌≤◌, ◌<◌, ◌+◌, ◌*◌, ◌%◌, if◌then◌else◌, ℕ, zero, suc, Bool, true, false, List, [], ◌∷◌, ◌++◌, length}
use Rattle.std.proofs.Common.{None, inl, inr, refl, sym, ap, ◌∙◌, subst, arith}
use Rattle.std.specs.List.{AllByRecursion}
use Rattle.std.specs.Prelude.{◌^◌}
use Rattle.std.proofs.lemmas.Bool.{cases_Bool, cases_eq, cases_lt, eq-eqb}
use Rattle.std.proofs.lemmas.Bool.Decides.{eqb_tells}
use Rattle.std.proofs.lemmas.List.{append_assoc}
use Rattle.std.proofs.lemmas.List.FromFn.{length-map-range_with_len}
use Rattle.ppm_strands.specs.Tree.{Words, Tree}
use Rattle.ppm_strands.specs.Calm.{Calm}
use Rattle.ppm_words.specs.declared.named_array.NamedArray.{NamedArray}
use Rattle.ppm_cells.specs.declared.shape.Shape.{Shape}
use Rattle.ppm_cells.specs.declared.shape.Takeover.TheVariants.{ByPlaces}
use Rattle.ppm_strands.specs.Strand.{Frame}
use Rattle.ppm_code.specs.Strands.{Point, Result}
use Rattle.ppm_code.specs.declared.code.CodeParts.{CodeParts}
use Rattle.ppm_code.specs.declared.location.FrameWord.{FrameWord}
use Rattle.ppm_layout.specs.Correct.{Opens}
use Rattle.ppm_layout.specs.Root.{root_strand}
use Rattle.ppm_layout.specs.declared.images.Image.{Image}
use Rattle.ppm_plan.specs.declared.schedule_item.ScheduledAct.TheVariants as scheduled
use Rattle.ppm_step.specs.Among.{IsTurnAmong}
use Rattle.ppm_step.specs.Laws.{finish_at}
use Rattle.ppm_step.specs.State.{State as RunState, stand_of, acts, happens, after, is_done_at, seeks_holder}
use Rattle.ppm_step.specs.declared.turn.Act.{Act}
use Rattle.ppm_step.specs.declared.turn.Act.TheVariants.{Step}
use Rattle.ppm_step.specs.declared.turn.Turn.{Turn}
use Rattle.ppm_choice.specs.Course.{Due, InRound, Course, act_of, victim_of, turn_of, seeks, loads_of, behind, behind_all, turns_in}
use Rattle.ppm_choice.specs.Course.{turns_of as turns_due}
use Rattle.ppm_choice.specs.Schedules.{round, rounds, beginning}
use Rattle.ppm_choice.specs.ScheduleLaws.{loads_made}
use Rattle.ppm_choice.proofs.CourseLemmas.{behind_both, turns_of_both}
use Rattle.ppm_choice.proofs.DueLemmas.{all_front, all_at}
use Rattle.ppm_choice.proofs.LoadLemmas.{IsFew, loads_at}
use Rattle.ppm_choice.proofs.MadeLemmas.{made_or_not, state_in, state_at, left_at, splits}
use Rattle.ppm_tickets.specs.View as spots
use Rattle.ppm_frames.specs.Views.{view}
use Rattle.ppm_frames.specs.Seen.{arrays_at}
use Rattle.ppm_kept.specs.Running.{IsFair, strands}
use Rattle.ppm_runs.specs.Legs.{Leg, state_then, AreLegs, last_state}
use Rattle.ppm_runs.specs.Work.{work_in}
use Rattle.ppm_runs.proofs.JoinLemmas.{stand_else}
use Rattle.ppm_runs.proofs.WholeLemmas.{in_two}
use Rattle.ppm_progress.specs.Enough.{lap_rounds}
use Rattle.ppm_progress.specs.Soon.{turns_of, StepsOnly}
use Rattle.ppm_progress.proofs.ListLemmas.{both, back, of_both, work_both}
use Rattle.ppm_progress.proofs.MomentLemmas.{IsOn, goes_on}
use Rattle.ppm_progress.proofs.ReplayLemmas.{turn_there}
use Rattle.ppm_progress.proofs.RoundLemmas.{steps, IsStepDue, steps_due, rounds_due, rounds_add, rounds_long, turns_all, turns_few, steps_only, step_made}
use Rattle.ppm_progress.proofs.SoonLemmas.{step_is}
use Rattle.ppm_progress.proofs.UnhurtRuns.{done_is}
use Rattle.ppm_takeover.specs.Laps.{LooksAt, TakesPart, IsLap, holder_tags}
use Rattle.ppm_takeover.proofs.AimTurns.{IsSettled}
use Rattle.ppm_takeover.proofs.LapRuns.{sum_after, lap_grows}
use Rattle.ppm_takeover.proofs.LoadCounts.{named, IsLoad, Load, loads_both, find_load, look_counts}
use Rattle.ppm_takeover.proofs.SettleRuns.{Spares, steps_spare, moment, one_more, going_or, set_later, IsQuiet, quiet_front, quiet_back, settles, looks_again}

-- numbers of rounds and of acts
one_lap : (a n : ℕ) → a * suc n ≡ a + a * n
one_lap a n = grind arith

lap_parts : (p : ℕ) → 17 * (p + 2) * p ≡ 17 * p + (17 * p * p + 17 * p)
lap_parts p = grind arith

seventeen_more : (k n : ℕ) → 17 * suc k * n ≡ 17 * n + 17 * k * n
seventeen_more k n = grind arith

abbrev turn_by : (q v : ℕ) → Turn
turn_by q v = record { processor = q; act = Step v }

pub steps_few : (s : Shape) (dues : List Due) → AllByRecursion (IsStepDue s.processors) dues → AllByRecursion IsFew dues
steps_few s [] all = tt
steps_few s (due ∷ dues) all = (one due all.0, steps_few s dues all.1)
  where
    one : (due : Due) → IsStepDue s.processors due → IsFew due
    one (InRound c) is = let most = s.within.processors_most in omega (arith, is, most)
    one _ is = absurd is

module _ (code : CodeParts) (input : List NamedArray) (s : Shape) (keeper : ℕ) (im : Image) (places : s.takeover ≡ ByPlaces) (fair : IsFair code)
    (opens : Opens code input s keeper im) (calm : Calm (strands s code) (root_strand code input) (arrays_at (view s im.words)))
    (legs : List Leg) (are_legs : AreLegs s code im.words legs) (fewer : (s.processors + 1) * (length legs + 1) < 2 ^ 58) where
  abbrev root : Tree (Frame FrameWord Point) Result
  root = root_strand code input

  abbrev arrays : Words
  arrays = arrays_at (view s im.words)

  abbrev start : RunState
  start = state_then s code im.words legs

  abbrev p : ℕ
  p = s.processors

  abbrev Among : List Turn → Type 0
  Among turns = AllByRecursion (IsTurnAmong s.processors) turns

  abbrev at : List Turn → RunState
  at turns = last_state s code im.words legs turns

  abbrev Over : List Turn → Type 0
  Over turns = finish_at s (at turns) ≢ 0

  abbrev Quiet : (first more : List Turn) → Type 0
  Quiet first more = IsQuiet code input s keeper im places fair opens calm legs are_legs fewer first more

  abbrev Lead : List Turn → Course → Type 0
  Lead first w = w.state ≡ at first

  later : (first more : List Turn) → Over first → Over (first ++ more)
  later first more set = set_later code input s keeper im places fair opens calm legs are_legs fewer first more set

  lead_on : (first : List Turn) (w : Course) (dues : List Due) → Lead first w → Lead (first ++ turns_due s code w dues) (behind_all s code w dues)
  lead_on first w dues lead =
      state_at s code w dues ∙ ap (λ (z : RunState). after s code z (turns_due s code w dues)) lead ∙ sym (in_two s code start first (turns_due s code w dues))

  pub among_due : (dues : List Due) → AllByRecursion (IsStepDue s.processors) dues → (w : Course) → Among (turns_due s code w dues)
  among_due dues all w = turns_all s code (IsTurnAmong s.processors) (IsStepDue s.processors) each dues all w
    where
      each : (w : Course) (due : Due) → IsStepDue s.processors due → IsTurnAmong s.processors (turn_of s.processors w (act_of due))
      each w (InRound c) is = turn_there s.processors (let some = s.within.processors_least in omega (arith, some)) w (scheduled.Step c None) (is, tt)
      each w _ is = absurd is

  -- another's step leaves a processor where it is
  other_going : (a d : ℕ) (w : Course) → a ≢ d → is_done_at (stand_of w.state d) ≡ false
      → is_done_at (stand_of (behind s code w (InRound a)).state d) ≡ false
  other_going a d w ne going = elim (made_or_not s code w (InRound a)) [
    | inl m ↦
        let v = victim_of s.processors a (loads_of w a) None (seeks w a) in
        ap (λ (k : Course). is_done_at (stand_of k.state d)) m.course
        ∙ ap is_done_at (stand_else s code w.state a d (Step v) (stand_of w.state a) (λ z. ne (sym z))) ∙ going
    | inr k ↦ ap (λ (k : Course). is_done_at (stand_of k.state d)) k.course ∙ going
  ]

  -- who takes steps has a turn in a round, or the finish word is set
  step_of : (n a : ℕ) (w : Course) (first : List Turn) (d : ℕ) → Lead first w → n ≤ w.left → a ≤ d → d < a + n
      → is_done_at (stand_of w.state d) ≡ false
      → (1 ≤ turns_of d (turns_due s code w (steps a n))) ⊎ Over (first ++ turns_due s code w (steps a n))
  step_of zero a w first d lead left le lt going = absurd (omega (arith, le, lt))
  step_of (suc n) a w first d lead left le lt going = elim (eqb_tells (finish_at s w.state) 0) [
    | inr set ↦ inr (later first (turns_due s code w (steps a (suc n))) (λ z. set.1 (ap (finish_at s) lead ∙ z)))
    | inl unset ↦ elim (cases_eq a d) [
      | inl own ↦
          let m = step_made code input s keeper im fair opens calm a w (omega (arith, left)) unset.1
          (ap (λ (q : ℕ). is_done_at (stand_of w.state q)) own ∙ going) in
          let turn = turn_of s.processors w (scheduled.Step a None) in
          let rest = turns_due s code (behind s code w (InRound a)) (steps (a + 1) n) in
          let whole : turns_due s code w (steps a (suc n)) ≡ turn ∷ rest = ap (λ (l : List Turn). l ++ rest) m.turns in
          let one : turns_of d (turn ∷ rest) ≡ 1 + turns_of d rest = ap (λ (y : Bool). (if y then 1 else 0) + turns_of d rest) (eq-eqb a d own) in
          let same = ap (turns_of d) whole in
          inl (omega (arith, one, same))
      | inr ne ↦
          let here = turns_in s code w (InRound a) in
          let next = behind s code w (InRound a) in
          let rest = turns_due s code next (steps (a + 1) n) in
          let lead_ : Lead (first ++ here) next =
          state_in s code w (InRound a) ∙ ap (λ (z : RunState). after s code z here) lead ∙ sym (in_two s code start first here) in
          let is : length (turns_due s code w (InRound a ∷ [])) + next.left ≡ w.left = left_at s code w (InRound a ∷ []) in
          let most = turns_few s code (InRound a ∷ []) w in
          let one : length (InRound a ∷ []) ≡ 1 = refl in
          elim (step_of n (a + 1) next (first ++ here) d lead_ (omega (arith, is, most, one, left)) (omega (arith, le, ne)) (omega (arith, lt))
          (other_going a d w ne going)) [
            | inl some ↦
                let sum : turns_of d (turns_due s code w (steps a (suc n))) ≡ turns_of d here + turns_of d rest = of_both d here rest in
                inl (omega (arith, some, sum))
            | inr set ↦ inr (subst Over (append_assoc first here rest) set)
          ]
    ]
  ]

  -- who takes steps goes on with them, or the finish word is set
  one_going : (first : List Turn) (turn : Turn) (d : ℕ) → d < s.processors → Among first → StepsOnly d turn → is_done_at (stand_of (at first) d) ≡ false
      → (is_done_at (stand_of (happens s code (at first) turn) d) ≡ false) ⊎ (finish_at s (happens s code (at first) turn) ≢ 0)
  one_going first turn d there among step going = elim (cases_eq turn.processor d) [
    | inr ne ↦
        inl (ap is_done_at (stand_else s code (at first) turn.processor d turn.act (stand_of (at first) turn.processor) (λ z. ne (sym z))) ∙ going)
    | inl own ↦
        let act = step_is turn.act (step own) in
        let now = moment code input s keeper im places fair opens calm legs are_legs fewer first among in
        let place = now.advancing.run.halves.lawful.1.holding.carried d in
        let on : IsOn s code fair root arrays d place.0 (at first) = record { moment = now; going = going; carried = place.1 } in
        let same : happens s code (at first) turn ≡ acts s code (at first) d (Step act.0) (stand_of (at first) d) =
        ap (λ (q : ℕ). acts s code (at first) q turn.act (stand_of (at first) q)) own
        ∙ ap (λ (k : Act). acts s code (at first) d k (stand_of (at first) d)) act.1 in
        elim (goes_on s code fair root arrays d place.0 there (at first) on act.0) [
          | inl go ↦ inl (ap (λ (z : RunState). is_done_at (stand_of z d)) same ∙ go)
          | inr set ↦ inr (λ z. set (sym (ap (finish_at s) same) ∙ z))
        ]
  ]

  going_on : (more first : List Turn) (d : ℕ) → d < s.processors → Among first → Among more → AllByRecursion (StepsOnly d) more
      → is_done_at (stand_of (at first) d) ≡ false → (is_done_at (stand_of (after s code (at first) more) d) ≡ false) ⊎ Over (first ++ more)
  going_on [] first d there among all steps_ going = inl going
  going_on (turn ∷ more) first d there among all steps_ going =
      let is = one_more code input s keeper im places fair opens calm legs are_legs fewer first turn in
      let whole = append_assoc first (turn ∷ []) more in
      elim (one_going first turn d there among steps_.0 going) [
        | inr set ↦ inr (subst Over whole (later (first ++ turn ∷ []) more (λ z. set (sym (ap (finish_at s) is) ∙ z))))
        | inl go ↦
            elim (going_on more (first ++ turn ∷ []) d there (both (IsTurnAmong s.processors) first (turn ∷ []) among (all.0, tt)) all.1 steps_.1
            (ap (λ (z : RunState). is_done_at (stand_of z d)) is ∙ go)) [
              | inl end ↦ inl (subst (λ (z : RunState). is_done_at (stand_of (after s code z more) d) ≡ false) is end)
              | inr set ↦ inr (subst Over whole set)
            ]
      ]

  -- in n rounds a processor that goes on has n turns
  rounds_of : (n : ℕ) (w : Course) (first : List Turn) (d : ℕ) → Lead first w → Among first → n * s.processors ≤ w.left → d < s.processors
      → is_done_at (stand_of w.state d) ≡ false
      → (n ≤ turns_of d (turns_due s code w (rounds s.processors n))) ⊎ Over (first ++ turns_due s code w (rounds s.processors n))
  rounds_of zero w first d lead among left there going = inl (omega arith)
  rounds_of (suc n) w first d lead among left there going =
      let one = turns_due s code w (round p) in
      let next = behind_all s code w (round p) in
      let rest = turns_due s code next (rounds p n) in
      let whole : turns_due s code w (rounds p (suc n)) ≡ one ++ rest = turns_of_both s code w (round p) (rounds p n) in
      let all : first ++ turns_due s code w (rounds p (suc n)) ≡ (first ++ one) ++ rest =
      ap (λ (l : List Turn). first ++ l) whole ∙ sym (append_assoc first one rest) in
      let due = steps_due p p 0 (omega arith) in
      let among_one = among_due (round p) due w in
      let few : length one ≤ p = let a = turns_few s code (round p) w in let b = round_long in omega (arith, a, b) in
      let fewer : n * p ≤ next.left = let is = left_at s code w (round p) in omega (arith, left, is, few) in
      elim (step_of p 0 w first d lead (omega (arith, left)) (omega arith) (omega (arith, there)) going) [
        | inr set ↦ inr (subst Over (sym all) (later (first ++ one) rest set))
        | inl have ↦
            elim (going_on one first d there among among_one (steps_only s code d (round p) due w)
            (ap (λ (z : RunState). is_done_at (stand_of z d)) (sym lead) ∙ going)) [
              | inr set ↦ inr (subst Over (sym all) (later (first ++ one) rest set))
              | inl go ↦
                  let go_ = ap (λ (z : RunState). is_done_at (stand_of z d))
                  (state_at s code w (round p) ∙ ap (λ (z : RunState). after s code z one) lead) ∙ go in
                  elim (rounds_of n next (first ++ one) d (lead_on first w (round p) lead) (both (IsTurnAmong s.processors) first one among among_one)
                  fewer there go_) [
                    | inr set ↦ inr (subst Over (sym all) set)
                    | inl more ↦
                        let sum = ap (turns_of d) whole ∙ of_both d one rest in
                        inl (omega (arith, have, more, sum))
                  ]
            ]
      ]
    where
      round_long : length (round s.processors) ≡ s.processors
      round_long = length-map-range_with_len InRound 0 s.processors

  -- a course that a run has come to from its beginning
  pub record From (turns : ℕ) (w : Course) (first : List Turn) : Type 0 where
    pub dues : List Due
    pub few : AllByRecursion IsFew dues
    pub course : behind_all s code (beginning start turns) dues ≡ w
    pub turns_are : turns_due s code (beginning start turns) dues ≡ first

  pub from_on : (turns : ℕ) (w : Course) (first : List Turn) (more : List Due) → AllByRecursion IsFew more → From turns w first
      → From turns (behind_all s code w more) (first ++ turns_due s code w more)
  from_on turns w first more few from = record {
    dues = from.dues ++ more;
    few = both IsFew from.dues more from.few few;
    course = behind_both s code (beginning start turns) from.dues more ∙ ap (λ (k : Course). behind_all s code k more) from.course;
    turns_are = turns_of_both s code (beginning start turns) from.dues more
        ∙ ap (λ (k : Course). turns_due s code (beginning start turns) from.dues ++ turns_due s code k more) from.course
        ∙ ap (λ (l : List Turn). l ++ turns_due s code w more) from.turns_are;
  }

  pub from_leads : (turns : ℕ) (w : Course) (first : List Turn) → From turns w first → Lead first w
  from_leads turns w first from =
      ap (λ (k : Course). k.state) (sym from.course) ∙ state_at s code (beginning start turns) from.dues ∙ ap (after s code start) from.turns_are

  from_loads : (turns : ℕ) (w : Course) (first : List Turn) → From turns w first → (c : ℕ)
      → loads_of w c ≡ loads_of (beginning start turns) c + loads_made s code c start first
  from_loads turns w first from c =
      ap (λ (k : Course). loads_of k c) (sym from.course) ∙ loads_at s code (beginning start turns) from.dues c refl from.few
      ∙ ap (λ (l : List Turn). loads_of (beginning start turns) c + loads_made s code c start l) from.turns_are

  -- a look in rounds names the place whose turn it is
  module _ (turns : ℕ) (w : Course) (first : List Turn) (from : From turns w first) (more : List Due) (due : AllByRecursion (IsStepDue s.processors) more)
      (c : ℕ) where
    abbrev Names : (before : List Turn) → Turn → Type 0
    Names before turn =
        turn ≡ record { processor = c; act = Step ((c + 1 + (loads_of (beginning start turns) c + loads_made s code c start (first ++ before))) % p) }

    names_by : (before : List Turn) (turn : Turn) (dues : List Due) → AllByRecursion (IsStepDue s.processors) dues → turns_due s code w dues ≡ before
        → IsLoad s code c (after s code w.state before) turn → (one : Due) → IsStepDue s.processors one
        → turn ≡ turn_of s.processors (behind_all s code w dues) (act_of one) → Names before turn
    names_by before turn dues all before_is load (InRound d) is e =
        let k = behind_all s code w dues in
        let own : d ≡ c = sym (ap (λ (t : Turn). t.processor) e) ∙ load.own in
        let looks : seeks k c ≡ true =
        ap (λ (z : RunState). seeks_holder (stand_of z c)) (state_at s code w dues ∙ ap (after s code w.state) before_is) ∙ load.seeks in
        let count : loads_of k c ≡ loads_of (beginning start turns) c + loads_made s code c start (first ++ before) =
        from_loads turns k (first ++ turns_due s code w dues) (from_on turns w first dues (steps_few s dues all) from) c
        ∙ ap (λ (l : List Turn). loads_of (beginning start turns) c + loads_made s code c start (first ++ l)) before_is in
        e
        ∙ ap (λ (q : ℕ). turn_of s.processors k (scheduled.Step q None)) own
        ∙ ap (λ (y : Bool). turn_by c (victim_of p c (loads_of k c) None y)) looks
        ∙ ap (λ (j : ℕ). turn_by c ((c + 1 + j) % p)) count
    names_by before turn dues all before_is load _ is e = absurd is

    names_at : (before : List Turn) (turn : Turn) (rest : List Turn) → turns_due s code w more ≡ before ++ turn ∷ rest
        → IsLoad s code c (after s code w.state before) turn → Names before turn
    names_at before turn rest e load =
        let sp = splits s code w more before rest turn e in
        let all = subst (AllByRecursion (IsStepDue s.processors)) sp.dues_are due in
        names_by before turn sp.before (all_front (IsStepDue s.processors) sp.before sp.rest sp.due all) sp.turns_before load sp.due
        (all_at (IsStepDue s.processors) sp.before sp.rest sp.due all) sp.turn_is

  -- of a processor that is spared
  module _ (c : ℕ) (there : c < s.processors) where
    pub spared_due : (dues : List Due) → AllByRecursion (IsStepDue s.processors) dues → (w : Course) → AllByRecursion (Spares c) (turns_due s code w dues)
    spared_due dues due w = steps_spare c (turns_due s code w dues) (steps_only s code c dues due w)

    -- in seventeen rounds in which nobody works and no place has a new holder
    module _ (w : Course) (first : List Turn) (lead : Lead first w) (among : Among first) (spared : AllByRecursion (Spares c) first)
        (left : 17 * s.processors ≤ w.left) (quiet : Quiet first (turns_due s code w (rounds s.processors 17))) where
      abbrev turns : List Turn
      turns = turns_due s code w (rounds s.processors 17)

      due17 : AllByRecursion (IsStepDue s.processors) (rounds s.processors 17)
      due17 = rounds_due s.processors 17

      live : is_done_at (stand_of w.state c) ≡ false
      live = elim (going_or code input s keeper im places fair opens calm legs are_legs fewer first among c there spared) [
        | inl going ↦ ap (λ (z : RunState). is_done_at (stand_of z c)) lead ∙ going
        | inr set ↦ absurd (later first turns set quiet.unset)
      ]

      seventeen : 17 ≤ turns_of c turns
      seventeen = elim (rounds_of 17 w first c lead among left there live) [
        | inl many ↦ many
        | inr set ↦ absurd (set quiet.unset)
      ]

      settled17 : IsSettled s (at (first ++ turns)) c
      settled17 =
          settles code input s keeper im places fair opens calm legs are_legs fewer c there first turns among (among_due (rounds s.processors 17) due17 w) spared
          (steps_only s code c (rounds s.processors 17) due17 w) quiet seventeen

      look17 : IsSettled s (at first) c → (1 ≤ loads_made s code c (at first) turns) × IsSettled s (at (first ++ turns)) c
      look17 settled =
          let a = looks_again code input s keeper im places fair opens calm legs are_legs fewer c there first turns among (among_due (rounds s.processors 17) due17 w) spared
          (steps_only s code c (rounds s.processors 17) due17 w) quiet seventeen settled in
          (look_counts s code c 16 (at first) turns a.0, a.1)

    -- a processor has made a look for each seventeen of these rounds
    loads_grow : (k : ℕ) (w : Course) (first : List Turn) → Lead first w → Among first → AllByRecursion (Spares c) first
        → 17 * k * s.processors ≤ w.left → Quiet first (turns_due s code w (rounds s.processors (17 * k))) → IsSettled s (at first) c
        → k ≤ loads_made s code c (at first) (turns_due s code w (rounds s.processors (17 * k)))
    loads_grow zero w first lead among spared left quiet settled = omega arith
    loads_grow (suc k) w first lead among spared left quiet settled =
        let seven = rounds p 17 in
        let one = turns_due s code w seven in
        let next = behind_all s code w seven in
        let rest = turns_due s code next (rounds p (17 * k)) in
        let more : 17 * suc k ≡ 17 + 17 * k = omega arith in
        let split : rounds p (17 * suc k) ≡ seven ++ rounds p (17 * k) = ap (rounds p) more ∙ rounds_add p 17 (17 * k) in
        let whole : turns_due s code w (rounds p (17 * suc k)) ≡ one ++ rest =
        ap (turns_due s code w) split ∙ turns_of_both s code w seven (rounds p (17 * k)) in
        let due = rounds_due p 17 in
        let among_one = among_due seven due w in
        let among_rest = among_due (rounds p (17 * k)) (rounds_due p (17 * k)) next in
        let quiet_ = subst (Quiet first) whole quiet in
        let quiet_one = quiet_front code input s keeper im places fair opens calm legs are_legs fewer first one rest among among_one among_rest quiet_ in
        let quiet_rest = quiet_back code input s keeper im places fair opens calm legs are_legs fewer first one rest among among_one among_rest quiet_ in
        let product : 17 * suc k * p ≡ 17 * p + 17 * k * p = seventeen_more k p in
        let look = look17 w first lead among spared (omega (arith, left, product)) quiet_one settled in
        let few : length one ≤ 17 * p = let a = turns_few s code seven w in let b = rounds_long p 17 in omega (arith, a, b) in
        let fewer : 17 * k * p ≤ next.left = let is = left_at s code w seven in omega (arith, left, product, is, few) in
        let more_ = loads_grow k next (first ++ one) (lead_on first w seven lead) (both (IsTurnAmong s.processors) first one among among_one)
        (both (Spares c) first one spared (spared_due seven due w)) fewer quiet_rest look.1 in
        let here = ap (λ (z : RunState). loads_made s code c z rest) (in_two s code start first one) in
        let sum = ap (loads_made s code c (at first)) whole ∙ loads_both s code c (at first) one rest in
        let a = look.0 in
        omega (arith, a, more_, here, sum)

    -- a lap of rounds in which nobody works and no place has a new holder: each place is looked at
    module _ (turns : ℕ) (w : Course) (first : List Turn) (from : From turns w first) (among : Among first) (spared : AllByRecursion (Spares c) first)
        (left : lap_rounds s.processors * s.processors ≤ w.left)
        (quiet : Quiet first (turns_due s code w (rounds s.processors (lap_rounds s.processors)))) where
      abbrev seven : List Due
      seven = rounds s.processors 17

      abbrev main : List Due
      main = rounds s.processors (17 * s.processors)

      abbrev lap : List Turn
      lap = turns_due s code w (rounds s.processors (lap_rounds s.processors))

      abbrev a : List Turn
      a = turns_due s code w seven

      abbrev wa : Course
      wa = behind_all s code w seven

      abbrev m : List Turn
      m = turns_due s code wa main

      abbrev wm : Course
      wm = behind_all s code wa main

      abbrev z : List Turn
      z = turns_due s code wm seven

      dues_are : rounds s.processors (lap_rounds s.processors) ≡ seven ++ (main ++ seven)
      dues_are =
          let sum : lap_rounds s.processors ≡ 17 + (17 * s.processors + 17) = omega arith in
          ap (rounds s.processors) sum ∙ rounds_add s.processors 17 (17 * s.processors + 17)
          ∙ ap (λ (l : List Due). seven ++ l) (rounds_add s.processors (17 * s.processors) 17)

      lap_is : lap ≡ a ++ (m ++ z)
      lap_is =
          ap (turns_due s code w) dues_are ∙ turns_of_both s code w seven (main ++ seven)
          ∙ ap (λ (l : List Turn). a ++ l) (turns_of_both s code wa main seven)

      due17_ : AllByRecursion (IsStepDue s.processors) seven
      due17_ = rounds_due s.processors 17

      due_main : AllByRecursion (IsStepDue s.processors) main
      due_main = rounds_due s.processors (17 * s.processors)

      lead0 : Lead first w
      lead0 = from_leads turns w first from

      among_a : Among a
      among_a = among_due seven due17_ w

      among_m : Among m
      among_m = among_due main due_main wa

      among_z : Among z
      among_z = among_due seven due17_ wm

      among_mz : Among (m ++ z)
      among_mz = both (IsTurnAmong s.processors) m z among_m among_z

      among_fa : Among (first ++ a)
      among_fa = both (IsTurnAmong s.processors) first a among among_a

      among_fm : Among ((first ++ a) ++ m)
      among_fm = both (IsTurnAmong s.processors) (first ++ a) m among_fa among_m

      spared_fa : AllByRecursion (Spares c) (first ++ a)
      spared_fa = both (Spares c) first a spared (spared_due seven due17_ w)

      spared_fm : AllByRecursion (Spares c) ((first ++ a) ++ m)
      spared_fm = both (Spares c) (first ++ a) m spared_fa (spared_due main due_main wa)

      quiet_all : Quiet first (a ++ (m ++ z))
      quiet_all = subst (Quiet first) lap_is quiet

      quiet_a : Quiet first a
      quiet_a = quiet_front code input s keeper im places fair opens calm legs are_legs fewer first a (m ++ z) among among_a among_mz quiet_all

      quiet_mz : Quiet (first ++ a) (m ++ z)
      quiet_mz = quiet_back code input s keeper im places fair opens calm legs are_legs fewer first a (m ++ z) among among_a among_mz quiet_all

      quiet_m : Quiet (first ++ a) m
      quiet_m = quiet_front code input s keeper im places fair opens calm legs are_legs fewer (first ++ a) m z among_fa among_m among_z quiet_mz

      quiet_z : Quiet ((first ++ a) ++ m) z
      quiet_z = quiet_back code input s keeper im places fair opens calm legs are_legs fewer (first ++ a) m z among_fa among_m among_z quiet_mz

      left_a : 17 * s.processors ≤ w.left
      left_a = let parts_ = lap_parts s.processors in omega (arith, left, parts_)

      few_a : length a ≤ 17 * s.processors
      few_a = let x = turns_few s code seven w in let y = rounds_long s.processors 17 in omega (arith, x, y)

      few_m : length m ≤ 17 * s.processors * s.processors
      few_m = let x = turns_few s code main wa in let y = rounds_long s.processors (17 * s.processors) in omega (arith, x, y)

      left_m : 17 * s.processors * s.processors + 17 * s.processors ≤ wa.left
      left_m = let parts_ = lap_parts s.processors in let is = left_at s code w seven in let few = few_a in omega (arith, left, parts_, is, few)

      left_z : 17 * s.processors ≤ wm.left
      left_z = let is = left_at s code wa main in let low = left_m in let few = few_m in omega (arith, is, low, few)

      lead_a : Lead (first ++ a) wa
      lead_a = lead_on first w seven lead0

      lead_m : Lead ((first ++ a) ++ m) wm
      lead_m = lead_on (first ++ a) wa main lead_a

      looks_enough : s.processors ≤ loads_made s code c (at (first ++ a)) m
      looks_enough =
          loads_grow s.processors wa (first ++ a) lead_a among_fa spared_fa (let low = left_m in omega (arith, low)) quiet_m
          (settled17 w first lead0 among spared left_a quiet_a)

      -- place v
      module _ (v : ℕ) (lt : v < s.processors) where
        abbrev base : ℕ
        base = loads_of (beginning start turns) c + loads_made s code c start (first ++ a)

        num : (j : ℕ) × (j < s.processors) × ((c + 1 + base + j) % s.processors ≡ v)
        num = named s.processors (c + 1 + base) v lt

        load : Load s code c (at (first ++ a)) m num.0
        load = find_load s code c m (at (first ++ a)) num.0 (let enough = looks_enough in let low = num.1 in omega (arith, enough, low))

        abbrev mine : Turn
        mine = record { processor = c; act = Step v }

        whole_m : turns_due s code w (seven ++ main) ≡ (a ++ load.before) ++ load.turn ∷ load.rest
        whole_m =
            turns_of_both s code w seven main ∙ ap (λ (l : List Turn). a ++ l) load.turns_are ∙ sym (append_assoc a load.before (load.turn ∷ load.rest))

        there_is : after s code (at (first ++ a)) load.before ≡ after s code (at first) (a ++ load.before)
        there_is =
            ap (λ (k : RunState). after s code k load.before) (in_two s code start first a) ∙ sym (in_two s code (at first) a load.before)

        turn_is : load.turn ≡ mine
        turn_is =
            let there_w : after s code (at (first ++ a)) load.before ≡ after s code w.state (a ++ load.before) =
            there_is ∙ ap (λ (k : RunState). after s code k (a ++ load.before)) (sym lead0) in
            let e = names_at turns w first from (seven ++ main) (both (IsStepDue s.processors) seven main due17_ due_main) c (a ++ load.before) load.turn
            load.rest whole_m (subst (λ (k : RunState). IsLoad s code c k load.turn) there_w load.is) in
            let parts_ : loads_made s code c start (first ++ (a ++ load.before)) ≡ loads_made s code c start (first ++ a) + num.0 =
            ap (loads_made s code c start) (sym (append_assoc first a load.before)) ∙ loads_both s code c start (first ++ a) load.before
            ∙ ap (λ (k : ℕ). loads_made s code c start (first ++ a) + k) load.count in
            let sum : c + 1 + (loads_of (beginning start turns) c + loads_made s code c start (first ++ (a ++ load.before))) ≡ c + 1 + base + num.0 =
            omega (arith, parts_) in
            e ∙ ap (λ (k : ℕ). turn_by c (k % s.processors)) sum ∙ ap (turn_by c) num.2

        lap_at : lap ≡ (a ++ load.before) ++ mine ∷ (load.rest ++ z)
        lap_at =
            lap_is ∙ ap (λ (l : List Turn). a ++ (l ++ z)) load.turns_are
            ∙ ap (λ (l : List Turn). a ++ l) (append_assoc load.before (load.turn ∷ load.rest) z)
            ∙ sym (append_assoc a load.before (load.turn ∷ (load.rest ++ z)))
            ∙ ap (λ (t : Turn). (a ++ load.before) ++ t ∷ (load.rest ++ z)) turn_is

        steps_lap : AllByRecursion (StepsOnly c) lap
        steps_lap =
            steps_only s code c (rounds s.processors (lap_rounds s.processors)) (rounds_due s.processors (lap_rounds s.processors)) w

        pub looked_at : LooksAt s code (at first) lap v
        looked_at =
            let steps_split = subst (AllByRecursion (StepsOnly c)) lap_at steps_lap in
            let many = seventeen wm ((first ++ a) ++ m) lead_m among_fm spared_fm left_z quiet_z in
            let sum = of_both c load.rest z in
            record {
              processor = c;
              before = a ++ load.before;
              rest = load.rest ++ z;
              lap_is = lap_at;
              seeks = ap (λ (k : RunState). seeks_holder (stand_of k c)) (sym there_is) ∙ load.is.seeks;
              steps = (back (StepsOnly c) (a ++ load.before) (mine ∷ (load.rest ++ z)) steps_split).1;
              enough = omega (arith, many, sum);
            }

    -- a lap gains
    module _ (turns : ℕ) (w : Course) (first : List Turn) (from : From turns w first) (among : Among first) (spared : AllByRecursion (Spares c) first)
        (left : lap_rounds s.processors * s.processors ≤ w.left) where
      abbrev lap_ : List Turn
      lap_ = turns_due s code w (rounds s.processors (lap_rounds s.processors))

      abbrev gained : List Turn → ℕ
      gained l = work_in s code start l + holder_tags s.processors (spots.view s (at l).words)

      due_ : AllByRecursion (IsStepDue s.processors) (rounds s.processors (lap_rounds s.processors))
      due_ = rounds_due s.processors (lap_rounds s.processors)

      part : finish_at s (at (first ++ lap_)) ≡ 0 → (d : ℕ) → d < s.processors → TakesPart (at first) lap_ d
      part unset d lt = elim (cases_Bool (is_done_at (stand_of (at first) d))) [
        | inl done ↦ inl (done_is (stand_of (at first) d) done)
        | inr going ↦
            let lead_ = from_leads turns w first from in
            let live_ = ap (λ (k : RunState). is_done_at (stand_of k d)) lead_ ∙ going in
            elim (rounds_of (lap_rounds s.processors) w first d lead_ among left lt live_) [
              | inr set ↦ absurd (set unset)
              | inl many ↦
                  let some = s.within.processors_least in
                  inr (inr (omega (arith, many, some), steps_only s code d (rounds s.processors (lap_rounds s.processors)) due_ w))
            ]
      ]

      pub lap_gains : (1 + gained first ≤ gained (first ++ lap_)) ⊎ Over (first ++ lap_)
      lap_gains =
          let among_lap = among_due (rounds s.processors (lap_rounds s.processors)) due_ w in
          let works = work_both s code start first lap_ in
          let up = sum_after code input s keeper im places fair opens calm legs are_legs fewer first lap_ among among_lap in
          elim (eqb_tells (finish_at s (at (first ++ lap_))) 0) [
            | inr set ↦ inr set.1
            | inl unset ↦ elim (cases_eq (work_in s code (at first) lap_) 0) [
              | inr some ↦ inl (omega (arith, works, up, some))
              | inl none ↦
                  elim (cases_lt (holder_tags s.processors (spots.view s (at first).words))
                  (holder_tags s.processors (spots.view s (at (first ++ lap_)).words))) [
                    | inl more ↦ inl (omega (arith, works, more))
                    | inr flat ↦
                        let quiet : Quiet first lap_ = record { unset = unset.1; idle = none; flat = flat } in
                        let is : IsLap s code (at first) lap_ = record {
                          part = part unset.1;
                          looks = λ v gone. looked_at turns w first from among spared left quiet v gone.there;
                        } in
                        lap_grows code input s keeper im places fair opens calm legs are_legs fewer first lap_ among among_lap is
                  ]
            ]
          ]
