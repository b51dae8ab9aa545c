-- In a round each processor makes a step, while the finish word is 0 and acts are left.
use Rattle.std.proofs.Common.{◌≡◌, ◌≢◌, ◌⊎◌, ◌≤◌, ◌<◌, ◌+◌, ◌*◌, ◌==◌, ◌&&◌, not, nat_lt, if◌then◌else◌, ℕ, zero, suc, Bool, true, false, List, [], ◌∷◌, ◌++◌, length}
use Rattle.std.proofs.Common.{None, inl, inr, refl, sym, ap, ◌∙◌, subst, arith, map, length-append}
use Rattle.std.specs.List.{AllByRecursion, range_with_len}
use Rattle.std.proofs.lemmas.Bool.{cases_eq, eq-eqb, lt-ltb, true≢false}
use Rattle.std.proofs.lemmas.Bool.Decides.{eqb_tells}
use Rattle.std.proofs.lemmas.List.{append_assoc}
use Rattle.std.proofs.lemmas.List.FromFn.{length-map-range_with_len}
use Rattle.ppm_strands.specs.Calm.{Calm}
use Rattle.ppm_words.specs.declared.named_array.NamedArray.{NamedArray}
use Rattle.ppm_cells.specs.declared.shape.Shape.{Shape}
use Rattle.ppm_code.specs.declared.code.CodeParts.{CodeParts}
use Rattle.ppm_layout.specs.Correct.{Opens}
use Rattle.ppm_layout.specs.Root.{root_strand}
use Rattle.ppm_layout.specs.declared.images.Image.{Image}
use Rattle.ppm_plan.specs.declared.schedule_item.ScheduledAct.TheVariants as scheduled
use Rattle.ppm_step.specs.Laws.{reached, finish_at}
use Rattle.ppm_step.specs.State.{State as RunState, stand_of, happens, after, opening, is_done_at}
use Rattle.ppm_step.specs.declared.turn.Turn.{Turn}
use Rattle.ppm_choice.specs.Course.{Due, InRound, Course, act_of, turn_of, behind, behind_all, turns_in, turns_of as turns_due}
use Rattle.ppm_choice.specs.Schedules.{round, rounds}
use Rattle.ppm_choice.proofs.CourseLemmas.{turns_of_both}
use Rattle.ppm_choice.proofs.MadeLemmas.{Makes, Skips, made_or_not, state_at, left_at}
use Rattle.ppm_frames.specs.Views.{view}
use Rattle.ppm_frames.specs.Seen.{arrays_at}
use Rattle.ppm_kept.specs.Running.{IsFair, strands}
use Rattle.ppm_runs.proofs.WholeLemmas.{in_two}
use Rattle.ppm_progress.specs.Soon.{turns_of, StepsOnly}
use Rattle.ppm_progress.specs.Works.{HurtsNone}
use Rattle.ppm_progress.proofs.UnhurtRuns.{live_or, unhurt_first}
use Rattle.ppm_progress.proofs.LapLemmas.{IsSet, set_on}
use Rattle.ppm_progress.proofs.ListLemmas.{both, of_both}

-- the steps of n processors, from a on
abbrev pub steps : (a n : ℕ) → List Due
steps a n = map InRound (range_with_len a n)

-- due is the step of a processor that is there
abbrev pub IsStepDue : (processors : ℕ) → Due → Type 0
IsStepDue processors (InRound c) = c < processors
IsStepDue processors _ = ⊥

pub steps_due : (processors n a : ℕ) → a + n ≤ processors → AllByRecursion (IsStepDue processors) (steps a n)
steps_due processors zero a fits = tt
steps_due processors (suc n) a fits = (omega (arith, fits), steps_due processors n (a + 1) (omega (arith, fits)))

pub rounds_due : (processors n : ℕ) → AllByRecursion (IsStepDue processors) (rounds processors n)
rounds_due processors zero = tt
rounds_due processors (suc n) =
    both (IsStepDue processors) (round processors) (rounds processors n) (steps_due processors processors 0 (omega arith)) (rounds_due processors n)

-- rounds after rounds
pub rounds_add : (processors a b : ℕ) → rounds processors (a + b) ≡ rounds processors a ++ rounds processors b
rounds_add processors zero b = let e : zero + b ≡ b = omega arith in ap (rounds processors) e
rounds_add processors (suc a) b =
    let e : suc a + b ≡ suc (a + b) = omega arith in
    ap (rounds processors) e ∙ ap (λ (l : List Due). round processors ++ l) (rounds_add processors a b)
    ∙ sym (append_assoc (round processors) (rounds processors a) (rounds processors b))

pub rounds_long : (processors n : ℕ) → length (rounds processors n) ≡ n * processors
rounds_long processors zero = let none : length (rounds processors zero) ≡ 0 = refl in omega (arith, none)
rounds_long processors (suc n) =
    let whole : length (rounds processors (suc n)) ≡ length (round processors ++ rounds processors n) = refl in
    let rest = rounds_long processors n in
    let one = length-map-range_with_len InRound 0 processors in
    let sum = length-append (round processors) (rounds processors n) in
    omega (arith, whole, rest, one, sum)

-- a step that is open, with acts left, of one that isn't done, is made
made_so : (a b c : Bool) → a ≡ true → b ≡ true → c ≡ false → (a && b && not c) ≡ false → ⊥
made_so true true false x y z e = true≢false e
made_so true true true x y z e = true≢false z
made_so true false c x y z e = true≢false (sym y)
made_so false b c x y z e = true≢false (sym x)

module _ (s : Shape) (code : CodeParts) where
  -- what holds of the turn of each that is due holds of all turns
  pub turns_all : (Q : Turn → Type 0) (R : Due → Type 0) → ((w : Course) (due : Due) → R due → Q (turn_of s.processors w (act_of due)))
      → (dues : List Due) → AllByRecursion R dues → (w : Course) → AllByRecursion Q (turns_due s code w dues)
  turns_all Q R each [] all w = tt
  turns_all Q R each (due ∷ dues) all w =
      both Q (turns_in s code w due) (turns_due s code (behind s code w due) dues) (one (made_or_not s code w due))
      (turns_all Q R each dues all.1 (behind s code w due))
    where
      one : Makes s code w due ⊎ Skips s code w due → AllByRecursion Q (turns_in s code w due)
      one (inl m) = subst (AllByRecursion Q) (sym m.turns) (each w due all.0, tt)
      one (inr k) = subst (AllByRecursion Q) (sym k.turns) tt

  -- there are no more turns than are due
  pub turns_few : (dues : List Due) (w : Course) → length (turns_due s code w dues) ≤ length dues
  turns_few [] w = let none : length (turns_due s code w []) ≡ 0 = refl in omega (arith, none)
  turns_few (due ∷ dues) w =
      let rest = turns_few dues (behind s code w due) in
      let here = turns_in s code w due in
      let more = turns_due s code (behind s code w due) dues in
      let whole : length (turns_due s code w (due ∷ dues)) ≡ length (here ++ more) = refl in
      let sum = length-append here more in
      elim (made_or_not s code w due) [
        | inl m ↦ let one = ap length m.turns in omega (arith, rest, whole, sum, one)
        | inr k ↦ let none = ap length k.turns in omega (arith, rest, whole, sum, none)
      ]

  -- the turns of rounds are steps, and hurt nobody
  pub steps_only : (c : ℕ) (dues : List Due) → AllByRecursion (IsStepDue s.processors) dues → (w : Course) → AllByRecursion (StepsOnly c) (turns_due s code w dues)
  steps_only c dues all w = turns_all (StepsOnly c) (IsStepDue s.processors) each dues all w
    where
      each : (w : Course) (due : Due) → IsStepDue s.processors due → StepsOnly c (turn_of s.processors w (act_of due))
      each w (InRound d) is = λ own. refl
      each w _ is = absurd is

  pub none_hurt : (dues : List Due) → AllByRecursion (IsStepDue s.processors) dues → (w : Course) → AllByRecursion HurtsNone (turns_due s code w dues)
  none_hurt dues all w = turns_all HurtsNone (IsStepDue s.processors) each dues all w
    where
      each : (w : Course) (due : Due) → IsStepDue s.processors due → HurtsNone (turn_of s.processors w (act_of due))
      each w (InRound d) is = tt
      each w _ is = absurd is

module _ (code : CodeParts) (input : List NamedArray) (s : Shape) (keeper : ℕ) (im : Image) (fair : IsFair code) (opens : Opens code input s keeper im)
    (calm : Calm (strands s code) (root_strand code input) (arrays_at (view s im.words))) where
  abbrev start : RunState
  start = opening im.words s.processors

  -- these turns lead to the run under way
  abbrev pub Leads : List Turn → Course → Type 0
  Leads first w = w.state ≡ reached s code im.words first

  pub leads_on : (first : List Turn) (w : Course) (dues : List Due) → Leads first w → Leads (first ++ turns_due s code w dues) (behind_all s code w dues)
  leads_on first w dues at =
      state_at s code w dues ∙ ap (λ (z : RunState). after s code z (turns_due s code w dues)) at ∙ sym (in_two s code start first (turns_due s code w dues))

  abbrev pub Over : List Turn → Type 0
  Over turns = IsSet code input s keeper im fair opens calm turns

  -- each of the processors has a turn in its step, or the finish word is set
  abbrev pub HaveTurns : (a n least : ℕ) → List Turn → Type 0
  HaveTurns a n least turns = (c : ℕ) → a ≤ c → c < a + n → least ≤ turns_of c turns

  pub step_made : (a : ℕ) (w : Course) → 0 < w.left → finish_at s w.state ≡ 0 → is_done_at (stand_of w.state a) ≡ false → Makes s code w (InRound a)
  step_made a w left unset live = elim (made_or_not s code w (InRound a)) [
    | inl m ↦ m
    | inr k ↦
        absurd (made_so (nat_lt 0 w.left) (finish_at s w.state == 0) (is_done_at (stand_of w.state a)) (lt-ltb 0 w.left left)
        (eq-eqb (finish_at s w.state) 0 unset) live k.why)
  ]

  -- a turn of processor a, and then those of the others
  counted : (a n c : ℕ) (turn : Turn) → turn.processor ≡ a → (rest : List Turn) → HaveTurns (a + 1) n 1 rest → a ≤ c → c < a + suc n
      → 1 ≤ turns_of c (turn ∷ rest)
  counted a n c turn own rest have le lt = elim (cases_eq turn.processor c) [
    | inl same ↦
        let one : turns_of c (turn ∷ rest) ≡ 1 + turns_of c rest =
        ap (λ (y : Bool). (if y then 1 else 0) + turns_of c rest) (eq-eqb turn.processor c same) in
        omega (arith, one)
    | inr ne ↦
        let other : a ≢ c = λ z. ne (own ∙ z) in
        let later = have c (omega (arith, le, other)) (omega (arith, lt)) in
        let sum : turns_of c (turn ∷ rest) ≡ turns_of c (turn ∷ []) + turns_of c rest = of_both c (turn ∷ []) rest in
        omega (arith, later, sum)
  ]

  abbrev Steps : (a n : ℕ) → Course → List Turn → Type 0
  Steps a n w first = HaveTurns a n 1 (turns_due s code w (steps a n)) ⊎ Over (first ++ turns_due s code w (steps a n))

  -- a step that is made, and then those of the others
  made_first : (a n : ℕ) (w : Course) (first : List Turn) → Makes s code w (InRound a)
      → Steps (a + 1) n (behind s code w (InRound a)) (first ++ turn_of s.processors w (scheduled.Step a None) ∷ []) → Steps a (suc n) w first
  made_first a n w first m then_ =
      let turn = turn_of s.processors w (scheduled.Step a None) in
      let rest = turns_due s code (behind s code w (InRound a)) (steps (a + 1) n) in
      let whole : turns_due s code w (steps a (suc n)) ≡ turn ∷ rest = ap (λ (l : List Turn). l ++ rest) m.turns in
      elim then_ [
        | inr set ↦ inr (subst Over (append_assoc first (turn ∷ []) rest ∙ ap (λ (l : List Turn). first ++ l) (sym whole)) set)
        | inl have ↦ inl (subst (HaveTurns a (suc n) 1) (sym whole) (λ c le lt. counted a n c turn refl rest have le lt))
      ]

  each_steps : (n a : ℕ) (w : Course) (first : List Turn) → Leads first w → AllByRecursion HurtsNone first → a + n ≤ s.processors → n ≤ w.left
      → Steps a n w first
  each_steps zero a w first at none fits left = inl (λ c le lt. absurd (omega (arith, le, lt)))
  each_steps (suc n) a w first at none fits left = elim (eqb_tells (finish_at s w.state) 0) [
    | inr set ↦
        inr (set_on code input s keeper im fair opens calm first (turns_due s code w (steps a (suc n))) (λ z. set.1 (ap (finish_at s) at ∙ z)))
    | inl unset ↦
        elim (live_or s code fair im.words (unhurt_first code input s keeper im opens calm).advancing.run.halves.lawful.0 first none a (omega (arith, fits))) [
          | inr set ↦ absurd (set (sym (ap (finish_at s) at) ∙ unset.1))
          | inl live ↦
              let m = step_made a w (omega (arith, left)) unset.1 (ap (λ (z : RunState). is_done_at (stand_of z a)) at ∙ live) in
              let turn = turn_of s.processors w (scheduled.Step a None) in
              let next = behind s code w (InRound a) in
              let leads : Leads (first ++ turn ∷ []) next =
              ap (λ (v : Course). v.state) m.course ∙ ap (λ (z : RunState). happens s code z turn) at ∙ sym (in_two s code start first (turn ∷ [])) in
              let fewer : n ≤ next.left = let is = ap (λ (v : Course). v.left) m.course in omega (arith, left, is) in
              made_first a n w first m
              (each_steps n (a + 1) next (first ++ turn ∷ []) leads (both HurtsNone first (turn ∷ []) none (tt, tt)) (omega (arith, fits)) fewer)
        ]
  ]

  -- in n rounds each processor has n turns
  pub each_rounds : (n : ℕ) (w : Course) (first : List Turn) → Leads first w → AllByRecursion HurtsNone first → n * s.processors ≤ w.left
      → HaveTurns 0 s.processors n (turns_due s code w (rounds s.processors n)) ⊎ Over (first ++ turns_due s code w (rounds s.processors n))
  each_rounds zero w first at none left = inl (λ c le lt. omega arith)
  each_rounds (suc n) w first at none left =
      let p = s.processors in
      let one = turns_due s code w (round p) in
      let next = behind_all s code w (round p) in
      let rest = turns_due s code next (rounds p n) in
      let whole : turns_due s code w (rounds p (suc n)) ≡ one ++ rest = turns_of_both s code w (round p) (rounds p n) in
      let all : first ++ turns_due s code w (rounds p (suc n)) ≡ (first ++ one) ++ rest =
      ap (λ (l : List Turn). first ++ l) whole ∙ sym (append_assoc first one rest) in
      let due = steps_due p p 0 (omega arith) in
      let few : length one ≤ p = let a = turns_few s code (round p) w in let b = length-map-range_with_len InRound 0 p in omega (arith, a, b) in
      let fewer : n * p ≤ next.left = let is = left_at s code w (round p) in omega (arith, left, is, few) in
      elim (each_steps p 0 w first at none (omega arith) (omega (arith, left))) [
        | inr set ↦ inr (subst Over (sym all) (set_on code input s keeper im fair opens calm (first ++ one) rest set))
        | inl have ↦
            elim (each_rounds n next (first ++ one) (leads_on first w (round p) at) (both HurtsNone first one none (none_hurt s code (round p) due w)) fewer) [
              | inr set ↦ inr (subst Over (sym all) set)
              | inl more ↦
                  inl (λ c le lt.
                  let a = have c le lt in
                  let b = more c le lt in
                  let sum = ap (turns_of c) whole ∙ of_both c one rest in
                  omega (arith, a, b, sum))
            ]
      ]
