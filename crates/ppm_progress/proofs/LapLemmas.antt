-- In each lap somebody makes a work turn; so there are no more laps than work turns while a run isn't over.
use Rattle.std.proofs.Common.{◌≡◌, ◌≢◌, ◌⊎◌, ◌≤◌, ◌<◌, ◌+◌, ◌*◌, if◌then◌else◌, ℕ, zero, suc, Bool, List, [], ◌∷◌, ◌++◌, length, inl, inr, refl, sym, ap, ◌∙◌, subst, arith}
use Rattle.std.specs.List.{AllByRecursion}
use Rattle.std.proofs.lemmas.Bool.{cases_eq, eq-eqb, true≢false}
use Rattle.std.proofs.lemmas.Bool.Decides.{eqb_tells}
use Rattle.std.proofs.lemmas.List.{append_assoc}
use Rattle.ppm_strands.specs.Calm.{Calm}
use Rattle.ppm_strands.specs.Run.{End, Ends}
use Rattle.ppm_words.specs.declared.named_array.NamedArray.{NamedArray}
use Rattle.ppm_cells.specs.declared.shape.Shape.{Shape}
use Rattle.ppm_code.specs.Strands.{Result}
use Rattle.ppm_code.specs.declared.code.CodeParts.{CodeParts}
use Rattle.ppm_layout.specs.Correct.{Opens}
use Rattle.ppm_layout.specs.Root.{root_strand}
use Rattle.ppm_layout.specs.declared.images.Image.{Image}
use Rattle.ppm_step.specs.Among.{IsTurnAmong}
use Rattle.ppm_step.specs.Laws.{reached, finish_at}
use Rattle.ppm_step.specs.State.{State as RunState, after, opening, is_done_at}
use Rattle.ppm_step.specs.declared.turn.Act.TheVariants.{Step}
use Rattle.ppm_step.specs.declared.turn.Turn.{Turn}
use Rattle.ppm_step.proofs.FinishLemmas.{finish_stays}
use Rattle.ppm_tickets.specs.Homes.{Unborn}
use Rattle.ppm_tickets.specs.View as spots
use Rattle.ppm_tickets.specs.Words.{Word, Number}
use Rattle.ppm_frames.specs.Views.{view}
use Rattle.ppm_frames.specs.Seen.{arrays_at}
use Rattle.ppm_kept.specs.Running.{IsFair, strands}
use Rattle.ppm_runs.specs.Work.{work_in, undone_in}
use Rattle.ppm_runs.proofs.HeirWork.{work_is_bounded}
use Rattle.ppm_runs.proofs.WholeLemmas.{in_two}
use Rattle.ppm_progress.specs.Soon.{turns_of, StepsOnly}
use Rattle.ppm_progress.specs.Works.{IsAtWork, Works, HurtsNone}
use Rattle.ppm_progress.proofs.AliveLemmas.{carries_own}
use Rattle.ppm_progress.proofs.ThiefLemmas.{works_within_13}
use Rattle.ppm_progress.proofs.UnhurtRuns.{all_unhurt, unhurt_first}
use Rattle.ppm_progress.proofs.WorkRuns.{somebody_works, workers_seek_not}
use Rattle.ppm_progress.specs.Laps.{TakesPart, IsLap, LapsAreThere, Portion, turns_in, AreLaps, LapsHaveWork, RunsEndFairly}
use Rattle.ppm_progress.proofs.ListLemmas.{both, front, back, has_some, of_both, work_both}

abbrev number_of : Word → ℕ
number_of (Number n) = n
number_of _ = 0

module _ (code : CodeParts) (input : List NamedArray) (s : Shape) (keeper : ℕ) (im : Image) (fair : IsFair code) (opens : Opens code input s keeper im)
    (calm : Calm (strands s code) (root_strand code input) (arrays_at (view s im.words))) where
  abbrev pub Among : List Turn → Type 0
  Among turns = AllByRecursion (IsTurnAmong s.processors) turns

  abbrev pub Unhurt : List Turn → Type 0
  Unhurt turns = AllByRecursion HurtsNone turns

  abbrev pub now : List Turn → RunState
  now turns = reached s code im.words turns

  -- the finish word was set by these turns
  abbrev pub IsSet : List Turn → Type 0
  IsSet turns = finish_at s (now turns) ≢ 0

  pub set_on : (first more : List Turn) → IsSet first → IsSet (first ++ more)
  set_on first more set unset = set (sym (finish_stays s code fair.code_is im.words first more set) ∙ unset)

  -- who works does so at its own place
  own_work : (first : List Turn) → Among first → Unhurt first → (c : ℕ) → Works s (now first) c
      → IsAtWork (spots.view s (now first).words) c (spots.kinds s (now first).words c)
  own_work first among none c works =
      let m = spots.view s (now first).words in
      let a = all_unhurt s code fair (root_strand code input) (arrays_at (view s im.words)) (opening im.words s.processors) (λ r. Unborn) [] [] _ first among none
      (unhurt_first code input s keeper im opens calm) in
      let law = a.1.advancing.run.halves.lawful.1 in
      let own = carries_own s.takeover m (spots.kinds s (now first).words) a.1.home law.holding law.rooted c in
      subst (λ (p : ℕ). IsAtWork m p (spots.kinds s (now first).words p)) (ap number_of (sym works.carried ∙ own)) works.at_work

  -- a lap
  pub lap_works : (first lap : List Turn) → Among first → Among lap → Unhurt first → Unhurt lap → IsLap s (now first) lap
      → (1 ≤ work_in s code (now first) lap) ⊎ IsSet (first ++ lap)
  lap_works first lap among all none no_hard is = elim (eqb_tells (finish_at s (now first)) 0) [
    | inr set ↦ inr (set_on first lap set.1)
    | inl unset ↦
        let a = somebody_works code input s keeper im fair opens calm first among none unset.1 in
        by a.0 a.1 (is a.0 a.1.there)
  ]
    where
      by : (c : ℕ) → Works s (now first) c → TakesPart (now first) lap c → (1 ≤ work_in s code (now first) lap) ⊎ IsSet (first ++ lap)
      by c works (inl done) = absurd (true≢false (sym (ap is_done_at done) ∙ works.not_done))
      by c works (inr (inl seeks)) = absurd (workers_seek_not code input s keeper im fair opens calm first among c works seeks)
      by c works (inr (inr steps)) =
          elim (works_within_13 code input s keeper im fair opens calm first lap among all none no_hard c works.there (own_work first among none c works)
          steps.1 steps.0) [
            | inl found ↦ inl (has_some _ c found)
            | inr set ↦ inr set
          ]

  -- all work turns from the opening on
  abbrev pub work : List Turn → ℕ
  work turns = work_in s code (opening im.words s.processors) turns

  -- of a lap after these turns
  pub lap_after : (first lap : List Turn) → Among first → Among lap → Unhurt first → Unhurt lap → IsLap s (now first) lap
      → (1 + work first ≤ work (first ++ lap)) ⊎ IsSet (first ++ lap)
  lap_after first lap among all none no_hard is = elim (lap_works first lap among all none no_hard is) [
    | inl some ↦ let sum = work_both s code (opening im.words s.processors) first lap in inl (omega (arith, some, sum))
    | inr set ↦ inr set
  ]

  pub work_grows : (first more : List Turn) → work first ≤ work (first ++ more)
  work_grows first more = let sum = work_both s code (opening im.words s.processors) first more in omega (arith, sum)

  -- laps, one after the other
  portions_work : (portions : List Portion) (first : List Turn) → Among first → Unhurt first → Among (turns_in portions) → Unhurt (turns_in portions)
      → AreLaps s code (now first) portions → (length portions + work first ≤ work (first ++ turns_in portions)) ⊎ IsSet (first ++ turns_in portions)
  portions_work [] first among none all no_hard are = let le = work_grows first [] in inl (omega (arith, le))
  portions_work (portion ∷ portions) first among none all no_hard are =
      let start = opening im.words s.processors in
      let before = portion.before in
      let lap = portion.lap in
      let rest = turns_in portions in
      let upto = first ++ before in
      let at = in_two s code start first before in
      let then_ = in_two s code start upto lap ∙ ap (λ (z : RunState). after s code z lap) at in
      let among_upto = both (IsTurnAmong s.processors) first before among (front (IsTurnAmong s.processors) before (lap ++ rest) all) in
      let none_upto = both HurtsNone first before none (front HurtsNone before (lap ++ rest) no_hard) in
      let all_lap = back (IsTurnAmong s.processors) before (lap ++ rest) all in
      let no_lap = back HurtsNone before (lap ++ rest) no_hard in
      let among_lap = front (IsTurnAmong s.processors) lap rest all_lap in
      let none_lap = front HurtsNone lap rest no_lap in
      let is = subst (λ (z : RunState). IsLap s z lap) (sym at) are.0 in
      let whole : (upto ++ lap) ++ rest ≡ first ++ (before ++ (lap ++ rest)) = append_assoc upto lap rest ∙ append_assoc first before (lap ++ rest) in
      elim (lap_after upto lap among_upto among_lap none_upto none_lap is) [
        | inr set ↦ inr (subst IsSet whole (set_on (upto ++ lap) rest set))
        | inl one ↦
            elim (portions_work portions (upto ++ lap) (both (IsTurnAmong s.processors) upto lap among_upto among_lap)
            (both HurtsNone upto lap none_upto none_lap) (back (IsTurnAmong s.processors) lap rest all_lap) (back HurtsNone lap rest no_lap)
            (subst (λ (z : RunState). AreLaps s code z portions) (sym then_) are.1)) [
              | inr set ↦ inr (subst IsSet whole set)
              | inl some ↦
                  let grown = work_grows first before in
                  let same = ap work whole in
                  inl (omega (arith, one, some, grown, same))
            ]
      ]

  pub ends_fairly : (portions : List Portion) → Among (turns_in portions) → Unhurt (turns_in portions)
      → AreLaps s code (opening im.words s.processors) portions
      → (end : End Result) → Ends (strands s code) (root_strand code input) (arrays_at (view s im.words)) end
      → 218 * end.counts.capsules + 171 * undone_in s code (opening im.words s.processors) (turns_in portions) + 6 < length portions → IsSet (turns_in portions)
  ends_fairly portions among none are end ends many = elim (portions_work portions [] tt tt among none are) [
    | inr set ↦ set
    | inl some ↦
        let most = work_is_bounded code input s keeper im fair opens calm (turns_in portions) among end ends in
        absurd (omega (arith, many, some, most))
  ]

pub laps_have_work : LapsHaveWork
laps_have_work code input s keeper im fair opens calm first lap among all none no_hard is =
    lap_works code input s keeper im fair opens calm first lap among all none no_hard is

pub runs_end_fairly : RunsEndFairly
runs_end_fairly code input s keeper im fair opens calm portions among none are end ends many =
    ends_fairly code input s keeper im fair opens calm portions among none are end ends many

-- thirteen steps of each of so many processors
abbrev steps_of : (c n : ℕ) → List Turn
steps_of c zero = []
steps_of c (suc n) = record { processor = c; act = Step 0 } ∷ steps_of c n

abbrev each_thirteen : ℕ → List Turn
each_thirteen zero = []
each_thirteen (suc c) = steps_of c 13 ++ each_thirteen c

steps_there : (processors c n : ℕ) → c < processors → AllByRecursion (IsTurnAmong processors) (steps_of c n)
steps_there processors c zero lt = tt
steps_there processors c (suc n) lt = (record { processor = lt; act = omega (arith, lt) }, steps_there processors c n lt)

steps_hurt : (c n : ℕ) → AllByRecursion HurtsNone (steps_of c n)
steps_hurt c zero = tt
steps_hurt c (suc n) = (tt, steps_hurt c n)

steps_only : (d c n : ℕ) → AllByRecursion (StepsOnly d) (steps_of c n)
steps_only d c zero = tt
steps_only d c (suc n) = (λ own. refl, steps_only d c n)

steps_count : (c n : ℕ) → n ≤ turns_of c (steps_of c n)
steps_count c zero = omega arith
steps_count c (suc n) =
    let rest = steps_count c n in
    let one : turns_of c (steps_of c (suc n)) ≡ 1 + turns_of c (steps_of c n) =
    ap (λ (y : Bool). (if y then 1 else 0) + turns_of c (steps_of c n)) (eq-eqb c c refl) in
    omega (arith, rest, one)

all_there : (processors n : ℕ) → n ≤ processors → AllByRecursion (IsTurnAmong processors) (each_thirteen n)
all_there processors zero le = tt
all_there processors (suc c) le =
    both (IsTurnAmong processors) (steps_of c 13) (each_thirteen c) (steps_there processors c 13 (omega (arith, le)))
    (all_there processors c (omega (arith, le)))

all_hurt : (n : ℕ) → AllByRecursion HurtsNone (each_thirteen n)
all_hurt zero = tt
all_hurt (suc c) = both HurtsNone (steps_of c 13) (each_thirteen c) (steps_hurt c 13) (all_hurt c)

all_steps : (d n : ℕ) → AllByRecursion (StepsOnly d) (each_thirteen n)
all_steps d zero = tt
all_steps d (suc c) = both (StepsOnly d) (steps_of c 13) (each_thirteen c) (steps_only d c 13) (all_steps d c)

all_count : (n d : ℕ) → d < n → 13 ≤ turns_of d (each_thirteen n)
all_count zero d lt = absurd (omega (arith, lt))
all_count (suc c) d lt =
    let sum = of_both d (steps_of c 13) (each_thirteen c) in
    elim (cases_eq d c) [
      | inl same ↦
          let own = subst (λ (q : ℕ). 13 ≤ turns_of d (steps_of q 13)) same (steps_count d 13) in
          omega (arith, own, sum)
      | inr ne ↦ let rest = all_count c d (omega (arith, lt, ne)) in omega (arith, rest, sum)
    ]

pub laps_are_there : LapsAreThere
laps_are_there s state = (
  each_thirteen s.processors,
  (λ c there. inr (inr (all_count s.processors c there, all_steps c s.processors))),
  all_there s.processors s.processors (omega arith),
  all_hurt s.processors,
)
