-- Without hard faults: at each moment of a run that isn't over somebody works.
use Rattle.std.proofs.Common.{◌≡◌, ◌<◌, ℕ, if◌then◌else◌, Option, Some, None, Bool, true, false, List, [], inl, inr, sym, ap, ◌∙◌, subst}
use Rattle.std.specs.List.{AllByRecursion}
use Rattle.std.proofs.lemmas.Bool.{true≢false}
use Rattle.ppm_cells.specs.Memory.{read}
use Rattle.ppm_cells.specs.declared.cell.Cell.TheVariants.{FinishWord}
use Rattle.ppm_cells.specs.declared.restart.Restart.{Restart}
use Rattle.ppm_cells.specs.declared.restart.RestartKind.{RestartKind}
use Rattle.ppm_cells.specs.declared.restart.RestartKind.TheVariants.{Seek}
use Rattle.ppm_cells.specs.declared.shape.Shape.{Shape}
use Rattle.ppm_cells.specs.declared.shape.Takeover.{Takeover}
use Rattle.ppm_cells.specs.declared.shape.Takeover.TheVariants.{ByPlaces, ByEntries}
use Rattle.ppm_code.specs.declared.code.CodeParts.{CodeParts}
use Rattle.ppm_layout.specs.Correct.{Opens}
use Rattle.ppm_layout.specs.Root.{root_strand}
use Rattle.ppm_layout.specs.declared.images.Image.{Image}
use Rattle.ppm_strands.specs.Calm.{Calm}
use Rattle.ppm_strands.specs.Tree.{Words, Tree}
use Rattle.ppm_words.specs.declared.named_array.NamedArray.{NamedArray}
use Rattle.ppm_strands.specs.Strand.{Frame}
use Rattle.ppm_code.specs.Strands.{Point, Result}
use Rattle.ppm_code.specs.declared.location.FrameWord.{FrameWord}
use Rattle.ppm_frames.specs.Skeletons.{Skeleton}
use Rattle.ppm_step.specs.Among.{IsTurnAmong}
use Rattle.ppm_step.specs.Laws.{reached}
use Rattle.ppm_step.specs.Standings.{Standing, IsLost, IsPlaced, IsAt, IsWithin, IsRunning, IsBroken, IsDone}
use Rattle.ppm_step.specs.State.{stand_of, opening, is_work, is_done_at, next_of, before_row}
use Rattle.ppm_step.specs.State.{before_kind, step_of}
use Rattle.ppm_step.specs.declared.turn.Next.TheVariants.{Work, Look, Seek as Seeks, Done}
use Rattle.ppm_step.specs.declared.turn.Turn.{Turn}
use Rattle.ppm_tickets.specs.Along.{homes, forked as forked_in, taken as taken_in}
use Rattle.ppm_tickets.specs.Homes.{Home, Unborn}
use Rattle.ppm_tickets.specs.Lawful.{IsAlive, Steals, Closed}
use Rattle.ppm_tickets.specs.View as spots
use Rattle.ppm_tickets.specs.Words.{Word, Number, Spot}
use Rattle.ppm_frames.specs.Views.{view}
use Rattle.ppm_frames.specs.Seen.{arrays_at}
use Rattle.ppm_kept.specs.Running.{IsFair, strands}
use Rattle.ppm_runs.proofs.SeekLemmas.{seekers_are_idle}
use Rattle.ppm_runs.proofs.StandLemmas.{kinds_same}
use Rattle.ppm_progress.specs.Works.{IsAtWork, SomePlaceIsAtWork, Works, HurtsNone, SomebodyWorks, AllIdleIsOver}
use Rattle.ppm_progress.proofs.UnhurtRuns.{IsUnhurt, all_unhurt, live_or, unhurt_first}
use Rattle.ppm_progress.proofs.IdleRuns.{idle_are_empty_in_runs}
use Rattle.ppm_progress.proofs.ReadyLemmas.{advancing_first, ready_at}
use Rattle.ppm_progress.proofs.WorkLemmas.{somewhere, works_at}

-- where nobody is dead no place is closed
open_of : (how : Takeover) (m : Spot → Word) → ((c : ℕ) → IsAlive m c) → (v : ℕ) → Closed how m v → ⊥
open_of ByPlaces m alive v shut = shut
open_of ByEntries m alive v shut = alive v shut

-- from a state in which nobody has died
module _ (s : Shape) (code : CodeParts) (fair : IsFair code) (root : Tree (Frame FrameWord Point) Result) (input : Words) (ws : List ℕ)
    (h : ℕ → Home) (f tk : List ℕ) (t : Skeleton) (begins : IsUnhurt s code root input (opening ws s.processors) h f tk t)
    (turns : List Turn) (among : AllByRecursion (IsTurnAmong s.processors) turns) (none : AllByRecursion HurtsNone turns)
    (unset : read s (reached s code ws turns).words FinishWord ≡ 0) where
  live : (c : ℕ) → c < s.processors → is_done_at (stand_of (reached s code ws turns) c) ≡ false
  live c there = elim (live_or s code fair ws begins.advancing.run.halves.lawful.0 turns none c there) [ inl going ↦ going | inr set ↦ absurd (set unset) ]

  pub works_from : (c : ℕ) × Works s (reached s code ws turns) c
  works_from =
      let first = opening ws s.processors in
      let now = reached s code ws turns in
      let a = all_unhurt s code fair root input first h f tk t turns among none begins in
      let p = somewhere s code root input now (homes s code first h turns) (forked_in s code first f turns) (taken_in s code first tk turns) a.0
      a.1.advancing a.1.empty (open_of s.takeover (spots.view s now.words) a.1.home.alive) in
      let law = a.1.advancing.run.halves.lawful in (
        p.0,
        works_at s code now (homes s code first h turns) (forked_in s code first f turns) (taken_in s code first tk turns) law a.1.home p.0 p.1
            (live p.0 p.1) p.2,
      )

pub somebody_works : SomebodyWorks
somebody_works code input s keeper im fair opens calm turns among none unset =
    works_from s code fair (root_strand code input) (arrays_at (view s im.words)) im.words (λ r. Unborn) [] [] _
    (unhurt_first code input s keeper im opens calm) turns among none unset

-- by places no place is ever closed
pub places_open : (how : Takeover) (m : Spot → Word) → how ≡ ByPlaces → (v : ℕ) → Closed how m v → ⊥
places_open ByPlaces m places v shut = shut
places_open ByEntries m places v shut = cc

pub some_place_is_at_work : SomePlaceIsAtWork
some_place_is_at_work code input s keeper im places fair opens calm turns among =
    let now = reached s code im.words turns in
    let first = opening im.words s.processors in
    let a = ready_at s code places fair (root_strand code input) (arrays_at (view s im.words)) first (λ r. Unborn) [] [] _ turns among
    (advancing_first code input s keeper im opens calm) in
    let empty = (idle_are_empty_in_runs code input s keeper im fair opens calm turns among).0 in
    somewhere s code (root_strand code input) (arrays_at (view s im.words)) now (homes s code first (λ r. Unborn) turns) (forked_in s code first [] turns)
    (taken_in s code first [] turns) a.0 a.1 empty (places_open s.takeover (spots.view s now.words) places)

-- who seeks work next carries a place that is not at work
abbrev number_of : Word → ℕ
number_of (Number n) = n
number_of _ = 0

seeking_works : (m : Spot → Word) (p : ℕ) (k : RestartKind) → IsAtWork m p k → k ≡ Seek → ⊥
seeking_works m p k (inl works) seeks = true≢false (sym works ∙ ap is_work seeks)
seeking_works m p k (inr steals) seeks = subst (λ (x : RestartKind). Steals m p x steals.0) seeks steals.1

-- and who takes steps is not done
before_not_done : (re : Option Restart) → before_row re ≡ Done → ⊥
before_not_done None e = cc
before_not_done (Some re) e = kind_not_done re.kind e
  where
    kind_not_done : (k : RestartKind) → before_kind k ≡ Done → ⊥
    kind_not_done Seek e = cc
    kind_not_done _ e = cc

step_not_done : (k : RestartKind) → step_of k ≡ Done → ⊥
step_not_done k e = by (is_work k) e
  where
    by : (y : Bool) → (if y then Work else Look) ≡ Done → ⊥
    by true e = cc
    by false e = cc

not_done : (x : Standing) → is_done_at x ≡ false → next_of x ≡ Done → ⊥
not_done IsDone live done = true≢false live
not_done IsLost live done = absurd (let e : Look ≡ Done = done in cc)
not_done (IsPlaced p) live done = absurd (let e : Look ≡ Done = done in cc)
not_done (IsAt p re) live done = before_not_done re done
not_done (IsWithin seat row) live done = step_not_done seat.restart.kind done
not_done (IsRunning seat rest) live done = absurd (let e : Work ≡ Done = done in cc)
not_done (IsBroken p) live done = absurd (let e : Look ≡ Done = done in cc)

-- who works does not seek
pub workers_seek_not : (code : CodeParts) (input : List NamedArray) (s : Shape) (keeper : ℕ) (im : Image) → IsFair code → Opens code input s keeper im
    → Calm (strands s code) (root_strand code input) (arrays_at (view s im.words))
    → (turns : List Turn) → AllByRecursion (IsTurnAmong s.processors) turns
    → (c : ℕ) → Works s (reached s code im.words turns) c → next_of (stand_of (reached s code im.words turns) c) ≡ Seeks → ⊥
workers_seek_not code input s keeper im fair opens calm turns among c works seeks =
    let now = (reached s code im.words turns).words in
    let is = seekers_are_idle code input s keeper im fair opens calm turns among c seeks in
    let place : works.place ≡ is.place = ap number_of (sym works.carried ∙ is.carried) in
    let kind : spots.kinds s now works.place ≡ Seek = ap (spots.kinds s now) place ∙ sym (kinds_same s now is.place) ∙ is.seeks in
    seeking_works (spots.view s now) works.place _ works.at_work kind

pub all_idle_is_over : AllIdleIsOver
all_idle_is_over code input s keeper im fair opens calm turns among none idle unset =
    let a = somebody_works code input s keeper im fair opens calm turns among none unset in
    elim (idle a.0 a.1.there) [
      | inr done ↦ not_done (stand_of (reached s code im.words turns) a.0) a.1.not_done done
      | inl seeks ↦ workers_seek_not code input s keeper im fair opens calm turns among a.0 a.1 seeks
    ]
