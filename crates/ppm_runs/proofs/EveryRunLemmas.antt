-- A run's state owes nothing for the next turn, and that leads to such a state; so the turns of each run are orderly.
use Rattle.std.proofs.Common.{◌≡◌, ℕ, List, [], ◌∷◌, ◌++◌, inl, inr, sym, ap, ◌∙◌}
use Rattle.std.specs.List.{AllByRecursion}
use Rattle.ppm_strands.specs.Tree.{Words, Tree}
use Rattle.ppm_strands.specs.Calm.{Calm}
use Rattle.ppm_words.specs.declared.named_array.NamedArray.{NamedArray}
use Rattle.ppm_cells.specs.Cells.{pool_at}
use Rattle.ppm_cells.specs.declared.cell.Cell.TheVariants.{CarryWord}
use Rattle.ppm_cells.specs.declared.shape.Shape.{Shape}
use Rattle.ppm_cells.specs.declared.shape.Takeover.TheVariants.{ByPlaces, ByEntries}
use Rattle.ppm_strands.specs.Strand.{Frame}
use Rattle.ppm_code.specs.Sizes.{slots_of}
use Rattle.ppm_code.specs.Strands.{Point, Result}
use Rattle.ppm_code.specs.declared.code.CodeParts.{CodeParts}
use Rattle.ppm_code.specs.declared.location.FrameWord.{FrameWord}
use Rattle.ppm_layout.specs.Correct.{Opens}
use Rattle.ppm_layout.specs.Root.{root_strand}
use Rattle.ppm_layout.specs.declared.images.Image.{Image}
use Rattle.ppm_step.specs.Among.{IsTurnAmong}
use Rattle.ppm_step.specs.Frames.{Loads, Stores, Full, Installs, Breaks}
use Rattle.ppm_step.specs.Standings.{Standing, IsLost, IsPlaced, IsAt, IsWithin, IsRunning, IsBroken, IsDone}
use Rattle.ppm_step.specs.State.{State as RunState, stand_of, happens, after, opening, along, forks_of, takes_of}
use Rattle.ppm_step.specs.declared.row.Row.TheVariants.{Now, Store, Exchange}
use Rattle.ppm_step.specs.declared.turn.Act.{Act}
use Rattle.ppm_step.specs.declared.turn.Act.TheVariants.{Step, Soft, Hard, Quit}
use Rattle.ppm_step.specs.declared.turn.Turn.{Turn}
use Rattle.ppm_tickets.specs.Along.{by_act, homes, forked as forked_in, taken as taken_in, IsOrderlyAt, IsOrderly, AreOrderly}
use Rattle.ppm_tickets.specs.Entries.{IsPooledAt, IsPooledBy, ArePooled}
use Rattle.ppm_tickets.specs.Homes.{Home, Unborn}
use Rattle.ppm_tickets.specs.Words.{has}
use Rattle.ppm_tickets.proofs.ImageLemmas.{images_open}
use Rattle.ppm_tickets.proofs.PlaceLemmas.{places_stay_home}
use Rattle.ppm_tickets.proofs.ListLemmas.{forked_onto, has_same, orderly_as}
use Rattle.ppm_tickets.proofs.Theorem.{in_every_run, in_every_run_by_entries}
use Rattle.ppm_frames.specs.Views.{view}
use Rattle.ppm_frames.specs.Seen.{arrays_at}
use Rattle.ppm_frames.specs.Skeletons.{Begins, InPlace, Skeleton, Leaf}
use Rattle.ppm_kept.specs.Running.{IsFair, strands}
use Rattle.ppm_kept.specs.Left.{Followed}
use Rattle.ppm_kept.specs.Steps.{tree_after}
use Rattle.ppm_runs.specs.Run.{setting, IsRun}
use Rattle.ppm_runs.specs.Entries.{IsHeired}
use Rattle.ppm_runs.specs.EveryRun.{RunsAreOrderly, LegsAreOrderly, TicketsByPlaces, TicketsByEntries}
use Rattle.ppm_runs.specs.Legs.{state_then, homes_then, forked_then, taken_then}
use Rattle.ppm_runs.proofs.OpenLemmas.{runs_open}
use Rattle.ppm_runs.proofs.LegLemmas.{legs_stay}
use Rattle.ppm_runs.proofs.OrderlyLemmas.{turns_are_orderly, halves_owe, how_or}
use Rattle.ppm_runs.proofs.MomentLemmas.{turns_lead_on, runs_stay}
use Rattle.ppm_runs.proofs.HeiredLemmas.{inlined, heirs_lead_on, heired_first, runs_stay_heired}

module _ (s : Shape) (code : CodeParts) (fair : IsFair code) (root : Tree (Frame FrameWord Point) Result) (input : Words) where
  -- by entries a run's state has nothing local above the bottom where one strand is left to run both branches
  next_by_entries : s.takeover ≡ ByEntries → (state : RunState) (h : ℕ → Home) (f tk : List ℕ) (l : List Followed) (t : Skeleton) → IsHeired s code root input state h f tk l t
      → (turn : Turn) → IsTurnAmong s.processors turn → IsOrderly s state.words turn.act (stand_of state turn.processor) h f
  next_by_entries ih state h f tk l t run =
      (halves_owe s code fair root input state h f tk l t run.halves run.joint.agrees (λ c seat re e. inlined s code ih fair root input state h f tk l t run c seat re e)).orderly

  all_by_places : s.takeover ≡ ByPlaces → (state : RunState) (h : ℕ → Home) (f tk : List ℕ) (t : Skeleton) (turns : List Turn) → AllByRecursion (IsTurnAmong s.processors) turns
      → IsRun s code root input state h f tk t → AreOrderly s code state h f turns
  all_by_places places state h f tk t [] all run = tt
  all_by_places places state h f tk t (turn ∷ more) all run = (
    (turns_are_orderly s code places fair root input state h f tk t run).orderly turn all.0,
    all_by_places places (happens s code state turn) (by_act s state.words turn.act (stand_of state turn.processor) h) (forks_of state turn ++ f) (takes_of state turn ++ tk) (tree_after (setting s code) state turn t) more all.1
        (turns_lead_on s code places fair root input state h f tk t run turn all.0),
  )

  all_by_entries : s.takeover ≡ ByEntries → (state : RunState) (h : ℕ → Home) (f tk : List ℕ) (l : List Followed) (t : Skeleton) (turns : List Turn) → AllByRecursion (IsTurnAmong s.processors) turns
      → IsHeired s code root input state h f tk l t → AreOrderly s code state h f turns
  all_by_entries ih state h f tk l t [] all run = tt
  all_by_entries ih state h f tk l t (turn ∷ more) all run =
      let next = heirs_lead_on s code ih fair root input state h f tk l t run turn all.0 in (
        next_by_entries ih state h f tk l t run turn all.0,
        all_by_entries ih (happens s code state turn) (by_act s state.words turn.act (stand_of state turn.processor) h) (forks_of state turn ++ f) (takes_of state turn ++ tk) next.0 next.1 more all.1 next.2,
      )

pub runs_are_orderly : RunsAreOrderly
runs_are_orderly code input s keeper im fair opens calm turns all = elim (how_or s.takeover) [
  | inl places ↦ all_by_places s code fair (root_strand code input) (arrays_at (view s im.words)) places (opening im.words s.processors) (λ r. Unborn) [] []
      (Leaf (InPlace keeper) (Begins 0) (pool_at s keeper) (slots_of code code.root)) turns all (runs_open code input s keeper im opens calm)
  | inr ih ↦ all_by_entries s code fair (root_strand code input) (arrays_at (view s im.words)) ih (opening im.words s.processors) (λ r. Unborn) [] [] []
      (Leaf (InPlace keeper) (Begins 0) (pool_at s keeper) (slots_of code code.root)) turns all (heired_first code input s keeper im opens calm)
]

pub legs_are_orderly : LegsAreOrderly
legs_are_orderly code input s keeper im places fair opens calm legs are turns all =
    let run = legs_stay code input s keeper im places fair opens calm legs are [] tt in
    all_by_places s code fair (root_strand code input) (arrays_at (view s im.words)) places (state_then s code im.words legs) (homes_then s code im.words legs) (forked_then s code im.words legs) (taken_then s code im.words legs) run.0 turns all run.1

-- an orderly turn changes block words of pools alone
pooled_at : (s : Shape) (words : List ℕ) (x : Standing) (h : ℕ → Home) (f : List ℕ) → IsOrderlyAt s words x h f → IsPooledAt s x
pooled_at s words (IsWithin seat (Store cell content next)) h f k = k
pooled_at s words (IsWithin seat (Exchange cell old new next)) h f k = k
pooled_at s words (IsWithin seat (Now next)) h f k = tt
pooled_at s words (IsRunning seat (Stores cell content rest)) h f k = k
pooled_at s words (IsRunning seat (Loads cell go)) h f k = tt
pooled_at s words (IsRunning seat Full) h f k = tt
pooled_at s words (IsRunning seat (Installs kind)) h f k = tt
pooled_at s words (IsRunning seat Breaks) h f k = tt
pooled_at s words IsLost h f k = tt
pooled_at s words (IsPlaced p) h f k = tt
pooled_at s words (IsAt p restart) h f k = tt
pooled_at s words (IsBroken p) h f k = tt
pooled_at s words IsDone h f k = tt

pooled_by : (s : Shape) (words : List ℕ) (act : Act) (x : Standing) (h : ℕ → Home) (f : List ℕ) → IsOrderly s words act x h f → IsPooledBy s act x
pooled_by s words (Step victim) x h f k = pooled_at s words x h f k.1
pooled_by s words Soft x h f k = tt
pooled_by s words Hard x h f k = tt
pooled_by s words (Quit why) x h f k = tt

all_pooled : (s : Shape) (code : CodeParts) (state : RunState) (h : ℕ → Home) (f : List ℕ) (turns : List Turn) → AreOrderly s code state h f turns → ArePooled s code state turns
all_pooled s code state h f [] k = tt
all_pooled s code state h f (turn ∷ more) k = (
  pooled_by s state.words turn.act (stand_of state turn.processor) h f k.0,
  all_pooled s code (happens s code state turn) (by_act s state.words turn.act (stand_of state turn.processor) h) (forks_of state turn ++ f) more k.1,
)

module _ (code : CodeParts) (input : List NamedArray) (s : Shape) (keeper : ℕ) (im : Image) (fair : IsFair code) (opens : Opens code input s keeper im)
    (calm : Calm (strands s code) (root_strand code input) (arrays_at (view s im.words))) (turns : List Turn) (all : AllByRecursion (IsTurnAmong s.processors) turns) where
  abbrev first : RunState
  first = opening im.words s.processors

  abbrev last : RunState
  last = after s code first turns

  abbrev at_last : ℕ → Home
  at_last = homes s code first (λ r. Unborn) turns

  -- what was forked, told in the order of the run
  abbrev told : List ℕ
  told = along s code forks_of first turns

  told_same : (r : ℕ) → has told r ≡ has (forked_in s code first [] turns) r
  told_same r = sym (ap (λ (l : List ℕ). has l r) (forked_onto s code turns first []) ∙ has_same told r)

  as_told : (turn : Turn) → IsOrderly s last.words turn.act (stand_of last turn.processor) at_last (forked_in s code first [] turns) → IsOrderly s last.words turn.act (stand_of last turn.processor) at_last told
  as_told turn owed = orderly_as s last.words at_last told (forked_in s code first [] turns) told_same turn.act (stand_of last turn.processor) owed

  next_is_orderly : (turn : Turn) → IsTurnAmong s.processors turn → IsOrderly s last.words turn.act (stand_of last turn.processor) at_last told
  next_is_orderly turn among = as_told turn (elim (how_or s.takeover) [
    | inl places ↦
        let run = runs_stay code input s keeper im places fair opens calm turns all in
        (turns_are_orderly s code places fair (root_strand code input) (arrays_at (view s im.words)) last at_last (forked_in s code first [] turns) (taken_in s code first [] turns) run.0 run.1).orderly turn among
    | inr ih ↦
        let run = runs_stay_heired code input s keeper im ih fair opens calm turns all in
        next_by_entries s code fair (root_strand code input) (arrays_at (view s im.words)) ih last at_last (forked_in s code first [] turns) (taken_in s code first [] turns) run.0 run.1 run.2 turn among
  ])

pub tickets_by_places : TicketsByPlaces
tickets_by_places code input s keeper im places fair opens calm turns all =
    let ticket = images_open code input s keeper im opens.image_is in
    let once = in_every_run s code keeper (pool_at s keeper) im.words turns places ticket.1 ticket.0 (runs_are_orderly code input s keeper im fair opens calm turns all) in
    (once, λ turn among v i. once.changes turn (next_is_orderly code input s keeper im fair opens calm turns all turn among) v i)

pub tickets_by_entries : TicketsByEntries
tickets_by_entries code input s keeper im ih fair opens calm turns all =
    let ticket = images_open code input s keeper im opens.image_is in
    let first : RunState = opening im.words s.processors in
    let last : RunState = after s code first turns in
    let orderly = runs_are_orderly code input s keeper im fair opens calm turns all in
    let once = in_every_run_by_entries s code keeper (pool_at s keeper) im.words turns ih ticket.1 ticket.0 orderly in
    let home = places_stay_home s code im.words turns ih ticket.0.fit (λ c lt. ticket.0.opened (CarryWord c) lt) (all_pooled s code first (λ r. Unborn) [] turns orderly) in
    let pooled = λ (turn : Turn) (among : IsTurnAmong s.processors turn).
    pooled_by s last.words turn.act (stand_of last turn.processor) (homes s code first (λ r. Unborn) turns) (along s code forks_of first turns)
    (next_is_orderly code input s keeper im fair opens calm turns all turn among) in (
      once,
      λ turn among v i. once.changes turn (next_is_orderly code input s keeper im fair opens calm turns all turn among) v i,
      record {
        carries = home.carries;
        holders = home.holders;
        others = λ turn among. home.others turn (pooled turn among);
        done = λ turn among. home.closed turn (pooled turn among);
      },
    )
