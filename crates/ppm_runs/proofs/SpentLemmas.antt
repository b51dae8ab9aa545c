-- A turn that finds a pool full, of a run's state.
use Rattle.std.proofs.Common.{◌≡◌, ◌≤◌, ◌<◌, ℕ, ◌+◌, Bool, List, [], ◌∷◌, ◌++◌, Some, refl, sym, ap, ◌∙◌, subst, arith}
use Rattle.std.specs.Prelude.{nat_le, if◌then◌else◌}
use Rattle.std.specs.List.{AllByRecursion}
use Rattle.std.proofs.lemmas.Bool.{le-ltb, lt-leb, lt-ltb}
use Rattle.ppm_strands.specs.Tree.{Words, Tree}
use Rattle.ppm_strands.specs.Run.{End, Ends}
use Rattle.ppm_cells.specs.Cells.{pool_at}
use Rattle.ppm_cells.specs.Memory.{read}
use Rattle.ppm_cells.specs.declared.cell.Cell.TheVariants.{FinishWord, RoomCounter}
use Rattle.ppm_cells.specs.declared.restart.RestartKind.{RestartKind}
use Rattle.ppm_cells.specs.declared.restart.RestartKind.TheVariants.{Run, Bump, Push1, Push2, Unwind, Arrive, Join, Pop1, Pop2, Seek, Steal, Check, Take, Take2}
use Rattle.ppm_cells.specs.declared.shape.Shape.{Shape}
use Rattle.ppm_strands.specs.Strand.{Frame}
use Rattle.ppm_code.specs.Capsules.{capsule_of}
use Rattle.ppm_code.specs.Code.{room_of}
use Rattle.ppm_code.specs.Sizes.{frame_size}
use Rattle.ppm_code.specs.Strands.{Point, Result}
use Rattle.ppm_code.specs.declared.code.CodeParts.{CodeParts}
use Rattle.ppm_code.specs.declared.instr.Instr.{Instr}
use Rattle.ppm_code.specs.declared.instr.Instr.TheVariants.{Room}
use Rattle.ppm_code.specs.declared.location.FrameWord.{FrameWord}
use Rattle.ppm_layout.specs.Root.{root_strand}
use Rattle.ppm_step.specs.Among.{IsTurnAmong}
use Rattle.ppm_step.specs.Frames.{Rest, Loads, Full, Breaks, asks, rest_of}
use Rattle.ppm_step.specs.Laws.{FindsFull, reached}
use Rattle.ppm_step.specs.State.{State as RunState, opening}
use Rattle.ppm_step.specs.declared.frame.Home.{Home}
use Rattle.ppm_step.specs.declared.turn.Turn.{Turn}
use Rattle.ppm_step.proofs.RoomLemmas.{room_has_cause}
use Rattle.ppm_tickets.specs.Along.{homes, forked as forked_in, taken as taken_in}
use Rattle.ppm_tickets.specs.Homes.{Home as BranchHome, Unborn}
use Rattle.ppm_tickets.specs.Saw.{Sees}
use Rattle.ppm_tickets.specs.View as spots
use Rattle.ppm_frames.specs.Views.{view}
use Rattle.ppm_frames.specs.Seen.{arrays_at}
use Rattle.ppm_frames.specs.Skeletons.{Skeleton}
use Rattle.ppm_frames.proofs.ViewLemmas.{view_is}
use Rattle.ppm_kept.specs.Running.{IsFair, strands}
use Rattle.ppm_kept.specs.Kept.{start, InRest, State, Going, ceiling}
use Rattle.ppm_kept.specs.Left.{Followed, left}
use Rattle.ppm_kept.specs.Places.{places_of}
use Rattle.ppm_kept.proofs.LeftLemmas.{shown}
use Rattle.ppm_kept.proofs.SpentLemmas.{full_pools_are_spent}
use Rattle.ppm_runs.specs.Run.{setting}
use Rattle.ppm_runs.specs.Follow.{IsHalves}
use Rattle.ppm_runs.specs.Spent.{RoomIsSpent}
use Rattle.ppm_runs.proofs.ShownLemmas.{carried_away, Runs, runs}
use Rattle.ppm_runs.proofs.OutcomeLemmas.{unset_is}
use Rattle.ppm_runs.proofs.HeiredLemmas.{halves_stay}

-- the first of the turns
pub front : (P : Turn → Type 0) (first more : List Turn) → AllByRecursion P (first ++ more) → AllByRecursion P first
front P [] more all = tt
front P (turn ∷ first) more all = (all.0, front P first more all.1)

full_by : (pool room counter words : ℕ) (rest : Rest) → pool ≤ counter → pool + room < counter + words → asks pool room counter words rest ≡ Full
full_by pool room counter words rest low passes =
    ap (λ (b : Bool). if b then Breaks else (if nat_le (counter + words) (pool + room) then rest else Full)) (le-ltb counter pool low)
    ∙ ap (λ (b : Bool). if b then rest else Full) (lt-leb (counter + words) (pool + room) passes)

-- what it does with the word that it loads
abbrev next_of : Rest → ℕ → Rest
next_of (Loads cell next) w = next w
next_of rest w = rest

record LoadsCounter (s : Shape) (place words : ℕ) (rest : Rest) : Type 0 where
  pub loads : rest ≡ Loads (RoomCounter place) (next_of rest)
  pub full : (counter : ℕ) → pool_at s place ≤ counter → pool_at s place + s.room < counter + words → next_of rest counter ≡ Full

loads_counter : (s : Shape) (code : CodeParts) (place : ℕ) (home : Home) (instrs : List Instr) (words : ℕ) → room_of instrs ≡ Some words
    → LoadsCounter s place words (rest_of s code place home (capsule_of s.arrays instrs))
loads_counter s code place home [] words e = absurd (cc)
loads_counter s code place home (Room x ∷ instrs) words e = record {
  loads = refl;
  full = λ counter low passes. full_by (pool_at s place) s.room counter x _ low (let same : x ≡ words = cc in omega (arith, passes, same));
}
loads_counter s code place home (i ∷ instrs) words e = absurd (cc)

module _ (s : Shape) (code : CodeParts) (fair : IsFair code) (root : Tree (Frame FrameWord Point) Result) (input : Words) (state : RunState) (h : ℕ → BranchHome) (fk tk : List ℕ) (l : List Followed) (t : Skeleton) (run : IsHalves s code root input state h fk tk l t)
    (place : ℕ) (turn : Turn) (finds : FindsFull s code place state turn) (end : End Result) (ends : Ends (strands s code) root input end) where
  abbrev z : State
  z = left (setting s code) l (places_of s state)

  abbrev rest : Rest
  rest = rest_of s code place finds.home (capsule_of s.arrays finds.capsule.instrs)

  here : Runs s code root input state h fk tk l t run turn.processor finds.seat rest
  here = runs s code root input state h fk tk l t run turn.processor finds.seat rest finds.begins

  -- the counter of its place, which none has followed
  counter_is : z.words (RoomCounter finds.seat.place) ≡ view s state.words (RoomCounter finds.seat.place)
  counter_is =
      let sees = subst (Sees s (spots.view s state.words) (spots.kinds s state.words) (spots.bottoms s state.words) turn.processor) finds.begins (run.lawful.1.sees turn.processor) in
      let away = carried_away s code root input state h fk tk l t run turn.processor finds.seat.place sees.0.carried in
      shown (setting s code) root input (places_of s state) l run.apart t run.kept finds.seat.place away (RoomCounter finds.seat.place) refl

  counts : LoadsCounter s place finds.words rest
  counts = loads_counter s code place finds.home finds.capsule.instrs finds.words finds.asks

  there : place < s.processors
  there = subst (λ (p : ℕ). p < s.processors) finds.at_place here.place

  doing_is : z.doing place ≡ InRest (Loads (RoomCounter place) (next_of rest))
  doing_is = subst (λ (p : ℕ). z.doing p ≡ InRest rest) finds.at_place here.doing ∙ ap InRest counts.loads

  of_run : (f y : ℕ) → z.kind place ≡ Run f y → s.room < frame_size code code.root + end.counts.block_words
  of_run f y ke =
      let seen : read s state.words (RoomCounter place) ≡ z.words (RoomCounter place) = sym (subst (λ (p : ℕ). z.words (RoomCounter p) ≡ view s state.words (RoomCounter p)) finds.at_place counter_is ∙ view_is s state.words (RoomCounter place) (lt-ltb place s.processors there)) in
      let low : pool_at s place ≤ z.words (RoomCounter place) = subst (λ (k : RestartKind). start (setting s code) place ≤ ceiling (setting s code) z.words place k) ke (run.kept.rooms place).0 in
      let passes : pool_at s place + s.room < z.words (RoomCounter place) + finds.words = subst (λ (c : ℕ). pool_at s place + s.room < c + finds.words) seen finds.passes in
      full_pools_are_spent (setting s code) fair root input z t run.kept place f y ke (next_of rest) doing_is (counts.full (z.words (RoomCounter place)) low passes) end ends

  going : Going (setting s code) z.words place (z.kind place) rest
  going = subst (λ (p : ℕ). Going (setting s code) z.words p (z.kind p) rest) finds.at_place here.does

  by_kind : (k : RestartKind) → z.kind place ≡ k → Going (setting s code) z.words place k rest → s.room < frame_size code code.root + end.counts.block_words
  by_kind (Run f y) ke go = of_run f y ke
  by_kind (Bump r) ke go = absurd go
  by_kind (Push1 r) ke go = absurd go
  by_kind (Push2 r) ke go = absurd go
  by_kind (Unwind f) ke go = absurd go
  by_kind (Arrive r d) ke go = absurd go
  by_kind (Join r d) ke go = absurd go
  by_kind Pop1 ke go = absurd go
  by_kind (Pop2 r) ke go = absurd go
  by_kind Seek ke go = absurd go
  by_kind (Steal v x) ke go = absurd go
  by_kind (Check v x) ke go = absurd go
  by_kind (Take v x) ke go = absurd go
  by_kind (Take2 v) ke go = absurd go

  pub spent_at : s.room < frame_size code code.root + end.counts.block_words
  spent_at = by_kind (z.kind place) refl going

pub room_is_spent : RoomIsSpent
room_is_spent code input s keeper im fair opens calm turns all place says end ends =
    let cause = room_has_cause s code opens.code_is im.words turns place (opens.image_is.opened FinishWord tt ∙ unset_is) says in
    let among = front (IsTurnAmong s.processors) cause.first (cause.turn ∷ cause.more) (subst (AllByRecursion (IsTurnAmong s.processors)) cause.turns_are all) in
    let run = halves_stay code input s keeper im fair opens calm cause.first among in
    spent_at s code fair (root_strand code input) (arrays_at (view s im.words)) (reached s code im.words cause.first)
    (homes s code (opening im.words s.processors) (λ r. Unborn) cause.first) (forked_in s code (opening im.words s.processors) [] cause.first) (taken_in s code (opening im.words s.processors) [] cause.first)
    run.0 run.1 run.2 place cause.turn cause.finds end ends
