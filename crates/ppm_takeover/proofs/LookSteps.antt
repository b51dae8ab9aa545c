-- A processor that takes steps loads a holder word as it seeks work within sixteen of its own steps; or it makes a work turn, or moves to a place that
-- it has taken over, or the finish word is set.
use Rattle.std.proofs.Common.{◌≡◌, ◌≢◌, ◌⊎◌, ◌≤◌, ◌<◌, ◌+◌, if◌then◌else◌, ℕ, zero, suc, Bool, true, false, List, [], ◌∷◌, ◌++◌, Option, Some, None}
use Rattle.std.proofs.Common.{inl, inr, refl, sym, ap, ◌∙◌, subst, arith}
use Rattle.std.specs.List.{AllByRecursion}
use Rattle.std.specs.Prelude.{nat_lt, slice_get, slice_set}
use Rattle.std.proofs.lemmas.Bool.{cases_eq, eq-eqb, ne_eqb, true≢false}
use Rattle.ppm_strands.specs.Tree.{Words, Tree}
use Rattle.ppm_cells.proofs.CellLemmas.{few_words}
use Rattle.ppm_cells.specs.Memory.{read, write as store}
use Rattle.ppm_cells.specs.Restart.{restart_word}
use Rattle.ppm_cells.specs.declared.cell.Cell.TheVariants.{FinishWord, CarryWord, RestartWord}
use Rattle.ppm_cells.specs.declared.restart.Restart.{Restart}
use Rattle.ppm_cells.specs.declared.restart.RestartKind.{RestartKind}
use Rattle.ppm_cells.specs.declared.restart.RestartKind.TheVariants.{Run, Bump, Push1, Push2, Unwind, Arrive, Join, Pop1, Pop2, Seek, Steal, Check, Take, Take2}
use Rattle.ppm_cells.specs.declared.shape.Shape.{Shape}
use Rattle.ppm_cells.specs.declared.shape.Takeover.TheVariants.{ByPlaces}
use Rattle.ppm_strands.specs.Strand.{Frame}
use Rattle.ppm_code.specs.Strands.{Point, Result}
use Rattle.ppm_code.specs.declared.code.CodeParts.{CodeParts}
use Rattle.ppm_code.specs.declared.location.FrameWord.{FrameWord}
use Rattle.ppm_step.specs.Among.{IsTurnAmong}
use Rattle.ppm_step.specs.Laws.{reached, finish_at}
use Rattle.ppm_step.specs.Rows.{row_of}
use Rattle.ppm_step.specs.Standings.{Standing, IsLost, IsPlaced, IsAt, IsWithin, IsRunning, IsBroken, IsDone, row_is_there, then_is_there}
use Rattle.ppm_step.specs.Standings.{within_if, stands_then, stands, begins_if, placed, at_finish, begun}
use Rattle.ppm_step.specs.State.{State as RunState, stand_in, stand_of, acts, happens, is_done_at, is_work, seeks_holder}
use Rattle.ppm_step.specs.There.{restart_is_there}
use Rattle.ppm_step.proofs.ThereLemmas.{restart_fits}
use Rattle.ppm_step.specs.declared.row.Row.{Row}
use Rattle.ppm_step.specs.declared.row.Row.TheVariants.{Now, Store, Exchange}
use Rattle.ppm_step.specs.declared.row.Seat.{Seat}
use Rattle.ppm_step.specs.declared.row.Then.{Then}
use Rattle.ppm_step.specs.declared.row.Then.TheVariants.{Load, Install, Fork, Begin, Move, Enter, Again, Broken}
use Rattle.ppm_step.specs.declared.row.Point.TheVariants.{SeekHolder}
use Rattle.ppm_step.specs.declared.turn.Act.TheVariants.{Step}
use Rattle.ppm_step.specs.declared.turn.Turn.{Turn}
use Rattle.ppm_tickets.specs.Saw.{IsStrand, Sees}
use Rattle.ppm_tickets.specs.View as spots
use Rattle.ppm_kept.specs.Running.{IsFair}
use Rattle.ppm_paces.specs.Costs.{IsLook}
use Rattle.ppm_tickets.proofs.StepLemmas.{stand_own}
use Rattle.ppm_tickets.proofs.ViewLemmas.{restart_here}
use Rattle.ppm_runs.proofs.JoinLemmas.{stand_else}
use Rattle.ppm_progress.specs.Soon.{turns_of, StepsOnly}
use Rattle.ppm_progress.proofs.HeightLemmas.{KindIf}
use Rattle.ppm_progress.proofs.ListLemmas.{of_both}
use Rattle.ppm_progress.proofs.MomentLemmas.{IsMoment, AreMoments, first_moment, IsOn, sees_at, wrote_at, own_place, others_keep_kind, other_here}
use Rattle.ppm_progress.proofs.MomentLemmas.{own_here}
use Rattle.ppm_progress.proofs.RestartLemmas.{restart_goes_on}
use Rattle.ppm_progress.proofs.SoonLemmas.{rank, rank_few, step_is, Outcome, next_is, set_stays, later, breaks, soon}
use Rattle.ppm_progress.proofs.WriteLemmas.{Gives, MovesTo}
use Rattle.ppm_takeover.specs.Looks.{IsMoving, IsLooking, StepsFrom}
use Rattle.ppm_takeover.specs.Short.{look_cost, LookEnds, LooksAtMost}
use Rattle.ppm_takeover.proofs.LookRows.{look_row, looks_are_short}

-- the steps that come after the row of a kind that looks, at most, until a holder word is to be loaded; and those of the row with them
abbrev after_row : RestartKind → ℕ
after_row Seek = 10
after_row (Steal v i) = 6
after_row (Take v d) = 5
after_row _ = 1

abbrev whole_row : RestartKind → ℕ
whole_row Seek = 0
whole_row (Steal v i) = 9
whole_row (Take v d) = 8
whole_row (Check v i) = 5
whole_row _ = 4

-- a processor that stands so at a place of kind k comes to a load of a holder word within so many steps, unless its row leads elsewhere
abbrev Near : Shape → RestartKind → (n : ℕ) → Standing → Type 0
Near s k n IsLost = whole_row k + 3 ≤ n
Near s k n (IsPlaced q) = whole_row k + 2 ≤ n
Near s k n (IsAt q re) = whole_row k + 1 ≤ n
Near s k n (IsWithin seat row) = (seeks_holder (IsWithin seat row) ≡ true) ⊎ ((j : ℕ) × (j + after_row k ≤ n) × LooksAtMost s seat k j row)
Near s k n (IsRunning seat rest) = ⊥
Near s k n (IsBroken q) = Unit {0}
Near s k n IsDone = Unit {0}

-- where no more is left
less_near : (s : Shape) (k : RestartKind) (n m : ℕ) (x : Standing) → n ≤ m → Near s k n x → Near s k m x
less_near s k n m IsLost le near = omega (arith, le, near)
less_near s k n m (IsPlaced q) le near = omega (arith, le, near)
less_near s k n m (IsAt q re) le near = omega (arith, le, near)
less_near s k n m (IsWithin seat row) le (inl seeks) = inl seeks
less_near s k n m (IsWithin seat row) le (inr at) = inr (at.0, let low = at.1 in omega (arith, le, low), at.2)
less_near s k n m (IsRunning seat rest) le near = near
less_near s k n m (IsBroken q) le near = tt
less_near s k n m IsDone le near = tt

after_some : (k : RestartKind) → 1 ≤ after_row k
after_some Seek = omega arith
after_some (Steal v i) = omega arith
after_some (Take v d) = omega arith
after_some _ = omega arith

whole_few : (k : RestartKind) → whole_row k ≤ 9
whole_few Seek = omega arith
whole_few (Steal v i) = omega arith
whole_few (Take v d) = omega arith
whole_few (Check v i) = omega arith
whole_few _ = omega arith

look_sum : (k : RestartKind) → look_cost k + after_row k ≤ 16
look_sum Seek = omega arith
look_sum (Steal v i) = omega arith
look_sum (Check v i) = omega arith
look_sum (Take v d) = omega arith
look_sum (Take2 v) = omega arith
look_sum _ = omega arith

-- no row that looks forks or enters a capsule
no_fork : (k : RestartKind) (r : ℕ) → LookEnds k (Fork r) → ⊥
no_fork Seek r a = a
no_fork (Steal v i) r a = a
no_fork (Check v i) r a = a
no_fork (Take v d) r a = a
no_fork (Take2 v) r a = a
no_fork _ r a = a

no_capsule : (k : RestartKind) (r : ℕ) → LookEnds k (Enter r) → ⊥
no_capsule Seek r a = a
no_capsule (Steal v i) r a = a
no_capsule (Check v i) r a = a
no_capsule (Take v d) r a = a
no_capsule (Take2 v) r a = a
no_capsule _ r a = a

again_seeks : (k : RestartKind) → LookEnds k Again → k ≡ Seek
again_seeks Seek a = refl
again_seeks (Steal v i) a = absurd a
again_seeks (Check v i) a = absurd a
again_seeks (Take v d) a = absurd a
again_seeks (Take2 v) a = absurd a
again_seeks _ a = absurd a

-- what a row that looks installs looks, and is nearer
next_looks : (k l : RestartKind) (b : ℕ) → LookEnds k (Install (record { kind = l; bottom = b })) → IsLook l × (whole_row l + 1 ≤ after_row k)
next_looks Seek (Steal v i) b a = (tt, omega arith)
next_looks Seek (Take v d) b a = (tt, omega arith)
next_looks Seek _ b a = absurd a
next_looks (Steal v i) l b a = subst (λ (x : RestartKind). IsLook x × (whole_row x + 1 ≤ 6)) (sym a) (tt, omega arith)
next_looks (Check v i) l b a = subst (λ (x : RestartKind). IsLook x × (whole_row x + 1 ≤ 1)) (sym a) (tt, omega arith)
next_looks (Take v d) l b (inl a) = subst (λ (x : RestartKind). IsLook x × (whole_row x + 1 ≤ 5)) (sym a) (tt, omega arith)
next_looks (Take v d) l b (inr a) = subst (λ (x : RestartKind). IsLook x × (whole_row x + 1 ≤ 5)) (sym a) (tt, omega arith)
next_looks (Take2 v) l b a = subst (λ (x : RestartKind). IsLook x × (whole_row x + 1 ≤ 1)) (sym a) (tt, omega arith)
next_looks _ l b a = absurd a

module _ (s : Shape) (code : CodeParts) (k : RestartKind) (seat : Seat) where
  within_near : (row : Row) (y : Bool) (j n : ℕ) → j + after_row k ≤ n → LooksAtMost s seat k j row → Near s k n (within_if seat row y)
  within_near row true j n low looks = inr (j, low, looks)
  within_near row false j n low looks = tt

  -- what a row has come to
  then_near : (next : Then) (j n : ℕ) → j + after_row k ≤ n → LooksAtMost s seat k j (Now next) → Near s k n (stands_then s code seat next)
  then_near Again zero n low looks =
      let seeks = again_seeks k looks in
      let ten = ap after_row seeks in
      let none = ap whole_row seeks in
      omega (arith, low, ten, none)
  then_near Again (suc j) n low looks =
      let seeks = again_seeks k looks in
      let ten = ap after_row seeks in
      let none = ap whole_row seeks in
      omega (arith, low, ten, none)
  then_near (Load point) j n low looks = within_near (Now (Load point)) (then_is_there s seat (Load point)) j n low looks
  then_near (Install re) j n low looks = within_near (Now (Install re)) (then_is_there s seat (Install re)) j n low looks
  then_near (Fork r) zero n low looks = absurd looks
  then_near (Fork r) (suc j) n low looks = absurd (no_fork k r looks)
  then_near (Begin r f b) j n low looks = within_near (Now (Begin r f b)) (then_is_there s seat (Begin r f b)) j n low looks
  then_near (Move p) j n low looks = within_near (Now (Move p)) (then_is_there s seat (Move p)) j n low looks
  then_near (Enter x) zero n low looks = absurd looks
  then_near (Enter x) (suc j) n low looks = absurd (no_capsule k x looks)
  then_near Broken j n low looks = within_near (Now Broken) (then_is_there s seat Broken) j n low looks

  row_near : (row : Row) (j n : ℕ) → j + after_row k ≤ n → LooksAtMost s seat k j row → Near s k n (stands s code seat row)
  row_near (Now next) j n low looks = then_near next j n low looks
  row_near (Store cell x next) j n low looks = within_near (Store cell x next) (row_is_there s seat (Store cell x next)) j n low looks
  row_near (Exchange cell old new next) j n low looks =
      within_near (Exchange cell old new next) (row_is_there s seat (Exchange cell old new next)) j n low looks

-- a row that begins
begins_near : (s : Shape) (code : CodeParts) → s.takeover ≡ ByPlaces → (k : RestartKind) (seat : Seat) → IsLook k → seat.restart.kind ≡ k → (n : ℕ)
    → whole_row k ≤ n → Near s k n (stands s code seat (row_of s seat k))
begins_near s code plain Seek seat look is n low = by (then_is_there s seat (Load SeekHolder))
  where
    by : (y : Bool) → Near s Seek n (within_if seat (Now (Load SeekHolder)) y)
    by true = inl refl
    by false = tt
begins_near s code plain (Steal v i) seat look is n low =
    row_near s code (Steal v i) seat (row_of s seat (Steal v i)) 3 n low (looks_are_short s plain seat (Steal v i) tt)
begins_near s code plain (Check v i) seat look is n low =
    row_near s code (Check v i) seat (row_of s seat (Check v i)) 4 n low (looks_are_short s plain seat (Check v i) tt)
begins_near s code plain (Take v d) seat look is n low =
    row_near s code (Take v d) seat (row_of s seat (Take v d)) 3 n low (looks_are_short s plain seat (Take v d) tt)
begins_near s code plain (Take2 v) seat look is n low =
    row_near s code (Take2 v) seat (row_of s seat (Take2 v)) 3 n low (looks_are_short s plain seat (Take2 v) tt)
begins_near s code plain _ seat look is n low = absurd look

module _ (s : Shape) (code : CodeParts) (plain : s.takeover ≡ ByPlaces) (fair : IsFair code) (root : Tree (Frame FrameWord Point) Result) (input : Words)
    (ws : List ℕ) (c q : ℕ) (there : c < s.processors) where
  abbrev Steps : (Standing → Type 0) → ℕ → RunState → List Turn → Type 0
  Steps P n state turns = StepsFrom s code P c n state turns

  abbrev pub Looks : ℕ → RunState → List Turn → Type 0
  Looks n state turns =
      Steps IsLooking n state turns ⊎ (Steps IsMoving n state turns ⊎ Outcome s code fair root input ws c q there state turns)

  abbrev Here : RunState → Type 0
  Here state = IsOn s code fair root input c q state

  steps_later : (P : Standing → Type 0) (n k : ℕ) (state : RunState) (turn : Turn) (more : List Turn) → turns_of c (turn ∷ []) ≤ k
      → Steps P n (happens s code state turn) more → Steps P (k + n) state (turn ∷ more)
  steps_later P n k state turn more le at = record {
    before = turn ∷ at.before;
    rest = at.rest;
    victim = at.victim;
    turns_are = ap (λ (l : List Turn). turn ∷ l) at.turns_are;
    stands = at.stands;
    soon = let sum : turns_of c (turn ∷ at.before) ≡ turns_of c (turn ∷ []) + turns_of c at.before = of_both c (turn ∷ []) at.before in
        let few = at.soon in omega (arith, le, sum, few);
  }

  looks_later : (n k : ℕ) (state : RunState) (now : Here state) (turn : Turn) (more : List Turn) → turns_of c (turn ∷ []) ≤ k
      → Looks n (happens s code state turn) more → Looks (k + n) state (turn ∷ more)
  looks_later n k state now turn more le (inl at) = inl (steps_later IsLooking n k state turn more le at)
  looks_later n k state now turn more le (inr (inl at)) = inr (inl (steps_later IsMoving n k state turn more le at))
  looks_later n k state now turn more le (inr (inr out)) = inr (inr (later s code fair root input ws c q there state now turn more out))

  here_now : (P : Standing → Type 0) (n v : ℕ) (state : RunState) (more : List Turn) → P (stand_of state c)
      → Steps P n state (record { processor = c; act = Step v } ∷ more)
  here_now P n v state more is =
      record { before = []; rest = more; victim = v; turns_are = refl; stands = is; soon = let none : turns_of c [] ≡ 0 = refl in omega (arith, none) }

  -- a step of its own
  module _ (state : RunState) (now : Here state) (v : ℕ) (more first : List Turn) (on : state ≡ reached s code ws first)
      (are : AreMoments s code fair root input (happens s code state (record { processor = c; act = Step v })) more)
      (n : ℕ) (ih : Here (happens s code state (record { processor = c; act = Step v }))
      → IsLook (spots.kinds s (happens s code state (record { processor = c; act = Step v })).words q)
      → Near s (spots.kinds s (happens s code state (record { processor = c; act = Step v })).words q) n
      (stand_of (happens s code state (record { processor = c; act = Step v })) c) → Looks n (happens s code state (record { processor = c; act = Step v })) more)
      (among : AllByRecursion (IsTurnAmong s.processors) more) (steps : AllByRecursion (StepsOnly c) more)
      (look : IsLook (spots.kinds s state.words q)) (left : n < turns_of c more) where
    abbrev mine : Turn
    mine = record { processor = c; act = Step v }

    abbrev then_ : RunState
    then_ = happens s code state mine

    abbrev k : RestartKind
    k = spots.kinds s state.words q

    abbrev k' : RestartKind
    k' = spots.kinds s then_.words q

    moment : IsMoment s code fair root input then_
    moment = first_moment s code fair root input then_ more are

    one : turns_of c (mine ∷ []) ≤ 1
    one =
        let is : turns_of c (mine ∷ []) ≡ 1 + turns_of c [] = ap (λ (y : Bool). (if y then 1 else 0) + turns_of c []) (eq-eqb c c refl) in
        let none : turns_of c [] ≡ 0 = refl in omega (arith, is, none)

    set_on : finish_at s then_ ≢ 0 → Looks (1 + n) state (mine ∷ more)
    set_on set =
        inr (inr (inr (set_stays s code fair root input ws c q there (first ++ mine ∷ []) more then_
        (next_is s code fair root input ws c q there first mine state on) set)))

    stands_at : (x y : Standing) → stand_of state c ≡ x → x ≢ IsDone → (acts s code state c (Step v) x).stand ≡ slice_set state.stand c y → stand_of then_ c ≡ y
    stands_at x y e alive stand =
        ap (λ (z : Standing). stand_of (acts s code state c (Step v) z) c) e ∙ ap (λ (l : List Standing). stand_in (slice_get l c)) stand
        ∙ stand_own state.stand c y (λ z. alive (sym e ∙ z))

    words_at : (x : Standing) → stand_of state c ≡ x → then_.words ≡ (acts s code state c (Step v) x).words
    words_at x e = ap (λ (z : Standing). (acts s code state c (Step v) z).words) e

    stays_on : (x : Standing) → stand_of state c ≡ x → ((z : ℕ) → MovesTo (Step v) x c z → ⊥) → (Here then_ → Looks (1 + n) state (mine ∷ more))
        → Looks (1 + n) state (mine ∷ more)
    stays_on x e stays go =
        elim (own_here s code fair root input c q there state now v (λ z a. stays z (subst (λ (y : Standing). MovesTo (Step v) y c z) e a)) moment) [
          | inr set ↦ set_on set
          | inl here ↦ go here
        ]

    -- it looks still, nearer
    nearer : (x y : Standing) (l : RestartKind) → stand_of state c ≡ x → x ≢ IsDone → ((z : ℕ) → MovesTo (Step v) x c z → ⊥)
        → (acts s code state c (Step v) x).stand ≡ slice_set state.stand c y → k' ≡ l → IsLook l → Near s l n y → Looks (1 + n) state (mine ∷ more)
    nearer x y l e alive stays stand kind looks near = stays_on x e stays (λ here.
        let at = stands_at x y e alive stand in
        looks_later n 1 state now mine more one
        (ih here (subst IsLook (sym kind) looks)
        (subst (Near s k' n) (sym at) (subst (λ (z : RestartKind). Near s z n y) (sym kind) near))))

    same_words : (x : Standing) → stand_of state c ≡ x → (acts s code state c (Step v) x).words ≡ state.words → k' ≡ k
    same_words x e same = ap (λ (l : List ℕ). spots.kinds s l q) (words_at x e ∙ same)

    module _ (seat : Seat) (row : Row) (e : stand_of state c ≡ IsWithin seat row) where
      sees : Sees s (spots.view s state.words) (spots.kinds s state.words) (spots.bottoms s state.words) c (IsWithin seat row)
      sees = sees_at s code fair root input state now.moment c (IsWithin seat row) e

      place : q ≡ seat.place
      place = own_place s code fair root input c q there state now seat.place sees.0.carried

      -- a row that gives no restart
      same_kind : ((re : Restart) → Gives (Step v) (IsWithin seat row) q re → ⊥) → k' ≡ k
      same_kind none =
          elim (restart_goes_on s code state.words now.moment.advancing.run.halves.lawful.0 (Step v) (stand_of state c) then_.words
          (wrote_at s code fair root input state now.moment mine there) q) [
            | inl same ↦ ap (λ (x : Restart). x.kind) same
            | inr new ↦ absurd (none new.0 (subst (λ (x : Standing). Gives (Step v) x q new.0) e new.1))
          ]

      kind_now : (re : Restart) → restart_is_there s re ≡ true
          → (acts s code state c (Step v) (IsWithin seat row)).words ≡ store s state.words (RestartWord seat.place) (restart_word re) → k' ≡ re.kind
      kind_now re here stored =
          ap (λ (l : List ℕ). spots.kinds s l q) (words_at (IsWithin seat row) e ∙ stored)
          ∙ ap (spots.kinds s (store s state.words (RestartWord seat.place) (restart_word re))) place
          ∙ ap (λ (z : Restart). z.kind)
          (restart_here s state.words seat.place re now.moment.advancing.run.halves.lawful.0 sees.0.carried.place (restart_fits s (few_words s) re here))

    -- a step within a row that is no load of a holder word
    row_step : (seat : Seat) (row : Row) → stand_of state c ≡ IsWithin seat row → (j : ℕ) → j + after_row k ≤ 1 + n → LooksAtMost s seat k j row
        → Looks (1 + n) state (mine ∷ more)
    row_step seat (Now Again) e j low looks = absurd (true≢false (sym (sees seat (Now Again) e).2))
    row_step seat (Now Broken) e j low looks = absurd (true≢false (sym (sees seat (Now Broken) e).2))
    row_step seat row e zero low looks = absurd (none row e looks)
      where
        none : (row : Row) → stand_of state c ≡ IsWithin seat row → LooksAtMost s seat k zero row → ⊥
        none (Now Again) e a = true≢false (sym (sees seat (Now Again) e).2)
        none (Now Broken) e a = true≢false (sym (sees seat (Now Broken) e).2)
        none (Now (Load x)) e a = a
        none (Now (Install x)) e a = a
        none (Now (Fork x)) e a = a
        none (Now (Begin x y z)) e a = a
        none (Now (Move x)) e a = a
        none (Now (Enter x)) e a = a
        none (Store cell x next) e a = a
        none (Exchange cell old new next) e a = a
    row_step seat (Now (Load point)) e (suc j) low looks =
        nearer (IsWithin seat (Now (Load point))) _ k e (λ z. cc) (λ z a. a) refl (same_words (IsWithin seat (Now (Load point))) e refl) look
        (row_near s code k seat _ j n (omega (arith, low)) (looks v _))
    row_step seat (Store cell x next) e (suc j) low looks =
        nearer (IsWithin seat (Store cell x next)) _ k e (λ z. cc) (λ z a. a) refl (same_kind seat (Store cell x next) e (λ re a. a)) look
        (then_near s code k seat next j n (omega (arith, low)) looks)
    row_step seat (Exchange cell old new next) e (suc j) low looks =
        nearer (IsWithin seat (Exchange cell old new next)) _ k e (λ z. cc) (λ z a. a) refl (same_kind seat (Exchange cell old new next) e (λ re a. a)) look
        (then_near s code k seat next j n (omega (arith, low)) looks)
    row_step seat (Now (Install re)) e (suc j) low looks =
        let is = kind_now seat (Now (Install re)) e re (sees seat (Now (Install re)) e).2 refl in
        let next = next_looks k re.kind re.bottom looks in
        let few = next.1 in
        nearer (IsWithin seat (Now (Install re))) _ re.kind e (λ z. cc) (λ z a. a) refl is next.0 (omega (arith, low, few))
    row_step seat (Now (Begin r f b)) e (suc j) low looks =
        let is = kind_now seat (Now (Begin r f b)) e (begun f b) (sees seat (Now (Begin r f b)) e).2 refl in
        let at = ap rank (stands_at (IsWithin seat (Now (Begin r f b))) _ e (λ z. cc) refl) in
        let some = after_some k in
        stays_on (IsWithin seat (Now (Begin r f b))) e (λ z a. a) (λ here.
        inr (inr (later s code fair root input ws c q there state now mine more
        (soon s code fair root input ws c q there more (first ++ mine ∷ []) then_ (next_is s code fair root input ws c q there first mine state on) are here
        (ap is_work is) among steps (omega (arith, at, left, low, some))))))
    row_step seat (Now (Move p)) e (suc j) low looks = inr (inl (here_now IsMoving (1 + n) v state more (subst IsMoving (sym e) tt)))
    row_step seat (Now (Fork r)) e (suc j) low looks = absurd (no_fork k r looks)
    row_step seat (Now (Enter x)) e (suc j) low looks = absurd (no_capsule k x looks)

    kind_if : (z : ℕ) (re : Option Restart) → Sees s (spots.view s state.words) (spots.kinds s state.words) (spots.bottoms s state.words) c (IsAt z re)
        → KindIf re k
    kind_if z None seen = tt
    kind_if z (Some re) seen = sym (ap (spots.kinds s state.words) (own_place s code fair root input c q there state now z seen.0) ∙ seen.1.kind)

    finish_near : (z : ℕ) (re : Option Restart) (found : ℕ) → KindIf re k → whole_row k ≤ n → Near s k n (at_finish s code c z re found)
    finish_near z re (suc found) is low = tt
    finish_near z None zero is low = tt
    finish_near z (Some re) zero is low = by (restart_is_there s re)
      where
        seat : Seat
        seat = record { own = c; place = z; restart = re }

        by : (y : Bool) → Near s k n (begins_if s code seat y)
        by false = tt
        by true = subst (λ (l : RestartKind). Near s k n (stands s code seat (row_of s seat l))) (sym is) (begins_near s code plain k seat look is n low)

    placed_near : (found : ℕ) → whole_row k + 3 ≤ 1 + n → Near s k n (placed s found)
    placed_near found low = by (nat_lt found s.processors)
      where
        by : (y : Bool) → Near s k n (if y then IsPlaced found else IsBroken 64)
        by true = omega (arith, low)
        by false = tt

    own_step : (x : Standing) → stand_of state c ≡ x → Near s k (1 + n) x
        → Sees s (spots.view s state.words) (spots.kinds s state.words) (spots.bottoms s state.words) c x → Looks (1 + n) state (mine ∷ more)
    own_step IsLost e near seen =
        nearer IsLost _ k e (λ z. cc) (λ z a. a) refl (same_words IsLost e refl) look (placed_near (read s state.words (CarryWord c)) near)
    own_step (IsPlaced z) e near seen =
        nearer (IsPlaced z) _ k e (λ z. cc) (λ z a. a) refl (same_words (IsPlaced z) e refl) look (omega (arith, near))
    own_step (IsAt z re) e near seen =
        nearer (IsAt z re) _ k e (λ z. cc) (λ z a. a) refl (same_words (IsAt z re) e refl) look
        (finish_near z re (read s state.words FinishWord) (kind_if z re seen) (omega (arith, near)))
    own_step (IsWithin seat row) e (inl seeks) seen =
        inl (here_now IsLooking (1 + n) v state more (ap seeks_holder e ∙ seeks))
    own_step (IsWithin seat row) e (inr at) seen = row_step seat row e at.0 at.1 at.2
    own_step (IsRunning seat rest) e near seen = absurd near
    own_step (IsBroken z) e near seen =
        let at = stands_at (IsBroken z) IsDone e (λ z. cc) refl in
        stays_on (IsBroken z) e (λ z a. a) (λ here. absurd (true≢false (sym (ap is_done_at at) ∙ here.going)))
    own_step IsDone e near seen = absurd (true≢false (sym (ap is_done_at e) ∙ now.going))

  -- the steps of c, by how many come before the load
  pub look_soon : (more first : List Turn) (state : RunState) → state ≡ reached s code ws first → AreMoments s code fair root input state more → Here state
      → IsLook (spots.kinds s state.words q) → (n : ℕ) → Near s (spots.kinds s state.words q) n (stand_of state c)
      → AllByRecursion (IsTurnAmong s.processors) more → AllByRecursion (StepsOnly c) more → n < turns_of c more → Looks n state more
  look_soon [] first state on are now look n near among steps lt = absurd (omega (arith, lt))
  look_soon (turn ∷ more) first state on are now look n near among steps lt = elim (cases_eq turn.processor c) [
    | inr ne ↦
        let kind = others_keep_kind s code fair root input c q there state now turn among.0.processor ne in
        let stand = stand_else s code state turn.processor c turn.act (stand_of state turn.processor) (λ z. ne (sym z)) in
        let next = first_moment s code fair root input (happens s code state turn) more are.1 in
        let none : turns_of c (turn ∷ []) ≤ 0 =
        let is : turns_of c (turn ∷ []) ≡ 0 + turns_of c [] = ap (λ (y : Bool). (if y then 1 else 0) + turns_of c []) (ne_eqb turn.processor c ne) in
        let zero_ : turns_of c [] ≡ 0 = refl in omega (arith, is, zero_) in
        let count : turns_of c (turn ∷ more) ≡ 0 + turns_of c more = ap (λ (y : Bool). (if y then 1 else 0) + turns_of c more) (ne_eqb turn.processor c ne) in
        let zero_n : 0 + n ≡ n = omega arith in
        subst (λ (m : ℕ). Looks m state (turn ∷ more)) zero_n
        (looks_later n 0 state now turn more none
        (look_soon more (first ++ turn ∷ []) (happens s code state turn) (next_is s code fair root input ws c q there first turn state on) are.1
        (other_here s code fair root input c q there state now turn among.0.processor ne next) (subst IsLook (sym kind) look) n
        (subst (Near s (spots.kinds s (happens s code state turn).words q) n) (sym stand)
        (subst (λ (k : RestartKind). Near s k n (stand_of state c)) (sym kind) near)) among.1 steps.1 (omega (arith, lt, count))))
    | inl own ↦
        let act = step_is turn.act (steps.0 own) in
        let count : turns_of c (turn ∷ more) ≡ 1 + turns_of c more = ap (λ (y : Bool). (if y then 1 else 0) + turns_of c more) (eq-eqb turn.processor c own) in
        (subst (λ (z : Turn). AreMoments s code fair root input (happens s code state z) more
        → ((m : ℕ) → m < turns_of c more → Here (happens s code state z) → IsLook (spots.kinds s (happens s code state z).words q)
        → Near s (spots.kinds s (happens s code state z).words q) m (stand_of (happens s code state z) c) → Looks m (happens s code state z) more)
        → Looks n state (z ∷ more))
        (λ i. record { processor = sym own i; act = sym act.1 i })
        (λ are_ ih. mine act.0 n near (omega (arith, lt, count)) are_ ih)) are.1
        (λ m low here look_ near_. look_soon more (first ++ turn ∷ []) (happens s code state turn)
        (next_is s code fair root input ws c q there first turn state on) are.1 here look_ m near_ among.1 steps.1 low)
  ]
    where
      at_once : (v : ℕ) (x : Standing) → stand_of state c ≡ x → Near s (spots.kinds s state.words q) zero x
          → AreMoments s code fair root input (happens s code state (record { processor = c; act = Step v })) more
          → Looks zero state (record { processor = c; act = Step v } ∷ more)
      at_once v IsLost e near are_ = absurd (omega (arith, near))
      at_once v (IsPlaced z) e near are_ = absurd (omega (arith, near))
      at_once v (IsAt z re) e near are_ = absurd (omega (arith, near))
      at_once v (IsWithin seat row) e (inl seeks) are_ =
          inl (here_now IsLooking zero v state more (ap seeks_holder e ∙ seeks))
      at_once v (IsWithin seat row) e (inr at) are_ =
          absurd (let low = at.1 in let some = after_some (spots.kinds s state.words q) in omega (arith, low, some))
      at_once v (IsRunning seat rest) e near are_ = absurd near
      at_once v (IsBroken z) e near are_ =
          inr (inr (breaks s code fair root input ws c q there state now v more first on
          (first_moment s code fair root input (happens s code state (record { processor = c; act = Step v })) more are_) z e))
      at_once v IsDone e near are_ = absurd (true≢false (sym (ap is_done_at e) ∙ now.going))

      mine : (v n : ℕ) → Near s (spots.kinds s state.words q) n (stand_of state c) → n ≤ turns_of c more
          → AreMoments s code fair root input (happens s code state (record { processor = c; act = Step v })) more
          → ((m : ℕ) → m < turns_of c more → Here (happens s code state (record { processor = c; act = Step v }))
          → IsLook (spots.kinds s (happens s code state (record { processor = c; act = Step v })).words q)
          → Near s (spots.kinds s (happens s code state (record { processor = c; act = Step v })).words q) m
          (stand_of (happens s code state (record { processor = c; act = Step v })) c)
          → Looks m (happens s code state (record { processor = c; act = Step v })) more)
          → Looks n state (record { processor = c; act = Step v } ∷ more)
      mine v zero near le are_ ih = at_once v (stand_of state c) refl near are_
      mine v (suc n) near le are_ ih =
          let two : 1 + n ≡ suc n = omega arith in
          subst (λ (m : ℕ). Looks m state (record { processor = c; act = Step v } ∷ more)) two
          (own_step state now v more first on are_ n (ih n (omega (arith, le))) among.1 steps.1 look (omega (arith, le)) (stand_of state c) refl
          (subst (λ (m : ℕ). Near s (spots.kinds s state.words q) m (stand_of state c)) (sym two) near)
          (sees_at s code fair root input state now.moment c (stand_of state c) refl))

  strand_kind : (k : RestartKind) → IsLook k → IsStrand k → ⊥
  strand_kind Seek look is = is
  strand_kind (Steal v i) look is = is
  strand_kind (Check v i) look is = is
  strand_kind (Take v d) look is = is
  strand_kind (Take2 v) look is = is
  strand_kind _ look is = look

  -- wherever it stands
  any_near : (state : RunState) → Here state → IsLook (spots.kinds s state.words q) → Near s (spots.kinds s state.words q) 16 (stand_of state c)
  any_near state now look = by (stand_of state c) refl
    where
      k : RestartKind
      k = spots.kinds s state.words q

      seen : (x : Standing) → stand_of state c ≡ x → Sees s (spots.view s state.words) (spots.kinds s state.words) (spots.bottoms s state.words) c x
      seen x e = sees_at s code fair root input state now.moment c x e

      by : (x : Standing) → stand_of state c ≡ x → Near s k 16 x
      by IsLost e = let few = whole_few k in omega (arith, few)
      by (IsPlaced z) e = let few = whole_few k in omega (arith, few)
      by (IsAt z re) e = let few = whole_few k in omega (arith, few)
      by (IsWithin seat row) e =
          let at = own_place s code fair root input c q there state now seat.place (seen (IsWithin seat row) e).0.carried in
          let is : seat.restart.kind ≡ k = sym (ap (spots.kinds s state.words) at ∙ (seen (IsWithin seat row) e).0.at.kind) in
          let a = look_row s plain (spots.with_restarts (spots.view s state.words) (spots.kinds s state.words) (spots.bottoms s state.words)) seat row
          (subst IsLook (sym is) look) (seen (IsWithin seat row) e).1 in
          let few = look_sum k in
          let most = subst (λ (l : RestartKind). a.0 ≤ look_cost l) is a.1 in
          inr (a.0, omega (arith, few, most), subst (λ (l : RestartKind). LooksAtMost s seat l a.0 row) is a.2)
      by (IsRunning seat rest) e =
          let at = own_place s code fair root input c q there state now seat.place (seen (IsRunning seat rest) e).0.carried in
          let is : seat.restart.kind ≡ k = sym (ap (spots.kinds s state.words) at ∙ (seen (IsRunning seat rest) e).0.at.kind) in
          strand_kind k look (subst IsStrand is (seen (IsRunning seat rest) e).1)
      by (IsBroken z) e = tt
      by IsDone e = tt

  look_or_work : (k : RestartKind) → IsLook k ⊎ (is_work k ≡ true)
  look_or_work (Run f y) = inr refl
  look_or_work (Bump r) = inr refl
  look_or_work (Push1 r) = inr refl
  look_or_work (Push2 r) = inr refl
  look_or_work (Unwind f) = inr refl
  look_or_work (Arrive r d) = inr refl
  look_or_work (Join r d) = inr refl
  look_or_work Pop1 = inr refl
  look_or_work (Pop2 r) = inr refl
  look_or_work Seek = inl tt
  look_or_work (Steal v i) = inl tt
  look_or_work (Check v i) = inl tt
  look_or_work (Take v d) = inl tt
  look_or_work (Take2 v) = inl tt

  -- seventeen steps are enough
  pub look_soon_from : (first more : List Turn) → AreMoments s code fair root input (reached s code ws first) more → Here (reached s code ws first)
      → AllByRecursion (IsTurnAmong s.processors) more → AllByRecursion (StepsOnly c) more → 17 ≤ turns_of c more → Looks 16 (reached s code ws first) more
  look_soon_from first more are now among steps many =
      let state = reached s code ws first in
      elim (look_or_work (spots.kinds s state.words q)) [
        | inl look ↦ look_soon more first state refl are now look 16 (any_near state now look) among steps (omega (arith, many))
        | inr work ↦
            let few = rank_few (stand_of state c) in
            inr (inr (soon s code fair root input ws c q there more first state refl are now work among steps (omega (arith, few, many))))
      ]
