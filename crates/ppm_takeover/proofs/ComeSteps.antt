-- A processor that has taken a place over goes there: its bid stands, so each step of its own brings it nearer. What is at work there stays so meanwhile.
use Rattle.std.proofs.Common.{◌≡◌, ◌≢◌, ◌⊎◌, ◌≤◌, ◌<◌, ◌+◌, ◌==◌, if◌then◌else◌, ℕ, zero, suc, Bool, true, false, List, [], ◌∷◌, ◌++◌, Option, Some, None}
use Rattle.std.proofs.Common.{inl, inr, refl, sym, ap, ◌∙◌, subst, arith}
use Rattle.std.specs.List.{AllByRecursion}
use Rattle.std.specs.Prelude.{nat_lt, slice_get, slice_set, ◌&&◌}
use Rattle.std.proofs.lemmas.Bool.{cases_eq, eq-eqb, ne_eqb, lt-ltb, true≢false, and_from}
use Rattle.ppm_strands.specs.Tree.{Words, Tree}
use Rattle.ppm_cells.specs.Memory.{AreWordsOf, read}
use Rattle.ppm_cells.specs.declared.cell.Cell.TheVariants.{FinishWord, CarryWord, MessageWord, HolderWord}
use Rattle.ppm_cells.specs.declared.holder.Holder.{Holder as AHold}
use Rattle.ppm_cells.specs.declared.restart.Restart.{Restart}
use Rattle.ppm_cells.specs.declared.restart.RestartKind.{RestartKind}
use Rattle.ppm_cells.specs.declared.restart.RestartKind.TheVariants.{Seek, Steal, Check, Take, Take2}
use Rattle.ppm_cells.specs.declared.shape.Shape.{Shape}
use Rattle.ppm_cells.specs.declared.shape.Takeover.{Takeover}
use Rattle.ppm_cells.specs.declared.shape.Takeover.TheVariants.{ByPlaces, ByEntries}
use Rattle.ppm_strands.specs.Strand.{Frame}
use Rattle.ppm_code.specs.Strands.{Point, Result}
use Rattle.ppm_code.specs.declared.code.CodeParts.{CodeParts}
use Rattle.ppm_code.specs.declared.location.FrameWord.{FrameWord}
use Rattle.ppm_step.specs.Contents.{content_of}
use Rattle.ppm_step.specs.Rows.{with_kind, by_places, lowered, on_holder, makes_bid, bid_again, bid_holder, found_at, row_of}
use Rattle.ppm_step.specs.Standings.{Standing, IsLost, IsPlaced, IsAt, IsWithin, IsRunning, IsBroken, IsDone, row_is_there, then_is_there}
use Rattle.ppm_step.specs.Standings.{within_if, stands_then, stands, begins_if, placed, at_finish}
use Rattle.ppm_step.specs.There.{restart_is_there}
use Rattle.ppm_step.specs.declared.content.Content.{Content}
use Rattle.ppm_step.specs.declared.content.Content.TheVariants.{AHolder}
use Rattle.ppm_step.specs.declared.content.Reading.TheVariants.{AsHolder}
use Rattle.ppm_step.specs.Points.{cell_at, reading_at}
use Rattle.ppm_step.specs.declared.row.Point.{Point as RowPoint}
use Rattle.ppm_step.specs.declared.row.Point.TheVariants.{BidMessage, BidAgain, BidHolder}
use Rattle.ppm_step.specs.declared.row.Row.{Row}
use Rattle.ppm_step.specs.declared.row.Row.TheVariants.{Now, Exchange}
use Rattle.ppm_step.specs.declared.row.Seat.{Seat}
use Rattle.ppm_step.specs.declared.row.Then.{Then}
use Rattle.ppm_step.specs.declared.row.Then.TheVariants.{Load, Install, Move, Broken}
use Rattle.ppm_step.specs.declared.turn.Act.TheVariants.{Step}
use Rattle.ppm_step.specs.declared.turn.Turn.{Turn}
use Rattle.ppm_step.specs.Among.{IsTurnAmong}
use Rattle.ppm_step.specs.Laws.{reached, finish_at}
use Rattle.ppm_step.specs.State.{State as RunState, stand_in, stand_of, acts, happens, is_done_at}
use Rattle.ppm_cells.specs.Restart.{restart_word}
use Rattle.ppm_cells.specs.Memory.{write as store}
use Rattle.ppm_cells.specs.declared.cell.Cell.TheVariants.{RestartWord}
use Rattle.ppm_cells.proofs.CellLemmas.{few_words}
use Rattle.ppm_step.proofs.ThereLemmas.{restart_fits}
use Rattle.ppm_tickets.specs.Lawful.{IsDead, IsAlive, IsTaken, Names, Dooms, Wins, Steals, tag}
use Rattle.ppm_tickets.specs.Saw.{Carried, IsStrand, Sees}
use Rattle.ppm_tickets.specs.View as spots
use Rattle.ppm_tickets.specs.View.{content_by}
use Rattle.ppm_tickets.specs.Words.{Word, Empty, Local, Job, Taken, Held, Number, Linked, Restarts, Unread, Spot, Message, Bid, Slot, Holder, Carry, Dead}
use Rattle.ppm_tickets.proofs.StepLemmas.{stand_own}
use Rattle.ppm_tickets.proofs.ViewLemmas.{shows_content, view_here, restart_here}
use Rattle.ppm_kept.specs.Running.{IsFair}
use Rattle.ppm_runs.proofs.JoinLemmas.{stand_else}
use Rattle.ppm_runs.proofs.ShownLemmas.{names_one}
use Rattle.ppm_progress.specs.Soon.{turns_of, StepsOnly}
use Rattle.ppm_progress.specs.Works.{IsAtWork}
use Rattle.ppm_progress.proofs.HeightLemmas.{KindIf}
use Rattle.ppm_progress.proofs.IdleLemmas.{taken_same}
use Rattle.ppm_progress.proofs.MomentLemmas.{number_of, IsMoment, AreMoments, first_moment, IsOn, sees_at, alive_at, wrote_at, gives_carried, stores_carried}
use Rattle.ppm_progress.proofs.MomentLemmas.{own_place, others_keep_kind, other_here, goes_on, own_here}
use Rattle.ppm_progress.proofs.RestartLemmas.{restart_goes_on}
use Rattle.ppm_progress.proofs.SoonLemmas.{step_is, Outcome, next_is, set_stays, later}
use Rattle.ppm_progress.proofs.SpotLemmas.{holder_goes}
use Rattle.ppm_progress.proofs.ThiefLemmas.{message_same, works_from_place}
use Rattle.ppm_progress.proofs.WriteLemmas.{MovesTo}
use Rattle.ppm_takeover.specs.Lost.{BidsFor, IsBidder}
use Rattle.ppm_takeover.proofs.BidRows.{TakeSo, Take2So, take_row, take2_row}
use Rattle.ppm_takeover.proofs.CarriedTurns.{AreHeld}
use Rattle.ppm_takeover.proofs.StandRows.{bidder_or}

-- how many steps come before the move, by what the place is at and by where its processor stands
abbrev pub way : RestartKind → ℕ
way (Take v d) = 7
way _ = 3

abbrev row_way : Row → ℕ
row_way (Now (Load (BidMessage v d))) = 7
row_way (Exchange cell old new next) = 6
row_way (Now (Install re)) = 5
row_way (Now (Load (BidAgain v))) = 3
row_way (Now (Load (BidHolder v message))) = 2
row_way (Now (Move p)) = 1
row_way _ = 0

abbrev pub comes : RestartKind → Standing → ℕ
comes k IsLost = 3 + way k
comes k (IsPlaced p) = 2 + way k
comes k (IsAt p re) = 1 + way k
comes k (IsWithin seat row) = row_way row
comes k _ = 0

way_few : (k : RestartKind) → way k ≤ 7
way_few (Take v d) = omega arith
way_few _ = omega arith

-- a kind that bids
abbrev Bids : RestartKind → Type 0
Bids k = ((v : ℕ) × (d : ℕ) × (k ≡ Take v d)) ⊎ ((v : ℕ) × (k ≡ Take2 v))

module _ (s : Shape) (code : CodeParts) (k : RestartKind) (seat : Seat) where
  within_way : (row : Row) (y : Bool) (n : ℕ) → row_way row ≤ n → comes k (within_if seat row y) ≤ n
  within_way row true n low = low
  within_way row false n low = omega arith

  -- after the load of the message to bid by
  made_way : (v d : ℕ) (message : AHold) → message.processor ≡ seat.own → comes k (stands s code seat (makes_bid seat v d message)) ≤ 6
  made_way v d message own = by (message.processor == seat.own) (eq-eqb message.processor seat.own own)
    where
      low : (t : ℕ) → comes k (stands s code seat (lowered t seat v d message)) ≤ 6
      low zero = within_way (Now Broken) (then_is_there s seat Broken) 6 (omega arith)
      low (suc t) = within_way (lowered (suc t) seat v d message) (row_is_there s seat (lowered (suc t) seat v d message)) 6 (omega arith)

      by : (y : Bool) → y ≡ true → comes k (stands s code seat (if y then lowered message.tag seat v d message else Now (with_kind seat Seek))) ≤ 6
      by true e = low message.tag
      by false e = absurd (cc)

  -- after the exchange
  traded_way : (v : ℕ) (next : Then) → next ≡ with_kind seat (Take2 v) → comes k (stands_then s code seat next) ≤ 5
  traded_way v next e =
      subst (λ (x : Then). comes k (stands_then s code seat x) ≤ 5) (sym e)
      (within_way (Now (with_kind seat (Take2 v))) (then_is_there s seat (with_kind seat (Take2 v))) 5 (omega arith))

  -- after the load of the message, and of the holder that is the same
  again_way : (v : ℕ) (message : AHold) → message.processor ≡ seat.own → comes k (stands s code seat (bid_again seat v message)) ≤ 2
  again_way v message own = by (message.processor == seat.own) (eq-eqb message.processor seat.own own)
    where
      by : (y : Bool) → y ≡ true → comes k (stands s code seat (if y then Now (Load (BidHolder v message)) else Now (with_kind seat Seek))) ≤ 2
      by true e = within_way (Now (Load (BidHolder v message))) (then_is_there s seat (Load (BidHolder v message))) 2 (omega arith)
      by false e = absurd (cc)

  held_way : (v : ℕ) (message : AHold) → comes k (stands s code seat (bid_holder seat v message message)) ≤ 1
  held_way v message =
      by ((message.tag == message.tag) && (message.processor == message.processor))
      (and_from (message.tag == message.tag) (message.processor == message.processor) (eq-eqb message.tag message.tag refl)
      (eq-eqb message.processor message.processor refl))
    where
      by : (y : Bool) → y ≡ true → comes k (stands s code seat (if y then Now (Move v) else Now (with_kind seat Seek))) ≤ 1
      by true e = within_way (Now (Move v)) (then_is_there s seat (Move v)) 1 (omega arith)
      by false e = absurd (cc)

placed_way : (s : Shape) (k : RestartKind) (found : ℕ) → comes k (placed s found) ≤ 2 + way k
placed_way s k found = by (nat_lt found s.processors)
  where
    by : (y : Bool) → comes k (if y then IsPlaced found else IsBroken 64) ≤ 2 + way k
    by true = omega arith
    by false = omega arith

abbrev sitting : (own place : ℕ) → Restart → Seat
sitting own place re = record { own = own; place = place; restart = re }

finish_way : (s : Shape) (code : CodeParts) (k : RestartKind) (own place : ℕ) (re : Option Restart) (found : ℕ) → KindIf re k → Bids k
    → comes k (at_finish s code own place re found) ≤ way k
finish_way s code k own place re (suc found) is which = omega arith
finish_way s code k own place None zero is which = omega arith
finish_way s code k own place (Some re) zero is which = by (restart_is_there s re) which
  where
    begins : (how : Takeover) (v d : ℕ) → way k ≡ 7 → comes k (stands s code (sitting own place re) (by_places how (Now (Load (BidMessage v d))))) ≤ way k
    begins ByPlaces v d seven =
        within_way s code k (sitting own place re) (Now (Load (BidMessage v d))) (then_is_there s (sitting own place re) (Load (BidMessage v d))) (way k)
        (omega (arith, seven))
    begins ByEntries v d seven =
        within_way s code k (sitting own place re) (Now Broken) (then_is_there s (sitting own place re) Broken) (way k) (omega arith)

    begins2 : (how : Takeover) (v : ℕ) → way k ≡ 3 → comes k (stands s code (sitting own place re) (by_places how (Now (Load (BidAgain v))))) ≤ way k
    begins2 ByPlaces v three =
        within_way s code k (sitting own place re) (Now (Load (BidAgain v))) (then_is_there s (sitting own place re) (Load (BidAgain v))) (way k)
        (omega (arith, three))
    begins2 ByEntries v three =
        within_way s code k (sitting own place re) (Now Broken) (then_is_there s (sitting own place re) Broken) (way k) (omega arith)

    by : (y : Bool) → Bids k → comes k (begins_if s code (sitting own place re) y) ≤ way k
    by false which = omega arith
    by true (inl take) =
        subst (λ (x : RestartKind). comes k (stands s code (sitting own place re) (row_of s (sitting own place re) x)) ≤ way k) (sym (is ∙ take.2))
        (begins s.takeover take.0 take.1 (ap way take.2))
    by true (inr take2) =
        subst (λ (x : RestartKind). comes k (stands s code (sitting own place re) (row_of s (sitting own place re) x)) ≤ way k) (sym (is ∙ take2.1))
        (begins2 s.takeover take2.0 (ap way take2.1))

pub comes_few : (k : RestartKind) (x : Standing) → comes k x ≤ 10
comes_few k IsLost = let few = way_few k in omega (arith, few)
comes_few k (IsPlaced p) = let few = way_few k in omega (arith, few)
comes_few k (IsAt p re) = let few = way_few k in omega (arith, few)
comes_few k (IsWithin seat row) = let few = row_few row in omega (arith, few)
  where
    row_few : (row : Row) → row_way row ≤ 7
    row_few (Now (Load (BidMessage v d))) = omega arith
    row_few (Exchange cell old new next) = omega arith
    row_few (Now (Install re)) = omega arith
    row_few (Now (Load (BidAgain v))) = omega arith
    row_few (Now (Load (BidHolder v message))) = omega arith
    row_few (Now (Move p)) = omega arith
    row_few _ = omega arith
comes_few k (IsRunning seat rest) = omega arith
comes_few k (IsBroken p) = omega arith
comes_few k IsDone = omega arith

-- a place that bids is not at work
bids_not_at_work : (m : Spot → Word) (p v : ℕ) (k : RestartKind) → BidsFor k v → IsAtWork m p k → ⊥
bids_not_at_work m p v (Take w d) bids (inl work) = true≢false (sym work)
bids_not_at_work m p v (Take w d) bids (inr steals) = steals.1
bids_not_at_work m p v (Take2 w) bids (inl work) = true≢false (sym work)
bids_not_at_work m p v (Take2 w) bids (inr steals) = steals.1
bids_not_at_work m p v _ bids work = absurd bids

bidder_bids : (m : Spot → Word) (p : ℕ) (k : RestartKind) → IsBidder k → IsAtWork m p k → ⊥
bidder_bids m p (Take2 w) left work = bids_not_at_work m p w (Take2 w) refl work
bidder_bids m p _ left work = absurd left

-- a holder word that names a processor
names_held : (w : Word) (c : ℕ) → Names w c → (t : ℕ) × (w ≡ Held t c)
names_held (Held t x) c names = (t, ap (Held t) names)
names_held (Empty t) c names = absurd names
names_held (Local t x) c names = absurd names
names_held (Job t x) c names = absurd names
names_held (Taken t x) c names = absurd names
names_held (Number x) c names = absurd names
names_held (Linked x) c names = absurd names
names_held (Restarts x y) c names = absurd names
names_held Unread c names = absurd names

-- a job that was won stays won
wins_kept : (m n : Spot → Word) (p v i r : ℕ) → n (Message p) ≡ m (Message p) → (IsTaken (m (Slot v i)) → n (Slot v i) ≡ m (Slot v i))
    → Wins m p v i r → Wins n p v i r
wins_kept m n p v i r message slot wins = (wins.0, message ∙ wins.1, slot (subst IsTaken (sym wins.2) tt) ∙ wins.2)

steals_kept : (m n : Spot → Word) (p : ℕ) (k : RestartKind) (r : ℕ) → n (Message p) ≡ m (Message p)
    → ((v i : ℕ) → IsTaken (m (Slot v i)) → n (Slot v i) ≡ m (Slot v i)) → Steals m p k r → Steals n p k r
steals_kept m n p (Steal v i) r message slot wins = wins_kept m n p v i r message (slot v i) wins
steals_kept m n p (Check v i) r message slot wins = wins_kept m n p v i r message (slot v i) wins
steals_kept m n p _ r message slot wins = absurd wins

-- processor c, that carries place q, has taken place p over, and p is at work
module _ (s : Shape) (code : CodeParts) (fair : IsFair code) (root : Tree (Frame FrameWord Point) Result) (input : Words) (ws : List ℕ)
    (c q p : ℕ) (there : c < s.processors) where
  pub record Coming (state : RunState) : Type 0 where
    pub here : IsOn s code fair root input c q state
    pub held : AreHeld s state
    pub bids : BidsFor (spots.kinds s state.words q) p
    pub stands : spots.view s state.words (Bid q) ≡ spots.view s state.words (Holder p)
    pub names : Names (spots.view s state.words (Holder p)) c
    pub work : IsAtWork (spots.view s state.words) p (spots.kinds s state.words p)

  module _ (state : RunState) (now : Coming state) (turn : Turn) (lt : turn.processor < s.processors) where
    abbrev m : Spot → Word
    m = spots.view s state.words

    abbrev K : ℕ → RestartKind
    K = spots.kinds s state.words

    abbrev next : RunState
    next = happens s code state turn

    abbrev n : Spot → Word
    n = spots.view s next.words

    alive : IsAlive m c
    alive = alive_at s code fair root input state now.here.moment c now.here.going

    fit : AreWordsOf s state.words
    fit = now.here.moment.advancing.run.halves.lawful.0

    apart : q ≢ p
    apart same = bids_not_at_work m p p (K p) (subst (λ (z : ℕ). BidsFor (K z) p) same now.bids) now.work

    -- nobody carries p
    nobody : (d : ℕ) → Carried s m d p → ⊥
    nobody d other =
        let held = now.here.moment.advancing.run.halves.lawful.1.holding.held in
        let one : d ≡ c = names_one (m (Holder p)) d c (held d p other.lives.alive other.carry) now.names in
        apart (ap number_of (sym now.here.carried ∙ ap (λ (z : ℕ). m (Carry z)) (sym one) ∙ other.carry))

    kind_kept : spots.kinds s next.words p ≡ K p
    kind_kept =
        elim (restart_goes_on s code state.words fit turn.act (stand_of state turn.processor) next.words
        (wrote_at s code fair root input state now.here.moment turn lt) p) [
          | inl same ↦ ap (λ (z : Restart). z.kind) same
          | inr new ↦
              absurd (nobody turn.processor
              (gives_carried s code fair root input state now.here.moment turn.processor p turn.act (stand_of state turn.processor) new.0 refl new.1))
        ]

    message_kept : n (Message p) ≡ m (Message p)
    message_kept =
        message_same s code state.words turn.act (stand_of state turn.processor) next.words p
        (λ z at same.
        nobody turn.processor
        (subst (Carried s m turn.processor) same
        (stores_carried s code fair root input state now.here.moment turn.processor z (stand_of state turn.processor) refl at)))
        (wrote_at s code fair root input state now.here.moment turn lt)

    work_kept : IsAtWork n p (spots.kinds s next.words p)
    work_kept = subst (IsAtWork n p) (sym kind_kept) (elim now.work [
      | inl work ↦ inl work
      | inr steals ↦ inr (
        steals.0,
        steals_kept m n p (K p) steals.0 message_kept
            (λ v i taken.
            taken_same s code state.words turn.act (stand_of state turn.processor) next.words v i taken
            (wrote_at s code fair root input state now.here.moment turn lt)) steals.1,
      )
    ])

    -- c lives, so nobody takes p over from it
    holder_kept : n (Holder p) ≡ m (Holder p)
    holder_kept =
        elim (holder_goes s code state.words fit turn.act (stand_of state turn.processor) next.words
        (wrote_at s code fair root input state now.here.moment turn lt) p) [
          | inl same ↦ same
          | inr made ↦
              let holding = now.here.moment.advancing.run.halves.lawful.1.holding in
              let doom : Dooms m made.seat.place (Take p made.was) = subst (Dooms m made.seat.place) made.here (holding.doomed made.seat.place) in
              let one : made.was ≡ c = subst (λ (w : Word). Names w c) made.old_is now.names in
              let bid = ap tag (sym made.told ∙ doom.2) in
              let old = ap tag made.old_is in
              absurd (elim doom.4 [
                | inl dead ↦ alive (subst (λ (z : ℕ). IsDead (m (Dead z))) one dead)
                | inr late ↦ omega (arith, late, old, bid)
              ])
        ]

    names_then : Names (n (Holder p)) c
    names_then = subst (λ (w : Word). Names w c) (sym holder_kept) now.names

    -- it comes still, where it carries q still
    pub comes_on : IsOn s code fair root input c q next → AreHeld s next → Coming next
    comes_on here held =
        let lives = alive_at s code fair root input next here.moment c here.going in
        elim (held.carried p c names_then lives) [
          | inl arrived ↦ absurd (apart (ap number_of (sym here.carried ∙ arrived)))
          | inr (inl took) ↦
              let from : took.from ≡ q = ap number_of (sym took.carried ∙ here.carried) in
              record {
                here = here;
                held = held;
                bids = subst (λ (z : ℕ). BidsFor (spots.kinds s next.words z) p) from took.bids;
                stands = ap (λ (z : ℕ). n (Bid z)) (sym from) ∙ took.stands;
                names = names_then;
                work = work_kept;
              }
          | inr (inr left) ↦ absurd (bidder_bids n p (spots.kinds s next.words p) left work_kept)
        ]

  abbrev Out : RunState → List Turn → Type 0
  Out state more = Outcome s code fair root input ws c q there state more

  -- a turn of another processor
  abbrev Rest : List Turn → RunState → Type 0
  Rest more state = Coming state → comes (spots.kinds s state.words q) (stand_of state c) + 13 ≤ turns_of c more → Out state more

  other_comes : (state : RunState) (now : Coming state) (turn : Turn) (more : List Turn) → turn.processor < s.processors → turn.processor ≢ c
      → IsMoment s code fair root input (happens s code state turn) → AreHeld s (happens s code state turn) → Rest more (happens s code state turn)
      → comes (spots.kinds s state.words q) (stand_of state c) + 13 ≤ turns_of c (turn ∷ more) → Out state (turn ∷ more)
  other_comes state now turn more lt ne next held ih low =
      let here = other_here s code fair root input c q there state now.here turn lt ne next in
      let kind = others_keep_kind s code fair root input c q there state now.here turn lt ne in
      let stand = stand_else s code state turn.processor c turn.act (stand_of state turn.processor) (λ z. ne (sym z)) in
      let same = ap (λ (k : RestartKind). comes k (stand_of (happens s code state turn) c)) kind ∙ ap (comes (spots.kinds s state.words q)) stand in
      let count : turns_of c (turn ∷ more) ≡ 0 + turns_of c more = ap (λ (y : Bool). (if y then 1 else 0) + turns_of c more) (ne_eqb turn.processor c ne) in
      later s code fair root input ws c q there state now.here turn more (ih (comes_on state now turn lt here held) (omega (arith, low, same, count)))

  -- a step of its own
  module _ (state : RunState) (now : Coming state) (v : ℕ) (more first : List Turn) (on : state ≡ reached s code ws first)
      (are : AreMoments s code fair root input (happens s code state (record { processor = c; act = Step v })) more)
      (held : AreHeld s (happens s code state (record { processor = c; act = Step v })))
      (ih : Rest more (happens s code state (record { processor = c; act = Step v })))
      (among : AllByRecursion (IsTurnAmong s.processors) more) (steps : AllByRecursion (StepsOnly c) more)
      (low : comes (spots.kinds s state.words q) (stand_of state c) + 13 ≤ turns_of c (record { processor = c; act = Step v } ∷ more)) where
    abbrev mine : Turn
    mine = record { processor = c; act = Step v }

    abbrev then_ : RunState
    then_ = happens s code state mine

    abbrev k : RestartKind
    k = spots.kinds s state.words q

    abbrev k' : RestartKind
    k' = spots.kinds s then_.words q

    moment : IsMoment s code fair root input then_
    moment = first_moment s code fair root input then_ more are

    behind : then_ ≡ reached s code ws (first ++ mine ∷ [])
    behind = next_is s code fair root input ws c q there first mine state on

    set_on : finish_at s then_ ≢ 0 → Out state (mine ∷ more)
    set_on set = inr (set_stays s code fair root input ws c q there (first ++ mine ∷ []) more then_ behind set)

    count : turns_of c (mine ∷ more) ≡ 1 + turns_of c more
    count = ap (λ (y : Bool). (if y then 1 else 0) + turns_of c more) (eq-eqb c c refl)

    stands_at : (x y : Standing) → stand_of state c ≡ x → x ≢ IsDone → (acts s code state c (Step v) x).stand ≡ slice_set state.stand c y → stand_of then_ c ≡ y
    stands_at x y e alive stand =
        ap (λ (z : Standing). stand_of (acts s code state c (Step v) z) c) e ∙ ap (λ (l : List Standing). stand_in (slice_get l c)) stand
        ∙ stand_own state.stand c y (λ z. alive (sym e ∙ z))

    words_at : (x : Standing) → stand_of state c ≡ x → then_.words ≡ (acts s code state c (Step v) x).words
    words_at x e = ap (λ (z : Standing). (acts s code state c (Step v) z).words) e

    -- a step by which it doesn't move, with what follows from coming still
    stays_on : (x : Standing) → stand_of state c ≡ x → ((z : ℕ) → MovesTo (Step v) x c z → ⊥) → (Coming then_ → Out state (mine ∷ more))
        → Out state (mine ∷ more)
    stays_on x e stays go =
        elim (own_here s code fair root input c q there state now.here v (λ z a. stays z (subst (λ (y : Standing). MovesTo (Step v) y c z) e a)) moment) [
          | inr set ↦ set_on set
          | inl here ↦ go (comes_on state now mine there here held)
        ]

    nearer : (x y : Standing) → stand_of state c ≡ x → x ≢ IsDone → ((z : ℕ) → MovesTo (Step v) x c z → ⊥)
        → (acts s code state c (Step v) x).stand ≡ slice_set state.stand c y → (BidsFor k' p → comes k' y + 1 ≤ comes k x) → Out state (mine ∷ more)
    nearer x y e alive stays stand less = stays_on x e stays (λ on_.
        let is = ap (comes k') (stands_at x y e alive stand) in
        let was = ap (comes k) e in
        let one = count in
        let fewer = less on_.bids in
        later s code fair root input ws c q there state now.here mine more (ih on_ (omega (arith, low, fewer, is, was, one))))

    -- a load
    loads : (x y : Standing) → stand_of state c ≡ x → x ≢ IsDone → ((z : ℕ) → MovesTo (Step v) x c z → ⊥)
        → (acts s code state c (Step v) x).words ≡ state.words → (acts s code state c (Step v) x).stand ≡ slice_set state.stand c y
        → comes k y + 1 ≤ comes k x → Out state (mine ∷ more)
    loads x y e alive stays same stand less =
        let kind = ap (λ (l : List ℕ). comes (spots.kinds s l q) y) (words_at x e ∙ same) in
        nearer x y e alive stays stand (λ bids. omega (arith, less, kind))

    Bids_k : Bids k
    Bids_k = elim (bidder_or k) [ inl take ↦ inl take | inr (inl take2) ↦ inr take2 | inr (inr none) ↦ absurd (none p now.bids) ]

    abbrev sight : Spot → Word
    sight = spots.view s state.words

    abbrev M : Spot → Word
    M = spots.with_restarts sight (spots.kinds s state.words) (spots.bottoms s state.words)

    module _ (seat : Seat) (row : Row) (e : stand_of state c ≡ IsWithin seat row) where
      sees : Sees s sight (spots.kinds s state.words) (spots.bottoms s state.words) c (IsWithin seat row)
      sees = sees_at s code fair root input state now.here.moment c (IsWithin seat row) e

      place : q ≡ seat.place
      place = own_place s code fair root input c q there state now.here seat.place sees.0.carried

      kind : seat.restart.kind ≡ k
      kind = sym (ap (spots.kinds s state.words) place ∙ sees.0.at.kind)

      fits : AreWordsOf s state.words
      fits = now.here.moment.advancing.run.halves.lawful.0

      -- the message is a bid of its own processor
      abbrev message : AHold
      message = record { tag = (names_held (sight (Holder p)) c now.names).0; processor = c }

      bid_is : sight (Bid seat.place) ≡ Held message.tag c
      bid_is = ap (λ (z : ℕ). sight (Bid z)) (sym place) ∙ now.stands ∙ (names_held (sight (Holder p)) c now.names).1

      loaded : content_of AsHolder (read s state.words (MessageWord seat.place)) ≡ AHolder message
      loaded =
          sym (shows_content s state.words (Bid seat.place) (lt-ltb seat.place s.processors sees.0.carried.place)) ∙ ap content_by bid_is

      own_message : message.processor ≡ seat.own
      own_message = sym sees.0.own

      -- it gives its place this restart
      kind_now : (re : Restart) → restart_is_there s re ≡ true
          → (acts s code state c (Step v) (IsWithin seat row)).words ≡ store s state.words (RestartWord seat.place) (restart_word re) → k' ≡ re.kind
      kind_now re here stored =
          ap (λ (l : List ℕ). spots.kinds s l q) (words_at (IsWithin seat row) e ∙ stored)
          ∙ ap (spots.kinds s (store s state.words (RestartWord seat.place) (restart_word re))) place
          ∙ ap (λ (z : Restart). z.kind) (restart_here s state.words seat.place re fits sees.0.carried.place (restart_fits s (few_words s) re here))

    abbrev Less : Seat → RowPoint → Type 0
    Less seat point =
        comes k (stands s code seat (found_at s seat v point (content_of (reading_at point) (read s state.words (cell_at seat v point))))) + 1
        ≤ comes k (IsWithin seat (Now (Load point)))

    -- a row of Take
    take_step : (seat : Seat) (row : Row) (e : stand_of state c ≡ IsWithin seat row) (w d : ℕ) → TakeSo seat w d row → Out state (mine ∷ more)
    take_step seat (Now (Load point)) e w d so =
        let less : Less seat (BidMessage w d) =
        subst (λ (z : Content). comes k (stands s code seat (on_holder z (makes_bid seat w d))) + 1 ≤ 7) (sym (loaded seat (Now (Load point)) e))
        (let few = made_way s code k seat w d (message seat (Now (Load point)) e) (own_message seat (Now (Load point)) e) in omega (arith, few)) in
        loads (IsWithin seat (Now (Load point))) _ e (λ z. cc) (λ z a. a) refl refl (subst (Less seat) (sym so) less)
    take_step seat (Exchange cell old new nx) e w d so =
        nearer (IsWithin seat (Exchange cell old new nx)) _ e (λ z. cc) (λ z a. a) refl
        (λ bids. let few = traded_way s code k' seat w nx so in omega (arith, few))
    take_step seat (Now (Install re)) e w d so =
        let is = kind_now seat (Now (Install re)) e re (sees seat (Now (Install re)) e).2 refl in
        nearer (IsWithin seat (Now (Install re))) _ e (λ z. cc) (λ z a. a) refl
        (λ bids. elim so [
          | inl take2 ↦ let three = ap way (is ∙ take2) in omega (arith, three)
          | inr seek ↦ absurd (subst (λ (z : RestartKind). BidsFor z p) (is ∙ seek) bids)
        ])
    take_step seat (Now Broken) e w d so = absurd (true≢false (sym (sees seat (Now Broken) e).2))
    take_step seat _ e w d so = absurd so

    -- it arrives
    arrives : (seat : Seat) (r : ℕ) → stand_of state c ≡ IsWithin seat (Now (Move r)) → r ≡ p → Out state (mine ∷ more)
    arrives seat r e to =
        let x = IsWithin seat (Now (Move r)) in
        let seen = sees seat (Now (Move r)) e in
        let shown = lt-ltb seat.own s.processors (subst (λ (z : ℕ). z < s.processors) (sym seen.0.own) there) in
        let words : then_.words ≡ store s state.words (CarryWord seat.own) r = words_at x e in
        let carried : spots.view s then_.words (Carry c) ≡ Number p =
        ap (λ (z : ℕ). spots.view s then_.words (Carry z)) (sym seen.0.own) ∙ ap (λ (l : List ℕ). spots.view s l (Carry seat.own)) words
        ∙ view_here s state.words (Carry seat.own) r (fits seat (Now (Move r)) e) shown ∙ ap Number to in
        let one = count in
        let last = ap (comes k) e in
        elim (goes_on s code fair root input c q there state now.here v) [
          | inr set ↦ set_on set
          | inl going ↦
              let here : IsOn s code fair root input c p then_ = record { moment = moment; going = going; carried = carried } in
              later s code fair root input ws c q there state now.here mine more
              ((subst (λ (z : RunState). AreMoments s code fair root input z more → IsOn s code fair root input c p z
              → IsAtWork (spots.view s z.words) p (spots.kinds s z.words p) → Outcome s code fair root input ws c p there z more) (sym behind)
              (λ are_ here_ work. works_from_place s code fair root input ws c p there (first ++ mine ∷ []) more are_ here_ work among steps
              (omega (arith, low, one, last)))) are here (work_kept state now mine there))
        ]

    -- a row of Take2
    take2_step : (seat : Seat) (row : Row) (e : stand_of state c ≡ IsWithin seat row) (w : ℕ) → k ≡ Take2 w → Take2So seat M w row → Out state (mine ∷ more)
    take2_step seat (Now (Load point)) e w is (inl so) =
        let less : Less seat (BidAgain w) =
        subst (λ (z : Content). comes k (stands s code seat (on_holder z (bid_again seat w))) + 1 ≤ 3) (sym (loaded seat (Now (Load point)) e))
        (let few = again_way s code k seat w (message seat (Now (Load point)) e) (own_message seat (Now (Load point)) e) in omega (arith, few)) in
        loads (IsWithin seat (Now (Load point))) _ e (λ z. cc) (λ z a. a) refl refl (subst (Less seat) (sym so) less)
    take2_step seat (Now (Load point)) e w is (inr so) =
        let goal : w ≡ p = subst (λ (z : RestartKind). BidsFor z p) is now.bids in
        let shown = subst (λ (z : RowPoint). row_is_there s seat (Now (Load z)) ≡ true) so.1 (sees seat (Now (Load point)) e).2 in
        let stands_ = ap (λ (z : ℕ). sight (Holder z)) goal ∙ sym now.stands ∙ ap (λ (z : ℕ). sight (Bid z)) (place seat (Now (Load point)) e) ∙ so.2 in
        let found : content_of AsHolder (read s state.words (HolderWord w)) ≡ AHolder so.0 =
        sym (shows_content s state.words (Holder w) shown) ∙ ap content_by stands_ in
        let less : Less seat (BidHolder w so.0) =
        subst (λ (z : Content). comes k (stands s code seat (on_holder z (bid_holder seat w so.0))) + 1 ≤ 2) (sym found)
        (let few = held_way s code k seat w so.0 in omega (arith, few)) in
        loads (IsWithin seat (Now (Load point))) _ e (λ z. cc) (λ z a. a) refl refl (subst (Less seat) (sym so.1) less)
    take2_step seat (Now (Install re)) e w is so =
        let now_is = kind_now seat (Now (Install re)) e re (sees seat (Now (Install re)) e).2 refl in
        nearer (IsWithin seat (Now (Install re))) _ e (λ z. cc) (λ z a. a) refl
        (λ bids. absurd (subst (λ (z : RestartKind). BidsFor z p) (now_is ∙ so) bids))
    take2_step seat (Now (Move r)) e w is so = arrives seat r e (so ∙ subst (λ (z : RestartKind). BidsFor z p) is now.bids)
    take2_step seat (Now Broken) e w is so = absurd (true≢false (sym (sees seat (Now Broken) e).2))
    take2_step seat _ e w is so = absurd so

    kind_if : (z : ℕ) (re : Option Restart) → Sees s sight (spots.kinds s state.words) (spots.bottoms s state.words) c (IsAt z re) → KindIf re k
    kind_if z None seen = tt
    kind_if z (Some re) seen = sym (ap (spots.kinds s state.words) (own_place s code fair root input c q there state now.here z seen.0) ∙ seen.1.kind)

    own_step : (x : Standing) → stand_of state c ≡ x → Sees s sight (spots.kinds s state.words) (spots.bottoms s state.words) c x → Out state (mine ∷ more)
    own_step IsLost e seen =
        loads IsLost _ e (λ z. cc) (λ z a. a) refl refl (let few = placed_way s k (read s state.words (CarryWord c)) in omega (arith, few))
    own_step (IsPlaced z) e seen = loads (IsPlaced z) _ e (λ z. cc) (λ z a. a) refl refl (omega arith)
    own_step (IsAt z re) e seen =
        loads (IsAt z re) _ e (λ z. cc) (λ z a. a) refl refl
        (let few = finish_way s code k c z re (read s state.words FinishWord) (kind_if z re seen) Bids_k in omega (arith, few))
    own_step (IsWithin seat row) e seen = elim Bids_k [
      | inl take ↦ take_step seat row e take.0 take.1 (take_row s M seat row take.0 take.1 (kind seat row e ∙ take.2) seen.1)
      | inr take2 ↦ take2_step seat row e take2.0 take2.1 (take2_row s M seat row take2.0 (kind seat row e ∙ take2.1) seen.1)
    ]
    own_step (IsRunning seat rest) e seen =
        let at = own_place s code fair root input c q there state now.here seat.place seen.0.carried in
        let is = sym (ap (spots.kinds s state.words) at ∙ seen.0.at.kind) in
        absurd (elim Bids_k [ inl take ↦ subst IsStrand (is ∙ take.2) seen.1 | inr take2 ↦ subst IsStrand (is ∙ take2.1) seen.1 ])
    own_step (IsBroken z) e seen =
        let at = stands_at (IsBroken z) IsDone e (λ z. cc) refl in
        stays_on (IsBroken z) e (λ z a. a) (λ on_. absurd (true≢false (sym (ap is_done_at at) ∙ on_.here.going)))
    own_step IsDone e seen = absurd (true≢false (sym (ap is_done_at e) ∙ now.here.going))

  -- at each moment of turns holders carry their places
  abbrev pub AreAllHeld : RunState → List Turn → Type 0
  AreAllHeld state [] = AreHeld s state
  AreAllHeld state (turn ∷ more) = AreHeld s state × AreAllHeld (happens s code state turn) more

  first_held : (state : RunState) (more : List Turn) → AreAllHeld state more → AreHeld s state
  first_held state [] held = held
  first_held state (turn ∷ more) held = held.0

  -- the steps of c, by how many come before it is there, and then thirteen
  pub come_soon : (more first : List Turn) (state : RunState) → state ≡ reached s code ws first → AreMoments s code fair root input state more
      → AreAllHeld state more → Coming state → AllByRecursion (IsTurnAmong s.processors) more → AllByRecursion (StepsOnly c) more
      → comes (spots.kinds s state.words q) (stand_of state c) + 13 ≤ turns_of c more → Out state more
  come_soon [] first state on are held now among steps low = absurd (omega (arith, low))
  come_soon (turn ∷ more) first state on are held now among steps low =
      let ih : Rest more (happens s code state turn) =
      λ now_ low_.
      come_soon more (first ++ turn ∷ []) (happens s code state turn) (next_is s code fair root input ws c q there first turn state on) are.1 held.1 now_
      among.1 steps.1 low_ in
      elim (cases_eq turn.processor c) [
        | inr ne ↦ other_comes state now turn more among.0.processor ne (first_moment s code fair root input (happens s code state turn) more are.1)
            (first_held (happens s code state turn) more held.1) ih low
        | inl own ↦
            let act = step_is turn.act (steps.0 own) in
            (subst (λ (z : Turn). AreMoments s code fair root input (happens s code state z) more → AreAllHeld (happens s code state z) more
            → Rest more (happens s code state z)
            → comes (spots.kinds s state.words q) (stand_of state c) + 13 ≤ turns_of c (z ∷ more) → Out state (z ∷ more))
            (λ i. record { processor = sym own i; act = sym act.1 i })
            (λ are_ held_ ih_ low_. own_step state now act.0 more first on are_
            (first_held (happens s code state (record { processor = c; act = Step act.0 })) more held_) ih_
            among.1 steps.1 low_ (stand_of state c) refl (sees_at s code fair root input state now.here.moment c (stand_of state c) refl))) are.1 held.1 ih low
      ]
