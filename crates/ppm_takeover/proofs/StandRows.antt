-- A processor whose bid stands is never about to give it up: what its row installs bids for the place still.
use Rattle.std.proofs.Common.{◌≡◌, ◌≢◌, ◌⊎◌, ◌+◌, ◌==◌, ℕ, zero, suc, Bool, true, false, if◌then◌else◌, Option, Some, None, List, inl, inr, refl}
use Rattle.std.proofs.Common.{sym, ap, ◌∙◌, subst}
use Rattle.std.specs.Prelude.{nat_lt, slice_get, slice_set, ◌&&◌}
use Rattle.std.proofs.lemmas.Bool.{lt-ltb, eq-eqb, true≢false, and_from}
use Rattle.ppm_strands.specs.Tree.{Words, Tree}
use Rattle.ppm_cells.specs.Memory.{read}
use Rattle.ppm_cells.specs.declared.cell.Cell.TheVariants.{CarryWord, FinishWord}
use Rattle.ppm_cells.specs.declared.holder.Holder.{Holder as AHold}
use Rattle.ppm_cells.specs.declared.restart.Restart.{Restart}
use Rattle.ppm_cells.specs.declared.restart.RestartKind.{RestartKind}
use Rattle.ppm_cells.specs.declared.restart.RestartKind.TheVariants.{Run, Bump, Push1, Push2, Unwind, Arrive, Join, Pop1, Pop2, Seek, Steal, Check, Take, Take2}
use Rattle.ppm_cells.specs.declared.shape.Shape.{Shape}
use Rattle.ppm_cells.specs.declared.shape.Takeover.{Takeover}
use Rattle.ppm_cells.specs.declared.shape.Takeover.TheVariants.{ByPlaces, ByEntries}
use Rattle.ppm_strands.specs.Strand.{Frame}
use Rattle.ppm_code.specs.Strands.{Point, Result}
use Rattle.ppm_code.specs.declared.code.Capsule.{Capsule}
use Rattle.ppm_code.specs.declared.code.CodeParts.{CodeParts}
use Rattle.ppm_code.specs.declared.location.FrameWord.{FrameWord}
use Rattle.ppm_step.specs.Contents.{content_of}
use Rattle.ppm_step.specs.Frames.{Rest, Loads, Stores, Full, Installs, Breaks}
use Rattle.ppm_step.specs.Points.{cell_at, reading_at}
use Rattle.ppm_step.specs.Rows.{with_kind, push_at, by_places, lowered, on_holder, makes_bid, bid_again, bid_holder, found_at, row_of}
use Rattle.ppm_step.specs.Standings.{Standing, IsLost, IsPlaced, IsAt, IsWithin, IsRunning, IsBroken, IsDone, row_is_there, rest_is_there, then_is_there}
use Rattle.ppm_step.specs.Standings.{within_if, running_if, enters, stands_then, stands, begins_if, placed, at_finish, wanted_rest, went_rest}
use Rattle.ppm_step.specs.State.{State as RunState, stand_in, stand_of, found_in, acts}
use Rattle.ppm_step.specs.There.{restart_is_there}
use Rattle.ppm_step.specs.declared.content.Content.{Content}
use Rattle.ppm_step.specs.declared.content.Content.TheVariants.{ANumber, ARestart, AnEntry, AHolder, ALink, AFinish, Unreadable}
use Rattle.ppm_step.specs.declared.row.Point.{Point as RowPoint}
use Rattle.ppm_step.specs.declared.row.Point.TheVariants.{BidMessage, BidAgain, BidHolder}
use Rattle.ppm_step.specs.declared.row.Row.{Row}
use Rattle.ppm_step.specs.declared.row.Row.TheVariants.{Now, Store, Exchange}
use Rattle.ppm_step.specs.declared.row.Seat.{Seat}
use Rattle.ppm_step.specs.declared.row.Then.{Then}
use Rattle.ppm_step.specs.declared.row.Then.TheVariants.{Load, Install, Fork, Begin, Move, Enter, Again, Broken}
use Rattle.ppm_step.specs.declared.turn.Act.{Act}
use Rattle.ppm_step.specs.declared.turn.Act.TheVariants.{Step, Soft, Hard, Quit}
use Rattle.ppm_tickets.specs.Homes.{Home}
use Rattle.ppm_tickets.specs.Lawful.{Names}
use Rattle.ppm_tickets.specs.View as spots
use Rattle.ppm_tickets.specs.View.{content_by}
use Rattle.ppm_tickets.specs.Words.{Word, Empty, Local, Job, Taken, Held, Number, Linked, Restarts, Unread, Spot, Bid, Holder}
use Rattle.ppm_tickets.proofs.StepLemmas.{stand_own}
use Rattle.ppm_tickets.proofs.ViewLemmas.{shows_content}
use Rattle.ppm_frames.specs.Skeletons.{Skeleton}
use Rattle.ppm_kept.specs.Left.{Followed}
use Rattle.ppm_runs.specs.Follow.{IsHalves}
use Rattle.ppm_runs.proofs.ShownLemmas.{Within, within}
use Rattle.ppm_takeover.specs.Lost.{BidsFor}
use Rattle.ppm_takeover.proofs.BidRows.{take_row, take2_row}

-- processor o within a row
abbrev pub KeepsBid : (Spot → Word) → (o : ℕ) → Seat → Row → Type 0
KeepsBid m o seat (Now (Install re)) =
    (p : ℕ) → BidsFor seat.restart.kind p → m (Bid seat.place) ≡ m (Holder p) → Names (m (Holder p)) o → BidsFor re.kind p
KeepsBid m o seat row = Unit {0}

-- wherever it stands
abbrev pub KeepsBidAt : (Spot → Word) → (o : ℕ) → Standing → Type 0
KeepsBidAt m o (IsWithin seat row) = KeepsBid m o seat row
KeepsBidAt m o x = Unit {0}

-- a kind that bids
pub bidder_or : (k : RestartKind)
    → ((v : ℕ) × (d : ℕ) × (k ≡ Take v d)) ⊎ (((v : ℕ) × (k ≡ Take2 v)) ⊎ ((p : ℕ) → BidsFor k p → ⊥))
bidder_or (Take v d) = inl (v, d, refl)
bidder_or (Take2 v) = inr (inl (v, refl))
bidder_or (Run f y) = inr (inr (λ p a. a))
bidder_or (Bump r) = inr (inr (λ p a. a))
bidder_or (Push1 r) = inr (inr (λ p a. a))
bidder_or (Push2 r) = inr (inr (λ p a. a))
bidder_or (Unwind f) = inr (inr (λ p a. a))
bidder_or (Arrive r d) = inr (inr (λ p a. a))
bidder_or (Join r d) = inr (inr (λ p a. a))
bidder_or Pop1 = inr (inr (λ p a. a))
bidder_or (Pop2 r) = inr (inr (λ p a. a))
bidder_or Seek = inr (inr (λ p a. a))
bidder_or (Steal v i) = inr (inr (λ p a. a))
bidder_or (Check v i) = inr (inr (λ p a. a))

-- what a content says of a holder
abbrev holder_in : Content → AHold
holder_in (AHolder h) = h
holder_in _ = record { tag = 0; processor = 0 }

pub names_content : (w : Word) (h : AHold) (o : ℕ) → content_by w ≡ AHolder h → Names w o → h.processor ≡ o
names_content (Held t c) h o e names = ap (λ (x : Content). (holder_in x).processor) (sym e) ∙ names
names_content (Empty t) h o e names = absurd names
names_content (Local t x) h o e names = absurd names
names_content (Job t x) h o e names = absurd names
names_content (Taken t x) h o e names = absurd names
names_content (Number x) h o e names = absurd names
names_content (Linked x) h o e names = absurd names
names_content (Restarts x y) h o e names = absurd names
names_content Unread h o e names = absurd names

module _ (s : Shape) (code : CodeParts) (m : Spot → Word) (o : ℕ) where
  within_keeps : (seat : Seat) (row : Row) (y : Bool) → KeepsBid m o seat row → KeepsBidAt m o (within_if seat row y)
  within_keeps seat row true keeps = keeps
  within_keeps seat row false keeps = tt

  runs_keeps : (seat : Seat) (rest : Rest) (y : Bool) → KeepsBidAt m o (running_if seat rest y)
  runs_keeps seat rest true = tt
  runs_keeps seat rest false = tt

  enters_keeps : (seat : Seat) (k : RestartKind) (capsule : Option Capsule) → KeepsBidAt m o (enters s code seat k capsule)
  enters_keeps seat (Run f y) (Some capsule) = runs_keeps seat _ _
  enters_keeps seat (Run f y) None = tt
  enters_keeps seat (Bump r) capsule = tt
  enters_keeps seat (Push1 r) capsule = tt
  enters_keeps seat (Push2 r) capsule = tt
  enters_keeps seat (Unwind f) capsule = tt
  enters_keeps seat (Arrive r d) capsule = tt
  enters_keeps seat (Join r d) capsule = tt
  enters_keeps seat Pop1 capsule = tt
  enters_keeps seat (Pop2 r) capsule = tt
  enters_keeps seat Seek capsule = tt
  enters_keeps seat (Steal v i) capsule = tt
  enters_keeps seat (Check v i) capsule = tt
  enters_keeps seat (Take v d) capsule = tt
  enters_keeps seat (Take2 v) capsule = tt

  then_keeps : (seat : Seat) (next : Then) → KeepsBid m o seat (Now next) → KeepsBidAt m o (stands_then s code seat next)
  then_keeps seat (Enter capsule) keeps = enters_keeps seat seat.restart.kind (slice_get code.capsules capsule)
  then_keeps seat Again keeps = tt
  then_keeps seat (Load point) keeps = within_keeps seat (Now (Load point)) (then_is_there s seat (Load point)) tt
  then_keeps seat (Install re) keeps = within_keeps seat (Now (Install re)) (then_is_there s seat (Install re)) keeps
  then_keeps seat (Fork r) keeps = within_keeps seat (Now (Fork r)) (then_is_there s seat (Fork r)) tt
  then_keeps seat (Begin r f b) keeps = within_keeps seat (Now (Begin r f b)) (then_is_there s seat (Begin r f b)) tt
  then_keeps seat (Move p) keeps = within_keeps seat (Now (Move p)) (then_is_there s seat (Move p)) tt
  then_keeps seat Broken keeps = within_keeps seat (Now Broken) (then_is_there s seat Broken) tt

  stands_keeps : (seat : Seat) (row : Row) → KeepsBid m o seat row → KeepsBidAt m o (stands s code seat row)
  stands_keeps seat (Now next) keeps = then_keeps seat next keeps
  stands_keeps seat (Store cell x next) keeps = within_keeps seat (Store cell x next) (row_is_there s seat (Store cell x next)) tt
  stands_keeps seat (Exchange cell old new next) keeps =
      within_keeps seat (Exchange cell old new next) (row_is_there s seat (Exchange cell old new next)) tt

  -- rows of other kinds
  other_keeps : (seat : Seat) → ((p : ℕ) → BidsFor seat.restart.kind p → ⊥) → (row : Row) → KeepsBid m o seat row
  other_keeps seat none (Now (Install re)) = λ p bids stands names. absurd (none p bids)
  other_keeps seat none (Now (Load point)) = tt
  other_keeps seat none (Now (Fork r)) = tt
  other_keeps seat none (Now (Begin r f b)) = tt
  other_keeps seat none (Now (Move p)) = tt
  other_keeps seat none (Now (Enter capsule)) = tt
  other_keeps seat none (Now Again) = tt
  other_keeps seat none (Now Broken) = tt
  other_keeps seat none (Store cell x next) = tt
  other_keeps seat none (Exchange cell old new next) = tt

  -- a row that begins
  pushes_keeps : (seat : Seat) (how : Takeover) (r : ℕ) (last : Bool) → KeepsBid m o seat (push_at seat how r last)
  pushes_keeps seat how r true = tt
  pushes_keeps seat ByPlaces r false = tt
  pushes_keeps seat ByEntries r false = tt

  bids_keep : (seat : Seat) (how : Takeover) (point : RowPoint) → KeepsBid m o seat (by_places how (Now (Load point)))
  bids_keep seat ByPlaces point = tt
  bids_keep seat ByEntries point = tt

  begins_keep : (seat : Seat) (k : RestartKind) → KeepsBid m o seat (row_of s seat k)
  begins_keep seat (Run f y) = tt
  begins_keep seat (Bump r) = tt
  begins_keep seat (Push1 r) = pushes_keeps seat s.takeover r (seat.restart.bottom + 1 == s.slots)
  begins_keep seat (Push2 r) = tt
  begins_keep seat (Unwind f) = tt
  begins_keep seat (Arrive r d) = tt
  begins_keep seat (Join r d) = tt
  begins_keep seat Pop1 = tt
  begins_keep seat (Pop2 r) = tt
  begins_keep seat Seek = tt
  begins_keep seat (Steal v i) = tt
  begins_keep seat (Check v i) = tt
  begins_keep seat (Take v d) = bids_keep seat s.takeover (BidMessage v d)
  begins_keep seat (Take2 v) = bids_keep seat s.takeover (BidAgain v)

  finish_keeps : (own p : ℕ) (re : Option Restart) (found : ℕ) → KeepsBidAt m o (at_finish s code own p re found)
  finish_keeps own p re (suc found) = tt
  finish_keeps own p None zero = tt
  finish_keeps own p (Some re) zero = by (restart_is_there s re)
    where
      by : (y : Bool) → KeepsBidAt m o (begins_if s code (record { own = own; place = p; restart = re }) y)
      by true = stands_keeps (record { own = own; place = p; restart = re }) _ (begins_keep (record { own = own; place = p; restart = re }) re.kind)
      by false = tt

  placed_keeps : (found : ℕ) → KeepsBidAt m o (placed s found)
  placed_keeps found = by (nat_lt found s.processors)
    where
      by : (y : Bool) → KeepsBidAt m o (if y then IsPlaced found else IsBroken 64)
      by true = tt
      by false = tt

  rest_keeps : (seat : Seat) (found : ℕ) (rest : Rest) → KeepsBidAt m o (went_rest s seat found rest)
  rest_keeps seat found (Loads cell go) = runs_keeps seat (go found) (rest_is_there s seat (go found))
  rest_keeps seat found (Stores cell x rest) = runs_keeps seat rest (rest_is_there s seat rest)
  rest_keeps seat found Full = tt
  rest_keeps seat found (Installs kind) = tt
  rest_keeps seat found Breaks = tt

  -- the loads of Take and Take2
  module _ (seat : Seat) (own : seat.own ≡ o) where
    -- a message of another processor is no bid that stands
    not_own : (message : AHold) → content_by (m (Bid seat.place)) ≡ AHolder message → (message.processor == seat.own) ≡ false
        → KeepsBid m o seat (Now (with_kind seat Seek))
    not_own message is other p bids stands names =
        let same = names_content (m (Bid seat.place)) message o is (subst (λ (w : Word). Names w o) (sym stands) names) in
        absurd (true≢false (sym (eq-eqb message.processor seat.own (same ∙ sym own)) ∙ other))

    makes_keeps : (v d : ℕ) (w : Content) → content_by (m (Bid seat.place)) ≡ w → KeepsBid m o seat (on_holder w (makes_bid seat v d))
    makes_keeps v d (AHolder message) is = by (message.processor == seat.own) refl
      where
        low : (t : ℕ) → KeepsBid m o seat (lowered t seat v d message)
        low zero = tt
        low (suc t) = tt

        by : (y : Bool) → (message.processor == seat.own) ≡ y
            → KeepsBid m o seat (if y then lowered message.tag seat v d message else Now (with_kind seat Seek))
        by true e = low message.tag
        by false e = not_own message is e
    makes_keeps v d (ANumber x) is = tt
    makes_keeps v d (ARestart x) is = tt
    makes_keeps v d (AnEntry x) is = tt
    makes_keeps v d (ALink x) is = tt
    makes_keeps v d (AFinish x) is = tt
    makes_keeps v d Unreadable is = tt

    again_keeps : (v : ℕ) (w : Content) → content_by (m (Bid seat.place)) ≡ w → KeepsBid m o seat (on_holder w (bid_again seat v))
    again_keeps v (AHolder message) is = by (message.processor == seat.own) refl
      where
        by : (y : Bool) → (message.processor == seat.own) ≡ y
            → KeepsBid m o seat (if y then Now (Load (BidHolder v message)) else Now (with_kind seat Seek))
        by true e = tt
        by false e = not_own message is e
    again_keeps v (ANumber x) is = tt
    again_keeps v (ARestart x) is = tt
    again_keeps v (AnEntry x) is = tt
    again_keeps v (ALink x) is = tt
    again_keeps v (AFinish x) is = tt
    again_keeps v Unreadable is = tt

    holder_keeps : (v : ℕ) (message : AHold) (w : Content) → seat.restart.kind ≡ Take2 v → m (Bid seat.place) ≡ Held message.tag message.processor
        → content_by (m (Holder v)) ≡ w → KeepsBid m o seat (on_holder w (bid_holder seat v message))
    holder_keeps v message (AHolder now) kind told is = by ((message.tag == now.tag) && (message.processor == now.processor)) refl
      where
        by : (y : Bool) → ((message.tag == now.tag) && (message.processor == now.processor)) ≡ y
            → KeepsBid m o seat (if y then Now (Move v) else Now (with_kind seat Seek))
        by true e = tt
        by false e = λ p bids stands names.
            let place : v ≡ p = subst (λ (k : RestartKind). BidsFor k p) kind bids in
            let same : AHolder message ≡ AHolder now = ap content_by (sym told ∙ stands ∙ ap (λ (q : ℕ). m (Holder q)) (sym place)) ∙ is in
            let tags = eq-eqb message.tag now.tag (ap (λ (x : Content). (holder_in x).tag) same) in
            let one = eq-eqb message.processor now.processor (ap (λ (x : Content). (holder_in x).processor) same) in
            absurd (true≢false (sym (and_from (message.tag == now.tag) (message.processor == now.processor) tags one) ∙ e))
    holder_keeps v message (ANumber x) kind told is = tt
    holder_keeps v message (ARestart x) kind told is = tt
    holder_keeps v message (AnEntry x) kind told is = tt
    holder_keeps v message (ALink x) kind told is = tt
    holder_keeps v message (AFinish x) kind told is = tt
    holder_keeps v message Unreadable kind told is = tt

-- after a turn of its own
module _ (s : Shape) (code : CodeParts) (root : Tree (Frame FrameWord Point) Result) (input : Words) (state : RunState)
    (h : ℕ → Home) (forked taken : List ℕ) (l : List Followed) (t : Skeleton) (run : IsHalves s code root input state h forked taken l t)
    (c : ℕ) where
  abbrev m : Spot → Word
  m = spots.view s state.words

  abbrev M : Spot → Word
  M = spots.with_restarts m (spots.kinds s state.words) (spots.bottoms s state.words)

  at : (seat : Seat) (row : Row) → stand_of state c ≡ IsWithin seat row → Within s code root input state h forked taken l t run c seat row
  at seat row e = within s code root input state h forked taken l t run c seat row e

  module _ (v : ℕ) (seat : Seat) (point : RowPoint) (e : stand_of state c ≡ IsWithin seat (Now (Load point))) where
    w : Within s code root input state h forked taken l t run c seat (Now (Load point))
    w = at seat (Now (Load point)) e

    abbrev Found : RowPoint → Type 0
    Found q = KeepsBid m c seat (found_at s seat v q (content_of (reading_at q) (read s state.words (cell_at seat v q))))

    message_is : content_by (m (Bid seat.place)) ≡ content_of (reading_at (BidAgain v)) (read s state.words (cell_at seat v (BidAgain v)))
    message_is = shows_content s state.words (Bid seat.place) (lt-ltb seat.place s.processors w.place)

    found_keeps : Found point
    found_keeps = elim (bidder_or seat.restart.kind) [
      | inl take ↦
          let is : point ≡ BidMessage take.0 take.1 = take_row s M seat (Now (Load point)) take.0 take.1 take.2 w.seen in
          subst Found (sym is) (makes_keeps s code m c seat w.sits.own take.0 take.1 _ message_is)
      | inr (inl take2) ↦ elim (take2_row s M seat (Now (Load point)) take2.0 take2.1 w.seen) [
        | inl is ↦ subst Found (sym is) (again_keeps s code m c seat w.sits.own take2.0 _ message_is)
        | inr is ↦
            let here = subst (λ (q : RowPoint). row_is_there s seat (Now (Load q)) ≡ true) is.1 w.here in
            subst Found (sym is.1)
            (holder_keeps s code m c seat w.sits.own take2.0 is.0 _ take2.1 is.2 (shows_content s state.words (Holder take2.0) here))
      ]
      | inr (inr none) ↦ other_keeps s code m c seat none _
    ]

  -- an exchange of Take leads to Take2, and one of another kind of row bids for nothing
  exchanged_keeps : (n : Spot → Word) (seat : Seat) (cell : _) (old new : Content) (next : Then) → stand_of state c ≡ IsWithin seat (Exchange cell old new next)
      → KeepsBid n c seat (Now next)
  exchanged_keeps n seat cell old new next e =
      let w = at seat (Exchange cell old new next) e in
      elim (bidder_or seat.restart.kind) [
        | inl take ↦
            let is : next ≡ with_kind seat (Take2 take.0) = take_row s M seat (Exchange cell old new next) take.0 take.1 take.2 w.seen in
            subst (λ (x : Then). KeepsBid n c seat (Now x)) (sym is) (λ p bids stands names. subst (λ (k : RestartKind). BidsFor k p) take.2 bids)
        | inr (inl take2) ↦ absurd (take2_row s M seat (Exchange cell old new next) take2.0 take2.1 w.seen)
        | inr (inr none) ↦ other_keeps s code n c seat none (Now next)
      ]

  -- these rows store nothing
  pub stores_no_bid : (seat : Seat) (cell : _) (x : Content) (next : Then) → stand_of state c ≡ IsWithin seat (Store cell x next)
      → (p : ℕ) → BidsFor seat.restart.kind p → ⊥
  stores_no_bid seat cell x next e p bids =
      let w = at seat (Store cell x next) e in
      elim (bidder_or seat.restart.kind) [
        | inl take ↦ take_row s M seat (Store cell x next) take.0 take.1 take.2 w.seen
        | inr (inl take2) ↦ take2_row s M seat (Store cell x next) take2.0 take2.1 w.seen
        | inr (inr none) ↦ none p bids
      ]

  -- the words after its act, and where it lands
  abbrev N : Act → Standing → Spot → Word
  N act x = spots.view s (acts s code state c act x).words

  lands : (act : Act) (x y : Standing) → stand_of state c ≡ x → x ≢ IsDone → KeepsBidAt (N act x) c y
      → KeepsBidAt (N act x) c (stand_in (slice_get (slice_set state.stand c y) c))
  lands act x y e live keeps = subst (KeepsBidAt (N act x) c) (sym (stand_own state.stand c y (λ z. live (sym e ∙ z)))) keeps

  abbrev After : Act → Standing → Type 0
  After act x = KeepsBidAt (N act x) c (stand_of (acts s code state c act x) c)

  row_after : (v : ℕ) (seat : Seat) (row : Row) → stand_of state c ≡ IsWithin seat row → After (Step v) (IsWithin seat row)
  row_after v seat (Now (Load point)) e =
      lands (Step v) (IsWithin seat (Now (Load point))) _ e (λ z. cc) (stands_keeps s code m c seat _ (found_keeps v seat point e))
  row_after v seat (Now (Install re)) e = lands (Step v) (IsWithin seat (Now (Install re))) _ e (λ z. cc) tt
  row_after v seat (Now (Fork r)) e = lands (Step v) (IsWithin seat (Now (Fork r))) _ e (λ z. cc) tt
  row_after v seat (Now (Begin r f b)) e = lands (Step v) (IsWithin seat (Now (Begin r f b))) _ e (λ z. cc) tt
  row_after v seat (Now (Move p)) e = lands (Step v) (IsWithin seat (Now (Move p))) _ e (λ z. cc) tt
  row_after v seat (Now (Enter x)) e = lands (Step v) (IsWithin seat (Now (Enter x))) _ e (λ z. cc) (then_keeps s code m c seat (Enter x) tt)
  row_after v seat (Now Again) e = lands (Step v) (IsWithin seat (Now Again)) _ e (λ z. cc) tt
  row_after v seat (Now Broken) e = lands (Step v) (IsWithin seat (Now Broken)) _ e (λ z. cc) (then_keeps s code m c seat Broken tt)
  row_after v seat (Store cell x next) e =
      let n = N (Step v) (IsWithin seat (Store cell x next)) in
      lands (Step v) (IsWithin seat (Store cell x next)) _ e (λ z. cc)
      (then_keeps s code n c seat next (other_keeps s code n c seat (stores_no_bid seat cell x next e) (Now next)))
  row_after v seat (Exchange cell old new next) e =
      let n = N (Step v) (IsWithin seat (Exchange cell old new next)) in
      lands (Step v) (IsWithin seat (Exchange cell old new next)) _ e (λ z. cc)
      (then_keeps s code n c seat next (exchanged_keeps n seat cell old new next e))

  done_after : (act : Act) → stand_of state c ≡ IsDone → After act IsDone
  done_after act e = subst (KeepsBidAt m c) (sym e) tt

  pub keeps_after : (act : Act) (x : Standing) → stand_of state c ≡ x → After act x
  keeps_after (Step v) IsLost e = lands (Step v) IsLost _ e (λ z. cc) (placed_keeps s code m c (read s state.words (CarryWord c)))
  keeps_after (Step v) (IsPlaced p) e = lands (Step v) (IsPlaced p) _ e (λ z. cc) tt
  keeps_after (Step v) (IsAt p re) e = lands (Step v) (IsAt p re) _ e (λ z. cc) (finish_keeps s code m c c p re (read s state.words FinishWord))
  keeps_after (Step v) (IsWithin seat row) e = row_after v seat row e
  keeps_after (Step v) (IsRunning seat rest) e =
      lands (Step v) (IsRunning seat rest) _ e (λ z. cc)
      (rest_keeps s code (N (Step v) (IsRunning seat rest)) c seat (found_in state.words (wanted_rest s seat rest)) rest)
  keeps_after (Step v) (IsBroken p) e = lands (Step v) (IsBroken p) _ e (λ z. cc) tt
  keeps_after act IsDone e = done_after act e
  keeps_after Soft IsLost e = lands Soft IsLost _ e (λ z. cc) tt
  keeps_after Soft (IsPlaced p) e = lands Soft (IsPlaced p) _ e (λ z. cc) tt
  keeps_after Soft (IsAt p re) e = lands Soft (IsAt p re) _ e (λ z. cc) tt
  keeps_after Soft (IsWithin seat row) e = lands Soft (IsWithin seat row) _ e (λ z. cc) tt
  keeps_after Soft (IsRunning seat rest) e = lands Soft (IsRunning seat rest) _ e (λ z. cc) tt
  keeps_after Soft (IsBroken p) e = lands Soft (IsBroken p) _ e (λ z. cc) tt
  keeps_after Hard IsLost e = lands Hard IsLost _ e (λ z. cc) tt
  keeps_after Hard (IsPlaced p) e = lands Hard (IsPlaced p) _ e (λ z. cc) tt
  keeps_after Hard (IsAt p re) e = lands Hard (IsAt p re) _ e (λ z. cc) tt
  keeps_after Hard (IsWithin seat row) e = lands Hard (IsWithin seat row) _ e (λ z. cc) tt
  keeps_after Hard (IsRunning seat rest) e = lands Hard (IsRunning seat rest) _ e (λ z. cc) tt
  keeps_after Hard (IsBroken p) e = lands Hard (IsBroken p) _ e (λ z. cc) tt
  keeps_after (Quit why) IsLost e = lands (Quit why) IsLost _ e (λ z. cc) tt
  keeps_after (Quit why) (IsPlaced p) e = lands (Quit why) (IsPlaced p) _ e (λ z. cc) tt
  keeps_after (Quit why) (IsAt p re) e = lands (Quit why) (IsAt p re) _ e (λ z. cc) tt
  keeps_after (Quit why) (IsWithin seat row) e = lands (Quit why) (IsWithin seat row) _ e (λ z. cc) tt
  keeps_after (Quit why) (IsRunning seat rest) e = lands (Quit why) (IsRunning seat rest) _ e (λ z. cc) tt
  keeps_after (Quit why) (IsBroken p) e = lands (Quit why) (IsBroken p) _ e (λ z. cc) tt
