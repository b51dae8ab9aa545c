-- Each turn leaves it so that a place whose holder lives is carried by it, or the holder has taken it over and has still to go there, or has left it.
use Rattle.std.proofs.Common.{◌≡◌, ◌≢◌, ◌⊎◌, ◌<◌, ℕ, List, inl, inr, refl, sym, ap, ◌∙◌, subst}
use Rattle.std.proofs.lemmas.Bool.{cases_eq}
use Rattle.ppm_strands.specs.Tree.{Words, Tree}
use Rattle.ppm_cells.specs.declared.cell.Cell.TheVariants.{HolderWord}
use Rattle.ppm_cells.specs.declared.restart.Restart.{Restart}
use Rattle.ppm_cells.specs.declared.restart.RestartKind.{RestartKind}
use Rattle.ppm_cells.specs.declared.restart.RestartKind.TheVariants.{Run, Bump, Unwind, Arrive, Join, Take2}
use Rattle.ppm_cells.specs.declared.shape.Shape.{Shape}
use Rattle.ppm_cells.specs.declared.shape.Takeover.TheVariants.{ByPlaces}
use Rattle.ppm_strands.specs.Strand.{Frame}
use Rattle.ppm_code.specs.Strands.{Point, Result}
use Rattle.ppm_code.specs.declared.code.CodeParts.{CodeParts}
use Rattle.ppm_code.specs.declared.location.FrameWord.{FrameWord}
use Rattle.ppm_step.specs.Frames.{Installs}
use Rattle.ppm_step.specs.Standings.{Standing, IsLost, IsPlaced, IsAt, IsWithin, IsRunning, IsBroken, IsDone}
use Rattle.ppm_step.specs.State.{State as RunState, stand_of, happens}
use Rattle.ppm_step.specs.declared.row.Row.{Row}
use Rattle.ppm_step.specs.declared.row.Row.TheVariants.{Now, Store, Exchange}
use Rattle.ppm_step.specs.declared.row.Seat.{Seat}
use Rattle.ppm_step.specs.declared.row.Then.TheVariants.{Load, Install, Fork, Begin, Move, Enter, Again, Broken}
use Rattle.ppm_step.specs.declared.turn.Act.{Act}
use Rattle.ppm_step.specs.declared.turn.Act.TheVariants.{Step}
use Rattle.ppm_step.specs.declared.turn.Turn.{Turn}
use Rattle.ppm_tickets.specs.Homes.{Home}
use Rattle.ppm_tickets.specs.Lawful.{IsAlive, Names}
use Rattle.ppm_tickets.specs.Saw.{Carried, IsStrand, Sees}
use Rattle.ppm_tickets.specs.View as spots
use Rattle.ppm_tickets.specs.Words.{Word, Number, Spot, Bid, Holder, Carry}
use Rattle.ppm_frames.specs.Skeletons.{Skeleton}
use Rattle.ppm_kept.specs.Running.{IsFair}
use Rattle.ppm_kept.specs.Fates.{Agrees}
use Rattle.ppm_kept.specs.Left.{Followed}
use Rattle.ppm_runs.specs.Run.{fate_of}
use Rattle.ppm_runs.specs.Follow.{IsHalves}
use Rattle.ppm_runs.proofs.JoinLemmas.{stand_else}
use Rattle.ppm_runs.proofs.ShownLemmas.{names_one, Within, within}
use Rattle.ppm_progress.proofs.RestartLemmas.{restart_goes_on}
use Rattle.ppm_progress.proofs.WriteLemmas.{Gives, MovesTo, StoresAt, Wrote, turn_wrote}
use Rattle.ppm_takeover.specs.Lost.{BidsFor, IsBidder, TookOver, AreCarried}
use Rattle.ppm_takeover.proofs.BidRows.{TakeSo, Take2So, take_row, take2_row}
use Rattle.ppm_takeover.proofs.MoveRows.{moves_after_bid}
use Rattle.ppm_progress.proofs.SpotLemmas.{Made, alive_was, carry_goes, bid_goes, holder_goes}
use Rattle.ppm_takeover.proofs.StandRows.{KeepsBidAt, bidder_or, stores_no_bid, keeps_after}

-- what holders carry, with the field of rows under way
pub record AreHeld (s : Shape) (state : RunState) : Type 0 where
  pub carried : AreCarried (spots.view s state.words) (spots.kinds s state.words)
  pub rows : (o : ℕ) → KeepsBidAt (spots.view s state.words) o (stand_of state o)

abbrev number_of : Word → ℕ
number_of (Number n) = n
number_of _ = 0

-- a strand's kind bids for nothing
strand_bids_not : (k : RestartKind) (v : ℕ) → IsStrand k → BidsFor k v → ⊥
strand_bids_not (Run f y) v is bids = bids
strand_bids_not (Bump r) v is bids = bids
strand_bids_not (Unwind f) v is bids = bids
strand_bids_not (Arrive r d) v is bids = bids
strand_bids_not (Join r d) v is bids = bids
strand_bids_not _ v is bids = is

module _ (s : Shape) (code : CodeParts) (places : s.takeover ≡ ByPlaces) (fair : IsFair code) (root : Tree (Frame FrameWord Point) Result) (input : Words)
    (state : RunState) (h : ℕ → Home) (forked taken : List ℕ) (l : List Followed) (t : Skeleton)
    (run : IsHalves s code root input state h forked taken l t) (agrees : Agrees t (λ r. fate_of (h r)))
    (turn : Turn) (there : turn.processor < s.processors) (was : AreHeld s state) where
  abbrev c : ℕ
  c = turn.processor

  abbrev x : Standing
  x = stand_of state c

  abbrev ws : List ℕ
  ws = state.words

  abbrev now : List ℕ
  now = (happens s code state turn).words

  abbrev m : Spot → Word
  m = spots.view s ws

  abbrev n : Spot → Word
  n = spots.view s now

  abbrev K : ℕ → RestartKind
  K = spots.kinds s ws

  abbrev K' : ℕ → RestartKind
  K' = spots.kinds s now

  wrote : Wrote s code ws turn.act x now
  wrote = turn_wrote s code fair root input state h forked taken l t run agrees turn there

  -- two that live carry no place together
  one_carries : (p d e : ℕ) → IsAlive m d → m (Carry d) ≡ Number p → IsAlive m e → m (Carry e) ≡ Number p → d ≡ e
  one_carries p d e live_d at_d live_e at_e =
      let held = run.lawful.1.holding.held in names_one (m (Holder p)) d e (held d p live_d at_d) (held e p live_e at_e)

  -- the holder of a place that is carried carries it
  holder_carries : (p d e : ℕ) → IsAlive m d → m (Carry d) ≡ Number p → Names (m (Holder p)) e → e ≡ d
  holder_carries p d e live at names = names_one (m (Holder p)) e d names (run.lawful.1.holding.held d p live at)

  -- who stands within a row or a capsule carries its place
  sits_at : (o : ℕ) (seat : Seat) (row : Row) → stand_of state o ≡ IsWithin seat row → Carried s m o seat.place
  sits_at o seat row e = (subst (Sees s m K (spots.bottoms s ws) o) e (run.lawful.1.sees o)).0.carried

  stored_at : (o p : ℕ) (y : Standing) → stand_of state o ≡ y → StoresAt y p → Carried s m o p
  stored_at o p (IsWithin seat (Store cell w next)) e at = subst (Carried s m o) at (sits_at o seat (Store cell w next) e)
  stored_at o p _ e at = absurd at

  -- a place of a kind that bids is stored to by none
  no_store : (p v : ℕ) (y : Standing) → x ≡ y → StoresAt y p → BidsFor (K p) v → ⊥
  no_store p v (IsWithin seat (Store cell w next)) e at bids =
      let is = (within s code root input state h forked taken l t run c seat (Store cell w next) e).sits.at.kind in
      stores_no_bid s code root input state h forked taken l t run c seat cell w next e v
      (subst (λ (k : RestartKind). BidsFor k v) is (subst (λ (q : ℕ). BidsFor (K q) v) (sym at) bids))
  no_store p v _ e at bids = absurd at

  bid_kept : (p v : ℕ) → BidsFor (K p) v → n (Bid p) ≡ m (Bid p)
  bid_kept p v bids = elim (bid_goes s code ws run.lawful.0 turn.act x now wrote p) [
    | inl same ↦ same
    | inr at ↦ absurd (no_store p v x refl at bids)
  ]

  -- what a place of this restart is given by its processor, which stays there: it bids still where its bid stands
  abbrev Given : Act → Standing → (p : ℕ) → Restart → Type 0
  Given act y p re = Carried s m c p × ((q : ℕ) → MovesTo act y c q → ⊥)
      × ((v : ℕ) → BidsFor (K p) v → m (Bid p) ≡ m (Holder v) → Names (m (Holder v)) c → BidsFor re.kind v)

  module _ (seat : Seat) (row : Row) (e : x ≡ IsWithin seat row) where
    w : Within s code root input state h forked taken l t run c seat row
    w = within s code root input state h forked taken l t run c seat row e

    seat_bids : (v : ℕ) → BidsFor (K seat.place) v → BidsFor seat.restart.kind v
    seat_bids v bids = subst (λ (k : RestartKind). BidsFor k v) w.sits.at.kind bids

    -- a row of a kind that bids
    abbrev M : Spot → Word
    M = spots.with_restarts m K (spots.bottoms s ws)

    bidding : (v : ℕ) → BidsFor (K seat.place) v → ((u : ℕ) × (d : ℕ) × TakeSo seat u d row) ⊎ ((u : ℕ) × Take2So seat M u row)
    bidding v bids = elim (bidder_or seat.restart.kind) [
      | inl take ↦ inl (take.0, take.1, take_row s M seat row take.0 take.1 take.2 w.seen)
      | inr (inl take2) ↦ inr (take2.0, take2_row s M seat row take2.0 take2.1 w.seen)
      | inr (inr none) ↦ absurd (none v (seat_bids v bids))
    ]

  given : (v : ℕ) (y : Standing) (p : ℕ) (re : Restart) → x ≡ y → Gives (Step v) y p re → Given (Step v) y p re
  given u (IsWithin seat (Now (Install r))) p re e gives =
      let keeps = subst (KeepsBidAt m c) e (was.rows c) in (
        subst (Carried s m c) gives.0 (w seat (Now (Install r)) e).sits.carried,
        (λ q moves. moves),
        λ v bids stands names.
            let own = subst (λ (q : ℕ). BidsFor (K q) v) (sym gives.0) bids in
            let bid = ap (λ (q : ℕ). m (Bid q)) gives.0 ∙ stands in
            subst (λ (z : Restart). BidsFor z.kind v) gives.1 (keeps v (seat_bids seat (Now (Install r)) e v own) bid names),
      )
  given u (IsWithin seat (Now (Fork r))) p re e gives = (
    subst (Carried s m c) gives.0 (w seat (Now (Fork r)) e).sits.carried,
    (λ q moves. moves),
    λ v bids stands names. elim (bidding seat (Now (Fork r)) e v (subst (λ (q : ℕ). BidsFor (K q) v) (sym gives.0) bids)) [
      | inl a ↦ absurd a.2
      | inr a ↦ absurd a.1
    ],
  )
  given u (IsWithin seat (Now (Begin r f b))) p re e gives = (
    subst (Carried s m c) gives.0 (w seat (Now (Begin r f b)) e).sits.carried,
    (λ q moves. moves),
    λ v bids stands names. elim (bidding seat (Now (Begin r f b)) e v (subst (λ (q : ℕ). BidsFor (K q) v) (sym gives.0) bids)) [
      | inl a ↦ absurd a.2
      | inr a ↦ absurd a.1
    ],
  )
  given u (IsRunning seat (Installs kind)) p re e gives =
      let sees = subst (Sees s m K (spots.bottoms s ws) c) e (run.lawful.1.sees c) in (
        subst (Carried s m c) gives.0 sees.0.carried,
        (λ q moves. moves),
        λ v bids stands names.
            let own = subst (λ (q : ℕ). BidsFor (K q) v) (sym gives.0) bids in
            absurd (strand_bids_not seat.restart.kind v sees.1 (subst (λ (k : RestartKind). BidsFor k v) sees.0.at.kind own)),
      )
  given u _ p re e gives = absurd gives

  given_by : (act : Act) (p : ℕ) (re : Restart) → Gives act x p re → Given act x p re
  given_by (Step v) p re gives = given v x p re refl gives
  given_by act p re gives = absurd gives

  kind_goes : (p : ℕ) → (K' p ≡ K p) ⊎ ((re : Restart) × Given turn.act x p re × (K' p ≡ re.kind))
  kind_goes p = elim (restart_goes_on s code ws run.lawful.0 turn.act x now wrote p) [
    | inl same ↦ inl (ap (λ (z : Restart). z.kind) same)
    | inr new ↦ inr (new.0, given_by turn.act p new.0 new.1, ap (λ (z : Restart). z.kind) new.2)
  ]

  -- who moves was at the place from which it has bid for the other one
  moved : (act : Act) (y : Standing) (d q : ℕ) → x ≡ y → MovesTo act y d q → (p : ℕ) × Carried s m d p × (K p ≡ Take2 q)
  moved (Step v) (IsWithin seat (Now (Move r))) d q e moves =
      let a = w seat (Now (Move r)) e in
      let kind = a.sits.at.kind ∙ moves_after_bid s places (M seat (Now (Move r)) e) seat r a.seen ∙ ap Take2 moves.1 in
      (seat.place, subst (λ (o : ℕ). Carried s m o seat.place) (sym a.sits.own ∙ moves.0) a.sits.carried, kind)
  moved act _ d q e moves = absurd moves

  moves_own : (act : Act) (y : Standing) (d q : ℕ) → x ≡ y → MovesTo act y d q → d ≡ c
  moves_own (Step v) (IsWithin seat (Now (Move r))) d q e moves = sym moves.0 ∙ (w seat (Now (Move r)) e).sits.own
  moves_own act _ d q e moves = absurd moves

  carried_number : (d p q : ℕ) → m (Carry d) ≡ Number p → m (Carry d) ≡ Number q → p ≡ q
  carried_number d p q one two = ap number_of (sym one ∙ two)

  carry_now : (d : ℕ) → (n (Carry d) ≡ m (Carry d)) ⊎ ((q : ℕ) × MovesTo turn.act x d q × (n (Carry d) ≡ Number q))
  carry_now d = carry_goes s code ws run.lawful.0 turn.act x now wrote d

  -- a processor that is given a restart at its place carries the same one still
  stays : (p : ℕ) (re : Restart) → Given turn.act x p re → n (Carry c) ≡ Number p
  stays p re g = elim (carry_now c) [ inl same ↦ same ∙ g.0.carry | inr away ↦ absurd (g.1 away.0 away.1) ]

  abbrev Goes : ℕ → ℕ → Type 0
  Goes p d = (n (Carry d) ≡ Number p) ⊎ (TookOver n K' d p ⊎ IsBidder (K' p))

  -- a place that was carried
  was_carried : (p d : ℕ) → m (Carry d) ≡ Number p → Goes p d
  was_carried p d at = elim (carry_now d) [
    | inl same ↦ inl (same ∙ at)
    | inr away ↦
        let from = moved turn.act x d away.0 refl away.1 in
        let place = carried_number d from.0 p from.1.carry at in
        let kind : K p ≡ Take2 away.0 = ap K (sym place) ∙ from.2 in
        let own : d ≡ c = moves_own turn.act x d away.0 refl away.1 in
        elim (kind_goes p) [
          | inl still ↦ inr (inr (subst IsBidder (sym (still ∙ kind)) tt))
          | inr new ↦ absurd (new.1.1 away.0 (subst (λ (o : ℕ). MovesTo turn.act x o away.0) own away.1))
        ]
  ]

  -- a place that was taken over, of whose holder the bid stood
  was_taken : (p d : ℕ) → IsAlive m d → Names (m (Holder p)) d → n (Holder p) ≡ m (Holder p) → TookOver m K d p → Goes p d
  was_taken p d alive names held took = elim (carry_now d) [
    | inr away ↦
        let from = moved turn.act x d away.0 refl away.1 in
        let place = carried_number d from.0 took.from from.1.carry took.carried in
        let kind : K took.from ≡ Take2 away.0 = ap K (sym place) ∙ from.2 in
        let goal : away.0 ≡ p = subst (λ (k : RestartKind). BidsFor k p) kind took.bids in
        inl (away.2 ∙ ap Number goal)
    | inl same ↦
        let bid = bid_kept took.from p took.bids in
        let goes : BidsFor (K' took.from) p → Goes p d =
        λ bids. inr (inl (record { from = took.from; carried = same ∙ took.carried; bids = bids; stands = bid ∙ took.stands ∙ sym held })) in
        elim (kind_goes took.from) [
          | inl still ↦ goes (subst (λ (k : RestartKind). BidsFor k p) (sym still) took.bids)
          | inr new ↦
              let own : d ≡ c = one_carries took.from d c alive took.carried new.1.0.lives.alive new.1.0.carry in
              let bids = new.1.2 p took.bids took.stands (subst (Names (m (Holder p))) own names) in
              goes (subst (λ (k : RestartKind). BidsFor k p) (sym new.2) bids)
        ]
  ]

  -- a place that was left
  was_left : (p d : ℕ) → Names (m (Holder p)) d → IsBidder (K p) → Goes p d
  was_left p d names left = elim (kind_goes p) [
    | inl still ↦ inr (inr (subst IsBidder (sym still) left))
    | inr new ↦
        let own = holder_carries p c d new.1.0.lives.alive new.1.0.carry names in
        inl (subst (λ (o : ℕ). n (Carry o) ≡ Number p) (sym own) (stays p new.0 new.1))
  ]

  -- a bid that is made
  module _ (p : ℕ) (bid : Made s ws x now p) where
    within_bid : Within s code root input state h forked taken l t run c bid.seat (Exchange (HolderWord p) bid.old bid.new bid.next)
    within_bid = w bid.seat (Exchange (HolderWord p) bid.old bid.new bid.next) bid.at

    stays_there : (act : Act) (q : ℕ) → MovesTo act x c q → ⊥
    stays_there (Step v) q moves = subst (λ (z : Standing). MovesTo (Step v) z c q) bid.at moves
    stays_there act q moves = moves

    carries_still : n (Carry c) ≡ Number bid.seat.place
    carries_still = elim (carry_now c) [
      | inl same ↦ same ∙ within_bid.sits.carried.carry
      | inr away ↦ absurd (stays_there turn.act away.0 away.1)
    ]

    gives_none : (act : Act) (q : ℕ) (re : Restart) → Gives act x q re → ⊥
    gives_none (Step v) q re gives = subst (λ (z : Standing). Gives (Step v) z q re) bid.at gives
    gives_none act q re gives = gives

    kept_kind : K' bid.seat.place ≡ K bid.seat.place
    kept_kind = elim (restart_goes_on s code ws run.lawful.0 turn.act x now wrote bid.seat.place) [
      | inl same ↦ ap (λ (z : Restart). z.kind) same
      | inr new ↦ absurd (gives_none turn.act bid.seat.place new.0 new.1)
    ]

    bid_made : (d : ℕ) → Names (n (Holder p)) d → Goes p d
    bid_made d names =
        let own : bid.seat.own ≡ d = subst (λ (z : Word). Names z d) bid.new_is names in
        let me : d ≡ c = sym own ∙ within_bid.sits.own in
        let kind = kept_kind ∙ bid.here in
        inr (inl (record {
          from = bid.seat.place;
          carried = ap (λ (o : ℕ). n (Carry o)) me ∙ carries_still;
          bids = subst (λ (k : RestartKind). BidsFor k p) (sym kind) refl;
          stands = bid_kept bid.seat.place p (subst (λ (k : RestartKind). BidsFor k p) (sym bid.here) refl) ∙ bid.told ∙ sym bid.new_is;
        }))

  carried_now : AreCarried n K'
  carried_now p d names alive = elim (holder_goes s code ws run.lawful.0 turn.act x now wrote p) [
    | inr bid ↦ bid_made p bid d names
    | inl same ↦
        let lived = alive_was s code ws run.lawful.0 turn.act x now wrote d alive in
        let named = subst (λ (z : Word). Names z d) same names in
        elim (was.carried p d named lived) [
          | inl at ↦ was_carried p d at
          | inr (inl took) ↦ was_taken p d lived named same took
          | inr (inr left) ↦ was_left p d named left
        ]
  ]

  -- the rows of others
  other_rows : (o : ℕ) → o ≢ c → (y : Standing) → stand_of state o ≡ y → KeepsBidAt m o y → KeepsBidAt n o y
  other_rows o ne (IsWithin seat (Now (Install re))) e keeps = λ p bids stands names. elim (holder_goes s code ws run.lawful.0 turn.act x now wrote p) [
    | inr bid ↦
        let own : bid.seat.own ≡ o = subst (λ (z : Word). Names z o) bid.new_is names in
        absurd (ne (sym own ∙ (within_bid p bid).sits.own))
    | inl same ↦ elim (bid_goes s code ws run.lawful.0 turn.act x now wrote seat.place) [
      | inl bid ↦ keeps p bids (sym bid ∙ stands ∙ same) (subst (λ (z : Word). Names z o) same names)
      | inr at ↦
          let mine = sits_at o seat (Now (Install re)) e in
          let others = stored_at c seat.place x refl at in
          absurd (ne (one_carries seat.place o c mine.lives.alive mine.carry others.lives.alive others.carry))
    ]
  ]
  other_rows o ne (IsWithin seat (Now (Load q))) e keeps = tt
  other_rows o ne (IsWithin seat (Now (Fork r))) e keeps = tt
  other_rows o ne (IsWithin seat (Now (Begin r f b))) e keeps = tt
  other_rows o ne (IsWithin seat (Now (Move q))) e keeps = tt
  other_rows o ne (IsWithin seat (Now (Enter q))) e keeps = tt
  other_rows o ne (IsWithin seat (Now Again)) e keeps = tt
  other_rows o ne (IsWithin seat (Now Broken)) e keeps = tt
  other_rows o ne (IsWithin seat (Store cell q next)) e keeps = tt
  other_rows o ne (IsWithin seat (Exchange cell old new next)) e keeps = tt
  other_rows o ne IsLost e keeps = tt
  other_rows o ne (IsPlaced p) e keeps = tt
  other_rows o ne (IsAt p re) e keeps = tt
  other_rows o ne (IsRunning seat rest) e keeps = tt
  other_rows o ne (IsBroken p) e keeps = tt
  other_rows o ne IsDone e keeps = tt

  rows_now : (o : ℕ) → KeepsBidAt n o (stand_of (happens s code state turn) o)
  rows_now o = elim (cases_eq o c) [
    | inr ne ↦
        subst (KeepsBidAt n o) (sym (stand_else s code state c o turn.act x ne)) (other_rows o ne (stand_of state o) refl (was.rows o))
    | inl own ↦
        subst (λ (q : ℕ). KeepsBidAt n q (stand_of (happens s code state turn) q)) (sym own)
        (keeps_after s code root input state h forked taken l t run c turn.act x refl)
  ]

  pub held_after : AreHeld s (happens s code state turn)
  held_after = record { carried = carried_now; rows = rows_now }
