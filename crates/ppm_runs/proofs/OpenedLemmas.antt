-- With takeover by entries: a place that is about to open the block of a closed one has loaded that block's link,
-- and the link stays what it is.
use Rattle.std.proofs.Common.{◌≡◌, ◌⊎◌, ◌<◌, ◌≤◌, ℕ, ◌+◌, ◌-◌, ◌==◌, Bool, true, false, if◌then◌else◌, List, Option, Some, None, inl, inr, refl, sym, ap, ◌∙◌, subst, arith}
use Rattle.std.specs.Prelude.{nat_lt}
use Rattle.std.proofs.lemmas.Bool.{eqb-true, ltb-true}
use Rattle.ppm_strands.specs.Tree.{Words, Tree}
use Rattle.ppm_cells.specs.Entry.{entry_of}
use Rattle.ppm_cells.specs.Link.{link_of}
use Rattle.ppm_cells.specs.Memory.{read}
use Rattle.ppm_cells.specs.Restart.{restart_of}
use Rattle.ppm_cells.specs.declared.cell.Cell.TheVariants.{RestartWord, EntryWord, BlockWord}
use Rattle.ppm_cells.specs.declared.entry.Entry.{Entry}
use Rattle.ppm_cells.specs.declared.entry.Entry.TheVariants as entries
use Rattle.ppm_cells.specs.declared.link.Link.{Link}
use Rattle.ppm_cells.specs.declared.link.LinkKind.{LinkKind}
use Rattle.ppm_cells.specs.declared.link.LinkKind.TheVariants.{Root, Call as Called, Branch, Fork as Forked}
use Rattle.ppm_cells.specs.declared.restart.Restart.{Restart}
use Rattle.ppm_cells.specs.declared.restart.RestartKind.{RestartKind}
use Rattle.ppm_cells.specs.declared.restart.RestartKind.TheVariants.{Run, Bump, Push1, Push2, Unwind, Arrive, Join, Pop1, Pop2, Seek, Steal, Check, Take, Take2}
use Rattle.ppm_cells.specs.declared.shape.Shape.{Shape}
use Rattle.ppm_cells.specs.declared.shape.Takeover.TheVariants.{ByEntries}
use Rattle.ppm_strands.specs.Strand.{Frame}
use Rattle.ppm_code.specs.Strands.{Point, Result}
use Rattle.ppm_code.specs.declared.code.CodeParts.{CodeParts}
use Rattle.ppm_code.specs.declared.location.FrameWord.{FrameWord}
use Rattle.ppm_step.specs.Contents.{content_of, read_so}
use Rattle.ppm_step.specs.Points.{cell_at, reading_at}
use Rattle.ppm_step.specs.Rows.{found_at, on_entry, on_link, on_restart, taken_message, taken_entry, goes_on_with, can_be_taken, took, follows, by_slot, at_bottom, above_bottom, below_bottom, closed_link, closed_bottom}
use Rattle.ppm_step.specs.Standings.{IsWithin}
use Rattle.ppm_step.specs.State.{State as RunState, stand_of}
use Rattle.ppm_step.specs.There.{restart_is_there}
use Rattle.ppm_step.specs.declared.content.Content.{Content}
use Rattle.ppm_step.specs.declared.content.Content.TheVariants.{ARestart, AnEntry, ALink}
use Rattle.ppm_step.specs.declared.row.Point.{Point as RowPoint}
use Rattle.ppm_step.specs.declared.row.Point.TheVariants.{Offset, TakenMessage, TakenEntry, ClosedRestart, ClosedLink, ClosedBottom}
use Rattle.ppm_step.specs.declared.row.Row.{Row}
use Rattle.ppm_step.specs.declared.row.Row.TheVariants.{Now}
use Rattle.ppm_step.specs.declared.row.Seat.{Seat}
use Rattle.ppm_step.specs.declared.row.Then.{Then}
use Rattle.ppm_step.specs.declared.row.Then.TheVariants.{Load, Install, Fork, Begin, Broken}
use Rattle.ppm_tickets.specs.Heirs.{InheritsAt, GoesOnBy, ChecksSo}
use Rattle.ppm_tickets.specs.Homes.{Home, Unborn}
use Rattle.ppm_tickets.specs.Lawful.{IsClaim, Closed, active, active_at, is_local}
use Rattle.ppm_tickets.specs.View as spots
use Rattle.ppm_tickets.specs.Words.{Word, Taken, Spot, Slot}
use Rattle.ppm_tickets.proofs.EstateLemmas.{as_shown, claims_shut}
use Rattle.ppm_tickets.proofs.HeirRows.{heirs_see}
use Rattle.ppm_tickets.proofs.ViewLemmas.{shows}
use Rattle.ppm_frames.specs.Skeletons.{Fresh, Held, Skeleton}
use Rattle.ppm_frames.specs.Good.{link_or, link_at}
use Rattle.ppm_frames.proofs.ViewLemmas.{view_is}
use Rattle.ppm_kept.specs.Running.{IsFair}
use Rattle.ppm_kept.specs.Kept.{Setting, State, owner}
use Rattle.ppm_kept.specs.Fates.{Agrees}
use Rattle.ppm_kept.specs.Fates as fates
use Rattle.ppm_kept.specs.Heirs.{OpensAs}
use Rattle.ppm_kept.specs.Laws.{kind_then}
use Rattle.ppm_kept.specs.Left.{Followed, left, IsAway}
use Rattle.ppm_kept.specs.Places.{places_of}
use Rattle.ppm_kept.specs.Unruns.{HasUnrun}
use Rattle.ppm_kept.proofs.FateLemmas.{fork_has}
use Rattle.ppm_kept.proofs.LeftLemmas.{kind_away, shown}
use Rattle.ppm_kept.proofs.LinkLemmas.{link_shown, runs_none, pushes_none}
use Rattle.ppm_kept.proofs.OwnerLemmas.{owned}
use Rattle.ppm_runs.specs.Run.{setting, fate_of}
use Rattle.ppm_runs.specs.Follow.{IsHalves, CarriesOn, OpensBlock}
use Rattle.ppm_runs.proofs.StandLemmas.{kinds_same}
use Rattle.ppm_runs.proofs.ShownLemmas.{away, Within}
use Rattle.ppm_runs.proofs.OrderlyLemmas.{not_born}
use Rattle.ppm_runs.proofs.AgreeLemmas.{home_or}

-- a link of a call, or of a fork
abbrev pub IsCall : LinkKind → Type 0
IsCall k = (g : ℕ) × (y : ℕ) × (k ≡ Called g y)

abbrev pub IsFork : LinkKind → Type 0
IsFork k = (g : ℕ) × (y : ℕ) × (k ≡ Forked g y)

-- a link that is that of a fork where it was one, and no other
pub opens_same : (r : ℕ) (k : RestartKind) (a b : LinkKind) → IsCall b ⊎ IsFork b → (IsFork a → IsFork b) → (IsFork b → IsFork a) → OpensAs r a k → OpensAs r b k
opens_same r k (Called g y) b (inl c) on back o = subst (λ (x : LinkKind). OpensAs r x k) (sym c.2) o
opens_same r k (Called g y) b (inr c) on back o = absurd (let d = back c in let z : Called g y ≡ Forked d.0 d.1 = d.2 in cc)
opens_same r k (Forked g y) b c on back o = let d = on (g, y, refl) in subst (λ (x : LinkKind). OpensAs r x k) (sym d.2) o
opens_same r k _ b c on back o = absurd o

-- the kind that a row ends with, and the frame of one that runs
abbrev end_kind : Row → RestartKind
end_kind (Now next) = kind_then next
end_kind _ = Seek

abbrev run_frame : RestartKind → ℕ
run_frame (Run f y) = f
run_frame _ = 0

abbrev forked_block : Then → ℕ
forked_block (Fork r) = r
forked_block _ = 0

-- a row that ends so that a place goes on
abbrev GoesRow : Row → Type 0
GoesRow (Now next) = CarriesOn next
GoesRow _ = ⊥

module _ (s : Shape) (code : CodeParts) (fair : IsFair code) (root : Tree (Frame FrameWord Point) Result) (input : Words) (state : RunState) (h : ℕ → Home) (forked taken : List ℕ) (l : List Followed) (t : Skeleton) (run : IsHalves s code root input state h forked taken l t)
    (agrees : Agrees t (λ r. fate_of (h r))) where
  abbrev i : Setting
  i = setting s code

  abbrev z : State
  z = left i l (places_of s state)

  abbrev m : Spot → Word
  m = spots.view s state.words

  -- a block that is about to be opened was not forked
  pub unborn : (w r : ℕ) → z.kind w ≡ Bump r → h r ≡ Unborn
  unborn w r kz = elim (home_or (h r)) [
    | inl is ↦ is
    | inr ne ↦ absurd (let a = sym (run.lawful.1.counts.listed r ne) ∙ not_born s code fair root input state h forked taken l t run agrees w r kz in cc)
  ]

  no_held : (r : ℕ) → h r ≡ Unborn → HasUnrun Held r t → ⊥
  no_held r e held = elim (agrees.held r held) [
    | inl k ↦ let y : fates.Unborn ≡ fates.ToPush = sym (ap fate_of e) ∙ k in cc
    | inr k ↦ let y : fates.Unborn ≡ fates.Inline = sym (ap fate_of e) ∙ k in cc
  ]

  -- the right branch of a fork is in the tree
  pub fork_fresh : (w r : ℕ) → z.kind w ≡ Bump r → IsFork (link_at (z.words (BlockWord r))).kind → HasUnrun Fresh r t
  fork_fresh w r kz f = elim (fork_has i fair root input z t run.kept w r r kz (refl, f)) [
    | inl x ↦ x
    | inr x ↦ absurd (no_held r (unborn w r kz) x)
  ]

  -- it is one of its place's pool
  pub owner_of : (w r : ℕ) → z.kind w ≡ Bump r → owner i r ≡ w
  owner_of w r kz = let home = run.born.homes w r kz in owned i w r home.0 home.1

  -- its link, as a load finds it
  pub link_read : (w r : ℕ) → w < s.processors → IsAway l w → z.kind w ≡ Bump r → z.words (BlockWord r) ≡ read s state.words (BlockWord r)
  link_read w r there aw kz =
      let can = link_shown i fair root input z t run.kept w r kz w there in
      shown i root input (places_of s state) l run.apart t run.kept w aw (BlockWord r) can.in_use ∙ view_is s state.words (BlockWord r) can.cell_is

  -- by what a place inherits, about to run or to fork the block that w was about to open: it inherits from w
  module _ (ih : s.takeover ≡ ByEntries) (w r : ℕ) (kz : z.kind w ≡ Bump r) where
    abbrev Heir : ℕ → Type 0
    Heir p = InheritsAt s code state h forked taken run.lawful p

    kind_at : (p : ℕ) (it : Heir p) (K : RestartKind) → spots.kinds s state.words it.place ≡ K → z.kind it.place ≡ K
    kind_at p it K e = kind_away l (places_of s state).kind it.place (away l run.lawful.1.board.gone it.place run.gone it.stays) ∙ kinds_same s state.words it.place ∙ e

    same_bump : (u : ℕ) → z.kind u ≡ Bump r → u ≡ w
    same_bump u ku = sym (owner_of u r ku) ∙ owner_of w r kz

    heir_run : (p : ℕ) (it : Heir p) (K : RestartKind) → spots.kinds s state.words it.place ≡ K → GoesOnBy (Closed s.takeover m) m (spots.kinds s state.words) (spots.bottoms s state.words) h run.lawful.1.board p it.place K (Run r 0) → it.place ≡ w
    heir_run p it (Run f y) e g = absurd (runs_none i fair root input z t run.kept w r kz it.place y (kind_at p it (Run f y) e ∙ ap (λ (x : ℕ). Run x y) (sym (ap run_frame g))))
    heir_run p it (Bump q) e g = same_bump it.place (kind_at p it (Bump q) e ∙ ap Bump (sym (ap run_frame g)))
    heir_run p it (Push1 x) e g = absurd (let k : Run r 0 ≡ Push1 x = g.0 in cc)
    heir_run p it (Push2 x) e (inl g) = absurd (let k : Run r 0 ≡ Push1 x = g.0 in cc)
    heir_run p it (Push2 x) e (inr g) = absurd (pushes_none i fair root input z t run.kept w r kz it.place x (kind_at p it (Push2 x) e) (sym (ap run_frame g.0)))
    heir_run p it (Unwind f) e g = absurd (let k : Run r 0 ≡ Unwind f = g in cc)
    heir_run p it (Arrive x d) e g = absurd (let k : Run r 0 ≡ Arrive x d = g in cc)
    heir_run p it (Join x d) e g = absurd (let k : Run r 0 ≡ Join x d = g in cc)
    heir_run p it _ e g = absurd g

    closed_at : (p : ℕ) (it : Heir p) → it.place ≡ w → Closed s.takeover m w
    closed_at p it e = subst (Closed s.takeover m) e (claims_shut run.lawful.1.board it.place it.way.0.slot (subst IsClaim (sym it.way.0.taken) (omega arith)))

    -- w is closed, where an heir opens its block
    pub closed_before : (c : ℕ) (seat : Seat) (next : Then) (v slot : ℕ) → stand_of state c ≡ IsWithin seat (Now next) → seat.restart.kind ≡ Check v slot → CarriesOn next → OpensBlock r next → Closed s.takeover m w
    closed_before c seat (Install re) v slot e ke on by = elim (heirs_see s code ih state h forked taken run.lawful c seat (Now (Install re)) v slot e ke) [
      | inl seeks ↦ absurd (on seeks)
      | inr a ↦ elim by [
        | inl k ↦ closed_at seat.place a.0 (heir_run seat.place a.0 (spots.kinds s state.words a.0.place) refl
            (subst (GoesOnBy (Closed s.takeover m) m (spots.kinds s state.words) (spots.bottoms s state.words) h run.lawful.1.board seat.place a.0.place (spots.kinds s state.words a.0.place)) k a.1))
        | inr k ↦ absurd (let x : Install re ≡ Fork r = k in cc)
      ]
    ]
    closed_before c seat (Fork b) v slot e ke on by =
        let a = heirs_see s code ih state h forked taken run.lawful c seat (Now (Fork b)) v slot e ke in
        elim by [
          | inl k ↦ absurd (let x : Push1 b ≡ Run r 0 = k in cc)
          | inr k ↦ closed_at seat.place a.0 (same_bump a.0.place (kind_at seat.place a.0 (Bump b) a.1 ∙ ap Bump (ap forked_block k)))
        ]
    closed_before c seat _ v slot e ke on by = absurd on

    -- a load after which a place is to open the block is that of its link
    module _ (there : w < s.processors) (aw : IsAway l w) (c v : ℕ) (seat : Seat) (next : Then) (on : CarriesOn next) (by : OpensBlock r next) where
      abbrev Right : Type 0
      Right = OpensAs r (link_at (z.words (BlockWord r))).kind (kind_then next)

      goes_row : (row : Row) → row ≡ Now next → GoesRow row
      goes_row row e = subst GoesRow (sym e) on

      -- an end of another kind
      other_end : (new : RestartKind) (low : ℕ) → (new ≡ Run r 0 → ⊥) → Now (Install (record { kind = new; bottom = low })) ≡ Now next → Right
      other_end new low not e = elim by [
        | inl k ↦ absurd (not (ap end_kind e ∙ k))
        | inr k ↦ absurd (let x : Now (Install (record { kind = new; bottom = low })) ≡ Now (Fork r) = e ∙ ap Now k in cc)
      ]

      seeks_end : (low : ℕ) → Now (Install (record { kind = Seek; bottom = low })) ≡ Now next → Right
      seeks_end low e = absurd (goes_row (Now (Install (record { kind = Seek; bottom = low }))) e refl)

      -- the link
      link_end : (q : ℕ) (link : Link) → link_of (read s state.words (BlockWord q)) ≡ Some link → (K : LinkKind) → link.kind ≡ K → closed_link seat q K ≡ Now next → Right
      link_end q link is (Called x y) lk e = elim by [
        | inl k ↦
            let qr : q ≡ r = ap run_frame (ap end_kind e ∙ k) in
            let at : (link_at (z.words (BlockWord r))).kind ≡ Called x y = ap (λ (a : ℕ). (link_at a).kind) (link_read w r there aw kz ∙ ap (λ (a : ℕ). read s state.words (BlockWord a)) (sym qr)) ∙ ap (λ (o : Option Link). (link_or o).kind) is ∙ lk in
            subst (λ (a : LinkKind). OpensAs r a (kind_then next)) (sym at) k
        | inr k ↦ absurd (let x : Now (Install (record { kind = Run q 0; bottom = seat.restart.bottom })) ≡ Now (Fork r) = e ∙ ap Now k in cc)
      ]
      link_end q link is (Forked x y) lk e = elim by [
        | inl k ↦ absurd (let two : Push1 q ≡ Run r 0 = ap end_kind e ∙ k in cc)
        | inr k ↦
            let forks : Now (Fork q) ≡ Now (Fork r) = e ∙ ap Now k in
            let qr : q ≡ r = cc in
            let at : (link_at (z.words (BlockWord r))).kind ≡ Forked x y = ap (λ (a : ℕ). (link_at a).kind) (link_read w r there aw kz ∙ ap (λ (a : ℕ). read s state.words (BlockWord a)) (sym qr)) ∙ ap (λ (o : Option Link). (link_or o).kind) is ∙ lk in
            subst (λ (a : LinkKind). OpensAs r a (kind_then next)) (sym at) (ap kind_then k)
      ]
      link_end q link is Root lk e = absurd (goes_row (Now Broken) e)
      link_end q link is (Branch d b) lk e = absurd (goes_row (Now Broken) e)

      link_load : (q : ℕ) (o : Option Link) → link_of (read s state.words (BlockWord q)) ≡ o → on_link (read_so ALink o) (λ link. closed_link seat q link.kind) ≡ Now next → Right
      link_load q None is e = absurd (goes_row (Now Broken) e)
      link_load q (Some link) is e = link_end q link is link.kind refl e

      -- the restart of a closed place
      module _ (x j b : ℕ) (lt : x < s.processors) (R : Restart) (is : restart_of (read s state.words (RestartWord x)) ≡ Some R)
          (sees : j ≡ active_at run.lawful.1.board.ghost (spots.kinds s state.words) (spots.bottoms s state.words) x → (it : Heir seat.place) × (it.place ≡ x)) (there_ : nat_lt x s.processors ≡ true) where
        restart_is : spots.restart_at s state.words x ≡ R
        restart_is = ap (λ (y : Bool). if y then spots.restart_or (restart_of (read s state.words (RestartWord x))) else spots.seeking) there_ ∙ ap spots.restart_or is

        kind_is : spots.kinds s state.words x ≡ R.kind
        kind_is = ap (λ (y : Restart). y.kind) restart_is

        low_is : spots.bottoms s state.words x ≡ R.bottom
        low_is = ap (λ (y : Restart). y.bottom) restart_is

        run_end : (f y : ℕ) → R.kind ≡ Run f y → (j == R.bottom) ≡ true → Now (Install (record { kind = Run f y; bottom = seat.restart.bottom })) ≡ Now next → Right
        run_end f y k here e = elim by [
          | inr k ↦ absurd (let two : Now (Install (record { kind = Run f y; bottom = seat.restart.bottom })) ≡ Now (Fork r) = e ∙ ap Now k in cc)
          | inl goes ↦
              let at : j ≡ active_at run.lawful.1.board.ghost (spots.kinds s state.words) (spots.bottoms s state.words) x = eqb-true j R.bottom here ∙ sym low_is
              ∙ sym (ap (λ (K : RestartKind). active K (spots.bottoms s state.words x) (run.lawful.1.board.ghost (Slot x (spots.bottoms s state.words x - 1))) (run.lawful.1.board.ghost (Slot x (spots.bottoms s state.words x)))) (kind_is ∙ k)) in
              let it = sees at in
              absurd (runs_none i fair root input z t run.kept w r kz it.0.place y (kind_at seat.place it.0 (Run r y) (ap (spots.kinds s state.words) it.1 ∙ kind_is ∙ k ∙ ap (λ (a : ℕ). Run a y) (ap run_frame (ap end_kind e ∙ goes)))))
        ]

        bottom_end : (K : RestartKind) → R.kind ≡ K → (j == R.bottom) ≡ true → at_bottom seat x K ≡ Now next → Right
        bottom_end (Run f y) k here e = run_end f y k here e
        bottom_end (Bump q) k here e = absurd (goes_row (Now (Load (ClosedLink q))) e)
        bottom_end (Push1 q) k here e = other_end (Push1 q) _ (λ a. cc) e
        bottom_end (Push2 q) k here e = other_end (Push1 q) _ (λ a. cc) e
        bottom_end (Unwind f) k here e = other_end (Unwind f) _ (λ a. cc) e
        bottom_end (Arrive q d) k here e = other_end (Arrive q d) _ (λ a. cc) e
        bottom_end (Join q d) k here e = other_end (Join q d) _ (λ a. cc) e
        bottom_end (Steal a n) k here e = absurd (goes_row (Now (Load (TakenMessage x a n))) e)
        bottom_end (Check a n) k here e = absurd (goes_row (Now (Load (TakenMessage x a n))) e)
        bottom_end Pop1 k here e = seeks_end _ e
        bottom_end (Pop2 q) k here e = seeks_end _ e
        bottom_end Seek k here e = seeks_end _ e
        bottom_end (Take a n) k here e = seeks_end _ e
        bottom_end (Take2 a) k here e = seeks_end _ e

        above_end : (K : RestartKind) → above_bottom seat x R.bottom K ≡ Now next → Right
        above_end (Push2 q) e = absurd (goes_row (Now (Load (ClosedBottom x R.bottom q))) e)
        above_end (Run f y) e = seeks_end _ e
        above_end (Bump q) e = seeks_end _ e
        above_end (Push1 q) e = seeks_end _ e
        above_end (Unwind f) e = seeks_end _ e
        above_end (Arrive q d) e = seeks_end _ e
        above_end (Join q d) e = seeks_end _ e
        above_end Pop1 e = seeks_end _ e
        above_end (Pop2 q) e = seeks_end _ e
        above_end Seek e = seeks_end _ e
        above_end (Steal a n) e = seeks_end _ e
        above_end (Check a n) e = seeks_end _ e
        above_end (Take a n) e = seeks_end _ e
        above_end (Take2 a) e = seeks_end _ e

        below_end : (K : RestartKind) → below_bottom seat b K ≡ Now next → Right
        below_end Pop1 e = absurd (goes_row (Now (Load (Offset b seat.restart.bottom))) e)
        below_end (Pop2 q) e = absurd (goes_row (Now (Load (Offset b seat.restart.bottom))) e)
        below_end (Run f y) e = seeks_end _ e
        below_end (Bump q) e = seeks_end _ e
        below_end (Push1 q) e = seeks_end _ e
        below_end (Push2 q) e = seeks_end _ e
        below_end (Unwind f) e = seeks_end _ e
        below_end (Arrive q d) e = seeks_end _ e
        below_end (Join q d) e = seeks_end _ e
        below_end Seek e = seeks_end _ e
        below_end (Steal a n) e = seeks_end _ e
        below_end (Check a n) e = seeks_end _ e
        below_end (Take a n) e = seeks_end _ e
        below_end (Take2 a) e = seeks_end _ e

        low_end : (y : Bool) → (if y then below_bottom seat b R.kind else Now (Install (record { kind = Seek; bottom = seat.restart.bottom }))) ≡ Now next → Right
        low_end true e = below_end R.kind e
        low_end false e = seeks_end _ e

        high_end : (y : Bool) → (if y then above_bottom seat x R.bottom R.kind else (if j + 1 == R.bottom then below_bottom seat b R.kind else Now (Install (record { kind = Seek; bottom = seat.restart.bottom })))) ≡ Now next → Right
        high_end true e = above_end R.kind e
        high_end false e = low_end (j + 1 == R.bottom) e

        slot_end : (y : Bool) → (j == R.bottom) ≡ y
            → (if y then at_bottom seat x R.kind else (if j == R.bottom + 1 then above_bottom seat x R.bottom R.kind else (if j + 1 == R.bottom then below_bottom seat b R.kind else Now (Install (record { kind = Seek; bottom = seat.restart.bottom }))))) ≡ Now next → Right
        slot_end true here e = bottom_end R.kind refl here e
        slot_end false here e = high_end (j == R.bottom + 1) e

        restart_end : (y : Bool) → (if y then by_slot seat x j b R else Now Broken) ≡ Now next → Right
        restart_end true e = slot_end (j == R.bottom) refl e
        restart_end false e = absurd (goes_row (Now Broken) e)

      restart_load : (x j b : ℕ) → nat_lt x s.processors ≡ true → (j ≡ active_at run.lawful.1.board.ghost (spots.kinds s state.words) (spots.bottoms s state.words) x → (it : Heir seat.place) × (it.place ≡ x)) → (o : Option Restart) → restart_of (read s state.words (RestartWord x)) ≡ o
          → on_restart (read_so ARestart o) (follows s seat x j b) ≡ Now next → Right
      restart_load x j b lt sees None is e = absurd (goes_row (Now Broken) e)
      restart_load x j b lt sees (Some R) is e = restart_end x j b (ltb-true x s.processors lt) R is sees lt (restart_is_there s R) e

      -- the bottom of a closed place in Push2
      job_end : (x q n u : ℕ) → (spots.kinds s state.words x ≡ Push2 q) × (is_local (run.lawful.1.board.ghost (Slot x (spots.bottoms s state.words x))) ≡ false → (it : Heir seat.place) × (it.place ≡ x)) → m (Slot x (spots.bottoms s state.words x)) ≡ Taken n u
          → (y : Bool) → nat_lt u 64 ≡ y → (if y then Now (Install (record { kind = Run (q + 5) 0; bottom = seat.restart.bottom })) else Now (Install (record { kind = Seek; bottom = seat.restart.bottom }))) ≡ Now next → Right
      job_end x q n u sees is false lt e = seeks_end _ e
      job_end x q n u sees is true lt e = elim by [
        | inr k ↦ absurd (let two : Now (Install (record { kind = Run (q + 5) 0; bottom = seat.restart.bottom })) ≡ Now (Fork r) = e ∙ ap Now k in cc)
        | inl goes ↦
            let less : u < 64 = ltb-true u 64 lt in
            let ghost : run.lawful.1.board.ghost (Slot x (spots.bottoms s state.words x)) ≡ Taken n u = as_shown (run.lawful.1.board.covers.slots x (spots.bottoms s state.words x)) (λ d. let far : 64 ≤ u = subst IsClaim is d in omega (arith, far, less)) ∙ is in
            let it = sees.1 (ap is_local ghost) in
            absurd (pushes_none i fair root input z t run.kept w r kz it.0.place q (kind_at seat.place it.0 (Push2 q) (ap (spots.kinds s state.words) it.1 ∙ sees.0)) (ap run_frame (ap end_kind e ∙ goes)))
      ]

      entry_load : (x j q : ℕ) → (spots.kinds s state.words x ≡ Push2 q) × (is_local (run.lawful.1.board.ghost (Slot x (spots.bottoms s state.words x))) ≡ false → (it : Heir seat.place) × (it.place ≡ x)) × (j ≡ spots.bottoms s state.words x)
          → spots.is_shown s (Slot x j) ≡ true → (o : Option Entry) → entry_of (read s state.words (EntryWord x j)) ≡ o → on_entry (read_so AnEntry o) (closed_bottom seat q) ≡ Now next → Right
      entry_load x j q sees show None is e = absurd (goes_row (Now Broken) e)
      entry_load x j q sees show (Some (entries.Taken n u)) is e =
          let at : m (Slot x j) ≡ Taken n u = shows s state.words (Slot x j) show ∙ ap (λ (o : Option Entry). spots.word_as (read_so AnEntry o)) is in
          job_end x q n u (sees.0, sees.1) (ap (λ (a : ℕ). m (Slot x a)) (sym sees.2) ∙ at) (nat_lt u 64) refl e
      entry_load x j q sees show (Some (entries.Empty n)) is e = seeks_end _ e
      entry_load x j q sees show (Some (entries.Local n u)) is e = seeks_end _ e
      entry_load x j q sees show (Some (entries.Job n u)) is e = seeks_end _ e

      -- loads that lead to others, or to a beginning
      message_if : (y : Bool) (p x j : ℕ) (en : Entry) → (if y then Now (Load (TakenEntry p x j en)) else Now Broken) ≡ Now next → Right
      message_if true p x j en e = absurd (goes_row (Now (Load (TakenEntry p x j en))) e)
      message_if false p x j en e = absurd (goes_row (Now Broken) e)

      message_load : (p x j : ℕ) (a : Content) → on_entry a (taken_message s p x j) ≡ Now next → Right
      message_load p x j (AnEntry en) e = message_if (can_be_taken s.takeover en) p x j en e
      message_load p x j _ e = absurd (goes_row (Now Broken) e)

      on_with : (x j : ℕ) (en : Entry) → goes_on_with seat x j en ≡ Now next → Right
      on_with x j (entries.Job n b) e = absurd (goes_row (Now (Load (Offset b seat.restart.bottom))) e)
      on_with x j (entries.Local n b) e = absurd (goes_row (Now (Load (ClosedRestart x j b))) e)
      on_with x j (entries.Empty n) e = absurd (goes_row (Now Broken) e)
      on_with x j (entries.Taken n b) e = absurd (goes_row (Now Broken) e)

      taken_if : (y : Bool) (x j : ℕ) (en : Entry) → (if y then goes_on_with seat x j en else Now (Install (record { kind = Seek; bottom = seat.restart.bottom }))) ≡ Now next → Right
      taken_if true x j en e = on_with x j en e
      taken_if false x j en e = seeks_end _ e

      taken_load : (p x j : ℕ) (en : Entry) (a : Content) → on_entry a (taken_entry seat p x j en) ≡ Now next → Right
      taken_load p x j en (AnEntry now) e = taken_if (took p en now) x j en e
      taken_load p x j en _ e = absurd (goes_row (Now Broken) e)

      begin_if : (y : Bool) (b f low : ℕ) → (if y then Now (Begin b f low) else Now Broken) ≡ Now next → Right
      begin_if true b f low e = absurd (goes_row (Now (Begin b f low)) e)
      begin_if false b f low e = absurd (goes_row (Now Broken) e)

      pub load_opens : (point : RowPoint) → ChecksSo (Closed s.takeover m) m (spots.kinds s state.words) (spots.bottoms s state.words) h run.lawful.1.board seat.place (Now (Load point)) → Within s code root input state h forked taken l t run c seat (Now (Load point))
          → found_at s seat v point (content_of (reading_at point) (read s state.words (cell_at seat v point))) ≡ Now next → Right
      load_opens (ClosedLink q) sees at e = link_load q (link_of (read s state.words (BlockWord q))) refl e
      load_opens (ClosedRestart x j b) sees at e = restart_load x j b at.here sees.0 (restart_of (read s state.words (RestartWord x))) refl e
      load_opens (ClosedBottom x j q) sees at e = entry_load x j q sees at.here (entry_of (read s state.words (EntryWord x j))) refl e
      load_opens (TakenMessage p x j) sees at e = message_load p x j _ e
      load_opens (TakenEntry p x j en) sees at e = taken_load p x j en _ e
      load_opens (Offset b low) sees at e = begin_if _ b (b + read s state.words (cell_at seat v (Offset b low))) low e
      load_opens _ sees at e = absurd sees
