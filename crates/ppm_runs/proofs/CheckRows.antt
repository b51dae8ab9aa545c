-- By entries, each load of a place that checks what it stole leads to what is sound, through any number of
-- closed places: by what tickets say of such a load.
use Rattle.std.proofs.Common.{◌≡◌, ◌≤◌, ◌<◌, ℕ, ◌+◌, ◌==◌, ◌-◌, Bool, true, false, if◌then◌else◌, List, Option, Some, None, inl, inr, refl, sym, ap, ◌∙◌, subst, arith}
use Rattle.std.specs.Prelude.{nat_lt, ◌&&◌, ◌^◌}
use Rattle.std.proofs.lemmas.Bool.{ltb-true, lt-ltb, eqb-true}
use Rattle.ppm_strands.specs.Tree.{Words, Tree}
use Rattle.ppm_cells.specs.Cells.{word_count}
use Rattle.ppm_cells.specs.Entry.{IsEntry}
use Rattle.ppm_cells.specs.Link.{link_of}
use Rattle.ppm_cells.specs.Memory.{read}
use Rattle.ppm_cells.specs.Restart.{restart_of}
use Rattle.ppm_cells.specs.declared.cell.Cell.TheVariants as cells
use Rattle.ppm_cells.specs.declared.entry.Entry.{Entry}
use Rattle.ppm_cells.specs.declared.entry.Entry.TheVariants as entries
use Rattle.ppm_cells.specs.declared.link.Link.{Link}
use Rattle.ppm_cells.specs.declared.link.LinkKind.{LinkKind}
use Rattle.ppm_cells.specs.declared.link.LinkKind.TheVariants.{Root, Call as Called, Branch, Fork as Forked}
use Rattle.ppm_cells.specs.declared.restart.Restart.{Restart}
use Rattle.ppm_cells.specs.declared.restart.RestartKind.{RestartKind}
use Rattle.ppm_cells.specs.declared.restart.RestartKind.TheVariants.{Run, Bump, Push1, Push2, Unwind, Arrive, Join, Pop1, Pop2, Seek, Steal, Check, Take, Take2}
use Rattle.ppm_cells.specs.declared.shape.Shape.{Shape}
use Rattle.ppm_cells.specs.declared.shape.Takeover.{Takeover}
use Rattle.ppm_cells.specs.declared.shape.Takeover.TheVariants.{ByEntries}
use Rattle.ppm_strands.specs.Strand.{Frame}
use Rattle.ppm_code.specs.Strands.{Point, Result}
use Rattle.ppm_code.specs.declared.code.CodeParts.{CodeParts}
use Rattle.ppm_code.specs.declared.location.FrameWord.{FrameWord}
use Rattle.ppm_step.specs.Contents.{content_of, read_so}
use Rattle.ppm_step.specs.Points.{cell_at, reading_at}
use Rattle.ppm_step.specs.Rows.{on_restart, on_link, with_kind, taken_entry, took, goes_on_with, taken_message, at_bottom, above_bottom, below_bottom, by_slot, follows, closed_link, closed_bottom, found_at}
use Rattle.ppm_step.specs.Standings.{IsWithin, point_is_there}
use Rattle.ppm_step.specs.State.{State as RunState, stand_of}
use Rattle.ppm_step.specs.There.{kind_is_there, bottom_is_there, restart_is_there}
use Rattle.ppm_step.specs.declared.content.Content.TheVariants.{ARestart, AnEntry, ALink}
use Rattle.ppm_step.specs.declared.row.Point.{Point as RowPoint}
use Rattle.ppm_step.specs.declared.row.Point.TheVariants.{Offset, TakenMessage, TakenEntry, ClosedRestart, ClosedLink, ClosedBottom}
use Rattle.ppm_step.specs.declared.row.Row.{Row}
use Rattle.ppm_step.specs.declared.row.Row.TheVariants.{Now}
use Rattle.ppm_step.specs.declared.row.Seat.{Seat}
use Rattle.ppm_step.specs.declared.row.Then.TheVariants.{Load, Install, Broken}
use Rattle.ppm_tickets.specs.Heirs.{InheritsAt, MayBegin, ChecksSo}
use Rattle.ppm_tickets.specs.Homes.{Home, Popping}
use Rattle.ppm_tickets.specs.Lawful.{IsLocal, IsClaim, IsThief, Gives, Pops, Closed, active, active_at, is_local}
use Rattle.ppm_tickets.specs.Saw.{Sees}
use Rattle.ppm_tickets.specs.View.{word_as, view, kinds, bottoms, restart_or, seeking, restart_at}
use Rattle.ppm_tickets.specs.Words.{Word, Local, Taken, Spot, Message, Slot}
use Rattle.ppm_tickets.proofs.EffectLemmas.{deque_as, not_local_taken}
use Rattle.ppm_tickets.proofs.EstateLemmas.{as_shown}
use Rattle.ppm_tickets.proofs.HeirRows.{heirs_see}
use Rattle.ppm_tickets.proofs.ViewLemmas.{if_true}
use Rattle.ppm_frames.specs.Good.{link_or, link_at}
use Rattle.ppm_frames.specs.Skeletons.{Skeleton}
use Rattle.ppm_kept.specs.Fates.{Offered, Agrees}
use Rattle.ppm_kept.specs.Kept.{State}
use Rattle.ppm_kept.specs.Left.{Followed, left, IsAway}
use Rattle.ppm_kept.specs.Places.{places_of}
use Rattle.ppm_kept.specs.Running.{IsFair}
use Rattle.ppm_kept.proofs.LeftLemmas.{kind_away}
use Rattle.ppm_kept.proofs.LinkLemmas.{called_or}
use Rattle.ppm_runs.specs.Run.{setting, fate_of}
use Rattle.ppm_runs.specs.Follow.{IsHalves}
use Rattle.ppm_runs.specs.Sound.{IsRising, IsRisingEntry, KnownByPlaces, Noted, IsRestartThere, IsSoundAt, IsSoundRow, IsSound}
use Rattle.ppm_runs.proofs.OpenedLemmas.{link_read}
use Rattle.ppm_runs.proofs.ShownLemmas.{away}
use Rattle.ppm_runs.proofs.SoundRows.{Here, Blocks, SoundAt, seat_of, seeks, goes_to, by_slot as find_slot, by_rising, bottom_ok, bottom_low, bottom_high, offered, begins, restart_known, here_of, can_take, and_is, and_left, and_right}
use Rattle.ppm_runs.proofs.StandLemmas.{kinds_same}

-- by entries a load of a Check needs no more than tickets say
known_entries : (how : Takeover) (A : Type 0) → how ≡ ByEntries → KnownByPlaces how A
known_entries how A e = subst (λ (x : Takeover). KnownByPlaces x A) (sym e) tt

-- a message that rises is that of an entry that does
rising_back : (s : Shape) (x : Entry) → IsRising s (word_as (AnEntry x)) → IsRisingEntry s x
rising_back s (entries.Job t x) a = a
rising_back s (entries.Local t x) a = a
rising_back s (entries.Empty t) a = absurd a
rising_back s (entries.Taken t x) a = absurd a

module _ (s : Shape) (code : CodeParts) (ih : s.takeover ≡ ByEntries) (fair : IsFair code) (root : Tree (Frame FrameWord Point) Result) (input : Words) (state : RunState) (h : ℕ → Home) (forked taken : List ℕ) (l : List Followed) (t : Skeleton)
    (run : IsHalves s code root input state h forked taken l t) (agrees : Agrees t (λ r. fate_of (h r))) (made : ℕ) (few : made + 1 < 2 ^ 34) (sound : IsSound s code made state)
    (blocks : Blocks s code state.words run.lawful.1.board.gone h) where
  abbrev ws : List ℕ
  ws = state.words

  abbrev m : Spot → Word
  m = view s ws

  abbrev k : ℕ → RestartKind
  k = kinds s ws

  abbrev b : ℕ → ℕ
  b = bottoms s ws

  abbrev ghost : Spot → Word
  ghost = run.lawful.1.board.ghost

  abbrev z : State
  z = left (setting s code) l (places_of s state)

  -- a place that steals has noted what may be taken
  thief_notes : (q w j : ℕ) → IsThief (k q) w j → IsRising s (m (Message q))
  thief_notes q w j th = elim th [
    | inl e ↦ subst (Noted s m q) e (sound.noted q)
    | inr e ↦ subst (Noted s m q) e (sound.noted q)
  ]

  -- from a slot that is there
  thief_there : (q w j : ℕ) → q < s.processors → IsThief (k q) w j → (nat_lt w s.processors && nat_lt j s.slots) ≡ true
  thief_there q w j lt th =
      let known = and_right (bottom_is_there s (b q)) (kind_is_there s (k q)) (restart_known s code state h forked taken run.lawful made few sound blocks q lt) in elim th [
        | inl e ↦ subst (λ (x : RestartKind). kind_is_there s x ≡ true) e known
        | inr e ↦ subst (λ (x : RestartKind). kind_is_there s x ≡ true) e known
      ]

  -- a place that was followed by none is at its kind
  kind_at : (w : ℕ) → run.lawful.1.board.gone w ≡ false → z.kind w ≡ k w
  kind_at w stays = kind_away l (places_of s state).kind w (away l run.lawful.1.board.gone w run.gone stays) ∙ kinds_same s ws w

  module _ (c p v i : ℕ) (a : Here s code ws state.stand h forked taken made c p (Check v i)) where
    abbrev seat : Seat
    seat = seat_of s code ws c p (Check v i)

    abbrev Sound : Row → Type 0
    Sound row = SoundAt s code ws c p (Check v i) row

    abbrev Heir : Type 0
    Heir = InheritsAt s code state h forked taken run.lawful p

    by_message : (q w j : ℕ) → nat_lt q s.processors ≡ true → IsThief (k q) w j → Sound (found_at s seat 0 (TakenMessage q w j) (content_of (reading_at (TakenMessage q w j)) (read s ws (cells.MessageWord q))))
    by_message q w j there th = by_rising s code a q there (thief_notes q w j th) (taken_message s q w j) (λ x fit rising is.
        subst (λ (y : Bool). Sound (if y then Now (Load (TakenEntry q w j x)) else Now Broken)) (sym (can_take s x rising))
        ((thief_there q w j (ltb-true q s.processors there) th, known_entries s.takeover _ ih), tt))

    by_entry : (q w j : ℕ) (message : Entry) → (nat_lt w s.processors && nat_lt j s.slots) ≡ true → IsThief (k q) w j → m (Message q) ≡ word_as (AnEntry message)
        → Sound (found_at s seat 0 (TakenEntry q w j message) (content_of (reading_at (TakenEntry q w j message)) (read s ws (cells.EntryWord w j))))
    by_entry q w j message there th says = find_slot s code a w j there (taken_entry seat q w j message) (λ x fit is. won message (rising_back s message (subst (IsRising s) says (thief_notes q w j th))) (took q message x))
      where
        won : (message : Entry) → IsRisingEntry s message → (y : Bool) → Sound (if y then goes_on_with seat w j message else Now (with_kind seat Seek))
        won message rising false = seeks s code a
        won (entries.Job t x) rising true = ((lt-ltb (x + 4) (word_count s) rising.1, refl), tt)
        won (entries.Local t x) rising true = ((and_left (nat_lt w s.processors) (nat_lt j s.slots) there, known_entries s.takeover ⊥ ih), tt)
        won (entries.Empty t) rising true = absurd rising
        won (entries.Taken t x) rising true = absurd rising

    -- what a closed place was at
    module _ (w j r : ℕ) (lt : nat_lt w s.processors ≡ true) (from : j ≡ active_at ghost k b w → (it : Heir) × (it.place ≡ w)) (was : (n : ℕ) × (ghost (Slot w j) ≡ Local n r))
        (R : Restart) (is : restart_of (read s ws (cells.RestartWord w)) ≡ Some R) (ok : restart_is_there s R ≡ true) where
      restart_is : restart_at s ws w ≡ R
      restart_is = if_true (nat_lt w s.processors) (restart_or (restart_of (read s ws (cells.RestartWord w)))) seeking lt ∙ ap restart_or is

      kind_is : k w ≡ R.kind
      kind_is = ap (λ (y : Restart). y.kind) restart_is

      low_is : b w ≡ R.bottom
      low_is = ap (λ (y : Restart). y.bottom) restart_is

      known : kind_is_there s R.kind ≡ true
      known = and_right (bottom_is_there s R.bottom) (kind_is_there s R.kind) ok

      at_end : (K : RestartKind) → kind_is_there s K ≡ true → Sound (at_bottom seat w K)
      at_end (Run f y) ok = (goes_to s code a (Run f y) ok, tt)
      at_end (Bump x) ok = ((ok, known_entries s.takeover ⊥ ih), tt)
      at_end (Push1 x) ok = (goes_to s code a (Push1 x) ok, tt)
      at_end (Push2 x) ok = (goes_to s code a (Push1 x) ok, tt)
      at_end (Unwind f) ok = (goes_to s code a (Unwind f) ok, tt)
      at_end (Arrive x d) ok = (goes_to s code a (Arrive x d) ok, tt)
      at_end (Join x d) ok = (goes_to s code a (Join x d) ok, tt)
      at_end (Steal u n) ok = ((lt, known_entries s.takeover _ ih), tt)
      at_end (Check u n) ok = ((lt, known_entries s.takeover _ ih), tt)
      at_end Pop1 ok = seeks s code a
      at_end (Pop2 x) ok = seeks s code a
      at_end Seek ok = seeks s code a
      at_end (Take u n) ok = seeks s code a
      at_end (Take2 u) ok = seeks s code a

      above_end : (K : RestartKind) → Sound (above_bottom seat w R.bottom K)
      above_end (Push2 x) = ((and_is (nat_lt w s.processors) (nat_lt R.bottom s.slots) lt (bottom_slot R.bottom (and_left (bottom_is_there s R.bottom) (kind_is_there s R.kind) ok)), known_entries s.takeover ⊥ ih), tt)
        where
          bottom_slot : (n : ℕ) → bottom_is_there s n ≡ true → nat_lt n s.slots ≡ true
          bottom_slot n e = and_right _ (nat_lt n s.slots) e
      above_end (Run f y) = seeks s code a
      above_end (Bump x) = seeks s code a
      above_end (Push1 x) = seeks s code a
      above_end (Unwind f) = seeks s code a
      above_end (Arrive x d) = seeks s code a
      above_end (Join x d) = seeks s code a
      above_end Pop1 = seeks s code a
      above_end (Pop2 x) = seeks s code a
      above_end Seek = seeks s code a
      above_end (Steal u n) = seeks s code a
      above_end (Check u n) = seeks s code a
      above_end (Take u n) = seeks s code a
      above_end (Take2 u) = seeks s code a

      -- the job that was got back
      module _ (down : (j + 1 == R.bottom) ≡ true) where
        at_low : j ≡ b w - 1
        at_low = let up : j + 1 ≡ R.bottom = eqb-true (j + 1) R.bottom down in let low = low_is in omega (arith, low, up)

        entry_was : ghost (Slot w (b w - 1)) ≡ Local was.0 r
        entry_was = ap (λ (y : ℕ). ghost (Slot w y)) (sym at_low) ∙ was.1

        popping : (K : RestartKind) → k w ≡ K → ((x y : Word) → is_local x ≡ true → active K (b w) x y ≡ b w - 1) → Pops K (Local was.0 r) r → Sound (Now (Load (Offset r (b p))))
        popping K e low is_ =
            let at : j ≡ active_at ghost k b w = at_low ∙ sym (ap (λ (y : RestartKind). active y (b w) (ghost (Slot w (b w - 1))) (ghost (Slot w (b w)))) e ∙ low (ghost (Slot w (b w - 1))) (ghost (Slot w (b w))) (ap is_local entry_was)) in
            let it = from at in
            let stays : run.lawful.1.board.gone w ≡ false = ap run.lawful.1.board.gone (sym it.1) ∙ it.0.stays in
            let home : h r ≡ Popping w = run.lawful.1.board.board.only (Popping w) r tt stays (subst (λ (y : RestartKind). Pops y (ghost (Slot w (b w - 1))) r) (sym e) (subst (λ (y : Word). Pops K y r) (sym entry_was) is_)) in
            ((lt-ltb (r + 4) (word_count s) (offered s code a r (ap fate_of home)).0, refl), tt)

        below_end : (K : RestartKind) → k w ≡ K → Sound (below_bottom seat r K)
        below_end Pop1 e = popping Pop1 e (λ x y is_. ap (λ (q : Bool). if q then b w - 1 else b w) is_) refl
        below_end (Pop2 x) e = popping (Pop2 x) e (λ x y is_. ap (λ (q : Bool). if q then b w - 1 else b w) is_) (sym same, tt)
          where
            same : r ≡ x
            same = elim (deque_as run.lawful.1.board.board w (Pop2 x) e).here.0 [
              | inl d ↦ absurd (not_local_taken _ (subst IsLocal (sym entry_was) tt) d.0)
              | inr d ↦ subst (λ (y : Word). Gives y x) entry_was d.0
            ]
        below_end (Run f y) e = seeks s code a
        below_end (Bump x) e = seeks s code a
        below_end (Push1 x) e = seeks s code a
        below_end (Push2 x) e = seeks s code a
        below_end (Unwind f) e = seeks s code a
        below_end (Arrive x d) e = seeks s code a
        below_end (Join x d) e = seeks s code a
        below_end Seek e = seeks s code a
        below_end (Steal u n) e = seeks s code a
        below_end (Check u n) e = seeks s code a
        below_end (Take u n) e = seeks s code a
        below_end (Take2 u) e = seeks s code a

      slot_end : Sound (by_slot seat w j r R)
      slot_end = first (j == R.bottom) (j == R.bottom + 1) (j + 1 == R.bottom) refl
        where
          first : (x y q : Bool) → (j + 1 == R.bottom) ≡ q
              → Sound (if x then at_bottom seat w R.kind else (if y then above_bottom seat w R.bottom R.kind else (if q then below_bottom seat r R.kind else Now (with_kind seat Seek))))
          first true y q e = at_end R.kind known
          first false true q e = above_end R.kind
          first false false true e = below_end e R.kind kind_is
          first false false false e = seeks s code a

    by_restart : (w j r : ℕ) → nat_lt w s.processors ≡ true → (j ≡ active_at ghost k b w → (it : Heir) × (it.place ≡ w)) → (n : ℕ) × (ghost (Slot w j) ≡ Local n r)
        → Sound (found_at s seat 0 (ClosedRestart w j r) (content_of (reading_at (ClosedRestart w j r)) (read s ws (cells.RestartWord w))))
    by_restart w j r lt from was = by (restart_of (read s ws (cells.RestartWord w))) refl (sound.restarts w (ltb-true w s.processors lt))
      where
        by : (o : Option Restart) → restart_of (read s ws (cells.RestartWord w)) ≡ o → IsRestartThere s o → Sound (on_restart (read_so ARestart o) (follows s seat w j r))
        by None is ok = absurd ok
        by (Some R) is ok = subst (λ (y : Bool). Sound (if y then by_slot seat w j r R else Now Broken)) (sym ok) (slot_end w j r lt from was R is ok)

    -- the block that a closed place had built
    by_link : (r : ℕ) (it : Heir) → k it.place ≡ Bump r → nat_lt r (word_count s) ≡ true → Sound (found_at s seat 0 (ClosedLink r) (content_of (reading_at (ClosedLink r)) (read s ws (cells.BlockWord r))))
    by_link r it e there = by (link_of (read s ws (cells.BlockWord r))) refl
      where
        aw : IsAway l it.place
        aw = away l run.lawful.1.board.gone it.place run.gone it.stays

        kz : z.kind it.place ≡ Bump r
        kz = kind_at it.place it.stays ∙ e

        in_shape : it.place < s.processors
        in_shape = place_there it.place r e
          where
            out : (y : Bool) (q r : ℕ) → (if y then restart_or (restart_of (read s ws (cells.RestartWord q))) else seeking).kind ≡ Bump r → y ≡ true
            out true q r e = refl
            out false q r e = absurd (let two : Seek ≡ Bump r = e in cc)

            place_there : (q r : ℕ) → k q ≡ Bump r → q < s.processors
            place_there q r e = ltb-true q s.processors (out (nat_lt q s.processors) q r e)

        kind_or : (o : Option Link) → link_of (read s ws (cells.BlockWord r)) ≡ o → (link_at (z.words (cells.BlockWord r))).kind ≡ (link_or o).kind
        kind_or o is = ap (λ (x : ℕ). (link_at x).kind) (link_read s code fair root input state h forked taken l t run agrees it.place r in_shape aw kz) ∙ ap (λ (x : Option Link). (link_or x).kind) is

        opens : (K : LinkKind) → (link_at (z.words (cells.BlockWord r))).kind ≡ K → Sound (closed_link seat r K)
        opens (Called x y) q = (goes_to s code a (Run r 0) (and_is (nat_lt r (word_count s)) (nat_lt 0 2) there refl), tt)
        opens (Forked x y) q = (and_is (bottom_is_there s (b p)) (nat_lt r (word_count s)) (bottom_ok s code a) there, tt)
        opens Root q = absurd (none Root q (λ x y z_. cc) (λ x y z_. cc))
          where
            none : (K : LinkKind) → (link_at (z.words (cells.BlockWord r))).kind ≡ K → ((x y : ℕ) → K ≡ Called x y → ⊥) → ((x y : ℕ) → K ≡ Forked x y → ⊥) → ⊥
            none K q c f = elim (called_or (setting s code) fair root input z t run.kept it.place r kz) [
              | inl d ↦ c d.0 d.1 (sym q ∙ d.2)
              | inr d ↦ f d.0 d.1 (sym q ∙ d.2)
            ]
        opens (Branch d x) q = absurd (none (Branch d x) q (λ x y z_. cc) (λ x y z_. cc))
          where
            none : (K : LinkKind) → (link_at (z.words (cells.BlockWord r))).kind ≡ K → ((x y : ℕ) → K ≡ Called x y → ⊥) → ((x y : ℕ) → K ≡ Forked x y → ⊥) → ⊥
            none K q c f = elim (called_or (setting s code) fair root input z t run.kept it.place r kz) [
              | inl d ↦ c d.0 d.1 (sym q ∙ d.2)
              | inr d ↦ f d.0 d.1 (sym q ∙ d.2)
            ]

        by : (o : Option Link) → link_of (read s ws (cells.BlockWord r)) ≡ o → Sound (on_link (read_so ALink o) (λ link. closed_link seat r link.kind))
        by (Some link) is = opens link.kind (kind_or (Some link) is)
        by None is = absurd (let q : (link_at (z.words (cells.BlockWord r))).kind ≡ Root = kind_or None is in elim (called_or (setting s code) fair root input z t run.kept it.place r kz) [
          | inl d ↦ (let two : Root ≡ Called d.0 d.1 = sym q ∙ d.2 in cc)
          | inr d ↦ (let two : Root ≡ Forked d.0 d.1 = sym q ∙ d.2 in cc)
        ])

    -- whether its job was made and taken
    by_low : (w j r : ℕ) → (nat_lt w s.processors && nat_lt j s.slots) ≡ true → k w ≡ Push2 r → (is_local (ghost (Slot w (b w))) ≡ false → (it : Heir) × (it.place ≡ w)) → j ≡ b w
        → Sound (found_at s seat 0 (ClosedBottom w j r) (content_of (reading_at (ClosedBottom w j r)) (read s ws (cells.EntryWord w j))))
    by_low w j r there e from at = find_slot s code a w j there (closed_bottom seat r) by
      where
        begun : (n q : ℕ) → m (Slot w j) ≡ Taken n q → (y : Bool) → nat_lt q 64 ≡ y → Sound (if y then Now (Install (record { kind = Run (r + 5) 0; bottom = b p })) else Now (with_kind seat Seek))
        begun n q is false lt = seeks s code a
        begun n q is true lt =
            let less : q < 64 = ltb-true q 64 lt in
            let now : m (Slot w (b w)) ≡ Taken n q = ap (λ (y : ℕ). m (Slot w y)) (sym at) ∙ is in
            let shown : ghost (Slot w (b w)) ≡ Taken n q = as_shown (run.lawful.1.board.covers.slots w (b w)) (λ d. let far : 64 ≤ q = subst IsClaim now d in omega (arith, far, less)) ∙ now in
            let it = from (ap is_local shown) in
            let stays : run.lawful.1.board.gone w ≡ false = ap run.lawful.1.board.gone (sym it.1) ∙ it.0.stays in
            let low = blocks.pushes w r stays (inr e) in
            (goes_to s code a (Run (r + 5) 0) (and_is (nat_lt (r + 5) (word_count s)) (nat_lt 0 2) (lt-ltb (r + 5) (word_count s) low) refl), tt)

        by : (x : Entry) → IsEntry x → m (Slot w j) ≡ word_as (AnEntry x) → Sound (closed_bottom seat r x)
        by (entries.Taken n q) fit is = begun n q is (nat_lt q 64) refl
        by (entries.Empty n) fit is = seeks s code a
        by (entries.Local n q) fit is = seeks s code a
        by (entries.Job n q) fit is = seeks s code a

    -- a branch that is about to begin may be taken
    fate_at : (r : ℕ) → MayBegin (Closed s.takeover m) m k b h run.lawful.1.board p r → fate_of (h r) ≡ Offered
    fate_at r may = elim may [
      | inl e ↦ ap fate_of e
      | inr it ↦ elim it.1 [ inl e ↦ ap fate_of e | inr e ↦ ap fate_of e ]
    ]

    by_point : (point : RowPoint) → stand_of state c ≡ IsWithin seat (Now (Load point)) → ChecksSo (Closed s.takeover m) m k b h run.lawful.1.board p (Now (Load point)) → point_is_there s seat point ≡ true → (u : ℕ)
        → Sound (found_at s seat u point (content_of (reading_at point) (read s ws (cell_at seat u point))))
    by_point (TakenMessage q w j) e sees there u = by_message q w j there sees
    by_point (TakenEntry q w j message) e sees there u = by_entry q w j message there sees.0 sees.1
    by_point (ClosedRestart w j r) e sees there u = by_restart w j r there sees.0 sees.1
    by_point (ClosedLink r) e sees there u = by_link r sees.0 sees.1 there
    by_point (ClosedBottom w j r) e sees there u = by_low w j r there sees.0 sees.1 sees.2
    by_point (Offset r low) e sees there u =
        let at : low ≡ b p = (subst (IsSoundAt s code m) e (sound.stands c)).0.1 in
        subst (λ (x : ℕ). Sound (found_at s seat u (Offset r x) (content_of (reading_at (Offset r x)) (read s ws (cell_at seat u (Offset r x)))))) (sym at) (begins s code a r (b p) (fate_at r sees) (bottom_low s code a) (bottom_high s code a))
    by_point _ e sees there u = absurd sees

  pub checks_sound : (c : ℕ) (seat : Seat) (point : RowPoint) (v i : ℕ) → stand_of state c ≡ IsWithin seat (Now (Load point)) → seat.restart.kind ≡ Check v i → (u : ℕ)
      → IsSoundRow s code m seat (found_at s seat u point (content_of (reading_at point) (read s ws (cell_at seat u point))))
  checks_sound c seat point v i e ke u =
      let sees : Sees s m k b c (IsWithin seat (Now (Load point))) = subst (Sees s m k b c) e (run.lawful.1.sees c) in
      let p = seat.place in
      let a = here_of s code state h forked taken run.lawful made few sound blocks c p sees.0.carried (Check v i) (sees.0.at.kind ∙ ke) in
      let path : seat_of s code ws c p (Check v i) ≡ seat = (λ j. record { own = sym sees.0.own j; place = p; restart = record { kind = sym ke j; bottom = sees.0.at.bottom j } }) in
      subst (λ (o : Seat). IsSoundRow s code m o (found_at s o u point (content_of (reading_at point) (read s ws (cell_at o u point))))) path
      (by_point c p v i a point (e ∙ ap (λ (o : Seat). IsWithin o (Now (Load point))) (sym path)) (heirs_see s code ih state h forked taken run.lawful c seat (Now (Load point)) v i e ke)
      (subst (λ (o : Seat). point_is_there s o point ≡ true) (sym path) sees.2) u)
