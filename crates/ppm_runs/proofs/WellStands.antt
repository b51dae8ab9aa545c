-- Strands of a run's state whose tree is well meet no broken words, wherever their processors stand.
use Rattle.std.proofs.Common.{◌≡◌, ◌≢◌, ◌≤◌, ◌<◌, ℕ, zero, suc, ◌+◌, Bool, true, List, [], ◌∷◌, length, Option, Some, inl, inr, refl, sym, ap, ◌∙◌, subst, subst₂, arith}
use Rattle.std.specs.Prelude.{slice_get}
use Rattle.std.proofs.lemmas.Bool.{lt-ltb}
use Rattle.ppm_strands.specs.Tree.{Words, Tree}
use Rattle.ppm_cells.specs.Cells.{pool_at, word_count}
use Rattle.ppm_cells.specs.Memory.{read}
use Rattle.ppm_cells.specs.declared.cell.Cell.{Cell}
use Rattle.ppm_cells.specs.declared.cell.Cell.TheVariants.{FinishWord, RoomCounter}
use Rattle.ppm_cells.specs.declared.link.LinkKind.TheVariants.{Root}
use Rattle.ppm_cells.specs.declared.restart.RestartKind.{RestartKind}
use Rattle.ppm_cells.specs.declared.restart.RestartKind.TheVariants.{Run, Bump, Unwind, Arrive, Join}
use Rattle.ppm_cells.specs.declared.shape.Shape.{Shape}
use Rattle.ppm_strands.specs.Strand.{Frame}
use Rattle.ppm_code.specs.Sizes.{slots_at}
use Rattle.ppm_code.specs.Capsules.{capsule_of}
use Rattle.ppm_code.specs.Strands.{Point, Result, instrs_in, instrs_of}
use Rattle.ppm_code.specs.declared.code.Capsule.{Capsule as CodeCapsule}
use Rattle.ppm_code.specs.declared.code.CodeParts.{CodeParts}
use Rattle.ppm_code.specs.declared.location.FrameWord.{FrameWord}
use Rattle.ppm_step.specs.Contents.{content_of, word_of}
use Rattle.ppm_step.specs.Frames.{Rest, Loads, Stores, rest_of}
use Rattle.ppm_step.specs.Points.{cell_at, reading_at, header_word}
use Rattle.ppm_step.specs.Rows.{found_at, row_of}
use Rattle.ppm_step.specs.Standings.{IsWithin, IsRunning, point_is_there, rest_is_there, running_if, running, enters}
use Rattle.ppm_step.specs.State.{State as RunState, stand_of}
use Rattle.ppm_step.specs.There.{is_there, bottom_is_there, kind_is_there, restart_is_there}
use Rattle.ppm_step.specs.declared.content.Content.{Content}
use Rattle.ppm_step.specs.declared.row.Point.{Point as RowPoint}
use Rattle.ppm_step.specs.declared.row.Point.TheVariants.{Header, Offset}
use Rattle.ppm_step.specs.declared.row.Row.TheVariants.{Now}
use Rattle.ppm_step.specs.declared.row.Seat.{Seat}
use Rattle.ppm_step.specs.declared.row.Then.TheVariants.{Load}
use Rattle.ppm_tickets.specs.Homes.{Home}
use Rattle.ppm_tickets.specs.Saw.{IsStrand, IsQuiet, HasSeen, Strand, Looks, Carried, Sits, Sees}
use Rattle.ppm_tickets.proofs.QuietLemmas.{rest_quiet, begun_quiet}
use Rattle.ppm_tickets.specs.View as spots
use Rattle.ppm_tickets.specs.Words.{Spot, Word}
use Rattle.ppm_frames.specs.Views.{view}
use Rattle.ppm_frames.specs.Skeletons.{Begins, InPlace, Skeleton, Leaf}
use Rattle.ppm_frames.proofs.ViewLemmas.{view_is}
use Rattle.ppm_kept.specs.Running.{IsFair, number_at, limit, LiesApart, HasCome}
use Rattle.ppm_kept.specs.Kept.{Setting, seat_at, State, start, end_of, ceiling, Under, Going, IsKept}
use Rattle.ppm_kept.specs.Copies.{IsKnown}
use Rattle.ppm_kept.specs.Left.{Followed, left}
use Rattle.ppm_kept.specs.Loads.{IsLoadable}
use Rattle.ppm_kept.specs.Moves.{stores}
use Rattle.ppm_kept.specs.Places.{places_of}
use Rattle.ppm_kept.proofs.BlockLemmas.{header_is}
use Rattle.ppm_kept.proofs.LeftLemmas.{shown as left_shown}
use Rattle.ppm_kept.proofs.LoadLemmas.{all_loads_show}
use Rattle.ppm_frames.proofs.SkeletonLemmas.{inside_at}
use Rattle.ppm_kept.proofs.PlaceLemmas.{not_free}
use Rattle.ppm_kept.proofs.OfLemmas.{begins as begins_so}
use Rattle.ppm_kept.proofs.RunLemmas.{by_loads, by_stores}
use Rattle.ppm_kept.proofs.Rows.{run_row_keeps}
use Rattle.ppm_runs.specs.Deques.{StrandsAreSound}
use Rattle.ppm_runs.specs.Follow.{IsHalves}
use Rattle.ppm_runs.specs.Run.{setting, IsRun}
use Rattle.ppm_runs.specs.Sound.{IsSoundRow, IsSoundAt, IsUnbroken, IsSound}
use Rattle.ppm_runs.specs.Well.{IsWell}
use Rattle.ppm_runs.proofs.ShownLemmas.{halves, carried_away, carried_kind, Within, within, Runs, runs}
use Rattle.ppm_runs.proofs.SoundRows.{and_left}
use Rattle.ppm_runs.proofs.WellLeft.{well_left}
use Rattle.ppm_runs.proofs.WellRows.{strand_walk, strand_sound, UpAt, up_found, up_there, NoneAt, arrive_row, BumpAt, bump_found, bump_there, JoinAt, join_found, join_there, part_well}
use Rattle.ppm_runs.proofs.WellRuns.{at_leaf, runs as run_at, low, come_there, own_low}

-- an item of a list that is long enough
record Got {A : Type 0} (l : List A) (n : ℕ) : Type 0 where
  pub value : A
  pub is : slice_get l n ≡ Some value

got : {A : Type 0} (l : List A) (n : ℕ) → n < length l → Got l n
got [] n lt = absurd (omega (arith, lt))
got (x ∷ l) zero lt = record { value = x; is = refl }
got (x ∷ l) (suc n) lt = let g = got l n (omega (arith, lt)) in record { value = g.value; is = g.is }

-- of a row that begins with a header
abbrev HeaderAt : (f y : ℕ) → RowPoint → Type 0
HeaderAt f y (Header g z) = (g ≡ f) × (z ≡ y)
HeaderAt f y _ = ⊥

module _ (s : Shape) (code : CodeParts) (fair : IsFair code) (root : Tree (Frame FrameWord Point) Result) (input : Words) (state : RunState) (h : ℕ → Home) (forked taken : List ℕ) (l : List Followed) (t : Skeleton) (run : IsHalves s code root input state h forked taken l t)
    (made : ℕ) (sound : IsSound s code made state) (well_seen : IsWell code (view s state.words) Root t) where
  abbrev i : Setting
  i = setting s code

  abbrev z : State
  z = left i l (places_of s state)

  law : IsKept i root input z t
  law = run.kept

  abbrev spotted : Spot → Word
  spotted = spots.view s state.words

  well : IsWell code z.words Root t
  well = well_left i root input (places_of s state) l run.apart t law well_seen

  -- what a load of a strand finds is what the frames see
  seen_at : (c p : ℕ) → Carried s spotted c p → (cell : Cell) → IsLoadable i z p cell → z.words cell ≡ read s state.words cell
  seen_at c p carried cell can = left_shown i root input (places_of s state) l run.apart t law p (carried_away s code root input state h forked taken l t run c p carried) cell can.in_use ∙ view_is s state.words cell can.cell_is

  header_there : (seat : Seat) (p f y : ℕ) → p < s.processors → z.kind p ≡ Run f y → (point : RowPoint) → HeaderAt f y point → point_is_there s seat point ≡ true
  header_there seat p f y lt kind (Header g x) a = subst₂ (λ (g x : ℕ). is_there s (header_word g x) ≡ true) (sym a.0) (sym a.1)
      (lt-ltb (f + 2 + y) (word_count s) (own_low i fair root input z t law p lt f y kind (f + 2 + y) (2 + y) (omega arith) (let l = low i fair root input z t law p lt f y kind in omega (arith, l))))
  header_there seat p f y lt kind _ a = absurd a

  -- the first of a row
  begin_row : (seat : Seat) → seat.place < s.processors → (k : RestartKind) → seat.restart.kind ≡ k → IsStrand k → IsStrand seat.restart.kind → z.kind seat.place ≡ k → restart_is_there s seat.restart ≡ true → IsSoundRow s code spotted seat (row_of s seat k)
  begin_row seat lt (Run f y) ke is strand kind there = strand_sound i t (HeaderAt f y) seat spotted strand there (header_there seat seat.place f y lt kind) (Now (Load (Header f y))) (refl, refl)
  begin_row seat lt (Bump r) ke is strand kind there = strand_sound i t (BumpAt i fair root input z t law well seat.place lt r kind) seat spotted strand there (bump_there i fair root input z t law well seat.place lt r kind seat) (row_of s seat (Bump r)) refl
  begin_row seat lt (Unwind f) ke is strand kind there = strand_sound i t (UpAt i fair root input z t law well seat.place lt f kind) seat spotted strand there (up_there i fair root input z t law well seat.place lt f kind seat) (row_of s seat (Unwind f)) refl
  begin_row seat lt (Arrive r d) ke is strand kind there = strand_sound i t (NoneAt i fair root input z t law well seat.place lt r d kind) seat spotted strand there (λ point a. absurd a) (row_of s seat (Arrive r d)) (arrive_row i fair root input z t law well seat.place lt r d kind seat)
  begin_row seat lt (Join r d) ke is strand kind there = strand_sound i t (JoinAt i fair root input z t law well seat.place lt r d kind seat.restart.bottom) seat spotted strand there (join_there i fair root input z t law well seat.place lt r d kind seat.restart.bottom seat) (row_of s seat (Join r d)) (refl, refl)
  begin_row seat lt _ ke is strand kind there = absurd is

  -- a header names a capsule, which begins with what is there
  enters_well : (seat : Seat) (f y : ℕ) → seat.restart.kind ≡ Run f y → seat.place < s.processors → z.kind seat.place ≡ Run f y → restart_is_there s seat.restart ≡ true
      → IsUnbroken (enters s code seat seat.restart.kind (slice_get code.capsules (z.words (header_word f y))))
  enters_well seat f y ke lt kind there =
      let p = seat.place in
      let number = z.words (header_word f y) in
      let number_low : number < length code.capsules = subst (λ (x : ℕ). x < length code.capsules) (sym (ap z.words (header_is f y (low i fair root input z t law p lt f y kind))))
      (part_well i fair root input z t law well p lt (run_at i fair root input z t law p lt f y kind).around _ (at_leaf i fair root input z t law p lt f y kind)) in
      let g = got code.capsules number number_low in
      let under = begins_so s code z.words p f y fair.code_is (let r = (law.rooms p).1 in subst (λ (k : RestartKind). ceiling i z.words p k ≤ end_of i p) kind r) in
      let bottom = and_left (bottom_is_there s seat.restart.bottom) (kind_is_there s seat.restart.kind) there in
      let ok = come_there i fair root input z t law p lt f y kind seat bottom (rest_of s code p (record { frame = f; copy = y; block = 0 }) (capsule_of s.arrays (instrs_of code number))) (inl under) in
      subst (λ (k : RestartKind). IsUnbroken (enters s code seat k (slice_get code.capsules number))) (sym ke)
      (subst (λ (o : Option CodeCapsule). IsUnbroken (enters s code seat (Run f y) o)) (sym g.is)
      (subst (λ (b : Bool). IsUnbroken (running_if seat (rest_of s code p (record { frame = f; copy = y; block = 0 }) (capsule_of s.arrays g.value.instrs)) b))
      (sym (subst (λ (o : Option CodeCapsule). rest_is_there s seat (rest_of s code p (record { frame = f; copy = y; block = 0 }) (capsule_of s.arrays (instrs_in o))) ≡ true) g.is ok)) tt))

  -- each load of a row
  load_row : (c : ℕ) (seat : Seat) (point : RowPoint) → stand_of state c ≡ IsWithin seat (Now (Load point)) → (k : RestartKind) → seat.restart.kind ≡ k → IsStrand k → (u : ℕ)
      → IsSoundRow s code spotted seat (found_at s seat u point (content_of (reading_at point) (read s state.words (cell_at seat u point))))
  load_row c seat point e k ke is u = by k ke is
    where
      w : Within s code root input state h forked taken l t run c seat (Now (Load point))
      w = within s code root input state h forked taken l t run c seat (Now (Load point)) e

      there : restart_is_there s seat.restart ≡ true
      there = w.sits.there

      strand : (k : RestartKind) → seat.restart.kind ≡ k → IsStrand k → IsStrand seat.restart.kind
      strand k ke is = subst IsStrand (sym ke) is

      kind : (k : RestartKind) → seat.restart.kind ≡ k → z.kind seat.place ≡ k
      kind k ke = w.kind ∙ ke

      does : (k : RestartKind) → seat.restart.kind ≡ k → Under i z.words seat.place k (Now (Load point))
      does k ke = subst (λ (a : RestartKind). Under i z.words seat.place a (Now (Load point))) ke w.does

      -- the word that is found, of a cell that frames have
      shown : (k : RestartKind) → seat.restart.kind ≡ k → IsKnown k → IsLoadable i z seat.place (cell_at seat u point)
      shown k ke known = subst (λ (x : Seat). IsLoadable i z seat.place (cell_at x u point)) (λ a. record { own = seat.own; place = seat.place; restart = record { kind = sym ke a; bottom = seat.restart.bottom } })
          ((all_loads_show i fair root input z t law seat.place w.place).rows k known (kind k ke) seat.own seat.restart.bottom u point w.doing)

      found_as : IsLoadable i z seat.place (cell_at seat u point) → IsSoundRow s code spotted seat (found_at s seat u point (content_of (reading_at point) (z.words (cell_at seat u point))))
          → IsSoundRow s code spotted seat (found_at s seat u point (content_of (reading_at point) (read s state.words (cell_at seat u point))))
      found_as can a = subst (λ (x : ℕ). IsSoundRow s code spotted seat (found_at s seat u point (content_of (reading_at point) x))) (seen_at c seat.place w.sits.carried (cell_at seat u point) can) a

      by : (k : RestartKind) → seat.restart.kind ≡ k → IsStrand k → IsSoundRow s code spotted seat (found_at s seat u point (content_of (reading_at point) (read s state.words (cell_at seat u point))))
      by (Run f y) ke is = subst (λ (x : RowPoint). IsSoundRow s code spotted seat (found_at s seat u x (content_of (reading_at x) (read s state.words (cell_at seat u x))))) (sym (point_is (does (Run f y) ke))) (
        subst (λ (x : ℕ). IsUnbroken (enters s code seat seat.restart.kind (slice_get code.capsules x))) (seen_at c seat.place w.sits.carried (header_word f y) ((all_loads_show i fair root input z t law seat.place w.place).headers f y (kind (Run f y) ke)))
            (enters_well seat f y ke w.place (kind (Run f y) ke) there),
        tt,
      )
        where
          point_is : Now (Load point) ≡ Now (Load (Header f y)) → point ≡ Header f y
          point_is q = cc
      by (Bump r) ke is =
          let At = BumpAt i fair root input z t law well seat.place w.place r (kind (Bump r) ke) in
          let u_ = does (Bump r) ke in
          let here : At point = strand_walk i t At (seat_at seat.place (Bump r) u_.0) z.words (bump_found i fair root input z t law well seat.place w.place r (kind (Bump r) ke) (seat_at seat.place (Bump r) u_.0) w.place 0) u_.1 (row_of s (seat_at seat.place (Bump r) u_.0) (Bump r)) (Now (Load point)) refl u_.2 in
          found_as (shown (Bump r) ke tt) (strand_sound i t At seat spotted (strand (Bump r) ke is) there (bump_there i fair root input z t law well seat.place w.place r (kind (Bump r) ke) seat) _
          (bump_found i fair root input z t law well seat.place w.place r (kind (Bump r) ke) seat w.place u point here))
      by (Unwind f) ke is =
          let At = UpAt i fair root input z t law well seat.place w.place f (kind (Unwind f) ke) in
          let u_ = does (Unwind f) ke in
          let here : At point = strand_walk i t At (seat_at seat.place (Unwind f) u_.0) z.words (up_found i fair root input z t law well seat.place w.place f (kind (Unwind f) ke) (seat_at seat.place (Unwind f) u_.0) 0) u_.1 (row_of s (seat_at seat.place (Unwind f) u_.0) (Unwind f)) (Now (Load point)) refl u_.2 in
          found_as (shown (Unwind f) ke tt) (strand_sound i t At seat spotted (strand (Unwind f) ke is) there (up_there i fair root input z t law well seat.place w.place f (kind (Unwind f) ke) seat) _
          (up_found i fair root input z t law well seat.place w.place f (kind (Unwind f) ke) seat u point here))
      by (Arrive r d) ke is =
          let At = NoneAt i fair root input z t law well seat.place w.place r d (kind (Arrive r d) ke) in
          let u_ = does (Arrive r d) ke in
          absurd (strand_walk i t At (seat_at seat.place (Arrive r d) u_.0) z.words (λ x a. absurd a) u_.1 (row_of s (seat_at seat.place (Arrive r d) u_.0) (Arrive r d)) (Now (Load point)) (arrive_row i fair root input z t law well seat.place w.place r d (kind (Arrive r d) ke) (seat_at seat.place (Arrive r d) u_.0)) u_.2)
      by (Join r d) ke is = found_as (shown (Join r d) ke tt) (strand_sound i t (JoinAt i fair root input z t law well seat.place w.place r d (kind (Join r d) ke) seat.restart.bottom) seat spotted (strand (Join r d) ke is) there (join_there i fair root input z t law well seat.place w.place r d (kind (Join r d) ke) seat.restart.bottom seat) _
          (join_found i fair root input z t law well seat.place w.place r d (kind (Join r d) ke) seat u point (here (does (Join r d) ke))))
        where
          here : Under i z.words seat.place (Join r d) (Now (Load point)) → JoinAt i fair root input z t law well seat.place w.place r d (kind (Join r d) ke) seat.restart.bottom point
          here (inl u_) = with_bottom point (strand_walk i t (JoinAt i fair root input z t law well seat.place w.place r d (kind (Join r d) ke) u_.0) (seat_at seat.place (Join r d) u_.0) z.words
              (join_found i fair root input z t law well seat.place w.place r d (kind (Join r d) ke) (seat_at seat.place (Join r d) u_.0) 0) u_.1 (row_of s (seat_at seat.place (Join r d) u_.0) (Join r d)) (Now (Load point)) (refl, refl) u_.2) (quiet_bottom point refl)
            where
              with_bottom : (x : RowPoint) → JoinAt i fair root input z t law well seat.place w.place r d (kind (Join r d) ke) u_.0 x → ((q b : ℕ) → x ≡ Offset q b → b ≡ seat.restart.bottom) → JoinAt i fair root input z t law well seat.place w.place r d (kind (Join r d) ke) seat.restart.bottom x
              with_bottom (Offset q b) a own = (a.0, a.1, a.2, own q b refl)
              with_bottom x a own = a

              quiet_bottom : (x : RowPoint) → point ≡ x → (q b : ℕ) → x ≡ Offset q b → b ≡ seat.restart.bottom
              quiet_bottom x e q b is_ = quiet_is w.seen
                where
                  quiet_is : HasSeen s (spots.with_restarts spotted (spots.kinds s state.words) (spots.bottoms s state.words)) seat (Now (Load point)) → b ≡ seat.restart.bottom
                  quiet_is (Strand is_strand quiet) = (subst (λ (y : RowPoint). IsQuiet seat (Now (Load y))) (e ∙ is_) quiet).1
                  quiet_is (Looks v ws fit eq saw) =
                      let all = subst (IsQuiet seat) eq (rest_quiet seat s v (row_of s seat seat.restart.kind) ws (begun_quiet seat s seat.restart.kind refl (strand (Join r d) ke is))) in
                      (subst (λ (y : RowPoint). IsQuiet seat (Now (Load y))) (e ∙ is_) all).1
          here (inr c_) = absurd (let q = c_.is in cc)
      by _ ke is = absurd is

  -- a capsule under way
  module _ (c : ℕ) (seat : Seat) (rest : Rest) (e : stand_of state c ≡ IsRunning seat rest) where
    w_ : Runs s code root input state h forked taken l t run c seat rest
    w_ = runs s code root input state h forked taken l t run c seat rest e

    sees_running : Sits s spotted (spots.kinds s state.words) (spots.bottoms s state.words) c seat
    sees_running = (subst (Sees s spotted (spots.kinds s state.words) (spots.bottoms s state.words) c) e (run.lawful.1.sees c)).0

    restart_there : restart_is_there s seat.restart ≡ true
    restart_there = sees_running.there

    bottom_ok : bottom_is_there s seat.restart.bottom ≡ true
    bottom_ok = and_left (bottom_is_there s seat.restart.bottom) (kind_is_there s seat.restart.kind) restart_there

    -- its place runs a frame
    record Framing : Type 0 where
      pub frame : ℕ
      pub copy : ℕ
      pub kind : z.kind seat.place ≡ Run frame copy
      pub come : HasCome s code z.words seat.place frame copy rest

    framing : Framing
    framing = by (z.kind seat.place) refl w_.does
      where
        by : (k : RestartKind) → z.kind seat.place ≡ k → Going i z.words seat.place k rest → Framing
        by (Run f y) ke go = record { frame = f; copy = y; kind = ke; come = go }
        by (Bump r) ke go = absurd go
        by (Unwind f) ke go = absurd go
        by (Arrive r d) ke go = absurd go
        by (Join r d) ke go = absurd go
        by _ ke go = absurd go

  rests_there : (c : ℕ) (seat : Seat) (cell : Cell) (next : ℕ → Rest) → stand_of state c ≡ IsRunning seat (Loads cell next) → rest_is_there s seat (next (read s state.words cell)) ≡ true
  rests_there c seat cell next e =
      let g = framing c seat (Loads cell next) e in
      let w = w_ c seat (Loads cell next) e in
      let can = ((all_loads_show i fair root input z t law seat.place w.place).capsules g.frame g.copy cell next g.kind w.doing w.here) in
      let low_ : pool_at s seat.place ≤ z.words (RoomCounter seat.place) = subst (λ (k : RestartKind). start i seat.place ≤ ceiling i z.words seat.place k) g.kind (law.rooms seat.place).0 in
      subst (λ (x : ℕ). rest_is_there s seat (next x) ≡ true) (seen_at c seat.place (sees_running c seat (Loads cell next) e).carried cell can)
      (come_there i fair root input z t law seat.place w.place g.frame g.copy g.kind seat (bottom_ok c seat (Loads cell next) e) (next (z.words cell)) (by_loads s code fair z.words seat.place g.frame g.copy cell next g.come low_))

  -- words of the frame are no free ones
  lies_apart : (p f y : ℕ) (lt : p < s.processors) (ke : z.kind p ≡ Run f y) → LiesApart s code z.words p f y
  lies_apart p f y lt ke o_ o below end same =
      let r = run_at i fair root input z t law p lt f y ke in
      not_free i fair root input z t law p r.around (Leaf (InPlace p) (Begins y) f (slots_at code (number_at s code z.words f y))) (f + o_) o (at_leaf i fair root input z t law p lt f y ke)
      (let a = inside_at f (6 + slots_at code (number_at s code z.words f y)) (f + o_) o_ refl below in omega (arith, a))
      (same ∙ ap (λ (x : ℕ). x + o) (sym (ap (ceiling i z.words p) ke))) (subst (λ (x : ℕ). x < limit s code p) (sym same) end)

  stored_there : (c : ℕ) (seat : Seat) (cell : Cell) (content : Content) (next : Rest) → stand_of state c ≡ IsRunning seat (Stores cell content next) → rest_is_there s seat next ≡ true
  stored_there c seat cell content next e =
      let g = framing c seat (Stores cell content next) e in
      let w = w_ c seat (Stores cell content next) e in
      let kept = (run_row_keeps i fair root input z t law seat.place w.place g.frame g.copy g.kind).stores seat cell content next 0 w.doing in
      let on = by_stores s code fair z.words seat.place g.frame g.copy (low i fair root input z t law seat.place w.place g.frame g.copy g.kind) (lies_apart seat.place g.frame g.copy w.place g.kind) cell content next g.come in
      come_there i fair root input (stores z seat.place cell (word_of content) (running s seat next)) t kept seat.place w.place g.frame g.copy g.kind seat (bottom_ok c seat (Stores cell content next) e) next on.come

  spared_there : (c : ℕ) (seat : Seat) (cell : Cell) (content : Content) (next : Rest) → stand_of state c ≡ IsRunning seat (Stores cell content next) → cell ≢ FinishWord
  spared_there c seat cell content next e q =
      let g = framing c seat (Stores cell content next) e in
      let w = w_ c seat (Stores cell content next) e in
      elim ((run_row_keeps i fair root input z t law seat.place w.place g.frame g.copy g.kind).cells cell content next w.doing) [
        | inl a ↦ (let x = sym q ∙ a.1 in cc)
        | inr a ↦ elim a [ inl b ↦ (let x = sym q ∙ b.1 in cc) | inr b ↦ (let x = sym q ∙ b.1 in cc) ]
      ]

  pub halves_sound : StrandsAreSound s code state
  halves_sound = record {
    begins = λ c p r e is.
        let sees = subst (Sees s spotted (spots.kinds s state.words) (spots.bottoms s state.words) c) e (run.lawful.1.sees c) in
        begin_row (record { own = c; place = p; restart = r }) sees.0.place r.kind refl is is (carried_kind s code root input state h forked taken l t run c p sees.0 ∙ sees.1.kind) (subst (IsSoundAt s code spotted) e (sound.stands c));
    loads = λ c seat point e is u. load_row c seat point e seat.restart.kind refl is u;
    rests = rests_there;
    stored = stored_there;
    spared = spared_there;
  }

-- by places
pub strands_sound : (s : Shape) (code : CodeParts) → IsFair code → (root : Tree (Frame FrameWord Point) Result) (input : Words) (state : RunState) (h : ℕ → Home) (forked taken : List ℕ) (t : Skeleton)
    → IsRun s code root input state h forked taken t → (made : ℕ) → IsSound s code made state → IsWell code (view s state.words) Root t → StrandsAreSound s code state
strands_sound s code fair root input state h forked taken t run made sound well = halves_sound s code fair root input state h forked taken [] t (halves run) made sound well
