-- A processor that takes steps at a place that has won a job begins it, and makes a work turn within thirteen of its own steps.
use Rattle.std.proofs.Common.{◌≡◌, ◌≢◌, ◌⊎◌, ◌≤◌, ◌<◌, ◌+◌, if◌then◌else◌, ℕ, Bool, true, false, List, [], ◌∷◌, ◌++◌, Option, Some, None, inl, inr, refl, sym}
use Rattle.std.proofs.Common.{ap, ◌∙◌, subst, arith}
use Rattle.std.specs.List.{AllByRecursion}
use Rattle.std.specs.Prelude.{slice_get, slice_set}
use Rattle.std.proofs.lemmas.Bool.{cases_eq, ne_eqb, lt-ltb, true≢false}
use Rattle.ppm_strands.specs.Tree.{Words, Tree}
use Rattle.ppm_cells.specs.Cells.{IsCell}
use Rattle.ppm_cells.specs.Memory.{read, AreWordsOf, write as store}
use Rattle.ppm_cells.specs.declared.cell.Cell.{Cell}
use Rattle.ppm_cells.specs.declared.cell.Cell.TheVariants as cells
use Rattle.ppm_cells.specs.declared.entry.Entry.TheVariants as entries
use Rattle.ppm_cells.specs.declared.restart.Restart.{Restart}
use Rattle.ppm_cells.specs.declared.restart.RestartKind.{RestartKind}
use Rattle.ppm_cells.specs.declared.restart.RestartKind.TheVariants.{Steal, Check}
use Rattle.ppm_cells.specs.declared.shape.Shape.{Shape}
use Rattle.ppm_strands.specs.Strand.{Frame}
use Rattle.ppm_code.specs.Strands.{Point, Result}
use Rattle.ppm_code.specs.declared.code.CodeParts.{CodeParts}
use Rattle.ppm_code.specs.declared.location.FrameWord.{FrameWord}
use Rattle.ppm_layout.specs.Root.{root_strand}
use Rattle.ppm_step.specs.Among.{IsTurnAmong}
use Rattle.ppm_step.specs.Contents.{content_of}
use Rattle.ppm_step.specs.Laws.{reached, finish_at}
use Rattle.ppm_step.specs.Points.{cell_at, reading_at}
use Rattle.ppm_step.specs.Rows.{found_at, taken_message, taken_entry, on_entry}
use Rattle.ppm_step.specs.Standings.{Standing, IsLost, IsPlaced, IsAt, IsWithin, IsRunning, IsBroken, IsDone, stands, row_is_there, begun}
use Rattle.ppm_step.specs.State.{State as RunState, stand_of, stand_in, acts, happens, opening, is_work, is_done_at}
use Rattle.ppm_step.specs.There.{restart_is_there}
use Rattle.ppm_step.proofs.ThereLemmas.{restart_fits}
use Rattle.ppm_cells.proofs.CellLemmas.{few_words}
use Rattle.ppm_cells.specs.Restart.{restart_word}
use Rattle.ppm_step.specs.declared.content.Content.{Content}
use Rattle.ppm_step.specs.declared.content.Content.TheVariants.{AnEntry}
use Rattle.ppm_step.specs.declared.content.Reading.TheVariants.{AsEntry, AsNumber}
use Rattle.ppm_step.specs.declared.row.Point.{Point as RowPoint}
use Rattle.ppm_step.specs.declared.row.Point.TheVariants.{Offset, TakenMessage, TakenEntry}
use Rattle.ppm_step.specs.declared.row.Row.{Row}
use Rattle.ppm_step.specs.declared.row.Row.TheVariants.{Now, Exchange}
use Rattle.ppm_step.specs.declared.row.Seat.{Seat}
use Rattle.ppm_step.specs.declared.row.Then.TheVariants.{Load, Install, Begin, Broken}
use Rattle.ppm_step.specs.declared.turn.Act.{Act}
use Rattle.ppm_step.specs.declared.turn.Act.TheVariants.{Step}
use Rattle.ppm_step.specs.declared.turn.Turn.{Turn}
use Rattle.ppm_step.proofs.FinishLemmas.{opening_spares}
use Rattle.ppm_tickets.specs.Along.{homes, forked as forked_in, taken as taken_in}
use Rattle.ppm_tickets.specs.Homes.{Unborn}
use Rattle.ppm_tickets.specs.Lawful.{IsTaken, Steals}
use Rattle.ppm_tickets.specs.Saw.{Carried, IsStrand, Sees}
use Rattle.ppm_tickets.specs.View as spots
use Rattle.ppm_tickets.specs.Words.{Word, Job, Taken, Spot, Message, Slot}
use Rattle.ppm_tickets.proofs.StepLemmas.{stand_own}
use Rattle.ppm_tickets.proofs.ViewLemmas.{view_else, shows_content, restart_here}
use Rattle.ppm_frames.specs.Views.{view}
use Rattle.ppm_frames.specs.Seen.{arrays_at}
use Rattle.ppm_kept.specs.Running.{IsFair}
use Rattle.ppm_runs.proofs.JoinLemmas.{stand_else}
use Rattle.ppm_progress.specs.Soon.{turns_of, StepsOnly, WorksWithin13}
use Rattle.ppm_runs.proofs.WholeLemmas.{in_two}
use Rattle.ppm_progress.specs.Works.{IsAtWork}
use Rattle.ppm_progress.proofs.HeightLemmas.{base, height, height_few, KindIf, stole_low, traded_low, message_low, entry_low, offset_low, finish_low}
use Rattle.ppm_progress.proofs.HeightLemmas.{placed_low}
use Rattle.ppm_progress.proofs.IdleLemmas.{taken_same}
use Rattle.ppm_progress.proofs.RestartLemmas.{restart_goes_on}
use Rattle.ppm_progress.proofs.MomentLemmas.{IsMoment, AreMoments, first_moment, IsOn, sees_at, wrote_at, stores_carried, own_place, own_carrier}
use Rattle.ppm_progress.proofs.MomentLemmas.{others_keep_kind, other_here}
use Rattle.ppm_progress.proofs.SoonLemmas.{rank, rank_few, step_is, Outcome, next_is, set_stays, later, counts, own_goes, breaks, soon, unhurt_on, spare_at}
use Rattle.ppm_progress.proofs.ThiefRows.{StealSo, CheckSo, IsOffset, stole, steal_row, check_row}
use Rattle.ppm_progress.proofs.UnhurtRuns.{all_unhurt, unhurt_first}
use Rattle.ppm_progress.proofs.WriteLemmas.{IsAside, MovesTo, StoresAt, Gives, Wrote, Nothing, Aside, Notes, Carries, Dies, Holds, Restarts, Changed}

-- place p has won the job of r, with tag t, of entry i of place v
pub record Won (s : Shape) (words : List ℕ) (p v i t r : ℕ) : Type 0 where
  pub kind : (spots.kinds s words p ≡ Steal v i) ⊎ (spots.kinds s words p ≡ Check v i)
  pub message : spots.view s words (Message p) ≡ Job t r
  pub entry : spots.view s words (Slot v i) ≡ Taken (t + 1) p

abbrev message_place : Cell → ℕ
message_place (cells.MessageWord p) = p
message_place _ = 0

-- a message that nobody stores
pub message_same : (s : Shape) (code : CodeParts) (words : List ℕ) (act : Act) (x : Standing) (now : List ℕ) (c : ℕ) → ((p : ℕ) → StoresAt x p → p ≢ c)
    → Wrote s code words act x now → spots.view s now (Message c) ≡ spots.view s words (Message c)
message_same s code words act x now c apart wrote = by wrote
  where
    elsewhere : (cell : Cell) (n : ℕ) → IsCell s cell → cells.MessageWord c ≢ cell → now ≡ store s words cell n
        → spots.view s now (Message c) ≡ spots.view s words (Message c)
    elsewhere cell n is ne e = ap (λ (l : List ℕ). spots.view s l (Message c)) e ∙ view_else s words cell n (Message c) is (λ shown. ne)

    by : Wrote s code words act x now → spots.view s now (Message c) ≡ spots.view s words (Message c)
    by (Nothing e) = ap (λ (l : List ℕ). spots.view s l (Message c)) e
    by (Aside cell n is aside e) = elsewhere cell n is (λ z. subst IsAside (sym z) aside) e
    by (Notes p n is at e) = elsewhere (cells.MessageWord p) n is (λ z. apart p at (ap message_place (sym z))) e
    by (Carries d p is moves e) = elsewhere (cells.CarryWord d) p is (λ z. cc) e
    by (Dies d is hard e) = elsewhere (cells.DeadWord d) 1 is (λ z. cc) e
    by (Holds seat v old new next at is kind raises was e) = elsewhere (cells.HolderWord v) _ is (λ z. cc) e
    by (Restarts p re is here gives e) = elsewhere (cells.RestartWord p) _ is (λ z. cc) e
    by (Changed v i old new is fits law was e) = elsewhere (cells.EntryWord v i) _ is (λ z. cc) e

module _ (s : Shape) (code : CodeParts) (fair : IsFair code) (root : Tree (Frame FrameWord Point) Result) (input : Words) (ws : List ℕ)
    (c p : ℕ) (there : c < s.processors) where
  abbrev Here : RunState → Type 0
  Here state = IsOn s code fair root input c p state

  module _ (state : RunState) (now : IsOn s code fair root input c p state) (v i o r : ℕ) (won : Won s state.words p v i o r) where
    abbrev K : ℕ → RestartKind
    K = spots.kinds s state.words

    abbrev m : Spot → Word
    m = spots.view s state.words

    fit : AreWordsOf s state.words
    fit = now.moment.advancing.run.halves.lawful.0

    wrote : (turn : Turn) → turn.processor < s.processors → Wrote s code state.words turn.act (stand_of state turn.processor) (happens s code state turn).words
    wrote turn lt = wrote_at s code fair root input state now.moment turn lt

    -- it has won the job still after a turn that leaves its message and gives its place such a kind
    won_after : (turn : Turn) → turn.processor < s.processors → ((q : ℕ) → StoresAt (stand_of state turn.processor) q → q ≢ p)
        → (spots.kinds s (happens s code state turn).words p ≡ Steal v i) ⊎ (spots.kinds s (happens s code state turn).words p ≡ Check v i)
        → Won s (happens s code state turn).words p v i o r
    won_after turn lt apart kind = record {
      kind = kind;
      message = message_same s code state.words turn.act (stand_of state turn.processor) (happens s code state turn).words p apart (wrote turn lt)
          ∙ won.message;
      entry = taken_same s code state.words turn.act (stand_of state turn.processor) (happens s code state turn).words v i
          (subst IsTaken (sym won.entry) tt) (wrote turn lt) ∙ won.entry;
    }

    abbrev Out : RunState → List Turn → Type 0
    Out at more = Outcome s code fair root input ws c p there at more

    -- what follows from the later turns: where it has won the job still, and where its place is at a kind of work
    abbrev Later : List Turn → Turn → Type 0
    Later more turn = (Here (happens s code state turn) → Won s (happens s code state turn).words p v i o r
        → height (spots.kinds s (happens s code state turn).words p) (stand_of (happens s code state turn) c) < turns_of c more
        → Out (happens s code state turn) more)
        × (Here (happens s code state turn) → is_work (spots.kinds s (happens s code state turn).words p) ≡ true
        → rank (stand_of (happens s code state turn) c) < turns_of c more → Out (happens s code state turn) more)

    abbrev Low : List Turn → Turn → Type 0
    Low more turn = height (K p) (stand_of state c) < turns_of c (turn ∷ more)

    -- a turn of another processor
    other_turn : (turn : Turn) (more : List Turn) → turn.processor < s.processors → turn.processor ≢ c
        → IsMoment s code fair root input (happens s code state turn) → Later more turn → Low more turn → Out state (turn ∷ more)
    other_turn turn more lt ne next ih low =
        let kind = others_keep_kind s code fair root input c p there state now turn lt ne in
        let stand = stand_else s code state turn.processor c turn.act (stand_of state turn.processor) (λ z. ne (sym z)) in
        let kinds = subst (λ (k : RestartKind). (k ≡ Steal v i) ⊎ (k ≡ Check v i)) (sym kind) won.kind in
        let after = won_after turn lt
        (λ q at z.
        ne (own_carrier s code fair root input c p there state now turn.processor
        (subst (Carried s m turn.processor) z
        (stores_carried s code fair root input state now.moment turn.processor q (stand_of state turn.processor) refl at)))) kinds in
        let heights = ap (λ (k : RestartKind). height k (stand_of (happens s code state turn) c)) kind ∙ ap (height (K p)) stand in
        let count : turns_of c (turn ∷ more) ≡ 0 + turns_of c more = ap (λ (y : Bool). (if y then 1 else 0) + turns_of c more) (ne_eqb turn.processor c ne) in
        later s code fair root input ws c p there state now turn more
        (ih.0 (other_here s code fair root input c p there state now turn lt ne next) after (omega (arith, low, count, heights)))

    module _ (vic : ℕ) (more first : List Turn) (on : state ≡ reached s code ws first)
        (then_ : IsMoment s code fair root input (happens s code state (record { processor = c; act = Step vic })))
        (ih : Later more (record { processor = c; act = Step vic })) (low : Low more (record { processor = c; act = Step vic })) where
      abbrev turn : Turn
      turn = record { processor = c; act = Step vic }

      abbrev next : RunState
      next = happens s code state turn

      count : turns_of c (turn ∷ more) ≡ 1 + turns_of c more
      count = counts s code fair root input ws c p there state now vic more first on then_

      stand_now : (x y : Standing) → stand_of state c ≡ x → x ≢ IsDone → (acts s code state c (Step vic) x).stand ≡ slice_set state.stand c y
          → stand_of next c ≡ y
      stand_now x y e live stand =
          ap (λ (z : Standing). stand_of (acts s code state c (Step vic) z) c) e ∙ ap (λ (l : List Standing). stand_in (slice_get l c)) stand
          ∙ stand_own state.stand c y (λ z. live (sym e ∙ z))

      -- it is there still, or the finish word is set
      goes_there : (x : Standing) → stand_of state c ≡ x → ((q : ℕ) → MovesTo (Step vic) x c q → ⊥) → (Here next → Out state (turn ∷ more))
          → Out state (turn ∷ more)
      goes_there x e stays go =
          own_goes s code fair root input ws c p there state now vic more first on then_
          (λ q moves. stays q (subst (λ (z : Standing). MovesTo (Step vic) z c q) e moves)) go

      -- a step after which it has won the job still
      goes : (x y : Standing) → stand_of state c ≡ x → x ≢ IsDone → ((q : ℕ) → MovesTo (Step vic) x c q → ⊥)
          → (acts s code state c (Step vic) x).stand ≡ slice_set state.stand c y
          → Won s next.words p v i o r → height (spots.kinds s next.words p) y + 1 ≤ height (K p) x → Out state (turn ∷ more)
      goes x y e live stays stand after less =
          let is = ap (height (spots.kinds s next.words p)) (stand_now x y e live stand) in
          let was = ap (height (K p)) e in
          let one = count in
          goes_there x e stays
          (λ here. later s code fair root input ws c p there state now turn more (ih.0 here after (omega (arith, low, less, is, was, one))))

      -- a load
      loads : (x y : Standing) → stand_of state c ≡ x → x ≢ IsDone → ((q : ℕ) → MovesTo (Step vic) x c q → ⊥)
          → (acts s code state c (Step vic) x).words ≡ state.words
          → (acts s code state c (Step vic) x).stand ≡ slice_set state.stand c y → height (K p) y + 1 ≤ height (K p) x → Out state (turn ∷ more)
      loads x y e live stays same stand less =
          let words : next.words ≡ state.words = ap (λ (z : Standing). (acts s code state c (Step vic) z).words) e ∙ same in
          let kind = ap (λ (l : List ℕ). height (spots.kinds s l p) y) words in
          goes x y e live stays stand (subst (λ (l : List ℕ). Won s l p v i o r) (sym words) won) (omega (arith, less, kind))

      module _ (seat : Seat) (row : Row) (e : stand_of state c ≡ IsWithin seat row) (bare : (q : ℕ) → StoresAt (IsWithin seat row) q → ⊥) where
        at : p ≡ seat.place
        at =
            own_place s code fair root input c p there state now seat.place
            (sees_at s code fair root input state now.moment c (IsWithin seat row) e).0.carried

        place_there : seat.place < s.processors
        place_there = (sees_at s code fair root input state now.moment c (IsWithin seat row) e).0.carried.place

        kind_is : K p ≡ seat.restart.kind
        kind_is = ap K at ∙ (sees_at s code fair root input state now.moment c (IsWithin seat row) e).0.at.kind

        own_message : m (Message seat.place) ≡ Job o r
        own_message = ap (λ (q : ℕ). m (Message q)) (sym at) ∙ won.message

        own_entry : m (Slot v i) ≡ Taken (o + 1) seat.place
        own_entry = won.entry ∙ ap (Taken (o + 1)) at

        keeps : (spots.kinds s next.words p ≡ Steal v i) ⊎ (spots.kinds s next.words p ≡ Check v i) → Won s next.words p v i o r
        keeps = won_after turn there (λ q stores z. bare q (subst (λ (x : Standing). StoresAt x q) e stores))

        -- the kind stays where the row gives no restart
        same_kind : ((re : Restart) → Gives (Step vic) (IsWithin seat row) p re → ⊥) → spots.kinds s next.words p ≡ K p
        same_kind none =
            elim (restart_goes_on s code state.words fit (Step vic) (stand_of state c) next.words (wrote turn there) p) [
              | inl same ↦ ap (λ (x : Restart). x.kind) same
              | inr new ↦ absurd (none new.0 (subst (λ (x : Standing). Gives (Step vic) x p new.0) e new.1))
            ]

        -- it gives its place this restart
        module _ (re : Restart) (here : restart_is_there s re ≡ true)
            (stored : (acts s code state c (Step vic) (IsWithin seat row)).words ≡ store s state.words (cells.RestartWord seat.place) (restart_word re)) where
          kind_now : spots.kinds s next.words p ≡ re.kind
          kind_now =
              let words = ap (λ (z : Standing). (acts s code state c (Step vic) z).words) e ∙ stored in
              ap (λ (l : List ℕ). spots.kinds s l p) words
              ∙ ap (spots.kinds s (store s state.words (cells.RestartWord seat.place) (restart_word re))) at
              ∙ ap (λ (x : Restart). x.kind) (restart_here s state.words seat.place re fit place_there (restart_fits s (few_words s) re here))

      -- a row of Steal
      steal_step : (seat : Seat) (row : Row) → stand_of state c ≡ IsWithin seat row → row_is_there s seat row ≡ true → K p ≡ Steal v i → StealSo seat v i row
          → Out state (turn ∷ more)
      steal_step seat (Now (Load point)) e here k so =
          loads (IsWithin seat (Now (Load point))) _ e (λ z. cc) (λ q a. a) refl refl
          (subst (λ (q : RowPoint). (w : Content) → height (K p) (stands s code seat (found_at s seat vic q w)) + 1
          ≤ height (K p) (IsWithin seat (Now (Load q)))) (sym so)
          (λ w. let low = stole_low s code (K p) seat v i _ (stole s seat v i vic w) in omega (arith, low)) _)
      steal_step seat (Exchange q old new nx) e here k so =
          goes (IsWithin seat (Exchange q old new nx)) _ e (λ z. cc) (λ q a. a) refl
          (keeps seat (Exchange q old new nx) e (λ p a. a) (inl (same_kind seat (Exchange q old new nx) e (λ p a. a) (λ re a. a) ∙ k)))
          (let low = traded_low s code (spots.kinds s next.words p) seat v i nx so in omega (arith, low))
      steal_step seat (Now (Install re)) e here k so =
          let kind = kind_now seat (Now (Install re)) e (λ p a. a) re here refl ∙ ap (λ (x : Restart). x.kind) so in
          goes (IsWithin seat (Now (Install re))) _ e (λ z. cc) (λ q a. a) refl (keeps seat (Now (Install re)) e (λ p a. a) (inr kind))
          (let five = ap base kind in omega (arith, five))
      steal_step seat (Now Broken) e here k so = absurd (true≢false (sym here))
      steal_step seat _ e here k so = absurd so

      -- a row of Check
      abbrev Less : Seat → RowPoint → Type 0
      Less seat q = height (K p) (stands s code seat (found_at s seat vic q (content_of (reading_at q) (read s state.words (cell_at seat vic q))))) + 1
          ≤ height (K p) (IsWithin seat (Now (Load q)))

      offset_less : (seat : Seat) (q : RowPoint) → IsOffset q → Less seat q
      offset_less seat (Offset x b) is =
          let low = offset_low s code (K p) seat x b (content_of AsNumber (read s state.words (cell_at seat vic (Offset x b)))) in omega (arith, low)
      offset_less seat _ is = absurd is

      message_less : (seat : Seat) → seat.place < s.processors → m (Message seat.place) ≡ Job o r → Less seat (TakenMessage seat.place v i)
      message_less seat lt message =
          let shown = lt-ltb seat.place s.processors lt in
          let is : content_of AsEntry (read s state.words (cells.MessageWord seat.place)) ≡ AnEntry (entries.Job o r) =
          sym (shows_content s state.words (Message seat.place) shown) ∙ ap spots.content_by message in
          subst (λ (w : Content). height (K p) (stands s code seat (on_entry w (taken_message s seat.place v i))) + 1 ≤ 5) (sym is)
          (let low = message_low s code (K p) seat v i o r in omega (arith, low))

      entry_less : (seat : Seat) → spots.is_shown s (Slot v i) ≡ true → m (Slot v i) ≡ Taken (o + 1) seat.place
          → Less seat (TakenEntry seat.place v i (entries.Job o r))
      entry_less seat shown entry =
          let is : content_of AsEntry (read s state.words (cells.EntryWord v i)) ≡ AnEntry (entries.Taken (o + 1) seat.place) =
          sym (shows_content s state.words (Slot v i) shown) ∙ ap spots.content_by entry in
          subst (λ (w : Content). height (K p) (stands s code seat (on_entry w (taken_entry seat seat.place v i (entries.Job o r)))) + 1 ≤ 4) (sym is)
          (let low = entry_low s code (K p) seat v i o r in omega (arith, low))

      load_less : (seat : Seat) (point : RowPoint) → stand_of state c ≡ IsWithin seat (Now (Load point)) → row_is_there s seat (Now (Load point)) ≡ true
          → CheckSo seat v i o r (Now (Load point)) → Less seat point
      load_less seat point e here (inl is) =
          subst (Less seat) (sym is) (message_less seat (place_there seat (Now (Load point)) e (λ p a. a)) (own_message seat (Now (Load point)) e (λ p a. a)))
      load_less seat point e here (inr (inl is)) =
          let shown = subst (λ (q : RowPoint). row_is_there s seat (Now (Load q)) ≡ true) is here in
          subst (Less seat) (sym is) (entry_less seat shown (own_entry seat (Now (Load point)) e (λ p a. a)))
      load_less seat point e here (inr (inr is)) = offset_less seat point is

      check_step : (seat : Seat) (row : Row) → stand_of state c ≡ IsWithin seat row → row_is_there s seat row ≡ true → CheckSo seat v i o r row
          → Out state (turn ∷ more)
      check_step seat (Now (Load point)) e here so =
          loads (IsWithin seat (Now (Load point))) _ e (λ z. cc) (λ q a. a) refl refl (load_less seat point e here so)
      check_step seat (Now (Begin x g b)) e here so =
          let kind = kind_now seat (Now (Begin x g b)) e (λ p a. a) (begun g b) here refl in
          let stands_ = ap rank (stand_now (IsWithin seat (Now (Begin x g b))) _ e (λ z. cc) refl) in
          let was = ap (height (K p)) e in
          let one = count in
          goes_there (IsWithin seat (Now (Begin x g b))) e (λ q a. a)
          (λ there_. later s code fair root input ws c p there state now turn more (ih.1 there_ (ap is_work kind) (omega (arith, low, stands_, was, one))))
      check_step seat (Now Broken) e here so = absurd (true≢false (sym here))
      check_step seat _ e here so = absurd so

      abbrev Mine : Standing → Type 0
      Mine x = Sees s m K (spots.bottoms s state.words) c x

      kind_if : (q : ℕ) (re : Option Restart) → Mine (IsAt q re) → KindIf re (K p)
      kind_if q None sees = tt
      kind_if q (Some re) sees = sym (ap K (own_place s code fair root input c p there state now q sees.0) ∙ sees.1.kind)

      own_step : (x : Standing) → stand_of state c ≡ x → is_done_at x ≡ false → Mine x → Out state (turn ∷ more)
      own_step IsLost e live sees =
          loads IsLost _ e (λ z. cc) (λ q a. a) refl refl (let r = placed_low s (K p) (read s state.words (cells.CarryWord c)) in omega (arith, r))
      own_step (IsPlaced q) e live sees = loads (IsPlaced q) _ e (λ z. cc) (λ q a. a) refl refl (omega arith)
      own_step (IsAt q re) e live sees =
          loads (IsAt q re) _ e (λ z. cc) (λ q a. a) refl refl
          (let z = finish_low s code (K p) v i c q re (read s state.words cells.FinishWord) (kind_if q re sees) won.kind in omega (arith, z))
      own_step (IsWithin seat row) e live sees = elim won.kind [
        | inl steal ↦ steal_step seat row e sees.2 steal
            (steal_row s (spots.with_restarts m K (spots.bottoms s state.words)) seat row v i (own_kind seat row e ∙ steal) sees.1)
        | inr check ↦ check_step seat row e sees.2 (check_row s (spots.with_restarts m K (spots.bottoms s state.words)) seat row v i o r
            (ap (λ (q : ℕ). m (Message q)) (sym (own_at seat row e)) ∙ won.message) (won.entry ∙ ap (Taken (o + 1)) (own_at seat row e))
            (own_kind seat row e ∙ check) sees.1)
      ]
        where
          own_at : (seat : Seat) (row : Row) → stand_of state c ≡ IsWithin seat row → p ≡ seat.place
          own_at seat row e =
              own_place s code fair root input c p there state now seat.place
              (sees_at s code fair root input state now.moment c (IsWithin seat row) e).0.carried

          own_kind : (seat : Seat) (row : Row) (e : stand_of state c ≡ IsWithin seat row) → seat.restart.kind ≡ K p
          own_kind seat row e =
              sym (ap K (own_at seat row e) ∙ (sees_at s code fair root input state now.moment c (IsWithin seat row) e).0.at.kind)
      own_step (IsRunning seat rest) e live sees =
          let kind = sym sees.0.at.kind ∙ ap K (sym (own_place s code fair root input c p there state now seat.place sees.0.carried)) in
          absurd (elim won.kind [ inl steal ↦ subst IsStrand (kind ∙ steal) sees.1 | inr check ↦ subst IsStrand (kind ∙ check) sees.1 ])
      own_step (IsBroken q) e live sees = breaks s code fair root input ws c p there state now vic more first on then_ q e
      own_step IsDone e live sees = absurd (true≢false live)

    one_turn : (turn : Turn) (more first : List Turn) → state ≡ reached s code ws first → IsMoment s code fair root input (happens s code state turn)
        → IsTurnAmong s.processors turn → StepsOnly c turn → Later more turn → Low more turn → Out state (turn ∷ more)
    one_turn turn more first on next among steps ih low = elim (cases_eq turn.processor c) [
      | inr ne ↦ other_turn turn more among.processor ne next ih low
      | inl own ↦
          let act = step_is turn.act (steps own) in
          (subst (λ (z : Turn). IsMoment s code fair root input (happens s code state z) → Later more z → Low more z → Out state (z ∷ more))
          (λ k. record { processor = sym own k; act = sym act.1 k })
          (λ then_ ih low. own_step act.0 more first on then_ ih low (stand_of state c) refl now.going
          (sees_at s code fair root input state now.moment c (stand_of state c) refl))) next ih low
    ]

  -- the steps of c, by how many come before its work turn
  pub thief_soon : (more first : List Turn) (state : RunState) → state ≡ reached s code ws first → AreMoments s code fair root input state more → Here state
      → (v i o r : ℕ) → Won s state.words p v i o r
      → AllByRecursion (IsTurnAmong s.processors) more → AllByRecursion (StepsOnly c) more
      → height (spots.kinds s state.words p) (stand_of state c) < turns_of c more → Outcome s code fair root input ws c p there state more
  thief_soon [] first state e are now v i o r won among steps lt = absurd (omega (arith, lt))
  thief_soon (turn ∷ more) first state e are now v i o r won among steps lt =
      let next = first_moment s code fair root input (happens s code state turn) more are.1 in
      let behind = next_is s code fair root input ws c p there first turn state e in
      one_turn state now v i o r won turn more first e next among.0 (steps.0) (
        (λ here after low. thief_soon more (first ++ turn ∷ []) (happens s code state turn) behind are.1 here v i o r after among.1 steps.1 low),
        (λ here kind low. soon s code fair root input ws c p there more (first ++ turn ∷ []) (happens s code state turn) behind are.1 here kind among.1 steps.1
            low),
      ) lt

-- a place that has won a job
steals_won : (s : Shape) (words : List ℕ) (p r : ℕ) (k : RestartKind) → spots.kinds s words p ≡ k → Steals (spots.view s words) p k r
    → (v : ℕ) × (i : ℕ) × (o : ℕ) × Won s words p v i o r
steals_won s words p r (Steal v i) e wins = (v, i, wins.0, record { kind = inl e; message = wins.1; entry = wins.2 })
steals_won s words p r (Check v i) e wins = (v, i, wins.0, record { kind = inr e; message = wins.1; entry = wins.2 })
steals_won s words p r _ e wins = absurd wins

-- a processor that takes steps at a place at work makes a work turn within thirteen of its own steps, or the finish word is set
pub works_from_place : (s : Shape) (code : CodeParts) (fair : IsFair code) (root : Tree (Frame FrameWord Point) Result) (input : Words) (ws : List ℕ)
    (c p : ℕ) (there : c < s.processors) (first more : List Turn) → AreMoments s code fair root input (reached s code ws first) more
    → IsOn s code fair root input c p (reached s code ws first)
    → IsAtWork (spots.view s (reached s code ws first).words) p (spots.kinds s (reached s code ws first).words p)
    → AllByRecursion (IsTurnAmong s.processors) more → AllByRecursion (StepsOnly c) more → 13 ≤ turns_of c more
    → Outcome s code fair root input ws c p there (reached s code ws first) more
works_from_place s code fair root input ws c p there first more are on at_work among steps many =
    let state = reached s code ws first in
    elim at_work [
      | inl work ↦
          let few = rank_few (stand_of state c) in
          soon s code fair root input ws c p there more first state refl are on work among steps (omega (arith, few, many))
      | inr steals ↦
          let few = height_few (spots.kinds s state.words p) (stand_of state c) in
          let won = steals_won s state.words p steals.0 (spots.kinds s state.words p) refl steals.1 in
          thief_soon s code fair root input ws c p there more first state refl are on won.0 won.1 won.2 steals.0 won.3 among steps (omega (arith, few, many))
    ]

pub works_within_13 : WorksWithin13
works_within_13 code input s keeper im fair opens calm first more among_first among_more hurts_first hurts_more c there at_work steps many =
    let root = root_strand code input in
    let arrays = arrays_at (view s im.words) in
    let from = opening im.words s.processors in
    let begins = unhurt_first code input s keeper im opens calm in
    let fit = begins.advancing.run.halves.lawful.0 in
    let a = all_unhurt s code fair root arrays from (λ r. Unborn) [] [] _ first among_first hurts_first begins in
    let spare = spare_at s code fair.code_is from first (opening_spares s code fair.code_is s.processors) in
    let state = reached s code im.words first in
    let two = ap (finish_at s) (in_two s code from first more) in
    elim (unhurt_on s code fair root arrays im.words fit first more hurts_first (homes s code from (λ r. Unborn) first) (forked_in s code from [] first)
    (taken_in s code from [] first) a.0 a.1 spare among_more hurts_more c there) [
      | inr set ↦ inr (λ z. set_stays s code fair root arrays im.words c c there first more state refl set (sym two ∙ z))
      | inl on ↦ elim (works_from_place s code fair root arrays im.words c c there first more on.1 on.0 at_work among_more steps many) [
        | inl found ↦ inl found
        | inr set ↦ inr (λ z. set (sym two ∙ z))
      ]
    ]
