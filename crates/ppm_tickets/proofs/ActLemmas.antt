-- What an act of a processor comes to.
use Rattle.std.proofs.Common.{◌≡◌, ◌≢◌, ◌⊎◌, ◌<◌, ℕ, zero, suc, List, [], ◌∷◌, ◌++◌, Bool, true, false, if◌then◌else◌, ◌==◌, inl, inr, refl, sym, ap, ◌∙◌, subst, subst₂, Option, Some, None, slice_index, slice_set}
use Rattle.std.specs.Prelude.{nat_lt, slice_get}
use Rattle.std.proofs.lemmas.Bool.{ltb-true, lt-ltb}
use Rattle.ppm_cells.specs.Finish.{finish_word}
use Rattle.ppm_cells.specs.Memory.{read, write as store, AreWordsOf}
use Rattle.ppm_cells.specs.Restart.{restart_of}
use Rattle.ppm_cells.specs.declared.cell.Cell.TheVariants as cells
use Rattle.ppm_cells.specs.declared.finish.Finish.TheVariants.{OutOfRoom, Broken as BrokenAt}
use Rattle.ppm_cells.specs.declared.restart.Restart.{Restart}
use Rattle.ppm_cells.specs.declared.restart.RestartKind.{RestartKind}
use Rattle.ppm_cells.specs.declared.shape.Shape.{Shape}
use Rattle.ppm_code.specs.declared.code.CodeParts.{CodeParts}
use Rattle.ppm_step.specs.Contents.{word_of}
use Rattle.ppm_step.specs.Frames.{Rest, Loads, Stores, Full, Installs, Breaks}
use Rattle.ppm_step.specs.Standings.{Standing, IsLost, IsPlaced, IsAt, IsWithin, IsRunning, IsBroken, IsDone, unknown_place, row_is_there, rest_is_there, begins_if, at_finish, placed, wanted_row, went_row, wanted_rest, went_rest}
use Rattle.ppm_step.specs.State.{State, stand_in, stand_of, found_in, words_after, quit_with, acts, happens, after, fork_row, take_row, row_by, step_by}
use Rattle.ppm_step.specs.There.{restart_is_there}
use Rattle.ppm_step.specs.declared.row.Row.{Row}
use Rattle.ppm_step.specs.declared.row.Seat.{Seat}
use Rattle.ppm_step.specs.declared.turn.Act.{Act}
use Rattle.ppm_step.specs.declared.turn.Act.TheVariants.{Step, Soft, Hard, Quit}
use Rattle.ppm_step.specs.declared.turn.Turn.{Turn}
use Rattle.ppm_tickets.specs.Along.{by_row, by_act, IsOrderlyRow, IsOrderlyRest, IsOrderly, homes, forked, taken, AreOrderly}
use Rattle.ppm_tickets.specs.Homes.{Home}
use Rattle.ppm_tickets.specs.Lawful.{Estate, Closed}
use Rattle.ppm_tickets.specs.Saw.{IsStrand, IsModest, HasSeen, Lives, Carried, IsOfIf, Sits, Sees, Lawful}
use Rattle.ppm_tickets.specs.View.{view, restart_or, restart_at, seeking, kinds, bottoms, with_restarts}
use Rattle.ppm_tickets.specs.Words.{Word, Number, Spot, Carry, Dead, put, write}
use Rattle.ppm_tickets.proofs.EstateLemmas.{After, closing, noted}
use Rattle.ppm_tickets.proofs.EffectLemmas.{plain_install, other_written}
use Rattle.ppm_tickets.proofs.HoldingLemmas.{holding_die}
use Rattle.ppm_tickets.proofs.OrderLemmas.{order_other}
use Rattle.ppm_tickets.proofs.ViewLemmas.{if_true, shows, lone_dead}
use Rattle.ppm_tickets.proofs.StepLemmas.{RowsKeep, own_goes, strand_free, closed_kept, rooted_kept, still_write, home_as, Keeps, Goes, quiet_there, strand_plain, strand_aims, running_sees, begins_sees, waiting, quieting, writing, installing}

-- a restart word that is there
pub restart_is : (s : Shape) (words : List ℕ) (p : ℕ) → p < s.processors → restart_at s words p ≡ restart_or (restart_of (read s words (cells.RestartWord p)))
restart_is s words p there = if_true (nat_lt p s.processors) (restart_or (restart_of (read s words (cells.RestartWord p)))) seeking (lt-ltb p s.processors there)

module _ (s : Shape) (code : CodeParts) (rows : RowsKeep s code) where
  abbrev pub KeepsState : State → (ℕ → Home) → (forked taken : List ℕ) → Type 0
  KeepsState state h f tk = Keeps s code state.words state.stand h f tk

  abbrev pub GoesState : (ℕ → Bool) → (before : List ℕ) → State → (ℕ → Home) → (forked taken : List ℕ) → Type 0
  GoesState g before state h f tk = Goes s code g before state.words state.stand h f tk

  module _ (words : List ℕ) (stand : List Standing) (h : ℕ → Home) (f tk : List ℕ) (fit : AreWordsOf s words) where
    abbrev m : Spot → Word
    m = view s words

    abbrev k : ℕ → RestartKind
    k = kinds s words

    abbrev b : ℕ → ℕ
    b = bottoms s words

    -- it takes steps
    lives_of : (o : ℕ) (x : Standing) → x ≢ IsDone → Sees s m k b o x → Lives s m o
    lives_of o IsLost live a = a
    lives_of o (IsPlaced p) live a = a.lives
    lives_of o (IsAt p r) live a = a.0.lives
    lives_of o (IsWithin seat row) live a = a.0.carried.lives
    lives_of o (IsRunning seat rest) live a = a.0.carried.lives
    lives_of o (IsBroken p) live a = a
    lives_of o IsDone live a = absurd (live refl)

    module _ (law : Lawful s m k b stand h f tk) (o : ℕ) where
      module _ (live : stand_in (slice_get stand o) ≢ IsDone) where
        -- the finish word
        finishing : (w : ℕ) (x : Standing) → Sees s m k b o x → Goes s code law.board.gone words (if slice_index words 0 == 0 then slice_set words 0 w else words) (slice_set stand o x) h f tk
        finishing w x own = by (slice_index words 0 == 0)
          where
            by : (y : Bool) → Goes s code law.board.gone words (if y then slice_set words 0 w else words) (slice_set stand o x) h f tk
            by true = quieting s code words stand h f tk fit law o live cells.FinishWord w tt tt x own
            by false = waiting s code words stand h f tk fit law o live x own

        loses : Lives s m o → Goes s code law.board.gone words words (slice_set stand o IsLost) h f tk
        loses own = waiting s code words stand h f tk fit law o live IsLost own

        dies : Lives s m o → Goes s code law.board.gone words (store s words (cells.DeadWord o) 1) (slice_set stand o IsDone) h f tk
        dies own = writing s code words stand h f tk fit law o live (Dead o) 1 (Number 1) (lt-ltb o s.processors own.there) (lone_dead s o) refl tt h f tk
            (let note = noted law.board (Dead o) (Number 1) (λ v i e. cc) (λ q y i z th. cc) (other_written law.board.board (Dead o) (Number 1) (λ v i e. cc) (λ p e. cc)) in
            let shutter = closing note.0 (Closed s.takeover (write m (Dead o) (Number 1))) (closed_kept s.takeover m (Dead o) (Number 1) (λ q e. tt)) in
            (shutter.0, λ v x. shutter.1 v (note.1 v x)))
            (order_other law.order (Dead o) (Number 1) (λ v i e. cc) (λ v e. cc)) (holding_die law.holding o) (rooted_kept s.takeover m (Dead o) (Number 1) (λ q e. cc) law.rooted) law.counts (still_write s.takeover m k b (Dead o) (Number 1) (λ q d e. cc) (λ q e. tt))
            (λ d q ne lives at. ((λ same. absurd (ne (sym same))), λ z. tt)) IsDone tt

        place_known : (found : ℕ) → m (Carry o) ≡ Number found → Lives s m o → Sees s m k b o (placed s found)
        place_known found carry lives = by (nat_lt found s.processors) refl
          where
            by : (y : Bool) → nat_lt found s.processors ≡ y → Sees s m k b o (if y then IsPlaced found else IsBroken unknown_place)
            by true e = record { lives = lives; carry = carry; place = ltb-true found s.processors e; home = home_as s.takeover m o found law.rooted carry }
            by false e = lives

        restart_known : (p : ℕ) → Carried s m o p → (r : Option Restart) → restart_of (read s words (cells.RestartWord p)) ≡ r → IsOfIf s m k b p r
        restart_known p carried None e = tt
        restart_known p carried (Some r) e =
            let is : restart_at s words p ≡ r = restart_is s words p carried.place ∙ ap restart_or e in
            record { kind = λ i. (is i).kind; bottom = λ i. (is i).bottom }

        begun : (p : ℕ) → Carried s m o p → (r : Option Restart) → IsOfIf s m k b p r → (found : ℕ) → Sees s m k b o (at_finish s code o p r found)
        begun p carried r at (suc found) = tt
        begun p carried None at zero = carried.lives
        begun p carried (Some r) at zero = by (restart_is_there s r) refl
          where
            by : (y : Bool) → restart_is_there s r ≡ y → Sees s m k b o (begins_if s code (record { own = o; place = p; restart = r }) y)
            by true e = begins_sees s code m k b o (record { own = o; place = p; restart = r }) record { own = refl; carried = carried; at = at; there = e }
            by false e = carried.lives

        -- a row, wherever it sits
        abbrev RowGoal : Seat → (u : ℕ) → Row → Type 0
        RowGoal seat u row = row_is_there s seat row ≡ true → IsOrderlyRow s words seat row h f
            → Goes s code law.board.gone words (words_after words (wanted_row s seat u row)) (slice_set stand o (went_row s code seat u (found_in words (wanted_row s seat u row)) row))
            (by_row s words seat row h) (fork_row row ++ f) (take_row row ++ tk)

        row_goal : (seat : Seat) → Sits s m k b o seat → (row : Row) → HasSeen s (with_restarts m k b) seat row → (u : ℕ) → u < s.processors → RowGoal seat u row
        row_goal seat sits row seen u nm = at_seat sits.there seen
          where
            at_seat : restart_is_there s seat.restart ≡ true → HasSeen s (with_restarts m k b) seat row → RowGoal seat u row
            at_seat = subst₂ (λ (own bottom : ℕ). restart_is_there s (record { kind = seat.restart.kind; bottom = bottom }) ≡ true
                → HasSeen s (with_restarts m k b) (record { own = own; place = seat.place; restart = record { kind = seat.restart.kind; bottom = bottom } }) row
                → RowGoal (record { own = own; place = seat.place; restart = record { kind = seat.restart.kind; bottom = bottom } }) u row)
                (sym sits.own) sits.at.bottom
                (λ there seen. rows words stand h f tk fit law o live seat.place sits.carried seat.restart.kind sits.at.kind there u nm row seen)

        rest_goal : (seat : Seat) → Sits s m k b o seat → IsStrand seat.restart.kind → (rest : Rest) → IsModest rest → rest_is_there s seat rest ≡ true → IsOrderlyRest s rest
            → Goes s code law.board.gone words (words_after words (wanted_rest s seat rest)) (slice_set stand o (went_rest s seat (found_in words (wanted_rest s seat rest)) rest)) h f tk
        rest_goal seat sits strand (Loads cell go) modest there kept =
            let next : Rest = go (read s words cell) in
            waiting s code words stand h f tk fit law o live _ (running_sees s code m k b o seat sits next strand (modest (read s words cell)) (rest_is_there s seat next) refl)
        rest_goal seat sits strand (Stores cell content rest) modest there kept =
            quieting s code words stand h f tk fit law o live cell (word_of content) modest.0 (quiet_there s code cell modest.0 there kept) _
            (running_sees s code m k b o seat sits rest strand modest.1 (rest_is_there s seat rest) refl)
        rest_goal seat sits strand Full modest there kept = finishing (finish_word (OutOfRoom seat.place)) (IsAt seat.place (Some seat.restart)) (sits.carried, sits.at)
        rest_goal seat sits strand (Installs kind) modest there kept =
            let plain = strand_plain s code seat.restart.kind strand in
            let next = strand_plain s code kind modest in
            let aims = strand_aims s code m seat.place kind modest in
            installing s code words stand h f tk fit law o live seat.place sits.carried (record { kind = kind; bottom = seat.restart.bottom }) there aims.0 aims.1 h f tk
            (subst (λ (y : ℕ). After law.board.gone (Closed s.takeover m) m (put k seat.place kind) (put b seat.place y) h) sits.at.bottom
            (own_goes s code words stand h f tk fit law o live seat.place sits.carried kind (b seat.place) (strand_free s code kind modest)
            (plain_install law.board.board seat.place seat.restart.kind kind sits.at.kind plain.0 next.0 (λ x z. absurd (plain.1 law.board.ghost seat.place x z)) (λ x z. absurd (next.1 law.board.ghost seat.place x z))))) law.counts
        rest_goal seat sits strand Breaks modest there kept = waiting s code words stand h f tk fit law o live (IsBroken seat.place) sits.carried.lives

        abbrev Act_ : Act → Standing → Type 0
        Act_ act x = GoesState law.board.gone words (acts s code (record { words = words; stand = stand }) o act x) (by_act s words act x h) (step_by (row_by fork_row) act x ++ f) (step_by (row_by take_row) act x ++ tk)

        stepped : (x : Standing) → x ≢ IsDone → Sees s m k b o x → (u : ℕ) → IsOrderly s words (Step u) x h f → Act_ (Step u) x
        stepped IsLost ne a u orderly =
            let found : ℕ = read s words (cells.CarryWord o) in
            waiting s code words stand h f tk fit law o live (placed s found) (place_known found (shows s words (Carry o) (lt-ltb o s.processors a.there)) a)
        stepped (IsPlaced p) ne a u orderly =
            let r : Option Restart = restart_of (read s words (cells.RestartWord p)) in
            waiting s code words stand h f tk fit law o live (IsAt p r) (a, restart_known p a r refl)
        stepped (IsAt p r) ne a u orderly = waiting s code words stand h f tk fit law o live _ (begun p a.0 r a.1 (slice_index words 0))
        stepped (IsWithin seat row) ne a u orderly = row_goal seat a.0 row a.1 u orderly.0 a.2 orderly.1
        stepped (IsRunning seat rest) ne a u orderly = rest_goal seat a.0 a.1 rest a.2 a.3 orderly.1
        stepped (IsBroken p) ne a u orderly = finishing (finish_word (BrokenAt p)) IsDone tt
        stepped IsDone ne a u orderly = absurd (ne refl)

        live_act : (x : Standing) → x ≢ IsDone → Sees s m k b o x → (act : Act) → IsOrderly s words act x h f → Act_ act x
        live_act x ne a (Step u) orderly = stepped x ne a u orderly
        live_act x ne a Soft orderly = by x ne (lives_of o x ne a)
          where
            by : (x : Standing) → x ≢ IsDone → Lives s m o → Act_ Soft x
            by IsDone ne a = absurd (ne refl)
            by IsLost ne a = loses a
            by (IsPlaced p) ne a = loses a
            by (IsAt p r) ne a = loses a
            by (IsWithin seat row) ne a = loses a
            by (IsRunning seat rest) ne a = loses a
            by (IsBroken p) ne a = loses a
        live_act x ne a Hard orderly = by x ne (lives_of o x ne a)
          where
            by : (x : Standing) → x ≢ IsDone → Lives s m o → Act_ Hard x
            by IsDone ne a = absurd (ne refl)
            by IsLost ne a = dies a
            by (IsPlaced p) ne a = dies a
            by (IsAt p r) ne a = dies a
            by (IsWithin seat row) ne a = dies a
            by (IsRunning seat rest) ne a = dies a
            by (IsBroken p) ne a = dies a
        live_act x ne a (Quit why) orderly = by x ne (lives_of o x ne a)
          where
            quits : Lives s m o → Goes s code law.board.gone words (if slice_index words 0 == 0 then slice_set words 0 (finish_word (quit_with o why)) else words) (slice_set stand o IsLost) h f tk
            quits a = finishing (finish_word (quit_with o why)) IsLost a

            by : (x : Standing) → x ≢ IsDone → Lives s m o → Act_ (Quit why) x
            by IsDone ne a = absurd (ne refl)
            by IsLost ne a = quits a
            by (IsPlaced p) ne a = quits a
            by (IsAt p r) ne a = quits a
            by (IsWithin seat row) ne a = quits a
            by (IsRunning seat rest) ne a = quits a
            by (IsBroken p) ne a = quits a

      done_act : (act : Act) → GoesState law.board.gone words (acts s code (record { words = words; stand = stand }) o act IsDone) (by_act s words act IsDone h) (step_by (row_by fork_row) act IsDone ++ f) (step_by (row_by take_row) act IsDone ++ tk)
      done_act (Step u) = (((fit, law), λ v x. x), λ v i. inl refl)
      done_act Soft = (((fit, law), λ v x. x), λ v i. inl refl)
      done_act Hard = (((fit, law), λ v x. x), λ v i. inl refl)
      done_act (Quit why) = (((fit, law), λ v x. x), λ v i. inl refl)

      done_or : (x : Standing) → (x ≡ IsDone) ⊎ (x ≢ IsDone)
      done_or IsDone = inl refl
      done_or _ = inr (λ e. cc)

      -- an act of any processor
      pub act_keeps : (act : Act) → IsOrderly s words act (stand_in (slice_get stand o)) h f
          → GoesState law.board.gone words (acts s code (record { words = words; stand = stand }) o act (stand_in (slice_get stand o))) (by_act s words act (stand_in (slice_get stand o)) h)
          (step_by (row_by fork_row) act (stand_in (slice_get stand o)) ++ f) (step_by (row_by take_row) act (stand_in (slice_get stand o)) ++ tk)
      act_keeps act orderly = elim (done_or (stand_in (slice_get stand o))) [
        | inl e ↦ subst (λ (x : Standing). GoesState law.board.gone words (acts s code (record { words = words; stand = stand }) o act x) (by_act s words act x h) (step_by (row_by fork_row) act x ++ f) (step_by (row_by take_row) act x ++ tk)) (sym e) (done_act act)
        | inr ne ↦ live_act ne (stand_in (slice_get stand o)) ne (law.sees o) act orderly
      ]

  -- along a run
  pub run_keeps : (turns : List Turn) (state : State) (h : ℕ → Home) (f tk : List ℕ) → KeepsState state h f tk → AreOrderly s code state h f turns
      → KeepsState (after s code state turns) (homes s code state h turns) (forked s code state f turns) (taken s code state tk turns)
  run_keeps [] state h f tk law orderly = law
  run_keeps (turn ∷ turns) state h f tk law orderly =
      run_keeps turns (happens s code state turn) (by_act s state.words turn.act (stand_of state turn.processor) h) (step_by (row_by fork_row) turn.act (stand_of state turn.processor) ++ f)
      (step_by (row_by take_row) turn.act (stand_of state turn.processor) ++ tk) (act_keeps state.words state.stand h f tk law.0 law.1 turn.processor turn.act orderly.0).0.0 orderly.1
