-- Each turn of a processor that is alone in a place is a step of that place.
use Rattle.std.proofs.Common.{◌≡◌, ◌≢◌, ◌≤◌, ◌<◌, ℕ, zero, suc, ◌==◌, cond, Bool, true, false, List, [], ◌∷◌, inl, inr, refl, sym, ap, ◌∙◌, subst, arith, Option, Some, None, slice_set}
use Rattle.std.specs.Prelude.{nat_lt, slice_get, if◌then◌else◌}
use Rattle.std.proofs.Math.Path.{fun_ext}
use Rattle.std.proofs.lemmas.Bool.{cases_eq, eq-eqb, ne_eqb, ltb-true, lt-ltb}
use Rattle.ppm_cells.specs.Cells.{IsCell}
use Rattle.ppm_cells.specs.Memory.{read, write, AreWordsOf}
use Rattle.ppm_cells.specs.Restart.{restart_of, restart_word, IsRestart}
use Rattle.ppm_cells.proofs.RestartLemmas.{restarts_exact}
use Rattle.ppm_cells.proofs.ExactLemmas.{unpack-pack}
use Rattle.ppm_cells.proofs.MemoryLemmas.{read_back, others}
use Rattle.ppm_cells.specs.declared.cell.Cell.{Cell}
use Rattle.ppm_cells.specs.declared.cell.Cell.TheVariants.{FinishWord, CarryWord, DeadWord, RestartWord}
use Rattle.ppm_cells.specs.declared.restart.Restart.{Restart}
use Rattle.ppm_cells.specs.declared.restart.RestartKind.{RestartKind}
use Rattle.ppm_cells.specs.declared.restart.RestartKind.TheVariants.{Seek, Run}
use Rattle.ppm_cells.specs.declared.shape.Shape.{Shape}
use Rattle.ppm_code.specs.declared.code.Capsule.{Capsule as CodeCapsule}
use Rattle.ppm_code.specs.declared.code.CodeParts.{CodeParts}
use Rattle.ppm_step.specs.Contents.{word_of}
use Rattle.ppm_step.specs.Frames.{Rest, Loads, Stores, Full, Installs}
use Rattle.ppm_step.specs.Points.{cell_at, reading_at}
use Rattle.ppm_step.specs.Contents.{content_of}
use Rattle.ppm_step.specs.Rows.{found_at, row_of}
use Rattle.ppm_step.specs.Standings.{Standing, IsLost, IsPlaced, IsAt, IsWithin, IsRunning, IsBroken, IsDone, unknown_place, placed, within_if, running_if, running, row_is_there, then_is_there, rest_is_there, enters, stands_then, stands, begins_if, at_finish, forked, begun, went_row}
use Rattle.ppm_step.specs.State.{State as Machine, stand_in, stand_of, acts, is_done_at}
use Rattle.ppm_step.specs.There.{restart_is_there}
use Rattle.ppm_step.proofs.ThereLemmas.{restart_fits}
use Rattle.ppm_step.specs.declared.row.Row.{Row}
use Rattle.ppm_step.specs.declared.row.Row.TheVariants.{Now, Store, Exchange}
use Rattle.ppm_step.specs.declared.row.Seat.{Seat}
use Rattle.ppm_step.specs.declared.row.Then.{Then}
use Rattle.ppm_step.specs.declared.row.Then.TheVariants.{Load, Install, Fork, Begin, Move, Enter, Again, Broken}
use Rattle.ppm_step.specs.declared.turn.Act.{Act}
use Rattle.ppm_step.specs.declared.turn.Act.TheVariants.{Step, Soft, Hard}
use Rattle.ppm_frames.specs.Views.{written, is_cell, view}
use Rattle.ppm_frames.proofs.SeenLemmas.{if_true, if_false}
use Rattle.ppm_frames.proofs.ViewLemmas.{cells_are_viewed, others_are_unseen, is_one}
use Rattle.ppm_kept.specs.Kept.{Doing, Resting, State, put}
use Rattle.ppm_kept.specs.Moves.{doing_of, goes, stores, exchanges, installs, fills}
use Rattle.ppm_kept.specs.Laws.{Ends, kind_then}
use Rattle.ppm_kept.specs.Places.{kind_or, kinds_of, is_in, doing_in, places_of, IsOf, Holds, IsUnseen, acted, IsNowhere, RowShows, RestShows, BareShows, FaultsShow, TurnsShow}
use Rattle.ppm_kept.proofs.PutLemmas.{put_here, put_else}
use Rattle.ppm_cells.proofs.CellLemmas.{few_words}
use Rattle.ppm_kept.proofs.TurnLemmas.{steps_are_seen}
use Rattle.ppm_kept.proofs.ExchangeLemmas.{exchanges_are_seen}

-- where processors stand once one has moved
stand_other : (l : List Standing) (o d : ℕ) (x : Standing) → d ≢ o → stand_in (slice_get (slice_set l o x) d) ≡ stand_in (slice_get l d)
stand_other [] o d x ne = refl
stand_other (y ∷ l) zero zero x ne = absurd (ne refl)
stand_other (y ∷ l) zero (suc d) x ne = refl
stand_other (y ∷ l) (suc o) zero x ne = refl
stand_other (y ∷ l) (suc o) (suc d) x ne = stand_other l o d x (λ e. ne (ap suc e))

stand_own : (l : List Standing) (o : ℕ) (x : Standing) → is_done_at (stand_in (slice_get l o)) ≡ false → stand_in (slice_get (slice_set l o x) o) ≡ x
stand_own [] o x live = absurd (cc)
stand_own (y ∷ l) zero x live = refl
stand_own (y ∷ l) (suc o) x live = stand_own l o x live

-- a standing of place p is in no other
in_else : (p q : ℕ) → q ≢ p → (x : Standing) → IsOf p x → is_in q x ≡ false
in_else p q ne (IsWithin seat row) e = ne_eqb seat.place q (λ z. ne (sym z ∙ e))
in_else p q ne (IsRunning seat rest) e = ne_eqb seat.place q (λ z. ne (sym z ∙ e))
in_else p q ne (IsBroken place) e = refl
in_else p q ne IsLost e = refl
in_else p q ne (IsPlaced place) e = refl
in_else p q ne (IsAt place restart) e = refl
in_else p q ne IsDone e = refl

in_own : (p : ℕ) (x : Standing) → IsOf p x → (if is_in p x then doing_of x else Resting) ≡ doing_of x
in_own p (IsWithin seat row) e = if_true (seat.place == p) _ _ (eq-eqb seat.place p e)
in_own p (IsRunning seat rest) e = if_true (seat.place == p) _ _ (eq-eqb seat.place p e)
in_own p (IsBroken place) e = refl
in_own p IsLost e = refl
in_own p (IsPlaced place) e = refl
in_own p (IsAt place restart) e = refl
in_own p IsDone e = refl

-- what places do, where one processor alone stands elsewhere
module _ (f g : ℕ → Standing) (c p : ℕ) (x : Standing) (here : g c ≡ x) (there : (d : ℕ) → d ≢ c → g d ≡ f d) (was : IsOf p (f c)) (now : IsOf p x) (others_out : (d : ℕ) → d ≢ c → is_in p (f d) ≡ false) where
  doing_else : (n q : ℕ) → q ≢ p → doing_in g n q ≡ doing_in f n q
  doing_else zero q ne = refl
  doing_else (suc n) q ne = elim (cases_eq n c) [
    | inl e ↦ if_false (is_in q (g n)) _ _ (ap (λ (y : ℕ). is_in q (g y)) e ∙ ap (is_in q) here ∙ in_else p q ne x now)
        ∙ doing_else n q ne
        ∙ sym (if_false (is_in q (f n)) _ _ (ap (λ (y : ℕ). is_in q (f y)) e ∙ in_else p q ne (f c) was))
    | inr other ↦ ap (λ (y : Standing). if is_in q y then doing_of y else doing_in g n q) (there n other)
        ∙ ap (λ (d : Doing). if is_in q (f n) then doing_of (f n) else d) (doing_else n q ne)
  ]

  out : (d : ℕ) → d ≢ c → is_in p (g d) ≡ false
  out d ne = ap (is_in p) (there d ne) ∙ others_out d ne

  doing_none : (n : ℕ) → n ≤ c → doing_in g n p ≡ Resting
  doing_none zero le = refl
  doing_none (suc n) le = if_false (is_in p (g n)) _ _ (out n (λ e. omega (arith, le, e))) ∙ doing_none n (omega (arith, le))

  pub doing_here : (n : ℕ) → c < n → doing_in g n p ≡ doing_of x
  doing_here zero lt = absurd (omega (arith, lt))
  doing_here (suc n) lt = elim (cases_eq n c) [
    | inl e ↦ ap (λ (y : Standing). if is_in p y then doing_of y else doing_in g n p) (ap g e ∙ here)
        ∙ ap (λ (d : Doing). if is_in p x then doing_of x else d) (doing_none n (omega (arith, e))) ∙ in_own p x now
    | inr other ↦ if_false (is_in p (g n)) _ _ (out n other) ∙ doing_here n (omega (arith, lt, other))
  ]

  doing_moves : (n : ℕ) → c < n → doing_in g n ≡ put (doing_in f n) p (doing_of x)
  doing_moves n lt = fun_ext (λ q. elim (cases_eq q p) [
    | inl e ↦ ap (doing_in g n) e ∙ doing_here n lt ∙ sym (ap (put (doing_in f n) p (doing_of x)) e ∙ put_here (doing_in f n) p (doing_of x))
    | inr ne ↦ doing_else n q ne ∙ sym (put_else (doing_in f n) p (doing_of x) q ne)
  ])

-- one that is in no place, and stays so
nowhere_out : (x : Standing) → IsNowhere x → (q : ℕ) → is_in q x ≡ false
nowhere_out (IsWithin seat row) h q = absurd h
nowhere_out (IsRunning seat rest) h q = absurd h
nowhere_out (IsBroken place) h q = refl
nowhere_out IsLost h q = refl
nowhere_out (IsPlaced place) h q = refl
nowhere_out (IsAt place restart) h q = refl
nowhere_out IsDone h q = refl

doing_same : (f g : ℕ → Standing) (c : ℕ) → ((d : ℕ) → d ≢ c → g d ≡ f d) → IsNowhere (f c) → IsNowhere (g c) → (n q : ℕ) → doing_in g n q ≡ doing_in f n q
doing_same f g c there was now zero q = refl
doing_same f g c there was now (suc n) q = elim (cases_eq n c) [
  | inl e ↦ if_false (is_in q (g n)) _ _ (ap (λ (y : ℕ). is_in q (g y)) e ∙ nowhere_out (g c) now q)
      ∙ doing_same f g c there was now n q
      ∙ sym (if_false (is_in q (f n)) _ _ (ap (λ (y : ℕ). is_in q (f y)) e ∙ nowhere_out (f c) was q))
  | inr other ↦ ap (λ (y : Standing). if is_in q y then doing_of y else doing_in g n q) (there n other)
      ∙ ap (λ (d : Doing). if is_in q (f n) then doing_of (f n) else d) (doing_same f g c there was now n q)
]

-- where a processor stands within a row of a seat
within_of : (seat : Seat) (row : Row) (b : Bool) → IsOf seat.place (within_if seat row b)
within_of seat row true = refl
within_of seat row false = tt

running_of : (s : Shape) (seat : Seat) (rest : Rest) → IsOf seat.place (running s seat rest)
running_of s seat rest = by (rest_is_there s seat rest)
  where
    by : (b : Bool) → IsOf seat.place (running_if seat rest b)
    by true = refl
    by false = tt

module _ (s : Shape) (code : CodeParts) where
  enters_of : (seat : Seat) (k : RestartKind) (o : Option CodeCapsule) → IsOf seat.place (enters s code seat k o)
  enters_of seat (Run f y) (Some one) = running_of s seat _
  enters_of seat _ o = tt

  then_of : (seat : Seat) (next : Then) → IsOf seat.place (stands_then s code seat next)
  then_of seat (Enter x) = enters_of seat seat.restart.kind (slice_get code.capsules x)
  then_of seat Again = tt
  then_of seat (Load x) = within_of seat (Now (Load x)) (then_is_there s seat (Load x))
  then_of seat (Install x) = within_of seat (Now (Install x)) (then_is_there s seat (Install x))
  then_of seat (Fork x) = within_of seat (Now (Fork x)) (then_is_there s seat (Fork x))
  then_of seat (Begin x w v) = within_of seat (Now (Begin x w v)) (then_is_there s seat (Begin x w v))
  then_of seat (Move x) = within_of seat (Now (Move x)) (then_is_there s seat (Move x))
  then_of seat Broken = tt

  stands_of : (seat : Seat) (row : Row) → IsOf seat.place (stands s code seat row)
  stands_of seat (Now next) = then_of seat next
  stands_of seat (Store c w x) = within_of seat (Store c w x) (row_is_there s seat (Store c w x))
  stands_of seat (Exchange c v w x) = within_of seat (Exchange c v w x) (row_is_there s seat (Exchange c v w x))

  begins_of : (own p : ℕ) (r : Option Restart) (finish : ℕ) → IsOf p (at_finish s code own p r finish)
  begins_of own p r (suc finish) = tt
  begins_of own p None zero = tt
  begins_of own p (Some r) zero = by (restart_is_there s r)
    where
      by : (b : Bool) → IsOf p (begins_if s code (record { own = own; place = p; restart = r }) b)
      by true = stands_of (record { own = own; place = p; restart = r }) (row_of s (record { own = own; place = p; restart = r }) r.kind)
      by false = tt

-- restart words
module _ (s : Shape) where
  kind_else : (words : List ℕ) (c : Cell) (w : ℕ) → IsCell s c → (q : ℕ) → (q < s.processors → RestartWord q ≢ c) → kinds_of s (write s words c w) q ≡ kinds_of s words q
  kind_else words c w there q ne = by (nat_lt q s.processors) refl
    where
      by : (t : Bool) → nat_lt q s.processors ≡ t → (if t then kind_or (restart_of (read s (write s words c w) (RestartWord q))) else Seek) ≡ (if t then kind_or (restart_of (read s words (RestartWord q))) else Seek)
      by true e = let lt = ltb-true q s.processors e in ap (λ (n : ℕ). kind_or (restart_of n)) (others s words c (RestartWord q) w there lt (ne lt))
      by false e = refl

  pub kinds_stay : (words : List ℕ) (c : Cell) (w : ℕ) → IsCell s c → ((q : ℕ) → RestartWord q ≢ c) → kinds_of s (write s words c w) ≡ kinds_of s words
  kinds_stay words c w there ne = fun_ext (λ q. kind_else words c w there q (λ lt. ne q))

  kinds_put : (words : List ℕ) (p : ℕ) (r : Restart) → AreWordsOf s words → p < s.processors → IsRestart r
      → kinds_of s (write s words (RestartWord p) (restart_word r)) ≡ put (kinds_of s words) p r.kind
  kinds_put words p r fit there ok = fun_ext (λ q. elim (cases_eq q p) [
    | inl e ↦ ap (kinds_of s (write s words (RestartWord p) (restart_word r))) e
        ∙ if_true (nat_lt p s.processors) _ _ (lt-ltb p s.processors there)
        ∙ ap (λ (n : ℕ). kind_or (restart_of n)) (read_back s words (RestartWord p) (restart_word r) fit there)
        ∙ ap kind_or (unpack-pack restart_word IsRestart restart_of restarts_exact r ok)
        ∙ sym (ap (put (kinds_of s words) p r.kind) e ∙ put_here (kinds_of s words) p r.kind)
    | inr ne ↦ kind_else words (RestartWord p) (restart_word r) there q (λ lt e. ne (cc)) ∙ sym (put_else (kinds_of s words) p r.kind q ne)
  ])

  -- a cell of frames is none
  cell_no_restart : (c : Cell) → is_cell s c ≡ true → (q : ℕ) → RestartWord q ≢ c
  cell_no_restart c is q e = let x = subst (λ (z : Cell). is_cell s z ≡ true) (sym e) is in absurd (cc)

abbrev state_by : (Cell → ℕ) → (ℕ → RestartKind) → (ℕ → Doing) → State
state_by w k d = record { words = w; kind = k; doing = d }

state_path : (w w' : Cell → ℕ) (k k' : ℕ → RestartKind) (d d' : ℕ → Doing) → w ≡ w' → k ≡ k' → d ≡ d' → state_by w k d ≡ state_by w' k' d'
state_path w w' k k' d d' a b c = λ i. record { words = a i; kind = b i; doing = c i }

module _ (s : Shape) (code : CodeParts) (state : Machine) (c p : ℕ) (holds : Holds s state c p) (live : is_done_at (stand_of state c) ≡ false) where
  -- where it then stands, with the words after it
  pub moved : (words : List ℕ) (x : Standing) → IsOf p x → (w : Cell → ℕ) (k : ℕ → RestartKind) → view s words ≡ w → kinds_of s words ≡ k
      → places_of s (record { words = words; stand = slice_set state.stand c x }) ≡ state_by w k (put (doing_in (stand_of state) s.processors) p (doing_of x))
  moved words x now w k a b = state_path (view s words) w (kinds_of s words) k (doing_in (stand_of (record { words = words; stand = slice_set state.stand c x })) s.processors) (put (doing_in (stand_of state) s.processors) p (doing_of x)) a b
      (doing_moves (stand_of state) (stand_of (record { words = words; stand = slice_set state.stand c x })) c p x (stand_own state.stand c x live) (λ d ne. stand_other state.stand c d x ne) holds.own now holds.others s.processors holds.there)

  -- a word that no frame sees
  unseen : (cell : Cell) (w : ℕ) → IsUnseen s cell → (x : Standing) → IsOf p x
      → places_of s (record { words = write s state.words cell w; stand = slice_set state.stand c x }) ≡ state_by (view s state.words) (kinds_of s state.words) (put (doing_in (stand_of state) s.processors) p (doing_of x))
  unseen cell w out x now = moved (write s state.words cell w) x now (view s state.words) (kinds_of s state.words) (others_are_unseen s state.words cell w out.there out.no_frame) (kinds_stay s state.words cell w out.there out.no_restart)

  kinds_after : (cell : Cell) (w : ℕ) → IsCell s cell → ((q : ℕ) → RestartWord q ≢ cell) → (b : Bool) → kinds_of s (if b then write s state.words cell w else state.words) ≡ kinds_of s state.words
  kinds_after cell w there ne true = kinds_stay s state.words cell w there ne
  kinds_after cell w there ne false = refl

  -- an install
  installed : (r : Restart) → restart_is_there s r ≡ true
      → places_of s (record { words = write s state.words (RestartWord p) (restart_word r); stand = slice_set state.stand c (IsAt p (Some r)) }) ≡ state_by (view s state.words) (put (kinds_of s state.words) p r.kind) (put (doing_in (stand_of state) s.processors) p Resting)
  installed r there = moved (write s state.words (RestartWord p) (restart_word r)) (IsAt p (Some r)) tt (view s state.words) (put (kinds_of s state.words) p r.kind)
      (others_are_unseen s state.words (RestartWord p) (restart_word r) holds.place refl) (kinds_put s state.words p r holds.words holds.place (restart_fits s (few_words s) r there))

module _ (s : Shape) (code : CodeParts) (state : Machine) (c : ℕ) (seat : Seat) (holds : Holds s state c seat.place) where
  abbrev p : ℕ
  p = seat.place

  abbrev S : State
  S = places_of s state

  live_at : (x : Standing) → stand_of state c ≡ x → is_done_at x ≡ false → is_done_at (stand_of state c) ≡ false
  live_at x e live = ap is_done_at e ∙ live

  -- by where it stands
  from_stand : (x : Standing) → stand_of state c ≡ x → (act : Act) (z : State) → places_of s (acts s code state c act x) ≡ z → acted s code state c act ≡ z
  from_stand x e act z goal = subst (λ (y : Standing). places_of s (acts s code state c act y) ≡ z) (sym e) goal

  rows : RowShows s code state c seat
  rows = record {
    loads = λ victim point e.
        let x : Standing = IsWithin seat (Now (Load point)) in
        let to = went_row s code seat victim (read s state.words (cell_at seat victim point)) (Now (Load point)) in
        from_stand x e (Step victim) (goes S p to) (moved s code state c p holds (live_at x e refl) state.words to (stands_of s code seat (found_at s seat victim point (content_of (reading_at point) (read s state.words (cell_at seat victim point))))) (view s state.words) (kinds_of s state.words) refl refl);
    stores = λ victim found cell content next e is.
        let x : Standing = IsWithin seat (Store cell content next) in
        from_stand x e (Step victim) (stores S p cell (word_of content) (stands_then s code seat next))
        (moved s code state c p holds (live_at x e refl) (write s state.words cell (word_of content)) (stands_then s code seat next) (then_of s code seat next) (written (view s state.words) cell (word_of content)) (kinds_of s state.words)
        (cells_are_viewed s state.words cell (word_of content) holds.words is) (kinds_stay s state.words cell (word_of content) (is_one s cell is) (cell_no_restart s cell is)));
    unseen_stores = λ victim found cell content next e out.
        let x : Standing = IsWithin seat (Store cell content next) in
        from_stand x e (Step victim) (goes S p (stands_then s code seat next)) (unseen s code state c p holds (live_at x e refl) cell (word_of content) out (stands_then s code seat next) (then_of s code seat next));
    exchanges = λ victim found cell old new next e is.
        let x : Standing = IsWithin seat (Exchange cell old new next) in
        let b : Bool = read s state.words cell == word_of old in
        from_stand x e (Step victim) (exchanges S p cell (word_of old) (word_of new) (stands_then s code seat next))
        (moved s code state c p holds (live_at x e refl) (if b then write s state.words cell (word_of new) else state.words) (stands_then s code seat next) (then_of s code seat next)
        (cond (view s state.words cell == word_of old) (written (view s state.words) cell (word_of new)) (view s state.words)) (kinds_of s state.words)
        ((exchanges_are_seen s state.words seat holds.words).seen victim cell old new next is) (kinds_after s code state c p holds (live_at x e refl) cell (word_of new) (is_one s cell is) (cell_no_restart s cell is) b));
    unseen_exchanges = λ victim found cell old new next e out.
        let x : Standing = IsWithin seat (Exchange cell old new next) in
        let b : Bool = read s state.words cell == word_of old in
        from_stand x e (Step victim) (goes S p (stands_then s code seat next))
        (moved s code state c p holds (live_at x e refl) (if b then write s state.words cell (word_of new) else state.words) (stands_then s code seat next) (then_of s code seat next) (view s state.words) (kinds_of s state.words)
        ((exchanges_are_seen s state.words seat holds.words).unseen victim cell old new next out.there out.no_frame) (kinds_after s code state c p holds (live_at x e refl) cell (word_of new) out.there out.no_restart b));
    installs = install_shows;
    moves = λ victim place e own.
        let x : Standing = IsWithin seat (Now (Move place)) in
        from_stand x e (Step victim) (goes S p IsLost) (unseen s code state c p holds (live_at x e refl) (CarryWord seat.own) place (record { there = own; no_frame = refl; no_restart = λ q z. cc }) (IsPlaced place) tt);
  }
    where
      install_shows : (victim : ℕ) (next : Then) → Ends next → stand_of state c ≡ IsWithin seat (Now next) → then_is_there s seat next ≡ true → acted s code state c (Step victim) ≡ installs S p (kind_then next)
      install_shows victim (Install r) ends e there = from_stand (IsWithin seat (Now (Install r))) e (Step victim) (installs S p r.kind) (installed s code state c p holds (live_at (IsWithin seat (Now (Install r))) e refl) r there)
      install_shows victim (Fork block) ends e there = from_stand (IsWithin seat (Now (Fork block))) e (Step victim) (installs S p (kind_then (Fork block))) (installed s code state c p holds (live_at (IsWithin seat (Now (Fork block))) e refl) (forked seat block) there)
      install_shows victim (Begin block frame bottom) ends e there =
          from_stand (IsWithin seat (Now (Begin block frame bottom))) e (Step victim) (installs S p (kind_then (Begin block frame bottom))) (installed s code state c p holds (live_at (IsWithin seat (Now (Begin block frame bottom))) e refl) (begun frame bottom) there)
      install_shows victim (Load x) ends e there = absurd ends
      install_shows victim (Move x) ends e there = absurd ends
      install_shows victim (Enter x) ends e there = absurd ends
      install_shows victim Again ends e there = absurd ends
      install_shows victim Broken ends e there = absurd ends

  rests : RestShows s code state c seat
  rests = record {
    loads = λ victim cell next e.
        let x : Standing = IsRunning seat (Loads cell next) in
        from_stand x e (Step victim) (goes S p (running s seat (next (read s state.words cell))))
        (moved s code state c p holds (live_at x e refl) state.words (running s seat (next (read s state.words cell))) (running_of s seat (next (read s state.words cell))) (view s state.words) (kinds_of s state.words) refl refl);
    stores = λ victim found cell content next e is.
        let x : Standing = IsRunning seat (Stores cell content next) in
        from_stand x e (Step victim) (stores S p cell (word_of content) (running s seat next))
        (moved s code state c p holds (live_at x e refl) (write s state.words cell (word_of content)) (running s seat next) (running_of s seat next) (written (view s state.words) cell (word_of content)) (kinds_of s state.words)
        (cells_are_viewed s state.words cell (word_of content) holds.words is) (kinds_stay s state.words cell (word_of content) (is_one s cell is) (cell_no_restart s cell is)));
    installs = λ victim kind e there.
        let x : Standing = IsRunning seat (Installs kind) in
        from_stand x e (Step victim) (installs S p kind) (installed s code state c p holds (live_at x e refl) (record { kind = kind; bottom = seat.restart.bottom }) there);
    full = λ victim e.
        let x : Standing = IsRunning seat Full in
        from_stand x e (Step victim) (fills S p)
        (moved s code state c p holds (live_at x e refl) _ (IsAt p (Some seat.restart)) tt _ (kinds_of s state.words)
        (steps_are_seen s state.words seat holds.words holds.place).fills (kinds_after s code state c p holds (live_at x e refl) FinishWord _ tt (λ q z. cc) (read s state.words FinishWord == 0)));
  }

-- what does not change the state by places
module _ (s : Shape) (code : CodeParts) (state : Machine) (c : ℕ) where
  abbrev T : State
  T = places_of s state

  -- by where it stands
  at_stand : (x : Standing) → stand_of state c ≡ x → (act : Act) (z : State) → places_of s (acts s code state c act x) ≡ z → acted s code state c act ≡ z
  at_stand x e act z goal = subst (λ (y : Standing). places_of s (acts s code state c act y) ≡ z) (sym e) goal

  -- in no place before and after
  pub bare : (words : List ℕ) (x : Standing) → is_done_at (stand_of state c) ≡ false → IsNowhere (stand_of state c) → IsNowhere x → view s words ≡ view s state.words → kinds_of s words ≡ kinds_of s state.words
      → places_of s (record { words = words; stand = slice_set state.stand c x }) ≡ T
  bare words x live was now a b = state_path (view s words) (view s state.words) (kinds_of s words) (kinds_of s state.words) (doing_in (stand_of (record { words = words; stand = slice_set state.stand c x })) s.processors) T.doing a b
      (fun_ext (λ q. doing_same (stand_of state) (stand_of (record { words = words; stand = slice_set state.stand c x })) c (λ d ne. stand_other state.stand c d x ne) was (subst IsNowhere (sym (stand_own state.stand c x live)) now) s.processors q))

  -- and with the own dead word
  pub dead_unseen : c < s.processors → IsUnseen s (DeadWord c)
  dead_unseen there = record { there = there; no_frame = refl; no_restart = λ q z. cc }

  soft_by : (x : Standing) → is_done_at x ≡ false → (z : State) → places_of s (record { words = state.words; stand = slice_set state.stand c IsLost }) ≡ z → places_of s (acts s code state c Soft x) ≡ z
  soft_by IsDone no_ z e = absurd (cc)
  soft_by IsLost no_ z e = e
  soft_by (IsPlaced q) no_ z e = e
  soft_by (IsAt q r) no_ z e = e
  soft_by (IsWithin seat row) no_ z e = e
  soft_by (IsRunning seat rest) no_ z e = e
  soft_by (IsBroken q) no_ z e = e

  hard_by : (x : Standing) → is_done_at x ≡ false → (z : State) → places_of s (record { words = write s state.words (DeadWord c) 1; stand = slice_set state.stand c IsDone }) ≡ z → places_of s (acts s code state c Hard x) ≡ z
  hard_by IsDone no_ z e = absurd (cc)
  hard_by IsLost no_ z e = e
  hard_by (IsPlaced q) no_ z e = e
  hard_by (IsAt q r) no_ z e = e
  hard_by (IsWithin seat row) no_ z e = e
  hard_by (IsRunning seat rest) no_ z e = e
  hard_by (IsBroken q) no_ z e = e

  placed_nowhere : (found : ℕ) → IsNowhere (placed s found)
  placed_nowhere found = by (nat_lt found s.processors)
    where
      by : (b : Bool) → IsNowhere (if b then IsPlaced found else IsBroken unknown_place)
      by true = tt
      by false = tt

  bare_turns : BareShows s code state c
  bare_turns = record {
    begins = λ victim p restart e holds. at_stand (IsAt p restart) e (Step victim) (goes T p (at_finish s code c p restart (read s state.words FinishWord)))
        (moved s code state c p holds (ap is_done_at e) state.words (at_finish s code c p restart (read s state.words FinishWord)) (begins_of s code c p restart (read s state.words FinishWord)) (view s state.words) (kinds_of s state.words) refl refl);
    lost = λ victim e. at_stand IsLost e (Step victim) T (bare state.words (placed s (read s state.words (CarryWord c))) (ap is_done_at e) (subst IsNowhere (sym e) tt) (placed_nowhere (read s state.words (CarryWord c))) refl refl);
    placed = λ victim p e. at_stand (IsPlaced p) e (Step victim) T (bare state.words (IsAt p (restart_of (read s state.words (RestartWord p)))) (ap is_done_at e) (subst IsNowhere (sym e) tt) tt refl refl);
  }

  faults : is_done_at (stand_of state c) ≡ false → FaultsShow s code state c
  faults live = record {
    soft = λ p holds. soft_by (stand_of state c) live (goes T p IsLost) (moved s code state c p holds live state.words IsLost tt (view s state.words) (kinds_of s state.words) refl refl);
    hard = λ p holds. hard_by (stand_of state c) live (goes T p IsLost) (unseen s code state c p holds live (DeadWord c) 1 (dead_unseen holds.there) IsDone tt);
    soft_bare = λ was. soft_by (stand_of state c) live T (bare state.words IsLost live was tt refl refl);
    hard_bare = λ was there. let out = dead_unseen there in hard_by (stand_of state c) live T (bare (write s state.words (DeadWord c) 1) IsDone live was tt
        (others_are_unseen s state.words (DeadWord c) 1 out.there out.no_frame) (kinds_stay s state.words (DeadWord c) 1 out.there out.no_restart));
  }

pub turns_show : TurnsShow
turns_show s code state c = (λ seat holds. (rows s code state c seat holds, rests s code state c seat holds), bare_turns s code state c, faults s code state c)
