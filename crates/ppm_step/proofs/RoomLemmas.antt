-- The finish word says that a pool is full only where a turn found it so.
use Rattle.std.proofs.Common.{◌≡◌, ◌≢◌, ◌<◌, ◌≤◌, ◌+◌, ◌⊎◌, inl, inr, refl, sym, ap, ◌∙◌, subst, arith, ℕ, zero, suc, Bool, true, false, Option, Some, None}
use Rattle.std.proofs.Common.{List, [], ◌∷◌, ◌++◌, replicate, slice_index, slice_set}
use Rattle.std.specs.Prelude.{if◌then◌else◌, nat_lt, nat_le, slice_get}
use Rattle.std.proofs.lemmas.Bool.{leb-false, ltb-false}
use Rattle.ppm_cells.specs.Cells.{pool_at}
use Rattle.ppm_cells.specs.Fields.{number_of}
use Rattle.ppm_cells.specs.Finish.{finish_word, finish_of, IsFinish, IsOutcome}
use Rattle.ppm_cells.specs.Memory.{read}
use Rattle.ppm_cells.specs.declared.cell.Cell.TheVariants.{RoomCounter}
use Rattle.ppm_cells.specs.declared.finish.Finish.{Finish}
use Rattle.ppm_cells.specs.declared.finish.Finish.TheVariants as finishes
use Rattle.ppm_cells.specs.declared.restart.Restart.{Restart}
use Rattle.ppm_cells.specs.declared.restart.RestartKind.{RestartKind}
use Rattle.ppm_cells.specs.declared.restart.RestartKind.TheVariants.{Run}
use Rattle.ppm_cells.specs.declared.shape.Shape.{Shape}
use Rattle.ppm_cells.proofs.ExactLemmas.{pack-unpack}
use Rattle.ppm_cells.proofs.FinishLemmas.{finishes_exact}
use Rattle.ppm_code.specs.Capsules.{capsule_of}
use Rattle.ppm_code.specs.Code.{IsCode, room_of}
use Rattle.ppm_code.specs.declared.code.Capsule.{Capsule}
use Rattle.ppm_code.specs.declared.code.CodeParts.{CodeParts}
use Rattle.ppm_step.specs.declared.frame.Home.{Home}
use Rattle.ppm_step.specs.declared.row.Seat.{Seat}
use Rattle.ppm_step.specs.declared.row.Then.{Then}
use Rattle.ppm_step.specs.declared.row.Then.TheVariants.{Load, Install, Fork, Begin, Move, Enter, Again, Broken}
use Rattle.ppm_step.specs.declared.row.Row.{Row}
use Rattle.ppm_step.specs.declared.row.Row.TheVariants.{Now, Store, Exchange}
use Rattle.ppm_step.specs.declared.turn.Act.{Act}
use Rattle.ppm_step.specs.declared.turn.Act.TheVariants.{Step, Soft, Hard, Quit}
use Rattle.ppm_step.specs.declared.turn.Turn.{Turn}
use Rattle.ppm_step.specs.declared.turn.Why.{Why}
use Rattle.ppm_step.specs.declared.turn.Why.TheVariants.{Turns, Watch}
use Rattle.ppm_step.specs.Contents.{content_of}
use Rattle.ppm_step.specs.Frames.{Rest, Loads, Stores, Full, Installs, Breaks, asks, at_counter, rest_of}
use Rattle.ppm_step.specs.Points.{reading_at}
use Rattle.ppm_step.specs.Rows.{found_at, row_of}
use Rattle.ppm_step.specs.There.{restart_is_there}
use Rattle.ppm_step.specs.Standings.{Standing, IsLost, IsPlaced, IsAt, IsWithin, IsRunning, IsBroken, IsDone, unknown_place, then_is_there}
use Rattle.ppm_step.specs.Standings.{row_is_there, rest_is_there, within_if, running_if, running, enters, stands_then, stands, begins_if}
use Rattle.ppm_step.specs.Standings.{went_then, went_row, went_rest, placed, at_finish, wanted_row, wanted_rest, wanted, went}
use Rattle.ppm_step.specs.State.{State, stand_in, stand_of, found_in, quit_with, want_of, stand_after, happens, after, opening}
use Rattle.ppm_step.specs.Laws.{FindsFullIn, IsFilled, IsFilledIn, RoomHasCause, RoomHasFrame}
use Rattle.ppm_step.proofs.PlainLemmas.{IsSimple, Plain, Asking, capsule_simple}
use Rattle.ppm_step.proofs.RestLemmas.{SparesRest, NeverFull, never_full}
use Rattle.ppm_step.proofs.SparingLemmas.{place_first, SparesRow}
use Rattle.ppm_step.proofs.StandLemmas.{Spares}
use Rattle.ppm_step.proofs.WordLemmas.{Asks, WordGoes, word_goes}
use Rattle.ppm_step.proofs.ActLemmas.{asks_then, acted, moved}
use Rattle.ppm_step.proofs.FinishLemmas.{AllSpare, by_turn, turn_spares, opening_spares}

-- no other finish has its word
outcome_not_room : (finish : Finish) (place : ℕ) → IsOutcome finish → finish_word finish ≡ finish_word (finishes.OutOfRoom place) → ⊥
unfolding number_of
outcome_not_room finishes.Ended place is e = omega (arith, e)
outcome_not_room (finishes.Trapped trap line) place is e = omega (arith, e)
outcome_not_room finishes.Unset place is e = absurd is
outcome_not_room (finishes.OutOfTurns processor) place is e = absurd is
outcome_not_room (finishes.OutOfRoom other) place is e = absurd is
outcome_not_room finishes.Stopped place is e = absurd is
outcome_not_room (finishes.Broken other) place is e = absurd is

broken_not_room : (other place : ℕ) → finish_word (finishes.Broken other) ≡ finish_word (finishes.OutOfRoom place) → ⊥
unfolding number_of
broken_not_room other place e = omega (arith, e)

quit_not_room : (processor : ℕ) (why : Why) (place : ℕ) → finish_word (quit_with processor why) ≡ finish_word (finishes.OutOfRoom place) → ⊥
unfolding number_of
quit_not_room processor Turns place e = omega (arith, e)
quit_not_room processor Watch place e = omega (arith, e)

room_some : (place : ℕ) → finish_word (finishes.OutOfRoom place) ≢ 0
unfolding number_of
room_some place e = omega (arith, e)

same_room : (a b : ℕ) → finish_word (finishes.OutOfRoom a) ≡ finish_word (finishes.OutOfRoom b) → a ≡ b
unfolding number_of
same_room a b e = omega (arith, e)

same_seat : (a b : Seat) → IsRunning a Full ≡ IsRunning b Full → a ≡ b
same_seat a b e = cc

-- a processor is to say that the pool of its place is full
pub record IsFullAt (place : ℕ) (standing : Standing) : Type 0 where
  pub seat : Seat
  pub at_place : seat.place ≡ place
  pub is : standing ≡ IsRunning seat Full

module _ (s : Shape) (code : CodeParts) where
  -- what is left begins a capsule that asks for room, and asks for it but once
  pub record BeginsAsking (seat : Seat) (rest : Rest) : Type 0 where
    pub home : Home
    pub named : seat.restart.kind ≡ Run home.frame home.copy
    pub fresh : home.block ≡ 0
    pub number : ℕ
    pub capsule : Capsule
    pub of_code : slice_get code.capsules number ≡ Some capsule
    pub words : ℕ
    pub asks_it : room_of capsule.instrs ≡ Some words
    pub rest_is : rest ≡ rest_of s code seat.place home (capsule_of s.arrays capsule.instrs)
    pub go : ℕ → Rest
    pub never : (counter : ℕ) → NeverFull s code (go counter)
    pub loads : rest ≡ Loads (RoomCounter seat.place) (λ counter. asks (pool_at s seat.place) s.room counter words (go counter))

  pub data IsFresh (seat : Seat) (rest : Rest) : Type 0 where
    Never : NeverFull s code rest → IsFresh seat rest
    Begins : BeginsAsking seat rest → IsFresh seat rest

  -- within a capsule that has not found its pool full
  abbrev pub Fresh : Standing → Type 0
  Fresh IsLost = Unit {0}
  Fresh (IsPlaced place) = Unit {0}
  Fresh (IsAt place restart) = Unit {0}
  Fresh (IsWithin seat row) = Unit {0}
  Fresh (IsRunning seat rest) = IsFresh seat rest
  Fresh (IsBroken place) = Unit {0}
  Fresh IsDone = Unit {0}

  -- or it has
  abbrev pub Fills : Standing → Type 0
  Fills IsLost = Unit {0}
  Fills (IsPlaced place) = Unit {0}
  Fills (IsAt place restart) = Unit {0}
  Fills (IsWithin seat row) = Unit {0}
  Fills (IsRunning seat rest) = IsFresh seat rest ⊎ (rest ≡ Full)
  Fills (IsBroken place) = Unit {0}
  Fills IsDone = Unit {0}

  pub fresh_fills : (standing : Standing) → Fresh standing → Fills standing
  fresh_fills IsLost h = tt
  fresh_fills (IsPlaced place) h = tt
  fresh_fills (IsAt place restart) h = tt
  fresh_fills (IsWithin seat row) h = tt
  fresh_fills (IsRunning seat rest) h = inl h
  fresh_fills (IsBroken place) h = tt
  fresh_fills IsDone h = tt

  not_full : (seat : Seat) → IsFresh seat Full → ⊥
  not_full seat (Never h) = h
  not_full seat (Begins b) = let loads = b.loads in cc

  fresh_not_full : (place : ℕ) (standing : Standing) → Fresh standing → IsFullAt place standing → ⊥
  fresh_not_full place standing h f = not_full f.seat (subst Fresh f.is h)

  running_fresh : (seat : Seat) (rest : Rest) (b : Bool) → IsFresh seat rest → Fresh (running_if seat rest b)
  running_fresh seat rest true h = h
  running_fresh seat rest false h = tt

  within_fresh : (seat : Seat) (row : Row) (b : Bool) → Fresh (within_if seat row b)
  within_fresh seat row true = tt
  within_fresh seat row false = tt

  placed_fresh : (found : ℕ) → Fresh (placed s found)
  placed_fresh found = by (nat_lt found s.processors)
    where
      by : (b : Bool) → Fresh (if b then IsPlaced found else IsBroken unknown_place)
      by true = tt
      by false = tt

  module _ (is : IsCode code) where
    capsule_fresh : (seat : Seat) (home : Home) (number : ℕ) (c : Capsule) → seat.restart.kind ≡ Run home.frame home.copy → home.block ≡ 0
        → slice_get code.capsules number ≡ Some c
        → IsFresh seat (rest_of s code seat.place home (capsule_of s.arrays c.instrs))
    capsule_fresh seat home number c named fresh one = by (capsule_simple code s.arrays number c is one)
      where
        by : IsSimple c.instrs (capsule_of s.arrays c.instrs) → IsFresh seat (rest_of s code seat.place home (capsule_of s.arrays c.instrs))
        by (Plain h) = Never (never_full s code ⊥ seat.place home (capsule_of s.arrays c.instrs) h)
        by (Asking words go room c_is h) = Begins (record {
          home = home;
          named = named;
          fresh = fresh;
          number = number;
          capsule = c;
          of_code = one;
          words = words;
          asks_it = room;
          rest_is = refl;
          go = λ counter. rest_of s code seat.place (at_counter home counter) go;
          never = λ counter. never_full s code (Unit {0}) seat.place (at_counter home counter) go h;
          loads = ap (rest_of s code seat.place home) c_is;
        })

    entered : (seat : Seat) (kind : RestartKind) (number : ℕ) (o : Option Capsule) → seat.restart.kind ≡ kind → slice_get code.capsules number ≡ o
        → Fresh (enters s code seat kind o)
    entered seat (Run frame copy) number (Some c) named one =
        let home : Home = record { frame = frame; copy = copy; block = 0 } in
        let rest : Rest = rest_of s code seat.place home (capsule_of s.arrays c.instrs) in
        running_fresh seat rest (rest_is_there s seat rest) (capsule_fresh seat home number c named refl one)
    entered seat kind number None named one = broken kind
      where
        broken : (kind : RestartKind) → Fresh (enters s code seat kind None)
        broken (Run frame copy) = tt
        broken kind = tt
    entered seat kind number (Some c) named one = tt

    then_fresh : (seat : Seat) (next : Then) → Fresh (stands_then s code seat next)
    then_fresh seat (Enter number) = entered seat seat.restart.kind number (slice_get code.capsules number) refl refl
    then_fresh seat Again = tt
    then_fresh seat (Load point) = within_fresh seat (Now (Load point)) (then_is_there s seat (Load point))
    then_fresh seat (Install restart) = within_fresh seat (Now (Install restart)) (then_is_there s seat (Install restart))
    then_fresh seat (Fork block) = within_fresh seat (Now (Fork block)) (then_is_there s seat (Fork block))
    then_fresh seat (Begin block frame bottom) =
        within_fresh seat (Now (Begin block frame bottom)) (then_is_there s seat (Begin block frame bottom))
    then_fresh seat (Move place) = within_fresh seat (Now (Move place)) (then_is_there s seat (Move place))
    then_fresh seat Broken = within_fresh seat (Now Broken) (then_is_there s seat Broken)

    stands_fresh : (seat : Seat) (row : Row) → Fresh (stands s code seat row)
    stands_fresh seat (Now next) = then_fresh seat next
    stands_fresh seat (Store cell content next) =
        within_fresh seat (Store cell content next) (row_is_there s seat (Store cell content next))
    stands_fresh seat (Exchange cell old new next) =
        within_fresh seat (Exchange cell old new next) (row_is_there s seat (Exchange cell old new next))

    at_fresh : (own place : ℕ) (restart : Option Restart) (found : ℕ) → Fresh (at_finish s code own place restart found)
    at_fresh own place restart (suc found) = tt
    at_fresh own place None zero = tt
    at_fresh own place (Some restart) zero = by (restart_is_there s restart)
      where
        seat : Seat
        seat = record { own = own; place = place; restart = restart }

        by : (b : Bool) → Fresh (begins_if s code seat b)
        by true = stands_fresh seat (row_of s seat restart.kind)
        by false = tt

    went_then_fresh : (seat : Seat) (victim found : ℕ) (next : Then) → Fresh (went_then s code seat victim found next)
    went_then_fresh seat victim found (Load point) = stands_fresh seat (found_at s seat victim point (content_of (reading_at point) found))
    went_then_fresh seat victim found (Install restart) = tt
    went_then_fresh seat victim found (Fork block) = tt
    went_then_fresh seat victim found (Begin block frame bottom) = tt
    went_then_fresh seat victim found (Move place) = tt
    went_then_fresh seat victim found (Enter capsule) = then_fresh seat (Enter capsule)
    went_then_fresh seat victim found Again = tt
    went_then_fresh seat victim found Broken = then_fresh seat Broken

    went_row_fresh : (seat : Seat) (victim found : ℕ) (row : Row) → Fresh (went_row s code seat victim found row)
    went_row_fresh seat victim found (Now next) = went_then_fresh seat victim found next
    went_row_fresh seat victim found (Store cell content next) = then_fresh seat next
    went_row_fresh seat victim found (Exchange cell old new next) = then_fresh seat next

    never_went : (seat : Seat) (found : ℕ) (rest : Rest) → NeverFull s code rest → Fresh (went_rest s seat found rest)
    never_went seat found (Loads cell go) h = running_fresh seat (go found) (rest_is_there s seat (go found)) (Never (h found))
    never_went seat found (Stores cell content rest) h = running_fresh seat rest (rest_is_there s seat rest) (Never h)
    never_went seat found Full h = absurd h
    never_went seat found (Installs kind) h = tt
    never_went seat found Breaks h = tt

    -- the step of a processor that stands so finds the pool of its place full
    pub record FindsIn (words : List ℕ) (standing : Standing) (seat : Seat) : Type 0 where
      pub rest : Rest
      pub begun : BeginsAsking seat rest
      pub stands_so : standing ≡ IsRunning seat rest
      pub held : pool_at s seat.place ≤ read s words (RoomCounter seat.place)
      pub passes : pool_at s seat.place + s.room < read s words (RoomCounter seat.place) + begun.words

    -- after an act a processor is not to say that its pool is full, or it found it so
    pub data ComesBy (words : List ℕ) (act : Act) (standing next : Standing) : Type 0 where
      NotFull : Fresh next → ComesBy words act standing next
      Found : (victim : ℕ) → act ≡ Step victim → (seat : Seat) → next ≡ IsRunning seat Full → FindsIn words standing seat
          → ComesBy words act standing next

    comes_fills : (words : List ℕ) (act : Act) (standing next : Standing) → ComesBy words act standing next → Fills next
    comes_fills words act standing next (NotFull h) = fresh_fills next h
    comes_fills words act standing next (Found victim acts seat e d) = subst Fills (sym e) (inr refl)

    asking_step : (words : List ℕ) (victim : ℕ) (seat : Seat) (rest : Rest) (b : BeginsAsking seat rest)
        → ComesBy words (Step victim) (IsRunning seat rest) (running s seat (asks (pool_at s seat.place) s.room
        (read s words (RoomCounter seat.place)) b.words (b.go (read s words (RoomCounter seat.place)))))
    asking_step words victim seat rest b = by_pool (nat_lt counter (pool_at s seat.place)) refl
      where
        counter : ℕ
        counter = read s words (RoomCounter seat.place)

        by_end : pool_at s seat.place ≤ counter → (t : Bool) → nat_le (counter + b.words) (pool_at s seat.place + s.room) ≡ t
            → ComesBy words (Step victim) (IsRunning seat rest) (running s seat (if t then b.go counter else Full))
        by_end held true e = NotFull (running_fresh seat (b.go counter) (rest_is_there s seat (b.go counter)) (Never (b.never counter)))
        by_end held false e =
            Found victim refl seat refl
            (record { rest = rest; begun = b; stands_so = refl; held = held; passes = leb-false (counter + b.words) (pool_at s seat.place + s.room) e })

        by_pool : (t : Bool) → nat_lt counter (pool_at s seat.place) ≡ t → ComesBy words (Step victim) (IsRunning seat rest)
            (running s seat (if t then Breaks else (if nat_le (counter + b.words) (pool_at s seat.place + s.room) then b.go counter else Full)))
        by_pool true e = NotFull tt
        by_pool false e = by_end (ltb-false counter (pool_at s seat.place) e) (nat_le (counter + b.words) (pool_at s seat.place + s.room)) refl

    running_step : (words : List ℕ) (victim : ℕ) (seat : Seat) (rest : Rest) → IsFresh seat rest ⊎ (rest ≡ Full)
        → ComesBy words (Step victim) (IsRunning seat rest) (went_rest s seat (found_in words (wanted_rest s seat rest)) rest)
    running_step words victim seat rest (inl (Never h)) = NotFull (never_went seat (found_in words (wanted_rest s seat rest)) rest h)
    running_step words victim seat rest (inl (Begins b)) =
        subst (λ (r : Rest). ComesBy words (Step victim) (IsRunning seat rest) (went_rest s seat (found_in words (wanted_rest s seat r)) r))
        (sym b.loads) (asking_step words victim seat rest b)
    running_step words victim seat rest (inr full) =
        subst (λ (r : Rest). ComesBy words (Step victim) (IsRunning seat rest) (went_rest s seat (found_in words (wanted_rest s seat r)) r))
        (sym full) (NotFull tt)

    after_step : (own victim : ℕ) (words : List ℕ) (standing : Standing) → Fills standing
        → ComesBy words (Step victim) standing (went s code own victim (found_in words (wanted s own victim standing)) standing)
    after_step own victim words IsLost h = NotFull (placed_fresh (found_in words (wanted s own victim IsLost)))
    after_step own victim words (IsPlaced place) h = NotFull tt
    after_step own victim words (IsAt place restart) h =
        NotFull (at_fresh own place restart (found_in words (wanted s own victim (IsAt place restart))))
    after_step own victim words (IsWithin seat row) h =
        NotFull (went_row_fresh seat victim (found_in words (wanted_row s seat victim row)) row)
    after_step own victim words (IsRunning seat rest) h = running_step words victim seat rest h
    after_step own victim words (IsBroken place) h = NotFull tt
    after_step own victim words IsDone h = NotFull tt

    after_act : (own : ℕ) (act : Act) (words : List ℕ) (standing : Standing) → Fills standing
        → ComesBy words act standing (stand_after s code own act (found_in words (want_of s code own act standing)) standing)
    after_act own (Step victim) words standing h = after_step own victim words standing h
    after_act own Soft words standing h = NotFull tt
    after_act own Hard words standing h = NotFull tt
    after_act own (Quit why) words standing h = NotFull tt

    -- where the finish word comes to say that a pool is full, it is a processor that was to say so
    asks_rest : (place : ℕ) (seat : Seat) (rest : Rest) → SparesRest s rest
        → Asks (λ word. word ≡ finish_word (finishes.OutOfRoom place) → IsFullAt place (IsRunning seat rest)) (wanted_rest s seat rest)
    asks_rest place seat (Loads cell go) h = tt
    asks_rest place seat (Stores cell content rest) h = h.0
    asks_rest place seat Full h = inr (refl, λ e. record { seat = seat; at_place = same_room seat.place place e; is = refl })
    asks_rest place seat (Installs kind) h = place_first s seat.place
    asks_rest place seat Breaks h = tt

    asks_step : (place own victim : ℕ) (standing : Standing) → Spares s standing
        → Asks (λ word. word ≡ finish_word (finishes.OutOfRoom place) → IsFullAt place standing) (wanted s own victim standing)
    asks_step place own victim IsLost h = tt
    asks_step place own victim (IsPlaced other) h = tt
    asks_step place own victim (IsAt other restart) h = tt
    asks_step place own victim (IsWithin seat (Now next)) h =
        asks_then s code is (λ word. word ≡ finish_word (finishes.OutOfRoom place) → IsFullAt place (IsWithin seat (Now next))) seat victim next
    asks_step place own victim (IsWithin seat (Store cell content next)) h = h.0
    asks_step place own victim (IsWithin seat (Exchange cell old new next)) h = by h.0
      where
        by : SparesRow s (Exchange cell old new next)
            → Asks (λ word. word ≡ finish_word (finishes.OutOfRoom place) → IsFullAt place (IsWithin seat (Exchange cell old new next)))
            (wanted_row s seat victim (Exchange cell old new next))
        by (inl far) = inl far
        by (inr o) = inr (o.0, λ e. absurd (outcome_not_room o.1.outcome place o.1.is_outcome (sym o.1.word_is ∙ e)))
    asks_step place own victim (IsRunning seat rest) h = asks_rest place seat rest h.0
    asks_step place own victim (IsBroken other) h = inr (refl, λ e. absurd (broken_not_room other place e))
    asks_step place own victim IsDone h = absurd h

    asks_act : (place own : ℕ) (act : Act) (standing : Standing) → Spares s standing
        → Asks (λ word. word ≡ finish_word (finishes.OutOfRoom place) → IsFullAt place standing) (want_of s code own act standing)
    asks_act place own (Step victim) standing h = asks_step place own victim standing h
    asks_act place own Soft standing h = tt
    asks_act place own Hard standing h = omega arith
    asks_act place own (Quit why) standing h = inr (refl, λ e. absurd (quit_not_room own why place e))

    -- a turn
    abbrev pub AllFill : State → Type 0
    AllFill state = (q : ℕ) → Fills (stand_of state q)

    abbrev next_of_turn : State → Turn → Standing
    next_of_turn state turn =
        stand_after s code turn.processor turn.act (found_in state.words (want_of s code turn.processor turn.act (stand_of state turn.processor)))
        (stand_of state turn.processor)

    pub turn_fills : (state : State) (turn : Turn) → AllSpare s code is state → AllFill state → AllFill (happens s code state turn)
    turn_fills state turn all fill = by_turn s code is AllFill state turn fill live (all turn.processor)
      where
        next : Standing
        next = next_of_turn state turn

        at_one : (q : ℕ)
            → ((q ≡ turn.processor) × (stand_in (slice_get (slice_set state.stand turn.processor next) q) ≡ next))
            ⊎ (stand_in (slice_get (slice_set state.stand turn.processor next) q) ≡ stand_in (slice_get state.stand q))
            → Fills (stand_in (slice_get (slice_set state.stand turn.processor next) q))
        at_one q (inl t) =
            subst Fills (sym t.1) (comes_fills state.words turn.act (stand_of state turn.processor) next
            (after_act turn.processor turn.act state.words (stand_of state turn.processor) (fill turn.processor)))
        at_one q (inr t) = subst Fills (sym t) (fill q)

        live : Spares s (stand_of state turn.processor) → AllFill (acted s code is state turn.processor turn.act (stand_of state turn.processor))
        live h q = at_one q (moved s code is state.stand turn.processor q next)

    -- a processor is to say so of a place
    abbrev Pending : (place : ℕ) → State → Type 0
    Pending place state = (q : ℕ) × IsFullAt place (stand_of state q)

    finds_full : (state : State) (turn : Turn) (victim : ℕ) (seat : Seat) → turn.act ≡ Step victim
        → FindsIn state.words (stand_of state turn.processor) seat → FindsFullIn s code seat.place state turn
    finds_full state turn victim seat step d = record {
      finds = record {
        victim = victim;
        is_step = step;
        seat = seat;
        at_place = refl;
        home = d.begun.home;
        number = d.begun.number;
        capsule = d.begun.capsule;
        of_code = d.begun.of_code;
        words = d.begun.words;
        asks = d.begun.asks_it;
        begins = d.stands_so ∙ ap (λ (r : Rest). IsRunning seat r) d.begun.rest_is;
        passes = d.passes;
      };
      named = d.begun.named;
      fresh = d.begun.fresh;
      held = d.held;
    }

    pending_turn : (place : ℕ) (state : State) (turn : Turn) → AllSpare s code is state → AllFill state
        → Pending place (happens s code state turn) → Pending place state ⊎ FindsFullIn s code place state turn
    pending_turn place state turn all fill =
        by_turn s code is (λ (k : State). Pending place k → Pending place state ⊎ FindsFullIn s code place state turn) state turn (λ p. inl p) live
        (all turn.processor)
      where
        next : Standing
        next = next_of_turn state turn

        of_new : IsFullAt place next → ComesBy state.words turn.act (stand_of state turn.processor) next
            → Pending place state ⊎ FindsFullIn s code place state turn
        of_new f (NotFull h) = absurd (fresh_not_full place next h f)
        of_new f (Found victim step seat e d) =
            inr (subst (λ (p : ℕ). FindsFullIn s code p state turn) (ap (λ (k : Seat). k.place) (same_seat seat f.seat (sym e ∙ f.is)) ∙ f.at_place)
            (finds_full state turn victim seat step d))

        at_one : (q : ℕ) → IsFullAt place (stand_in (slice_get (slice_set state.stand turn.processor next) q))
            → ((q ≡ turn.processor) × (stand_in (slice_get (slice_set state.stand turn.processor next) q) ≡ next))
            ⊎ (stand_in (slice_get (slice_set state.stand turn.processor next) q) ≡ stand_in (slice_get state.stand q))
            → Pending place state ⊎ FindsFullIn s code place state turn
        at_one q f (inl t) =
            of_new (subst (IsFullAt place) t.1 f)
            (after_act turn.processor turn.act state.words (stand_of state turn.processor) (fill turn.processor))
        at_one q f (inr t) = inl (q, subst (IsFullAt place) t f)

        live : Spares s (stand_of state turn.processor)
            → Pending place (acted s code is state turn.processor turn.act (stand_of state turn.processor))
            → Pending place state ⊎ FindsFullIn s code place state turn
        live h p = at_one p.0 p.1 (moved s code is state.stand turn.processor p.0 next)

    -- the finish word over a turn
    room_word : (place : ℕ) (state : State) (turn : Turn) → AllSpare s code is state
        → WordGoes (λ word. word ≡ finish_word (finishes.OutOfRoom place) → IsFullAt place (stand_of state turn.processor))
        (slice_index state.words 0) (slice_index (happens s code state turn).words 0)
    room_word place state turn all =
        by_turn s code is (λ (k : State). WordGoes (λ word. word ≡ finish_word (finishes.OutOfRoom place)
        → IsFullAt place (stand_of state turn.processor)) (slice_index state.words 0) (slice_index k.words 0))
        state turn (inl refl)
        (λ h. word_goes (λ word. word ≡ finish_word (finishes.OutOfRoom place) → IsFullAt place (stand_of state turn.processor)) state.words
        (want_of s code turn.processor turn.act (stand_of state turn.processor))
        (asks_act place turn.processor turn.act (stand_of state turn.processor) h))
        (all turn.processor)

    -- along a run, from any state
    record FilledFrom (place : ℕ) (state : State) (turns : List Turn) : Type 0 where
      first : List Turn
      turn : Turn
      more : List Turn
      turns_are : turns ≡ first ++ (turn ∷ more)
      finds : FindsFullIn s code place (after s code state first) turn

    abbrev Caused : (place : ℕ) → State → List Turn → Type 0
    Caused place state turns =
        (slice_index state.words 0 ≡ finish_word (finishes.OutOfRoom place)) ⊎ (Pending place state ⊎ FilledFrom place state turns)

    before_turn : (place : ℕ) (state : State) (turn : Turn) (turns : List Turn) → AllSpare s code is state → AllFill state
        → Caused place (happens s code state turn) turns → Caused place state (turn ∷ turns)
    before_turn place state turn turns all fill (inl says) = by_word (room_word place state turn all)
      where
        by_word : WordGoes (λ word. word ≡ finish_word (finishes.OutOfRoom place) → IsFullAt place (stand_of state turn.processor))
            (slice_index state.words 0) (slice_index (happens s code state turn).words 0) → Caused place state (turn ∷ turns)
        by_word (inl same) = inl (sym same ∙ says)
        by_word (inr t) = inr (inl (turn.processor, t.1 says))
    before_turn place state turn turns all fill (inr (inl pending)) = by_pending (pending_turn place state turn all fill pending)
      where
        by_pending : Pending place state ⊎ FindsFullIn s code place state turn → Caused place state (turn ∷ turns)
        by_pending (inl p) = inr (inl p)
        by_pending (inr f) = inr (inr (record { first = []; turn = turn; more = turns; turns_are = refl; finds = f }))
    before_turn place state turn turns all fill (inr (inr f)) =
        inr (inr (record {
          first = turn ∷ f.first;
          turn = f.turn;
          more = f.more;
          turns_are = ap (λ l. turn ∷ l) f.turns_are;
          finds = f.finds;
        }))

    caused : (place : ℕ) (state : State) (turns : List Turn) → AllSpare s code is state → AllFill state
        → slice_index (after s code state turns).words 0 ≡ finish_word (finishes.OutOfRoom place) → Caused place state turns
    caused place state [] all fill says = inl says
    caused place state (turn ∷ turns) all fill says =
        before_turn place state turn turns all fill
        (caused place (happens s code state turn) turns (turn_spares s code is state turn all) (turn_fills state turn all fill) says)

    pub opening_fresh : (n q : ℕ) → Fresh (stand_in (slice_get (replicate n IsLost) q))
    opening_fresh zero q = tt
    opening_fresh (suc n) zero = tt
    opening_fresh (suc n) (suc q) = opening_fresh n q

    pub room_has_frame : RoomHasFrame s code
    room_has_frame words turns place none says =
        go (caused place start turns (opening_spares s code is s.processors) (λ q. fresh_fills (stand_of start q) (opening_fresh s.processors q)) is_word)
      where
        start : State
        start = opening words s.processors

        is_word : slice_index (after s code start turns).words 0 ≡ finish_word (finishes.OutOfRoom place)
        is_word =
            sym (pack-unpack finish_word IsFinish finish_of finishes_exact (slice_index (after s code start turns).words 0) (finishes.OutOfRoom place) says)

        go : Caused place start turns → IsFilledIn s code place words turns
        go (inl same) = absurd (room_some place (sym same ∙ none))
        go (inr (inl p)) = absurd (fresh_not_full place (stand_of start p.0) (opening_fresh s.processors p.0) p.1)
        go (inr (inr f)) = record { first = f.first; turn = f.turn; more = f.more; turns_are = f.turns_are; finds = f.finds }

    pub room_has_cause : RoomHasCause s code
    room_has_cause words turns place none says =
        let f = room_has_frame words turns place none says in
        record { first = f.first; turn = f.turn; more = f.more; turns_are = f.turns_are; finds = f.finds.finds }
