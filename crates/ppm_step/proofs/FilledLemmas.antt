-- A turn that finds a pool full comes after the turn of its processor that loaded the capsule's number from the frame's header.
use Rattle.std.proofs.Common.{◌≡◌, ◌≢◌, ◌<◌, ◌≤◌, ◌+◌, ◌⊎◌, inl, inr, refl, sym, ap, ◌∙◌, subst, arith, ℕ, zero, suc, Bool, true, false, ◌==◌, Option, Some, None}
use Rattle.std.proofs.Common.{List, [], ◌∷◌, ◌++◌, replicate, slice_index, slice_set}
use Rattle.std.specs.Prelude.{if◌then◌else◌, nat_lt, nat_le, slice_get}
use Rattle.std.specs.List.{AllByRecursion}
use Rattle.std.proofs.lemmas.Bool.{le-ltb, lt-leb, leb-false}
use Rattle.std.proofs.lemmas.Bool.Decides.{eqb_tells}
use Rattle.ppm_cells.specs.Cells.{pool_at}
use Rattle.ppm_cells.specs.Memory.{read}
use Rattle.ppm_cells.specs.declared.cell.Cell.TheVariants.{RoomCounter}
use Rattle.ppm_cells.specs.declared.restart.RestartKind.{RestartKind}
use Rattle.ppm_cells.specs.declared.restart.RestartKind.TheVariants.{Run}
use Rattle.ppm_cells.specs.declared.shape.Shape.{Shape}
use Rattle.ppm_code.specs.Capsules.{capsule_of}
use Rattle.ppm_code.specs.Code.{IsCode, room_of}
use Rattle.ppm_code.specs.declared.code.Capsule.{Capsule}
use Rattle.ppm_code.specs.declared.code.CodeParts.{CodeParts}
use Rattle.ppm_code.specs.declared.instr.Instr.{Instr}
use Rattle.ppm_code.specs.declared.instr.Instr.TheVariants.{Room}
use Rattle.ppm_step.specs.declared.frame.Home.{Home}
use Rattle.ppm_step.specs.declared.row.Seat.{Seat}
use Rattle.ppm_step.specs.declared.row.Point.TheVariants.{Header}
use Rattle.ppm_step.specs.declared.row.Then.TheVariants.{Load}
use Rattle.ppm_step.specs.declared.row.Row.{Row}
use Rattle.ppm_step.specs.declared.row.Row.TheVariants.{Now}
use Rattle.ppm_step.specs.declared.turn.Act.{Act}
use Rattle.ppm_step.specs.declared.turn.Act.TheVariants.{Step, Soft, Hard, Quit}
use Rattle.ppm_step.specs.declared.turn.Turn.{Turn}
use Rattle.ppm_step.specs.Frames.{Rest, Loads, Stores, Full, Installs, Breaks, asks, at_counter, rest_of}
use Rattle.ppm_step.specs.Points.{header_word}
use Rattle.ppm_step.specs.Standings.{Standing, IsLost, IsPlaced, IsAt, IsWithin, IsRunning, IsBroken, IsDone, rest_is_there, running_if, running, enters}
use Rattle.ppm_step.specs.Standings.{went_row, went_rest, placed, at_finish, wanted_rest, wanted_row, wanted}
use Rattle.ppm_step.specs.State.{State, stand_in, stand_of, found_in, want_of, stand_after, acts, happens, after, opening, is_step}
use Rattle.ppm_step.specs.Laws.{FindsFull, FindsFullIn, FindsFullBehind, RoomHasHeader}
use Rattle.ppm_step.proofs.HeaderLemmas.{PlainRow}
use Rattle.ppm_step.proofs.RowedLemmas.{IsAtHeader, Rowed, NotIn, plain_row, placed_rowed, at_rowed, act_rowed}
use Rattle.ppm_step.proofs.PlainLemmas.{IsPlain, IsSimple, Plain, Asking, capsule_simple}
use Rattle.ppm_step.proofs.RestLemmas.{NeverFull, never_full}
use Rattle.ppm_step.proofs.StandLemmas.{Spares, no_done}
use Rattle.ppm_step.proofs.ActLemmas.{acted, acts_live, moved}
use Rattle.ppm_step.proofs.FinishLemmas.{AllSpare, SparesOrDone, by_turn, turn_spares, opening_spares}
use Rattle.ppm_step.proofs.RecordLemmas.{set_live, others_stay}
use Rattle.ppm_step.proofs.RoomLemmas.{IsFresh, Never, Begins, Fills, AllFill, fresh_fills, turn_fills, opening_fresh, room_has_frame}

module _ (s : Shape) (code : CodeParts) where
  -- an act loads the number of the capsule that is then to be made, from the header of the frame that the restart names
  pub record LoadsHeader (words : List ℕ) (act : Act) (standing : Standing) (seat : Seat) (rest : Rest) : Type 0 where
    pub frame : ℕ
    pub copy : ℕ
    pub number : ℕ
    pub capsule : Capsule
    pub steps : is_step act ≡ true
    pub loads : standing ≡ IsWithin seat (Now (Load (Header frame copy)))
    pub named : seat.restart.kind ≡ Run frame copy
    pub number_is : read s words (header_word frame copy) ≡ number
    pub of_code : slice_get code.capsules number ≡ Some capsule
    pub rest_is : rest ≡ rest_of s code seat.place (record { frame = frame; copy = copy; block = 0 }) (capsule_of s.arrays capsule.instrs)

  not_in : (standing : Standing) (seat : Seat) (rest : Rest) → NotIn s code standing → standing ≡ IsRunning seat rest → ⊥
  not_in standing seat rest h e = subst (NotIn s code) e h

  running_seat : (a b : Seat) (x y : Rest) → IsRunning a x ≡ IsRunning b y → a ≡ b
  running_seat a b x y e = cc

  running_rest : (a b : Seat) (x y : Rest) → IsRunning a x ≡ IsRunning b y → x ≡ y
  running_rest a b x y e = cc

  broken_not : (place : ℕ) (seat : Seat) (rest : Rest) → IsBroken place ≡ IsRunning seat rest → ⊥
  broken_not place seat rest e = cc

  -- what is left is what it is said to be
  if_is : (seat seat' : Seat) (left rest : Rest) (b : Bool) → running_if seat left b ≡ IsRunning seat' rest → (seat ≡ seat') × (left ≡ rest)
  if_is seat seat' left rest true e = (running_seat seat seat' left rest e, running_rest seat seat' left rest e)
  if_is seat seat' left rest false e = absurd (broken_not seat.place seat' rest e)

  entered_is : (words : List ℕ) (victim : ℕ) (seat seat' : Seat) (rest : Rest) (frame copy : ℕ) (kind : RestartKind) → seat.restart.kind ≡ kind
      → kind ≡ Run frame copy → (o : Option Capsule) → slice_get code.capsules (read s words (header_word frame copy)) ≡ o
      → enters s code seat kind o ≡ IsRunning seat' rest
      → LoadsHeader words (Step victim) (IsWithin seat (Now (Load (Header frame copy)))) seat' rest
  entered_is words victim seat seat' rest frame copy kind named is None none e =
      absurd (broken_not seat.place seat' rest (sym (ap (λ k. enters s code seat k None) is) ∙ e))
  entered_is words victim seat seat' rest frame copy kind named is (Some c) one e =
      let home : Home = record { frame = frame; copy = copy; block = 0 } in
      let left : Rest = rest_of s code seat.place home (capsule_of s.arrays c.instrs) in
      let same = if_is seat seat' left rest (rest_is_there s seat left) (sym (ap (λ k. enters s code seat k (Some c)) is) ∙ e) in
      subst (λ (k : Seat). LoadsHeader words (Step victim) (IsWithin seat (Now (Load (Header frame copy)))) k rest) same.0 (record {
        frame = frame;
        copy = copy;
        number = read s words (header_word frame copy);
        capsule = c;
        steps = refl;
        loads = refl;
        named = named ∙ is;
        number_is = refl;
        of_code = one;
        rest_is = sym same.1;
      })

  row_loads : (words : List ℕ) (victim : ℕ) (seat seat' : Seat) (row : Row) (rest : Rest) → PlainRow row ⊎ IsAtHeader s code seat row
      → went_row s code seat victim (found_in words (wanted_row s seat victim row)) row ≡ IsRunning seat' rest
      → LoadsHeader words (Step victim) (IsWithin seat row) seat' rest
  row_loads words victim seat seat' row rest (inl h) e =
      let found : ℕ = found_in words (wanted_row s seat victim row) in
      absurd (not_in (went_row s code seat victim found row) seat' rest (plain_row s code seat victim found row h).1 e)
  row_loads words victim seat seat' row rest (inr at) e =
      subst (λ (r : Row). LoadsHeader words (Step victim) (IsWithin seat r) seat' rest) (sym at.row_is)
      (entered_is words victim seat seat' rest at.frame at.copy seat.restart.kind refl at.named
      (slice_get code.capsules (read s words (header_word at.frame at.copy))) refl
      (sym (ap (λ (r : Row). went_row s code seat victim (found_in words (wanted_row s seat victim r)) r) at.row_is) ∙ e))

  -- what asks for room is entered, and not gone on with
  module _ (rest : Rest) (asks_it : ¬ NeverFull s code rest) (not_full : rest ≢ Full) where
    of_room : (seat seat' : Seat) (words pool room counter : ℕ) (go : Rest) → NeverFull s code go
        → running s seat (asks pool room counter words go) ≡ IsRunning seat' rest → ⊥
    of_room seat seat' words pool room counter go never e =
        by (nat_lt counter pool) (nat_le (counter + words) (pool + room))
        (if_is seat seat' (asks pool room counter words go) rest (rest_is_there s seat (asks pool room counter words go)) e).1
      where
        by : (a b : Bool) → (if a then Breaks else (if b then go else Full)) ≡ rest → ⊥
        by true b same = asks_it (subst (NeverFull s code) same tt)
        by false true same = asks_it (subst (NeverFull s code) same never)
        by false false same = not_full (sym same)

    never_went : (words : List ℕ) (seat seat' : Seat) (left : Rest) → NeverFull s code left
        → went_rest s seat (found_in words (wanted_rest s seat left)) left ≡ IsRunning seat' rest → ⊥
    never_went words seat seat' (Loads cell go) h e =
        let found : ℕ = found_in words (wanted_rest s seat (Loads cell go)) in
        asks_it (subst (NeverFull s code) (if_is seat seat' (go found) rest (rest_is_there s seat (go found)) e).1 (h found))
    never_went words seat seat' (Stores cell content left) h e =
        asks_it (subst (NeverFull s code) (if_is seat seat' left rest (rest_is_there s seat left) e).1 h)
    never_went words seat seat' Full h e = h
    never_went words seat seat' (Installs kind) h e = cc
    never_went words seat seat' Breaks h e = cc

    rest_went : (words : List ℕ) (seat seat' : Seat) (left : Rest) → IsFresh s code seat left ⊎ (left ≡ Full)
        → went_rest s seat (found_in words (wanted_rest s seat left)) left ≡ IsRunning seat' rest → ⊥
    rest_went words seat seat' left (inl (Never h)) e = never_went words seat seat' left h e
    rest_went words seat seat' left (inl (Begins b)) e =
        of_room seat seat' b.words (pool_at s seat.place) s.room (read s words (RoomCounter seat.place)) (b.go (read s words (RoomCounter seat.place)))
        (b.never (read s words (RoomCounter seat.place)))
        (sym (ap (λ (r : Rest). went_rest s seat (found_in words (wanted_rest s seat r)) r) b.loads) ∙ e)
    rest_went words seat seat' left (inr full) e =
        not_in (IsAt seat.place (Some seat.restart)) seat' rest tt
        (sym (ap (λ (r : Rest). went_rest s seat (found_in words (wanted_rest s seat r)) r) full) ∙ e)

    act_loads : (own : ℕ) (act : Act) (words : List ℕ) (standing : Standing) (seat : Seat) → Rowed s code standing → Fills s code standing
        → stand_after s code own act (found_in words (want_of s code own act standing)) standing ≡ IsRunning seat rest
        → LoadsHeader words act standing seat rest
    act_loads own (Step victim) words IsLost seat h f e =
        absurd (not_in (placed s (found_in words (wanted s own victim IsLost))) seat rest (placed_rowed s code (found_in words (wanted s own victim IsLost))).1 e)
    act_loads own (Step victim) words (IsPlaced place) seat h f e = cc
    act_loads own (Step victim) words (IsAt place restart) seat h f e =
        let found : ℕ = found_in words (wanted s own victim (IsAt place restart)) in
        absurd (not_in (at_finish s code own place restart found) seat rest (at_rowed s code own place restart found).1 e)
    act_loads own (Step victim) words (IsWithin seat' row) seat h f e = row_loads words victim seat' seat row rest h e
    act_loads own (Step victim) words (IsRunning seat' left) seat h f e = absurd (rest_went words seat' seat left f e)
    act_loads own (Step victim) words (IsBroken place) seat h f e = cc
    act_loads own (Step victim) words IsDone seat h f e = cc
    act_loads own Soft words standing seat h f e = cc
    act_loads own Hard words standing seat h f e = cc
    act_loads own (Quit why) words standing seat h f e = cc

    module _ (is : IsCode code) where
      abbrev AllRowed : State → Type 0
      AllRowed state = (q : ℕ) → Rowed s code (stand_of state q)

      abbrev next_of_turn : State → Turn → Standing
      next_of_turn state turn =
          stand_after s code turn.processor turn.act (found_in state.words (want_of s code turn.processor turn.act (stand_of state turn.processor)))
          (stand_of state turn.processor)

      turn_rowed : (state : State) (turn : Turn) → AllSpare s code is state → AllRowed state → AllRowed (happens s code state turn)
      turn_rowed state turn all rowed = by_turn s code is AllRowed state turn rowed live (all turn.processor)
        where
          next : Standing
          next = next_of_turn state turn

          at_one : (q : ℕ)
              → ((q ≡ turn.processor) × (stand_in (slice_get (slice_set state.stand turn.processor next) q) ≡ next))
              ⊎ (stand_in (slice_get (slice_set state.stand turn.processor next) q) ≡ stand_in (slice_get state.stand q))
              → Rowed s code (stand_in (slice_get (slice_set state.stand turn.processor next) q))
          at_one q (inl t) =
              subst (Rowed s code) (sym t.1) (act_rowed s code turn.processor turn.act
              (found_in state.words (want_of s code turn.processor turn.act (stand_of state turn.processor))) (stand_of state turn.processor)
              (rowed turn.processor))
          at_one q (inr t) = subst (Rowed s code) (sym t) (rowed q)

          live : Spares s (stand_of state turn.processor) → AllRowed (acted s code is state turn.processor turn.act (stand_of state turn.processor))
          live h q = at_one q (moved s code is state.stand turn.processor q next)

      -- one of the turns loads the header, and those after it are of other processors
      pub record HeaderLoaded (state : State) (turns : List Turn) (c : ℕ) (seat : Seat) : Type 0 where
        pub before : List Turn
        pub load : Turn
        pub between : List Turn
        pub turns_are : turns ≡ before ++ (load ∷ between)
        pub own : load.processor ≡ c
        pub others : AllByRecursion (λ t. t.processor ≢ c) between
        pub loads : LoadsHeader (after s code state before).words load.act (stand_of (after s code state before) c) seat rest

      abbrev Since : State → List Turn → (c : ℕ) → Seat → Type 0
      Since state turns c seat =
          HeaderLoaded state turns c seat ⊎ ((stand_of state c ≡ IsRunning seat rest) × AllByRecursion (λ t. t.processor ≢ c) turns)

      own_turn : (state : State) (turn : Turn) (seat : Seat) → SparesOrDone s code is (stand_of state turn.processor) → Rowed s code (stand_of state turn.processor)
          → Fills s code (stand_of state turn.processor) → stand_of (happens s code state turn) turn.processor ≡ IsRunning seat rest
          → LoadsHeader state.words turn.act (stand_of state turn.processor) seat rest
      own_turn state turn seat (inl h) rowed fills e =
          act_loads turn.processor turn.act state.words (stand_of state turn.processor) seat rowed fills
          (sym (set_live state.stand turn.processor (next_of_turn state turn) (no_done s (stand_of state turn.processor) h))
          ∙ sym (ap (λ (k : State). stand_of k turn.processor)
          (acts_live s code is state turn.processor turn.act (stand_of state turn.processor) h))
          ∙ e)
      own_turn state turn seat (inr done) rowed fills e =
          let same : stand_of (happens s code state turn) turn.processor ≡ stand_of state turn.processor =
          ap (λ (k : State). stand_of k turn.processor) (ap (acts s code state turn.processor turn.act) done) in
          absurd (not_in IsDone seat rest tt (sym done ∙ sym same ∙ e))

      before_turn : (state : State) (turn : Turn) (turns : List Turn) (c : ℕ) (seat : Seat) → AllSpare s code is state → AllRowed state
          → AllFill s code is state → Since (happens s code state turn) turns c seat → Since state (turn ∷ turns) c seat
      before_turn state turn turns c seat all rowed fills (inl h) = inl (record {
        before = turn ∷ h.before;
        load = h.load;
        between = h.between;
        turns_are = ap (λ l. turn ∷ l) h.turns_are;
        own = h.own;
        others = h.others;
        loads = h.loads;
      })
      before_turn state turn turns c seat all rowed fills (inr t) = by (turn.processor == c) (eqb_tells turn.processor c)
        where
          by : (b : Bool) → ((b ≡ true) × (turn.processor ≡ c)) ⊎ ((b ≡ false) × (turn.processor ≢ c)) → Since state (turn ∷ turns) c seat
          by b (inl u) = inl (record {
            before = [];
            load = turn;
            between = turns;
            turns_are = refl;
            own = u.1;
            others = t.1;
            loads =
                subst (λ (d : ℕ). LoadsHeader state.words turn.act (stand_of state d) seat rest) u.1
                (own_turn state turn seat (all turn.processor) (rowed turn.processor) (fills turn.processor)
                (ap (stand_of (happens s code state turn)) u.1 ∙ t.0));
          })
          by b (inr u) = inr (sym (others_stay s code is state turn c (all turn.processor) u.1) ∙ t.0, (u.1, t.1))

      since : (state : State) (turns : List Turn) (c : ℕ) (seat : Seat) → AllSpare s code is state → AllRowed state → AllFill s code is state
          → stand_of (after s code state turns) c ≡ IsRunning seat rest → Since state turns c seat
      since state [] c seat all rowed fills e = inr (e, tt)
      since state (turn ∷ turns) c seat all rowed fills e =
          before_turn state turn turns c seat all rowed fills
          (since (happens s code state turn) turns c seat (turn_spares s code is state turn all) (turn_rowed state turn all rowed)
          (turn_fills s code is state turn all fills) e)

      lost_or_none : (n c : ℕ) (seat : Seat) → stand_in (slice_get (replicate n IsLost) c) ≡ IsRunning seat rest → ⊥
      lost_or_none zero c seat e = cc
      lost_or_none (suc n) zero seat e = cc
      lost_or_none (suc n) (suc c) seat e = lost_or_none n c seat e

      opening_rowed : (n q : ℕ) → Rowed s code (stand_in (slice_get (replicate n IsLost) q))
      opening_rowed zero q = tt
      opening_rowed (suc n) zero = tt
      opening_rowed (suc n) (suc q) = opening_rowed n q

      pub header_loaded : (words : List ℕ) (turns : List Turn) (c : ℕ) (seat : Seat)
          → stand_of (after s code (opening words s.processors) turns) c ≡ IsRunning seat rest
          → HeaderLoaded (opening words s.processors) turns c seat
      header_loaded words turns c seat e =
          by (since start turns c seat (opening_spares s code is s.processors) (opening_rowed s.processors)
          (λ q. fresh_fills s code (stand_of start q) (opening_fresh s code is s.processors q)) e)
        where
          start : State
          start = opening words s.processors

          by : Since start turns c seat → HeaderLoaded start turns c seat
          by (inl h) = h
          by (inr t) = absurd (lost_or_none s.processors c seat t.0)

  -- a capsule that asks for room is none that doesn't
  asks_first : (instrs : List Instr) (n : ℕ) → room_of instrs ≡ Some n → IsPlain ⊥ (capsule_of s.arrays instrs) → ⊥
  asks_first (Room words ∷ instrs) n e h = h
  asks_first [] n e h = cc
  asks_first (i ∷ instrs) n e h = cc

  -- what asks for room can find too little
  asks_for : (place n : ℕ) (rest : Rest) (go : ℕ → Rest) → rest ≡ Loads (RoomCounter place) (λ counter. asks (pool_at s place) s.room counter n (go counter))
      → NeverFull s code rest → ⊥
  asks_for place n rest go loads never =
      subst (λ (b : Bool). NeverFull s code (if b then go far else Full)) (lt-leb (far + n) (pool_at s place + s.room) (omega arith))
      (subst (λ (b : Bool). NeverFull s code (if b then Breaks else (if nat_le (far + n) (pool_at s place + s.room) then go far else Full)))
      (le-ltb far (pool_at s place) (omega arith)) (subst (NeverFull s code) loads never far))
    where
      far : ℕ
      far = pool_at s place + s.room + 1

  module _ (is : IsCode code) where
    -- what a capsule begins with that asks for room
    pub record RoomAsked (place : ℕ) (home : Home) (capsule : Capsule) (n : ℕ) : Type 0 where
      pub go : ℕ → Rest
      pub never : (counter : ℕ) → NeverFull s code (go counter)
      pub loads : rest_of s code place home (capsule_of s.arrays capsule.instrs)
          ≡ Loads (RoomCounter place) (λ counter. asks (pool_at s place) s.room counter n (go counter))

    begins_asking : (place : ℕ) (home : Home) (number : ℕ) (c : Capsule) → slice_get code.capsules number ≡ Some c
        → NeverFull s code (rest_of s code place home (capsule_of s.arrays c.instrs)) ⊎ ((n : ℕ) × (room_of c.instrs ≡ Some n) × RoomAsked place home c n)
    begins_asking place home number c one = by (capsule_simple code s.arrays number c is one)
      where
        by : IsSimple c.instrs (capsule_of s.arrays c.instrs)
            → NeverFull s code (rest_of s code place home (capsule_of s.arrays c.instrs))
            ⊎ ((n : ℕ) × (room_of c.instrs ≡ Some n) × RoomAsked place home c n)
        by (Plain h) = inl (never_full s code ⊥ place home (capsule_of s.arrays c.instrs) h)
        by (Asking n go room c_is h) = inr (
          n,
          room,
          record {
            go = λ counter. rest_of s code place (at_counter home counter) go;
            never = λ counter. never_full s code (Unit {0}) place (at_counter home counter) go h;
            loads = ap (rest_of s code place home) c_is;
          },
        )

    same_words : (n m : ℕ) (o : Option ℕ) → o ≡ Some n → o ≡ Some m → n ≡ m
    same_words n m o e f = let g : Some n ≡ Some m = sym e ∙ f in cc

    same_loads : (place : ℕ) (go go' : ℕ → Rest) → Loads (RoomCounter place) go ≡ Loads (RoomCounter place) go' → (counter : ℕ) → go counter ≡ go' counter
    same_loads place go go' e counter = ap (λ (r : Rest). found_by r) e
      where
        found_by : Rest → Rest
        found_by (Loads cell go) = go counter
        found_by rest = rest

    not_loads : (place : ℕ) (go : ℕ → Rest) → Loads (RoomCounter place) go ≡ Full → ⊥
    not_loads place go e = cc

    -- the turn that finds the pool full, with the capsule of the header
    behind : (place : ℕ) (words : List ℕ) (first : List Turn) (turn : Turn)
        → FindsFullIn s code place (after s code (opening words s.processors) first) turn → FindsFullBehind s code place words first turn
    behind place words first turn f = by_first (begins_asking place d.home d.number d.capsule d.of_code)
      where
        state : State
        state = after s code (opening words s.processors) first

        d : FindsFull s code place state turn
        d = f.finds

        counter : ℕ
        counter = read s state.words (RoomCounter place)

        pool : ℕ
        pool = pool_at s place

        rest : Rest
        rest = rest_of s code place d.home (capsule_of s.arrays d.capsule.instrs)

        -- by the words that this capsule asks for
        is_full : (n : ℕ) → n ≡ d.words → (go : ℕ → Rest) → asks pool s.room counter n (go counter) ≡ Full
        is_full n same go =
            ap (λ (b : Bool). if b then Breaks else (if nat_le (counter + n) (pool + s.room) then go counter else Full)) (le-ltb counter pool f.held)
            ∙ ap (λ (b : Bool). if b then go counter else Full)
            (lt-leb (counter + n) (pool + s.room) (let passes = d.passes in omega (arith, passes, same)))

        passes_by : (n : ℕ) (go : Rest) → NeverFull s code go → asks pool s.room counter n go ≡ Full → pool + s.room < counter + n
        passes_by n go never full =
            by (nat_le (counter + n) (pool + s.room)) refl
            (sym (ap (λ (b : Bool). if b then Breaks else (if nat_le (counter + n) (pool + s.room) then go else Full)) (le-ltb counter pool f.held)) ∙ full)
          where
            by : (b : Bool) → nat_le (counter + n) (pool + s.room) ≡ b → (if b then go else Full) ≡ Full → pool + s.room < counter + n
            by true e same = absurd (subst (NeverFull s code) same never)
            by false e same = leb-false (counter + n) (pool + s.room) e

        found : (n : ℕ) → room_of d.capsule.instrs ≡ Some n → (a : RoomAsked place d.home d.capsule n)
            → HeaderLoaded rest (asks_for place n rest a.go a.loads) (λ full. not_loads place _ (sym a.loads ∙ full)) is (opening words s.processors) first
            turn.processor d.seat → FindsFullBehind s code place words first turn
        found n room a h = by_other (begins_asking place home l.number l.capsule l.of_code)
          where
            l : LoadsHeader (after s code (opening words s.processors) h.before).words h.load.act
                (stand_of (after s code (opening words s.processors) h.before) turn.processor) d.seat rest
            l = h.loads

            home : Home
            home = record { frame = l.frame; copy = l.copy; block = 0 }

            other : Rest
            other = rest_of s code place home (capsule_of s.arrays l.capsule.instrs)

            rest_is : rest ≡ other
            rest_is = l.rest_is ∙ ap (λ p. rest_of s code p home (capsule_of s.arrays l.capsule.instrs)) d.at_place

            by_other : NeverFull s code other ⊎ ((m : ℕ) × (room_of l.capsule.instrs ≡ Some m) × RoomAsked place home l.capsule m)
                → FindsFullBehind s code place words first turn
            by_other (inl never) = absurd (asks_for place n rest a.go a.loads (subst (NeverFull s code) (sym rest_is) never))
            by_other (inr (m, room', b)) = record {
              full = record {
                finds = record {
                  victim = d.victim;
                  is_step = d.is_step;
                  seat = d.seat;
                  at_place = d.at_place;
                  home = home;
                  number = l.number;
                  capsule = l.capsule;
                  of_code = l.of_code;
                  words = m;
                  asks = room';
                  begins = d.begins ∙ ap (λ (r : Rest). IsRunning d.seat r) rest_is;
                  passes =
                      passes_by m (b.go counter) (b.never counter)
                      (sym (same_loads place _ _ (sym a.loads ∙ rest_is ∙ b.loads) counter)
                      ∙ is_full n (same_words n d.words (room_of d.capsule.instrs) room d.asks) a.go);
                };
                named = l.named;
                fresh = refl;
                held = f.held;
              };
              before = h.before;
              load = h.load;
              between = h.between;
              first_is = h.turns_are;
              own = h.own;
              steps = l.steps;
              others = h.others;
              loads = l.loads;
              number_is = l.number_is;
            }

        by_first : NeverFull s code rest ⊎ ((n : ℕ) × (room_of d.capsule.instrs ≡ Some n) × RoomAsked place d.home d.capsule n)
            → FindsFullBehind s code place words first turn
        by_first (inl never) = absurd (never_asks (capsule_simple code s.arrays d.number d.capsule is d.of_code))
          where
            never_asks : IsSimple d.capsule.instrs (capsule_of s.arrays d.capsule.instrs) → ⊥
            never_asks (Plain h) = asks_first d.capsule.instrs d.words d.asks h
            never_asks (Asking n go room c_is h) =
                asks_for place n rest (λ counter. rest_of s code place (at_counter d.home counter) go) (ap (rest_of s code place d.home) c_is) never
        by_first (inr (n, room, a)) =
            found n room a (header_loaded rest (asks_for place n rest a.go a.loads) (λ full. not_loads place _ (sym a.loads ∙ full)) is words first
            turn.processor d.seat d.begins)

    pub room_has_header : RoomHasHeader s code
    room_has_header words turns place none says =
        let f = room_has_frame s code is words turns place none says in
        record { first = f.first; turn = f.turn; more = f.more; turns_are = f.turns_are; finds = behind place words f.first f.turn f.finds }
