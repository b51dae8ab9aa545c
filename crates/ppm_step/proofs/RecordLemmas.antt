-- A processor stands where its record leads it.
use Rattle.std.proofs.Common.{◌≡◌, ◌≢◌, ◌<◌, ◌⊎◌, inl, inr, refl, sym, ap, ◌∙◌, subst, arith, ℕ, zero, suc, Bool, true, false, ◌==◌, Option, Some, None}
use Rattle.std.proofs.Common.{List, [], ◌∷◌, ◌++◌, replicate, slice_set}
use Rattle.std.specs.Prelude.{if◌then◌else◌, nat_lt, slice_get}
use Rattle.std.proofs.lemmas.Bool.Decides.{eqb_tells}
use Rattle.ppm_cells.specs.Cells.{address}
use Rattle.ppm_cells.specs.declared.cell.Cell.TheVariants.{HolderWord}
use Rattle.ppm_cells.specs.declared.restart.Restart.{Restart}
use Rattle.ppm_cells.specs.declared.restart.RestartKind.{RestartKind}
use Rattle.ppm_cells.specs.declared.restart.RestartKind.TheVariants.{Run}
use Rattle.ppm_cells.specs.declared.shape.Shape.{Shape}
use Rattle.ppm_code.specs.Capsules.{capsule_of}
use Rattle.ppm_code.specs.Code.{IsCode}
use Rattle.ppm_code.specs.declared.code.Capsule.{Capsule}
use Rattle.ppm_code.specs.declared.code.CodeParts.{CodeParts}
use Rattle.ppm_words.specs.declared.event.Event.{Event}
use Rattle.ppm_step.specs.declared.ask.Want.{Want}
use Rattle.ppm_step.specs.declared.ask.Want.TheVariants.{Loads as WantsLoad, Stores as WantsStore, Exchanges as WantsExchange, Nothing}
use Rattle.ppm_step.specs.declared.row.Seat.{Seat}
use Rattle.ppm_step.specs.declared.row.Then.{Then}
use Rattle.ppm_step.specs.declared.row.Then.TheVariants.{Load, Install, Fork, Begin, Move, Enter, Again, Broken}
use Rattle.ppm_step.specs.declared.row.Row.{Row}
use Rattle.ppm_step.specs.declared.row.Row.TheVariants.{Now, Store, Exchange}
use Rattle.ppm_step.specs.declared.turn.Act.{Act}
use Rattle.ppm_step.specs.declared.turn.Act.TheVariants.{Step, Soft, Hard, Quit}
use Rattle.ppm_step.specs.declared.turn.Turn.{Turn}
use Rattle.ppm_step.specs.Contents.{content_of}
use Rattle.ppm_step.specs.Points.{reading_at}
use Rattle.ppm_step.specs.Rows.{found_at, row_of}
use Rattle.ppm_step.specs.There.{restart_is_there}
use Rattle.ppm_step.specs.Frames.{Rest, Loads, Stores, Full, Installs, Breaks, rest_of}
use Rattle.ppm_step.specs.Standings.{Standing, IsLost, IsPlaced, IsAt, IsWithin, IsRunning, IsBroken, IsDone, unknown_place, then_is_there}
use Rattle.ppm_step.specs.Standings.{row_is_there, rest_is_there, within_if, running_if, running, enters, stands_then, stands, begins_if}
use Rattle.ppm_step.specs.Standings.{went_then, went_row, went_rest, placed, at_finish, wanted_then, wanted_row, wanted_rest, wanted, went}
use Rattle.ppm_step.specs.State.{State, stand_in, stand_of, found_in, want_of, stand_after, acts, happens, after, opening, seeks_holder}
use Rattle.ppm_step.specs.Stood.{holder_at, stood_behind, stood_by}
use Rattle.ppm_step.specs.Told.{place_of, step_event, act_event, event_by, event_of, events_in, events_by, record_of}
use Rattle.ppm_step.specs.Laws.{RecordLeads}
use Rattle.ppm_step.proofs.StandLemmas.{Spares, no_done}
use Rattle.ppm_step.proofs.ActLemmas.{acted, acts_live, moved}
use Rattle.ppm_step.proofs.FinishLemmas.{AllSpare, SparesOrDone, by_turn, turn_spares, opening_spares}
use Rattle.ppm_step.proofs.VictimLemmas.{loads_holder, any_victim, holder_at_is}

-- a word step is wanted
abbrev pub IsAsked : Want → Type 0
IsAsked (WantsLoad at) = Unit {0}
IsAsked (WantsStore at word) = Unit {0}
IsAsked (WantsExchange at old new) = Unit {0}
IsAsked Nothing = ⊥

-- of one that isn't done, set, the new one is read
pub set_live : (stand : List Standing) (p : ℕ) (next : Standing) → stand_in (slice_get stand p) ≢ IsDone
    → stand_in (slice_get (slice_set stand p next) p) ≡ next
set_live [] p next lives = absurd (lives refl)
set_live (x ∷ stand) zero next lives = refl
set_live (x ∷ stand) (suc p) next lives = set_live stand p next lives

module _ (s : Shape) where
  -- what comes next asks for a word that is there
  abbrev pub Asks : Standing → Type 0
  Asks IsLost = Unit {0}
  Asks (IsPlaced place) = Unit {0}
  Asks (IsAt place restart) = Unit {0}
  Asks (IsWithin seat row) = row_is_there s seat row ≡ true
  Asks (IsRunning seat rest) = rest_is_there s seat rest ≡ true
  Asks (IsBroken place) = Unit {0}
  Asks IsDone = Unit {0}

  asked_then : (seat : Seat) (v : ℕ) (next : Then) → then_is_there s seat next ≡ true → IsAsked (wanted_then s seat v next)
  asked_then seat v (Load point) e = tt
  asked_then seat v (Install restart) e = tt
  asked_then seat v (Fork block) e = tt
  asked_then seat v (Begin block frame bottom) e = tt
  asked_then seat v (Move place) e = tt
  asked_then seat v (Enter capsule) e = cc
  asked_then seat v Again e = cc
  asked_then seat v Broken e = cc

  asked_row : (seat : Seat) (v : ℕ) (row : Row) → row_is_there s seat row ≡ true → IsAsked (wanted_row s seat v row)
  asked_row seat v (Now next) e = asked_then seat v next e
  asked_row seat v (Store cell content next) e = tt
  asked_row seat v (Exchange cell old new next) e = tt

  asked_rest : (seat : Seat) (rest : Rest) → rest_is_there s seat rest ≡ true → IsAsked (wanted_rest s seat rest)
  asked_rest seat (Loads cell go) e = tt
  asked_rest seat (Stores cell content rest) e = tt
  asked_rest seat Full e = tt
  asked_rest seat (Installs kind) e = tt
  asked_rest seat Breaks e = cc

  pub asked : (own v : ℕ) (standing : Standing) → Asks standing → standing ≢ IsDone → IsAsked (wanted s own v standing)
  asked own v IsLost h lives = tt
  asked own v (IsPlaced place) h lives = tt
  asked own v (IsAt place restart) h lives = tt
  asked own v (IsWithin seat row) h lives = asked_row seat v row h
  asked own v (IsRunning seat rest) h lives = asked_rest seat rest h
  asked own v (IsBroken place) h lives = tt
  asked own v IsDone h lives = absurd (lives refl)

  placed_asks : (found : ℕ) → Asks (placed s found)
  placed_asks found = by (nat_lt found s.processors)
    where
      by : (b : Bool) → Asks (if b then IsPlaced found else IsBroken unknown_place)
      by true = tt
      by false = tt

  within_asks : (seat : Seat) (row : Row) (b : Bool) → row_is_there s seat row ≡ b → Asks (within_if seat row b)
  within_asks seat row true e = e
  within_asks seat row false e = tt

  if_asks : (seat : Seat) (rest : Rest) (b : Bool) → rest_is_there s seat rest ≡ b → Asks (running_if seat rest b)
  if_asks seat rest true e = e
  if_asks seat rest false e = tt

  running_asks : (seat : Seat) (rest : Rest) → Asks (running s seat rest)
  running_asks seat rest = if_asks seat rest (rest_is_there s seat rest) refl

  went_rest_asks : (seat : Seat) (found : ℕ) (rest : Rest) → Asks (went_rest s seat found rest)
  went_rest_asks seat found (Loads cell go) = running_asks seat (go found)
  went_rest_asks seat found (Stores cell content rest) = running_asks seat rest
  went_rest_asks seat found Full = tt
  went_rest_asks seat found (Installs kind) = tt
  went_rest_asks seat found Breaks = tt

  module _ (code : CodeParts) where
    entered : (seat : Seat) (kind : RestartKind) (o : Option Capsule) → Asks (enters s code seat kind o)
    entered seat (Run frame copy) (Some c) =
        running_asks seat (rest_of s code seat.place (record { frame = frame; copy = copy; block = 0 }) (capsule_of s.arrays c.instrs))
    entered seat kind None = broken kind
      where
        broken : (kind : RestartKind) → Asks (enters s code seat kind None)
        broken (Run frame copy) = tt
        broken kind = tt
    entered seat kind (Some c) = tt

    then_asks : (seat : Seat) (next : Then) → Asks (stands_then s code seat next)
    then_asks seat (Enter number) = entered seat seat.restart.kind (slice_get code.capsules number)
    then_asks seat Again = tt
    then_asks seat (Load point) = within_asks seat (Now (Load point)) (then_is_there s seat (Load point)) refl
    then_asks seat (Install restart) = within_asks seat (Now (Install restart)) (then_is_there s seat (Install restart)) refl
    then_asks seat (Fork block) = within_asks seat (Now (Fork block)) (then_is_there s seat (Fork block)) refl
    then_asks seat (Begin block frame bottom) =
        within_asks seat (Now (Begin block frame bottom)) (then_is_there s seat (Begin block frame bottom)) refl
    then_asks seat (Move place) = within_asks seat (Now (Move place)) (then_is_there s seat (Move place)) refl
    then_asks seat Broken = within_asks seat (Now Broken) (then_is_there s seat Broken) refl

    stands_asks : (seat : Seat) (row : Row) → Asks (stands s code seat row)
    stands_asks seat (Now next) = then_asks seat next
    stands_asks seat (Store cell content next) = within_asks seat (Store cell content next) (row_is_there s seat (Store cell content next)) refl
    stands_asks seat (Exchange cell old new next) =
        within_asks seat (Exchange cell old new next) (row_is_there s seat (Exchange cell old new next)) refl

    at_asks : (own place : ℕ) (restart : Option Restart) (found : ℕ) → Asks (at_finish s code own place restart found)
    at_asks own place restart (suc found) = tt
    at_asks own place None zero = tt
    at_asks own place (Some restart) zero = by (restart_is_there s restart)
      where
        seat : Seat
        seat = record { own = own; place = place; restart = restart }

        by : (b : Bool) → Asks (begins_if s code seat b)
        by true = stands_asks seat (row_of s seat restart.kind)
        by false = tt

    went_then_asks : (seat : Seat) (victim found : ℕ) (next : Then) → Asks (went_then s code seat victim found next)
    went_then_asks seat victim found (Load point) = stands_asks seat (found_at s seat victim point (content_of (reading_at point) found))
    went_then_asks seat victim found (Install restart) = tt
    went_then_asks seat victim found (Fork block) = tt
    went_then_asks seat victim found (Begin block frame bottom) = tt
    went_then_asks seat victim found (Move place) = tt
    went_then_asks seat victim found (Enter capsule) = then_asks seat (Enter capsule)
    went_then_asks seat victim found Again = tt
    went_then_asks seat victim found Broken = then_asks seat Broken

    went_row_asks : (seat : Seat) (victim found : ℕ) (row : Row) → Asks (went_row s code seat victim found row)
    went_row_asks seat victim found (Now next) = went_then_asks seat victim found next
    went_row_asks seat victim found (Store cell content next) = then_asks seat next
    went_row_asks seat victim found (Exchange cell old new next) = then_asks seat next

    went_asks : (own victim found : ℕ) (standing : Standing) → Asks (went s code own victim found standing)
    went_asks own victim found IsLost = placed_asks found
    went_asks own victim found (IsPlaced place) = tt
    went_asks own victim found (IsAt place restart) = at_asks own place restart found
    went_asks own victim found (IsWithin seat row) = went_row_asks seat victim found row
    went_asks own victim found (IsRunning seat rest) = went_rest_asks seat found rest
    went_asks own victim found (IsBroken place) = tt
    went_asks own victim found IsDone = tt

    act_asks : (own : ℕ) (act : Act) (found : ℕ) (standing : Standing) → Asks (stand_after s code own act found standing)
    act_asks own (Step victim) found standing = went_asks own victim found standing
    act_asks own Soft found standing = tt
    act_asks own Hard found standing = tt
    act_asks own (Quit why) found standing = tt

    -- the event of an act leads where the act leads
    step_leads : (own victim : ℕ) (words : List ℕ) (standing : Standing) (b : Bool) → seeks_holder standing ≡ b
        → (want : Want) → wanted s own victim standing ≡ want → IsAsked want
        → stood_behind s code own standing (step_event words (place_of standing) want) ≡ went s code own victim (found_in words want) standing
    step_leads own victim words standing true due want is a =
        subst (λ (w : Want). stood_behind s code own standing (step_event words (place_of standing) w) ≡ went s code own victim (found_in words w) standing)
        (sym (sym is ∙ loads_holder s own victim standing due)) of_holder
      where
        at : ℕ
        at = address s (HolderWord victim)

        of_holder : stood_behind s code own standing (step_event words (place_of standing) (WantsLoad at))
            ≡ went s code own victim (found_in words (WantsLoad at)) standing
        of_holder =
            ap (λ (b : Bool). went s code own (if b then holder_at s at else 0) (found_in words (WantsLoad at)) standing) due
            ∙ ap (λ (v : ℕ). went s code own v (found_in words (WantsLoad at)) standing) (holder_at_is s victim)
    step_leads own victim words standing false due (WantsLoad at) is a =
        any_victim s code own (if seeks_holder standing then holder_at s at else 0) victim (found_in words (WantsLoad at)) standing due
    step_leads own victim words standing false due (WantsStore at word) is a =
        any_victim s code own (if seeks_holder standing then holder_at s at else 0) victim 0 standing due
    step_leads own victim words standing false due (WantsExchange at old new) is a =
        any_victim s code own (if seeks_holder standing then holder_at s at else 0) victim 0 standing due
    step_leads own victim words standing false due Nothing is a = absurd a

    pub act_leads : (own : ℕ) (act : Act) (words : List ℕ) (standing : Standing) → Asks standing → standing ≢ IsDone
        → stood_behind s code own standing (act_event words (place_of standing) act (want_of s code own act standing))
        ≡ stand_after s code own act (found_in words (want_of s code own act standing)) standing
    act_leads own (Step victim) words standing asks lives =
        step_leads own victim words standing (seeks_holder standing) refl (wanted s own victim standing) refl (asked own victim standing asks lives)
    act_leads own Soft words standing asks lives = refl
    act_leads own Hard words standing asks lives = refl
    act_leads own (Quit why) words standing asks lives = refl

    pub live_event : (state : State) (turn : Turn) (standing : Standing) → Spares s standing
        → event_by s code state turn standing
        ≡ Some (act_event state.words (place_of standing) turn.act (want_of s code turn.processor turn.act standing))
    live_event state turn IsLost h = refl
    live_event state turn (IsPlaced place) h = refl
    live_event state turn (IsAt place restart) h = refl
    live_event state turn (IsWithin seat row) h = refl
    live_event state turn (IsRunning seat rest) h = refl
    live_event state turn (IsBroken place) h = refl
    live_event state turn IsDone h = absurd h

    both_lists : (own : ℕ) (standing : Standing) (first more : List Event)
        → stood_by s code own standing (first ++ more) ≡ stood_by s code own (stood_by s code own standing first) more
    both_lists own standing [] more = refl
    both_lists own standing (e ∷ first) more = both_lists own (stood_behind s code own standing e) first more

    module _ (is : IsCode code) where
      abbrev pub AllAsk : State → Type 0
      AllAsk state = (q : ℕ) → Asks (stand_of state q)

      abbrev pub next_of_turn : State → Turn → Standing
      next_of_turn state turn =
          stand_after s code turn.processor turn.act (found_in state.words (want_of s code turn.processor turn.act (stand_of state turn.processor)))
          (stand_of state turn.processor)

      pub turn_asks : (state : State) (turn : Turn) → AllSpare s code is state → AllAsk state → AllAsk (happens s code state turn)
      turn_asks state turn all ask = by_turn s code is AllAsk state turn ask live (all turn.processor)
        where
          next : Standing
          next = next_of_turn state turn

          at_one : (q : ℕ)
              → ((q ≡ turn.processor) × (stand_in (slice_get (slice_set state.stand turn.processor next) q) ≡ next))
              ⊎ (stand_in (slice_get (slice_set state.stand turn.processor next) q) ≡ stand_in (slice_get state.stand q))
              → Asks (stand_in (slice_get (slice_set state.stand turn.processor next) q))
          at_one q (inl t) =
              subst Asks (sym t.1) (act_asks turn.processor turn.act
              (found_in state.words (want_of s code turn.processor turn.act (stand_of state turn.processor))) (stand_of state turn.processor))
          at_one q (inr t) = subst Asks (sym t) (ask q)

          live : Spares s (stand_of state turn.processor) → AllAsk (acted s code is state turn.processor turn.act (stand_of state turn.processor))
          live h q = at_one q (moved s code is state.stand turn.processor q next)

      -- a turn leads its own processor where its event does
      pub own_leads : (state : State) (turn : Turn) → SparesOrDone s code is (stand_of state turn.processor) → Asks (stand_of state turn.processor)
          → stood_by s code turn.processor (stand_of state turn.processor) (events_in s code (event_of s code state turn))
          ≡ stand_of (happens s code state turn) turn.processor
      own_leads state turn (inl h) asks =
          ap (λ (o : Option Event). stood_by s code turn.processor (stand_of state turn.processor) (events_in s code o))
          (live_event state turn (stand_of state turn.processor) h)
          ∙ act_leads turn.processor turn.act state.words (stand_of state turn.processor) asks (no_done s (stand_of state turn.processor) h)
          ∙ sym (set_live state.stand turn.processor (next_of_turn state turn) (no_done s (stand_of state turn.processor) h))
          ∙ sym (ap (λ (k : State). stand_of k turn.processor)
          (acts_live s code is state turn.processor turn.act (stand_of state turn.processor) h))
      own_leads state turn (inr done) asks =
          ap (λ (x : Standing). stood_by s code turn.processor (stand_of state turn.processor) (events_in s code (event_by s code state turn x))) done
          ∙ sym (ap (λ (k : State). stand_of k turn.processor) (ap (acts s code state turn.processor turn.act) done))

      -- and no other anywhere
      pub others_stay : (state : State) (turn : Turn) (c : ℕ) → SparesOrDone s code is (stand_of state turn.processor) → turn.processor ≢ c
          → stand_of (happens s code state turn) c ≡ stand_of state c
      others_stay state turn c spares other =
          by_turn s code is (λ (k : State). stand_of k c ≡ stand_of state c) state turn refl
          (λ h. by (moved s code is state.stand turn.processor c (next_of_turn state turn))) spares
        where
          by : ((c ≡ turn.processor) × (stand_in (slice_get (slice_set state.stand turn.processor (next_of_turn state turn)) c) ≡ next_of_turn state turn))
              ⊎ (stand_in (slice_get (slice_set state.stand turn.processor (next_of_turn state turn)) c) ≡ stand_in (slice_get state.stand c))
              → stand_in (slice_get (slice_set state.stand turn.processor (next_of_turn state turn)) c) ≡ stand_of state c
          by (inl t) = absurd (other (sym t.0))
          by (inr t) = t

      pub turn_leads : (state : State) (turn : Turn) (c : ℕ) → AllSpare s code is state → AllAsk state
          → stood_by s code c (stand_of state c) (events_by s code c state turn) ≡ stand_of (happens s code state turn) c
      turn_leads state turn c all ask = by (turn.processor == c) (eqb_tells turn.processor c)
        where
          by : (b : Bool) → ((b ≡ true) × (turn.processor ≡ c)) ⊎ ((b ≡ false) × (turn.processor ≢ c))
              → stood_by s code c (stand_of state c) (if b then events_in s code (event_of s code state turn) else [])
              ≡ stand_of (happens s code state turn) c
          by true (inl t) =
              subst (λ (d : ℕ). stood_by s code d (stand_of state d) (events_in s code (event_of s code state turn)) ≡ stand_of (happens s code state turn) d)
              t.1 (own_leads state turn (all turn.processor) (ask turn.processor))
          by true (inr t) = cc (t.0)
          by false (inl t) = cc (t.0)
          by false (inr t) = sym (others_stay state turn c (all turn.processor) t.1)

      leads : (state : State) (turns : List Turn) (c : ℕ) → AllSpare s code is state → AllAsk state
          → stand_of (after s code state turns) c ≡ stood_by s code c (stand_of state c) (record_of s code c state turns)
      leads state [] c all ask = refl
      leads state (turn ∷ turns) c all ask =
          let next = happens s code state turn in
          leads next turns c (turn_spares s code is state turn all) (turn_asks state turn all ask)
          ∙ ap (λ (x : Standing). stood_by s code c x (record_of s code c next turns)) (sym (turn_leads state turn c all ask))
          ∙ sym (both_lists c (stand_of state c) (events_by s code c state turn) (record_of s code c next turns))

      pub opening_asks : (n q : ℕ) → Asks (stand_in (slice_get (replicate n IsLost) q))
      opening_asks zero q = tt
      opening_asks (suc n) zero = tt
      opening_asks (suc n) (suc q) = opening_asks n q

      pub lost_there : (n c : ℕ) → c < n → stand_in (slice_get (replicate n IsLost) c) ≡ IsLost
      lost_there zero c less = absurd (omega (arith, less))
      lost_there (suc n) zero less = refl
      lost_there (suc n) (suc c) less = lost_there n c (omega (arith, less))

      pub record_leads : RecordLeads s code
      record_leads words turns c there =
          leads (opening words s.processors) turns c (opening_spares s code is s.processors) (opening_asks s.processors)
          ∙ ap (λ (x : Standing). stood_by s code c x (record_of s code c (opening words s.processors) turns)) (lost_there s.processors c there)
