-- What an act asks of the finish word, and where its processor stands after it.
use Rattle.std.proofs.Common.{◌≡◌, ◌≢◌, ◌<◌, ◌⊎◌, inl, inr, refl, ap, arith, ℕ, zero, suc, List, [], ◌∷◌, Option, length, slice_index, slice_set}
use Rattle.std.specs.Prelude.{slice_get}
use Rattle.ppm_cells.specs.Cells.{address}
use Rattle.ppm_cells.specs.Fields.{number_of}
use Rattle.ppm_cells.specs.Finish.{finish_word}
use Rattle.ppm_cells.specs.declared.cell.Cell.{Cell}
use Rattle.ppm_cells.specs.declared.cell.Cell.TheVariants.{CarryWord}
use Rattle.ppm_cells.specs.declared.finish.Finish.TheVariants.{OutOfRoom, Broken as BrokenAt}
use Rattle.ppm_cells.specs.declared.restart.Restart.{Restart}
use Rattle.ppm_cells.specs.declared.shape.Shape.{Shape}
use Rattle.ppm_code.specs.Code.{IsCode}
use Rattle.ppm_code.specs.declared.code.CodeParts.{CodeParts}
use Rattle.ppm_step.specs.declared.ask.Want.{Want}
use Rattle.ppm_step.specs.declared.ask.Want.TheVariants.{Loads as WantsLoad, Stores as WantsStore, Exchanges as WantsExchange, Nothing}
use Rattle.ppm_step.specs.declared.content.Content.{Content}
use Rattle.ppm_step.specs.declared.row.Seat.{Seat}
use Rattle.ppm_step.specs.declared.row.Then.{Then}
use Rattle.ppm_step.specs.declared.row.Then.TheVariants.{Load, Install, Fork, Begin, Move, Enter, Again, Broken}
use Rattle.ppm_step.specs.declared.row.Row.TheVariants.{Now, Store, Exchange}
use Rattle.ppm_step.specs.declared.turn.Act.{Act}
use Rattle.ppm_step.specs.declared.turn.Act.TheVariants.{Step, Soft, Hard, Quit}
use Rattle.ppm_step.specs.Contents.{word_of}
use Rattle.ppm_step.specs.Frames.{Rest, Loads, Stores, Full, Installs, Breaks}
use Rattle.ppm_step.specs.Standings.{Standing, IsLost, IsPlaced, IsAt, IsWithin, IsRunning, IsBroken, IsDone, wanted_then, wanted_row, wanted_rest}
use Rattle.ppm_step.specs.Standings.{wanted, at_finish, went}
use Rattle.ppm_step.specs.State.{State, stand_in, found_in, words_after, want_of, stand_after, acts}
use Rattle.ppm_step.specs.Laws.{IsNoQuit, IsProposedWord}
use Rattle.ppm_step.proofs.SparingLemmas.{SparesRow, place_first, outcome_proposed, proposed_word}
use Rattle.ppm_step.proofs.RestLemmas.{SparesRest}
use Rattle.ppm_step.proofs.StandLemmas.{Spares, begins_spares, went_row_spares, went_rest_spares, placed_spares}
use Rattle.ppm_step.proofs.WordLemmas.{Asks, exchanged}

-- the finish word that says that words are broken
broken_some : (place : ℕ) → finish_word (BrokenAt place) ≢ 0
unfolding number_of
broken_some place e = omega (arith, e)

module _ (s : Shape) (code : CodeParts) (is : IsCode code) where
  -- what comes next asks nothing of the finish word
  pub asks_then : (P : ℕ → Type 0) (seat : Seat) (victim : ℕ) (next : Then) → Asks P (wanted_then s seat victim next)
  asks_then P seat victim (Load point) = tt
  asks_then P seat victim (Install restart) = place_first s seat.place
  asks_then P seat victim (Fork block) = place_first s seat.place
  asks_then P seat victim (Begin block frame bottom) = place_first s seat.place
  asks_then P seat victim (Move place) = omega arith
  asks_then P seat victim (Enter capsule) = tt
  asks_then P seat victim Again = tt
  asks_then P seat victim Broken = tt

  asks_rest : (seat : Seat) (rest : Rest) → SparesRest s rest → seat.place < s.processors
      → Asks (IsProposedWord s.processors) (wanted_rest s seat rest)
  asks_rest seat (Loads cell go) h there = tt
  asks_rest seat (Stores cell content rest) h there = h.0
  asks_rest seat Full h there = inr (refl, proposed_word s (OutOfRoom seat.place) there)
  asks_rest seat (Installs kind) h there = place_first s seat.place
  asks_rest seat Breaks h there = tt

  asks_exchange : (cell : Cell) (old new : Content) (next : Then) → SparesRow s (Exchange cell old new next)
      → Asks (IsProposedWord s.processors) (WantsExchange (address s cell) (word_of old) (word_of new))
  asks_exchange cell old new next (inl far) = inl far
  asks_exchange cell old new next (inr o) = inr (o.0, outcome_proposed s (word_of new) o.1)

  asks_step : (own victim : ℕ) (standing : Standing) → Spares s standing → Asks (IsProposedWord s.processors) (wanted s own victim standing)
  asks_step own victim IsLost h = tt
  asks_step own victim (IsPlaced place) h = tt
  asks_step own victim (IsAt place restart) h = tt
  asks_step own victim (IsWithin seat (Now next)) h = asks_then (IsProposedWord s.processors) seat victim next
  asks_step own victim (IsWithin seat (Store cell content next)) h = h.0
  asks_step own victim (IsWithin seat (Exchange cell old new next)) h = asks_exchange cell old new next h.0
  asks_step own victim (IsRunning seat rest) h = asks_rest seat rest h.0 h.1
  asks_step own victim (IsBroken place) h = inr (refl, proposed_word s (BrokenAt place) h)
  asks_step own victim IsDone h = absurd h

  -- an act asks the finish word of nothing else, but for a quit
  pub asks_act : (own : ℕ) (act : Act) (standing : Standing) → Spares s standing
      → Asks (λ word. IsNoQuit act → IsProposedWord s.processors word) (want_of s code own act standing)
  asks_act own (Step victim) standing h =
      weakened (wanted s own victim standing) (asks_step own victim standing h)
    where
      weakened : (want : Want) → Asks (IsProposedWord s.processors) want → Asks (λ word. IsNoQuit (Step victim) → IsProposedWord s.processors word) want
      weakened (WantsLoad at) k = tt
      weakened (WantsStore at word) k = k
      weakened (WantsExchange at old new) (inl far) = inl far
      weakened (WantsExchange at old new) (inr p) = inr (p.0, λ none. p.1)
      weakened Nothing k = tt
  asks_act own Soft standing h = tt
  asks_act own Hard standing h = omega arith
  asks_act own (Quit why) standing h = inr (refl, λ quits. absurd quits)

  -- where a processor stands after an act: it is done by a hard fault, or where the finish word then isn't 0
  abbrev pub IsDoneBy : Act → (words : List ℕ) → Want → Type 0
  IsDoneBy act words want = (act ≡ Hard) ⊎ (0 < length words → slice_index (words_after words want) 0 ≢ 0)

  abbrev pub StandsAfter : Act → (words : List ℕ) → Want → Standing → Type 0
  StandsAfter act words want next = Spares s next ⊎ ((next ≡ IsDone) × IsDoneBy act words want)

  -- the load of the finish word
  at_word : (act : Act) (words : List ℕ) (own place : ℕ) (restart : Option Restart) (found : ℕ) → place < s.processors → slice_index words 0 ≡ found
      → StandsAfter act words (WantsLoad 0) (at_finish s code own place restart found)
  at_word act words own place restart zero there e = inl (begins_spares s code is own place restart there)
  at_word act words own place restart (suc found) there e = inr (refl, inr (λ long none. omega (arith, e, none)))

  after_step : (own victim : ℕ) (words : List ℕ) (standing : Standing) → Spares s standing
      → StandsAfter (Step victim) words (wanted s own victim standing)
      (went s code own victim (found_in words (wanted s own victim standing)) standing)
  after_step own victim words IsLost h = inl (placed_spares s (slice_index words (address s (CarryWord own))))
  after_step own victim words (IsPlaced place) h = inl h
  after_step own victim words (IsAt place restart) h = at_word (Step victim) words own place restart (slice_index words 0) h refl
  after_step own victim words (IsWithin seat row) h =
      inl (went_row_spares s code is seat victim (found_in words (wanted_row s seat victim row)) row h.1 h.2)
  after_step own victim words (IsRunning seat rest) h = inl (went_rest_spares s code is seat (found_in words (wanted_rest s seat rest)) rest h.0 h.1)
  after_step own victim words (IsBroken place) h = inr (refl, inr (exchanged words (finish_word (BrokenAt place)) (broken_some place)))
  after_step own victim words IsDone h = absurd h

  pub after_act : (own : ℕ) (act : Act) (words : List ℕ) (standing : Standing) → Spares s standing
      → StandsAfter act words (want_of s code own act standing)
      (stand_after s code own act (found_in words (want_of s code own act standing)) standing)
  after_act own (Step victim) words standing h = after_step own victim words standing h
  after_act own Soft words standing h = inl tt
  after_act own Hard words standing h = inr (refl, inl refl)
  after_act own (Quit why) words standing h = inl tt

  -- an act of a processor that is not done
  abbrev pub acted : State → (own : ℕ) → Act → Standing → State
  acted state own act standing =
      let want = want_of s code own act standing in
      record {
        words = words_after state.words want;
        stand = slice_set state.stand own (stand_after s code own act (found_in state.words want) standing);
      }

  pub acts_live : (state : State) (own : ℕ) (act : Act) (standing : Standing) → Spares s standing
      → acts s code state own act standing ≡ acted state own act standing
  acts_live state own act IsLost h = refl
  acts_live state own act (IsPlaced place) h = refl
  acts_live state own act (IsAt place restart) h = refl
  acts_live state own act (IsWithin seat row) h = refl
  acts_live state own act (IsRunning seat rest) h = refl
  acts_live state own act (IsBroken place) h = refl
  acts_live state own act IsDone h = absurd h

  -- where processors stand once one has moved
  pub moved : (stand : List Standing) (p q : ℕ) (next : Standing)
      → ((q ≡ p) × (stand_in (slice_get (slice_set stand p next) q) ≡ next))
      ⊎ (stand_in (slice_get (slice_set stand p next) q) ≡ stand_in (slice_get stand q))
  moved [] p q next = inr refl
  moved (x ∷ stand) zero zero next = inl (refl, refl)
  moved (x ∷ stand) zero (suc q) next = inr refl
  moved (x ∷ stand) (suc p) zero next = inr refl
  moved (x ∷ stand) (suc p) (suc q) next = by (moved stand p q next)
    where
      by : ((q ≡ p) × (stand_in (slice_get (slice_set stand p next) q) ≡ next))
          ⊎ (stand_in (slice_get (slice_set stand p next) q) ≡ stand_in (slice_get stand q))
          → ((suc q ≡ suc p) × (stand_in (slice_get (slice_set stand p next) q) ≡ next))
          ⊎ (stand_in (slice_get (slice_set stand p next) q) ≡ stand_in (slice_get stand q))
      by (inl t) = inl (ap suc t.0, t.1)
      by (inr t) = inr t
