-- What comes of where a processor stands stores nothing into the finish word, and proposes for it what is in its ranges.
use Rattle.std.proofs.Common.{◌≡◌, ◌≢◌, ◌<◌, ◌⊎◌, inl, inr, refl, subst, ℕ, Bool, true, false, Option, Some, None}
use Rattle.std.specs.Prelude.{if◌then◌else◌, nat_lt, slice_get}
use Rattle.std.proofs.lemmas.Bool.{ltb-true}
use Rattle.ppm_cells.specs.declared.restart.Restart.{Restart}
use Rattle.ppm_cells.specs.declared.restart.RestartKind.{RestartKind}
use Rattle.ppm_cells.specs.declared.restart.RestartKind.TheVariants.{Run}
use Rattle.ppm_cells.specs.declared.shape.Shape.{Shape}
use Rattle.ppm_code.specs.Capsules.{capsule_of}
use Rattle.ppm_code.specs.Code.{IsCode}
use Rattle.ppm_code.specs.declared.code.Capsule.{Capsule}
use Rattle.ppm_code.specs.declared.code.CodeParts.{CodeParts}
use Rattle.ppm_step.specs.declared.row.Seat.{Seat}
use Rattle.ppm_step.specs.declared.row.Then.{Then}
use Rattle.ppm_step.specs.declared.row.Then.TheVariants.{Load, Install, Fork, Begin, Move, Enter, Again, Broken}
use Rattle.ppm_step.specs.declared.row.Row.{Row}
use Rattle.ppm_step.specs.declared.row.Row.TheVariants.{Now, Store, Exchange}
use Rattle.ppm_step.specs.Contents.{content_of}
use Rattle.ppm_step.specs.Points.{reading_at}
use Rattle.ppm_step.specs.Rows.{found_at, row_of}
use Rattle.ppm_step.specs.There.{restart_is_there}
use Rattle.ppm_step.specs.Frames.{Rest, Loads, Stores, Full, Installs, Breaks, rest_of}
use Rattle.ppm_step.specs.Standings.{Standing, IsLost, IsPlaced, IsAt, IsWithin, IsRunning, IsBroken, IsDone, unknown_place, then_is_there}
use Rattle.ppm_step.specs.Standings.{row_is_there, rest_is_there, within_if, running_if, enters, stands_then, stands, begins_if, begins, went_then}
use Rattle.ppm_step.specs.Standings.{went_row, went_rest, placed}
use Rattle.ppm_step.proofs.ContentLemmas.{content_fits}
use Rattle.ppm_step.proofs.PlainLemmas.{capsule_simple}
use Rattle.ppm_step.proofs.SparingLemmas.{SparesRow, found_spares, begun_spares}
use Rattle.ppm_step.proofs.RestLemmas.{SparesRest, simple_spares}

module _ (s : Shape) where
  -- a processor that is not done, at a place that is there, and whose coming steps store nothing into the finish word
  abbrev pub Spares : Standing → Type 0
  Spares IsLost = Unit {0}
  Spares (IsPlaced place) = place < s.processors
  Spares (IsAt place restart) = place < s.processors
  Spares (IsWithin seat row) = SparesRow s row × (row_is_there s seat row ≡ true) × (seat.place < s.processors)
  Spares (IsRunning seat rest) = SparesRest s rest × (seat.place < s.processors)
  Spares (IsBroken place) = (place < s.processors) ⊎ (place ≡ unknown_place)
  Spares IsDone = ⊥

  pub placed_spares : (found : ℕ) → Spares (placed s found)
  placed_spares found = by (nat_lt found s.processors) refl
    where
      by : (b : Bool) → nat_lt found s.processors ≡ b → Spares (if b then IsPlaced found else IsBroken unknown_place)
      by true e = ltb-true found s.processors e
      by false e = inr refl

  -- a processor that comes to be done
  pub no_done : (standing : Standing) → Spares standing → standing ≢ IsDone
  no_done standing h done = subst Spares done h

  module _ (code : CodeParts) (is : IsCode code) where
    within_spares : (seat : Seat) (row : Row) → SparesRow s row → seat.place < s.processors → (b : Bool) → row_is_there s seat row ≡ b
        → Spares (within_if seat row b)
    within_spares seat row h there true e = (h, e, there)
    within_spares seat row h there false e = inl there

    running_spares : (seat : Seat) (rest : Rest) → SparesRest s rest → seat.place < s.processors → (b : Bool) → Spares (running_if seat rest b)
    running_spares seat rest h there true = (h, there)
    running_spares seat rest h there false = inl there

    entered : (seat : Seat) (kind : RestartKind) (number : ℕ) (o : Option Capsule) → seat.place < s.processors
        → slice_get code.capsules number ≡ o → Spares (enters s code seat kind o)
    entered seat (Run frame copy) number (Some c) there one =
        running_spares seat (rest_of s code seat.place (record { frame = frame; copy = copy; block = 0 }) (capsule_of s.arrays c.instrs))
        (simple_spares s code seat.place (record { frame = frame; copy = copy; block = 0 }) c.instrs (capsule_of s.arrays c.instrs)
        (capsule_simple code s.arrays number c is one)) there
        (rest_is_there s seat (rest_of s code seat.place (record { frame = frame; copy = copy; block = 0 }) (capsule_of s.arrays c.instrs)))
    entered seat kind number None there one = broken kind
      where
        broken : (kind : RestartKind) → Spares (enters s code seat kind None)
        broken (Run frame copy) = inl there
        broken kind = inl there
    entered seat kind number (Some c) there one = inl there

    then_spares : (seat : Seat) (next : Then) → seat.place < s.processors → Spares (stands_then s code seat next)
    then_spares seat (Enter number) there = entered seat seat.restart.kind number (slice_get code.capsules number) there refl
    then_spares seat Again there = there
    then_spares seat (Load point) there = within_spares seat (Now (Load point)) tt there (then_is_there s seat (Load point)) refl
    then_spares seat (Install restart) there = within_spares seat (Now (Install restart)) tt there (then_is_there s seat (Install restart)) refl
    then_spares seat (Fork block) there = within_spares seat (Now (Fork block)) tt there (then_is_there s seat (Fork block)) refl
    then_spares seat (Begin block frame bottom) there =
        within_spares seat (Now (Begin block frame bottom)) tt there (then_is_there s seat (Begin block frame bottom)) refl
    then_spares seat (Move place) there = within_spares seat (Now (Move place)) tt there (then_is_there s seat (Move place)) refl
    then_spares seat Broken there = within_spares seat (Now Broken) tt there (then_is_there s seat Broken) refl

    stands_spares : (seat : Seat) (row : Row) → SparesRow s row → seat.place < s.processors → Spares (stands s code seat row)
    stands_spares seat (Now next) h there = then_spares seat next there
    stands_spares seat (Store cell content next) h there =
        within_spares seat (Store cell content next) h there (row_is_there s seat (Store cell content next)) refl
    stands_spares seat (Exchange cell old new next) h there =
        within_spares seat (Exchange cell old new next) h there (row_is_there s seat (Exchange cell old new next)) refl

    pub begins_spares : (own place : ℕ) (restart : Option Restart) → place < s.processors → Spares (begins s code own place restart)
    begins_spares own place None there = inl there
    begins_spares own place (Some restart) there = by (restart_is_there s restart)
      where
        seat : Seat
        seat = record { own = own; place = place; restart = restart }

        by : (b : Bool) → Spares (begins_if s code seat b)
        by true = stands_spares seat (row_of s seat restart.kind) (begun_spares s seat restart.kind) there
        by false = inl there

    went_then_spares : (seat : Seat) (victim found : ℕ) (next : Then) → then_is_there s seat next ≡ true → seat.place < s.processors
        → Spares (went_then s code seat victim found next)
    went_then_spares seat victim found (Load point) is_there there =
        stands_spares seat (found_at s seat victim point (content_of (reading_at point) found))
        (found_spares s seat victim point (content_of (reading_at point) found) (content_fits (reading_at point) found)) there
    went_then_spares seat victim found (Install restart) is_there there = there
    went_then_spares seat victim found (Fork block) is_there there = there
    went_then_spares seat victim found (Begin block frame bottom) is_there there = there
    went_then_spares seat victim found (Move place) is_there there = ltb-true place s.processors is_there
    went_then_spares seat victim found (Enter capsule) is_there there = then_spares seat (Enter capsule) there
    went_then_spares seat victim found Again is_there there = there
    went_then_spares seat victim found Broken is_there there = then_spares seat Broken there

    pub went_row_spares : (seat : Seat) (victim found : ℕ) (row : Row) → row_is_there s seat row ≡ true → seat.place < s.processors
        → Spares (went_row s code seat victim found row)
    went_row_spares seat victim found (Now next) is_there there = went_then_spares seat victim found next is_there there
    went_row_spares seat victim found (Store cell content next) is_there there = then_spares seat next there
    went_row_spares seat victim found (Exchange cell old new next) is_there there = then_spares seat next there

    pub went_rest_spares : (seat : Seat) (found : ℕ) (rest : Rest) → SparesRest s rest → seat.place < s.processors
        → Spares (went_rest s seat found rest)
    went_rest_spares seat found (Loads cell go) h there = running_spares seat (go found) (h found) there (rest_is_there s seat (go found))
    went_rest_spares seat found (Stores cell content rest) h there = running_spares seat rest h.1 there (rest_is_there s seat rest)
    went_rest_spares seat found Full h there = there
    went_rest_spares seat found (Installs kind) h there = there
    went_rest_spares seat found Breaks h there = inl there
