-- By entries, what is set aside beside for a place that was closed at Push2; and who is done after a step.
use Rattle.std.proofs.Common.{◌≡◌, ◌≢◌, ◌⊎◌, ◌≤◌, ◌<◌, ℕ, zero, suc, Bool, true, false, if◌then◌else◌, List, Option, Some, None, [], ◌∷◌, length, inl, inr, refl, sym, ap, ◌∙◌, arith}
use Rattle.std.specs.Prelude.{slice_get, slice_index, nat_lt}
use Rattle.std.proofs.lemmas.Bool.{cases_eq}
use Rattle.ppm_cells.specs.Cells.{address}
use Rattle.ppm_cells.specs.Fields.{number_of}
use Rattle.ppm_cells.specs.Finish.{finish_word}
use Rattle.ppm_cells.specs.declared.cell.Cell.TheVariants.{FinishWord, CarryWord}
use Rattle.ppm_cells.specs.declared.finish.Finish.TheVariants.{Broken as BrokenAt}
use Rattle.ppm_cells.specs.declared.restart.Restart.{Restart}
use Rattle.ppm_cells.specs.declared.restart.RestartKind.{RestartKind}
use Rattle.ppm_cells.specs.declared.restart.RestartKind.TheVariants.{Run, Push2, Seek}
use Rattle.ppm_cells.specs.declared.shape.Shape.{Shape}
use Rattle.ppm_cells.specs.declared.shape.Takeover.{Takeover}
use Rattle.ppm_cells.specs.declared.shape.Takeover.TheVariants.{ByPlaces, ByEntries}
use Rattle.ppm_code.specs.declared.code.Capsule.{Capsule}
use Rattle.ppm_code.specs.declared.code.CodeParts.{CodeParts}
use Rattle.ppm_step.specs.Laws.{finish_at}
use Rattle.ppm_step.specs.Contents.{content_of}
use Rattle.ppm_step.specs.Frames.{Rest, Loads, Stores, Full, Installs, Breaks}
use Rattle.ppm_step.specs.Points.{reading_at}
use Rattle.ppm_step.specs.Rows.{found_at, row_of}
use Rattle.ppm_step.specs.Standings.{Standing, IsLost, IsPlaced, IsAt, IsWithin, IsRunning, IsBroken, IsDone, unknown_place, then_is_there, row_is_there, rest_is_there, within_if, running_if, enters, stands_then, stands, begins_if, begins, at_finish, went_row, went_rest, went}
use Rattle.ppm_step.specs.There.{restart_is_there}
use Rattle.ppm_step.specs.declared.row.Row.{Row}
use Rattle.ppm_step.specs.declared.row.Row.TheVariants.{Now, Store, Exchange}
use Rattle.ppm_step.specs.declared.row.Seat.{Seat}
use Rattle.ppm_step.specs.declared.row.Then.{Then}
use Rattle.ppm_step.specs.declared.row.Then.TheVariants.{Load, Install, Fork, Begin, Move, Enter, Again, Broken}
use Rattle.ppm_step.specs.State.{State as RunState, found_in, want_of, acts, is_done_at}
use Rattle.ppm_step.proofs.WordLemmas.{exchanged_to}
use Rattle.ppm_step.specs.declared.turn.Act.TheVariants.{Step}
use Rattle.ppm_kept.specs.Kept.{put as set}
use Rattle.ppm_kept.specs.Left.{Followed, left_kinds}
use Rattle.ppm_kept.proofs.PutLemmas.{put_here as set_here, put_else as set_else}

-- By entries, what is set aside beside for a place that was closed at Push2: who follows makes the push again. A processor whose place was
-- closed is done.
abbrev pub again : Takeover → Standing → RestartKind → ℕ
again ByEntries IsDone (Push2 block) = 4
again how x k = 0

pub again_none : (how : Takeover) → how ≡ ByPlaces → (x : Standing) (k : RestartKind) → again how x k ≡ 0
again_none ByPlaces e x k = refl
again_none ByEntries e x k = absurd (cc)

pub again_live : (how : Takeover) (x : Standing) (k : RestartKind) → is_done_at x ≡ false → again how x k ≡ 0
again_live ByPlaces x k live = refl
again_live ByEntries IsLost k live = refl
again_live ByEntries (IsPlaced p) k live = refl
again_live ByEntries (IsAt p r) k live = refl
again_live ByEntries (IsWithin seat row) k live = refl
again_live ByEntries (IsRunning seat rest) k live = refl
again_live ByEntries (IsBroken p) k live = refl
again_live ByEntries IsDone k live = absurd (cc)

pub again_push : (x : Standing) (k : RestartKind) → (again ByEntries x k ≡ 0) ⊎ ((again ByEntries x k ≤ 4) × (r : ℕ) × (k ≡ Push2 r))
again_push IsDone (Push2 r) = inr (omega arith, r, refl)
again_push IsDone _ = inl refl
again_push IsLost k = inl refl
again_push (IsPlaced p) k = inl refl
again_push (IsAt p r) k = inl refl
again_push (IsWithin seat row) k = inl refl
again_push (IsRunning seat rest) k = inl refl
again_push (IsBroken p) k = inl refl

pub again_not : (how : Takeover) (x : Standing) (k : RestartKind) → ((r : ℕ) → k ≡ Push2 r → ⊥) → again how x k ≡ 0
again_not ByPlaces x k none = refl
again_not ByEntries x k none = elim (again_push x k) [ inl e ↦ e | inr push ↦ absurd (none push.1 push.2) ]

-- kinds that are the same at a place are so with the places left out that others have followed
pub left_at : (l : List Followed) (k n : ℕ → RestartKind) (q : ℕ) → n q ≡ k q → left_kinds l n q ≡ left_kinds l k q
left_at [] k n q e = e
left_at (v ∷ l) k n q e = elim (cases_eq q v.place) [
  | inl is ↦ ap (set (left_kinds l n) v.place Seek) is ∙ set_here (left_kinds l n) v.place Seek ∙ sym (ap (set (left_kinds l k) v.place Seek) is ∙ set_here (left_kinds l k) v.place Seek)
  | inr ne ↦ set_else (left_kinds l n) v.place Seek q ne ∙ left_at l k n q e ∙ sym (set_else (left_kinds l k) v.place Seek q ne)
]

broken_some : (p : ℕ) → finish_word (BrokenAt p) ≢ 0
unfolding number_of
broken_some p e = omega (arith, e)

-- a step leaves its processor done at the load of a finish word that is set, and at broken words
module _ (s : Shape) (code : CodeParts) where
  within_live : (seat : Seat) (row : Row) (b : Bool) → is_done_at (within_if seat row b) ≡ false
  within_live seat row true = refl
  within_live seat row false = refl

  running_live : (seat : Seat) (rest : Rest) (b : Bool) → is_done_at (running_if seat rest b) ≡ false
  running_live seat rest true = refl
  running_live seat rest false = refl

  enters_live : (seat : Seat) (k : RestartKind) (o : Option Capsule) → is_done_at (enters s code seat k o) ≡ false
  enters_live seat (Run f y) (Some capsule) = running_live seat _ (rest_is_there s seat _)
  enters_live seat (Run f y) None = refl
  enters_live seat _ o = refl

  then_live : (seat : Seat) (next : Then) → is_done_at (stands_then s code seat next) ≡ false
  then_live seat (Load x) = within_live seat (Now (Load x)) (then_is_there s seat (Load x))
  then_live seat (Install x) = within_live seat (Now (Install x)) (then_is_there s seat (Install x))
  then_live seat (Fork x) = within_live seat (Now (Fork x)) (then_is_there s seat (Fork x))
  then_live seat (Begin x f b) = within_live seat (Now (Begin x f b)) (then_is_there s seat (Begin x f b))
  then_live seat (Move x) = within_live seat (Now (Move x)) (then_is_there s seat (Move x))
  then_live seat (Enter x) = enters_live seat seat.restart.kind (slice_get code.capsules x)
  then_live seat Again = refl
  then_live seat Broken = refl

  stands_live : (seat : Seat) (row : Row) → is_done_at (stands s code seat row) ≡ false
  stands_live seat (Now next) = then_live seat next
  stands_live seat (Store cell content next) = within_live seat (Store cell content next) (row_is_there s seat (Store cell content next))
  stands_live seat (Exchange cell old new next) = within_live seat (Exchange cell old new next) (row_is_there s seat (Exchange cell old new next))

  pub row_live : (seat : Seat) (v found : ℕ) (row : Row) → is_done_at (went_row s code seat v found row) ≡ false
  row_live seat v found (Now (Load x)) = stands_live seat (found_at s seat v x (content_of (reading_at x) found))
  row_live seat v found (Now (Install x)) = refl
  row_live seat v found (Now (Fork x)) = refl
  row_live seat v found (Now (Begin x f b)) = refl
  row_live seat v found (Now (Move x)) = refl
  row_live seat v found (Now (Enter x)) = then_live seat (Enter x)
  row_live seat v found (Now Again) = refl
  row_live seat v found (Now Broken) = refl
  row_live seat v found (Store cell content next) = then_live seat next
  row_live seat v found (Exchange cell old new next) = then_live seat next

  rest_live : (seat : Seat) (found : ℕ) (rest : Rest) → is_done_at (went_rest s seat found rest) ≡ false
  rest_live seat found (Loads cell go) = running_live seat (go found) (rest_is_there s seat (go found))
  rest_live seat found (Stores cell content rest) = running_live seat rest (rest_is_there s seat rest)
  rest_live seat found Full = refl
  rest_live seat found (Installs kind) = refl
  rest_live seat found Breaks = refl

  begins_live : (c p : ℕ) (r : Option Restart) → is_done_at (begins s code c p r) ≡ false
  begins_live c p None = refl
  begins_live c p (Some r) = by (restart_is_there s r)
    where
      by : (b : Bool) → is_done_at (begins_if s code (record { own = c; place = p; restart = r }) b) ≡ false
      by true = stands_live (record { own = c; place = p; restart = r }) (row_of s (record { own = c; place = p; restart = r }) r.kind)
      by false = refl

  -- where the finish word is 0 and stays so
  pub step_live : (state : RunState) (c v : ℕ) (x : Standing) → 0 < length state.words → finish_at s state ≡ 0 → finish_at s (acts s code state c (Step v) x) ≡ 0 → is_done_at x ≡ false
      → is_done_at (went s code c v (found_in state.words (want_of s code c (Step v) x)) x) ≡ false
  step_live state c v IsLost some unset none live = by (nat_lt (slice_index state.words (address s (CarryWord c))) s.processors)
    where
      by : (b : Bool) → is_done_at (if b then IsPlaced (slice_index state.words (address s (CarryWord c))) else IsBroken unknown_place) ≡ false
      by true = refl
      by false = refl
  step_live state c v (IsPlaced p) some unset none live = refl
  step_live state c v (IsAt p r) some unset none live = by (slice_index state.words (address s FinishWord)) unset
    where
      by : (found : ℕ) → found ≡ 0 → is_done_at (at_finish s code c p r found) ≡ false
      by zero e = begins_live c p r
      by (suc n) e = absurd (omega (arith, e))
  step_live state c v (IsWithin seat row) some unset none live = row_live seat v (found_in state.words (want_of s code c (Step v) (IsWithin seat row))) row
  step_live state c v (IsRunning seat rest) some unset none live = rest_live seat (found_in state.words (want_of s code c (Step v) (IsRunning seat rest))) rest
  step_live state c v (IsBroken p) some unset none live = absurd (broken_some p (sym (exchanged_to state.words (finish_word (BrokenAt p)) unset some) ∙ none))
  step_live state c v IsDone some unset none live = absurd (cc)
