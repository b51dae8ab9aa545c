-- Who has met broken words knows the place, or knows that it is no place.
use Rattle.std.proofs.Common.{◌≡◌, ◌≢◌, ◌≤◌, ℕ, zero, suc, Bool, true, false, if◌then◌else◌, List, Option, Some, None, inl, inr, refl, sym, ◌∙◌, subst, arith, slice_set}
use Rattle.std.specs.Prelude.{nat_lt, slice_get}
use Rattle.std.proofs.lemmas.Bool.{cases_eq}
use Rattle.ppm_cells.specs.declared.restart.Restart.{Restart}
use Rattle.ppm_cells.specs.declared.restart.RestartKind.{RestartKind}
use Rattle.ppm_cells.specs.declared.restart.RestartKind.TheVariants.{Run}
use Rattle.ppm_cells.specs.declared.shape.Shape.{Shape}
use Rattle.ppm_code.specs.declared.code.Capsule.{Capsule as CodeCapsule}
use Rattle.ppm_code.specs.declared.code.CodeParts.{CodeParts}
use Rattle.ppm_step.specs.Frames.{Rest, Loads, Stores, Full, Installs, Breaks}
use Rattle.ppm_step.specs.Points.{reading_at}
use Rattle.ppm_step.specs.Contents.{content_of}
use Rattle.ppm_step.specs.Rows.{found_at, row_of}
use Rattle.ppm_step.specs.Standings.{Standing, IsLost, IsPlaced, IsAt, IsWithin, IsRunning, IsBroken, IsDone, within_if, running_if, running, row_is_there, then_is_there, rest_is_there, enters, stands_then, stands, begins_if, at_finish, placed, went_row, went_rest, went}
use Rattle.ppm_step.specs.State.{State as RunState, stand_in, stand_of, happens, acts, found_in, want_of}
use Rattle.ppm_step.specs.There.{restart_is_there}
use Rattle.ppm_step.specs.declared.row.Row.{Row}
use Rattle.ppm_step.specs.declared.row.Row.TheVariants.{Now, Store, Exchange}
use Rattle.ppm_step.specs.declared.row.Seat.{Seat}
use Rattle.ppm_step.specs.declared.row.Then.{Then}
use Rattle.ppm_step.specs.declared.row.Then.TheVariants.{Load, Install, Fork, Begin, Move, Enter, Again, Broken}
use Rattle.ppm_step.specs.declared.turn.Act.{Act}
use Rattle.ppm_step.specs.declared.turn.Act.TheVariants.{Step, Soft, Hard, Quit}
use Rattle.ppm_step.specs.declared.turn.Turn.{Turn}
use Rattle.ppm_tickets.specs.Homes.{Home}
use Rattle.ppm_tickets.specs.Renewal.{IsLawful}
use Rattle.ppm_tickets.specs.Saw.{Sees}
use Rattle.ppm_tickets.specs.View as spots
use Rattle.ppm_tickets.proofs.StepLemmas.{stand_own, stand_other}
use Rattle.ppm_runs.specs.Laws.{BrokenFollow}

-- where broken words were met, if they were: at most so far
abbrev Low : Standing → Type 0
Low (IsBroken p) = p ≤ 64
Low _ = Unit {0}

within_low : (seat : Seat) (row : Row) (b : Bool) → seat.place ≤ 64 → Low (within_if seat row b)
within_low seat row true low = tt
within_low seat row false low = low

running_low : (s : Shape) (seat : Seat) (rest : Rest) → seat.place ≤ 64 → Low (running s seat rest)
running_low s seat rest low = by (rest_is_there s seat rest)
  where
    by : (b : Bool) → Low (running_if seat rest b)
    by true = tt
    by false = low

module _ (s : Shape) (code : CodeParts) where
  enters_low : (seat : Seat) (k : RestartKind) (o : Option CodeCapsule) → seat.place ≤ 64 → Low (enters s code seat k o)
  enters_low seat (Run f y) (Some one) low = running_low s seat _ low
  enters_low seat _ o low = low

  then_low : (seat : Seat) (next : Then) → seat.place ≤ 64 → Low (stands_then s code seat next)
  then_low seat (Enter x) low = enters_low seat seat.restart.kind (slice_get code.capsules x) low
  then_low seat Again low = tt
  then_low seat (Load x) low = within_low seat (Now (Load x)) (then_is_there s seat (Load x)) low
  then_low seat (Install x) low = within_low seat (Now (Install x)) (then_is_there s seat (Install x)) low
  then_low seat (Fork x) low = within_low seat (Now (Fork x)) (then_is_there s seat (Fork x)) low
  then_low seat (Begin x w v) low = within_low seat (Now (Begin x w v)) (then_is_there s seat (Begin x w v)) low
  then_low seat (Move x) low = within_low seat (Now (Move x)) (then_is_there s seat (Move x)) low
  then_low seat Broken low = low

  stands_low : (seat : Seat) (row : Row) → seat.place ≤ 64 → Low (stands s code seat row)
  stands_low seat (Now next) low = then_low seat next low
  stands_low seat (Store c w x) low = within_low seat (Store c w x) (row_is_there s seat (Store c w x)) low
  stands_low seat (Exchange c v w x) low = within_low seat (Exchange c v w x) (row_is_there s seat (Exchange c v w x)) low

  begins_low : (own p : ℕ) (r : Option Restart) (finish : ℕ) → p ≤ 64 → Low (at_finish s code own p r finish)
  begins_low own p r (suc finish) low = tt
  begins_low own p None zero low = low
  begins_low own p (Some r) zero low = by (restart_is_there s r)
    where
      by : (b : Bool) → Low (begins_if s code (record { own = own; place = p; restart = r }) b)
      by true = stands_low (record { own = own; place = p; restart = r }) (row_of s (record { own = own; place = p; restart = r }) r.kind) low
      by false = low

  placed_low : (found : ℕ) → Low (placed s found)
  placed_low found = by (nat_lt found s.processors)
    where
      by : (b : Bool) → Low (if b then IsPlaced found else IsBroken 64)
      by true = tt
      by false = omega arith

  went_low : (seat : Seat) (victim found : ℕ) (row : Row) → seat.place ≤ 64 → Low (went_row s code seat victim found row)
  went_low seat victim found (Now (Load point)) low = stands_low seat (found_at s seat victim point (content_of (reading_at point) found)) low
  went_low seat victim found (Now (Install r)) low = tt
  went_low seat victim found (Now (Fork r)) low = tt
  went_low seat victim found (Now (Begin r f b)) low = tt
  went_low seat victim found (Now (Move p)) low = tt
  went_low seat victim found (Now (Enter x)) low = then_low seat (Enter x) low
  went_low seat victim found (Now Again) low = tt
  went_low seat victim found (Now Broken) low = low
  went_low seat victim found (Store c w next) low = then_low seat next low
  went_low seat victim found (Exchange c v w next) low = then_low seat next low

  rest_low : (seat : Seat) (found : ℕ) (rest : Rest) → seat.place ≤ 64 → Low (went_rest s seat found rest)
  rest_low seat found (Loads c go) low = running_low s seat (go found) low
  rest_low seat found (Stores c w rest) low = running_low s seat rest low
  rest_low seat found Full low = tt
  rest_low seat found (Installs k) low = tt
  rest_low seat found Breaks low = low

module _ (s : Shape) (code : CodeParts) (state : RunState) (h : ℕ → Home) (forked taken : List ℕ) (lawful : IsLawful s code state h forked taken) (broken : (c p : ℕ) → stand_of state c ≡ IsBroken p → p ≤ 64) where
  -- wherever a processor stands, its place is one
  abbrev LowAt : Standing → Type 0
  LowAt (IsAt p r) = p ≤ 64
  LowAt (IsWithin seat row) = seat.place ≤ 64
  LowAt (IsRunning seat rest) = seat.place ≤ 64
  LowAt _ = Unit {0}

  low_at : (c : ℕ) (x : Standing) → Sees s (spots.view s state.words) (spots.kinds s state.words) (spots.bottoms s state.words) c x → LowAt x
  low_at c IsLost sees = tt
  low_at c (IsPlaced p) sees = tt
  low_at c (IsAt p r) sees = let lt = sees.0.place in let few = s.within.processors_most in omega (arith, lt, few)
  low_at c (IsWithin seat row) sees = let lt = sees.0.carried.place in let few = s.within.processors_most in omega (arith, lt, few)
  low_at c (IsRunning seat rest) sees = let lt = sees.0.carried.place in let few = s.within.processors_most in omega (arith, lt, few)
  low_at c (IsBroken p) sees = tt
  low_at c IsDone sees = tt

  went_from : (own victim found : ℕ) (x : Standing) → LowAt x → Low (went s code own victim found x)
  went_from own victim found IsLost low = placed_low s code found
  went_from own victim found (IsPlaced p) low = tt
  went_from own victim found (IsAt p r) low = begins_low s code own p r found low
  went_from own victim found (IsWithin seat row) low = went_low s code seat victim found row low
  went_from own victim found (IsRunning seat rest) low = rest_low s code seat found rest low
  went_from own victim found (IsBroken p) low = tt
  went_from own victim found IsDone low = tt

  -- all standings are low, and one of them moves
  all_low : (d : ℕ) → Low (stand_of state d)
  all_low d = by (stand_of state d) refl
    where
      by : (x : Standing) → stand_of state d ≡ x → Low x
      by (IsBroken p) e = broken d p e
      by IsLost e = tt
      by (IsPlaced p) e = tt
      by (IsAt p r) e = tt
      by (IsWithin seat row) e = tt
      by (IsRunning seat rest) e = tt
      by IsDone e = tt

  moved_low : (c : ℕ) (y : Standing) → stand_of state c ≢ IsDone → Low y → (d : ℕ) → Low (stand_in (slice_get (slice_set state.stand c y) d))
  moved_low c y live low d = elim (cases_eq d c) [
    | inl e ↦ subst (λ (q : ℕ). Low (stand_in (slice_get (slice_set state.stand c y) q))) (sym e) (subst Low (sym (stand_own state.stand c y live)) low)
    | inr ne ↦ subst Low (sym (stand_other state.stand c d y ne)) (all_low d)
  ]

  -- what its load finds
  abbrev found : ℕ → ℕ → Standing → ℕ
  found c v x = found_in state.words (want_of s code c (Step v) x)

  acts_low : (c : ℕ) (act : Act) (x : Standing) → stand_of state c ≡ x → LowAt x → (d : ℕ) → Low (stand_of (acts s code state c act x) d)
  acts_low c act IsDone e low d = all_low d
  acts_low c (Step v) IsLost e low d = moved_low c (went s code c v (found c v IsLost) IsLost) (λ z. let y : IsLost ≡ IsDone = sym e ∙ z in cc) (went_from c v (found c v IsLost) IsLost low) d
  acts_low c (Step v) (IsPlaced p) e low d = moved_low c (went s code c v (found c v (IsPlaced p)) (IsPlaced p)) (λ z. let y : IsPlaced p ≡ IsDone = sym e ∙ z in cc) (went_from c v (found c v (IsPlaced p)) (IsPlaced p) low) d
  acts_low c (Step v) (IsAt p r) e low d = moved_low c (went s code c v (found c v (IsAt p r)) (IsAt p r)) (λ z. let y : IsAt p r ≡ IsDone = sym e ∙ z in cc) (went_from c v (found c v (IsAt p r)) (IsAt p r) low) d
  acts_low c (Step v) (IsWithin seat row) e low d = moved_low c (went s code c v (found c v (IsWithin seat row)) (IsWithin seat row)) (λ z. let y : IsWithin seat row ≡ IsDone = sym e ∙ z in cc) (went_from c v (found c v (IsWithin seat row)) (IsWithin seat row) low) d
  acts_low c (Step v) (IsRunning seat rest) e low d = moved_low c (went s code c v (found c v (IsRunning seat rest)) (IsRunning seat rest)) (λ z. let y : IsRunning seat rest ≡ IsDone = sym e ∙ z in cc) (went_from c v (found c v (IsRunning seat rest)) (IsRunning seat rest) low) d
  acts_low c (Step v) (IsBroken p) e low d = moved_low c (went s code c v (found c v (IsBroken p)) (IsBroken p)) (λ z. let y : IsBroken p ≡ IsDone = sym e ∙ z in cc) (went_from c v (found c v (IsBroken p)) (IsBroken p) low) d
  acts_low c Soft IsLost e low d = moved_low c IsLost (λ z. let y : IsLost ≡ IsDone = sym e ∙ z in cc) tt d
  acts_low c Soft (IsPlaced p) e low d = moved_low c IsLost (λ z. let y : IsPlaced p ≡ IsDone = sym e ∙ z in cc) tt d
  acts_low c Soft (IsAt p r) e low d = moved_low c IsLost (λ z. let y : IsAt p r ≡ IsDone = sym e ∙ z in cc) tt d
  acts_low c Soft (IsWithin seat row) e low d = moved_low c IsLost (λ z. let y : IsWithin seat row ≡ IsDone = sym e ∙ z in cc) tt d
  acts_low c Soft (IsRunning seat rest) e low d = moved_low c IsLost (λ z. let y : IsRunning seat rest ≡ IsDone = sym e ∙ z in cc) tt d
  acts_low c Soft (IsBroken p) e low d = moved_low c IsLost (λ z. let y : IsBroken p ≡ IsDone = sym e ∙ z in cc) tt d
  acts_low c Hard IsLost e low d = moved_low c IsDone (λ z. let y : IsLost ≡ IsDone = sym e ∙ z in cc) tt d
  acts_low c Hard (IsPlaced p) e low d = moved_low c IsDone (λ z. let y : IsPlaced p ≡ IsDone = sym e ∙ z in cc) tt d
  acts_low c Hard (IsAt p r) e low d = moved_low c IsDone (λ z. let y : IsAt p r ≡ IsDone = sym e ∙ z in cc) tt d
  acts_low c Hard (IsWithin seat row) e low d = moved_low c IsDone (λ z. let y : IsWithin seat row ≡ IsDone = sym e ∙ z in cc) tt d
  acts_low c Hard (IsRunning seat rest) e low d = moved_low c IsDone (λ z. let y : IsRunning seat rest ≡ IsDone = sym e ∙ z in cc) tt d
  acts_low c Hard (IsBroken p) e low d = moved_low c IsDone (λ z. let y : IsBroken p ≡ IsDone = sym e ∙ z in cc) tt d
  acts_low c (Quit why) IsLost e low d = moved_low c IsLost (λ z. let y : IsLost ≡ IsDone = sym e ∙ z in cc) tt d
  acts_low c (Quit why) (IsPlaced p) e low d = moved_low c IsLost (λ z. let y : IsPlaced p ≡ IsDone = sym e ∙ z in cc) tt d
  acts_low c (Quit why) (IsAt p r) e low d = moved_low c IsLost (λ z. let y : IsAt p r ≡ IsDone = sym e ∙ z in cc) tt d
  acts_low c (Quit why) (IsWithin seat row) e low d = moved_low c IsLost (λ z. let y : IsWithin seat row ≡ IsDone = sym e ∙ z in cc) tt d
  acts_low c (Quit why) (IsRunning seat rest) e low d = moved_low c IsLost (λ z. let y : IsRunning seat rest ≡ IsDone = sym e ∙ z in cc) tt d
  acts_low c (Quit why) (IsBroken p) e low d = moved_low c IsLost (λ z. let y : IsBroken p ≡ IsDone = sym e ∙ z in cc) tt d

  pub broken_stays : (turn : Turn) (c p : ℕ) → stand_of (happens s code state turn) c ≡ IsBroken p → p ≤ 64
  broken_stays turn c p e = subst Low e (acts_low turn.processor turn.act (stand_of state turn.processor) refl (low_at turn.processor (stand_of state turn.processor) (lawful.1.sees turn.processor)) c)

pub broken_follow : BrokenFollow
broken_follow s code root input state h forked taken t run = broken_stays s code state h forked taken run.lawful run.broken
