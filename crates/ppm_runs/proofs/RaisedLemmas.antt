-- Steps that raise an entry's tag are half of the work turns at most: who is about to make one has loaded
-- that entry, and both are work.
use Rattle.std.proofs.Common.{◌≡◌, ◌≢◌, ◌≤◌, ◌<◌, ℕ, zero, suc, ◌+◌, ◌*◌, ◌==◌, ◌&&◌, Bool, true, false, if◌then◌else◌, List, Option, Some, None, replicate, refl, sym, ap, ◌∙◌, subst, arith}
use Rattle.std.specs.Prelude.{slice_get, slice_set}
use Rattle.std.proofs.lemmas.Bool.{cases_Bool}
use Rattle.ppm_cells.specs.declared.cell.Cell.{Cell}
use Rattle.ppm_cells.specs.declared.restart.Restart.{Restart}
use Rattle.ppm_cells.specs.declared.restart.RestartKind.{RestartKind}
use Rattle.ppm_cells.specs.declared.restart.RestartKind.TheVariants.{Run, Bump, Push1, Push2, Unwind, Arrive, Join, Pop1, Pop2, Seek, Steal, Check, Take, Take2}
use Rattle.ppm_cells.specs.declared.shape.Shape.{Shape}
use Rattle.ppm_cells.specs.declared.shape.Takeover.{Takeover}
use Rattle.ppm_cells.specs.declared.shape.Takeover.TheVariants.{ByPlaces, ByEntries}
use Rattle.ppm_code.specs.Code.{IsCode}
use Rattle.ppm_code.specs.declared.code.Capsule.{Capsule as CodeCapsule}
use Rattle.ppm_code.specs.declared.code.CodeParts.{CodeParts}
use Rattle.ppm_step.specs.Contents.{content_of}
use Rattle.ppm_step.specs.Frames.{Rest, Loads, Stores, Full, Installs, Breaks}
use Rattle.ppm_step.specs.Points.{reading_at}
use Rattle.ppm_step.specs.Rows.{found_at, row_of, push_at, by_places}
use Rattle.ppm_step.specs.Standings.{Standing, IsLost, IsPlaced, IsAt, IsWithin, IsRunning, IsBroken, IsDone, within_if, running_if, rest_is_there, row_is_there, then_is_there, enters, stands_then, stands, begins_if, at_finish, placed, went}
use Rattle.ppm_step.specs.State.{State as RunState, stand_in, stand_of, found_in, want_of, stand_after, acts, happens, opening, is_step, is_work, is_work_next, is_work_turn}
use Rattle.ppm_step.specs.There.{restart_is_there}
use Rattle.ppm_step.specs.declared.content.Content.{Content}
use Rattle.ppm_step.specs.declared.row.Point.{Point}
use Rattle.ppm_step.specs.declared.row.Row.{Row}
use Rattle.ppm_step.specs.declared.row.Row.TheVariants.{Now, Store, Exchange}
use Rattle.ppm_step.specs.declared.row.Seat.{Seat}
use Rattle.ppm_step.specs.declared.row.Then.{Then}
use Rattle.ppm_step.specs.declared.row.Then.TheVariants.{Load, Install, Fork, Begin, Move, Enter, Again, Broken}
use Rattle.ppm_step.specs.declared.turn.Act.{Act}
use Rattle.ppm_step.specs.declared.turn.Act.TheVariants.{Step, Soft, Hard, Quit}
use Rattle.ppm_step.specs.declared.turn.Next.TheVariants.{Work, Look}
use Rattle.ppm_step.specs.declared.turn.Turn.{Turn}
use Rattle.ppm_paces.proofs.RunLemmas.{stand_own, turn_else}
use Rattle.ppm_runs.specs.Deques.{one_if, is_entry, tries_entry, raises, raised_by}
use Rattle.ppm_runs.proofs.SoundRows.{and_right}
use Rattle.ppm_runs.proofs.SumLemmas.{sum, sum_at, sum_zero}

-- what a step costs that raises an entry: it is work, and so was its row's load
abbrev Pays : Act → (before behind : Standing) → Type 0
Pays act x y = 2 * one_if (is_step act && raises x) + one_if (raises y) ≤ one_if (raises x) + one_if (is_work_turn act x)

pays_none : (act : Act) (x y : Standing) → (is_step act && raises x) ≡ false → raises y ≡ false → Pays act x y
pays_none act x y none free = let a : one_if (is_step act && raises x) ≡ 0 = ap one_if none in let b : one_if (raises y) ≡ 0 = ap one_if free in omega (arith, a, b)

pays_try : (e b c : Bool) → c ≡ false → 2 * one_if (e && b) + one_if c ≤ one_if (e && b) + one_if (is_work_next (if b then Work else Look))
pays_try true true c none = let zero_ : one_if c ≡ 0 = ap one_if none in omega (arith, zero_)
pays_try true false c none = let zero_ : one_if c ≡ 0 = ap one_if none in omega (arith, zero_)
pays_try false b c none = let zero_ : one_if c ≡ 0 = ap one_if none in omega (arith, zero_)

pays_load : (b c : Bool) → (c ≡ true → b ≡ true) → 2 * 0 + one_if c ≤ 0 + one_if (is_work_next (if b then Work else Look))
pays_load true true work = omega arith
pays_load true false work = omega arith
pays_load false false work = omega arith
pays_load false true work = absurd (let z = work refl in cc)

module _ (s : Shape) (code : CodeParts) where
  -- what is left after a row's end, or a step of a capsule, is no exchange
  module _ (seat : Seat) where
    running_free : (rest : Rest) (b : Bool) → raises (running_if seat rest b) ≡ false
    running_free rest true = refl
    running_free rest false = refl

    enters_free : (k : RestartKind) (o : Option CodeCapsule) → raises (enters s code seat k o) ≡ false
    enters_free (Run f y) (Some one) = running_free _ _
    enters_free _ o = refl

    now_free : (next : Then) (b : Bool) → raises (within_if seat (Now next) b) ≡ false
    now_free next true = refl
    now_free next false = refl

    then_free : (next : Then) → raises (stands_then s code seat next) ≡ false
    then_free (Load point) = now_free (Load point) _
    then_free (Install r) = now_free (Install r) _
    then_free (Fork r) = now_free (Fork r) _
    then_free (Begin r f b) = now_free (Begin r f b) _
    then_free (Move q) = now_free (Move q) _
    then_free (Enter x) = enters_free seat.restart.kind (slice_get code.capsules x)
    then_free Again = refl
    then_free Broken = now_free Broken (then_is_there s seat Broken)

    -- an exchange of a row of work is one, where it is of an entry
    row_works : (row : Row) → raises (stands s code seat row) ≡ true → is_work seat.restart.kind ≡ true
    row_works (Now next) is = absurd (let z : true ≡ false = sym is ∙ then_free next in cc)
    row_works (Store cell content next) is = by (row_is_there s seat (Store cell content next)) is
      where
        by : (b : Bool) → raises (within_if seat (Store cell content next) b) ≡ true → is_work seat.restart.kind ≡ true
        by true e = absurd (let z : true ≡ false = sym e in cc)
        by false e = absurd (let z : true ≡ false = sym e in cc)
    row_works (Exchange cell old new next) is = by (row_is_there s seat (Exchange cell old new next)) is
      where
        by : (b : Bool) → raises (within_if seat (Exchange cell old new next) b) ≡ true → is_work seat.restart.kind ≡ true
        by true e = and_right (is_entry cell) (is_work seat.restart.kind) e
        by false e = absurd (let z : true ≡ false = sym e in cc)

    row_free : (row : Row) → tries_entry row ≡ false → raises (stands s code seat row) ≡ false
    row_free (Now next) none = then_free next
    row_free (Store cell content next) none = by (row_is_there s seat (Store cell content next))
      where
        by : (b : Bool) → raises (within_if seat (Store cell content next) b) ≡ false
        by true = refl
        by false = refl
    row_free (Exchange cell old new next) none = by (row_is_there s seat (Exchange cell old new next))
      where
        by : (b : Bool) → raises (within_if seat (Exchange cell old new next) b) ≡ false
        by true = ap (λ (e : Bool). e && is_work seat.restart.kind) none
        by false = refl

    -- no row begins with one
    push_free : (t : Takeover) (r : ℕ) (last : Bool) → tries_entry (push_at seat t r last) ≡ false
    push_free t r true = refl
    push_free ByPlaces r false = refl
    push_free ByEntries r false = refl

    take_free : (t : Takeover) (point : Point) → tries_entry (by_places t (Now (Load point))) ≡ false
    take_free ByPlaces point = refl
    take_free ByEntries point = refl

    begins_free : (k : RestartKind) → tries_entry (row_of s seat k) ≡ false
    begins_free (Run f y) = refl
    begins_free (Bump r) = refl
    begins_free (Push1 r) = push_free s.takeover r _
    begins_free (Push2 r) = refl
    begins_free (Unwind f) = refl
    begins_free (Arrive r d) = refl
    begins_free (Join r d) = refl
    begins_free Pop1 = refl
    begins_free (Pop2 r) = refl
    begins_free Seek = refl
    begins_free (Steal v i) = refl
    begins_free (Check v i) = refl
    begins_free (Take v d) = take_free s.takeover _
    begins_free (Take2 v) = take_free s.takeover _

    begun_free : (b : Bool) → raises (begins_if s code seat b) ≡ false
    begun_free true = row_free (row_of s seat seat.restart.kind) (begins_free seat.restart.kind)
    begun_free false = refl

  finish_free : (c p : ℕ) (r : Option Restart) (finish : ℕ) → raises (at_finish s code c p r finish) ≡ false
  finish_free c p r (suc finish) = refl
  finish_free c p None zero = refl
  finish_free c p (Some r) zero = begun_free (record { own = c; place = p; restart = r }) (restart_is_there s r)

  -- a step
  now_pays : (seat : Seat) (c v found : ℕ) (next : Then) → Pays (Step v) (IsWithin seat (Now next)) (went s code c v found (IsWithin seat (Now next)))
  now_pays seat c v found (Load point) = pays_load (is_work seat.restart.kind) _ (row_works seat (found_at s seat v point (content_of (reading_at point) found)))
  now_pays seat c v found (Install r) = omega arith
  now_pays seat c v found (Fork r) = omega arith
  now_pays seat c v found (Begin r f b) = omega arith
  now_pays seat c v found (Move q) = omega arith
  now_pays seat c v found (Enter x) = pays_none (Step v) (IsWithin seat (Now (Enter x))) (went s code c v found (IsWithin seat (Now (Enter x)))) refl (then_free seat (Enter x))
  now_pays seat c v found Again = omega arith
  now_pays seat c v found Broken = pays_none (Step v) (IsWithin seat (Now Broken)) (went s code c v found (IsWithin seat (Now Broken))) refl (then_free seat Broken)

  rest_pays : (seat : Seat) (c v found : ℕ) (rest : Rest) → Pays (Step v) (IsRunning seat rest) (went s code c v found (IsRunning seat rest))
  rest_pays seat c v found (Loads cell go) = pays_none (Step v) (IsRunning seat (Loads cell go)) (went s code c v found (IsRunning seat (Loads cell go))) refl (running_free seat (go found) _)
  rest_pays seat c v found (Stores cell content rest) = pays_none (Step v) (IsRunning seat (Stores cell content rest)) (went s code c v found (IsRunning seat (Stores cell content rest))) refl (running_free seat rest _)
  rest_pays seat c v found Full = omega arith
  rest_pays seat c v found (Installs kind) = omega arith
  rest_pays seat c v found Breaks = omega arith

  placed_free : (p : ℕ) (b : Bool) → raises (if b then IsPlaced p else IsBroken 64) ≡ false
  placed_free p true = refl
  placed_free p false = refl

  step_pays : (c v found : ℕ) (x : Standing) → Pays (Step v) x (went s code c v found x)
  step_pays c v found IsLost = pays_none (Step v) IsLost (went s code c v found IsLost) refl (placed_free found _)
  step_pays c v found (IsPlaced p) = omega arith
  step_pays c v found (IsAt p r) = pays_none (Step v) (IsAt p r) (went s code c v found (IsAt p r)) refl (finish_free c p r found)
  step_pays c v found (IsWithin seat (Now next)) = now_pays seat c v found next
  step_pays c v found (IsWithin seat (Store cell content next)) = pays_none (Step v) (IsWithin seat (Store cell content next)) (went s code c v found (IsWithin seat (Store cell content next))) refl (then_free seat next)
  step_pays c v found (IsWithin seat (Exchange cell old new next)) = pays_try (is_entry cell) (is_work seat.restart.kind) _ (then_free seat next)
  step_pays c v found (IsRunning seat rest) = rest_pays seat c v found rest
  step_pays c v found (IsBroken p) = omega arith
  step_pays c v found IsDone = omega arith

  -- any act
  act_pays : (c found : ℕ) (act : Act) (x : Standing) → Pays act x (stand_after s code c act found x)
  act_pays c found (Step v) x = step_pays c v found x
  act_pays c found Soft x = omega arith
  act_pays c found Hard x = omega arith
  act_pays c found (Quit why) x = omega arith

  done_pays : (act : Act) → Pays act IsDone IsDone
  done_pays (Step v) = omega arith
  done_pays Soft = omega arith
  done_pays Hard = omega arith
  done_pays (Quit why) = omega arith

  module _ (state : RunState) (c : ℕ) (act : Act) where
    live_pays : (x : Standing) → stand_of state c ≡ x → x ≢ IsDone
        → Pays act x (stand_in (slice_get (slice_set state.stand c (stand_after s code c act (found_in state.words (want_of s code c act x)) x)) c))
    live_pays x e live = subst (Pays act x) (sym (stand_own state.stand c _ (λ d. live (sym e ∙ d)))) (act_pays c (found_in state.words (want_of s code c act x)) act x)

    stood_pays : (x : Standing) → stand_of state c ≡ x → Pays act x (stand_of (acts s code state c act x) c)
    stood_pays IsLost e = live_pays IsLost e (λ z. cc)
    stood_pays (IsPlaced p) e = live_pays (IsPlaced p) e (λ z. cc)
    stood_pays (IsAt p r) e = live_pays (IsAt p r) e (λ z. cc)
    stood_pays (IsWithin seat row) e = live_pays (IsWithin seat row) e (λ z. cc)
    stood_pays (IsRunning seat rest) e = live_pays (IsRunning seat rest) e (λ z. cc)
    stood_pays (IsBroken p) e = live_pays (IsBroken p) e (λ z. cc)
    stood_pays IsDone e = subst (Pays act IsDone) (sym e) (done_pays act)

  -- how many of the first so many processors are about to make one
  abbrev pub about : ℕ → RunState → ℕ
  about n state = sum n (λ c. one_if (raises (stand_of state c)))

  pub half_stays : (n made work : ℕ) (state : RunState) (turn : Turn) → IsCode code → turn.processor < n → 2 * made + about n state ≤ work
      → 2 * raised_by made state turn + about n (happens s code state turn) ≤ work + one_if (is_work_turn turn.act (stand_of state turn.processor))
  half_stays n made work state turn is lt half =
      let c = turn.processor in
      let all = sum_at n (λ d. one_if (raises (stand_of state d))) (λ d. one_if (raises (stand_of (happens s code state turn) d))) turn.processor lt
      (λ d ne. ap (λ (x : Standing). one_if (raises x)) (turn_else s code is state turn d ne)) in
      let pays = stood_pays state turn.processor turn.act (stand_of state turn.processor) refl in
      omega (arith, half, all, pays)

-- at first nobody is
lost_none : (n c : ℕ) → one_if (raises (stand_in (slice_get (replicate n IsLost) c))) ≡ 0
lost_none zero c = refl
lost_none (suc n) zero = refl
lost_none (suc n) (suc c) = lost_none n c

pub half_opens : (s : Shape) (code : CodeParts) (words : List ℕ) (n : ℕ) → 2 * 0 + about s code n (opening words n) ≤ 0
half_opens s code words n = let none = sum_zero n (λ c. one_if (raises (stand_of (opening words n) c))) (lost_none n) in omega (arith, none)
