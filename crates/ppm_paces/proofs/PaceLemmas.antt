-- What an act makes of the pace of its processor.
use Rattle.std.proofs.Common.{◌≡◌, ◌≢◌, ◌≤◌, ◌⊎◌, ℕ, zero, suc, ◌+◌, ◌*◌, ◌&&◌, ◌||◌, nat_lt, if◌then◌else◌, Bool, true, false, length, Option, Some, None, inl, inr, refl, sym, ap, subst, subst₂, arith}
use Rattle.std.specs.Prelude.{slice_get}
use Rattle.ppm_cells.specs.Cells.{address}
use Rattle.ppm_cells.specs.Fields.{number_of}
use Rattle.ppm_cells.specs.Finish.{finish_word}
use Rattle.ppm_cells.specs.declared.cell.Cell.{Cell}
use Rattle.ppm_cells.specs.declared.cell.Cell.TheVariants.{FinishWord}
use Rattle.ppm_cells.specs.declared.finish.Finish.TheVariants.{OutOfRoom, Broken as BrokenAt}
use Rattle.ppm_cells.specs.declared.restart.Restart.{Restart}
use Rattle.ppm_cells.specs.declared.restart.RestartKind.{RestartKind}
use Rattle.ppm_cells.specs.declared.restart.RestartKind.TheVariants.{Run, Bump, Push1, Push2, Unwind, Arrive, Join, Pop1, Pop2, Seek, Steal, Check, Take, Take2}
use Rattle.ppm_cells.specs.declared.shape.Shape.{Shape}
use Rattle.ppm_code.specs.Code.{IsCapsule, IsCode}
use Rattle.ppm_code.specs.declared.code.Capsule.{Capsule}
use Rattle.ppm_code.specs.declared.code.CodeParts.{CodeParts}
use Rattle.ppm_code.proofs.CodeLemmas.{all_at}
use Rattle.ppm_step.specs.Contents.{content_of, word_of}
use Rattle.ppm_step.specs.Frames.{Rest, Loads, Stores, Full, Installs, Breaks}
use Rattle.ppm_step.specs.Points.{reading_at}
use Rattle.ppm_step.specs.Rows.{found_at, row_of}
use Rattle.ppm_step.specs.Standings.{Standing, IsLost, IsPlaced, IsAt, IsWithin, IsRunning, IsBroken, IsDone, unknown_place, then_is_there, row_is_there, rest_is_there, within_if, running_if, running, enters, stands_then, stands, begins_if, begins, placed, went_row, went_rest, went}
use Rattle.ppm_step.specs.State.{is_work, step_of, before_kind, before_row, next_of, is_done_at, is_step, is_work_next, is_work_turn, quit_with, want_of}
use Rattle.ppm_step.specs.There.{restart_is_there}
use Rattle.ppm_step.specs.declared.ask.Want.TheVariants.{Exchanges as WantsExchange}
use Rattle.ppm_step.specs.declared.content.Content.{Content}
use Rattle.ppm_step.specs.declared.row.Point.TheVariants.{Header}
use Rattle.ppm_step.specs.declared.row.Row.{Row}
use Rattle.ppm_step.specs.declared.row.Row.TheVariants.{Now, Store, Exchange}
use Rattle.ppm_step.specs.declared.row.Seat.{Seat}
use Rattle.ppm_step.specs.declared.row.Then.{Then}
use Rattle.ppm_step.specs.declared.row.Then.TheVariants.{Load, Install, Fork, Begin, Move, Enter, Again, Broken}
use Rattle.ppm_step.specs.declared.turn.Act.{Act}
use Rattle.ppm_step.specs.declared.turn.Act.TheVariants.{Step, Soft, Hard, Quit}
use Rattle.ppm_step.specs.declared.turn.Next.TheVariants.{Work, Look}
use Rattle.ppm_step.specs.declared.turn.Why.{Why}
use Rattle.ppm_step.specs.declared.turn.Why.TheVariants.{Turns, Watch}
use Rattle.ppm_paces.specs.Costs.{cost, due, weight, IsPaid, Leads, IsShortKind, IsShort}
use Rattle.ppm_paces.specs.Paces.{RowPaces, OfFrame, OfWork, OfLook, CapsulePaces, Paces, is_in_row, is_broken_at, keeps_row, made_then, is_strike}
use Rattle.ppm_paces.proofs.CapsuleLemmas.{capsules_are_short}
use Rattle.ppm_paces.proofs.RowLemmas.{rows_are_paid}

-- 1 where it is so
abbrev pub one : Bool → ℕ
one true = 1
one false = 0

-- the most word steps of the row in which a processor stands; one that met broken words makes no more of it
abbrev pub most : (made : ℕ) → Standing → ℕ
most made (IsWithin seat row) = cost seat.restart.kind
most made (IsRunning seat rest) = cost seat.restart.kind
most made (IsBroken place) = made
most made _ = 0

-- it is about to install a restart word
abbrev pub Sets : Standing → Type 0
Sets (IsWithin seat (Now (Install restart))) = Unit {0}
Sets (IsWithin seat (Now (Fork block))) = Unit {0}
Sets (IsWithin seat (Now (Begin block frame bottom))) = Unit {0}
Sets (IsRunning seat (Installs kind)) = Unit {0}
Sets _ = ⊥

-- kinds by their work
pub short_works : (k : RestartKind) → IsShortKind k → is_work k ≡ true
short_works (Bump r) is = refl
short_works (Push1 r) is = refl
short_works (Push2 r) is = refl
short_works (Unwind f) is = refl
short_works (Arrive r d) is = refl
short_works (Join r d) is = refl
short_works Pop1 is = refl
short_works (Pop2 r) is = refl
short_works _ is = absurd is

pub short_few : (k : RestartKind) → IsShortKind k → cost k ≤ 12
short_few (Bump r) is = omega arith
short_few (Push1 r) is = omega arith
short_few (Push2 r) is = omega arith
short_few (Unwind f) is = omega arith
short_few (Arrive r d) is = omega arith
short_few (Join r d) is = omega arith
short_few Pop1 is = omega arith
short_few (Pop2 r) is = omega arith
short_few _ is = absurd is

pub look_none : (k : RestartKind) → is_work k ≡ false → cost k ≡ 0
look_none (Run f y) e = absurd (cc)
look_none (Bump r) e = absurd (cc)
look_none (Push1 r) e = absurd (cc)
look_none (Push2 r) e = absurd (cc)
look_none (Unwind f) e = absurd (cc)
look_none (Arrive r d) e = absurd (cc)
look_none (Join r d) e = absurd (cc)
look_none Pop1 e = absurd (cc)
look_none (Pop2 r) e = absurd (cc)
look_none Seek e = refl
look_none (Steal v i) e = refl
look_none (Check v i) e = refl
look_none (Take v d) e = refl
look_none (Take2 v) e = refl

-- the load of the finish word before a row is no work
pub before_none : (restart : Option Restart) → is_work_next (before_row restart) ≡ false
before_none None = refl
before_none (Some restart) = by restart.kind
  where
    by : (k : RestartKind) → is_work_next (before_kind k) ≡ false
    by (Run f y) = refl
    by (Bump r) = refl
    by (Push1 r) = refl
    by (Push2 r) = refl
    by (Unwind f) = refl
    by (Arrive r d) = refl
    by (Join r d) = refl
    by Pop1 = refl
    by (Pop2 r) = refl
    by Seek = refl
    by (Steal v i) = refl
    by (Check v i) = refl
    by (Take v d) = refl
    by (Take2 v) = refl

step_work : (k : RestartKind) (b : Bool) → is_work k ≡ b → is_work_next (step_of k) ≡ b
step_work k b e = by (is_work k) b e
  where
    by : (w b : Bool) → w ≡ b → is_work_next (if w then Work else Look) ≡ b
    by true true e = refl
    by true false e = absurd (cc)
    by false true e = absurd (cc)
    by false false e = refl

kinds_are : (k : RestartKind) → ((frame : ℕ) × (copy : ℕ) × (k ≡ Run frame copy)) ⊎ (IsShortKind k ⊎ (is_work k ≡ false))
kinds_are (Run f y) = inl (f, y, refl)
kinds_are (Bump r) = inr (inl tt)
kinds_are (Push1 r) = inr (inl tt)
kinds_are (Push2 r) = inr (inl tt)
kinds_are (Unwind f) = inr (inl tt)
kinds_are (Arrive r d) = inr (inl tt)
kinds_are (Join r d) = inr (inl tt)
kinds_are Pop1 = inr (inl tt)
kinds_are (Pop2 r) = inr (inl tt)
kinds_are Seek = inr (inr refl)
kinds_are (Steal v i) = inr (inr refl)
kinds_are (Check v i) = inr (inr refl)
kinds_are (Take v d) = inr (inr refl)
kinds_are (Take2 v) = inr (inr refl)

-- what has been made of a row, by whether the row goes on
then_on : (w r : Bool) (made : ℕ) → w ≡ true → r ≡ true → (if w then (if r then made + 1 else 0) else 0) ≡ made + 1
then_on true true made e d = refl
then_on true false made e d = absurd (cc)
then_on false r made e d = absurd (cc)

then_off : (w r : Bool) (made : ℕ) → r ≡ false → (if w then (if r then made + 1 else 0) else 0) ≡ 0
then_off true true made e = absurd (cc)
then_off true false made e = refl
then_off false r made e = refl

then_look : (w r : Bool) (made : ℕ) → w ≡ false → (if w then (if r then made + 1 else 0) else 0) ≡ 0
then_look true r made e = absurd (cc)
then_look false r made e = refl

-- words that finish a run aren't 0
full_some : (p : ℕ) → finish_word (OutOfRoom p) ≢ 0
unfolding number_of
full_some p e = omega (arith, e)

broken_some : (p : ℕ) → finish_word (BrokenAt p) ≢ 0
unfolding number_of
broken_some p e = omega (arith, e)

quit_some : (p : ℕ) (why : Why) → finish_word (quit_with p why) ≢ 0
unfolding number_of
quit_some p Turns e = omega (arith, e)
quit_some p Watch e = omega (arith, e)

module _ (s : Shape) (code : CodeParts) (is : IsCode code) (c : ℕ) where
  -- it isn't done, and exchanges the finish word from 0
  abbrev pub Halts : Act → Standing → Type 0
  Halts act x = (is_done_at x ≡ false) × (w : ℕ) × (w ≢ 0) × (want_of s code c act x ≡ WantsExchange (address s FinishWord) 0 w)

  -- What an act leaves of the pace. The work turn, what the row may take then and what was made are no more than what the row might
  -- take and what is made then, unless a row begins. And where no word is installed, the work turn and what was made are made still,
  -- or the finish word is set, or a row is struck, of at most 171.
  pub record Keeps (made : ℕ) (act : Act) (x y : Standing) : Type 0 where
    pub pace : Paces s (made_then made act x y) y
    pub spends : (is_in_row x ≡ false → is_in_row y ≡ false)
        → one (is_work_turn act x) + most (made_then made act x y) y + made ≤ most made x + made_then made act x y
    pub pays : ((is_step act ≡ true) × Sets x) ⊎ (Halts act x ⊎ (one (is_work_turn act x) + made ≤ made_then made act x y + 171 * one (is_strike act x)))

  keeps_on : (made : ℕ) (act : Act) (x y : Standing) → is_work_turn act x ≡ true → keeps_row y ≡ true → Paces s (made + 1) y → most (made + 1) y ≤ most made x → Keeps made act x y
  keeps_on made act x y work on paces le =
      let e : made_then made act x y ≡ made + 1 = then_on (is_work_turn act x) (keeps_row y) made work on in
      let w : one (is_work_turn act x) ≡ 1 = ap one work in
      let m : most (made_then made act x y) y ≡ most (made + 1) y = ap (λ (n : ℕ). most n y) e in
      record {
        pace = subst (λ (n : ℕ). Paces s n y) (sym e) paces;
        spends = λ b. omega (arith, w, e, m, le);
        pays = inr (inr (omega (arith, w, e)));
      }

  keeps_off : (made : ℕ) (act : Act) (x y : Standing) → is_work_turn act x ≡ true → keeps_row y ≡ false → Paces s 0 y → most 0 y ≡ 0 → made + 1 ≤ most made x
      → ((is_step act ≡ true) × Sets x) ⊎ Halts act x → Keeps made act x y
  keeps_off made act x y work off paces none le why =
      let e : made_then made act x y ≡ 0 = then_off (is_work_turn act x) (keeps_row y) made off in
      let w : one (is_work_turn act x) ≡ 1 = ap one work in
      let m : most (made_then made act x y) y ≡ most 0 y = ap (λ (n : ℕ). most n y) e in
      record {
        pace = subst (λ (n : ℕ). Paces s n y) (sym e) paces;
        spends = λ b. omega (arith, w, e, m, none, le);
        pays = elim why [ inl sets ↦ inl sets | inr halts ↦ inr (inl halts) ];
      }

  keeps_look : (made : ℕ) (act : Act) (x y : Standing) → is_work_turn act x ≡ false → Paces s 0 y → made ≡ 0 → ((is_in_row x ≡ false → is_in_row y ≡ false) → most 0 y ≤ most made x) → Keeps made act x y
  keeps_look made act x y look paces none le =
      let e : made_then made act x y ≡ 0 = then_look (is_work_turn act x) (keeps_row y) made look in
      let w : one (is_work_turn act x) ≡ 0 = ap one look in
      let m : most (made_then made act x y) y ≡ most 0 y = ap (λ (n : ℕ). most n y) e in
      record {
        pace = subst (λ (n : ℕ). Paces s n y) (sym e) paces;
        spends = λ b. let l = le b in omega (arith, w, e, m, l, none);
        pays = inr (inr (omega (arith, w, e, none)));
      }

  pub idle_keeps : (made : ℕ) (act : Act) → made ≡ 0 → is_work_turn act IsDone ≡ false → Keeps made act IsDone IsDone
  idle_keeps made act none look = keeps_look made act IsDone IsDone look refl none (λ b. omega arith)

  -- a row goes on with so many word steps made, or has met broken words
  abbrev Goes : Seat → ℕ → Standing → Type 0
  Goes seat n y = (keeps_row y ≡ true) × Paces s n y × (most n y ≤ cost seat.restart.kind)

  within_goes : (seat : Seat) (n : ℕ) (row : Row) → n ≤ cost seat.restart.kind → n ≤ 171 → (b : Bool) → (b ≡ true → RowPaces s seat n row) → Goes seat n (within_if seat row b)
  within_goes seat n row le few true p = (refl, p refl, omega arith)
  within_goes seat n row le few false p = (refl, few, le)

  module _ (seat : Seat) (short : IsShortKind seat.restart.kind) (n left : ℕ) (e : n + left ≡ cost seat.restart.kind) where
    le : n ≤ cost seat.restart.kind
    le = omega (arith, e)

    few_made : n ≤ 171
    few_made = let few = short_few seat.restart.kind short in omega (arith, e, few)

    work_goes : (row : Row) → Leads s seat seat.restart.kind left n row → Goes seat n (stands s code seat row)
    work_goes (Now (Load x)) leads = within_goes seat n (Now (Load x)) le few_made (then_is_there s seat (Load x)) (λ there. OfWork short there left e leads)
    work_goes (Now (Install x)) leads = within_goes seat n (Now (Install x)) le few_made (then_is_there s seat (Install x)) (λ there. OfWork short there left e leads)
    work_goes (Now (Fork x)) leads = within_goes seat n (Now (Fork x)) le few_made (then_is_there s seat (Fork x)) (λ there. OfWork short there left e leads)
    work_goes (Now (Begin x f b)) leads = within_goes seat n (Now (Begin x f b)) le few_made (then_is_there s seat (Begin x f b)) (λ there. OfWork short there left e leads)
    work_goes (Now (Move x)) leads = within_goes seat n (Now (Move x)) le few_made (then_is_there s seat (Move x)) (λ there. OfWork short there left e leads)
    work_goes (Now Broken) leads = (refl, few_made, le)
    work_goes (Now (Enter x)) leads = absurd (enters_none left leads)
      where
        enters_none : (left : ℕ) → Leads s seat seat.restart.kind left n (Now (Enter x)) → ⊥
        enters_none zero leads = leads
        enters_none (suc left) leads = leads
    work_goes (Now Again) leads = absurd (begins_none left leads)
      where
        begins_none : (left : ℕ) → Leads s seat seat.restart.kind left n (Now Again) → ⊥
        begins_none zero leads = leads
        begins_none (suc left) leads = leads
    work_goes (Store cell content next) leads = within_goes seat n (Store cell content next) le few_made (row_is_there s seat (Store cell content next)) (λ there. OfWork short there left e leads)
    work_goes (Exchange cell old new next) leads = within_goes seat n (Exchange cell old new next) le few_made (row_is_there s seat (Exchange cell old new next)) (λ there. OfWork short there left e leads)

  at_least : (left : ℕ) (rest : Rest) → IsShort left rest → 1 ≤ left
  at_least zero rest short = absurd short
  at_least (suc left) rest short = omega arith

  running_goes : (seat : Seat) (f y : ℕ) → seat.restart.kind ≡ Run f y → (n left : ℕ) → n + left ≡ 172 → (rest : Rest) → IsShort left rest → Goes seat n (running s seat rest)
  running_goes seat f y ke n left e rest short = by (rest_is_there s seat rest) refl
    where
      by : (b : Bool) → rest_is_there s seat rest ≡ b → Goes seat n (running_if seat rest b)
      by true there = (refl, record { frame = f; copy = y; kind = ke; left = left; most = e; short = short; there = there }, omega arith)
      by false there = (refl, (let some = at_least left rest short in omega (arith, e, some)), (let much : cost seat.restart.kind ≡ 172 = ap cost ke in omega (arith, e, much)))

  -- a step of work that goes on, or meets broken words
  goes_keeps : (made v : ℕ) (seat : Seat) (x y : Standing) → is_work_next (next_of x) ≡ true → most made x ≡ cost seat.restart.kind → Goes seat (made + 1) y → Keeps made (Step v) x y
  goes_keeps made v seat x y work same g = keeps_on made (Step v) x y work g.0 g.1 (let le = g.2 in omega (arith, le, same))

  -- a row of work
  module _ (v found : ℕ) (seat : Seat) (short : IsShortKind seat.restart.kind) (made : ℕ) where
    abbrev X : Row → Standing
    X row = IsWithin seat row

    abbrev Y : Row → Standing
    Y row = went_row s code seat v found row

    work : is_work_next (step_of seat.restart.kind) ≡ true
    work = step_work seat.restart.kind true (short_works seat.restart.kind short)

    goes_on : (left : ℕ) → made + suc left ≡ cost seat.restart.kind → (row rest : Row) → Leads s seat seat.restart.kind left (made + 1) rest → Y row ≡ stands s code seat rest → Keeps made (Step v) (X row) (Y row)
    goes_on left e row rest leads is = subst (Keeps made (Step v) (X row)) (sym is)
        (goes_keeps made v seat (X row) (stands s code seat rest) work refl (work_goes seat short (made + 1) left (omega (arith, e)) rest leads))

    work_row : (row : Row) → row_is_there s seat row ≡ true → (left : ℕ) → made + left ≡ cost seat.restart.kind → Leads s seat seat.restart.kind left made row → Keeps made (Step v) (X row) (Y row)
    work_row (Now (Load x)) there zero e leads = absurd leads
    work_row (Now (Load x)) there (suc left) e leads = goes_on left e (Now (Load x)) (found_at s seat v x (content_of (reading_at x) found)) (leads v (content_of (reading_at x) found)) refl
    work_row (Now (Install x)) there zero e leads = absurd leads
    work_row (Now (Install x)) there (suc left) e leads = keeps_off made (Step v) (X (Now (Install x))) (Y (Now (Install x))) work refl refl refl (omega (arith, e)) (inl (refl, tt))
    work_row (Now (Fork x)) there zero e leads = absurd leads
    work_row (Now (Fork x)) there (suc left) e leads = keeps_off made (Step v) (X (Now (Fork x))) (Y (Now (Fork x))) work refl refl refl (omega (arith, e)) (inl (refl, tt))
    work_row (Now (Begin x f b)) there zero e leads = absurd leads
    work_row (Now (Begin x f b)) there (suc left) e leads = keeps_off made (Step v) (X (Now (Begin x f b))) (Y (Now (Begin x f b))) work refl refl refl (omega (arith, e)) (inl (refl, tt))
    work_row (Now (Move x)) there zero e leads = absurd leads
    work_row (Now (Move x)) there (suc left) e leads = absurd leads
    work_row (Now (Enter x)) there left e leads = absurd (cc)
    work_row (Now Again) there left e leads = absurd (cc)
    work_row (Now Broken) there left e leads = absurd (cc)
    work_row (Store cell content next) there zero e leads = absurd leads
    work_row (Store cell content next) there (suc left) e leads = goes_on left e (Store cell content next) (Now next) leads refl
    work_row (Exchange cell old new next) there zero e leads = absurd leads
    work_row (Exchange cell old new next) there (suc left) e (inr leads) = goes_on left e (Exchange cell old new next) (Now next) leads refl
    work_row (Exchange cell old new next) there (suc left) e (inl ends) =
        let is : Y (Exchange cell old new next) ≡ IsAt seat.place (Some seat.restart) = ap (stands_then s code seat) ends.3 in
        keeps_off made (Step v) (X (Exchange cell old new next)) (Y (Exchange cell old new next)) work (ap keeps_row is) (subst (Paces s 0) (sym is) refl) (ap (most 0) is) (omega (arith, e))
        (inr (refl, word_of new, ends.2, subst₂ (λ (a : Cell) (o : Content). WantsExchange (address s a) (word_of o) (word_of new) ≡ WantsExchange (address s FinishWord) 0 (word_of new)) (sym ends.0) (sym ends.1) refl))

  -- a row that is no work
  module _ (seat : Seat) (look : is_work seat.restart.kind ≡ false) where
    abbrev Rests : Standing → Type 0
    Rests y = Paces s 0 y × (most 0 y ≤ cost seat.restart.kind)

    within_rests : (row : Row) (b : Bool) → Rests (within_if seat row b)
    within_rests row true = (OfLook look refl, omega arith)
    within_rests row false = (omega arith, omega arith)

    enters_rests : (k : RestartKind) → is_work k ≡ false → (o : Option Capsule) → Rests (enters s code seat k o)
    enters_rests (Run f y) e o = absurd (cc)
    enters_rests (Bump r) e o = absurd (cc)
    enters_rests (Push1 r) e o = absurd (cc)
    enters_rests (Push2 r) e o = absurd (cc)
    enters_rests (Unwind f) e o = absurd (cc)
    enters_rests (Arrive r d) e o = absurd (cc)
    enters_rests (Join r d) e o = absurd (cc)
    enters_rests Pop1 e o = absurd (cc)
    enters_rests (Pop2 r) e o = absurd (cc)
    enters_rests Seek e o = (omega arith, omega arith)
    enters_rests (Steal v i) e o = (omega arith, omega arith)
    enters_rests (Check v i) e o = (omega arith, omega arith)
    enters_rests (Take v d) e o = (omega arith, omega arith)
    enters_rests (Take2 v) e o = (omega arith, omega arith)

    then_rests : (next : Then) → Rests (stands_then s code seat next)
    then_rests (Load x) = within_rests (Now (Load x)) (then_is_there s seat (Load x))
    then_rests (Install x) = within_rests (Now (Install x)) (then_is_there s seat (Install x))
    then_rests (Fork x) = within_rests (Now (Fork x)) (then_is_there s seat (Fork x))
    then_rests (Begin x f b) = within_rests (Now (Begin x f b)) (then_is_there s seat (Begin x f b))
    then_rests (Move x) = within_rests (Now (Move x)) (then_is_there s seat (Move x))
    then_rests (Enter x) = enters_rests seat.restart.kind look (slice_get code.capsules x)
    then_rests Again = (refl, omega arith)
    then_rests Broken = (omega arith, omega arith)

    stands_rests : (row : Row) → Rests (stands s code seat row)
    stands_rests (Now next) = then_rests next
    stands_rests (Store cell content next) = within_rests (Store cell content next) (row_is_there s seat (Store cell content next))
    stands_rests (Exchange cell old new next) = within_rests (Exchange cell old new next) (row_is_there s seat (Exchange cell old new next))

    row_rests : (v found : ℕ) (row : Row) → Rests (went_row s code seat v found row)
    row_rests v found (Now (Load x)) = stands_rests (found_at s seat v x (content_of (reading_at x) found))
    row_rests v found (Now (Install x)) = (refl, omega arith)
    row_rests v found (Now (Fork x)) = (refl, omega arith)
    row_rests v found (Now (Begin x f b)) = (refl, omega arith)
    row_rests v found (Now (Move x)) = (refl, omega arith)
    row_rests v found (Now (Enter x)) = then_rests (Enter x)
    row_rests v found (Now Again) = then_rests Again
    row_rests v found (Now Broken) = then_rests Broken
    row_rests v found (Store cell content next) = then_rests next
    row_rests v found (Exchange cell old new next) = then_rests next

  -- the row of a frame enters its capsule
  enters_goes : (seat : Seat) (f y : ℕ) → seat.restart.kind ≡ Run f y → (o : Option Capsule) → ((one : Capsule) → o ≡ Some one → length one.instrs ≤ 160) → Goes seat 1 (enters s code seat (Run f y) o)
  enters_goes seat f y ke None short = (refl, omega arith, (let much : cost seat.restart.kind ≡ 172 = ap cost ke in omega (arith, much)))
  enters_goes seat f y ke (Some one) short = running_goes seat f y ke 1 171 refl _
      (capsules_are_short s code seat.place (record { frame = f; copy = y; block = 0 }) s.arrays one.instrs (short one refl))

  short_at : (x : ℕ) (one : Capsule) → slice_get code.capsules x ≡ Some one → length one.instrs ≤ 160
  short_at x one e = (all_at (λ (z : Capsule). IsCapsule code z) code.capsules x one is.capsules e).most

  frame_keeps : (v found made : ℕ) (seat : Seat) (f y : ℕ) → seat.restart.kind ≡ Run f y → made ≡ 0 → (row : Row) → row ≡ Now (Load (Header f y)) → Keeps made (Step v) (IsWithin seat row) (went_row s code seat v found row)
  frame_keeps v found made seat f y ke none row e = subst (λ (r : Row). Keeps made (Step v) (IsWithin seat r) (went_row s code seat v found r)) (sym e)
      (let goes : Goes seat 1 (enters s code seat seat.restart.kind (slice_get code.capsules found)) =
      subst (λ (k : RestartKind). Goes seat 1 (enters s code seat k (slice_get code.capsules found))) (sym ke) (enters_goes seat f y ke (slice_get code.capsules found) (short_at found)) in
      goes_keeps made v seat (IsWithin seat (Now (Load (Header f y)))) _ (step_work seat.restart.kind true (ap is_work ke)) refl
      (subst (λ (n : ℕ). Goes seat n (enters s code seat seat.restart.kind (slice_get code.capsules found))) {x = 1} (omega (arith, none)) goes))

  -- a capsule under way
  rest_keeps : (v found made : ℕ) (seat : Seat) (rest : Rest) → CapsulePaces s seat made rest → Keeps made (Step v) (IsRunning seat rest) (went_rest s seat found rest)
  rest_keeps v found made seat rest p = by rest p.left p.most p.short p.there
    where
      much : cost seat.restart.kind ≡ 172
      much = ap cost p.kind

      goes_on : (rest next : Rest) (left : ℕ) → made + suc left ≡ 172 → IsShort left next → went_rest s seat found rest ≡ running s seat next → Keeps made (Step v) (IsRunning seat rest) (went_rest s seat found rest)
      goes_on rest next left e short is = subst (Keeps made (Step v) (IsRunning seat rest)) (sym is)
          (goes_keeps made v seat (IsRunning seat rest) (running s seat next) refl refl (running_goes seat p.frame p.copy p.kind (made + 1) left (omega (arith, e)) next short))

      by : (rest : Rest) (left : ℕ) → made + left ≡ 172 → IsShort left rest → rest_is_there s seat rest ≡ true → Keeps made (Step v) (IsRunning seat rest) (went_rest s seat found rest)
      by rest zero e short there = absurd short
      by (Loads cell go) (suc left) e short there = goes_on (Loads cell go) (go found) left e (short found) refl
      by (Stores cell content next) (suc left) e short there = goes_on (Stores cell content next) next left e short refl
      by Full (suc left) e short there = keeps_off made (Step v) (IsRunning seat Full) _ refl refl refl refl (omega (arith, e, much)) (inr (refl, finish_word (OutOfRoom seat.place), full_some seat.place, refl))
      by (Installs kind) (suc left) e short there = keeps_off made (Step v) (IsRunning seat (Installs kind)) _ refl refl refl refl (omega (arith, e, much)) (inl (refl, tt))
      by Breaks (suc left) e short there = absurd (cc)

  -- a row begins
  seat_begins : (seat : Seat) → Paces s 0 (stands s code seat (row_of s seat seat.restart.kind))
  seat_begins seat = elim (kinds_are seat.restart.kind) [
    | inl run ↦ subst (λ (r : Row). Paces s 0 (stands s code seat r)) (sym (ap (row_of s seat) run.2)) (header run.0 run.1 run.2 (then_is_there s seat (Load (Header run.0 run.1))))
    | inr more ↦ elim more [
      | inl short ↦ (work_goes seat short 0 (cost seat.restart.kind) (omega arith) (row_of s seat seat.restart.kind) (rows_are_paid s seat seat.restart.kind short)).1
      | inr look ↦ (stands_rests seat look (row_of s seat seat.restart.kind)).0
    ]
  ]
    where
      header : (f y : ℕ) → seat.restart.kind ≡ Run f y → (b : Bool) → Paces s 0 (within_if seat (Now (Load (Header f y))) b)
      header f y ke true = OfFrame f y ke refl refl
      header f y ke false = omega arith

  begins_pace : (own place : ℕ) (restart : Option Restart) → Paces s 0 (begins s code own place restart)
  begins_pace own place None = omega arith
  begins_pace own place (Some restart) = by (restart_is_there s restart)
    where
      by : (b : Bool) → Paces s 0 (begins_if s code (record { own = own; place = place; restart = restart }) b)
      by true = seat_begins (record { own = own; place = place; restart = restart })
      by false = omega arith

  -- where no row begins, none may be made
  none_most : (y : Standing) → is_in_row y ≡ false → most 0 y ≡ 0
  none_most (IsWithin seat row) e = absurd (cc)
  none_most (IsRunning seat rest) e = absurd (cc)
  none_most _ e = refl

  -- a step
  pub step_keeps : (v found made : ℕ) (x : Standing) → Paces s made x → Keeps made (Step v) x (went s code c v found x)
  step_keeps v found made IsLost none = keeps_look made (Step v) IsLost (placed s found) refl (by (nat_lt found s.processors)).0 none (λ b. (by (nat_lt found s.processors)).1)
    where
      by : (b : Bool) → Paces s 0 (if b then IsPlaced found else IsBroken unknown_place) × (most 0 (if b then IsPlaced found else IsBroken unknown_place) ≤ 0)
      by true = (refl, omega arith)
      by false = (omega arith, omega arith)
  step_keeps v found made (IsPlaced place) none = keeps_look made (Step v) (IsPlaced place) _ refl refl none (λ b. omega arith)
  step_keeps v (suc found) made (IsAt place restart) none = keeps_look made (Step v) (IsAt place restart) _ (before_none restart) refl none (λ b. omega arith)
  step_keeps v zero made (IsAt place restart) none = keeps_look made (Step v) (IsAt place restart) _ (before_none restart) (begins_pace c place restart) none
      (λ b. let e = none_most (begins s code c place restart) (b refl) in omega (arith, e))
  step_keeps v found made (IsWithin seat row) (OfFrame f y ke e none) = frame_keeps v found made seat f y ke none row e
  step_keeps v found made (IsWithin seat row) (OfWork short there left e leads) = work_row v found seat short made row there left e leads
  step_keeps v found made (IsWithin seat row) (OfLook look none) = let r = row_rests seat look v found row in
      keeps_look made (Step v) (IsWithin seat row) _ (step_work seat.restart.kind false look) r.0 none (λ b. r.1)
  step_keeps v found made (IsRunning seat rest) p = rest_keeps v found made seat rest p
  step_keeps v found made (IsBroken place) few = record {
    pace = refl;
    spends = λ b. omega arith;
    pays = inr (inl (refl, finish_word (BrokenAt place), broken_some place, refl));
  }
  step_keeps v found made IsDone none = keeps_look made (Step v) IsDone _ refl refl none (λ b. omega arith)

  -- what has been made of a row under way, or after broken words
  abbrev Struck : ℕ → Standing → Type 0
  Struck made x = made ≤ 171 * one (is_work_next (next_of x) || is_broken_at x)

  pub made_few : (made : ℕ) (x : Standing) → Paces s made x → (made ≤ most made x) × Struck made x
  made_few made (IsWithin seat row) (OfFrame f y ke e none) = (omega (arith, none), omega (arith, none))
  made_few made (IsWithin seat row) (OfWork short there left e leads) = (
    omega (arith, e),
    (let few = short_few seat.restart.kind short in
        let w : one (is_work_next (step_of seat.restart.kind) || false) ≡ 1 = ap (λ (b : Bool). one (b || false)) (step_work seat.restart.kind true (short_works seat.restart.kind short)) in omega (arith, e, few, w)),
  )
  made_few made (IsWithin seat row) (OfLook look none) = (omega (arith, none), omega (arith, none))
  made_few made (IsRunning seat rest) p = (
    (let e = p.most in let much : cost seat.restart.kind ≡ 172 = ap cost p.kind in omega (arith, e, much)),
    (let some = at_least p.left rest p.short in let e = p.most in omega (arith, e, some)),
  )
  made_few made (IsBroken p) few = (omega arith, omega (arith, few))
  made_few made IsLost none = (omega (arith, none), omega (arith, none))
  made_few made (IsPlaced p) none = (omega (arith, none), omega (arith, none))
  made_few made (IsAt p r) none = (omega (arith, none), omega (arith, none))
  made_few made IsDone none = (omega (arith, none), omega (arith, none))

  -- an act that is no step leaves the row
  leaves_keeps : (made : ℕ) (act : Act) (x y : Standing) → is_step act ≡ false → is_in_row y ≡ false → Paces s 0 y → Paces s made x
      → Halts act x ⊎ (is_strike act x ≡ (is_work_next (next_of x) || is_broken_at x)) → Keeps made act x y
  leaves_keeps made act x y still off paces p why =
      let look : is_work_turn act x ≡ false = ap (λ (b : Bool). b && is_work_next (next_of x)) still in
      let e : made_then made act x y ≡ 0 = then_look (is_work_turn act x) (keeps_row y) made look in
      let w : one (is_work_turn act x) ≡ 0 = ap one look in
      let m : most (made_then made act x y) y ≡ most 0 y = ap (λ (n : ℕ). most n y) e in
      let none = none_most y off in
      let few = made_few made x p in
      let le = few.0 in
      record {
        pace = subst (λ (n : ℕ). Paces s n y) (sym e) paces;
        spends = λ b. omega (arith, w, e, m, none, le);
        pays = elim why [
          | inl halts ↦ inr (inl halts)
          | inr strike ↦ inr (inr (let z = ap one strike in let most_ = few.1 in omega (arith, w, e, z, most_)))
        ];
      }

  pub soft_keeps : (made : ℕ) (x : Standing) → Paces s made x → Keeps made Soft x IsLost
  soft_keeps made x p = leaves_keeps made Soft x IsLost refl refl refl p (inr refl)

  pub hard_keeps : (made : ℕ) (x : Standing) → Paces s made x → Keeps made Hard x IsDone
  hard_keeps made x p = leaves_keeps made Hard x IsDone refl refl refl p (inr refl)

  pub quit_keeps : (made : ℕ) (why : Why) (x : Standing) → is_done_at x ≡ false → Paces s made x → Keeps made (Quit why) x IsLost
  quit_keeps made why x live p = leaves_keeps made (Quit why) x IsLost refl refl refl p (inl (live, finish_word (quit_with c why), quit_some c why, refl))

-- an install at the end of a row, where nothing has to be set aside for what a row without work installs
module _ (s : Shape) (seat : Seat) (made : ℕ) where
  abbrev PaidFor : RestartKind → Type 0
  PaidFor l = one (is_work_next (step_of seat.restart.kind)) + made + due l ≤ due seat.restart.kind + weight seat.restart.kind l

  work_paid : (l : RestartKind) → IsShortKind seat.restart.kind → IsPaid seat.restart.kind l (made + 1) → PaidFor l
  work_paid l short paid = let w : one (is_work_next (step_of seat.restart.kind)) ≡ 1 = ap one (step_work seat.restart.kind true (short_works seat.restart.kind short)) in omega (arith, w, paid)

  look_paid : (l : RestartKind) → is_work seat.restart.kind ≡ false → made ≡ 0 → due l ≡ 0 → PaidFor l
  look_paid l look none free = let w : one (is_work_next (step_of seat.restart.kind)) ≡ 0 = ap one (step_work seat.restart.kind false look) in omega (arith, w, none, free)

  pub install_paid : (r : Restart) → RowPaces s seat made (Now (Install r)) → (is_work seat.restart.kind ≡ false → due r.kind ≡ 0) → PaidFor r.kind
  install_paid r (OfFrame f y ke e none) free = absurd (cc)
  install_paid r (OfWork short there zero e leads) free = absurd leads
  install_paid r (OfWork short there (suc left) e leads) free = work_paid r.kind short leads
  install_paid r (OfLook look none) free = look_paid r.kind look none (free look)

  pub fork_paid : (r : ℕ) → RowPaces s seat made (Now (Fork r)) → (is_work seat.restart.kind ≡ false → ⊥) → PaidFor (Push1 r)
  fork_paid r (OfFrame f y ke e none) free = absurd (cc)
  fork_paid r (OfWork short there zero e leads) free = absurd leads
  fork_paid r (OfWork short there (suc left) e leads) free = work_paid (Push1 r) short leads
  fork_paid r (OfLook look none) free = absurd (free look)

  pub begin_paid : (r f b : ℕ) → RowPaces s seat made (Now (Begin r f b)) → PaidFor (Run f 0)
  begin_paid r f b (OfFrame g y ke e none) = absurd (cc)
  begin_paid r f b (OfWork short there zero e leads) = absurd leads
  begin_paid r f b (OfWork short there (suc left) e leads) = work_paid (Run f 0) short leads
  begin_paid r f b (OfLook look none) = look_paid (Run f 0) look none refl

  pub capsule_paid : (l : RestartKind) → CapsulePaces s seat made (Installs l) → 1 + made + due l ≤ 182
  capsule_paid l p = by p.left p.most p.short
    where
      by : (left : ℕ) → made + left ≡ 172 → IsShort left (Installs l) → 1 + made + due l ≤ 182
      by zero e short = absurd short
      by (suc left) e short = omega (arith, e, short)
