-- The rows of a place that has won a job. One that steals goes on to Check. One that checks finds its job taken in its own name, and begins it.
use Rattle.std.proofs.Common.{◌≡◌, ◌⊎◌, ◌+◌, ◌==◌, ℕ, Bool, true, false, if◌then◌else◌, List, [], ◌∷◌, inl, inr, refl, sym, ap, ◌∙◌, subst}
use Rattle.std.specs.Prelude.{nat_lt, ◌^◌}
use Rattle.std.proofs.lemmas.Bool.{eq-eqb, and_from}
use Rattle.ppm_cells.specs.Cells.{word_count}
use Rattle.ppm_cells.specs.declared.cell.Cell.TheVariants.{EntryWord}
use Rattle.ppm_cells.specs.declared.entry.Entry.{Entry}
use Rattle.ppm_cells.specs.declared.entry.Entry.TheVariants as entries
use Rattle.ppm_cells.specs.declared.link.LinkKind.{LinkKind}
use Rattle.ppm_cells.specs.declared.link.LinkKind.TheVariants as links
use Rattle.ppm_cells.specs.declared.restart.Restart.{Restart}
use Rattle.ppm_cells.specs.declared.restart.RestartKind.{RestartKind}
use Rattle.ppm_cells.specs.declared.restart.RestartKind.TheVariants.{Run, Bump, Push1, Push2, Unwind, Arrive, Join, Pop1, Pop2, Seek, Steal, Check, Take, Take2}
use Rattle.ppm_cells.specs.declared.shape.Shape.{Shape}
use Rattle.ppm_cells.specs.declared.shape.Takeover.{Takeover}
use Rattle.ppm_cells.specs.declared.shape.Takeover.TheVariants.{ByPlaces, ByEntries}
use Rattle.ppm_step.specs.Rows.{with_kind, raised, changed, taken_so, took, can_be_taken, goes_on_with, at_bottom, above_bottom, below_bottom, by_slot, closed_link}
use Rattle.ppm_step.specs.Rows.{closed_bottom, found_at, row_of}
use Rattle.ppm_step.specs.There.{restart_is_there}
use Rattle.ppm_step.specs.declared.content.Content.{Content}
use Rattle.ppm_step.specs.declared.content.Content.TheVariants.{ANumber, ARestart, AnEntry, ALink}
use Rattle.ppm_step.specs.declared.row.Point.{Point}
use Rattle.ppm_step.specs.declared.row.Point.TheVariants.{Offset, StealMessage, TakenMessage, TakenEntry, ClosedRestart, ClosedLink, ClosedBottom}
use Rattle.ppm_step.specs.declared.row.Row.{Row}
use Rattle.ppm_step.specs.declared.row.Row.TheVariants.{Now, Store, Exchange}
use Rattle.ppm_step.specs.declared.row.Seat.{Seat}
use Rattle.ppm_step.specs.declared.row.Then.{Then}
use Rattle.ppm_step.specs.declared.row.Then.TheVariants.{Load, Install, Fork, Begin, Move, Enter, Again, Broken}
use Rattle.ppm_tickets.specs.Lawful.{May}
use Rattle.ppm_tickets.specs.Saw.{rest_of, Knows, Saw, IsStrand, HasSeen, Strand, Looks}
use Rattle.ppm_tickets.specs.View.{content_by}
use Rattle.ppm_tickets.specs.Words.{Word, Empty, Local, Job, Taken, Held as HeldBy, Number, Linked, Restarts, Unread, Spot, Message, Slot}

-- a row of Steal
abbrev pub StealSo : Seat → (v i : ℕ) → Row → Type 0
StealSo seat v i (Now (Load point)) = point ≡ StealMessage v i
StealSo seat v i (Exchange c old new next) = next ≡ with_kind seat (Check v i)
StealSo seat v i (Now (Install re)) = re ≡ record { kind = Check v i; bottom = seat.restart.bottom }
StealSo seat v i (Now Broken) = Unit {0}
StealSo seat v i _ = ⊥

-- after its load
abbrev pub Stole : Seat → (v i : ℕ) → Row → Type 0
Stole seat v i (Exchange c old new next) = next ≡ with_kind seat (Check v i)
Stole seat v i (Now Broken) = Unit {0}
Stole seat v i _ = ⊥

module _ (s : Shape) (seat : Seat) (v i u : ℕ) where
  raised_so : (old new : Entry) (y : Bool) → Stole seat v i (raised (EntryWord v i) old new (with_kind seat (Check v i)) y)
  raised_so old new true = refl
  raised_so old new false = tt

  entry_so : (how : Takeover) (e : Entry) → Stole seat v i (changed (EntryWord v i) e (taken_so how seat.place e) (with_kind seat (Check v i)))
  entry_so ByPlaces (entries.Job t x) = raised_so (entries.Job t x) _ (nat_lt (t + 1) (2 ^ 34))
  entry_so ByPlaces (entries.Local t x) = tt
  entry_so ByPlaces (entries.Empty t) = tt
  entry_so ByPlaces (entries.Taken t x) = tt
  entry_so ByEntries (entries.Job t x) = raised_so (entries.Job t x) _ (nat_lt (t + 1) (2 ^ 34))
  entry_so ByEntries (entries.Local t x) = raised_so (entries.Local t x) _ (nat_lt (t + 1) (2 ^ 34))
  entry_so ByEntries (entries.Empty t) = tt
  entry_so ByEntries (entries.Taken t x) = tt

  pub stole : (w : Content) → Stole seat v i (found_at s seat u (StealMessage v i) w)
  stole (AnEntry e) = entry_so s.takeover e
  stole _ = tt

  rest_stole : (row : Row) → Stole seat v i row → (ws : List Word) → StealSo seat v i (rest_of s seat u row ws)
  rest_stole (Exchange c old new next) e [] = e
  rest_stole (Exchange c old new next) e (w ∷ []) = subst (λ (x : Then). StealSo seat v i (Now x)) (sym e) refl
  rest_stole (Exchange c old new next) e (w ∷ z ∷ ws) = subst (λ (x : Then). StealSo seat v i (rest_of s seat u (Now x) (z ∷ ws))) (sym e) tt
  rest_stole (Now Broken) e [] = tt
  rest_stole (Now Broken) e (w ∷ ws) = tt
  rest_stole _ e ws = absurd e

  steal_so : (ws : List Word) → StealSo seat v i (rest_of s seat u (Now (Load (StealMessage v i))) ws)
  steal_so [] = refl
  steal_so (w ∷ ws) = rest_stole (found_at s seat u (StealMessage v i) (content_by w)) (stole (content_by w)) ws

pub steal_row : (s : Shape) (m : Spot → Word) (seat : Seat) (row : Row) (v i : ℕ) → seat.restart.kind ≡ Steal v i → HasSeen s m seat row → StealSo seat v i row
steal_row s m seat row v i kind (Strand is quiet) = absurd (subst IsStrand kind is)
steal_row s m seat row v i kind (Looks u ws fit is saw) =
    subst (StealSo seat v i) is (subst (λ (k : RestartKind). StealSo seat v i (rest_of s seat u (row_of s seat k) ws)) (sym kind) (steal_so s seat v i u ws))

-- a row of Check
abbrev pub IsOffset : Point → Type 0
IsOffset (Offset x b) = Unit {0}
IsOffset _ = ⊥

abbrev pub CheckSo : Seat → (v i t r : ℕ) → Row → Type 0
CheckSo seat v i t r (Now (Load point)) =
    (point ≡ TakenMessage seat.place v i) ⊎ ((point ≡ TakenEntry seat.place v i (entries.Job t r)) ⊎ IsOffset point)
CheckSo seat v i t r (Now (Begin x f b)) = Unit {0}
CheckSo seat v i t r (Now Broken) = Unit {0}
CheckSo seat v i t r _ = ⊥

-- it is taken in the place's name
pub took_own : (p t r : ℕ) → took p (entries.Job t r) (entries.Taken (t + 1) p) ≡ true
took_own p t r = and_from ((t + 1) == (t + 1)) (p == p) (eq-eqb (t + 1) (t + 1) refl) (eq-eqb p p refl)

-- the rows of Check, with either takeover, load and store nothing
abbrev Checks : Row → Type 0
Checks (Now (Load (TakenMessage by v i))) = Unit {0}
Checks (Now (Load (TakenEntry by v i e))) = Unit {0}
Checks (Now (Load (ClosedRestart v i x))) = Unit {0}
Checks (Now (Load (ClosedLink x))) = Unit {0}
Checks (Now (Load (ClosedBottom v i x))) = Unit {0}
Checks (Now (Load (Offset x b))) = Unit {0}
Checks (Now (Load point)) = ⊥
Checks (Now next) = Unit {0}
Checks row = ⊥

-- each load of one goes on so
module _ (s : Shape) (seat : Seat) (u : ℕ) where
  either : (b : Bool) (row other : Row) → Checks row → Checks other → Checks (if b then row else other)
  either true row other one two = one
  either false row other one two = two

  goes_on : (v i : ℕ) (e : Entry) → Checks (goes_on_with seat v i e)
  goes_on v i (entries.Job t x) = tt
  goes_on v i (entries.Local t x) = tt
  goes_on v i (entries.Empty t) = tt
  goes_on v i (entries.Taken t x) = tt

  at_bottom_so : (v : ℕ) (k : RestartKind) → Checks (at_bottom seat v k)
  at_bottom_so v (Run f y) = tt
  at_bottom_so v (Bump r) = tt
  at_bottom_so v (Push1 r) = tt
  at_bottom_so v (Push2 r) = tt
  at_bottom_so v (Unwind f) = tt
  at_bottom_so v (Arrive r d) = tt
  at_bottom_so v (Join r d) = tt
  at_bottom_so v Pop1 = tt
  at_bottom_so v (Pop2 r) = tt
  at_bottom_so v Seek = tt
  at_bottom_so v (Steal w i) = tt
  at_bottom_so v (Check w i) = tt
  at_bottom_so v (Take w d) = tt
  at_bottom_so v (Take2 w) = tt

  above_so : (v b : ℕ) (k : RestartKind) → Checks (above_bottom seat v b k)
  above_so v b (Push2 r) = tt
  above_so v b _ = tt

  below_so : (x : ℕ) (k : RestartKind) → Checks (below_bottom seat x k)
  below_so x Pop1 = tt
  below_so x (Pop2 r) = tt
  below_so x _ = tt

  by_slot_so : (v i x : ℕ) (re : Restart) → Checks (by_slot seat v i x re)
  by_slot_so v i x re =
      either (i == re.bottom) _ _ (at_bottom_so v re.kind)
      (either (i == re.bottom + 1) _ _ (above_so v re.bottom re.kind) (either (i + 1 == re.bottom) _ _ (below_so x re.kind) tt))

  closed_link_so : (x : ℕ) (k : LinkKind) → Checks (closed_link seat x k)
  closed_link_so x (links.Call f y) = tt
  closed_link_so x (links.Fork f y) = tt
  closed_link_so x _ = tt

  closed_bottom_so : (x : ℕ) (e : Entry) → Checks (closed_bottom seat x e)
  closed_bottom_so x (entries.Taken t y) = either (nat_lt y 64) _ _ tt tt
  closed_bottom_so x (entries.Job t y) = tt
  closed_bottom_so x (entries.Local t y) = tt
  closed_bottom_so x (entries.Empty t) = tt

  checks_on : (point : Point) → Checks (Now (Load point)) → (w : Content) → Checks (found_at s seat u point w)
  checks_on (TakenMessage by v i) is (AnEntry e) = either (can_be_taken s.takeover e) _ _ tt tt
  checks_on (TakenMessage by v i) is _ = tt
  checks_on (TakenEntry by v i e) is (AnEntry now) = either (took by e now) _ _ (goes_on v i e) tt
  checks_on (TakenEntry by v i e) is _ = tt
  checks_on (ClosedRestart v i x) is (ARestart re) = either (restart_is_there s re) _ _ (by_slot_so v i x re) tt
  checks_on (ClosedRestart v i x) is _ = tt
  checks_on (ClosedLink x) is (ALink l) = closed_link_so x l.kind
  checks_on (ClosedLink x) is _ = tt
  checks_on (ClosedBottom v i x) is (AnEntry e) = closed_bottom_so x e
  checks_on (ClosedBottom v i x) is _ = tt
  checks_on (Offset x b) is (ANumber n) = either (nat_lt (x + n) (word_count s)) _ _ tt tt
  checks_on (Offset x b) is _ = tt
  checks_on point is w = absurd is

  -- what was seen before the loads of such a row was seen
  before_checks : (m : Spot → Word) (before : Type 0) (row : Row) (ws : List Word) → Checks row → Saw s seat u m before row ws → before
  before_checks m before row [] is saw = saw
  before_checks m before (Now (Load point)) (w ∷ ws) is saw =
      (before_checks m (before × Knows s.takeover seat u m point w) (found_at s seat u point (content_by w)) ws (checks_on point is (content_by w)) saw).0
  before_checks m before (Now (Install x)) (w ∷ ws) is saw = absurd saw
  before_checks m before (Now (Fork x)) (w ∷ ws) is saw = absurd saw
  before_checks m before (Now (Begin x y z)) (w ∷ ws) is saw = absurd saw
  before_checks m before (Now (Move x)) (w ∷ ws) is saw = absurd saw
  before_checks m before (Now (Enter x)) (w ∷ ws) is saw = absurd saw
  before_checks m before (Now Again) (w ∷ ws) is saw = absurd saw
  before_checks m before (Now Broken) (w ∷ ws) is saw = absurd saw
  before_checks m before (Store c x next) (w ∷ ws) is saw = absurd is
  before_checks m before (Exchange c old new next) (w ∷ ws) is saw = absurd is

module _ (base : Shape) (seat : Seat) (v i u t r : ℕ) (m : Spot → Word) (message : m (Message seat.place) ≡ Job t r)
    (entry : m (Slot v i) ≡ Taken (t + 1) seat.place) where
  abbrev by_how : Takeover → Shape
  by_how how = record base { takeover = how }

  abbrev So : Takeover → Row → List Word → Type 0
  So how row ws = CheckSo seat v i t r (rest_of (by_how how) seat u row ws)

  abbrev c : ℕ
  c = seat.place

  broken_so : (how : Takeover) (ws : List Word) → So how (Now Broken) ws
  broken_so how [] = tt
  broken_so how (w ∷ ws) = tt

  offset_so : (how : Takeover) (x b : ℕ) (ws : List Word) → So how (Now (Load (Offset x b))) ws
  offset_so how x b [] = inr (inr tt)
  offset_so how x b (Number n ∷ ws) = by (nat_lt (x + n) (word_count (by_how how))) ws
    where
      by : (y : Bool) (ws : List Word) → So how (if y then Now (Begin x (x + n) b) else Now Broken) ws
      by true [] = tt
      by true (w ∷ ws) = tt
      by false ws = broken_so how ws
  offset_so how x b (Empty n ∷ ws) = broken_so how ws
  offset_so how x b (Local n y ∷ ws) = broken_so how ws
  offset_so how x b (Job n y ∷ ws) = broken_so how ws
  offset_so how x b (Taken n y ∷ ws) = broken_so how ws
  offset_so how x b (HeldBy n y ∷ ws) = broken_so how ws
  offset_so how x b (Linked n ∷ ws) = broken_so how ws
  offset_so how x b (Restarts n y ∷ ws) = broken_so how ws
  offset_so how x b (Unread ∷ ws) = broken_so how ws

  -- after the load of the entry
  abbrev Next : Takeover → Word → List Word → Type 0
  Next how w ws = So how (found_at (by_how how) seat u (TakenEntry c v i (entries.Job t r)) (content_by w)) ws

  -- the entry that was found last is taken in its name
  found_own : (how : Takeover) → Next how (Taken (t + 1) c) []
  found_own how = by (took c (entries.Job t r) (entries.Taken (t + 1) c)) (took_own c t r)
    where
      by : (y : Bool) → y ≡ true → So how (if y then goes_on_with seat v i (entries.Job t r) else Now (with_kind seat Seek)) []
      by true e = inr (inr tt)
      by false e = absurd (cc)

  no_other : (w : Word) → ((x y : ℕ) → w ≡ Taken x y → ⊥) → May seat.own c (Slot v i) w (m (Slot v i)) → ⊥
  no_other w none (inl same) = none (t + 1) c (same ∙ entry)
  no_other w none (inr moved) = moved.other (t + 1) entry

  last_so : (how : Takeover) (w : Word) → May seat.own c (Slot v i) w (m (Slot v i)) → Next how w []
  last_so how (Taken x y) (inl same) = subst (λ (w : Word). Next how w []) (sym (same ∙ entry)) (found_own how)
  last_so how (Taken x y) (inr moved) = absurd (moved.free tt)
  last_so how (Empty x) may = absurd (no_other (Empty x) (λ a b e. cc) may)
  last_so how (Local x y) may = absurd (no_other (Local x y) (λ a b e. cc) may)
  last_so how (Job x y) may = absurd (no_other (Job x y) (λ a b e. cc) may)
  last_so how (Number n) may = tt
  last_so how (HeldBy n y) may = tt
  last_so how (Linked n) may = tt
  last_so how (Restarts n y) may = tt
  last_so how Unread may = tt

  -- more was seen after it
  more_so : (how : Takeover) (w z : Word) (ws : List Word) → Next how w (z ∷ ws)
  more_so how (Taken a b) z ws = by (took c (entries.Job t r) (entries.Taken a b))
    where
      by : (y : Bool) → So how (if y then goes_on_with seat v i (entries.Job t r) else Now (with_kind seat Seek)) (z ∷ ws)
      by true = offset_so how r seat.restart.bottom (z ∷ ws)
      by false = tt
  more_so how (Empty a) z ws = tt
  more_so how (Local a b) z ws = tt
  more_so how (Job a b) z ws = tt
  more_so how (Number n) z ws = tt
  more_so how (HeldBy n y) z ws = tt
  more_so how (Linked n) z ws = tt
  more_so how (Restarts n y) z ws = tt
  more_so how Unread z ws = tt

  abbrev SawSo : Takeover → List Word → Type 0
  SawSo how ws = Saw (by_how how) seat u m (Unit {0}) (Now (Load (TakenMessage c v i))) ws

  -- the message that was loaded stands
  stands_there : (how : Takeover) (w : Word) → Knows how seat u m (TakenMessage c v i) w → w ≡ Job t r
  stands_there ByPlaces w may = may refl ∙ message
  stands_there ByEntries w knows = knows.1 ∙ message

  -- after it
  job_so : (how : Takeover) (ws : List Word) → SawSo how (Job t r ∷ ws) → So how (Now (Load (TakenMessage c v i))) (Job t r ∷ ws)
  job_so ByPlaces [] saw = inr (inl refl)
  job_so ByPlaces (w ∷ []) saw = last_so ByPlaces w saw.1
  job_so ByPlaces (w ∷ z ∷ ws) saw = more_so ByPlaces w z ws
  job_so ByEntries [] saw = inr (inl refl)
  job_so ByEntries (w ∷ []) saw = last_so ByEntries w saw.1
  job_so ByEntries (w ∷ z ∷ ws) saw = more_so ByEntries w z ws

  check_so : (how : Takeover) (ws : List Word) → SawSo how ws → So how (Now (Load (TakenMessage c v i))) ws
  check_so how [] saw = inl refl
  check_so how (w ∷ ws) saw =
      let checks = checks_on (by_how how) seat u (TakenMessage c v i) tt (content_by w) in
      let knows = (before_checks (by_how how) seat u m (Unit {0} × Knows how seat u m (TakenMessage c v i) w) _ ws checks saw).1 in
      (subst (λ (z : Word). SawSo how (z ∷ ws) → So how (Now (Load (TakenMessage c v i))) (z ∷ ws)) (sym (stands_there how w knows)) (job_so how ws)) saw

pub check_row : (s : Shape) (m : Spot → Word) (seat : Seat) (row : Row) (v i t r : ℕ) → m (Message seat.place) ≡ Job t r
    → m (Slot v i) ≡ Taken (t + 1) seat.place → seat.restart.kind ≡ Check v i → HasSeen s m seat row → CheckSo seat v i t r row
check_row s m seat row v i t r message entry kind (Strand is quiet) = absurd (subst IsStrand kind is)
check_row s m seat row v i t r message entry kind (Looks u ws fit is saw) =
    subst (CheckSo seat v i t r) (ap (λ (k : RestartKind). rest_of s seat u (row_of s seat k) ws) (sym kind) ∙ is)
    (check_so s seat v i u t r m message entry s.takeover ws (subst (λ (k : RestartKind). Saw s seat u m (Unit {0}) (row_of s seat k) ws) kind saw))
