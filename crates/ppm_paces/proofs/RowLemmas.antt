-- Each row of work, by what it may find.
use Rattle.std.proofs.Common.{◌≢◌, ◌≤◌, ℕ, zero, suc, ◌+◌, ◌==◌, ◌^◌, nat_lt, if◌then◌else◌, Bool, true, false, Option, Some, None, inl, inr, refl, arith}
use Rattle.ppm_cells.specs.Cells.{word_count}
use Rattle.ppm_cells.specs.Fields.{number_of}
use Rattle.ppm_cells.specs.Finish.{finish_word, IsOutcome}
use Rattle.ppm_cells.specs.declared.cell.Cell.{Cell}
use Rattle.ppm_cells.specs.declared.cell.Cell.TheVariants.{EntryWord}
use Rattle.ppm_cells.specs.declared.entry.Entry.{Entry}
use Rattle.ppm_cells.specs.declared.entry.Entry.TheVariants.{Empty, Local, Job, Taken}
use Rattle.ppm_cells.specs.declared.finish.Finish.{Finish}
use Rattle.ppm_cells.specs.declared.finish.Finish.TheVariants.{Unset, Ended, Trapped, OutOfTurns, OutOfRoom, Stopped, Broken as BrokenAt}
use Rattle.ppm_cells.specs.declared.link.Link.{Link}
use Rattle.ppm_cells.specs.declared.link.LinkKind.{LinkKind}
use Rattle.ppm_cells.specs.declared.link.LinkKind.TheVariants.{Root, Call, Branch, Fork as ForkLink}
use Rattle.ppm_cells.specs.declared.restart.RestartKind.{RestartKind}
use Rattle.ppm_cells.specs.declared.restart.RestartKind.TheVariants.{Run, Bump, Push1, Push2, Unwind, Arrive, Join, Pop1, Pop2, Seek, Steal, Check, Take, Take2}
use Rattle.ppm_cells.specs.declared.shape.Shape.{Shape}
use Rattle.ppm_cells.specs.declared.shape.Takeover.{Takeover}
use Rattle.ppm_cells.specs.declared.shape.Takeover.TheVariants.{ByPlaces, ByEntries}
use Rattle.ppm_cells.specs.declared.side.Side.{Side}
use Rattle.ppm_cells.specs.DequeChange.{tag_of}
use Rattle.ppm_cells.specs.Transitions.{pushed_above, pushed_job, popped_above}
use Rattle.ppm_cells.specs.JoinOrder.{first, both}
use Rattle.ppm_cells.specs.JoinOutcome.{outcome_of_both}
use Rattle.ppm_step.specs.declared.content.Content.{Content}
use Rattle.ppm_step.specs.declared.content.Content.TheVariants.{ANumber, ARestart, AnEntry, AHolder, ALink, AFinish, Unreadable}
use Rattle.ppm_step.specs.declared.row.Seat.{Seat}
use Rattle.ppm_step.specs.declared.row.Point.TheVariants.{Target, RightFrame, PushAbove, Offset}
use Rattle.ppm_step.specs.declared.row.Then.{Then}
use Rattle.ppm_step.specs.declared.row.Then.TheVariants.{Load, Broken}
use Rattle.ppm_step.specs.declared.row.Row.{Row}
use Rattle.ppm_step.specs.declared.row.Row.TheVariants.{Now}
use Rattle.ppm_step.specs.Rows.{on_number, on_entry, on_link, on_finish, on_outcome, raised, tried, bumped, push_at, push_by_order, push_above, push_bottom, unwind_by, unwound, back_to, target_found, value_found, joins, is_inline, is_last, join_by, join_outcome, right_begins, get_back, got_back, empty_above, row_of}
use Rattle.ppm_paces.specs.Costs.{due, Leads, RowsArePaid}

-- the word of an outcome isn't 0
outcome_some : (o : Finish) → IsOutcome o → finish_word o ≢ 0
unfolding number_of
outcome_some Ended is e = omega (arith, e)
outcome_some (Trapped trap line) is e = omega (arith, e)
outcome_some _ is e = absurd is

module _ (s : Shape) (seat : Seat) (k : RestartKind) where
  abbrev L : (left made : ℕ) → Row → Type 0
  L left made row = Leads s seat k left made row

  broken : (n c : ℕ) → L n c (Now Broken)
  broken zero c = tt
  broken (suc n) c = tt

  number : (n c : ℕ) (go : ℕ → Row) → ((x : ℕ) → L n c (go x)) → (w : Content) → L n c (on_number w go)
  number n c go l (ANumber x) = l x
  number n c go l (ARestart x) = broken n c
  number n c go l (AnEntry x) = broken n c
  number n c go l (AHolder x) = broken n c
  number n c go l (ALink x) = broken n c
  number n c go l (AFinish x) = broken n c
  number n c go l Unreadable = broken n c

  entry : (n c : ℕ) (go : Entry → Row) → ((x : Entry) → L n c (go x)) → (w : Content) → L n c (on_entry w go)
  entry n c go l (ANumber x) = broken n c
  entry n c go l (ARestart x) = broken n c
  entry n c go l (AnEntry x) = l x
  entry n c go l (AHolder x) = broken n c
  entry n c go l (ALink x) = broken n c
  entry n c go l (AFinish x) = broken n c
  entry n c go l Unreadable = broken n c

  link : (n c : ℕ) (go : Link → Row) → ((x : Link) → L n c (go x)) → (w : Content) → L n c (on_link w go)
  link n c go l (ANumber x) = broken n c
  link n c go l (ARestart x) = broken n c
  link n c go l (AnEntry x) = broken n c
  link n c go l (AHolder x) = broken n c
  link n c go l (ALink x) = l x
  link n c go l (AFinish x) = broken n c
  link n c go l Unreadable = broken n c

  finish : (n c : ℕ) (go : Finish → Row) → ((x : Finish) → IsOutcome x → L n c (go x)) → (x : Finish) → L n c (on_finish x go)
  finish n c go l Ended = l Ended tt
  finish n c go l (Trapped trap line) = l (Trapped trap line) tt
  finish n c go l Unset = broken n c
  finish n c go l (OutOfTurns p) = broken n c
  finish n c go l (OutOfRoom p) = broken n c
  finish n c go l Stopped = broken n c
  finish n c go l (BrokenAt p) = broken n c

  outcome : (n c : ℕ) (go : Finish → Row) → ((x : Finish) → IsOutcome x → L n c (go x)) → (w : Content) → L n c (on_outcome w go)
  outcome n c go l (ANumber x) = broken n c
  outcome n c go l (ARestart x) = broken n c
  outcome n c go l (AnEntry x) = broken n c
  outcome n c go l (AHolder x) = broken n c
  outcome n c go l (ALink x) = broken n c
  outcome n c go l (AFinish x) = finish n c go l x
  outcome n c go l Unreadable = broken n c

  by_if : (n c : ℕ) (b : Bool) (x y : Row) → L n c x → L n c y → L n c (if b then x else y)
  by_if n c true x y lx ly = lx
  by_if n c false x y lx ly = ly

  try : (n c : ℕ) (cell : Cell) (old : Entry) (new : Option Entry) (next : Then) → L (suc n) c (Now next) → L n (c + 1) (Now next) → L (suc n) c (tried cell old new next)
  try n c cell old None next here there = here
  try n c cell old (Some new) next here there = by (nat_lt (tag_of old + 1) (2 ^ 34))
    where
      by : (b : Bool) → L (suc n) c (raised cell old new next b)
      by true = inr there
      by false = tt

  -- a value for a frame, after which the frame goes on
  last_value : (n c frame to copy : ℕ) → c + 4 ≤ due k → L (suc (suc (suc (suc n)))) c (Now (Load (Target frame to copy None)))
  last_value n c frame to copy le victim w = number (suc (suc (suc n))) (c + 1) (target_found seat frame to copy None) found w
    where
      found : (target : ℕ) → L (suc (suc (suc n))) (c + 1) (target_found seat frame to copy None target)
      found zero = omega (arith, le)
      found (suc slot) = λ victim w. number (suc (suc n)) (c + 1 + 1) (value_found s seat to copy (suc slot) None)
          (λ value. by_if (suc (suc n)) (c + 1 + 1) (nat_lt (to + 5 + suc slot) (word_count s)) _ _ (omega (arith, le)) tt) w

  -- the right branch's, by its offset
  right_value : (n c block to copy : ℕ) → c + 5 ≤ due k → L (suc (suc (suc (suc (suc n))))) c (Now (Load (RightFrame block to copy)))
  right_value n c block to copy le victim w = number (suc (suc (suc (suc n)))) (c + 1) _
      (λ offset. by_if (suc (suc (suc (suc n)))) (c + 1) (nat_lt (block + offset) (word_count s)) _ _ (last_value n (c + 1) (block + offset) to copy (omega (arith, le))) tt) w

  both_values : (c block to copy : ℕ) → c + 8 ≤ due k → L 8 c (Now (Load (Target (block + 5) to copy (Some block))))
  both_values c block to copy le victim w = number 7 (c + 1) (target_found seat (block + 5) to copy (Some block)) found w
    where
      found : (target : ℕ) → L 7 (c + 1) (target_found seat (block + 5) to copy (Some block) target)
      found zero = right_value 2 (c + 1) block to copy (omega (arith, le))
      found (suc slot) = λ victim w. number 6 (c + 1 + 1) (value_found s seat to copy (suc slot) (Some block))
          (λ value. by_if 6 (c + 1 + 1) (nat_lt (to + 5 + suc slot) (word_count s)) _ _ (right_value 0 (c + 1 + 1 + 1) block to copy (omega (arith, le))) tt) w

  begins_right : (n c block bottom : ℕ) → c + 2 ≤ due k → L (suc (suc n)) c (Now (Load (Offset block bottom)))
  begins_right n c block bottom le victim w = number (suc n) (c + 1) (right_begins s block bottom)
      (λ offset. by_if (suc n) (c + 1) (nat_lt (block + offset) (word_count s)) _ _ (omega (arith, le)) tt) w

module _ (s : Shape) (seat : Seat) where
  bump : (r : ℕ) → Leads s seat (Bump r) 3 0 (row_of s seat (Bump r))
  bump r victim w = link s seat (Bump r) 2 1 _ (λ l. by l.size l.kind) w
    where
      by : (size : ℕ) (kind : LinkKind) → Leads s seat (Bump r) 2 1 (bumped seat r size kind)
      by size Root = tt
      by size (Call f y) = omega arith
      by size (Branch d q) = tt
      by size (ForkLink f y) = omega arith

  push1 : (r : ℕ) → Leads s seat (Push1 r) 4 0 (row_of s seat (Push1 r))
  push1 r = by s.takeover (seat.restart.bottom + 1 == s.slots)
    where
      above : (n c : ℕ) → c + 3 ≤ 4 → Leads s seat (Push1 r) (suc (suc (suc n))) c (Now (Load (PushAbove r)))
      above n c le victim w = entry s seat (Push1 r) (suc (suc n)) (c + 1) (push_above seat r)
          (λ e. try s seat (Push1 r) (suc n) (c + 1) (EntryWord seat.place (seat.restart.bottom + 1)) e (pushed_above e) _ (omega (arith, le)) (omega (arith, le))) w

      ordered : (order : ℕ) → Leads s seat (Push1 r) 3 1 (push_by_order seat r order)
      ordered order = by_if s seat (Push1 r) 3 1 (order == both) _ _ (omega arith) (above 0 1 (omega arith))

      by : (t : Takeover) (b : Bool) → Leads s seat (Push1 r) 4 0 (push_at seat t r b)
      by t true = omega arith
      by ByPlaces false = above 1 0 (omega arith)
      by ByEntries false = λ victim w. number s seat (Push1 r) 3 1 (push_by_order seat r) ordered w

  push2 : (r : ℕ) → Leads s seat (Push2 r) 3 0 (row_of s seat (Push2 r))
  push2 r victim w = entry s seat (Push2 r) 2 1 (push_bottom seat r)
      (λ e. try s seat (Push2 r) 1 1 (EntryWord seat.place seat.restart.bottom) e (pushed_job e r) _ (omega arith) (omega arith)) w

  unwind : (f : ℕ) → Leads s seat (Unwind f) 6 0 (row_of s seat (Unwind f))
  unwind f victim w = link s seat (Unwind f) 5 1 _ (λ l. by l.kind) w
    where
      back : (to copy : ℕ) (o : Finish) → Leads s seat (Unwind f) 4 2 (back_to seat f to copy o)
      back to copy Ended = last_value s seat (Unwind f) 0 2 f to copy (omega arith)
      back to copy Unset = omega arith
      back to copy (Trapped trap line) = omega arith
      back to copy (OutOfTurns p) = omega arith
      back to copy (OutOfRoom p) = omega arith
      back to copy Stopped = omega arith
      back to copy (BrokenAt p) = omega arith

      over : (kind : LinkKind) (o : Finish) → IsOutcome o → Leads s seat (Unwind f) 4 2 (unwound seat f kind o)
      over Root o is = inl (refl, refl, outcome_some o is, refl)
      over (Call to copy) o is = back to copy o
      over (Branch d q) o is = omega arith
      over (ForkLink to copy) o is = tt

      by : (kind : LinkKind) → Leads s seat (Unwind f) 5 1 (unwind_by f kind)
      by Root = λ victim w. outcome s seat (Unwind f) 4 2 (unwound seat f Root) (over Root) w
      by (Call to copy) = λ victim w. outcome s seat (Unwind f) 4 2 (unwound seat f (Call to copy)) (over (Call to copy)) w
      by (Branch d q) = λ victim w. outcome s seat (Unwind f) 4 2 (unwound seat f (Branch d q)) (over (Branch d q)) w
      by (ForkLink to copy) = tt

  arrive : (r : ℕ) (d : Side) → Leads s seat (Arrive r d) 2 0 (row_of s seat (Arrive r d))
  arrive r d = inr (omega arith)

  join : (r : ℕ) (d : Side) → Leads s seat (Join r d) 12 0 (row_of s seat (Join r d))
  join r d victim w = number s seat (Join r d) 11 1 _ (λ order. by (order == first d) (is_inline order d) (is_last order d)) w
    where
      ended : (to copy : ℕ) (o : Finish) → Leads s seat (Join r d) 8 4 (join_outcome seat r to copy o)
      ended to copy Ended = both_values s seat (Join r d) 4 r to copy (omega arith)
      ended to copy Unset = omega arith
      ended to copy (Trapped trap line) = omega arith
      ended to copy (OutOfTurns p) = omega arith
      ended to copy (OutOfRoom p) = omega arith
      ended to copy Stopped = omega arith
      ended to copy (BrokenAt p) = omega arith

      linked : (kind : LinkKind) → Leads s seat (Join r d) 10 2 (join_by r kind)
      linked Root = tt
      linked (Call to copy) = tt
      linked (Branch e q) = tt
      linked (ForkLink to copy) = λ victim w. outcome s seat (Join r d) 9 3 _ (λ left is victim w. outcome s seat (Join r d) 8 4 _ (λ right is. ended to copy (outcome_of_both left right)) w) w

      by : (is_first is_inline is_last : Bool) → Leads s seat (Join r d) 11 1 (joins seat r is_first is_inline is_last)
      by true a b = omega arith
      by false true b = begins_right s seat (Join r d) 9 1 r seat.restart.bottom (omega arith)
      by false false true = λ victim w. link s seat (Join r d) 10 2 _ (λ l. linked l.kind) w
      by false false false = tt

  pop1 : Leads s seat Pop1 3 0 (row_of s seat Pop1)
  pop1 victim w = entry s seat Pop1 2 1 (get_back seat) by w
    where
      by : (e : Entry) → Leads s seat Pop1 2 1 (get_back seat e)
      by (Empty t) = tt
      by (Local t r) = omega arith
      by (Job t r) = try s seat Pop1 1 1 _ (Job t r) (Some (Local (t + 1) r)) _ (omega arith) (omega arith)
      by (Taken t p) = omega arith

  pop2 : (r : ℕ) → Leads s seat (Pop2 r) 5 0 (row_of s seat (Pop2 r))
  pop2 r victim w = entry s seat (Pop2 r) 4 1 (got_back seat r) by w
    where
      by : (e : Entry) → Leads s seat (Pop2 r) 4 1 (got_back seat r e)
      by (Empty t) = tt
      by (Local t old) = λ victim w. entry s seat (Pop2 r) 3 2 (empty_above seat r)
          (λ e. try s seat (Pop2 r) 2 2 _ e (popped_above e) _ (begins_right s seat (Pop2 r) 1 2 r _ (omega arith)) (begins_right s seat (Pop2 r) 0 3 r _ (omega arith))) w
      by (Job t q) = tt
      by (Taken t p) = omega arith

pub rows_are_paid : RowsArePaid
rows_are_paid s seat (Bump r) is = bump s seat r
rows_are_paid s seat (Push1 r) is = push1 s seat r
rows_are_paid s seat (Push2 r) is = push2 s seat r
rows_are_paid s seat (Unwind f) is = unwind s seat f
rows_are_paid s seat (Arrive r d) is = arrive s seat r d
rows_are_paid s seat (Join r d) is = join s seat r d
rows_are_paid s seat Pop1 is = pop1 s seat
rows_are_paid s seat (Pop2 r) is = pop2 s seat r
rows_are_paid s seat (Run f y) is = absurd is
rows_are_paid s seat Seek is = absurd is
rows_are_paid s seat (Steal v i) is = absurd is
rows_are_paid s seat (Check v i) is = absurd is
rows_are_paid s seat (Take v h) is = absurd is
rows_are_paid s seat (Take2 v) is = absurd is
