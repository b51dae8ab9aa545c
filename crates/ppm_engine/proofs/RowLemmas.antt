-- The rows of work: where each goes on with what it has found.
use Rattle.std.proofs.Common.{◌≡◌, ◌≢◌, ◌⊎◌, inl, inr, ◌∙◌, ◌+◌, ◌-◌, ◌<◌, ◌^◌, ◌==◌, ne_eqb, ℕ, zero, suc, Bool, true, false, if◌then◌else◌, Option, Some, None, sym, refl, ap, subst, arith}
use Rattle.std.specs.Prelude.{nat_lt}
use Rattle.ppm_cells.specs.Cells.{word_count}
use Rattle.ppm_cells.specs.Entry.{IsEntry}
use Rattle.ppm_cells.specs.Finish.{IsOutcome}
use Rattle.ppm_cells.specs.declared.cell.Cell.{Cell}
use Rattle.ppm_cells.specs.declared.cell.Cell.TheVariants.{EntryWord, BlockWord}
use Rattle.ppm_cells.specs.declared.entry.Entry.{Entry}
use Rattle.ppm_cells.specs.declared.entry.Entry.TheVariants.{Empty, Local, Job, Taken}
use Rattle.ppm_cells.specs.declared.finish.Finish.{Finish}
use Rattle.ppm_cells.specs.declared.finish.Finish.TheVariants.{Unset, Ended, Trapped, OutOfTurns, OutOfRoom, Stopped, Broken as BrokenAt}
use Rattle.ppm_cells.specs.declared.link.LinkKind.{LinkKind}
use Rattle.ppm_cells.specs.declared.link.LinkKind.TheVariants.{Root, Call, Branch, Fork as ForkLink}
use Rattle.ppm_cells.specs.declared.restart.RestartKind.TheVariants.{Push2, Pop2}
use Rattle.ppm_cells.specs.declared.shape.Shape.{Shape}
use Rattle.ppm_cells.specs.declared.shape.Takeover.{Takeover}
use Rattle.ppm_cells.specs.declared.side.Side.{Side}
use Rattle.ppm_cells.specs.DequeChange.{CanRise}
use Rattle.ppm_cells.specs.JoinOrder.{first}
use Rattle.ppm_step.specs.declared.content.Content.TheVariants.{ANumber}
use Rattle.ppm_step.specs.declared.row.Seat.{Seat}
use Rattle.ppm_step.specs.declared.row.Point.TheVariants.{GivenValue, Offset, PushAbove, Target}
use Rattle.ppm_step.specs.declared.row.Then.TheVariants.{Load, Begin, Broken}
use Rattle.ppm_step.specs.declared.row.Row.{Row}
use Rattle.ppm_step.specs.declared.row.Row.TheVariants.{Now, Store}
use Rattle.ppm_step.specs.Rows.{with_kind, if_there, raised, bumped, left_begins, push_at, push_by_order, push_above, push_bottom, on_finish, back_to, trapped, target_found, value_found, after_value, right_begins, right_value, joins, join_by_order, is_inline, is_last, join_by, join_outcome, get_back, got_back, empty_above}
use Rattle.ppm_engine.specs.Steps.{address_if}

-- what becomes of an entry that is changed, whose tag is not the last
pub job_fits : (tag old block : ℕ) → block < 2 ^ 28 → CanRise (Local tag old) → IsEntry (Job (tag + 1) block)
job_fits tag old block fits rises = (fits, (rises, (omega arith, tt)))

pub above_fits : (tag : ℕ) → CanRise (Empty tag) → IsEntry (Local (tag + 1) 0)
above_fits tag rises = (omega arith, (rises, (omega arith, tt)))

pub back_fits : (tag block : ℕ) → IsEntry (Job tag block) → CanRise (Job tag block) → IsEntry (Local (tag + 1) block)
back_fits tag block is rises = (is.0, (rises, (omega arith, tt)))

pub emptied_fits : (tag old : ℕ) → CanRise (Local tag old) → IsEntry (Empty (tag + 1))
emptied_fits tag old rises = (omega arith, (rises, (omega arith, tt)))

module _ (s : Shape) (seat : Seat) (block : ℕ) where
  abbrev slot : ℕ → Cell
  slot n = EntryWord seat.place n

  -- Push1 and Push2
  pub above_stays : (entry : Entry) → ((tag : ℕ) → entry ≡ Empty tag → ⊥) → push_above seat block entry ≡ Now (with_kind seat (Push2 block))
  above_stays (Empty tag) h = absurd (h tag refl)
  above_stays (Local tag old) h = refl
  above_stays (Job tag old) h = refl
  above_stays (Taken tag taker) h = refl

  pub above_rises : (entry : Entry) (tag : ℕ) → entry ≡ Empty tag
      → push_above seat block entry
      ≡ raised (slot (seat.restart.bottom + 1)) (Empty tag) (Local (tag + 1) 0) (with_kind seat (Push2 block)) (nat_lt (tag + 1) (2 ^ 34))
  above_rises entry tag is = ap (λ (e : Entry). push_above seat block e) is

  pub bottom_stays : (entry : Entry) → ((tag old : ℕ) → entry ≡ Local tag old → ⊥) → push_bottom seat block entry
      ≡ Now (left_begins block (seat.restart.bottom + 1))
  bottom_stays (Empty tag) h = refl
  bottom_stays (Local tag old) h = absurd (h tag old refl)
  bottom_stays (Job tag old) h = refl
  bottom_stays (Taken tag taker) h = refl

  pub bottom_rises : (entry : Entry) (tag old : ℕ) → entry ≡ Local tag old
      → push_bottom seat block entry
      ≡ raised (slot seat.restart.bottom) (Local tag old) (Job (tag + 1) block) (left_begins block (seat.restart.bottom + 1)) (nat_lt (tag + 1) (2 ^ 34))
  bottom_rises entry tag old is = ap (λ (e : Entry). push_bottom seat block e) is

  -- Pop1 and Pop2
  pub back_rises : (entry : Entry) (tag : ℕ) → entry ≡ Job tag block
      → get_back seat entry
      ≡ raised (slot (seat.restart.bottom - 1)) (Job tag block) (Local (tag + 1) block) (with_kind seat (Pop2 block)) (nat_lt (tag + 1) (2 ^ 34))
  back_rises entry tag is = ap (λ (e : Entry). get_back seat e) is

  pub empties_none : (entry : Entry) → ((tag old : ℕ) → entry ≡ Local tag old → ⊥) → empty_above seat block entry
      ≡ Now (Load (Offset block (seat.restart.bottom - 1)))
  empties_none (Empty tag) h = refl
  empties_none (Local tag old) h = absurd (h tag old refl)
  empties_none (Job tag old) h = refl
  empties_none (Taken tag taker) h = refl

  pub empties : (entry : Entry) (tag old : ℕ) → entry ≡ Local tag old
      → empty_above seat block entry
      ≡ raised (slot seat.restart.bottom) (Local tag old) (Empty (tag + 1)) (Load (Offset block (seat.restart.bottom - 1))) (nat_lt (tag + 1) (2 ^ 34))
  empties entry tag old is = ap (λ (e : Entry). empty_above seat block e) is

-- an outcome goes on
pub goes_by_outcome : (f : Finish) (go : Finish → Row) → IsOutcome f → on_finish f go ≡ go f
goes_by_outcome Unset go is = absurd is
goes_by_outcome Ended go is = refl
goes_by_outcome (Trapped trap line) go is = refl
goes_by_outcome (OutOfTurns n) go is = absurd is
goes_by_outcome (OutOfRoom n) go is = absurd is
goes_by_outcome Stopped go is = absurd is
goes_by_outcome (BrokenAt n) go is = absurd is

module _ (seat : Seat) (frame to copy : ℕ) where
  -- a trap is taken over
  pub back_traps : (f : Finish) → (f ≡ Ended → ⊥) → back_to seat frame to copy f ≡ trapped seat to f
  back_traps Unset h = refl
  back_traps Ended h = absurd (h refl)
  back_traps (Trapped trap line) h = refl
  back_traps (OutOfTurns n) h = refl
  back_traps (OutOfRoom n) h = refl
  back_traps Stopped h = refl
  back_traps (BrokenAt n) h = refl

  pub join_traps : (f : Finish) → (f ≡ Ended → ⊥) → join_outcome seat frame to copy f ≡ trapped seat to f
  join_traps Unset h = refl
  join_traps Ended h = absurd (h refl)
  join_traps (Trapped trap line) h = refl
  join_traps (OutOfTurns n) h = refl
  join_traps (OutOfRoom n) h = refl
  join_traps Stopped h = refl
  join_traps (BrokenAt n) h = refl

  -- a value is given where a slot is named
  pub gives : (right_of : Option ℕ) (target : ℕ) → target ≢ 0 → target_found seat frame to copy right_of target
      ≡ Now (Load (GivenValue frame to copy target right_of))
  gives right_of zero h = absurd (h refl)
  gives right_of (suc slot) h = refl

-- only a fork's link goes on at a join
pub join_breaks : (block : ℕ) (kind : LinkKind) → ((to copy : ℕ) → kind ≡ ForkLink to copy → ⊥) → join_by block kind ≡ Now Broken
join_breaks block Root h = refl
join_breaks block (Call frame copy) h = refl
join_breaks block (Branch side other) h = refl
join_breaks block (ForkLink to copy) h = absurd (h to copy refl)

abbrev some_or : ℕ → Option ℕ → ℕ
some_or d None = d
some_or d (Some n) = n

-- by whether an address is one of the words
if_some : (at word : ℕ) (b : Bool) → Some at ≡ (if b then Some word else None) → (at ≡ word) × (b ≡ true)
if_some at word true e = (let h = ap (λ (o : Option ℕ). some_or at o) e in h, refl)
if_some at word false e = cc

if_none : (word : ℕ) (b : Bool) → None ≡ (if b then Some word else None) → b ≡ false
if_none word true e = cc
if_none word false e = refl

pub is_word : (s : Shape) (at word : ℕ) → Some at ≡ address_if s word → (at ≡ word) × (nat_lt word (word_count s) ≡ true)
is_word s at word e = if_some at word (nat_lt word (word_count s)) e

pub no_word : (s : Shape) (word : ℕ) → None ≡ address_if s word → nat_lt word (word_count s) ≡ false
no_word s word e = if_none word (nat_lt word (word_count s)) e

pub there_goes : (s : Shape) (at word : ℕ) (go : ℕ → Row) → Some at ≡ address_if s word → if_there s word (go word) ≡ go at
there_goes s at word go e =
    let h = is_word s at word e in
    ap (λ (b : Bool). if b then go word else Now Broken) h.1 ∙ ap go (sym h.0)

pub there_breaks : (s : Shape) (word : ℕ) (row : Row) → None ≡ address_if s word → if_there s word row ≡ Now Broken
there_breaks s word row e = ap (λ (b : Bool). if b then row else Now Broken) (no_word s word e)

-- the right branch, and its value
pub right_begins_at : (s : Shape) (block bottom offset at : ℕ) → Some at ≡ address_if s (block + offset) → right_begins s block bottom offset
    ≡ Now (Begin block at bottom)
right_begins_at s block bottom offset at e = there_goes s at (block + offset) (λ n. Now (Begin block n bottom)) e

pub right_value_at : (s : Shape) (block to copy offset at : ℕ) → Some at ≡ address_if s (block + offset) → right_value s block to copy offset
    ≡ Now (Load (Target at to copy None))
right_value_at s block to copy offset at e = there_goes s at (block + offset) (λ n. Now (Load (Target n to copy None))) e

pub value_goes : (s : Shape) (seat : Seat) (to copy target : ℕ) (right_of : Option ℕ) (value at : ℕ) → Some at ≡ address_if s (to + 5 + target)
    → value_found s seat to copy target right_of value ≡ Store (BlockWord at) (ANumber value) (after_value seat to copy right_of)
value_goes s seat to copy target right_of value at e =
    there_goes s at (to + 5 + target) (λ n. Store (BlockWord n) (ANumber value) (after_value seat to copy right_of)) e

-- Join, by the order word
module _ (seat : Seat) (block : ℕ) (side : Side) (order : ℕ) where
  pub joins_as : (a b d : Bool) → a ≡ (order == first side) → b ≡ is_inline order side → d ≡ is_last order side → join_by_order seat block side order
      ≡ joins seat block a b d
  joins_as a b d e f g =
      ap (λ (x : Bool). joins seat block x (is_inline order side) (is_last order side)) (sym e)
      ∙ ap (λ (x : Bool). joins seat block a x (is_last order side)) (sym f) ∙ ap (λ (x : Bool). joins seat block a b x) (sym g)

-- Push1, by the order word
pub order_inline : (seat : Seat) (block order : ℕ) → order ≡ 3 → push_by_order seat block order ≡ Now (left_begins block seat.restart.bottom)
order_inline seat block order e = subst (λ (n : ℕ). push_by_order seat block n ≡ Now (left_begins block seat.restart.bottom)) (sym e) refl

pub order_above : (seat : Seat) (block order : ℕ) → order ≢ 3 → push_by_order seat block order ≡ Now (Load (PushAbove block))
order_above seat block order h = ap (λ (b : Bool). if b then Now (left_begins block seat.restart.bottom) else Now (Load (PushAbove block))) (ne_eqb order 3 h)

-- and by whether the slot is the last one
pub push_as : (seat : Seat) (how takeover : Takeover) (block : ℕ) (last b : Bool) → takeover ≡ how → last ≡ b → push_at seat takeover block last
    ≡ push_at seat how block b
push_as seat how takeover block last b e f = ap (λ (x : Takeover). push_at seat x block last) e ∙ ap (λ (x : Bool). push_at seat how block x) f

-- a link of the root or of a branch does not rise
pub bump_breaks : (seat : Seat) (block size : ℕ) (kind : LinkKind) → (kind ≡ Root) ⊎ ((side : Side) × (other : ℕ) × (kind ≡ Branch side other))
    → bumped seat block size kind ≡ Now Broken
bump_breaks seat block size kind (inl e) = ap (λ (k : LinkKind). bumped seat block size k) e
bump_breaks seat block size kind (inr h) = ap (λ (k : LinkKind). bumped seat block size k) h.2

-- an entry that is neither local nor taken was not got back
pub not_got_back : (seat : Seat) (block : ℕ) (entry : Entry) → ((tag : ℕ) × (entry ≡ Empty tag)) ⊎ ((tag : ℕ) × (old : ℕ) × (entry ≡ Job tag old))
    → got_back seat block entry ≡ Now Broken
not_got_back seat block entry (inl h) = ap (λ (e : Entry). got_back seat block e) h.1
not_got_back seat block entry (inr h) = ap (λ (e : Entry). got_back seat block e) h.2
