-- The stores of the rows, and the restart word at their ends.
use Rattle.std.proofs.Common.{◌≡◌, ◌∙◌, ◌+◌, ◌^◌, ◌<◌, ◌⊎◌, inl, inr, ℕ, Bool, true, false, length, Some, sym, refl, ap, subst, arith}
use Rattle.std.specs.Prelude.{nat_lt}
use Rattle.std.proofs.lemmas.Bool.{lt-ltb, ltb-true}
use Rattle.ppm_cells.specs.Cells.{address}
use Rattle.ppm_cells.specs.Restart.{restart_word}
use Rattle.ppm_cells.specs.declared.cell.Cell.{Cell}
use Rattle.ppm_cells.specs.declared.cell.Cell.TheVariants.{FinishWord, CarryWord, DeadWord, RestartWord, MessageWord, HolderWord, Top, RoomCounter, EntryWord, BlockWord, ArrayWord}
use Rattle.ppm_cells.specs.declared.entry.Entry.{Entry}
use Rattle.ppm_cells.specs.declared.restart.Restart.{Restart}
use Rattle.ppm_cells.specs.declared.shape.Shape.{Shape}
use Rattle.ppm_code.specs.declared.code.CodeParts.{CodeParts}
use Rattle.ppm_cells.specs.DequeChange.{CanRise, tag_of}
use Rattle.ppm_step.specs.declared.content.Content.{Content}
use Rattle.ppm_step.specs.declared.ask.Want.TheVariants.{Stores, Exchanges}
use Rattle.ppm_step.specs.declared.row.Seat.{Seat}
use Rattle.ppm_step.specs.declared.row.Then.{Then}
use Rattle.ppm_step.specs.declared.row.Then.TheVariants.{Load, Install, Fork, Begin, Move, Enter, Again, Broken}
use Rattle.ppm_step.specs.declared.row.Row.TheVariants.{Now, Store, Exchange}
use Rattle.ppm_step.specs.Contents.{word_of}
use Rattle.ppm_step.specs.Rows.{raised}
use Rattle.ppm_step.specs.Standings.{IsAt, IsWithin, stands, stands_then, wanted_then, went_then, within_if, installs}
use Rattle.ppm_step.specs.State.{seeks_holder, fork_row, take_row}
use Rattle.ppm_step.specs.There.{is_there, restart_is_there}
use Rattle.ppm_engine.specs.declared.tally.Mark.{Mark}
use Rattle.ppm_engine.specs.declared.tally.Mark.TheVariants as marks
use Rattle.ppm_engine.specs.Memory.{IsSparing, IsLast, forks_by, takes_by}
use Rattle.ppm_engine.specs.Steps.{IsEnd, IsNext, IsSpared, Spares, mark_of, restart_of}

-- another cell lies elsewhere than the finish word
pub spared : (s : Shape) (cell : Cell) → IsSpared cell → 0 < address s cell
spared s FinishWord is = absurd is
spared s (CarryWord processor) is = omega arith
spared s (DeadWord processor) is = omega arith
spared s (RestartWord place) is = omega arith
spared s (MessageWord place) is = omega arith
spared s (HolderWord place) is = omega arith
spared s (Top place) is = omega arith
spared s (RoomCounter place) is = omega arith
spared s (EntryWord place slot) is = omega arith
spared s (BlockWord at) is = is
spared s (ArrayWord index) is = omega arith

-- what a store at a row's end is counted as
forks_there : (next : Then) → length (fork_row (Now next)) ≡ forks_by (mark_of next)
forks_there (Install restart) = refl
forks_there (Fork block) = refl
forks_there (Begin block frame bottom) = refl
forks_there (Load point) = refl
forks_there (Move place) = refl
forks_there (Enter capsule) = refl
forks_there Again = refl
forks_there Broken = refl

takes_there : (next : Then) → length (take_row (Now next)) ≡ takes_by (mark_of next)
takes_there (Install restart) = refl
takes_there (Fork block) = refl
takes_there (Begin block frame bottom) = refl
takes_there (Load point) = refl
takes_there (Move place) = refl
takes_there (Enter capsule) = refl
takes_there Again = refl
takes_there Broken = refl

module _ (s : Shape) (code : CodeParts) (seat : Seat) where
  -- at the end of a row, by whether what its restart names is there
  pub ends_if : (next : Then) (b : Bool) → IsEnd next → b ≡ restart_is_there s (restart_of seat next) → stands_then s code seat next
      ≡ within_if seat (Now next) b
  ends_if (Install restart) b is e = ap (λ (x : Bool). within_if seat (Now (Install restart)) x) (sym e)
  ends_if (Fork block) b is e = ap (λ (x : Bool). within_if seat (Now (Fork block)) x) (sym e)
  ends_if (Begin block frame bottom) b is e = ap (λ (x : Bool). within_if seat (Now (Begin block frame bottom)) x) (sym e)
  ends_if (Load point) b is e = absurd is
  ends_if (Move place) b is e = absurd is
  ends_if (Enter capsule) b is e = absurd is
  ends_if Again b is e = absurd is
  ends_if Broken b is e = absurd is

  wants_end : (next : Then) → IsEnd next → (wanted_then s seat 0 next ≡ installs s seat (restart_of seat next))
      × (seeks_holder (IsWithin seat (Now next)) ≡ false)
  wants_end (Install restart) is = (refl, refl)
  wants_end (Fork block) is = (refl, refl)
  wants_end (Begin block frame bottom) is = (refl, refl)
  wants_end (Load point) is = absurd is
  wants_end (Move place) is = absurd is
  wants_end (Enter capsule) is = absurd is
  wants_end Again is = absurd is
  wants_end Broken is = absurd is

  -- the restart word is stored
  pub end_next : (next : Then) (at word : ℕ) (restart : Restart) (mark : Mark) → IsEnd next → restart ≡ restart_of seat next
      → at ≡ address s (RestartWord seat.place) → word ≡ restart_word restart → mark ≡ mark_of next → IsNext s seat (Now next) (Stores at word) mark
  end_next next at word restart mark is r a w m =
      let h = wants_end next is in (
        h.0 ∙ ap (λ (x : Restart). Stores (address s (RestartWord seat.place)) (restart_word x)) (sym r)
            ∙ ap (λ (x : ℕ). Stores x (restart_word restart)) (sym a) ∙ ap (λ (x : ℕ). Stores at x) (sym w),
        h.1,
        inl (subst (λ (x : ℕ). 0 < x) (sym a) (spared s (RestartWord seat.place) tt)),
        forks_there next ∙ ap forks_by (sym m),
        takes_there next ∙ ap takes_by (sym m),
      )

  pub ended : (next : Then) (found : ℕ) (restart : Restart) → IsEnd next → restart ≡ restart_of seat next → went_then s code seat 0 found next
      ≡ IsAt seat.place (Some restart)
  ended (Install it) found restart is r = ap (λ (x : Restart). IsAt seat.place (Some x)) (sym r)
  ended (Fork block) found restart is r = ap (λ (x : Restart). IsAt seat.place (Some x)) (sym r)
  ended (Begin block frame bottom) found restart is r = ap (λ (x : Restart). IsAt seat.place (Some x)) (sym r)
  ended (Load point) found restart is r = absurd is
  ended (Move place) found restart is r = absurd is
  ended (Enter capsule) found restart is r = absurd is
  ended Again found restart is r = absurd is
  ended Broken found restart is r = absurd is

  -- a store, and a compare-and-modify, by whether the cell is there
  pub stores_if : (cell : Cell) (content : Content) (next : Then) (b : Bool) → b ≡ is_there s cell → stands s code seat (Store cell content next)
      ≡ within_if seat (Store cell content next) b
  stores_if cell content next b e = ap (λ (x : Bool). within_if seat (Store cell content next) x) (sym e)

  pub exchanges_if : (cell : Cell) (old new : Content) (next : Then) (b : Bool) → b ≡ is_there s cell
      → stands s code seat (Exchange cell old new next) ≡ within_if seat (Exchange cell old new next) b
  exchanges_if cell old new next b e = ap (λ (x : Bool). within_if seat (Exchange cell old new next) x) (sym e)

  pub store_next : (cell : Cell) (content : Content) (next : Then) (at word : ℕ) → IsSpared cell → at ≡ address s cell → word ≡ word_of content
      → IsNext s seat (Store cell content next) (Stores at word) marks.Plain
  store_next cell content next at word is a w = (
    ap (λ (x : ℕ). Stores x (word_of content)) (sym a) ∙ ap (λ (x : ℕ). Stores at x) (sym w),
    refl,
    inl (subst (λ (x : ℕ). 0 < x) (sym a) (spared s cell is)),
    refl,
    refl,
  )

  -- a change of the finish word ends its row
  keeps : (cell : Cell) (old new : Content) (next : Then) (at was becomes : ℕ) → Spares cell next → at ≡ address s cell
      → IsSparing (Exchanges at was becomes) ⊎ IsLast (IsWithin seat (Exchange cell old new next))
  keeps FinishWord old new next at was becomes is a =
      inr (subst (λ (x : Then). IsLast (IsWithin seat (Exchange FinishWord old new x))) (sym is) tt)
  keeps (CarryWord processor) old new next at was becomes is a = inl (subst (λ (x : ℕ). 0 < x) (sym a) (spared s (CarryWord processor) tt))
  keeps (DeadWord processor) old new next at was becomes is a = inl (subst (λ (x : ℕ). 0 < x) (sym a) (spared s (DeadWord processor) tt))
  keeps (RestartWord place) old new next at was becomes is a = inl (subst (λ (x : ℕ). 0 < x) (sym a) (spared s (RestartWord place) tt))
  keeps (MessageWord place) old new next at was becomes is a = inl (subst (λ (x : ℕ). 0 < x) (sym a) (spared s (MessageWord place) tt))
  keeps (HolderWord place) old new next at was becomes is a = inl (subst (λ (x : ℕ). 0 < x) (sym a) (spared s (HolderWord place) tt))
  keeps (Top place) old new next at was becomes is a = inl (subst (λ (x : ℕ). 0 < x) (sym a) (spared s (Top place) tt))
  keeps (RoomCounter place) old new next at was becomes is a = inl (subst (λ (x : ℕ). 0 < x) (sym a) (spared s (RoomCounter place) tt))
  keeps (EntryWord place slot) old new next at was becomes is a = inl (subst (λ (x : ℕ). 0 < x) (sym a) (spared s (EntryWord place slot) tt))
  keeps (BlockWord to) old new next at was becomes is a = inl (subst (λ (x : ℕ). 0 < x) (sym a) is)
  keeps (ArrayWord index) old new next at was becomes is a = inl (subst (λ (x : ℕ). 0 < x) (sym a) (spared s (ArrayWord index) tt))

  pub exchange_next : (cell : Cell) (old new : Content) (next : Then) (at was becomes : ℕ) → Spares cell next → at ≡ address s cell → was ≡ word_of old
      → becomes ≡ word_of new → IsNext s seat (Exchange cell old new next) (Exchanges at was becomes) marks.Plain
  exchange_next cell old new next at was becomes is a o n = (
    ap (λ (x : ℕ). Exchanges x (word_of old) (word_of new)) (sym a) ∙ ap (λ (x : ℕ). Exchanges at x (word_of new)) (sym o)
        ∙ ap (λ (x : ℕ). Exchanges at was x) (sym n),
    refl,
    keeps cell old new next at was becomes is a,
    refl,
    refl,
  )

  -- a change of an entry, by whether its tag is the last
  pub raised_if : (cell : Cell) (old new : Entry) (next : Then) (b : Bool) → nat_lt (tag_of old + 1) (2 ^ 34) ≡ b
      → stands s code seat (raised cell old new next (nat_lt (tag_of old + 1) (2 ^ 34))) ≡ stands s code seat (raised cell old new next b)
  raised_if cell old new next b e = ap (λ (x : Bool). stands s code seat (raised cell old new next x)) e

pub rises : (old : Entry) → CanRise old → nat_lt (tag_of old + 1) (2 ^ 34) ≡ true
rises old h = lt-ltb (tag_of old + 1) (2 ^ 34) h

pub stuck : (old : Entry) → (CanRise old → ⊥) → nat_lt (tag_of old + 1) (2 ^ 34) ≡ false
stuck old h = by (nat_lt (tag_of old + 1) (2 ^ 34)) refl
  where
    by : (b : Bool) → nat_lt (tag_of old + 1) (2 ^ 34) ≡ b → nat_lt (tag_of old + 1) (2 ^ 34) ≡ false
    by true e = absurd (h (ltb-true (tag_of old + 1) (2 ^ 34) e))
    by false e = e
