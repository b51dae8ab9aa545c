-- What a table's processors show, and what is known when it is closed.
use Rattle.std.specs.Prelude.{◌≡◌, ◌⊎◌, ℕ, suc, true, List, [], ◌∷◌, length}
use Rattle.atomic_table.specs.Seated.{TableId}
use Rattle.ppm_step.specs.declared.turn.Turn.{Turn}
use Rattle.ppm_step.specs.Locals.{IsLocal, standing_of}
use Rattle.ppm_table.specs.declared.view.Deed.{Deed}
use Rattle.ppm_table.specs.declared.view.Opening.{Opening}
use Rattle.ppm_table.specs.declared.view.Record.{Record}
use Rattle.ppm_table.specs.declared.view.View.{View}
use Rattle.ppm_table.specs.declared.act_counts.ActCounts.{ActCounts}
use Rattle.ppm_table.specs.declared.processor.Processor.{Processor}
use Rattle.ppm_table.specs.declared.processor.Shared.{Shared}
use Rattle.ppm_table.specs.Counting.{both_counts, counts_by}
use Rattle.ppm_table.specs.Run.{AllTold, start, behind_turns, deeds_in_run, stands_by, deeds_in, records_in, record_with}

-- what a processor has done
abbrev pub deeds_of_processor : Processor → List Deed
deeds_of_processor p = deeds_in p.seat.me.0

-- what a table was told when it was made
abbrev pub opening_of : Shared → Opening
opening_of s = s.words.shared.key

-- a processor of this table, which stands where its deeds have led it
pub record StandsIn (s : Shared) (p : Processor) : Type 0 where
  pub table : p.seat.table_id ≡ s.words.shared.table_id
  pub holds : IsLocal s.shape s.code p.local
  pub stands : standing_of s.shape s.code p.local ≡ stands_by (opening_of s) p.local.own (deeds_of_processor p)

-- it has counted its deeds, where its table's processors count
abbrev pub HasCounted : Shared → Processor → Type 0
HasCounted s p = s.counted ≡ true → p.counts ≡ counts_by (opening_of s) p.local.own (deeds_of_processor p)

-- it stands there, and has
pub record IsOf (s : Shared) (p : Processor) : Type 0 where
  pub table : p.seat.table_id ≡ s.words.shared.table_id
  pub holds : IsLocal s.shape s.code p.local
  pub stands : standing_of s.shape s.code p.local ≡ stands_by (opening_of s) p.local.own (deeds_of_processor p)
  pub counts : HasCounted s p

-- processors of this table, numbered from c on
abbrev pub InOrder : Shared → ℕ → List Processor → Type 0
InOrder s c [] = Unit {0}
InOrder s c (p ∷ ps) = (p.local.own ≡ c) × IsOf s p × InOrder s (suc c) ps

-- none of which has done anything
abbrev pub AllNew : List Processor → Type 0
AllNew [] = Unit {0}
AllNew (p ∷ ps) = (deeds_of_processor p ≡ []) × AllNew ps

abbrev pub AllOf : TableId → List Processor → Type 0
AllOf t [] = Unit {0}
AllOf t (p ∷ ps) = (p.seat.table_id ≡ t) × AllOf t ps

abbrev pub Has : {A : Type 0} → A → List A → Type 0
Has x [] = ⊥
Has x (y ∷ ys) = (x ≡ y) ⊎ Has x ys

-- a view keeps the records of these processors
abbrev pub AllHeld : List Processor → View → Type 0
AllHeld [] v = Unit {0}
AllHeld (p ∷ ps) v = Has (record_with p.local.own (deeds_of_processor p)) (records_in v) × AllHeld ps v

abbrev pub Grows : View → View → Type 0
Grows v w = (r : Record) → Has r (records_in v) → Has r (records_in w)

-- what these processors have done is what they do in these turns
abbrev pub AllIn : Opening → List Turn → List Processor → Type 0
AllIn k turns [] = Unit {0}
AllIn k turns (p ∷ ps) = (deeds_of_processor p ≡ deeds_in_run k p.local.own turns) × AllIn k turns ps

-- what these processors have counted, and this
abbrev pub counts_with : ActCounts → List Processor → ActCounts
counts_with t [] = t
counts_with t (p ∷ ps) = counts_with (both_counts t p.counts) ps

-- there is one run, with these words after it, in which each processor does what it has done
pub record ClosedRun (k : Opening) (words : List ℕ) (ps : List Processor) : Type 0 where
  pub turns : List Turn
  pub told : AllTold k.shape k.code (start k) turns
  pub words_are : (behind_turns k turns).words ≡ words
  pub all : AllIn k turns ps

-- the processors of a table, in their order, of which none has done anything
pub record AreNewOf (s : Shared) (ps : List Processor) : Type 0 where
  pub count : length ps ≡ s.shape.processors
  pub order : InOrder s 0 ps
  pub fresh : AllNew ps
