-- Array words that a capsule reads and writes lie within those of the shape.
use Rattle.std.proofs.Common.{◌≡◌, ◌<◌, ℕ, zero, suc, ◌+◌, ◌-◌, ◌==◌, max, cond, Bool, true, false, List, [], ◌∷◌, Some, None}
use Rattle.std.proofs.Common.{refl, subst, slice_set}
use Rattle.std.specs.Prelude.{replicate, ℤ, ◌+ℤ◌, ◌-ℤ◌, ◌*ℤ◌, int_div, int_rem, nat_lt, ◌&&◌, if◌then◌else◌}
use Rattle.std.proofs.lemmas.Bool.{ltb-true}
use Rattle.ppm_words.specs.TwosComplement.{value_of, word_of}
use Rattle.ppm_words.specs.declared.trap.Trap.{Trap}
use Rattle.ppm_words.specs.declared.trap.Trap.TheVariants.{Overflow, DivZero, Split}
use Rattle.ppm_strands.specs.Capsule.{Capsule, Reads, Writes, Asks as AsksFor, Ends, Memory}
use Rattle.ppm_strands.specs.EndStores.{storing, with_end_stores}
use Rattle.ppm_strands.specs.Stopped.{Progress, one, steps}
use Rattle.ppm_strands.specs.Strand.{Own, New, Shared}
use Rattle.ppm_code.specs.Acts.{held, does, start_of, length_of, traps, element_of, at_element, divided, fits, is_zero}
use Rattle.ppm_code.specs.Capsules.{capsule_from, capsule_of, at_act}
use Rattle.ppm_code.specs.Locations.{Where, location_of, code_locations}
use Rattle.ppm_code.specs.Strands.{instrs_of}
use Rattle.ppm_code.specs.declared.act.Act.{Act}
use Rattle.ppm_code.specs.declared.act.Act.TheVariants.{Sets, Passes, Jumps, Steps, Ends as Stops}
use Rattle.ppm_code.specs.declared.act.End.{End}
use Rattle.ppm_code.specs.declared.act.Step.{Step}
use Rattle.ppm_code.specs.declared.act.Step.TheVariants.{Loads, Stores, Asks}
use Rattle.ppm_code.specs.declared.code.CodeParts.{CodeParts}
use Rattle.ppm_code.specs.declared.instr.Instr.{Instr}
use Rattle.ppm_code.specs.declared.instr.Instr.TheVariants.{Const, Move, Add, Sub, Mul, Div, Rem, Equal, NotEqual, Less, AtMost, Len, CutLeft, CutRight}
use Rattle.ppm_code.specs.declared.instr.Instr.TheVariants.{LoadSlot, StoreCur, Give, Get, Put, BranchZero, BranchNonZero, Room, StoreNew, Ends as EndsWith}
use Rattle.ppm_code.specs.declared.location.Location.TheVariants.{Array as ArrayWord}
use Rattle.ppm_code.specs.declared.register.Register.{Register}
use Rattle.ppm_step.specs.declared.content.Content.{Content}
use Rattle.ppm_step.specs.declared.frame.Home.{Home}
use Rattle.ppm_ends.specs.Ends.{block_stores, located}

-- a location within so many array words
abbrev pub Low : ℕ → Where → Type 0
Low words (Shared x) = x < words
Low words (Own w) = Unit {0}
Low words (New o) = Unit {0}

-- all locations of a capsule are within so many array words
abbrev pub InArrays : ℕ → Capsule Where End → Type 0
InArrays words (Reads l go) = Low words l × ((v : ℕ) → InArrays words (go v))
InArrays words (Writes l v go) = Low words l × InArrays words go
InArrays words (AsksFor n go) = InArrays words go
InArrays words (Ends e) = Unit {0}

-- a word of a new block
abbrev IsNew : Where → Type 0
IsNew (New o) = Unit {0}
IsNew _ = ⊥

abbrev AllNew : List (Where × ℕ) → Type 0
AllNew [] = Unit {0}
AllNew (p ∷ ps) = IsNew p.0 × AllNew ps

module _ (words : ℕ) where
  abbrev ActLow : Act → Type 0
  ActLow (Steps (Loads l d)) = Low words (location_of l)
  ActLow (Steps (Stores l v)) = Low words (location_of l)
  ActLow _ = Unit {0}

  set_low : (t : Bool) (line : ℕ) (trap : Trap) (d : Register) (v : ℕ) → ActLow (cond t (Sets d v) (traps trap line))
  set_low true line trap d v = tt
  set_low false line trap d v = tt

  divided_low : (line : ℕ) (d : Register) (x y z : ℤ) → ActLow (divided line d x y z)
  divided_low line d x y z = by (is_zero y)
    where
      by : (t : Bool) → ActLow (cond t (traps DivZero line) (cond (fits (int_div x y)) (Sets d (word_of z)) (traps Overflow line)))
      by true = tt
      by false = set_low (fits (int_div x y)) line Overflow d (word_of z)

  branch_low : (b : Bool) (t : ℕ) → ActLow (cond b (Jumps t) Passes)
  branch_low true t = tt
  branch_low false t = tt

  branch_not_low : (b : Bool) (t : ℕ) → ActLow (cond b Passes (Jumps t))
  branch_not_low true t = tt
  branch_not_low false t = tt

  -- the element that is named, if one is
  element_low : (line region index : ℕ) (step : ℕ → Step) → ((x : ℕ) → x < words → ActLow (Steps (step x))) → ActLow (at_element line (element_of words region index) step)
  element_low line region index step each = by (nat_lt index (length_of region)) (nat_lt (start_of region + index) words) refl
    where
      by : (a b : Bool) → nat_lt (start_of region + index) words ≡ b → ActLow (at_element line (if a && b then Some (start_of region + index) else None) step)
      by true true e = each (start_of region + index) (ltb-true (start_of region + index) words e)
      by true false e = tt
      by false b e = tt

  does_low : (i : Instr) (g : List ℕ) → ActLow (does words i g)
  does_low (Const d v) g = tt
  does_low (Move d r) g = tt
  does_low (Add d r q l) g = set_low (fits (value_of (held g r) +ℤ value_of (held g q))) l Overflow d _
  does_low (Sub d r q l) g = set_low (fits (value_of (held g r) -ℤ value_of (held g q))) l Overflow d _
  does_low (Mul d r q l) g = set_low (fits (value_of (held g r) *ℤ value_of (held g q))) l Overflow d _
  does_low (Div d r q l) g = divided_low l d (value_of (held g r)) (value_of (held g q)) (int_div (value_of (held g r)) (value_of (held g q)))
  does_low (Rem d r q l) g = divided_low l d (value_of (held g r)) (value_of (held g q)) (int_rem (value_of (held g r)) (value_of (held g q)))
  does_low (Equal d r q) g = tt
  does_low (NotEqual d r q) g = tt
  does_low (Less d r q) g = tt
  does_low (AtMost d r q) g = tt
  does_low (Len d r) g = tt
  does_low (CutLeft d r q l) g = set_low _ l Split d _
  does_low (CutRight d r q l) g = set_low _ l Split d _
  does_low (LoadSlot d i) g = tt
  does_low (StoreCur i r) g = tt
  does_low (Give r) g = tt
  does_low (Get d r q l) g = element_low l (held g r) (held g q) (λ x. Loads (ArrayWord x) d) (λ x lt. lt)
  does_low (Put r q f l) g = element_low l (held g r) (held g q) (λ x. Stores (ArrayWord x) (held g f)) (λ x lt. lt)
  does_low (BranchZero r t) g = branch_low (held g r == 0) t
  does_low (BranchNonZero r t) g = branch_not_low (held g r == 0) t
  does_low (Room n) g = tt
  does_low (StoreNew o r) g = tt
  does_low (EndsWith e) g = tt

  module _ (go : ℕ → List ℕ → Capsule Where End) (on : (t : ℕ) (h : List ℕ) → InArrays words (go t h)) where
    act_low : (next : ℕ) (a : Act) (g : List ℕ) → ActLow a → InArrays words (at_act go next a g)
    act_low next (Sets d v) g h = on next (slice_set g d.index v)
    act_low next Passes g h = on next g
    act_low next (Jumps u) g h = on (max u next) g
    act_low next (Steps (Loads l d)) g h = (h, λ v. on next (slice_set g d.index v))
    act_low next (Steps (Stores l v)) g h = (h, on next g)
    act_low next (Steps (Asks n)) g h = on next g
    act_low next (Stops e) g h = tt

  from_low : (is : List Instr) (here skip : ℕ) (g : List ℕ) → InArrays words (capsule_from words here skip is g)
  from_low [] here skip g = tt
  from_low (i ∷ is) here (suc skip) g = from_low is (here + 1) skip g
  from_low (i ∷ is) here zero g = act_low (λ t h. capsule_from words (here + 1) (t - (here + 1)) is h) (λ t h. from_low is (here + 1) (t - (here + 1)) h) (here + 1) (does words i g) g (does_low i g)

  module _ (tail : End → List (Where × ℕ)) (new : (e : End) → AllNew (tail e)) where
    stores_low : (ps : List (Where × ℕ)) (e : End) → AllNew ps → InArrays words (storing ps (Ends e))
    stores_low [] e h = tt
    stores_low (p ∷ ps) e h = (low_new p.0 h.0, stores_low ps e h.1)
      where
        low_new : (l : Where) → IsNew l → Low words l
        low_new (New o) h = tt
        low_new (Own w) h = absurd h
        low_new (Shared x) h = absurd h

    long_low : (c : Capsule Where End) → InArrays words c → InArrays words (with_end_stores tail c)
    long_low (Reads l go) h = (h.0, λ v. long_low (go v) (h.1 v))
    long_low (Writes l v go) h = (h.0, long_low go h.1)
    long_low (AsksFor n go) h = long_low go h
    long_low (Ends e) h = stores_low (tail e) e (new e)

  one_low : (g : Progress Where End) → InArrays words g.rest → InArrays words (one code_locations g).rest
  one_low g h = by g.rest g.words h
    where
      by : (c : Capsule Where End) (m : Memory Where) → InArrays words c → InArrays words (one code_locations (record { rest = c; words = m })).rest
      by (Reads l go) m h = h.1 (m l)
      by (Writes l v go) m h = h.1
      by (AsksFor n go) m h = h
      by (Ends e) m h = tt

  pub steps_low : (n : ℕ) (g : Progress Where End) → InArrays words g.rest → InArrays words (steps code_locations n g).rest
  steps_low zero g h = h
  steps_low (suc n) g h = steps_low n (one code_locations g) (one_low g h)

-- the stores of an end are into its block
located_new : (ps : List (ℕ × Content)) → AllNew (located ps)
located_new [] = tt
located_new (p ∷ ps) = (tt, located_new ps)

-- what is left of a closed capsule
pub left_low : (code : CodeParts) (words : ℕ) (home : Home) (number : ℕ) (left : Capsule Where End) (m : Memory Where) (n : ℕ)
    → steps code_locations n (record { rest = with_end_stores (λ e. located (block_stores code home e)) (capsule_of words (instrs_of code number)); words = m }) ≡ record { rest = left; words = m } → InArrays words left
left_low code words home number left m n e = subst (λ (g : Progress Where End). InArrays words g.rest) e
    (steps_low words n (record { rest = with_end_stores (λ e. located (block_stores code home e)) (capsule_of words (instrs_of code number)); words = m })
    (long_low words (λ e. located (block_stores code home e)) (λ e. located_new (block_stores code home e)) (capsule_of words (instrs_of code number)) (from_low words (instrs_of code number) 0 0 (replicate 64 0))))
