-- A capsule reads no register past its width: what those hold is all the same to it.
use Rattle.std.proofs.Common.{◌≡◌, ◌≤◌, ◌+◌, ◌-◌, ◌∙◌, ◌==◌, ◌+ℤ◌, ◌-ℤ◌, ◌*ℤ◌, int_lt, int_le, ℕ, zero, suc, max, List, [], ◌∷◌, take, replicate, map, option_map, get_or, slice_get, slice_set, ltb, Option, Some, if◌then◌else◌, Bool, true, false, sym, refl, ap, arith}
use Rattle.std.proofs.lemmas.Bool.{ltb-false, ltb-true}
use Rattle.std.proofs.Math.Nat.{le-max_left, le-max_right}
use Rattle.std.proofs.Math.Seq.{take-set-lt}
use Rattle.std.proofs.lemmas.List.{get_or-take, take-set-le}
use Rattle.std.proofs.lemmas.Option.{get_or_from_slice_get, slice_get-map}
use Rattle.ppm_words.specs.TwosComplement.{value_of}
use Rattle.ppm_strands.specs.Capsule.{Capsule, Reads, Writes, Asks as AsksFor}
use Rattle.ppm_code.specs.Acts.{does, held, whole, quotient_of, remainder_of, length_of, cut_left_of, cut_right_of, at_element, element_of}
use Rattle.ppm_code.specs.Capsules.{at_step, at_act, capsule_from, capsule_of}
use Rattle.ppm_code.specs.Locations.{Where, location_of}
use Rattle.ppm_code.specs.declared.act.Act.{Act}
use Rattle.ppm_code.specs.declared.act.Act.TheVariants.{Sets, Passes, Jumps, Steps, Ends as Stops}
use Rattle.ppm_code.specs.declared.act.End.{End}
use Rattle.ppm_code.specs.declared.act.Step.{Step}
use Rattle.ppm_code.specs.declared.act.Step.TheVariants.{Loads, Stores, Asks}
use Rattle.ppm_code.specs.declared.instr.Instr.{Instr}
use Rattle.ppm_code.specs.declared.instr.Instr.TheVariants.{Const, Move, Add, Sub, Mul, Div, Rem, Equal, NotEqual, Less, AtMost, Len, CutLeft, CutRight}
use Rattle.ppm_code.specs.declared.instr.Instr.TheVariants.{LoadSlot, StoreCur, Give, Get, Put, BranchZero, BranchNonZero, Room, StoreNew, Ends}
use Rattle.ppm_code.specs.declared.location.FrameWord.TheVariants.{Slot, Value}
use Rattle.ppm_code.specs.declared.location.Location.TheVariants.{Frame, New, Array}
use Rattle.ppm_code.specs.declared.register.Register.{Register}
use Rattle.ppm_code.specs.declared.code.Capsule.{Capsule as Coded}
use Rattle.ppm_code.specs.declared.code.CodeParts.{CodeParts}
use Rattle.ppm_widths.specs.Widths.{AreWidths, up_to, up_to_both, instr_width, width_of}

-- a store of a register leaves registers alike that are alike up to there
set_same : (n : ℕ) (g h : List ℕ) → take n g ≡ take n h → (i v : ℕ) → take n (slice_set g i v) ≡ take n (slice_set h i v)
set_same n g h same i v = by_bool (ltb i n) refl
  where
    by_bool : (b : Bool) → ltb i n ≡ b → take n (slice_set g i v) ≡ take n (slice_set h i v)
    by_bool true less = take-set-lt n g i v (ltb-true i n less) ∙ ap (λ (l : List ℕ). slice_set l i v) same ∙ sym (take-set-lt n h i v (ltb-true i n less))
    by_bool false more = take-set-le n g i v (ltb-false i n more) ∙ same ∙ sym (take-set-le n h i v (ltb-false i n more))

module _ (n : ℕ) (g h : List ℕ) (same : take n g ≡ take n h) where
  -- a register up to there holds the same in both
  held_same : (r : Register) → up_to r ≤ n → held g r ≡ held h r
  held_same r few =
      sym (get_or-take n g r.index 0 (omega (arith, few)))
      ∙ ap (λ (l : List ℕ). get_or l r.index 0) same
      ∙ get_or-take n h r.index 0 (omega (arith, few))

  -- each of two registers up to there holds the same in both
  left_same : (a b : Register) → up_to_both a b ≤ n → held g a ≡ held h a
  left_same a b few = held_same a (omega (arith, few, le-max_left (up_to a) (up_to b)))

  right_same : (a b : Register) → up_to_both a b ≤ n → held g b ≡ held h b
  right_same a b few = held_same b (omega (arith, few, le-max_right (up_to a) (up_to b)))

  -- an instruction does the same by both
  does_same : (array_words : ℕ) (i : Instr) → instr_width i ≤ n → does array_words i g ≡ does array_words i h
  does_same aw (Const d v) few = refl
  does_same aw (Move d a) few = λ i. Sets d (held_same a few i)
  does_same aw (Add d a b line) few = λ i. whole line d (value_of (left_same a b few i) +ℤ value_of (right_same a b few i))
  does_same aw (Sub d a b line) few = λ i. whole line d (value_of (left_same a b few i) -ℤ value_of (right_same a b few i))
  does_same aw (Mul d a b line) few = λ i. whole line d (value_of (left_same a b few i) *ℤ value_of (right_same a b few i))
  does_same aw (Div d a b line) few = λ i. quotient_of line d (value_of (left_same a b few i)) (value_of (right_same a b few i))
  does_same aw (Rem d a b line) few = λ i. remainder_of line d (value_of (left_same a b few i)) (value_of (right_same a b few i))
  does_same aw (Equal d a b) few = λ i. Sets d (if left_same a b few i == right_same a b few i then 1 else 0)
  does_same aw (NotEqual d a b) few = λ i. Sets d (if left_same a b few i == right_same a b few i then 0 else 1)
  does_same aw (Less d a b) few = λ i. Sets d (if int_lt (value_of (left_same a b few i)) (value_of (right_same a b few i)) then 1 else 0)
  does_same aw (AtMost d a b) few = λ i. Sets d (if int_le (value_of (left_same a b few i)) (value_of (right_same a b few i)) then 1 else 0)
  does_same aw (Len d a) few = λ i. Sets d (length_of (held_same a few i))
  does_same aw (CutLeft d a b line) few = λ i. cut_left_of line d (left_same a b few i) (right_same a b few i)
  does_same aw (CutRight d a b line) few = λ i. cut_right_of line d (left_same a b few i) (right_same a b few i)
  does_same aw (LoadSlot d s) few = refl
  does_same aw (StoreCur s a) few = λ i. Steps (Stores (Frame (Slot s)) (held_same a few i))
  does_same aw (Give a) few = λ i. Steps (Stores (Frame Value) (held_same a few i))
  does_same aw (Get d a b line) few = λ i. at_element line (element_of aw (left_same a b few i) (right_same a b few i)) (λ x. Loads (Array x) d)
  does_same aw (Put a b s line) few =
      let both : up_to_both a b ≤ n = omega (arith, few, le-max_left (up_to_both a b) (up_to s)) in
      let from : up_to s ≤ n = omega (arith, few, le-max_right (up_to_both a b) (up_to s)) in
      λ i. at_element line (element_of aw (left_same a b both i) (right_same a b both i)) (λ x. Stores (Array x) (held_same s from i))
  does_same aw (BranchZero a t) few = λ i. if held_same a few i == 0 then Jumps t else Passes
  does_same aw (BranchNonZero a t) few = λ i. if held_same a few i == 0 then Passes else Jumps t
  does_same aw (Room m) few = refl
  does_same aw (StoreNew o a) few = λ i. Steps (Stores (New o) (held_same a few i))
  does_same aw (Ends e) few = refl

-- what goes on alike from registers that are alike
abbrev GoesAlike : (n : ℕ) → (ℕ → List ℕ → Capsule Where End) → Type 0
GoesAlike n go = (t : ℕ) (g h : List ℕ) → take n g ≡ take n h → go t g ≡ go t h

-- a step that is alike in both goes on alike, and so does any act
step_same : (n next : ℕ) (go : ℕ → List ℕ → Capsule Where End) → GoesAlike n go → (step : Step) (g h : List ℕ) → take n g ≡ take n h
    → at_step go next step g ≡ at_step go next step h
step_same n next go alike (Loads l d) g h same =
    λ i. Reads (location_of l) (λ v. alike next (slice_set g d.index v) (slice_set h d.index v) (set_same n g h same d.index v) i)
step_same n next go alike (Stores l v) g h same = λ i. Writes (location_of l) v (alike next g h same i)
step_same n next go alike (Asks m) g h same = λ i. AsksFor m (alike next g h same i)

act_same : (n next : ℕ) (go : ℕ → List ℕ → Capsule Where End) → GoesAlike n go → (act : Act) (g h : List ℕ) → take n g ≡ take n h
    → at_act go next act g ≡ at_act go next act h
act_same n next go alike (Sets d v) g h same = alike next (slice_set g d.index v) (slice_set h d.index v) (set_same n g h same d.index v)
act_same n next go alike Passes g h same = alike next g h same
act_same n next go alike (Jumps t) g h same = alike (max t next) g h same
act_same n next go alike (Steps s) g h same = step_same n next go alike s g h same
act_same n next go alike (Stops e) g h same = refl

-- what is left of a capsule that reads no register past there goes on alike
capsule_same : (n array_words here skip : ℕ) (is : List Instr) → width_of is ≤ n → (g h : List ℕ) → take n g ≡ take n h
    → capsule_from array_words here skip is g ≡ capsule_from array_words here skip is h
capsule_same n aw here skip [] few g h same = refl
capsule_same n aw here (suc skip) (i ∷ is) few g h same =
    capsule_same n aw (here + 1) skip is (omega (arith, few, le-max_right (instr_width i) (width_of is))) g h same
capsule_same n aw here zero (i ∷ is) few g h same =
    let go : ℕ → List ℕ → Capsule Where End = λ t l. capsule_from aw (here + 1) (t - (here + 1)) is l in
    let rest : width_of is ≤ n = omega (arith, few, le-max_right (instr_width i) (width_of is)) in
    ap (λ (act : Act). at_act go (here + 1) act g) (does_same n g h same aw i (omega (arith, few, le-max_left (instr_width i) (width_of is))))
    ∙ act_same n (here + 1) go (λ t l m alike. capsule_same n aw (here + 1) (t - (here + 1)) is rest l m alike) (does aw i h) g h same

-- a capsule begins as with 0 in all registers where those hold 0 that it reads
pub begins_same : (array_words : ℕ) (is : List Instr) (g : List ℕ) → take (width_of is) g ≡ take (width_of is) (replicate 64 0)
    → capsule_of array_words is ≡ capsule_from array_words 0 0 is g
begins_same aw is g same = sym (capsule_same (width_of is) aw 0 0 is (omega arith) g (replicate 64 0) same)

-- the width of a capsule stands in the list of widths
pub width_at : (code : CodeParts) (widths : List ℕ) (number d : ℕ) (capsule : Coded) → AreWidths code widths → slice_get code.capsules number ≡ Some capsule
    → get_or widths number d ≡ width_of capsule.instrs
width_at code widths number d capsule are is =
    let width : Coded → ℕ = λ (c : Coded). width_of c.instrs in
    ap (λ (list : List ℕ). get_or list number d) are
    ∙ get_or_from_slice_get (map width code.capsules) number (width capsule) d
    (slice_get-map width code.capsules number ∙ ap (λ (o : Option Coded). option_map width o) is)
