-- Capsules of a code store within the slots of their frames, and go on in frames of the same
-- procedure.
use Rattle.std.proofs.Common.{◌≡◌, ◌≤◌, ◌<◌, ℕ, zero, suc, ◌+◌, ◌-◌, ◌==◌, max, cond, Bool, true, false, List, [], ◌∷◌, length, Option, Some, None, inl, inr}
use Rattle.std.proofs.Common.{refl, sym, ap, ◌∙◌, subst, arith, slice_set}
use Rattle.std.specs.Prelude.{IfSome, replicate, map, get_or, slice_get, ℤ, ◌+ℤ◌, ◌-ℤ◌, ◌*ℤ◌, int_div, int_rem}
use Rattle.std.proofs.lemmas.Bool.{ne_eqb, cases_lt}
use Rattle.std.proofs.lemmas.List.{get_or_past, length-map}
use Rattle.std.proofs.lemmas.Option.{slice_get_past}
use Rattle.ppm_strands.specs.Tree.{Words}
use Rattle.ppm_words.specs.TwosComplement.{value_of, word_of}
use Rattle.ppm_words.specs.declared.trap.Trap.{Trap}
use Rattle.ppm_words.specs.declared.trap.Trap.TheVariants.{Overflow, DivZero, Split}
use Rattle.ppm_strands.specs.Capsule.{Capsule, Reads, Writes, Asks as AsksFor, Ends, Memory, In, ending, leaves, written, store}
use Rattle.ppm_strands.specs.Strand.{Own, New, Shared, Frame, own_of, new_of, start, opened}
use Rattle.ppm_code.specs.Acts.{held, does, traps, element_of, at_element, divided, fits, is_zero}
use Rattle.ppm_code.specs.Capsules.{capsule_from, capsule_of, at_act}
use Rattle.ppm_code.specs.Code.{IsCode, EndFits, Fits}
use Rattle.ppm_code.specs.Locations.{Where, location_of, code_locations}
use Rattle.ppm_code.specs.Sizes.{slots_of, left_at, right_at, procedure_at, slots_at}
use Rattle.ppm_code.specs.Strands.{Point, Result, Gave, Trapped, with_value, kept, resume, built, begun, root_of, entry_of, instrs_of, table_of}
use Rattle.ppm_code.specs.declared.act.Act.{Act}
use Rattle.ppm_code.specs.declared.act.Act.TheVariants.{Sets, Passes, Jumps, Steps, Ends as Stops}
use Rattle.ppm_code.specs.declared.act.End.{End}
use Rattle.ppm_code.specs.declared.act.End.TheVariants.{Next, Finish, Trap as Trapping, Call, Fork}
use Rattle.ppm_code.specs.declared.act.Step.{Step}
use Rattle.ppm_code.specs.declared.act.Step.TheVariants.{Loads, Stores, Asks}
use Rattle.ppm_code.specs.declared.code.CodeParts.{CodeParts}
use Rattle.ppm_code.specs.declared.instr.Instr.{Instr}
use Rattle.ppm_code.specs.declared.instr.Instr.TheVariants.{Const, Move, Add, Sub, Mul, Div, Rem, Equal, NotEqual, Less, AtMost, Len, CutLeft, CutRight}
use Rattle.ppm_code.specs.declared.instr.Instr.TheVariants.{LoadSlot, StoreCur, Give, Get, Put, BranchZero, BranchNonZero, Room, StoreNew, Ends as EndsWith}
use Rattle.ppm_code.specs.declared.location.FrameWord.{FrameWord}
use Rattle.ppm_code.specs.declared.location.FrameWord.TheVariants.{Slot, Value}
use Rattle.ppm_code.specs.declared.location.Location.TheVariants.{Array as ArrayWord}
use Rattle.ppm_code.specs.declared.register.Register.{Register}
use Rattle.ppm_code.proofs.BuiltLemmas.{built_behind}
use Rattle.ppm_code.proofs.CodeLemmas.{instr_fits, procedure_is, entry_is}
use Rattle.ppm_slots.specs.Trim.{IsTrim, AreTrim, FramesStayTrim}

module _ (code : CodeParts) (procedure : ℕ) where
  abbrev slots : ℕ
  slots = slots_of code procedure

  -- a slot of the frame, or none of its slots
  abbrev IsInside : Where → Type 0
  IsInside (Own (Slot i)) = i < slots
  IsInside (Own Value) = Unit {0}
  IsInside (New o) = Unit {0}
  IsInside (Shared x) = Unit {0}

  -- the frame goes on in the same procedure, takes values in its slots, and opens frames of their
  -- procedures
  abbrev StaysIn : End → Type 0
  StaysIn (Next k) = procedure_at code k ≡ procedure
  StaysIn Finish = Unit {0}
  StaysIn (Trapping trap line) = Unit {0}
  StaysIn (Call q k to) = (procedure_at code k ≡ procedure) × IfSome to (λ slot. slot < slots) × (procedure_at code (entry_of code q) ≡ q)
  StaysIn (Fork l r k left_to right_to) =
      (procedure_at code k ≡ procedure) × IfSome left_to (λ slot. slot < slots) × IfSome right_to (λ slot. slot < slots)
      × (procedure_at code (entry_of code l) ≡ l) × (procedure_at code (entry_of code r) ≡ r)

  -- all paths of a capsule store in the frame's slots, or in none of them, and come to such ends
  abbrev Within : Capsule Where End → Type 0
  Within (Reads l go) = (v : ℕ) → Within (go v)
  Within (Writes l v go) = IsInside l × Within go
  Within (AsksFor n go) = Within go
  Within (Ends e) = StaysIn e

  store_behind : (m : Memory Where) (l : Where) (v i : ℕ) → IsInside l → slots ≤ i → store code_locations m l v (Own (Slot i)) ≡ m (Own (Slot i))
  store_behind m (Own (Slot j)) v i inside low =
      ap (λ (b : Bool). cond b v (m (Own (Slot i)))) (ne_eqb i j (λ e. omega (arith, e, inside, low)))
  store_behind m (Own Value) v i inside low = refl
  store_behind m (New o) v i inside low = refl
  store_behind m (Shared x) v i inside low = refl

  leaves_behind : (p : Capsule Where End) (m : Memory Where) → Within p → (i : ℕ) → slots ≤ i
      → leaves code_locations p m (Own (Slot i)) ≡ m (Own (Slot i))
  leaves_behind (Reads l go) m h i low = leaves_behind (go (m l)) m (h (m l)) i low
  leaves_behind (Writes l v go) m h i low =
      leaves_behind go (store code_locations m l v) h.1 i low ∙ store_behind m l v i h.0 low
  leaves_behind (AsksFor n go) m h i low = leaves_behind go m h i low
  leaves_behind (Ends e) m h i low = refl

  ends_within : (p : Capsule Where End) (m : Memory Where) → Within p → StaysIn (ending code_locations p m)
  ends_within (Reads l go) m h = ends_within (go (m l)) m (h (m l))
  ends_within (Writes l v go) m h = ends_within go (store code_locations m l v) h.1
  ends_within (AsksFor n go) m h = ends_within go m h
  ends_within (Ends e) m h = h

  writes_within : (p : Capsule Where End) (m : Memory Where) → Within p → (l : Where) → In l (written code_locations p m) → IsInside l
  writes_within (Reads l go) m h k i = writes_within (go (m l)) m (h (m l)) k i
  writes_within (Writes l v go) m h k (inl e) = subst IsInside (sym e) h.0
  writes_within (Writes l v go) m h k (inr i) = writes_within go (store code_locations m l v) h.1 k i
  writes_within (AsksFor n go) m h k i = writes_within go m h k i
  writes_within (Ends e) m h k i = absurd i

  -- instructions, and their acts
  abbrev InstrWithin : Instr → Type 0
  InstrWithin (StoreCur slot from) = slot < slots
  InstrWithin (EndsWith e) = StaysIn e
  InstrWithin _ = Unit {0}

  abbrev ActWithin : Act → Type 0
  ActWithin (Sets d v) = Unit {0}
  ActWithin Passes = Unit {0}
  ActWithin (Jumps t) = Unit {0}
  ActWithin (Steps (Loads l d)) = Unit {0}
  ActWithin (Steps (Stores l v)) = IsInside (location_of l)
  ActWithin (Steps (Asks n)) = Unit {0}
  ActWithin (Stops e) = StaysIn e

  set_within : (t : Bool) (line : ℕ) (trap : Trap) (d : Register) (v : ℕ) → ActWithin (cond t (Sets d v) (traps trap line))
  set_within true line trap d v = tt
  set_within false line trap d v = tt

  divided_within : (line : ℕ) (d : Register) (x y z : ℤ) → ActWithin (divided line d x y z)
  divided_within line d x y z = by (is_zero y)
    where
      by : (t : Bool) → ActWithin (cond t (traps DivZero line) (cond (fits (int_div x y)) (Sets d (word_of z)) (traps Overflow line)))
      by true = tt
      by false = set_within (fits (int_div x y)) line Overflow d (word_of z)

  element_within : (line : ℕ) (o : Option ℕ) (step : ℕ → Step) → ((x : ℕ) → ActWithin (Steps (step x))) → ActWithin (at_element line o step)
  element_within line None step each = tt
  element_within line (Some x) step each = each x

  branch_within : (b : Bool) (t : ℕ) → ActWithin (cond b (Jumps t) Passes)
  branch_within true t = tt
  branch_within false t = tt

  branch_not_within : (b : Bool) (t : ℕ) → ActWithin (cond b Passes (Jumps t))
  branch_not_within true t = tt
  branch_not_within false t = tt

  does_within : (words : ℕ) (i : Instr) (g : List ℕ) → InstrWithin i → ActWithin (does words i g)
  does_within words (Const d v) g h = tt
  does_within words (Move d r) g h = tt
  does_within words (Add d r q l) g h = set_within (fits (value_of (held g r) +ℤ value_of (held g q))) l Overflow d _
  does_within words (Sub d r q l) g h = set_within (fits (value_of (held g r) -ℤ value_of (held g q))) l Overflow d _
  does_within words (Mul d r q l) g h = set_within (fits (value_of (held g r) *ℤ value_of (held g q))) l Overflow d _
  does_within words (Div d r q l) g h =
      divided_within l d (value_of (held g r)) (value_of (held g q)) (int_div (value_of (held g r)) (value_of (held g q)))
  does_within words (Rem d r q l) g h =
      divided_within l d (value_of (held g r)) (value_of (held g q)) (int_rem (value_of (held g r)) (value_of (held g q)))
  does_within words (Equal d r q) g h = tt
  does_within words (NotEqual d r q) g h = tt
  does_within words (Less d r q) g h = tt
  does_within words (AtMost d r q) g h = tt
  does_within words (Len d r) g h = tt
  does_within words (CutLeft d r q l) g h = set_within _ l Split d _
  does_within words (CutRight d r q l) g h = set_within _ l Split d _
  does_within words (LoadSlot d i) g h = tt
  does_within words (StoreCur i r) g h = h
  does_within words (Give r) g h = tt
  does_within words (Get d r q l) g h = element_within l (element_of words (held g r) (held g q)) (λ x. Loads (ArrayWord x) d) (λ x. tt)
  does_within words (Put r q f l) g h = element_within l (element_of words (held g r) (held g q)) (λ x. Stores (ArrayWord x) (held g f)) (λ x. tt)
  does_within words (BranchZero r t) g h = branch_within (held g r == 0) t
  does_within words (BranchNonZero r t) g h = branch_not_within (held g r == 0) t
  does_within words (Room n) g h = tt
  does_within words (StoreNew o r) g h = tt
  does_within words (EndsWith e) g h = h

  module _ (go : ℕ → List ℕ → Capsule Where End) (on : (t : ℕ) (h : List ℕ) → Within (go t h)) where
    act_within : (next : ℕ) (a : Act) (g : List ℕ) → ActWithin a → Within (at_act go next a g)
    act_within next (Sets d v) g h = on next (slice_set g d.index v)
    act_within next Passes g h = on next g
    act_within next (Jumps u) g h = on (max u next) g
    act_within next (Steps (Loads l d)) g h = λ v. on next (slice_set g d.index v)
    act_within next (Steps (Stores l v)) g h = (h, on next g)
    act_within next (Steps (Asks n)) g h = on next g
    act_within next (Stops e) g h = h

  -- instructions that all are
  abbrev AllWithin : List Instr → Type 0
  AllWithin is = (at : ℕ) (i : Instr) → slice_get is at ≡ Some i → InstrWithin i

  from_within : (words : ℕ) (is : List Instr) → AllWithin is → (here skip : ℕ) (g : List ℕ) → Within (capsule_from words here skip is g)
  from_within words [] all here skip g = tt
  from_within words (i ∷ is) all here (suc skip) g = from_within words is (λ at j e. all (suc at) j e) (here + 1) skip g
  from_within words (i ∷ is) all here zero g =
      act_within (λ t h. capsule_from words (here + 1) (t - (here + 1)) is h)
      (λ t h. from_within words is (λ at j e. all (suc at) j e) (here + 1) (t - (here + 1)) h)
      (here + 1) (does words i g) g (does_within words i g (all 0 i refl))

module _ (code : CodeParts) (is_code : IsCode code) where
  -- the entry of a procedure that is there
  entry_within : (q : ℕ) → q < length code.procedures → procedure_at code (entry_of code q) ≡ q
  entry_within q there = procedure_is code q (entry_of code q) (entry_is code is_code q there)

  end_within : (p : ℕ) (is : List Instr) (e : End) → EndFits code p is e → StaysIn code p e
  end_within p is (Next k) h = procedure_is code p k h
  end_within p is Finish h = tt
  end_within p is (Trapping trap line) h = tt
  end_within p is (Call q k to) h = (procedure_is code p k h.1, h.2, entry_within q h.0)
  end_within p is (Fork l r k left_to right_to) h = (procedure_is code p k h.2, h.3, h.4, entry_within l h.0, entry_within r h.1)

  instr_within : (p : ℕ) (is : List Instr) (at : ℕ) (i : Instr) → Fits code p is at i → InstrWithin code p i
  instr_within p is at (StoreCur slot from) h = h
  instr_within p is at (EndsWith e) h = end_within p is e h
  instr_within p is at (Const d v) h = tt
  instr_within p is at (Move d r) h = tt
  instr_within p is at (Add d r q l) h = tt
  instr_within p is at (Sub d r q l) h = tt
  instr_within p is at (Mul d r q l) h = tt
  instr_within p is at (Div d r q l) h = tt
  instr_within p is at (Rem d r q l) h = tt
  instr_within p is at (Equal d r q) h = tt
  instr_within p is at (NotEqual d r q) h = tt
  instr_within p is at (Less d r q) h = tt
  instr_within p is at (AtMost d r q) h = tt
  instr_within p is at (Len d r) h = tt
  instr_within p is at (CutLeft d r q l) h = tt
  instr_within p is at (CutRight d r q l) h = tt
  instr_within p is at (LoadSlot d i) h = tt
  instr_within p is at (Give r) h = tt
  instr_within p is at (Get d r q l) h = tt
  instr_within p is at (Put r q f l) h = tt
  instr_within p is at (BranchZero r t) h = tt
  instr_within p is at (BranchNonZero r t) h = tt
  instr_within p is at (Room n) h = tt
  instr_within p is at (StoreNew o r) h = tt

  -- where there is no capsule there are no instructions
  none_past : (number : ℕ) → length code.capsules ≤ number → instrs_of code number ≡ []
  none_past number low = rw (slice_get_past code.capsules number low) refl

  capsule_within : (words number : ℕ) → Within code (procedure_at code number) (capsule_of words (instrs_of code number))
  capsule_within words number = elim (cases_lt number (length code.capsules)) [
    | inl less ↦
        from_within code (procedure_at code number) words (instrs_of code number)
        (λ at i e. instr_within (procedure_at code number) (instrs_of code number) at i (instr_fits code is_code number at i less e))
        0 0 (replicate 64 0)
    | inr low ↦
        subst (λ (is : List Instr). Within code (procedure_at code number) (capsule_of words is)) (sym (none_past number low)) tt
  ]

  -- a frame that goes on elsewhere in its procedure
  moved : (k p : ℕ) (own : FrameWord → ℕ) (left_to to : Option ℕ) → procedure_at code k ≡ p
      → ((i : ℕ) → slots_of code p ≤ i → own (Slot i) ≡ 0) → IfSome left_to (λ slot. slot < slots_of code p)
      → IfSome to (λ slot. slot < slots_of code p)
      → IsTrim code (record { own = own; point = record { capsule = k; left_to = left_to; to = to } })
  moved k p own left_to to same behind left_target target =
      let slots_are : slots_of code p ≡ slots_at code k = ap (slots_of code) (sym same) in record {
        behind = λ i low. behind i (subst (λ (n : ℕ). n ≤ i) (sym slots_are) low);
        left_target = subst (λ (n : ℕ). IfSome left_to (λ slot. slot < n)) slots_are left_target;
        target = subst (λ (n : ℕ). IfSome to (λ slot. slot < n)) slots_are target;
      }

  -- a frame that is begun
  begins : (q offset : ℕ) (block : ℕ → ℕ) → procedure_at code (entry_of code q) ≡ q → AreTrim code (begun code q (built (slots_of code q) offset block))
  begins q offset block same =
      moved (entry_of code q) q (built (slots_of code q) offset block) None None same (λ i low. built_behind (slots_of code q) offset block i low) tt tt

  opens_trim : (words : ℕ) (point : Point) (e : End) (m : Memory Where) → StaysIn code (procedure_at code point.capsule) e
      → ((i : ℕ) → slots_at code point.capsule ≤ i → m (Own (Slot i)) ≡ 0)
      → AreTrim code (opened code_locations (table_of code words) point e m)
  opens_trim words point (Next k) m h behind = moved k (procedure_at code point.capsule) (own_of m) None None h behind tt tt
  opens_trim words point Finish m h behind = tt
  opens_trim words point (Trapping trap line) m h behind = tt
  opens_trim words point (Call q k to) m h behind =
      (moved k (procedure_at code point.capsule) (own_of m) None to h.0 behind tt h.1, begins q 0 (new_of m) h.2)
  opens_trim words point (Fork l r k left_to right_to) m h behind = (
    moved k (procedure_at code point.capsule) (own_of m) left_to right_to h.0 behind h.1 h.2,
    begins l left_at (new_of m) h.3,
    begins r (right_at code l) (new_of m) h.4,
  )

  -- with a value in one of its slots
  valued : (slots : ℕ) (to : Option ℕ) (v : ℕ) (own : FrameWord → ℕ) → IfSome to (λ slot. slot < slots)
      → ((i : ℕ) → slots ≤ i → own (Slot i) ≡ 0) → (i : ℕ) → slots ≤ i → with_value to v own (Slot i) ≡ 0
  valued slots None v own less behind i low = behind i low
  valued slots (Some slot) v own less behind i low =
      ap (λ (b : Bool). cond b v (own (Slot i))) (ne_eqb i slot (λ e. omega (arith, e, less, low))) ∙ behind i low

  keeps_trim : (f : Frame FrameWord Point) (o : Result) → IsTrim code f → IsTrim code (kept f o)
  keeps_trim f (Trapped trap line) h = h
  keeps_trim f (Gave v) h = record {
    behind = valued (slots_at code f.point.capsule) f.point.left_to v f.own h.left_target h.behind;
    left_target = tt;
    target = h.target;
  }

  resumes_trim : (f : Frame FrameWord Point) (o : Result) → IsTrim code f → AreTrim code (resume f o)
  resumes_trim f (Trapped trap line) h = tt
  resumes_trim f (Gave v) h = record {
    behind = valued (slots_at code f.point.capsule) f.point.to v f.own h.target h.behind;
    left_target = tt;
    target = tt;
  }

  -- the root's frame
  root_trim : (word_at : ℕ → ℕ) (own : FrameWord → ℕ) → ((i : ℕ) → own (Slot i) ≡ get_or (map word_at code.arrays) i 0) → AreTrim code (root_of code own)
  root_trim word_at own same = moved (entry_of code code.root) code.root own None None
      (procedure_is code code.root (entry_of code code.root) (entry_is code is_code code.root is_code.root))
      (λ i low. same i ∙ get_or_past (map word_at code.arrays) i 0 (let n = length-map code.arrays word_at in let slots = is_code.root_slots in omega (arith, n, slots, low))) tt tt

pub frames_stay_trim : FramesStayTrim
frames_stay_trim code words is_code = record {
  root = root_trim code is_code;
  opens = λ f a h.
      let p = capsule_of words (instrs_of code f.point.capsule) in
      let m = start code_locations (table_of code words) f a in
      let within = capsule_within code is_code words f.point.capsule in
      opens_trim code is_code words f.point (ending code_locations p m) (leaves code_locations p m)
      (ends_within code (procedure_at code f.point.capsule) p m within)
      (λ i low. leaves_behind code (procedure_at code f.point.capsule) p m within i low ∙ h.behind i low);
  keeps = keeps_trim code is_code;
  goes_on = resumes_trim code is_code;
  stores = λ number i m h.
      writes_within code (procedure_at code number) (capsule_of words (instrs_of code number)) m (capsule_within code is_code words number)
      (Own (Slot i)) h;
}

-- what a capsule leaves after the slots of its frame
pub leaves_trim : (code : CodeParts) (words : ℕ) → IsCode code → (f : Frame FrameWord Point) (a : Words) → IsTrim code f
    → (i : ℕ) → slots_at code f.point.capsule ≤ i
    → leaves code_locations (capsule_of words (instrs_of code f.point.capsule)) (start code_locations (table_of code words) f a) (Own (Slot i)) ≡ 0
leaves_trim code words is_code f a h i low =
    leaves_behind code (procedure_at code f.point.capsule) (capsule_of words (instrs_of code f.point.capsule))
    (start code_locations (table_of code words) f a) (capsule_within code is_code words f.point.capsule) i low
    ∙ h.behind i low
