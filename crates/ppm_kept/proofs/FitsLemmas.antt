-- Where a capsule of a code reads and writes: slots of its frame, words of its block that it asked
-- for; and its ends fit.
use Rattle.std.proofs.Common.{◌≡◌, ◌≤◌, ◌<◌, ℕ, zero, suc, ◌+◌, ◌-◌, ◌==◌, max, cond, Bool, true, false, List, [], ◌∷◌, length, Option, Some, None, inl, inr}
use Rattle.std.proofs.Common.{refl, sym, ap, ◌∙◌, subst, arith, slice_set}
use Rattle.std.specs.Prelude.{replicate, slice_get, ℤ, ◌+ℤ◌, ◌-ℤ◌, ◌*ℤ◌, int_div, int_rem}
use Rattle.std.proofs.lemmas.Bool.{cases_lt}
use Rattle.std.proofs.lemmas.Option.{slice_get_past}
use Rattle.ppm_words.specs.TwosComplement.{value_of, word_of}
use Rattle.ppm_words.specs.declared.trap.Trap.{Trap}
use Rattle.ppm_words.specs.declared.trap.Trap.TheVariants.{Overflow, DivZero, Split}
use Rattle.ppm_strands.specs.Capsule.{Capsule, Reads, Writes, Asks as AsksFor, Ends, Memory}
use Rattle.ppm_strands.specs.EndStores.{storing, with_end_stores}
use Rattle.ppm_strands.specs.Stopped.{Progress, one, steps}
use Rattle.ppm_code.specs.Acts.{held, does, traps, element_of, at_element, divided, fits, is_zero}
use Rattle.ppm_code.specs.Capsules.{capsule_from, capsule_of, at_act}
use Rattle.ppm_code.specs.Code.{IsCode, IsLine, EndFits, Fits, room_of}
use Rattle.ppm_code.specs.Locations.{Where, location_of, code_locations}
use Rattle.ppm_code.specs.Sizes.{slots_of, frame_size, fork_size, procedure_at}
use Rattle.ppm_code.specs.Strands.{instrs_of}
use Rattle.ppm_code.specs.declared.act.Act.{Act}
use Rattle.ppm_code.specs.declared.act.Act.TheVariants.{Sets, Passes, Jumps, Steps, Ends as Stops}
use Rattle.ppm_code.specs.declared.act.End.{End}
use Rattle.ppm_code.specs.declared.act.End.TheVariants.{Next, Finish, Trap as Trapping, Call, Fork}
use Rattle.ppm_code.specs.declared.act.Step.{Step}
use Rattle.ppm_code.specs.declared.act.Step.TheVariants.{Loads, Stores, Asks}
use Rattle.ppm_code.specs.declared.code.CodeParts.{CodeParts}
use Rattle.ppm_code.specs.declared.instr.Instr.{Instr}
use Rattle.ppm_code.specs.declared.instr.Instr.TheVariants.{Const, Move, Add, Sub, Mul, Div, Rem, Equal, NotEqual, Less, AtMost, Len, CutLeft, CutRight}
use Rattle.ppm_code.specs.declared.instr.Instr.TheVariants.{LoadSlot, StoreCur, Give, Get, Put, BranchZero, BranchNonZero, Room, StoreNew, Ends as EndsWith}
use Rattle.ppm_code.specs.declared.location.Location.TheVariants.{Array as ArrayWord}
use Rattle.ppm_code.specs.declared.register.Register.{Register}
use Rattle.ppm_code.proofs.CodeLemmas.{instr_fits}
use Rattle.ppm_step.specs.declared.content.Content.{Content}
use Rattle.ppm_step.specs.declared.frame.Home.{Home}
use Rattle.ppm_ends.specs.Ends.{block_stores, located, call_stores, fork_stores_by}
use Rattle.ppm_frames.specs.Seen.{IsIn}
use Rattle.ppm_kept.specs.Running.{room_or}

module _ (code : CodeParts) (procedure : ℕ) (instrs : List Instr) where
  abbrev slots : ℕ
  slots = slots_of code procedure

  abbrev size : ℕ
  size = room_or (room_of instrs)

  -- all paths of a capsule
  abbrev pub FitsAll : Capsule Where End → Type 0
  FitsAll (Reads l go) = IsIn slots size l × ((v : ℕ) → FitsAll (go v))
  FitsAll (Writes l v go) = IsIn slots size l × FitsAll go
  FitsAll (AsksFor n go) = (n ≡ size) × FitsAll go
  FitsAll (Ends e) = EndFits code procedure instrs e

  -- instructions, and their acts
  abbrev InstrFits : Instr → Type 0
  InstrFits (Add d r q l) = IsLine l
  InstrFits (Sub d r q l) = IsLine l
  InstrFits (Mul d r q l) = IsLine l
  InstrFits (Div d r q l) = IsLine l
  InstrFits (Rem d r q l) = IsLine l
  InstrFits (CutLeft d r q l) = IsLine l
  InstrFits (CutRight d r q l) = IsLine l
  InstrFits (Get d r q l) = IsLine l
  InstrFits (Put r q f l) = IsLine l
  InstrFits (LoadSlot d slot) = slot < slots
  InstrFits (StoreCur slot from) = slot < slots
  InstrFits (Room n) = n ≡ size
  InstrFits (StoreNew o r) = o < size
  InstrFits (EndsWith e) = EndFits code procedure instrs e
  InstrFits _ = Unit {0}

  abbrev ActFits : Act → Type 0
  ActFits (Sets d v) = Unit {0}
  ActFits Passes = Unit {0}
  ActFits (Jumps t) = Unit {0}
  ActFits (Steps (Loads l d)) = IsIn slots size (location_of l)
  ActFits (Steps (Stores l v)) = IsIn slots size (location_of l)
  ActFits (Steps (Asks n)) = n ≡ size
  ActFits (Stops e) = EndFits code procedure instrs e

  set_fits : (t : Bool) (line : ℕ) (trap : Trap) (d : Register) (v : ℕ) → IsLine line → ActFits (cond t (Sets d v) (traps trap line))
  set_fits true line trap d v h = tt
  set_fits false line trap d v h = h

  divided_fits : (line : ℕ) (d : Register) (x y z : ℤ) → IsLine line → ActFits (divided line d x y z)
  divided_fits line d x y z h = by (is_zero y)
    where
      by : (t : Bool) → ActFits (cond t (traps DivZero line) (cond (fits (int_div x y)) (Sets d (word_of z)) (traps Overflow line)))
      by true = h
      by false = set_fits (fits (int_div x y)) line Overflow d (word_of z) h

  element_fits : (line : ℕ) (o : Option ℕ) (step : ℕ → Step) → IsLine line → ((x : ℕ) → ActFits (Steps (step x))) → ActFits (at_element line o step)
  element_fits line None step h each = h
  element_fits line (Some x) step h each = each x

  branch_fits : (b : Bool) (t : ℕ) → ActFits (cond b (Jumps t) Passes)
  branch_fits true t = tt
  branch_fits false t = tt

  branch_not_fits : (b : Bool) (t : ℕ) → ActFits (cond b Passes (Jumps t))
  branch_not_fits true t = tt
  branch_not_fits false t = tt

  does_fits : (words : ℕ) (i : Instr) (g : List ℕ) → InstrFits i → ActFits (does words i g)
  does_fits words (Const d v) g h = tt
  does_fits words (Move d r) g h = tt
  does_fits words (Add d r q l) g h = set_fits (fits (value_of (held g r) +ℤ value_of (held g q))) l Overflow d _ h
  does_fits words (Sub d r q l) g h = set_fits (fits (value_of (held g r) -ℤ value_of (held g q))) l Overflow d _ h
  does_fits words (Mul d r q l) g h = set_fits (fits (value_of (held g r) *ℤ value_of (held g q))) l Overflow d _ h
  does_fits words (Div d r q l) g h =
      divided_fits l d (value_of (held g r)) (value_of (held g q)) (int_div (value_of (held g r)) (value_of (held g q))) h
  does_fits words (Rem d r q l) g h =
      divided_fits l d (value_of (held g r)) (value_of (held g q)) (int_rem (value_of (held g r)) (value_of (held g q))) h
  does_fits words (Equal d r q) g h = tt
  does_fits words (NotEqual d r q) g h = tt
  does_fits words (Less d r q) g h = tt
  does_fits words (AtMost d r q) g h = tt
  does_fits words (Len d r) g h = tt
  does_fits words (CutLeft d r q l) g h = set_fits _ l Split d _ h
  does_fits words (CutRight d r q l) g h = set_fits _ l Split d _ h
  does_fits words (LoadSlot d i) g h = h
  does_fits words (StoreCur i r) g h = h
  does_fits words (Give r) g h = tt
  does_fits words (Get d r q l) g h = element_fits l (element_of words (held g r) (held g q)) (λ x. Loads (ArrayWord x) d) h (λ x. tt)
  does_fits words (Put r q f l) g h = element_fits l (element_of words (held g r) (held g q)) (λ x. Stores (ArrayWord x) (held g f)) h (λ x. tt)
  does_fits words (BranchZero r t) g h = branch_fits (held g r == 0) t
  does_fits words (BranchNonZero r t) g h = branch_not_fits (held g r == 0) t
  does_fits words (Room n) g h = h
  does_fits words (StoreNew o r) g h = h
  does_fits words (EndsWith e) g h = h

  module _ (go : ℕ → List ℕ → Capsule Where End) (on : (t : ℕ) (h : List ℕ) → FitsAll (go t h)) where
    act_fits : (next : ℕ) (a : Act) (g : List ℕ) → ActFits a → FitsAll (at_act go next a g)
    act_fits next (Sets d v) g h = on next (slice_set g d.index v)
    act_fits next Passes g h = on next g
    act_fits next (Jumps u) g h = on (max u next) g
    act_fits next (Steps (Loads l d)) g h = (h, λ v. on next (slice_set g d.index v))
    act_fits next (Steps (Stores l v)) g h = (h, on next g)
    act_fits next (Steps (Asks n)) g h = (h, on next g)
    act_fits next (Stops e) g h = h

  -- instructions that all are
  abbrev AllFits : List Instr → Type 0
  AllFits is = (at : ℕ) (i : Instr) → slice_get is at ≡ Some i → InstrFits i

  from_fits : (words : ℕ) (is : List Instr) → AllFits is → (here skip : ℕ) (g : List ℕ) → FitsAll (capsule_from words here skip is g)
  from_fits words [] all here skip g = tt
  from_fits words (i ∷ is) all here (suc skip) g = from_fits words is (λ at j e. all (suc at) j e) (here + 1) skip g
  from_fits words (i ∷ is) all here zero g =
      act_fits (λ t h. capsule_from words (here + 1) (t - (here + 1)) is h)
      (λ t h. from_fits words is (λ at j e. all (suc at) j e) (here + 1) (t - (here + 1)) h)
      (here + 1) (does words i g) g (does_fits words i g (all 0 i refl))

room_is : (n words : ℕ) (is : List Instr) → room_of is ≡ Some words → n ≡ words → n ≡ room_or (room_of is)
room_is n words is e h = h ∙ sym (ap room_or e)

-- room is asked for by the first instruction
first_room : (is : List Instr) (at n : ℕ) → slice_get is at ≡ Some (Room n) → at ≡ 0 → n ≡ room_or (room_of is)
first_room [] at n e z = absurd (cc)
first_room (i ∷ is) (suc at) n e z = absurd (omega (arith, z))
first_room (Room w ∷ is) zero n e z = cc
first_room (i ∷ is) zero n e z = subst (λ (j : Instr). n ≡ room_or (room_of (j ∷ is))) (sym (some i n e)) refl
  where
    some : (i : Instr) (n : ℕ) → Some i ≡ Some (Room n) → i ≡ Room n
    some i n e = cc

module _ (code : CodeParts) (is_code : IsCode code) where
  of_fits : (p : ℕ) (is : List Instr) (at : ℕ) (i : Instr) → slice_get is at ≡ Some i → Fits code p is at i → InstrFits code p is i
  of_fits p is at (Add d r q l) e h = h
  of_fits p is at (Sub d r q l) e h = h
  of_fits p is at (Mul d r q l) e h = h
  of_fits p is at (Div d r q l) e h = h
  of_fits p is at (Rem d r q l) e h = h
  of_fits p is at (CutLeft d r q l) e h = h
  of_fits p is at (CutRight d r q l) e h = h
  of_fits p is at (Get d r q l) e h = h
  of_fits p is at (Put r q f l) e h = h
  of_fits p is at (LoadSlot d slot) e h = h
  of_fits p is at (StoreCur slot from) e h = h
  of_fits p is at (Room n) e h = first_room is at n e h.0
  of_fits p is at (StoreNew o r) e h = subst (λ (n : ℕ). o < n) (sym (ap room_or h.1)) h.2
  of_fits p is at (EndsWith e) i h = h
  of_fits p is at (Const d v) e h = tt
  of_fits p is at (Move d r) e h = tt
  of_fits p is at (Equal d r q) e h = tt
  of_fits p is at (NotEqual d r q) e h = tt
  of_fits p is at (Less d r q) e h = tt
  of_fits p is at (AtMost d r q) e h = tt
  of_fits p is at (Len d r) e h = tt
  of_fits p is at (Give r) e h = tt
  of_fits p is at (BranchZero r t) e h = tt
  of_fits p is at (BranchNonZero r t) e h = tt

  none_past : (number : ℕ) → length code.capsules ≤ number → instrs_of code number ≡ []
  none_past number low = rw (slice_get_past code.capsules number low) refl

  pub capsule_fits : (words number : ℕ) → FitsAll code (procedure_at code number) (instrs_of code number) (capsule_of words (instrs_of code number))
  capsule_fits words number = elim (cases_lt number (length code.capsules)) [
    | inl less ↦
        from_fits code (procedure_at code number) (instrs_of code number) words (instrs_of code number)
        (λ at i e. of_fits (procedure_at code number) (instrs_of code number) at i e (instr_fits code is_code number at i less e))
        0 0 (replicate 64 0)
    | inr low ↦
        subst (λ (is : List Instr). FitsAll code (procedure_at code number) is (capsule_of words is)) (sym (none_past number low)) tt
  ]

  -- the stores of an end go into the block that was asked for
  abbrev pub AllBelow : ℕ → List (ℕ × Content) → Type 0
  AllBelow a [] = Unit {0}
  AllBelow a (p ∷ ps) = (p.0 < a) × AllBelow a ps

  call_below : (home : Home) (q a : ℕ) (to : Option ℕ) → frame_size code q ≡ a → AllBelow a (call_stores code home q to)
  call_below home q a None e = (omega (arith, e), (omega (arith, e), (omega (arith, e), tt)))
  call_below home q a (Some slot) e = (omega (arith, e), (omega (arith, e), (omega (arith, e), (omega (arith, e), tt))))

  fork_below : (home : Home) (l r a : ℕ) (lt rt : Option ℕ) → fork_size code l r ≡ a → AllBelow a (fork_stores_by code home l r lt rt)
  fork_below home l r a None None e = (omega (arith, e), (omega (arith, e), (omega (arith, e), (omega (arith, e), (omega (arith, e), (omega (arith, e), (omega (arith, e), (omega (arith, e), tt))))))))
  fork_below home l r a None (Some y) e = (omega (arith, e), (omega (arith, e), (omega (arith, e), (omega (arith, e), (omega (arith, e), (omega (arith, e), (omega (arith, e), (omega (arith, e), (omega (arith, e), (omega (arith, e), tt))))))))))
  fork_below home l r a (Some x) rt e = (omega (arith, e), (omega (arith, e), (omega (arith, e), (omega (arith, e), (omega (arith, e), (omega (arith, e), (omega (arith, e), (omega (arith, e), (omega (arith, e), (omega (arith, e), tt))))))))))

  module _ (home : Home) (p : ℕ) (is : List Instr) where
    pub below : (e : End) → EndFits code p is e → AllBelow (room_or (room_of is)) (block_stores code home e)
    below (Next k) h = tt
    below Finish h = tt
    below (Trapping trap line) h = tt
    below (Call q k to) h = call_below home q (room_or (room_of is)) to (sym (ap room_or h.3))
    below (Fork l r k lt rt) h = fork_below home l r (room_or (room_of is)) lt rt (sym (ap room_or h.5))

    stores_fit : (ps : List (ℕ × Content)) (e : End) → AllBelow (room_or (room_of is)) ps → EndFits code p is e → FitsAll code p is (storing (located ps) (Ends e))
    stores_fit [] e all h = h
    stores_fit (q ∷ ps) e all h = (all.0, stores_fit ps e all.1 h)

    pub long_fits : (c : Capsule Where End) → FitsAll code p is c → FitsAll code p is (with_end_stores (λ e. located (block_stores code home e)) c)
    long_fits (Reads l go) h = (h.0, λ v. long_fits (go v) (h.1 v))
    long_fits (Writes l v go) h = (h.0, long_fits go h.1)
    long_fits (AsksFor n go) h = (h.0, long_fits go h.1)
    long_fits (Ends e) h = stores_fit (block_stores code home e) e (below e h) h

  fits_one : (p : ℕ) (is : List Instr) (g : Progress Where End) → FitsAll code p is g.rest → FitsAll code p is (one code_locations g).rest
  fits_one p is g h = by g.rest g.words h
    where
      by : (c : Capsule Where End) (m : Memory Where) → FitsAll code p is c → FitsAll code p is (one code_locations (record { rest = c; words = m })).rest
      by (Reads l go) m h = h.1 (m l)
      by (Writes l v go) m h = h.1
      by (AsksFor n go) m h = h.1
      by (Ends e) m h = h

  pub fits_steps : (p : ℕ) (is : List Instr) (n : ℕ) (g : Progress Where End) → FitsAll code p is g.rest → FitsAll code p is (steps code_locations n g).rest
  fits_steps p is zero g h = h
  fits_steps p is (suc n) g h = fits_steps p is n (one code_locations g) (fits_one p is g h)
