-- What a capsule that may race does at a place: each instruction by what it may do.
use Rattle.std.proofs.Common.{◌≡◌, ◌≤◌, ℕ, zero, suc, ◌+◌, max, Bool, true, false, cond, List, [], ◌∷◌, Option, Some, None}
use Rattle.std.proofs.Common.{inl, inr, refl, sym, ap, subst, arith, slice_set}
use Rattle.std.specs.Prelude.{slice_get, ℤ, ◌==◌, ◌+ℤ◌, ◌-ℤ◌, ◌*ℤ◌, int_div, int_rem}
use Rattle.ppm_words.specs.declared.trap.Trap.{Trap}
use Rattle.ppm_words.specs.declared.trap.Trap.TheVariants.{Overflow, DivZero, Split, Index}
use Rattle.ppm_words.specs.TwosComplement.{value_of, word_of}
use Rattle.ppm_strands.specs.Capsule.{Capsule, Ends}
use Rattle.ppm_unseen.specs.Capsule.{Capsule as Racing, Loads as LoadsOwn, Keeps, Reads as FindsShared, Changes, constant}
use Rattle.ppm_code.specs.declared.class.Class.TheVariants.{Slot, New, Room, Array}
use Rattle.ppm_code.specs.declared.class.May.TheVariants.{Work, Read, Write, Branch}
use Rattle.ppm_code.specs.declared.location.FrameWord.{FrameWord}
use Rattle.ppm_code.specs.declared.location.FrameWord.TheVariants.{Slot as SlotWord, Value as ValueWord}
use Rattle.ppm_code.specs.declared.location.Location.TheVariants.{Array as ArrayWord}
use Rattle.ppm_code.specs.declared.act.End.{End}
use Rattle.ppm_code.specs.declared.act.End.TheVariants.{Next, Finish, Trap as Trapping, Call, Fork}
use Rattle.ppm_code.specs.declared.act.Act.{Act}
use Rattle.ppm_code.specs.declared.act.Act.TheVariants.{Sets, Passes, Jumps, Ends as Stops}
use Rattle.ppm_code.specs.declared.act.Step.TheVariants.{Loads, Stores}
use Rattle.ppm_code.specs.declared.register.Register.{Register}
use Rattle.ppm_code.specs.declared.instr.Instr.{Instr}
use Rattle.ppm_code.specs.declared.instr.Instr.TheVariants.{Const, Move, Add, Sub, Mul, Div, Rem, Equal, NotEqual, Less, AtMost, Len, CutLeft, CutRight}
use Rattle.ppm_code.specs.declared.instr.Instr.TheVariants.{LoadSlot, StoreCur, Give, Get, Put, BranchZero, BranchNonZero, Room as RoomFor, StoreNew, Ends as Ending}
use Rattle.ppm_code.specs.Acts.{does, held, traps, element_of, at_element, divided, fits, is_zero}
use Rattle.ppm_code.specs.Capsules.{capsule_from, at_act}
use Rattle.ppm_code.specs.Locations.{Where}
use Rattle.ppm_code.specs.Paths.{may, GoesTo, class_of}
use Rattle.ppm_code.proofs.CapsuleLemmas.{at_instr}
use Rattle.ppm_strands.specs.Strand.{Own}
use Rattle.ppm_filled.specs.Racing.{OwnWord, OfFrame, OfBlock, Exit, racing, ending, built_by}
use Rattle.ppm_filled.specs.Filled.{target_of, may_trap, is_stop, builds_by, builder_in, IsStop, builder_at}

-- where no instruction stands a capsule ends
pub none_there : (words here skip : ℕ) (is : List Instr) (g : List ℕ) → slice_get is skip ≡ None
    → capsule_from words here skip is g ≡ Ends Finish
none_there words here skip [] g none = refl
none_there words here zero (j ∷ is) g none = cc
none_there words here (suc skip) (j ∷ is) g none = none_there words (here + 1) skip is g none

-- whether an end is a trap
abbrev pub is_trap_end : End → Bool
is_trap_end (Trapping trap line) = true
is_trap_end (Next capsule) = false
is_trap_end Finish = false
is_trap_end (Call callee capsule to) = false
is_trap_end (Fork left right capsule left_to right_to) = false

module _ (words : ℕ) (is : List Instr) where
  -- what is left at a place, with these registers
  abbrev pub from : ℕ → List ℕ → Racing OwnWord Exit
  from at g = racing (built_by is) (capsule_from words 0 at is g)

  -- what it does there
  pub data Turn (at : ℕ) (g : List ℕ) : Racing OwnWord Exit → Type 0 where
    Halts : (e : End) → is_trap_end e ≡ false → IsStop is at → builder_at is at ≡ builds_by e → Turn at g (ending (built_by is) e)
    Fails : (i : Instr) (trap : Trap) (line : ℕ) → slice_get is at ≡ Some i → may_trap i ≡ true → Turn at g (ending (built_by is) (Trapping trap line))
    Works : (i : Instr) (d : Register) (v : ℕ) → slice_get is at ≡ Some i → may i ≡ Work → GoesTo (may i) at (at + 1)
        → Turn at g (from (at + 1) (slice_set g d.index v))
    Asks : (i : Instr) → slice_get is at ≡ Some i → may i ≡ Read Room → GoesTo (may i) at (at + 1) → Turn at g (from (at + 1) g)
    Branches : (i : Instr) (t to : ℕ) → slice_get is at ≡ Some i → may i ≡ Branch t → GoesTo (may i) at to → at + 1 ≤ to → Turn at g (from to g)
    Takes : (i : Instr) (d : Register) (s : ℕ) → slice_get is at ≡ Some i → may i ≡ Read (Slot s) → target_of i ≡ Some d → GoesTo (may i) at (at + 1)
        → Turn at g (LoadsOwn (OfFrame (SlotWord s)) (λ v. from (at + 1) (slice_set g d.index v)))
    Finds : (i : Instr) (d : Register) (x : ℕ) → slice_get is at ≡ Some i → may i ≡ Read Array → target_of i ≡ Some d → GoesTo (may i) at (at + 1)
        → Turn at g (FindsShared x (λ v. from (at + 1) (slice_set g d.index v)))
    Fills : (i : Instr) (k : FrameWord) (v : ℕ) → slice_get is at ≡ Some i → may i ≡ Write (class_of (Own k)) → GoesTo (may i) at (at + 1)
        → Turn at g (Keeps (OfFrame k) v (from (at + 1) g))
    Builds : (i : Instr) (o v : ℕ) → slice_get is at ≡ Some i → may i ≡ Write (New o) → GoesTo (may i) at (at + 1)
        → Turn at g (Keeps (OfBlock o) v (from (at + 1) g))
    Puts : (i : Instr) (x v : ℕ) → slice_get is at ≡ Some i → may i ≡ Write Array → GoesTo (may i) at (at + 1)
        → Turn at g (Changes x (constant v) (from (at + 1) g))

  module _ (at : ℕ) (g : List ℕ) where
    -- an act, as what is done by it
    abbrev Does : Act → Type 0
    Does a = Turn at g (racing (built_by is) (at_act (λ t h. capsule_from words 0 t is h) (at + 1) a g))

    set_or_trap : (i : Instr) (d : Register) (v : ℕ) (trap : Trap) (line : ℕ) → slice_get is at ≡ Some i → may i ≡ Work → may_trap i ≡ true
        → GoesTo (may i) at (at + 1) → (t : Bool) → Does (cond t (Sets d v) (traps trap line))
    set_or_trap i d v trap line e m f goes true = Works i d v e m goes
    set_or_trap i d v trap line e m f goes false = Fails i trap line e f

    divided_turn : (i : Instr) (line : ℕ) (d : Register) (x y z : ℤ) → slice_get is at ≡ Some i → may i ≡ Work → may_trap i ≡ true
        → GoesTo (may i) at (at + 1) → Does (divided line d x y z)
    divided_turn i line d x y z e m f goes = by (is_zero y)
      where
        by : (t : Bool) → Does (cond t (traps DivZero line) (cond (fits (int_div x y)) (Sets d (word_of z)) (traps Overflow line)))
        by true = Fails i DivZero line e f
        by false = set_or_trap i d (word_of z) Overflow line e m f goes (fits (int_div x y))

    get_turn : (d a b : Register) (line : ℕ) → slice_get is at ≡ Some (Get d a b line) → (o : Option ℕ) → Does (at_element line o (λ x. Loads (ArrayWord x) d))
    get_turn d a b line e None = Fails (Get d a b line) Index line e refl
    get_turn d a b line e (Some x) = Finds (Get d a b line) d x e refl refl refl

    put_turn : (a b s : Register) (line : ℕ) → slice_get is at ≡ Some (Put a b s line) → (o : Option ℕ)
        → Does (at_element line o (λ x. Stores (ArrayWord x) (held g s)))
    put_turn a b s line e None = Fails (Put a b s line) Index line e refl
    put_turn a b s line e (Some x) = Puts (Put a b s line) x (held g s) e refl refl

    jump : (i : Instr) (t : ℕ) → slice_get is at ≡ Some i → may i ≡ Branch t → Does (Jumps t)
    jump i t e m = Branches i t (max t (at + 1)) e m (subst (λ k. GoesTo k at (max t (at + 1))) (sym m) (inr refl)) (omega arith)

    pass : (i : Instr) (t : ℕ) → slice_get is at ≡ Some i → may i ≡ Branch t → Does Passes
    pass i t e m = Branches i t (at + 1) e m (subst (λ k. GoesTo k at (at + 1)) (sym m) (inl refl)) (omega arith)

    branch_turn : (i : Instr) (t : ℕ) → slice_get is at ≡ Some i → may i ≡ Branch t → (b : Bool) → Does (cond b (Jumps t) Passes)
    branch_turn i t e m true = jump i t e m
    branch_turn i t e m false = pass i t e m

    branch_not_turn : (i : Instr) (t : ℕ) → slice_get is at ≡ Some i → may i ≡ Branch t → (b : Bool) → Does (cond b Passes (Jumps t))
    branch_not_turn i t e m true = pass i t e m
    branch_not_turn i t e m false = jump i t e m

    -- an end that is no trap
    halt : (e : End) → is_trap_end e ≡ false → is_stop (Ending e) ≡ true → slice_get is at ≡ Some (Ending e) → Does (Stops e)
    halt e is_none stop here = Halts e is_none (rw here stop) (ap builder_in here)

    turn_of : (i : Instr) → slice_get is at ≡ Some i → Does (does words i g)
    turn_of (Const d n) e = Works (Const d n) d _ e refl refl
    turn_of (Move d a) e = Works (Move d a) d _ e refl refl
    turn_of (Add d a b l) e = set_or_trap (Add d a b l) d _ Overflow l e refl refl refl (fits (value_of (held g a) +ℤ value_of (held g b)))
    turn_of (Sub d a b l) e = set_or_trap (Sub d a b l) d _ Overflow l e refl refl refl (fits (value_of (held g a) -ℤ value_of (held g b)))
    turn_of (Mul d a b l) e = set_or_trap (Mul d a b l) d _ Overflow l e refl refl refl (fits (value_of (held g a) *ℤ value_of (held g b)))
    turn_of (Div d a b l) e = divided_turn (Div d a b l) l d (value_of (held g a)) (value_of (held g b))
        (int_div (value_of (held g a)) (value_of (held g b))) e refl refl refl
    turn_of (Rem d a b l) e = divided_turn (Rem d a b l) l d (value_of (held g a)) (value_of (held g b))
        (int_rem (value_of (held g a)) (value_of (held g b))) e refl refl refl
    turn_of (Equal d a b) e = Works (Equal d a b) d _ e refl refl
    turn_of (NotEqual d a b) e = Works (NotEqual d a b) d _ e refl refl
    turn_of (Less d a b) e = Works (Less d a b) d _ e refl refl
    turn_of (AtMost d a b) e = Works (AtMost d a b) d _ e refl refl
    turn_of (Len d a) e = Works (Len d a) d _ e refl refl
    turn_of (CutLeft d a b l) e = set_or_trap (CutLeft d a b l) d _ Split l e refl refl refl _
    turn_of (CutRight d a b l) e = set_or_trap (CutRight d a b l) d _ Split l e refl refl refl _
    turn_of (LoadSlot d i) e = Takes (LoadSlot d i) d i e refl refl refl
    turn_of (StoreCur i a) e = Fills (StoreCur i a) (SlotWord i) (held g a) e refl refl
    turn_of (Give a) e = Fills (Give a) ValueWord (held g a) e refl refl
    turn_of (Get d a b l) e = get_turn d a b l e (element_of words (held g a) (held g b))
    turn_of (Put a b s l) e = put_turn a b s l e (element_of words (held g a) (held g b))
    turn_of (BranchZero a t) e = branch_turn (BranchZero a t) t e refl (held g a == 0)
    turn_of (BranchNonZero a t) e = branch_not_turn (BranchNonZero a t) t e refl (held g a == 0)
    turn_of (RoomFor n) e = Asks (RoomFor n) e refl refl
    turn_of (StoreNew o a) e = Builds (StoreNew o a) o (held g a) e refl refl
    turn_of (Ending (Next c)) e = halt (Next c) refl refl e
    turn_of (Ending Finish) e = halt Finish refl refl e
    turn_of (Ending (Trapping t l)) e = Fails (Ending (Trapping t l)) t l e refl
    turn_of (Ending (Call p c to)) e = halt (Call p c to) refl refl e
    turn_of (Ending (Fork p q c lt rt)) e = halt (Fork p q c lt rt) refl refl e

    turn_by : (o : Option Instr) → slice_get is at ≡ o → Turn at g (from at g)
    turn_by None e = subst (λ (c : Capsule Where End). Turn at g (racing (built_by is) c)) (sym (none_there words 0 at is g e))
        (Halts Finish refl (rw e tt) (ap builder_in e))
    turn_by (Some i) e = subst (λ (c : Capsule Where End). Turn at g (racing (built_by is) c)) (sym (at_instr words at is g i e)) (turn_of i e)

  -- what the capsule does at a place
  pub turn : (at : ℕ) (g : List ℕ) → Turn at g (from at g)
  turn at g = turn_by at g (slice_get is at) refl
