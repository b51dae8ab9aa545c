-- The ends of a code's capsules name lines of the source.
use Rattle.std.proofs.Common.{◌≡◌, ℕ, zero, suc, ◌+◌, ◌-◌, ◌==◌, max, Bool, true, false, List, [], ◌∷◌, refl, sym, subst, slice_set, Option, Some, None}
use Rattle.std.specs.Prelude.{◌^◌, ℤ, ◌+ℤ◌, ◌-ℤ◌, ◌*ℤ◌, int_div, int_rem, nat_lt, nat_le, if◌then◌else◌, ◌&&◌, slice_get}
use Rattle.std.proofs.lemmas.Option.{slice_get_within, get_or_from_slice_get}
use Rattle.ppm_strands.specs.Capsule.{Capsule, Reads, Writes, Asks as AsksFor, Ends as EndsAt}
use Rattle.ppm_words.specs.TwosComplement.{value_of}
use Rattle.ppm_code.specs.Acts.{does, held, fits, is_zero, whole, divided, cut_left_of, cut_right_of, element_of, at_element, length_of, start_of}
use Rattle.ppm_code.specs.Capsules.{capsule_from, at_act, reached}
use Rattle.ppm_code.specs.declared.work.Reached.{Reached}
use Rattle.ppm_code.specs.declared.work.Reached.TheVariants.{AtEnd}
use Rattle.ppm_code.specs.Code.{Fits, EndFits, IsCode, IsCapsule, IsLine}
use Rattle.ppm_code.specs.Locations.{Where}
use Rattle.ppm_code.specs.declared.act.Act.{Act}
use Rattle.ppm_code.specs.declared.act.Act.TheVariants.{Sets, Passes, Jumps, Steps, Ends as Stops}
use Rattle.ppm_code.specs.declared.act.Step.{Step}
use Rattle.ppm_code.specs.declared.act.Step.TheVariants.{Loads, Stores, Asks}
use Rattle.ppm_code.specs.declared.act.End.{End}
use Rattle.ppm_code.specs.declared.act.End.TheVariants.{Next, Finish, Trap, Call, Fork}
use Rattle.ppm_code.specs.declared.code.Capsule.{Capsule as CodeCapsule}
use Rattle.ppm_code.specs.declared.code.CodeParts.{CodeParts}
use Rattle.ppm_code.specs.declared.instr.Instr.{Instr}
use Rattle.ppm_code.specs.declared.instr.Instr.TheVariants.{Const, Move, Add, Sub, Mul, Div, Rem, Equal, NotEqual, Less, AtMost, Len, CutLeft, CutRight}
use Rattle.ppm_code.specs.declared.instr.Instr.TheVariants.{LoadSlot, StoreCur, Give, Get, Put, BranchZero, BranchNonZero, Room, StoreNew, Ends}
use Rattle.ppm_code.specs.declared.location.Location.TheVariants.{Array}
use Rattle.ppm_code.specs.declared.register.Register.{Register}
use Rattle.ppm_step.specs.Facts.{IsEnd}

-- each end of the capsule does
abbrev pub EndsWell : Capsule Where End → Type 0
EndsWell (Reads location go) = (word : ℕ) → EndsWell (go word)
EndsWell (Writes location word go) = EndsWell go
EndsWell (AsksFor words go) = EndsWell go
EndsWell (EndsAt e) = IsEnd e

-- an act that is an end is one that a capsule may come to
abbrev ActsWell : Act → Type 0
ActsWell (Stops e) = IsEnd e
ActsWell _ = Unit {0}

either : (b : Bool) (x y : Act) → ActsWell x → ActsWell y → ActsWell (if b then x else y)
either true x y p q = p
either false x y p q = q

whole_well : (line : ℕ) (d : Register) (z : ℤ) → IsLine line → ActsWell (whole line d z)
whole_well line d z h = by (fits z) refl
  where
    by : (b : Bool) → fits z ≡ b → ActsWell (whole line d z)
    by true e = rw e tt
    by false e = rw e h

divided_well : (line : ℕ) (d : Register) (left right z : ℤ) → IsLine line → ActsWell (divided line d left right z)
divided_well line d left right z h = by (is_zero right) refl (fits (int_div left right)) refl
  where
    by : (b : Bool) → is_zero right ≡ b → (c : Bool) → fits (int_div left right) ≡ c → ActsWell (divided line d left right z)
    by true e c f = rw e h
    by false e true f = rw e (rw f tt)
    by false e false f = rw e (rw f h)

left_well : (line : ℕ) (d : Register) (region at : ℕ) → IsLine line → ActsWell (cut_left_of line d region at)
left_well line d region at h = by (nat_le at (length_of region)) refl
  where
    by : (b : Bool) → nat_le at (length_of region) ≡ b → ActsWell (cut_left_of line d region at)
    by true e = rw e tt
    by false e = rw e h

right_well : (line : ℕ) (d : Register) (region at : ℕ) → IsLine line → ActsWell (cut_right_of line d region at)
right_well line d region at h = by (nat_le at (length_of region) && nat_lt (start_of region + at) (2 ^ 32)) refl
  where
    by : (b : Bool) → (nat_le at (length_of region) && nat_lt (start_of region + at) (2 ^ 32)) ≡ b → ActsWell (cut_right_of line d region at)
    by true e = rw e tt
    by false e = rw e h

element_well : (line : ℕ) (o : Option ℕ) (step : ℕ → Step) → IsLine line → ActsWell (at_element line o step)
element_well line None step h = h
element_well line (Some x) step h = tt

end_well : (code : CodeParts) (p : ℕ) (is : List Instr) (e : End) → EndFits code p is e → IsEnd e
end_well code p is (Next capsule) h = tt
end_well code p is Finish h = tt
end_well code p is (Trap trap line) h = h
end_well code p is (Call procedure capsule to) h = tt
end_well code p is (Fork left right capsule left_to right_to) h = tt

-- what an instruction that fits does
does_well : (code : CodeParts) (p : ℕ) (all : List Instr) (at words : ℕ) (i : Instr) (g : List ℕ)
    → Fits code p all at i → ActsWell (does words i g)
does_well code p all at words (Const d n) g h = tt
does_well code p all at words (Move d a) g h = tt
does_well code p all at words (Add d a b line) g h = whole_well line d (value_of (held g a) +ℤ value_of (held g b)) h
does_well code p all at words (Sub d a b line) g h = whole_well line d (value_of (held g a) -ℤ value_of (held g b)) h
does_well code p all at words (Mul d a b line) g h = whole_well line d (value_of (held g a) *ℤ value_of (held g b)) h
does_well code p all at words (Div d a b line) g h =
    divided_well line d (value_of (held g a)) (value_of (held g b)) (int_div (value_of (held g a)) (value_of (held g b))) h
does_well code p all at words (Rem d a b line) g h =
    divided_well line d (value_of (held g a)) (value_of (held g b)) (int_rem (value_of (held g a)) (value_of (held g b))) h
does_well code p all at words (Equal d a b) g h = tt
does_well code p all at words (NotEqual d a b) g h = tt
does_well code p all at words (Less d a b) g h = tt
does_well code p all at words (AtMost d a b) g h = tt
does_well code p all at words (Len d a) g h = tt
does_well code p all at words (CutLeft d a b line) g h = left_well line d (held g a) (held g b) h
does_well code p all at words (CutRight d a b line) g h = right_well line d (held g a) (held g b) h
does_well code p all at words (LoadSlot d slot) g h = tt
does_well code p all at words (StoreCur slot a) g h = tt
does_well code p all at words (Give a) g h = tt
does_well code p all at words (Get d a b line) g h = element_well line (element_of words (held g a) (held g b)) (λ x. Loads (Array x) d) h
does_well code p all at words (Put a b s line) g h = element_well line (element_of words (held g a) (held g b)) (λ x. Stores (Array x) (held g s)) h
does_well code p all at words (BranchZero a t) g h = either (held g a == 0) (Jumps t) Passes tt tt
does_well code p all at words (BranchNonZero a t) g h = either (held g a == 0) Passes (Jumps t) tt tt
does_well code p all at words (Room n) g h = tt
does_well code p all at words (StoreNew o a) g h = tt
does_well code p all at words (Ends e) g h = end_well code p all e h

act_ends : (go : ℕ → List ℕ → Capsule Where End) → ((t : ℕ) (h : List ℕ) → EndsWell (go t h))
    → (next : ℕ) (a : Act) (g : List ℕ) → ActsWell a → EndsWell (at_act go next a g)
act_ends go on next (Sets d v) g h = on next (slice_set g d.index v)
act_ends go on next Passes g h = on next g
act_ends go on next (Jumps t) g h = on (max t next) g
act_ends go on next (Steps (Loads location d)) g h = λ v. on next (slice_set g d.index v)
act_ends go on next (Steps (Stores location v)) g h = on next g
act_ends go on next (Steps (Asks n)) g h = on next g
act_ends go on next (Stops e) g h = h

-- from any instruction on
ends_from : (words here skip : ℕ) (is : List Instr) (g : List ℕ)
    → ((at : ℕ) (i : Instr) (h : List ℕ) → slice_get is at ≡ Some i → ActsWell (does words i h)) → EndsWell (capsule_from words here skip is g)
ends_from words here skip [] g ok = tt
ends_from words here (suc skip) (i ∷ is) g ok = ends_from words (here + 1) skip is g (λ at j h e. ok (suc at) j h e)
ends_from words here zero (i ∷ is) g ok =
    act_ends (λ t h. capsule_from words (here + 1) (t - (here + 1)) is h)
    (λ t h. ends_from words (here + 1) (t - (here + 1)) is h (λ at j k e. ok (suc at) j k e)) (here + 1) (does words i g) g (ok zero i g refl)

-- the capsule of a code with a number, from any instruction on
pub code_ends_well : (code : CodeParts) → IsCode code → (number : ℕ) (c : CodeCapsule) → slice_get code.capsules number ≡ Some c
    → (words skip : ℕ) (g : List ℕ) → EndsWell (capsule_from words 0 skip c.instrs g)
code_ends_well code is_code number c one words skip g =
    let fit : IsCapsule code c =
    subst (IsCapsule code) (get_or_from_slice_get code.capsules number c c one)
    (is_code.capsules number c (slice_get_within code.capsules number c one)) in
    ends_from words 0 skip c.instrs g (λ at i h e. does_well code c.procedure c.instrs at words i h (fit.each at i e))

-- the end that register work comes to is one that a capsule of the code may have
pub reached_end : (code : CodeParts) → IsCode code → (number : ℕ) (c : CodeCapsule) → slice_get code.capsules number ≡ Some c
    → (words skip next : ℕ) (is : List Instr) (g h : List ℕ) (what : Reached) (e : End) → is ≡ c.instrs
    → capsule_from words 0 skip is g ≡ reached words is next what h → what ≡ AtEnd e → IsEnd e
reached_end code is_code number c one words skip next is g h what e same left at =
    let begins = subst (λ (l : List Instr). EndsWell (capsule_from words 0 skip l g)) (sym same) (code_ends_well code is_code number c one words skip g) in
    let ends = subst EndsWell left begins in
    subst (λ (r : Reached). EndsWell (reached words is next r h)) at ends
