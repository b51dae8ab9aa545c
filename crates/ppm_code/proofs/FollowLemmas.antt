-- What an instruction does is what it may do.
use Rattle.std.proofs.Common.{ℕ, Bool, true, false, refl, Option, Some, None, cond}
use Rattle.std.specs.Prelude.{◌==◌, ℤ, ◌+ℤ◌, ◌-ℤ◌, ◌*ℤ◌, int_div, int_rem}
use Rattle.ppm_words.specs.declared.trap.Trap.{Trap}
use Rattle.ppm_words.specs.declared.trap.Trap.TheVariants.{Overflow, DivZero, Split}
use Rattle.ppm_words.specs.TwosComplement.{value_of, word_of}
use Rattle.ppm_code.specs.declared.location.Location.TheVariants.{Array as ArrayWord}
use Rattle.ppm_code.specs.declared.act.Act.TheVariants.{Sets, Passes, Jumps, Steps}
use Rattle.ppm_code.specs.declared.act.Step.{Step}
use Rattle.ppm_code.specs.declared.act.Step.TheVariants.{Loads, Stores}
use Rattle.ppm_code.specs.declared.register.Register.{Register}
use Rattle.ppm_code.specs.declared.class.Class.TheVariants.{Array}
use Rattle.ppm_code.specs.declared.class.May.{May}
use Rattle.ppm_code.specs.declared.class.May.TheVariants.{Work, Read, Write, Branch}
use Rattle.ppm_code.specs.declared.instr.Instr.TheVariants.{Const, Move, Add, Sub, Mul, Div, Rem, Equal, NotEqual, Less, AtMost, Len, CutLeft, CutRight}
use Rattle.ppm_code.specs.declared.instr.Instr.TheVariants.{LoadSlot, StoreCur, Give, Get, Put, BranchZero, BranchNonZero, Room, StoreNew, Ends}
use Rattle.ppm_code.specs.Acts.{held, traps, element_of, at_element, divided, fits, is_zero}
use Rattle.ppm_code.specs.Paths.{Follows, ActsFollow}

-- each test, cut off over what it answers
set_follows : (t : Bool) (line : ℕ) (trap : Trap) (d : Register) (v : ℕ) → Follows Work (cond t (Sets d v) (traps trap line))
set_follows true line trap d v = tt
set_follows false line trap d v = tt

divided_follows : (line : ℕ) (d : Register) (x y z : ℤ) → Follows Work (divided line d x y z)
divided_follows line d x y z = by (is_zero y)
  where
    by : (t : Bool) → Follows Work (cond t (traps DivZero line) (cond (fits (int_div x y)) (Sets d (word_of z)) (traps Overflow line)))
    by true = tt
    by false = set_follows (fits (int_div x y)) line Overflow d (word_of z)

element_follows : (m : May) (line : ℕ) (o : Option ℕ) (step : ℕ → Step) → ((x : ℕ) → Follows m (Steps (step x))) → Follows m (at_element line o step)
element_follows m line None step each = tt
element_follows m line (Some x) step each = each x

branch_follows : (b : Bool) (t : ℕ) → Follows (Branch t) (cond b (Jumps t) Passes)
branch_follows true t = refl
branch_follows false t = tt

branch_not_follows : (b : Bool) (t : ℕ) → Follows (Branch t) (cond b Passes (Jumps t))
branch_not_follows true t = tt
branch_not_follows false t = refl

pub acts_follow : ActsFollow
acts_follow words (Const d v) g = tt
acts_follow words (Move d r) g = tt
acts_follow words (Add d r q l) g = set_follows (fits (value_of (held g r) +ℤ value_of (held g q))) l Overflow d _
acts_follow words (Sub d r q l) g = set_follows (fits (value_of (held g r) -ℤ value_of (held g q))) l Overflow d _
acts_follow words (Mul d r q l) g = set_follows (fits (value_of (held g r) *ℤ value_of (held g q))) l Overflow d _
acts_follow words (Div d r q l) g = divided_follows l d (value_of (held g r)) (value_of (held g q)) (int_div (value_of (held g r)) (value_of (held g q)))
acts_follow words (Rem d r q l) g = divided_follows l d (value_of (held g r)) (value_of (held g q)) (int_rem (value_of (held g r)) (value_of (held g q)))
acts_follow words (Equal d r q) g = tt
acts_follow words (NotEqual d r q) g = tt
acts_follow words (Less d r q) g = tt
acts_follow words (AtMost d r q) g = tt
acts_follow words (Len d r) g = tt
acts_follow words (CutLeft d r q l) g = set_follows _ l Split d _
acts_follow words (CutRight d r q l) g = set_follows _ l Split d _
acts_follow words (LoadSlot d i) g = refl
acts_follow words (StoreCur i r) g = refl
acts_follow words (Give r) g = refl
acts_follow words (Get d r q l) g = element_follows (Read Array) l (element_of words (held g r) (held g q)) (λ x. Loads (ArrayWord x) d) (λ x. refl)
acts_follow words (Put r q f l) g = element_follows (Write Array) l (element_of words (held g r) (held g q)) (λ x. Stores (ArrayWord x) (held g f)) (λ x. refl)
acts_follow words (BranchZero r t) g = branch_follows (held g r == 0) t
acts_follow words (BranchNonZero r t) g = branch_not_follows (held g r == 0) t
acts_follow words (Room n) g = refl
acts_follow words (StoreNew o r) g = refl
acts_follow words (Ends e) g = tt
