-- Paths one after another, and paths past fewer instructions.
use Rattle.std.proofs.Common.{◌≡◌, ◌≤◌, ◌<◌, ℕ, zero, suc, ◌+◌, List, length, Some, refl, arith}
use Rattle.std.specs.Prelude.{slice_get}
use Rattle.std.proofs.lemmas.Option.{slice_get_within}
use Rattle.ppm_code.specs.declared.class.Class.{Class}
use Rattle.ppm_code.specs.declared.class.Class.TheVariants.{Slot, New, Value, Room, Array}
use Rattle.ppm_code.specs.declared.class.May.{May}
use Rattle.ppm_code.specs.declared.class.May.TheVariants.{Write}
use Rattle.ppm_code.specs.declared.instr.Instr.{Instr}
use Rattle.ppm_code.specs.Paths.{may, GoesTo, Path, Here, Then, Any, Exposes}

module _ {is : List Instr} {q : May → Type 0} where
  -- one path after another
  pub append : {a b c : ℕ} → Path is q a b → Path is q b c → Path is q a c
  append p (Here at) = p
  append p (Then from at to m p' here is_q goes) = Then _ at to m (append p p') here is_q goes

  -- a path past instructions of which more is true
  pub weaken : {r : May → Type 0} → ((m : May) → q m → r m) → {a b : ℕ} → Path is q a b → Path is r a b
  weaken all (Here at) = Here at
  weaken all (Then from at to m p here is_q goes) = Then from at to m (weaken all p) here (all m is_q) goes

-- any path
pub any : {is : List Instr} {q : May → Type 0} {a b : ℕ} → Path is q a b → Path is Any a b
any p = weaken (λ m h. tt) p

-- an instruction that does not write a class leaves it exposed
pub exposes : (c : Class) (m : May) → (m ≡ Write c → ⊥) → Exposes c m
exposes (Slot i) m h = h
exposes (New o) m h = h
exposes Value m h = h
exposes Room m h = h
exposes Array m h = tt

-- a step of a path past an instruction
pub one : {is : List Instr} (q : May → Type 0) (at to : ℕ) (i : Instr) → slice_get is at ≡ Some i → q (may i) → GoesTo (may i) at to → Path is q at to
one q at to i e ok goes = Then at at to (may i) (Here at) (i, e, refl) ok goes

-- induction along a capsule, towards its end
pub forward : (is : List Instr) (P : ℕ → List ℕ → Type 0)
    → ((at : ℕ) (g : List ℕ) → ((to : ℕ) (h : List ℕ) → at + 1 ≤ to → at < length is → P to h) → P at g)
    → (n at : ℕ) (g : List ℕ) → length is ≤ at + n → P at g
forward is P step zero at g enough = step at g (λ to h less within. absurd (omega (arith, enough, within)))
forward is P step (suc n) at g enough = step at g (λ to h less within. forward is P step n to h (omega (arith, enough, less)))

-- a place at which an instruction stands
pub there : (is : List Instr) (at : ℕ) (i : Instr) → slice_get is at ≡ Some i → at < length is
there is at i e = slice_get_within is at i e
