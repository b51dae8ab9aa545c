-- A search from the first number on, and capsules by their paths.
use Rattle.std.proofs.Common.{◌≡◌, ◌<◌, ◌≤◌, ℕ, ◌+◌, Bool, true, false, List, length, Option, Some, None, MatchOption, ◌⊎◌, inl, inr, refl, sym, ap, ◌∙◌, subst, arith, nat_lt, get_or}
use Rattle.std.specs.Prelude.{slice_get}
use Rattle.std.proofs.lemmas.Bool.{ltb-true, ltb-false}
use Rattle.std.proofs.lemmas.Option.{MatchOption-at_some, same_Some, slice_get_cases, slice_get_read}
use Rattle.ppm_code.specs.declared.class.Class.{Class}
use Rattle.ppm_code.specs.declared.class.Class.TheVariants.{Array, Slot}
use Rattle.ppm_code.specs.declared.class.May.{May}
use Rattle.ppm_code.specs.declared.class.May.TheVariants.{Read, Write}
use Rattle.ppm_code.specs.declared.instr.Instr.{Instr}
use Rattle.ppm_code.specs.Paths.{may, Any, Does, Path, Here, Then}
use Rattle.ppm_filled.specs.Filled.{IsFind, IsStop, is_stop}
use Rattle.ppm_war.specs.Search.{IsFirst}
use Rattle.ppm_war.proofs.FirstLemmas.{first_is}
use Rattle.ppm_war.proofs.MarkLemmas.{same_what}

-- the first number of which it holds, where it holds of none below
pub found : (P : ℕ → Type 0) (n : ℕ) → ((k : ℕ) → k < n → P k → ⊥) → P n → IsFirst P (Some n)
found P n below p = first_is P n p least
  where
    least : (k : ℕ) → P k → n ≤ k
    least k q = by (nat_lt k n) refl
      where
        by : (b : Bool) → nat_lt k n ≡ b → n ≤ k
        by true e = absurd (below k (ltb-true k n e) q)
        by false e = omega (arith, ltb-false k n e)

module _ (is : List Instr) where
  -- one path after another
  pub append : (q : May → Type 0) (a b c : ℕ) → Path is q a b → Path is q b c → Path is q a c
  append q a b c p (Here _) = p
  append q a b c p (Then _ at _ m first here allowed goes) = Then a at c m (append q a b at p first) here allowed goes

  -- any path
  pub any : (q : May → Type 0) (a b : ℕ) → Path is q a b → Path is Any a b
  any q a b (Here _) = Here a
  any q a b (Then _ at _ m p here allowed goes) = Then a at b m (any q a at p) here tt goes

  -- a path comes to a find, and goes on past it
  pub find_path : (find : ℕ) → IsFind is find → Path is Any 0 find
  find_path find (inl (p, reads)) = p
  find_path find (inr r) = append Any 0 (r.store + 1) find (Then 0 r.store (r.store + 1) (Write (Slot r.slot)) r.before r.stores tt refl) r.between

  past_find : (find : ℕ) → IsFind is find → Path is Any 0 (find + 1)
  past_find find (inl (p, reads)) = Then 0 find (find + 1) (Read Array) p reads tt refl
  past_find find (inr r) = Then 0 find (find + 1) (Read (Slot r.slot)) (find_path find (inr r)) r.loads tt refl

  -- what a path leads to from after a find, one leads to from the beginning
  pub behind_find : (q : May → Type 0) (find to : ℕ) → IsFind is find → Path is q (find + 1) to → Path is Any 0 to
  behind_find q find to finds p = append Any 0 (find + 1) to (past_find find finds) (any q (find + 1) to p)

  -- an instruction writes one class
  pub one_class : (at : ℕ) (c d : Class) → Does is at (Write c) → Does is at (Write d) → d ≡ c
  one_class at c d f g = let same : Write d ≡ Write c = same_what is Any at (Write c) (Write d) f g in cc

  -- a stop within the capsule is an end other than a trap
  pub record StopsAt (stop : ℕ) : Type 0 where
    pub instr : Instr
    pub there : slice_get is stop ≡ Some instr
    pub stops : is_stop instr ≡ true

  pub stops_at : (stop : ℕ) → stop < length is → IsStop is stop → StopsAt stop
  stops_at stop less h = elim (slice_get_cases is stop).1 [
    | inl x ↦ record { instr = x.0; there = x.2; stops = MatchOption-at_some (Unit {0}) (λ i. is_stop i ≡ true) x.0 x.2 h }
    | inr past ↦ absurd (omega (arith, less, past.0))
  ]

  pub is_a_stop : (stop : ℕ) (i : Instr) → slice_get is stop ≡ Some i → is_stop i ≡ true → IsStop is stop
  is_a_stop stop i e h = subst (λ (o : Option Instr). MatchOption o (Unit {0}) (λ i. is_stop i ≡ true)) (sym e) h

  -- what the instruction at a place may do
  pub does_here : (at : ℕ) (i : Instr) (m : May) → slice_get is at ≡ Some i → Does is at m → may i ≡ m
  does_here at i m there (j, e, f) = ap may (same_Some i j (sym there ∙ e)) ∙ f

  -- an instruction that was read
  pub read_at : (at : ℕ) (i : Instr) → at < length is → i ≡ get_or is at i → slice_get is at ≡ Some i
  read_at at i less e = slice_get_read is (length is) at i refl less e
