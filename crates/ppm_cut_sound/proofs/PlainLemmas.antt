-- The instructions of a capsule, from the last one on: which classes it reads and writes, and what its stores into a new block build.
use Rattle.std.proofs.Common.{◌≡◌, ◌<◌, ◌≤◌, inl, inr, ℕ, zero, suc, ◌+◌, List, [], ◌∷◌, refl, subst, arith}
use Rattle.std.specs.Prelude.{slice_get, Some}
use Rattle.std.specs.List.{AllByRecursion, Contains}
use Rattle.ppm_code.specs.declared.act.End.{End}
use Rattle.ppm_code.specs.declared.class.Class.{Class}
use Rattle.ppm_code.specs.declared.class.Class.TheVariants.{Slot, New, Value, Room, Array}
use Rattle.ppm_code.specs.declared.class.May.{May}
use Rattle.ppm_code.specs.declared.class.May.TheVariants as mays
use Rattle.ppm_code.specs.declared.code.CodeParts.{CodeParts}
use Rattle.ppm_code.specs.declared.instr.Instr.{Instr}
use Rattle.ppm_code.specs.declared.instr.Instr.TheVariants as instr
use Rattle.ppm_code.specs.declared.register.Register.{Register}
use Rattle.ppm_code.specs.Paths.{may, GoesTo, Path, Here, Then, HasNoConflict}
use Rattle.ppm_code.specs.Tidy.{Builds, IsBuilder, MayFollow, IsTidyCapsule}
use Rattle.ppm_regions.proofs.Elements.{contains_head, contains_tail}
use Rattle.ppm_cut_code.specs.Layout.{register}
use Rattle.ppm_cut_code.specs.Statements.{stores_code}

-- what holds of each element holds of the one at a place
pub all_at : {X : Type 0} (P : X → Type 0) (xs : List X) → AllByRecursion P xs → (k : ℕ) (x : X) → slice_get xs k ≡ Some x → P x
all_at P [] all k x e = absurd (cc)
all_at P (y ∷ xs) all zero x e = let same : y ≡ x = cc in subst P same all.0
all_at P (y ∷ xs) all (suc k) x e = all_at P xs all.1 k x e

-- a path leads forward
goes_forward : (m : May) (at next : ℕ) → GoesTo m at next → at < next
goes_forward mays.Work at next h = omega (arith, h)
goes_forward (mays.Read c) at next h = omega (arith, h)
goes_forward (mays.Write c) at next h = omega (arith, h)
goes_forward (mays.Branch t) at next h = elim h [ inl e ↦ omega (arith, e) | inr e ↦ omega (arith, e) ]
goes_forward mays.Stop at next h = absurd h

path_forward : {is : List Instr} {q : May → Type 0} (from to : ℕ) → Path is q from to → from ≤ to
path_forward from _ (Here _) = omega arith
path_forward from to (Then _ at _ m path does allowed goes) =
    let rest = path_forward from at path in let last = goes_forward m at to goes in omega (arith, rest, last)

-- the slots below a number, room, and array words
abbrev pub Below : ℕ → Class → Type 0
Below n (Slot i) = i < n
Below n Room = Unit {0}
Below n Array = Unit {0}
Below n (New o) = ⊥
Below n Value = ⊥

module _ (code : CodeParts) where
  -- the capsule may be stopped anywhere, and its stores into a new block are tidy
  pub record IsSafe (is : List Instr) : Type 0 where
    pub free : HasNoConflict is
    pub tidy : IsTidyCapsule code is

  -- these instructions, the last of a capsule, build the word of a new block, with no trap in between
  pub record IsBuilt (word : ℕ) (is : List Instr) : Type 0 where
    pub follow : AllByRecursion (λ i. MayFollow code i word) is
    pub builder : (i : Instr) × Contains is i × IsBuilder code i word

  -- if the first instruction stores into a new block, the others build the word
  abbrev IsFine : Instr → List Instr → Type 0
  IsFine (instr.StoreNew word from) is = IsBuilt word is
  IsFine i is = Unit {0}

  abbrev AreFine : List Instr → Type 0
  AreFine [] = Unit {0}
  AreFine (i ∷ is) = IsFine i is × AreFine is

  -- what is after a store
  record IsStored (is : List Instr) (at word : ℕ) : Type 0 where
    pub follow : (k : ℕ) (i : Instr) → at < k → slice_get is k ≡ Some i → MayFollow code i word
    pub builder : (i : Instr) × Contains is i × IsBuilder code i word

  stored : (is : List Instr) → AreFine is → (at word : ℕ) (from : Register) → slice_get is at ≡ Some (instr.StoreNew word from) → IsStored is at word
  stored [] fine at word from e = absurd (cc)
  stored (j ∷ is) fine zero word from e =
      let same : j ≡ instr.StoreNew word from = cc in
      let built = subst (λ (j : Instr). IsFine j is) same fine.0 in
      record {
        follow = behind built;
        builder = (built.builder.0, contains_tail j built.builder.0 is built.builder.1, built.builder.2);
      }
    where
      behind : IsBuilt word is → (k : ℕ) (i : Instr) → 0 < k → slice_get (j ∷ is) k ≡ Some i → MayFollow code i word
      behind built zero i less e = absurd (omega (arith, less))
      behind built (suc k) i less e = all_at (λ i. MayFollow code i word) is built.follow k i e
  stored (j ∷ is) fine (suc at) word from e =
      let rest = stored is fine.1 at word from e in
      record { follow = behind rest; builder = (rest.builder.0, contains_tail j rest.builder.0 is rest.builder.1, rest.builder.2) }
    where
      behind : IsStored is at word → (k : ℕ) (i : Instr) → suc at < k → slice_get (j ∷ is) k ≡ Some i → MayFollow code i word
      behind rest zero i less e = absurd (omega (arith, less))
      behind rest (suc k) i less e = rest.follow k i (omega (arith, less)) e

  -- An end that builds a word, and further stores in front of it.
  pub built_end : (e : End) (word : ℕ) → Builds code e word → IsBuilt word (instr.Ends e ∷ [])
  built_end e word h = record { follow = (h, tt); builder = (instr.Ends e, contains_head (instr.Ends e) [], h) }

  pub built_new : (word store : ℕ) (from : Register) (rest : List Instr) → IsBuilt word rest → IsBuilt word (instr.StoreNew store from ∷ rest)
  built_new word store from rest b = record {
    follow = (refl, b.follow);
    builder = (b.builder.0, contains_tail (instr.StoreNew store from) b.builder.0 rest b.builder.1, b.builder.2);
  }

  pub built_stores : (word offset d count : ℕ) (rest : List Instr) → IsBuilt word rest → IsBuilt word (stores_code offset d count rest)
  built_stores word offset d zero rest h = h
  built_stores word offset d (suc count) rest h =
      built_new word offset (register d) (stores_code (suc offset) (suc d) count rest) (built_stores word (suc offset) (suc d) count rest h)

  -- with the classes that the capsule may read: it writes none of them
  module _ (R : Class → Type 0) where
    abbrev IsAllowed : May → Type 0
    IsAllowed (mays.Read c) = R c
    IsAllowed (mays.Write c) = R c → ⊥
    IsAllowed m = Unit {0}

    -- what may stand anywhere: work, a read of these classes, a branch
    abbrev pub IsPlain : May → Type 0
    IsPlain mays.Work = Unit {0}
    IsPlain (mays.Read c) = R c
    IsPlain (mays.Write c) = ⊥
    IsPlain (mays.Branch t) = Unit {0}
    IsPlain mays.Stop = ⊥

    -- the last instructions of a capsule
    pub record AreSafe (is : List Instr) : Type 0 where
      pub allowed : AllByRecursion (λ i. IsAllowed (may i)) is
      pub fine : AreFine is

    plain_allowed : (m : May) → IsPlain m → IsAllowed m
    plain_allowed mays.Work h = tt
    plain_allowed (mays.Read c) h = h
    plain_allowed (mays.Write c) h = absurd h
    plain_allowed (mays.Branch t) h = tt
    plain_allowed mays.Stop h = absurd h

    plain_fine : (i : Instr) (is : List Instr) → IsPlain (may i) → IsFine i is
    plain_fine (instr.StoreNew word from) is h = absurd h
    plain_fine _ is h = tt

    -- what may stand in front of them
    pub plain_first : (i : Instr) (is : List Instr) → IsPlain (may i) → AreSafe is → AreSafe (i ∷ is)
    plain_first i is h rest = record { allowed = (plain_allowed (may i) h, rest.allowed); fine = (plain_fine i is h, rest.fine) }

    pub end_last : (e : End) → AreSafe (instr.Ends e ∷ [])
    end_last e = record { allowed = (tt, tt); fine = (tt, tt) }

    pub end_first : (e : End) (is : List Instr) → AreSafe is → AreSafe (instr.Ends e ∷ is)
    end_first e is rest = record { allowed = (tt, rest.allowed); fine = (tt, rest.fine) }

    pub store_first : (slot : ℕ) (from : Register) (is : List Instr) → (R (Slot slot) → ⊥) → AreSafe is → AreSafe (instr.StoreCur slot from ∷ is)
    store_first slot from is h rest = record { allowed = (h, rest.allowed); fine = (tt, rest.fine) }

    pub give_first : (from : Register) (is : List Instr) → (R Value → ⊥) → AreSafe is → AreSafe (instr.Give from ∷ is)
    give_first from is h rest = record { allowed = (h, rest.allowed); fine = (tt, rest.fine) }

    pub put_first : (a b c : Register) (line : ℕ) (is : List Instr) → (R Array → ⊥) → AreSafe is → AreSafe (instr.Put a b c line ∷ is)
    put_first a b c line is h rest = record { allowed = (h, rest.allowed); fine = (tt, rest.fine) }

    pub new_first : (word : ℕ) (from : Register) (is : List Instr) → (R (New word) → ⊥) → IsBuilt word is → AreSafe is
        → AreSafe (instr.StoreNew word from ∷ is)
    new_first word from is h built rest = record { allowed = (h, rest.allowed); fine = (built, rest.fine) }

    pub stores_first : (offset d count : ℕ) (is : List Instr) → ((word : ℕ) → R (New word) → ⊥)
        → ((word : ℕ) → offset ≤ word → word < offset + count → IsBuilt word is) → AreSafe is → AreSafe (stores_code offset d count is)
    stores_first offset d zero is h built rest = rest
    stores_first offset d (suc count) is h built rest =
        new_first offset (register d) (stores_code (suc offset) (suc d) count is) (h offset)
        (built_stores offset (suc offset) (suc d) count is (built offset (omega arith) (omega arith)))
        (stores_first (suc offset) (suc d) count is h (λ word from below. built word (omega (arith, from)) (omega (arith, below))) rest)

    -- a read and a write of one class can't both be among them
    safe_free : (is : List Instr) → AllByRecursion (λ i. IsAllowed (may i)) is → HasNoConflict is
    safe_free is all read write c h =
        let r = h.exposed.reads in
        let w = h.writes in
        let reads = subst IsAllowed r.2 (all_at (λ i. IsAllowed (may i)) is all read r.0 r.1) in
        subst IsAllowed w.2 (all_at (λ i. IsAllowed (may i)) is all write w.0 w.1) reads

    pub safe : (is : List Instr) → AreSafe is → IsSafe is
    safe is h = record {
      free = safe_free is h.allowed;
      tidy = λ at word from e.
          let s = stored is h.fine at word from e in
          record { leads = λ path k i more f. s.follow k i (let go = path_forward (at + 1) k more in omega (arith, go)) f; builds = s.builder };
    }
