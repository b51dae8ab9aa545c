-- Conflicts of a read, of a class, and of the classes that are read so far.
use Rattle.std.proofs.Common.{◌≡◌, ◌<◌, ◌≤◌, ℕ, ◌+◌, Bool, true, false, List, Option, MatchOption, if◌then◌else◌}
use Rattle.std.proofs.Common.{length, ◌⊎◌, inl, inr, refl, sym, subst, arith, Some, None, nat_lt, IsTrue}
use Rattle.std.proofs.lemmas.Bool.{ltb-true, ltb-false}
use Rattle.ppm_code.specs.declared.class.Class.{Class}
use Rattle.ppm_code.specs.declared.class.May.{May}
use Rattle.ppm_code.specs.declared.class.May.TheVariants.{Read}
use Rattle.ppm_code.specs.declared.instr.Instr.{Instr}
use Rattle.ppm_code.specs.Paths.{Does, Path, Any, Exposes, HasNoConflict, IsConflict}
use Rattle.ppm_war.specs.declared.conflict.Found.{Found}
use Rattle.ppm_war.specs.Conflicts.{IsFirstConflict}
use Rattle.ppm_war.specs.Search.{Is, IsAnswer, IsFirst, IsFirstAmong, IsReadBelow, LeadsToWrite, earlier}
use Rattle.ppm_war.proofs.DecodedLemmas.{does_below}
use Rattle.ppm_war.proofs.FirstLemmas.{first_same, first_none}
use Rattle.ppm_war.proofs.MarkLemmas.{same_what}

-- a test that failed
pub is_false : (b : Bool) → b ≡ false → IsTrue b → ⊥
is_false true e h = cc
is_false false e h = cc

-- none below a number, and not that number
pub none_below : (P : ℕ → Type 0) (n : ℕ) → ((k : ℕ) → k < n → P k → ⊥) → (P n → ⊥) → (k : ℕ) → k < n + 1 → P k → ⊥
none_below P n below here k less p = by (nat_lt k n) refl
  where
    by : (b : Bool) → nat_lt k n ≡ b → ⊥
    by true e = below k (ltb-true k n e) p
    by false e = let same : k ≡ n = omega (arith, less, ltb-false k n e) in here (subst P same p)

-- a number with a property that none below n has is not below n
at_most : (P : ℕ → Type 0) (n k : ℕ) → ((j : ℕ) → j < n → P j → ⊥) → P k → n ≤ k
at_most P n k below p = by (nat_lt k n) refl
  where
    by : (b : Bool) → nat_lt k n ≡ b → n ≤ k
    by true e = absurd (below k (ltb-true k n e) p)
    by false e = omega (arith, ltb-false k n e)

module _ (is : List Instr) where
  -- an instruction reads one class
  one_class : (read : ℕ) (c d : Class) → Does is read (Read c) → Does is read (Read d) → d ≡ c
  one_class read c d f g = let same : Read d ≡ Read c = same_what is Any read (Read c) (Read d) f g in cc

  -- of one read and another class than that which it reads there is none
  pub of_class : (read write : ℕ) (c d : Class) → Does is read (Read c) → IsConflict is read write d → IsConflict is read write c
  of_class read write c d reads x = subst (λ (k : Class). IsConflict is read write k) (one_class read c d reads x.exposed.reads) x

  module _ (read : ℕ) (c : Class) where
    -- the write of a conflict is one to which a path leads from after its read
    leads : (write : ℕ) → IsConflict is read write c → LeadsToWrite is c (read + 1) write
    leads write x = (subst (λ (n : ℕ). Path is Any n write) x.goes_on x.between, x.writes)

    -- and such a write is in conflict, where the read is exposed
    conflicts : Does is read (Read c) → Path is (Exposes c) 0 read → (write : ℕ) → LeadsToWrite is c (read + 1) write → IsConflict is read write c
    conflicts reads before write h = record {
      exposed = record { reads = reads; before = before };
      next = read + 1;
      goes_on = refl;
      between = h.0;
      writes = h.1;
    }

    -- the first write that is led to is the first in conflict
    pub first_in_conflict : (o : Option ℕ) → Does is read (Read c) → Path is (Exposes c) 0 read → IsFirst (LeadsToWrite is c (read + 1)) o
        → IsFirst (λ write. IsConflict is read write c) o
    first_in_conflict o reads before =
        first_same (LeadsToWrite is c (read + 1)) (λ write. IsConflict is read write c) o (conflicts reads before) leads

    -- a read that is not exposed is in none
    pub not_exposed : (Path is (Exposes c) 0 read → ⊥) → IsFirst (λ write. IsConflict is read write c) None
    not_exposed not = first_none (λ write. IsConflict is read write c) (λ write x. not x.exposed.before)

    -- nor is what reads nothing of the class
    pub not_read : (m : May) → Does is read m → (m ≡ Read c → ⊥) → IsFirst (λ write. IsConflict is read write c) None
    not_read m does not =
        first_none (λ write. IsConflict is read write c) (λ write x. not (same_what is Any read (Read c) m x.exposed.reads does))

  module _ (c : Class) (at : ℕ) (below : (read write : ℕ) → read < at → IsConflict is read write c → ⊥) where
    -- the first conflict of a class is that of its least read
    pub first_of_class : (write : ℕ) (o : Option ℕ) → o ≡ Some write → IsFirst (λ w. IsConflict is at w c) o
        → IsFirstAmong (Is c) is (record { read_at = at; write_at = write; class = c })
    first_of_class write o e f = record {
      conflict = f.some write e;
      least_read = λ read w d same x. at_most (λ r. (w : ℕ) × IsConflict is r w c) at read (λ j less h. below j h.0 less h.1)
          (w, subst (λ (k : Class). IsConflict is read w k) same x);
      least_write = λ w d x. f.least write w e (of_class at w c d (f.some write e).exposed.reads x);
    }

    -- none so far
    pub none_so_far : (o : Option ℕ) → o ≡ None → IsFirst (λ w. IsConflict is at w c) o
        → (read write : ℕ) → read < at + 1 → IsConflict is read write c → ⊥
    none_so_far o e f read write less x =
        none_below (λ r. (w : ℕ) × IsConflict is r w c) at (λ j small h. below j h.0 small h.1) (λ h. f.none e h.0 h.1) read less (write, x)

-- the answer for fewer classes
module _ (P Q : Class → Type 0) (is : List Instr) (fewer : (c : Class) → Q c → P c) where
  pub answer_of_fewer : (found : Option Found) → IsAnswer P is found → IsAnswer Q is found
  answer_of_fewer None none = λ read write c q x. none read write c (fewer c q) x
  answer_of_fewer (Some f) first = record {
    conflict = first.conflict;
    least_read = λ read write c q x. first.least_read read write c (fewer c q) x;
    least_write = first.least_write;
  }

-- the answer for two lots of classes is the earlier one
module _ (P Q R : Class → Type 0) (is : List Instr) (either : (c : Class) → R c → P c ⊎ Q c) where
  pub earlier_answer : (a b : Option Found) → IsAnswer P is a → IsAnswer Q is b → IsAnswer R is (earlier a b)
  earlier_answer None None f g = λ read write c r x. elim (either c r) [ inl p ↦ f read write c p x | inr q ↦ g read write c q x ]
  earlier_answer None (Some b) f g = record {
    conflict = g.conflict;
    least_read = λ read write c r x. elim (either c r) [ inl p ↦ absurd (f read write c p x) | inr q ↦ g.least_read read write c q x ];
    least_write = g.least_write;
  }
  earlier_answer (Some a) None f g = record {
    conflict = f.conflict;
    least_read = λ read write c r x. elim (either c r) [ inl p ↦ f.least_read read write c p x | inr q ↦ absurd (g read write c q x) ];
    least_write = f.least_write;
  }
  earlier_answer (Some a) (Some b) f g = by (nat_lt b.read_at a.read_at) refl
    where
      by : (t : Bool) → nat_lt b.read_at a.read_at ≡ t → IsAnswer R is (if t then Some b else Some a)
      by true e = record {
        conflict = g.conflict;
        least_read = λ read write c r x. elim (either c r) [
          | inl p ↦ omega (arith, ltb-true b.read_at a.read_at e, f.least_read read write c p x)
          | inr q ↦ g.least_read read write c q x
        ];
        least_write = g.least_write;
      }
      by false e = record {
        conflict = f.conflict;
        least_read = λ read write c r x. elim (either c r) [
          | inl p ↦ f.least_read read write c p x
          | inr q ↦ omega (arith, ltb-false b.read_at a.read_at e, g.least_read read write c q x)
        ];
        least_write = f.least_write;
      }

module _ (is : List Instr) (place : ℕ) where
  -- a class that is read up to a place is read below it or there
  pub below_or_there : (c : Class) → IsReadBelow is (place + 1) c → IsReadBelow is place c ⊎ Does is place (Read c)
  below_or_there c (read, less, does) = by (nat_lt read place) refl
    where
      by : (b : Bool) → nat_lt read place ≡ b → IsReadBelow is place c ⊎ Does is place (Read c)
      by true e = inl (read, ltb-true read place e, does)
      by false e = let same : read ≡ place = omega (arith, less, ltb-false read place e) in inr (subst (λ (n : ℕ). Does is n (Read c)) same does)

  -- the class that is read there comes to those below
  pub one_class_more : (d c : Class) → Does is place (Read d) → IsReadBelow is (place + 1) c → IsReadBelow is place c ⊎ Is d c
  one_class_more d c reads more = elim (below_or_there c more) [ inl below ↦ inl below | inr here ↦ inr (one_class is place d c reads here) ]

  -- or it is one of them
  pub no_class_more : (d c : Class) → Does is place (Read d) → IsReadBelow is place d → IsReadBelow is (place + 1) c → IsReadBelow is place c
  no_class_more d c reads known more = elim (below_or_there c more) [
    | inl below ↦ below
    | inr here ↦ subst (IsReadBelow is place) (sym (one_class is place d c reads here)) known
  ]

  -- or nothing is read there
  pub nothing_read : (m : May) (c : Class) → Does is place m → ((d : Class) → m ≡ Read d → ⊥) → IsReadBelow is (place + 1) c → IsReadBelow is place c
  nothing_read m c does none more = elim (below_or_there c more) [
    | inl below ↦ below
    | inr here ↦ absurd (none c (same_what is Any place (Read c) m here does))
  ]

  -- after the last instruction all classes were met
  pub all_met : (found : Option Found) → length is ≤ place → IsAnswer (IsReadBelow is place) is found
      → MatchOption found (HasNoConflict is) (IsFirstConflict is)
  all_met None past none = λ read write c x.
      none read write c (read, omega (arith, past, does_below is read (Read c) x.exposed.reads), x.exposed.reads) x
  all_met (Some f) past first = record {
    conflict = first.conflict;
    least_read = λ read write c x.
        first.least_read read write c (read, omega (arith, past, does_below is read (Read c) x.exposed.reads), x.exposed.reads) x;
    least_write = first.least_write;
  }
