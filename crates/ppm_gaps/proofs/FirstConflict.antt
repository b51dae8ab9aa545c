-- A code has one first conflict.
use Rattle.std.proofs.Common.{◌≡◌, ◌<◌, ◌≤◌, ℕ, List, sym, ◌∙◌, ap, subst, arith}
use Rattle.ppm_code.specs.declared.class.Class.{Class}
use Rattle.ppm_code.specs.declared.class.May.TheVariants.{Read}
use Rattle.ppm_code.specs.declared.code.CodeParts.{CodeParts}
use Rattle.ppm_code.specs.declared.instr.Instr.{Instr}
use Rattle.ppm_code.specs.Paths.{may, Does, IsConflict}
use Rattle.ppm_code.specs.Strands.{instrs_of}
use Rattle.ppm_war.specs.declared.checked.Conflict.{Conflict}
use Rattle.ppm_war.specs.Conflicts.{IsFirstConflictOf}

-- the read at a place is of one class
one_class : (is : List Instr) (at : ℕ) (c d : Class) → Does is at (Read c) → Does is at (Read d) → c ≡ d
one_class is at c d (i, e, f) (j, g, h) =
    let same : i ≡ j = cc in
    let reads : Read c ≡ Read d = sym f ∙ ap may same ∙ h in
    cc

-- a conflict of a code is in the instructions of its capsule
in_its_capsule : (code : CodeParts) (c : Conflict) → IsFirstConflictOf code c →
    IsConflict (instrs_of code c.capsule) c.read_at c.write_at c.class
in_its_capsule code c f = f.first.first.conflict

-- of two first conflicts of a code neither is in an earlier capsule
not_earlier : (code : CodeParts) (c d : Conflict) → IsFirstConflictOf code c → IsFirstConflictOf code d → d.capsule < c.capsule → ⊥
not_earlier code c d f g less = f.earlier d.capsule less d.read_at d.write_at d.class (in_its_capsule code d g)

same_number : (m n : ℕ) → (m < n → ⊥) → (n < m → ⊥) → m ≡ n
same_number m n f g = omega (arith, f, g)

-- a conflict by its parts
conflict_path : (c d : Conflict) → c.capsule ≡ d.capsule → c.read_at ≡ d.read_at → c.write_at ≡ d.write_at → c.class ≡ d.class → c ≡ d
conflict_path c d capsule read write class = λ i. record { capsule = capsule i; read_at = read i; write_at = write i; class = class i }

module _ (code : CodeParts) (c d : Conflict) (f : IsFirstConflictOf code c) (g : IsFirstConflictOf code d) (capsule : c.capsule ≡ d.capsule) where
  of_c : IsConflict (instrs_of code d.capsule) c.read_at c.write_at c.class
  of_c = subst (λ n. IsConflict (instrs_of code n) c.read_at c.write_at c.class) capsule (in_its_capsule code c f)

  of_d : IsConflict (instrs_of code c.capsule) d.read_at d.write_at d.class
  of_d = subst (λ n. IsConflict (instrs_of code n) d.read_at d.write_at d.class) (sym capsule) (in_its_capsule code d g)

  one_read : c.read_at ≡ d.read_at
  one_read =
      let less : c.read_at ≤ d.read_at = f.first.first.least_read d.read_at d.write_at d.class of_d in
      let more : d.read_at ≤ c.read_at = g.first.first.least_read c.read_at c.write_at c.class of_c in
      omega (arith, less, more)

  one_write : c.write_at ≡ d.write_at
  one_write =
      let less : c.write_at ≤ d.write_at = f.first.first.least_write d.write_at d.class
      (subst (λ n. IsConflict (instrs_of code c.capsule) n d.write_at d.class) (sym one_read) of_d) in
      let more : d.write_at ≤ c.write_at = g.first.first.least_write c.write_at c.class
      (subst (λ n. IsConflict (instrs_of code d.capsule) n c.write_at c.class) one_read of_c) in
      omega (arith, less, more)

  same_class : c.class ≡ d.class
  same_class = one_class (instrs_of code d.capsule) d.read_at c.class d.class
      (subst (λ n. Does (instrs_of code d.capsule) n (Read c.class)) one_read of_c.exposed.reads) (in_its_capsule code d g).exposed.reads

-- two first conflicts of a code are one
pub one_conflict : (code : CodeParts) (c d : Conflict) → IsFirstConflictOf code c → IsFirstConflictOf code d → c ≡ d
one_conflict code c d f g =
    let capsule : c.capsule ≡ d.capsule =
    same_number c.capsule d.capsule (not_earlier code d c g f) (not_earlier code c d f g) in
    conflict_path c d capsule (one_read code c d f g capsule) (one_write code c d f g capsule) (same_class code c d f g capsule)
