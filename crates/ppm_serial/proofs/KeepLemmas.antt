-- Names that are noted keep their slots, and all names that a procedure writes are noted.
use Rattle.std.proofs.Common.{◌≡◌, ◌<◌, ℕ, suc, Bool, true, false, List, [], ◌∷◌, ◌++◌, Option, Some, None, refl, sym, ap, subst, arith, ◌∙◌, length, nat_lt}
use Rattle.std.specs.Prelude.{if◌then◌else◌, ⊤}
use Rattle.std.specs.Str.{bytes_eq}
use Rattle.std.proofs.lemmas.Slice.Eq.{bytes_eq-Decides}
use Rattle.std.proofs.lemmas.Bool.{ltb-true}
use Rattle.ppm_tree.specs.declared.mode.Mode.TheVariants as mode
use Rattle.ppm_tree.specs.declared.named.Named.{Named}
use Rattle.ppm_tree.specs.declared.tree.Parameter.{Parameter}
use Rattle.ppm_tree.specs.Tree.{Expression, Side, Statement, Block, Nil, Then, Let, Assign, Put, If, While, Split, Procedure}
use Rattle.ppm_tree.specs.Tree as tree
use Rattle.ppm_serial.specs.Names.{Slotted, slot_in, noted, no_names, with_local_name, with_region_name, with_target, with_parameter, with_parameter_of, with_parameters, with_statement, with_block, names_of}
use Rattle.ppm_serial.specs.Laying.{HasLocal, HasRegion, HasTarget, HasWritten, HasNames, is_number}

-- names that are there are there, in the same slots
pub record Keeps (old new : List (List ℕ)) : Type 0 where
  pub slot : (x : List ℕ) → slot_in old x < length old → slot_in new x ≡ slot_in old x
  pub there : (x : List ℕ) → slot_in old x < length old → slot_in new x < length new

keeps_same : (names : List (List ℕ)) → Keeps names names
keeps_same names = record { slot = λ x h. refl; there = λ x h. h }

keeps_both : {i j k : List (List ℕ)} → Keeps i j → Keeps j k → Keeps i k
keeps_both p q = record { slot = λ x h. q.slot x (p.there x h) ∙ p.slot x h; there = λ x h. q.there x (p.there x h) }

-- one name more after the others
behind_slot : (names : List (List ℕ)) (y x : List ℕ) → slot_in names x < length names → slot_in (names ++ y ∷ []) x ≡ slot_in names x
behind_slot [] y x h = omega (arith, h)
behind_slot (n ∷ names) y x h = go (bytes_eq n x) refl (behind_slot names y x)
  where
    go : (b : Bool) → bytes_eq n x ≡ b → (slot_in names x < length names → slot_in (names ++ y ∷ []) x ≡ slot_in names x)
        → (if bytes_eq n x then 0 else suc (slot_in (names ++ y ∷ []) x)) ≡ (if bytes_eq n x then 0 else suc (slot_in names x))
    go true e rest = subst (λ (b : Bool). (if b then 0 else suc (slot_in (names ++ y ∷ []) x)) ≡ (if b then 0 else suc (slot_in names x))) (sym e) refl
    go false e rest = subst (λ (b : Bool). (if b then 0 else suc (slot_in (names ++ y ∷ []) x)) ≡ (if b then 0 else suc (slot_in names x))) (sym e)
        (ap suc (rest (let i = ap {B = ℕ} (λ (b : Bool). if b then 0 else suc (slot_in names x)) e in omega (arith, h, i))))

longer_by_one : (names : List (List ℕ)) (y : List ℕ) → length (names ++ y ∷ []) ≡ suc (length names)
longer_by_one [] y = refl
longer_by_one (n ∷ names) y = ap suc (longer_by_one names y)

last_slot : (names : List (List ℕ)) (y : List ℕ) → slot_in (names ++ y ∷ []) y < length (names ++ y ∷ [])
last_slot [] y = let e = ap {B = ℕ} (λ (b : Bool). if b then 0 else 1) ((bytes_eq-Decides y y).1 refl) in omega (arith, e)
last_slot (n ∷ names) y = go (bytes_eq n y) refl (last_slot names y)
  where
    go : (b : Bool) → bytes_eq n y ≡ b → slot_in (names ++ y ∷ []) y < length (names ++ y ∷ []) → (if bytes_eq n y then 0 else suc (slot_in (names ++ y ∷ []) y)) < suc (length (names ++ y ∷ []))
    go true e l = let i = ap {B = ℕ} (λ (b : Bool). if b then 0 else suc (slot_in (names ++ y ∷ []) y)) e in omega (arith, i)
    go false e l = let i = ap {B = ℕ} (λ (b : Bool). if b then 0 else suc (slot_in (names ++ y ∷ []) y)) e in omega (arith, i, l)

noted_keeps : (names : List (List ℕ)) (y : List ℕ) → Keeps names (noted names y)
noted_keeps names y = go (nat_lt (slot_in names y) (length names))
  where
    go : (b : Bool) → Keeps names (if b then names else names ++ y ∷ [])
    go true = keeps_same names
    go false = record {
      slot = λ x h. behind_slot names y x h;
      there = λ x h. let e = behind_slot names y x h in let l = longer_by_one names y in omega (arith, e, l, h);
    }

noted_there : (names : List (List ℕ)) (y : List ℕ) → slot_in (noted names y) y < length (noted names y)
noted_there names y = go (nat_lt (slot_in names y) (length names)) refl
  where
    go : (b : Bool) → nat_lt (slot_in names y) (length names) ≡ b → slot_in (if b then names else names ++ y ∷ []) y < length (if b then names else names ++ y ∷ [])
    go true e = ltb-true (slot_in names y) (length names) e
    go false e = last_slot names y

-- the names of a procedure keep their slots
pub record KeepsBoth (n m : Slotted) : Type 0 where
  pub locals : Keeps n.locals m.locals
  pub regions : Keeps n.regions m.regions

pub kept : (n : Slotted) → KeepsBoth n n
kept n = record { locals = keeps_same n.locals; regions = keeps_same n.regions }

then_kept : {i j k : Slotted} → KeepsBoth i j → KeepsBoth j k → KeepsBoth i k
then_kept p q = record { locals = keeps_both p.locals q.locals; regions = keeps_both p.regions q.regions }

local_keeps : (n : Slotted) (x : List ℕ) → KeepsBoth n (with_local_name n x)
local_keeps n x = record { locals = noted_keeps n.locals x; regions = keeps_same n.regions }

region_keeps : (n : Slotted) (x : List ℕ) → KeepsBoth n (with_region_name n x)
region_keeps n x = record { locals = keeps_same n.locals; regions = noted_keeps n.regions x }

target_keeps : (n : Slotted) (x : Option Named) → KeepsBoth n (with_target n x)
target_keeps n None = kept n
target_keeps n (Some x) = local_keeps n x.name

mutual
  statement_keeps : (n : Slotted) (s : Statement) → KeepsBoth n (with_statement n s)
  statement_keeps n (Let x e) = local_keeps n x.name
  statement_keeps n (Assign x e) = local_keeps n x.name
  statement_keeps n (Put x i e) = kept n
  statement_keeps n (If e p c) = then_kept (block_keeps n p) (block_keeps (with_block n p) c)
  statement_keeps n (While e p) = block_keeps n p
  statement_keeps n (tree.Call s) = target_keeps n s.target
  statement_keeps n (tree.Fork s t) = then_kept (target_keeps n s.target) (target_keeps (with_target n s.target) t.target)
  statement_keeps n (Split line r e x y p) =
      then_kept (then_kept (region_keeps n x.name) (region_keeps (with_region_name n x.name) y.name)) (block_keeps (with_region_name (with_region_name n x.name) y.name) p)
  statement_keeps n (tree.Each i x r p) =
      then_kept (then_kept (local_keeps n i.name) (region_keeps (with_local_name n i.name) x.name)) (block_keeps (with_region_name (with_local_name n i.name) x.name) p)

  block_keeps : (n : Slotted) (b : Block) → KeepsBoth n (with_block n b)
  block_keeps n Nil = kept n
  block_keeps n (Then s b) = then_kept (statement_keeps n s) (block_keeps (with_statement n s) b)

target_there : (n m : Slotted) (x : Option Named) → KeepsBoth (with_target n x) m → HasTarget m x
target_there n m None k = tt
target_there n m (Some x) k = k.locals.there x.name (noted_there n.locals x.name)

mutual
  statement_there : (n m : Slotted) (s : Statement) → KeepsBoth (with_statement n s) m → HasWritten m s
  statement_there n m (Let x e) k = k.locals.there x.name (noted_there n.locals x.name)
  statement_there n m (Assign x e) k = k.locals.there x.name (noted_there n.locals x.name)
  statement_there n m (Put x i e) k = tt
  statement_there n m (If e p c) k = (block_there n m p (then_kept (block_keeps (with_block n p) c) k), block_there (with_block n p) m c k)
  statement_there n m (While e p) k = block_there n m p k
  statement_there n m (tree.Call s) k = target_there n m s.target k
  statement_there n m (tree.Fork s t) k =
      (target_there n m s.target (then_kept (target_keeps (with_target n s.target) t.target) k), target_there (with_target n s.target) m t.target k)
  statement_there n m (Split line r e x y p) k =
      let q = then_kept (block_keeps (with_region_name (with_region_name n x.name) y.name) p) k in (
        (then_kept (region_keeps (with_region_name n x.name) y.name) q).regions.there x.name (noted_there n.regions x.name),
        q.regions.there y.name (noted_there (with_region_name n x.name).regions y.name),
        block_there (with_region_name (with_region_name n x.name) y.name) m p k,
      )
  statement_there n m (tree.Each i x r p) k =
      let q = then_kept (block_keeps (with_region_name (with_local_name n i.name) x.name) p) k in (
        (then_kept (region_keeps (with_local_name n i.name) x.name) q).locals.there i.name (noted_there n.locals i.name),
        q.regions.there x.name (noted_there n.regions x.name),
        block_there (with_region_name (with_local_name n i.name) x.name) m p k,
      )

  block_there : (n m : Slotted) (b : Block) → KeepsBoth (with_block n b) m → HasNames m b
  block_there n m Nil k = tt
  block_there n m (Then s b) k = (statement_there n m s (then_kept (block_keeps (with_statement n s) b) k), block_there (with_statement n s) m b k)

-- all names that a body writes have slots
pub body_there : (p : Procedure) → HasNames (names_of p) p.body
body_there p = block_there (with_parameters no_names p.parameters) (names_of p) p.body (kept (names_of p))

-- and so have all parameters
pub parameters_keep : (p : Procedure) → KeepsBoth (with_parameters no_names p.parameters) (names_of p)
parameters_keep p = block_keeps (with_parameters no_names p.parameters) p.body

parameter_keeps : (n : Slotted) (p : Parameter) → KeepsBoth n (with_parameter n p)
parameter_keeps n p = go p.mode
  where
    go : (t : _) → KeepsBoth n (with_parameter_of n t p.name.name)
    go mode.Int = then_kept (local_keeps n p.name.name) (region_keeps (with_local_name n p.name.name) p.name.name)
    go mode.Mut = region_keeps n p.name.name
    go mode.Ref = region_keeps n p.name.name

parameters_kept : (n : Slotted) (ps : List Parameter) → KeepsBoth n (with_parameters n ps)
parameters_kept n [] = kept n
parameters_kept n (p ∷ ps) = then_kept (parameter_keeps n p) (parameters_kept (with_parameter n p) ps)

-- a parameter's slots
pub record HasParameter (n : Slotted) (p : Parameter) : Type 0 where
  pub local : is_number p.mode ≡ true → HasLocal n p.name.name
  pub region : HasRegion n p.name.name

parameter_there : (n m : Slotted) (p : Parameter) → KeepsBoth (with_parameter n p) m → HasParameter m p
parameter_there n m p k = go p.mode refl
  where
    go : (t : _) → p.mode ≡ t → HasParameter m p
    go mode.Int e =
        let q = subst (λ (t : _). KeepsBoth (with_parameter_of n t p.name.name) m) e k in
        record { local = λ i. q.locals.there p.name.name (noted_there n.locals p.name.name); region = q.regions.there p.name.name (noted_there n.regions p.name.name) }
    go mode.Mut e =
        let q = subst (λ (t : _). KeepsBoth (with_parameter_of n t p.name.name) m) e k in
        record { local = λ i. absurd (let j = ap is_number e in cc); region = q.regions.there p.name.name (noted_there n.regions p.name.name) }
    go mode.Ref e =
        let q = subst (λ (t : _). KeepsBoth (with_parameter_of n t p.name.name) m) e k in
        record { local = λ i. absurd (let j = ap is_number e in cc); region = q.regions.there p.name.name (noted_there n.regions p.name.name) }

abbrev pub HasParameters : Slotted → List Parameter → Type 0
HasParameters n [] = ⊤
HasParameters n (p ∷ ps) = HasParameter n p × HasParameters n ps

pub parameters_there : (n m : Slotted) (ps : List Parameter) → KeepsBoth (with_parameters n ps) m → HasParameters m ps
parameters_there n m [] k = tt
parameters_there n m (p ∷ ps) k = (parameter_there n m p (then_kept (parameters_kept (with_parameter n p) ps) k), parameters_there (with_parameter n p) m ps k)
