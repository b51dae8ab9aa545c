-- A packing whose fields are read again is exact.
use Rattle.std.proofs.Common.{◌≡◌, ℕ, Bool, true, false, cond, eqb, Option, Some, None, IfSome, refl, sym, ap, subst, ◌∙◌}
use Rattle.std.proofs.lemmas.Bool.{eqb-true, eq-eqb}
use Rattle.ppm_cells.specs.Exact.{IsWhatPacksTo, packed_to, unpacked, IsExact}

-- what holds of both answers of a test
pub either : {A : Type 0} (P : A → Type 0) (t : Bool) (a b : Option A) → IfSome a P → IfSome b P → IfSome (cond t a b) P
either P true a b p q = p
either P false a b p q = q

module _ {V : Type 0} (pack : V → ℕ) (read : ℕ → Option V) (IsPackable : V → Type 0) where
  -- the value that was read, where it packs to the word
  to_value : (word : ℕ) (o : Option V) (v : V) → IfSome o IsPackable → packed_to pack word o ≡ Some v → IsPackable v × (pack v ≡ word)
  to_value word None v fits e = cc
  to_value word (Some u) v fits e = by (eqb (pack u) word) refl e
    where
      by : (t : Bool) → eqb (pack u) word ≡ t → cond t (Some u) None ≡ Some v → IsPackable v × (pack v ≡ word)
      by true same found = let is : u ≡ v = cc in (subst IsPackable is fits, ap pack (sym is) ∙ eqb-true (pack u) word same)
      by false same found = cc

  -- a value that packs to a word is what the word stands for
  from_value : (v : V) → read (pack v) ≡ Some v → packed_to pack (pack v) (read (pack v)) ≡ Some v
  from_value v again = rw (again, eq-eqb (pack v) (pack v) refl) refl

  -- what is read fits, and a value's own word is read as that value
  pub exact : ((word : ℕ) → IfSome (read word) IsPackable) → ((v : V) → IsPackable v → read (pack v) ≡ Some v)
      → IsExact pack IsPackable (λ word. unpacked pack read word)
  unfolding unpacked
  exact fits again word v = (
    λ e. to_value word (read word) v (fits word) e,
    λ p. let P : ℕ → Type 0 = λ n. packed_to pack n (read n) ≡ Some v in subst P p.1 (from_value v (again v p.0)),
  )

module _ {V : Type 0} (pack : V → ℕ) (IsPackable : V → Type 0) where
  -- what is answered fits
  pub fitting : (word : ℕ) (answer : Option V) → IsWhatPacksTo pack IsPackable word answer → IfSome answer IsPackable
  fitting word None h = tt
  fitting word (Some v) h = ((h v).0 refl).0

  module _ (unpack : ℕ → Option V) (exact_ : IsExact pack IsPackable unpack) where
    -- what is packed comes back
    pub unpack-pack : (v : V) → IsPackable v → unpack (pack v) ≡ Some v
    unpack-pack v fits = (exact_ (pack v) v).1 (fits, refl)

    -- what a word stands for packs to it
    pub pack-unpack : (word : ℕ) (v : V) → unpack word ≡ Some v → pack v ≡ word
    pack-unpack word v e = ((exact_ word v).0 e).1

    -- values of one word are one
    pub same_value : (u v : V) → IsPackable u → IsPackable v → pack u ≡ pack v → u ≡ v
    same_value u v p q e =
        let back : Some u ≡ Some v = sym ((exact_ (pack v) u).1 (p, e)) ∙ unpack-pack v q in
        cc
