-- One store of a capsule, in what it sees.
use Rattle.std.proofs.Common.{◌≡◌, ◌≢◌, ◌<◌, ℕ, ◌+◌, Bool, true, false, inl, inr, refl, sym, ap, ◌∙◌, subst, arith}
use Rattle.std.specs.Prelude.{nat_lt, if◌then◌else◌}
use Rattle.std.proofs.Math.Path.{fun_ext}
use Rattle.std.proofs.lemmas.Bool.{lt-ltb, ltb-true}
use Rattle.ppm_cells.specs.declared.cell.Cell.{Cell}
use Rattle.ppm_cells.specs.declared.cell.Cell.TheVariants.{BlockWord}
use Rattle.ppm_strands.specs.Capsule.{store}
use Rattle.ppm_strands.specs.Strand.{Own, New, Shared}
use Rattle.ppm_strands.proofs.LocationLemmas.{decide, store_at, store_else}
use Rattle.ppm_code.specs.Locations.{Where, code_locations}
use Rattle.ppm_code.specs.Sizes.{slot_at}
use Rattle.ppm_code.specs.declared.location.FrameWord.{FrameWord}
use Rattle.ppm_code.specs.declared.location.FrameWord.TheVariants.{Slot, Value}
use Rattle.ppm_frames.specs.Views.{written}
use Rattle.ppm_frames.specs.Seen.{seen, cell_in, IsIn}
use Rattle.ppm_frames.specs.Laws.{AreApart, StoresAreSeen}
use Rattle.ppm_frames.proofs.WriteLemmas.{write_here, write_else, address}

pub if_true : {A : Type 0} (t : Bool) (a b : A) → t ≡ true → (if t then a else b) ≡ a
if_true true a b e = refl
if_true false a b e = absurd (cc)

pub if_false : {A : Type 0} (t : Bool) (a b : A) → t ≡ false → (if t then a else b) ≡ b
if_false true a b e = absurd (cc)
if_false false a b e = refl

-- what is chosen by a test is the same where it is tested
pub choice : (i n x y : ℕ) → (i < n → x ≡ y) → (if nat_lt i n then x else 0) ≡ (if nat_lt i n then y else 0)
choice i n x y same = go (nat_lt i n) refl
  where
    go : (b : Bool) → nat_lt i n ≡ b → (if b then x else 0) ≡ (if b then y else 0)
    go true e = same (ltb-true i n e)
    go false e = refl

-- the word of a location within the bounds
pub seen_in : (m : Cell → ℕ) (f n r a : ℕ) (l : Where) → IsIn n a l → seen m f n r a l ≡ m (cell_in f r l)
seen_in m f n r a (Own (Slot j)) lt = if_true (nat_lt j n) _ _ (lt-ltb j n lt)
seen_in m f n r a (Own Value) lt = refl
seen_in m f n r a (New o) lt = if_true (nat_lt o a) _ _ (lt-ltb o a lt)
seen_in m f n r a (Shared x) lt = refl

-- two locations that are not one
abbrev pub Differ : Where → Where → Type 0
Differ k l = k ≡ l → ⊥

module _ (f n r a : ℕ) (apart : AreApart f n r a) where
  slot_of : (j : ℕ) (x : FrameWord) → IsIn n a (Own x) → Differ (Own (Slot j)) (Own x) → BlockWord (f + slot_at j) ≢ cell_in f r (Own x)
  slot_of j (Slot i) lt ne e = ne (ap (λ (i : ℕ). Own (Slot i)) (let z = ap address e in omega (arith, z)))
  slot_of j Value lt ne e = let z = ap address e in omega (arith, z)

  -- locations within the bounds have cells of their own
  pub cells_apart : (k l : Where) → IsIn n a k → IsIn n a l → Differ k l → cell_in f r k ≢ cell_in f r l
  cells_apart (Own (Slot j)) (Own x) k l ne e = slot_of j x l ne e
  cells_apart (Own Value) (Own (Slot j)) k l ne e = let z = ap address e in omega (arith, z)
  cells_apart (Own Value) (Own Value) k l ne e = ne refl
  cells_apart (Own (Slot j)) (New o) k l ne e = apart (6 + j) o (omega (arith, k)) l (ap address e)
  cells_apart (Own Value) (New o) k l ne e = apart 4 o (omega arith) l (ap address e)
  cells_apart (Own (Slot j)) (Shared x) k l ne e = cc
  cells_apart (Own Value) (Shared x) k l ne e = cc
  cells_apart (New o) (Own (Slot j)) k l ne e = apart (6 + j) o (omega (arith, l)) k (sym (ap address e))
  cells_apart (New o) (Own Value) k l ne e = apart 4 o (omega arith) k (sym (ap address e))
  cells_apart (New o) (New i) k l ne e = ne (ap (λ (i : ℕ). New i) (let z = ap address e in omega (arith, z)))
  cells_apart (New o) (Shared x) k l ne e = cc
  cells_apart (Shared x) (Own (Slot j)) k l ne e = cc
  cells_apart (Shared x) (Own Value) k l ne e = cc
  cells_apart (Shared x) (New o) k l ne e = cc
  cells_apart (Shared x) (Shared y) k l ne e = ne (ap (λ (i : ℕ). Shared i) (ap address e))

  module _ (m : Cell → ℕ) (l : Where) (v : ℕ) (may : IsIn n a l) where
    abbrev after : Cell → ℕ
    after = written m (cell_in f r l) v

    stays : (k : Where) → Differ k l → IsIn n a k → after (cell_in f r k) ≡ m (cell_in f r k)
    stays k ne lt = write_else m (cell_in f r l) v (cell_in f r k) (cells_apart k l lt may ne)

    elsewhere : (k : Where) → Differ k l → seen after f n r a k ≡ seen m f n r a k
    elsewhere (Own (Slot j)) ne = choice j n _ _ (λ lt. stays (Own (Slot j)) ne lt)
    elsewhere (Own Value) ne = stays (Own Value) ne tt
    elsewhere (New o) ne = choice o a _ _ (λ lt. stays (New o) ne lt)
    elsewhere (Shared x) ne = stays (Shared x) ne tt

    pub seen_after : seen after f n r a ≡ store code_locations (seen m f n r a) l v
    seen_after = fun_ext (λ k. elim (decide code_locations k l) [
      | inl e ↦ subst (λ (z : Where). seen after f n r a z ≡ store code_locations (seen m f n r a) l v z) (sym e)
          (seen_in after f n r a l may ∙ write_here m (cell_in f r l) v ∙ sym (store_at code_locations (seen m f n r a) l v))
      | inr ne ↦ elsewhere k ne.0 ∙ sym (store_else code_locations (seen m f n r a) l v k ne.1)
    ])

pub stores_are_seen : StoresAreSeen
stores_are_seen m f n r a v l apart may = seen_after f n r a apart m l v may
