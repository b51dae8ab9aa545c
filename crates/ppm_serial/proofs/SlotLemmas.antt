-- Slots and names: a frame of slots after a write is the frame of names after it.
use Rattle.std.proofs.Common.{◌≡◌, ◌<◌, ℕ, zero, suc, ℤ, pos, Bool, true, false, List, [], ◌∷◌, Some, None, refl, sym, ap, subst, arith, ◌∙◌, length, set, get_or, drop, replicate}
use Rattle.std.specs.Prelude.{slice_get, if◌then◌else◌}
use Rattle.std.specs.Str.{bytes_eq}
use Rattle.std.proofs.lemmas.Slice.Eq.{bytes_eq-Decides}
use Rattle.std.proofs.lemmas.List.{get_or-set_other, get_or-set_same, length-set}
use Rattle.ppm_tree.specs.State.{Region, nowhere, empty_frame, with_local, with_region, with_name}
use Rattle.ppm_serial.specs.Slots.{Slots, fresh, with_local_at, with_region_at}
use Rattle.ppm_serial.specs.Names.{Slotted, slot_in, frame_of}
use Rattle.ppm_serial.specs.Laying.{Fits, IsLocal, IsRegion}

slot_here : (n : List ℕ) (ns : List (List ℕ)) (x : List ℕ) → bytes_eq n x ≡ true → slot_in (n ∷ ns) x ≡ 0
slot_here n ns x e = ap (λ (b : Bool). if b then 0 else suc (slot_in ns x)) e

slot_later : (n : List ℕ) (ns : List (List ℕ)) (x : List ℕ) → bytes_eq n x ≡ false → slot_in (n ∷ ns) x ≡ suc (slot_in ns x)
slot_later n ns x e = ap (λ (b : Bool). if b then 0 else suc (slot_in ns x)) e

-- names that differ have slots that differ, where one is there
slot_other : (names : List (List ℕ)) (x y : List ℕ) → bytes_eq x y ≡ false → slot_in names x < length names → slot_in names x ≡ slot_in names y → ⊥
slot_other [] x y h l e = omega (arith, l)
slot_other (n ∷ ns) x y h l e = go (bytes_eq n x) refl (bytes_eq n y) refl (slot_other ns x y h)
  where
    go : (p : Bool) → bytes_eq n x ≡ p → (q : Bool) → bytes_eq n y ≡ q → (slot_in ns x < length ns → slot_in ns x ≡ slot_in ns y → ⊥) → ⊥
    go true a true b rest =
        let same : x ≡ y = sym ((bytes_eq-Decides n x).0 a) ∙ (bytes_eq-Decides n y).0 b in
        let t = (bytes_eq-Decides x y).1 same in cc
    go true a false b rest = let i = slot_here n ns x a in let j = slot_later n ns y b in omega (arith, e, i, j)
    go false a true b rest = let i = slot_later n ns x a in let j = slot_here n ns y b in omega (arith, e, i, j)
    go false a false b rest = let i = slot_later n ns x a in let j = slot_later n ns y b in rest (omega (arith, l, i)) (omega (arith, e, i, j))

-- a slot after a write to one
written : {A : Type 0} (vs : List A) (d : A) (names : List (List ℕ)) (x : List ℕ) (v : A) → slot_in names x < length names → length vs ≡ length names
    → (y : List ℕ) → with_name (λ (y : List ℕ). get_or vs (slot_in names y) d) x v y ≡ get_or (set vs (slot_in names x) v) (slot_in names y) d
written vs d names x v l e y = go (bytes_eq x y) refl
  where
    go : (p : Bool) → bytes_eq x y ≡ p → (if p then v else get_or vs (slot_in names y) d) ≡ get_or (set vs (slot_in names x) v) (slot_in names y) d
    go true h =
        sym (subst (λ (k : ℕ). get_or (set vs (slot_in names x) v) k d ≡ v) (ap (slot_in names) ((bytes_eq-Decides x y).0 h)) (get_or-set_same vs (slot_in names x) v d (omega (arith, l, e))))
    go false h = sym (get_or-set_other vs (slot_in names x) (slot_in names y) v d (λ s. slot_other names x y h l (sym s)))

pub wrote_local : (n : Slotted) (s : Slots) (x : List ℕ) (k : ℕ) (v : ℤ) → IsLocal n x k → Fits n s → with_local (frame_of n s) x v ≡ frame_of n (with_local_at s k v)
wrote_local n s x k v i f = subst (λ (k : ℕ). with_local (frame_of n s) x v ≡ frame_of n (with_local_at s k v)) (sym i.slot)
    (λ j. record { regions = (frame_of n s).regions; locals = λ y. written s.locals (pos 0) n.locals x v (subst (λ (k : ℕ). k < length n.locals) i.slot i.there) f.locals y j })

pub wrote_region : (n : Slotted) (s : Slots) (x : List ℕ) (k : ℕ) (r : Region) → IsRegion n x k → Fits n s → with_region (frame_of n s) x r ≡ frame_of n (with_region_at s k r)
wrote_region n s x k r i f = subst (λ (k : ℕ). with_region (frame_of n s) x r ≡ frame_of n (with_region_at s k r)) (sym i.slot)
    (λ j. record { regions = λ y. written s.regions nowhere n.regions x r (subst (λ (k : ℕ). k < length n.regions) i.slot i.there) f.regions y j; locals = (frame_of n s).locals })

-- a write leaves the slots
pub fits_local : {n : Slotted} {s : Slots} (k : ℕ) (v : ℤ) → Fits n s → Fits n (with_local_at s k v)
fits_local {s = s} k v f = record { locals = length-set s.locals k v ∙ f.locals; regions = f.regions }

pub fits_region : {n : Slotted} {s : Slots} (k : ℕ) (r : Region) → Fits n s → Fits n (with_region_at s k r)
fits_region {s = s} k r f = record { locals = f.locals; regions = length-set s.regions k r ∙ f.regions }

-- a fresh frame has nothing in it
nothing_in : {A : Type 0} (d : A) (n k : ℕ) → get_or (replicate n d) k d ≡ d
nothing_in d zero k = refl
nothing_in d (suc n) zero = refl
nothing_in d (suc n) (suc k) = nothing_in d n k

pub fresh_frame : (n : Slotted) (i j : ℕ) → frame_of n (fresh i j) ≡ empty_frame
fresh_frame n i j = λ t. record { regions = λ x. nothing_in nowhere j (slot_in n.regions x) t; locals = λ x. nothing_in (pos 0) i (slot_in n.locals x) t }

length_fresh : {A : Type 0} (n : ℕ) (d : A) → length (replicate n d) ≡ n
length_fresh zero d = refl
length_fresh (suc n) d = ap suc (length_fresh n d)

pub fresh_fits : (n : Slotted) → Fits n (fresh (length n.locals) (length n.regions))
fresh_fits n = record { locals = length_fresh (length n.locals) (pos 0); regions = length_fresh (length n.regions) nowhere }

-- what stands at a place of a list
pub none_at : {A : Type 0} (xs : List A) (k : ℕ) → drop k xs ≡ [] → slice_get xs k ≡ None
none_at [] zero e = refl
none_at [] (suc k) e = refl
none_at (x ∷ xs) zero e = cc
none_at (x ∷ xs) (suc k) e = none_at xs k e

pub some_at : {A : Type 0} (xs : List A) (k : ℕ) {x : A} {ys : List A} → drop k xs ≡ x ∷ ys → slice_get xs k ≡ Some x
some_at [] zero e = cc
some_at [] (suc k) e = cc
some_at (x ∷ xs) zero e = cc
some_at (x ∷ xs) (suc k) e = some_at xs k e

pub next_at : {A : Type 0} (xs : List A) (k : ℕ) {x : A} {ys : List A} → drop k xs ≡ x ∷ ys → drop (suc k) xs ≡ ys
next_at [] zero e = cc
next_at [] (suc k) e = cc
next_at (x ∷ xs) zero e = cc
next_at (x ∷ xs) (suc k) e = next_at xs k e
