-- Frames by names: a local in its place is the frame with this local; a region that is lent, and a word that is written.
use Rattle.std.proofs.Common.{◌≡◌, ◌<◌, ◌≤◌, ◌+◌, ℕ, suc, ℤ, pos, Bool, true, false, List, [], ◌∷◌, ◌++◌, Option, Some, Result, Ok, Err, refl, sym, ap, subst, arith, ◌∙◌, length, set, get_or, if◌then◌else◌}
use Rattle.std.specs.Str.{bytes_eq}
use Rattle.std.proofs.lemmas.Slice.Eq.{bytes_eq-Decides}
use Rattle.std.specs.Prelude.{OnOk}
use Rattle.ppm_tree.specs.declared.named.Named.{Named}
use Rattle.ppm_tree.specs.declared.mode.Mode.{Mode}
use Rattle.ppm_tree.specs.declared.mode.Mode.TheVariants as mode
use Rattle.ppm_tree.specs.Tree.{Expression}
use Rattle.ppm_tree.specs.State.{TrapAt, then_with, Region, Frame, Arrays, with_name, with_local, with_region, with_word, array_at, part_at, first_part, second_part, delivered, evaluate, with_argument}
use Rattle.ppm_by_name.specs.declared.frame.Local.{Local}
use Rattle.ppm_by_name.specs.Frames.{Bound, bound, with_bound, with_lent, local_of, slot_of, frame_of}

-- a frame that is there
abbrev ok_frame : Frame → Result Frame TrapAt
ok_frame f = Ok f

-- a local with another value
abbrev valued : Local → ℤ → Local
valued b v = record { name = b.name; value = v }

-- a local that is there is written in its place
pub bound_there : (bs : List Local) (x : List ℕ) (v : ℤ) (d : Local) → slot_of bs x < length bs → d ≡ get_or bs (slot_of bs x) d
    → set bs (slot_of bs x) (record { name = d.name; value = v }) ≡ bound bs x v
bound_there [] x v d l e = absurd (omega (arith, l))
bound_there (b ∷ bs) x v d l e = go (bytes_eq b.name x) refl (bound_there bs x v d)
  where
    go : (p : Bool) → bytes_eq b.name x ≡ p → (slot_of bs x < length bs → d ≡ get_or bs (slot_of bs x) d → set bs (slot_of bs x) (valued d v) ≡ bound bs x v)
        → set (b ∷ bs) (slot_of (b ∷ bs) x) (record { name = d.name; value = v }) ≡ bound (b ∷ bs) x v
    go true h rest =
        let i : slot_of (b ∷ bs) x ≡ 0 = ap (λ (t : Bool). if t then 0 else suc (slot_of bs x)) h in
        let f : d ≡ b = subst (λ (k : ℕ). d ≡ get_or (b ∷ bs) k d) i e in
        subst (λ (k : ℕ). set (b ∷ bs) k (record { name = d.name; value = v }) ≡ bound (b ∷ bs) x v) (sym i)
        (ap (λ (c : Local). valued c v ∷ bs) f
        ∙ sym (ap (λ (t : Bool). if t then valued b v ∷ bs else b ∷ bound bs x v) h))
    go false h rest =
        let i : slot_of (b ∷ bs) x ≡ suc (slot_of bs x) = ap (λ (t : Bool). if t then 0 else suc (slot_of bs x)) h in
        let f : d ≡ get_or bs (slot_of bs x) d = subst (λ (k : ℕ). d ≡ get_or (b ∷ bs) k d) i e in
        subst (λ (k : ℕ). set (b ∷ bs) k (record { name = d.name; value = v }) ≡ bound (b ∷ bs) x v) (sym i)
        (ap (λ (c : List Local). b ∷ c) (rest (omega (arith, l, i)) f)
        ∙ sym (ap (λ (t : Bool). if t then valued b v ∷ bs else b ∷ bound bs x v) h))

-- one that is not comes at the end
pub bound_new : (bs : List Local) (x : List ℕ) (v : ℤ) → length bs ≤ slot_of bs x → bs ++ record { name = x; value = v } ∷ [] ≡ bound bs x v
bound_new [] x v l = refl
bound_new (b ∷ bs) x v l = go (bytes_eq b.name x) refl (bound_new bs x v)
  where
    go : (p : Bool) → bytes_eq b.name x ≡ p → (length bs ≤ slot_of bs x → bs ++ record { name = x; value = v } ∷ [] ≡ bound bs x v)
        → b ∷ bs ++ record { name = x; value = v } ∷ [] ≡ bound (b ∷ bs) x v
    go true h rest = let i : slot_of (b ∷ bs) x ≡ 0 = ap (λ (t : Bool). if t then 0 else suc (slot_of bs x)) h in absurd (omega (arith, l, i))
    go false h rest =
        let i : slot_of (b ∷ bs) x ≡ suc (slot_of bs x) = ap (λ (t : Bool). if t then 0 else suc (slot_of bs x)) h in
        ap (λ (c : List Local). b ∷ c) (rest (omega (arith, l, i)))
        ∙ sym (ap (λ (t : Bool). if t then valued b v ∷ bs else b ∷ bound bs x v) h)

-- what names stand for then
bound_at : (bs : List Local) (x : List ℕ) (v : ℤ) (y : List ℕ) → local_of (bound bs x v) y ≡ with_name (local_of bs) x v y
bound_at [] x v y = refl
bound_at (b ∷ bs) x v y = go (bytes_eq b.name x) refl (bytes_eq b.name y) refl (bytes_eq x y) refl (bound_at bs x v y)
  where
    go : (p : Bool) → bytes_eq b.name x ≡ p → (q : Bool) → bytes_eq b.name y ≡ q → (r : Bool) → bytes_eq x y ≡ r
        → local_of (bound bs x v) y ≡ with_name (local_of bs) x v y → local_of (bound (b ∷ bs) x v) y ≡ with_name (local_of (b ∷ bs)) x v y
    go true a true h true k rest = rw (a, h, k) refl
    go true a false h false k rest = rw (a, h, k) refl
    go true a true h false k rest =
        let same : x ≡ y = sym ((bytes_eq-Decides b.name x).0 a) ∙ (bytes_eq-Decides b.name y).0 h in
        let t = (bytes_eq-Decides x y).1 same in cc
    go true a false h true k rest =
        let same : b.name ≡ y = (bytes_eq-Decides b.name x).0 a ∙ (bytes_eq-Decides x y).0 k in
        let t = (bytes_eq-Decides b.name y).1 same in cc
    go false a true h true k rest =
        let same : b.name ≡ x = (bytes_eq-Decides b.name y).0 h ∙ sym ((bytes_eq-Decides x y).0 k) in
        let t = (bytes_eq-Decides b.name x).1 same in cc
    go false a true h false k rest = rw (a, h, k) refl
    go false a false h true k rest = rw (a, h) (rest ∙ rw k refl)
    go false a false h false k rest = rw (a, h) (rest ∙ rw k refl)

-- and their frame
pub bound_is : (b : Bound) (x : List ℕ) (v : ℤ) → frame_of (with_bound b x v) ≡ with_local (frame_of b) x v
bound_is b x v = λ j. record { regions = (frame_of b).regions; locals = λ y. bound_at b.locals x v y j }

-- a target gets a value
pub delivered_is : {E : Type 0} (b b' : Bound) (o : Option Named) (x : Named) (v : ℤ) (r : Result (Unit {0}) E) → o ≡ Some x
    → OnOk r (b' ≡ with_bound b x.name v) → OnOk r (frame_of b' ≡ delivered o v (frame_of b))
delivered_is b b' o x v (Ok u) e h = ap frame_of h ∙ bound_is b x.name v ∙ sym (ap (λ (o : Option Named). delivered o v (frame_of b)) e)
delivered_is b b' o x v (Err y) e h = tt

-- a parameter gets one
pub passed_number : (f : Frame) (a : Arrays) (m : Mode) (x : List ℕ) (e : Expression) (b b' : Bound) (v : ℤ) → m ≡ mode.Int → evaluate f a e ≡ Ok v
    → b' ≡ with_bound b x v → with_argument f a m x e (frame_of b) ≡ Ok (frame_of b')
passed_number f a m x e b b' v i said is =
    ap (λ (m : Mode). with_argument f a m x e (frame_of b)) i
    ∙ ap (λ (r : Result ℤ TrapAt). then_with r (λ v. ok_frame (with_local (frame_of b) x v))) said
    ∙ ap ok_frame (sym (ap frame_of is ∙ bound_is b x v))

-- the word of a region that is written
pub put_is : (a a' : Arrays) (r g : Region) (array place at : ℕ) (v : ℤ) → g ≡ r → array ≡ g.array → place ≡ g.start + at
    → a' ≡ set a array (set (array_at a array) place v) → a' ≡ with_word a r at v
put_is a a' r g array place at v e i j is =
    subst (λ (r : Region). a' ≡ with_word a r at v) e
    (subst (λ (k : ℕ). a' ≡ set a g.array (set (array_at a g.array) k v)) j
    (subst (λ (k : ℕ). a' ≡ set a k (set (array_at a k) place v)) i is))

-- both parts of a region, lent to their names
pub parted : (old mid new : Bound) (x y : List ℕ) (r g f s : Region) (n : ℕ) → g ≡ r → f ≡ first_part n g → s ≡ second_part n g
    → mid ≡ with_lent old x f → new ≡ with_lent mid y s → new ≡ with_lent (with_lent old x (first_part n r)) y (second_part n r)
parted old mid new x y r g f s n i j k l m =
    m ∙ ap (λ (b : Bound). with_lent b y s) l ∙ ap (λ (f : Region). with_lent (with_lent old x f) y s) (j ∙ ap (first_part n) i)
    ∙ ap (λ (s : Region). with_lent (with_lent old x (first_part n r)) y s) (k ∙ ap (second_part n) i)

-- the frame of one element
pub elemented : (old copy mid new : Bound) (i x : List ℕ) (r g e : Region) (n : ℕ) → copy ≡ old → mid ≡ with_bound copy i (pos n) → g ≡ r
    → e ≡ part_at n g → new ≡ with_lent mid x e
    → frame_of new ≡ with_region (with_local (frame_of old) i (pos n)) x (part_at n r)
elemented old copy mid new i x r g e n c l h k m =
    ap frame_of m
    ∙ ap (λ (b : Bound). with_region (frame_of b) x e) (l ∙ ap (λ (b : Bound). with_bound b i (pos n)) c)
    ∙ ap (λ (f : Frame). with_region f x e) (bound_is old i (pos n))
    ∙ ap (λ (e : Region). with_region (with_local (frame_of old) i (pos n)) x e) (k ∙ ap (part_at n) h)
