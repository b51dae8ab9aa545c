-- Numbers that grow within their limits, or begin anew.
use Rattle.std.proofs.Common.{◌≡◌, ℕ, suc, ◌+◌, ◌-◌, ◌≤◌, ◌<◌, Bool, true, false, List, [], ◌∷◌, refl, sym, ◌∙◌, ap, arith}
use Rattle.std.specs.Prelude.{◌==◌, ◌&&◌, not, nat_lt, Option, Some, None, if◌then◌else◌}
use Rattle.ppm_grammar.specs.Limits.{Anew, Tally, with_count, adds, Limit, Limits, passed, Leaves, Remains, takes, fills}
use Rattle.ppm_grammar.proofs.ListLemmas.{and_left, and_right, not_true}

-- by one amount and by another
pub adds_twice : (w n m : ℕ) (c : Tally) → adds w m (adds w n c) ≡ adds w (n + m) c
adds_twice w n m c = λ i which. go which (which == w) i
  where
    go : (which : ℕ) (b : Bool) →
        (if b then (if b then c which + n else c which) + m else (if b then c which + n else c which)) ≡ (if b then c which + (n + m) else c which)
    go which true = omega arith
    go which false = refl

-- by nothing
pub adds_none : (w : ℕ) (c : Tally) → adds w 0 c ≡ c
adds_none w c = λ i which. go which (which == w) i
  where
    go : (which : ℕ) (b : Bool) → (if b then c which + 0 else c which) ≡ c which
    go which true = omega arith
    go which false = refl

module _ {T C : Type 0} (l : Limits T C) where
  -- no limit is passed where some may still come
  pub leaves_free : {w room : ℕ} {c : Tally} → Leaves l w room c → passed l.most c ≡ None
  leaves_free {w = w} {c = c} h = ap (passed l.most) (sym (adds_none w c)) ∙ h.free 0 (omega arith)

  -- after some more, less may come
  pub leaves_less : {w room : ℕ} {c : Tally} (n left : ℕ) → n + left ≡ room → Leaves l w room c → Leaves l w left (adds w n c)
  leaves_less {w = w} {room = room} {c = c} n left is h = record {
    free = λ m small. ap (passed l.most) (adds_twice w n m c) ∙ h.free (n + m) (omega (arith, is, small));
    full = let same : n + suc left ≡ suc room = omega (arith, is) in
        ap (passed l.most) (adds_twice w n (suc left) c ∙ ap (λ q. adds w q c) same) ∙ h.full;
  }

-- no limit of the number is listed
abbrev pub absent : ℕ → List Limit → Bool
absent w [] = true
absent w (l ∷ ls) = not (l.which == w) && absent w ls

-- the number has this limit and no other
abbrev pub sole : ℕ → ℕ → List Limit → Bool
sole w m [] = false
sole w m (l ∷ ls) = if l.which == w then (l.most == m) && absent w ls else sole w m ls

-- where the first limit is kept, and all are, so are the others
kept_first : (b : Bool) (which : ℕ) (o : Option ℕ) → (if b then Some which else o) ≡ None → (b ≡ false) × (o ≡ None)
kept_first true which o h = cc
kept_first false which o h = (refl, h)

-- another number passes no limit more
absent_same : (w n : ℕ) (ls : List Limit) (c : Tally) → absent w ls ≡ true → passed ls (adds w n c) ≡ passed ls c
absent_same w n [] c h = refl
absent_same w n (l ∷ ls) c h =
    let other : (l.which == w) ≡ false = not_true (l.which == w) (and_left _ _ h) in
    let others = absent_same w n ls c (and_right (not (l.which == w)) _ h) in rw (other, others) refl

-- the number stays within its limit
sole_free : (w m n : ℕ) (ls : List Limit) (c : Tally) → sole w m ls ≡ true → passed ls c ≡ None → c w + n ≤ m → passed ls (adds w n c) ≡ None
sole_free w m n [] c h k small = cc
sole_free w m n (l ∷ ls) c h k small = go (l.which == w) refl h (kept_first _ _ _ k) (λ h' k'. sole_free w m n ls c h' k' small)
  where
    go : (b : Bool) → (l.which == w) ≡ b → (if b then (l.most == m) && absent w ls else sole w m ls) ≡ true →
        (nat_lt l.most (c l.which) ≡ false) × (passed ls c ≡ None) → (sole w m ls ≡ true → passed ls c ≡ None → passed ls (adds w n c) ≡ None) →
        (if nat_lt l.most (if b then c l.which + n else c l.which) then Some l.which else passed ls (adds w n c)) ≡ None
    go true e h k below =
        let here : l.which ≡ w = grind (arith, e) in
        let most : l.most ≡ m = let equal = and_left (l.most == m) _ h in grind (arith, equal) in
        let under : nat_lt l.most (c l.which + n) ≡ false = rw (here, most) (grind (arith, small)) in
        rw under (absent_same w n ls c (and_right _ _ h) ∙ k.1)
    go false e h k below = rw k.0 (below h k.1)

-- or is the one that passes it
sole_full : (w m n : ℕ) (ls : List Limit) (c : Tally) → sole w m ls ≡ true → passed ls c ≡ None → m < c w + n → passed ls (adds w n c) ≡ Some w
sole_full w m n [] c h k large = cc
sole_full w m n (l ∷ ls) c h k large = go (l.which == w) refl h (kept_first _ _ _ k) (λ h' k'. sole_full w m n ls c h' k' large)
  where
    go : (b : Bool) → (l.which == w) ≡ b → (if b then (l.most == m) && absent w ls else sole w m ls) ≡ true →
        (nat_lt l.most (c l.which) ≡ false) × (passed ls c ≡ None) → (sole w m ls ≡ true → passed ls c ≡ None → passed ls (adds w n c) ≡ Some w) →
        (if nat_lt l.most (if b then c l.which + n else c l.which) then Some l.which else passed ls (adds w n c)) ≡ Some w
    go true e h k below =
        let here : l.which ≡ w = grind (arith, e) in
        let most : l.most ≡ m = let equal = and_left (l.most == m) _ h in grind (arith, equal) in
        let over : nat_lt l.most (c l.which + n) ≡ true = rw (here, most) (grind (arith, large)) in
        rw over (ap Some here)
    go false e h k below = rw k.0 (below h k.1)

-- what is left of a number up to its limit
pub leaves_by : {T C : Type 0} (l : Limits T C) {w m room : ℕ} {c : Tally} → sole w m l.most ≡ true → passed l.most c ≡ None → c w + room ≡ m →
    Leaves l w room c
leaves_by l {w = w} {m = m} {room = room} {c = c} one free is = record {
  free = λ n small. sole_free w m n l.most c one free (omega (arith, is, small));
  full = sole_full w m (suc room) l.most c one free (omega (arith, is));
}

-- a number that begins anew passes no limit
pub anew_free : (w : ℕ) (ls : List Limit) (c : Tally) → passed ls c ≡ None → passed ls (with_count (Anew w) c) ≡ None
anew_free w [] c h = refl
anew_free w (l ∷ ls) c h = let k = kept_first _ _ _ h in go (l.which == w) k.0 (anew_free w ls c k.1)
  where
    go : (b : Bool) → nat_lt l.most (c l.which) ≡ false → passed ls (with_count (Anew w) c) ≡ None →
        (if nat_lt l.most (if b then 0 else c l.which) then Some l.which else passed ls (with_count (Anew w) c)) ≡ None
    go true kept below = let none : nat_lt l.most 0 ≡ false = grind (arith) in rw none below
    go false kept below = rw kept below

-- where of each number some may still come, none has passed its limit
pub remains_free : (ls : List Limit) (left c : Tally) → Remains ls left c → passed ls c ≡ None
remains_free [] left c h = refl
remains_free (l ∷ ls) left c h =
    let under : nat_lt l.most (c l.which) ≡ false = grind (arith, h.0) in let others = remains_free ls left c h.1 in rw (under, others) refl

-- a number grows by no more than may come
pub remains_adds : (w n : ℕ) (ls : List Limit) (left c : Tally) → n ≤ left w → Remains ls left c → Remains ls (takes w n left) (adds w n c)
remains_adds w n [] left c h r = tt
remains_adds w n (l ∷ ls) left c h r = (go (l.which == w) refl, remains_adds w n ls left c h r.1)
  where
    go : (b : Bool) → (l.which == w) ≡ b → (if b then c l.which + n else c l.which) + (if b then left l.which - n else left l.which) ≡ l.most
    go true e =
        let here : l.which ≡ w = grind (arith, e) in
        let small : n ≤ left l.which = rw here h in omega (arith, small, r.0)
    go false e = r.0

-- a number begins anew
pub remains_anew : (w m : ℕ) (ls : List Limit) (left c : Tally) → sole w m ls ≡ true → Remains ls left c → Remains ls (fills w m left) (with_count (Anew w) c)
remains_anew w m [] left c h r = cc
remains_anew w m (l ∷ ls) left c h r = go (l.which == w) refl h (λ h'. remains_anew w m ls left c h' r.1)
  where
    others : (ls : List Limit) → absent w ls ≡ true → Remains ls left c → Remains ls (fills w m left) (with_count (Anew w) c)
    others [] h r = tt
    others (k ∷ ls) h r =
        let other : (k.which == w) ≡ false = not_true (k.which == w) (and_left _ _ h) in
        (rw other r.0, others ls (and_right _ _ h) r.1)

    go : (b : Bool) → (l.which == w) ≡ b → (if b then (l.most == m) && absent w ls else sole w m ls) ≡ true →
        (sole w m ls ≡ true → Remains ls (fills w m left) (with_count (Anew w) c)) →
        ((if b then 0 else c l.which) + (if b then m else left l.which) ≡ l.most) × Remains ls (fills w m left) (with_count (Anew w) c)
    go true e h below =
        let most : l.most ≡ m = let equal = and_left (l.most == m) _ h in grind (arith, equal) in
        (omega (arith, most), others ls (and_right _ _ h) r.1)
    go false e h below = (r.0, below h)

-- what may still come of a number and what came make its limit
pub remains_of : (w m : ℕ) (ls : List Limit) (left c : Tally) → sole w m ls ≡ true → Remains ls left c → c w + left w ≡ m
remains_of w m [] left c h r = cc
remains_of w m (l ∷ ls) left c h r = go (l.which == w) refl h (λ h'. remains_of w m ls left c h' r.1)
  where
    go : (b : Bool) → (l.which == w) ≡ b → (if b then (l.most == m) && absent w ls else sole w m ls) ≡ true → (sole w m ls ≡ true → c w + left w ≡ m) →
        c w + left w ≡ m
    go true e h below =
        let here : l.which ≡ w = grind (arith, e) in
        let most : l.most ≡ m = let equal = and_left (l.most == m) _ h in grind (arith, equal) in rw (← here, ← most) r.0
    go false e h below = below h

-- what may still come of such a number is what it leaves
pub remains_leaves : {T C : Type 0} (l : Limits T C) (w m : ℕ) (left c : Tally) → sole w m l.most ≡ true → Remains l.most left c → Leaves l w (left w) c
remains_leaves l w m left c one r = leaves_by l one (remains_free l.most left c r) (remains_of w m l.most left c one r)

-- and a number that grows by more passes its limit
pub remains_full : (w m n : ℕ) (ls : List Limit) (left c : Tally) → sole w m ls ≡ true → Remains ls left c → left w < n → passed ls (adds w n c) ≡ Some w
remains_full w m n ls left c one r more =
    let is = remains_of w m ls left c one r in sole_full w m n ls c one (remains_free ls left c r) (omega (arith, is, more))
