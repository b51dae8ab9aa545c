-- The open forks in their order: the last one that began no later than a stamp decides what stands beside.
use Rattle.std.proofs.Common.{◌≡◌, ◌<◌, ◌≤◌, ℕ, zero, suc, Bool, true, false, ◌&&◌, ◌||◌, nat_le, nat_lt, List, [], ◌∷◌, length, get_or, refl}
use Rattle.std.proofs.Common.{sym, ap, ◌∙◌, subst, arith, inl, inr}
use Rattle.std.specs.List.{AllByRecursion}
use Rattle.std.specs.List.Sorted.{IsPartitionPoint, IsNonDecreasingBy}
use Rattle.std.proofs.lemmas.Bool.{lt-ltb, le-ltb, leb-true}
use Rattle.ppm_races.specs.Beside.{is_left_of, stands_beside, IsOneOf, IsInside, AreInOrder, HasLeft}
use Rattle.ppm_races.specs.declared.stamps.Mark.{Mark}

-- all of a list, at a place
at_place : (P : Mark → Type 0) (marks : List Mark) → AllByRecursion P marks → (i : ℕ) (d : Mark) → i < length marks → P (get_or marks i d)
at_place P [] all i d less = absurd (omega (arith, less))
at_place P (m ∷ marks) all zero d less = all.0
at_place P (m ∷ marks) all (suc i) d less = at_place P marks all.1 i d (omega (arith, less))

-- what stands at a place is one of the list
one_at : (marks : List Mark) (i : ℕ) (d : Mark) → i < length marks → IsOneOf (get_or marks i d) marks
one_at [] i d less = absurd (omega (arith, less))
one_at (m ∷ marks) zero d less = inl refl
one_at (m ∷ marks) (suc i) d less = inr (one_at marks i d (omega (arith, less)))

-- the starts do not fall
pub starts_rise : (marks : List Mark) → AreInOrder marks → IsNonDecreasingBy (λ (m : Mark). m.start) marks
starts_rise [] are i j d le less = absurd (omega (arith, less))
starts_rise (m ∷ marks) are zero zero d le less = omega arith
starts_rise (m ∷ marks) are zero (suc j) d le less = (at_place (IsInside m) marks are.0 j d (omega (arith, less))).start
starts_rise (m ∷ marks) are (suc i) zero d le less = absurd (omega (arith, le))
starts_rise (m ∷ marks) are (suc i) (suc j) d le less = starts_rise marks are.1 i j d (omega (arith, le)) (omega (arith, less))

-- a fork that began later has no such stamp
not_begun : (m : Mark) (k : ℕ) → nat_le m.start k ≡ false → is_left_of m k ≡ false
not_begun m k h = ap (λ (b : Bool). b && nat_lt k m.mid) h

-- nor has one whose left branch was over
is_over : (m : Mark) (k : ℕ) → m.mid ≤ k → is_left_of m k ≡ false
is_over m k h = ap (λ (b : Bool). nat_le m.start k && b) (le-ltb k m.mid h) ∙ and_false (nat_le m.start k)
  where
    and_false : (b : Bool) → (b && false) ≡ false
    and_false true = refl
    and_false false = refl

-- false changes no join
or_false : (x : Bool) → (x || false) ≡ x
or_false true = refl
or_false false = refl

-- none has begun
pub none_begun : (marks : List Mark) (k : ℕ) (d : Mark) → ((i : ℕ) → i < length marks → nat_le (get_or marks i d).start k ≡ false)
    → stands_beside marks k ≡ false
none_begun [] k d after = refl
none_begun (m ∷ marks) k d after =
    ap (λ (b : Bool). b || stands_beside marks k) (not_begun m k (after 0 (omega arith)))
    ∙ none_begun marks k d (λ i less. after (suc i) (omega (arith, less)))

-- the last one that has begun decides
pub last_decides : (marks : List Mark) → AreInOrder marks → (k j : ℕ) (d : Mark) → j < length marks
    → nat_le (get_or marks j d).start k ≡ true → ((i : ℕ) → j < i → i < length marks → nat_le (get_or marks i d).start k ≡ false)
    → stands_beside marks k ≡ nat_lt k (get_or marks j d).mid
last_decides [] are k j d less begun after = absurd (omega (arith, less))
last_decides (m ∷ marks) are k zero d less begun after =
    ap (λ (b : Bool). is_left_of m k || b) (none_begun marks k d (λ i more. after (suc i) (omega arith) (omega (arith, more))))
    ∙ or_false (is_left_of m k) ∙ ap (λ (b : Bool). b && nat_lt k m.mid) begun
last_decides (m ∷ marks) are k (suc j) d less begun after =
    let inside = at_place (IsInside m) marks are.0 j d (omega (arith, less)) in
    let since = leb-true (get_or marks j d).start k begun in
    let ended = inside.mid in
    ap (λ (b : Bool). b || stands_beside marks k) (is_over m k (omega (arith, since, ended)))
    ∙ last_decides marks are.1 k j d (omega (arith, less)) begun (λ i more there. after (suc i) (omega (arith, more)) (omega (arith, there)))

module _ (marks : List Mark) (are : AreInOrder marks) (k count : ℕ) (few : count ≤ length marks)
    (point : IsPartitionPoint (λ (m : Mark). nat_le m.start k ≡ true) (λ (m : Mark). nat_le m.start k ≡ false) marks count) where
  -- by where the forks that have begun end
  pub none_there : count ≡ 0 → (d : Mark) → stands_beside marks k ≡ false
  none_there none d = none_begun marks k d (λ i less. point.1 i d (omega (arith, none)) less)

  -- the last that has begun decides
  decides : (j : ℕ) (d : Mark) → count ≡ suc j → stands_beside marks k ≡ nat_lt k (get_or marks j d).mid
  decides j d is = last_decides marks are k j d (omega (arith, is, few)) (point.0 j d (omega arith) (omega (arith, is)))
      (λ i more less. point.1 i d (omega (arith, more, is)) less)

  -- it has the stamp
  pub last_has : (j : ℕ) (d mark : Mark) → count ≡ suc j → mark ≡ get_or marks j d → k < mark.mid → HasLeft marks k mark
  last_has j d mark is same less =
      let there : j < length marks = omega (arith, is, few) in
      let mid = ap (λ (m : Mark). m.mid) same in
      let start = ap (λ (m : Mark). m.start) same in
      let since = leb-true (get_or marks j d).start k (point.0 j d (omega arith) (omega (arith, is))) in
      record {
        one_of = subst (λ (m : Mark). IsOneOf m marks) (sym same) (one_at marks j d there);
        from = omega (arith, start, since);
        before = less;
        beside = decides j d is ∙ lt-ltb k (get_or marks j d).mid (omega (arith, mid, less));
      }

  -- or none has
  pub last_has_not : (j : ℕ) (d mark : Mark) → count ≡ suc j → mark ≡ get_or marks j d → mark.mid ≤ k → stands_beside marks k ≡ false
  last_has_not j d mark is same more =
      let mid = ap (λ (m : Mark). m.mid) same in
      decides j d is ∙ le-ltb k (get_or marks j d).mid (omega (arith, mid, more))
