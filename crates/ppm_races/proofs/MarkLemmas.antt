-- The marks of the open forks say what stands beside a strand, and stand in order.
use Rattle.std.proofs.Common.{◌≡◌, ◌<◌, ℕ, Bool, true, false, ◌||◌, nat_le, nat_lt, List, [], ◌∷◌, ◌++◌}
use Rattle.std.proofs.Common.{refl, sym, ap, ◌∙◌, subst, arith, inl, inr}
use Rattle.std.specs.Prelude.{◌⊎◌}
use Rattle.std.specs.List.{AllByRecursion}
use Rattle.std.proofs.Math.Path.{fun_ext}
use Rattle.std.proofs.lemmas.Bool.{le-ltb, and_right}
use Rattle.ppm_strands.specs.Tree.{Words, Code}
use Rattle.ppm_strands.specs.Capsule.{Memory}
use Rattle.ppm_strands.specs.Strand.{own_of, new_of, start}
use Rattle.ppm_code.specs.declared.act.End.{End}
use Rattle.ppm_code.specs.declared.act.End.TheVariants.{Next, Finish, Trap, Call, Fork}
use Rattle.ppm_code.specs.declared.code.CodeParts.{CodeParts}
use Rattle.ppm_code.specs.Locations.{Where}
use Rattle.ppm_code.specs.Strands.{Result, opens}
use Rattle.ppm_depth.specs.Stack.{Own, Strands, Above}
use Rattle.ppm_depth.specs.declared.frame.Frame.{Frame}
use Rattle.ppm_depth.proofs.FollowLemmas.{above_after, leaf_after}
use Rattle.ppm_stamps.specs.Stamps.{Stamps}
use Rattle.ppm_stamps.specs.Moments.{Above as Standing, InCallee, InLeft, InRight, beside_of, Comes, Calls, Forks, IsOpen}
use Rattle.ppm_stamps.proofs.MomentLemmas.{beside_low}
use Rattle.ppm_stamps.proofs.OpenLemmas.{AreBelow, Ascends, ascends}
use Rattle.ppm_races.specs.Beside.{is_left_of, stands_beside, IsOneOf, IsInside, AreInOrder}
use Rattle.ppm_races.specs.Walks.{rise, marks_of, opens_fork, marks_with}
use Rattle.ppm_races.specs.declared.stamps.Mark.{Mark}

-- all of a list and one more
all_push : (P : Mark → Type 0) (ms : List Mark) (n : Mark) → AllByRecursion P ms → P n → AllByRecursion P (ms ++ (n ∷ []))
all_push P [] n all one = (one, tt)
all_push P (m ∷ ms) n all one = (all.0, all_push P ms n all.1 one)

-- false changes no join
or_false : (x : Bool) → (x || false) ≡ x
or_false true = refl
or_false false = refl

-- joins in another grouping
or_more : (x y z : Bool) → (x || (y || z)) ≡ ((x || y) || z)
or_more true y z = refl
or_more false y z = refl

-- what stands beside, with one fork more
stands_append : (ms : List Mark) (m : Mark) (k : ℕ) → stands_beside (ms ++ (m ∷ [])) k ≡ (stands_beside ms k || is_left_of m k)
stands_append [] m k = or_false (is_left_of m k)
stands_append (n ∷ ms) m k = ap (λ (b : Bool). is_left_of n k || b) (stands_append ms m k) ∙ or_more (is_left_of n k) (stands_beside ms k) (is_left_of m k)

-- a mark of a left branch under way has nothing beside it
none_left_of : (start k : ℕ) → is_left_of (record { start = start; mid = 0 }) k ≡ false
none_left_of start k = and_right (nat_le start k) (nat_lt k 0) (le-ltb k 0 (omega arith))

-- marks say what stands beside
pub beside_marks : (p : List (Standing Own Result)) (k : ℕ) → stands_beside (marks_of p) k ≡ beside_of p k
beside_marks [] k = refl
beside_marks (InCallee g ∷ p) k = beside_marks p k
beside_marks (InLeft g r start ∷ p) k =
    stands_append (marks_of p) (record { start = start; mid = 0 }) k
    ∙ ap (λ (b : Bool). stands_beside (marks_of p) k || b) (none_left_of start k) ∙ or_false (stands_beside (marks_of p) k) ∙ beside_marks p k
beside_marks (InRight g o start mid ∷ p) k =
    stands_append (marks_of p) (record { start = start; mid = mid }) k
    ∙ ap (λ (b : Bool). b || is_left_of (record { start = start; mid = mid }) k) (beside_marks p k)

-- and as tests they are one
pub same_beside : (marks : List Mark) (p : List (Standing Own Result)) → marks ≡ marks_of p → stands_beside marks ≡ beside_of p
same_beside marks p e = ap (λ (ms : List Mark). stands_beside ms) e ∙ fun_ext (beside_marks p)

-- nothing stands beside who is next
pub now_clear : (c : Code Own Result) (root : Strands) (input : Words) (marks : List Mark) (p : List (Standing Own Result)) (t : Strands) (a : Words)
    (s : Stamps)
    → marks ≡ marks_of p → Comes c root input p t a s → stands_beside marks s.time ≡ false
now_clear c root input marks p t a s e come = by (stands_beside marks s.time) refl
  where
    by : (b : Bool) → stands_beside marks s.time ≡ b → stands_beside marks s.time ≡ false
    by false is = is
    by true is =
        let less = beside_low c come s.time (sym (ap (λ (q : ℕ → Bool). q s.time) (same_beside marks p e)) ∙ is) in
        absurd (omega (arith, less))

-- the marks stand in order
order_push : (ms : List Mark) (n : Mark) → AreInOrder ms → AllByRecursion (λ (m : Mark). IsInside m n) ms → AreInOrder (ms ++ (n ∷ []))
order_push [] n are all = (tt, tt)
order_push (m ∷ ms) n are all = (all_push (IsInside m) ms n are.0 all.0, order_push ms n are.1 all.1)

-- all open forks are outside of a new one
all_inside : (p : List (Standing Own Result)) (n : Mark) → AreBelow p n.start → AllByRecursion (λ (m : Mark). IsInside m n) (marks_of p)
all_inside [] n below = tt
all_inside (InCallee g ∷ p) n below = all_inside p n below
all_inside (InLeft g r start ∷ p) n below =
    all_push (λ (m : Mark). IsInside m n) (marks_of p) (record { start = start; mid = 0 }) (all_inside p n below.1)
    (let le = below.0 in record { start = omega (arith, le); mid = omega arith })
all_inside (InRight g o start mid ∷ p) n below =
    all_push (λ (m : Mark). IsInside m n) (marks_of p) (record { start = start; mid = mid }) (all_inside p n below.2)
    (record { start = below.0; mid = below.1 })

-- the marks of what ascends
in_order : (p : List (Standing Own Result)) → Ascends p → AreInOrder (marks_of p)
in_order [] are = tt
in_order (InCallee g ∷ p) are = in_order p are
in_order (InLeft g r start ∷ p) are =
    order_push (marks_of p) (record { start = start; mid = 0 }) (in_order p are.1) (all_inside p (record { start = start; mid = 0 }) are.0)
in_order (InRight g o start mid ∷ p) are =
    order_push (marks_of p) (record { start = start; mid = mid }) (in_order p are.1) (all_inside p (record { start = start; mid = mid }) are.0)

-- at each moment of a run
pub now_sorted : (c : Code Own Result) (root : Strands) (input : Words) (marks : List Mark) (p : List (Standing Own Result)) (t : Strands) (a : Words)
    (s : Stamps)
    → marks ≡ marks_of p → Comes c root input p t a s → AreInOrder marks
now_sorted c root input marks p t a s e come = subst (λ (ms : List Mark). AreInOrder ms) (sym e) (in_order p (ascends c come).1)

-- a mark with a right branch is of a fork that is open
one_split : (ms : List Mark) (m n : Mark) → IsOneOf m (ms ++ (n ∷ [])) → IsOneOf m ms ⊎ (m ≡ n)
one_split [] m n h = elim h [ inl e ↦ inr e | inr y ↦ absurd y ]
one_split (x ∷ ms) m n h = elim h [ inl e ↦ inl (inl e) | inr y ↦ elim (one_split ms m n y) [ inl z ↦ inl (inr z) | inr e ↦ inr e ] ]

-- a mark with a right branch
pub open_of : (p : List (Standing Own Result)) (m : Mark) → 0 < m.mid → IsOneOf m (marks_of p) → IsOpen m.start m.mid p
open_of [] m some h = absurd h
open_of (InCallee g ∷ p) m some h = open_of p m some h
open_of (InLeft g r start ∷ p) m some h = elim (one_split (marks_of p) m (record { start = start; mid = 0 }) h) [
  | inl y ↦ open_of p m some y
  | inr e ↦ absurd (let none = ap (λ (n : Mark). n.mid) e in omega (arith, none, some))
]
open_of (InRight g o start mid ∷ p) m some h = elim (one_split (marks_of p) m (record { start = start; mid = mid }) h) [
  | inl y ↦ inr (open_of p m some y)
  | inr e ↦ inl (ap (λ (n : Mark). n.start) e, ap (λ (n : Mark). n.mid) e)
]

-- the forks that are open after an end
abbrev pub forks_after : ℕ → End → List Mark → List Mark
forks_after time (Next k) ms = ms
forks_after time Finish ms = ms
forks_after time (Trap trap line) ms = ms
forks_after time (Call q k to) ms = ms
forks_after time (Fork q r k left_to right_to) ms = record { start = time; mid = 0 } ∷ ms

-- what an end opens is entered
pub entered : (c : Code Own Result) (root : Strands) (input : Words) (code : CodeParts) (frame : Frame) (block : ℕ) (m : Memory Where) (s : Above)
    (ms : List Mark) (a : Words)
    (u : Stamps) (e : End) → Comes c root input (rise s ms) (opens code e (own_of m) (new_of m)) a u
    → Comes c root input (rise (above_after code frame block m s e) (forks_after u.time e ms)) (leaf_after code m e) a u
entered c root input code frame block m s ms a u (Next k) come = come
entered c root input code frame block m s ms a u Finish come = come
entered c root input code frame block m s ms a u (Trap trap line) come = come
entered c root input code frame block m s ms a u (Call q k to) come = Calls come
entered c root input code frame block m s ms a u (Fork q r k left_to right_to) come = Forks come

-- and so are the marks
pub marks_entered : (code : CodeParts) (frame : Frame) (block : ℕ) (m : Memory Where) (s : Above) (ms : List Mark) (time : ℕ) (e : End) (marks : List Mark)
    → marks ≡ marks_of (rise s ms) → marks_with (opens_fork e) time marks ≡ marks_of (rise (above_after code frame block m s e) (forks_after time e ms))
marks_entered code frame block m s ms time (Next k) marks is = is
marks_entered code frame block m s ms time Finish marks is = is
marks_entered code frame block m s ms time (Trap trap line) marks is = is
marks_entered code frame block m s ms time (Call q k to) marks is = is
marks_entered code frame block m s ms time (Fork q r k left_to right_to) marks is =
    ap (λ (xs : List Mark). xs ++ (record { start = time; mid = 0 } ∷ [])) is
