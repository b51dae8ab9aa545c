-- What the processors of a run have counted together is what its turns are.
use Rattle.std.proofs.Common.{◌≡◌, ◌≤◌, ◌<◌, ◌∙◌, ℕ, zero, suc, ◌+◌, ◌==◌, min, Bool, true, false, if◌then◌else◌, List, [], ◌∷◌, ◌++◌, length, refl, sym, ap, subst, arith, eq-eqb, ne_eqb, length-append}
use native.Mathlib.Decide.{ℕ_discrete}
use mathlib.Core.Logic.{dite}
use Rattle.ppm_cells.specs.declared.shape.Shape.{Shape}
use Rattle.ppm_code.specs.declared.code.CodeParts.{CodeParts}
use Rattle.ppm_step.specs.declared.turn.Act.{Act}
use Rattle.ppm_step.specs.declared.turn.Turn.{Turn}
use Rattle.ppm_step.specs.Standings.{Standing}
use Rattle.ppm_step.specs.State.{State, along, forks_of, happens, is_work_turn, stand_of, takes_of, work_of}
use Rattle.ppm_table.specs.declared.act_counts.ActCounts.{ActCounts}
use Rattle.ppm_table.specs.declared.view.Deed.{Deed}
use Rattle.ppm_table.specs.declared.view.Opening.{Opening}
use Rattle.ppm_table.specs.Counting.{TellsTurns, acts_of_kind, both_counts, is_hard, is_soft, none_counted, all_counts, counted, counts_below, counts_along, counts_by, together}
use Rattle.ppm_table.specs.Run.{act_by, behind, deed_at, deeds_by, deeds_of, start, AllTold}
use Rattle.ppm_table.proofs.AddLemmas.{Fits, fits_on, forks_at, most, one_if, takes_at, counted_adds}
use Rattle.ppm_table.proofs.RunLemmas.{behind_is, length_stays, live_below, lost_at, lost_length, no_deed, own_deed, stands_still}

-- no number is there yet
none_fits : Fits none_counted
none_fits = record { acts = omega arith; work = omega arith; forks = omega arith; takes = omega arith; soft = omega arith; hard = omega arith }

-- sums of kept numbers
three : (a b c : ℕ) → together (together a b) c ≡ together a (b + c)
three a b c = omega arith

two : (a b : ℕ) → together (together 0 a) (together 0 b) ≡ together 0 (a + b)
two a b = omega arith

from_none : (a : ℕ) → together 0 a ≡ min a most
from_none a = omega arith

-- every turn names a processor below this number
abbrev AreBelow : (count : ℕ) → List Turn → Type 0
AreBelow count [] = Unit {0}
AreBelow count (turn ∷ turns) = (turn.processor < count) × AreBelow count turns

-- those of processors that aren't done name some that are there
told_below : (s : Shape) (code : CodeParts) (count : ℕ) (state : State) (turns : List Turn) → length state.stand ≡ count
    → AllTold s code state turns → AreBelow count turns
told_below s code count state [] len all = tt
told_below s code count state (turn ∷ turns) len all = (
  (let h = live_below state.stand turn.processor all.0.lives in omega (arith, h, len)),
  told_below s code count (happens s code state turn) turns (length_stays s code state turn all.0.lives ∙ len) all.1,
)

module _ (s : Shape) (code : CodeParts) where
  -- of the turns of a run
  abbrev sum_along : (State → Turn → ℕ) → State → List Turn → ℕ
  sum_along g state [] = 0
  sum_along g state (turn ∷ turns) = g state turn + sum_along g (happens s code state turn) turns

  module _ (f : ActCounts → ℕ) (n : Act → Standing → ℕ) (kept : (t : ActCounts) → Fits t → f t ≤ most)
      (adds : (act : Act) (standing : Standing) (t : ActCounts) → Fits t → f (counted act standing t) ≡ together (f t) (n act standing)) where
    abbrev of_turn : State → Turn → ℕ
    of_turn state turn = n turn.act (stand_of state turn.processor)

    abbrev of_own : (c : ℕ) → State → Turn → ℕ
    of_own c state turn = if turn.processor == c then of_turn state turn else 0

    -- one processor
    one_counts : (c : ℕ) (state : State) (turns : List Turn) (t : ActCounts) → Fits t → c < length state.stand → AllTold s code state turns
        → f (counts_along s code c t (stand_of state c) (deeds_of s code c state turns)) ≡ together (f t) (sum_along (of_own c) state turns)
    one_counts c state [] t h small all = let k = kept t h in omega (arith, k)
    one_counts c state (turn ∷ turns) t h small all =
        let next = happens s code state turn in
        let small' : c < length next.stand = omega (arith, small, length_stays s code state turn all.0.lives) in
        let more = deeds_of s code c next turns in
        let rest = sum_along (of_own c) next turns in
        dite (ℕ_discrete turn.processor c)
        (λ same.
        let here : turn.processor < length state.stand = omega (arith, small, same) in
        let deed = deed_at s code state turn in
        let st = stand_of state c in
        let mine : deeds_by s code c state turn ≡ deed ∷ [] = subst (λ (d : ℕ). deeds_by s code d state turn ≡ deed ∷ []) same (own_deed s code state turn) in
        let stands : behind s code c st deed ≡ stand_of next c =
        subst (λ (d : ℕ). behind s code d (stand_of state d) deed ≡ stand_of next d) same (behind_is s code state turn all.0 here) in
        let act : act_by s st deed ≡ turn.act = ap (λ (d : ℕ). act_by s (stand_of state d) deed) (sym same) ∙ all.0.act in
        let own : of_own c state turn ≡ n turn.act st =
        ap (λ (b : Bool). if b then of_turn state turn else 0) (eq-eqb turn.processor c same) ∙ ap (λ (d : ℕ). n turn.act (stand_of state d)) same in
        let t' = counted turn.act st t in
        ap (λ (l : List Deed). f (counts_along s code c t st (l ++ more))) mine
        ∙ ap (λ (a : Act). f (counts_along s code c (counted a st t) (behind s code c st deed) more)) act
        ∙ ap (λ (x : Standing). f (counts_along s code c t' x more)) stands
        ∙ one_counts c next turns t' (fits_on turn.act st t h) small' all.1
        ∙ ap (λ (x : ℕ). together x rest) (adds turn.act st t h)
        ∙ three (f t) (n turn.act st) rest
        ∙ ap (λ (x : ℕ). together (f t) (x + rest)) (sym own))
        (λ other.
        let own : of_own c state turn ≡ 0 = ap (λ (b : Bool). if b then of_turn state turn else 0) (ne_eqb turn.processor c other) in
        ap (λ (l : List Deed). f (counts_along s code c t (stand_of state c) (l ++ more))) (no_deed s code state turn c other)
        ∙ ap (λ (x : Standing). f (counts_along s code c t x more)) (sym (stands_still s code state turn c all.0.lives other))
        ∙ one_counts c next turns t h small' all.1
        ∙ ap (λ (x : ℕ). together (f t) x) (let e : rest ≡ 0 + rest = omega arith in e)
        ∙ ap (λ (x : ℕ). together (f t) (x + rest)) (sym own))

    -- all of them: each turn is of one
    abbrev sum_below : (ℕ → ℕ) → (count : ℕ) → ℕ
    sum_below g zero = 0
    sum_below g (suc c) = sum_below g c + g c

    both_below : (g h : ℕ → ℕ) (count : ℕ) → sum_below (λ c. g c + h c) count ≡ sum_below g count + sum_below h count
    both_below g h zero = refl
    both_below g h (suc c) = let e = both_below g h c in omega (arith, e)

    none_below : (p x count : ℕ) → count ≤ p → sum_below (λ c. if p == c then x else 0) count ≡ 0
    none_below p x zero h = refl
    none_below p x (suc c) h =
        let e = none_below p x c (omega (arith, h)) in
        let z : (if p == c then x else 0) ≡ 0 = ap (λ (b : Bool). if b then x else 0) (ne_eqb p c (λ same. omega (arith, h, same))) in
        omega (arith, e, z)

    one_below : (p x count : ℕ) → p < count → sum_below (λ c. if p == c then x else 0) count ≡ x
    one_below p x zero h = absurd (omega (arith, h))
    one_below p x (suc c) h = dite (ℕ_discrete p c)
        (λ same.
        let e = none_below p x c (omega (arith, same)) in
        let z : (if p == c then x else 0) ≡ x = ap (λ (b : Bool). if b then x else 0) (eq-eqb p c same) in
        omega (arith, e, z))
        (λ other.
        let e = one_below p x c (omega (arith, h, other)) in
        let z : (if p == c then x else 0) ≡ 0 = ap (λ (b : Bool). if b then x else 0) (ne_eqb p c other) in
        omega (arith, e, z))

    nobody : (count : ℕ) → sum_below (λ c. 0) count ≡ 0
    nobody zero = refl
    nobody (suc c) = let e = nobody c in omega (arith, e)

    each_turn : (count : ℕ) (state : State) (turns : List Turn) → AreBelow count turns
        → sum_below (λ c. sum_along (of_own c) state turns) count ≡ sum_along of_turn state turns
    each_turn count state [] below = nobody count
    each_turn count state (turn ∷ turns) below =
        let next = happens s code state turn in
        let rest = each_turn count next turns below.1 in
        let here = one_below turn.processor (of_turn state turn) count below.0 in
        both_below (λ c. of_own c state turn) (λ c. sum_along (of_own c) next turns) count ∙ omega (arith, rest, here)

module _ (k : Opening) (turns : List Turn) (all : AllTold k.shape k.code (start k) turns) (f : ActCounts → ℕ) (n : Act → Standing → ℕ)
    (kept : (t : ActCounts) → Fits t → f t ≤ most)
    (adds : (act : Act) (standing : Standing) (t : ActCounts) → Fits t → f (counted act standing t) ≡ together (f t) (n act standing))
    (nothing : f none_counted ≡ 0) (both : (t u : ActCounts) → f (both_counts t u) ≡ together (f t) (f u)) where
  abbrev own_sum : ℕ → ℕ
  own_sum c = sum_along k.shape k.code (of_own k.shape k.code f n kept adds c) (start k) turns

  abbrev sums : ℕ → ℕ
  sums count = sum_below k.shape k.code f n kept adds own_sum count

  mine : (c : ℕ) → c < k.shape.processors → f (counts_by k c (deeds_of k.shape k.code c (start k) turns)) ≡ together 0 (own_sum c)
  mine c small =
      let len : c < length (start k).stand = let e = lost_length k.shape.processors in omega (arith, small, e) in
      ap (λ (st : Standing). f (counts_along k.shape k.code c none_counted st (deeds_of k.shape k.code c (start k) turns))) (sym (lost_at k.shape.processors c small))
      ∙ one_counts k.shape k.code f n kept adds c (start k) turns none_counted none_fits len all
      ∙ ap (λ (x : ℕ). together x (own_sum c)) nothing

  below : (count : ℕ) → count ≤ k.shape.processors → f (counts_below k turns count) ≡ together 0 (sums count)
  below zero h = nothing
  below (suc c) h =
      both (counts_below k turns c) (counts_by k c (deeds_of k.shape k.code c (start k) turns))
      ∙ ap (λ (x : ℕ). together x (f (counts_by k c (deeds_of k.shape k.code c (start k) turns)))) (below c (omega (arith, h)))
      ∙ ap (λ (x : ℕ). together (together 0 (sums c)) x) (mine c (omega (arith, h)))
      ∙ two (sums c) (own_sum c)

  pub number_is : AreBelow k.shape.processors turns
      → f (all_counts k turns) ≡ min (sum_along k.shape k.code (of_turn k.shape k.code f n kept adds) (start k) turns) most
  number_is among = below k.shape.processors (omega arith)
      ∙ ap (λ (x : ℕ). together 0 x) (each_turn k.shape k.code f n kept adds k.shape.processors (start k) turns among) ∙ from_none _

-- sums of what turns tell
module _ (s : Shape) (code : CodeParts) where
  ones : (state : State) (turns : List Turn) → sum_along s code (λ state turn. 1) state turns ≡ length turns
  ones state [] = refl
  ones state (turn ∷ turns) = let e = ones (happens s code state turn) turns in omega (arith, e)

  of_kind : (is : Act → Bool) (state : State) (turns : List Turn) → sum_along s code (λ state turn. one_if (is turn.act)) state turns ≡ acts_of_kind is turns
  of_kind is state [] = refl
  of_kind is state (turn ∷ turns) = ap (λ (x : ℕ). one_if (is turn.act) + x) (of_kind is (happens s code state turn) turns)

  told_lists : (told : State → Turn → List ℕ) (g : State → Turn → ℕ) → ((state : State) (turn : Turn) → g state turn ≡ length (told state turn))
      → (state : State) (turns : List Turn) → sum_along s code g state turns ≡ length (along s code told state turns)
  told_lists told g same state [] = refl
  told_lists told g same state (turn ∷ turns) =
      let next = happens s code state turn in
      ap (λ (x : ℕ). x + sum_along s code g next turns) (same state turn)
      ∙ ap (λ (x : ℕ). length (told state turn) + x) (told_lists told g same next turns)
      ∙ sym (length-append (told state turn) (along s code told next turns))

work_listed : (b : Bool) (processor : ℕ) → one_if b ≡ length (if b then processor ∷ [] else [])
work_listed true processor = refl
work_listed false processor = refl

pub tells_turns : (k : Opening) (turns : List Turn) → AllTold k.shape k.code (start k) turns → TellsTurns k turns (all_counts k turns)
tells_turns k turns all =
    let among = told_below k.shape k.code k.shape.processors (start k) turns (lost_length k.shape.processors) all in
    let cut = λ (n : ℕ). min n most in
    record {
      acts = number_is k turns all (λ t. t.acts) (λ act standing. 1) (λ t h. h.acts) (λ act standing t h. (counted_adds act standing t h).acts) refl
          (λ t u. refl) among ∙ ap cut (ones k.shape k.code (start k) turns);
      work = number_is k turns all (λ t. t.work) (λ act standing. one_if (is_work_turn act standing)) (λ t h. h.work)
          (λ act standing t h. (counted_adds act standing t h).work_is) refl (λ t u. refl) among
          ∙ ap cut (told_lists k.shape k.code work_of _ (λ state turn. work_listed (is_work_turn turn.act (stand_of state turn.processor)) turn.processor)
          (start k) turns);
      forks = number_is k turns all (λ t. t.forks) forks_at (λ t h. h.forks) (λ act standing t h. (counted_adds act standing t h).forks_are) refl
          (λ t u. refl) among ∙ ap cut (told_lists k.shape k.code forks_of _ (λ state turn. refl) (start k) turns);
      takes = number_is k turns all (λ t. t.takes) takes_at (λ t h. h.takes) (λ act standing t h. (counted_adds act standing t h).takes_are) refl
          (λ t u. refl) among ∙ ap cut (told_lists k.shape k.code takes_of _ (λ state turn. refl) (start k) turns);
      soft = number_is k turns all (λ t. t.soft) (λ act standing. one_if (is_soft act)) (λ t h. h.soft)
          (λ act standing t h. (counted_adds act standing t h).soft_are) refl (λ t u. refl) among ∙ ap cut (of_kind k.shape k.code is_soft (start k) turns);
      hard = number_is k turns all (λ t. t.hard) (λ act standing. one_if (is_hard act)) (λ t h. h.hard)
          (λ act standing t h. (counted_adds act standing t h).hard_are) refl (λ t u. refl) among ∙ ap cut (of_kind k.shape k.code is_hard (start k) turns);
    }
