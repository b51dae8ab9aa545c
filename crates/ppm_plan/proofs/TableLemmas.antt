-- What a table of faults has, item by item.
use Rattle.std.proofs.Common.{◌≡◌, ◌∙◌, ℕ, ◌-◌, ◌<◌, ◌≤◌, ◌==◌, Bool, true, false, ◌&&◌, ◌||◌, cond, List, [], ◌∷◌, length, get_or, take, drop, take_all, le_refl, Option, Some, None, refl, ap, sym, eqb-true, arith}
use Rattle.std.specs.Cmp.{both_tied, unsigned_ties}
use Rattle.std.specs.List.{list_any}
use Rattle.std.specs.Ordering.{is_eq}
use Rattle.ppm_plan.specs.declared.fault.Fault.{Fault}
use Rattle.ppm_plan.specs.declared.fault.Fault.TheVariants.{Soft, Hard}
use Rattle.ppm_plan.specs.declared.plan_item.PlanItem.{PlanItem}
use Rattle.ppm_plan.specs.Forms.{is_hard}
use Rattle.ppm_plan.specs.Faults.{fault_at, is_at, is_hard_at}
use Rattle.ppm_plan.specs.Tables.{by_turn, graver, with_item, with_rest}

-- the keys of two turns are one where processors and turns are
pub same_turn : (a b c d : ℕ) → is_eq (by_turn (a, b) (c, d)) ≡ ((a == c) && (b == d))
same_turn a b c d = sym (both_tied (a == c) (b == d) _ _ (unsigned_ties a c) (unsigned_ties b d))

-- nothing is left
pub none_left : (met : Option Fault) → with_rest met None ≡ met
none_left None = refl
none_left (Some met) = refl

-- one item more, by what it says of a turn, and what those after it say
pub item_met : (met : Option Fault) (i : PlanItem) (items : List PlanItem) (c t : ℕ)
    → with_rest (with_item met i c t) (fault_at items c t) ≡ with_rest met (fault_at (i ∷ items) c t)
item_met met i items c t =
    go (i.processor == c) (i.turn == t) i.fault met (list_any (is_hard_at c t) items) (list_any (is_at c t) items)
  where
    go : (p q : Bool) (f : Fault) (met : Option Fault) (a b : Bool)
        → with_rest (cond (p && q) (Some (graver met f)) met) (cond a (Some Hard) (cond b (Some Soft) None))
        ≡ with_rest met (cond ((p && q && is_hard f) || a) (Some Hard) (cond ((p && q) || b) (Some Soft) None))
    go false q f met a b = refl
    go true false f met a b = refl
    go true true Hard None true b = refl
    go true true Hard None false true = refl
    go true true Hard None false false = refl
    go true true Hard (Some Soft) true b = refl
    go true true Hard (Some Soft) false true = refl
    go true true Hard (Some Soft) false false = refl
    go true true Hard (Some Hard) true b = refl
    go true true Hard (Some Hard) false true = refl
    go true true Hard (Some Hard) false false = refl
    go true true Soft None true b = refl
    go true true Soft None false true = refl
    go true true Soft None false false = refl
    go true true Soft (Some Soft) true b = refl
    go true true Soft (Some Soft) false true = refl
    go true true Soft (Some Soft) false false = refl
    go true true Soft (Some Hard) true b = refl
    go true true Soft (Some Hard) false true = refl
    go true true Soft (Some Hard) false false = refl

-- one item was put into a table
pub item_put : (new old : ℕ × ℕ → Option Fault) (i : PlanItem)
    → ((k : ℕ × ℕ) → new k ≡ cond (is_eq (by_turn (i.processor, i.turn) k)) (Some (graver (old (i.processor, i.turn)) i.fault)) (old k))
    → (c t : ℕ) → new (c, t) ≡ with_item (old (c, t)) i c t
item_put new old i h c t =
    h (c, t) ∙ ap (λ b. cond b (Some (graver (old (i.processor, i.turn)) i.fault)) (old (c, t))) (same_turn i.processor i.turn c t)
    ∙ go (i.processor == c) (i.turn == t) refl refl
  where
    pair_path : {a b d e : ℕ} → a ≡ b → d ≡ e → ◌≡◌ {A = ℕ × ℕ} (a, d) (b, e)
    pair_path p q = λ k. (p k, q k)

    go : (p q : Bool) → (i.processor == c) ≡ p → (i.turn == t) ≡ q
        → cond (p && q) (Some (graver (old (i.processor, i.turn)) i.fault)) (old (c, t)) ≡ cond (p && q) (Some (graver (old (c, t)) i.fault)) (old (c, t))
    go false q e f = refl
    go true false e f = refl
    go true true e f = ap (λ k. Some (graver (old k) i.fault)) (pair_path (eqb-true i.processor c e) (eqb-true i.turn t f))

-- the loop over the items: one more, by the first and those after it
pub one_put : (all met new : Option Fault) (left : List PlanItem) (d : PlanItem) (c t : ℕ) → 1 ≤ length left
    → new ≡ with_item met (get_or left 0 d) c t → with_rest met (fault_at left c t) ≡ all
    → with_rest new (fault_at (take (length left - 1) (drop 1 left)) c t) ≡ all
one_put all met new [] d c t h e whole = absurd (omega (arith, h))
one_put all met new (i ∷ items) d c t h e whole =
    let one : length (i ∷ items) - 1 ≡ length items = omega arith in
    let rest : take (length (i ∷ items) - 1) items ≡ items = ap (λ k. take k items) one ∙ take_all (length items) items (le_refl (length items)) in
    ap (λ l. with_rest new (fault_at l c t)) rest ∙ ap (λ m. with_rest m (fault_at items c t)) e ∙ item_met met i items c t ∙ whole

-- and its end
pub all_put : (all met : Option Fault) (left : List PlanItem) (c t : ℕ) → length left < 1 → with_rest met (fault_at left c t) ≡ all → met ≡ all
all_put all met [] c t h whole = sym (none_left met) ∙ whole
all_put all met (i ∷ items) c t h whole = absurd (omega (arith, h))
