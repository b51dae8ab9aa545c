-- What is drawn, word by word.
use Rattle.std.proofs.Common.{◌≡◌, ◌∙◌, ℕ, zero, suc, ◌%◌, ◌==◌, Bool, true, false, ◌&&◌, ◌||◌, not, cond, List, [], ◌∷◌, ◌++◌, map, refl, ap, sym}
use Rattle.std.proofs.lemmas.List.{append_assoc}
use Rattle.rand_core.specs.Steps.{first_words}
use Rattle.rand_xoshiro.specs.Xoshiro256.{plus_plus}
use Rattle.ppm_plan.specs.declared.fault.Fault.TheVariants.{Soft, Hard}
use Rattle.ppm_plan.specs.declared.plan_item.PlanItem.{PlanItem}
use Rattle.ppm_plan.specs.Forms.{plan_form, is_hard}
use Rattle.ppm_plan.specs.Refusals.{is_killed}
use Rattle.ppm_plan.specs.Draws.{word_of, after_word, item_drawn, items_drawn, fault_drawn}

-- the first victim, and those after it
pub first_victim : (s s' : List ℕ) (u p k : ℕ) → (u, s') ≡ plus_plus s
    → map (λ w. w % p) (first_words plus_plus (suc k) s) ≡ u % p ∷ map (λ w. w % p) (first_words plus_plus k s')
unfolding first_words
first_victim s s' u p k e = ap (λ q. q.0 % p ∷ map (λ w. w % p) (first_words plus_plus k q.1)) (sym e)

-- no fault that is drawn kills processor 0
spares_zero : (c z : ℕ) → (is_hard (fault_drawn c z) && (c == 0)) ≡ false
spares_zero c z = go (z % 8 == 0) (c == 0)
  where
    go : (a b : Bool) → (is_hard (cond (a && not b) Hard Soft) && b) ≡ false
    go true true = refl
    go true false = refl
    go false true = refl
    go false false = refl

pub all_spare_zero : (p n : ℕ) (s : List ℕ) → is_killed plan_form 0 (items_drawn p n s) ≡ false
all_spare_zero p zero s = refl
all_spare_zero p (suc n) s =
    let u = word_of s in
    let z = word_of (after_word (after_word s)) in
    let more = is_killed plan_form 0 (items_drawn p n (after_word (after_word (after_word s)))) in
    ap (λ b. b || more) (spares_zero (u % p) z) ∙ all_spare_zero p n (after_word (after_word (after_word s)))

-- three words more, and the item of them
pub one_more : (p n m : ℕ) (s s1 s2 s3 : List ℕ) (u v z : ℕ) (items more all : List PlanItem) → n ≡ suc m
    → (u, s1) ≡ plus_plus s → (v, s2) ≡ plus_plus s1 → (z, s3) ≡ plus_plus s2
    → more ≡ items ++ item_drawn p u v z ∷ [] → items ++ items_drawn p n s ≡ all → more ++ items_drawn p m s3 ≡ all
one_more p n m s s1 s2 s3 u v z items more all e e1 e2 e3 h whole =
    let first : (items ++ item_drawn p u v z ∷ []) ++ items_drawn p m s3 ≡ items ++ item_drawn p u v z ∷ items_drawn p m s3 =
    append_assoc items (item_drawn p u v z ∷ []) (items_drawn p m s3) in
    let third : items ++ item_drawn p u v z ∷ items_drawn p m s3
    ≡ items ++ item_drawn p u v (word_of s2) ∷ items_drawn p m (after_word s2) =
    ap (λ q. items ++ item_drawn p u v q.0 ∷ items_drawn p m q.1) e3 in
    let second : items ++ item_drawn p u v (word_of s2) ∷ items_drawn p m (after_word s2)
    ≡ items ++ item_drawn p u (word_of s1) (word_of (after_word s1)) ∷ items_drawn p m (after_word (after_word s1)) =
    ap (λ q. items ++ item_drawn p u q.0 (word_of q.1) ∷ items_drawn p m (after_word q.1)) e2 in
    let begin : items ++ item_drawn p u (word_of s1) (word_of (after_word s1)) ∷ items_drawn p m (after_word (after_word s1))
    ≡ items ++ items_drawn p (suc m) s =
    ap (λ q. items ++ item_drawn p q.0 (word_of q.1) (word_of (after_word q.1)) ∷ items_drawn p m (after_word (after_word q.1))) e1 in
    ap (λ l. l ++ items_drawn p m s3) h ∙ first ∙ third ∙ second ∙ begin ∙ ap (λ k. items ++ items_drawn p k s) (sym e) ∙ whole
