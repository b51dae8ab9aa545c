-- The turn that comes next.
use Rattle.std.proofs.Common.{◌≡◌, ◌∙◌, ℕ, zero, suc, ◌+◌, ◌-◌, ◌≤◌, List, [], ◌∷◌, ◌++◌, length, replicate, refl, sym, ap, subst, arith}
use Rattle.ppm_plan.specs.declared.strand_item.StrandItem.{StrandItem}
use Rattle.ppm_interleaving.specs.declared.deed.Turn.{Turn}
use Rattle.ppm_interleaving.specs.declared.deed.Turn.TheVariants.{Step}
use Rattle.ppm_strand_runs.specs.Order.{turn_of, turns_of, left_of, whose, IsNext, OfSchedule, OfRound}

-- the first of several
first_of : (n : ℕ) (t : Turn) → 1 ≤ n → replicate n t ≡ t ∷ replicate (n - 1) t
first_of zero t h = absurd (omega (arith, h))
first_of (suc n) t h = let less : n ≡ suc n - 1 = omega arith in ap (λ (k : ℕ). t ∷ replicate k t) less

-- where there are not none there is one
pub some_left : (n : ℕ) → (n ≡ 0 → ⊥) → 1 ≤ n
some_left zero h = absurd (h refl)
some_left (suc n) h = omega arith

-- a list without items is empty
pub none_left : (l : List StrandItem) → length l ≡ 0 → l ≡ []
none_left [] h = refl
none_left (i ∷ l) h = absurd (omega (arith, h))

-- it is of the schedule
pub by_schedule : (whole : List Turn) (turn : Turn) (times : ℕ) (items : List StrandItem) (next strands : ℕ) → left_of turn times items ≡ whole → 1 ≤ times
    → IsNext whole next strands turn (left_of turn (times - 1) items) next
by_schedule whole turn times items next strands h some =
    subst (λ (l : List Turn). IsNext l next strands turn (left_of turn (times - 1) items) next)
    (sym (ap (λ (l : List Turn). l ++ turns_of items) (first_of times turn some)) ∙ h) (OfSchedule turn (left_of turn (times - 1) items) next strands)

-- it is of a round
pub by_round : (whole : List Turn) (turn : Turn) (times : ℕ) (items : List StrandItem) (next strands strand same : ℕ) → left_of turn times items ≡ whole
    → times ≡ 0 → items ≡ [] → strand ≡ whose next strands → same ≡ strand → IsNext whole next strands (Step strand) (left_of turn times items) (same + 1)
by_round whole turn times items next strands strand same h e f s k =
    let none : left_of turn times items ≡ [] = ap (λ (n : ℕ). left_of turn n items) e ∙ ap (λ (l : List StrandItem). left_of turn 0 l) f in
    subst (λ (w : ℕ). IsNext whole next strands (Step strand) (left_of turn times items) (w + 1)) (sym k)
    (subst (λ (w : ℕ). IsNext whole next strands (Step w) (left_of turn times items) (w + 1)) (sym s)
    (subst (λ (l : List Turn). IsNext l next strands (Step (whose next strands)) (left_of turn times items) (whose next strands + 1)) (sym none ∙ h)
    (subst (λ (l : List Turn). IsNext [] next strands (Step (whose next strands)) l (whose next strands + 1)) (sym none) (OfRound next strands))))

-- the turns of an item follow
pub by_item : (whole : List Turn) (turn other : Turn) (times n : ℕ) (items rest : List StrandItem) (item : StrandItem) → left_of turn times items ≡ whole
    → times ≡ 0 → items ≡ item ∷ rest → other ≡ turn_of item.act → n ≡ item.times → left_of other n rest ≡ whole
by_item whole turn other times n items rest item h e f o m =
    ap (λ (k : ℕ). left_of other k rest) m ∙ ap (λ (t : Turn). left_of t item.times rest) o
    ∙ sym (ap (λ (l : List StrandItem). left_of turn 0 l) f) ∙ sym (ap (λ (k : ℕ). left_of turn k items) e) ∙ h
