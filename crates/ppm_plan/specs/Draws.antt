-- What is drawn from words of Xoshiro256++.
use Rattle.std.specs.Prelude.{ℕ, zero, suc, ◌+◌, ◌%◌, ◌==◌, ◌&&◌, not, if◌then◌else◌, List, [], ◌∷◌, map}
use Rattle.rand_core.specs.Steps.{first_words}
use Rattle.rand_xoshiro.specs.SplitMix64.{splitmix_seed}
use Rattle.rand_xoshiro.specs.Xoshiro256.{of_seed, plus_plus}
use Rattle.ppm_plan.specs.declared.fault.Fault.{Fault}
use Rattle.ppm_plan.specs.declared.fault.Fault.TheVariants.{Soft, Hard}
use Rattle.ppm_plan.specs.declared.plan_item.PlanItem.{PlanItem}

-- the generator that a number seeds
abbrev pub seeded : ℕ → List ℕ
seeded x = of_seed (splitmix_seed 32 x)

-- the first k victims of processor c among p, with the seed x: words, each modulo p
abbrev pub victims_of : (x c p k : ℕ) → List ℕ
victims_of x c p k = map (λ w. w % p) (first_words plus_plus k (seeded (x + c)))

-- a generator that draws victims among so many processors
pub record Drawing : Type 0 where
  pub words : List ℕ
  pub processors : ℕ

-- the k victims that it draws next
abbrev pub next_victims : Drawing → (k : ℕ) → List ℕ
next_victims v k = map (λ w. w % v.processors) (first_words plus_plus k v.words)

-- the word that a generator gives, and the generator after it
abbrev pub word_of : List ℕ → ℕ
word_of s = (plus_plus s).0

abbrev pub after_word : List ℕ → List ℕ
after_word s = (plus_plus s).1

-- hard for one in eight, but never of processor 0
abbrev pub fault_drawn : (processor z : ℕ) → Fault
fault_drawn processor z = if (z % 8 == 0) && not (processor == 0) then Hard else Soft

-- the fault that three words give
abbrev pub item_drawn : (p u v z : ℕ) → PlanItem
item_drawn p u v z = record { processor = u % p; turn = v % 65536; fault = fault_drawn (u % p) z }

-- so many faults, each of three words
abbrev pub items_drawn : (p : ℕ) → (count : ℕ) → (s : List ℕ) → List PlanItem
items_drawn p zero s = []
items_drawn p (suc count) s =
    item_drawn p (word_of s) (word_of (after_word s)) (word_of (after_word (after_word s)))
    ∷ items_drawn p count (after_word (after_word (after_word s)))
