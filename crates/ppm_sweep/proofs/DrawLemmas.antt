-- Acts that are drawn, word by word.
use Rattle.std.proofs.Common.{◌≡◌, ◌∙◌, refl, sym, ap, arith, ℕ, zero, suc, ◌+◌, ◌%◌, ◌<◌, List, [], ◌∷◌, ◌++◌, map, append_assoc}
use Rattle.rand_core.specs.Steps.{first_words}
use Rattle.rand_xoshiro.specs.Xoshiro256.{plus_plus}
use Rattle.ppm_plan.specs.Draws.{seeded}
use Rattle.ppm_sweep.specs.declared.options.Draws.{Draws}
use Rattle.ppm_sweep.specs.declared.options.Window.{Window}
use Rattle.ppm_sweep.specs.Windows.{act_at, drawn}

module _ (from among : ℕ) where
  -- the acts that the next k words draw
  abbrev pub acts_drawn : (k : ℕ) → List ℕ → List Window
  acts_drawn k s = map (λ word. act_at (from + word % among)) (first_words plus_plus k s)

  first_drawn : (s s' : List ℕ) (word k : ℕ) → (word, s') ≡ plus_plus s → acts_drawn (suc k) s ≡ act_at (from + word % among) ∷ acts_drawn k s'
  unfolding first_words
  first_drawn s s' word k e = ap (λ q. act_at (from + q.0 % among) ∷ map (λ w. act_at (from + w % among)) (first_words plus_plus k q.1)) (sym e)

  pub none_drawn : (n : ℕ) (s : List ℕ) → n ≡ 0 → acts_drawn n s ≡ []
  unfolding first_words
  none_drawn zero s e = refl
  none_drawn (suc n) s e = cc

  -- one word more, and the act of it
  pub one_more : (n k : ℕ) (s s' : List ℕ) (word : ℕ) (items more all : List Window) → n ≡ suc k → (word, s') ≡ plus_plus s
      → more ≡ items ++ act_at (from + word % among) ∷ [] → items ++ acts_drawn n s ≡ all → more ++ acts_drawn k s' ≡ all
  one_more n k s s' word items more all e step h whole =
      ap (λ l. l ++ acts_drawn k s') h ∙ append_assoc items (act_at (from + word % among) ∷ []) (acts_drawn k s')
      ∙ ap (λ l. items ++ l) (sym (first_drawn s s' word k step)) ∙ ap (λ j. items ++ acts_drawn j s) (sym e) ∙ whole

-- all of them, where there are acts
pub drawn_is : (from among : ℕ) (d : Draws) → 0 < among → drawn from among d ≡ acts_drawn from among d.runs (seeded d.seed)
drawn_is from zero d some = absurd (omega (arith, some))
drawn_is from (suc n) d some = refl

pub none_among : (from among : ℕ) (d : Draws) → among ≡ 0 → [] ≡ drawn from among d
none_among from zero d none = refl
none_among from (suc n) d none = cc
