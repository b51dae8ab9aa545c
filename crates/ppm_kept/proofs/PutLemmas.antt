-- A function with another value at a place, and whose pool an address is in.
use Rattle.std.proofs.Common.{◌≡◌, ◌≢◌, ℕ, ◌==◌, refl}
use Rattle.std.proofs.lemmas.Bool.{eq-eqb, ne_eqb, cond-true, cond-false}
use Rattle.ppm_kept.specs.Kept.{put}

pub put_here : {A : Type 0} (f : ℕ → A) (p : ℕ) (x : A) → put f p x p ≡ x
unfolding put
put_here f p x = cond-true (p == p) _ _ (eq-eqb p p refl)

pub put_else : {A : Type 0} (f : ℕ → A) (p : ℕ) (x : A) (q : ℕ) → q ≢ p → put f p x q ≡ f q
unfolding put
put_else f p x q ne = cond-false (q == p) _ _ (ne_eqb q p ne)
