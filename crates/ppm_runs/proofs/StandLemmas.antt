-- What places are at, and what is done there.
use Rattle.std.proofs.Common.{◌≡◌, ◌≢◌, ◌<◌, ℕ, zero, suc, Bool, true, false, if◌then◌else◌, List, Option, Some, None, inl, inr, refl, ap, ◌∙◌, arith}
use Rattle.std.specs.Prelude.{nat_lt}
use Rattle.std.proofs.lemmas.Bool.{cases_eq}
use Rattle.ppm_cells.specs.Memory.{read}
use Rattle.ppm_cells.specs.Restart.{restart_of}
use Rattle.ppm_cells.specs.declared.cell.Cell.TheVariants.{RestartWord}
use Rattle.ppm_cells.specs.declared.restart.Restart.{Restart}
use Rattle.ppm_cells.specs.declared.restart.RestartKind.TheVariants.{Seek}
use Rattle.ppm_cells.specs.declared.shape.Shape.{Shape}
use Rattle.ppm_step.specs.Standings.{Standing}
use Rattle.ppm_tickets.specs.View as spots
use Rattle.ppm_kept.specs.Moves.{doing_of}
use Rattle.ppm_kept.specs.Places.{kind_or, kinds_of, is_in, doing_in}

-- kinds by places are those of the tickets
pub kinds_same : (s : Shape) (words : List ℕ) (p : ℕ) → kinds_of s words p ≡ spots.kinds s words p
kinds_same s words p = by (nat_lt p s.processors) (restart_of (read s words (RestartWord p)))
  where
    by : (b : Bool) (o : Option Restart) → (if b then kind_or o else Seek) ≡ (if b then spots.restart_or o else spots.seeking).kind
    by true None = refl
    by true (Some r) = refl
    by false o = refl

-- what is done at a place by the one processor that is there
pub doing_own : (f : ℕ → Standing) (c p : ℕ) → is_in p (f c) ≡ true → ((d : ℕ) → d ≢ c → is_in p (f d) ≡ false) → (n : ℕ) → c < n → doing_in f n p ≡ doing_of (f c)
doing_own f c p here others zero lt = absurd (omega (arith, lt))
doing_own f c p here others (suc n) lt = elim (cases_eq n c) [
  | inl e ↦ ap (λ (y : ℕ). if is_in p (f y) then doing_of (f y) else doing_in f n p) e ∙ ap (λ (b : Bool). if b then doing_of (f c) else doing_in f n p) here
  | inr ne ↦ ap (λ (b : Bool). if b then doing_of (f n) else doing_in f n p) (others n ne) ∙ doing_own f c p here others n (omega (arith, lt, ne))
]
