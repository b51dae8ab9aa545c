-- How a row came about, of kinds of which the words by cells do not say it: by the words that were found.
use Rattle.std.proofs.Common.{◌≡◌, ℕ, true, List, [], ◌∷◌, length, refl, ap, ◌∙◌, subst}
use Rattle.ppm_cells.specs.declared.restart.RestartKind.{RestartKind}
use Rattle.ppm_cells.specs.declared.restart.RestartKind.TheVariants.{Run, Bump, Push1, Push2, Unwind, Arrive, Join, Pop1, Pop2, Seek, Steal, Check, Take, Take2}
use Rattle.ppm_cells.specs.declared.shape.Shape.{Shape}
use Rattle.ppm_step.specs.Rows.{row_of, found_at}
use Rattle.ppm_step.specs.Standings.{row_is_there}
use Rattle.ppm_step.specs.declared.row.Row.{Row}
use Rattle.ppm_step.specs.declared.row.Row.TheVariants.{Now, Store, Exchange}
use Rattle.ppm_step.specs.declared.row.Seat.{Seat}
use Rattle.ppm_step.specs.declared.row.Then.TheVariants.{Load, Install, Fork, Begin, Move, Enter, Again, Broken}
use Rattle.ppm_tickets.specs.Saw.{HasSeen, Strand, Looks, IsStrand, rest_of}
use Rattle.ppm_tickets.specs.View.{content_by}
use Rattle.ppm_tickets.specs.Words.{Word, Spot}
use Rattle.ppm_kept.specs.Pushing.{Comes}
use Rattle.ppm_kept.specs.Steps.{CameBy}

-- what is left of a row by the words that were found is what it has come to
comes_of : (s : Shape) (seat : Seat) (v : ℕ) (row rest : Row) (ws : List Word) → row_is_there s seat rest ≡ true → rest_of s seat v row ws ≡ rest → Comes s seat (length ws) row rest
comes_of s seat v row rest [] there e = e
comes_of s seat v (Now (Load point)) rest (w ∷ ws) there e = (v, content_by w, comes_of s seat v (found_at s seat v point (content_by w)) rest ws there e)
comes_of s seat v (Now (Install re)) rest (w ∷ ws) there e = absurd (let z = ap (row_is_there s seat) e ∙ there in cc)
comes_of s seat v (Now (Fork r)) rest (w ∷ ws) there e = absurd (let z = ap (row_is_there s seat) e ∙ there in cc)
comes_of s seat v (Now (Begin r f b)) rest (w ∷ ws) there e = absurd (let z = ap (row_is_there s seat) e ∙ there in cc)
comes_of s seat v (Now (Move q)) rest (w ∷ ws) there e = absurd (let z = ap (row_is_there s seat) e ∙ there in cc)
comes_of s seat v (Now (Enter x)) rest (w ∷ ws) there e = absurd (let z = ap (row_is_there s seat) e ∙ there in cc)
comes_of s seat v (Now Again) rest (w ∷ ws) there e = absurd (let z = ap (row_is_there s seat) e ∙ there in cc)
comes_of s seat v (Now Broken) rest (w ∷ ws) there e = absurd (let z = ap (row_is_there s seat) e ∙ there in cc)
comes_of s seat v (Store c x next) rest (w ∷ ws) there e = comes_of s seat v (Now next) rest ws there e
comes_of s seat v (Exchange c old new next) rest (w ∷ ws) there e = comes_of s seat v (Now next) rest ws there e

pub came_from : (s : Shape) (seat : Seat) (row : Row) (m : Spot → Word) → row_is_there s seat row ≡ true → HasSeen s m seat row → CameBy s seat seat.restart.kind row
came_from s seat row m there seen = by seat.restart.kind refl seen
  where
    looked : (k : RestartKind) → seat.restart.kind ≡ k → (IsStrand k → ⊥) → HasSeen s m seat row → (n : ℕ) × Comes s seat n (row_of s seat k) row
    looked k e none (Strand is quiet) = absurd (none (subst IsStrand e is))
    looked k e none (Looks v ws fit is saw) = (length ws, subst (λ (a : RestartKind). Comes s seat (length ws) (row_of s seat a) row) e (comes_of s seat v (row_of s seat seat.restart.kind) row ws there is))

    by : (k : RestartKind) → seat.restart.kind ≡ k → HasSeen s m seat row → CameBy s seat k row
    by (Run f y) e seen = tt
    by (Bump r) e seen = tt
    by (Unwind f) e seen = tt
    by (Arrive r d) e seen = tt
    by (Join r d) e seen = tt
    by (Push1 r) e seen = looked (Push1 r) e (λ z. z) seen
    by (Push2 r) e seen = looked (Push2 r) e (λ z. z) seen
    by Pop1 e seen = looked Pop1 e (λ z. z) seen
    by (Pop2 r) e seen = looked (Pop2 r) e (λ z. z) seen
    by Seek e seen = looked Seek e (λ z. z) seen
    by (Steal v j) e seen = looked (Steal v j) e (λ z. z) seen
    by (Check v j) e seen = looked (Check v j) e (λ z. z) seen
    by (Take v j) e seen = looked (Take v j) e (λ z. z) seen
    by (Take2 v) e seen = looked (Take2 v) e (λ z. z) seen
