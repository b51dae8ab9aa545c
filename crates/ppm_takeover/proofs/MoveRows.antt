-- A processor moves to another place at the end of a row of Take2 alone.
use Rattle.std.proofs.Common.{◌≡◌, ◌⊎◌, ◌+◌, ℕ, zero, suc, List, [], ◌∷◌, inl, inr, refl, sym, ap, subst}
use Rattle.ppm_cells.specs.declared.restart.RestartKind.{RestartKind}
use Rattle.ppm_cells.specs.declared.restart.RestartKind.TheVariants.{Run, Bump, Push1, Push2, Unwind, Arrive, Join, Pop1, Pop2, Seek, Steal, Check, Take, Take2}
use Rattle.ppm_cells.specs.declared.shape.Shape.{Shape}
use Rattle.ppm_cells.specs.declared.shape.Takeover.TheVariants.{ByPlaces}
use Rattle.ppm_step.specs.Rows.{found_at, row_of}
use Rattle.ppm_step.specs.declared.row.Row.{Row}
use Rattle.ppm_step.specs.declared.row.Row.TheVariants.{Now, Store, Exchange}
use Rattle.ppm_step.specs.declared.row.Seat.{Seat}
use Rattle.ppm_step.specs.declared.row.Then.TheVariants.{Load, Install, Fork, Begin, Move, Enter, Again, Broken}
use Rattle.ppm_tickets.specs.Saw.{rest_of, IsQuiet, IsStrand, HasSeen, Strand, Looks}
use Rattle.ppm_tickets.specs.View.{content_by}
use Rattle.ppm_tickets.specs.Words.{Word, Spot}
use Rattle.ppm_tickets.proofs.QuietLemmas.{begun_quiet, rest_quiet}
use Rattle.ppm_paces.specs.Costs.{cost, IsShortKind, Leads, IsLook}
use Rattle.ppm_paces.proofs.RowLemmas.{rows_are_paid}
use Rattle.ppm_takeover.specs.Short.{LooksAtMost}
use Rattle.ppm_takeover.proofs.LookRows.{look_row}

-- a row that does not move
abbrev Still : Row → Type 0
Still (Now (Move place)) = ⊥
Still _ = Unit {0}

-- a row of work
module _ (s : Shape) (seat : Seat) (k : RestartKind) (u : ℕ) where
  abbrev Goal : Row → List Word → Type 0
  Goal row ws = Still (rest_of s seat u row ws)

  leads_still : (left made : ℕ) (row : Row) (ws : List Word) → Leads s seat k left made row → Goal row ws
  leads_still zero made (Now (Move x)) [] f = f
  leads_still (suc left) made (Now (Move x)) [] f = f
  leads_still left made (Now (Load x)) [] f = tt
  leads_still left made (Now (Install x)) [] f = tt
  leads_still left made (Now (Fork x)) [] f = tt
  leads_still left made (Now (Begin x y z)) [] f = tt
  leads_still left made (Now (Enter x)) [] f = tt
  leads_still left made (Now Again) [] f = tt
  leads_still left made (Now Broken) [] f = tt
  leads_still left made (Store c x next) [] f = tt
  leads_still left made (Exchange c old new next) [] f = tt
  leads_still zero made (Now (Load point)) (w ∷ ws) f = absurd f
  leads_still (suc left) made (Now (Load point)) (w ∷ ws) f =
      leads_still left (made + 1) (found_at s seat u point (content_by w)) ws (f u (content_by w))
  leads_still left made (Now (Install x)) (w ∷ ws) f = tt
  leads_still left made (Now (Fork x)) (w ∷ ws) f = tt
  leads_still left made (Now (Begin x y z)) (w ∷ ws) f = tt
  leads_still left made (Now (Move x)) (w ∷ ws) f = tt
  leads_still left made (Now (Enter x)) (w ∷ ws) f = tt
  leads_still left made (Now Again) (w ∷ ws) f = tt
  leads_still left made (Now Broken) (w ∷ ws) f = tt
  leads_still zero made (Store c x next) (w ∷ ws) f = absurd f
  leads_still (suc left) made (Store c x next) (w ∷ ws) f = leads_still left (made + 1) (Now next) ws f
  leads_still zero made (Exchange c old new next) (w ∷ ws) f = absurd f
  leads_still (suc left) made (Exchange c old new next) (w ∷ ws) (inr f) = leads_still left (made + 1) (Now next) ws f
  leads_still (suc left) made (Exchange c old new next) (w ∷ ws) (inl f) = subst (λ (x : _). Goal (Now x) ws) (sym f.3) (again ws)
    where
      again : (ws : List Word) → Goal (Now Again) ws
      again [] = tt
      again (w ∷ ws) = tt

-- what a kind is
kind_or : (k : RestartKind) → IsStrand k ⊎ (IsShortKind k ⊎ IsLook k)
kind_or (Run f y) = inl tt
kind_or (Bump r) = inl tt
kind_or (Push1 r) = inr (inl tt)
kind_or (Push2 r) = inr (inl tt)
kind_or (Unwind f) = inl tt
kind_or (Arrive r d) = inl tt
kind_or (Join r d) = inl tt
kind_or Pop1 = inr (inl tt)
kind_or (Pop2 r) = inr (inl tt)
kind_or Seek = inr (inr tt)
kind_or (Steal v i) = inr (inr tt)
kind_or (Check v i) = inr (inr tt)
kind_or (Take v d) = inr (inr tt)
kind_or (Take2 v) = inr (inr tt)

-- a row that looks and moves is one of Take2
look_moves : (s : Shape) (seat : Seat) (k : RestartKind) (n p : ℕ) → LooksAtMost s seat k n (Now (Move p)) → k ≡ Take2 p
look_moves s seat k zero p f = absurd f
look_moves s seat (Take2 v) (suc n) p f = ap Take2 (sym f)
look_moves s seat Seek (suc n) p f = absurd f
look_moves s seat (Steal v i) (suc n) p f = absurd f
look_moves s seat (Check v i) (suc n) p f = absurd f
look_moves s seat (Take v d) (suc n) p f = absurd f
look_moves s seat _ (suc n) p f = absurd f

pub moves_after_bid : (s : Shape) → s.takeover ≡ ByPlaces → (m : Spot → Word) (seat : Seat) (p : ℕ) → HasSeen s m seat (Now (Move p))
    → seat.restart.kind ≡ Take2 p
moves_after_bid s plain m seat p (Strand is quiet) = absurd quiet
moves_after_bid s plain m seat p (Looks u ws fit is saw) =
    let k = seat.restart.kind in
    let none : Still (rest_of s seat u (row_of s seat k) ws) → k ≡ Take2 p = λ still. absurd (subst Still is still) in
    elim (kind_or k) [
      | inl strand ↦ absurd (subst (IsQuiet seat) is (rest_quiet seat s u (row_of s seat k) ws (begun_quiet seat s k refl strand)))
      | inr (inl short) ↦ none (leads_still s seat k u (cost k) 0 (row_of s seat k) ws (rows_are_paid s seat k short))
      | inr (inr look) ↦
          let a = look_row s plain m seat (Now (Move p)) look (Looks u ws fit is saw) in
          look_moves s seat k a.0 p a.2
    ]
