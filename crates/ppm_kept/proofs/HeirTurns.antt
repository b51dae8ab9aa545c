-- A turn by which a place goes on with what it inherited is an install, and what it leaves is what
-- `heirs_keep` says.
use Rattle.std.proofs.Common.{◌≡◌, ◌≢◌, ℕ, Bool, false, List, ◌∷◌, sym, ap, ◌∙◌, subst}
use Rattle.ppm_strands.specs.Tree.{Words, Tree}
use Rattle.ppm_cells.specs.declared.restart.RestartKind.{RestartKind}
use Rattle.ppm_cells.specs.declared.restart.RestartKind.TheVariants.{Bump, Seek}
use Rattle.ppm_strands.specs.Strand.{Frame}
use Rattle.ppm_code.specs.Strands.{Point, Result}
use Rattle.ppm_code.specs.declared.location.FrameWord.{FrameWord}
use Rattle.ppm_step.specs.Standings.{Standing, IsWithin}
use Rattle.ppm_step.specs.State.{State as Machine, stand_of, happens, fork_row, row_by, step_by}
use Rattle.ppm_step.specs.declared.row.Row.TheVariants.{Now}
use Rattle.ppm_step.specs.declared.row.Seat.{Seat}
use Rattle.ppm_step.specs.declared.row.Then.{Then}
use Rattle.ppm_step.specs.declared.row.Then.TheVariants.{Install, Fork}
use Rattle.ppm_step.specs.declared.turn.Act.TheVariants.{Step}
use Rattle.ppm_frames.specs.Skeletons.{Skeleton}
use Rattle.ppm_kept.specs.Running.{IsFair}
use Rattle.ppm_kept.specs.Kept.{Setting, Resting, State, put, ceiling, IsKept}
use Rattle.ppm_kept.specs.Laws.{Ends, kind_then}
use Rattle.ppm_kept.specs.Moves.{installs}
use Rattle.ppm_kept.specs.Others.{IsIdle}
use Rattle.ppm_kept.specs.Heirs.{handed, GoesOnAs, inherits}
use Rattle.ppm_kept.specs.HeirTurns.{GoesOnBy, Heired, and_followed, HeirTurnsKeep, HeirTurnsBear}
use Rattle.ppm_kept.specs.Births.{Births, with_block}
use Rattle.ppm_kept.specs.Bearing.{with_blocks}
use Rattle.ppm_kept.specs.Left.{Followed, left, left_kinds, AreApart}
use Rattle.ppm_kept.specs.Places.{places_of, acted}
use Rattle.ppm_kept.proofs.HeirBirths.{heirs_bear}
use Rattle.ppm_kept.proofs.HeirLemmas.{heirs_keep, not_idle}
use Rattle.ppm_kept.proofs.LeftLemmas.{kind_away, kinds_install, put_swap}
use Rattle.ppm_kept.proofs.StateLemmas.{turns_show}

ends_so : (next : Then) (k : RestartKind) → GoesOnBy next k → Ends next
ends_so (Install restart) k h = tt
ends_so (Fork block) k h = tt
ends_so _ k h = absurd h

module _ (i : Setting) (fair : IsFair i.code) (root : Tree (Frame FrameWord Point) Result) (input : Words) (state : Machine) (l : List Followed) (apart : AreApart l) (t : Skeleton)
    (law : IsKept i root input (left i l (places_of i.shape state)) t)
    (c victim : ℕ) (seat : Seat) (next : Then) (v : ℕ) (at : stand_of state c ≡ IsWithin seat (Now next)) (heir : Heired i state l t c seat next v) where
  abbrev P : State
  P = places_of i.shape state

  abbrev S : State
  S = left i l P

  abbrev p : ℕ
  p = seat.place

  abbrev k : RestartKind
  k = kind_then next

  abbrev more : List Followed
  more = and_followed i l P v

  ne : p ≢ v
  ne e = not_idle S t v (P.kind v) k (subst IsIdle (sym (ap P.kind (sym e) ∙ heir.kind)) heir.idle) heir.goes

  idle : IsIdle (S.kind p)
  idle = subst IsIdle (sym (kind_away l P.kind p heir.away ∙ heir.kind)) heir.idle

  goes : GoesOnAs S t v (S.kind v) k
  goes = subst (λ (a : RestartKind). GoesOnAs S t v a k) (sym (kind_away l P.kind v heir.still)) heir.goes

  same : left i more (installs P p k) ≡ inherits i S v p k
  same = λ j. record {
    words = (inherits i S v p k).words;
    kind = (ap (λ (f : ℕ → RestartKind). put f v Seek) (kinds_install l P.kind p k heir.away) ∙ put_swap (left_kinds l P.kind) p v k Seek ne) j;
    doing = put P.doing p Resting;
  }

  after : acted i.shape i.code state c (Step victim) ≡ installs P p k
  after = (((turns_show i.shape i.code state c).0 seat heir.holds).0).installs victim next (ends_so next (P.kind v) heir.ends) at heir.there

  becomes : left i more (acted i.shape i.code state c (Step victim)) ≡ inherits i S v p k
  becomes = ap (left i more) after ∙ same

  kept : IsKept i root input (left i more (acted i.shape i.code state c (Step victim))) (handed v p t)
  kept = subst (λ (z : State). IsKept i root input z (handed v p t)) (sym becomes)
      (heirs_keep i fair root input S t law v p heir.place heir.holds.place idle heir.rests k goes)

  bears : (born : ℕ → Bool) → Births i S born
      → Births i (left i more (acted i.shape i.code state c (Step victim))) (with_blocks (step_by (row_by fork_row) (Step victim) (stand_of state c)) born)
  bears born births = subst (λ (z : State). Births i z (with_blocks (step_by (row_by fork_row) (Step victim) (stand_of state c)) born)) (sym becomes)
      (subst (λ (y : Standing). Births i (inherits i S v p k) (with_blocks (step_by (row_by fork_row) (Step victim) y) born)) (sym at) (by next heir.ends))
    where
      with_it : (r : ℕ) → S.kind v ≡ Bump r → (born r ≡ false) × Births i (inherits i S v p k) (with_block r born)
      with_it = (heirs_bear i fair root input S t law born births v p idle k goes).1

      by : (next : Then) → GoesOnBy next (P.kind v) → Births i (inherits i S v p k) (with_blocks (step_by (row_by fork_row) (Step victim) (IsWithin seat (Now next))) born)
      by (Install restart) h = (heirs_bear i fair root input S t law born births v p idle k goes).0
      by (Fork block) h = (with_it block (kind_away l P.kind v heir.still ∙ h)).1
      by _ h = absurd h

  -- a block that it forks was not forked before
  new : (born : ℕ → Bool) → Births i S born → (r : ℕ) → P.kind v ≡ Bump r → born r ≡ false
  new born births r is = ((heirs_bear i fair root input S t law born births v p idle k goes).1 r (kind_away l P.kind v heir.still ∙ is)).0

pub heir_turns_new : (i : Setting) (fair : IsFair i.code) (root : Tree (Frame FrameWord Point) Result) (input : Words) (state : Machine) (l : List Followed) (apart : AreApart l) (t : Skeleton)
    (law : IsKept i root input (left i l (places_of i.shape state)) t)
    (c victim : ℕ) (seat : Seat) (next : Then) (v : ℕ) (at : stand_of state c ≡ IsWithin seat (Now next)) (heir : Heired i state l t c seat next v)
    (born : ℕ → Bool) → Births i (left i l (places_of i.shape state)) born → (r : ℕ) → (places_of i.shape state).kind v ≡ Bump r → born r ≡ false
heir_turns_new i fair root input state l apart t law c victim seat next v at heir born births r is = new i fair root input state l apart t law c victim seat next v at heir born births r is

pub heir_turns_keep : HeirTurnsKeep
heir_turns_keep i fair root input state l apart t law c victim seat next v at heir = kept i fair root input state l apart t law c victim seat next v at heir

pub heir_turns_bear : HeirTurnsBear
heir_turns_bear i fair root input state l apart t law born births c victim seat next v at heir = bears i fair root input state l apart t law c victim seat next v at heir born births
