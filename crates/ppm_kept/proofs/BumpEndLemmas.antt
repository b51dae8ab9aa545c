-- How the row of kind Bump comes to its end: past its store, by the kind of the block's link.
use Rattle.std.proofs.Common.{◌≡◌, ℕ, zero, suc, ◌+◌, refl, ap, subst, subst₂, Option, Some, None}
use Rattle.ppm_strands.specs.Tree.{Words, Tree}
use Rattle.ppm_cells.specs.Link.{link_of}
use Rattle.ppm_cells.specs.declared.cell.Cell.{Cell}
use Rattle.ppm_cells.specs.declared.cell.Cell.TheVariants.{RoomCounter, BlockWord}
use Rattle.ppm_cells.specs.declared.link.Link.{Link}
use Rattle.ppm_cells.specs.declared.link.LinkKind.{LinkKind}
use Rattle.ppm_cells.specs.declared.link.LinkKind.TheVariants.{Root, Call as Called, Branch, Fork as Forked}
use Rattle.ppm_cells.specs.declared.restart.RestartKind.{RestartKind}
use Rattle.ppm_cells.specs.declared.restart.RestartKind.TheVariants.{Bump}
use Rattle.ppm_strands.specs.Strand.{Frame}
use Rattle.ppm_code.specs.Strands.{Point, Result}
use Rattle.ppm_code.specs.declared.location.FrameWord.{FrameWord}
use Rattle.ppm_step.specs.Contents.{read_so}
use Rattle.ppm_step.specs.Rows.{row_of, on_link, bumped}
use Rattle.ppm_step.specs.declared.content.Content.TheVariants.{ALink}
use Rattle.ppm_step.specs.declared.row.Row.{Row}
use Rattle.ppm_step.specs.declared.row.Row.TheVariants.{Now}
use Rattle.ppm_step.specs.declared.row.Seat.{Seat}
use Rattle.ppm_step.specs.declared.row.Then.{Then}
use Rattle.ppm_step.specs.declared.row.Then.TheVariants.{Fork}
use Rattle.ppm_frames.specs.Skeletons.{Skeleton}
use Rattle.ppm_frames.specs.Good.{link_or, link_at}
use Rattle.ppm_kept.specs.Kept.{Setting, seat_at, Doing, InRow, State, Reach, Under, Does, IsKept}
use Rattle.ppm_kept.specs.Laws.{Ends, kind_then}
use Rattle.ppm_kept.specs.Births.{IsSteady}

-- the counter is past the block, and what is installed opens none; a fork is the block's
pub record BumpEnd (i : Setting) (s : State) (p q : ℕ) (next : Then) : Type 0 where
  pub size : ℕ
  pub counter : s.words (RoomCounter p) ≡ q + size
  pub steady : IsSteady (kind_then next)
  pub link : (x : ℕ) → next ≡ Fork x → (q ≡ x) × ((link_at (s.words (BlockWord q))).size ≡ size) × ((g : ℕ) × (y : ℕ) × ((link_at (s.words (BlockWord q))).kind ≡ Forked g y))

module _ (i : Setting) (root : Tree (Frame FrameWord Point) Result) (input : Words) (s : State) (t : Skeleton) (law : IsKept i root input s t) (p q : ℕ) (ke : s.kind p ≡ Bump q) where
  abbrev m : Cell → ℕ
  m = s.words

  abbrev EndLaw : Row → Type 0
  EndLaw (Now next) = Ends next → BumpEnd i s p q next
  EndLaw row = Unit {0}

  abbrev fork_then : Then → ℕ
  fork_then (Fork x) = x
  fork_then _ = 0

  module _ (b : ℕ) where
    abbrev seat : Seat
    seat = seat_at p (Bump q) b

    end_some : (k : LinkKind) (z n : ℕ) (next : Then) → link_of (m (BlockWord q)) ≡ Some (record { kind = k; size = z }) → Reach i m seat n (bumped seat q z k) (Now next) → EndLaw (Now next)
    end_some (Called g y) z zero next e a = absurd (cc)
    end_some (Called g y) z (suc zero) next e a = subst EndLaw a.1 (λ ends. record { size = z; counter = a.0; steady = tt; link = λ x w. absurd (let v = w in cc) })
    end_some (Called g y) z (suc (suc n)) next e a = absurd a.1
    end_some (Forked g y) z zero next e a = absurd (cc)
    end_some (Forked g y) z (suc zero) next e a = subst EndLaw a.1 (λ ends. record { size = z; counter = a.0; steady = tt; link = λ x w. (ap fork_then w, ap (λ (o : Option Link). (link_or o).size) e, (g, y, ap (λ (o : Option Link). (link_or o).kind) e)) })
    end_some (Forked g y) z (suc (suc n)) next e a = absurd a.1
    end_some Root z zero next e a = subst EndLaw a (λ ends. absurd ends)
    end_some Root z (suc n) next e a = absurd a
    end_some (Branch d x) z zero next e a = subst EndLaw a (λ ends. absurd ends)
    end_some (Branch d x) z (suc n) next e a = absurd a

    end_by : (o : Option Link) → link_of (m (BlockWord q)) ≡ o → (n : ℕ) (next : Then) → Reach i m seat n (on_link (read_so ALink o) (λ (l : Link). bumped seat q l.size l.kind)) (Now next) → EndLaw (Now next)
    end_by None e zero next a = subst EndLaw a (λ ends. absurd ends)
    end_by None e (suc n) next a = absurd a
    end_by (Some l) e n next a = end_some l.kind l.size n next e a

    end_reached : (n : ℕ) (next : Then) → Reach i m seat n (row_of i.shape seat (Bump q)) (Now next) → EndLaw (Now next)
    end_reached zero next a = subst EndLaw a (λ ends. absurd ends)
    end_reached (suc n) next a = end_by (link_of (m (BlockWord q))) refl n next a

  pub bump_ended : (next : Then) → s.doing p ≡ InRow (Now next) → Ends next → BumpEnd i s p q next
  bump_ended next de ends = let u : Under i m p (Bump q) (Now next) = subst₂ (λ (k : RestartKind) (d : Doing). Does i m p k d) ke de (law.does p) in end_reached u.0 u.1 next u.2 ends
