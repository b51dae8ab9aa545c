-- Which rows store into counters: Bump's into its own, and no other.
use Rattle.std.proofs.Common.{◌≡◌, ℕ, zero, suc, inl, inr, refl, sym, subst, Option, Some, None}
use Rattle.ppm_cells.specs.Link.{link_of}
use Rattle.ppm_cells.specs.declared.cell.Cell.{Cell}
use Rattle.ppm_cells.specs.declared.cell.Cell.TheVariants.{RoomCounter, BlockWord}
use Rattle.ppm_cells.specs.declared.link.Link.{Link}
use Rattle.ppm_cells.specs.declared.link.LinkKind.{LinkKind}
use Rattle.ppm_cells.specs.declared.link.LinkKind.TheVariants.{Root, Call as Called, Branch, Fork as Forked}
use Rattle.ppm_cells.specs.declared.restart.RestartKind.{RestartKind}
use Rattle.ppm_cells.specs.declared.restart.RestartKind.TheVariants.{Bump, Pop1, Pop2, Seek, Steal, Check, Take, Take2}
use Rattle.ppm_step.specs.Contents.{read_so, content_of}
use Rattle.ppm_step.specs.Points.{cell_at, reading_at}
use Rattle.ppm_step.specs.Rows.{row_of, on_link, bumped}
use Rattle.ppm_step.specs.declared.content.Content.TheVariants.{ALink}
use Rattle.ppm_step.specs.declared.row.Row.{Row}
use Rattle.ppm_step.specs.declared.row.Row.TheVariants.{Now, Store, Exchange}
use Rattle.ppm_step.specs.declared.row.Seat.{Seat}
use Rattle.ppm_step.specs.declared.row.Then.TheVariants.{Load, Install, Fork, Begin, Move, Enter, Again, Broken}
use Rattle.ppm_kept.specs.Running.{MayStore}
use Rattle.ppm_kept.specs.Kept.{Setting, seat_at, Reach, Reached}
use Rattle.ppm_kept.specs.Others.{IsIdle}
use Rattle.ppm_kept.specs.Pushing.{Comes}
use Rattle.ppm_kept.specs.Takes.{IsCheck}
use Rattle.ppm_kept.specs.Births.{IsNoCounter, IsSteady, SteadyRow}
use Rattle.ppm_kept.proofs.SteadyLemmas.{rows_are_steady}

-- a row that was reached is one that it comes to
reach_comes : (i : Setting) (m : Cell → ℕ) (seat : Seat) (n : ℕ) (row rest : Row) → Reach i m seat n row rest → Comes i.shape seat n row rest
reach_comes i m seat zero row rest q = q
reach_comes i m seat (suc n) (Now (Load point)) rest q = (0, content_of (reading_at point) (m (cell_at seat 0 point)), reach_comes i m seat n _ rest q)
reach_comes i m seat (suc n) (Store c w next) rest q = reach_comes i m seat n (Now next) rest q.1
reach_comes i m seat (suc n) (Exchange c old new next) rest q = reach_comes i m seat n (Now next) rest q.1
reach_comes i m seat (suc n) (Now (Install x)) rest q = absurd q
reach_comes i m seat (suc n) (Now (Fork x)) rest q = absurd q
reach_comes i m seat (suc n) (Now (Begin x y z)) rest q = absurd q
reach_comes i m seat (suc n) (Now (Move x)) rest q = absurd q
reach_comes i m seat (suc n) (Now (Enter x)) rest q = absurd q
reach_comes i m seat (suc n) (Now Again) rest q = absurd q
reach_comes i m seat (suc n) (Now Broken) rest q = absurd q

pub steady_reached : (i : Setting) (m : Cell → ℕ) (p : ℕ) (k : RestartKind) (row : Row) → IsSteady k → Reached i m p k row → SteadyRow (IsCheck k) row
steady_reached i m p k row steady q = let seat = seat_at p k q.0 in rows_are_steady i.shape seat q.1 k row steady (reach_comes i m seat q.1 (row_of i.shape seat k) row q.2)

-- the row of Bump stores into the counter alone
abbrev Counts : ℕ → Row → Type 0
Counts p (Store cell content next) = cell ≡ RoomCounter p
Counts p row = Unit {0}

module _ (i : Setting) (m : Cell → ℕ) (p q b : ℕ) where
  abbrev bump_seat : Seat
  bump_seat = seat_at p (Bump q) b

  store_some : (k : LinkKind) (z n : ℕ) (row : Row) → Reach i m bump_seat n (bumped bump_seat q z k) row → Counts p row
  store_some (Called g y) z zero row a = subst (Counts p) a refl
  store_some (Called g y) z (suc zero) row a = subst (Counts p) a.1 tt
  store_some (Called g y) z (suc (suc n)) row a = absurd a.1
  store_some (Forked g y) z zero row a = subst (Counts p) a refl
  store_some (Forked g y) z (suc zero) row a = subst (Counts p) a.1 tt
  store_some (Forked g y) z (suc (suc n)) row a = absurd a.1
  store_some Root z zero row a = subst (Counts p) a tt
  store_some Root z (suc n) row a = absurd a
  store_some (Branch d x) z zero row a = subst (Counts p) a tt
  store_some (Branch d x) z (suc n) row a = absurd a

  store_by : (o : Option Link) (n : ℕ) (row : Row) → Reach i m bump_seat n (on_link (read_so ALink o) (λ (l : Link). bumped bump_seat q l.size l.kind)) row → Counts p row
  store_by None zero row a = subst (Counts p) a tt
  store_by None (suc n) row a = absurd a
  store_by (Some l) n row a = store_some l.kind l.size n row a

  pub store_reached : (n : ℕ) (row : Row) → Reach i m bump_seat n (row_of i.shape bump_seat (Bump q)) row → Counts p row
  store_reached zero row a = subst (Counts p) a tt
  store_reached (suc n) row a = store_by (link_of (m (BlockWord q))) n row a

pub idle_steady : (k : RestartKind) → IsIdle k → IsSteady k
idle_steady Pop1 h = tt
idle_steady (Pop2 r) h = tt
idle_steady Seek h = tt
idle_steady (Steal v x) h = tt
idle_steady (Check v x) h = tt
idle_steady (Take v x) h = tt
idle_steady (Take2 v) h = tt
idle_steady _ h = absurd h

-- what a capsule stores into is no counter
pub may_steady : (i : Setting) (m : Cell → ℕ) (p f y : ℕ) (cell : Cell) → MayStore i.shape i.code m p f y cell → IsNoCounter cell
may_steady i m p f y cell (inl a) = subst IsNoCounter (sym a.1) tt
may_steady i m p f y cell (inr (inl a)) = subst IsNoCounter (sym a.1) tt
may_steady i m p f y cell (inr (inr a)) = subst IsNoCounter (sym a.1) tt
