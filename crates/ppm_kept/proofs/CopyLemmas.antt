-- Frames that run stand at one of their two headers.
use Rattle.std.proofs.Common.{◌≡◌, ◌<◌, ℕ, zero, suc, ◌+◌, ◌==◌, Bool, true, false, inl, inr, refl, sym, ap, ◌∙◌, subst, subst₂, arith, Option, Some, None}
use Rattle.std.specs.Prelude.{nat_lt, if◌then◌else◌}
use Rattle.std.proofs.lemmas.Bool.{cases_eq}
use Rattle.ppm_strands.specs.Tree.{Words, Tree}
use Rattle.ppm_cells.specs.Cells.{word_count}
use Rattle.ppm_cells.specs.Finish.{finish_of}
use Rattle.ppm_cells.specs.Link.{link_of, IsLink}
use Rattle.ppm_cells.specs.declared.cell.Cell.{Cell}
use Rattle.ppm_cells.specs.declared.cell.Cell.TheVariants.{BlockWord}
use Rattle.ppm_cells.specs.declared.finish.Finish.{Finish}
use Rattle.ppm_cells.specs.declared.finish.Finish.TheVariants.{Ended, Trapped}
use Rattle.ppm_cells.specs.declared.link.Link.{Link}
use Rattle.ppm_cells.specs.declared.link.LinkKind.{LinkKind}
use Rattle.ppm_cells.specs.declared.link.LinkKind.TheVariants.{Root, Call as Called, Branch, Fork as Forked}
use Rattle.ppm_cells.specs.declared.restart.RestartKind.{RestartKind}
use Rattle.ppm_cells.specs.declared.restart.RestartKind.TheVariants.{Run, Bump, Push1, Push2, Unwind, Arrive, Join, Pop1, Pop2, Seek, Steal, Check, Take, Take2}
use Rattle.ppm_cells.specs.declared.shape.Shape.{Shape}
use Rattle.ppm_cells.proofs.LinkLemmas.{links_exact}
use Rattle.ppm_strands.specs.Strand.{Frame}
use Rattle.ppm_code.specs.Strands.{Point as CodePoint, Result}
use Rattle.ppm_code.specs.declared.act.End.{End}
use Rattle.ppm_code.specs.declared.act.End.TheVariants.{Next, Finish as Finishing, Trap, Call, Fork as Forking}
use Rattle.ppm_code.specs.declared.location.FrameWord.{FrameWord}
use Rattle.ppm_cells.specs.JoinOrder.{first}
use Rattle.ppm_cells.specs.JoinOutcome.{outcome_of_both}
use Rattle.ppm_step.specs.Contents.{read_so, content_of}
use Rattle.ppm_step.specs.Frames.{Installs, installed}
use Rattle.ppm_step.specs.Points.{cell_at, reading_at}
use Rattle.ppm_step.specs.Rows.{on_link, on_outcome, if_there, bumped, unwind_by, back_to, unwound, after_value, target_found, joins, is_inline, is_last, join_by, join_outcome, found_at, row_of}
use Rattle.ppm_step.specs.declared.content.Content.TheVariants.{ALink, AFinish}
use Rattle.ppm_step.specs.declared.frame.Home.{Home}
use Rattle.ppm_step.specs.declared.row.Point.{Point}
use Rattle.ppm_step.specs.declared.row.Point.TheVariants.{BumpLink, UnwindLink, UnwindOutcome, Target, GivenValue, JoinOrder, JoinLink, JoinLeft, JoinRight, RightFrame, Offset}
use Rattle.ppm_step.specs.declared.row.Row.{Row}
use Rattle.ppm_step.specs.declared.row.Row.TheVariants.{Now, Store, Exchange}
use Rattle.ppm_step.specs.declared.row.Seat.{Seat}
use Rattle.ppm_step.specs.declared.row.Then.{Then}
use Rattle.ppm_step.specs.declared.row.Then.TheVariants.{Load, Install, Fork, Begin, Broken}
use Rattle.ppm_frames.specs.Skeletons.{Skeleton}
use Rattle.ppm_frames.specs.Good.{link_or, link_at}
use Rattle.ppm_kept.specs.Running.{IsFair, HasCome, IsClean, home_at, Opens}
use Rattle.ppm_kept.specs.Branches.{HasCopy}
use Rattle.ppm_kept.specs.Kept.{Setting, seat_at, put, Doing, InRest, State, Free, Reach, Under, Does, IsKept}
use Rattle.ppm_kept.specs.Laws.{Ends, kind_then}
use Rattle.ppm_kept.specs.Copies.{IsKnown, CopiesStay, AllCopiesStay, OpeningsHaveCopies}
use Rattle.ppm_kept.proofs.PutLemmas.{put_here, put_else}
use Rattle.ppm_kept.proofs.RunLemmas.{by_installs}

-- another kind at a place
put_copies : (kind : ℕ → RestartKind) (p : ℕ) (k : RestartKind) → ((q : ℕ) → HasCopy (kind q)) → HasCopy k → (q : ℕ) → HasCopy (put kind p k q)
put_copies kind p k copies own q = elim (cases_eq q p) [
  | inl same ↦ subst HasCopy (sym (ap (put kind p k) same ∙ put_here kind p k)) own
  | inr ne ↦ subst HasCopy (sym (put_else kind p k q ne)) (copies q)
]

abbrev copy_told : RestartKind → ℕ
copy_told (Run f y) = y
copy_told _ = 0

-- a kind whose copy is below two
low_copy : (k : RestartKind) → copy_told k < 2 → HasCopy k
low_copy (Run f y) low = low
low_copy (Bump r) low = tt
low_copy (Push1 r) low = tt
low_copy (Push2 r) low = tt
low_copy (Unwind f) low = tt
low_copy (Arrive r d) low = tt
low_copy (Join r d) low = tt
low_copy Pop1 low = tt
low_copy (Pop2 r) low = tt
low_copy Seek low = tt
low_copy (Steal v x) low = tt
low_copy (Check v x) low = tt
low_copy (Take v x) low = tt
low_copy (Take2 v) low = tt

installed_low : (home : Home) (e : End) → copy_told (installed home e) < 2
installed_low home (Next c) = omega arith
installed_low home Finishing = omega arith
installed_low home (Trap trap line) = omega arith
installed_low home (Call q c to) = omega arith
installed_low home (Forking a b c lt rt) = omega arith

-- a link that was unpacked has a copy below two
abbrev pub LowLink : LinkKind → Type 0
LowLink (Called f y) = y < 2
LowLink (Forked f y) = y < 2
LowLink _ = Unit {0}

pub unpacked_low : (w : ℕ) (l : Link) → link_of w ≡ Some l → LowLink l.kind
unpacked_low w l e = by l.kind l.size ((links_exact w l).0 e).0
  where
    by : (k : LinkKind) (z : ℕ) → IsLink (record { kind = k; size = z }) → LowLink k
    by (Called f y) z h = h.0.1.0
    by (Forked f y) z h = h.0.1.0
    by Root z h = tt
    by (Branch d r) z h = tt

pub hooked_low : (w f y : ℕ) → (link_at w).kind ≡ Forked f y → y < 2
hooked_low w f y e = by (link_of w) refl
  where
    by : (o : Option Link) → link_of w ≡ o → y < 2
    by None k = absurd (let z : Root ≡ Forked f y = ap (λ (o : Option Link). (link_or o).kind) (sym k) ∙ e in cc)
    by (Some l) k = subst LowLink (ap (λ (o : Option Link). (link_or o).kind) (sym k) ∙ e) (unpacked_low w l k)

-- the kind that a row installs
abbrev row_kind : Row → RestartKind
row_kind (Now next) = kind_then next
row_kind _ = Seek

-- what a row goes on with, by copies below two
abbrev LowPoint : Point → Type 0
LowPoint (BumpLink r) = Unit {0}
LowPoint (UnwindLink f) = Unit {0}
LowPoint (UnwindOutcome f link) = LowLink link
LowPoint (Target f to copy right_of) = copy < 2
LowPoint (GivenValue f to copy target right_of) = copy < 2
LowPoint (JoinOrder r d) = Unit {0}
LowPoint (JoinLink r) = Unit {0}
LowPoint (JoinLeft r to copy) = copy < 2
LowPoint (JoinRight r to copy left) = copy < 2
LowPoint (RightFrame r to copy) = copy < 2
LowPoint (Offset r b) = Unit {0}
LowPoint _ = ⊥

abbrev LowThen : Then → Type 0
LowThen (Load point) = LowPoint point
LowThen (Install restart) = copy_told restart.kind < 2
LowThen _ = Unit {0}

abbrev LowRow : Row → Type 0
LowRow (Now next) = LowThen next
LowRow (Store c w next) = LowThen next
LowRow (Exchange c old new next) = LowThen next

module _ (s : Shape) (seat : Seat) where
  low_if : (x : ℕ) (row : Row) → LowRow row → LowRow (if_there s x row)
  low_if x row low = by (nat_lt x (word_count s))
    where
      by : (b : Bool) → LowRow (if b then row else Now Broken)
      by true = low
      by false = tt

  low_link : (go : Link → Row) (w : ℕ) → ((l : Link) → LowLink l.kind → LowRow (go l)) → LowRow (on_link (read_so ALink (link_of w)) go)
  low_link go w low = by (link_of w) refl
    where
      by : (o : Option Link) → link_of w ≡ o → LowRow (on_link (read_so ALink o) go)
      by None e = tt
      by (Some l) e = low l (unpacked_low w l e)

  low_outcome : (go : Finish → Row) (o : Option Finish) → ((x : Finish) → LowRow (go x)) → LowRow (on_outcome (read_so AFinish o) go)
  low_outcome go None low = tt
  low_outcome go (Some Ended) low = low Ended
  low_outcome go (Some (Trapped trap line)) low = low (Trapped trap line)
  low_outcome go (Some _) low = tt

  low_bumped : (r z : ℕ) (k : LinkKind) → LowRow (bumped seat r z k)
  low_bumped r z (Called f y) = omega arith
  low_bumped r z (Forked f y) = tt
  low_bumped r z Root = tt
  low_bumped r z (Branch d x) = tt

  low_unwind : (f : ℕ) (k : LinkKind) → LowLink k → LowRow (unwind_by f k)
  low_unwind f (Called g y) h = h
  low_unwind f (Forked g y) h = tt
  low_unwind f Root h = tt
  low_unwind f (Branch d x) h = tt

  low_back : (f g y : ℕ) → y < 2 → (x : Finish) → LowRow (back_to seat f g y x)
  low_back f g y h Ended = h
  low_back f g y h _ = omega arith

  low_unwound : (f : ℕ) (k : LinkKind) → LowLink k → (x : Finish) → LowRow (unwound seat f k x)
  low_unwound f (Called g y) h x = low_back f g y h x
  low_unwound f (Forked g y) h x = tt
  low_unwound f Root h x = tt
  low_unwound f (Branch d r) h x = omega arith

  low_after : (to y : ℕ) (right_of : Option ℕ) → y < 2 → LowThen (after_value seat to y right_of)
  low_after to y None h = h
  low_after to y (Some r) h = h

  low_target : (f to y : ℕ) (right_of : Option ℕ) (x : ℕ) → y < 2 → LowRow (target_found seat f to y right_of x)
  low_target f to y right_of zero h = low_after to y right_of h
  low_target f to y right_of (suc x) h = h

  low_joins : (r : ℕ) (a b c : Bool) → LowRow (joins seat r a b c)
  low_joins r true b c = omega arith
  low_joins r false true c = tt
  low_joins r false false true = tt
  low_joins r false false false = tt

  low_join_by : (r : ℕ) (k : LinkKind) → LowLink k → LowRow (join_by r k)
  low_join_by r (Forked g y) h = h
  low_join_by r (Called g y) h = tt
  low_join_by r Root h = tt
  low_join_by r (Branch d x) h = tt

  low_joined : (r to y : ℕ) → y < 2 → (x : Finish) → LowRow (join_outcome seat r to y x)
  low_joined r to y h Ended = h
  low_joined r to y h _ = omega arith

  low_found : (point : Point) → LowPoint point → (w : ℕ) → LowRow (found_at s seat 0 point (content_of (reading_at point) w))
  low_found (BumpLink r) h w = low_link (λ l. bumped seat r l.size l.kind) w (λ l low. low_bumped r l.size l.kind)
  low_found (UnwindLink f) h w = low_link (λ l. unwind_by f l.kind) w (λ l low. low_unwind f l.kind low)
  low_found (UnwindOutcome f link) h w = low_outcome (unwound seat f link) (finish_of w) (low_unwound f link h)
  low_found (Target f to y right_of) h w = low_target f to y right_of w h
  low_found (GivenValue f to y target right_of) h w = low_if (to + 5 + target) _ (low_after to y right_of h)
  low_found (JoinOrder r d) h w = low_joins r (w == first d) (is_inline w d) (is_last w d)
  low_found (JoinLink r) h w = low_link (λ l. join_by r l.kind) w (λ l low. low_join_by r l.kind low)
  low_found (JoinLeft r to y) h w = low_outcome (λ left. Now (Load (JoinRight r to y left))) (finish_of w) (λ x. h)
  low_found (JoinRight r to y left) h w = low_outcome (λ right. join_outcome seat r to y (outcome_of_both left right)) (finish_of w) (λ x. low_joined r to y h (outcome_of_both left x))
  low_found (RightFrame r to y) h w = low_if (r + w) (Now (Load (Target (r + w) to y None))) h
  low_found (Offset r b) h w = low_if (r + w) (Now (Begin r (r + w) b)) tt
  low_found _ h w = absurd h

module _ (i : Setting) (fair : IsFair i.code) (root : Tree (Frame FrameWord CodePoint) Result) (input : Words) (s : State) (t : Skeleton) (law : IsKept i root input s t) (p : ℕ) where
  abbrev m : Cell → ℕ
  m = s.words

  run_low : (f y : ℕ) (kind : RestartKind) → s.kind p ≡ Run f y → s.doing p ≡ InRest (Installs kind) → HasCopy kind
  run_low f y kind ke de =
      let come : HasCome i.shape i.code m p f y (Installs kind) = subst₂ (λ (k : RestartKind) (d : Doing). Does i m p k d) ke de (law.does p) in
      let clean : IsClean i.shape i.code m p f y = subst (Free i m p) ke (law.free p) in
      let opens : Opens i.shape i.code m p f y kind = by_installs i.shape i.code fair m p f y clean kind come in
      low_copy kind (subst (λ (k : RestartKind). copy_told k < 2) (sym opens.kind_is) (installed_low (home_at i.shape i.code m p f y) opens.end))

  -- what a row has reached, where it says the words' own copies
  reached_low : (seat : Seat) (n : ℕ) (row : Row) (next : Then) → LowRow row → Reach i m seat n row (Now next) → LowThen next
  reached_low seat zero row next low e = subst LowRow e low
  reached_low seat (suc n) (Now (Load point)) next low e = reached_low seat n _ next (low_found i.shape seat point low (m (cell_at seat 0 point))) e
  reached_low seat (suc n) (Store c w after) next low e = reached_low seat n (Now after) next low e.1
  reached_low seat (suc n) (Exchange c old new after) next low e = reached_low seat n (Now after) next low e.1
  reached_low seat (suc n) (Now after) next low e = absurd e

  ends_low : (next : Then) → Ends next → LowThen next → copy_told (kind_then next) < 2
  ends_low (Install restart) ends low = low
  ends_low (Fork block) ends low = omega arith
  ends_low (Begin block frame bottom) ends low = omega arith
  ends_low _ ends low = absurd ends

  row_low : (k : RestartKind) → IsKnown k → (next : Then) → Under i m p k (Now next) → Ends next → copy_told (kind_then next) < 2
  row_low (Bump r) known next u ends = ends_low next ends (reached_low (seat_at p (Bump r) u.0) u.1 (row_of i.shape (seat_at p (Bump r) u.0) (Bump r)) next tt u.2)
  row_low (Unwind f) known next u ends = ends_low next ends (reached_low (seat_at p (Unwind f) u.0) u.1 (row_of i.shape (seat_at p (Unwind f) u.0) (Unwind f)) next tt u.2)
  row_low (Arrive r d) known next u ends = ends_low next ends (reached_low (seat_at p (Arrive r d) u.0) u.1 (row_of i.shape (seat_at p (Arrive r d) u.0) (Arrive r d)) next (omega arith) u.2)
  row_low (Join r d) known next (inl u) ends = ends_low next ends (reached_low (seat_at p (Join r d) u.0) u.1 (row_of i.shape (seat_at p (Join r d) u.0) (Join r d)) next tt u.2)
  row_low (Join r d) known next (inr u) ends = subst (λ (k : RestartKind). copy_told k < 2) (sym (ap row_kind u.is)) (hooked_low (m (BlockWord r)) u.frame u.copy u.hook)
  row_low _ known next u ends = absurd known

  stay : CopiesStay i s p
  stay = record {
    goes_on = λ standing. law.copies;
    stored = λ cell w standing. law.copies;
    full = law.copies;
    run_installs = λ f y kind ke de. put_copies s.kind p kind law.copies (run_low f y kind ke de);
    row_installs = λ next known de ends.
        let under : Under i m p (s.kind p) (Now next) = subst (λ (d : Doing). Does i m p (s.kind p) d) de (law.does p) in
        put_copies s.kind p (kind_then next) law.copies (low_copy (kind_then next) (row_low (s.kind p) known next under ends));
  }

pub copies_stay : AllCopiesStay
copies_stay i fair root input s t law p = stay i fair root input s t law p

pub openings_have_copies : OpeningsHaveCopies
openings_have_copies m p f = put_copies (λ q. Seek) p (Run f 0) (λ q. tt) (omega arith)
