-- What the step of one place leaves as it is at the others.
use Rattle.std.proofs.Common.{◌≡◌, ◌≢◌, ◌⊎◌, ◌≤◌, ◌<◌, ℕ, ◌+◌, ◌==◌, cond, Bool, true, false, inl, inr, refl, sym, ap, ap₂, ◌∙◌, subst, arith, Option, None}
use Rattle.std.proofs.lemmas.Bool.{cases_eq, cases_Bool, cond-false}
use Rattle.ppm_strands.specs.Tree.{Words, Tree, Has}
use Rattle.ppm_strands.specs.Calm.{Calm, touches}
use Rattle.ppm_strands.proofs.BesideLemmas.{beside_apart}
use Rattle.ppm_cells.specs.Finish.{finish_of}
use Rattle.ppm_cells.specs.Link.{link_of}
use Rattle.ppm_cells.specs.declared.cell.Cell.{Cell}
use Rattle.ppm_cells.specs.declared.cell.Cell.TheVariants.{FinishWord, RoomCounter, BlockWord, ArrayWord}
use Rattle.ppm_cells.specs.declared.finish.Finish.{Finish}
use Rattle.ppm_cells.specs.declared.finish.Finish.TheVariants.{Ended, Trapped}
use Rattle.ppm_cells.specs.declared.link.Link.{Link}
use Rattle.ppm_cells.specs.declared.link.LinkKind.{LinkKind}
use Rattle.ppm_cells.specs.declared.link.LinkKind.TheVariants.{Root, Call as Called, Branch, Fork as Forked}
use Rattle.ppm_cells.specs.declared.restart.RestartKind.{RestartKind}
use Rattle.ppm_cells.specs.declared.restart.RestartKind.TheVariants.{Run, Bump, Push1, Push2, Unwind, Arrive, Join, Pop1, Pop2, Seek, Steal, Check, Take, Take2}
use Rattle.ppm_cells.specs.declared.side.Side.{Side}
use Rattle.ppm_cells.specs.declared.side.Side.TheVariants.{Left, Right}
use Rattle.ppm_strands.specs.Strand.{Frame}
use Rattle.ppm_code.specs.Strands.{Point, Result, at_capsule}
use Rattle.ppm_code.specs.declared.location.FrameWord.{FrameWord}
use Rattle.ppm_code.specs.Sizes.{slots_at}
use Rattle.ppm_cells.specs.JoinOrder.{first}
use Rattle.ppm_step.specs.Frames.{Rest}
use Rattle.ppm_step.specs.Points.{order_word, outcome_word}
use Rattle.ppm_step.specs.Rows.{bumped, with_kind, unwind_by, unwound, branch_outcome, joins, is_inline, is_last, row_of}
use Rattle.ppm_step.specs.declared.content.Content.TheVariants.{ANumber, AFinish}
use Rattle.ppm_step.specs.declared.row.Point.TheVariants.{BumpLink, UnwindLink, UnwindOutcome, JoinOrder, Offset}
use Rattle.ppm_step.specs.declared.row.Row.{Row}
use Rattle.ppm_step.specs.declared.row.Row.TheVariants.{Now}
use Rattle.ppm_step.specs.declared.row.Seat.{Seat}
use Rattle.ppm_step.specs.declared.row.Then.TheVariants.{Fork, Begin, Again}
use Rattle.ppm_frames.specs.Views.{written as write}
use Rattle.ppm_frames.specs.Seen.{own_at, arrays_at}
use Rattle.ppm_frames.specs.Skeletons.{Stand, Begins, Over, Arrives, InPlace, Fresh, Waiting, Held, Came, Inlined, Skeleton, Leaf, Calling, Forking, header, frame_at, tree_of, hung, count, plain, at, Around, plug, hook_at}
use Rattle.ppm_frames.specs.Good.{link_or, link_at, Framed, Match, BumpsAt, Calls, Good}
use Rattle.ppm_frames.specs.Laws.{Same}
use Rattle.ppm_frames.proofs.WriteLemmas.{write_else, address}
use Rattle.ppm_frames.proofs.SkeletonLemmas.{SameFrame, same_frame, same_at, inside_at, CalledFrom, called_from, branch_from}
use Rattle.ppm_frames.proofs.SwapLemmas.{good_here}
use Rattle.ppm_kept.specs.Running.{IsFair, number_at, limit, strands, frame_of}
use Rattle.ppm_kept.specs.Kept.{Setting, end_of, seat_at, side_code, State, Doing, Resting, InRow, InRest, Blank, ceiling, Free, Under, Going, Does, Head, Ordered, carried, IsKept}
use Rattle.ppm_kept.specs.Branches.{HasCopy}
use Rattle.ppm_kept.specs.Others.{KeptAt, Mine, Claims, Wrote, IsIdle, OthersKeep}
use Rattle.ppm_kept.proofs.BlockLemmas.{header_is}
use Rattle.ppm_kept.proofs.BumpRow.{Bumps, bump_at}
use Rattle.ppm_kept.proofs.IdleLemmas.{idle_kept}
use Rattle.ppm_kept.proofs.JoiningLemmas as joining
use Rattle.ppm_kept.proofs.JoiningLemmas.{Joining, Comes, joint, at_joint, first_beyond, inline_late}
use Rattle.ppm_kept.proofs.NearLemmas.{own, far, first_of, second_of, beside}
use Rattle.ppm_kept.proofs.NodeLemmas.{nodes_same}
use Rattle.ppm_kept.proofs.PlaceLemmas.{leaf, Runs, run_leaf, is_at_own, is_at_other}
use Rattle.ppm_kept.proofs.SameRowLemmas.{SameRow, JoinWords, collected_same, broken_row, again_row, install_row, fork_row, begin_row, load_row, store_row, exchange_row, link_row, outcome_row, if_there_row, value_row, last_row}
use Rattle.ppm_kept.proofs.StayLemmas.{clean_stays, come_stays}
use Rattle.ppm_kept.proofs.WroteLemmas as wrote
use Rattle.ppm_kept.proofs.WroteLemmas.{Claimed, What, OfPart, OfFree, OfRoom, OfArray, OfFinish, OfOrder}

-- the leaf of a place that is over
record Overs (i : Setting) (s : State) (t : Skeleton) (p f : ℕ) : Type 0 where
  pub around : Around
  pub slots : ℕ
  pub is : t ≡ plug around (Leaf (InPlace p) Over f slots)
  pub framed : Framed i.code s.words (hook_at Root around) f slots

over_at : (i : Setting) (s : State) (t : Skeleton) (p f : ℕ) (c : Around) (st : Stand) (g n : ℕ) → t ≡ plug c (Leaf (InPlace p) st g n)
    → Framed i.code s.words (hook_at Root c) g n → Match i.code s.words (Unwind f) (hook_at Root c) st g → Overs i s t p f
over_at i s t p f c Over g n is framed match = record {
  around = c;
  slots = n;
  is = is ∙ ap (λ (b : ℕ). plug c (Leaf (InPlace p) Over b n)) (sym match);
  framed = subst (λ (b : ℕ). Framed i.code s.words (hook_at Root c) b n) (sym match) framed;
}
over_at i s t p f c (Begins z) g n is framed match = absurd match
over_at i s t p f c Arrives g n is framed match = absurd match

first_is : (d : Side) → first d ≡ side_code d
first_is Left = refl
first_is Right = refl

module _ (i : Setting) (fair : IsFair i.code) (root : Tree (Frame FrameWord Point) Result) (input : Words) (s : State) (t : Skeleton) (law : IsKept i root input s t) (p : ℕ)
    (c : Around) (u : Skeleton) (cell : Cell) (w : ℕ) (is : t ≡ plug c u) (only : (q : ℕ) → q ≢ p → at q u ≡ 0) (some : 1 ≤ at p u)
    (mine : Mine i s p (hook_at Root c) u cell ⊎ Claims s.words (hook_at Root c) cell w) (q : ℕ) (ne : q ≢ p) where
  abbrev m : Cell → ℕ
  m = s.words

  abbrev n : Cell → ℕ
  n = write m cell w

  room : n (RoomCounter q) ≡ m (RoomCounter q)
  room = wrote.room i fair root input s t law p c u cell w is mine only q ne

  free : (o : ℕ) → ceiling i m q (s.kind q) + o < end_of i q → n (BlockWord (ceiling i m q (s.kind q) + o)) ≡ m (BlockWord (ceiling i m q (s.kind q) + o))
  free o lt = wrote.free i fair root input s t law p c u cell w is mine only q ne o lt

  over : (d : Around) (v : Skeleton) → t ≡ plug d v → 1 ≤ at q v → Same (own (hook_at Root d) v) m n
  over d v at_ one = wrote.over i fair root input s t law p c u cell w is mine only q ne d v at_ one

  leaf_one : (st : Stand) (f l : ℕ) → 1 ≤ at q (Leaf (InPlace q) st f l)
  leaf_one st f l = let one = is_at_own q in omega (arith, one)

  leafed : (k : RestartKind) → s.kind q ≡ k → carried m k ≡ 1 → carried m (s.kind q) ≡ 1
  leafed k ke one = ap (carried m) ke ∙ one

  kept_run : (f y : ℕ) → y < 2 → s.kind q ≡ Run f y → KeptAt i s t n q
  kept_run f y low ke = record {
    roof = subst (λ (k : RestartKind). ceiling i n q k ≡ ceiling i m q k) (sym ke) room;
    strand = subst (λ (k : RestartKind). carried n k ≡ carried m k) (sym ke) refl;
    free = subst (Free i n q) (sym ke) (clean_stays i.shape i.code fair m n q f y low frame room free_run element (subst (Free i m q) ke (law.free q)));
    does = by_doing (s.doing q) (subst (λ (k : RestartKind). Does i m q k (s.doing q)) ke (law.does q));
    order = subst (Ordered i s t n) (sym ke) tt;
  }
    where
      g : Runs i s t q f y
      g = run_leaf i s t q f y ke (leaf i fair root input s t law q (leafed (Run f y) ke refl))

      number_is : m (BlockWord (header f y)) ≡ number_at i.shape i.code m f y
      number_is = ap m (sym (header_is f y low))

      l : ℕ
      l = slots_at i.code (number_at i.shape i.code m f y)

      at_leaf : t ≡ plug g.around (Leaf (InPlace q) (Begins y) f l)
      at_leaf = g.is ∙ ap (λ (z : ℕ). plug g.around (Leaf (InPlace q) (Begins y) f (slots_at i.code z))) number_is

      frame : SameFrame m n f l
      frame = same_frame m n (own (hook_at Root g.around) (Leaf (InPlace q) (Begins y) f l)) f l (λ x. omega arith) (over g.around (Leaf (InPlace q) (Begins y) f l) at_leaf (leaf_one (Begins y) f l))

      roof : ceiling i m q (s.kind q) ≡ m (RoomCounter q)
      roof = ap (ceiling i m q) ke

      free_run : (o : ℕ) → m (RoomCounter q) + o < limit i.shape i.code q → n (BlockWord (m (RoomCounter q) + o)) ≡ m (BlockWord (m (RoomCounter q) + o))
      free_run o lt = subst (λ (b : ℕ). n (BlockWord (b + o)) ≡ m (BlockWord (b + o))) roof (free o (subst (λ (b : ℕ). b + o < end_of i q) (sym roof) lt))

      -- by no race
      by_leaf : (x : ℕ) → Has x (touches (strands i.shape i.code) (frame_of i.shape i.code m f l y) (arrays_at m)) → (v : Skeleton) → u ≡ v → Wrote i m v x → ⊥
      by_leaf x h (Leaf (InPlace r) (Begins z) e b) ue wrote = elim (cases_eq r p) [
        | inl same ↦
            let is' : t ≡ plug c (Leaf (InPlace p) (Begins z) e b) = is ∙ ap (plug c) ue ∙ ap (λ (a : ℕ). plug c (Leaf (InPlace a) (Begins z) e b)) same in
            beside_apart (strands i.shape i.code) (tree_of m (plug c (Leaf (InPlace p) (Begins z) e b))) (arrays_at m) (frame_at m e b z None None) (frame_at m f l y None None)
            (subst (λ (a : Skeleton). Calm (strands i.shape i.code) (tree_of m a) (arrays_at m)) is' law.ahead.1.calm)
            (beside m p q ne z e b y f l Root c g.around (sym is' ∙ at_leaf)) x wrote
            (subst (λ (a : ℕ). Has x (touches (strands i.shape i.code) (record { own = own_at m f l; point = at_capsule a }) (arrays_at m))) (sym number_is) h)
        | inr other ↦ let none : at r u ≡ 0 = only r other in let none' : at r (Leaf (InPlace r) (Begins z) e b) ≡ 0 = ap (at r) (sym ue) ∙ none in let one = is_at_own r in omega (arith, none', one)
      ]
      by_leaf x h (Leaf (InPlace r) Over e b) ue wrote = wrote
      by_leaf x h (Leaf (InPlace r) Arrives e b) ue wrote = wrote
      by_leaf x h (Leaf Waiting st e b) ue wrote = wrote
      by_leaf x h (Leaf Came st e b) ue wrote = wrote
      by_leaf x h (Leaf Fresh st e b) ue wrote = wrote
      by_leaf x h (Leaf Held st e b) ue wrote = wrote
      by_leaf x h (Leaf Inlined st e b) ue wrote = wrote
      by_leaf x h (Calling e b z v) ue wrote = wrote
      by_leaf x h (Forking e b z a v v') ue wrote = wrote

      by_what : (x : ℕ) → Has x (touches (strands i.shape i.code) (frame_of i.shape i.code m f l y) (arrays_at m)) → What i s p c u cell w → ArrayWord x ≢ cell
      by_what x h (OfPart a e k) z = let d = z ∙ e in cc
      by_what x h (OfFree a e k b) z = let d = z ∙ e in cc
      by_what x h (OfRoom e) z = let d = z ∙ e in cc
      by_what x h (OfArray a e k) z = by_leaf x h u refl (subst (Wrote i m u) (sym (ap address (z ∙ e))) k)
      by_what x h (OfFinish e k) z = let d = z ∙ e in cc
      by_what x h (OfOrder b) z = let d = z ∙ b.is in cc

      element : (x : ℕ) → Has x (touches (strands i.shape i.code) (frame_of i.shape i.code m f l y) (arrays_at m)) → n (ArrayWord x) ≡ m (ArrayWord x)
      element x h = write_else m cell w (ArrayWord x) (by_what x h (wrote.what i fair root input s t law p c u cell w is mine))

      by_doing : (d : Doing) → Does i m q (Run f y) d → Does i n q (s.kind q) d
      by_doing Resting does = tt
      by_doing (InRow row) does = subst (λ (k : RestartKind). Under i n q k row) (sym ke) does
      by_doing (InRest rest) does = subst (λ (k : RestartKind). Going i n q k rest) (sym ke) (come_stays i.shape i.code fair m n q f y low frame room free_run element rest does)

  -- a place in a row, whose free words alone count
  kept_plain : (k : RestartKind) → s.kind q ≡ k → ceiling i n q k ≡ ceiling i m q k → carried n k ≡ carried m k → (Blank i n q (ceiling i m q k) → Free i n q k)
      → (Free i m q k → Blank i m q (ceiling i m q k)) → ((row : Row) → Under i m q k row → Under i n q k row) → ((rest : Rest) → Going i m q k rest → Going i n q k rest)
      → Ordered i s t n k → KeptAt i s t n q
  kept_plain k ke roof strand to_ from_ go on ordered = record {
    roof = subst (λ (k : RestartKind). ceiling i n q k ≡ ceiling i m q k) (sym ke) roof;
    strand = subst (λ (k : RestartKind). carried n k ≡ carried m k) (sym ke) strand;
    free = subst (Free i n q) (sym ke) (to_ (λ o lt.
        subst (λ (b : RestartKind). n (BlockWord (ceiling i m q b + o)) ≡ m (BlockWord (ceiling i m q b + o))) ke (free o (subst (λ (b : RestartKind). ceiling i m q b + o < end_of i q) (sym ke) lt))
        ∙ from_ (subst (Free i m q) ke (law.free q)) o lt));
    does = by_doing (s.doing q) (subst (λ (k : RestartKind). Does i m q k (s.doing q)) ke (law.does q));
    order = subst (Ordered i s t n) (sym ke) ordered;
  }
    where
      by_doing : (d : Doing) → Does i m q k d → Does i n q (s.kind q) d
      by_doing Resting does = tt
      by_doing (InRow row) does = subst (λ (k : RestartKind). Under i n q k row) (sym ke) (go row does)
      by_doing (InRest rest) does = subst (λ (k : RestartKind). Going i n q k rest) (sym ke) (on rest does)

  to_room : Blank i n q (m (RoomCounter q)) → Blank i n q (n (RoomCounter q))
  to_room b = subst (Blank i n q) (sym room) b

  kept_push : (r : ℕ) → s.kind q ≡ Push1 r → KeptAt i s t n q
  kept_push r ke = kept_plain (Push1 r) ke room refl to_room (λ b. b) (λ row under. tt) (λ rest e. e) tt

  kept_push2 : (r : ℕ) → s.kind q ≡ Push2 r → KeptAt i s t n q
  kept_push2 r ke = kept_plain (Push2 r) ke room refl to_room (λ b. b) (λ row under. tt) (λ rest e. e) tt

  -- the word that a Bump reads
  module _ (r : ℕ) (ke : s.kind q ≡ Bump r) where
    g : Bumps i s t q r
    g = let g = leaf i fair root input s t law q (leafed (Bump r) ke refl) in
        bump_at i s t q r g.around g.stand g.frame g.slots g.is g.alone g.framed g.sized (subst (λ (k : RestartKind). Match i.code m k (hook_at Root g.around) g.stand g.frame) ke g.match)

    bump_by : (h : LinkKind) → hook_at Root g.around ≡ h → BumpsAt i.code m h r g.frame → n (BlockWord r) ≡ m (BlockWord r)
    bump_by (Called e y) he at_ = let v = Leaf (InPlace q) (Begins 0) g.frame g.slots in
        subst (λ (x : ℕ). n (BlockWord x) ≡ m (BlockWord x)) (sym at_) ((same_frame m n (own (hook_at Root g.around) v) g.frame g.slots (λ x. omega arith) (over g.around v g.is (leaf_one (Begins 0) g.frame g.slots))).link)
    bump_by (Branch Left b) he at_ = elim (branch_from Root g.around b Left he) [
      | inl o ↦ absurd (let d = o.0 in cc)
      | inr o ↦ let v = Forking o.frame o.slots o.copy b (Leaf (InPlace q) (Begins 0) g.frame g.slots) o.beside in
          subst (λ (x : ℕ). n (BlockWord x) ≡ m (BlockWord x)) (sym at_.0) (same_at (own (hook_at Root o.around) v) m n (over o.around v (g.is ∙ o.is (Leaf (InPlace q) (Begins 0) g.frame g.slots)) (let one = is_at_own q in omega (arith, one))) b
          (let one = inside_at b 1 b 0 (omega arith) (omega arith) in omega (arith, one)))
    ]
    bump_by Root he at_ = absurd at_
    bump_by (Forked e y) he at_ = absurd at_
    bump_by (Branch Right b) he at_ = absurd at_

    bump_word : n (BlockWord r) ≡ m (BlockWord r)
    bump_word = bump_by (hook_at Root g.around) refl g.at_

    module _ (b : ℕ) where
      abbrev bump_seat : Seat
      bump_seat = seat_at q (Bump r) b

      bumped_row : (size : ℕ) (h : LinkKind) → SameRow i m n bump_seat (bumped bump_seat r size h)
      bumped_row size (Called e y) = store_row i m n bump_seat (RoomCounter q) (ANumber (r + size)) (with_kind bump_seat (Run r 0)) room (install_row i m n bump_seat (Run r 0))
      bumped_row size (Forked e y) = store_row i m n bump_seat (RoomCounter q) (ANumber (r + size)) (Fork r) room (fork_row i m n bump_seat r)
      bumped_row size Root = broken_row i m n bump_seat
      bumped_row size (Branch d x) = broken_row i m n bump_seat

      bump_row : SameRow i m n bump_seat (row_of i.shape bump_seat (Bump r))
      bump_row = load_row i m n bump_seat (BumpLink r) bump_word
          (link_row i m n bump_seat (λ link. bumped bump_seat r link.size link.kind) (link_of (m (BlockWord r))) (λ link e. bumped_row link.size link.kind))

    kept_bump : KeptAt i s t n q
    kept_bump = kept_plain (Bump r) ke top_is refl (λ b. subst (Blank i n q) (sym top_is) b) (λ b. b) (λ row u. (u.0, u.1, bump_row u.0 u.1 row u.2)) (λ rest e. e) tt
      where
        top_is : ceiling i n q (Bump r) ≡ ceiling i m q (Bump r)
        top_is = ap (λ (x : ℕ). r + (link_at x).size) bump_word

  -- a place that unwinds: its frame, its caller's and its outcome word in a fork block are around
  module _ (f : ℕ) (ke : s.kind q ≡ Unwind f) where
    up : Overs i s t q f
    up = let g = leaf i fair root input s t law q (leafed (Unwind f) ke refl) in
        over_at i s t q f g.around g.stand g.frame g.slots g.is g.framed (subst (λ (k : RestartKind). Match i.code m k (hook_at Root g.around) g.stand g.frame) ke g.match)

    abbrev low : Skeleton
    low = Leaf (InPlace q) Over f up.slots

    abbrev hook : LinkKind
    hook = hook_at Root up.around

    low_same : Same (own hook low) m n
    low_same = over up.around low up.is (leaf_one Over f up.slots)

    low_frame : SameFrame m n f up.slots
    low_frame = same_frame m n (own hook low) f up.slots (λ x. omega arith) low_same

    arrived_same : (d : Side) (r : ℕ) → hook ≡ Branch d r → n (branch_outcome d r) ≡ m (branch_outcome d r)
    arrived_same Left r e = same_at (own hook low) m n low_same (r + 2) (let one = subst (λ (h : LinkKind). 1 ≤ hung h (r + 2)) (sym e) (inside_at (r + 2) 1 (r + 2) 0 (omega arith) (omega arith)) in omega (arith, one))
    arrived_same Right r e = same_at (own hook low) m n low_same (r + 3) (let one = subst (λ (h : LinkKind). 1 ≤ hung h (r + 3)) (sym e) (inside_at (r + 3) 1 (r + 3) 0 (omega arith) (omega arith)) in omega (arith, one))

    module _ (b : ℕ) where
      abbrev unwind_seat : Seat
      unwind_seat = seat_at q (Unwind f) b

      abbrev SameHere : Row → Type 0
      SameHere row = SameRow i m n unwind_seat row

      finish_row : (x : Finish) → SameHere (unwound unwind_seat f Root x)
      finish_row x = exchange_row i m n unwind_seat FinishWord (ANumber 0) (AFinish x) Again
          (λ a z. a (sym (wrote.finish_stays i fair root input s t law p c u cell w is mine a) ∙ z)) (again_row i m n unwind_seat)

      branch_row : (d : Side) (r : ℕ) (x : Finish) → hook ≡ Branch d r → SameHere (unwound unwind_seat f (Branch d r) x)
      branch_row d r x e = store_row i m n unwind_seat (branch_outcome d r) (AFinish x) (with_kind unwind_seat (Arrive r d)) (arrived_same d r e) (install_row i m n unwind_seat (Arrive r d))

      module _ (g y : ℕ) (from : CalledFrom Root up.around g y) where
        abbrev caller : Skeleton
        caller = Calling g from.slots y low

        at_caller : t ≡ plug from.around caller
        at_caller = up.is ∙ from.is low

        caller_frame : SameFrame m n g from.slots
        caller_frame = same_frame m n (own (hook_at Root from.around) caller) g from.slots (λ x. omega arith) (over from.around caller at_caller (leaf_one Over f up.slots))

        waiting : Calls i.code m (hook_at Root from.around) g from.slots y low
        waiting = (good_here i.code m s.kind Root from.around caller (subst (Good i.code m s.kind Root) at_caller law.good)).0

        call_row : SameHere (unwind_by f (Called g y))
        call_row = load_row i m n unwind_seat (UnwindOutcome f (Called g y)) low_frame.outcome
            (outcome_row i m n unwind_seat (unwound unwind_seat f (Called g y)) (finish_of (m (BlockWord (f + 1))))
            (value_row i m n unwind_seat f g y from.slots None low_frame.target low_frame.value caller_frame.slots waiting.target (install_row i m n unwind_seat (Run g y)))
            (λ trap line. store_row i m n unwind_seat (outcome_word g) (AFinish (Trapped trap line)) (with_kind unwind_seat (Unwind g)) caller_frame.outcome (install_row i m n unwind_seat (Unwind g))))

      hook_row : (h : LinkKind) → hook ≡ h → SameHere (unwind_by f h)
      hook_row Root e = load_row i m n unwind_seat (UnwindOutcome f Root) low_frame.outcome
          (outcome_row i m n unwind_seat (unwound unwind_seat f Root) (finish_of (m (BlockWord (f + 1)))) (finish_row Ended) (λ trap line. finish_row (Trapped trap line)))
      hook_row (Called g y) e = elim (called_from Root up.around g y e) [
        | inl k ↦ absurd (let d = k.0 in cc)
        | inr from ↦ call_row g y from
      ]
      hook_row (Branch d r) e = load_row i m n unwind_seat (UnwindOutcome f (Branch d r)) low_frame.outcome
          (outcome_row i m n unwind_seat (unwound unwind_seat f (Branch d r)) (finish_of (m (BlockWord (f + 1)))) (branch_row d r Ended e) (λ trap line. branch_row d r (Trapped trap line) e))
      hook_row (Forked g y) e = broken_row i m n unwind_seat

      unwind_row : SameHere (row_of i.shape unwind_seat (Unwind f))
      unwind_row = load_row i m n unwind_seat (UnwindLink f) low_frame.link
          (link_row i m n unwind_seat (λ link. unwind_by f link.kind) (link_of (m (BlockWord f)))
          (λ link e. hook_row link.kind (sym (ap (λ (x : Link). x.kind) up.framed) ∙ ap (λ (o : Option Link). (link_or o).kind) e)))

    kept_unwind : KeptAt i s t n q
    kept_unwind = kept_plain (Unwind f) ke room refl to_room (λ b. b) (λ row v. (v.0, v.1, unwind_row v.0 v.1 row v.2)) (λ rest e. e) tt

  set_stays : (x : ℕ) → Head i s t x → (m (BlockWord x) ≡ 0 → ⊥) → n (BlockWord x) ≡ m (BlockWord x)
  set_stays x head set = wrote.set_stays i fair root input s t law p c u cell w is mine x head set

  -- two places do not hang on one side of a fork
  two_sides : (r : ℕ) (d : Side) (g : Comes i s t q r d) → hook_at Root c ≡ Branch d r → ⊥
  two_sides r d g he = by d g.hook he
    where
      no_leaf : Leaf (InPlace q) Arrives g.frame g.slots ≡ u → ⊥
      no_leaf e = let a : at q (Leaf (InPlace q) Arrives g.frame g.slots) ≡ at q u = ap (at q) e in let one = is_at_own q in let none = only q ne in omega (arith, a, one, none)

      by : (e : Side) → hook_at Root g.around ≡ Branch e r → hook_at Root c ≡ Branch e r → ⊥
      by Left ge ce = elim (branch_from Root g.around r Left ge) [
        | inl k ↦ absurd (let b = k.0 in cc)
        | inr o ↦ elim (branch_from Root c r Left ce) [
          | inl k ↦ absurd (let b = k.0 in cc)
          | inr v ↦
              let low = Leaf (InPlace q) Arrives g.frame g.slots in
              let one = inside_at r 1 r 0 (omega arith) (omega arith) in
              let same = nodes_same Root o.around (Forking o.frame o.slots o.copy r low o.beside) v.around (Forking v.frame v.slots v.copy r u v.beside) r (sym (g.is ∙ o.is low) ∙ is ∙ v.is u)
              (subst (λ (z : Skeleton). count Root z r ≤ 1) (g.is ∙ o.is low) (law.apart r)) (omega (arith, one)) (omega (arith, one)) in
              no_leaf (ap first_of same)
        ]
      ]
      by Right ge ce = elim (branch_from Root g.around r Right ge) [
        | inl k ↦ absurd (let b = k.0 in cc)
        | inr o ↦ elim (branch_from Root c r Right ce) [
          | inl k ↦ absurd (let b = k.0 in cc)
          | inr v ↦
              let low = Leaf (InPlace q) Arrives g.frame g.slots in
              let one = inside_at r 1 r 0 (omega arith) (omega arith) in
              let same = nodes_same Root o.around (Forking o.frame o.slots o.copy r o.beside low) v.around (Forking v.frame v.slots v.copy r v.beside u) r (sym (g.is ∙ o.is low) ∙ is ∙ v.is u)
              (subst (λ (z : Skeleton). count Root z r ≤ 1) (g.is ∙ o.is low) (law.apart r)) (omega (arith, one)) (omega (arith, one)) in
              no_leaf (ap second_of same)
        ]
      ]

  module _ (r : ℕ) (d : Side) where
    other_code : (e : Side) → (e ≡ d → ⊥) → (side_code e == side_code d) ≡ false
    other_code e differ = by e d differ
      where
        by : (e d : Side) → (e ≡ d → ⊥) → (side_code e == side_code d) ≡ false
        by Left Left k = absurd (k refl)
        by Right Right k = absurd (k refl)
        by Left Right k = refl
        by Right Left k = refl

    zero_code : (0 == side_code d) ≡ false
    zero_code = by d
      where
        by : (d : Side) → (0 == side_code d) ≡ false
        by Left = refl
        by Right = refl

    three_code : (3 == side_code d) ≡ false
    three_code = by d
      where
        by : (d : Side) → (3 == side_code d) ≡ false
        by Left = refl
        by Right = refl

    module _ (ke : s.kind q ≡ Arrive r d) where
      arrive_head : Head i s t (r + 1)
      arrive_head = subst (Ordered i s t m) ke (law.orders q)

      claimed_strand : Claimed s c (BlockWord (r + 1)) w → n (BlockWord (r + 1)) ≡ w → carried n (Arrive r d) ≡ carried m (Arrive r d)
      claimed_strand k now_is = elim k.was [
        | inr z ↦ ap (λ (b : ℕ). cond (b == side_code d) 0 1) (now_is ∙ sym z)
        | inl z ↦
            let late : (m (BlockWord (r + 1)) == side_code d) ≡ false = ap (λ (b : ℕ). b == side_code d) z ∙ zero_code in
            let re : k.block ≡ r = (let e = ap address k.is in omega (arith, e)) in
            let differ : k.side ≡ d → ⊥ = λ e. two_sides r d (joining.arrives i fair root input s t law q r d ke late) (k.hook ∙ ap₂ (λ (a : ℕ) (b : Side). Branch b a) re e) in
            let now : (n (BlockWord (r + 1)) == side_code d) ≡ false = elim k.gets [
              | inl a ↦ ap (λ (b : ℕ). b == side_code d) (now_is ∙ a) ∙ other_code k.side differ
              | inr a ↦ ap (λ (b : ℕ). b == side_code d) (now_is ∙ a) ∙ three_code
            ] in
            cond-false {A = ℕ} (n (BlockWord (r + 1)) == side_code d) 0 1 now ∙ sym (cond-false {A = ℕ} (m (BlockWord (r + 1)) == side_code d) 0 1 late)
      ]

      arrive_strand : carried n (Arrive r d) ≡ carried m (Arrive r d)
      arrive_strand = elim (wrote.head_view i fair root input s t law p c u cell w is mine (r + 1) arrive_head) [
        | inl e ↦ ap (λ (b : ℕ). cond (b == side_code d) 0 1) e
        | inr k ↦ claimed_strand k.0 k.1
      ]

      arrive_row : (b : ℕ) → SameRow i m n (seat_at q (Arrive r d) b) (row_of i.shape (seat_at q (Arrive r d) b) (Arrive r d))
      arrive_row b = exchange_row i m n (seat_at q (Arrive r d) b) (order_word r) (ANumber 0) (ANumber (first d)) (with_kind (seat_at q (Arrive r d) b) (Join r d))
          (λ a z. a (sym (set_stays (r + 1) arrive_head a) ∙ z)) (install_row i m n (seat_at q (Arrive r d) b) (Join r d))

      kept_arrive : KeptAt i s t n q
      kept_arrive = kept_plain (Arrive r d) ke room arrive_strand to_room (λ b. b) (λ row v. (v.0, v.1, arrive_row v.0 v.1 row v.2)) (λ rest e. e) arrive_head

    module _ (ke : s.kind q ≡ Join r d) where
      ordered : Ordered i s t m (Join r d)
      ordered = subst (Ordered i s t m) ke (law.orders q)

      abbrev o : ℕ
      o = m (BlockWord (r + 1))

      word_stays : n (BlockWord (r + 1)) ≡ o
      word_stays = set_stays (r + 1) ordered.0 ordered.1

      -- a branch that came later: all words of the fork and its branches are around
      module _ (late : (o == side_code d) ≡ false) (beyond : is_inline o d ≡ false) where
        abbrev j : Joining s t q r d
        j = joining.joining i fair root input s t law q r d ke late beyond

        abbrev node : Skeleton
        node = joint m q j.other r d j.frame j.slots j.copy j.left_slots j.right_slots

        node_good : Good i.code m s.kind (hook_at Root j.around) node
        node_good = good_here i.code m s.kind Root j.around node (subst (Good i.code m s.kind Root) j.is law.good)

        node_here : at q node ≡ 1
        node_here = at_joint i fair root input s t law q r d m j.other j.nobody j.frame j.slots j.copy j.left_slots j.right_slots

        other_who : (e : Side) → at p (joint m q j.other r e j.frame j.slots j.copy j.left_slots j.right_slots) ≡ 0
        other_who Left = let a = is_at_other q p (λ e. ne (sym e)) in let b = j.nobody p in omega (arith, a, b)
        other_who Right = let a = is_at_other q p (λ e. ne (sym e)) in let b = j.nobody p in omega (arith, a, b)

        all_same : Same (plain (hook_at Root j.around) node) m n
        all_same x there = wrote.wrote_around i fair root input s t law p c u cell w is mine x (λ z. there (
            let le = far p q Root c u j.around node (sym is ∙ j.is) (only q ne) (let e = node_here in omega (arith, e)) some (other_who d) x in omega (arith, le, z)))

        left_frame : SameFrame m n (r + 5) j.left_slots
        left_frame = same_frame m n (plain (hook_at Root j.around) node) (r + 5) j.left_slots (λ x. omega arith) all_same

        right_frame : SameFrame m n (r + m (BlockWord (r + 4))) j.right_slots
        right_frame = same_frame m n (plain (hook_at Root j.around) node) (r + m (BlockWord (r + 4))) j.right_slots (λ x. omega arith) all_same

        upper : SameFrame m n j.frame j.slots
        upper = same_frame m n (plain (hook_at Root j.around) node) j.frame j.slots (λ x. omega arith) all_same

        late_words : (b : ℕ) → JoinWords i m n (seat_at q (Join r d) b) r j.frame j.copy j.slots
        late_words b = record {
          link = same_at (plain (hook_at Root j.around) node) m n all_same r (let one = inside_at r 1 r 0 (omega arith) (omega arith) in omega (arith, one));
          hooked = node_good.0.hook;
          left = same_at (plain (hook_at Root j.around) node) m n all_same (r + 2) (let one = inside_at (r + 2) 1 (r + 2) 0 (omega arith) (omega arith) in omega (arith, one));
          right = same_at (plain (hook_at Root j.around) node) m n all_same (r + 3) (let one = inside_at (r + 3) 1 (r + 3) 0 (omega arith) (omega arith) in omega (arith, one));
          offset = same_at (plain (hook_at Root j.around) node) m n all_same (r + 4) (let one = inside_at (r + 4) 1 (r + 4) 0 (omega arith) (omega arith) in omega (arith, one));
          left_value = left_frame.value;
          left_target = left_frame.target;
          left_aim = node_good.0.left_target;
          right_value = right_frame.value;
          right_target = right_frame.target;
          right_aim = node_good.0.right_target;
          outcome = upper.outcome;
          slots = upper.slots;
        }

        late_row : (b : ℕ) (last : Bool) → SameRow i m n (seat_at q (Join r d) b) (joins (seat_at q (Join r d) b) r false false last)
        late_row b true = last_row i m n (seat_at q (Join r d) b) r j.frame j.copy j.slots (late_words b)
        late_row b false = broken_row i m n (seat_at q (Join r d) b)

      -- one strand runs both
      module _ (both : is_inline o d ≡ true) where
        comes : Comes i s t q r d
        comes = joining.joins i fair root input s t law q r d ke (inline_late d o both)

        offset_by : (e : Side) → hook_at Root comes.around ≡ Branch e r → is_inline o e ≡ true → n (BlockWord (r + 4)) ≡ m (BlockWord (r + 4))
        offset_by Right he k = absurd (cc)
        offset_by Left he k = elim (branch_from Root comes.around r Left he) [
          | inl z ↦ absurd (let b = z.0 in cc)
          | inr z ↦ let low = Leaf (InPlace q) Arrives comes.frame comes.slots in let node = Forking z.frame z.slots z.copy r low z.beside in
              same_at (own (hook_at Root z.around) node) m n (over z.around node (comes.is ∙ z.is low) (let one = is_at_own q in omega (arith, one))) (r + 4)
              (let one = inside_at (r + 4) 1 (r + 4) 0 (omega arith) (omega arith) in omega (arith, one))
        ]

        inline_row : (b : ℕ) (last : Bool) → SameRow i m n (seat_at q (Join r d) b) (joins (seat_at q (Join r d) b) r false true last)
        inline_row b last = load_row i m n (seat_at q (Join r d) b) (Offset r b) (offset_by d comes.hook both)
            (if_there_row i m n (seat_at q (Join r d) b) (r + m (BlockWord (r + 4))) (Now (Begin r (r + m (BlockWord (r + 4))) b)) (begin_row i m n (seat_at q (Join r d) b) r (r + m (BlockWord (r + 4))) b))

      not_first : (o == first d) ≡ false → (o == side_code d) ≡ false
      not_first e = ap (λ (x : ℕ). o == x) (sym (first_is d)) ∙ e

      joins_row : (b : ℕ) → SameRow i m n (seat_at q (Join r d) b) (joins (seat_at q (Join r d) b) r (o == first d) (is_inline o d) (is_last o d))
      joins_row b = elim (cases_Bool (o == first d)) [
        | inl e ↦ subst (λ (x : Bool). SameRow i m n (seat_at q (Join r d) b) (joins (seat_at q (Join r d) b) r x (is_inline o d) (is_last o d))) (sym e) (install_row i m n (seat_at q (Join r d) b) Pop1)
        | inr e ↦ subst (λ (x : Bool). SameRow i m n (seat_at q (Join r d) b) (joins (seat_at q (Join r d) b) r x (is_inline o d) (is_last o d))) (sym e) (elim (cases_Bool (is_inline o d)) [
          | inl k ↦ subst (λ (x : Bool). SameRow i m n (seat_at q (Join r d) b) (joins (seat_at q (Join r d) b) r false x (is_last o d))) (sym k) (inline_row k b (is_last o d))
          | inr k ↦ subst (λ (x : Bool). SameRow i m n (seat_at q (Join r d) b) (joins (seat_at q (Join r d) b) r false x (is_last o d))) (sym k) (late_row (not_first e) k b (is_last o d))
        ])
      ]

      join_row : (b : ℕ) → SameRow i m n (seat_at q (Join r d) b) (row_of i.shape (seat_at q (Join r d) b) (Join r d))
      join_row b = load_row i m n (seat_at q (Join r d) b) (JoinOrder r d) word_stays (joins_row b)

      join_under : (row : Row) → Under i m q (Join r d) row → Under i n q (Join r d) row
      join_under row (inl v) = inl (v.0, v.1, join_row v.0 v.1 row v.2)
      join_under row (inr v) = inr (collected_same i m n (seat_at q (Join r d) 0) r (j v.late v.beyond).frame (j v.late v.beyond).copy (j v.late v.beyond).slots
          (late_words v.late v.beyond 0) d row word_stays v)

      kept_join : KeptAt i s t n q
      kept_join = kept_plain (Join r d) ke room (ap (λ (b : ℕ). cond (b == side_code d) 0 1) word_stays) to_room (λ b. b) join_under (λ rest e. e)
          (ordered.0, λ z. ordered.1 (sym word_stays ∙ z))

  kept : KeptAt i s t n q
  kept = by (s.kind q) refl
    where
      idle : (k : RestartKind) → s.kind q ≡ k → IsIdle k → KeptAt i s t n q
      idle k ke h = idle_kept i fair root input s t law p c u cell w is mine q ne (subst IsIdle (sym ke) h)

      by : (k : RestartKind) → s.kind q ≡ k → KeptAt i s t n q
      by (Run f y) ke = kept_run f y (subst HasCopy ke (law.copies q)) ke
      by (Bump r) ke = kept_bump r ke
      by (Push1 r) ke = kept_push r ke
      by (Push2 r) ke = kept_push2 r ke
      by (Unwind f) ke = kept_unwind f ke
      by (Arrive r d) ke = kept_arrive r d ke
      by (Join r d) ke = kept_join r d ke
      by Pop1 ke = idle Pop1 ke tt
      by (Pop2 r) ke = idle (Pop2 r) ke tt
      by Seek ke = idle Seek ke tt
      by (Steal v x) ke = idle (Steal v x) ke tt
      by (Check v x) ke = idle (Check v x) ke tt
      by (Take v x) ke = idle (Take v x) ke tt
      by (Take2 v) ke = idle (Take2 v) ke tt

pub others_keep : OthersKeep
others_keep i fair root input s t law p c u cell w is alone only one mine q ne = kept i fair root input s t law p c u cell w is only one mine q ne
