-- What the machine's word steps make of the words by cells.
use Rattle.std.proofs.Common.{◌≡◌, ◌≤◌, ◌<◌, ℕ, ◌+◌, ◌==◌, ◌&&◌, cond, Bool, true, false, List, inl, inr, refl, sym, ap, ◌∙◌, subst, arith}
use Rattle.std.specs.Prelude.{if◌then◌else◌, slice_index}
use Rattle.std.proofs.lemmas.Bool.{lt-ltb, le-leb}
use Rattle.ppm_cells.specs.Finish.{finish_word}
use Rattle.ppm_cells.specs.Memory.{write, AreWordsOf}
use Rattle.ppm_cells.specs.Restart.{restart_word}
use Rattle.ppm_cells.specs.declared.cell.Cell.{Cell}
use Rattle.ppm_cells.specs.declared.cell.Cell.TheVariants.{FinishWord, RestartWord, RoomCounter, BlockWord}
use Rattle.ppm_cells.specs.declared.finish.Finish.TheVariants.{OutOfRoom}
use Rattle.ppm_cells.specs.declared.restart.Restart.{Restart}
use Rattle.ppm_cells.specs.declared.shape.Shape.{Shape}
use Rattle.ppm_strands.specs.Tree.{Words, Tree}
use Rattle.ppm_strands.specs.Strand.{Frame}
use Rattle.ppm_code.specs.Strands.{Point, Result}
use Rattle.ppm_code.specs.declared.location.FrameWord.{FrameWord}
use Rattle.ppm_step.specs.Contents.{word_of}
use Rattle.ppm_step.specs.Standings.{wanted_row, forked, begun}
use Rattle.ppm_step.specs.State.{words_after}
use Rattle.ppm_step.specs.There.{is_there}
use Rattle.ppm_step.specs.declared.row.Row.TheVariants.{Now}
use Rattle.ppm_step.specs.declared.row.Seat.{Seat}
use Rattle.ppm_step.specs.declared.row.Then.{Then}
use Rattle.ppm_step.specs.declared.row.Then.TheVariants.{Load, Install, Fork, Begin, Move, Enter, Again, Broken}
use Rattle.ppm_frames.specs.Views.{written, in_pool, is_cell, view}
use Rattle.ppm_frames.specs.Skeletons.{Skeleton}
use Rattle.ppm_frames.proofs.ViewLemmas.{view_is, cells_are_viewed, others_are_unseen}
use Rattle.ppm_kept.specs.Branches.{HasCopy}
use Rattle.ppm_kept.specs.Kept.{Setting, start, end_of, owner, State, Head, IsKept}
use Rattle.ppm_kept.specs.Laws.{Ends}
use Rattle.ppm_kept.specs.Turns.{StepsShow, StepsAreSeen, StoresAreCells}
use Rattle.ppm_kept.proofs.OtherLemmas.{others_keep}
use Rattle.ppm_kept.proofs.OwnerLemmas.{owned}
use Rattle.ppm_kept.proofs.RunRow.{counted_leaf, room_least}

module _ (s : Shape) (words : List ℕ) (seat : Seat) (fit : AreWordsOf s words) (there : seat.place < s.processors) where
  installs : (r : Restart) → view s (write s words (RestartWord seat.place) (restart_word r)) ≡ view s words
  installs r = others_are_unseen s words (RestartWord seat.place) (restart_word r) there refl

  exchanged : (b : Bool) (w : ℕ) → view s (if b then write s words FinishWord w else words) ≡ cond b (written (view s words) FinishWord w) (view s words)
  exchanged true w = cells_are_viewed s words FinishWord w fit refl
  exchanged false w = refl

  ends_unseen : (victim : ℕ) (next : Then) → Ends next → view s (words_after words (wanted_row s seat victim (Now next))) ≡ view s words
  ends_unseen victim (Install r) e = installs r
  ends_unseen victim (Fork block) e = installs (forked seat block)
  ends_unseen victim (Begin block frame bottom) e = installs (begun frame bottom)
  ends_unseen victim (Load point) e = absurd e
  ends_unseen victim (Move q) e = absurd e
  ends_unseen victim (Enter c) e = absurd e
  ends_unseen victim Again e = absurd e
  ends_unseen victim Broken e = absurd e

  pub shows : StepsShow s words seat
  shows = record {
    loads = λ cell next is. sym (view_is s words cell is);
    stores = λ cell content rest is. cells_are_viewed s words cell (word_of content) fit is;
    installs = λ kind. installs (record { kind = kind; bottom = seat.restart.bottom });
    fills = exchanged (slice_index words 0 == 0) (finish_word (OutOfRoom seat.place))
        ∙ ap (λ (x : ℕ). cond (x == 0) (written (view s words) FinishWord (finish_word (OutOfRoom seat.place))) (view s words)) (sym (view_is s words FinishWord refl));
    row_loads = λ victim point is. sym (view_is s words _ is);
    row_stores = λ victim cell content next is. cells_are_viewed s words cell (word_of content) fit is;
    row_installs = ends_unseen;
  }

pub steps_are_seen : StepsAreSeen
steps_are_seen s words seat fit there = shows s words seat fit there

-- an address of a pool
both : (a b : Bool) → a ≡ true → b ≡ true → (a && b) ≡ true
both true b e d = d
both false b e d = absurd (cc)

pub pool_cell : (i : Setting) (x : ℕ) → owner i x < i.shape.processors → start i (owner i x) ≤ x → x < end_of i (owner i x) → in_pool i.shape x ≡ true
pool_cell i x there low high = both _ _ (lt-ltb _ _ there) (both _ _ (le-leb _ _ low) (lt-ltb _ _ high))

-- an order word that a place holds is a cell of the frames
pub head_cell : (i : Setting) (root : Tree (Frame FrameWord Point) Result) (input : Words) (s : State) (t : Skeleton) → IsKept i root input s t → (x : ℕ) → Head i s t x → is_cell i.shape (BlockWord x) ≡ true
head_cell i root input s t law x a = pool_cell i x a.there a.first (let under = a.under in let top_ = (law.rooms (owner i x)).1 in omega (arith, under, top_))

pub stores_are_cells : StoresAreCells
stores_are_cells i fair root input s t law p there f y ke cell spot is = let keeps = others_keep i fair root input s t law p in let low = subst HasCopy ke (law.copies p) in elim spot [
  | inl a ↦ subst (λ (c : Cell). is_cell i.shape c ≡ true) (sym a.1) (
      let some = counted_leaf i fair root input s t law p there keeps f y low ke a.0 a.2 in
      let b = law.below (f + a.0) some in
      let bound = (law.rooms (owner i (f + a.0))).1 in
      let under = b.1 in
      pool_cell i (f + a.0) (law.there (f + a.0) some) b.0 (omega (arith, under, bound)))
  | inr b ↦ elim b [
    | inl a ↦ subst (λ (c : Cell). is_cell i.shape c ≡ true) (sym a.1) (
        let x : ℕ = s.words (RoomCounter p) + a.0 in
        let least = room_least i fair root input s t law p there keeps f y low ke in
        let least_here : start i p ≤ x = omega (arith, least) in
        let own = owned i p x least_here a.2 in
        pool_cell i x (subst (λ (q : ℕ). q < i.shape.processors) (sym own) there) (subst (λ (q : ℕ). start i q ≤ x) (sym own) least_here) (subst (λ (q : ℕ). x < end_of i q) (sym own) a.2))
    | inr a ↦ subst (λ (c : Cell). is_cell i.shape c ≡ true) (sym a.1) (subst (λ (c : Cell). is_there i.shape c ≡ true) a.1 is)
  ]
]
