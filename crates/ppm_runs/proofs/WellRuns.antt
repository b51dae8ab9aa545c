-- In kept words whose tree is well, capsules of frames meet no broken words; so strands are sound.
use Rattle.std.proofs.Common.{◌≡◌, ◌<◌, ℕ, ◌+◌, true, inl, inr, refl, sym, ap, ◌∙◌, subst, arith}
use Rattle.std.specs.Prelude.{nat_lt}
use Rattle.std.proofs.lemmas.Bool.{lt-ltb}
use Rattle.ppm_strands.specs.Tree.{Words, Tree}
use Rattle.ppm_cells.specs.Cells.{word_count, pool_at}
use Rattle.ppm_cells.specs.declared.cell.Cell.{Cell}
use Rattle.ppm_cells.specs.declared.cell.Cell.TheVariants.{RoomCounter, BlockWord}
use Rattle.ppm_cells.specs.declared.restart.RestartKind.TheVariants.{Run}
use Rattle.ppm_cells.specs.declared.shape.Shape.{Shape}
use Rattle.ppm_cells.proofs.CellLemmas.{place_end}
use Rattle.ppm_strands.specs.Capsule.{Capsule, Reads, Writes, Asks, Ends}
use Rattle.ppm_strands.specs.Stopped.{Stands}
use Rattle.ppm_strands.specs.Strand.{Own, New, Shared, Frame}
use Rattle.ppm_code.specs.Code.{EndFits}
use Rattle.ppm_code.specs.Locations.{Where, code_locations}
use Rattle.ppm_code.specs.Sizes.{slots_at, procedure_at}
use Rattle.ppm_code.specs.Strands.{Point, Result, instrs_of}
use Rattle.ppm_code.specs.declared.act.End.{End}
use Rattle.ppm_code.specs.declared.act.End.TheVariants.{Next, Finish, Trap, Call, Fork}
use Rattle.ppm_code.specs.declared.location.FrameWord.{FrameWord}
use Rattle.ppm_code.specs.declared.location.FrameWord.TheVariants.{Slot, Value}
use Rattle.ppm_step.specs.Frames.{Rest, Installs, cell_of, installed, other_copy}
use Rattle.ppm_step.specs.Standings.{rest_is_there}
use Rattle.ppm_step.specs.There.{is_there, kind_is_there, bottom_is_there}
use Rattle.ppm_step.specs.declared.frame.Home.{Home}
use Rattle.ppm_step.specs.declared.row.Seat.{Seat}
use Rattle.ppm_frames.specs.Seen.{IsIn}
use Rattle.ppm_frames.specs.Skeletons.{Begins, InPlace, Skeleton, Leaf, plug}
use Rattle.ppm_frames.proofs.SkeletonLemmas.{inside_at}
use Rattle.ppm_kept.specs.Running.{room_or, asked_of, IsFair, IsOf, last_of, home_at, number_at, all_of, now, HasRoom, IsRoomy, HasCome}
use Rattle.ppm_kept.specs.Branches.{HasCopy}
use Rattle.ppm_kept.specs.Kept.{Setting, State, carried, IsKept}
use Rattle.ppm_kept.proofs.BlockLemmas.{header_is}
use Rattle.ppm_kept.proofs.LoadLemmas.{in_part}
use Rattle.ppm_kept.proofs.PlaceLemmas.{leaf, Runs, run_leaf}
use Rattle.ppm_kept.proofs.RunLemmas.{fits}
use Rattle.ppm_runs.proofs.ArrayLemmas.{Low, left_low}
use Rattle.ppm_runs.proofs.SoundJoin.{cell_low}
use Rattle.ppm_runs.proofs.SoundRows.{and_is}

-- the pool of a place ends within the words
pool_low : (s : Shape) (p : ℕ) → p < s.processors → (x : ℕ) → x < pool_at s p + s.room → x < word_count s
pool_low s p lt x below = let m = place_end s p lt in omega (arith, m, below)

module _ (i : Setting) (fair : IsFair i.code) (root : Tree (Frame FrameWord Point) Result) (input : Words) (s : State) (t : Skeleton) (law : IsKept i root input s t) (p : ℕ) (there : p < i.shape.processors) (f y : ℕ) (ke : s.kind p ≡ Run f y) where
  abbrev m : Cell → ℕ
  m = s.words

  abbrev number : ℕ
  number = number_at i.shape i.code m f y

  abbrev n : ℕ
  n = slots_at i.code number

  abbrev home : Home
  home = home_at i.shape i.code m p f y

  pub low : y < 2
  low = subst HasCopy ke (law.copies p)

  pub runs : Runs i s t p f y
  runs = run_leaf i s t p f y ke (leaf i fair root input s t law p (ap (carried m) ke))

  pub at_leaf : t ≡ plug runs.around (Leaf (InPlace p) (Begins y) f n)
  at_leaf = runs.is ∙ ap (λ (z : ℕ). plug runs.around (Leaf (InPlace p) (Begins y) f (slots_at i.code z))) (ap m (sym (header_is f y low)))

  -- a word of the frame
  pub own_low : (x j : ℕ) → x ≡ f + j → j < 6 + n → x < word_count i.shape
  own_low x j e lt = cell_low i.shape x (in_part i fair root input s t law p there runs.around (Leaf (InPlace p) (Begins y) f n) at_leaf x (let a = inside_at f (6 + n) x j e lt in omega (arith, a))).cell_is

  pub location_there : (l : Where) → IsIn n (asked_of i.code number) l → HasRoom i.shape i.code m p f y → Low i.shape.arrays l → is_there i.shape (cell_of home l) ≡ true
  location_there (Own (Slot j)) h room arrays = lt-ltb (f + 6 + j) (word_count i.shape) (own_low (f + 6 + j) (6 + j) (omega arith) (omega (arith, h)))
  location_there (Own Value) h room arrays = lt-ltb (f + 4) (word_count i.shape) (own_low (f + 4) 4 refl (omega arith))
  location_there (New o) h room arrays = lt-ltb (m (RoomCounter p) + o) (word_count i.shape) (pool_low i.shape p there (m (RoomCounter p) + o) (omega (arith, h, room)))
  location_there (Shared x) h room arrays = lt-ltb x i.shape.arrays arrays

  module _ (seat : Seat) (bottom : bottom_is_there i.shape seat.restart.bottom ≡ true) where
    abbrev There : Rest → Type 0
    There rest = rest_is_there i.shape seat rest ≡ true

    header_there : (z : ℕ) → z < 2 → is_there i.shape (BlockWord (f + 2 + z)) ≡ true
    header_there z lt = lt-ltb (f + 2 + z) (word_count i.shape) (own_low (f + 2 + z) (2 + z) (omega arith) (omega (arith, lt)))

    other_low : other_copy y < 2
    other_low = omega arith

    last_there : (e : End) → There (last_of i.shape i.code home e)
    last_there (Next c) = header_there (other_copy y) other_low
    last_there Finish = and_is (bottom_is_there i.shape seat.restart.bottom) (nat_lt f (word_count i.shape)) bottom (lt-ltb f (word_count i.shape) (own_low f 0 (omega arith) (omega arith)))
    last_there (Trap trap line) = lt-ltb (f + 1) (word_count i.shape) (own_low (f + 1) 1 refl (omega arith))
    last_there (Call q c to) = header_there (other_copy y) other_low
    last_there (Fork a b c lt rt) = header_there (other_copy y) other_low

    block_low : (e : End) → EndFits i.code (procedure_at i.code number) (instrs_of i.code number) e → HasRoom i.shape i.code m p f y → There (Installs (installed home e))
    block_low (Next c) fit room = and_is (bottom_is_there i.shape seat.restart.bottom) (kind_is_there i.shape (Run f (other_copy y))) bottom
        (and_is (nat_lt f (word_count i.shape)) (nat_lt (other_copy y) 2) (lt-ltb f (word_count i.shape) (own_low f 0 (omega arith) (omega arith))) (lt-ltb (other_copy y) 2 other_low))
    block_low Finish fit room = last_there Finish
    block_low (Trap trap line) fit room = last_there Finish
    block_low (Call q c to) fit room = and_is (bottom_is_there i.shape seat.restart.bottom) (nat_lt (m (RoomCounter p)) (word_count i.shape)) bottom
        (lt-ltb (m (RoomCounter p)) (word_count i.shape) (pool_low i.shape p there (m (RoomCounter p)) (let a = ap room_or fit.3 in omega (arith, a, room))))
    block_low (Fork a b c lt rt) fit room = and_is (bottom_is_there i.shape seat.restart.bottom) (nat_lt (m (RoomCounter p)) (word_count i.shape)) bottom
        (lt-ltb (m (RoomCounter p)) (word_count i.shape) (pool_low i.shape p there (m (RoomCounter p)) (let e = ap room_or fit.5 in omega (arith, e, room))))

    under_there : (left : Capsule Where End) (rest : Rest) → IsOf i.shape i.code p home left rest → (stands : Stands code_locations (all_of i.shape i.code m p f y) left (now i.shape i.code m p f y)) → IsRoomy i.shape i.code m p f y left → There rest
    under_there (Reads l go) rest of stands room = subst There (sym of.1)
        (location_there l (fits i.shape i.code fair m p f y (Reads l go) stands).0 room (left_low i.code i.shape.arrays home number (Reads l go) (now i.shape i.code m p f y) stands.0 stands.1).0)
    under_there (Writes l v go) rest of stands room = subst There (sym of.2)
        (location_there l (fits i.shape i.code fair m p f y (Writes l v go) stands).0 room (left_low i.code i.shape.arrays home number (Writes l v go) (now i.shape i.code m p f y) stands.0 stands.1).0)
    under_there (Asks w go) rest of stands room = subst There (sym of.2) (lt-ltb p i.shape.processors there)
    under_there (Ends e) rest of stands room = subst There (sym of) (last_there e)

    -- wherever a capsule has come
    pub come_there : (rest : Rest) → HasCome i.shape i.code m p f y rest → There rest
    come_there rest (inl u) = under_there u.left rest u.is_of u.stands u.roomy
    come_there rest (inr (inl d)) = subst There (sym d.is) (block_low d.end (fits i.shape i.code fair m p f y (Ends d.end) d.stands) d.room)
    come_there rest (inr (inr e)) = subst There (sym e) refl
