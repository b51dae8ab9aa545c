-- What a place asks for beyond its pool is still to be counted by the depth-first run.
use Rattle.std.proofs.Common.{◌≡◌, ◌≤◌, ◌<◌, ℕ, ◌+◌, Bool, true, false, Some, inl, inr, refl, sym, ap, ◌∙◌, subst, subst₂, arith}
use Rattle.std.specs.Prelude.{nat_le, if◌then◌else◌}
use Rattle.std.proofs.lemmas.Bool.{le-ltb, leb-false}
use Rattle.ppm_strands.specs.Tree.{Words, Tree}
use Rattle.ppm_strands.specs.Run.{End as RunEnd, Ends as RunEnds}
use Rattle.ppm_strands.specs.ToCome.{asks_in}
use Rattle.ppm_strands.proofs.ToComeLemmas.{asks_are_counted}
use Rattle.ppm_cells.specs.Cells.{pool_at}
use Rattle.ppm_cells.specs.declared.cell.Cell.{Cell}
use Rattle.ppm_cells.specs.declared.cell.Cell.TheVariants.{RoomCounter, BlockWord}
use Rattle.ppm_cells.specs.declared.link.LinkKind.{LinkKind}
use Rattle.ppm_cells.specs.declared.link.LinkKind.TheVariants.{Root, Call as Called, Branch}
use Rattle.ppm_cells.specs.declared.restart.RestartKind.{RestartKind}
use Rattle.ppm_cells.specs.declared.restart.RestartKind.TheVariants.{Run}
use Rattle.ppm_cells.specs.declared.shape.Shape.{Shape}
use Rattle.ppm_cells.specs.declared.side.Side.TheVariants.{Left, Right}
use Rattle.ppm_strands.specs.Capsule.{Capsule, Reads, Writes, Asks, Ends}
use Rattle.ppm_strands.specs.Stopped.{Stands}
use Rattle.ppm_strands.specs.Strand.{Own, New, Shared, Frame}
use Rattle.ppm_strands.proofs.StrandLemmas.{code_is_local}
use Rattle.ppm_code.specs.Capsules.{capsule_of}
use Rattle.ppm_code.specs.Code.{room_of}
use Rattle.ppm_code.specs.Locations.{Where, code_locations}
use Rattle.ppm_code.specs.Sizes.{frame_size, slots_at}
use Rattle.ppm_code.specs.Strands.{Point, Result, instrs_of, table_of}
use Rattle.ppm_code.specs.declared.act.End.{End}
use Rattle.ppm_code.specs.declared.act.End.TheVariants.{Next, Finish, Trap, Call, Fork}
use Rattle.ppm_code.specs.declared.code.CodeParts.{CodeParts}
use Rattle.ppm_code.specs.declared.location.FrameWord.{FrameWord}
use Rattle.ppm_code.specs.declared.location.FrameWord.TheVariants.{Slot, Value}
use Rattle.ppm_step.specs.Frames.{Rest, Loads, Stores, Full, Installs, Breaks, cell_of, asks}
use Rattle.ppm_step.specs.declared.frame.Home.{Home}
use Rattle.ppm_ends.specs.Ends.{block_stores, located}
use Rattle.ppm_frames.specs.Seen.{arrays_at}
use Rattle.ppm_frames.specs.Skeletons.{Begins, InPlace, Skeleton, Leaf, header, tree_at, tree_of, Around, Top, AtCall, AtLeft, AtRight, plug, hook_at}
use Rattle.ppm_kept.specs.Running.{IsFair, IsOf, IsUnder, last_of, home_at, number_at, all_of, now, HasCome, strands}
use Rattle.ppm_kept.specs.Branches.{HasCopy}
use Rattle.ppm_kept.specs.Kept.{Setting, start, InRest, State, Doing, Does, carried, ceiling, IsKept}
use Rattle.ppm_kept.specs.Spent.{FullPoolsAreSpent}
use Rattle.ppm_kept.proofs.BlockLemmas.{header_is}
use Rattle.ppm_kept.proofs.OfLemmas.{simple_at}
use Rattle.ppm_kept.proofs.PlaceLemmas.{leaf, Runs, run_leaf}
use Rattle.ppm_kept.proofs.RunRow.{room_asked}
use Rattle.ppm_kept.proofs.SilentLemmas.{asks_first, asks_room}

-- what a part of the tree asks for is among what all does
asks_plug : (i : Setting) (m : Cell → ℕ) (a : Words) (h : LinkKind) (c : Around) (u : Skeleton)
    → asks_in (strands i.shape i.code) (tree_at m (hook_at h c) u) a ≤ asks_in (strands i.shape i.code) (tree_at m h (plug c u)) a
asks_plug i m a h Top u = omega arith
asks_plug i m a h (AtCall f n y c) u = asks_plug i m a (Called f y) c u
asks_plug i m a h (AtLeft f n y r c b) u = let e = asks_plug i m a (Branch Left r) c u in omega (arith, e)
asks_plug i m a h (AtRight f n y r b c) u = let e = asks_plug i m a (Branch Right r) c u in omega (arith, e)

-- no location of a frame is a counter
no_counter : (p : ℕ) (home : Home) (l : Where) → RoomCounter p ≡ cell_of home l → ⊥
no_counter p home (Own (Slot j)) e = cc
no_counter p home (Own Value) e = cc
no_counter p home (New o) e = cc
no_counter p home (Shared x) e = cc

-- what is left at the end of a capsule neither loads nor is full
abbrev IsLast : Rest → Type 0
IsLast (Stores c x rest) = Unit {0}
IsLast (Installs k) = Unit {0}
IsLast _ = ⊥

last_is : (s : Shape) (code : CodeParts) (home : Home) (e : End) → IsLast (last_of s code home e)
last_is s code home (Next c) = tt
last_is s code home Finish = tt
last_is s code home (Trap trap line) = tt
last_is s code home (Call q c to) = tt
last_is s code home (Fork a b c lt rt) = tt

module _ (s : Shape) (code : CodeParts) (p : ℕ) (home : Home) where
  -- a capsule is never full by itself
  not_full : (go : Capsule Where End) (rest : Rest) → IsOf s code p home go rest → rest ≡ Full → ⊥
  not_full (Reads l go) rest of e = let z = sym of.1 ∙ e in cc
  not_full (Writes l v go) rest of e = let z = sym of.2 ∙ e in cc
  not_full (Asks w go) rest of e = let z = sym of.2 ∙ e in cc
  not_full (Ends x) rest of e = subst IsLast (sym of ∙ e) (last_is s code home x)

  -- where it loads the counter it asks
  pub record AsksNow (left : Capsule Where End) (next : ℕ → Rest) : Type 0 where
    pub words : ℕ
    pub go : Capsule Where End
    pub is : left ≡ Asks words go
    pub after : Rest
    pub leads : next home.block ≡ asks (pool_at s p) s.room home.block words after
    pub of : IsOf s code p home go after

  abbrev next_in : ℕ → Rest → Rest
  next_in b (Loads c next) = next b
  next_in b rest = rest

  abbrev cell_in : Cell → Rest → Cell
  cell_in d (Loads c next) = c
  cell_in d rest = d

  asks_now : (left : Capsule Where End) (next : ℕ → Rest) → IsOf s code p home left (Loads (RoomCounter p) next) → AsksNow left next
  asks_now (Reads l go) next of = absurd (no_counter p home l (ap (cell_in (RoomCounter p)) of.1))
  asks_now (Writes l v go) next of = absurd (let z = of.2 in cc)
  asks_now (Asks w go) next of = record { words = w; go = go; is = refl; after = of.1; leads = ap (next_in home.block) of.2 ∙ of.3; of = of.4 }
  asks_now (Ends x) next of = absurd (subst IsLast (sym of) (last_is s code home x))

  -- and finds too little
  too_little : (words : ℕ) (go : Capsule Where End) (after : Rest) → IsOf s code p home go after → pool_at s p ≤ home.block
      → asks (pool_at s p) s.room home.block words after ≡ Full → pool_at s p + s.room < home.block + words
  too_little words go after of low full = by (nat_le (home.block + words) (pool_at s p + s.room)) refl
      (ap (λ (b : Bool). if b then Breaks else (if nat_le (home.block + words) (pool_at s p + s.room) then after else Full)) (sym (le-ltb home.block (pool_at s p) low)) ∙ full)
    where
      by : (b : Bool) → nat_le (home.block + words) (pool_at s p + s.room) ≡ b → (if b then after else Full) ≡ Full → pool_at s p + s.room < home.block + words
      by true e is = absurd (not_full go after of is)
      by false e is = leb-false (home.block + words) (pool_at s p + s.room) e

module _ (i : Setting) (fair : IsFair i.code) (root : Tree (Frame FrameWord Point) Result) (input : Words) (s : State) (t : Skeleton) (law : IsKept i root input s t)
    (p f y : ℕ) (ke : s.kind p ≡ Run f y) (next : ℕ → Rest) (de : s.doing p ≡ InRest (Loads (RoomCounter p) next)) (full : next (s.words (RoomCounter p)) ≡ Full) where
  abbrev m : Cell → ℕ
  m = s.words

  abbrev k : ℕ
  k = number_at i.shape i.code m f y

  low : y < 2
  low = subst HasCopy ke (law.copies p)

  come : HasCome i.shape i.code m p f y (Loads (RoomCounter p) next)
  come = subst₂ (λ (q : RestartKind) (d : Doing). Does i m p q d) ke de (law.does p)

  pool_low : start i p ≤ m (RoomCounter p)
  pool_low = subst (λ (q : RestartKind). start i p ≤ ceiling i m p q) ke (law.rooms p).0

  paid_now : m (RoomCounter p) ≤ start i p + (frame_size i.code i.code.root + law.ahead.0.block_words)
  paid_now = subst (λ (q : RestartKind). ceiling i m p q ≤ start i p + (frame_size i.code i.code.root + law.ahead.0.block_words)) ke (law.paid p)

  -- the words that its capsule asks for
  record Asked : Type 0 where
    pub words : ℕ
    pub room : room_of (instrs_of i.code k) ≡ Some words
    pub passes : pool_at i.shape p + i.shape.room < m (RoomCounter p) + words

  under : (u : IsUnder i.shape i.code m p f y (Loads (RoomCounter p) next)) → Asked
  under u =
      let home = home_at i.shape i.code m p f y in
      let one = asks_now i.shape i.code p home u.left next u.is_of in
      let stands = subst (λ (c : Capsule Where End). Stands code_locations (all_of i.shape i.code m p f y) c (now i.shape i.code m p f y)) one.is u.stands in
      let words = asks_first (λ e. located (block_stores i.code home e)) (instrs_of i.code k) (capsule_of i.shape.arrays (instrs_of i.code k)) (simple_at i.code i.shape.arrays k fair.code_is) one.words one.go (now i.shape i.code m p f y) stands in record {
        words = one.words;
        room = asks_room (λ e. located (block_stores i.code home e)) (instrs_of i.code k) (capsule_of i.shape.arrays (instrs_of i.code k)) (simple_at i.code i.shape.arrays k fair.code_is) one.words one.go words;
        passes = too_little i.shape i.code p home one.words one.go one.after one.of pool_low (sym one.leads ∙ full);
      }

  asked_is : Asked
  asked_is = elim come [
    | inl u ↦ under u
    | inr d ↦ elim d [
      | inl done ↦ absurd (let z = done.is in cc)
      | inr none ↦ absurd (cc)
    ]
  ]

  has_leaf : Runs i s t p f y
  has_leaf = run_leaf i s t p f y ke (leaf i fair root input s t law p (ap (carried m) ke))

  number_is : m (BlockWord (header f y)) ≡ k
  number_is = ap m (sym (header_is f y low))

  abbrev here : Skeleton
  here = Leaf (InPlace p) (Begins y) f (slots_at i.code (m (BlockWord (header f y))))

  to_come : asked_is.words ≤ asks_in (strands i.shape i.code) (tree_of m t) (arrays_at m)
  to_come =
      let own : asked_is.words ≤ asks_in (strands i.shape i.code) (tree_at m (hook_at Root has_leaf.around) here) (arrays_at m) =
      room_asked i.shape.arrays (instrs_of i.code (m (BlockWord (header f y)))) asked_is.words (ap (λ (x : ℕ). room_of (instrs_of i.code x)) number_is ∙ asked_is.room) _ in
      let part = asks_plug i m (arrays_at m) Root has_leaf.around here in
      let all = ap (λ (w : Skeleton). asks_in (strands i.shape i.code) (tree_of m w) (arrays_at m)) has_leaf.is in omega (arith, own, part, all)

  pub spent : (end : RunEnd Result) → RunEnds (strands i.shape i.code) root input end → i.shape.room < frame_size i.code i.code.root + end.counts.block_words
  spent end ends =
      let left = (law.ahead.1.ends end).0 ends in
      let counts : end.counts.block_words ≡ law.ahead.0.block_words + left.0.counts.block_words = ap (λ (e : RunEnd Result). e.counts.block_words) left.2 in
      let rest = asks_are_counted (strands i.shape i.code) (code_is_local code_locations (table_of i.code i.shape.arrays)) (tree_of m t) (arrays_at m) left.0 law.ahead.1.calm left.1 in
      let passes = asked_is.passes in
      let come = to_come in
      let paid = paid_now in omega (arith, counts, rest, passes, come, paid)

pub full_pools_are_spent : FullPoolsAreSpent
full_pools_are_spent i fair root input s t law p f y ke next de full end ends = spent i fair root input s t law p f y ke next de full end ends
