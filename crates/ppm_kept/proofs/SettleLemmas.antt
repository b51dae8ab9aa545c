-- A place that another followed gives up its pool: free words that a capsule left there become 0, and
-- what it did of its own frame stands for whoever begins that capsule again, in a block of its own.
use Rattle.std.proofs.Common.{◌≡◌, ◌≢◌, ◌⊎◌, ◌≤◌, ◌<◌, ℕ, zero, suc, ◌+◌, ◌-◌, List, inl, inr, refl, sym, ap, ap₂, ◌∙◌, subst, arith}
use Rattle.std.proofs.Math.Path.{fun_ext}
use Rattle.std.proofs.lemmas.Bool.{cases_eq}
use Rattle.ppm_strands.specs.Tree.{Words, Tree}
use Rattle.ppm_cells.specs.declared.cell.Cell.{Cell}
use Rattle.ppm_cells.specs.declared.cell.Cell.TheVariants.{FinishWord, RoomCounter, BlockWord, ArrayWord}
use Rattle.ppm_cells.specs.declared.link.LinkKind.{LinkKind}
use Rattle.ppm_cells.specs.declared.link.LinkKind.TheVariants.{Root}
use Rattle.ppm_cells.specs.declared.restart.RestartKind.{RestartKind}
use Rattle.ppm_cells.specs.declared.restart.RestartKind.TheVariants.{Run}
use Rattle.ppm_cells.specs.declared.shape.Shape.{Shape}
use Rattle.ppm_strands.specs.Capsule.{Capsule, Memory, In, ending, written, exposed}
use Rattle.ppm_strands.specs.Strand.{Own, New, Shared, Frame}
use Rattle.ppm_strands.proofs.AlikeLemmas.{alike}
use Rattle.ppm_strands.proofs.EndStoresLemmas.{does_then_stores}
use Rattle.ppm_code.specs.Capsules.{capsule_of}
use Rattle.ppm_code.specs.Locations.{Where, code_locations}
use Rattle.ppm_code.specs.Sizes.{slots_at}
use Rattle.ppm_code.specs.Strands.{Point, Result, instrs_of}
use Rattle.ppm_code.specs.declared.act.End.{End}
use Rattle.ppm_code.specs.declared.code.CodeParts.{CodeParts}
use Rattle.ppm_code.specs.declared.location.FrameWord.{FrameWord}
use Rattle.ppm_ends.specs.Ends.{block_stores, located}
use Rattle.ppm_frames.specs.Seen.{seen}
use Rattle.ppm_frames.specs.Views.{written as write}
use Rattle.ppm_frames.specs.Skeletons.{Begins, InPlace, Skeleton, Leaf, header, count, at, Around, plug, hook_at}
use Rattle.ppm_frames.specs.Good.{Framed, Match}
use Rattle.ppm_frames.specs.Laws.{Same}
use Rattle.ppm_frames.proofs.WriteLemmas.{write_here, write_else, pool_apart}
use Rattle.ppm_frames.proofs.SkeletonLemmas.{SameFrame, same_frame, own_same, tree_same}
use Rattle.ppm_frames.proofs.SwapLemmas.{swap_same, good_same}
use Rattle.ppm_kept.specs.Running.{asked_of, IsFair, home_at, number_at, closed, now, all_of, limit, IsClean, outcome_by}
use Rattle.ppm_kept.specs.Branches.{HasCopy}
use Rattle.ppm_kept.specs.Kept.{Setting, end_of, Resting, State, carried, ceiling, Free, IsKept}
use Rattle.ppm_kept.proofs.BlockLemmas.{header_is}
use Rattle.ppm_kept.proofs.BranchLemmas.{same_part}
use Rattle.ppm_kept.proofs.BuildLemmas.{Turn, build}
use Rattle.ppm_kept.proofs.EndingLemmas.{not_ended}
use Rattle.ppm_kept.proofs.OtherLemmas.{others_keep}
use Rattle.ppm_kept.proofs.PlaceLemmas.{Runs, leaf, run_leaf, mine_around, not_free, is_at_own, is_at_other}
use Rattle.ppm_kept.proofs.RunLemmas.{again}

-- A capsule comes to the same end in another place's pool, where its frame and the arrays are the same: it
-- reads no word of its block that it has not written.
module _ (s : Shape) (code : CodeParts) (fair : IsFair code) (m n : Cell → ℕ) (f y : ℕ) (low : y < 2) (frame : SameFrame m n f (slots_at code (number_at s code m f y))) (element : (x : ℕ) → n (ArrayWord x) ≡ m (ArrayWord x)) where
  abbrev number : ℕ
  number = number_at s code m f y

  abbrev base : Capsule Where End
  base = capsule_of s.arrays (instrs_of code number)

  -- with the numbers written out
  abbrev seen_so : (p : ℕ) → Memory Where
  seen_so p = seen n f (slots_at code number) (n (RoomCounter p)) (asked_of code number)

  abbrev all_so : (p : ℕ) → Capsule Where End
  all_so p = closed s code (home_at s code n p f y) number

  number_then : number_at s code n f y ≡ number
  number_then = subst (λ (c : Cell). n c ≡ m c) (sym (header_is f y low)) (frame.header y)

  now_is : (p : ℕ) → now s code n p f y ≡ seen_so p
  now_is p = ap (λ (c : ℕ). seen n f (slots_at code c) (n (RoomCounter p)) (asked_of code c)) number_then

  all_is : (p : ℕ) → all_of s code n p f y ≡ all_so p
  all_is p = ap (closed s code (home_at s code n p f y)) number_then

  abbrev tails : (w : Cell → ℕ) → (q : ℕ) → End → List (Where × ℕ)
  tails w q e = located (block_stores code (home_at s code w q f y) e)

  own_word : (v p : ℕ) (w : FrameWord) → seen_so p (Own w) ≡ now s code m v f y (Own w)
  own_word v p w = ap (λ (g : FrameWord → ℕ). g w) (own_same m n f (slots_at code number) frame)

  read_same : (v p : ℕ) (x : Where) → In x (exposed code_locations (all_of s code m v f y) (now s code m v f y)) → seen_so p x ≡ now s code m v f y x
  read_same v p (Own w) h = own_word v p w
  read_same v p (New o) h = absurd ((again s code fair m v f y (now s code m v f y)).unread o h)
  read_same v p (Shared x) h = element x

  same_ending : (v p : ℕ) → ending code_locations (all_of s code n p f y) (now s code n p f y) ≡ ending code_locations (all_of s code m v f y) (now s code m v f y)
  same_ending v p = ap₂ (λ (c : Capsule Where End) (g : Memory Where). ending code_locations c g) (all_is p) (now_is p)
      ∙ (does_then_stores code_locations (tails n p) base (seen_so p)).ends
      ∙ (alike code_locations base (now s code m v f y) (seen_so p)
      (λ x h. read_same v p x (subst (λ (ls : List Where). In x ls) (sym (does_then_stores code_locations (tails m v) base (now s code m v f y)).reads) h))).ends
      ∙ sym (does_then_stores code_locations (tails m v) base (now s code m v f y)).ends

  -- in its own pool it writes the same
  same_written : (v : ℕ) → n (RoomCounter v) ≡ m (RoomCounter v) → written code_locations (all_of s code n v f y) (now s code n v f y) ≡ written code_locations (all_of s code m v f y) (now s code m v f y)
  same_written v room = ap₂ (λ (c : Capsule Where End) (g : Memory Where). written code_locations c g)
      (all_is v ∙ ap (λ (r : ℕ). closed s code (record { frame = f; copy = y; block = r }) number) room) (now_is v)
      ∙ (alike code_locations (all_of s code m v f y) (now s code m v f y) (seen_so v) (read_same v v)).writes

-- clean words are so in a pool of which nothing was stored
pub clean_moves : (s : Shape) (code : CodeParts) → IsFair code → (m : Cell → ℕ) (v p f y : ℕ) → y < 2
    → ((o : ℕ) → m (RoomCounter p) + o < limit s code p → m (BlockWord (m (RoomCounter p) + o)) ≡ 0) → IsClean s code m v f y → IsClean s code m p f y
clean_moves s code fair m v p f y low blank clean = record {
  block = λ o lt out. blank o lt;
  outcome = elim clean.outcome [ inl e ↦ inl e | inr e ↦ inr (e ∙ ap outcome_by (sym (same_ending s code fair m m f y low same (λ x. refl) v p))) ];
}
  where
    same : SameFrame m m f (slots_at code (number_at s code m f y))
    same = record { header = λ y. refl; link = refl; outcome = refl; value = refl; target = refl; slots = λ j lt. refl }

-- a free word of a place that begins a capsule is 0 again
module _ (i : Setting) (fair : IsFair i.code) (root : Tree (Frame FrameWord Point) Result) (input : Words) (s : State) (t : Skeleton) (law : IsKept i root input s t) (v : ℕ) (there : v < i.shape.processors)
    (f y : ℕ) (kv : s.kind v ≡ Run f y) (rests : s.doing v ≡ Resting) (x : ℕ) (low : s.words (RoomCounter v) ≤ x) (high : x < end_of i v) where
  abbrev m : Cell → ℕ
  m = s.words

  abbrev m' : Cell → ℕ
  m' = write m (BlockWord x) 0

  abbrev stage : State
  stage = record { words = m'; kind = s.kind; doing = s.doing }

  copy : y < 2
  copy = subst HasCopy kv (law.copies v)

  abbrev k : ℕ
  k = number_at i.shape i.code m f y

  abbrev n : ℕ
  n = slots_at i.code k

  has_leaf : Runs i s t v f y
  has_leaf = run_leaf i s t v f y kv (leaf i fair root input s t law v (ap (carried m) kv))

  abbrev c : Around
  c = has_leaf.around

  abbrev h : LinkKind
  h = hook_at Root c

  abbrev u : Skeleton
  u = Leaf (InPlace v) (Begins y) f n

  number_is : m (BlockWord (header f y)) ≡ k
  number_is = ap m (sym (header_is f y copy))

  is : t ≡ plug c u
  is = has_leaf.is ∙ ap (λ (q : ℕ). plug c (Leaf (InPlace v) (Begins y) f (slots_at i.code q))) number_is

  framed : Framed i.code m h f n
  framed = subst (λ (q : ℕ). Framed i.code m h f (slots_at i.code q)) number_is has_leaf.framed

  one_here : 1 ≤ at v u
  one_here = let a = is_at_own v in omega (arith, a)

  roof : ceiling i m v (s.kind v) ≡ m (RoomCounter v)
  roof = ap (ceiling i m v) kv

  clean : IsClean i.shape i.code m v f y
  clean = subst (Free i m v) kv (law.free v)

  own_pool : (ceiling i m v (s.kind v) ≤ x) × (x < end_of i v)
  own_pool = (omega (arith, roof, low), high)

  -- it is no word of the part
  not_own : (a : ℕ) → (count h u a ≡ 0 → ⊥) → a ≢ x
  not_own a some e = not_free i fair root input s t law v c u a (x - m (RoomCounter v)) is (omega (arith, some)) (omega (arith, e, roof, low)) (subst (λ (b : ℕ). b < end_of i v) (sym e) high)

  part : Same (count h u) m m'
  part a some = write_else m (BlockWord x) 0 (BlockWord a) (pool_apart a x (not_own a some))

  room : m' (RoomCounter v) ≡ m (RoomCounter v)
  room = write_else m (BlockWord x) 0 (RoomCounter v) (λ e. cc)

  arrays : (a : ℕ) → m' (ArrayWord a) ≡ m (ArrayWord a)
  arrays a = write_else m (BlockWord x) 0 (ArrayWord a) (λ e. cc)

  frame : SameFrame m m' f n
  frame = same_frame m m' (count h u) f n (λ a. omega arith) part

  writes : written code_locations (all_of i.shape i.code m' v f y) (now i.shape i.code m' v f y) ≡ written code_locations (all_of i.shape i.code m v f y) (now i.shape i.code m v f y)
  writes = same_written i.shape i.code fair m m' f y copy frame arrays v room

  ends : ending code_locations (all_of i.shape i.code m' v f y) (now i.shape i.code m' v f y) ≡ ending code_locations (all_of i.shape i.code m v f y) (now i.shape i.code m v f y)
  ends = same_ending i.shape i.code fair m m' f y copy frame arrays v v

  still_blank : (o : ℕ) → m (RoomCounter v) + o < limit i.shape i.code v → (In (New o) (written code_locations (all_of i.shape i.code m v f y) (now i.shape i.code m v f y)) → ⊥) → m' (BlockWord (m (RoomCounter v) + o)) ≡ 0
  still_blank o lt out = elim (cases_eq (m (RoomCounter v) + o) x) [
    | inl e ↦ ap (λ (b : ℕ). m' (BlockWord b)) e ∙ write_here m (BlockWord x) 0
    | inr ne ↦ write_else m (BlockWord x) 0 (BlockWord (m (RoomCounter v) + o)) (pool_apart (m (RoomCounter v) + o) x ne) ∙ clean.block o lt out
  ]

  clean_then : IsClean i.shape i.code m' v f y
  clean_then = record {
    block = λ o lt out. ap (λ (b : ℕ). m' (BlockWord (b + o))) room
        ∙ still_blank o (subst (λ (b : ℕ). b + o < limit i.shape i.code v) room lt) (λ h. out (subst (λ (ls : List Where). In (New o) ls) (sym writes) h));
    outcome = elim clean.outcome [ inl e ↦ inl (frame.outcome ∙ e) | inr e ↦ inr (frame.outcome ∙ e ∙ ap outcome_by (sym ends)) ];
  }

  turn : Turn i s t v stage c u u (Run f y) Resting
  turn = record {
    is = is;
    alone = has_leaf.alone;
    there = there;
    kind = kv;
    kinds = λ q ne. refl;
    doing = rests;
    doings = λ q ne. refl;
    around = mine_around i fair root input s t law v c u (BlockWord x) 0 is (inr own_pool);
    step = inr (tree_same m m' h u part, fun_ext arrays);
    swap = swap_same m m' h u part;
    good = good_same m m' i.code s.kind s.kind h u part (λ q ne. refl) (framed, ap (slots_at i.code) number_is, subst (λ (q : RestartKind). Match i.code m q h (Begins y) f) (sym kv) (refl, refl));
    adds = λ a. inl (omega arith, omega arith);
    grows = omega (arith, roof, room);
    pays = omega (arith, roof, room);
    bound = let a = (law.rooms v).1 in omega (arith, a, roof, room);
    places = is_at_own v;
    placed = λ q ne. refl;
    free = clean_then;
    does = tt;
    orders = tt;
    others = others_keep i fair root input s t law v c u (BlockWord x) 0 is has_leaf.alone (λ q ne. is_at_other v q ne) one_here (inl (inr own_pool));
    unrun = same_part copy tt refl;
    finishes = not_ended m m' t c u u is (write_else m (BlockWord x) 0 FinishWord (λ e. cc)) refl;
  }

  pub word_settled : IsKept i root input stage t
  word_settled = subst (IsKept i root input stage) (sym is) (build i fair root input s t law v stage c u u (Run f y) Resting turn)

-- so many words from c on are 0
abbrev pub zeros : (Cell → ℕ) → (c j : ℕ) → Cell → ℕ
zeros m c zero = m
zeros m c (suc j) = write (zeros m c j) (BlockWord (c + j)) 0

pub zero_else : (m : Cell → ℕ) (c j : ℕ) (cell : Cell) → ((x : ℕ) → BlockWord x ≢ cell) → zeros m c j cell ≡ m cell
zero_else m c zero cell ne = refl
zero_else m c (suc j) cell ne = write_else (zeros m c j) (BlockWord (c + j)) 0 cell (λ e. ne (c + j) (sym e)) ∙ zero_else m c j cell ne

pub zero_out : (m : Cell → ℕ) (c j x : ℕ) → (x < c) ⊎ (c + j ≤ x) → zeros m c j (BlockWord x) ≡ m (BlockWord x)
zero_out m c zero x out = refl
zero_out m c (suc j) x out =
    let ne : x ≢ c + j = λ e. elim out [ inl a ↦ omega (arith, e, a) | inr a ↦ omega (arith, e, a) ] in
    let less : (x < c) ⊎ (c + j ≤ x) = elim out [ inl a ↦ inl a | inr a ↦ inr (omega (arith, a)) ] in
    write_else (zeros m c j) (BlockWord (c + j)) 0 (BlockWord x) (pool_apart x (c + j) ne) ∙ zero_out m c j x less

pub zero_in : (m : Cell → ℕ) (c j x : ℕ) → c ≤ x → x < c + j → zeros m c j (BlockWord x) ≡ 0
zero_in m c zero x low high = absurd (omega (arith, low, high))
zero_in m c (suc j) x low high = elim (cases_eq x (c + j)) [
  | inl e ↦ ap (λ (b : ℕ). write (zeros m c j) (BlockWord (c + j)) 0 (BlockWord b)) e ∙ write_here (zeros m c j) (BlockWord (c + j)) 0
  | inr ne ↦ write_else (zeros m c j) (BlockWord (c + j)) 0 (BlockWord x) (pool_apart x (c + j) ne) ∙ zero_in m c j x low (omega (arith, high, ne))
]

-- and all of them, to the end of the pool
module _ (i : Setting) (fair : IsFair i.code) (root : Tree (Frame FrameWord Point) Result) (input : Words) (s : State) (t : Skeleton) (law : IsKept i root input s t) (v : ℕ) (there : v < i.shape.processors)
    (f y : ℕ) (kv : s.kind v ≡ Run f y) (rests : s.doing v ≡ Resting) where
  pub words_settled : (j : ℕ) → s.words (RoomCounter v) + j ≤ end_of i v → IsKept i root input (record { words = zeros s.words (s.words (RoomCounter v)) j; kind = s.kind; doing = s.doing }) t
  words_settled zero le = law
  words_settled (suc j) le =
      let before : State = record { words = zeros s.words (s.words (RoomCounter v)) j; kind = s.kind; doing = s.doing } in
      let room : zeros s.words (s.words (RoomCounter v)) j (RoomCounter v) ≡ s.words (RoomCounter v) = zero_else s.words (s.words (RoomCounter v)) j (RoomCounter v) (λ x e. cc) in
      word_settled i fair root input before t (words_settled j (omega (arith, le))) v there f y kv rests (s.words (RoomCounter v) + j) (omega (arith, room)) (omega (arith, le))
