-- The steps of a place in a row of kind Run keep the invariant.
use Rattle.std.proofs.Common.{◌≡◌, ◌≢◌, ◌⊎◌, ◌≤◌, ◌<◌, ℕ, ◌+◌, ◌^◌, ◌==◌, leb, ltb, List, [], ◌∷◌, Bool, true, false, inl, inr, refl, sym, ap, ap₂, ◌∙◌, subst, subst₂, arith, Option, Some, None}
use Rattle.std.specs.Prelude.{slice_get, IfSome}
use Rattle.std.specs.Prelude.{cond}
use Rattle.std.proofs.Math.Path.{fun_ext}
use Rattle.std.proofs.lemmas.Bool.{eqb-true, cases_eq, cases_lt, cond-true, cond-false, le-leb, lt-leb, lt-ltb, le-ltb}
use Rattle.ppm_strands.specs.Tree.{Words, Tree, Strand, Has, forks_in}
use Rattle.ppm_strands.specs.Run.{Counts, none, of_capsule}
use Rattle.ppm_strands.specs.Ahead.{Step}
use Rattle.ppm_cells.specs.declared.cell.Cell.{Cell}
use Rattle.ppm_cells.specs.declared.cell.Cell.TheVariants.{FinishWord, RoomCounter, BlockWord, ArrayWord}
use Rattle.ppm_cells.specs.Cells.{pool_at}
use Rattle.ppm_cells.specs.Finish.{finish_word, finish_of, IsOutcome}
use Rattle.ppm_cells.specs.declared.finish.Finish.{Finish as Finishing}
use Rattle.ppm_cells.specs.declared.finish.Finish.TheVariants.{OutOfRoom}
use Rattle.ppm_cells.specs.declared.link.Link.{Link}
use Rattle.ppm_cells.specs.declared.link.LinkKind.{LinkKind}
use Rattle.ppm_cells.specs.declared.link.LinkKind.TheVariants.{Root, Call as Called, Branch}
use Rattle.ppm_cells.specs.declared.restart.RestartKind.{RestartKind}
use Rattle.ppm_cells.specs.declared.restart.RestartKind.TheVariants.{Run, Bump, Unwind}
use Rattle.ppm_cells.specs.declared.side.Side.TheVariants.{Left}
use Rattle.ppm_strands.specs.Capsule.{Capsule, Ends, Memory, In, ending, written, asked}
use Rattle.ppm_strands.specs.Stopped.{Stands}
use Rattle.ppm_strands.specs.Strand.{Own, New, Shared, Frame}
use Rattle.ppm_code.specs.Capsules.{capsule_of}
use Rattle.ppm_code.specs.Code.{EndFits, room_of}
use Rattle.ppm_code.specs.declared.instr.Instr.{Instr}
use Rattle.ppm_code.specs.declared.instr.Instr.TheVariants.{Room}
use Rattle.ppm_code.specs.Locations.{Where, code_locations}
use Rattle.ppm_code.specs.Sizes.{slot_at, value_at, slots_of, right_at, procedure_at, slots_at}
use Rattle.ppm_code.specs.Strands.{Point, Result, at_capsule, instrs_in, instrs_of, opens}
use Rattle.ppm_code.specs.Tidy.{Builds}
use Rattle.ppm_code.specs.declared.act.End.{End}
use Rattle.ppm_code.specs.declared.act.End.TheVariants.{Next, Finish, Trap, Call, Fork}
use Rattle.ppm_code.specs.declared.code.Capsule.{Capsule as CodeCapsule}
use Rattle.ppm_code.specs.declared.location.FrameWord.{FrameWord}
use Rattle.ppm_code.specs.declared.location.FrameWord.TheVariants.{Slot, Value}
use Rattle.ppm_code.proofs.CodeLemmas.{procedure_is}
use Rattle.ppm_step.specs.Contents.{word_of}
use Rattle.ppm_step.specs.Frames.{Rest, Loads, Stores, Installs, installed, other_copy, target_of, rest_of}
use Rattle.ppm_step.specs.Points.{header_word}
use Rattle.ppm_step.specs.Standings.{Standing, IsWithin, running_if, running, rest_is_there, enters}
use Rattle.ppm_step.specs.declared.content.Content.{Content}
use Rattle.ppm_step.specs.declared.row.Point.TheVariants.{Header}
use Rattle.ppm_step.specs.declared.row.Row.TheVariants.{Now}
use Rattle.ppm_step.specs.declared.row.Seat.{Seat}
use Rattle.ppm_step.specs.declared.row.Then.TheVariants.{Load}
use Rattle.ppm_ends.specs.Ends.{block_stores, own_stores}
use Rattle.ppm_ends.proofs.TailLemmas.{AreElsewhere}
use Rattle.ppm_frames.specs.Views.{written as write}
use Rattle.ppm_frames.specs.Seen.{own_at, arrays_at, seen}
use Rattle.ppm_frames.specs.Skeletons.{Begins, Over, InPlace, Fresh, Skeleton, Leaf, Calling, Forking, header, grow, top, tree_at, inside, count, plain, at, Around, plug, hook_at, rim}
use Rattle.ppm_frames.specs.Good.{ended, link_at, mark, IsPlain, Framed, Match, Good}
use Rattle.ppm_frames.specs.Laws.{Same}
use Rattle.ppm_frames.proofs.WriteLemmas.{write_here, write_else, address}
use Rattle.ppm_frames.proofs.SeenLemmas.{choice}
use Rattle.ppm_frames.proofs.SkeletonLemmas.{inside_from, inside_one, inside_at, count_plug, grow_plug, tree_same}
use Rattle.ppm_kept.specs.Running.{room_or, asked_of, AllStand, outcome_by, IsFair, home_at, number_at, closed, now, all_of, limit, HasRoom, HasCome, IsClean, frame_of, strands, LiesApart, GoesOn}
use Rattle.ppm_kept.specs.Branches.{Untaken, Unpushed, is_taker, HasCopy}
use Rattle.ppm_kept.specs.Kept.{Setting, AllowsAll, end_of, owner, NoOutcome, Doing, Resting, InRest, State, put, Blank, ceiling, Free, Does, Ordered, carried, IsKept}
use Rattle.ppm_kept.specs.Moves.{doing_of, goes, stores, installs, fills, opened, by_install}
use Rattle.ppm_kept.specs.Laws.{RunKeeps}
use Rattle.ppm_kept.specs.Counting.{is_fork, forks_with}
use Rattle.ppm_kept.specs.Others.{Mine, Keeps}
use Rattle.ppm_kept.proofs.PutLemmas.{put_here, put_else}
use Rattle.ppm_kept.proofs.OwnerLemmas.{pool_low}
use Rattle.ppm_kept.proofs.EndingLemmas.{not_ended}
use Rattle.ppm_kept.proofs.OfLemmas.{begins}
use Rattle.ppm_kept.proofs.RunLemmas.{by_loads, by_stores, by_installs}
use Rattle.ppm_kept.proofs.BlockLemmas as blocks
use Rattle.ppm_kept.proofs.BlockLemmas.{header_is}
use Rattle.ppm_kept.proofs.UntakenLemmas.{opens as opens_block}
use Rattle.ppm_kept.proofs.ForkedLemmas.{forks_told}
use Rattle.ppm_kept.proofs.BranchLemmas.{same_part, barren}
use Rattle.ppm_kept.proofs.BuildLemmas.{Turn, allows_none, build, built}
use Rattle.ppm_kept.proofs.PlaceLemmas.{leaf, going, kept_same, not_free, mine_around, Runs, run_leaf, is_at_own, is_at_other}

pub inside_split : (f a b x : ℕ) → inside f (a + b) x ≡ inside f a x + inside (f + a) b x
inside_split f a b x = elim (cases_lt x f) [
  | inl lt ↦ let u = out f (a + b) x (inl lt) in let v = out f a x (inl lt) in let w = out (f + a) b x (inl (omega (arith, lt))) in omega (arith, u, v, w)
  | inr le ↦ elim (cases_lt x (f + a)) [
    | inl lt ↦ let u = within f (a + b) x le (omega (arith, lt)) in let v = within f a x le lt in let w = out (f + a) b x (inl lt) in omega (arith, u, v, w)
    | inr ge ↦ let v = out f a x (inr ge) in elim (cases_lt x (f + a + b)) [
      | inl lt ↦ let u = within f (a + b) x le (omega (arith, lt)) in let w = within (f + a) b x ge lt in omega (arith, u, v, w)
      | inr above ↦ let u = out f (a + b) x (inr (omega (arith, above))) in let w = out (f + a) b x (inr above) in omega (arith, u, v, w)
    ]
  ]
]
  where
    within : (f n x : ℕ) → f ≤ x → x < f + n → inside f n x ≡ 1
    within f n x le lt = cond-true (leb f x) _ _ (le-leb f x le) ∙ cond-true (ltb x (f + n)) _ _ (lt-ltb x (f + n) lt)

    out : (f n x : ℕ) → (x < f) ⊎ (f + n ≤ x) → inside f n x ≡ 0
    out f n x (inl lt) = cond-false (leb f x) _ _ (lt-leb f x lt)
    out f n x (inr ge) = elim (cases_lt x f) [
      | inl lt ↦ cond-false (leb f x) _ _ (lt-leb f x lt)
      | inr le ↦ cond-true (leb f x) _ _ (le-leb f x le) ∙ cond-false (ltb x (f + n)) _ _ (le-ltb x (f + n) ge)
    ]

pub split_at : (f a b c g x : ℕ) → c ≡ a + b → g ≡ f + a → inside f c x ≡ inside f a x + inside g b x
split_at f a b c g x ce ge = ap (λ (z : ℕ). inside f z x) ce ∙ inside_split f a b x ∙ ap (λ (z : ℕ). inside f a x + inside z b x) (sym ge)

-- a capsule that begins by asking for room asks for so much
pub room_asked : (words : ℕ) (is : List Instr) (w : ℕ) → room_of is ≡ Some w → (n : Memory Where) → w ≤ asked code_locations (capsule_of words is) n
room_asked words [] w e n = absurd (cc)
room_asked words (Room x ∷ is) w e n = let same : x ≡ w = cc in omega (arith, same)
room_asked words (i ∷ is) w e n = absurd (cc)

module _ (i : Setting) (fair : IsFair i.code) (root : Tree (Frame FrameWord Point) Result) (input : Words) (s : State) (t : Skeleton) (law : IsKept i root input s t) (p : ℕ)
    (there : p < i.shape.processors) (keeps : Keeps i s t p) (f y : ℕ) (low : y < 2) (ke : s.kind p ≡ Run f y) where
  abbrev m : Cell → ℕ
  m = s.words

  abbrev k : ℕ
  k = number_at i.shape i.code m f y

  abbrev n : ℕ
  n = slots_at i.code k

  abbrev r : ℕ
  r = m (RoomCounter p)

  abbrev Law : State → Skeleton → Type 0
  Law z w = IsKept i root input z w

  abbrev Come : Rest → Type 0
  Come rest = HasCome i.shape i.code m p f y rest

  number_is : m (BlockWord (header f y)) ≡ k
  number_is = ap m (sym (header_is f y low))

  has_leaf : Runs i s t p f y
  has_leaf = run_leaf i s t p f y ke (leaf i fair root input s t law p (ap (carried m) ke))

  abbrev c : Around
  c = has_leaf.around

  abbrev h : LinkKind
  h = hook_at Root c

  abbrev u : Skeleton
  u = Leaf (InPlace p) (Begins y) f n

  is : t ≡ plug c u
  is = has_leaf.is ∙ ap (λ (z : ℕ). plug c (Leaf (InPlace p) (Begins y) f (slots_at i.code z))) number_is

  framed : Framed i.code m h f n
  framed = subst (λ (z : ℕ). Framed i.code m h f (slots_at i.code z)) number_is has_leaf.framed

  only : (q : ℕ) → q ≢ p → at q u ≡ 0
  only q ne = is_at_other p q ne

  one_here : 1 ≤ at p u
  one_here = let a = is_at_own p in omega (arith, a)

  roof : ceiling i m p (s.kind p) ≡ r
  roof = ap (ceiling i m p) ke

  clean : IsClean i.shape i.code m p f y
  clean = subst (Free i m p) ke (law.free p)

  room_low : r ≤ end_of i p
  room_low = let a = (law.rooms p).1 in let b = roof in omega (arith, a, b)

  in_leaf : (j : ℕ) → j < 6 + n → 1 ≤ count h u (f + j)
  in_leaf j lt = let a = inside_at f (6 + n) (f + j) j refl lt in omega (arith, a)

  pub counted_leaf : (j : ℕ) → j < 6 + n → count Root t (f + j) ≡ 0 → ⊥
  counted_leaf j lt q = let sum = ap (λ (w : Skeleton). count Root w (f + j)) is ∙ count_plug Root c u (f + j) in let one = in_leaf j lt in omega (arith, q, sum, one)

  pub room_least : pool_at i.shape p ≤ r
  room_least = let a = (law.rooms p).0 in let b = roof in omega (arith, a, b)

  apart : LiesApart i.shape i.code m p f y
  apart j o lt room e = not_free i fair root input s t law p c u (f + j) o is (in_leaf j lt) (let a = roof in omega (arith, e, a)) (omega (arith, e, room))

  -- where the place stands
  abbrev seat : (own bottom : ℕ) → Seat
  seat o b = record { own = o; place = p; restart = record { kind = Run f y; bottom = b } }

  came : (sits : Seat) (rest : Rest) (z : Cell → ℕ) → HasCome i.shape i.code z p f y rest → Does i z p (Run f y) (doing_of (running i.shape sits rest))
  came sits rest z come = by (rest_is_there i.shape sits rest)
    where
      by : (b : Bool) → Does i z p (Run f y) (doing_of (running_if sits rest b))
      by true = come
      by false = tt

  stays_put : (standing : Standing) → Does i m p (Run f y) (doing_of standing) → Law (goes s p standing) t
  stays_put standing does = going i fair root input s t law p (ap is_taker ke) (doing_of standing) (subst (λ (x : RestartKind). Does i m p x (doing_of standing)) (sym ke) does)

  -- the row begins, and enters the capsule that its header names
  pub row_begins : (own bottom : ℕ) → Law (goes s p (IsWithin (seat own bottom) (Now (Load (Header f y))))) t
  row_begins own bottom = stays_put (IsWithin (seat own bottom) (Now (Load (Header f y)))) refl

  pub row_enters : (own bottom : ℕ) → Law (goes s p (enters i.shape i.code (seat own bottom) (Run f y) (slice_get i.code.capsules k))) t
  row_enters own bottom = stays_put (enters i.shape i.code (seat own bottom) (Run f y) (slice_get i.code.capsules k)) (by (slice_get i.code.capsules k) refl)
    where
      by : (o : Option CodeCapsule) → slice_get i.code.capsules k ≡ o → Does i m p (Run f y) (doing_of (enters i.shape i.code (seat own bottom) (Run f y) o))
      by None e = tt
      by (Some one) e = came (seat own bottom) (rest_of i.shape i.code p (record { frame = f; copy = y; block = 0 }) (capsule_of i.shape.arrays one.instrs)) m
          (subst (λ (o : Option CodeCapsule). HasCome i.shape i.code m p f y (rest_of i.shape i.code p (record { frame = f; copy = y; block = 0 }) (capsule_of i.shape.arrays (instrs_in o)))) e
          (inl (begins i.shape i.code m p f y fair.code_is room_low)))

  -- a load
  pub rest_loads : (sits : Seat) (cell : Cell) (next : ℕ → Rest) → Come (Loads cell next) → Law (goes s p (running i.shape sits (next (m cell)))) t
  rest_loads sits cell next come = stays_put (running i.shape sits (next (m cell)))
      (came sits (next (m cell)) m (by_loads i.shape i.code fair m p f y cell next come (let a = (law.rooms p).0 in let b = roof in omega (arith, a, b))))

  -- a store
  module _ (sits : Seat) (cell : Cell) (content : Content) (next : Rest) (come : Come (Stores cell content next)) where
    abbrev w : ℕ
    w = word_of content

    abbrev m' : Cell → ℕ
    m' = write m cell w

    abbrev stage : State
    stage = stores s p cell w (running i.shape sits next)

    got : GoesOn i.shape i.code m p f y cell content next
    got = by_stores i.shape i.code fair m p f y low apart cell content next come

    mine : Mine i s p h u cell
    mine = elim got.spot [
      | inl a ↦ subst (Mine i s p h u) (sym a.1) (inl (in_leaf a.0 a.2))
      | inr b ↦ elim b [
        | inl a ↦ subst (Mine i s p h u) (sym a.1) (inr (let d = roof in omega (arith, d), a.2))
        | inr a ↦ subst (Mine i s p h u) (sym a.1)
            (subst (λ (z : ℕ). Has a.0 ((strands i.shape i.code).writes (record { own = own_at m f n; point = at_capsule z }) (arrays_at m))) (sym number_is) a.2)
      ]
    ]

    stays : (j : ℕ) → j < 6 + n → ((d : ℕ) → 1 ≤ d → d ≢ 5 → d ≢ 2 + y → j ≢ d) → m' (BlockWord (f + j)) ≡ m (BlockWord (f + j))
    stays j lt ne = write_else m cell w (BlockWord (f + j)) (λ e. elim got.spot [
      | inl a ↦ ne a.0 a.3 a.4 a.5 (let z = ap address (e ∙ a.1) in omega (arith, z))
      | inr b ↦ elim b [
        | inl a ↦ apart j a.0 lt a.2 (ap address (e ∙ a.1))
        | inr a ↦ let z = e ∙ a.1 in cc
      ]
    ])

    number_stays : m' (header_word f y) ≡ k
    number_stays = subst (λ (x : ℕ). m' (BlockWord x) ≡ m (BlockWord x)) {x = f + (2 + y)} (omega arith) (stays (2 + y) (omega (arith, low)) (λ d one five other e. other (sym e)))

    header_stays : m' (BlockWord (header f y)) ≡ k
    header_stays = ap m' (sym (header_is f y low)) ∙ number_stays

    room_stays : m' (RoomCounter p) ≡ r
    room_stays = write_else m cell w (RoomCounter p) (λ e. elim got.spot [
      | inl a ↦ let z = e ∙ a.1 in cc
      | inr b ↦ elim b [ inl a ↦ let z = e ∙ a.1 in cc | inr a ↦ let z = e ∙ a.1 in cc ]
    ])

    finish_stays : m' FinishWord ≡ m FinishWord
    finish_stays = write_else m cell w FinishWord (λ e. elim got.spot [
      | inl a ↦ let z = e ∙ a.1 in cc
      | inr b ↦ elim b [ inl a ↦ let z = e ∙ a.1 in cc | inr a ↦ let z = e ∙ a.1 in cc ]
    ])

    around : Same (rim Root c) m m'
    around = mine_around i fair root input s t law p c u cell w is mine

    abbrev frame : (own : FrameWord → ℕ) (number : ℕ) → Frame FrameWord Point
    frame own number = record { own = own; point = at_capsule number }

    steps : Step (strands i.shape i.code) none (tree_at m h u) (arrays_at m) (tree_at m' h u) (arrays_at m')
    steps = subst₂ (λ (a b : Frame FrameWord Point). Step (strands i.shape i.code) none (Strand a) (arrays_at m) (Strand b) (arrays_at m'))
        (ap (frame (own_at m f n)) (sym number_is))
        (ap₂ (λ (d e : ℕ). frame (own_at m' f (slots_at i.code d)) e) number_stays (ap m' (header_is f y low))) got.step

    turn : Turn i s t p stage c u u (Run f y) (doing_of (running i.shape sits next))
    turn = record {
      is = is;
      alone = has_leaf.alone;
      there = there;
      kind = ke;
      kinds = λ q ne. refl;
      doing = put_here s.doing p (doing_of (running i.shape sits next));
      doings = λ q ne. put_else s.doing p (doing_of (running i.shape sits next)) q ne;
      around = around;
      step = inl (none, steps, allows_none i);
      swap = record { aim = record { head = refl; aim = stays 5 (omega arith) (λ d one five other e. five (sym e)) }; order = refl; gives = inl (refl, refl) };
      good = (
        ap link_at (subst (λ (x : ℕ). m' (BlockWord x) ≡ m (BlockWord x)) {x = f + 0} (omega arith) (stays 0 (omega arith) (λ d one five other e. omega (arith, one, e)))) ∙ framed,
        ap (slots_at i.code) header_stays,
        subst (λ (x : RestartKind). Match i.code m' x h (Begins y) f) (sym ke) (refl, refl),
      );
      adds = λ x. inl (omega arith, omega arith);
      grows = let a = roof in let b = room_stays in omega (arith, a, b);
      pays = let a = roof in let b = room_stays in omega (arith, a, b);
      bound = let a = (law.rooms p).1 in let b = roof in let d = room_stays in omega (arith, a, b, d);
      places = is_at_own p;
      placed = λ q ne. refl;
      free = got.clean clean;
      does = came sits next m' got.come;
      orders = tt;
      others = keeps c u cell w is has_leaf.alone only one_here (inl mine);
      unrun = same_part low tt refl;
      finishes = not_ended m m' t c u u is finish_stays refl;
    }

    pub rest_stores : Law stage t
    rest_stores = subst (Law stage) (sym is) (build i fair root input s t law p stage c u u (Run f y) (doing_of (running i.shape sits next)) turn)

  -- what the capsule asks for is counted
  asks_room : (w : ℕ) → room_of (instrs_of i.code k) ≡ Some w → w ≤ (of_capsule (strands i.shape i.code) (frame_of i.shape i.code m f n y) (arrays_at m)).block_words
  asks_room w e = room_asked i.shape.arrays (instrs_of i.code k) w e _

  -- an install counts a capsule, and so many forks
  abbrev Counted : State → Skeleton → ℕ → Type 0
  Counted z w j = (kept : Law z w) × (kept.ahead.0.capsules ≡ law.ahead.0.capsules + 1) × (kept.ahead.0.forks ≡ law.ahead.0.forks + j)

  module _ (e : End) (stands : Stands code_locations (all_of i.shape i.code m p f y) (Ends e) (now i.shape i.code m p f y)) (room : HasRoom i.shape i.code m p f y)
      (own : AllStand m (own_stores i.code (home_at i.shape i.code m p f y) e))
      (step : Step (strands i.shape i.code) (of_capsule (strands i.shape i.code) (frame_of i.shape i.code m f n y) (arrays_at m)) (Strand (frame_of i.shape i.code m f n y)) (arrays_at m)
      (opens i.code e (own_at m f n) (λ o. now i.shape i.code m p f y (New o))) (arrays_at m)) where
    abbrev counts : Counts
    counts = of_capsule (strands i.shape i.code) (frame_of i.shape i.code m f n y) (arrays_at m)

    fit : EndFits i.code (procedure_at i.code k) (instrs_of i.code k) e
    fit = blocks.end_fits i.shape i.code fair m p f y room clean e stands

    f_small : f < 2 ^ 28
    f_small =
        let some : count Root t f ≡ 0 → ⊥ = λ q. (let sum = ap (λ (w : Skeleton). count Root w f) is ∙ count_plug Root c u f in
        let one : 1 ≤ count h u f = subst (λ (x : ℕ). 1 ≤ count h u x) {x = f + 0} (omega arith) (in_leaf 0 (omega arith)) in omega (arith, q, sum, one)) in
        let b = law.below f some in
        let bound = (law.rooms (owner i f)).1 in
        let low_ = pool_low i (owner i f) (law.there f some) in
        let under = b.1 in omega (arith, under, bound, low_)

    ended_turn : AllowsAll i → (l : RestartKind) (v : Skeleton) (j : ℕ) → forks_in (tree_at m h v) ≡ j → opens i.code e (own_at m f n) (λ o. now i.shape i.code m p f y (New o)) ≡ tree_at m h v → top v ≡ f → mark v ≡ IsPlain
        → Good i.code m (put s.kind p l) h v
        → ((x : ℕ) → ((count h v x ≤ count h u x) × (plain h v x ≤ plain h u x)) ⊎ ((count h v x ≤ 1 + count h u x) × (r ≤ x) × (x < ceiling i m p l)))
        → r ≤ ceiling i m p l → ceiling i m p l ≤ end_of i p → carried m l ≡ 1 → at p v ≡ 1 → ((q : ℕ) → q ≢ p → at q v ≡ 0) → Free i m p l → Ordered i s t m l
        → HasCopy l → (((x : ℕ) → count Root (plug c v) x ≤ 1) → Unpushed p (plug c v) l) → ((q r : ℕ) → q ≢ p → Untaken q r v) → is_taker l ≡ false → ceiling i m p l ≤ r + counts.block_words
        → Counted (installs s p l) (plug c v) j
    ended_turn lets l v j forks opens_it head arrived good adds grows bound one here others_none frees ordered copy own all no_taker pays =
        let opened : counts.forks ≡ j = forks_told step tt refl ∙ ap (λ (w : Tree (Frame FrameWord Point) Result). forks_in w) opens_it ∙ forks in
        let got = built i fair root input s t law p (installs s p l) c u v l Resting (record {
          is = is;
          alone = has_leaf.alone;
          there = there;
          kind = put_here s.kind p l;
          kinds = λ q ne. put_else s.kind p l q ne;
          doing = put_here s.doing p Resting;
          doings = λ q ne. put_else s.doing p Resting q ne;
          around = λ x ne. refl;
          step = inl (
            counts,
            subst₂ (λ (a : Frame FrameWord Point) (w : Tree (Frame FrameWord Point) Result). Step (strands i.shape i.code) counts (Strand a) (arrays_at m) w (arrays_at m))
                (ap (λ (d : ℕ). record { own = own_at m f n; point = at_capsule d }) (sym number_is)) opens_it step,
            lets counts,
          );
          swap = record { aim = record { head = head; aim = refl }; order = arrived; gives = inl (refl, refl) };
          good = good;
          adds = λ x. subst (λ (b : ℕ). ((count h v x ≤ count h u x) × (plain h v x ≤ plain h u x)) ⊎ ((count h v x ≤ 1 + count h u x) × (b ≤ x) × (x < ceiling i m p l))) (sym roof) (adds x);
          grows = subst (λ (b : ℕ). b ≤ ceiling i m p l) (sym roof) grows;
          pays = subst (λ (b : ℕ). ceiling i m p l ≤ b + counts.block_words) (sym roof) pays;
          bound = bound;
          places = here ∙ sym one;
          placed = λ q ne. others_none q ne ∙ sym (only q ne);
          free = frees;
          does = tt;
          orders = ordered;
          others = λ q ne. kept_same i fair root input s t law p q;
          unrun = barren (λ q x. (λ w. w, λ w. w)) copy own all no_taker;
          finishes = not_ended m m t c u v is refl refl;
        }) in
        (got.0, ap (λ (k : Counts). k.capsules) got.1, ap (λ (k : Counts). k.forks) got.1 ∙ ap (λ (k : ℕ). law.ahead.0.forks + k) opened)

  abbrev Stood : End → Type 0
  Stood e = Stands code_locations (all_of i.shape i.code m p f y) (Ends e) (now i.shape i.code m p f y)

  abbrev Owns : End → Type 0
  Owns e = AllStand m (own_stores i.code (home_at i.shape i.code m p f y) e)

  abbrev Opened : End → Type 0
  Opened e = Step (strands i.shape i.code) (of_capsule (strands i.shape i.code) (frame_of i.shape i.code m f n y) (arrays_at m)) (Strand (frame_of i.shape i.code m f n y)) (arrays_at m)
      (opens i.code e (own_at m f n) (λ o. now i.shape i.code m p f y (New o))) (arrays_at m)

  abbrev z : ℕ
  z = other_copy y

  module _ (room : HasRoom i.shape i.code m p f y) (lets : AllowsAll i) where
    -- where no block is built all free words are 0
    all_blank : (e : End) → Stood e → ((o : ℕ) → Builds i.code e o → ⊥) → ((o : ℕ) → AreElsewhere o (block_stores i.code (home_at i.shape i.code m p f y) e)) → Blank i m p r
    all_blank e stands none out o lt = blocks.blank_word i.shape i.code fair m p f y room clean e stands o lt (none o) (out o)

    -- the frame goes on with a capsule of its procedure
    sized_then : (d : ℕ) → procedure_at i.code d ≡ procedure_at i.code k → m (header_word f z) ≡ d → slots_at i.code (m (BlockWord (header f z))) ≡ n
    sized_then d same own = ap (slots_at i.code) (blocks.header_then i.shape i.code fair m p f y low room clean d own) ∙ ap (slots_of i.code) same

    goes_next : (d : ℕ) → Stood (Next d) → Owns (Next d) → Opened (Next d) → Counted (installs s p (Run f z)) (by_install i m p (Run f y) (Run f z) t) 0
    goes_next d stands own step =
        let v = Leaf (InPlace p) (Begins z) f n in
        let fits = fit (Next d) stands room own step in
        let got = ended_turn (Next d) stands room own step lets (Run f z) v 0 refl (blocks.next_tree i.shape i.code fair m p f y low room clean h d stands own.0) refl refl
        (framed, sized_then d (procedure_is i.code (procedure_at i.code k) d fits) own.0, subst (λ (q : RestartKind). Match i.code m q h (Begins z) f) (sym (put_here s.kind p (Run f z))) (refl, refl))
        (λ x. inl (omega arith, omega arith)) (omega arith) room_low refl (is_at_own p) (λ q ne. is_at_other p q ne)
        (record { block = λ o lt out. all_blank (Next d) stands (λ o b. b) (λ o. tt) o lt; outcome = inl (blocks.still_open i.shape i.code fair m p f y low room clean (Next d) refl stands) }) tt
        (omega arith) (λ most. tt) (λ q x ne. tt) refl (omega arith) in
        subst (λ (w : Skeleton). Counted (installs s p (Run f z)) w 0) (sym (ap (grow p (λ st f n. Leaf (InPlace p) (Begins z) f n)) is ∙ grow_plug p (λ st f n. Leaf (InPlace p) (Begins z) f n) c (Begins y) f n has_leaf.alone)) got

    goes_over : (e : End) (stands : Stood e) (own : Owns e) (step : Opened e) → opens i.code e (own_at m f n) (λ o. now i.shape i.code m p f y (New o)) ≡ tree_at m h (Leaf (InPlace p) Over f n)
        → ((o : ℕ) → Builds i.code e o → ⊥) → ((o : ℕ) → AreElsewhere o (block_stores i.code (home_at i.shape i.code m p f y) e)) → Counted (installs s p (Unwind f)) (by_install i m p (Run f y) (Unwind f) t) 0
    goes_over e stands own step tree none out =
        let v = Leaf (InPlace p) Over f n in
        let got = ended_turn e stands room own step lets (Unwind f) v 0 refl tree refl refl
        (framed, tt, subst (λ (q : RestartKind). Match i.code m q h Over f) (sym (put_here s.kind p (Unwind f))) refl)
        (λ x. inl (omega arith, omega arith)) (omega arith) room_low refl (is_at_own p) (λ q ne. is_at_other p q ne)
        (all_blank e stands none out) tt tt (λ most. tt) (λ q x ne. tt) refl (omega arith) in
        subst (λ (w : Skeleton). Counted (installs s p (Unwind f)) w 0) (sym (ap (grow p (λ st f n. Leaf (InPlace p) Over f n)) is ∙ grow_plug p (λ st f n. Leaf (InPlace p) Over f n) c (Begins y) f n has_leaf.alone)) got

    -- targets lie in the frame
    target_fits : (to : Option ℕ) → IfSome to (λ slot. slot < slots_of i.code (procedure_at i.code k)) → target_of to ≤ n
    target_fits None q = omega arith
    target_fits (Some slot) q = omega (arith, q)

    -- a call: the new frame stands in the block
    module _ (q d : ℕ) (to : Option ℕ) (stands : Stood (Call q d to)) (own : Owns (Call q d to)) (step : Opened (Call q d to)) where
      abbrev nq : ℕ
      nq = slots_of i.code q

      abbrev callee : Skeleton
      callee = Calling f n z (Leaf (InPlace p) (Begins 0) r nq)

      call_fit : EndFits i.code (procedure_at i.code k) (instrs_of i.code k) (Call q d to)
      call_fit = fit (Call q d to) stands room own step

      block : blocks.CallStands i.shape i.code fair m p f y low room clean (f_small (Call q d to) stands room own step) (pool_low i p there) h q d to
      block = blocks.call_stands i.shape i.code fair m p f y low room clean (f_small (Call q d to) stands room own step) (pool_low i p there) h q d to stands own.0

      call_asked : asked_of i.code k ≡ 6 + nq
      call_asked = ap room_or call_fit.3

      call_top : ceiling i m p (Bump r) ≡ r + (6 + nq)
      call_top = ap (λ (l : Link). r + l.size) block.link

      call_frees : Blank i m p (ceiling i m p (Bump r))
      call_frees o lt = subst (λ (b : ℕ). m (BlockWord b) ≡ 0) {x = r + (6 + nq + o)} (omega (arith, call_top))
          (blocks.blank_above i.shape i.code fair m p f y room clean (Call q d to) stands (6 + nq + o) (omega (arith, call_asked)) (omega (arith, lt, call_top)))

      call_adds : (w : ℕ) → ((count h callee w ≤ count h u w) × (plain h callee w ≤ plain h u w)) ⊎ ((count h callee w ≤ 1 + count h u w) × (r ≤ w) × (w < ceiling i m p (Bump r)))
      call_adds w = elim (cases_eq (inside r (6 + nq) w) 0) [
        | inl zero_ ↦ inl (omega (arith, zero_), omega (arith, zero_))
        | inr ne ↦ let within = inside_from r (6 + nq) w ne in let one = inside_one r (6 + nq) w in
            inr (omega (arith, one), within.0, let b = within.1 in omega (arith, b, call_top))
      ]

      call_good : Good i.code m (put s.kind p (Bump r)) h callee
      call_good = (
        record {
          framed = framed;
          size = sized_then d (procedure_is i.code (procedure_at i.code k) d call_fit.1) own.0;
          outcome = inl (blocks.still_open i.shape i.code fair m p f y low room clean (Call q d to) refl stands);
          target = subst (λ (b : ℕ). b ≤ n) (sym block.target) (target_fits to call_fit.2);
        },
        (block.link, block.sized, subst (λ (l : RestartKind). Match i.code m l (Called f z) (Begins 0) r) (sym (put_here s.kind p (Bump r))) (refl, refl, block.outcome)),
      )

      goes_called : Counted (installs s p (Bump r)) (by_install i m p (Run f y) (Bump r) t) (forks_with m (Bump r))
      goes_called = subst₂ (λ (w : Skeleton) (j : ℕ). Counted (installs s p (Bump r)) w j) (sym (
          ap (grow p (opened i m p r (link_at (m (BlockWord r))).kind)) is
          ∙ grow_plug p (opened i m p r (link_at (m (BlockWord r))).kind) c (Begins y) f n has_leaf.alone
          ∙ ap (λ (l : Link). plug c (opened i m p r l.kind (Begins y) f n)) block.link
          ∙ ap (λ (b : ℕ). plug c (Calling f n z (Leaf (InPlace p) (Begins 0) r b))) block.sized))
          (sym (ap (λ (l : Link). is_fork l.kind) block.link))
          (ended_turn (Call q d to) stands room own step lets (Bump r) callee 0 refl block.tree refl refl call_good call_adds (omega (arith, call_top)) (let b = room in omega (arith, call_top, call_asked, b)) refl
          (is_at_own p) (λ b ne. is_at_other p b ne) call_frees tt
          tt (λ most. opens_block p r Root c callee (most r) (let a = inside_at r (6 + nq) r 0 (omega arith) (omega arith) in omega (arith, a)) tt) (λ q x ne. tt) refl (let w = asks_room (6 + nq) call_fit.3 in omega (arith, call_top, w)))

    -- a fork: both frames stand in the block, and the right one is fresh
    module _ (a b d : ℕ) (lt rt : Option ℕ) (stands : Stood (Fork a b d lt rt)) (own : Owns (Fork a b d lt rt)) (step : Opened (Fork a b d lt rt)) where
      abbrev n_left : ℕ
      n_left = slots_of i.code a

      abbrev n_right : ℕ
      n_right = slots_of i.code b

      abbrev off : ℕ
      off = right_at i.code a

      abbrev both : Skeleton
      both = Forking f n z r (Leaf (InPlace p) (Begins 0) (r + 5) n_left) (Leaf Fresh (Begins 0) (r + off) n_right)

      fork_fit : EndFits i.code (procedure_at i.code k) (instrs_of i.code k) (Fork a b d lt rt)
      fork_fit = fit (Fork a b d lt rt) stands room own step

      split : blocks.ForkStands i.shape i.code fair m p f y low room clean (f_small (Fork a b d lt rt) stands room own step) (pool_low i p there) h a b d lt rt
      split = blocks.fork_stands i.shape i.code fair m p f y low room clean (f_small (Fork a b d lt rt) stands room own step) (pool_low i p there) h a b d lt rt stands own.0

      fork_asked : asked_of i.code k ≡ 17 + n_left + n_right
      fork_asked = let e = ap room_or fork_fit.5 in omega (arith, e)

      fork_top : ceiling i m p (Bump r) ≡ r + (17 + n_left + n_right)
      fork_top = let e = ap (λ (l : Link). r + l.size) split.link in omega (arith, e)

      fork_frees : Blank i m p (ceiling i m p (Bump r))
      fork_frees o less = subst (λ (x : ℕ). m (BlockWord x) ≡ 0) {x = r + (17 + n_left + n_right + o)} (omega (arith, fork_top))
          (blocks.blank_above i.shape i.code fair m p f y room clean (Fork a b d lt rt) stands (17 + n_left + n_right + o) (omega (arith, fork_asked)) (omega (arith, less, fork_top)))

      fork_adds : (x : ℕ) → ((count h both x ≤ count h u x) × (plain h both x ≤ plain h u x)) ⊎ ((count h both x ≤ 1 + count h u x) × (r ≤ x) × (x < ceiling i m p (Bump r)))
      fork_adds x =
          let s0 = split_at r 1 (16 + n_left + n_right) (17 + n_left + n_right) (r + 1) x (omega arith) refl in
          let s1 = split_at (r + 1) 1 (15 + n_left + n_right) (16 + n_left + n_right) (r + 2) x (omega arith) (omega arith) in
          let s2 = split_at (r + 2) 1 (14 + n_left + n_right) (15 + n_left + n_right) (r + 3) x (omega arith) (omega arith) in
          let s3 = split_at (r + 3) 1 (13 + n_left + n_right) (14 + n_left + n_right) (r + 4) x (omega arith) (omega arith) in
          let s4 = split_at (r + 4) 1 (12 + n_left + n_right) (13 + n_left + n_right) (r + 5) x (omega arith) (omega arith) in
          let s5 = split_at (r + 5) (6 + n_left) (6 + n_right) (12 + n_left + n_right) (r + off) x (omega arith) (omega arith) in
          elim (cases_eq (inside r (17 + n_left + n_right) x) 0) [
            | inl zero_ ↦ inl (omega (arith, zero_, s0, s1, s2, s3, s4, s5), omega (arith, zero_, s0, s1, s2, s3, s4, s5))
            | inr some ↦ let within = inside_from r (17 + n_left + n_right) x some in let one = inside_one r (17 + n_left + n_right) x in
                inr (omega (arith, one, s0, s1, s2, s3, s4, s5), within.0, let q = within.1 in omega (arith, q, fork_top))
          ]

      word_at : (x w v : ℕ) → x ≡ w → m (BlockWord w) ≡ v → m (BlockWord x) ≡ v
      word_at x w v e q = ap (λ (x : ℕ). m (BlockWord x)) e ∙ q

      slots_there : (x w v : ℕ) → x ≡ w → slots_at i.code (m (BlockWord w)) ≡ v → slots_at i.code (m (BlockWord x)) ≡ v
      slots_there x w v e q = ap (λ (x : ℕ). slots_at i.code (m (BlockWord x))) e ∙ q

      fork_good : Good i.code m (put s.kind p (Bump r)) h both
      fork_good = (
        record {
          framed = framed;
          size = sized_then d (procedure_is i.code (procedure_at i.code k) d fork_fit.2) own.0;
          outcome = inl (blocks.still_open i.shape i.code fair m p f y low room clean (Fork a b d lt rt) refl stands);
          hook = ap (λ (l : Link). l.kind) split.link;
          order = split.order;
          left = refl;
          right = ap (λ (x : ℕ). r + x) (sym split.offset);
          left_target = subst (λ (x : ℕ). x ≤ n) (sym (word_at (r + 5 + 5) (r + 10) (target_of lt) (omega arith) split.left_target)) (target_fits lt fork_fit.3);
          right_target = subst (λ (x : ℕ). x ≤ n) (sym (word_at (r + off + 5) (r + (off + 5)) (target_of rt) (omega arith) split.right_target)) (target_fits rt fork_fit.4);
        },
        (
          split.left_link,
          slots_there (r + 5 + 2) (r + 7) n_left (omega arith) split.left_sized,
          subst (λ (l : RestartKind). Match i.code m l (Branch Left r) (Begins 0) (r + 5)) (sym (put_here s.kind p (Bump r)))
              (refl, (refl, refl), word_at (r + 5 + 1) (r + 6) ended (omega arith) split.left_outcome),
        ),
        (
          split.right_link,
          slots_there (r + off + 2) (r + (off + 2)) n_right (omega arith) split.right_sized,
          (refl, word_at (r + off + 1) (r + (off + 1)) ended (omega arith) split.right_outcome),
        ),
      )

      goes_forked : Counted (installs s p (Bump r)) (by_install i m p (Run f y) (Bump r) t) (forks_with m (Bump r))
      goes_forked = subst₂ (λ (w : Skeleton) (j : ℕ). Counted (installs s p (Bump r)) w j) (sym (
          ap (grow p (opened i m p r (link_at (m (BlockWord r))).kind)) is
          ∙ grow_plug p (opened i m p r (link_at (m (BlockWord r))).kind) c (Begins y) f n has_leaf.alone
          ∙ ap (λ (l : Link). plug c (opened i m p r l.kind (Begins y) f n)) split.link
          ∙ ap₂ (λ (x w : ℕ). plug c (Forking f n z r (Leaf (InPlace p) (Begins 0) (r + 5) x) (Leaf Fresh (Begins 0) (r + w) (slots_at i.code (m (BlockWord (r + (w + 2))))))))
          split.left_sized split.offset
          ∙ ap (λ (x : ℕ). plug c (Forking f n z r (Leaf (InPlace p) (Begins 0) (r + 5) n_left) (Leaf Fresh (Begins 0) (r + off) x))) split.right_sized))
          (sym (ap (λ (l : Link). is_fork l.kind) split.link))
          (ended_turn (Fork a b d lt rt) stands room own step lets (Bump r) both 1 refl split.tree refl refl fork_good fork_adds (omega (arith, fork_top)) (let q = room in omega (arith, fork_top, fork_asked, q)) refl
          (let one = is_at_own p in omega (arith, one)) (λ q ne. let none_ = is_at_other p q ne in omega (arith, none_)) fork_frees tt
          tt (λ most. opens_block p r Root c both (most r) (let a = inside_at r 1 r 0 (omega arith) (omega arith) in omega (arith, a)) (λ e one. tt, tt, tt)) (λ q x ne. (λ e one. tt, tt, tt)) refl (let w = asks_room (5 + (6 + n_left) + (6 + n_right)) fork_fit.5 in omega (arith, fork_top, w)))

    run_law : (e : End) → Stood e → Owns e → Opened e → Counted (installs s p (installed (home_at i.shape i.code m p f y) e)) (by_install i m p (Run f y) (installed (home_at i.shape i.code m p f y) e) t) (forks_with m (installed (home_at i.shape i.code m p f y) e))
    run_law (Next d) stands own step = goes_next d stands own step
    run_law Finish stands own step = goes_over Finish stands own step (blocks.finish_tree i.shape i.code fair m p f y low room clean h stands) (λ o b. b) (λ o. tt)
    run_law (Trap trap line) stands own step = goes_over (Trap trap line) stands own step (blocks.trap_tree i.shape i.code fair m p f y low room clean h trap line stands own.0) (λ o b. b) (λ o. tt)
    run_law (Call q d to) stands own step = goes_called q d to stands own step
    run_law (Fork a b d lt rt) stands own step = goes_forked a b d lt rt stands own step

  pub rest_counts : (kind : RestartKind) → AllowsAll i → Come (Installs kind) → Counted (installs s p kind) (by_install i m p (Run f y) kind t) (forks_with m kind)
  rest_counts kind lets come =
      let op = by_installs i.shape i.code fair m p f y clean kind come in
      subst (λ (q : RestartKind). Counted (installs s p q) (by_install i m p (Run f y) q t) (forks_with m q)) (sym op.kind_is) (run_law op.room lets op.end op.stands op.own op.step)

  -- the pool is full, and that is proposed as the finish
  module _ (none_yet : m FinishWord ≡ 0) where
    abbrev told : Cell → ℕ
    told = write m FinishWord (finish_word (OutOfRoom p))

    block_same : (x : ℕ) → told (BlockWord x) ≡ m (BlockWord x)
    block_same x = write_else m FinishWord (finish_word (OutOfRoom p)) (BlockWord x) (λ e. cc)

    room_same : told (RoomCounter p) ≡ r
    room_same = write_else m FinishWord (finish_word (OutOfRoom p)) (RoomCounter p) (λ e. cc)

    arrays_same : arrays_at told ≡ arrays_at m
    arrays_same = fun_ext (λ x. write_else m FinishWord (finish_word (OutOfRoom p)) (ArrayWord x) (λ e. cc))

    seen_told : (g l b a : ℕ) → seen told g l b a ≡ seen m g l b a
    seen_told g l b a = fun_ext by
      where
        by : (x : Where) → seen told g l b a x ≡ seen m g l b a x
        by (Own (Slot j)) = choice j l _ _ (λ lt. block_same (g + slot_at j))
        by (Own Value) = block_same (g + value_at)
        by (New o) = choice o a _ _ (λ lt. block_same (b + o))
        by (Shared x) = write_else m FinishWord (finish_word (OutOfRoom p)) (ArrayWord x) (λ e. cc)

    now_told : now i.shape i.code told p f y ≡ now i.shape i.code m p f y
    now_told = ap₂ (λ (d b : ℕ). seen told f (slots_at i.code d) b (asked_of i.code d)) (block_same (f + 2 + y)) room_same ∙ seen_told f n r (asked_of i.code k)

    all_told : all_of i.shape i.code told p f y ≡ all_of i.shape i.code m p f y
    all_told = ap₂ (λ (d b : ℕ). closed i.shape i.code (record { frame = f; copy = y; block = b }) d) (block_same (f + 2 + y)) room_same

    clean_told : IsClean i.shape i.code told p f y
    clean_told = record {
      block = λ o lt out. ap (λ (x : ℕ). told (BlockWord (x + o))) room_same ∙ block_same (r + o)
          ∙ clean.block o (subst (λ (x : ℕ). x + o < limit i.shape i.code p) room_same lt)
          (λ h. out (subst₂ (λ (d : Capsule Where End) (g : Memory Where). In (New o) (written code_locations d g)) (sym all_told) (sym now_told) h));
      outcome = elim clean.outcome [
        | inl e ↦ inl (block_same (f + 1) ∙ e)
        | inr e ↦ inr (block_same (f + 1) ∙ e ∙ ap₂ (λ (d : Capsule Where End) (g : Memory Where). outcome_by (ending code_locations d g)) (sym all_told) (sym now_told))
      ];
    }

    none_out : NoOutcome (told FinishWord)
    none_out v e out =
        let few = i.shape.within.processors_most in
        let is_ : finish_of (told FinishWord) ≡ Some (OutOfRoom p) = ap finish_of (write_here m FinishWord (finish_word (OutOfRoom p))) ∙ blocks.finish_back (OutOfRoom p) (omega (arith, few, there)) in
        subst IsOutcome {x = v} {y = OutOfRoom p} (one v (sym e ∙ is_)) out
      where
        one : (v : Finishing) → Some v ≡ Some (OutOfRoom p) → v ≡ OutOfRoom p
        one v e = cc

    abbrev full_stage : State
    full_stage = record { words = told; kind = s.kind; doing = put s.doing p Resting }

    full_turn : Turn i s t p full_stage c u u (Run f y) Resting
    full_turn = record {
      is = is;
      alone = has_leaf.alone;
      there = there;
      kind = ke;
      kinds = λ q ne. refl;
      doing = put_here s.doing p Resting;
      doings = λ q ne. put_else s.doing p Resting q ne;
      around = λ x ne. block_same x;
      step = inr (tree_same m told h u (λ x ne. block_same x), arrays_same);
      swap = record { aim = record { head = refl; aim = block_same (f + 5) }; order = refl; gives = inl (refl, refl) };
      good = (
        ap link_at (block_same f) ∙ framed,
        ap (slots_at i.code) (block_same (header f y) ∙ number_is),
        subst (λ (x : RestartKind). Match i.code told x h (Begins y) f) (sym ke) (refl, refl),
      );
      adds = λ x. inl (omega arith, omega arith);
      grows = let a = roof in let b = room_same in omega (arith, a, b);
      pays = let a = roof in let b = room_same in omega (arith, a, b);
      bound = let a = (law.rooms p).1 in let b = roof in let d = room_same in omega (arith, a, b, d);
      places = is_at_own p;
      placed = λ q ne. refl;
      free = clean_told;
      does = tt;
      orders = tt;
      others = keeps c u FinishWord (finish_word (OutOfRoom p)) is has_leaf.alone only one_here (inl none_yet);
      unrun = same_part low tt refl;
      finishes = λ old. inl none_out;
    }

    full_law : Law full_stage t
    full_law = subst (Law full_stage) (sym is) (build i fair root input s t law p full_stage c u u (Run f y) Resting full_turn)

  rest_full : Law (fills s p) t
  rest_full = by (m FinishWord == 0) refl
    where
      by : (b : Bool) → (m FinishWord == 0) ≡ b → Law (record { words = cond b (write m FinishWord (finish_word (OutOfRoom p))) m; kind = s.kind; doing = put s.doing p Resting }) t
      by true e = full_law (eqb-true (m FinishWord) 0 e)
      by false e = going i fair root input s t law p (ap is_taker ke) Resting tt

  -- what it does, where it stands in its capsule
  come_of : (rest : Rest) → s.doing p ≡ InRest rest → Come rest
  come_of rest e = subst₂ (λ (q : RestartKind) (d : Doing). Does i m p q d) ke e (law.does p)

  pub run_keeps : RunKeeps i root input s t p f y
  run_keeps = record {
    begins = row_begins;
    enters = λ own bottom victim. row_enters own bottom;
    loads = λ sits cell next e. rest_loads sits cell next (come_of (Loads cell next) e);
    stores = λ sits cell content next found e. rest_stores sits cell content next (come_of (Stores cell content next) e);
    installs = λ kind lets e. (rest_counts kind lets (come_of (Installs kind) e)).0;
    full = rest_full;
    faults = going i fair root input s t law p (ap is_taker ke) Resting tt;
    cells = λ cell content next e. (by_stores i.shape i.code fair m p f y low apart cell content next (come_of (Stores cell content next) e)).spot;
  }
