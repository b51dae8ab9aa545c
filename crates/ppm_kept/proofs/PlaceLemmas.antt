-- A place with its leaf, and steps that change no word.
use Rattle.std.proofs.Common.{◌≡◌, ◌≢◌, ◌⊎◌, ◌≤◌, ◌<◌, ℕ, ◌+◌, ◌==◌, true, false, inl, inr, refl, sym, ap, ap₂, ◌∙◌, subst, subst₂, arith}
use Rattle.std.proofs.lemmas.Bool.{cases_eq, cond-true, eq-eqb, ne_eqb, cond-false}
use Rattle.ppm_strands.specs.Tree.{Words, Tree}
use Rattle.ppm_cells.specs.declared.cell.Cell.{Cell}
use Rattle.ppm_cells.specs.declared.cell.Cell.TheVariants.{FinishWord, CarryWord, DeadWord, RestartWord, MessageWord, HolderWord, Top, RoomCounter, EntryWord, BlockWord, ArrayWord}
use Rattle.ppm_cells.specs.declared.link.LinkKind.TheVariants.{Root, Branch}
use Rattle.ppm_cells.specs.declared.restart.RestartKind.{RestartKind}
use Rattle.ppm_cells.specs.declared.restart.RestartKind.TheVariants.{Run, Bump, Push1, Push2, Unwind, Arrive, Join, Pop1, Pop2, Seek, Steal, Check, Take, Take2}
use Rattle.ppm_cells.specs.declared.side.Side.{Side}
use Rattle.ppm_cells.specs.declared.side.Side.TheVariants.{Left, Right}
use Rattle.ppm_strands.specs.Strand.{Frame}
use Rattle.ppm_code.specs.Strands.{Point, Result}
use Rattle.ppm_code.specs.declared.location.FrameWord.{FrameWord}
use Rattle.ppm_code.specs.Sizes.{slots_at}
use Rattle.ppm_step.specs.declared.row.Row.TheVariants.{Now}
use Rattle.ppm_step.specs.declared.row.Then.TheVariants.{Begin}
use Rattle.ppm_frames.specs.Views.{written as write}
use Rattle.ppm_frames.specs.Skeletons.{Stand, Begins, Over, Arrives, InPlace, Skeleton, Leaf, Forking, header, inside, count, plain, is_at, at, Around, plug, hook_at, rim, at_rim}
use Rattle.ppm_frames.specs.Good.{Framed, IsSized, Match, Good}
use Rattle.ppm_frames.specs.Laws.{Same}
use Rattle.ppm_frames.proofs.WriteLemmas.{write_else, pool_apart}
use Rattle.ppm_frames.proofs.SkeletonLemmas.{find, at_plug, count_plug, plain_count, branch_from, order_lacks, inside_at}
use Rattle.ppm_frames.proofs.SwapLemmas.{good_here}
use Rattle.ppm_kept.specs.Running.{IsFair}
use Rattle.ppm_kept.specs.Branches.{Waits, is_taker}
use Rattle.ppm_kept.specs.Kept.{Setting, end_of, owner, State, Doing, InRow, put, ceiling, Does, Head, Ordered, carried, IsKept}
use Rattle.ppm_kept.specs.Others.{KeptAt, Mine}
use Rattle.ppm_kept.proofs.PutLemmas.{put_here, put_else}
use Rattle.ppm_kept.proofs.OwnerLemmas.{owned}

pub is_at_own : (p : ℕ) → is_at p (InPlace p) ≡ 1
is_at_own p = cond-true {A = ℕ} (p == p) 1 0 (eq-eqb p p refl)

pub is_at_other : (p q : ℕ) → q ≢ p → is_at q (InPlace p) ≡ 0
is_at_other p q ne = cond-false {A = ℕ} (p == q) 1 0 (ne_eqb p q (λ e. ne (sym e)))

-- a place's leaf and what is around it
pub record Leafed (i : Setting) (s : State) (t : Skeleton) (p : ℕ) : Type 0 where
  pub around : Around
  pub stand : Stand
  pub frame : ℕ
  pub slots : ℕ
  pub is : t ≡ plug around (Leaf (InPlace p) stand frame slots)
  pub alone : at_rim p around ≡ 0
  pub framed : Framed i.code s.words (hook_at Root around) frame slots
  pub sized : IsSized i.code s.words stand frame slots
  pub match : Match i.code s.words (s.kind p) (hook_at Root around) stand frame

module _ (i : Setting) (fair : IsFair i.code) (root : Tree (Frame FrameWord Point) Result) (input : Words) (s : State) (t : Skeleton) (law : IsKept i root input s t) (p : ℕ) where
  pub leaf : carried s.words (s.kind p) ≡ 1 → Leafed i s t p
  leaf one =
      let at_one : at p t ≡ 1 = law.places p ∙ one in
      let g = find p t (omega (arith, at_one)) in
      let good = good_here i.code s.words s.kind Root g.around (Leaf (InPlace p) g.stand g.frame g.slots) (subst (Good i.code s.words s.kind Root) g.is law.good) in
      let sum : at p (plug g.around (Leaf (InPlace p) g.stand g.frame g.slots)) ≡ 1 = ap (at p) (sym g.is) ∙ at_one in
      record {
        around = g.around;
        stand = g.stand;
        frame = g.frame;
        slots = g.slots;
        is = g.is;
        alone = let e = at_plug p g.around (Leaf (InPlace p) g.stand g.frame g.slots) in let o = is_at_own p in omega (arith, e, sum, o);
        framed = good.0;
        sized = good.1;
        match = good.2;
      }

  -- only what the place does changes: if it is then about to take a branch, that waits
  pub going_to : (d : Doing) → Does i s.words p (s.kind p) d → ((r f b : ℕ) → is_taker (s.kind p) ≡ true → d ≡ InRow (Now (Begin r f b)) → Waits r f t)
      → IsKept i root input (record { words = s.words; kind = s.kind; doing = put s.doing p d }) t
  going_to d own aim = record {
    ahead = law.ahead;
    good = law.good;
    apart = law.apart;
    below = law.below;
    there = law.there;
    places = law.places;
    rooms = law.rooms;
    free = law.free;
    does = λ q. elim (cases_eq q p) [
      | inl e ↦ subst (λ (x : ℕ). Does i s.words x (s.kind x) (put s.doing p d x)) (sym e) (subst (Does i s.words p (s.kind p)) (sym (put_here s.doing p d)) own)
      | inr ne ↦ subst (Does i s.words q (s.kind q)) (sym (put_else s.doing p d q ne)) (law.does q)
    ];
    orders = λ q. by (s.kind q) (law.orders q);
    finished = law.finished;
    copies = law.copies;
    untaken = law.untaken;
    paid = law.paid;
    counted = law.counted;
    aims = λ q r f b taker about. elim (cases_eq q p) [
      | inl e ↦ aim r f b (ap (λ (x : ℕ). is_taker (s.kind x)) (sym e) ∙ taker) (sym (put_here s.doing p d) ∙ ap (put s.doing p d) (sym e) ∙ about)
      | inr ne ↦ law.aims q r f b taker (sym (put_else s.doing p d q ne) ∙ about)
    ];
  }
    where
      by : (k : RestartKind) → Ordered i s t s.words k → Ordered i (record { words = s.words; kind = s.kind; doing = put s.doing p d }) t s.words k
      by (Arrive r e) a = record { there = a.there; first = a.first; under = a.under; bare = a.bare }
      by (Join r e) a = (record { there = a.0.there; first = a.0.first; under = a.0.under; bare = a.0.bare }, a.1)
      by (Run f y) a = tt
      by (Bump r) a = tt
      by (Push1 r) a = tt
      by (Push2 r) a = tt
      by (Unwind f) a = tt
      by Pop1 a = tt
      by (Pop2 r) a = tt
      by Seek a = tt
      by (Steal v x) a = tt
      by (Check v x) a = tt
      by (Take v x) a = tt
      by (Take2 v) a = tt

  -- of a kind that takes none
  pub going : is_taker (s.kind p) ≡ false → (d : Doing) → Does i s.words p (s.kind p) d → IsKept i root input (record { words = s.words; kind = s.kind; doing = put s.doing p d }) t
  going none d own = going_to d own (λ r f b taker about. absurd (let x : true ≡ false = sym taker ∙ none in cc))

  pub kept_same : (q : ℕ) → KeptAt i s t s.words q
  kept_same q = record { roof = refl; strand = refl; free = law.free q; does = law.does q; order = law.orders q }

  -- a word of a part is below the counters, and of no other part
  pub counted : (c : Around) (u : Skeleton) (x : ℕ) → t ≡ plug c u → count Root t x ≡ rim Root c x + count (hook_at Root c) u x
  counted c u x is = ap (λ (w : Skeleton). count Root w x) is ∙ count_plug Root c u x

  -- words of a part, and free words, are apart
  pub not_free : (c : Around) (u : Skeleton) (x o : ℕ) → t ≡ plug c u → 1 ≤ count (hook_at Root c) u x → x ≡ ceiling i s.words p (s.kind p) + o → x < end_of i p → ⊥
  not_free c u x o is one e lt =
      let sum = counted c u x is in
      let b = law.below x (λ z. omega (arith, z, sum, one)) in
      let r = (law.rooms p).0 in
      let own : owner i x ≡ p = owned i p x (omega (arith, e, r)) lt in
      let b' = subst (λ (q : ℕ). x < ceiling i s.words q (s.kind q)) own b.1 in
      omega (arith, b', e)

  -- the order word of a fork of the tree
  pub order_head : (c : Around) (f n y r : ℕ) (a b : Skeleton) → t ≡ plug c (Forking f n y r a b) → Head i s t (r + 1)
  order_head c f n y r a b is =
      let one = inside_at (r + 1) 1 (r + 1) 0 (omega arith) (omega arith) in
      let lacks = order_lacks Root c f n y r a b (r + 1) in
      let lacks' = subst (λ (w : Skeleton). plain Root w (r + 1) + inside (r + 1) 1 (r + 1) ≤ count Root w (r + 1)) (sym is) lacks in
      let most = law.apart (r + 1) in
      let some : count Root t (r + 1) ≡ 0 → ⊥ = λ z. omega (arith, z, lacks', one) in
      let b = law.below (r + 1) some in
      record { there = law.there (r + 1) some; first = b.0; under = b.1; bare = omega (arith, lacks', most, one) }

  -- words of one part are in no other
  pub rim_same : (c : Around) (u : Skeleton) (n : Cell → ℕ) (x w : ℕ) → t ≡ plug c u → ((y : ℕ) → y ≢ x → n (BlockWord y) ≡ s.words (BlockWord y))
      → (rim Root c x ≡ 0) → Same (rim Root c) s.words n
  rim_same c u n x w is other free y ne = elim (cases_eq y x) [
    | inl e ↦ absurd (ne (ap (rim Root c) e ∙ free))
    | inr d ↦ other y d
  ]

  pub rim_zero : (c : Around) (u : Skeleton) (x : ℕ) → t ≡ plug c u → (1 ≤ count (hook_at Root c) u x) ⊎ ((ceiling i s.words p (s.kind p) ≤ x) × (x < end_of i p)) → rim Root c x ≡ 0
  rim_zero c u x is (inl one) = let a = law.apart x in let sum = counted c u x is in omega (arith, a, sum, one)
  rim_zero c u x is (inr free) = elim (cases_eq (rim Root c x) 0) [
    | inl e ↦ e
    | inr ne ↦ absurd (
        let sum = counted c u x is in
        let b = law.below x (λ z. ne (omega (arith, z, sum))) in
        let r = (law.rooms p).0 in
        let le = free.0 in
        let own : owner i x ≡ p = owned i p x (omega (arith, le, r)) free.1 in
        let b' = subst (λ (q : ℕ). x < ceiling i s.words q (s.kind q)) own b.1 in
        omega (arith, b', le))
  ]

-- the leaf of a place that runs
pub record Runs (i : Setting) (s : State) (t : Skeleton) (p f y : ℕ) : Type 0 where
  pub around : Around
  pub is : t ≡ plug around (Leaf (InPlace p) (Begins y) f (slots_at i.code (s.words (BlockWord (header f y)))))
  pub alone : at_rim p around ≡ 0
  pub framed : Framed i.code s.words (hook_at Root around) f (slots_at i.code (s.words (BlockWord (header f y))))

run_at : (i : Setting) (s : State) (t : Skeleton) (p f y : ℕ) (c : Around) (st : Stand) (g n : ℕ) → t ≡ plug c (Leaf (InPlace p) st g n) → at_rim p c ≡ 0
    → Framed i.code s.words (hook_at Root c) g n → IsSized i.code s.words st g n → Match i.code s.words (Run f y) (hook_at Root c) st g → Runs i s t p f y
run_at i s t p f y c (Begins z) g n is alone framed sized match =
    let size : n ≡ slots_at i.code (s.words (BlockWord (header f y))) = sym sized ∙ sym (ap₂ (λ (a b : ℕ). slots_at i.code (s.words (BlockWord (header a b)))) match.0 match.1) in
    record {
      around = c;
      alone = alone;
      is = is ∙ ap₂ (λ (a b : ℕ). plug c (Leaf (InPlace p) (Begins b) a n)) (sym match.0) (sym match.1) ∙ ap (λ (b : ℕ). plug c (Leaf (InPlace p) (Begins y) f b)) size;
      framed = subst₂ (λ (a b : ℕ). Framed i.code s.words (hook_at Root c) a b) (sym match.0) size framed;
    }
run_at i s t p f y c Over g n is alone framed sized match = absurd match
run_at i s t p f y c Arrives g n is alone framed sized match = absurd match

pub run_leaf : (i : Setting) (s : State) (t : Skeleton) (p f y : ℕ) → s.kind p ≡ Run f y → Leafed i s t p → Runs i s t p f y
run_leaf i s t p f y ke g = run_at i s t p f y g.around g.stand g.frame g.slots g.is g.alone g.framed g.sized
    (subst (λ (k : RestartKind). Match i.code s.words k (hook_at Root g.around) g.stand g.frame) ke g.match)

-- a step of a place changes no word around its part
pub mine_around : (i : Setting) (fair : IsFair i.code) (root : Tree (Frame FrameWord Point) Result) (input : Words) (s : State) (t : Skeleton) (law : IsKept i root input s t) (p : ℕ) (c : Around) (u : Skeleton) (cell : Cell) (w : ℕ)
    → t ≡ plug c u → Mine i s p (hook_at Root c) u cell → Same (rim Root c) s.words (write s.words cell w)
mine_around i fair root input s t law p c u (BlockWord x) w is mine = rim_same i fair root input s t law p c u (write s.words (BlockWord x) w) x w is
    (λ y ne. write_else s.words (BlockWord x) w (BlockWord y) (pool_apart y x ne))
    (rim_zero i fair root input s t law p c u x is (elim mine [ inl one ↦ inl (let le = plain_count (hook_at Root c) u x in omega (arith, one, le)) | inr free ↦ inr free ]))
mine_around i fair root input s t law p c u (RoomCounter q) w is mine = λ y ne. write_else s.words (RoomCounter q) w (BlockWord y) (λ e. cc)
mine_around i fair root input s t law p c u (ArrayWord x) w is mine = λ y ne. write_else s.words (ArrayWord x) w (BlockWord y) (λ e. cc)
mine_around i fair root input s t law p c u FinishWord w is mine = λ y ne. write_else s.words FinishWord w (BlockWord y) (λ e. cc)
mine_around i fair root input s t law p c u (CarryWord q) w is mine = absurd mine
mine_around i fair root input s t law p c u (DeadWord q) w is mine = absurd mine
mine_around i fair root input s t law p c u (RestartWord q) w is mine = absurd mine
mine_around i fair root input s t law p c u (MessageWord q) w is mine = absurd mine
mine_around i fair root input s t law p c u (HolderWord q) w is mine = absurd mine
mine_around i fair root input s t law p c u (Top q) w is mine = absurd mine
mine_around i fair root input s t law p c u (EntryWord q j) w is mine = absurd mine

-- the order word of a branch of the tree is a head
pub head_on : (i : Setting) (fair : IsFair i.code) (root : Tree (Frame FrameWord Point) Result) (input : Words) (s : State) (t : Skeleton) (law : IsKept i root input s t) (p : ℕ) (c : Around) (u : Skeleton) (r : ℕ) (d : Side)
    → t ≡ plug c u → hook_at Root c ≡ Branch d r → Head i s t (r + 1)
head_on i fair root input s t law p c u r Left is e = elim (branch_from Root c r Left e) [
  | inl k ↦ absurd (let b = k.0 in cc)
  | inr g ↦ order_head i fair root input s t law p g.around g.frame g.slots g.copy r u g.beside (is ∙ g.is u)
]
head_on i fair root input s t law p c u r Right is e = elim (branch_from Root c r Right e) [
  | inl k ↦ absurd (let b = k.0 in cc)
  | inr g ↦ order_head i fair root input s t law p g.around g.frame g.slots g.copy r g.beside u (is ∙ g.is u)
]
