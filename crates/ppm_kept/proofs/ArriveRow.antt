-- The steps of a place in a row of kind Arrive keep the invariant: the exchange of the order word,
-- first or not, and the install of Join.
use Rattle.std.proofs.Common.{◌≡◌, ◌≢◌, ◌<◌, ℕ, zero, suc, ◌+◌, ◌==◌, cond, Bool, true, false, inl, inr, refl, sym, ap, ◌∙◌, subst, subst₂, arith}
use Rattle.std.proofs.lemmas.Bool.{cases_Bool, cond-true, cond-false, eq-eqb, eqb-true}
use Rattle.ppm_strands.specs.Tree.{Words, Tree}
use Rattle.ppm_cells.specs.declared.cell.Cell.{Cell}
use Rattle.ppm_cells.specs.declared.cell.Cell.TheVariants.{RoomCounter, BlockWord}
use Rattle.ppm_cells.specs.declared.link.LinkKind.{LinkKind}
use Rattle.ppm_cells.specs.declared.link.LinkKind.TheVariants.{Root, Branch}
use Rattle.ppm_cells.specs.declared.restart.Restart.{Restart}
use Rattle.ppm_cells.specs.declared.restart.RestartKind.{RestartKind}
use Rattle.ppm_cells.specs.declared.restart.RestartKind.TheVariants.{Arrive, Join}
use Rattle.ppm_cells.specs.declared.side.Side.{Side}
use Rattle.ppm_cells.specs.declared.side.Side.TheVariants.{Left, Right}
use Rattle.ppm_strands.specs.Strand.{Frame}
use Rattle.ppm_code.specs.Strands.{Point, Result}
use Rattle.ppm_code.specs.declared.location.FrameWord.{FrameWord}
use Rattle.ppm_cells.specs.JoinOrder.{first}
use Rattle.ppm_step.specs.Contents.{word_of}
use Rattle.ppm_step.specs.Rows.{row_of}
use Rattle.ppm_step.specs.Standings.{within_if, then_is_there, stands_then, went_row}
use Rattle.ppm_step.specs.declared.content.Content.{Content}
use Rattle.ppm_step.specs.declared.row.Then.{Then}
use Rattle.ppm_step.specs.declared.content.Content.TheVariants.{ANumber}
use Rattle.ppm_step.specs.declared.row.Row.{Row}
use Rattle.ppm_step.specs.declared.row.Row.TheVariants.{Now, Store, Exchange}
use Rattle.ppm_step.specs.declared.row.Seat.{Seat}
use Rattle.ppm_step.specs.declared.row.Then.TheVariants.{Install}
use Rattle.ppm_frames.specs.Views.{written as write, is_cell}
use Rattle.ppm_frames.specs.Skeletons.{Stand, Begins, Over, Arrives, InPlace, Came, Skeleton, Leaf, grow, at, Around, Top, plug, hook_at, at_rim}
use Rattle.ppm_frames.specs.Good.{Mark, IsPlain, IsFirst, IsFresh, IsHeld, IsInlined, mark, order_of, Framed, Match, Good}
use Rattle.ppm_frames.proofs.WriteLemmas.{write_here}
use Rattle.ppm_frames.proofs.SkeletonLemmas.{grow_plug, branch_from}
use Rattle.ppm_frames.proofs.SwapLemmas.{swap_same, good_same, good_here}
use Rattle.ppm_kept.specs.Running.{IsFair}
use Rattle.ppm_kept.specs.Branches.{is_taker}
use Rattle.ppm_kept.specs.Kept.{Setting, seat_at, side_code, Doing, Resting, InRow, State, put, Blank, ceiling, Free, Reach, Does, Under, Head, Ordered, carried, IsKept}
use Rattle.ppm_kept.specs.Moves.{doing_of, installs}
use Rattle.ppm_kept.specs.Laws.{Ends, kind_then}
use Rattle.ppm_kept.specs.Others.{KeptAt, Claims, Keeps}
use Rattle.ppm_kept.specs.Moves.{exchanges}
use Rattle.ppm_kept.specs.Pushing.{kind_seat}
use Rattle.ppm_kept.specs.Arriving.{by_arrive, ArriveKeeps, ArriveRowKeeps}
use Rattle.ppm_kept.proofs.OtherLemmas.{others_keep}
use Rattle.ppm_kept.proofs.TurnLemmas.{head_cell}
use Rattle.ppm_kept.proofs.PutLemmas.{put_here, put_else}
use Rattle.ppm_kept.proofs.EndingLemmas.{not_ended}
use Rattle.ppm_kept.proofs.BranchLemmas.{same_part}
use Rattle.ppm_kept.proofs.BuildLemmas.{build}
use Rattle.ppm_kept.proofs.PlaceLemmas.{leaf, going, kept_same, is_at_own, is_at_other}
use Rattle.ppm_kept.proofs.ClaimLemmas.{soft_same, soft_leaf, claim_law}

-- the leaf of a place that arrives
pub record Comers (i : Setting) (s : State) (t : Skeleton) (p r : ℕ) (d : Side) : Type 0 where
  pub around : Around
  pub frame : ℕ
  pub slots : ℕ
  pub is : t ≡ plug around (Leaf (InPlace p) Arrives frame slots)
  pub alone : at_rim p around ≡ 0
  pub framed : Framed i.code s.words (hook_at Root around) frame slots
  pub hook : hook_at Root around ≡ Branch d r

comer_at : (i : Setting) (s : State) (t : Skeleton) (p r : ℕ) (d : Side) (c : Around) (st : Stand) (g n : ℕ) → t ≡ plug c (Leaf (InPlace p) st g n) → at_rim p c ≡ 0
    → Framed i.code s.words (hook_at Root c) g n → Match i.code s.words (Arrive r d) (hook_at Root c) st g → Comers i s t p r d
comer_at i s t p r d c Arrives g n is alone framed match = record { around = c; frame = g; slots = n; is = is; alone = alone; framed = framed; hook = match }
comer_at i s t p r d c (Begins z) g n is alone framed match = absurd match
comer_at i s t p r d c Over g n is alone framed match = absurd match

first_is : (d : Side) → first d ≡ side_code d
first_is Left = refl
first_is Right = refl

some_code : (e : Side) → side_code e ≡ 0 → ⊥
some_code Left e = omega (arith, e)
some_code Right e = omega (arith, e)

zero_code : (d : Side) → (0 == side_code d) ≡ false
zero_code Left = refl
zero_code Right = refl

left_order : (e : Mark) → 0 ≡ order_of IsPlain e → order_of IsFirst e ≡ 1
left_order e k = refl

right_order : (e : Mark) → 0 ≡ order_of e IsPlain → order_of e IsFirst ≡ 2
right_order IsPlain k = refl
right_order IsFresh k = refl
right_order IsHeld k = refl
right_order IsFirst k = absurd (omega (arith, k))
right_order IsInlined k = absurd (omega (arith, k))

module _ (i : Setting) (fair : IsFair i.code) (root : Tree (Frame FrameWord Point) Result) (input : Words) (s : State) (t : Skeleton) (law : IsKept i root input s t) (p : ℕ)
    (there : p < i.shape.processors) (keeps : Keeps i s t p) (r : ℕ) (d : Side) (ke : s.kind p ≡ Arrive r d) where
  abbrev m : Cell → ℕ
  m = s.words

  abbrev Law : State → Skeleton → Type 0
  Law z v = IsKept i root input z v

  abbrev o : ℕ
  o = m (BlockWord (r + 1))

  head : Head i s t (r + 1)
  head = subst (Ordered i s t m) ke (law.orders p)

  roof : ceiling i m p (s.kind p) ≡ m (RoomCounter p)
  roof = ap (ceiling i m p) ke

  blank : Blank i m p (m (RoomCounter p))
  blank = subst (Free i m p) ke (law.free p)

  abbrev m' : Cell → ℕ
  m' = write m (BlockWord (r + 1)) (side_code d)

  abbrev seat : ℕ → Seat
  seat b = seat_at p (Arrive r d) b

  abbrev join_then : ℕ → Restart
  join_then b = record { kind = Join r d; bottom = b }

  -- where it then stands, by any words with an order
  stands_on : (own bottom b : ℕ) (z : Cell → ℕ) → (z (BlockWord (r + 1)) ≡ 0 → ⊥) → Does i z p (Arrive r d) (doing_of (stands_then i.shape i.code (kind_seat own p (Arrive r d) bottom) (Install (join_then b))))
  stands_on own bottom b z set = by (then_is_there i.shape (kind_seat own p (Arrive r d) bottom) (Install (join_then b)))
    where
      by : (yes_ : Bool) → Does i z p (Arrive r d) (doing_of (within_if (kind_seat own p (Arrive r d) bottom) (Now (Install (join_then b))) yes_))
      by true = (b, 1, (set, refl))
      by false = tt

  module _ (late : (o == side_code d) ≡ false) where
    come : Comers i s t p r d
    come = let g = leaf i fair root input s t law p (ap (carried m) ke ∙ cond-false {A = ℕ} (o == side_code d) 0 1 late) in
        comer_at i s t p r d g.around g.stand g.frame g.slots g.is g.alone g.framed (subst (λ (k : RestartKind). Match i.code m k (hook_at Root g.around) g.stand g.frame) ke g.match)

    abbrev low : Skeleton
    low = Leaf (InPlace p) Arrives come.frame come.slots

    abbrev comes : Skeleton
    comes = Leaf Came Arrives come.frame come.slots

    abbrev come_ : Stand → ℕ → ℕ → Skeleton
    come_ st f n = Leaf Came st f n

    grown : grow p come_ t ≡ plug come.around comes
    grown = ap (grow p come_) come.is ∙ grow_plug p come_ come.around Arrives come.frame come.slots come.alone

    no_strand : carried m' (Arrive r d) ≡ 0
    no_strand = cond-true {A = ℕ} (m' (BlockWord (r + 1)) == side_code d) 0 1 (eq-eqb (m' (BlockWord (r + 1))) (side_code d) (write_here m (BlockWord (r + 1)) (side_code d)))

    set_now : m' (BlockWord (r + 1)) ≡ 0 → ⊥
    set_now e = some_code d (sym (write_here m (BlockWord (r + 1)) (side_code d)) ∙ e)

    module _ (zero_ : o ≡ 0) (own bottom b : ℕ) where
      abbrev doing : Doing
      doing = doing_of (stands_then i.shape i.code (kind_seat own p (Arrive r d) bottom) (Install (join_then b)))

      abbrev z : State
      z = record { words = m'; kind = s.kind; doing = put s.doing p doing }

      others : (q : ℕ) → q ≢ p → KeptAt i s t m' q
      others q ne = keeps come.around low (BlockWord (r + 1)) (side_code d) come.is come.alone (λ a other. is_at_other p a other) (let a = is_at_own p in omega (arith, a))
          (inr (subst (λ (k : LinkKind). Claims m k (BlockWord (r + 1)) (side_code d)) (sym come.hook) (refl, inl zero_, inl refl))) q ne

      by_side : (e : Side) → hook_at Root come.around ≡ Branch e r → d ≡ e → Law z (grow p come_ t)
      by_side Left he de = elim (branch_from Root come.around r Left he) [
        | inl k ↦ absurd (let b = k.0 in cc)
        | inr a ↦
            let is = come.is ∙ a.is low in
            let good = good_here i.code m s.kind Root a.around _ (subst (Good i.code m s.kind Root) is law.good) in
            let e = a.places p in let f = come.alone in
            subst (IsKept i root input z) (sym (grown ∙ a.is comes))
            (claim_law i fair root input s t law p there r (side_code d) (Arrive r d) ke head (λ n. refl) blank doing a.around a.frame a.slots a.copy low a.beside comes a.beside is (omega (arith, e, f))
            (soft_leaf i.code p come.frame come.slots) (soft_same i.code p a.beside)
            (left_order (mark a.beside) (sym zero_ ∙ good.0.order) ∙ sym (ap side_code de)) (omega (arith, e, f, no_strand)) others (λ b. b) (stands_on own bottom b m' set_now) head (λ x. x) refl)
      ]
      by_side Right he de = elim (branch_from Root come.around r Right he) [
        | inl k ↦ absurd (let b = k.0 in cc)
        | inr a ↦
            let is = come.is ∙ a.is low in
            let good = good_here i.code m s.kind Root a.around _ (subst (Good i.code m s.kind Root) is law.good) in
            let e = a.places p in let f = come.alone in
            subst (IsKept i root input z) (sym (grown ∙ a.is comes))
            (claim_law i fair root input s t law p there r (side_code d) (Arrive r d) ke head (λ n. refl) blank doing a.around a.frame a.slots a.copy a.beside low a.beside comes is (omega (arith, e, f))
            (soft_same i.code p a.beside) (soft_leaf i.code p come.frame come.slots)
            (right_order (mark a.beside) (sym zero_ ∙ good.0.order) ∙ sym (ap side_code de)) (omega (arith, e, f, no_strand)) others (λ b. b) (stands_on own bottom b m' set_now) head (λ x. x) refl)
      ]

      claimed : Law z (grow p come_ t)
      claimed = by_side d come.hook refl

    -- the install of a branch that came later
    late_install : (o ≡ 0 → ⊥) → Law (installs s p (Join r d)) t
    late_install set = subst (IsKept i root input (installs s p (Join r d))) (sym come.is) (build i fair root input s t law p (installs s p (Join r d)) come.around low low (Join r d) Resting (record {
      is = come.is;
      alone = come.alone;
      there = there;
      kind = put_here s.kind p (Join r d);
      kinds = λ q ne. put_else s.kind p (Join r d) q ne;
      doing = put_here s.doing p Resting;
      doings = λ q ne. put_else s.doing p Resting q ne;
      around = λ x ne. refl;
      step = inr (refl, refl);
      swap = swap_same m m (hook_at Root come.around) low (λ x ne. refl);
      good = (come.framed, tt, subst (λ (k : RestartKind). Match i.code m k (hook_at Root come.around) Arrives come.frame) (sym (put_here s.kind p (Join r d))) come.hook);
      adds = λ x. inl (omega arith, omega arith);
      grows = omega (arith, roof);
      pays = omega (arith, roof);
      bound = let b = (law.rooms p).1 in omega (arith, b, roof);
      places = is_at_own p ∙ sym (cond-false {A = ℕ} (o == side_code d) 0 1 late);
      placed = λ q ne. refl;
      free = blank;
      does = tt;
      orders = (head, set);
      others = λ q ne. kept_same i fair root input s t law p q;
      unrun = same_part tt tt refl;
      finishes = not_ended m m t come.around low low come.is refl refl;
    }))

  -- the install of a branch that has no leaf
  module _ (came : (o == side_code d) ≡ true) (set : o ≡ 0 → ⊥) where
    nobody : at p t ≡ 0
    nobody = law.places p ∙ ap (carried m) ke ∙ cond-true {A = ℕ} (o == side_code d) 0 1 came

    first_install : Law (installs s p (Join r d)) t
    first_install = build i fair root input s t law p (installs s p (Join r d)) Top t t (Join r d) Resting (record {
      is = refl;
      alone = refl;
      there = there;
      kind = put_here s.kind p (Join r d);
      kinds = λ q ne. put_else s.kind p (Join r d) q ne;
      doing = put_here s.doing p Resting;
      doings = λ q ne. put_else s.doing p Resting q ne;
      around = λ x ne. refl;
      step = inr (refl, refl);
      swap = swap_same m m Root t (λ x ne. refl);
      good = good_same m m i.code s.kind (put s.kind p (Join r d)) Root t (λ x ne. refl) (λ q some. put_else s.kind p (Join r d) q (λ e. some (ap (λ (a : ℕ). at a t) e ∙ nobody))) law.good;
      adds = λ x. inl (omega arith, omega arith);
      grows = omega (arith, roof);
      pays = omega (arith, roof);
      bound = let b = (law.rooms p).1 in omega (arith, b, roof);
      places = nobody ∙ sym (cond-true {A = ℕ} (o == side_code d) 0 1 came);
      placed = λ q ne. refl;
      free = blank;
      does = tt;
      orders = (head, set);
      others = λ q ne. kept_same i fair root input s t law p q;
      unrun = same_part tt tt refl;
      finishes = λ e. e;
    })

  install : (o ≡ 0 → ⊥) → Law (installs s p (Join r d)) t
  install set = elim (cases_Bool (o == side_code d)) [ inl e ↦ first_install e set | inr e ↦ late_install e set ]

  -- the exchange
  abbrev Exchanged : Bool → ℕ → (own bottom b : ℕ) → Type 0
  Exchanged a w own bottom b = Law (record {
    words = cond a (write m (BlockWord (r + 1)) w) m;
    kind = s.kind;
    doing = put s.doing p (doing_of (stands_then i.shape i.code (kind_seat own p (Arrive r d) bottom) (Install (join_then b))));
  }) (cond a (grow p (λ st f n. Leaf Came st f n) t) t)

  exchange_by : (a : Bool) → (o == 0) ≡ a → (own bottom b : ℕ) → Exchanged a (side_code d) own bottom b
  exchange_by true e own bottom b = let z = eqb-true o 0 e in claimed (ap (λ (x : ℕ). x == side_code d) z ∙ zero_code d) z own bottom b
  exchange_by false e own bottom b = going i fair root input s t law p (ap is_taker ke) (doing_of (stands_then i.shape i.code (kind_seat own p (Arrive r d) bottom) (Install (join_then b))))
      (subst (λ (k : RestartKind). Does i m p k (doing_of (stands_then i.shape i.code (kind_seat own p (Arrive r d) bottom) (Install (join_then b))))) (sym ke)
      (stands_on own bottom b m (λ z. let k : true ≡ false = sym (eq-eqb o 0 z) ∙ e in cc)))

  abbrev RowLaw : Row → Type 0
  RowLaw (Now next) = Ends next → Law (installs s p (kind_then next)) t
  RowLaw (Store cell content next) = ⊥
  RowLaw (Exchange cell old new next) = ((own bottom found : ℕ)
      → Law (exchanges s p cell (word_of old) (word_of new) (went_row i.shape i.code (kind_seat own p (Arrive r d) bottom) found found (Exchange cell old new next))) (by_arrive m p r t))
      × (is_cell i.shape cell ≡ true) × (cell ≡ BlockWord (r + 1))

  exchange : (b : ℕ) → RowLaw (Exchange (BlockWord (r + 1)) (ANumber 0) (ANumber (first d)) (Install (join_then b)))
  exchange b = (λ own bottom found. subst (λ (w : ℕ). Exchanged (o == 0) w own bottom b) (sym (first_is d)) (exchange_by (o == 0) refl own bottom b), head_cell i root input s t law (r + 1) head, refl)

  by_reach : (b j : ℕ) (rest : Row) → Reach i m (seat b) j (row_of i.shape (seat b) (Arrive r d)) rest → RowLaw rest
  by_reach b zero rest q = subst RowLaw q (exchange b)
  by_reach b (suc zero) rest q = subst RowLaw q.1 (λ ends. install q.0)
  by_reach b (suc (suc j)) rest q = absurd q.1

  under_of : (rest : Row) → s.doing p ≡ InRow rest → RowLaw rest
  under_of rest e = let a : Under i m p (Arrive r d) rest = subst₂ (λ (q : RestartKind) (d : Doing). Does i m p q d) ke e (law.does p) in by_reach a.0 a.1 rest a.2

  -- it exchanges the order word of its block alone
  pub arrive_exchanges : (cell : Cell) (old new : Content) (next : Then) → s.doing p ≡ InRow (Exchange cell old new next) → cell ≡ BlockWord (r + 1)
  arrive_exchanges cell old new next e = (under_of (Exchange cell old new next) e).2

  pub arrive_keeps : ArriveKeeps i root input s t p r d
  arrive_keeps = record {
    begins = λ own bottom. going i fair root input s t law p (ap is_taker ke) (InRow (row_of i.shape (kind_seat own p (Arrive r d) bottom) (Arrive r d)))
        (subst (λ (k : RestartKind). Under i m p k (row_of i.shape (kind_seat own p (Arrive r d) bottom) (Arrive r d))) (sym ke) (bottom, 0, refl));
    stores_none = λ cell content next e. under_of (Store cell content next) e;
    exchanges = λ own bottom found cell old new next e. (under_of (Exchange cell old new next) e).0 own bottom found;
    cells = λ cell old new next e. (under_of (Exchange cell old new next) e).1;
    installs = λ next e ends. under_of (Now next) e ends;
    faults = going i fair root input s t law p (ap is_taker ke) Resting tt;
  }

pub arrive_row_keeps : ArriveRowKeeps
arrive_row_keeps i fair root input s t law p there r d ke = arrive_keeps i fair root input s t law p there (others_keep i fair root input s t law p) r d ke
