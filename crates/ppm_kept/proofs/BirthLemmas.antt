-- The blocks that were forked stay below what a place may still open, and the one that it forks next
-- is new.
use Rattle.std.proofs.Common.{◌≡◌, ◌≤◌, ◌<◌, ℕ, ◌+◌, ◌==◌, cond, Bool, true, false, inl, inr, refl, sym, ap, ◌∙◌, subst, subst₂, arith}
use Rattle.std.specs.Prelude.{if◌then◌else◌}
use Rattle.std.proofs.lemmas.Bool.{cases_eq, cases_Bool, eqb-true}
use Rattle.ppm_strands.specs.Tree.{Words, Tree}
use Rattle.ppm_cells.specs.Finish.{finish_word}
use Rattle.ppm_cells.specs.declared.cell.Cell.{Cell}
use Rattle.ppm_cells.specs.declared.cell.Cell.TheVariants.{FinishWord, RoomCounter, BlockWord}
use Rattle.ppm_cells.specs.declared.finish.Finish.TheVariants.{OutOfRoom}
use Rattle.ppm_cells.specs.declared.link.LinkKind.{LinkKind}
use Rattle.ppm_cells.specs.declared.link.LinkKind.TheVariants.{Root, Call as Called, Branch, Fork as Forked}
use Rattle.ppm_cells.specs.declared.restart.RestartKind.{RestartKind}
use Rattle.ppm_cells.specs.declared.restart.RestartKind.TheVariants.{Run, Bump, Push1, Push2, Unwind, Arrive, Join, Pop1, Pop2, Seek, Steal, Check, Take, Take2}
use Rattle.ppm_cells.specs.declared.side.Side.TheVariants.{Left, Right}
use Rattle.ppm_strands.specs.Strand.{Frame}
use Rattle.ppm_code.specs.Code.{EndFits}
use Rattle.ppm_code.specs.Sizes.{procedure_at}
use Rattle.ppm_code.specs.Strands.{Point, Result, instrs_of}
use Rattle.ppm_code.specs.declared.act.End.{End}
use Rattle.ppm_code.specs.declared.act.End.TheVariants.{Next, Finish as Finishing, Trap, Call, Fork as Forking_}
use Rattle.ppm_code.specs.declared.location.FrameWord.{FrameWord}
use Rattle.ppm_strands.specs.Capsule.{Ends as EndsCapsule}
use Rattle.ppm_step.specs.Frames.{Installs, installed}
use Rattle.ppm_step.specs.declared.frame.Home.{Home}
use Rattle.ppm_step.specs.declared.row.Row.TheVariants.{Now}
use Rattle.ppm_step.specs.declared.row.Then.{Then}
use Rattle.ppm_step.specs.declared.row.Then.TheVariants.{Fork}
use Rattle.ppm_frames.specs.Views.{written as write}
use Rattle.ppm_frames.specs.Skeletons.{Begins, InPlace, Skeleton, Leaf, Forking, count, Around, plug, hook_at}
use Rattle.ppm_frames.specs.Good.{link_at, BumpsAt, Match}
use Rattle.ppm_frames.proofs.WriteLemmas.{write_else, address}
use Rattle.ppm_frames.proofs.SkeletonLemmas.{inside_at, branch_from}
use Rattle.ppm_kept.specs.Running.{room_or, HasCome, IsFair, IsClean, Opens, home_at, number_at}
use Rattle.ppm_kept.specs.Kept.{Setting, start, end_of, owner, Doing, Resting, InRow, InRest, State, put, ceiling, carried, Free, Does, IsKept}
use Rattle.ppm_kept.specs.Moves.{doing_of, installs}
use Rattle.ppm_kept.specs.Laws.{Ends, kind_then}
use Rattle.ppm_kept.specs.Births.{floor, Births, with_block, IsNoCounter, IsSteady, AllBirthsStay, OpeningsHaveNone}
use Rattle.ppm_kept.proofs.BumpRow.{Bumps, bump_at}
use Rattle.ppm_kept.proofs.BumpEndLemmas.{BumpEnd, bump_ended}
use Rattle.ppm_kept.proofs.OwnerLemmas.{owned}
use Rattle.ppm_kept.proofs.PlaceLemmas.{leaf, counted}
use Rattle.ppm_kept.proofs.PutLemmas.{put_here, put_else}
use Rattle.ppm_kept.proofs.RunLemmas.{fits, by_installs}

steady_floor : (m : Cell → ℕ) (p : ℕ) (k : RestartKind) → IsSteady k → floor m p k ≡ m (RoomCounter p)
steady_floor m p (Run f y) steady = refl
steady_floor m p (Bump r) steady = absurd steady
steady_floor m p (Push1 r) steady = refl
steady_floor m p (Push2 r) steady = refl
steady_floor m p (Unwind f) steady = refl
steady_floor m p (Arrive r d) steady = refl
steady_floor m p (Join r d) steady = refl
steady_floor m p Pop1 steady = refl
steady_floor m p (Pop2 r) steady = refl
steady_floor m p Seek steady = refl
steady_floor m p (Steal v x) steady = refl
steady_floor m p (Check v x) steady = refl
steady_floor m p (Take v x) steady = refl
steady_floor m p (Take2 v) steady = refl

pub same_floor : (m n : Cell → ℕ) (q : ℕ) → n (RoomCounter q) ≡ m (RoomCounter q) → (k : RestartKind) → floor n q k ≡ floor m q k
same_floor m n q e (Run f y) = e
same_floor m n q e (Bump r) = refl
same_floor m n q e (Push1 r) = e
same_floor m n q e (Push2 r) = e
same_floor m n q e (Unwind f) = e
same_floor m n q e (Arrive r d) = e
same_floor m n q e (Join r d) = e
same_floor m n q e Pop1 = e
same_floor m n q e (Pop2 r) = e
same_floor m n q e Seek = e
same_floor m n q e (Steal v x) = e
same_floor m n q e (Check v x) = e
same_floor m n q e (Take v x) = e
same_floor m n q e (Take2 v) = e

pub counter_same : (m : Cell → ℕ) (c : Cell) (w q : ℕ) → IsNoCounter c → write m c w (RoomCounter q) ≡ m (RoomCounter q)
counter_same m c w q none = write_else m c w (RoomCounter q) (λ e. subst IsNoCounter (sym e) none)

-- the block of a kind that opens one
abbrev block_told : RestartKind → ℕ
block_told (Bump r) = r
block_told _ = 0

module _ (i : Setting) (fair : IsFair i.code) (root : Tree (Frame FrameWord Point) Result) (input : Words) (s : State) (t : Skeleton) (law : IsKept i root input s t)
    (born : ℕ → Bool) (births : Births i s born) (p : ℕ) where
  abbrev m : Cell → ℕ
  m = s.words

  -- words that leave the floors as they are
  words_birth : (n : Cell → ℕ) (d : ℕ → Doing) → ((q : ℕ) → floor n q (s.kind q) ≡ floor m q (s.kind q)) → Births i (record { words = n; kind = s.kind; doing = d }) born
  words_birth n d same = record { below = λ x b. subst (λ (a : ℕ). x < a) (sym (same (owner i x))) (births.below x b); homes = births.homes }

  cell_birth : (cell : Cell) (w : ℕ) (d : ℕ → Doing) → IsNoCounter cell → Births i (record { words = write m cell w; kind = s.kind; doing = d }) born
  cell_birth cell w d none = words_birth (write m cell w) d (λ q. same_floor m (write m cell w) q (counter_same m cell w q none) (s.kind q))

  maybe_birth : (b : Bool) (cell : Cell) (w : ℕ) (d : ℕ → Doing) → IsNoCounter cell → Births i (record { words = cond b (write m cell w) m; kind = s.kind; doing = d }) born
  maybe_birth true cell w d none = cell_birth cell w d none
  maybe_birth false cell w d none = record { below = births.below; homes = births.homes }

  bump_birth : (r w : ℕ) (d : ℕ → Doing) → s.kind p ≡ Bump r → Births i (record { words = write m (RoomCounter p) w; kind = s.kind; doing = d }) born
  bump_birth r w d ke = words_birth (write m (RoomCounter p) w) d (λ q. elim (cases_eq q p) [
    | inl e ↦ subst (λ (k : RestartKind). floor (write m (RoomCounter p) w) q k ≡ floor m q k) (sym (ap s.kind e ∙ ke)) refl
    | inr ne ↦ same_floor m (write m (RoomCounter p) w) q (write_else m (RoomCounter p) w (RoomCounter q) (λ e. ne (ap address e))) (s.kind q)
  ])

  -- another kind of the place, whose floor is no lower
  install_birth : (kind : RestartKind) → floor m p (s.kind p) ≤ floor m p kind → ((r : ℕ) → kind ≡ Bump r → (start i p ≤ r) × (r < end_of i p)) → Births i (installs s p kind) born
  install_birth kind le home = record {
    below = λ x b. elim (cases_eq (owner i x) p) [
      | inl e ↦ subst (λ (a : ℕ). x < floor m a (put s.kind p kind a)) (sym e) (subst (λ (k : RestartKind). x < floor m p k) (sym (put_here s.kind p kind))
          (let lt : x < floor m p (s.kind p) = subst (λ (a : ℕ). x < floor m a (s.kind a)) e (births.below x b) in omega (arith, lt, le)))
      | inr ne ↦ subst (λ (k : RestartKind). x < floor m (owner i x) k) (sym (put_else s.kind p kind (owner i x) ne)) (births.below x b)
    ];
    homes = λ q r e. elim (cases_eq q p) [
      | inl same ↦ subst (λ (a : ℕ). (start i a ≤ r) × (r < end_of i a)) (sym same) (home r (sym (put_here s.kind p kind) ∙ ap (put s.kind p kind) (sym same) ∙ e))
      | inr ne ↦ births.homes q r (sym (put_else s.kind p kind q ne) ∙ e)
    ];
  }

  no_home : (kind : RestartKind) → IsSteady kind → (r : ℕ) → kind ≡ Bump r → (start i p ≤ r) × (r < end_of i p)
  no_home kind steady r e = absurd (subst IsSteady e steady)

  steady_birth : (kind : RestartKind) → IsSteady (s.kind p) → IsSteady kind → Births i (installs s p kind) born
  steady_birth kind was now = install_birth kind (let a = steady_floor m p (s.kind p) was in let b = steady_floor m p kind now in omega (arith, a, b)) (no_home kind now)

  -- the end of a capsule
  module _ (f y : ℕ) (kind : RestartKind) (ke : s.kind p ≡ Run f y) (de : s.doing p ≡ InRest (Installs kind)) where
    come : HasCome i.shape i.code m p f y (Installs kind)
    come = subst₂ (λ (k : RestartKind) (d : Doing). Does i m p k d) ke de (law.does p)

    clean : IsClean i.shape i.code m p f y
    clean = subst (Free i m p) ke (law.free p)

    opens : Opens i.shape i.code m p f y kind
    opens = by_installs i.shape i.code fair m p f y clean kind come

    low : start i p ≤ m (RoomCounter p)
    low = subst (λ (k : RestartKind). start i p ≤ ceiling i m p k) ke (law.rooms p).0

    abbrev home : Home
    home = home_at i.shape i.code m p f y

    abbrev k : ℕ
    k = number_at i.shape i.code m f y

    opened_high : (e : End) → EndFits i.code (procedure_at i.code k) (instrs_of i.code k) e → m (RoomCounter p) ≤ floor m p (installed home e)
    opened_high (Next c) fit = omega arith
    opened_high Finishing fit = omega arith
    opened_high (Trap trap line) fit = omega arith
    opened_high (Call q c to) fit = omega arith
    opened_high (Forking_ a b c lt rt) fit = omega arith

    opened_home : (e : End) → EndFits i.code (procedure_at i.code k) (instrs_of i.code k) e → (r : ℕ) → installed home e ≡ Bump r → (start i p ≤ r) × (r < end_of i p)
    opened_home (Next c) fit r e = absurd (let z = e in cc)
    opened_home Finishing fit r e = absurd (let z = e in cc)
    opened_home (Trap trap line) fit r e = absurd (let z = e in cc)
    opened_home (Call q c to) fit r e =
        let is : m (RoomCounter p) ≡ r = ap block_told e in let a = ap room_or fit.3 in let room = opens.room in
        (omega (arith, is, low), omega (arith, is, a, room))
    opened_home (Forking_ a b c lt rt) fit r e =
        let is : m (RoomCounter p) ≡ r = ap block_told e in let a = ap room_or fit.5 in let room = opens.room in
        (omega (arith, is, low), omega (arith, is, a, room))

    fit : EndFits i.code (procedure_at i.code k) (instrs_of i.code k) opens.end
    fit = fits i.shape i.code fair m p f y (EndsCapsule opens.end) opens.stands

    run_birth : Births i (installs s p kind) born
    run_birth = install_birth kind
        (subst₂ (λ (a b : RestartKind). floor m p a ≤ floor m p b) (sym ke) (sym opens.kind_is) (opened_high opens.end fit))
        (λ r e. opened_home opens.end fit r (sym opens.kind_is ∙ e))

  -- the end of Bump
  module _ (q : ℕ) (ke : s.kind p ≡ Bump q) where
    abbrev Ending : Then → Type 0
    Ending next = BumpEnd i s p q next

    ended : (next : Then) → s.doing p ≡ InRow (Now next) → Ends next → Ending next
    ended next de ends = bump_ended i root input s t law p q ke next de ends

    bump_end_birth : (next : Then) → s.doing p ≡ InRow (Now next) → Ends next → Births i (installs s p (kind_then next)) born
    bump_end_birth next de ends = let e = ended next de ends in install_birth (kind_then next)
        (let a = steady_floor m p (kind_then next) e.steady in let b = ap (floor m p) ke in let w = e.counter in omega (arith, a, b, w)) (no_home (kind_then next) e.steady)

    -- the block is one of the tree
    g : Bumps i s t p q
    g = let g = leaf i fair root input s t law p (ap (carried m) ke) in
        bump_at i s t p q g.around g.stand g.frame g.slots g.is g.alone g.framed g.sized (subst (λ (k : RestartKind). Match i.code m k (hook_at Root g.around) g.stand g.frame) ke g.match)

    abbrev low_leaf : Skeleton
    low_leaf = Leaf (InPlace p) (Begins 0) g.frame g.slots

    in_part : (c : Around) (u : Skeleton) → t ≡ plug c u → 1 ≤ count (hook_at Root c) u q → count Root t q ≡ 0 → ⊥
    in_part c u is one z = let sum = counted i fair root input s t law p c u q is in omega (arith, sum, one, z)

    in_tree : (h : LinkKind) → hook_at Root g.around ≡ h → BumpsAt i.code m h q g.frame → count Root t q ≡ 0 → ⊥
    in_tree (Called x y) he at_ = in_part g.around low_leaf g.is (let one = inside_at g.frame (6 + g.slots) q 0 (omega (arith, at_)) (omega arith) in omega (arith, one))
    in_tree (Branch Left x) he at_ = elim (branch_from Root g.around x Left he) [
      | inl z ↦ absurd (let b = z.0 in cc)
      | inr o ↦ let same = at_.0 in in_part o.around (Forking o.frame o.slots o.copy x low_leaf o.beside) (g.is ∙ o.is low_leaf) (let one = inside_at x 1 q 0 (omega (arith, same)) (omega arith) in omega (arith, one))
    ]
    in_tree Root he at_ = absurd at_
    in_tree (Branch Right x) he at_ = absurd at_
    in_tree (Forked x y) he at_ = absurd at_

    pub mine : owner i q ≡ p
    mine = let h = births.homes p q ke in owned i p q h.0 h.1

    -- the block is longer than nothing
    pub long : q < q + (link_at (m (BlockWord q))).size
    long = subst (λ (k : RestartKind). q < ceiling i m p k) ke (subst (λ (a : ℕ). q < ceiling i m a (s.kind a)) mine (law.below q (in_tree (hook_at Root g.around) refl g.at_)).1)

    pub new : born q ≡ false
    new = elim (cases_Bool (born q)) [
      | inl e ↦ absurd (let lt : q < q = subst (λ (k : RestartKind). q < floor m p k) ke (subst (λ (a : ℕ). q < floor m a (s.kind a)) mine (births.below q e)) in omega (arith, lt))
      | inr e ↦ e
    ]

    module _ (r : ℕ) (de : s.doing p ≡ InRow (Now (Fork r))) where
      end : Ending (Fork r)
      end = ended (Fork r) de tt

      same : q ≡ r
      same = (end.link r refl).0

      rest : Births i (installs s p (Push1 r)) born
      rest = bump_end_birth (Fork r) de tt

      high : r < m (RoomCounter p)
      high = let a = end.counter in let b = (end.link r refl).1 in let c = long in let e = same in omega (arith, a, b, c, e)

      here : (x : ℕ) → r ≡ x → x < floor m (owner i x) (put s.kind p (Push1 r) (owner i x))
      here x e = subst (λ (a : ℕ). a < floor m (owner i a) (put s.kind p (Push1 r) (owner i a))) (same ∙ e)
          (subst (λ (a : ℕ). q < floor m a (put s.kind p (Push1 r) a)) (sym mine) (subst (λ (k : RestartKind). q < floor m p k) (sym (put_here s.kind p (Push1 r))) (let a = high in let e = same in omega (arith, a, e))))

      fork_birth : Births i (installs s p (Push1 r)) (with_block r born)
      fork_birth = record {
        below = λ x b. elim (cases_Bool (r == x)) [
          | inl e ↦ here x (eqb-true r x e)
          | inr e ↦ rest.below x (sym (ap (λ (z : Bool). if z then true else born x) e) ∙ b)
        ];
        homes = rest.homes;
      }

pub births_stay : AllBirthsStay
births_stay i fair root input s t law born births p = record {
  goes_on = λ standing. record { below = births.below; homes = births.homes };
  full = maybe_birth i fair root input s t law born births p (s.words FinishWord == 0) FinishWord (finish_word (OutOfRoom p)) (put s.doing p Resting) tt;
  stored = λ cell w standing none. cell_birth i fair root input s t law born births p cell w (put s.doing p (doing_of standing)) none;
  exchanged = λ cell old new standing none. maybe_birth i fair root input s t law born births p (s.words cell == old) cell new (put s.doing p (doing_of standing)) none;
  bumped = λ r w standing ke. bump_birth i fair root input s t law born births p r w (put s.doing p (doing_of standing)) ke;
  run_installs = λ f y kind ke de. run_birth i fair root input s t law born births p f y kind ke de;
  bump_installs = λ r next ke de ends. bump_end_birth i fair root input s t law born births p r ke next de ends;
  installs_steady = λ kind was now. steady_birth i fair root input s t law born births p kind was now;
  forks = λ q r ke de.
      let e = same i fair root input s t law born births p q ke r de in (
        e,
        subst (λ (a : ℕ). owner i a ≡ p) e (mine i fair root input s t law born births p q ke),
        subst (λ (a : ℕ). born a ≡ false) e (new i fair root input s t law born births p q ke),
        fork_birth i fair root input s t law born births p q ke r de,
      );
}

pub openings_have_none : OpeningsHaveNone
openings_have_none i m p f = record {
  below = λ x b. absurd (let z : false ≡ true = b in cc);
  homes = λ q r e. absurd (elim (cases_eq q p) [
    | inl same ↦ (let z : Run f 0 ≡ Bump r = sym (put_here (λ a. Seek) p (Run f 0)) ∙ ap (put (λ a. Seek) p (Run f 0)) (sym same) ∙ e in cc)
    | inr ne ↦ (let z : Seek ≡ Bump r = sym (put_else (λ a. Seek) p (Run f 0) q ne) ∙ e in cc)
  ]);
}
