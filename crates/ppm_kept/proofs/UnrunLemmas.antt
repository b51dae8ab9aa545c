-- Which right branches of a skeleton were not run, after each step of a place.
use Rattle.std.proofs.Common.{◌≡◌, ◌≢◌, ◌⊎◌, ◌≤◌, ℕ, zero, suc, ◌+◌, ◌==◌, cond, Bool, true, false, inl, inr, refl, sym, ap, ◌∙◌, subst, subst₂, arith, Option, Some, None}
use Rattle.std.specs.Prelude.{nat_lt, if◌then◌else◌}
use Rattle.std.proofs.lemmas.Bool.{cases_Bool, eqb-true}
use Rattle.ppm_strands.specs.Tree.{Words, Tree}
use Rattle.ppm_cells.specs.Cells.{word_count}
use Rattle.ppm_cells.specs.Finish.{finish_of}
use Rattle.ppm_cells.specs.Link.{link_of}
use Rattle.ppm_cells.specs.declared.cell.Cell.{Cell}
use Rattle.ppm_cells.specs.declared.cell.Cell.TheVariants.{BlockWord}
use Rattle.ppm_cells.specs.declared.finish.Finish.{Finish}
use Rattle.ppm_cells.specs.declared.finish.Finish.TheVariants.{Ended, Trapped}
use Rattle.ppm_cells.specs.declared.link.Link.{Link}
use Rattle.ppm_cells.specs.declared.link.LinkKind.{LinkKind}
use Rattle.ppm_cells.specs.declared.link.LinkKind.TheVariants.{Root, Call as Called, Branch, Fork as Forked}
use Rattle.ppm_cells.specs.declared.restart.Restart.{Restart}
use Rattle.ppm_cells.specs.declared.restart.RestartKind.{RestartKind}
use Rattle.ppm_cells.specs.declared.restart.RestartKind.TheVariants.{Run, Bump, Push1, Push2, Unwind, Arrive, Join, Pop1, Pop2, Seek, Steal, Check, Take, Take2}
use Rattle.ppm_cells.specs.declared.shape.Shape.{Shape}
use Rattle.ppm_cells.specs.declared.side.Side.{Side}
use Rattle.ppm_cells.specs.declared.side.Side.TheVariants.{Left, Right}
use Rattle.ppm_strands.specs.Strand.{Frame}
use Rattle.ppm_code.specs.Strands.{Point, Result}
use Rattle.ppm_code.specs.declared.code.CodeParts.{CodeParts}
use Rattle.ppm_code.specs.declared.location.FrameWord.{FrameWord}
use Rattle.ppm_cells.specs.JoinOutcome.{outcome_of_both}
use Rattle.ppm_step.specs.Contents.{content_of, read_so}
use Rattle.ppm_step.specs.Points.{reading_at, cell_at}
use Rattle.ppm_step.specs.Rows.{on_link, on_outcome, if_there, with_kind, after_value, target_found, joins, join_by, join_outcome, is_inline, is_last, row_of, found_at}
use Rattle.ppm_step.specs.declared.content.Content.TheVariants.{ALink, AFinish}
use Rattle.ppm_step.specs.declared.row.Point.{Point as RowPoint}
use Rattle.ppm_step.specs.declared.row.Point.TheVariants.{Target, GivenValue, JoinLink, JoinLeft, JoinRight, RightFrame, Offset}
use Rattle.ppm_step.specs.declared.row.Row.{Row}
use Rattle.ppm_step.specs.declared.row.Row.TheVariants.{Now, Store, Exchange}
use Rattle.ppm_step.specs.declared.row.Seat.{Seat}
use Rattle.ppm_step.specs.declared.row.Then.{Then}
use Rattle.ppm_step.specs.declared.row.Then.TheVariants.{Load, Install, Begin, Broken}
use Rattle.ppm_frames.specs.Skeletons.{Stand, Begins, Over, Arrives, Who, InPlace, Fresh, Waiting, Held, Came, Inlined, Skeleton, Leaf, Calling, Forking, inside, count, holds, grow, back, joined, pushed, readied, over_left, inlined, take_in, Around, Top, AtCall, AtLeft, AtRight, plug, hook_at, at_rim}
use Rattle.ppm_frames.specs.Good.{link_at, Match, Matches, Good}
use Rattle.ppm_frames.proofs.SkeletonLemmas.{count_plug, inside_at, grow_plug, over_plug, branch_from}
use Rattle.ppm_frames.proofs.SwapLemmas.{good_here}
use Rattle.ppm_kept.specs.Running.{IsFair}
use Rattle.ppm_kept.specs.Branches.{Waits}
use Rattle.ppm_kept.specs.Kept.{Setting, seat_at, side_code, Doing, InRow, State, carried, Reach, Under, Does, IsKept}
use Rattle.ppm_kept.specs.Moves.{opened, by_install}
use Rattle.ppm_kept.specs.Returns.{by_unwind}
use Rattle.ppm_kept.specs.Arriving.{by_arrive}
use Rattle.ppm_kept.specs.Joins.{joined_by, by_join}
use Rattle.ppm_kept.specs.Births.{IsSteady}
use Rattle.ppm_kept.specs.Unruns.{IsUnrun, IsLeafOf, HasUnrun, SameUnruns, OneChanges, IsNone, Is, AllUnrunsStay}
use Rattle.ppm_kept.proofs.PlaceLemmas.{leaf, Leafed}
use Rattle.ppm_kept.proofs.JoiningLemmas.{Joining, joint, joining, joins as joins_leaf, inline_late, Comes}
use Rattle.ppm_kept.proofs.JoinLastLemmas.{joined_plug}
use Rattle.ppm_kept.proofs.JoinRow.{first_is, held}
use Rattle.ppm_kept.proofs.TakeRow.{find_wait}

-- a part that has none, and is none
abbrev IsBarren : Skeleton → Type 0
IsBarren v = (w : Who) → IsUnrun w → (IsLeafOf w v → ⊥) × ((r : ℕ) → HasUnrun w r v → ⊥)

leaf_barren : (v : Who) (st : Stand) (f n : ℕ) → (IsUnrun v → ⊥) → IsBarren (Leaf v st f n)
leaf_barren v st f n none w unrun = (λ e. none (subst IsUnrun (sym e) unrun), λ r h. h)

-- where the leaf of a place becomes a part that has none
module _ (p : ℕ) (u : Stand → ℕ → ℕ → Skeleton) (barren : (st : Stand) (f n : ℕ) → IsBarren (u st f n)) (w : Who) (unrun : IsUnrun w) where
  grown_leaf : (b : Skeleton) → IsLeafOf w b → IsLeafOf w (grow p u b)
  grown_leaf (Leaf (InPlace q) st f n) e = absurd (subst IsUnrun (sym e) unrun)
  grown_leaf (Leaf Fresh st f n) e = e
  grown_leaf (Leaf Waiting st f n) e = e
  grown_leaf (Leaf Held st f n) e = e
  grown_leaf (Leaf Came st f n) e = e
  grown_leaf (Leaf Inlined st f n) e = e
  grown_leaf (Calling f n y t) e = absurd e
  grown_leaf (Forking f n y q a b) e = absurd e

  leaf_grown : (b : Skeleton) → IsLeafOf w (grow p u b) → IsLeafOf w b
  leaf_grown (Leaf (InPlace q) st f n) e = by (q == p) e
    where
      by : (z : Bool) → IsLeafOf w (cond z (u st f n) (Leaf (InPlace q) st f n)) → IsLeafOf w (Leaf (InPlace q) st f n)
      by true e = absurd ((barren st f n w unrun).0 e)
      by false e = e
  leaf_grown (Leaf Fresh st f n) e = e
  leaf_grown (Leaf Waiting st f n) e = e
  leaf_grown (Leaf Held st f n) e = e
  leaf_grown (Leaf Came st f n) e = e
  leaf_grown (Leaf Inlined st f n) e = e
  leaf_grown (Calling f n y t) e = absurd e
  leaf_grown (Forking f n y q a b) e = absurd e

  grown_has : (r : ℕ) (t : Skeleton) → HasUnrun w r t → HasUnrun w r (grow p u t)
  grown_has r (Leaf v st f n) h = absurd h
  grown_has r (Calling f n y t) h = grown_has r t h
  grown_has r (Forking f n y q a b) (inl h) = inl (h.0, grown_leaf b h.1)
  grown_has r (Forking f n y q a b) (inr (inl h)) = inr (inl (grown_has r a h))
  grown_has r (Forking f n y q a b) (inr (inr h)) = inr (inr (grown_has r b h))

  has_grown : (r : ℕ) (t : Skeleton) → HasUnrun w r (grow p u t) → HasUnrun w r t
  has_grown r (Leaf (InPlace q) st f n) h = by (q == p) h
    where
      by : (z : Bool) → HasUnrun w r (cond z (u st f n) (Leaf (InPlace q) st f n)) → ⊥
      by true h = (barren st f n w unrun).1 r h
      by false h = h
  has_grown r (Leaf Fresh st f n) h = h
  has_grown r (Leaf Waiting st f n) h = h
  has_grown r (Leaf Held st f n) h = h
  has_grown r (Leaf Came st f n) h = h
  has_grown r (Leaf Inlined st f n) h = h
  has_grown r (Calling f n y t) h = has_grown r t h
  has_grown r (Forking f n y q a b) (inl h) = inl (h.0, leaf_grown b h.1)
  has_grown r (Forking f n y q a b) (inr (inl h)) = inr (inl (has_grown r a h))
  has_grown r (Forking f n y q a b) (inr (inr h)) = inr (inr (has_grown r b h))

grow_same : (p : ℕ) (u : Stand → ℕ → ℕ → Skeleton) → ((st : Stand) (f n : ℕ) → IsBarren (u st f n)) → (t : Skeleton) → SameUnruns t (grow p u t)
grow_same p u barren t = record { on = λ w unrun r h. grown_has p u barren w unrun r t h; back = λ w unrun r h. has_grown p u barren w unrun r t h }

same_itself : (t : Skeleton) → SameUnruns t t
same_itself t = record { on = λ w unrun r h. h; back = λ w unrun r h. h }

-- where a frame that waits for the callee of a place goes on
held_none : (p : ℕ) (w : Who) (r : ℕ) (t : Skeleton) → holds p t ≡ true → HasUnrun w r t → ⊥
held_none p w r (Leaf v st f n) e h = h
held_none p w r (Calling f n y t) e h = let z : false ≡ true = e in cc
held_none p w r (Forking f n y q a b) e h = let z : false ≡ true = e in cc

module _ (p : ℕ) (k : ℕ → Stand) (w : Who) (unrun : IsUnrun w) where
  backed_leaf : (b : Skeleton) → IsLeafOf w b → IsLeafOf w (back p k b)
  backed_leaf (Leaf v st f n) e = e
  backed_leaf (Calling f n y t) e = absurd e
  backed_leaf (Forking f n y q a b) e = absurd e

  leaf_backed : (b : Skeleton) → IsLeafOf w (back p k b) → IsLeafOf w b
  leaf_backed (Leaf v st f n) e = e
  leaf_backed (Calling f n y t) e = by (holds p t) e
    where
      by : (z : Bool) → IsLeafOf w (cond z (Leaf (InPlace p) (k y) f n) (Calling f n y (back p k t))) → ⊥
      by true e = subst IsUnrun (sym e) unrun
      by false e = e
  leaf_backed (Forking f n y q a b) e = absurd e

  backed_has : (r : ℕ) (t : Skeleton) → HasUnrun w r t → HasUnrun w r (back p k t)
  backed_has r (Leaf v st f n) h = absurd h
  backed_has r (Calling f n y t) h = by (holds p t) refl (backed_has r t h)
    where
      by : (z : Bool) → holds p t ≡ z → HasUnrun w r (back p k t) → HasUnrun w r (cond z (Leaf (InPlace p) (k y) f n) (Calling f n y (back p k t)))
      by true e again = absurd (held_none p w r t e h)
      by false e again = again
  backed_has r (Forking f n y q a b) (inl h) = inl (h.0, backed_leaf b h.1)
  backed_has r (Forking f n y q a b) (inr (inl h)) = inr (inl (backed_has r a h))
  backed_has r (Forking f n y q a b) (inr (inr h)) = inr (inr (backed_has r b h))

  has_backed : (r : ℕ) (t : Skeleton) → HasUnrun w r (back p k t) → HasUnrun w r t
  has_backed r (Leaf v st f n) h = absurd h
  has_backed r (Calling f n y t) h = by (holds p t) h (λ x. has_backed r t x)
    where
      by : (z : Bool) → HasUnrun w r (cond z (Leaf (InPlace p) (k y) f n) (Calling f n y (back p k t))) → (HasUnrun w r (back p k t) → HasUnrun w r t) → HasUnrun w r t
      by true h again = absurd h
      by false h again = again h
  has_backed r (Forking f n y q a b) (inl h) = inl (h.0, leaf_backed b h.1)
  has_backed r (Forking f n y q a b) (inr (inl h)) = inr (inl (has_backed r a h))
  has_backed r (Forking f n y q a b) (inr (inr h)) = inr (inr (has_backed r b h))

back_same : (p : ℕ) (k : ℕ → Stand) (t : Skeleton) → SameUnruns t (back p k t)
back_same p k t = record { on = λ w unrun r h. backed_has p k w unrun r t h; back = λ w unrun r h. has_backed p k w unrun r t h }

-- where a part is swapped for another
leaf_plug : (w : Who) (c : Around) (u v : Skeleton) → (IsLeafOf w u → IsLeafOf w v) → IsLeafOf w (plug c u) → IsLeafOf w (plug c v)
leaf_plug w Top u v go x = go x
leaf_plug w (AtCall g n y c) u v go x = absurd x
leaf_plug w (AtLeft g n y q c b) u v go x = absurd x
leaf_plug w (AtRight g n y q a c) u v go x = absurd x

has_plug : (w : Who) (r : ℕ) (c : Around) (u v : Skeleton) → (IsLeafOf w u → IsLeafOf w v) → (HasUnrun w r u → HasUnrun w r v) → HasUnrun w r (plug c u) → HasUnrun w r (plug c v)
has_plug w r Top u v leaf go x = go x
has_plug w r (AtCall g n y c) u v leaf go x = has_plug w r c u v leaf go x
has_plug w r (AtLeft g n y q c b) u v leaf go (inl x) = inl x
has_plug w r (AtLeft g n y q c b) u v leaf go (inr (inl x)) = inr (inl (has_plug w r c u v leaf go x))
has_plug w r (AtLeft g n y q c b) u v leaf go (inr (inr x)) = inr (inr x)
has_plug w r (AtRight g n y q a c) u v leaf go (inl x) = inl (x.0, leaf_plug w c u v leaf x.1)
has_plug w r (AtRight g n y q a c) u v leaf go (inr (inl x)) = inr (inl x)
has_plug w r (AtRight g n y q a c) u v leaf go (inr (inr x)) = inr (inr (has_plug w r c u v leaf go x))

barren_same : (t s : Skeleton) (c : Around) (u v : Skeleton) → t ≡ plug c u → s ≡ plug c v → IsBarren u → IsBarren v → SameUnruns t s
barren_same t s c u v is then_ none now = record {
  on = λ w unrun r h. subst (HasUnrun w r) (sym then_) (has_plug w r c u v (λ x. absurd ((none w unrun).0 x)) (λ x. absurd ((none w unrun).1 r x)) (subst (HasUnrun w r) is h));
  back = λ w unrun r h. subst (HasUnrun w r) (sym is) (has_plug w r c v u (λ x. absurd ((now w unrun).0 x)) (λ x. absurd ((now w unrun).1 r x)) (subst (HasUnrun w r) then_ h));
}

-- a block is in the tree once
pub head_in : (q r : ℕ) → q ≡ r → 1 ≤ inside q 1 r
head_in q r e = inside_at q 1 r 0 (omega (arith, e)) (omega arith)

pub has_count : (w : Who) (r : ℕ) (h : LinkKind) (t : Skeleton) → HasUnrun w r t → 1 ≤ count h t r
has_count w r h (Leaf v st f n) x = absurd x
has_count w r h (Calling f n y t) x = let one = has_count w r (Called f y) t x in omega (arith, one)
has_count w r h (Forking f n y q a b) (inl x) = let one = head_in q r x.0 in omega (arith, one)
has_count w r h (Forking f n y q a b) (inr (inl x)) = let one = has_count w r (Branch Left q) a x in omega (arith, one)
has_count w r h (Forking f n y q a b) (inr (inr x)) = let one = has_count w r (Branch Right q) b x in omega (arith, one)

module _ (w : Who) (r f n y : ℕ) (a b : Skeleton) where
  abbrev fork : Skeleton
  fork = Forking f n y r a b

  fork_count : (h : LinkKind) (c : Around) → 1 ≤ count h (plug c fork) r
  fork_count h c = let sum = count_plug h c fork r in let one = head_in r r refl in omega (arith, sum, one)

  -- the right branch of a block that is in the tree once is what is seen of the block
  here_only : (h : LinkKind) (c : Around) → count h (plug c fork) r ≤ 1 → HasUnrun w r (plug c fork) → IsLeafOf w b
  here_only h Top most (inl x) = x.1
  here_only h Top most (inr (inl x)) = absurd (let one = has_count w r (Branch Left r) a x in let two = head_in r r refl in omega (arith, most, one, two))
  here_only h Top most (inr (inr x)) = absurd (let one = has_count w r (Branch Right r) b x in let two = head_in r r refl in omega (arith, most, one, two))
  here_only h (AtCall g l z c) most x = here_only (Called g z) c (omega (arith, most)) x
  here_only h (AtLeft g l z q c d) most (inl x) = absurd (let one = head_in q r x.0 in let two = fork_count (Branch Left q) c in omega (arith, most, one, two))
  here_only h (AtLeft g l z q c d) most (inr (inl x)) = here_only (Branch Left q) c (omega (arith, most)) x
  here_only h (AtLeft g l z q c d) most (inr (inr x)) = absurd (let one = has_count w r (Branch Right q) d x in let two = fork_count (Branch Left q) c in omega (arith, most, one, two))
  here_only h (AtRight g l z q d c) most (inl x) = absurd (let one = head_in q r x.0 in let two = fork_count (Branch Right q) c in omega (arith, most, one, two))
  here_only h (AtRight g l z q d c) most (inr (inl x)) = absurd (let one = has_count w r (Branch Left q) d x in let two = fork_count (Branch Right q) c in omega (arith, most, one, two))
  here_only h (AtRight g l z q d c) most (inr (inr x)) = here_only (Branch Right q) c (omega (arith, most)) x

  pub here_has : (c : Around) → IsLeafOf w b → HasUnrun w r (plug c fork)
  here_has Top x = inl (refl, x)
  here_has (AtCall g l z c) x = here_has c x
  here_has (AtLeft g l z q c d) x = inr (inl (here_has c x))
  here_has (AtRight g l z q d c) x = inr (inr (here_has c x))

-- the right branch of a fork is swapped for another leaf, and the left one for a part like it
module _ (t s : Skeleton) (c : Around) (r f n y : ℕ) (a b a' b' : Skeleton) (is : t ≡ plug c (Forking f n y r a b)) (then_ : s ≡ plug c (Forking f n y r a' b'))
    (once : (x : ℕ) → count Root t x ≤ 1) (once' : (x : ℕ) → count Root s x ≤ 1)
    (left : (w : Who) (x : ℕ) → (HasUnrun w x a → HasUnrun w x a') × (HasUnrun w x a' → HasUnrun w x a)) (right : (w : Who) (x : ℕ) → (HasUnrun w x b → HasUnrun w x b') × (HasUnrun w x b' → HasUnrun w x b)) where
  fork_on : (w : Who) (x : ℕ) → x ≢ r → HasUnrun w x (Forking f n y r a b) → HasUnrun w x (Forking f n y r a' b')
  fork_on w x ne (inl h) = absurd (ne (sym h.0))
  fork_on w x ne (inr (inl h)) = inr (inl ((left w x).0 h))
  fork_on w x ne (inr (inr h)) = inr (inr ((right w x).0 h))

  fork_back : (w : Who) (x : ℕ) → x ≢ r → HasUnrun w x (Forking f n y r a' b') → HasUnrun w x (Forking f n y r a b)
  fork_back w x ne (inl h) = absurd (ne (sym h.0))
  fork_back w x ne (inr (inl h)) = inr (inl ((left w x).1 h))
  fork_back w x ne (inr (inr h)) = inr (inr ((right w x).1 h))

  fork_changes : OneChanges r (λ w. IsLeafOf w b) (λ w. IsLeafOf w b') t s
  fork_changes = record {
    others = λ w unrun x ne. (
      λ h. subst (HasUnrun w x) (sym then_) (has_plug w x c (Forking f n y r a b) (Forking f n y r a' b') (λ z. z) (fork_on w x ne) (subst (HasUnrun w x) is h)),
      λ h. subst (HasUnrun w x) (sym is) (has_plug w x c (Forking f n y r a' b') (Forking f n y r a b) (λ z. z) (fork_back w x ne) (subst (HasUnrun w x) then_ h)),
    );
    old = λ w unrun. (
      λ h. here_only w r f n y a b Root c (subst (λ (z : Skeleton). count Root z r ≤ 1) is (once r)) (subst (HasUnrun w r) is h),
      λ h. subst (HasUnrun w r) (sym is) (here_has w r f n y a b c h),
    );
    new = λ w unrun. (
      λ h. here_only w r f n y a' b' Root c (subst (λ (z : Skeleton). count Root z r ≤ 1) then_ (once' r)) (subst (HasUnrun w r) then_ h),
      λ h. subst (HasUnrun w r) (sym then_) (here_has w r f n y a' b' c h),
    );
  }

-- one leaf for another counts the same words
once_then : (t s : Skeleton) (c : Around) (u v : Skeleton) → t ≡ plug c u → s ≡ plug c v → ((x : ℕ) → count (hook_at Root c) v x ≡ count (hook_at Root c) u x) → ((x : ℕ) → count Root t x ≤ 1) → (x : ℕ) → count Root s x ≤ 1
once_then t s c u v is then_ same once x =
    let a : count Root t x ≡ count Root (plug c u) x = ap (λ (z : Skeleton). count Root z x) is in let b : count Root s x ≡ count Root (plug c v) x = ap (λ (z : Skeleton). count Root z x) then_ in
    let d = count_plug Root c u x in let e = count_plug Root c v x in let k = same x in let o = once x in omega (arith, a, b, d, e, k, o)

both_same : (a : Skeleton) (w : Who) (x : ℕ) → (HasUnrun w x a → HasUnrun w x a) × (HasUnrun w x a → HasUnrun w x a)
both_same a w x = (λ h. h, λ h. h)

-- a branch that has come was run
come_run : (code : CodeParts) (m : Cell → ℕ) (k : ℕ → RestartKind) (h : LinkKind) (v : Who) (f : ℕ) → Matches code m k h v Arrives f → IsUnrun v → ⊥
come_run code m k h (InPlace q) f match unrun = unrun
come_run code m k h Came f match unrun = unrun
come_run code m k h Inlined f match unrun = unrun
come_run code m k h Fresh f match unrun = let d = match.0 in cc
come_run code m k h Waiting f match unrun = let d = match.0 in cc
come_run code m k h Held f match unrun = let d = match.0 in cc

pub record PushShape (t : Skeleton) (p r : ℕ) : Type 0 where
  pub around : Around
  pub frame : ℕ
  pub slots : ℕ
  pub copy : ℕ
  pub stand : Stand
  pub low : ℕ
  pub low_slots : ℕ
  pub beside : Skeleton
  pub is : t ≡ plug around (Forking frame slots copy r (Leaf (InPlace p) stand low low_slots) beside)
  pub alone : at_rim p around ≡ 0

-- what was run is none of these
gone : (r : ℕ) (was : Who → Type 0) (v : Who) (t s : Skeleton) → (IsUnrun v → ⊥) → OneChanges r was (Is v) t s → OneChanges r was IsNone t s
gone r was v t s run a = record {
  others = a.others;
  old = a.old;
  new = λ w unrun. (λ h. run (subst IsUnrun (sym ((a.new w unrun).0 h)) unrun), λ x. absurd x);
}

readied_same : (u : Who) (b : Skeleton) → (IsLeafOf Fresh b → ⊥) → readied u b ≡ b
readied_same u (Leaf Fresh st f n) none = absurd (none refl)
readied_same u (Leaf (InPlace q) st f n) none = refl
readied_same u (Leaf Waiting st f n) none = refl
readied_same u (Leaf Held st f n) none = refl
readied_same u (Leaf Came st f n) none = refl
readied_same u (Leaf Inlined st f n) none = refl
readied_same u (Calling f n y t) none = refl
readied_same u (Forking f n y q a b) none = refl

-- the loads of the row of a last branch, after which none begins
abbrev LastPoint : RowPoint → Type 0
LastPoint (JoinLink r) = Unit {0}
LastPoint (JoinLeft r g y) = Unit {0}
LastPoint (JoinRight r g y left) = Unit {0}
LastPoint (Target f g y right_of) = Unit {0}
LastPoint (GivenValue f g y x right_of) = Unit {0}
LastPoint (RightFrame r g y) = Unit {0}
LastPoint _ = ⊥

abbrev LastThen : Then → Type 0
LastThen (Load point) = LastPoint point
LastThen (Begin x f b) = ⊥
LastThen _ = Unit {0}

abbrev LastRow : Row → Type 0
LastRow (Now next) = LastThen next
LastRow (Store c w next) = LastThen next
LastRow (Exchange c old new next) = LastThen next

module _ (s : Shape) (seat : Seat) where
  last_if : (x : ℕ) (row : Row) → LastRow row → LastRow (if_there s x row)
  last_if x row a = by (nat_lt x (word_count s))
    where
      by : (b : Bool) → LastRow (if b then row else Now Broken)
      by true = a
      by false = tt

  last_link : (go : Link → Row) (o : Option Link) → ((l : Link) → LastRow (go l)) → LastRow (on_link (read_so ALink o) go)
  last_link go None a = tt
  last_link go (Some l) a = a l

  last_outcome : (go : Finish → Row) (o : Option Finish) → ((x : Finish) → LastRow (go x)) → LastRow (on_outcome (read_so AFinish o) go)
  last_outcome go None a = tt
  last_outcome go (Some Ended) a = a Ended
  last_outcome go (Some (Trapped trap line)) a = a (Trapped trap line)
  last_outcome go (Some _) a = tt

  last_by : (r : ℕ) (k : LinkKind) → LastRow (join_by r k)
  last_by r (Forked g y) = tt
  last_by r (Called g y) = tt
  last_by r Root = tt
  last_by r (Branch d x) = tt

  last_joined : (r g y : ℕ) (x : Finish) → LastRow (join_outcome seat r g y x)
  last_joined r g y Ended = tt
  last_joined r g y _ = tt

  last_after : (g y : ℕ) (right_of : Option ℕ) → LastThen (after_value seat g y right_of)
  last_after g y None = tt
  last_after g y (Some r) = tt

  last_target : (f g y : ℕ) (right_of : Option ℕ) (x : ℕ) → LastRow (target_found seat f g y right_of x)
  last_target f g y right_of zero = last_after g y right_of
  last_target f g y right_of (suc x) = tt

  last_found : (point : RowPoint) → LastPoint point → (w : ℕ) → LastRow (found_at s seat 0 point (content_of (reading_at point) w))
  last_found (JoinLink r) h w = last_link (λ l. join_by r l.kind) (link_of w) (λ l. last_by r l.kind)
  last_found (JoinLeft r g y) h w = last_outcome (λ left. Now (Load (JoinRight r g y left))) (finish_of w) (λ x. tt)
  last_found (JoinRight r g y left) h w = last_outcome (λ right. join_outcome seat r g y (outcome_of_both left right)) (finish_of w) (λ x. last_joined r g y (outcome_of_both left x))
  last_found (Target f g y right_of) h w = last_target f g y right_of w
  last_found (GivenValue f g y x right_of) h w = last_if (g + 5 + x) _ (last_after g y right_of)
  last_found (RightFrame r g y) h w = last_if (r + w) (Now (Load (Target (r + w) g y None))) tt
  last_found _ h w = absurd h

-- a first branch goes idle; one strand of both goes on with the right one
abbrev CameRow : Row → Type 0
CameRow (Now (Install restart)) = restart.kind ≡ Pop1
CameRow (Now (Begin q f b)) = ⊥
CameRow _ = Unit {0}

abbrev InlineRow : ℕ → Row → Type 0
InlineRow r (Now (Install restart)) = ⊥
InlineRow r (Now (Begin q f b)) = q ≡ r
InlineRow r _ = Unit {0}

module _ (i : Setting) (fair : IsFair i.code) (root : Tree (Frame FrameWord Point) Result) (input : Words) (s : State) (t : Skeleton) (law : IsKept i root input s t) (p : ℕ) where
  abbrev m : Cell → ℕ
  m = s.words

  stand_barren : (st : Stand) (f n : ℕ) → IsBarren (Leaf (InPlace p) st f n)
  stand_barren st f n = leaf_barren (InPlace p) st f n (λ x. x)

  runs : (f y : ℕ) (kind : RestartKind) → IsSteady kind → SameUnruns t (by_install i m p (Run f y) kind t)
  runs f y (Run g z) steady = grow_same p (λ st f n. Leaf (InPlace p) (Begins z) f n) (λ st f n. stand_barren (Begins z) f n) t
  runs f y (Bump r) steady = absurd steady
  runs f y (Push1 r) steady = same_itself t
  runs f y (Push2 r) steady = same_itself t
  runs f y (Unwind g) steady = grow_same p (λ st f n. Leaf (InPlace p) Over f n) (λ st f n. stand_barren Over f n) t
  runs f y (Arrive r d) steady = same_itself t
  runs f y (Join r d) steady = same_itself t
  runs f y Pop1 steady = same_itself t
  runs f y (Pop2 r) steady = same_itself t
  runs f y Seek steady = same_itself t
  runs f y (Steal v x) steady = same_itself t
  runs f y (Check v x) steady = same_itself t
  runs f y (Take v x) steady = same_itself t
  runs f y (Take2 v) steady = same_itself t

  unwinds : (kind : RestartKind) → SameUnruns t (by_unwind p kind t)
  unwinds (Run g z) = back_same p (λ z. Begins z) t
  unwinds (Bump r) = same_itself t
  unwinds (Push1 r) = same_itself t
  unwinds (Push2 r) = same_itself t
  unwinds (Unwind g) = back_same p (λ z. Over) t
  unwinds (Arrive r d) = grow_same p (λ st f n. Leaf (InPlace p) Arrives f n) (λ st f n. stand_barren Arrives f n) t
  unwinds (Join r d) = same_itself t
  unwinds Pop1 = same_itself t
  unwinds (Pop2 r) = same_itself t
  unwinds Seek = same_itself t
  unwinds (Steal v x) = same_itself t
  unwinds (Check v x) = same_itself t
  unwinds (Take v x) = same_itself t
  unwinds (Take2 v) = same_itself t

  arrives : (r : ℕ) → SameUnruns t (by_arrive m p r t)
  arrives r = by (m (BlockWord (r + 1)) == 0)
    where
      by : (b : Bool) → SameUnruns t (cond b (grow p (λ st f n. Leaf Came st f n) t) t)
      by true = grow_same p (λ st f n. Leaf Came st f n) (λ st f n. leaf_barren Came st f n (λ x. x)) t
      by false = same_itself t

  calls : (f y r g z : ℕ) → (link_at (m (BlockWord r))).kind ≡ Called g z → SameUnruns t (by_install i m p (Run f y) (Bump r) t)
  calls f y r g z e = subst (λ (k : LinkKind). SameUnruns t (grow p (opened i m p r k) t)) (sym e) (grow_same p (opened i m p r (Called g z)) (λ st f n w unrun. (λ x. x, λ x h. h)) t)

  -- a fork is opened
  module _ (f y r g z : ℕ) (ke : s.kind p ≡ Run f y) (linked : (link_at (m (BlockWord r))).kind ≡ Forked g z) (most : (x : ℕ) → count Root (by_install i m p (Run f y) (Bump r) t) x ≤ 1) where
    abbrev after : Skeleton
    after = by_install i m p (Run f y) (Bump r) t

    own : Leafed i s t p
    own = leaf i fair root input s t law p (ap (carried m) ke)

    abbrev c : Around
    c = own.around

    abbrev old_leaf : Skeleton
    old_leaf = Leaf (InPlace p) own.stand own.frame own.slots

    abbrev new_fork : Skeleton
    new_fork = opened i m p r (Forked g z) own.stand own.frame own.slots

    then_ : after ≡ plug c new_fork
    then_ = ap (λ (k : LinkKind). grow p (opened i m p r k) t) linked ∙ ap (grow p (opened i m p r (Forked g z))) own.is ∙ grow_plug p (opened i m p r (Forked g z)) c own.stand own.frame own.slots own.alone

    fork_back_ : (w : Who) (x : ℕ) → x ≢ r → HasUnrun w x new_fork → ⊥
    fork_back_ w x ne (inl h) = ne (sym h.0)
    fork_back_ w x ne (inr (inl h)) = h
    fork_back_ w x ne (inr (inr h)) = h

    not_before : (w : Who) → HasUnrun w r t → ⊥
    not_before w h =
        let a = has_count w r Root t h in
        let before : count Root t r ≡ count Root (plug c old_leaf) r = ap (λ (q : Skeleton). count Root q r) own.is in
        let now : count Root after r ≡ count Root (plug c new_fork) r = ap (λ (q : Skeleton). count Root q r) then_ in
        let d = count_plug Root c old_leaf r in let e = count_plug Root c new_fork r in let o = most r in let one = head_in r r refl in
        omega (arith, a, before, now, d, e, o, one)

    opens : OneChanges r IsNone (Is Fresh) t after
    opens = record {
      others = λ w unrun x ne. (
        λ h. subst (HasUnrun w x) (sym then_) (has_plug w x c old_leaf new_fork (λ e. absurd (subst IsUnrun (sym e) unrun)) (λ e. absurd e) (subst (HasUnrun w x) own.is h)),
        λ h. subst (HasUnrun w x) (sym own.is) (has_plug w x c new_fork old_leaf (λ e. absurd e) (λ e. fork_back_ w x ne e) (subst (HasUnrun w x) then_ h)),
      );
      old = λ w unrun. (λ h. not_before w h, λ e. absurd e);
      new = λ w unrun. (
        λ h. here_only w r own.frame own.slots z _ _ Root c (subst (λ (q : Skeleton). count Root q r ≤ 1) then_ (most r)) (subst (HasUnrun w r) then_ h),
        λ e. subst (HasUnrun w r) (sym then_) (here_has w r own.frame own.slots z _ _ c e),
      );
    }

  -- the fork whose left branch is the place's
  shape_by : (k : RestartKind) → s.kind p ≡ k → carried m k ≡ 1 → (r : ℕ) → ((h : LinkKind) (st : Stand) (f : ℕ) → Match i.code m k h st f → h ≡ Branch Left r) → PushShape t p r
  shape_by k ke one r told =
      let g = leaf i fair root input s t law p (ap (carried m) ke ∙ one) in
      let he = told (hook_at Root g.around) g.stand g.frame (subst (λ (q : RestartKind). Match i.code m q (hook_at Root g.around) g.stand g.frame) ke g.match) in
      elim (branch_from Root g.around r Left he) [
        | inl z ↦ absurd (let b = z.0 in cc)
        | inr o ↦ record {
          around = o.around;
          frame = o.frame;
          slots = o.slots;
          copy = o.copy;
          stand = g.stand;
          low = g.frame;
          low_slots = g.slots;
          beside = o.beside;
          is = g.is ∙ o.is (Leaf (InPlace p) g.stand g.frame g.slots);
          alone = let e = o.places p in let a = g.alone in omega (arith, e, a);
        }
      ]

  push1_hook : (r : ℕ) (h : LinkKind) (st : Stand) (f : ℕ) → Match i.code m (Push1 r) h st f → h ≡ Branch Left r
  push1_hook r h (Begins y) f a = a.1
  push1_hook r h Over f a = absurd a
  push1_hook r h Arrives f a = absurd a

  push2_hook : (r : ℕ) (h : LinkKind) (st : Stand) (f : ℕ) → Match i.code m (Push2 r) h st f → h ≡ Branch Left r
  push2_hook r h (Begins y) f a = a.1
  push2_hook r h Over f a = absurd a
  push2_hook r h Arrives f a = absurd a

  pub shape : (r : ℕ) → (s.kind p ≡ Push1 r) ⊎ (s.kind p ≡ Push2 r) → PushShape t p r
  shape r (inl ke) = shape_by (Push1 r) ke refl r (push1_hook r)
  shape r (inr ke) = shape_by (Push2 r) ke refl r (push2_hook r)

  module _ (r : ℕ) (u : Who) (pushing : (s.kind p ≡ Push1 r) ⊎ (s.kind p ≡ Push2 r)) where
    abbrev sh : PushShape t p r
    sh = shape r pushing

    abbrev low : Skeleton
    low = Leaf (InPlace p) sh.stand sh.low sh.low_slots

    over_is : (b : Skeleton) → t ≡ plug sh.around (Forking sh.frame sh.slots sh.copy r low b) → over_left p (pushed u) t ≡ plug sh.around (Forking sh.frame sh.slots sh.copy r low (readied u b))
    over_is b is = ap (over_left p (pushed u)) is ∙ over_plug p (pushed u) sh.around sh.frame sh.slots sh.copy r sh.stand sh.low sh.low_slots b sh.alone

    push_by : (b : Skeleton) → sh.beside ≡ b → IsLeafOf Fresh b → OneChanges r (Is Fresh) (Is u) t (over_left p (pushed u) t)
    push_by (Leaf v st f n) e fresh =
        let is = sh.is ∙ ap (λ (z : Skeleton). plug sh.around (Forking sh.frame sh.slots sh.copy r low z)) (e ∙ ap (λ (a : Who). Leaf a st f n) fresh) in
        let then_ = over_is (Leaf Fresh st f n) is in
        fork_changes t (over_left p (pushed u) t) sh.around r sh.frame sh.slots sh.copy low (Leaf Fresh st f n) low (Leaf u st f n) is then_ law.apart
        (once_then t (over_left p (pushed u) t) sh.around (Forking sh.frame sh.slots sh.copy r low (Leaf Fresh st f n)) (Forking sh.frame sh.slots sh.copy r low (Leaf u st f n)) is then_ (λ x. refl) law.apart)
        (both_same low) (λ w x. (λ h. h, λ h. h))
    push_by (Calling f n y q) e fresh = absurd fresh
    push_by (Forking f n y q a b) e fresh = absurd fresh

    pushes : HasUnrun Fresh r t → OneChanges r (Is Fresh) (Is u) t (over_left p (pushed u) t)
    pushes h = push_by sh.beside refl (here_only Fresh r sh.frame sh.slots sh.copy low sh.beside Root sh.around (subst (λ (z : Skeleton). count Root z r ≤ 1) sh.is (law.apart r)) (subst (HasUnrun Fresh r) sh.is h))

    pushed_before : (HasUnrun Fresh r t → ⊥) → over_left p (pushed u) t ≡ t
    pushed_before none = over_is sh.beside sh.is
        ∙ ap (λ (z : Skeleton). plug sh.around (Forking sh.frame sh.slots sh.copy r low z))
        (readied_same u sh.beside (λ e. none (subst (HasUnrun Fresh r) (sym sh.is) (here_has Fresh r sh.frame sh.slots sh.copy low sh.beside sh.around e))))
        ∙ sym sh.is

  takes : (r f : ℕ) → Waits r f t → OneChanges r (Is Waiting) IsNone t (take_in r p t)
  takes r f waits = let g = find_wait r p f Root t (law.apart r) waits in
      gone r (Is Waiting) (InPlace p) t (take_in r p t) (λ x. x)
      (fork_changes t (take_in r p t) g.around r g.frame g.slots g.copy g.left (Leaf Waiting g.stand f g.low_slots) g.left (Leaf (InPlace p) g.stand f g.low_slots) g.is g.then_ law.apart
      (once_then t (take_in r p t) g.around (Forking g.frame g.slots g.copy r g.left (Leaf Waiting g.stand f g.low_slots)) (Forking g.frame g.slots g.copy r g.left (Leaf (InPlace p) g.stand f g.low_slots)) g.is g.then_ (λ x. refl) law.apart)
      (both_same g.left) (λ w x. (λ h. h, λ h. h)))

  -- Join
  module _ (r : ℕ) (d : Side) (ke : s.kind p ≡ Join r d) where
    abbrev o : ℕ
    o = m (BlockWord (r + 1))

    abbrev seat : ℕ → Seat
    seat b = seat_at p (Join r d) b

    abbrev row : ℕ → Row
    row b = row_of i.shape (seat b) (Join r d)

    came_row : (o == side_code d) ≡ true → (b n : ℕ) (rest : Row) → Reach i m (seat b) n (row b) rest → CameRow rest
    came_row e b zero rest q = subst CameRow q tt
    came_row e b (suc n) rest q = by n (subst (λ (x : Bool). Reach i m (seat b) n (joins (seat b) r x (is_inline o d) (is_last o d)) rest) (ap (λ (w : ℕ). o == w) (first_is d) ∙ e) q)
      where
        by : (n : ℕ) → Reach i m (seat b) n (Now (with_kind (seat b) Pop1)) rest → CameRow rest
        by zero q = subst CameRow q refl
        by (suc n) q = absurd q

    inline_row : is_inline o d ≡ true → (b n : ℕ) (rest : Row) → Reach i m (seat b) n (row b) rest → InlineRow r rest
    inline_row e b zero rest q = subst (InlineRow r) q tt
    inline_row e b (suc n) rest q =
        by n (subst₂ (λ (x y : Bool). Reach i m (seat b) n (joins (seat b) r x y (is_last o d)) rest) (ap (λ (w : ℕ). o == w) (first_is d) ∙ inline_late d o e) e q)
      where
        at_end : (n : ℕ) (x : Bool) → Reach i m (seat b) n (if x then Now (Begin r (r + m (BlockWord (r + 4))) b) else Now Broken) rest → InlineRow r rest
        at_end zero true q = subst (InlineRow r) q refl
        at_end zero false q = subst (InlineRow r) q tt
        at_end (suc n) true q = absurd q
        at_end (suc n) false q = absurd q

        by : (n : ℕ) → Reach i m (seat b) n (Now (Load (Offset r b))) rest → InlineRow r rest
        by zero q = subst (InlineRow r) q tt
        by (suc n) q = at_end n (nat_lt (r + m (BlockWord (r + 4))) (word_count i.shape)) q

    last_reached : (b n : ℕ) (now rest : Row) → LastRow now → Reach i m (seat b) n now rest → LastRow rest
    last_reached b zero now rest a q = subst LastRow q a
    last_reached b (suc n) (Now (Load point)) rest a q = last_reached b n _ rest (last_found i.shape (seat b) point a (m (cell_at (seat b) 0 point))) q
    last_reached b (suc n) (Store c w next) rest a q = last_reached b n (Now next) rest a q.1
    last_reached b (suc n) (Exchange c old new next) rest a q = last_reached b n (Now next) rest a q.1
    last_reached b (suc n) (Now next) rest a q = absurd q

    last_begins : (late : (o == side_code d) ≡ false) (beyond : is_inline o d ≡ false) → (b n q f x : ℕ) → Reach i m (seat b) n (row b) (Now (Begin q f x)) → ⊥
    last_begins late beyond b zero q f x e = cc
    last_begins late beyond b (suc n) q f x e = by (is_last o d)
        (subst₂ (λ (u v : Bool). Reach i m (seat b) n (joins (seat b) r u v (is_last o d)) (Now (Begin q f x))) (ap (λ (w : ℕ). o == w) (first_is d) ∙ late) beyond e)
      where
        by : (z : Bool) → Reach i m (seat b) n (joins (seat b) r false false z) (Now (Begin q f x)) → ⊥
        by true e = last_reached b n (Now (Load (JoinLink r))) (Now (Begin q f x)) tt e
        by false e = last_reached b n (Now Broken) (Now (Begin q f x)) tt e

    -- both branches have come
    module _ (late : (o == side_code d) ≡ false) (beyond : is_inline o d ≡ false) where
      abbrev part : Joining s t p r d
      part = joining i fair root input s t law p r d ke late beyond

      abbrev node : Skeleton
      node = joint m p part.other r d part.frame part.slots part.copy part.left_slots part.right_slots

      node_good : Good i.code m s.kind (hook_at Root part.around) node
      node_good = good_here i.code m s.kind Root part.around node (subst (Good i.code m s.kind Root) part.is law.good)

      node_barren : IsBarren node
      node_barren w unrun = (
        λ z. z,
        λ x h. elim h [
          | inl z ↦ come_run i.code m s.kind (Branch Right r) _ _ node_good.2.2 (subst IsUnrun (sym z.1) unrun)
          | inr z ↦ elim z [ inl a ↦ a | inr a ↦ a ]
        ],
      )

      joined_same : (k : ℕ → Stand) → SameUnruns t (joined p k t)
      joined_same k = barren_same t (joined p k t) part.around node (Leaf (InPlace p) (k part.copy) part.frame part.slots) part.is
          (ap (joined p k) part.is ∙ joined_plug m p part.other part.nobody k r d part.frame part.slots part.copy part.left_slots part.right_slots part.around part.alone)
          node_barren (stand_barren (k part.copy) part.frame part.slots)

      last_same : (kind : RestartKind) → SameUnruns t (joined_by p kind t)
      last_same (Run g z) = joined_same (λ z. Begins z)
      last_same (Bump q) = same_itself t
      last_same (Push1 q) = same_itself t
      last_same (Push2 q) = same_itself t
      last_same (Unwind g) = joined_same (λ z. Over)
      last_same (Arrive q e) = same_itself t
      last_same (Join q e) = same_itself t
      last_same Pop1 = same_itself t
      last_same (Pop2 q) = same_itself t
      last_same Seek = same_itself t
      last_same (Steal v x) = same_itself t
      last_same (Check v x) = same_itself t
      last_same (Take v x) = same_itself t
      last_same (Take2 v) = same_itself t

    under : (rest : Row) → s.doing p ≡ InRow rest → Under i m p (Join r d) rest
    under rest de = subst₂ (λ (k : RestartKind) (x : Doing). Does i m p k x) ke de (law.does p)

    came_same : (restart : Restart) → (o == side_code d) ≡ true → (b n : ℕ) → Reach i m (seat b) n (row b) (Now (Install restart)) → SameUnruns t (joined_by p restart.kind t)
    came_same restart e b n q = subst (λ (k : RestartKind). SameUnruns t (joined_by p k t)) (sym (came_row e b n (Now (Install restart)) q)) (same_itself t)

    join_by_under : (restart : Restart) → Under i m p (Join r d) (Now (Install restart)) → SameUnruns t (by_join p (Install restart) t)
    join_by_under restart (inr q) = last_same q.late q.beyond restart.kind
    join_by_under restart (inl q) = elim (cases_Bool (o == side_code d)) [
      | inl e ↦ came_same restart e q.0 q.1 q.2
      | inr late ↦ elim (cases_Bool (is_inline o d)) [
        | inl both ↦ absurd (inline_row both q.0 q.1 (Now (Install restart)) q.2)
        | inr beyond ↦ last_same late beyond restart.kind
      ]
    ]

    -- one strand runs both
    module _ (both : is_inline o d ≡ true) where
      inline_by : (e : Side) (g : Comes i s t p r d) → hook_at Root g.around ≡ Branch e r → is_inline o e ≡ true → OneChanges r (Is Held) IsNone t (over_left p (inlined p) t)
      inline_by Right g he k = absurd (cc)
      inline_by Left g he k = elim (branch_from Root g.around r Left he) [
        | inl z ↦ absurd (let b = z.0 in cc)
        | inr z ↦
            let low = Leaf (InPlace p) Arrives g.frame g.slots in
            let is0 = g.is ∙ z.is low in
            let good0 = good_here i.code m s.kind Root z.around _ (subst (Good i.code m s.kind Root) is0 law.good) in
            let right = held i m s.kind (Branch Right r) z.beside good0.2 (sym good0.0.order ∙ eqb-true o 3 k) in
            let is = is0 ∙ ap (λ (b : Skeleton). plug z.around (Forking z.frame z.slots z.copy r low b)) right.is in
            let alone : at_rim p z.around ≡ 0 = (let e = z.places p in let a = g.alone in omega (arith, e, a)) in
            let then_ = ap (over_left p (inlined p)) is ∙ over_plug p (inlined p) z.around z.frame z.slots z.copy r Arrives g.frame g.slots (Leaf Held (Begins 0) right.frame right.slots) alone in
            gone r (Is Held) (InPlace p) t (over_left p (inlined p) t) (λ x. x)
            (fork_changes t (over_left p (inlined p) t) z.around r z.frame z.slots z.copy low (Leaf Held (Begins 0) right.frame right.slots)
            (Leaf Inlined Arrives g.frame g.slots) (Leaf (InPlace p) (Begins 0) right.frame right.slots) is then_ law.apart
            (once_then t (over_left p (inlined p) t) z.around (Forking z.frame z.slots z.copy r low (Leaf Held (Begins 0) right.frame right.slots))
            (Forking z.frame z.slots z.copy r (Leaf Inlined Arrives g.frame g.slots) (Leaf (InPlace p) (Begins 0) right.frame right.slots)) is then_ (λ x. refl) law.apart)
            (λ w x. (λ h. h, λ h. h)) (λ w x. (λ h. h, λ h. h)))
      ]

      inline_changes : OneChanges r (Is Held) IsNone t (over_left p (inlined p) t)
      inline_changes = let g = joins_leaf i fair root input s t law p r d ke (inline_late d o both) in inline_by d g g.hook both

    begins_by_under : (q f b : ℕ) → Under i m p (Join r d) (Now (Begin q f b))
        → (q ≡ r) × (is_inline o d ≡ true) × OneChanges r (Is Held) IsNone t (over_left p (inlined p) t)
    begins_by_under q f b (inr a) = absurd (let e = a.is in cc)
    begins_by_under q f b (inl a) = elim (cases_Bool (o == side_code d)) [
      | inl e ↦ absurd (came_row e a.0 a.1 (Now (Begin q f b)) a.2)
      | inr late ↦ elim (cases_Bool (is_inline o d)) [
        | inl both ↦ (inline_row both a.0 a.1 (Now (Begin q f b)) a.2, both, inline_changes both)
        | inr beyond ↦ absurd (last_begins late beyond a.0 a.1 q f b a.2)
      ]
    ]

pub unruns_stay : AllUnrunsStay
unruns_stay i fair root input s t law p = record {
  runs = runs i fair root input s t law p;
  unwinds = unwinds i fair root input s t law p;
  arrives = arrives i fair root input s t law p;
  calls = calls i fair root input s t law p;
  opens = opens i fair root input s t law p;
  pushes = λ r u unrun pushing h. pushes i fair root input s t law p r u pushing h;
  pushed_before = λ r u pushing none. pushed_before i fair root input s t law p r u pushing none;
  takes = takes i fair root input s t law p;
  joins = λ r d restart ke de. join_by_under i fair root input s t law p r d ke restart (under i fair root input s t law p r d ke (Now (Install restart)) de);
  begins = λ r d q f b ke de. begins_by_under i fair root input s t law p r d ke q f b (under i fair root input s t law p r d ke (Now (Begin q f b)) de);
}
