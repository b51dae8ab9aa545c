-- What a step has to show of branches that no place runs, for that to stay so.
use Rattle.std.proofs.Common.{◌≡◌, ◌≢◌, ◌⊎◌, ◌≤◌, ℕ, true, false, inl, inr}
use Rattle.ppm_cells.specs.declared.cell.Cell.{Cell}
use Rattle.ppm_cells.specs.declared.link.LinkKind.{LinkKind}
use Rattle.ppm_cells.specs.declared.link.LinkKind.TheVariants.{Root, Branch}
use Rattle.ppm_cells.specs.declared.restart.RestartKind.{RestartKind}
use Rattle.ppm_cells.specs.declared.restart.RestartKind.TheVariants.{Run, Bump, Push1, Push2, Unwind, Arrive, Join, Pop1, Pop2, Seek, Steal, Check, Take, Take2}
use Rattle.ppm_cells.specs.declared.side.Side.TheVariants.{Right}
use Rattle.ppm_code.specs.declared.code.CodeParts.{CodeParts}
use Rattle.ppm_step.specs.declared.row.Row.TheVariants.{Now}
use Rattle.ppm_step.specs.declared.row.Then.TheVariants.{Begin}
use Rattle.ppm_frames.specs.Skeletons.{Arrives, Who, InPlace, Fresh, Waiting, Held, Came, Inlined, Skeleton, Leaf, Forking, count, at, Around, Top, AtCall, AtLeft, AtRight, plug}
use Rattle.ppm_frames.specs.Good.{mark, Matches, Good}
use Rattle.ppm_kept.specs.Branches.{Untaken, Unpushed, IsWaitingAt, Waits, is_taker, HasCopy}
use Rattle.ppm_kept.specs.Kept.{Doing, InRow, State}
use Rattle.ppm_kept.proofs.UntakenLemmas.{here, swaps_less}

-- a step of place p that makes v of the part u, and leaves it at a kind
pub record Unrun (s : State) (p : ℕ) (c : Around) (u v : Skeleton) (k : RestartKind) (d : Doing) : Type 0 where
  pub copy : HasCopy k
  -- the fork that the place itself has to push
  pub pushes : ((x : ℕ) → count Root (plug c v) x ≤ 1) → Unpushed p (plug c v) k
  -- those of the others, and what another is about to take
  pub untaken : (q r : ℕ) → q ≢ p → Untaken q r u → Untaken q r v
  pub waits : (q r f b : ℕ) → q ≢ p → is_taker (s.kind q) ≡ true → s.doing q ≡ InRow (Now (Begin r f b))
      → (IsWaitingAt f u → IsWaitingAt f v) × (Waits r f u → Waits r f v)
  pub aims : (is_taker k ≡ false) ⊎ ((r f b : ℕ) → d ≡ InRow (Now (Begin r f b)) → Waits r f (plug c v))

-- where the part stays
pub same_part : {s : State} {p : ℕ} {c : Around} {u : Skeleton} {k : RestartKind} {d : Doing} → HasCopy k → Unpushed p (plug c u) k → is_taker k ≡ false → Unrun s p c u u k d
same_part copy own none = record { copy = copy; pushes = λ most. own; untaken = λ q r ne old. old; waits = λ q r f b ne taker about. (λ x. x, λ x. x); aims = inl none }

-- where nothing waits in the part
pub barren : {s : State} {p : ℕ} {c : Around} {u v : Skeleton} {k : RestartKind} {d : Doing} → ((r f : ℕ) → (IsWaitingAt f u → ⊥) × (Waits r f u → ⊥)) → HasCopy k
    → (((x : ℕ) → count Root (plug c v) x ≤ 1) → Unpushed p (plug c v) k) → ((q r : ℕ) → q ≢ p → Untaken q r v) → is_taker k ≡ false → Unrun s p c u v k d
barren empty copy own all none = record {
  copy = copy;
  pushes = own;
  untaken = λ q r ne old. all q r ne;
  waits = λ q r f b ne taker about. (λ x. absurd ((empty r f).0 x), λ x. absurd ((empty r f).1 x));
  aims = inl none;
}

-- a branch that has come does not wait
pub come_leaf : (code : CodeParts) (m : Cell → ℕ) (k : ℕ → RestartKind) (h : LinkKind) (w : Who) (g n x : ℕ) → Matches code m k h w Arrives g → IsWaitingAt x (Leaf w Arrives g n) → ⊥
come_leaf code m k h Waiting g n x match e = let d = match.0 in cc
come_leaf code m k h (InPlace q) g n x match e = e
come_leaf code m k h Fresh g n x match e = e
come_leaf code m k h Held g n x match e = e
come_leaf code m k h Came g n x match e = e
come_leaf code m k h Inlined g n x match e = e

-- nor does any at a fork whose two branches have come
pub come_fork : (code : CodeParts) (m : Cell → ℕ) (k : ℕ → RestartKind) (g l y r : ℕ) (a b : Who) (fa na fb nb : ℕ) → Good code m k (Branch Right r) (Leaf b Arrives fb nb)
    → (q f : ℕ) → (IsWaitingAt f (Forking g l y r (Leaf a Arrives fa na) (Leaf b Arrives fb nb)) → ⊥) × (Waits q f (Forking g l y r (Leaf a Arrives fa na) (Leaf b Arrives fb nb)) → ⊥)
come_fork code m k g l y r a b fa na fb nb good q f =
    (λ x. x, λ x. elim x [ inl e ↦ come_leaf code m k (Branch Right r) b fb nb f good.2 e.1 | inr e ↦ elim e [ inl z ↦ z | inr z ↦ z ] ])

-- a fork to push, where a part is swapped for another that has as many leaves of the place or fewer
pub unpushed_less : (p : ℕ) (k : RestartKind) (c : Around) (u v : Skeleton) → at p v ≤ at p u → mark v ≡ mark u → ((r : ℕ) → Untaken p r u → Untaken p r v) → Unpushed p (plug c u) k → Unpushed p (plug c v) k
unpushed_less p (Bump r) c u v less e go old = swaps_less p r c u v less e (go r (here p r c u old)) old
unpushed_less p (Push1 r) c u v less e go old = swaps_less p r c u v less e (go r (here p r c u old)) old
unpushed_less p (Run f y) c u v less e go old = tt
unpushed_less p (Push2 r) c u v less e go old = tt
unpushed_less p (Unwind f) c u v less e go old = tt
unpushed_less p (Arrive r d) c u v less e go old = tt
unpushed_less p (Join r d) c u v less e go old = tt
unpushed_less p Pop1 c u v less e go old = tt
unpushed_less p (Pop2 r) c u v less e go old = tt
unpushed_less p Seek c u v less e go old = tt
unpushed_less p (Steal w x) c u v less e go old = tt
unpushed_less p (Check w x) c u v less e go old = tt
unpushed_less p (Take w x) c u v less e go old = tt
unpushed_less p (Take2 w) c u v less e go old = tt

waiting_swap : (f : ℕ) (c : Around) (u v : Skeleton) → (IsWaitingAt f u → IsWaitingAt f v) → IsWaitingAt f (plug c u) → IsWaitingAt f (plug c v)
waiting_swap f Top u v go x = go x
waiting_swap f (AtCall g n y c) u v go x = absurd x
waiting_swap f (AtLeft g n y q c b) u v go x = absurd x
waiting_swap f (AtRight g n y q a c) u v go x = absurd x

-- a branch that waits
pub waits_swap : (r f : ℕ) (c : Around) (u v : Skeleton) → (IsWaitingAt f u → IsWaitingAt f v) → (Waits r f u → Waits r f v) → Waits r f (plug c u) → Waits r f (plug c v)
waits_swap r f Top u v leaf go x = go x
waits_swap r f (AtCall g n y c) u v leaf go x = waits_swap r f c u v leaf go x
waits_swap r f (AtLeft g n y q c b) u v leaf go (inl x) = inl x
waits_swap r f (AtLeft g n y q c b) u v leaf go (inr (inl x)) = inr (inl (waits_swap r f c u v leaf go x))
waits_swap r f (AtLeft g n y q c b) u v leaf go (inr (inr x)) = inr (inr x)
waits_swap r f (AtRight g n y q a c) u v leaf go (inl x) = inl (x.0, waiting_swap f c u v leaf x.1)
waits_swap r f (AtRight g n y q a c) u v leaf go (inr (inl x)) = inr (inl x)
waits_swap r f (AtRight g n y q a c) u v leaf go (inr (inr x)) = inr (inr (waits_swap r f c u v leaf go x))
