-- Right branches that no place runs, as the skeleton shows them: before the push of their fork, and
-- while they wait for a taker.
use Rattle.std.specs.Prelude.{◌≡◌, ◌⊎◌, ◌≤◌, ◌<◌, ℕ, Bool, true, false}
use Rattle.ppm_cells.specs.declared.restart.RestartKind.{RestartKind}
use Rattle.ppm_cells.specs.declared.restart.RestartKind.TheVariants.{Run, Bump, Push1, Pop2, Check}
use Rattle.ppm_frames.specs.Skeletons.{Waiting, Skeleton, Leaf, Calling, Forking, at}
use Rattle.ppm_frames.specs.Good.{Mark, IsFresh, IsHeld, mark}

-- a right branch that nobody has and nobody may take
abbrev pub IsUntaken : Mark → Type 0
IsUntaken IsFresh = Unit {0}
IsUntaken IsHeld = Unit {0}
IsUntaken _ = ⊥

-- beside a place's strand the right branch is untaken, in each fork of block r
abbrev pub Untaken : (p r : ℕ) → Skeleton → Type 0
Untaken p r (Leaf w st f n) = Unit {0}
Untaken p r (Calling f n y t) = Untaken p r t
Untaken p r (Forking f n y q a b) = (q ≡ r → 1 ≤ at p a → IsUntaken (mark b)) × Untaken p r a
    × Untaken p r b

-- a place of this kind that has still to push a fork: so is the right branch beside its strand
abbrev pub Unpushed : (p : ℕ) → Skeleton → RestartKind → Type 0
Unpushed p t (Bump r) = Untaken p r t
Unpushed p t (Push1 r) = Untaken p r t
Unpushed p t _ = Unit {0}

-- the leaf of a branch that waits for a taker, at this frame
abbrev pub IsWaitingAt : (frame : ℕ) → Skeleton → Type 0
IsWaitingAt f (Leaf Waiting st g n) = g ≡ f
IsWaitingAt f _ = ⊥

-- in the tree, the right branch of block r waits at this frame
abbrev pub Waits : (r frame : ℕ) → Skeleton → Type 0
Waits r f (Leaf w st g n) = ⊥
Waits r f (Calling g n y t) = Waits r f t
Waits r f (Forking g n y q a b) = ((q ≡ r) × IsWaitingAt f b) ⊎ (Waits r f a ⊎ Waits r f b)

-- a place of these kinds may be about to begin a branch that it takes
abbrev pub is_taker : RestartKind → Bool
is_taker (Pop2 r) = true
is_taker (Check v x) = true
is_taker _ = false

-- a frame that runs stands at one of its two headers
abbrev pub HasCopy : RestartKind → Type 0
HasCopy (Run f y) = y < 2
HasCopy _ = Unit {0}
