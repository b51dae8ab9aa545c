-- What the frames of an admitted program own, what its runs touch, and that branches may run in either order.
use Rattle.std.specs.Prelude.{◌≡◌, ◌≢◌, ◌≤◌, ◌<◌, ℕ, ◌+◌, List, length, Ok}
use Rattle.std.specs.List.{Contains}
use Rattle.ppm_tree.specs.declared.named.Named.{Named}
use Rattle.ppm_tree.specs.Tree.{Expression, Side, Block, Then, Split, Each, Procedure, ProgramTree}
use Rattle.ppm_tree.specs.Tree as tree
use Rattle.ppm_tree.specs.State.{Region, Frame, Arrays, array_at, procedure_named, entered, both_entered}
use Rattle.ppm_tree.specs.Meaning.{Form, Counts, End, arrays_of, Runs, Enters, Sweeps}
use Rattle.ppm_tree.specs.Program.{initial_arrays, values_of}
use Rattle.ppm_regions.specs.Scope.{Scope}
use Rattle.ppm_regions.specs.Uses.{Site, sites_of_block, sites_of_procedure, sites_of}
use Rattle.ppm_regions.specs.Admission.{IsAdmitted}
use Rattle.ppm_ownership.specs.Words.{ShareNoWord, IsPart, AreSameAt, ChangesOnly, KeepsSameness, over}
use Rattle.ppm_ownership.specs.Owning.{Owns, MayWrite, OwnsApart, words_at, LieInArrays, OwnsNoMore, AreSeparate}
use Rattle.ppm_regions.specs.Scope.{scope_of, split_scope, each_scope}
use Rattle.ppm_ownership.specs.Coming.{callee, split_frame, each_frame}
use Rattle.ppm_ownership.specs.Coming.{stretch, part_frame, ComesTo}

-- Each site of a block that a run comes to, and of the procedure that it stands in, is a site of the program: so their uses keep its
-- rules (`KeepsRules`).
pub record HasSites (t : ProgramTree) (p : Procedure) (scope : Scope) (b : Block) : Type 0 where
  pub block : (s : Site) → Contains (sites_of_block t scope b) s → Contains (sites_of t) s
  pub procedure : (s : Site) → Contains (sites_of_procedure t p) s → Contains (sites_of t) s

-- the sites of each block that a run of an admitted program comes to are the program's
abbrev pub ComeToSites : Type 0
ComeToSites =
    (t : ProgramTree) (p : Procedure) (g : Frame) (scope : Scope) (b : Block) (f : Frame) → IsAdmitted t → ComesTo t p g scope b f → HasSites t p scope b

-- Where a run stands, in a procedure p entered with the frame g: each region in force that is not hidden lies in its array, no `mut` one
-- of them, outer or not, shares a word with another of them, and the frame owns no more than g.
pub record PlaceIsApart (t : ProgramTree) (p : Procedure) (g : Frame) (scope : Scope) (f : Frame) : Type 0 where
  pub within : LieInArrays t.arrays scope f.regions
  pub apart : OwnsApart scope f.regions
  pub home : OwnsNoMore scope f.regions (scope_of p) g.regions

-- The block of an `each` owns no more than what is around it, and two of them, of different indices, are separate. So it is with any
-- parts of the region in the place of elements, as where the `each` is halved.
pub record EachIsApart (t : ProgramTree) (scope : Scope) (i x r : Named) (f : Frame) : Type 0 where
  pub element : (k : ℕ) → k < (f.regions r.name).length → OwnsNoMore (each_scope scope r i x) (each_frame f r k i x).regions scope f.regions
  pub elements : (k l : ℕ) → k < (f.regions r.name).length → l < (f.regions r.name).length → k ≢ l
      → AreSeparate (each_scope scope r i x) (each_frame f r k i x).regions (each_scope scope r i x) (each_frame f r l i x).regions
  pub within : (q : Region) → IsPart q (f.regions r.name) → LieInArrays t.arrays (each_scope scope r i x) (part_frame f x q).regions
  pub apart : (q : Region) → IsPart q (f.regions r.name) → OwnsApart (each_scope scope r i x) (part_frame f x q).regions
  pub part : (q : Region) → IsPart q (f.regions r.name) → OwnsNoMore (each_scope scope r i x) (part_frame f x q).regions scope f.regions
  pub parts : (q w : Region) → IsPart q (f.regions r.name) → IsPart w (f.regions r.name) → ShareNoWord q w
      → AreSeparate (each_scope scope r i x) (part_frame f x q).regions (each_scope scope r i x) (part_frame f x w).regions

-- both branches of a fork own no more than what is around it, and are separate
pub record ForkIsApart (t : ProgramTree) (scope : Scope) (s u : Side) (f left right : Frame) : Type 0 where
  pub of_left : OwnsNoMore (scope_of (callee t s)) left.regions scope f.regions
  pub of_right : OwnsNoMore (scope_of (callee t u)) right.regions scope f.regions
  pub separate : AreSeparate (scope_of (callee t s)) left.regions (scope_of (callee t u)) right.regions

-- Wherever a run of the program comes to, frames own apart, and so where the procedure was entered; the block of a split and a callee own
-- no more than what is around them. The arrays that it starts with are as long as they are declared.
pub record FramesOwnApart (t : ProgramTree) : Type 0 where
  pub start : (k : ℕ) → length (array_at (values_of (initial_arrays t)) k) ≡ words_at t.arrays k
  pub place : (p : Procedure) (g : Frame) (scope : Scope) (b : Block) (f : Frame) → ComesTo t p g scope b f → PlaceIsApart t p g scope f
  pub entry : (p : Procedure) (g : Frame) (scope : Scope) (b : Block) (f : Frame) → ComesTo t p g scope b f → ComesTo t p g (scope_of p) p.body g
  pub split : (p : Procedure) (g : Frame) (scope : Scope) (line : ℕ) (r : Named) (e : Expression) (x y : Named) (s b : Block) (f : Frame) (n : ℕ)
      → ComesTo t p g scope (Then (Split line r e x y s) b) f → n ≤ (f.regions r.name).length
      → OwnsNoMore (split_scope scope r x y) (split_frame f r n x y).regions scope f.regions
  pub each : (p : Procedure) (g : Frame) (scope : Scope) (i x r : Named) (s b : Block) (f : Frame)
      → ComesTo t p g scope (Then (Each i x r s) b) f → EachIsApart t scope i x r f
  pub call : (p : Procedure) (g : Frame) (scope : Scope) (s : Side) (b : Block) (f h : Frame) (a : Arrays)
      → ComesTo t p g scope (Then (tree.Call s) b) f → entered t.procedures f a s ≡ Ok h
      → OwnsNoMore (scope_of (callee t s)) h.regions scope f.regions
  pub fork : (p : Procedure) (g : Frame) (scope : Scope) (s u : Side) (b : Block) (f left right : Frame) (a : Arrays)
      → ComesTo t p g scope (Then (tree.Fork s u) b) f → both_entered t.procedures f a s u ≡ Ok (left, right)
      → ForkIsApart t scope s u f left right

-- wherever a run of an admitted program comes to, frames own apart
abbrev pub OwnApart : Type 0
OwnApart = (t : ProgramTree) → IsAdmitted t → FramesOwnApart t

-- A run changes no words but those that its frame may write. From arrays with the same words where the frame owns it ends the same,
-- with the same counts; and each word that was the same before, owned or not, is the same after.
pub record IsWithin {A : Type 0} (scope : Scope) (f : Frame) (run : Arrays → Counts → End A → Type 0) : Type 0 where
  pub changes : (a : Arrays) (k : Counts) (z : End A) → run a k z → ChangesOnly (MayWrite scope f.regions) a (arrays_of z)
  pub local : (a b : Arrays) (k : Counts) (z : End A) → run a k z → AreSameAt (Owns scope f.regions) a b
      → (c : Arrays) × run b k (over z c) × KeepsSameness a b (arrays_of z) c

-- the runs of each block that a run comes to stay within the frame's words, those of an `each` over some indices within the words
-- of these elements, and those of a procedure, `main` too, within the words of the frame that it is entered with
pub record StaysWithin (form : Form) (t : ProgramTree) : Type 0 where
  pub block : (p : Procedure) (g : Frame) (scope : Scope) (b : Block) (f : Frame) → ComesTo t p g scope b f
      → IsWithin scope f (Runs form t.procedures b f)
  pub sweep : (p : Procedure) (g : Frame) (scope : Scope) (i x r : Named) (s b : Block) (f : Frame) (n m : ℕ)
      → ComesTo t p g scope (Then (Each i x r s) b) f → IsWithin (each_scope scope r i x) (part_frame f x (stretch n m (f.regions r.name)))
      (Sweeps form t.procedures i x s (f.regions r.name) f n m)
  pub procedure : (x : List ℕ) (f : Frame)
      → IsWithin (scope_of (procedure_named t.procedures x)) f (Enters form t.procedures (procedure_named t.procedures x) f)

-- in all admitted programs runs stay within the frame's words
abbrev pub StayWithin : Type 0
StayWithin = (form : Form) (t : ProgramTree) → IsAdmitted t → StaysWithin form t

-- Of two runs: where the second comes after the first, it may as well come before it; each ends as it did, and the same words
-- are left. Where both may begin from the same arrays, the second ends after the first as it does from these.
pub record MaySwap {A B : Type 0} (first : Arrays → Counts → End A → Type 0) (second : Arrays → Counts → End B → Type 0) : Type 0 where
  pub swap : (a : Arrays) (j k : Counts) (x : End A) (y : End B) → first a j x → second (arrays_of x) k y
      → (c : Arrays) × second a k (over y c) × first c j (over x (arrays_of y))
  pub behind : (a : Arrays) (j k : Counts) (x : End A) (y : End B) → first a j x → second a k y → (c : Arrays) × second (arrays_of x) k (over y c)

-- two runs may come in either order
pub record AreUnordered {A B : Type 0} (first : Arrays → Counts → End A → Type 0) (second : Arrays → Counts → End B → Type 0) : Type 0 where
  pub forth : MaySwap first second
  pub back : MaySwap second first

-- the branches of each fork may run in either order, and so may the blocks of an `each`, and those of two stretches of its indices;
-- traps make no difference
pub record RunsInEitherOrder (form : Form) (t : ProgramTree) : Type 0 where
  pub fork : (p : Procedure) (g : Frame) (scope : Scope) (s u : Side) (b : Block) (f left right : Frame) (a : Arrays)
      → ComesTo t p g scope (Then (tree.Fork s u) b) f → both_entered t.procedures f a s u ≡ Ok (left, right)
      → AreUnordered (Enters form t.procedures (callee t s) left) (Enters form t.procedures (callee t u) right)
  pub blocks : (p : Procedure) (g : Frame) (scope : Scope) (i x r : Named) (s b : Block) (f : Frame) (k l : ℕ)
      → ComesTo t p g scope (Then (Each i x r s) b) f → k < (f.regions r.name).length → l < (f.regions r.name).length → k ≢ l
      → AreUnordered (Runs form t.procedures s (each_frame f r k i x)) (Runs form t.procedures s (each_frame f r l i x))
  pub sweeps : (p : Procedure) (g : Frame) (scope : Scope) (i x r : Named) (s b : Block) (f : Frame) (n m k l : ℕ)
      → ComesTo t p g scope (Then (Each i x r s) b) f → n + m ≤ (f.regions r.name).length → k + l ≤ (f.regions r.name).length
      → ShareNoWord (stretch n m (f.regions r.name)) (stretch k l (f.regions r.name))
      → AreUnordered (Sweeps form t.procedures i x s (f.regions r.name) f n m) (Sweeps form t.procedures i x s (f.regions r.name) f k l)

-- in all admitted programs branches and blocks run in either order
abbrev pub RunInEitherOrder : Type 0
RunInEitherOrder = (form : Form) (t : ProgramTree) → IsAdmitted t → RunsInEitherOrder form t
