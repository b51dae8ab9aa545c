-- Words of the arrays: which are a region's, and where two states of the arrays have the same ones.
use Rattle.std.specs.Prelude.{◌≡◌, ◌≤◌, ◌<◌, ℕ, ◌+◌, ℤ, pos, length, get_or}
use Rattle.ppm_tree.specs.State.{Region, Arrays, array_at}
use Rattle.ppm_tree.specs.Meaning.{End, Ended, Trapped}

-- the word at an index of an array
abbrev pub word : Arrays → ℕ → ℕ → ℤ
word arrays a i = get_or (array_at arrays a) i (pos 0)

-- that word is one of the region
pub record HasWord (r : Region) (a i : ℕ) : Type 0 where
  pub array : r.array ≡ a
  pub from : r.start ≤ i
  pub below : i < r.start + r.length

-- two regions share no word
pub record ShareNoWord (r s : Region) : Type 0 where
  pub none : (a i : ℕ) → HasWord r a i → HasWord s a i → ⊥

-- the first region is a part of the second, or all of it
pub record IsPart (r s : Region) : Type 0 where
  pub array : r.array ≡ s.array
  pub from : s.start ≤ r.start
  pub to : r.start + r.length ≤ s.start + s.length

-- there are as many arrays, and each is as long
pub record HaveOneShape (a b : Arrays) : Type 0 where
  pub count : length a ≡ length b
  pub lengths : (k : ℕ) → length (array_at a k) ≡ length (array_at b k)

-- arrays of one shape have these words in common
pub record AreSameAt (P : ℕ → ℕ → Type 0) (a b : Arrays) : Type 0 where
  pub shape : HaveOneShape a b
  pub words : (k i : ℕ) → P k i → word a k i ≡ word b k i

-- no other words are changed than these
pub record ChangesOnly (P : ℕ → ℕ → Type 0) (old new : Arrays) : Type 0 where
  pub shape : HaveOneShape old new
  pub kept : (k i : ℕ) → ¬ P k i → word new k i ≡ word old k i

-- a run from a to c and one from b to d: each word that was the same before is the same after
pub record KeepsSameness (a b c d : Arrays) : Type 0 where
  pub shape : HaveOneShape c d
  pub words : (k i : ℕ) → word a k i ≡ word b k i → word c k i ≡ word d k i

-- an end, over other arrays
abbrev pub over : {A : Type 0} → End A → Arrays → End A
over (Ended x arrays) others = Ended x others
over (Trapped stop arrays) others = Trapped stop others
