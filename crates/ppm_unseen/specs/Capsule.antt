-- Capsules over words of a strand's own and words that others change too, and codes of such capsules that fork and join.
use Rattle.std.specs.Prelude.{ℕ, Bool, ◌==◌, cond, List}
use Rattle.ppm_strands.specs.Capsule.{Equality, Memory}
use Rattle.ppm_strands.specs.Strand.{Frame}

-- what is left of a capsule, over own words that A names, and with the ends E: it loads a word of the strand's own and goes on by it, keeps one,
-- reads a shared word and goes on by it, changes one to a function of what it is, without an answer, or ends
pub data Capsule (A E : Type 0) : Type 0 where
  Loads : A → (ℕ → Capsule A E) → Capsule A E
  Keeps : A → ℕ → Capsule A E → Capsule A E
  Reads : ℕ → (ℕ → Capsule A E) → Capsule A E
  Changes : ℕ → (ℕ → ℕ) → Capsule A E → Capsule A E
  Ends : E → Capsule A E

-- a put changes a word to v, whatever it is
abbrev pub constant : (v word : ℕ) → ℕ
constant v word = v

-- a compare-and-modify changes it to the new word where it is the old one
abbrev pub exchange : (old new word : ℕ) → ℕ
exchange old new word = cond (word == old) new word

-- what an end opens: the strand's next capsule; branches, for which a frame waits; or nothing, since the strand is over with an outcome
pub data Next (A K O : Type 0) : Type 0 where
  GoesOn : Frame A K → Next A K O
  Forks : List (Frame A K) → Frame A K → Next A K O
  Closes : O → Next A K O

-- a code: the capsule of each point, and which own words are of the block that it builds; what an end opens, by the strand's own words; and how a
-- frame that waits goes on with the outcomes of its branches. A fork of one branch is a call. The other own words are slots, a value, and the
-- outcome that a trap stores before it ends.
pub record Code (A K E O : Type 0) : Type 0 where
  pub names : Equality A
  pub capsule : K → Capsule A E
  pub builds : K → A → Bool
  pub opens : E → Memory A → Next A K O
  pub rejoin : Frame A K → List O → Frame A K
