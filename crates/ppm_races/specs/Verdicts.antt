-- What is said of a code with its input.
use Rattle.std.specs.Prelude.{◌≡◌, ◌≤◌, ◌<◌, ◌⊎◌, ◌↔◌, ℕ, ◌+◌, Bool, true, cond, ◌&&◌, ◌||◌, List, length}
use Rattle.ppm_strands.specs.Tree.{Words, Has, forks_in}
use Rattle.ppm_strands.specs.Calm.{Calm as IsCalm, touches}
use Rattle.ppm_strands.specs.Run.{End}
use Rattle.ppm_words.specs.declared.named_array.NamedArray.{NamedArray}
use Rattle.ppm_strands.specs.Strand.{start}
use Rattle.ppm_code.specs.declared.code.CodeParts.{CodeParts}
use Rattle.ppm_code.specs.Inputs.{words_in}
use Rattle.ppm_code.specs.Locations.{code_locations}
use Rattle.ppm_code.specs.Strands.{Result, instrs_of, table_of}
use Rattle.ppm_depth.specs.Run.{strands_of, ComesTo, IsWithin}
use Rattle.ppm_depth.specs.Start.{words_of, root_strand}
use Rattle.ppm_depth.specs.Stack.{Own, Strands}
use Rattle.ppm_depth.specs.Turns.{strands_over}
use Rattle.ppm_stamps.specs.Stamps.{Stamps}
use Rattle.ppm_stamps.specs.Moments.{beside_of, IsOpen, Moment}
use Rattle.ppm_races.specs.Beside.{IsFirst}
use Rattle.ppm_races.specs.Touches.{touches_of}
use Rattle.ppm_races.specs.declared.judging.Verdict.{Verdict}
use Rattle.ppm_races.specs.declared.judging.Verdict.TheVariants.{Calm, Races, NotWithin}
use Rattle.ppm_races.specs.declared.race.Opener.{Opener}
use Rattle.ppm_races.specs.declared.race.Race.{Race}
use Rattle.ppm_races.specs.declared.race.Touching.{Touching}
use Rattle.ppm_races.specs.declared.race.Visit.{Visit}
use Rattle.ppm_races.specs.declared.touch.Touch.{Touch}

-- a touch meets what stands beside it: a word that was written there, or, where it writes, one that was touched there
abbrev pub meets_at : (beside : ℕ → Bool) → Stamps → Touch → Bool
meets_at beside s t = beside (s.wrote t.word) || (t.writes && beside (s.touched t.word))

-- whom a touch of a word meets: who wrote it last, where that stands beside, else the one that touched it
abbrev pub met_at : (beside : ℕ → Bool) → Stamps → (word : ℕ) → ℕ
met_at beside s word = cond (beside (s.wrote word)) (s.wrote word) (s.touched word)

-- a touch of a race, without the capsule's number
abbrev pub touch_of : (word : ℕ) → Touching → Touch
touch_of word right = record { word = word; writes = right.writes; at = right.at }

-- what the capsule of a frame touches, in its order
abbrev pub log_of : CodeParts → (array_words : ℕ) → Own → Words → List Touch
log_of code array_words frame words = touches_of array_words (instrs_of code frame.point.capsule) (start code_locations (table_of code array_words) frame words)

module _ (code : CodeParts) (root : Strands) (input : Words) (array_words : ℕ) where
  -- the moment of the run at which the capsule with a number is next; none before it met anything
  abbrev pub MomentOf : (number : ℕ) → Type 0
  MomentOf number = Moment (strands_over code array_words) root input number

  -- this capsule of the run opened a fork
  pub record IsOpener (o : Opener) : Type 0 where
    pub moment : MomentOf o.run
    pub capsule : moment.frame.point.capsule ≡ o.capsule
    pub opens : forks_in ((strands_over code array_words).next moment.frame moment.words) ≡ 1

  -- this capsule of the run touched a word, and wrote it or not
  pub record IsVisit (word : ℕ) (v : Visit) : Type 0 where
    pub moment : MomentOf v.run
    pub capsule : moment.frame.point.capsule ≡ v.capsule
    pub touched : Has word (touches (strands_over code array_words) moment.frame moment.words)
    pub written : (v.writes ≡ true) ↔ Has word ((strands_over code array_words).writes moment.frame moment.words)

  -- a touch of the capsule that is next, of this word, meets something, and is its first that does
  pub record IsMeeting (word : ℕ) (right : Touching) : Type 0 where
    pub moment : MomentOf right.run
    pub capsule : moment.frame.point.capsule ≡ right.capsule
    pub touched : Has word (touches (strands_over code array_words) moment.frame moment.words)
    pub written : right.writes ≡ true → Has word ((strands_over code array_words).writes moment.frame moment.words)
    pub first : IsFirst (meets_at (beside_of moment.above) moment.stamps) (log_of code array_words moment.frame moment.words) (touch_of word right)

  -- A race: a touch of an array word meets another one, in the left branch of a fork in whose right branch it is itself, and one of the two writes.
  -- The capsules of the left branch are those from the one after the opener up to the first of the right branch, which is no later than the touch.
  pub record IsRace (race : Race) : Type 0 where
    pub there : race.word < array_words
    pub right : IsMeeting race.word race.right
    pub run : race.left.run ≡ met_at (beside_of right.moment.above) right.moment.stamps race.word
    pub left : IsVisit race.word race.left
    pub one_writes : (race.left.writes ≡ true) ⊎ (race.right.writes ≡ true)
    pub mid : ℕ
    pub both : IsOpen (race.fork.run + 1) mid right.moment.above
    pub from : race.fork.run + 1 ≤ race.left.run
    pub before : race.left.run < mid
    pub begun : mid ≤ race.right.run
    pub fork : IsOpener race.fork

module _ (code : CodeParts) (input : List NamedArray) where
  -- the code is calm with the input
  abbrev pub IsCalmWith : Type 0
  IsCalmWith = IsCalm (strands_of code input) (root_strand code input) (words_of (words_in input))

  -- a number of capsules of its depth-first run met nothing, and one more is next
  abbrev pub HasMetNothing : (limit : ℕ) → Type 0
  HasMetNothing limit = MomentOf code (root_strand code input) (words_of (words_in input)) (length (words_in input)) (limit + 1)

  -- the race is of its depth-first run
  abbrev pub IsRaceWith : Race → Type 0
  IsRaceWith race = IsRace code (root_strand code input) (words_of (words_in input)) (length (words_in input)) race

  -- it is calm, and the run ends so within so many capsules; or the first race of the run has its later touch in these, so it is not calm;
  -- or the run takes more, and none of these met anything
  abbrev pub IsVerdict : (limit : ℕ) → Verdict → Type 0
  IsVerdict limit (Calm run) = IsCalmWith × IsWithin code input limit run
  IsVerdict limit (Races race) = (IsCalmWith → ⊥) × IsRaceWith race × (race.right.run ≤ limit)
  IsVerdict limit NotWithin = ((e : End Result) → ComesTo code input e → limit < e.counts.capsules) × HasMetNothing limit

-- a code and an input have a verdict within a limit
pub record HasVerdict (code : CodeParts) (input : List NamedArray) (limit : ℕ) : Type 0 where
  pub verdict : Verdict
  pub is : IsVerdict code input limit verdict

-- each code has one with each input and each limit
abbrev pub VerdictsAreThere : Type 0
VerdictsAreThere = (code : CodeParts) (input : List NamedArray) (limit : ℕ) → HasVerdict code input limit

-- a code and an input have one verdict within a limit
abbrev pub VerdictsAreOne : Type 0
VerdictsAreOne = (code : CodeParts) (input : List NamedArray) (limit : ℕ) (v w : Verdict) → IsVerdict code input limit v → IsVerdict code input limit w
    → v ≡ w
