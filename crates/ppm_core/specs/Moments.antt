-- One processor makes steps in a row: the moments between them.
use Rattle.std.specs.Prelude.{◌≡◌, ◌≤◌, ℕ, zero, suc, ◌+◌, if◌then◌else◌, Bool, true, false, List}
use Rattle.ppm_cells.specs.Memory.{AreWordsOf, read}
use Rattle.ppm_cells.specs.declared.cell.Cell.TheVariants.{FinishWord}
use Rattle.ppm_cells.specs.declared.shape.Shape.{Shape}
use Rattle.ppm_code.specs.declared.code.CodeParts.{CodeParts}
use Rattle.ppm_step.specs.declared.turn.Act.TheVariants.{Step}
use Rattle.ppm_step.specs.declared.turn.Next.TheVariants.{Work}
use Rattle.ppm_step.specs.declared.going.Going.{Going}
use Rattle.ppm_step.specs.declared.going.Going.TheVariants.{Went, Installed}
use Rattle.ppm_step.specs.declared.running.Running.{Running}
use Rattle.ppm_step.specs.Stages.{WentOn, rest_at, went_on}
use Rattle.ppm_step.specs.Standings.{Standing, wanted_rest, went_rest}
use Rattle.ppm_step.specs.State.{found_in, next_of, seeks_holder, words_after}
use Rattle.ppm_step.specs.Told.{is_work_turn}
use Rattle.ppm_core.specs.Acts.{is_done_at, forks_at, takes_at, words_acted, stand_acted}
use Rattle.ppm_core.specs.Steps.{is_in_capsule, is_before_capsule}

-- the words at a moment, and where the processor stands
pub record Moment : Type 0 where
  pub words : List ℕ
  pub stand : Standing

abbrev pub moment : List ℕ → Standing → Moment
moment words standing = record { words = words; stand = standing }

module _ (s : Shape) (code : CodeParts) (own : ℕ) where
  -- behind a step for which no victim is due, and behind so many
  abbrev pub moved : Moment → Moment
  moved t = record {
    words = words_acted s code own (Step 0) t.words t.stand;
    stand = stand_acted s code own (Step 0) t.words t.stand;
  }

  abbrev pub moved_by : ℕ → Moment → Moment
  moved_by zero t = t
  moved_by (suc n) t = moved_by n (moved t)

  -- the processor makes such a step while the finish word is 0
  pub record Moves (t : Moment) : Type 0 where
    pub finish : read s t.words FinishWord ≡ 0
    pub lives : is_done_at t.stand ≡ false
    pub seeks_none : seeks_holder t.stand ≡ false

  abbrev pub AllMove : ℕ → Moment → Type 0
  AllMove zero t = Unit {0}
  AllMove (suc n) t = Moves t × AllMove n (moved t)

  -- how many of so many are work
  abbrev pub work_at : Moment → ℕ
  work_at t = if is_work_turn s code (Step 0) t.stand then 1 else 0

  abbrev pub work_in : ℕ → Moment → ℕ
  work_in zero t = 0
  work_in (suc n) t = work_at t + work_in n (moved t)

  -- how many forks, and how many takes, so many make
  abbrev pub forks_in : ℕ → Moment → ℕ
  forks_in zero t = 0
  forks_in (suc n) t = forks_at (Step 0) t.stand + forks_in n (moved t)

  abbrev pub takes_in : ℕ → Moment → ℕ
  takes_in zero t = 0
  takes_in (suc n) t = takes_at (Step 0) t.stand + takes_in n (moved t)

  -- the last of them, if there is one, is work
  abbrev pub LastWorks : ℕ → Moment → Type 0
  LastWorks zero t = Unit {0}
  LastWorks (suc zero) t = next_of t.stand ≡ Work
  LastWorks (suc (suc n)) t = LastWorks (suc n) (moved t)

  -- so many steps, of which so many are work, go from one moment to another; so many forks and takes are among them
  pub record Goes (n work forks takes : ℕ) (first last : Moment) : Type 0 where
    pub moves : AllMove n first
    pub comes_to : last ≡ moved_by n first
    pub works : work ≡ work_in n first
    pub forked : forks ≡ forks_in n first
    pub taken : takes ≡ takes_in n first

  -- and the last of them is work
  pub record Leads (n work forks takes : ℕ) (first last : Moment) : Type 0 where
    pub goes : Goes n work forks takes first last
    pub ends : LastWorks n first

  -- neither forks nor takes are among them
  abbrev pub StepsTo : (n work : ℕ) → (first last : Moment) → Type 0
  StepsTo n work first last = Leads n work 0 0 first last

  -- of so many steps more none would go on in a capsule, and no two from the restart of a frame would enter one, while the finish word is 0
  pub record NoFurther (left : ℕ) (t : Moment) : Type 0 where
    pub inside : 1 ≤ left → read s t.words FinishWord ≡ 0 → is_in_capsule t.stand ≡ false
    pub before : 2 ≤ left → read s t.words FinishWord ≡ 0 → is_before_capsule t.stand ≡ true → is_in_capsule (moved_by 2 t).stand ≡ false

-- a capsule under way goes on by a word step
pub record MovesOn (s : Shape) (code : CodeParts) (old new : Running) (registers registers' words words' : List ℕ) (going : Going) : Type 0 where
  pub words_are : words' ≡ words_after words (wanted_rest s old.seat (rest_at s code old old.stage registers))
  pub count : AreWordsOf s words'
  pub stands : went_on old.seat (rest_at s code new new.stage registers') going
      ≡ went_rest s old.seat (found_in words (wanted_rest s old.seat (rest_at s code old old.stage registers))) (rest_at s code old old.stage registers)
  pub holds : WentOn s code new registers' going
  pub seat : new.seat ≡ old.seat

-- whether it goes on behind that
abbrev pub is_under_way : Going → Bool
is_under_way (Went there) = there
is_under_way (Installed restart) = false
