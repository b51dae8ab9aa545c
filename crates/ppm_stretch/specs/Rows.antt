-- Steps in a row, whatever rows they are of.
use Rattle.std.specs.Prelude.{◌≡◌, ◌≢◌, ◌⊎◌, ℕ, Bool, true, false, List, [], ◌∷◌, ◌++◌, Option}
use Rattle.ppm_words.specs.declared.event.Event.{Event}
use Rattle.ppm_table.specs.declared.view.Opening.{Opening}
use Rattle.ppm_stretch.specs.declared.way.Steps.{Steps}
use Rattle.ppm_step.specs.Standings.{Standing, IsDone}
use Rattle.ppm_step.specs.State.{next_of, seeks_holder}
use Rattle.ppm_step.specs.declared.turn.Next.TheVariants.{Seek, Done}
use Rattle.ppm_step.specs.declared.turn.Why.TheVariants.{Watch}
use Rattle.ppm_table.specs.declared.view.Deed.TheVariants.{Quitted}
use Rattle.ppm_table.specs.Run.{deeds_in, Mine}
use Rattle.ppm_stretch.specs.Steady.{Moves, Refuses}

-- a watcher was told of these steps, where it refused none
abbrev pub Makes : {W : Type 0} → (W → Option (List Event)) → Opening → (own : ℕ) → Mine → Mine → W → W → Steps → Type 0
Makes told k own me me' w w' steps = steps.refused ≡ false → Moves told k own me me' w w' steps.made steps.work steps.looks steps.exchanged

-- a processor gives up, if it is still to take a step
abbrev pub Quits : Mine → Mine → (lives : Bool) → Type 0
Quits me me' true = deeds_in me'.0 ≡ deeds_in me.0 ++ Quitted Watch ∷ []
Quits me me' false = me' ≡ me

module _ {W : Type 0} (told : W → Option (List Event)) where
  -- a watcher was told of all these steps, at most so many, but the last, which it refused; then the processor gave up, if it was still to take one
  pub record GivesUp (k : Opening) (own : ℕ) (me me' : Mine) (w w' : W) (most : ℕ) : Type 0 where
    pub lives : Bool
    pub behind : Mine
    pub refuses : Refuses told k own me behind w w' lives most
    pub quits : Quits behind me' lives

  -- so it is where it refused one of at most so many
  abbrev pub GivesUpIfRefused : Opening → (own : ℕ) → Mine → Mine → W → W → (most : ℕ) → Steps → Type 0
  GivesUpIfRefused k own me me' w w' most steps = steps.refused ≡ true → GivesUp k own me me' w w' most

-- something is to be chosen for the coming step: a victim is due, or the processor would seek work; or it takes no step any more
abbrev pub IsChoosing : Standing → Type 0
IsChoosing standing = (seeks_holder standing ≡ true) ⊎ ((next_of standing ≡ Seek) ⊎ (next_of standing ≡ Done))

-- nothing is, and it takes one
pub record IsFree (standing : Standing) : Type 0 where
  pub lives : standing ≢ IsDone
  pub due : seeks_holder standing ≡ false
  pub seeks : next_of standing ≢ Seek
