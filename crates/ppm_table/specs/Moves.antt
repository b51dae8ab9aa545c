-- Steps that a processor's seat keeps in a row, for none of which anything has to be chosen.
use Rattle.std.specs.Prelude.{◌≡◌, ◌≢◌, ℕ, ◌+◌, ◌<◌, ◌==◌, ◌||◌, if◌then◌else◌, Bool, true, false, List, [], ◌∷◌, ◌++◌, length, Option}
use Rattle.ppm_cells.specs.declared.shape.Shape.{Shape}
use Rattle.ppm_words.specs.declared.event.Event.{Event}
use Rattle.ppm_ports.specs.Told.{KeepsList}
use Rattle.ppm_code.specs.declared.code.CodeParts.{CodeParts}
use Rattle.ppm_step.specs.declared.turn.Act.TheVariants.{Step}
use Rattle.ppm_step.specs.declared.turn.Next.TheVariants.{Seek}
use Rattle.ppm_step.specs.Standings.{Standing, IsDone}
use Rattle.ppm_step.specs.State.{seeks_holder, next_of}
use Rattle.ppm_step.specs.Told.{is_work_next}
use Rattle.ppm_table.specs.declared.view.Deed.{Deed}
use Rattle.ppm_table.specs.declared.view.Deed.TheVariants.{Loaded, Stored, Exchanged, Softened, Hardened, Quitted}
use Rattle.ppm_table.specs.declared.view.Opening.{Opening}
use Rattle.ppm_table.specs.Telling.{Shows}
use Rattle.ppm_table.specs.Run.{act_by, behind, stands_by, deeds_in, Mine, IsSeat}

-- a step for which no victim is due, by a processor that neither is done nor would seek work
pub record IsSteady (s : Shape) (standing : Standing) (deed : Deed) : Type 0 where
  pub lives : standing ≢ IsDone
  pub due : seeks_holder standing ≡ false
  pub seeks : next_of standing ≢ Seek
  pub act : act_by s standing deed ≡ Step 0

module _ (s : Shape) (code : CodeParts) (own : ℕ) where
  abbrev pub AreSteady : Standing → List Deed → Type 0
  AreSteady standing [] = Unit {0}
  AreSteady standing (deed ∷ deeds) = IsSteady s standing deed × AreSteady (behind s code own standing deed) deeds

  -- how many of them are work
  abbrev pub work_in : Standing → List Deed → ℕ
  work_in standing [] = 0
  work_in standing (deed ∷ deeds) = (if is_work_next s code (next_of standing) then 1 else 0) + work_in (behind s code own standing deed) deeds

  -- how many looks there were since the last work, where there were so many before
  abbrev pub looks_in : (before : ℕ) → Standing → List Deed → ℕ
  looks_in before standing [] = before
  looks_in before standing (deed ∷ deeds) = looks_in (if is_work_next s code (next_of standing) then 0 else before + 1) (behind s code own standing deed) deeds

-- a compare-and-modify, whether it changed the word or not
abbrev pub is_exchange : Deed → Bool
is_exchange (Loaded at found) = false
is_exchange (Stored at word) = false
is_exchange (Exchanged at old new) = true
is_exchange Softened = false
is_exchange Hardened = false
is_exchange (Quitted why) = false

-- whether one of these is one
abbrev pub exchanged_in : List Deed → Bool
exchanged_in [] = false
exchanged_in (deed ∷ deeds) = is_exchange deed || exchanged_in deeds

-- so many looks more, or the first since the last work
abbrev pub looks_behind : (before work looks : ℕ) → ℕ
looks_behind before work looks = if work == 0 then before + looks else looks

-- a seat keeps so many deeds more, all of them such steps, of which so many are work, and so many are looks since the last of these;
-- and whether one of them is a compare-and-modify
pub record Goes (k : Opening) (own : ℕ) (me me' : Mine) (made work looks : ℕ) (exchanged : Bool) : Type 0 where
  pub deeds : List Deed
  pub more : deeds_in me'.0 ≡ deeds_in me.0 ++ deeds
  pub count : length deeds ≡ made
  pub steady : AreSteady k.shape k.code own (stands_by k own (deeds_in me.0)) deeds
  pub works : work_in k.shape k.code own (stands_by k own (deeds_in me.0)) deeds ≡ work
  pub looked : (before : ℕ) → looks_in k.shape k.code own before (stands_by k own (deeds_in me.0)) deeds ≡ looks_behind before work looks
  pub exchanges : exchanged_in deeds ≡ exchanged
  pub sits : IsSeat own me'

-- a processor sits there that is still to take a step, or one that is done
abbrev pub Lives : Opening → (own : ℕ) → Mine → Bool → Type 0
Lives k own me true = IsSeat own me × (stands_by k own (deeds_in me.0) ≢ IsDone)
Lives k own me false = IsSeat own me × (stands_by k own (deeds_in me.0) ≡ IsDone)

module _ {W : Type 0} (told : W → Option (List Event)) where
  -- a watcher was told of these steps
  pub record Moves (k : Opening) (own : ℕ) (me me' : Mine) (w w' : W) (made work looks : ℕ) (exchanged : Bool) : Type 0 where
    pub goes : Goes k own me me' made work looks exchanged
    pub shows : Shows k own (told w) (told w') me me'

-- what a watcher shows, by itself
abbrev pub itself : Option (List Event) → Option (List Event)
itself told = told

module _ {W : Type 0} (told : W → Option (List Event)) where
  -- a watcher was told of all these steps, at most so many, but the last, which it refused, and its list stays; the processor is still to take a step,
  -- or is done
  pub record Refuses (k : Opening) (own : ℕ) (me me' : Mine) (w w' : W) (lives : Bool) (most : ℕ) : Type 0 where
    pub before : Mine
    pub mid : Option (List Event)
    pub made : ℕ
    pub work : ℕ
    pub looks : ℕ
    pub exchanged : Bool
    pub few : made < most
    pub moves : Moves itself k own me before (told w) mid made work looks exchanged
    pub last_work : ℕ
    pub last_looks : ℕ
    pub last_exchanged : Bool
    pub last : Goes k own before me' 1 last_work last_looks last_exchanged
    pub keeps : KeepsList mid (told w')
    pub stays : Lives k own me' lives
