-- Steps of a processor's seat, as steps on words of any kind.
use Rattle.std.specs.Prelude.{◌≡◌, ℕ, Bool, List, Option}
use Rattle.atomic_table.specs.Seated.{TableId}
use Rattle.ppm_words.specs.declared.event.Event.{Event}
use Rattle.ppm_step.specs.Standings.{Standing}
use Rattle.ppm_table.specs.declared.view.Opening.{Opening}
use Rattle.ppm_table.specs.Run.{stands_by, deeds_in, Mine, IsSeat}
use Rattle.ppm_table.specs.Moves.{Moves, Refuses, itself}
use Rattle.ppm_engine.specs.Memory.{Counts}

module _ (table : TableId) (k : Opening) (own : ℕ) where
  -- the seat of this processor, of this table, which stands there by its deeds
  pub record SitsAt (id : TableId) (me : Mine) (standing : Standing) : Type 0 where
    pub of_table : id ≡ table
    pub sits : IsSeat own me
    pub stands : stands_by k own (deeds_in me.0) ≡ standing

  -- so many steps, all told
  pub record Led (id : TableId) (me : Mine) (x : Standing) (told : Option (List Event)) (id' : TableId) (me' : Mine) (x' : Standing)
      (told' : Option (List Event)) (c : Counts) : Type 0 where
    pub to : SitsAt id' me' x'
    pub moves : Moves itself k own me me' told told' c.made c.work c.looks c.exchanged

  -- at most so many, of which the last was refused
  pub record Refused (id : TableId) (me : Mine) (x : Standing) (told : Option (List Event)) (id' : TableId) (me' : Mine) (x' : Standing)
      (told' : Option (List Event)) (most : ℕ) : Type 0 where
    pub to : SitsAt id' me' x'
    pub lives : Bool
    pub refuses : Refuses itself k own me me' told told' lives most
