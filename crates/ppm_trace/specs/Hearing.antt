-- What the calls that let a run be heard know and say of the machine, of what they count, and of a listener's notes.
use Rattle.std.specs.Prelude.{List}
use Rattle.ppm_choice.specs.Course.{Due, turns_of}
use Rattle.ppm_core.specs.Situation.{Situation}
use Rattle.ppm_following.specs.Following.{course, Does, IsReady}
use Rattle.ppm_following.specs.declared.following.Way.{Way}
use Rattle.ppm_step.specs.declared.turn.Turn.{Turn}

-- a run that is heard: the machine, what is counted along the run, and the notes so far
pub record Hearing (Notes : Type 0) : Type 0 where
  pub machine : Situation
  pub way : Way
  pub notes : Notes

abbrev pub hearing : {Notes : Type 0} → Situation → Way → Notes → Hearing Notes
hearing m way notes = record { machine = m; way = way; notes = notes }

-- the counts are far from their ends, and the listener can hear
pub record IsHearing {Notes : Type 0} (listens : Situation → Notes → Type 0) (h : Hearing Notes) : Type 0 where
  pub ready : IsReady h.machine h.way
  pub can : listens h.machine h.notes

-- this was done and heard
pub record Hears {Notes : Type 0} (heard : Situation → List Turn → Notes → Notes → Type 0) (dues : List Due) (old new : Hearing Notes) : Type 0 where
  pub does : Does dues old.machine old.way new.machine new.way
  pub hears : heard old.machine (turns_of old.machine.shape old.machine.code (course old.machine old.way) dues) old.notes new.notes

-- whatever is heard after these, it is as all of it heard before
abbrev pub LeadsTo : {Notes : Type 0} (heard : Situation → List Turn → Notes → Notes → Type 0) (dues rest : List Due) → (old now : Hearing Notes) → Type 0
LeadsTo {Notes} heard dues rest old now = (new : Hearing Notes) → Hears heard rest now new → Hears heard dues old new
