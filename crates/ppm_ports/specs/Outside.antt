-- The outside of a command, before its call and after it.
use Rattle.std.specs.Prelude.{List, [], ◌∷◌, Option, ⊤}
use Rattle.ppm_words.specs.declared.event.Event.{Event}
use Rattle.ppm_ports.specs.Ports.{Port}
use Rattle.ppm_ports.specs.Told.{KeepsFront}

-- what each watcher was told, where it shows that
abbrev pub ToldLists : Type 0
ToldLists = List (Option (List Event))

-- the lists are as many as they were, and each keeps what it had in front
abbrev pub KeepFronts : ToldLists → ToldLists → Type 0
KeepFronts [] [] = ⊤
KeepFronts (before ∷ all_before) (now ∷ all_now) = KeepsFront before now × KeepFronts all_before all_now
KeepFronts before now = ⊥

-- where bytes come from and where texts go: all that a command has which tells no watcher
pub record Ports : Type 0 where
  pub source : Port
  pub out : Port
  pub err : Port

-- these three
abbrev pub ports : Port → Port → Port → Ports
ports source out err = record { source = source; out = out; err = err }

-- where bytes come from, where texts go, and what the watchers were told before the call and after it
pub record Outside : Type 0 where
  pub source : Port
  pub out : Port
  pub err : Port
  pub told_before : ToldLists
  pub told_now : ToldLists

-- the outside with these ports and watchers
abbrev pub outside : Port → Port → Port → ToldLists → ToldLists → Outside
outside source out err before now = record { source = source; out = out; err = err; told_before = before; told_now = now }

-- its ports
abbrev pub ports_of : Outside → Ports
ports_of o = ports o.source o.out o.err
