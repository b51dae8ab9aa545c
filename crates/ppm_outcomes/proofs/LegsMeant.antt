-- With takeover by places runs in legs end as their programs do: a program's code is sound, so they end as that does, run depth first
-- (`LegsOfCode`), and its outcome is the program's (`MeantLemmas`).
use Rattle.std.proofs.Common.{ℕ, List}
use Rattle.ppm_words.specs.declared.named_array.NamedArray.{NamedArray}
use Rattle.ppm_words.specs.declared.outcome.Outcome.{Outcome}
use Rattle.ppm_code.specs.declared.code.CodeParts.{CodeParts}
use Rattle.ppm_tree.specs.Tree.{ProgramTree}
use Rattle.ppm_tree.specs.Program.{initial_arrays}
use Rattle.ppm_cut_code.specs.Routines.{code_of}
use Rattle.ppm_step.specs.declared.turn.Turn.{Turn}
use Rattle.ppm_runs.specs.Legs.{Leg}
use Rattle.ppm_core.specs.Situation.{Situation}
use Rattle.ppm_outcomes.specs.Legs.{EndsAsProgramInAll, IsAsProgramInAll, RunsInLegsAreAsPrograms, TagsMayRiseInLegs}
use Rattle.ppm_outcomes.specs.LegsAsCode.{EndsAsCodeInAll, IsAsCodeInAll, RunsInLegsAreAsCode, TagsMayRiseInLegsOfCode}
use Rattle.ppm_outcomes.specs.ProgramsAsCode.{IsAsItsCode, ProgramsAreAsCode}

module _ (t : ProgramTree) (its : IsAsItsCode t) (m : Situation) (legs : List Leg) (turns : List Turn) where
  abbrev code : CodeParts
  code = code_of t

  abbrev input : List NamedArray
  input = initial_arrays t

  -- what ends as the code ends as the program
  pub ends_as_program : (o : Outcome) → EndsAsCodeInAll m legs turns code input o → EndsAsProgramInAll m legs turns t o
  ends_as_program o k = record {
    serially = its.serially o k.depth_first;
    depth_first = k.depth_first;
    branches = k.branches;
    forks = k.forks;
  }

  -- and what is as the code is as the program
  pub as_program : IsAsCodeInAll m legs turns code input → IsAsProgramInAll m legs turns t
  as_program h = record {
    once = h.once;
    ended = λ says. ends_as_program _ (h.ended says);
    trapped = λ trap line says. ends_as_program _ (h.trapped trap line says);
    work = h.work;
    few = h.few;
    full = λ place says. let k = h.full place says in (k.0, its.more_room m.shape.room k.1);
    pools = h.pools;
    stands = h.stands;
    unbroken = h.unbroken;
  }

-- this holds with each text's program
pub runs_in_legs_are_as_programs : ProgramsAreAsCode → RunsInLegsAreAsCode → RunsInLegsAreAsPrograms
runs_in_legs_are_as_programs programs runs text t has sizes places keeper m b legs are turns among =
    let its = programs text t has in
    as_program t its m legs turns (runs (code_of t) (initial_arrays t) its.may sizes places keeper m b legs are turns among)

pub tags_may_rise : ProgramsAreAsCode → TagsMayRiseInLegsOfCode → TagsMayRiseInLegs
tags_may_rise programs tags text t has sizes places keeper m b legs are turns among few =
    tags (code_of t) (initial_arrays t) (programs text t has).may sizes places keeper m b legs are turns among few
