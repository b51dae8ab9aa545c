-- Programs are as their codes: a program's code is sound, and its outcome is the program's. So runs end as their programs do, since they end as
-- their codes, run depth first (`AsCodeLemmas`).
use Rattle.std.proofs.Common.{ℕ, List, subst, arith}
use Rattle.ppm_words.specs.declared.named_array.NamedArray.{NamedArray}
use Rattle.ppm_words.specs.declared.outcome.Outcome.{Outcome}
use Rattle.ppm_code.specs.declared.code.CodeParts.{CodeParts}
use Rattle.ppm_tree.specs.Tree.{ProgramTree}
use Rattle.ppm_tree.specs.Limits.{IsWithin}
use Rattle.ppm_tree.specs.Program.{initial_arrays}
use Rattle.ppm_rows.specs.Correct.{TreesAreWithin}
use Rattle.ppm_regions.proofs.Inputs.{input_fits}
use Rattle.ppm_program.specs.Programs.{HasProgram}
use Rattle.ppm_program.proofs.WithinLemmas.{tree_within}
use Rattle.ppm_cut_code.specs.Correct.{KeepsTheRules}
use Rattle.ppm_cut_code.specs.Inputs.{IsInputOf}
use Rattle.ppm_cut_code.specs.Routines.{code_of}
use Rattle.ppm_cut_sound.specs.Correct.{CodeIsSound}
use Rattle.ppm_cut_correct.specs.Beginning.{StartWithInput, NameArrays}
use Rattle.ppm_cut_correct.specs.Correct.{EndAsMeant, EndsSerially}
use Rattle.ppm_step.specs.declared.turn.Turn.{Turn}
use Rattle.ppm_core.specs.Situation.{Situation}
use Rattle.ppm_outcomes.specs.Meant.{HasOutcome, NeedsMoreRoom, EndsAsProgram, IsAsProgram, RunsAreAsPrograms}
use Rattle.ppm_outcomes.specs.AsCode.{MayRun, CodeEnds, CodeNeedsMoreRoom, EndsAsCode, IsAsCode, RunsAreAsCode}
use Rattle.ppm_outcomes.specs.ProgramsAsCode.{IsAsItsCode, ProgramsAreAsCode}

-- what the crates below show of every text and every program's code
pub record Laws : Type 0 where
  pub within : TreesAreWithin
  pub rules : KeepsTheRules
  pub sound : CodeIsSound
  pub starts : StartWithInput
  pub names : NameArrays
  pub serially : EndsSerially
  pub meant : EndAsMeant

module _ (laws : Laws) (text : List ℕ) (t : ProgramTree) (has : HasProgram text t) where
  abbrev code : CodeParts
  code = code_of t

  abbrev input : List NamedArray
  input = initial_arrays t

  inside : IsWithin t
  inside = tree_within laws.within text t has.admitted.tree

  starts : IsInputOf t input
  starts = laws.starts t inside has.admitted.admitted

  -- its code may run on its arrays
  may_run : MayRun code input
  may_run = record {
    code_is = laws.rules t inside has.admitted.admitted has.bounded;
    input_is = input_fits t inside has.admitted.admitted;
    names = laws.names t has.admitted.admitted input starts;
    sound = laws.sound t inside has.admitted.admitted has.bounded input starts;
  }

  -- an outcome of that, run depth first, is the program's
  serial_is : (o : Outcome) → CodeEnds code input o → HasOutcome t o
  serial_is o k =
      subst (λ (x : Outcome). HasOutcome t x) k.2 ((laws.serially t inside has.admitted.admitted has.bounded).serially k.0 k.1)

  -- what is too small for it is too small for the program
  more_room : (room : ℕ) → CodeNeedsMoreRoom code input room → NeedsMoreRoom t room
  more_room room more = record {
    depth_first = more;
    whole = λ k z means.
        let e = (laws.meant t inside has.admitted.admitted has.bounded input starts).ends k z means in
        let less = more e.0 e.1 in
        let words_are = e.2.pool_words in
        omega (arith, less, words_are);
  }

-- each text's program is as its code
pub programs_are_as_code : Laws → ProgramsAreAsCode
programs_are_as_code laws text t has =
    record { may = may_run laws text t has; serially = serial_is laws text t has; more_room = more_room laws text t has }

module _ (t : ProgramTree) (its : IsAsItsCode t) (m : Situation) (turns : List Turn) where
  -- what ends as the code ends as the program
  ends : (o : Outcome) → EndsAsCode m turns (code_of t) (initial_arrays t) o → EndsAsProgram m turns t o
  ends o k = record { serially = its.serially o k.depth_first; depth_first = k.depth_first; branches = k.branches; forks = k.forks }

  -- and what is as the code is as the program
  as_program : IsAsCode m turns (code_of t) (initial_arrays t) → IsAsProgram m turns t
  as_program h = record {
    once = h.once;
    ended = λ says. ends _ (h.ended says);
    trapped = λ trap line says. ends _ (h.trapped trap line says);
    full = λ place says. let k = h.full place says in (k.0, its.more_room m.shape.room k.1);
    unbroken = h.unbroken;
    work = h.work;
    few = h.few;
    pools = h.pools;
  }

-- this holds with each text's program
pub runs_are_as_programs : ProgramsAreAsCode → RunsAreAsCode → RunsAreAsPrograms
runs_are_as_programs programs runs text t has sizes keeper m b turns among =
    let its = programs text t has in
    as_program t its m turns (runs (code_of t) (initial_arrays t) its.may sizes keeper m b turns among)
