-- What a RAM's code comes to, run depth first, in the words of the RAM; and so what answers of runs of it say.
use Rattle.std.proofs.Common.{◌≡◌, ◌<◌, ◌≤◌, ℕ, ◌+◌, ◌*◌, List, length, Option, Some, None, sym, ap, ◌∙◌, subst}
use Rattle.std.specs.Prelude.{slice_get}
use Rattle.ppm_words.specs.declared.outcome.Outcome.{Outcome}
use Rattle.ppm_words.specs.declared.outcome.Outcome.TheVariants as outcome
use Rattle.ppm_ports.specs.Outside.{ToldLists}
use Rattle.ppm_code.specs.Code.{room_of}
use Rattle.ppm_code.specs.declared.code.Capsule.{Capsule}
use Rattle.ppm_code.specs.declared.code.CodeParts.{CodeParts}
use Rattle.ppm_ram.specs.declared.ram.RamParts.{RamParts}
use Rattle.ppm_ram.specs.Program.{IsRam, memory_of}
use Rattle.ppm_ram_code.specs.Code.{code_of}
use Rattle.ppm_ram_code.specs.Correct.{CodeEndsAsRam, CodeIsSound, CodeKeepsRules, EndsAsRam, input_of}
use Rattle.ppm_plan.specs.declared.plan_item.PlanItem.{PlanItem}
use Rattle.ppm_step.specs.declared.turn.Turn.{Turn}
use Rattle.ppm_core.specs.Situation.{Situation}
use Rattle.ppm_answers.specs.declared.answer.Answer.{Answer}
use Rattle.ppm_answers.specs.declared.answer.Answer.TheVariants as answers
use Rattle.ppm_cli.specs.declared.run.RunOptions.{RunOptions}
use Rattle.ppm_cli.specs.Words.{AreRun}
use Rattle.ppm_outcomes.specs.AsCode.{MayRun, CodeEnds, CodeNeedsMoreTurns, EndsAsCode, IsAsCode}
use Rattle.ppm_driver.specs.CodeRuns.{AnswersAreAsCode, SaysAsCode}
use Rattle.ppm_outcomes.specs.Meant.{undone_in, worked_in}
use Rattle.ppm_driver.specs.RamEnds.{AnswersAreAsRams, RamEnds, RamHas, RamNeedsMoreTurns, RunEndsAsRam, SaysAsRam}
use Rattle.ppm_outcomes.specs.Strikes.{fault_count}
use Rattle.ppm_outcomes.proofs.RunLemmas.{filled_has}

-- what the crates below show of the code of every RAM, and of the run of every sound code
pub record Laws : Type 0 where
  pub rules : CodeKeepsRules
  pub sound : CodeIsSound
  pub ends : CodeEndsAsRam
  pub runs : AnswersAreAsCode

module _ (laws : Laws) (ram : RamParts) (is : IsRam ram) where
  -- its code may run on its memory
  may_run : MayRun (code_of ram) (input_of (memory_of ram))
  may_run =
      let kept = laws.rules ram is in
      record { code_is = kept.code; input_is = kept.input; names = kept.names; sound = laws.sound ram is (memory_of ram) kept.memory }

  as_ram : EndsAsRam ram (memory_of ram)
  as_ram = laws.ends ram is (memory_of ram) (laws.rules ram is).memory

  -- an end of the code is one of the RAM
  ram_ends : (o : Outcome) → CodeEnds (code_of ram) (input_of (memory_of ram)) o → RamEnds ram o
  ram_ends o h = let e = as_ram.only h.0 h.1 in (e.0, e.1, e.2, sym h.2 ∙ e.3.told)

  -- and nothing is forked on the way
  run_ends : (m : Situation) (turns : List Turn) (o : Outcome) → EndsAsCode m turns (code_of ram) (input_of (memory_of ram)) o
      → RunEndsAsRam m turns ram o
  run_ends m turns o h =
      let d = h.depth_first in
      let e = as_ram.only d.0 d.1 in
      let none = h.forks d.0 d.1 ∙ e.3.counts.forks in
      record { ends = ram_ends o d; forks = none; takes = sym h.branches.alike ∙ none }

  -- turns that are too few for the code are so for the RAM
  needs : (faults limit : ℕ) → CodeNeedsMoreTurns (code_of ram) (input_of (memory_of ram)) faults limit → RamNeedsMoreTurns ram faults limit
  needs faults limit more steps e there =
      let d = as_ram.ends steps e there in
      subst (λ (n : ℕ). limit < 256 * (n + faults)) d.2.counts.capsules (more d.0 d.1)

-- what asks for no room does not ask for some
asks_none : (asked : Option ℕ) (words : ℕ) → asked ≡ None → asked ≡ Some words → ⊥
asks_none asked words e f = cc

module _ (laws : Laws) (options : RunOptions) (are : AreRun options) (items : List PlanItem) (ram : RamParts) (is : IsRam ram) (watching : ℕ)
    (before now : ToldLists) where
  abbrev Has : Answer → Type 0
  Has a = RamHas ram options watching before now items a

  -- no pool is found full, as no capsule asks for room
  never_full : (place : ℕ) → ¬ Has (answers.OutOfRoom place)
  never_full place h =
      let full = (filled_has options watching before now items (code_of ram) (input_of (memory_of ram)) place h).finds.full.finds in
      let same : h.start.code ≡ code_of ram = ap (λ (m : Situation). m.code) h.opens.loads in
      let there = subst (λ (c : CodeParts). slice_get c.capsules full.number ≡ Some full.capsule) same full.of_code in
      asks_none (room_of full.capsule.instrs) full.words ((laws.rules ram is).roomless full.number full.capsule there) full.asks

  says : (a : Answer) (h : Has a) → SaysAsCode options items (code_of ram) (input_of (memory_of ram)) h.start h.run.turns a
      → SaysAsRam options items ram h.start h.run.turns a
  says (answers.Ended arrays) h said = run_ends laws ram is h.start h.run.turns (outcome.Ended arrays) said
  says (answers.Trapped trap line) h said = run_ends laws ram is h.start h.run.turns (outcome.Trapped trap line) said
  says (answers.OutOfTurns c) h said = needs laws ram is (fault_count items) options.turns said
  says (answers.OutOfRoom place) h said = absurd (never_full place h)
  says a h said = absurd said

-- this holds with all options, plans and RAMs
pub answers_are_as_rams : Laws → AnswersAreAsRams
answers_are_as_rams laws options are items ram is watching before now a h =
    let run = laws.runs options are items (code_of ram) (input_of (memory_of ram)) (may_run laws ram is) watching before now a h in
    record {
      as_code = run.0;
      work = needs laws ram is (undone_in h.start h.run.turns) (worked_in h.start h.run.turns) run.0.work;
      says = says laws options are items ram is watching before now a h run.1;
    }
