-- What rows say of `resume`: each status says its sentence; and of each sound code, and each program, that left the state the whole run, with the
-- legs before, is as the code (`ResumedOfCode`), and as the program.
use Rattle.std.proofs.Common.{◌≡◌, ◌≢◌, ◌⊎◌, ◌<◌, ◌*◌, ◌+◌, ◌^◌, ℕ, List, [], ◌∷◌, length, None, inl, inr, sym, ap, ◌∙◌, subst, arith}
use Rattle.ppm_words.specs.declared.named_array.NamedArray.{NamedArray}
use Rattle.ppm_words.specs.declared.outcome.Outcome.TheVariants as outcome
use Rattle.ppm_words.specs.declared.trap.Trap.{Trap}
use Rattle.ppm_ports.specs.Outside.{KeepFronts, ToldLists, Outside, ports_of}
use Rattle.ppm_cells.specs.Finish.{finish_of}
use Rattle.ppm_cells.specs.declared.shape.Shape.{Shape}
use Rattle.ppm_code.specs.declared.code.CodeParts.{CodeParts}
use Rattle.ppm_plan.specs.declared.plan_item.PlanItem.{PlanItem}
use Rattle.ppm_tree.specs.Program.{initial_arrays}
use Rattle.ppm_cut_code.specs.Routines.{code_of}
use Rattle.ppm_choice.specs.Deeds.{work_made}
use Rattle.ppm_runs.specs.Legs.{Leg}
use Rattle.ppm_saved_reader.specs.Rules.{saved_limit}
use Rattle.ppm_answers.specs.declared.answer.Answer.{Answer}
use Rattle.ppm_answers.specs.declared.answer.Answer.TheVariants as answers
use Rattle.ppm_answers.specs.declared.status.Status.{Status}
use Rattle.ppm_answers.specs.declared.status.Status.TheVariants as statuses
use Rattle.ppm_answers.specs.Statuses.{status_of}
use Rattle.ppm_answers.specs.Delivery.{IsWritten, Delivers}
use Rattle.ppm_answers.specs.Reading.{ReadHas, Answers}
use Rattle.ppm_answers.specs.Texts.{IsFixed}
use Rattle.ppm_answers.proofs.Delivered.{of_answers}
use Rattle.ppm_answers.specs.Rows.{IsOneOf, TextRows}
use Rattle.ppm_answers.proofs.RowsLemmas.{SaysOfPorts}
use Rattle.ppm_answers.proofs.Judged.{judging_told, text_rows}
use Rattle.ppm_cli.specs.declared.resume.ResumeOptions.{ResumeOptions}
use Rattle.ppm_outcomes.specs.AsCode.{MayRun, CodeNeedsMoreTurns}
use Rattle.ppm_stop_command.specs.CodeResumeRows.{CompletesAsCode}
use Rattle.ppm_outcomes.specs.CodeResumes.{IsTextLeftByCode, CodeWordsComeBack, by_code}
use Rattle.ppm_outcomes.specs.Completeness.{IsEnd}
use Rattle.ppm_outcomes.specs.Legs.{worked_in_all, lost_in_all, NoneIsTakenTwiceInAll, EndsAsProgramInAll, IsAsProgramInAll}
use Rattle.ppm_outcomes.specs.LegsAsCode.{RunsInLegsAreAsCode}
use Rattle.ppm_outcomes.specs.Meant.{NeedsMoreRoom, NeedsMoreTurns}
use Rattle.ppm_outcomes.specs.ProgramsAsCode.{IsAsItsCode, ProgramsAreAsCode}
use Rattle.ppm_outcomes.specs.ResumeCompleteness.{lost_with, ResumesComplete}
use Rattle.ppm_outcomes.specs.ResumeLaws.{ResumeLaws}
use Rattle.ppm_stop_command.specs.ResumeRows.{Has, RefusesPlan, ResumeSays, ComesLate, Completes, ResumeRows}
use Rattle.ppm_outcomes.specs.Resumes.{SavedState, limits_of, plan_of, saved_finish, ResumedHas, ItemsHave, ResumeMay, ResumeTells, TextHas}
use Rattle.ppm_outcomes.specs.Resumes.{IsLeftBy, IsTextOf, ResumesLeaveStates, legs_with}
use Rattle.ppm_outcomes.proofs.LeftLemmas.{by_source, text_by_code}
use Rattle.ppm_outcomes.proofs.LegsMeant.{as_program, ends_as_program}
use Rattle.ppm_outcomes.proofs.ResumeComplete.{resumes_complete}
use Rattle.ppm_outcomes.proofs.ResumeLemmas.{spent_has, filled_has, has_kind, fronts_decide, wants}
use Rattle.ppm_outcomes.proofs.ResumedOfCode.{left_stands, left_again, left_words_stand, resumed_breaks, resumed_ends, resumed_full, resumed_is}
use Rattle.ppm_outcomes.proofs.ResumedOfCode.{resumed_loses, resumed_needs_turns, resumed_traps, resumes_are_as_code}
use Rattle.ppm_outcomes.proofs.StrikeLemmas.{strikes_are_planned}

-- A run from a state that a source left is with the legs before as its program: it is as the program's code.
module _ (laws : ResumeLaws) (options : ResumeOptions) (before now : ToldLists) (items : List PlanItem) (z : SavedState) (source : List ℕ)
    (left : IsLeftBy source z) where
  abbrev Resumed : Answer → Type 0
  Resumed a = ResumedHas options before now items z a

  abbrev code : CodeParts
  code = code_of left.tree

  abbrev input : List NamedArray
  input = initial_arrays left.tree

  its : IsAsItsCode left.tree
  its = laws.programs source left.tree left.has

  pub program_is : (a : Answer) (h : Resumed a) → IsAsProgramInAll left.start (legs_with left h.start.state.words) h.run.turns left.tree
  program_is a h =
      as_program left.tree its left.start (legs_with left h.start.state.words) h.run.turns
      (resumed_is laws.legs laws.comes code input its.may z (by_code left) options before now items a h)

  pub program_ends : (arrays : List NamedArray) (h : Resumed (answers.Ended arrays))
      → EndsAsProgramInAll left.start (legs_with left h.start.state.words) h.run.turns left.tree (outcome.Ended arrays)
  program_ends arrays h =
      ends_as_program left.tree its left.start (legs_with left h.start.state.words) h.run.turns (outcome.Ended arrays)
      (resumed_ends laws.legs laws.comes code input its.may z (by_code left) options before now items arrays h)

  pub program_traps : (trap : Trap) (line : ℕ) (h : Resumed (answers.Trapped trap line))
      → EndsAsProgramInAll left.start (legs_with left h.start.state.words) h.run.turns left.tree (outcome.Trapped trap line)
  program_traps trap line h =
      ends_as_program left.tree its left.start (legs_with left h.start.state.words) h.run.turns (outcome.Trapped trap line)
      (resumed_traps laws.legs laws.comes code input its.may z (by_code left) options before now items trap line h)

  -- a full pool is one of a place, and the program needs more of it
  pub program_full : (place : ℕ) (h : Resumed (answers.OutOfRoom place)) → (place < z.shape.processors) × NeedsMoreRoom left.tree z.shape.room
  program_full place h =
      let k = resumed_full laws.legs laws.comes code input its.may z (by_code left) options before now items place h in
      (k.0, its.more_room z.shape.room k.1)

  pub program_needs_turns : (c : ℕ) (h : Resumed (answers.OutOfTurns c)) → work_made h.start.shape h.start.code c h.start.state h.run.turns ≡ options.turns
      → NeedsMoreTurns left.tree (lost_in_all left.start (legs_with left h.start.state.words) h.run.turns) options.turns
  program_needs_turns c h made =
      resumed_needs_turns laws.legs laws.comes code input its.may z (by_code left) options before now items c h made

  pub program_breaks : (place : ℕ) (h : Resumed (answers.Broken place))
      → 2 ^ 34 + 2 ^ 28 < worked_in_all left.start (legs_with left h.start.state.words) h.run.turns
  program_breaks place h = resumed_breaks laws.legs laws.comes code input its.may z (by_code left) options before now items place h

  pub program_stands : finish_of (saved_finish z) ≢ None
  program_stands = left_stands laws.legs laws.comes code input its.may z (by_code left)

  pub program_once : (a : Answer) (h : Resumed a) → NoneIsTakenTwiceInAll left.start (legs_with left h.start.state.words) h.run.turns
  program_once a h = (program_is a h).once

-- the state after turns of fresh processors is left by the source too
pub resumes_leave_states : RunsInLegsAreAsCode → CodeWordsComeBack → ProgramsAreAsCode → ResumesLeaveStates
resumes_leave_states law comes programs source z left few start on turns all =
    by_source source left.tree left.has _
    (left_again law comes (code_of left.tree) (initial_arrays left.tree) (programs source left.tree left.has).may z (by_code left) start on turns all few)

-- of a text that was left by turns of one machine alone, by so many faults
module _ (law : RunsInLegsAreAsCode) (comes : CodeWordsComeBack) (options : ResumeOptions) (before now : ToldLists) (items : List PlanItem)
    (code : CodeParts) (input : List NamedArray) (may : MayRun code input) (faults : ℕ) (text : List ℕ) (left : IsTextLeftByCode code input faults text)
    (c : ℕ) where
  abbrev IsShort : SavedState → Type 0
  IsShort z = (h : ResumedHas options before now items z (answers.OutOfTurns c))
      → work_made h.start.shape h.start.code c h.start.state h.run.turns ≡ options.turns
      → CodeNeedsMoreTurns code input (lost_with faults z.shape.processors items) options.turns

  short_there : IsShort left.state
  short_there h made e ends =
      let needs = resumed_needs_turns law comes code input may left.state left.by options before now items c h made e ends in
      let loses = resumed_loses law comes code input may left.state left.by options before now items (answers.OutOfTurns c) h in
      let struck = left.struck in
      let none : left.by.start.shape.processors * length left.by.legs ≡ 0 =
      ap (λ (l : List Leg). left.by.start.shape.processors * length l) left.alone ∙ times_none left.by.start.shape.processors in
      let same : left.state.shape.processors ≡ left.by.start.shape.processors = ap (λ (s : Shape). s.processors) left.by.shape_is in
      omega (arith, needs, loses, struck, none, same)
    where
      times_none : (n : ℕ) → n * 0 ≡ 0
      times_none n = omega arith

  pub short_behind_stop : (z : SavedState) → IsTextOf text z → IsShort z
  short_behind_stop z is = subst IsShort (sym (left.one z is)) short_there

-- what was delivered is the answer, or want of memory in its place
pub resume_delivered : (options : ResumeOptions) (plan : List ℕ) (o : Outside) (a : Answer) (status : Status) → KeepFronts o.told_before o.told_now
    → ResumeTells options plan o.source a o.told_before o.told_now → ResumeMay options plan o.told_before o.told_now o.source a
    → Delivers o.out o.err a status ⊎ ((¬ IsFixed a) × Delivers o.out o.err answers.NoMemory status)
    → Answers (ResumeMay options plan o.told_before o.told_now o.source) (ResumeTells options plan o.source) o status
resume_delivered options plan o a status kept told may d =
    judging_told saved_limit (TextHas options plan o.told_before o.told_now) (ResumeTells options plan o.source) o a status told
    (kept, told.1, wants options o.told_before o.told_now plan o.source a may told) may d

-- what is known to end is written with the status of an end
pub ended : (status : Status) (answer : Answer) → IsEnd answer → status ≡ status_of answer → IsOneOf status (statuses.Ended ∷ statuses.Trapped ∷ [])
ended status (answers.Ended arrays) is own = inl own
ended status (answers.Trapped trap line) is own = inr (inl own)
ended status _ is own = absurd is

module _ (laws : ResumeLaws) (options : ResumeOptions) (plan : List ℕ) (o : Outside) (status : Status)
    (a : Answers (ResumeMay options plan o.told_before o.told_now o.source) (ResumeTells options plan o.source) o status) where
  abbrev Reads : Answer → Type 0
  Reads answer = ReadHas saved_limit (Has options plan o) o.source answer

  -- what is said of faults and of want of memory
  of_ports : SaysOfPorts (ports_of o) (ResumeSays options plan o)
  of_ports = record {
    read_fault = λ f. f;
    write_fault = λ f. f;
    memory = wants options o.told_before o.told_now plan o.source a.answer a.cause a.told;
  }

  -- that words are broken comes late
  late : (items : List PlanItem) (z : SavedState) (place : ℕ) → ItemsHave options o.told_before o.told_now items z (answers.Broken place)
      → ComesLate options plan o items z place
  late items z place (inl k) source left =
      absurd (program_stands laws options o.told_before o.told_now items z source left k.0.none)
  late items z place (inr run) source left = (run, program_breaks laws options o.told_before o.told_now items z source left place run)

  -- an answer that is written says the sentence of its status
  by : (answer : Answer) → Reads answer → IsWritten o.out o.err answer (status_of answer) → ResumeSays options plan o (status_of answer)
  by (answers.SavedRefused r) h w = (r, h, w.err_takes.0)
  by (answers.PlanRefused number) h w = (number, h, w.err_takes.0)
  by (answers.Ended arrays) h w = record {
    arrays = arrays;
    read = h;
    meant = λ source left. program_ends laws options o.told_before o.told_now h.2.has.items h.2.state source left arrays h.2.has.has;
    gets = w.out_takes.0;
  }
  by (answers.Trapped t line) h w = record {
    trap = t;
    line = line;
    read = h;
    meant = λ source left. program_traps laws options o.told_before o.told_now h.2.has.items h.2.state source left t line h.2.has.has;
    gets = w.out_takes.0;
  }
  by (answers.OutOfTurns processor) h w =
      let spent = spent_has options o.told_before o.told_now h.2.has.items h.2.state processor h.2.has.has in record {
        processor = processor;
        read = h;
        spent = spent;
        needs = λ source left. program_needs_turns laws options o.told_before o.told_now h.2.has.items h.2.state source left processor h.2.has.has spent.1;
        struck = strikes_are_planned (plan_of h.2.state h.2.has.items) (limits_of options) h.2.has.has.start h.2.has.has.run.turns
            h.2.has.has.run.obey;
        stopped = λ source faults left.
            short_behind_stop laws.legs laws.comes options o.told_before o.told_now h.2.has.items (code_of left.by.tree) (initial_arrays left.by.tree)
            (laws.programs source left.by.tree left.by.has).may faults h.0 (text_by_code source faults h.0 left) processor h.2.state h.2.is h.2.has.has spent.1;
        once = λ source left. program_once laws options o.told_before o.told_now h.2.has.items h.2.state source left (answers.OutOfTurns processor) h.2.has.has;
        gets = w.err_takes.0;
      }
  by (answers.OutOfRoom place) h w = record {
    place = place;
    read = h;
    full = filled_has options o.told_before o.told_now h.2.has.items h.2.state place h.2.has.has;
    there = λ source left. (program_full laws options o.told_before o.told_now h.2.has.items h.2.state source left place h.2.has.has).0;
    needs = λ source left. (program_full laws options o.told_before o.told_now h.2.has.items h.2.state source left place h.2.has.has).1;
    once = λ source left. program_once laws options o.told_before o.told_now h.2.has.items h.2.state source left (answers.OutOfRoom place) h.2.has.has;
    gets = w.err_takes.0;
  }
  by (answers.Broken place) h w = record { place = place; read = h; late = late h.2.has.items h.2.state place h.2.has.has; gets = w.err_takes.0 }
  by answer h w = absurd (has_kind options o.told_before o.told_now h.2.has.items h.2.state answer h.2.has.has)

  abbrev Rows : Type 0
  Rows = TextRows saved_limit (Has options plan o) (ResumeSays options plan o) (ports_of o) status

  rows_of : Rows
  rows_of =
      text_rows saved_limit (Has options plan o) (fronts_decide options plan o.told_before o.told_now) (ResumeSays options plan o) (ports_of o) status
      (of_answers (ResumeMay options plan o.told_before o.told_now o.source) (ResumeTells options plan o.source) o status a) of_ports by

  completes_as_code : CompletesAsCode options plan o status
  completes_as_code are all e z is items accepted code input may left enough well =
      let k = rows_of.known all e well in
      ended status k.0 (laws.complete options are all z is plan items accepted code input may left enough o.told_before o.told_now k.0 k.1) k.2.own

  completes : Completes options plan o status
  completes are all e z is items accepted source left enough well =
      let k = rows_of.known all e well in
      let complete : ResumesComplete = resumes_complete laws.programs laws.complete in
      ended status k.0 (complete options are all z is plan items accepted source left enough o.told_before o.told_now k.0 k.1) k.2.own

  pub resume_rows : ResumeRows options plan o status
  resume_rows = record {
    rows = rows_of;
    meant = λ items z answer h source left. program_is laws options o.told_before o.told_now items z source left answer h;
    completes = completes;
    codes = record {
      as_code = resumes_are_as_code laws.legs laws.comes options o.told_before o.told_now;
      stand = left_words_stand laws.legs laws.comes;
      completes = completes_as_code;
    };
  }

  -- 3 comes of a plan alone
  pub plan_refused : status ≡ statuses.WordsRefused → RefusesPlan options plan o
  plan_refused e = subst (ResumeSays options plan o) e rows_of.says
