-- The command that the words of the command line give, as clap reads them.
use Rattle.std.specs.Prelude.{◌≤◌, ◌*◌, ◌==◌, ℕ, Bool, true, false, List, [], ◌∷◌, Option, Some, None, codes, if◌then◌else◌, option_and_then, option_map, ⊤}
use Rattle.std.specs.Str.{bytes_eq}
use Rattle.clap.specs.Words.{Kinds, Row, Text, fault_of, subcommand_of}
use Rattle.ppm_cells.specs.Limits.{most_pool_words, most_saved_pool_words}
use Rattle.ppm_cli.specs.Application.{ppm_application}
use Rattle.ppm_cli.specs.CommandLine.{Form, Number, OptionRule}
use Rattle.ppm_cli.specs.CommandLine.{processors, turns, room, slots, looks, seed, faults, schedule}
use Rattle.ppm_cli.specs.CommandLine.{few_processors, after, saved_room, few_slots, size, count, capsules, arrays, racy}
use Rattle.ppm_cli.specs.CommandLine.{copied_room, copied_slots, met, from, acts, runs}
use Rattle.ppm_cli.specs.CommandLine.{traced_from, traced_acts, stated_plan, stated_schedule, steps, strands, trap}
use Rattle.ppm_cli.specs.Values.{and_then, are_counts_given, choice_given, idle_given, is_case_given, number_given, room_given, swept_takeovers_given, takeover_given, text_given}
use Rattle.ppm_cli.specs.Values.{explained_given, stated_given, input_given, saved_room_given, strands_form_given, traced_form_given, traced_lines_given}
use Rattle.ppm_cli.specs.declared.capsules.CapsuleLimit.{CapsuleLimit}
use Rattle.ppm_cli.specs.declared.command.Command.{Command}
use Rattle.ppm_cli.specs.declared.command.Command.TheVariants as commands
use Rattle.ppm_cli.specs.declared.example.SelfOptions.{SelfOptions}
use Rattle.ppm_cli.specs.declared.explain.ExplainedText.{ExplainedText}
use Rattle.ppm_cli.specs.declared.explain.ExplainedText.TheVariants as texts
use Rattle.ppm_cli.specs.declared.explain.ExplainedOrders.TheVariants as orders
use Rattle.ppm_cli.specs.declared.explain.ExplainOptions.{ExplainOptions}
use Rattle.ppm_cli.specs.declared.input.InputKind.{InputKind}
use Rattle.ppm_cli.specs.declared.input.InputKind.TheVariants as kinds
use Rattle.ppm_cli.specs.declared.replay.ReplayOptions.{ReplayOptions}
use Rattle.ppm_cli.specs.declared.replay.ReplaySavedOptions.{ReplaySavedOptions}
use Rattle.ppm_cli.specs.declared.resume.ResumeOptions.{ResumeOptions}
use Rattle.ppm_cli.specs.declared.run.RunOptions.{RunOptions}
use Rattle.ppm_cli.specs.declared.stop.StopOptions.{StopOptions}
use Rattle.ppm_cli.specs.declared.stop.StopSavedOptions.{StopSavedOptions}
use Rattle.ppm_cli.specs.declared.strands.DrawnStrandsOptions.{DrawnStrandsOptions}
use Rattle.ppm_cli.specs.declared.strands.StrandsOptions.{StrandsOptions}
use Rattle.ppm_cli.specs.declared.sweep.SweepOptions.{SweepOptions}
use Rattle.ppm_cli.specs.declared.trace.TraceOptions.{TraceOptions}
use Rattle.ppm_cli.specs.declared.trace.TraceSavedOptions.{TraceSavedOptions}

-- a command that has options and a text, if each has a value of its form
abbrev pub with_text : {O : Type 0} → (O → Text → Command) → OptionRule → Option O → List Row → Option Command
with_text make text options rows = and_then options (λ o. option_map (make o) (text_given text rows))

-- of two commands that of a source, or that of a case
abbrev pub by_input : (of_source of_case : Command) → List Row → Option Command
by_input of_source of_case rows = option_map (λ is_case. if is_case then of_case else of_source) (is_case_given rows)

-- a command over a source or over a case that has options and a text, if each has a value of its form
abbrev pub with_input : {O : Type 0} → (of_source of_case : O → Text → Command) → OptionRule → Option O → List Row → Option Command
with_input of_source of_case text options rows =
    and_then options (λ o. and_then (text_given text rows) (λ t. by_input (of_source o t) (of_case o t) rows))

-- of three commands that of a source, that of a case, or that of a saved text
abbrev pub command_for : (of_source of_case of_saved : Command) → InputKind → Command
command_for of_source of_case of_saved kinds.Source = of_source
command_for of_source of_case of_saved kinds.Case = of_case
command_for of_source of_case of_saved kinds.Saved = of_saved

abbrev pub by_any_input : (of_source of_case of_saved : Command) → List Row → Option Command
by_any_input of_source of_case of_saved rows = option_map (command_for of_source of_case of_saved) (input_given rows)

-- one over any of the three that has options and a text, if each has a value of its form
abbrev pub with_any_input : {O : Type 0} → (of_source of_case of_saved : O → Text → Command) → OptionRule → Option O → List Row → Option Command
with_any_input of_source of_case of_saved text options rows =
    and_then options (λ o. and_then (text_given text rows) (λ t. by_any_input (of_source o t) (of_case o t) (of_saved o t) rows))

-- the options of `run` and of `ram` but for its plan, if each has a value of its form
abbrev pub run_options : List Row → Option RunOptions
run_options rows =
    and_then (number_given processors rows) (λ p.
    and_then (number_given turns rows) (λ n.
    and_then (room_given room p rows) (λ w.
    and_then (number_given slots rows) (λ e.
    and_then (number_given looks rows) (λ l.
    and_then (number_given seed rows) (λ s.
    and_then (takeover_given rows) (λ t.
    and_then (idle_given rows) (λ i.
    Some (record { processors = p; turns = n; room = w; slots = e; looks = l; seed = s; takeover = t; idle = i })))))))))

-- the command `run` with its options and its plan, over a source or over a case; if what is counted is told, it is another command
abbrev pub run_by : (is_counted : Bool) → RunOptions → Text → List Row → Option Command
run_by true options text rows = by_input (commands.CountedRun options text) (commands.CountedRunCase options text) rows
run_by false options text rows = by_input (commands.Run options text) (commands.RunCase options text) rows

abbrev pub run_with : RunOptions → Text → List Row → Option Command
run_with options text rows = and_then (are_counts_given rows) (λ is_counted. run_by is_counted options text rows)

abbrev pub run_in : List Row → Option Command
run_in rows = and_then (run_options rows) (λ o. and_then (text_given faults rows) (λ t. run_with o t rows))

-- the command `ram` with its options and its plan
abbrev pub ram_in : List Row → Option Command
ram_in rows = with_text commands.Ram faults (run_options rows) rows

-- the command `serial` with its options
abbrev pub serial_in : List Row → Option Command
serial_in rows = option_map (λ n. commands.Serial (record { turns = n })) (number_given turns rows)

-- the options of `replay` but for its schedule, if each has a value of its form
abbrev pub replay_options : List Row → Option ReplayOptions
replay_options rows =
    and_then (number_given processors rows) (λ p.
    and_then (number_given turns rows) (λ n.
    and_then (room_given room p rows) (λ w.
    and_then (number_given slots rows) (λ e.
    and_then (takeover_given rows) (λ t.
    Some (record { processors = p; turns = n; room = w; slots = e; takeover = t }))))))

-- `replay` of a saved text, which has the sizes: of the options the most acts alone count
abbrev pub replay_saved : ReplayOptions → Text → Command
replay_saved options t = commands.ReplaySaved (record { turns = options.turns }) t

-- where what is counted is told, too
abbrev pub counted_saved : ReplayOptions → Text → Command
counted_saved options t = commands.CountedReplaySaved (record { turns = options.turns }) t

-- the command `replay` with its options and its schedule, over a source, a case or a saved text; if what is counted is told, it is another command
abbrev pub replay_by : (is_counted : Bool) → ReplayOptions → Text → List Row → Option Command
replay_by true options text rows =
    by_any_input (commands.CountedReplay options text) (commands.CountedReplayCase options text) (counted_saved options text) rows
replay_by false options text rows = by_any_input (commands.Replay options text) (commands.ReplayCase options text) (replay_saved options text) rows

abbrev pub replay_with : ReplayOptions → Text → List Row → Option Command
replay_with options text rows = and_then (are_counts_given rows) (λ is_counted. replay_by is_counted options text rows)

abbrev pub replay_in : List Row → Option Command
replay_in rows = and_then (replay_options rows) (λ o. and_then (text_given schedule rows) (λ t. replay_with o t rows))

-- the options of `stop` but for its schedule, if each has a value of its form
abbrev pub stop_options : List Row → Option StopOptions
stop_options rows =
    and_then (number_given processors rows) (λ p.
    and_then (number_given after rows) (λ n.
    and_then (saved_room_given saved_room p rows) (λ w.
    and_then (number_given few_slots rows) (λ e.
    Some (record { processors = p; after = n; room = w; slots = e })))))

-- `stop` of a saved text, which has the sizes: of the options the acts alone count
abbrev pub stop_saved : StopOptions → Text → Command
stop_saved options t = commands.StopSaved (record { after = options.after }) t

-- the command `stop` with its options and its schedule, over a source, a case or a saved text
abbrev pub stop_in : List Row → Option Command
stop_in rows = with_any_input commands.Stop commands.StopCase stop_saved schedule (stop_options rows) rows

-- the options of `resume` but for its plan, if each has a value of its form
abbrev pub resume_options : List Row → Option ResumeOptions
resume_options rows =
    and_then (number_given turns rows) (λ n.
    and_then (number_given looks rows) (λ l.
    and_then (number_given seed rows) (λ s.
    Some (record { turns = n; looks = l; seed = s }))))

-- the command `resume` with its options and its plan; if what is counted is told, it is another command
abbrev pub resume_with : ResumeOptions → Text → List Row → Option Command
resume_with options text rows =
    option_map (λ is_counted. if is_counted then commands.CountedResume options text else commands.Resume options text) (are_counts_given rows)

abbrev pub resume_in : List Row → Option Command
resume_in rows = and_then (resume_options rows) (λ o. and_then (text_given faults rows) (λ t. resume_with o t rows))

-- the options of `sweep` but for its schedule, if each has a value of its form
abbrev pub sweep_options : List Row → Option SweepOptions
sweep_options rows =
    and_then (number_given processors rows) (λ p.
    and_then (number_given turns rows) (λ n.
    and_then (room_given copied_room p rows) (λ w.
    and_then (number_given copied_slots rows) (λ e.
    and_then (swept_takeovers_given rows) (λ t.
    and_then (number_given met rows) (λ m.
    and_then (number_given from rows) (λ f.
    and_then (number_given acts rows) (λ a.
    and_then (number_given runs rows) (λ r.
    and_then (number_given seed rows) (λ s.
    and_then (number_given capsules rows) (λ c.
    Some (record {
      processors = p;
      turns = n;
      room = w;
      slots = e;
      takeover = t;
      faults = m;
      from = f;
      acts = a;
      runs = r;
      seed = s;
      capsules = c;
    }))))))))))))

-- the command `sweep` with its options and its schedule, over a source or over a case
abbrev pub sweep_in : List Row → Option Command
sweep_in rows = with_input commands.Sweep commands.SweepCase schedule (sweep_options rows) rows

-- the options of `trace` but for its schedule, if each has a value of its form
abbrev pub trace_options : List Row → Option TraceOptions
trace_options rows =
    and_then (number_given processors rows) (λ p.
    and_then (number_given traced_from rows) (λ f.
    and_then (number_given traced_acts rows) (λ a.
    and_then (room_given room p rows) (λ w.
    and_then (number_given slots rows) (λ e.
    and_then (takeover_given rows) (λ t.
    and_then (traced_form_given rows) (λ m.
    and_then (traced_lines_given rows) (λ l.
    Some (record { processors = p; from = f; acts = a; room = w; slots = e; takeover = t; form = m; only = l })))))))))

-- `trace` of a saved text, which has the sizes
abbrev pub trace_saved : TraceOptions → Text → Command
trace_saved o t = commands.TraceSaved (record { from = o.from; acts = o.acts; form = o.form; only = o.only }) t

-- the command `trace` with its options and its schedule, over a source, a case or a saved text
abbrev pub trace_in : List Row → Option Command
trace_in rows = with_any_input commands.Trace commands.TraceCase trace_saved schedule (trace_options rows) rows

-- the options of `self`, if each has a value of its form
abbrev pub self_options : List Row → Option SelfOptions
self_options rows =
    and_then (number_given few_processors rows) (λ p.
    and_then (number_given size rows) (λ n.
    and_then (number_given seed rows) (λ s.
    and_then (number_given count rows) (λ c.
    Some (record { processors = p; size = n; seed = s; count = c })))))

-- the command `self` with its options
abbrev pub self_in : List Row → Option Command
self_in rows = option_map (λ o. commands.Example o) (self_options rows)

-- the command `code`: with its option it writes a case
abbrev pub code_in : List Row → Option Command
code_in rows = option_map (λ yes. if yes then commands.CodeCase else commands.Code) (choice_given arrays (false ∷ true ∷ []) rows)

-- the command `check`: with its option strands of the code may race
abbrev pub check_in : List Row → Option Command
check_in rows = option_map (λ yes. if yes then commands.CheckRacing else commands.Check) (choice_given racy (false ∷ true ∷ []) rows)

-- the limit of a depth-first run, if it has a value of its form
abbrev pub capsule_limit : List Row → Option CapsuleLimit
capsule_limit rows = option_map (λ n. record { capsules = n }) (number_given capsules rows)

-- the command `depth` with its limit
abbrev pub depth_in : List Row → Option Command
depth_in rows = option_map (λ l. commands.Depth l) (capsule_limit rows)

-- the command `races` with its limit
abbrev pub races_in : List Row → Option Command
races_in rows = option_map (λ l. commands.Races l) (capsule_limit rows)

-- the options of `strands` but for its schedule, with how many schedules are drawn, 0 for none, if each has a value of its form
abbrev pub drawn_options : List Row → Option DrawnStrandsOptions
drawn_options rows =
    and_then (number_given turns rows) (λ n.
    and_then (strands_form_given rows) (λ f.
    and_then (number_given runs rows) (λ r.
    and_then (number_given seed rows) (λ s.
    and_then (number_given strands rows) (λ c.
    and_then (number_given steps rows) (λ k.
    Some (record { turns = n; form = f; runs = r; seed = s; strands = c; steps = k })))))))

-- the command `strands` with its options: by its schedule where none are drawn; where some are, no other schedule than the one without items is given
abbrev pub strands_by : DrawnStrandsOptions → Text → Option Command
strands_by o text =
    if o.runs == 0 then Some (commands.Strands (record { turns = o.turns; form = o.form }) text)
    else if bytes_eq text (codes "none") then Some (commands.DrawnStrands o)
    else None

abbrev pub strands_in : List Row → Option Command
strands_in rows = and_then (drawn_options rows) (λ o. and_then (text_given schedule rows) (λ t. strands_by o t))

-- the command `explain`: of a plan or of a schedule for so many processors, if one is stated, else of this text; of both there is none
abbrev pub explain_by : ExplainedText → (processors : ℕ) → (plan schedule : Option Text) → Option Command
explain_by text p None None = Some (commands.Explain text)
explain_by text p (Some plan) None = Some (commands.ExplainOrders (record { orders = orders.Plan; processors = p }) plan)
explain_by text p None (Some schedule) = Some (commands.ExplainOrders (record { orders = orders.Schedule; processors = p }) schedule)
explain_by text p (Some plan) (Some schedule) = None

-- of the trap of a run within so many turns: only a source has one
abbrev pub explain_trap_of : ExplainedText → (turns : ℕ) → Option Command
explain_trap_of texts.Source n = Some (commands.ExplainTrap (record { turns = n }))
explain_trap_of texts.Listing n = None
explain_trap_of texts.Case n = None
explain_trap_of texts.Saved n = None

-- the command, if neither a plan nor a schedule is stated
abbrev pub unless_stated : (plan schedule : Option Text) → Option Command → Option Command
unless_stated None None command = command
unless_stated (Some text) None command = None
unless_stated None (Some text) command = None
unless_stated (Some text) (Some other) command = None

-- the command, by whether the trap of a source is explained
abbrev pub explain_with : ExplainedText → (processors : ℕ) → (plan schedule : Option Text) → List Row → (is_trap : Bool) → Option Command
explain_with text p plan schedule rows true = and_then (number_given turns rows) (λ n. unless_stated plan schedule (explain_trap_of text n))
explain_with text p plan schedule rows false = explain_by text p plan schedule

abbrev pub explain_in : List Row → Option Command
explain_in rows =
    and_then (explained_given rows) (λ text.
    and_then (number_given processors rows) (λ p.
    and_then (stated_given stated_plan rows) (λ plan.
    and_then (stated_given stated_schedule rows) (λ schedule.
    and_then (choice_given trap (false ∷ true ∷ []) rows) (explain_with text p plan schedule rows)))))

-- the command of this name, with the options in its matches
abbrev pub command_named : Text → List Row → Option Command
command_named name rows =
    if bytes_eq name (codes "run") then run_in rows
    else if bytes_eq name (codes "serial") then serial_in rows
    else if bytes_eq name (codes "code") then code_in rows
    else if bytes_eq name (codes "check") then check_in rows
    else if bytes_eq name (codes "depth") then depth_in rows
    else if bytes_eq name (codes "races") then races_in rows
    else if bytes_eq name (codes "strands") then strands_in rows
    else if bytes_eq name (codes "replay") then replay_in rows
    else if bytes_eq name (codes "self") then self_in rows
    else if bytes_eq name (codes "stop") then stop_in rows
    else if bytes_eq name (codes "resume") then resume_in rows
    else if bytes_eq name (codes "sweep") then sweep_in rows
    else if bytes_eq name (codes "ram") then ram_in rows
    else if bytes_eq name (codes "trace") then trace_in rows
    else if bytes_eq name (codes "show") then Some commands.Show
    else if bytes_eq name (codes "explain") then explain_in rows
    else None

-- the command of the subcommand that was met, with its options
abbrev pub command_in : Option (Text × List Row) → Option Command
command_in met = option_and_then (λ m. command_named m.0 m.1) met

-- what words without a fault give; words with faults give no command
abbrev pub without_fault : Kinds → Option Command → Option Command
without_fault [] command = command
without_fault (k ∷ kinds) command = None

-- the command that the words give: help is one of clap's faults
abbrev pub command_of : List Text → Option Command
command_of words = without_fault (fault_of ppm_application words) (command_in (subcommand_of ppm_application words))

-- the number is in the range of the option
abbrev pub IsOfForm : Form → ℕ → Type 0
IsOfForm (Number low high) n = (low ≤ n) × (n ≤ high)
IsOfForm _ n = ⊥

-- so many processors may have pools of so many words
abbrev pub DoPoolsFit : ℕ → ℕ → Type 0
DoPoolsFit processors words = processors * words ≤ most_pool_words

-- so many may have them where all words are written out
abbrev pub DoSavedPoolsFit : ℕ → ℕ → Type 0
DoSavedPoolsFit processors words = processors * words ≤ most_saved_pool_words

-- each option of a run is in its range, and the pools fit
abbrev pub AreRun : RunOptions → Type 0
AreRun options =
    IsOfForm processors.form options.processors × IsOfForm turns.form options.turns × IsOfForm room.form options.room
    × IsOfForm slots.form options.slots × IsOfForm looks.form options.looks × IsOfForm seed.form options.seed
    × DoPoolsFit options.processors options.room

-- each option of a replay is in its range, and the pools fit
abbrev pub AreReplayed : ReplayOptions → Type 0
AreReplayed options =
    IsOfForm processors.form options.processors × IsOfForm turns.form options.turns × IsOfForm room.form options.room
    × IsOfForm slots.form options.slots × DoPoolsFit options.processors options.room

-- of a replay that goes on from a saved text the most acts are in their range
abbrev pub AreSavedReplayed : ReplaySavedOptions → Type 0
AreSavedReplayed options = IsOfForm turns.form options.turns

-- each option of a run of the program's own example is in its range
abbrev pub AreSelf : SelfOptions → Type 0
AreSelf options =
    IsOfForm few_processors.form options.processors × IsOfForm size.form options.size × IsOfForm seed.form options.seed
    × IsOfForm count.form options.count

-- each option of a stop is in its range, and the pools fit
abbrev pub AreStopped : StopOptions → Type 0
AreStopped options =
    IsOfForm processors.form options.processors × IsOfForm after.form options.after × IsOfForm saved_room.form options.room
    × IsOfForm few_slots.form options.slots × DoSavedPoolsFit options.processors options.room

-- of a stop that goes on from a saved text the acts are in their range
abbrev pub AreSavedStopped : StopSavedOptions → Type 0
AreSavedStopped options = IsOfForm after.form options.after

-- each option of a resumption is in its range
abbrev pub AreResumed : ResumeOptions → Type 0
AreResumed options =
    IsOfForm turns.form options.turns × IsOfForm looks.form options.looks × IsOfForm seed.form options.seed

-- each option of a sweep is in its range, and the pools fit
abbrev pub AreSwept : SweepOptions → Type 0
AreSwept options =
    IsOfForm processors.form options.processors × IsOfForm turns.form options.turns × IsOfForm copied_room.form options.room
    × IsOfForm copied_slots.form options.slots × IsOfForm met.form options.faults × IsOfForm from.form options.from
    × IsOfForm acts.form options.acts × IsOfForm runs.form options.runs × IsOfForm seed.form options.seed
    × IsOfForm capsules.form options.capsules × DoPoolsFit options.processors options.room

-- each option of a trace is in its range, and the pools fit
abbrev pub AreTraced : TraceOptions → Type 0
AreTraced options =
    IsOfForm processors.form options.processors × IsOfForm traced_from.form options.from × IsOfForm traced_acts.form options.acts
    × IsOfForm room.form options.room × IsOfForm slots.form options.slots × DoPoolsFit options.processors options.room

-- of a trace that goes on from a saved text the acts are in their ranges
abbrev pub AreSavedTraced : TraceSavedOptions → Type 0
AreSavedTraced options = IsOfForm traced_from.form options.from × IsOfForm traced_acts.form options.acts

-- the turns of a run of strands are in their range
abbrev pub AreOfStrands : StrandsOptions → Type 0
AreOfStrands options = IsOfForm turns.form options.turns

-- and where schedules are drawn, each option is
abbrev pub AreDrawn : DrawnStrandsOptions → Type 0
AreDrawn options =
    IsOfForm turns.form options.turns × IsOfForm runs.form options.runs × IsOfForm seed.form options.seed
    × IsOfForm strands.form options.strands × IsOfForm steps.form options.steps

-- the processors for which a plan or a schedule is explained are in their range
abbrev pub AreExplained : ExplainOptions → Type 0
AreExplained options = IsOfForm processors.form options.processors

-- the limit of a depth-first run is in its range
abbrev pub IsLimit : CapsuleLimit → Type 0
IsLimit limit = IsOfForm capsules.form limit.capsules

-- each option of the command is in its range
abbrev pub IsInRange : Command → Type 0
IsInRange (commands.Run options _) = AreRun options
IsInRange (commands.Serial options) = IsOfForm turns.form options.turns
IsInRange commands.Code = ⊤
IsInRange commands.Check = ⊤
IsInRange commands.CheckRacing = ⊤
IsInRange (commands.Replay options _) = AreReplayed options
IsInRange (commands.Example options) = AreSelf options
IsInRange (commands.Stop options _) = AreStopped options
IsInRange (commands.Resume options _) = AreResumed options
IsInRange (commands.Depth limit) = IsLimit limit
IsInRange (commands.Races limit) = IsLimit limit
IsInRange (commands.Strands options _) = AreOfStrands options
IsInRange (commands.DrawnStrands options) = AreDrawn options
IsInRange commands.CodeCase = ⊤
IsInRange (commands.RunCase options _) = AreRun options
IsInRange (commands.ReplayCase options _) = AreReplayed options
IsInRange (commands.CountedReplay options _) = AreReplayed options
IsInRange (commands.CountedReplayCase options _) = AreReplayed options
IsInRange (commands.CountedReplaySaved options _) = AreSavedReplayed options
IsInRange (commands.CountedRun options _) = AreRun options
IsInRange (commands.CountedRunCase options _) = AreRun options
IsInRange (commands.CountedResume options _) = AreResumed options
IsInRange (commands.StopCase options _) = AreStopped options
IsInRange (commands.Sweep options _) = AreSwept options
IsInRange (commands.SweepCase options _) = AreSwept options
IsInRange (commands.Ram options _) = AreRun options
IsInRange (commands.Trace options _) = AreTraced options
IsInRange (commands.TraceCase options _) = AreTraced options
IsInRange commands.Show = ⊤
IsInRange (commands.StopSaved options _) = AreSavedStopped options
IsInRange (commands.ReplaySaved options _) = AreSavedReplayed options
IsInRange (commands.TraceSaved options _) = AreSavedTraced options
IsInRange (commands.Explain text) = ⊤
IsInRange (commands.ExplainTrap options) = IsOfForm turns.form options.turns
IsInRange (commands.ExplainOrders options _) = AreExplained options
