-- The options of a command that words give are in their ranges.
use Rattle.std.proofs.Common.{◌≡◌, ◌≤◌, ◌*◌, ◌==◌, ℕ, nat_le, Bool, true, false, List, [], ◌∷◌, Option, Some, None, IfSome, refl, subst}
use Rattle.std.proofs.Common.{if◌then◌else◌, option_and_then, option_map}
use Rattle.std.specs.Prelude.{codes}
use Rattle.std.specs.Str.{bytes_eq}
use Rattle.std.proofs.lemmas.Bool.{leb-true}
use Rattle.clap.specs.Words.{Kinds, Row, Text, one_of, fault_of, subcommand_of}
use Rattle.clap.specs.declared.builder.value_parser.ValueParser.TheVariants as parsers
use Rattle.clap.specs.ValueTests.{is_unsigned_in}
use Rattle.clap.proofs.ValueTestLemmas.{accepts-Accepts}
use Rattle.ppm_cells.specs.Limits.{most_pool_words, most_saved_pool_words}
use Rattle.ppm_cli.specs.Application.{ppm_application}
use Rattle.ppm_cli.specs.CommandLine.{Number, OptionRule, processors, turns, room, slots, looks, seed, faults, schedule}
use Rattle.ppm_cli.specs.CommandLine.{few_processors, after, saved_room, few_slots, size, count, capsules, arrays, racy}
use Rattle.ppm_cli.specs.CommandLine.{copied_room, copied_slots, met, from, acts, runs}
use Rattle.ppm_cli.specs.CommandLine.{traced_from, traced_acts, stated_plan, stated_schedule, steps, strands, trap}
use Rattle.ppm_cli.specs.Words.{run_options, serial_in, replay_options, resume_options, self_in, self_options, stop_options}
use Rattle.ppm_cli.specs.Values.{number_in, number_given, value_of_digits, text_given}
use Rattle.ppm_cli.specs.Words.{command_named, command_in, without_fault, command_of}
use Rattle.ppm_cli.specs.Values.{takeover_given, idle_given}
use Rattle.ppm_cli.specs.Words.{with_text, AreReplayed, AreResumed, AreRun, AreSelf, AreStopped, DoPoolsFit, DoSavedPoolsFit, IsInRange, IsLimit, IsOfForm}
use Rattle.ppm_cli.specs.Values.{fitting_room, fitting_saved_room, room_given, saved_room_given}
use Rattle.ppm_cli.specs.Words.{sweep_options, AreSwept, trace_options, AreTraced}
use Rattle.ppm_cli.specs.Words.{strands_by, strands_in, drawn_options, AreDrawn}
use Rattle.ppm_cli.specs.Values.{strands_form_given, swept_takeovers_given, traced_form_given, traced_lines_given}
use Rattle.ppm_cli.specs.Words.{by_input, explain_by, explain_in, explain_trap_of, explain_with, unless_stated, replay_by, replay_with, run_by, run_with, resume_with, check_in, code_in, capsule_limit, with_input}
use Rattle.ppm_cli.specs.Words.{by_any_input, command_for, counted_saved, replay_saved, stop_saved, trace_saved, with_any_input}
use Rattle.ppm_cli.specs.Values.{are_counts_given, choice_given, explained_given, input_given, is_case_given, stated_given}
use Rattle.ppm_cli.specs.declared.capsules.CapsuleLimit.{CapsuleLimit}
use Rattle.ppm_cli.specs.declared.command.Command.{Command}
use Rattle.ppm_cli.specs.declared.command.Command.TheVariants as commands
use Rattle.ppm_cli.specs.declared.example.SelfOptions.{SelfOptions}
use Rattle.ppm_cli.specs.declared.explain.ExplainedText.{ExplainedText}
use Rattle.ppm_cli.specs.declared.explain.ExplainedText.TheVariants as texts
use Rattle.ppm_cli.specs.declared.input.InputKind.{InputKind}
use Rattle.ppm_cli.specs.declared.input.InputKind.TheVariants as kinds
use Rattle.ppm_cli.specs.declared.replay.ReplayOptions.{ReplayOptions}
use Rattle.ppm_cli.specs.declared.resume.ResumeOptions.{ResumeOptions}
use Rattle.ppm_cli.specs.declared.run.RunOptions.{RunOptions}
use Rattle.ppm_cli.specs.declared.strands.DrawnStrandsOptions.{DrawnStrandsOptions}

-- a value with what came of it
record Came {A B : Type 0} (o : Option A) (f : A → Option B) (b : B) : Type 0 where
  value : A
  there : o ≡ Some value
  came : f value ≡ Some b

came : {A B : Type 0} (o : Option A) (f : A → Option B) (b : B) → option_and_then f o ≡ Some b → Came o f b
came None f b e = cc
came (Some a) f b e = record { value = a; there = refl; came = e }

some_is : {A : Type 0} {a b : A} → Some a ≡ Some b → a ≡ b
some_is e = cc

in_range : (low high n : ℕ) (text : Text) → number_in (Number low high) text ≡ Some n → (low ≤ n) × (n ≤ high)
in_range low high n text e = go (is_unsigned_in low high text) refl e where
  go : (b : Bool) → is_unsigned_in low high text ≡ b → (if b then Some (value_of_digits text) else None) ≡ Some n → (low ≤ n) × (n ≤ high)
  go true h e =
      let range = accepts-Accepts false (parsers.Unsigned low high) text h in
      subst (λ v. (low ≤ v) × (v ≤ high)) (some_is e) (range.2, range.3)
  go false h e = cc

given : (o : OptionRule) (low high n : ℕ) (rows : List Row) → o.form ≡ Number low high → number_given o rows ≡ Some n
    → (low ≤ n) × (n ≤ high)
given o low high n rows f e =
    let c = came (one_of o.name rows) (number_in o.form) n e in
    in_range low high n c.value (subst (λ form. number_in form c.value ≡ Some n) f c.came)

-- the room of places whose pools fit
fits : (p words n : ℕ) → fitting_room p words ≡ Some n → (words ≡ n) × DoPoolsFit p words
fits p words n e = go (nat_le (p * words) most_pool_words) refl e where
  go : (b : Bool) → nat_le (p * words) most_pool_words ≡ b → (if b then Some words else None) ≡ Some n → (words ≡ n) × DoPoolsFit p words
  go true h e = (some_is e, leb-true _ _ h)
  go false h e = cc

room_fits : (o : OptionRule) (low high p n : ℕ) (rows : List Row) → o.form ≡ Number low high → room_given o p rows ≡ Some n
    → ((low ≤ n) × (n ≤ high)) × DoPoolsFit p n
room_fits o low high p n rows is e =
    let c = came (number_given o rows) (fitting_room p) n e in
    let f = fits p c.value n c.came in
    subst (λ words. ((low ≤ words) × (words ≤ high)) × DoPoolsFit p words) f.0 (given o low high c.value rows is c.there, f.1)

-- and where all words are written out
saved_fits : (p words n : ℕ) → fitting_saved_room p words ≡ Some n → (words ≡ n) × DoSavedPoolsFit p words
saved_fits p words n e = go (nat_le (p * words) most_saved_pool_words) refl e where
  go : (b : Bool) → nat_le (p * words) most_saved_pool_words ≡ b → (if b then Some words else None) ≡ Some n → (words ≡ n) × DoSavedPoolsFit p words
  go true h e = (some_is e, leb-true _ _ h)
  go false h e = cc

saved_room_fits : (o : OptionRule) (low high p n : ℕ) (rows : List Row) → o.form ≡ Number low high → saved_room_given o p rows ≡ Some n
    → ((low ≤ n) × (n ≤ high)) × DoSavedPoolsFit p n
saved_room_fits o low high p n rows is e =
    let c = came (number_given o rows) (fitting_saved_room p) n e in
    let f = saved_fits p c.value n c.came in
    subst (λ words. ((low ≤ words) × (words ≤ high)) × DoSavedPoolsFit p words) f.0 (given o low high c.value rows is c.there, f.1)

-- ---- what each value has that may come of options

-- what comes of a value has it, if it has it whatever the value is
bound : {A B : Type 0} (P : B → Type 0) (o : Option A) (f : A → Option B) → ((a : A) → o ≡ Some a → IfSome (f a) P)
    → IfSome (option_and_then f o) P
bound P None f h = tt
bound P (Some a) f h = h a refl

-- of two options, whichever is taken
either : {A : Type 0} (P : A → Type 0) (b : Bool) (x y : Option A) → IfSome x P → IfSome y P → IfSome (if b then x else y) P
either P true x y h k = h
either P false x y h k = k

-- a command with options and a text is in range where the options are
with_text_are : {O : Type 0} (P : O → Type 0) (make : O → Text → Command) (text : OptionRule) (options : Option O) (rows : List Row) →
    ((o : O) (t : Text) → P o → IsInRange (make o t)) → IfSome options P → IfSome (with_text make text options rows) IsInRange
with_text_are P make text None rows in_range h = tt
with_text_are P make text (Some o) rows in_range h = go (text_given text rows) where
  go : (t : Option Text) → IfSome (option_map (make o) t) IsInRange
  go None = tt
  go (Some t) = in_range o t h

-- a command over a source or over a case is in range where both are
by_input_are : (a b : Command) (rows : List Row) → IsInRange a → IsInRange b → IfSome (by_input a b rows) IsInRange
by_input_are a b rows h k = go (is_case_given rows) where
  go : (is : Option Bool) → IfSome (option_map (λ is_case. if is_case then b else a) is) IsInRange
  go None = tt
  go (Some true) = k
  go (Some false) = h

-- one with options and a text is where the options are
with_input_are : {O : Type 0} (P : O → Type 0) (of_source of_case : O → Text → Command) (text : OptionRule) (options : Option O) (rows : List Row)
    → ((o : O) (t : Text) → P o → IsInRange (of_source o t)) → ((o : O) (t : Text) → P o → IsInRange (of_case o t)) → IfSome options P
    → IfSome (with_input of_source of_case text options rows) IsInRange
with_input_are P of_source of_case text None rows source_in case_in h = tt
with_input_are P of_source of_case text (Some o) rows source_in case_in h =
    bound IsInRange (text_given text rows) (λ t. by_input (of_source o t) (of_case o t) rows)
    (λ t e. by_input_are (of_source o t) (of_case o t) rows (source_in o t h) (case_in o t h))

-- and so is one over a source, a case or a saved text
by_any_input_are : (a b c : Command) (rows : List Row) → IsInRange a → IsInRange b → IsInRange c → IfSome (by_any_input a b c rows) IsInRange
by_any_input_are a b c rows h k l = go (input_given rows) where
  go : (kind : Option InputKind) → IfSome (option_map (command_for a b c) kind) IsInRange
  go None = tt
  go (Some kinds.Source) = h
  go (Some kinds.Case) = k
  go (Some kinds.Saved) = l

with_any_input_are : {O : Type 0} (P : O → Type 0) (of_source of_case of_saved : O → Text → Command) (text : OptionRule) (options : Option O)
    (rows : List Row) → ((o : O) (t : Text) → P o → IsInRange (of_source o t)) → ((o : O) (t : Text) → P o → IsInRange (of_case o t))
    → ((o : O) (t : Text) → P o → IsInRange (of_saved o t)) → IfSome options P
    → IfSome (with_any_input of_source of_case of_saved text options rows) IsInRange
with_any_input_are P of_source of_case of_saved text None rows source_in case_in saved_in h = tt
with_any_input_are P of_source of_case of_saved text (Some o) rows source_in case_in saved_in h =
    bound IsInRange (text_given text rows) (λ t. by_any_input (of_source o t) (of_case o t) (of_saved o t) rows)
    (λ t e. by_any_input_are (of_source o t) (of_case o t) (of_saved o t) rows (source_in o t h) (case_in o t h) (saved_in o t h))

-- ---- the options of each command

run_are : (rows : List Row) → IfSome (run_options rows) AreRun
run_are rows =
    bound AreRun (number_given processors rows) _ (λ p a.
    bound AreRun (number_given turns rows) _ (λ n b.
    bound AreRun (room_given room p rows) _ (λ w c.
    bound AreRun (number_given slots rows) _ (λ s d.
    bound AreRun (number_given looks rows) _ (λ l e.
    bound AreRun (number_given seed rows) _ (λ x f.
    bound AreRun (takeover_given rows) _ (λ t g.
    bound AreRun (idle_given rows) _ (λ i h.
    let r = room_fits room _ _ p w rows refl c in (
      given processors _ _ p rows refl a,
      given turns _ _ n rows refl b,
      r.0,
      given slots _ _ s rows refl d,
      given looks _ _ l rows refl e,
      given seed _ _ x rows refl f,
      r.1,
    )))))))))

replay_are : (rows : List Row) → IfSome (replay_options rows) AreReplayed
replay_are rows =
    bound AreReplayed (number_given processors rows) _ (λ p a.
    bound AreReplayed (number_given turns rows) _ (λ n b.
    bound AreReplayed (room_given room p rows) _ (λ w c.
    bound AreReplayed (number_given slots rows) _ (λ s d.
    bound AreReplayed (takeover_given rows) _ (λ t e.
    let r = room_fits room _ _ p w rows refl c in
    (given processors _ _ p rows refl a, given turns _ _ n rows refl b, r.0, given slots _ _ s rows refl d, r.1))))))

-- a replay is in range where its options are, whether its counts are told or not
replays_by : (is_counted : Bool) (o : ReplayOptions) (t : Text) (rows : List Row) → AreReplayed o → IfSome (replay_by is_counted o t rows) IsInRange
replays_by true o t rows h = by_any_input_are (commands.CountedReplay o t) (commands.CountedReplayCase o t) (counted_saved o t) rows h h h.1
replays_by false o t rows h = by_any_input_are (commands.Replay o t) (commands.ReplayCase o t) (replay_saved o t) rows h h h.1

replays_are : (options : Option ReplayOptions) (rows : List Row) → IfSome options AreReplayed
    → IfSome (option_and_then (λ o. option_and_then (λ t. replay_with o t rows) (text_given schedule rows)) options) IsInRange
replays_are None rows h = tt
replays_are (Some o) rows h =
    bound IsInRange (text_given schedule rows) (λ t. replay_with o t rows)
    (λ t e. bound IsInRange (are_counts_given rows) (λ is_counted. replay_by is_counted o t rows) (λ is_counted d. replays_by is_counted o t rows h))

-- a run is in range where its options are, whether its counts are told or not
runs_by : (is_counted : Bool) (o : RunOptions) (t : Text) (rows : List Row) → AreRun o → IfSome (run_by is_counted o t rows) IsInRange
runs_by true o t rows h = by_input_are (commands.CountedRun o t) (commands.CountedRunCase o t) rows h h
runs_by false o t rows h = by_input_are (commands.Run o t) (commands.RunCase o t) rows h h

runs_are : (options : Option RunOptions) (rows : List Row) → IfSome options AreRun
    → IfSome (option_and_then (λ o. option_and_then (λ t. run_with o t rows) (text_given faults rows)) options) IsInRange
runs_are None rows h = tt
runs_are (Some o) rows h =
    bound IsInRange (text_given faults rows) (λ t. run_with o t rows)
    (λ t e. bound IsInRange (are_counts_given rows) (λ is_counted. run_by is_counted o t rows) (λ is_counted d. runs_by is_counted o t rows h))

-- a resumed run is in range where its options are
resumes_by : (is_counted : Option Bool) (o : ResumeOptions) (t : Text) → AreResumed o
    → IfSome (option_map (λ it. if it then commands.CountedResume o t else commands.Resume o t) is_counted) IsInRange
resumes_by None o t h = tt
resumes_by (Some true) o t h = h
resumes_by (Some false) o t h = h

resumes_are : (options : Option ResumeOptions) (rows : List Row) → IfSome options AreResumed
    → IfSome (option_and_then (λ o. option_and_then (λ t. resume_with o t rows) (text_given faults rows)) options) IsInRange
resumes_are None rows h = tt
resumes_are (Some o) rows h =
    bound IsInRange (text_given faults rows) (λ t. resume_with o t rows) (λ t e. resumes_by (are_counts_given rows) o t h)

serial_are : (rows : List Row) → IfSome (serial_in rows) IsInRange
serial_are rows = go (number_given turns rows) (λ n e. given turns _ _ n rows refl e) where
  go : (n : Option ℕ) → ((m : ℕ) → n ≡ Some m → IsOfForm turns.form m) → IfSome (option_map (λ n. commands.Serial (record { turns = n })) n) IsInRange
  go None h = tt
  go (Some n) h = h n refl

stop_are : (rows : List Row) → IfSome (stop_options rows) AreStopped
stop_are rows =
    bound AreStopped (number_given processors rows) _ (λ p a.
    bound AreStopped (number_given after rows) _ (λ n b.
    bound AreStopped (saved_room_given saved_room p rows) _ (λ w c.
    bound AreStopped (number_given few_slots rows) _ (λ s d.
    let r = saved_room_fits saved_room _ _ p w rows refl c in
    (given processors _ _ p rows refl a, given after _ _ n rows refl b, r.0, given few_slots _ _ s rows refl d, r.1)))))

resume_are : (rows : List Row) → IfSome (resume_options rows) AreResumed
resume_are rows =
    bound AreResumed (number_given turns rows) _ (λ n a.
    bound AreResumed (number_given looks rows) _ (λ l b.
    bound AreResumed (number_given seed rows) _ (λ s c.
    (given turns _ _ n rows refl a, given looks _ _ l rows refl b, given seed _ _ s rows refl c))))

sweep_are : (rows : List Row) → IfSome (sweep_options rows) AreSwept
sweep_are rows =
    bound AreSwept (number_given processors rows) _ (λ p a.
    bound AreSwept (number_given turns rows) _ (λ n b.
    bound AreSwept (room_given copied_room p rows) _ (λ w c.
    bound AreSwept (number_given copied_slots rows) _ (λ e d.
    bound AreSwept (swept_takeovers_given rows) _ (λ t g.
    bound AreSwept (number_given met rows) _ (λ m h.
    bound AreSwept (number_given from rows) _ (λ f i.
    bound AreSwept (number_given acts rows) _ (λ x j.
    bound AreSwept (number_given runs rows) _ (λ r k.
    bound AreSwept (number_given seed rows) _ (λ s l.
    bound AreSwept (number_given capsules rows) _ (λ y o.
    let z = room_fits copied_room _ _ p w rows refl c in (
      given processors _ _ p rows refl a,
      given turns _ _ n rows refl b,
      z.0,
      given copied_slots _ _ e rows refl d,
      given met _ _ m rows refl h,
      given from _ _ f rows refl i,
      given acts _ _ x rows refl j,
      given runs _ _ r rows refl k,
      given seed _ _ s rows refl l,
      given capsules _ _ y rows refl o,
      z.1,
    ))))))))))))

trace_are : (rows : List Row) → IfSome (trace_options rows) AreTraced
trace_are rows =
    bound AreTraced (number_given processors rows) _ (λ p a.
    bound AreTraced (number_given traced_from rows) _ (λ f b.
    bound AreTraced (number_given traced_acts rows) _ (λ n c.
    bound AreTraced (room_given room p rows) _ (λ w d.
    bound AreTraced (number_given slots rows) _ (λ s e.
    bound AreTraced (takeover_given rows) _ (λ t g.
    bound AreTraced (traced_form_given rows) _ (λ m i.
    bound AreTraced (traced_lines_given rows) _ (λ l h.
    let r = room_fits room _ _ p w rows refl d in (
      given processors _ _ p rows refl a,
      given traced_from _ _ f rows refl b,
      given traced_acts _ _ n rows refl c,
      r.0,
      given slots _ _ s rows refl e,
      r.1,
    )))))))))

self_are : (rows : List Row) → IfSome (self_options rows) AreSelf
self_are rows =
    bound AreSelf (number_given few_processors rows) _ (λ p a.
    bound AreSelf (number_given size rows) _ (λ n b.
    bound AreSelf (number_given seed rows) _ (λ s c.
    bound AreSelf (number_given count rows) _ (λ f d.
    (given few_processors _ _ p rows refl a, given size _ _ n rows refl b, given seed _ _ s rows refl c, given count _ _ f rows refl d)))))

example_are : (rows : List Row) → IfSome (self_in rows) IsInRange
example_are rows = go (self_options rows) (self_are rows) where
  go : (o : Option SelfOptions) → IfSome o AreSelf → IfSome (option_map (λ o. commands.Example o) o) IsInRange
  go None h = tt
  go (Some o) h = h

-- a case has no number
code_are : (rows : List Row) → IfSome (code_in rows) IsInRange
code_are rows = go (choice_given arrays (false ∷ true ∷ []) rows) where
  go : (yes : Option Bool) → IfSome (option_map (λ yes. if yes then commands.CodeCase else commands.Code) yes) IsInRange
  go None = tt
  go (Some true) = tt
  go (Some false) = tt

-- nor has a check
check_are : (rows : List Row) → IfSome (check_in rows) IsInRange
check_are rows = go (choice_given racy (false ∷ true ∷ []) rows) where
  go : (yes : Option Bool) → IfSome (option_map (λ yes. if yes then commands.CheckRacing else commands.Check) yes) IsInRange
  go None = tt
  go (Some true) = tt
  go (Some false) = tt

-- a plan or a schedule that is explained is for processors in their range
explained_are : (text : ExplainedText) (p : ℕ) (plan schedule : Option Text) → IsOfForm processors.form p
    → IfSome (explain_by text p plan schedule) IsInRange
explained_are text p None None h = tt
explained_are text p (Some plan) None h = h
explained_are text p None (Some schedule) h = h
explained_are text p (Some plan) (Some schedule) h = tt

-- the turns within which a trap is explained are in their range
trap_of_are : (text : ExplainedText) (n : ℕ) → IsOfForm turns.form n → IfSome (explain_trap_of text n) IsInRange
trap_of_are texts.Source n h = h
trap_of_are texts.Listing n h = tt
trap_of_are texts.Case n h = tt
trap_of_are texts.Saved n h = tt

unless_stated_are : (plan schedule : Option Text) (command : Option Command) → IfSome command IsInRange → IfSome (unless_stated plan schedule command) IsInRange
unless_stated_are None None command h = h
unless_stated_are (Some plan) None command h = tt
unless_stated_are None (Some schedule) command h = tt
unless_stated_are (Some plan) (Some schedule) command h = tt

explain_with_are : (text : ExplainedText) (p : ℕ) (plan schedule : Option Text) (rows : List Row) (is_trap : Bool) → IsOfForm processors.form p
    → IfSome (explain_with text p plan schedule rows is_trap) IsInRange
explain_with_are text p plan schedule rows true h =
    bound IsInRange (number_given turns rows) _ (λ n e. unless_stated_are plan schedule _ (trap_of_are text n (given turns _ _ n rows refl e)))
explain_with_are text p plan schedule rows false h = explained_are text p plan schedule h

explain_are : (rows : List Row) → IfSome (explain_in rows) IsInRange
explain_are rows =
    bound IsInRange (explained_given rows) _ (λ text a.
    bound IsInRange (number_given processors rows) _ (λ p b.
    bound IsInRange (stated_given stated_plan rows) _ (λ plan c.
    bound IsInRange (stated_given stated_schedule rows) _ (λ schedule d.
    bound IsInRange (choice_given trap (false ∷ true ∷ []) rows) _ (λ is_trap e.
    explain_with_are text p plan schedule rows is_trap (given processors _ _ p rows refl b))))))

limit_are : (rows : List Row) → IfSome (capsule_limit rows) IsLimit
limit_are rows = go (number_given capsules rows) (λ n e. given capsules _ _ n rows refl e) where
  go : (n : Option ℕ) → ((m : ℕ) → n ≡ Some m → IsOfForm capsules.form m) → IfSome (option_map (λ n. record { capsules = n }) n) IsLimit
  go None h = tt
  go (Some n) h = h n refl

-- a command with a limit alone is in range where the limit is
limited_are : (make : CapsuleLimit → Command) → ((l : CapsuleLimit) → IsLimit l → IsInRange (make l)) → (limit : Option CapsuleLimit)
    → IfSome limit IsLimit → IfSome (option_map make limit) IsInRange
limited_are make in_range None h = tt
limited_are make in_range (Some l) h = in_range l h

drawn_are : (rows : List Row) → IfSome (drawn_options rows) AreDrawn
drawn_are rows =
    bound AreDrawn (number_given turns rows) _ (λ n a.
    bound AreDrawn (strands_form_given rows) _ (λ f b.
    bound AreDrawn (number_given runs rows) _ (λ r c.
    bound AreDrawn (number_given seed rows) _ (λ s d.
    bound AreDrawn (number_given strands rows) _ (λ k e.
    bound AreDrawn (number_given steps rows) _ (λ m g. (
      given turns _ _ n rows refl a,
      given runs _ _ r rows refl c,
      given seed _ _ s rows refl d,
      given strands _ _ k rows refl e,
      given steps _ _ m rows refl g,
    )))))))

-- strands run by a schedule, or by schedules that are drawn, or not at all
strands_by_are : (o : DrawnStrandsOptions) (t : Text) → AreDrawn o → IfSome (strands_by o t) IsInRange
strands_by_are o t h = either IsInRange (o.runs == 0) _ _ h.0 (either IsInRange (bytes_eq t (codes "none")) _ _ h tt)

strands_are : (options : Option DrawnStrandsOptions) (rows : List Row) → IfSome options AreDrawn
    → IfSome (option_and_then (λ o. option_and_then (λ t. strands_by o t) (text_given schedule rows)) options) IsInRange
strands_are None rows h = tt
strands_are (Some o) rows h = bound IsInRange (text_given schedule rows) (λ t. strands_by o t) (λ t e. strands_by_are o t h)

-- ---- any command

named_are : (name : Text) (rows : List Row) → IfSome (command_named name rows) IsInRange
named_are name rows =
    either IsInRange (bytes_eq name (codes "run")) _ _
    (runs_are (run_options rows) rows (run_are rows))
    (either IsInRange (bytes_eq name (codes "serial")) _ _ (serial_are rows)
    (either IsInRange (bytes_eq name (codes "code")) _ _ (code_are rows)
    (either IsInRange (bytes_eq name (codes "check")) _ _ (check_are rows)
    (either IsInRange (bytes_eq name (codes "depth")) _ _
    (limited_are (λ l. commands.Depth l) (λ l h. h) (capsule_limit rows) (limit_are rows))
    (either IsInRange (bytes_eq name (codes "races")) _ _
    (limited_are (λ l. commands.Races l) (λ l h. h) (capsule_limit rows) (limit_are rows))
    (either IsInRange (bytes_eq name (codes "strands")) _ _ (strands_are (drawn_options rows) rows (drawn_are rows))
    (either IsInRange (bytes_eq name (codes "replay")) _ _
    (replays_are (replay_options rows) rows (replay_are rows))
    (either IsInRange (bytes_eq name (codes "self")) _ _ (example_are rows)
    (either IsInRange (bytes_eq name (codes "stop")) _ _
    (with_any_input_are AreStopped commands.Stop commands.StopCase stop_saved schedule (stop_options rows) rows (λ o t h. h) (λ o t h. h)
    (λ o t h. h.1) (stop_are rows))
    (either IsInRange (bytes_eq name (codes "resume")) _ _
    (resumes_are (resume_options rows) rows (resume_are rows))
    (either IsInRange (bytes_eq name (codes "sweep")) _ _
    (with_input_are AreSwept commands.Sweep commands.SweepCase schedule (sweep_options rows) rows (λ o t h. h) (λ o t h. h) (sweep_are rows))
    (either IsInRange (bytes_eq name (codes "ram")) _ _
    (with_text_are AreRun commands.Ram faults (run_options rows) rows (λ o t h. h) (run_are rows))
    (either IsInRange (bytes_eq name (codes "trace")) _ _
    (with_any_input_are AreTraced commands.Trace commands.TraceCase trace_saved schedule (trace_options rows) rows (λ o t h. h) (λ o t h. h)
    (λ o t h. (h.1, h.2)) (trace_are rows))
    (either IsInRange (bytes_eq name (codes "show")) _ _ tt
    (either IsInRange (bytes_eq name (codes "explain")) _ _ (explain_are rows)
    tt)))))))))))))))

-- the options of a command that words give
pub is_in_range : (words : List Text) (command : Command) → command_of words ≡ Some command → IsInRange command
is_in_range words command e =
    subst (λ c. IfSome c IsInRange) e (go (fault_of ppm_application words) (subcommand_of ppm_application words)) where
      go : (kinds : Kinds) (named : Option (Text × List Row)) → IfSome (without_fault kinds (command_in named)) IsInRange
      go [] named = bound IsInRange named _ (λ m f. named_are m.0 m.1)
      go (k ∷ kinds) named = tt
