-- Of a sound code each replay that comes to an end comes to that of its depth-first run: so one that differs came to no end.
use Rattle.std.proofs.Common.{◌≡◌, ℕ, List, inl, inr, refl, sym, ap, ◌∙◌, subst}
use Rattle.ppm_strands.specs.Run.{End}
use Rattle.ppm_strands.proofs.RunLemmas.{one_end}
use Rattle.ppm_words.specs.declared.named_array.NamedArray.{NamedArray}
use Rattle.ppm_words.specs.declared.outcome.Outcome.{Outcome}
use Rattle.ppm_words.specs.declared.outcome.Outcome.TheVariants as outcome
use Rattle.ppm_words.specs.declared.trap.Trap.{Trap}
use Rattle.ppm_cells.specs.declared.shape.Takeover.{Takeover}
use Rattle.ppm_cells.specs.declared.shape.Takeover.TheVariants.{ByPlaces, ByEntries}
use Rattle.ppm_code.specs.Inputs.{words_in}
use Rattle.ppm_code.specs.Strands.{Result}
use Rattle.ppm_code.specs.declared.code.CodeParts.{CodeParts}
use Rattle.ppm_depth.specs.Run.{strands_of, said_of, IsWithin}
use Rattle.ppm_depth.specs.Start.{words_of, root_strand}
use Rattle.ppm_depth.specs.declared.depth.DepthRun.{DepthRun}
use Rattle.ppm_core.specs.Situation.{Situation}
use Rattle.ppm_step.specs.declared.turn.Turn.{Turn}
use Rattle.ppm_plan.specs.declared.schedule_item.ScheduleItem.{ScheduleItem}
use Rattle.ppm_answers.specs.declared.answer.Answer.{Answer}
use Rattle.ppm_answers.specs.declared.answer.Answer.TheVariants as answers
use Rattle.ppm_answers.specs.declared.sweep.Came.{Came}
use Rattle.ppm_answers.specs.declared.sweep.Came.TheVariants as came
use Rattle.ppm_answers.specs.declared.sweep.Difference.{Difference}
use Rattle.ppm_cli.specs.Words.{AreReplayed, AreSwept}
use Rattle.ppm_cli.specs.declared.sweep.SweepOptions.{SweepOptions}
use Rattle.ppm_cli.specs.declared.takeover.SweptTakeovers.{SweptTakeovers}
use Rattle.ppm_cli.specs.declared.takeover.SweptTakeovers.TheVariants as asked
use Rattle.ppm_outcomes.specs.AsCode.{MayRun, CodeEnds}
use Rattle.ppm_outcomes.specs.CodeReplays.{ReplaysAreAsCode, SaysAsReplay}
use Rattle.ppm_sweep_command.specs.SweepRows.{IsCutShort, SweepsAreAsCode}
use Rattle.ppm_sweep_command.specs.Sweeps.{FirstDiffers, FirstOf, IsOutcome, Tells, replay_options}

-- the options of a sweep say those of its replays
pub swept_replayed : (options : SweepOptions) (t : Takeover) → AreSwept options → AreReplayed (replay_options options t)
swept_replayed options t are = (are.0, are.1, are.2, are.3, are.10)

module _ (options : SweepOptions) (code : CodeParts) (input : List NamedArray) where
  -- an outcome to which the code comes is that of its depth-first run
  is_outcome : (r : DepthRun) → IsWithin code input options.capsules r → (o : Outcome) → CodeEnds code input o → o ≡ r.outcome
  is_outcome r w o e =
      sym e.2
      ∙ ap (λ (x : End Result). said_of input x.words x.outcome)
      (one_end (strands_of code input) (root_strand code input) (words_of (words_in input)) e.0 w.end e.1 w.comes)
      ∙ sym w.outcome

  module _ (t : Takeover) (start : Situation) (turns : List Turn) (r : DepthRun) (w : IsWithin code input options.capsules r) where
    abbrev Says : Answer → Type 0
    Says a = SaysAsReplay (replay_options options t) code input start turns a

    abbrev IsCut : Came → Type 0
    IsCut c = IsCutShort options code input c

    abbrev Differs : Answer → Type 0
    Differs a = ¬ IsOutcome r.outcome a

    ended : (arrays : List NamedArray) (a : Answer) → Tells (came.Ended arrays) a → Says a → Differs a → ⊥
    ended arrays (answers.EndedWith values tally) tells says differs =
        differs (subst (λ (o : Outcome). IsOutcome o (answers.EndedWith values tally))
        (is_outcome r w (outcome.Ended values) says.ends.depth_first) refl)
    ended arrays a tells says differs = absurd tells

    trapped : (trap : Trap) (line : ℕ) (a : Answer) → Tells (came.Trapped trap line) a → Says a → Differs a → ⊥
    trapped trap line (answers.TrappedWith met at tally) tells says differs =
        differs (subst (λ (o : Outcome). IsOutcome o (answers.TrappedWith met at tally))
        (is_outcome r w (outcome.Trapped met at) says.ends.depth_first) (refl, refl))
    trapped trap line a tells says differs = absurd tells

    unfinished : (acts : ℕ) (a : Answer) → Tells (came.Unfinished acts) a → Says a → acts ≡ options.turns
    unfinished acts (answers.Unfinished made) tells says = tells ∙ says
    unfinished acts a tells says = absurd tells

    full : (place : ℕ) (a : Answer) → Tells (came.OutOfRoom place) a → Says a → IsCut (came.OutOfRoom place)
    full place (answers.OutOfRoom other) tells says = says
    full place a tells says = absurd tells

    broken : (place : ℕ) (a : Answer) → Tells (came.Broken place) a → Says a → ⊥
    broken place (answers.Broken other) tells says = says
    broken place a tells says = absurd tells

    cut : (c : Came) (a : Answer) → Tells c a → Says a → Differs a → IsCut c
    cut (came.Ended arrays) a tells says differs = absurd (ended arrays a tells says differs)
    cut (came.Trapped trap line) a tells says differs = absurd (trapped trap line a tells says differs)
    cut (came.Unfinished acts) a tells says differs = unfinished acts a tells says
    cut (came.OutOfRoom place) a tells says differs = full place a tells says
    cut (came.Broken place) a tells says differs = absurd (broken place a tells says)

module _ (law : ReplaysAreAsCode) (options : SweepOptions) (are : AreSwept options) (items : List ScheduleItem) (code : CodeParts)
    (input : List NamedArray) (may : MayRun code input) (r : DepthRun) (w : IsWithin code input options.capsules r) (d : Difference) where
  of_one : (t : Takeover) → FirstDiffers options items code input r.outcome t d → IsCutShort options code input d.came
  of_one t f =
      let so = law (replay_options options t) (swept_replayed options t are) d.schedule f.first.items f.reads code input may f.answer f.replays in
      cut options code input t f.replays.start _ r w d.came f.answer f.tells so.1 f.differs

  of_all : (ts : SweptTakeovers) → FirstOf options items code input r.outcome ts d → IsCutShort options code input d.came
  of_all asked.ByPlaces f = of_one ByPlaces f
  of_all asked.ByEntries f = of_one ByEntries f
  of_all asked.Both (inl f) = of_one ByPlaces f
  of_all asked.Both (inr (k, all, f)) = of_one ByEntries f

-- this holds with all options, schedules and sound codes
pub sweeps_are_as_code : ReplaysAreAsCode → SweepsAreAsCode
sweeps_are_as_code law options are schedule items accepted code input may d h =
    of_all law options are items code input may h.run h.within d options.takeover h.holds
