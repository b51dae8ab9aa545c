use Rattle.std.proofs.Common.{arith, ap, ◌∙◌, sym}
use Rattle.ppm_cells.specs.declared.shape.Shape.{Shape}
use Rattle.ppm_core.specs.Situation.{Situation}
use Rattle.ppm_outcomes.specs.Resumes.{state_of}
use Rattle.ppm_legs.proofs.SavedTraceLemmas.{leg_tells, few_acts}
use Rattle.ppm_legs.proofs.trace_saved.traced.Goals as goal

-- the schedule is for the machine's processors, and the acts are few
pub trace-requires : goal.trace-requires
trace-requires c = record {
  processors = c.requires.processors ∙ sym (ap (λ (s : Shape). s.processors) c.renew-image.ensures.shape_is)
      ∙ sym (ap (λ (m : Situation). m.shape.processors) c.in_ok-machine.ensures);
  acts = few_acts c.args.options c.requires.options;
  few = omega (arith, ap (λ (m : Situation). m.turns) c.in_ok-machine.ensures);
}

-- what is told is the state's answer
pub returns : goal.returns
returns c =
    leg_tells c.args.options c.args.schedule.now.items c.args.saved _ _ _ c.renew-image.ensures c.in_ok-machine.ensures c.requires.stands _ _ _
    c.as_slice.ensures.value c.in_ok-names.ensures c.code.ensures c.form_by-form.ensures _ c.in_ok-text.ensures.text
