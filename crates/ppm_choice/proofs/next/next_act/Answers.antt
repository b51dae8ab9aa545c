use Rattle.std.proofs.Common.{sym, ap, ◌∙◌}
use Rattle.ppm_step.specs.declared.turn.Act.TheVariants.{Step}
use Rattle.ppm_choice.proofs.DrawnLemmas.{drawn_is_next, has_drawn, draws_none}
use Rattle.ppm_choice.proofs.next.next_act.Goals as goal

-- the next victim is drawn
pub returns-in-Draw : goal.returns-in-Draw
returns-in-Draw c past stood p has =
    let h = c.in-Draw.ensures.choice past stood p in
    let own = c.args.pace.now.processor in (
      h.0,
      ap (λ v. Step v)
          (drawn_is_next c.args.plan.now c.args.limits own past c.args.victims.now c.next-victim.new.self c.next-victim.result c.next-victim.ensures has)
          ∙ sym h.1,
      has_drawn c.args.plan.now c.args.limits own past stood c.args.victims.now c.next-victim.new.self c.next-victim.result h.2 c.next-victim.ensures
          has,
    )

-- none is drawn
pub returns-in-Do : goal.returns-in-Do
returns-in-Do c past stood p has =
    let h = c.in-Do.ensures.choice past stood p in (
      h.0,
      sym h.1,
      draws_none c.args.plan.now c.args.limits c.args.pace.now.processor past (record { stood = stood; act = c.in-Do.act }) c.args.victims.now h.2 has,
    )

-- it rests, and none is drawn
pub returns-in-Leave : goal.returns-in-Leave
returns-in-Leave c past stood p has = (c.in-Leave.ensures.choice past stood p, has)
