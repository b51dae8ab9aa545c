use Rattle.std.proofs.Common.{◌∙◌, sym, refl, ap, subst}
use Rattle.ppm_step.specs.Locals.{standing_of}
use Rattle.ppm_step.specs.Standings.{IsWithin}
use Rattle.ppm_step.specs.declared.row.Point.{Point}
use Rattle.ppm_step.specs.declared.row.Row.TheVariants.{Now}
use Rattle.ppm_step.specs.declared.row.Then.TheVariants.{Load}
use Rattle.ppm_step.specs.declared.turn.Act.{Act}
use Rattle.ppm_table.specs.Events.{HasActed}
use Rattle.ppm_table.specs.Run.{IsActAt}
use Rattle.ppm_table.specs.Shown.{deeds_of_processor}
use Rattle.ppm_stretch.proofs.LookingLemmas.{within_of}
use Rattle.ppm_stretch.proofs.seeking.turn.Goals as goal

pub returns-then-is_before_seek-clause-acted : goal.returns-then-is_before_seek-clause-acted
returns-then-is_before_seek-clause-acted c = λ lives.
    let shared = c.args.shared.now in
    let p = c.args.processor.now in
    let s = shared.shape in
    let code = shared.code in
    let q = c.load_finish.new.processor in
    subst (λ (act : Act). HasActed s code p.local.own act (standing_of s code p.local) (standing_of s code q.local) (deeds_of_processor p) (deeds_of_processor q)
    c.load_finish.result) (sym c.in-Step.is) (c.load_finish.ensures.acted c.in-Step.victim)

pub load_holder-requires-clause-stands : goal.load_holder-requires-clause-stands
load_holder-requires-clause-stands c =
    let shared = c.args.shared.now in
    let p = c.args.processor.now in
    let s = shared.shape in
    let code = shared.code in
    let facts = within_of s code p.local c.in-Within.seat c.in-Within.row c.in-Now.next c.in-Load.point c.in-Within.is c.in-Now.is c.in-Load.is c.requires.of.holds in
    facts.4 ∙ ap (λ (point : Point). IsWithin c.in-Within.seat (Now (Load point))) (c.if-is_of_holder.ensures refl).1

pub load_holder-requires-clause-seeks : goal.load_holder-requires-clause-seeks
load_holder-requires-clause-seeks c = (c.if-is_of_holder.ensures refl).0

pub load_holder-requires-clause-victim : goal.load_holder-requires-clause-victim
load_holder-requires-clause-victim c =
    let shared = c.args.shared.now in
    let p = c.args.processor.now in
    let s = shared.shape in
    let code = shared.code in
    (subst (λ (act : Act). IsActAt s (standing_of s code p.local) act) c.in-Step.is c.requires.may).0

pub load_holder-requires-clause-seat : goal.load_holder-requires-clause-seat
load_holder-requires-clause-seat c =
    let shared = c.args.shared.now in
    let p = c.args.processor.now in
    let s = shared.shape in
    let code = shared.code in
    let facts = within_of s code p.local c.in-Within.seat c.in-Within.row c.in-Now.next c.in-Load.point c.in-Within.is c.in-Now.is c.in-Load.is c.requires.of.holds in
    (facts.0, facts.1)

pub returns-then-is_of_holder-clause-acted : goal.returns-then-is_of_holder-clause-acted
returns-then-is_of_holder-clause-acted c = λ lives.
    let shared = c.args.shared.now in
    let p = c.args.processor.now in
    let s = shared.shape in
    let code = shared.code in
    let q = c.load_holder.new.processor in
    subst (λ (act : Act). HasActed s code p.local.own act (standing_of s code p.local) (standing_of s code q.local) (deeds_of_processor p) (deeds_of_processor q)
    c.load_holder.result) (sym c.in-Step.is) c.load_holder.ensures.acted
