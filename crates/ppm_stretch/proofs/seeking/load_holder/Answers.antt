use Rattle.std.proofs.Common.{◌≡◌, ◌∙◌, ℕ, true, false, sym, refl, ap}
use Rattle.ppm_cells.specs.declared.restart.RestartKind.{RestartKind}
use Rattle.ppm_step.specs.Standings.{IsWithin, wanted}
use Rattle.ppm_step.specs.State.{is_work_next, step_of}
use Rattle.ppm_step.specs.declared.ask.Want.TheVariants.{Loads}
use Rattle.ppm_step.specs.declared.row.Point.TheVariants.{SeekHolder}
use Rattle.ppm_step.specs.declared.row.Row.TheVariants.{Now}
use Rattle.ppm_step.specs.declared.row.Then.TheVariants.{Load}
use Rattle.ppm_step.specs.declared.turn.Act.TheVariants.{Step}
use Rattle.ppm_table.specs.Run.{IsActAt, deed_by, deeds_in, stands_by}
use Rattle.ppm_table.specs.Shown.{opening_of}
use Rattle.ppm_table.proofs.StandLemmas.{stands_on}
use Rattle.ppm_stretch.proofs.SeekingLemmas.{acted_by, to_load}
use Rattle.ppm_stretch.proofs.SteadyLemmas.{deeds_more_in}
use Rattle.ppm_stretch.proofs.seeking.load_holder.Goals as goal

pub touch-word-requires-clause-steps : goal.touch-word-requires-clause-steps
touch-word-requires-clause-steps c =
    let shared = c.args.shared.now in
    let p = c.args.processor.now in
    let k = opening_of shared in
    let s = shared.shape in
    let code = shared.code in
    let own = p.local.own in
    let place = c.args.place.now in
    let victim = c.args.victim in
    let at = c.address-at.result in
    let standing = IsWithin place (Now (Load SeekHolder)) in
    let there : stands_by k own (deeds_in p.seat.me.0) ≡ standing = sym c.requires.of.stands ∙ c.requires.stands in
    let may : IsActAt s standing (Step victim) = (c.requires.victim, λ due. let e : true ≡ false = due in absurd cc) in
    let wants : wanted s own victim standing ≡ Loads at = ap (λ (n : ℕ). Loads n) (sym c.address-at.ensures.value) in
    to_load k s shared.told.0 own victim at p.seat.me standing p.mine there (λ e. cc) may wants

pub returns-clause-of : goal.returns-clause-of
returns-clause-of c =
    let shared = c.args.shared.now in
    let p = c.args.processor.now in
    let k = opening_of shared in
    let s = shared.shape in
    let code = shared.code in
    let own = p.local.own in
    let place = c.args.place.now in
    let victim = c.args.victim in
    let at = c.address-at.result in
    let standing = IsWithin place (Now (Load SeekHolder)) in
    let there : stands_by k own (deeds_in p.seat.me.0) ≡ standing = sym c.requires.of.stands ∙ c.requires.stands in
    let may : IsActAt s standing (Step victim) = (c.requires.victim, λ due. let e : true ≡ false = due in absurd cc) in
    let wants : wanted s own victim standing ≡ Loads at = ap (λ (n : ℕ). Loads n) (sym c.address-at.ensures.value) in
    let word = c.touch-word.result in
    let me = c.touch-word.new.seat.me in
    record {
      table = c.touch-word.ensures.table ∙ c.requires.of.table;
      holds = c.stand_after_holder.ensures.holds;
      stands = c.stand_after_holder.ensures.stands
          ∙ stands_on k s code shared.told.0 shared.told.1 own victim p.seat.me me (Loads at) word standing (sym there) p.mine may wants tt tt c.touch-word.ensures.told
          ∙ ap (λ (n : ℕ). stands_by k n (deeds_in me.0)) (sym c.stand_after_holder.ensures.own_stays);
      counts = λ on. absurd (let none : true ≡ false = sym on ∙ c.requires.plain in cc);
    }

pub returns-clause-acted : goal.returns-clause-acted
returns-clause-acted c =
    let shared = c.args.shared.now in
    let p = c.args.processor.now in
    let k = opening_of shared in
    let s = shared.shape in
    let code = shared.code in
    let own = p.local.own in
    let place = c.args.place.now in
    let victim = c.args.victim in
    let at = c.address-at.result in
    let standing = IsWithin place (Now (Load SeekHolder)) in
    let there : stands_by k own (deeds_in p.seat.me.0) ≡ standing = sym c.requires.of.stands ∙ c.requires.stands in
    let may : IsActAt s standing (Step victim) = (c.requires.victim, λ due. let e : true ≡ false = due in absurd cc) in
    let wants : wanted s own victim standing ≡ Loads at = ap (λ (n : ℕ). Loads n) (sym c.address-at.ensures.value) in
    let word = c.touch-word.result in
    let me = c.touch-word.new.seat.me in
    acted_by s code own victim place.place at word _ _ standing (deeds_in p.seat.me.0) (deeds_in me.0) c.next.result c.looked.result c.requires.stands wants
    (ap (λ (kind : RestartKind). is_work_next (step_of kind)) c.requires.seeks) refl
    (deeds_more_in own p.seat.me me (deed_by (Loads at) word) p.mine c.touch-word.ensures.told)
    c.stand_after_holder.ensures.stands c.looked.ensures (c.next.ensures s code)
