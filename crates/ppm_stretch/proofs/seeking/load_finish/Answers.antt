use Rattle.std.proofs.Common.{◌≡◌, ◌∙◌, ◌<◌, true, false, Some, sym, refl, ap, arith}
use Rattle.ppm_cells.specs.declared.restart.RestartKind.{RestartKind}
use Rattle.ppm_step.specs.Standings.{IsAt}
use Rattle.ppm_step.specs.State.{before_kind, is_work_next, step_of}
use Rattle.ppm_step.specs.declared.ask.Want.TheVariants.{Loads}
use Rattle.ppm_step.specs.declared.turn.Next.TheVariants.{Done, Look}
use Rattle.ppm_table.specs.Run.{deed_by, deeds_in, stands_by}
use Rattle.ppm_table.specs.Shown.{opening_of}
use Rattle.ppm_table.proofs.StandLemmas.{stands_on}
use Rattle.ppm_stretch.proofs.EnteringLemmas.{finish_is_over}
use Rattle.ppm_stretch.proofs.SeekingLemmas.{acted_by, seek_begins, to_load}
use Rattle.ppm_stretch.proofs.SteadyLemmas.{deeds_more_in}
use Rattle.ppm_stretch.proofs.seeking.load_finish.Goals as goal

pub touch-word-requires-clause-steps : goal.touch-word-requires-clause-steps
touch-word-requires-clause-steps c =
    let shared = c.args.shared.now in
    let p = c.args.processor.now in
    let k = opening_of shared in
    let s = shared.shape in
    let code = shared.code in
    let own = p.local.own in
    let standing = IsAt c.args.place (Some c.args.restart) in
    let there : stands_by k own (deeds_in p.seat.me.0) ≡ standing = sym c.requires.of.stands ∙ c.requires.stands in
    let some : 0 < s.processors = let h = c.requires.of.holds.own in omega (arith, h) in
    to_load k s shared.told.0 own 0 0 p.seat.me standing p.mine there (λ e. cc) (some, λ _. refl) refl

-- the run is over
pub returns-then-word-ne0-clause-of : goal.returns-then-word-ne0-clause-of
returns-then-word-ne0-clause-of c =
    let shared = c.args.shared.now in
    let p = c.args.processor.now in
    let k = opening_of shared in
    let s = shared.shape in
    let code = shared.code in
    let own = p.local.own in
    let standing = IsAt c.args.place (Some c.args.restart) in
    let there : stands_by k own (deeds_in p.seat.me.0) ≡ standing = sym c.requires.of.stands ∙ c.requires.stands in
    let some : 0 < s.processors = let h = c.requires.of.holds.own in omega (arith, h) in
    let word = c.touch-word.result in
    let me = c.touch-word.new.seat.me in
    let goes = stands_on k s code shared.told.0 shared.told.1 own 0 p.seat.me me (Loads 0) word standing (sym there) p.mine (some, λ _. refl) refl tt tt
    c.touch-word.ensures.told in
    record {
      table = c.touch-word.ensures.table ∙ c.requires.of.table;
      holds = record { own = c.requires.of.holds.own; stand = tt };
      stands = sym (finish_is_over s code own c.args.place (Some c.args.restart) word c.if-word-ne0.true) ∙ goes;
      counts = λ on. absurd (let none : true ≡ false = sym on ∙ c.requires.plain in cc);
    }

pub returns-then-word-ne0-clause-acted : goal.returns-then-word-ne0-clause-acted
returns-then-word-ne0-clause-acted c = λ victim.
    let shared = c.args.shared.now in
    let p = c.args.processor.now in
    let k = opening_of shared in
    let s = shared.shape in
    let code = shared.code in
    let own = p.local.own in
    let standing = IsAt c.args.place (Some c.args.restart) in
    let there : stands_by k own (deeds_in p.seat.me.0) ≡ standing = sym c.requires.of.stands ∙ c.requires.stands in
    let some : 0 < s.processors = let h = c.requires.of.holds.own in omega (arith, h) in
    let word = c.touch-word.result in
    let me = c.touch-word.new.seat.me in
    acted_by s code own victim c.args.place 0 word _ _ standing (deeds_in p.seat.me.0) (deeds_in me.0) Done c.looked.result c.requires.stands refl
    (ap (λ (kind : RestartKind). is_work_next (before_kind kind)) c.requires.seeks.0) refl
    (deeds_more_in own p.seat.me me (deed_by (Loads 0) word) p.mine c.touch-word.ensures.told)
    (sym (finish_is_over s code own c.args.place (Some c.args.restart) word c.if-word-ne0.true)) c.looked.ensures refl

-- the row begins
pub returns-clause-of : goal.returns-clause-of
returns-clause-of c =
    let shared = c.args.shared.now in
    let p = c.args.processor.now in
    let k = opening_of shared in
    let s = shared.shape in
    let code = shared.code in
    let own = p.local.own in
    let standing = IsAt c.args.place (Some c.args.restart) in
    let there : stands_by k own (deeds_in p.seat.me.0) ≡ standing = sym c.requires.of.stands ∙ c.requires.stands in
    let some : 0 < s.processors = let h = c.requires.of.holds.own in omega (arith, h) in
    let word = c.touch-word.result in
    let me = c.touch-word.new.seat.me in
    let goes = stands_on k s code shared.told.0 shared.told.1 own 0 p.seat.me me (Loads 0) word standing (sym there) p.mine (some, λ _. refl) refl tt tt
    c.touch-word.ensures.told in
    record {
      table = c.touch-word.ensures.table ∙ c.requires.of.table;
      holds = record {
        own = c.requires.of.holds.own;
        stand = (
          record { own = c.requires.of.holds.own; place = c.requires.place; restart = c.requires.restart; is_there = c.requires.seeks.1 },
          refl,
          tt,
          refl,
        );
      };
      stands = sym (seek_begins s code own c.args.place c.args.restart word c.if-word-ne0.false c.requires.seeks.0 c.requires.seeks.1) ∙ goes;
      counts = λ on. absurd (let none : true ≡ false = sym on ∙ c.requires.plain in cc);
    }

pub returns-clause-acted : goal.returns-clause-acted
returns-clause-acted c = λ victim.
    let shared = c.args.shared.now in
    let p = c.args.processor.now in
    let k = opening_of shared in
    let s = shared.shape in
    let code = shared.code in
    let own = p.local.own in
    let standing = IsAt c.args.place (Some c.args.restart) in
    let there : stands_by k own (deeds_in p.seat.me.0) ≡ standing = sym c.requires.of.stands ∙ c.requires.stands in
    let some : 0 < s.processors = let h = c.requires.of.holds.own in omega (arith, h) in
    let word = c.touch-word.result in
    let me = c.touch-word.new.seat.me in
    acted_by s code own victim c.args.place 0 word _ _ standing (deeds_in p.seat.me.0) (deeds_in me.0) Look c.looked-2.result c.requires.stands refl
    (ap (λ (kind : RestartKind). is_work_next (before_kind kind)) c.requires.seeks.0) refl
    (deeds_more_in own p.seat.me me (deed_by (Loads 0) word) p.mine c.touch-word.ensures.told)
    (sym (seek_begins s code own c.args.place c.args.restart word c.if-word-ne0.false c.requires.seeks.0 c.requires.seeks.1)) c.looked-2.ensures
    (sym (ap step_of c.requires.seeks.0))
