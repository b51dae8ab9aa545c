use Rattle.std.proofs.Common.{◌≡◌, ◌∙◌, ◌<◌, Bool, if◌then◌else◌, not, sym, refl, ap, subst, arith}
use Rattle.ppm_cells.specs.declared.shape.Shape.{Shape}
use Rattle.ppm_code.specs.declared.code.CodeParts.{CodeParts}
use Rattle.ppm_step.specs.Locals.{standing_of}
use Rattle.ppm_step.specs.Standings.{wanted}
use Rattle.ppm_step.specs.State.{next_of, is_done_at}
use Rattle.ppm_step.specs.Told.{place_of, is_work_next}
use Rattle.ppm_table.specs.Run.{IsAsked, stands_by, deeds_in}
use Rattle.ppm_table.proofs.AskedLemmas.{asked}
use Rattle.ppm_table.proofs.StandLemmas.{stands_on}
use Rattle.ppm_stretch.specs.Steady.{Goes}
use Rattle.ppm_stretch.proofs.SteadyLemmas.{goes_one, refuses_one}
use Rattle.ppm_stretch.proofs.WaitingLemmas.{lives_by}
use Rattle.ppm_stretch.proofs.rows.one.Goals as goal

pub returns-clause-moves : goal.returns-clause-moves
returns-clause-moves g c = λ fine b works.
    let k = c.args.words.now.shared.key in
    let s = c.args.shape.now in
    let code = c.args.code.now in
    let own = c.args.local.now.own in
    let st = standing_of s code c.args.local.now in
    let asks : IsAsked c.want-want.result = subst IsAsked (sym c.want-want.ensures.value) (asked s code c.args.local.now 0 c.requires.local c.requires.lives) in
    let some : 0 < s.processors = omega (arith, c.requires.local.own) in
    record {
      goes = subst (λ (e : Bool). Goes k own c.args.mine.now.me c.tell-found.new.seat.me 1 (if b then 1 else 0) (if b then 0 else 1) e)
          (sym (c.is_exchange-exchanged.ensures c.tell-found.result.word))
          (goes_one k own b c.args.mine.now.me c.tell-found.new.seat.me c.want-want.result c.tell-found.result.word st c.requires.stands c.requires.sits c.requires.lives c.requires.due c.requires.seeks
          (subst (λ (t : Shape). 0 < t.processors) (sym c.requires.table.1) some) (ap (λ (t : Shape). wanted t own 0 st) c.requires.table.1 ∙ sym c.want-want.ensures.value) asks
          (ap (λ (t : Shape). is_work_next t k.code (next_of st)) c.requires.table.1 ∙ ap (λ (x : CodeParts). is_work_next s x (next_of st)) c.requires.table.2 ∙ works) c.tell-found.ensures.told);
      shows = c.tell-found.ensures.shows fine own c.requires.sits (ap place_of (sym c.requires.stands) ∙ sym (c.place-place.ensures s code));
    }

pub returns-clause-stands_on : goal.returns-clause-stands_on
returns-clause-stands_on g c =
    let k = c.args.words.now.shared.key in
    let s = c.args.shape.now in
    let code = c.args.code.now in
    let asks : IsAsked c.want-want.result = subst IsAsked (sym c.want-want.ensures.value) (asked s code c.args.local.now 0 c.requires.local c.requires.lives) in
    c.observe.ensures.stands
    ∙ stands_on k s code c.requires.table.1 c.requires.table.2 c.args.local.now.own 0 c.args.mine.now.me c.tell-found.new.seat.me c.want-want.result c.tell-found.result.word _ c.requires.stands c.requires.sits
    (omega (arith, c.requires.local.own), λ _. refl) (sym c.want-want.ensures.value) asks c.tell-found.ensures.found c.tell-found.ensures.told

pub returns-clause-refuses : goal.returns-clause-refuses
returns-clause-refuses g c = λ refused.
    let k = c.args.words.now.shared.key in
    let s = c.args.shape.now in
    let code = c.args.code.now in
    let own = c.args.local.now.own in
    let st = standing_of s code c.args.local.now in
    let asks : IsAsked c.want-want.result = subst IsAsked (sym c.want-want.ensures.value) (asked s code c.args.local.now 0 c.requires.local c.requires.lives) in
    let some : 0 < s.processors = omega (arith, c.requires.local.own) in
    let goes = goes_one k own _ c.args.mine.now.me c.tell-found.new.seat.me c.want-want.result c.tell-found.result.word st c.requires.stands c.requires.sits c.requires.lives c.requires.due c.requires.seeks
    (subst (λ (t : Shape). 0 < t.processors) (sym c.requires.table.1) some) (ap (λ (t : Shape). wanted t own 0 st) c.requires.table.1 ∙ sym c.want-want.ensures.value) asks refl c.tell-found.ensures.told in
    let stands : standing_of s code c.observe.new.self ≡ stands_by k own (deeds_in c.tell-found.new.seat.me.0) =
    c.observe.ensures.stands
    ∙ stands_on k s code c.requires.table.1 c.requires.table.2 own 0 c.args.mine.now.me c.tell-found.new.seat.me c.want-want.result c.tell-found.result.word _ c.requires.stands c.requires.sits
    (some, λ _. refl) (sym c.want-want.ensures.value) asks c.tell-found.ensures.found c.tell-found.ensures.told in
    refuses_one g.W.Watch.told k own c.args.mine.now.me c.tell-found.new.seat.me c.args.watch.now c.tell-found.new.watch _ _ _ (not (is_done_at (standing_of s code c.observe.new.self))) 1 (omega arith)
    c.requires.sits goes (c.tell-found.ensures.refused refused)
    (lives_by k own c.tell-found.new.seat.me (standing_of s code c.observe.new.self) (not (is_done_at (standing_of s code c.observe.new.self))) goes.sits stands refl)
