use Rattle.std.proofs.Common.{List, refl, subst}
use Rattle.ppm_code.specs.declared.instr.Instr.{Instr}
use Rattle.ppm_step.specs.Frames.{at_counter}
use Rattle.ppm_core.specs.declared.frames.NextCapsule.{NextCapsule}
use Rattle.ppm_core.specs.Rounds.{LedTo}
use Rattle.ppm_core.proofs.AfterLemmas.{filled_so, halts_along}
use Rattle.ppm_core.proofs.after.fill_and_end.Goals as goal

pub end_or_wait-after-requires-clause-left : goal.end_or_wait-after-requires-clause-left
end_or_wait-after-requires-clause-left c =
    let s = c.args.shape.now in
    let code = c.args.code.now in
    let seat = c.args.seat in
    let coming = c.args.coming in
    let found = c.in-Some.found.now in
    let filled : NextCapsule = record { home = at_counter coming.home c.args.block; number = coming.number } in
    let went = c.go_along-stretch in
    let words = c.args.words.now.items in
    let led = subst (λ (instrs : List Instr). LedTo s code seat filled.home instrs c.args.asked.next c.args.local.now.registers went.new.registers words
    went.new.words.items went.result.made went.result.way) c.as_slice-2.ensures went.ensures.led in
    let along = halts_along s code seat filled found c.args.asked.next c.args.local.now.registers went.new.registers words went.new.words.items went.result.made
    went.result.way c.in-Some.ensures led in
    (along.0, along.1)

pub returns-clause-framed : goal.returns-clause-framed
returns-clause-framed c = λ standing halts.
    let s = c.args.shape.now in
    let code = c.args.code.now in
    let seat = c.args.seat in
    let coming = c.args.coming in
    let found = c.in-Some.found.now in
    let filled : NextCapsule = record { home = at_counter coming.home c.args.block; number = coming.number } in
    let went = c.go_along-stretch in
    let after = c.end_or_wait-after in
    let words = c.args.words.now.items in
    let led = subst (λ (instrs : List Instr). LedTo s code seat filled.home instrs c.args.asked.next c.args.local.now.registers went.new.registers words
    went.new.words.items went.result.made went.result.way) c.as_slice-2.ensures went.ensures.led in
    filled_so s code seat coming filled found c.args.asked.next c.args.asked.words c.args.block c.args.local.now.registers went.new.registers words went.new.words.items
    after.new.words.items after.new.local standing went.result.made went.result.way after.result c.framed.result refl c.requires.seat.0.place c.requires.room
    c.in-Some.ensures halts led after.ensures.framed after.ensures.few.1 c.framed.ensures
