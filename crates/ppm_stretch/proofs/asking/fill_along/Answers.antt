use Rattle.std.proofs.Common.{ℕ, ◌+◌, ◌-◌, ◌∙◌, List, sym, ap, subst, arith}
use Rattle.ppm_code.specs.Capsules.{capsule_from}
use Rattle.ppm_code.specs.Strands.{instrs_of}
use Rattle.ppm_code.specs.declared.instr.Instr.{Instr}
use Rattle.ppm_step.specs.declared.frame.Home.{Home}
use Rattle.ppm_step.specs.Frames.{Rest, at_counter, rest_of}
use Rattle.ppm_stretch.specs.declared.way.Circuit.{Circuit}
use Rattle.ppm_stretch.specs.declared.way.RoundEnd.{RoundEnd}
use Rattle.ppm_stretch.specs.Asking.{HasFilled}
use Rattle.ppm_stretch.specs.Entering.{halt_behind}
use Rattle.ppm_stretch.specs.Steady.{LedTo}
use Rattle.ppm_stretch.proofs.AskingLemmas.{filled_along}
use Rattle.ppm_stretch.proofs.asking.fill_along.Goals as goal

pub returns-clause-filled : goal.returns-clause-filled
returns-clause-filled g c =
    let k = c.args.words.now.shared.key in
    let s = c.args.shape.now in
    let code = c.args.code.now in
    let seat = c.args.place.now in
    let before = c.args.home.now in
    let home : Home = record { frame = before.frame; copy = before.copy; block = c.in-Block.block } in
    let go : ℕ → Rest = λ counter. rest_of s code seat.place (at_counter before counter) (capsule_from s.arrays 0 c.args.next (instrs_of code c.args.number) c.args.registers.now) in
    let asked = c.in-Some-ask_at.ensures.asked go c.requires.stands in
    let stretch = c.go_along-stretch.result in
    let registers = c.go_along-stretch.new.registers in
    let me = c.go_along-stretch.new.mine.me in
    let watch = c.go_along-stretch.new.watch in
    let led = subst (λ (instrs : List Instr). LedTo g.W.Watch.told k s code seat home instrs registers c.ask_at.new.mine.me me c.ask_at.new.watch watch (c.args.most - 1) stretch.made stretch.way)
    c.as_slice.ensures c.go_along-stretch.ensures.led in
    let end = ap (λ (n : ℕ). halt_behind n stretch.way) (sym c.from-2.ensures) ∙ sym c.halt_behind.ensures in
    subst (λ (x : Circuit). HasFilled g.W.Watch.told k s code seat home registers c.args.mine.now.me me c.args.watch.now watch c.args.most x.made x.end) (sym c.filled-2.ensures)
    (subst (λ (x : RoundEnd). HasFilled g.W.Watch.told k s code seat home registers c.args.mine.now.me me c.args.watch.now watch c.args.most (1 + stretch.made) x) end
    (filled_along g.W.Watch.told k s code seat home c.args.number c.in-Some.found.now registers c.args.mine.now.me c.ask_at.new.mine.me me c.args.watch.now c.ask_at.new.watch watch
    (c.args.most - 1) c.args.most stretch.made stretch.way c.in-Some.ensures (omega (arith, c.requires.most)) asked.0 led))
