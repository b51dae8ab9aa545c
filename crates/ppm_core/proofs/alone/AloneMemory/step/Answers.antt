use Rattle.ppm_core.proofs.AloneLemmas.{made_one}
use Rattle.ppm_core.proofs.alone.AloneMemory.step.Goals as goal

pub returns : goal.returns
returns g c = λ x at is.
    let m = c.args.self.now in
    made_one m.shape m.code.now c.args.number c.args.place x c.args.want c.make.result c.args.own.now.items c.make.new.words.items at is
    c.make.ensures.found c.make.ensures.words c.make.ensures.count
