use Rattle.std.proofs.Common.{◌≡◌, ◌+◌, refl, suc, arith}
use Rattle.ppm_by_name.specs.Frames.{frame_of}
use Rattle.ppm_standing.specs.Shown.{run_of, sweep_of}
use Rattle.ppm_standing.proofs.RunLemmas.{sweep_done}
use Rattle.ppm_by_name.proofs.FrameLemmas.{elemented}
use Rattle.ppm_standing.proofs.run.Run.sweep.Goals as goal

pub returns : goal.returns
returns c =
    let q = c.args.sweep in
    sweep_done c.inside.result (run_of c.inside.new.self) (sweep_of q) (run_of c.args.self.now) (frame_of c.lend.new.self) (q.next + 1)
    (let f = c.if-sweep-length.false in let e = c.length.ensures.value in omega (arith, f, e))
    (elemented q.frame c.in_ok-frame.frame c.set_index.new.self c.lend.new.self q.index.now.name q.part.now.name q.region q.region c.element.result q.next
    c.in_ok-frame.ensures c.in_ok-set_index.ensures refl c.element.ensures c.in_ok-lend.ensures)
    (let e : q.next + 1 ≡ suc q.next = omega arith in e) c.inside.ensures
