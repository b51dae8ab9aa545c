use Rattle.std.proofs.lemmas.Result.{on_ok_weaker}
use Rattle.ppm_cut.proofs.Growing.{then}
use Rattle.ppm_cut.proofs.each.push_halves.Goals as goal

pub returns : goal.returns
returns c = on_ok_weaker c.push_sum.result (λ n. (then c.in_ok-push_load.ensures (then c.in_ok-push_len.ensures (then c.in_ok-push_const.ensures (then c.in_ok-push_quotient.ensures (then c.in_ok-push_cut_left.ensures (then c.in_ok-push_cut_right.ensures (then c.in_ok-push_load-2.ensures n)))))))) c.push_sum.ensures
