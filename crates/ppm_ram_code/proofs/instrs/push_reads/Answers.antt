use Rattle.ppm_ram_code.proofs.Growing.{then}
use Rattle.ppm_ram_code.proofs.instrs.push_reads.Goals as goal

pub returns : goal.returns
returns c =
    then c.in_ok-push_read.ensures (then c.in_ok-push_read-2.ensures (then c.in_ok-push_read-3.ensures (then c.in_ok-push_read-4.ensures
    (then c.in_ok-push_read-5.ensures (then c.in_ok-push_read-6.ensures (then c.in_ok-push_read-7.ensures c.in_ok-push_read-8.ensures))))))
