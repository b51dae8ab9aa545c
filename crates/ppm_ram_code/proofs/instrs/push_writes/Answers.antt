use Rattle.ppm_ram_code.proofs.Growing.{then}
use Rattle.ppm_ram_code.proofs.instrs.push_writes.Goals as goal

pub returns : goal.returns
returns c =
    then c.in_ok-push_write.ensures (then c.in_ok-push_write-2.ensures (then c.in_ok-push_write-3.ensures (then c.in_ok-push_write-4.ensures
    (then c.in_ok-push_write-5.ensures (then c.in_ok-push_write-6.ensures (then c.in_ok-push_write-7.ensures c.in_ok-push_write-8.ensures))))))
