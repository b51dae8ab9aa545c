use Rattle.std.proofs.Common.{rules, arith, ◌<◌, ◌+◌, ◌*◌, ◌-◌, drop, drop-cons, get_or, length, suc}
use Rattle.ppm_text.proofs.BytesLemmas.{value_grows}
use Rattle.ppm_text.proofs.scan.value.Goals as goal

-- the digits so far and this one pass the limit already
pub returns-then-n-digit : goal.returns-then-n-digit
returns-then-n-digit c =
    let within : c.loop-d.d-index < length c.args.digits.now = search rules in
    rw (← c.loop-d.invariant.same, drop-cons c.args.digits.now c.loop-d.d-index 0 within)
    (omega (arith, value_grows (c.loop-d.n * 10 + (get_or c.args.digits.now c.loop-d.d-index 0 - 48)) (drop (suc c.loop-d.d-index) c.args.digits.now)))
