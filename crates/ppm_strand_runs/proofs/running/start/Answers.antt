-- The words of the arrays, and the root's strand.
use Rattle.std.proofs.Common.{refl, arith}
use Rattle.ppm_strand_runs.proofs.StartLemmas.{counts_words, starts}
use Rattle.ppm_strand_runs.proofs.running.start.Goals as goal

pub root_words-requires-clause-few : goal.root_words-requires-clause-few
root_words-requires-clause-few c = omega (arith, c.requires.input.values_bound, counts_words c.args.input.now)

pub returns : goal.returns
returns c =
    starts c.args.code.now c.args.input.now c.in_ok-slots.slots.items c.in_ok-words.words.items _ c.in_ok-slots.ensures c.in_ok-words.ensures
    c.in_ok-machine.ensures refl c.new-done.ensures.items c.new-made.ensures.items refl
