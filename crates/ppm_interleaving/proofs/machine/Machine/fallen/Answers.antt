-- By the strands that were looked at.
use Rattle.std.proofs.Common.{rules, ◌≡◌, Some}
use Rattle.std.specs.Prelude.{slice_get}
use Rattle.ppm_interleaving.specs.Changes.{AreStill, IsFirstNotStill}
use Rattle.ppm_interleaving.specs.Shows.{settled_in}
use Rattle.ppm_interleaving.proofs.FallenLemmas.{all_stand, first_falls, more_below, strand_there}
use Rattle.ppm_interleaving.proofs.machine.Machine.fallen.Goals as goal

pub returns-in-Some : goal.returns-in-Some
returns-in-Some c = λ code root arrays h shows.
    let there : slice_get c.args.self.now.strands.items c.loop-strand.strand ≡ Some c.index.result.now =
    strand_there c.args.self.now.strands.items c.loop-strand.strand c.index.result.now c.index.result.now (search rules) (search rules) in
    let first : IsFirstNotStill c.args.self.now.words.items (settled_in c.index.result.now) c.in-Some.number c.in-Some.change = search rules in
    first_falls code root arrays h c.args.self.now shows _ c.index.result.now there c.loop-strand.invariant first

pub loop-strand-preserved : goal.loop-strand-preserved
loop-strand-preserved c =
    let there : slice_get c.args.self.now.strands.items c.loop-strand.strand ≡ Some c.index.result.now =
    strand_there c.args.self.now.strands.items c.loop-strand.strand c.index.result.now c.index.result.now (search rules) (search rules) in
    let still : AreStill c.args.self.now.words.items (settled_in c.index.result.now) = search rules in
    more_below c.args.self.now.words.items c.args.self.now.strands.items c.loop-strand.strand c.index.result.now c.loop-strand.invariant there still

pub returns : goal.returns
returns c = λ code root arrays h shows.
    all_stand code root arrays h c.args.self.now shows c.loop-strand.strand (search rules) c.loop-strand.invariant
