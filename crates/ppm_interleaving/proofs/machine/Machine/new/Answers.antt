-- The root's strand alone.
use Rattle.std.proofs.Common.{rules, ◌≡◌, ◌∙◌, [], ◌∷◌, refl, sym, ap, subst}
use Rattle.ppm_code.specs.Strands.{entry_of}
use Rattle.ppm_racy.specs.Code.{plain_code}
use Rattle.ppm_interleaving.specs.declared.own.Own.{Own}
use Rattle.ppm_interleaving.specs.declared.strand.Strand.TheVariants.{Running as IsRunning}
use Rattle.ppm_interleaving.specs.Owns.{AreRootWords}
use Rattle.ppm_interleaving.proofs.StartLemmas.{starts}
use Rattle.ppm_interleaving.proofs.machine.Machine.new.Goals as goal

pub returns : goal.returns
returns c = λ root arrays words same.
    let b = c.begun-root.ensures in
    let r = c.begun-root.result in
    let strands : c.push.new.self.items ≡ IsRunning r ∷ [] = search rules in
    starts c.args.code.now _ root arrays (record { strands = c.push.new.self; words = c.args.words }) r strands
    (record {
      capsule = b.capsule ∙ ap (λ p. entry_of (plain_code c.args.code.now) p.root) c.parts.ensures.value;
      at = b.at;
      registers = b.registers;
      own = refl;
      settled = b.settled;
      since = b.since;
    })
    (subst (λ (o : Own). AreRootWords o.slots.items root) (sym b.own) words)
    (ap (λ (o : Own). o.value) b.own) (ap (λ (o : Own). o.block.items) b.own ∙ c.new.ensures.items) same refl
