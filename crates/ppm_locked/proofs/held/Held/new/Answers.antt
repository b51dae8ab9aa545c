use Rattle.std.proofs.Common.{◌∙◌, ap, subst, sym}
use Rattle.ppm_code.specs.Code.{IsCode}
use Rattle.ppm_core.specs.Machine.{seen}
use Rattle.ppm_locked.proofs.RunLemmas.{begins}
use Rattle.ppm_locked.proofs.held.Held.new.Goals as goal

pub invariant_of-result : goal.invariant_of-result
invariant_of-result g c = (
  begins g.L.Keeping.first g.L.Keeping.most (seen c.args.machine) c.args.history c.args.spent.items c.requires.first.0 c.requires.history c.requires.spent,
  c.requires.most,
  c.requires.books.0 ∙ sym c.requires.first.1,
  c.requires.books.2.0,
  c.requires.books.2.1,
  λ none. c.requires.books.1,
  record {
    is_code = subst IsCode (c.code.ensures ∙ ap (λ m. m.code) c.requires.first.0) c.parts.ensures.code;
    lost = c.requires.opening;
  },
)
