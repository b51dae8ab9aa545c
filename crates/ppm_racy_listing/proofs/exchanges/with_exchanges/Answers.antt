-- With puts in place of its exchanges it is the code that was given.
use Rattle.std.proofs.Common.{rules, ◌≡◌, ◌∙◌, ◌+◌, length, sym, ap, subst}
use Rattle.ppm_code.specs.Code.{IsCode}
use Rattle.ppm_racy.specs.Code.{plain_code}
use Rattle.ppm_racy_listing.specs.Exchanges.{exchanged_capsules, exchanged_code}
use Rattle.ppm_racy_listing.proofs.ExchangeLemmas.{same_code}
use Rattle.ppm_racy_listing.proofs.exchanges.with_exchanges.Goals as goal

pub from_parts-requires : goal.from_parts-requires
from_parts-requires c =
    let arrays : c.from_vec.result ≡ c.parts-parts.result.now.arrays = search rules in
    let procedures : c.from_vec-2.result ≡ c.parts-parts.result.now.procedures = search rules in
    let capsules : c.from_vec-3.result ≡ exchanged_capsules c.args.olds.now (2 + length c.parts-parts.result.now.procedures) c.parts-parts.result.now.capsules =
    search rules in
    let same : plain_code (record {
      root = c.parts-parts.result.now.root;
      arrays = c.from_vec.result;
      procedures = c.from_vec-2.result;
      capsules = c.from_vec-3.result;
    }) ≡ c.parts-parts.result.now =
    (λ i. plain_code (record {
      root = c.parts-parts.result.now.root;
      arrays = arrays i;
      procedures = procedures i;
      capsules = capsules i;
    })) ∙ same_code c.args.olds.now c.parts-parts.result.now in
    subst IsCode (sym same) (subst IsCode (sym c.parts-parts.ensures.value) c.parts-parts.ensures.code)

pub returns-clause-plain : goal.returns-clause-plain
returns-clause-plain c =
    let made : c.from_parts.result ≡ exchanged_code c.args.olds.now c.args.code.now = search rules in
    ap plain_code made ∙ same_code c.args.olds.now c.args.code.now
