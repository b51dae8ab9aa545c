use Rattle.std.proofs.Common.{refl}
use Rattle.std.proofs.lemmas.Bool.{both_ways}
use Rattle.ppm_saved_reader.proofs.HeadLemmas.{not_free}
use Rattle.ppm_saved_reader.proofs.heading.is_free.Goals as goal

-- it is accepted
pub returns-in-Ok : goal.returns-in-Ok
returns-in-Ok c = ((λ t. c.in-Ok.ensures.1), (λ free. refl))

-- or has a first conflict
pub returns-in-Err : goal.returns-in-Err
returns-in-Err c = ((λ t. absurd (both_ways _ refl t)), (λ free. absurd (not_free c.args.code.now c.in-Err.field-0 c.in-Err.ensures free)))
