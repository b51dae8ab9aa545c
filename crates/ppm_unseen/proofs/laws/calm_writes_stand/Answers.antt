use Rattle.ppm_unseen.proofs.CalmLemmas.{calm_writes_stand}
use Rattle.ppm_unseen.proofs.laws.calm_writes_stand.Goals as goal

-- nobody has changed the word since
pub returns : goal.returns
returns g c = λ s. calm_writes_stand s
