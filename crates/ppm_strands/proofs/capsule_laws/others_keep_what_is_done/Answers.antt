use Rattle.ppm_strands.proofs.KeepLemmas.{others_keep, strands_beside_keep}
use Rattle.ppm_strands.proofs.capsule_laws.others_keep_what_is_done.Goals as goal

-- a capsule depends on its exposed reads; and strands beside one another touch nothing that the other writes
pub returns : goal.returns
returns g c = λ eq table. record {
  elsewhere = λ k rest m n same news again h. others_keep eq table k rest m n same news again h;
  beside = λ t j k x v go rest m n calm beside one ready doing again h.
      strands_beside_keep eq table t j k x v go rest m n calm beside one ready doing again h;
}
