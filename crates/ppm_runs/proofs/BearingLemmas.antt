-- After each turn of a run's state blocks are forked upwards still.
use Rattle.std.proofs.Common.{◌≡◌, ℕ, ◌==◌, Bool, true, if◌then◌else◌, List, [], ◌∷◌, ◌++◌, refl, ap, subst}
use Rattle.std.proofs.Math.Path.{fun_ext}
use Rattle.ppm_step.specs.State.{happens, forks_of}
use Rattle.ppm_tickets.specs.Words.{has}
use Rattle.ppm_kept.specs.Bearing.{with_blocks}
use Rattle.ppm_kept.specs.Births.{Births}
use Rattle.ppm_kept.specs.Places.{places_of}
use Rattle.ppm_kept.proofs.BearLemmas.{turns_bear}
use Rattle.ppm_runs.specs.Run.{setting}
use Rattle.ppm_runs.specs.Laws.{BirthsFollow}
use Rattle.ppm_runs.proofs.GoingLemmas.{acts_so}

-- blocks that come to a list
pub with_same : (l f : List ℕ) (x : ℕ) → with_blocks l (has f) x ≡ has (l ++ f) x
with_same [] f x = refl
with_same (r ∷ l) f x = ap (λ (b : Bool). if r == x then true else b) (with_same l f x)

pub births_follow : BirthsFollow
births_follow s code places fair root input state h forked taken t run turn among =
    subst (Births (setting s code) (places_of s (happens s code state turn))) (fun_ext (with_same (forks_of state turn) forked))
    (turns_bear (setting s code) fair places root input state t run.kept (has forked) run.born turn
    (acts_so s code places fair root input state h forked taken t run turn.processor turn.act among.processor))
