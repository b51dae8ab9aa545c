-- The stores of an end, one by one.
use Rattle.std.proofs.Common.{◌≡◌, ℕ, zero, suc, ◌+◌, List, [], ◌∷◌, refl, sym, arith, Option, Some, None}
use Rattle.std.specs.Prelude.{slice_get}
use Rattle.ppm_code.specs.declared.act.End.{End}
use Rattle.ppm_code.specs.declared.code.CodeParts.{CodeParts}
use Rattle.ppm_step.specs.declared.frame.Home.{Home}
use Rattle.ppm_step.specs.declared.frame.Put.{Put}
use Rattle.ppm_step.specs.Frames.{Rest, Stores, Installs, storing, puts, installed, ending, IsNext}

storing_some : (n : ℕ) (ps : List Put) (p : Put) (rest : Rest) → slice_get ps n ≡ Some p
    → storing n ps rest ≡ Stores p.cell p.content (storing (n + 1) ps rest)
storing_some n [] p rest h = cc
storing_some zero (q ∷ ps) p rest h =
    let e : q ≡ p = cc in
    rw e refl
storing_some (suc n) (q ∷ ps) p rest h =
    let e : suc n + 1 ≡ suc (n + 1) = omega arith in
    rw e (storing_some n ps p rest h)

storing_none : (n : ℕ) (ps : List Put) (rest : Rest) → slice_get ps n ≡ None → storing n ps rest ≡ rest
storing_none n [] rest h = refl
storing_none zero (q ∷ ps) rest h = cc
storing_none (suc n) (q ∷ ps) rest h = storing_none n ps rest h

-- where there is an n-th store, it comes next
pub ending_some : (code : CodeParts) (home : Home) (e : End) (n : ℕ) (p : Put) → slice_get (puts code home e) n ≡ Some p
    → ending code home e n ≡ Stores p.cell p.content (ending code home e (n + 1))
ending_some code home e n p h = storing_some n (puts code home e) p (Installs (installed home e)) h

-- and where there is none, the restart word is installed
pub ending_none : (code : CodeParts) (home : Home) (e : End) (n : ℕ) → slice_get (puts code home e) n ≡ None
    → ending code home e n ≡ Installs (installed home e)
ending_none code home e n h = storing_none n (puts code home e) (Installs (installed home e)) h

-- both at once, by what is found there
pub ending_by : (code : CodeParts) (home : Home) (e : End) (n : ℕ) (o : Option Put) → o ≡ slice_get (puts code home e) n → IsNext code home e n o
ending_by code home e n None h = ending_none code home e n (sym h)
ending_by code home e n (Some p) h = ending_some code home e n p (sym h)
