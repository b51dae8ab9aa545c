-- A capsule of instructions, by them.
use Rattle.std.proofs.Common.{◌≤◌, ℕ, zero, suc, ◌+◌, ◌-◌, max, nat_lt, nat_le, if◌then◌else◌, Bool, true, false, List, [], ◌∷◌, length, replicate, Some, None, arith}
use Rattle.ppm_cells.specs.Cells.{pool_at}
use Rattle.ppm_cells.specs.declared.restart.RestartKind.{RestartKind}
use Rattle.ppm_cells.specs.declared.shape.Shape.{Shape}
use Rattle.ppm_strands.specs.Capsule.{Capsule}
use Rattle.ppm_code.specs.Locations.{Where}
use Rattle.ppm_code.specs.Acts.{does}
use Rattle.ppm_code.specs.Capsules.{at_act, capsule_from}
use Rattle.ppm_code.specs.declared.act.End.{End}
use Rattle.ppm_code.specs.declared.act.End.TheVariants.{Next, Finish, Trap, Call, Fork}
use Rattle.ppm_code.specs.declared.act.Step.TheVariants.{Loads as LoadsOf, Stores as StoresTo, Asks}
use Rattle.ppm_code.specs.declared.act.Act.{Act}
use Rattle.ppm_code.specs.declared.act.Act.TheVariants.{Sets, Passes, Jumps, Steps, Ends as Stops}
use Rattle.ppm_code.specs.declared.code.CodeParts.{CodeParts}
use Rattle.ppm_code.specs.declared.instr.Instr.{Instr}
use Rattle.ppm_step.specs.declared.frame.Put.{Put}
use Rattle.ppm_step.specs.declared.frame.Home.{Home}
use Rattle.ppm_step.specs.Frames.{Rest, Full, Installs, Breaks, puts, storing, ending, installed, asks, at_counter, rest_of}
use Rattle.ppm_paces.specs.Costs.{due, IsShort, CapsulesAreShort}

-- the stores of an end and its install
stores_short : (ps : List Put) (k : RestartKind) (n : ℕ) → due k ≤ 10 → length ps + 1 ≤ n → IsShort n (storing 0 ps (Installs k))
stores_short [] k zero few le = absurd (omega (arith, le))
stores_short [] k (suc n) few le = few
stores_short (p ∷ ps) k zero few le = absurd (omega (arith, le))
stores_short (p ∷ ps) k (suc n) few le = stores_short ps k n few (omega (arith, le))

installed_few : (home : Home) (e : End) → due (installed home e) ≤ 10
installed_few home (Next c) = omega arith
installed_few home Finish = omega arith
installed_few home (Trap t l) = omega arith
installed_few home (Call q c to) = omega arith
installed_few home (Fork l r c lt rt) = omega arith

module _ (code : CodeParts) where
  puts_few : (home : Home) (e : End) → length (puts code home e) ≤ 11
  puts_few home (Next c) = omega arith
  puts_few home Finish = omega arith
  puts_few home (Trap t l) = omega arith
  puts_few home (Call q c None) = omega arith
  puts_few home (Call q c (Some t)) = omega arith
  puts_few home (Fork l r c None None) = omega arith
  puts_few home (Fork l r c (Some t) None) = omega arith
  puts_few home (Fork l r c None (Some u)) = omega arith
  puts_few home (Fork l r c (Some t) (Some u)) = omega arith

  module _ (s : Shape) (place : ℕ) where
    end_short : (home : Home) (e : End) (n : ℕ) → 12 ≤ n → IsShort n (ending code home e 0)
    end_short home e n le = stores_short (puts code home e) (installed home e) n (installed_few home e) (let a = puts_few home e in omega (arith, a, le))

    asked : (pool room counter words n : ℕ) (rest : Rest) → IsShort (suc n) rest → IsShort (suc n) (asks pool room counter words rest)
    asked pool room counter words n rest l = by (nat_lt counter pool) (nat_le (counter + words) (pool + room))
      where
        by : (a b : Bool) → IsShort (suc n) (if a then Breaks else (if b then rest else Full))
        by true b = tt
        by false true = l
        by false false = tt

    -- one instruction, where so many are left after it
    by_act : (home : Home) (go : ℕ → List ℕ → Capsule Where End) (next left : ℕ)
        → ((home : Home) (t : ℕ) (h : List ℕ) (n : ℕ) → left + 11 ≤ n → IsShort n (rest_of s code place home (go t h)))
        → (a : Act) (g : List ℕ) (n : ℕ) → left + 12 ≤ n → IsShort n (rest_of s code place home (at_act go next a g))
    by_act home go next left more (Sets d v) g n le = more home next _ n (omega (arith, le))
    by_act home go next left more Passes g n le = more home next _ n (omega (arith, le))
    by_act home go next left more (Jumps t) g n le = more home (max t next) _ n (omega (arith, le))
    by_act home go next left more (Stops e) g n le = end_short home e n (omega (arith, le))
    by_act home go next left more (Steps (LoadsOf l d)) g zero le = absurd (omega (arith, le))
    by_act home go next left more (Steps (LoadsOf l d)) g (suc n) le = λ w. more home next _ n (omega (arith, le))
    by_act home go next left more (Steps (StoresTo l v)) g zero le = absurd (omega (arith, le))
    by_act home go next left more (Steps (StoresTo l v)) g (suc n) le = more home next _ n (omega (arith, le))
    by_act home go next left more (Steps (Asks words)) g zero le = absurd (omega (arith, le))
    by_act home go next left more (Steps (Asks words)) g (suc zero) le = absurd (omega (arith, le))
    by_act home go next left more (Steps (Asks words)) g (suc (suc n)) le = λ counter. asked (pool_at s place) s.room counter words n _ (more (at_counter home counter) next _ (suc n) (omega (arith, le)))

    -- by the instructions that are left
    from : (home : Home) (array_words here skip : ℕ) (is : List Instr) (g : List ℕ) (n : ℕ) → length is + 11 ≤ n → IsShort n (rest_of s code place home (capsule_from array_words here skip is g))
    from home aw here skip [] g n le = stores_short [] (installed home Finish) n (installed_few home Finish) (omega (arith, le))
    from home aw here (suc skip) (i ∷ is) g n le = from home aw (here + 1) skip is g n (omega (arith, le))
    from home aw here zero (i ∷ is) g n le = by_act home (λ t h. capsule_from aw (here + 1) (t - (here + 1)) is h) (here + 1) (length is)
        (λ home t h n le. from home aw (here + 1) (t - (here + 1)) is h n le) (does aw i g) g n (omega (arith, le))

pub capsules_are_short : CapsulesAreShort
capsules_are_short s code place home aw is le = from code s place home aw 0 0 is (replicate 64 0) 171 (omega (arith, le))
