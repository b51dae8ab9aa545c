-- A processor that stands before a store of an end.
use Rattle.std.proofs.Common.{◌≡◌, ◌≢◌, ◌∙◌, ◌+◌, ◌≤◌, ℕ, Bool, true, false, List, Option, refl, sym, ap, subst, arith}
use Rattle.ppm_cells.specs.declared.shape.Shape.{Shape}
use Rattle.ppm_code.specs.declared.act.End.{End}
use Rattle.ppm_code.specs.declared.code.CodeParts.{CodeParts}
use Rattle.ppm_step.specs.declared.local.Local.{Local}
use Rattle.ppm_step.specs.declared.local.Stand.{Stand}
use Rattle.ppm_step.specs.declared.local.Stand.TheVariants.{Runs}
use Rattle.ppm_step.specs.declared.row.Seat.{Seat}
use Rattle.ppm_step.specs.declared.running.Running.{Running}
use Rattle.ppm_step.specs.declared.running.Stage.{Stage}
use Rattle.ppm_step.specs.declared.running.Stage.TheVariants.{Ending}
use Rattle.ppm_step.specs.Facts.{IsEnd}
use Rattle.ppm_step.specs.Frames.{Rest, ending}
use Rattle.ppm_step.specs.Locals.{IsLocal, StandsFor, standing_at, standing_of}
use Rattle.ppm_step.specs.Stages.{IsStage, IsUnderWay, rest_at}
use Rattle.ppm_step.specs.Standings.{running, running_if}
use Rattle.ppm_table.specs.declared.view.Opening.{Opening}
use Rattle.ppm_table.specs.Run.{Mine, IsSeat}
use Rattle.ppm_words.specs.declared.event.Event.{Event}
use Rattle.ppm_stretch.specs.declared.way.EndStep.{EndStep}
use Rattle.ppm_stretch.specs.declared.way.EndStep.TheVariants.{Stored, Installed, Gone, Refused}
use Rattle.ppm_stretch.specs.Ending.{HasEnded, HasMadeEnds, is_stored, made_by}
use Rattle.ppm_stretch.specs.Steady.{Moves}
use Rattle.ppm_stretch.proofs.SteadyLemmas.{from_none, moves_none, moves_same, moves_then, refuses_then, refuses_within}

-- what holds of a capsule under way
pub under_way_of : (s : Shape) (code : CodeParts) (local : Local) (under_way : Running) → local.stand ≡ Runs under_way → IsLocal s code local
    → IsUnderWay s code under_way local.registers × (under_way.seat.own ≡ local.own)
under_way_of s code local under_way is h = subst (λ (stand : Stand). StandsFor s code local.own local.registers stand) is h.stand

-- its end
pub end_of : (s : Shape) (code : CodeParts) (local : Local) (under_way : Running) (end : End) (n : ℕ) → local.stand ≡ Runs under_way → under_way.stage ≡ Ending end n → IsLocal s code local
    → IsEnd end
end_of s code local under_way end n is stage h = subst IsStage stage (under_way_of s code local under_way is h).0.stage

pub stands_at_end : (s : Shape) (code : CodeParts) (local : Local) (under_way : Running) (end : End) (n : ℕ) → local.stand ≡ Runs under_way → under_way.stage ≡ Ending end n → IsLocal s code local
    → standing_of s code local ≡ running s under_way.seat (ending code under_way.home end n)
stands_at_end s code local under_way end n is stage h =
    let rest = rest_at s code under_way under_way.stage local.registers in
    ap (λ (stand : Stand). standing_at s code local.registers stand) is
    ∙ sym (ap (λ (b : Bool). running_if under_way.seat rest b) (under_way_of s code local under_way is h).0.is_there)
    ∙ ap (λ (x : Stage). running s under_way.seat (rest_at s code under_way x local.registers)) stage

module _ {W : Type 0} (told : W → Option (List Event)) where
  -- what came of one store, by its number
  pub ended_one : (k : Opening) (s : Shape) (seat : Seat) (rest : Rest) (a b : Mine) (w0 w1 : W) (step : EndStep) → IsSeat seat.own a
      → HasEnded told k s seat rest a b w0 w1 step → HasMadeEnds told k s seat rest a b w0 w1 1 (made_by step) step
  ended_one k s seat rest a b w0 w1 Stored sits h = h
  ended_one k s seat rest a b w0 w1 (Installed restart) sits h = h
  ended_one k s seat rest a b w0 w1 Gone sits h = (
    moves_same told k seat.own a a b w0 w0 w1 0 0 0 (moves_none told k seat.own a w0 sits) h.0 h.1,
    h.2,
  )
  ended_one k s seat rest a b w0 w1 Refused sits h = h

  -- where none does, whatever would be left
  pub ended_so : (k : Opening) (s : Shape) (seat : Seat) (left rest : Rest) (a b : Mine) (w0 w1 : W) (n most made : ℕ) (step : EndStep) → false ≡ is_stored step → n ≤ most
      → HasMadeEnds told k s seat left a b w0 w1 n made step → HasMadeEnds told k s seat rest a b w0 w1 most made step
  ended_so k s seat left rest a b w0 w1 n most made Stored e within h = absurd cc
  ended_so k s seat left rest a b w0 w1 n most made (Installed restart) e within h = h
  ended_so k s seat left rest a b w0 w1 n most made Gone e within h = h
  ended_so k s seat left rest a b w0 w1 n most made Refused e within h = refuses_within told k seat.own a b w0 w1 true n most within h

  moves_stored : (k : Opening) (s : Shape) (seat : Seat) (rest : Rest) (a b : Mine) (w0 w1 : W) (most made : ℕ) (step : EndStep) → true ≡ is_stored step
      → HasMadeEnds told k s seat rest a b w0 w1 most made step → Moves told k seat.own a b w0 w1 made made 0 false
  moves_stored k s seat rest a b w0 w1 most made Stored e h = h.0
  moves_stored k s seat rest a b w0 w1 most made (Installed restart) e h = absurd cc
  moves_stored k s seat rest a b w0 w1 most made Gone e h = absurd cc
  moves_stored k s seat rest a b w0 w1 most made Refused e h = absurd cc

  -- stores, and those behind them
  pub ended_then : (k : Opening) (s : Shape) (seat : Seat) (left rest : Rest) (a b c : Mine) (w0 w1 w2 : W) (m n most made more : ℕ) (first next : EndStep)
      → true ≡ is_stored first → made ≤ m → m + n ≤ most
      → HasMadeEnds told k s seat left a b w0 w1 m made first → HasMadeEnds told k s seat rest b c w1 w2 n more next
      → HasMadeEnds told k s seat rest a c w0 w2 most (made + more) next
  ended_then k s seat left rest a b c w0 w1 w2 m n most made more first next e few within f g =
      by next g
    where
      before : Moves told k seat.own a b w0 w1 made made 0 false
      before = moves_stored k s seat left a b w0 w1 m made first e f

      both : Moves told k seat.own b c w1 w2 more more 0 false → Moves told k seat.own a c w0 w2 (made + more) (made + more) 0 false
      both h = moves_then told k seat.own a b c w0 w1 w2 made more made more 0 0 (made + more) (made + more) 0 refl refl (from_none more 0) before h

      by : (step : EndStep) → HasMadeEnds told k s seat rest b c w1 w2 n more step → HasMadeEnds told k s seat rest a c w0 w2 most (made + more) step
      by Stored h = (both h.0, h.1)
      by (Installed restart) h = (both h.0, h.1, h.2)
      by Gone h = (both h.0, h.1)
      by Refused h = refuses_then told k seat.own a b c w0 w1 w2 made made 0 true n most (omega (arith, few, within)) before h

pub made_few : (step : EndStep) → made_by step ≤ 1
made_few Stored = omega arith
made_few (Installed restart) = omega arith
made_few Gone = omega arith
made_few Refused = omega arith

-- where the next one comes, and where none does
pub stored_is : (step : EndStep) → true ≡ is_stored step → step ≡ Stored
stored_is Stored e = refl
stored_is (Installed restart) e = absurd cc
stored_is Gone e = absurd cc
stored_is Refused e = absurd cc

pub not_stored : (step : EndStep) → false ≡ is_stored step → step ≢ Stored
not_stored step e stored = (let same : false ≡ true = e ∙ ap is_stored stored in absurd cc)
