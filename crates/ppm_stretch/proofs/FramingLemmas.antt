-- Capsules of a frame, with the stores of an end behind them.
use Rattle.std.proofs.Common.{true, false, ◌≡◌, ◌+◌, ◌==◌, ◌≤◌, if◌then◌else◌, ℕ, Bool, List, Option, Some, sym, refl, subst, arith}
use Rattle.ppm_cells.specs.declared.shape.Shape.{Shape}
use Rattle.ppm_code.specs.Code.{IsCode}
use Rattle.ppm_code.specs.declared.act.End.{End}
use Rattle.ppm_code.specs.declared.code.CodeParts.{CodeParts}
use Rattle.ppm_code.specs.declared.work.Reached.TheVariants.{AtEnd, Before}
use Rattle.ppm_engine.proofs.WaitingLemmas.{stage_fits}
use Rattle.ppm_step.specs.declared.frame.Home.{Home}
use Rattle.ppm_step.specs.declared.local.Local.{Local}
use Rattle.ppm_step.specs.declared.row.Seat.{Seat}
use Rattle.ppm_step.specs.Facts.{IsEnd}
use Rattle.ppm_step.specs.Frames.{ending}
use Rattle.ppm_step.specs.Standings.{Standing, running}
use Rattle.ppm_table.specs.declared.view.Opening.{Opening}
use Rattle.ppm_table.specs.Run.{Mine}
use Rattle.ppm_words.specs.declared.event.Event.{Event}
use Rattle.ppm_stretch.specs.declared.way.FrameEnd.{FrameEnd}
use Rattle.ppm_stretch.specs.declared.way.FrameEnd.TheVariants.{Installed, Stands, Refused}
use Rattle.ppm_stretch.specs.declared.way.Framed.{Framed}
use Rattle.ppm_stretch.specs.declared.way.Halt.{Halt}
use Rattle.ppm_stretch.specs.declared.way.Halt.TheVariants as halts
use Rattle.ppm_stretch.specs.Entering.{HaltsAt}
use Rattle.ppm_stretch.specs.Framing.{HasFramed, end_in}
use Rattle.ppm_stretch.specs.Steady.{Moves, looks_behind}
use Rattle.ppm_stretch.proofs.SteadyLemmas.{moves_then, refuses_then}

-- where a capsule has halted at an end
pub ends_at : (s : Shape) (code : CodeParts) → IsCode code → (seat : Seat) (home : Home) (registers : List ℕ) (halt : Halt) (end : End) (standing : Standing)
    → Some end ≡ end_in halt → HaltsAt s code seat home registers halt standing → IsEnd end × (standing ≡ running s seat (ending code home end 0))
ends_at s code is seat home registers (halts.Stopped number next (AtEnd e)) end standing at h =
    let same : e ≡ end = some_same (sym at) in
    subst (λ (x : End). IsEnd x × (standing ≡ running s seat (ending code home x 0))) same
    (stage_fits s code is number next (AtEnd e) registers h.0 h.1 h.2.0, h.2.1)
  where
    some_same : {a b : End} → Some a ≡ Some b → a ≡ b
    some_same p = cc
ends_at s code is seat home registers (halts.Stopped number next (Before step)) end standing at h = absurd cc
ends_at s code is seat home registers halts.Done end standing at h = absurd cc
ends_at s code is seat home registers halts.Broken end standing at h = absurd cc
ends_at s code is seat home registers (halts.Midway number i) end standing at h = absurd cc
ends_at s code is seat home registers (halts.Full number) end standing at h = absurd cc

module _ {W : Type 0} (told : W → Option (List Event)) (k : Opening) (s : Shape) (code : CodeParts) where
  pub framed_as : (own place : ℕ) (a b : Mine) (w0 w1 : W) (local : Local) (most : ℕ) (f g : Framed) → f ≡ g
      → HasFramed told k s code own place a b w0 w1 local most g.made g.work g.looks g.end
      → HasFramed told k s code own place a b w0 w1 local most f.made f.work f.looks f.end
  framed_as own place a b w0 w1 local most f g is h =
      subst (λ (x : Framed). HasFramed told k s code own place a b w0 w1 local most x.made x.work x.looks x.end) (sym is) h

  -- those behind steps
  pub framed_then : (own place : ℕ) (a b c : Mine) (w0 w1 w2 : W) (local : Local) (n most made work looks more : ℕ) (end : FrameEnd) → made + n ≤ most
      → Moves told k own a b w0 w1 made work looks false → HasFramed told k s code own place b c w1 w2 local n more more 0 end
      → HasFramed told k s code own place a c w0 w2 local most (made + more) (work + more) (looks_behind looks more 0) end
  framed_then own place a b c w0 w1 w2 local n most made work looks more (Installed restart) within f h = (
    moves_then told k own a b c w0 w1 w2 made more work more looks 0 (made + more) (work + more) (looks_behind looks more 0) refl refl refl f h.0,
    h.1,
    h.2,
  )
  framed_then own place a b c w0 w1 w2 local n most made work looks more Stands within f h = (
    moves_then told k own a b c w0 w1 w2 made more work more looks 0 (made + more) (work + more) (looks_behind looks more 0) refl refl refl f h.0,
    h.1,
    h.2,
  )
  framed_then own place a b c w0 w1 w2 local n most made work looks more (Refused lives) within f h =
      refuses_then told k own a b c w0 w1 w2 made work looks lives n most within f h

  -- all of them work
  pub framed_works : (own place : ℕ) (a b : Mine) (w0 w1 : W) (local : Local) (most : ℕ) (f : Framed) → f.work ≡ f.made → f.looks ≡ 0
      → HasFramed told k s code own place a b w0 w1 local most f.made f.work f.looks f.end
      → HasFramed told k s code own place a b w0 w1 local most f.made f.made 0 f.end
  framed_works own place a b w0 w1 local most f works looks h =
      subst (λ (n : ℕ). HasFramed told k s code own place a b w0 w1 local most f.made f.made n f.end) looks
      (subst (λ (n : ℕ). HasFramed told k s code own place a b w0 w1 local most f.made n f.looks f.end) works h)

-- their numbers
pub framed_few : (f g : Framed) (most : ℕ) → f ≡ g → g.made ≤ most → g.work ≤ g.made → g.looks ≤ g.made → (f.made ≤ most) × (f.work ≤ f.made) × (f.looks ≤ f.made)
framed_few f g most is few works looks = subst (λ (x : Framed). (x.made ≤ most) × (x.work ≤ x.made) × (x.looks ≤ x.made)) (sym is) (few, works, looks)

pub looks_within : (looks work made : ℕ) → looks ≤ made → looks_behind looks work 0 ≤ made
looks_within looks work made few = by (work == 0)
  where
    by : (b : Bool) → (if b then looks + 0 else 0) ≤ made
    by true = omega (arith, few)
    by false = omega arith
