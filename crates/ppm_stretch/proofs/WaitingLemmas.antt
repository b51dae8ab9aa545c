-- A processor whose watcher has refused.
use Rattle.std.proofs.Common.{◌≡◌, ◌∙◌, ℕ, Bool, not, false, true, refl, sym, ap}
use Rattle.ppm_step.specs.Standings.{Standing, IsLost, IsPlaced, IsAt, IsWithin, IsRunning, IsBroken, IsDone}
use Rattle.ppm_step.specs.State.{is_done_at}
use Rattle.ppm_table.specs.Run.{stands_by, deeds_in, Mine, IsSeat}
use Rattle.ppm_table.specs.declared.view.Opening.{Opening}
use Rattle.ppm_stretch.specs.Steady.{Lives}

-- it is still to take a step, or is done
pub lives_by : (k : Opening) (own : ℕ) (me : Mine) (st : Standing) (b : Bool) → IsSeat own me → st ≡ stands_by k own (deeds_in me.0) → b ≡ not (is_done_at st) → Lives k own me b
lives_by k own me st true sits at is = (sits, λ done. let e : true ≡ false = is ∙ ap (λ (x : Standing). not (is_done_at x)) (at ∙ done) in cc)
lives_by k own me st false sits at is = (sits, sym at ∙ done_by st is)
  where
    done_by : (x : Standing) → false ≡ not (is_done_at x) → x ≡ IsDone
    done_by IsLost e = cc
    done_by (IsPlaced place) e = cc
    done_by (IsAt place restart) e = cc
    done_by (IsWithin seat row) e = cc
    done_by (IsRunning seat rest) e = cc
    done_by (IsBroken place) e = cc
    done_by IsDone e = refl
