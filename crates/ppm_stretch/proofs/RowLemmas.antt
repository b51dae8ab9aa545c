-- One step for which nothing is to be chosen.
use Rattle.std.proofs.Common.{◌≡◌, ◌≢◌, ◌≤◌, ◌∙◌, Bool, true, false, if◌then◌else◌, sym, ap, subst, arith}
use Rattle.ppm_step.specs.Standings.{Standing}
use Rattle.ppm_step.specs.State.{next_of, seeks_holder}
use Rattle.ppm_step.specs.declared.turn.Next.{Next}
use Rattle.ppm_step.specs.declared.turn.Next.TheVariants.{Seek, Done}
use Rattle.ppm_stretch.specs.declared.way.Steps.{Steps}
use Rattle.ppm_stretch.specs.Rows.{IsFree}

pub free_by : (standing : Standing) (next : Next) → next ≡ next_of standing → next ≢ Seek → next ≢ Done → seeks_holder standing ≡ false → IsFree standing
free_by standing next is not_seek not_done due = record {
  lives = λ done. not_done (is ∙ ap next_of done);
  due = due;
  seeks = λ seek. not_seek (is ∙ seek);
}

-- its numbers
pub few_of_one : (steps : Steps) (works exchanged : Bool)
    → steps ≡ record { made = 1; work = if works then 1 else 0; looks = if works then 0 else 1; exchanged = exchanged; refused = false }
    → (steps.made ≤ 1) × (steps.work ≤ steps.made) × (steps.looks ≤ steps.made)
few_of_one steps works exchanged is =
    subst (λ (s : Steps). (s.made ≤ 1) × (s.work ≤ s.made) × (s.looks ≤ s.made)) (sym is) (omega arith, work_few works, looks_few works)
  where
    work_few : (b : Bool) → (if b then 1 else 0) ≤ 1
    work_few true = omega arith
    work_few false = omega arith

    looks_few : (b : Bool) → (if b then 0 else 1) ≤ 1
    looks_few true = omega arith
    looks_few false = omega arith
