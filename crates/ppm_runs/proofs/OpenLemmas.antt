-- A machine that opens an image is in the state of a run.
use Rattle.std.proofs.Common.{◌≡◌, ◌⊎◌, ℕ, true, false, [], inl, inr, refl, sym, ap, ◌∙◌, subst}
use Rattle.ppm_cells.specs.Cells.{pool_at}
use Rattle.ppm_step.specs.Standings.{Standing, IsLost, IsBroken, IsDone}
use Rattle.ppm_step.specs.State.{State as RunState, stand_of, opening}
use Rattle.ppm_tickets.proofs.ImageLemmas.{images_open}
use Rattle.ppm_tickets.proofs.Theorem.{lost_or, lawful_in_every_run}
use Rattle.ppm_frames.specs.Views.{view}
use Rattle.ppm_kept.specs.Kept.{State}
use Rattle.ppm_kept.specs.Births.{Births}
use Rattle.ppm_kept.proofs.BeginLemmas.{machines_open}
use Rattle.ppm_kept.proofs.BirthLemmas.{openings_have_none}
use Rattle.ppm_runs.specs.Run.{setting}
use Rattle.ppm_runs.specs.Openings.{RunsOpen}

-- a processor that is lost, or is not there, has met no broken words
pub not_broken : (x : Standing) (p : ℕ) → (x ≡ IsLost) ⊎ (x ≡ IsDone) → x ≡ IsBroken p → ⊥
not_broken x p is e = elim is [
  | inl l ↦ absurd (let z : IsLost ≡ IsBroken p = sym l ∙ e in cc)
  | inr l ↦ absurd (let z : IsDone ≡ IsBroken p = sym l ∙ e in cc)
]

pub runs_open : RunsOpen
runs_open code input s keeper real opens calm =
    let state : RunState = opening real.words s.processors in
    let made = machines_open code input s keeper real opens calm in
    let ticket = images_open code input s keeper real opens.image_is in
    record {
      lawful = lawful_in_every_run s code keeper (pool_at s keeper) real.words [] ticket.1 ticket.0 tt;
      kept = made.1 (λ k. true) refl;
      agrees = record {
        fresh = λ r e. absurd e;
        held = λ r e. absurd e;
        waiting = λ r e. absurd e;
        to_push = λ r e. absurd (cc);
        offered = λ r e. absurd (cc);
        inline = λ r e. absurd (cc);
      };
      last = λ r p e home. absurd e;
      ready = λ p r f y b ke de. absurd (let z = ap (λ (q : State). q.doing p) (sym made.0) ∙ de in cc);
      broken = λ c p e. absurd (not_broken (stand_of state c) p (elim (lost_or s.processors c) [ inl a ↦ inl a.0 | inr a ↦ inr a ]) e);
      born = subst (λ (q : State). Births (setting s code) q (λ x. false)) (sym made.0) (openings_have_none (setting s code) (view s real.words) keeper (pool_at s keeper));
    }
