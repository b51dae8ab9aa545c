use Rattle.std.proofs.Common.{ℕ, Option, Some, None, sym, subst}
use Rattle.ppm_strand_runs.specs.declared.done.Fall.{Fall}
use Rattle.ppm_strand_runs.specs.Run.{SeesTurn}
use Rattle.ppm_strand_runs.proofs.TurnLemmas.{sees_again, sees_fall, sees_none}
use Rattle.ppm_strand_runs.proofs.run.first_fall.Goals as goal

-- there was one
pub returns-in-Some : goal.returns-in-Some
returns-in-Some c =
    subst (λ fall. SeesTurn c.args.machine.now c.args.made.now fall c.args.turn c.args.strand c.args.deed (Some c.in-Some.fall)) (sym c.in-Some.is)
    (sees_again c.args.machine.now c.args.made.now c.args.turn c.args.strand c.args.deed c.in-Some.fall)

-- this is the first
pub returns-in-Some-fallen : goal.returns-in-Some-fallen
returns-in-Some-fallen c =
    let found : ℕ → Option Fall =
    λ made. Some (record { fallen = c.in-Some-fallen.fallen; made = made; turn = c.args.turn; strand = c.args.strand; deed = c.args.deed }) in
    subst (λ fall. SeesTurn c.args.machine.now c.args.made.now fall c.args.turn c.args.strand c.args.deed (found c.made_turn.result)) (sym c.in-None.is)
    (subst (λ made. SeesTurn c.args.machine.now c.args.made.now None c.args.turn c.args.strand c.args.deed (found made)) (sym c.made_turn.ensures)
    (sees_fall c.args.machine.now c.args.made.now c.args.turn c.args.strand c.args.deed c.in-Some-fallen.fallen c.in-Some-fallen.ensures))

-- all stands
pub returns-in-None-fallen : goal.returns-in-None-fallen
returns-in-None-fallen c =
    subst (λ fall. SeesTurn c.args.machine.now c.args.made.now fall c.args.turn c.args.strand c.args.deed None) (sym c.in-None.is)
    (sees_none c.args.machine.now c.args.made.now c.args.turn c.args.strand c.args.deed c.in-None-fallen.ensures)
