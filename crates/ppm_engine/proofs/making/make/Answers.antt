use Rattle.std.proofs.Common.{ℕ, Result, sym, subst}
use Rattle.ppm_step.specs.Standings.{IsWithin, went_row}
use Rattle.ppm_engine.specs.declared.memory.Stop.{Stop}
use Rattle.ppm_engine.specs.declared.tally.Tally.{Tally}
use Rattle.ppm_engine.specs.Memory.{Counts, spot, one, settles, works, is_exchange}
use Rattle.ppm_engine.specs.Steps.{Any, CameBy}
use Rattle.ppm_engine.proofs.MakingLemmas.{to_make, one_works, settles_after, stops_after, exit_by}
use Rattle.ppm_engine.proofs.making.make.Goals as goal

pub step-requires : goal.step-requires
step-requires g c =
    let m = c.args.memory.now in
    let first = c.requires.stands.0 in
    let row = c.requires.stands.1 in
    let seat = c.args.seat.now in
    let here = spot c.args.own.now (IsWithin seat row) (g.W.Watch.told c.args.watch.now) in
    record {
      stands = (
        IsWithin seat row,
        g.met.M.Memory.stays m seat.own first here (works c.args.tally.now.made c.args.tally.now.exchanged) c.requires.stands.3,
        to_make (g.M.Memory.shape m) seat row c.args.want c.args.mark c.requires.seat c.requires.step c.requires.stands.2,
      );
    }

pub returns-in_err-word-clause-came : goal.returns-in_err-word-clause-came
returns-in_err-word-clause-came g c = λ first row next l.
    let m = c.args.memory.now in
    let s = g.M.Memory.shape m in
    let code = g.M.Memory.code m in
    let seat = c.args.seat.now in
    let t = g.W.Watch.told in
    let led = g.M.Memory.led m seat.own in
    let refused = g.M.Memory.refused m seat.own in
    let here = spot c.args.own.now (IsWithin seat row) (t c.args.watch.now) in
    let at = g.met.M.Memory.stays m seat.own first here (works c.args.tally.now.made c.args.tally.now.exchanged) l in
    exit_by (λ (r : Result ℕ Stop). CameBy led first refused (g.M.Memory.over m) seat.place c.step.new.own (t c.step.new.watch) c.args.tally.now Any
    (λ word. went_row s code seat 0 word row) (λ word. c.args.mark) r) _ _ c.from_residual.ensures.1
    (stops_after led refused (g.M.Memory.over m) first s code seat row c.args.own.now c.step.new.own (t c.args.watch.now) (t c.step.new.watch) c.args.tally.now
    (one (IsWithin seat row) c.args.want) c.in_err-word.field-0.0 (λ y z k n most a b e. g.met.M.Memory.stopped m seat.own first y z k n most a b e) l
    (c.in_err-word.ensures (IsWithin seat row) at (to_make s seat row c.args.want c.args.mark c.requires.seat c.requires.step next)))

pub returns-clause-came : goal.returns-clause-came
returns-clause-came g c = λ first row next l.
    let m = c.args.memory.now in
    let s = g.M.Memory.shape m in
    let code = g.M.Memory.code m in
    let seat = c.args.seat.now in
    let t = g.W.Watch.told in
    let led = g.M.Memory.led m seat.own in
    let before = c.args.tally.now in
    let here = spot c.args.own.now (IsWithin seat row) (t c.args.watch.now) in
    let there = spot c.step.new.own (went_row s code seat 0 c.in_ok-word.word row) (t c.step.new.watch) in
    let at = g.met.M.Memory.stays m seat.own first here (works before.made before.exchanged) l in
    let came = c.in_ok-word.ensures (IsWithin seat row) at (to_make s seat row c.args.want c.args.mark c.requires.seat c.requires.step next) in
    let one_more = subst (λ (k : Counts). led here there k) (one_works s seat row c.args.want c.args.mark c.requires.seat.1 next) came in
    let all = g.met.M.Memory.on m seat.own first here there (works before.made before.exchanged) (settles 1 (is_exchange c.args.want) c.args.mark) l one_more in
    let so = subst (λ (k : Counts). led first there k) (settles_after before.made before.exchanged (is_exchange c.args.want) c.args.mark) all in
    (tt, subst (λ (tally : Tally). led first there (settles tally.made tally.exchanged c.args.mark)) (sym c.counted.ensures) so)
