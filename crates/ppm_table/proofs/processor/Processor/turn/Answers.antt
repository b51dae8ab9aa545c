use Rattle.std.proofs.Common.{◌≡◌, ◌≢◌, ◌∙◌, true, false, sym, ap}
use Rattle.ppm_step.specs.Locals.{standing_of}
use Rattle.ppm_step.specs.Standings.{IsDone}
use Rattle.ppm_step.specs.State.{is_done_at}
use Rattle.ppm_table.proofs.CountLemmas.{counts_on}
use Rattle.ppm_table.proofs.processor.Processor.turn.Goals as goal

pub returns-clause-of : goal.returns-clause-of
returns-clause-of c =
    let s = c.args.shared.now in
    let e = c.make.ensures in
    let lives : standing_of s.shape s.code c.args.self.now.local ≢ IsDone = λ done.
    let none : true ≡ false = sym (c.is_done.ensures s.shape s.code ∙ ap is_done_at done) ∙ c.if-is_done.false in cc in
    record {
      table = e.of.table;
      holds = e.of.holds;
      stands = e.of.stands;
      counts = counts_on s c.args.self.now c.make.new.self c.args.act c.make.result c.requires.of lives c.requires.may e.own e.acted
          (λ on. e.counts ∙ c.counts_after-self.ensures on);
    }
