use Rattle.std.proofs.Common.{Some, ap, refl, subst}
use Rattle.ppm_ports.specs.Memory.{SinkState, SourceState}
use Rattle.ppm_driver.specs.Headline.{Headline}
use Rattle.ppm_calls.proofs.RecordsLemmas.{records_are, shown}
use Rattle.ppm_calls.proofs.recording.record_run.Goals as goal

-- the headline of the run, over ports in memory
pub returns-clause-records : goal.returns-clause-records
returns-clause-records g c ended =
    records_are c.args.options c.requires.options.0.1 c.args.plan.now c.args.source.items c.run_command-status.new.out.bytes
    c.run_command-status.new.watch.items _ (ap (λ (s : SourceState). Some s.rest) c.new-source.ensures)
    (ap (λ (s : SinkState). Some s.bytes) c.in_ok-out.ensures) refl (ap shown c.in_ok-watch.ensures) refl c.run_command-status.ensures.watchers
    (subst (Headline c.args.options c.args.options.processors c.args.plan.now _) ended c.run_command-status.ensures.rows.headline)

-- its rows, over the same ports
pub returns-clause-rows : goal.returns-clause-rows
returns-clause-rows g c = record {
  outside = _;
  had = ap (λ (s : SourceState). Some s.rest) c.new-source.ensures;
  began = ap (λ (s : SinkState). Some s.bytes) c.in_ok-out.ensures;
  stands = refl;
  untold = ap shown c.in_ok-watch.ensures;
  told = refl;
  rows = c.run_command-status.ensures.rows;
}
