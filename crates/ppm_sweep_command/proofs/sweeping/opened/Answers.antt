use Rattle.std.proofs.Common.{◌<◌, sym, subst}
use Rattle.ppm_code.specs.declared.code.CodeParts.{CodeParts}
use Rattle.ppm_core.specs.Machine.{seen}
use Rattle.ppm_depth.specs.Start.{NamesArrays}
use Rattle.ppm_loading.specs.Loading.{OpensRun}
use Rattle.ppm_loading.specs.declared.loading.Sizes.{Sizes}
use Rattle.ppm_outcomes.specs.Replays.{sizes_of}
use Rattle.ppm_sweep_command.specs.Sweeps.{replay_options}
use Rattle.ppm_sweep_command.proofs.SweepingLemmas.{swept_sizes}
use Rattle.ppm_sweep_command.proofs.sweeping.opened.Goals as goal

-- the options say sizes of a machine, with the keeper among its processors
pub load_code-requires-clause-sizes : goal.load_code-requires-clause-sizes
load_code-requires-clause-sizes c = swept_sizes c.args.options c.args.takeover c.requires.options c.sizes_of.result c.sizes_of.ensures

pub load_code-requires-clause-keeper : goal.load_code-requires-clause-keeper
load_code-requires-clause-keeper c = subst (λ (s : Sizes). c.args.keeper < s.processors) (sym c.sizes_of.ensures) c.requires.keeper

-- the copy is the code
pub load_code-requires-clause-names : goal.load_code-requires-clause-names
load_code-requires-clause-names c = subst (λ (k : CodeParts). NamesArrays k c.args.input.now) (sym c.in_ok-copy.ensures) c.requires.names

pub returns : goal.returns
returns c =
    subst (λ (k : CodeParts). OpensRun (sizes_of (replay_options c.args.options c.args.takeover)) k c.args.input.now c.args.keeper
    (seen c.in_ok-machine.machine)) c.in_ok-copy.ensures
    (subst (λ (s : Sizes). OpensRun s c.in_ok-copy.copy c.args.input.now c.args.keeper (seen c.in_ok-machine.machine)) c.sizes_of.ensures
    c.in_ok-machine.ensures)
