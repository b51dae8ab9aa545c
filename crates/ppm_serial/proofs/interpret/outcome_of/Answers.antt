-- What a run answers is the program's outcome.
use Rattle.std.proofs.Common.{◌∙◌, subst, sym, ℕ, List, Err}
use Rattle.ppm_words.specs.declared.named_array.NamedArray.{NamedArray}
use Rattle.ppm_words.specs.declared.outcome.Outcome.TheVariants as outcome
use Rattle.ppm_tree.specs.Tree.{tree_of}
use Rattle.ppm_tree.specs.Program.{Serial}
use Rattle.ppm_serial.specs.declared.code.Stop.{Stop}
use Rattle.ppm_serial.specs.declared.code.Stop.TheVariants as stop
use Rattle.ppm_serial.specs.Running.{Answers, EndsWith, TrapsSo}
use Rattle.ppm_serial.proofs.EntryLemmas.{names_are, ended_is, trapped_so, not_within_is}
use Rattle.ppm_serial.proofs.interpret.outcome_of.Goals as goal

pub returns-in-Ok : goal.returns-in-Ok
returns-in-Ok c laid =
    let b = c.in_ok-run.ensures laid in
    subst (λ (a : List NamedArray). Serial (tree_of c.args.tree.now) c.args.turns (outcome.Ended a))
    (sym (c.in_ok-arrays-in-Ok.ensures ∙ names_are c.args.tree.now.inputs c.args.tree.now.arrays c.to_end.new.self.store))
    (ended_is (tree_of c.args.tree.now) c.args.turns c.to_end.new.self.store
    (subst (λ (n : ℕ). EndsWith (tree_of c.args.tree.now) n c.to_end.new.self.store) b.left (c.in-Ok.ensures (tree_of c.args.tree.now) laid b.starts)))

pub returns-in-Err-Trapped : goal.returns-in-Err-Trapped
returns-in-Err-Trapped c laid =
    let b = c.in_ok-run.ensures laid in
    let e = c.in-Err-Trapped in
    trapped_so (tree_of c.args.tree.now) c.args.turns e.trap-is e.line-is
    (subst (λ (n : ℕ). TrapsSo (tree_of c.args.tree.now) n e.trap e.line) b.left
    (subst (λ (s : Stop). Answers {B = Unit {0}} (tree_of c.args.tree.now) c.in_ok-run.run'.left (Err s) c.to_end.new.self.store) e.field-0-is
    (e.ensures (tree_of c.args.tree.now) laid b.starts)))

pub returns-in-Err-NotWithin : goal.returns-in-Err-NotWithin
returns-in-Err-NotWithin c laid =
    let b = c.in_ok-run.ensures laid in
    let e = c.in-Err-NotWithin in
    not_within_is (tree_of c.args.tree.now) c.args.turns
    (subst (λ (n : ℕ). Answers {B = Unit {0}} (tree_of c.args.tree.now) n (Err stop.NotWithin) c.to_end.new.self.store) b.left
    (subst (λ (s : Stop). Answers {B = Unit {0}} (tree_of c.args.tree.now) c.in_ok-run.run'.left (Err s) c.to_end.new.self.store) e.field-0-is
    (e.ensures (tree_of c.args.tree.now) laid b.starts)))
