-- A run begins in the frame of `main`, with the arrays of the program.
use Rattle.std.proofs.Common.{subst, refl, ℕ}
use Rattle.ppm_tree.specs.Tree.{tree_of}
use Rattle.ppm_serial.specs.Entry.{IsMainFrame}
use Rattle.ppm_serial.proofs.EntryLemmas.{main_frame_is}
use Rattle.ppm_serial.proofs.interpret.begin.Goals as goal

pub returns : goal.returns
returns c laid =
    let q = main_frame_is (tree_of c.args.tree.now) c.args.tree.now.procedures c.args.code.now c.in_ok-frame.frame refl laid
    (subst (λ (k : ℕ). IsMainFrame c.args.code.now (tree_of c.args.tree.now) c.args.tree.now.procedures k c.in_ok-frame.frame) c.main.ensures c.in_ok-frame.ensures) in
    record { starts = record { frame = q.0; fits = q.1; store = c.in_ok-store.ensures; stack = c.new.ensures; running = refl }; left = refl }
