-- The procedure is at its place, or there is none and nothing is passed.
use Rattle.std.proofs.Common.{arith, ◌∙◌, sym, ap, map}
use Rattle.ppm_tree.specs.declared.tree.Proc.{Proc}
use Rattle.ppm_tree.specs.Tree.{procedure_of}
use Rattle.ppm_serial.specs.Laying.{place_in}
use Rattle.ppm_serial.proofs.ProgramLemmas.{call_found, call_missing}
use Rattle.ppm_serial.proofs.lay.Scope.call.Goals.{then-callee-self+in_ok-names+in_ok-pass, else-callee-self}
use Rattle.ppm_serial.proofs.lay.Scope.call.Goals as goal

pub returns : goal.returns
returns c has =
    let at = c.place_of-callee.ensures ∙ ap (place_in (map procedure_of c.args.self.now.procedures.now)) c.as_bytes.ensures.value in
    elim c.if-callee-self.branch [
      | then-callee-self+in_ok-names+in_ok-pass w ↦
          call_found c.args.self.now.procedures.now c.args.self.now.names.now c.args.side.now
          (record { target = c.target.result; callee = c.place_of-callee.result; passed = c.if-callee-self.passed }) w.index-self-callee.result w.in_ok-names.names
          w.as_slice-parameters.result.now w.as_slice.result.now c.new-passed.result.items w.pass.new.all.items at (let l = w.if-callee-self.true in omega (arith, l)) w.index-self-callee.is
          (w.as_slice-parameters.ensures ∙ ap (λ (p : Proc). p.parameters) (sym w.index-self-callee.is)) w.in_ok-names.ensures w.as_slice.ensures c.new-passed.ensures.items w.in_ok-pass.ensures (ap (λ v. v.items) w.passed-is) (c.target.ensures has)
      | else-callee-self w ↦
          call_missing c.args.self.now.procedures.now c.args.self.now.names.now c.args.side.now
          (record { target = c.target.result; callee = c.place_of-callee.result; passed = c.if-callee-self.passed }) at (let l = w.if-callee-self.false in omega (arith, l))
          (ap (λ v. v.items) w.passed-is ∙ c.new-passed.ensures.items) (c.target.ensures has)
    ]
