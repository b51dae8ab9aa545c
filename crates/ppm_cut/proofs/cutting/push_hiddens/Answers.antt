use Rattle.std.proofs.Common.{◌+◌, drop, length, map, ap, sym, subst, ◌∙◌, arith}
use Rattle.std.specs.List.{AllByRecursion}
use Rattle.ppm_tree.specs.Tree.{block_of, procedure_of}
use Rattle.ppm_cut_bounds.proofs.Blocks.{ahead}
use Rattle.ppm_cut_code.specs.Layout.{parameter_layout}
use Rattle.ppm_cut_code.specs.Numbers.{hidden_behind_block}
use Rattle.ppm_cut_code.specs.Routines.{hidden_of_block, hidden_from}
use Rattle.ppm_cut.specs.Counts.{own_counts, hidden_count_in, hidden_counts, IsShortProcedure}
use Rattle.ppm_cut.specs.Drafts.{Drafts}
use Rattle.ppm_cut.proofs.Drafting.{number_behind_block}
use Rattle.ppm_cut.proofs.Texts.{Left, fewer_left}
use Rattle.ppm_cut.proofs.cutting.push_hiddens.Goals as goal

pub loop-procedure-preserved : goal.loop-procedure-preserved
loop-procedure-preserved c =
    let i = c.loop-procedure.invariant in
    let p = c.procedure-item.result in
    let e = ahead c.args.procedures.now c.loop-procedure.procedure-index p c.loop-procedure-test.true c.procedure-item.is in
    let behind = map procedure_of (drop (c.loop-procedure.procedure-index + 1) c.args.procedures.now) in
    let all = hidden_from (length c.args.procedures.now) (map procedure_of c.args.procedures.now) in
    let h = c.loop-procedure.hidden in
    let layout = parameter_layout (procedure_of p).parameters in
    let mine = hidden_of_block layout h (procedure_of p).body in
    let callees = map procedure_of c.args.callees.now in
    let new = c.push_hidden_block.new.self in
    let names = c.in_ok-layout.ensures ∙ ap parameter_layout c.as_slice.ensures in
    let drafts = subst (λ b. Drafts callees (hidden_of_block layout h (block_of b)) c.loop-procedure.draft new) c.deref.ensures.value
    (subst (λ l. Drafts callees (hidden_of_block l h (block_of c.deref.result.now)) c.loop-procedure.draft new) names c.in_ok-push_hidden_block.ensures.drafts) in
    let own = ap (λ ps. own_counts (map procedure_of ps)) e in
    let hid = ap (λ ps. hidden_counts (map procedure_of ps)) e in
    let value = c.hidden_behind_block-hidden.ensures.value ∙ ap (λ b. hidden_behind_block (block_of b) h) c.deref-in-loop-procedure.ensures.value in
    let count = ap (λ b. hidden_count_in (block_of b)) c.deref.ensures.value in
    let again = ap (λ b. hidden_count_in (block_of b)) c.deref-in-loop-procedure.ensures.value in
    let left = subst (λ ps. Left callees all (hidden_from h (map procedure_of ps)) c.args.draft.now c.loop-procedure.draft) e i.are in
    record {
      count = number_behind_block callees layout h (procedure_of p).body c.loop-procedure.draft new drafts i.count ∙ sym value;
      next_fits = omega (arith, hid, count, i.next_fits, c.in_ok-push_hidden_block.ensures.next);
      hidden_fits = omega (arith, hid, again, i.hidden_fits, c.hidden_behind_block-hidden.ensures.within);
      own = omega (arith, own, i.own);
      within = omega (arith, hid, i.within);
      short = (subst (AllByRecursion (λ q. IsShortProcedure (procedure_of q))) e i.short).1;
      are = subst (λ n. Left callees all (hidden_from n behind) c.args.draft.now new) (sym value)
          (fewer_left callees all mine (hidden_from (hidden_behind_block (procedure_of p).body h) behind) c.args.draft.now c.loop-procedure.draft new left drafts);
    }
