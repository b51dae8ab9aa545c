use Rattle.std.proofs.Common.{◌+◌, [], ◌∷◌, drop, length, map, ap, sym, subst, ◌∙◌, arith}
use Rattle.std.specs.List.{AllByRecursion}
use Rattle.ppm_tree.specs.Tree.{block_of, procedure_of}
use Rattle.ppm_cut_bounds.proofs.Blocks.{ahead}
use Rattle.ppm_cut_code.specs.Numbers.{hidden_behind_block}
use Rattle.ppm_cut_code.specs.Routines.{OfText, texts_from}
use Rattle.ppm_cut.specs.Counts.{own_counts, hidden_count_in, hidden_counts, IsShortProcedure}
use Rattle.ppm_cut.proofs.Drafting.{drafts_count}
use Rattle.ppm_cut.proofs.Texts.{Left, fewer_left}
use Rattle.ppm_cut.proofs.cutting.push_texts.Goals as goal

pub loop-procedure-preserved : goal.loop-procedure-preserved
loop-procedure-preserved c =
    let i = c.loop-procedure.invariant in
    let p = c.procedure-item.result in
    let e = ahead c.args.procedures.now c.loop-procedure.procedure-index p c.loop-procedure-test.true c.procedure-item.is in
    let behind = map procedure_of (drop (c.loop-procedure.procedure-index + 1) c.args.procedures.now) in
    let all = texts_from (length c.args.procedures.now) (map procedure_of c.args.procedures.now) in
    let mine = OfText (procedure_of p) c.loop-procedure.hidden in
    let callees = map procedure_of c.args.callees.now in
    let drafts = c.in_ok-push_text.ensures.drafts in
    let own = ap (λ ps. own_counts (map procedure_of ps)) e in
    let hid = ap (λ ps. hidden_counts (map procedure_of ps)) e in
    let block = c.deref.ensures.value in
    let value = c.hidden_behind_block-hidden.ensures.value ∙ ap (λ b. hidden_behind_block (block_of b) c.loop-procedure.hidden) block in
    let count = ap (λ b. hidden_count_in (block_of b)) block in
    let left = subst (λ ps. Left callees all (texts_from c.loop-procedure.hidden (map procedure_of ps)) c.args.draft.now c.loop-procedure.draft) e i.are in
    record {
      count = drafts_count callees (mine ∷ []) c.loop-procedure.draft c.push_text.new.self drafts ∙ omega (arith, i.count);
      next_fits = omega (arith, own, i.next_fits, c.in_ok-push_text.ensures.next);
      hidden_fits = omega (arith, hid, count, i.hidden_fits, c.hidden_behind_block-hidden.ensures.within);
      own = omega (arith, own, i.own);
      within = omega (arith, hid, i.within);
      short = (subst (AllByRecursion (λ q. IsShortProcedure (procedure_of q))) e i.short).1;
      are = subst (λ n. Left callees all (texts_from n behind) c.args.draft.now c.push_text.new.self) (sym value)
          (fewer_left callees all (mine ∷ []) (texts_from (hidden_behind_block (procedure_of p).body c.loop-procedure.hidden) behind) c.args.draft.now c.loop-procedure.draft c.push_text.new.self left drafts);
    }
