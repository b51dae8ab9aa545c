use Rattle.std.proofs.Common.{◌≡◌, ◌+◌, ◌-◌, ◌++◌, [], ◌∷◌, suc, map, length, ap, sym, ◌∙◌, arith}
use Rattle.ppm_tree.specs.Tree.{block_of, procedure_of}
use Rattle.ppm_cut_code.specs.Numbers.{end_of}
use Rattle.ppm_cut_code.specs.Slots.{hidden_slots, hidden_named_slots}
use Rattle.ppm_cut_code.specs.Routines.{Hidden, Sweep}
use Rattle.ppm_cut.proofs.Drafting.{drafts_one, hidden_at, sweep_added}
use Rattle.ppm_cut.proofs.draft.Draft.push_sweep.Goals as goal

pub returns-clause-drafts : goal.returns-clause-drafts
returns-clause-drafts c = λ part index names e.
    let block = block_of c.args.block.now in
    let count : c.len-names.result - 2 ≡ length names = omega (arith, c.len-names.ensures, ap length e) in
    let slots = c.hidden_slots-slots.ensures.value ∙ ap (λ n. hidden_slots n block) count in
    let spare = c.hidden_named_slots.ensures.value ∙ ap (λ n. hidden_named_slots n block) count in
    let entry = c.args.self.now.next in
    let third : entry + 3 ≡ suc (suc (suc entry)) = omega arith in
    let number : c.len-number.result ≡ length c.args.self.now.procedures.items = omega (arith, c.len-number.ensures) in
    let after : c.len-number.result + 1 ≡ suc c.len-number.result = omega arith in
    let ended = c.end_of.ensures.value ∙ ap (end_of block) third in
    let past : c.end_of.result + 1 ≡ suc (end_of block (suc (suc (suc entry)))) = omega (arith, ended) in
    let sweep : Sweep = record { number = c.len-number.result; line = c.args.region.now.line; part = part; index = index; names = names; block = block } in
    hidden_at (map procedure_of c.args.callees.now) c.len-number.result _ c.args.region.now.line part index names block c.args.self.now _ number
    (drafts_one (map procedure_of c.args.callees.now) (Hidden sweep) c.args.self.now _
    (c.in_ok-push.ensures.items ∙ ap (λ n. c.args.self.now.procedures.items ++ record { slots = n; entry = c.args.self.now.next } ∷ []) slots)
    (sweep_added (map procedure_of c.args.callees.now) sweep _ entry _ _ _ _ _ _ _ _ _ (sym number) count slots spare e third after
    c.in_ok-entry_capsule.ensures c.in_ok-halving.ensures c.in_ok-finish_capsule.ensures
    c.in_ok-push_capsule.ensures c.in_ok-push_capsule-2.ensures c.in_ok-push_capsule-3.ensures c.in_ok-push_block.ensures.code)
    past)
