use Rattle.std.proofs.Common.{◌≡◌, arith, length, map, codes, ap, sym, subst, ◌∙◌}
use Rattle.std.proofs.lemmas.List.{length-map}
use Rattle.ppm_tree.specs.Tree.{procedure_of, tree_of}
use Rattle.ppm_tree.specs.State.{procedure_named}
use Rattle.ppm_tree.specs.Program.{whole_from}
use Rattle.ppm_cut_code.specs.Statements.{number_of}
use Rattle.ppm_cut_code.specs.Routines.{texts_from, hidden_from}
use Rattle.ppm_cut.specs.Drafts.{Drafts}
use Rattle.ppm_cut.proofs.Drafting.{drafts_count}
use Rattle.ppm_cut.proofs.Texts.{texts_length, parts_are}
use Rattle.ppm_cut.proofs.cutting.parts_of.Goals as goal

pub push_hiddens-requires-clause-number : goal.push_hiddens-requires-clause-number
push_hiddens-requires-clause-number c =
    let ps = map procedure_of c.as_slice-procedures.result.now in
    let many = length c.as_slice-procedures.result.now in
    let count = drafts_count (map procedure_of c.in_ok-callees.callees) (texts_from many ps) c.new-draft.result c.push_texts.new.draft c.in_ok-push_texts.ensures.drafts in
    let none = ap length c.new-draft.ensures.procedures in
    let texts = texts_length many ps in
    let same = length-map c.as_slice-procedures.result.now procedure_of in
    omega (arith, count, none, texts, same)

pub returns : goal.returns
returns c =
    let t = tree_of c.args.tree.now in
    let n = length t.procedures in
    let ps = c.in_ok-callees.ensures ∙ c.as_slice-procedures.ensures in
    let few = sym (length-map c.args.tree.now.procedures procedure_of) in
    let slice = c.as_slice-procedures.ensures in
    let texts_are : texts_from (length c.as_slice-procedures.result.now) (map procedure_of c.as_slice-procedures.result.now) ≡ texts_from n t.procedures
    = λ i. texts_from ((ap length slice ∙ few) i) (map procedure_of (slice i)) in
    let hidden_are : hidden_from (length c.as_slice-procedures.result.now) (map procedure_of c.as_slice-procedures.result.now) ≡ hidden_from n t.procedures
    = λ i. hidden_from ((ap length slice ∙ few) i) (map procedure_of (slice i)) in
    let texts = subst (λ rs. Drafts t.procedures rs c.new-draft.result c.push_texts.new.draft) texts_are
    (subst (λ l. Drafts (map procedure_of l) (texts_from (length c.as_slice-procedures.result.now) (map procedure_of c.as_slice-procedures.result.now))
    c.new-draft.result c.push_texts.new.draft) ps c.in_ok-push_texts.ensures.drafts) in
    let hidden = subst (λ rs. Drafts t.procedures rs c.push_texts.new.draft c.push_hiddens.new.draft) hidden_are
    (subst (λ l. Drafts (map procedure_of l) (hidden_from (length c.as_slice-procedures.result.now) (map procedure_of c.as_slice-procedures.result.now))
    c.push_texts.new.draft c.push_hiddens.new.draft) ps c.in_ok-push_hiddens.ensures.drafts) in
    let root = c.find-root.ensures.number ∙ ap (λ l. number_of (map procedure_of l) (codes "main")) ps in
    let parameters = c.find-root.ensures.parameters ∙ ap (λ l. (procedure_named (map procedure_of l) (codes "main")).parameters) ps in
    let arrays = c.in_ok-arrays.ensures ∙ (λ i. map (λ p. (whole_from 0 (c.as_slice.ensures i) p.name.name).array) (parameters i)) in
    (λ i. record { root = c.find-root.result.number; arrays = c.from_vec.ensures i; procedures = c.from_vec-2.ensures i; capsules = c.from_vec-3.ensures i })
    ∙ parts_are t c.find-root.result.number c.in_ok-arrays.arrays.items c.new-draft.result c.push_texts.new.draft c.push_hiddens.new.draft
    c.new-draft.ensures.procedures c.new-draft.ensures.capsules c.new-draft.ensures.next texts hidden root arrays
