use Rattle.std.proofs.Common.{◌≡◌, ◌∙◌, ◌+◌, ◌&&◌, ℕ, to_z, of_z, sym, ap}
use Rattle.std.specs.Prelude.{ℤ, pos}
use Rattle.std.specs.Int.{w64}
use Rattle.std.specs.List.{prefix_len}
use Rattle.std.proofs.lemmas.Int.{to_z-of_z}
use Rattle.ppm_pieces.specs.Numbers.{is_empty}
use Rattle.ppm_case.specs.Text.{same_value, row}
use Rattle.ppm_case.proofs.RowLemmas.{no_row, one_row}
use Rattle.ppm_case.proofs.row.front_row.Goals as goal

-- zeros alone
pub returns-then-is_last_zero-clause-rows : goal.returns-then-is_last_zero-clause-rows
returns-then-is_last_zero-clause-rows c =
    let same : to_z w64 (of_z w64 c.args.value) ≡ c.args.value = to_z-of_z w64 c.args.value c.ranges.value in
    no_row c.args.value c.args.rest.now c.behind-left.result.now c.front_len-more.result
    (c.front_len-more.ensures.len ∙ ap (λ (z : ℤ). prefix_len (λ v. same_value v z) c.args.rest.now) same) c.behind-left.ensures
    (sym (c.is_last_zero.ensures ∙ ap (λ (z : ℤ). same_value z (pos 0) && is_empty c.behind-left.result.now) same) ∙ c.if-is_last_zero.true)

-- a row
pub returns-clause-rows : goal.returns-clause-rows
returns-clause-rows c =
    let same : to_z w64 (of_z w64 c.args.value) ≡ c.args.value = to_z-of_z w64 c.args.value c.ranges.value in
    one_row c.args.value c.args.rest.now c.behind-left.result.now c.front_len-more.result
    (c.front_len-more.ensures.len ∙ ap (λ (z : ℤ). prefix_len (λ v. same_value v z) c.args.rest.now) same) c.behind-left.ensures
    c.row_of.result (c.row_of.ensures ∙ ap (λ (z : ℤ). row z (1 + c.front_len-more.result)) same)
    (sym (c.is_last_zero.ensures ∙ ap (λ (z : ℤ). same_value z (pos 0) && is_empty c.behind-left.result.now) same) ∙ c.if-is_last_zero.false)
