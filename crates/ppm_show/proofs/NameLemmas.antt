-- The names of a saved state, one more at a time.
use Rattle.std.proofs.Common.{◌≡◌, ◌+◌, ℕ, List, [], ◌∷◌, ◌++◌, map, sym, ap, ◌∙◌, arith}
use Rattle.std.specs.List.{range_with_len}
use Rattle.std.proofs.lemmas.List.FromFn.{map-range_with_len_more}
use Rattle.ppm_naming.specs.declared.names.ProcedureName.{ProcedureName}
use Rattle.ppm_naming.specs.declared.names.ProcedureName.TheVariants.{Numbered}

-- so many numbers, and one more
pub numbers_more : (n : ℕ) (before now : List ProcedureName) → before ≡ map Numbered (range_with_len 0 n) → now ≡ before ++ Numbered n ∷ []
    → now ≡ map Numbered (range_with_len 0 (n + 1))
numbers_more n before now here push =
    let is : 0 + n ≡ n = omega arith in
    push ∙ ap (λ xs. xs ++ Numbered n ∷ []) here ∙ sym (map-range_with_len_more Numbered 0 n n is)
