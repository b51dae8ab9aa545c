-- The arrays of a case are within the limits of inputs.
use Rattle.std.proofs.Common.{◌≡◌, ◌≤◌, ◌<◌, ℕ, ◌+◌, ◌-◌, Bool, true, false, ◌&&◌, ◌||◌, List, [], ◌∷◌, ◌++◌, length, map, Option, Some, None, refl, sym, ap, ◌∙◌, subst, arith, lit≤}
use Rattle.std.specs.Prelude.{ℤ, pos}
use Rattle.std.specs.List.{sum}
use Rattle.std.proofs.lemmas.Bool.{leb-true, leb-false, ltb-false}
use Rattle.std.proofs.lemmas.List.{append_assoc, append-nil, length-append, length-replicate, map-append}
use Rattle.std.proofs.lemmas.List.Sums.{sum_by_push, sum-map}
use Rattle.std.specs.Prelude.{replicate}
use Rattle.ppm_words.specs.Inputs.{IsInput, value_count}
use Rattle.ppm_words.specs.Limits.{array_limit, word_limit}
use Rattle.ppm_words.specs.declared.named_array.NamedArray.{NamedArray}
use Rattle.ppm_code.specs.declared.code.CodeParts.{CodeParts}
use Rattle.ppm_pieces.specs.Numbers.{value}
use Rattle.ppm_case.specs.Case.{IsCaseOf}
use Rattle.ppm_case.specs.Rules.{Follows, AllFollow, said_fits, times_of, values_fit}
use Rattle.ppm_case.specs.Spelling.{Written, array_of, filled, number_values, run_in, run_values, values_in}
use Rattle.ppm_case.specs.declared.run.Run.{Run}

-- what holds of both, and of neither
both : (a b : Bool) → (a && b) ≡ true → (a ≡ true) × (b ≡ true)
both true b e = (refl, e)
both false b e = absurd (no e)
  where
    no : false ≡ true → ⊥
    no k = cc

neither : (a b : Bool) → (a || b) ≡ false → (a ≡ false) × (b ≡ false)
neither false b e = (refl, e)
neither true b e = absurd (no e)
  where
    no : true ≡ false → ⊥
    no k = cc

-- a word stands for no more values than it says, and says no more than there is room for
few_numbers : (times : ℕ) (number : Option ℤ) → length (number_values times number) ≤ times
few_numbers times None = omega arith
few_numbers times (Some z) = omega (arith, length-replicate times z)

few_values : (r : Option Run) → length (run_values r) ≤ times_of r
few_values None = omega arith
few_values (Some r) = few_numbers r.times r.number

times_fit : (room : ℕ) (r : Option Run) → said_fits room r ≡ true → times_of r ≤ room
times_fit room None e = omega arith
times_fit room (Some r) e = leb-true r.times room (both _ _ (both _ _ e).1).1

values_few : (room : ℕ) (ws : List (List ℕ)) → values_fit room ws ≡ true → length (values_in ws) ≤ room
values_few room [] e = omega arith
values_few room (w ∷ ws) e =
    let parts = both (said_fits room (run_in w)) (values_fit (room - times_of (run_in w)) ws) e in
    let few = few_values (run_in w) in
    let within = times_fit room (run_in w) parts.0 in
    let rest = values_few (room - times_of (run_in w)) ws parts.1 in
    omega (arith, length-append (run_values (run_in w)) (values_in ws), few, within, rest)

-- an array has as many values as its length says
filled_length : (len : ℕ) (zs : List ℤ) → length zs ≤ len → length (filled len zs) ≡ len
filled_length len zs few = omega (arith, length-append zs (replicate (len - length zs) (pos 0)), length-replicate (len - length zs) (pos 0), few)

array_length : (arrays : List NamedArray) (a : Written) → Follows arrays a → length (array_of a).values ≡ value a.len
array_length arrays a h = filled_length (value a.len) (values_in a.values) (values_few (value a.len) a.values (both _ _ h.range).1)

-- the limits hold with one array more
one_more : (arrays : List NamedArray) (a : Written) → IsInput arrays → Follows arrays a → IsInput (arrays ++ array_of a ∷ [])
one_more arrays a is h =
    let parts = neither _ _ h.within in
    let few : length arrays < array_limit = leb-false array_limit (length arrays) parts.0 in
    let within = ltb-false word_limit (value_count arrays + value a.len) parts.1 in
    let long = array_length arrays a h in
    let counted : value_count (arrays ++ array_of a ∷ []) ≡ value_count arrays + length (array_of a).values =
    sum-map (λ (x : NamedArray). length x.values) (arrays ++ array_of a ∷ [])
    ∙ sum_by_push (λ (x : NamedArray). length x.values) arrays (array_of a)
    ∙ ap (λ (n : ℕ). n + length (array_of a).values) (sym (sum-map (λ (x : NamedArray). length x.values) arrays)) in
    record {
      arrays_bound = omega (arith, length-append arrays (array_of a ∷ []), few);
      values_bound = omega (arith, counted, within, long);
    }

all_more : (more : List Written) (arrays : List NamedArray) → IsInput arrays → AllFollow arrays more → IsInput (arrays ++ map array_of more)
all_more [] arrays is h = subst IsInput (sym (append-nil arrays)) is
all_more (a ∷ more) arrays is h =
    subst IsInput (append_assoc arrays (array_of a ∷ []) (map array_of more))
    (all_more more (arrays ++ array_of a ∷ []) (one_more arrays a is h.0) h.1)

none : IsInput []
none = record { arrays_bound = lit≤ tt; values_bound = lit≤ tt }

-- and so they hold of all of a case
pub case_input : (text : List ℕ) (code : CodeParts) (input : List NamedArray) → IsCaseOf text code input → IsInput input
case_input text code input is = subst IsInput (sym is.arrays) (all_more is.front.arrays [] none is.front.follow)
