-- Words that are moved to after the padding.
use Rattle.std.proofs.Common.{◌≡◌, ℕ, ◌+◌, ◌-◌, ◌≤◌, List, [], ◌++◌, length, take, drop, replicate, sym, ap, ap₂, ◌∙◌, arith}
use Rattle.std.specs.List.{copy_within}
use Rattle.std.proofs.lemmas.List.{append_assoc, append-nil, length-append, length-replicate, length-take-le, take_all}
use Rattle.std.proofs.Math.ListN.{drop_of_length-le}
use Rattle.std.proofs.Math.Seq.{drop-append_seam, take-append_seam}
use Rattle.ppm_table.specs.Padding.{padding}

-- zeros are put after the words, and all words are then copied so far up
moved : (words zeros : List ℕ) (n : ℕ) → length zeros ≡ n → drop n (copy_within (words ++ zeros) 0 (length words) n) ≡ words
moved words zeros n long =
    let old : List ℕ = words ++ zeros in
    let both = length-append words zeros in
    let size : length (take n old) ≡ n = length-take-le n old (omega (arith, both, long)) in
    let front : List ℕ = take n old in
    let rest : List ℕ = take (length words - 0) old ++ drop (n + (length words - 0)) old in
    let none : drop (n + (length words - 0)) old ≡ [] = drop_of_length-le old (omega (arith, both, long)) in
    let all : length words - 0 ≡ length words = omega arith in
    ap (drop n) (append_assoc front (take (length words - 0) old) (drop (n + (length words - 0)) old))
    ∙ ap (λ k. drop k (front ++ rest)) (sym size) ∙ drop-append_seam front rest
    ∙ ap₂ (λ k ws. take k old ++ ws) all none ∙ append-nil (take (length words) old) ∙ take-append_seam words zeros

pub moved_behind : (words longer new : List ℕ) (count : ℕ) → count ≡ length words
    → longer ≡ take (count + padding) words ++ replicate (count + padding - length words) 0
    → new ≡ copy_within longer 0 count padding → drop padding new ≡ words
moved_behind words longer new count is a b =
    let few : length words ≤ count + padding = omega (arith, is) in
    let more : count + padding - length words ≡ padding = omega (arith, is) in
    let long = length-replicate {A = ℕ} padding 0 in
    ap (λ ws. drop padding ws) (b ∙ ap (λ ws. copy_within ws 0 count padding)
    (a ∙ ap₂ (λ ws k. ws ++ replicate k 0) (take_all (count + padding) words few) more)
    ∙ ap (λ k. copy_within (words ++ replicate padding 0) 0 k padding) is)
    ∙ moved words (replicate padding 0) padding long
