-- Arrays one by one: those in front keep the rules as long as each next one does.
use Rattle.std.proofs.Common.{◌≡◌, ◌∙◌, ℕ, ◌+◌, ◌<◌, ◌≤◌, false, nat_le, nat_lt, List, [], ◌∷◌, ◌++◌, length, map, refl, sym, ap, arith, length-append}
use Rattle.std.specs.List.{AllByRecursion, IsDistinct, sum, sum_by}
use Rattle.std.specs.Str.{bytes_eq}
use Rattle.std.proofs.lemmas.Bool.{or_parts, or_from, leb-false, ltb-false, lt-leb, le-ltb}
use Rattle.std.proofs.lemmas.List.Elements.{All-append, All-from_recursion}
use Rattle.std.proofs.lemmas.List.Sums.{sum-map, sum_by_push, sum_by-append, sum_by-cons}
use Rattle.ppm_words.specs.Limits.{array_limit, word_limit}
use Rattle.ppm_saved.specs.Names.{IsArrayName, AreNames, lengths_of}
use Rattle.ppm_saved.specs.declared.names.NamedLength.{NamedLength}
use Rattle.ppm_saved_reader.specs.Rules.{is_twice, is_past}

-- the words of arrays and one more
pub sum_more : (xs : List NamedLength) (a : NamedLength) → sum (lengths_of (xs ++ a ∷ [])) ≡ sum (lengths_of xs) + a.len
sum_more xs a =
    sum-map (λ (b : NamedLength). b.len) (xs ++ a ∷ []) ∙ sum_by_push (λ (b : NamedLength). b.len) xs a
    ∙ ap (λ n. n + a.len) (sym (sum-map (λ (b : NamedLength). b.len) xs))

-- a name is another one than those of arrays and than that of one more
differs_more : (n : List ℕ) (xs : List NamedLength) (a : NamedLength)
    → AllByRecursion (λ m. bytes_eq n m ≡ false) (map (λ (b : NamedLength). b.name) xs) → bytes_eq n a.name ≡ false
    → AllByRecursion (λ m. bytes_eq n m ≡ false) (map (λ (b : NamedLength). b.name) (xs ++ a ∷ []))
differs_more n [] a h k = (k, tt)
differs_more n (x ∷ xs) a h k = (h.0, differs_more n xs a h.1 k)

distinct_more : (xs : List NamedLength) (a : NamedLength) → IsDistinct bytes_eq (map (λ (b : NamedLength). b.name) xs) → is_twice xs a.name ≡ false
    → IsDistinct bytes_eq (map (λ (b : NamedLength). b.name) (xs ++ a ∷ []))
unfolding IsDistinct
distinct_more [] a h k = (tt, tt)
distinct_more (x ∷ xs) a h k =
    let parts = or_parts (bytes_eq x.name a.name) (is_twice xs a.name) k in
    (differs_more x.name xs a h.0 parts.0, distinct_more xs a h.1 parts.1)

-- within the limits
pub past_parts : (xs : List NamedLength) (len : ℕ) → is_past xs len ≡ false → (length xs < array_limit) × (sum (lengths_of xs) + len ≤ word_limit)
past_parts xs len h =
    let parts = or_parts (nat_le array_limit (length xs)) (nat_lt word_limit (sum (lengths_of xs) + len)) h in
    (leb-false array_limit (length xs) parts.0, ltb-false word_limit (sum (lengths_of xs) + len) parts.1)

pub len_within : (xs : List NamedLength) (len : ℕ) → is_past xs len ≡ false → len ≤ word_limit
len_within xs len h = omega (arith, (past_parts xs len h).1)

-- one more array of a name of its own and within the limits
pub names_more : (xs : List NamedLength) (a : NamedLength) → AreNames xs → IsArrayName a.name → is_twice xs a.name ≡ false → is_past xs a.len ≡ false
    → AreNames (xs ++ a ∷ [])
names_more xs a h name twice past =
    let k = past_parts xs a.len past in
    record {
      most = omega (arith, k.0, length-append xs (a ∷ []));
      names = All-append (λ (b : NamedLength). IsArrayName b.name) xs (a ∷ []) h.names (All-from_recursion (λ (b : NamedLength). IsArrayName b.name) (a ∷ []) (name, tt));
      differ = distinct_more xs a h.differ twice;
      words_most = omega (arith, k.1, sum_more xs a);
    }

pub no_names : AreNames []
unfolding IsDistinct
no_names = record {
  most = omega arith;
  names = All-from_recursion (λ (b : NamedLength). IsArrayName b.name) [] tt;
  differ = tt;
  words_most = omega arith;
}

-- of arrays of which no two have one name, those in front do not have that of a later one
not_differs : (n : List ℕ) (done : List NamedLength) (a : NamedLength) (xs : List NamedLength)
    → AllByRecursion (λ m. bytes_eq n m ≡ false) (map (λ (b : NamedLength). b.name) (done ++ a ∷ xs)) → bytes_eq n a.name ≡ false
not_differs n [] a xs h = h.0
not_differs n (x ∷ done) a xs h = not_differs n done a xs h.1

not_twice : (done : List NamedLength) (a : NamedLength) (xs : List NamedLength) → IsDistinct bytes_eq (map (λ (b : NamedLength). b.name) (done ++ a ∷ xs))
    → is_twice done a.name ≡ false
unfolding IsDistinct
not_twice [] a xs h = refl
not_twice (x ∷ done) a xs h =
    or_from (bytes_eq x.name a.name) (is_twice done a.name) (not_differs x.name done a xs h.0) (not_twice done a xs h.1)

-- the next of some arrays keeps the rules
pub next_keeps : (done : List NamedLength) (a : NamedLength) (xs : List NamedLength) → AreNames (done ++ a ∷ xs)
    → (is_twice done a.name ≡ false) × (is_past done a.len ≡ false)
next_keeps done a xs h =
    let lens : sum (lengths_of (done ++ a ∷ xs)) ≡ sum (lengths_of done) + (a.len + sum_by (λ (b : NamedLength). b.len) xs) =
    sum-map (λ (b : NamedLength). b.len) (done ++ a ∷ xs) ∙ sum_by-append (λ (b : NamedLength). b.len) done (a ∷ xs)
    ∙ (λ i. sym (sum-map (λ (b : NamedLength). b.len) done) i + sum_by-cons (λ (b : NamedLength). b.len) a xs i) in (
      not_twice done a xs h.differ,
      or_from (nat_le array_limit (length done)) (nat_lt word_limit (sum (lengths_of done) + a.len))
          (lt-leb array_limit (length done) (omega (arith, h.most, length-append done (a ∷ xs))))
          (le-ltb word_limit (sum (lengths_of done) + a.len) (omega (arith, h.words_most, lens))),
    )
