-- The row of a part that a token begins, found row by row.
use Rattle.std.proofs.Common.{◌≡◌, ℕ, ◌+◌, ◌-◌, ◌*◌, ◌<◌, Bool, true, false, List, [], ◌∷◌, length, map, refl, sym, ◌∙◌, ap, subst, arith}
use Rattle.std.specs.Prelude.{◌||◌}
use Rattle.ppm_grammar.specs.Rows.{In, first, later, Take, Part}
use Rattle.ppm_grammar.specs.Predictive.{some, may_be_empty, can_start, starts, IsPredictive}
use Rattle.ppm_grammar.proofs.ListLemmas.{or_left, number_below}
use Rattle.ppm_rows.specs.Kinds.{Terminal}
use Rattle.ppm_rows.specs.Phrases.{Phrase, phrases, all_phrases, phrase_number}
use Rattle.ppm_rows.specs.Language.{Form, language}
use Rattle.ppm_rows.specs.Follow.{may_follow}
use Rattle.ppm_rows.proofs.OneAnswer.{is_predictive_language}
use Rattle.ppm_expected.specs.Language.{Piece, rows_of, rows_in}
use Rattle.ppm_expected.specs.declared.row.Row.{Row}
use Rattle.ppm_expected.specs.Steps.{BeginsRow}

-- the language's grammar passes the test
pub predictive : IsPredictive language may_follow
predictive = is_predictive_language

-- some element of a mapped list
some_map : {A B : Type 0} (p : B → Bool) (f : A → B) (xs : List A) → some p (map f xs) ≡ some (λ x. p (f x)) xs
some_map p f [] = refl
some_map p f (x ∷ xs) = ap (λ q. p (f x) || q) (some_map p f xs)

-- the row of which these are the items
record ItemsOf (rows : List Form) (items : List Piece) : Type 0 where
  row : Form
  within : In row rows
  is : row.items ≡ items

-- the first of a list, or a later one
same_or_later : {A : Type 0} {x y : A} {ys : List A} {B : Type 0} → In x (y ∷ ys) → (y ≡ x → B) → (In x ys → B) → B
same_or_later first a b = a refl
same_or_later (later i) a b = b i

-- items of rows are those of one row
row_with : (rows : List Form) (items : List Piece) → In items (map (λ row. row.items) rows) → ItemsOf rows items
row_with [] items i = elim i [ ]
row_with (row ∷ rows) items i =
    same_or_later i (λ is. record { row = row; within = first; is = is })
    (λ j. let r = row_with rows items j in record { row = r.row; within = later r.within; is = r.is })

-- one of the rows that are left is the one that comes, if one does
pub record RowsLeft (n : Phrase) (k : Terminal) (left : List (List Piece)) : Type 0 where
  pub same : some (λ items. can_start language (starts language) items k) left ≡ starts language n k
  pub within : (items : List Piece) → In items left → In items (rows_in n)

-- at first all rows are
pub all_left : (n : Phrase) (k : Terminal) → RowsLeft n k (rows_in n)
all_left n k = record {
  same = some_map (λ items. can_start language (starts language) items k) (λ row. row.items) (language.rows n) ∙ sym (predictive.starts_is n k);
  within = λ items i. i;
}

-- at first the rows that are left are those of the part
pub first_row : {n : Phrase} {k : Terminal} {rows : List (List Piece)} → rows ≡ rows_in n → RowsLeft n k rows
first_row {n = n} {k = k} is = subst (RowsLeft n k) (sym is) (all_left n k)

-- where none is left the part cannot begin so
pub none_left : {n : Phrase} {k : Terminal} {left : List (List Piece)} → left ≡ [] → RowsLeft n k left → false ≡ starts language n k
none_left {k = k} is r = ap (some (λ items. can_start language (starts language) items k)) (sym is) ∙ r.same

-- a row that cannot begin so is left out
pub one_less : {n : Phrase} {k : Terminal} {items : List Piece} {left : List (List Piece)} → RowsLeft n k (items ∷ left) →
    can_start language (starts language) items k ≡ false → RowsLeft n k left
one_less {k = k} {left = left} r other = record {
  same = ap (λ q. q || some (λ items. can_start language (starts language) items k) left) (sym other) ∙ r.same;
  within = λ items i. r.within items (later i);
}

-- a row that can is the one
pub the_row : {n : Phrase} {k : Terminal} {items : List Piece} {left : List (List Piece)} → RowsLeft n k (items ∷ left) →
    can_start language (starts language) items k ≡ true → BeginsRow n k items
the_row {n = n} {items = items} r can =
    let s = row_with (language.rows n) items (r.within items first) in record { row = s.row; within = s.within; is = s.is; can = can }

-- a part can begin as one of its rows can
pub part_begins : {n : Phrase} {k : Terminal} {items : List Piece} {left : List (List Piece)} → RowsLeft n k (items ∷ left) →
    can_start language (starts language) items k ≡ true → true ≡ starts language n k
part_begins r can = sym (or_left _ _ can) ∙ r.same

-- how many parts are listed from this one on
abbrev pub height : Phrase → ℕ
height n = length all_phrases - phrase_number n

-- a measure: a part is above those that its rows begin with
abbrev pub rank : Piece → ℕ
rank (Take x) = 0
rank (Part n) = 3 * height n + 1

abbrev pub rank_row : List Piece → ℕ
rank_row [] = 0
rank_row (x ∷ xs) = rank x + 1

-- the first item of each row is below its part
pub row_below : (n : Phrase) (items : List Piece) → In items (rows_in n) → rank_row items < 3 * height n
row_below n items i = go items (row_with (language.rows n) items i)
  where
    few : phrase_number n < length all_phrases
    few = number_below phrases n

    go : (items : List Piece) → ItemsOf (language.rows n) items → rank_row items < 3 * height n
    go [] r = omega (arith, few)
    go (Take x ∷ xs) r = omega (arith, few)
    go (Part m ∷ xs) r = let below = (predictive.solid n m r.row xs r.within r.is).1 in omega (arith, few, below)

-- also with the next that is left
pub next_below : (n : Phrase) {k : Terminal} {items : List Piece} {left : List (List Piece)} → RowsLeft n k (items ∷ left) →
    rank_row items < 3 * height n
next_below n {items = items} r = row_below n items (r.within items first)

-- a row is in the list with its items
with_row : {row : Form} {rows : List Form} {items : List Piece} → In row rows → row.items ≡ items → In items (map (λ row. row.items) rows)
with_row (first {xs = rows}) is = rw (← is) first
with_row (later i) is = later (with_row i is)

-- the first item of a row is below its part
pub first_below : (n : Phrase) {k : Terminal} {x : Piece} {xs : List Piece} → BeginsRow n k (x ∷ xs) → rank x < 3 * height n
first_below n {x = x} {xs = xs} b = omega (arith, row_below n (x ∷ xs) (with_row b.within b.is))

-- no rows are left
pub no_rows : (left : List Row) → length left ≡ 0 → rows_of left ≡ []
no_rows [] h = refl
no_rows (row ∷ rows) h = absurd (omega (arith, h))

-- the list has no elements
abbrev pub is_nil : {A : Type 0} → List A → Bool
is_nil xs = elim xs [ [] ↦ true | x ∷ ys ↦ false ]

-- a part may be empty where some row has no items
pub empty_of : (n : Phrase) → some is_nil (rows_in n) ≡ may_be_empty language n
empty_of n = some_map is_nil (λ row. row.items) (language.rows n)
