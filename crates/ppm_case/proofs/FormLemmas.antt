-- The words of an array that has its form are such, and by them the array is found again.
use Rattle.std.proofs.Common.{◌≡◌, ◌∙◌, ℕ, ◌-◌, ◌==◌, Bool, true, false, not, ◌&&◌, ◌||◌, nat_le, nat_lt, cond, is_none, is_some, List, [], ◌∷◌, ◌++◌, length, Option, Some, None, refl, sym, ap, subst, append_assoc}
use Rattle.std.specs.List.{list_all, flat_map, AllByRecursion}
use Rattle.std.specs.Str.{bytes_eq}
use Rattle.std.specs.Cmp.Derive.{both_true}
use Rattle.std.specs.Option.{option_map}
use Rattle.std.specs.Prelude.{ℤ}
use Rattle.std.proofs.lemmas.Bool.{both_ways, and_parts, and_from, cond-true, eqb-true, ltb-true}
use Rattle.std.proofs.lemmas.List.Elements.{All-from_recursion}
use Rattle.ppm_words.specs.Limits.{name_limit}
use Rattle.ppm_words.specs.Names.{IsName, is_letter, is_name_byte}
use Rattle.ppm_pieces.specs.Numbers.{is_digit, is_numeral, value}
use Rattle.ppm_pieces.specs.Pieces.{split, halves_of}
use Rattle.ppm_pieces.proofs.NumberLemmas.{numeral_parts}
use Rattle.ppm_text.specs.Spelling.{keyword_of}
use Rattle.ppm_case.specs.declared.run.Run.{Run}
use Rattle.ppm_case.specs.Spelling.{spaced, joined, array_word, Written, array_text, array_line, below_zero, from_zero, negative_in, natural_in, number_in}
use Rattle.ppm_case.specs.Spelling.{run_of, run_between, run_in, is_name, is_array_name, has_form}
use Rattle.ppm_case.proofs.OptionLemmas.{not_both, or_left, or_right}
use Rattle.ppm_case.proofs.WordLemmas.{halves_at, halves_off, halves_back, split_joined, joined_split, joined_text, is_piece, is_text, all_wider, all_append}

-- the bytes of numerals
digit_piece : (b : ℕ) → is_digit b ≡ true → is_piece b ≡ true
digit_piece b h = or_left (is_name_byte b) (b == 45 || b == 42) (or_right (is_letter b) (is_digit b) h)

pub numeral_pieces : (ds : List ℕ) → is_numeral ds ≡ true → list_all is_piece ds ≡ true
numeral_pieces ds h = all_wider is_digit is_piece digit_piece ds (numeral_parts ds h).0

-- of numbers
number_pieces : (w : List ℕ) → is_some (number_in w) ≡ true → list_all is_piece w ≡ true
number_pieces [] h = refl
number_pieces (b ∷ bs) h = by (b == 45) refl h
  where
    minus : (test : Bool) → (is_numeral bs && not (value bs == 0)) ≡ test → is_some (cond test (Some (below_zero (value bs))) None) ≡ true
        → list_all is_piece bs ≡ true
    minus true e h = numeral_pieces bs (and_parts (is_numeral bs) (not (value bs == 0)) e).0
    minus false e h = absurd (both_ways false refl h)

    plain : (test : Bool) → is_numeral (b ∷ bs) ≡ test → is_some (cond test (Some (from_zero (value (b ∷ bs)))) None) ≡ true
        → list_all is_piece (b ∷ bs) ≡ true
    plain true e h = numeral_pieces (b ∷ bs) e
    plain false e h = absurd (both_ways false refl h)

    by : (test : Bool) → (b == 45) ≡ test → is_some (cond test (negative_in bs) (natural_in (b ∷ bs))) ≡ true → list_all is_piece (b ∷ bs) ≡ true
    by true e h =
        both_true (ap (λ (n : ℕ). is_piece n) (eqb-true b 45 e)) (minus (is_numeral bs && not (value bs == 0)) refl h)
    by false e h = plain (is_numeral (b ∷ bs)) refl h

mapped : (times : ℕ) (o : Option (Option ℤ)) → is_some (option_map (run_of times) o) ≡ true → is_some o ≡ true
mapped times None h = h
mapped times (Some z) h = refl

-- of words of values
pub run_pieces : (w : List ℕ) → is_some (run_in w) ≡ true → list_all is_piece w ≡ true
run_pieces w h = by (halves_of 42 w) refl h
  where
    starred : (x y : List ℕ) → w ≡ x ++ 42 ∷ y → (test : Bool) → is_numeral y ≡ test
        → is_some (cond test (option_map (run_of (value y)) (number_in x)) None) ≡ true → list_all is_piece w ≡ true
    starred x y cut true e h =
        ap (λ (l : List ℕ). list_all is_piece l) cut
        ∙ all_append is_piece x (42 ∷ y) (number_pieces x (mapped (value y) (number_in x) h)) (both_true refl (numeral_pieces y e))
    starred x y cut false e h = absurd (both_ways false refl h)

    by : (o : Option (List ℕ × List ℕ)) → halves_of 42 w ≡ o → is_some (run_between w o) ≡ true → list_all is_piece w ≡ true
    by None e h = number_pieces w (mapped 1 (number_in w) h)
    by (Some (x, y)) e h = starred x y (halves_back 42 w x y e) (is_numeral y) refl h

values_pieces : (ws : List (List ℕ)) → list_all (λ w. is_some (run_in w)) ws ≡ true → list_all (λ w. list_all is_piece w) ws ≡ true
values_pieces [] h = refl
values_pieces (w ∷ ws) h =
    let k = and_parts (is_some (run_in w)) (list_all (λ v. is_some (run_in v)) ws) h in
    both_true (run_pieces w k.0) (values_pieces ws k.1)

-- and of names
name_pieces : (name : List ℕ) → is_name name ≡ true → list_all is_piece name ≡ true
name_pieces [] h = refl
name_pieces (b ∷ bs) h =
    let k = and_parts (is_letter b) (list_all is_name_byte bs && nat_lt (length bs) name_limit) h in
    let l = and_parts (list_all is_name_byte bs) (nat_lt (length bs) name_limit) k.1 in
    both_true (or_left (is_name_byte b) (b == 45 || b == 42) (or_left (is_letter b) (is_digit b) k.0))
    (all_wider is_name_byte is_piece (λ c t. or_left (is_name_byte c) (c == 45 || c == 42) t) bs l.0)

-- what a name is
all_from : (p : ℕ → Bool) (xs : List ℕ) → list_all p xs ≡ true → AllByRecursion (λ x. p x ≡ true) xs
all_from p [] h = tt
all_from p (x ∷ xs) h = let k = and_parts (p x) (list_all p xs) h in (k.0, all_from p xs k.1)

pub name_back : (name : List ℕ) → is_array_name name ≡ true → IsName name
name_back name h = go name (and_parts (is_name name) (is_none (keyword_of name)) h).0
  where
    go : (name : List ℕ) → is_name name ≡ true → IsName name
    go [] h = both_ways false refl h
    go (b ∷ bs) h =
        let k = and_parts (is_letter b) (list_all is_name_byte bs && nat_lt (length bs) name_limit) h in
        let l = and_parts (list_all is_name_byte bs) (nat_lt (length bs) name_limit) k.1 in
        (k.0, All-from_recursion (λ c. is_name_byte c ≡ true) bs (all_from is_name_byte bs l.0), ltb-true (length bs) name_limit l.1)

-- the parts of the form of an array
pub record Parts (a : Written) : Type 0 where
  pub name : is_array_name a.name ≡ true
  pub len : is_numeral a.len ≡ true
  pub values : list_all (λ w. is_some (run_in w)) a.values ≡ true

pub form_parts : (a : Written) → has_form a ≡ true → Parts a
form_parts a h =
    let k = and_parts (is_array_name a.name) (is_numeral a.len && list_all (λ w. is_some (run_in w)) a.values) h in
    let l = and_parts (is_numeral a.len) (list_all (λ w. is_some (run_in w)) a.values) k.1 in
    record { name = k.0; len = l.0; values = l.1 }

pub form_from : (a : Written) → Parts a → has_form a ≡ true
form_from a k = both_true k.name (both_true k.len k.values)

-- all its words are pieces
pub form_pieces : (a : Written) → has_form a ≡ true → list_all (λ w. list_all is_piece w) (a.name ∷ a.len ∷ a.values) ≡ true
form_pieces a h =
    let k = form_parts a h in
    both_true (name_pieces a.name (and_parts (is_name a.name) (is_none (keyword_of a.name)) k.name).0)
    (both_true (numeral_pieces a.len k.len) (values_pieces a.values k.values))

-- its line is cut into its words
pub words_of_line : (a : Written) → has_form a ≡ true → split 32 (array_text a) ≡ array_word ∷ a.name ∷ a.len ∷ a.values
words_of_line a h = split_joined array_word (a.name ∷ a.len ∷ a.values) refl (form_pieces a h)

-- the line of an array in front of more
pub line_before : (a : Written) (more : List ℕ) → array_line a ++ more ≡ array_text a ++ 10 ∷ more
line_before a more = append_assoc (array_text a) (10 ∷ []) more

-- it ends with the first line feed
pub line_of_text : (a : Written) (more : List ℕ) → has_form a ≡ true → halves_of 10 (array_line a ++ more) ≡ Some (array_text a, more)
line_of_text a more h =
    ap (λ (l : List ℕ). halves_of 10 l) (line_before a more)
    ∙ halves_at is_text 10 refl (array_text a) more (joined_text array_word (a.name ∷ a.len ∷ a.values) refl (form_pieces a h))
