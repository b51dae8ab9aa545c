-- Reading goes on in one way: two fronts of a text that end somewhere are one, and what is wrong there is one thing.
use Rattle.std.proofs.Common.{◌≡◌, ◌∙◌, ℕ, ◌<◌, ◌≤◌, true, false, List, [], ◌∷◌, ◌++◌, length, map, Some, None, refl, sym, ap, subst, arith, append_assoc}
use Rattle.std.specs.List.{flat_map}
use Rattle.std.proofs.lemmas.Bool.{both_ways}
use Rattle.std.proofs.lemmas.List.{append-nil}
use Rattle.ppm_words.specs.declared.named_array.NamedArray.{NamedArray}
use Rattle.ppm_code.specs.declared.code.CodeParts.{CodeParts}
use Rattle.ppm_pieces.specs.Numbers.{value}
use Rattle.ppm_pieces.specs.Pieces.{split, halves_of}
use Rattle.ppm_listing.specs.Listing.{listing_of}
use Rattle.ppm_listing_reader.specs.Correct.{IsListing}
use Rattle.ppm_case.specs.declared.case_error.InputFault.{InputFault}
use Rattle.ppm_case.specs.Spelling.{array_word, Written, has_form, array_text, array_line, array_of, begins_array}
use Rattle.ppm_case.specs.Rules.{is_in_range, is_named, is_past, Follows, AllFollow}
use Rattle.ppm_case.specs.Case.{Front}
use Rattle.ppm_case.specs.Faults.{IsBadLine, NoForm, PastRange, Again, TooMany}
use Rattle.ppm_case.proofs.OptionLemmas.{some_same}
use Rattle.ppm_case.proofs.FormLemmas.{words_of_line, line_of_text}

-- an array by the words of its line
abbrev made : List (List ℕ) → Written
made (w ∷ n ∷ l ∷ vs) = record { name = n; len = l; values = vs }
made _ = record { name = []; len = []; values = [] }

-- two lines in front of more are one
pub line_one : (a b : Written) (x y : List ℕ) → has_form a ≡ true → has_form b ≡ true → array_line a ++ x ≡ array_line b ++ y → (a ≡ b) × (x ≡ y)
line_one a b x y f g e =
    let halves : (array_text a, x) ≡ (array_text b, y) =
    some_same (sym (line_of_text a x f) ∙ ap (λ (t : List ℕ). halves_of 10 t) e ∙ line_of_text b y g) in
    let texts : array_text a ≡ array_text b = ap (λ (p : List ℕ × List ℕ). p.0) halves in
    let words : array_word ∷ a.name ∷ a.len ∷ a.values ≡ array_word ∷ b.name ∷ b.len ∷ b.values =
    sym (words_of_line a f) ∙ ap (λ (t : List ℕ). split 32 t) texts ∙ words_of_line b g in
    (ap (λ (l : List (List ℕ)). made l) words, ap (λ (p : List ℕ × List ℕ). p.1) halves)

-- no array that may follow stands there
abbrev pub Ends : (arrays : List NamedArray) (rest : List ℕ) → Type 0
Ends arrays rest = (a : Written) (more : List ℕ) → Follows arrays a → rest ≡ array_line a ++ more → ⊥

-- two fronts that end are one
one_front : (before : List NamedArray) (xs ys : List Written) (r s : List ℕ) → AllFollow before xs → AllFollow before ys
    → Ends (before ++ map array_of xs) r → Ends (before ++ map array_of ys) s → flat_map array_line xs ++ r ≡ flat_map array_line ys ++ s
    → (xs ≡ ys) × (r ≡ s)
one_front before [] [] r s h k p q e = (refl, e)
one_front before [] (b ∷ ys) r s h k p q e =
    absurd (subst (λ (l : List NamedArray). Ends l r) (append-nil before) p b (flat_map array_line ys ++ s) k.0
    (e ∙ append_assoc (array_line b) (flat_map array_line ys) s))
one_front before (a ∷ xs) [] r s h k p q e =
    absurd (subst (λ (l : List NamedArray). Ends l s) (append-nil before) q a (flat_map array_line xs ++ r) h.0
    (sym e ∙ append_assoc (array_line a) (flat_map array_line xs) r))
one_front before (a ∷ xs) (b ∷ ys) r s h k p q e =
    let (first, left) = line_one a b (flat_map array_line xs ++ r) (flat_map array_line ys ++ s) h.0.form k.0.form
    (sym (append_assoc (array_line a) (flat_map array_line xs) r) ∙ e ∙ append_assoc (array_line b) (flat_map array_line ys) s) in
    let there = subst (λ (x : Written). AllFollow (before ++ array_of x ∷ []) ys) (sym first) k.1 in
    let end : Ends ((before ++ array_of a ∷ []) ++ map array_of ys) s =
    subst (λ (x : Written). Ends ((before ++ array_of x ∷ []) ++ map array_of ys) s) (sym first)
    (subst (λ (l : List NamedArray). Ends l s) (sym (append_assoc before (array_of b ∷ []) (map array_of ys))) q) in
    let (others, after) = one_front (before ++ array_of a ∷ []) xs ys r s h.1 there
    (subst (λ (l : List NamedArray). Ends l r) (sym (append_assoc before (array_of a ∷ []) (map array_of xs))) p) end left in
    ((λ i. first i ∷ others i), after)

pub same_front : {text : List ℕ} (f g : Front text) → Ends (map array_of f.arrays) f.rest → Ends (map array_of g.arrays) g.rest
    → (f.arrays ≡ g.arrays) × (f.rest ≡ g.rest)
same_front f g p q = one_front [] f.arrays g.arrays f.rest g.rest f.follow g.follow p q (sym f.same ∙ g.same)

-- the line of an array begins as one
pub begins_line : (a : Written) (more : List ℕ) → begins_array (array_line a ++ more) ≡ true
begins_line a more = refl

pub listing_begins : (rest : List ℕ) (code : CodeParts) → IsListing rest code → begins_array rest ≡ false
listing_begins rest code h = ap (λ (t : List ℕ). begins_array t) h.same ∙ refl

-- where no array begins, reading ends
pub other_ends : (arrays : List NamedArray) (rest : List ℕ) → begins_array rest ≡ false → Ends arrays rest
other_ends arrays rest h a more f e = both_ways (begins_array rest) h (ap (λ (t : List ℕ). begins_array t) e ∙ begins_line a more)

-- a bad line begins as that of an array
pub bad_begins : {arrays : List NamedArray} {rest : List ℕ} {bad : InputFault} → IsBadLine arrays rest bad → begins_array rest ≡ true
bad_begins (NoForm begins none) = begins
bad_begins (PastRange a more e form out) = ap (λ (t : List ℕ). begins_array t) e ∙ begins_line a more
bad_begins (Again a more e form range again) = ap (λ (t : List ℕ). begins_array t) e ∙ begins_line a more
bad_begins (TooMany a more e form range new past) = ap (λ (t : List ℕ). begins_array t) e ∙ begins_line a more

-- and no array that may follow stands there
pub bad_ends : {arrays : List NamedArray} {rest : List ℕ} {bad : InputFault} → IsBadLine arrays rest bad → Ends arrays rest
bad_ends (NoForm begins none) b m f k = none b m f.form k
bad_ends (PastRange a more e form out) b m f k =
    both_ways (is_in_range a) out (ap (λ (x : Written). is_in_range x) (line_one a b more m form f.form (sym e ∙ k)).0 ∙ f.range)
bad_ends {arrays = arrays} (Again a more e form range again) b m f k =
    both_ways (is_named arrays b.name) f.new
    (sym (ap (λ (x : Written). is_named arrays x.name) (line_one a b more m form f.form (sym e ∙ k)).0) ∙ again)
bad_ends {arrays = arrays} (TooMany a more e form range new past) b m f k =
    both_ways (is_past arrays (value b.len)) f.within
    (sym (ap (λ (x : Written). is_past arrays (value x.len)) (line_one a b more m form f.form (sym e ∙ k)).0) ∙ past)

-- a line is bad in one way
pub bad_one : {arrays : List NamedArray} {rest : List ℕ} {f g : InputFault} → IsBadLine arrays rest f → IsBadLine arrays rest g → f ≡ g
bad_one (NoForm b none) (NoForm c nor) = refl
bad_one (NoForm b none) (PastRange a more e form out) = absurd (none a more form e)
bad_one (NoForm b none) (Again a more e form range again) = absurd (none a more form e)
bad_one (NoForm b none) (TooMany a more e form range new past) = absurd (none a more form e)
bad_one (PastRange a more e form out) (NoForm b none) = absurd (none a more form e)
bad_one (PastRange a more e form out) (PastRange b m k g nor) = refl
bad_one (PastRange a more e form out) (Again b m k g range again) =
    absurd (both_ways (is_in_range a) out (ap (λ (x : Written). is_in_range x) (line_one a b more m form g (sym e ∙ k)).0 ∙ range))
bad_one (PastRange a more e form out) (TooMany b m k g range new past) =
    absurd (both_ways (is_in_range a) out (ap (λ (x : Written). is_in_range x) (line_one a b more m form g (sym e ∙ k)).0 ∙ range))
bad_one (Again a more e form range again) (NoForm b none) = absurd (none a more form e)
bad_one (Again b m k g range again) (PastRange a more e form out) =
    absurd (both_ways (is_in_range a) out (ap (λ (x : Written). is_in_range x) (line_one a b more m form g (sym e ∙ k)).0 ∙ range))
bad_one (Again a more e form range again) (Again b m k g r s) = refl
bad_one {arrays = arrays} (Again a more e form range again) (TooMany b m k g r new past) =
    absurd (both_ways (is_named arrays b.name) new (sym (ap (λ (x : Written). is_named arrays x.name) (line_one a b more m form g (sym e ∙ k)).0) ∙ again))
bad_one (TooMany a more e form range new past) (NoForm b none) = absurd (none a more form e)
bad_one (TooMany b m k g range new past) (PastRange a more e form out) =
    absurd (both_ways (is_in_range a) out (ap (λ (x : Written). is_in_range x) (line_one a b more m form g (sym e ∙ k)).0 ∙ range))
bad_one {arrays = arrays} (TooMany b m k g r new past) (Again a more e form range again) =
    absurd (both_ways (is_named arrays b.name) new (sym (ap (λ (x : Written). is_named arrays x.name) (line_one a b more m form g (sym e ∙ k)).0) ∙ again))
bad_one (TooMany a more e form range new past) (TooMany b m k g r s t) = refl
