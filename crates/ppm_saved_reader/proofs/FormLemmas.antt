-- The forms of lines: what a line of a form is spelled like, and that each line that is written has its form.
use Rattle.std.proofs.Common.{◌≡◌, ◌∙◌, ◌⊎◌, inl, inr, ℕ, ◌^◌, ◌<◌, ◌≤◌, ◌==◌, Bool, true, false, ◌&&◌, cond, nat_le, nat_lt, is_none, List, [], ◌∷◌, ◌++◌, length, codes, decimal, Option, Some, None, refl, sym, ap, subst, arith, append_assoc}
use Rattle.std.specs.List.{list_all, AllByRecursion}
use Rattle.std.specs.Str.{bytes_eq}
use Rattle.std.specs.Int.{IsInRange}
use Rattle.std.specs.Cmp.Derive.{both_true}
use Rattle.std.proofs.lemmas.Bool.{both_ways, and_parts, and_from, cond-true, cond-false, cases_lt, ltb-true, lt-ltb, le-ltb, leb-true, le-leb, ne_eqb}
use Rattle.std.proofs.lemmas.Fmt.{decimal-digits_value, digits_value-decimal}
use Rattle.std.proofs.lemmas.List.{append-nil}
use Rattle.std.proofs.lemmas.List.Elements.{All-from_recursion}
use Rattle.std.proofs.lemmas.Slice.Eq.{bytes_eq-Decides}
use Rattle.std.proofs.lemmas.Str.Parse.{IsDigitsTest, IsNumeralModel, numerals_by_fold}
use Rattle.ppm_words.specs.Limits.{name_limit}
use Rattle.ppm_words.specs.Names.{IsName, is_letter, is_name_byte}
use Rattle.ppm_pieces.specs.Numbers.{is_digit, is_numeral, value_from, value, value_limit}
use Rattle.ppm_pieces.specs.Pieces.{halves_of}
use Rattle.ppm_pieces.proofs.NumberLemmas.{numeral_parts, numeral-decimal, value-decimal, decimal-value, digit_bounds}
use Rattle.ppm_text.specs.Spelling.{keyword_of}
use Rattle.ppm_saved.specs.Names.{IsArrayName}
use Rattle.ppm_saved.specs.Runs.{run}
use Rattle.ppm_saved.specs.Text.{numbers_text, array_line, times_text, run_line}
use Rattle.ppm_saved.proofs.TellLemmas.{numbers_split, run_split, array_split, name_bytes}
use Rattle.ppm_saved_reader.specs.declared.lines.Sizes.{Sizes}
use Rattle.ppm_saved_reader.specs.Lines.{behind_halves, behind_word, number_in, number_behind, count_in, version_in, three, last_two, three_between, sizes_behind}
use Rattle.ppm_saved_reader.specs.Lines.{sizes_in, is_name, is_array_name, named, name_and_len, array_behind, array_in, word_in, times_in, run_between, run_in}
use Rattle.ppm_saved_reader.specs.Places.{array_of}
use Rattle.ppm_saved_reader.proofs.OptionLemmas.{some_same, not_both, first_part, second_part}
use Rattle.ppm_saved_reader.proofs.LineLemmas.{halves_back}

-- any byte but one
abbrev but : ℕ → ℕ → Bool
but s b = cond (b == s) false true

-- the version
pub version_back : (line x : List ℕ) → version_in line ≡ Some x → line ≡ codes "saved 1"
version_back line x e = by (bytes_eq line (codes "saved 1")) refl e
  where
    by : (same : Bool) → bytes_eq line (codes "saved 1") ≡ same → cond same (Some line) None ≡ Some x → line ≡ codes "saved 1"
    by true k e = (bytes_eq-Decides line (codes "saved 1")).0 k
    by false k e = absurd (not_both refl e)

-- what stands after a word
pub behind_back : (word line rest : List ℕ) → behind_word word line ≡ Some rest → line ≡ word ++ 32 ∷ rest
behind_back word line rest e = by (halves_of 32 line) refl e
  where
    same_word : (x y : List ℕ) → halves_of 32 line ≡ Some (x, y) → (same : Bool) → bytes_eq x word ≡ same → cond same (Some y) None ≡ Some rest
        → line ≡ word ++ 32 ∷ rest
    same_word x y k true s e =
        halves_back 32 line x y k ∙ ap (λ (w : List ℕ). w ++ 32 ∷ y) ((bytes_eq-Decides x word).0 s) ∙ ap (λ (z : List ℕ). word ++ 32 ∷ z) (some_same e)
    same_word x y k false s e = absurd (not_both refl e)

    by : (h : Option (List ℕ × List ℕ)) → halves_of 32 line ≡ h → behind_halves word h ≡ Some rest → line ≡ word ++ 32 ∷ rest
    by None k e = absurd (not_both refl e)
    by (Some (x, y)) k e = same_word x y k (bytes_eq x word) refl e

-- a number that is read is spelled by its digits
pub number_back : (bytes : List ℕ) (v : ℕ) → number_in bytes ≡ Some v → v < value_limit → bytes ≡ decimal v
number_back bytes v e h = by (is_numeral bytes) refl e
  where
    by : (is : Bool) → is_numeral bytes ≡ is → cond is (Some (value bytes)) None ≡ Some v → bytes ≡ decimal v
    by true k e =
        let q : value bytes ≡ v = some_same e in
        sym (decimal-value bytes k (subst (λ n. n < value_limit) (sym q) h)) ∙ ap decimal q
    by false k e = absurd (not_both refl e)

pub number_from : (n : ℕ) → n < 2 ^ 64 → number_in (decimal n) ≡ Some n
number_from n h =
    cond-true (is_numeral (decimal n)) (Some (value (decimal n))) None (numeral-decimal n h) ∙ ap (λ (k : ℕ). Some k) (value-decimal n h)

-- numbers between spaces
abbrev pub joined : ℕ → List ℕ → List ℕ
joined n [] = decimal n
joined n (m ∷ ms) = decimal n ++ 32 ∷ joined m ms

-- they are the numbers of a line
joined_text : (n : ℕ) (ns rest : List ℕ) → 32 ∷ (joined n ns ++ 10 ∷ rest) ≡ numbers_text (n ∷ ns) ++ rest
joined_text n [] rest = sym (numbers_split n [] rest)
joined_text n (m ∷ ms) rest =
    ap (λ (l : List ℕ). 32 ∷ l) (append_assoc (decimal n) (32 ∷ joined m ms) (10 ∷ rest) ∙ ap (λ (l : List ℕ). decimal n ++ l) (joined_text m ms rest))
    ∙ sym (numbers_split n (m ∷ ms) rest)

pub worded : (word : List ℕ) (n : ℕ) (ns rest : List ℕ) → (word ++ 32 ∷ joined n ns) ++ 10 ∷ rest ≡ (word ++ numbers_text (n ∷ ns)) ++ rest
worded word n ns rest =
    append_assoc word (32 ∷ joined n ns) (10 ∷ rest) ∙ ap (λ (l : List ℕ). word ++ l) (joined_text n ns rest)
    ∙ sym (append_assoc word (numbers_text (n ∷ ns)) rest)

-- a line of one number
pub count_back : (word line : List ℕ) (v : ℕ) → count_in word line ≡ Some v → v < value_limit → line ≡ word ++ 32 ∷ decimal v
count_back word line v e h = by (behind_word word line) refl e
  where
    by : (o : Option (List ℕ)) → behind_word word line ≡ o → number_behind o ≡ Some v → line ≡ word ++ 32 ∷ decimal v
    by None k e = absurd (not_both refl e)
    by (Some bytes) k e = behind_back word line bytes k ∙ ap (λ (d : List ℕ). word ++ 32 ∷ d) (number_back bytes v e h)

-- the sizes
three_back : (a b c : Option ℕ) (z : Sizes) → three a b c ≡ Some z → (a ≡ Some z.processors) × (b ≡ Some z.room) × (c ≡ Some z.slots)
three_back None b c z e = absurd (not_both refl e)
three_back (Some p) None c z e = absurd (not_both refl e)
three_back (Some p) (Some r) None z e = absurd (not_both refl e)
three_back (Some p) (Some r) (Some s) z e =
    let k = some_same e in (
      ap (λ (z : Sizes). Some z.processors) k,
      ap (λ (z : Sizes). Some z.room) k,
      ap (λ (z : Sizes). Some z.slots) k,
    )

last_back : (first : List ℕ) (o : Option (List ℕ × List ℕ)) (z : Sizes) → last_two first o ≡ Some z
    → (second : List ℕ) × (third : List ℕ) × (o ≡ Some (second, third)) × (number_in first ≡ Some z.processors) × (number_in second ≡ Some z.room) × (number_in third ≡ Some z.slots)
last_back first None z e = absurd (not_both refl e)
last_back first (Some (second, third)) z e =
    let k = three_back (number_in first) (number_in second) (number_in third) z e in
    (second, third, refl, k.0, k.1, k.2)

pub sizes_back : (line : List ℕ) (z : Sizes) → sizes_in line ≡ Some z → z.processors < value_limit → z.room < value_limit → z.slots < value_limit
    → line ≡ codes "shape" ++ 32 ∷ joined z.processors (z.room ∷ z.slots ∷ [])
sizes_back line z e hp hr hs = by (behind_word (codes "shape") line) refl e
  where
    between : (bytes : List ℕ) (o : Option (List ℕ × List ℕ)) → halves_of 32 bytes ≡ o → three_between o ≡ Some z
        → bytes ≡ joined z.processors (z.room ∷ z.slots ∷ [])
    between bytes None k e = absurd (not_both refl e)
    between bytes (Some (first, more)) k e =
        let (second, third, cut, p, r, s) = last_back first (halves_of 32 more) z e in
        halves_back 32 bytes first more k
        ∙ ap (λ (l : List ℕ). l ++ 32 ∷ more) (number_back first z.processors p hp)
        ∙ ap (λ (l : List ℕ). decimal z.processors ++ 32 ∷ l) (halves_back 32 more second third cut)
        ∙ ap (λ (l : List ℕ). decimal z.processors ++ 32 ∷ (l ++ 32 ∷ third)) (number_back second z.room r hr)
        ∙ ap (λ (l : List ℕ). decimal z.processors ++ 32 ∷ (decimal z.room ++ 32 ∷ l)) (number_back third z.slots s hs)

    by : (o : Option (List ℕ)) → behind_word (codes "shape") line ≡ o → sizes_behind o ≡ Some z
        → line ≡ codes "shape" ++ 32 ∷ joined z.processors (z.room ∷ z.slots ∷ [])
    by None k e = absurd (not_both refl e)
    by (Some bytes) k e =
        behind_back (codes "shape") line bytes k ∙ ap (λ (l : List ℕ). codes "shape" ++ 32 ∷ l) (between bytes (halves_of 32 bytes) refl e)

-- a name
all_from : (p : ℕ → Bool) (xs : List ℕ) → list_all p xs ≡ true → AllByRecursion (λ x. p x ≡ true) xs
all_from p [] h = tt
all_from p (x ∷ xs) h = let k = and_parts (p x) (list_all p xs) h in (k.0, all_from p xs k.1)

name_back : (name : List ℕ) → is_name name ≡ true → IsName name
name_back [] h = both_ways false refl h
name_back (b ∷ bs) h =
    let k = and_parts (is_letter b) (list_all is_name_byte bs && nat_lt (length bs) name_limit) h in
    let l = and_parts (list_all is_name_byte bs) (nat_lt (length bs) name_limit) k.1 in
    (k.0, All-from_recursion (λ c. is_name_byte c ≡ true) bs (all_from is_name_byte bs l.0), ltb-true (length bs) name_limit l.1)

name_from : (name : List ℕ) → IsName name → is_name name ≡ true
name_from [] h = absurd h
name_from (b ∷ bs) h =
    and_from (is_letter b) (list_all is_name_byte bs && nat_lt (length bs) name_limit) h.0
    (and_from (list_all is_name_byte bs) (nat_lt (length bs) name_limit)
    (and_parts (is_name_byte b) (list_all is_name_byte bs) (name_bytes (b ∷ bs) h)).1 (lt-ltb (length bs) name_limit h.2))

none_of : {A : Type 0} (o : Option A) → is_none o ≡ true → o ≡ None
none_of None h = refl
none_of (Some a) h = absurd (both_ways false refl h)

pub array_name_back : (name : List ℕ) → is_array_name name ≡ true → IsArrayName name
array_name_back name h =
    let k = and_parts (is_name name) (is_none (keyword_of name)) h in
    record { form = name_back name k.0; plain = none_of (keyword_of name) k.1 }

pub array_name_from : (name : List ℕ) → IsArrayName name → is_array_name name ≡ true
array_name_from name h = and_from (is_name name) (is_none (keyword_of name)) (name_from name h.form) (ap (λ (o : Option _). is_none o) h.plain)

-- the line of an array
named_back : (name : List ℕ) (o : Option ℕ) (p : List ℕ × ℕ) → named name o ≡ Some p → (is_array_name name ≡ true) × (name ≡ p.0) × (o ≡ Some p.1)
named_back name None p e = absurd (not_both refl e)
named_back name (Some len) p e = by (is_array_name name) refl e
  where
    by : (is : Bool) → is_array_name name ≡ is → cond is (Some (name, len)) None ≡ Some p
        → (is_array_name name ≡ true) × (name ≡ p.0) × (Some len ≡ Some p.1)
    by true k e = let q = some_same e in (k, first_part q, ap (λ (n : ℕ). Some n) (second_part q))
    by false k e = absurd (not_both refl e)

-- a line that says an array is spelled by its name and its length
pub record IsArrayLine (line : List ℕ) (p : List ℕ × ℕ) : Type 0 where
  pub name : IsArrayName p.0
  pub same : line ≡ codes "array" ++ 32 ∷ (p.0 ++ 32 ∷ decimal p.1)

between_names : (line bytes : List ℕ) (p : List ℕ × ℕ) → p.1 < value_limit → line ≡ codes "array" ++ 32 ∷ bytes
    → (o : Option (List ℕ × List ℕ)) → halves_of 32 bytes ≡ o → name_and_len o ≡ Some p → IsArrayLine line p
between_names line bytes p h e None k f = absurd (not_both refl f)
between_names line bytes p h e (Some (name, len)) k f =
    let q = named_back name (number_in len) p f in
    record {
      name = array_name_back p.0 (subst (λ (n : List ℕ). is_array_name n ≡ true) q.1 q.0);
      same = e
          ∙ ap (λ (l : List ℕ). codes "array" ++ 32 ∷ l) (halves_back 32 bytes name len k)
          ∙ ap (λ (l : List ℕ). codes "array" ++ 32 ∷ (l ++ 32 ∷ len)) q.1
          ∙ ap (λ (l : List ℕ). codes "array" ++ 32 ∷ (p.0 ++ 32 ∷ l)) (number_back len p.1 q.2 h);
    }

pub array_back : (line : List ℕ) (p : List ℕ × ℕ) → array_in line ≡ Some p → p.1 < value_limit → IsArrayLine line p
array_back line p e h = by (behind_word (codes "array") line) refl e
  where
    by : (o : Option (List ℕ)) → behind_word (codes "array") line ≡ o → array_behind o ≡ Some p → IsArrayLine line p
    by None k e = absurd (not_both refl e)
    by (Some bytes) k e = between_names line bytes p h (behind_back (codes "array") line bytes k) (halves_of 32 bytes) refl e

pub array_spelled : (line rest : List ℕ) (p : List ℕ × ℕ) → IsArrayLine line p → line ++ 10 ∷ rest ≡ array_line (array_of p) ++ rest
array_spelled line rest p h =
    ap (λ (l : List ℕ). l ++ 10 ∷ rest) h.same
    ∙ ap (λ (l : List ℕ). codes "array " ++ l) (append_assoc p.0 (32 ∷ decimal p.1) (10 ∷ rest) ∙ ap (λ (l : List ℕ). p.0 ++ l) (joined_text p.1 [] rest))
    ∙ sym (array_split (array_of p) rest)

-- a word
range_of_digit : (d : ℕ) → is_digit d ≡ true → IsInRange 48 57 d
range_of_digit d h = digit_bounds d h

tells : IsDigitsTest (λ ds. list_all is_digit ds ≡ true)
tells = record {
  empty = refl;
  parts = λ c cs e. let k = and_parts (is_digit c) (list_all is_digit cs) e in (range_of_digit c k.0, k.1);
  more = λ c cs k e. both_true (both_true (le-leb 48 c k.0) (le-leb c 57 k.1)) e;
}

own : IsNumeralModel (λ ds. list_all is_digit ds ≡ true) (value_from 0)
own = numerals_by_fold (λ ds. list_all is_digit ds ≡ true) tells value_from (record { empty = λ n. refl; more = λ n c cs k. refl })

numeral_some : (ds : List ℕ) → is_numeral ds ≡ true → 0 < length ds
numeral_some [] h = absurd (both_ways false refl h)
numeral_some (d ∷ ds) h = omega arith

-- digits that spell a word of 64 bits are what is written of it
pub word_spelled : (ds : List ℕ) → is_numeral ds ≡ true → value_from 0 ds < 2 ^ 64 → decimal (value_from 0 ds) ≡ ds
word_spelled ds h small = let k = numeral_parts ds h in decimal-digits_value own ds k.0 (numeral_some ds h) k.1 small

pub word_back : (ds : List ℕ) (w : ℕ) → is_numeral ds ≡ true → word_in ds ≡ Some w → (ds ≡ decimal w) × (w < 2 ^ 64)
word_back ds w h e = by (nat_lt (value_from 0 ds) (2 ^ 64)) refl e
  where
    by : (small : Bool) → nat_lt (value_from 0 ds) (2 ^ 64) ≡ small → cond small (Some (value_from 0 ds)) None ≡ Some w → (ds ≡ decimal w) × (w < 2 ^ 64)
    by true k e =
        let q : value_from 0 ds ≡ w = some_same e in
        let small = ltb-true (value_from 0 ds) (2 ^ 64) k in
        (sym (word_spelled ds h small) ∙ ap decimal q, subst (λ n. n < 2 ^ 64) q small)
    by false k e = absurd (not_both refl e)

pub word_from : (w : ℕ) → w < 2 ^ 64 → word_in (decimal w) ≡ Some w
word_from w h =
    let q : value_from 0 (decimal w) ≡ w = digits_value-decimal own w h in
    cond-true (nat_lt (value_from 0 (decimal w)) (2 ^ 64)) (Some (value_from 0 (decimal w))) None
    (ap (λ (n : ℕ). nat_lt n (2 ^ 64)) q ∙ lt-ltb w (2 ^ 64) h)
    ∙ ap (λ (n : ℕ). Some n) q

-- the line of a run
pub record IsRunLine (line : List ℕ) (w n : ℕ) : Type 0 where
  pub word : w < 2 ^ 64
  pub least : 1 ≤ n
  pub same : line ≡ decimal w ++ times_text n

pub times_many : (n : ℕ) → 2 ≤ n → times_text n ≡ 42 ∷ decimal n
times_many n h = cond-false (n == 1) [] (42 ∷ decimal n) (ne_eqb n 1 (λ e. omega (arith, h, e)))

times_back : (ds : List ℕ) (o : Option ℕ) (w n : ℕ) → is_numeral ds ≡ true → times_in ds o ≡ Some (Some w, n)
    → (o ≡ Some n) × (2 ≤ n) × (ds ≡ decimal w) × (w < 2 ^ 64)
times_back ds None w n h e = absurd (not_both refl e)
times_back ds (Some times) w n h e = by (nat_le 2 times) refl e
  where
    by : (many : Bool) → nat_le 2 times ≡ many → cond {A = Option (Option ℕ × ℕ)} many (Some (word_in ds, times)) None ≡ Some (Some w, n)
        → (Some times ≡ Some n) × (2 ≤ n) × (ds ≡ decimal w) × (w < 2 ^ 64)
    by true k e =
        let q = some_same e in
        let word = word_back ds w h (first_part q) in
        (ap (λ (n : ℕ). Some n) (second_part q), subst (λ n. 2 ≤ n) (second_part q) (leb-true 2 times k), word.0, word.1)
    by false k e = absurd (not_both refl e)

between_runs : (line : List ℕ) (w n : ℕ) → n < value_limit → (o : Option (List ℕ × List ℕ)) → halves_of 42 line ≡ o → run_between line o ≡ Some (Some w, n)
    → IsRunLine line w n
between_runs line w n h None k e = by (is_numeral line) refl e
  where
    by : (is : Bool) → is_numeral line ≡ is → cond {A = Option (Option ℕ × ℕ)} is (Some (word_in line, 1)) None ≡ Some (Some w, n) → IsRunLine line w n
    by true i e =
        let q = some_same e in
        let word = word_back line w i (first_part q) in
        record {
          word = word.1;
          least = omega (arith, second_part q);
          same = word.0 ∙ sym (append-nil (decimal w)) ∙ ap (λ (n : ℕ). decimal w ++ times_text n) (second_part q);
        }
    by false i e = absurd (not_both refl e)
between_runs line w n h (Some (ds, times)) k e = by (is_numeral ds) refl e
  where
    by : (is : Bool) → is_numeral ds ≡ is → cond is (times_in ds (number_in times)) None ≡ Some (Some w, n) → IsRunLine line w n
    by true i e =
        let q = times_back ds (number_in times) w n i e in
        record {
          word = q.3;
          least = omega (arith, q.1);
          same = halves_back 42 line ds times k
              ∙ ap (λ (l : List ℕ). l ++ 42 ∷ times) q.2
              ∙ ap (λ (l : List ℕ). decimal w ++ 42 ∷ l) (number_back times n q.0 h)
              ∙ ap (λ (l : List ℕ). decimal w ++ l) (sym (times_many n q.1));
        }
    by false i e = absurd (not_both refl e)

pub run_back : (line : List ℕ) (w n : ℕ) → run_in line ≡ Some (Some w, n) → n < value_limit → IsRunLine line w n
run_back line w n e h = between_runs line w n h (halves_of 42 line) refl e

pub run_spelled : (line rest : List ℕ) (w n : ℕ) → IsRunLine line w n → line ++ 10 ∷ rest ≡ run_line (run w n) ++ rest
run_spelled line rest w n h =
    ap (λ (l : List ℕ). l ++ 10 ∷ rest) h.same ∙ append_assoc (decimal w) (times_text n) (10 ∷ rest) ∙ sym (run_split (run w n) rest)

-- digits past the last word, which are not those of it, spell none
pub word_large : (ds last : List ℕ) → is_numeral ds ≡ true → value_limit ≤ value ds → last ≡ decimal value_limit → bytes_eq ds last ≡ false
    → None ≡ word_in ds
word_large ds last h most e other =
    sym (cond-false (nat_lt (value_from 0 ds) (2 ^ 64)) (Some (value_from 0 ds)) None (le-ltb (value_from 0 ds) (2 ^ 64) (by (cases_lt (value_from 0 ds) (2 ^ 64)))))
  where
    by : (value_from 0 ds < 2 ^ 64) ⊎ (2 ^ 64 ≤ value_from 0 ds) → 2 ^ 64 ≤ value_from 0 ds
    by (inl small) =
        let v : value_from 0 ds ≡ value_limit = omega (arith, most, small) in
        absurd (both_ways (bytes_eq ds last) other ((bytes_eq-Decides ds last).1 (sym (word_spelled ds h small) ∙ ap decimal v ∙ sym e)))
    by (inr large) = large

pub last_word : codes "18446744073709551615" ≡ decimal value_limit
last_word = sym (word_spelled (codes "18446744073709551615") refl (ltb-true (value_from 0 (codes "18446744073709551615")) (2 ^ 64) refl))
