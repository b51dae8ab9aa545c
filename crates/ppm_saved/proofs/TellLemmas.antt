-- A saved text tells its state: each part ends where its bytes do, so it is cut off in front.
use Rattle.std.proofs.Common.{◌≡◌, ◌≢◌, ◌∙◌, ◌⊎◌, inl, inr, ℕ, ◌*◌, ◌<◌, ◌≤◌, ◌==◌, Bool, true, false, cond, ◌||◌, List, [], ◌∷◌, ◌++◌, length, codes, decimal, refl, sym, ap, arith}
use Rattle.std.proofs.Common.{append_assoc}
use Rattle.std.specs.List.{flat_map, list_all, AllByRecursion}
use Rattle.std.proofs.Math.Nat.{mul-le-mul_right}
use Rattle.std.proofs.lemmas.Bool.{both_ways, and_parts, and_from}
use Rattle.std.proofs.lemmas.Bool.Decides.{eqb_tells}
use Rattle.std.proofs.lemmas.Fmt.{decimal_injective}
use Rattle.std.proofs.lemmas.List.{append_cancel_left}
use Rattle.std.proofs.lemmas.List.Elements.{recursion_from_All}
use Rattle.ppm_words.specs.Names.{IsName, is_letter, is_name_byte}
use Rattle.ppm_pieces.specs.Numbers.{is_digit}
use Rattle.ppm_pieces.proofs.NumberLemmas.{numeral_parts, numeral-decimal}
use Rattle.ppm_cells.specs.declared.shape.Shape.{Shape}
use Rattle.ppm_listing.specs.Listing.{listing_of}
use Rattle.ppm_listing.proofs.TextLemmas.{same_head, same_tail, cons_path}
use Rattle.ppm_listing.proofs.CodeLemmas.{listing_tells_code}
use Rattle.ppm_saved.specs.Names.{IsArrayName}
use Rattle.ppm_saved.specs.Runs.{runs_of, words_of}
use Rattle.ppm_saved.specs.Text.{spaced, numbers_text, version_line, shape_line, array_line, code_line, times_text, run_line}
use Rattle.ppm_saved.specs.Text.{head_text, code_text, words_text}
use Rattle.ppm_saved.specs.Correct.{IsWord, LengthFits, RunFits, SavedTextsTellStates}
use Rattle.ppm_saved.specs.declared.names.NamedLength.{NamedLength}
use Rattle.ppm_saved.specs.declared.run.Run.{Run}
use Rattle.ppm_saved.proofs.RunLemmas.{runs_are_longest}

-- the bytes do not go on with one of a class
abbrev pub Stops : (ℕ → Bool) → List ℕ → Type 0
Stops p [] = Unit {0}
Stops p (b ∷ ys) = p b ≡ false

-- of two texts that are one, each begins with bytes of a class, as many as there are: they are the same, and what follows is
pub span_one : (p : ℕ → Bool) (ds es x y : List ℕ) → list_all p ds ≡ true → list_all p es ≡ true → Stops p x → Stops p y
    → ds ++ x ≡ es ++ y → (ds ≡ es) × (x ≡ y)
span_one p [] [] x y g h r s e = (refl, e)
span_one p [] (c ∷ es) [] y g h r s e = absurd (no_cons e)
  where
    no_cons : [] ≡ c ∷ (es ++ y) → ⊥
    no_cons k = omega (arith, ap length k)
span_one p [] (c ∷ es) (b ∷ x) y g h r s e =
    absurd (both_ways (p b) r (ap p (same_head e) ∙ (and_parts (p c) (list_all p es) h).0))
span_one p (b ∷ ds) [] x [] g h r s e = absurd (no_cons e)
  where
    no_cons : b ∷ (ds ++ x) ≡ [] → ⊥
    no_cons k = omega (arith, ap length k)
span_one p (b ∷ ds) [] x (c ∷ y) g h r s e =
    absurd (both_ways (p c) s (ap p (sym (same_head e)) ∙ (and_parts (p b) (list_all p ds) g).0))
span_one p (b ∷ ds) (c ∷ es) x y g h r s e =
    let (same, left) = span_one p ds es x y (and_parts (p b) (list_all p ds) g).1 (and_parts (p c) (list_all p es) h).1 r s (same_tail e) in
    (cons_path (same_head e) same, left)

-- a number's digits
pub digits : (n : ℕ) → IsWord n → list_all is_digit (decimal n) ≡ true
digits n h = (numeral_parts (decimal n) (numeral-decimal n h)).0

-- a number is cut off where its digits end
number_one : (n m : ℕ) (x y : List ℕ) → IsWord n → IsWord m → Stops is_digit x → Stops is_digit y
    → decimal n ++ x ≡ decimal m ++ y → (n ≡ m) × (x ≡ y)
number_one n m x y g h r s e =
    let (same, left) = span_one is_digit (decimal n) (decimal m) x y (digits n g) (digits m h) r s e in
    (decimal_injective n m g h same, left)

-- numbers in front of more
pub numbers_split : (n : ℕ) (ns z : List ℕ) → numbers_text (n ∷ ns) ++ z ≡ 32 ∷ (decimal n ++ (numbers_text ns ++ z))
numbers_split n ns z =
    ap (λ l. l ++ z) (append_assoc (spaced n) (flat_map spaced ns) (10 ∷ []))
    ∙ append_assoc (spaced n) (flat_map spaced ns ++ 10 ∷ []) z

numbers_stop : (ns z : List ℕ) → Stops is_digit (numbers_text ns ++ z)
numbers_stop [] z = refl
numbers_stop (n ∷ ns) z = refl

-- numbers up to a line feed are cut off
numbers_one : (ns ms x y : List ℕ) → AllByRecursion IsWord ns → AllByRecursion IsWord ms → numbers_text ns ++ x ≡ numbers_text ms ++ y
    → (ns ≡ ms) × (x ≡ y)
numbers_one [] [] x y g h e = (refl, same_tail e)
numbers_one [] (m ∷ ms) x y g h e = absurd (omega (arith, same_head e))
numbers_one (n ∷ ns) [] x y g h e = absurd (omega (arith, same_head e))
numbers_one (n ∷ ns) (m ∷ ms) x y g h e =
    let inside = same_tail (sym (numbers_split n ns x) ∙ e ∙ numbers_split m ms y) in
    let (first, rest) = number_one n m (numbers_text ns ++ x) (numbers_text ms ++ y) g.0 h.0 (numbers_stop ns x) (numbers_stop ms y) inside in
    let (others, left) = numbers_one ns ms x y g.1 h.1 rest in
    (cons_path first others, left)

-- the only number of a line
only : (n m : ℕ) → n ∷ [] ≡ m ∷ [] → n ≡ m
only n m e = same_head e

-- a line of one number after a word
line_one : (word : List ℕ) (n m : ℕ) (x y : List ℕ) → IsWord n → IsWord m
    → (word ++ numbers_text (n ∷ [])) ++ x ≡ (word ++ numbers_text (m ∷ [])) ++ y → (n ≡ m) × (x ≡ y)
line_one word n m x y g h e =
    let cut = append_cancel_left word (numbers_text (n ∷ []) ++ x) (numbers_text (m ∷ []) ++ y)
    (sym (append_assoc word (numbers_text (n ∷ [])) x) ∙ e ∙ append_assoc word (numbers_text (m ∷ [])) y) in
    let (numbers, left) = numbers_one (n ∷ []) (m ∷ []) x y (g, tt) (h, tt) cut in
    (only n m numbers, left)

-- how often a word stands in a row, up to a line feed
times_stop : (n : ℕ) (z : List ℕ) → Stops is_digit (times_text n ++ 10 ∷ z)
times_stop n z = by (n == 1)
  where
    by : (b : Bool) → Stops is_digit (cond b [] (42 ∷ decimal n) ++ 10 ∷ z)
    by true = refl
    by false = refl

times_one : (n m : ℕ) (x y : List ℕ) → IsWord n → IsWord m → times_text n ++ 10 ∷ x ≡ times_text m ++ 10 ∷ y → (n ≡ m) × (x ≡ y)
times_one n m x y g h e = by (n == 1) (m == 1) (eqb_tells n 1) (eqb_tells m 1) e
  where
    by : (a b : Bool) → ((a ≡ true) × (n ≡ 1)) ⊎ ((a ≡ false) × (n ≢ 1)) → ((b ≡ true) × (m ≡ 1)) ⊎ ((b ≡ false) × (m ≢ 1))
        → cond a [] (42 ∷ decimal n) ++ 10 ∷ x ≡ cond b [] (42 ∷ decimal m) ++ 10 ∷ y → (n ≡ m) × (x ≡ y)
    by true true (inl t) (inl u) e = (t.1 ∙ sym u.1, same_tail e)
    by true true (inr t) u e = absurd (both_ways true t.0 refl)
    by true true (inl t) (inr u) e = absurd (both_ways true u.0 refl)
    by true false t u e = absurd (omega (arith, same_head e))
    by false true t u e = absurd (omega (arith, same_head e))
    by false false t u e =
        let (same, left) = number_one n m (10 ∷ x) (10 ∷ y) g h refl refl (same_tail e) in
        (same, same_tail left)

-- the line of a run in front of more
pub run_split : (r : Run) (z : List ℕ) → run_line r ++ z ≡ decimal r.word ++ (times_text r.times ++ 10 ∷ z)
run_split r z =
    append_assoc (decimal r.word ++ times_text r.times) (10 ∷ []) z ∙ append_assoc (decimal r.word) (times_text r.times) (10 ∷ z)

run_one : (r q : Run) (x y : List ℕ) → RunFits r → RunFits q → run_line r ++ x ≡ run_line q ++ y → (r ≡ q) × (x ≡ y)
run_one r q x y g h e =
    let (word, rest) = number_one r.word q.word (times_text r.times ++ 10 ∷ x) (times_text q.times ++ 10 ∷ y) g.0 h.0
    (times_stop r.times x) (times_stop q.times y) (sym (run_split r x) ∙ e ∙ run_split q y) in
    let (times, left) = times_one r.times q.times x y g.1 h.1 rest in
    ((λ i. record { word = word i; times = times i }), left)

-- a line is not nothing
some_line : (r : Run) (z : List ℕ) → [] ≡ run_line r ++ z → ⊥
some_line r z e =
    let front : List ℕ = decimal r.word ++ times_text r.times in
    let same : [] ≡ front ++ 10 ∷ z = e ∙ append_assoc front (10 ∷ []) z in
    omega (arith, ap length same, long front)
  where
    long : (xs : List ℕ) → 0 < length (xs ++ 10 ∷ z)
    long [] = omega arith
    long (x ∷ xs) = omega arith

runs_one : (rs qs : List Run) → AllByRecursion RunFits rs → AllByRecursion RunFits qs → flat_map run_line rs ≡ flat_map run_line qs → rs ≡ qs
runs_one [] [] g h e = refl
runs_one [] (q ∷ qs) g h e = absurd (some_line q (flat_map run_line qs) e)
runs_one (r ∷ rs) [] g h e = absurd (some_line r (flat_map run_line rs) (sym e))
runs_one (r ∷ rs) (q ∷ qs) g h e =
    let (first, left) = run_one r q (flat_map run_line rs) (flat_map run_line qs) g.0 h.0 e in
    cons_path first (runs_one rs qs g.1 h.1 left)

-- the bytes of a name
pub name_bytes : (name : List ℕ) → IsName name → list_all is_name_byte name ≡ true
name_bytes [] h = absurd h
name_bytes (b ∷ cs) h =
    and_from (is_name_byte b) (list_all is_name_byte cs) (first (is_letter b) h.0) (all cs (recursion_from_All (λ c. is_name_byte c ≡ true) cs h.1))
  where
    all : (ds : List ℕ) → AllByRecursion (λ c. is_name_byte c ≡ true) ds → list_all is_name_byte ds ≡ true
    all [] k = refl
    all (c ∷ ds) k = and_from (is_name_byte c) (list_all is_name_byte ds) k.0 (all ds k.1)

    first : (letter : Bool) → letter ≡ true → (letter || is_digit b) ≡ true
    first true k = refl
    first false k = absurd (both_ways false refl k)

-- the line of an array in front of more
pub array_split : (a : NamedLength) (z : List ℕ) → array_line a ++ z ≡ codes "array " ++ (a.name ++ (numbers_text (a.len ∷ []) ++ z))
array_split a z =
    append_assoc (codes "array " ++ a.name) (numbers_text (a.len ∷ [])) z
    ∙ append_assoc (codes "array ") a.name (numbers_text (a.len ∷ []) ++ z)

array_one : (a b : NamedLength) (x y : List ℕ) → IsArrayName a.name → IsArrayName b.name → IsWord a.len → IsWord b.len
    → array_line a ++ x ≡ array_line b ++ y → (a ≡ b) × (x ≡ y)
array_one a b x y g h k l e =
    let cut = append_cancel_left (codes "array ") (a.name ++ (numbers_text (a.len ∷ []) ++ x)) (b.name ++ (numbers_text (b.len ∷ []) ++ y))
    (sym (array_split a x) ∙ e ∙ array_split b y) in
    let (name, rest) = span_one is_name_byte a.name b.name (numbers_text (a.len ∷ []) ++ x) (numbers_text (b.len ∷ []) ++ y)
    (name_bytes a.name g.form) (name_bytes b.name h.form) refl refl cut in
    let (lens, left) = numbers_one (a.len ∷ []) (b.len ∷ []) x y (k, tt) (l, tt) rest in
    ((λ i. record { name = name i; len = (only a.len b.len lens) i }), left)

-- the bytes go on, and not with the line of an array
abbrev NoArray : List ℕ → Type 0
NoArray [] = ⊥
NoArray (b ∷ bytes) = (b == 97) ≡ false

arrays_one : (xs ys : List NamedLength) (x y : List ℕ) → AllByRecursion (λ (a : NamedLength). IsArrayName a.name) xs
    → AllByRecursion (λ (a : NamedLength). IsArrayName a.name) ys
    → AllByRecursion LengthFits xs → AllByRecursion LengthFits ys → NoArray x → NoArray y
    → flat_map array_line xs ++ x ≡ flat_map array_line ys ++ y → (xs ≡ ys) × (x ≡ y)
arrays_one [] [] x y g h k l r s e = (refl, e)
arrays_one [] (b ∷ ys) [] y g h k l r s e = absurd r
arrays_one [] (b ∷ ys) (c ∷ x) y g h k l r s e = absurd (both_ways (c == 97) r (ap (λ n. n == 97) (same_head e)))
arrays_one (a ∷ xs) [] x [] g h k l r s e = absurd s
arrays_one (a ∷ xs) [] x (c ∷ y) g h k l r s e = absurd (both_ways (c == 97) s (ap (λ n. n == 97) (sym (same_head e))))
arrays_one (a ∷ xs) (b ∷ ys) x y g h k l r s e =
    let (first, left) = array_one a b (flat_map array_line xs ++ x) (flat_map array_line ys ++ y) g.0 h.0 k.0 l.0
    (sym (append_assoc (array_line a) (flat_map array_line xs) x) ∙ e ∙ append_assoc (array_line b) (flat_map array_line ys) y) in
    let (others, after) = arrays_one xs ys x y g.1 h.1 k.1 l.1 r s left in
    (cons_path first others, after)

-- so many bytes in front
bytes_one : (xs ys x y : List ℕ) → length xs ≡ length ys → xs ++ x ≡ ys ++ y → (xs ≡ ys) × (x ≡ y)
bytes_one [] [] x y h e = (refl, e)
bytes_one [] (b ∷ ys) x y h e = absurd (omega (arith, h))
bytes_one (a ∷ xs) [] x y h e = absurd (omega (arith, h))
bytes_one (a ∷ xs) (b ∷ ys) x y h e =
    let (same, left) = bytes_one xs ys x y (omega (arith, h)) (same_tail e) in
    (cons_path (same_head e) same, left)

-- a text by its parts, each in front of the rest
abbrev behind_arrays : (listing words : List ℕ) → List ℕ
behind_arrays listing words = code_line (length listing) ++ (listing ++ words_text words)

abbrev behind_version : (s : Shape) (xs : List NamedLength) (listing words : List ℕ) → List ℕ
behind_version s xs listing words = shape_line s.processors s.room s.slots ++ (flat_map array_line xs ++ behind_arrays listing words)

pub text_split : (s : Shape) (xs : List NamedLength) (listing words : List ℕ)
    → head_text s xs ++ code_text listing ++ words_text words
    ≡ version_line ++ behind_version s xs listing words
text_split s xs listing words =
    append_assoc (head_text s xs) (code_text listing) (words_text words)
    ∙ ap (λ l. head_text s xs ++ l) (append_assoc (code_line (length listing)) listing (words_text words))
    ∙ append_assoc (version_line ++ shape_line s.processors s.room s.slots) (flat_map array_line xs) (behind_arrays listing words)
    ∙ append_assoc version_line (shape_line s.processors s.room s.slots) (flat_map array_line xs ++ behind_arrays listing words)

shape_one : (p q m n i j : ℕ) (x y : List ℕ) → IsWord p → IsWord q → IsWord m → IsWord n → IsWord i → IsWord j
    → shape_line p m i ++ x ≡ shape_line q n j ++ y → ((p ∷ m ∷ i ∷ []) ≡ (q ∷ n ∷ j ∷ [])) × (x ≡ y)
shape_one p q m n i j x y a b c d f g e =
    numbers_one (p ∷ m ∷ i ∷ []) (q ∷ n ∷ j ∷ []) x y (a, (c, (f, tt))) (b, (d, (g, tt)))
    (append_cancel_left (codes "shape") (numbers_text (p ∷ m ∷ i ∷ []) ++ x) (numbers_text (q ∷ n ∷ j ∷ []) ++ y)
    (sym (append_assoc (codes "shape") (numbers_text (p ∷ m ∷ i ∷ [])) x) ∙ e ∙ append_assoc (codes "shape") (numbers_text (q ∷ n ∷ j ∷ [])) y))

-- the room of a place is no more than that of all
pub room_fits : (s : Shape) → IsWord s.room
room_fits s =
    let m : 1 * s.room ≤ s.processors * s.room = mul-le-mul_right s.room s.within.processors_least in
    omega (arith, m, s.within.pools_most)

pub texts_tell : SavedTextsTellStates
texts_tell s t xs ys c d ws vs g h e =
    let split = append_cancel_left version_line (behind_version s xs (listing_of c) ws) (behind_version t ys (listing_of d) vs)
    (sym (text_split s xs (listing_of c) ws) ∙ e ∙ text_split t ys (listing_of d) vs) in
    let (sizes, behind_sizes) = shape_one s.processors t.processors s.room t.room s.slots t.slots
    (flat_map array_line xs ++ behind_arrays (listing_of c) ws) (flat_map array_line ys ++ behind_arrays (listing_of d) vs)
    (omega (arith, s.within.processors_most)) (omega (arith, t.within.processors_most))
    (room_fits s) (room_fits t)
    (omega (arith, s.within.slots_most)) (omega (arith, t.within.slots_most)) split in
    let (arrays, behind_names) = arrays_one xs ys (behind_arrays (listing_of c) ws) (behind_arrays (listing_of d) vs)
    (recursion_from_All (λ (a : NamedLength). IsArrayName a.name) xs g.names.names)
    (recursion_from_All (λ (a : NamedLength). IsArrayName a.name) ys h.names.names) g.lengths h.lengths refl refl behind_sizes in
    let (bytes, behind_line) = line_one (codes "code") (length (listing_of c)) (length (listing_of d))
    (listing_of c ++ words_text ws) (listing_of d ++ words_text vs) g.bytes h.bytes behind_names in
    let (listings, behind_code) = bytes_one (listing_of c) (listing_of d) (words_text ws) (words_text vs) bytes behind_line in
    let (counts, behind_words) = line_one (codes "words") (length ws) (length vs) (flat_map run_line (runs_of ws)) (flat_map run_line (runs_of vs))
    g.count h.count behind_code in
    let runs = runs_one (runs_of ws) (runs_of vs) g.runs h.runs behind_words in
    record {
      processors = same_head sizes;
      room = same_head (same_tail sizes);
      slots = same_head (same_tail (same_tail sizes));
      arrays = arrays;
      code = listing_tells_code c d g.numbers h.numbers listings;
      words = sym (runs_are_longest.words ws) ∙ ap words_of runs ∙ runs_are_longest.words vs;
    }
