-- The two ends of a run: the words and the root's frame with which it begins, and the outcome that is said of its end.
use Rattle.std.proofs.Common.{◌≡◌, ◌<◌, ℕ, zero, suc, ◌+◌, ◌*◌, ◌^◌, ℤ, pos, negsuc, List, [], ◌∷◌, get_or}
use Rattle.std.proofs.Common.{map, length, codes, refl, sym, ap, ap₂, ◌∙◌, subst, arith}
use Rattle.std.specs.Prelude.{FitsSigned}
use Rattle.std.specs.Int.{w64}
use Rattle.std.specs.List.{All, AllByRecursion, sum}
use Rattle.std.proofs.lemmas.List.{get_or_append_left, get_or-append-add, get_or-map, length-map, length-append}
use Rattle.std.proofs.lemmas.List.Elements.{recursion_from_All}
use Rattle.std.proofs.lemmas.List.Sums.{sum_by-cons}
use Rattle.ppm_strands.specs.Tree.{Words}
use Rattle.ppm_words.specs.TwosComplement.{word_of, value_of}
use Rattle.ppm_words.specs.declared.named_array.NamedArray.{NamedArray}
use Rattle.ppm_words.specs.declared.outcome.Outcome.TheVariants as outcome
use Rattle.ppm_code.specs.Strands.{Gave, Trapped as TrappedAt}
use Rattle.ppm_code.specs.Inputs.{words_in}
use Rattle.ppm_depth.specs.Start.{words_of, regions_from, root_own}
use Rattle.ppm_depth.specs.Run.{strands_of, values_at, arrays_at, said_of}
use Rattle.ppm_tree.specs.Tree.{ProgramTree}
use Rattle.ppm_tree.specs.State.{TrapAt, Arrays, array_at}
use Rattle.ppm_tree.specs.Meaning.{Form, Counts, End, Ended, Trapped, arrays_of}
use Rattle.ppm_tree.specs.Program.{values_of, with_names, main_frame, main_of, outcome_of, Means}
use Rattle.ppm_regions.specs.Scope.{Declaration, is_region, scope_of}
use Rattle.ppm_regions.specs.Admission.{IsAdmitted}
use Rattle.ppm_regions.proofs.MainLemmas.{number_is}
use Rattle.ppm_ownership.specs.Words.{HaveOneShape}
use Rattle.ppm_ownership.proofs.EntryLemmas.{main_regions}
use Rattle.ppm_ownership.proofs.Theorem.{within_everywhere}
use Rattle.ppm_cut_code.specs.Inputs.{IsValue, IsInputOf}
use Rattle.ppm_cut_code.specs.Layout.{parameter_layout}
use Rattle.ppm_cut_code.specs.Routines.{code_of}
use Rattle.ppm_cut_code.proofs.MainLemmas.{whole_array, declared_parameter, main_names, root_region}
use Rattle.ppm_cut_code.proofs.RegionWords.{lengths_of, offset_of, region_word}
use Rattle.ppm_cut_correct.proofs.ExprLemmas.{holds_word}
use Rattle.ppm_cut_correct.proofs.Holding.{HoldsValue, Shows, Holds, strands}

-- how long the arrays of an input are
abbrev lengths_in : List NamedArray → List ℕ
lengths_in input = map (λ a. length a.values) input

-- a value of an input has a word
input_fits : (v : ℤ) → IsValue v → FitsSigned w64 v
input_fits (pos n) is = record { sfits = omega (arith, is) }
input_fits (negsuc n) is = record { sfits = omega (arith, is) }

-- what holds of each holds of the one at a place
at_place : {A : Type 0} (P : A → Type 0) (xs : List A) (i : ℕ) (d : A) → AllByRecursion P xs → i < length xs → P (get_or xs i d)
at_place P [] i d all low = absurd (omega (arith, low))
at_place P (x ∷ xs) zero d all low = all.0
at_place P (x ∷ xs) (suc i) d all low = at_place P xs i d all.1 (omega (arith, low))

shape_begins : (input : List NamedArray) (k : ℕ) → length (array_at (values_of input) k) ≡ get_or (lengths_in input) k 0
shape_begins [] k = refl
shape_begins (a ∷ input) zero = refl
shape_begins (a ∷ input) (suc k) = shape_begins input k

-- the words of the first array, and of those after it
first_word : (a : NamedArray) (input : List NamedArray) (i : ℕ) → i < length a.values
    → words_of (words_in (a ∷ input)) (0 + i) ≡ word_of (get_or a.values i (pos 0))
first_word a input i low =
    let count = length-map a.values word_of in
    let same : 0 + i ≡ i = omega arith in
    ap (words_of (words_in (a ∷ input))) same
    ∙ get_or_append_left (map word_of a.values) (words_in input) 0 i (omega (arith, low, count)) ∙ get_or-map word_of a.values i (pos 0) 0 low

later_word : (a : NamedArray) (input : List NamedArray) (o i : ℕ)
    → words_of (words_in (a ∷ input)) (length a.values + o + i) ≡ words_of (words_in input) (o + i)
later_word a input o i =
    let count = length-map a.values word_of in
    let same : length a.values + o + i ≡ length (map word_of a.values) + (o + i) = omega (arith, count) in
    ap (words_of (words_in (a ∷ input))) same ∙ get_or-append-add (map word_of a.values) (words_in input) (o + i) 0

word_begins : (input : List NamedArray) → AllByRecursion (λ a. All IsValue a.values) input → (k i : ℕ) → i < get_or (lengths_in input) k 0
    → HoldsValue (words_of (words_in input) (offset_of (lengths_in input) k + i)) (get_or (array_at (values_of input) k) i (pos 0))
word_begins [] all k i low = absurd (omega (arith, low))
word_begins (a ∷ input) all zero i low =
    subst (λ (w : ℕ). HoldsValue w (get_or a.values i (pos 0))) (sym (first_word a input i low))
    (holds_word (get_or a.values i (pos 0)) (input_fits (get_or a.values i (pos 0))
    (at_place IsValue a.values i (pos 0) (recursion_from_All IsValue a.values all.0) low)))
word_begins (a ∷ input) all (suc k) i low =
    subst (λ (w : ℕ). HoldsValue w (get_or (array_at (values_of input) k) i (pos 0))) (sym (later_word a input (offset_of (lengths_in input) k) i))
    (word_begins input all.1 k i low)

-- the words with which a run begins show the input's arrays
pub input_shown : (t : ProgramTree) (input : List NamedArray) → IsInputOf t input
    → Shows (lengths_of t.arrays) (words_of (words_in input)) (values_of input)
input_shown t input is =
    subst (λ (lengths : List ℕ). Shows lengths (words_of (words_in input)) (values_of input)) is.lengths (record {
      shape = shape_begins input;
      word = word_begins input (recursion_from_All (λ a. All IsValue a.values) input is.values);
    })

-- they are as many as the words of the program's arrays
count_words : (input : List NamedArray) → length (words_in input) ≡ sum (lengths_in input)
count_words [] = refl
count_words (a ∷ input) =
    let both = length-append (map word_of a.values) (words_in input) in
    let few = length-map a.values word_of in
    let rest = count_words input in
    let all = sum_by-cons (λ (n : ℕ). n) (length a.values) (lengths_in input) in
    omega (arith, both, few, rest, all)

words_counted : (t : ProgramTree) (input : List NamedArray) → IsInputOf t input → length (words_in input) ≡ sum (lengths_of t.arrays)
words_counted t input is = count_words input ∙ ap sum is.lengths

-- the code's strands over the input are those over arrays of these lengths
pub strands_are : (t : ProgramTree) (input : List NamedArray) → IsInputOf t input
    → strands_of (code_of t) input ≡ strands (lengths_of t.arrays) (code_of t)
strands_are t input is = rw (words_counted t input is) refl

-- the region word of an array of the input
region_begins : (start : ℕ) (input : List NamedArray) (k : ℕ) → k < length input
    → get_or (regions_from start input) k 0 ≡ (start + offset_of (lengths_in input) k) * 2 ^ 32 + get_or (lengths_in input) k 0
region_begins start [] k low = absurd (omega (arith, low))
region_begins start (a ∷ input) zero low = omega arith
region_begins start (a ∷ input) (suc k) low =
    let rest = region_begins (start + length a.values) input k (omega (arith, low)) in
    omega (arith, rest)

module _ (t : ProgramTree) (input : List NamedArray) (admitted : IsAdmitted t) (is : IsInputOf t input) where
  -- as many arrays as the program declares
  pub as_many : length input ≡ length t.arrays
  as_many =
      let a = length-map input (λ a. a.name) in
      let b = length-map t.arrays (λ a. a.name.name) in
      let same = ap (λ (ns : List (List ℕ)). length ns) is.names in
      omega (arith, a, b, same)

  -- the region words with which the run begins
  words_begin : (k : ℕ) → k < length t.arrays
      → get_or (regions_from 0 input) k 0 ≡ region_word (lengths_of t.arrays) (whole_array k t.arrays k)
  words_begin k low =
      let low_here : k < length input = let m = as_many in omega (arith, m, low) in
      let begins = subst (λ (ls : List ℕ). get_or (regions_from 0 input) k 0 ≡ (0 + offset_of ls k) * 2 ^ 32 + get_or ls k 0) is.lengths
      (region_begins 0 input k low_here) in
      omega (arith, begins)

  -- the root's frame holds that of `main`
  pub root_holds : Holds (lengths_of t.arrays) (scope_of (main_of t)) (parameter_layout (main_of t).parameters)
      (main_frame t.arrays (main_of t).parameters)
      (root_own (code_of t) input)
  root_holds = record {
    local = λ x d found kind has.
        let p = declared_parameter (main_of t).parameters x d found in
        absurd ((main_names t admitted p.0 p.1).mode (number_is p.0.mode (ap (λ (d : Declaration). is_region d.mode) p.2 ∙ kind)));
    region = λ x d found kind has. root_region t admitted (regions_from 0 input) words_begin x d found has
        ∙ ap (region_word (lengths_of t.arrays)) (sym (main_regions t.arrays (main_of t).parameters x d found));
    value = refl;
  }

-- the values that words stand for, from an address on
values_shown : (b : Words) (start : ℕ) (v : List ℤ) → ((i : ℕ) → i < length v → value_of (b (start + i)) ≡ get_or v i (pos 0))
    → values_at b start (length v) ≡ v
values_shown b start [] h = refl
values_shown b start (x ∷ v) h =
    let first : start ≡ start + 0 = omega arith in
    let rest : values_at b (start + 1) (length v) ≡ v = values_shown b (start + 1) v (λ i low.
    let same : start + 1 + i ≡ start + suc i = omega arith in
    ap (λ (a : ℕ). value_of (b a)) same ∙ h (suc i) (omega (arith, low))) in
    ap₂ (λ (x : ℤ) (v : List ℤ). x ∷ v) (ap (λ (a : ℕ). value_of (b a)) first ∙ h 0 (omega arith)) rest

-- the arrays that words show, from an address on
arrays_shown : (b : Words) (start : ℕ) (input : List NamedArray) (arrays : Arrays) → length arrays ≡ length input
    → ((k : ℕ) → length (array_at arrays k) ≡ get_or (lengths_in input) k 0)
    → ((k i : ℕ) → i < get_or (lengths_in input) k 0
    → value_of (b (start + (offset_of (lengths_in input) k + i))) ≡ get_or (array_at arrays k) i (pos 0))
    → arrays_at b start input ≡ with_names input arrays
arrays_shown b start [] arrays count shape word = refl
arrays_shown b start (a ∷ input) [] count shape word = absurd (omega (arith, count))
arrays_shown b start (a ∷ input) (v ∷ arrays) count shape word =
    let values : values_at b start (length a.values) ≡ v =
    ap (values_at b start) (sym (shape 0)) ∙ values_shown b start v (λ i low.
    let same : start + i ≡ start + (0 + i) = omega arith in
    ap (λ (x : ℕ). value_of (b x)) same ∙ word 0 i (let e = shape 0 in omega (arith, low, e))) in
    let rest : arrays_at b (start + length a.values) input ≡ with_names input arrays =
    arrays_shown b (start + length a.values) input arrays (omega (arith, count)) (λ k. shape (suc k)) (λ k i low.
    let o = offset_of (lengths_in input) k in
    let same : start + length a.values + (o + i) ≡ start + (length a.values + o + i) = omega arith in
    ap (λ (x : ℕ). value_of (b x)) same ∙ word (suc k) i low) in
    ap₂ (λ (v : List ℤ) (xs : List NamedArray). record { name = a.name; values = v } ∷ xs) values rest

-- What is said of the end of a run whose words show arrays, as many as the input's. `Shows` alone does not say how many: an array of no
-- word is like none.
pub said_shown : (t : ProgramTree) (input : List NamedArray) → IsInputOf t input → (b : Words) (arrays : Arrays) (word : ℕ) (v : ℤ)
    → length arrays ≡ length input → Shows (lengths_of t.arrays) b arrays → said_of input b (Gave word) ≡ outcome_of input (Ended v arrays)
said_shown t input is b arrays word v count shown =
    let s = subst (λ (lengths : List ℕ). Shows lengths b arrays) (sym is.lengths) shown in
    ap outcome.Ended (arrays_shown b 0 input arrays count s.shape (λ k i low.
    let same : 0 + (offset_of (lengths_in input) k + i) ≡ offset_of (lengths_in input) k + i = omega arith in
    ap (λ (x : ℕ). value_of (b x)) same ∙ (s.word k i low).value))

-- and of one that trapped
pub said_trapped : (input : List NamedArray) (b : Words) (stop : TrapAt) (arrays : Arrays)
    → said_of input b (TrappedAt stop.0 stop.1) ≡ outcome_of input (Trapped stop arrays)
said_trapped input b stop arrays = refl

-- a run leaves as many arrays as the input has
pub run_keeps_count : (form : Form) (t : ProgramTree) → IsAdmitted t → (input : List NamedArray) (k : Counts) (z : End ℤ)
    → Means form t (values_of input) k z → length (arrays_of z) ≡ length input
run_keeps_count form t admitted input k z runs =
    let within = (within_everywhere form t admitted).procedure (codes "main") (main_frame t.arrays (main_of t).parameters) in
    let shape : HaveOneShape (values_of input) (arrays_of z) = (within.changes (values_of input) k z runs).shape in
    sym shape.count ∙ length-map input (λ a. a.values)
