-- The text of a state is read to its end, line by line, and there nothing is wrong.
use Rattle.std.proofs.Common.{◌≡◌, ◌≢◌, ◌∙◌, ◌⊎◌, inl, inr, ℕ, ◌+◌, ◌-◌, ◌≤◌, ◌==◌, Bool, true, false, cond, nat_le, List, [], ◌∷◌, ◌++◌, length, take, drop, codes, decimal, Some, None, refl, sym, ap, subst, arith, append_assoc, length-append}
use Rattle.std.specs.List.{flat_map, list_all, AllByRecursion}
use Rattle.std.specs.Str.{bytes_eq}
use Rattle.std.proofs.Math.Seq.{take-append_seam, drop-append_seam}
use Rattle.std.proofs.lemmas.Bool.{both_ways, and_parts, and_from, cond-true, le-leb, ne_eqb}
use Rattle.std.proofs.lemmas.Bool.Decides.{eqb_tells}
use Rattle.std.proofs.lemmas.List.{append-nil}
use Rattle.std.proofs.lemmas.List.Elements.{recursion_from_All}
use Rattle.std.proofs.lemmas.List.Folds.{list_all-append}
use Rattle.std.proofs.lemmas.Slice.Eq.{bytes_eq-Decides}
use Rattle.ppm_words.specs.Names.{is_name_byte}
use Rattle.ppm_pieces.specs.Numbers.{is_digit, is_numeral}
use Rattle.ppm_pieces.specs.Pieces.{halves_of}
use Rattle.ppm_pieces.proofs.NumberLemmas.{numeral-decimal}
use Rattle.ppm_cells.specs.Cells.{arrays_at}
use Rattle.ppm_cells.specs.declared.shape.Shape.{Shape}
use Rattle.ppm_code.specs.declared.code.CodeParts.{CodeParts}
use Rattle.ppm_listing.specs.Listing.{listing_of}
use Rattle.ppm_saved.specs.Correct.{IsWord, LengthFits, RunFits}
use Rattle.ppm_saved.specs.Names.{IsArrayName, AreNames}
use Rattle.ppm_saved.specs.Runs.{runs_of, AreLongest}
use Rattle.ppm_saved.specs.Text.{numbers_text, shape_line, array_line, code_line, times_text, run_line, words_text}
use Rattle.ppm_saved.specs.declared.names.NamedLength.{NamedLength}
use Rattle.ppm_saved.specs.declared.run.Run.{Run}
use Rattle.ppm_saved.proofs.RunLemmas.{runs_are_longest}
use Rattle.ppm_saved.proofs.TellLemmas.{digits, name_bytes, run_split, text_split}
use Rattle.ppm_saved_reader.specs.declared.lines.Sizes.{Sizes}
use Rattle.ppm_saved_reader.specs.declared.saved_error.Fault.{Fault}
use Rattle.ppm_saved_reader.specs.Lines.{behind_halves, behind_word, number_in, number_behind, count_in, three, last_two, three_between, sizes_behind}
use Rattle.ppm_saved_reader.specs.Lines.{sizes_in, is_array_name, named, name_and_len, array_behind, array_in, word_in, times_in, run_between, run_in, first_line}
use Rattle.ppm_saved_reader.specs.Rules.{saved_limit, words_for, is_other_count, ends_with}
use Rattle.ppm_saved_reader.specs.Places.{Place, AtVersion, AtArrays, AtWords, AtRuns, Goes, Version, Shaped, Array, Coded, Counted, Repeated, LeadsTo, Stays, Then}
use Rattle.ppm_saved_reader.specs.Places.{IsWrong, NoRun, Same, NoWord}
use Rattle.ppm_saved_reader.specs.Correct.{sizes_of, IsSavedText, IsWrongAt, Breaks, TooLong}
use Rattle.ppm_saved_reader.proofs.OptionLemmas.{not_both}
use Rattle.ppm_saved_reader.proofs.LineLemmas.{halves_at, halves_off, split_some, first_line_some, first_line_none}
use Rattle.ppm_saved_reader.proofs.FormLemmas.{number_from, joined, worded, array_name_from, array_spelled, IsArrayLine, word_from, times_many}
use Rattle.ppm_saved_reader.proofs.NameLemmas.{next_keeps}
use Rattle.ppm_saved_reader.proofs.SpelledLemmas.{sizes_are}
use Rattle.ppm_saved_reader.proofs.CountLemmas.{count_line, count_end, times_sum, length-words_of}
use Rattle.ppm_saved_reader.proofs.PlaceLemmas.{leads_on, none_wrong}

-- any byte but one
abbrev but : ℕ → ℕ → Bool
but s b = cond (b == s) false true

-- bytes of a class have none that is not of it
no_byte : (p : ℕ → Bool) (s : ℕ) → p s ≡ false → (xs : List ℕ) → list_all p xs ≡ true → list_all (but s) xs ≡ true
no_byte p s n [] h = refl
no_byte p s n (b ∷ xs) h =
    and_from (but s b) (list_all (but s) xs) (by (b == s) (eqb_tells b s)) (no_byte p s n xs (and_parts (p b) (list_all p xs) h).1)
  where
    by : (same : Bool) → ((same ≡ true) × (b ≡ s)) ⊎ ((same ≡ false) × (b ≢ s)) → cond same false true ≡ true
    by true (inl t) = absurd (both_ways (p b) (ap p t.1 ∙ n) (and_parts (p b) (list_all p xs) h).0)
    by true (inr t) = absurd (both_ways true t.0 refl)
    by false t = refl

all_both : (p : ℕ → Bool) (xs ys : List ℕ) → list_all p xs ≡ true → list_all p ys ≡ true → list_all p (xs ++ ys) ≡ true
all_both p xs ys h k = list_all-append p xs ys ∙ and_from (list_all p xs) (list_all p ys) h k

no_feed : (n : ℕ) → IsWord n → list_all (but 10) (decimal n) ≡ true
no_feed n h = no_byte is_digit 10 refl (decimal n) (digits n h)

-- what stands after a word
behind_from : (word rest : List ℕ) → list_all (but 32) word ≡ true → behind_word word (word ++ 32 ∷ rest) ≡ Some rest
behind_from word rest h =
    ap (behind_halves word) (halves_at (but 32) 32 refl word rest h)
    ∙ cond-true (bytes_eq word word) (Some rest) None ((bytes_eq-Decides word word).1 refl)

-- a line of one number
count_first : (word : List ℕ) (v : ℕ) (rest : List ℕ) → list_all (but 10) word ≡ true → list_all (but 32) word ≡ true → IsWord v
    → first_line (count_in word) ((word ++ numbers_text (v ∷ [])) ++ rest) ≡ Some (v, rest)
count_first word v rest h k fits =
    let line : List ℕ = word ++ 32 ∷ decimal v in
    ap (first_line (count_in word)) (sym (worded word v [] rest))
    ∙ first_line_some (count_in word) (line ++ 10 ∷ rest) line rest v
    (halves_at (but 10) 10 refl line rest (all_both (but 10) word (32 ∷ decimal v) h (no_feed v fits)))
    (ap number_behind (behind_from word (decimal v) k) ∙ number_from v fits)

-- the sizes
sizes_first : (p r s : ℕ) (rest : List ℕ) → IsWord p → IsWord r → IsWord s
    → first_line sizes_in (shape_line p r s ++ rest) ≡ Some (record { processors = p; room = r; slots = s }, rest)
sizes_first p r s rest hp hr hs =
    let tail : List ℕ = decimal r ++ 32 ∷ decimal s in
    let line : List ℕ = codes "shape" ++ 32 ∷ joined p (r ∷ s ∷ []) in
    ap (first_line sizes_in) (sym (worded (codes "shape") p (r ∷ s ∷ []) rest))
    ∙ first_line_some sizes_in (line ++ 10 ∷ rest) line rest (record { processors = p; room = r; slots = s })
    (halves_at (but 10) 10 refl line rest (all_both (but 10) (codes "shape") (32 ∷ joined p (r ∷ s ∷ [])) refl
    (all_both (but 10) (decimal p) (32 ∷ tail) (no_feed p hp) (all_both (but 10) (decimal r) (32 ∷ decimal s) (no_feed r hr) (no_feed s hs)))))
    (ap sizes_behind (behind_from (codes "shape") (joined p (r ∷ s ∷ [])) refl)
    ∙ ap three_between (halves_at is_digit 32 refl (decimal p) tail (digits p hp))
    ∙ ap (last_two (decimal p)) (halves_at is_digit 32 refl (decimal r) (decimal s) (digits r hr))
    ∙ (λ i. three (number_from p hp i) (number_from r hr i) (number_from s hs i)))

-- an array
array_first : (a : NamedLength) (rest : List ℕ) → IsArrayName a.name → IsWord a.len → first_line array_in (array_line a ++ rest) ≡ Some ((a.name, a.len), rest)
array_first a rest h fits =
    let bytes = name_bytes a.name h.form in
    let line : List ℕ = codes "array" ++ 32 ∷ (a.name ++ 32 ∷ decimal a.len) in
    let is : IsArrayLine line (a.name, a.len) = record { name = h; same = refl } in
    ap (first_line array_in) (sym (array_spelled line rest (a.name, a.len) is))
    ∙ first_line_some array_in (line ++ 10 ∷ rest) line rest (a.name, a.len)
    (halves_at (but 10) 10 refl line rest (all_both (but 10) (codes "array") (32 ∷ (a.name ++ 32 ∷ decimal a.len)) refl
    (all_both (but 10) a.name (32 ∷ decimal a.len) (no_byte is_name_byte 10 refl a.name bytes) (no_feed a.len fits))))
    (ap array_behind (behind_from (codes "array") (a.name ++ 32 ∷ decimal a.len) refl)
    ∙ ap name_and_len (halves_at is_name_byte 32 refl a.name (decimal a.len) bytes)
    ∙ ap (named a.name) (number_from a.len fits)
    ∙ cond-true (is_array_name a.name) (Some (a.name, a.len)) None (array_name_from a.name h))

-- the line of a code is none of an array
code_first : (n : ℕ) (rest : List ℕ) → IsWord n → first_line array_in (code_line n ++ rest) ≡ None
code_first n rest fits =
    let line : List ℕ = codes "code" ++ 32 ∷ decimal n in
    ap (first_line array_in) (sym (worded (codes "code") n [] rest))
    ∙ first_line_none array_in (line ++ 10 ∷ rest) line rest
    (halves_at (but 10) 10 refl line rest (all_both (but 10) (codes "code") (32 ∷ decimal n) refl (no_feed n fits)))
    refl

-- a run
abbrev run_bytes : Run → List ℕ
run_bytes r = decimal r.word ++ times_text r.times

times_feed : (n : ℕ) → IsWord n → list_all (but 10) (times_text n) ≡ true
times_feed n h = by (n == 1)
  where
    by : (b : Bool) → list_all (but 10) (cond b [] (42 ∷ decimal n)) ≡ true
    by true = refl
    by false = no_feed n h

run_halves : (r : Run) (rest : List ℕ) → RunFits r → halves_of 10 (run_line r ++ rest) ≡ Some (run_bytes r, rest)
run_halves r rest fits =
    ap (halves_of 10) (run_split r rest ∙ sym (append_assoc (decimal r.word) (times_text r.times) (10 ∷ rest)))
    ∙ halves_at (but 10) 10 refl (run_bytes r) rest
    (all_both (but 10) (decimal r.word) (times_text r.times) (no_feed r.word fits.0) (times_feed r.times fits.1))

run_says : (w n : ℕ) → IsWord w → IsWord n → 1 ≤ n → run_in (decimal w ++ times_text n) ≡ Some (Some w, n)
run_says w n hw hn least = by (n == 1) refl (eqb_tells n 1)
  where
    by : (one : Bool) → (n == 1) ≡ one → ((one ≡ true) × (n ≡ 1)) ⊎ ((one ≡ false) × (n ≢ 1)) → run_in (decimal w ++ times_text n) ≡ Some (Some w, n)
    by true k (inl t) =
        ap run_in (ap (λ (b : Bool). decimal w ++ cond b [] (42 ∷ decimal n)) k ∙ append-nil (decimal w))
        ∙ ap (run_between (decimal w)) (halves_off is_digit 42 refl (decimal w) (digits w hw))
        ∙ cond-true (is_numeral (decimal w)) (Some (word_in (decimal w), 1)) None (numeral-decimal w hw)
        ∙ (λ i. Some (word_from w hw i, sym t.1 i))
    by true k (inr t) = absurd (both_ways true t.0 refl)
    by false k (inl t) = absurd (both_ways false refl t.0)
    by false k (inr t) =
        let many : 2 ≤ n = omega (arith, least, t.1) in
        ap run_in (ap (λ (l : List ℕ). decimal w ++ l) (times_many n many))
        ∙ ap (run_between (decimal w ++ 42 ∷ decimal n)) (halves_at is_digit 42 refl (decimal w) (decimal n) (digits w hw))
        ∙ cond-true (is_numeral (decimal w)) (times_in (decimal w) (number_in (decimal n))) None (numeral-decimal w hw)
        ∙ ap (times_in (decimal w)) (number_from n hn)
        ∙ cond-true (nat_le 2 n) (Some (word_in (decimal w), n)) None (le-leb 2 n many)
        ∙ (λ i. Some (word_from w hw i, n))

run_first : (r : Run) (rest : List ℕ) → RunFits r → 1 ≤ r.times → first_line run_in (run_line r ++ rest) ≡ Some ((Some r.word, r.times), rest)
run_first r rest fits least =
    first_line_some run_in (run_line r ++ rest) (run_bytes r) rest (Some r.word, r.times) (run_halves r rest fits)
    (run_says r.word r.times fits.0 fits.1 least)

-- the longest runs have a word each
parts : (r : Run) (rs : List Run) → AreLongest (r ∷ rs) → (1 ≤ r.times) × AreLongest rs
parts r [] h = (h, tt)
parts r (q ∷ rs) h = (h.0, h.2)

-- runs are as many words as is said
runs_counted : (rs : List Run) → AreLongest rs → AllByRecursion RunFits rs → is_other_count (times_sum rs) (flat_map run_line rs) ≡ false
runs_counted [] h fits = count_end 0 [] refl
runs_counted (r ∷ rs) h fits =
    let k = parts r rs h in
    let rest : List ℕ = flat_map run_line rs in
    let left : times_sum (r ∷ rs) - r.times ≡ times_sum rs = omega arith in
    count_line (times_sum (r ∷ rs)) (run_line r ++ rest) (run_bytes r) rest (Some r.word) r.times
    (split_some 10 (run_line r ++ rest) (run_bytes r) rest (run_halves r rest fits.0))
    (run_says r.word r.times fits.0.0 fits.0.1 k.0) (omega arith)
    ∙ ap (λ c. is_other_count c rest) left
    ∙ runs_counted rs k.1 fits.1

-- one way from a place to another
abbrev Leads : Place → List ℕ → Place → List ℕ → Type 0
Leads p t q r = (n : ℕ) × LeadsTo p t n q r

then_on : {p q s : Place} {t r x : List ℕ} {n : ℕ} → Goes p t n q r → Leads q r s x → Leads p t s x
then_on {n = n} g k = (n + k.0, Then g k.1)

join : {p q s : Place} {t r x : List ℕ} → Leads p t q r → Leads q r s x → Leads p t s x
join a b = (a.0 + b.0, leads_on a.1 b.1)

-- in the longest runs a run has another word than the one in front of it
other_word : (done : List Run) (r : Run) (rs : List Run) → AreLongest (done ++ r ∷ rs) → (ends_with done r.word ≡ false) × (1 ≤ r.times)
other_word [] r rs h = (refl, (parts r rs h).0)
other_word (d ∷ []) r rs h = (ne_eqb d.word r.word h.1, (parts r rs h.2).0)
other_word (d ∷ e ∷ done) r rs h = other_word (e ∷ done) r rs h.2

runs_lead : (z : Sizes) (arrays : List NamedLength) (code : CodeParts) (done rs : List Run) → AreLongest (done ++ rs) → AllByRecursion RunFits rs
    → Leads (AtRuns z arrays code done) (flat_map run_line rs) (AtRuns z arrays code (done ++ rs)) []
runs_lead z arrays code done [] h fits =
    subst (λ (l : List Run). Leads (AtRuns z arrays code done) [] (AtRuns z arrays code l) []) (sym (append-nil done)) (0, Stays)
runs_lead z arrays code done (r ∷ rs) h fits =
    let same : (done ++ r ∷ []) ++ rs ≡ done ++ r ∷ rs = append_assoc done (r ∷ []) rs in
    let k = other_word done r rs h in
    then_on (Repeated (run_first r (flat_map run_line rs) fits.0 k.1) k.0)
    (subst (λ (l : List Run). Leads (AtRuns z arrays code (done ++ r ∷ [])) (flat_map run_line rs) (AtRuns z arrays code l) []) same
    (runs_lead z arrays code (done ++ r ∷ []) rs (subst AreLongest (sym same) h) fits.1))

-- arrays
pick : (done : List NamedLength) (a : NamedLength) (xs : List NamedLength) → AllByRecursion (λ (b : NamedLength). IsArrayName b.name) (done ++ a ∷ xs)
    → IsArrayName a.name
pick [] a xs h = h.0
pick (d ∷ done) a xs h = pick done a xs h.1

arrays_lead : (z : Sizes) (done xs : List NamedLength) (rest : List ℕ) → AreNames (done ++ xs) → AllByRecursion LengthFits xs
    → Leads (AtArrays z done) (flat_map array_line xs ++ rest) (AtArrays z (done ++ xs)) rest
arrays_lead z done [] rest h fits =
    subst (λ (l : List NamedLength). Leads (AtArrays z done) rest (AtArrays z l) rest) (sym (append-nil done)) (0, Stays)
arrays_lead z done (a ∷ xs) rest h fits =
    let same : (done ++ a ∷ []) ++ xs ≡ done ++ a ∷ xs = append_assoc done (a ∷ []) xs in
    let name = pick done a xs (recursion_from_All (λ (b : NamedLength). IsArrayName b.name) (done ++ a ∷ xs) h.names) in
    let k = next_keeps done a xs h in
    let behind : List ℕ = flat_map array_line xs ++ rest in
    let goes = arrays_lead z (done ++ a ∷ []) xs rest (subst AreNames (sym same) h) fits.1 in
    subst (λ (t : List ℕ). Leads (AtArrays z done) t (AtArrays z (done ++ a ∷ xs)) rest) (sym (append_assoc (array_line a) (flat_map array_line xs) rest))
    (then_on (Array (array_first a behind name fits.0) k.0 k.1)
    (subst (λ (l : List NamedLength). Leads (AtArrays z (done ++ a ∷ [])) behind (AtArrays z l) rest) same goes))

-- a code and the words after it
module _ (s : Shape) (arrays : List NamedLength) (code : CodeParts) (words : List ℕ) (text : List ℕ) (h : IsSavedText text s arrays code words) where
  words_lead : Leads (AtWords (sizes_of s) arrays code) (words_text words) (AtRuns (sizes_of s) arrays code (runs_of words)) []
  words_lead =
      let longest = runs_are_longest.longest words in
      let counted : length words ≡ words_for (sizes_of s) arrays = h.whole.words_are ∙ ap (λ n. arrays_at s + n) (sym h.whole.arrays_are) in
      let summed : times_sum (runs_of words) ≡ length words =
      sym (length-words_of (runs_of words)) ∙ ap (λ (l : List ℕ). length l) (runs_are_longest.words words) in
      then_on
      (Counted (count_first (codes "words") (length words) (flat_map run_line (runs_of words)) refl refl h.fits.count) counted
      (ap (λ n. is_other_count n (flat_map run_line (runs_of words))) (sym summed) ∙ runs_counted (runs_of words) longest h.fits.runs))
      (runs_lead (sizes_of s) arrays code [] (runs_of words) longest h.fits.runs)

  code_lead : Leads (AtArrays (sizes_of s) arrays) (code_line (length (listing_of code)) ++ (listing_of code ++ words_text words))
      (AtRuns (sizes_of s) arrays code (runs_of words)) []
  code_lead =
      let listing : List ℕ = listing_of code in
      let taken : take (length listing) (listing ++ words_text words) ≡ listing = take-append_seam listing (words_text words) in
      let left : drop (length listing) (listing ++ words_text words) ≡ words_text words = drop-append_seam listing (words_text words) in
      then_on
      (Coded (code_first (length listing) (listing ++ words_text words) h.fits.bytes)
      (count_first (codes "code") (length listing) (listing ++ words_text words) refl refl h.fits.bytes)
      (omega (arith, length-append listing (words_text words)))
      (record { code = h.code_is; fits = h.fits.numbers; same = taken }) h.whole.named h.free h.tidy)
      (subst (λ (t : List ℕ). Leads (AtWords (sizes_of s) arrays code) t (AtRuns (sizes_of s) arrays code (runs_of words)) []) (sym left) words_lead)

  text_leads : Leads AtVersion text (AtRuns (sizes_of s) arrays code (runs_of words)) []
  text_leads =
      let behind : List ℕ = code_line (length (listing_of code)) ++ (listing_of code ++ words_text words) in
      let k = sizes_are (sizes_of s) h.sizes in
      subst (λ (t : List ℕ). Leads AtVersion t (AtRuns (sizes_of s) arrays code (runs_of words)) [])
      (sym (h.same ∙ text_split s arrays (listing_of code) words))
      (then_on (Version refl)
      (then_on
      (Shaped (sizes_first s.processors s.room s.slots (flat_map array_line arrays ++ behind)
      (omega (arith, k.processors_most)) (omega (arith, k.room_most)) (omega (arith, k.slots_most))) h.sizes)
      (join (arrays_lead (sizes_of s) [] arrays behind h.fits.names h.fits.lengths) code_lead)))

-- at the end reading does not go on, and nothing is wrong
stuck : {z : Sizes} {arrays : List NamedLength} {code : CodeParts} {rs : List Run} (v : Place) (y : List ℕ) (k : ℕ) → Goes (AtRuns z arrays code rs) [] k v y → ⊥
stuck v y k (Repeated e other) = not_both refl e

fine : {z : Sizes} {arrays : List NamedLength} {code : CodeParts} {rs : List Run} (f : Fault) → IsWrong (AtRuns z arrays code rs) [] f → ⊥
fine f (NoRun some e) = some refl
fine f (Same e other) = not_both refl e
fine f (NoWord e) = not_both refl e

-- the text of a state is wrong nowhere
pub text_right : (text : List ℕ) (s : Shape) (arrays : List NamedLength) (code : CodeParts) (words : List ℕ) (f : Fault) (line : ℕ)
    → length text ≤ saved_limit → IsSavedText text s arrays code words → IsWrongAt text f line → ⊥
text_right text s arrays code words f line short h (Breaks r w) = none_wrong stuck fine (text_leads s arrays code words text h).1 r.leads w
text_right text s arrays code words f line short h (TooLong long) = omega (arith, short, long)
