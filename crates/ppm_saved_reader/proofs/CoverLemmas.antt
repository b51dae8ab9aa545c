-- A text that is wrong nowhere is read to its end, and is that of the state that was read; that of a state is wrong nowhere, and is that of one.
use Rattle.std.proofs.Common.{◌≡◌, ◌∙◌, ◌⊎◌, inl, inr, ℕ, zero, suc, ◌*◌, ◌+◌, ◌<◌, ◌≤◌, Bool, true, false, nat_lt, List, [], ◌∷◌, length, take, codes, Option, Some, None, refl, sym, ap, subst, arith}
use mathlib.Core.HLevel.{is_prop→PathP}
use Rattle.std.specs.Coded.{le_prop}
use Rattle.std.specs.List.{list_all, sum}
use Rattle.std.proofs.lemmas.Bool.{both_ways, cases_lt, cases_eq}
use Rattle.ppm_words.specs.Limits.{word_limit}
use Rattle.ppm_cells.specs.Limits.{most_pool_words}
use Rattle.ppm_cells.specs.Shape.{HasSizes}
use Rattle.ppm_cells.specs.declared.shape.Shape.{Shape}
use Rattle.ppm_cells.specs.declared.shape.Takeover.TheVariants.{ByPlaces}
use Rattle.ppm_code.specs.declared.code.CodeParts.{CodeParts}
use Rattle.ppm_listing_reader.specs.Correct.{IsListing, FaultsTellListings}
use Rattle.ppm_saved.specs.Names.{lengths_of}
use Rattle.ppm_saved.specs.Runs.{words_of}
use Rattle.ppm_saved.specs.declared.names.NamedLength.{NamedLength}
use Rattle.ppm_saved.specs.declared.run.Run.{Run}
use Rattle.ppm_saved.proofs.TellLemmas.{texts_tell}
use Rattle.ppm_saved_reader.specs.declared.lines.Sizes.{Sizes}
use Rattle.ppm_saved_reader.specs.declared.saved_error.Fault.{Fault}
use Rattle.ppm_saved_reader.specs.Lines.{first_line, version_in, sizes_in, array_in, count_in, run_in}
use Rattle.ppm_saved_reader.specs.Rules.{saved_limit, sizes_fit, is_twice, is_past, words_for, is_other_count, ends_with}
use Rattle.ppm_saved_reader.specs.Places.{Place, AtSizes, AtArrays, AtWords, AtRuns, NamesArrays}
use Rattle.ppm_saved_reader.specs.Places.{Version, Shaped, Array, Coded, Counted, Repeated}
use Rattle.ppm_saved_reader.specs.Places.{IsWrong, NoVersion, NoSizes, NoFit, NoArray, BadArray, BadCode, NoCount, OtherCount, NoRun, Same, NoWord}
use Rattle.ppm_saved_reader.specs.Places.{Twice, TooMany, Short, NoListing, Conflicting}
use Rattle.ppm_saved_reader.specs.Correct.{IsRead, IsSavedText, IsWrongAt, Breaks, TooLong, HasState}
use Rattle.ppm_saved_reader.proofs.LineLemmas.{first_line_back}
use Rattle.ppm_saved_reader.proofs.HeadLemmas.{named_from, named_back}
use Rattle.ppm_saved_reader.proofs.LoopLemmas.{shorter}
use Rattle.ppm_saved_reader.proofs.PlaceLemmas.{reads_all, reads_on}
use Rattle.ppm_saved_reader.proofs.SpelledLemmas.{sizes_are, read_front, read_count, read_text, whole_state}
use Rattle.ppm_saved_reader.proofs.WrittenLemmas.{text_right}
use Rattle.ppm_saved_reader.proofs.LengthLemmas.{text_short}
use Rattle.ppm_saved_reader.proofs.StableLemmas.{stable}

-- a text after its first line is shorter
behind_line : {A : Type 0} (form : List ℕ → Option A) (t r : List ℕ) (a : A) → first_line form t ≡ Some (a, r) → length r < length t
behind_line form t r a e = let (l, f, cut) = first_line_back form t r a e in shorter t l r cut

-- a machine of sizes that fit
shape_for : (z : Sizes) (words : ℕ) → sizes_fit z ≡ true → words ≤ word_limit → (s : Shape) × HasSizes z.processors z.room z.slots words s
shape_for z words fit few =
    let h = sizes_are z fit in
    let s : Shape = record {
      processors = z.processors;
      room = z.room;
      slots = z.slots;
      arrays = words;
      takeover = ByPlaces;
      within = record {
        processors_least = h.processors_least;
        processors_most = omega (arith, h.processors_most);
        room_least = h.room_least;
        pools_most = omega (arith, h.pools_most);
        slots_least = h.slots_least;
        slots_most = omega (arith, h.slots_most);
        arrays_most = few;
      };
    } in
    (s, record { processors_are = refl; room_is = refl; slots_are = refl; arrays_are = refl; by_places = refl })

-- a text was read to its end, past the code
record IsReadOut (text : List ℕ) : Type 0 where
  sizes : Sizes
  arrays : List NamedLength
  code : CodeParts
  line : ℕ
  behind : List ℕ
  coded : IsRead text (AtWords sizes arrays code) line behind
  runs : List Run
  last : ℕ
  all : IsRead text (AtRuns sizes arrays code runs) last []

module _ (listings : FaultsTellListings) (text : List ℕ) (none : (f : Fault) (line : ℕ) → IsWrongAt text f line → ⊥) where
  -- no place that was reached is wrong
  right : {p : Place} {t : List ℕ} {line : ℕ} {f : Fault} → IsRead text p line t → IsWrong p t f → ⊥
  right {line = line} {f = f} k w = none f line (Breaks k w)

  -- the text is not too long
  short : length text ≤ saved_limit
  short = by (cases_lt saved_limit (length text))
    where
      by : (saved_limit < length text) ⊎ (length text ≤ saved_limit) → length text ≤ saved_limit
      by (inl long) = absurd (none _ 1 (TooLong long))
      by (inr h) = h

  -- the runs of words, one by one
  module _ (z : Sizes) (arrays : List NamedLength) (code : CodeParts) where
    record AreReadOut : Type 0 where
      runs : List Run
      last : ℕ
      all : IsRead text (AtRuns z arrays code runs) last []

    run_out : (rs : List Run) (line : ℕ) (t : List ℕ) → IsRead text (AtRuns z arrays code rs) line t
        → ((more : List Run) (at : ℕ) (rest : List ℕ) → length rest < length t → IsRead text (AtRuns z arrays code more) at rest → AreReadOut) → AreReadOut
    run_out rs line [] k on = record { runs = rs; last = line; all = k }
    run_out rs line (b ∷ t) k on = by (first_line run_in (b ∷ t)) refl
      where
        more : (w times : ℕ) (rest : List ℕ) → first_line run_in (b ∷ t) ≡ Some ((Some w, times), rest) → (same : Bool) → ends_with rs w ≡ same → AreReadOut
        more w times rest e true same = absurd (right k (Same e same))
        more w times rest e false other =
            on _ (line + 1) rest (behind_line run_in (b ∷ t) rest (Some w, times) e) (reads_on k (Repeated e other))

        by : (o : Option ((Option ℕ × ℕ) × List ℕ)) → first_line run_in (b ∷ t) ≡ o → AreReadOut
        by None e = absurd (right k (NoRun (λ is. omega (arith, ap (λ (l : List ℕ). length l) is)) e))
        by (Some ((None, times), rest)) e = absurd (right k (NoWord e))
        by (Some ((Some w, times), rest)) e = more w times rest e (ends_with rs w) refl

    runs_out : (n : ℕ) (rs : List Run) (line : ℕ) (t : List ℕ) → length t ≤ n → IsRead text (AtRuns z arrays code rs) line t → AreReadOut
    runs_out zero rs line t few k = run_out rs line t k (λ more at rest less read. absurd (omega (arith, few, less)))
    runs_out (suc n) rs line t few k = run_out rs line t k (λ more at rest less read. runs_out n more at rest (omega (arith, few, less)) read)

    -- their count
    count_out : (line : ℕ) (t : List ℕ) → IsRead text (AtWords z arrays code) line t → IsReadOut text
    count_out line t k = by (first_line (count_in (codes "words")) t) refl
      where
        out : AreReadOut → IsReadOut text
        out h = record {
          sizes = z;
          arrays = arrays;
          code = code;
          line = line;
          behind = t;
          coded = k;
          runs = h.runs;
          last = h.last;
          all = h.all;
        }

        counted : (count : ℕ) (rest : List ℕ) → first_line (count_in (codes "words")) t ≡ Some (count, rest)
            → (count ≡ words_for z arrays) ⊎ (count ≡ words_for z arrays → ⊥) → (other : Bool) → is_other_count count rest ≡ other → IsReadOut text
        counted count rest e (inr differs) other o = absurd (right k (OtherCount e (λ same. absurd (differs same))))
        counted count rest e (inl same) true o = absurd (right k (OtherCount e (λ same. o)))
        counted count rest e (inl same) false o = out (runs_out (length rest) [] (line + 1) rest (omega arith) (reads_on k (Counted e same o)))

        by : (o : Option (ℕ × List ℕ)) → first_line (count_in (codes "words")) t ≡ o → IsReadOut text
        by None e = absurd (right k (NoCount e))
        by (Some (count, rest)) e = counted count rest e (cases_eq count (words_for z arrays)) (is_other_count count rest) refl

  -- the code after its line
  module _ (z : Sizes) (arrays : List NamedLength) (line : ℕ) (t : List ℕ) (k : IsRead text (AtArrays z arrays) line t) (no : first_line array_in t ≡ None)
      (bytes : ℕ) (rest : List ℕ) (e : first_line (count_in (codes "code")) t ≡ Some (bytes, rest)) (within : bytes ≤ length rest) where
    -- the bytes are a listing
    listing : (code : CodeParts) × IsListing (take bytes rest) code
    listing = listings.covers (take bytes rest) (λ rule at fault. right k (BadCode no e (NoListing within
        (λ code is named. listings.excludes (take bytes rest) code rule at is fault))))

    -- its arrays are there
    named : NamesArrays (length arrays) listing.0
    named = by (list_all (λ number. nat_lt number (length arrays)) listing.0.arrays) refl
      where
        by : (b : Bool) → list_all (λ number. nat_lt number (length arrays)) listing.0.arrays ≡ b → NamesArrays (length arrays) listing.0
        by true h = named_from (length arrays) listing.0.arrays h
        by false h = absurd (right k (BadCode no e (NoListing within (λ code is names. both_ways _ h (named_back (length arrays) listing.0.arrays
            (subst (NamesArrays (length arrays)) (listings.one_code (take bytes rest) code listing.0 is listing.1) names))))))

    code_out : IsReadOut text
    code_out =
        let fine = stable listing.0 (λ never. right k (BadCode no e (Conflicting within listing.1 named never))) in
        count_out z arrays listing.0 _ _ (reads_on k (Coded no e within listing.1 named fine.0 fine.1))

  -- the arrays, one by one, and then the code
  array_out : (z : Sizes) (arrays : List NamedLength) (line : ℕ) (t : List ℕ) → IsRead text (AtArrays z arrays) line t
      → ((more : List NamedLength) (at : ℕ) (rest : List ℕ) → length rest < length t → IsRead text (AtArrays z more) at rest → IsReadOut text) → IsReadOut text
  array_out z arrays line t k on = by (first_line array_in t) refl
    where
      coded : first_line array_in t ≡ None → (o : Option (ℕ × List ℕ)) → first_line (count_in (codes "code")) t ≡ o → IsReadOut text
      coded none None e = absurd (right k (NoArray none e))
      coded none (Some (bytes, rest)) e = elim (cases_lt (length rest) bytes) [
        | inl less ↦ absurd (right k (BadCode none e (Short less)))
        | inr within ↦ code_out z arrays line t k none bytes rest e within
      ]

      more : (name : List ℕ) (len : ℕ) (rest : List ℕ) → first_line array_in t ≡ Some ((name, len), rest) → (twice : Bool) → is_twice arrays name ≡ twice
          → (past : Bool) → is_past arrays len ≡ past → IsReadOut text
      more name len rest e true twice past p = absurd (right k (BadArray e (Twice twice)))
      more name len rest e false twice true p = absurd (right k (BadArray e (TooMany twice p)))
      more name len rest e false twice false p = on _ (line + 1) rest (behind_line array_in t rest (name, len) e) (reads_on k (Array e twice p))

      by : (o : Option ((List ℕ × ℕ) × List ℕ)) → first_line array_in t ≡ o → IsReadOut text
      by None e = coded e (first_line (count_in (codes "code")) t) refl
      by (Some ((name, len), rest)) e = more name len rest e (is_twice arrays name) refl (is_past arrays len) refl

  arrays_out : (n : ℕ) (z : Sizes) (arrays : List NamedLength) (line : ℕ) (t : List ℕ) → length t ≤ n → IsRead text (AtArrays z arrays) line t → IsReadOut text
  arrays_out zero z arrays line t few k = array_out z arrays line t k (λ more at rest less read. absurd (omega (arith, few, less)))
  arrays_out (suc n) z arrays line t few k =
      array_out z arrays line t k (λ more at rest less read. arrays_out n z more at rest (omega (arith, few, less)) read)

  -- the version and the sizes
  text_out : IsReadOut text
  text_out = by (first_line version_in text) refl
    where
      sizes : (line : ℕ) (t : List ℕ) → IsRead text AtSizes line t → (o : Option (Sizes × List ℕ)) → first_line sizes_in t ≡ o → IsReadOut text
      sizes line t k None e = absurd (right k (NoSizes e))
      sizes line t k (Some (z, rest)) e = fits (sizes_fit z) refl
        where
          fits : (b : Bool) → sizes_fit z ≡ b → IsReadOut text
          fits true h = arrays_out (length rest) z [] (line + 1) rest (omega arith) (reads_on k (Shaped e h))
          fits false h = absurd (right k (NoFit e h))

      by : (o : Option (List ℕ × List ℕ)) → first_line version_in text ≡ o → IsReadOut text
      by None e = absurd (right (reads_all text short) (NoVersion e))
      by (Some (line, rest)) e = sizes 2 rest (reads_on (reads_all text short) (Version e)) (first_line sizes_in rest) refl

  -- a text in which nothing is wrong is that of a state
  pub covers : HasState text
  covers =
      let h = text_out in
      let front = read_front text h.coded in
      let words = sum (lengths_of h.arrays) in
      let made = shape_for h.sizes words front.0 front.1.words_most in
      let count = read_count text h.all in
      let whole = whole_state text made.0 h.sizes h.arrays (lengths_of h.arrays) h.code (words_of h.runs) h.coded made.1 refl count in
      record {
        shape = made.0;
        arrays = h.arrays;
        code = h.code;
        words = words_of h.runs;
        is = read_text text made.0 h.sizes h.arrays h.code h.runs (words_of h.runs) h.last h.all made.1 refl count whole;
      }

-- and the text of a state is wrong nowhere
pub excludes : (text : List ℕ) (s : Shape) (arrays : List NamedLength) (code : CodeParts) (words : List ℕ) (f : Fault) (line : ℕ)
    → IsSavedText text s arrays code words → IsWrongAt text f line → ⊥
excludes text s arrays code words f line h w = text_right text s arrays code words f line (text_short text s arrays code words h) h w

-- shapes with the same sizes and the same takeover are one
one_shape : (s t : Shape) → s.processors ≡ t.processors → s.room ≡ t.room → s.slots ≡ t.slots → s.arrays ≡ t.arrays → s.takeover ≡ t.takeover → s ≡ t
one_shape s t p r l a k = λ i. record {
  processors = p i;
  room = r i;
  slots = l i;
  arrays = a i;
  takeover = k i;
  within = record {
    processors_least = is_prop→PathP (λ j. 1 ≤ p j) (λ j. le_prop) s.within.processors_least t.within.processors_least i;
    processors_most = is_prop→PathP (λ j. p j ≤ 64) (λ j. le_prop) s.within.processors_most t.within.processors_most i;
    room_least = is_prop→PathP (λ j. 64 ≤ r j) (λ j. le_prop) s.within.room_least t.within.room_least i;
    pools_most = is_prop→PathP (λ j. p j * r j ≤ most_pool_words) (λ j. le_prop) s.within.pools_most t.within.pools_most i;
    slots_least = is_prop→PathP (λ j. 2 ≤ l j) (λ j. le_prop) s.within.slots_least t.within.slots_least i;
    slots_most = is_prop→PathP (λ j. l j ≤ 65536) (λ j. le_prop) s.within.slots_most t.within.slots_most i;
    arrays_most = is_prop→PathP (λ j. a j ≤ word_limit) (λ j. le_prop) s.within.arrays_most t.within.arrays_most i;
  };
}

-- a text is that of one state
pub one_state : (text : List ℕ) (s t : Shape) (xs ys : List NamedLength) (c d : CodeParts) (ws vs : List ℕ) → IsSavedText text s xs c ws
    → IsSavedText text t ys d vs → (s ≡ t) × (xs ≡ ys) × (c ≡ d) × (ws ≡ vs)
one_state text s t xs ys c d ws vs h k =
    let same = texts_tell s t xs ys c d ws vs h.fits k.fits (sym h.same ∙ k.same) in
    let words : s.arrays ≡ t.arrays =
    sym h.whole.arrays_are ∙ ap (λ (l : List NamedLength). sum (lengths_of l)) same.arrays ∙ k.whole.arrays_are in (
      one_shape s t same.processors same.room same.slots words (h.by_places ∙ sym k.by_places),
      same.arrays,
      same.code,
      same.words,
    )
