-- What the loops over arrays and runs have read so far.
use Rattle.std.proofs.Common.{◌≡◌, ◌≢◌, ◌∙◌, ℕ, ◌+◌, ◌-◌, ◌^◌, ◌<◌, ◌≤◌, ◌==◌, true, false, List, [], ◌∷◌, ◌++◌, length, replicate, Option, Some, None, refl, sym, ap, subst, arith, length-append}
use Rattle.std.specs.List.{sum}
use Rattle.std.proofs.lemmas.Bool.{eqb-true, eqb-false}
use Rattle.std.proofs.lemmas.List.{length-replicate, append-nil}
use Rattle.std.proofs.lemmas.Grind.{flat_map-append}
use Rattle.ppm_words.specs.Limits.{word_limit}
use Rattle.ppm_pieces.specs.Pieces.{halves_of}
use Rattle.ppm_code.specs.declared.code.CodeParts.{CodeParts}
use Rattle.ppm_saved.specs.Names.{lengths_of}
use Rattle.ppm_saved.specs.Runs.{run, words_of}
use Rattle.ppm_saved.specs.declared.names.NamedLength.{NamedLength}
use Rattle.ppm_saved.specs.declared.run.Run.{Run}
use Rattle.ppm_saved_reader.specs.declared.lines.Sizes.{Sizes}
use Rattle.ppm_saved_reader.specs.declared.saved_error.Fault.TheVariants as fault
use Rattle.ppm_saved_reader.specs.Lines.{first_line, array_in, run_in}
use Rattle.ppm_saved_reader.specs.Rules.{is_twice, is_past, is_other_count, ends_with, is_last}
use Rattle.ppm_saved_reader.specs.Places.{AtArrays, AtRuns, Array, Repeated, NoRun, Same, NoWord, BadArray, Twice, TooMany}
use Rattle.ppm_saved_reader.specs.Correct.{IsRead, AreRunsRead, IsWrongAt, Breaks}
use Rattle.ppm_saved_reader.proofs.LineLemmas.{halves_back, split_some, first_line_some, first_line_back}
use Rattle.ppm_saved_reader.proofs.NameLemmas.{sum_more, past_parts}
use Rattle.ppm_saved_reader.proofs.CountLemmas.{counted_line, counted_end}
use Rattle.ppm_saved_reader.proofs.PlaceLemmas.{reads_on}

-- a line is shorter than the text that it stands in front of, with its line feed
pub shorter : (t l r : List ℕ) → halves_of 10 t ≡ Some (l, r) → length r < length t
shorter t l r e = omega (arith, ap (λ (x : List ℕ). length x) (halves_back 10 t l r e), length-append l (10 ∷ r))

pub line_shorter : (t r : List ℕ) (said : Option ℕ × ℕ) → first_line run_in t ≡ Some (said, r) → length r < length t
line_shorter t r said first = let (line, says, cut) = first_line_back run_in t r said first in shorter t line r cut

-- arrays were read up to a line
pub record ArraysSoFar (text : List ℕ) (line : ℕ) (arrays : List NamedLength) (words number : ℕ) (left : List ℕ) : Type 0 where
  pub words_are : words ≡ sum (lengths_of arrays)
  pub few : words ≤ word_limit
  pub bound : number + length left < 2 ^ 32
  pub leads : (whole : List ℕ) (z : Sizes) → IsRead whole (AtArrays z []) line text → IsRead whole (AtArrays z arrays) number left

pub no_arrays : (text : List ℕ) (line : ℕ) → line + length text < 2 ^ 32 → ArraysSoFar text line [] 0 line text
no_arrays text line h = record { words_are = refl; few = omega arith; bound = h; leads = λ whole z k. k }

module _ {text : List ℕ} {line : ℕ} {arrays : List NamedLength} {words number : ℕ} {left : List ℕ} (h : ArraysSoFar text line arrays words number left)
    (bytes rest : List ℕ) (cut : halves_of 10 left ≡ Some (bytes, rest)) where
  module _ (name : List ℕ) (len : ℕ) (says : array_in bytes ≡ Some (name, len)) where
    -- one array more
    pub array_more : is_twice arrays name ≡ false → is_past arrays len ≡ false
        → ArraysSoFar text line (arrays ++ record { name = name; len = len } ∷ []) (words + len) (number + 1) rest
    array_more twice past = record {
      words_are = omega (arith, h.words_are, sum_more arrays (record { name = name; len = len }));
      few = omega (arith, h.words_are, (past_parts arrays len past).1);
      bound = omega (arith, h.bound, shorter left bytes rest cut);
      leads = λ whole z k. reads_on (h.leads whole z k) (Array (first_line_some array_in left bytes rest (name, len) cut says) twice past);
    }

    -- or it is wrong
    pub array_twice : is_twice arrays name ≡ true → (whole : List ℕ) (z : Sizes) → IsRead whole (AtArrays z []) line text
        → IsWrongAt whole fault.NoSuchForm number
    array_twice twice whole z k = Breaks (h.leads whole z k) (BadArray (first_line_some array_in left bytes rest (name, len) cut says) (Twice twice))

    pub array_past : is_twice arrays name ≡ false → is_past arrays len ≡ true → (whole : List ℕ) (z : Sizes) → IsRead whole (AtArrays z []) line text
        → IsWrongAt whole fault.OutOfRange number
    array_past twice past whole z k =
        Breaks (h.leads whole z k) (BadArray (first_line_some array_in left bytes rest (name, len) cut says) (TooMany twice past))

-- bytes are none, or some
pub empty_is : (bytes : List ℕ) → true ≡ (length bytes == 0) → bytes ≡ []
empty_is bytes h = none bytes (eqb-true (length bytes) 0 (sym h))
  where
    none : (l : List ℕ) → length l ≡ 0 → l ≡ []
    none [] e = refl
    none (b ∷ l) e = absurd (omega (arith, e))

pub some_is : (bytes : List ℕ) → false ≡ (length bytes == 0) → bytes ≢ []
some_is bytes h e = eqb-false (length bytes) 0 (sym h) (ap (λ (l : List ℕ). length l) e)

-- the last word of runs and one more
ends_more : (rs : List Run) (w n v : ℕ) → ends_with (rs ++ run w n ∷ []) v ≡ (w == v)
ends_more [] w n v = refl
ends_more (r ∷ []) w n v = refl
ends_more (r ∷ q ∷ rs) w n v = ends_more (q ∷ rs) w n v

-- the words of runs and one more
words_more : (rs : List Run) (w n : ℕ) → words_of (rs ++ run w n ∷ []) ≡ words_of rs ++ replicate n w
words_more rs w n =
    flat_map-append (λ (r : Run). replicate r.times r.word) rs (run w n ∷ []) ∙ ap (λ (l : List ℕ). words_of rs ++ l) (append-nil (replicate n w))

-- runs were read up to a line
pub record RunsSoFar (text : List ℕ) (line count : ℕ) (words : List ℕ) (last : Option ℕ) (number : ℕ) (left : List ℕ) : Type 0 where
  pub rs : List Run
  pub words_are : words ≡ words_of rs
  pub last_is : (v : ℕ) → ends_with rs v ≡ is_last last v
  pub to_come : ℕ
  pub count_is : count ≡ length words + to_come
  pub others : is_other_count to_come left ≡ false
  pub bound : number + length left < 2 ^ 32
  pub leads : (whole : List ℕ) (z : Sizes) (arrays : List NamedLength) (code : CodeParts) → IsRead whole (AtRuns z arrays code []) line text
      → IsRead whole (AtRuns z arrays code rs) number left

pub no_runs : (text : List ℕ) (line count : ℕ) → line + length text < 2 ^ 32 → is_other_count count text ≡ false
    → RunsSoFar text line count [] None line text
no_runs text line count h other = record {
  rs = [];
  words_are = refl;
  last_is = λ v. refl;
  to_come = count;
  count_is = omega arith;
  others = other;
  bound = h;
  leads = λ whole z arrays code k. k;
}

module _ {text : List ℕ} {line count : ℕ} {words : List ℕ} {last : Option ℕ} {number : ℕ} {left : List ℕ}
    (h : RunsSoFar text line count words last number left) where
  -- a run has no more words than there are
  pub run_within : (w : Option ℕ) (n : ℕ) (rest : List ℕ) → first_line run_in left ≡ Some ((w, n), rest) → n ≤ count
  run_within w n rest first =
      let (line, says, cut) = first_line_back run_in left rest (w, n) first in
      omega (arith, h.count_is, (counted_line h.to_come left line rest w n (split_some 10 left line rest cut) says h.others).within)

  -- one run more
  pub run_more : (w n : ℕ) (rest : List ℕ) → first_line run_in left ≡ Some ((Some w, n), rest) → is_last last w ≡ false
      → RunsSoFar text line count (words ++ replicate n w) (Some w) (number + 1) rest
  run_more w n rest first other =
      let (bytes, says, cut) = first_line_back run_in left rest (Some w, n) first in
      let k = counted_line h.to_come left bytes rest (Some w) n (split_some 10 left bytes rest cut) says h.others in
      record {
        rs = h.rs ++ run w n ∷ [];
        words_are = ap (λ (l : List ℕ). l ++ replicate n w) h.words_are ∙ sym (words_more h.rs w n);
        last_is = ends_more h.rs w n;
        to_come = h.to_come - n;
        count_is = omega (arith, h.count_is, k.within, length-append words (replicate n w), length-replicate n w);
        others = k.others;
        bound = omega (arith, h.bound, shorter left bytes rest cut);
        leads = λ whole z arrays code read. reads_on (h.leads whole z arrays code read) (Repeated first (h.last_is w ∙ other));
      }

  -- or the line is wrong
  pub run_same : (w n : ℕ) (rest : List ℕ) → first_line run_in left ≡ Some ((Some w, n), rest) → is_last last w ≡ true
      → (whole : List ℕ) (z : Sizes) (arrays : List NamedLength) (code : CodeParts) → IsRead whole (AtRuns z arrays code []) line text
      → IsWrongAt whole fault.NoSuchForm number
  run_same w n rest first same whole z arrays code read = Breaks (h.leads whole z arrays code read) (Same first (h.last_is w ∙ same))

  pub run_large : (n : ℕ) (rest : List ℕ) → first_line run_in left ≡ Some ((None, n), rest)
      → (whole : List ℕ) (z : Sizes) (arrays : List NamedLength) (code : CodeParts) → IsRead whole (AtRuns z arrays code []) line text
      → IsWrongAt whole fault.OutOfRange number
  run_large n rest first whole z arrays code read = Breaks (h.leads whole z arrays code read) (NoWord first)

  -- also where bytes are no line
  pub run_none : left ≢ [] → first_line run_in left ≡ None
      → (whole : List ℕ) (z : Sizes) (arrays : List NamedLength) (code : CodeParts) → IsRead whole (AtRuns z arrays code []) line text
      → IsWrongAt whole fault.NoSuchForm number
  run_none some none whole z arrays code read = Breaks (h.leads whole z arrays code read) (NoRun some none)

  -- nothing is left
  pub runs_end : left ≡ [] → AreRunsRead text line count words
  runs_end none = record {
    runs = h.rs;
    last = number;
    words_are = h.words_are;
    many = omega (arith, h.count_is, counted_end h.to_come [] refl (subst (λ (l : List ℕ). is_other_count h.to_come l ≡ false) none h.others));
    leads = λ whole z arrays code read. subst (λ (l : List ℕ). IsRead whole (AtRuns z arrays code h.rs) number l) none (h.leads whole z arrays code read);
  }
