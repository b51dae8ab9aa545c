-- What was read up to a place is what is written of it; so a text that was read to its end is that of its state.
use Rattle.std.proofs.Common.{◌≡◌, ◌∙◌, ℕ, ◌+◌, ◌-◌, ◌*◌, ◌^◌, ◌<◌, ◌≤◌, true, false, ◌&&◌, nat_le, List, [], ◌∷◌, ◌++◌, length, take, drop, codes, decimal, Some, refl, sym, ap, subst, arith, append_assoc, length-append, length-take}
use Rattle.std.specs.List.{flat_map, sum, AllByRecursion}
use Rattle.std.proofs.lemmas.Nat.{mul-le}
use Rattle.std.proofs.Math.Nat.{mul-add}
use Rattle.std.proofs.lemmas.Bool.{and_parts, leb-true, eqb-false}
use Rattle.std.proofs.lemmas.List.{take-append-drop, flat_map_more, append-nil}
use Rattle.std.proofs.lemmas.List.Sums.{sum_by-cons}
use Rattle.ppm_words.specs.Limits.{word_limit}
use Rattle.ppm_cells.specs.Cells.{word_count}
use Rattle.ppm_cells.specs.Shape.{HasSizes}
use Rattle.ppm_cells.specs.declared.shape.Shape.{Shape}
use Rattle.ppm_code.specs.Code.{IsCode}
use Rattle.ppm_code.specs.Free.{IsFree}
use Rattle.ppm_code.specs.Tidy.{IsTidy}
use Rattle.ppm_code.specs.declared.code.CodeParts.{CodeParts}
use Rattle.ppm_listing.specs.Listing.{listing_of}
use Rattle.ppm_listing.specs.Correct.{NumbersFit}
use Rattle.ppm_listing_reader.specs.Correct.{IsListing}
use Rattle.ppm_saved.specs.Correct.{LengthFits, RunFits}
use Rattle.ppm_saved.specs.Names.{AreNames, lengths_of}
use Rattle.ppm_saved.specs.Runs.{run, runs_of, words_of, AreLongest}
use Rattle.ppm_saved.specs.Saved.{IsWhole}
use Rattle.ppm_saved.specs.Text.{version_line, shape_line, array_line, code_line, words_line, run_line, code_text}
use Rattle.ppm_saved.specs.declared.names.NamedLength.{NamedLength}
use Rattle.ppm_saved.specs.declared.run.Run.{Run}
use Rattle.ppm_saved.proofs.RunLemmas.{runs_are_longest}
use Rattle.ppm_saved_reader.specs.declared.lines.Sizes.{Sizes}
use Rattle.ppm_saved_reader.specs.Lines.{first_line, version_in, sizes_in, array_in, count_in, run_in}
use Rattle.ppm_cells.specs.Limits.{most_saved_pool_words}
use Rattle.ppm_saved_reader.specs.Rules.{do_pools_fit}
use Rattle.ppm_saved_reader.specs.Rules.{saved_limit, is_from_to, sizes_fit, is_twice, is_past, words_for, is_other_count, ends_with}
use Rattle.ppm_saved_reader.specs.Places.{Place, AtVersion, AtSizes, AtArrays, AtWords, AtRuns, array_of, NamesArrays}
use Rattle.ppm_saved_reader.specs.Places.{Goes, Version, Shaped, Array, Coded, Counted, Repeated, LeadsTo, Stays, Then}
use Rattle.ppm_saved_reader.specs.Correct.{IsRead, AreRunsRead, sizes_of, IsSavedText}
use Rattle.ppm_saved_reader.proofs.LineLemmas.{first_line_back, halves_back, split_some}
use Rattle.ppm_saved_reader.proofs.FormLemmas.{version_back, sizes_back, count_back, array_back, array_spelled, run_back, run_spelled, worded}
use Rattle.ppm_saved_reader.proofs.NameLemmas.{names_more, no_names, len_within}
use Rattle.ppm_saved_reader.proofs.CountLemmas.{counted_line, counted_end, times_sum, length-words_of}
use Rattle.ppm_saved_reader.proofs.PlaceLemmas.{reads_on, reads_all}

-- sizes of `stop`
pub record AreSizes (z : Sizes) : Type 0 where
  pub processors_least : 1 ≤ z.processors
  pub processors_most : z.processors ≤ 64
  pub room_least : 64 ≤ z.room
  pub room_most : z.room ≤ most_saved_pool_words
  pub slots_least : 2 ≤ z.slots
  pub slots_most : z.slots ≤ 4096
  pub pools_most : z.processors * z.room ≤ most_saved_pool_words

from_to : (least most n : ℕ) → is_from_to least most n ≡ true → (least ≤ n) × (n ≤ most)
from_to least most n h = let k = and_parts (nat_le least n) (nat_le n most) h in (leb-true least n k.0, leb-true n most k.1)

pub sizes_are : (z : Sizes) → sizes_fit z ≡ true → AreSizes z
sizes_are z h =
    let pools = do_pools_fit z.processors z.room in
    let k = and_parts (is_from_to 1 64 z.processors) (is_from_to 64 most_saved_pool_words z.room && (is_from_to 2 4096 z.slots && pools)) h in
    let l = and_parts (is_from_to 64 most_saved_pool_words z.room) (is_from_to 2 4096 z.slots && pools) k.1 in
    let m = and_parts (is_from_to 2 4096 z.slots) pools l.1 in
    let p = from_to 1 64 z.processors k.0 in
    let r = from_to 64 most_saved_pool_words z.room l.0 in
    let s = from_to 2 4096 z.slots m.0 in
    record {
      processors_least = p.0;
      processors_most = p.1;
      room_least = r.0;
      room_most = r.1;
      slots_least = s.0;
      slots_most = s.1;
      pools_most = leb-true (z.processors * z.room) most_saved_pool_words m.1;
    }

-- the words of the places of such sizes, by those of all pools
pub place_words : (z : Sizes) → AreSizes z → z.processors * (5 + z.slots + z.room) ≤ 64 * (5 + 4096) + most_saved_pool_words
place_words z s =
    let rows : z.processors * (5 + z.slots) ≤ 64 * (5 + 4096) =
    mul-le z.processors (5 + z.slots) 64 (5 + 4096) s.processors_most (omega (arith, s.slots_most)) in
    omega (arith, mul-add z.processors (5 + z.slots) z.room, rows, s.pools_most)

-- the words of a machine of such sizes are few
pub words_few : (z : Sizes) (arrays : List NamedLength) → sizes_fit z ≡ true → sum (lengths_of arrays) ≤ word_limit → words_for z arrays < 2 ^ 32
words_few z arrays h k =
    let s = sizes_are z h in
    omega (arith, place_words z s, k, s.processors_most)

-- what is written of the lines in front of a place
abbrev heading : Sizes → List NamedLength → List ℕ
heading z arrays = version_line ++ shape_line z.processors z.room z.slots ++ flat_map array_line arrays

abbrev coded : Sizes → List NamedLength → CodeParts → List ℕ
coded z arrays code = heading z arrays ++ code_text (listing_of code)

abbrev spelled : Place → List ℕ
spelled AtVersion = []
spelled AtSizes = version_line
spelled (AtArrays z arrays) = heading z arrays
spelled (AtWords z arrays code) = coded z arrays code
spelled (AtRuns z arrays code rs) = coded z arrays code ++ words_line (words_for z arrays) ++ flat_map run_line rs

-- what is known of the state so far
record HasArrays (z : Sizes) (arrays : List NamedLength) : Type 0 where
  sizes : sizes_fit z ≡ true
  names : AreNames arrays

record HasCode (z : Sizes) (arrays : List NamedLength) (code : CodeParts) : Type 0 where
  front : HasArrays z arrays
  code_is : IsCode code
  numbers : NumbersFit code
  bytes : length (listing_of code) ≤ saved_limit
  named : NamesArrays (length arrays) code
  free : IsFree code
  tidy : IsTidy code

record HasRuns (z : Sizes) (arrays : List NamedLength) (code : CodeParts) (rs : List Run) (rest : List ℕ) : Type 0 where
  front : HasCode z arrays code
  longest : AreLongest rs
  fit : AllByRecursion RunFits rs
  left : ℕ
  count : words_for z arrays ≡ times_sum rs + left
  others : is_other_count left rest ≡ false

abbrev Has : Place → (rest : List ℕ) → Type 0
Has AtVersion rest = Unit {0}
Has AtSizes rest = Unit {0}
Has (AtArrays z arrays) rest = HasArrays z arrays
Has (AtWords z arrays code) rest = HasCode z arrays code
Has (AtRuns z arrays code rs) rest = HasRuns z arrays code rs rest

-- a text is what is written of a place and the rest
record IsAt (text : List ℕ) (place : Place) (rest : List ℕ) : Type 0 where
  has : Has place rest
  same : text ≡ spelled place ++ rest

-- the rest is no longer than the text
rest_short : (text front rest : List ℕ) → text ≡ front ++ rest → length text ≤ saved_limit → length rest ≤ saved_limit
rest_short text front rest e h = omega (arith, h, ap (λ (l : List ℕ). length l) e, length-append front rest)

-- nothing more in front of the rest
none_more : (x rest : List ℕ) → x ++ rest ≡ (x ++ []) ++ rest
none_more x rest = ap (λ (l : List ℕ). l ++ rest) (sym (append-nil x))

-- runs and one more
ends_cons : (r q : Run) (rs : List Run) (w : ℕ) → ends_with (r ∷ q ∷ rs) w ≡ ends_with (q ∷ rs) w
ends_cons r q rs w = refl

longest_more : (rs : List Run) (w n : ℕ) → AreLongest rs → ends_with rs w ≡ false → 1 ≤ n → AreLongest (rs ++ run w n ∷ [])
longest_more [] w n h e k = k
longest_more (r ∷ []) w n h e k = (h, eqb-false r.word w e, k)
longest_more (r ∷ q ∷ rs) w n h e k = (h.0, h.1, longest_more (q ∷ rs) w n h.2 e k)

fit_more : (rs : List Run) (r : Run) → AllByRecursion RunFits rs → RunFits r → AllByRecursion RunFits (rs ++ r ∷ [])
fit_more [] r h k = (k, tt)
fit_more (q ∷ rs) r h k = (h.0, fit_more rs r h.1 k)

times_more : (rs : List Run) (r : Run) → times_sum (rs ++ r ∷ []) ≡ times_sum rs + r.times
times_more [] r = omega arith
times_more (q ∷ rs) r = omega (arith, times_more rs r)

-- an array more
at_array : (text t rest : List ℕ) (z : Sizes) (arrays : List NamedLength) (line : List ℕ × ℕ) → IsAt text (AtArrays z arrays) t
    → first_line array_in t ≡ Some (line, rest) → is_twice arrays line.0 ≡ false → is_past arrays line.1 ≡ false
    → IsAt text (AtArrays z (arrays ++ array_of line ∷ [])) rest
at_array text t rest z arrays line h e twice past =
    let (bytes, form, halves) = first_line_back array_in t rest line e in
    let cut : t ≡ bytes ++ 10 ∷ rest = halves_back 10 t bytes rest halves in
    let small = len_within arrays line.1 past in
    let k = array_back bytes line form (omega (arith, small)) in
    let front : List ℕ = version_line ++ shape_line z.processors z.room z.slots in
    record {
      has = record { sizes = h.has.sizes; names = names_more arrays (array_of line) h.has.names k.name twice past };
      same = h.same
          ∙ ap (λ (l : List ℕ). heading z arrays ++ l) (cut ∙ array_spelled bytes rest line k)
          ∙ sym (append_assoc (heading z arrays) (array_line (array_of line)) rest)
          ∙ ap (λ (l : List ℕ). l ++ rest) (flat_map_more array_line front arrays (array_of line));
    }

-- a code
at_code : (text t rest : List ℕ) (z : Sizes) (arrays : List NamedLength) (bytes : ℕ) (code : CodeParts) → length text ≤ saved_limit
    → IsAt text (AtArrays z arrays) t → first_line (count_in (codes "code")) t ≡ Some (bytes, rest) → bytes ≤ length rest
    → IsListing (take bytes rest) code → NamesArrays (length arrays) code → IsFree code → IsTidy code
    → IsAt text (AtWords z arrays code) (drop bytes rest)
at_code text t rest z arrays bytes code short h e within is named free tidy =
    let (line, form, halves) = first_line_back (count_in (codes "code")) t rest bytes e in
    let cut : t ≡ line ++ 10 ∷ rest = halves_back 10 t line rest halves in
    let few = rest_short text (heading z arrays) t h.same short in
    let left : length rest < length t =
    omega (arith, ap (λ (l : List ℕ). length l) cut, length-append line (10 ∷ rest)) in
    let spelt : line ≡ codes "code" ++ 32 ∷ decimal bytes = count_back (codes "code") line bytes form (omega (arith, within, few, left)) in
    let len : length (take bytes rest) ≡ bytes = omega (arith, length-take bytes rest, within) in
    let parts : t ≡ code_line bytes ++ (take bytes rest ++ drop bytes rest) =
    cut ∙ ap (λ (l : List ℕ). l ++ 10 ∷ rest) spelt ∙ worded (codes "code") bytes [] rest
    ∙ ap (λ (l : List ℕ). code_line bytes ++ l) (sym (take-append-drop bytes rest)) in
    let listed : code_line bytes ++ take bytes rest ≡ code_text (listing_of code) =
    ap (λ n. code_line n ++ take bytes rest) (sym len) ∙ ap code_text is.same in
    record {
      has = record {
        front = h.has;
        code_is = is.code;
        numbers = is.fits;
        bytes = omega (arith, within, few, left, len, ap (λ (l : List ℕ). length l) is.same);
        named = named;
        free = free;
        tidy = tidy;
      };
      same = h.same
          ∙ ap (λ (l : List ℕ). heading z arrays ++ l) (parts ∙ sym (append_assoc (code_line bytes) (take bytes rest) (drop bytes rest)))
          ∙ sym (append_assoc (heading z arrays) (code_line bytes ++ take bytes rest) (drop bytes rest))
          ∙ ap (λ (l : List ℕ). (heading z arrays ++ l) ++ drop bytes rest) listed;
    }

-- the count of words
at_count : (text t rest : List ℕ) (z : Sizes) (arrays : List NamedLength) (code : CodeParts) (count : ℕ) → IsAt text (AtWords z arrays code) t
    → first_line (count_in (codes "words")) t ≡ Some (count, rest) → count ≡ words_for z arrays → is_other_count count rest ≡ false
    → IsAt text (AtRuns z arrays code []) rest
at_count text t rest z arrays code count h e same other =
    let (line, form, halves) = first_line_back (count_in (codes "words")) t rest count e in
    let cut : t ≡ line ++ 10 ∷ rest = halves_back 10 t line rest halves in
    let few = words_few z arrays h.has.front.sizes h.has.front.names.words_most in
    let spelt : line ≡ codes "words" ++ 32 ∷ decimal count = count_back (codes "words") line count form (omega (arith, few, same)) in
    let parts : t ≡ words_line (words_for z arrays) ++ rest =
    cut ∙ ap (λ (l : List ℕ). l ++ 10 ∷ rest) spelt ∙ worded (codes "words") count [] rest ∙ ap (λ n. words_line n ++ rest) same in
    record {
      has = record {
        front = h.has;
        longest = tt;
        fit = tt;
        left = count;
        count = omega (arith, same);
        others = other;
      };
      same = h.same
          ∙ ap (λ (l : List ℕ). coded z arrays code ++ l) parts
          ∙ sym (append_assoc (coded z arrays code) (words_line (words_for z arrays)) rest)
          ∙ none_more (coded z arrays code ++ words_line (words_for z arrays)) rest;
    }

-- a run more
at_run : (text t rest : List ℕ) (z : Sizes) (arrays : List NamedLength) (code : CodeParts) (rs : List Run) (w n : ℕ)
    → IsAt text (AtRuns z arrays code rs) t → first_line run_in t ≡ Some ((Some w, n), rest) → ends_with rs w ≡ false
    → IsAt text (AtRuns z arrays code (rs ++ run w n ∷ [])) rest
at_run text t rest z arrays code rs w n h e other =
    let (line, form, halves) = first_line_back run_in t rest (Some w, n) e in
    let cut : t ≡ line ++ 10 ∷ rest = halves_back 10 t line rest halves in
    let k = h.has in
    let counted = counted_line k.left t line rest (Some w) n (split_some 10 t line rest halves) form k.others in
    let few = words_few z arrays k.front.front.sizes k.front.front.names.words_most in
    let is = run_back line w n form (omega (arith, few, k.count, counted.within)) in
    let front : List ℕ = coded z arrays code ++ words_line (words_for z arrays) in
    record {
      has = record {
        front = k.front;
        longest = longest_more rs w n k.longest other is.least;
        fit = fit_more rs (run w n) k.fit (is.word, omega (arith, few, k.count, counted.within));
        left = k.left - n;
        count = omega (arith, k.count, counted.within, times_more rs (run w n));
        others = counted.others;
      };
      same = h.same
          ∙ ap (λ (l : List ℕ). (front ++ flat_map run_line rs) ++ l) (cut ∙ run_spelled line rest w n is)
          ∙ sym (append_assoc (front ++ flat_map run_line rs) (run_line (run w n)) rest)
          ∙ ap (λ (l : List ℕ). l ++ rest) (flat_map_more run_line front rs (run w n));
    }

-- reading goes on to what is written
goes_at : (text : List ℕ) → length text ≤ saved_limit → {p q : Place} {t r : List ℕ} {n : ℕ} → Goes p t n q r → IsAt text p t → IsAt text q r
goes_at text short (Version {text = t} {rest = r} {line = x} e) h =
    let (line, form, halves) = first_line_back version_in t r x e in
    record {
      has = tt;
      same = h.same ∙ halves_back 10 t line r halves ∙ ap (λ (l : List ℕ). l ++ 10 ∷ r) (version_back line x form);
    }
goes_at text short (Shaped {text = t} {rest = r} {z = z} e fit) h =
    let (line, form, halves) = first_line_back sizes_in t r z e in
    let s = sizes_are z fit in
    let spelt = sizes_back line z form (omega (arith, s.processors_most)) (omega (arith, s.room_most)) (omega (arith, s.slots_most)) in
    let parts : t ≡ shape_line z.processors z.room z.slots ++ r =
    halves_back 10 t line r halves ∙ ap (λ (l : List ℕ). l ++ 10 ∷ r) spelt ∙ worded (codes "shape") z.processors (z.room ∷ z.slots ∷ []) r in
    record {
      has = record { sizes = fit; names = no_names };
      same = h.same
          ∙ ap (λ (l : List ℕ). version_line ++ l) parts
          ∙ sym (append_assoc version_line (shape_line z.processors z.room z.slots) r)
          ∙ none_more (version_line ++ shape_line z.processors z.room z.slots) r;
    }
goes_at text short (Array {text = t} {rest = r} {z = z} {arrays = arrays} {line = line} e twice past) h = at_array text t r z arrays line h e twice past
goes_at text short (Coded {text = t} {rest = r} {z = z} {arrays = arrays} {bytes = bytes} {code = code} n e within is named free tidy) h =
    at_code text t r z arrays bytes code short h e within is named free tidy
goes_at text short (Counted {text = t} {rest = r} {z = z} {arrays = arrays} {code = code} {count = count} e same other) h =
    at_count text t r z arrays code count h e same other
goes_at text short (Repeated {text = t} {rest = r} {z = z} {arrays = arrays} {code = code} {rs = rs} {word = w} {times = n} e other) h =
    at_run text t r z arrays code rs w n h e other

leads_at : (text : List ℕ) → length text ≤ saved_limit → {p q : Place} {t r : List ℕ} {n : ℕ} → LeadsTo p t n q r → IsAt text p t → IsAt text q r
leads_at text short Stays h = h
leads_at text short (Then a b) h = leads_at text short b (goes_at text short a h)

read_at : (text : List ℕ) {q : Place} {r : List ℕ} {line : ℕ} → IsRead text q line r → IsAt text q r
read_at text k = leads_at text k.short k.leads (record { has = tt; same = refl })

-- the arrays that were read keep the rules
pub read_sizes_fit : (text : List ℕ) {z : Sizes} {arrays : List NamedLength} {r : List ℕ} {line : ℕ} → IsRead text (AtArrays z arrays) line r → sizes_fit z ≡ true
read_sizes_fit text k = (read_at text k).has.sizes

-- the names that were read keep the rules; the code does, and the rest is no longer than a text may be
pub read_names : (text : List ℕ) {z : Sizes} {arrays : List NamedLength} {r : List ℕ} {line : ℕ} → IsRead text (AtArrays z arrays) line r → AreNames arrays
read_names text k = (read_at text k).has.names

pub read_front : (text : List ℕ) {z : Sizes} {arrays : List NamedLength} {code : CodeParts} {r : List ℕ} {line : ℕ} → IsRead text (AtWords z arrays code) line r
    → (sizes_fit z ≡ true) × AreNames arrays
read_front text k = let h = (read_at text k).has.front in (h.sizes, h.names)

pub read_named : (text : List ℕ) {z : Sizes} {arrays : List NamedLength} {code : CodeParts} {r : List ℕ} {line : ℕ} → IsRead text (AtWords z arrays code) line r
    → NamesArrays (length arrays) code
read_named text k = (read_at text k).has.named

pub rest_within : (text : List ℕ) {q : Place} {r : List ℕ} {line : ℕ} → IsRead text q line r → length r ≤ saved_limit
rest_within text {q = q} {r = r} k = rest_short text (spelled q) r (read_at text k).same k.short

-- how many words the machine has
pub count_is : (s : Shape) (z : Sizes) (arrays : List NamedLength) → HasSizes z.processors z.room z.slots (sum (lengths_of arrays)) s
    → word_count s ≡ words_for z arrays
count_is s z arrays h = λ i. 1 + 2 * h.processors_are i + h.processors_are i * (5 + h.slots_are i + h.room_is i) + h.arrays_are i

-- the state is whole
pub whole_state : (text : List ℕ) (s : Shape) (z : Sizes) (arrays : List NamedLength) (lengths : List ℕ) (code : CodeParts) (words : List ℕ) {line : ℕ}
    {r : List ℕ} → IsRead text (AtWords z arrays code) line r → HasSizes z.processors z.room z.slots (sum (lengths_of arrays)) s
    → lengths ≡ lengths_of arrays → length words ≡ words_for z arrays → IsWhole s arrays lengths code words
whole_state text s z arrays lengths code words k sizes same len = record {
  words_are = len ∙ sym (count_is s z arrays sizes);
  lengths_are = same;
  arrays_are = ap (λ (l : List ℕ). sum l) same ∙ sym sizes.arrays_are;
  named = read_named text k;
}

lens_fit : (arrays : List NamedLength) → sum (lengths_of arrays) ≤ word_limit → AllByRecursion LengthFits arrays
lens_fit [] h = tt
lens_fit (a ∷ arrays) h =
    let e : sum (lengths_of (a ∷ arrays)) ≡ a.len + sum (lengths_of arrays) = sum_by-cons (λ (n : ℕ). n) a.len (lengths_of arrays) in
    (omega (arith, h, e), lens_fit arrays (omega (arith, h, e)))

-- the words of all runs are as many as the machine has
pub read_count : (text : List ℕ) {z : Sizes} {arrays : List NamedLength} {code : CodeParts} {rs : List Run} {last : ℕ}
    → IsRead text (AtRuns z arrays code rs) last [] → length (words_of rs) ≡ words_for z arrays
read_count text {rs = rs} k =
    let h = (read_at text k).has in
    omega (arith, length-words_of rs, h.count, counted_end h.left [] refl h.others)

-- a text that was read to its end is that of its state
pub read_text : (text : List ℕ) (s : Shape) (z : Sizes) (arrays : List NamedLength) (code : CodeParts) (rs : List Run) (words : List ℕ) (last : ℕ)
    → IsRead text (AtRuns z arrays code rs) last [] → HasSizes z.processors z.room z.slots (sum (lengths_of arrays)) s → words ≡ words_of rs
    → length words ≡ words_for z arrays → IsWhole s arrays (lengths_of arrays) code words → IsSavedText text s arrays code words
read_text text s z arrays code rs words last k sizes e len whole =
    let at = read_at text k in
    let h = at.has in
    let c = h.front in
    let few = words_few z arrays c.front.sizes c.front.names.words_most in
    let same_sizes : sizes_of s ≡ z = λ i. record { processors = sizes.processors_are i; room = sizes.room_is i; slots = sizes.slots_are i } in
    let runs : runs_of words ≡ rs = ap runs_of e ∙ runs_are_longest.one rs h.longest in
    let front : List ℕ = coded z arrays code in
    let spelt : text ≡ front ++ (words_line (length words) ++ flat_map run_line (runs_of words)) =
    at.same ∙ append-nil (front ++ words_line (words_for z arrays) ++ flat_map run_line rs)
    ∙ append_assoc front (words_line (words_for z arrays)) (flat_map run_line rs)
    ∙ (λ i. front ++ (words_line (sym len i) ++ flat_map run_line (sym runs i))) in
    record {
      sizes = ap (λ (z : Sizes). sizes_fit z) same_sizes ∙ c.front.sizes;
      by_places = sizes.by_places;
      code_is = c.code_is;
      whole = whole;
      fits = record {
        names = c.front.names;
        lengths = lens_fit arrays c.front.names.words_most;
        numbers = c.numbers;
        bytes = omega (arith, c.bytes);
        runs = subst (AllByRecursion RunFits) (sym runs) h.fit;
        count = omega (arith, few, len);
      };
      free = c.free;
      tidy = c.tidy;
      same = spelt
          ∙ ap (λ (z : Sizes). coded z arrays code ++ (words_line (length words) ++ flat_map run_line (runs_of words))) (sym same_sizes);
    }

-- the version and the sizes were read
pub front_read : (text : List ℕ) {rest behind : List ℕ} {z : Sizes} → length text ≤ saved_limit → Goes AtVersion text 1 AtSizes rest
    → Goes AtSizes rest 1 (AtArrays z []) behind → IsRead text (AtArrays z []) 3 behind
front_read text short g k = reads_on (reads_on (reads_all text short) g) k

-- the words were read, as many as the machine has
pub state_read : (text : List ℕ) (s : Shape) (z : Sizes) (arrays : List NamedLength) (code : CodeParts) (words : List ℕ) {line count : ℕ} {r rest : List ℕ}
    → IsRead text (AtWords z arrays code) line r → IsRead text (AtRuns z arrays code []) (line + 1) rest
    → HasSizes z.processors z.room z.slots (sum (lengths_of arrays)) s → AreRunsRead rest (line + 1) count words → count ≡ words_for z arrays
    → IsSavedText text s arrays code words
state_read text s z arrays code words k l sizes runs count =
    read_text text s z arrays code runs.runs words runs.last (runs.leads text z arrays code l) sizes runs.words_are (runs.many ∙ count)
    (whole_state text s z arrays (lengths_of arrays) code words k sizes refl (runs.many ∙ count))

-- a code was read after arrays, which are the same
pub coded_read : (text : List ℕ) (z : Sizes) (items arrays : List NamedLength) (code : CodeParts) {line later : ℕ} {r rest : List ℕ} → arrays ≡ items
    → (IsRead text (AtArrays z arrays) line r → IsRead text (AtWords z arrays code) later rest) → IsRead text (AtArrays z items) line r
    → IsRead text (AtWords z items code) later rest
coded_read text z items arrays code {line = line} {later = later} {r = r} {rest = rest} e f k =
    subst (λ (l : List NamedLength). IsRead text (AtWords z l code) later rest) e
    (f (subst (λ (l : List NamedLength). IsRead text (AtArrays z l) line r) (sym e) k))

-- the words that are asked for are those of the machine
pub sizes_for : (s : Shape) (z : Sizes) (arrays : List NamedLength) (words : ℕ) → HasSizes z.processors z.room z.slots words s
    → words ≡ sum (lengths_of arrays) → HasSizes z.processors z.room z.slots (sum (lengths_of arrays)) s
sizes_for s z arrays words h e = subst (λ n. HasSizes z.processors z.room z.slots n s) e h
