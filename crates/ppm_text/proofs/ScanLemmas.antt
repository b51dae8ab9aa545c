-- What the functions of the scanner find is what the definitions say.
use Rattle.std.proofs.Common.{◌≡◌, ℕ, ◌+◌, ◌<◌, ◌≤◌, List, [], ◌∷◌, ◌++◌, length, take, drop, Some, None}
use Rattle.std.proofs.Common.{arith, ap, Result, refl, inl, inr, subst, sym, ◌↔◌, Err, ◌∙◌, append-nil}
use Rattle.std.proofs.lemmas.List.{length-take-le}
use Rattle.std.specs.List.{prefix_len}
use Rattle.ppm_words.specs.Limits.{name_limit, value_bound}
use Rattle.ppm_words.specs.Names.{is_digit, is_name_byte, IsName}
use Rattle.ppm_text.specs.declared.byte_class.ByteClass.TheVariants.{Letter, Digit, LineFeed, Blank, Hash, Mark, High}
use Rattle.ppm_text.specs.declared.token.Keyword.{Keyword}
use Rattle.ppm_text.specs.declared.token.Kind.{Kind}
use Rattle.ppm_text.specs.declared.token.Kind.TheVariants as kind
use Rattle.ppm_text.specs.declared.token.Token.{Token}
use Rattle.ppm_text.specs.declared.text_error.TextError.{TextError}
use Rattle.ppm_text.specs.declared.text_error.TextError.TheVariants as error
use Rattle.ppm_text.specs.Limits.{text_limit}
use Rattle.ppm_text.specs.Bytes.{is_comment_byte, BeginsWith, value_from}
use Rattle.ppm_text.specs.Spelling.{keyword_of, IsIdentifier, IsDigits, a_keyword, a_name, a_number, Longest, IsInRange}
use Rattle.ppm_text.specs.Lexing.{Skips, line_feed, blank, comment, located, Lexes, here, skip, token}
use Rattle.ppm_text.specs.Refusals.{IsRefused, too_long, faulty, no_memory}
use Rattle.ppm_text.specs.Refusals.{IsFault, not_ascii, bad_char, number_too_big, name_too_long}
use Rattle.ppm_text.specs.Tokens.{AreTokens, text_tokens}
use Rattle.ppm_text.specs.Scanning.{IsNoSign, Stops, Advances}
use Rattle.ppm_text.proofs.BytesLemmas.{prefix_le}
use Rattle.ppm_text.proofs.SpellingLemmas.{run_is_identifier, run_is_number, identifier_is_name, longest_identifier, longest_number, no_token}
use Rattle.ppm_text.proofs.LexingLemmas.{skips_bounds, longest_something, lexed_stands}

-- a line feed in front
pub front_line_feed : (bytes : List ℕ) → BeginsWith LineFeed bytes → Skips bytes 1 1
front_line_feed [] begins = absurd begins
front_line_feed (b ∷ bs) begins = line_feed begins

-- a blank in front
pub front_blank : (bytes : List ℕ) → BeginsWith Blank bytes → Skips bytes 1 0
front_blank [] begins = absurd begins
front_blank (b ∷ bs) begins = blank begins

-- a comment in front
pub front_comment : (bytes : List ℕ) (n : ℕ) → BeginsWith Hash bytes → n ≡ 1 + prefix_len is_comment_byte (drop 1 bytes) → Skips bytes n 0
front_comment [] n begins len = absurd begins
front_comment (b ∷ bs) n begins len = comment begins len

-- a byte past ASCII in front
pub front_high : (place : ℕ) (bytes : List ℕ) → BeginsWith High bytes → IsFault place bytes (error.NotAscii place)
front_high place [] begins = absurd begins
front_high place (b ∷ bs) begins = not_ascii begins

-- the run in front is an identifier
front_identifier : (bytes : List ℕ) (n : ℕ) → BeginsWith Letter bytes → n ≡ prefix_len is_name_byte bytes → IsIdentifier (take n bytes)
front_identifier bytes n begins len = rw len (run_is_identifier bytes begins)

-- a keyword in front
pub front_keyword : (bytes : List ℕ) (n : ℕ) (found : Keyword) → BeginsWith Letter bytes → n ≡ prefix_len is_name_byte bytes
    → keyword_of (take n bytes) ≡ Some found → Longest bytes n (kind.Keyword found)
front_keyword bytes n found begins len is = longest_identifier bytes n (kind.Keyword found) begins len (a_keyword (front_identifier bytes n begins len) is)

-- a name in front
pub front_name : (bytes : List ℕ) (n : ℕ) → BeginsWith Letter bytes → n ≡ prefix_len is_name_byte bytes
    → keyword_of (take n bytes) ≡ None → Longest bytes n (kind.Name (take n bytes))
front_name bytes n begins len none = longest_identifier bytes n (kind.Name (take n bytes)) begins len (a_name (front_identifier bytes n begins len) none)

-- the length of the run in front
run_length : (bytes : List ℕ) (n : ℕ) → n ≡ prefix_len is_name_byte bytes → length (take n bytes) ≡ n
run_length bytes n len = length-take-le n bytes (omega (arith, prefix_le is_name_byte bytes))

-- a short name in front
pub front_is_name : (bytes : List ℕ) (n : ℕ) → BeginsWith Letter bytes → n ≡ prefix_len is_name_byte bytes → n ≤ name_limit → IsName (take n bytes)
front_is_name bytes n begins len short = identifier_is_name (take n bytes) (front_identifier bytes n begins len) (omega (arith, run_length bytes n len))

-- a name within the limit in front
pub front_short_name : (bytes : List ℕ) (n : ℕ) (name : List ℕ) → BeginsWith Letter bytes → n ≡ prefix_len is_name_byte bytes
    → keyword_of (take n bytes) ≡ None → n ≤ name_limit → name ≡ take n bytes → Longest bytes n (kind.Name name) × (length name ≤ name_limit)
front_short_name bytes n name begins len none short is =
    rw is (front_name bytes n begins len none, omega (arith, run_length bytes n len))

-- a name past the limit in front
pub front_long_name : (place : ℕ) (bytes : List ℕ) (n : ℕ) → BeginsWith Letter bytes → n ≡ prefix_len is_name_byte bytes
    → keyword_of (take n bytes) ≡ None → name_limit < n → IsFault place bytes (error.NameTooLong place)
front_long_name place bytes n begins len none long =
    let more : name_limit < length (take n bytes) = omega (arith, run_length bytes n len) in
    name_too_long (front_name bytes n begins len none) more

-- the run in front is a number
front_digits : (bytes : List ℕ) (n : ℕ) → BeginsWith Digit bytes → n ≡ prefix_len is_digit bytes → Longest bytes n (kind.Number (value_from 0 (take n bytes)))
front_digits bytes n begins len =
    let digits : IsDigits (take n bytes) = rw len (run_is_number bytes begins) in
    longest_number bytes n (kind.Number (value_from 0 (take n bytes))) begins len (a_number digits)

-- a number in front
pub front_number : (bytes : List ℕ) (n value : ℕ) → BeginsWith Digit bytes → n ≡ prefix_len is_digit bytes
    → value ≡ value_from 0 (take n bytes) → Longest bytes n (kind.Number value)
front_number bytes n value begins len is = rw is (front_digits bytes n begins len)

-- a number past the limit in front
pub front_big_number : (place : ℕ) (bytes : List ℕ) (n : ℕ) → BeginsWith Digit bytes → n ≡ prefix_len is_digit bytes
    → value_bound ≤ value_from 0 (take n bytes) → IsFault place bytes (error.NumberTooBig place)
front_big_number place bytes n begins len big = number_too_big (front_digits bytes n begins len) big

-- a mark in front that begins no sign
pub front_nothing : (place : ℕ) (bytes : List ℕ) → BeginsWith Mark bytes → IsNoSign bytes 2
    → IsNoSign bytes 1 → IsFault place bytes (error.BadChar place)
front_nothing place [] begins none neither = absurd begins
front_nothing place (b ∷ bs) begins none neither = bad_char begins (no_token (b ∷ bs) begins none neither)

-- a blank or a comment is taken off the front
pub skipped_off : (place line n f : ℕ) (bytes : List ℕ) (old new : List Token) → Skips bytes n f → new ≡ old → Advances place line bytes old new (n, line + f)
skipped_off place line n f bytes old new s same = record {
  tokens = [];
  added = same ∙ sym (append-nil old);
  lexed = skip s here;
  moves = (skips_bounds s).0;
  within = (skips_bounds s).1;
  lines = omega (arith, (skips_bounds s).0, (skips_bounds s).2);
}

-- a token is taken off the front
pub token_off : (place line n : ℕ) (k : Kind) (bytes : List ℕ) (old new : List Token) → Longest bytes n k → IsInRange k
    → new ≡ old ++ (located k place line ∷ []) → Advances place line bytes old new (n, line)
token_off place line n k bytes old new t fits added = record {
  tokens = located k place line ∷ [];
  added = added;
  lexed = token t fits here;
  moves = longest_something t;
  within = t.within;
  lines = omega arith;
}

-- a text that is lexed up to a stop is refused
pub stop_refuses : (text : List ℕ) (ts : List Token) (place line : ℕ) (rest : List ℕ) (e : TextError) → length text ≤ text_limit
    → Lexes 0 1 text ts place line rest → Stops place rest e → IsRefused text e
stop_refuses text ts place line rest e within lexed (inl none) = subst (λ (x : TextError). IsRefused text x) (sym none) (no_memory within)
stop_refuses text ts place line rest e within lexed (inr fault) =
    faulty within (record { tokens = ts; place = place; line = line; rest = rest; lexed = lexed; fault = fault })

-- a fault is not that the text is too long
short_fault : {p n : ℕ} {bs : List ℕ} {e : TextError} → IsFault p bs e → e ≡ error.TooLong n → ⊥
short_fault (not_ascii is) same = absurd (cc (same))
short_fault (bad_char is nothing) same = absurd (cc (same))
short_fault (number_too_big t big) same = absurd (cc (same))
short_fault (name_too_long t long) same = absurd (cc (same))

-- a text that is refused for its length is too long
long_refused : {text : List ℕ} {e : TextError} {n : ℕ} → IsRefused text e → e ≡ error.TooLong n → text_limit < length text
long_refused (too_long long) same = long
long_refused (faulty within fault) same = absurd (short_fault fault.fault same)
long_refused (no_memory within) same = absurd (cc (same))

-- a text that is too long is refused for its length
refused_long : {text : List ℕ} {e : TextError} → IsRefused text e → text_limit < length text → e ≡ error.TooLong text_limit
refused_long (too_long long) more = refl
refused_long (faulty within fault) more = absurd (omega (arith, within, more))
refused_long (no_memory within) more = absurd (omega (arith, within, more))

-- a refusal, as it is answered
abbrev refusal : {A : Type 0} → TextError → Result A TextError
refusal e = Err e

-- a text is refused for its length exactly where it is too long
pub long_exactly : {A : Type 0} (text : List ℕ) (e : TextError) → IsRefused text e
    → (refusal {A = A} e ≡ refusal (error.TooLong text_limit)) ↔ (text_limit < length text)
long_exactly text e refused = (λ same. long_refused {n = text_limit} refused (cc (same)), λ more. ap (λ f. Err f) (refused_long refused more))

-- the facts of the tokens of a text
pub tokens_of : (text : List ℕ) (ts : List Token) (place line : ℕ) (rest : List ℕ) → length text ≤ text_limit
    → Lexes 0 1 text ts place line rest → AreTokens (text_tokens ts (length text))
tokens_of text ts place line rest within lexed = record { short = within; stand = lexed_stands lexed }
