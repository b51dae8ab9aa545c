-- A text is lexed in one way, and a text with a fault in none.
use Rattle.std.proofs.Common.{◌≡◌, ℕ, zero, suc, ◌+◌, ◌-◌, ◌<◌, ◌≤◌, List, [], ◌∷◌, ◌++◌, length, take, drop}
use Rattle.std.proofs.Common.{arith, refl, ap, inl, inr, subst, length-drop}
use Rattle.std.specs.List.{All}
use Rattle.ppm_words.specs.Limits.{name_limit, value_bound}
use Rattle.ppm_text.specs.declared.byte_class.ByteClass.{ByteClass}
use Rattle.ppm_text.specs.declared.byte_class.ByteClass.TheVariants.{Letter, Digit, LineFeed, Blank, Hash, Mark, High}
use Rattle.ppm_text.specs.declared.token.Kind.{Kind}
use Rattle.ppm_text.specs.declared.token.Kind.TheVariants as kind
use Rattle.ppm_text.specs.declared.token.Token.{Token}
use Rattle.ppm_text.specs.declared.text_error.TextError.{TextError}
use Rattle.ppm_text.specs.Bytes.{class_of, is_comment_byte}
use Rattle.ppm_text.specs.Spelling.{Spells, a_keyword, a_name, a_number, a_sign, Longest, IsInRange}
use Rattle.ppm_text.specs.Lexing.{Skips, line_feed, blank, comment, located, Lexes, here, skip, token, IsTextOf}
use Rattle.ppm_text.specs.Refusals.{IsFault, not_ascii, bad_char, number_too_big, name_too_long, FaultsAt}
use Rattle.ppm_text.specs.Tokens.{HasForm, StandsIn}
use Rattle.ppm_text.specs.ErrorNumbers.{place_of}
use Rattle.ppm_text.proofs.BytesLemmas.{prefix_le, all_cons}
use Rattle.ppm_text.proofs.SpellingLemmas.{spells_something, spells_class, one_longest, identifier_is_name}

-- one lexing after the other
pub joined : {p l : ℕ} {bs : List ℕ} {ts : List Token} {q m : ℕ} {mid : List ℕ} → Lexes p l bs ts q m mid
    → {us : List Token} {r o : ℕ} {rest : List ℕ} → Lexes q m mid us r o rest → Lexes p l bs (ts ++ us) r o rest
joined here more = more
joined (skip s c) more = skip s (joined c more)
joined (token t fits c) more = token t fits (joined c more)

-- a blank or a comment has a byte, stands within the bytes, and ends at most one line
pub skips_bounds : {bs : List ℕ} {n f : ℕ} → Skips bs n f → (0 < n) × (n ≤ length bs) × (f ≤ 1)
skips_bounds (line_feed is) = (omega arith, omega arith, omega arith)
skips_bounds (blank is) = (omega arith, omega arith, omega arith)
skips_bounds (comment {bs = bs} is len) = (omega arith, omega (arith, prefix_le is_comment_byte bs), omega arith)

-- a token has a byte
pub longest_something : {bs : List ℕ} {n : ℕ} {k : Kind} → Longest bs n k → 0 < n
longest_something {n = zero} t = absurd (spells_something t.spells refl)
longest_something {n = suc n} t = omega arith

-- nothing is no blank or comment
no_skip : {bs : List ℕ} {n f : ℕ} → Skips bs n f → bs ≡ [] → ⊥
no_skip s none = omega (arith, (skips_bounds s).0, (skips_bounds s).1, ap length none)

-- nothing is no token
no_longest : {bs : List ℕ} {n : ℕ} {k : Kind} → Longest bs n k → bs ≡ [] → ⊥
no_longest t none = omega (arith, longest_something t, t.within, ap length none)

-- bytes begin with one blank or comment
one_skip : {bs : List ℕ} {n f : ℕ} → Skips bs n f → {m g : ℕ} → Skips bs m g → (n ≡ m) × (f ≡ g)
one_skip (line_feed is) (line_feed is') = (refl, refl)
one_skip (line_feed is) (blank is') = absurd (cc (is, is'))
one_skip (line_feed is) (comment is' len) = absurd (cc (is, is'))
one_skip (blank is) (line_feed is') = absurd (cc (is, is'))
one_skip (blank is) (blank is') = (refl, refl)
one_skip (blank is) (comment is' len) = absurd (cc (is, is'))
one_skip (comment is len) (line_feed is') = absurd (cc (is, is'))
one_skip (comment is len) (blank is') = absurd (cc (is, is'))
one_skip (comment is len) (comment is' len') = (cc (len, len'), refl)

-- what a class stands for: a blank, a comment or a fault is no token
no_token_class : (b : ℕ) (bs : List ℕ) (class : ByteClass) → class_of b ≡ class → (class ≡ Letter → ⊥) → (class ≡ Digit → ⊥) → (class ≡ Mark → ⊥)
    → (n : ℕ) (k : Kind) → Longest (b ∷ bs) n k → ⊥
no_token_class b bs class is letter digit mark zero k t = omega (arith, longest_something t)
no_token_class b bs class is letter digit mark (suc n) k t =
    elim (spells_class b (take n bs) t.spells) [
      | inl l ↦ letter (cc (is, l))
      | inr more ↦ elim more [ inl d ↦ digit (cc (is, d)) | inr m ↦ mark (cc (is, m)) ]
    ]

-- a blank or a comment is no token
no_both : {bs : List ℕ} {n f : ℕ} → Skips bs n f → (m : ℕ) (k : Kind) → Longest bs m k → ⊥
no_both (line_feed {b = b} {bs = bs} is) m k t = no_token_class b bs LineFeed is (λ e. cc (e)) (λ e. cc (e)) (λ e. cc (e)) m k t
no_both (blank {b = b} {bs = bs} is) m k t = no_token_class b bs Blank is (λ e. cc (e)) (λ e. cc (e)) (λ e. cc (e)) m k t
no_both (comment {b = b} {bs = bs} is len) m k t = no_token_class b bs Hash is (λ e. cc (e)) (λ e. cc (e)) (λ e. cc (e)) m k t

-- a piece taken off, by equal lengths
moved : (p l : ℕ) (bs : List ℕ) (n f n' f' : ℕ) {us : List Token} {r o : ℕ} {rest : List ℕ} → n ≡ n' → f ≡ f'
    → Lexes (p + n') (l + f') (drop n' bs) us r o rest → Lexes (p + n) (l + f) (drop n bs) us r o rest
moved p l bs n f n' f' same lines c = rw (same, lines) c

-- a token taken off, by an equal length
moved_token : (p l : ℕ) (bs : List ℕ) (n n' : ℕ) {us : List Token} {r o : ℕ} {rest : List ℕ} → n ≡ n'
    → Lexes (p + n') l (drop n' bs) us r o rest → Lexes (p + n) l (drop n bs) us r o rest
moved_token p l bs n n' same c = rw same c

-- two cuttings to the end give the same tokens
same_tokens : {p l : ℕ} {bs : List ℕ} {ts : List Token} {q m : ℕ} {rest : List ℕ} → Lexes p l bs ts q m rest → rest ≡ []
    → {us : List Token} {r o : ℕ} {last : List ℕ} → Lexes p l bs us r o last → last ≡ [] → ts ≡ us
same_tokens here e here f = refl
same_tokens here e (skip s c) f = absurd (no_skip s e)
same_tokens here e (token t fits c) f = absurd (no_longest t e)
same_tokens (skip s c) e here f = absurd (no_skip s f)
same_tokens {p = p} {l = l} {bs = bs} (skip {n = n} {f = g} s c) e (skip {n = n'} {f = g'} s' c') f =
    same_tokens c e (moved p l bs n g n' g' (one_skip s s').0 (one_skip s s').1 c') f
same_tokens (skip s c) e (token t fits c') f = absurd (no_both s _ _ t)
same_tokens (token t fits c) e here f = absurd (no_longest t f)
same_tokens (token t fits c) e (skip s c') f = absurd (no_both s _ _ t)
same_tokens {p = p} {l = l} {bs = bs} (token {n = n} {k = k} {ts = ts} t fits c) e (token {n = n'} {k = k'} {ts = ts'} t' fits' c') f =
    let one = one_longest bs n n' k k' t t' in
    let more : ts ≡ ts' = same_tokens c e (moved_token p l bs n n' one.0 c') f in
    let first : located k p l ≡ located k' p l = ap (λ (j : Kind). located j p l) one.1 in
    cc (first, more)

-- a text is lexed into one list of tokens
pub one_lexing : {text : List ℕ} {ts us : List Token} → IsTextOf text ts → IsTextOf text us → ts ≡ us
one_lexing a b = same_tokens a.1 refl b.1 refl

-- a fault stands before some byte
fault_something : {p : ℕ} {bs : List ℕ} {e : TextError} → IsFault p bs e → bs ≡ [] → ⊥
fault_something (not_ascii is) none = absurd (cc (none))
fault_something (bad_char is nothing) none = absurd (cc (none))
fault_something (number_too_big t big) none = no_longest t none
fault_something (name_too_long t long) none = no_longest t none

-- a fault is no blank or comment
fault_no_skip : {p : ℕ} {bs : List ℕ} {e : TextError} → IsFault p bs e → {n f : ℕ} → Skips bs n f → ⊥
fault_no_skip (not_ascii is) (line_feed is') = cc (is, is')
fault_no_skip (not_ascii is) (blank is') = cc (is, is')
fault_no_skip (not_ascii is) (comment is' len) = cc (is, is')
fault_no_skip (bad_char is nothing) (line_feed is') = cc (is, is')
fault_no_skip (bad_char is nothing) (blank is') = cc (is, is')
fault_no_skip (bad_char is nothing) (comment is' len) = cc (is, is')
fault_no_skip (number_too_big t big) s = no_both s _ _ t
fault_no_skip (name_too_long t long) s = no_both s _ _ t

-- a fault is no token within the limits
fault_no_token : {p : ℕ} {bs : List ℕ} {e : TextError} → IsFault p bs e → (n : ℕ) (k : Kind) → Longest bs n k → IsInRange k → ⊥
fault_no_token (not_ascii {b = b} {bs = bs} is) n k t fits = no_token_class b bs High is (λ e. cc (e)) (λ e. cc (e)) (λ e. cc (e)) n k t
fault_no_token (bad_char is nothing) n k t fits = nothing n k t.within t.spells
fault_no_token (number_too_big {n = m} {value = value} {bs = bs} t big) n k t' fits =
    let small : value < value_bound = subst IsInRange (one_longest bs n m k (kind.Number value) t' t).1 fits in omega arith
fault_no_token (name_too_long {n = m} {bs = bs} {name = name} t long) n k t' fits =
    let short : length name ≤ name_limit = subst IsInRange (one_longest bs n m k (kind.Name name) t' t).1 fits in omega arith

-- what is lexed up to a fault is not lexed to the end
pub fault_stops : {p l : ℕ} {bs : List ℕ} {ts : List Token} {q m : ℕ} {rest : List ℕ} → Lexes p l bs ts q m rest
    → {e : TextError} → IsFault q rest e → {us : List Token} {r o : ℕ} {last : List ℕ} → Lexes p l bs us r o last → last ≡ [] → ⊥
fault_stops here fault here f = fault_something fault f
fault_stops here fault (skip s c) f = fault_no_skip fault s
fault_stops here fault (token t fits c) f = fault_no_token fault _ _ t fits
fault_stops (skip s c) fault here f = no_skip s f
fault_stops {p = p} {l = l} {bs = bs} (skip {n = n} {f = g} s c) fault (skip {n = n'} {f = g'} s' c') f =
    fault_stops c fault (moved p l bs n g n' g' (one_skip s s').0 (one_skip s s').1 c') f
fault_stops (skip s c) fault (token t fits c') f = no_both s _ _ t
fault_stops (token t fits c) fault here f = no_longest t f
fault_stops (token t fits c) fault (skip s c') f = no_both s _ _ t
fault_stops {p = p} {l = l} {bs = bs} (token {n = n} {k = k} t fits c) fault (token {n = n'} {k = k'} t' fits' c') f =
    fault_stops c fault (moved_token p l bs n n' (one_longest bs n n' k k' t t').0 c') f

-- a text with a fault is lexed into no tokens
pub fault_refuses : {text : List ℕ} {e : TextError} → FaultsAt text e → (us : List Token) → IsTextOf text us → ⊥
fault_refuses fault us lexed = fault_stops fault.lexed fault.fault lexed.1 refl

-- bytes begin with one fault
same_fault : {p : ℕ} {bs : List ℕ} {e f : TextError} → IsFault p bs e → IsFault p bs f → e ≡ f
same_fault (not_ascii is) (not_ascii is') = refl
same_fault (not_ascii is) (bad_char is' nothing) = absurd (cc (is, is'))
same_fault (not_ascii {b = b} {bs = bs} is) (number_too_big t big) = absurd (no_token_class b bs High is (λ e. cc (e)) (λ e. cc (e)) (λ e. cc (e)) _ _ t)
same_fault (not_ascii {b = b} {bs = bs} is) (name_too_long t long) = absurd (no_token_class b bs High is (λ e. cc (e)) (λ e. cc (e)) (λ e. cc (e)) _ _ t)
same_fault (bad_char is nothing) (not_ascii is') = absurd (cc (is, is'))
same_fault (bad_char is nothing) (bad_char is' nothing') = refl
same_fault (bad_char is nothing) (number_too_big t big) = absurd (nothing _ _ t.within t.spells)
same_fault (bad_char is nothing) (name_too_long t long) = absurd (nothing _ _ t.within t.spells)
same_fault (number_too_big t big) (not_ascii {b = b} {bs = bs} is) = absurd (no_token_class b bs High is (λ e. cc (e)) (λ e. cc (e)) (λ e. cc (e)) _ _ t)
same_fault (number_too_big t big) (bad_char is nothing) = absurd (nothing _ _ t.within t.spells)
same_fault (number_too_big t big) (number_too_big t' big') = refl
same_fault (number_too_big {bs = bs} t big) (name_too_long t' long) = absurd (cc ((one_longest bs _ _ _ _ t t').1))
same_fault (name_too_long t long) (not_ascii {b = b} {bs = bs} is) = absurd (no_token_class b bs High is (λ e. cc (e)) (λ e. cc (e)) (λ e. cc (e)) _ _ t)
same_fault (name_too_long t long) (bad_char is nothing) = absurd (nothing _ _ t.within t.spells)
same_fault (name_too_long {bs = bs} t long) (number_too_big t' big) = absurd (cc ((one_longest bs _ _ _ _ t t').1))
same_fault (name_too_long t long) (name_too_long t' long') = refl

-- two cuttings up to a fault come to the same fault
pub one_fault : {p l : ℕ} {bs : List ℕ} {ts : List Token} {q m : ℕ} {rest : List ℕ} → Lexes p l bs ts q m rest → {e : TextError} → IsFault q rest e
    → {us : List Token} {r o : ℕ} {last : List ℕ} → Lexes p l bs us r o last → {f : TextError} → IsFault r last f → e ≡ f
one_fault here fault here other = same_fault fault other
one_fault here fault (skip s c) other = absurd (fault_no_skip fault s)
one_fault here fault (token t fits c) other = absurd (fault_no_token fault _ _ t fits)
one_fault (skip s c) fault here other = absurd (fault_no_skip other s)
one_fault {p = p} {l = l} {bs = bs} (skip {n = n} {f = g} s c) fault (skip {n = n'} {f = g'} s' c') other =
    one_fault c fault (moved p l bs n g n' g' (one_skip s s').0 (one_skip s s').1 c') other
one_fault (skip s c) fault (token t fits c') other = absurd (no_both s _ _ t)
one_fault (token t fits c) fault here other = absurd (fault_no_token other _ _ t fits)
one_fault (token t fits c) fault (skip s c') other = absurd (no_both s _ _ t)
one_fault {p = p} {l = l} {bs = bs} (token {n = n} {k = k} t fits c) fault (token {n = n'} {k = k'} t' fits' c') other =
    one_fault c fault (moved_token p l bs n n' (one_longest bs n n' k k' t t').0 c') other

-- a fault names its place
pub fault_place : {p : ℕ} {bs : List ℕ} {e : TextError} → IsFault p bs e → place_of e ≡ p
fault_place (not_ascii is) = refl
fault_place (bad_char is nothing) = refl
fault_place (number_too_big t big) = refl
fault_place (name_too_long t long) = refl

-- a token within the limits has its form
has_form : {bytes : List ℕ} {k : Kind} → Spells bytes k → IsInRange k → HasForm k
has_form (a_keyword identifier found) fits = tt
has_form (a_name {bytes = bytes} identifier none) fits = (identifier_is_name bytes identifier fits, none)
has_form (a_number digits) fits = fits
has_form (a_sign found) fits = tt

-- where the tokens of a lexing stand: at places between its ends, in lines that grow no faster than the places
record Stands (p l size : ℕ) (t : Token) : Type 0 where
  form : HasForm t.kind
  above : p ≤ t.place
  below : t.place < p + size
  first_line : l ≤ t.line
  line : t.line + p ≤ l + t.place

-- the tokens after a piece of n bytes and at most one line stand after its place
stands_on : (p l n l' size : ℕ) (t : Token) → 0 < n → n ≤ size → l ≤ l' → l' ≤ l + 1 → Stands (p + n) l' (size - n) t → Stands p l size t
stands_on p l n l' size t some within above lines s = record {
  form = s.form;
  above = omega (arith, s.above);
  below = omega (arith, s.below);
  first_line = omega (arith, s.first_line);
  line = omega (arith, s.line);
}

-- each token of a lexing stands so
tokens_stand : {p l : ℕ} {bs : List ℕ} {ts : List Token} {q m : ℕ} {rest : List ℕ} → Lexes p l bs ts q m rest → All (Stands p l (length bs)) ts
tokens_stand here = λ k d h. absurd (omega arith)
tokens_stand {p = p} {l = l} {bs = bs} (skip {n = n} {f = f} s c) =
    let b = skips_bounds s in
    λ k d h. stands_on p l n (l + f) (length bs) _ b.0 b.1 (omega arith) (omega (arith, b.2)) (rw length-drop at (tokens_stand c k d h))
tokens_stand {p = p} {l = l} {bs = bs} (token {n = n} {k = kind} {ts = ts} t fits c) =
    all_cons (Stands p l (length bs)) (located kind p l) ts
    (record {
      form = has_form t.spells fits;
      above = omega arith;
      below = omega (arith, longest_something t, t.within);
      first_line = omega arith;
      line = omega arith;
    })
    (λ k d h. stands_on p l n l (length bs) _ (longest_something t) t.within (omega arith) (omega arith) (rw length-drop at (tokens_stand c k d h)))

-- each token that a text is lexed into stands in it
pub lexed_stands : {text : List ℕ} {ts : List Token} {place line : ℕ} {rest : List ℕ} → Lexes 0 1 text ts place line rest → All (StandsIn (length text)) ts
lexed_stands lexed k d h =
    let s = tokens_stand lexed k d h in
    record { form = s.form; place = omega (arith, s.below); first_line = s.first_line; line = omega (arith, s.line) }
