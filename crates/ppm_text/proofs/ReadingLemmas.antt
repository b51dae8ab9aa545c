-- Each text is lexed into tokens, or has a fault.
use Rattle.std.proofs.Common.{◌≡◌, ℕ, zero, suc, ◌+◌, ◌<◌, ◌≤◌, ◌⊎◌, Bool, true, false, List, [], ◌∷◌, length, take, drop}
use Rattle.std.proofs.Common.{arith, refl, inl, inr, subst, length-drop}
use Rattle.std.specs.Prelude.{Option, Some, None, nat_lt}
use Rattle.std.specs.List.{prefix_len}
use Rattle.ppm_words.specs.Limits.{name_limit, value_bound}
use Rattle.ppm_words.specs.Names.{is_digit, is_name_byte}
use Rattle.ppm_text.specs.declared.byte_class.ByteClass.{ByteClass}
use Rattle.ppm_text.specs.declared.byte_class.ByteClass.TheVariants.{Letter, Digit, LineFeed, Blank, Hash, Mark, High}
use Rattle.ppm_text.specs.declared.token.Keyword.{Keyword}
use Rattle.ppm_text.specs.declared.token.Sign.{Sign}
use Rattle.ppm_text.specs.declared.token.Kind.{Kind}
use Rattle.ppm_text.specs.declared.token.Kind.TheVariants as kind
use Rattle.ppm_text.specs.declared.token.Token.{Token}
use Rattle.ppm_text.specs.declared.text_error.TextError.{TextError}
use Rattle.ppm_text.specs.declared.text_error.TextError.TheVariants as error
use Rattle.ppm_text.specs.Bytes.{class_of, is_comment_byte, value_from}
use Rattle.ppm_text.specs.Spelling.{keyword_of, sign_of, Longest, IsInRange}
use Rattle.ppm_text.specs.Lexing.{Skips, line_feed, blank, comment, located, Lexes, here, skip, token, IsTextOf}
use Rattle.ppm_text.specs.Refusals.{IsFault, not_ascii, FaultsAt}
use Rattle.ppm_text.specs.Correct.{HasOneReading}
use Rattle.ppm_text.specs.Scanning.{IsNoSign}
use Rattle.ppm_text.proofs.SpellingLemmas.{longest_two, longest_one}
use Rattle.ppm_text.proofs.LexingLemmas.{skips_bounds, longest_something, one_lexing, one_fault, fault_refuses, fault_place}
use Rattle.ppm_text.proofs.ScanLemmas.{front_keyword, front_short_name, front_long_name, front_number, front_big_number, front_nothing}

-- the bytes begin with a blank or a comment, with a token, or with a fault
abbrev BeginsSomehow : ℕ → List ℕ → Type 0
BeginsSomehow p bytes =
    ((n : ℕ) × (f : ℕ) × Skips bytes n f) ⊎ (((n : ℕ) × (k : Kind) × Longest bytes n k × IsInRange k) ⊎ ((e : TextError) × IsFault p bytes e))

-- the test of a length that is too great
is_long : (n m : ℕ) → nat_lt n m ≡ true → n < m
is_long n m h = grind (arith, h)

-- and of one that is not
is_short : (n m : ℕ) → nat_lt n m ≡ false → m ≤ n
is_short n m h = grind (arith, h)

-- an identifier is a keyword, a name or too long
identifier_begins : (p b : ℕ) (bs : List ℕ) → class_of b ≡ Letter → BeginsSomehow p (b ∷ bs)
identifier_begins p b bs is = go (keyword_of (take n (b ∷ bs))) refl
  where
    n : ℕ
    n = prefix_len is_name_byte (b ∷ bs)

    named : (long : Bool) → nat_lt name_limit n ≡ long → keyword_of (take n (b ∷ bs)) ≡ None → BeginsSomehow p (b ∷ bs)
    named true long none = inr (inr (error.NameTooLong p, front_long_name p (b ∷ bs) n is refl none (is_long name_limit n long)))
    named false long none =
        let name = front_short_name (b ∷ bs) n (take n (b ∷ bs)) is refl none (is_short name_limit n long) refl in
        inr (inl (n, kind.Name (take n (b ∷ bs)), name.0, name.1))

    go : (o : Option Keyword) → keyword_of (take n (b ∷ bs)) ≡ o → BeginsSomehow p (b ∷ bs)
    go (Some found) found_is = inr (inl (n, kind.Keyword found, front_keyword (b ∷ bs) n found is refl found_is, tt))
    go None none = named (nat_lt name_limit n) refl none

-- digits are a number or too big
digits_begin : (p b : ℕ) (bs : List ℕ) → class_of b ≡ Digit → BeginsSomehow p (b ∷ bs)
digits_begin p b bs is = go (nat_lt value value_bound) refl
  where
    n : ℕ
    n = prefix_len is_digit (b ∷ bs)

    value : ℕ
    value = value_from 0 (take n (b ∷ bs))

    go : (small : Bool) → nat_lt value value_bound ≡ small → BeginsSomehow p (b ∷ bs)
    go true small = inr (inl (n, kind.Number value, front_number (b ∷ bs) n value is refl refl, grind (arith, small)))
    go false small = inr (inr (error.NumberTooBig p, front_big_number p (b ∷ bs) n is refl (grind (arith, small))))

-- a mark is a sign of two bytes or of one, or begins nothing
mark_begins : (p b : ℕ) (bs : List ℕ) → class_of b ≡ Mark → BeginsSomehow p (b ∷ bs)
mark_begins p b bs is = two bs is
  where
    one : (cs : List ℕ) → class_of b ≡ Mark → IsNoSign (b ∷ cs) 2 → (o : Option Sign) → sign_of (take 1 (b ∷ cs)) ≡ o → BeginsSomehow p (b ∷ cs)
    one cs mark none (Some found) sign = inr (inl (1, kind.Sign found, longest_one (b ∷ cs) found mark none (omega arith, sign), tt))
    one cs mark none None sign = inr (inr (error.BadChar p, front_nothing p (b ∷ cs) mark none (λ h. sign)))

    longer : (c : ℕ) (cs : List ℕ) → class_of b ≡ Mark → (o : Option Sign) → sign_of (take 2 (b ∷ c ∷ cs)) ≡ o → BeginsSomehow p (b ∷ c ∷ cs)
    longer c cs mark (Some found) sign = inr (inl (2, kind.Sign found, longest_two (b ∷ c ∷ cs) found mark (omega arith, sign), tt))
    longer c cs mark None sign = one (c ∷ cs) mark (λ h. sign) (sign_of (take 1 (b ∷ c ∷ cs))) refl

    two : (cs : List ℕ) → class_of b ≡ Mark → BeginsSomehow p (b ∷ cs)
    two [] mark = one [] mark (λ h. absurd (omega (arith, h))) (sign_of (take 1 (b ∷ []))) refl
    two (c ∷ cs) mark = longer c cs mark (sign_of (take 2 (b ∷ c ∷ cs))) refl

-- any bytes begin so
begins_somehow : (p b : ℕ) (bs : List ℕ) → BeginsSomehow p (b ∷ bs)
begins_somehow p b bs = go (class_of b) refl
  where
    go : (class : ByteClass) → class_of b ≡ class → BeginsSomehow p (b ∷ bs)
    go Letter is = identifier_begins p b bs is
    go Digit is = digits_begin p b bs is
    go LineFeed is = inl (1, 1, line_feed is)
    go Blank is = inl (1, 0, blank is)
    go Hash is = inl (1 + prefix_len is_comment_byte bs, 0, comment is refl)
    go Mark is = mark_begins p b bs is
    go High is = inr (inr (error.NotAscii p, not_ascii is))

-- the bytes are lexed to their end, or up to a fault
pub record IsLexedTo (p l : ℕ) (bytes rest : List ℕ) : Type 0 where
  pub tokens : List Token
  pub place : ℕ
  pub line : ℕ
  pub lexed : Lexes p l bytes tokens place line rest

pub record IsLexedToFault (p l : ℕ) (bytes : List ℕ) : Type 0 where
  pub rest : List ℕ
  pub error : TextError
  pub to : IsLexedTo p l bytes rest
  pub fault : IsFault to.place rest error

abbrev IsReadSomehow : ℕ → ℕ → List ℕ → Type 0
IsReadSomehow p l bytes = IsLexedTo p l bytes [] ⊎ IsLexedToFault p l bytes

-- after a blank or a comment
behind_skip : (p l n f : ℕ) (bytes : List ℕ) → Skips bytes n f → IsReadSomehow (p + n) (l + f) (drop n bytes) → IsReadSomehow p l bytes
behind_skip p l n f bytes s (inl c) = inl (record { tokens = c.tokens; place = c.place; line = c.line; lexed = skip s c.lexed })
behind_skip p l n f bytes s (inr c) = inr (record {
  rest = c.rest;
  error = c.error;
  to = record { tokens = c.to.tokens; place = c.to.place; line = c.to.line; lexed = skip s c.to.lexed };
  fault = c.fault;
})

-- after a token
behind_token : (p l n : ℕ) (k : Kind) (bytes : List ℕ) → Longest bytes n k → IsInRange k → IsReadSomehow (p + n) l (drop n bytes) → IsReadSomehow p l bytes
behind_token p l n k bytes t fits (inl c) =
    inl (record { tokens = located k p l ∷ c.tokens; place = c.place; line = c.line; lexed = token t fits c.lexed })
behind_token p l n k bytes t fits (inr c) = inr (record {
  rest = c.rest;
  error = c.error;
  to = record { tokens = located k p l ∷ c.to.tokens; place = c.to.place; line = c.to.line; lexed = token t fits c.to.lexed };
  fault = c.fault;
})

-- any bytes, up to so many, are read so
read_somehow : (most p l : ℕ) (bytes : List ℕ) → length bytes ≤ most → IsReadSomehow p l bytes
read_somehow most p l [] h = inl (record { tokens = []; place = p; line = l; lexed = here })
read_somehow zero p l (b ∷ bs) h = absurd (omega (arith, h))
read_somehow (suc most) p l (b ∷ bs) h = go (begins_somehow p b bs) (λ q m n some. read_somehow most q m (drop n (b ∷ bs)) (shorter n some))
  where
    shorter : (n : ℕ) → 0 < n → length (drop n (b ∷ bs)) ≤ most
    shorter n some = rw length-drop (omega (arith, h, some))

    go : BeginsSomehow p (b ∷ bs) → ((q m n : ℕ) → 0 < n → IsReadSomehow q m (drop n (b ∷ bs))) → IsReadSomehow p l (b ∷ bs)
    go (inl s) next = behind_skip p l s.0 s.1 (b ∷ bs) s.2 (next (p + s.0) (l + s.1) s.0 (skips_bounds s.2).0)
    go (inr (inl t)) next = behind_token p l t.0 t.1 (b ∷ bs) t.2 t.3 (next (p + t.0) l t.0 (longest_something t.2))
    go (inr (inr e)) next = inr (record {
      rest = b ∷ bs;
      error = e.0;
      to = record { tokens = []; place = p; line = l; lexed = here };
      fault = e.1;
    })

-- a lexing comes to the place after what it lexes
lexed_place : {p l : ℕ} {bs : List ℕ} {ts : List Token} {q m : ℕ} {rest : List ℕ} → Lexes p l bs ts q m rest → p + length bs ≡ q + length rest
lexed_place here = refl
lexed_place (skip {n = n} s c) = omega (arith, (skips_bounds s).1, rw length-drop at (lexed_place c))
lexed_place (token {n = n} t fits c) = omega (arith, t.within, rw length-drop at (lexed_place c))

-- a text without a fault has tokens
some_tokens : (text : List ℕ) → ((e : TextError) → FaultsAt text e → ⊥) → (ts : List Token) × IsTextOf text ts
some_tokens text free = go (read_somehow (length text) 0 1 text (omega arith))
  where
    go : IsReadSomehow 0 1 text → (ts : List Token) × IsTextOf text ts
    go (inl c) =
        let to_end : c.place ≡ length text = omega (arith, lexed_place c.lexed) in
        (c.tokens, (c.line, subst (λ q. Lexes 0 1 text c.tokens q c.line []) to_end c.lexed))
    go (inr c) = absurd (free c.error (record {
      tokens = c.to.tokens;
      place = c.to.place;
      line = c.to.line;
      rest = c.rest;
      lexed = c.to.lexed;
      fault = c.fault;
    }))

-- each text is read in one way
pub one_reading : (text : List ℕ) → HasOneReading text
one_reading text = record {
  tokens = λ ts us a b. one_lexing a b;
  fault = λ e f a b. one_fault a.lexed a.fault b.lexed b.fault;
  either = λ ts e a b. fault_refuses b ts a;
  place = λ e a. fault_place a.fault;
  none = some_tokens text;
}
