-- What a typed getter reads of an option, kept where it is in the range, is the option's number in the matches.
use Rattle.std.proofs.Common.{◌≡◌, ℕ, Bool, true, false, ◌&&◌, nat_le, ◌<◌, ◌≤◌, ◌^◌, Option, Some, None, Result, Ok, Err, refl, ap, ◌∙◌, subst, arith}
use Rattle.std.proofs.Common.{if◌then◌else◌, option_and_then}
use Rattle.std.specs.Str.Parse.{ParsesUnsigned}
use Rattle.std.proofs.lemmas.Bool.{leb-true, le-leb}
use Rattle.clap.specs.Words.{ReadsOne, Text, one_of, rows_of}
use Rattle.clap.specs.Matches.{one_text}
use Rattle.clap.specs.declared.parser.matches.Found.{Found}
use Rattle.clap.specs.declared.builder.value_parser.ValueParser.TheVariants as parsers
use Rattle.clap.specs.ValueTests.{is_unsigned_in}
use Rattle.clap.proofs.ValueTestLemmas.{accepts-Accepts, Accepts-accepts}
use Rattle.clap.proofs.WalkLemmas.{one_text-rows, both}
use Rattle.ppm_cli.specs.CommandLine.{Number}
use Rattle.ppm_cli.specs.Values.{kept_in, number_in, value_of_digits}

-- of a text
text_read : (E : Type 0) (G : Text → Result ℕ E → Type 0) → ((u : Text) (x : Result ℕ E) → G u x → ParsesUnsigned 32 10 u x) →
    (low high : ℕ) → high < 2 ^ 32 → (t : Text) (r : Option ℕ) → ReadsOne G t r →
    option_and_then (kept_in low high) r ≡ number_in (Number low high) t
text_read E G only low high fits t r read = go (is_unsigned_in low high t) refl r read where
  go : (b : Bool) → is_unsigned_in low high t ≡ b → (r : Option ℕ) → ReadsOne G t r →
      option_and_then (kept_in low high) r ≡ (if b then Some (value_of_digits t) else None)
  go true e (Some v) read =
      let range = accepts-Accepts false (parsers.Unsigned low high) t e in
      let value : v ≡ value_of_digits t = (only t (Ok v) read).1 in
      rw (value, le-leb low (value_of_digits t) range.2, le-leb (value_of_digits t) high range.3) refl
  go true e None read =
      let range = accepts-Accepts false (parsers.Unsigned low high) t e in
      absurd (only t (Err read.0) read.1 (range.0, omega (arith, range.3, fits)))
  go false e (Some v) read = test (nat_le low v && nat_le v high) refl where
    test : (k : Bool) → (nat_le low v && nat_le v high) ≡ k → (if k then Some v else None) ≡ None
    test false h = refl
    test true h =
        let parsed = only t (Ok v) read in
        let low_high = both _ _ h in
        let least : low ≤ value_of_digits t = subst (λ n. low ≤ n) parsed.1 (leb-true _ _ low_high.0) in
        let most : value_of_digits t ≤ high = subst (λ n. n ≤ high) parsed.1 (leb-true _ _ low_high.1) in
        let small : value_of_digits t < 2 ^ 64 = omega (arith, most, fits) in
        let yes : is_unsigned_in low high t ≡ true = Accepts-accepts false (parsers.Unsigned low high) t (parsed.0.0, small, least, most) in
        cc (yes, e)
  go false e None read = refl

-- of the matches of a command
pub number_read : (E : Type 0) (G : Text → Result ℕ E → Type 0) → ((u : Text) (x : Result ℕ E) → G u x → ParsesUnsigned 32 10 u x) →
    (low high : ℕ) → high < 2 ^ 32 → (f : Found) (id : Text) (r : Option ℕ) → (one_text f id ≡ None → r ≡ None) →
    ((t : Text) → one_text f id ≡ Some t → ReadsOne G t r) →
    option_and_then (kept_in low high) r ≡ option_and_then (number_in (Number low high)) (one_of id (rows_of f))
number_read E G only low high fits f id r none value =
    go (one_text f id) refl ∙ ap (option_and_then (number_in (Number low high))) (one_text-rows f id)
  where
    go : (o : Option Text) → one_text f id ≡ o → option_and_then (kept_in low high) r ≡ option_and_then (number_in (Number low high)) o
    go None e = ap (option_and_then (kept_in low high)) (none e)
    go (Some t) e = text_read E G only low high fits t r (value t e)
