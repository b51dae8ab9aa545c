-- What is appended in parts.
use Rattle.std.proofs.Common.{◌≡◌, ◌∙◌, List, [], ◌∷◌, ◌++◌, ℕ, suc, ◌+◌, ◌-◌, ◌<◌, length, ap, arith, refl, sym}
use Rattle.std.proofs.lemmas.List.{append-nil, append_assoc}
use Rattle.std.specs.List.{flat_map, range_with_len}
use Rattle.ppm_picture.specs.Markup.{appended, markup_text, part_text}
use Rattle.ppm_picture.specs.declared.markup.Markup.{Markup}

-- one part and then another
pub and_then : (text one two : List ℕ) {with_one with_two : List ℕ} → with_one ≡ text ++ one → with_two ≡ with_one ++ two
    → with_two ≡ text ++ (one ++ two)
and_then text one two first second = second ∙ ap (λ front. front ++ two) first ∙ append_assoc text one two

-- parts after a text, and before it another
appended_after : (old text : List ℕ) (parts : List Markup) → old ++ appended text parts ≡ appended (old ++ text) parts
appended_after old text [] = refl
appended_after old text (part ∷ parts) =
    appended_after old (text ++ part_text part) parts ∙ ap (λ front. appended front parts) (sym (append_assoc old text (part_text part)))

pub markup_after : (old : List ℕ) (parts : List Markup) → old ++ markup_text parts ≡ appended old parts
markup_after old [] = append-nil old
markup_after old (part ∷ parts) = appended_after old (part_text part) parts

-- no part is left
pub markup_last : (old text : List ℕ) (parts left : List Markup) → length left < 1 → appended old parts ≡ appended text left
    → text ≡ old ++ markup_text parts
markup_last old text parts [] none is = sym is ∙ sym (markup_after old parts)
markup_last old text parts (part ∷ left) none is = absurd (omega (arith, none))

-- what is left, after a piece of it is written
pub piece : {all : List ℕ} (text one rest : List ℕ) {new : List ℕ} → all ≡ text ++ (one ++ rest) → new ≡ text ++ one → all ≡ new ++ rest
piece text one rest is pushed = is ∙ sym (append_assoc text one rest) ∙ ap (λ front. front ++ rest) (sym pushed)

-- of numbers up to an end
pub number_more : (part : ℕ → List ℕ) {all : List ℕ} (text : List ℕ) {new : List ℕ} (n end : ℕ) → n < end
    → all ≡ text ++ flat_map part (range_with_len n (end - n)) → new ≡ text ++ part n
    → all ≡ new ++ flat_map part (range_with_len (n + 1) (end - (n + 1)))
number_more part text n end more is pushed =
    let one : end - n ≡ suc (end - (n + 1)) = omega (arith, more) in
    piece text (part n) (flat_map part (range_with_len (n + 1) (end - (n + 1))))
    (is ∙ ap (λ count. text ++ flat_map part (range_with_len n count)) one) pushed

pub number_last : (part : ℕ → List ℕ) {all : List ℕ} (text : List ℕ) (n end : ℕ) → end - n ≡ 0
    → all ≡ text ++ flat_map part (range_with_len n (end - n)) → text ≡ all
number_last part text n end none is =
    sym (is ∙ ap (λ count. text ++ flat_map part (range_with_len n count)) none ∙ append-nil text)
