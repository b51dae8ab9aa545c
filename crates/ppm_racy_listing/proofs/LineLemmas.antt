-- A line with a put in place of an exchange is one of a put, and tells the exchange.
use Rattle.std.proofs.Common.{◌≡◌, ◌∙◌, ℕ, ◌<◌, ◌==◌, ◌&&◌, Bool, true, false, cond, nat_lt, List, [], ◌∷◌, ◌++◌, map, Option, Some, None, codes, bytes_eq}
use Rattle.std.proofs.Common.{length, drop, decimal, refl, sym, ap, subst, arith, append_assoc, append-nil, eqb-true, lt-ltb}
use Rattle.std.specs.Option.{option_map}
use Rattle.std.specs.List.{flat_map, AllByRecursion}
use Rattle.std.proofs.lemmas.Bool.{both_ways}
use Rattle.std.proofs.lemmas.Slice.Eq.{bytes_eq-Decides}
use Rattle.ppm_pieces.specs.Numbers.{is_numeral, value}
use Rattle.ppm_pieces.specs.Pieces.{split}
use Rattle.ppm_pieces.proofs.NumberLemmas.{both_parts, decimal-value}
use Rattle.ppm_listing.specs.declared.keyword.Keyword.{Keyword}
use Rattle.ppm_listing.specs.declared.keyword.Keyword.TheVariants as keyword
use Rattle.ppm_listing.specs.declared.token.Token.{Token}
use Rattle.ppm_listing.specs.declared.token.Token.TheVariants.{Register as RegisterToken}
use Rattle.ppm_listing.specs.Tokens.{Line, line, line_text, keyword_text, token_text, operand_text}
use Rattle.ppm_listing.specs.Correct.{LineFits}
use Rattle.ppm_listing.proofs.KeywordLemmas.{spelling, keyword_text_injective}
use Rattle.ppm_listing_reader.specs.Forms.{register_with}
use Rattle.ppm_listing_reader.proofs.WrittenLemmas.{bytes_of}
use Rattle.ppm_racy_listing.specs.Plain.{CamLine, cam_with, cam_in, cam_line, register_in, put_or, plain_line, old_in, joined}
use Rattle.ppm_racy_listing.proofs.TextLemmas.{IsSome, some_piece}
use Rattle.ppm_racy_listing.proofs.SplitLemmas.{IsFree, joined_at, joined_lines, joined-split, free_pieces, free_words, split-joined, free_append, split_words}

-- a line is an exchange, with its words
pub record IsCam (p : List ℕ) (cam : CamLine) : Type 0 where
  pub old_word : List ℕ
  pub words : split 32 p ≡ codes "cam" ∷ cam.region ∷ cam.index ∷ old_word ∷ cam.new ∷ cam.line ∷ []
  pub reads : register_in old_word ≡ Some cam.old

pub cam_told : (p : List ℕ) (cam : CamLine) → cam_line p ≡ Some cam → IsCam p cam
cam_told p cam h = go (split 32 p) refl h
  where
    by_keyword : (same : Bool) (k region index old new line : List ℕ) (n : ℕ) → bytes_eq k (codes "cam") ≡ same
        → split 32 p ≡ k ∷ region ∷ index ∷ old ∷ new ∷ line ∷ [] → register_in old ≡ Some n
        → cond same (Some (record { region = region; index = index; old = n; new = new; line = line })) None ≡ Some cam → IsCam p cam
    by_keyword true k region index old new line n is e r h =
        let same : (record { region = region; index = index; old = n; new = new; line = line }) ≡ cam = cc in
        subst (IsCam p) same (record {
          old_word = old;
          words = e ∙ (λ i. (bytes_eq-Decides k (codes "cam")).0 is i ∷ region ∷ index ∷ old ∷ new ∷ line ∷ []);
          reads = r;
        })
    by_keyword false k region index old new line n is e r h = cc

    by_old : (o : Option ℕ) (k region index old new line : List ℕ) → register_in old ≡ o
        → split 32 p ≡ k ∷ region ∷ index ∷ old ∷ new ∷ line ∷ [] → cam_with k region index new line o ≡ Some cam → IsCam p cam
    by_old None k region index old new line r e h = cc
    by_old (Some n) k region index old new line r e h = by_keyword (bytes_eq k (codes "cam")) k region index old new line n refl e r h

    go : (ws : List (List ℕ)) → split 32 p ≡ ws → cam_in ws ≡ Some cam → IsCam p cam
    go [] e h = cc
    go (a ∷ []) e h = cc
    go (a ∷ b ∷ []) e h = cc
    go (a ∷ b ∷ c ∷ []) e h = cc
    go (a ∷ b ∷ c ∷ d ∷ []) e h = cc
    go (a ∷ b ∷ c ∷ d ∷ f ∷ []) e h = cc
    go (k ∷ region ∷ index ∷ old ∷ new ∷ line ∷ []) e h = by_old (register_in old) k region index old new line refl e h
    go (a ∷ b ∷ c ∷ d ∷ f ∷ g ∷ x ∷ xs) e h = cc

-- the words of the put in its place
abbrev put_words : CamLine → List (List ℕ)
put_words cam = codes "put" ∷ cam.region ∷ cam.index ∷ cam.new ∷ cam.line ∷ []

pub regrouped : (a b c d e : List ℕ) → (((a ++ b) ++ c) ++ d) ++ e ≡ a ++ (b ++ (c ++ (d ++ e)))
regrouped a b c d e = append_assoc ((a ++ b) ++ c) d e ∙ append_assoc (a ++ b) c (d ++ e) ∙ append_assoc a b (c ++ (d ++ e))

put_joined : (p : List ℕ) (cam : CamLine) → put_or p (Some cam) ≡ joined_at 32 (put_words cam)
put_joined p cam = regrouped (codes "put") (32 ∷ cam.region) (32 ∷ cam.index) (32 ∷ cam.new) (32 ∷ cam.line)

-- a line has no line feed, nor has the put in its place
put_free : (s : ℕ) (p : List ℕ) (cam : CamLine) → IsCam p cam → IsFree s (codes "put") → (32 == s) ≡ false → IsFree s p → IsFree s (put_or p (Some cam))
put_free s p cam is three space h =
    let words = subst (AllByRecursion (IsFree s)) is.words (free_words s 32 p h) in
    subst (IsFree s) (sym (put_joined p cam))
    (free_append s (codes "put") (32 ∷ (cam.region ++ 32 ∷ (cam.index ++ 32 ∷ (cam.new ++ 32 ∷ cam.line)))) three (
      space,
      free_append s cam.region (32 ∷ (cam.index ++ 32 ∷ (cam.new ++ 32 ∷ cam.line))) words.1.0 (
        space,
        free_append s cam.index (32 ∷ (cam.new ++ 32 ∷ cam.line)) words.1.1.0 (
          space,
          free_append s cam.new (32 ∷ cam.line) words.1.1.1.1.0 (space, words.1.1.1.1.1.0),
        ),
      ),
    ))

plain_free : (p : List ℕ) → IsFree 10 p → IsFree 10 (plain_line p)
plain_free p h = go (cam_line p) refl
  where
    go : (found : Option CamLine) → cam_line p ≡ found → IsFree 10 (put_or p found)
    go None e = h
    go (Some cam) e = put_free 10 p cam (cam_told p cam e) (refl, (refl, (refl, tt))) refl h

all_plain_free : (ps : List (List ℕ)) → AllByRecursion (IsFree 10) ps → AllByRecursion (IsFree 10) (map plain_line ps)
all_plain_free [] h = tt
all_plain_free (p ∷ ps) h = (plain_free p h.0, all_plain_free ps h.1)

some_map : (ps : List (List ℕ)) → IsSome ps → IsSome (map plain_line ps)
some_map [] h = h
some_map (p ∷ ps) h = tt

-- the lines of a text with puts
pub plain_pieces : (text : List ℕ) → split 10 (joined (map plain_line (split 10 text))) ≡ map plain_line (split 10 text)
plain_pieces text =
    ap (split 10) (joined_lines (map plain_line (split 10 text)))
    ∙ split-joined 10 (map plain_line (split 10 text)) (some_map (split 10 text) (some_piece 10 text)) (all_plain_free (split 10 text) (free_pieces 10 text))

-- an old register that is there
abbrev pub IsRegister : Option ℕ → Type 0
IsRegister None = Unit {0}
IsRegister (Some old) = old < 64

-- whether a keyword is that of a put
abbrev pub is_put : Keyword → Bool
is_put keyword.Put = true
is_put _ = false

-- the line of an exchange, by the operands of the put
abbrev pub cam_of : List Token → (old : ℕ) → List ℕ
cam_of (a ∷ b ∷ s ∷ n ∷ []) old =
    codes "cam" ++ flat_map operand_text (a ∷ b ∷ RegisterToken (register_with old (nat_lt old 64) refl) ∷ s ∷ n ∷ []) ++ 10 ∷ []
cam_of ts old = []

abbrev pub line_with : Line → Option ℕ → List ℕ
line_with l None = line_text l
line_with l (Some old) = cam_of l.operands old

-- a line says an old register only if it is of a put, and that is there
abbrev pub IsOldOf : Line → Option ℕ → Type 0
IsOldOf l None = Unit {0}
IsOldOf l (Some old) = (is_put l.keyword ≡ true) × (old < 64)

-- the word of a register
pub register_word : (word : List ℕ) (old : ℕ) → register_in word ≡ Some old → old < 64 → word ≡ 114 ∷ decimal old
register_word [] old h small = cc
register_word (b ∷ bs) old h small = go (b == 114 && is_numeral bs) refl h
  where
    go : (test : Bool) → (b == 114 && is_numeral bs) ≡ test → cond test (Some (value bs)) None ≡ Some old → b ∷ bs ≡ 114 ∷ decimal old
    go true e h =
        let tests = both_parts (b == 114) (is_numeral bs) e in
        let same : value bs ≡ old = cc in
        λ i. eqb-true b 114 tests.0 i ∷ (sym (decimal-value bs tests.1 (omega (arith, same, small))) ∙ ap decimal same) i
    go false e h = cc

register_index : (old : ℕ) (small : Bool) (e : nat_lt old 64 ≡ small) → small ≡ true → (register_with old small e).index ≡ old
register_index old true e h = refl
register_index old false e h = absurd (both_ways false refl h)

pub with_index : (old : ℕ) → old < 64 → (register_with old (nat_lt old 64) refl).index ≡ old
with_index old h = register_index old (nat_lt old 64) refl (lt-ltb old 64 h)

abbrev first_of : List (List ℕ) → List ℕ
first_of [] = []
first_of (p ∷ ps) = p

-- the text of an exchange, by its words and the tokens of the put
cam_written : (p : List ℕ) (cam : CamLine) (is : IsCam p cam) (ts : List Token) → cam.old < 64
    → cam.region ∷ cam.index ∷ cam.new ∷ cam.line ∷ [] ≡ map token_text ts → p ++ 10 ∷ [] ≡ cam_of ts cam.old
cam_written p cam is [] small e = absurd (omega (arith, ap length e))
cam_written p cam is (a ∷ []) small e = absurd (omega (arith, ap length e))
cam_written p cam is (a ∷ b ∷ []) small e = absurd (omega (arith, ap length e))
cam_written p cam is (a ∷ b ∷ s ∷ []) small e = absurd (omega (arith, ap length e))
cam_written p cam is (a ∷ b ∷ s ∷ n ∷ m ∷ more) small e = absurd (omega (arith, ap length e))
cam_written p cam is (a ∷ b ∷ s ∷ n ∷ []) small e =
    let one = ap first_of e in
    let two = ap (λ l. first_of (drop 1 l)) e in
    let three = ap (λ l. first_of (drop 2 l)) e in
    let four : cam.line ≡ token_text n = ap (λ l. first_of (drop 3 l)) e in
    let old = register_word is.old_word cam.old is.reads small ∙ (λ i. 114 ∷ decimal (sym (with_index cam.old small) i)) in
    let text = sym (joined-split 32 p) ∙ ap (joined_at 32) is.words in
    let last = four ∙ sym (append-nil (token_text n)) in
    let words : p ≡ codes "cam" ++ 32 ∷ (token_text a ++ 32 ∷ (token_text b ++ 32 ∷ ((114 ∷ decimal (register_with cam.old (nat_lt cam.old 64) refl).index)
    ++ 32 ∷ (token_text s ++ 32 ∷ (token_text n ++ []))))) =
    text ∙ (λ j. codes "cam" ++ 32 ∷ (one j ++ 32 ∷ (two j ++ 32 ∷ (old j ++ 32 ∷ (three j ++ 32 ∷ last j))))) in
    ap (λ (l : List ℕ). l ++ 10 ∷ []) words

-- a line is told by the put in its place
pub line_told : (p : List ℕ) (l : Line) → plain_line p ≡ bytes_of l → LineFits l → IsRegister (old_in p)
    → (p ++ 10 ∷ [] ≡ line_with l (old_in p)) × IsOldOf l (old_in p)
line_told p l e fits small = go (cam_line p) refl e small
  where
    old_of : Option CamLine → Option ℕ
    old_of found = option_map (λ (cam : CamLine). cam.old) found

    go : (found : Option CamLine) → cam_line p ≡ found → put_or p found ≡ bytes_of l → IsRegister (old_of found)
        → (p ++ 10 ∷ [] ≡ line_with l (old_of found)) × IsOldOf l (old_of found)
    go None h e small = (ap (λ (x : List ℕ). x ++ 10 ∷ []) e, tt)
    go (Some cam) h e small =
        let is = cam_told p cam h in
        let pieces = subst (AllByRecursion (IsFree 32)) is.words (free_pieces 32 p) in
        let words : put_words cam ≡ keyword_text l.keyword ∷ map token_text l.operands =
        sym (split-joined 32 (put_words cam) tt ((refl, (refl, (refl, tt))), (pieces.1.0, (pieces.1.1.0, (pieces.1.1.1.1.0, (pieces.1.1.1.1.1.0, tt))))))
        ∙ ap (split 32) (sym (put_joined p cam) ∙ e) ∙ split_words (keyword_text l.keyword) l.operands (spelling l.keyword).word fits in
        let put : keyword.Put ≡ l.keyword = keyword_text_injective keyword.Put l.keyword (ap first_of words) in
        (cam_written p cam is l.operands small (ap (drop 1) words), (ap is_put (sym put), small))
