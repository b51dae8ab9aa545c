-- The tokens of an example derive its tree, and pass no limit.
use Rattle.std.proofs.Common.{◌≡◌, ◌∙◌, ℕ, zero, suc, ◌+◌, ◌-◌, ◌≤◌, Bool, true, false, cond, ◌==◌, List, [], ◌∷◌, ◌++◌, length, refl, ap, subst, arith, append_assoc, append-nil}
use Rattle.std.specs.Prelude.{ℤ, pos, decimal, codes}
use Rattle.std.proofs.lemmas.Bool.{leb-true}
use Rattle.ppm_grammar.specs.Rows.{first, later, Part}
use Rattle.ppm_grammar.specs.Derivation.{Due, Within, Mark, mark, Derives, nothing, token, part}
use Rattle.ppm_grammar.specs.Limits.{Adds, Tally, with_counts, none_counted, Keeps}
use Rattle.ppm_text.specs.declared.token.Keyword.TheVariants as k
use Rattle.ppm_text.specs.declared.token.Sign.TheVariants as s
use Rattle.ppm_text.specs.declared.token.Kind.TheVariants as kind
use Rattle.ppm_text.specs.declared.token.Token.{Token}
use Rattle.ppm_text.specs.Lexing.{located}
use Rattle.ppm_tree.specs.Limits.{word_limit}
use Rattle.ppm_tree.specs.Tree.{ProgramTree}
use Rattle.ppm_rows.specs.Kinds.{Terminal}
use Rattle.ppm_rows.specs.Phrases.{Phrase}
use Rattle.ppm_rows.specs.Phrases as g
use Rattle.ppm_rows.specs.Values.{Value}
use Rattle.ppm_rows.specs.Values as v
use Rattle.ppm_rows.specs.Language.{Counted, AnArray, ArrayWords, language}
use Rattle.ppm_rows.specs.Limits.{limits, arrays, words}
use Rattle.ppm_rows.specs.Correct.{HasTree}
use Rattle.ppm_plan.specs.Sources.{value_at}
use Rattle.ppm_example.specs.Example.{values_drawn, a, procedures, example_tree}
use Rattle.ppm_example.proofs.LexingLemmas.{placed}
use Rattle.ppm_example.proofs.ReadingLemmas.{procedures_read, procedure_spots}
use Rattle.ppm_example.proofs.SourceLemmas.{value_tokens, input_spots, behind_size, first_place, more_place, end_place, later_tokens, example_tokens}
use Rattle.ppm_example.proofs.KeepsLemmas.{ArePlain, IsLess, passes_less, keeps_less, keeps_plain, keeps_sound}

-- a token that counts nothing, in so many openings
abbrev plain : ℕ → Mark Counted
plain d = mark d []

-- the marks of values, each after a comma
abbrev value_marks : ℕ → List (Mark Counted)
value_marks zero = []
value_marks (suc count) = plain 0 ∷ plain 0 ∷ value_marks count

-- values derive
values_derived : (p x i count : ℕ) (ts : List Token) {xs : List (Due Terminal Phrase)} {vs : List Value} {ms : List (Mark Counted)} {rest : List Token}
    → Derives language xs ts vs ms rest
    → Derives language (Within 0 (Part g.MoreIntegers) ∷ xs) (value_tokens p x i count ++ ts) (v.Integers (values_drawn x i count) ∷ vs)
    (value_marks count ++ ms) rest
values_derived p x i zero ts next = part first nothing next
values_derived p x i (suc count) ts {xs} {vs} {ms} {rest} next =
    let more = values_derived (p + 2 + length (decimal (value_at x i))) x (i + 1) count ts nothing in
    subst (λ (ns : List (Mark Counted)). Derives language (Within 0 (Part g.MoreIntegers) ∷ xs) (value_tokens p x i (suc count) ++ ts)
    (v.Integers (values_drawn x i (suc count)) ∷ vs) (plain 0 ∷ plain 0 ∷ (ns ++ ms)) rest)
    (append-nil (value_marks count)) (part (later first) (token refl (part first (token refl nothing) more)) next)

module _ (size x : ℕ) where
  -- the marks of both procedures, and of the input from the first value on
  abbrev end_marks : List (Mark Counted)
  end_marks = (procedures_read (end_place size x)).marks

  abbrev input_marks : List (Mark Counted)
  input_marks = plain 0 ∷ plain 0 ∷ plain 0 ∷ plain 0 ∷ (value_marks (size - 1) ++ plain 0 ∷ end_marks)

  abbrev all_marks : List (Mark Counted)
  all_marks = mark 0 (AnArray ∷ []) ∷ plain 0 ∷ plain 1 ∷ mark 1 (ArrayWords ∷ []) ∷ plain 1 ∷ plain 0 ∷ input_marks

  -- the values in front, and the tree with them
  abbrev values : List ℤ
  values = pos (value_at x 0) ∷ values_drawn x 1 (size - 1)

  abbrev tree_with : List ℤ → ProgramTree
  tree_with zs = record { arrays = record { name = a 1; words = size } ∷ []; procedures = procedures; inputs = record { name = a 2; values = zs } ∷ [] }

  abbrev input_tree : ProgramTree
  input_tree = record { arrays = []; procedures = procedures; inputs = record { name = a 2; values = values } ∷ [] }

  -- the tokens of the input and of what follows
  abbrev input_tokens : List Token
  input_tokens =
      located (kind.Keyword k.Input) (behind_size size x + 3) 2 ∷ located (kind.Name (codes "a")) (behind_size size x + 9) 2
      ∷ located (kind.Sign s.Assign) (behind_size size x + 11) 2 ∷ located (kind.Number (value_at x 0)) (first_place size x) 2
      ∷ (value_tokens (more_place size x) x 1 (size - 1) ++ placed (end_place size x) procedure_spots)

  input_derived : Derives language (Within 0 (Part g.Source) ∷ []) input_tokens (v.Program input_tree ∷ []) input_marks []
  input_derived =
      let found = value_marks (size - 1) in
      let same : ((found ++ plain 0 ∷ []) ++ end_marks) ++ [] ≡ found ++ plain 0 ∷ end_marks =
      append-nil ((found ++ plain 0 ∷ []) ++ end_marks) ∙ append_assoc found (plain 0 ∷ []) end_marks in
      subst (λ (ms : List (Mark Counted)). Derives language (Within 0 (Part g.Source) ∷ []) input_tokens (v.Program input_tree ∷ [])
      (plain 0 ∷ plain 0 ∷ plain 0 ∷ plain 0 ∷ ms) []) same
      (part (later first)
      (part (later (later first))
      (token refl (token refl (token refl (part first (token refl nothing)
      (values_derived (more_place size x) x 1 (size - 1) (placed (end_place size x) procedure_spots) (token refl nothing))))))
      (procedures_read (end_place size x)).derived) nothing)

  whole_derived : Derives language (Within 0 (Part g.Source) ∷ []) (example_tokens size x) (v.Program (tree_with values) ∷ []) all_marks []
  whole_derived =
      subst (λ (ms : List (Mark Counted)). Derives language (Within 0 (Part g.Source) ∷ []) (example_tokens size x) (v.Program (tree_with values) ∷ [])
      (mark 0 (AnArray ∷ []) ∷ plain 0 ∷ plain 1 ∷ mark 1 (ArrayWords ∷ []) ∷ plain 1 ∷ plain 0 ∷ ms) []) (append-nil input_marks)
      (part (later first)
      (part first
      (token refl (token refl (part first (token refl (part first (token refl nothing) (token refl nothing))) (token refl nothing)))) input_derived)
      nothing)

  -- what was counted after the length of the array, and no less
  abbrev counted : ℕ → Tally
  counted n = with_counts (Adds words n ∷ []) (with_counts (Adds arrays 1 ∷ []) none_counted)

  counted_less : size ≤ 4096 → IsLess (counted size) (counted word_limit)
  counted_less small w = go (w == words) (with_counts (Adds arrays 1 ∷ []) none_counted w)
    where
      go : (b : Bool) (n : ℕ) → cond b (n + size) n ≤ cond b (n + word_limit) n
      go true n = omega (arith, small)
      go false n = omega arith

  values_plain : (p i count : ℕ) → ArePlain (value_marks count) (value_tokens p x i count)
  values_plain p i zero = tt
  values_plain p i (suc count) =
      let z : 0 ≤ limits.depth = leb-true 0 limits.depth refl in
      (z, refl, (z, refl, values_plain (p + 2 + length (decimal (value_at x i))) (i + 1) count))

  -- no token passes a limit
  end_keeps : Keeps limits (plain 0 ∷ end_marks) (placed (end_place size x) procedure_spots) (counted word_limit)
  end_keeps = keeps_sound (plain 0 ∷ end_marks) (placed (end_place size x) procedure_spots) (counted word_limit) refl

  later_keeps : Keeps limits (plain 1 ∷ plain 0 ∷ input_marks) (later_tokens size x) (counted word_limit)
  later_keeps =
      let z : 0 ≤ limits.depth = leb-true 0 limits.depth refl in
      let one : 1 ≤ limits.depth = leb-true 1 limits.depth refl in
      keeps_plain (plain 1 ∷ plain 0 ∷ plain 0 ∷ plain 0 ∷ plain 0 ∷ plain 0 ∷ []) (value_marks (size - 1) ++ plain 0 ∷ end_marks)
      (placed (behind_size size x) input_spots ++ located (kind.Number (value_at x 0)) (first_place size x) 2 ∷ [])
      (value_tokens (more_place size x) x 1 (size - 1) ++ placed (end_place size x) procedure_spots) (counted word_limit)
      (one, refl, (z, refl, (z, refl, (z, refl, (z, refl, (z, refl, tt)))))) refl
      (keeps_plain (value_marks (size - 1)) (plain 0 ∷ end_marks) (value_tokens (more_place size x) x 1 (size - 1))
      (placed (end_place size x) procedure_spots) (counted word_limit) (values_plain (more_place size x) 1 (size - 1)) refl end_keeps)

  whole_keeps : size ≤ 4096 → Keeps limits all_marks (example_tokens size x) none_counted
  whole_keeps small =
      let z : 0 ≤ limits.depth = leb-true 0 limits.depth refl in
      let one : 1 ≤ limits.depth = leb-true 1 limits.depth refl in
      let less = counted_less small in (
        z,
        refl,
        (
          z,
          refl,
          (
            one,
            refl,
            (
              one,
              passes_less limits.most (counted size) (counted word_limit) less refl,
              keeps_less (plain 1 ∷ plain 0 ∷ input_marks) (later_tokens size x) (counted size) (counted word_limit) less later_keeps,
            ),
          ),
        ),
      )

  -- the values in front are all of them
  values_same : 1 ≤ size → values ≡ values_drawn x 0 size
  values_same some = go size some
    where
      go : (n : ℕ) → 1 ≤ n → pos (value_at x 0) ∷ values_drawn x 1 (n - 1) ≡ values_drawn x 0 n
      go zero h = absurd (omega (arith, h))
      go (suc n) h = let less : suc n - 1 ≡ n = omega arith in ap (λ m. pos (value_at x 0) ∷ values_drawn x 1 m) less

  -- the tokens have the example's tree
  pub has_tree : 1 ≤ size → size ≤ 4096 → HasTree (example_tokens size x) (example_tree size x)
  has_tree some small = record {
    marks = all_marks;
    text = subst (λ (zs : List ℤ). Derives language (Within 0 (Part g.Source) ∷ []) (example_tokens size x) (v.Program (tree_with zs) ∷ []) all_marks [])
        (values_same some) whole_derived;
    keeps = whole_keeps small;
  }
