-- Programs that are derived within the limits are within the limits of trees.
use Rattle.std.proofs.Common.{◌≡◌, ℕ, zero, suc, ◌+◌, ◌≤◌, ◌<◌, Bool, true, false, List, [], ◌∷◌, length, map, refl, ◌∙◌, ap, subst, arith}
use Rattle.std.specs.Prelude.{◌||◌, not, pos, neg_ℤ, Option}
use Rattle.std.specs.List.{All, sum}
use Rattle.std.proofs.lemmas.List.{append-nil}
use Rattle.std.proofs.lemmas.List.Elements.{All-nil, All-cons, recursion_from_All}
use Rattle.std.proofs.lemmas.List.Sums.{sum_by-cons}
use Rattle.ppm_words.specs.Limits.{value_bound}
use Rattle.ppm_grammar.specs.Rows.{In, Part, first, later}
use Rattle.ppm_grammar.specs.Derivation.{due, inside, beginning}
use Rattle.ppm_grammar.specs.Limits.{Tally, none_counted}
use Rattle.ppm_grammar.specs.Predictive.{every, is_empty}
use Rattle.ppm_grammar.proofs.ListLemmas.{every_in, implied, listed_in}
use Rattle.ppm_grammar.proofs.WalkLemmas.{Walk, done, took, parted, counts_first, height, tall, Begins, Walked, walked}
use Rattle.ppm_text.specs.declared.token.Token.{Token}
use Rattle.ppm_text.specs.Limits.{text_limit}
use Rattle.ppm_text.specs.Tokens.{StandsIn}
use Rattle.ppm_tree.specs.declared.tree.Parameter.{Parameter}
use Rattle.ppm_tree.specs.declared.tree.Array.{Array}
use Rattle.ppm_tree.specs.declared.tree.ArrayInput.{ArrayInput}
use Rattle.ppm_tree.specs.Tree.{Block, Give, Procedure, ProgramTree}
use Rattle.ppm_tree.specs.Parts.{statements_in, eaches_of, gives_of, block_depth}
use Rattle.ppm_tree.specs.Limits.{depth_limit, parameter_limit, IsInputValue, IsSmallStatement, IsSmallGive, IsParameter, IsSmall, IsArray, IsArrayInput}
use Rattle.ppm_tree.specs.Limits.{procedures_in, IsWithin}
use Rattle.ppm_rows.specs.Values.{Value, Lexed, Program, number_in, number_of, declaring, declaration_in, program_in, parameters_in, parameter_in, integers_in, integer_in}
use Rattle.ppm_rows.specs.Values.{body_in, body_give_in, give_in}
use Rattle.ppm_rows.specs.Kinds.{Name, terminal}
use Rattle.ppm_rows.specs.Phrases.{Phrase, phrases}
use Rattle.ppm_rows.specs.Phrases as p
use Rattle.ppm_rows.specs.Making as make
use Rattle.ppm_rows.specs.declared.level.Level.TheVariants as level
use Rattle.ppm_rows.specs.Follow.{may_follow}
use Rattle.ppm_rows.specs.Language.{Form, language, rows, sign}
use Rattle.ppm_text.specs.declared.token.Sign.TheVariants as s
use Rattle.ppm_rows.specs.Limits.{limits}
use Rattle.ppm_rows.specs.Correct.{HasTree}
use Rattle.ppm_rows.proofs.OneAnswer.{is_predictive_language}
use Rattle.ppm_rows.proofs.TokensWithin.{Free, free_keeps, line_of, name_fine, number_fine}
use Rattle.ppm_rows.proofs.ExpressionsWithin.{expr_walk}
use Rattle.ppm_rows.proofs.StatementsWithin.{element_first}
use Rattle.ppm_rows.proofs.BlocksWithin.{statements_walk}

-- the numbers that limit a whole program are as they were
pub record Keeps3 (c c' : Tally) : Type 0 where
  pub arrays : c' 1 ≡ c 1
  pub words : c' 2 ≡ c 2
  pub procedures : c' 3 ≡ c 3

-- a length, whose words are counted
pub record IsLength (c c' : Tally) (v : Value) : Type 0 where
  pub arrays : c' 1 ≡ c 1
  pub words : c' 2 ≡ c 2 + number_in v
  pub procedures : c' 3 ≡ c 3

-- parameters
pub record IsParameters (c c' : Tally) (xs : List Parameter) : Type 0 where
  pub same : Keeps3 c c'
  pub elements : c' 4 ≡ c 4 + length xs
  pub fine : All IsParameter xs
  pub free : Free c → Free c'

-- a list of parameters
pub record IsParameterList (c c' : Tally) (xs : List Parameter) : Type 0 where
  pub same : Keeps3 c c'
  pub small : length xs ≤ parameter_limit
  pub fine : All IsParameter xs

-- what a body gives
pub record IsGiven (c c' : Tally) (g : Option Give) : Type 0 where
  pub same : Keeps3 c c'
  pub small : All IsSmallGive (gives_of g)

-- a body
pub record IsBody (c c' : Tally) (b : Block) (g : Option Give) : Type 0 where
  pub arrays : c' 1 ≡ c 1
  pub words : c' 2 ≡ c 2
  pub procedures : c' 3 ≡ c 3 + sum (map eaches_of (statements_in b))
  pub deep : block_depth b ≤ depth_limit
  pub small : All IsSmallStatement (statements_in b)
  pub give : All IsSmallGive (gives_of g)
  pub free : Free c'

-- what is declared
pub record IsDeclared (c c' : Tally) (t : ProgramTree) : Type 0 where
  pub array_count : c' 1 ≡ c 1 + length t.arrays
  pub words : c' 2 ≡ c 2 + sum (map (λ a. a.words) t.arrays)
  pub procedure_count : c' 3 ≡ c 3 + sum (map procedures_in t.procedures)
  pub arrays : All IsArray t.arrays
  pub procedures : All IsSmall t.procedures
  pub inputs : All IsArrayInput t.inputs
  pub free : Free c → Free c'

-- a literal with a minus is a value of an input
negative : (n : ℕ) → n < value_bound → IsInputValue (neg_ℤ (pos n))
negative zero h = h
negative (suc n) h = omega (arith, h)

module _ {size : ℕ} (short : size ≤ text_limit) where
  -- where no items are left nothing is counted
  ended : {c c' : Tally} {ts mid : List Token} {us : List Value} → Walk language limits (StandsIn size) may_follow [] c ts us c' mid → c' ≡ c
  ended done = refl

  -- a length
  words_walk : (d : ℕ) {row : Form} {c c' : Tally} {ts mid : List Token} {us : List Value} → In row (rows p.Words) →
      (w : Walk language limits (StandsIn size) may_follow (due (inside row d) row.items) (counts_first language limits row.counts ts c) ts us c' mid) →
      IsLength c c' (row.make us)
  words_walk d first (took is s deep free w) =
      let same = ended w in record { arrays = ap (λ q. q 1) same; words = ap (λ q. q 2) same; procedures = ap (λ q. q 3) same }
  words_walk d (later i) w = elim i [ ]

  length_walk : (d : ℕ) {row : Form} {c c' : Tally} {ts mid : List Token} {us : List Value} → In row (rows p.Length) →
      (w : Walk language limits (StandsIn size) may_follow (due (inside row d) row.items) (counts_first language limits row.counts ts c) ts us c' mid) →
      IsLength c c' (row.make us)
  length_walk d first (took is s deep free (parted i b ok w (took is' s' deep' free' done))) = words_walk _ i w
  length_walk d (later i) w = elim i [ ]

  -- how a parameter is taken
  mode_walk : (d : ℕ) {row : Form} {c c' : Tally} {ts mid : List Token} {us : List Value} → In row (rows p.Mode) →
      (w : Walk language limits (StandsIn size) may_follow (due (inside row d) row.items) (counts_first language limits row.counts ts c) ts us c' mid) → c' ≡ c
  mode_walk d first (took is s deep free done) = refl
  mode_walk d (later first) (took is s deep free done) = refl
  mode_walk d (later (later first)) (took is s deep free done) = refl
  mode_walk d (later (later (later i))) w = elim i [ ]

  -- a parameter
  parameter_walk : (d : ℕ) {row : Form} {c c' : Tally} {ts mid : List Token} {us : List Value} → In row (rows p.Parameter) → Begins language limits row.items ts →
      (w : Walk language limits (StandsIn size) may_follow (due (inside row d) row.items) (counts_first language limits row.counts ts c) ts us c' mid) →
      (Keeps3 c c') × (c' 4 ≡ c 4 + 1) × IsParameter (parameter_in (row.make us)) × Free c'
  parameter_walk d {c = c} first b (parted i b' ok w (took is s deep free done)) =
      let same = mode_walk _ i w ∙ element_first c b in (
        record { arrays = ap (λ q. q 1) same; words = ap (λ q. q 2) same; procedures = ap (λ q. q 3) same },
        ap (λ q. q 4) same,
        record { name = name_fine short is s },
        free,
      )
  parameter_walk d (later i) b w = elim i [ ]

  -- one more in front
  parameters_more : {a b c : Tally} (x : Parameter) (xs : List Parameter) → Keeps3 a b → b 4 ≡ a 4 + 1 → IsParameter x → Free b → IsParameters b c xs →
      IsParameters a c (x ∷ xs)
  parameters_more x xs same one fine free r = record {
    same = record {
      arrays = r.same.arrays ∙ same.arrays;
      words = r.same.words ∙ same.words;
      procedures = r.same.procedures ∙ same.procedures;
    };
    elements = omega (arith, one, r.elements);
    fine = All-cons IsParameter x xs fine r.fine;
    free = λ f. r.free free;
  }

  parameters_none : {c : Tally} → IsParameters c c []
  parameters_none = record {
    same = record { arrays = refl; words = refl; procedures = refl };
    elements = omega arith;
    fine = All-nil IsParameter;
    free = λ f. f;
  }

  parameters_walk : (n : ℕ) (d : ℕ) {row : Form} {c c' : Tally} {ts mid : List Token} {us : List Value} → In row (rows p.MoreParameters) →
      (w : Walk language limits (StandsIn size) may_follow (due (inside row d) row.items) (counts_first language limits row.counts ts c) ts us c' mid) →
      height language limits w ≤ n → IsParameters c c' (parameters_in (row.make us))
  parameters_walk zero d i w small = absurd (omega (arith, tall language limits w, small))
  parameters_walk (suc n) d first done small = parameters_none
  parameters_walk (suc n) d (later first) (took is s deep free (parted i b ok w (parted j b' ok' w' done))) small =
      let x = parameter_walk _ i b w in parameters_more _ _ x.0 x.1 x.2 x.3 (parameters_walk n _ j w' (omega (arith, small)))
  parameters_walk (suc n) d (later (later i)) w small = elim i [ ]

  some_parameters_walk : (d : ℕ) {row : Form} {c c' : Tally} {ts mid : List Token} {us : List Value} → In row (rows p.SomeParameters) →
      (w : Walk language limits (StandsIn size) may_follow (due (inside row d) row.items) (counts_first language limits row.counts ts c) ts us c' mid) →
      IsParameters c c' (parameters_in (row.make us))
  some_parameters_walk d first done = parameters_none
  some_parameters_walk d (later first) (parted i b ok w (parted j b' ok' w' done)) =
      let x = parameter_walk _ i b w in parameters_more _ _ x.0 x.1 x.2 x.3 (parameters_walk (height language limits w') _ j w' (omega arith))
  some_parameters_walk d (later (later i)) w = elim i [ ]

  -- a list of parameters
  list_walk : (d : ℕ) {row : Form} {c c' : Tally} {ts mid : List Token} {us : List Value} → In row (rows p.ParameterList) →
      (w : Walk language limits (StandsIn size) may_follow (due (inside row d) row.items) (counts_first language limits row.counts ts c) ts us c' mid) →
      IsParameterList c c' (parameters_in (row.make us))
  list_walk d {c' = c'} first (took is s deep free (parted i b ok w (took is' s' deep' free' done))) =
      let r = some_parameters_walk _ i w in
      let k = free_keeps c' free' in
      record {
        same = record { arrays = r.same.arrays; words = r.same.words; procedures = r.same.procedures };
        small = omega (arith, r.elements, k.elements);
        fine = r.fine;
      }
  list_walk d (later i) w = elim i [ ]

  -- what a body gives
  give_walk : (d : ℕ) {row : Form} {c c' : Tally} {ts mid : List Token} {us : List Value} → In row (rows p.Give) →
      (w : Walk language limits (StandsIn size) may_follow (due (inside row d) row.items) (counts_first language limits row.counts ts c) ts us c' mid) →
      IsGiven c c' (give_in (row.make us))
  give_walk d first done = record { same = record { arrays = refl; words = refl; procedures = refl }; small = All-nil IsSmallGive }
  give_walk d {c' = c'} (later first) (took is s deep free (parted i b ok w (took is' s' deep' free' done))) =
      let e = expr_walk short (height language limits w) level.Either _ i w (omega arith) in
      let k = free_keeps c' free' in
      record {
        same = record { arrays = e.grows.arrays; words = e.grows.words; procedures = e.grows.procedures };
        small = All-cons IsSmallGive _ []
            (record { line = line_of short s; count = omega (arith, e.grows.nodes, k.nodes); nodes = e.fine }) (All-nil IsSmallGive);
      }
  give_walk d (later (later i)) w = elim i [ ]

  -- a body
  body_walk : (d : ℕ) {row : Form} {c c' : Tally} {ts mid : List Token} {us : List Value} → In row (rows p.Body) →
      (w : Walk language limits (StandsIn size) may_follow (due (inside row d) row.items) (counts_first language limits row.counts ts c) ts us c' mid) →
      IsBody c c' (body_in (row.make us)) (body_give_in (row.make us))
  body_walk d first (took is s deep free (parted i b ok w (parted j b' ok' w' (took is' s' deep' free' done)))) =
      let r = statements_walk short (height language limits w) (suc d) deep i w (omega arith) in
      let g = give_walk _ j w' in
      record {
        arrays = g.same.arrays ∙ r.arrays;
        words = g.same.words ∙ r.words;
        procedures = g.same.procedures ∙ r.procedures;
        deep = omega (arith, r.deep);
        small = r.small;
        give = g.small;
        free = free';
      }
  body_walk d (later i) w = elim i [ ]

  -- a value of an input
  integer_walk : (d : ℕ) {row : Form} {c c' : Tally} {ts mid : List Token} {us : List Value} → In row (rows p.Integer) →
      (w : Walk language limits (StandsIn size) may_follow (due (inside row d) row.items) (counts_first language limits row.counts ts c) ts us c' mid) →
      (c' ≡ c) × IsInputValue (integer_in (row.make us))
  integer_walk d first (took is s deep free done) = (refl, number_fine is s)
  integer_walk d (later first) (took is s deep free (took {t = t} is' s' deep' free' done)) =
      (refl, negative (number_of t.kind) (number_fine is' s'))
  integer_walk d (later (later i)) w = elim i [ ]

  integers_walk : (n : ℕ) (d : ℕ) {row : Form} {c c' : Tally} {ts mid : List Token} {us : List Value} → In row (rows p.MoreIntegers) →
      (w : Walk language limits (StandsIn size) may_follow (due (inside row d) row.items) (counts_first language limits row.counts ts c) ts us c' mid) →
      height language limits w ≤ n → (c' ≡ c) × All IsInputValue (integers_in (row.make us))
  integers_walk zero d i w small = absurd (omega (arith, tall language limits w, small))
  integers_walk (suc n) d first done small = (refl, All-nil IsInputValue)
  integers_walk (suc n) d (later first) (took is s deep free (parted i b ok w (parted j b' ok' w' done))) small =
      let x = integer_walk _ i w in
      let r = integers_walk n _ j w' (omega (arith, small)) in
      (r.0 ∙ x.0, All-cons IsInputValue _ _ x.1 r.1)
  integers_walk (suc n) d (later (later i)) w small = elim i [ ]

  -- an array in front of what is declared
  with_array : {a b c : Tally} (x : Array) (t : ProgramTree) → b 1 ≡ a 1 + 1 → b 2 ≡ a 2 + x.words → b 3 ≡ a 3 → IsArray x → Free b → IsDeclared b c t →
      IsDeclared a c (record { arrays = x ∷ t.arrays; procedures = t.procedures; inputs = t.inputs })
  with_array x t one words procedures fine free r = record {
    array_count = omega (arith, one, r.array_count);
    words = let all = sum_by-cons (λ n. n) x.words (map (λ a. a.words) t.arrays) in omega (arith, words, r.words, all);
    procedure_count = omega (arith, procedures, r.procedure_count);
    arrays = All-cons IsArray x t.arrays fine r.arrays;
    procedures = r.procedures;
    inputs = r.inputs;
    free = λ f. r.free free;
  }

  with_procedure : {a b c : Tally} (x : Procedure) (t : ProgramTree) → b 1 ≡ a 1 → b 2 ≡ a 2 → b 3 ≡ a 3 + procedures_in x → IsSmall x → Free b →
      IsDeclared b c t → IsDeclared a c (record { arrays = t.arrays; procedures = x ∷ t.procedures; inputs = t.inputs })
  with_procedure x t arrays words one fine free r = record {
    array_count = omega (arith, arrays, r.array_count);
    words = omega (arith, words, r.words);
    procedure_count = let all = sum_by-cons (λ n. n) (procedures_in x) (map procedures_in t.procedures) in omega (arith, one, r.procedure_count, all);
    arrays = r.arrays;
    procedures = All-cons IsSmall x t.procedures fine r.procedures;
    inputs = r.inputs;
    free = λ f. r.free free;
  }

  with_input : {a b c : Tally} (x : ArrayInput) (t : ProgramTree) → b ≡ a → IsArrayInput x → Free b → IsDeclared b c t →
      IsDeclared a c (record { arrays = t.arrays; procedures = t.procedures; inputs = x ∷ t.inputs })
  with_input x t same fine free r = record {
    array_count = let is = ap (λ q. q 1) same in omega (arith, is, r.array_count);
    words = let is = ap (λ q. q 2) same in omega (arith, is, r.words);
    procedure_count = let is = ap (λ q. q 3) same in omega (arith, is, r.procedure_count);
    arrays = r.arrays;
    procedures = r.procedures;
    inputs = All-cons IsArrayInput x t.inputs fine r.inputs;
    free = λ f. r.free free;
  }

  -- an input, after its name
  input_rest : (d : ℕ) (k x : Token) {c c' e : Tally} {ts mid : List Token} {us : List Value} → terminal x.kind ≡ Name → StandsIn size x →
      (w : Walk language limits (StandsIn size) may_follow (due d (sign s.Assign ∷ Part p.Integer ∷ Part p.MoreIntegers ∷ sign s.Semicolon ∷ [])) c ts us c' mid) →
      (t : ProgramTree) → IsDeclared c' e t → IsDeclared c e (declaring (declaration_in (make.input (Lexed k ∷ Lexed x ∷ us))) t)
  input_rest d k x is s (took is₁ s₁ deep₁ free₁ (parted i b ok w (parted j b' ok' w' (took is₂ s₂ deep₂ free₂ done)))) t r =
      let x = integer_walk _ i w in
      let y = integers_walk (height language limits w') _ j w' (omega arith) in
      with_input _ t (y.0 ∙ x.0) (record { name = name_fine short is s; count = omega arith; values = All-cons IsInputValue _ _ x.1 y.1 }) free₂ r

  -- a declaration in front of what is declared
  declaration_walk : (d : ℕ) {row : Form} {c c' e : Tally} {ts mid : List Token} {us : List Value} → In row (rows p.Declaration) →
      (w : Walk language limits (StandsIn size) may_follow (due (inside row d) row.items) (counts_first language limits row.counts ts c) ts us c' mid) → (t : ProgramTree) → IsDeclared c' e t →
      IsDeclared c e (declaring (declaration_in (row.make us)) t)
  declaration_walk d first (took is s deep free (took is' s' deep' free' (parted i b ok w (took is₂ s₂ deep₂ free₂ done)))) t r =
      let n = length_walk _ i w in with_array _ t n.arrays n.words n.procedures (record { name = name_fine short is' s' }) free₂ r
  declaration_walk d (later first) (took is s deep free (took is' s' deep' free' (parted i b ok w (parted j b' ok' w' done)))) t r =
      let x = list_walk _ i w in
      let y = body_walk _ j w' in
      with_procedure _ t (y.arrays ∙ x.same.arrays) (y.words ∙ x.same.words) (omega (arith, y.procedures, x.same.procedures))
      (record {
        name = name_fine short is' s';
        count = x.small;
        parameters = x.fine;
        depth = y.deep;
        statements = y.small;
        give = y.give;
      }) y.free r
  declaration_walk d (later (later first)) (took {t = k} is s deep free (took {t = x} is' s' deep' free' w)) t r = input_rest _ k x is' s' w t r
  declaration_walk d (later (later (later i))) w t r = elim i [ ]

  -- the whole program
  source_walk : (n : ℕ) (d : ℕ) {row : Form} {c c' : Tally} {ts mid : List Token} {us : List Value} → In row (rows p.Source) →
      (w : Walk language limits (StandsIn size) may_follow (due (inside row d) row.items) (counts_first language limits row.counts ts c) ts us c' mid) →
      height language limits w ≤ n → IsDeclared c c' (program_in (row.make us))
  source_walk zero d i w small = absurd (omega (arith, tall language limits w, small))
  source_walk (suc n) d first done small = record {
    array_count = omega arith;
    words = omega arith;
    procedure_count = omega arith;
    arrays = All-nil IsArray;
    procedures = All-nil IsSmall;
    inputs = All-nil IsArrayInput;
    free = λ f. f;
  }
  source_walk (suc n) d (later first) (parted i b ok w (parted j b' ok' w' done)) small =
      declaration_walk _ i w _ (source_walk n _ j w' (omega (arith, small)))
  source_walk (suc n) d (later (later i)) w small = elim i [ ]

-- a form without items counts nothing
abbrev is_silent : Form → Bool
is_silent row = not (is_empty row) || elim row.counts [ [] ↦ true | x ∷ xs ↦ false ]

all_silent : every (λ n. every is_silent (rows n)) phrases.all ≡ true
all_silent = refl

silent : (n : Phrase) (row : Form) → In row (rows n) → row.items ≡ [] → row.counts ≡ []
silent n row i none =
    let passes = every_in is_silent (every_in (λ n. every is_silent (rows n)) all_silent (listed_in phrases n)) i in
    nothing row.counts (implied (is_empty row) _ passes (rw none refl))
  where
    nothing : {A : Type 0} (xs : List A) → elim xs [ [] ↦ true | y ∷ ys ↦ false ] ≡ true → xs ≡ []
    nothing [] h = refl
    nothing (x ∷ xs) h = cc

-- a tree of tokens that stand in a text is within the limits
pub within_limits : (size : ℕ) (ts : List Token) (t : ProgramTree) → size ≤ text_limit → All (StandsIn size) ts → HasTree ts t → IsWithin t
within_limits size ts t short stand h =
    go (walked language limits (StandsIn size) may_follow is_predictive_language silent (λ x. false) h.text (λ k q. cc, tt) tt [] none_counted (rw (append-nil h.marks) h.keeps)
    (recursion_from_All (StandsIn size) ts stand))
  where
    head_is : {v w : Value} {vs ws : List Value} → v ∷ vs ≡ w ∷ ws → v ≡ w
    head_is h = cc

    top : {vs : List Value} {c : Tally} → Walk language limits (StandsIn size) may_follow (beginning language) none_counted ts vs c [] → vs ≡ Program t ∷ [] → IsWithin t
    top {c = c} (parted {row = row} {us = us} i b ok w done) same =
        let d = source_walk short (height language limits w) 0 i w (omega arith) in
        let is : program_in (row.make us) ≡ t = ap (λ q. program_in q) (head_is same) in
        let k = free_keeps c (d.free refl) in
        subst IsWithin is (record {
          array_count = omega (arith, d.array_count, k.arrays);
          words = omega (arith, d.words, k.words);
          procedure_count = omega (arith, d.procedure_count, k.procedures);
          arrays = d.arrays;
          procedures = d.procedures;
          inputs = d.inputs;
        })

    go : Walked language limits (StandsIn size) may_follow is_predictive_language silent (beginning language) none_counted ts (Program t ∷ []) [] [] → IsWithin t
    go r = top r.walk refl
