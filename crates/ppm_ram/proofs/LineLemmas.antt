-- A line says an instruction exactly where it is what is written of it.
use Rattle.std.proofs.Common.{◌≡◌, ◌∙◌, ◌⊎◌, inl, inr, ℕ, ◌-◌, ◌^◌, ◌<◌, ◌==◌, Bool, true, false, not, cond, nat_lt, ℤ, List, [], ◌∷◌, ◌++◌, codes, decimal, bytes_eq, Option, Some, None, refl, sym, ap, ap₂, subst, arith}
use Rattle.std.specs.Fmt.{signed_decimal}
use Rattle.std.specs.List.{list_all}
use Rattle.std.specs.Cmp.Derive.{both_true}
use Rattle.std.proofs.lemmas.Bool.{both_ways, ltb-true}
use Rattle.std.proofs.lemmas.Slice.Eq.{bytes_eq-Decides}
use Rattle.ppm_pieces.specs.Pieces.{halves_of}
use Rattle.ppm_ram.specs.declared.register.Register.{Register}
use Rattle.ppm_ram.specs.declared.instruction.Operation.{Operation}
use Rattle.ppm_ram.specs.declared.instruction.Operation.TheVariants as operation
use Rattle.ppm_ram.specs.declared.instruction.Instruction.{Instruction}
use Rattle.ppm_ram.specs.declared.instruction.Instruction.TheVariants.{Set, Compute, Load, Store, JumpIfZero, Jump, Halt}
use Rattle.ppm_ram.specs.declared.keyword.Keyword.{Keyword}
use Rattle.ppm_ram.specs.declared.keyword.Keyword.TheVariants as keyword
use Rattle.ppm_ram.specs.Program.{has_value, has_target}
use Rattle.ppm_ram.specs.Text.{joined, operation_word, register_word, instruction_words}
use Rattle.ppm_ram.specs.Numbers.{pair_of, made_of, register_in, target_in, value_in}
use Rattle.ppm_ram.specs.Lines.{keyword_of, two_in, third_in, three_in, operands_in, instruction_by, instruction_of, instruction_in}
use Rattle.ppm_ram.proofs.PieceLemmas.{AreOf, halves_at, halves_back}
use Rattle.ppm_ram.proofs.NumberLemmas.{Says, same_said, pair_said, made_said, register_spelled, register_read, target_spelled, target_read}
use Rattle.ppm_ram.proofs.NumberLemmas.{value_spelled, value_read, is_word_byte, decimal_bytes, value_bytes, register_bytes}

-- the word of a keyword
abbrev word_of : Keyword → List ℕ
word_of keyword.Set = codes "set"
word_of (keyword.Computes o) = operation_word o
word_of keyword.Load = codes "load"
word_of keyword.Store = codes "store"
word_of keyword.JumpIfZero = codes "jz"
word_of keyword.Jump = codes "jump"

abbrev some_keyword : Keyword → Option Keyword → Keyword
some_keyword k None = k
some_keyword k (Some j) = j

-- one word tried, or the others
tried : (w t : List ℕ) (j k : Keyword) (rest : Option Keyword) → word_of j ≡ t → cond (bytes_eq w t) (Some j) rest ≡ Some k
    → (rest ≡ Some k → w ≡ word_of k) → w ≡ word_of k
tried w t j k rest is e others = by (bytes_eq w t) refl e
  where
    by : (b : Bool) → bytes_eq w t ≡ b → cond b (Some j) rest ≡ Some k → w ≡ word_of k
    by true s h = (bytes_eq-Decides w t).0 s ∙ sym is ∙ ap word_of (ap (λ o. some_keyword j o) h)
    by false s h = others h

-- a keyword is its word
keyword_spelled : (w : List ℕ) (k : Keyword) → keyword_of w ≡ Some k → w ≡ word_of k
keyword_spelled w k e =
    tried w (codes "set") keyword.Set k _ refl e (λ e. tried w (codes "add") (keyword.Computes operation.Add) k _ refl e
    (λ e. tried w (codes "sub") (keyword.Computes operation.Sub) k _ refl e (λ e. tried w (codes "mul") (keyword.Computes operation.Mul) k _ refl e
    (λ e. tried w (codes "div") (keyword.Computes operation.Div) k _ refl e (λ e. tried w (codes "rem") (keyword.Computes operation.Rem) k _ refl e
    (λ e. tried w (codes "lt") (keyword.Computes operation.Less) k _ refl e (λ e. tried w (codes "load") keyword.Load k _ refl e
    (λ e. tried w (codes "store") keyword.Store k _ refl e (λ e. tried w (codes "jz") keyword.JumpIfZero k _ refl e
    (λ e. tried w (codes "jump") keyword.Jump k _ refl e (λ e. absurd (cc))))))))))))

-- two words
two_spelled : {A B : Type 0} (f : List ℕ → Option (Option A)) (g : List ℕ → Option (Option B)) (rest : List ℕ) (p : A × B)
    → Says (two_in f g (halves_of 32 rest)) p → (x : List ℕ) × (y : List ℕ) × (rest ≡ x ++ 32 ∷ y) × Says (f x) p.0 × Says (g y) p.1
two_spelled {A} {B} f g rest p e = by (halves_of 32 rest) refl e
  where
    by : (o : Option (List ℕ × List ℕ)) → halves_of 32 rest ≡ o → Says (two_in f g o) p
        → (x : List ℕ) × (y : List ℕ) × (rest ≡ x ++ 32 ∷ y) × Says (f x) p.0 × Says (g y) p.1
    by None h s = absurd (cc)
    by (Some (x, y)) h s = let k = pair_said (f x) (g y) p s in (x, y, halves_back 32 rest x y h, k.0, k.1)

-- three registers
three_spelled : (rest : List ℕ) (p : (Register × Register) × Register) → Says (three_in (halves_of 32 rest)) p
    → rest ≡ register_word p.0.0 ++ 32 ∷ (register_word p.0.1 ++ 32 ∷ register_word p.1)
three_spelled rest p e = by (halves_of 32 rest) refl e
  where
    more : (x y : List ℕ) (o : Option (List ℕ × List ℕ)) → rest ≡ x ++ 32 ∷ y → halves_of 32 y ≡ o → Says (third_in (register_in x) o) p
        → rest ≡ register_word p.0.0 ++ 32 ∷ (register_word p.0.1 ++ 32 ∷ register_word p.1)
    more x y None is h s = absurd (cc)
    more x y (Some (z, w)) is h s =
        let k = pair_said (pair_of (register_in x) (register_in z)) (register_in w) p s in
        let j = pair_said (register_in x) (register_in z) p.0 k.0 in
        is ∙ ap₂ (λ (a b : List ℕ). a ++ 32 ∷ b) (register_spelled x p.0.0 j.0)
        (halves_back 32 y z w h ∙ ap₂ (λ (a b : List ℕ). a ++ 32 ∷ b) (register_spelled z p.0.1 j.1) (register_spelled w p.1 k.1))

    by : (o : Option (List ℕ × List ℕ)) → halves_of 32 rest ≡ o → Says (three_in o) p
        → rest ≡ register_word p.0.0 ++ 32 ∷ (register_word p.0.1 ++ 32 ∷ register_word p.1)
    by None h s = absurd (cc)
    by (Some (x, y)) h s = more x y (halves_of 32 y) (halves_back 32 rest x y h) refl s

-- the words of an instruction after its keyword: with a keyword in front they are its line
abbrev IsLineOf : Keyword → List ℕ → Instruction → Type 0
IsLineOf k rest i = (word_of k ++ 32 ∷ rest ≡ joined (instruction_words i)) × (has_value i ≡ true)

-- what an instruction jumps to is no number past every count
abbrev pub IsNear : Instruction → Type 0
IsNear i = has_target (2 ^ 32 - 1) i ≡ true

operands_spelled : (k : Keyword) (rest : List ℕ) (i : Instruction) → Says (operands_in k rest) i → IsNear i → IsLineOf k rest i
operands_spelled keyword.Set rest i e near =
    let (p, said, same) = made_said (λ (p : Register × ℤ). Set p.0 p.1) (two_in register_in value_in (halves_of 32 rest)) i e in
    let (x, y, is, one, two) = two_spelled register_in value_in rest p said in
    let v = value_spelled y p.1 two in
    subst (λ (i : Instruction). IsLineOf keyword.Set rest i) same
    (ap (λ (l : List ℕ). codes "set" ++ 32 ∷ l) (is ∙ ap₂ (λ (a b : List ℕ). a ++ 32 ∷ b) (register_spelled x p.0 one) v.0), v.1)
operands_spelled (keyword.Computes o) rest i e near =
    let (p, said, same) = made_said (λ (p : (Register × Register) × Register). Compute o p.0.0 p.0.1 p.1) (three_in (halves_of 32 rest)) i e in
    subst (λ (i : Instruction). IsLineOf (keyword.Computes o) rest i) same
    (ap (λ (l : List ℕ). operation_word o ++ 32 ∷ l) (three_spelled rest p said), refl)
operands_spelled keyword.Load rest i e near =
    let (p, said, same) = made_said (λ (p : Register × Register). Load p.0 p.1) (two_in register_in register_in (halves_of 32 rest)) i e in
    let (x, y, is, one, two) = two_spelled register_in register_in rest p said in
    subst (λ (i : Instruction). IsLineOf keyword.Load rest i) same
    (ap (λ (l : List ℕ). codes "load" ++ 32 ∷ l) (is ∙ ap₂ (λ (a b : List ℕ). a ++ 32 ∷ b) (register_spelled x p.0 one) (register_spelled y p.1 two)), refl)
operands_spelled keyword.Store rest i e near =
    let (p, said, same) = made_said (λ (p : Register × Register). Store p.0 p.1) (two_in register_in register_in (halves_of 32 rest)) i e in
    let (x, y, is, one, two) = two_spelled register_in register_in rest p said in
    subst (λ (i : Instruction). IsLineOf keyword.Store rest i) same
    (ap (λ (l : List ℕ). codes "store" ++ 32 ∷ l) (is ∙ ap₂ (λ (a b : List ℕ). a ++ 32 ∷ b) (register_spelled x p.0 one) (register_spelled y p.1 two)), refl)
operands_spelled keyword.JumpIfZero rest i e near =
    let (p, said, same) = made_said (λ (p : Register × ℕ). JumpIfZero p.0 p.1) (two_in register_in target_in (halves_of 32 rest)) i e in
    let (x, y, is, one, two) = two_spelled register_in target_in rest p said in
    let low = ltb-true p.1 (2 ^ 32 - 1) (subst IsNear (sym same) near) in
    subst (λ (i : Instruction). IsLineOf keyword.JumpIfZero rest i) same
    (ap (λ (l : List ℕ). codes "jz" ++ 32 ∷ l) (is ∙ ap₂ (λ (a b : List ℕ). a ++ 32 ∷ b) (register_spelled x p.0 one) (target_spelled y p.1 two low)), refl)
operands_spelled keyword.Jump rest i e near =
    let (t, said, same) = made_said Jump (target_in rest) i e in
    let low = ltb-true t (2 ^ 32 - 1) (subst IsNear (sym same) near) in
    subst (λ (i : Instruction). IsLineOf keyword.Jump rest i) same
    (ap (λ (l : List ℕ). codes "jump" ++ 32 ∷ l) (target_spelled rest t said low), refl)

-- a line that says an instruction is what is written of it
pub line_spelled : (l : List ℕ) (i : Instruction) → Says (instruction_in l) i → IsNear i → (l ≡ joined (instruction_words i)) × (has_value i ≡ true)
line_spelled l i e near = by (halves_of 32 l) refl e
  where
    halt : (b : Bool) → bytes_eq l (codes "halt") ≡ b → cond b (Some (Some Halt)) None ≡ Some (Some i) → (l ≡ joined (instruction_words i)) × (has_value i ≡ true)
    halt true s h =
        subst (λ (i : Instruction). (l ≡ joined (instruction_words i)) × (has_value i ≡ true)) (same_said h)
        ((bytes_eq-Decides l (codes "halt")).0 s, refl)
    halt false s h = absurd (cc)

    worded : (x y : List ℕ) (o : Option Keyword) → l ≡ x ++ 32 ∷ y → keyword_of x ≡ o → Says (instruction_by o y) i
        → (l ≡ joined (instruction_words i)) × (has_value i ≡ true)
    worded x y None is k h = absurd (cc)
    worded x y (Some j) is k h =
        let line = operands_spelled j y i h near in
        (is ∙ ap (λ (w : List ℕ). w ++ 32 ∷ y) (keyword_spelled x j k) ∙ line.0, line.1)

    by : (o : Option (List ℕ × List ℕ)) → halves_of 32 l ≡ o → Says (instruction_of l o) i → (l ≡ joined (instruction_words i)) × (has_value i ≡ true)
    by None h s = halt (bytes_eq l (codes "halt")) refl s
    by (Some (x, y)) h s = worded x y (keyword_of x) (halves_back 32 l x y h) refl s

-- and what is written of an instruction says it
register_cut : (r : Register) (rest : List ℕ) → halves_of 32 (register_word r ++ 32 ∷ rest) ≡ Some (register_word r, rest)
register_cut r rest = halves_at is_word_byte 32 refl (register_word r) rest (register_bytes r)

two_registers : (x y : Register) → Says (two_in register_in register_in (halves_of 32 (register_word x ++ 32 ∷ register_word y))) (x, y)
two_registers x y =
    ap (two_in register_in register_in) (register_cut x (register_word y)) ∙ ap₂ pair_of (register_read x) (register_read y)

computed : (o : Operation) (to x y : Register)
    → Says (operands_in (keyword.Computes o) (register_word to ++ 32 ∷ (register_word x ++ 32 ∷ register_word y))) (Compute o to x y)
computed o to x y =
    ap (λ h. made_of (λ (p : (Register × Register) × Register). Compute o p.0.0 p.0.1 p.1) (three_in h)) (register_cut to (register_word x ++ 32 ∷ register_word y))
    ∙ ap (λ h. made_of (λ (p : (Register × Register) × Register). Compute o p.0.0 p.0.1 p.1) (third_in (register_in (register_word to)) h))
    (register_cut x (register_word y))
    ∙ ap₂ (λ a b. made_of (λ (p : (Register × Register) × Register). Compute o p.0.0 p.0.1 p.1) (pair_of a b))
    (ap₂ pair_of (register_read to) (register_read x)) (register_read y)

pub line_read : (i : Instruction) → has_value i ≡ true → IsNear i → Says (instruction_in (joined (instruction_words i))) i
line_read (Set to z) fit near =
    ap (λ h. made_of (λ (p : Register × ℤ). Set p.0 p.1) (two_in register_in value_in h)) (register_cut to (signed_decimal z))
    ∙ ap₂ (λ a b. made_of (λ (p : Register × ℤ). Set p.0 p.1) (pair_of a b)) (register_read to) (value_read z fit)
line_read (Compute operation.Add to x y) fit near = computed operation.Add to x y
line_read (Compute operation.Sub to x y) fit near = computed operation.Sub to x y
line_read (Compute operation.Mul to x y) fit near = computed operation.Mul to x y
line_read (Compute operation.Div to x y) fit near = computed operation.Div to x y
line_read (Compute operation.Rem to x y) fit near = computed operation.Rem to x y
line_read (Compute operation.Less to x y) fit near = computed operation.Less to x y
line_read (Load to x) fit near = ap (made_of (λ (p : Register × Register). Load p.0 p.1)) (two_registers to x)
line_read (Store x y) fit near = ap (made_of (λ (p : Register × Register). Store p.0 p.1)) (two_registers x y)
line_read (JumpIfZero x t) fit near =
    ap (λ h. made_of (λ (p : Register × ℕ). JumpIfZero p.0 p.1) (two_in register_in target_in h)) (register_cut x (decimal t))
    ∙ ap₂ (λ a b. made_of (λ (p : Register × ℕ). JumpIfZero p.0 p.1) (pair_of a b)) (register_read x) (target_read t (ltb-true t (2 ^ 32 - 1) near))
line_read (Jump t) fit near = ap (made_of Jump) (target_read t (ltb-true t (2 ^ 32 - 1) near))
line_read Halt fit near = refl
