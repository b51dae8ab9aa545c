-- A text says a RAM exactly where it is what is written of it.
use Rattle.std.proofs.Common.{◌≡◌, ◌∙◌, ◌↔◌, ℕ, zero, suc, ◌+◌, ◌-◌, ◌^◌, ◌<◌, ◌≤◌, ◌==◌, Bool, true, false, not, ◌&&◌, ◌||◌, cond, nat_lt, nat_le, ℤ, List, [], ◌∷◌, ◌++◌, length, map, codes, decimal, bytes_eq}
use Rattle.std.proofs.Common.{Option, Some, None, Result, Ok, Err, refl, sym, ap, ap₂, subst, arith, append_assoc, append-nil, length-append}
use Rattle.std.specs.Fmt.{signed_decimal}
use Rattle.std.specs.List.{list_all, flat_map, AllByRecursion}
use Rattle.std.specs.Cmp.Derive.{both_true}
use Rattle.std.proofs.lemmas.Bool.{both_ways, and_parts, cond-true, cond-false, ltb-true, ltb-false, leb-true, leb-false, lt-ltb, le-leb, le-ltb, lt-leb, eqb-true, eq-eqb}
use Rattle.std.proofs.lemmas.Slice.Eq.{bytes_eq-Decides}
use Rattle.ppm_words.specs.Limits.{word_limit}
use Rattle.ppm_pieces.specs.Numbers.{is_empty, is_numeral, value}
use Rattle.ppm_pieces.specs.Pieces.{split, halves_of}
use Rattle.ppm_pieces.proofs.NumberLemmas.{numeral-decimal, value-decimal, decimal-value}
use Rattle.ppm_tree.specs.Values.{fits}
use Rattle.ppm_ram.specs.declared.register.Register.{Register}
use Rattle.ppm_ram.specs.declared.instruction.Operation.TheVariants as operation
use Rattle.ppm_ram.specs.declared.instruction.Instruction.{Instruction}
use Rattle.ppm_ram.specs.declared.instruction.Instruction.TheVariants.{Set, Compute, Load, Store, JumpIfZero, Jump, Halt}
use Rattle.ppm_ram.specs.declared.ram.RamParts.{RamParts}
use Rattle.ppm_ram.specs.declared.ram_error.RamFault.{RamFault}
use Rattle.ppm_ram.specs.declared.ram_error.RamFault.TheVariants as fault
use Rattle.ppm_ram.specs.Limits.{instruction_limit, text_limit, line_of}
use Rattle.ppm_ram.specs.Program.{has_target, has_value, is_final, EndWell, IsRam}
use Rattle.ppm_ram.specs.Text.{between, joined, line, register_word, operation_word, instruction_words, ram_lines, ram_text, IsTextOf}
use Rattle.ppm_ram.specs.Numbers.{values_in}
use Rattle.ppm_ram.specs.Lines.{instruction_in, is_last, standing, judged, Fault, in_front, with_line, instructions_in, count_of, size_by, size_in}
use Rattle.ppm_ram.specs.Lines.{fitting, values_by, values_of, line_then, with_instructions, with_values, with_size, with_head, ram_in}
use Rattle.ppm_ram.specs.Correct.{TextsAreOfRams}
use Rattle.ppm_ram.proofs.LoopLemmas.{some_piece}
use Rattle.ppm_ram.proofs.PieceLemmas.{AreOf, wider, all_append, halves_at, halves_back, split_between, between_split}
use Rattle.ppm_ram.proofs.NumberLemmas.{Says, values_spelled, values_read, is_word_byte, decimal_bytes, value_bytes, register_bytes}
use Rattle.ppm_ram.proofs.LineLemmas.{IsNear, line_spelled, line_read}

-- what went well, and what not
abbrev good_in : {A B : Type 0} → A → Result A B → A
good_in d (Ok x) = x
good_in d (Err f) = d

abbrev WentBadly : {A B : Type 0} → Result A B → Type 0
WentBadly (Ok x) = ⊥
WentBadly (Err f) = Unit {0}

ok_same : {A B : Type 0} {x y : A} → ◌≡◌ {A = Result A B} (Ok x) (Ok y) → x ≡ y
ok_same {A} {B} {x} e = ap (λ (r : Result A B). good_in x r) e

err_not_ok : {A B : Type 0} {x : A} {f : B} → ◌≡◌ {A = Result A B} (Err f) (Ok x) → ⊥
err_not_ok {A} {B} e = subst (λ (r : Result A B). WentBadly r) e tt

-- an instruction that stands at its place
record IsStanding (count number : ℕ) (i : Instruction) : Type 0 where
  pub target : has_target count i ≡ true
  pub end : is_last count number ≡ true → is_final i ≡ true
  pub few : number < instruction_limit

stood : (count number : ℕ) (i j : Instruction) → standing count number i ≡ Ok j → (i ≡ j) × IsStanding count number i
stood count number i j e =
    by (has_target count i) refl (is_last count number) refl (is_final i) refl (nat_le instruction_limit number) refl e
  where
    by : (a : Bool) → has_target count i ≡ a → (b : Bool) → is_last count number ≡ b → (c : Bool) → is_final i ≡ c
        → (d : Bool) → nat_le instruction_limit number ≡ d
        → cond (not a) (Err fault.NoSuchTarget) (cond (b && not c) (Err fault.NoEnd) (cond d (Err fault.TooMany) (Ok i))) ≡ Ok j
        → (i ≡ j) × IsStanding count number i
    by false p b q c s d t e = absurd (err_not_ok e)
    by true p true q false s d t e = absurd (err_not_ok e)
    by true p true q true s true t e = absurd (err_not_ok e)
    by true p false q c s true t e = absurd (err_not_ok e)
    by true p true q true s false t e =
        (ok_same e, record { target = p; end = λ h. s; few = leb-false instruction_limit number t })
    by true p false q c s false t e =
        (ok_same e, record { target = p; end = λ h. absurd (both_ways (is_last count number) q h); few = leb-false instruction_limit number t })

stands : (count number : ℕ) (i : Instruction) → IsStanding count number i → standing count number i ≡ Ok i
stands count number i h =
    cond-false (not (has_target count i)) (Err fault.NoSuchTarget) _ (ap (λ (b : Bool). not b) h.target)
    ∙ cond-false (is_last count number && not (is_final i)) (Err fault.NoEnd) _ (by (is_last count number) refl)
    ∙ cond-false (nat_le instruction_limit number) (Err fault.TooMany) (Ok i) (lt-leb instruction_limit number h.few)
  where
    by : (b : Bool) → is_last count number ≡ b → (b && not (is_final i)) ≡ false
    by true e = ap (λ (b : Bool). not b) (h.end e)
    by false e = refl

judged_said : (count number : ℕ) (o : Option (Option Instruction)) (i : Instruction) → judged count number o ≡ Ok i → Says o i × IsStanding count number i
judged_said count number None i e = absurd (err_not_ok e)
judged_said count number (Some None) i e = absurd (err_not_ok e)
judged_said count number (Some (Some j)) i e =
    let k = stood count number j i e in (ap (λ (i : Instruction). Some (Some i)) k.0, subst (IsStanding count number) k.0 k.1)

-- no more lines than bytes
count_low : (ls : List (List ℕ)) → count_of ls ≤ length (between 10 ls)
count_low [] = omega arith
count_low ([] ∷ []) = omega arith
count_low ((b ∷ bs) ∷ []) = omega arith
count_low (l ∷ m ∷ ls) = let rest = count_low (m ∷ ls) in let all = length-append l (10 ∷ between 10 (m ∷ ls)) in omega (arith, rest, all)

-- an instruction goes to one of few
near : (count : ℕ) (i : Instruction) → count ≤ text_limit → has_target count i ≡ true → IsNear i
near count (Set to z) low h = refl
near count (Compute o to x y) low h = refl
near count (Load to x) low h = refl
near count (Store x y) low h = refl
near count (JumpIfZero x t) low h = let k = ltb-true t count h in lt-ltb t (2 ^ 32 - 1) (omega (arith, low, k))
near count (Jump t) low h = let k = ltb-true t count h in lt-ltb t (2 ^ 32 - 1) (omega (arith, low, k))
near count Halt low h = refl

abbrev text_of : List Instruction → List ℕ
text_of is = flat_map line (map instruction_words is)

-- the lines of instructions, the first of which has this number among so many
record AreLines (count number : ℕ) (ls : List (List ℕ)) (is : List Instruction) : Type 0 where
  pub text : between 10 ls ≡ text_of is
  pub count_is : count_of ls ≡ length is
  pub constants : AllByRecursion (λ i. has_value i ≡ true) is
  pub targets : AllByRecursion (λ i. has_target count i ≡ true) is
  pub few : (number ≤ instruction_limit) → number + length is ≤ instruction_limit
  pub end : number + length is ≡ count → number < count → EndWell is
  pub some : number ≡ 0 → 0 < length is

empty_is : (l : List ℕ) → is_empty l ≡ true → l ≡ []
empty_is [] h = refl
empty_is (b ∷ bs) h = absurd (both_ways false refl h)

lines_spelled : (count number : ℕ) (ls : List (List ℕ)) (is : List Instruction) → count ≤ text_limit → 0 < length ls
    → instructions_in count number ls ≡ Ok is → AreLines count number ls is
lines_spelled count number [] is low one e = absurd (omega (arith, one))
lines_spelled count number (l ∷ []) is low one e = by (is_empty l && nat_lt 0 number) refl e
  where
    by : (b : Bool) → (is_empty l && nat_lt 0 number) ≡ b
        → cond {A = Result (List Instruction) Fault} b (Ok []) (Err (fault.NoSuchForm, line_of number)) ≡ Ok is → AreLines count number (l ∷ []) is
    by false t e = absurd (err_not_ok e)
    by true t e =
        let parts = and_parts (is_empty l) (nat_lt 0 number) t in
        let more = ltb-true 0 number parts.1 in
        let nothing = empty_is l parts.0 in
        subst (AreLines count number (l ∷ [])) (ok_same e) (record {
          text = nothing;
          count_is = cond-true (is_empty l) 0 1 parts.0;
          constants = tt;
          targets = tt;
          few = λ h. omega (arith, h);
          end = λ all less. absurd (omega (arith, all, less));
          some = λ none. absurd (omega (arith, none, more));
        })
lines_spelled count number (l ∷ m ∷ ls) is low one e =
    by (λ js q. lines_spelled count (number + 1) (m ∷ ls) js low (omega arith) q)
    (judged count number (instruction_in l)) refl (instructions_in count (number + 1) (m ∷ ls)) refl e
  where
    ended : (i : Instruction) (js : List Instruction) → (is_last count number ≡ true → is_final i ≡ true)
        → (number + 1 + length js ≡ count → number + 1 < count → EndWell js) → number + length (i ∷ js) ≡ count → EndWell (i ∷ js)
    ended i [] last rest all = last (eq-eqb (number + 1) count (omega (arith, all)))
    ended i (j ∷ js) last rest all = rest (omega (arith, all)) (omega (arith, all))

    by : ((js : List Instruction) → instructions_in count (number + 1) (m ∷ ls) ≡ Ok js → AreLines count (number + 1) (m ∷ ls) js)
        → (v : Result Instruction RamFault) → judged count number (instruction_in l) ≡ v
        → (w : Result (List Instruction) Fault) → instructions_in count (number + 1) (m ∷ ls) ≡ w → with_line (line_of number) v w ≡ Ok is
        → AreLines count number (l ∷ m ∷ ls) is
    by others (Err f) p w q e = absurd (err_not_ok e)
    by others (Ok i) p (Err f) q e = absurd (err_not_ok e)
    by others (Ok i) p (Ok js) q e =
        let said = judged_said count number (instruction_in l) i p in
        let rest = others js q in
        let here = line_spelled l i said.0 (near count i low said.1.target) in
        let r = rest.count_is in
        let f = said.1.few in
        subst (AreLines count number (l ∷ m ∷ ls)) (ok_same e) (record {
          text = ap₂ (λ (a b : List ℕ). a ++ 10 ∷ b) here.0 rest.text ∙ sym (append_assoc (joined (instruction_words i)) (10 ∷ []) (text_of js));
          count_is = omega (arith, r);
          constants = (here.1, rest.constants);
          targets = (said.1.target, rest.targets);
          few = λ h. let k = rest.few (omega (arith, f)) in omega (arith, k);
          end = λ all less. ended i js said.1.end (λ a b. rest.end (omega (arith, a)) b) all;
          some = λ none. omega arith;
        })

-- and back: what is written of instructions is read as them
abbrev pieces_of : List Instruction → List (List ℕ)
pieces_of is = map (λ i. joined (instruction_words i)) is ++ [] ∷ []

with_piece : (is : List Instruction) → (m : List ℕ) × (ms : List (List ℕ)) × (pieces_of is ≡ m ∷ ms)
with_piece [] = ([], [], refl)
with_piece (i ∷ is) = (joined (instruction_words i), pieces_of is, refl)

count_written : (is : List Instruction) → count_of (pieces_of is) ≡ length is
count_written [] = refl
count_written (i ∷ is) =
    let (m, ms, e) = with_piece is in
    ap (λ l. count_of (joined (instruction_words i) ∷ l)) e ∙ ap (λ l. 1 + count_of l) (sym e) ∙ (let r = count_written is in omega (arith, r))

lines_read : (count number : ℕ) (is : List Instruction) → count ≤ text_limit → number + length is ≡ count → count ≤ instruction_limit → 0 < count
    → AllByRecursion (λ i. has_value i ≡ true) is → AllByRecursion (λ i. has_target count i ≡ true) is → (number < count → EndWell is)
    → instructions_in count number (pieces_of is) ≡ Ok is
lines_read count number [] low all few some values targets end =
    cond-true (nat_lt 0 number) (Ok []) (Err (fault.NoSuchForm, line_of number)) (lt-ltb 0 number (omega (arith, all, some)))
lines_read count number (i ∷ is) low all few some values targets end =
    let (m, ms, e) = with_piece is in
    let rest = lines_read count (number + 1) is low (omega (arith, all)) few some values.1 targets.1 (λ less. after is (end (omega (arith, all))) (omega (arith, all, less))) in
    let here : judged count number (instruction_in (joined (instruction_words i))) ≡ Ok i =
    ap (judged count number) (line_read i values.0 (near count i low targets.0))
    ∙ stands count number i (record { target = targets.0; end = λ l. last is (end (omega (arith, all))) (let e = eqb-true (number + 1) count l in omega (arith, all, e)); few = omega (arith, all, few) }) in
    ap (λ l. instructions_in count number (joined (instruction_words i) ∷ l)) e
    ∙ ap (λ l. with_line (line_of number) (judged count number (instruction_in (joined (instruction_words i)))) (instructions_in count (number + 1) l)) (sym e)
    ∙ ap₂ (λ v w. with_line (line_of number) v w) here rest
  where
    after : (is : List Instruction) → EndWell (i ∷ is) → 0 < length is → EndWell is
    after [] h some = absurd (omega (arith, some))
    after (j ∷ js) h some = h

    last : (is : List Instruction) → EndWell (i ∷ is) → length is ≡ 0 → is_final i ≡ true
    last [] h none = h
    last (j ∷ js) h none = absurd (omega (arith, none))

-- a line and what follows it
one_line : (l rest : List ℕ) → (l ++ 10 ∷ []) ++ rest ≡ l ++ 10 ∷ rest
one_line l rest = append_assoc l (10 ∷ []) rest

-- the line of the memory
abbrev memory_words : ℕ → List (List ℕ)
memory_words n = codes "memory" ∷ decimal n ∷ []

size_spelled : (l : List ℕ) (n : ℕ) → size_in l ≡ Ok n → (l ≡ codes "memory" ++ 32 ∷ decimal n) × (n ≤ word_limit)
size_spelled l n e = by (halves_of 32 l) refl e
  where
    number : (w d : List ℕ) → l ≡ w ++ 32 ∷ d → bytes_eq w (codes "memory") ≡ true → is_numeral d ≡ true
        → (b : Bool) → nat_le (value d) word_limit ≡ b → cond b (Ok (value d)) (Err fault.OutOfRange) ≡ Ok n
        → (l ≡ codes "memory" ++ 32 ∷ decimal n) × (n ≤ word_limit)
    number w d is t u true s h =
        let same : value d ≡ n = ok_same h in
        let low = leb-true (value d) word_limit s in (
          is ∙ ap₂ (λ (a b : List ℕ). a ++ 32 ∷ b) ((bytes_eq-Decides w (codes "memory")).0 t)
              (sym (decimal-value d u (omega (arith, low))) ∙ ap decimal same),
          omega (arith, same, low),
        )
    number w d is t u false s h = absurd (err_not_ok h)

    word : (w d : List ℕ) → l ≡ w ++ 32 ∷ d → (b : Bool) → (bytes_eq w (codes "memory") && is_numeral d) ≡ b
        → cond b (cond (nat_le (value d) word_limit) (Ok (value d)) (Err fault.OutOfRange)) (Err fault.NoSuchForm) ≡ Ok n
        → (l ≡ codes "memory" ++ 32 ∷ decimal n) × (n ≤ word_limit)
    word w d is true t h =
        let k = and_parts (bytes_eq w (codes "memory")) (is_numeral d) t in
        number w d is k.0 k.1 (nat_le (value d) word_limit) refl h
    word w d is false t h = absurd (err_not_ok h)

    by : (o : Option (List ℕ × List ℕ)) → halves_of 32 l ≡ o → size_by l o ≡ Ok n → (l ≡ codes "memory" ++ 32 ∷ decimal n) × (n ≤ word_limit)
    by None h s = absurd (err_not_ok s)
    by (Some (w, d)) h s = word w d (halves_back 32 l w d h) (bytes_eq w (codes "memory") && is_numeral d) refl s

size_read : (n : ℕ) → n ≤ word_limit → size_in (codes "memory" ++ 32 ∷ decimal n) ≡ Ok n
size_read n low =
    let small : n < 2 ^ 64 = omega (arith, low) in
    cond-true (is_numeral (decimal n)) (cond (nat_le (value (decimal n)) word_limit) (Ok (value (decimal n))) (Err fault.OutOfRange))
    (Err fault.NoSuchForm) (numeral-decimal n small)
    ∙ ap (λ (v : ℕ). cond (nat_le v word_limit) (Ok v) (Err fault.OutOfRange)) (value-decimal n small)
    ∙ cond-true (nat_le n word_limit) (Ok n) (Err fault.OutOfRange) (le-leb n word_limit low)

-- the line of the values
abbrev values_line : List ℤ → List ℕ
values_line zs = joined (codes "values" ∷ map signed_decimal zs)

record AreValues (memory : ℕ) (l : List ℕ) (zs : List ℤ) : Type 0 where
  pub line : l ≡ values_line zs
  pub values : AllByRecursion (λ v. fits v ≡ true) zs
  pub few : length zs ≤ memory

values_line_spelled : (memory : ℕ) (l : List ℕ) (zs : List ℤ) → values_of memory l ≡ Ok zs → AreValues memory l zs
values_line_spelled memory l zs e = by (halves_of 32 l) refl e
  where
    alone : (b : Bool) → bytes_eq l (codes "values") ≡ b → cond b (Ok []) (Err fault.NoSuchForm) ≡ Ok zs → AreValues memory l zs
    alone true t h =
        subst (AreValues memory l) (ok_same h) (record { line = (bytes_eq-Decides l (codes "values")).0 t; values = tt; few = omega arith })
    alone false t h = absurd (err_not_ok h)

    few_enough : (w ds : List ℕ) (ys : List ℤ) → l ≡ w ++ 32 ∷ ds → bytes_eq w (codes "values") ≡ true → values_in (split 32 ds) ≡ Some (Some ys)
        → (b : Bool) → nat_lt memory (length ys) ≡ b → cond b (Err fault.TooManyValues) (Ok ys) ≡ Ok zs → AreValues memory l zs
    few_enough w ds ys is t said true u h = absurd (err_not_ok h)
    few_enough w ds ys is t said false u h =
        let k = values_spelled (split 32 ds) ys said in
        subst (AreValues memory l) (ok_same h) (record {
          line = is ∙ ap₂ (λ (a b : List ℕ). a ++ 32 ∷ b) ((bytes_eq-Decides w (codes "values")).0 t) (sym (between_split 32 ds) ∙ ap (between 32) k.0)
              ∙ words ys k.0;
          values = k.1;
          few = ltb-false memory (length ys) u;
        })
      where
        words : (ys : List ℤ) → split 32 ds ≡ map signed_decimal ys → codes "values" ++ 32 ∷ between 32 (map signed_decimal ys) ≡ values_line ys
        words [] e = let (p, ps, some) = some_piece 32 ds in absurd (cc)
        words (y ∷ ys) e = refl

    worded : (w ds : List ℕ) → l ≡ w ++ 32 ∷ ds → bytes_eq w (codes "values") ≡ true → (v : Option (Option (List ℤ))) → values_in (split 32 ds) ≡ v
        → fitting memory v ≡ Ok zs → AreValues memory l zs
    worded w ds is t None s h = absurd (err_not_ok h)
    worded w ds is t (Some None) s h = absurd (err_not_ok h)
    worded w ds is t (Some (Some ys)) s h = few_enough w ds ys is t s (nat_lt memory (length ys)) refl h

    word : (w ds : List ℕ) → l ≡ w ++ 32 ∷ ds → (b : Bool) → bytes_eq w (codes "values") ≡ b
        → cond b (fitting memory (values_in (split 32 ds))) (Err fault.NoSuchForm) ≡ Ok zs → AreValues memory l zs
    word w ds is true t h = worded w ds is t (values_in (split 32 ds)) refl h
    word w ds is false t h = absurd (err_not_ok h)

    by : (o : Option (List ℕ × List ℕ)) → halves_of 32 l ≡ o → values_by memory l o ≡ Ok zs → AreValues memory l zs
    by None h s = alone (bytes_eq l (codes "values")) refl s
    by (Some (w, ds)) h s = word w ds (halves_back 32 l w ds h) (bytes_eq w (codes "values")) refl s

all_value_bytes : (zs : List ℤ) → AllByRecursion (λ v. fits v ≡ true) zs → list_all (list_all is_word_byte) (map signed_decimal zs) ≡ true
all_value_bytes [] all = refl
all_value_bytes (z ∷ zs) all = both_true (value_bytes z all.0) (all_value_bytes zs all.1)

values_line_read : (memory : ℕ) (zs : List ℤ) → AllByRecursion (λ v. fits v ≡ true) zs → length zs ≤ memory → values_of memory (values_line zs) ≡ Ok zs
values_line_read memory [] all few = refl
values_line_read memory (z ∷ zs) all few =
    ap (λ ws. fitting memory (values_in ws))
    (split_between is_word_byte 32 refl (signed_decimal z) (map signed_decimal zs) (value_bytes z all.0) (all_value_bytes zs all.1))
    ∙ ap (fitting memory) (values_read (z ∷ zs) all)
    ∙ cond-false (nat_lt memory (length (z ∷ zs))) (Err fault.TooManyValues) (Ok (z ∷ zs)) (le-ltb memory (length (z ∷ zs)) few)

-- what a text says is what it was written of
record IsPeeled (f : List ℕ → List (List ℕ) → Result RamParts Fault) (ls : List (List ℕ)) (r : RamParts) : Type 0 where
  pub l : List ℕ
  pub m : List ℕ
  pub ms : List (List ℕ)
  pub is : ls ≡ l ∷ m ∷ ms
  pub rest : f l (m ∷ ms) ≡ Ok r

peel : (n : ℕ) (f : List ℕ → List (List ℕ) → Result RamParts Fault) (ls : List (List ℕ)) (r : RamParts) → line_then n f ls ≡ Ok r → IsPeeled f ls r
peel n f [] r e = absurd (err_not_ok e)
peel n f (l ∷ []) r e = absurd (err_not_ok e)
peel n f (l ∷ m ∷ ms) r e = record { l = l; m = m; ms = ms; is = refl; rest = e }

module _ (text : List ℕ) (short : length text ≤ text_limit) where
  made_of_lines : (one two three m : List ℕ) (ms : List (List ℕ)) (n : ℕ) (zs : List ℤ) (is : List Instruction)
      → split 10 text ≡ one ∷ two ∷ three ∷ m ∷ ms → one ≡ codes "ram 1" → size_in two ≡ Ok n → values_of n three ≡ Ok zs
      → instructions_in (count_of (m ∷ ms)) 0 (m ∷ ms) ≡ Ok is → IsTextOf text (record { memory = n; values = zs; instructions = is })
  made_of_lines one two three m ms n zs is cut head size values instructions =
      let whole : text ≡ between 10 (one ∷ two ∷ three ∷ m ∷ ms) = sym (between_split 10 text) ∙ ap (between 10) cut in
      let low = count_low (one ∷ two ∷ three ∷ m ∷ ms) in
      let long = ap (λ (t : List ℕ). length t) whole in
      let lines = lines_spelled (count_of (m ∷ ms)) 0 (m ∷ ms) is (omega (arith, low, long, short)) (omega arith) instructions in
      let s = size_spelled two n size in
      let v = values_line_spelled n three zs values in
      let some = lines.some refl in
      let few = lines.few (omega arith) in
      let count = lines.count_is in
      record {
        ram = record {
          memory = s.1;
          few_values = v.few;
          values = v.values;
          few = omega (arith, few);
          constants = lines.constants;
          targets = subst (λ (c : ℕ). AllByRecursion (λ i. has_target c i ≡ true) is) count lines.targets;
          end = lines.end (omega (arith, count)) (omega (arith, count, some));
        };
        short = short;
        same = whole ∙ ap₂ (λ (a b : List ℕ). a ++ 10 ∷ b) head
            (ap₂ (λ (a b : List ℕ). a ++ 10 ∷ b) s.0 (ap₂ (λ (a b : List ℕ). a ++ 10 ∷ b) v.line lines.text
            ∙ sym (one_line (values_line zs) (text_of is))) ∙ sym (one_line (joined (memory_words n)) ((values_line zs ++ 10 ∷ []) ++ text_of is)));
      }

  said_is_text : (r : RamParts) → ram_in text ≡ Ok r → IsTextOf text r
  said_is_text r e = first (peel 1 with_head (split 10 text) r (sym (cond-false (nat_lt text_limit (length text)) _ _ (le-ltb text_limit (length text) short)) ∙ e))
    where
      fourth : (one two three m : List ℕ) (ms : List (List ℕ)) (n : ℕ) (zs : List ℤ) → split 10 text ≡ one ∷ two ∷ three ∷ m ∷ ms → one ≡ codes "ram 1"
          → size_in two ≡ Ok n → values_of n three ≡ Ok zs → (v : Result (List Instruction) Fault)
          → instructions_in (count_of (m ∷ ms)) 0 (m ∷ ms) ≡ v → with_instructions n zs v ≡ Ok r → IsTextOf text r
      fourth one two three m ms n zs cut head size values (Err f) s e = absurd (err_not_ok e)
      fourth one two three m ms n zs cut head size values (Ok is) s e =
          subst (IsTextOf text) (ok_same e) (made_of_lines one two three m ms n zs is cut head size values s)

      third : (one two : List ℕ) (n : ℕ) (f : List ℕ) (fs : List (List ℕ)) → split 10 text ≡ one ∷ two ∷ f ∷ fs → one ≡ codes "ram 1" → size_in two ≡ Ok n
          → (p : IsPeeled (λ l ms. with_values n (values_of n l) ms) (f ∷ fs) r) → (v : Result (List ℤ) RamFault) → values_of n p.l ≡ v
          → with_values n v (p.m ∷ p.ms) ≡ Ok r → IsTextOf text r
      third one two n f fs cut head size p (Err rule) s e = absurd (err_not_ok e)
      third one two n f fs cut head size p (Ok zs) s e =
          fourth one two p.l p.m p.ms n zs (cut ∙ ap (λ (l : List (List ℕ)). one ∷ two ∷ l) p.is) head size s
          (instructions_in (count_of (p.m ∷ p.ms)) 0 (p.m ∷ p.ms)) refl e

      second : (one f : List ℕ) (fs : List (List ℕ)) → split 10 text ≡ one ∷ f ∷ fs → one ≡ codes "ram 1"
          → (p : IsPeeled (λ l ms. with_size (size_in l) ms) (f ∷ fs) r) → (v : Result ℕ RamFault) → size_in p.l ≡ v
          → with_size v (p.m ∷ p.ms) ≡ Ok r → IsTextOf text r
      second one f fs cut head p (Err rule) s e = absurd (err_not_ok e)
      second one f fs cut head p (Ok n) s e =
          let q = peel 3 (λ l ms. with_values n (values_of n l) ms) (p.m ∷ p.ms) r e in
          third one p.l n p.m p.ms (cut ∙ ap (λ (l : List (List ℕ)). one ∷ l) p.is) head s q (values_of n q.l) refl q.rest

      headed : (p : IsPeeled with_head (split 10 text) r) → (b : Bool) → bytes_eq p.l (codes "ram 1") ≡ b
          → cond b (line_then 2 (λ l ms. with_size (size_in l) ms) (p.m ∷ p.ms)) (Err (fault.NoSuchForm, 1)) ≡ Ok r → IsTextOf text r
      headed p true t e =
          let q = peel 2 (λ l ms. with_size (size_in l) ms) (p.m ∷ p.ms) r e in
          second p.l p.m p.ms p.is ((bytes_eq-Decides p.l (codes "ram 1")).0 t) q (size_in q.l) refl q.rest
      headed p false t e = absurd (err_not_ok e)

      first : IsPeeled with_head (split 10 text) r → IsTextOf text r
      first p = headed p (bytes_eq p.l (codes "ram 1")) refl p.rest

-- and what is written is said
abbrev is_line_byte : ℕ → Bool
is_line_byte b = is_word_byte b || b == 32

line_byte : (b : ℕ) → is_word_byte b ≡ true → is_line_byte b ≡ true
line_byte b h = by (is_word_byte b) h
  where
    by : (w : Bool) → w ≡ true → (w || b == 32) ≡ true
    by true h = refl
    by false h = absurd (both_ways false refl h)

joined_bytes : (ws : List (List ℕ)) → list_all (list_all is_word_byte) ws ≡ true → AreOf is_line_byte (joined ws)
joined_bytes [] h = refl
joined_bytes (w ∷ []) h = let k = and_parts (list_all is_word_byte w) true h in wider is_word_byte is_line_byte line_byte w k.0
joined_bytes (w ∷ v ∷ vs) h =
    let k = and_parts (list_all is_word_byte w) (list_all (list_all is_word_byte) (v ∷ vs)) h in
    all_append is_line_byte w (32 ∷ joined (v ∷ vs)) (wider is_word_byte is_line_byte line_byte w k.0) (both_true refl (joined_bytes (v ∷ vs) k.1))

operation_bytes : (o : _) → AreOf is_word_byte (operation_word o)
operation_bytes operation.Add = refl
operation_bytes operation.Sub = refl
operation_bytes operation.Mul = refl
operation_bytes operation.Div = refl
operation_bytes operation.Rem = refl
operation_bytes operation.Less = refl

target_bytes : (t count : ℕ) → count ≤ text_limit → nat_lt t count ≡ true → AreOf is_word_byte (decimal t)
target_bytes t count low h = let k = ltb-true t count h in decimal_bytes t (omega (arith, low, k))

words_bytes : (i : Instruction) (count : ℕ) → count ≤ text_limit → has_value i ≡ true → has_target count i ≡ true
    → list_all (list_all is_word_byte) (instruction_words i) ≡ true
words_bytes (Set to z) count low fit h = both_true refl (both_true (register_bytes to) (both_true (value_bytes z fit) refl))
words_bytes (Compute o to x y) count low fit h =
    both_true (operation_bytes o) (both_true (register_bytes to) (both_true (register_bytes x) (both_true (register_bytes y) refl)))
words_bytes (Load to x) count low fit h = both_true refl (both_true (register_bytes to) (both_true (register_bytes x) refl))
words_bytes (Store x y) count low fit h = both_true refl (both_true (register_bytes x) (both_true (register_bytes y) refl))
words_bytes (JumpIfZero x t) count low fit h = both_true refl (both_true (register_bytes x) (both_true (target_bytes t count low h) refl))
words_bytes (Jump t) count low fit h = both_true refl (both_true (target_bytes t count low h) refl)
words_bytes Halt count low fit h = refl

pieces_bytes : (is : List Instruction) (count : ℕ) → count ≤ text_limit → AllByRecursion (λ i. has_value i ≡ true) is
    → AllByRecursion (λ i. has_target count i ≡ true) is → list_all (list_all is_line_byte) (pieces_of is) ≡ true
pieces_bytes [] count low values targets = refl
pieces_bytes (i ∷ is) count low values targets =
    both_true (joined_bytes (instruction_words i) (words_bytes i count low values.0 targets.0)) (pieces_bytes is count low values.1 targets.1)

written_between : (is : List Instruction) → text_of is ≡ between 10 (pieces_of is)
written_between [] = refl
written_between (i ∷ is) =
    let (m, ms, e) = with_piece is in
    one_line (joined (instruction_words i)) (text_of is) ∙ ap (λ (l : List ℕ). joined (instruction_words i) ++ 10 ∷ l) (written_between is)
    ∙ ap (λ (l : List (List ℕ)). joined (instruction_words i) ++ 10 ∷ between 10 l) e
    ∙ ap (λ (l : List (List ℕ)). between 10 (joined (instruction_words i) ∷ l)) (sym e)

text_is_said : (text : List ℕ) (r : RamParts) → IsTextOf text r → ram_in text ≡ Ok r
text_is_said text r h =
    let is = r.instructions in
    let (m, ms, e) = with_piece is in
    let two = joined (memory_words r.memory) in
    let three = values_line r.values in
    let few = h.ram.few in
    let all : text ≡ between 10 (codes "ram 1" ∷ two ∷ three ∷ pieces_of is) =
    h.same ∙ ap (λ (l : List ℕ). codes "ram 1" ++ 10 ∷ l) (one_line two ((three ++ 10 ∷ []) ++ text_of is)
    ∙ ap (λ (l : List ℕ). two ++ 10 ∷ l) (one_line three (text_of is) ∙ ap (λ (l : List ℕ). three ++ 10 ∷ l) (written_between is)
    ∙ ap (λ (l : List (List ℕ)). three ++ 10 ∷ between 10 l) e ∙ ap (λ (l : List (List ℕ)). between 10 (three ∷ l)) (sym e))) in
    let some = some_instruction is h.ram.end in
    let memory = h.ram.memory in
    let pieces : split 10 text ≡ codes "ram 1" ∷ two ∷ three ∷ pieces_of is =
    ap (split 10) all
    ∙ split_between is_line_byte 10 refl (codes "ram 1") (two ∷ three ∷ pieces_of is) refl
    (both_true (joined_bytes (memory_words r.memory) (both_true refl (both_true (decimal_bytes r.memory (omega (arith, memory))) refl)))
    (both_true (joined_bytes (codes "values" ∷ map signed_decimal r.values) (both_true refl (all_value_bytes r.values h.ram.values)))
    (pieces_bytes is (length is) (omega (arith, few)) h.ram.constants h.ram.targets))) in
    let count = count_written is in
    let read : instructions_in (count_of (pieces_of is)) 0 (pieces_of is) ≡ Ok is =
    ap (λ n. instructions_in n 0 (pieces_of is)) count
    ∙ lines_read (length is) 0 is (omega (arith, few)) (omega arith) few some h.ram.constants h.ram.targets (λ less. h.ram.end) in
    cond-false (nat_lt text_limit (length text)) (Err (fault.NoSuchForm, 1)) (line_then 1 with_head (split 10 text)) (le-ltb text_limit (length text) h.short)
    ∙ ap (line_then 1 with_head) pieces
    ∙ ap (λ v. with_size v (three ∷ pieces_of is)) (size_read r.memory memory)
    ∙ ap (λ l. line_then 3 (λ l ms. with_values r.memory (values_of r.memory l) ms) (three ∷ l)) e
    ∙ ap (λ l. with_values r.memory (values_of r.memory three) l) (sym e)
    ∙ ap (λ v. with_values r.memory v (pieces_of is)) (values_line_read r.memory r.values h.ram.values h.ram.few_values)
    ∙ ap (with_instructions r.memory r.values) read
  where
    some_instruction : (is : List Instruction) → EndWell is → 0 < length is
    some_instruction [] h = absurd h
    some_instruction (i ∷ is) h = omega arith

-- both ways
pub texts : TextsAreOfRams
texts text r = (to, text_is_said text r)
  where
    to : ram_in text ≡ Ok r → IsTextOf text r
    to e = by (nat_lt text_limit (length text)) refl
      where
        by : (b : Bool) → nat_lt text_limit (length text) ≡ b → IsTextOf text r
        by true t = absurd (err_not_ok (sym (cond-true (nat_lt text_limit (length text)) (Err (fault.NoSuchForm, 1)) (line_then 1 with_head (split 10 text)) t) ∙ e))
        by false t = said_is_text text (ltb-false text_limit (length text) t) r e
