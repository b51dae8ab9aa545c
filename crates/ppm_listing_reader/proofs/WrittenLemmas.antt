-- What is written of a code's parts is read as they are.
use Rattle.std.proofs.Common.{◌≡◌, ◌∙◌, ℕ, suc, ◌-◌, ◌^◌, ◌<◌, ◌≤◌, ◌==◌, min, Bool, true, false, ◌&&◌, cond, nat_lt, List, [], ◌∷◌, ◌++◌, map}
use Rattle.std.proofs.Common.{Option, Some, None, refl, ap, arith}
use Rattle.std.proofs.Common.{lt-ltb, eq-eqb, le-leb, ltb-true, ne_eqb, append_assoc, append-nil, FitsSigned, w64}
use Rattle.std.specs.Prelude.{ℤ, pos, negsuc}
use Rattle.std.specs.List.{flat_map, list_all, AllByRecursion}
use Rattle.std.specs.Cmp.Derive.{both_true}
use Rattle.std.proofs.Math.Bridge.{le_prop}
use Rattle.std.proofs.lemmas.Bool.{both_ways}
use Rattle.ppm_words.specs.declared.trap.Trap.TheVariants.{Overflow, DivZero, Index, Split}
use Rattle.ppm_code.specs.declared.register.Register.{Register as TheRegister}
use Rattle.ppm_code.specs.declared.act.End.TheVariants.{Next, Finish, Trap as Trapping, Call, Fork}
use Rattle.ppm_code.specs.declared.instr.Instr.{Instr}
use Rattle.ppm_code.specs.declared.instr.Instr.TheVariants.{Const, Move, Add, Sub, Mul, Div, Rem, Equal, NotEqual, Less, AtMost, Len, CutLeft, CutRight}
use Rattle.ppm_code.specs.declared.instr.Instr.TheVariants.{LoadSlot, StoreCur, Give, Get, Put, BranchZero, BranchNonZero, Room, StoreNew, Ends}
use Rattle.ppm_listing.specs.declared.keyword.Keyword.{Keyword}
use Rattle.ppm_listing.specs.declared.keyword.Keyword.TheVariants as keyword
use Rattle.ppm_listing.specs.declared.token.Token.{Token as Written}
use Rattle.ppm_listing.specs.declared.token.Token.TheVariants as written
use Rattle.ppm_listing.specs.Tokens.{Line, keyword_text, token_text, operand_text}
use Rattle.ppm_listing.specs.Listing.{number, instr_line, text_of}
use Rattle.ppm_listing.specs.Correct.{Fits, LineFits}
use Rattle.ppm_listing.proofs.KeywordLemmas.{is_word, spelling}
use Rattle.ppm_listing.proofs.TokenLemmas.{word_of_token}
use Rattle.ppm_listing_reader.specs.declared.token.Token.{Token}
use Rattle.ppm_listing_reader.specs.declared.token.Token.TheVariants.{Name, Register}
use Rattle.ppm_listing_reader.specs.declared.part.Part.{Part}
use Rattle.ppm_listing_reader.specs.declared.part.Part.TheVariants as part
use Rattle.ppm_listing_reader.specs.Tokens.{in_front, split, token_of, tokens_of}
use Rattle.ppm_listing_reader.specs.declared.form.Sort.TheVariants as sort
use Rattle.ppm_listing_reader.specs.Forms.{is_of, is_number, has_form, number_of, register_with, register_of, constant_of, is_register, constant}
use Rattle.ppm_listing_reader.specs.Forms.{instr_of, part_of, part_in, line_of, lines_in, lines_of}
use Rattle.ppm_pieces.proofs.NumberLemmas.{both_parts}
use Rattle.ppm_listing_reader.proofs.WordLemmas.{read_as, token_of-token_text}
use Rattle.ppm_listing_reader.proofs.FormLemmas.{IsSmall, small_limit, IsSmallLine, IsWholePart, part_line}

-- no byte is this separator
abbrev IsFree : ℕ → List ℕ → Type 0
IsFree s bs = AllByRecursion (λ b. (b == s) ≡ false) bs

split_free : (s : ℕ) (w rest : List ℕ) → IsFree s w → split s (w ++ s ∷ rest) ≡ w ∷ split s rest
split_free s [] rest h = λ i. cond (same i) ([] ∷ split s rest) (in_front s (split s rest))
  where
    same : (s == s) ≡ true
    same = eq-eqb s s refl
split_free s (b ∷ w) rest h =
    (λ i. cond (h.0 i) ([] ∷ split s (w ++ s ∷ rest)) (in_front b (split s (w ++ s ∷ rest)))) ∙ ap (in_front b) (split_free s w rest h.1)

split_alone : (s : ℕ) (w : List ℕ) → IsFree s w → split s w ≡ w ∷ []
split_alone s [] h = refl
split_alone s (b ∷ w) h = (λ i. cond (h.0 i) ([] ∷ split s w) (in_front b (split s w))) ∙ ap (in_front b) (split_alone s w h.1)

free_of_word : (s : ℕ) (w : List ℕ) → s ≤ 32 → is_word w ≡ true → IsFree s w
free_of_word s [] low h = tt
free_of_word s (b ∷ w) low h =
    let tests = both_parts (nat_lt 32 b) (is_word w) h in
    (ne_eqb b s (λ e. omega (arith, ltb-true 32 b tests.0, e, low)), free_of_word s w low tests.1)

free_append : (s : ℕ) (a b : List ℕ) → IsFree s a → IsFree s b → IsFree s (a ++ b)
free_append s [] b f g = g
free_append s (x ∷ a) b f g = (f.0, free_append s a b f.1 g)

-- the words of a line
split_words : (w : List ℕ) (ts : List Written) → is_word w ≡ true → AllByRecursion Fits ts → split 32 (w ++ flat_map operand_text ts) ≡ w ∷ map token_text ts
split_words w [] h f = ap (split 32) (append-nil w) ∙ split_alone 32 w (free_of_word 32 w (omega arith) h)
split_words w (t ∷ ts) h f =
    split_free 32 w (token_text t ++ flat_map operand_text ts) (free_of_word 32 w (omega arith) h)
    ∙ ap (λ l. w ∷ l) (split_words (token_text t) ts (word_of_token t f.0) f.1)

map_read : (ts : List Written) → AllByRecursion Fits ts → map token_of (map token_text ts) ≡ map read_as ts
map_read [] f = refl
map_read (t ∷ ts) f = λ i. token_of-token_text t f.0 i ∷ map_read ts f.1 i

-- the bytes of a line in front of its line feed
abbrev pub bytes_of : Line → List ℕ
bytes_of l = keyword_text l.keyword ++ flat_map operand_text l.operands

tokens_read : (l : Line) → LineFits l → tokens_of (bytes_of l) ≡ Name l.keyword ∷ map read_as l.operands
tokens_read l f =
    ap (map token_of) (split_words (keyword_text l.keyword) l.operands (spelling l.keyword).word f)
    ∙ (λ i. token_of-token_text (written.Name l.keyword) tt i ∷ map_read l.operands f i)

free_operands : (ts : List Written) → AllByRecursion Fits ts → IsFree 10 (flat_map operand_text ts)
free_operands [] f = tt
free_operands (t ∷ ts) f = (
  refl,
  free_append 10 (token_text t) (flat_map operand_text ts)
      (free_of_word 10 (token_text t) (omega arith) (word_of_token t f.0)) (free_operands ts f.1),
)

-- the lines of a text
pub split_lines : (ls : List Line) → AllByRecursion LineFits ls → split 10 (text_of ls) ≡ map bytes_of ls ++ [] ∷ []
split_lines [] f = refl
split_lines (l ∷ ls) f =
    ap (split 10) (append_assoc (bytes_of l) (10 ∷ []) (text_of ls))
    ∙ split_free 10 (bytes_of l) (text_of ls) (free_append 10 (keyword_text l.keyword) (flat_map operand_text l.operands)
    (free_of_word 10 (keyword_text l.keyword) (omega arith) (spelling l.keyword).word) (free_operands l.operands f.0))
    ∙ ap (λ ps. bytes_of l ∷ ps) (split_lines ls f.1)

lines_in-bytes : (ls : List Line) → lines_in (map bytes_of ls ++ [] ∷ []) ≡ map (λ l. line_of (bytes_of l)) ls
lines_in-bytes [] = refl
lines_in-bytes (l ∷ []) = refl
lines_in-bytes (l ∷ m ∷ ls) = ap (λ xs. line_of (bytes_of l) ∷ xs) (lines_in-bytes (m ∷ ls))

abbrev made : (n : ℕ) → n < 64 → TheRegister
made n h = record { index = n; in_range = h }

-- registers, numbers and constants are read as they are
reg : (r : TheRegister) → register_of (Register r.index) ≡ r
reg r = go (nat_lt r.index 64) refl (lt-ltb r.index 64 r.in_range)
  where
    go : (small : Bool) (e : nat_lt r.index 64 ≡ small) → small ≡ true → register_with r.index small e ≡ r
    go true e h = ap (made r.index) (le_prop (ltb-true r.index 64 e) r.in_range)
    go false e h = absurd (both_ways false refl h)

num : (n : ℕ) → n < small_limit → min n (2 ^ 32 - 1) ≡ n
num n h = omega (arith, h)

registers_read : (ts : List Written) → list_all is_register (map read_as ts) ≡ true
registers_read [] = refl
registers_read (written.Name k ∷ ts) = registers_read ts
registers_read (written.Register r ∷ ts) = both_true (lt-ltb r.index 64 r.in_range) (registers_read ts)
registers_read (written.Number (pos n) ∷ ts) = registers_read ts
registers_read (written.Number (negsuc n) ∷ ts) = registers_read ts
registers_read (written.Absent ∷ ts) = registers_read ts

constant_read : (z : ℤ) → FitsSigned w64 z → constant_of (read_as (written.Number z)) ≡ Some z
constant_read (pos n) h = λ i. cond (lt-ltb n (2 ^ 63) h.sfits i) (Some (pos n)) None
constant_read (negsuc n) h =
    let low : suc n ≤ 2 ^ 63 = omega (arith, h.sfits) in
    let same : suc n - 1 ≡ n = omega arith in
    (λ i. cond (le-leb (suc n) (2 ^ 63) low i) (Some (negsuc (suc n - 1))) None) ∙ ap (λ m. Some (negsuc m)) same

constant_form : (z : ℤ) → is_of sort.Constant (read_as (written.Number z)) ≡ true
constant_form (pos n) = refl
constant_form (negsuc n) = refl

part_read : (k : Keyword) (ts : List Token) (i : Instr) → has_form k ts ≡ true → part_of k ts ≡ part.Instr (cond (list_all is_register ts) (instr_of k ts) None)
    → list_all is_register ts ≡ true → instr_of k ts ≡ Some i → part_in (Name k ∷ ts) ≡ Some (part.Instr (Some i))
part_read k ts i f e r s =
    (λ j. cond (f j) (Some (part_of k ts)) None) ∙ ap Some (e ∙ (λ j. part.Instr (cond (r j) (s j) None)))

-- what is read of the line of an instruction
instr_read : (i : Instr) → LineFits (instr_line i) → IsSmallLine (instr_line i)
    → part_in (Name (instr_line i).keyword ∷ map read_as (instr_line i).operands) ≡ Some (part.Instr (Some i))
instr_read (Const d z) fits small =
    part_read keyword.Const (map read_as (instr_line (Const d z)).operands) (Const d z) (λ j. constant_form z j && true) refl
    (registers_read (instr_line (Const d z)).operands) (constant_found (reg d) (constant_read z fits.1.0))
  where
    constant_found : {r : TheRegister} {o : Option ℤ} → r ≡ d → o ≡ Some z → constant r o ≡ Some (Const d z)
    constant_found p q = λ j. constant (p j) (q j)
instr_read (Move d a) fits small =
    part_read keyword.Move (map read_as (instr_line (Move d a)).operands) (Move d a) refl refl (registers_read (instr_line (Move d a)).operands)
    (λ j. Some (Move (reg d j) (reg a j)))
instr_read (Add d a b l) fits small =
    part_read keyword.Add (map read_as (instr_line (Add d a b l)).operands) (Add d a b l) refl refl (registers_read (instr_line (Add d a b l)).operands)
    (λ j. Some (Add (reg d j) (reg a j) (reg b j) (num l small.1.1.1.0 j)))
instr_read (Sub d a b l) fits small =
    part_read keyword.Sub (map read_as (instr_line (Sub d a b l)).operands) (Sub d a b l) refl refl (registers_read (instr_line (Sub d a b l)).operands)
    (λ j. Some (Sub (reg d j) (reg a j) (reg b j) (num l small.1.1.1.0 j)))
instr_read (Mul d a b l) fits small =
    part_read keyword.Mul (map read_as (instr_line (Mul d a b l)).operands) (Mul d a b l) refl refl (registers_read (instr_line (Mul d a b l)).operands)
    (λ j. Some (Mul (reg d j) (reg a j) (reg b j) (num l small.1.1.1.0 j)))
instr_read (Div d a b l) fits small =
    part_read keyword.Div (map read_as (instr_line (Div d a b l)).operands) (Div d a b l) refl refl (registers_read (instr_line (Div d a b l)).operands)
    (λ j. Some (Div (reg d j) (reg a j) (reg b j) (num l small.1.1.1.0 j)))
instr_read (Rem d a b l) fits small =
    part_read keyword.Rem (map read_as (instr_line (Rem d a b l)).operands) (Rem d a b l) refl refl (registers_read (instr_line (Rem d a b l)).operands)
    (λ j. Some (Rem (reg d j) (reg a j) (reg b j) (num l small.1.1.1.0 j)))
instr_read (Equal d a b) fits small =
    part_read keyword.Equal (map read_as (instr_line (Equal d a b)).operands) (Equal d a b) refl refl (registers_read (instr_line (Equal d a b)).operands)
    (λ j. Some (Equal (reg d j) (reg a j) (reg b j)))
instr_read (NotEqual d a b) fits small =
    part_read keyword.NotEqual (map read_as (instr_line (NotEqual d a b)).operands) (NotEqual d a b) refl refl
    (registers_read (instr_line (NotEqual d a b)).operands)
    (λ j. Some (NotEqual (reg d j) (reg a j) (reg b j)))
instr_read (Less d a b) fits small =
    part_read keyword.Less (map read_as (instr_line (Less d a b)).operands) (Less d a b) refl refl (registers_read (instr_line (Less d a b)).operands)
    (λ j. Some (Less (reg d j) (reg a j) (reg b j)))
instr_read (AtMost d a b) fits small =
    part_read keyword.AtMost (map read_as (instr_line (AtMost d a b)).operands) (AtMost d a b) refl refl (registers_read (instr_line (AtMost d a b)).operands)
    (λ j. Some (AtMost (reg d j) (reg a j) (reg b j)))
instr_read (Len d a) fits small =
    part_read keyword.Len (map read_as (instr_line (Len d a)).operands) (Len d a) refl refl (registers_read (instr_line (Len d a)).operands)
    (λ j. Some (Len (reg d j) (reg a j)))
instr_read (CutLeft d a b l) fits small =
    part_read keyword.CutLeft (map read_as (instr_line (CutLeft d a b l)).operands) (CutLeft d a b l) refl refl
    (registers_read (instr_line (CutLeft d a b l)).operands)
    (λ j. Some (CutLeft (reg d j) (reg a j) (reg b j) (num l small.1.1.1.0 j)))
instr_read (CutRight d a b l) fits small =
    part_read keyword.CutRight (map read_as (instr_line (CutRight d a b l)).operands) (CutRight d a b l) refl refl
    (registers_read (instr_line (CutRight d a b l)).operands)
    (λ j. Some (CutRight (reg d j) (reg a j) (reg b j) (num l small.1.1.1.0 j)))
instr_read (LoadSlot d s) fits small =
    part_read keyword.LoadSlot (map read_as (instr_line (LoadSlot d s)).operands) (LoadSlot d s) refl refl (registers_read (instr_line (LoadSlot d s)).operands)
    (λ j. Some (LoadSlot (reg d j) (num s small.1.0 j)))
instr_read (StoreCur s a) fits small =
    part_read keyword.StoreCur (map read_as (instr_line (StoreCur s a)).operands) (StoreCur s a) refl refl (registers_read (instr_line (StoreCur s a)).operands)
    (λ j. Some (StoreCur (num s small.0 j) (reg a j)))
instr_read (Give a) fits small =
    part_read keyword.Give (map read_as (instr_line (Give a)).operands) (Give a) refl refl (registers_read (instr_line (Give a)).operands)
    (λ j. Some (Give (reg a j)))
instr_read (Get d a b l) fits small =
    part_read keyword.Get (map read_as (instr_line (Get d a b l)).operands) (Get d a b l) refl refl (registers_read (instr_line (Get d a b l)).operands)
    (λ j. Some (Get (reg d j) (reg a j) (reg b j) (num l small.1.1.1.0 j)))
instr_read (Put a b s l) fits small =
    part_read keyword.Put (map read_as (instr_line (Put a b s l)).operands) (Put a b s l) refl refl (registers_read (instr_line (Put a b s l)).operands)
    (λ j. Some (Put (reg a j) (reg b j) (reg s j) (num l small.1.1.1.0 j)))
instr_read (BranchZero a t) fits small =
    part_read keyword.BranchZero (map read_as (instr_line (BranchZero a t)).operands) (BranchZero a t) refl refl
    (registers_read (instr_line (BranchZero a t)).operands)
    (λ j. Some (BranchZero (reg a j) (num t small.1.0 j)))
instr_read (BranchNonZero a t) fits small =
    part_read keyword.BranchNonZero (map read_as (instr_line (BranchNonZero a t)).operands) (BranchNonZero a t) refl refl
    (registers_read (instr_line (BranchNonZero a t)).operands)
    (λ j. Some (BranchNonZero (reg a j) (num t small.1.0 j)))
instr_read (Room n) fits small =
    part_read keyword.Room (map read_as (instr_line (Room n)).operands) (Room n) refl refl (registers_read (instr_line (Room n)).operands)
    (λ j. Some (Room (num n small.0 j)))
instr_read (StoreNew o a) fits small =
    part_read keyword.StoreNew (map read_as (instr_line (StoreNew o a)).operands) (StoreNew o a) refl refl (registers_read (instr_line (StoreNew o a)).operands)
    (λ j. Some (StoreNew (num o small.0 j) (reg a j)))
instr_read (Ends (Next k)) fits small =
    part_read keyword.Next (map read_as (instr_line (Ends (Next k))).operands) (Ends (Next k)) refl refl refl
    (λ j. Some (Ends (Next (num k small.0 j))))
instr_read (Ends Finish) fits small = refl
instr_read (Ends (Trapping Overflow l)) fits small =
    part_read keyword.Trap (map read_as (instr_line (Ends (Trapping Overflow l))).operands) (Ends (Trapping Overflow l)) refl refl refl
    (λ j. Some (Ends (Trapping Overflow (num l small.1.0 j))))
instr_read (Ends (Trapping DivZero l)) fits small =
    part_read keyword.Trap (map read_as (instr_line (Ends (Trapping DivZero l))).operands) (Ends (Trapping DivZero l)) refl refl refl
    (λ j. Some (Ends (Trapping DivZero (num l small.1.0 j))))
instr_read (Ends (Trapping Index l)) fits small =
    part_read keyword.Trap (map read_as (instr_line (Ends (Trapping Index l))).operands) (Ends (Trapping Index l)) refl refl refl
    (λ j. Some (Ends (Trapping Index (num l small.1.0 j))))
instr_read (Ends (Trapping Split l)) fits small =
    part_read keyword.Trap (map read_as (instr_line (Ends (Trapping Split l))).operands) (Ends (Trapping Split l)) refl refl refl
    (λ j. Some (Ends (Trapping Split (num l small.1.0 j))))
instr_read (Ends (Call q k None)) fits small =
    part_read keyword.Call (map read_as (instr_line (Ends (Call q k None))).operands) (Ends (Call q k None)) refl refl refl
    (λ j. Some (Ends (Call (num q small.0 j) (num k small.1.0 j) None)))
instr_read (Ends (Call q k (Some t))) fits small =
    part_read keyword.CallTo (map read_as (instr_line (Ends (Call q k (Some t)))).operands) (Ends (Call q k (Some t))) refl refl refl
    (λ j. Some (Ends (Call (num q small.0 j) (num k small.1.0 j) (Some (num t small.1.1.0 j)))))
instr_read (Ends (Fork q p k None None)) fits small =
    part_read keyword.Fork (map read_as (instr_line (Ends (Fork q p k None None))).operands) (Ends (Fork q p k None None)) refl refl refl
    (λ j. Some (Ends (Fork (num q small.0 j) (num p small.1.0 j) (num k small.1.1.0 j) None None)))
instr_read (Ends (Fork q p k None (Some u))) fits small =
    part_read keyword.ForkTo (map read_as (instr_line (Ends (Fork q p k None (Some u)))).operands) (Ends (Fork q p k None (Some u))) refl refl refl
    (λ j. Some (Ends (Fork (num q small.0 j) (num p small.1.0 j) (num k small.1.1.0 j) None (Some (num u small.1.1.1.1.0 j)))))
instr_read (Ends (Fork q p k (Some t) None)) fits small =
    part_read keyword.ForkTo (map read_as (instr_line (Ends (Fork q p k (Some t) None))).operands) (Ends (Fork q p k (Some t) None)) refl refl refl
    (λ j. Some (Ends (Fork (num q small.0 j) (num p small.1.0 j) (num k small.1.1.0 j) (Some (num t small.1.1.1.0 j)) None)))
instr_read (Ends (Fork q p k (Some t) (Some u))) fits small =
    part_read keyword.ForkTo (map read_as (instr_line (Ends (Fork q p k (Some t) (Some u)))).operands) (Ends (Fork q p k (Some t) (Some u))) refl refl refl
    (λ j. Some (Ends (Fork (num q small.0 j) (num p small.1.0 j) (num k small.1.1.0 j) (Some (num t small.1.1.1.0 j)) (Some (num u small.1.1.1.1.0 j)))))

numbers_are : (ns : List ℕ) → list_all is_number (map read_as (map number ns)) ≡ true
numbers_are [] = refl
numbers_are (n ∷ ns) = numbers_are ns

numbers_read : (ns : List ℕ) → AllByRecursion IsSmall (map number ns) → map number_of (map read_as (map number ns)) ≡ ns
numbers_read [] h = refl
numbers_read (n ∷ ns) h = λ i. num n h.0 i ∷ numbers_read ns h.1 i

-- what is read of the line of a part
part_of_line : (x : Part) → IsWholePart x → LineFits (part_line x) → IsSmallLine (part_line x)
    → part_in (Name (part_line x).keyword ∷ map read_as (part_line x).operands) ≡ Some x
part_of_line part.Version w fits small = refl
part_of_line (part.Root q ns) w fits small =
    (λ i. cond (numbers_are ns i) (Some (part.Root (num q small.0 i) (numbers_read ns small.1 i))) None)
part_of_line (part.Procedure n s k) w fits small =
    λ i. Some (part.Procedure (num n small.0 i) (num s small.1.1.0 i) (num k small.1.1.1.1.0 i))
part_of_line (part.Capsule c p) w fits small = λ i. Some (part.Capsule (num c small.0 i) (num p small.1.1.0 i))
part_of_line (part.Instr None) w fits small = absurd w
part_of_line (part.Instr (Some i)) w fits small = instr_read i fits small

parts_read : (xs : List Part) → AllByRecursion IsWholePart xs → AllByRecursion LineFits (map part_line xs) → AllByRecursion IsSmallLine (map part_line xs)
    → map (λ l. line_of (bytes_of l)) (map part_line xs) ≡ map Some xs
parts_read [] w f s = refl
parts_read (x ∷ xs) w f s =
    λ i. (ap part_in (tokens_read (part_line x) f.0) ∙ part_of_line x w.0 f.0 s.0) i ∷ parts_read xs w.1 f.1 s.1 i

-- the lines of a text of parts are the parts
pub lines_of-text : (xs : List Part) → AllByRecursion IsWholePart xs → AllByRecursion LineFits (map part_line xs)
    → AllByRecursion IsSmallLine (map part_line xs)
    → lines_of (text_of (map part_line xs)) ≡ map Some xs
lines_of-text xs w f s = ap lines_in (split_lines (map part_line xs) f) ∙ lines_in-bytes (map part_line xs) ∙ parts_read xs w f s
