-- How long the listing of a code may be, and that it has no fault.
use Rattle.std.proofs.Common.{◌≡◌, ◌∙◌, ℕ, suc, ◌+◌, ◌*◌, ◌^◌, ◌<◌, ◌≤◌, List, [], ◌∷◌, ◌++◌, map, length, Some, None, refl, sym, ap, subst, arith}
use Rattle.std.proofs.Common.{length-append}
use Rattle.std.specs.Prelude.{slice_get}
use Rattle.std.specs.List.{flat_map, All, AllByRecursion}
use Rattle.std.proofs.lemmas.Fmt.{length-decimal-le, length_signed_le}
use Rattle.ppm_code.specs.declared.register.Register.{Register as TheRegister}
use Rattle.ppm_code.specs.declared.act.End.TheVariants.{Next, Finish, Trap, Call, Fork}
use Rattle.ppm_code.specs.declared.code.Capsule.{Capsule}
use Rattle.ppm_code.specs.declared.code.Procedure.{Procedure}
use Rattle.ppm_code.specs.declared.code.CodeParts.{CodeParts}
use Rattle.ppm_code.specs.declared.instr.Instr.{Instr}
use Rattle.ppm_code.specs.declared.instr.Instr.TheVariants.{Const, Move, Add, Sub, Mul, Div, Rem, Equal, NotEqual, Less, AtMost, Len, CutLeft, CutRight}
use Rattle.ppm_code.specs.declared.instr.Instr.TheVariants.{LoadSlot, StoreCur, Give, Get, Put, BranchZero, BranchNonZero, Room, StoreNew, Ends}
use Rattle.ppm_code.specs.Code.{Fits, IsCapsule, IsCode}
use Rattle.ppm_listing.specs.declared.keyword.Keyword.{Keyword}
use Rattle.ppm_listing.specs.declared.keyword.Keyword.TheVariants as keyword
use Rattle.ppm_listing.specs.declared.token.Token.{Token as Written}
use Rattle.ppm_listing.specs.declared.token.Token.TheVariants as written
use Rattle.ppm_listing.specs.Tokens.{line, keyword_text, token_text, operand_text, line_text}
use Rattle.ppm_listing.specs.Listing.{number, trap_number, instr_line, text_of, listing_of}
use Rattle.ppm_listing.specs.Correct.{LineFits, NumbersFit}
use Rattle.ppm_listing_reader.specs.declared.listing_error.Fault.{Fault}
use Rattle.ppm_listing_reader.specs.declared.part.Part.{Part}
use Rattle.ppm_listing_reader.specs.declared.part.Part.TheVariants as part
use Rattle.ppm_listing_reader.specs.declared.place.Place.TheVariants.{AtVersion}
use Rattle.ppm_listing_reader.specs.Forms.{lines_of as lines_of_text}
use Rattle.ppm_listing_reader.specs.Places.{standing_from, code_in}
use Rattle.ppm_listing_reader.specs.Faults.{KeepsRules}
use Rattle.ppm_listing_reader.specs.Correct.{standing_of, HasFault, Breaks, TooLong, IsListing}
use Rattle.ppm_listing_reader.proofs.FormLemmas.{IsBelow, IsLineBelow, IsSmallLine, small_limit, part_line}
use Rattle.ppm_listing_reader.proofs.SmallLemmas.{slots_bound, lines_small}
use Rattle.ppm_listing_reader.proofs.WrittenLemmas.{lines_of-text}
use Rattle.ppm_listing_reader.proofs.PartsLemmas.{procedure_parts, instr_parts, capsule_parts, parts_of, parts_lines, parts_whole, parts_declare}
use Rattle.ppm_listing_reader.proofs.PartsLemmas.{parts_clean, clean_stands, clean_keeps}

-- numbers of seven digits
abbrev short_limit : ℕ
short_limit = 10 ^ 7

abbrev IsShort : Written → Type 0
IsShort w = length (token_text w) ≤ 7

register_short : (r : TheRegister) → IsShort (written.Register r)
register_short r = omega (arith, length-decimal-le 2 r.index (omega arith) (omega (arith, r.in_range)) (omega (arith, r.in_range)))

number_short : (n : ℕ) → n < short_limit → IsShort (number n)
number_short n h = length-decimal-le 7 n (omega arith) (omega (arith, h)) (omega (arith, h))

refl_short : IsShort written.Absent
refl_short = omega arith

keyword_short : (k : Keyword) → length (keyword_text k) ≤ 8
keyword_short keyword.Ppm = omega arith
keyword_short keyword.Root = omega arith
keyword_short keyword.Proc = omega arith
keyword_short keyword.Slots = omega arith
keyword_short keyword.Entry = omega arith
keyword_short keyword.Capsule = omega arith
keyword_short keyword.Const = omega arith
keyword_short keyword.Move = omega arith
keyword_short keyword.Add = omega arith
keyword_short keyword.Sub = omega arith
keyword_short keyword.Mul = omega arith
keyword_short keyword.Div = omega arith
keyword_short keyword.Rem = omega arith
keyword_short keyword.Equal = omega arith
keyword_short keyword.NotEqual = omega arith
keyword_short keyword.Less = omega arith
keyword_short keyword.AtMost = omega arith
keyword_short keyword.Len = omega arith
keyword_short keyword.CutLeft = omega arith
keyword_short keyword.CutRight = omega arith
keyword_short keyword.LoadSlot = omega arith
keyword_short keyword.StoreCur = omega arith
keyword_short keyword.Give = omega arith
keyword_short keyword.Get = omega arith
keyword_short keyword.Put = omega arith
keyword_short keyword.BranchZero = omega arith
keyword_short keyword.BranchNonZero = omega arith
keyword_short keyword.Room = omega arith
keyword_short keyword.StoreNew = omega arith
keyword_short keyword.Next = omega arith
keyword_short keyword.End = omega arith
keyword_short keyword.Trap = omega arith
keyword_short keyword.Call = omega arith
keyword_short keyword.CallTo = omega arith
keyword_short keyword.Fork = omega arith
keyword_short keyword.ForkTo = omega arith

operands_short : (ws : List Written) → AllByRecursion IsShort ws → length (flat_map operand_text ws) ≤ 8 * length ws
operands_short [] h = omega arith
operands_short (w ∷ ws) h = omega (arith, h.0, operands_short ws h.1, length-append (operand_text w) (flat_map operand_text ws))

line_short : (k : Keyword) (ws : List Written) (n : ℕ) → AllByRecursion IsShort ws → length ws ≤ n → length (line_text (line k ws)) ≤ 9 + 8 * n
line_short k ws n h few =
    omega (
      arith,
      keyword_short k,
      operands_short ws h,
      few,
      length-append (keyword_text k) (flat_map operand_text ws),
      length-append (keyword_text k ++ flat_map operand_text ws) (10 ∷ []),
    )

constant_short : (r : TheRegister) (w : Written) → length (token_text w) ≤ 20 → length (line_text (line keyword.Const (written.Register r ∷ w ∷ []))) ≤ 41
constant_short r w h =
    omega (
      arith,
      h,
      register_short r,
      keyword_short keyword.Const,
      length-append (keyword_text keyword.Const) (flat_map operand_text (written.Register r ∷ w ∷ [])),
      length-append (keyword_text keyword.Const ++ flat_map operand_text (written.Register r ∷ w ∷ [])) (10 ∷ []),
      length-append (operand_text (written.Register r)) (flat_map operand_text (w ∷ [])),
      length-append (operand_text w) [],
    )

-- a line with five operands
five_short : (k : Keyword) (a b d e f : Written)
    → length (keyword_text k) + length (token_text a) + length (token_text b) + length (token_text d) + length (token_text e) + length (token_text f) ≤ 35
    → length (line_text (line k (a ∷ b ∷ d ∷ e ∷ f ∷ []))) ≤ 41
five_short k a b d e f few =
    omega (
      arith,
      few,
      length-append (keyword_text k) (flat_map operand_text (a ∷ b ∷ d ∷ e ∷ f ∷ [])),
      length-append (keyword_text k ++ flat_map operand_text (a ∷ b ∷ d ∷ e ∷ f ∷ [])) (10 ∷ []),
      length-append (operand_text a) (flat_map operand_text (b ∷ d ∷ e ∷ f ∷ [])),
      length-append (operand_text b) (flat_map operand_text (d ∷ e ∷ f ∷ [])),
      length-append (operand_text d) (flat_map operand_text (e ∷ f ∷ [])),
      length-append (operand_text e) (flat_map operand_text (f ∷ [])),
      length-append (operand_text f) [],
    )

-- a fork names procedures and a capsule by numbers of five digits
abbrev IsFewFork : Instr → Type 0
IsFewFork (Ends (Fork q p k left_to to)) = (q < 10 ^ 5) × (p < 10 ^ 5) × (k < 10 ^ 5)
IsFewFork _ = Unit {0}

number_few : (n : ℕ) → n < 10 ^ 5 → length (token_text (number n)) ≤ 5
number_few n h = length-decimal-le 5 n (omega arith) (omega (arith, h)) (omega (arith, h))

instr_short : (i : Instr) → LineFits (instr_line i) → IsLineBelow short_limit (instr_line i) → IsFewFork i → length (line_text (instr_line i)) ≤ 41
instr_short (Const d z) fits small few = constant_short d (written.Number z) (length_signed_le 19 z (omega (arith, fits.1.0.sfits)) (fits.1.0.sfits))
instr_short (Move d a) fits small few = line_short keyword.Move (instr_line (Move d a)).operands 4 (register_short d, (register_short a, tt)) (omega arith)
instr_short (Add d a b l) fits small few = line_short keyword.Add (instr_line (Add d a b l)).operands 4
    (register_short d, (register_short a, (register_short b, (number_short l (small.1.1.1.0), tt)))) (omega arith)
instr_short (Sub d a b l) fits small few = line_short keyword.Sub (instr_line (Sub d a b l)).operands 4
    (register_short d, (register_short a, (register_short b, (number_short l (small.1.1.1.0), tt)))) (omega arith)
instr_short (Mul d a b l) fits small few = line_short keyword.Mul (instr_line (Mul d a b l)).operands 4
    (register_short d, (register_short a, (register_short b, (number_short l (small.1.1.1.0), tt)))) (omega arith)
instr_short (Div d a b l) fits small few = line_short keyword.Div (instr_line (Div d a b l)).operands 4
    (register_short d, (register_short a, (register_short b, (number_short l (small.1.1.1.0), tt)))) (omega arith)
instr_short (Rem d a b l) fits small few = line_short keyword.Rem (instr_line (Rem d a b l)).operands 4
    (register_short d, (register_short a, (register_short b, (number_short l (small.1.1.1.0), tt)))) (omega arith)
instr_short (Equal d a b) fits small few = line_short keyword.Equal (instr_line (Equal d a b)).operands 4
    (register_short d, (register_short a, (register_short b, tt))) (omega arith)
instr_short (NotEqual d a b) fits small few = line_short keyword.NotEqual (instr_line (NotEqual d a b)).operands 4
    (register_short d, (register_short a, (register_short b, tt))) (omega arith)
instr_short (Less d a b) fits small few = line_short keyword.Less (instr_line (Less d a b)).operands 4
    (register_short d, (register_short a, (register_short b, tt))) (omega arith)
instr_short (AtMost d a b) fits small few = line_short keyword.AtMost (instr_line (AtMost d a b)).operands 4
    (register_short d, (register_short a, (register_short b, tt))) (omega arith)
instr_short (Len d a) fits small few = line_short keyword.Len (instr_line (Len d a)).operands 4 (register_short d, (register_short a, tt)) (omega arith)
instr_short (CutLeft d a b l) fits small few = line_short keyword.CutLeft (instr_line (CutLeft d a b l)).operands 4
    (register_short d, (register_short a, (register_short b, (number_short l (small.1.1.1.0), tt)))) (omega arith)
instr_short (CutRight d a b l) fits small few = line_short keyword.CutRight (instr_line (CutRight d a b l)).operands 4
    (register_short d, (register_short a, (register_short b, (number_short l (small.1.1.1.0), tt)))) (omega arith)
instr_short (LoadSlot d s) fits small few = line_short keyword.LoadSlot (instr_line (LoadSlot d s)).operands 4
    (register_short d, (number_short s (small.1.0), tt)) (omega arith)
instr_short (StoreCur s a) fits small few = line_short keyword.StoreCur (instr_line (StoreCur s a)).operands 4
    (number_short s (small.0), (register_short a, tt)) (omega arith)
instr_short (Give a) fits small few = line_short keyword.Give (instr_line (Give a)).operands 4 (register_short a, tt) (omega arith)
instr_short (Get d a b l) fits small few = line_short keyword.Get (instr_line (Get d a b l)).operands 4
    (register_short d, (register_short a, (register_short b, (number_short l (small.1.1.1.0), tt)))) (omega arith)
instr_short (Put a b s l) fits small few = line_short keyword.Put (instr_line (Put a b s l)).operands 4
    (register_short a, (register_short b, (register_short s, (number_short l (small.1.1.1.0), tt)))) (omega arith)
instr_short (BranchZero a t) fits small few = line_short keyword.BranchZero (instr_line (BranchZero a t)).operands 4
    (register_short a, (number_short t (small.1.0), tt)) (omega arith)
instr_short (BranchNonZero a t) fits small few = line_short keyword.BranchNonZero (instr_line (BranchNonZero a t)).operands 4
    (register_short a, (number_short t (small.1.0), tt)) (omega arith)
instr_short (Room n) fits small few = line_short keyword.Room (instr_line (Room n)).operands 4 (number_short n (small.0), tt) (omega arith)
instr_short (StoreNew o a) fits small few = line_short keyword.StoreNew (instr_line (StoreNew o a)).operands 4
    (number_short o (small.0), (register_short a, tt)) (omega arith)
instr_short (Ends (Next k)) fits small few =
    line_short keyword.Next (instr_line (Ends (Next k))).operands 4 (number_short k (small.0), tt) (omega arith)
instr_short (Ends Finish) fits small few = line_short keyword.End [] 4 tt (omega arith)
instr_short (Ends (Trap x l)) fits small few =
    line_short keyword.Trap (instr_line (Ends (Trap x l))).operands 4 (number_short (trap_number x) (small.0), (number_short l (small.1.0), tt)) (omega arith)
instr_short (Ends (Call q k None)) fits small few =
    line_short keyword.Call (instr_line (Ends (Call q k None))).operands 4 (number_short q (small.0), (number_short k (small.1.0), tt)) (omega arith)
instr_short (Ends (Call q k (Some t))) fits small few =
    line_short keyword.CallTo (instr_line (Ends (Call q k (Some t)))).operands 4 (
      number_short q (small.0),
      (number_short k (small.1.0), (number_short t (small.1.1.0), tt)),
    ) (omega arith)
instr_short (Ends (Fork q p k None None)) fits small few =
    line_short keyword.Fork (instr_line (Ends (Fork q p k None None))).operands 4
    (number_short q (small.0), (number_short p (small.1.0), (number_short k (small.1.1.0), tt))) (omega arith)
instr_short (Ends (Fork q p k None (Some u))) fits small few =
    five_short keyword.ForkTo (number q) (number p) (number k) written.Absent (number u)
    (omega (arith, number_few q few.0, number_few p few.1, number_few k few.2, refl_short, number_short u (small.1.1.1.1.0)))
instr_short (Ends (Fork q p k (Some t) None)) fits small few =
    five_short keyword.ForkTo (number q) (number p) (number k) (number t) written.Absent
    (omega (arith, number_few q few.0, number_few p few.1, number_few k few.2, refl_short, number_short t (small.1.1.1.0)))
instr_short (Ends (Fork q p k (Some t) (Some u))) fits small few =
    five_short keyword.ForkTo (number q) (number p) (number k) (number t) (number u)
    (omega (arith, number_few q few.0, number_few p few.1, number_few k few.2, number_short t (small.1.1.1.0), number_short u (small.1.1.1.1.0)))

-- what fits its code does so
few_fork : (code : CodeParts) → IsCode code → (procedure : ℕ) (is : List Instr) (at : ℕ) (i : Instr) → Fits code procedure is at i → IsFewFork i
few_fork code is_code procedure is at (Const d n) h = tt
few_fork code is_code procedure is at (Move d a) h = tt
few_fork code is_code procedure is at (Add d a b l) h = tt
few_fork code is_code procedure is at (Sub d a b l) h = tt
few_fork code is_code procedure is at (Mul d a b l) h = tt
few_fork code is_code procedure is at (Div d a b l) h = tt
few_fork code is_code procedure is at (Rem d a b l) h = tt
few_fork code is_code procedure is at (Equal d a b) h = tt
few_fork code is_code procedure is at (NotEqual d a b) h = tt
few_fork code is_code procedure is at (Less d a b) h = tt
few_fork code is_code procedure is at (AtMost d a b) h = tt
few_fork code is_code procedure is at (Len d a) h = tt
few_fork code is_code procedure is at (CutLeft d a b l) h = tt
few_fork code is_code procedure is at (CutRight d a b l) h = tt
few_fork code is_code procedure is at (LoadSlot d s) h = tt
few_fork code is_code procedure is at (StoreCur s a) h = tt
few_fork code is_code procedure is at (Give a) h = tt
few_fork code is_code procedure is at (Get d a b l) h = tt
few_fork code is_code procedure is at (Put a b s l) h = tt
few_fork code is_code procedure is at (BranchZero a t) h = tt
few_fork code is_code procedure is at (BranchNonZero a t) h = tt
few_fork code is_code procedure is at (Room n) h = tt
few_fork code is_code procedure is at (StoreNew o a) h = tt
few_fork code is_code procedure is at (Ends (Next k)) h = tt
few_fork code is_code procedure is at (Ends Finish) h = tt
few_fork code is_code procedure is at (Ends (Trap x l)) h = tt
few_fork code is_code procedure is at (Ends (Call q k to)) h = tt
few_fork code is_code procedure is at (Ends (Fork q p k left_to to)) h =
    let procedures = is_code.procedures_most in
    let capsules = is_code.capsules_most in
    let left = h.0 in
    let right = h.1 in
    let next = h.2.1 in
    (omega (arith, procedures, left), omega (arith, procedures, right), omega (arith, capsules, next))

by_places : (P : Instr → Type 0) (is : List Instr) → ((at : ℕ) (i : Instr) → slice_get is at ≡ Some i → P i) → AllByRecursion P is
by_places P [] each = tt
by_places P (i ∷ is) each = (each 0 i refl, by_places P is (λ at j e. each (suc at) j e))

few_forks : (code : CodeParts) → IsCode code → (c : Capsule) → IsCapsule code c → AllByRecursion IsFewFork c.instrs
few_forks code is_code c h = by_places IsFewFork c.instrs (λ at i e. few_fork code is_code c.procedure c.instrs at i (h.each at i e))

-- a part that is not the root's
abbrev IsOther : Part → Type 0
IsOther (part.Root q xs) = ⊥
IsOther (part.Instr None) = ⊥
IsOther (part.Instr (Some i)) = IsFewFork i
IsOther _ = Unit {0}

part_short : (x : Part) → IsOther x → LineFits (part_line x) → IsLineBelow short_limit (part_line x) → length (line_text (part_line x)) ≤ 41
part_short part.Version o fits small = line_short keyword.Ppm (part_line part.Version).operands 4 (number_short 1 (omega arith), tt) (omega arith)
part_short (part.Root q xs) o fits small = absurd o
part_short (part.Procedure n s k) o fits small =
    five_short keyword.Proc (number n) (written.Name keyword.Slots) (number s) (written.Name keyword.Entry) (number k)
    (omega (arith, number_short n small.0, number_short s small.1.1.0, number_short k small.1.1.1.1.0))
part_short (part.Capsule c p) o fits small =
    line_short keyword.Capsule (part_line (part.Capsule c p)).operands 4 (number_short c small.0, (omega arith, (number_short p small.1.1.0, tt))) (omega arith)
part_short (part.Instr None) o fits small = absurd o
part_short (part.Instr (Some i)) o fits small = instr_short i fits small o

text_short : (xs : List Part) → AllByRecursion IsOther xs → AllByRecursion LineFits (map part_line xs)
    → AllByRecursion (IsLineBelow short_limit) (map part_line xs)
    → length (text_of (map part_line xs)) ≤ 41 * length xs
text_short [] o f s = omega arith
text_short (x ∷ xs) o f s =
    omega (arith, part_short x o.0 f.0 s.0, text_short xs o.1 f.1 s.1, length-append (line_text (part_line x)) (text_of (map part_line xs)))

other_instrs : (is : List Instr) (rest : List Part) → AllByRecursion IsFewFork is → AllByRecursion IsOther rest
    → AllByRecursion IsOther (instr_parts is rest)
other_instrs [] rest few h = h
other_instrs (i ∷ is) rest few h = (few.0, other_instrs is rest few.1 h)

other_capsules : (code : CodeParts) → IsCode code → (first : ℕ) (cs : List Capsule) → AllByRecursion (IsCapsule code) cs
    → AllByRecursion IsOther (capsule_parts first cs)
other_capsules code is_code first [] all = tt
other_capsules code is_code first (c ∷ cs) all = (
  tt,
  other_instrs c.instrs (capsule_parts (first + 1) cs) (few_forks code is_code c all.0) (other_capsules code is_code (first + 1) cs all.1),
)

other_procedures : (first : ℕ) (ps : List Procedure) (rest : List Part) → AllByRecursion IsOther rest → AllByRecursion IsOther (procedure_parts first ps rest)
other_procedures first [] rest h = h
other_procedures first (p ∷ ps) rest h = (tt, other_procedures (first + 1) ps rest h)

-- how many parts there are
count_instrs : (is : List Instr) (rest : List Part) → length (instr_parts is rest) ≡ length is + length rest
count_instrs [] rest = omega arith
count_instrs (i ∷ is) rest = omega (arith, count_instrs is rest)

count_capsules : (code : CodeParts) (first : ℕ) (cs : List Capsule) → AllByRecursion (IsCapsule code) cs → length (capsule_parts first cs) ≤ 161 * length cs
count_capsules code first [] h = omega arith
count_capsules code first (c ∷ cs) h =
    omega (arith, h.0.most, count_instrs c.instrs (capsule_parts (first + 1) cs), count_capsules code (first + 1) cs h.1)

count_procedures : (first : ℕ) (ps : List Procedure) (rest : List Part) → length (procedure_parts first ps rest) ≡ length ps + length rest
count_procedures first [] rest = omega arith
count_procedures first (p ∷ ps) rest = omega (arith, count_procedures (first + 1) ps rest)

numbers_short : (ns : List ℕ) → AllByRecursion (IsBelow short_limit) (map number ns) → AllByRecursion IsShort (map number ns)
numbers_short [] h = tt
numbers_short (n ∷ ns) h = (number_short n h.0, numbers_short ns h.1)

count_numbers : (ns : List ℕ) → length (map number ns) ≡ length ns
count_numbers [] = refl
count_numbers (n ∷ ns) = omega (arith, count_numbers ns)

by_all : {X : Type 0} (P : X → Type 0) (xs : List X) → All P xs → AllByRecursion P xs
by_all P [] h = tt
by_all P (x ∷ xs) h = (h 0 x (omega arith), by_all P xs (λ k d l. h (suc k) d (omega (arith, l))))

-- no listing has more bytes than these, so it is not too long
abbrev pub longest_listing : ℕ
longest_listing = 433000000

pub listing_short : (c : CodeParts) → IsCode c → NumbersFit c → length (listing_of c) ≤ longest_listing
listing_short c is fits =
    let rest = procedure_parts 0 c.procedures (capsule_parts 0 c.capsules) in
    let below = subst (AllByRecursion (IsLineBelow short_limit)) (sym (parts_lines c)) (lines_small c is short_limit (omega arith)) in
    let all_fit = subst (AllByRecursion LineFits) (sym (parts_lines c)) fits in
    let others = other_procedures 0 c.procedures (capsule_parts 0 c.capsules) (other_capsules c is 0 c.capsules (by_all (IsCapsule c) c.capsules is.capsules)) in
    let first = part_short part.Version tt all_fit.0 below.0 in
    let root = line_short keyword.Root (part_line (part.Root c.root c.arrays)).operands 26 (numbers_short (c.root ∷ c.arrays) below.1.0)
    (omega (arith, count_numbers c.arrays, is.root_slots, slots_bound c is short_limit (omega arith) c.root)) in
    let body = text_short rest others all_fit.1.1 below.1.1 in
    let count = count_procedures 0 c.procedures (capsule_parts 0 c.capsules) in
    let capsules = count_capsules c 0 c.capsules (by_all (IsCapsule c) c.capsules is.capsules) in
    let long : length (text_of (map part_line (parts_of c))) ≤ longest_listing =
    omega (
      arith,
      first,
      root,
      body,
      count,
      capsules,
      is.procedures_most,
      is.capsules_most,
      length-append (line_text (part_line part.Version)) (text_of (map part_line (part.Root c.root c.arrays ∷ rest))),
      length-append (line_text (part_line (part.Root c.root c.arrays))) (text_of (map part_line rest)),
    ) in
    subst (λ ls. length (text_of ls) ≤ longest_listing) (parts_lines c) long

-- a listing has no fault
pub excludes : (text : List ℕ) (code : CodeParts) (rule : Fault) (line : ℕ) → IsListing text code → HasFault text rule line → ⊥
excludes text c rule line is fault =
    let small = subst (AllByRecursion IsSmallLine) (sym (parts_lines c)) (lines_small c is.code small_limit (omega arith)) in
    let fits = subst (AllByRecursion LineFits) (sym (parts_lines c)) is.fits in
    let text_is : text ≡ text_of (map part_line (parts_of c)) = is.same ∙ ap text_of (sym (parts_lines c)) in
    let read : lines_of_text text ≡ map Some (parts_of c) = ap lines_of_text text_is ∙ lines_of-text (parts_of c) (parts_whole c) fits small in
    let clean = parts_clean c is.code in
    let stands : standing_of text ≡ map Some (parts_of c) = ap (standing_from AtVersion) read ∙ clean_stands c AtVersion (parts_of c) clean in
    let code : code_in (standing_of text) ≡ c = ap code_in stands ∙ parts_declare c in
    let kept : KeepsRules (code_in (standing_of text)) AtVersion (standing_of text) =
    subst (λ d. KeepsRules d AtVersion (standing_of text)) (sym code) (subst (KeepsRules c AtVersion) (sym stands)
    (clean_keeps c AtVersion (parts_of c) clean)) in
    none kept rule line fault
  where
    none : (kept : KeepsRules (code_in (standing_of text)) AtVersion (standing_of text)) (rule : Fault) (line : ℕ) → HasFault text rule line → ⊥
    none kept rule _ (Breaks _ number h) = kept rule number h
    none kept _ _ (TooLong long) = omega (arith, long, ap length is.same, listing_short c is.code is.fits)
