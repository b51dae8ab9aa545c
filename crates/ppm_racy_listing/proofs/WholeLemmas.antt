-- A text is the listing of the code with exchanges, line by line.
use Rattle.std.proofs.Common.{◌≡◌, ◌∙◌, ℕ, zero, suc, ◌+◌, false, List, [], ◌∷◌, ◌++◌, map, Option, Some, None}
use Rattle.std.proofs.Common.{length, get_or, drop, refl, sym, ap, subst, arith, append_assoc}
use Rattle.std.specs.List.{flat_map, AllByRecursion}
use Rattle.std.proofs.lemmas.Bool.{both_ways}
use Rattle.ppm_code.specs.declared.act.End.{End}
use Rattle.ppm_code.specs.declared.act.End.TheVariants.{Next, Finish, Trap, Call, Fork}
use Rattle.ppm_code.specs.declared.code.Capsule.{Capsule}
use Rattle.ppm_code.specs.declared.code.Procedure.{Procedure}
use Rattle.ppm_code.specs.declared.code.CodeParts.{CodeParts}
use Rattle.ppm_code.specs.declared.instr.Instr.{Instr}
use Rattle.ppm_code.specs.declared.instr.Instr.TheVariants.{Const, Move, Add, Sub, Mul, Div, Rem, Equal, NotEqual, Less, AtMost, Len, CutLeft, CutRight}
use Rattle.ppm_code.specs.declared.instr.Instr.TheVariants.{LoadSlot, StoreCur, Give, Get, Put, BranchZero, BranchNonZero, Room, StoreNew, Ends}
use Rattle.ppm_pieces.specs.Pieces.{split}
use Rattle.ppm_listing.specs.declared.keyword.Keyword.TheVariants as keyword
use Rattle.ppm_listing.specs.Tokens.{Line, line, line_text}
use Rattle.ppm_listing.specs.Listing.{number, instr_line, end_line, capsule_line, capsule_lines, procedure_line, procedure_lines, root_line, lines_of, listing_of, text_of}
use Rattle.ppm_listing.specs.Correct.{LineFits, NumbersFit}
use Rattle.ppm_listing_reader.proofs.WrittenLemmas.{bytes_of, split_lines}
use Rattle.ppm_racy_listing.specs.Exchanges.{exchanged, exchanged_instrs, exchanged_capsules, exchanged_code}
use Rattle.ppm_racy_listing.specs.Listing.{instr_text, capsules_text, racy_listing_of}
use Rattle.ppm_racy_listing.specs.Plain.{CamLine, cam_line, put_or, plain_line, old_in, joined, plain_of_text, olds_of}
use Rattle.ppm_racy_listing.proofs.SplitLemmas.{joined_lines, joined-split}
use Rattle.ppm_racy_listing.proofs.LineLemmas.{IsRegister, is_put, line_with, IsOldOf, line_told, plain_pieces}

-- lines with old registers
abbrev pub text_by : List (Option ℕ) → List Line → List ℕ
text_by [] ls = text_of ls
text_by (o ∷ os) [] = []
text_by (o ∷ os) (l ∷ ls) = line_with l o ++ text_by os ls

abbrev pub Agree : List (Option ℕ) → List Line → Type 0
Agree [] ls = Unit {0}
Agree (o ∷ os) [] = Unit {0}
Agree (o ∷ os) (l ∷ ls) = IsOldOf l o × Agree os ls

-- where a put stands for nothing there is nothing
nothing : (p : List ℕ) → plain_line p ≡ [] → p ≡ []
nothing p e = go (cam_line p) refl e
  where
    go : (found : Option CamLine) → cam_line p ≡ found → put_or p found ≡ [] → p ≡ []
    go None h e = e
    go (Some cam) h e = absurd (omega (arith, ap length e))

no_more : (ls : List Line) → [] ≡ map bytes_of ls ++ [] ∷ [] → ⊥
no_more [] e = omega (arith, ap length e)
no_more (l ∷ ls) e = omega (arith, ap length e)

abbrev head_of : List (List ℕ) → List ℕ
head_of [] = []
head_of (p ∷ ps) = p

-- lines with puts tell the lines
pub text_told : (ps : List (List ℕ)) (ls : List Line) → map plain_line ps ≡ map bytes_of ls ++ [] ∷ [] → AllByRecursion LineFits ls
    → AllByRecursion IsRegister (map old_in ps) → (joined ps ≡ text_by (map old_in ps) ls) × Agree (map old_in ps) ls
text_told [] ls e fits small = absurd (no_more ls e)
text_told (p ∷ []) [] e fits small = (nothing p (ap head_of e), tt)
text_told (p ∷ []) (l ∷ ls) e fits small = absurd (no_more ls (ap (drop 1) e))
text_told (p ∷ q ∷ ps) [] e fits small = absurd (omega (arith, ap length e))
text_told (p ∷ q ∷ ps) (l ∷ ls) e fits small =
    let (text, old) = line_told p l (ap head_of e) fits.0 small.0 in
    let (rest, olds) = text_told (q ∷ ps) ls (ap (drop 1) e) fits.1 small.1 in
    (sym (append_assoc p (10 ∷ []) (joined (q ∷ ps))) ∙ (λ i. text i ++ rest i), (old, olds))

-- the line at a place, and those after it
step : (n : ℕ) (os : List (Option ℕ)) (l : Line) (ls : List Line)
    → text_by (drop n os) (l ∷ ls) ≡ line_with l (get_or os n None) ++ text_by (drop (n + 1) os) ls
step zero [] l ls = refl
step (suc n) [] l ls =
    let next : suc (n + 1) ≡ suc n + 1 = omega arith in
    ap (λ k. line_text l ++ text_by (drop k []) ls) next
step zero (o ∷ os) l ls = refl
step (suc n) (o ∷ os) l ls =
    let next : suc (n + 1) ≡ suc n + 1 = omega arith in
    step n os l ls ∙ ap (λ k. line_with l (get_or os n None) ++ text_by (drop k (o ∷ os)) ls) next

agree_step : (n : ℕ) (os : List (Option ℕ)) (l : Line) (ls : List Line) → Agree (drop n os) (l ∷ ls)
    → IsOldOf l (get_or os n None) × Agree (drop (n + 1) os) ls
agree_step zero [] l ls a = (tt, tt)
agree_step (suc n) [] l ls a =
    let next : suc (n + 1) ≡ suc n + 1 = omega arith in
    (tt, subst (λ k. Agree (drop k []) ls) next tt)
agree_step zero (o ∷ os) l ls a = a
agree_step (suc n) (o ∷ os) l ls a =
    let next : suc (n + 1) ≡ suc n + 1 = omega arith in
    let both = agree_step n os l ls a in
    (both.0, subst (λ k. Agree (drop k (o ∷ os)) ls) next both.1)

-- a line that is no put says no register
pub plain_with : (l : Line) (o : Option ℕ) → is_put l.keyword ≡ false → IsOldOf l o → line_with l o ≡ line_text l
plain_with l None h a = refl
plain_with l (Some old) h a = absurd (both_ways (is_put l.keyword) h a.0)

-- an instruction's line
no_end : (e : End) → is_put (end_line e).keyword ≡ false
no_end (Next k) = refl
no_end Finish = refl
no_end (Trap x l) = refl
no_end (Call q k None) = refl
no_end (Call q k (Some s)) = refl
no_end (Fork q p k None None) = refl
no_end (Fork q p k None (Some s)) = refl
no_end (Fork q p k (Some s) t) = refl

instr_with : (i : Instr) (o : Option ℕ) → IsOldOf (instr_line i) o → instr_text (exchanged i o) ≡ line_with (instr_line i) o
instr_with (Put a b s n) None h = refl
instr_with (Put a b s n) (Some old) h = refl
instr_with (Const d v) o h = sym (plain_with (instr_line (Const d v)) o refl h)
instr_with (Move d a) o h = sym (plain_with (instr_line (Move d a)) o refl h)
instr_with (Add d a b n) o h = sym (plain_with (instr_line (Add d a b n)) o refl h)
instr_with (Sub d a b n) o h = sym (plain_with (instr_line (Sub d a b n)) o refl h)
instr_with (Mul d a b n) o h = sym (plain_with (instr_line (Mul d a b n)) o refl h)
instr_with (Div d a b n) o h = sym (plain_with (instr_line (Div d a b n)) o refl h)
instr_with (Rem d a b n) o h = sym (plain_with (instr_line (Rem d a b n)) o refl h)
instr_with (Equal d a b) o h = sym (plain_with (instr_line (Equal d a b)) o refl h)
instr_with (NotEqual d a b) o h = sym (plain_with (instr_line (NotEqual d a b)) o refl h)
instr_with (Less d a b) o h = sym (plain_with (instr_line (Less d a b)) o refl h)
instr_with (AtMost d a b) o h = sym (plain_with (instr_line (AtMost d a b)) o refl h)
instr_with (Len d a) o h = sym (plain_with (instr_line (Len d a)) o refl h)
instr_with (CutLeft d a b n) o h = sym (plain_with (instr_line (CutLeft d a b n)) o refl h)
instr_with (CutRight d a b n) o h = sym (plain_with (instr_line (CutRight d a b n)) o refl h)
instr_with (LoadSlot d s) o h = sym (plain_with (instr_line (LoadSlot d s)) o refl h)
instr_with (StoreCur s a) o h = sym (plain_with (instr_line (StoreCur s a)) o refl h)
instr_with (Give a) o h = sym (plain_with (instr_line (Give a)) o refl h)
instr_with (Get d a b n) o h = sym (plain_with (instr_line (Get d a b n)) o refl h)
instr_with (BranchZero a t) o h = sym (plain_with (instr_line (BranchZero a t)) o refl h)
instr_with (BranchNonZero a t) o h = sym (plain_with (instr_line (BranchNonZero a t)) o refl h)
instr_with (Room n) o h = sym (plain_with (instr_line (Room n)) o refl h)
instr_with (StoreNew w a) o h = sym (plain_with (instr_line (StoreNew w a)) o refl h)
instr_with (Ends e) o h = sym (plain_with (end_line e) o (no_end e) h)

module _ (os : List (Option ℕ)) where
  instrs_with : (n : ℕ) (is : List Instr) (rest : List Line) → Agree (drop n os) (map instr_line is ++ rest)
      → (text_by (drop n os) (map instr_line is ++ rest) ≡ flat_map instr_text (exchanged_instrs os n is) ++ text_by (drop (n + length is) os) rest)
      × Agree (drop (n + length is) os) rest
  instrs_with n [] rest a =
      let same : n ≡ n + 0 = omega arith in
      (ap (λ k. text_by (drop k os) rest) same, subst (λ k. Agree (drop k os) rest) same a)
  instrs_with n (i ∷ is) rest a =
      let next : n + 1 + length is ≡ n + length (i ∷ is) = omega arith in
      let (old, more) = agree_step n os (instr_line i) (map instr_line is ++ rest) a in
      let (text, left) = instrs_with (n + 1) is rest more in (
        step n os (instr_line i) (map instr_line is ++ rest)
            ∙ (λ j. sym (instr_with i (get_or os n None) old) j ++ text j)
            ∙ sym (append_assoc (instr_text (exchanged i (get_or os n None))) (flat_map instr_text (exchanged_instrs os (n + 1) is))
            (text_by (drop (n + 1 + length is) os) rest))
            ∙ ap (λ k. flat_map instr_text (exchanged_instrs os n (i ∷ is)) ++ text_by (drop k os) rest) next,
        subst (λ k. Agree (drop k os) rest) next left,
      )

  capsules_with : (n from : ℕ) (cs : List Capsule) → Agree (drop n os) (capsule_lines from cs)
      → text_by (drop n os) (capsule_lines from cs) ≡ capsules_text from (exchanged_capsules os n cs)
  capsules_with n from [] a = none (drop n os)
    where
      none : (os : List (Option ℕ)) → text_by os [] ≡ []
      none [] = refl
      none (o ∷ os) = refl
  capsules_with n from (c ∷ cs) a =
      let behind = capsule_lines (from + 1) cs in
      let (old, more) = agree_step n os (capsule_line from c) (map instr_line c.instrs ++ behind) a in
      let (text, left) = instrs_with (n + 1) c.instrs behind more in
      let rest = capsules_with (n + 1 + length c.instrs) (from + 1) cs left in
      let instrs = flat_map instr_text (exchanged_instrs os (n + 1) c.instrs) in
      step n os (capsule_line from c) (map instr_line c.instrs ++ behind)
      ∙ (λ j. plain_with (capsule_line from c) (get_or os n None) refl old j ++ (text ∙ ap (λ l. instrs ++ l) rest) j)
      ∙ sym (append_assoc (line_text (capsule_line from c)) instrs (capsules_text (from + 1) (exchanged_capsules os (n + 1 + length c.instrs) cs)))

  procedures_with : (n from : ℕ) (ps : List Procedure) (rest : List Line) → Agree (drop n os) (procedure_lines from ps ++ rest)
      → (text_by (drop n os) (procedure_lines from ps ++ rest) ≡ text_of (procedure_lines from ps) ++ text_by (drop (n + length ps) os) rest)
      × Agree (drop (n + length ps) os) rest
  procedures_with n from [] rest a =
      let same : n ≡ n + 0 = omega arith in
      (ap (λ k. text_by (drop k os) rest) same, subst (λ k. Agree (drop k os) rest) same a)
  procedures_with n from (p ∷ ps) rest a =
      let next : n + 1 + length ps ≡ n + length (p ∷ ps) = omega arith in
      let lines = procedure_lines (from + 1) ps in
      let (old, more) = agree_step n os (procedure_line from p) (lines ++ rest) a in
      let (text, left) = procedures_with (n + 1) (from + 1) ps rest more in (
        step n os (procedure_line from p) (lines ++ rest)
            ∙ (λ j. plain_with (procedure_line from p) (get_or os n None) refl old j ++ text j)
            ∙ sym (append_assoc (line_text (procedure_line from p)) (text_of lines) (text_by (drop (n + 1 + length ps) os) rest))
            ∙ ap (λ k. text_of (procedure_lines from (p ∷ ps)) ++ text_by (drop k os) rest) next,
        subst (λ k. Agree (drop k os) rest) next left,
      )

  pub code_with : (code : CodeParts) → Agree os (lines_of code) → text_by os (lines_of code) ≡ racy_listing_of (exchanged_code os code)
  code_with code a =
      let procedures = procedure_lines 0 code.procedures in
      let capsules = capsule_lines 0 code.capsules in
      let root = root_line code.root code.arrays in
      let first = line keyword.Ppm (number 1 ∷ []) in
      let (old, more) = agree_step 0 os first (root ∷ procedures ++ capsules) a in
      let (second, rest) = agree_step 1 os root (procedures ++ capsules) more in
      let (text, left) = procedures_with 2 0 code.procedures capsules rest in
      let last = capsules_with (2 + length code.procedures) 0 code.capsules left in
      let end = capsules_text 0 (exchanged_capsules os (2 + length code.procedures) code.capsules) in
      step 0 os first (root ∷ procedures ++ capsules)
      ∙ (λ j. plain_with first (get_or os 0 None) refl old j ++ step 1 os root (procedures ++ capsules) j)
      ∙ (λ j. line_text first ++ (plain_with root (get_or os 1 None) refl second j ++ (text ∙ ap (λ l. text_of procedures ++ l) last) j))
      ∙ regrouped (line_text first) (line_text root) (text_of procedures) end
    where
      regrouped : (a b c d : List ℕ) → a ++ (b ++ (c ++ d)) ≡ (a ++ (b ++ c)) ++ d
      regrouped a b c d = ap (λ l. a ++ l) (sym (append_assoc b c d)) ∙ sym (append_assoc a (b ++ c) d)

-- the text of a listing with puts is the listing of the code with exchanges
pub text_is_racy : (text : List ℕ) (code : CodeParts) → plain_of_text text ≡ listing_of code → NumbersFit code
    → AllByRecursion IsRegister (olds_of text) → text ≡ racy_listing_of (exchanged_code (olds_of text) code)
text_is_racy text code e fits small =
    let pieces = sym (plain_pieces text) ∙ ap (split 10) e ∙ split_lines (lines_of code) fits in
    let (told, agree) = text_told (split 10 text) (lines_of code) pieces fits small in
    sym (joined-split 10 text) ∙ sym (joined_lines (split 10 text)) ∙ told ∙ code_with (olds_of text) code agree
