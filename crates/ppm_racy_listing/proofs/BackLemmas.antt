-- The listing of a code with exchanges is read as it stands.
use Rattle.std.proofs.Common.{◌≡◌, ◌∙◌, ℕ, suc, ◌+◌, ◌<◌, ◌^◌, Bool, true, false, cond, nat_lt, List, [], ◌∷◌, ◌++◌, map, Option, Some, None}
use Rattle.std.proofs.Common.{codes, bytes_eq, decimal, length, get_or, drop, refl, sym, ap, subst, arith, append_assoc, append-nil, lt-ltb, get_or-drop, drop-drop}
use Rattle.std.specs.List.{flat_map, AllByRecursion}
use Rattle.std.specs.Option.{option_map}
use Rattle.std.proofs.Math.Bridge.{le_prop}
use Rattle.std.proofs.lemmas.Bool.{both_ways, ltb-true}
use Rattle.ppm_code.specs.declared.register.Register.{Register}
use Rattle.ppm_code.specs.declared.code.Procedure.{Procedure}
use Rattle.ppm_code.specs.declared.instr.Instr.{Instr}
use Rattle.ppm_code.specs.declared.instr.Instr.TheVariants.{Const, Move, Add, Sub, Mul, Div, Rem, Equal, NotEqual, Less, AtMost, Len, CutLeft, CutRight}
use Rattle.ppm_code.specs.declared.instr.Instr.TheVariants.{LoadSlot, StoreCur, Give, Get, Put, BranchZero, BranchNonZero, Room, StoreNew, Ends}
use Rattle.ppm_pieces.specs.Numbers.{value}
use Rattle.ppm_pieces.specs.Pieces.{split}
use Rattle.ppm_pieces.proofs.NumberLemmas.{numeral-decimal, value-decimal}
use Rattle.ppm_listing.specs.declared.keyword.Keyword.{Keyword}
use Rattle.ppm_listing.specs.declared.keyword.Keyword.TheVariants as keyword
use Rattle.ppm_listing.specs.declared.token.Token.{Token}
use Rattle.ppm_listing.specs.declared.token.Token.TheVariants.{Register as RegisterToken}
use Rattle.ppm_listing.specs.Tokens.{Line, line, line_text, keyword_text, token_text, operand_text}
use Rattle.ppm_listing.specs.Listing.{number, instr_line, capsule_line, capsule_lines, procedure_line, procedure_lines, root_line, lines_of, listing_of, text_of}
use Rattle.ppm_listing.specs.Correct.{Fits, LineFits}
use Rattle.ppm_listing.proofs.KeywordLemmas.{spelling}
use Rattle.ppm_listing.proofs.TokenLemmas.{word_of_token}
use Rattle.ppm_listing_reader.specs.Forms.{register_with}
use Rattle.ppm_listing_reader.proofs.WrittenLemmas.{bytes_of}
use Rattle.ppm_racy.specs.declared.instr.RacyInstr.{RacyInstr}
use Rattle.ppm_racy.specs.declared.instr.RacyInstr.TheVariants.{Plain, Cam}
use Rattle.ppm_racy.specs.declared.code.RacyCapsule.{RacyCapsule}
use Rattle.ppm_racy.specs.declared.code.RacyParts.{RacyParts}
use Rattle.ppm_racy.specs.Acts.{plain_of}
use Rattle.ppm_racy.specs.Code.{plain_capsule, plain_code}
use Rattle.ppm_racy_listing.specs.Exchanges.{exchanged, exchanged_instrs, exchanged_capsules, exchanged_code}
use Rattle.ppm_racy_listing.specs.Listing.{instr_text, capsules_text, racy_listing_of}
use Rattle.ppm_racy_listing.specs.Plain.{CamLine, cam_with, cam_in, cam_line, register_in, put_or, plain_line, old_in, joined, plain_of_text, olds_of}
use Rattle.ppm_racy_listing.specs.Correct.{IsRacyListing}
use Rattle.ppm_racy_listing.proofs.SplitLemmas.{IsFree, joined_at, joined_lines, split-joined, free_append, free_of_word, split_words}
use Rattle.ppm_racy_listing.proofs.LineLemmas.{IsRegister, line_with, with_index, regrouped}
use Rattle.ppm_racy_listing.proofs.WholeLemmas.{text_by}
use Rattle.ppm_racy_listing.proofs.CamLemmas.{other_with}
use Rattle.ppm_racy_listing.proofs.TextLemmas.{IsSome}

-- the old register of an instruction
abbrev pub old_of : RacyInstr → Option ℕ
old_of (Plain i) = None
old_of (Cam region index old new n) = Some old.index

-- the old registers of lines
abbrev pub capsule_olds : List RacyCapsule → List (Option ℕ)
capsule_olds [] = []
capsule_olds (c ∷ cs) = None ∷ (map old_of c.instrs ++ capsule_olds cs)

abbrev pub procedure_olds : List Procedure → List (Option ℕ) → List (Option ℕ)
procedure_olds [] rest = rest
procedure_olds (p ∷ ps) rest = None ∷ procedure_olds ps rest

abbrev pub racy_olds : RacyParts → List (Option ℕ)
racy_olds c = None ∷ None ∷ procedure_olds c.procedures (capsule_olds c.capsules)

abbrev made : (n : ℕ) → n < 64 → Register
made n h = record { index = n; in_range = h }

-- the register with its own number
made_back : (r : Register) (small : Bool) (e : nat_lt r.index 64 ≡ small) → small ≡ true → register_with r.index small e ≡ r
made_back r true e h = ap (made r.index) (le_prop (ltb-true r.index 64 e) r.in_range)
made_back r false e h = absurd (both_ways false refl h)

register_back : (r : Register) → register_with r.index (nat_lt r.index 64) refl ≡ r
register_back r = made_back r (nat_lt r.index 64) refl (lt-ltb r.index 64 r.in_range)

-- a line is one of a put, with an old register; or it says none
abbrev IsExactly : Line → Option ℕ → Type 0
IsExactly l None = Unit {0}
IsExactly l (Some old) = (a : Register) × (b : Register) × (s : Register) × (n : ℕ) × (l ≡ instr_line (Put a b s n)) × (old < 64)

abbrev Match : List (Option ℕ) → List Line → Type 0
Match [] [] = Unit {0}
Match [] (l ∷ ls) = ⊥
Match (o ∷ os) [] = ⊥
Match (o ∷ os) (l ∷ ls) = IsExactly l o × Match os ls

-- the bytes of a line with an old register
abbrev cam_bytes : List Token → (old : ℕ) → List ℕ
cam_bytes (a ∷ b ∷ s ∷ n ∷ []) old =
    codes "cam" ++ flat_map operand_text (a ∷ b ∷ RegisterToken (register_with old (nat_lt old 64) refl) ∷ s ∷ n ∷ [])
cam_bytes ts old = []

abbrev piece : Line → Option ℕ → List ℕ
piece l None = bytes_of l
piece l (Some old) = cam_bytes l.operands old

-- it is read as it is
record IsRead (l : Line) (o : Option ℕ) : Type 0 where
  text : line_with l o ≡ piece l o ++ 10 ∷ []
  free : IsFree 10 (piece l o)
  plain : plain_line (piece l o) ≡ bytes_of l
  old : old_in (piece l o) ≡ o

-- no keyword is that of an exchange
no_cam : (k : Keyword) → bytes_eq (keyword_text k) (codes "cam") ≡ false
no_cam keyword.Ppm = refl
no_cam keyword.Root = refl
no_cam keyword.Proc = refl
no_cam keyword.Slots = refl
no_cam keyword.Entry = refl
no_cam keyword.Capsule = refl
no_cam keyword.Const = refl
no_cam keyword.Move = refl
no_cam keyword.Add = refl
no_cam keyword.Sub = refl
no_cam keyword.Mul = refl
no_cam keyword.Div = refl
no_cam keyword.Rem = refl
no_cam keyword.Equal = refl
no_cam keyword.NotEqual = refl
no_cam keyword.Less = refl
no_cam keyword.AtMost = refl
no_cam keyword.Len = refl
no_cam keyword.CutLeft = refl
no_cam keyword.CutRight = refl
no_cam keyword.LoadSlot = refl
no_cam keyword.StoreCur = refl
no_cam keyword.Give = refl
no_cam keyword.Get = refl
no_cam keyword.Put = refl
no_cam keyword.BranchZero = refl
no_cam keyword.BranchNonZero = refl
no_cam keyword.Room = refl
no_cam keyword.StoreNew = refl
no_cam keyword.Next = refl
no_cam keyword.End = refl
no_cam keyword.Trap = refl
no_cam keyword.Call = refl
no_cam keyword.CallTo = refl
no_cam keyword.Fork = refl
no_cam keyword.ForkTo = refl

other_words : (k : List ℕ) (ws : List (List ℕ)) → bytes_eq k (codes "cam") ≡ false → cam_in (k ∷ ws) ≡ None
other_words k [] h = refl
other_words k (a ∷ []) h = refl
other_words k (a ∷ b ∷ []) h = refl
other_words k (a ∷ b ∷ c ∷ []) h = refl
other_words k (a ∷ b ∷ c ∷ d ∷ []) h = refl
other_words k (a ∷ b ∷ c ∷ d ∷ e ∷ []) h = other_with k a b d e (register_in c) h
other_words k (a ∷ b ∷ c ∷ d ∷ e ∷ f ∷ ws) h = refl

free_operands : (ts : List Token) → AllByRecursion Fits ts → IsFree 10 (flat_map operand_text ts)
free_operands [] f = tt
free_operands (t ∷ ts) f = (
  refl,
  free_append 10 (token_text t) (flat_map operand_text ts)
      (free_of_word 10 (token_text t) (omega arith) (word_of_token t f.0)) (free_operands ts f.1),
)

plain_read : (l : Line) → LineFits l → IsRead l None
plain_read l f =
    let none : cam_line (bytes_of l) ≡ None =
    ap cam_in (split_words (keyword_text l.keyword) l.operands (spelling l.keyword).word f)
    ∙ other_words (keyword_text l.keyword) (map token_text l.operands) (no_cam l.keyword) in
    record {
      text = refl;
      free = free_append 10 (keyword_text l.keyword) (flat_map operand_text l.operands)
          (free_of_word 10 (keyword_text l.keyword) (omega arith) (spelling l.keyword).word) (free_operands l.operands f);
      plain = ap (put_or (bytes_of l)) none;
      old = ap (option_map (λ (cam : CamLine). cam.old)) none;
    }

-- an exchange is read
register_read : (r : Register) → register_in (114 ∷ decimal r.index) ≡ Some r.index
register_read r =
    let small : r.index < 2 ^ 64 = omega (arith, r.in_range) in
    (λ i. cond (numeral-decimal r.index small i) (Some (value (decimal r.index))) None) ∙ ap Some (value-decimal r.index small)

cam_read : (a b s : Register) (n old : ℕ) → LineFits (instr_line (Put a b s n)) → old < 64 → IsRead (instr_line (Put a b s n)) (Some old)
cam_read a b s n old f small =
    let o = register_with old (nat_lt old 64) refl in
    let tokens = RegisterToken a ∷ RegisterToken b ∷ RegisterToken o ∷ RegisterToken s ∷ number n ∷ [] in
    let fits : AllByRecursion Fits tokens = (f.0, (f.1.0, (tt, f.1.1))) in
    let cam : CamLine = record {
      region = token_text (RegisterToken a);
      index = token_text (RegisterToken b);
      old = old;
      new = token_text (RegisterToken s);
      line = token_text (number n);
    } in
    let found : cam_line (cam_bytes (instr_line (Put a b s n)).operands old) ≡ Some cam =
    ap cam_in (split_words (codes "cam") tokens refl fits)
    ∙ ap (cam_with (codes "cam") (token_text (RegisterToken a)) (token_text (RegisterToken b)) (token_text (RegisterToken s)) (token_text (number n)))
    (register_read o ∙ ap Some (with_index old small)) in
    record {
      text = refl;
      free = (refl, (refl, (refl, free_operands tokens fits)));
      plain = ap (put_or (cam_bytes (instr_line (Put a b s n)).operands old)) found
          ∙ regrouped (codes "put") (32 ∷ token_text (RegisterToken a)) (32 ∷ token_text (RegisterToken b)) (32 ∷ token_text (RegisterToken s))
          (32 ∷ token_text (number n))
          ∙ ap (λ (l : List ℕ). codes "put" ++ (operand_text (RegisterToken a) ++ (operand_text (RegisterToken b) ++ (operand_text (RegisterToken s) ++ l))))
          (sym (append-nil (32 ∷ token_text (number n))));
      old = ap (option_map (λ (cam : CamLine). cam.old)) found;
    }

line_read : (l : Line) (o : Option ℕ) → LineFits l → IsExactly l o → IsRead l o
line_read l None f e = plain_read l f
line_read l (Some old) f (a, b, s, n, is, small) =
    subst (λ m. IsRead m (Some old)) (sym is) (cam_read a b s n old (subst LineFits is f) small)

-- all lines
abbrev pieces : List (Option ℕ) → List Line → List (List ℕ)
pieces [] ls = [] ∷ []
pieces (o ∷ os) [] = [] ∷ []
pieces (o ∷ os) (l ∷ ls) = piece l o ∷ pieces os ls

some_pieces : (os : List (Option ℕ)) (ls : List Line) → IsSome (pieces os ls)
some_pieces [] ls = tt
some_pieces (o ∷ os) [] = tt
some_pieces (o ∷ os) (l ∷ ls) = tt

joined_more : (p : List ℕ) (ps : List (List ℕ)) → IsSome ps → joined_at 10 (p ∷ ps) ≡ p ++ 10 ∷ joined_at 10 ps
joined_more p [] h = absurd h
joined_more p (q ∷ ps) h = refl

record AreRead (os : List (Option ℕ)) (ls : List Line) : Type 0 where
  text : text_by os ls ≡ joined_at 10 (pieces os ls)
  free : AllByRecursion (IsFree 10) (pieces os ls)
  plain : joined_at 10 (map plain_line (pieces os ls)) ≡ text_of ls
  olds : map old_in (pieces os ls) ≡ os ++ None ∷ []

some_map : (ps : List (List ℕ)) → IsSome ps → IsSome (map plain_line ps)
some_map [] h = h
some_map (p ∷ ps) h = tt

lines_read : (os : List (Option ℕ)) (ls : List Line) → Match os ls → AllByRecursion LineFits ls → AreRead os ls
lines_read [] [] m f = record { text = refl; free = (tt, tt); plain = refl; olds = refl }
lines_read [] (l ∷ ls) m f = absurd m
lines_read (o ∷ os) [] m f = absurd m
lines_read (o ∷ os) (l ∷ ls) m f =
    let here = line_read l o f.0 m.0 in
    let rest = lines_read os ls m.1 f.1 in
    record {
      text = (λ i. here.text i ++ rest.text i) ∙ append_assoc (piece l o) (10 ∷ []) (joined_at 10 (pieces os ls))
          ∙ sym (joined_more (piece l o) (pieces os ls) (some_pieces os ls));
      free = (here.free, rest.free);
      plain = joined_more (plain_line (piece l o)) (map plain_line (pieces os ls)) (some_map (pieces os ls) (some_pieces os ls))
          ∙ (λ i. here.plain i ++ 10 ∷ rest.plain i) ∙ sym (append_assoc (bytes_of l) (10 ∷ []) (text_of ls));
      olds = λ i. here.old i ∷ rest.olds i;
    }

pub text_read : (os : List (Option ℕ)) (ls : List Line) → Match os ls → AllByRecursion LineFits ls
    → (plain_of_text (text_by os ls) ≡ text_of ls) × (olds_of (text_by os ls) ≡ os ++ None ∷ [])
text_read os ls m f =
    let read = lines_read os ls m f in
    let split_is : split 10 (text_by os ls) ≡ pieces os ls = ap (split 10) read.text ∙ split-joined 10 (pieces os ls) (some_pieces os ls) read.free in (
      ap (λ ps. joined (map plain_line ps)) split_is ∙ joined_lines (map plain_line (pieces os ls)) ∙ read.plain,
      ap (map old_in) split_is ∙ read.olds,
    )

-- the listing of a code with exchanges, by lines
instr_text_back : (i : RacyInstr) → line_with (instr_line (plain_of i)) (old_of i) ≡ instr_text i
instr_text_back (Plain i) = refl
instr_text_back (Cam a b o s n) =
    ap (λ r. codes "cam" ++ flat_map operand_text (RegisterToken a ∷ RegisterToken b ∷ RegisterToken r ∷ RegisterToken s ∷ number n ∷ []) ++ 10 ∷ [])
    (register_back o)

instr_exact : (i : RacyInstr) → IsExactly (instr_line (plain_of i)) (old_of i)
instr_exact (Plain i) = tt
instr_exact (Cam a b o s n) = (a, b, s, n, refl, o.in_range)

instrs_back : (is : List RacyInstr) (os : List (Option ℕ)) (ls : List Line) → Match os ls
    → (text_by (map old_of is ++ os) (map instr_line (map plain_of is) ++ ls) ≡ flat_map instr_text is ++ text_by os ls)
    × Match (map old_of is ++ os) (map instr_line (map plain_of is) ++ ls)
instrs_back [] os ls m = (refl, m)
instrs_back (i ∷ is) os ls m =
    let (text, more) = instrs_back is os ls m in (
      (λ j. instr_text_back i j ++ text j) ∙ sym (append_assoc (instr_text i) (flat_map instr_text is) (text_by os ls)),
      (instr_exact i, more),
    )

capsules_back : (from : ℕ) (cs : List RacyCapsule)
    → (text_by (capsule_olds cs) (capsule_lines from (map plain_capsule cs)) ≡ capsules_text from cs)
    × Match (capsule_olds cs) (capsule_lines from (map plain_capsule cs))
capsules_back from [] = (refl, tt)
capsules_back from (c ∷ cs) =
    let behind = capsule_lines (from + 1) (map plain_capsule cs) in
    let (rest, match_rest) = capsules_back (from + 1) cs in
    let (text, more) = instrs_back c.instrs (capsule_olds cs) behind match_rest in (
      ap (λ (l : List ℕ). line_text (capsule_line from (plain_capsule c)) ++ l) (text ∙ ap (λ (l : List ℕ). flat_map instr_text c.instrs ++ l) rest)
          ∙ sym (append_assoc (line_text (capsule_line from (plain_capsule c))) (flat_map instr_text c.instrs) (capsules_text (from + 1) cs)),
      (tt, more),
    )

procedures_back : (from : ℕ) (ps : List Procedure) (os : List (Option ℕ)) (ls : List Line) → Match os ls
    → (text_by (procedure_olds ps os) (procedure_lines from ps ++ ls) ≡ text_of (procedure_lines from ps) ++ text_by os ls)
    × Match (procedure_olds ps os) (procedure_lines from ps ++ ls)
procedures_back from [] os ls m = (refl, m)
procedures_back from (p ∷ ps) os ls m =
    let (text, more) = procedures_back (from + 1) ps os ls m in (
      ap (λ (l : List ℕ). line_text (procedure_line from p) ++ l) text
          ∙ sym (append_assoc (line_text (procedure_line from p)) (text_of (procedure_lines (from + 1) ps)) (text_by os ls)),
      (tt, more),
    )

pub code_back : (c : RacyParts) → (text_by (racy_olds c) (lines_of (plain_code c)) ≡ racy_listing_of c) × Match (racy_olds c) (lines_of (plain_code c))
code_back c =
    let (last, match_last) = capsules_back 0 c.capsules in
    let capsules = capsule_lines 0 (map plain_capsule c.capsules) in
    let procedures = procedure_lines 0 c.procedures in
    let (text, more) = procedures_back 0 c.procedures (capsule_olds c.capsules) capsules match_last in
    let first = line_text (line keyword.Ppm (number 1 ∷ [])) in
    let root = line_text (root_line c.root c.arrays) in (
      ap (λ (l : List ℕ). first ++ (root ++ l)) (text ∙ ap (λ (l : List ℕ). text_of procedures ++ l) last)
          ∙ ends first root (text_of procedures) (capsules_text 0 c.capsules),
      (tt, (tt, more)),
    )
  where
    ends : (a b c d : List ℕ) → a ++ (b ++ (c ++ d)) ≡ (a ++ (b ++ c)) ++ d
    ends a b c d = ap (λ l. a ++ l) (sym (append_assoc b c d)) ∙ sym (append_assoc a (b ++ c) d)

-- what was read is a listing with puts, and its old registers are these
pub racy_read : (text : List ℕ) (c : RacyParts) → IsRacyListing text c
    → (plain_of_text text ≡ listing_of (plain_code c)) × (olds_of text ≡ racy_olds c ++ None ∷ [])
racy_read text c is =
    let (same, m) = code_back c in
    let (plain, olds) = text_read (racy_olds c) (lines_of (plain_code c)) m is.fits in
    let is_text : text ≡ text_by (racy_olds c) (lines_of (plain_code c)) = is.same ∙ sym same in
    (ap plain_of_text is_text ∙ plain, ap olds_of is_text ∙ olds)

-- the code with these exchanges
at_drop : (os : List (Option ℕ)) (n : ℕ) (x : Option ℕ) (xs : List (Option ℕ)) → drop n os ≡ x ∷ xs → (get_or os n None ≡ x) × (drop (n + 1) os ≡ xs)
at_drop os n x xs e =
    let same : n + 0 ≡ n = omega arith in (
      ap (λ k. get_or os k None) (sym same) ∙ sym (get_or-drop n os 0 None) ∙ ap (λ l. get_or l 0 None) e,
      sym (drop-drop 1 n os) ∙ ap (drop 1) e,
    )

no_old : (i : Instr) → exchanged i None ≡ Plain i
no_old (Const d v) = refl
no_old (Move d a) = refl
no_old (Add d a b n) = refl
no_old (Sub d a b n) = refl
no_old (Mul d a b n) = refl
no_old (Div d a b n) = refl
no_old (Rem d a b n) = refl
no_old (Equal d a b) = refl
no_old (NotEqual d a b) = refl
no_old (Less d a b) = refl
no_old (AtMost d a b) = refl
no_old (Len d a) = refl
no_old (CutLeft d a b n) = refl
no_old (CutRight d a b n) = refl
no_old (LoadSlot d s) = refl
no_old (StoreCur s a) = refl
no_old (Give a) = refl
no_old (Get d a b n) = refl
no_old (Put a b s n) = refl
no_old (BranchZero a t) = refl
no_old (BranchNonZero a t) = refl
no_old (Room n) = refl
no_old (StoreNew w a) = refl
no_old (Ends e) = refl

instr_back : (i : RacyInstr) → exchanged (plain_of i) (old_of i) ≡ i
instr_back (Plain i) = no_old i
instr_back (Cam a b o s n) = ap (λ r. Cam a b r s n) (register_back o)

module _ (os : List (Option ℕ)) where
  instrs_same : (n : ℕ) (is : List RacyInstr) (rest : List (Option ℕ)) → drop n os ≡ map old_of is ++ rest
      → (exchanged_instrs os n (map plain_of is) ≡ is) × (drop (n + length (map plain_of is)) os ≡ rest)
  instrs_same n [] rest e =
      let same : n + 0 ≡ n = omega arith in
      (refl, ap (λ k. drop k os) same ∙ e)
  instrs_same n (i ∷ is) rest e =
      let (here, behind) = at_drop os n (old_of i) (map old_of is ++ rest) e in
      let (more, left) = instrs_same (n + 1) is rest behind in
      let next : n + length (map plain_of (i ∷ is)) ≡ n + 1 + length (map plain_of is) = omega arith in
      ((λ j. (ap (exchanged (plain_of i)) here ∙ instr_back i) j ∷ more j), ap (λ k. drop k os) next ∙ left)

  capsules_same : (n : ℕ) (cs : List RacyCapsule) (rest : List (Option ℕ)) → drop n os ≡ capsule_olds cs ++ rest
      → exchanged_capsules os n (map plain_capsule cs) ≡ cs
  capsules_same n [] rest e = refl
  capsules_same n (c ∷ cs) rest e =
      let (here, behind) = at_drop os n None ((map old_of c.instrs ++ capsule_olds cs) ++ rest) e in
      let (instrs, left) = instrs_same (n + 1) c.instrs (capsule_olds cs ++ rest) (behind ∙ append_assoc (map old_of c.instrs) (capsule_olds cs) rest) in
      let more = capsules_same (n + 1 + length (map plain_of c.instrs)) cs rest left in
      λ j. record { procedure = c.procedure; instrs = instrs j } ∷ more j

drop_procedures : (ps : List Procedure) (os rest : List (Option ℕ)) → drop (length ps) (procedure_olds ps os ++ rest) ≡ os ++ rest
drop_procedures [] os rest = refl
drop_procedures (p ∷ ps) os rest =
    let next : length (p ∷ ps) ≡ suc (length ps) = omega arith in
    ap (λ k. drop k (procedure_olds (p ∷ ps) os ++ rest)) next ∙ drop_procedures ps os rest

pub code_same : (c : RacyParts) (rest : List (Option ℕ)) → exchanged_code (racy_olds c ++ rest) (plain_code c) ≡ c
code_same c rest =
    let next : 2 + length c.procedures ≡ suc (suc (length c.procedures)) = omega arith in
    let capsules = capsules_same (racy_olds c ++ rest) (2 + length c.procedures) c.capsules rest
    (ap (λ k. drop k (racy_olds c ++ rest)) next ∙ drop_procedures c.procedures (capsule_olds c.capsules) rest) in
    λ j. record { root = c.root; arrays = c.arrays; procedures = c.procedures; capsules = capsules j }

-- all its old registers are there
small_instrs : (is : List RacyInstr) (rest : List (Option ℕ)) → AllByRecursion IsRegister rest → AllByRecursion IsRegister (map old_of is ++ rest)
small_instrs [] rest h = h
small_instrs (Plain i ∷ is) rest h = (tt, small_instrs is rest h)
small_instrs (Cam a b o s n ∷ is) rest h = (o.in_range, small_instrs is rest h)

small_capsules : (cs : List RacyCapsule) (rest : List (Option ℕ)) → AllByRecursion IsRegister rest → AllByRecursion IsRegister (capsule_olds cs ++ rest)
small_capsules [] rest h = h
small_capsules (c ∷ cs) rest h = (
  tt,
  subst (AllByRecursion IsRegister) (sym (append_assoc (map old_of c.instrs) (capsule_olds cs) rest))
      (small_instrs c.instrs (capsule_olds cs ++ rest) (small_capsules cs rest h)),
)

small_procedures : (ps : List Procedure) (os rest : List (Option ℕ)) → AllByRecursion IsRegister (os ++ rest)
    → AllByRecursion IsRegister (procedure_olds ps os ++ rest)
small_procedures [] os rest h = h
small_procedures (p ∷ ps) os rest h = (tt, small_procedures ps os rest h)

pub olds_small : (c : RacyParts) → AllByRecursion IsRegister (racy_olds c ++ None ∷ [])
olds_small c = (tt, (tt, small_procedures c.procedures (capsule_olds c.capsules) (None ∷ []) (small_capsules c.capsules (None ∷ []) (tt, tt))))
