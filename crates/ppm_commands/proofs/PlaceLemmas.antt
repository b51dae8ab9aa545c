-- The lines of a case: those of its arrays, then those of its listing, each where it is told to stand.
use Rattle.std.proofs.Common.{◌≡◌, ℕ, zero, suc, ◌+◌, ◌-◌, List, [], ◌∷◌, ◌++◌, length, map, take, Some, refl, sym, ap, ◌∙◌, subst, arith}
use Rattle.std.proofs.Common.{append_assoc}
use Rattle.std.specs.Prelude.{slice_get}
use Rattle.std.specs.List.{flat_map}
use Rattle.std.proofs.lemmas.List.{length-map}
use Rattle.std.proofs.lemmas.Option.{slice_get_within}
use Rattle.ppm_words.specs.declared.named_array.NamedArray.{NamedArray}
use Rattle.ppm_code.specs.declared.code.Capsule.{Capsule}
use Rattle.ppm_code.specs.declared.code.CodeParts.{CodeParts}
use Rattle.ppm_code.specs.declared.code.Procedure.{Procedure}
use Rattle.ppm_code.specs.declared.instr.Instr.{Instr}
use Rattle.ppm_code.specs.Strands.{instrs_in, instrs_of}
use Rattle.ppm_pieces.specs.Pieces.{split}
use Rattle.ppm_listing.specs.Tokens.{line_text}
use Rattle.ppm_listing.specs.Listing.{instr_line, procedure_lines, lines_of_capsule, lines_of}
use Rattle.ppm_listing.specs.Listing.{capsule_lines as lines_of_capsules}
use Rattle.ppm_listing_reader.proofs.WrittenLemmas.{bytes_of, split_lines}
use Rattle.ppm_case.specs.Case.{IsCaseOf}
use Rattle.ppm_case.specs.Rules.{AllFollow}
use Rattle.ppm_case.specs.Spelling.{Written, array_line, array_of, array_text}
use Rattle.ppm_case.proofs.FormLemmas.{line_of_text}
use Rattle.ppm_case.proofs.WordLemmas.{split_some}
use Rattle.ppm_commands.specs.Cases.{HasLine, InstructionsHaveTheirLines}
use Rattle.ppm_loading.specs.Telling.{capsule_lines, line_at}

module _ {A : Type 0} where
  -- what stands after others
  behind : (xs ys : List A) (n k : ℕ) → n ≡ length xs + k → slice_get (xs ++ ys) n ≡ slice_get ys k
  behind [] ys n k e = ap (λ (m : ℕ). slice_get ys m) (omega (arith, e))
  behind (x ∷ xs) ys zero k e = absurd (omega (arith, e))
  behind (x ∷ xs) ys (suc n) k e = behind xs ys n k (omega (arith, e))

  -- what stands in front of others
  before : (xs ys : List A) (k : ℕ) (x : A) → slice_get xs k ≡ Some x → slice_get (xs ++ ys) k ≡ Some x
  before [] ys k x e = absurd (let less = slice_get_within [] k x e in omega (arith, less))
  before (y ∷ xs) ys zero x e = e
  before (y ∷ xs) ys (suc k) x e = before xs ys k x e

  -- one of a list, mapped
  mapped : {B : Type 0} (f : A → B) (xs : List A) (k : ℕ) (x : A) → slice_get xs k ≡ Some x → slice_get (map f xs) k ≡ Some (f x)
  mapped f [] k x e = absurd (let less = slice_get_within [] k x e in omega (arith, less))
  mapped f (y ∷ xs) zero x e = let same : y ≡ x = cc in ap (λ (z : A). Some (f z)) same
  mapped f (y ∷ xs) (suc k) x e = mapped f xs k x e

-- the lines of arrays are cut off
arrays_cut : (done : List NamedArray) (xs : List Written) (rest : List ℕ) → AllFollow done xs
    → split 10 (flat_map array_line xs ++ rest) ≡ map array_text xs ++ split 10 rest
arrays_cut done [] rest h = refl
arrays_cut done (a ∷ xs) rest h =
    ap (λ (t : List ℕ). split 10 t) (append_assoc (array_line a) (flat_map array_line xs) rest)
    ∙ split_some 10 (array_line a ++ (flat_map array_line xs ++ rest)) (array_text a) (flat_map array_line xs ++ rest)
    (line_of_text a (flat_map array_line xs ++ rest) h.0.form)
    ∙ ap (λ (ls : List (List ℕ)). array_text a ∷ ls) (arrays_cut (done ++ array_of a ∷ []) xs rest h.1)

-- the lines of procedures are as many as these
count_procedures : (from : ℕ) (ps : List Procedure) → length (procedure_lines from ps) ≡ length ps
count_procedures from [] = refl
count_procedures from (p ∷ ps) = ap (λ (n : ℕ). suc n) (count_procedures (from + 1) ps)

-- an instruction among the lines of capsules
in_capsules : (from : ℕ) (cs : List Capsule) (capsule at : ℕ) (i : Instr) → slice_get (instrs_in (slice_get cs capsule)) at ≡ Some i
    → (n : ℕ) → n ≡ capsule_lines (take capsule cs) + 1 + at → slice_get (lines_of_capsules from cs) n ≡ Some (instr_line i)
in_capsules from [] capsule at i e n is = absurd (let less = slice_get_within [] at i e in omega (arith, less))
in_capsules from (c ∷ cs) zero at i e zero is = absurd (omega (arith, is))
in_capsules from (c ∷ cs) zero at i e (suc n) is =
    let same : at ≡ n = omega (arith, is) in
    before (map instr_line c.instrs) (lines_of_capsules (from + 1) cs) n (instr_line i)
    (mapped instr_line c.instrs n i (subst (λ (k : ℕ). slice_get c.instrs k ≡ Some i) same e))
in_capsules from (c ∷ cs) (suc capsule) at i e n is =
    let count = length-map c.instrs instr_line in
    behind (lines_of_capsule from c) (lines_of_capsules (from + 1) cs) n (capsule_lines (take capsule cs) + 1 + at) (omega (arith, is, count))
    ∙ in_capsules (from + 1) cs capsule at i e (capsule_lines (take capsule cs) + 1 + at) refl

-- and among all lines of a code
in_code : (code : CodeParts) (capsule at : ℕ) (i : Instr) → slice_get (instrs_of code capsule) at ≡ Some i → (n : ℕ)
    → n ≡ 2 + length code.procedures + capsule_lines (take capsule code.capsules) + 1 + at → slice_get (lines_of code) n ≡ Some (instr_line i)
in_code code capsule at i e zero is = absurd (omega (arith, is))
in_code code capsule at i e (suc zero) is = absurd (omega (arith, is))
in_code code capsule at i e (suc (suc n)) is =
    let count = count_procedures 0 code.procedures in
    let k : ℕ = capsule_lines (take capsule code.capsules) + 1 + at in
    behind (procedure_lines 0 code.procedures) (lines_of_capsules 0 code.capsules) n k (omega (arith, is, count))
    ∙ in_capsules 0 code.capsules capsule at i e k refl

module _ (text : List ℕ) (code : CodeParts) (input : List NamedArray) (is : IsCaseOf text code input) where
  -- the text's lines
  lines_are : split 10 text ≡ map array_text is.front.arrays ++ (map bytes_of (lines_of code) ++ [] ∷ [])
  lines_are =
      ap (λ (t : List ℕ). split 10 t) is.front.same
      ∙ arrays_cut [] is.front.arrays is.front.rest is.front.follow
      ∙ ap (λ (t : List ℕ). map array_text is.front.arrays ++ split 10 t) is.listed.same
      ∙ ap (λ (ls : List (List ℕ)). map array_text is.front.arrays ++ ls) (split_lines (lines_of code) is.listed.fits)

  -- as many as arrays
  count_arrays : length (map array_text is.front.arrays) ≡ length input
  count_arrays =
      length-map is.front.arrays array_text ∙ sym (length-map is.front.arrays array_of) ∙ ap (λ (xs : List NamedArray). length xs) (sym is.arrays)

  has_line : (capsule at : ℕ) (i : Instr) → slice_get (instrs_of code capsule) at ≡ Some i
      → HasLine text (line_at (length input) code capsule at) (line_text (instr_line i))
  has_line capsule at i e =
      let n : ℕ = 2 + length code.procedures + capsule_lines (take capsule code.capsules) + 1 + at in
      let count = count_arrays in
      let lines : List (List ℕ) = map bytes_of (lines_of code) ++ [] ∷ [] in
      record {
        bytes = bytes_of (instr_line i);
        from_one = omega arith;
        there = ap (λ (ls : List (List ℕ)). slice_get ls (line_at (length input) code capsule at - 1)) lines_are
            ∙ behind (map array_text is.front.arrays) lines (line_at (length input) code capsule at - 1) n (omega (arith, count))
            ∙ before (map bytes_of (lines_of code)) ([] ∷ []) n (bytes_of (instr_line i))
            (mapped bytes_of (lines_of code) n (instr_line i) (in_code code capsule at i e n refl));
        ended = refl;
      }

-- each instruction stands where it is told to
pub instructions_have_their_lines : InstructionsHaveTheirLines
instructions_have_their_lines text code input is capsule at i e = has_line text code input is capsule at i e
