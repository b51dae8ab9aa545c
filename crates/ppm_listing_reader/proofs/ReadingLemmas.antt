-- A text without a fault is the listing of the code that it declares.
use Rattle.std.proofs.Common.{◌≡◌, ◌∙◌, ℕ, true, List, [], ◌∷◌, map, Some, None, refl, sym, ap, subst, arith}
use Rattle.std.specs.List.{AllByRecursion}
use Rattle.std.proofs.lemmas.Bool.{both_ways}
use Rattle.ppm_code.specs.declared.code.CodeParts.{CodeParts}
use Rattle.ppm_listing.specs.Listing.{text_of}
use Rattle.ppm_listing.specs.Correct.{LineFits}
use Rattle.ppm_listing_reader.specs.declared.part.Part.{Part}
use Rattle.ppm_listing_reader.specs.declared.part.Part.TheVariants as part
use Rattle.ppm_listing_reader.specs.declared.place.Place.{Place}
use Rattle.ppm_listing_reader.specs.declared.place.Place.TheVariants.{AtVersion}
use Rattle.ppm_listing_reader.specs.Tokens.{split}
use Rattle.ppm_listing_reader.specs.Forms.{lines_of}
use Rattle.ppm_listing_reader.specs.Places.{next, code_in}
use Rattle.ppm_listing_reader.specs.Faults.{KeepsRules}
use Rattle.ppm_listing_reader.specs.Correct.{standing_of, IsListing}
use Rattle.ppm_listing_reader.proofs.FormLemmas.{small_limit, IsSmallLine, IsWholePart, part_line}
use Rattle.ppm_listing_reader.proofs.LineLemmas.{split_some, joined-split, text_written}
use Rattle.ppm_listing_reader.proofs.SaidLemmas.{line_says}
use Rattle.ppm_listing_reader.proofs.CleanLemmas.{AllClean, IsClean, all_clean}
use Rattle.ppm_listing_reader.proofs.CodeLemmas.{make_code}
use Rattle.ppm_listing_reader.proofs.SmallLemmas.{lines_small}

-- a part that breaks no rule is whole
whole_part : (code : CodeParts) (place : Place) (x : Part) → IsClean code place x → IsWholePart x
whole_part code place part.Version clean = tt
whole_part code place (part.Root q xs) clean = tt
whole_part code place (part.Procedure i s k) clean = tt
whole_part code place (part.Capsule c p) clean = tt
whole_part code place (part.Instr None) clean = absurd (both_ways true clean.range refl)
whole_part code place (part.Instr (Some i)) clean = tt

whole_parts : (code : CodeParts) (place : Place) (xs : List Part) → AllClean code place xs → AllByRecursion IsSmallLine (map part_line xs)
    → AllByRecursion (λ x. IsWholePart x × IsSmallLine (part_line x)) xs
whole_parts code place [] clean small = tt
whole_parts code place (x ∷ xs) clean small = ((whole_part code place x clean.0, small.0), whole_parts code (next place (Some x)) xs clean.1 small.1)

pub text_is_listing : (text : List ℕ) → KeepsRules (code_in (standing_of text)) AtVersion (standing_of text) → IsListing text (code_in (standing_of text))
text_is_listing text h =
    let all = all_clean (code_in (standing_of text)) AtVersion (lines_of text) h in
    let same : code_in (standing_of text) ≡ code_in (map Some all.parts) = ap code_in all.standing_lines in
    let made = make_code all.parts (subst (λ c. AllClean c AtVersion all.parts) same all.clean) in
    let small = lines_small (code_in (map Some all.parts)) made.code small_limit (omega arith) in
    let good = whole_parts (code_in (standing_of text)) AtVersion all.parts all.clean (subst (AllByRecursion IsSmallLine) (sym made.lines) small) in
    let (written, fits) = text_written (λ x. IsWholePart x × IsSmallLine (part_line x)) (split 10 text) all.parts (split_some 10 text) all.lines
    line_says good in
    subst (IsListing text) (sym same) (record {
      code = made.code;
      fits = subst (AllByRecursion LineFits) made.lines fits;
      same = sym (joined-split 10 text) ∙ written ∙ ap text_of made.lines;
    })
