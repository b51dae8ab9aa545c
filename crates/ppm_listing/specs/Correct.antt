-- A listing tells its code.
use Rattle.std.specs.Prelude.{◌≡◌, FitsSigned}
use Rattle.std.specs.Int.{w64}
use Rattle.std.specs.List.{AllByRecursion}
use Rattle.ppm_code.specs.declared.code.CodeParts.{CodeParts}
use Rattle.ppm_listing.specs.declared.token.Token.{Token}
use Rattle.ppm_listing.specs.declared.token.Token.TheVariants.{Name, Register, Number, Absent}
use Rattle.ppm_listing.specs.Tokens.{Line}
use Rattle.ppm_listing.specs.Listing.{lines_of, listing_of}

-- a number fits 64 bits
abbrev pub Fits : Token → Type 0
Fits (Number z) = FitsSigned w64 z
Fits (Name k) = Unit {0}
Fits (Register r) = Unit {0}
Fits Absent = Unit {0}

-- all numbers after a keyword do
abbrev pub LineFits : Line → Type 0
LineFits l = AllByRecursion Fits l.operands

-- all numbers of a code fit 64 bits, as those of each value of its types do
abbrev pub NumbersFit : CodeParts → Type 0
NumbersFit code = AllByRecursion LineFits (lines_of code)

-- two codes with one listing are one
abbrev pub ListingsTellCodes : Type 0
ListingsTellCodes = (c d : CodeParts) → NumbersFit c → NumbersFit d → listing_of c ≡ listing_of d → c ≡ d
