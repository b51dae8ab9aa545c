-- Why a text has no program: from the answers of the passes.
use Rattle.std.proofs.Common.{◌≢◌, ℕ, List}
use Rattle.ppm_text.specs.declared.text_error.TextError.{TextError}
use Rattle.ppm_text.specs.declared.text_error.TextError.TheVariants as text_error
use Rattle.ppm_text.specs.Refusals.{IsRefused}
use Rattle.ppm_parser.specs.declared.syntax_error.SyntaxError.{SyntaxError}
use Rattle.ppm_parser.specs.declared.syntax_error.SyntaxError.TheVariants as syntax_error
use Rattle.ppm_regions.specs.declared.region_error.RegionError.{RegionError}
use Rattle.ppm_regions.specs.declared.region_error.RegionError.TheVariants as region_error
use Rattle.ppm_cut_bounds.specs.declared.bound_error.BoundError.{BoundError}
use Rattle.ppm_cut_bounds.specs.declared.bound_error.BoundError.TheVariants as bound_error
use Rattle.ppm_program.specs.Refusals.{IsSyntaxFault, IsRegionFault, IsBoundFault, by_text, by_syntax, by_region, by_bound}
use Rattle.ppm_program.specs.Judging.{MayStop, of_text, of_syntax, of_region, of_bound}

-- a fault of the text stops it
pub text_stops : (text : List ℕ) (e : TextError) → IsRefused text e → MayStop text (of_text e)
text_stops text text_error.NoMemory h = tt
text_stops text (text_error.NotAscii p) h = by_text (record { fault = h; given = λ f. cc })
text_stops text (text_error.BadChar p) h = by_text (record { fault = h; given = λ f. cc })
text_stops text (text_error.NumberTooBig p) h = by_text (record { fault = h; given = λ f. cc })
text_stops text (text_error.NameTooLong p) h = by_text (record { fault = h; given = λ f. cc })
text_stops text (text_error.TooLong limit) h = by_text (record { fault = h; given = λ f. cc })

-- a fault of its tokens does
pub syntax_stops : (text : List ℕ) (e : SyntaxError) → (e ≢ syntax_error.NoMemory → IsSyntaxFault text e) → MayStop text (of_syntax e)
syntax_stops text syntax_error.NoMemory h = tt
syntax_stops text (syntax_error.Expected p) h = by_syntax (h (λ f. cc))
syntax_stops text (syntax_error.Ended p) h = by_syntax (h (λ f. cc))
syntax_stops text (syntax_error.TooDeep p) h = by_syntax (h (λ f. cc))
syntax_stops text (syntax_error.TooMany p which) h = by_syntax (h (λ f. cc))

-- a fault of its tree does
pub region_stops : (text : List ℕ) (e : RegionError) → (e ≢ region_error.NoMemory → IsRegionFault text e) → MayStop text (of_region e)
region_stops text region_error.NoMemory h = tt
region_stops text (region_error.UnknownName l) h = by_region (h (λ f. cc))
region_stops text (region_error.TwiceNamed l) h = by_region (h (λ f. cc))
region_stops text (region_error.WrongKind l) h = by_region (h (λ f. cc))
region_stops text (region_error.WrongCount l) h = by_region (h (λ f. cc))
region_stops text (region_error.WriteToRef l) h = by_region (h (λ f. cc))
region_stops text (region_error.LentTwice l) h = by_region (h (λ f. cc))
region_stops text (region_error.HiddenRegion l) h = by_region (h (λ f. cc))
region_stops text (region_error.BadMain l) h = by_region (h (λ f. cc))
region_stops text (region_error.BadInput l) h = by_region (h (λ f. cc))
region_stops text (region_error.NoValue l) h = by_region (h (λ f. cc))
region_stops text (region_error.TwiceTarget l) h = by_region (h (λ f. cc))
region_stops text (region_error.OuterWritten l) h = by_region (h (λ f. cc))
region_stops text (region_error.OuterAssigned l) h = by_region (h (λ f. cc))

-- a bound that its tree passes does
pub bound_stops : (text : List ℕ) (e : BoundError) → (e ≢ bound_error.NoMemory → IsBoundFault text e) → MayStop text (of_bound e)
bound_stops text bound_error.NoMemory h = tt
bound_stops text (bound_error.TooManySlots n) h = by_bound (h (λ f. cc))
bound_stops text (bound_error.TooManyCaught n) h = by_bound (h (λ f. cc))
bound_stops text bound_error.TooManyCapsules h = by_bound (h (λ f. cc))
