-- Why a text is refused, a line for each pass.
use Rattle.std.specs.Prelude.{◌≢◌, ℕ, List, length}
use Rattle.ppm_text.specs.declared.token.Token.{Token}
use Rattle.ppm_text.specs.declared.text_error.TextError.{TextError}
use Rattle.ppm_text.specs.declared.text_error.TextError.TheVariants as text_error
use Rattle.ppm_text.specs.Tokens.{text_tokens}
use Rattle.ppm_text.specs.ErrorNumbers as text
use Rattle.ppm_text.specs.Refusals.{IsRefused}
use Rattle.ppm_tree.specs.Tree.{ProgramTree}
use Rattle.ppm_parser.specs.declared.syntax_error.SyntaxError.{SyntaxError}
use Rattle.ppm_parser.specs.declared.syntax_error.SyntaxError.TheVariants as syntax_error
use Rattle.ppm_parser.specs.SyntaxErrorNumbers as syntax
use Rattle.ppm_parser.specs.Faults as syntax_faults
use Rattle.ppm_regions.specs.declared.region_error.RegionError.{RegionError}
use Rattle.ppm_regions.specs.declared.region_error.RegionError.TheVariants as region_error
use Rattle.ppm_regions.specs.ErrorNumbers as region
use Rattle.ppm_regions.specs.Admission as region_faults
use Rattle.ppm_cut_bounds.specs.declared.bound_error.BoundError.{BoundError}
use Rattle.ppm_cut_bounds.specs.declared.bound_error.BoundError.TheVariants as bound_error
use Rattle.ppm_cut_bounds.specs.Refusals as bound
use Rattle.ppm_answers.specs.declared.refusal.Pass.TheVariants as pass
use Rattle.ppm_answers.specs.declared.refusal.Refusal.{Refusal}
use Rattle.ppm_program.specs.Programs.{HasTokens, IsTreeOf, IsAdmittedTreeOf}

-- the text has this fault, and so no tokens; want of memory is none
pub record IsTextFault (text : List ℕ) (e : TextError) : Type 0 where
  pub fault : IsRefused text e
  pub given : e ≢ text_error.NoMemory

-- the text has tokens, and they have this fault, and so no tree
pub record IsSyntaxFault (text : List ℕ) (e : SyntaxError) : Type 0 where
  pub tokens : List Token
  pub lexed : HasTokens text tokens
  pub fault : syntax_faults.IsFault (text_tokens tokens (length text)) e
  pub given : e ≢ syntax_error.NoMemory

-- the text has a tree within the limits, and this is its first fault of names and regions
pub record IsRegionFault (text : List ℕ) (e : RegionError) : Type 0 where
  pub tree : ProgramTree
  pub derived : IsTreeOf text tree
  pub fault : region_faults.IsRefused tree e
  pub given : e ≢ region_error.NoMemory

-- the text has an admitted tree, and this is the first bound of the compiler that it passes
pub record IsBoundFault (text : List ℕ) (e : BoundError) : Type 0 where
  pub tree : ProgramTree
  pub admitted : IsAdmittedTreeOf text tree
  pub fault : bound.IsRefused tree e
  pub given : e ≢ bound_error.NoMemory

-- the refusals for the faults of each pass
abbrev pub text_refusal : TextError → Refusal
text_refusal e = record { pass = pass.Text; number = text.number_of e; place = text.place_of e }

abbrev pub syntax_refusal : SyntaxError → Refusal
syntax_refusal e = record { pass = pass.Syntax; number = syntax.number_of e; place = syntax.place_of e }

abbrev pub region_refusal : RegionError → Refusal
region_refusal e = record { pass = pass.Region; number = region.number_of e; place = region.line_of e }

abbrev pub bound_refusal : BoundError → Refusal
bound_refusal e = record { pass = pass.Cut; number = bound.number_of e; place = bound.place_of e }

-- why a text is refused
pub data IsRefusal (text : List ℕ) : Refusal → Type 0 where
  by_text : {e : TextError} → IsTextFault text e → IsRefusal text (text_refusal e)
  by_syntax : {e : SyntaxError} → IsSyntaxFault text e → IsRefusal text (syntax_refusal e)
  by_region : {e : RegionError} → IsRegionFault text e → IsRefusal text (region_refusal e)
  by_bound : {e : BoundError} → IsBoundFault text e → IsRefusal text (bound_refusal e)
