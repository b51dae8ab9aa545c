-- A text is read in one way.
use Rattle.std.specs.Prelude.{◌≡◌, ℕ, List}
use Rattle.ppm_text.specs.declared.token.Token.{Token}
use Rattle.ppm_text.specs.declared.text_error.TextError.{TextError}
use Rattle.ppm_text.specs.Lexing.{IsTextOf}
use Rattle.ppm_text.specs.Refusals.{FaultsAt}
use Rattle.ppm_text.specs.ErrorNumbers.{place_of}

-- a text has its tokens in one way or one fault, never both, and one of the two; the fault names the place up to which the text is lexed
pub record HasOneReading (text : List ℕ) : Type 0 where
  pub tokens : (ts us : List Token) → IsTextOf text ts → IsTextOf text us → ts ≡ us
  pub fault : (e f : TextError) → FaultsAt text e → FaultsAt text f → e ≡ f
  pub either : (ts : List Token) (e : TextError) → IsTextOf text ts → FaultsAt text e → ⊥
  pub none : ((e : TextError) → FaultsAt text e → ⊥) → (ts : List Token) × IsTextOf text ts
  pub place : (e : TextError) (fault : FaultsAt text e) → place_of e ≡ fault.place

-- every text has one reading: tokens or a fault
abbrev pub HaveOneReading : Type 0
HaveOneReading = (text : List ℕ) → HasOneReading text
