-- Where a name stands as an argument in front of a place, in the statement around it.
use Rattle.std.specs.Prelude.{ℕ, ◌==◌, ◌&&◌, nat_le, if◌then◌else◌, Bool, true, false, List, [], ◌∷◌, ◌++◌, codes, Option, Some, None}
use Rattle.ppm_text.specs.declared.token.Sign.{Sign}
use Rattle.ppm_text.specs.declared.token.Sign.TheVariants as s
use Rattle.ppm_text.specs.declared.token.Kind.{Kind}
use Rattle.ppm_text.specs.declared.token.Kind.TheVariants as kind
use Rattle.ppm_text.specs.declared.token.Token.{Token}
use Rattle.ppm_explain.specs.declared.lending.Role.{Role}
use Rattle.ppm_explain.specs.declared.lending.Role.TheVariants as role
use Rattle.ppm_explain.specs.declared.lending.Lead.{Lead}
use Rattle.ppm_explain.specs.declared.lending.Lead.TheVariants as lead
use Rattle.ppm_explain.specs.Places.{line_of, column_of, place_text}
use Rattle.ppm_explain.specs.Names.{is_name}

-- what a sign is to the arguments of a call
abbrev pub role_of : Sign → Role
role_of s.OpenBracket = role.Other
role_of s.CloseBracket = role.Other
role_of s.OpenParen = role.Opens
role_of s.CloseParen = role.Closes
role_of s.OpenBrace = role.Breaks
role_of s.CloseBrace = role.Breaks
role_of s.Semicolon = role.Breaks
role_of s.Comma = role.Parts
role_of s.Assign = role.Other
role_of s.Plus = role.Other
role_of s.Minus = role.Other
role_of s.Times = role.Other
role_of s.Divide = role.Other
role_of s.Remainder = role.Other
role_of s.Equal = role.Other
role_of s.NotEqual = role.Other
role_of s.Less = role.Other
role_of s.LessEqual = role.Other
role_of s.Greater = role.Other
role_of s.GreaterEqual = role.Other
role_of s.Both = role.Other
role_of s.Either = role.Other

-- after a sign
abbrev pub lead_by : Role → Lead
lead_by role.Opens = lead.Argument
lead_by role.Parts = lead.Argument
lead_by role.Closes = lead.Other
lead_by role.Breaks = lead.Other
lead_by role.Other = lead.Other

-- after a token
abbrev pub lead_after : Kind → Lead
lead_after (kind.Sign sign) = lead_by (role_of sign)
lead_after (kind.Keyword w) = lead.Other
lead_after (kind.Name bytes) = lead.Other
lead_after (kind.Number value) = lead.Other

-- whether an argument begins there
abbrev pub leads : Lead → Bool
leads lead.Argument = true
leads lead.Other = false

-- whether an argument ends in front of the sign
abbrev pub is_end : Role → Bool
is_end role.Parts = true
is_end role.Closes = true
is_end role.Opens = false
is_end role.Breaks = false
is_end role.Other = false

-- whether a statement, or the front of one with a block, ends with the sign
abbrev pub is_break : Role → Bool
is_break role.Breaks = true
is_break role.Parts = false
is_break role.Closes = false
is_break role.Opens = false
is_break role.Other = false

-- whether a token ends a statement, or the front of one with a block
abbrev pub ends_kind : Kind → Bool
ends_kind (kind.Sign sign) = is_end (role_of sign)
ends_kind (kind.Keyword w) = false
ends_kind (kind.Name bytes) = false
ends_kind (kind.Number value) = false

abbrev pub breaks_kind : Kind → Bool
breaks_kind (kind.Sign sign) = is_break (role_of sign)
breaks_kind (kind.Keyword w) = false
breaks_kind (kind.Name bytes) = false
breaks_kind (kind.Number value) = false

-- whether an argument ends in front of these tokens
abbrev pub ends_argument : List Token → Bool
ends_argument [] = false
ends_argument (t ∷ ts) = ends_kind t.kind

-- whether the token is the name, and a whole argument
abbrev pub is_argument : Lead → List ℕ → Token → List Token → Bool
is_argument b x t behind = leads b && is_name x t.kind && ends_argument behind

-- the first place, or else this one
abbrev pub or_place : Option ℕ → ℕ → Option ℕ
or_place None place = Some place
or_place (Some first) place = Some first

-- after a token: the first place in the statement where the name is an argument
abbrev pub lent_with : Option ℕ → Lead → List ℕ → Token → List Token → Option ℕ
lent_with found b x t behind =
    if breaks_kind t.kind then None else if is_argument b x t behind then or_place found t.place else found

-- the first place in front of the given one, and in the statement around it, where the name is an argument
abbrev pub lent_from : Option ℕ → Lead → List ℕ → ℕ → List Token → Option ℕ
lent_from found b x place [] = found
lent_from found b x place (t ∷ ts) =
    if nat_le place t.place then found else lent_from (lent_with found b x t ts) (lead_after t.kind) x place ts

-- a place where a region is lent before, if there is one
abbrev pub lent_before_text : List ℕ → Option ℕ → List ℕ
lent_before_text text None = []
lent_before_text text (Some place) = codes "lent before: " ++ place_text (line_of text place) (column_of text place)

-- that of the name at this place
abbrev pub kind_lent : List ℕ → List Token → ℕ → Kind → List ℕ
kind_lent text tokens place (kind.Name x) = lent_before_text text (lent_from None lead.Other x place tokens)
kind_lent text tokens place (kind.Keyword w) = []
kind_lent text tokens place (kind.Sign sign) = []
kind_lent text tokens place (kind.Number value) = []

-- of a region that is lent twice, by the number of its fault: where it is lent before
abbrev pub lent_text : List ℕ → List Token → Token → ℕ → List ℕ
lent_text text tokens t number = if number == 6 then kind_lent text tokens t.place t.kind else []
