-- Texts with a put in place of each exchange.
use Rattle.std.specs.Prelude.{ℕ, ◌+◌, ◌-◌, ◌^◌, ◌==◌, min, ◌&&◌, ◌||◌, nat_le, nat_lt, if◌then◌else◌, List, [], ◌∷◌, ◌++◌, codes, map, Option, Some, None}
use Rattle.std.specs.Option.{option_map}
use Rattle.std.specs.Str.{bytes_eq}
use Rattle.ppm_pieces.specs.Numbers.{is_numeral, value}
use Rattle.ppm_pieces.specs.Pieces.{split}
use Rattle.ppm_listing_reader.specs.declared.listing_error.ListingError.{ListingError}
use Rattle.ppm_listing_reader.specs.declared.listing_error.ListingError.TheVariants.{OutOfRange}
use Rattle.ppm_listing_reader.specs.ErrorNumbers.{number_of, line_of}

-- the number of a register, from its word
abbrev pub register_in : List ℕ → Option ℕ
register_in [] = None
register_in (b ∷ bs) = if b == 114 && is_numeral bs then Some (value bs) else None

-- the line of an exchange: its words, and the number of its old register
pub record CamLine : Type 0 where
  pub region : List ℕ
  pub index : List ℕ
  pub old : ℕ
  pub new : List ℕ
  pub line : List ℕ

-- six words, of which the first is `cam` and the fourth spells a register
abbrev pub cam_with : (keyword region index new line : List ℕ) → Option ℕ → Option CamLine
cam_with keyword region index new line None = None
cam_with keyword region index new line (Some old) =
    if bytes_eq keyword (codes "cam") then Some (record { region = region; index = index; old = old; new = new; line = line }) else None

abbrev pub cam_in : List (List ℕ) → Option CamLine
cam_in (keyword ∷ region ∷ index ∷ old ∷ new ∷ line ∷ []) = cam_with keyword region index new line (register_in old)
cam_in words = None

abbrev pub cam_line : List ℕ → Option CamLine
cam_line bytes = cam_in (split 32 bytes)

-- a line, with a put in place of an exchange
abbrev pub put_or : List ℕ → Option CamLine → List ℕ
put_or bytes None = bytes
put_or bytes (Some cam) = codes "put" ++ (32 ∷ cam.region) ++ (32 ∷ cam.index) ++ (32 ∷ cam.new) ++ 32 ∷ cam.line

abbrev pub plain_line : List ℕ → List ℕ
plain_line bytes = put_or bytes (cam_line bytes)

-- the old register of its exchange, if it is one
abbrev pub old_in : List ℕ → Option ℕ
old_in bytes = option_map (λ (cam : CamLine). cam.old) (cam_line bytes)

-- pieces, with a line feed between two
abbrev pub joined : List (List ℕ) → List ℕ
joined [] = []
joined (p ∷ []) = p
joined (p ∷ q ∷ ps) = p ++ 10 ∷ joined (q ∷ ps)

-- a text, with a put in place of each exchange
abbrev pub plain_of_text : List ℕ → List ℕ
plain_of_text text = joined (map plain_line (split 10 text))

-- the old registers of its lines
abbrev pub olds_of : List ℕ → List (Option ℕ)
olds_of text = map old_in (split 10 text)

-- the first line whose old register is none; a line past 2^32 - 1 stands as that one
abbrev pub first_wrong : (line : ℕ) → List (Option ℕ) → Option ℕ
first_wrong line [] = None
first_wrong line (None ∷ olds) = first_wrong (min (line + 1) (2 ^ 32 - 1)) olds
first_wrong line (Some old ∷ olds) = if nat_le 64 old then Some line else first_wrong (min (line + 1) (2 ^ 32 - 1)) olds

-- the first of that and of another fault
abbrev pub earlier_of : Option ℕ → ListingError → ListingError
earlier_of None e = e
earlier_of (Some line) e =
    if number_of e == 0 then e
    else (if nat_lt line (line_of e) || (line == line_of e && nat_lt 2 (number_of e)) then OutOfRange line else e)
