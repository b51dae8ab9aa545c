-- How long a listing may be.
use Rattle.std.specs.Prelude.{ℕ}

-- bytes of a listing
abbrev pub listing_limit : ℕ
listing_limit = 536870912
