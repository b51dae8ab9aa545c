-- Texts cut at a byte.
use Rattle.std.specs.Prelude.{ℕ, ◌==◌, if◌then◌else◌, List, [], ◌∷◌, Option, Some, None}

-- a byte more in front of the first of some pieces
abbrev pub in_front : ℕ → List (List ℕ) → List (List ℕ)
in_front b [] = (b ∷ []) ∷ []
in_front b (p ∷ ps) = (b ∷ p) ∷ ps

-- the pieces of a text between the bytes that separate them: one more than there are of these
abbrev pub split : (separator : ℕ) → List ℕ → List (List ℕ)
split separator [] = [] ∷ []
split separator (b ∷ bs) = if b == separator then [] ∷ split separator bs else in_front b (split separator bs)

-- a byte more in front of what stands in front
abbrev pub more_in_front : ℕ → Option (List ℕ × List ℕ) → Option (List ℕ × List ℕ)
more_in_front b None = None
more_in_front b (Some halves) = Some (b ∷ halves.0, halves.1)

-- what stands in front of the first separator, and after it
abbrev pub halves_of : (separator : ℕ) → List ℕ → Option (List ℕ × List ℕ)
halves_of separator [] = None
halves_of separator (b ∷ bs) = if b == separator then Some ([], bs) else more_in_front b (halves_of separator bs)
