-- Which lines are exchanges, by their words.
use Rattle.std.proofs.Common.{◌≡◌, ◌∙◌, ◌==◌, ℕ, Bool, true, false, cond, List, [], ◌∷◌, Option, Some, None, codes, bytes_eq, refl, ap}
use Rattle.ppm_pieces.specs.Pieces.{in_front, split}
use Rattle.ppm_racy_listing.specs.Plain.{cam_with, cam_in, cam_line, register_in}

-- a line of six words or more, by its first five
abbrev pub BeginsWith : (line keyword region index old new rest : List ℕ) → Type 0
BeginsWith line keyword region index old new rest = split 32 line ≡ keyword ∷ region ∷ index ∷ old ∷ new ∷ split 32 rest

pub begins_with : (line keyword a region b index c old d new rest : List ℕ)
    → split 32 line ≡ keyword ∷ split 32 a → split 32 a ≡ region ∷ split 32 b → split 32 b ≡ index ∷ split 32 c
    → split 32 c ≡ old ∷ split 32 d → split 32 d ≡ new ∷ split 32 rest → BeginsWith line keyword region index old new rest
begins_with line keyword a region b index c old d new rest e f g h i =
    e ∙ (λ j. keyword ∷ (f ∙ (λ j. region ∷ (g ∙ (λ j. index ∷ (h ∙ (λ j. old ∷ i j)) j)) j)) j)

-- with another keyword it is no exchange
pub other_with : (keyword region index new line : List ℕ) (old : Option ℕ) → bytes_eq keyword (codes "cam") ≡ false
    → cam_with keyword region index new line old ≡ None
other_with keyword region index new line None h = refl
other_with keyword region index new line (Some old) h =
    λ i. cond (h i) (Some (record { region = region; index = index; old = old; new = new; line = line })) None

other_in : (keyword region index old new : List ℕ) (words : List (List ℕ)) → bytes_eq keyword (codes "cam") ≡ false
    → cam_in (keyword ∷ region ∷ index ∷ old ∷ new ∷ words) ≡ None
other_in keyword region index old new [] h = refl
other_in keyword region index old new (line ∷ []) h = other_with keyword region index new line (register_in old) h
other_in keyword region index old new (line ∷ more ∷ words) h = refl

pub other_line : (line keyword region index old new rest : List ℕ) → BeginsWith line keyword region index old new rest
    → bytes_eq keyword (codes "cam") ≡ false → cam_line line ≡ None
other_line line keyword region index old new rest e h = ap cam_in e ∙ other_in keyword region index old new (split 32 rest) h

-- nor is one of more than six words
pub long_line : (line keyword region index old new rest last more : List ℕ) → BeginsWith line keyword region index old new rest
    → split 32 rest ≡ last ∷ split 32 more → cam_line line ≡ None
long_line line keyword region index old new rest last more e h =
    ap cam_in (e ∙ (λ j. keyword ∷ region ∷ index ∷ old ∷ new ∷ h j)) ∙ go (split 32 more) (some_piece more)
  where
    IsSome : List (List ℕ) → Type 0
    IsSome [] = ⊥
    IsSome (p ∷ ps) = Unit {0}

    some_front : (b : ℕ) (same : Bool) (ps : List (List ℕ)) → IsSome (cond same ([] ∷ ps) (in_front b ps))
    some_front b true ps = tt
    some_front b false [] = tt
    some_front b false (p ∷ ps) = tt

    some_piece : (bs : List ℕ) → IsSome (split 32 bs)
    some_piece [] = tt
    some_piece (b ∷ bs) = some_front b (b == 32) (split 32 bs)

    go : (words : List (List ℕ)) → IsSome words → cam_in (keyword ∷ region ∷ index ∷ old ∷ new ∷ last ∷ words) ≡ None
    go [] h = absurd h
    go (p ∷ ps) h = refl
