-- The text with puts, line by line.
use Rattle.std.proofs.Common.{◌≡◌, ◌∙◌, ◌==◌, ℕ, Bool, true, false, cond, List, [], ◌∷◌, ◌++◌, map, Option, refl, sym, ap}
use Rattle.std.proofs.Common.{append_assoc}
use Rattle.ppm_pieces.specs.Pieces.{in_front, split}
use Rattle.ppm_racy_listing.specs.Plain.{plain_line, old_in, joined, plain_of_text, olds_of}

-- there is a piece
abbrev pub IsSome : List (List ℕ) → Type 0
IsSome [] = ⊥
IsSome (p ∷ ps) = Unit {0}

some_front : (b : ℕ) (same : Bool) (ps : List (List ℕ)) → IsSome (cond same ([] ∷ ps) (in_front b ps))
some_front b true ps = tt
some_front b false [] = tt
some_front b false (p ∷ ps) = tt

pub some_piece : (s : ℕ) (bs : List ℕ) → IsSome (split s bs)
some_piece s [] = tt
some_piece s (b ∷ bs) = some_front b (b == s) (split s bs)

-- a piece in front of others
pub joined_more : (p : List ℕ) (ps : List (List ℕ)) → IsSome ps → joined (p ∷ map plain_line ps) ≡ p ++ 10 ∷ joined (map plain_line ps)
joined_more p [] h = absurd h
joined_more p (q ∷ ps) h = refl

-- a line more
pub text_step : (front line rest left whole : List ℕ) → split 10 left ≡ line ∷ split 10 rest → front ++ plain_of_text left ≡ whole
    → ((front ++ plain_line line) ++ 10 ∷ []) ++ plain_of_text rest ≡ whole
text_step front line rest left whole e h =
    append_assoc (front ++ plain_line line) (10 ∷ []) (plain_of_text rest)
    ∙ append_assoc front (plain_line line) (10 ∷ plain_of_text rest)
    ∙ ap (λ l. front ++ l) (sym (ap (λ ps. joined (map plain_line ps)) e ∙ joined_more (plain_line line) (split 10 rest) (some_piece 10 rest)))
    ∙ h

pub olds_step : (front : List (Option ℕ)) (line rest left : List ℕ) (whole : List (Option ℕ)) → split 10 left ≡ line ∷ split 10 rest
    → front ++ olds_of left ≡ whole → (front ++ old_in line ∷ []) ++ olds_of rest ≡ whole
olds_step front line rest left whole e h =
    append_assoc front (old_in line ∷ []) (olds_of rest) ∙ ap (λ l. front ++ l) (sym (ap (map old_in) e)) ∙ h
