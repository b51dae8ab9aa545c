-- Words that stand where they are due, one after another.
use Rattle.std.proofs.Common.{◌≡◌, suc, true, false, List, [], ◌∷◌, ℕ, refl, sym, ◌∙◌}
use Rattle.ppm_notes.specs.declared.due.Due.{Due}
use Rattle.ppm_notes.specs.Dues.{may_be, standing}

-- after a word that does, others may
pub next_stands : (d : Due) (ds : List Due) (w : List ℕ) (ws all : List (List ℕ)) → all ≡ w ∷ ws → true ≡ may_be d w
    → suc (standing ds ws) ≡ standing (d ∷ ds) all
next_stands d ds w ws all e h = rw (e, sym h) refl

none_stands : (ds : List Due) → standing ds [] ≡ 0
none_stands [] = refl
none_stands (d ∷ ds) = refl

-- the last word is the only one that is left
pub last_stands : (d : Due) (ds : List Due) (w : List ℕ) (all : List (List ℕ)) → all ≡ w ∷ [] → true ≡ may_be d w → standing (d ∷ ds) all ≡ 1
last_stands d ds w all e h = rw (e, sym h, none_stands ds) refl

-- a word that does not ends them
pub one_stops : (d : Due) (ds : List Due) (w : List ℕ) (ws all : List (List ℕ)) → all ≡ w ∷ ws → false ≡ may_be d w → standing (d ∷ ds) all ≡ 0
one_stops d ds w ws all e h = rw (e, sym h) refl
