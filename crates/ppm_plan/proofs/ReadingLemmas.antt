-- Items, read piece by piece.
use Rattle.std.proofs.Common.{◌≡◌, ◌∙◌, ℕ, ◌+◌, List, [], ◌∷◌, ◌++◌, map, length, Option, Some, None, ap, sym, arith}
use Rattle.std.proofs.lemmas.List.{append_assoc}
use Rattle.ppm_plan.specs.declared.plan_error.PlanError.{PlanError}
use Rattle.ppm_plan.specs.declared.plan_error.PlanError.TheVariants.{BadItem, NoSuchProcessor, TooManyFaults, AllKilled, NoMemory}
use Rattle.ppm_plan.specs.Forms.{Form}
use Rattle.ppm_plan.specs.Fronts.{StopsAt}
use Rattle.ppm_plan.specs.Refusals.{first_at, is_missing, readings, IsBadItem}

-- one item more was read
pub one_item : {A : Type 0} (form : Form A) (all : List (Option A)) (items more : List A) (pieces rest : List (List ℕ)) (piece : List ℕ)
    → all ≡ map Some items ++ map form.reading pieces → pieces ≡ piece ∷ rest → map Some more ≡ map Some items ++ form.reading piece ∷ []
    → all ≡ map Some more ++ map form.reading rest
one_item form all items more pieces rest piece h e k =
    h ∙ ap (λ l. map Some items ++ map form.reading l) e ∙ sym (append_assoc (map Some items) (form.reading piece ∷ []) (map form.reading rest))
    ∙ ap (λ l. l ++ map form.reading rest) (sym k)

-- the last one
pub last_item : {A : Type 0} (form : Form A) (all : List (Option A)) (items more : List A) (pieces : List (List ℕ)) (piece : List ℕ)
    → all ≡ map Some items ++ map form.reading pieces → pieces ≡ piece ∷ [] → map Some more ≡ map Some items ++ form.reading piece ∷ []
    → all ≡ map Some more
last_item form all items more pieces piece h e k = h ∙ ap (λ l. map Some items ++ map form.reading l) e ∙ sym k

-- the first that is missing stands after some that are not
first_missing : {A : Type 0} (n : ℕ) (items : List A) (rest : List (Option A))
    → first_at is_missing n (map Some items ++ None ∷ rest) ≡ Some (n + length items)
first_missing n [] rest = ap Some (omega arith)
first_missing n (x ∷ xs) rest = first_missing (n + 1) xs rest ∙ ap Some (omega arith)

-- a piece reads as no item
pub no_item : {A : Type 0} (form : Form A) (text : List ℕ) (items : List A) (pieces rest : List (List ℕ)) (piece : List ℕ) (e : PlanError)
    → readings form text ≡ map Some items ++ map form.reading pieces → pieces ≡ piece ∷ rest → StopsAt form items piece e
    → IsBadItem form text e
no_item form text items pieces rest piece (BadItem n) h e stop =
    ap (first_at is_missing 1) (h ∙ ap (λ l. map Some items ++ map form.reading l) e ∙ ap (λ r. map Some items ++ r ∷ map form.reading rest) stop.1)
    ∙ first_missing 1 items (map form.reading rest) ∙ ap Some (omega (arith, stop.0))
no_item form text items pieces rest piece (NoSuchProcessor n) h e stop = absurd stop
no_item form text items pieces rest piece TooManyFaults h e stop = absurd stop
no_item form text items pieces rest piece AllKilled h e stop = absurd stop
no_item form text items pieces rest piece NoMemory h e stop = tt
