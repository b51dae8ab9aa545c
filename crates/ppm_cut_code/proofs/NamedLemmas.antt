-- What holds of the procedure that a name stands for.
use Rattle.std.proofs.Common.{cond, Bool, true, false, ℕ, List, [], ◌∷◌}
use Rattle.std.specs.Str.{bytes_eq}
use Rattle.std.specs.List.{AllByRecursion}
use Rattle.ppm_tree.specs.Tree.{Procedure}
use Rattle.ppm_tree.specs.State.{no_procedure, procedure_named}

-- what holds of each procedure, and of none, holds of the one that a name stands for
pub of_named : (P : Procedure → Type 0) → P no_procedure → (ps : List Procedure) → AllByRecursion P ps → (x : List ℕ) → P (procedure_named ps x)
of_named P none [] all x = none
of_named P none (p ∷ ps) all x = go (bytes_eq p.name.name x) (of_named P none ps all.1 x)
  where
    go : (b : Bool) → P (procedure_named ps x) → P (cond b p (procedure_named ps x))
    go true rest = all.0
    go false rest = rest

-- of a weaker fact
pub weaker : {A : Type 0} (P Q : A → Type 0) → ((x : A) → P x → Q x) → (xs : List A) → AllByRecursion P xs → AllByRecursion Q xs
weaker P Q h [] all = tt
weaker P Q h (x ∷ xs) all = (h x all.0, weaker P Q h xs all.1)
