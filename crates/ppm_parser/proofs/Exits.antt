-- The exits of a `?` in the parser.
use Rattle.std.proofs.Common.{◌≡◌, MatchResult, Result, List, [], ◌∷◌, ◌++◌, map, refl, ap}
use Rattle.std.specs.Result.{IsErrAnd}
use Rattle.std.proofs.lemmas.Result.{err_from_is_err_and}
use Rattle.ppm_parser.specs.declared.stop.Stop.{Stop}

-- a `?` goes out with the stop of the call before it
pub exit_by : {T : Type 0} (A : T → Type 0) (Q : Stop → Type 0) (e : Stop) (r : Result T Stop) → IsErrAnd r (λ y. y ≡ e) → Q e → MatchResult r A Q
exit_by A Q e r is h = let p = err_from_is_err_and r is in rw (p.1, p.2) h

-- two facts of one value
pub both : {A B : Type 0} → A → B → A × B
both a b = (a, b)

-- one element more
pub map_more : {A B : Type 0} (f : A → B) (xs : List A) (x : A) → map f (xs ++ x ∷ []) ≡ map f xs ++ f x ∷ []
map_more f [] x = refl
map_more f (y ∷ ys) x = ap (λ q. f y ∷ q) (map_more f ys x)
