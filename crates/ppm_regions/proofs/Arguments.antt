-- First faults of arguments, of sides, and of calls and forks.
use Rattle.std.proofs.Common.{◌≡◌, ◌<◌, ◌≤◌, ◌++◌, ◌-◌, ℕ, List, [], ◌∷◌, Option, None, Some, map, take, drop, length, length-drop, get_or, refl, sym, ap, subst, ◌∙◌, arith}
use Rattle.std.proofs.lemmas.List.{length-map, take_all}
use Rattle.ppm_tree.specs.declared.tree.Expr.{Expr}
use Rattle.ppm_tree.specs.declared.tree.Expr.TheVariants as expr
use Rattle.ppm_tree.specs.declared.mode.Mode.{Mode}
use Rattle.ppm_tree.specs.declared.mode.Mode.TheVariants as mode
use Rattle.ppm_tree.specs.declared.named.Named.{Named}
use Rattle.ppm_tree.specs.declared.tree.Parameter.{Parameter}
use Rattle.ppm_tree.specs.declared.tree.Argument as declared_argument
use Rattle.ppm_tree.specs.declared.tree.Side as declared_side
use Rattle.ppm_tree.specs.Tree.{Expression, ProgramTree, expression_of, side_of}
use Rattle.ppm_tree.specs.Tree as tree
use Rattle.ppm_regions.specs.declared.ask.Ask.{Ask}
use Rattle.ppm_regions.specs.declared.region_error.RegionError.{RegionError}
use Rattle.ppm_regions.specs.declared.region_error.RegionError.TheVariants as error
use Rattle.ppm_regions.specs.Scope.{Scope}
use Rattle.ppm_regions.specs.Uses.{Use, NoName, Calls, Lending, uses_in, uses_of_spare, uses_of_lent, uses_of_argument, uses_of_arguments, uses_of_target}
use Rattle.ppm_regions.specs.Uses.{lending_of, lendings_of, lent_together, lent_by, both_targets, callee_of, parameters_of, uses_of_side, uses_of}
use Rattle.ppm_regions.specs.Deciding.{argument_of, IsLeastOf, earlier_of}
use Rattle.ppm_regions.proofs.Least.{least_uses}

-- what is left after the first of a list, as the code cuts it
pub tail_is : {A : Type 0} (xs : List A) → take (length xs - 1) (drop 1 xs) ≡ drop 1 xs
tail_is xs = take_all (length xs - 1) (drop 1 xs) (let e = length-drop 1 xs in omega (arith, e))

-- what is no name alone
pub spare_other : (e : Expr) → ((x : Named) → e ≡ expr.Name x → ⊥) → uses_of_spare (expression_of e) ≡ uses_in (expression_of e)
spare_other (expr.Number z) h = refl
spare_other (expr.Name x) h = absurd (h x refl)
spare_other (expr.Element' x p i) h = refl
spare_other (expr.Len x) h = refl
spare_other (expr.Minus' line p e) h = refl
spare_other (expr.Binary' o line p l q r) h = refl

pub lent_other : (a : Ask) (line : ℕ) (e : Expr) → ((x : Named) → e ≡ expr.Name x → ⊥) → uses_of_lent a line (expression_of e) ≡ NoName line ∷ uses_in (expression_of e)
lent_other a line (expr.Number z) h = refl
lent_other a line (expr.Name x) h = absurd (h x refl)
lent_other a line (expr.Element' x p i) h = refl
lent_other a line (expr.Len x) h = refl
lent_other a line (expr.Minus' l p e) h = refl
lent_other a line (expr.Binary' o l p e q f) h = refl

module _ (t : ProgramTree) (s : Scope) where
  -- an argument past the last parameter, and those after it
  pub arguments_spare : (ps : List Parameter) (xs : List declared_argument.Argument) (x : declared_argument.Argument) (a b : Option RegionError)
      → length ps < 1 → 0 < length xs → x ≡ get_or xs 0 x → IsLeastOf t s (uses_of_spare (expression_of x.value)) a
      → IsLeastOf t s (uses_of_arguments ps (map argument_of (drop 1 xs))) b → IsLeastOf t s (uses_of_arguments ps (map argument_of xs)) (earlier_of a b)
  arguments_spare (p ∷ ps) xs x a b none in' at here behind = absurd (omega arith)
  arguments_spare [] [] x a b none in' at here behind = absurd (omega arith)
  arguments_spare [] (y ∷ xs) x a b none in' at here behind =
      least_uses t s (uses_of_spare (expression_of y.value)) (uses_of_arguments [] (map argument_of xs)) a b
      (subst (λ (z : declared_argument.Argument). IsLeastOf t s (uses_of_spare (expression_of z.value)) a) at here) behind

  -- an argument for a parameter, and those after it
  pub arguments_paired : (ps : List Parameter) (p : Parameter) (xs : List declared_argument.Argument) (x : declared_argument.Argument) (a b : Option RegionError)
      → 0 < length ps → p ≡ get_or ps 0 p → 0 < length xs → x ≡ get_or xs 0 x → IsLeastOf t s (uses_of_argument p.mode (argument_of x)) a
      → IsLeastOf t s (uses_of_arguments (drop 1 ps) (map argument_of (drop 1 xs))) b
      → IsLeastOf t s (uses_of_arguments ps (map argument_of xs)) (earlier_of a b)
  arguments_paired [] p xs x a b some first in' at here behind = absurd (omega arith)
  arguments_paired (q ∷ ps) p [] x a b some first in' at here behind = absurd (omega arith)
  arguments_paired (q ∷ ps) p (y ∷ xs) x a b some first in' at here behind =
      least_uses t s (uses_of_argument q.mode (argument_of y)) (uses_of_arguments ps (map argument_of xs)) a b
      (subst (λ (z : declared_argument.Argument). IsLeastOf t s (uses_of_argument q.mode (argument_of z)) a) at
      (subst (λ (r : Parameter). IsLeastOf t s (uses_of_argument r.mode (argument_of x)) a) first here)) behind

  -- a side: its target, its procedure and its arguments
  pub in_side : (side : declared_side.Side) (parameters : List Parameter) (arguments : List declared_argument.Argument) (a b c : Option RegionError)
      → parameters ≡ parameters_of (callee_of t side.callee) → arguments ≡ side.arguments
      → IsLeastOf t s (uses_of_target side.callee side.target) a → IsLeastOf t s (Calls side.callee (length arguments) ∷ []) b
      → IsLeastOf t s (uses_of_arguments parameters (map argument_of arguments)) c
      → IsLeastOf t s (uses_of_side t (side_of side)) (earlier_of a (earlier_of b c))
  in_side side parameters arguments a b c p q target called inside =
      let count : length arguments ≡ length (map argument_of side.arguments) = ap length q ∙ sym (length-map side.arguments argument_of) in
      let paired : uses_of_arguments parameters (map argument_of arguments) ≡ uses_of_arguments (parameters_of (callee_of t side.callee)) (map argument_of side.arguments)
      = ap (λ ps. uses_of_arguments ps (map argument_of arguments)) p ∙ ap (λ xs. uses_of_arguments (parameters_of (callee_of t side.callee)) (map argument_of xs)) q in
      least_uses t s (uses_of_target side.callee side.target) (uses_of_side t (record { target = None; callee = side.callee; arguments = map argument_of side.arguments })) a (earlier_of b c) target
      (least_uses t s (Calls side.callee (length (map argument_of side.arguments)) ∷ []) (uses_of_arguments (parameters_of (callee_of t side.callee)) (map argument_of side.arguments)) b c
      (subst (λ n. IsLeastOf t s (Calls side.callee n ∷ []) b) count called) (subst (λ us. IsLeastOf t s us c) paired inside))
