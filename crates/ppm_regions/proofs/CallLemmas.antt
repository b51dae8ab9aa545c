-- The first fault of a single use that asks for a procedure, or lends a region.
use Rattle.std.proofs.Common.{◌≡◌, ◌≢◌, ℕ, List, [], ◌∷◌, Option, None, Some, length, refl, subst, sym}
use Rattle.std.specs.List.{Contains}
use Rattle.ppm_tree.specs.Tree.{ProgramTree, Procedure, Give}
use Rattle.ppm_tree.specs.declared.named.Named.{Named}
use Rattle.ppm_regions.specs.declared.region_error.RegionError.{RegionError}
use Rattle.ppm_regions.specs.declared.region_error.RegionError.TheVariants as error
use Rattle.ppm_regions.specs.Scope.{Scope}
use Rattle.ppm_regions.specs.Uses.{Lending, Calls, Delivers, Lends, callee_of}
use Rattle.ppm_regions.specs.Faults.{IsWrong, Clashes}
use Rattle.ppm_regions.specs.Faults as fault
use Rattle.ppm_regions.specs.Deciding.{HasOne, IsLeastOf}
use Rattle.ppm_regions.proofs.Least.{use_right, use_wrong_alone}

none_and_some : {A : Type 0} {o : Option A} {x : A} → o ≡ None → o ≡ Some x → ⊥
none_and_some p q = cc

one_value : {A : Type 0} {o : Option A} {x y : A} → o ≡ Some x → o ≡ Some y → x ≡ y
one_value p q = cc

module _ (t : ProgramTree) (s : Scope) where
  only_unknown : (x : Named) (n : ℕ) → callee_of t x ≡ None → (o : RegionError) → IsWrong t s (Calls x n) o → error.UnknownName x.line ≡ o
  only_unknown x n e _ (fault.UnknownProcedure _ _ _) = refl
  only_unknown x n e _ (fault.WrongCount _ _ p is _) = absurd (none_and_some e is)

  -- a procedure that is not there
  pub calls_unknown : (x : Named) (n : ℕ) → callee_of t x ≡ None → IsLeastOf t s (Calls x n ∷ []) (Some (error.UnknownName x.line))
  calls_unknown x n e = use_wrong_alone t s (Calls x n) (error.UnknownName x.line) (fault.UnknownProcedure x n e) (only_unknown x n e)

  only_count : (x : Named) (n : ℕ) (p : Procedure) → callee_of t x ≡ Some p → (o : RegionError) → IsWrong t s (Calls x n) o → error.WrongCount x.line ≡ o
  only_count x n p is _ (fault.UnknownProcedure _ _ e) = absurd (none_and_some e is)
  only_count x n p is _ (fault.WrongCount _ _ _ _ _) = refl

  -- one with more or fewer parameters
  pub calls_wrong : (x : Named) (n : ℕ) (p : Procedure) → callee_of t x ≡ Some p → length p.parameters ≢ n
      → IsLeastOf t s (Calls x n ∷ []) (Some (error.WrongCount x.line))
  calls_wrong x n p is h = use_wrong_alone t s (Calls x n) (error.WrongCount x.line) (fault.WrongCount x n p is h) (only_count x n p is)

  not_wrong : (x : Named) (n : ℕ) (p : Procedure) → callee_of t x ≡ Some p → length p.parameters ≡ n → (o : RegionError) → ¬ IsWrong t s (Calls x n) o
  not_wrong x n p is h _ (fault.UnknownProcedure _ _ e) = none_and_some e is
  not_wrong x n p is h _ (fault.WrongCount _ _ q there differs) = let same = one_value is there in differs (subst (λ (r : Procedure). length r.parameters ≡ n) same h)

  pub calls_right : (x : Named) (n : ℕ) (p : Procedure) → callee_of t x ≡ Some p → length p.parameters ≡ n → IsLeastOf t s (Calls x n ∷ []) None
  calls_right x n p is h = use_right t s (Calls x n) (not_wrong x n p is h)

  only_value : (x : Named) (o : RegionError) → IsWrong t s (Delivers x) o → error.NoValue x.line ≡ o
  only_value x _ (fault.NoValue _ _ _ _) = refl

  -- a procedure that gives no value
  pub delivers_none : (x : Named) (p : Procedure) → callee_of t x ≡ Some p → p.give ≡ None → IsLeastOf t s (Delivers x ∷ []) (Some (error.NoValue x.line))
  delivers_none x p is none = use_wrong_alone t s (Delivers x) (error.NoValue x.line) (fault.NoValue x p is none) (only_value x)

  gives : (x : Named) (p : Procedure) (g : Give) → callee_of t x ≡ Some p → p.give ≡ Some g → (o : RegionError) → ¬ IsWrong t s (Delivers x) o
  gives x p g is some _ (fault.NoValue _ q there none) =
      let same = one_value is there in none_and_some none (subst (λ (r : Procedure). r.give ≡ Some g) same some)

  pub delivers_one : (x : Named) (p : Procedure) (g : Give) → callee_of t x ≡ Some p → p.give ≡ Some g → IsLeastOf t s (Delivers x ∷ []) None
  delivers_one x p g is some = use_right t s (Delivers x) (gives x p g is some)

  no_callee : (x : Named) → callee_of t x ≡ None → (o : RegionError) → ¬ IsWrong t s (Delivers x) o
  no_callee x e _ (fault.NoValue _ q there none) = none_and_some e there

  pub delivers_unknown : (x : Named) → callee_of t x ≡ None → IsLeastOf t s (Delivers x ∷ []) None
  delivers_unknown x e = use_right t s (Delivers x) (no_callee x e)

  only_lent : (front : List Lending) (m : Lending) (o : RegionError) → IsWrong t s (Lends front m) o → error.LentTwice m.name.line ≡ o
  only_lent front m _ (fault.LentTwice _ _ _ _ _) = refl

  -- a region that clashes with one in front of it
  pub lends_twice : (front : List Lending) (m : Lending) → HasOne (Clashes m) front → IsLeastOf t s (Lends front m ∷ []) (Some (error.LentTwice m.name.line))
  lends_twice front m one =
      use_wrong_alone t s (Lends front m) (error.LentTwice m.name.line) (fault.LentTwice front one.0 m one.1 one.2) (only_lent front m)

  no_clash : (front : List Lending) (m : Lending) → ¬ HasOne (Clashes m) front → (o : RegionError) → ¬ IsWrong t s (Lends front m) o
  no_clash front m h _ (fault.LentTwice _ l _ within clash) = h (l, within, clash)

  pub lends_once : (front : List Lending) (m : Lending) → ¬ HasOne (Clashes m) front → IsLeastOf t s (Lends front m ∷ []) None
  lends_once front m h = use_right t s (Lends front m) (no_clash front m h)
