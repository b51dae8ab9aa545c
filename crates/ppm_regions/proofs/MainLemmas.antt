-- The first fault of a single use at a program's level: `main`, its parameters and its value, and inputs.
use Rattle.std.proofs.Common.{true, false, ◌≡◌, ◌≢◌, ◌<◌, ◌⊎◌, inl, inr, ℕ, List, [], ◌∷◌, Option, None, Some, map, length, codes, refl, subst, sym, arith}
use Rattle.std.specs.List.{Contains}
use Rattle.ppm_tree.specs.declared.mode.Mode.{Mode}
use Rattle.ppm_tree.specs.declared.mode.Mode.TheVariants as mode
use Rattle.ppm_tree.specs.declared.tree.Parameter.{Parameter}
use Rattle.ppm_tree.specs.declared.tree.Array.{Array}
use Rattle.ppm_tree.specs.declared.tree.ArrayInput.{ArrayInput}
use Rattle.ppm_tree.specs.declared.tree.Proc.{Proc}
use Rattle.ppm_tree.specs.Tree.{ProgramTree, Procedure, Give, procedure_of}
use Rattle.ppm_regions.specs.declared.region_error.RegionError.{RegionError}
use Rattle.ppm_regions.specs.declared.region_error.RegionError.TheVariants as error
use Rattle.ppm_regions.specs.Scope.{Scope, is_region}
use Rattle.ppm_regions.specs.Uses.{Begins, MainTakes, MainGives, Fills}
use Rattle.ppm_regions.specs.Faults.{IsWrong, array_named}
use Rattle.ppm_regions.specs.Faults as fault
use Rattle.ppm_regions.specs.Deciding.{HasOne, IsNamedMain, IsLeastOf}
use Rattle.ppm_regions.proofs.Elements.{contains_map, contains_back}
use Rattle.ppm_regions.proofs.Least.{use_right, use_wrong_alone}

none_and_some : {A : Type 0} {o : Option A} {x : A} → o ≡ None → o ≡ Some x → ⊥
none_and_some p q = cc

one_value : {A : Type 0} {o : Option A} {x y : A} → o ≡ Some x → o ≡ Some y → x ≡ y
one_value p q = cc

-- what is no region is a number
pub number_is : (m : Mode) → is_region m ≡ false → m ≡ mode.Int
number_is mode.Int h = refl
number_is mode.Mut h = absurd (cc)
number_is mode.Ref h = absurd (cc)

module _ (t : ProgramTree) (s : Scope) where
  only_begin : (o : RegionError) → IsWrong t s Begins o → error.BadMain 0 ≡ o
  only_begin _ (fault.NoMain _) = refl

  -- no procedure is `main`, or one is
  pub begins_nowhere : (procs : List Proc) → t.procedures ≡ map procedure_of procs → ¬ HasOne IsNamedMain procs
      → IsLeastOf t s (Begins ∷ []) (Some (error.BadMain 0))
  begins_nowhere procs is none =
      use_wrong_alone t s Begins (error.BadMain 0)
      (fault.NoMain (λ p within named. let b = contains_back procedure_of p procs (subst (λ ps. Contains ps p) is within) in
      none (b.0, b.1, record { named = subst (λ (q : Procedure). q.name.name ≡ codes "main") (sym b.2) named })))
      only_begin

  has_begin : (procs : List Proc) → t.procedures ≡ map procedure_of procs → HasOne IsNamedMain procs → (o : RegionError) → ¬ IsWrong t s Begins o
  has_begin procs is one _ (fault.NoMain none) = none (procedure_of one.0) (subst (λ ps. Contains ps (procedure_of one.0)) (sym is) (contains_map procedure_of one.0 procs one.1)) one.2.named

  pub begins_somewhere : (procs : List Proc) → t.procedures ≡ map procedure_of procs → HasOne IsNamedMain procs → IsLeastOf t s (Begins ∷ []) None
  begins_somewhere procs is one = use_right t s Begins (has_begin procs is one)

  only_parameter : (p : Parameter) (o : RegionError) → IsWrong t s (MainTakes p) o → error.BadMain p.name.line ≡ o
  only_parameter p _ (fault.BadParameter _ _) = refl

  -- a bad parameter of `main`, and a good one
  pub takes_wrong : (p : Parameter) → (p.mode ≡ mode.Int) ⊎ (array_named t p.name ≡ None) → IsLeastOf t s (MainTakes p ∷ []) (Some (error.BadMain p.name.line))
  takes_wrong p bad = use_wrong_alone t s (MainTakes p) (error.BadMain p.name.line) (fault.BadParameter p bad) (only_parameter p)

  no_bad : (p : Parameter) (a : Array) → p.mode ≢ mode.Int → array_named t p.name ≡ Some a → (o : RegionError) → ¬ IsWrong t s (MainTakes p) o
  no_bad p a region is _ (fault.BadParameter _ bad) = elim bad [ inl e ↦ region e | inr e ↦ none_and_some e is ]

  pub takes_right : (p : Parameter) (a : Array) → p.mode ≢ mode.Int → array_named t p.name ≡ Some a → IsLeastOf t s (MainTakes p ∷ []) None
  takes_right p a region is = use_right t s (MainTakes p) (no_bad p a region is)

  only_give : (g : Give) (o : RegionError) → IsWrong t s (MainGives g) o → error.BadMain g.line ≡ o
  only_give g _ (fault.MainHasGive _) = refl

  -- `main` gives a value
  pub gives_wrong : (g : Give) → IsLeastOf t s (MainGives g ∷ []) (Some (error.BadMain g.line))
  gives_wrong g = use_wrong_alone t s (MainGives g) (error.BadMain g.line) (fault.MainHasGive g) (only_give g)

  only_input : (i : ArrayInput) (o : RegionError) → IsWrong t s (Fills i) o → error.BadInput i.name.line ≡ o
  only_input i _ (fault.NoArray _ _) = refl
  only_input i _ (fault.TooManyValues _ _ _ _) = refl

  -- an input without an array, one with too many values, and a good one
  pub fills_none : (i : ArrayInput) → array_named t i.name ≡ None → IsLeastOf t s (Fills i ∷ []) (Some (error.BadInput i.name.line))
  fills_none i e = use_wrong_alone t s (Fills i) (error.BadInput i.name.line) (fault.NoArray i e) (only_input i)

  pub fills_past : (i : ArrayInput) (a : Array) → array_named t i.name ≡ Some a → a.words < length i.values
      → IsLeastOf t s (Fills i ∷ []) (Some (error.BadInput i.name.line))
  fills_past i a is past = use_wrong_alone t s (Fills i) (error.BadInput i.name.line) (fault.TooManyValues i a is past) (only_input i)

  no_past : (i : ArrayInput) (a : Array) → array_named t i.name ≡ Some a → (a.words < length i.values → ⊥) → (o : RegionError) → ¬ IsWrong t s (Fills i) o
  no_past i a is fits _ (fault.NoArray _ e) = none_and_some e is
  no_past i a is fits _ (fault.TooManyValues _ b there past) = fits (subst (λ (c : Array). c.words < length i.values) (one_value there is) past)

  pub fills_right : (i : ArrayInput) (a : Array) → array_named t i.name ≡ Some a → (a.words < length i.values → ⊥) → IsLeastOf t s (Fills i ∷ []) None
  fills_right i a is fits = use_right t s (Fills i) (no_past i a is fits)
