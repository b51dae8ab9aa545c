-- The first fault of a single use.
use Rattle.std.proofs.Common.{◌≡◌, ◌≢◌, ◌↔◌, ◌<◌, inl, inr, ℕ, Bool, true, false, IsTrue, List, [], ◌∷◌, Option, None, Some, length, refl, sym, ap, subst, ◌∙◌, arith}
use Rattle.std.specs.Prelude.{not, ◌&&◌, if◌then◌else◌}
use Rattle.ppm_tree.specs.Tree.{ProgramTree, Procedure}
use Rattle.ppm_tree.specs.declared.named.Named.{Named}
use Rattle.ppm_tree.specs.declared.mode.Mode.{Mode}
use Rattle.ppm_tree.specs.declared.mode.Mode.TheVariants as mode
use Rattle.ppm_regions.specs.declared.ask.Ask.{Ask}
use Rattle.ppm_regions.specs.declared.ask.Ask.TheVariants as ask
use Rattle.ppm_regions.specs.declared.region_error.RegionError.{RegionError}
use Rattle.ppm_regions.specs.declared.region_error.RegionError.TheVariants as error
use Rattle.ppm_regions.specs.Scope.{Declaration, Scope, declared, is_region}
use Rattle.ppm_regions.specs.Uses.{Use, Asks, Declares, Targets, NoName}
use Rattle.ppm_regions.specs.Faults.{fits, asks_region, IsWrong}
use Rattle.ppm_regions.specs.Faults as fault
use Rattle.ppm_regions.specs.Admission.{ComesFirst, ByNumber, ByLine}
use Rattle.ppm_regions.specs.Deciding.{IsLeastOf, is_written, is_assigned, is_ref, fault_of_declared}
use Rattle.ppm_regions.proofs.Order.{comes_first_same}
use Rattle.ppm_regions.proofs.Least.{use_right, use_wrong, use_wrong_alone}

none_and_some : {A : Type 0} {o : Option A} {x : A} → o ≡ None → o ≡ Some x → ⊥
none_and_some p q = cc

one_value : {A : Type 0} {o : Option A} {x y : A} → o ≡ Some x → o ≡ Some y → x ≡ y
one_value p q = cc

ref_is : (m : Mode) → is_ref m ≡ true → m ≡ mode.Ref
ref_is mode.Ref h = refl
ref_is mode.Mut h = absurd (cc)
ref_is mode.Int h = absurd (cc)

written_is : (a : Ask) → is_written a ≡ true → a ≡ ask.Written
written_is ask.Written h = refl
written_is ask.Any h = absurd (cc)
written_is ask.Local h = absurd (cc)
written_is ask.Assigned h = absurd (cc)
written_is ask.Region h = absurd (cc)

assigned_is : (a : Ask) → is_assigned a ≡ true → a ≡ ask.Assigned
assigned_is ask.Assigned h = refl
assigned_is ask.Any h = absurd (cc)
assigned_is ask.Local h = absurd (cc)
assigned_is ask.Written h = absurd (cc)
assigned_is ask.Region h = absurd (cc)

and_true : (a b : Bool) → (a && b) ≡ true → (a ≡ true) × (b ≡ true)
and_true true true h = (refl, refl)
and_true true false h = absurd (cc)
and_true false b h = absurd (cc)

not_true : (b : Bool) → not b ≡ true → b ≡ false
not_true false h = refl
not_true true h = absurd (cc)

not_false : (b : Bool) → not b ≡ false → b ≡ true
not_false true h = refl
not_false false h = absurd (cc)

true_and_false : {b : Bool} → b ≡ true → b ≡ false → ⊥
true_and_false p q = cc

module _ (t : ProgramTree) (s : Scope) where
  only_unknown : (a : Ask) (x : Named) → declared s x.name ≡ None → (o : RegionError) → IsWrong t s (Asks a x) o → error.UnknownName x.line ≡ o
  only_unknown a x e _ (fault.UnknownName _ _ _) = refl
  only_unknown a x e _ (fault.WrongKind _ _ d p _) = absurd (none_and_some e p)
  only_unknown a x e _ (fault.WriteToRef _ d p _) = absurd (none_and_some e p)
  only_unknown a x e _ (fault.HiddenRegion _ _ d p _ _) = absurd (none_and_some e p)
  only_unknown a x e _ (fault.OuterWritten _ d p _ _) = absurd (none_and_some e p)
  only_unknown a x e _ (fault.OuterAssigned _ d p _ _) = absurd (none_and_some e p)

  -- a name that is not declared
  pub asks_unknown : (a : Ask) (x : Named) → declared s x.name ≡ None → IsLeastOf t s (Asks a x ∷ []) (Some (error.UnknownName x.line))
  asks_unknown a x e = use_wrong_alone t s (Asks a x) (error.UnknownName x.line) (fault.UnknownName a x e) (only_unknown a x e)

  -- what may be wrong with a name that is declared, as the code tests it
  asks_cases : (a : Ask) (x : Named) (d : Declaration) → declared s x.name ≡ Some d → (M : RegionError → Type 0)
      → (not (fits a d.mode) ≡ true → M (error.WrongKind x.line))
      → ((is_written a && is_ref d.mode) ≡ true → M (error.WriteToRef x.line))
      → ((asks_region a && d.hidden) ≡ true → M (error.HiddenRegion x.line))
      → ((is_written a && d.outer) ≡ true → M (error.OuterWritten x.line))
      → ((is_assigned a && d.outer) ≡ true → M (error.OuterAssigned x.line))
      → (o : RegionError) → IsWrong t s (Asks a x) o → M o
  asks_cases a x d is M k r h w v _ (fault.UnknownName _ _ p) = absurd (none_and_some p is)
  asks_cases a x d is M k r h w v _ (fault.WrongKind _ _ e p f) = k (let same = one_value is p in rw (same, f) refl)
  asks_cases a x d is M k r h w v _ (fault.WriteToRef _ e p f) = r (let same = one_value is p in rw (same, f) refl)
  asks_cases a x d is M k r h w v _ (fault.HiddenRegion _ _ e p f g) = h (let same = one_value is p in rw (same, f, g) refl)
  asks_cases a x d is M k r h w v _ (fault.OuterWritten _ e p f g) = w (let same = one_value is p in rw (same, g) refl)
  asks_cases a x d is M k r h w v _ (fault.OuterAssigned _ e p f g) = v (let same = one_value is p in rw (same, g) refl)

  -- what the code's tests show to be wrong
  wrong_kind : (a : Ask) (x : Named) (d : Declaration) → declared s x.name ≡ Some d → not (fits a d.mode) ≡ true → IsWrong t s (Asks a x) (error.WrongKind x.line)
  wrong_kind a x d is h = fault.WrongKind a x d is (not_true (fits a d.mode) h)

  write_to_ref : (a : Ask) (x : Named) (d : Declaration) → declared s x.name ≡ Some d → (is_written a && is_ref d.mode) ≡ true
      → IsWrong t s (Asks a x) (error.WriteToRef x.line)
  write_to_ref a x d is h =
      let both = and_true (is_written a) (is_ref d.mode) h in
      subst (λ b. IsWrong t s (Asks b x) (error.WriteToRef x.line)) (sym (written_is a both.0)) (fault.WriteToRef x d is (ref_is d.mode both.1))

  hidden : (a : Ask) (x : Named) (d : Declaration) → declared s x.name ≡ Some d → (asks_region a && d.hidden) ≡ true
      → IsWrong t s (Asks a x) (error.HiddenRegion x.line)
  hidden a x d is h = let both = and_true (asks_region a) d.hidden h in fault.HiddenRegion a x d is both.0 both.1

  outer_written : (a : Ask) (x : Named) (d : Declaration) → declared s x.name ≡ Some d → not (fits a d.mode) ≡ false → (is_written a && d.outer) ≡ true
      → IsWrong t s (Asks a x) (error.OuterWritten x.line)
  outer_written a x d is kind h =
      let both = and_true (is_written a) d.outer h in
      let written = written_is a both.0 in
      subst (λ b. IsWrong t s (Asks b x) (error.OuterWritten x.line)) (sym written)
      (fault.OuterWritten x d is (not_false (is_region d.mode) (subst (λ b. not (fits b d.mode) ≡ false) written kind)) both.1)

  outer_assigned : (a : Ask) (x : Named) (d : Declaration) → declared s x.name ≡ Some d → not (fits a d.mode) ≡ false → (is_assigned a && d.outer) ≡ true
      → IsWrong t s (Asks a x) (error.OuterAssigned x.line)
  outer_assigned a x d is kind h =
      let both = and_true (is_assigned a) d.outer h in
      let assigned = assigned_is a both.0 in
      subst (λ b. IsWrong t s (Asks b x) (error.OuterAssigned x.line)) (sym assigned)
      (fault.OuterAssigned x d is (not_true (is_region d.mode) (not_false (not (is_region d.mode)) (subst (λ b. not (fits b d.mode) ≡ false) assigned kind))) both.1)

  -- the first of the tests that is passed
  module _ (a : Ask) (x : Named) (d : Declaration) (is : declared s x.name ≡ Some d) where
    abbrev Told : Bool → Bool → Bool → Bool → Bool → Type 0
    Told b1 b2 b3 b4 b5 =
        IsLeastOf t s (Asks a x ∷ [])
        (if b1 then Some (error.WrongKind x.line)
        else (if b2 then Some (error.WriteToRef x.line)
        else (if b3 then Some (error.HiddenRegion x.line)
        else (if b4 then Some (error.OuterWritten x.line)
        else (if b5 then Some (error.OuterAssigned x.line) else None)))))

    told : (b1 b2 b3 b4 b5 : Bool) → not (fits a d.mode) ≡ b1 → (is_written a && is_ref d.mode) ≡ b2 → (asks_region a && d.hidden) ≡ b3
        → (is_written a && d.outer) ≡ b4 → (is_assigned a && d.outer) ≡ b5 → Told b1 b2 b3 b4 b5
    told true b2 b3 b4 b5 p q r u v =
        use_wrong t s (Asks a x) (error.WrongKind x.line) (wrong_kind a x d is p)
        (asks_cases a x d is (ComesFirst (error.WrongKind x.line)) (λ h. comes_first_same _) (λ h. ByNumber (omega arith)) (λ h. ByNumber (omega arith))
        (λ h. ByNumber (omega arith)) (λ h. ByNumber (omega arith)))
    told false true b3 b4 b5 p q r u v =
        use_wrong t s (Asks a x) (error.WriteToRef x.line) (write_to_ref a x d is q)
        (asks_cases a x d is (ComesFirst (error.WriteToRef x.line)) (λ h. absurd (true_and_false h p)) (λ h. comes_first_same _) (λ h. ByNumber (omega arith))
        (λ h. ByNumber (omega arith)) (λ h. ByNumber (omega arith)))
    told false false true b4 b5 p q r u v =
        use_wrong t s (Asks a x) (error.HiddenRegion x.line) (hidden a x d is r)
        (asks_cases a x d is (ComesFirst (error.HiddenRegion x.line)) (λ h. absurd (true_and_false h p)) (λ h. absurd (true_and_false h q))
        (λ h. comes_first_same _) (λ h. ByNumber (omega arith)) (λ h. ByNumber (omega arith)))
    told false false false true b5 p q r u v =
        use_wrong t s (Asks a x) (error.OuterWritten x.line) (outer_written a x d is p u)
        (asks_cases a x d is (ComesFirst (error.OuterWritten x.line)) (λ h. absurd (true_and_false h p)) (λ h. absurd (true_and_false h q))
        (λ h. absurd (true_and_false h r)) (λ h. comes_first_same _) (λ h. ByNumber (omega arith)))
    told false false false false true p q r u v =
        use_wrong t s (Asks a x) (error.OuterAssigned x.line) (outer_assigned a x d is p v)
        (asks_cases a x d is (ComesFirst (error.OuterAssigned x.line)) (λ h. absurd (true_and_false h p)) (λ h. absurd (true_and_false h q))
        (λ h. absurd (true_and_false h r)) (λ h. absurd (true_and_false h u)) (λ h. comes_first_same _))
    told false false false false false p q r u v =
        use_right t s (Asks a x)
        (asks_cases a x d is (λ o. ⊥) (λ h. true_and_false h p) (λ h. true_and_false h q) (λ h. true_and_false h r) (λ h. true_and_false h u)
        (λ h. true_and_false h v))

    -- a name that is declared
    pub asks_declared : IsLeastOf t s (Asks a x ∷ []) (fault_of_declared a d x.line)
    asks_declared = told _ _ _ _ _ refl refl refl refl refl

  only_twice : (x : Named) (o : RegionError) → IsWrong t s (Declares x) o → error.TwiceNamed x.line ≡ o
  only_twice x _ (fault.TwiceNamed _ _ _) = refl

  none_twice : (x : Named) → declared s x.name ≡ None → (o : RegionError) → ¬ IsWrong t s (Declares x) o
  none_twice x e _ (fault.TwiceNamed _ _ p) = none_and_some e p

  -- a name that is declared again, and one that is declared for the first time
  pub declares_twice : (x : Named) (d : Declaration) → declared s x.name ≡ Some d → IsLeastOf t s (Declares x ∷ []) (Some (error.TwiceNamed x.line))
  declares_twice x d is = use_wrong_alone t s (Declares x) (error.TwiceNamed x.line) (fault.TwiceNamed x d is) (only_twice x)

  pub declares_once : (x : Named) → declared s x.name ≡ None → IsLeastOf t s (Declares x ∷ []) None
  declares_once x e = use_right t s (Declares x) (none_twice x e)

  only_one_target : (x y : Named) (o : RegionError) → IsWrong t s (Targets x y) o → error.TwiceTarget y.line ≡ o
  only_one_target x y _ (fault.TwiceTarget _ _ _) = refl

  no_one_target : (x y : Named) → (x.name ≡ y.name → ⊥) → (o : RegionError) → ¬ IsWrong t s (Targets x y) o
  no_one_target x y h _ (fault.TwiceTarget _ _ p) = h p

  -- two targets of one name, and of two
  pub targets_same : (x y : Named) → x.name ≡ y.name → IsLeastOf t s (Targets x y ∷ []) (Some (error.TwiceTarget y.line))
  targets_same x y e = use_wrong_alone t s (Targets x y) (error.TwiceTarget y.line) (fault.TwiceTarget x y e) (only_one_target x y)

  pub targets_differ : (x y : Named) → (x.name ≡ y.name → ⊥) → IsLeastOf t s (Targets x y ∷ []) None
  targets_differ x y h = use_right t s (Targets x y) (no_one_target x y h)

  only_no_name : (line : ℕ) (o : RegionError) → IsWrong t s (NoName line) o → error.WrongKind line ≡ o
  only_no_name line _ (fault.NoRegion _) = refl

  -- an argument for a region that is no name alone
  pub no_name : (line : ℕ) → IsLeastOf t s (NoName line ∷ []) (Some (error.WrongKind line))
  no_name line = use_wrong_alone t s (NoName line) (error.WrongKind line) (fault.NoRegion line) (only_no_name line)
