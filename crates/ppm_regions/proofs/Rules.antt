-- The rules that an admitted program keeps.
use Rattle.std.proofs.Common.{◌≡◌, ◌≢◌, ◌<◌, ◌≤◌, inl, inr, ℕ, Bool, true, false, List, [], ◌∷◌, Option, Some, None, length, codes, refl, sym, ap, subst, ◌∙◌, arith}
use Rattle.std.specs.Prelude.{not}
use Rattle.std.proofs.lemmas.Bool.{cases_eq, cases_lt}
use Rattle.std.specs.List.{Contains}
use Rattle.ppm_tree.specs.declared.mode.Mode.{Mode}
use Rattle.ppm_tree.specs.declared.mode.Mode.TheVariants as mode
use Rattle.ppm_tree.specs.declared.named.Named.{Named}
use Rattle.ppm_tree.specs.declared.tree.Parameter.{Parameter}
use Rattle.ppm_tree.specs.declared.tree.Array.{Array}
use Rattle.ppm_tree.specs.declared.tree.ArrayInput.{ArrayInput}
use Rattle.ppm_tree.specs.Tree.{Give, Procedure, ProgramTree}
use Rattle.ppm_regions.specs.declared.ask.Ask.{Ask}
use Rattle.ppm_regions.specs.declared.ask.Ask.TheVariants as ask
use Rattle.ppm_regions.specs.declared.region_error.RegionError.{RegionError}
use Rattle.ppm_regions.specs.declared.region_error.RegionError.TheVariants as error
use Rattle.ppm_regions.specs.Scope.{first_named, Declaration, Scope, declared, is_region}
use Rattle.ppm_regions.specs.Uses.{Lending, Use, Asks, NoName, Declares, Calls, Delivers, Lends, Targets, Begins, MainTakes, MainGives, Fills}
use Rattle.ppm_regions.specs.Uses.{callee_of, sites_of}
use Rattle.ppm_regions.specs.Faults.{fits, asks_region, Clashes, array_named, IsWrong}
use Rattle.ppm_regions.specs.Faults as fault
use Rattle.ppm_regions.specs.Admission.{IsAdmitted}
use Rattle.ppm_regions.specs.Correct.{IsDeclared, IsCalled, GivesValue, NamesArray, HasRoom, Makes, KeepsRules, KeepRules}
use Rattle.ppm_regions.proofs.Faultless.{right_at}
use Rattle.ppm_regions.proofs.Names.{not_among}

module _ (t : ProgramTree) (admitted : IsAdmitted t) where
  -- a use of an admitted program is not wrong
  right : (s : Scope) (u : Use) → Makes t s u → (e : RegionError) → ¬ IsWrong t s u e
  right s u made = right_at t (sites_of t) admitted.faultless (record { scope = s; made = u }) made

  -- a test that would show a fault fails
  passes : (b : Bool) → (b ≡ false → ⊥) → b ≡ true
  passes true h = refl
  passes false h = absurd (h refl)

  fails : (b : Bool) → (b ≡ true → ⊥) → b ≡ false
  fails false h = refl
  fails true h = absurd (h refl)

  writable : (m : Mode) → is_region m ≡ true → (m ≡ mode.Ref → ⊥) → m ≡ mode.Mut
  writable mode.Mut region h = refl
  writable mode.Ref region h = absurd (h refl)
  writable mode.Int region h = absurd (cc)

  declared_as : (s : Scope) (a : Ask) (x : Named) → ((e : RegionError) → ¬ IsWrong t s (Asks a x) e) → (o : Option Declaration) → declared s x.name ≡ o → IsDeclared s a x
  declared_as s a x h None is = absurd (h (error.UnknownName x.line) (fault.UnknownName a x is))
  declared_as s a x h (Some d) is = record {
    declaration = d;
    found = is;
    kind = passes (fits a d.mode) (λ e. h (error.WrongKind x.line) (fault.WrongKind a x d is e));
    seen = λ region. fails d.hidden (λ e. h (error.HiddenRegion x.line) (fault.HiddenRegion a x d is region e));
    written = λ is_written. wrote a x d is h is_written;
    assigned = λ is_assigned. set a x d is h is_assigned;
  }
    where
      wrote : (a : Ask) (x : Named) (d : Declaration) → declared s x.name ≡ Some d → ((e : RegionError) → ¬ IsWrong t s (Asks a x) e) → a ≡ ask.Written
          → (d.mode ≡ mode.Mut) × (d.outer ≡ false)
      wrote ask.Written x d is h e =
          let region = passes (is_region d.mode) (λ f. h (error.WrongKind x.line) (fault.WrongKind ask.Written x d is f)) in (
            writable d.mode region (λ f. h (error.WriteToRef x.line) (fault.WriteToRef x d is f)),
            fails d.outer (λ f. h (error.OuterWritten x.line) (fault.OuterWritten x d is region f)),
          )
      wrote ask.Any x d is h e = absurd (cc)
      wrote ask.Local x d is h e = absurd (cc)
      wrote ask.Assigned x d is h e = absurd (cc)
      wrote ask.Region x d is h e = absurd (cc)

      set : (a : Ask) (x : Named) (d : Declaration) → declared s x.name ≡ Some d → ((e : RegionError) → ¬ IsWrong t s (Asks a x) e) → a ≡ ask.Assigned → d.outer ≡ false
      set ask.Assigned x d is h e =
          let kind = passes (not (is_region d.mode)) (λ f. h (error.WrongKind x.line) (fault.WrongKind ask.Assigned x d is f)) in
          fails d.outer (λ f. h (error.OuterAssigned x.line) (fault.OuterAssigned x d is (other (is_region d.mode) kind) f))
        where
          other : (b : Bool) → not b ≡ true → b ≡ false
          other false k = refl
          other true k = absurd (cc)
      set ask.Any x d is h e = absurd (cc)
      set ask.Local x d is h e = absurd (cc)
      set ask.Written x d is h e = absurd (cc)
      set ask.Region x d is h e = absurd (cc)

  new : (s : Scope) (x : Named) → ((e : RegionError) → ¬ IsWrong t s (Declares x) e) → (o : Option Declaration) → declared s x.name ≡ o → declared s x.name ≡ None
  new s x h None is = is
  new s x h (Some d) is = absurd (h (error.TwiceNamed x.line) (fault.TwiceNamed x d is))

  called : (s : Scope) (x : Named) (n : ℕ) → ((e : RegionError) → ¬ IsWrong t s (Calls x n) e) → (o : Option Procedure) → callee_of t x ≡ o → IsCalled t x n
  called s x n h None is = absurd (h (error.UnknownName x.line) (fault.UnknownProcedure x n is))
  called s x n h (Some p) is = record {
    procedure = p;
    found = is;
    count = elim (cases_eq (length p.parameters) n) [ inl e ↦ e | inr e ↦ absurd (h (error.WrongCount x.line) (fault.WrongCount x n p is e)) ];
  }

  valued : (s : Scope) (x : Named) → ((e : RegionError) → ¬ IsWrong t s (Delivers x) e) → (o : Option Procedure) → callee_of t x ≡ o → callee_of t x ≢ None → GivesValue t x
  valued s x h None is there = absurd (there is)
  valued s x h (Some p) is there = record { procedure = p; found = is; gives = λ none. h (error.NoValue x.line) (fault.NoValue x p is none) }

  there : (s : Scope) → ((e : RegionError) → ¬ IsWrong t s Begins e) → first_named (λ p. p.name.name) t.procedures (codes "main") ≢ None
  there s h is = h (error.BadMain 0) (fault.NoMain (λ p c. not_among (λ q. q.name.name) t.procedures (codes "main") is p c))

  names_array : (s : Scope) (p : Parameter) → ((e : RegionError) → ¬ IsWrong t s (MainTakes p) e) → NamesArray t p
  names_array s p h = record {
    mode = λ int. h (error.BadMain p.name.line) (fault.BadParameter p (inl int));
    found = λ none. h (error.BadMain p.name.line) (fault.BadParameter p (inr none));
  }

  has_room : (s : Scope) (i : ArrayInput) → ((e : RegionError) → ¬ IsWrong t s (Fills i) e) → (o : Option Array) → array_named t i.name ≡ o → HasRoom t i
  has_room s i h None is = absurd (h (error.BadInput i.name.line) (fault.NoArray i is))
  has_room s i h (Some a) is = record {
    array = a;
    found = is;
    room = elim (cases_lt a.words (length i.values)) [ inl lt ↦ absurd (h (error.BadInput i.name.line) (fault.TooManyValues i a is lt)) | inr le ↦ le ];
  }

  pub rules : KeepsRules t
  rules = record {
    names = λ s a x made. declared_as s a x (right s (Asks a x) made) (declared s x.name) refl;
    declarations = λ s x made. new s x (right s (Declares x) made) (declared s x.name) refl;
    calls = λ s x n made. called s x n (right s (Calls x n) made) (callee_of t x) refl;
    values = λ s x made. valued s x (right s (Delivers x) made) (callee_of t x) refl;
    lendings = λ s front l m made within clash. right s (Lends front m) made (error.LentTwice m.name.line) (fault.LentTwice front l m within clash);
    arguments = λ s line made. right s (NoName line) made (error.WrongKind line) (fault.NoRegion line);
    targets = λ s x y made same. right s (Targets x y) made (error.TwiceTarget y.line) (fault.TwiceTarget x y same);
    main = λ s made. there s (right s Begins made);
    parameters = λ s p made. names_array s p (right s (MainTakes p) made);
    gives_nothing = λ s g made. right s (MainGives g) made (error.BadMain g.line) (fault.MainHasGive g);
    inputs = λ s i made. has_room s i (right s (Fills i) made) (array_named t i.name) refl;
  }
