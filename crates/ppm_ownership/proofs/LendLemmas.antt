-- Lendings that stand together do not clash, and what an argument lends may be lent.
use Rattle.std.proofs.Common.{◌≡◌, true, false, ℕ, List, [], ◌∷◌, ◌++◌, Some, refl, sym, subst, arith}
use Rattle.std.specs.List.{Contains}
use Rattle.std.proofs.lemmas.List.Elements.{Contains-append_left, Contains-append_right, Contains-push}
use Rattle.ppm_tree.specs.declared.mode.Mode.{Mode}
use Rattle.ppm_tree.specs.declared.mode.Mode.TheVariants as mode
use Rattle.ppm_tree.specs.declared.named.Named.{Named}
use Rattle.ppm_tree.specs.Tree.{Expression, Name, ProgramTree}
use Rattle.ppm_regions.specs.declared.ask.Ask.{Ask}
use Rattle.ppm_regions.specs.declared.ask.Ask.TheVariants as ask
use Rattle.ppm_regions.specs.declared.region_error.RegionError.TheVariants as error
use Rattle.ppm_regions.specs.Scope.{Declaration, Scope, declared, is_region}
use Rattle.ppm_regions.specs.Uses.{Lending, Asks, NoName, Lends, lending_of, lent_together, uses_of_argument, uses_in}
use Rattle.ppm_regions.specs.Faults.{Clashes}
use Rattle.ppm_regions.specs.Faults as fault
use Rattle.ppm_regions.specs.Admission.{IsAdmitted}
use Rattle.ppm_regions.specs.Correct.{Makes, KeepsRules}
use Rattle.ppm_regions.proofs.Elements.{contains_head, contains_cases}
use Rattle.ppm_regions.proofs.SiteLemmas.{AreMade, made_head, made_tail}

-- no lending clashes with one in front of it
abbrev pub NoClash : List Lending → Type 0
NoClash [] = Unit {0}
NoClash (l ∷ more) = ((m : Lending) → Contains more m → ¬ Clashes m l) × NoClash more

pub no_clash_right : (xs ys : List Lending) → NoClash (xs ++ ys) → NoClash ys
no_clash_right [] ys h = h
no_clash_right (x ∷ xs) ys h = no_clash_right xs ys h.1

pub no_clash_left : (xs ys : List Lending) → NoClash (xs ++ ys) → NoClash xs
no_clash_left [] ys h = tt
no_clash_left (x ∷ xs) ys h = (λ m c. h.0 m (Contains-append_left xs ys m c), no_clash_left xs ys h.1)

pub no_clash_between : (xs ys : List Lending) → NoClash (xs ++ ys) → (l m : Lending) → Contains xs l → Contains ys m → ¬ Clashes m l
no_clash_between [] ys h l m c d = absurd (omega (arith, c.1))
no_clash_between (x ∷ xs) ys h l m c d =
    contains_cases (¬ Clashes m l) x l xs (λ same. subst (λ (l : Lending). ¬ Clashes m l) same (h.0 m (Contains-append_right xs ys m d)))
    (λ later. no_clash_between xs ys h.1 l m later d) c

module _ (t : ProgramTree) (scope : Scope) (rules : KeepsRules t) where
  none_clashes : (front ls : List Lending) → AreMade t scope (lent_together front ls) → (l m : Lending) → Contains front l → Contains ls m → ¬ Clashes m l
  none_clashes front [] made l m c d = absurd (omega (arith, d.1))
  none_clashes front (n ∷ ls) made l m c d =
      contains_cases (¬ Clashes m l) n m ls
      (λ same. subst (λ (m : Lending). ¬ Clashes m l) same (rules.lendings scope front l n
      (made_head t scope (Lends front n) (lent_together (front ++ n ∷ []) ls) made) c))
      (λ later. none_clashes (front ++ n ∷ []) ls (made_tail t scope (Lends front n) (lent_together (front ++ n ∷ []) ls) made) l m
      (Contains-append_left front (n ∷ []) l c) later) d

  pub no_clash : (front ls : List Lending) → AreMade t scope (lent_together front ls) → NoClash ls
  no_clash front [] made = tt
  no_clash front (n ∷ ls) made =
      let rest = made_tail t scope (Lends front n) (lent_together (front ++ n ∷ []) ls) made in
      (λ m c. none_clashes (front ++ n ∷ []) ls rest n m (Contains-push front n) c, no_clash (front ++ n ∷ []) ls rest)

-- what a name is asked for that is lent in this mode
abbrev pub ask_for : Mode → Ask
ask_for mode.Mut = ask.Written
ask_for mode.Ref = ask.Region
ask_for mode.Int = ask.Local

-- a name that is lent in this mode may be used so
pub record MayLend (scope : Scope) (m : Mode) (x : Named) : Type 0 where
  pub declaration : Declaration
  pub found : declared scope x.name ≡ Some declaration
  pub region : is_region declaration.mode ≡ true
  pub shown : declaration.hidden ≡ false
  pub written : m ≡ mode.Mut → (declaration.mode ≡ mode.Mut) × (declaration.outer ≡ false)

module _ (t : ProgramTree) (scope : Scope) (rules : KeepsRules t) (admitted : IsAdmitted t) where
  pub may_lend : (m : Mode) (x : Named) → is_region m ≡ true → Makes t scope (Asks (ask_for m) x) → MayLend scope m x
  may_lend mode.Mut x region made =
      let d = rules.names scope ask.Written x made in
      record { declaration = d.declaration; found = d.found; region = d.kind; shown = d.seen refl; written = λ e. d.written refl }
  may_lend mode.Ref x region made =
      let d = rules.names scope ask.Region x made in
      record { declaration = d.declaration; found = d.found; region = d.kind; shown = d.seen refl; written = λ e. absurd (cc) }
  may_lend mode.Int x region made = absurd (cc)

  -- each argument for a region is a name
  no_name : (line : ℕ) → Makes t scope (NoName line) → ⊥
  no_name line made =
      admitted.faultless (error.WrongKind line)
      (record { site = record { scope = scope; made = NoName line }; within = made; wrong = fault.NoRegion line })

  pub lent_name : (m : Mode) (line : ℕ) (v : Expression) → is_region m ≡ true → AreMade t scope (uses_of_argument m (record { line = line; value = v }))
      → (x : Named) × (v ≡ Name x) × Makes t scope (Asks (ask_for m) x)
  lent_name mode.Mut line (Name x) region made = (x, refl, made_head t scope (Asks ask.Written x) [] made)
  lent_name mode.Ref line (Name x) region made = (x, refl, made_head t scope (Asks ask.Region x) [] made)
  lent_name mode.Int line v region made = absurd (cc)
  lent_name mode.Mut line v region made = absurd (no_name line (made_head t scope (NoName line) (uses_in v) made))
  lent_name mode.Ref line v region made = absurd (no_name line (made_head t scope (NoName line) (uses_in v) made))

-- the lending of such an argument
pub lending_is : (m : Mode) (x : Named) (v : Expression) → is_region m ≡ true → v ≡ Name x → Contains (lending_of m v) (record { mode = m; name = x })
lending_is mode.Mut x v region e =
    subst (λ (v : Expression). Contains (lending_of mode.Mut v) (record { mode = mode.Mut; name = x })) (sym e) (contains_head _ [])
lending_is mode.Ref x v region e =
    subst (λ (v : Expression). Contains (lending_of mode.Ref v) (record { mode = mode.Ref; name = x })) (sym e) (contains_head _ [])
lending_is mode.Int x v region e = absurd (cc)
