-- First faults in loops over lists: a step, and the end.
use Rattle.std.proofs.Common.{◌≡◌, ◌<◌, ◌≤◌, ◌+◌, ℕ, List, [], ◌∷◌, ◌++◌, Option, map, take, length, get_or, refl, sym, ap, subst, ◌∙◌, append_assoc}
use Rattle.std.specs.List.{flat_map}
use Rattle.std.proofs.lemmas.List.{take_more, take_all, map-append, append-nil}
use Rattle.ppm_tree.specs.Tree.{ProgramTree, Block, statement_of, block_of}
use Rattle.ppm_tree.specs.declared.tree.Stmt.{Stmt}
use Rattle.ppm_regions.specs.declared.region_error.RegionError.{RegionError}
use Rattle.ppm_tree.specs.declared.mode.Mode.TheVariants as mode
use Rattle.ppm_tree.specs.declared.named.Named.{Named}
use Rattle.ppm_regions.specs.Scope.{Declaration, Scope, plain, lets_of, scope_behind}
use Rattle.ppm_regions.specs.Uses.{sites_of_names, Use, Lends, Lending, Declares, Site, sites_at, lent_together, declaration_sites, uses_of, sites_within, sites_of_block}
use Rattle.ppm_regions.specs.Deciding.{IsLeast, earlier_of}
use Rattle.ppm_regions.proofs.Least.{least_append}

-- a list whose sites are those of its elements, one after the other
module _ (t : ProgramTree) {A : Type 0} (all : List A → List Site) (one : List A → A → List Site)
    (more : (xs : List A) (x : A) → all (xs ++ x ∷ []) ≡ all xs ++ one xs x) where
  pub loop_step : (xs : List A) (i : ℕ) (x : A) (a b : Option RegionError) → i < length xs → x ≡ get_or xs i x
      → IsLeast t (all (take i xs)) a → IsLeast t (one (take i xs) x) b → IsLeast t (all (take (i + 1) xs)) (earlier_of a b)
  loop_step xs i x a b in' at p q =
      let next = take_more xs i x in' ∙ ap (λ y. take i xs ++ (y ∷ [])) (sym at) in
      subst (λ sites. IsLeast t sites (earlier_of a b)) (sym (ap all next ∙ more (take i xs) x)) (least_append t (all (take i xs)) (one (take i xs) x) a b p q)

  pub loop_end : (xs : List A) (i : ℕ) (a : Option RegionError) → length xs ≤ i → IsLeast t (all (take i xs)) a → IsLeast t (all xs) a
  loop_end xs i a past p = subst (λ ys. IsLeast t (all ys) a) (take_all i xs past) p

-- uses that are made of elements
pub sites_more : {A : Type 0} (f : A → Use) (s : Scope) (xs : List A) (x : A) → sites_at s (map f (xs ++ x ∷ [])) ≡ sites_at s (map f xs) ++ sites_at s (f x ∷ [])
sites_more f s xs x = ap (sites_at s) (map-append f xs (x ∷ [])) ∙ map-append _ (map f xs) (f x ∷ [])

-- sites that elements have
pub flat_more : {A B C : Type 0} (g : A → B) (f : B → List C) (xs : List A) (x : A) → flat_map f (map g (xs ++ x ∷ [])) ≡ flat_map f (map g xs) ++ f (g x)
flat_more g f [] x = append-nil (f (g x))
flat_more g f (y ∷ xs) x = ap (λ zs. f (g y) ++ zs) (flat_more g f xs x) ∙ sym (append_assoc (f (g y)) (flat_map f (map g xs)) (f (g x)))

-- uses that elements have
pub flat_sites_more : {A B : Type 0} (g : A → B) (f : B → List Use) (s : Scope) (xs : List A) (x : A)
    → sites_at s (flat_map f (map g (xs ++ x ∷ []))) ≡ sites_at s (flat_map f (map g xs)) ++ sites_at s (f (g x))
flat_sites_more g f s xs x = ap (sites_at s) (flat_more g f xs x) ∙ map-append _ (flat_map f (map g xs)) (f (g x))

-- regions that are lent together
pub lent_more : (front : List Lending) (s : Scope) (ls : List Lending) (l : Lending)
    → sites_at s (lent_together front (ls ++ l ∷ [])) ≡ sites_at s (lent_together front ls) ++ sites_at s (Lends (front ++ ls) l ∷ [])
lent_more front s [] l = rw (append-nil front) refl
lent_more front s (m ∷ ls) l =
    let there : (front ++ m ∷ []) ++ ls ≡ front ++ m ∷ ls = append_assoc front (m ∷ []) ls in
    ap (λ sites. record { scope = s; made = Lends front m } ∷ sites)
    (lent_more (front ++ m ∷ []) s ls l ∙ ap (λ zs. sites_at s (lent_together (front ++ m ∷ []) ls) ++ sites_at s (Lends zs l ∷ [])) there)

-- what is declared one after the other
pub declared_more : (s : Scope) (ds : List Declaration) (d : Declaration)
    → declaration_sites s (ds ++ d ∷ []) ≡ declaration_sites s ds ++ declaration_sites (s ++ ds) (d ∷ [])
declared_more s [] d = rw (append-nil s) refl
declared_more s (e ∷ ds) d =
    let there : (s ++ e ∷ []) ++ ds ≡ s ++ e ∷ ds = append_assoc s (e ∷ []) ds in
    ap (λ sites. record { scope = s; made = Declares e.name } ∷ sites)
    (declared_more (s ++ e ∷ []) ds d ∙ ap (λ zs. declaration_sites (s ++ e ∷ []) ds ++ declaration_sites zs (d ∷ [])) there)

-- statements of a block
pub behind_more : (s : Scope) (xs : List Stmt) (x : Stmt)
    → scope_behind s (block_of (xs ++ x ∷ [])) ≡ scope_behind s (block_of xs) ++ lets_of (statement_of x)
behind_more s [] x = refl
behind_more s (y ∷ xs) x = behind_more (s ++ lets_of (statement_of y)) xs x

-- the sites that a statement adds to a block
abbrev pub statement_sites : ProgramTree → Scope → Stmt → List Site
statement_sites t s x =
    sites_at s (uses_of t (statement_of x)) ++ sites_within t s (statement_of x) ++ declaration_sites s (lets_of (statement_of x))

pub block_more : (t : ProgramTree) (s : Scope) (xs : List Stmt) (x : Stmt)
    → sites_of_block t s (block_of (xs ++ x ∷ [])) ≡ sites_of_block t s (block_of xs) ++ statement_sites t (scope_behind s (block_of xs)) x
block_more t s [] x = simp (append-nil) refl
block_more t s (y ∷ xs) x =
    rw (block_more t (s ++ lets_of (statement_of y)) xs x) (simp (append_assoc) refl)

-- what the images of elements declare
pub declared_more_of : {A : Type 0} (f : A → Declaration) (s : Scope) (xs : List A) (x : A)
    → declaration_sites s (map f (xs ++ x ∷ [])) ≡ declaration_sites s (map f xs) ++ declaration_sites (s ++ map f xs) (f x ∷ [])
declared_more_of f s xs x = ap (declaration_sites s) (map-append f xs (x ∷ [])) ∙ declared_more s (map f xs) (f x)

-- the scope after one more of them
pub declared_scope_of : {A : Type 0} (f : A → Declaration) (s : Scope) (xs : List A) (i : ℕ) (x : A) (before after : Scope) (d : Declaration)
    → i < length xs → x ≡ get_or xs i x → before ≡ s ++ map f (take i xs) → d ≡ f x → after ≡ before ++ d ∷ [] → after ≡ s ++ map f (take (i + 1) xs)
declared_scope_of f s xs i x before after d in' at p q r =
    let next = take_more xs i x in' ∙ ap (λ y. take i xs ++ (y ∷ [])) (sym at) in
    rw (r, p, q, next, map-append f (take i xs) (x ∷ [])) (append_assoc s (map f (take i xs)) (f x ∷ []))

-- what is in force after one more statement
pub behind_next : (s : Scope) (xs : List Stmt) (i : ℕ) (x : Stmt) (before after : Scope) → i < length xs → x ≡ get_or xs i x
    → before ≡ scope_behind s (block_of (take i xs)) → after ≡ before ++ lets_of (statement_of x) → after ≡ scope_behind s (block_of (take (i + 1) xs))
behind_next s xs i x before after in' at p q =
    let next = take_more xs i x in' ∙ ap (λ y. take i xs ++ (y ∷ [])) (sym at) in
    q ∙ ap (λ z. z ++ lets_of (statement_of x)) p ∙ sym (behind_more s (take i xs) x) ∙ ap (λ ys. scope_behind s (block_of ys)) (sym next)

-- names that stand beside one another
pub names_more : {A : Type 0} (f : A → Named) (xs : List A) (x : A)
    → sites_of_names (map f (xs ++ x ∷ [])) ≡ sites_of_names (map f xs) ++ declaration_sites (map (plain mode.Int) (map f xs)) (plain mode.Int (f x) ∷ [])
names_more f xs x =
    ap sites_of_names (map-append f xs (x ∷ [])) ∙ ap (declaration_sites []) (map-append (plain mode.Int) (map f xs) (f x ∷ []))
    ∙ declared_more [] (map (plain mode.Int) (map f xs)) (plain mode.Int (f x))

-- the names after one more of them
pub names_next : {A : Type 0} (f : A → Named) (xs : List A) (i : ℕ) (x : A) (before after : Scope) (d : Declaration) → i < length xs → x ≡ get_or xs i x
    → before ≡ map (plain mode.Int) (map f (take i xs)) → d ≡ plain mode.Int (f x) → after ≡ before ++ d ∷ []
    → after ≡ map (plain mode.Int) (map f (take (i + 1) xs))
names_next f xs i x before after d in' at p q r =
    let next = take_more xs i x in' ∙ ap (λ y. take i xs ++ (y ∷ [])) (sym at) in
    rw (r, p, q, next, map-append f (take i xs) (x ∷ []), map-append (plain mode.Int) (map f (take i xs)) (f x ∷ [])) refl
