-- What may be used after a statement might be so before it.
use Rattle.std.proofs.Common.{◌≡◌, ◌≢◌, ◌⊎◌, inl, inr, cond, Bool, true, false, ℕ, List, [], ◌∷◌, ◌++◌, Option, Some, None, map, refl, sym, ap, ◌∙◌}
use Rattle.std.specs.Str.{bytes_eq}
use Rattle.std.proofs.lemmas.Slice.Eq.{bytes_eq-Decides}
use Rattle.std.specs.Option.{option_map}
use Rattle.ppm_tree.specs.declared.mode.Mode.{Mode}
use Rattle.ppm_tree.specs.declared.mode.Mode.TheVariants as mode
use Rattle.ppm_tree.specs.Tree.{Statement, Let, Assign, Put, If, While, Split, Each}
use Rattle.ppm_tree.specs.Tree as tree
use Rattle.ppm_regions.specs.Scope.{Declaration, Scope, declared, is_region, lets_of, plain}
use Rattle.ppm_regions.proofs.ScopeLemmas.{found_cases, none_and_some, some_same, declared_in_front, declared_behind}
use Rattle.ppm_ownership.specs.Owning.{IsSeen, IsMut, IsWritable, Owns, MayWrite}
use Rattle.ppm_tree.specs.State.{Regions}

-- a statement declares no region
lets_no_region : (s : Statement) (x : List ℕ) (d : Declaration) → declared (lets_of s) x ≡ Some d → is_region d.mode ≡ true → ⊥
lets_no_region (Let y e) x d h region = go (bytes_eq y.name x) h
  where
    go : (b : Bool) → cond b (Some (plain mode.Int y)) None ≡ Some d → ⊥
    go true h = let e = ap (λ (d : Declaration). is_region d.mode) (some_same {o = Some (plain mode.Int y)} refl h) in absurd (cc)
    go false h = none_and_some refl h
lets_no_region (Assign y e) x d h region = none_and_some refl h
lets_no_region (Put y i e) x d h region = none_and_some refl h
lets_no_region (If e s t) x d h region = none_and_some refl h
lets_no_region (While e s) x d h region = none_and_some refl h
lets_no_region (tree.Call s) x d h region = none_and_some refl h
lets_no_region (tree.Fork s t) x d h region = none_and_some refl h
lets_no_region (Split l r e y z s) x d h region = none_and_some refl h
lets_no_region (Each i y r s) x d h region = none_and_some refl h

-- a region in force after a statement was in force before it
found_before : (scope : Scope) (s : Statement) (x : List ℕ) (d : Declaration) → declared (scope ++ lets_of s) x ≡ Some d → is_region d.mode ≡ true
    → declared scope x ≡ Some d
found_before scope s x d h region = elim (found_cases (declared scope x)) [
  | inl none ↦ absurd (lets_no_region s x d (sym (declared_behind x scope (lets_of s) none) ∙ h) region)
  | inr c ↦ c.1 ∙ ap Some (some_same (declared_in_front x scope (lets_of s) c.0 c.1) h)
]

pub mut_is_region : {m : Mode} → m ≡ mode.Mut → is_region m ≡ true
mut_is_region e = ap is_region e

pub seen_before : (scope : Scope) (s : Statement) (x : List ℕ) → IsSeen (scope ++ lets_of s) x → IsSeen scope x
seen_before scope s x h =
    record { declaration = h.declaration; found = found_before scope s x h.declaration h.found h.region; region = h.region; shown = h.shown }

pub mut_before : (scope : Scope) (s : Statement) (x : List ℕ) → IsMut (scope ++ lets_of s) x → IsMut scope x
mut_before scope s x h = record {
  declaration = h.declaration;
  found = found_before scope s x h.declaration h.found (mut_is_region h.written);
  written = h.written;
  shown = h.shown;
}

pub writable_before : (scope : Scope) (s : Statement) (x : List ℕ) → IsWritable (scope ++ lets_of s) x → IsWritable scope x
writable_before scope s x h = record {
  declaration = h.declaration;
  found = found_before scope s x h.declaration h.found (mut_is_region h.written);
  written = h.written;
  shown = h.shown;
  inner = h.inner;
}

-- what may be written may be used
abbrev pub writable_seen : (scope : Scope) (x : List ℕ) → IsWritable scope x → IsSeen scope x
writable_seen scope x h = record { declaration = h.declaration; found = h.found; region = mut_is_region h.written; shown = h.shown }

pub owned_before : (scope : Scope) (s : Statement) (regions : Regions) (a i : ℕ) → Owns (scope ++ lets_of s) regions a i → Owns scope regions a i
owned_before scope s regions a i h = record { name = h.name; seen = seen_before scope s h.name h.seen; has = h.has }

pub written_before : (scope : Scope) (s : Statement) (regions : Regions) (a i : ℕ) → MayWrite (scope ++ lets_of s) regions a i → MayWrite scope regions a i
written_before scope s regions a i h = record { name = h.name; writable = writable_before scope s h.name h.writable; has = h.has }

pub written_owned : (scope : Scope) (regions : Regions) (a i : ℕ) → MayWrite scope regions a i → Owns scope regions a i
written_owned scope regions a i h = record { name = h.name; seen = writable_seen scope h.name h.writable; has = h.has }
