-- First faults: of one site, of two lists, and of uses.
use Rattle.std.proofs.Common.{if◌then◌else◌, ◌≡◌, ◌<◌, inl, inr, ℕ, zero, suc, arith, length, slice_index_or, Bool, true, false, List, [], ◌∷◌, ◌++◌, Option, None, Some, map, refl, sym, ap, subst, ◌∙◌}
use Rattle.std.proofs.lemmas.List.{map-append}
use Rattle.std.proofs.lemmas.List.Elements.{Contains-append_left, Contains-append_right, Contains-append_cases}
use Rattle.ppm_tree.specs.Tree.{ProgramTree}
use Rattle.ppm_regions.specs.declared.region_error.RegionError.{RegionError}
use Rattle.ppm_regions.specs.Scope.{Scope}
use Rattle.ppm_regions.specs.Uses.{Use, Site, sites_at}
use Rattle.ppm_regions.specs.Faults.{IsWrong, HasFault}
use Rattle.ppm_regions.specs.Admission.{ComesFirst, IsFirst}
use Rattle.ppm_regions.specs.Deciding.{IsLeast, IsLeastOf, comes_before, earlier_of}
use Rattle.ppm_regions.proofs.Order.{before, not_before, comes_first_same, comes_first_trans}

some_same : {A : Type 0} {x y : A} → Some x ≡ Some y → x ≡ y
some_same p = cc

not_some : {A : Type 0} {x : A} → None ≡ Some x → ⊥
not_some p = cc

not_none : {A : Type 0} {x : A} → Some x ≡ None → ⊥
not_none p = cc

module _ (t : ProgramTree) where
  -- an answer that is a fault
  pub least_some : (sites : List Site) (e : RegionError) → HasFault t sites e → ((o : RegionError) → HasFault t sites o → ComesFirst e o)
      → IsLeast t sites (Some e)
  least_some sites e here first = record {
    none = λ p. absurd (not_none p);
    first = λ o p. subst (IsFirst (HasFault t sites)) (some_same p) (record { here = here; first = first });
  }

  -- an answer that there is none
  pub least_none : (sites : List Site) → ((e : RegionError) → ¬ HasFault t sites e) → IsLeast t sites None
  least_none sites none = record { none = λ p. none; first = λ o p. absurd (not_some p) }

  -- no sites, no fault
  pub least_empty : IsLeast t [] None
  least_empty = least_none [] (λ e h. absurd (let w = h.within in omega arith))

  module _ (xs ys : List Site) where
    on_left : (e : RegionError) → HasFault t xs e → HasFault t (xs ++ ys) e
    on_left e h = record { site = h.site; within = Contains-append_left xs ys h.site h.within; wrong = h.wrong }

    on_right : (e : RegionError) → HasFault t ys e → HasFault t (xs ++ ys) e
    on_right e h = record { site = h.site; within = Contains-append_right xs ys h.site h.within; wrong = h.wrong }

    on_either : (M : Type 0) (e : RegionError) → (HasFault t xs e → M) → (HasFault t ys e → M) → HasFault t (xs ++ ys) e → M
    on_either M e left right h =
        elim (Contains-append_cases xs ys h.site h.within) [
          | inl c ↦ left (record { site = h.site; within = c; wrong = h.wrong })
          | inr c ↦ right (record { site = h.site; within = c; wrong = h.wrong })
        ]

    two_faults : (d e : RegionError) (b : Bool) → comes_before e d ≡ b → IsFirst (HasFault t xs) d → IsFirst (HasFault t ys) e
        → IsLeast t (xs ++ ys) (if b then Some e else Some d)
    two_faults d e true h p q =
        least_some (xs ++ ys) e (on_right e q.here)
        (λ o. on_either (ComesFirst e o) o (λ l. comes_first_trans e d o (before e d h) (p.first o l)) (λ r. q.first o r))
    two_faults d e false h p q =
        least_some (xs ++ ys) d (on_left d p.here)
        (λ o. on_either (ComesFirst d o) o (λ l. p.first o l) (λ r. comes_first_trans d e o (not_before e d h) (q.first o r)))

    -- the first fault of two lists of sites
    pub least_append : (a b : Option RegionError) → IsLeast t xs a → IsLeast t ys b → IsLeast t (xs ++ ys) (earlier_of a b)
    least_append None None p q = least_none (xs ++ ys) (λ e. on_either ⊥ e (p.none refl e) (q.none refl e))
    least_append None (Some e) p q =
        let f = q.first e refl in
        least_some (xs ++ ys) e (on_right e f.here) (λ o. on_either (ComesFirst e o) o (λ l. absurd (p.none refl o l)) (f.first o))
    least_append (Some d) None p q =
        let f = p.first d refl in
        least_some (xs ++ ys) d (on_left d f.here) (λ o. on_either (ComesFirst d o) o (f.first o) (λ r. absurd (q.none refl o r)))
    least_append (Some d) (Some e) p q = two_faults d e (comes_before e d) refl (p.first d refl) (q.first e refl)

  -- the first fault of uses in the same scope
  pub least_uses : (s : Scope) (us vs : List Use) (a b : Option RegionError) → IsLeastOf t s us a → IsLeastOf t s vs b
      → IsLeastOf t s (us ++ vs) (earlier_of a b)
  least_uses s us vs a b p q =
      subst (λ sites. IsLeast t sites (earlier_of a b)) (sym (map-append _ us vs)) (least_append (sites_at s us) (sites_at s vs) a b p q)

  -- the site of one use
  abbrev pub site : Scope → Use → Site
  site s u = record { scope = s; made = u }

  of_one : (s : Scope) (u : Use) (e : RegionError) → HasFault t (site s u ∷ []) e → IsWrong t s u e
  of_one s u e h = go h.within.0 h.within.1 h.within.2
    where
      go : (k : ℕ) → k < length (site s u ∷ []) → slice_index_or (site s u ∷ []) k h.site ≡ h.site → IsWrong t s u e
      go zero within is = subst (λ (x : Site). IsWrong t x.scope x.made e) (sym is) h.wrong
      go (suc k) within is = absurd (omega arith)

  -- a use without a fault
  pub use_right : (s : Scope) (u : Use) → ((e : RegionError) → ¬ IsWrong t s u e) → IsLeastOf t s (u ∷ []) None
  use_right s u none = least_none (site s u ∷ []) (λ e h. none e (of_one s u e h))

  -- a use with a fault, and no lesser one
  pub use_wrong : (s : Scope) (u : Use) (e : RegionError) → IsWrong t s u e → ((o : RegionError) → IsWrong t s u o → ComesFirst e o)
      → IsLeastOf t s (u ∷ []) (Some e)
  use_wrong s u e here first =
      least_some (site s u ∷ []) e (record { site = site s u; within = (0, (omega arith), refl); wrong = here }) (λ o h. first o (of_one s u o h))

  -- a use with one fault
  pub use_wrong_alone : (s : Scope) (u : Use) (e : RegionError) → IsWrong t s u e → ((o : RegionError) → IsWrong t s u o → e ≡ o)
      → IsLeastOf t s (u ∷ []) (Some e)
  use_wrong_alone s u e here only = use_wrong s u e here (λ o h. subst (ComesFirst e) (only o h) (comes_first_same e))
