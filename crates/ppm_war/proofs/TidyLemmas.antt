-- What follows a store: each instruction that a path comes to may follow it.
use Rattle.std.proofs.Common.{◌≡◌, ◌<◌, ◌≤◌, ℕ, zero, suc, List, [], ◌∷◌, length, inl, inr, refl, sym, ap, ◌∙◌, subst, arith, Some, get_or}
use Rattle.std.specs.Prelude.{slice_get}
use Rattle.std.proofs.lemmas.Option.{slice_get_within, slice_get_cases}
use Rattle.ppm_code.specs.declared.code.CodeParts.{CodeParts}
use Rattle.ppm_code.specs.declared.instr.Instr.{Instr}
use Rattle.ppm_code.specs.Paths.{Path, Any}
use Rattle.ppm_code.specs.declared.code.Capsule.{Capsule}
use Rattle.ppm_code.specs.Strands.{instrs_of}
use Rattle.ppm_code.specs.Tidy.{LeadsToBuild, MayFollow, IsTidy, IsTidyCapsule}
use Rattle.ppm_war.specs.Stores.{IsTidyIn}
use Rattle.ppm_war.proofs.CodeLemmas.{instrs_there}

module _ (code : CodeParts) (is : List Instr) (from word : ℕ) where
  -- below a place, each instruction that a path comes to may follow
  abbrev pub FollowsAt : ℕ → Type 0
  FollowsAt at = (i : Instr) → Path is Any from at → slice_get is at ≡ Some i → MayFollow code i word

  -- at all places there are
  pub leads : (n : ℕ) → length is ≤ n → ((at : ℕ) → at < n → FollowsAt at) → LeadsToBuild code is from word
  leads n past below at i p one = below at (omega (arith, past, slice_get_within is at i one)) i p one

  -- at one place
  pub follows_one : (at : ℕ) (i : Instr) → slice_get is at ≡ Some i → (Path is Any from at → MayFollow code i word) → FollowsAt at
  follows_one at i one follows j p other =
      let same : i ≡ j = cc in
      subst (λ (k : Instr). MayFollow code k word) same (follows p)

-- an element that is there
there : (cs : List Capsule) (k : ℕ) (d : Capsule) → k < length cs → slice_get cs k ≡ Some (get_or cs k d)
there [] k d less = absurd (omega (arith, less))
there (c ∷ cs) zero d less = refl
there (c ∷ cs) (suc k) d less = there cs k d (omega (arith, less))

module _ (code : CodeParts) where
  -- a tidy code's capsules by their numbers
  pub tidy_in : IsTidy code → (k : ℕ) → k < length code.capsules → IsTidyIn code k
  tidy_in all k less = elim (slice_get_cases code.capsules k).1 [
    | inl x ↦
        let one = instrs_there code k x.0 x.2 in
        let same : (get_or code.capsules k x.0).instrs ≡ instrs_of code k = ap (λ (c : Capsule). c.instrs) x.3 ∙ one in
        subst (λ (is : List Instr). IsTidyCapsule code is) same (all k x.0 less)
    | inr x ↦ absurd (omega (arith, less, x.0))
  ]

  -- and by their numbers the code's
  pub all_tidy : (n : ℕ) → length code.capsules ≤ n → ((k : ℕ) → k < n → IsTidyIn code k) → IsTidy code
  all_tidy n past below k d less = subst (λ (is : List Instr). IsTidyCapsule code is)
      (sym (instrs_there code k (get_or code.capsules k d) (there code.capsules k d less))) (below k (omega (arith, past, less)))
