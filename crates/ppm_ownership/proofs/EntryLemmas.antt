-- What a callee, two branches and `main` own.
use Rattle.std.proofs.Common.{◌≡◌, ◌≢◌, ◌≤◌, ◌+◌, ◌⊎◌, inl, inr, cond, Bool, true, false, ℕ, suc, List, [], ◌∷◌, ◌++◌, Some, map, length}
use Rattle.std.proofs.Common.{refl, sym, ap, ◌∙◌, subst, arith}
use Rattle.std.specs.Prelude.{Ok}
use Rattle.std.specs.Str.{bytes_eq}
use Rattle.ppm_tree.specs.declared.tree.Parameter.{Parameter}
use Rattle.ppm_tree.specs.declared.tree.Array.{Array}
use Rattle.ppm_tree.specs.Tree.{Side, Argument, ProgramTree}
use Rattle.ppm_tree.specs.State.{Frame, Region, Arrays, empty_frame, entered}
use Rattle.ppm_tree.specs.Program.{whole_from, main_frame}
use Rattle.ppm_regions.specs.Scope.{Declaration, Scope, declared, of_parameter}
use Rattle.ppm_regions.specs.Uses.{Lending, Calls, lendings_of, uses_of_target, uses_of_arguments, uses_of_side, parameters_of, callee_of, lent_by}
use Rattle.ppm_regions.specs.Admission.{IsAdmitted}
use Rattle.ppm_regions.specs.Correct.{KeepsRules}
use Rattle.ppm_ownership.specs.Words.{HasWord}
use Rattle.ppm_ownership.specs.Owning.{OwnsApart, AreSeparate, LieInArrays, words_at}
use Rattle.ppm_regions.specs.Scope.{scope_of}
use Rattle.ppm_ownership.specs.Coming.{callee}
use Rattle.ppm_regions.proofs.ScopeLemmas.{same_names, none_and_some}
use Rattle.ppm_ownership.proofs.ScopeLemmas.{mut_is_region}
use Rattle.ppm_regions.proofs.SiteLemmas.{AreMade, made_right, made_head, made_tail, are_new, callee_sites, sites_of_parameters, same_parameters}
use Rattle.ppm_ownership.proofs.PartLemmas.{ComesFrom, apart_by_origin}
use Rattle.ppm_ownership.proofs.LendLemmas.{NoClash, no_clash_between}
use Rattle.ppm_ownership.proofs.CallLemmas.{AreLent, are_lent}

module _ (t : ProgramTree) (scope : Scope) (f : Frame) (a : Arrays) where
  -- the arguments of a side, held to the parameters of the procedure that it calls
  pub record SideFacts (s : Side) : Type 0 where
    pub uses : AreMade t scope (uses_of_arguments (callee t s).parameters s.arguments)
    pub count : length (callee t s).parameters ≡ length s.arguments

  pub side_facts : KeepsRules t → (s : Side) → AreMade t scope (uses_of_side t s) → SideFacts s
  side_facts rules s made =
      let uses = uses_of_arguments (parameters_of (callee_of t s.callee)) s.arguments in
      let called = made_right t scope (uses_of_target s.callee s.target) (Calls s.callee (length s.arguments) ∷ uses) made in
      let same = same_parameters t t.procedures s.callee.name in
      let c = rules.calls scope s.callee (length s.arguments) (made_head t scope (Calls s.callee (length s.arguments)) uses called) in
      record {
        uses = subst (λ (ps : List Parameter). AreMade t scope (uses_of_arguments ps s.arguments)) same
            (made_tail t scope (Calls s.callee (length s.arguments)) uses called);
        count = ap (λ (ps : List Parameter). length ps) (sym same ∙ ap parameters_of c.found) ∙ c.count;
      }

  -- the regions that a side lends to the procedure that it calls
  abbrev pub lends : Side → List Lending
  lends s = lendings_of (callee t s).parameters s.arguments

  pub lends_are : (s : Side) → lent_by t s ≡ lends s
  lends_are s = ap (λ (ps : List Parameter). lendings_of ps s.arguments) (same_parameters t t.procedures s.callee.name)

  pub callee_lent : KeepsRules t → IsAdmitted t → (s : Side) (g : Frame) → SideFacts s → entered t.procedures f a s ≡ Ok g
      → AreLent f a scope (callee t s).parameters s.arguments empty_frame g
  callee_lent rules admitted s g facts is =
      let p = callee t s in
      let new = are_new t rules [] (scope_of p) (sites_of_parameters t p (callee_sites t s.callee.name)) in
      are_lent f a scope t rules admitted p.parameters s.arguments empty_frame g [] new facts.count facts.uses is

  module _ (ps : List Parameter) (args : List Argument) (g g' : Frame) (h : AreLent f a scope ps args g g') where
    pub lent_from : ComesFrom (map of_parameter ps) g'.regions scope f.regions
    lent_from = record { origin = λ z e found region shown. (h.lent z e found region).origin }

    pub lent_apart : NoClash (lendings_of ps args) → OwnsApart scope f.regions → OwnsApart (map of_parameter ps) g'.regions
    lent_apart none own = record {
      apart = λ z v m k other.
          let b = h.beside none z v m.declaration k.declaration m.found k.found (mut_is_region m.written) k.region other in
          apart_by_origin own b.first.origin b.second.origin m.written
          (λ e. b.no_clash (record { same = sym b.first.named ∙ (e ∙ b.second.named); written = inl (b.first.same_mode ∙ m.written) }));
    }

  module _ (ps ps' : List Parameter) (args args' : List Argument) (g₀ g h₀ h : Frame) (l : AreLent f a scope ps args g₀ g)
      (r : AreLent f a scope ps' args' h₀ h)
      (none : NoClash (lendings_of ps args ++ lendings_of ps' args')) (own : OwnsApart scope f.regions) where
    pub lent_separate : AreSeparate (map of_parameter ps) g.regions (map of_parameter ps') h.regions
    lent_separate = record {
      left = λ k i m o.
          let w = m.writable in
          let p = l.lent m.name w.declaration w.found (mut_is_region w.written) in
          let q = r.lent o.name o.seen.declaration o.seen.found o.seen.region in
          let clash = no_clash_between (lendings_of ps args) (lendings_of ps' args') none p.lending q.lending p.among q.among in
          (apart_by_origin own p.origin q.origin w.written
          (λ e. clash (record { same = sym q.named ∙ (sym e ∙ p.named); written = inr (p.same_mode ∙ w.written) }))).none k i m.has o.has;
      right = λ k i o m.
          let w = m.writable in
          let p = l.lent o.name o.seen.declaration o.seen.found o.seen.region in
          let q = r.lent m.name w.declaration w.found (mut_is_region w.written) in
          let clash = no_clash_between (lendings_of ps args) (lendings_of ps' args') none p.lending q.lending p.among q.among in
          (apart_by_origin own q.origin p.origin w.written
          (λ e. clash (record { same = sym q.named ∙ (e ∙ p.named); written = inl (q.same_mode ∙ w.written) }))).none k i m.has o.has;
    }

-- the whole of an array by whether the first one has the name
abbrev first_whole : ℕ → Array → List Array → Bool → List ℕ → Region
first_whole k b arrays c x = cond c (record { array = k; start = 0; length = b.words }) (whole_from (suc k) arrays x)

-- the whole of an array stands after those in front of it
whole_behind : (k : ℕ) (arrays : List Array) (x : List ℕ) (a i : ℕ) → HasWord (whole_from k arrays x) a i → k ≤ a
whole_behind k [] x a i h = absurd (omega (arith, h.below))
whole_behind k (b ∷ arrays) x a i h = go (bytes_eq b.name.name x) (whole_behind (suc k) arrays x a i) h
  where
    go : (c : Bool) → (HasWord (whole_from (suc k) arrays x) a i → suc k ≤ a)
        → HasWord (first_whole k b arrays c x) a i → k ≤ a
    go true rest h = omega (arith, h.array)
    go false rest h = let l = rest h in omega (arith, l)

-- the whole arrays of two names share no word
wholes_apart : (k : ℕ) (arrays : List Array) (x y : List ℕ) → x ≢ y → (a i : ℕ) → HasWord (whole_from k arrays x) a i → HasWord (whole_from k arrays y) a i → ⊥
wholes_apart k [] x y other a i p q = omega (arith, p.below)
wholes_apart k (b ∷ arrays) x y other a i p q =
    go (bytes_eq b.name.name x) (bytes_eq b.name.name y) refl refl (wholes_apart (suc k) arrays x y other a i) p q
  where
    go : (c d : Bool) → bytes_eq b.name.name x ≡ c → bytes_eq b.name.name y ≡ d
        → (HasWord (whole_from (suc k) arrays x) a i → HasWord (whole_from (suc k) arrays y) a i → ⊥)
        → HasWord (first_whole k b arrays c x) a i → HasWord (first_whole k b arrays d y) a i → ⊥
    go true true e e' rest p q = other (sym (same_names b.name.name x e) ∙ same_names b.name.name y e')
    go true false e e' rest p q = let l = whole_behind (suc k) arrays y a i q in omega (arith, l, p.array)
    go false true e e' rest p q = let l = whole_behind (suc k) arrays x a i p in omega (arith, l, q.array)
    go false false e e' rest p q = rest p q

-- where the whole of an array ends
abbrev Ends : ℕ → List Array → Region → Type 0
Ends k arrays r = (r.start + r.length ≡ 0) ⊎ ((i : ℕ) × (r.array ≡ k + i) × (r.start + r.length ≡ words_at arrays i))

whole_ends : (k : ℕ) (arrays : List Array) (x : List ℕ) → Ends k arrays (whole_from k arrays x)
whole_ends k [] x = inl (omega arith)
whole_ends k (b ∷ arrays) x = go (bytes_eq b.name.name x) (whole_ends (suc k) arrays x)
  where
    go : (c : Bool) → Ends (suc k) arrays (whole_from (suc k) arrays x)
        → Ends k (b ∷ arrays) (first_whole k b arrays c x)
    go true rest = inr (0, omega arith, omega arith)
    go false (inl e) = inl e
    go false (inr d) = inr (suc d.0, d.1 ∙ omega arith, d.2)

-- the parameters of `main` stand for whole arrays
module _ (arrays : List Array) where
  pub main_regions : (ps : List Parameter) (z : List ℕ) (e : Declaration) → declared (map of_parameter ps) z ≡ Some e
      → (main_frame arrays ps).regions z ≡ whole_from 0 arrays z
  main_regions [] z e h = absurd (none_and_some refl h)
  main_regions (p ∷ ps) z e h = go (bytes_eq p.name.name z) refl (main_regions ps z e) h
    where
      go : (c : Bool) → bytes_eq p.name.name z ≡ c → (declared (map of_parameter ps) z ≡ Some e → (main_frame arrays ps).regions z ≡ whole_from 0 arrays z)
          → cond c (Some (of_parameter p)) (declared (map of_parameter ps) z) ≡ Some e
          → cond c (whole_from 0 arrays p.name.name) ((main_frame arrays ps).regions z) ≡ whole_from 0 arrays z
      go true i rest h = ap (whole_from 0 arrays) (same_names p.name.name z i)
      go false i rest h = rest h

  pub main_apart : (ps : List Parameter) → OwnsApart (map of_parameter ps) (main_frame arrays ps).regions
  main_apart ps = record {
    apart = λ z v m k other. record {
      none = λ a i p q. wholes_apart 0 arrays z v other a i (subst (λ (r : Region). HasWord r a i) (main_regions ps z m.declaration m.found) p)
          (subst (λ (r : Region). HasWord r a i) (main_regions ps v k.declaration k.found) q);
    };
  }

  whole_within : (x : List ℕ) → (whole_from 0 arrays x).start + (whole_from 0 arrays x).length ≤ words_at arrays (whole_from 0 arrays x).array
  whole_within x = elim (whole_ends 0 arrays x) [
    | inl e ↦ omega (arith, e)
    | inr d ↦
        let same : words_at arrays (whole_from 0 arrays x).array ≡ words_at arrays d.0 = ap (words_at arrays) (d.1 ∙ omega arith) in
        let end = d.2 in
        omega (arith, same, end)
  ]

  pub main_within : (ps : List Parameter) → LieInArrays arrays (map of_parameter ps) (main_frame arrays ps).regions
  main_within ps = record {
    within = λ x m. subst (λ (r : Region). r.start + r.length ≤ words_at arrays r.array) (sym (main_regions ps x m.declaration m.found)) (whole_within x);
  }
