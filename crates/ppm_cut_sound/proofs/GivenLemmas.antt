-- The regions that a call gives to its callee, whatever the values of its other arguments are.
use Rattle.std.proofs.Common.{◌≡◌, ◌≤◌, ◌<◌, ℕ, suc, ◌+◌, cond, Bool, true, false, List, [], ◌∷◌, ◌++◌}
use Rattle.std.proofs.Common.{Some, length, map, refl, sym, ap, ◌∙◌, subst, arith}
use Rattle.std.specs.Prelude.{pos, Ok}
use Rattle.std.specs.Str.{bytes_eq}
use Rattle.ppm_code.specs.Acts.{held}
use Rattle.ppm_tree.specs.declared.mode.Mode.{Mode}
use Rattle.ppm_tree.specs.declared.mode.Mode.TheVariants as mode
use Rattle.ppm_tree.specs.declared.tree.Parameter.{Parameter}
use Rattle.ppm_tree.specs.Tree.{Expression, Argument, Side, Statement, Block, Nil, Then, Procedure, ProgramTree}
use Rattle.ppm_tree.specs.Tree as tree
use Rattle.ppm_tree.specs.State.{Frame, Region, empty_frame, lent, with_region, with_local, with_arguments, then_with, with_argument}
use Rattle.ppm_regions.specs.Scope.{Declaration, Scope, declared, is_region, of_parameter, scope_of}
use Rattle.ppm_regions.specs.Admission.{IsAdmitted}
use Rattle.ppm_regions.specs.Correct.{KeepsRules, Makes}
use Rattle.ppm_regions.specs.Uses.{Lending, lendings_of, uses_of_arguments, uses_of_argument, lending_of, Use}
use Rattle.ppm_regions.proofs.ScopeLemmas.{same_names, none_and_some, some_same}
use Rattle.ppm_regions.proofs.SiteLemmas.{AreMade, made_head, made_left, made_right, are_new, callee_sites, sites_of_parameters, made_tail}
use Rattle.ppm_regions.proofs.Elements.{contains_cases}
use Rattle.ppm_ownership.specs.Coming.{callee}
use Rattle.ppm_ownership.proofs.CallLemmas.{AreLent, are_lent}
use Rattle.ppm_ownership.proofs.EntryLemmas.{SideFacts}
use Rattle.ppm_cut_code.specs.Layout.{slot_of, parameter_layout, register}
use Rattle.ppm_cut_code.specs.Statements.{paired}
use Rattle.ppm_cut_code.specs.Fits.{IsNew, IsDistinctLayout}
use Rattle.ppm_cut_sound.proofs.TameLemmas.{Keeps}

-- an argument with 0 in place of a value
abbrev pub plain_argument : Mode → Argument → Argument
plain_argument mode.Int a = record { line = a.line; value = tree.Number (pos 0) }
plain_argument mode.Mut a = a
plain_argument mode.Ref a = a

abbrev pub plain_arguments : List Parameter → List Argument → List Argument
plain_arguments [] args = args
plain_arguments (p ∷ ps) [] = []
plain_arguments (p ∷ ps) (a ∷ args) = plain_argument p.mode a ∷ plain_arguments ps args

module _ (f : Frame) where
  abbrev pub given_one : Mode → List ℕ → Expression → Frame → Frame
  given_one mode.Int x e g = with_local g x (pos 0)
  given_one mode.Mut x e g = with_region g x (lent f e)
  given_one mode.Ref x e g = with_region g x (lent f e)

  -- the frame of the callee
  abbrev pub given : List Parameter → List Argument → Frame → Frame
  given [] args g = g
  given (p ∷ ps) [] g = g
  given (p ∷ ps) (a ∷ args) g = given ps args (given_one p.mode p.name.name a.value g)

  one_is : (m : Mode) (x : List ℕ) (a : Argument) (g : Frame) → with_argument f [] m x (plain_argument m a).value g ≡ Ok (given_one m x a.value g)
  one_is mode.Int x a g = refl
  one_is mode.Mut x a g = refl
  one_is mode.Ref x a g = refl

  pub given_is : (ps : List Parameter) (args : List Argument) (g : Frame)
      → with_arguments f [] ps (plain_arguments ps args) g ≡ Ok (given ps args g)
  given_is [] args g = refl
  given_is (p ∷ ps) [] g = refl
  given_is (p ∷ ps) (a ∷ args) g =
      ap (λ r. then_with r (with_arguments f [] ps (plain_arguments ps args))) (one_is p.mode p.name.name a g)
      ∙ given_is ps args (given_one p.mode p.name.name a.value g)

  -- the regions of other names stay
  one_leaves : (m : Mode) (x : List ℕ) (e : Expression) (g : Frame) (z : List ℕ) → bytes_eq x z ≡ false
      → (given_one m x e g).regions z ≡ g.regions z
  one_leaves mode.Int x e g z h = refl
  one_leaves mode.Mut x e g z h = ap (λ (b : Bool). cond b (lent f e) (g.regions z)) h
  one_leaves mode.Ref x e g z h = ap (λ (b : Bool). cond b (lent f e) (g.regions z)) h

  one_gives : (m : Mode) (x : List ℕ) (e : Expression) (g : Frame) (z : List ℕ) → is_region m ≡ true → bytes_eq x z ≡ true
      → (given_one m x e g).regions z ≡ lent f e
  one_gives mode.Int x e g z r h = absurd (cc)
  one_gives mode.Mut x e g z r h = ap (λ (b : Bool). cond b (lent f e) (g.regions z)) h
  one_gives mode.Ref x e g z r h = ap (λ (b : Bool). cond b (lent f e) (g.regions z)) h

  given_other : (ps : List Parameter) (args : List Argument) (g : Frame) (x : List ℕ) → IsNew (parameter_layout ps) x
      → (given ps args g).regions x ≡ g.regions x
  given_other [] args g x new = refl
  given_other (p ∷ ps) [] g x new = refl
  given_other (p ∷ ps) (a ∷ args) g x new =
      go (bytes_eq p.name.name x) refl new (given_other ps args (given_one p.mode p.name.name a.value g) x)
    where
      go : (b : Bool) → bytes_eq p.name.name x ≡ b → cond b 0 (suc (slot_of (parameter_layout ps) x)) ≡ suc (length (parameter_layout ps))
          → (IsNew (parameter_layout ps) x
          → (given ps args (given_one p.mode p.name.name a.value g)).regions x ≡ (given_one p.mode p.name.name a.value g).regions x)
          → (given ps args (given_one p.mode p.name.name a.value g)).regions x ≡ g.regions x
      go true e new rest = absurd (omega (arith, new))
      go false e new rest = rest (omega (arith, new)) ∙ one_leaves p.mode p.name.name a.value g x e

  module _ (word : Region → ℕ) (h : List ℕ) where
    -- the registers from d on hold the words of the regions that are lent
    abbrev pub IsLent : List Parameter → List Argument → ℕ → Type 0
    IsLent [] args d = Unit {0}
    IsLent (p ∷ ps) [] d = Unit {0}
    IsLent (p ∷ ps) (a ∷ args) d = (is_region p.mode ≡ true → held h (register d) ≡ word (lent f a.value)) × IsLent ps args (suc d)

    -- each region of the callee is in the register of its parameter
    pub given_held : (ps : List Parameter) (args : List Argument) (g : Frame) (d : ℕ) → IsDistinctLayout (parameter_layout ps)
        → length ps ≡ length args → IsLent ps args d → (x : List ℕ) (e : Declaration) → declared (map of_parameter ps) x ≡ Some e
        → is_region e.mode ≡ true
        → (slot_of (parameter_layout ps) x < paired ps args)
        × (held h (register (d + slot_of (parameter_layout ps) x)) ≡ word ((given ps args g).regions x))
    given_held [] args g d distinct count lent x e found region = absurd (none_and_some refl found)
    given_held (p ∷ ps) [] g d distinct count lent x e found region = absurd (omega (arith, count))
    given_held (p ∷ ps) (a ∷ args) g d distinct count lent x e found region =
        go (bytes_eq p.name.name x) refl found
        (λ found. given_held ps args (given_one p.mode p.name.name a.value g) (suc d) distinct.1 (omega (arith, count)) lent.1 x e found region)
      where
        go : (b : Bool) → bytes_eq p.name.name x ≡ b → cond b (Some (of_parameter p)) (declared (map of_parameter ps) x) ≡ Some e
            → (declared (map of_parameter ps) x ≡ Some e → (slot_of (parameter_layout ps) x < paired ps args)
            × (held h (register (suc d + slot_of (parameter_layout ps) x))
            ≡ word ((given ps args (given_one p.mode p.name.name a.value g)).regions x)))
            → (cond b 0 (suc (slot_of (parameter_layout ps) x)) < suc (paired ps args))
            × (held h (register (d + cond b 0 (suc (slot_of (parameter_layout ps) x)))) ≡ word ((given ps args
            (given_one p.mode p.name.name a.value g)).regions x))
        go true same found later =
            let is = some_same {o = Some (of_parameter p)} refl found in
            let here : is_region p.mode ≡ true = subst (λ (c : Declaration). is_region c.mode ≡ true) (sym is) region in
            let zero_on : d + 0 ≡ d = omega arith in
            let new = subst (λ (z : List ℕ). IsNew (parameter_layout ps) z) (same_names p.name.name x same) distinct.0 in (
              omega arith,
              ap (λ (k : ℕ). held h (register k)) zero_on ∙ lent.0 here
                  ∙ ap word (sym (given_other ps args (given_one p.mode p.name.name a.value g) x new
                  ∙ one_gives p.mode p.name.name a.value g x here same)),
            )
        go false same found later =
            let rest = later found in
            let on : d + suc (slot_of (parameter_layout ps) x) ≡ suc d + slot_of (parameter_layout ps) x = omega arith in
            let low = rest.0 in
            (omega (arith, low), ap (λ (k : ℕ). held h (register k)) on ∙ rest.1)

  -- registers that are kept still hold them
  pub lent_kept : (word : Region → ℕ) (g h : List ℕ) (ps : List Parameter) (args : List Argument) (d e : ℕ) → d + paired ps args ≤ e → e ≤ 63
      → Keeps e g h
      → IsLent word g ps args d → IsLent word h ps args d
  lent_kept word g h [] args d e low few k lent = tt
  lent_kept word g h (p ∷ ps) [] d e low few k lent = tt
  lent_kept word g h (p ∷ ps) (a ∷ args) d e low few k lent = (
    λ region. k.kept d (omega (arith, low)) (omega (arith, low, few)) ∙ lent.0 region,
    lent_kept word g h ps args (suc d) e (omega (arith, low)) few k lent.1,
  )

-- the arguments lend what they lent
pub lendings_plain : (ps : List Parameter) (args : List Argument) → lendings_of ps (plain_arguments ps args) ≡ lendings_of ps args
lendings_plain [] args = refl
lendings_plain (p ∷ ps) [] = refl
lendings_plain (p ∷ ps) (a ∷ args) =
    ap (λ (ls : List Lending). ls ++ lendings_of ps (plain_arguments ps args)) (one p.mode)
    ∙ ap (λ (ls : List Lending). lending_of p.mode a.value ++ ls) (lendings_plain ps args)
  where
    one : (m : Mode) → lending_of m (plain_argument m a).value ≡ lending_of m a.value
    one mode.Int = refl
    one mode.Mut = refl
    one mode.Ref = refl

plain_count : (ps : List Parameter) (args : List Argument) → length (plain_arguments ps args) ≡ length args
plain_count [] args = refl
plain_count (p ∷ ps) [] = refl
plain_count (p ∷ ps) (a ∷ args) = ap suc (plain_count ps args)

module _ (t : ProgramTree) (scope : Scope) where
  made_both : (xs ys : List Use) → AreMade t scope xs → AreMade t scope ys → AreMade t scope (xs ++ ys)
  made_both [] ys p q = q
  made_both (x ∷ xs) ys p q = record {
    all = λ u c. contains_cases (Makes t scope u) x u (xs ++ ys) (λ e. subst (λ (u : Use). Makes t scope u) e (made_head t scope x xs p))
        (λ d. (made_both xs ys (made_tail t scope x xs p) q).all u d) c;
  }

  pub made_plain : (ps : List Parameter) (args : List Argument) → AreMade t scope (uses_of_arguments ps args)
      → AreMade t scope (uses_of_arguments ps (plain_arguments ps args))
  made_plain [] args h = h
  made_plain (p ∷ ps) [] h = h
  made_plain (p ∷ ps) (a ∷ args) h =
      made_both (uses_of_argument p.mode (plain_argument p.mode a)) (uses_of_arguments ps (plain_arguments ps args))
      (one p.mode (made_left t scope (uses_of_argument p.mode a) (uses_of_arguments ps args) h))
      (made_plain ps args (made_right t scope (uses_of_argument p.mode a) (uses_of_arguments ps args) h))
    where
      one : (m : Mode) → AreMade t scope (uses_of_argument m a) → AreMade t scope (uses_of_argument m (plain_argument m a))
      one mode.Int h = record { all = λ u c. absurd (omega (arith, c.1)) }
      one mode.Mut h = h
      one mode.Ref h = h

  module _ (rules : KeepsRules t) (admitted : IsAdmitted t) (f : Frame) where
    pub given_lent : (s : Side) → SideFacts t scope f [] s
        → AreLent f [] scope (callee t s).parameters (plain_arguments (callee t s).parameters s.arguments) empty_frame
        (given f (callee t s).parameters s.arguments empty_frame)
    given_lent s facts =
        let p = callee t s in
        let ps = p.parameters in
        let new = are_new t rules [] (scope_of p) (sites_of_parameters t p (callee_sites t s.callee.name)) in
        are_lent f [] scope t rules admitted ps (plain_arguments ps s.arguments) empty_frame (given f ps s.arguments empty_frame) [] new
        (facts.count ∙ sym (plain_count ps s.arguments)) (made_plain ps s.arguments facts.uses) (given_is f ps s.arguments empty_frame)
