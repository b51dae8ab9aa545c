-- A run's end depends on no words but those that its frame owns: by recursion on the run.
use Rattle.std.proofs.Common.{◌≡◌, ◌≤◌, ◌<◌, ◌+◌, ℕ, suc, ◌++◌, Option, Some, None, refl, sym, ap, ◌∙◌, subst, subst₂, arith}
use Rattle.std.specs.Prelude.{ℤ, Result, Ok, Err}
use Rattle.ppm_tree.specs.declared.named.Named.{Named}
use Rattle.ppm_tree.specs.Tree.{Expression, Side, Statement, Block, Nil, Then, Let, Assign, Put, If, While, Split, Each, Give, Procedure, ProgramTree}
use Rattle.ppm_tree.specs.Tree as tree
use Rattle.ppm_tree.specs.Values.{holds}
use Rattle.ppm_tree.specs.State.{TrapAt, then_with, Region, Regions, Locals, Frame, with_local, with_locals, Arrays, with_word, evaluate, split_at, put_values}
use Rattle.ppm_tree.specs.Meaning.{Form, Plain, Whole, Counts, spent, both, End, Ended, Trapped, arrays_of, end_of, assigned, stored, returned, joined}
use Rattle.ppm_tree.specs.Meaning.{first_trap, goes_on, given, give_turn, with_element, Runs, Follows, Loops, Enters, Sweeps}
use Rattle.ppm_tree.specs.Meaning.{Done, Lets, Assigns, Puts, Ifs, IfTraps, Whiles, Calls, CallTraps, Forks, ForkStops, ForkTraps, Splits, SplitTraps}
use Rattle.ppm_tree.specs.Meaning.{Eaches, GoesOn, Stops, TestFails, TestTraps, Turns, TurnTraps, Enter, Swept, Sweep, SweepStops}
use Rattle.ppm_regions.specs.declared.ask.Ask.TheVariants as ask
use Rattle.ppm_regions.specs.Scope.{Scope, lets_of, scope_behind}
use Rattle.ppm_regions.specs.Uses.{Asks, uses_in, sites_of_block, sites_of_procedure, sites_of_give}
use Rattle.ppm_regions.specs.Admission.{IsAdmitted}
use Rattle.ppm_regions.specs.Correct.{KeepsRules}
use Rattle.ppm_ownership.specs.Words.{AreSameAt, KeepsSameness, over}
use Rattle.ppm_ownership.specs.Owning.{Owns}
use Rattle.ppm_regions.specs.Scope.{scope_of, split_scope, each_scope}
use Rattle.ppm_ownership.specs.Coming.{callee}
use Rattle.ppm_ownership.proofs.ScopeLemmas.{owned_before}
use Rattle.ppm_regions.proofs.SiteLemmas.{AreSites, AreMade, made_left, made_right, made_tail, made_at, uses_first, sites_inside, sites_behind, callee_sites}
use Rattle.ppm_regions.proofs.SiteLemmas.{sites_of_body, sites_of_gift}
use Rattle.ppm_ownership.proofs.PartLemmas.{owns_no_more}
use Rattle.ppm_ownership.proofs.ComingLemmas.{split_comes, split_sites, each_comes, each_sites, call_comes, left_comes, right_comes}
use Rattle.ppm_ownership.proofs.ComingLemmas.{call_facts, left_facts, right_facts}
use Rattle.ppm_ownership.proofs.WordLemmas.{put_keeps, keeps_on, keeps_itself, same_on, same_less, over_has}
use Rattle.ppm_ownership.proofs.ExpressionLemmas.{same_value, same_put, same_entered, same_both}
use Rattle.ppm_ownership.proofs.ChangeLemmas.{assigned_leaves, returned_leaves, joined_leaves, first_leaves, given_leaves, at_below, chosen_sites}

-- the ends of statements, over other arrays
assigned_over : (x : Named) (e : Expression) (f : Frame) (a c : Arrays) → evaluate f a e ≡ evaluate f c e → assigned x e f c ≡ over (assigned x e f a) c
assigned_over x e f a c same = ap (λ (r : Result ℤ TrapAt). end_of r c (λ v. Ended (with_local f x.name v).locals c)) (sym same) ∙ go (evaluate f a e)
  where
    go : (r : Result ℤ TrapAt)
        → end_of r c (λ v. Ended (with_local f x.name v).locals c) ≡ over (end_of r a (λ v. Ended (with_local f x.name v).locals a)) c
    go (Ok v) = refl
    go (Err stop) = refl

returned_over : (x : Option Named) (f : Frame) (y : End ℤ) (c : Arrays) → returned x f (over y c) ≡ over (returned x f y) c
returned_over x f (Ended v a) c = refl
returned_over x f (Trapped stop a) c = refl

joined_over : (x z : Option Named) (f : Frame) (u y : End ℤ) (c d : Arrays) → joined x z f (over u c) (over y d) ≡ over (joined x z f u y) d
joined_over x z f (Trapped stop a) y c d = ap (λ (e : Arrays). Trapped stop e) (over_has y d)
joined_over x z f (Ended v a) (Ended w b) c d = refl
joined_over x z f (Ended v a) (Trapped stop b) c d = refl

first_over : (y z : End Locals) (c d : Arrays) → first_trap (over y c) (over z d) ≡ over (first_trap y z) d
first_over (Ended l a) z c d = refl
first_over (Trapped stop a) z c d = ap (λ (e : Arrays). Trapped stop e) (over_has z d)

goes_on_over : {A : Type 0} (form : Form) (y : End A) (c : Arrays) → goes_on form (over y c) ≡ goes_on form y
goes_on_over Whole y c = refl
goes_on_over Plain (Ended v a) c = refl
goes_on_over Plain (Trapped stop a) c = refl

turn_over : (g : Option Give) (y : End Locals) (c : Arrays) → give_turn g (over y c) ≡ give_turn g y
turn_over g (Trapped stop a) c = refl
turn_over None (Ended l a) c = refl
turn_over (Some g) (Ended l a) c = refl

-- what a body declares owns nothing more
owned_in_front : (b : Block) (scope : Scope) (r : Regions) (a i : ℕ) → Owns (scope_behind scope b) r a i → Owns scope r a i
owned_in_front Nil scope r a i h = h
owned_in_front (Then s b) scope r a i h = owned_before scope s r a i (owned_in_front b (scope ++ lets_of s) r a i h)

module _ (form : Form) (t : ProgramTree) (rules : KeepsRules t) (admitted : IsAdmitted t) where
  -- a write, from arrays with the same words
  abbrev written_to : Named → Frame → Result (ℕ × ℤ) TrapAt → Arrays → End Locals
  written_to x f r a = end_of r a (λ p. Ended f.locals (with_word a (f.regions x.name) p.0 p.1))

  written_over : (x : Named) (f : Frame) (r : Result (ℕ × ℤ) TrapAt) (a c : Arrays)
      → written_to x f r c ≡ over (written_to x f r a) (arrays_of (written_to x f r c))
  written_over x f (Ok p) a c = refl
  written_over x f (Err stop) a c = refl

  written_keeps : (x : Named) (f : Frame) (r : Result (ℕ × ℤ) TrapAt) (a c : Arrays) → {P : ℕ → ℕ → Type 0} → AreSameAt P a c
      → KeepsSameness a c (arrays_of (written_to x f r a)) (arrays_of (written_to x f r c))
  written_keeps x f (Ok p) a c same = put_keeps a c same.shape (f.regions x.name).array ((f.regions x.name).start + p.0) p.1
  written_keeps x f (Err stop) a c same = keeps_itself a c same.shape

  -- what follows begins with the same words
  same_behind : (scope : Scope) (s : Statement) (f : Frame) {a b c d : Arrays} → AreSameAt (Owns scope f.regions) a b → KeepsSameness a b c d
      → AreSameAt (Owns (scope ++ lets_of s) f.regions) c d
  same_behind scope s f same keeps = same_less (owned_before scope s f.regions) (same_on same keeps)

  -- what a body gives, over other arrays
  given_over : (g : Option Give) (scope : Scope) (f : Frame) (y : End Locals) (c : Arrays) → AreSites t (sites_of_give t scope g)
      → AreSameAt (Owns scope f.regions) (arrays_of y) c → given g f (over y c) ≡ over (given g f y) c
  given_over g scope f (Trapped stop a) c h same = refl
  given_over None scope f (Ended l a) c h same = refl
  given_over (Some g) scope f (Ended l a) c h same =
      let value = same_value t rules scope (with_locals f l) a c same g.value (made_at t scope (uses_in g.value) h) in
      ap (λ (r : Result ℤ TrapAt). end_of r c (λ v. Ended v c)) (sym value) ∙ go (evaluate (with_locals f l) a g.value)
    where
      go : (r : Result ℤ TrapAt) → end_of r c (λ v. Ended v c) ≡ over (end_of r a (λ v. Ended v a)) c
      go (Ok v) = refl
      go (Err stop) = refl

  mutual
    pub local : {b : Block} {f : Frame} {a : Arrays} {k : Counts} {z : End Locals} → Runs form t.procedures b f a k z → (scope : Scope)
        → AreSites t (sites_of_block t scope b) → (c : Arrays) → AreSameAt (Owns scope f.regions) a c
        → (d : Arrays) × Runs form t.procedures b f c k (over z d) × KeepsSameness a c (arrays_of z) d
    local (Done f a) scope h c same = (c, Done f c, keeps_itself a c same.shape)
    local (Lets x e b f a {k = k} {z = z} w) scope h c same =
        let value = same_value t rules scope f a c same e (uses_first t scope (Let x e) b h) in
        let start = subst (λ (b : Arrays). KeepsSameness a c b c) (sym (assigned_leaves x e f a)) (keeps_itself a c same.shape) in
        let q = local_follows w (scope ++ lets_of (Let x e)) (sites_behind t scope (Let x e) b h) c (same_behind scope (Let x e) f same start) in
        let rest = subst (λ (u : End Locals). Follows form t.procedures b f u k (over z q.0)) (sym (assigned_over x e f a c value)) q.1 in
        (q.0, Lets x e b f c rest, keeps_on start q.2)
    local (Assigns x e b f a {k = k} {z = z} w) scope h c same =
        let made = made_tail t scope (Asks ask.Assigned x) (uses_in e) (uses_first t scope (Assign x e) b h) in
        let value = same_value t rules scope f a c same e made in
        let start = subst (λ (b : Arrays). KeepsSameness a c b c) (sym (assigned_leaves x e f a)) (keeps_itself a c same.shape) in
        let q = local_follows w (scope ++ lets_of (Assign x e)) (sites_behind t scope (Assign x e) b h) c (same_behind scope (Assign x e) f same start) in
        let rest = subst (λ (u : End Locals). Follows form t.procedures b f u k (over z q.0)) (sym (assigned_over x e f a c value)) q.1 in
        (q.0, Assigns x e b f c rest, keeps_on start q.2)
    local (Puts x i e b f a {k = k} {z = z} w) scope h c same =
        let made = made_tail t scope (Asks ask.Written x) (uses_in i ++ uses_in e) (uses_first t scope (Put x i e) b h) in
        let index = made_left t scope (uses_in i) (uses_in e) made in
        let value = same_put t rules scope f a c same x i e index (made_right t scope (uses_in i) (uses_in e) made) in
        let r = put_values f a x i e in
        let start = written_keeps x f r a c same in
        let q = local_follows w (scope ++ lets_of (Put x i e)) (sites_behind t scope (Put x i e) b h) (arrays_of (written_to x f r c))
        (same_behind scope (Put x i e) f same start) in
        let there : stored x i e f c ≡ over (stored x i e f a) (arrays_of (written_to x f r c)) =
        ap (λ (r : Result (ℕ × ℤ) TrapAt). written_to x f r c) (sym value) ∙ written_over x f r a c in
        (q.0, Puts x i e b f c (subst (λ (u : End Locals). Follows form t.procedures b f u k (over z q.0)) (sym there) q.1), keeps_on start q.2)
    local (Ifs e s u b f a v is r w) scope h c same =
        let value = same_value t rules scope f a c same e (uses_first t scope (If e s u) b h) in
        let p = local r scope (chosen_sites form t rules admitted scope (holds v) s u (sites_inside t scope (If e s u) b h)) c same in
        let q = local_follows w (scope ++ lets_of (If e s u)) (sites_behind t scope (If e s u) b h) p.0 (same_behind scope (If e s u) f same p.2) in
        (q.0, Ifs e s u b f c v (sym value ∙ is) p.1 q.1, keeps_on p.2 q.2)
    local (IfTraps e s u b f a stop is) scope h c same =
        let value = same_value t rules scope f a c same e (uses_first t scope (If e s u) b h) in
        (c, IfTraps e s u b f c stop (sym value ∙ is), keeps_itself a c same.shape)
    local (Whiles e s b f a r w) scope h c same =
        let p = local_loops r scope (sites_inside t scope (While e s) b h) (uses_first t scope (While e s) b h) c same in
        let q = local_follows w (scope ++ lets_of (While e s)) (sites_behind t scope (While e s) b h) p.0 (same_behind scope (While e s) f same p.2) in
        (q.0, Whiles e s b f c p.1 q.1, keeps_on p.2 q.2)
    local (Calls s b f g a {j = j} {k = k} {y = y} {z = z} is r w) scope h c same =
        let entry = same_entered t rules scope f a c same s (call_facts t rules admitted scope b f a s h).uses in
        let inside = (owns_no_more (call_comes t rules admitted scope s b f g a h is)).owned in
        let p = local_enters r (callee_sites t s.callee.name) c (same_less inside same) in
        let start = subst (λ (b : Arrays). KeepsSameness a c b p.0) (sym (returned_leaves s.target f y)) p.2 in
        let q = local_follows w (scope ++ lets_of (tree.Call s)) (sites_behind t scope (tree.Call s) b h) p.0 (same_behind scope (tree.Call s) f same start) in
        let rest = subst (λ (u : End Locals). Follows form t.procedures b f u k (over z q.0)) (sym (returned_over s.target f y p.0)) q.1 in
        (q.0, Calls s b f g c (sym entry ∙ is) p.1 rest, keeps_on start q.2)
    local (CallTraps s b f a stop is) scope h c same =
        let entry = same_entered t rules scope f a c same s (call_facts t rules admitted scope b f a s h).uses in
        (c, CallTraps s b f c stop (sym entry ∙ is), keeps_itself a c same.shape)
    local (Forks s u b f g g' a {i = i} {j = j} {k = k} {x = x} {y = y} {z = z} is l on r w) scope h c same =
        let entry = same_both t rules scope f a c same s u (left_facts t rules admitted scope b f a s u h).uses
        (right_facts t rules admitted scope b f a s u h).uses in
        let in_left = (owns_no_more (left_comes t rules admitted scope s u b f g g' a h is)).owned in
        let in_right = (owns_no_more (right_comes t rules admitted scope s u b f g g' a h is)).owned in
        let o = local_enters l (callee_sites t s.callee.name) c (same_less in_left same) in
        let p = local_enters r (callee_sites t u.callee.name) o.0 (same_less in_right (same_on same o.2)) in
        let start = subst (λ (b : Arrays). KeepsSameness a c b p.0) (sym (joined_leaves s.target u.target f x y)) (keeps_on o.2 p.2) in
        let then = same_behind scope (tree.Fork s u) f same start in
        let q = local_follows w (scope ++ lets_of (tree.Fork s u)) (sites_behind t scope (tree.Fork s u) b h) p.0 then in
        let right = subst (λ (b : Arrays). Enters form t.procedures (callee t u) g' b j (over y p.0)) (sym (over_has x o.0)) p.1 in
        let rest = subst (λ (v : End Locals). Follows form t.procedures b f v k (over z q.0)) (sym (joined_over s.target u.target f x y o.0 p.0)) q.1 in
        (q.0, Forks s u b f g g' c (sym entry ∙ is) o.1 (goes_on_over form x o.0 ∙ on) right rest, keeps_on start q.2)
    local (ForkStops s u b f g g' a a' stop is plain l) scope h c same =
        let entry = same_both t rules scope f a c same s u (left_facts t rules admitted scope b f a s u h).uses
        (right_facts t rules admitted scope b f a s u h).uses in
        let in_left = (owns_no_more (left_comes t rules admitted scope s u b f g g' a h is)).owned in
        let o = local_enters l (callee_sites t s.callee.name) c (same_less in_left same) in
        (o.0, ForkStops s u b f g g' c o.0 stop (sym entry ∙ is) plain o.1, o.2)
    local (ForkTraps s u b f a stop is) scope h c same =
        let entry = same_both t rules scope f a c same s u (left_facts t rules admitted scope b f a s u h).uses
        (right_facts t rules admitted scope b f a s u h).uses in
        (c, ForkTraps s u b f c stop (sym entry ∙ is), keeps_itself a c same.shape)
    local (Splits line r e x y s b f a n is d w) scope h c same =
        let made = made_tail t scope (Asks ask.Region r) (uses_in e) (uses_first t scope (Split line r e x y s) b h) in
        let value = ap (λ (v : Result ℤ TrapAt). then_with v (split_at line (f.regions r.name))) (same_value t rules scope f a c same e made) in
        let short = at_below line (f.regions r.name) (evaluate f a e) n is in
        let inside = (owns_no_more (split_comes t rules admitted scope line r e x y s b h f n short)).owned in
        let p = local d (split_scope scope r x y) (split_sites t rules admitted scope line r e x y s b h) c (same_less inside same) in
        let q = local_follows w (scope ++ lets_of (Split line r e x y s)) (sites_behind t scope (Split line r e x y s) b h) p.0
        (same_behind scope (Split line r e x y s) f same p.2) in
        (q.0, Splits line r e x y s b f c n (sym value ∙ is) p.1 q.1, keeps_on p.2 q.2)
    local (SplitTraps line r e x y s b f a stop is) scope h c same =
        let made = made_tail t scope (Asks ask.Region r) (uses_in e) (uses_first t scope (Split line r e x y s) b h) in
        let value = ap (λ (v : Result ℤ TrapAt). then_with v (split_at line (f.regions r.name))) (same_value t rules scope f a c same e made) in
        (c, SplitTraps line r e x y s b f c stop (sym value ∙ is), keeps_itself a c same.shape)
    local (Eaches i x r s b f a d w) scope h c same =
        let inside = λ (k : ℕ) (short : k < (f.regions r.name).length). (owns_no_more (each_comes t rules admitted scope i x r s b h f k short)).owned in
        let p = local_sweeps d (each_scope scope r i x) scope f.regions (each_sites t rules admitted scope i x r s b h)
        (λ k past short. inside k (omega (arith, short))) c same in
        let q = local_follows w (scope ++ lets_of (Each i x r s)) (sites_behind t scope (Each i x r s) b h) p.0 (same_behind scope (Each i x r s) f same p.2) in
        (q.0, Eaches i x r s b f c p.1 q.1, keeps_on p.2 q.2)

    local_follows : {b : Block} {f : Frame} {u : End Locals} {k : Counts} {z : End Locals} → Follows form t.procedures b f u k z → (scope : Scope)
        → AreSites t (sites_of_block t scope b) → (c : Arrays) → AreSameAt (Owns scope f.regions) (arrays_of u) c
        → (d : Arrays) × Follows form t.procedures b f (over u c) k (over z d) × KeepsSameness (arrays_of u) c (arrays_of z) d
    local_follows (GoesOn b f l a r) scope h c same = let p = local r scope h c same in (p.0, GoesOn b f l c p.1, p.2)
    local_follows (Stops b f stop a) scope h c same = (c, Stops b f stop c, keeps_itself a c same.shape)

    local_loops : {e : Expression} {s : Block} {f : Frame} {a : Arrays} {k : Counts} {z : End Locals} → Loops form t.procedures e s f a k z → (scope : Scope)
        → AreSites t (sites_of_block t scope s) → AreMade t scope (uses_in e) → (c : Arrays) → AreSameAt (Owns scope f.regions) a c
        → (d : Arrays) × Loops form t.procedures e s f c k (over z d) × KeepsSameness a c (arrays_of z) d
    local_loops (TestFails e s f a v is fail) scope h made c same =
        (c, TestFails e s f c v (sym (same_value t rules scope f a c same e made) ∙ is) fail, keeps_itself a c same.shape)
    local_loops (TestTraps e s f a stop is) scope h made c same =
        (c, TestTraps e s f c stop (sym (same_value t rules scope f a c same e made) ∙ is), keeps_itself a c same.shape)
    local_loops (Turns e s f a a' v l is hold r w) scope h made c same =
        let p = local r scope h c same in
        let q = local_loops w scope h made p.0 (same_on same p.2) in
        (q.0, Turns e s f c p.0 v l (sym (same_value t rules scope f a c same e made) ∙ is) hold p.1 q.1, keeps_on p.2 q.2)
    local_loops (TurnTraps e s f a a' v stop is hold r) scope h made c same =
        let p = local r scope h c same in
        (p.0, TurnTraps e s f c p.0 v stop (sym (same_value t rules scope f a c same e made) ∙ is) hold p.1, p.2)

    pub local_enters : {p : Procedure} {f : Frame} {a : Arrays} {k : Counts} {z : End ℤ} → Enters form t.procedures p f a k z
        → AreSites t (sites_of_procedure t p) → (c : Arrays) → AreSameAt (Owns (scope_of p) f.regions) a c
        → (d : Arrays) × Enters form t.procedures p f c k (over z d) × KeepsSameness a c (arrays_of z) d
    local_enters (Enter p f a {j = j} {y = y} r) h c same =
        let q = local r (scope_of p) (sites_of_body t p h) c same in
        let gift = given_over p.give (scope_behind (scope_of p) p.body) f y q.0 (sites_of_gift t p h)
        (same_less (owned_in_front p.body (scope_of p) f.regions) (same_on same q.2)) in
        let run = subst₂ (λ (k : Counts) (z : End ℤ). Enters form t.procedures p f c (both (spent 1) (both j k)) z) (turn_over p.give y q.0) gift
        (Enter p f c q.1) in
        (q.0, run, subst (λ (b : Arrays). KeepsSameness a c b q.0) (sym (given_leaves p.give f y)) q.2)

    pub local_sweeps : {i x : Named} {s : Block} {r : Region} {f : Frame} {n m : ℕ} {a : Arrays} {k : Counts} {z : End Locals}
        → Sweeps form t.procedures i x s r f n m a k z → (scope outer : Scope) (whole : Regions) → AreSites t (sites_of_block t scope s)
        → ((k : ℕ) → n ≤ k → k < n + m → (j l : ℕ) → Owns scope (with_element f r k i x).regions j l → Owns outer whole j l)
        → (c : Arrays) → AreSameAt (Owns outer whole) a c
        → (d : Arrays) × Sweeps form t.procedures i x s r f n m c k (over z d) × KeepsSameness a c (arrays_of z) d
    local_sweeps (Swept i x s r f n a) scope outer whole h inside c same = (c, Swept i x s r f n c, keeps_itself a c same.shape)
    local_sweeps (Sweep i x s r f n m a {j = j} {k = k} {y = y} {z = z} d on w) scope outer whole h inside c same =
        let p = local d scope h c (same_less (inside n (omega arith) (omega arith)) same) in
        let more = λ (k : ℕ) (past : suc n ≤ k) (short : k < suc n + m). inside k (omega (arith, past)) (omega (arith, short)) in
        let q = local_sweeps w scope outer whole h more p.0 (same_on same p.2) in
        let rest = subst (λ (b : Arrays). Sweeps form t.procedures i x s r f (suc n) m b k (over z q.0)) (sym (over_has y p.0)) q.1 in
        let run = Sweep i x s r f n m c p.1 (goes_on_over form y p.0 ∙ on) rest in (
          q.0,
          subst (λ (u : End Locals). Sweeps form t.procedures i x s r f n (suc m) c (both (spent 8) (both j k)) u) (first_over y z p.0 q.0) run,
          subst (λ (b : Arrays). KeepsSameness a c b q.0) (sym (first_leaves y z)) (keeps_on p.2 q.2),
        )
    local_sweeps (SweepStops i x s r f n m a a' stop plain d) scope outer whole h inside c same =
        let p = local d scope h c (same_less (inside n (omega arith) (omega arith)) same) in
        (p.0, SweepStops i x s r f n m c p.0 stop plain p.1, p.2)
