-- A run changes no words but those that its frame may write: by recursion on the run.
use Rattle.std.proofs.Common.{◌≡◌, ◌≤◌, ◌<◌, ◌+◌, Bool, true, false, ℕ, ◌++◌, Option, Some, None, refl, sym, ap, subst, arith}
use Rattle.std.specs.Prelude.{ℤ, Result, Ok, Err}
use Rattle.ppm_tree.specs.declared.named.Named.{Named}
use Rattle.ppm_tree.specs.Tree.{Expression, Side, Statement, Block, Then, Let, Assign, Put, If, While, Split, Each, Give, Procedure, ProgramTree}
use Rattle.ppm_tree.specs.Tree as tree
use Rattle.ppm_tree.specs.Values.{holds}
use Rattle.ppm_tree.specs.State.{TrapAt, then_with, Region, Regions, Locals, Frame, with_locals, Arrays, with_word, evaluate, index_in, split_at, put_values}
use Rattle.ppm_tree.specs.Meaning.{Form, Counts, End, Ended, Trapped, arrays_of, end_of, assigned, stored, chosen, returned, joined, first_trap, given}
use Rattle.ppm_tree.specs.Meaning.{with_element, Runs, Follows, Loops, Enters, Sweeps}
use Rattle.ppm_tree.specs.Meaning.{Done, Lets, Assigns, Puts, Ifs, IfTraps, Whiles, Calls, CallTraps, Forks, ForkStops, ForkTraps, Splits, SplitTraps}
use Rattle.ppm_tree.specs.Meaning.{Eaches, GoesOn, Stops, TestFails, TestTraps, Turns, TurnTraps, Enter, Swept, Sweep, SweepStops}
use Rattle.ppm_regions.specs.declared.ask.Ask.TheVariants as ask
use Rattle.ppm_regions.specs.Scope.{Scope, lets_of}
use Rattle.ppm_regions.specs.Uses.{Asks, uses_in, sites_of_block, sites_of_procedure}
use Rattle.ppm_regions.specs.Admission.{IsAdmitted}
use Rattle.ppm_regions.specs.Correct.{Makes, KeepsRules}
use Rattle.ppm_ownership.specs.Words.{ChangesOnly}
use Rattle.ppm_ownership.specs.Owning.{MayWrite}
use Rattle.ppm_regions.specs.Scope.{scope_of, split_scope, each_scope}
use Rattle.ppm_ownership.proofs.ScopeLemmas.{written_before}
use Rattle.ppm_regions.proofs.SiteLemmas.{AreSites, sites_left, sites_right, made_head, uses_first, sites_inside, sites_behind, callee_sites, sites_of_body}
use Rattle.ppm_ownership.proofs.PartLemmas.{owns_no_more}
use Rattle.ppm_ownership.proofs.ComingLemmas.{split_comes, split_sites, each_comes, each_sites, call_comes, left_comes, right_comes}
use Rattle.ppm_ownership.proofs.WordLemmas.{index_below, split_below, unchanged, changes_on, changes_more, put_changes}

-- where ends leave the arrays as they are
pub returned_leaves : (x : Option Named) (f : Frame) (y : End ℤ) → arrays_of (returned x f y) ≡ arrays_of y
returned_leaves x f (Ended v a) = refl
returned_leaves x f (Trapped stop a) = refl

pub joined_leaves : (x z : Option Named) (f : Frame) (u y : End ℤ) → arrays_of (joined x z f u y) ≡ arrays_of y
joined_leaves x z f (Trapped stop a) y = refl
joined_leaves x z f (Ended v a) (Ended w b) = refl
joined_leaves x z f (Ended v a) (Trapped stop b) = refl

pub first_leaves : (y z : End Locals) → arrays_of (first_trap y z) ≡ arrays_of z
first_leaves (Ended l a) z = refl
first_leaves (Trapped stop a) z = refl

end_leaves : (r : Result ℤ TrapAt) (a : Arrays) (make : ℤ → ℤ) → arrays_of (end_of r a (λ v. Ended (make v) a)) ≡ a
end_leaves (Ok v) a make = refl
end_leaves (Err stop) a make = refl

pub given_leaves : (g : Option Give) (f : Frame) (y : End Locals) → arrays_of (given g f y) ≡ arrays_of y
given_leaves None f (Ended l a) = refl
given_leaves (Some g) f (Ended l a) = end_leaves (evaluate (with_locals f l) a g.value) a (λ v. v)
given_leaves None f (Trapped stop a) = refl
given_leaves (Some g) f (Trapped stop a) = refl

pub assigned_leaves : (x : Named) (e : Expression) (f : Frame) (a : Arrays) → arrays_of (assigned x e f a) ≡ a
assigned_leaves x e f a = go (evaluate f a e)
  where
    go : (r : Result ℤ TrapAt) → arrays_of (end_of r a (λ v. Ended (Rattle.ppm_tree.specs.State.with_local f x.name v).locals a)) ≡ a
    go (Ok v) = refl
    go (Err stop) = refl

-- the index of an assignment is one of the region
pub put_below : (f : Frame) (a : Arrays) (x : Named) (i e : Expression) (p : ℕ × ℤ) → put_values f a x i e ≡ Ok p → p.0 < (f.regions x.name).length
put_below f a x i e p h = go (evaluate f a i) (evaluate f a e) h
  where
    pairs : (i v : ℤ) → (r : Result ℕ TrapAt) → index_in x.line (f.regions x.name) i ≡ r
        → then_with {B = ℕ × ℤ} r (λ k. Ok (k, v)) ≡ Ok p → p.0 < (f.regions x.name).length
    pairs i v (Ok k) is h =
        let same : k ≡ p.0 = ap (λ (q : ℕ × ℤ). q.0) (Rattle.ppm_ownership.proofs.ComingLemmas.ok_same {A = ℕ × ℤ} {x = (k, v)} {y = p} h) in
        subst (λ (k : ℕ). k < (f.regions x.name).length) same (index_below x.line (f.regions x.name) i k is)
    pairs i v (Err s) is h = absurd (cc)

    go : (r s : Result ℤ TrapAt)
        → then_with {B = ℕ × ℤ} r (λ i. then_with {B = ℕ × ℤ} s (λ v. then_with {B = ℕ × ℤ} (index_in x.line (f.regions x.name) i) (λ k. Ok (k, v)))) ≡ Ok p
        → p.0 < (f.regions x.name).length
    go (Ok i) (Ok v) h = pairs i v (index_in x.line (f.regions x.name) i) refl h
    go (Ok i) (Err s) h = absurd (cc)
    go (Err s) r h = absurd (cc)

-- a split is within its region
pub at_below : (line : ℕ) (r : Region) (v : Result ℤ TrapAt) (n : ℕ) → then_with v (split_at line r) ≡ Ok n → n ≤ r.length
at_below line r (Ok v) n h = split_below line r v n h
at_below line r (Err s) n h = absurd (cc)

module _ (form : Form) (t : ProgramTree) (rules : KeepsRules t) (admitted : IsAdmitted t) where
  -- a statement, and what follows it
  and_then : (scope : Scope) (s : Statement) (f : Frame) {a b c : Arrays} → ChangesOnly (MayWrite scope f.regions) a b
      → ChangesOnly (MayWrite (scope ++ lets_of s) f.regions) b c → ChangesOnly (MayWrite scope f.regions) a c
  and_then scope s f p q = changes_on p (changes_more (written_before scope s f.regions) q)

  no_change : (P : ℕ → ℕ → Type 0) (a b : Arrays) → b ≡ a → ChangesOnly P a b
  no_change P a b e = subst (λ (b : Arrays). ChangesOnly P a b) (sym e) (unchanged P a)

  -- a write to an element of a region that may be written
  stored_changes : (scope : Scope) (x : Named) (i e : Expression) (f : Frame) (a : Arrays) → Makes t scope (Asks ask.Written x)
      → ChangesOnly (MayWrite scope f.regions) a (arrays_of (stored x i e f a))
  stored_changes scope x i e f a made = go (put_values f a x i e) refl
    where
      go : (r : Result (ℕ × ℤ) TrapAt) → put_values f a x i e ≡ r
          → ChangesOnly (MayWrite scope f.regions) a (arrays_of (end_of r a (λ p. Ended f.locals (with_word a (f.regions x.name) p.0 p.1))))
      go (Err stop) is = unchanged (MayWrite scope f.regions) a
      go (Ok p) is =
          let d = rules.names scope ask.Written x made in
          let r = f.regions x.name in
          let below = put_below f a x i e p is in
          let w = d.written refl in
          put_changes (MayWrite scope f.regions) a r.array (r.start + p.0) p.1 (record {
            name = x.name;
            writable = record { declaration = d.declaration; found = d.found; written = w.0; shown = d.seen refl; inner = w.1 };
            has = record { array = refl; from = omega arith; below = omega (arith, below) };
          })

  pub chosen_sites : (scope : Scope) (b : Bool) (s u : Block) → AreSites t (sites_of_block t scope s ++ sites_of_block t scope u)
      → AreSites t (sites_of_block t scope (chosen b s u))
  chosen_sites scope true s u h = sites_left t (sites_of_block t scope s) (sites_of_block t scope u) h
  chosen_sites scope false s u h = sites_right t (sites_of_block t scope s) (sites_of_block t scope u) h

  mutual
    pub changes : {b : Block} {f : Frame} {a : Arrays} {k : Counts} {z : End Locals} → Runs form t.procedures b f a k z → (scope : Scope)
        → AreSites t (sites_of_block t scope b) → ChangesOnly (MayWrite scope f.regions) a (arrays_of z)
    changes (Done f a) scope h = unchanged (MayWrite scope f.regions) a
    changes (Lets x e b f a w) scope h =
        and_then scope (Let x e) f (no_change (MayWrite scope f.regions) a (arrays_of (assigned x e f a)) (assigned_leaves x e f a))
        (changes_follows w (scope ++ lets_of (Let x e)) (sites_behind t scope (Let x e) b h))
    changes (Assigns x e b f a w) scope h =
        and_then scope (Assign x e) f (no_change (MayWrite scope f.regions) a (arrays_of (assigned x e f a)) (assigned_leaves x e f a))
        (changes_follows w (scope ++ lets_of (Assign x e)) (sites_behind t scope (Assign x e) b h))
    changes (Puts x i e b f a w) scope h =
        let made = made_head t scope (Asks ask.Written x) (uses_in i ++ uses_in e) (uses_first t scope (Put x i e) b h) in
        and_then scope (Put x i e) f (stored_changes scope x i e f a made)
        (changes_follows w (scope ++ lets_of (Put x i e)) (sites_behind t scope (Put x i e) b h))
    changes (Ifs e s u b f a v is r w) scope h =
        and_then scope (If e s u) f (changes r scope (chosen_sites scope (holds v) s u (sites_inside t scope (If e s u) b h)))
        (changes_follows w (scope ++ lets_of (If e s u)) (sites_behind t scope (If e s u) b h))
    changes (IfTraps e s u b f a stop is) scope h = unchanged (MayWrite scope f.regions) a
    changes (Whiles e s b f a r w) scope h =
        and_then scope (While e s) f (changes_loops r scope (sites_inside t scope (While e s) b h))
        (changes_follows w (scope ++ lets_of (While e s)) (sites_behind t scope (While e s) b h))
    changes (Calls s b f g a {y = y} is r w) scope h =
        let inside = (owns_no_more (call_comes t rules admitted scope s b f g a h is)).written in
        let callee = changes_more inside (changes_enters r (callee_sites t s.callee.name)) in
        and_then scope (tree.Call s) f (subst (λ (c : Arrays). ChangesOnly (MayWrite scope f.regions) a c) (sym (returned_leaves s.target f y)) callee)
        (changes_follows w (scope ++ lets_of (tree.Call s)) (sites_behind t scope (tree.Call s) b h))
    changes (CallTraps s b f a stop is) scope h = unchanged (MayWrite scope f.regions) a
    changes (Forks s u b f g j a {x = x} {y = y} is l on r w) scope h =
        let in_left = (owns_no_more (left_comes t rules admitted scope s u b f g j a h is)).written in
        let in_right = (owns_no_more (right_comes t rules admitted scope s u b f g j a h is)).written in
        let left = changes_more in_left (changes_enters l (callee_sites t s.callee.name)) in
        let right = changes_more in_right (changes_enters r (callee_sites t u.callee.name)) in
        and_then scope (tree.Fork s u) f (subst (λ (c : Arrays). ChangesOnly (MayWrite scope f.regions) a c) (sym
        (joined_leaves s.target u.target f x y)) (changes_on left right))
        (changes_follows w (scope ++ lets_of (tree.Fork s u)) (sites_behind t scope (tree.Fork s u) b h))
    changes (ForkStops s u b f g j a c stop is plain l) scope h =
        changes_more (owns_no_more (left_comes t rules admitted scope s u b f g j a h is)).written (changes_enters l (callee_sites t s.callee.name))
    changes (ForkTraps s u b f a stop is) scope h = unchanged (MayWrite scope f.regions) a
    changes (Splits line r e x y s b f a n is d w) scope h =
        let short = at_below line (f.regions r.name) (evaluate f a e) n is in
        let inside = (owns_no_more (split_comes t rules admitted scope line r e x y s b h f n short)).written in
        let sites = split_sites t rules admitted scope line r e x y s b h in
        and_then scope (Split line r e x y s) f (changes_more inside (changes d (split_scope scope r x y) sites))
        (changes_follows w (scope ++ lets_of (Split line r e x y s)) (sites_behind t scope (Split line r e x y s) b h))
    changes (SplitTraps line r e x y s b f a stop is) scope h = unchanged (MayWrite scope f.regions) a
    changes (Eaches i x r s b f a d w) scope h =
        let inside = λ (k : ℕ) (short : k < (f.regions r.name).length). (owns_no_more (each_comes t rules admitted scope i x r s b h f k short)).written in
        and_then scope (Each i x r s) f
        (changes_sweeps d (each_scope scope r i x) scope f.regions (each_sites t rules admitted scope i x r s b h)
        (λ k past short. inside k (omega (arith, short))))
        (changes_follows w (scope ++ lets_of (Each i x r s)) (sites_behind t scope (Each i x r s) b h))

    changes_follows : {b : Block} {f : Frame} {u : End Locals} {k : Counts} {z : End Locals} → Follows form t.procedures b f u k z → (scope : Scope)
        → AreSites t (sites_of_block t scope b) → ChangesOnly (MayWrite scope f.regions) (arrays_of u) (arrays_of z)
    changes_follows (GoesOn b f l a r) scope h = changes r scope h
    changes_follows (Stops b f stop a) scope h = unchanged (MayWrite scope f.regions) a

    changes_loops : {e : Expression} {s : Block} {f : Frame} {a : Arrays} {k : Counts} {z : End Locals} → Loops form t.procedures e s f a k z → (scope : Scope)
        → AreSites t (sites_of_block t scope s) → ChangesOnly (MayWrite scope f.regions) a (arrays_of z)
    changes_loops (TestFails e s f a v is fail) scope h = unchanged (MayWrite scope f.regions) a
    changes_loops (TestTraps e s f a stop is) scope h = unchanged (MayWrite scope f.regions) a
    changes_loops (Turns e s f a c v l is hold r w) scope h = changes_on (changes r scope h) (changes_loops w scope h)
    changes_loops (TurnTraps e s f a c v stop is hold r) scope h = changes r scope h

    pub changes_enters : {p : Procedure} {f : Frame} {a : Arrays} {k : Counts} {z : End ℤ} → Enters form t.procedures p f a k z
        → AreSites t (sites_of_procedure t p) → ChangesOnly (MayWrite (scope_of p) f.regions) a (arrays_of z)
    changes_enters (Enter p f a {y = y} r) h =
        subst (λ (c : Arrays). ChangesOnly (MayWrite (scope_of p) f.regions) a c) (sym (given_leaves p.give f y)) (changes r (scope_of p) (sites_of_body t p h))

    pub changes_sweeps : {i x : Named} {s : Block} {r : Region} {f : Frame} {n m : ℕ} {a : Arrays} {k : Counts} {z : End Locals}
        → Sweeps form t.procedures i x s r f n m a k z → (scope outer : Scope) (whole : Regions) → AreSites t (sites_of_block t scope s)
        → ((k : ℕ) → n ≤ k → k < n + m → (j l : ℕ) → MayWrite scope (with_element f r k i x).regions j l → MayWrite outer whole j l)
        → ChangesOnly (MayWrite outer whole) a (arrays_of z)
    changes_sweeps (Swept i x s r f n a) scope outer whole h inside = unchanged (MayWrite outer whole) a
    changes_sweeps (Sweep i x s r f n m a {y = y} {z = z} d on w) scope outer whole h inside =
        let first = changes_more (inside n (omega arith) (omega arith)) (changes d scope h) in
        let rest = changes_sweeps w scope outer whole h (λ k past short. inside k (omega (arith, past)) (omega (arith, short))) in
        subst (λ (c : Arrays). ChangesOnly (MayWrite outer whole) a c) (sym (first_leaves y z)) (changes_on first rest)
    changes_sweeps (SweepStops i x s r f n m a c stop plain d) scope outer whole h inside =
        changes_more (inside n (omega arith) (omega arith)) (changes d scope h)
