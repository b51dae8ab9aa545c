-- Each statement of a block that is still to come is a way to go on, after the turns that it spends.
use Rattle.std.proofs.Common.{◌≡◌, ℕ, zero, suc, ◌+◌, ℤ, Bool, true, false, List, [], ◌∷◌, Option, Some, None, Result, Ok, Err, refl, sym, ap, subst, arith, ◌∙◌}
use Rattle.ppm_tree.specs.declared.named.Named.{Named}
use Rattle.ppm_tree.specs.Tree.{Expression, Side, Block, Nil, Then, Let, Assign, Put, If, While, Split, Give, Procedure}
use Rattle.ppm_tree.specs.Tree as tree
use Rattle.ppm_tree.specs.Values.{holds}
use Rattle.ppm_tree.specs.State.{TrapAt, then_with, Region, Regions, Locals, Frame, Arrays, split_at, evaluate, procedure_named, entered, both_entered}
use Rattle.ppm_tree.specs.Meaning.{Plain, Counts, spent, both, none, give_turn, given, End, Ended, Trapped, assigned, stored, chosen}
use Rattle.ppm_tree.specs.Meaning.{returned, joined, with_parts, with_element, Runs, Follows, Loops, Enters, Sweeps}
use Rattle.ppm_tree.specs.Meaning.{Done, Lets, Assigns, Puts, Ifs, IfTraps, Whiles, Calls, CallTraps, Forks, ForkStops, ForkTraps, Splits, SplitTraps}
use Rattle.ppm_tree.specs.Meaning.{Eaches, GoesOn, Stops, TestFails, TestTraps, Turns, TurnTraps, Enter, Swept, Sweep, SweepStops}
use Rattle.ppm_serial.specs.ToCome.{Item, Behind, Tests, Leaves, Sweeping, Returns, Crosses, Joins, Two, Trap, Opens, gave, Later, given_turns}
use Rattle.ppm_serial.specs.ToCome.{Gave, Crossed, After, Block_, Loop_, Sweep_, Shifts}

-- a value or a trap that comes once and again is one
ok_same : {A T : Type 0} {r : Result A T} {x y : A} → r ≡ Ok x → r ≡ Ok y → x ≡ y
ok_same p q = cc

not_both : {A T : Type 0} {r : Result A T} {x : A} {e : T} → r ≡ Ok x → r ≡ Err e → ⊥
not_both p q = cc

err_same : {A T : Type 0} {r : Result A T} {x y : T} → r ≡ Err x → r ≡ Err y → x ≡ y
err_same p q = cc

-- one way after none is itself, and one after another is after both
pub same : {A : ℕ → End ℤ → Type 0} → Shifts 0 A A
same {A = A} = record {
  on = λ n z a. record { rest = n; sum = omega arith; next = a };
  back = λ n z w. let e : w.rest ≡ n = omega (arith, w.sum) in subst (λ (m : ℕ). A m z) e w.next;
}

pub chain : {c d : ℕ} {A B C : ℕ → End ℤ → Type 0} → Shifts c A B → Shifts d B C → Shifts (c + d) A C
chain p q = record {
  on = λ n z a. let v = p.on n z a in let w = q.on v.rest z v.next in record { rest = w.rest; sum = omega (arith, v.sum, w.sum); next = w.next };
  back = λ n z w. p.back n z (record { rest = _; sum = omega (arith, w.sum); next = q.back _ z (record { rest = w.rest; sum = refl; next = w.next }) });
}

-- what a procedure gives, by its parts
pub gave_given : (g : Option Give) (f : Frame) (l : Locals) (a : Arrays) → given g f (Ended l a) ≡ gave g f.regions l a
gave_given None f l a = refl
gave_given (Some g) f l a = refl

pub gave_turn : (g : Option Give) (l : Locals) (a : Arrays) → (give_turn g (Ended l a)).turns ≡ given_turns g
gave_turn None l a = refl
gave_turn (Some g) l a = refl

module _ (procedures : List Procedure) (main : Option Give) where
  -- the rest of a block, after a statement
  follows_on : {b : Block} {f : Frame} {y z' : End Locals} {k : Counts} (K : List Item) (m : ℕ) {n : ℕ} (z : End ℤ)
      → Follows Plain procedures b f y k z' → After procedures main K f.regions z' m z → n ≡ k.turns + m
      → After procedures main (Behind b ∷ K) f.regions y n z
  follows_on K m z (GoesOn b f l a {k = k} {z = z'} r) q e = record { counts = k; middle = z'; rest = m; first = r; second = q; sum = e }
  follows_on K m z (Stops b f stop a) q e = (omega (arith, e, q.0), q.1)

  follows_back : (b : Block) (f : Frame) (y : End Locals) (K : List Item) (n : ℕ) (z : End ℤ) → After procedures main (Behind b ∷ K) f.regions y n z
      → Two (Follows Plain procedures b f y) (After procedures main K f.regions) n z
  follows_back b f (Ended l a) K n z t =
      record { counts = t.counts; middle = t.middle; rest = t.rest; first = GoesOn b f l a t.first; second = t.second; sum = t.sum }
  follows_back b f (Trapped stop a) K n z t =
      record { counts = none; middle = Trapped stop a; rest = 0; first = Stops b f stop a; second = (refl, t.1); sum = t.0 }

  -- nothing is left of a block
  nil_on : {f : Frame} {a : Arrays} {k : Counts} {y : End Locals} (K : List Item) (m : ℕ) {n : ℕ} (z : End ℤ)
      → Runs Plain procedures Nil f a k y → After procedures main K f.regions y m z → n ≡ k.turns + m
      → Later 0 (After procedures main K f.regions (Ended f.locals a)) n z
  nil_on K m z (Done f a) q e = record { rest = m; sum = e; next = q }

  pub nil_step : (f : Frame) (a : Arrays) (K : List Item) → Shifts 0 (Block_ procedures main Nil f a K) (After procedures main K f.regions (Ended f.locals a))
  nil_step f a K = record {
    on = λ n z t. nil_on K t.rest z t.first t.second t.sum;
    back = λ n z w. record { counts = none; middle = Ended f.locals a; rest = w.rest; first = Done f a; second = w.next; sum = w.sum };
  }

  -- a `let` and the assignments
  let_on : {x : Named} {e : Expression} {b : Block} {f : Frame} {a : Arrays} {k : Counts} {y : End Locals} (K : List Item) (m : ℕ) {n : ℕ} (z : End ℤ)
      → Runs Plain procedures (Then (Let x e) b) f a k y → After procedures main K f.regions y m z → n ≡ k.turns + m
      → Later 1 (After procedures main (Behind b ∷ K) f.regions (assigned x e f a)) n z
  let_on K m z (Lets x e b f a {k = k} w) q s = record { rest = k.turns + m; sum = omega (arith, s); next = follows_on K m z w q refl }

  pub let_step : (x : Named) (e : Expression) (b : Block) (f : Frame) (a : Arrays) (K : List Item)
      → Shifts 1 (Block_ procedures main (Then (Let x e) b) f a K) (After procedures main (Behind b ∷ K) f.regions (assigned x e f a))
  let_step x e b f a K = record {
    on = λ n z t. let_on K t.rest z t.first t.second t.sum;
    back = λ n z w. let t = follows_back b f (assigned x e f a) K w.rest z w.next in
        record { counts = both (spent 1) t.counts; middle = t.middle; rest = t.rest; first = Lets x e b f a t.first; second = t.second; sum = omega (arith, w.sum, t.sum) };
  }

  assign_on : {x : Named} {e : Expression} {b : Block} {f : Frame} {a : Arrays} {k : Counts} {y : End Locals} (K : List Item) (m : ℕ) {n : ℕ} (z : End ℤ)
      → Runs Plain procedures (Then (Assign x e) b) f a k y → After procedures main K f.regions y m z → n ≡ k.turns + m
      → Later 1 (After procedures main (Behind b ∷ K) f.regions (assigned x e f a)) n z
  assign_on K m z (Assigns x e b f a {k = k} w) q s = record { rest = k.turns + m; sum = omega (arith, s); next = follows_on K m z w q refl }

  pub assign_step : (x : Named) (e : Expression) (b : Block) (f : Frame) (a : Arrays) (K : List Item)
      → Shifts 1 (Block_ procedures main (Then (Assign x e) b) f a K) (After procedures main (Behind b ∷ K) f.regions (assigned x e f a))
  assign_step x e b f a K = record {
    on = λ n z t. assign_on K t.rest z t.first t.second t.sum;
    back = λ n z w. let t = follows_back b f (assigned x e f a) K w.rest z w.next in
        record { counts = both (spent 1) t.counts; middle = t.middle; rest = t.rest; first = Assigns x e b f a t.first; second = t.second; sum = omega (arith, w.sum, t.sum) };
  }

  put_on : {x : Named} {i e : Expression} {b : Block} {f : Frame} {a : Arrays} {k : Counts} {y : End Locals} (K : List Item) (m : ℕ) {n : ℕ} (z : End ℤ)
      → Runs Plain procedures (Then (Put x i e) b) f a k y → After procedures main K f.regions y m z → n ≡ k.turns + m
      → Later 1 (After procedures main (Behind b ∷ K) f.regions (stored x i e f a)) n z
  put_on K m z (Puts x i e b f a {k = k} w) q s = record { rest = k.turns + m; sum = omega (arith, s); next = follows_on K m z w q refl }

  pub put_step : (x : Named) (i e : Expression) (b : Block) (f : Frame) (a : Arrays) (K : List Item)
      → Shifts 1 (Block_ procedures main (Then (Put x i e) b) f a K) (After procedures main (Behind b ∷ K) f.regions (stored x i e f a))
  put_step x i e b f a K = record {
    on = λ n z t. put_on K t.rest z t.first t.second t.sum;
    back = λ n z w. let t = follows_back b f (stored x i e f a) K w.rest z w.next in
        record { counts = both (spent 1) t.counts; middle = t.middle; rest = t.rest; first = Puts x i e b f a t.first; second = t.second; sum = omega (arith, w.sum, t.sum) };
  }

  -- a choice
  if_on : {e : Expression} {p c : Block} {b : Block} {f : Frame} {a : Arrays} {k : Counts} {y : End Locals} (K : List Item) (m : ℕ) {n : ℕ} (z : End ℤ) (r : Result ℤ TrapAt)
      → evaluate f a e ≡ r → Runs Plain procedures (Then (If e p c) b) f a k y → After procedures main K f.regions y m z → n ≡ k.turns + m
      → Later 1 (Opens r a (λ v. Block_ procedures main (chosen (holds v) p c) f a (Behind b ∷ K))) n z
  if_on K m z (Ok v) is (Ifs e p c b f a u {j = j} {k = k} {y = o} is' r w) q s = record {
    rest = j.turns + (k.turns + m);
    sum = omega (arith, s);
    next = record {
      counts = j;
      middle = o;
      rest = k.turns + m;
      first = subst (λ (v : ℤ). Runs Plain procedures (chosen (holds v) p c) f a j o) (ok_same is' is) r;
      second = follows_on K m z w q refl;
      sum = refl;
    };
  }
  if_on K m z (Ok v) is (IfTraps e p c b f a stop is') q s = absurd (not_both is is')
  if_on K m z (Err stop) is (Ifs e p c b f a u is' r w) q s = absurd (not_both is' is)
  if_on K m z (Err stop) is (IfTraps e p c b f a stop' is') q s =
      record { rest = 0; sum = omega (arith, s, q.0); next = (refl, q.1 ∙ ap (λ (t : TrapAt). Trapped t a) (err_same is' is)) }

  if_back : (e : Expression) (p c : Block) (b : Block) (f : Frame) (a : Arrays) (K : List Item) (r : Result ℤ TrapAt) → evaluate f a e ≡ r → (n : ℕ) (z : End ℤ)
      → Later 1 (Opens r a (λ v. Block_ procedures main (chosen (holds v) p c) f a (Behind b ∷ K))) n z → Block_ procedures main (Then (If e p c) b) f a K n z
  if_back e p c b f a K (Ok v) is n z w = let t = w.next in let u = follows_back b f t.middle K t.rest z t.second in
      record { counts = both (spent 1) (both t.counts u.counts); middle = u.middle; rest = u.rest; first = Ifs e p c b f a v is t.first u.first; second = u.second; sum = omega (arith, w.sum, t.sum, u.sum) }
  if_back e p c b f a K (Err stop) is n z w =
      record { counts = spent 1; middle = Trapped stop a; rest = 0; first = IfTraps e p c b f a stop is; second = (refl, w.next.1); sum = omega (arith, w.sum, w.next.0) }

  pub if_step : (e : Expression) (p c : Block) (b : Block) (f : Frame) (a : Arrays) (K : List Item)
      → Shifts 1 (Block_ procedures main (Then (If e p c) b) f a K) (Opens (evaluate f a e) a (λ v. Block_ procedures main (chosen (holds v) p c) f a (Behind b ∷ K)))
  if_step e p c b f a K = record {
    on = λ n z t. if_on K t.rest z (evaluate f a e) refl t.first t.second t.sum;
    back = if_back e p c b f a K (evaluate f a e) refl;
  }

  -- the end of a split's block has the regions as they were
  leaves_on : (K : List Item) (rs rs' : Regions) (n : ℕ) (z : End ℤ) (y : End Locals) → After procedures main K rs' y n z → After procedures main (Leaves rs' ∷ K) rs y n z
  leaves_on K rs rs' n z (Ended l a) q = q
  leaves_on K rs rs' n z (Trapped stop a) q = q

  leaves_back : (K : List Item) (rs rs' : Regions) (n : ℕ) (z : End ℤ) (y : End Locals) → After procedures main (Leaves rs' ∷ K) rs y n z → After procedures main K rs' y n z
  leaves_back K rs rs' n z (Ended l a) q = q
  leaves_back K rs rs' n z (Trapped stop a) q = q

  -- a split
  split_on : {line : ℕ} {r : Named} {e : Expression} {x y : Named} {p : Block} {b : Block} {f : Frame} {a : Arrays} {k : Counts} {u' : End Locals} (K : List Item) (m : ℕ) {n : ℕ} (z : End ℤ) (d : Result ℕ TrapAt)
      → then_with (evaluate f a e) (split_at line (f.regions r.name)) ≡ d → Runs Plain procedures (Then (Split line r e x y p) b) f a k u' → After procedures main K f.regions u' m z → n ≡ k.turns + m
      → Later 1 (Opens d a (λ c. Block_ procedures main p (with_parts f (f.regions r.name) c x y) a (Leaves f.regions ∷ Behind b ∷ K))) n z
  split_on K m z (Ok c) is (Splits line r e x y p b f a u {j = j} {k = k} {u = o} is' run w) q s = record {
    rest = j.turns + (k.turns + m);
    sum = omega (arith, s);
    next = record {
      counts = j;
      middle = o;
      rest = k.turns + m;
      first = subst (λ (c : ℕ). Runs Plain procedures p (with_parts f (f.regions r.name) c x y) a j o) (ok_same is' is) run;
      second = leaves_on (Behind b ∷ K) (with_parts f (f.regions r.name) c x y).regions f.regions (k.turns + m) z o (follows_on K m z w q refl);
      sum = refl;
    };
  }
  split_on K m z (Ok c) is (SplitTraps line r e x y p b f a stop is') q s = absurd (not_both is is')
  split_on K m z (Err stop) is (Splits line r e x y p b f a u is' run w) q s = absurd (not_both is' is)
  split_on K m z (Err stop) is (SplitTraps line r e x y p b f a stop' is') q s =
      record { rest = 0; sum = omega (arith, s, q.0); next = (refl, q.1 ∙ ap (λ (t : TrapAt). Trapped t a) (err_same is' is)) }

  split_back : (line : ℕ) (r : Named) (e : Expression) (x y : Named) (p : Block) (b : Block) (f : Frame) (a : Arrays) (K : List Item) (d : Result ℕ TrapAt) → then_with (evaluate f a e) (split_at line (f.regions r.name)) ≡ d → (n : ℕ) (z : End ℤ)
      → Later 1 (Opens d a (λ c. Block_ procedures main p (with_parts f (f.regions r.name) c x y) a (Leaves f.regions ∷ Behind b ∷ K))) n z → Block_ procedures main (Then (Split line r e x y p) b) f a K n z
  split_back line r e x y p b f a K (Ok c) is n z w = let t = w.next in let u = follows_back b f t.middle K t.rest z (leaves_back (Behind b ∷ K) (with_parts f (f.regions r.name) c x y).regions f.regions t.rest z t.middle t.second) in
      record { counts = both (spent 1) (both t.counts u.counts); middle = u.middle; rest = u.rest; first = Splits line r e x y p b f a c is t.first u.first; second = u.second; sum = omega (arith, w.sum, t.sum, u.sum) }
  split_back line r e x y p b f a K (Err stop) is n z w =
      record { counts = spent 1; middle = Trapped stop a; rest = 0; first = SplitTraps line r e x y p b f a stop is; second = (refl, w.next.1); sum = omega (arith, w.sum, w.next.0) }

  pub split_step : (line : ℕ) (r : Named) (e : Expression) (x y : Named) (p : Block) (b : Block) (f : Frame) (a : Arrays) (K : List Item)
      → Shifts 1 (Block_ procedures main (Then (Split line r e x y p) b) f a K) (Opens (then_with (evaluate f a e) (split_at line (f.regions r.name))) a (λ c. Block_ procedures main p (with_parts f (f.regions r.name) c x y) a (Leaves f.regions ∷ Behind b ∷ K)))
  split_step line r e x y p b f a K = record {
    on = λ n z t. split_on K t.rest z (then_with (evaluate f a e) (split_at line (f.regions r.name))) refl t.first t.second t.sum;
    back = split_back line r e x y p b f a K (then_with (evaluate f a e) (split_at line (f.regions r.name))) refl;
  }

  -- a loop, whose tests come with the rest after them
  while_on : {e : Expression} {p b : Block} {f : Frame} {a : Arrays} {k : Counts} {y : End Locals} (K : List Item) (m : ℕ) {n : ℕ} (z : End ℤ)
      → Runs Plain procedures (Then (While e p) b) f a k y → After procedures main K f.regions y m z → n ≡ k.turns + m
      → Later 1 (Loop_ procedures main e p f a (Behind b ∷ K)) n z
  while_on K m z (Whiles e p b f a {j = j} {k = k} {y = o} r w) q s = record {
    rest = j.turns + (k.turns + m);
    sum = omega (arith, s);
    next = record { counts = j; middle = o; rest = k.turns + m; first = r; second = follows_on K m z w q refl; sum = refl };
  }

  pub while_step : (e : Expression) (p b : Block) (f : Frame) (a : Arrays) (K : List Item)
      → Shifts 1 (Block_ procedures main (Then (While e p) b) f a K) (Loop_ procedures main e p f a (Behind b ∷ K))
  while_step e p b f a K = record {
    on = λ n z t. while_on K t.rest z t.first t.second t.sum;
    back = λ n z w. let t = w.next in let u = follows_back b f t.middle K t.rest z t.second in
        record { counts = both (spent 1) (both t.counts u.counts); middle = u.middle; rest = u.rest; first = Whiles e p b f a t.first u.first; second = u.second; sum = omega (arith, w.sum, t.sum, u.sum) };
  }

  -- what comes after a test, whether it holds
  abbrev pub Tested : Bool → Expression → Block → Frame → Arrays → List Item → ℕ → End ℤ → Type 0
  Tested true e p f a K n z = Block_ procedures main p f a (Tests e p ∷ K) n z
  Tested false e p f a K n z = After procedures main K f.regions (Ended f.locals a) n z

  -- the test of a loop
  holds_on : (e : Expression) (p : Block) (f : Frame) (a : Arrays) (K : List Item) (n : ℕ) (z : End ℤ) {h g : Bool} → h ≡ g
      → Later 1 (Tested h e p f a K) n z → Later 1 (Tested g e p f a K) n z
  holds_on e p f a K n z i w = subst (λ (h : Bool). Later 1 (Tested h e p f a K) n z) i w

  loop_on : {e : Expression} {p : Block} {f : Frame} {a : Arrays} {k : Counts} {y : End Locals} (K : List Item) (m : ℕ) {n : ℕ} (z : End ℤ) (r : Result ℤ TrapAt)
      → evaluate f a e ≡ r → Loops Plain procedures e p f a k y → After procedures main K f.regions y m z → n ≡ k.turns + m
      → Later 1 (Opens r a (λ v. Tested (holds v) e p f a K)) n z
  loop_on K m z (Ok v) is (TestFails e p f a u is' fails) q s =
      holds_on e p f a K _ z (sym fails ∙ ap holds (ok_same is' is)) (record { rest = m; sum = s; next = q })
  loop_on K m z (Ok v) is (TestTraps e p f a stop is') q s = absurd (not_both is is')
  loop_on K m z (Ok v) is (Turns e p f a c u l {j = j} {k = k} {z = o} is' true_ r w) q s =
      holds_on e p f a K _ z (sym true_ ∙ ap holds (ok_same is' is)) (record {
        rest = j.turns + (k.turns + m);
        sum = omega (arith, s);
        next = record {
          counts = j;
          middle = Ended l c;
          rest = k.turns + m;
          first = r;
          second = record { counts = k; middle = o; rest = m; first = w; second = q; sum = refl };
          sum = refl;
        };
      })
  loop_on K m z (Ok v) is (TurnTraps e p f a c u stop {j = j} is' true_ r) q s =
      holds_on e p f a K _ z (sym true_ ∙ ap holds (ok_same is' is)) (record {
        rest = j.turns + m;
        sum = omega (arith, s);
        next = record { counts = j; middle = Trapped stop c; rest = m; first = r; second = q; sum = refl };
      })
  loop_on K m z (Err stop) is (TestFails e p f a u is' fails) q s = absurd (not_both is' is)
  loop_on K m z (Err stop) is (TestTraps e p f a stop' is') q s =
      record { rest = 0; sum = omega (arith, s, q.0); next = (refl, q.1 ∙ ap (λ (t : TrapAt). Trapped t a) (err_same is' is)) }
  loop_on K m z (Err stop) is (Turns e p f a c u l is' true_ r w) q s = absurd (not_both is' is)
  loop_on K m z (Err stop) is (TurnTraps e p f a c u stop' is' true_ r) q s = absurd (not_both is' is)

  turn_back : (e : Expression) (p : Block) (f : Frame) (a : Arrays) (K : List Item) (v : ℤ) → evaluate f a e ≡ Ok v → holds v ≡ true → (n m c : ℕ) (z : End ℤ)
      → {j : Counts} (y : End Locals) → Runs Plain procedures p f a j y → After procedures main (Tests e p ∷ K) f.regions y m z → c ≡ j.turns + m → n ≡ 1 + c
      → Loop_ procedures main e p f a K n z
  turn_back e p f a K v is h n m c z {j = j} (Ended l d) r q s t =
      record { counts = both (spent 1) (both j q.counts); middle = q.middle; rest = q.rest; first = Turns e p f a d v l is h r q.first; second = q.second; sum = omega (arith, s, t, q.sum) }
  turn_back e p f a K v is h n m c z {j = j} (Trapped stop d) r q s t =
      record { counts = both (spent 1) j; middle = Trapped stop d; rest = m; first = TurnTraps e p f a d v stop is h r; second = q; sum = omega (arith, s, t) }

  tested_back : (e : Expression) (p : Block) (f : Frame) (a : Arrays) (K : List Item) (v : ℤ) → evaluate f a e ≡ Ok v → (h : Bool) → holds v ≡ h → (n : ℕ) (z : End ℤ)
      → Later 1 (Tested h e p f a K) n z → Loop_ procedures main e p f a K n z
  tested_back e p f a K v is true h n z w = let t = w.next in turn_back e p f a K v is h n t.rest w.rest z t.middle t.first t.second t.sum w.sum
  tested_back e p f a K v is false h n z w =
      record { counts = spent 1; middle = Ended f.locals a; rest = w.rest; first = TestFails e p f a v is h; second = w.next; sum = w.sum }

  loop_back : (e : Expression) (p : Block) (f : Frame) (a : Arrays) (K : List Item) (r : Result ℤ TrapAt) → evaluate f a e ≡ r → (n : ℕ) (z : End ℤ)
      → Later 1 (Opens r a (λ v. Tested (holds v) e p f a K)) n z → Loop_ procedures main e p f a K n z
  loop_back e p f a K (Ok v) is n z w = tested_back e p f a K v is (holds v) refl n z w
  loop_back e p f a K (Err stop) is n z w =
      record { counts = spent 1; middle = Trapped stop a; rest = 0; first = TestTraps e p f a stop is; second = (refl, w.next.1); sum = omega (arith, w.sum, w.next.0) }

  pub loop_step : (e : Expression) (p : Block) (f : Frame) (a : Arrays) (K : List Item)
      → Shifts 1 (Loop_ procedures main e p f a K) (Opens (evaluate f a e) a (λ v. Tested (holds v) e p f a K))
  loop_step e p f a K = record {
    on = λ n z t. loop_on K t.rest z (evaluate f a e) refl t.first t.second t.sum;
    back = loop_back e p f a K (evaluate f a e) refl;
  }

  -- the blocks of an `each`
  each_on : {i x r : Named} {p b : Block} {f : Frame} {a : Arrays} {k : Counts} {y : End Locals} (K : List Item) (m : ℕ) {n : ℕ} (z : End ℤ)
      → Runs Plain procedures (Then (tree.Each i x r p) b) f a k y → After procedures main K f.regions y m z → n ≡ k.turns + m
      → Later 9 (Sweep_ procedures main i x p (f.regions r.name) f 0 (f.regions r.name).length a (Behind b ∷ K)) n z
  each_on K m z (Eaches i x r p b f a {j = j} {k = k} {y = o} run w) q s = record {
    rest = j.turns + (k.turns + m);
    sum = omega (arith, s);
    next = record { counts = j; middle = o; rest = k.turns + m; first = run; second = follows_on K m z w q refl; sum = refl };
  }

  pub each_step : (i x r : Named) (p b : Block) (f : Frame) (a : Arrays) (K : List Item)
      → Shifts 9 (Block_ procedures main (Then (tree.Each i x r p) b) f a K) (Sweep_ procedures main i x p (f.regions r.name) f 0 (f.regions r.name).length a (Behind b ∷ K))
  each_step i x r p b f a K = record {
    on = λ n z t. each_on K t.rest z t.first t.second t.sum;
    back = λ n z w. let t = w.next in let u = follows_back b f t.middle K t.rest z t.second in
        record { counts = _; middle = u.middle; rest = u.rest; first = Eaches i x r p b f a t.first u.first; second = u.second; sum = omega (arith, w.sum, t.sum, u.sum) };
  }

  swept_on : {i x : Named} {p : Block} {r : Region} {f : Frame} {c : ℕ} {a : Arrays} {k : Counts} {y : End Locals} (K : List Item) (m : ℕ) {n : ℕ} (z : End ℤ)
      → Sweeps Plain procedures i x p r f c zero a k y → After procedures main K f.regions y m z → n ≡ k.turns + m
      → Later 0 (After procedures main K f.regions (Ended f.locals a)) n z
  swept_on K m z (Swept i x p r f c a) q s = record { rest = m; sum = s; next = q }

  pub swept_step : (i x : Named) (p : Block) (r : Region) (f : Frame) (c : ℕ) (a : Arrays) (K : List Item)
      → Shifts 0 (Sweep_ procedures main i x p r f c zero a K) (After procedures main K f.regions (Ended f.locals a))
  swept_step i x p r f c a K = record {
    on = λ n z t. swept_on K t.rest z t.first t.second t.sum;
    back = λ n z w. record { counts = none; middle = Ended f.locals a; rest = w.rest; first = Swept i x p r f c a; second = w.next; sum = w.sum };
  }

  sweep_on : {i x : Named} {p : Block} {r : Region} {f : Frame} {c d : ℕ} {a : Arrays} {k : Counts} {y : End Locals} (K : List Item) (m : ℕ) {n : ℕ} (z : End ℤ)
      → Sweeps Plain procedures i x p r f c (suc d) a k y → After procedures main K f.regions y m z → n ≡ k.turns + m
      → Later 8 (Block_ procedures main p (with_element f r c i x) a (Sweeping i x p r f (suc c) d ∷ K)) n z
  sweep_on K m z (Sweep i x p r f c d a {j = j} {k = k} {y = Ended l e} {z = o} run on w) q s = record {
    rest = j.turns + (k.turns + m);
    sum = omega (arith, s);
    next = record {
      counts = j;
      middle = Ended l e;
      rest = k.turns + m;
      first = run;
      second = record { counts = k; middle = o; rest = m; first = w; second = q; sum = refl };
      sum = refl;
    };
  }
  sweep_on K m z (Sweep i x p r f c d a {y = Trapped stop e} run on w) q s = cc
  sweep_on K m z (SweepStops i x p r f c d a e stop {j = j} plain run) q s =
      record { rest = j.turns + m; sum = omega (arith, s); next = record { counts = j; middle = Trapped stop e; rest = m; first = run; second = q; sum = refl } }

  sweep_back : (i x : Named) (p : Block) (r : Region) (f : Frame) (c d : ℕ) (a : Arrays) (K : List Item) (n m v : ℕ) (z : End ℤ) → {j : Counts} (y : End Locals)
      → Runs Plain procedures p (with_element f r c i x) a j y → After procedures main (Sweeping i x p r f (suc c) d ∷ K) f.regions y m z → v ≡ j.turns + m → n ≡ 8 + v
      → Sweep_ procedures main i x p r f c (suc d) a K n z
  sweep_back i x p r f c d a K n m v z {j = j} (Ended l e) run q s t = record {
    counts = both (spent 8) (both j q.counts);
    middle = q.middle;
    rest = q.rest;
    first = Sweep i x p r f c d a run refl q.first;
    second = q.second;
    sum = omega (arith, s, t, q.sum);
  }
  sweep_back i x p r f c d a K n m v z {j = j} (Trapped stop e) run q s t =
      record { counts = both (spent 8) j; middle = Trapped stop e; rest = m; first = SweepStops i x p r f c d a e stop refl run; second = q; sum = omega (arith, s, t) }

  sweeping_any : (i x : Named) (p : Block) (r : Region) (f : Frame) (c d : ℕ) (K : List Item) (rs rs' : Regions) (n : ℕ) (z : End ℤ) (y : End Locals)
      → After procedures main (Sweeping i x p r f c d ∷ K) rs y n z → After procedures main (Sweeping i x p r f c d ∷ K) rs' y n z
  sweeping_any i x p r f c d K rs rs' n z (Ended l a) q = q
  sweeping_any i x p r f c d K rs rs' n z (Trapped stop a) q = q

  pub sweep_step : (i x : Named) (p : Block) (r : Region) (f : Frame) (c d : ℕ) (a : Arrays) (K : List Item)
      → Shifts 8 (Sweep_ procedures main i x p r f c (suc d) a K) (Block_ procedures main p (with_element f r c i x) a (Sweeping i x p r f (suc c) d ∷ K))
  sweep_step i x p r f c d a K = record {
    on = λ n z t. sweep_on K t.rest z t.first t.second t.sum;
    back = λ n z w. let t = w.next in sweep_back i x p r f c d a K n t.rest w.rest z t.middle t.first (sweeping_any i x p r f (suc c) d K (with_element f r c i x).regions f.regions t.rest z t.middle t.second) t.sum w.sum;
  }

  -- a procedure is entered, and gives at the end of its body
  pub enter_on : {p : Procedure} {g : Frame} {a : Arrays} {k : Counts} {y : End ℤ} (Q : End ℤ → ℕ → End ℤ → Type 0)
      → ((stop : TrapAt) (c : Arrays) (n : ℕ) (z : End ℤ) → Q (Trapped stop c) n z → Trap stop c n z) → (m : ℕ) {n : ℕ} (z : End ℤ)
      → Enters Plain procedures p g a k y → Q y m z → n ≡ k.turns + m
      → Later 1 (Two (Runs Plain procedures p.body g a) (Gave p.give g.regions Q)) n z
  enter_on Q traps m z (Enter p g a {j = j} {y = Ended l c} r) q s =
      let t = gave_turn p.give l c in
      record {
        rest = j.turns + (given_turns p.give + m);
        sum = omega (arith, s, t);
        next = record {
          counts = j;
          middle = Ended l c;
          rest = given_turns p.give + m;
          first = r;
          second = record { rest = m; sum = refl; next = subst (λ (y : End ℤ). Q y m z) (gave_given p.give g l c) q };
          sum = refl;
        };
      }
  enter_on Q traps m z (Enter p g a {j = j} {y = Trapped stop c} r) q s = record {
    rest = j.turns + m;
    sum = omega (arith, s);
    next = record { counts = j; middle = Trapped stop c; rest = m; first = r; second = traps stop c m z q; sum = refl };
  }

  pub enter_back : (p : Procedure) (g : Frame) (a : Arrays) (Q : End ℤ → ℕ → End ℤ → Type 0)
      → ((stop : TrapAt) (c : Arrays) (n : ℕ) (z : End ℤ) → Trap stop c n z → Q (Trapped stop c) n z) → (n m v : ℕ) (z : End ℤ) → {j : Counts} (y : End Locals)
      → Runs Plain procedures p.body g a j y → Gave p.give g.regions Q y m z → v ≡ j.turns + m → n ≡ 1 + v → Two (Enters Plain procedures p g a) Q n z
  enter_back p g a Q traps n m v z {j = j} (Ended l c) r q s t =
      let e = gave_turn p.give l c in
      record {
        counts = both (spent 1) (both j (give_turn p.give (Ended l c)));
        middle = given p.give g (Ended l c);
        rest = q.rest;
        first = Enter p g a r;
        second = subst (λ (y : End ℤ). Q y q.rest z) (sym (gave_given p.give g l c)) q.next;
        sum = omega (arith, s, t, e, q.sum);
      }
  enter_back p g a Q traps n m v z {j = j} (Trapped stop c) r q s t = record {
    counts = both (spent 1) (both j none);
    middle = Trapped stop c;
    rest = m;
    first = Enter p g a r;
    second = traps stop c m z q;
    sum = omega (arith, s, t);
  }

  -- the end of a call's body
  returns_on : (g : Option Give) (x : Option Named) (f : Frame) (K : List Item) (rs : Regions) (n : ℕ) (z : End ℤ) (y : End Locals)
      → Gave g rs (λ w. After procedures main K f.regions (returned x f w)) y n z → After procedures main (Returns g x f ∷ K) rs y n z
  returns_on g x f K rs n z (Ended l a) q = q
  returns_on g x f K rs n z (Trapped stop a) q = q

  returns_back : (g : Option Give) (x : Option Named) (f : Frame) (K : List Item) (rs : Regions) (n : ℕ) (z : End ℤ) (y : End Locals)
      → After procedures main (Returns g x f ∷ K) rs y n z → Gave g rs (λ w. After procedures main K f.regions (returned x f w)) y n z
  returns_back g x f K rs n z (Ended l a) q = q
  returns_back g x f K rs n z (Trapped stop a) q = q

  pub called_step : (p : Procedure) (g : Frame) (a : Arrays) (x : Option Named) (f : Frame) (K : List Item)
      → Shifts 1 (Two (Enters Plain procedures p g a) (λ y. After procedures main K f.regions (returned x f y))) (Block_ procedures main p.body g a (Returns p.give x f ∷ K))
  called_step p g a x f K = record {
    on = λ n z t. let w = enter_on (λ y. After procedures main K f.regions (returned x f y)) (λ stop c n z q. q) t.rest z t.first t.second t.sum in let u = w.next in record {
      rest = w.rest;
      sum = w.sum;
      next = record { counts = u.counts; middle = u.middle; rest = u.rest; first = u.first; second = returns_on p.give x f K g.regions u.rest z u.middle u.second; sum = u.sum };
    };
    back = λ n z w. let u = w.next in
        enter_back p g a (λ y. After procedures main K f.regions (returned x f y)) (λ stop c n z q. q) n u.rest w.rest z u.middle u.first
        (returns_back p.give x f K g.regions u.rest z u.middle u.second) u.sum w.sum;
  }

  -- the end of a left branch's body
  crosses_on : (g : Option Give) (x y : Option Named) (f : Frame) (p : Procedure) (h : Frame) (K : List Item) (rs : Regions) (n : ℕ) (z : End ℤ) (o : End Locals)
      → Gave g rs (Crossed procedures p h (λ v w. After procedures main K f.regions (joined x y f (Ended v []) w))) o n z
      → After procedures main (Crosses g x y f p h ∷ K) rs o n z
  crosses_on g x y f p h K rs n z (Ended l a) q = q
  crosses_on g x y f p h K rs n z (Trapped stop a) q = q

  crosses_back : (g : Option Give) (x y : Option Named) (f : Frame) (p : Procedure) (h : Frame) (K : List Item) (rs : Regions) (n : ℕ) (z : End ℤ) (o : End Locals)
      → After procedures main (Crosses g x y f p h ∷ K) rs o n z
      → Gave g rs (Crossed procedures p h (λ v w. After procedures main K f.regions (joined x y f (Ended v []) w))) o n z
  crosses_back g x y f p h K rs n z (Ended l a) q = q
  crosses_back g x y f p h K rs n z (Trapped stop a) q = q

  pub left_step : (p : Procedure) (g : Frame) (a : Arrays) (x y : Option Named) (f : Frame) (p' : Procedure) (h : Frame) (K : List Item)
      → Shifts 1 (Two (Enters Plain procedures p g a) (Crossed procedures p' h (λ v w. After procedures main K f.regions (joined x y f (Ended v []) w))))
      (Block_ procedures main p.body g a (Crosses p.give x y f p' h ∷ K))
  left_step p g a x y f p' h K = record {
    on = λ n z t.
        let w = enter_on (Crossed procedures p' h (λ v w. After procedures main K f.regions (joined x y f (Ended v []) w))) (λ stop c n z q. q) t.rest z t.first t.second t.sum in
        let u = w.next in record {
          rest = w.rest;
          sum = w.sum;
          next = record { counts = u.counts; middle = u.middle; rest = u.rest; first = u.first; second = crosses_on p.give x y f p' h K g.regions u.rest z u.middle u.second; sum = u.sum };
        };
    back = λ n z w. let u = w.next in
        enter_back p g a (Crossed procedures p' h (λ v w. After procedures main K f.regions (joined x y f (Ended v []) w))) (λ stop c n z q. q) n u.rest w.rest z u.middle u.first
        (crosses_back p.give x y f p' h K g.regions u.rest z u.middle u.second) u.sum w.sum;
  }

  -- the end of a right branch's body
  joins_on : (g : Option Give) (x y : Option Named) (f : Frame) (v : ℤ) (K : List Item) (rs : Regions) (n : ℕ) (z : End ℤ) (o : End Locals)
      → Gave g rs (λ w. After procedures main K f.regions (joined x y f (Ended v []) w)) o n z → After procedures main (Joins g x y f v ∷ K) rs o n z
  joins_on g x y f v K rs n z (Ended l a) q = q
  joins_on g x y f v K rs n z (Trapped stop a) q = q

  joins_back : (g : Option Give) (x y : Option Named) (f : Frame) (v : ℤ) (K : List Item) (rs : Regions) (n : ℕ) (z : End ℤ) (o : End Locals)
      → After procedures main (Joins g x y f v ∷ K) rs o n z → Gave g rs (λ w. After procedures main K f.regions (joined x y f (Ended v []) w)) o n z
  joins_back g x y f v K rs n z (Ended l a) q = q
  joins_back g x y f v K rs n z (Trapped stop a) q = q

  pub right_step : (p : Procedure) (g : Frame) (a : Arrays) (x y : Option Named) (f : Frame) (v : ℤ) (K : List Item)
      → Shifts 1 (Two (Enters Plain procedures p g a) (λ w. After procedures main K f.regions (joined x y f (Ended v []) w)))
      (Block_ procedures main p.body g a (Joins p.give x y f v ∷ K))
  right_step p g a x y f v K = record {
    on = λ n z t.
        let w = enter_on (λ w. After procedures main K f.regions (joined x y f (Ended v []) w)) (λ stop c n z q. q) t.rest z t.first t.second t.sum in
        let u = w.next in record {
          rest = w.rest;
          sum = w.sum;
          next = record { counts = u.counts; middle = u.middle; rest = u.rest; first = u.first; second = joins_on p.give x y f v K g.regions u.rest z u.middle u.second; sum = u.sum };
        };
    back = λ n z w. let u = w.next in
        enter_back p g a (λ w. After procedures main K f.regions (joined x y f (Ended v []) w)) (λ stop c n z q. q) n u.rest w.rest z u.middle u.first
        (joins_back p.give x y f v K g.regions u.rest z u.middle u.second) u.sum w.sum;
  }

  -- a call
  call_on : {s : Side} {b : Block} {f : Frame} {a : Arrays} {k : Counts} {y : End Locals} (K : List Item) (m : ℕ) {n : ℕ} (z : End ℤ) (r : Result Frame TrapAt)
      → entered procedures f a s ≡ r → Runs Plain procedures (Then (tree.Call s) b) f a k y → After procedures main K f.regions y m z → n ≡ k.turns + m
      → Later 1 (Opens r a (λ g. Two (Enters Plain procedures (procedure_named procedures s.callee.name) g a)
      (λ y. After procedures main (Behind b ∷ K) f.regions (returned s.target f y)))) n z
  call_on K m z (Ok g) is (Calls s b f h a {j = j} {k = k} {y = o} is' r w) q e = record {
    rest = j.turns + (k.turns + m);
    sum = omega (arith, e);
    next = record {
      counts = j;
      middle = o;
      rest = k.turns + m;
      first = subst (λ (g : Frame). Enters Plain procedures (procedure_named procedures s.callee.name) g a j o) (ok_same is' is) r;
      second = follows_on K m z w q refl;
      sum = refl;
    };
  }
  call_on K m z (Ok g) is (CallTraps s b f a stop is') q e = absurd (not_both is is')
  call_on K m z (Err stop) is (Calls s b f h a is' r w) q e = absurd (not_both is' is)
  call_on K m z (Err stop) is (CallTraps s b f a stop' is') q e =
      record { rest = 0; sum = omega (arith, e, q.0); next = (refl, q.1 ∙ ap (λ (t : TrapAt). Trapped t a) (err_same is' is)) }

  call_back : (s : Side) (b : Block) (f : Frame) (a : Arrays) (K : List Item) (r : Result Frame TrapAt) → entered procedures f a s ≡ r → (n : ℕ) (z : End ℤ)
      → Later 1 (Opens r a (λ g. Two (Enters Plain procedures (procedure_named procedures s.callee.name) g a)
      (λ y. After procedures main (Behind b ∷ K) f.regions (returned s.target f y)))) n z → Block_ procedures main (Then (tree.Call s) b) f a K n z
  call_back s b f a K (Ok g) is n z w = let t = w.next in let u = follows_back b f (returned s.target f t.middle) K t.rest z t.second in
      record { counts = _; middle = u.middle; rest = u.rest; first = Calls s b f g a is t.first u.first; second = u.second; sum = omega (arith, w.sum, t.sum, u.sum) }
  call_back s b f a K (Err stop) is n z w =
      record { counts = _; middle = Trapped stop a; rest = 0; first = CallTraps s b f a stop is; second = (refl, w.next.1); sum = omega (arith, w.sum, w.next.0) }

  pub call_step : (s : Side) (b : Block) (f : Frame) (a : Arrays) (K : List Item)
      → Shifts 1 (Block_ procedures main (Then (tree.Call s) b) f a K) (Opens (entered procedures f a s) a
      (λ g. Two (Enters Plain procedures (procedure_named procedures s.callee.name) g a) (λ y. After procedures main (Behind b ∷ K) f.regions (returned s.target f y))))
  call_step s b f a K = record {
    on = λ n z t. call_on K t.rest z (entered procedures f a s) refl t.first t.second t.sum;
    back = call_back s b f a K (entered procedures f a s) refl;
  }

  -- what is stored after a fork, whatever the arrays after its left branch
  joined_any : (x y : Option Named) (f : Frame) (v : ℤ) (a c : Arrays) (w : End ℤ) → joined x y f (Ended v a) w ≡ joined x y f (Ended v c) w
  joined_any x y f v a c (Ended u d) = refl
  joined_any x y f v a c (Trapped stop d) = refl

  -- a fork
  abbrev pub Branches : Side → Side → Block → Frame → Arrays → List Item → Frame × Frame → ℕ → End ℤ → Type 0
  Branches s t b f a K p n z = Two (Enters Plain procedures (procedure_named procedures s.callee.name) p.0 a)
      (Crossed procedures (procedure_named procedures t.callee.name) p.1 (λ v w. After procedures main (Behind b ∷ K) f.regions (joined s.target t.target f (Ended v []) w))) n z

  fork_on : {s t : Side} {b : Block} {f : Frame} {a : Arrays} {k : Counts} {y : End Locals} (K : List Item) (m : ℕ) {n : ℕ} (z : End ℤ) (r : Result (Frame × Frame) TrapAt)
      → both_entered procedures f a s t ≡ r → Runs Plain procedures (Then (tree.Fork s t) b) f a k y → After procedures main K f.regions y m z → n ≡ k.turns + m
      → Later 1 (Opens r a (Branches s t b f a K)) n z
  fork_on K m z (Ok p) is (Forks s t b f g h a {i = i} {j = j} {k = k} {x = Ended v c} {y = o} is' l on r w) q e = record {
    rest = i.turns + (j.turns + (k.turns + m));
    sum = omega (arith, e);
    next = record {
      counts = i;
      middle = Ended v c;
      rest = j.turns + (k.turns + m);
      first = subst (λ (p : Frame × Frame). Enters Plain procedures (procedure_named procedures s.callee.name) p.0 a i (Ended v c)) (ok_same is' is) l;
      second = record {
        counts = j;
        middle = o;
        rest = k.turns + m;
        first = subst (λ (p : Frame × Frame). Enters Plain procedures (procedure_named procedures t.callee.name) p.1 c j o) (ok_same is' is) r;
        second = subst (λ (u : End Locals). After procedures main (Behind b ∷ K) f.regions u (k.turns + m) z) (joined_any s.target t.target f v c [] o) (follows_on K m z w q refl);
        sum = refl;
      };
      sum = refl;
    };
  }
  fork_on K m z (Ok p) is (Forks s t b f g h a {x = Trapped stop c} is' l on r w) q e = cc
  fork_on K m z (Ok p) is (ForkStops s t b f g h a c stop {i = i} is' plain l) q e = record {
    rest = i.turns + m;
    sum = omega (arith, e);
    next = record {
      counts = i;
      middle = Trapped stop c;
      rest = m;
      first = subst (λ (p : Frame × Frame). Enters Plain procedures (procedure_named procedures s.callee.name) p.0 a i (Trapped stop c)) (ok_same is' is) l;
      second = q;
      sum = refl;
    };
  }
  fork_on K m z (Ok p) is (ForkTraps s t b f a stop is') q e = absurd (not_both is is')
  fork_on K m z (Err stop) is (Forks s t b f g h a is' l on r w) q e = absurd (not_both is' is)
  fork_on K m z (Err stop) is (ForkStops s t b f g h a c stop' is' plain l) q e = absurd (not_both is' is)
  fork_on K m z (Err stop) is (ForkTraps s t b f a stop' is') q e =
      record { rest = 0; sum = omega (arith, e, q.0); next = (refl, q.1 ∙ ap (λ (t : TrapAt). Trapped t a) (err_same is' is)) }

  branches_back : (s t : Side) (b : Block) (f : Frame) (a : Arrays) (K : List Item) (p : Frame × Frame) → both_entered procedures f a s t ≡ Ok p → (n m c : ℕ) (z : End ℤ)
      → {i : Counts} (y : End ℤ) → Enters Plain procedures (procedure_named procedures s.callee.name) p.0 a i y
      → Crossed procedures (procedure_named procedures t.callee.name) p.1 (λ v w. After procedures main (Behind b ∷ K) f.regions (joined s.target t.target f (Ended v []) w)) y m z
      → c ≡ i.turns + m → n ≡ 1 + c → Block_ procedures main (Then (tree.Fork s t) b) f a K n z
  branches_back s t b f a K p is n m c z (Ended v d) l q e o =
      let u = follows_back b f (joined s.target t.target f (Ended v d) q.middle) K q.rest z
      (subst (λ (u : End Locals). After procedures main (Behind b ∷ K) f.regions u q.rest z) (joined_any s.target t.target f v [] d q.middle) q.second) in
      record { counts = _; middle = u.middle; rest = u.rest; first = Forks s t b f p.0 p.1 a is l refl q.first u.first; second = u.second; sum = omega (arith, e, o, q.sum, u.sum) }
  branches_back s t b f a K p is n m c z (Trapped stop d) l q e o =
      record { counts = _; middle = Trapped stop d; rest = m; first = ForkStops s t b f p.0 p.1 a d stop is refl l; second = q; sum = omega (arith, e, o) }

  fork_back : (s t : Side) (b : Block) (f : Frame) (a : Arrays) (K : List Item) (r : Result (Frame × Frame) TrapAt) → both_entered procedures f a s t ≡ r → (n : ℕ) (z : End ℤ)
      → Later 1 (Opens r a (Branches s t b f a K)) n z → Block_ procedures main (Then (tree.Fork s t) b) f a K n z
  fork_back s t b f a K (Ok p) is n z w = let u = w.next in branches_back s t b f a K p is n u.rest w.rest z u.middle u.first u.second u.sum w.sum
  fork_back s t b f a K (Err stop) is n z w =
      record { counts = _; middle = Trapped stop a; rest = 0; first = ForkTraps s t b f a stop is; second = (refl, w.next.1); sum = omega (arith, w.sum, w.next.0) }

  pub fork_step : (s t : Side) (b : Block) (f : Frame) (a : Arrays) (K : List Item)
      → Shifts 1 (Block_ procedures main (Then (tree.Fork s t) b) f a K) (Opens (both_entered procedures f a s t) a (Branches s t b f a K))
  fork_step s t b f a K = record {
    on = λ n z v. fork_on K v.rest z (both_entered procedures f a s t) refl v.first v.second v.sum;
    back = fork_back s t b f a K (both_entered procedures f a s t) refl;
  }
