-- Each rule of the meaning, and each rule of the points that are reached, for what the calls of the walk answer.
use Rattle.std.proofs.Common.{◌≡◌, ℕ, suc, ◌+◌, ℤ, pos, Bool, true, false, List, [], Option, Some, None, Result, Ok, Err, refl, sym, ap, subst, arith, ◌∙◌}
use Rattle.std.specs.Result.{IsErrAnd}
use Rattle.ppm_words.specs.declared.trap.Trap.{Trap}
use Rattle.ppm_tree.specs.declared.named.Named.{Named}
use Rattle.ppm_tree.specs.Tree.{Expression, Side, Statement, Block, Nil, Then, Let, Assign, Put, If, While, Split, Give, Procedure}
use Rattle.ppm_tree.specs.Tree as tree
use Rattle.ppm_tree.specs.Values.{holds}
use Rattle.ppm_tree.specs.State.{TrapAt, then_with, Region, Locals, Frame, Arrays, split_at, evaluate, put_values, with_word, with_local, delivered, first_part, second_part, procedure_named, entered, both_entered}
use Rattle.ppm_tree.specs.Meaning.{Plain, Counts, spent, both, none, began, forked, swept, give_turn, given, End, Ended, Trapped, end_of, assigned, stored, chosen}
use Rattle.ppm_tree.specs.Meaning.{with_element, Call, Runs, Follows, Loops, Enters, Sweeps}
use Rattle.ppm_tree.specs.Meaning.{Done, Lets, Assigns, Puts, Ifs, Whiles, Calls, Forks, Splits, Eaches, GoesOn, TestFails, Turns, Enter, Swept, Sweep}
use Rattle.ppm_by_name.specs.declared.held.Reading.{Reading}
use Rattle.ppm_trapped.specs.declared.halt.Halt.{Halt}
use Rattle.ppm_trapped.specs.declared.halt.Halt.TheVariants as halt
use Rattle.ppm_by_name.specs.Frames.{Bound, frame_of, local_of, region_of, with_lent}
use Rattle.ppm_trapped.specs.Sites.{Deed, Does, Gives, Point, trap_of, deed_trap, Meets, Reaches, Begins}
use Rattle.ppm_trapped.specs.Sites.{Itself, InChosen, InLoop, Again, First, Later, AtGive}
use Rattle.ppm_by_name.specs.Readings.{read_in}
use Rattle.ppm_trapped.specs.Walks.{deed_readings, Halts, HaltsIn, Says, Walks, Gets, Binds, EndsStatement, EndsBlock, EndsLoop, EndsSweep, EndsProcedure}
use Rattle.ppm_by_name.proofs.FrameLemmas.{bound_is}

-- a walk that halts at a point which is reached
pub halt_at : (ps : List Procedure) (p : Procedure) (d : Deed) (f : Frame) (a : Arrays) (Has : Point → Type 0) (h : Halt)
    → Has (record { procedure = p; deed = d; frame = f; arrays = a }) → Halts (deed_trap ps f a d) p (deed_readings ps f d) h → HaltsIn ps Has h
halt_at ps p d f a Has (halt.Trapped told) m t = (record { procedure = p; deed = d; frame = f; arrays = a }, m, t)
halt_at ps p d f a Has halt.NoMemory m t = tt

-- one that halts further in
pub halt_in : (ps : List Procedure) (Has Has' : Point → Type 0) (h : Halt) → ((z : Point) → Has z → Has' z) → HaltsIn ps Has h → HaltsIn ps Has' h
halt_in ps Has Has' (halt.Trapped told) on w = (w.0, on w.0 w.1, w.2)
halt_in ps Has Has' halt.NoMemory on w = tt

-- a trap that is said, and told of
pub says_halt : {A B : Type 0} (view : B → A) (said : Result A TrapAt) (p : Procedure) (rs : List Reading) (h : Halt) (t : Trap) (line : ℕ)
    → said ≡ Err (t, line) → Halts (Some (t, line)) p rs h → Says view said p rs (Err h)
says_halt view said p rs h t line e w = subst (λ r. Halts (trap_of r) p rs h) (sym e) w

-- a `?` goes out with the halt of the call before it
pub exit_walks : {A : Type 0} (ps : List Procedure) (Ends : A → Type 0) (Has : Point → Type 0) (h : Halt) (r : Result A Halt) → IsErrAnd r (λ y. y ≡ h)
    → HaltsIn ps Has h → Walks ps Ends Has r
exit_walks ps Ends Has h (Ok x) is w = absurd is
exit_walks ps Ends Has h (Err y) is w = subst (λ (y : Halt). HaltsIn ps Has y) (sym is) w

-- whether a test holds, by what was answered for a value that is its own
pub holds_so : (z w : ℤ) (b c : Bool) → w ≡ z → b ≡ holds w → b ≡ c → holds z ≡ c
holds_so z w b c e f g = ap holds (sym e) ∙ sym f ∙ g

module _ (ps : List Procedure) (p : Procedure) where
  -- a statement of the procedure is walked
  abbrev pub Steps : Statement → Bound → Arrays → Bound → Arrays → Result (Unit {0}) Halt → Type 0
  Steps s old a new a' r = Walks ps (λ u. EndsStatement ps s old a new a') (Meets ps p s (frame_of old) a) r

  -- a local gets a value
  gets_is : (x : Named) (e : Expression) (old new : Bound) (a : Arrays) (g : Gets (evaluate (frame_of old) a e) x.name old new)
      → assigned x e (frame_of old) a ≡ Ended (local_of new.locals) a
  gets_is x e old new a g =
      ap (λ (r : Result ℤ TrapAt). end_of r a (λ v. Ended (with_local (frame_of old) x.name v).locals a)) g.said_is
      ∙ ap (λ (f : Frame). Ended f.locals a) (sym (bound_is old x.name g.value))
      ∙ ap (λ (b : Bound). Ended (local_of b.locals) a) (sym g.frame)

  pub let_walks : (x : Named) (e : Expression) (old new : Bound) (a : Arrays) (r : Result (Unit {0}) Halt)
      → Binds (evaluate (frame_of old) a e) x.name old new p (read_in (frame_of old) e []) r
      → Walks ps (λ u. EndsStatement ps (Let x e) old a new a) (Meets ps p (Let x e) (frame_of old) a) r
  let_walks x e old new a (Ok u) g = record {
    regions = ap (λ (b : Bound). b.regions) g.frame;
    passed = λ b k y w. (both (spent 1) k, Lets x e b (frame_of old) a (subst (λ (z : End Locals). Follows Plain ps b (frame_of old) z k y) (sym (gets_is x e old new a g)) w));
  }
  let_walks x e old new a (Err h) t =
      halt_at ps p (Does (Let x e)) (frame_of old) a (Meets ps p (Let x e) (frame_of old) a) h
      (Itself p (Let x e) (frame_of old) a) t

  pub assign_walks : (x : Named) (e : Expression) (old new : Bound) (a : Arrays) (r : Result (Unit {0}) Halt)
      → Binds (evaluate (frame_of old) a e) x.name old new p (read_in (frame_of old) e []) r
      → Walks ps (λ u. EndsStatement ps (Assign x e) old a new a) (Meets ps p (Assign x e) (frame_of old) a) r
  assign_walks x e old new a (Ok u) g = record {
    regions = ap (λ (b : Bound). b.regions) g.frame;
    passed = λ b k y w. (both (spent 1) k, Assigns x e b (frame_of old) a (subst (λ (z : End Locals). Follows Plain ps b (frame_of old) z k y) (sym (gets_is x e old new a g)) w));
  }
  assign_walks x e old new a (Err h) t =
      halt_at ps p (Does (Assign x e)) (frame_of old) a (Meets ps p (Assign x e) (frame_of old) a) h
      (Itself p (Assign x e) (frame_of old) a) t

  -- an element gets one
  pub put_ends : (x : Named) (i e : Expression) (b : Bound) (a a' : Arrays) (q : ℕ × ℤ) → put_values (frame_of b) a x i e ≡ Ok q
      → a' ≡ with_word a (region_of b.regions x.name) q.0 q.1 → EndsStatement ps (Put x i e) b a b a'
  put_ends x i e b a a' q said is = record {
    regions = refl;
    passed = λ c k y w. (both (spent 1) k, Puts x i e c (frame_of b) a (subst (λ (z : End Locals). Follows Plain ps c (frame_of b) z k y) (sym stored_is) w));
  }
    where
      stored_is : stored x i e (frame_of b) a ≡ Ended (local_of b.locals) a'
      stored_is = ap (λ (r : Result (ℕ × ℤ) TrapAt). end_of r a (λ q. Ended (frame_of b).locals (with_word a ((frame_of b).regions x.name) q.0 q.1))) said
          ∙ ap (λ (c : Arrays). Ended (local_of b.locals) c) (sym is)

  -- a test chooses a block
  pub if_walks : (e : Expression) (s t : Block) (old new : Bound) (a a' : Arrays) (v : ℤ) (r : Result (Unit {0}) Halt) → evaluate (frame_of old) a e ≡ Ok v
      → Walks ps (λ u. EndsBlock ps (chosen (holds v) s t) old a new a') (Reaches ps p (chosen (holds v) s t) (frame_of old) a) r
      → Walks ps (λ u. EndsStatement ps (If e s t) old a new a') (Meets ps p (If e s t) (frame_of old) a) r
  if_walks e s t old new a a' v (Ok u) said w = record {
    regions = w.regions;
    passed = λ b k y q. (both (spent 1) (both w.counts k), Ifs e s t b (frame_of old) a v said w.runs q);
  }
  if_walks e s t old new a a' v (Err h) said w =
      halt_in ps (Reaches ps p (chosen (holds v) s t) (frame_of old) a) (Meets ps p (If e s t) (frame_of old) a) h (λ z m. InChosen p e s t (frame_of old) a v z said m) w

  -- a loop
  pub while_walks : (e : Expression) (s : Block) (old new : Bound) (a a' : Arrays) (r : Result (Unit {0}) Halt)
      → Walks ps (λ u. EndsLoop ps e s old a new a') (Meets ps p (While e s) (frame_of old) a) r
      → Walks ps (λ u. EndsStatement ps (While e s) old a new a') (Meets ps p (While e s) (frame_of old) a) r
  while_walks e s old new a a' (Ok u) w = record {
    regions = w.regions;
    passed = λ b k y q. (both (spent 1) (both w.counts k), Whiles e s b (frame_of old) a w.loops q);
  }
  while_walks e s old new a a' (Err h) w =
      w

  -- an `each`
  pub each_walks : (i x r : Named) (s : Block) (b : Bound) (a a' : Arrays) (o : Result (Unit {0}) Halt)
      → Walks ps (λ u. EndsSweep ps i x s (region_of b.regions r.name) (frame_of b) a a') (Meets ps p (tree.Each i x r s) (frame_of b) a) o
      → Walks ps (λ u. EndsStatement ps (tree.Each i x r s) b a b a') (Meets ps p (tree.Each i x r s) (frame_of b) a) o
  each_walks i x r s b a a' (Ok u) w = record {
    regions = refl;
    passed = λ c k y q. (both (swept i x r s (region_of b.regions r.name).length) (both w.counts k), Eaches i x r s c (frame_of b) a w.sweeps q);
  }
  each_walks i x r s b a a' (Err h) w =
      w

  -- a call ends, and its value is in its target
  pub call_ends : (s : Side) (old new : Bound) (g : Frame) (a a' : Arrays) (v : ℤ) → entered ps (frame_of old) a s ≡ Ok g
      → EndsProcedure ps (procedure_named ps s.callee.name) g a v a' → frame_of new ≡ delivered s.target v (frame_of old) → new.regions ≡ old.regions
      → EndsStatement ps (tree.Call s) old a new a'
  call_ends s old new g a a' v said w is same = record {
    regions = same;
    passed = λ b k y q. (
      both (began (Call s.callee.name)) (both w.counts k),
      Calls s b (frame_of old) g a said w.enters
          (subst (λ (f : Frame). Follows Plain ps b (frame_of old) (Ended f.locals a') k y) is q),
    );
  }

  -- both branches of a fork end
  pub fork_ends : (s t : Side) (old mid new : Bound) (g h : Frame) (a a' a'' : Arrays) (v w : ℤ) → both_entered ps (frame_of old) a s t ≡ Ok (g, h)
      → EndsProcedure ps (procedure_named ps s.callee.name) g a v a' → EndsProcedure ps (procedure_named ps t.callee.name) h a' w a''
      → frame_of mid ≡ delivered s.target v (frame_of old) → mid.regions ≡ old.regions
      → frame_of new ≡ delivered t.target w (frame_of mid) → new.regions ≡ mid.regions → EndsStatement ps (tree.Fork s t) old a new a''
  fork_ends s t old mid new g h a a' a'' v w said l r is same is' same' = record {
    regions = same' ∙ same;
    passed = λ b k y q. (
      both (forked s t) (both l.counts (both r.counts k)),
      Forks s t b (frame_of old) g h a said l.enters refl r.enters
          (subst (λ (f : Frame). Follows Plain ps b (frame_of old) (Ended f.locals a'') k y) (is' ∙ ap (delivered t.target w) is) q),
    );
  }

  -- the block of a split ends, and its parts are taken back
  pub split_ends : (line : ℕ) (r : Named) (e : Expression) (x y : Named) (s : Block) (old inner new : Bound) (a a' : Arrays) (n : ℕ)
      → then_with (evaluate (frame_of old) a e) (split_at line (region_of old.regions r.name)) ≡ Ok n
      → EndsBlock ps s (with_lent (with_lent old x.name (first_part n (region_of old.regions r.name))) y.name (second_part n (region_of old.regions r.name))) a inner a'
      → new.locals ≡ inner.locals → new.regions ≡ old.regions → EndsStatement ps (Split line r e x y s) old a new a'
  split_ends line r e x y s old inner new a a' n said w same same' = record {
    regions = same';
    passed = λ b k z q. (
      both (spent 1) (both w.counts k),
      Splits line r e x y s b (frame_of old) a n said w.runs
          (subst (λ l. Follows Plain ps b (frame_of old) (Ended (local_of l) a') k z) same q),
    );
  }

  -- a body ends, and gives nothing or a value
  pub gives_none : (old : Bound) (new : Bound) (a a' : Arrays) → p.give ≡ None → EndsBlock ps p.body old a new a'
      → EndsProcedure ps p (frame_of old) a (pos 0) a'
  gives_none old new a a' none_ w = record {
    counts = both (spent 1) (both w.counts (give_turn p.give (Ended (local_of new.locals) a')));
    enters = subst (λ (y : End ℤ). Enters Plain ps p (frame_of old) a (both (spent 1) (both w.counts (give_turn p.give (Ended (local_of new.locals) a')))) y)
        (ap (λ (g : Option Give). given g (frame_of old) (Ended (local_of new.locals) a')) none_) (Enter p (frame_of old) a w.runs);
  }

  -- the frame after a block, whose regions have stayed
  pub frame_after : (old new : Bound) → new.regions ≡ old.regions → record { regions = (frame_of old).regions; locals = local_of new.locals } ≡ frame_of new
  frame_after old new e = ap (λ rs. record { regions = region_of rs; locals = local_of new.locals }) (sym e)

  pub gives_some : (old : Bound) (new : Bound) (a a' : Arrays) (g : Give) (v : ℤ) → p.give ≡ Some g → EndsBlock ps p.body old a new a'
      → evaluate (frame_of new) a' g.value ≡ Ok v → EndsProcedure ps p (frame_of old) a v a'
  gives_some old new a a' g v some_ w said = record {
    counts = both (spent 1) (both w.counts (give_turn p.give (Ended (local_of new.locals) a')));
    enters = subst (λ (y : End ℤ). Enters Plain ps p (frame_of old) a (both (spent 1) (both w.counts (give_turn p.give (Ended (local_of new.locals) a')))) y)
        (ap (λ (g : Option Give). given g (frame_of old) (Ended (local_of new.locals) a')) some_
        ∙ ap (λ (f : Frame). end_of (evaluate f a' g.value) a' (λ v. Ended v a')) (frame_after old new w.regions)
        ∙ ap (λ (r : Result ℤ TrapAt). end_of r a' (λ v. Ended v a')) said)
        (Enter p (frame_of old) a w.runs);
  }

  -- or has a trap in what it gives
  pub gives_halt : (old : Bound) (new : Bound) (a a' : Arrays) (g : Give) (h : Halt) → p.give ≡ Some g → EndsBlock ps p.body old a new a'
      → Halts (trap_of (evaluate (frame_of new) a' g.value)) p (read_in (frame_of new) g.value []) h → HaltsIn ps (Begins ps p (frame_of old) a) h
  gives_halt old new a a' g h some_ w t =
      halt_at ps p (Gives g) (frame_of new) a' (Begins ps p (frame_of old) a) h
      (subst (λ (f : Frame). Begins ps p (frame_of old) a (record { procedure = p; deed = Gives g; frame = f; arrays = a' })) (frame_after old new w.regions)
      (AtGive p g (frame_of old) a a' (local_of new.locals) w.counts w.runs some_)) t

  pub gives_walks : (old new : Bound) (a a' : Arrays) (g : Give) (r : Result ℤ Halt) → p.give ≡ Some g → EndsBlock ps p.body old a new a'
      → Says (λ (v : ℤ). v) (evaluate (frame_of new) a' g.value) p (read_in (frame_of new) g.value []) r
      → Walks ps (λ (v : ℤ). EndsProcedure ps p (frame_of old) a v a') (Begins ps p (frame_of old) a) r
  gives_walks old new a a' g (Ok v) some_ w t = gives_some old new a a' g v some_ w t
  gives_walks old new a a' g (Err h) some_ w t = gives_halt old new a a' g h some_ w t

  -- a block so far: what its rest does and reaches, the whole does and reaches
  pub record Going (whole rest : Block) (old : Bound) (a : Arrays) (new : Bound) (a' : Arrays) : Type 0 where
    pub regions : new.regions ≡ old.regions
    pub ends : (k : Counts) (y : End Locals) → Runs Plain ps rest (frame_of new) a' k y → (j : Counts) × Runs Plain ps whole (frame_of old) a j y
    pub reaches : (z : Point) → Reaches ps p rest (frame_of new) a' z → Reaches ps p whole (frame_of old) a z

  pub going : (b : Block) (old : Bound) (a : Arrays) → Going b b old a old a
  going b old a = record { regions = refl; ends = λ k y r. (k, r); reaches = λ z r. r }

  -- one statement more
  pub gone : (whole : Block) (s : Statement) (b : Block) (old mid new : Bound) (a a' a'' : Arrays) → Going whole (Then s b) old a mid a'
      → EndsStatement ps s mid a' new a'' → Going whole b old a new a''
  gone whole s b old mid new a a' a'' g w = record {
    regions = w.regions ∙ g.regions;
    ends = λ k y r. let q = w.passed b k y (GoesOn b (frame_of mid) (local_of new.locals) a''
        (subst (λ (f : Frame). Runs Plain ps b f a'' k y) (sym (frame_after mid new w.regions)) r)) in g.ends q.0 y q.1;
    reaches = λ z r. let q = w.passed Nil none (Ended (local_of new.locals) a'') (GoesOn Nil (frame_of mid) (local_of new.locals) a''
        (Done (record { regions = (frame_of mid).regions; locals = local_of new.locals }) a'')) in
        g.reaches z (Later p s b (frame_of mid) a' a'' (local_of new.locals) q.0 z q.1
        (subst (λ (f : Frame). Reaches ps p b f a'' z) (sym (frame_after mid new w.regions)) r));
  }

  -- its end
  pub gone_all : (whole : Block) (old new : Bound) (a a' : Arrays) → Going whole Nil old a new a' → EndsBlock ps whole old a new a'
  gone_all whole old new a a' g = let q = g.ends none (Ended (local_of new.locals) a') (Done (frame_of new) a') in
      record { regions = g.regions; counts = q.0; runs = q.1 }

  -- a statement further on halts
  pub gone_halt : {A : Type 0} (whole : Block) (s : Statement) (b : Block) (old mid : Bound) (a a' : Arrays) (Ends : A → Type 0) (h : Halt) (r : Result A Halt)
      → Going whole (Then s b) old a mid a' → IsErrAnd r (λ y. y ≡ h) → HaltsIn ps (Meets ps p s (frame_of mid) a') h → Walks ps Ends (Reaches ps p whole (frame_of old) a) r
  gone_halt whole s b old mid a a' Ends h r g is w =
      exit_walks ps Ends (Reaches ps p whole (frame_of old) a) h r is
      (halt_in ps (Meets ps p s (frame_of mid) a') (Reaches ps p whole (frame_of old) a) h
      (λ z m. g.reaches z (First p s b (frame_of mid) a' z m)) w)

  -- a loop so far
  pub record Turning (e : Expression) (s : Block) (old : Bound) (a : Arrays) (new : Bound) (a' : Arrays) : Type 0 where
    pub regions : new.regions ≡ old.regions
    pub ends : (k : Counts) (y : End Locals) → Loops Plain ps e s (frame_of new) a' k y → (j : Counts) × Loops Plain ps e s (frame_of old) a j y
    pub reaches : (z : Point) → Meets ps p (While e s) (frame_of new) a' z → Meets ps p (While e s) (frame_of old) a z

  pub turning : (e : Expression) (s : Block) (old : Bound) (a : Arrays) → Turning e s old a old a
  turning e s old a = record { regions = refl; ends = λ k y r. (k, r); reaches = λ z r. r }

  -- one block more
  pub turned : (e : Expression) (s : Block) (old mid new : Bound) (a a' a'' : Arrays) (v : ℤ) → Turning e s old a mid a'
      → evaluate (frame_of mid) a' e ≡ Ok v → holds v ≡ true → EndsBlock ps s mid a' new a'' → Turning e s old a new a''
  turned e s old mid new a a' a'' v g said h w = record {
    regions = w.regions ∙ g.regions;
    ends = λ k y r. g.ends (both (spent 1) (both w.counts k)) y (Turns e s (frame_of mid) a' a'' v (local_of new.locals) said h w.runs
        (subst (λ (f : Frame). Loops Plain ps e s f a'' k y) (sym (frame_after mid new w.regions)) r));
    reaches = λ z r. g.reaches z (Again p e s (frame_of mid) a' a'' v (local_of new.locals) w.counts z said h w.runs
        (subst (λ (f : Frame). Meets ps p (While e s) f a'' z) (sym (frame_after mid new w.regions)) r));
  }

  -- its end
  pub turned_all : (e : Expression) (s : Block) (old new : Bound) (a a' : Arrays) (v : ℤ) → Turning e s old a new a'
      → evaluate (frame_of new) a' e ≡ Ok v → holds v ≡ false → EndsLoop ps e s old a new a'
  turned_all e s old new a a' v g said h = let q = g.ends (spent 1) (Ended (local_of new.locals) a') (TestFails e s (frame_of new) a' v said h) in
      record { regions = g.regions; counts = q.0; loops = q.1 }

  -- its test halts
  pub test_halts : {A : Type 0} (e : Expression) (s : Block) (old mid : Bound) (a a' : Arrays) (Ends : A → Type 0) (h : Halt) (r : Result A Halt) → Turning e s old a mid a'
      → IsErrAnd r (λ y. y ≡ h) → Halts (trap_of (evaluate (frame_of mid) a' e)) p (read_in (frame_of mid) e []) h
      → Walks ps Ends (Meets ps p (While e s) (frame_of old) a) r
  test_halts e s old mid a a' Ends h r g is t =
      exit_walks ps Ends (Meets ps p (While e s) (frame_of old) a) h r is
      (halt_in ps (Meets ps p (While e s) (frame_of mid) a') (Meets ps p (While e s) (frame_of old) a) h g.reaches
      (halt_at ps p (Does (While e s)) (frame_of mid) a' (Meets ps p (While e s) (frame_of mid) a') h (Itself p (While e s) (frame_of mid) a') t))

  -- its block halts
  pub turn_halts : {A : Type 0} (e : Expression) (s : Block) (old mid : Bound) (a a' : Arrays) (v : ℤ) (Ends : A → Type 0) (h : Halt) (r : Result A Halt)
      → Turning e s old a mid a' → evaluate (frame_of mid) a' e ≡ Ok v → holds v ≡ true → IsErrAnd r (λ y. y ≡ h)
      → HaltsIn ps (Reaches ps p s (frame_of mid) a') h
      → Walks ps Ends (Meets ps p (While e s) (frame_of old) a) r
  turn_halts e s old mid a a' v Ends h r g said holds_ is w =
      exit_walks ps Ends (Meets ps p (While e s) (frame_of old) a) h r is
      (halt_in ps (Reaches ps p s (frame_of mid) a') (Meets ps p (While e s) (frame_of old) a) h
      (λ z m. g.reaches z (InLoop p e s (frame_of mid) a' v z said holds_ m)) w)

  -- the blocks of an `each` so far
  abbrev pub Sweeping : Named → Named → Block → Region → Frame → Arrays → ℕ → Arrays → Type 0
  Sweeping i x s r f a n a' = (m : ℕ) (k : Counts) (y : End Locals) → Sweeps Plain ps i x s r f n m a' k y → (j : Counts) × Sweeps Plain ps i x s r f 0 (n + m) a j y

  pub sweeping : (i x : Named) (s : Block) (r : Region) (f : Frame) (a : Arrays) → Sweeping i x s r f a 0 a
  sweeping i x s r f a m k y w = let e : m ≡ 0 + m = omega arith in (k, subst (λ (j : ℕ). Sweeps Plain ps i x s r f 0 j a k y) e w)

  -- one block more
  pub swept_on : (i x : Named) (s : Block) (r : Region) (f : Frame) (a a' a'' : Arrays) (n : ℕ) (l : Locals) (j : Counts) → Sweeping i x s r f a n a'
      → Runs Plain ps s (with_element f r n i x) a' j (Ended l a'') → Sweeping i x s r f a (n + 1) a''
  swept_on i x s r f a a' a'' n l j g w m k y q =
      let o : n + 1 ≡ suc n = omega arith in
      let t = g (suc m) (both (spent 8) (both j k)) y (Sweep i x s r f n m a' w refl (subst (λ (c : ℕ). Sweeps Plain ps i x s r f c m a'' k y) o q)) in
      let e : n + suc m ≡ (n + 1) + m = omega arith in
      (t.0, subst (λ (o : ℕ). Sweeps Plain ps i x s r f 0 o a t.0 y) e t.1)

  -- their end
  pub swept_all : (i x : Named) (s : Block) (r : Region) (f : Frame) (a a' : Arrays) (n : ℕ) → Sweeping i x s r f a n a'
      → (j : Counts) × Sweeps Plain ps i x s r f 0 n a j (Ended f.locals a')
  swept_all i x s r f a a' n g = let t = g 0 none (Ended f.locals a') (Swept i x s r f n a') in
      let e : n + 0 ≡ n = omega arith in
      (t.0, subst (λ (o : ℕ). Sweeps Plain ps i x s r f 0 o a t.0 (Ended f.locals a')) e t.1)
