-- Calls, statements, blocks and procedures that are laid out.
use Rattle.std.proofs.Common.{◌≡◌, ◌<◌, ◌≤◌, ℕ, zero, suc, Bool, true, false, List, [], ◌∷◌, ◌++◌, Result, Ok, Err, refl, sym, ap, subst, arith, ◌∙◌, length, get_or, drop, take, map, ◌-◌}
use Rattle.std.specs.Prelude.{if◌then◌else◌, codes, OnOk}
use Rattle.std.specs.Str.{bytes_eq}
use Rattle.std.proofs.lemmas.List.{append_assoc, append-nil}
use Rattle.ppm_tree.specs.declared.named.Named.{Named}
use Rattle.ppm_tree.specs.declared.tree.Parameter.{Parameter}
use Rattle.ppm_tree.specs.declared.tree.Proc.{Proc}
use Rattle.ppm_tree.specs.Tree.{Expression, Argument, Side, Statement, Block, Nil, Then, Let, Assign, Put, If, While, Split, Give, Procedure, procedure_of}
use Rattle.ppm_tree.specs.Tree.{expression_of, side_of}
use Rattle.ppm_tree.specs.declared.tree.Side as declared_side
use Rattle.ppm_tree.specs.Tree as tree
use Rattle.ppm_tree.specs.declared.tree.Argument as declared
use Rattle.ppm_tree.specs.State.{procedure_named, no_procedure}
use Rattle.ppm_serial.specs.declared.code.Value.{Value}
use Rattle.ppm_serial.specs.declared.code.Passed.{Passed}
use Rattle.ppm_serial.specs.declared.code.Passed.TheVariants as passed
use Rattle.ppm_serial.specs.declared.code.Call.{Call}
use Rattle.ppm_serial.specs.declared.code.Step.{Step}
use Rattle.ppm_serial.specs.declared.code.Step.TheVariants as step
use Rattle.ppm_serial.specs.declared.code.Parts.{Parts}
use Rattle.ppm_serial.specs.declared.code.Routine.{Routine}
use Rattle.ppm_serial.specs.Names.{Slotted, slot_in, names_of, no_names, with_parameters}
use Rattle.ppm_serial.specs.Code.{no_routine}
use Rattle.ppm_serial.specs.Laying.{IsWorth, IsTarget, place_in, IsCall, Stands, Lies, LiesNil, LiesThen, IsGive, IsRoutine, IsLaid}
use Rattle.ppm_serial.specs.Laying.{StandsLet, StandsAssign, StandsPut, StandsIf, StandsWhile, StandsCall, StandsFork, StandsSplit, StandsEach}
use Rattle.ppm_serial.specs.Laying.{HasTarget, HasWritten, Grows, Sets, PassesOne, PassesAll, NoParameter, NoArgument, OneMore}
use Rattle.ppm_serial.specs.Laying.{arguments_of}
use Rattle.ppm_serial.specs.Laying.{LaysStep, LaysBlock, LaysSome, LaysRoutine, ArePlaced, LaysMore, PassesMore}
use Rattle.ppm_serial.proofs.KeepLemmas.{body_there, parameters_keep, HasParameters, parameters_there, KeepsBoth, kept}
use Rattle.ppm_serial.proofs.LayLemmas.{passes_all}

grows_same : {a : List (List Step)} → Grows a a
grows_same {a = a} = ([], sym (append-nil a))

grows_both : (a b c : List (List Step)) → Grows a b → Grows b c → Grows a c
grows_both a b c p q = (p.0 ++ q.0, q.1 ∙ ap (λ (b : List (List Step)). b ++ q.0) p.1 ∙ append_assoc a p.0 q.0)

grows_one : (a b : List (List Step)) (x : List Step) → b ≡ a ++ x ∷ [] → Grows a b
grows_one a b x e = (x ∷ [], e)

-- the block that was put after the others
last_block : (a : List (List Step)) (x : List Step) (added : List (List Step)) → get_or ((a ++ x ∷ []) ++ added) (length a) [] ≡ x
last_block [] x added = refl
last_block (y ∷ a) x added = last_block a x added

placed_at : (a b longer : List (List Step)) (x : List Step) (k : ℕ) → b ≡ a ++ x ∷ [] → k ≡ length a → Grows b longer → get_or longer k [] ≡ x
placed_at a b longer x k e i g =
    ap (λ (l : List (List Step)). get_or l k []) (g.1 ∙ ap (λ (b : List (List Step)). b ++ g.0) e) ∙ ap (λ (k : ℕ). get_or ((a ++ x ∷ []) ++ g.0) k []) i ∙ last_block a x g.0

-- names of parameters alone have the slots of all names
passes_kept : (n m m' : Slotted) (ps : List Parameter) (es : List Argument) (vs : List Passed) → KeepsBoth m m' → HasParameters m ps → PassesAll n m ps es vs → PassesAll n m' ps es vs
passes_kept n m m' _ _ _ k h (NoParameter es) = NoParameter es
passes_kept n m m' _ _ _ k h (NoArgument p ps) = NoArgument p ps
passes_kept n m m' _ _ _ k h (OneMore p ps e es (passed.Number j v) vs (is, at, w) rest) =
    OneMore p ps e es (passed.Number j v) vs (is, at ∙ sym (k.locals.slot p.name.name (h.0.local is)), w) (passes_kept n m m' ps es vs k h.1 rest)
passes_kept n m m' _ _ _ k h (OneMore p ps e es (passed.Region j i) vs (is, q) rest) =
    OneMore p ps e es (passed.Region j i) vs (is, (q.0 ∙ sym (k.regions.slot p.name.name h.0.region), q.1)) (passes_kept n m m' ps es vs k h.1 rest)
passes_kept n m m' _ _ _ k h (OneMore p ps e es (passed.Nowhere j) vs (is, q) rest) =
    OneMore p ps e es (passed.Nowhere j) vs (is, (q.0 ∙ sym (k.regions.slot p.name.name h.0.region), q.1)) (passes_kept n m m' ps es vs k h.1 rest)

-- a call, from its parts
pub call_is : (procedures : List Procedure) (n : Slotted) (s : Side) (c : Call) (p : Procedure) → procedure_named procedures s.callee.name ≡ p → IsTarget n s.target c.target
    → c.callee ≡ place_in procedures s.callee.name → PassesAll n (with_parameters no_names p.parameters) p.parameters s.arguments c.passed.items → IsCall procedures n s c
call_is procedures n s c p e t i all = record {
  target = t;
  callee = i;
  passed = λ u a g f h.
      let q = subst (λ (p : Procedure). PassesAll n (with_parameters no_names p.parameters) p.parameters s.arguments c.passed.items) (sym e) all in
      let r = procedure_named procedures s.callee.name in
      passes_all n (names_of r) r.parameters s.arguments c.passed.items (parameters_there no_names (names_of r) r.parameters (parameters_keep r))
      (passes_kept n (with_parameters no_names r.parameters) (names_of r) r.parameters s.arguments c.passed.items (parameters_keep r)
      (parameters_there no_names (with_parameters no_names r.parameters) r.parameters (kept (with_parameters no_names r.parameters))) q) u a g h;
}

-- the procedure with a name stands at its place
pub named_at : (ps : List Proc) (x : List ℕ) (d : Proc) → place_in (map procedure_of ps) x < length ps
    → procedure_named (map procedure_of ps) x ≡ procedure_of (get_or ps (place_in (map procedure_of ps) x) d)
named_at [] x d l = absurd (omega (arith, l))
named_at (p ∷ ps) x d l = go (bytes_eq p.name.name x) refl (named_at ps x d)
  where
    go : (b : Bool) → bytes_eq p.name.name x ≡ b → (place_in (map procedure_of ps) x < length ps → procedure_named (map procedure_of ps) x ≡ procedure_of (get_or ps (place_in (map procedure_of ps) x) d))
        → procedure_named (map procedure_of (p ∷ ps)) x ≡ procedure_of (get_or (p ∷ ps) (place_in (map procedure_of (p ∷ ps)) x) d)
    go true e rest = subst (λ (b : Bool). (if b then procedure_of p else procedure_named (map procedure_of ps) x)
        ≡ procedure_of (get_or (p ∷ ps) (if b then 0 else suc (place_in (map procedure_of ps) x)) d)) (sym e) refl
    go false e rest = subst (λ (b : Bool). (if b then procedure_of p else procedure_named (map procedure_of ps) x)
        ≡ procedure_of (get_or (p ∷ ps) (if b then 0 else suc (place_in (map procedure_of ps) x)) d)) (sym e)
        (rest (let i = ap {B = ℕ} (λ (b : Bool). if b then 0 else suc (place_in (map procedure_of ps) x)) e in omega (arith, l, i)))

pub named_nowhere : (ps : List Proc) (x : List ℕ) → length ps ≤ place_in (map procedure_of ps) x → procedure_named (map procedure_of ps) x ≡ no_procedure
named_nowhere [] x l = refl
named_nowhere (p ∷ ps) x l = go (bytes_eq p.name.name x) refl (named_nowhere ps x)
  where
    go : (b : Bool) → bytes_eq p.name.name x ≡ b → (length ps ≤ place_in (map procedure_of ps) x → procedure_named (map procedure_of ps) x ≡ no_procedure)
        → procedure_named (map procedure_of (p ∷ ps)) x ≡ no_procedure
    go true e rest = let i = ap {B = ℕ} (λ (b : Bool). if b then 0 else suc (place_in (map procedure_of ps) x)) e in absurd (omega (arith, l, i))
    go false e rest = let i = ap {B = ℕ} (λ (b : Bool). if b then 0 else suc (place_in (map procedure_of ps) x)) e in
        ap (λ (b : Bool). if b then procedure_of p else procedure_named (map procedure_of ps) x) e ∙ rest (omega (arith, l, i))

-- more is passed
pub more_passed : (n m : Slotted) (p : Parameter) (ps : List Parameter) (e : Argument) (es : List Argument) (v : Passed) (old mid new : List Passed) → PassesOne n m p e.value v
    → mid ≡ old ++ v ∷ [] → PassesMore n m ps es mid new → PassesMore n m (p ∷ ps) (e ∷ es) old new
more_passed n m p ps e es v old mid new one is (vs, more, all) =
    (v ∷ vs, more ∙ ap (λ (l : List Passed). l ++ vs) is ∙ append_assoc old (v ∷ []) vs, OneMore p ps e es v vs one all)

module _ (procedures : List Procedure) (n : Slotted) where
  -- a statement without blocks of its own
  plain : (s : Statement) (old : List (List Step)) (st : Step) → ((blocks : List (List Step)) → HasWritten n s → Stands procedures blocks n s st) → LaysStep procedures n s old old st
  plain s old st h = record { grows = grows_same; stands = λ longer g w. h longer w }

  pub lays_let : (x : Named) (e : Expression) (old : List (List Step)) (st : Step) → Sets n x.name e st → LaysStep procedures n (Let x e) old old st
  lays_let x e old st (k, v, is, at, w) = plain (Let x e) old st (λ blocks h. subst (λ (st : Step). Stands procedures blocks n (Let x e) st) (sym is)
      (StandsLet x e k v (record { slot = at; there = subst (λ (j : ℕ). j < length n.locals) (sym at) h }) w))

  pub lays_assign : (x : Named) (e : Expression) (old : List (List Step)) (st : Step) → Sets n x.name e st → LaysStep procedures n (Assign x e) old old st
  lays_assign x e old st (k, v, is, at, w) = plain (Assign x e) old st (λ blocks h. subst (λ (st : Step). Stands procedures blocks n (Assign x e) st) (sym is)
      (StandsAssign x e k v (record { slot = at; there = subst (λ (j : ℕ). j < length n.locals) (sym at) h }) w))

  pub lays_put : (x : Named) (i e : Expression) (old : List (List Step)) (k : ℕ) (j v : Value) → k ≡ slot_in n.regions x.name → IsWorth n i j → IsWorth n e v
      → LaysStep procedures n (Put x i e) old old (step.Put k x.line j v)
  lays_put x i e old k j v at w w' = plain (Put x i e) old (step.Put k x.line j v) (λ blocks h. StandsPut x i e k j v at w w')

  pub lays_if : (e : Expression) (p c : Block) (old mid new : List (List Step)) (v : Value) (i j : ℕ) → IsWorth n e v → LaysBlock procedures n p old mid i → LaysBlock procedures n c mid new j
      → LaysStep procedures n (If e p c) old new (step.Choose v i j)
  lays_if e p c old mid new v i j w l m = record {
    grows = grows_both old mid new l.grows m.grows;
    stands = λ longer g h. StandsIf e p c v i j w (l.lies longer (grows_both mid new longer m.grows g) h.0) (m.lies longer g h.1);
  }

  pub lays_while : (e : Expression) (p : Block) (old mid new : List (List Step)) (v : Value) (i j : ℕ) → IsWorth n e v → LaysBlock procedures n p old mid j
      → new ≡ mid ++ (step.Test v j ∷ []) ∷ [] → i ≡ length mid → LaysStep procedures n (While e p) old new (step.Loop i)
  lays_while e p old mid new v i j w l is at = record {
    grows = grows_both old mid new l.grows (grows_one mid new (step.Test v j ∷ []) is);
    stands = λ longer g h. StandsWhile e p v i j (placed_at mid new longer (step.Test v j ∷ []) i is at g) w (l.lies longer (grows_both mid new longer (grows_one mid new (step.Test v j ∷ []) is) g) h);
  }

  pub lays_call : (s : Side) (old : List (List Step)) (c : Call) → (HasTarget n s.target → IsCall procedures n s c) → LaysStep procedures n (tree.Call s) old old (step.Call c)
  lays_call s old c i = plain (tree.Call s) old (step.Call c) (λ blocks h. StandsCall s c (i h))

  pub lays_fork : (s t : Side) (old : List (List Step)) (c d : Call) → (HasTarget n s.target → IsCall procedures n s c) → (HasTarget n t.target → IsCall procedures n t d)
      → LaysStep procedures n (tree.Fork s t) old old (step.Fork c d)
  lays_fork s t old c d i j = plain (tree.Fork s t) old (step.Fork c d) (λ blocks h. StandsFork s t c d (i h.0) (j h.1))

  pub lays_split : (line : ℕ) (r : Named) (e : Expression) (x y : Named) (p : Block) (old new : List (List Step)) (k : ℕ) (v : Value) (q : Parts) → k ≡ slot_in n.regions r.name → IsWorth n e v
      → q.first ≡ slot_in n.regions x.name → q.second ≡ slot_in n.regions y.name → LaysBlock procedures n p old new q.block → LaysStep procedures n (Split line r e x y p) old new (step.Split line k v q)
  lays_split line r e x y p old new k v q at w i j l = record {
    grows = l.grows;
    stands = λ longer g h. StandsSplit line r e x y p k v q at w
        (record { slot = i; there = subst (λ (j : ℕ). j < length n.regions) (sym i) h.0 })
        (record { slot = j; there = subst (λ (j : ℕ). j < length n.regions) (sym j) h.1 }) (l.lies longer g h.2);
  }

  pub lays_each : (i x r : Named) (p : Block) (old new : List (List Step)) (j k m b : ℕ) → j ≡ slot_in n.locals i.name → k ≡ slot_in n.regions x.name → m ≡ slot_in n.regions r.name
      → LaysBlock procedures n p old new b → LaysStep procedures n (tree.Each i x r p) old new (step.Each j k m b)
  lays_each i x r p old new j k m b at at' is l = record {
    grows = l.grows;
    stands = λ longer g h. StandsEach i x r p j k m b
        (record { slot = at; there = subst (λ (j : ℕ). j < length n.locals) (sym at) h.0 })
        (record { slot = at'; there = subst (λ (j : ℕ). j < length n.regions) (sym at') h.1 }) is (l.lies longer g h.2);
  }

  -- a block, one statement after the other
  pub lays_none : (b : Block) (old : List (List Step)) → LaysSome procedures n b b old old []
  lays_none b old = record { grows = grows_same; names = λ h. h; lies = λ longer g h rest l. l }

  pub lays_next : (b left : Block) (s : Statement) (old mid new : List (List Step)) (steps : List Step) (st : Step) → LaysSome procedures n b (Then s left) old mid steps
      → LaysStep procedures n s mid new st → LaysSome procedures n b left old new (steps ++ st ∷ [])
  lays_next b left s old mid new steps st some one = record {
    grows = grows_both old mid new some.grows one.grows;
    names = λ h. (some.names h).1;
    lies = λ longer g h rest l. subst (λ (t : List Step). Lies procedures longer n b t) (sym (append_assoc steps (st ∷ []) rest))
        (some.lies longer (grows_both mid new longer one.grows g) h (st ∷ rest) (LiesThen s left st rest (one.stands longer g (some.names h).0) l));
  }

  pub lays_all : (b : Block) (old mid new : List (List Step)) (steps : List Step) (place : ℕ) → LaysSome procedures n b Nil old mid steps → new ≡ mid ++ steps ∷ [] → place ≡ length mid
      → LaysBlock procedures n b old new place
  lays_all b old mid new steps place some is at = record {
    grows = grows_both old mid new some.grows (grows_one mid new steps is);
    lies = λ longer g h. subst (λ (t : List Step). Lies procedures longer n b t) (append-nil steps ∙ sym (placed_at mid new longer steps place is at g))
        (some.lies longer (grows_both mid new longer (grows_one mid new steps is) g) h [] LiesNil);
  }

module _ (procedures : List Procedure) where
  -- a procedure
  pub lays_routine : (p : Procedure) (old new : List (List Step)) (r : Routine) → r.locals ≡ length (names_of p).locals → r.regions ≡ length (names_of p).regions
      → LaysBlock procedures (names_of p) p.body old new r.body → IsGive (names_of p) p.give r.give → LaysRoutine procedures p old new r
  lays_routine p old new r i j l g =
      record { grows = l.grows; routine = λ longer h. record { locals = i; regions = j; body = l.lies longer h (body_there p); give = g } }

  pub lays_no_more : (old : List (List Step)) (before : List Routine) → LaysMore procedures [] old old before before
  lays_no_more old before = record { grows = grows_same; added = []; all = sym (append-nil before); placed = λ longer g. tt }

  pub lays_more : (p : Procedure) (ps : List Procedure) (old mid new : List (List Step)) (before between after : List Routine) (r : Routine) → LaysRoutine procedures p old mid r
      → between ≡ before ++ r ∷ [] → LaysMore procedures ps mid new between after → LaysMore procedures (p ∷ ps) old new before after
  lays_more p ps old mid new before between after r one is more = record {
    grows = grows_both old mid new one.grows more.grows;
    added = r ∷ more.added;
    all = more.all ∙ ap (λ (l : List Routine). l ++ more.added) is ∙ append_assoc before (r ∷ []) more.added;
    placed = λ longer g. (one.routine longer (grows_both mid new longer more.grows g), more.placed longer g);
  }

  -- each name has its procedure
  placed_by_name : (blocks : List (List Step)) → get_or blocks 0 [] ≡ [] → (ps : List Procedure) (rs : List Routine) → ArePlaced procedures blocks ps rs → (x : List ℕ)
      → IsRoutine procedures blocks (procedure_named ps x) (get_or rs (place_in ps x) no_routine)
  placed_by_name blocks e [] [] h x = record {
    locals = refl;
    regions = refl;
    body = subst (λ (t : List Step). Lies procedures blocks (names_of no_procedure) Nil t) (sym e) LiesNil;
    give = tt;
  }
  placed_by_name blocks e [] (r ∷ rs) h x = absurd h
  placed_by_name blocks e (p ∷ ps) [] h x = absurd h
  placed_by_name blocks e (p ∷ ps) (r ∷ rs) h x = go (bytes_eq p.name.name x) (placed_by_name blocks e ps rs h.1 x)
    where
      go : (b : Bool) → IsRoutine procedures blocks (procedure_named ps x) (get_or rs (place_in ps x) no_routine)
          → IsRoutine procedures blocks (if b then p else procedure_named ps x) (get_or (r ∷ rs) (if b then 0 else suc (place_in ps x)) no_routine)
      go true rest = h.0
      go false rest = rest

  pub lays_program : (first blocks : List (List Step)) (before routines : List Routine) (main : ℕ) → first ≡ [] ∷ [] → before ≡ [] → LaysMore procedures procedures first blocks before routines
      → main ≡ place_in procedures (codes "main") → IsLaid procedures (record { routines = routines; blocks = blocks; main = main })
  lays_program first blocks before routines main e f more is = record {
    main = is;
    routine = λ x.
        let rs = more.all ∙ ap (λ (l : List Routine). l ++ more.added) f in
        let empty : get_or blocks 0 [] ≡ [] = ap (λ (l : List (List Step)). get_or l 0 []) (more.grows.1 ∙ ap (λ (l : List (List Step)). l ++ more.grows.0) e) in
        subst (λ (rs : List Routine). IsRoutine procedures blocks (procedure_named procedures x) (get_or rs (place_in procedures x) no_routine)) (sym rs)
        (placed_by_name blocks empty procedures more.added (more.placed blocks grows_same) x);
  }

-- what is after the first element
take_all : {A : Type 0} (xs : List A) (k : ℕ) → length xs ≤ k → take k xs ≡ xs
take_all [] zero h = refl
take_all [] (suc k) h = refl
take_all (x ∷ xs) zero h = absurd (omega (arith, h))
take_all (x ∷ xs) (suc k) h = ap (λ (l : List _). x ∷ l) (take_all xs k (omega (arith, h)))

pub behind_first : {A : Type 0} (xs : List A) → 1 ≤ length xs → take (length xs - 1) (drop 1 xs) ≡ drop 1 xs
behind_first [] l = absurd (omega (arith, l))
behind_first (x ∷ xs) l = take_all xs (length (x ∷ xs) - 1) (omega arith)

-- nothing is passed without parameters, or without arguments
pub none_passed : (n m : Slotted) (ps : List Parameter) (es : List Argument) (old : List Passed) → length ps ≡ 0 → PassesMore n m ps es old old
none_passed n m [] es old e = ([], sym (append-nil old), NoParameter es)
none_passed n m (p ∷ ps) es old e = absurd (omega (arith, e))

pub none_given : (n m : Slotted) (ps : List Parameter) (es : List declared.Argument) (old : List Passed) → length es ≡ 0 → PassesMore n m ps (arguments_of es) old old
none_given n m [] es old e = ([], sym (append-nil old), NoParameter (arguments_of es))
none_given n m (p ∷ ps) [] old e = ([], sym (append-nil old), NoArgument p ps)
none_given n m (p ∷ ps) (a ∷ es) old e = absurd (omega (arith, e))

-- the first argument is passed, and then the others
pub first_passed : {E : Type 0} (n m : Slotted) (ps : List Parameter) (es : List declared.Argument) (p : Parameter) (e : declared.Argument) (v : Passed) (old mid new : List Passed)
    → 1 ≤ length ps → 1 ≤ length es → p ≡ get_or ps 0 p → e ≡ get_or es 0 e → PassesOne n m p (expression_of e.value) v → mid ≡ old ++ v ∷ []
    → (r : Result (Unit {0}) E) → OnOk r (PassesMore n m (take (length ps - 1) (drop 1 ps)) (arguments_of (take (length es - 1) (drop 1 es))) mid new) → OnOk r (PassesMore n m ps (arguments_of es) old new)
first_passed n m [] es p e v old mid new l k i j one is r h = absurd (omega (arith, l))
first_passed n m (q ∷ ps) [] p e v old mid new l k i j one is r h = absurd (omega (arith, k))
first_passed n m (q ∷ ps) (a ∷ es) p e v old mid new l k i j one is (Ok x) h =
    more_passed n m q ps (record { line = a.line; value = expression_of a.value }) (arguments_of es) v old mid new
    (subst (λ (p : Parameter). PassesOne n m p (expression_of a.value) v) i (subst (λ (e : declared.Argument). PassesOne n m p (expression_of e.value) v) j one)) is
    (subst (λ (qs : List Parameter). PassesMore n m qs (arguments_of es) mid new) (behind_first (q ∷ ps) l)
    (subst (λ (args : List declared.Argument). PassesMore n m (take (length (q ∷ ps) - 1) ps) (arguments_of args) mid new) (behind_first (a ∷ es) k) h))
first_passed n m (q ∷ ps) (a ∷ es) p e v old mid new l k i j one is (Err x) h = tt

-- a call of a procedure that is there
pub call_found : (ps : List Proc) (n : Slotted) (side : declared_side.Side) (c : Call) (p : Proc) (m : Slotted) (params : List Parameter) (args : List declared.Argument) (old new : List Passed)
    → c.callee ≡ place_in (map procedure_of ps) side.callee.name → c.callee < length ps → p ≡ get_or ps c.callee p → params ≡ p.parameters → m ≡ with_parameters no_names params
    → args ≡ side.arguments → old ≡ [] → PassesMore n m params (arguments_of args) old new → c.passed.items ≡ new → IsTarget n (side_of side).target c.target
    → IsCall (map procedure_of ps) n (side_of side) c
call_found ps n side c p m params args old new at l is ps_are m_is args_are none_ (vs, more, all) new_is t =
    call_is (map procedure_of ps) n (side_of side) c (procedure_of p)
    (named_at ps side.callee.name p (subst (λ (k : ℕ). k < length ps) at l) ∙ ap procedure_of (sym (subst (λ (k : ℕ). p ≡ get_or ps k p) at is))) t at
    (subst (λ (vs : List Passed). PassesAll n (with_parameters no_names p.parameters) p.parameters (side_of side).arguments vs)
    (sym (new_is ∙ more ∙ ap (λ (o : List Passed). o ++ vs) none_))
    (subst (λ (args : List declared.Argument). PassesAll n (with_parameters no_names p.parameters) p.parameters (arguments_of args) vs) args_are
    (subst (λ (qs : List Parameter). PassesAll n (with_parameters no_names qs) qs (arguments_of args) vs) ps_are
    (subst (λ (m : Slotted). PassesAll n m params (arguments_of args) vs) m_is all))))

-- a call of one that is not
pub call_missing : (ps : List Proc) (n : Slotted) (side : declared_side.Side) (c : Call) → c.callee ≡ place_in (map procedure_of ps) side.callee.name → length ps ≤ c.callee
    → c.passed.items ≡ [] → IsTarget n (side_of side).target c.target → IsCall (map procedure_of ps) n (side_of side) c
call_missing ps n side c at l none_ t =
    call_is (map procedure_of ps) n (side_of side) c no_procedure (named_nowhere ps side.callee.name (subst (λ (k : ℕ). length ps ≤ k) at l)) t at
    (subst (λ (vs : List Passed). PassesAll n (with_parameters no_names []) [] (side_of side).arguments vs) (sym none_) (NoParameter (side_of side).arguments))

-- no procedure is left, or the first one is laid out and then the others
pub none_laid : (procedures : List Procedure) (left : List Proc) (old : List (List Step)) (before : List Routine) → length left ≡ 0
    → LaysMore procedures (map procedure_of left) old old before before
none_laid procedures [] old before e = lays_no_more procedures old before
none_laid procedures (p ∷ ps) old before e = absurd (omega (arith, e))

pub first_laid : {E : Type 0} (procedures : List Procedure) (left : List Proc) (p : Proc) (old mid new : List (List Step)) (before between after : List Routine) (r : Routine) → 1 ≤ length left
    → p ≡ get_or left 0 p → LaysRoutine procedures (procedure_of p) old mid r → between ≡ before ++ r ∷ [] → (o : Result (Unit {0}) E)
    → OnOk o (LaysMore procedures (map procedure_of (take (length left - 1) (drop 1 left))) mid new between after) → OnOk o (LaysMore procedures (map procedure_of left) old new before after)
first_laid procedures [] p old mid new before between after r l i one is o h = absurd (omega (arith, l))
first_laid procedures (q ∷ ps) p old mid new before between after r l i one is (Ok x) h =
    lays_more procedures (procedure_of q) (map procedure_of ps) old mid new before between after r (subst (λ (p : Proc). LaysRoutine procedures (procedure_of p) old mid r) i one) is
    (subst (λ (qs : List Proc). LaysMore procedures (map procedure_of qs) mid new between after) (behind_first (q ∷ ps) l) h)
first_laid procedures (q ∷ ps) p old mid new before between after r l i one is (Err x) h = tt
