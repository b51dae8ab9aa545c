-- Each step of a run over slots does what is still to come.
use Rattle.std.proofs.Common.{◌≡◌, ◌≤◌, ◌+◌, ◌-◌, ℕ, zero, suc, ℤ, pos, Bool, true, false, List, [], ◌∷◌, Option, Some, None, Result, Ok, Err, refl, sym, ap, subst, arith, ◌∙◌, nat_lt, length, drop, get_or}
use Rattle.std.specs.Prelude.{if◌then◌else◌, codes}
use Rattle.std.proofs.lemmas.Bool.{ltb-true, ltb-false}
use Rattle.ppm_tree.specs.declared.named.Named.{Named}
use Rattle.ppm_tree.specs.Tree.{Expression, Side, Statement, Block, Nil, Then, Let, Assign, Put, If, While, Split, Give, Procedure}
use Rattle.ppm_tree.specs.Tree as tree
use Rattle.ppm_tree.specs.Values.{holds}
use Rattle.ppm_tree.specs.State.{TrapAt, then_with, Region, Regions, Frame, Arrays, nowhere, with_local, with_region, with_word, index_in, split_at, first_part, second_part, part_at}
use Rattle.ppm_tree.specs.State.{evaluate, put_values, procedure_named, entered, both_entered, delivered, with_arguments}
use Rattle.ppm_tree.specs.Meaning.{Plain, End, Ended, Trapped, end_of, assigned, stored, chosen, returned, joined, with_parts, with_element, Enters}
use Rattle.ppm_serial.specs.declared.code.Stop.{Stop}
use Rattle.ppm_serial.specs.declared.code.Stop.TheVariants as stop
use Rattle.ppm_serial.specs.declared.code.Value.{Value}
use Rattle.ppm_serial.specs.declared.code.Call.{Call}
use Rattle.ppm_serial.specs.declared.code.Parts.{Parts}
use Rattle.ppm_serial.specs.declared.code.Step.{Step}
use Rattle.ppm_serial.specs.declared.code.Step.TheVariants as step
use Rattle.ppm_serial.specs.declared.stack.Rest.{Rest}
use Rattle.ppm_serial.specs.declared.stack.Rest.TheVariants as rest
use Rattle.ppm_serial.specs.declared.stack.Sweep.{Sweep}
use Rattle.ppm_serial.specs.declared.run.Run.{Run}
use Rattle.ppm_serial.specs.Slots.{Slots, fresh, with_local_at, with_region_at, with_regions}
use Rattle.ppm_serial.specs.Worth.{worth, stopped}
use Rattle.ppm_serial.specs.Names.{Slotted, slot_in, names_of, frame_of}
use Rattle.ppm_serial.specs.Code.{Laid, block_at, routine_at}
use Rattle.ppm_serial.specs.Machine.{spending, with_left, with_frame, with_store, with_stack, with_place, with_end, first_of, behind, inside, called, entering, waiting, delivering}
use Rattle.ppm_serial.specs.Machine.{sweeping, swept_once, element_frame, setting, putting, choosing, testing, calling, forking, parting, splitting, sweep_begins, doing, spending_some, worth_some}
use Rattle.ppm_serial.specs.Machine.{ending, leaving, stepping, stepping_at}
use Rattle.ppm_serial.specs.Laying.{Fits, IsWorth, IsLocal, IsRegion, IsTarget, IsGive, as_frame, FitsIfAny, IsCall, Stands, Lies, LiesNil, LiesThen, IsRoutine, IsLaid}
use Rattle.ppm_serial.specs.Laying.{StandsLet, StandsAssign, StandsPut, StandsIf, StandsWhile, StandsCall, StandsFork, StandsSplit, StandsEach}
use Rattle.ppm_serial.specs.ToCome.{Item, Behind, Tests, Leaves, Sweeping, Returns, Crosses, Joins, Two, Trap, Opens, of, gave, Later, given_turns, Crossed, After, Block_, Loop_, Sweep_, Shifts}
use Rattle.ppm_serial.specs.Simulation.{Point, AtBlock, AtLoop, AtEnd, main_named, Way, Stands_at, IsTest, Sweeps_, Stacks, Empty, OnBlock, OnTest, OnParts, OnSweep, OnCall, OnLeft, OnRight}
use Rattle.ppm_serial.specs.Simulation.{Shows, InBlock, InLoop, Over, Moves}
use Rattle.ppm_serial.proofs.ToComeLemmas.{same, nil_step, let_step, assign_step, put_step, if_step, split_step, while_step, Tested, loop_step, each_step, swept_step, sweep_step}
use Rattle.ppm_serial.proofs.ToComeLemmas.{called_step, left_step, right_step, call_step, Branches, fork_step}
use Rattle.ppm_serial.proofs.SlotLemmas.{wrote_local, wrote_region, fits_local, fits_region, fresh_frame, fresh_fits, none_at, some_at, next_at}
use Rattle.ppm_serial.proofs.SimulationLemmas.{moves_behind, moves_spent, moves_opened}

-- a way to go on after no turns, the other way round
turned : {A B : ℕ → End ℤ → Type 0} → Shifts 0 A B → Shifts 0 B A
turned {A = A} {B = B} p = record {
  on = λ n z b. record { rest = n; sum = omega arith; next = p.back n z (record { rest = n; sum = omega arith; next = b }) };
  back = λ n z w. let v = p.on w.rest z w.next in let e : v.rest ≡ n = (let i = w.sum in let j = v.sum in omega (arith, i, j)) in subst (λ (m : ℕ). B m z) e v.next;
}

-- so many turns in two parts
in_parts : (j k : ℕ) {A B : ℕ → End ℤ → Type 0} → Shifts (j + k) A B → Shifts j A (Later k B)
in_parts j k p = record {
  on = λ n z a. let w = p.on n z a in record { rest = k + w.rest; sum = let i = w.sum in omega (arith, i); next = record { rest = w.rest; sum = refl; next = w.next } };
  back = λ n z v. let w = v.next in p.back n z (record { rest = w.rest; sum = (let i = v.sum in let j = w.sum in omega (arith, i, j)); next = w.next });
}

later : (k : ℕ) {B : ℕ → End ℤ → Type 0} → Shifts k (Later k B) B
later k = record { on = λ n z w. w; back = λ n z w. w }

-- two results with one value
abbrev ok_or : Frame → Result Frame Stop → Frame
ok_or d (Ok x) = x
ok_or d (Err e) = d

abbrev err_or : Stop → Result Frame Stop → Stop
err_or d (Ok x) = d
err_or d (Err e) = e

abbrev ok_frame : Frame → Result Frame Stop
ok_frame x = Ok x

abbrev err_frame : Stop → Result Frame Stop
err_frame x = Err x

ok_value : {x y : Frame} → ok_frame x ≡ ok_frame y → x ≡ y
ok_value {x = x} e = ap (ok_or x) e

err_value : {x y : Stop} → err_frame x ≡ err_frame y → x ≡ y
err_value {x = x} e = ap (err_or x) e

module _ (procedures : List Procedure) (c : Laid) (laid : IsLaid procedures c) where
  -- a run before a block, with its turn spent
  record Ready (n : Slotted) (b : Block) (f : Frame) (u : Run) (items : List Item) : Type 0 where
    pub running : u.ended ≡ false
    pub frame : f ≡ frame_of n u.frame
    pub fits : Fits n u.frame
    pub place : Stands_at procedures c n b u.place
    pub stack : Stacks procedures c n u.stack items

  -- what an expression is worth
  found : (n : Slotted) (e : Expression) (v : Value) (f : Frame) (s : Slots) (a : Arrays) → IsWorth n e v → f ≡ frame_of n s → worth s a v ≡ stopped (evaluate f a e)
  found n e v f s a w i = w s a ∙ ap (λ (f : Frame). stopped (evaluate f a e)) (sym i)

  -- the region in a slot
  region_in : (n : Slotted) (f : Frame) (s : Slots) (x : List ℕ) (k : ℕ) → k ≡ slot_in n.regions x → f ≡ frame_of n s → f.regions x ≡ get_or s.regions k nowhere
  region_in n f s x k i e = ap (λ (f : Frame). f.regions x) e ∙ ap (λ (k : ℕ). get_or s.regions k nowhere) (sym i)

  -- a run goes on without a turn
  on_to : (u : Run) {A : ℕ → End ℤ → Type 0} (t : Run) (p : Point) → u.left ≡ t.left → Shows procedures c t p → Shifts 0 A (Way procedures p) → Moves procedures c u.left A (Ok t)
  on_to u t p e h g = record { point = p; spent = 0; shows = h; sum = omega (arith, e); shifts = g }

  stop_at : {left : ℕ} {A : ℕ → End ℤ → Type 0} {t : TrapAt} (a : Arrays) → Shifts 0 A (Trap t a) → Moves procedures c left A (Err (stop.Trapped t.0 t.1))
  stop_at a g = record { arrays = a; spent = 0; within = omega arith; shifts = g }

  -- a local gets a value
  did_set : (n : Slotted) (x : Named) (e : Expression) (b : Block) (k : ℕ) (v : Value) (f : Frame) (u : Run) (items : List Item) → IsLocal n x.name k → IsWorth n e v
      → Ready n b f u items → Moves procedures c u.left (After procedures (main_named procedures).give (Behind b ∷ items) f.regions (assigned x e f u.store)) (setting k v u)
  did_set n x e b k v f u items i w r =
      subst (λ (o : Result ℤ Stop). Moves procedures c u.left (After procedures (main_named procedures).give (Behind b ∷ items) f.regions (assigned x e f u.store))
      (then_with o (λ x. Ok (with_frame u (with_local_at u.frame k x))))) (sym (found n e v f u.frame u.store w r.frame)) (go (evaluate f u.store e))
    where
      go : (o : Result ℤ TrapAt) → Moves procedures c u.left (After procedures (main_named procedures).give (Behind b ∷ items) f.regions
          (end_of o u.store (λ v. Ended (with_local f x.name v).locals u.store))) (then_with (stopped o) (λ x. Ok (with_frame u (with_local_at u.frame k x))))
      go (Ok y) = on_to u (with_frame u (with_local_at u.frame k y)) (AtBlock b (with_local f x.name y) u.store items) refl
          (InBlock n b (with_local f x.name y) (with_frame u (with_local_at u.frame k y)) items r.running
          (ap (λ (f : Frame). with_local f x.name y) r.frame ∙ wrote_local n u.frame x.name k y i r.fits) (fits_local k y r.fits) r.place r.stack) same
      go (Err t) = stop_at {t = t} u.store same

  -- the last part of an assignment to an element, and its end
  abbrev put_last : Named → Run → ℤ → ℤ → Region → Result Run Stop
  put_last x u y z g = then_with (stopped (index_in x.line g y)) (λ m. Ok (with_store u (with_word u.store g m z)))

  abbrev PutWay : Named → Block → Frame → Run → List Item → Result (ℕ × ℤ) TrapAt → ℕ → End ℤ → Type 0
  PutWay x b f u items o n z = After procedures (main_named procedures).give (Behind b ∷ items) f.regions
      (end_of o u.store (λ p. Ended f.locals (with_word u.store (f.regions x.name) p.0 p.1))) n z

  put_third : (n : Slotted) (x : Named) (b : Block) (f : Frame) (u : Run) (items : List Item) → Ready n b f u items → (z : ℤ) (o : Result ℕ TrapAt)
      → Moves procedures c u.left (PutWay x b f u items (then_with o (λ m. Ok (m, z)))) (then_with (stopped o) (λ m. Ok (with_store u (with_word u.store (f.regions x.name) m z))))
  put_third n x b f u items r z (Ok m) = on_to u (with_store u (with_word u.store (f.regions x.name) m z)) (AtBlock b f (with_word u.store (f.regions x.name) m z) items) refl
      (InBlock n b f (with_store u (with_word u.store (f.regions x.name) m z)) items r.running r.frame r.fits r.place r.stack) same
  put_third n x b f u items r z (Err t) = stop_at {t = t} u.store same

  put_both : (n : Slotted) (x : Named) (b : Block) (f : Frame) (u : Run) (items : List Item) → Ready n b f u items → (o p : Result ℤ TrapAt)
      → Moves procedures c u.left (PutWay x b f u items (then_with o (λ y. then_with p (λ z. then_with (index_in x.line (f.regions x.name) y) (λ m. Ok (m, z))))))
      (then_with (stopped o) (λ y. then_with (stopped p) (λ z. put_last x u y z (f.regions x.name))))
  put_both n x b f u items r (Ok y) (Ok z) = put_third n x b f u items r z (index_in x.line (f.regions x.name) y)
  put_both n x b f u items r (Ok y) (Err t) = stop_at {t = t} u.store same
  put_both n x b f u items r (Err t) p = stop_at {t = t} u.store same

  -- an element gets a value
  did_put : (n : Slotted) (x : Named) (d e : Expression) (b : Block) (k : ℕ) (j v : Value) (f : Frame) (u : Run) (items : List Item) → k ≡ slot_in n.regions x.name
      → IsWorth n d j → IsWorth n e v → Ready n b f u items
      → Moves procedures c u.left (After procedures (main_named procedures).give (Behind b ∷ items) f.regions (stored x d e f u.store)) (putting k x.line j v u)
  did_put n x d e b k j v f u items i w w' r =
      subst (λ (o : Result ℤ Stop). Moves procedures c u.left (PutWay x b f u items (put_values f u.store x d e))
      (then_with o (λ y. then_with (worth u.frame u.store v) (λ z. put_last x u y z (get_or u.frame.regions k nowhere)))))
      (sym (found n d j f u.frame u.store w r.frame))
      (subst (λ (o : Result ℤ Stop). Moves procedures c u.left (PutWay x b f u items (put_values f u.store x d e))
      (then_with (stopped (evaluate f u.store d)) (λ y. then_with o (λ z. put_last x u y z (get_or u.frame.regions k nowhere)))))
      (sym (found n e v f u.frame u.store w' r.frame))
      (subst (λ (g : Region). Moves procedures c u.left (PutWay x b f u items (put_values f u.store x d e))
      (then_with (stopped (evaluate f u.store d)) (λ y. then_with (stopped (evaluate f u.store e)) (λ z. put_last x u y z g))))
      (region_in n f u.frame x.name k i r.frame) (put_both n x b f u items r (evaluate f u.store d) (evaluate f u.store e))))

  -- one of two blocks is entered
  did_choose : (n : Slotted) (e : Expression) (p q b : Block) (v : Value) (i j : ℕ) (f : Frame) (u : Run) (items : List Item) → IsWorth n e v
      → Lies procedures c.blocks n p (get_or c.blocks i []) → Lies procedures c.blocks n q (get_or c.blocks j []) → Ready n b f u items
      → Moves procedures c u.left (Opens (evaluate f u.store e) u.store (λ v. Block_ procedures (main_named procedures).give (chosen (holds v) p q) f u.store (Behind b ∷ items)))
      (choosing v i j u)
  did_choose n e p q b v i j f u items w l m r =
      subst (λ (o : Result ℤ Stop). Moves procedures c u.left (Opens (evaluate f u.store e) u.store
      (λ v. Block_ procedures (main_named procedures).give (chosen (holds v) p q) f u.store (Behind b ∷ items)))
      (then_with o (λ x. Ok (if holds x then inside i u.place u else inside j u.place u)))) (sym (found n e v f u.frame u.store w r.frame))
      (moves_opened procedures c u.left u.store (evaluate f u.store e) (λ v. Block_ procedures (main_named procedures).give (chosen (holds v) p q) f u.store (Behind b ∷ items))
      (λ x. Ok (if holds x then inside i u.place u else inside j u.place u)) (λ x is. go (holds x)))
    where
      go : (h : Bool) → Moves procedures c u.left (Block_ procedures (main_named procedures).give (chosen h p q) f u.store (Behind b ∷ items))
          (Ok (if h then inside i u.place u else inside j u.place u))
      go true = on_to u (inside i u.place u) (AtBlock p f u.store (Behind b ∷ items)) refl
          (InBlock n p f (inside i u.place u) (Behind b ∷ items) r.running r.frame r.fits l (OnBlock n b u.place u.stack items r.place r.stack)) same
      go false = on_to u (inside j u.place u) (AtBlock q f u.store (Behind b ∷ items)) refl
          (InBlock n q f (inside j u.place u) (Behind b ∷ items) r.running r.frame r.fits m (OnBlock n b u.place u.stack items r.place r.stack)) same

  -- a loop begins before its test
  did_loop : (n : Slotted) (e : Expression) (p b : Block) (v : Value) (i j : ℕ) (f : Frame) (u : Run) (items : List Item)
      → get_or c.blocks i [] ≡ step.Test v j ∷ [] → IsWorth n e v → Lies procedures c.blocks n p (get_or c.blocks j []) → Ready n b f u items
      → Moves procedures c u.left (Loop_ procedures (main_named procedures).give e p f u.store (Behind b ∷ items)) (Ok (inside i u.place u))
  did_loop n e p b v i j f u items is w l r = on_to u (inside i u.place u) (AtLoop e p f u.store (Behind b ∷ items)) refl
      (InLoop n e p f (inside i u.place u) (Behind b ∷ items) r.running r.frame r.fits
      (record { value = v; block = j; steps = is; first = refl; worth = w; lies = l }) (OnBlock n b u.place u.stack items r.place r.stack)) same

  -- the test of a loop, with its turn spent
  did_test : (n : Slotted) (e : Expression) (p : Block) (v : Value) (j : ℕ) (f : Frame) (u : Run) (items : List Item) → u.ended ≡ false → f ≡ frame_of n u.frame
      → Fits n u.frame → IsTest procedures c n e p (first_of u.place.block) → Stands_at procedures c n Nil u.place → IsWorth n e v
      → Lies procedures c.blocks n p (get_or c.blocks j []) → Stacks procedures c n u.stack items
      → Moves procedures c u.left (Opens (evaluate f u.store e) u.store (λ v. Tested procedures (main_named procedures).give (holds v) e p f u.store items)) (testing v j u)
  did_test n e p v j f u items running frame fits test nil w l stack =
      subst (λ (o : Result ℤ Stop). Moves procedures c u.left (Opens (evaluate f u.store e) u.store
      (λ v. Tested procedures (main_named procedures).give (holds v) e p f u.store items))
      (then_with o (λ x. Ok (if holds x then inside j (first_of u.place.block) u else u)))) (sym (found n e v f u.frame u.store w frame))
      (moves_opened procedures c u.left u.store (evaluate f u.store e) (λ v. Tested procedures (main_named procedures).give (holds v) e p f u.store items)
      (λ x. Ok (if holds x then inside j (first_of u.place.block) u else u)) (λ x is. go (holds x)))
    where
      go : (h : Bool) → Moves procedures c u.left (Tested procedures (main_named procedures).give h e p f u.store items) (Ok (if h then inside j (first_of u.place.block) u else u))
      go true = on_to u (inside j (first_of u.place.block) u) (AtBlock p f u.store (Tests e p ∷ items)) refl
          (InBlock n p f (inside j (first_of u.place.block) u) (Tests e p ∷ items) running frame fits l (OnTest n e p (first_of u.place.block) u.stack items test stack)) same
      go false = on_to u u (AtBlock Nil f u.store items) refl (InBlock n Nil f u items running frame fits nil stack) (turned (nil_step procedures (main_named procedures).give f u.store items))

  -- a split, whose parts are in the block's frame
  did_split : (n : Slotted) (line : ℕ) (t : Named) (e : Expression) (x y : Named) (p b : Block) (k : ℕ) (v : Value) (q : Parts) (f : Frame) (u : Run) (items : List Item)
      → k ≡ slot_in n.regions t.name → IsWorth n e v → IsRegion n x.name q.first → IsRegion n y.name q.second → Lies procedures c.blocks n p (get_or c.blocks q.block [])
      → Ready n b f u items
      → Moves procedures c u.left (Opens (then_with (evaluate f u.store e) (split_at line (f.regions t.name))) u.store
      (λ m. Block_ procedures (main_named procedures).give p (with_parts f (f.regions t.name) m x y) u.store (Leaves f.regions ∷ Behind b ∷ items))) (splitting line k v q u)
  did_split n line t e x y p b k v q f u items i w first second l r =
      subst (λ (o : Result ℤ Stop). Moves procedures c u.left (Opens (then_with (evaluate f u.store e) (split_at line (f.regions t.name))) u.store Way_)
      (then_with o (λ m. then_with (stopped (split_at line (get_or u.frame.regions k nowhere) m)) (λ n. Ok (parting k n q u)))))
      (sym (found n e v f u.frame u.store w r.frame))
      (subst (λ (g : Region). Moves procedures c u.left (Opens (then_with (evaluate f u.store e) (split_at line (f.regions t.name))) u.store Way_)
      (then_with (stopped (evaluate f u.store e)) (λ m. then_with (stopped (split_at line g m)) (λ n. Ok (parting k n q u)))))
      (region_in n f u.frame t.name k i r.frame) (go (evaluate f u.store e)))
    where
      Way_ : ℕ → ℕ → End ℤ → Type 0
      Way_ m = Block_ procedures (main_named procedures).give p (with_parts f (f.regions t.name) m x y) u.store (Leaves f.regions ∷ Behind b ∷ items)

      made : (m : ℕ) → with_parts f (f.regions t.name) m x y ≡ frame_of n (parting k m q u).frame
      made m =
          ap (λ (f : Frame). with_parts f (f.regions t.name) m x y) r.frame
          ∙ ap (λ (k : ℕ). with_region (with_region (frame_of n u.frame) x.name (first_part m (get_or u.frame.regions k nowhere))) y.name (second_part m (get_or u.frame.regions k nowhere))) (sym i)
          ∙ ap (λ (f : Frame). with_region f y.name (second_part m (get_or u.frame.regions k nowhere)))
          (wrote_region n u.frame x.name q.first (first_part m (get_or u.frame.regions k nowhere)) first r.fits)
          ∙ wrote_region n (with_region_at u.frame q.first (first_part m (get_or u.frame.regions k nowhere))) y.name q.second (second_part m (get_or u.frame.regions k nowhere)) second
          (fits_region q.first (first_part m (get_or u.frame.regions k nowhere)) r.fits)

      go2 : (o : Result ℕ TrapAt) → Moves procedures c u.left (Opens o u.store Way_) (then_with (stopped o) (λ n. Ok (parting k n q u)))
      go2 (Ok m) = on_to u (parting k m q u) (AtBlock p (with_parts f (f.regions t.name) m x y) u.store (Leaves f.regions ∷ Behind b ∷ items)) refl
          (InBlock n p (with_parts f (f.regions t.name) m x y) (parting k m q u) (Leaves f.regions ∷ Behind b ∷ items) r.running (made m)
          (fits_region q.second (second_part m (get_or u.frame.regions k nowhere)) (fits_region q.first (first_part m (get_or u.frame.regions k nowhere)) r.fits)) l
          (OnParts n b f.regions u.frame.regions u.place u.stack items (ap (λ (f : Frame). f.regions) r.frame) r.fits.regions r.place r.stack)) same
      go2 (Err s) = stop_at {t = s} u.store same

      go : (o : Result ℤ TrapAt) → Moves procedures c u.left (Opens (then_with o (split_at line (f.regions t.name))) u.store Way_)
          (then_with (stopped o) (λ m. then_with (stopped (split_at line (f.regions t.name) m)) (λ n. Ok (parting k n q u))))
      go (Ok m) = go2 (split_at line (f.regions t.name) m)
      go (Err s) = stop_at {t = s} u.store same

  -- the blocks of an `each` that are still to come
  did_sweep : (n : Slotted) (i x : Named) (p : Block) (reg : Region) (f : Frame) (from count : ℕ) (b : Block) (w : Sweep) (u : Run) (items : List Item) → u.ended ≡ false
      → Sweeps_ procedures c n i x p reg f from count b w → Stacks procedures c n u.stack items
      → Moves procedures c u.left (Sweep_ procedures (main_named procedures).give i x p reg f from count u.store (Behind b ∷ items)) (sweeping w u)
  did_sweep n i x p reg f from zero b w u items running v stack = go (nat_lt w.next w.region.length) refl
    where
      go : (t : Bool) → nat_lt w.next w.region.length ≡ t
          → Moves procedures c u.left (Sweep_ procedures (main_named procedures).give i x p reg f from zero u.store (Behind b ∷ items))
          (if t then then_with (spending 8 u) (λ t. Ok (with_place (with_frame (with_stack t (rest.Sweep (swept_once w) ∷ t.stack)) (element_frame w)) (first_of w.block)))
          else Ok (with_place (with_frame u w.frame) w.place))
      go true h =
          let l = ltb-true w.next w.region.length h in let e = v.sum in let j = v.next in let k = ap (λ (r : Region). r.length) v.region in absurd (omega (arith, l, e, j, k))
      go false h = on_to u (with_place (with_frame u w.frame) w.place) (AtBlock b f u.store items) refl
          (InBlock n b f (with_place (with_frame u w.frame) w.place) items running v.frame v.fits v.place stack)
          (swept_step procedures (main_named procedures).give i x p reg f from u.store (Behind b ∷ items))
  did_sweep n i x p reg f from (suc d) b w u items running v stack = go (nat_lt w.next w.region.length) refl
    where
      made : with_element f reg from i x ≡ frame_of n (element_frame w)
      made =
          ap (λ (f : Frame). with_element f reg from i x) v.frame
          ∙ ap (λ (r : Region). with_element (frame_of n w.frame) r from i x) (sym v.region)
          ∙ ap (λ (k : ℕ). with_element (frame_of n w.frame) w.region k i x) (sym v.next)
          ∙ ap (λ (f : Frame). with_region f x.name (part_at w.next w.region)) (wrote_local n w.frame i.name w.index (pos w.next) v.index v.fits)
          ∙ wrote_region n (with_local_at w.frame w.index (pos w.next)) x.name w.part (part_at w.next w.region) v.part (fits_local w.index (pos w.next) v.fits)

      later_blocks : Sweeps_ procedures c n i x p reg f (suc from) d b (swept_once w)
      later_blocks = record {
        frame = v.frame;
        fits = v.fits;
        index = v.index;
        part = v.part;
        region = v.region;
        next = ap suc v.next;
        sum = let e = v.sum in omega (arith, e);
        block = v.block;
        place = v.place;
      }

      go : (t : Bool) → nat_lt w.next w.region.length ≡ t
          → Moves procedures c u.left (Sweep_ procedures (main_named procedures).give i x p reg f from (suc d) u.store (Behind b ∷ items))
          (if t then then_with (spending 8 u) (λ t. Ok (with_place (with_frame (with_stack t (rest.Sweep (swept_once w) ∷ t.stack)) (element_frame w)) (first_of w.block)))
          else Ok (with_place (with_frame u w.frame) w.place))
      go true h = moves_spent procedures c 8 u (Sweep_ procedures (main_named procedures).give i x p reg f from (suc d) u.store (Behind b ∷ items))
          (Block_ procedures (main_named procedures).give p (with_element f reg from i x) u.store (Sweeping i x p reg f (suc from) d ∷ Behind b ∷ items))
          (λ t. Ok (with_place (with_frame (with_stack t (rest.Sweep (swept_once w) ∷ t.stack)) (element_frame w)) (first_of w.block)))
          (sweep_step procedures (main_named procedures).give i x p reg f from d u.store (Behind b ∷ items))
          (λ l. on_to (with_left u (u.left - 8))
          (with_place (with_frame (with_stack (with_left u (u.left - 8)) (rest.Sweep (swept_once w) ∷ u.stack)) (element_frame w)) (first_of w.block))
          (AtBlock p (with_element f reg from i x) u.store (Sweeping i x p reg f (suc from) d ∷ Behind b ∷ items)) refl
          (InBlock n p (with_element f reg from i x) (with_place (with_frame (with_stack (with_left u (u.left - 8)) (rest.Sweep (swept_once w) ∷ u.stack)) (element_frame w)) (first_of w.block))
          (Sweeping i x p reg f (suc from) d ∷ Behind b ∷ items) running made
          (fits_region w.part (part_at w.next w.region) (fits_local w.index (pos w.next) v.fits)) v.block
          (OnSweep n i x p reg f (suc from) d b (swept_once w) u.stack items later_blocks stack)) same)
      go false h =
          let l = ltb-false w.next w.region.length h in let e = v.sum in let j = v.next in let k = ap (λ (r : Region). r.length) v.region in absurd (omega (arith, l, e, j, k))

  -- an `each`, with one of its nine turns spent
  did_each : (n : Slotted) (i x r : Named) (p b : Block) (j k m d : ℕ) (f : Frame) (u : Run) (items : List Item) → IsLocal n i.name j → IsRegion n x.name k
      → m ≡ slot_in n.regions r.name → Lies procedures c.blocks n p (get_or c.blocks d []) → Ready n b f u items
      → Moves procedures c u.left (Later 8 (Sweep_ procedures (main_named procedures).give i x p (f.regions r.name) f 0 (f.regions r.name).length u.store (Behind b ∷ items)))
      (sweep_begins j k m d u)
  did_each n i x r p b j k m d f u items index part region block h =
      moves_spent procedures c 8 u
      (Later 8 (Sweep_ procedures (main_named procedures).give i x p (f.regions r.name) f 0 (f.regions r.name).length u.store (Behind b ∷ items)))
      (Sweep_ procedures (main_named procedures).give i x p (f.regions r.name) f 0 (f.regions r.name).length u.store (Behind b ∷ items))
      (λ t. sweeping (record { index = j; part = k; block = d; region = get_or t.frame.regions m nowhere; next = 0; frame = t.frame; place = t.place }) t)
      (later 8)
      (λ l. did_sweep n i x p (f.regions r.name) f 0 (f.regions r.name).length b
      (record { index = j; part = k; block = d; region = get_or u.frame.regions m nowhere; next = 0; frame = u.frame; place = u.place })
      (with_left u (u.left - 8)) items h.running
      (record {
        frame = h.frame;
        fits = h.fits;
        index = index;
        part = part;
        region = sym (region_in n f u.frame r.name m region h.frame);
        next = refl;
        sum = omega arith;
        block = block;
        place = h.place;
      }) h.stack)

  -- a turn of an entry
  pub moves_entry : (s : Run) (A B : ℕ → End ℤ → Type 0) → Shifts 1 A B → (1 ≤ s.left → Moves procedures c (s.left - 1) B (Ok (with_left s (s.left - 1)))) → Moves procedures c s.left A (spending 1 s)
  moves_entry s A B p rest = go (nat_lt s.left 1) refl
    where
      go : (t : Bool) → nat_lt s.left 1 ≡ t → Moves procedures c s.left A (if t then Err stop.NotWithin else Ok (with_left s (s.left - 1)))
      go true e = λ n z a. let w = p.on n z a in let h = w.sum in let l = ltb-true s.left 1 e in omega (arith, h, l)
      go false e = moves_behind procedures c 1 s.left A B p (ltb-false s.left 1 e) (Ok (with_left s (s.left - 1))) (rest (ltb-false s.left 1 e))

  -- a callee's frame is made, or an argument traps
  moves_called : (left : ℕ) (a : Arrays) (m : Slotted) (o : Result Slots Stop) (r : Result Frame TrapAt) (way : Frame → ℕ → End ℤ → Type 0) (go : Slots → Result Run Stop)
      → as_frame m o ≡ stopped r → FitsIfAny m o → ((g : Frame) (s : Slots) → r ≡ Ok g → g ≡ frame_of m s → Fits m s → Moves procedures c left (way g) (go s))
      → Moves procedures c left (Opens r a way) (then_with o go)
  moves_called left a m (Ok s) (Ok g) way go e f rest = rest g s refl (sym (ok_value e)) f
  moves_called left a m (Ok s) (Err t) way go e f rest = cc
  moves_called left a m (Err x) (Ok g) way go e f rest = cc
  moves_called left a m (Err x) (Err t) way go e f rest = subst (λ (x : Stop). Moves procedures c left (Trap t a) (Err x)) (sym (err_value e)) (stop_at {t = t} a same)

  -- the procedure that a name stands for, and its names
  abbrev proc_ : Named → Procedure
  proc_ x = procedure_named procedures x.name

  -- the procedure that a call names is laid out at its place
  routine_of : (n : Slotted) (s : Side) (d : Call) → IsCall procedures n s d → IsRoutine procedures c.blocks (proc_ s.callee) (routine_at c d.callee)
  routine_of n s d i = subst (λ (k : ℕ). IsRoutine procedures c.blocks (proc_ s.callee) (routine_at c k)) (sym i.callee) (laid.routine s.callee.name)

  -- a fresh frame of a callee
  fresh_of : (n : Slotted) (s : Side) (d : Call) → IsCall procedures n s d → Fits (names_of (proc_ s.callee)) (fresh (routine_at c d.callee).locals (routine_at c d.callee).regions)
  fresh_of n s d i =
      let r = routine_of n s d i in
      subst (λ (j : ℕ). Fits (names_of (proc_ s.callee)) (fresh j (routine_at c d.callee).regions)) (sym r.locals)
      (subst (λ (j : ℕ). Fits (names_of (proc_ s.callee)) (fresh (length (names_of (proc_ s.callee)).locals) j)) (sym r.regions) (fresh_fits (names_of (proc_ s.callee))))

  -- the frame that a call makes is that of its arguments
  called_is : (n : Slotted) (s : Side) (d : Call) (f : Frame) (t : Slots) (a : Arrays) → IsCall procedures n s d → Fits n t → f ≡ frame_of n t
      → as_frame (names_of (proc_ s.callee)) (called c t a d) ≡ stopped (entered procedures f a s)
  called_is n s d f t a i fits e =
      let g = fresh (routine_at c d.callee).locals (routine_at c d.callee).regions in
      let p = i.passed t a g fits (fresh_of n s d i) in
      p.value ∙ ap (λ (h : Frame). stopped (with_arguments h a (proc_ s.callee).parameters s.arguments (frame_of (names_of (proc_ s.callee)) g))) (sym e)
      ∙ ap (λ (h : Frame). stopped (with_arguments f a (proc_ s.callee).parameters s.arguments h))
      (fresh_frame (names_of (proc_ s.callee)) (routine_at c d.callee).locals (routine_at c d.callee).regions)

  called_fits : (n : Slotted) (s : Side) (d : Call) (t : Slots) (a : Arrays) → IsCall procedures n s d → Fits n t → FitsIfAny (names_of (proc_ s.callee)) (called c t a d)
  called_fits n s d t a i fits = (i.passed t a (fresh (routine_at c d.callee).locals (routine_at c d.callee).regions) fits (fresh_of n s d i)).fits

  -- a procedure begins in a frame, with who waits for it on the stack
  begins : (p : Procedure) (k : ℕ) (g : Frame) (s : Slots) (r : Rest) (u : Run) (items : List Item) (A : ℕ → End ℤ → Type 0) → IsRoutine procedures c.blocks p (routine_at c k)
      → u.ended ≡ false → g ≡ frame_of (names_of p) s → Fits (names_of p) s → Stacks procedures c (names_of p) (r ∷ u.stack) items
      → Shifts 1 A (Block_ procedures (main_named procedures).give p.body g u.store items) → Moves procedures c u.left A (entering c k s r u)
  begins p k g s r u items A i running e fits stack shift =
      let t = with_place (with_frame (with_stack u (r ∷ u.stack)) s) (first_of (routine_at c k).body) in
      moves_entry t A (Block_ procedures (main_named procedures).give p.body g u.store items) shift
      (λ l. on_to (with_left t (t.left - 1)) (with_left t (t.left - 1)) (AtBlock p.body g u.store items) refl
      (InBlock (names_of p) p.body g (with_left t (t.left - 1)) items running e fits i.body stack) same)

  -- a call
  did_call : (n : Slotted) (s : Side) (d : Call) (b : Block) (f : Frame) (u : Run) (items : List Item) → IsCall procedures n s d → Ready n b f u items
      → Moves procedures c u.left (Opens (entered procedures f u.store s) u.store
      (λ g. Two (Enters Plain procedures (proc_ s.callee) g u.store) (λ y. After procedures (main_named procedures).give (Behind b ∷ items) f.regions (returned s.target f y))))
      (calling c d u)
  did_call n s d b f u items i r =
      moves_called u.left u.store (names_of (proc_ s.callee)) (called c u.frame u.store d) (entered procedures f u.store s)
      (λ g. Two (Enters Plain procedures (proc_ s.callee) g u.store) (λ y. After procedures (main_named procedures).give (Behind b ∷ items) f.regions (returned s.target f y)))
      (λ g. entering c d.callee g (rest.Call (waiting u d.target d.callee)) u)
      (called_is n s d f u.frame u.store i r.fits r.frame) (called_fits n s d u.frame u.store i r.fits)
      (λ g t is e fits. begins (proc_ s.callee) d.callee g t (rest.Call (waiting u d.target d.callee)) u (Returns (proc_ s.callee).give s.target f ∷ Behind b ∷ items)
      (Two (Enters Plain procedures (proc_ s.callee) g u.store) (λ y. After procedures (main_named procedures).give (Behind b ∷ items) f.regions (returned s.target f y)))
      (routine_of n s d i) r.running e fits
      (OnCall (names_of (proc_ s.callee)) n (proc_ s.callee).give s.target f b (waiting u d.target d.callee) u.stack items (routine_of n s d i).give
      (record { frame = r.frame; fits = r.fits; target = i.target; place = r.place }) r.stack)
      (called_step procedures (main_named procedures).give (proc_ s.callee) g u.store s.target f (Behind b ∷ items)))

  -- two frames are opened, one after the other
  opens_both : (a : Arrays) (o p : Result Frame TrapAt) (way : Frame × Frame → ℕ → End ℤ → Type 0) → Shifts 0 (Opens (then_with o (λ g. then_with p (λ h. Ok (g, h)))) a way) (Opens o a (λ g. Opens p a (λ h. way (g, h))))
  opens_both a (Ok g) (Ok h) way = same
  opens_both a (Ok g) (Err t) way = same
  opens_both a (Err t) p way = same

  -- a fork
  did_fork : (n : Slotted) (s t : Side) (d e : Call) (b : Block) (f : Frame) (u : Run) (items : List Item) → IsCall procedures n s d → IsCall procedures n t e → Ready n b f u items
      → Moves procedures c u.left (Opens (both_entered procedures f u.store s t) u.store (Branches procedures (main_named procedures).give s t b f u.store items)) (forking c d e u)
  did_fork n s t d e b f u items i j r =
      moves_behind procedures c 0 u.left (Opens (both_entered procedures f u.store s t) u.store Way_) (Opens (entered procedures f u.store s) u.store (λ g. Opens (entered procedures f u.store t) u.store (λ h. Way_ (g, h))))
      (opens_both u.store (entered procedures f u.store s) (entered procedures f u.store t) Way_) (omega arith) (forking c d e u)
      (moves_called (u.left - 0) u.store (names_of (proc_ s.callee)) (called c u.frame u.store d) (entered procedures f u.store s)
      (λ g. Opens (entered procedures f u.store t) u.store (λ h. Way_ (g, h)))
      (λ g. then_with (called c u.frame u.store e) (λ h. entering c d.callee g (rest.Left (waiting u d.target d.callee) e.target e.callee h) u))
      (called_is n s d f u.frame u.store i r.fits r.frame) (called_fits n s d u.frame u.store i r.fits)
      (λ g v is eq fits. moves_called (u.left - 0) u.store (names_of (proc_ t.callee)) (called c u.frame u.store e) (entered procedures f u.store t) (λ h. Way_ (g, h))
      (λ h. entering c d.callee v (rest.Left (waiting u d.target d.callee) e.target e.callee h) u)
      (called_is n t e f u.frame u.store j r.fits r.frame) (called_fits n t e u.frame u.store j r.fits)
      (λ h w is' eq' fits'. both g v eq fits h w eq' fits')))
    where
      Way_ : Frame × Frame → ℕ → End ℤ → Type 0
      Way_ = Branches procedures (main_named procedures).give s t b f u.store items

      both : (g : Frame) (v : Slots) → g ≡ frame_of (names_of (proc_ s.callee)) v → Fits (names_of (proc_ s.callee)) v
          → (h : Frame) (w : Slots) → h ≡ frame_of (names_of (proc_ t.callee)) w → Fits (names_of (proc_ t.callee)) w
          → Moves procedures c (u.left - 0) (Way_ (g, h)) (entering c d.callee v (rest.Left (waiting u d.target d.callee) e.target e.callee w) u)
      both g v eq fits h w eq' fits' =
          let z : u.left ≡ u.left - 0 = omega arith in
          subst (λ (k : ℕ). Moves procedures c k (Way_ (g, h)) (entering c d.callee v (rest.Left (waiting u d.target d.callee) e.target e.callee w) u)) z
          (begins (proc_ s.callee) d.callee g v (rest.Left (waiting u d.target d.callee) e.target e.callee w) u
          (Crosses (proc_ s.callee).give s.target t.target f (proc_ t.callee) h ∷ Behind b ∷ items) (Way_ (g, h)) (routine_of n s d i) r.running eq fits
          (OnLeft (names_of (proc_ s.callee)) n (proc_ s.callee).give s.target t.target f b t.callee.name e.callee h (waiting u d.target d.callee) e.target w u.stack items
          j.callee (routine_of n s d i).give (record { frame = r.frame; fits = r.fits; target = i.target; place = r.place }) j.target eq' fits' r.stack)
          (left_step procedures (main_named procedures).give (proc_ s.callee) g u.store s.target t.target f (proc_ t.callee) h (Behind b ∷ items)))

  -- a target's slot has the value
  delivered_is : (m : Slotted) (x : Option Named) (j : Option ℕ) (v : ℤ) (f : Frame) (s : Slots) → IsTarget m x j → f ≡ frame_of m s → Fits m s
      → (delivered x v f ≡ frame_of m (delivering j v s)) × Fits m (delivering j v s)
  delivered_is m None None v f s i e h = (e, h)
  delivered_is m None (Some k) v f s i e h = absurd i
  delivered_is m (Some x) None v f s i e h = absurd i
  delivered_is m (Some x) (Some k) v f s i e h = (ap (λ (f : Frame). with_local f x.name v) e ∙ wrote_local m s x.name k v i h, fits_local k v h)

  delivered_regions : (x : Option Named) (v : ℤ) (f : Frame) (rs : Regions) → rs ≡ f.regions → of rs (delivered x v f).locals ≡ delivered x v f
  delivered_regions None v f rs e = ap (λ (rs : Regions). of rs f.locals) e
  delivered_regions (Some x) v f rs e = ap (λ (rs : Regions). of rs (with_local f x.name v).locals) e

  regions_stay : (x : Option Named) (v : ℤ) (f : Frame) → f.regions ≡ (delivered x v f).regions
  regions_stay None v f = refl
  regions_stay (Some x) v f = refl

  -- a procedure gives its value, and what comes after it is done
  moves_given : (n : Slotted) (g : Option Give) (o : Option Value) (f : Frame) (u : Run) (Q : End ℤ → ℕ → End ℤ → Type 0) (go : Run → ℤ → Result Run Stop)
      → IsGive n g o → f ≡ frame_of n u.frame → ((t : TrapAt) → Shifts 0 (Q (Trapped t u.store)) (Trap t u.store))
      → ((v : ℤ) (l : ℕ) → Moves procedures c l (Q (Ended v u.store)) (go (with_left u l) v))
      → Moves procedures c u.left (Later (given_turns g) (Q (gave g f.regions f.locals u.store))) (then_with (spending_some o u) (λ t. then_with (worth_some o t) (λ v. go t v)))
  moves_given n None None f u Q go i e traps rest =
      let z : u.left ≡ u.left - 0 = omega arith in
      moves_behind procedures c 0 u.left (Later 0 (Q (Ended (pos 0) u.store))) (Q (Ended (pos 0) u.store)) (later 0) (omega arith) (go u (pos 0))
      (subst (λ (k : ℕ). Moves procedures c k (Q (Ended (pos 0) u.store)) (go u (pos 0))) z (rest (pos 0) u.left))
  moves_given n None (Some v) f u Q go i e traps rest = absurd i
  moves_given n (Some g) None f u Q go i e traps rest = absurd i
  moves_given n (Some g) (Some v) f u Q go i e traps rest =
      moves_spent procedures c 1 u (Later 1 (Q (gave (Some g) f.regions f.locals u.store))) (Q (gave (Some g) f.regions f.locals u.store))
      (λ t. then_with (worth t.frame t.store v) (λ x. go t x)) (later 1)
      (λ l. subst (λ (o : Result ℤ Stop). Moves procedures c (u.left - 1) (Q (gave (Some g) f.regions f.locals u.store)) (then_with o (λ x. go (with_left u (u.left - 1)) x)))
      (sym (found n g.value v f u.frame u.store i e)) (opened (evaluate f u.store g.value)))
    where
      opened : (o : Result ℤ TrapAt) → Moves procedures c (u.left - 1) (Q (end_of o u.store (λ v. Ended v u.store))) (then_with (stopped o) (λ x. go (with_left u (u.left - 1)) x))
      opened (Ok x) = rest x (u.left - 1)
      opened (Err t) = stop_at {t = t} u.store (traps t)

  -- the end of `main`
  pub ends_later : (g : Option Give) (f : Frame) (a : Arrays) → g ≡ (main_named procedures).give
      → Shifts 0 (After procedures (main_named procedures).give [] f.regions (Ended f.locals a)) (Later (given_turns g) (Way procedures (AtEnd (gave g f.regions f.locals a))))
  ends_later g f a e = subst (λ (g : Option Give). Shifts 0 (After procedures (main_named procedures).give [] f.regions (Ended f.locals a))
      (Later (given_turns g) (Way procedures (AtEnd (gave g f.regions f.locals a))))) (sym e) (record {
        on = λ n z q. record { rest = n; sum = omega arith; next = record { rest = 0; sum = (let i = q.0 in omega (arith, i)); next = (refl, q.1) } };
        back = λ n z w. let v = w.next in ((let i = w.sum in let j = v.sum in let k = v.next.0 in omega (arith, i, j, k)), v.next.1);
      })

  -- what comes after a block is done
  leaves : (n : Slotted) (f : Frame) (s : Run) (k : List Rest) (items : List Item) → s.ended ≡ false → f ≡ frame_of n s.frame → Fits n s.frame → Stacks procedures c n k items
      → Moves procedures c s.left (After procedures (main_named procedures).give items f.regions (Ended f.locals s.store)) (leaving c k s)
  leaves n f s k items running e fits (Empty) =
      let give = subst (λ (m : ℕ). IsGive (names_of (main_named procedures)) (main_named procedures).give (routine_at c m).give) (sym laid.main) (laid.routine (codes "main")).give in
      let z : s.left ≡ s.left - 0 = omega arith in
      moves_behind procedures c 0 s.left (After procedures (main_named procedures).give [] f.regions (Ended f.locals s.store))
      (Later (given_turns (main_named procedures).give) (Way procedures (AtEnd (gave (main_named procedures).give f.regions f.locals s.store))))
      (ends_later (main_named procedures).give f s.store refl) (omega arith) (ending c s)
      (subst (λ (k : ℕ). Moves procedures c k (Later (given_turns (main_named procedures).give) (Way procedures (AtEnd (gave (main_named procedures).give f.regions f.locals s.store)))) (ending c s)) z
      (moves_given (names_of (main_named procedures)) (main_named procedures).give (routine_at c c.main).give f s (λ y. Way procedures (AtEnd y)) (λ t v. Ok (with_end t)) give e (λ t. same)
      (λ v l. on_to (with_left s l) (with_end (with_left s l)) (AtEnd (Ended v s.store)) refl (Over v (with_end (with_left s l)) refl) same)))
  leaves n f s k items running e fits (OnBlock _ b p k' items' place stack) =
      on_to s (with_place (with_stack s k') p) (AtBlock b f s.store items') refl (InBlock n b f (with_place (with_stack s k') p) items' running e fits place stack) same
  leaves n f s k items running e fits (OnTest _ t q p k' items' test stack) =
      on_to s (with_place (with_stack s k') p) (AtLoop t q f s.store items') refl (InLoop n t q f (with_place (with_stack s k') p) items' running e fits test stack) same
  leaves n f s k items running e fits (OnParts _ b rs old p k' items' is len place stack) =
      on_to s (with_place (with_frame (with_stack s k') (with_regions s.frame old)) p) (AtBlock b (of rs f.locals) s.store items') refl
      (InBlock n b (of rs f.locals) (with_place (with_frame (with_stack s k') (with_regions s.frame old)) p) items' running
      (ap (λ (f : Frame). of rs f.locals) e ∙ ap (λ (rs : Regions). of rs (frame_of n s.frame).locals) is)
      (record { locals = fits.locals; regions = len }) place stack) same
  leaves n f s k items running e fits (OnSweep _ i x p r g from count b w k' items' sweep stack) =
      did_sweep n i x p r g from count b w (with_stack s k') items' running sweep stack
  leaves n f s k items running e fits (OnCall _ m g x h b q k' items' give waits stack) =
      moves_given n g (routine_at c q.callee).give f (with_stack s k') (λ y. After procedures (main_named procedures).give (Behind b ∷ items') h.regions (returned x h y))
      (λ t v. Ok (with_place (with_frame t (delivering q.target v q.frame)) q.place)) give e (λ t. same)
      (λ v l. let d = delivered_is m x q.target v h q.frame waits.target waits.frame waits.fits in
      on_to (with_left (with_stack s k') l) (with_place (with_frame (with_left (with_stack s k') l) (delivering q.target v q.frame)) q.place)
      (AtBlock b (of h.regions (delivered x v h).locals) s.store items') refl
      (InBlock m b (of h.regions (delivered x v h).locals) (with_place (with_frame (with_left (with_stack s k') l) (delivering q.target v q.frame)) q.place) items' running
      (delivered_regions x v h h.regions refl ∙ d.0) d.1 waits.place stack) same)
  leaves n f s k items running e fits (OnLeft _ m g x y h b callee l hh q j v k' items' at give waits target is fits' stack) =
      moves_given n g (routine_at c q.callee).give f (with_stack s k')
      (Crossed procedures (procedure_named procedures callee) hh (λ v w. After procedures (main_named procedures).give (Behind b ∷ items') h.regions (joined x y h (Ended v []) w)))
      (λ t z. entering c l v (rest.Right (record { frame = q.frame; place = q.place; target = j; callee = l }) q.target z) t) give e (λ t. same)
      (λ z left. let i = subst (λ (m : ℕ). IsRoutine procedures c.blocks (procedure_named procedures callee) (routine_at c m)) (sym at) (laid.routine callee) in
      begins (procedure_named procedures callee) l hh v (rest.Right (record { frame = q.frame; place = q.place; target = j; callee = l }) q.target z)
      (with_left (with_stack s k') left) (Joins (procedure_named procedures callee).give x y h z ∷ Behind b ∷ items')
      (Two (Enters Plain procedures (procedure_named procedures callee) hh s.store) (λ w. After procedures (main_named procedures).give (Behind b ∷ items') h.regions (joined x y h (Ended z []) w)))
      i running is fits'
      (OnRight (names_of (procedure_named procedures callee)) m (procedure_named procedures callee).give x y h b (record { frame = q.frame; place = q.place; target = j; callee = l }) q.target z k' items'
      i.give (record { frame = waits.frame; fits = waits.fits; target = target; place = waits.place }) waits.target stack)
      (right_step procedures (main_named procedures).give (procedure_named procedures callee) hh s.store x y h z (Behind b ∷ items')))
  leaves n f s k items running e fits (OnRight _ m g x y h b q j v k' items' give waits target stack) =
      moves_given n g (routine_at c q.callee).give f (with_stack s k') (λ w. After procedures (main_named procedures).give (Behind b ∷ items') h.regions (joined x y h (Ended v []) w))
      (λ t w. Ok (with_place (with_frame t (delivering q.target w (delivering j v q.frame))) q.place)) give e (λ t. same)
      (λ w l. let d = delivered_is m x j v h q.frame target waits.frame waits.fits in
      let d' = delivered_is m y q.target w (delivered x v h) (delivering j v q.frame) waits.target d.0 d.1 in
      on_to (with_left (with_stack s k') l) (with_place (with_frame (with_left (with_stack s k') l) (delivering q.target w (delivering j v q.frame))) q.place)
      (AtBlock b (of h.regions (delivered y w (delivered x v h)).locals) s.store items') refl
      (InBlock m b (of h.regions (delivered y w (delivered x v h)).locals)
      (with_place (with_frame (with_left (with_stack s k') l) (delivering q.target w (delivering j v q.frame))) q.place) items' running
      (delivered_regions y w (delivered x v h) h.regions (regions_stay x v h) ∙ d'.0) d'.1 waits.place stack) same)

  -- a statement is done, with its turn
  statement_moves : (n : Slotted) (st : Statement) (b : Block) (step_ : Step) (f : Frame) (s : Run) (items : List Item) → Stands procedures c.blocks n st step_
      → Ready n b f (with_place (with_left s (s.left - 1)) (behind s.place)) items
      → Moves procedures c s.left (Block_ procedures (main_named procedures).give (Then st b) f s.store items) (stepping_at c (Some step_) s)
  statement_moves n _ b _ f s items (StandsLet x e k v i w) r =
      let u = with_place (with_left s (s.left - 1)) (behind s.place) in
      moves_spent procedures c 1 s (Block_ procedures (main_named procedures).give (Then (Let x e) b) f s.store items)
      (After procedures (main_named procedures).give (Behind b ∷ items) f.regions (assigned x e f s.store))
      (λ t. doing c (step.Set k v) (with_place t (behind t.place))) (let_step procedures (main_named procedures).give x e b f s.store items) (λ left. did_set n x e b k v f u items i w r)
  statement_moves n _ b _ f s items (StandsAssign x e k v i w) r =
      let u = with_place (with_left s (s.left - 1)) (behind s.place) in
      moves_spent procedures c 1 s (Block_ procedures (main_named procedures).give (Then (Assign x e) b) f s.store items)
      (After procedures (main_named procedures).give (Behind b ∷ items) f.regions (assigned x e f s.store))
      (λ t. doing c (step.Set k v) (with_place t (behind t.place))) (assign_step procedures (main_named procedures).give x e b f s.store items) (λ left. did_set n x e b k v f u items i w r)
  statement_moves n _ b _ f s items (StandsPut x d e k j v i w w') r =
      let u = with_place (with_left s (s.left - 1)) (behind s.place) in
      moves_spent procedures c 1 s (Block_ procedures (main_named procedures).give (Then (Put x d e) b) f s.store items)
      (After procedures (main_named procedures).give (Behind b ∷ items) f.regions (stored x d e f s.store))
      (λ t. doing c (step.Put k x.line j v) (with_place t (behind t.place))) (put_step procedures (main_named procedures).give x d e b f s.store items) (λ left. did_put n x d e b k j v f u items i w w' r)
  statement_moves n _ b _ f s items (StandsIf e p q v i j w l m) r =
      let u = with_place (with_left s (s.left - 1)) (behind s.place) in
      moves_spent procedures c 1 s (Block_ procedures (main_named procedures).give (Then (If e p q) b) f s.store items)
      (Opens (evaluate f s.store e) s.store (λ v. Block_ procedures (main_named procedures).give (chosen (holds v) p q) f s.store (Behind b ∷ items)))
      (λ t. doing c (step.Choose v i j) (with_place t (behind t.place))) (if_step procedures (main_named procedures).give e p q b f s.store items) (λ left. did_choose n e p q b v i j f u items w l m r)
  statement_moves n _ b _ f s items (StandsWhile e p v i j is w l) r =
      let u = with_place (with_left s (s.left - 1)) (behind s.place) in
      moves_spent procedures c 1 s (Block_ procedures (main_named procedures).give (Then (While e p) b) f s.store items)
      (Loop_ procedures (main_named procedures).give e p f s.store (Behind b ∷ items))
      (λ t. doing c (step.Loop i) (with_place t (behind t.place))) (while_step procedures (main_named procedures).give e p b f s.store items) (λ left. did_loop n e p b v i j f u items is w l r)
  statement_moves n _ b _ f s items (StandsCall t d i) r =
      let u = with_place (with_left s (s.left - 1)) (behind s.place) in
      moves_spent procedures c 1 s (Block_ procedures (main_named procedures).give (Then (tree.Call t) b) f s.store items)
      (Opens (entered procedures f s.store t) s.store (λ g. Two (Enters Plain procedures (proc_ t.callee) g s.store) (λ y. After procedures (main_named procedures).give (Behind b ∷ items) f.regions (returned t.target f y))))
      (λ t. doing c (step.Call d) (with_place t (behind t.place))) (call_step procedures (main_named procedures).give t b f s.store items) (λ left. did_call n t d b f u items i r)
  statement_moves n _ b _ f s items (StandsFork t o d e i j) r =
      let u = with_place (with_left s (s.left - 1)) (behind s.place) in
      moves_spent procedures c 1 s (Block_ procedures (main_named procedures).give (Then (tree.Fork t o) b) f s.store items)
      (Opens (both_entered procedures f s.store t o) s.store (Branches procedures (main_named procedures).give t o b f s.store items))
      (λ t. doing c (step.Fork d e) (with_place t (behind t.place))) (fork_step procedures (main_named procedures).give t o b f s.store items) (λ left. did_fork n t o d e b f u items i j r)
  statement_moves n _ b _ f s items (StandsSplit line t e x y p k v q i w first second l) r =
      let u = with_place (with_left s (s.left - 1)) (behind s.place) in
      moves_spent procedures c 1 s (Block_ procedures (main_named procedures).give (Then (Split line t e x y p) b) f s.store items)
      (Opens (then_with (evaluate f s.store e) (split_at line (f.regions t.name))) s.store (λ m. Block_ procedures (main_named procedures).give p (with_parts f (f.regions t.name) m x y) s.store (Leaves f.regions ∷ Behind b ∷ items)))
      (λ t. doing c (step.Split line k v q) (with_place t (behind t.place))) (split_step procedures (main_named procedures).give line t e x y p b f s.store items) (λ left. did_split n line t e x y p b k v q f u items i w first second l r)
  statement_moves n _ b _ f s items (StandsEach i x t p j k m d index part region block) r =
      let u = with_place (with_left s (s.left - 1)) (behind s.place) in
      moves_spent procedures c 1 s (Block_ procedures (main_named procedures).give (Then (tree.Each i x t p) b) f s.store items)
      (Later 8 (Sweep_ procedures (main_named procedures).give i x p (f.regions t.name) f 0 (f.regions t.name).length s.store (Behind b ∷ items)))
      (λ t. doing c (step.Each j k m d) (with_place t (behind t.place))) (in_parts 1 8 (each_step procedures (main_named procedures).give i x t p b f s.store items)) (λ left. did_each n i x t p b j k m d f u items index part region block r)

  -- a run before a block
  block_moves : (n : Slotted) (b : Block) (f : Frame) (s : Run) (items : List Item) → s.ended ≡ false → f ≡ frame_of n s.frame → Fits n s.frame
      → Stacks procedures c n s.stack items → (steps : List Step) → drop s.place.at (block_at c s.place.block) ≡ steps → Lies procedures c.blocks n b steps
      → Moves procedures c s.left (Block_ procedures (main_named procedures).give b f s.store items) (stepping c s)
  block_moves n _ f s items running e fits stack _ is (LiesNil) =
      let z : s.left ≡ s.left - 0 = omega arith in
      subst (λ (o : Option Step). Moves procedures c s.left (Block_ procedures (main_named procedures).give Nil f s.store items) (stepping_at c o s))
      (sym (none_at (block_at c s.place.block) s.place.at is))
      (moves_behind procedures c 0 s.left (Block_ procedures (main_named procedures).give Nil f s.store items) (After procedures (main_named procedures).give items f.regions (Ended f.locals s.store))
      (nil_step procedures (main_named procedures).give f s.store items) (omega arith) (leaving c s.stack s)
      (subst (λ (k : ℕ). Moves procedures c k (After procedures (main_named procedures).give items f.regions (Ended f.locals s.store)) (leaving c s.stack s)) z
      (leaves n f s s.stack items running e fits stack)))
  block_moves n _ f s items running e fits stack _ is (LiesThen st b step_ steps stands rest_) =
      subst (λ (o : Option Step). Moves procedures c s.left (Block_ procedures (main_named procedures).give (Then st b) f s.store items) (stepping_at c o s))
      (sym (some_at (block_at c s.place.block) s.place.at is))
      (statement_moves n st b step_ f s items stands
      (record {
        running = running;
        frame = e;
        fits = fits;
        place = subst (λ (t : List Step). Lies procedures c.blocks n b t) (sym (next_at (block_at c s.place.block) s.place.at is)) rest_;
        stack = stack;
      }))

  -- a run before the test of a loop
  loop_moves : (n : Slotted) (e : Expression) (p : Block) (f : Frame) (s : Run) (items : List Item) → s.ended ≡ false → f ≡ frame_of n s.frame → Fits n s.frame
      → IsTest procedures c n e p s.place → Stacks procedures c n s.stack items
      → Moves procedures c s.left (Loop_ procedures (main_named procedures).give e p f s.store items) (stepping c s)
  loop_moves n e p f s items running eq fits test stack =
      let is : drop s.place.at (block_at c s.place.block) ≡ step.Test test.value test.block ∷ [] =
      ap (λ (k : ℕ). drop k (block_at c s.place.block)) test.first ∙ test.steps in
      let u = with_place (with_left s (s.left - 1)) (behind s.place) in
      subst (λ (o : Option Step). Moves procedures c s.left (Loop_ procedures (main_named procedures).give e p f s.store items) (stepping_at c o s))
      (sym (some_at (block_at c s.place.block) s.place.at is))
      (moves_spent procedures c 1 s (Loop_ procedures (main_named procedures).give e p f s.store items)
      (Opens (evaluate f s.store e) s.store (λ v. Tested procedures (main_named procedures).give (holds v) e p f s.store items))
      (λ t. doing c (step.Test test.value test.block) (with_place t (behind t.place)))
      (loop_step procedures (main_named procedures).give e p f s.store items)
      (λ l. did_test n e p test.value test.block f u items running eq fits
      (record { value = test.value; block = test.block; steps = test.steps; first = refl; worth = test.worth; lies = test.lies })
      (subst (λ (t : List Step). Lies procedures c.blocks n Nil t) (sym (next_at (block_at c s.place.block) s.place.at is)) LiesNil) test.worth test.lies stack))

  -- each step of a run does what is still to come
  pub moves : (s : Run) (p : Point) → s.ended ≡ false → Shows procedures c s p → Moves procedures c s.left (Way procedures p) (stepping c s)
  moves s _ running (InBlock n b f _ items on e fits place stack) = block_moves n b f s items on e fits stack (drop s.place.at (block_at c s.place.block)) refl place
  moves s _ running (InLoop n e p f _ items on eq fits test stack) = loop_moves n e p f s items on eq fits test stack
  moves s _ running (Over v _ ended) = cc
