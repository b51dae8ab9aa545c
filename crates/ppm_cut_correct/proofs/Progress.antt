-- For each n a block has an end, or its code makes at least n capsules in turn: by recursion on n.
use Rattle.std.proofs.Common.{◌/◌, ◌⊎◌, inl, inr, ◌≡◌, ◌≤◌, ℕ, ℤ, zero, suc, ◌+◌, ◌-◌, ◌*◌, Bool, true, false, List}
use Rattle.std.proofs.Common.{◌++◌, None, Result, Ok, Err, subst₂, length, refl, subst, arith}
use Rattle.ppm_strands.specs.Tree.{Words, Code, Strand, Fork as Forking}
use Rattle.ppm_code.specs.declared.code.CodeParts.{CodeParts}
use Rattle.ppm_code.specs.declared.location.FrameWord.{FrameWord}
use Rattle.ppm_code.specs.Strands.{Result as Outcome, entry_of}
use Rattle.ppm_tree.specs.declared.named.Named.{Named}
use Rattle.ppm_tree.specs.Tree.{Expression, Side, Statement, Block, Nil, Then, Let, Assign, Put, If, While, Split, Each, Give, Procedure, ProgramTree}
use Rattle.ppm_tree.specs.Tree as tree
use Rattle.ppm_tree.specs.Parts.{nodes}
use Rattle.ppm_tree.specs.Values.{holds}
use Rattle.ppm_tree.specs.State.{TrapAt, then_with, Region, Locals, Frame, with_locals, Arrays, split_at}
use Rattle.ppm_tree.specs.State.{evaluate, procedure_named, entered, both_entered}
use Rattle.ppm_tree.specs.Meaning.{Whole, Counts, none, End, Ended, Trapped, arrays_of, assigned, stored, chosen, returned, joined}
use Rattle.ppm_tree.specs.Meaning.{with_element, with_parts as parts_frame, Runs, Follows, Loops, Enters, Sweeps, Done, Lets, Assigns, Puts}
use Rattle.ppm_tree.specs.Meaning.{Ifs, IfTraps, Whiles, Calls, CallTraps, Forks, ForkTraps, Splits, SplitTraps, Eaches, GoesOn, Stops}
use Rattle.ppm_tree.specs.Meaning.{TestFails, TestTraps, Turns, TurnTraps, Enter, Swept, Sweep, SweepStops}
use Rattle.ppm_regions.specs.Scope.{Scope, scope_of, split_scope, each_scope, lets_of}
use Rattle.ppm_ownership.specs.Coming.{callee, InCall, InLeft, InRight}
use Rattle.ppm_cut_code.specs.Layout.{Layout, target_of, parameter_layout, caught}
use Rattle.ppm_cut_code.specs.Fits.{FitsExpression, FitsSide}
use Rattle.ppm_cut_code.specs.Numbers.{behind, end_of, hidden_behind, element_block, halving, halved}
use Rattle.ppm_cut_code.specs.Slots.{named_slots, procedure_slots, hidden_named_slots, hidden_slots, frame_words, fork_words}
use Rattle.ppm_cut_code.specs.Standing.{HasStatement, HasBlock, HasBody}
use Rattle.ppm_cut_code.specs.Statements.{Last, OnTo, Gives, with_lets, with_parts, hidden_layout, number_of}
use Rattle.ppm_cut_code.proofs.RegionWords.{lengths_of, offset_of}
use Rattle.ppm_cut_correct.proofs.ChainLemmas.{Cost, cost, both_costs, Chain, chain_then}
use Rattle.ppm_cut_correct.proofs.Holding.{CodeFrame, Shows, Holds, sweep_frame, which, at_work, waits, strands, CodeTree}
use Rattle.ppm_cut_correct.proofs.Doing.{AreSmall}
use Rattle.ppm_cut_correct.proofs.Places.{Place, behind_place, while_place, split_place, each_place, each_few}
use Rattle.ppm_cut_correct.proofs.Given.{Given, words_of, budget}
use Rattle.ppm_cut_correct.proofs.SmallLemmas.{small_while}
use Rattle.ppm_cut_correct.proofs.ChainLemmas.{Long, long_none, long_then, long_under, long_left, long_right, chain_left}
use Rattle.ppm_cut_correct.proofs.SweepLemmas.{first_arrays, part_in_hand, small_word}
use Rattle.ppm_cut_correct.proofs.Forward.{runs, loops, enters, sweeps}
use Rattle.ppm_cut_correct.proofs.Constructs.{ForkBegun, each_begun, not_plain, split_low, small_first, chosen_hidden, chosen_place, chosen_has}
use Rattle.ppm_cut_correct.proofs.Constructs.{callee_place, each_inside, let_made, assign_made, put_made, if_tested, if_made, call_begun, call_made}
use Rattle.ppm_cut_correct.proofs.Constructs.{fork_begun, fork_made, split_tried, split_made, each_made, loop_tested, turn_made}
use Rattle.ppm_cut_correct.proofs.SweepLemmas.{over_of, swept as swept_all}
use Rattle.ppm_cut_correct.proofs.ReachLemmas.{returned_over, Reached, Returned, reaches_same}

-- one stretch of an `each` after another is a stretch
joined_sweeps : (procedures : List Procedure) {i x : Named} {s : Block} {q : Region} {f : Frame} {n m : ℕ} {c : Arrays} {k : Counts} {z : End Locals}
    → Sweeps Whole procedures i x s q f n m c k z → (n' m' total : ℕ) → n' ≡ n + m → total ≡ m + m' → {k' : Counts} {z' : End Locals}
    → Sweeps Whole procedures i x s q f n' m' (arrays_of z) k' z' → (j : Counts) × (y : End Locals) × Sweeps Whole procedures i x s q f n total c j y
joined_sweeps procedures (Swept i x s q f n c) n' m' total e is {k' = k'} {z' = z'} w = (
  k',
  z',
  subst₂ (λ (n m : ℕ). Sweeps Whole procedures i x s q f n m c k' z') (let same : n' ≡ n = omega (arith, e) in same)
      (let same : m' ≡ total = omega (arith, is) in same) w,
)
joined_sweeps procedures (SweepStops i x s q f n m c c' stop plain d) n' m' total e is w = absurd (not_plain plain)
joined_sweeps procedures (Sweep i x s q f n m c {y = y} {z = z} d on more) n' m' total e is {k' = k'} {z' = z'} w =
    let w' = subst (λ (c : Arrays). Sweeps Whole procedures i x s q f n' m' c k' z') (first_arrays y z) w in
    let r = joined_sweeps procedures more n' m' (m + m') (omega (arith, e)) refl w' in
    let same : suc (m + m') ≡ total = omega (arith, is) in
    subst (λ (total : ℕ). (j : Counts) × (y : End Locals) × Sweeps Whole procedures i x s q f n total c j y) same
    (_, _, Sweep i x s q f n (m + m') c d refl r.2)

module _ (t : ProgramTree) (code : CodeParts) (facts : Given t code) where
  abbrev lens : List ℕ
  lens = lengths_of t.arrays

  abbrev ps : List Procedure
  ps = t.procedures

  abbrev here : Code CodeFrame Outcome
  here = strands lens code

  abbrev Far : ℕ → (FrameWord → ℕ) → ℕ → Words → Type 0
  Far n own at a = Long here n (Strand (at_work own at)) a

  -- a block, a loop, a procedure has an end, or its code goes on for so many capsules
  abbrev pub OfBlock : ℕ → Block → Frame → Arrays → (FrameWord → ℕ) → ℕ → Words → Type 0
  OfBlock n b f arrays own at a = ((k : Counts) × (z : End Locals) × Runs Whole ps b f arrays k z) ⊎ Far n own at a

  abbrev OfLoop : ℕ → Expression → Block → Frame → Arrays → (FrameWord → ℕ) → ℕ → Words → Type 0
  OfLoop n e s f arrays own at a = ((k : Counts) × (z : End Locals) × Loops Whole ps e s f arrays k z) ⊎ Far n own at a

  abbrev pub OfBody : ℕ → Procedure → Frame → Arrays → (FrameWord → ℕ) → ℕ → Words → Type 0
  OfBody n p f arrays own at a = ((k : Counts) × (z : End ℤ) × Enters Whole ps p f arrays k z) ⊎ Far n own at a

  -- all of them, for one number of capsules
  pub record Goes (n : ℕ) : Type 0 where
    pub block : (b : Block) (f : Frame) (arrays : Arrays) (scope : Scope) (layout : Layout) (spare at h : ℕ) (last : Last) (own : FrameWord → ℕ)
        (a : Words)
        → Place t scope layout spare b f → HasBlock ps code spare layout at h last b → Holds lens scope layout f own → Shows lens a arrays
        → OfBlock n b f arrays own at a
    pub loop : (e : Expression) (s : Block) (f : Frame) (arrays : Arrays) (scope : Scope) (layout : Layout) (spare at h : ℕ) (own : FrameWord → ℕ)
        (a : Words)
        → ((l : Locals) → Place t scope layout spare s (with_locals f l)) → FitsExpression scope layout e → AreSmall (nodes e)
        → HasStatement ps code spare layout at h (While e s) → Holds lens scope layout f own → Shows lens a arrays
        → OfLoop n e s f arrays own at a

  less : {n : ℕ} {u : CodeTree lens code} {a : Words} → Long here (suc n) u a → Long here n u a
  less l = (l.0, l.1, l.2, l.3, omega (arith, l.4))

  -- after what costs nothing known
  after : {n : ℕ} {k : Cost} {u v : CodeTree lens code} {a b : Words} → 1 ≤ k.least → Chain here k u a v b → Long here n v b → Long here (suc n) u a
  after {n = n} some p l = long_then here n some p l

  module _ (n : ℕ) (p : Goes n) where
    -- a procedure
    of_body : (x : List ℕ) (g : Frame) (arrays : Arrays) (own : FrameWord → ℕ) (a : Words)
        → Place t (scope_of (procedure_named ps x)) (parameter_layout (procedure_named ps x).parameters) (named_slots (procedure_named ps x))
        (procedure_named ps x).body g
        → HasBody ps code (number_of ps x) (procedure_named ps x)
        → Holds lens (scope_of (procedure_named ps x)) (parameter_layout (procedure_named ps x).parameters) g own → Shows lens a arrays
        → OfBody n (procedure_named ps x) g arrays own (entry_of code (number_of ps x)) a
    of_body x g arrays own a place has held shows =
        let q = procedure_named ps x in
        elim (p.block q.body g arrays (scope_of q) (parameter_layout q.parameters) (named_slots q) (entry_of code (number_of ps x)) has.h
        (Gives q.give) own a place has.body held shows) [
          | inl d ↦ inl (_, _, Enter q g arrays d.2)
          | inr l ↦ inr l
        ]

    module _ (scope : Scope) (layout : Layout) (spare at h : ℕ) (last : Last) (b : Block) (f : Frame) (own : FrameWord → ℕ) (a : Words)
        (arrays : Arrays)
        (held : Holds lens scope layout f own) (shows : Shows lens a arrays) where
      abbrev Of : Statement → Type 0
      Of s = OfBlock (suc n) (Then s b) f arrays own at a

      abbrev Here : Statement → Type 0
      Here s = Place t scope layout spare (Then s b) f

      abbrev Stands : Statement → Type 0
      Stands s = HasBlock ps code spare layout at h last (Then s b)

      -- what stands after a statement that has been run
      rest : (s : Statement) (j : Cost) (y : End Locals) → 1 ≤ j.least → Here s → Stands s
          → Reached lens code (scope ++ lets_of s) (with_lets layout s) f j (Strand (at_work own at)) a (behind s at) y
          → ((k : Counts) × (z : End Locals) × Follows Whole ps b f y k z) ⊎ Far (suc n) own at a
      rest s j (Trapped stop c) some place has q = inl (none, Trapped stop c, Stops b f stop c)
      rest s j (Ended l c) some place has q =
          let m = q.made in
          elim (p.block b (with_locals f l) c (scope ++ lets_of s) (with_lets layout s) spare (behind s at) (hidden_behind s h) last m.0 m.1
          (behind_place t scope layout spare s b f l place) has.1 m.2 m.3) [
            | inl d ↦ inl (d.0, d.1, GoesOn b f l c d.2)
            | inr l ↦ inr (after some m.4 l)
          ]

      of_let : (x : Named) (e : Expression) → Here (Let x e) → Stands (Let x e) → Of (Let x e)
      of_let x e place has =
          elim (rest (Let x e) (cost 1 1 0 0) (assigned x e f arrays) (omega arith) place has
          (let_made t code facts scope layout spare at h last b f own a arrays held shows x e place has)) [
            | inl d ↦ inl (_, _, Lets x e b f arrays d.2)
            | inr l ↦ inr l
          ]

      of_assign : (x : Named) (e : Expression) → Here (Assign x e) → Stands (Assign x e) → Of (Assign x e)
      of_assign x e place has =
          elim (rest (Assign x e) (cost 1 2 0 0) (assigned x e f arrays) (omega arith) place has
          (assign_made t code facts scope layout spare at h last b f own a arrays held shows x e place has)) [
            | inl d ↦ inl (_, _, Assigns x e b f arrays d.2)
            | inr l ↦ inr l
          ]

      of_put : (x : Named) (i e : Expression) → Here (Put x i e) → Stands (Put x i e) → Of (Put x i e)
      of_put x i e place has =
          elim (rest (Put x i e) (cost 1 2 0 0) (stored x i e f arrays) (omega arith) place has
          (put_made t code facts scope layout spare at h last b f own a arrays held shows x i e place has)) [
            | inl d ↦ inl (_, _, Puts x i e b f arrays d.2)
            | inr l ↦ inr l
          ]

      of_if : (e : Expression) (s u : Block) → Here (If e s u) → Stands (If e s u) → (r : Result ℤ TrapAt) → evaluate f arrays e ≡ r → Of (If e s u)
      of_if e s u place has (Err stop) is = inl (_, _, IfTraps e s u b f arrays stop is)
      of_if e s u place has (Ok v) is =
          let first = suc (end_of s (suc at)) in
          let c = holds v in
          let test = if_tested t code facts scope layout spare at h last b f own a arrays held shows e s u place has (Ok v) is in
          let stands = chosen_has t code facts c spare layout at h e s u has.0 in
          let inside = chosen_place t code facts c scope layout spare e s u b f place in
          elim (p.block (chosen c s u) f arrays scope layout spare (which c (suc at) first) (chosen_hidden t code facts c s h)
          (OnTo (suc (end_of u first))) own a inside stands held shows) [
            | inr l ↦ inr (after (omega arith) test l)
            | inl d ↦ behind_it d.0 d.1 d.2 test stands inside
          ]
        where
          behind_it : (j : Counts) (y : End Locals) → Runs Whole ps (chosen (holds v) s u) f arrays j y
              → Chain here (cost 1 1 0 0) (Strand (at_work own at)) a (Strand (at_work own (which (holds v) (suc at) (suc (end_of s (suc at)))))) a
              → HasBlock ps code spare layout (which (holds v) (suc at) (suc (end_of s (suc at)))) (chosen_hidden t code facts (holds v) s h)
              (OnTo (suc (end_of u (suc (end_of s (suc at)))))) (chosen (holds v) s u) → Place t scope layout spare (chosen (holds v) s u) f
              → Of (If e s u)
          behind_it j y d test stands inside =
              let first = suc (end_of s (suc at)) in
              let c = holds v in
              let body = runs t code facts d scope layout spare (which c (suc at) first) (chosen_hidden t code facts c s h)
              (OnTo (suc (end_of u first))) own a inside stands held shows in
              elim (rest (If e s u) (cost 1 (2 * j.turns + 2) j.forks (words_of t j)) y (omega arith) place has
              (if_made t code facts scope layout spare at h last b f own a arrays held shows e s u c j y has test body)) [
                | inl w ↦ inl (_, _, Ifs e s u b f arrays v is d w.2)
                | inr l ↦ inr l
              ]

      of_call : (s : Side) → Here (tree.Call s) → Stands (tree.Call s) → (r : Result Frame TrapAt) → entered ps f arrays s ≡ r → Of (tree.Call s)
      of_call s place has (Err stop) is = inl (_, _, CallTraps s b f arrays stop is)
      of_call s place has (Ok g) is =
          let x = s.callee.name in
          let q = call_begun t code facts scope layout spare at h last b f own a arrays held shows s g place has is in
          let inner = callee_place t code facts s g (InCall place.p place.g scope s b f g arrays is place.comes) in
          let stands = facts.stands.each x place.fits.0.callee in
          elim (of_body x g arrays q.callee_own a inner stands q.callee_holds shows) [
            | inr l ↦ inr (after (omega arith) q.chain (long_under here (waits own (suc at) None (target_of layout s.target)) n l))
            | inl d ↦ behind_it d.0 d.1 d.2
          ]
        where
          behind_it : (j : Counts) (y : End ℤ) → Enters Whole ps (procedure_named ps s.callee.name) g arrays j y → Of (tree.Call s)
          behind_it j y d =
              let x = s.callee.name in
              let q = call_begun t code facts scope layout spare at h last b f own a arrays held shows s g place has is in
              let inner = callee_place t code facts s g (InCall place.p place.g scope s b f g arrays is place.comes) in
              let back = enters t code facts d (number_of ps x) q.callee_own a inner (facts.stands.each x place.fits.0.callee) (facts.fits x)
              (facts.modest x) q.callee_holds shows in
              elim (rest (tree.Call s) (cost 1 (2 * j.turns + 1) j.forks (frame_words (procedure_slots (procedure_named ps x)) + words_of t j))
              (returned s.target f y) (omega arith) place has
              (call_made t code facts scope layout spare at h last b f own a arrays held shows s g j y place q back)) [
                | inl w ↦ inl (_, _, Calls s b f g arrays is d w.2)
                | inr l ↦ inr l
              ]

      of_split : (line : ℕ) (r : Named) (e : Expression) (x y : Named) (s : Block) → Here (Split line r e x y s) → Stands (Split line r e x y s)
          → (v : Result ℕ TrapAt)
          → then_with (evaluate f arrays e) (split_at line (f.regions r.name)) ≡ v → Of (Split line r e x y s)
      of_split line r e x y s place has (Err stop) is = inl (_, _, SplitTraps line r e x y s b f arrays stop is)
      of_split line r e x y s place has (Ok m) is =
          let q = split_tried t code facts scope layout spare at h last b f own a arrays held shows line r e x y s place has (Ok m) is in
          let inside = split_place t scope layout spare line r e x y s b f m (split_low line (f.regions r.name) (evaluate f arrays e) m is) place in
          elim (p.block s (parts_frame f (f.regions r.name) m x y) arrays (split_scope scope r x y) (with_parts layout x y) spare (suc at) h
          (OnTo (suc (end_of s (suc at)))) q.0 a inside has.0.1 q.1 shows) [
            | inr l ↦ inr (after (omega arith) q.2 l)
            | inl d ↦ behind_it d.0 d.1 d.2
          ]
        where
          behind_it : (j : Counts) (u : End Locals) → Runs Whole ps s (parts_frame f (f.regions r.name) m x y) arrays j u → Of (Split line r e x y s)
          behind_it j u d =
              let q = split_tried t code facts scope layout spare at h last b f own a arrays held shows line r e x y s place has (Ok m) is in
              let inside = split_place t scope layout spare line r e x y s b f m
              (split_low line (f.regions r.name) (evaluate f arrays e) m is) place in
              let body = runs t code facts d (split_scope scope r x y) (with_parts layout x y) spare (suc at) h
              (OnTo (suc (end_of s (suc at)))) q.0 a inside has.0.1 q.1 shows in
              elim (rest (Split line r e x y s) (cost 1 (2 * j.turns + 2) j.forks (words_of t j)) u (omega arith) place has
              (split_made t code facts scope layout spare at h last b f own a arrays held shows line r e x y s m j u q.0 place has q.2 body)) [
                | inl w ↦ inl (_, _, Splits line r e x y s b f arrays m is d w.2)
                | inr l ↦ inr l
              ]

      -- a fork whose left branch has an end
      of_fork : (s u : Side) → Here (tree.Fork s u) → Stands (tree.Fork s u) → (r : Result (Frame × Frame) TrapAt) → both_entered ps f arrays s u ≡ r
          → Of (tree.Fork s u)
      of_fork s u place has (Err stop) is = inl (_, _, ForkTraps s u b f arrays stop is)
      of_fork s u place has (Ok (g, g')) is =
          elim (of_body m g arrays begun.left_own a first (facts.stands.each m sides.0.callee) begun.left_holds shows) [
            | inr l ↦ inr (after (omega arith) begun.chain
                (long_left here waiting (Strand (at_work begun.right_own (entry_of code (number_of ps k)))) n l))
            | inl d ↦ of_right d.0 d.1 d.2
          ]
        where
          m : List ℕ
          m = s.callee.name

          k : List ℕ
          k = u.callee.name

          sides : FitsSide ps scope layout s × FitsSide ps scope layout u
          sides = place.fits.0

          begun : ForkBegun t code facts scope layout spare at h last b f own a arrays held shows s u g g'
          begun = fork_begun t code facts scope layout spare at h last b f own a arrays held shows s u g g' place has is

          waiting : CodeFrame
          waiting = waits own (suc at) (target_of layout s.target) (target_of layout u.target)

          first : Place t (scope_of (callee t s)) (parameter_layout (callee t s).parameters) (named_slots (callee t s)) (callee t s).body g
          first = callee_place t code facts s g (InLeft place.p place.g scope s u b f g g' arrays is place.comes)

          second : Place t (scope_of (callee t u)) (parameter_layout (callee t u).parameters) (named_slots (callee t u)) (callee t u).body g'
          second = callee_place t code facts u g' (InRight place.p place.g scope s u b f g g' arrays is place.comes)

          left_back : (i : Counts) (x : End ℤ) → Enters Whole ps (procedure_named ps m) g arrays i x
              → Returned lens code (budget t i) (Strand (at_work begun.left_own (entry_of code (number_of ps m)))) a x
          left_back i x l = enters t code facts l (number_of ps m) begun.left_own a first (facts.stands.each m sides.0.callee) (facts.fits m)
              (facts.modest m) begun.left_holds shows

          of_both : (i j : Counts) (x y : End ℤ) → Enters Whole ps (procedure_named ps m) g arrays i x
              → Enters Whole ps (procedure_named ps k) g' (arrays_of x) j y → Of (tree.Fork s u)
          of_both i j x y l r =
              let more : (c : Words) → Shows lens c (arrays_of x)
              → Returned lens code (budget t j) (Strand (at_work begun.right_own (entry_of code (number_of ps k)))) c y =
              λ c shown. enters t code facts r (number_of ps k) begun.right_own c second (facts.stands.each k sides.1.callee) (facts.fits k)
              (facts.modest k) begun.right_holds shown in
              elim (rest (tree.Fork s u) (cost 1 (2 * i.turns + 2 * j.turns + 1) (i.forks + j.forks + 1)
              (fork_words (procedure_slots (procedure_named ps m)) (procedure_slots (procedure_named ps k)) + words_of t i + words_of t j))
              (joined s.target u.target f x y)
              (omega arith) place has (fork_made t code facts scope layout spare at h last b f own a arrays held shows s u g g' i j x y place begun
              (left_back i x l) more)) [
                | inl w ↦ inl (_, _, Forks s u b f g g' arrays is l refl r w.2)
                | inr q ↦ inr q
              ]

          -- after the left branch
          of_right : (i : Counts) (x : End ℤ) → Enters Whole ps (procedure_named ps m) g arrays i x → Of (tree.Fork s u)
          of_right i x l =
              let over = returned_over lens code x (left_back i x l) in
              elim (of_body k g' (arrays_of x) begun.right_own over.behind second (facts.stands.each k sides.1.callee) begun.right_holds over.shows) [
                | inr q ↦ inr
                    (after (omega arith) (chain_then here begun.chain
                    (chain_left here waiting (Strand (at_work begun.right_own (entry_of code (number_of ps k)))) over.chain))
                    (long_right here waiting over.outcome n q))
                | inl d ↦ of_both i d.0 x d.1 l d.2
              ]

      of_while : (e : Expression) (s : Block) → Here (While e s) → Stands (While e s) → OfLoop (suc n) e s f arrays own at a → Of (While e s)
      of_while e s place has (inr l) = inr l
      of_while e s place has (inl (j, y, d)) =
          let small = small_while e s (small_first t code facts (While e s) b place) in
          let q = loops t code facts d scope layout spare at h own a
          (λ l. while_place t scope layout spare e s b f l place) place.fits.0.0 small has.0 held shows in
          elim (rest (While e s) (cost 1 (2 * j.turns) j.forks (words_of t j)) y (omega arith) place has (reaches_same lens code y q)) [
            | inl w ↦ inl (_, _, Whiles e s b f arrays d w.2)
            | inr l ↦ inr l
          ]

      module _ (i x r : Named) (s : Block) (place : Here (Each i x r s)) (has : Stands (Each i x r s)) where
        abbrev whole : Region
        whole = f.regions r.name

        abbrev entry : ℕ
        entry = entry_of code h

        abbrev inner : Scope
        inner = each_scope scope r i x

        abbrev hidden : Layout
        hidden = hidden_layout layout i x s

        abbrev OfSweep : (n' m : ℕ) → Arrays → (FrameWord → ℕ) → Words → Type 0
        OfSweep n' m c own' a' = ((k : Counts) × (z : End Locals) × Sweeps Whole ps i x s whole f n' m c k z) ⊎ Far n own' entry a'

        abbrev few : length (caught layout s) ≤ 24
        few = each_few t scope layout spare i x r s b f place

        abbrev inside : offset_of lens whole.array + whole.start + whole.length ≤ 4194304
        inside = each_inside t code facts scope layout spare i x r s b f place

        -- so many elements, by halves
        of_sweep : (fuel m n' : ℕ) (c : Arrays) (own' : FrameWord → ℕ) (a' : Words) → m ≤ fuel → n' + m ≤ whole.length
            → Holds lens inner hidden (sweep_frame f whole n' m i x) own' → Shows lens a' c → OfSweep n' m c own' a'
        of_sweep fuel zero n' c own' a' most low held' shows' = inl (_, _, Swept i x s whole f n' c)
        of_sweep fuel (suc zero) n' c own' a' most low held' shows' =
            let slot = part_in_hand t code facts spare scope layout at h f i x r s has.0 place.fits.0 place.once
            few inside n' 1 own' held' in
            let entering = facts.does.entry scope layout f own' a' c entry entry _ 1 has.0.1 slot (omega arith) held'.value in
            let there = each_place t scope layout spare i x r s b f n' (omega (arith, low)) place in
            elim (p.block s (with_element f whole n' i x) c inner hidden (hidden_named_slots (length (caught layout s)) s) (element_block entry)
            (suc h) (Gives None) own' a' there has.0.5 held' shows') [
              | inl d ↦ inl (_, _, Sweep i x s whole f n' 0 c d.2 refl (Swept i x s whole f (suc n') (arrays_of d.1)))
              | inr l ↦ inr (less (after (omega arith) entering l))
            ]
        of_sweep zero (suc (suc m)) n' c own' a' most low held' shows' = absurd (omega (arith, most))
        of_sweep (suc fuel) (suc (suc m)) n' c own' a' most low held' shows' =
            elim (of_sweep fuel first n' c forks.0 a' (omega (arith, most)) (omega (arith, low)) forks.2 shows') [
              | inr l ↦ inr (less (after (omega arith) begins (long_left here waiting (Strand (at_work forks.1 entry)) n l)))
              | inl d ↦ of_second (λ c own'' a'' held'' shows''. of_sweep fuel (suc (suc m) - suc (suc m) / 2) (n' + suc (suc m) / 2) c own'' a''
                  (omega (arith, most)) (omega (arith, low)) held'' shows'') d.0 d.1 d.2
            ]
          where
            first : ℕ
            first = suc (suc m) / 2

            waiting : CodeFrame
            waiting = waits own' (halved entry) None None

            forks : (left right : FrameWord → ℕ) × Holds lens inner hidden (sweep_frame f whole n' (suc (suc m) / 2) i x) left
                × Holds lens inner hidden (sweep_frame f whole (n' + suc (suc m) / 2) (suc (suc m) - suc (suc m) / 2) i x) right
                × Chain here (cost 1 1 1 (fork_words (hidden_slots (length (caught layout s)) s) (hidden_slots (length (caught layout s)) s)))
                (Strand (at_work own' (halving entry))) a'
                (Forking (waits own' (halved entry) None None) (Strand (at_work left entry)) (Strand (at_work right entry))) a'
            forks =
                let fits = place.fits.0 in
                let low_word = small_word t code facts spare scope layout at h f i x r s has.0 fits place.once few inside n' (suc (suc m)) low in
                facts.does.halving scope layout f own' a' c entry entry i x r s h whole n' (suc (suc m)) has.0.2 has.0.4 refl held'
                fits.3 fits.4 fits.5 few low_word (omega (arith, low, inside))

            begins : Chain here (both_costs (cost 1 1 0 0)
                (cost 1 1 1 (fork_words (hidden_slots (length (caught layout s)) s) (hidden_slots (length (caught layout s)) s))))
                (Strand (at_work own' entry)) a'
                (Forking (waits own' (halved entry) None None) (Strand (at_work forks.0 entry)) (Strand (at_work forks.1 entry))) a'
            begins =
                let slot = part_in_hand t code facts spare scope layout at h f i x r s has.0 place.fits.0 place.once few inside n'
                (suc (suc m)) own' held' in
                chain_then here (facts.does.entry scope layout f own' a' c entry entry _ (suc (suc m)) has.0.1 slot
                (omega (arith, low, inside)) held'.value) forks.4

            -- after the first half
            of_second : ((c : Arrays) (own'' : FrameWord → ℕ) (a'' : Words)
                → Holds lens inner hidden (sweep_frame f whole (n' + suc (suc m) / 2) (suc (suc m) - suc (suc m) / 2) i x) own''
                → Shows lens a'' c → OfSweep (n' + suc (suc m) / 2) (suc (suc m) - suc (suc m) / 2) c own'' a'') → (k : Counts) (z : End Locals)
                → Sweeps Whole ps i x s whole f n' (suc (suc m) / 2) c k z → OfSweep n' (suc (suc m)) c own' a'
            of_second again k z d =
                let fits = place.fits.0 in
                let leaves = sweeps t code facts d scope layout spare at h r b place has.0 refl (omega (arith, low)) in
                let over = swept_all t code facts spare scope layout at h f i x r s has.0 fits place.once
                few inside
                (suc (suc m) / 2) n' c forks.0 a' (omega (arith, low)) leaves forks.2 shows' in
                elim (again (arrays_of z) forks.1 over.behind forks.3 over.shows) [
                  | inr l ↦ inr
                      (less
                      (after (omega arith) (chain_then here begins
                      (chain_left here (waits own' (halved entry) None None) (Strand (at_work forks.1 entry)) over.chain))
                      (long_right here (waits own' (halved entry) None None) (over_of z) n l)))
                  | inl e ↦ inl (joined_sweeps ps d (n' + suc (suc m) / 2) (suc (suc m) - suc (suc m) / 2) (suc (suc m)) refl (omega arith) e.2)
                ]

        of_each : Of (Each i x r s)
        of_each =
            let begun = each_begun t code facts scope layout spare at h last b f own a arrays held shows i x r s place has in
            elim (of_sweep whole.length whole.length 0 arrays begun.0 a (omega arith) (omega arith) begun.1 shows) [
              | inr l ↦ inr (after (omega arith) begun.2 (long_under here (waits own (suc at) None None) n l))
              | inl d ↦ behind_it d.0 d.1 d.2
            ]
          where
            behind_it : (j : Counts) (y : End Locals) → Sweeps Whole ps i x s whole f 0 whole.length arrays j y → Of (Each i x r s)
            behind_it j y d =
                let leaves = sweeps t code facts d scope layout spare at h r b place has.0 refl (omega arith) in
                let slots = hidden_slots (length (caught layout s)) s in
                elim
                (rest (Each i x r s) (cost 1 (2 * j.turns + 2) (whole.length - 1 + j.forks)
                (frame_words slots + ((whole.length - 1) * fork_words slots slots + words_of t j))) y (omega arith) place has
                (each_made t code facts scope layout spare at h last b f own a arrays held shows i x r s place has j y leaves)) [
                  | inl w ↦ inl (_, _, Eaches i x r s b f arrays d w.2)
                  | inr l ↦ inr l
                ]

    -- a loop for one capsule more
    next_loop : (e : Expression) (s : Block) (f : Frame) (arrays : Arrays) (scope : Scope) (layout : Layout) (spare at h : ℕ) (own : FrameWord → ℕ)
        (a : Words)
        → ((l : Locals) → Place t scope layout spare s (with_locals f l)) → FitsExpression scope layout e → AreSmall (nodes e)
        → HasStatement ps code spare layout at h (While e s) → Holds lens scope layout f own → Shows lens a arrays
        → (r : Result ℤ TrapAt) → evaluate f arrays e ≡ r → OfLoop (suc n) e s f arrays own at a
    next_loop e s f arrays scope layout spare at h own a place fits small has held shows (Err stop) is = inl (_, _, TestTraps e s f arrays stop is)
    next_loop e s f arrays scope layout spare at h own a place fits small has held shows (Ok v) is =
        choose (holds v) refl (loop_tested t code facts scope layout spare at h e s f own a arrays place fits small has held shows (Ok v) is)
      where
        turn : holds v ≡ true → Chain here (cost 1 1 0 0) (Strand (at_work own at)) a (Strand (at_work own (suc at))) a
            → (j : Counts) (y : End Locals)
            → Runs Whole ps s f arrays j y → OfLoop (suc n) e s f arrays own at a
        turn passes test j (Trapped stop c) d = inl (_, _, TurnTraps e s f arrays c v stop is passes d)
        turn passes test j (Ended l c) d =
            let body = runs t code facts d scope layout spare (suc at) h (OnTo at) own a (place f.locals) has.1 held shows in
            let m = (turn_made t code facts scope layout spare at h e s f own a j (Ended l c) has test body).made in
            elim (p.loop e s (with_locals f l) c scope layout spare at h m.0 m.1 place fits small has m.2 m.3) [
              | inl w ↦ inl (_, _, Turns e s f arrays c v l is passes d w.2)
              | inr q ↦ inr (after (omega arith) m.4 q)
            ]

        choose : (c : Bool) → holds v ≡ c → Chain here (cost 1 1 0 0) (Strand (at_work own at)) a
            (Strand (at_work own (which (holds v) (suc at) (suc (end_of s (suc at)))))) a
            → OfLoop (suc n) e s f arrays own at a
        choose false fails test = inl (_, _, TestFails e s f arrays v is fails)
        choose true passes test =
            let to = subst (λ (c : Bool). Chain here (cost 1 1 0 0) (Strand (at_work own at)) a
            (Strand (at_work own (which c (suc at) (suc (end_of s (suc at)))))) a) passes test in
            elim (p.block s f arrays scope layout spare (suc at) h (OnTo at) own a (place f.locals) has.1 held shows) [
              | inl d ↦ turn passes to d.0 d.1 d.2
              | inr l ↦ inr (after (omega arith) to l)
            ]

    -- a block for one capsule more
    next_block : (b : Block) (f : Frame) (arrays : Arrays) (scope : Scope) (layout : Layout) (spare at h : ℕ) (last : Last) (own : FrameWord → ℕ)
        (a : Words)
        → Place t scope layout spare b f → HasBlock ps code spare layout at h last b → Holds lens scope layout f own → Shows lens a arrays
        → OfBlock (suc n) b f arrays own at a
    next_block Nil f arrays scope layout spare at h last own a place has held shows = inl (_, _, Done f arrays)
    next_block (Then (Let x e) b) f arrays scope layout spare at h last own a place has held shows =
        of_let scope layout spare at h last b f own a arrays held shows x e place has
    next_block (Then (Assign x e) b) f arrays scope layout spare at h last own a place has held shows =
        of_assign scope layout spare at h last b f own a arrays held shows x e place has
    next_block (Then (Put x i e) b) f arrays scope layout spare at h last own a place has held shows =
        of_put scope layout spare at h last b f own a arrays held shows x i e place has
    next_block (Then (If e s u) b) f arrays scope layout spare at h last own a place has held shows =
        of_if scope layout spare at h last b f own a arrays held shows e s u place has (evaluate f arrays e) refl
    next_block (Then (While e s) b) f arrays scope layout spare at h last own a place has held shows =
        of_while scope layout spare at h last b f own a arrays held shows e s place has
        (next_loop e s f arrays scope layout spare at h own a (λ l. while_place t scope layout spare e s b f l place) place.fits.0.0
        (small_while e s (small_first t code facts (While e s) b place)) has.0 held shows (evaluate f arrays e) refl)
    next_block (Then (tree.Call s) b) f arrays scope layout spare at h last own a place has held shows =
        of_call scope layout spare at h last b f own a arrays held shows s place has (entered ps f arrays s) refl
    next_block (Then (tree.Fork s u) b) f arrays scope layout spare at h last own a place has held shows =
        of_fork scope layout spare at h last b f own a arrays held shows s u place has (both_entered ps f arrays s u) refl
    next_block (Then (Split line r e x y s) b) f arrays scope layout spare at h last own a place has held shows =
        of_split scope layout spare at h last b f own a arrays held shows line r e x y s place has
        (then_with (evaluate f arrays e) (split_at line (f.regions r.name))) refl
    next_block (Then (Each i x r s) b) f arrays scope layout spare at h last own a place has held shows =
        of_each scope layout spare at h last b f own a arrays held shows i x r s place has

  -- for each number of capsules
  pub progress : (n : ℕ) → Goes n
  progress zero = record {
    block = λ b f arrays scope layout spare at h last own a place has held shows. inr (long_none here (Strand (at_work own at)) a);
    loop = λ e s f arrays scope layout spare at h own a place fits small has held shows. inr (long_none here (Strand (at_work own at)) a);
  }
  progress (suc n) = record {
    block = next_block n (progress n);
    loop = λ e s f arrays scope layout spare at h own a place fits small has held shows.
        next_loop n (progress n) e s f arrays scope layout spare at h own a place fits small has held shows (evaluate f arrays e) refl;
  }
