-- What a block means its code does: a chain of steps in turn, by recursion on the run.
use Rattle.std.proofs.Common.{◌≡◌, ◌≤◌, ℕ, ℤ, suc, ◌+◌, ◌-◌, ◌*◌, Bool, List, ◌++◌, None, Ok, Err, length, refl, sym, subst, arith}
use Rattle.ppm_strands.specs.Tree.{Words, Code, Strand, Over}
use Rattle.ppm_code.specs.declared.code.CodeParts.{CodeParts}
use Rattle.ppm_code.specs.declared.location.FrameWord.{FrameWord}
use Rattle.ppm_code.specs.Strands.{Result as Outcome, Trapped as TrappedAt, entry_of}
use Rattle.ppm_tree.specs.declared.named.Named.{Named}
use Rattle.ppm_tree.specs.Tree.{Expression, Side, Statement, Block, Nil, Then, Let, Assign, Put, If, While, Split, Each, Give, Procedure, ProgramTree}
use Rattle.ppm_tree.specs.Tree as tree
use Rattle.ppm_tree.specs.Parts.{nodes}
use Rattle.ppm_tree.specs.Values.{holds}
use Rattle.ppm_tree.specs.State.{TrapAt, Region, Locals, Frame, with_locals, Arrays, evaluate, procedure_named}
use Rattle.ppm_tree.specs.Meaning.{Plain, Whole, Counts, spent, none, both, began, forked, swept, End, Ended, Trapped, arrays_of, assigned, stored}
use Rattle.ppm_tree.specs.Meaning.{chosen, returned, joined, first_trap, given, give_turn, with_element, Runs, Follows, Loops, Enters, Sweeps, Done}
use Rattle.ppm_tree.specs.Meaning.{Lets, Assigns, Puts, Ifs, IfTraps, Whiles, Calls, CallTraps, Forks, ForkStops, ForkTraps, Splits, SplitTraps}
use Rattle.ppm_tree.specs.Meaning.{Eaches, GoesOn, Stops, TestFails, TestTraps, Turns, TurnTraps, Enter, Swept, Sweep, SweepStops}
use Rattle.ppm_tree.specs.Meaning as run
use Rattle.ppm_regions.specs.Scope.{Scope, scope_of, split_scope, each_scope, lets_of, scope_behind}
use Rattle.ppm_ownership.specs.Coming.{InCall, InLeft, InRight}
use Rattle.ppm_cut_code.specs.Layout.{Layout, parameter_layout, caught}
use Rattle.ppm_cut_code.specs.Fits.{FitsExpression, FitsProcedure, layout_behind}
use Rattle.ppm_cut_code.specs.Numbers.{behind, end_of, hidden_behind, element_block}
use Rattle.ppm_cut_code.specs.Slots.{named_slots, procedure_slots, hidden_named_slots, hidden_slots, frame_words, fork_words}
use Rattle.ppm_cut_code.specs.Standing.{HasStatement, HasBlock, HasBody}
use Rattle.ppm_cut_code.specs.Statements.{Last, OnTo, Gives, with_lets, with_parts, hidden_layout, number_of}
use Rattle.ppm_cut_code.proofs.RegionWords.{lengths_of}
use Rattle.ppm_cut_correct.proofs.ChainLemmas.{Cost, cost, both_costs, IsWithinCost, within_cost, Chain, chain_none, chain_weaken}
use Rattle.ppm_cut_correct.proofs.Holding.{CodeFrame, Shows, Holds, which, at_work, strands, CodeTree}
use Rattle.ppm_cut_correct.proofs.Doing.{AreSmall}
use Rattle.ppm_cut_correct.proofs.Places.{Place, behind_place, while_place, split_place, each_place, each_few}
use Rattle.ppm_cut_correct.proofs.Given.{IsModestProcedure, Given, words_of, words_both, budget}
use Rattle.ppm_cut_correct.proofs.SmallLemmas.{small_while}
use Rattle.ppm_cut_correct.proofs.Constructs.{not_plain, split_low, small_first, chosen_hidden, chosen_place, chosen_has, callee_place}
use Rattle.ppm_cut_correct.proofs.Constructs.{each_inside, each_words, gives, element_front, let_made, assign_made, put_made, if_tested}
use Rattle.ppm_cut_correct.proofs.Constructs.{if_made, call_tried, call_begun, call_made, fork_tried, fork_begun, fork_made, split_tried}
use Rattle.ppm_cut_correct.proofs.Constructs.{split_made, each_made, loop_tested, turn_made}
use Rattle.ppm_cut_correct.proofs.SweepLemmas.{Leaves, NoLeaf, Leaf}
use Rattle.ppm_cut_correct.proofs.ReachLemmas.{Reached, Returned, chain_reaches, reaches_front, reaches_locals, reaches_same}

module _ (t : ProgramTree) (code : CodeParts) (facts : Given t code) where
  abbrev lens : List ℕ
  lens = lengths_of t.arrays

  abbrev ps : List Procedure
  ps = t.procedures

  abbrev here : Code CodeFrame Outcome
  here = strands lens code

  -- a trap at the first capsule of a statement
  trapped : {scope : Scope} {layout : Layout} {f : Frame} {own : FrameWord → ℕ} {at next : ℕ} {j k : Cost} (a : Words) (arrays : Arrays)
      (stop : TrapAt) → Shows lens a arrays
      → Chain here j (Strand (at_work own at)) a (Over (TrappedAt stop.0 stop.1)) a → IsWithinCost j k
      → Reached lens code scope layout f k (Strand (at_work own at)) a next (Trapped stop arrays)
  trapped a arrays stop shows q w = record { made = (a, shows, chain_weaken here w q) }

  mutual
    pub runs : {b : Block} {f : Frame} {arrays : Arrays} {k : Counts} {z : End Locals} → Runs Whole ps b f arrays k z
        → (scope : Scope) (layout : Layout) (spare at h : ℕ) (last : Last) (own : FrameWord → ℕ) (a : Words)
        → Place t scope layout spare b f → HasBlock ps code spare layout at h last b → Holds lens scope layout f own → Shows lens a arrays
        → Reached lens code (scope_behind scope b) (layout_behind layout b) f (budget t k) (Strand (at_work own at)) a (end_of b at) z
    runs (Done f arrays) scope layout spare at h last own a place has held shows = record {
      made = (
        own,
        a,
        record { local = held.local; region = held.region; value = held.value },
        shows,
        chain_weaken here (within_cost (omega arith) (omega arith) (omega arith) (omega arith)) (chain_none here (Strand (at_work own at)) a),
      );
    }
    runs (Lets x e b f arrays {k = k} w) scope layout spare at h last own a place has held shows =
        follows w (Let x e) scope layout spare at h last (Strand (at_work own at)) a (cost 1 1 0 0) (budget t (both (spent 1) k)) place has.1
        (let_made t code facts scope layout spare at h last b f own a arrays held shows x e place has)
        (within_cost (omega arith) (omega arith) (omega arith) (omega arith))
    runs (Assigns x e b f arrays {k = k} w) scope layout spare at h last own a place has held shows =
        follows w (Assign x e) scope layout spare at h last (Strand (at_work own at)) a (cost 1 2 0 0) (budget t (both (spent 1) k)) place has.1
        (assign_made t code facts scope layout spare at h last b f own a arrays held shows x e place has)
        (within_cost (omega arith) (omega arith) (omega arith) (omega arith))
    runs (Puts x i e b f arrays {k = k} w) scope layout spare at h last own a place has held shows =
        follows w (Put x i e) scope layout spare at h last (Strand (at_work own at)) a (cost 1 2 0 0) (budget t (both (spent 1) k)) place has.1
        (put_made t code facts scope layout spare at h last b f own a arrays held shows x i e place has)
        (within_cost (omega arith) (omega arith) (omega arith) (omega arith))
    runs (Ifs e s u b f arrays v {j = j} {k = k} {y = y} is inner w) scope layout spare at h last own a place has held shows =
        let first = suc (end_of s (suc at)) in
        let c = holds v in
        let test = if_tested t code facts scope layout spare at h last b f own a arrays held shows e s u place has (Ok v) is in
        let body = runs inner scope layout spare (which c (suc at) first) (chosen_hidden t code facts c s h) (OnTo (suc (end_of u first))) own a
        (chosen_place t code facts c scope layout spare e s u b f place) (chosen_has t code facts c spare layout at h e s u has.0) held shows in
        let w1 = words_both t (spent 1) (both j k) in
        let w2 = words_both t j k in
        follows w (If e s u) scope layout spare at h last (Strand (at_work own at)) a (cost 1 (2 * j.turns + 2) j.forks (words_of t j))
        (budget t (both (spent 1) (both j k))) place has.1
        (if_made t code facts scope layout spare at h last b f own a arrays held shows e s u c j y has test body)
        (within_cost (omega arith) (omega arith) (omega arith) (omega (arith, w1, w2)))
    runs (IfTraps e s u b f arrays stop is) scope layout spare at h last own a place has held shows =
        trapped a arrays stop shows (if_tested t code facts scope layout spare at h last b f own a arrays held shows e s u place has (Err stop) is)
        (within_cost (omega arith) (omega arith) (omega arith) (omega arith))
    runs (Whiles e s b f arrays {j = j} {k = k} {y = y} l w) scope layout spare at h last own a place has held shows =
        let small = small_while e s (small_first t code facts (While e s) b place) in
        let q = loops l scope layout spare at h own a (λ l. while_place t scope layout spare e s b f l place) place.fits.0.0 small has.0 held shows in
        let w1 = words_both t (spent 1) (both j k) in
        let w2 = words_both t j k in
        follows w (While e s) scope layout spare at h last (Strand (at_work own at)) a (cost 1 (2 * j.turns) j.forks (words_of t j))
        (budget t (both (spent 1) (both j k))) place has.1
        (reaches_same lens code y q) (within_cost (omega arith) (omega arith) (omega arith) (omega (arith, w1, w2)))
    runs (Calls s b f g arrays {j = j} {k = k} {y = y} is enter w) scope layout spare at h last own a place has held shows =
        let x = s.callee.name in
        let q = call_begun t code facts scope layout spare at h last b f own a arrays held shows s g place has is in
        let inner = callee_place t code facts s g (InCall place.p place.g scope s b f g arrays is place.comes) in
        let back = enters enter (number_of ps x) q.callee_own a inner (facts.stands.each x place.fits.0.callee) (facts.fits x)
        (facts.modest x) q.callee_holds shows in
        let w1 = words_both t (began (run.Call x)) (both j k) in
        let w2 = words_both t j k in
        follows w (tree.Call s) scope layout spare at h last (Strand (at_work own at)) a
        (cost 1 (2 * j.turns + 1) j.forks (frame_words (procedure_slots (procedure_named ps x)) + words_of t j))
        (budget t (both (began (run.Call x)) (both j k))) place has.1
        (call_made t code facts scope layout spare at h last b f own a arrays held shows s g j y place q back)
        (within_cost (omega arith) (omega arith) (omega arith) (omega (arith, w1, w2)))
    runs (CallTraps s b f arrays stop is) scope layout spare at h last own a place has held shows =
        trapped a arrays stop shows (call_tried t code facts scope layout spare at h last b f own a arrays held shows s place has (Err stop) is)
        (within_cost (omega arith) (omega arith) (omega arith) (omega arith))
    runs (Forks s u b f g g' arrays {i = i} {j = j} {k = k} {x = x} {y = y} is l on r w) scope layout spare at h last own a place has held shows =
        let m = s.callee.name in
        let n = u.callee.name in
        let sides = place.fits.0 in
        let q = fork_begun t code facts scope layout spare at h last b f own a arrays held shows s u g g' place has is in
        let first = callee_place t code facts s g (InLeft place.p place.g scope s u b f g g' arrays is place.comes) in
        let second = callee_place t code facts u g' (InRight place.p place.g scope s u b f g g' arrays is place.comes) in
        let back = enters l (number_of ps m) q.left_own a first (facts.stands.each m sides.0.callee) (facts.fits m)
        (facts.modest m) q.left_holds shows in
        let more : (c : Words) → Shows lens c (arrays_of x)
        → Returned lens code (budget t j) (Strand (at_work q.right_own (entry_of code (number_of ps n)))) c y =
        λ c shown. enters r (number_of ps n) q.right_own c second (facts.stands.each n sides.1.callee) (facts.fits n)
        (facts.modest n) q.right_holds shown in
        let words = fork_words (procedure_slots (procedure_named ps m)) (procedure_slots (procedure_named ps n)) in
        let w1 = words_both t (forked s u) (both i (both j k)) in
        let w2 = words_both t i (both j k) in
        let w3 = words_both t j k in
        follows w (tree.Fork s u) scope layout spare at h last (Strand (at_work own at)) a
        (cost 1 (2 * i.turns + 2 * j.turns + 1) (i.forks + j.forks + 1) (words + words_of t i + words_of t j))
        (budget t (both (forked s u) (both i (both j k)))) place has.1
        (fork_made t code facts scope layout spare at h last b f own a arrays held shows s u g g' i j x y place q back more)
        (within_cost (omega arith) (omega arith) (omega arith) (omega (arith, w1, w2, w3)))
    runs (ForkStops s u b f g g' arrays c stop is plain l) scope layout spare at h last own a place has held shows = absurd (not_plain plain)
    runs (ForkTraps s u b f arrays stop is) scope layout spare at h last own a place has held shows =
        trapped a arrays stop shows (fork_tried t code facts scope layout spare at h last b f own a arrays held shows s u place has (Err stop) is)
        (within_cost (omega arith) (omega arith) (omega arith) (omega arith))
    runs (Splits line r e x y s b f arrays n {j = j} {k = k} {u = u} is inner w) scope layout spare at h last own a place has held shows =
        let next = suc (end_of s (suc at)) in
        let q = split_tried t code facts scope layout spare at h last b f own a arrays held shows line r e x y s place has (Ok n) is in
        let inside = split_place t scope layout spare line r e x y s b f n (split_low line (f.regions r.name) (evaluate f arrays e) n is) place in
        let body = runs inner (split_scope scope r x y) (with_parts layout x y) spare (suc at) h (OnTo next) q.0 a inside has.0.1 q.1 shows in
        let w1 = words_both t (spent 1) (both j k) in
        let w2 = words_both t j k in
        follows w (Split line r e x y s) scope layout spare at h last (Strand (at_work own at)) a (cost 1 (2 * j.turns + 2) j.forks (words_of t j))
        (budget t (both (spent 1) (both j k))) place has.1
        (split_made t code facts scope layout spare at h last b f own a arrays held shows line r e x y s n j u q.0 place has q.2 body)
        (within_cost (omega arith) (omega arith) (omega arith) (omega (arith, w1, w2)))
    runs (SplitTraps line r e x y s b f arrays stop is) scope layout spare at h last own a place has held shows =
        trapped a arrays stop shows (split_tried t code facts scope layout spare at h last b f own a arrays held shows line r e x y s place has
        (Err stop) is) (within_cost (omega arith) (omega arith) (omega arith) (omega arith))
    runs (Eaches i x r s b f arrays {j = j} {k = k} {y = y} d w) scope layout spare at h last own a place has held shows =
        let m = (f.regions r.name).length in
        let leaves = sweeps d scope layout spare at h r b place has.0 refl (omega arith) in
        let slots = hidden_slots (length (caught layout s)) s in
        let words = (m - 1) * fork_words slots slots + words_of t j in
        let w1 = words_both t (swept i x r s m) (both j k) in
        let w2 = words_both t j k in
        let w3 = each_words t code facts scope layout spare i x r s b f m place in
        follows w (Each i x r s) scope layout spare at h last (Strand (at_work own at)) a
        (cost 1 (2 * j.turns + 2) (m - 1 + j.forks) (frame_words slots + words))
        (budget t (both (swept i x r s m) (both j k))) place has.1
        (each_made t code facts scope layout spare at h last b f own a arrays held shows i x r s place has j y leaves)
        (within_cost (omega arith) (omega arith) (omega arith) (omega (arith, w1, w2, w3)))

    -- what stands after a statement that has been run
    pub follows : {b : Block} {f : Frame} {k : Counts} {y z : End Locals} → Follows Whole ps b f y k z → (s : Statement)
        → (scope : Scope) (layout : Layout) (spare at h : ℕ) (last : Last) (u : CodeTree lens code) (a : Words) (j total : Cost)
        → Place t scope layout spare (Then s b) f → HasBlock ps code spare (with_lets layout s) (behind s at) (hidden_behind s h) last b
        → Reached lens code (scope ++ lets_of s) (with_lets layout s) f j u a (behind s at) y → IsWithinCost (both_costs j (budget t k)) total
        → Reached lens code (scope_behind (scope ++ lets_of s) b) (layout_behind (with_lets layout s) b) f total u a (end_of b (behind s at)) z
    follows (GoesOn b f l arrays {k = k} {z = z} r) s scope layout spare at h last u a j total place has q w =
        let m = q.made in
        let rest = runs r (scope ++ lets_of s) (with_lets layout s) spare (behind s at) (hidden_behind s h) last m.0 m.1
        (behind_place t scope layout spare s b f l place) has m.2 m.3 in
        reaches_locals lens code f l z (chain_reaches lens code z m.4 rest w)
    follows (Stops b f stop arrays) s scope layout spare at h last u a j total place has q w =
        let m = q.made in record {
          made = (
            m.0,
            m.1,
            chain_weaken here (within_cost (omega (arith, w.least)) (omega (arith, w.most)) (omega (arith, w.forks)) (omega (arith, w.words))) m.2,
          );
        }

    -- a loop, from its test on
    pub loops : {e : Expression} {s : Block} {f : Frame} {arrays : Arrays} {k : Counts} {z : End Locals} → Loops Whole ps e s f arrays k z
        → (scope : Scope) (layout : Layout) (spare at h : ℕ) (own : FrameWord → ℕ) (a : Words)
        → ((l : Locals) → Place t scope layout spare s (with_locals f l)) → FitsExpression scope layout e → AreSmall (nodes e)
        → HasStatement ps code spare layout at h (While e s) → Holds lens scope layout f own → Shows lens a arrays
        → Reached lens code scope layout f (cost 1 (2 * k.turns) k.forks (words_of t k)) (Strand (at_work own at)) a (suc (end_of s (suc at))) z
    loops (TestFails e s f arrays v is fails) scope layout spare at h own a place fits small has held shows =
        let next = suc (end_of s (suc at)) in
        let test = loop_tested t code facts scope layout spare at h e s f own a arrays place fits small has held shows (Ok v) is in
        let to = subst (λ (c : Bool). Chain here (cost 1 1 0 0) (Strand (at_work own at)) a
        (Strand (at_work own (which c (suc at) next))) a) fails test in record {
          made = (
            own,
            a,
            record { local = held.local; region = held.region; value = held.value },
            shows,
            chain_weaken here (within_cost (omega arith) (omega arith) (omega arith) (omega arith)) to,
          );
        }
    loops (TestTraps e s f arrays stop is) scope layout spare at h own a place fits small has held shows =
        trapped a arrays stop shows (loop_tested t code facts scope layout spare at h e s f own a arrays place fits small has held shows
        (Err stop) is) (within_cost (omega arith) (omega arith) (omega arith) (omega arith))
    loops (Turns e s f arrays b v l {j = j} {k = k} {z = z} is passes r more) scope layout spare at h own a place fits small has held shows =
        let next = suc (end_of s (suc at)) in
        let test = loop_tested t code facts scope layout spare at h e s f own a arrays place fits small has held shows (Ok v) is in
        let to = subst (λ (c : Bool). Chain here (cost 1 1 0 0) (Strand (at_work own at)) a
        (Strand (at_work own (which c (suc at) next))) a) passes test in
        let body = runs r scope layout spare (suc at) h (OnTo at) own a (place f.locals) has.1 held shows in
        let m = (turn_made t code facts scope layout spare at h e s f own a j (Ended l b) has to body).made in
        let rest = loops more scope layout spare at h m.0 m.1 place fits small has m.2 m.3 in
        let w1 = words_both t (spent 1) (both j k) in
        let w2 = words_both t j k in
        reaches_locals lens code f l z (chain_reaches lens code z m.4 rest
        (within_cost (omega arith) (omega arith) (omega arith) (omega (arith, w1, w2))))
    loops (TurnTraps e s f arrays b v stop {j = j} is passes r) scope layout spare at h own a place fits small has held shows =
        let next = suc (end_of s (suc at)) in
        let test = loop_tested t code facts scope layout spare at h e s f own a arrays place fits small has held shows (Ok v) is in
        let to = subst (λ (c : Bool). Chain here (cost 1 1 0 0) (Strand (at_work own at)) a
        (Strand (at_work own (which c (suc at) next))) a) passes test in
        let body = runs r scope layout spare (suc at) h (OnTo at) own a (place f.locals) has.1 held shows in
        let m = (turn_made t code facts scope layout spare at h e s f own a j (Trapped stop b) has to body).made in
        let w1 = words_both t (spent 1) j in record {
          made = (
            m.0,
            m.1,
            chain_weaken here (within_cost (omega arith) (omega arith) (omega arith) (omega (arith, w1))) m.2,
          );
        }

    -- a procedure, from its entry on
    pub enters : {p : Procedure} {f : Frame} {arrays : Arrays} {k : Counts} {z : End ℤ} → Enters Whole ps p f arrays k z
        → (q : ℕ) (own : FrameWord → ℕ) (a : Words) → Place t (scope_of p) (parameter_layout p.parameters) (named_slots p) p.body f
        → HasBody ps code q p
        → FitsProcedure ps p → IsModestProcedure p → Holds lens (scope_of p) (parameter_layout p.parameters) f own → Shows lens a arrays
        → Returned lens code (budget t k) (Strand (at_work own (entry_of code q))) a z
    enters (Enter p f arrays {j = j} {y = y} r) q own a place has fits modest held shows =
        gives t code facts p f y j q own a place has fits modest
        (runs r (scope_of p) (parameter_layout p.parameters) (named_slots p) (entry_of code q) has.h (Gives p.give) own a place has.body held shows)

    -- the blocks of an `each`
    pub sweeps : {i x : Named} {s : Block} {q : Region} {f : Frame} {n m : ℕ} {arrays : Arrays} {k : Counts} {z : End Locals}
        → Sweeps Whole ps i x s q f n m arrays k z
        → (scope : Scope) (layout : Layout) (spare at h : ℕ) (r : Named) (b : Block) (place : Place t scope layout spare (Then (Each i x r s) b) f)
        → (has : HasStatement ps code spare layout at h (Each i x r s)) → q ≡ f.regions r.name → n + m ≤ (f.regions r.name).length
        → Leaves t code facts spare scope layout at h f i x r s has place.fits.0 place.once (each_few t scope layout spare i x r s b f place)
        (each_inside t code facts scope layout spare i x r s b f place) n m arrays k z
    sweeps (Swept i x s q f n arrays) scope layout spare at h r b place has e low = NoLeaf n arrays
    sweeps (SweepStops i x s q f n m arrays c stop plain w) scope layout spare at h r b place has e low = absurd (not_plain plain)
    sweeps (Sweep i x s q f n m arrays {j = j} {y = y} w on rest) scope layout spare at h r b place has e low =
        let entry = entry_of code h in
        let inner = each_scope scope r i x in
        let hidden = hidden_layout layout i x s in
        let named = hidden_named_slots (length (caught layout s)) s in
        let inside = subst (λ (q : Region). Place t inner hidden named s (with_element f q n i x)) (sym e)
        (each_place t scope layout spare i x r s b f n (omega (arith, low)) place) in
        Leaf n m arrays j y (λ own a held shows.
        let body = runs w inner hidden named (element_block entry) (suc h) (Gives None) own a inside has.5
        (subst (λ (f : Frame). Holds lens inner hidden f own) (sym (element_front t code facts f q (f.regions r.name) n i x e)) held) shows in
        let front = reaches_front lens code s y body in
        (subst (λ (f : Frame). Reached lens code inner hidden f (budget t j) (Strand (at_work own (element_block entry))) a
        (end_of s (element_block entry)) y)
        (element_front t code facts f q (f.regions r.name) n i x e) front).made)
        (sweeps rest scope layout spare at h r b place has e (omega (arith, low)))
