-- The hidden procedure of an `each` runs the blocks of its elements from the first one on, by halves: what each block does, all do.
use Rattle.std.proofs.Common.{◌≡◌, ◌≤◌, ℕ, zero, suc, ◌+◌, ◌-◌, ◌*◌, ◌/◌, ◌^◌, List, [], ◌∷◌, None, length, refl, sym, ap, ◌∙◌, subst, arith}
use Rattle.ppm_strands.specs.Tree.{Words, Code, Strand, Fork as Forking, Over}
use Rattle.ppm_code.specs.declared.act.End.TheVariants as ends
use Rattle.ppm_code.specs.declared.instr.Instr.TheVariants as instr
use Rattle.ppm_code.specs.declared.code.CodeParts.{CodeParts}
use Rattle.ppm_code.specs.declared.location.FrameWord.{FrameWord}
use Rattle.ppm_code.specs.declared.location.FrameWord.TheVariants.{Slot, Value}
use Rattle.ppm_code.specs.Strands.{Result as Outcome, Gave, Trapped as TrappedAt, instrs_of, entry_of}
use Rattle.ppm_tree.specs.declared.named.Named.{Named}
use Rattle.ppm_tree.specs.Tree.{Block, Nil, Then, ProgramTree}
use Rattle.ppm_tree.specs.Tree as tree
use Rattle.ppm_tree.specs.State.{Region, Frame, Locals, Arrays}
use Rattle.ppm_tree.specs.Meaning.{Counts, spent, none, both, End, Ended, Trapped, arrays_of, first_trap}
use Rattle.ppm_ownership.specs.Coming.{stretch}
use Rattle.ppm_regions.specs.Scope.{Scope, each_scope}
use Rattle.ppm_cut_code.specs.Layout.{Layout, caught}
use Rattle.ppm_cut_code.specs.Fits.{FitsStatement, layout_behind}
use Rattle.ppm_cut_code.specs.Numbers.{end_of, halved, element_block, behind, hidden_behind}
use Rattle.ppm_cut_code.specs.Slots.{hidden_slots, hidden_named_slots, fork_words}
use Rattle.ppm_cut_code.specs.Standing.{HasStatement, HasBlock}
use Rattle.ppm_cut_code.specs.Statements.{Last, Gives, last_code, with_lets, hidden_layout}
use Rattle.ppm_cut_code.proofs.CaughtLemmas.{IsEachOnce}
use Rattle.ppm_cut_code.proofs.RegionWords.{lengths_of, offset_of, region_word}
use Rattle.ppm_cut_correct.proofs.ChainLemmas.{Cost, cost, both_costs, within_cost, Chain, chain_then}
use Rattle.ppm_cut_correct.proofs.ChainLemmas.{chain_weaken, chain_left, chain_right, chain_join}
use Rattle.ppm_cut_correct.proofs.Holding.{CodeFrame, Shows, Holds, sweep_frame, at_work, waits, strands, CodeTree, Reaches}
use Rattle.ppm_cut_correct.proofs.SlotLemmas.{part_slot}
use Rattle.ppm_cut_correct.proofs.Doing.{Entered}
use Rattle.ppm_cut_correct.proofs.Given.{Given, words_of, words_both, budget}

-- the last capsule of a block stands at its end
pub end_stands : (t : ProgramTree) (code : CodeParts) (b : Block) (spare : ℕ) (layout : Layout) (at h : ℕ) (last : Last)
    → HasBlock t.procedures code spare layout at h last b → instrs_of code (end_of b at) ≡ last_code (layout_behind layout b) last
end_stands t code Nil spare layout at h last has = has
end_stands t code (Then s b) spare layout at h last has = end_stands t code b spare (with_lets layout s) (behind s at) (hidden_behind s h) last has.1

times : (m p q n : ℕ) → m ≡ p + q → m * n ≡ p * n + q * n
times m p q n e = grind (arith, e)

times_suc : (m n : ℕ) → suc m * n ≡ n + m * n
times_suc m n = grind arith

-- how the hidden procedure is over
abbrev pub over_of : End Locals → Outcome
over_of (Ended l arrays) = Gave 0
over_of (Trapped stop arrays) = TrappedAt stop.0 stop.1

-- where a stretch ended, the locals are as they were
abbrev pub HasLocals : Frame → End Locals → Type 0
HasLocals f (Ended l arrays) = l ≡ f.locals
HasLocals f (Trapped stop arrays) = Unit {0}

pub first_arrays : (y z : End Locals) → arrays_of (first_trap y z) ≡ arrays_of z
first_arrays (Ended l a) z = refl
first_arrays (Trapped stop a) z = refl

module _ (t : ProgramTree) (code : CodeParts) (given : Given t code)
    (spare : ℕ) (scope : Scope) (layout : Layout) (at h : ℕ) (f : Frame) (i x r : Named) (block : Block)
    (stands : HasStatement t.procedures code spare layout at h (tree.Each i x r block))
    (fits : FitsStatement t.procedures scope layout (tree.Each i x r block))
    (once : IsEachOnce layout) (names_few : length (caught layout block) ≤ 24)
    (inside : offset_of (lengths_of t.arrays) (f.regions r.name).array + (f.regions r.name).start + (f.regions r.name).length ≤ 4194304) where
  abbrev lengths : List ℕ
  lengths = lengths_of t.arrays

  abbrev here : Code CodeFrame Outcome
  here = strands lengths code

  abbrev q : Region
  q = f.regions r.name

  abbrev inner : Scope
  inner = each_scope scope r i x

  abbrev hidden : Layout
  hidden = hidden_layout layout i x block

  abbrev entry : ℕ
  entry = entry_of code h

  abbrev slots : ℕ
  slots = hidden_slots (length (caught layout block)) block

  abbrev pub forking : ℕ
  forking = fork_words slots slots

  -- what the block of one element does
  abbrev pub LeafDoes : (n : ℕ) → Arrays → Counts → End Locals → Type 0
  LeafDoes n arrays j y = (own : FrameWord → ℕ) (a : Words) → Holds lengths inner hidden (sweep_frame f q n 1 i x) own → Shows lengths a arrays
      → Reaches lengths code inner hidden (sweep_frame f q n 1 i x) (budget t j) (Strand (at_work own (element_block entry))) a
      (end_of block (element_block entry)) y

  -- what the blocks of so many elements do, from one on
  pub data Leaves : (n m : ℕ) → Arrays → Counts → End Locals → Type 0 where
    NoLeaf : (n : ℕ) (arrays : Arrays) → Leaves n zero arrays none (Ended f.locals arrays)
    Leaf : (n m : ℕ) (arrays : Arrays) (j : Counts) (y : End Locals) {k : Counts} {z : End Locals} → LeafDoes n arrays j y
        → Leaves (suc n) m (arrays_of y) k z
        → Leaves n (suc m) arrays (both (spent 8) (both j k)) (first_trap y z)

  -- after all of them the locals are as they were
  pub leaves_locals : {n m : ℕ} {arrays : Arrays} {k : Counts} {z : End Locals} → Leaves n m arrays k z → HasLocals f z
  leaves_locals (NoLeaf n arrays) = refl
  leaves_locals (Leaf n m arrays j y {z = z} d rest) = first y z (leaves_locals rest)
    where
      first : (y z : End Locals) → HasLocals f z → HasLocals f (first_trap y z)
      first (Ended l a) z h = h
      first (Trapped stop a) z h = tt

  -- two parts of them
  record Halves (n n' p m : ℕ) (arrays : Arrays) (k : Counts) (z : End Locals) : Type 0 where
    first : Counts
    second : Counts
    end : End Locals
    rest : End Locals
    front : Leaves n p arrays first end
    back : Leaves n' m (arrays_of end) second rest
    whole : first_trap end rest ≡ z
    turns : first.turns + second.turns ≡ k.turns
    forks : first.forks + second.forks ≡ k.forks
    words : words_of t first + words_of t second ≡ words_of t k

  first_assoc : (y z w : End Locals) → first_trap (first_trap y z) w ≡ first_trap y (first_trap z w)
  first_assoc (Ended l a) z w = refl
  first_assoc (Trapped stop a) (Ended l b) w = refl
  first_assoc (Trapped stop a) (Trapped s b) w = refl

  halves : (p m n n' total : ℕ) (arrays : Arrays) {k : Counts} {z : End Locals} → n' ≡ n + p → total ≡ p + m → Leaves n total arrays k z
      → Halves n n' p m arrays k z
  halves zero m n n' total arrays {k = k} {z = z} e is l = record {
    first = none;
    second = k;
    end = Ended f.locals arrays;
    rest = z;
    front = NoLeaf n arrays;
    back = subst (λ (m : ℕ). Leaves n' m arrays k z) (let same : total ≡ m = omega (arith, is) in same)
        (subst (λ (n : ℕ). Leaves n total arrays k z) (let same : n ≡ n' = omega (arith, e) in same) l);
    whole = refl;
    turns = omega arith;
    forks = omega arith;
    words = omega arith;
  }
  halves (suc p) m n n' total arrays e is (NoLeaf n0 b) = absurd (omega (arith, is))
  halves (suc p) m n n' total arrays e is (Leaf n0 m' b j y {k = k} {z = z} d rest) =
      let s = halves p m (suc n) n' m' (arrays_of y) (omega (arith, e)) (omega (arith, is)) rest in
      let w1 = words_both t (spent 8) (both j k) in
      let w2 = words_both t j k in
      let v1 = words_both t (spent 8) (both j s.first) in
      let v2 = words_both t j s.first in record {
        first = both (spent 8) (both j s.first);
        second = s.second;
        end = first_trap y s.end;
        rest = s.rest;
        front = Leaf n p arrays j y d s.front;
        back = subst (λ (a : Arrays). Leaves n' m a s.second s.rest) (sym (first_arrays y s.end)) s.back;
        whole = first_assoc y s.end s.rest ∙ ap (first_trap y) s.whole;
        turns = omega (arith, s.turns);
        forks = omega (arith, s.forks);
        words = omega (arith, s.words, w1, w2, v1, v2);
      }

  -- The hidden procedure is over after so many elements: after less than two capsules a turn, a fork less than it has elements, and the
  -- words of these forks.
  pub record Sweeps (m : ℕ) (k : Counts) (own : FrameWord → ℕ) (a : Words) (z : End Locals) : Type 0 where
    pub most : ℕ
    pub forks : ℕ
    pub words : ℕ
    pub behind : Words
    pub few : most + 10 ≤ 2 * k.turns
    pub forked : forks + 1 ≡ m + k.forks
    pub asked : words + forking ≡ m * forking + words_of t k
    pub shows : Shows lengths behind (arrays_of z)
    pub chain : Chain here (cost 1 most forks words) (Strand (at_work own entry)) a (Over (over_of z)) behind

  -- the capsule that only ends
  over_now : (k : ℕ) (own : FrameWord → ℕ) (a : Words) → instrs_of code k ≡ instr.Ends ends.Finish ∷ [] → own Value ≡ 0
      → Chain here (cost 1 1 0 0) (Strand (at_work own k)) a (Over (Gave 0)) a
  over_now k own a is empty = given.does.finish scope layout f own a [] k k is empty

  -- one element: its block, and the end
  leaf : (n : ℕ) (arrays : Arrays) (own : FrameWord → ℕ) (a : Words) (j : Counts) (y : End Locals) → LeafDoes n arrays j y
      → Holds lengths inner hidden (sweep_frame f q n 1 i x) own → Shows lengths a arrays
      → own (Slot 0) ≡ region_word lengths (stretch n 1 q)
      → Sweeps 1 (both (spent 8) (both j none)) own a (first_trap y (Ended f.locals (arrays_of y)))
  leaf n arrays own a j y d holds shows is =
      go y (given.does.entry scope layout f own a arrays entry entry _ 1 stands.1 is (omega arith) holds.value) (d own a holds shows)
    where
      w1 : words_of t (both (spent 8) (both j none)) ≡ words_of t j
      w1 = let u = words_both t (spent 8) (both j none) in let v = words_both t j none in omega (arith, u, v)

      go : (y : End Locals) → Entered lengths code scope layout f own a arrays entry entry 1
          → Reaches lengths code inner hidden (sweep_frame f q n 1 i x) (budget t j) (Strand (at_work own (element_block entry))) a
          (end_of block (element_block entry)) y → Sweeps 1 (both (spent 8) (both j none)) own a (first_trap y (Ended f.locals (arrays_of y)))
      go (Ended l b) enters (own', then_words, held, shown, chain) = record {
        most = 2 * j.turns + 2;
        forks = j.forks;
        words = words_of t j;
        behind = then_words;
        few = omega arith;
        forked = omega arith;
        asked = omega (arith, w1);
        shows = shown;
        chain = chain_weaken here (within_cost (omega arith) (omega arith) (omega arith) (omega arith))
            (chain_then here (chain_then here enters chain) (over_now (end_of block (element_block entry)) own' then_words
            (end_stands t code block (hidden_named_slots (length (caught layout block)) block) hidden (element_block entry) (suc h)
            (Gives None) stands.5) held.value));
      }
      go (Trapped stop b) enters (then_words, shown, chain) = record {
        most = 2 * j.turns + 2;
        forks = j.forks;
        words = words_of t j;
        behind = then_words;
        few = omega arith;
        forked = omega arith;
        asked = omega (arith, w1);
        shows = shown;
        chain = chain_weaken here (within_cost (omega arith) (omega arith) (omega arith) (omega arith)) (chain_then here enters chain);
      }

  -- both halves are over, and so is the whole
  joined_over : (own : FrameWord → ℕ) (left right : CodeTree lengths code) (a b c : Words) (j k : Cost) (y z : End Locals)
      → instrs_of code (halved entry) ≡ instr.Ends ends.Finish ∷ [] → own Value ≡ 0
      → Chain here j left a (Over (over_of y)) b → Chain here k right b (Over (over_of z)) c
      → Chain here (both_costs (both_costs j k) (cost 0 1 0 0)) (Forking (waits own (halved entry) None None) left right) a
      (Over (over_of (first_trap y z))) c
  joined_over own left right a b c j k (Trapped stop d) z is empty p q =
      let g = waits own (halved entry) None None in
      let both = chain_then here (chain_left here g right p) (chain_right here g (TrappedAt stop.0 stop.1) q) in
      chain_weaken here (within_cost (omega arith) (omega arith) (omega arith) (omega arith))
      (chain_join here g (TrappedAt stop.0 stop.1) (over_of z) (Over (TrappedAt stop.0 stop.1)) refl both)
  joined_over own left right a b c j k (Ended l d) (Trapped stop e) is empty p q =
      let g = waits own (halved entry) None None in
      let both = chain_then here (chain_left here g right p) (chain_right here g (Gave 0) q) in
      chain_weaken here (within_cost (omega arith) (omega arith) (omega arith) (omega arith))
      (chain_join here g (Gave 0) (TrappedAt stop.0 stop.1) (Over (TrappedAt stop.0 stop.1)) refl both)
  joined_over own left right a b c j k (Ended l d) (Ended m e) is empty p q =
      let g = waits own (halved entry) None None in
      let both = chain_then here (chain_left here g right p) (chain_right here g (Gave 0) q) in
      let joined = chain_join here g (Gave 0) (Gave 0) (Strand (at_work own (halved entry))) refl both in
      chain_weaken here (within_cost (omega arith) (omega arith) (omega arith) (omega arith))
      (chain_then here joined (over_now (halved entry) own c is empty))

  -- the region in hand is small
  pub small_word : (n m : ℕ) → n + m ≤ q.length → region_word lengths (stretch n m q) ≤ 4194304 * 2 ^ 32 + 4194304
  small_word n m low = omega (arith, inside, low)

  -- the part stands in its slot
  pub part_in_hand : (n m : ℕ) (own : FrameWord → ℕ) → Holds lengths inner hidden (sweep_frame f q n m i x) own
      → own (Slot 0) ≡ region_word lengths (stretch n m q)
  part_in_hand n m own holds = part_slot lengths scope layout f i x r block fits.3 fits.4 fits.5 q n m own holds

  -- the entry, the fork, both halves, and the end
  abbrev steps : (m1 f1 w1 m2 f2 w2 : ℕ) → Cost
  steps m1 f1 w1 m2 f2 w2 = both_costs (both_costs (cost 1 1 0 0) (cost 1 1 1 forking))
      (both_costs (both_costs (cost 1 m1 f1 w1) (cost 1 m2 f2 w2)) (cost 0 1 0 0))

  -- so many elements, by halves
  sweep : (fuel m n : ℕ) (arrays : Arrays) (own : FrameWord → ℕ) (a : Words) {k : Counts} {z : End Locals} → m ≤ fuel → 1 ≤ m → n + m ≤ q.length
      → Leaves n m arrays k z → Holds lengths inner hidden (sweep_frame f q n m i x) own → Shows lengths a arrays → Sweeps m k own a z
  sweep fuel zero n arrays own a most some low l holds shows = absurd (omega (arith, some))
  sweep fuel (suc zero) n arrays own a most some low (Leaf n0 zero b j y d (NoLeaf n1 c)) holds shows =
      leaf n arrays own a j y d holds shows (part_in_hand n 1 own holds)
  sweep zero (suc (suc m)) n arrays own a most some low l holds shows = absurd (omega (arith, most))
  sweep (suc fuel) (suc (suc m)) n arrays own a {k = k} {z = z} most some low l holds shows =
      let total : ℕ = suc (suc m) in
      let first : ℕ = total / 2 in
      let second : ℕ = total - total / 2 in
      let cut = halves first second n (n + first) total arrays refl (omega arith) l in
      let enters = given.does.entry scope layout f own a arrays entry entry _ total stands.1 (part_in_hand n total own holds)
      (omega (arith, low, inside)) holds.value in
      let forks = given.does.halving scope layout f own a arrays entry entry i x r block h q n total stands.2 stands.4 refl holds
      fits.3 fits.4 fits.5 names_few (small_word n total low) (omega (arith, low, inside)) in
      let left = sweep fuel first n arrays forks.0 a (omega (arith, most)) (omega arith) (omega (arith, low)) cut.front forks.2 shows in
      let right = sweep fuel second (n + first) (arrays_of cut.end) forks.1 left.behind (omega (arith, most)) (omega arith)
      (omega (arith, low)) cut.back forks.3 left.shows in
      let joined = joined_over own _ _ a left.behind right.behind _ _ cut.end cut.rest stands.3 holds.value left.chain right.chain in
      let product = times total first second forking (omega arith) in record {
        most = 4 + left.most + right.most;
        forks = 1 + left.forks + right.forks;
        words = forking + left.words + right.words;
        behind = right.behind;
        few = omega (arith, left.few, right.few, cut.turns);
        forked = omega (arith, left.forked, right.forked, cut.forks);
        asked = omega (arith, left.asked, right.asked, cut.words, product);
        shows = subst (λ (b : Arrays). Shows lengths right.behind b) (sym (first_arrays cut.end cut.rest) ∙ ap arrays_of cut.whole) right.shows;
        chain = chain_weaken here (within_cost (omega arith) (omega arith) (omega arith) (omega arith))
            (subst (λ (z : End Locals). Chain here (steps left.most left.forks left.words right.most right.forks right.words)
            (Strand (at_work own entry)) a (Over (over_of z)) right.behind) cut.whole
            (chain_then here (chain_then here enters forks.4) joined));
      }

  -- all elements, from none on
  pub record Swept (m : ℕ) (k : Counts) (own : FrameWord → ℕ) (a : Words) (z : End Locals) : Type 0 where
    pub behind : Words
    pub shows : Shows lengths behind (arrays_of z)
    pub chain : Chain here (cost 1 (2 * k.turns + 1) (m - 1 + k.forks) ((m - 1) * forking + words_of t k)) (Strand (at_work own entry)) a
        (Over (over_of z)) behind

  pub swept : (m n : ℕ) (arrays : Arrays) (own : FrameWord → ℕ) (a : Words) {k : Counts} {z : End Locals} → n + m ≤ q.length
      → Leaves n m arrays k z → Holds lengths inner hidden (sweep_frame f q n m i x) own → Shows lengths a arrays → Swept m k own a z
  swept zero n arrays own a low (NoLeaf n0 b) holds shows = record {
    behind = a;
    shows = shows;
    chain = chain_weaken here (within_cost (omega arith) (omega arith) (omega arith) (omega arith))
        (given.does.entry scope layout f own a arrays entry entry _ 0 stands.1 (part_in_hand n 0 own holds) (omega arith) holds.value);
  }
  swept (suc m) n arrays own a {k = k} low l holds shows =
      let s = sweep (suc m) (suc m) n arrays own a (omega arith) (omega arith) low l holds shows in
      let less : suc m - 1 ≡ m = omega arith in
      let product : suc m * forking ≡ forking + m * forking = times_suc m forking in record {
        behind = s.behind;
        shows = s.shows;
        chain = chain_weaken here (within_cost (omega arith) (omega (arith, s.few)) (omega (arith, s.forked))
            (omega (arith, s.asked, product) ∙ ap (λ (e : ℕ). e * forking + words_of t k) (sym less))) s.chain;
      }
