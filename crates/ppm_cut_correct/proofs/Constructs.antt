-- What the capsules of each statement do, given what its parts do; places of parts, and what is held there.
use Rattle.std.proofs.Common.{◌≡◌, ◌≤◌, ℕ, ℤ, suc, ◌+◌, ◌-◌, ◌*◌, Bool, true, false, List, [], ◌++◌, Option, Some, None, Result, Ok, Err}
use Rattle.std.proofs.lemmas.Bool.{leb-true}
use Rattle.std.proofs.lemmas.List.{length-map}
use Rattle.std.proofs.Common.{pos, negsuc, nat_le, subst₂, length, refl, sym, ap, ◌∙◌, subst, arith}
use Rattle.ppm_strands.specs.Tree.{Words, Code, Strand, Call as Calling, Fork as Forking, Over}
use Rattle.ppm_code.specs.declared.code.CodeParts.{CodeParts}
use Rattle.ppm_code.specs.declared.location.FrameWord.{FrameWord}
use Rattle.ppm_code.specs.Strands.{Result as Outcome, Gave, Trapped as TrappedAt, entry_of}
use Rattle.ppm_tree.specs.declared.named.Named.{Named}
use Rattle.ppm_tree.specs.Tree.{Expression, Side, Statement, Block, Nil, Then, Let, Assign, Put, If, While, Split, Each, Give, Procedure, ProgramTree}
use Rattle.ppm_tree.specs.Tree as tree
use Rattle.ppm_tree.specs.Limits.{IsSmallStatement}
use Rattle.ppm_words.specs.declared.trap.Trap.TheVariants as trap
use Rattle.ppm_tree.specs.Parts.{nodes}
use Rattle.ppm_tree.specs.State.{TrapAt, then_with, tested, Region, Locals, Frame, with_locals, Arrays}
use Rattle.ppm_tree.specs.State.{split_at, evaluate, procedure_named, entered, both_entered}
use Rattle.ppm_tree.specs.Meaning.{Plain, Whole, Counts, spent, none, both, swept, End, Ended, Trapped, arrays_of, assigned, stored}
use Rattle.ppm_tree.specs.Meaning.{chosen, returned, joined, given, give_turn, with_element, with_parts as parts_frame}
use Rattle.ppm_regions.specs.Scope.{Scope, scope_of, split_scope, each_scope, lets_of, scope_behind}
use Rattle.ppm_tree.specs.declared.tree.Parameter.{Parameter}
use Rattle.ppm_cut_bounds.specs.Slots.{most_in_force}
use Rattle.ppm_ownership.specs.Coming.{ComesTo, callee}
use Rattle.ppm_cut_code.specs.Layout.{Layout, target_of, parameter_layout, caught}
use Rattle.ppm_cut_code.specs.Fits.{FitsExpression, FitsProcedure, FitsGive, layout_behind}
use Rattle.ppm_cut_code.specs.Numbers.{behind, end_of, hidden_behind_block}
use Rattle.ppm_cut_code.specs.Slots.{named_slots, procedure_slots, hidden_slots, frame_words, fork_words}
use Rattle.ppm_cut_code.specs.Standing.{HasStatement, HasBlock, HasBody}
use Rattle.ppm_cut_code.specs.Statements.{Last, OnTo, Gives, with_lets, with_parts, hidden_layout, number_of}
use Rattle.ppm_cut_code.proofs.CaughtLemmas.{each_once}
use Rattle.ppm_cut_code.proofs.RegionWords.{array_within, lengths_of, offset_of}
use Rattle.ppm_cut_correct.proofs.ChainLemmas.{Cost, cost, within_cost, Chain, chain_weaken, chain_under, chain_return}
use Rattle.ppm_cut_correct.proofs.Holding.{CodeFrame, Shows, Holds, sweep_frame, which, at_work, waits}
use Rattle.ppm_cut_correct.proofs.Holding.{strands, CodeTree, Tested, Parted, Called, Forked}
use Rattle.ppm_cut_correct.proofs.Doing.{InHand, AreSmall}
use Rattle.ppm_cut_correct.proofs.Places.{Place, modest_inner, holds_place, else_place, each_few, lies}
use Rattle.ppm_cut_correct.proofs.Given.{IsModestProcedure, Given, words_of, words_both, budget}
use Rattle.ppm_cut_correct.proofs.SmallLemmas.{small_let, small_assign, small_put, small_if, small_split, small_call, small_fork}
use Rattle.ppm_cut_correct.proofs.SweepLemmas.{end_stands, over_of, HasLocals, Leaves, leaves_locals, swept as swept_all}
use Rattle.ppm_cut_correct.proofs.ReachLemmas.{Reached, Returned, chain_reaches, reaches_on, chain_returns, call_reaches, fork_reaches}
use Rattle.ppm_cut_correct.proofs.ReachLemmas.{reaches_front, reaches_same, reaches_whole, lies_at_end, lies_locals}

zero_front : (n : ℕ) → 0 + n ≡ n
zero_front n = omega arith

-- the forms differ
pub not_plain : Whole ≡ Plain → ⊥
not_plain e = cc

abbrev found : ℕ → Result ℕ TrapAt
found x = Ok x

-- a split leaves a part within the region
pub split_low : (line : ℕ) (r : Region) (v : Result ℤ TrapAt) (n : ℕ) → then_with v (split_at line r) ≡ Ok n → n ≤ r.length
split_low line r (Err stop) n is = absurd (clash is)
  where
    clash : Err stop ≡ Ok n → ⊥
    clash e = cc
split_low line r (Ok (pos k)) n is = go (nat_le k r.length) refl is
  where
    go : (b : Bool) → nat_le k r.length ≡ b → tested b (trap.Split, line) k ≡ Ok n → n ≤ r.length
    go true e is = let same : k ≡ n = ok_one is in let low = leb-true k r.length e in omega (arith, same, low)
      where
        ok_one : {x y : ℕ} → found x ≡ found y → x ≡ y
        ok_one h = cc
    go false e is = absurd (clash is)
      where
        clash : {x : TrapAt} → Err x ≡ Ok n → ⊥
        clash h = cc
split_low line r (Ok (negsuc k)) n is = absurd (clash is)
  where
    clash : {x : TrapAt} → Err x ≡ Ok n → ⊥
    clash h = cc

module _ (t : ProgramTree) (code : CodeParts) (facts : Given t code) where
  abbrev pub lens : List ℕ
  lens = lengths_of t.arrays

  abbrev pub ps : List Procedure
  ps = t.procedures

  abbrev pub here : Code CodeFrame Outcome
  here = strands lens code

  pub in_hand : (scope : Scope) (layout : Layout) (spare : ℕ) (b : Block) (f : Frame) (own : FrameWord → ℕ) (a : Words) (arrays : Arrays)
      → Place t scope layout spare b f
      → Holds lens scope layout f own → Shows lens a arrays → InHand lens code scope layout f own a arrays
  in_hand scope layout spare b f own a arrays place h s =
      record { small = facts.small; holds = h; shows = s; lies = lies t scope layout spare b f facts.admitted place }

  pub small_first : (s : Statement) (b : Block) {scope : Scope} {layout : Layout} {spare : ℕ} {f : Frame} → Place t scope layout spare (Then s b) f
      → IsSmallStatement s
  small_first (Let x e) b place = (modest_inner (Let x e) b place.modest).0.0
  small_first (Assign x e) b place = (modest_inner (Assign x e) b place.modest).0.0
  small_first (Put x i e) b place = (modest_inner (Put x i e) b place.modest).0.0
  small_first (If e u v) b place = (modest_inner (If e u v) b place.modest).0.0
  small_first (While e u) b place = (modest_inner (While e u) b place.modest).0.0
  small_first (tree.Call u) b place = (modest_inner (tree.Call u) b place.modest).0.0
  small_first (tree.Fork u v) b place = (modest_inner (tree.Fork u v) b place.modest).0.0
  small_first (Split line r e x y u) b place = (modest_inner (Split line r e x y u) b place.modest).0.0
  small_first (Each i x r u) b place = (modest_inner (Each i x r u) b place.modest).0.0

  -- the block that a test chooses, and where it stands
  abbrev pub chosen_hidden : Bool → Block → ℕ → ℕ
  chosen_hidden true s h = h
  chosen_hidden false s h = hidden_behind_block s h

  pub chosen_place : (c : Bool) (scope : Scope) (layout : Layout) (spare : ℕ) (e : Expression) (s u b : Block) (f : Frame)
      → Place t scope layout spare (Then (If e s u) b) f
      → Place t scope layout spare (chosen c s u) f
  chosen_place true scope layout spare e s u b f w = holds_place t scope layout spare e s u b f w
  chosen_place false scope layout spare e s u b f w = else_place t scope layout spare e s u b f w

  pub chosen_has : (c : Bool) (spare : ℕ) (layout : Layout) (at h : ℕ) (e : Expression) (s u : Block)
      → HasStatement ps code spare layout at h (If e s u)
      → HasBlock ps code spare layout (which c (suc at) (suc (end_of s (suc at)))) (chosen_hidden c s h)
      (OnTo (suc (end_of u (suc (end_of s (suc at)))))) (chosen c s u)
  chosen_has true spare layout at h e s u has = has.1
  chosen_has false spare layout at h e s u has = has.2

  -- a block goes on at its end
  pub goes_onward : (b : Block) (spare : ℕ) (layout : Layout) (at h next : ℕ) → HasBlock ps code spare layout at h (OnTo next) b
      → (own : FrameWord → ℕ) (a : Words)
      → Chain here (cost 1 1 0 0) (Strand (at_work own (end_of b at))) a (Strand (at_work own next)) a
  goes_onward b spare layout at h next has own a =
      facts.does.onward [] layout (record { regions = λ x. record { array = 0; start = 0; length = 0 }; locals = λ x. pos 0 }) own a []
      (end_of b at) next
      (end_stands t code b spare layout at h (OnTo next) has)

  -- at a loop's test
  pub loop_hand : (scope : Scope) (layout : Layout) (spare : ℕ) (s : Block) (f : Frame) (own : FrameWord → ℕ) (a : Words) (arrays : Arrays)
      → ((l : Locals) → Place t scope layout spare s (with_locals f l)) → Holds lens scope layout f own → Shows lens a arrays
      → InHand lens code scope layout f own a arrays
  loop_hand scope layout spare s f own a arrays place h shows = record {
    small = facts.small;
    holds = h;
    shows = shows;
    lies = record { within = (lies t scope layout spare s (with_locals f f.locals) facts.admitted (place f.locals)).within };
  }

  -- in a callee
  pub callee_place : (s : Side) (g : Frame) → ComesTo t (callee t s) g (scope_of (callee t s)) (callee t s).body g
      → Place t (scope_of (callee t s)) (parameter_layout (callee t s).parameters) (named_slots (callee t s)) (callee t s).body g
  callee_place s g comes =
      let fits = facts.fits s.callee.name in
      let modest = facts.modest s.callee.name in record {
        p = callee t s;
        g = g;
        comes = comes;
        fits = fits.body;
        once = each_once (parameter_layout (callee t s).parameters) fits.distinct;
        room = named_room (callee t s);
        few = modest.few;
        modest = modest.body;
      }
    where
      named_room : (p : Procedure) → length (parameter_layout p.parameters) + most_in_force p.body ≤ named_slots p
      named_room p = let same = length-map p.parameters (λ (p : Parameter). p.name.name) in omega (arith, same)

  -- the region of an `each` lies in its array
  pub each_inside : (scope : Scope) (layout : Layout) (spare : ℕ) (i x r : Named) (s b : Block) (f : Frame)
      → Place t scope layout spare (Then (Each i x r s) b) f
      → offset_of lens (f.regions r.name).array + (f.regions r.name).start + (f.regions r.name).length ≤ 4194304
  each_inside scope layout spare i x r s b f place =
      let region = place.fits.0.0 in
      let within =
      (lies t scope layout spare (Then (Each i x r s) b) f facts.admitted place).within r.name region.declaration region.found region.kind
      (region.seen refl) in
      let array = array_within lens (f.regions r.name).array in
      omega (arith, within, array, facts.small)

  -- what an `each` begins
  pub each_words : (scope : Scope) (layout : Layout) (spare : ℕ) (i x r : Named) (s b : Block) (f : Frame) (m : ℕ)
      → Place t scope layout spare (Then (Each i x r s) b) f
      → words_of t (swept i x r s m) ≡ frame_words (hidden_slots (length (caught layout s)) s)
      + (m - 1) * fork_words (hidden_slots (length (caught layout s)) s) (hidden_slots (length (caught layout s)) s)
  each_words scope layout spare i x r s b f m place =
      let fits = place.fits.0 in
      zero_front _ ∙ ap (λ (n : ℕ). frame_words (hidden_slots n s) + (m - 1) * fork_words (hidden_slots n s) (hidden_slots n s))
      (sym (facts.counted scope layout i x r s place.once fits.1 fits.2 fits.6))

  -- the frame goes on after its `each`
  pub each_reaches : (scope : Scope) (layout : Layout) (f : Frame) (own : FrameWord → ℕ) (next : ℕ) (u : CodeTree lens code) (a b : Words) (k : Cost)
      (y : End Locals)
      → HasLocals f y → Holds lens scope layout f own → Shows lens b (arrays_of y) → Chain here k u a (Over (over_of y)) b
      → Reached lens code scope layout f k (Calling (waits own next None None) u) a next y
  each_reaches scope layout f own next u a b k (Ended l arrays) same held shows chain =
      let g = waits own next None None in record {
        made = (
          own,
          b,
          subst (λ (l : Locals). Holds lens scope layout (with_locals f l) own) (sym same)
              (record { local = held.local; region = held.region; value = held.value }),
          shows,
          chain_return here g (Gave 0) (Strand (at_work own next)) refl (chain_under here g chain),
        );
      }
  each_reaches scope layout f own next u a b k (Trapped stop arrays) same held shows chain =
      let g = waits own next None None in record {
        made = (b, shows, chain_return here g (TrappedAt stop.0 stop.1) (Over (TrappedAt stop.0 stop.1)) refl (chain_under here g chain));
      }

  -- a `give` forks nothing and begins nothing
  pub turn_free : (g : Option Give) (y : End Locals) → ((give_turn g y).forks ≡ 0) × (words_of t (give_turn g y) ≡ 0)
  turn_free g (Trapped stop arrays) = (refl, refl)
  turn_free None (Ended l arrays) = (refl, refl)
  turn_free (Some g) (Ended l arrays) = (refl, refl)

  pub given_same : (g : Option Give) (f : Frame) (l : Locals) (arrays : Arrays)
      → given g (with_locals f l) (Ended l arrays) ≡ given g f (Ended l arrays)
  given_same None f l arrays = refl
  given_same (Some g) f l arrays = refl

  -- the end of a procedure, after its statements
  pub gives : (p : Procedure) (f : Frame) (y : End Locals) (j : Counts) (q : ℕ) (own : FrameWord → ℕ) (a : Words)
      → Place t (scope_of p) (parameter_layout p.parameters) (named_slots p) p.body f → HasBody ps code q p → FitsProcedure ps p → IsModestProcedure p
      → Reached lens code (scope_behind (scope_of p) p.body) (layout_behind (parameter_layout p.parameters) p.body) f (budget t j)
      (Strand (at_work own (entry_of code q))) a (end_of p.body (entry_of code q)) y
      → Returned lens code (budget t (both (spent 1) (both j (give_turn p.give y)))) (Strand (at_work own (entry_of code q))) a (given p.give f y)
  gives p f (Trapped stop arrays) j q own a place has fits modest reached = let m = reached.made in record {
    made = (
      m.0,
      m.1,
      chain_weaken here (within_cost (omega arith) (omega arith) (omega arith)
          (let w1 = words_both t (spent 1) (both j none) in let w2 = words_both t j none in omega (arith, w1, w2))) m.2,
    );
  }
  gives p f (Ended l arrays) j q own a place has fits modest reached =
      let m = reached.made in
      let at = end_of p.body (entry_of code q) in
      let scope = scope_behind (scope_of p) p.body in
      let layout = layout_behind (parameter_layout p.parameters) p.body in
      let turn = give_turn p.give (Ended l arrays) in
      let around = lies t (scope_of p) (parameter_layout p.parameters) (named_slots p) p.body f facts.admitted place in
      let hand : InHand lens code scope layout (with_locals f l) m.0 m.1 arrays = record {
        small = facts.small;
        holds = m.2;
        shows = m.3;
        lies = lies_at_end lens code p.body (scope_of p) (with_locals f l) (lies_locals lens code f l around);
      } in
      let stands = end_stands t code p.body (named_slots p) (parameter_layout p.parameters) (entry_of code q) has.h (Gives p.give) has.body in
      let gift = facts.does.give scope layout (with_locals f l) m.0 m.1 arrays at at p.give hand stands
      (λ g e. (subst (FitsGive ps scope layout) e fits.give, modest.give g e)) in
      let back : Returned lens code (cost 1 1 0 0) (Strand (at_work m.0 at)) m.1 (given p.give f (Ended l arrays)) =
      subst (λ (z : End ℤ). Returned lens code (cost 1 1 0 0) (Strand (at_work m.0 at)) m.1 z) (given_same p.give f l arrays)
      (record { made = gift }) in
      let free = turn_free p.give (Ended l arrays) in
      let w1 = words_both t (spent 1) (both j turn) in
      let w2 = words_both t j turn in
      chain_returns lens code (given p.give f (Ended l arrays)) m.4 back
      (within_cost (omega arith) (omega arith) (omega (arith, free.0)) (omega (arith, free.1, w1, w2)))

  -- the frame of one element, by its region
  pub element_front : (f : Frame) (q r : Region) (n : ℕ) (i x : Named) → q ≡ r → with_element f q n i x ≡ sweep_frame f r n 1 i x
  element_front f q r n i x e = ap (λ (q : Region). with_element f q n i x) e

  -- What each statement's capsules do, as a stretch from the frame in which it is begun: with what its parts have been seen to do.
  module _ (scope : Scope) (layout : Layout) (spare at h : ℕ) (last : Last) (b : Block) (f : Frame) (own : FrameWord → ℕ) (a : Words)
      (arrays : Arrays)
      (held : Holds lens scope layout f own) (shows : Shows lens a arrays) where
    -- after the statement, before the rest
    abbrev pub Made : Statement → Cost → End Locals → Type 0
    Made s k y = Reached lens code (scope ++ lets_of s) (with_lets layout s) f k (Strand (at_work own at)) a (behind s at) y

    abbrev pub Here : Statement → Type 0
    Here s = Place t scope layout spare (Then s b) f

    abbrev pub Stands : Statement → Type 0
    Stands s = HasBlock ps code spare layout at h last (Then s b)

    pub let_made : (x : Named) (e : Expression) → Here (Let x e) → Stands (Let x e) → Made (Let x e) (cost 1 1 0 0) (assigned x e f arrays)
    let_made x e place has = record {
      made = facts.does.declare scope layout f own a arrays at (suc at) x e
          (in_hand scope layout spare (Then (Let x e) b) f own a arrays place held shows) has.0
          place.fits.0.0 (small_let x e (small_first (Let x e) b place)) place.fits.0.1 place.fits.0.2;
    }

    pub assign_made : (x : Named) (e : Expression) → Here (Assign x e) → Stands (Assign x e)
        → Made (Assign x e) (cost 1 2 0 0) (assigned x e f arrays)
    assign_made x e place has = reaches_same lens code (assigned x e f arrays) (record {
      made = facts.does.assign scope layout f own a arrays at (suc (suc at)) spare x e
          (in_hand scope layout spare (Then (Assign x e) b) f own a arrays place held shows)
          (omega (arith, place.room)) has.0.0 has.0.1 place.fits.0.0 place.fits.0.1 (small_assign x e (small_first (Assign x e) b place));
    })

    pub put_made : (x : Named) (i e : Expression) → Here (Put x i e) → Stands (Put x i e) → Made (Put x i e) (cost 1 2 0 0) (stored x i e f arrays)
    put_made x i e place has = reaches_same lens code (stored x i e f arrays) (record {
      made = facts.does.put scope layout f own a arrays at (suc (suc at)) spare x i e
          (in_hand scope layout spare (Then (Put x i e) b) f own a arrays place held shows)
          (omega (arith, place.room)) has.0.0 has.0.1 place.fits.0.0 place.fits.0.1 place.fits.0.2
          (small_put x i e (small_first (Put x i e) b place));
    })

    -- an `if`: its test, and then the block that was chosen
    pub if_tested : (e : Expression) (s u : Block) → Here (If e s u) → Stands (If e s u) → (r : Result ℤ TrapAt) → evaluate f arrays e ≡ r
        → Tested lens code own a at (suc at) (suc (end_of s (suc at))) r
    if_tested e s u place has r is =
        let first = suc (end_of s (suc at)) in
        subst (λ (v : Result ℤ TrapAt). Tested lens code own a at (suc at) first v) is
        (facts.does.test scope layout f own a arrays at first (suc at) e
        (in_hand scope layout spare (Then (If e s u) b) f own a arrays place held shows) has.0.0
        place.fits.0.0 (small_if e s u (small_first (If e s u) b place)))

    pub if_made : (e : Expression) (s u : Block) (c : Bool) (j : Counts) (y : End Locals) → Stands (If e s u)
        → Chain here (cost 1 1 0 0) (Strand (at_work own at)) a (Strand (at_work own (which c (suc at) (suc (end_of s (suc at)))))) a
        → Reached lens code (scope_behind scope (chosen c s u)) (layout_behind layout (chosen c s u)) f (budget t j)
        (Strand (at_work own (which c (suc at) (suc (end_of s (suc at)))))) a (end_of (chosen c s u) (which c (suc at) (suc (end_of s (suc at))))) y
        → Made (If e s u) (cost 1 (2 * j.turns + 2) j.forks (words_of t j)) y
    if_made e s u c j y has test body =
        let first = suc (end_of s (suc at)) in
        let next = suc (end_of u first) in
        let from = which c (suc at) first in
        let on = reaches_on lens code {total = cost 0 (2 * j.turns + 1) j.forks (words_of t j)} (end_of (chosen c s u) from) next y
        (goes_onward (chosen c s u) spare layout from (chosen_hidden c s h) next (chosen_has c spare layout at h e s u has.0))
        (reaches_front lens code (chosen c s u) y body) (within_cost (omega arith) (omega arith) (omega arith) (omega arith)) in
        reaches_same lens code y (chain_reaches lens code {total = cost 1 (2 * j.turns + 2) j.forks (words_of t j)} y test on
        (within_cost (omega arith) (omega arith) (omega arith) (omega arith)))

    -- a call: the callee's frame, and then the callee
    pub call_tried : (s : Side) → Here (tree.Call s) → Stands (tree.Call s) → (r : Result Frame TrapAt) → entered ps f arrays s ≡ r
        → Called lens code ps s (cost 1 1 0 (frame_words (procedure_slots (procedure_named ps s.callee.name)))) own a at (suc at)
        (target_of layout s.target) r
    call_tried s place has r is =
        let x = s.callee.name in
        let words = frame_words (procedure_slots (procedure_named ps x)) in
        subst (λ (v : Result Frame TrapAt). Called lens code ps s (cost 1 1 0 words) own a at (suc at) (target_of layout s.target) v) is
        (facts.does.call scope layout f own a arrays at (suc at) s
        (in_hand scope layout spare (Then (tree.Call s) b) f own a arrays place held shows) has.0
        place.fits.0 (facts.fits x).distinct (facts.stands.each x place.fits.0.callee).slots (small_call s (small_first (tree.Call s) b place)))

    -- the callee at its entry
    pub record CallBegun (s : Side) (g : Frame) : Type 0 where
      pub callee_own : FrameWord → ℕ
      pub callee_holds : Holds lens (scope_of (procedure_named ps s.callee.name))
          (parameter_layout (procedure_named ps s.callee.name).parameters) g callee_own
      pub chain : Chain here (cost 1 1 0 (frame_words (procedure_slots (procedure_named ps s.callee.name)))) (Strand (at_work own at)) a
          (Calling (waits own (suc at) None (target_of layout s.target)) (Strand (at_work callee_own (entry_of code (number_of ps s.callee.name))))) a

    pub call_begun : (s : Side) (g : Frame) → Here (tree.Call s) → Stands (tree.Call s) → entered ps f arrays s ≡ Ok g → CallBegun s g
    call_begun s g place has is =
        let q = call_tried s place has (Ok g) is in
        let words = frame_words (procedure_slots (procedure_named ps s.callee.name)) in record {
          callee_own = q.1.own;
          callee_holds = q.1.holds;
          chain = subst (λ (c : CodeFrame). Chain here (cost 1 1 0 words) (Strand (at_work own at)) a
              (Calling (waits own (suc at) None (target_of layout s.target)) (Strand c)) a) q.1.at q.2;
        }

    pub call_made : (s : Side) (g : Frame) (j : Counts) (y : End ℤ) → Here (tree.Call s) → (q : CallBegun s g)
        → Returned lens code (budget t j) (Strand (at_work q.callee_own (entry_of code (number_of ps s.callee.name)))) a y
        → Made (tree.Call s) (cost 1 (2 * j.turns + 1) j.forks (frame_words (procedure_slots (procedure_named ps s.callee.name)) + words_of t j))
        (returned s.target f y)
    call_made s g j y place q back =
        let words = frame_words (procedure_slots (procedure_named ps s.callee.name)) in
        reaches_same lens code (returned s.target f y)
        (chain_reaches lens code {total = cost 1 (2 * j.turns + 1) j.forks (words + words_of t j)} (returned s.target f y) q.chain
        (call_reaches lens code own s.target (suc at) y place.fits.0.target held back)
        (within_cost (omega arith) (omega arith) (omega arith) (omega arith)))

    -- a fork: the frames of both branches, and then these
    abbrev pub forking_words : Side → Side → ℕ
    forking_words s u = fork_words (procedure_slots (procedure_named ps s.callee.name)) (procedure_slots (procedure_named ps u.callee.name))

    pub fork_tried : (s u : Side) → Here (tree.Fork s u) → Stands (tree.Fork s u) → (r : Result (Frame × Frame) TrapAt)
        → both_entered ps f arrays s u ≡ r
        → Forked lens code ps s u (forking_words s u) own a at (suc at) (target_of layout s.target) (target_of layout u.target) r
    fork_tried s u place has r is =
        let m = s.callee.name in
        let n = u.callee.name in
        let sides = place.fits.0 in
        subst (λ (v : Result (Frame × Frame) TrapAt). Forked lens code ps s u (forking_words s u) own a at (suc at) (target_of layout s.target)
        (target_of layout u.target) v) is
        (facts.does.fork scope layout f own a arrays at (suc at) s u
        (in_hand scope layout spare (Then (tree.Fork s u) b) f own a arrays place held shows) has.0 sides.0 sides.1
        (facts.fits m).distinct (facts.fits n).distinct (facts.stands.each m sides.0.callee).slots (facts.stands.each n sides.1.callee).slots
        (small_fork s u (small_first (tree.Fork s u) b place)))

    pub record ForkBegun (s u : Side) (g g' : Frame) : Type 0 where
      pub left_own : FrameWord → ℕ
      pub right_own : FrameWord → ℕ
      pub left_holds : Holds lens (scope_of (procedure_named ps s.callee.name))
          (parameter_layout (procedure_named ps s.callee.name).parameters) g left_own
      pub right_holds : Holds lens (scope_of (procedure_named ps u.callee.name))
          (parameter_layout (procedure_named ps u.callee.name).parameters) g' right_own
      pub chain : Chain here (cost 1 1 1 (forking_words s u)) (Strand (at_work own at)) a
          (Forking (waits own (suc at) (target_of layout s.target) (target_of layout u.target))
          (Strand (at_work left_own (entry_of code (number_of ps s.callee.name))))
          (Strand (at_work right_own (entry_of code (number_of ps u.callee.name))))) a

    pub fork_begun : (s u : Side) (g g' : Frame) → Here (tree.Fork s u) → Stands (tree.Fork s u) → both_entered ps f arrays s u ≡ Ok (g, g')
        → ForkBegun s u g g'
    fork_begun s u g g' place has is =
        let q = fork_tried s u place has (Ok (g, g')) is in record {
          left_own = q.2.own;
          right_own = q.3.own;
          left_holds = q.2.holds;
          right_holds = q.3.holds;
          chain = subst₂ (λ (c d : CodeFrame). Chain here (cost 1 1 1 (forking_words s u)) (Strand (at_work own at)) a
              (Forking (waits own (suc at) (target_of layout s.target) (target_of layout u.target)) (Strand c) (Strand d)) a) q.2.at q.3.at q.4;
        }

    pub fork_made : (s u : Side) (g g' : Frame) (i j : Counts) (x y : End ℤ) → Here (tree.Fork s u) → (q : ForkBegun s u g g')
        → Returned lens code (budget t i) (Strand (at_work q.left_own (entry_of code (number_of ps s.callee.name)))) a x
        → ((c : Words) → Shows lens c (arrays_of x)
        → Returned lens code (budget t j) (Strand (at_work q.right_own (entry_of code (number_of ps u.callee.name)))) c y)
        → Made (tree.Fork s u) (cost 1 (2 * i.turns + 2 * j.turns + 1) (i.forks + j.forks + 1) (forking_words s u + words_of t i + words_of t j))
        (joined s.target u.target f x y)
    fork_made s u g g' i j x y place q back more =
        let sides = place.fits.0 in
        let left = Strand (at_work q.left_own (entry_of code (number_of ps s.callee.name))) in
        let right = Strand (at_work q.right_own (entry_of code (number_of ps u.callee.name))) in
        let joins = fork_reaches lens code own s.target u.target left right (suc at) x y sides.0.target sides.1.target held back more in
        reaches_same lens code (joined s.target u.target f x y)
        (chain_reaches lens code {total = cost 1 (2 * i.turns + 2 * j.turns + 1) (i.forks + j.forks + 1)
        (forking_words s u + words_of t i + words_of t j)}
        (joined s.target u.target f x y) q.chain joins (within_cost (omega arith) (omega arith) (omega arith) (omega arith)))

    -- a split, and then its block
    pub split_tried : (line : ℕ) (r : Named) (e : Expression) (x y : Named) (s : Block) → Here (Split line r e x y s) → Stands (Split line r e x y s)
        → (v : Result ℕ TrapAt) → then_with (evaluate f arrays e) (split_at line (f.regions r.name)) ≡ v
        → Parted lens code (split_scope scope r x y) (with_parts layout x y) f (f.regions r.name) x y own a at (suc at) v
    split_tried line r e x y s place has v is =
        let fits = place.fits.0 in
        subst (λ (v : Result ℕ TrapAt). Parted lens code (split_scope scope r x y) (with_parts layout x y) f (f.regions r.name) x y own a at
        (suc at) v) is
        (facts.does.split scope layout f own a arrays at (suc at) line r e x y
        (in_hand scope layout spare (Then (Split line r e x y s) b) f own a arrays place held shows) has.0.0
        fits.0 fits.1 (small_split line r e x y s (small_first (Split line r e x y s) b place)) fits.2 fits.3 fits.4 fits.5 fits.6)

    pub split_made : (line : ℕ) (r : Named) (e : Expression) (x y : Named) (s : Block) (n : ℕ) (j : Counts) (u : End Locals) (own' : FrameWord → ℕ)
        → Here (Split line r e x y s) → Stands (Split line r e x y s)
        → Chain here (cost 1 1 0 0) (Strand (at_work own at)) a (Strand (at_work own' (suc at))) a
        → Reached lens code (scope_behind (split_scope scope r x y) s) (layout_behind (with_parts layout x y) s)
        (parts_frame f (f.regions r.name) n x y) (budget t j)
        (Strand (at_work own' (suc at))) a (end_of s (suc at)) u
        → Made (Split line r e x y s) (cost 1 (2 * j.turns + 2) j.forks (words_of t j)) u
    split_made line r e x y s n j u own' place has parted body =
        let next = suc (end_of s (suc at)) in
        let fits = place.fits.0 in
        let whole : Reached lens code scope layout f (budget t j) (Strand (at_work own' (suc at))) a (end_of s (suc at)) u =
        reaches_whole lens code r x y n u fits.5 fits.6 (reaches_front lens code s u body) in
        let on : Reached lens code scope layout f (cost 0 (2 * j.turns + 1) j.forks (words_of t j)) (Strand (at_work own' (suc at))) a next u =
        reaches_on lens code (end_of s (suc at)) next u (goes_onward s spare (with_parts layout x y) (suc at) h next has.0.1) whole
        (within_cost (omega arith) (omega arith) (omega arith) (omega arith)) in
        reaches_same lens code u (chain_reaches lens code {total = cost 1 (2 * j.turns + 2) j.forks (words_of t j)} u parted on
        (within_cost (omega arith) (omega arith) (omega arith) (omega arith)))

    -- an `each`, and then the blocks of its elements
    module _ (i x r : Named) (s : Block) (place : Here (Each i x r s)) (has : Stands (Each i x r s)) where
      abbrev pub slots : ℕ
      slots = hidden_slots (length (caught layout s)) s

      abbrev pub elements : ℕ
      elements = (f.regions r.name).length

      abbrev pub AreLeaves : (n m : ℕ) → Arrays → Counts → End Locals → Type 0
      AreLeaves = Leaves t code facts spare scope layout at h f i x r s has.0 place.fits.0 place.once
          (each_few t scope layout spare i x r s b f place)
          (each_inside scope layout spare i x r s b f place)

      pub each_begun : (own' : FrameWord → ℕ)
          × Holds lens (each_scope scope r i x) (hidden_layout layout i x s) (sweep_frame f (f.regions r.name) 0 elements i x) own'
          × Chain here (cost 1 1 0 (frame_words slots)) (Strand (at_work own at)) a
          (Calling (waits own (suc at) None None) (Strand (at_work own' (entry_of code h)))) a
      each_begun =
          let fits = place.fits.0 in
          facts.does.each scope layout f own a arrays at (suc at) i x r s h
          (in_hand scope layout spare (Then (Each i x r s) b) f own a arrays place held shows) has.0.0 has.0.4
          fits.0 fits.3 fits.4 fits.5 (each_few t scope layout spare i x r s b f place)

      pub each_made : (j : Counts) (y : End Locals) → AreLeaves 0 elements arrays j y
          → Made (Each i x r s) (cost 1 (2 * j.turns + 2) (elements - 1 + j.forks)
          (frame_words slots + ((elements - 1) * fork_words slots slots + words_of t j))) y
      each_made j y leaves =
          let fits = place.fits.0 in
          let few = each_few t scope layout spare i x r s b f place in
          let inside = each_inside scope layout spare i x r s b f place in
          let to = each_begun in
          let all = swept_all t code facts spare scope layout at h f i x r s has.0 fits place.once few inside elements 0 arrays to.0 a
          (omega arith) leaves to.1 shows in
          let forks = elements - 1 + j.forks in
          let words = (elements - 1) * fork_words slots slots + words_of t j in
          let on = each_reaches scope layout f own (suc at) (Strand (at_work to.0 (entry_of code h))) a all.behind
          (cost 1 (2 * j.turns + 1) forks words) y
          (leaves_locals t code facts spare scope layout at h f i x r s has.0 fits place.once few inside leaves) held all.shows all.chain in
          reaches_same lens code y (chain_reaches lens code {total = cost 1 (2 * j.turns + 2) forks (frame_words slots + words)} y to.2 on
          (within_cost (omega arith) (omega arith) (omega arith) (omega arith)))

  -- one turn of a loop: the test, the block, and back
  pub loop_tested : (scope : Scope) (layout : Layout) (spare at h : ℕ) (e : Expression) (s : Block) (f : Frame) (own : FrameWord → ℕ) (a : Words)
      (arrays : Arrays)
      → ((l : Locals) → Place t scope layout spare s (with_locals f l)) → FitsExpression scope layout e → AreSmall (nodes e)
      → HasStatement ps code spare layout at h (While e s) → Holds lens scope layout f own → Shows lens a arrays → (r : Result ℤ TrapAt)
      → evaluate f arrays e ≡ r
      → Tested lens code own a at (suc at) (suc (end_of s (suc at))) r
  loop_tested scope layout spare at h e s f own a arrays place fits small has held shows r is =
      let next = suc (end_of s (suc at)) in
      subst (λ (v : Result ℤ TrapAt). Tested lens code own a at (suc at) next v) is
      (facts.does.test scope layout f own a arrays at next (suc at) e
      (loop_hand scope layout spare s f own a arrays place held shows) has.0 fits small)

  pub turn_made : (scope : Scope) (layout : Layout) (spare at h : ℕ) (e : Expression) (s : Block) (f : Frame) (own : FrameWord → ℕ) (a : Words)
      (j : Counts) (y : End Locals)
      → HasStatement ps code spare layout at h (While e s) → Chain here (cost 1 1 0 0) (Strand (at_work own at)) a (Strand (at_work own (suc at))) a
      → Reached lens code (scope_behind scope s) (layout_behind layout s) f (budget t j) (Strand (at_work own (suc at))) a (end_of s (suc at)) y
      → Reached lens code scope layout f (cost 1 (2 * j.turns + 2) j.forks (words_of t j)) (Strand (at_work own at)) a at y
  turn_made scope layout spare at h e s f own a j y has test body =
      let on = reaches_on lens code {total = cost 0 (2 * j.turns + 1) j.forks (words_of t j)} (end_of s (suc at)) at y
      (goes_onward s spare layout (suc at) h at has.1)
      (reaches_front lens code s y body) (within_cost (omega arith) (omega arith) (omega arith) (omega arith)) in
      chain_reaches lens code y test on (within_cost (omega arith) (omega arith) (omega arith) (omega arith))
