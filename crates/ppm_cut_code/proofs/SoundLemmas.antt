-- What is known of each procedure of a code, those of the text and hidden ones: names have slots, nothing passes a limit, and the hidden
-- procedures in it are placed.
use Rattle.std.proofs.Common.{◌≡◌, ◌≤◌, ◌+◌, cond, Bool, true, false, ℕ, suc, List, [], ◌∷◌, ◌++◌, length, refl, sym, subst, arith}
use Rattle.std.specs.List.{AllByRecursion}
use Rattle.std.proofs.lemmas.List.Elements.{All-head, All-tail, recursion_from_All}
use Rattle.ppm_code.specs.declared.code.CodeParts.{CodeParts}
use Rattle.ppm_code.specs.Code.{IsLine}
use Rattle.ppm_tree.specs.Tree.{Statement, Block, Nil, Then, Procedure}
use Rattle.ppm_tree.specs.Tree as tree
use Rattle.ppm_tree.specs.Parts.{statement_and_inner, statements_in}
use Rattle.ppm_tree.specs.Limits.{IsNamed, IsSmallStatement, IsSmall}
use Rattle.ppm_cut_bounds.specs.declared.bound.Bound.TheVariants as bound
use Rattle.ppm_cut_bounds.specs.Names.{caught_count}
use Rattle.ppm_cut_bounds.specs.Slots.{has_put, put_slots}
use Rattle.ppm_cut_bounds.specs.Slots as counted
use Rattle.ppm_cut_bounds.specs.Bounds.{KeepsAt, Keeps, count_of, limit_of}
use Rattle.ppm_cut_bounds.proofs.Keeping.{all-first, all-second}
use Rattle.ppm_regions.specs.Scope.{Scope, lets_of}
use Rattle.ppm_cut_code.specs.Layout.{Layout, parameter_layout, caught}
use Rattle.ppm_cut_code.specs.Numbers.{hidden_behind, hidden_behind_block}
use Rattle.ppm_cut_code.specs.Slots.{has_assignment, spare_slots, procedure_slots, hidden_slots}
use Rattle.ppm_cut_code.specs.Statements.{with_lets, with_parts, hidden_layout}
use Rattle.ppm_cut_code.specs.Routines.{Sweep, Routine, OfText, Hidden, sweep_layout, routine_slots, hidden_of}
use Rattle.ppm_cut_code.specs.Routines.{hidden_of_block, texts_from, hidden_from, routines_of}
use Rattle.ppm_regions.specs.Scope.{split_scope, each_scope}
use Rattle.ppm_cut_code.specs.Fits.{FitsStatement, FitsBlock, FitsProcedure}
use Rattle.ppm_cut_code.proofs.PlaceLemmas.{past, ArePlaced, placed_first, placed_second, hidden_past, hidden_past_block, texts_past, past_length}
use Rattle.ppm_cut_code.proofs.CaughtLemmas.{IsEachOnce, once_lets, each_once, once_parts, once_hidden, caught_is_counted}
use Rattle.ppm_cut_code.proofs.FitLemmas.{line_fits}

-- at most one spare slot is not counted by the bounds
spare_at_most : (b : Block) → spare_slots b ≤ put_slots b + 1
spare_at_most b = go (has_put b) (has_assignment b)
  where
    go : (p a : Bool) → cond p 2 (cond a 1 0) ≤ cond p 2 0 + 1
    go true a = omega arith
    go false true = omega arith
    go false false = omega arith

-- the most slots that a procedure has, or a hidden one
abbrev pub most_slots : ℕ
most_slots = 25

text_slots : (p : Procedure) → counted.slots_of p ≤ 24 → procedure_slots p ≤ most_slots
text_slots p h = let s = spare_at_most p.body in omega (arith, h, s)

sweep_slots : (names caught : ℕ) (b : Block) → names ≤ caught → counted.hidden_slots caught b ≤ 24 → hidden_slots names b ≤ most_slots
sweep_slots names caught b few h = let s = spare_at_most b in omega (arith, few, h, s)

abbrev pub AreSmall : List Statement → Type 0
AreSmall ss = AllByRecursion IsSmallStatement ss

abbrev HasFewSlots : Statement → Type 0
HasFewSlots s = count_of bound.Slots s ≤ limit_of bound.Slots

module _ (procedures : List Procedure) where
  module _ (code : CodeParts) where
    -- a block, with the layout in front of it and the number of its first hidden procedure
    pub record IsSound (layout : Layout) (h : ℕ) (b : Block) : Type 0 where
      pub scope : Scope
      pub fits : FitsBlock procedures scope layout b
      pub small : AreSmall (statements_in b)
      pub placed : ArePlaced procedures code h (hidden_of_block layout h b)

    -- a procedure of the text
    pub record IsSoundText (p : Procedure) (h : ℕ) : Type 0 where
      pub fits : FitsProcedure procedures p
      pub small : IsSmall p
      pub slots : procedure_slots p ≤ most_slots
      pub placed : ArePlaced procedures code h (hidden_of_block (parameter_layout p.parameters) h p.body)

    -- the hidden procedure with the number q
    pub record IsSoundSweep (q : ℕ) (s : Sweep) : Type 0 where
      pub number : q ≡ s.number
      pub line : IsLine s.line
      pub slots : hidden_slots (length s.names) s.block ≤ most_slots
      pub block : IsSound (sweep_layout s) (suc s.number) s.block

    abbrev pub IsSoundRoutine : ℕ → Routine → Type 0
    IsSoundRoutine q (OfText p h) = IsSoundText p h
    IsSoundRoutine q (Hidden s) = IsSoundSweep q s

    -- those from the number q on
    abbrev pub AreSound : ℕ → List Routine → Type 0
    AreSound q [] = Unit {0}
    AreSound q (r ∷ rs) = IsSoundRoutine q r × AreSound (suc q) rs

    sound-append : (xs ys : List Routine) (q next : ℕ) → past xs q ≡ next → AreSound q xs → AreSound next ys → AreSound q (xs ++ ys)
    sound-append [] ys q next e f g = subst (λ (k : ℕ). AreSound k ys) (sym e) g
    sound-append (x ∷ xs) ys q next e f g = (f.0, sound-append xs ys (suc q) next e f.1 g)

    mutual
      -- the hidden procedures of a statement
      statement_sound : (scope : Scope) (layout : Layout) (h : ℕ) (s : Statement) → FitsStatement procedures scope layout s
          → AreSmall (statement_and_inner s) → KeepsAt bound.Slots (statement_and_inner s) → IsEachOnce layout
          → ArePlaced procedures code h (hidden_of layout h s) → AreSound h (hidden_of layout h s)
      statement_sound scope layout h (tree.Let x e) f small few once placed = tt
      statement_sound scope layout h (tree.Assign x e) f small few once placed = tt
      statement_sound scope layout h (tree.Put x index e) f small few once placed = tt
      statement_sound scope layout h (tree.If e holds other) f small few once placed =
          let between = hidden_behind_block holds h in
          let xs = hidden_of_block layout h holds in
          let ys = hidden_of_block layout between other in
          let count = hidden_past_block layout h holds in
          let here = statements_in holds in
          let there = statements_in other in
          sound-append xs ys h between count
          (block_sound scope layout h holds f.1 (all-first IsSmallStatement here there small.1) (all-first HasFewSlots here there few.1) once
          (placed_first procedures code xs ys h placed))
          (block_sound scope layout between other f.2 (all-second IsSmallStatement here there small.1) (all-second HasFewSlots here there few.1) once
          (placed_second procedures code xs ys h between count placed))
      statement_sound scope layout h (tree.While e block) f small few once placed = block_sound scope layout h block f.1 small.1 few.1 once placed
      statement_sound scope layout h (tree.Call s) f small few once placed = tt
      statement_sound scope layout h (tree.Fork s t) f small few once placed = tt
      statement_sound scope layout h (tree.Split line r e x y block) f small few once placed =
          block_sound (split_scope scope r x y) (with_parts layout x y) h block f.7 small.1 few.1 (once_parts layout x y once f.2 f.3 f.4) placed
      statement_sound scope layout h (tree.Each i x r block) f small few once placed =
          let inner = each_scope scope r i x in
          let own = hidden_layout layout i x block in
          let names : IsNamed r =
          All-head IsNamed r [] (All-tail IsNamed x (r ∷ []) (All-tail IsNamed i (x ∷ r ∷ []) small.0.names)) in (
            record {
              number = refl;
              line = line_fits names.line;
              slots = sweep_slots (length (caught layout block)) (caught_count i x block) block
                  (caught_is_counted layout i x block once f.1 f.2) few.0;
              block = record { scope = inner; fits = f.6; small = small.1; placed = placed.1 };
            },
            block_sound inner own (suc h) block f.6 small.1 few.1 (once_hidden layout i x block once f.1 f.2 f.3) placed.1,
          )

      block_sound : (scope : Scope) (layout : Layout) (h : ℕ) (b : Block) → FitsBlock procedures scope layout b
          → AreSmall (statements_in b) → KeepsAt bound.Slots (statements_in b) → IsEachOnce layout
          → ArePlaced procedures code h (hidden_of_block layout h b) → AreSound h (hidden_of_block layout h b)
      block_sound scope layout h Nil f small few once placed = tt
      block_sound scope layout h (Then s rest) f small few once placed =
          let next = hidden_behind s h in
          let later = with_lets layout s in
          let xs = hidden_of layout h s in
          let ys = hidden_of_block later next rest in
          let count = hidden_past layout h s in
          let here = statement_and_inner s in
          let there = statements_in rest in
          sound-append xs ys h next count
          (statement_sound scope layout h s f.0 (all-first IsSmallStatement here there small) (all-first HasFewSlots here there few) once
          (placed_first procedures code xs ys h placed))
          (block_sound (scope ++ lets_of s) later next rest f.1 (all-second IsSmallStatement here there small) (all-second HasFewSlots here there few)
          (once_lets procedures scope layout s f.0 once) (placed_second procedures code xs ys h next count placed))

    -- the procedures of a list, and the hidden ones in them
    texts_sound : (ps : List Procedure) (q h : ℕ) → AllByRecursion (FitsProcedure procedures) ps → AllByRecursion IsSmall ps
        → AllByRecursion (Keeps bound.Slots) ps → ArePlaced procedures code h (hidden_from h ps)
        → AreSound q (texts_from h ps) × AreSound h (hidden_from h ps)
    texts_sound [] q h fits small few placed = (tt, tt)
    texts_sound (p ∷ ps) q h fits small few placed =
        let layout = parameter_layout p.parameters in
        let next = hidden_behind_block p.body h in
        let xs = hidden_of_block layout h p.body in
        let ys = hidden_from next ps in
        let count = hidden_past_block layout h p.body in
        let own = placed_first procedures code xs ys h placed in
        let rest = texts_sound ps (suc q) next fits.1 small.1 few.1 (placed_second procedures code xs ys h next count placed) in
        let body = block_sound _ layout h p.body fits.0.body
        (recursion_from_All IsSmallStatement (statements_in p.body) small.0.statements) few.0.hidden
        (each_once layout fits.0.distinct) own in (
          (
            record {
              fits = fits.0;
              small = small.0;
              slots = text_slots p few.0.own;
              placed =
                  own;
            },
            rest.0,
          ),
          sound-append xs ys h next count body rest.1,
        )

    pub all_sound : AllByRecursion (FitsProcedure procedures) procedures → AllByRecursion IsSmall procedures
        → AllByRecursion (Keeps bound.Slots) procedures → ArePlaced procedures code 0 (routines_of procedures) → AreSound 0 (routines_of procedures)
    all_sound fits small few placed =
        let n = length procedures in
        let texts = texts_from n procedures in
        let hidden = hidden_from n procedures in
        let a = texts_past n procedures 0 in
        let b = past_length procedures 0 in
        let count : past texts 0 ≡ n = omega (arith, a, b) in
        let both = texts_sound procedures 0 n fits small few (placed_second procedures code texts hidden 0 n count placed) in
        sound-append texts hidden 0 n count both.0 both.1

    -- each has few slots
    pub routine_few : (q : ℕ) (r : Routine) → IsSoundRoutine q r → routine_slots r ≤ most_slots
    routine_few q (OfText p h) s = s.slots
    routine_few q (Hidden s) h = h.slots
