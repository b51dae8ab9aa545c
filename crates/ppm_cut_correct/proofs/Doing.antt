-- What the capsules of each construct do, one statement a construct: before it a frame that holds the meaning's frame, after it a chain.
use Rattle.std.proofs.Common.{◌≡◌, ◌≢◌, ◌≤◌, ℕ, zero, suc, ◌+◌, ◌-◌, ◌*◌, ◌/◌, ◌^◌, List, [], ◌∷◌, ◌++◌, Option, Some, None, length}
use Rattle.std.specs.List.{All, sum, flat_map}
use Rattle.ppm_strands.specs.Tree.{Words, Strand, Call as Calling, Fork as Forking, Over}
use Rattle.ppm_code.specs.declared.act.End.TheVariants as ends
use Rattle.ppm_code.specs.declared.instr.Instr.TheVariants as instr
use Rattle.ppm_code.specs.declared.code.CodeParts.{CodeParts}
use Rattle.ppm_code.specs.declared.location.FrameWord.{FrameWord}
use Rattle.ppm_code.specs.declared.location.FrameWord.TheVariants.{Slot, Value}
use Rattle.ppm_code.specs.Sizes.{slots_of}
use Rattle.ppm_code.specs.Strands.{Gave, instrs_of, entry_of}
use Rattle.ppm_tree.specs.declared.named.Named.{Named}
use Rattle.ppm_tree.specs.declared.mode.Mode.TheVariants as mode
use Rattle.ppm_tree.specs.Tree.{Expression, Argument, Side, Block, Give, Procedure}
use Rattle.ppm_tree.specs.Limits.{IsNode}
use Rattle.ppm_tree.specs.Parts.{nodes}
use Rattle.ppm_tree.specs.State.{then_with, Region, Frame, Arrays, split_at, evaluate, entered, both_entered, procedure_named}
use Rattle.ppm_tree.specs.Meaning.{Ended, assigned, stored, given}
use Rattle.ppm_ownership.specs.Coming.{stretch}
use Rattle.ppm_regions.specs.Scope.{Scope, declared, plain}
use Rattle.ppm_cut_code.specs.Layout.{Layout, target_of, parameter_layout, caught}
use Rattle.ppm_regions.specs.Scope.{split_scope, each_scope}
use Rattle.ppm_cut_code.specs.Fits.{IsNew, IsDistinctLayout, IsLocal, IsRegion, FitsExpression, FitsSide}
use Rattle.ppm_cut_code.specs.Numbers.{halving, halved, element_block}
use Rattle.ppm_cut_code.specs.Slots.{hidden_slots, frame_words, fork_words}
use Rattle.ppm_cut_code.specs.Statements.{onward, let_code, value_code, move_code, element_code, put_code, test_code}
use Rattle.ppm_cut_code.specs.Statements.{split_code, give_code, each_code, entry_code, halving_code, with_parts}
use Rattle.ppm_cut_code.specs.Statements.{hidden_layout, callee_slots, callee_number, call_code, fork_code}
use Rattle.ppm_cut_code.proofs.RegionWords.{region_word}
use Rattle.ppm_cut_correct.proofs.ChainLemmas.{cost, Chain}
use Rattle.ppm_cut_correct.proofs.Holding.{Shows, Lies, Holds, sweep_frame, at_work, waits, strands, Reaches, Returns, Tested, Parted, Called, Forked}

-- nodes of expressions that keep the limits: as many as a statement may have, and each literal a value
pub record AreSmall (es : List Expression) : Type 0 where
  pub count : length es ≤ 48
  pub each : All IsNode es

-- the nodes of arguments
abbrev pub argument_nodes : List Argument → List Expression
argument_nodes arguments = flat_map (λ a. nodes a.value) arguments

module _ (lengths : List ℕ) (code : CodeParts) where
  -- a frame of the code and shared words in which a frame of the meaning and arrays are held
  pub record InHand (scope : Scope) (layout : Layout) (f : Frame) (own : FrameWord → ℕ) (a : Words) (arrays : Arrays) : Type 0 where
    pub small : sum lengths ≤ 4194304
    pub holds : Holds lengths scope layout f own
    pub shows : Shows lengths a arrays
    pub lies : Lies lengths scope f

  module _ (scope : Scope) (layout : Layout) (f : Frame) (own : FrameWord → ℕ) (a : Words) (arrays : Arrays) (at next : ℕ) where
    abbrev pub LetDoes : Type 0
    LetDoes = (x : Named) (e : Expression) → InHand scope layout f own a arrays
        → instrs_of code at ≡ let_code layout e next → FitsExpression scope layout e → AreSmall (nodes e)
        → IsNew layout x.name → declared scope x.name ≡ None
        → Reaches lengths code (scope ++ plain mode.Int x ∷ []) (layout ++ x.name ∷ []) f (cost 1 1 0 0) (Strand (at_work own at)) a next
        (assigned x e f arrays)

    abbrev pub AssignDoes : Type 0
    AssignDoes = (spare : ℕ) (x : Named) (e : Expression) → InHand scope layout f own a arrays → length layout ≤ spare
        → instrs_of code at ≡ value_code layout spare e (suc at) → instrs_of code (suc at) ≡ move_code layout spare x next
        → IsLocal scope layout x → FitsExpression scope layout e → AreSmall (nodes e)
        → Reaches lengths code scope layout f (cost 1 2 0 0) (Strand (at_work own at)) a next (assigned x e f arrays)

    abbrev pub PutDoes : Type 0
    PutDoes = (spare : ℕ) (x : Named) (i e : Expression) → InHand scope layout f own a arrays → length layout ≤ spare
        → instrs_of code at ≡ element_code layout spare i e (suc at) → instrs_of code (suc at) ≡ put_code layout spare x next
        → IsRegion scope layout x → FitsExpression scope layout i → FitsExpression scope layout e → AreSmall (nodes i ++ nodes e)
        → Reaches lengths code scope layout f (cost 1 2 0 0) (Strand (at_work own at)) a next (stored x i e f arrays)

    abbrev pub TestDoes : Type 0
    TestDoes = (inside : ℕ) (e : Expression) → InHand scope layout f own a arrays
        → instrs_of code at ≡ test_code layout e inside next → FitsExpression scope layout e → AreSmall (nodes e)
        → Tested lengths code own a at inside next (evaluate f arrays e)

    abbrev pub SplitDoes : Type 0
    SplitDoes = (line : ℕ) (r : Named) (e : Expression) (x y : Named) → InHand scope layout f own a arrays
        → instrs_of code at ≡ split_code layout line r e next → IsRegion scope layout r → FitsExpression scope layout e → AreSmall (nodes e)
        → IsNew layout x.name → IsNew layout y.name → x.name ≢ y.name → declared scope x.name ≡ None → declared scope y.name ≡ None
        → Parted lengths code (split_scope scope r x y) (with_parts layout x y) f (f.regions r.name) x y own a at next
        (then_with (evaluate f arrays e) (split_at line (f.regions r.name)))

    abbrev pub GiveDoes : Type 0
    GiveDoes = (g : Option Give) → InHand scope layout f own a arrays
        → instrs_of code at ≡ give_code layout g → ((h : Give) → g ≡ Some h → FitsExpression scope layout h.value × AreSmall (nodes h.value))
        → Returns lengths code (cost 1 1 0 0) (Strand (at_work own at)) a (given g f (Ended f.locals arrays))

    abbrev pub OnwardDoes : Type 0
    OnwardDoes = instrs_of code at ≡ onward next
        → Chain (strands lengths code) (cost 1 1 0 0) (Strand (at_work own at)) a (Strand (at_work own next)) a

    abbrev pub FinishDoes : Type 0
    FinishDoes = instrs_of code at ≡ instr.Ends ends.Finish ∷ [] → own Value ≡ 0
        → Chain (strands lengths code) (cost 1 1 0 0) (Strand (at_work own at)) a (Over (Gave 0)) a

    module _ (procedures : List Procedure) where
      abbrev pub CallDoes : Type 0
      CallDoes = (s : Side) → InHand scope layout f own a arrays
          → instrs_of code at ≡ call_code procedures layout s next → FitsSide procedures scope layout s
          → IsDistinctLayout (parameter_layout (procedure_named procedures s.callee.name).parameters)
          → slots_of code (callee_number procedures s) ≡ callee_slots procedures s
          → AreSmall (argument_nodes s.arguments)
          → Called lengths code procedures s (cost 1 1 0 (frame_words (callee_slots procedures s))) own a at next (target_of layout s.target)
          (entered procedures f arrays s)

      abbrev pub ForkDoes : Type 0
      ForkDoes = (s u : Side) → InHand scope layout f own a arrays
          → instrs_of code at ≡ fork_code procedures layout s u next → FitsSide procedures scope layout s → FitsSide procedures scope layout u
          → IsDistinctLayout (parameter_layout (procedure_named procedures s.callee.name).parameters)
          → IsDistinctLayout (parameter_layout (procedure_named procedures u.callee.name).parameters)
          → slots_of code (callee_number procedures s) ≡ callee_slots procedures s
          → slots_of code (callee_number procedures u) ≡ callee_slots procedures u
          → AreSmall (argument_nodes s.arguments ++ argument_nodes u.arguments)
          → Forked lengths code procedures s u (fork_words (callee_slots procedures s) (callee_slots procedures u)) own a at next
          (target_of layout s.target) (target_of layout u.target) (both_entered procedures f arrays s u)

    -- an `each`: its hidden procedure begins with the whole region, from the index 0 on
    abbrev pub EachDoes : Type 0
    EachDoes = (i x r : Named) (block : Block) (h : ℕ) → InHand scope layout f own a arrays
        → instrs_of code at ≡ each_code layout r block h next → slots_of code h ≡ hidden_slots (length (caught layout block)) block
        → IsRegion scope layout r
        → i.name ≢ x.name → declared scope i.name ≡ None → declared scope x.name ≡ None → length (caught layout block) ≤ 24
        → (own' : FrameWord → ℕ)
        × Holds lengths (each_scope scope r i x) (hidden_layout layout i x block)
        (sweep_frame f (f.regions r.name) 0 (f.regions r.name).length i x) own'
        × Chain (strands lengths code) (cost 1 1 0 (frame_words (hidden_slots (length (caught layout block)) block))) (Strand (at_work own at)) a
        (Calling (waits own next None None) (Strand (at_work own' (entry_of code h)))) a

    -- the hidden procedure at its entry, with so many elements in hand
    abbrev pub Entered : (m : ℕ) → Type 0
    Entered zero = Chain (strands lengths code) (cost 1 1 0 0) (Strand (at_work own at)) a (Over (Gave 0)) a
    Entered (suc zero) = Chain (strands lengths code) (cost 1 1 0 0) (Strand (at_work own at)) a (Strand (at_work own (element_block at))) a
    Entered (suc (suc m)) = Chain (strands lengths code) (cost 1 1 0 0) (Strand (at_work own at)) a (Strand (at_work own (halving at))) a

    abbrev pub EntryDoes : Type 0
    EntryDoes = (start m : ℕ) → instrs_of code at ≡ entry_code at → own (Slot 0) ≡ start * 2 ^ 32 + m → m ≤ 4194304 → own Value ≡ 0 → Entered m

    -- it halves what it has in hand; `at` is where it was entered, and the scope and layout are those around the `each`
    abbrev pub HalvingDoes : Type 0
    HalvingDoes = (i x r : Named) (block : Block) (h : ℕ) (q : Region) (n m : ℕ)
        → instrs_of code (halving at) ≡ halving_code at h (hidden_slots (length (caught layout block)) block) (length (caught layout block)) r.line
        → slots_of code h ≡ hidden_slots (length (caught layout block)) block → at ≡ entry_of code h
        → Holds lengths (each_scope scope r i x) (hidden_layout layout i x block) (sweep_frame f q n m i x) own
        → i.name ≢ x.name → declared scope i.name ≡ None → declared scope x.name ≡ None → length (caught layout block) ≤ 24
        → region_word lengths (stretch n m q) ≤ 4194304 * 2 ^ 32 + 4194304 → n + m ≤ 4194304
        → (left right : FrameWord → ℕ)
        × Holds lengths (each_scope scope r i x) (hidden_layout layout i x block) (sweep_frame f q n (m / 2) i x) left
        × Holds lengths (each_scope scope r i x) (hidden_layout layout i x block) (sweep_frame f q (n + m / 2) (m - m / 2) i x) right
        × Chain (strands lengths code)
        (cost 1 1 1 (fork_words (hidden_slots (length (caught layout block)) block) (hidden_slots (length (caught layout block)) block)))
        (Strand (at_work own (halving at))) a
        (Forking (waits own (halved at) None None) (Strand (at_work left at)) (Strand (at_work right at))) a
