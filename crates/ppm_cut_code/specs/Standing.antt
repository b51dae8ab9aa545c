-- That the capsules of a statement, of a block and of a procedure stand in a code, at their numbers, and that frames have their slots.
use Rattle.std.specs.Prelude.{◌≡◌, ◌≢◌, ℕ, suc, List, [], ◌∷◌, None, length}
use Rattle.ppm_code.specs.declared.act.End.TheVariants as ends
use Rattle.ppm_code.specs.declared.instr.Instr.TheVariants as instr
use Rattle.ppm_code.specs.declared.code.CodeParts.{CodeParts}
use Rattle.ppm_code.specs.Sizes.{slots_of}
use Rattle.ppm_code.specs.Strands.{instrs_of, entry_of}
use Rattle.ppm_tree.specs.Tree.{Statement, Block, Nil, Then, Procedure, ProgramTree}
use Rattle.ppm_tree.specs.Tree as tree
use Rattle.ppm_tree.specs.State.{procedure_named}
use Rattle.ppm_regions.specs.Scope.{first_named}
use Rattle.ppm_cut_code.specs.Layout.{Layout, parameter_layout, caught}
use Rattle.ppm_cut_code.specs.Numbers.{behind, end_of, hidden_behind, hidden_behind_block, halving, halved, element_block}
use Rattle.ppm_cut_code.specs.Slots.{named_slots, procedure_slots, hidden_named_slots, hidden_slots}
use Rattle.ppm_cut_code.specs.Statements.{Last, OnTo, Gives, last_code, let_code, value_code, move_code, element_code}
use Rattle.ppm_cut_code.specs.Statements.{put_code, test_code, split_code, each_code, entry_code, halving_code, hidden_layout}
use Rattle.ppm_cut_code.specs.Statements.{with_lets, with_parts, call_code, fork_code, number_of}

module _ (procedures : List Procedure) (code : CodeParts) where
  abbrev mutual
    pub HasStatement : (spare : ℕ) → Layout → (at h : ℕ) → Statement → Type 0
    HasStatement spare layout at h (tree.Let x e) = instrs_of code at ≡ let_code layout e (suc at)
    HasStatement spare layout at h (tree.Assign x e) =
        (instrs_of code at ≡ value_code layout spare e (suc at)) × (instrs_of code (suc at) ≡ move_code layout spare x (suc (suc at)))
    HasStatement spare layout at h (tree.Put x index e) =
        (instrs_of code at ≡ element_code layout spare index e (suc at)) × (instrs_of code (suc at) ≡ put_code layout spare x (suc (suc at)))
    HasStatement spare layout at h (tree.If e holds other) =
        let first = suc (end_of holds (suc at)) in
        let next = suc (end_of other first) in
        (instrs_of code at ≡ test_code layout e (suc at) first) × HasBlock spare layout (suc at) h (OnTo next) holds
        × HasBlock spare layout first (hidden_behind_block holds h) (OnTo next) other
    HasStatement spare layout at h (tree.While e block) =
        (instrs_of code at ≡ test_code layout e (suc at) (suc (end_of block (suc at)))) × HasBlock spare layout (suc at) h (OnTo at) block
    HasStatement spare layout at h (tree.Call s) = instrs_of code at ≡ call_code procedures layout s (suc at)
    HasStatement spare layout at h (tree.Fork s t) = instrs_of code at ≡ fork_code procedures layout s t (suc at)
    HasStatement spare layout at h (tree.Split line r e x y block) =
        (instrs_of code at ≡ split_code layout line r e (suc at))
        × HasBlock spare (with_parts layout x y) (suc at) h (OnTo (suc (end_of block (suc at)))) block
    HasStatement spare layout at h (tree.Each i x r block) =
        let entry = entry_of code h in
        let names = length (caught layout block) in
        (instrs_of code at ≡ each_code layout r block h (suc at))
        × (instrs_of code entry ≡ entry_code entry)
        × (instrs_of code (halving entry) ≡ halving_code entry h (hidden_slots names block) names r.line)
        × (instrs_of code (halved entry) ≡ instr.Ends ends.Finish ∷ [])
        × (slots_of code h ≡ hidden_slots names block)
        × HasBlock (hidden_named_slots names block) (hidden_layout layout i x block) (element_block entry) (suc h) (Gives None) block

    pub HasBlock : (spare : ℕ) → Layout → (at h : ℕ) → Last → Block → Type 0
    HasBlock spare layout at h last Nil = instrs_of code at ≡ last_code layout last
    HasBlock spare layout at h last (Then s rest) =
        HasStatement spare layout at h s × HasBlock spare (with_lets layout s) (behind s at) (hidden_behind s h) last rest

  -- a procedure of the text stands at its entry, and its frames have its slots
  pub record HasBody (q : ℕ) (p : Procedure) : Type 0 where
    pub h : ℕ
    pub body : HasBlock (named_slots p) (parameter_layout p.parameters) (entry_of code q) h (Gives p.give) p.body
    pub slots : slots_of code q ≡ procedure_slots p

  -- each procedure of the text does
  pub record HasBodies : Type 0 where
    pub each : (x : List ℕ) → first_named (λ p. p.name.name) procedures x ≢ None → HasBody (number_of procedures x) (procedure_named procedures x)
