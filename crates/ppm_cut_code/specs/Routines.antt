-- The code of a program: its procedures, those of the text and the hidden ones after them, each with its capsules.
use Rattle.std.specs.Prelude.{ℕ, suc, List, [], ◌∷◌, ◌++◌, None, length, map, codes}
use Rattle.ppm_code.specs.declared.act.End.TheVariants as ends
use Rattle.ppm_code.specs.declared.instr.Instr.TheVariants as instr
use Rattle.ppm_code.specs.declared.code.Procedure.{Procedure as CodeProcedure}
use Rattle.ppm_code.specs.declared.code.Capsule.{Capsule}
use Rattle.ppm_code.specs.declared.code.CodeParts.{CodeParts}
use Rattle.ppm_tree.specs.Tree.{Statement, Block, Nil, Then, Procedure, ProgramTree}
use Rattle.ppm_tree.specs.Tree as tree
use Rattle.ppm_tree.specs.Program.{main_of, whole_from}
use Rattle.ppm_cut_code.specs.Layout.{Layout, parameter_layout, caught}
use Rattle.ppm_cut_code.specs.Numbers.{end_of, hidden_behind, hidden_behind_block, element_block}
use Rattle.ppm_cut_code.specs.Slots.{named_slots, procedure_slots, hidden_named_slots, hidden_slots}
use Rattle.ppm_cut_code.specs.Statements.{Instrs, Gives, with_lets, with_parts, number_of, entry_code, halving_code, block_code}

-- the hidden procedure of an `each`: its number, the line of the region's name, its part, its first index, the names of outside, its block
pub record Sweep : Type 0 where
  pub number : ℕ
  pub line : ℕ
  pub part : List ℕ
  pub index : List ℕ
  pub names : Layout
  pub block : Block

-- its parameters
abbrev pub sweep_layout : Sweep → Layout
sweep_layout s = s.part ∷ s.index ∷ s.names

-- a procedure of the code: one of the text, with the number of the first hidden procedure in it, or a hidden one
pub data Routine : Type 0 where
  OfText : (procedure : Procedure) (h : ℕ) → Routine
  Hidden : Sweep → Routine

-- the slots of its frames
abbrev pub routine_slots : Routine → ℕ
routine_slots (OfText p h) = procedure_slots p
routine_slots (Hidden s) = hidden_slots (length s.names) s.block

-- the number after its capsules, the first of which has the number `at`
abbrev pub routine_behind : Routine → ℕ → ℕ
routine_behind (OfText p h) at = suc (end_of p.body at)
routine_behind (Hidden s) at = suc (end_of s.block (element_block at))

-- the hidden procedures of a statement and of a block, the first of which has the number h
abbrev mutual
  pub hidden_of : Layout → (h : ℕ) → Statement → List Routine
  hidden_of layout h (tree.If e holds other) = hidden_of_block layout h holds ++ hidden_of_block layout (hidden_behind_block holds h) other
  hidden_of layout h (tree.While e block) = hidden_of_block layout h block
  hidden_of layout h (tree.Split line r e x y block) = hidden_of_block (with_parts layout x y) h block
  hidden_of layout h (tree.Each i x r block) =
      Hidden (record { number = h; line = r.line; part = x.name; index = i.name; names = caught layout block; block = block })
      ∷ hidden_of_block (x.name ∷ i.name ∷ caught layout block) (suc h) block
  hidden_of layout h s = []

  pub hidden_of_block : Layout → (h : ℕ) → Block → List Routine
  hidden_of_block layout h Nil = []
  hidden_of_block layout h (Then s rest) = hidden_of layout h s ++ hidden_of_block (with_lets layout s) (hidden_behind s h) rest

-- the procedures of the text, where the first hidden one has the number h
abbrev pub texts_from : (h : ℕ) → List Procedure → List Routine
texts_from h [] = []
texts_from h (p ∷ procedures) = OfText p h ∷ texts_from (hidden_behind_block p.body h) procedures

-- all hidden ones
abbrev pub hidden_from : (h : ℕ) → List Procedure → List Routine
hidden_from h [] = []
hidden_from h (p ∷ procedures) =
    hidden_of_block (parameter_layout p.parameters) h p.body ++ hidden_from (hidden_behind_block p.body h) procedures

-- all procedures of the code
abbrev pub routines_of : List Procedure → List Routine
routines_of procedures = texts_from (length procedures) procedures ++ hidden_from (length procedures) procedures

-- the slots and the entry of each, where the first one is entered at the capsule `at`
abbrev pub procedures_from : (at : ℕ) → List Routine → List CodeProcedure
procedures_from at [] = []
procedures_from at (r ∷ routines) = record { slots = routine_slots r; entry = at } ∷ procedures_from (routine_behind r at) routines

module _ (procedures : List Procedure) where
  -- the capsules of a procedure
  abbrev pub routine_code : (at : ℕ) → Routine → List Instrs
  routine_code at (OfText p h) = block_code procedures (named_slots p) (parameter_layout p.parameters) at h (Gives p.give) p.body
  routine_code at (Hidden s) =
      entry_code at ∷ halving_code at s.number (hidden_slots (length s.names) s.block) (length s.names) s.line
      ∷ (instr.Ends ends.Finish ∷ [])
      ∷ block_code procedures (hidden_named_slots (length s.names) s.block) (sweep_layout s) (element_block at) (suc s.number) (Gives None) s.block

  -- the capsules of all, the first of which has the number q
  abbrev pub capsules_from : (q at : ℕ) → List Routine → List Capsule
  capsules_from q at [] = []
  capsules_from q at (r ∷ routines) =
      map (λ is. record { procedure = q; instrs = is }) (routine_code at r) ++ capsules_from (suc q) (routine_behind r at) routines

-- The code of a program. Its root is `main`, whose first slots have the regions of the arrays of its parameters.
abbrev pub code_of : ProgramTree → CodeParts
code_of t = record {
  root = number_of t.procedures (codes "main");
  arrays = map (λ p. (whole_from 0 t.arrays p.name.name).array) (main_of t).parameters;
  procedures = procedures_from 0 (routines_of t.procedures);
  capsules = capsules_from t.procedures 0 0 (routines_of t.procedures);
}
