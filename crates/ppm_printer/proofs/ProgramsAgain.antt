-- The tokens of a program derive it, lines apart.
use Rattle.std.proofs.Common.{◌≡◌, ℕ, List, [], ◌∷◌, ◌++◌, refl, append_assoc}
use Rattle.std.specs.List.{AllByRecursion, flat_map}
use Rattle.ppm_grammar.specs.Rows.{first, later}
use Rattle.ppm_tree.specs.declared.tree.Array.{Array}
use Rattle.ppm_tree.specs.declared.tree.ArrayInput.{ArrayInput}
use Rattle.ppm_tree.specs.Tree.{Procedure, ProgramTree}
use Rattle.ppm_rows.specs.Phrases as g
use Rattle.ppm_rows.specs.Values as v
use Rattle.ppm_printer.specs.Canonical.{array_tokens, procedure_tokens, input_tokens, program_tokens}
use Rattle.ppm_tree.specs.Lines.{without_lines}
use Rattle.ppm_printer.proofs.LexingLemmas.{located_from}
use Rattle.ppm_printer.proofs.Fine.{FineProcedure, FineInput, FineProgram}
use Rattle.ppm_printer.proofs.Reading.{done, row, Stands, regroup}
use Rattle.ppm_printer.proofs.DeclarationsAgain.{procedure_again, array_again, input_again}

-- what is left of a program: inputs, procedures and inputs, all
abbrev SameProgram : ProgramTree → ProgramTree → Type 0
SameProgram t again = without_lines again ≡ without_lines t

abbrev program : List Array → List Procedure → List ArrayInput → ProgramTree
program arrays procedures inputs = record { arrays = arrays; procedures = procedures; inputs = inputs }

inputs_again : (is : List ArrayInput) (p l : ℕ) → AllByRecursion FineInput is
    → Stands v.Program (SameProgram (program [] [] is)) 0 g.Source (located_from p l (flat_map input_tokens is)) []
inputs_again [] p l fine = record {
  again = program [] [] [];
  same = refl;
  place = p;
  line = l;
  reads = λ xs vs rest next. row 0 g.Source first done next refl;
}
inputs_again (x ∷ is) p l fine =
    let a = input_again x 0 p l (flat_map input_tokens is) fine.0 in
    let others = inputs_again is a.place a.line fine.1 in
    let t = others.again in
    record {
      again = program t.arrays t.procedures (a.again ∷ t.inputs);
      same = λ i. let u = others.same i in program u.arrays u.procedures (a.same i ∷ u.inputs);
      place = others.place;
      line = others.line;
      reads = λ xs vs rest next. row 0 g.Source (later first) (a.reads _ _ _ (others.reads _ _ _ done)) next refl;
    }

procedures_again : (ps : List Procedure) (is : List ArrayInput) (p l : ℕ) → AllByRecursion FineProcedure ps → AllByRecursion FineInput is
    → Stands v.Program (SameProgram (program [] ps is)) 0 g.Source (located_from p l (flat_map procedure_tokens ps ++ flat_map input_tokens is)) []
procedures_again [] is p l fine also = inputs_again is p l also
procedures_again (x ∷ ps) is p l fine also =
    let behind = flat_map procedure_tokens ps ++ flat_map input_tokens is in
    let a = procedure_again x 0 p l behind fine.0 in
    let others = procedures_again ps is a.place a.line fine.1 also in
    let t = others.again in
    regroup v.Program (SameProgram (program [] (x ∷ ps) is)) 0 g.Source p l []
    (append_assoc (procedure_tokens x) (flat_map procedure_tokens ps) (flat_map input_tokens is))
    (record {
      again = program t.arrays (a.again ∷ t.procedures) t.inputs;
      same = λ i. let u = others.same i in program u.arrays (a.same i ∷ u.procedures) u.inputs;
      place = others.place;
      line = others.line;
      reads = λ xs vs rest next. row 0 g.Source (later first) (a.reads _ _ _ (others.reads _ _ _ done)) next refl;
    })

arrays_again : (xs : List Array) (ps : List Procedure) (is : List ArrayInput) (p l : ℕ) → AllByRecursion FineProcedure ps → AllByRecursion FineInput is
    → Stands v.Program (SameProgram (program xs ps is)) 0 g.Source
    (located_from p l (flat_map array_tokens xs ++ (flat_map procedure_tokens ps ++ flat_map input_tokens is))) []
arrays_again [] ps is p l fine also = procedures_again ps is p l fine also
arrays_again (x ∷ xs) ps is p l fine also =
    let behind = flat_map procedure_tokens ps ++ flat_map input_tokens is in
    let a = array_again x 0 p l (flat_map array_tokens xs ++ behind) in
    let others = arrays_again xs ps is a.place a.line fine also in
    let t = others.again in
    regroup v.Program (SameProgram (program (x ∷ xs) ps is)) 0 g.Source p l []
    (append_assoc (array_tokens x) (flat_map array_tokens xs) behind)
    (record {
      again = program (a.again ∷ t.arrays) t.procedures t.inputs;
      same = λ i. let u = others.same i in program (a.same i ∷ u.arrays) u.procedures u.inputs;
      place = others.place;
      line = others.line;
      reads = λ xs vs rest next. row 0 g.Source (later first) (a.reads _ _ _ (others.reads _ _ _ done)) next refl;
    })

-- a program
pub program_again : (t : ProgramTree) → FineProgram t → Stands v.Program (SameProgram t) 0 g.Source (located_from 0 1 (program_tokens t)) []
program_again t fine =
    regroup v.Program (SameProgram t) 0 g.Source 0 1 []
    (append_assoc (flat_map array_tokens t.arrays) (flat_map procedure_tokens t.procedures) (flat_map input_tokens t.inputs))
    (arrays_again t.arrays t.procedures t.inputs 0 1 fine.procedures fine.inputs)
