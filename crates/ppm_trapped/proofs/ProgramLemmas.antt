-- The walk of `main` is that of the program.
use Rattle.std.proofs.Common.{◌≡◌, ℤ, List, Some, sym, ap, subst, ◌∙◌, map, codes}
use Rattle.ppm_tree.specs.declared.tree.Proc.{Proc}
use Rattle.ppm_tree.specs.declared.tree.Tree as declared
use Rattle.ppm_tree.specs.Tree.{Procedure, ProgramTree, procedure_of, tree_of}
use Rattle.ppm_tree.specs.State.{Frame, Arrays, procedure_named}
use Rattle.ppm_tree.specs.Meaning.{Plain, Ended, Enters}
use Rattle.ppm_tree.specs.Program.{main_of, main_frame, values_of, initial_arrays}
use Rattle.ppm_trapped.specs.declared.told.Told.{Told}
use Rattle.ppm_trapped.specs.Sites.{Point, Begins}
use Rattle.ppm_trapped.specs.Walks.{IsTold, EndsProcedure, EndsSo, IsToldOfRun}

-- what is so of the procedures, of `main`, its frame and the arrays is so of the program's
moved : (t : ProgramTree) (Has : List Procedure → Procedure → Frame → Arrays → Type 0) (ps : List Procedure) (m : Procedure) (f : Frame) (a : Arrays)
    → ps ≡ t.procedures → procedure_named ps (codes "main") ≡ m → f ≡ main_frame t.arrays m.parameters → a ≡ values_of (initial_arrays t)
    → Has ps m f a → Has t.procedures (main_of t) (main_frame t.arrays (main_of t).parameters) (values_of (initial_arrays t))
moved t Has ps m f a e named is from w =
    let named' : main_of t ≡ m = ap (λ (qs : List Procedure). procedure_named qs (codes "main")) (sym e) ∙ named in
    subst (λ (a : Arrays). Has t.procedures (main_of t) (main_frame t.arrays (main_of t).parameters) a) from
    (subst (λ (m : Procedure). Has t.procedures m (main_frame t.arrays m.parameters) a) (sym named')
    (subst (λ (f : Frame). Has t.procedures m f a) is (subst (λ (ps : List Procedure). Has ps m f a) e w)))

-- it ends
pub told_none : (t : declared.Tree) (ps : List Proc) (m : Proc) (f : Frame) (a a' : Arrays) (v : ℤ) → ps ≡ t.procedures
    → procedure_named (map procedure_of t.procedures) (codes "main") ≡ procedure_of m → f ≡ main_frame t.arrays (procedure_of m).parameters
    → a ≡ values_of (initial_arrays (tree_of t)) → EndsProcedure (map procedure_of ps) (procedure_of m) f a v a' → EndsSo (tree_of t)
told_none t ps m f a a' v e named is from w =
    record {
      counts = w.counts;
      value = v;
      arrays = a';
      means = moved (tree_of t) (λ ps m f a. Enters Plain ps m f a w.counts (Ended v a')) (map procedure_of ps) (procedure_of m) f a
          (ap (map procedure_of) e) (ap (λ (qs : List Proc). procedure_named (map procedure_of qs) (codes "main")) e ∙ named) is from w.enters;
    }

-- it traps
pub told_some : (t : declared.Tree) (ps : List Proc) (m : Proc) (f : Frame) (a : Arrays) (told : Told) → ps ≡ t.procedures
    → procedure_named (map procedure_of t.procedures) (codes "main") ≡ procedure_of m → f ≡ main_frame t.arrays (procedure_of m).parameters
    → a ≡ values_of (initial_arrays (tree_of t))
    → (z : Point) × Begins (map procedure_of ps) (procedure_of m) f a z × IsTold (map procedure_of ps) z told → IsToldOfRun (tree_of t) (Some told)
told_some t ps m f a told e named is from w =
    let q = moved (tree_of t) (λ ps m f a. Begins ps m f a w.0 × IsTold ps w.0 told) (map procedure_of ps) (procedure_of m) f a
    (ap (map procedure_of) e) (ap (λ (qs : List Proc). procedure_named (map procedure_of qs) (codes "main")) e ∙ named) is from (w.1, w.2) in
    (w.0, record { reached = q.0; trap = q.1.trap }, q.1)
