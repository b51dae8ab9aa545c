-- What the simulation stands on: what each construct's capsules do, and that the code and the names of a program are as they are to be.
use Rattle.std.proofs.Common.{◌≡◌, ◌≤◌, ℕ, ◌+◌, ◌*◌, List, [], ◌∷◌, Some, length}
use Rattle.std.specs.List.{sum, sum_by}
use Rattle.std.specs.Set.{distinct_count}
use Rattle.std.specs.Str.{bytes_eq}
use Rattle.std.proofs.lemmas.List.Sums.{sum_by-append}
use Rattle.ppm_strands.specs.Tree.{Words}
use Rattle.ppm_code.specs.declared.code.CodeParts.{CodeParts}
use Rattle.ppm_code.specs.declared.location.FrameWord.{FrameWord}
use Rattle.ppm_tree.specs.declared.named.Named.{Named}
use Rattle.ppm_tree.specs.Tree.{Block, Give, Procedure, ProgramTree}
use Rattle.ppm_tree.specs.Parts.{nodes}
use Rattle.ppm_tree.specs.State.{Frame, Arrays, procedure_named}
use Rattle.ppm_tree.specs.Meaning.{Counts, both}
use Rattle.ppm_regions.specs.Scope.{Scope, each_scope}
use Rattle.ppm_regions.specs.Admission.{IsAdmitted}
use Rattle.ppm_cut_bounds.specs.Names.{without, free_names}
use Rattle.ppm_cut_code.specs.Layout.{Layout, caught}
use Rattle.ppm_cut_code.specs.Fits.{IsNew, FitsBlock, FitsProcedure}
use Rattle.ppm_cut_code.specs.Slots.{named_slots}
use Rattle.ppm_cut_code.specs.Standing.{HasBodies}
use Rattle.ppm_cut_code.specs.Statements.{hidden_layout}
use Rattle.ppm_cut_code.proofs.CaughtLemmas.{IsEachOnce}
use Rattle.ppm_cut_code.proofs.RegionWords.{lengths_of}
use Rattle.ppm_cut_correct.specs.Correct.{words_begun}
use Rattle.ppm_cut_correct.proofs.ChainLemmas.{Cost, cost}
use Rattle.ppm_cut_correct.proofs.Doing.{AreSmall, LetDoes, AssignDoes, PutDoes, TestDoes, SplitDoes, GiveDoes, OnwardDoes}
use Rattle.ppm_cut_correct.proofs.Doing.{FinishDoes, CallDoes, ForkDoes, EachDoes, EntryDoes, HalvingDoes}
use Rattle.ppm_cut_correct.proofs.Places.{IsModest}

module _ (lengths : List ℕ) (code : CodeParts) where
  abbrev pub Everywhere : (Scope → Layout → Frame → (FrameWord → ℕ) → Words → Arrays → ℕ → ℕ → Type 0) → Type 0
  Everywhere P = (scope : Scope) (layout : Layout) (f : Frame) (own : FrameWord → ℕ) (a : Words) (arrays : Arrays) (at next : ℕ)
      → P scope layout f own a arrays at next

  -- all constructs
  pub record AllDo (procedures : List Procedure) : Type 0 where
    pub declare : Everywhere (LetDoes lengths code)
    pub assign : Everywhere (AssignDoes lengths code)
    pub put : Everywhere (PutDoes lengths code)
    pub test : Everywhere (TestDoes lengths code)
    pub split : Everywhere (SplitDoes lengths code)
    pub give : Everywhere (GiveDoes lengths code)
    pub onward : Everywhere (OnwardDoes lengths code)
    pub finish : Everywhere (FinishDoes lengths code)
    pub call : Everywhere (λ scope layout f own a arrays at next. CallDoes lengths code scope layout f own a arrays at next procedures)
    pub fork : Everywhere (λ scope layout f own a arrays at next. ForkDoes lengths code scope layout f own a arrays at next procedures)
    pub each : Everywhere (EachDoes lengths code)
    pub entry : Everywhere (EntryDoes lengths code)
    pub halving : Everywhere (HalvingDoes lengths code)

-- a procedure is small
pub record IsModestProcedure (p : Procedure) : Type 0 where
  pub body : IsModest p.body
  pub few : named_slots p ≤ 24
  pub give : (g : Give) → p.give ≡ Some g → AreSmall (nodes g.value)

-- what is given
pub record Given (t : ProgramTree) (code : CodeParts) : Type 0 where
  pub does : AllDo (lengths_of t.arrays) code t.procedures
  pub stands : HasBodies t.procedures code
  pub fits : (x : List ℕ) → FitsProcedure t.procedures (procedure_named t.procedures x)
  pub modest : (x : List ℕ) → IsModestProcedure (procedure_named t.procedures x)
  pub admitted : IsAdmitted t
  pub small : sum (lengths_of t.arrays) ≤ 4194304
  pub counted : (scope : Scope) (layout : Layout) (i x r : Named) (block : Block) → IsEachOnce layout → IsNew layout i.name → IsNew layout x.name
      → FitsBlock t.procedures (each_scope scope r i x) (hidden_layout layout i x block) block
      → length (caught layout block) ≡ distinct_count bytes_eq (without (i.name ∷ x.name ∷ []) (free_names block))

-- what a stretch may cost: two capsules a turn, its forks, and the words of the frames that it begins
abbrev pub words_of : ProgramTree → Counts → ℕ
words_of t k = sum_by (words_begun t.procedures) k.begun

pub words_both : (t : ProgramTree) (j k : Counts) → words_of t (both j k) ≡ words_of t j + words_of t k
words_both t j k = sum_by-append (words_begun t.procedures) j.begun k.begun

abbrev pub budget : ProgramTree → Counts → Cost
budget t k = cost 0 (2 * k.turns) k.forks (words_of t k)
