-- The code respects what frames own: each of its capsules is tame, and frames go on as they may.
use Rattle.std.proofs.Common.{ℕ, List, [], sym, subst}
use Rattle.ppm_strands.specs.Tree.{Words}
use Rattle.ppm_strands.specs.Capsule.{Memory}
use Rattle.ppm_strands.specs.Strand.{Frame as CapsuleFrame, own_of, start, code_of as strands_in}
use Rattle.ppm_code.specs.declared.act.End.TheVariants as ends
use Rattle.ppm_code.specs.declared.code.CodeParts.{CodeParts}
use Rattle.ppm_code.specs.declared.instr.Instr.{Instr}
use Rattle.ppm_code.specs.declared.location.FrameWord.{FrameWord}
use Rattle.ppm_code.specs.Locations.{Where, code_locations}
use Rattle.ppm_code.specs.Strands.{Point, Result, instrs_of, table_of, kept, resume, Gave, Trapped, with_value}
use Rattle.ppm_tree.specs.Tree.{Expression, Argument, Side, Statement, Block, Nil, Then, Procedure, ProgramTree}
use Rattle.ppm_tree.specs.Tree as tree
use Rattle.ppm_tree.specs.State.{Frame}
use Rattle.ppm_regions.specs.Scope.{Scope}
use Rattle.ppm_regions.specs.Admission.{IsAdmitted}
use Rattle.ppm_regions.specs.Correct.{KeepsRules}
use Rattle.ppm_cut_code.specs.Layout.{Layout}
use Rattle.ppm_cut_code.specs.Statements.{Last}
use Rattle.ppm_strands.specs.Labels.{IsGood, Respects}
use Rattle.ppm_cut_sound.proofs.OwnLemmas.{Label, OwnsWord, WritesWord, AreShort, writes_owned}
use Rattle.ppm_cut_sound.proofs.TameLemmas.{Goes, go_end}
use Rattle.ppm_cut_sound.proofs.StandLemmas.{level, IsAt, at_on, same_value}
use Rattle.ppm_cut_sound.proofs.LevelLemmas.{Runs, Begins, Moves, Puts, Enters, Halves, IsDone, Waits, ForCallee, ForHalves}
use Rattle.ppm_cut_sound.proofs.BlockTame.{world, zeros, let_tame, assign_tame, move_tame, element_tame, put_tame, if_tame, while_tame, nil_tame}
use Rattle.ppm_cut_sound.proofs.SplitTame.{split_tame}
use Rattle.ppm_cut_sound.proofs.CallTame.{Facts, call_tame, fork_tame}
use Rattle.ppm_cut_sound.proofs.EachTame.{each_tame, entry_tame}
use Rattle.ppm_cut_sound.proofs.HalfTame.{halving_tame}

module _ (t : ProgramTree) (code : CodeParts) (rules : KeepsRules t) (admitted : IsAdmitted t) (short : AreShort t.arrays) (words : ℕ)
    (facts : Facts t code) where
  -- the first capsule of a block
  block_tame : (l : Label) (m : Memory Where) (spare : ℕ) (scope : Scope) (layout : Layout) (at h : ℕ) (last : Last) (b : Block) (frame : Frame)
      → IsAt t code l (own_of m) (level spare scope layout at h last b frame)
      → Goes (world t code rules admitted short words l) 0 (instrs_of code at) zeros m
  block_tame l m spare scope layout at h last Nil frame a =
      subst (λ (is : List Instr). Goes (world t code rules admitted short words l) 0 is zeros m) (sym a.stays.stands)
      (nil_tame t code rules admitted short words l m spare scope layout at h frame last a)
  block_tame l m spare scope layout at h last (Then (tree.Let x e) rest) frame a =
      subst (λ (is : List Instr). Goes (world t code rules admitted short words l) 0 is zeros m) (sym a.stays.stands.0)
      (let_tame t code rules admitted short words l m spare scope layout at h last rest frame x e a)
  block_tame l m spare scope layout at h last (Then (tree.Assign x e) rest) frame a =
      subst (λ (is : List Instr). Goes (world t code rules admitted short words l) 0 is zeros m) (sym a.stays.stands.0.0)
      (assign_tame t code rules admitted short words l m spare scope layout at h last rest frame x e a)
  block_tame l m spare scope layout at h last (Then (tree.Put x index e) rest) frame a =
      subst (λ (is : List Instr). Goes (world t code rules admitted short words l) 0 is zeros m) (sym a.stays.stands.0.0)
      (element_tame t code rules admitted short words l m spare scope layout at h last rest frame x index e a)
  block_tame l m spare scope layout at h last (Then (tree.If e b c) rest) frame a =
      if_tame t code rules admitted short words l m spare scope layout at h last rest frame e b c a
  block_tame l m spare scope layout at h last (Then (tree.While e b) rest) frame a =
      while_tame t code rules admitted short words l m spare scope layout at h last rest frame e b a
  block_tame l m spare scope layout at h last (Then (tree.Call s) rest) frame a =
      call_tame t code rules admitted short words l facts spare scope layout at h last rest frame s m a
  block_tame l m spare scope layout at h last (Then (tree.Fork s u) rest) frame a =
      fork_tame t code rules admitted short words l facts spare scope layout at h last rest frame s u m a
  block_tame l m spare scope layout at h last (Then (tree.Split line r e x y block) rest) frame a =
      split_tame t code rules admitted short words l spare scope layout at h last line r e x y block rest frame m a
  block_tame l m spare scope layout at h last (Then (tree.Each i x r block) rest) frame a =
      each_tame t code rules admitted short words l spare scope layout at h last i x r block rest frame m a

  abbrev Memories : CapsuleFrame FrameWord Point → Words → Memory Where
  Memories f a = start code_locations (table_of code words) f a

  abbrev GoesAt : Label → CapsuleFrame FrameWord Point → Words → ℕ → Type 0
  GoesAt l f a n = Goes (world t code rules admitted short words l) 0 (instrs_of code n) zeros (Memories f a)

  -- every capsule of a frame that runs
  strand_tame : (l : Label) (f : CapsuleFrame FrameWord Point) (a : Words) → Runs t code rules admitted l f → GoesAt l f a f.point.capsule
  strand_tame l f a (Begins v is h) =
      subst (GoesAt l f a) (sym is) (block_tame l (Memories f a) v.spare v.scope v.layout v.at v.h v.last v.block v.frame h)
  strand_tame l f a (Moves spare scope layout at n last x e rest frame is h) =
      subst (GoesAt l f a) (sym is)
      (subst (λ (is : List Instr). Goes (world t code rules admitted short words l) 0 is zeros (Memories f a)) (sym h.stays.stands.0.1)
      (move_tame t code rules admitted short words l (Memories f a) spare scope layout at n last rest frame x e h))
  strand_tame l f a (Puts spare scope layout at n last x index e rest frame is h) =
      subst (GoesAt l f a) (sym is)
      (subst (λ (is : List Instr). Goes (world t code rules admitted short words l) 0 is zeros (Memories f a)) (sym h.stays.stands.0.1)
      (put_tame t code rules admitted short words l (Memories f a) spare scope layout at n last rest frame x index e h))
  strand_tame l f a (Enters w is) = subst (GoesAt l f a) (sym is) (entry_tame t code rules admitted short words l (Memories f a) w)
  strand_tame l f a (Halves w is) = subst (GoesAt l f a) (sym is) (halving_tame t code rules admitted short words l (Memories f a) w)
  strand_tame l f a (IsDone is) =
      subst (λ (is : List Instr). Goes (world t code rules admitted short words l) 0 is zeros (Memories f a)) (sym is)
      (go_end (world t code rules admitted short words l) 0 [] zeros (Memories f a) ends.Finish tt)

  -- a frame that waits goes on
  resumes : (l : Label) (g : CapsuleFrame FrameWord Point) (o : Result) → Waits t code rules admitted l g
      → IsGood (OwnsWord t.arrays) (WritesWord t.arrays) (Runs t code rules admitted) (Waits t code rules admitted) l (resume g o)
  resumes l g (Trapped trap line) w = tt
  resumes l g (Gave n) (ForCallee v is h left to) =
      Begins v is (at_on t code l g.own (with_value g.point.to n g.own) v (same_value v g.own g.point.to n to) h)
  resumes l g (Gave n) (ForHalves is) = IsDone is

  keeps : (l : Label) (g : CapsuleFrame FrameWord Point) (o : Result) → Waits t code rules admitted l g → Waits t code rules admitted l (kept g o)
  keeps l g (Trapped trap line) w = w
  keeps l g (Gave n) (ForCallee v is h left to) =
      ForCallee v is (at_on t code l g.own (with_value g.point.left_to n g.own) v (same_value v g.own g.point.left_to n left) h) tt to
  keeps l g (Gave n) (ForHalves is) = ForHalves is

  pub respects : Respects (OwnsWord t.arrays) (WritesWord t.arrays) (Runs t code rules admitted) (Waits t code rules admitted)
      (strands_in code_locations (table_of code words))
  respects = record {
    reads = λ l f a runs x h. (strand_tame l f a runs).reads [] x h;
    writes = λ l f a runs x h. (strand_tame l f a runs).writes x h;
    owns_what_it_writes = λ l x h. writes_owned t.arrays l x h;
    opens = λ l f a runs. (strand_tame l f a runs).opens;
    resumes = resumes;
    keeps = keeps;
  }
