-- At each moment of a run the tree that the words show is ahead of the root.
use Rattle.std.proofs.Common.{ℕ, List, [], inl, inr}
use Rattle.ppm_strands.specs.Tree.{Words, Tree}
use Rattle.ppm_cells.specs.declared.shape.Shape.{Shape}
use Rattle.ppm_strands.specs.Strand.{Frame}
use Rattle.ppm_code.specs.Strands.{Point, Result}
use Rattle.ppm_code.specs.declared.code.CodeParts.{CodeParts}
use Rattle.ppm_code.specs.declared.location.FrameWord.{FrameWord}
use Rattle.ppm_layout.specs.Root.{root_strand}
use Rattle.ppm_step.specs.State.{State as RunState, after, opening}
use Rattle.ppm_tickets.specs.Along.{homes, forked as forked_in, taken as taken_in}
use Rattle.ppm_tickets.specs.Homes.{Home, Unborn}
use Rattle.ppm_frames.specs.Views.{view}
use Rattle.ppm_frames.specs.Seen.{arrays_at}
use Rattle.ppm_frames.specs.Skeletons.{Skeleton}
use Rattle.ppm_kept.specs.Left.{Followed}
use Rattle.ppm_runs.specs.Legs.{last_state, all_homes, all_forked, all_taken}
use Rattle.ppm_runs.specs.Trees.{IsLeft, WhatIsLeftEndsSo, WhatIsLeftOverLegs}
use Rattle.ppm_runs.proofs.ForkLemmas.{IsForked, runs_fork}
use Rattle.ppm_runs.proofs.LegForks.{stays}
use Rattle.ppm_runs.proofs.LeftLemmas.{shows, ahead}

-- what is left by a run's state whose forks are counted
pub left_of : (s : Shape) (code : CodeParts) (root : Tree (Frame FrameWord Point) Result) (input : Words) (state : RunState) (h : ℕ → Home) (forked taken : List ℕ) (l : List Followed) (t : Skeleton)
    → IsForked s code root input state h forked taken l t → IsLeft s code root input state.words h forked
left_of s code root input state h forked taken l t now = record {
  tree = t;
  shown = shows s code root input state h forked taken l t now.run.halves;
  agrees = now.run.joint.agrees;
  counts = now.run.halves.kept.ahead.0;
  ahead = ahead s code root input state h forked taken l t now.run.halves;
  forks = record {
    blocks = now.counted.blocks;
    once = now.counted.once;
    many = now.counted.many;
    each = now.counted.each;
    all = λ r e. elim e [ inl was ↦ now.counted.made r was | inr fresh ↦ now.counted.fresh r fresh ];
  };
}

pub what_is_left_ends_so : WhatIsLeftEndsSo
what_is_left_ends_so code input s keeper im fair opens calm turns all =
    let first : RunState = opening im.words s.processors in
    let a = runs_fork code input s keeper im fair opens calm turns all in
    left_of s code (root_strand code input) (arrays_at (view s im.words)) (after s code first turns) (homes s code first (λ r. Unborn) turns) (forked_in s code first [] turns) (taken_in s code first [] turns) a.0 a.1 a.2

pub what_is_left_over_legs : WhatIsLeftOverLegs
what_is_left_over_legs code input s keeper im places fair opens calm legs are turns all =
    let a = stays code input s keeper im places fair opens calm legs are turns all in
    left_of s code (root_strand code input) (arrays_at (view s im.words)) (last_state s code im.words legs turns) (all_homes s code im.words legs turns) (all_forked s code im.words legs turns) (all_taken s code im.words legs turns) [] a.0 a.1
