-- The runs that the code holds, as those of the meaning.
use Rattle.std.specs.Prelude.{map, reverse}
use Rattle.ppm_tree.specs.Tree.{block_of, expression_of, procedure_of, side_of}
use Rattle.ppm_standing.specs.declared.around.Caller as declared_caller
use Rattle.ppm_standing.specs.declared.around.Sweep as declared_sweep
use Rattle.ppm_standing.specs.declared.around.Rest as declared_rest
use Rattle.ppm_standing.specs.declared.around.Rest.TheVariants as held
use Rattle.ppm_standing.specs.declared.run.Next as declared_next
use Rattle.ppm_standing.specs.declared.run.Next.TheVariants as coming
use Rattle.ppm_standing.specs.declared.run.Run as declared_run
use Rattle.ppm_by_name.specs.Frames.{frame_of}
use Rattle.ppm_standing.specs.Rests.{Caller, Sweep, Rest}
use Rattle.ppm_standing.specs.Rests as rest
use Rattle.ppm_standing.specs.Nexts.{Next, Run}
use Rattle.ppm_standing.specs.Nexts as next

abbrev pub caller_of : declared_caller.Caller → Caller
caller_of c = record { procedure = procedure_of c.procedure.now; frame = frame_of c.frame; rest = block_of c.rest.now; side = side_of c.side.now }

abbrev pub sweep_of : declared_sweep.Sweep → Sweep
sweep_of q = record {
  index = q.index.now;
  part = q.part.now;
  block = block_of q.block.now;
  region = q.region;
  next = q.next;
  frame = frame_of q.frame;
  rest = block_of q.rest.now;
}

abbrev pub rest_of : declared_rest.Rest → Rest
rest_of (held.Block b) = rest.Block (block_of b.now)
rest_of (held.Loop e s) = rest.Loop (expression_of e.now) (block_of s.now)
rest_of (held.Parts f b) = rest.Parts (frame_of f) (block_of b.now)
rest_of (held.Sweeps q) = rest.Sweeps (sweep_of q)
rest_of (held.Call c) = rest.Call (caller_of c)
rest_of (held.Left c t h) = rest.Left (caller_of c) (side_of t.now) (frame_of h)
rest_of (held.Right c t v) = rest.Right (caller_of c) (side_of t.now) v

abbrev pub next_of : declared_next.Next → Next
next_of coming.Enter = next.Enter
next_of (coming.Block b) = next.Block (block_of b.now)
next_of (coming.Test e s) = next.Test (expression_of e.now) (block_of s.now)
next_of (coming.Leave r) = next.Leave (rest_of r)
next_of coming.Last = next.Last

abbrev pub run_of : declared_run.Run → Run
run_of w = record {
  procedure = procedure_of w.procedure.now;
  frame = frame_of w.frame;
  store = w.store;
  next = next_of w.next;
  around = map rest_of (reverse w.around.items);
  left = w.left;
  ended = w.ended;
}
