-- The steps that a depth-first run makes, one after another: the strand in turn runs its capsule whole, and frames go on.
use Rattle.std.specs.Prelude.{◌⊎◌}
use Rattle.ppm_strands.specs.Tree.{Words, Tree, Strand, Call, Fork, Over, Code}
use Rattle.ppm_strands.specs.Run.{Counts}
use Rattle.ppm_strands.specs.Ahead.{Step, Capsule, Store, Return, Join, Receive, Collect, UnderCall, InLeft, InRight, Steps, Done, More}
use Rattle.ppm_strands.specs.Turn.{IsOver}

-- the step is of the strand in turn, and a whole capsule, a return or a join: no store of a capsule under way, and no value ahead of its frame
abbrev pub IsInOrder : {F O : Type 0} {c : Code F O} {k : Counts} {t t' : Tree F O} {a a' : Words} → Step c k t a t' a' → Type 0
IsInOrder (Capsule f a) = Unit {0}
IsInOrder (Store f f' a a' again) = ⊥
IsInOrder (Return g o a) = Unit {0}
IsInOrder (Join g o p a) = Unit {0}
IsInOrder (Receive g g' o a same) = ⊥
IsInOrder (Collect g g' o p a same) = ⊥
IsInOrder (UnderCall g s) = IsInOrder s
IsInOrder (InLeft g r s) = IsInOrder s
IsInOrder (InRight g l s) = IsOver l × IsInOrder s

-- each of the steps is one
abbrev pub AreInOrder : {F O : Type 0} {c : Code F O} {k : Counts} {t u : Tree F O} {a b : Words} → Steps c k t a u b → Type 0
AreInOrder (Done t a) = Unit {0}
AreInOrder (More s more) = IsInOrder s × AreInOrder more

-- such steps, one after another
abbrev pub StepsInOrder : {F O : Type 0} → Code F O → Counts → Tree F O → Words → Tree F O → Words → Type 0
StepsInOrder c k t a u b = (s : Steps c k t a u b) × AreInOrder s

-- the strand in turn stands at a capsule: that is what is run next
abbrev pub IsAtWork : {F O : Type 0} → Tree F O → Type 0
IsAtWork (Strand f) = Unit {0}
IsAtWork (Call g t) = IsAtWork t
IsAtWork (Fork g l r) = IsAtWork l ⊎ (IsOver l × IsAtWork r)
IsAtWork (Over o) = ⊥
