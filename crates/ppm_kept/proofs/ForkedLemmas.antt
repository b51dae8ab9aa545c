-- The forks that a capsule counts are those of the tree that it opens.
use Rattle.std.proofs.Common.{◌≡◌, refl, arith}
use Rattle.ppm_strands.specs.Tree.{Words, Tree, Strand, forks_in, Code}
use Rattle.ppm_strands.specs.Run.{Counts}
use Rattle.ppm_strands.specs.Ahead.{Step, Capsule, Store, Return, Join, Receive, Collect, UnderCall, InLeft, InRight}

-- a tree that is a strand
abbrev IsStrand : {F O : Type 0} → Tree F O → Type 0
IsStrand (Strand f) = Unit {0}
IsStrand _ = ⊥

pub forks_told : {F O : Type 0} {c : Code F O} {k : Counts} {t u : Tree F O} {a b : Words} → Step c k t a u b → IsStrand t → k.capsules ≡ 1 → k.forks ≡ forks_in u
forks_told (Capsule f a) is one = refl
forks_told (Store f f' a a' r) is one = absurd (omega (arith, one))
forks_told (Return g o a) is one = absurd is
forks_told (Join g o p a) is one = absurd is
forks_told (Receive g g' o a e) is one = absurd is
forks_told (Collect g g' o p a e) is one = absurd is
forks_told (UnderCall g st) is one = absurd is
forks_told (InLeft g r st) is one = absurd is
forks_told (InRight g l st) is one = absurd is
