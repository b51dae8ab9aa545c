-- How soundness is shown. Trees with labels that say what they own, and no values. A label is a
-- scope with its regions (`OwnLemmas`); it is no function of the frame, and a tree is good where
-- each frame in it has one. Good trees are calm, by one induction on runs (`LabelLemmas` of
-- `ppm_strands`, over any frames).
-- A frame stands at a level (`StandLemmas`, `LevelLemmas`): at a block, with its slots holding the
-- regions in force, whatever its locals are, and leading to a level after the block.
-- A capsule is tame (`TameLemmas`) where it reads what its label owns, writes what that may write,
-- and opens a good tree: `TameExpressions`, then a file for each kind of statement, joined in
-- `CodeTame`, with the root in `RootTame`.
-- That no capsule has a conflict and that stores are tidy needs no label: it goes by classes of
-- words (`PlainLemmas`, `SafeLemmas`, `BlockLemmas`).

mod PlainLemmas
mod SafeLemmas
mod BlockLemmas
mod OwnLemmas
mod TameLemmas
mod TameExpressions
mod StandLemmas
mod LevelLemmas
mod BlockTame
mod SplitTame
mod GivenLemmas
mod CallTame
mod EachTame
mod HalfTame
mod FewLemmas
mod CodeTame
mod RootTame
