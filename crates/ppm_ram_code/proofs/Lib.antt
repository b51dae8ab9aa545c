-- How the code of a RAM is shown to be right. What each capsule does with a memory of locations is
-- read off its instructions (`CapsuleLemmas`, `WordLemmas`), so a capsule is a step (`StepLemmas`),
-- and a run of the code one of the RAM, both ways (`EndLemmas`, `Theorem`).
-- That no capsule has a conflict goes by classes of words (`SafeLemmas`). The code keeps the rules of
-- codes (`CodeLemmas`), and the memory those of inputs (`InputLemmas`); so do what is made of them
-- (`RuleLemmas`). Capsules are made by appending instructions (`Growing`).

mod CapsuleLemmas
mod CodeLemmas
mod EndLemmas
mod Growing
mod InputLemmas
mod ListLemmas
mod RuleLemmas
mod SafeLemmas
mod StepLemmas
mod Theorem
mod WordLemmas
