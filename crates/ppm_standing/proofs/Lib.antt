-- Each step goes on to what the next one has to come, by the meaning (`StandLemmas`); the others join what the calls answer to the steps.
pub mod StandLemmas
pub mod RunLemmas
pub mod CountLemmas
pub mod FollowLemmas
