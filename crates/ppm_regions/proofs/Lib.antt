-- How the pass is shown. Declarations in force are kept in a map, with the blocks through which
-- they are seen (`specs/Kept`). Uses of names with these (`Site`) are one list, a fault is a
-- predicate over a use, and the first one is told by number, then line.
-- That no first fault means no fault (`OneFault`) is an induction on the number, and below it on
-- the line; it needs no decision.
-- What an admitted program keeps is shown field by field in `Rules`, site by site (`SiteLemmas`).

pub mod Names
pub mod Order
pub mod Least
pub mod UseLemmas
pub mod CallLemmas
pub mod Loops
pub mod Arguments
pub mod Elements
pub mod MainLemmas
pub mod Faultless
pub mod Inputs
pub mod Index
pub mod OneFault
pub mod Rules
pub mod KeptLemmas
pub mod ScopeLemmas
pub mod SiteLemmas
