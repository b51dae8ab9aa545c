-- How the law is shown. `IsRefusal` is a family over refusals that are a pass, a number and a
-- place.
-- That a text has a program or one refusal (`OneAnswer`) goes pass by pass from the law of each:
-- one reading, one tree or fault, one fault of regions, one bound.
-- `Stops` has for each pass that its error is such a refusal.

pub mod Stops
pub mod SyntaxFaults
pub mod RegionFaults
pub mod OneAnswer
pub mod WholeText
pub mod WithinLemmas
