-- How the program's end is shown: the top call's clauses, with watchers of which nothing is known.

pub mod SilentLemmas
