-- How the trials are shown: loops keep that a processor is one of its table, and the last of the
-- processors of a table is one (`OrderLemmas`).
mod OrderLemmas
