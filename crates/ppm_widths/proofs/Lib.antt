-- Why a width is enough: from registers that are alike up to it each instruction of a capsule does the
-- same (`does_same`), and leaves them alike (`set_same`), so all of the capsule goes alike
-- (`capsule_same`). Hence it begins as from 0 in all registers where those hold 0 that it reads
-- (`begins_same`).

pub mod WidthLemmas
