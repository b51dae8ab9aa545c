-- What each refusal of a listing means, in a line of words.
use Rattle.std.specs.Prelude.{ℕ, ◌==◌, if◌then◌else◌, List, [], codes}

-- faults of a listing, by their numbers
abbrev pub listing_meaning : ℕ → List ℕ
listing_meaning n =
    if n == 1 then codes "a line has one of its forms, with one blank between two words, numbers without zeros in front, and a line feed at its end"
    else if n == 2 then codes "a number of this line is out of its range: a register is `r0` to `r63`, a constant fits 64 bits, a slot is one of the procedure's, a trap is 1 to 4, a line of the source is 1 to 1048577, an array is below 64, `room` asks for 1 to 1048576 words, a procedure has 25 slots at most"
    else if n == 3 then codes "a branch leads to a later instruction of its capsule; these count from 0"
    else if n == 4 then codes "the last instruction of a capsule is an end, and a capsule has one: `next`, `end`, `trap`, `call`, `callto`, `fork` or `forkto`"
    else if n == 5 then codes "`room` stands first in its capsule; `storenew` names a word below it; a call asks for 6 words and the callee's slots, a fork for 17 and the slots of both branches"
    else if n == 6 then codes "what this line names is not there, as no line below declares it, or is of another procedure; or it is one too many: 1024 procedures, 65535 capsules, 160 instructions of a capsule; or no capsule comes"
    else []

-- a listing that is too long
abbrev pub long_listing : List ℕ
long_listing = codes "a listing has 536870912 bytes at most"

-- a conflict
abbrev pub conflict_meaning : List ℕ
conflict_meaning =
    codes "begun again after its write, the capsule would read what it wrote itself; with `next` between the two they are in two capsules"
