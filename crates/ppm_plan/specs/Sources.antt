-- The source that `self` runs: the sum of an array by halves.
use Rattle.std.specs.Prelude.{ℕ, zero, suc, ◌+◌, ◌-◌, ◌*◌, ◌%◌, List, [], ◌++◌, codes, decimal}

-- the value of element i
abbrev pub value_at : (x i : ℕ) → ℕ
value_at x i = (x + 31 * i) % 1000

-- so many values from element i on, each after a comma and a space
abbrev pub values_from : (x i count : ℕ) → List ℕ
values_from x i zero = []
values_from x i (suc count) = codes ", " ++ decimal (value_at x i) ++ values_from x (i + 1) count

-- the two procedures
abbrev pub procedures_text : List ℕ
procedures_text =
    codes "proc sum(mut a) { if len a > 1 { split a at len a / 2 into l, r { fork sum(l) and sum(r); l[0] = l[0] + r[0]; } } }\nproc main(mut a) { call sum(a); }"

-- an array of so many values, one at least, and the procedures
abbrev pub source_of : (size x : ℕ) → List ℕ
source_of size x =
    codes "array a[" ++ decimal size ++ codes "];\ninput a = " ++ decimal (value_at x 0)
    ++ values_from x 1 (size - 1) ++ codes ";\n" ++ procedures_text
