-- Fronts of what is written.
use Rattle.std.proofs.Common.{ℕ, ◌+◌, ◌-◌, ◌≤◌, List, length, Option, take, drop, arith, length-drop}
use Rattle.std.proofs.Math.Seq.{take-add}
use Rattle.std.proofs.lemmas.List.{take_all}
use Rattle.std.proofs.KnownBytes.{Appends-trans}
use Rattle.std.specs.Io.KnownBytes.{Appends}

-- a longer front, piece by piece; the second piece is one of `&bytes[n..]`
pub Appends-take : (a b c : Option (List ℕ)) (bytes : List ℕ) (n m : ℕ) → Appends a b (take n bytes)
    → Appends b c (take m (take (length bytes - n) (drop n bytes))) → Appends a c (take (n + m) bytes)
Appends-take a b c bytes n m p q =
    let short : length (drop n bytes) ≤ length bytes - n = omega (arith, length-drop n bytes) in
    let q' = rw (take_all (length bytes - n) (drop n bytes) short) at q in
    rw take-add (Appends-trans a b c (take n bytes) (take m (drop n bytes)) p q')
