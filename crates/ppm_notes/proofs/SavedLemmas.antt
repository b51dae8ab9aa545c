-- A machine that may be stopped has few words; and the front of some bytes.
use Rattle.std.proofs.Common.{◌≡◌, ◌≤◌, ◌<◌, ℕ, ◌+◌, ◌*◌, zero, suc, List, [], ◌∷◌, length, take, drop, refl, sym, arith}
use Rattle.std.proofs.lemmas.List.{take_all}
use Rattle.std.proofs.lemmas.Nat.{mul-lt}

-- all its places together
pub pools_few : (processors room slots : ℕ) → processors ≤ 64 → room ≤ 4194304 → slots ≤ 4096 → processors * (5 + slots + room) < 65 * 4198406
pools_few processors room slots few rooms deques =
    let each : 5 + slots + room < 4198406 = omega (arith, rooms, deques) in
    let most : processors < 65 = omega (arith, few) in
    mul-lt processors (5 + slots + room) 65 4198406 most each

-- no fewer bytes than there are
pub all_taken : (n : ℕ) (bytes : List ℕ) → length bytes ≤ n → bytes ≡ take n bytes
all_taken n bytes h = sym (take_all n bytes h)

-- after as many as there are or more, none are left
pub all_dropped : (n : ℕ) (bytes : List ℕ) → length bytes ≤ n → [] ≡ drop n bytes
all_dropped zero [] h = refl
all_dropped zero (b ∷ bs) h = absurd (omega (arith, h))
all_dropped (suc n) [] h = refl
all_dropped (suc n) (b ∷ bs) h = all_dropped n bs (omega (arith, h))
