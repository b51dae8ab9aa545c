-- A walk over what is shown, act by act.
use Rattle.std.proofs.Common.{◌≡◌, ◌∙◌, List, [], ◌∷◌, ◌++◌, ℕ, ◌+◌, ◌-◌, ◌≤◌, length, take, drop, get_or, ap, arith, sym, take_all, le_refl}
use Rattle.ppm_picture.proofs.TextLemmas.{piece}
use Rattle.ppm_picture.specs.Strokes.{Drawn}

-- what comes after the first
rest_is : (drawn : Drawn) (more : List Drawn) → take (length (drawn ∷ more) - 1) more ≡ more
rest_is drawn more =
    let one : length (drawn ∷ more) - 1 ≡ length more = omega arith in
    ap (λ k. take k more) one ∙ take_all (length more) more (le_refl (length more))

-- one act more is written
pub walk_more : (at : ℕ → Drawn → List ℕ) (onward : ℕ → List Drawn → List ℕ)
    → ((act : ℕ) (drawn : Drawn) (more : List Drawn) → onward act (drawn ∷ more) ≡ at act drawn ++ onward (act + 1) more)
    → {all : List ℕ} (text : List ℕ) {new : List ℕ} (act : ℕ) (left : List Drawn) (d : Drawn) → 1 ≤ length left → d ≡ get_or left 0 d
    → all ≡ text ++ onward act left → new ≡ text ++ at act d
    → all ≡ new ++ onward (act + 1) (take (length left - 1) (drop 1 left))
walk_more at onward step text act [] d some first is pushed = absurd (omega (arith, some))
walk_more at onward step text {new} act (drawn ∷ more) d some first is pushed =
    piece text (at act drawn) (onward (act + 1) more) (is ∙ ap (λ rest. text ++ rest) (step act drawn more))
    (pushed ∙ ap (λ k. text ++ at act k) first)
    ∙ ap (λ rest. new ++ onward (act + 1) rest) (sym (rest_is drawn more))

-- and those that are left are fewer
pub fewer : (act acts : ℕ) (left : List Drawn) → 1 ≤ length left → act + length left ≤ acts
    → act + 1 + length (take (length left - 1) (drop 1 left)) ≤ acts
fewer act acts [] some few = absurd (omega (arith, some))
fewer act acts (drawn ∷ more) some few =
    let same : length (take (length (drawn ∷ more) - 1) more) ≡ length more = ap length (rest_is drawn more) in
    omega (arith, few, same)
