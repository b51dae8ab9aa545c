-- The place of a procedure, found by looking at one after another.
use Rattle.std.proofs.Common.{◌≡◌, ◌<◌, ◌+◌, ℕ, zero, suc, Bool, true, false, List, [], ◌∷◌, sym, ap, subst, arith, ◌∙◌, length, drop, get_or, map}
use Rattle.std.specs.Prelude.{if◌then◌else◌}
use Rattle.std.specs.Str.{bytes_eq}
use Rattle.ppm_tree.specs.declared.tree.Proc.{Proc}
use Rattle.ppm_tree.specs.Tree.{procedure_of}
use Rattle.ppm_serial.specs.Laying.{place_in}

place_at : (ps : List Proc) (k : ℕ) (x : List ℕ) (d : Proc) → k < length ps → d ≡ get_or ps k d → bytes_eq d.name.name x ≡ true → place_in (map procedure_of (drop k ps)) x ≡ 0
place_at [] k x d l e s = absurd (omega (arith, l))
place_at (p ∷ ps) zero x d l e s =
    ap (λ (b : Bool). if b then 0 else suc (place_in (map procedure_of ps) x)) (ap (λ (p : Proc). bytes_eq p.name.name x) (sym e) ∙ s)
place_at (p ∷ ps) (suc k) x d l e s = place_at ps k x d (omega (arith, l)) e s

place_past : (ps : List Proc) (k : ℕ) (x : List ℕ) (d : Proc) → k < length ps → d ≡ get_or ps k d → bytes_eq d.name.name x ≡ false
    → place_in (map procedure_of (drop k ps)) x ≡ suc (place_in (map procedure_of (drop (suc k) ps)) x)
place_past [] k x d l e s = absurd (omega (arith, l))
place_past (p ∷ ps) zero x d l e s =
    ap (λ (b : Bool). if b then 0 else suc (place_in (map procedure_of ps) x)) (ap (λ (p : Proc). bytes_eq p.name.name x) (sym e) ∙ s)
place_past (p ∷ ps) (suc k) x d l e s = place_past ps k x d (omega (arith, l)) e s

pub place_found : (ps : List Proc) (k : ℕ) (x : List ℕ) (d : Proc) → place_in (map procedure_of ps) x ≡ k + place_in (map procedure_of (drop k ps)) x → k < length ps
    → d ≡ get_or ps k d → bytes_eq d.name.name x ≡ true → k ≡ place_in (map procedure_of ps) x
place_found ps k x d i l e s = let t = place_at ps k x d l e s in omega (arith, i, t)

pub place_passed : (ps : List Proc) (k : ℕ) (x : List ℕ) (d : Proc) → place_in (map procedure_of ps) x ≡ k + place_in (map procedure_of (drop k ps)) x → k < length ps
    → d ≡ get_or ps k d → bytes_eq d.name.name x ≡ false → place_in (map procedure_of ps) x ≡ (k + 1) + place_in (map procedure_of (drop (k + 1) ps)) x
place_passed ps k x d i l e s =
    let t = place_past ps k x d l e s in
    let j : suc k ≡ k + 1 = omega arith in
    subst (λ (m : ℕ). place_in (map procedure_of ps) x ≡ m + place_in (map procedure_of (drop m ps)) x) j (omega (arith, i, t))
