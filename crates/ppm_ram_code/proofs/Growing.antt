-- Instructions after instructions.
use Rattle.std.proofs.Common.{◌≡◌, ap, ◌∙◌, sym, List, [], ◌∷◌, ◌++◌, append_assoc, append-nil, subst}
use Rattle.ppm_code.specs.declared.instr.Instr.{Instr}
use Rattle.ppm_ram_code.specs.Growth.{Grows}

-- one instruction
pub one : (i : Instr) (a b : List Instr) → b ≡ a ++ i ∷ [] → Grows (λ rest. i ∷ rest) a b
one i a b e = record { whole = λ rest. sym (append_assoc a (i ∷ []) rest) ∙ ap (λ l. l ++ rest) (sym e) }

-- some after others
pub then : {f g : List Instr → List Instr} {a b c : List Instr} → Grows f a b → Grows g b c → Grows (λ rest. f (g rest)) a c
then {g = g} h k = record { whole = λ rest. h.whole (g rest) ∙ k.whole rest }

-- a capsule whose end was appended
pub made : {f : List Instr → List Instr} {a b : List Instr} → a ≡ [] → Grows f a b → b ≡ f []
made {f = f} {b = b} e h = sym (append-nil b) ∙ sym (h.whole []) ∙ ap (λ l. l ++ f []) e

-- with the same value
pub at_value : {X : Type 0} (f : X → List Instr → List Instr) (x y : X) {a b : List Instr} → x ≡ y → Grows (f x) a b → Grows (f y) a b
at_value f x y {a} {b} e h = subst (λ z. Grows (f z) a b) e h
