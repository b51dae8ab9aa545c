-- Instructions after instructions, and capsules after capsules.
use Rattle.std.proofs.Common.{◌≡◌, ap, ◌∙◌, sym, subst, ℕ, suc, pos, List, [], ◌∷◌, ◌++◌, map, append_assoc, refl}
use Rattle.std.proofs.lemmas.List.{map-append, append-nil}
use Rattle.ppm_code.specs.declared.instr.Instr.{Instr}
use Rattle.ppm_code.specs.declared.instr.Instr.TheVariants as instr
use Rattle.ppm_tree.specs.Tree.{Expression, Minus}
use Rattle.ppm_cut_code.specs.Layout.{Layout, register}
use Rattle.ppm_cut_code.specs.Expressions.{expression_code}
use Rattle.ppm_code.specs.declared.code.Capsule.{Capsule}
use Rattle.ppm_cut_code.specs.Statements.{Instrs}
use Rattle.ppm_cut.specs.Growth.{Grows, Adds, capsule_of}

-- no instruction
pub same : (a : Instrs) → Grows (λ rest. rest) a a
same a = record { whole = λ rest. refl }

-- one instruction
pub one : (i : Instr) (a b : Instrs) → b ≡ a ++ i ∷ [] → Grows (λ rest. i ∷ rest) a b
one i a b e = record { whole = λ rest. sym (append_assoc a (i ∷ []) rest) ∙ ap (λ l. l ++ rest) (sym e) }

-- some after others
pub then : {f g : Instrs → Instrs} {a b c : Instrs} → Grows f a b → Grows g b c → Grows (λ rest. f (g rest)) a c
then {g = g} h k = record { whole = λ rest. h.whole (g rest) ∙ k.whole rest }

-- a capsule whose end was appended
pub made : {f : Instrs → Instrs} {a b : Instrs} → a ≡ [] → Grows f a b → b ≡ f []
made {f = f} {b = b} e h = sym (append-nil b) ∙ sym (h.whole []) ∙ ap (λ l. l ++ f []) e

-- no capsule, one, and some after others
pub adds_none : (q : ℕ) (a : List Capsule) → Adds q [] a a
adds_none q a = record { whole = sym (append-nil a) }

pub adds_then : {q : ℕ} {xs ys : List Instrs} {a b c : List Capsule} → Adds q xs a b → Adds q ys b c → Adds q (xs ++ ys) a c
adds_then {q = q} {xs = xs} {ys = ys} {a = a} h k = record {
  whole = k.whole ∙ ap (λ l. l ++ map (capsule_of q) ys) h.whole ∙ append_assoc a (map (capsule_of q) xs) (map (capsule_of q) ys)
      ∙ ap (λ l. a ++ l) (sym (map-append (capsule_of q) xs ys));
}

-- what grows by some instructions grows by equal ones
pub alike : {f g : Instrs → Instrs} {a b : Instrs} → ((rest : Instrs) → f rest ≡ g rest) → Grows f a b → Grows g a b
alike {a = a} e h = record { whole = λ rest. ap (λ l. a ++ l) (sym (e rest)) ∙ h.whole rest }

-- a value of which the sign is turned
pub minus_grown : (layout : Layout) (w e : Expression) (line d at d1 at1 : ℕ) {a b c z : Instrs} → w ≡ Minus line e → d1 ≡ suc d → at1 ≡ suc at
    → Grows (λ rest. instr.Const (register d) (pos 0) ∷ rest) a b → Grows (expression_code layout e d1 at1) b c
    → Grows (λ rest. instr.Sub (register d) (register d) (register (suc d)) line ∷ rest) c z → Grows (expression_code layout w d at) a z
minus_grown layout w e line d at d1 at1 {a = a} {b = b} {c = c} {z = z} is p q f g h =
    let g1 = subst (λ n. Grows (expression_code layout e n at1) b c) p g in
    let g2 = subst (λ n. Grows (expression_code layout e (suc d) n) b c) q g1 in
    subst (λ v. Grows (expression_code layout v d at) a z) (sym is)
    (then {f = λ rest. instr.Const (register d) (pos 0) ∷ rest} {g = λ rest. expression_code layout e (suc d) (suc at) (instr.Sub (register d) (register d) (register (suc d)) line ∷ rest)} f
    (then {f = expression_code layout e (suc d) (suc at)} {g = λ rest. instr.Sub (register d) (register d) (register (suc d)) line ∷ rest} g2 h))

-- an instruction at a number that is equal
pub at_number : (f : ℕ → Instr) (m n : ℕ) → m ≡ n → {a b : Instrs} → Grows (λ rest. f m ∷ rest) a b → Grows (λ rest. f n ∷ rest) a b
at_number f m n e {a = a} {b = b} h = subst (λ k. Grows (λ rest. f k ∷ rest) a b) e h

-- instructions from a place that is equal
pub at_place : {A : Type 0} (f : A → Instrs → Instrs) (m n : A) → m ≡ n → {a b : Instrs} → Grows (f m) a b → Grows (f n) a b
at_place f m n e {a = a} {b = b} h = subst (λ k. Grows (f k) a b) e h
