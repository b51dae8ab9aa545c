-- Registers that go into the new block one by one, and slots that are loaded one by one.
use Rattle.std.proofs.Common.{◌≡◌, ◌<◌, ◌+◌, ◌-◌, ℕ, zero, suc, arith, ◌∷◌, ap, ◌∙◌}
use Rattle.ppm_code.specs.declared.instr.Instr.TheVariants as instr
use Rattle.ppm_cut_code.specs.Layout.{register}
use Rattle.ppm_cut_code.specs.Statements.{Instrs, stores_code, names_code}

pub stores_step : (word from left : ℕ) → 0 < left → (rest : Instrs)
    → stores_code word from left rest ≡ instr.StoreNew word (register from) ∷ stores_code (word + 1) (from + 1) (left - 1) rest
stores_step word from zero some rest = absurd (omega (arith, some))
stores_step word from (suc n) some rest =
    let a : suc word ≡ word + 1 = omega arith in
    let b : suc from ≡ from + 1 = omega arith in
    let c : n ≡ suc n - 1 = omega arith in
    ap (λ w. instr.StoreNew word (register from) ∷ stores_code w (suc from) n rest) a
    ∙ ap (λ w. instr.StoreNew word (register from) ∷ stores_code (word + 1) w n rest) b
    ∙ ap (λ w. instr.StoreNew word (register from) ∷ stores_code (word + 1) (from + 1) w rest) c

pub names_step : (slot to left : ℕ) → 0 < left → (rest : Instrs)
    → names_code slot to left rest ≡ instr.LoadSlot (register to) slot ∷ names_code (slot + 1) (to + 1) (left - 1) rest
names_step slot to zero some rest = absurd (omega (arith, some))
names_step slot to (suc n) some rest =
    let a : suc slot ≡ slot + 1 = omega arith in
    let b : suc to ≡ to + 1 = omega arith in
    let c : n ≡ suc n - 1 = omega arith in
    ap (λ w. instr.LoadSlot (register to) slot ∷ names_code w (suc to) n rest) a
    ∙ ap (λ w. instr.LoadSlot (register to) slot ∷ names_code (slot + 1) w n rest) b
    ∙ ap (λ w. instr.LoadSlot (register to) slot ∷ names_code (slot + 1) (to + 1) w rest) c
