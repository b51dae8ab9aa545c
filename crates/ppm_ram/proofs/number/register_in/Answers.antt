use Rattle.std.proofs.Common.{◌∙◌, Bool, cond, Option, Some, None, sym, ap}
use Rattle.ppm_pieces.specs.Numbers.{value}
use Rattle.ppm_ram.specs.declared.register.Register.{Register}
use Rattle.ppm_ram.specs.Numbers.{register_with}
use Rattle.ppm_ram.proofs.number.register_in.Goals as goal

-- a number in its one spelling
pub returns-then-is_numeral : goal.returns-then-is_numeral
returns-then-is_numeral c =
    ap (λ (r : Option Register). Some r) (c.register_with.ensures ∙ ap register_with c.value.ensures)
    ∙ ap (λ (b : Bool). cond b (Some (register_with (value c.args.word.now))) None) (sym (sym c.is_numeral.ensures ∙ c.if-is_numeral.true))
