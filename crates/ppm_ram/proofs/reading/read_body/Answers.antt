use Rattle.std.proofs.Common.{◌≡◌, ◌∙◌, ℕ, ℤ, List, Ok, sym, ap, ap₂}
use Rattle.ppm_pieces.specs.Pieces.{split}
use Rattle.ppm_ram.specs.declared.instruction.Instruction.{Instruction}
use Rattle.ppm_ram.specs.declared.ram.RamParts.{RamParts}
use Rattle.ppm_ram.specs.Lines.{count_of, instructions_in, with_instructions}
use Rattle.ppm_ram.proofs.LoopLemmas.{handed_on, refused_instructions}
use Rattle.ppm_ram.proofs.reading.read_body.Goals as goal

-- the instructions were counted, and read
pub returns-in-Ok-clause-ok : goal.returns-in-Ok-clause-ok
returns-in-Ok-clause-ok c =
    let ls = split 10 c.args.text.now in
    ap (λ (n : ℕ). with_instructions c.args.memory c.args.values.items (instructions_in n 0 ls)) (sym c.count_of.ensures)
    ∙ ap (with_instructions c.args.memory c.args.values.items) c.in-Ok.ensures.ok
    ∙ ap₂ (λ (zs : List ℤ) (is : List Instruction). Ok (record { memory = c.args.memory; values = zs; instructions = is }))
    (sym c.from_vec.ensures) (sym c.from_vec-in-Ok.ensures)

pub returns-in-Err-clause-err : goal.returns-in-Err-clause-err
returns-in-Err-clause-err c =
    let ls = split 10 c.args.text.now in
    handed_on (instructions_in c.count_of.result 0 ls) (with_instructions c.args.memory c.args.values.items (instructions_in (count_of ls) 0 ls)) c.in-Err.error
    (λ f e. refused_instructions c.args.memory c.args.values.items (instructions_in (count_of ls) 0 ls) f
    (ap (λ (n : ℕ). instructions_in n 0 ls) (sym c.count_of.ensures) ∙ e)) c.in-Err.ensures.err
