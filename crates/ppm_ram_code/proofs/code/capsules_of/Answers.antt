use Rattle.std.proofs.Common.{◌≡◌, ◌∙◌, ◌+◌, ◌++◌, [], ◌∷◌, List, drop, append-nil, sym, ap, ap₂, arith}
use Rattle.ppm_code.specs.declared.code.Capsule.{Capsule}
use Rattle.ppm_ram.specs.declared.instruction.Instruction.{Instruction}
use Rattle.ppm_ram_code.specs.Code.{capsules_from}
use Rattle.ppm_ram_code.proofs.ListLemmas.{drop_none, capsules_more, within}
use Rattle.ppm_ram_code.proofs.code.capsules_of.Goals as goal

-- no capsule was made yet
pub loop-instruction-init : goal.loop-instruction-init
loop-instruction-init c = ap (λ (l : List Capsule). l ++ capsules_from 0 c.args.ram.now.instructions) c.new-capsules.ensures.items

-- the two of one instruction more
pub loop-instruction-preserved : goal.loop-instruction-preserved
loop-instruction-preserved c =
    let is = c.args.ram.now.instructions in
    let k = c.loop-instruction.number in
    let before = c.loop-instruction.capsules.items in
    ap (λ (l : List Capsule). l ++ capsules_from (k + 1) (drop (k + 1) is))
    (c.in_ok-push-2.ensures.items
    ∙ ap₂ (λ (l : List Capsule) (x : Capsule). l ++ x ∷ []) (c.in_ok-push.ensures.items ∙ ap (λ (x : Capsule). before ++ x ∷ []) c.in_ok-first.ensures)
    c.in_ok-second.ensures)
    ∙ capsules_more is k c.in-Some.instruction before (sym c.in-Some.ensures.value) ∙ c.loop-instruction.invariant

pub loop-instruction-smaller : goal.loop-instruction-smaller
loop-instruction-smaller c =
    let low = within c.args.ram.now.instructions c.loop-instruction.number c.in-Some.instruction (sym c.in-Some.ensures.value) in omega (arith, low)

-- all were made
pub returns : goal.returns
returns c =
    let is = c.args.ram.now.instructions in
    let k = c.loop-instruction.number in
    let before = c.loop-instruction.capsules.items in
    sym (append-nil before) ∙ ap (λ (l : List Instruction). before ++ capsules_from k l) (sym (drop_none is k (sym c.in_default.ensures.value)))
    ∙ c.loop-instruction.invariant
