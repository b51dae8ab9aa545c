use Rattle.std.proofs.Common.{◌∙◌, ◌++◌, [], ◌∷◌, List, ap₂}
use Rattle.ppm_words.specs.declared.named_array.NamedArray.{NamedArray}
use Rattle.ppm_ram_code.proofs.InputLemmas.{input_is}
use Rattle.ppm_ram_code.proofs.code.ram_input.Goals as goal

-- the one array is the RAM's memory
pub from_vec-requires : goal.from_vec-requires
from_vec-requires c =
    input_is c.args.ram.now c.parts.ensures.ram _
    (c.in_ok-push.ensures.items ∙ ap₂ (λ (l : List NamedArray) (x : NamedArray). l ++ x ∷ []) c.new-arrays.ensures.items c.in_ok-array.ensures)
