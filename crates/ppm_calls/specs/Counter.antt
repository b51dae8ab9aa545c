-- A counter: two capsules of one procedure, with a slot for the array's region and one for the value.
use Rattle.std.specs.Prelude.{ℤ, pos, List, [], ◌∷◌}
use Rattle.ppm_words.specs.declared.named_array.NamedArray.{NamedArray}
use Rattle.ppm_code.specs.declared.act.End.TheVariants.{Next, Finish}
use Rattle.ppm_code.specs.declared.code.CodeParts.{CodeParts}
use Rattle.ppm_code.specs.declared.instr.Instr.{Instr}
use Rattle.ppm_code.specs.declared.instr.Instr.TheVariants.{Add, Const, Ends, Get, LoadSlot, Put, StoreCur}
use Rattle.ppm_cut_code.specs.Layout.{register}

-- the first value of the array goes into the slot
abbrev pub read_instrs : List Instr
read_instrs =
    LoadSlot (register 0) 0 ∷ Const (register 1) (pos 0) ∷ Get (register 2) (register 0) (register 1) 1
    ∷ StoreCur 1 (register 2) ∷ Ends (Next 1) ∷ []

-- one more goes back
abbrev pub add_instrs : List Instr
add_instrs =
    LoadSlot (register 0) 0 ∷ Const (register 1) (pos 0) ∷ LoadSlot (register 2) 1 ∷ Const (register 3) (pos 1)
    ∷ Add (register 2) (register 2) (register 3) 2 ∷ Put (register 0) (register 1) (register 2) 2 ∷ Ends Finish ∷ []

-- its code
abbrev pub counter_code : CodeParts
counter_code = record {
  root = 0;
  arrays = 0 ∷ [];
  procedures = record { slots = 2; entry = 0 } ∷ [];
  capsules = record { procedure = 0; instrs = read_instrs } ∷ record { procedure = 0; instrs = add_instrs } ∷ [];
}

-- its array, of the name `c`
abbrev pub counter_input : (value : ℤ) → List NamedArray
counter_input value = record { name = 99 ∷ []; values = value ∷ [] } ∷ []
