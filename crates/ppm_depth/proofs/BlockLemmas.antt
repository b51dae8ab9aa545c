-- What a capsule stores into its new block is among the words that are kept of it.
use Rattle.std.proofs.Common.{◌≡◌, ◌<◌, ℕ, length, ap, arith, inl, inr, Option, Some}
use Rattle.std.specs.Prelude.{slice_get}
use Rattle.ppm_code.specs.declared.act.End.{End}
use Rattle.ppm_code.specs.declared.act.End.TheVariants.{Next, Finish, Trap, Call, Fork}
use Rattle.ppm_code.specs.declared.code.CodeParts.{CodeParts}
use Rattle.ppm_code.specs.declared.instr.Instr.{Instr}
use Rattle.ppm_code.specs.declared.instr.Instr.TheVariants.{StoreNew, Ends}
use Rattle.ppm_code.specs.declared.register.Register.{Register}
use Rattle.ppm_code.specs.Code.{IsCode}
use Rattle.ppm_code.specs.Strands.{instrs_of}
use Rattle.ppm_code.specs.Tidy.{IsTidy, IsBuilder, Builds}
use Rattle.ppm_code.proofs.CodeLemmas.{slots_small, instr_fits, tidy_at}
use Rattle.ppm_depth.specs.Whole.{block_limit, block_at, kept_of}

module _ (code : CodeParts) (is_code : IsCode code) where
  -- a word that an end builds is one of the largest block
  builds_small : (e : End) (word : ℕ) → Builds code e word → word < block_limit
  builds_small (Next capsule) word h = absurd h
  builds_small Finish word h = absurd h
  builds_small (Trap trap line) word h = absurd h
  builds_small (Call q capsule to) word h = omega (arith, h.1, slots_small code is_code q)
  builds_small (Fork left right capsule left_to right_to) word h = elim h [
    | inl x ↦ omega (arith, x.1, slots_small code is_code left, slots_small code is_code right)
    | inr x ↦ omega (arith, x.1, slots_small code is_code left, slots_small code is_code right)
  ]

  builder_small : (i : Instr) (word : ℕ) → IsBuilder code i word → word < block_limit
  builder_small (Ends e) word h = builds_small e word h
  builder_small _ word h = absurd h

  -- a store into the new block is one into what is kept of it
  pub store_fits : IsTidy code → (number at word : ℕ) (from : Register) → number < length code.capsules
      → slice_get (instrs_of code number) at ≡ Some (StoreNew word from) → word < block_at code number
  store_fits tidy number at word from less one =
      let small = (tidy_at code is_code tidy number less at word from one).builds in
      let room = instr_fits code is_code number at (StoreNew word from) less one in
      let most = builder_small small.0 word small.2 in
      let within = room.2 in
      let is : block_at code number ≡ kept_of (Some room.0) = ap (λ (o : Option ℕ). kept_of o) room.1 in
      omega (arith, is, most, within)
