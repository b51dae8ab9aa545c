-- The instructions of a capsule in the stack, one by one.
use Rattle.std.proofs.Common.{◌≡◌, ◌<◌, ◌≤◌, ℕ, ◌+◌, List, length, refl, sym, ap, ◌∙◌, subst, arith, Some, get_or}
use Rattle.std.proofs.lemmas.Option.{slice_get_read}
use Rattle.ppm_strands.specs.Capsule.{Capsule, Memory, Ends, ending, leaves, asked}
use Rattle.ppm_code.specs.Capsules.{at_act, capsule_from, capsule_of}
use Rattle.ppm_code.specs.Locations.{Where, code_locations}
use Rattle.ppm_code.proofs.CapsuleLemmas.{worked, past_end}
use Rattle.ppm_code.specs.declared.act.Act.{Act}
use Rattle.ppm_code.specs.declared.act.Act.TheVariants.{Steps}
use Rattle.ppm_code.specs.declared.act.End.{End}
use Rattle.ppm_code.specs.declared.act.End.TheVariants.{Finish}
use Rattle.ppm_code.specs.declared.act.Step.{Step}
use Rattle.ppm_code.specs.declared.act.Step.TheVariants.{Loads, Stores, Asks}
use Rattle.ppm_code.specs.declared.code.CodeParts.{CodeParts}
use Rattle.ppm_code.specs.declared.instr.Instr.{Instr}
use Rattle.ppm_code.specs.Acts.{does}
use Rattle.ppm_code.specs.Code.{IsCode}
use Rattle.ppm_code.specs.Limits.{room_limit}
use Rattle.ppm_code.specs.Sizes.{procedure_at, size_at, slots_at}
use Rattle.ppm_code.specs.Strands.{instrs_of}
use Rattle.ppm_code.specs.Tidy.{IsTidy}
use Rattle.ppm_depth.specs.Store.{Shows, IsWithin, asked_by}
use Rattle.ppm_depth.specs.Whole.{IsPlace, IsWhole, Keeps, block_at}
use Rattle.ppm_depth.specs.declared.store.Place.{Place}
use Rattle.ppm_depth.proofs.ActLemmas.{ActFits, does_fits}
use Rattle.ppm_code.proofs.CodeLemmas.{instr_fits}
use Rattle.ppm_depth.proofs.BlockLemmas.{store_fits}
use Rattle.ppm_depth.proofs.RestLemmas.{IsLaid, IsLeft, IsStepWithin}

module _ (code : CodeParts) (is_code : IsCode code) (tidy : IsTidy code) (number : ℕ) (less : number < length code.capsules) (array_words : ℕ) where
  -- what an instruction does fits
  abbrev pub DoesFit : (at : ℕ) → Act → Type 0
  DoesFit at a = ActFits code (procedure_at code number) (instrs_of code number) array_words (block_at code number) at a

  pub act_fits : (is : List Instr) (at : ℕ) (i : Instr) (g : List ℕ) (a : Act) → is ≡ instrs_of code number → at < length is → i ≡ get_or is at i
      → a ≡ does array_words i g → DoesFit at a
  act_fits is at i g a same there read acts =
      let one = slice_get_read (instrs_of code number) (length (instrs_of code number)) at i refl
      (subst (λ (js : List Instr). at < length js) same there) (subst (λ (js : List Instr). i ≡ get_or js at i) same read) in
      subst (λ (b : Act). DoesFit at b) (sym acts)
      (does_fits code (procedure_at code number) (instrs_of code number) array_words (block_at code number) at i g
      (instr_fits code is_code number at i less one)
      (λ word from e. store_fits code is_code tidy number at word from less (one ∙ ap (λ (j : Instr). Some j) e)))

  -- a step that fits is within
  pub step_within : (at : ℕ) (s : Step) (p : Place) (words : List ℕ) → array_words ≡ length words → DoesFit at (Steps s)
      → IsStepWithin (slots_at code number) (block_at code number) p (length words) s
  step_within at (Loads l to) p words same h = subst (λ (n : ℕ). IsWithin (slots_at code number) (block_at code number) n l) same h
  step_within at (Stores l v) p words same h = subst (λ (n : ℕ). IsWithin (slots_at code number) (block_at code number) n l) same h
  step_within at (Asks n) p words same h = tt

  -- room is asked for once
  pub asked_few : (at : ℕ) (s : Step) (so_far count : ℕ) → DoesFit at (Steps s) → count ≡ asked_by s → so_far ≤ room_limit → (at ≡ 0 → so_far ≡ 0)
      → so_far + count ≤ room_limit
  asked_few at (Loads l to) so_far count h counts few first = omega (arith, counts, few)
  asked_few at (Stores l v) so_far count h counts few first = omega (arith, counts, few)
  asked_few at (Asks n) so_far count h counts few first = let none = first h.0 in omega (arith, counts, none, h.1)

-- the stack has the frame and the block, also after changes within them
pub place_laid : (code : CodeParts) (number : ℕ) (p : Place) (old blocks : List ℕ) → IsPlace code number p old
    → Keeps p (size_at code number) old blocks → IsLaid (slots_at code number) (block_at code number) p blocks
place_laid code number p old blocks place keeps = record { frame = place.frame; block = place.block ∙ sym keeps.length }

module _ (slots size : ℕ) (p : Place) (whole : Capsule Where End) (m : Memory Where) (so_far : ℕ) (blocks words : List ℕ) where
  -- what is left, by what the instruction does
  pub act_left : (array_words at : ℕ) (is : List Instr) (g : List ℕ) (i : Instr) (a : Act) → at < length is → i ≡ get_or is at i
      → a ≡ does array_words i g → IsLeft slots size p whole m so_far blocks words (capsule_from array_words 0 at is g)
      → IsLeft slots size p whole m so_far blocks words (at_act (λ t h. capsule_from array_words 0 t is h) (at + 1) a g)
  act_left array_words at is g i a there read acts left =
      subst (λ (q : Capsule Where End). IsLeft slots size p whole m so_far blocks words q)
      (sym (worked array_words at is g i a _ there read acts refl)) left

  -- past the last instruction
  pub past_left : (array_words at : ℕ) (is : List Instr) (g : List ℕ) → length is ≤ at
      → IsLeft slots size p whole m so_far blocks words (capsule_from array_words 0 at is g)
      → IsLeft slots size p whole m so_far blocks words (Ends Finish)
  past_left array_words at is g past left =
      subst (λ (q : Capsule Where End). IsLeft slots size p whole m so_far blocks words q) (past_end array_words at is g past) left

-- at its end
pub whole_ends : (code : CodeParts) (number : ℕ) (p : Place) (m : Memory Where) (so_far : ℕ) (blocks words : List ℕ) (array_words : ℕ)
    (is : List Instr) (e : End) → is ≡ instrs_of code number → array_words ≡ length words
    → IsLeft (slots_at code number) (block_at code number) p (capsule_of array_words is) m so_far blocks words (Ends e)
    → IsWhole code number p blocks words m (record { end = e; asked = so_far })
whole_ends code number p m so_far blocks words array_words is e same count left =
    let one : capsule_of array_words is ≡ capsule_of (length words) (instrs_of code number) =
    ap (λ (n : ℕ). capsule_of n is) count ∙ ap (λ (js : List Instr). capsule_of (length words) js) same in
    record {
      end = left.end ∙ ap (λ (q : Capsule Where End). ending code_locations q m) one;
      asks =
          let all = left.asks in
          let plain : so_far + 0 ≡ so_far = omega arith in
          sym plain ∙ all ∙ ap (λ (q : Capsule Where End). asked code_locations q m) one;
      shows = subst (λ (n : Memory Where). Shows (slots_at code number) (block_at code number) p blocks words n)
          (left.memory ∙ ap (λ (q : Capsule Where End). leaves code_locations q m) one) left.shows;
    }
