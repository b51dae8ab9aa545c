-- From a frame that has no words after its slots, and a tidy code, the premises of the law on
-- ends.
use Rattle.std.proofs.Common.{◌≡◌, ◌≤◌, ◌<◌, ℕ, ◌+◌, Bool, true, false, List, inl, inr, refl, arith}
use Rattle.std.specs.Prelude.{nat_lt, if◌then◌else◌}
use Rattle.std.proofs.lemmas.Bool.{ltb-true, ltb-false}
use Rattle.ppm_cells.specs.Memory.{read}
use Rattle.ppm_cells.specs.declared.cell.Cell.TheVariants.{BlockWord}
use Rattle.ppm_cells.specs.declared.shape.Shape.{Shape}
use Rattle.ppm_strands.specs.Strand.{Own, New, start}
use Rattle.ppm_strands.proofs.AlikeLemmas.{framed}
use Rattle.ppm_code.specs.Capsules.{capsule_of}
use Rattle.ppm_code.specs.Locations.{code_locations}
use Rattle.ppm_code.specs.Sizes.{slot_at, left_at, right_at, slots_at}
use Rattle.ppm_code.specs.Strands.{instrs_of, table_of}
use Rattle.ppm_code.specs.Tidy.{Builds}
use Rattle.ppm_code.specs.declared.act.End.{End}
use Rattle.ppm_code.specs.declared.act.End.TheVariants.{Next, Finish, Trap, Call, Fork}
use Rattle.ppm_code.specs.declared.code.CodeParts.{CodeParts}
use Rattle.ppm_code.specs.declared.location.FrameWord.{FrameWord}
use Rattle.ppm_code.specs.declared.location.FrameWord.TheVariants.{Slot, Value}
use Rattle.ppm_layout.specs.Root.{own_at}
use Rattle.ppm_slots.proofs.TrimLemmas.{frames_stay_trim, leaves_trim}
use Rattle.ppm_slots.proofs.BlankLemmas.{writes_are_slots}
use Rattle.ppm_ends.specs.Shown.{AreBlank, AreWordsOf, block_size}
use Rattle.ppm_ends.specs.Whole.{CapsulesShow, end_of, memory_of}
use Rattle.ppm_ends.proofs.Theorem.{ends_shown}

-- what is no slot is blank where only slots are not
blank_by : (code : CodeParts) (e : End) (new : ℕ → ℕ) → ((o : ℕ) → (Builds code e o → ⊥) → new o ≡ 0) → AreBlank code e new
blank_by code (Next k) new h = tt
blank_by code Finish new h = tt
blank_by code (Trap trap line) new h = tt
blank_by code (Call q k to) new h = h 5 (λ b. let from = b.0 in omega (arith, from))
blank_by code (Fork l r k left_to right_to) new h = (
  h (left_at + 5) (λ b. elim b [ inl c ↦ (let from = c.0 in omega (arith, from)) | inr c ↦ (let from = c.0 in omega (arith, from)) ]),
  h (right_at code l + 5) (λ b. elim b [ inl c ↦ (let to = c.1 in omega (arith, to)) | inr c ↦ (let from = c.0 in omega (arith, from)) ]),
)

-- own words on slots, and 0 after them
own_by : (s : Shape) (words : List ℕ) (slots frame : ℕ) (own : FrameWord → ℕ)
    → ((i : ℕ) → i < slots → own (Slot i) ≡ read s words (BlockWord (frame + slot_at i)))
    → own Value ≡ read s words (BlockWord (frame + 4)) → ((i : ℕ) → slots ≤ i → own (Slot i) ≡ 0)
    → (w : FrameWord) → own w ≡ own_at s words slots frame w
own_by s words slots frame own slot value behind Value = value
own_by s words slots frame own slot value behind (Slot i) = go (nat_lt i slots) refl
  where
    go : (b : Bool) → nat_lt i slots ≡ b → own (Slot i) ≡ (if b then read s words (BlockWord (frame + slot_at i)) else 0)
    go true e = slot i (ltb-true i slots e)
    go false e = behind i (ltb-false i slots e)

pub capsules_show : CapsulesShow
capsules_show s code array_words home f a words is_code tidy there trim h =
    let slots = slots_at code f.point.capsule in
    let e = end_of code array_words f a in
    let m = memory_of code array_words f a in
    let p = capsule_of array_words (instrs_of code f.point.capsule) in
    let begin = start code_locations (table_of code array_words) f a in
    let words_are : AreWordsOf s home slots (block_size code e) words m =
    record {
      own = own_by s words slots home.frame (λ w. m (Own w)) h.slot h.value (leaves_trim code array_words is_code f a trim);
      new = h.new;
      frame_within = h.frame_within;
      block_within = h.block_within;
      apart = h.apart;
    } in
    let blank = blank_by code e (λ o. m (New o)) (λ o none.
    framed code_locations p begin (New o) (λ i. none (writes_are_slots code array_words f.point.capsule o begin is_code tidy there i))) in (
      ends_shown s code array_words home slots f.point m e words words_are blank,
      (frames_stay_trim code array_words is_code).opens f a trim,
    )
