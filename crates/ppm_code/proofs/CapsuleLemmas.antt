-- A capsule at an instruction.
use Rattle.std.proofs.Common.{◌≡◌, ◌<◌, ◌≤◌, ℕ, zero, suc, ◌+◌, ◌-◌, max, List, []}
use Rattle.std.proofs.Common.{◌∷◌, length, get_or, refl, sym, ap, ◌∙◌, arith, add-zero, zero-add, slice_set, Some}
use Rattle.std.specs.Prelude.{slice_get}
use Rattle.std.proofs.lemmas.Option.{slice_get_read}
use Rattle.ppm_code.specs.declared.instr.Instr.{Instr}
use Rattle.ppm_code.specs.declared.act.Act.{Act}
use Rattle.ppm_code.specs.declared.act.Act.TheVariants.{Sets, Passes, Jumps, Steps, Ends as Stops}
use Rattle.ppm_code.specs.declared.act.Step.{Step}
use Rattle.ppm_code.specs.declared.act.Step.TheVariants.{Loads, Stores, Asks}
use Rattle.ppm_code.specs.declared.act.End.TheVariants.{Finish}
use Rattle.ppm_code.specs.Acts.{does}
use Rattle.ppm_strands.specs.Capsule.{Capsule, Reads, Writes, Asks as AsksFor, Ends}
use Rattle.ppm_code.specs.declared.act.End.{End}
use Rattle.ppm_code.specs.Locations.{Where, location_of}
use Rattle.ppm_code.specs.Capsules.{capsule_from, at_act, at_step}

-- how it goes on matters at later instructions alone
same_step : (p q : ℕ → List ℕ → Capsule Where End) (next : ℕ) (s : Step) (g : List ℕ)
    → ((t : ℕ) (h : List ℕ) → next ≤ t → p t h ≡ q t h) → at_step p next s g ≡ at_step q next s g
same_step p q next (Loads l d) g same = λ i. Reads (location_of l) (λ v. same next (slice_set g d.index v) (omega arith) i)
same_step p q next (Stores l v) g same = ap (Writes (location_of l) v) (same next g (omega arith))
same_step p q next (Asks n) g same = ap (AsksFor n) (same next g (omega arith))

same_act : (p q : ℕ → List ℕ → Capsule Where End) (next : ℕ) (a : Act) (g : List ℕ)
    → ((t : ℕ) (h : List ℕ) → next ≤ t → p t h ≡ q t h) → at_act p next a g ≡ at_act q next a g
same_act p q next (Sets d v) g same = same next (slice_set g d.index v) (omega arith)
same_act p q next Passes g same = same next g (omega arith)
same_act p q next (Jumps t) g same = same (max t next) g (omega arith)
same_act p q next (Steps s) g same = same_step p q next s g same
same_act p q next (Stops e) g same = refl

module _ (words : ℕ) where
  later : (here t : ℕ) (i : Instr) (is : List Instr) (h : List ℕ) → here + 1 ≤ t
      → capsule_from words (here + 1) (t - (here + 1)) is h ≡ capsule_from words here (t - here) (i ∷ is) h
  later here t i is h less =
      let e : t - here ≡ suc (t - (here + 1)) = omega arith in
      rw e refl

  from_here : (here skip : ℕ) (is : List Instr) (g : List ℕ) (i : Instr) → slice_get is skip ≡ Some i
      → capsule_from words here skip is g ≡ at_act (λ t h. capsule_from words here (t - here) is h) (here + skip + 1) (does words i g) g
  from_here here skip [] g i none = cc
  from_here here zero (j ∷ is) g i one =
      let e : j ≡ i = cc in
      same_act (λ t h. capsule_from words (here + 1) (t - (here + 1)) is h) (λ t h. capsule_from words here (t - here) (j ∷ is) h)
      (here + 1) (does words j g) g (λ t h less. later here t j is h less)
      ∙ ap (λ (k : Instr). at_act (λ t h. capsule_from words here (t - here) (j ∷ is) h) (here + 1) (does words k g) g) e
      ∙ ap (λ (n : ℕ). at_act (λ t h. capsule_from words here (t - here) (j ∷ is) h) (n + 1) (does words i g) g) (sym (add-zero here))
  from_here here (suc skip) (j ∷ is) g i some =
      let e : (here + 1) + skip ≡ here + suc skip = omega arith in
      from_here (here + 1) skip is g i some
      ∙ ap (λ (n : ℕ). at_act (λ t h. capsule_from words (here + 1) (t - (here + 1)) is h) (n + 1) (does words i g) g) e
      ∙ same_act (λ t h. capsule_from words (here + 1) (t - (here + 1)) is h) (λ t h. capsule_from words here (t - here) (j ∷ is) h)
      (here + suc skip + 1) (does words i g) g (λ t h less. later here t j is h (omega arith))

  past : (here skip : ℕ) (is : List Instr) (g : List ℕ) → length is ≤ skip → capsule_from words here skip is g ≡ Ends Finish
  past here skip [] g h = refl
  past here zero (j ∷ is) g h = absurd (omega arith)
  past here (suc skip) (j ∷ is) g h = past (here + 1) skip is g (omega arith)

-- the capsule at an instruction
pub at_instr : (words at : ℕ) (is : List Instr) (g : List ℕ) (i : Instr) → slice_get is at ≡ Some i
    → capsule_from words 0 at is g ≡ at_act (λ t h. capsule_from words 0 t is h) (at + 1) (does words i g) g
at_instr words at is g i some =
    from_here words 0 at is g i some
    ∙ ap (λ (n : ℕ). at_act (λ t h. capsule_from words 0 (t - 0) is h) (n + 1) (does words i g) g) (zero-add at)
    ∙ same_act (λ t h. capsule_from words 0 (t - 0) is h) (λ t h. capsule_from words 0 t is h) (at + 1) (does words i g) g
    (λ t h less. ap (λ (n : ℕ). capsule_from words 0 n is h) (omega arith))

pub past_end : (words at : ℕ) (is : List Instr) (g : List ℕ) → length is ≤ at → capsule_from words 0 at is g ≡ Ends Finish
past_end words at is g h = past words 0 at is g h

-- the capsule after what its instruction does
pub worked : (words at : ℕ) (is : List Instr) (g : List ℕ) (i : Instr) (a : Act) (c : Capsule Where End)
    → at < length is → i ≡ get_or is at i → a ≡ does words i g
    → capsule_from words 0 at is g ≡ c → at_act (λ t h. capsule_from words 0 t is h) (at + 1) a g ≡ c
worked words at is g i a c less read acts before =
    ap (λ (b : Act). at_act (λ t h. capsule_from words 0 t is h) (at + 1) b g) acts
    ∙ sym (at_instr words at is g i (slice_get_read is (length is) at i refl less read))
    ∙ before
