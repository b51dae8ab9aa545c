-- A capsule that may race, at an instruction.
use Rattle.std.proofs.Common.{◌≡◌, ◌<◌, ◌≤◌, ℕ, zero, suc, ◌+◌, ◌-◌, max, List, []}
use Rattle.std.proofs.Common.{◌∷◌, length, get_or, refl, sym, ap, ◌∙◌, arith, add-zero, zero-add, slice_set, Some}
use Rattle.std.specs.Prelude.{slice_get}
use Rattle.std.proofs.lemmas.Option.{slice_get_read}
use Rattle.ppm_unseen.specs.Capsule.{Capsule as Racing, Changes, exchange}
use Rattle.ppm_code.specs.declared.act.Act.{Act}
use Rattle.ppm_code.specs.declared.act.Act.TheVariants.{Sets, Passes, Jumps, Steps, Ends as Stops}
use Rattle.ppm_code.specs.declared.act.Step.{Step}
use Rattle.ppm_code.specs.declared.act.Step.TheVariants.{Loads, Stores, Asks}
use Rattle.ppm_code.specs.declared.act.End.TheVariants.{Finish}
use Rattle.ppm_filled.specs.Racing.{OwnWord, Exit, ending}
use Rattle.ppm_racy.specs.declared.instr.RacyInstr.{RacyInstr}
use Rattle.ppm_racy.specs.declared.instr.RacyAct.{RacyAct}
use Rattle.ppm_racy.specs.declared.instr.RacyAct.TheVariants.{Plain, Exchanges}
use Rattle.ppm_racy.specs.Acts.{does}
use Rattle.ppm_racy.specs.Capsules.{Going, loading, storing, at_step, at_act, capsule_from}

-- how it goes on matters at later instructions alone
same_step : (p q : Going) (next : ℕ) (s : Step) (g : List ℕ)
    → ((t : ℕ) (h : List ℕ) → next ≤ t → p t h ≡ q t h) → at_step p next s g ≡ at_step q next s g
same_step p q next (Loads l d) g same = λ i. loading l (λ v. same next (slice_set g d.index v) (omega arith) i)
same_step p q next (Stores l v) g same = ap (storing l v) (same next g (omega arith))
same_step p q next (Asks n) g same = same next g (omega arith)

module _ (block : List OwnWord) where
  same_act : (p q : Going) (next : ℕ) (a : RacyAct) (g : List ℕ)
      → ((t : ℕ) (h : List ℕ) → next ≤ t → p t h ≡ q t h) → at_act block p next a g ≡ at_act block q next a g
  same_act p q next (Plain (Sets d v)) g same = same next (slice_set g d.index v) (omega arith)
  same_act p q next (Plain Passes) g same = same next g (omega arith)
  same_act p q next (Plain (Jumps t)) g same = same (max t next) g (omega arith)
  same_act p q next (Plain (Steps s)) g same = same_step p q next s g same
  same_act p q next (Plain (Stops e)) g same = refl
  same_act p q next (Exchanges x old new) g same = ap (Changes x (exchange old new)) (same next g (omega arith))

  module _ (words : ℕ) where
    later : (here t : ℕ) (i : RacyInstr) (is : List RacyInstr) (h : List ℕ) → here + 1 ≤ t
        → capsule_from block words (here + 1) (t - (here + 1)) is h ≡ capsule_from block words here (t - here) (i ∷ is) h
    later here t i is h less =
        let e : t - here ≡ suc (t - (here + 1)) = omega arith in
        rw e refl

    from_here : (here skip : ℕ) (is : List RacyInstr) (g : List ℕ) (i : RacyInstr) → slice_get is skip ≡ Some i
        → capsule_from block words here skip is g
        ≡ at_act block (λ t h. capsule_from block words here (t - here) is h) (here + skip + 1) (does words i g) g
    from_here here skip [] g i none = cc
    from_here here zero (j ∷ is) g i one =
        let e : j ≡ i = cc in
        same_act (λ t h. capsule_from block words (here + 1) (t - (here + 1)) is h) (λ t h. capsule_from block words here (t - here) (j ∷ is) h)
        (here + 1) (does words j g) g (λ t h less. later here t j is h less)
        ∙ ap (λ (k : RacyInstr). at_act block (λ t h. capsule_from block words here (t - here) (j ∷ is) h) (here + 1) (does words k g) g) e
        ∙ ap (λ (n : ℕ). at_act block (λ t h. capsule_from block words here (t - here) (j ∷ is) h) (n + 1) (does words i g) g) (sym (add-zero here))
    from_here here (suc skip) (j ∷ is) g i some =
        let e : (here + 1) + skip ≡ here + suc skip = omega arith in
        from_here (here + 1) skip is g i some
        ∙ ap (λ (n : ℕ). at_act block (λ t h. capsule_from block words (here + 1) (t - (here + 1)) is h) (n + 1) (does words i g) g) e
        ∙ same_act (λ t h. capsule_from block words (here + 1) (t - (here + 1)) is h) (λ t h. capsule_from block words here (t - here) (j ∷ is) h)
        (here + suc skip + 1) (does words i g) g (λ t h less. later here t j is h (omega arith))

    past : (here skip : ℕ) (is : List RacyInstr) (g : List ℕ) → length is ≤ skip → capsule_from block words here skip is g ≡ ending block Finish
    past here skip [] g h = refl
    past here zero (j ∷ is) g h = absurd (omega arith)
    past here (suc skip) (j ∷ is) g h = past (here + 1) skip is g (omega arith)

    -- the capsule at an instruction
    pub at_instr : (at : ℕ) (is : List RacyInstr) (g : List ℕ) (i : RacyInstr) → slice_get is at ≡ Some i
        → capsule_from block words 0 at is g ≡ at_act block (λ t h. capsule_from block words 0 t is h) (at + 1) (does words i g) g
    at_instr at is g i some =
        from_here 0 at is g i some
        ∙ ap (λ (n : ℕ). at_act block (λ t h. capsule_from block words 0 (t - 0) is h) (n + 1) (does words i g) g) (zero-add at)
        ∙ same_act (λ t h. capsule_from block words 0 (t - 0) is h) (λ t h. capsule_from block words 0 t is h) (at + 1) (does words i g) g
        (λ t h less. ap (λ (n : ℕ). capsule_from block words 0 n is h) (omega arith))

    pub past_end : (at : ℕ) (is : List RacyInstr) (g : List ℕ) → length is ≤ at → capsule_from block words 0 at is g ≡ ending block Finish
    past_end at is g h = past 0 at is g h

    -- the capsule after what its instruction does
    pub worked : (at : ℕ) (is : List RacyInstr) (g : List ℕ) (i : RacyInstr) (a : RacyAct) (c : Racing OwnWord Exit)
        → at < length is → i ≡ get_or is at i → a ≡ does words i g
        → capsule_from block words 0 at is g ≡ c → at_act block (λ t h. capsule_from block words 0 t is h) (at + 1) a g ≡ c
    worked at is g i a c less read acts before =
        ap (λ (b : RacyAct). at_act block (λ t h. capsule_from block words 0 t is h) (at + 1) b g) acts
        ∙ sym (at_instr at is g i (slice_get_read is (length is) at i refl less read))
        ∙ before

-- an act of a code, as it is read off in two matches
pub decoded : (a d : RacyAct) (p q : Act) → a ≡ d → a ≡ Plain p → p ≡ q → Plain q ≡ d
decoded a d p q acts plain is = ap Plain (sym is) ∙ sym plain ∙ acts
