-- What a program's code comes to is the program's serial outcome: the whole form ends as the plain one, and that has one outcome.
use Rattle.std.proofs.Common.{◌≡◌, ◌≢◌, ◌≤◌, ℕ, ◌+◌, ◌*◌, ℤ, List, refl, sym, ◌∙◌, subst, arith}
use Rattle.ppm_strands.specs.Tree.{Words}
use Rattle.ppm_strands.specs.Run.{End as CapsuleEnd}
use Rattle.ppm_words.specs.declared.named_array.NamedArray.{NamedArray}
use Rattle.ppm_words.specs.declared.outcome.Outcome.{Outcome}
use Rattle.ppm_words.specs.declared.outcome.Outcome.TheVariants as outcome
use Rattle.ppm_code.specs.Strands.{Result, Gave, Trapped as TrappedAt}
use Rattle.ppm_depth.specs.Run.{said_of, ComesTo}
use Rattle.ppm_tree.specs.Tree.{ProgramTree}
use Rattle.ppm_tree.specs.Limits.{IsWithin}
use Rattle.ppm_tree.specs.Meaning.{Counts, End, Ended, Trapped}
use Rattle.ppm_tree.specs.Program.{initial_arrays, values_of, outcome_of, Serial, Within, NotWithin}
use Rattle.ppm_tree.specs.Correct.{IsAlike, Same, SameTrap}
use Rattle.ppm_tree.proofs.Spending.{spends_its_turns}
use Rattle.ppm_tree.proofs.WholeEnds.{ends_whole}
use Rattle.ppm_regions.specs.Admission.{IsAdmitted}
use Rattle.ppm_cut_bounds.specs.Bounds.{IsWithinBounds}
use Rattle.ppm_cut_code.specs.Routines.{code_of}
use Rattle.ppm_cut_correct.specs.Correct.{EndsAsMeant, HasSerialEnd, EndsSerially}
use Rattle.ppm_cut_correct.proofs.InputLemmas.{starts_with_input}
use Rattle.ppm_cut_correct.proofs.Theorem.{end_as_meant_everywhere}

-- ends that are alike are one outcome
same_outcome : (input : List NamedArray) {j k : Counts} {y z : End ℤ} → IsAlike j y k z → outcome_of input y ≡ outcome_of input z
same_outcome input (Same k x a) = refl
same_outcome input (SameTrap j k stop a b less) = refl

-- what is said of an end is an outcome of its own
is_said : (input : List NamedArray) (words : Words) (o : Result) → said_of input words o ≢ outcome.NotWithin
is_said input words (Gave v) same = cc
is_said input words (TrappedAt trap line) same = cc

module _ (t : ProgramTree) (within : IsWithin t) (admitted : IsAdmitted t) (bounds : IsWithinBounds t) where
  abbrev input : List NamedArray
  input = initial_arrays t

  meant : EndsAsMeant t input
  meant = end_as_meant_everywhere t within admitted bounds input (starts_with_input t within admitted)

  -- what the code comes to, the program comes to whole, and so serially
  serially : (e : CapsuleEnd Result) → ComesTo (code_of t) input e → (n : ℕ) × Serial t n (said_of input e.words e.outcome)
  serially e comes =
      let whole = meant.ends_only e comes in
      let plain = (ends_whole t).plain (values_of input) whole.0 whole.1 whole.2 in (
        plain.0.turns,
        subst (λ (o : Outcome). Serial t plain.0.turns o) (same_outcome input plain.3 ∙ sym whole.3.outcome)
            (Within plain.0 plain.1 plain.2 (omega arith)),
      )

  -- arrays within so many turns are those of the whole run
  arrays_met : (n : ℕ) (o : Outcome) → Serial t n o → (arrays : List NamedArray) → o ≡ outcome.Ended arrays
      → (e : CapsuleEnd Result) × ComesTo (code_of t) input e × (said_of input e.words e.outcome ≡ outcome.Ended arrays)
      × (e.counts.capsules ≤ 2 * n)
  arrays_met n _ (Within k (Ended v values) run low) arrays same =
      let whole = meant.ends k (Ended v values) ((ends_whole t).whole (values_of input) values k v run) in
      let few = whole.2.capsules in
      (whole.0, whole.1, whole.2.outcome ∙ same, omega (arith, few, low))
  arrays_met n _ (Within k (Trapped stop values) run low) arrays same = absurd (cc)
  arrays_met n _ (NotWithin more) arrays same = absurd (cc)

  -- two outcomes, each within a number of turns, are one
  no_other : (n : ℕ) (o : Outcome) → Serial t n o → o ≢ outcome.NotWithin
      → (e : CapsuleEnd Result) → ComesTo (code_of t) input e → said_of input e.words e.outcome ≡ o
  no_other n o runs some e comes =
      let there = serially e comes in
      let said = said_of input e.words e.outcome in
      let spends = spends_its_turns t in
      spends.one (n + there.0) said o
      (spends.more there.0 (n + there.0) said (omega arith) (is_said input e.words e.outcome) there.1)
      (spends.more n (n + there.0) o (omega arith) some runs)

-- what the code of each program that the compiler takes comes to is the program's serial outcome
pub serially_everywhere : EndsSerially
serially_everywhere t within admitted bounds = record {
  serially = serially t within admitted bounds;
  arrays = λ n arrays runs. arrays_met t within admitted bounds n (outcome.Ended arrays) runs arrays refl;
  no_other = no_other t within admitted bounds;
}
