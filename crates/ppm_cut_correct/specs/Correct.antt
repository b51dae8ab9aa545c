-- That the code of a program ends exactly where the program does when both branches of each fork are run whole, as it means; and so serially.
use Rattle.std.specs.Prelude.{◌≡◌, ◌≢◌, ◌≤◌, ◌⊎◌, ℕ, ◌+◌, ◌-◌, ◌*◌, ℤ, List, [], ◌∷◌}
use Rattle.std.specs.List.{sum_by}
use Rattle.std.specs.Set.{distinct_count}
use Rattle.std.specs.Str.{bytes_eq}
use Rattle.ppm_strands.specs.Tree.{Words, Tree}
use Rattle.ppm_strands.specs.Run.{Counts as CapsuleCounts, End as CapsuleEnd}
use Rattle.ppm_strands.specs.Strand.{Frame as CapsuleFrame}
use Rattle.ppm_words.specs.declared.named_array.NamedArray.{NamedArray}
use Rattle.ppm_words.specs.declared.outcome.Outcome.{Outcome}
use Rattle.ppm_words.specs.declared.outcome.Outcome.TheVariants as outcome
use Rattle.ppm_code.specs.declared.location.FrameWord.{FrameWord}
use Rattle.ppm_code.specs.Sizes.{frame_size}
use Rattle.ppm_code.specs.Strands.{Point, Result}
use Rattle.ppm_depth.specs.Run.{said_of, pool_words, ComesTo, BeginsWith}
use Rattle.ppm_tree.specs.Tree.{Block, Procedure, ProgramTree}
use Rattle.ppm_tree.specs.Limits.{IsWithin}
use Rattle.ppm_tree.specs.State.{procedure_named}
use Rattle.ppm_tree.specs.Meaning.{Whole, Begun, Call, Fork, Each, Counts, End}
use Rattle.ppm_tree.specs.Program.{initial_arrays, values_of, main_of, outcome_of, Means, Serial}
use Rattle.ppm_regions.specs.Admission.{IsAdmitted}
use Rattle.ppm_cut_bounds.specs.Bounds.{IsWithinBounds}
use Rattle.ppm_cut_bounds.specs.Names.{without, free_names}
use Rattle.ppm_cut_code.specs.Inputs.{IsInputOf}
use Rattle.ppm_cut_code.specs.Slots.{procedure_slots, hidden_slots, frame_words, fork_words}
use Rattle.ppm_cut_code.specs.Routines.{code_of}

module _ (procedures : List Procedure) where
  -- the slots of the procedure with the name, and those of the hidden procedure of an `each`
  abbrev pub slots_named : List ℕ → ℕ
  slots_named x = procedure_slots (procedure_named procedures x)

  abbrev pub slots_of_each : (index part : List ℕ) → Block → ℕ
  slots_of_each i x block = hidden_slots (distinct_count bytes_eq (without (i ∷ x ∷ []) (free_names block))) block

  -- the words of the frames that a call, a fork or an `each` over so many elements asks for; an `each` forks once less than it has elements
  abbrev pub words_begun : Begun → ℕ
  words_begun (Call callee) = frame_words (slots_named callee)
  words_begun (Fork left right) = fork_words (slots_named left) (slots_named right)
  words_begun (Each i x r block m) =
      frame_words (slots_of_each i x block) + (m - 1) * fork_words (slots_of_each i x block) (slots_of_each i x block)

-- the words that a run of a program takes: the frame of `main`, and those that its calls, its forks and each `each` ask for
abbrev pub words_taken : ProgramTree → Counts → ℕ
words_taken t k = frame_words (procedure_slots (main_of t)) + sum_by (words_begun t.procedures) k.begun

-- the depth-first end of the code is that of the meaning: the outcome, two capsules a turn at most, the same forks, and as many words of the
-- pools as the run takes, also where arguments trap
pub record IsEndOf (t : ProgramTree) (input : List NamedArray) (e : CapsuleEnd Result) (k : Counts) (z : End ℤ) : Type 0 where
  pub outcome : said_of input e.words e.outcome ≡ outcome_of input z
  pub capsules : e.counts.capsules ≤ 2 * k.turns
  pub forks : e.counts.forks ≡ k.forks
  pub pool_words : pool_words (code_of t) e.counts ≡ words_taken t k

-- From an input the program, run whole, has an end exactly where its code's depth-first run has one, and it is the same. Where it has none the
-- code runs as many capsules as one likes. The root's frame is that of `main`.
pub record EndsAsMeant (t : ProgramTree) (input : List NamedArray) : Type 0 where
  pub root : frame_size (code_of t) (code_of t).root ≡ frame_words (procedure_slots (main_of t))
  pub ends : (k : Counts) (z : End ℤ) → Means Whole t (values_of input) k z
      → (e : CapsuleEnd Result) × ComesTo (code_of t) input e × IsEndOf t input e k z
  pub ends_only : (e : CapsuleEnd Result) → ComesTo (code_of t) input e
      → (k : Counts) × (z : End ℤ) × Means Whole t (values_of input) k z × IsEndOf t input e k z
  pub goes_on : (n : ℕ) → ((k : Counts) × (z : End ℤ) × Means Whole t (values_of input) k z)
      ⊎ ((i : CapsuleCounts) × (u : Tree (CapsuleFrame FrameWord Point) Result) × (b : Words) × BeginsWith (code_of t) input i u b × (n ≤ i.capsules))

-- the code of each program that the compiler takes ends as the program means, from each input for its arrays
abbrev pub EndAsMeant : Type 0
EndAsMeant = (t : ProgramTree) → IsWithin t → IsAdmitted t → IsWithinBounds t → (input : List NamedArray) → IsInputOf t input → EndsAsMeant t input

-- From the arrays that its text gives, what the program's code comes to depth first is the program's serial outcome within some number of turns.
-- Arrays within n turns are what the code comes to, in two capsules a turn at most; and where the program has an outcome within n turns, the code
-- comes to no other. After a trap the branches beside it still run in the code, and may run for ever.
pub record HasSerialEnd (t : ProgramTree) : Type 0 where
  pub serially : (e : CapsuleEnd Result) → ComesTo (code_of t) (initial_arrays t) e
      → (n : ℕ) × Serial t n (said_of (initial_arrays t) e.words e.outcome)
  pub arrays : (n : ℕ) (arrays : List NamedArray) → Serial t n (outcome.Ended arrays)
      → (e : CapsuleEnd Result) × ComesTo (code_of t) (initial_arrays t) e × (said_of (initial_arrays t) e.words e.outcome ≡ outcome.Ended arrays)
      × (e.counts.capsules ≤ 2 * n)
  pub no_other : (n : ℕ) (o : Outcome) → Serial t n o → o ≢ outcome.NotWithin
      → (e : CapsuleEnd Result) → ComesTo (code_of t) (initial_arrays t) e → said_of (initial_arrays t) e.words e.outcome ≡ o

-- what the code of each program that the compiler takes comes to is the program's serial outcome
abbrev pub EndsSerially : Type 0
EndsSerially = (t : ProgramTree) → IsWithin t → IsAdmitted t → IsWithinBounds t → HasSerialEnd t
