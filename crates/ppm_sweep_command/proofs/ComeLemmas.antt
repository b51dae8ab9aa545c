-- A replay comes to the outcome of a depth-first run exactly where its answer is that outcome.
use Rattle.std.proofs.Common.{◌≡◌, ℕ, ◌+◌, ℤ, List, [], ◌∷◌, length, map, refl, sym, ap, ◌∙◌, subst, arith}
use Rattle.ppm_strands.specs.Tree.{Words}
use Rattle.ppm_words.specs.Inputs.{IsInput}
use Rattle.ppm_words.specs.declared.named_array.NamedArray.{NamedArray}
use Rattle.ppm_words.specs.declared.outcome.Outcome.{Outcome}
use Rattle.ppm_words.specs.declared.outcome.Outcome.TheVariants as outcome
use Rattle.ppm_cells.specs.Ending.{ending_of}
use Rattle.ppm_cells.specs.declared.ending.Ending.{Ending}
use Rattle.ppm_cells.specs.declared.ending.Ending.TheVariants.{NotYet, With, Unknown}
use Rattle.ppm_cells.specs.declared.finish.Finish.{Finish}
use Rattle.ppm_cells.specs.declared.finish.Finish.TheVariants as finishes
use Rattle.ppm_code.specs.Strands.{Result, Gave, Trapped}
use Rattle.ppm_code.specs.declared.code.CodeParts.{CodeParts}
use Rattle.ppm_depth.specs.Run.{arrays_at, said_of, IsWithin}
use Rattle.ppm_depth.specs.declared.depth.DepthRun.{DepthRun}
use Rattle.ppm_core.specs.Situation.{Situation, finish_in}
use Rattle.ppm_sweep.specs.Meets.{HasArraysOf, HasValues, Meets, MeetsEnding, MeetsFinish}
use Rattle.ppm_answers.specs.declared.answer.Answer.{Answer}
use Rattle.ppm_answers.specs.declared.answer.Answer.TheVariants as answers
use Rattle.ppm_loading.specs.Says.{arrays_from, IsOfEnding, IsOfFinish}
use Rattle.ppm_outcomes.specs.Replays.{IsSaid, tally_of}
use Rattle.ppm_sweep_command.specs.Sweeps.{IsOutcome}

-- arrays with the names of these, one for each
abbrev AreNamedAs : List NamedArray → List NamedArray → Type 0
AreNamedAs [] [] = Unit {0}
AreNamedAs [] (b ∷ others) = ⊥
AreNamedAs (a ∷ arrays) [] = ⊥
AreNamedAs (a ∷ arrays) (b ∷ others) = (a.name ≡ b.name) × AreNamedAs arrays others

-- an outcome to which a run from an input may come
abbrev pub IsOfInput : List NamedArray → Outcome → Type 0
IsOfInput input (outcome.Ended arrays) = AreNamedAs input arrays
IsOfInput input (outcome.Trapped trap line) = Unit {0}
IsOfInput input outcome.NotWithin = ⊥

-- that of the depth-first run is one
named : (words : Words) (start : ℕ) (arrays : List NamedArray) → AreNamedAs arrays (arrays_at words start arrays)
named words start [] = tt
named words start (a ∷ arrays) = (refl, named words (start + length a.values) arrays)

said_named : (input : List NamedArray) (words : Words) (r : Result) → IsOfInput input (said_of input words r)
said_named input words (Gave value) = named words 0 input
said_named input words (Trapped trap line) = tt

pub within_named : (code : CodeParts) (input : List NamedArray) (limit : ℕ) (run : DepthRun) → IsWithin code input limit run
    → IsOfInput input run.outcome
within_named code input limit run w = subst (IsOfInput input) (sym w.outcome) (said_named input w.end.words w.end.outcome)

-- it has as many arrays as the input
same_count : (arrays others : List NamedArray) → AreNamedAs arrays others → length others ≡ length arrays
same_count [] [] e = refl
same_count [] (b ∷ others) e = absurd e
same_count (a ∷ arrays) [] e = absurd e
same_count (a ∷ arrays) (b ∷ others) e = let rest = same_count arrays others e.1 in omega (arith, rest)

lengths_count : (input : List NamedArray) → length (map (λ (a : NamedArray). length a.values) input) ≡ length input
lengths_count [] = refl
lengths_count (a ∷ input) = let rest = lengths_count input in omega (arith, rest)

-- a machine with the arrays of the input has those of the outcome
pub has_arrays : (m : Situation) (input : List NamedArray) (wanted : Outcome) → m.array_lengths ≡ map (λ (a : NamedArray). length a.values) input
    → IsInput input → IsOfInput input wanted → HasArraysOf m wanted
has_arrays m input (outcome.Ended arrays) lengths is h =
    let count = same_count input arrays h in
    let words = ap (λ (l : List ℕ). length l) lengths ∙ lengths_count input in
    let few = is.arrays_bound in
    (omega (arith, count, words), omega (arith, count, few))
has_arrays m input (outcome.Trapped trap line) lengths is h = tt
has_arrays m input outcome.NotWithin lengths is h = tt

-- the values of the first of some arrays, and the arrays after it
abbrev first_values : List NamedArray → List ℤ
first_values [] = []
first_values (a ∷ arrays) = a.values

abbrev after_first : List NamedArray → List NamedArray
after_first [] = []
after_first (a ∷ arrays) = arrays

module _ (m : Situation) where
  abbrev Read : ℕ → List NamedArray → List NamedArray
  Read number input = arrays_from m.shape m.array_lengths m.state.words number input

  -- the arrays that the words have are these exactly where the machine has their values
  are_these : (number : ℕ) (input arrays : List NamedArray) → AreNamedAs input arrays → HasValues m number arrays → Read number input ≡ arrays
  are_these number [] [] e h = refl
  are_these number [] (b ∷ others) e h = absurd e
  are_these number (a ∷ input) [] e h = absurd e
  are_these number (a ∷ input) (b ∷ others) e h =
      let rest = are_these (number + 1) input others e.1 h.1 in
      λ i. record { name = e.0 i; values = h.0 i } ∷ rest i

  have_values : (number : ℕ) (input arrays : List NamedArray) → AreNamedAs input arrays → Read number input ≡ arrays → HasValues m number arrays
  have_values number [] [] e h = tt
  have_values number [] (b ∷ others) e h = absurd e
  have_values number (a ∷ input) [] e h = absurd e
  have_values number (a ∷ input) (b ∷ others) e h =
      (ap (λ (l : List NamedArray). first_values l) h, have_values (number + 1) input others e.1 (ap (λ (l : List NamedArray). after_first l) h))

  module _ (turns : ℕ) (input : List NamedArray) where
    -- the answers of a replay that words say
    abbrev OfFinish : Finish → Answer → Type 0
    OfFinish finish a =
        IsOfFinish m.shape m.array_lengths m.state.words (λ values. answers.EndedWith values (tally_of m))
        (λ trap line. answers.TrappedWith trap line (tally_of m)) (λ processor x. ⊥) (λ x. x ≡ answers.Unfinished turns) input finish a

    abbrev OfEnding : Ending → Answer → Type 0
    OfEnding ending a =
        IsOfEnding m.shape m.array_lengths m.state.words (λ values. answers.EndedWith values (tally_of m))
        (λ trap line. answers.TrappedWith trap line (tally_of m)) (λ processor x. ⊥) (λ x. x ≡ answers.Unfinished turns) input ending a

    -- a run that came to the outcome is answered so
    by_finish : (finish : Finish) (wanted : Outcome) → IsOfInput input wanted → (a : Answer) → OfFinish finish a → MeetsFinish finish wanted m
        → IsOutcome wanted a
    by_finish finishes.Ended (outcome.Ended arrays) is a h k =
        subst (IsOutcome (outcome.Ended arrays)) (sym h) (are_these 0 input arrays is k)
    by_finish finishes.Ended (outcome.Trapped trap line) is a h k = absurd k
    by_finish finishes.Ended outcome.NotWithin is a h k = absurd k
    by_finish (finishes.Trapped met at) (outcome.Ended arrays) is a h k = absurd k
    by_finish (finishes.Trapped met at) (outcome.Trapped trap line) is a h k = subst (IsOutcome (outcome.Trapped trap line)) (sym h) k
    by_finish (finishes.Trapped met at) outcome.NotWithin is a h k = absurd k
    by_finish (finishes.OutOfRoom place) wanted is a h k = absurd k
    by_finish (finishes.Broken place) wanted is a h k = absurd k
    by_finish (finishes.OutOfTurns processor) wanted is a h k = absurd k
    by_finish finishes.Stopped wanted is a h k = absurd k
    by_finish finishes.Unset wanted is a h k = absurd k

    by_ending : (ending : Ending) (wanted : Outcome) → IsOfInput input wanted → (a : Answer) → OfEnding ending a → MeetsEnding ending wanted m
        → IsOutcome wanted a
    by_ending NotYet wanted is a h k = absurd k
    by_ending (With finish) wanted is a h k = by_finish finish wanted is a h k
    by_ending Unknown wanted is a h k = absurd k

    pub comes_so : (wanted : Outcome) → IsOfInput input wanted → (a : Answer) → IsSaid turns m input a → Meets wanted m → IsOutcome wanted a
    comes_so wanted is a h k = by_ending (ending_of (finish_in m)) wanted is a h k

    -- no other answer is an outcome
    none_full : (place : ℕ) (wanted : Outcome) → IsOutcome wanted (answers.OutOfRoom place) → ⊥
    none_full place (outcome.Ended arrays) o = o
    none_full place (outcome.Trapped trap line) o = o
    none_full place outcome.NotWithin o = o

    none_broken : (place : ℕ) (wanted : Outcome) → IsOutcome wanted (answers.Broken place) → ⊥
    none_broken place (outcome.Ended arrays) o = o
    none_broken place (outcome.Trapped trap line) o = o
    none_broken place outcome.NotWithin o = o

    none_unfinished : (acts : ℕ) (wanted : Outcome) → IsOutcome wanted (answers.Unfinished acts) → ⊥
    none_unfinished acts (outcome.Ended arrays) o = o
    none_unfinished acts (outcome.Trapped trap line) o = o
    none_unfinished acts outcome.NotWithin o = o

    -- and one that is answered so came to it
    of_finish : (finish : Finish) (wanted : Outcome) → IsOfInput input wanted → (a : Answer) → OfFinish finish a → IsOutcome wanted a
        → MeetsFinish finish wanted m
    of_finish finishes.Ended (outcome.Ended arrays) is a h o =
        have_values 0 input arrays is (subst (IsOutcome (outcome.Ended arrays)) h o)
    of_finish finishes.Ended (outcome.Trapped trap line) is a h o = absurd (subst (IsOutcome (outcome.Trapped trap line)) h o)
    of_finish finishes.Ended outcome.NotWithin is a h o = absurd is
    of_finish (finishes.Trapped met at) (outcome.Ended arrays) is a h o = absurd (subst (IsOutcome (outcome.Ended arrays)) h o)
    of_finish (finishes.Trapped met at) (outcome.Trapped trap line) is a h o = subst (IsOutcome (outcome.Trapped trap line)) h o
    of_finish (finishes.Trapped met at) outcome.NotWithin is a h o = absurd is
    of_finish (finishes.OutOfRoom place) wanted is a h o = absurd (none_full place wanted (subst (IsOutcome wanted) h o))
    of_finish (finishes.Broken place) wanted is a h o = absurd (none_broken place wanted (subst (IsOutcome wanted) h o))
    of_finish (finishes.OutOfTurns processor) wanted is a h o = absurd h
    of_finish finishes.Stopped wanted is a h o = absurd h
    of_finish finishes.Unset wanted is a h o = absurd h

    of_ending : (ending : Ending) (wanted : Outcome) → IsOfInput input wanted → (a : Answer) → OfEnding ending a → IsOutcome wanted a
        → MeetsEnding ending wanted m
    of_ending NotYet wanted is a h o = absurd (none_unfinished turns wanted (subst (IsOutcome wanted) h o))
    of_ending (With finish) wanted is a h o = of_finish finish wanted is a h o
    of_ending Unknown wanted is a h o = absurd h

    pub came_so : (wanted : Outcome) → IsOfInput input wanted → (a : Answer) → IsSaid turns m input a → IsOutcome wanted a → Meets wanted m
    came_so wanted is a h o = of_ending (ending_of (finish_in m)) wanted is a h o
