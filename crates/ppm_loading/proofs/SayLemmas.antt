-- The answer that a finish word says.
use Rattle.std.proofs.Common.{◌≡◌, ◌≢◌, ℕ, zero, suc, List, Option, Some, None, refl, sym, ap, ◌∙◌, subst}
use Rattle.ppm_words.specs.declared.named_array.NamedArray.{NamedArray}
use Rattle.ppm_words.specs.declared.trap.Trap.{Trap}
use Rattle.ppm_cells.specs.Fields.{number_of}
use Rattle.ppm_cells.specs.Finish.{finish_word, finish_of, IsFinish}
use Rattle.ppm_cells.specs.declared.finish.Finish.{Finish}
use Rattle.ppm_cells.specs.declared.shape.Shape.{Shape}
use Rattle.ppm_cells.specs.declared.finish.Finish.TheVariants as finishes
use Rattle.ppm_cells.proofs.ExactLemmas.{unpack-pack}
use Rattle.ppm_cells.proofs.FinishLemmas.{finishes_exact}
use Rattle.ppm_cells.specs.declared.ending.Ending.{Ending}
use Rattle.ppm_cells.specs.declared.ending.Ending.TheVariants.{NotYet, With, Unknown}
use Rattle.ppm_cells.specs.Ending.{ending_by, ending_of}
use Rattle.ppm_step.specs.Laws.{IsProposed, IsProposedWord}
use Rattle.ppm_answers.specs.declared.answer.Answer.{Answer}
use Rattle.ppm_answers.specs.declared.answer.Answer.TheVariants as answers
use Rattle.ppm_loading.specs.Says.{arrays_from, IsOfFinish, IsOfEnding}

-- no finish
pub unset_is : finish_word finishes.Unset ≡ 0
unfolding number_of
unset_is = refl

unset_stands : finish_of 0 ≡ Some finishes.Unset
unset_stands =
    subst (λ w. finish_of w ≡ Some finishes.Unset) unset_is (unpack-pack finish_word IsFinish finish_of finishes_exact finishes.Unset tt)

same_finish : (a b : Finish) → Some a ≡ Some b → a ≡ b
same_finish a b e = cc

-- a word that stands for another one isn't 0
pub is_some : (word : ℕ) (finish : Finish) → finish_of word ≡ Some finish → finish ≢ finishes.Unset → word ≢ 0
is_some word finish stands other none =
    other (same_finish finish finishes.Unset (sym stands ∙ ap finish_of none ∙ unset_stands))

-- a word that stands for an ending says it
pub ending_is : (word : ℕ) (finish : Finish) → finish_of word ≡ Some finish → finish ≢ finishes.Unset → ending_of word ≡ With finish
ending_is zero finish stands other = absurd (is_some 0 finish stands other refl)
ending_is (suc word) finish stands other = ap ending_by stands

module _ (processors : ℕ) where
  proposed_other : (finish : Finish) → IsProposed processors finish → finish ≢ finishes.Unset
  proposed_other finish p e = subst (IsProposed processors) e p

  pub proposed_some : (word : ℕ) → IsProposedWord processors word → word ≢ 0
  proposed_some word w = is_some word w.finish w.stands (proposed_other w.finish w.is_proposed)

  pub proposed_ending : (word : ℕ) (w : IsProposedWord processors word) → ending_of word ≡ With w.finish
  proposed_ending word w = ending_is word w.finish w.stands (proposed_other w.finish w.is_proposed)

module _ (ended : List NamedArray → Answer) (trapped : Trap → ℕ → Answer) (spent : ℕ → Answer → Type 0) (not_ended : Answer → Type 0)
    (s : Shape) (lengths words : List ℕ) (arrays : List NamedArray) where
  abbrev Of : Finish → Answer → Type 0
  Of = IsOfFinish s lengths words ended trapped spent not_ended arrays

  abbrev By : Ending → Answer → Type 0
  By = IsOfEnding s lengths words ended trapped spent not_ended arrays

  -- an ending has one answer, where those of a command's own way are one
  module _ (one_spent : (processor : ℕ) (a b : Answer) → spent processor a → spent processor b → a ≡ b)
      (one_not_ended : (a b : Answer) → not_ended a → not_ended b → a ≡ b) where
    one_of_finish : (finish : Finish) (a b : Answer) → Of finish a → Of finish b → a ≡ b
    one_of_finish finishes.Ended a b h k = h ∙ sym k
    one_of_finish (finishes.Trapped trap line) a b h k = h ∙ sym k
    one_of_finish (finishes.OutOfRoom place) a b h k = h ∙ sym k
    one_of_finish (finishes.Broken place) a b h k = h ∙ sym k
    one_of_finish (finishes.OutOfTurns processor) a b h k = one_spent processor a b h k
    one_of_finish finishes.Stopped a b h k = absurd h
    one_of_finish finishes.Unset a b h k = absurd h

    pub one_of_ending : (e : Ending) (a b : Answer) → By e a → By e b → a ≡ b
    one_of_ending NotYet a b h k = one_not_ended a b h k
    one_of_ending (With finish) a b h k = one_of_finish finish a b h k
    one_of_ending Unknown a b h k = absurd h

  -- what steps propose has one
  some_of_finish : (processors : ℕ) (finish : Finish) → IsProposed processors finish → (a : Answer) × Of finish a
  some_of_finish processors finishes.Ended p = (ended (arrays_from s lengths words 0 arrays), refl)
  some_of_finish processors (finishes.Trapped trap line) p = (trapped trap line, refl)
  some_of_finish processors (finishes.OutOfRoom place) p = (answers.OutOfRoom place, refl)
  some_of_finish processors (finishes.Broken place) p = (answers.Broken place, refl)
  some_of_finish processors (finishes.OutOfTurns processor) p = absurd p
  some_of_finish processors finishes.Stopped p = absurd p
  some_of_finish processors finishes.Unset p = absurd p

  pub some_of_proposed : (processors word : ℕ) → IsProposedWord processors word → (a : Answer) × By (ending_of word) a
  some_of_proposed processors word w =
      let a = some_of_finish processors w.finish w.is_proposed in
      (a.0, subst (λ (e : Ending). By e a.0) (sym (proposed_ending processors word w)) a.1)

  -- and the answer of a word that stands for it is its answer
  pub of_proposed : (processors word : ℕ) (w : IsProposedWord processors word) (a : Answer) → By (ending_of word) a → Of w.finish a
  of_proposed processors word w a = subst (λ (e : Ending). By e a) (proposed_ending processors word w)

  -- what a word says, if it isn't that the run has no end, is of its finish
  pub said_of_word : (word : ℕ) (a : Answer) → ¬ not_ended a → By (ending_of word) a
      → (finish : Finish) × (finish_of word ≡ Some finish) × Of finish a
  said_of_word zero a ends h = absurd (ends h)
  said_of_word (suc word) a ends h = go (finish_of (suc word)) refl h
    where
      go : (o : Option Finish) → finish_of (suc word) ≡ o → By (ending_by o) a → (finish : Finish) × (finish_of (suc word) ≡ Some finish) × Of finish a
      go None e k = absurd k
      go (Some finish) e k = (finish, e, k)
