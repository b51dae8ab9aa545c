-- A pool that the finish word says to be full is that of a place of the machine, whatever the legs and the turns are: it is a step that says so.
use Rattle.std.proofs.Common.{◌≡◌, ◌<◌, ℕ, List, [], ◌∷◌, ◌++◌, Some, inl, inr, sym, ap, ◌∙◌, subst, arith}
use Rattle.std.specs.List.{AllByRecursion}
use Rattle.ppm_cells.specs.Finish.{finish_of, finish_word, IsFinish}
use Rattle.ppm_cells.specs.Memory.{read}
use Rattle.ppm_cells.specs.declared.cell.Cell.TheVariants.{FinishWord}
use Rattle.ppm_cells.specs.declared.finish.Finish.{Finish}
use Rattle.ppm_cells.specs.declared.finish.Finish.TheVariants.{Unset, Ended, Trapped, OutOfTurns, OutOfRoom, Stopped, Broken}
use Rattle.ppm_cells.specs.declared.shape.Shape.{Shape}
use Rattle.ppm_cells.proofs.ExactLemmas.{unpack-pack}
use Rattle.ppm_cells.proofs.FinishLemmas.{finishes_exact}
use Rattle.ppm_code.specs.Code.{IsCode}
use Rattle.ppm_code.specs.declared.code.CodeParts.{CodeParts}
use Rattle.ppm_step.specs.Among.{IsTurnAmong}
use Rattle.ppm_step.specs.Laws.{IsProposed}
use Rattle.ppm_step.specs.State.{after, opening, quit_with}
use Rattle.ppm_step.specs.declared.turn.Act.TheVariants.{Quit}
use Rattle.ppm_step.specs.declared.turn.Turn.{Turn}
use Rattle.ppm_step.specs.declared.turn.Why.{Why}
use Rattle.ppm_step.specs.declared.turn.Why.TheVariants.{Turns, Watch}
use Rattle.ppm_step.proofs.QuitLemmas.{finish_has_cause}
use Rattle.ppm_loading.proofs.SayLemmas.{unset_is}
use Rattle.ppm_runs.specs.Legs.{Leg, AreLegs, words_then}

-- the turn between two parts
between : (P : Turn → Type 0) (first : List Turn) (turn : Turn) (more : List Turn) → AllByRecursion P (first ++ turn ∷ more) → P turn
between P [] turn more all = all.0
between P (other ∷ first) turn more all = between P first turn more all.1

-- a finish is read back from its word
read_back : (v : Finish) → IsFinish v → finish_of (finish_word v) ≡ Some v
read_back v fits = unpack-pack finish_word IsFinish finish_of finishes_exact v fits

unset_stands : finish_of 0 ≡ Some Unset
unset_stands = subst (λ (w : ℕ). finish_of w ≡ Some Unset) unset_is (read_back Unset tt)

-- none of these is that a pool is full
unset_other : (place : ℕ) → Some Unset ≡ Some (OutOfRoom place) → ⊥
unset_other place e = cc

quit_other : (c : ℕ) (why : Why) (place : ℕ) → Some (quit_with c why) ≡ Some (OutOfRoom place) → ⊥
quit_other c Turns place e = cc
quit_other c Watch place e = cc

-- a step says it of a place
proposed_place : (n : ℕ) (finish : Finish) → IsProposed n finish → (place : ℕ) → Some finish ≡ Some (OutOfRoom place) → place < n
proposed_place n (OutOfRoom other) p place e = let same : other ≡ place = cc in subst (λ (q : ℕ). q < n) same p
proposed_place n Ended p place e = absurd (let no : ⊥ = cc in no)
proposed_place n (Trapped trap line) p place e = absurd (let no : ⊥ = cc in no)
proposed_place n (Broken other) p place e = absurd (let no : ⊥ = cc in no)
proposed_place n (OutOfTurns c) p place e = absurd p
proposed_place n Stopped p place e = absurd p
proposed_place n Unset p place e = absurd p

module _ (s : Shape) (code : CodeParts) (is : IsCode code) where
  -- a pool that the word says to be full is that of a place
  abbrev IsOfPlace : ℕ → Type 0
  IsOfPlace word = (place : ℕ) → finish_of word ≡ Some (OutOfRoom place) → place < s.processors

  quit_fits : (c : ℕ) → c < s.processors → (why : Why) → IsFinish (quit_with c why)
  quit_fits c lt Turns = let few = s.within.processors_most in omega (arith, few, lt)
  quit_fits c lt Watch = tt

  behind_turns : (words : List ℕ) (turns : List Turn) → AllByRecursion (IsTurnAmong s.processors) turns → IsOfPlace (read s words FinishWord)
      → IsOfPlace (read s (after s code (opening words s.processors) turns).words FinishWord)
  behind_turns words turns all old place says = elim (finish_has_cause s code is words turns) [
    | inl same ↦ old place (ap finish_of (sym same) ∙ says)
    | inr cause ↦ elim cause [
      | inl proposed ↦ proposed_place s.processors proposed.finish proposed.is_proposed place (sym proposed.stands ∙ says)
      | inr quit ↦
          let at = between (IsTurnAmong s.processors) quit.quits.first (record { processor = quit.processor; act = Quit quit.why }) quit.quits.more (subst (AllByRecursion (IsTurnAmong s.processors)) quit.quits.turns_are all) in
          absurd (quit_other quit.processor quit.why place
          (sym (read_back (quit_with quit.processor quit.why) (quit_fits quit.processor at.processor quit.why)) ∙ ap finish_of (sym quit.word_is) ∙ says))
    ]
  ]

  module _ (words : List ℕ) (unset : read s words FinishWord ≡ 0) where
    behind_legs : (legs : List Leg) → AreLegs s code words legs → IsOfPlace (read s (words_then s code words legs) FinishWord)
    behind_legs [] are place says = absurd (unset_other place (sym unset_stands ∙ ap finish_of (sym unset) ∙ says))
    behind_legs (leg ∷ legs) are place says =
        let old = behind_turns (words_then s code words legs) leg.turns are.1 (behind_legs legs are.0) in elim are.2.finish [
          | inl same ↦ old place (ap finish_of (sym same) ∙ says)
          | inr none ↦ absurd (unset_other place (sym unset_stands ∙ ap finish_of (sym none) ∙ says))
        ]

    pub of_place : (legs : List Leg) → AreLegs s code words legs → (turns : List Turn) → AllByRecursion (IsTurnAmong s.processors) turns
        → IsOfPlace (read s (after s code (opening (words_then s code words legs) s.processors) turns).words FinishWord)
    of_place legs are turns all = behind_turns (words_then s code words legs) turns all (behind_legs legs are)
