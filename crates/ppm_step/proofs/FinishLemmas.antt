-- The finish word along a run, and how processors come to be done.
use Rattle.std.proofs.Common.{◌≡◌, ◌≢◌, ◌<◌, ◌+◌, ◌*◌, ◌⊎◌, inl, inr, refl, sym, ap, ◌∙◌, subst, arith, ℕ, zero, suc, List, [], ◌∷◌, ◌++◌, length}
use Rattle.std.proofs.Common.{replicate, slice_index, slice_set}
use Rattle.std.specs.Prelude.{slice_get}
use Rattle.std.specs.List.{AllByRecursion}
use Rattle.ppm_cells.specs.Cells.{place_size}
use Rattle.ppm_cells.specs.Fields.{number_of}
use Rattle.ppm_cells.specs.Finish.{finish_word}
use Rattle.ppm_cells.specs.Memory.{AreWordsOf}
use Rattle.ppm_cells.specs.declared.shape.Shape.{Shape}
use Rattle.ppm_code.specs.Code.{IsCode}
use Rattle.ppm_code.specs.declared.code.CodeParts.{CodeParts}
use Rattle.ppm_step.specs.declared.ask.Want.{Want}
use Rattle.ppm_step.specs.declared.turn.Act.TheVariants.{Hard, Quit}
use Rattle.ppm_step.specs.declared.turn.Turn.{Turn}
use Rattle.ppm_step.specs.declared.turn.Why.{Why}
use Rattle.ppm_step.specs.declared.turn.Why.TheVariants.{Turns, Watch}
use Rattle.ppm_step.specs.Standings.{Standing, IsLost, IsDone}
use Rattle.ppm_step.specs.State.{State, stand_in, stand_of, found_in, words_after, quit_with, want_of, stand_after, acts, happens, after, opening}
use Rattle.ppm_step.specs.Laws.{IsStruck, IsNoQuit, IsProposedWord, FinishStays, FinishIsProposed, DoneHasCause}
use Rattle.ppm_step.proofs.StandLemmas.{Spares, no_done}
use Rattle.ppm_step.proofs.WordLemmas.{exchanged_to, WordGoes, word_goes, length_stays, kept_over}
use Rattle.ppm_step.proofs.ActLemmas.{asks_act, StandsAfter, after_act, acted, acts_live, moved}

-- the word with which a processor quits
quit_some : (p : ℕ) (why : Why) → finish_word (quit_with p why) ≢ 0
unfolding number_of
quit_some p Turns e = omega (arith, e)
quit_some p Watch e = omega (arith, e)

module _ (s : Shape) (code : CodeParts) (is : IsCode code) where
  -- each processor is done, or spares the finish word
  abbrev pub SparesOrDone : Standing → Type 0
  SparesOrDone standing = Spares s standing ⊎ (standing ≡ IsDone)

  abbrev pub AllSpare : State → Type 0
  AllSpare state = (processor : ℕ) → SparesOrDone (stand_of state processor)

  -- what holds of a turn follows from what holds of an act of a processor that is not done, and of no change
  pub by_turn : (P : State → Type 0) (state : State) (turn : Turn) → P state
      → (Spares s (stand_of state turn.processor) → P (acted s code is state turn.processor turn.act (stand_of state turn.processor)))
      → SparesOrDone (stand_of state turn.processor) → P (happens s code state turn)
  by_turn P state turn same go (inl live) =
      subst P (sym (acts_live s code is state turn.processor turn.act (stand_of state turn.processor) live)) (go live)
  by_turn P state turn same go (inr done) = subst P (sym (ap (acts s code state turn.processor turn.act) done)) same

  -- after a turn each processor is done, or spares the finish word, if before it all were or did
  pub turn_spares : (state : State) (turn : Turn) → AllSpare state → AllSpare (happens s code state turn)
  turn_spares state turn all = by_turn AllSpare state turn all live (all turn.processor)
    where
      standing : Standing
      standing = stand_of state turn.processor

      next : Standing
      next = stand_after s code turn.processor turn.act (found_in state.words (want_of s code turn.processor turn.act standing)) standing

      after_it : StandsAfter s code is turn.act state.words (want_of s code turn.processor turn.act standing) next → SparesOrDone next
      after_it (inl h) = inl h
      after_it (inr t) = inr t.0

      at_one : Spares s standing → (q : ℕ)
          → ((q ≡ turn.processor) × (stand_in (slice_get (slice_set state.stand turn.processor next) q) ≡ next))
          ⊎ (stand_in (slice_get (slice_set state.stand turn.processor next) q) ≡ stand_in (slice_get state.stand q))
          → SparesOrDone (stand_in (slice_get (slice_set state.stand turn.processor next) q))
      at_one h q (inl t) =
          subst SparesOrDone (sym t.1) (after_it (after_act s code is turn.processor turn.act state.words standing h))
      at_one h q (inr t) = subst SparesOrDone (sym t) (all q)

      live : Spares s standing → AllSpare (acted s code is state turn.processor turn.act standing)
      live h q = at_one h q (moved s code is state.stand turn.processor q next)

  -- the finish word over a turn
  turn_word : (state : State) (turn : Turn) → AllSpare state
      → WordGoes (λ word. IsNoQuit turn.act → IsProposedWord s.processors word) (slice_index state.words 0) (slice_index (happens s code state turn).words 0)
  turn_word state turn all =
      by_turn (λ (k : State). WordGoes (λ word. IsNoQuit turn.act → IsProposedWord s.processors word) (slice_index state.words 0) (slice_index k.words 0))
      state turn (inl refl)
      (λ h. word_goes (λ word. IsNoQuit turn.act → IsProposedWord s.processors word) state.words
      (want_of s code turn.processor turn.act (stand_of state turn.processor))
      (asks_act s code is turn.processor turn.act (stand_of state turn.processor) h))
      (all turn.processor)

  turn_length : (state : State) (turn : Turn) → AllSpare state → length (happens s code state turn).words ≡ length state.words
  turn_length state turn all =
      by_turn (λ (k : State). length k.words ≡ length state.words) state turn refl
      (λ h. length_stays state.words (want_of s code turn.processor turn.act (stand_of state turn.processor))) (all turn.processor)

  -- runs
  run_spares : (state : State) (turns : List Turn) → AllSpare state → AllSpare (after s code state turns)
  run_spares state [] all = all
  run_spares state (turn ∷ turns) all = run_spares (happens s code state turn) turns (turn_spares state turn all)

  pub opening_spares : (n q : ℕ) → SparesOrDone (stand_in (slice_get (replicate n IsLost) q))
  opening_spares zero q = inr refl
  opening_spares (suc n) zero = inl tt
  opening_spares (suc n) (suc q) = opening_spares n q

  -- two lists of turns
  in_two : (state : State) (first more : List Turn) → after s code state (first ++ more) ≡ after s code (after s code state first) more
  in_two state [] more = refl
  in_two state (turn ∷ first) more = in_two (happens s code state turn) first more

  stays : (state : State) (more : List Turn) → AllSpare state → slice_index state.words 0 ≢ 0
      → slice_index (after s code state more).words 0 ≡ slice_index state.words 0
  stays state [] all some = refl
  stays state (turn ∷ more) all some =
      let same = kept_over (λ word. IsNoQuit turn.act → IsProposedWord s.processors word) (slice_index state.words 0)
      (slice_index (happens s code state turn).words 0) (turn_word state turn all) some in
      stays (happens s code state turn) more (turn_spares state turn all) (λ e. some (sym same ∙ e)) ∙ same

  pub finish_stays : FinishStays s code
  finish_stays words first more some =
      ap (λ (k : State). slice_index k.words 0) (in_two (opening words s.processors) first more)
      ∙ stays (after s code (opening words s.processors) first) more
      (run_spares (opening words s.processors) first (opening_spares s.processors)) some

  -- without a quit
  by_turn_word : (state : State) (turn : Turn) (turns : List Turn) → IsNoQuit turn.act
      → WordGoes (λ word. IsNoQuit turn.act → IsProposedWord s.processors word) (slice_index state.words 0) (slice_index (happens s code state turn).words 0)
      → (slice_index (after s code (happens s code state turn) turns).words 0 ≡ slice_index (happens s code state turn).words 0)
      ⊎ IsProposedWord s.processors (slice_index (after s code (happens s code state turn) turns).words 0)
      → (slice_index (after s code (happens s code state turn) turns).words 0 ≡ slice_index state.words 0)
      ⊎ IsProposedWord s.processors (slice_index (after s code (happens s code state turn) turns).words 0)
  by_turn_word state turn turns none goes (inr p) = inr p
  by_turn_word state turn turns none (inl same) (inl e) = inl (e ∙ same)
  by_turn_word state turn turns none (inr t) (inl e) = inr (subst (IsProposedWord s.processors) (sym e) (t.1 none))

  proposed : (state : State) (turns : List Turn) → AllSpare state → AllByRecursion (λ turn. IsNoQuit turn.act) turns
      → (slice_index (after s code state turns).words 0 ≡ slice_index state.words 0)
      ⊎ IsProposedWord s.processors (slice_index (after s code state turns).words 0)
  proposed state [] all none = inl refl
  proposed state (turn ∷ turns) all none =
      by_turn_word state turn turns none.0 (turn_word state turn all)
      (proposed (happens s code state turn) turns (turn_spares state turn all) none.1)

  pub finish_is_proposed : FinishIsProposed s code
  finish_is_proposed words turns none = proposed (opening words s.processors) turns (opening_spares s.processors) none

  abbrev IsCaused : State → Turn → (p : ℕ) → Type 0
  IsCaused later turn p = (turn ≡ record { processor = p; act = Hard }) ⊎ (stand_of later p ≡ IsDone → slice_index later.words 0 ≢ 0)

  turn_is : (turn : Turn) (p : ℕ) → turn.processor ≡ p → turn.act ≡ Hard → turn ≡ record { processor = p; act = Hard }
  turn_is turn p whose hard = λ i. record { processor = whose i; act = hard i }

  turn_cause : (state : State) (turn : Turn) (p : ℕ) → AllSpare state → 0 < length state.words
      → (stand_of state p ≡ IsDone → slice_index state.words 0 ≢ 0) → IsCaused (happens s code state turn) turn p
  turn_cause state turn p all long so_far =
      by_turn (λ (k : State). IsCaused k turn p) state turn (inr so_far)
      (λ h. by_place h (after_act s code is turn.processor turn.act state.words standing h) (moved s code is state.stand turn.processor p next))
      (all turn.processor)
    where
      standing : Standing
      standing = stand_of state turn.processor

      want : Want
      want = want_of s code turn.processor turn.act standing

      next : Standing
      next = stand_after s code turn.processor turn.act (found_in state.words want) standing

      of_new : p ≡ turn.processor → stand_in (slice_get (slice_set state.stand turn.processor next) p) ≡ next
          → StandsAfter s code is turn.act state.words want next → IsCaused (acted s code is state turn.processor turn.act standing) turn p
      of_new whose is_next (inl h) = inr (λ done. absurd (no_done s next h (sym is_next ∙ done)))
      of_new whose is_next (inr (done, inl hard)) = inl (turn_is turn p (sym whose) hard)
      of_new whose is_next (inr (done, inr some)) = inr (λ d. some long)

      by_place : Spares s standing → StandsAfter s code is turn.act state.words want next
          → ((p ≡ turn.processor) × (stand_in (slice_get (slice_set state.stand turn.processor next) p) ≡ next))
          ⊎ (stand_in (slice_get (slice_set state.stand turn.processor next) p) ≡ stand_in (slice_get state.stand p))
          → IsCaused (acted s code is state turn.processor turn.act standing) turn p
      by_place h goes (inl t) = of_new t.0 t.1 goes
      by_place h goes (inr same) =
          inr (λ done none.
          so_far (sym same ∙ done)
          (sym (kept_over (λ word. IsNoQuit turn.act → IsProposedWord s.processors word) (slice_index state.words 0)
          (slice_index (words_after state.words want) 0)
          (word_goes (λ word. IsNoQuit turn.act → IsProposedWord s.processors word) state.words want (asks_act s code is turn.processor turn.act standing h))
          (so_far (sym same ∙ done))) ∙ none))

  later_struck : (turn : Turn) (turns : List Turn) (p : ℕ) → IsStruck p turns → IsStruck p (turn ∷ turns)
  later_struck turn turns p b = record { first = turn ∷ b.first; more = b.more; turns_are = ap (λ ts. turn ∷ ts) b.turns_are }

  by_cause : (state : State) (turn : Turn) (turns : List Turn) (p : ℕ) → IsCaused (happens s code state turn) turn p
      → ((stand_of (happens s code state turn) p ≡ IsDone → slice_index (happens s code state turn).words 0 ≢ 0)
      → IsStruck p turns ⊎ (slice_index (after s code (happens s code state turn) turns).words 0 ≢ 0))
      → IsStruck p (turn ∷ turns) ⊎ (slice_index (after s code (happens s code state turn) turns).words 0 ≢ 0)
  by_cause state turn turns p (inl hard) go = inl (record { first = []; more = turns; turns_are = ap (λ u. u ∷ turns) hard })
  by_cause state turn turns p (inr so_far) go = either (go so_far)
    where
      either : IsStruck p turns ⊎ (slice_index (after s code (happens s code state turn) turns).words 0 ≢ 0)
          → IsStruck p (turn ∷ turns) ⊎ (slice_index (after s code (happens s code state turn) turns).words 0 ≢ 0)
      either (inl b) = inl (later_struck turn turns p b)
      either (inr some) = inr some

  caused : (state : State) (turns : List Turn) (p : ℕ) → AllSpare state → 0 < length state.words
      → stand_of (after s code state turns) p ≡ IsDone
      → (stand_of state p ≡ IsDone → slice_index state.words 0 ≢ 0)
      → IsStruck p turns ⊎ (slice_index (after s code state turns).words 0 ≢ 0)
  caused state [] p all long done so_far = inr (so_far done)
  caused state (turn ∷ turns) p all long done so_far =
      by_cause state turn turns p (turn_cause state turn p all long so_far)
      (caused (happens s code state turn) turns p (turn_spares state turn all) (omega (arith, long, turn_length state turn all)) done)

  -- in an opening none of the shape is
  lost_there : (n p : ℕ) → p < n → stand_in (slice_get (replicate n IsLost) p) ≡ IsLost
  lost_there zero p less = absurd (omega (arith, less))
  lost_there (suc n) zero less = refl
  lost_there (suc n) (suc p) less = lost_there n p (omega (arith, less))

  some_words : (words : List ℕ) → AreWordsOf s words → 0 < length words
  some_words words are = positive s.processors (s.processors * place_size s) s.arrays (length words) are
    where
      positive : (p x m n : ℕ) → n ≡ 1 + 2 * p + x + m → 0 < n
      positive p x m n e = omega (arith, e)

  run_length : (state : State) (turns : List Turn) → AllSpare state → length (after s code state turns).words ≡ length state.words
  run_length state [] all = refl
  run_length state (turn ∷ turns) all = run_length (happens s code state turn) turns (turn_spares state turn all) ∙ turn_length state turn all

  -- where the finish word is 0, a processor that is not done quits by its own word
  pub quit_is_told : (words : List ℕ) (first more : List Turn) (p : ℕ) (why : Why) → AreWordsOf s words
      → slice_index (after s code (opening words s.processors) first).words 0 ≡ 0
      → stand_of (after s code (opening words s.processors) first) p ≢ IsDone
      → slice_index (after s code (opening words s.processors) (first ++ (record { processor = p; act = Quit why } ∷ more))).words 0
      ≡ finish_word (quit_with p why)
  quit_is_told words first more p why are none lives =
      ap (λ (k : State). slice_index k.words 0) (in_two start first (quit ∷ more))
      ∙ stays (happens s code state quit) more (turn_spares state quit all) (λ e. quit_some p why (sym (told (all p)) ∙ e))
      ∙ told (all p)
    where
      start : State
      start = opening words s.processors

      state : State
      state = after s code start first

      quit : Turn
      quit = record { processor = p; act = Quit why }

      all : AllSpare state
      all = run_spares start first (opening_spares s.processors)

      long : 0 < length state.words
      long = omega (arith, some_words words are, run_length start first (opening_spares s.processors))

      told : SparesOrDone (stand_of state p) → slice_index (happens s code state quit).words 0 ≡ finish_word (quit_with p why)
      told (inl live) =
          subst (λ (k : State). slice_index k.words 0 ≡ finish_word (quit_with p why))
          (sym (acts_live s code is state p (Quit why) (stand_of state p) live))
          (exchanged_to state.words (finish_word (quit_with p why)) none long)
      told (inr done) = absurd (lives done)

  pub done_has_cause : DoneHasCause s code
  done_has_cause words turns p are there done =
      caused (opening words s.processors) turns p (opening_spares s.processors) (some_words words are) done
      (λ d. absurd (no_done s IsLost tt (sym (lost_there s.processors p there) ∙ d)))
