-- A strand under way makes its step, in any run in which it is.
use Rattle.std.proofs.Common.{◌≡◌, ℕ, List, [], ◌∷◌, length, refl, sym, ap, ◌∙◌, subst, Some, None}
use Rattle.ppm_strands.specs.Tree.{Words}
use Rattle.ppm_strands.specs.Capsule.{Memory}
use Rattle.ppm_unseen.specs.Run.{State, UnderWay, Waits, Opens as OpensNext, Splits, Finishes, Changed as HasChanged}
use Rattle.ppm_unseen.specs.Run.{Asked, asked, begun, count}
use Rattle.ppm_code.specs.declared.act.End.{End}
use Rattle.ppm_code.specs.declared.location.FrameWord.{FrameWord}
use Rattle.ppm_code.specs.Strands.{at_capsule}
use Rattle.ppm_filled.specs.Racing.{OwnWord, Place, At, Exit, Of, ending, exit_opens}
use Rattle.ppm_racy.specs.declared.code.RacyParts.{RacyParts}
use Rattle.ppm_racy.specs.Capsules.{built}
use Rattle.ppm_racy.specs.Code.{instrs_of, plain_code}
use Rattle.ppm_interleaving.specs.declared.deed.Turn.TheVariants.{Step}
use Rattle.ppm_interleaving.specs.declared.ending.Opened.{Opened}
use Rattle.ppm_interleaving.specs.declared.ending.Opened.TheVariants as opened
use Rattle.ppm_interleaving.specs.declared.own.Own.{Own}
use Rattle.ppm_interleaving.specs.declared.running.Running.{Running}
use Rattle.ppm_interleaving.specs.declared.running.Touched.TheVariants.{Goes, Changed, Ends}
use Rattle.ppm_interleaving.specs.declared.strand.Strand.{Strand}
use Rattle.ppm_interleaving.specs.declared.strand.Strand.TheVariants.{Running as IsRunning}
use Rattle.ppm_interleaving.specs.Owns.{ShowsOwn}
use Rattle.ppm_interleaving.specs.Steps.{Opens, TurnsTo, asked_by, under_way}
use Rattle.ppm_interleaving.specs.Shows.{ShowsStrand, system}
use Rattle.ppm_interleaving.specs.Stepping.{IsBeside, StepsTo, WordsAfter, as_step}
use Rattle.ppm_interleaving.specs.Turns.{Moment, moment, deeds, ComesBy, Goes as GoesBy, Does as DoesBy, AsItIs, came}
use Rattle.ppm_interleaving.proofs.EndLemmas.{ready_to_open, begun_state, begun_asks}

module _ (code : RacyParts) (array_words : ℕ) (root : FrameWord → ℕ) (arrays : Words) (h : List Moment) (i : ℕ) where
  -- a strand that comes so far, and has asked for that
  abbrev pub ComesAsking : State OwnWord Place Exit → Asked → Type 0
  ComesAsking σ a = (c : ComesBy (system code array_words root arrays) i h σ) × (asked (came (system code array_words root arrays) c) ≡ a)

  module _ (words after : List ℕ) (strands : List Strand) (beside : IsBeside code array_words root arrays (deeds h) words strands) (old : Running)
      (shows : ShowsStrand code array_words root arrays (Some (IsRunning old)) i h) where
    -- where it is
    at_old : ComesAsking (under_way code array_words old shows.2.0) (asked_by old)
    at_old = subst (λ (σ : State OwnWord Place Exit). ComesAsking σ (asked_by old)) shows.2.2 (shows.1, shows.3)

    pub goes : (new : Running) → TurnsTo code array_words old words (Goes new) after
        → ShowsStrand code array_words root arrays (Some (IsRunning new)) i (moment (Step i) None ∷ h)
    goes new to =
        let m = to.1 root arrays (deeds h) shows.2.0 shows.2.1 beside.words in (
          under_way code array_words new m.0,
          GoesBy at_old.0 (AsItIs m.2.no_end) m.2.step,
          (m.0, m.1, refl),
          m.2.asks i (came (system code array_words root arrays) at_old.0) at_old.1,
        )

    pub changes : (new : Running) (word was is : ℕ) → TurnsTo code array_words old words (Changed new word was is) after
        → ShowsStrand code array_words root arrays (Some (IsRunning new)) i (moment (Step i) (Some (HasChanged i word is)) ∷ h)
    changes new word was is to =
        let m = to.3 root arrays (deeds h) shows.2.0 shows.2.1 beside.words in
        let seen = m.1 i in (
          under_way code array_words new shows.2.0,
          DoesBy at_old.0 (AsItIs seen.no_end) seen.step,
          (shows.2.0, m.0, refl),
          seen.asks (came (system code array_words root arrays) at_old.0) at_old.1,
        )

    module _ (own : Own) (end : End) (to : TurnsTo code array_words old words (Ends own end) after) where
      -- it is at the end
      at_end : ComesAsking (UnderWay (At (at_capsule old.capsule)) (ending (built (instrs_of code old.capsule)) end) shows.2.0) (asked_by old)
      at_end = subst (λ (σ : State OwnWord Place Exit). ComesAsking σ (asked_by old)) (to.1 shows.2.0 shows.2.1).1 at_old

      pub ends : (o : Opened) → ((p : Memory OwnWord) → ShowsOwn own p → Opens code (length strands) o (exit_opens (plain_code code) (Of end) p))
          → StepsTo code array_words root arrays h i (IsRunning old) (as_step o)
      ends (opened.GoesOn r) opens =
          let ready = ready_to_open code array_words root arrays (At (at_capsule old.capsule)) (built (instrs_of code old.capsule)) end shows.2.0 in
          let f = opens shows.2.0 (to.1 shows.2.0 shows.2.1).0 in (
            (
              begun (system code array_words root arrays) f.0,
              GoesBy at_end.0 ready.ready (OpensNext (Of end) f.0 (ready.opens ∙ f.1)),
              (f.0.own, f.2.own, begun_state code array_words root arrays r f.0 f.2),
              sym (begun_asks r.capsule r.own r f.2.begun),
            ),
            refl,
          )
      ends (opened.Calls r w) opens =
          let ready = ready_to_open code array_words root arrays (At (at_capsule old.capsule)) (built (instrs_of code old.capsule)) end shows.2.0 in
          let f = opens shows.2.0 (to.1 shows.2.0 shows.2.1).0 in (
            f.0,
            f.3,
            (
              Waits f.1 (count (system code array_words root arrays) (deeds h)) (f.0 ∷ []),
              DoesBy at_end.0 ready.ready (Splits (Of end) (f.0 ∷ []) f.1 (ready.opens ∙ f.2)),
              (f.1, f.0 ∷ [], f.4, ap (λ (n : ℕ). Waits f.1 n (f.0 ∷ [])) (beside.strand_count ∙ sym f.5)),
              refl,
            ),
            refl,
          )
      ends (opened.Forks l r w) opens =
          let ready = ready_to_open code array_words root arrays (At (at_capsule old.capsule)) (built (instrs_of code old.capsule)) end shows.2.0 in
          let f = opens shows.2.0 (to.1 shows.2.0 shows.2.1).0 in (
            f.0,
            f.1,
            f.4,
            f.5,
            (
              Waits f.2 (count (system code array_words root arrays) (deeds h)) (f.0 ∷ f.1 ∷ []),
              DoesBy at_end.0 ready.ready (Splits (Of end) (f.0 ∷ f.1 ∷ []) f.2 (ready.opens ∙ f.3)),
              (f.2, f.0 ∷ f.1 ∷ [], f.6, ap (λ (n : ℕ). Waits f.2 n (f.0 ∷ f.1 ∷ [])) (beside.strand_count ∙ sym f.7)),
              refl,
            ),
            refl,
          )
      ends (opened.Closes fin) opens =
          let ready = ready_to_open code array_words root arrays (At (at_capsule old.capsule)) (built (instrs_of code old.capsule)) end shows.2.0 in
          let is = opens shows.2.0 (to.1 shows.2.0 shows.2.1).0 in
          ((_, DoesBy at_end.0 ready.ready (Finishes (Of end) _ (ready.opens ∙ is)), refl, refl), refl)

-- what an end opens changes no word
pub words_opened : (words after : List ℕ) (o : Opened) → after ≡ words → WordsAfter words (as_step o) after
words_opened words after (opened.GoesOn r) same = same
words_opened words after (opened.Calls r w) same = same
words_opened words after (opened.Forks l r w) same = same
words_opened words after (opened.Closes f) same = same
