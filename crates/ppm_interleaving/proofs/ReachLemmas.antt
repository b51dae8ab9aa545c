-- A turn of a strand under way, by the touch that its register work comes to.
use Rattle.std.proofs.Common.{◌≡◌, ℕ, ◌<◌, List, length, refl, sym, ap, ◌∙◌, subst, slice_set, Result as Answer, Ok, Err, IfOk}
use Rattle.std.proofs.lemmas.List.{length-set}
use Rattle.ppm_unseen.specs.Capsule.{Capsule as Racing, Changes}
use Rattle.ppm_unseen.specs.Run.{UnderWay, now}
use Rattle.ppm_code.specs.declared.location.Location.{Location}
use Rattle.ppm_code.specs.declared.location.Location.TheVariants.{Frame as OfTheFrame, New, Array}
use Rattle.ppm_code.specs.declared.register.Register.{Register}
use Rattle.ppm_code.specs.Strands.{at_capsule}
use Rattle.ppm_filled.specs.Racing.{OwnWord, OfFrame, OfBlock, At, Exit}
use Rattle.ppm_racy.specs.declared.code.RacyParts.{RacyParts}
use Rattle.ppm_racy.specs.declared.instr.RacyInstr.{RacyInstr}
use Rattle.ppm_racy.specs.declared.touch.Touch.{Touch}
use Rattle.ppm_racy.specs.declared.touch.Touch.TheVariants as touch
use Rattle.ppm_racy.specs.Capsules.{capsule_from, built, reached, IsWithin}
use Rattle.ppm_racy.specs.Code.{instrs_of}
use Rattle.ppm_interleaving.specs.declared.change.Change.{Change as Asking}
use Rattle.ppm_interleaving.specs.declared.change.Change.TheVariants.{Puts, Exchanges}
use Rattle.ppm_interleaving.specs.declared.running.Running.{Running}
use Rattle.ppm_interleaving.specs.declared.running.Touched.{Touched}
use Rattle.ppm_interleaving.specs.declared.running.Touched.TheVariants.{Goes, Changed, Ends}
use Rattle.ppm_interleaving.specs.Changes.{change_of}
use Rattle.ppm_interleaving.specs.Owns.{ShowsOwn}
use Rattle.ppm_interleaving.specs.Steps.{AsksFor, StoresAt, TurnsTo, found_at, asked_by}
use Rattle.ppm_interleaving.specs.Shows.{system}
use Rattle.ppm_interleaving.proofs.OwnLemmas.{one_put}
use Rattle.ppm_interleaving.proofs.StepLemmas.{loads_frame, loads_block, reads}
use Rattle.ppm_interleaving.proofs.TurnLemmas.{IsBefore, following, same_state, same_asked, carried, asks_goes, asks_changes, stores_frame, stores_block}

-- what a result has, if it has something
pub if_ok : {A E : Type 0} (P Q : A → Type 0) (r : Answer A E) → ((a : A) → P a → Q a) → IfOk r P → IfOk r Q
if_ok P Q (Ok a) f h = f a h
if_ok P Q (Err e) f h = h

-- register work comes so far in any code that has these instructions there
pub left_in : (code : RacyParts) (old : Running) (instrs : List RacyInstr) (count array_words next : ℕ) (t u : Touch) (g : List ℕ)
    → instrs_of code old.capsule ≡ instrs → count ≡ array_words → t ≡ u
    → ((block : List OwnWord) → capsule_from block count 0 old.at instrs old.registers ≡ reached block count instrs next t g)
    → following code array_words old old.at old.registers ≡ reached (built (instrs_of code old.capsule)) array_words (instrs_of code old.capsule) next u g
left_in code old instrs count array_words next t u g is same touch_is left =
    (λ i. capsule_from (built (instrs_of code old.capsule)) (sym same i) 0 old.at (is i) old.registers)
    ∙ left (built (instrs_of code old.capsule))
    ∙ (λ i. reached (built (instrs_of code old.capsule)) (same i) (sym is i) next (touch_is i) g)

module _ (code : RacyParts) (old mid : Running) (next : ℕ) (g : List ℕ) (before : IsBefore old mid next g) (words after : List ℕ) where
  abbrev rest : Racing OwnWord Exit
  rest = following code (length words) old next g

  -- a change
  pub asks_turn : (k : Asking) (touched : Touched) → following code (length words) old old.at old.registers ≡ Changes (change_of k).at (change_of k).by rest
      → (change_of k).at < length words → AsksFor mid k words touched after → TurnsTo code (length words) old words touched after
  asks_turn k (Goes new) left less asks = asks_goes code (length words) old mid next g before words after k new left asks
  asks_turn k (Changed new word was is) left less asks =
      asks_changes code (length words) old mid next g before words after k new word was is left
      (one_put words word is (subst (λ n. n < length words) (sym asks.4) less)) (length-set words word is) asks
  asks_turn k (Ends own end) left less asks = absurd asks

  -- a store
  pub stores_turn : (location : Location) (word : ℕ) (touched : Touched)
      → following code (length words) old old.at old.registers
      ≡ reached (built (instrs_of code old.capsule)) (length words) (instrs_of code old.capsule) next (touch.Stores location word) g
      → IsWithin (length words) location → StoresAt mid location word words touched after → TurnsTo code (length words) old words touched after
  stores_turn (Array x) word touched left within stores = asks_turn (Puts x word) touched left within stores
  stores_turn (OfTheFrame w) word (Goes new) left within stores =
      stores_frame code (length words) old mid next g before words after w word new left stores
  stores_turn (OfTheFrame w) word (Changed new at was is) left within stores = absurd stores
  stores_turn (OfTheFrame w) word (Ends own end) left within stores = absurd stores
  stores_turn (New n) word (Goes new) left within stores =
      stores_block code (length words) old mid next g before words after n word new left stores
  stores_turn (New n) word (Changed new at was is) left within stores = absurd stores
  stores_turn (New n) word (Ends own end) left within stores = absurd stores

  -- an exchange
  pub exchanges_turn : (x old_word new_word : ℕ) (touched : Touched)
      → following code (length words) old old.at old.registers
      ≡ reached (built (instrs_of code old.capsule)) (length words) (instrs_of code old.capsule) next (touch.Exchanges x old_word new_word) g
      → x < length words → AsksFor mid (Exchanges x old_word new_word) words touched after → TurnsTo code (length words) old words touched after
  exchanges_turn x old_word new_word touched left less asks = asks_turn (Exchanges x old_word new_word) touched left less asks

-- a load
pub loads_turn : (code : RacyParts) (old new : Running) (next : ℕ) (g : List ℕ) (words : List ℕ) (location : Location) (d : Register)
    → following code (length words) old old.at old.registers
    ≡ reached (built (instrs_of code old.capsule)) (length words) (instrs_of code old.capsule) next (touch.Loads location d) g
    → new.capsule ≡ old.capsule → new.at ≡ next → new.registers ≡ slice_set g d.index (found_at old.own words location) → new.own ≡ old.own
    → new.settled.items ≡ old.settled.items → new.since.items ≡ old.since.items → TurnsTo code (length words) old words (Goes new) words
loads_turn code old new next g words (OfTheFrame w) d left capsule at registers own settled since = (
  refl,
  λ root arrays t o shows same. (
    o,
    subst (λ x. ShowsOwn x o) (sym own) shows,
    carried code (length words) root arrays t (ap (λ (c : Racing OwnWord Exit). UnderWay (At (at_capsule old.capsule)) c o) left)
        (same_state code (length words) old new next (slice_set g d.index (o (OfFrame w))) o capsule at
        (registers ∙ ap (slice_set g d.index) (sym (shows.frame w))))
        (same_asked old new settled since)
        (loads_frame code (length words) root arrays t (At (at_capsule old.capsule)) o w (λ v. following code (length words) old next (slice_set g d.index v))
        (asked_by old)),
  ),
)
loads_turn code old new next g words (New n) d left capsule at registers own settled since = (
  refl,
  λ root arrays t o shows same. (
    o,
    subst (λ x. ShowsOwn x o) (sym own) shows,
    carried code (length words) root arrays t (ap (λ (c : Racing OwnWord Exit). UnderWay (At (at_capsule old.capsule)) c o) left)
        (same_state code (length words) old new next (slice_set g d.index (o (OfBlock n))) o capsule at
        (registers ∙ ap (slice_set g d.index) (sym (shows.block n))))
        (same_asked old new settled since)
        (loads_block code (length words) root arrays t (At (at_capsule old.capsule)) o n (λ v. following code (length words) old next (slice_set g d.index v))
        (asked_by old)),
  ),
)
loads_turn code old new next g words (Array x) d left capsule at registers own settled since = (
  refl,
  λ root arrays t o shows same. (
    o,
    subst (λ y. ShowsOwn y o) (sym own) shows,
    carried code (length words) root arrays t (ap (λ (c : Racing OwnWord Exit). UnderWay (At (at_capsule old.capsule)) c o) left)
        (same_state code (length words) old new next (slice_set g d.index (now (system code (length words) root arrays) t x)) o
        capsule at (registers ∙ ap (slice_set g d.index) (sym (same x))))
        (same_asked old new settled since)
        (reads code (length words) root arrays t (At (at_capsule old.capsule)) o x (λ v. following code (length words) old next (slice_set g d.index v))
        (asked_by old)),
  ),
)
