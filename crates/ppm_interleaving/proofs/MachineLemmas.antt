-- The strand that made a step is put back, and the machine shows the run with that turn.
use Rattle.std.proofs.Common.{◌≡◌, ◌<◌, ℕ, zero, suc, List, ◌∷◌, length, get_or, set, refl, sym, ap, ◌∙◌, subst, Option, Some, None, arith}
use Rattle.std.specs.Prelude.{slice_get}
use Rattle.std.proofs.lemmas.List.{length-set}
use Rattle.ppm_strands.specs.Tree.{Words}
use Rattle.ppm_unseen.specs.Run.{Deed, HasFinished, count, now}
use Rattle.ppm_code.specs.declared.location.FrameWord.{FrameWord}
use Rattle.ppm_code.specs.Strands.{Result}
use Rattle.ppm_depth.specs.declared.frame.Finish.{Finish}
use Rattle.ppm_filled.specs.Racing.{OwnWord, Place}
use Rattle.ppm_racy.specs.declared.code.RacyParts.{RacyParts}
use Rattle.ppm_interleaving.specs.declared.deed.Turn.{Turn}
use Rattle.ppm_interleaving.specs.declared.machine.Machine.{Machine}
use Rattle.ppm_interleaving.specs.declared.strand.Strand.{Strand}
use Rattle.ppm_interleaving.specs.Steps.{result_of}
use Rattle.ppm_interleaving.specs.Shows.{FinishesAre, Shows, ShowsStrand, finish_in, finish_of, system}
use Rattle.ppm_interleaving.specs.Stepping.{IsBeside}
use Rattle.ppm_interleaving.specs.Turns.{Moment, moment, deeds}
use Rattle.ppm_interleaving.proofs.ShowLemmas.{set_there, set_elsewhere}

-- two numbers are one, or they are not
pub data Same (i j : ℕ) : Type 0 where
  One : i ≡ j → Same i j
  Two : (i ≡ j → ⊥) → Same i j

pub compare : (i j : ℕ) → Same i j
compare zero zero = One refl
compare zero (suc j) = Two (λ e. omega arith)
compare (suc i) zero = Two (λ e. omega arith)
compare (suc i) (suc j) = by (compare i j)
  where
    by : Same i j → Same (suc i) (suc j)
    by (One e) = One (ap suc e)
    by (Two n) = Two (λ e. n (omega arith))

none_is_not_some : (f : Finish) → None ≡ Some f → ⊥
none_is_not_some f h = cc

-- the strands with one put back
pub record IsBack (old new : List Strand) (i : ℕ) (x : Strand) : Type 0 where
  pub there : slice_get new i ≡ Some x
  pub elsewhere : (j : ℕ) → (i ≡ j → ⊥) → slice_get new j ≡ slice_get old j

pub is_back : (old : List Strand) (i : ℕ) (x y : Strand) → i < length old → IsBack old (set (set old i x) i y) i y
is_back old i x y less = record {
  there = set_there (set old i x) i y (let e : length (set old i x) ≡ length old = length-set old i x in omega arith);
  elsewhere = λ j other. set_elsewhere (set old i x) i j y other ∙ set_elsewhere old i j x other;
}

module _ (code : RacyParts) (array_words : ℕ) (root : FrameWord → ℕ) (arrays : Words) (h : List Moment)
    (old : Machine) (shows : Shows code array_words root arrays h old) (i : ℕ) where
  -- without the one that was taken out and isn't over, strands are over as before
  pub beside : (x : Strand) → i < length old.strands.items → finish_in old.strands.items i ≡ None → finish_of (Some x) ≡ None
      → IsBeside code array_words root arrays (deeds h) old.words.items (set old.strands.items i x)
  beside x less not_over none = record {
    words = shows.words;
    word_count = shows.word_count;
    strand_count = shows.strand_count ∙ sym (length-set old.strands.items i x);
    finishes = record { told = λ j f is. told j f is (compare i j); alone = λ j result over. alone j result over (compare i j) };
  }
    where
      told : (j : ℕ) (f : Finish) → finish_in (set old.strands.items i x) j ≡ Some f → Same i j → HasFinished j (result_of f) (deeds h)
      told j f is (One e) =
          let here : finish_in (set old.strands.items i x) j ≡ None = ap (finish_in (set old.strands.items i x)) (sym e) ∙ ap finish_of (set_there old.strands.items i x less) ∙ none in
          absurd (none_is_not_some f (sym here ∙ is))
      told j f is (Two other) = shows.finishes.told j f (ap finish_of (sym (set_elsewhere old.strands.items i j x other)) ∙ is)

      alone : (j : ℕ) (result : Result) → HasFinished j result (deeds h) → Same i j
          → (f : Finish) × (finish_in (set old.strands.items i x) j ≡ Some f) × (result ≡ result_of f)
      alone j result over (Two other) =
          let a = shows.finishes.alone j result over in (a.0, ap finish_of (set_elsewhere old.strands.items i j x other) ∙ a.1, a.2)
      alone j result over (One e) =
          let a = shows.finishes.alone j result over in
          absurd (none_is_not_some a.0 (sym not_over ∙ ap (finish_in old.strands.items) e ∙ a.1))

  -- one strand alone is put back: the others are where they were, along what others saw of its turn
  pub put_one : (turn : Turn) (d : Option (Deed OwnWord Place Result)) (new : Machine) (x : Strand) → IsBack old.strands.items new.strands.items i x
      → length new.strands.items ≡ length old.strands.items
      → ShowsStrand code array_words root arrays (Some x) i (moment turn d ∷ h)
      → ((found : Option Strand) (j : ℕ) → (i ≡ j → ⊥) → ShowsStrand code array_words root arrays found j h → ShowsStrand code array_words root arrays found j (moment turn d ∷ h))
      → ((y : ℕ) → now (system code array_words root arrays) (deeds (moment turn d ∷ h)) y ≡ get_or new.words.items y 0) → length new.words.items ≡ array_words
      → count (system code array_words root arrays) (deeds (moment turn d ∷ h)) ≡ count (system code array_words root arrays) (deeds h)
      → FinishesAre (finish_in new.strands.items) (deeds (moment turn d ∷ h)) → Shows code array_words root arrays (moment turn d ∷ h) new
  put_one turn d new x back same_length here others words word_count same_count finishes = record {
    words = words;
    word_count = word_count;
    strand_count = same_count ∙ shows.strand_count ∙ sym same_length;
    strands = λ j. at j (compare i j);
    finishes = finishes;
  }
    where
      at : (j : ℕ) → Same i j → ShowsStrand code array_words root arrays (slice_get new.strands.items j) j (moment turn d ∷ h)
      at j (One e) =
          subst (λ (k : ℕ). ShowsStrand code array_words root arrays (slice_get new.strands.items k) k (moment turn d ∷ h)) e
          (subst (λ found. ShowsStrand code array_words root arrays found i (moment turn d ∷ h)) (sym back.there) here)
      at j (Two other) =
          subst (λ found. ShowsStrand code array_words root arrays found j (moment turn d ∷ h)) (sym (back.elsewhere j other))
          (others (slice_get old.strands.items j) j other (shows.strands j))

  -- where it is over as before, so are all
  pub finishes_stay : (new : Machine) (x : Strand) → IsBack old.strands.items new.strands.items i x → finish_of (Some x) ≡ finish_in old.strands.items i
      → (j : ℕ) → finish_in new.strands.items j ≡ finish_in old.strands.items j
  finishes_stay new x back same j = by (compare i j)
    where
      by : Same i j → finish_in new.strands.items j ≡ finish_in old.strands.items j
      by (One e) = ap (finish_in new.strands.items) (sym e) ∙ ap finish_of back.there ∙ same ∙ ap (finish_in old.strands.items) e
      by (Two other) = ap finish_of (back.elsewhere j other)
