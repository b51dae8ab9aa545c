-- What a machine tells of changes that do not stand is true of its run.
use Rattle.std.proofs.Common.{◌≡◌, ◌<◌, ◌≤◌, ◌+◌, ℕ, zero, suc, List, [], ◌∷◌, ◌++◌, length, get_or, reverse, refl, sym, ap, ◌∙◌, subst, Option, Some, None, arith}
use Rattle.std.proofs.Common.{append_assoc, append-nil, length-append}
use Rattle.std.specs.Prelude.{slice_get}
use Rattle.std.proofs.lemmas.List.{length-map, map-append, reverse-append, reverse-reverse}
use Rattle.std.proofs.lemmas.Option.{slice_get_within}
use Rattle.ppm_strands.specs.Tree.{Words}
use Rattle.ppm_unseen.specs.Run.{Change as Asking, AllStill, State, settled, now}
use Rattle.ppm_code.specs.declared.location.FrameWord.{FrameWord}
use Rattle.ppm_depth.specs.declared.frame.Finish.{Finish}
use Rattle.ppm_filled.specs.Racing.{OwnWord, Place, Exit}
use Rattle.ppm_racy.specs.declared.code.RacyParts.{RacyParts}
use Rattle.ppm_interleaving.specs.declared.change.Change.{Change}
use Rattle.ppm_interleaving.specs.declared.fallen.Fallen.{Fallen}
use Rattle.ppm_interleaving.specs.declared.machine.Machine.{Machine}
use Rattle.ppm_interleaving.specs.declared.strand.Strand.{Strand}
use Rattle.ppm_interleaving.specs.declared.strand.Strand.TheVariants.{Running, Waiting, Tells, Over}
use Rattle.ppm_interleaving.specs.Changes.{change_of, changes_of, AreStill, IsFirstNotStill}
use Rattle.ppm_interleaving.specs.Falls.{AllStand}
use Rattle.ppm_interleaving.specs.Steps.{result_of}
use Rattle.ppm_interleaving.specs.Shows.{IsFirstFallen, Shows, asked_in, settled_in, system}
use Rattle.ppm_interleaving.specs.Turns.{Moment, deeds, ComesBy, came}
use Rattle.ppm_interleaving.proofs.MachineLemmas.{Same, One, Two, compare}
use Rattle.ppm_interleaving.proofs.OnceLemmas.{AreOverOnce, Standing, comes_once}

-- what holds of changes holds of them in the other order
still_append : (a : Words) (xs ys : List Asking) → AllStill a xs → AllStill a ys → AllStill a (xs ++ ys)
still_append a [] ys x y = y
still_append a (k ∷ ks) ys x y = (x.0, still_append a ks ys x.1 y)

pub still_front : (a : Words) (xs ys : List Asking) → AllStill a (xs ++ ys) → AllStill a xs
still_front a [] ys h = tt
still_front a (k ∷ ks) ys h = (h.0, still_front a ks ys h.1)

pub still_back : (a : Words) (xs ys : List Asking) → AllStill a (xs ++ ys) → AllStill a ys
still_back a [] ys h = h
still_back a (k ∷ ks) ys h = still_back a ks ys h.1

pub still_reversed : (a : Words) (ks : List Asking) → AllStill a ks → AllStill a (reverse ks)
still_reversed a [] h = tt
still_reversed a (k ∷ ks) h =
    subst (AllStill a) (sym (reverse-append (k ∷ []) ks)) (still_append a (reverse ks) (k ∷ []) (still_reversed a ks h.1) (h.0, tt))

-- changes that were looked at stand, and the others follow
pub record SoFar (words : List ℕ) (changes left : List Change) (number : ℕ) : Type 0 where
  pub front : List Change
  pub same : changes ≡ front ++ left
  pub count : length front ≡ number
  pub stand : AreStill words front

pub none_so_far : (words : List ℕ) (changes : List Change) → SoFar words changes changes 0
none_so_far words changes = record { front = []; same = refl; count = refl; stand = tt }

pub more_so_far : (words : List ℕ) (changes left : List Change) (k : Change) (n : ℕ) → SoFar words changes (k ∷ left) n → AreStill words (k ∷ [])
    → SoFar words changes left (n + 1)
more_so_far words changes left k n f h = record {
  front = f.front ++ k ∷ [];
  same = f.same ∙ sym (append_assoc f.front (k ∷ []) left);
  count = length-append f.front (k ∷ []) ∙ ap (λ (m : ℕ). m + 1) f.count;
  stand = subst (AllStill (λ x. get_or words x 0)) (sym (map-append change_of f.front (k ∷ [])))
      (still_append (λ x. get_or words x 0) (changes_of f.front) (changes_of (k ∷ [])) f.stand h);
}

pub first_not_still : (words : List ℕ) (changes left : List Change) (k : Change) (n : ℕ) → SoFar words changes (k ∷ left) n → (AreStill words (k ∷ []) → ⊥)
    → IsFirstNotStill words changes n k
first_not_still words changes left k n f h = record { front = f.front; later = left; same = f.same; number = f.count; stand = f.stand; falls = h }

pub all_still : (words : List ℕ) (changes : List Change) (n : ℕ) → SoFar words changes [] n → AreStill words changes
all_still words changes n f = subst (AreStill words) (sym (f.same ∙ append-nil f.front)) f.stand

-- the strand with a number, which is there
pub strand_there : (xs : List Strand) (i : ℕ) (x d : Strand) → i < length xs → x ≡ get_or xs i d → slice_get xs i ≡ Some x
strand_there [] i x d less is = absurd (omega (arith, less))
strand_there (y ∷ ys) zero x d less is = ap Some (sym is)
strand_there (y ∷ ys) (suc i) x d less is = strand_there ys i x d (omega (arith, less)) is

-- words that are the same, one by one
still_same : (a b : Words) → ((x : ℕ) → a x ≡ b x) → (ks : List Asking) → AllStill a ks → AllStill b ks
still_same a b same [] still = tt
still_same a b same (k ∷ ks) still = (ap k.by (sym (same k.at)) ∙ still.0 ∙ same k.at, still_same a b same ks still.1)

-- what a strand has settled, the last change first
settled_is : (x : Strand) → (asked_in (Some x)).settled ≡ reverse (changes_of (settled_in x))
settled_is (Running r) = refl
settled_is (Waiting w) = refl
settled_is (Tells f) = refl
settled_is (Over f) = refl

-- strands with numbers below n have settled what stands
abbrev pub StandBelow : (words : List ℕ) → List Strand → ℕ → Type 0
StandBelow words strands n = (i : ℕ) → i < n → (x : Strand) → slice_get strands i ≡ Some x → AreStill words (settled_in x)

pub none_below : (words : List ℕ) (strands : List Strand) → StandBelow words strands 0
none_below words strands i less x there = absurd (omega (arith, less))

pub more_below : (words : List ℕ) (strands : List Strand) (n : ℕ) (y : Strand) → StandBelow words strands n → slice_get strands n ≡ Some y
    → AreStill words (settled_in y) → StandBelow words strands (n + 1)
more_below words strands n y below is still i less x there = by (compare i n)
  where
    same_strand : (x y : Strand) → Some x ≡ Some y → x ≡ y
    same_strand x y e = cc

    by : Same i n → AreStill words (settled_in x)
    by (One e) = subst (λ z. AreStill words (settled_in z)) (same_strand y x (sym is ∙ ap (slice_get strands) (sym e) ∙ there)) still
    by (Two other) = below i (omega (arith, less, other)) x there

module _ (code : RacyParts) (root : FrameWord → ℕ) (arrays : Words) (h : List Moment) (m : Machine)
    (shows : Shows code (length m.words.items) root arrays h m) where
  over_once : AreOverOnce (deeds h)
  over_once i o p left right =
      let a = shows.finishes.alone i o left in
      let b = shows.finishes.alone i p right in
      a.2 ∙ ap result_of (same_finish a.0 b.0 (sym a.1 ∙ b.1)) ∙ sym b.2
    where
      same_finish : (f g : Finish) → Some f ≡ Some g → f ≡ g
      same_finish f g e = cc

  -- however a strand comes there, it has settled what the machine has of it
  settled_so : (i : ℕ) (σ : State OwnWord Place Exit) (c : ComesBy (system code (length m.words.items) root arrays) i h σ)
      → settled (came (system code (length m.words.items) root arrays) c) ≡ (asked_in (slice_get m.strands.items i)).settled
  settled_so i σ c =
      let there = shows.strands i in
      ap (λ (e : Standing). e.asks.settled) (comes_once (system code (length m.words.items) root arrays) i h over_once σ there.0 c there.1)
      ∙ ap (λ a. a.settled) there.3

  stands_so : (i : ℕ) → ((x : Strand) → slice_get m.strands.items i ≡ Some x → AreStill m.words.items (settled_in x))
      → (σ : State OwnWord Place Exit) (c : ComesBy (system code (length m.words.items) root arrays) i h σ)
      → AllStill (now (system code (length m.words.items) root arrays) (deeds h)) (settled (came (system code (length m.words.items) root arrays) c))
  stands_so i still σ c =
      subst (AllStill (now (system code (length m.words.items) root arrays) (deeds h))) (sym (settled_so i σ c)) (by (slice_get m.strands.items i) refl)
    where
      by : (found : Option Strand) → slice_get m.strands.items i ≡ found
          → AllStill (now (system code (length m.words.items) root arrays) (deeds h)) (asked_in found).settled
      by None is = tt
      by (Some x) is =
          subst (AllStill (now (system code (length m.words.items) root arrays) (deeds h))) (sym (settled_is x))
          (still_reversed (now (system code (length m.words.items) root arrays) (deeds h)) (changes_of (settled_in x))
          (still_same (λ y. get_or m.words.items y 0) (now (system code (length m.words.items) root arrays) (deeds h)) (λ y. sym (shows.words y))
          (changes_of (settled_in x)) (still x is)))

  -- all strands were looked at
  pub all_stand : (n : ℕ) → length m.strands.items ≤ n → StandBelow m.words.items m.strands.items n → AllStand (system code (length m.words.items) root arrays) h
  all_stand n all below i = stands_so i (λ x there. below i (omega (arith, all, slice_get_within m.strands.items i x there)) x there)

  -- one has settled what does not stand
  pub first_falls : (f : Fallen) (x : Strand) → slice_get m.strands.items f.strand ≡ Some x → StandBelow m.words.items m.strands.items f.strand
      → IsFirstNotStill m.words.items (settled_in x) f.number f.change → IsFirstFallen code (length m.words.items) root arrays h f
  first_falls f x there below first = record {
    state = (shows.strands f.strand).0;
    comes = (shows.strands f.strand).1;
    front = changes_of first.front;
    later = changes_of first.later;
    order =
        ap reverse (settled_so f.strand (shows.strands f.strand).0 (shows.strands f.strand).1
        ∙ ap (λ found. (asked_in found).settled) there ∙ settled_is x)
        ∙ reverse-reverse (changes_of (settled_in x)) ∙ ap changes_of first.same ∙ map-append change_of first.front (f.change ∷ first.later);
    number = length-map first.front change_of ∙ first.number;
    stand = still_same (λ y. get_or m.words.items y 0) (now (system code (length m.words.items) root arrays) (deeds h)) (λ y. sym (shows.words y))
        (changes_of first.front) first.stand;
    falls = λ still. first.falls (still_same (now (system code (length m.words.items) root arrays) (deeds h)) (λ y. get_or m.words.items y 0) shows.words
        (changes_of (f.change ∷ [])) still);
    before = λ i less. stands_so i (below i less);
  }
