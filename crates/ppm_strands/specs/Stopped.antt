-- A capsule that is stopped and begun again: when it comes to the same end with the same words, however often.
use Rattle.std.specs.Prelude.{◌≡◌, ◌⊎◌, ℕ, zero, suc, ◌+◌, List, [], ◌∷◌}
use Rattle.ppm_strands.specs.Capsule.{Equality, Capsule, Reads, Writes, Asks, Ends, Memory, Whole, In, store}
use Rattle.ppm_strands.specs.Capsule.{ending, leaves, whole, written, exposed, DoesTheSame}

-- how far a capsule has come: what is left of it, and the words now
pub record Progress (L E : Type 0) : Type 0 where
  pub rest : Capsule L E
  pub words : Memory L

abbrev pub at : {L E : Type 0} → Capsule L E → Memory L → Progress L E
at p m = record { rest = p; words = m }

module _ {L E : Type 0} (eq : Equality L) where
  -- the capsule has no write-after-read conflict from these words: it writes no location that it has read, unless it had written it first
  abbrev pub IsConflictFree : Capsule L E → Memory L → Type 0
  IsConflictFree p m = (l : L) → In l (exposed eq p m) → In l (written eq p m) → ⊥

  -- the capsule has no write-after-read conflict from any words
  abbrev pub IsAlwaysConflictFree : Capsule L E → Type 0
  IsAlwaysConflictFree p = (m : Memory L) → IsConflictFree p m

  -- one word step
  abbrev pub one : Progress L E → Progress L E
  one g = elim g.rest [
    | Reads l go ↦ at (go (g.words l)) g.words
    | Writes l v go ↦ at go (store eq g.words l v)
    | Asks n go ↦ at go g.words
    | Ends e ↦ g
  ]

  -- n word steps, or as many as there are
  abbrev pub steps : ℕ → Progress L E → Progress L E
  steps zero g = g
  steps (suc n) g = steps n (one g)

  -- the words after the capsule was begun, stopped after so many word steps and begun again, as often as the list says
  abbrev pub stopped : List ℕ → Capsule L E → Memory L → Memory L
  stopped [] p m = m
  stopped (n ∷ ns) p m = stopped ns p (steps n (at p m)).words

  -- the capsule stopped so, and then run whole
  abbrev pub run_with_stops : List ℕ → Capsule L E → Memory L → Whole L E
  run_with_stops stops p m = whole eq p (stopped stops p m)

  -- idempotent: wherever it is stopped, and however often, it comes to the end of a run without stops, with the same words
  abbrev pub IsIdempotent : Capsule L E → Memory L → Type 0
  IsIdempotent p m = (stops : List ℕ) → run_with_stops stops p m ≡ whole eq p m

  -- after any stops the capsule would still do the same from first to last, has no conflict, and no words have changed but those that
  -- it writes
  pub record StopsChangeNothing (p : Capsule L E) (m : Memory L) : Type 0 where
    pub same : (stops : List ℕ) → DoesTheSame eq p m (stopped stops p m)
    pub free : (stops : List ℕ) → IsConflictFree p (stopped stops p m)
    pub kept : (stops : List ℕ) (l : L) → (In l (written eq p m) → ⊥) → stopped stops p m l ≡ m l

  -- what a capsule has done stands: if it were begun on the words as they are, some number of word steps would bring it to this rest,
  -- and leave the words as they are
  abbrev pub Stands : (first rest : Capsule L E) → Memory L → Type 0
  Stands first rest m = (n : ℕ) × (steps n (at first m) ≡ at rest m)

  -- at a moment of a run of p that was begun on the words m: what it has done stands, it has no conflict, and from these words it would
  -- do the same from first to last
  pub record Moment (p : Capsule L E) (m : Memory L) (now : Progress L E) : Type 0 where
    pub stands : Stands p now.rest now.words
    pub free : IsConflictFree p now.words
    pub same : DoesTheSame eq p m now.words

  -- how what a capsule has done stands
  pub record StandsAlways (p : Capsule L E) : Type 0 where
    -- at its beginning nothing is done
    pub begins : (m : Memory L) → Stands p p m
    -- without conflicts it stands after each word step
    pub goes_on : (rest : Capsule L E) (m : Memory L) → IsConflictFree p m → Stands p rest m → Moment p m (one (at rest m))
    -- it stands after any stops, and any number of word steps then
    pub in_runs : (m : Memory L) (stops : List ℕ) (n : ℕ) → IsConflictFree p m → Moment p m (steps n (at p (stopped stops p m)))
    -- and while others store where it neither reads nor writes
    pub elsewhere : (rest : Capsule L E) (m n : Memory L) → ((l : L) → In l (exposed eq p m) ⊎ In l (written eq p m) → n l ≡ m l)
        → Stands p rest m → Stands p rest n
    -- at its end nothing is left to do
    pub at_end : (e : E) (m : Memory L) → Stands p (Ends e) m → whole eq p m ≡ record { end = e; words = m }

module _ {L : Type 0} (eq : Equality L) where
  -- a capsule with a conflict: it adds one to the word at l, and ends with the word that it found
  abbrev pub counts_up : L → Capsule L ℕ
  counts_up l = Reads l (λ v. Writes l (v + 1) (Ends v))

  -- stopped once before its end it ends with another word, and leaves another
  pub record CountsTwice (l : L) (m : Memory L) : Type 0 where
    pub end : ending eq (counts_up l) m ≡ m l
    pub word : leaves eq (counts_up l) m l ≡ m l + 1
    pub end_after_stop : (run_with_stops eq (2 ∷ []) (counts_up l) m).end ≡ m l + 1
    pub word_after_stop : (run_with_stops eq (2 ∷ []) (counts_up l) m).words l ≡ (m l + 1) + 1

  -- without the rule the law is lost, at any location and from any words
  abbrev pub AConflictMayShow : Type 0
  AConflictMayShow = (l : L) (m : Memory L) → CountsTwice l m × (IsIdempotent eq (counts_up l) m → ⊥)

  -- a capsule that writes the location before it counts up: that read is not exposed
  abbrev pub counts_from : L → ℕ → Capsule L ℕ
  counts_from l v = Writes l v (counts_up l)

  -- a capsule that writes a location first may read it and write it again
  abbrev pub WrittenFirstIsConflictFree : Type 0
  WrittenFirstIsConflictFree = (l : L) (v : ℕ) (m : Memory L) → IsConflictFree eq (counts_from l v) m
