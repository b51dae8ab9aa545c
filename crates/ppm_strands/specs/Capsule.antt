-- A capsule as what it asks of locations, and what it does when it is run whole.
use Rattle.std.specs.Prelude.{◌≡◌, ◌⊎◌, ℕ, ◌+◌, cond, Bool, true, false, List, [], ◌∷◌}

-- a test of equality
pub record Equality (A : Type 0) : Type 0 where
  pub same : A → A → Bool
  pub is_one : (a b : A) → same a b ≡ true → a ≡ b
  pub is_self : (a : A) → same a a ≡ true

-- what is left of a capsule, over the locations L and with the ends E: it reads a location and goes on by the word that it finds,
-- writes a word to a location, asks for block words, or ends
pub data Capsule (L E : Type 0) : Type 0 where
  Reads : L → (ℕ → Capsule L E) → Capsule L E
  Writes : L → ℕ → Capsule L E → Capsule L E
  Asks : ℕ → Capsule L E → Capsule L E
  Ends : E → Capsule L E

-- the word at each location
abbrev pub Memory : Type 0 → Type 0
Memory L = L → ℕ

-- what a capsule comes to when it is run whole: its end, and the words after it
pub record Whole (L E : Type 0) : Type 0 where
  pub end : E
  pub words : Memory L

-- l is one of the locations
abbrev pub In : {L : Type 0} → L → List L → Type 0
In l [] = ⊥
In l (k ∷ ks) = (l ≡ k) ⊎ In l ks

-- the words are the same at the locations of the list
abbrev pub AgreeOn : {L : Type 0} → List L → Memory L → Memory L → Type 0
AgreeOn {L} ls m n = (l : L) → In l ls → n l ≡ m l

module _ {L : Type 0} (eq : Equality L) where
  -- whether it is
  abbrev pub is_in : L → List L → Bool
  is_in l [] = false
  is_in l (k ∷ ks) = cond (eq.same l k) true (is_in l ks)

  -- the words with v at l
  abbrev pub store : Memory L → L → ℕ → Memory L
  store m l v k = cond (eq.same k l) v (m k)

module _ {L E : Type 0} (eq : Equality L) where
  -- of a whole capsule: its end, the words after it, and how many block words it asks for
  abbrev pub ending : Capsule L E → Memory L → E
  ending (Reads l go) m = ending (go (m l)) m
  ending (Writes l v go) m = ending go (store eq m l v)
  ending (Asks n go) m = ending go m
  ending (Ends e) m = e

  abbrev pub leaves : Capsule L E → Memory L → Memory L
  leaves (Reads l go) m = leaves (go (m l)) m
  leaves (Writes l v go) m = leaves go (store eq m l v)
  leaves (Asks n go) m = leaves go m
  leaves (Ends e) m = m

  abbrev pub asked : Capsule L E → Memory L → ℕ
  asked (Reads l go) m = asked (go (m l)) m
  asked (Writes l v go) m = asked go (store eq m l v)
  asked (Asks n go) m = n + asked go m
  asked (Ends e) m = 0

  -- run whole
  abbrev pub whole : Capsule L E → Memory L → Whole L E
  whole p m = record { end = ending p m; words = leaves p m }

  -- the locations that it writes
  abbrev pub written : Capsule L E → Memory L → List L
  written (Reads l go) m = written (go (m l)) m
  written (Writes l v go) m = l ∷ written go (store eq m l v)
  written (Asks n go) m = written go m
  written (Ends e) m = []

  -- those that it reads and has not written before, where w are written already
  abbrev pub exposed_past : List L → Capsule L E → Memory L → List L
  exposed_past w (Reads l go) m = cond (is_in eq l w) (exposed_past w (go (m l)) m) (l ∷ exposed_past w (go (m l)) m)
  exposed_past w (Writes l v go) m = exposed_past (l ∷ w) go (store eq m l v)
  exposed_past w (Asks n go) m = exposed_past w go m
  exposed_past w (Ends e) m = []

  -- its exposed reads: the locations that it reads before it has written them
  abbrev pub exposed : Capsule L E → Memory L → List L
  exposed p m = exposed_past [] p m

  -- from n the capsule does what it does from m: the same end and the same words after it, with the same exposed reads, writes and asks
  pub record DoesTheSame (p : Capsule L E) (m n : Memory L) : Type 0 where
    pub ends : ending p n ≡ ending p m
    pub words : leaves p n ≡ leaves p m
    pub asks : asked p n ≡ asked p m
    pub reads : exposed p n ≡ exposed p m
    pub writes : written p n ≡ written p m

  -- from n the capsule comes to the same end, with the same exposed reads, writes and asks, and leaves the same words where it writes
  pub record GoesAlike (p : Capsule L E) (m n : Memory L) : Type 0 where
    pub ends : ending p n ≡ ending p m
    pub asks : asked p n ≡ asked p m
    pub reads : exposed p n ≡ exposed p m
    pub writes : written p n ≡ written p m
    pub words : (l : L) → In l (written p m) → leaves p n l ≡ leaves p m l

  -- a capsule depends on its exposed reads alone, and keeps the words that it does not write
  pub record IsLocal (p : Capsule L E) : Type 0 where
    pub reads : (m n : Memory L) → AgreeOn (exposed p m) m n → GoesAlike p m n
    pub writes : (m : Memory L) (l : L) → (In l (written p m) → ⊥) → leaves p m l ≡ m l
