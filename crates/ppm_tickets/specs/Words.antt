-- What the words of the deques and of their thieves stand for, by spots: the cells as one reading
-- of each shows them.
use Rattle.ppm_cells.specs.declared.link.Link.{Link}
use Rattle.ppm_cells.specs.declared.restart.RestartKind.{RestartKind}
use Rattle.std.specs.Prelude.{ℕ, ◌==◌, if◌then◌else◌, Bool, true, false, List, [], ◌∷◌}

-- what a word stands for: an entry with its tag, a holder, a number, or something else
pub data Word : Type 0 where
  Empty : ℕ → Word
  Local : (tag block : ℕ) → Word
  Job : (tag block : ℕ) → Word
  Taken : (tag taker : ℕ) → Word
  Held : (tag processor : ℕ) → Word
  Number : ℕ → Word
  Linked : Link → Word
  Restarts : (kind : RestartKind) → (bottom : ℕ) → Word
  Unread : Word

-- a message is read as an entry and as a bid; words of blocks and all others are not looked at
pub data Spot : Type 0 where
  Message : ℕ → Spot
  Bid : ℕ → Spot
  Top : ℕ → Spot
  Slot : (place slot : ℕ) → Spot
  Holder : ℕ → Spot
  Carry : ℕ → Spot  -- of a processor
  Dead : ℕ → Spot
  Restart : ℕ → Spot  -- shown beside the words, by kinds and bottoms
  Other : Spot

-- whether two spots are one
abbrev pub same_spot : Spot → Spot → Bool
same_spot (Message p) (Message q) = p == q
same_spot (Bid p) (Bid q) = p == q
same_spot (Top p) (Top q) = p == q
same_spot (Slot p i) (Slot q j) = if p == q then i == j else false
same_spot (Holder p) (Holder q) = p == q
same_spot (Carry p) (Carry q) = p == q
same_spot (Dead p) (Dead q) = p == q
same_spot (Restart p) (Restart q) = p == q
same_spot Other Other = true
same_spot _ _ = false

-- a function with another value at x
unfoldable pub put : {A : Type 0} → (ℕ → A) → ℕ → A → ℕ → A
put f p x q = if q == p then x else f q

-- the words with another one at a spot
unfoldable pub write : (Spot → Word) → Spot → Word → Spot → Word
write m c w d = if same_spot d c then w else m d

-- whether a list has a number
abbrev pub has : List ℕ → ℕ → Bool
has [] r = false
has (x ∷ l) r = if x == r then true else has l r
