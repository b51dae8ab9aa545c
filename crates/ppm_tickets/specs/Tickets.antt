-- In every run of orderly turns each forked branch is at one place and is taken at most once, with
-- takeover by places and by entries.
use Rattle.std.specs.Prelude.{◌+◌, Bool, ◌≡◌, ◌⊎◌, ◌<◌, ◌==◌, if◌then◌else◌, ℕ, true, false, List, [], ◌∷◌, ◌++◌}
use Rattle.ppm_cells.specs.Cells.{IsCell, pool_at}
use Rattle.ppm_cells.specs.Entry.{entry_word}
use Rattle.ppm_cells.specs.Holder.{holder_word}
use Rattle.ppm_cells.specs.Memory.{read, AreWordsOf}
use Rattle.ppm_cells.specs.Restart.{restart_word}
use Rattle.ppm_cells.specs.declared.cell.Cell.{Cell}
use Rattle.ppm_cells.specs.declared.cell.Cell.TheVariants.{CarryWord, DeadWord, RestartWord, MessageWord, HolderWord, Top, EntryWord}
use Rattle.ppm_cells.specs.declared.entry.Entry.{Entry}
use Rattle.ppm_cells.specs.declared.entry.Entry.TheVariants.{Empty, Local, Taken}
use Rattle.ppm_cells.specs.declared.restart.RestartKind.TheVariants.{Run, Seek}
use Rattle.ppm_cells.specs.declared.shape.Shape.{Shape}
use Rattle.ppm_cells.specs.declared.shape.Takeover.TheVariants.{ByPlaces, ByEntries}
use Rattle.ppm_cells.specs.declared.restart.RestartKind.{RestartKind}
use Rattle.ppm_code.specs.declared.code.CodeParts.{CodeParts}
use Rattle.ppm_step.specs.State.{State, stand_of, after, opening, happens, along, forks_of, takes_of}
use Rattle.ppm_step.specs.declared.turn.Turn.{Turn}
use Rattle.ppm_layout.specs.Image.{IsImageOf}
use Rattle.ppm_layout.specs.declared.images.Image.{Image}
use Rattle.ppm_words.specs.declared.named_array.NamedArray.{NamedArray}
use Rattle.ppm_tickets.specs.Along.{reached, homes_by, homes, forked, taken, IsOrderly, AreOrderly}
use Rattle.ppm_tickets.specs.Saw.{Lawful}
use Rattle.ppm_tickets.specs.Homes.{Home, Unborn, Inline, Once}
use Rattle.ppm_tickets.specs.Lawful.{IsTrail, IsDead, IsThief, Covers, active_at, Stays, IsCarrier, Carries, IsAlive, Names, Deque, Order, Changes, HasOneHome}
use Rattle.ppm_tickets.specs.View.{most_words, view, kinds, bottoms}
use Rattle.ppm_tickets.specs.Words as words

-- the words of a run's beginning, but for those of blocks, arrays and pools
abbrev pub first_entry : (slot : ℕ) → Entry
first_entry slot = if slot == 0 then Taken 0 0 else (if slot == 1 then Local 0 0 else Empty 0)

-- what each cell has: processors at their own places, alive; the keeper's place runs the frame, all
-- others seek; deques with one local entry
abbrev pub OpensAt : Shape → (keeper frame : ℕ) → Cell → (word : ℕ) → Type 0
OpensAt s keeper frame (CarryWord processor) word = word ≡ processor
OpensAt s keeper frame (DeadWord processor) word = word ≡ 0
OpensAt s keeper frame (RestartWord place) word = word ≡ restart_word (record { kind = if place == keeper then Run frame 0 else Seek; bottom = 1 })
OpensAt s keeper frame (MessageWord place) word = word ≡ 0
OpensAt s keeper frame (HolderWord place) word = word ≡ holder_word (record { tag = 0; processor = place })
OpensAt s keeper frame (Top place) word = word ≡ 1
OpensAt s keeper frame (EntryWord place slot) word = word ≡ entry_word (first_entry slot)
OpensAt s keeper frame cell word = Unit {0}

-- these words are a run's beginning
pub record Opens (s : Shape) (keeper frame : ℕ) (ws : List ℕ) : Type 0 where
  pub fit : AreWordsOf s ws
  pub opened : (c : Cell) → IsCell s c → OpensAt s keeper frame c (read s ws c)

module _ (s : Shape) (code : CodeParts) where
  -- after these turns, with these forked and taken
  pub record AtMostOnce (state : State) (h : ℕ → Home) (forked taken : List ℕ) : Type 0 where
    pub shape : (v : ℕ)
        → Deque (kinds s state.words v) (bottoms s state.words v) (λ i. view s state.words (words.Slot v i))
    pub order : Order (view s state.words) (kinds s state.words)
    pub apart : (c d p : ℕ) → IsAlive (view s state.words) c → IsAlive (view s state.words) d
        → view s state.words (words.Carry c) ≡ words.Number p
        → view s state.words (words.Carry d) ≡ words.Number p → c ≡ d
    pub held : (c p : ℕ) → IsAlive (view s state.words) c
        → view s state.words (words.Carry c) ≡ words.Number p
        → Names (view s state.words (words.Holder p)) c
    -- in the next turn entries stay, or change lawfully
    pub changes : (turn : Turn)
        → IsOrderly s state.words turn.act (stand_of state turn.processor) h forked → (v i : ℕ)
        → (view s (happens s code state turn).words (words.Slot v i) ≡ view s state.words (words.Slot v i))
        ⊎ Changes s.takeover (view s state.words (words.Slot v i)) (view s (happens s code state turn).words (words.Slot v i))
    pub once : Once taken
    pub forked_once : Once forked
    pub forked_first : (r : ℕ) → words.has taken r ≡ true → words.has forked r ≡ true
    pub home : (r : ℕ) → words.has forked r ≡ true → words.has taken r ≡ false
        → HasOneHome (view s state.words) (kinds s state.words) (bottoms s state.words) r
        ⊎ (h r ≡ Inline)

  -- with takeover by places, from words that open, by orderly turns: what a turn owes to be so is
  -- `IsOrderly`
  abbrev pub InEveryRun : Type 0
  InEveryRun = (keeper frame : ℕ) (ws : List ℕ) (turns : List Turn) → s.takeover ≡ ByPlaces
      → frame < most_words → Opens s keeper frame ws
      → AreOrderly s code (opening ws s.processors) (λ r. Unborn) [] turns
      → AtMostOnce (reached s code ws turns) (homes_by s code ws turns)
      (along s code forks_of (opening ws s.processors) turns) (along s code takes_of (opening ws s.processors) turns)

-- with takeover by entries a branch is at one place alone of those that no other has followed
abbrev pub HasOneHomeThere : (words.Spot → words.Word) → (ℕ → RestartKind) → (ℕ → ℕ)
    → (gone : ℕ → Bool) → ℕ → Type 0
HasOneHomeThere g k b gone r = (x : Home) × IsCarrier x × Stays gone x × Carries g k b x r
    × ((y : Home) → IsCarrier y → Stays gone y → Carries g k b y r → y ≡ x)

module _ (s : Shape) (code : CodeParts) where
  -- after these turns, with these forked and taken
  pub record AtMostOnceByEntries (state : State) (h : ℕ → Home) (forked taken : List ℕ) : Type 0 where
    -- the words as they would be, had no entry been inherited, and the places that another has
    -- followed
    pub ghost : words.Spot → words.Word
    pub gone : ℕ → Bool
    pub inherited : Covers (λ v. IsDead (view s state.words (words.Dead v))) ghost (view s state.words)
    pub shape : (v : ℕ)
        → Deque (kinds s state.words v) (bottoms s state.words v) (λ i. ghost (words.Slot v i))
    -- a place whose processor lives is not followed, and its entries are as they would be
    pub lives : (v : ℕ) → IsAlive (view s state.words) v
        → (gone v ≡ false)
        × ((i : ℕ) → ghost (words.Slot v i) ≡ view s state.words (words.Slot v i))
    pub followed : (v : ℕ) → gone v ≡ true → (t : ℕ) × (q : ℕ)
        × (view s state.words (words.Slot v (active_at ghost (kinds s state.words) (bottoms s state.words) v)) ≡ words.Taken t (q + 64))
    -- an heir that is not followed is of a place that is not followed
    pub heirs : (q v i t : ℕ) → IsThief (kinds s state.words q) v i
        → view s state.words (words.Slot v i) ≡ words.Taken t (q + 64)
        → (view s state.words (words.Message q) ≡ ghost (words.Slot v i))
        × (gone q ≡ false → i ≡ active_at ghost (kinds s state.words) (bottoms s state.words) v → gone v ≡ false)
    -- a closed place has at most one heir that lives, through however many that do not
    pub one_heir : (p q y : ℕ) (l c : List ℕ) → IsAlive (view s state.words) p
        → IsAlive (view s state.words) q
        → IsTrail ghost (view s state.words) (kinds s state.words) (bottoms s state.words) p (y ∷ l)
        → IsTrail ghost (view s state.words) (kinds s state.words) (bottoms s state.words) q (y ∷ c)
        → p ≡ q
    -- and none once it was followed
    pub no_heir : (p y : ℕ) (l : List ℕ) → IsAlive (view s state.words) p
        → IsTrail ghost (view s state.words) (kinds s state.words) (bottoms s state.words) p (y ∷ l)
        → gone y ≡ false
    pub order : Order (view s state.words) (kinds s state.words)
    pub own : (c : ℕ) → view s state.words (words.Carry c) ≡ words.Number c
    pub changes : (turn : Turn)
        → IsOrderly s state.words turn.act (stand_of state turn.processor) h forked → (v i : ℕ)
        → (view s (happens s code state turn).words (words.Slot v i) ≡ view s state.words (words.Slot v i))
        ⊎ Changes s.takeover (view s state.words (words.Slot v i)) (view s (happens s code state turn).words (words.Slot v i))
    pub once : Once taken
    pub forked_once : Once forked
    pub forked_first : (r : ℕ) → words.has taken r ≡ true → words.has forked r ≡ true
    pub home : (r : ℕ) → words.has forked r ≡ true → words.has taken r ≡ false
        → HasOneHomeThere ghost (kinds s state.words) (bottoms s state.words) gone r
        ⊎ (h r ≡ Inline)

  -- with takeover by entries, from words that open, by orderly turns
  abbrev pub InEveryRunByEntries : Type 0
  InEveryRunByEntries = (keeper frame : ℕ) (ws : List ℕ) (turns : List Turn)
      → s.takeover ≡ ByEntries → frame < most_words → Opens s keeper frame ws
      → AreOrderly s code (opening ws s.processors) (λ r. Unborn) [] turns
      → AtMostOnceByEntries (reached s code ws turns) (homes_by s code ws turns)
      (along s code forks_of (opening ws s.processors) turns) (along s code takes_of (opening ws s.processors) turns)

-- the words of an image are such a beginning
abbrev pub ImagesOpen : Type 0
ImagesOpen = (code : CodeParts) (input : List NamedArray) (s : Shape) (keeper : ℕ) (image : Image)
    → IsImageOf code input s keeper image
    → Opens s keeper (pool_at s keeper) image.words × (pool_at s keeper < most_words)

module _ (s : Shape) (code : CodeParts) where
  -- what always holds, for whoever shows that the next turn is orderly
  abbrev pub LawfulInEveryRun : Type 0
  LawfulInEveryRun = (keeper frame : ℕ) (ws : List ℕ) (turns : List Turn) → frame < most_words
      → Opens s keeper frame ws
      → AreOrderly s code (opening ws s.processors) (λ r. Unborn) [] turns
      → AreWordsOf s (reached s code ws turns).words
      × Lawful s (view s (reached s code ws turns).words) (kinds s (reached s code ws turns).words)
      (bottoms s (reached s code ws turns).words) (reached s code ws turns).stand
      (homes_by s code ws turns) (forked s code (opening ws s.processors) [] turns) (taken s code (opening ws s.processors) [] turns)

  -- then the run with it is orderly
  abbrev pub OneMoreTurn : Type 0
  OneMoreTurn = (turns : List Turn) (turn : Turn) (state : State) (h : ℕ → Home) (f : List ℕ)
      → AreOrderly s code state h f turns
      → IsOrderly s (after s code state turns).words turn.act (stand_of (after s code state turns) turn.processor) (homes s code state h turns) (forked s code state f turns)
      → AreOrderly s code state h f (turns ++ turn ∷ [])
