-- The laws of one entry: its transitions go on in its order, it never comes back, and once taken it stays.
use Rattle.std.specs.Prelude.{◌≡◌, ◌≢◌, ◌⊎◌, ◌↔◌, ℕ, ◌<◌, Some, IfSome}
use Rattle.ppm_cells.specs.declared.entry.Entry.{Entry}
use Rattle.ppm_cells.specs.declared.shape.Takeover.{Takeover}
use Rattle.ppm_cells.specs.declared.shape.Takeover.TheVariants.{ByPlaces, ByEntries}
use Rattle.ppm_cells.specs.DequeChange.{tag_of, IsJob, IsTaken, IsTakenBy, Takes}
use Rattle.ppm_cells.specs.Transitions.{pushed_above, pushed_job, popped_below, popped_above, stolen, inherited, posted, TriesTo}
use Rattle.ppm_cells.specs.DequeOrder.{Later, LaterByOthers, LaterByThieves, LaterOnBoard}

-- each transition goes on in the order of its entry
pub record TransitionsGoOn : Type 0 where
  pub push_above : (how : Takeover) (seen : Entry) → IfSome (pushed_above seen) (Later how seen)
  pub push_job : (how : Takeover) (seen : Entry) (block : ℕ) → IfSome (pushed_job seen block) (Later how seen)
  pub pop_below : (how : Takeover) (seen : Entry) → TriesTo (popped_below seen) (Later how seen)
  pub pop_above : (how : Takeover) (seen : Entry) → IfSome (popped_above seen) (Later how seen)
  pub steal : (how : Takeover) (seen : Entry) (thief : ℕ) → thief < 64 → IfSome (stolen seen thief) (Later how seen)
  pub inherit : (seen : Entry) (heir : ℕ) → heir < 64 → IfSome (inherited seen heir) (Later ByEntries seen)
  pub post : (seen : Entry) (block : ℕ) → IfSome (posted seen block) (LaterOnBoard seen)
  pub steal_posted : (seen : Entry) (thief : ℕ) → thief < 64 → IfSome (stolen seen thief) (LaterOnBoard seen)

-- an entry that was seen and one that may have come of it
pub record NeverReturns (Comes Change : (old new : Entry) → Type 0) : Type 0 where
  -- the one goes on to what comes of the other
  pub goes_on : (old mid new : Entry) → Comes old mid → Comes mid new → Comes old new
  -- it is the same, or it was not taken and its tag is greater
  pub rises : (old new : Entry) → Comes old new → (old ≡ new) ⊎ ((IsTaken old → ⊥) × (tag_of old < tag_of new))
  -- with the same tag it is the same: so a compare-and-modify that meets it meets what was seen
  pub same_tag : (old new : Entry) → Comes old new → tag_of old ≡ tag_of new → old ≡ new
  -- two entries of which each may come of the other are one
  pub both_ways : (old new : Entry) → Comes old new → Comes new old → old ≡ new
  -- no change comes back to it
  pub no_return : (old now new : Entry) → Comes old now → Change now new → new ≢ old

-- a taken entry stays
abbrev pub TakenStays : ((old new : Entry) → Type 0) → Type 0
TakenStays Comes = (old new : Entry) → IsTaken old → Comes old new → old ≡ new

-- what others do to an entry is lawful, and does not take it for this place
pub record OthersTakeForThemselves (how : Takeover) (place : ℕ) : Type 0 where
  pub goes_on : (old mid new : Entry) → LaterByOthers how place old mid → LaterByOthers how place mid new → LaterByOthers how place old new
  pub lawful : (old new : Entry) → LaterByOthers how place old new → Later how old new
  pub not_by_place : (old new : Entry) → LaterByOthers how place old new → (IsTakenBy place old → ⊥) → IsTakenBy place new → ⊥

-- what others do to the place's own entry: it stays, or it is now taken by another
pub record OthersLeaveOwn (how : Takeover) (place : ℕ) : Type 0 where
  pub goes_on : (old mid new : Entry) → LaterByThieves how place old mid → LaterByThieves how place mid new → LaterByThieves how place old new
  pub lawful : (old new : Entry) → LaterByThieves how place old new → LaterByOthers how place old new
  pub once : (old new : Entry) → LaterByThieves how place old new
      → (old ≡ new) ⊎ ((thief : ℕ) × (thief < 64) × Takes how thief old new × (IsTakenBy place new → ⊥))

-- where places are taken over whole, others take nothing but jobs
abbrev pub OwnStaysUnlessJob : (place : ℕ) → Type 0
OwnStaysUnlessJob place = (old new : Entry) → (IsJob old → ⊥) → LaterByThieves ByPlaces place old new → old ≡ new

-- a place has won an entry exactly where that entry is what its theft or its inheriting makes of what it saw
abbrev pub WonWasMade : Type 0
WonWasMade = (message now : Entry) (place : ℕ)
    → Takes ByEntries place message now ↔ ((stolen message place ≡ Some now) ⊎ (inherited message place ≡ Some now))
