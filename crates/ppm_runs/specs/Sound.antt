-- What a processor has come to that meets no broken words: of the rows under way and of the words of deques,
-- places and processors.
use Rattle.std.specs.Prelude.{◌≡◌, ◌⊎◌, ◌≤◌, ◌<◌, ℕ, zero, suc, ◌+◌, ◌^◌, true, Option, Some, None}
use Rattle.std.specs.Prelude.{nat_lt}
use Rattle.ppm_cells.specs.Cells.{word_count}
use Rattle.ppm_cells.specs.Entry.{IsEntry}
use Rattle.ppm_cells.specs.Finish.{finish_of, IsFinish, IsOutcome}
use Rattle.ppm_cells.specs.Holder.{IsHolder}
use Rattle.ppm_cells.specs.Memory.{read}
use Rattle.ppm_cells.specs.Restart.{restart_of}
use Rattle.ppm_cells.specs.declared.cell.Cell.{Cell}
use Rattle.ppm_cells.specs.declared.cell.Cell.TheVariants.{FinishWord, RestartWord, MessageWord, HolderWord, Top, RoomCounter, EntryWord, BlockWord, ArrayWord}
use Rattle.ppm_cells.specs.declared.entry.Entry.{Entry}
use Rattle.ppm_cells.specs.declared.entry.Entry.TheVariants.{Local, Job, Taken}
use Rattle.ppm_cells.specs.declared.finish.Finish.{Finish}
use Rattle.ppm_cells.specs.declared.finish.Finish.TheVariants.{Broken as BrokenAt}
use Rattle.ppm_cells.specs.declared.restart.Restart.{Restart}
use Rattle.ppm_cells.specs.declared.restart.RestartKind.{RestartKind}
use Rattle.ppm_cells.specs.declared.restart.RestartKind.TheVariants.{Push1, Push2, Pop1, Pop2, Seek, Steal, Check, Take, Take2}
use Rattle.ppm_cells.specs.declared.shape.Shape.{Shape}
use Rattle.ppm_cells.specs.declared.shape.Takeover.{Takeover}
use Rattle.ppm_cells.specs.declared.shape.Takeover.TheVariants.{ByPlaces, ByEntries}
use Rattle.ppm_code.specs.declared.code.CodeParts.{CodeParts}
use Rattle.ppm_cells.specs.DequeChange.{tag_of}
use Rattle.ppm_step.specs.Standings.{Standing, IsLost, IsPlaced, IsAt, IsWithin, IsRunning, IsBroken, IsDone, point_is_there, forked, begun, stands_then}
use Rattle.ppm_step.specs.State.{State as RunState, stand_of, is_work}
use Rattle.ppm_step.specs.There.{is_there, restart_is_there}
use Rattle.ppm_step.specs.declared.content.Content.{Content}
use Rattle.ppm_step.specs.declared.content.Content.TheVariants.{ANumber, AnEntry, AHolder, AFinish}
use Rattle.ppm_step.specs.declared.row.Point.{Point}
use Rattle.ppm_step.specs.declared.row.Point.TheVariants.{PushOrder, PushAbove, PushBottom, Offset, PopBelow, PopAgain, PopAbove, SeekHolder, SeekDead, SeekTop, SeekEntry, SeekClosed, StealMessage, TakenMessage, TakenEntry, ClosedRestart, ClosedLink, ClosedBottom, BidMessage, BidAgain, BidHolder}
use Rattle.ppm_step.specs.declared.row.Row.{Row}
use Rattle.ppm_step.specs.declared.row.Row.TheVariants.{Now, Store, Exchange}
use Rattle.ppm_step.specs.declared.row.Seat.{Seat}
use Rattle.ppm_step.specs.declared.row.Then.{Then}
use Rattle.ppm_step.specs.declared.row.Then.TheVariants.{Load, Install, Fork, Begin, Move, Enter, Again, Broken}
use Rattle.ppm_tickets.specs.Lawful.{tag}
use Rattle.ppm_tickets.specs.View.{view, kinds}
use Rattle.ppm_tickets.specs.Words as words
use Rattle.ppm_tickets.specs.Words.{Spot, Word, Message, Bid, Dead, Held, Slot}

-- the word is a holder's
abbrev pub IsHeld : Word → Type 0
IsHeld (Held t c) = Unit {0}
IsHeld _ = ⊥

-- by entries what is local may be taken, if its tag can rise
abbrev pub LocalRises : Takeover → (tag : ℕ) → Type 0
LocalRises ByPlaces t = ⊥
LocalRises ByEntries t = t + 1 < 2 ^ 34

-- what may be taken: a job whose tag can rise, of a block that lies within the words, or what is local
abbrev pub IsRising : Shape → Word → Type 0
IsRising s (words.Job t x) = (t + 1 < 2 ^ 34) × (x + 4 < word_count s)
IsRising s (words.Local t x) = LocalRises s.takeover t
IsRising s _ = ⊥

-- what may be taken, as an entry: a job whose tag can rise, of a block that lies within the words, or what is local
abbrev pub IsRisingEntry : Shape → Entry → Type 0
IsRisingEntry s (Job t x) = (t + 1 < 2 ^ 34) × (x + 4 < word_count s)
IsRisingEntry s (Local t x) = LocalRises s.takeover t
IsRisingEntry s _ = ⊥

-- it is taken
abbrev pub IsTakenEntry : Entry → Type 0
IsTakenEntry (Taken t x) = Unit {0}
IsTakenEntry _ = ⊥

-- by places alone a place is taken over
abbrev pub TakesPlaces : Takeover → Type 0
TakesPlaces ByPlaces = Unit {0}
TakesPlaces ByEntries = ⊥

-- what the message of a place says, by what the place is at: who steals has noted what may be taken, and who
-- looks whether its bid stands has made one
abbrev pub Noted : Shape → (Spot → Word) → (place : ℕ) → RestartKind → Type 0
Noted s m p (Steal v i) = IsRising s (m (Message p))
Noted s m p (Check v i) = IsRising s (m (Message p))
Noted s m p (Take v d) = TakesPlaces s.takeover
Noted s m p (Take2 v) = TakesPlaces s.takeover × IsHeld (m (Bid p))
Noted s m p kind = Unit {0}

-- what a place has noted after the store of this content, by what it is at
abbrev pub NotedBy : Shape → Content → RestartKind → Type 0
NotedBy s (AnEntry entry) (Steal v i) = IsRisingEntry s entry × IsEntry entry
NotedBy s content (Steal v i) = ⊥
NotedBy s content (Check v i) = ⊥
NotedBy s content (Take v d) = TakesPlaces s.takeover
NotedBy s content (Take2 v) = ⊥
NotedBy s content kind = Unit {0}

-- what a load of a Check knows by places; by entries it is what tickets say of it
abbrev pub KnownByPlaces : Takeover → Type 0 → Type 0
KnownByPlaces ByPlaces A = A
KnownByPlaces ByEntries A = Unit {0}

-- by entries a top stays a slot
abbrev pub IsTopLow : Takeover → Shape → ℕ → Type 0
IsTopLow ByPlaces s n = Unit {0}
IsTopLow ByEntries s n = n < s.slots

-- Which loads a row of a kind makes, with what it knows of them; of kinds of strands nothing is said here.
module _ (s : Shape) (place bottom : ℕ) where
  abbrev AtPush1 : (block : ℕ) → Point → Type 0
  AtPush1 r (PushOrder x) = (x ≡ r) × (bottom + 1 < s.slots)
  AtPush1 r (PushAbove x) = x ≡ r
  AtPush1 r _ = ⊥

  abbrev AtPush2 : (block : ℕ) → Point → Type 0
  AtPush2 r (PushBottom x) = x ≡ r
  AtPush2 r _ = ⊥

  abbrev AtPop1 : Point → Type 0
  AtPop1 PopBelow = Unit {0}
  AtPop1 _ = ⊥

  abbrev AtPop2 : (block : ℕ) → Point → Type 0
  AtPop2 r (PopAgain x) = x ≡ r
  AtPop2 r (PopAbove x) = (x ≡ r) × (r + 4 < word_count s) × (2 ≤ bottom)
  AtPop2 r (Offset x low) = (x ≡ r) × (low + 1 ≡ bottom) × (1 ≤ low)
  AtPop2 r _ = ⊥

  abbrev AtSeek : Point → Type 0
  AtSeek SeekHolder = Unit {0}
  AtSeek (SeekDead v holder) = (v < s.processors) × (holder.tag + 1 < 2 ^ 58) × (holder.processor < s.processors) × TakesPlaces s.takeover
  AtSeek (SeekTop v) = v < s.processors
  AtSeek (SeekEntry v i) = (v < s.processors) × (i < s.slots)
  AtSeek (SeekClosed v i entry) = (v < s.processors) × (i < s.slots) × IsRisingEntry s entry × IsEntry entry
  AtSeek _ = ⊥

  abbrev AtSteal : (victim slot : ℕ) → Point → Type 0
  AtSteal v i (StealMessage w j) = (w ≡ v) × (j ≡ i)
  AtSteal v i _ = ⊥

  abbrev AtCheck : (victim slot : ℕ) → Point → Type 0
  AtCheck v i (TakenMessage by w j) = KnownByPlaces s.takeover ((by ≡ place) × (w ≡ v) × (j ≡ i))
  AtCheck v i (TakenEntry by w j entry) = KnownByPlaces s.takeover ((by ≡ place) × (w ≡ v) × (j ≡ i) × IsRisingEntry s entry)
  AtCheck v i (ClosedRestart w j x) = KnownByPlaces s.takeover ⊥
  AtCheck v i (ClosedLink x) = KnownByPlaces s.takeover ⊥
  AtCheck v i (ClosedBottom w j x) = KnownByPlaces s.takeover ⊥
  AtCheck v i (Offset x low) = low ≡ bottom
  AtCheck v i _ = ⊥

  abbrev AtTake : (victim dead : ℕ) → Point → Type 0
  AtTake v d (BidMessage w e) = (w ≡ v) × (e ≡ d)
  AtTake v d _ = ⊥

  abbrev AtTake2 : (victim : ℕ) → Point → Type 0
  AtTake2 v (BidAgain w) = w ≡ v
  AtTake2 v (BidHolder w message) = w ≡ v
  AtTake2 v _ = ⊥

  abbrev pub IsLoadOf : RestartKind → Point → Type 0
  IsLoadOf (Push1 r) point = AtPush1 r point
  IsLoadOf (Push2 r) point = AtPush2 r point
  IsLoadOf Pop1 point = AtPop1 point
  IsLoadOf (Pop2 r) point = AtPop2 r point
  IsLoadOf Seek point = AtSeek point
  IsLoadOf (Steal v i) point = AtSteal v i point
  IsLoadOf (Check v i) point = AtCheck v i point
  IsLoadOf (Take v d) point = AtTake v d point
  IsLoadOf (Take2 v) point = AtTake2 v point
  IsLoadOf kind point = Unit {0}

-- a processor that has met no broken words, nor stands before a restart word that is none
abbrev pub IsUnbroken : Standing → Type 0
IsUnbroken (IsBroken p) = ⊥
IsUnbroken (IsAt p None) = ⊥
IsUnbroken _ = Unit {0}

module _ (s : Shape) (code : CodeParts) (m : Spot → Word) (seat : Seat) where
  -- what a row asks next is there
  abbrev pub GoesWell : Then → Type 0
  GoesWell (Load point) = (point_is_there s seat point ≡ true) × IsLoadOf s seat.place seat.restart.bottom seat.restart.kind point
  GoesWell (Install restart) = restart_is_there s restart ≡ true
  GoesWell (Fork block) = restart_is_there s (forked seat block) ≡ true
  GoesWell (Begin block frame bottom) = restart_is_there s (begun frame bottom) ≡ true
  GoesWell (Move place) = nat_lt place s.processors ≡ true
  GoesWell (Enter capsule) = IsUnbroken (stands_then s code seat (Enter capsule))
  GoesWell Again = Unit {0}
  GoesWell Broken = ⊥

  -- and its message is noted where it installs
  abbrev pub IsNoted : Then → Type 0
  IsNoted (Install restart) = Noted s m seat.place restart.kind
  IsNoted next = Unit {0}

  abbrev pub IsNotedBy : Content → Then → Type 0
  IsNotedBy content (Install restart) = NotedBy s content restart.kind
  IsNotedBy content next = Unit {0}

  -- by the cell of a store
  abbrev pub IsNotedAt : Cell → Content → Then → Type 0
  IsNotedAt (MessageWord place) content next = IsNotedBy content next
  IsNotedAt cell content next = IsNoted next

  -- it stores into words of blocks and arrays, its counter and its message
  abbrev pub StoresSo : Cell → Type 0
  StoresSo (BlockWord at) = Unit {0}
  StoresSo (ArrayWord index) = Unit {0}
  StoresSo (RoomCounter place) = Unit {0}
  StoresSo (MessageWord place) = (place ≡ seat.place) × (seat.restart.kind ≡ Seek)
  StoresSo _ = ⊥

  -- the finish becomes an outcome
  abbrev pub SetsFinish : Content → Type 0
  SetsFinish (AFinish finish) = IsOutcome finish × IsFinish finish
  SetsFinish content = ⊥

  -- an entry's tag rises by one, by work or for good; a holder's does by a bid for a place
  abbrev pub RaisesEntry : Content → Content → Type 0
  RaisesEntry (AnEntry old) (AnEntry new) = (tag_of new ≡ tag_of old + 1) × (IsTakenEntry old → ⊥) × IsEntry old × IsEntry new
      × (IsTakenEntry new ⊎ (is_work seat.restart.kind ≡ true))
  RaisesEntry old new = ⊥

  abbrev pub RaisesHolder : (place : ℕ) → Content → Content → Type 0
  RaisesHolder v (AHolder old) (AHolder new) = (new.tag ≡ old.tag + 1) × (new.processor ≡ seat.own) × IsHolder old × IsHolder new
      × (seat.restart.kind ≡ Take v old.processor) × (m (Bid seat.place) ≡ Held new.tag new.processor)
  RaisesHolder v old new = ⊥

  -- a top rises
  abbrev pub RaisesTop : Content → Type 0
  RaisesTop (ANumber n) = IsTopLow s.takeover s n
  RaisesTop content = ⊥

  abbrev pub TriesSo : Cell → (old new : Content) → Type 0
  TriesSo FinishWord old new = SetsFinish new
  TriesSo (BlockWord at) old new = Unit {0}
  TriesSo (Top place) old new = RaisesTop new
  TriesSo (EntryWord place slot) old new = RaisesEntry old new
  TriesSo (HolderWord place) old new = RaisesHolder place old new
  TriesSo cell old new = ⊥

  -- all that a row asks next is there, and it is about to leave what is sound
  abbrev pub IsSoundRow : Row → Type 0
  IsSoundRow (Now next) = GoesWell next × IsNoted next
  IsSoundRow (Store cell content next) = (is_there s cell ≡ true) × StoresSo cell × GoesWell next × IsNotedAt cell content next
  IsSoundRow (Exchange cell old new next) = (is_there s cell ≡ true) × TriesSo cell old new × GoesWell next × IsNoted next

-- where a processor stands
abbrev pub IsSoundAt : Shape → CodeParts → (Spot → Word) → Standing → Type 0
IsSoundAt s code m IsLost = Unit {0}
IsSoundAt s code m (IsPlaced p) = Unit {0}
IsSoundAt s code m (IsAt p None) = ⊥
IsSoundAt s code m (IsAt p (Some restart)) = restart_is_there s restart ≡ true
IsSoundAt s code m (IsWithin seat row) = IsSoundRow s code m seat row
IsSoundAt s code m (IsRunning seat rest) = Unit {0}
IsSoundAt s code m (IsBroken p) = ⊥
IsSoundAt s code m IsDone = Unit {0}

-- a restart word that was read names what is there
abbrev pub IsRestartThere : Shape → Option Restart → Type 0
IsRestartThere s None = ⊥
IsRestartThere s (Some restart) = restart_is_there s restart ≡ true

-- 1 for a processor that is dead
abbrev pub one_dead : Word → ℕ
one_dead (words.Number (suc n)) = 1
one_dead _ = 0

-- how many are dead, of so many
abbrev pub deads : (Spot → Word) → ℕ → ℕ
deads m zero = 0
deads m (suc n) = one_dead (m (Dead n)) + deads m n

-- a holder word names a processor, and its tag is at most so much and the number of those that are
-- dead, or less where the one that it names is
abbrev pub IsHolderWithin : Shape → (raised : ℕ) → (Spot → Word) → Word → Type 0
IsHolderWithin s raised m (Held t c) = (c < s.processors) × (t + one_dead (m (Dead c)) ≤ raised + deads m s.processors)
IsHolderWithin s raised m _ = ⊥

-- a holder word names a processor, and its tag can rise
abbrev pub IsHolderSound : Shape → (Spot → Word) → Word → Type 0
IsHolderSound s m word = IsHolderWithin s (2 ^ 57) m word

-- an entry that is taken has a tag of at most one more than this, and others at most this
abbrev pub IsTagLow : (made : ℕ) → Word → Type 0
IsTagLow n (words.Taken t x) = t ≤ n + 1
IsTagLow n word = tag word ≤ n

-- a finish that is not that words are broken
abbrev pub IsNoBreak : Finish → Type 0
IsNoBreak (BrokenAt place) = ⊥
IsNoBreak finish = Unit {0}

-- what the finish word says is none
abbrev pub SaysNoBreak : (word : ℕ) → Type 0
SaysNoBreak word = (finish : Finish) → finish_of word ≡ Some finish → IsNoBreak finish

-- What is sound of a machine's state, beside what makes it a run's, where so many steps of rows of work
-- were exchanges of entries: nobody has met broken words or is about to, restart words and holders name
-- what is there, messages are as the places' kinds have them, and no tag is high.
pub record IsSound (s : Shape) (code : CodeParts) (made : ℕ) (state : RunState) : Type 0 where
  pub stands : (c : ℕ) → IsSoundAt s code (view s state.words) (stand_of state c)
  pub restarts : (p : ℕ) → p < s.processors → IsRestartThere s (restart_of (read s state.words (RestartWord p)))
  pub noted : (p : ℕ) → Noted s (view s state.words) p (kinds s state.words p)
  pub holders : (v : ℕ) → v < s.processors → IsHolderSound s (view s state.words) (view s state.words (words.Holder v))
  pub finish : SaysNoBreak (read s state.words FinishWord)
  pub tops : (v : ℕ) → v < s.processors → IsTopLow s.takeover s (read s state.words (Top v))
  pub tags : (v i : ℕ) → IsTagLow made (view s state.words (Slot v i))
