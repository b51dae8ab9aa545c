-- What a turn writes: nothing, or one word. It is a word of no deque, place or processor; or the message of the own place, the carried place, the
-- dead word, a holder word by a bid, a restart word by its place's own processor, or an entry by a lawful change.
use Rattle.std.proofs.Common.{◌≡◌, ◌<◌, ℕ, ◌==◌, if◌then◌else◌, Bool, true, false, List, refl, sym, subst}
use Rattle.std.proofs.lemmas.Bool.{eqb-true}
use Rattle.std.specs.Prelude.{slice_index}
use Rattle.ppm_strands.specs.Tree.{Words, Tree}
use Rattle.ppm_cells.specs.Cells.{IsCell}
use Rattle.ppm_cells.specs.Entry.{IsEntry}
use Rattle.ppm_cells.specs.Memory.{read, write as store}
use Rattle.ppm_cells.specs.Restart.{restart_word}
use Rattle.ppm_cells.specs.declared.cell.Cell.{Cell}
use Rattle.ppm_cells.specs.declared.cell.Cell.TheVariants.{FinishWord, CarryWord, DeadWord, RestartWord, MessageWord, HolderWord, Top, RoomCounter, EntryWord}
use Rattle.ppm_cells.specs.declared.cell.Cell.TheVariants.{BlockWord, ArrayWord}
use Rattle.ppm_cells.specs.declared.entry.Entry.{Entry}
use Rattle.ppm_cells.specs.declared.restart.Restart.{Restart}
use Rattle.ppm_cells.specs.declared.shape.Shape.{Shape}
use Rattle.ppm_strands.specs.Strand.{Frame}
use Rattle.ppm_code.specs.Strands.{Point, Result}
use Rattle.ppm_code.specs.declared.code.CodeParts.{CodeParts}
use Rattle.ppm_code.specs.declared.location.FrameWord.{FrameWord}
use Rattle.ppm_cells.specs.DequeChange.{Changes}
use Rattle.ppm_step.specs.Contents.{word_of}
use Rattle.ppm_step.specs.Frames.{Rest, Loads, Stores, Full, Installs, Breaks}
use Rattle.ppm_step.specs.Standings.{Standing, IsLost, IsPlaced, IsAt, IsWithin, IsRunning, IsBroken, IsDone, forked as forked_restart, begun}
use Rattle.ppm_step.specs.Standings.{wanted_row, wanted_rest}
use Rattle.ppm_step.specs.State.{State as RunState, stand_of, acts, happens, words_after}
use Rattle.ppm_step.specs.There.{restart_is_there}
use Rattle.ppm_step.specs.declared.content.Content.{Content}
use Rattle.ppm_step.specs.declared.content.Content.TheVariants.{AnEntry}
use Rattle.ppm_step.specs.declared.row.Row.{Row}
use Rattle.ppm_step.specs.declared.row.Row.TheVariants.{Now, Store, Exchange}
use Rattle.ppm_step.specs.declared.row.Seat.{Seat}
use Rattle.ppm_step.specs.declared.row.Then.{Then}
use Rattle.ppm_step.specs.declared.row.Then.TheVariants.{Load, Install, Fork, Begin, Move, Enter, Again, Broken}
use Rattle.ppm_step.specs.declared.turn.Act.{Act}
use Rattle.ppm_step.specs.declared.turn.Act.TheVariants.{Step, Soft, Hard, Quit}
use Rattle.ppm_step.specs.declared.turn.Turn.{Turn}
use Rattle.ppm_tickets.specs.Along.{IsPooled}
use Rattle.ppm_tickets.specs.Entries.{IsPooledAt}
use Rattle.ppm_tickets.specs.Homes.{Home}
use Rattle.ppm_tickets.specs.Saw.{IsQuietCell, Sees}
use Rattle.ppm_tickets.specs.View as spots
use Rattle.ppm_tickets.specs.Words.{Word, Spot}
use Rattle.ppm_tickets.proofs.EntryLemmas.{MayChange, cell_there}
use Rattle.ppm_frames.specs.Skeletons.{Skeleton}
use Rattle.ppm_kept.specs.Running.{IsFair}
use Rattle.ppm_kept.specs.Fates.{Agrees}
use Rattle.ppm_kept.specs.Left.{Followed}
use Rattle.ppm_runs.specs.Run.{fate_of}
use Rattle.ppm_runs.specs.Follow.{IsHalves}
use Rattle.ppm_runs.specs.Sound.{RaisesHolder}
use Rattle.ppm_runs.proofs.AgreeLemmas.{IsNoRestart, IsNoCarry, IsNoEntry, changes, exchanges_no_restart, exchanges_no_carry}
use Rattle.ppm_runs.proofs.AgreeLemmas.{stores_no_restart, stores_no_carry, stores_no_entry}
use Rattle.ppm_runs.proofs.BidLemmas.{Bids, Leaves, row_bids}
use Rattle.ppm_runs.proofs.OrderlyLemmas.{pooled}
use Rattle.ppm_runs.proofs.ShownLemmas.{Within, within, runs}
use Rattle.ppm_progress.proofs.NoteLemmas.{OwnNote, NoNote, row_notes}

-- a cell that says nothing of deques' entries, messages, places and processors
abbrev pub IsAside : Cell → Type 0
IsAside (CarryWord c) = ⊥
IsAside (DeadWord c) = ⊥
IsAside (RestartWord p) = ⊥
IsAside (MessageWord p) = ⊥
IsAside (HolderWord p) = ⊥
IsAside (EntryWord v i) = ⊥
IsAside _ = Unit {0}

quiet_aside : (cell : Cell) → IsQuietCell cell → IsAside cell
quiet_aside (CarryWord c) q = absurd q
quiet_aside (DeadWord c) q = absurd q
quiet_aside (RestartWord p) q = absurd q
quiet_aside (MessageWord p) q = absurd q
quiet_aside (HolderWord p) q = absurd q
quiet_aside (EntryWord v i) q = absurd q
quiet_aside _ q = tt

-- an act of a processor that stands so gives the place this restart
abbrev pub Gives : Act → Standing → (place : ℕ) → Restart → Type 0
Gives (Step v) (IsWithin seat (Now (Install re))) p x = (seat.place ≡ p) × (re ≡ x)
Gives (Step v) (IsWithin seat (Now (Fork r))) p x = (seat.place ≡ p) × (forked_restart seat r ≡ x)
Gives (Step v) (IsWithin seat (Now (Begin r f b))) p x = (seat.place ≡ p) × (begun f b ≡ x)
Gives (Step v) (IsRunning seat (Installs kind)) p x = (seat.place ≡ p) × (record { kind = kind; bottom = seat.restart.bottom } ≡ x)
Gives act standing p x = ⊥

-- an act of a processor that stands so moves processor c to this place
abbrev pub MovesTo : Act → Standing → (c place : ℕ) → Type 0
MovesTo (Step v) (IsWithin seat (Now (Move q))) c p = (seat.own ≡ c) × (q ≡ p)
MovesTo act standing c p = ⊥

-- who stands so stores in a row of this place
abbrev pub StoresAt : Standing → (place : ℕ) → Type 0
StoresAt (IsWithin seat (Store cell content next)) p = seat.place ≡ p
StoresAt standing p = ⊥

module _ (s : Shape) (code : CodeParts) (words : List ℕ) where
  -- the words after an act of a processor that stood so
  pub data Wrote (act : Act) (x : Standing) (now : List ℕ) : Type 0 where
    Nothing : now ≡ words → Wrote act x now
    Aside : (cell : Cell) (w : ℕ) → IsCell s cell → IsAside cell → now ≡ store s words cell w → Wrote act x now
    Notes : (p n : ℕ) → p < s.processors → StoresAt x p → now ≡ store s words (MessageWord p) n → Wrote act x now
    Carries : (c p : ℕ) → c < s.processors → MovesTo act x c p → now ≡ store s words (CarryWord c) p → Wrote act x now
    Dies : (c : ℕ) → c < s.processors → act ≡ Hard → now ≡ store s words (DeadWord c) 1 → Wrote act x now
    Holds : (seat : Seat) (v : ℕ) (old new : Content) (next : Then) → x ≡ IsWithin seat (Exchange (HolderWord v) old new next) → v < s.processors
        → spots.kinds s words seat.place ≡ seat.restart.kind → RaisesHolder s code (spots.view s words) seat v old new
        → read s words (HolderWord v) ≡ word_of old
        → now ≡ store s words (HolderWord v) (word_of new) → Wrote act x now
    Restarts : (p : ℕ) (re : Restart) → p < s.processors → restart_is_there s re ≡ true → Gives act x p re
        → now ≡ store s words (RestartWord p) (restart_word re) → Wrote act x now
    Changed : (v i : ℕ) (old new : Entry) → IsCell s (EntryWord v i) → IsEntry old → Changes s.takeover old new
        → read s words (EntryWord v i) ≡ word_of (AnEntry old)
        → now ≡ store s words (EntryWord v i) (word_of (AnEntry new)) → Wrote act x now

module _ (s : Shape) (code : CodeParts) (fair : IsFair code) (root : Tree (Frame FrameWord Point) Result) (input : Words) (state : RunState)
    (h : ℕ → Home) (forked taken : List ℕ) (l : List Followed) (t : Skeleton) (run : IsHalves s code root input state h forked taken l t)
    (agrees : Agrees t (λ r. fate_of (h r))) (c : ℕ) (there : c < s.processors) where
  abbrev ws : List ℕ
  ws = state.words

  abbrev m : Spot → Word
  m = spots.view s ws

  abbrev W : Act → Standing → List ℕ → Type 0
  W act x now = Wrote s code ws act x now

  -- the finish word is tried
  finishes : (act : Act) (x : Standing) (w : ℕ) (made : Bool) → W act x (if made then store s ws FinishWord w else ws)
  finishes act x w true = Aside FinishWord w tt tt refl
  finishes act x w false = Nothing refl

  module _ (v : ℕ) (seat : Seat) where
    abbrev In : Row → Type 0
    In row = Within s code root input state h forked taken l t run c seat row

    is_cell : (cell : Cell) (row : Row) → stand_of state c ≡ IsWithin seat row → IsPooledAt s (IsWithin seat row)
    is_cell cell row e = subst (IsPooledAt s) e (pooled s code fair root input state h forked taken l t run agrees c)

    -- a cell that a row stores
    abbrev Stored : Cell → Content → Then → Type 0
    Stored cell content next = W (Step v) (IsWithin seat (Store cell content next)) (store s ws cell (word_of content))

    stored : (cell : Cell) (x : Content) (next : Then) → IsCell s cell → IsNoRestart cell → IsNoCarry cell → IsNoEntry cell → Leaves s code m seat cell
        → OwnNote seat.place cell x → Stored cell x next
    stored (RestartWord p) x next is none a b d n = absurd none
    stored (CarryWord p) x next is none a b d n = absurd a
    stored (EntryWord p i) x next is none a b d n = absurd b
    stored (HolderWord p) x next is none a b d n = absurd d
    stored (DeadWord p) x next is none a b d n = absurd d
    stored (MessageWord p) x next is none a b d n = Notes p (word_of x) is n refl
    stored FinishWord x next is none a b d n = Aside FinishWord (word_of x) is tt refl
    stored (Top p) x next is none a b d n = Aside (Top p) (word_of x) is tt refl
    stored (RoomCounter p) x next is none a b d n = Aside (RoomCounter p) (word_of x) is tt refl
    stored (BlockWord i) x next is none a b d n = Aside (BlockWord i) (word_of x) is tt refl
    stored (ArrayWord i) x next is none a b d n = Aside (ArrayWord i) (word_of x) is tt refl

    -- an entry that is changed
    changed : (x : Standing) (p i : ℕ) (old new : Content) → IsCell s (EntryWord p i) → MayChange s.takeover (EntryWord p i) old new
        → read s ws (EntryWord p i) ≡ word_of old → W (Step v) x (store s ws (EntryWord p i) (word_of new))
    changed x p i (AnEntry a) (AnEntry b) is may e = Changed p i a b is may.1 may.0 e refl
    changed x p i _ _ is may e = absurd may

    -- a cell that a row exchanges
    exchanged : (cell : Cell) (old new : Content) (next : Then) → IsCell s cell → spots.kinds s ws seat.place ≡ seat.restart.kind
        → MayChange s.takeover cell old new → IsNoRestart cell → IsNoCarry cell → Bids s code m seat cell old new
        → NoNote cell old new → read s ws cell ≡ word_of old
        → W (Step v) (IsWithin seat (Exchange cell old new next)) (store s ws cell (word_of new))
    exchanged (EntryWord p i) old new next is kind may none a d n e =
        changed (IsWithin seat (Exchange (EntryWord p i) old new next)) p i old new is may e
    exchanged (HolderWord p) old new next is kind may none a d n e = Holds seat p old new next refl is kind d e refl
    exchanged (RestartWord p) old new next is kind may none a d n e = absurd none
    exchanged (CarryWord p) old new next is kind may none a d n e = absurd a
    exchanged (DeadWord p) old new next is kind may none a d n e = absurd d
    exchanged FinishWord old new next is kind may none a d n e = Aside FinishWord (word_of new) is tt refl
    exchanged (MessageWord p) old new next is kind may none a d n e = absurd n
    exchanged (Top p) old new next is kind may none a d n e = Aside (Top p) (word_of new) is tt refl
    exchanged (RoomCounter p) old new next is kind may none a d n e = Aside (RoomCounter p) (word_of new) is tt refl
    exchanged (BlockWord i) old new next is kind may none a d n e = Aside (BlockWord i) (word_of new) is tt refl
    exchanged (ArrayWord i) old new next is kind may none a d n e = Aside (ArrayWord i) (word_of new) is tt refl

    -- what an exchange writes where the word that it expects is there
    tried : (cell : Cell) (old new : Content) (next : Then) → stand_of state c ≡ IsWithin seat (Exchange cell old new next)
        → In (Exchange cell old new next) → (made : Bool) → (read s ws cell == word_of old) ≡ made
        → W (Step v) (IsWithin seat (Exchange cell old new next)) (if made then store s ws cell (word_of new) else ws)
    tried cell old new next e w false q = Nothing refl
    tried cell old new next e w true q =
        let bids = row_bids s code m (spots.kinds s ws) (spots.bottoms s ws) seat w.sits.there (Exchange cell old new next) w.seen in
        exchanged cell old new next (cell_there s code cell w.here (is_cell cell (Exchange cell old new next) e)) w.sits.at.kind
        (changes s code root input state h forked taken l t run c seat cell old new next w)
        (exchanges_no_restart s code root input state h forked taken l t run c seat cell old new next w)
        (exchanges_no_carry s code root input state h forked taken l t run c seat cell old new next w) bids
        (row_notes s seat w.place w.sits.there _ (Exchange cell old new next) w.seen) (eqb-true (read s ws cell) (word_of old) q)

    row_wrote : (row : Row) → stand_of state c ≡ IsWithin seat row → In row → W (Step v) (IsWithin seat row) (words_after ws (wanted_row s seat v row))
    row_wrote (Now (Load x)) e w = Nothing refl
    row_wrote (Now (Enter x)) e w = Nothing refl
    row_wrote (Now Again) e w = Nothing refl
    row_wrote (Now Broken) e w = Nothing refl
    row_wrote (Now (Install re)) e w = Restarts seat.place re w.place w.here (refl, refl) refl
    row_wrote (Now (Fork r)) e w = Restarts seat.place (forked_restart seat r) w.place w.here (refl, refl) refl
    row_wrote (Now (Begin r f b)) e w = Restarts seat.place (begun f b) w.place w.here (refl, refl) refl
    row_wrote (Now (Move p)) e w = Carries seat.own p (subst (λ (n : ℕ). n < s.processors) (sym w.sits.own) w.sits.carried.lives.there) (refl, refl) refl
    row_wrote (Store cell content next) e w =
        stored cell content next (cell_there s code cell w.here (is_cell cell (Store cell content next) e))
        (stores_no_restart s code root input state h forked taken l t run c seat cell content next w)
        (stores_no_carry s code root input state h forked taken l t run c seat cell content next w)
        (stores_no_entry s code root input state h forked taken l t run c seat cell content next w)
        (row_bids s code m (spots.kinds s ws) (spots.bottoms s ws) seat w.sits.there (Store cell content next) w.seen)
        (row_notes s seat w.place w.sits.there _ (Store cell content next) w.seen)
    row_wrote (Exchange cell old new next) e w =
        tried cell old new next e w (read s ws cell == word_of old) refl

    rest_wrote : (rest : Rest) → stand_of state c ≡ IsRunning seat rest → W (Step v) (IsRunning seat rest) (words_after ws (wanted_rest s seat rest))
    rest_wrote (Loads cell go) e = Nothing refl
    rest_wrote Breaks e = Nothing refl
    rest_wrote Full e = finishes (Step v) (IsRunning seat Full) _ (slice_index ws 0 == 0)
    rest_wrote (Installs kind) e =
        let a = runs s code root input state h forked taken l t run c seat (Installs kind) e in
        Restarts seat.place (record { kind = kind; bottom = seat.restart.bottom }) a.place a.here (refl, refl) refl
    rest_wrote (Stores cell content rest) e =
        let a = runs s code root input state h forked taken l t run c seat (Stores cell content rest) e in
        let sees = subst (Sees s m (spots.kinds s ws) (spots.bottoms s ws) c) e (run.lawful.1.sees c) in
        let pool : IsPooled s cell = subst (IsPooledAt s) e (pooled s code fair root input state h forked taken l t run agrees c) in
        Aside cell (word_of content) (cell_there s code cell a.here pool) (quiet_aside cell sees.2.0) refl

  -- a step, by where the processor stands
  step_wrote : (v : ℕ) (x : Standing) → stand_of state c ≡ x → W (Step v) x (acts s code state c (Step v) x).words
  step_wrote v (IsWithin seat row) e = row_wrote v seat row e (within s code root input state h forked taken l t run c seat row e)
  step_wrote v (IsRunning seat rest) e = rest_wrote v seat rest e
  step_wrote v (IsBroken p) e = finishes (Step v) (IsBroken p) _ (slice_index ws 0 == 0)
  step_wrote v IsLost e = Nothing refl
  step_wrote v (IsPlaced p) e = Nothing refl
  step_wrote v (IsAt p r) e = Nothing refl
  step_wrote v IsDone e = Nothing refl

  -- a soft fault writes nothing, a quit tries the finish word, and a hard fault writes the dead word
  soft_wrote : (x : Standing) → W Soft x (acts s code state c Soft x).words
  soft_wrote IsDone = Nothing refl
  soft_wrote IsLost = Nothing refl
  soft_wrote (IsPlaced p) = Nothing refl
  soft_wrote (IsAt p r) = Nothing refl
  soft_wrote (IsWithin seat row) = Nothing refl
  soft_wrote (IsRunning seat rest) = Nothing refl
  soft_wrote (IsBroken p) = Nothing refl

  quit_wrote : (why : _) (x : Standing) → W (Quit why) x (acts s code state c (Quit why) x).words
  quit_wrote why IsDone = Nothing refl
  quit_wrote why IsLost = finishes (Quit why) IsLost _ (slice_index ws 0 == 0)
  quit_wrote why (IsPlaced p) = finishes (Quit why) (IsPlaced p) _ (slice_index ws 0 == 0)
  quit_wrote why (IsAt p r) = finishes (Quit why) (IsAt p r) _ (slice_index ws 0 == 0)
  quit_wrote why (IsWithin seat row) = finishes (Quit why) (IsWithin seat row) _ (slice_index ws 0 == 0)
  quit_wrote why (IsRunning seat rest) = finishes (Quit why) (IsRunning seat rest) _ (slice_index ws 0 == 0)
  quit_wrote why (IsBroken p) = finishes (Quit why) (IsBroken p) _ (slice_index ws 0 == 0)

  hard_wrote : (x : Standing) → W Hard x (acts s code state c Hard x).words
  hard_wrote IsDone = Nothing refl
  hard_wrote IsLost = Dies c there refl refl
  hard_wrote (IsPlaced p) = Dies c there refl refl
  hard_wrote (IsAt p r) = Dies c there refl refl
  hard_wrote (IsWithin seat row) = Dies c there refl refl
  hard_wrote (IsRunning seat rest) = Dies c there refl refl
  hard_wrote (IsBroken p) = Dies c there refl refl

  act_wrote : (act : Act) (x : Standing) → stand_of state c ≡ x → W act x (acts s code state c act x).words
  act_wrote (Step v) x e = step_wrote v x e
  act_wrote Soft x e = soft_wrote x
  act_wrote Hard x e = hard_wrote x
  act_wrote (Quit why) x e = quit_wrote why x

-- what each turn of such a state writes
pub turn_wrote : (s : Shape) (code : CodeParts) → IsFair code → (root : Tree (Frame FrameWord Point) Result) (input : Words) (state : RunState)
    → (h : ℕ → Home) (forked taken : List ℕ) (l : List Followed) (t : Skeleton) → IsHalves s code root input state h forked taken l t
    → Agrees t (λ r. fate_of (h r)) → (turn : Turn) → turn.processor < s.processors
    → Wrote s code state.words turn.act (stand_of state turn.processor) (happens s code state turn).words
turn_wrote s code fair root input state h forked taken l t run agrees turn there =
    act_wrote s code fair root input state h forked taken l t run agrees turn.processor there turn.act (stand_of state turn.processor) refl
