-- What a processor does on the words of a table, what its seat keeps of it, and the rule: words and seats are those of one run.
use Rattle.std.specs.Prelude.{◌≡◌, ◌≢◌, ◌⊎◌, ℕ, ◌+◌, ◌<◌, ◌≤◌, ◌==◌, if◌then◌else◌, false, List, [], ◌∷◌, ◌++◌, drop, length}
use mathlib.Core.Option.{some}
use lib.ListN.{get_elem?}
use Rattle.atomic_table.specs.Table.{State as TableState, Me}
use Rattle.atomic_table.specs.Table.{Step as TableStep}
use Rattle.atomic_table.specs.Seated.{TableId}
use Rattle.ppm_cells.specs.Cells.{word_count}
use Rattle.ppm_cells.specs.declared.shape.Shape.{Shape}
use Rattle.ppm_code.specs.declared.code.CodeParts.{CodeParts}
use Rattle.ppm_step.specs.declared.ask.Want.{Want}
use Rattle.ppm_step.specs.declared.ask.Want.TheVariants.{Loads, Stores, Exchanges, Nothing}
use Rattle.ppm_step.specs.declared.turn.Act.{Act}
use Rattle.ppm_step.specs.declared.turn.Act.TheVariants.{Step, Soft, Hard, Quit}
use Rattle.ppm_step.specs.declared.turn.Turn.{Turn}
use Rattle.ppm_step.specs.declared.turn.Why.TheVariants.{Turns, Watch}
use Rattle.ppm_step.specs.Standings.{Standing, IsLost, IsDone}
use Rattle.ppm_step.specs.State.{State, opening, stand_of, happens, after, along, want_of, stand_after, found_in, seeks_holder}
use Rattle.ppm_step.specs.Stood.{holder_at}
pub use Rattle.ppm_table.specs.Padding.{padding}
use Rattle.ppm_table.specs.declared.view.Deed.{Deed}
use Rattle.ppm_table.specs.declared.view.Deed.TheVariants.{Loaded, Stored, Exchanged, Softened, Hardened, Quitted}
use Rattle.ppm_table.specs.declared.view.Opening.{Opening}
use Rattle.ppm_table.specs.declared.view.Record.{Record}
use Rattle.ppm_table.specs.declared.view.View.{View}
use Rattle.ppm_table.specs.declared.view.View.TheVariants.{Maker, Seated, Ended, Spent}

-- the deed of a word step that found this
abbrev pub deed_by : Want → (found : ℕ) → Deed
deed_by (Loads at) found = Loaded at found
deed_by (Stores at word) found = Stored at word
deed_by (Exchanges at old new) found = Exchanged at old new
deed_by Nothing found = Softened

-- the deed of an act
abbrev pub deed_of : Act → Want → (found : ℕ) → Deed
deed_of (Step victim) want found = deed_by want found
deed_of Soft want found = Softened
deed_of Hard want found = Hardened
deed_of (Quit why) want found = Quitted why

-- the act of a deed, by a processor that stands there: where a victim is due, the place whose holder word was loaded
abbrev pub act_by : Shape → Standing → Deed → Act
act_by s standing (Loaded at found) = Step (if seeks_holder standing then holder_at s at else 0)
act_by s standing (Stored at word) = Step 0
act_by s standing (Exchanged at old new) = Step 0
act_by s standing Softened = Soft
act_by s standing Hardened = Hard
act_by s standing (Quitted why) = Quit why

-- and what it found
abbrev pub found_by : Deed → ℕ
found_by (Loaded at found) = found
found_by deed = 0

module _ (s : Shape) (code : CodeParts) (own : ℕ) where
  -- where it stands after a deed, and after a list of them
  abbrev pub behind : Standing → Deed → Standing
  behind standing deed = stand_after s code own (act_by s standing deed) (found_by deed) standing

  abbrev pub stood : Standing → List Deed → Standing
  stood standing [] = standing
  stood standing (deed ∷ deeds) = stood (behind standing deed) deeds

module _ (s : Shape) (code : CodeParts) where
  -- the deed of a turn
  abbrev pub deed_at : State → Turn → Deed
  deed_at state turn =
      let want = want_of s code turn.processor turn.act (stand_of state turn.processor) in
      deed_of turn.act want (found_in state.words want)

  -- the deeds of a processor in a run
  abbrev pub deeds_by : (processor : ℕ) → State → Turn → List Deed
  deeds_by processor state turn = if turn.processor == processor then deed_at state turn ∷ [] else []

  abbrev pub deeds_of : (processor : ℕ) → State → List Turn → List Deed
  deeds_of processor = along s code (deeds_by processor)

  -- a turn is that of a processor that isn't done, and its act is the one that its deed tells
  pub record IsTold (state : State) (turn : Turn) : Type 0 where
    pub lives : stand_of state turn.processor ≢ IsDone
    pub act : act_by s (stand_of state turn.processor) (deed_at state turn) ≡ turn.act

  abbrev pub AllTold : State → List Turn → Type 0
  AllTold state [] = Unit {0}
  AllTold state (turn ∷ turns) = IsTold state turn × AllTold (happens s code state turn) turns

-- the state with which the run of a table begins, and the one after turns
abbrev pub start : Opening → State
start k = opening k.words k.shape.processors

abbrev pub behind_turns : Opening → List Turn → State
behind_turns k turns = after k.shape k.code (start k) turns

abbrev pub deeds_in_run : Opening → (processor : ℕ) → List Turn → List Deed
deeds_in_run k processor turns = deeds_of k.shape k.code processor (start k) turns

-- where a processor stands after its deeds
abbrev pub stands_by : Opening → (processor : ℕ) → List Deed → Standing
stands_by k processor deeds = stood k.shape k.code processor IsLost deeds

-- views
abbrev pub maker : ℕ → View
maker n = Maker n

abbrev pub record_with : ℕ → List Deed → Record
record_with c deeds = record { number = c; deeds = deeds }

abbrev pub seated : ℕ → List Deed → View
seated c deeds = Seated (record_with c deeds)

abbrev pub spent : View
spent = Spent

-- the records that a view keeps
abbrev pub records_in : View → List Record
records_in (Maker n) = []
records_in (Seated r) = r ∷ []
records_in (Ended rs) = rs
records_in Spent = []

abbrev pub deeds_in : View → List Deed
deeds_in (Maker n) = []
deeds_in (Seated r) = r.deeds
deeds_in (Ended rs) = []
deeds_in Spent = []

-- what the rule says of records
pub record FitsOne (k : Opening) (turns : List Turn) (r : Record) : Type 0 where
  pub number : r.number < k.shape.processors
  pub deeds : r.deeds ≡ deeds_in_run k r.number turns

abbrev pub Fits : Opening → List Turn → List Record → Type 0
Fits k turns [] = Unit {0}
Fits k turns (r ∷ rs) = FitsOne k turns r × Fits k turns rs

abbrev pub Below : ℕ → List Record → Type 0
Below n [] = Unit {0}
Below n (r ∷ rs) = (r.number < n) × Below n rs

abbrev pub Numbered : List Record → ℕ → Type 0
Numbered [] c = ⊥
Numbered (r ∷ rs) c = (r.number ≡ c) ⊎ Numbered rs c

-- the words after the padding and the records in the views are those of one run
pub record IsRun (k : Opening) (t : TableState (Unit {0}) View) : Type 0 where
  pub turns : List Turn
  pub words : drop padding t.words ≡ (behind_turns k turns).words
  pub stand : length (behind_turns k turns).stand ≡ k.shape.processors
  pub told : AllTold k.shape k.code (start k) turns
  pub fits : (j : ℕ) (v : View) → get_elem? t.views j ≡ some v → Fits k turns (records_in v)
  pub apart : (i j c : ℕ) (u v : View) → get_elem? t.views i ≡ some u → get_elem? t.views j ≡ some v → Numbered (records_in u) c → Numbered (records_in v) c → i ≡ j
  pub made : (i j m : ℕ) (v : View) → get_elem? t.views i ≡ some (Maker m) → get_elem? t.views j ≡ some v → Below m (records_in v)
  -- a number not given away has done nothing
  pub fresh : (i m c : ℕ) → get_elem? t.views i ≡ some (Maker m) → m ≤ c → deeds_in_run k c turns ≡ []
  pub one : (i j m n : ℕ) → get_elem? t.views i ≡ some (Maker m) → get_elem? t.views j ≡ some (Maker n) → i ≡ j

-- the view after a deed
abbrev pub seen : View → Deed → View
seen (Maker n) deed = Maker n
seen (Seated r) deed = seated r.number (r.deeds ++ deed ∷ [])
seen (Ended rs) deed = Ended rs
seen Spent deed = Spent

abbrev pub Mine : Type 0
Mine = Me (Unit {0}) View

-- what each atomic step tells its seat: one deed more, with the address of its word
abbrev pub loads : TableStep (Unit {0}) → Mine → ℕ → Mine → Type 0
loads step me n new = (at : ℕ) → step.word ≡ padding + at → new ≡ (seen me.0 (Loaded at n), me.1)

abbrev pub stores : TableStep (Unit {0}) → Mine → ℕ → Mine → Type 0
stores step me n new = (at : ℕ) → step.word ≡ padding + at → new ≡ (seen me.0 (Stored at step.first), me.1)

abbrev pub exchanges : TableStep (Unit {0}) → Mine → ℕ → Mine → Type 0
exchanges step me n new = (at : ℕ) → step.word ≡ padding + at → new ≡ (seen me.0 (Exchanged at step.first step.second), me.1)

abbrev pub softens : TableStep (Unit {0}) → Mine → ℕ → Mine → Type 0
softens step me n new = new ≡ (seen me.0 Softened, me.1)

abbrev pub hardens : TableStep (Unit {0}) → Mine → ℕ → Mine → Type 0
hardens step me n new = new ≡ (seen me.0 Hardened, me.1)

abbrev pub spends : TableStep (Unit {0}) → Mine → ℕ → Mine → Type 0
spends step me n new = new ≡ (seen me.0 (Quitted Turns), me.1)

abbrev pub refuses : TableStep (Unit {0}) → Mine → ℕ → Mine → Type 0
refuses step me n new = new ≡ (seen me.0 (Quitted Watch), me.1)

abbrev pub left_of : View → View
left_of (Maker n) = Maker (n + 1)
left_of (Seated r) = Seated r
left_of (Ended rs) = Ended rs
left_of Spent = Spent

abbrev pub right_of : View → View
right_of (Maker n) = seated n []
right_of (Seated r) = Spent
right_of (Ended rs) = Spent
right_of Spent = Spent

abbrev pub both_of : View → View → View
both_of v w = Ended (records_in v ++ records_in w)

-- a processor's seat
abbrev pub IsSeat : ℕ → Mine → Type 0
IsSeat c me = me ≡ (seated c (deeds_in me.0), [])

-- a victim is a processor, and it is 0 where none is due
abbrev pub IsActAt : Shape → Standing → Act → Type 0
IsActAt s standing (Step victim) = (victim < s.processors) × (seeks_holder standing ≡ false → victim ≡ 0)
IsActAt s standing Soft = Unit {0}
IsActAt s standing Hard = Unit {0}
IsActAt s standing (Quit why) = Unit {0}

-- the seat of a processor that isn't done, and may do this act, whose word step is this
pub record Does (k : Opening) (own : ℕ) (act : Act) (me : Mine) (want : Want) : Type 0 where
  pub seat : IsSeat own me
  pub lives : stands_by k own (deeds_in me.0) ≢ IsDone
  pub may : IsActAt k.shape (stands_by k own (deeds_in me.0)) act
  pub wants : want_of k.shape k.code own act (stands_by k own (deeds_in me.0)) ≡ want

abbrev pub IsAsked : Want → Type 0
IsAsked (Loads at) = Unit {0}
IsAsked (Stores at word) = Unit {0}
IsAsked (Exchanges at old new) = Unit {0}
IsAsked Nothing = ⊥

-- a processor is to make a step
pub record IsToStep (k : Opening) (me : Mine) (want : Want) : Type 0 where
  pub own : ℕ
  pub victim : ℕ
  pub does : Does k own (Step victim) me want
  pub asked : IsAsked want

-- only a load finds a word
abbrev pub IsFound : Want → ℕ → Type 0
IsFound (Loads at) found = Unit {0}
IsFound want found = found ≡ 0

-- a seat is of a table whose words are those of a shape, after the padding
abbrev pub IsAtTable : (seat table : TableId) → Opening → Shape → Type 0
IsAtTable seat table k s = (seat ≡ table) × (k.shape ≡ s) × (padding + word_count s ≤ table.words)

-- and whose code is this
abbrev pub IsAtCode : (seat table : TableId) → Opening → Shape → CodeParts → Type 0
IsAtCode seat table k s code = (seat ≡ table) × (k.shape ≡ s) × (k.code ≡ code) × (padding + word_count s ≤ table.words)
