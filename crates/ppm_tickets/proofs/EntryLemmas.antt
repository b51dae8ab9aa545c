-- Entries change lawfully along a run, with either takeover.
use Rattle.std.proofs.Common.{◌≡◌, ◌≢◌, ◌⊎◌, ◌<◌, ◌==◌, ℕ, zero, suc, List, [], ◌∷◌, Bool, true, false, if◌then◌else◌, Option, Some, None, inl, inr, refl, sym, ap, ◌∙◌, subst, arith, slice_index, slice_set, eqb-true}
use Rattle.std.specs.Prelude.{nat_lt, slice_get}
use Rattle.std.proofs.lemmas.Bool.{ltb-true, cases_eq}
use Rattle.ppm_cells.specs.Cells.{address, IsCell}
use Rattle.ppm_cells.specs.Entry.{entry_word, entry_of, IsEntry}
use Rattle.ppm_cells.specs.Fields.{Fit}
use Rattle.ppm_cells.specs.Memory.{read, write as store, AreWordsOf}
use Rattle.ppm_cells.specs.Restart.{address_fields}
use Rattle.ppm_cells.specs.declared.cell.Cell.{Cell}
use Rattle.ppm_cells.specs.declared.cell.Cell.TheVariants.{FinishWord, CarryWord, DeadWord, RestartWord, MessageWord, HolderWord, Top, RoomCounter, EntryWord, BlockWord, ArrayWord}
use Rattle.ppm_cells.specs.declared.restart.Restart.{Restart}
use Rattle.ppm_cells.specs.declared.restart.RestartKind.{RestartKind}
use Rattle.ppm_cells.specs.declared.restart.RestartKind.TheVariants.{Run}
use Rattle.ppm_cells.specs.declared.shape.Shape.{Shape}
use Rattle.ppm_cells.proofs.EntryLemmas.{entries_exact}
use Rattle.ppm_cells.proofs.ExactLemmas.{unpack-pack}
use Rattle.ppm_cells.proofs.MemoryLemmas.{read_back, others}
use Rattle.ppm_code.specs.Capsules.{capsule_of}
use Rattle.ppm_code.specs.declared.code.Capsule.{Capsule}
use Rattle.ppm_code.specs.declared.code.CodeParts.{CodeParts}
use Rattle.ppm_step.specs.Contents.{content_of, word_of}
use Rattle.ppm_step.specs.Frames.{Rest, Loads, Stores, Full, Installs, Breaks, rest_of}
use Rattle.ppm_step.specs.Points.{reading_at}
use Rattle.ppm_step.specs.Rows.{found_at, row_of}
use Rattle.ppm_step.specs.Standings.{Standing, IsLost, IsPlaced, IsAt, IsWithin, IsRunning, IsBroken, IsDone, unknown_place, row_is_there, rest_is_there, within_if, running_if, enters, stands, begins_if, placed, at_finish, went_row, went_rest, went, wanted_row, wanted_rest, wanted}
use Rattle.ppm_step.specs.State.{State, stand_in, stand_of, found_in, words_after, want_of, stand_after, acts, happens, after, opening}
use Rattle.ppm_step.specs.There.{restart_is_there, is_there}
use Rattle.ppm_step.specs.declared.ask.Want.{Want}
use Rattle.ppm_step.specs.declared.ask.Want.TheVariants.{Exchanges as WantsExchange}
use Rattle.ppm_step.specs.declared.content.Content.{Content}
use Rattle.ppm_step.specs.declared.content.Content.TheVariants.{AnEntry}
use Rattle.ppm_step.specs.declared.row.Row.{Row}
use Rattle.ppm_step.specs.declared.row.Row.TheVariants.{Now, Store, Exchange}
use Rattle.ppm_step.specs.declared.row.Seat.{Seat}
use Rattle.ppm_step.specs.declared.row.Then.TheVariants.{Load, Install, Fork, Begin, Move, Enter, Again, Broken}
use Rattle.ppm_step.specs.declared.turn.Act.{Act}
use Rattle.ppm_step.specs.declared.turn.Act.TheVariants.{Step, Soft, Hard, Quit}
use Rattle.ppm_step.specs.declared.turn.Turn.{Turn}
use Rattle.ppm_step.proofs.ContentLemmas.{content_fits}
use Rattle.ppm_step.proofs.ThereLemmas.{addressable, restart_fits}
use Rattle.ppm_step.proofs.WordLemmas.{length_stays}
use Rattle.ppm_tickets.specs.Along.{IsPooled}
use Rattle.ppm_tickets.specs.Entries.{IsPooledAt, IsPooledBy, Changed, EntriesChangeLawfully}
use Rattle.ppm_tickets.specs.Saw.{IsModest, IsQuietCell}
use Rattle.ppm_tickets.proofs.WalkLemmas.{Walk, FairRow, found_fair, begun_fair}
use Rattle.ppm_cells.specs.DequeChange.{Changes}
use Rattle.ppm_cells.specs.declared.shape.Takeover.{Takeover}
use Rattle.ppm_tickets.proofs.StepLemmas.{stand_other, stand_own}
use Rattle.ppm_cells.proofs.CellLemmas.{few_words}
use Rattle.ppm_tickets.proofs.QuietLemmas.{rest_modest}
use Rattle.ppm_tickets.proofs.Theorem.{lost_or}

abbrev pub IsNoEntry : Cell → Type 0
IsNoEntry (EntryWord v i) = ⊥
IsNoEntry _ = Unit {0}

-- an entry is changed lawfully, and what is written fits
abbrev pub MayChange : Takeover → Cell → (old new : Content) → Type 0
MayChange how (EntryWord v i) (AnEntry a) (AnEntry b) = Changes how a b × IsEntry a × IsEntry b
MayChange how (EntryWord v i) _ _ = ⊥
MayChange how _ _ _ = Unit {0}

abbrev Puts : Cell → Content → Type 0
Puts c x = IsNoEntry c

walk : (how : Takeover) (seat : Seat) → Walk how Puts (MayChange how) seat
walk how seat = record {
  counter = λ x. tt;
  block = λ a x. tt;
  message = λ x. tt;
  finish = λ x y. tt;
  order = λ a x y. tt;
  top = λ v x y. tt;
  entry = λ v i a b law f g. (law, f, g);
  holder = λ e v x y. tt;
}

entry_or : (c : Cell) → ((a : ℕ) × (j : ℕ) × (c ≡ EntryWord a j)) ⊎ IsNoEntry c
entry_or (EntryWord a j) = inl (a, j, refl)
entry_or _ = inr tt

quiet_no : (c : Cell) → IsQuietCell c → IsNoEntry c
quiet_no FinishWord q = tt
quiet_no (RoomCounter a) q = tt
quiet_no (BlockWord a) q = tt
quiet_no (ArrayWord a) q = tt
quiet_no _ q = absurd q

module _ (s : Shape) (code : CodeParts) where
  pub cell_there : (c : Cell) → is_there s c ≡ true → IsPooled s c → IsCell s c
  cell_there (BlockWord a) h kept = kept
  cell_there FinishWord h kept = addressable s FinishWord h
  cell_there (CarryWord a) h kept = addressable s (CarryWord a) h
  cell_there (DeadWord a) h kept = addressable s (DeadWord a) h
  cell_there (RestartWord a) h kept = addressable s (RestartWord a) h
  cell_there (MessageWord a) h kept = addressable s (MessageWord a) h
  cell_there (HolderWord a) h kept = addressable s (HolderWord a) h
  cell_there (Top a) h kept = addressable s (Top a) h
  cell_there (RoomCounter a) h kept = addressable s (RoomCounter a) h
  cell_there (EntryWord a j) h kept = addressable s (EntryWord a j) h
  cell_there (ArrayWord a) h kept = addressable s (ArrayWord a) h

  -- one entry over a step
  module _ (words : List ℕ) (fit : AreWordsOf s words) (v i : ℕ) (place : v < s.processors) (slot : i < s.slots) where
    abbrev Goes : List ℕ → Type 0
    Goes now = (read s now (EntryWord v i) ≡ read s words (EntryWord v i)) ⊎ Changed s.takeover (read s words (EntryWord v i)) (read s now (EntryWord v i))

    elsewhere : (c : Cell) (w : ℕ) → IsCell s c → EntryWord v i ≢ c → Goes (store s words c w)
    elsewhere c w is ne = inl (others s words c (EntryWord v i) w is (place, slot) ne)

    stored : (c : Cell) (w : ℕ) → IsCell s c → IsNoEntry c → Goes (store s words c w)
    stored c w is free = elsewhere c w is (λ e. subst IsNoEntry (sym e) free)

    changed_here : (old new : Content) → MayChange s.takeover (EntryWord v i) old new → read s words (EntryWord v i) ≡ word_of old → Goes (store s words (EntryWord v i) (word_of new))
    changed_here (AnEntry a) (AnEntry b) may e =
        let back = read_back s words (EntryWord v i) (entry_word b) fit (place, slot) in
        inr record {
          before = a;
          now = b;
          is_before = ap entry_of e ∙ unpack-pack entry_word IsEntry entry_of entries_exact a may.1;
          is_now = ap entry_of back ∙ unpack-pack entry_word IsEntry entry_of entries_exact b may.2;
          lawful = may.0;
        }
    changed_here _ _ may e = absurd may

    made : (c : Cell) (old new : Content) → MayChange s.takeover c old new → IsCell s c → read s words c ≡ word_of old → Goes (store s words c (word_of new))
    made c old new may is e = elim (entry_or c) [
      | inr free ↦ stored c (word_of new) is free
      | inl at ↦ elim (cases_eq at.0 v) [
        | inr ne ↦ elsewhere c (word_of new) is (λ k. ne (let same : EntryWord v i ≡ EntryWord at.0 at.1 = k ∙ at.2 in cc))
        | inl ev ↦ elim (cases_eq at.1 i) [
          | inr ne ↦ elsewhere c (word_of new) is (λ k. ne (let same : EntryWord v i ≡ EntryWord at.0 at.1 = k ∙ at.2 in cc))
          | inl ei ↦
              let here : EntryWord v i ≡ c = (λ j. EntryWord (sym ev j) (sym ei j)) ∙ sym at.2 in
              subst (λ (x : Cell). MayChange s.takeover x old new → read s words x ≡ word_of old → Goes (store s words x (word_of new))) here (changed_here old new) may e
        ]
      ]
    ]

    exchanged : (c : Cell) (old new : Content) → MayChange s.takeover c old new → IsCell s c → Goes (words_after words (WantsExchange (address s c) (word_of old) (word_of new)))
    exchanged c old new may is = by (read s words c == word_of old) refl
      where
        by : (y : Bool) → (read s words c == word_of old) ≡ y → Goes (if y then store s words c (word_of new) else words)
        by true e = made c old new may is (eqb-true (read s words c) (word_of old) e)
        by false e = inl refl

    finished : (w : ℕ) → Goes (words_after words (WantsExchange 0 0 w))
    finished w = by (slice_index words 0 == 0)
      where
        by : (y : Bool) → Goes (if y then slice_set words 0 w else words)
        by true = stored FinishWord w tt tt
        by false = inl refl

  -- where processors stand
  abbrev pub Fair : (o : ℕ) → Standing → Type 0
  Fair o IsLost = o < s.processors
  Fair o (IsPlaced p) = (o < s.processors) × (p < s.processors)
  Fair o (IsAt p r) = (o < s.processors) × (p < s.processors)
  Fair o (IsWithin seat row) = (o < s.processors) × (seat.place < s.processors) × (seat.own ≡ o) × FairRow s.takeover Puts (MayChange s.takeover) row × (row_is_there s seat row ≡ true)
  Fair o (IsRunning seat rest) = (o < s.processors) × (seat.place < s.processors) × (seat.own ≡ o) × IsModest rest × (rest_is_there s seat rest ≡ true)
  Fair o (IsBroken p) = o < s.processors
  Fair o IsDone = Unit {0}

  module _ (o : ℕ) (there : o < s.processors) where
    module _ (seat : Seat) (place : seat.place < s.processors) (own : seat.own ≡ o) where
      within_fair : (row : Row) → FairRow s.takeover Puts (MayChange s.takeover) row → (y : Bool) → row_is_there s seat row ≡ y → Fair o (within_if seat row y)
      within_fair row f true e = (there, place, own, f, e)
      within_fair row f false e = there

      running_fair : (rest : Rest) → IsModest rest → (y : Bool) → rest_is_there s seat rest ≡ y → Fair o (running_if seat rest y)
      running_fair rest f true e = (there, place, own, f, e)
      running_fair rest f false e = there

      entered : (kind : RestartKind) (c : Option Capsule) → Fair o (enters s code seat kind c)
      entered (Run frame copy) (Some capsule) =
          let rest : Rest = rest_of s code seat.place (record { frame = frame; copy = copy; block = 0 }) (capsule_of s.arrays capsule.instrs) in
          running_fair rest (rest_modest s code seat.place (record { frame = frame; copy = copy; block = 0 }) (capsule_of s.arrays capsule.instrs)) (rest_is_there s seat rest) refl
      entered (Run frame copy) None = there
      entered _ c = there

      stands_fair : (row : Row) → FairRow s.takeover Puts (MayChange s.takeover) row → Fair o (stands s code seat row)
      stands_fair (Now (Load x)) f = within_fair (Now (Load x)) f (row_is_there s seat (Now (Load x))) refl
      stands_fair (Now (Install x)) f = within_fair (Now (Install x)) f (row_is_there s seat (Now (Install x))) refl
      stands_fair (Now (Fork x)) f = within_fair (Now (Fork x)) f (row_is_there s seat (Now (Fork x))) refl
      stands_fair (Now (Begin x y z)) f = within_fair (Now (Begin x y z)) f (row_is_there s seat (Now (Begin x y z))) refl
      stands_fair (Now (Move x)) f = within_fair (Now (Move x)) f (row_is_there s seat (Now (Move x))) refl
      stands_fair (Now (Enter x)) f = entered seat.restart.kind (slice_get code.capsules x)
      stands_fair (Now Again) f = (there, place)
      stands_fair (Now Broken) f = within_fair (Now Broken) f (row_is_there s seat (Now Broken)) refl
      stands_fair (Store c x next) f = within_fair (Store c x next) f (row_is_there s seat (Store c x next)) refl
      stands_fair (Exchange c x y next) f = within_fair (Exchange c x y next) f (row_is_there s seat (Exchange c x y next)) refl

      small : seat.place < 64
      small = omega (arith, place, s.within.processors_most)

      row_fair : (u found : ℕ) (row : Row) → FairRow s.takeover Puts (MayChange s.takeover) row → row_is_there s seat row ≡ true → Fair o (went_row s code seat u found row)
      row_fair u found (Now (Load point)) f e = stands_fair (found_at s seat u point (content_of (reading_at point) found))
          (found_fair s Puts (MayChange s.takeover) seat (walk s.takeover seat) small u point (content_of (reading_at point) found) f (content_fits (reading_at point) found))
      row_fair u found (Now (Install x)) f e = (there, place)
      row_fair u found (Now (Fork x)) f e = (there, place)
      row_fair u found (Now (Begin x y z)) f e = (there, place)
      row_fair u found (Now (Move x)) f e = (there, ltb-true x s.processors e)
      row_fair u found (Now (Enter x)) f e = stands_fair (Now (Enter x)) f
      row_fair u found (Now Again) f e = (there, place)
      row_fair u found (Now Broken) f e = stands_fair (Now Broken) f
      row_fair u found (Store c x next) f e = stands_fair (Now next) f.1
      row_fair u found (Exchange c x y next) f e = stands_fair (Now next) f.1

      rest_fair : (found : ℕ) (rest : Rest) → IsModest rest → Fair o (went_rest s seat found rest)
      rest_fair found (Loads cell go) f = running_fair (go found) (f found) (rest_is_there s seat (go found)) refl
      rest_fair found (Stores cell content rest) f = running_fair rest f.1 (rest_is_there s seat rest) refl
      rest_fair found Full f = (there, place)
      rest_fair found (Installs kind) f = (there, place)
      rest_fair found Breaks f = there

    placed_fair : (found : ℕ) → Fair o (placed s found)
    placed_fair found = by (nat_lt found s.processors) refl
      where
        by : (y : Bool) → nat_lt found s.processors ≡ y → Fair o (if y then IsPlaced found else IsBroken unknown_place)
        by true e = (there, ltb-true found s.processors e)
        by false e = there

    finish_fair : (p : ℕ) → p < s.processors → (r : Option Restart) (found : ℕ) → Fair o (at_finish s code o p r found)
    finish_fair p place r (suc found) = tt
    finish_fair p place None zero = there
    finish_fair p place (Some r) zero = by (restart_is_there s r) refl
      where
        by : (y : Bool) → restart_is_there s r ≡ y → Fair o (begins_if s code (record { own = o; place = p; restart = r }) y)
        by true e = stands_fair (record { own = o; place = p; restart = r }) place refl (row_of s (record { own = o; place = p; restart = r }) r.kind)
            (begun_fair s Puts (MayChange s.takeover) (record { own = o; place = p; restart = r }) (walk s.takeover (record { own = o; place = p; restart = r })) (omega (arith, place, s.within.processors_most)) r.kind
            (λ block k. (subst (λ (x : RestartKind). Fit (address_fields x)) k (restart_fits s (few_words s) r e).0).0))
        by false e = there

  step_fair : (o u found : ℕ) (x : Standing) → Fair o x → Fair o (went s code o u found x)
  step_fair o u found IsLost f = placed_fair o f found
  step_fair o u found (IsPlaced p) f = f
  step_fair o u found (IsAt p r) f = finish_fair o f.0 p f.1 r found
  step_fair o u found (IsWithin seat row) f = row_fair o f.0 seat f.1 f.2 u found row f.3 f.4
  step_fair o u found (IsRunning seat rest) f = rest_fair o f.0 seat f.1 f.2 found rest f.3
  step_fair o u found (IsBroken p) f = tt
  step_fair o u found IsDone f = tt

  -- an act
  lost_fair : (o : ℕ) (x : Standing) → x ≢ IsDone → Fair o x → o < s.processors
  lost_fair o IsLost ne f = f
  lost_fair o (IsPlaced p) ne f = f.0
  lost_fair o (IsAt p r) ne f = f.0
  lost_fair o (IsWithin seat row) ne f = f.0
  lost_fair o (IsRunning seat rest) ne f = f.0
  lost_fair o (IsBroken p) ne f = f
  lost_fair o IsDone ne f = absurd (ne refl)

  after_fair : (o : ℕ) (act : Act) (found : ℕ) (x : Standing) → x ≢ IsDone → Fair o x → Fair o (stand_after s code o act found x)
  after_fair o (Step u) found x ne f = step_fair o u found x f
  after_fair o Soft found x ne f = lost_fair o x ne f
  after_fair o Hard found x ne f = tt
  after_fair o (Quit why) found x ne f = lost_fair o x ne f

  module _ (words : List ℕ) (fit : AreWordsOf s words) (v i : ℕ) (place : v < s.processors) (slot : i < s.slots) where
    row_goes : (seat : Seat) (u : ℕ) → seat.place < s.processors → seat.own < s.processors → (row : Row) → FairRow s.takeover Puts (MayChange s.takeover) row → row_is_there s seat row ≡ true → IsPooledAt s (IsWithin seat row)
        → Goes words fit v i place slot (words_after words (wanted_row s seat u row))
    row_goes seat u p q (Now (Load x)) f e kept = inl refl
    row_goes seat u p q (Now (Install x)) f e kept = stored words fit v i place slot (RestartWord seat.place) _ p tt
    row_goes seat u p q (Now (Fork x)) f e kept = stored words fit v i place slot (RestartWord seat.place) _ p tt
    row_goes seat u p q (Now (Begin x y z)) f e kept = stored words fit v i place slot (RestartWord seat.place) _ p tt
    row_goes seat u p q (Now (Move x)) f e kept = stored words fit v i place slot (CarryWord seat.own) x q tt
    row_goes seat u p q (Now (Enter x)) f e kept = inl refl
    row_goes seat u p q (Now Again) f e kept = inl refl
    row_goes seat u p q (Now Broken) f e kept = inl refl
    row_goes seat u p q (Store c x next) f e kept = stored words fit v i place slot c (word_of x) (cell_there c e kept) f.0
    row_goes seat u p q (Exchange c x y next) f e kept = exchanged words fit v i place slot c x y f.0 (cell_there c e kept)

    rest_goes : (seat : Seat) → seat.place < s.processors → (rest : Rest) → IsModest rest → rest_is_there s seat rest ≡ true → IsPooledAt s (IsRunning seat rest)
        → Goes words fit v i place slot (words_after words (wanted_rest s seat rest))
    rest_goes seat p (Loads cell go) f e kept = inl refl
    rest_goes seat p (Stores cell content rest) f e kept = stored words fit v i place slot cell (word_of content) (cell_there cell e kept) (quiet_no cell f.0)
    rest_goes seat p Full f e kept = finished words fit v i place slot _
    rest_goes seat p (Installs kind) f e kept = stored words fit v i place slot (RestartWord seat.place) _ p tt
    rest_goes seat p Breaks f e kept = inl refl

    step_goes : (o u : ℕ) (x : Standing) → Fair o x → IsPooledAt s x → Goes words fit v i place slot (words_after words (wanted s o u x))
    step_goes o u IsLost f kept = inl refl
    step_goes o u (IsPlaced p) f kept = inl refl
    step_goes o u (IsAt p r) f kept = inl refl
    step_goes o u (IsWithin seat row) f kept = row_goes seat u f.1 (subst (λ (x : ℕ). x < s.processors) (sym f.2) f.0) row f.3 f.4 kept
    step_goes o u (IsRunning seat rest) f kept = rest_goes seat f.1 rest f.3 f.4 kept
    step_goes o u (IsBroken p) f kept = finished words fit v i place slot _
    step_goes o u IsDone f kept = inl refl

    act_goes : (o : ℕ) (act : Act) (x : Standing) → x ≢ IsDone → Fair o x → IsPooledBy s act x → Goes words fit v i place slot (words_after words (want_of s code o act x))
    act_goes o (Step u) x ne f kept = step_goes o u x f kept
    act_goes o Soft x ne f kept = inl refl
    act_goes o Hard x ne f kept = stored words fit v i place slot (DeadWord o) 1 (lost_fair o x ne f) tt
    act_goes o (Quit why) x ne f kept = finished words fit v i place slot _

  -- a turn
  abbrev pub AllFair : State → Type 0
  AllFair state = AreWordsOf s state.words × ((o : ℕ) → Fair o (stand_of state o))

  abbrev acted : State → (o : ℕ) → Act → Standing → State
  acted state o act x =
      let want = want_of s code o act x in
      record { words = words_after state.words want; stand = slice_set state.stand o (stand_after s code o act (found_in state.words want) x) }

  acts_live : (state : State) (o : ℕ) (act : Act) (x : Standing) → x ≢ IsDone → acts s code state o act x ≡ acted state o act x
  acts_live state o act IsLost ne = refl
  acts_live state o act (IsPlaced p) ne = refl
  acts_live state o act (IsAt p r) ne = refl
  acts_live state o act (IsWithin seat row) ne = refl
  acts_live state o act (IsRunning seat rest) ne = refl
  acts_live state o act (IsBroken p) ne = refl
  acts_live state o act IsDone ne = absurd (ne refl)

  done_or : (x : Standing) → (x ≡ IsDone) ⊎ (x ≢ IsDone)
  done_or IsDone = inl refl
  done_or _ = inr (λ e. cc)

  turn_fair : (state : State) (turn : Turn) → AllFair state → AllFair (happens s code state turn)
  turn_fair state turn all = elim (done_or (stand_of state turn.processor)) [
    | inl e ↦ subst AllFair (sym (ap (acts s code state turn.processor turn.act) e)) all
    | inr ne ↦
        let o : ℕ = turn.processor in
        let x : Standing = stand_of state o in
        let want : Want = want_of s code o turn.act x in
        let next : Standing = stand_after s code o turn.act (found_in state.words want) x in
        subst AllFair (sym (acts_live state o turn.act x ne)) (
          length_stays state.words want ∙ all.0,
          λ d. elim (cases_eq d o) [
            | inl e ↦ subst (λ (y : ℕ). Fair y (stand_in (slice_get (slice_set state.stand o next) y))) (sym e)
                (subst (Fair o) (sym (stand_own state.stand o next ne)) (after_fair o turn.act (found_in state.words want) x ne (all.1 o)))
            | inr other ↦ subst (Fair d) (sym (stand_other state.stand o d next other)) (all.1 d)
          ],
        )
  ]

  run_fair : (turns : List Turn) (state : State) → AllFair state → AllFair (after s code state turns)
  run_fair [] state all = all
  run_fair (turn ∷ turns) state all = run_fair turns (happens s code state turn) (turn_fair state turn all)

  turn_goes : (state : State) (turn : Turn) → (all : AllFair state) → IsPooledBy s turn.act (stand_of state turn.processor) → (v i : ℕ) → v < s.processors → i < s.slots
      → (read s (happens s code state turn).words (EntryWord v i) ≡ read s state.words (EntryWord v i))
      ⊎ Changed s.takeover (read s state.words (EntryWord v i)) (read s (happens s code state turn).words (EntryWord v i))
  turn_goes state turn all kept v i place slot = elim (done_or (stand_of state turn.processor)) [
    | inl e ↦ inl (ap (λ (x : State). read s x.words (EntryWord v i)) (ap (acts s code state turn.processor turn.act) e))
    | inr ne ↦ subst (λ (x : State). (read s x.words (EntryWord v i) ≡ read s state.words (EntryWord v i)) ⊎ Changed s.takeover (read s state.words (EntryWord v i)) (read s x.words (EntryWord v i)))
        (sym (acts_live state turn.processor turn.act (stand_of state turn.processor) ne))
        (act_goes state.words all.0 v i place slot turn.processor turn.act (stand_of state turn.processor) ne (all.1 turn.processor) kept)
  ]

  opening_fair : (ws : List ℕ) → AreWordsOf s ws → AllFair (opening ws s.processors)
  opening_fair ws fit = (
    fit,
    λ o. elim (lost_or s.processors o) [ inl a ↦ subst (Fair o) (sym a.0) a.1 | inr e ↦ subst (Fair o) (sym e) tt ],
  )

  pub entries_change_lawfully : EntriesChangeLawfully s code
  entries_change_lawfully ws turns turn fit kept v i place slot =
      turn_goes (after s code (opening ws s.processors) turns) turn (run_fair turns (opening ws s.processors) (opening_fair ws fit)) kept v i place slot
