-- With takeover by entries processors stay at their places.
use Rattle.std.proofs.Common.{◌≡◌, ◌≢◌, ◌⊎◌, ◌<◌, ◌==◌, ℕ, zero, suc, List, [], ◌∷◌, Bool, true, false, if◌then◌else◌, Option, Some, None, inl, inr, refl, sym, ap, ◌∙◌, subst, arith, slice_index, slice_set}
use Rattle.std.specs.Prelude.{nat_lt, slice_get}
use Rattle.std.proofs.lemmas.Bool.{cases_eq}
use Rattle.ppm_cells.specs.Cells.{address, IsCell}
use Rattle.ppm_cells.specs.Fields.{Fit}
use Rattle.ppm_cells.specs.Memory.{read, write as store, AreWordsOf}
use Rattle.ppm_cells.specs.Restart.{address_fields}
use Rattle.ppm_cells.specs.declared.cell.Cell.{Cell}
use Rattle.ppm_cells.specs.declared.cell.Cell.TheVariants.{FinishWord, CarryWord, DeadWord, RestartWord, MessageWord, HolderWord, RoomCounter, BlockWord, ArrayWord}
use Rattle.ppm_cells.specs.declared.restart.Restart.{Restart}
use Rattle.ppm_cells.specs.declared.restart.RestartKind.{RestartKind}
use Rattle.ppm_cells.specs.declared.restart.RestartKind.TheVariants.{Run}
use Rattle.ppm_cells.specs.declared.shape.Shape.{Shape}
use Rattle.ppm_cells.proofs.MemoryLemmas.{others}
use Rattle.ppm_code.specs.Capsules.{capsule_of}
use Rattle.ppm_code.specs.declared.code.Capsule.{Capsule}
use Rattle.ppm_code.specs.declared.code.CodeParts.{CodeParts}
use Rattle.ppm_step.specs.Contents.{content_of, word_of}
use Rattle.ppm_step.specs.Frames.{Rest, Loads, Stores, Full, Installs, Breaks, rest_of}
use Rattle.ppm_step.specs.Points.{reading_at}
use Rattle.ppm_step.specs.Rows.{found_at, row_of}
use Rattle.ppm_step.specs.Standings.{Standing, IsLost, IsPlaced, IsAt, IsWithin, IsRunning, IsBroken, IsDone, unknown_place, row_is_there, rest_is_there, within_if, running_if, enters, stands, begins_if, placed, at_finish, went_row, went_rest, went, wanted_row, wanted_rest, wanted}
use Rattle.ppm_step.specs.State.{State, stand_in, stand_of, found_in, words_after, want_of, stand_after, acts, happens, after, opening}
use Rattle.ppm_step.specs.There.{restart_is_there}
use Rattle.ppm_step.specs.declared.ask.Want.{Want}
use Rattle.ppm_step.specs.declared.ask.Want.TheVariants.{Exchanges as WantsExchange}
use Rattle.ppm_step.specs.declared.content.Content.{Content}
use Rattle.ppm_step.specs.declared.row.Row.{Row}
use Rattle.ppm_step.specs.declared.row.Row.TheVariants.{Now, Store, Exchange}
use Rattle.ppm_step.specs.declared.row.Seat.{Seat}
use Rattle.ppm_step.specs.declared.row.Then.TheVariants.{Load, Install, Fork, Begin, Move, Enter, Again, Broken}
use Rattle.ppm_step.specs.declared.turn.Act.{Act}
use Rattle.ppm_step.specs.declared.turn.Act.TheVariants.{Step, Soft, Hard, Quit}
use Rattle.ppm_step.specs.declared.turn.Turn.{Turn}
use Rattle.ppm_step.proofs.ContentLemmas.{content_fits}
use Rattle.ppm_step.proofs.ThereLemmas.{restart_fits}
use Rattle.ppm_step.proofs.WordLemmas.{length_stays}
use Rattle.ppm_tickets.specs.Entries.{IsPooledAt, IsPooledBy, ArePooled, StaysHome, PlacesStayHome}
use Rattle.ppm_tickets.specs.Saw.{IsModest, IsQuietCell}
use Rattle.ppm_tickets.proofs.WalkLemmas.{Walk, FairRow, found_fair, begun_fair}
use Rattle.ppm_cells.specs.declared.shape.Takeover.TheVariants.{ByPlaces, ByEntries}
use Rattle.ppm_tickets.proofs.EntryLemmas.{cell_there}
use Rattle.ppm_tickets.proofs.StepLemmas.{stand_other, stand_own}
use Rattle.ppm_cells.proofs.CellLemmas.{few_words}
use Rattle.ppm_tickets.proofs.QuietLemmas.{rest_modest}
use Rattle.ppm_tickets.proofs.Theorem.{lost_or}

-- the cells that no other processor changes, and those that none does
abbrev IsOwnPut : (o : ℕ) → Cell → Type 0
IsOwnPut o (MessageWord q) = q ≡ o
IsOwnPut o (RestartWord q) = ⊥
IsOwnPut o (CarryWord q) = ⊥
IsOwnPut o (HolderWord q) = ⊥
IsOwnPut o (DeadWord q) = ⊥
IsOwnPut o _ = Unit {0}

abbrev Puts : (o : ℕ) → Cell → Content → Type 0
Puts o c x = IsOwnPut o c

abbrev IsOwnTry : Cell → Type 0
IsOwnTry (MessageWord q) = ⊥
IsOwnTry (RestartWord q) = ⊥
IsOwnTry (CarryWord q) = ⊥
IsOwnTry (HolderWord q) = ⊥
IsOwnTry (DeadWord q) = ⊥
IsOwnTry _ = Unit {0}

abbrev Trys : Cell → (old new : Content) → Type 0
Trys c old new = IsOwnTry c

-- not written by processor o
abbrev IsOther : (o : ℕ) → Cell → Type 0
IsOther o (MessageWord q) = q ≢ o
IsOther o (RestartWord q) = q ≢ o
IsOther o (CarryWord q) = Unit {0}
IsOther o (HolderWord q) = Unit {0}
IsOther o _ = ⊥

not_put : (o : ℕ) (d : Cell) → IsOther o d → IsOwnPut o d → ⊥
not_put o (MessageWord q) other own = other own
not_put o (RestartWord q) other own = own
not_put o (CarryWord q) other own = own
not_put o (HolderWord q) other own = own
not_put o _ other own = other

not_tried : (o : ℕ) (d : Cell) → IsOther o d → IsOwnTry d → ⊥
not_tried o (MessageWord q) other own = own
not_tried o (RestartWord q) other own = own
not_tried o (CarryWord q) other own = own
not_tried o (HolderWord q) other own = own
not_tried o _ other own = other

quiet_own : (o : ℕ) (c : Cell) → IsQuietCell c → IsOwnPut o c
quiet_own o FinishWord q = tt
quiet_own o (RoomCounter a) q = tt
quiet_own o (BlockWord a) q = tt
quiet_own o (ArrayWord a) q = tt
quiet_own o _ q = absurd q

not_restart : (o : ℕ) (d : Cell) → IsOther o d → d ≢ RestartWord o
not_restart o (RestartWord q) other e = other (cc)
not_restart o (MessageWord q) other e = cc
not_restart o (CarryWord q) other e = cc
not_restart o (HolderWord q) other e = cc
not_restart o _ other e = other

not_dead : (o : ℕ) (d : Cell) → IsOther o d → d ≢ DeadWord o
not_dead o (RestartWord q) other e = cc
not_dead o (MessageWord q) other e = cc
not_dead o (CarryWord q) other e = cc
not_dead o (HolderWord q) other e = cc
not_dead o _ other e = other

module _ (s : Shape) (code : CodeParts) (entries : s.takeover ≡ ByEntries) where
  not_places : s.takeover ≡ ByPlaces → ⊥
  not_places e = let k : ByPlaces ≡ ByEntries = sym e ∙ entries in cc

  walk : (o : ℕ) (seat : Seat) → seat.place ≡ o → Walk s.takeover (Puts o) Trys seat
  walk o seat e = record {
    counter = λ x. tt;
    block = λ a x. tt;
    message = λ x. e;
    finish = λ x y. tt;
    order = λ a x y. tt;
    top = λ v x y. tt;
    entry = λ v i a b law f g. tt;
    holder = λ e v x y. absurd (not_places e);
  }

  -- where processors stand
  abbrev pub Fair : (o : ℕ) → Standing → Type 0
  Fair o IsLost = o < s.processors
  Fair o (IsPlaced p) = (o < s.processors) × (p ≡ o)
  Fair o (IsAt p r) = (o < s.processors) × (p ≡ o)
  Fair o (IsWithin seat row) = (o < s.processors) × (seat.place ≡ o) × FairRow s.takeover (Puts o) (Trys) row × (row_is_there s seat row ≡ true)
  Fair o (IsRunning seat rest) = (o < s.processors) × (seat.place ≡ o) × IsModest rest × (rest_is_there s seat rest ≡ true)
  Fair o (IsBroken p) = o < s.processors
  Fair o IsDone = Unit {0}

  module _ (o : ℕ) (there : o < s.processors) where
    module _ (seat : Seat) (place : seat.place ≡ o) where
      within_fair : (row : Row) → FairRow s.takeover (Puts o) (Trys) row → (y : Bool) → row_is_there s seat row ≡ y → Fair o (within_if seat row y)
      within_fair row f true e = (there, place, f, e)
      within_fair row f false e = there

      running_fair : (rest : Rest) → IsModest rest → (y : Bool) → rest_is_there s seat rest ≡ y → Fair o (running_if seat rest y)
      running_fair rest f true e = (there, place, f, e)
      running_fair rest f false e = there

      entered : (kind : RestartKind) (c : Option Capsule) → Fair o (enters s code seat kind c)
      entered (Run frame copy) (Some capsule) =
          let rest : Rest = rest_of s code seat.place (record { frame = frame; copy = copy; block = 0 }) (capsule_of s.arrays capsule.instrs) in
          running_fair rest (rest_modest s code seat.place (record { frame = frame; copy = copy; block = 0 }) (capsule_of s.arrays capsule.instrs)) (rest_is_there s seat rest) refl
      entered (Run frame copy) None = there
      entered _ c = there

      stands_fair : (row : Row) → FairRow s.takeover (Puts o) (Trys) row → Fair o (stands s code seat row)
      stands_fair (Now (Load x)) f = within_fair (Now (Load x)) f (row_is_there s seat (Now (Load x))) refl
      stands_fair (Now (Install x)) f = within_fair (Now (Install x)) f (row_is_there s seat (Now (Install x))) refl
      stands_fair (Now (Fork x)) f = within_fair (Now (Fork x)) f (row_is_there s seat (Now (Fork x))) refl
      stands_fair (Now (Begin x y z)) f = within_fair (Now (Begin x y z)) f (row_is_there s seat (Now (Begin x y z))) refl
      stands_fair (Now (Move x)) f = within_fair (Now (Move x)) f (row_is_there s seat (Now (Move x))) refl
      stands_fair (Now (Enter x)) f = entered seat.restart.kind (slice_get code.capsules x)
      stands_fair (Now Again) f = (there, place)
      stands_fair (Now Broken) f = within_fair (Now Broken) f (row_is_there s seat (Now Broken)) refl
      stands_fair (Store c x next) f = within_fair (Store c x next) f (row_is_there s seat (Store c x next)) refl
      stands_fair (Exchange c x y next) f = within_fair (Exchange c x y next) f (row_is_there s seat (Exchange c x y next)) refl

      small : seat.place < 64
      small = omega (arith, place, there, s.within.processors_most)

      row_fair : (u found : ℕ) (row : Row) → FairRow s.takeover (Puts o) (Trys) row → row_is_there s seat row ≡ true → Fair o (went_row s code seat u found row)
      row_fair u found (Now (Load point)) f e = stands_fair (found_at s seat u point (content_of (reading_at point) found))
          (found_fair s (Puts o) Trys seat (walk o seat place) small u point (content_of (reading_at point) found) f (content_fits (reading_at point) found))
      row_fair u found (Now (Install x)) f e = (there, place)
      row_fair u found (Now (Fork x)) f e = (there, place)
      row_fair u found (Now (Begin x y z)) f e = (there, place)
      row_fair u found (Now (Move x)) f e = absurd (not_places f)
      row_fair u found (Now (Enter x)) f e = stands_fair (Now (Enter x)) f
      row_fair u found (Now Again) f e = (there, place)
      row_fair u found (Now Broken) f e = stands_fair (Now Broken) f
      row_fair u found (Store c x next) f e = stands_fair (Now next) f.1
      row_fair u found (Exchange c x y next) f e = stands_fair (Now next) f.1

      rest_fair : (found : ℕ) (rest : Rest) → IsModest rest → Fair o (went_rest s seat found rest)
      rest_fair found (Loads cell go) f = running_fair (go found) (f found) (rest_is_there s seat (go found)) refl
      rest_fair found (Stores cell content rest) f = running_fair rest f.1 (rest_is_there s seat rest) refl
      rest_fair found Full f = (there, place)
      rest_fair found (Installs kind) f = (there, place)
      rest_fair found Breaks f = there

    placed_fair : (found : ℕ) → found ≡ o → Fair o (placed s found)
    placed_fair found is = by (nat_lt found s.processors) refl
      where
        by : (y : Bool) → nat_lt found s.processors ≡ y → Fair o (if y then IsPlaced found else IsBroken unknown_place)
        by true e = (there, is)
        by false e = there

    finish_fair : (p : ℕ) → p ≡ o → (r : Option Restart) (found : ℕ) → Fair o (at_finish s code o p r found)
    finish_fair p place r (suc found) = tt
    finish_fair p place None zero = there
    finish_fair p place (Some r) zero = by (restart_is_there s r) refl
      where
        by : (y : Bool) → restart_is_there s r ≡ y → Fair o (begins_if s code (record { own = o; place = p; restart = r }) y)
        by true e = stands_fair (record { own = o; place = p; restart = r }) place (row_of s (record { own = o; place = p; restart = r }) r.kind)
            (begun_fair s (Puts o) Trys (record { own = o; place = p; restart = r }) (walk o (record { own = o; place = p; restart = r }) place) (omega (arith, place, there, s.within.processors_most)) r.kind
            (λ block k. (subst (λ (x : RestartKind). Fit (address_fields x)) k (restart_fits s (few_words s) r e).0).0))
        by false e = there

  step_fair : (o u found : ℕ) (x : Standing) → Fair o x → (x ≡ IsLost → found ≡ o) → Fair o (went s code o u found x)
  step_fair o u found IsLost f is = placed_fair o f found (is refl)
  step_fair o u found (IsPlaced p) f is = f
  step_fair o u found (IsAt p r) f is = finish_fair o f.0 p f.1 r found
  step_fair o u found (IsWithin seat row) f is = row_fair o f.0 seat f.1 u found row f.2 f.3
  step_fair o u found (IsRunning seat rest) f is = rest_fair o f.0 seat f.1 found rest f.2
  step_fair o u found (IsBroken p) f is = tt
  step_fair o u found IsDone f is = tt

  lost_fair : (o : ℕ) (x : Standing) → x ≢ IsDone → Fair o x → o < s.processors
  lost_fair o IsLost ne f = f
  lost_fair o (IsPlaced p) ne f = f.0
  lost_fair o (IsAt p r) ne f = f.0
  lost_fair o (IsWithin seat row) ne f = f.0
  lost_fair o (IsRunning seat rest) ne f = f.0
  lost_fair o (IsBroken p) ne f = f
  lost_fair o IsDone ne f = absurd (ne refl)

  found_is : (words : List ℕ) (o u : ℕ) (x : Standing) → read s words (CarryWord o) ≡ o → x ≡ IsLost → found_in words (wanted s o u x) ≡ o
  found_is words o u x carry e = ap (λ (y : Standing). found_in words (wanted s o u y)) e ∙ carry

  after_fair : (words : List ℕ) (o : ℕ) (act : Act) (x : Standing) → x ≢ IsDone → Fair o x → read s words (CarryWord o) ≡ o → Fair o (stand_after s code o act (found_in words (want_of s code o act x)) x)
  after_fair words o (Step u) x ne f carry = step_fair o u (found_in words (wanted s o u x)) x f (found_is words o u x carry)
  after_fair words o Soft x ne f carry = lost_fair o x ne f
  after_fair words o Hard x ne f carry = tt
  after_fair words o (Quit why) x ne f carry = lost_fair o x ne f

  -- a cell over a step of another
  module _ (words : List ℕ) (o : ℕ) (d : Cell) (other : IsOther o d) (is_cell : IsCell s d) where
    abbrev Same : List ℕ → Type 0
    Same now = read s now d ≡ read s words d

    stored : (c : Cell) (w : ℕ) → IsCell s c → d ≢ c → Same (store s words c w)
    stored c w is ne = others s words c d w is is_cell ne

    by_finish : (w : ℕ) → Same (words_after words (WantsExchange 0 0 w))
    by_finish w = by (slice_index words 0 == 0)
      where
        by : (y : Bool) → Same (if y then slice_set words 0 w else words)
        by true = stored FinishWord w tt (λ e. not_put o d other (subst (IsOwnPut o) (sym e) tt))
        by false = refl

    tried : (c : Cell) (old new : Content) → IsOwnTry c → IsCell s c → Same (words_after words (WantsExchange (address s c) (word_of old) (word_of new)))
    tried c old new free is = by (read s words c == word_of old)
      where
        by : (y : Bool) → Same (if y then store s words c (word_of new) else words)
        by true = stored c (word_of new) is (λ e. not_tried o d other (subst IsOwnTry (sym e) free))
        by false = refl

    installed : (seat : Seat) (w : ℕ) → seat.place ≡ o → o < s.processors → Same (store s words (RestartWord seat.place) w)
    installed seat w e there = stored (RestartWord seat.place) w (subst (λ (x : ℕ). x < s.processors) (sym e) there) (λ k. not_restart o d other (k ∙ ap RestartWord e))

    row_same : (seat : Seat) (u : ℕ) → seat.place ≡ o → o < s.processors → (row : Row) → FairRow s.takeover (Puts o) Trys row → row_is_there s seat row ≡ true → IsPooledAt s (IsWithin seat row)
        → Same (words_after words (wanted_row s seat u row))
    row_same seat u e there (Now (Load x)) f h kept = refl
    row_same seat u e there (Now (Install x)) f h kept = installed seat _ e there
    row_same seat u e there (Now (Fork x)) f h kept = installed seat _ e there
    row_same seat u e there (Now (Begin x y z)) f h kept = installed seat _ e there
    row_same seat u e there (Now (Move x)) f h kept = absurd (not_places f)
    row_same seat u e there (Now (Enter x)) f h kept = refl
    row_same seat u e there (Now Again) f h kept = refl
    row_same seat u e there (Now Broken) f h kept = refl
    row_same seat u e there (Store c x next) f h kept = stored c (word_of x) (cell_there s code c h kept) (λ k. not_put o d other (subst (IsOwnPut o) (sym k) f.0))
    row_same seat u e there (Exchange c x y next) f h kept = tried c x y f.0 (cell_there s code c h kept)

    rest_same : (seat : Seat) → seat.place ≡ o → o < s.processors → (rest : Rest) → IsModest rest → rest_is_there s seat rest ≡ true → IsPooledAt s (IsRunning seat rest)
        → Same (words_after words (wanted_rest s seat rest))
    rest_same seat e there (Loads cell go) f h kept = refl
    rest_same seat e there (Stores cell content rest) f h kept =
        stored cell (word_of content) (cell_there s code cell h kept) (λ k. not_put o d other (subst (IsOwnPut o) (sym k) (quiet_own o cell f.0)))
    rest_same seat e there Full f h kept = by_finish _
    rest_same seat e there (Installs kind) f h kept = installed seat _ e there
    rest_same seat e there Breaks f h kept = refl

    step_same : (u : ℕ) (x : Standing) → Fair o x → IsPooledAt s x → Same (words_after words (wanted s o u x))
    step_same u IsLost f kept = refl
    step_same u (IsPlaced p) f kept = refl
    step_same u (IsAt p r) f kept = refl
    step_same u (IsWithin seat row) f kept = row_same seat u f.1 f.0 row f.2 f.3 kept
    step_same u (IsRunning seat rest) f kept = rest_same seat f.1 f.0 rest f.2 f.3 kept
    step_same u (IsBroken p) f kept = by_finish _
    step_same u IsDone f kept = refl

    act_same : (act : Act) (x : Standing) → x ≢ IsDone → Fair o x → IsPooledBy s act x → Same (words_after words (want_of s code o act x))
    act_same (Step u) x ne f kept = step_same u x f kept
    act_same Soft x ne f kept = refl
    act_same Hard x ne f kept = stored (DeadWord o) 1 (lost_fair o x ne f) (not_dead o d other)
    act_same (Quit why) x ne f kept = by_finish _

  abbrev acted : State → (o : ℕ) → Act → Standing → State
  acted state o act x =
      let want = want_of s code o act x in
      record { words = words_after state.words want; stand = slice_set state.stand o (stand_after s code o act (found_in state.words want) x) }

  acts_live : (state : State) (o : ℕ) (act : Act) (x : Standing) → x ≢ IsDone → acts s code state o act x ≡ acted state o act x
  acts_live state o act IsLost ne = refl
  acts_live state o act (IsPlaced p) ne = refl
  acts_live state o act (IsAt p r) ne = refl
  acts_live state o act (IsWithin seat row) ne = refl
  acts_live state o act (IsRunning seat rest) ne = refl
  acts_live state o act (IsBroken p) ne = refl
  acts_live state o act IsDone ne = absurd (ne refl)

  done_or : (x : Standing) → (x ≡ IsDone) ⊎ (x ≢ IsDone)
  done_or IsDone = inl refl
  done_or _ = inr (λ e. cc)

  abbrev AllHome : List ℕ → State → Type 0
  AllHome ws state = AreWordsOf s state.words × ((o : ℕ) → Fair o (stand_of state o)) × ((c : ℕ) → c < s.processors → read s state.words (CarryWord c) ≡ c)
      × ((p : ℕ) → p < s.processors → read s state.words (HolderWord p) ≡ read s ws (HolderWord p))

  -- a cell over a turn of another
  turn_same : (ws : List ℕ) (state : State) (turn : Turn) → AllHome ws state → IsPooledBy s turn.act (stand_of state turn.processor) → (d : Cell) → IsOther turn.processor d → IsCell s d
      → read s (happens s code state turn).words d ≡ read s state.words d
  turn_same ws state turn all kept d other is = elim (done_or (stand_of state turn.processor)) [
    | inl e ↦ ap (λ (x : State). read s x.words d) (ap (acts s code state turn.processor turn.act) e)
    | inr ne ↦ ap (λ (x : State). read s x.words d) (acts_live state turn.processor turn.act (stand_of state turn.processor) ne)
        ∙ act_same state.words turn.processor d other is turn.act (stand_of state turn.processor) ne (all.1 turn.processor) kept
  ]

  turn_home : (ws : List ℕ) (state : State) (turn : Turn) → AllHome ws state → IsPooledBy s turn.act (stand_of state turn.processor) → AllHome ws (happens s code state turn)
  turn_home ws state turn all kept = (
    standing.0,
    standing.1,
    λ c there. turn_same ws state turn all kept (CarryWord c) tt there ∙ all.2 c there,
    λ p there. turn_same ws state turn all kept (HolderWord p) tt there ∙ all.3 p there,
  )
    where
      standing : AreWordsOf s (happens s code state turn).words × ((o : ℕ) → Fair o (stand_of (happens s code state turn) o))
      standing = elim (done_or (stand_of state turn.processor)) [
        | inl e ↦ subst (λ (x : State). AreWordsOf s x.words × ((o : ℕ) → Fair o (stand_of x o))) (sym (ap (acts s code state turn.processor turn.act) e)) (all.0, all.1)
        | inr ne ↦
            let o : ℕ = turn.processor in
            let x : Standing = stand_of state o in
            let want : Want = want_of s code o turn.act x in
            let next : Standing = stand_after s code o turn.act (found_in state.words want) x in
            subst (λ (x : State). AreWordsOf s x.words × ((o : ℕ) → Fair o (stand_of x o))) (sym (acts_live state o turn.act x ne)) (
              length_stays state.words want ∙ all.0,
              λ d. elim (cases_eq d o) [
                | inl e ↦ subst (λ (y : ℕ). Fair y (stand_in (slice_get (slice_set state.stand o next) y))) (sym e)
                    (subst (Fair o) (sym (stand_own state.stand o next ne)) (after_fair state.words o turn.act x ne (all.1 o) (all.2 o (lost_fair o x ne (all.1 o)))))
                | inr other ↦ subst (Fair d) (sym (stand_other state.stand o d next other)) (all.1 d)
              ],
            )
      ]

  run_home : (ws : List ℕ) (turns : List Turn) (state : State) → AllHome ws state → ArePooled s code state turns → AllHome ws (after s code state turns)
  run_home ws [] state all kept = all
  run_home ws (turn ∷ turns) state all kept = run_home ws turns (happens s code state turn) (turn_home ws state turn all kept.0) kept.1

  opening_home : (ws : List ℕ) → AreWordsOf s ws → ((c : ℕ) → c < s.processors → read s ws (CarryWord c) ≡ c) → AllHome ws (opening ws s.processors)
  opening_home ws fit carries = (
    fit,
    λ o. elim (lost_or s.processors o) [ inl a ↦ subst (Fair o) (sym a.0) a.1 | inr e ↦ subst (Fair o) (sym e) tt ],
    carries,
    λ p there. refl,
  )

  stays : (ws : List ℕ) (state : State) → AllHome ws state → StaysHome s code ws state
  stays ws state all = record {
    carries = all.2;
    holders = all.3;
    others = λ turn kept q there ne. (turn_same ws state turn all kept (RestartWord q) ne there, turn_same ws state turn all kept (MessageWord q) ne there);
    closed = λ turn kept q there done. elim (cases_eq q turn.processor) [
      | inr ne ↦ (turn_same ws state turn all kept (RestartWord q) ne there, turn_same ws state turn all kept (MessageWord q) ne there)
      | inl e ↦
          let same : happens s code state turn ≡ state = ap (acts s code state turn.processor turn.act) (ap (stand_of state) (sym e) ∙ done) in
          (ap (λ (x : State). read s x.words (RestartWord q)) same, ap (λ (x : State). read s x.words (MessageWord q)) same)
    ];
  }

pub places_stay_home : (s : Shape) (code : CodeParts) → PlacesStayHome s code
places_stay_home s code ws turns entries fit carries kept = stays s code entries ws _ (run_home s code entries ws turns (opening ws s.processors) (opening_home s code entries ws fit carries) kept)
