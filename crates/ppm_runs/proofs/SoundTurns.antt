-- Each turn of a lawful state that is sound leads to a sound one, if rows and capsules of strands, and rows of
-- heirs, meet no broken words.
use Rattle.std.proofs.Common.{◌≡◌, ◌≢◌, ◌⊎◌, ◌≤◌, ◌<◌, ℕ, zero, suc, ◌+◌, ◌==◌, ◌&&◌, Bool, true, false, if◌then◌else◌, List, Option, Some, None, inl, inr, refl, sym, ap, ap₂, ◌∙◌, subst, arith, slice_set}
use Rattle.std.specs.Prelude.{nat_lt, slice_get, slice_index, ◌^◌}
use Rattle.std.proofs.lemmas.Bool.{cases_lt, ltb-true, lt-ltb, le-ltb, eqb-true}
use Rattle.ppm_cells.specs.Cells.{IsCell}
use Rattle.ppm_cells.specs.Entry.{IsEntry}
use Rattle.ppm_cells.specs.Finish.{finish_word, IsFinish, IsOutcome}
use Rattle.ppm_cells.specs.Memory.{read, write as store}
use Rattle.ppm_cells.specs.Restart.{restart_of, restart_word}
use Rattle.ppm_cells.specs.declared.cell.Cell.{Cell}
use Rattle.ppm_cells.specs.declared.cell.Cell.TheVariants as cells
use Rattle.ppm_cells.specs.declared.entry.Entry.{Entry}
use Rattle.ppm_cells.specs.declared.entry.Entry.TheVariants as entries
use Rattle.ppm_cells.specs.declared.finish.Finish.{Finish}
use Rattle.ppm_cells.specs.declared.finish.Finish.TheVariants.{Unset, Ended, Trapped, OutOfTurns, OutOfRoom, Stopped, Broken as BrokenFinish}
use Rattle.ppm_cells.specs.declared.restart.Restart.{Restart}
use Rattle.ppm_cells.specs.declared.restart.RestartKind.{RestartKind}
use Rattle.ppm_cells.specs.declared.restart.RestartKind.TheVariants.{Run, Bump, Push1, Push2, Unwind, Arrive, Join, Pop1, Pop2, Seek, Steal, Check, Take, Take2}
use Rattle.ppm_cells.specs.declared.shape.Shape.{Shape}
use Rattle.ppm_cells.specs.declared.shape.Takeover.TheVariants.{ByEntries}
use Rattle.ppm_cells.proofs.MemoryLemmas.{read_back}
use Rattle.ppm_code.specs.declared.code.Capsule.{Capsule as CodeCapsule}
use Rattle.ppm_code.specs.declared.code.CodeParts.{CodeParts}
use Rattle.ppm_cells.specs.DequeChange.{tag_of}
use Rattle.ppm_step.specs.Among.{IsActAmong, IsTurnAmong}
use Rattle.ppm_step.specs.Contents.{content_of, word_of}
use Rattle.ppm_step.specs.Frames.{Rest, Loads, Stores, Full, Installs, Breaks}
use Rattle.ppm_step.specs.Points.{cell_at, reading_at}
use Rattle.ppm_step.specs.Rows.{found_at, row_of}
use Rattle.ppm_step.specs.Standings.{Standing, IsLost, IsPlaced, IsAt, IsWithin, IsRunning, IsBroken, IsDone, begun, forked, point_is_there, rest_is_there, within_if, running_if, running, enters, stands_then, stands, begins_if, at_finish, placed}
use Rattle.ppm_step.specs.State.{State as RunState, stand_of, happens, acts, quit_with, is_work, is_step}
use Rattle.ppm_step.specs.There.{is_there, restart_is_there}
use Rattle.ppm_step.specs.declared.content.Content.{Content}
use Rattle.ppm_step.specs.declared.content.Content.TheVariants.{ANumber, AnEntry, AHolder, AFinish}
use Rattle.ppm_step.specs.declared.content.Reading.TheVariants.{AsEntry, AsHolder}
use Rattle.ppm_step.specs.declared.row.Point.{Point}
use Rattle.ppm_step.specs.declared.row.Point.TheVariants.{Offset}
use Rattle.ppm_step.specs.declared.row.Row.{Row}
use Rattle.ppm_step.specs.declared.row.Row.TheVariants.{Now, Store, Exchange}
use Rattle.ppm_step.specs.declared.row.Seat.{Seat}
use Rattle.ppm_step.specs.declared.row.Then.{Then}
use Rattle.ppm_step.specs.declared.row.Then.TheVariants.{Load, Install, Fork, Begin, Move, Enter, Again, Broken}
use Rattle.ppm_step.specs.declared.turn.Act.{Act}
use Rattle.ppm_step.specs.declared.turn.Act.TheVariants.{Step, Soft, Hard, Quit}
use Rattle.ppm_step.specs.declared.turn.Turn.{Turn}
use Rattle.ppm_step.specs.declared.turn.Why.{Why}
use Rattle.ppm_step.specs.declared.turn.Why.TheVariants.{Turns, Watch}
use Rattle.ppm_tickets.specs.Along.{IsPooled}
use Rattle.ppm_tickets.specs.Entries.{IsPooledAt}
use Rattle.ppm_tickets.specs.Homes.{Home}
use Rattle.ppm_tickets.specs.Lawful.{IsDead, IsAlive, Dooms, Names, tag}
use Rattle.ppm_tickets.specs.Renewal.{IsLawful}
use Rattle.ppm_tickets.specs.Saw.{IsStrand, IsQuietCell, Carried, Sits, Sees}
use Rattle.ppm_tickets.specs.View.{word_as, view, kinds, bottoms, is_shown, absent}
use Rattle.ppm_tickets.specs.Words.{Word, Empty, Local, Job, Taken, Held, Number, Linked, Restarts, Unread, Spot, Message, Slot, Holder, Carry, Dead}
use Rattle.ppm_tickets.proofs.ViewLemmas.{shows, view_here, again, if_false}
use Rattle.ppm_kept.specs.Branches.{is_taker}
use Rattle.ppm_kept.specs.Fates.{Offered}
use Rattle.ppm_kept.proofs.BlockLemmas.{finish_back}
use Rattle.ppm_runs.specs.Run.{fate_of}
use Rattle.ppm_runs.specs.Sound.{IsRisingEntry, IsRising, IsTakenEntry, Noted, NotedBy, IsNoted, IsNotedAt, IsLoadOf, GoesWell, IsSoundRow, IsSoundAt, IsUnbroken, RaisesTop, TriesSo, RaisesEntry, RaisesHolder, SetsFinish, IsRestartThere, IsHolderSound, IsTopLow, IsTagLow, IsNoBreak, SaysNoBreak, one_dead, IsSound}
use Rattle.ppm_runs.specs.Deques.{StrandsAreSound, one_if, is_entry, tries_entry, raises, raised_by}
use Rattle.ppm_runs.proofs.SoundRows.{Here, Blocks, IsDequeKind, here_of, seat_of, loads_sound, begins_sound, and_is, and_left, and_right}
use Rattle.ppm_runs.proofs.SoundLemmas.{tells, waits, quiet_write, top_write, entry_write, message_write, holder_write, dead_write, restart_write, finish_write}

-- a kind is of a strand, or looks at deques and places
strand_or : (s : Shape) (code : CodeParts) (k : RestartKind) → IsStrand k ⊎ IsDequeKind s code k
strand_or s code (Run f y) = inl tt
strand_or s code (Bump r) = inl tt
strand_or s code (Unwind f) = inl tt
strand_or s code (Arrive r d) = inl tt
strand_or s code (Join r d) = inl tt
strand_or s code (Push1 r) = inr tt
strand_or s code (Push2 r) = inr tt
strand_or s code Pop1 = inr tt
strand_or s code (Pop2 r) = inr tt
strand_or s code Seek = inr tt
strand_or s code (Steal v i) = inr tt
strand_or s code (Check v i) = inr tt
strand_or s code (Take v d) = inr tt
strand_or s code (Take2 v) = inr tt

quiet_tells : (c : Cell) → IsQuietCell c → (c ≢ cells.FinishWord) → tells c ≡ false
quiet_tells cells.FinishWord q ne = absurd (ne refl)
quiet_tells (cells.RoomCounter p) q ne = refl
quiet_tells (cells.BlockWord x) q ne = refl
quiet_tells (cells.ArrayWord x) q ne = refl
quiet_tells _ q ne = absurd q

strand_noted : (s : Shape) (m : Spot → Word) (p : ℕ) (k : RestartKind) → IsStrand k → Noted s m p k
strand_noted s m p (Run f y) is = tt
strand_noted s m p (Bump r) is = tt
strand_noted s m p (Unwind f) is = tt
strand_noted s m p (Arrive r d) is = tt
strand_noted s m p (Join r d) is = tt
strand_noted s m p _ is = absurd is

-- a cell that is there, and pooled, is one of the shape
cell_is : (s : Shape) (c : Cell) → is_there s c ≡ true → IsPooled s c → IsCell s c
cell_is s cells.FinishWord e q = tt
cell_is s (cells.CarryWord c) e q = ltb-true c s.processors e
cell_is s (cells.DeadWord c) e q = ltb-true c s.processors e
cell_is s (cells.RestartWord p) e q = ltb-true p s.processors e
cell_is s (cells.MessageWord p) e q = ltb-true p s.processors e
cell_is s (cells.HolderWord p) e q = ltb-true p s.processors e
cell_is s (cells.Top p) e q = ltb-true p s.processors e
cell_is s (cells.RoomCounter p) e q = ltb-true p s.processors e
cell_is s (cells.EntryWord v i) e q = (ltb-true v s.processors (and_left (nat_lt v s.processors) (nat_lt i s.slots) e), ltb-true i s.slots (and_right (nat_lt v s.processors) (nat_lt i s.slots) e))
cell_is s (cells.BlockWord x) e q = q
cell_is s (cells.ArrayWord x) e q = ltb-true x s.arrays e

-- an outcome is no break
outcome_fine : (v : Finish) → IsOutcome v → IsNoBreak v
outcome_fine Ended out = tt
outcome_fine (Trapped trap line) out = tt
outcome_fine Unset out = tt
outcome_fine (OutOfTurns c) out = tt
outcome_fine (OutOfRoom p) out = tt
outcome_fine Stopped out = tt
outcome_fine (BrokenFinish p) out = absurd out

abbrev finish_in : Finish → Option Finish → Finish
finish_in v None = v
finish_in v (Some x) = x

says_fine : (v : Finish) → IsFinish v → IsNoBreak v → SaysNoBreak (finish_word v)
says_fine v fit fine x e = subst IsNoBreak {x = v} {y = x} (ap (finish_in v) (sym (finish_back v fit) ∙ e)) fine

module _ (s : Shape) (code : CodeParts) (m : Spot → Word) (seat : Seat) (there : restart_is_there s seat.restart ≡ true) where
  enters_sound : (k : RestartKind) (o : Option CodeCapsule) → IsUnbroken (enters s code seat k o) → IsSoundAt s code m (enters s code seat k o)
  enters_sound (Run f y) (Some one) a = by _ _ a
    where
      by : (rest : Rest) (b : Bool) → IsUnbroken (running_if seat rest b) → IsSoundAt s code m (running_if seat rest b)
      by rest true a = tt
      by rest false a = absurd a
  enters_sound _ o a = absurd a

  pub goes_on : (next : Then) → GoesWell s code m seat next → IsNoted s code m seat next → IsSoundAt s code m (stands_then s code seat next)
  goes_on (Load point) a note = subst (λ (b : Bool). IsSoundAt s code m (within_if seat (Now (Load point)) b)) (sym a.0) (a, note)
  goes_on (Install r) a note = subst (λ (b : Bool). IsSoundAt s code m (within_if seat (Now (Install r)) b)) (sym a) (a, note)
  goes_on (Fork r) a note = subst (λ (b : Bool). IsSoundAt s code m (within_if seat (Now (Fork r)) b)) (sym a) (a, note)
  goes_on (Begin r f b) a note = subst (λ (b_ : Bool). IsSoundAt s code m (within_if seat (Now (Begin r f b)) b_)) (sym a) (a, note)
  goes_on (Move q) a note = subst (λ (b : Bool). IsSoundAt s code m (within_if seat (Now (Move q)) b)) (sym a) (a, note)
  goes_on (Enter x) a note = enters_sound seat.restart.kind (slice_get code.capsules x) a
  goes_on Again a note = there
  goes_on Broken a note = absurd a

  pub stands_sound : (row : Row) → IsSoundRow s code m seat row → IsSoundAt s code m (stands s code seat row)
  stands_sound (Now next) a = goes_on next a.0 a.1
  stands_sound (Store c x next) a = subst (λ (b : Bool). IsSoundAt s code m (within_if seat (Store c x next) b)) (sym a.0) a
  stands_sound (Exchange c v w next) a = subst (λ (b : Bool). IsSoundAt s code m (within_if seat (Exchange c v w next) b)) (sym a.0) a

one_least : (n : ℕ) (b : Bool) → n ≤ n + one_if b
one_least n true = omega arith
one_least n false = omega arith

module _ (s : Shape) (code : CodeParts) (state : RunState) (h : ℕ → Home) (forked_ taken_ : List ℕ) where
  abbrev ws : List ℕ
  ws = state.words

  abbrev m : Spot → Word
  m = view s ws

  module _ (lawful : IsLawful s code state h forked_ taken_) (made : ℕ) (few : made + 1 < 2 ^ 34) (sound : IsSound s code made state) (blocks : Blocks s code ws lawful.1.board.gone h) (strands : StrandsAreSound s code state)
      (pooled : (c : ℕ) → IsPooledAt s (stand_of state c)) (fates : (c : ℕ) (seat : Seat) (r low : ℕ) → stand_of state c ≡ IsWithin seat (Now (Load (Offset r low))) → is_taker seat.restart.kind ≡ true → fate_of (h r) ≡ Offered)
      (apart : (c d : ℕ) (seat other : Seat) (row rest : Row) → stand_of state c ≡ IsWithin seat row → d ≢ c → stand_of state d ≡ IsWithin other rest → other.place ≢ seat.place)
      (checks : s.takeover ≡ ByEntries → (c : ℕ) (seat : Seat) (point : Point) (v i : ℕ) → stand_of state c ≡ IsWithin seat (Now (Load point)) → seat.restart.kind ≡ Check v i → (u : ℕ)
      → IsSoundRow s code m seat (found_at s seat u point (content_of (reading_at point) (read s ws (cell_at seat u point))))) where
    abbrev own_here : (c p : ℕ) → Carried s m c p → (K : RestartKind) → kinds s ws p ≡ K → Here s code ws state.stand h forked_ taken_ made c p K
    own_here c p carried K e = here_of s code state h forked_ taken_ lawful made few sound blocks c p carried K e

    module _ (c : ℕ) (there : c < s.processors) where
      sees_at : (x : Standing) → stand_of state c ≡ x → Sees s m (kinds s ws) (bottoms s ws) c x
      sees_at x e = subst (Sees s m (kinds s ws) (bottoms s ws) c) e (lawful.1.sees c)

      sound_at : (x : Standing) → stand_of state c ≡ x → IsSoundAt s code m x
      sound_at x e = subst (IsSoundAt s code m) e (sound.stands c)

      abbrev Goal : Act → Standing → Type 0
      Goal act x = IsSound s code (made + one_if (is_step act && raises x)) (acts s code state c act x)

      module _ (seat : Seat) (row : Row) (e : stand_of state c ≡ IsWithin seat row) where
        sits : Sits s m (kinds s ws) (bottoms s ws) c seat
        sits = (sees_at (IsWithin seat row) e).0

        live : stand_of state c ≢ IsDone
        live z = let y : IsWithin seat row ≡ IsDone = sym e ∙ z in cc

        more : ℕ
        more = made + one_if (raises (IsWithin seat row))

        seat_is : seat_of s code ws c seat.place seat.restart.kind ≡ seat
        seat_is = λ i. record { own = sym sits.own i; place = seat.place; restart = record { kind = seat.restart.kind; bottom = sits.at.bottom i } }

        own : Here s code ws state.stand h forked_ taken_ made c seat.place seat.restart.kind
        own = own_here c seat.place sits.carried seat.restart.kind sits.at.kind

      -- what a load finds
      loaded : (seat : Seat) (point : Point) (e : stand_of state c ≡ IsWithin seat (Now (Load point))) (u : ℕ) → u < s.processors
          → IsSoundRow s code m seat (found_at s seat u point (content_of (reading_at point) (read s ws (cell_at seat u point))))
      loaded seat point e u lt = elim (strand_or s code seat.restart.kind) [
        | inl is ↦ strands.loads c seat point e is u
        | inr is ↦
            let path = seat_is seat (Now (Load point)) e in
            let a = (sound_at (IsWithin seat (Now (Load point))) e).0 in
            let shown : point_is_there s (seat_of s code ws c seat.place seat.restart.kind) point ≡ true = subst (λ (z : Seat). point_is_there s z point ≡ true) (sym path) a.0 in
            let fits = subst (λ (b : ℕ). IsLoadOf s seat.place b seat.restart.kind point) (sym (sits seat (Now (Load point)) e).at.bottom) a.1 in
            subst (λ (z : Seat). IsSoundRow s code m z (found_at s z u point (content_of (reading_at point) (read s ws (cell_at z u point))))) path
            (loads_sound s code seat.restart.kind (own seat (Now (Load point)) e) is u lt point fits shown
            (λ taker r low at_. fates c seat r low (e ∙ ap (λ (x : Point). IsWithin seat (Now (Load x))) at_) taker)
            (λ entries v i ke. subst (λ (z : Seat). IsSoundRow s code m z (found_at s z u point (content_of (reading_at point) (read s ws (cell_at z u point))))) (sym path) (checks entries c seat point v i e ke u)))
      ]

      abbrev More : Seat → Row → ℕ
      More seat row = made + one_if (raises (IsWithin seat row))

      least : (seat : Seat) (row : Row) → made ≤ More seat row
      least seat row = one_least made (raises (IsWithin seat row))

      -- an install
      install : (seat : Seat) (next : Then) (e : stand_of state c ≡ IsWithin seat (Now next)) (r : Restart) → restart_is_there s r ≡ true → Noted s m seat.place r.kind
          → IsSound s code (More seat (Now next)) (record { words = store s ws (cells.RestartWord seat.place) (restart_word r); stand = slice_set state.stand c (IsAt seat.place (Some r)) })
      install seat next e r is note = restart_write s code made state sound c (live seat (Now next) e) (More seat (Now next)) (least seat (Now next)) seat.place r (sits seat (Now next) e).carried.place lawful.0 is note

      now_step : (seat : Seat) (next : Then) (e : stand_of state c ≡ IsWithin seat (Now next)) (u : ℕ) → u < s.processors → Goal (Step u) (IsWithin seat (Now next))
      now_step seat (Load point) e u lt = waits s code made state sound c (live seat (Now (Load point)) e) (More seat (Now (Load point))) (least seat (Now (Load point)))
          (stands s code seat (found_at s seat u point (content_of (reading_at point) (read s ws (cell_at seat u point)))))
          (stands_sound s code m seat (sits seat (Now (Load point)) e).there (found_at s seat u point (content_of (reading_at point) (read s ws (cell_at seat u point)))) (loaded seat point e u lt))
      now_step seat (Install r) e u lt = let a = sound_at (IsWithin seat (Now (Install r))) e in install seat (Install r) e r a.0 a.1
      now_step seat (Fork r) e u lt = install seat (Fork r) e (forked seat r) (sound_at (IsWithin seat (Now (Fork r))) e).0 tt
      now_step seat (Begin r f b) e u lt = install seat (Begin r f b) e (begun f b) (sound_at (IsWithin seat (Now (Begin r f b))) e).0 tt
      now_step seat (Move q) e u lt = quiet_write s code made state sound c (live seat (Now (Move q)) e) (More seat (Now (Move q))) (least seat (Now (Move q))) (cells.CarryWord seat.own) q
          (subst (λ (x : ℕ). x < s.processors) (sym (sits seat (Now (Move q)) e).own) there) refl (IsPlaced q) tt
      now_step seat (Enter x) e u lt = absurd (let z = (sees_at (IsWithin seat (Now (Enter x))) e).2 in cc)
      now_step seat Again e u lt = absurd (let z = (sees_at (IsWithin seat (Now Again)) e).2 in cc)
      now_step seat Broken e u lt = absurd (let z = (sees_at (IsWithin seat (Now Broken)) e).2 in cc)

      -- what was noted by a store into the own message
      stored_note : (seat : Seat) (content : Content) (next : Then) → seat.place < s.processors → IsNotedAt s code m seat (cells.MessageWord seat.place) content next
          → IsNoted s code (view s (store s ws (cells.MessageWord seat.place) (word_of content))) seat next
      stored_note seat content (Install r) lt a = by r.kind content a
        where
          entry : (x : Entry) → IsRisingEntry s x × IsEntry x → IsRising s (view s (store s ws (cells.MessageWord seat.place) (word_of (AnEntry x))) (Message seat.place))
          entry x a = subst (IsRising s) (sym (view_here s ws (Message seat.place) (word_of (AnEntry x)) lawful.0 (lt-ltb seat.place s.processors lt) ∙ ap word_as (again (AnEntry x) tt a.1))) (job x a.0)
            where
              job : (x : Entry) → IsRisingEntry s x → IsRising s (word_as (AnEntry x))
              job (entries.Job t y) a = a
              job (entries.Local t y) a = a
              job _ a = absurd a

          by : (k : RestartKind) (x : Content) → NotedBy s x k → Noted s (view s (store s ws (cells.MessageWord seat.place) (word_of x))) seat.place k
          by (Steal v i) (AnEntry x) a = entry x a
          by (Steal v i) _ a = absurd a
          by (Check v i) (AnEntry x) a = absurd a
          by (Check v i) _ a = absurd a
          by (Take2 v) (AnEntry x) a = absurd a
          by (Take2 v) _ a = absurd a
          by (Run f y) x a = tt
          by (Bump r) x a = tt
          by (Push1 r) x a = tt
          by (Push2 r) x a = tt
          by (Unwind f) x a = tt
          by (Arrive r d) x a = tt
          by (Join r d) x a = tt
          by Pop1 x a = tt
          by (Pop2 r) x a = tt
          by Seek x a = tt
          by (Take v d) (AnEntry x) a = a
          by (Take v d) _ a = a
      stored_note seat content (Load x) lt a = tt
      stored_note seat content (Fork x) lt a = tt
      stored_note seat content (Begin x y z) lt a = tt
      stored_note seat content (Move x) lt a = tt
      stored_note seat content (Enter x) lt a = tt
      stored_note seat content Again lt a = tt
      stored_note seat content Broken lt a = tt

      store_step : (seat : Seat) (cell : Cell) (content : Content) (next : Then) (e : stand_of state c ≡ IsWithin seat (Store cell content next)) (u : ℕ) → Goal (Step u) (IsWithin seat (Store cell content next))
      store_step seat cell content next e u = by cell e
        where
          quiet : (cell : Cell) (e : stand_of state c ≡ IsWithin seat (Store cell content next)) → tells cell ≡ false → IsNoted s code m seat next → Goal (Step u) (IsWithin seat (Store cell content next))
          quiet cell e is note =
              let a = sound_at (IsWithin seat (Store cell content next)) e in
              let at = sits seat (Store cell content next) e in
              quiet_write s code made state sound c (live seat (Store cell content next) e) (More seat (Store cell content next)) (least seat (Store cell content next)) cell (word_of content)
              (cell_is s cell a.0 (subst (IsPooledAt s) e (pooled c))) is (stands_then s code seat next) (goes_on s code m seat at.there next a.2 note)

          by : (cell : Cell) (e : stand_of state c ≡ IsWithin seat (Store cell content next)) → Goal (Step u) (IsWithin seat (Store cell content next))
          by (cells.BlockWord x) e = quiet (cells.BlockWord x) e refl (sound_at (IsWithin seat (Store (cells.BlockWord x) content next)) e).3
          by (cells.ArrayWord x) e = quiet (cells.ArrayWord x) e refl (sound_at (IsWithin seat (Store (cells.ArrayWord x) content next)) e).3
          by (cells.RoomCounter x) e = quiet (cells.RoomCounter x) e refl (sound_at (IsWithin seat (Store (cells.RoomCounter x) content next)) e).3
          by (cells.MessageWord q) e =
              let a = sound_at (IsWithin seat (Store (cells.MessageWord q) content next)) e in
              let at = sits seat (Store (cells.MessageWord q) content next) e in
              subst (λ (z : ℕ). IsSound s code (More seat (Store (cells.MessageWord z) content next)) (acts s code state c (Step u) (IsWithin seat (Store (cells.MessageWord z) content next)))) (sym a.1.0)
              (message_write s code made state sound c (live seat (Store (cells.MessageWord q) content next) e) (More seat (Store (cells.MessageWord seat.place) content next)) (least seat (Store (cells.MessageWord seat.place) content next)) seat.place (word_of content)
              at.carried.place (at.at.kind ∙ a.1.1) (λ d ne other rest f. apart c d seat other (Store (cells.MessageWord q) content next) rest e ne f) (stands_then s code seat next)
              (goes_on s code (view s (store s ws (cells.MessageWord seat.place) (word_of content))) seat at.there next a.2 (stored_note seat content next at.carried.place a.3)))
          by cells.FinishWord e = absurd (sound_at (IsWithin seat (Store cells.FinishWord content next)) e).1
          by (cells.CarryWord x) e = absurd (sound_at (IsWithin seat (Store (cells.CarryWord x) content next)) e).1
          by (cells.DeadWord x) e = absurd (sound_at (IsWithin seat (Store (cells.DeadWord x) content next)) e).1
          by (cells.RestartWord x) e = absurd (sound_at (IsWithin seat (Store (cells.RestartWord x) content next)) e).1
          by (cells.HolderWord x) e = absurd (sound_at (IsWithin seat (Store (cells.HolderWord x) content next)) e).1
          by (cells.Top x) e = absurd (sound_at (IsWithin seat (Store (cells.Top x) content next)) e).1
          by (cells.EntryWord x i) e = absurd (sound_at (IsWithin seat (Store (cells.EntryWord x i) content next)) e).1

      -- an exchange that is made
      module _ (seat : Seat) (cell : Cell) (old new : Content) (next : Then) (e : stand_of state c ≡ IsWithin seat (Exchange cell old new next)) where
        abbrev row : Row
        row = Exchange cell old new next

        told : IsSoundRow s code m seat row
        told = sound_at (IsWithin seat row) e

        at : Sits s m (kinds s ws) (bottoms s ws) c seat
        at = sits seat row e

        goes : IsSoundAt s code m (stands_then s code seat next)
        goes = goes_on s code m seat at.there next told.2 told.3

        abbrev Made : Cell → Type 0
        Made x = IsSound s code (More seat row) (record { words = store s ws x (word_of new); stand = slice_set state.stand c (stands_then s code seat next) })

        quiet_made : (x : Cell) → IsCell s x → tells x ≡ false → Made x
        quiet_made x is quiet = quiet_write s code made state sound c (live seat row e) (More seat row) (least seat row) x (word_of new) is quiet (stands_then s code seat next) goes

        top_made : (v : ℕ) → v < s.processors → (x : Content) → new ≡ x → RaisesTop s code m seat x → Made (cells.Top v)
        top_made v lv (ANumber n) is a = top_write s code made state sound c (live seat row e) (More seat row) (least seat row) v (word_of new) lv
            (subst (IsTopLow s.takeover s) (sym (read_back s ws (cells.Top v) (word_of new) lawful.0 lv ∙ ap word_of is)) a) (stands_then s code seat next) goes
        top_made v lv _ is a = absurd a

        finish_made : (x : Content) → new ≡ x → SetsFinish s code m seat x → Made cells.FinishWord
        finish_made (AFinish v) is a = finish_write s code made state sound c (live seat row e) (More seat row) (least seat row) (word_of new)
            (subst SaysNoBreak (sym (read_back s ws cells.FinishWord (word_of new) lawful.0 tt ∙ ap word_of is)) (says_fine v a.1 (outcome_fine v a.0))) (stands_then s code seat next) goes
        finish_made _ is a = absurd a

        worked : is_entry cell ≡ true → is_work seat.restart.kind ≡ true → More seat row ≡ made + 1
        worked which is = ap₂ (λ (a b : Bool). made + one_if (a && b)) which is

        entry_made : (v i : ℕ) → cell ≡ cells.EntryWord v i → v < s.processors → i < s.slots → (x y : Content) → old ≡ x → new ≡ y → read s ws (cells.EntryWord v i) ≡ word_of old → RaisesEntry s code m seat x y → Made (cells.EntryWord v i)
        entry_made v i at_ lv li (AnEntry o) (AnEntry n) is now was a =
            let shown : is_shown s (Slot v i) ≡ true = and_is (nat_lt v s.processors) (nat_lt i s.slots) (lt-ltb v s.processors lv) (lt-ltb i s.slots li) in
            let before : m (Slot v i) ≡ word_as (AnEntry o) = shows s ws (Slot v i) shown ∙ ap (λ (w : ℕ). word_as (content_of AsEntry w)) (was ∙ ap word_of is) ∙ ap word_as (again (AnEntry o) tt a.2) in
            let after : view s (store s ws (cells.EntryWord v i) (word_of new)) (Slot v i) ≡ word_as (AnEntry n) =
            view_here s ws (Slot v i) (word_of new) lawful.0 shown ∙ ap (λ (z : Content). word_as (content_of AsEntry (word_of z))) now ∙ ap word_as (again (AnEntry n) tt a.3) in
            entry_write s code made state sound c (live seat row e) (More seat row) (least seat row) v i (word_of new) (lv, li)
            (subst (IsTagLow (More seat row)) (sym after) (tag_goes o n a.1 (subst (IsTagLow made) before (sound.tags v i)) a.0 a.4)) (stands_then s code seat next) goes
          where
            low : (o : Entry) → (IsTakenEntry o → ⊥) → IsTagLow made (word_as (AnEntry o)) → tag_of o ≤ made
            low (entries.Empty t) free a = a
            low (entries.Local t x) free a = a
            low (entries.Job t x) free a = a
            low (entries.Taken t x) free a = absurd (free tt)

            high : (n : Entry) (b : ℕ) → tag_of n ≡ b + 1 → b ≤ made → (IsTakenEntry n ⊎ (is_work seat.restart.kind ≡ true)) → IsTagLow (More seat row) (word_as (AnEntry n))
            high (entries.Taken t x) b is le how = let all = least seat row in omega (arith, is, le, all)
            high (entries.Empty t) b is le how = elim how [ inl z ↦ absurd z | inr w ↦ let one = worked (ap is_entry at_) w in omega (arith, is, le, one) ]
            high (entries.Local t x) b is le how = elim how [ inl z ↦ absurd z | inr w ↦ let one = worked (ap is_entry at_) w in omega (arith, is, le, one) ]
            high (entries.Job t x) b is le how = elim how [ inl z ↦ absurd z | inr w ↦ let one = worked (ap is_entry at_) w in omega (arith, is, le, one) ]

            tag_goes : (o n : Entry) → (IsTakenEntry o → ⊥) → IsTagLow made (word_as (AnEntry o)) → tag_of n ≡ tag_of o + 1 → (IsTakenEntry n ⊎ (is_work seat.restart.kind ≡ true)) → IsTagLow (More seat row) (word_as (AnEntry n))
            tag_goes o n free a up how = high n (tag_of o) up (low o free a) how
        entry_made v i at_ lv li (AnEntry o) _ is now was a = absurd a
        entry_made v i at_ lv li _ y is now was a = absurd a

        one_alive : (w : Word) → (IsDead w → ⊥) → one_dead w ≡ 0
        one_alive (Number zero) a = refl
        one_alive (Number (suc n)) a = absurd (a tt)
        one_alive (Empty x) a = refl
        one_alive (Local x y) a = refl
        one_alive (Job x y) a = refl
        one_alive (Taken x y) a = refl
        one_alive (Held x y) a = refl
        one_alive (Linked x) a = refl
        one_alive (Restarts x y) a = refl
        one_alive Unread a = refl

        one_is : (w : Word) → IsDead w → one_dead w ≡ 1
        one_is (Number (suc n)) a = refl
        one_is (Number zero) a = absurd a
        one_is _ a = absurd a

        holder_made : (v : ℕ) → v < s.processors → (x y : Content) → old ≡ x → new ≡ y → read s ws (cells.HolderWord v) ≡ word_of old → RaisesHolder s code m seat v x y → Made (cells.HolderWord v)
        holder_made v lv (AHolder o) (AHolder n) is now was a =
            let shown = lt-ltb v s.processors lv in
            let before : m (Holder v) ≡ Held o.tag o.processor = shows s ws (Holder v) shown ∙ ap (λ (w : ℕ). word_as (content_of AsHolder w)) (was ∙ ap word_of is) ∙ ap word_as (again (AHolder o) tt a.2) in
            let after : view s (store s ws (cells.HolderWord v) (word_of new)) (Holder v) ≡ Held n.tag n.processor =
            view_here s ws (Holder v) (word_of new) lawful.0 shown ∙ ap (λ (z : Content). word_as (content_of AsHolder (word_of z))) now ∙ ap word_as (again (AHolder n) tt a.3) in
            let doom : Dooms m seat.place (Take v o.processor) = subst (Dooms m seat.place) (at.at.kind ∙ a.4) (lawful.1.holding.doomed seat.place) in
            let bid : n.tag ≡ doom.0 + 1 = ap tag (sym a.5 ∙ doom.2) in
            let held : tag (m (Holder v)) ≡ o.tag = ap tag before in
            let up = a.0 in
            let killed : IsDead (m (Dead o.processor)) = elim doom.4 [ inl z ↦ z | inr lt ↦ absurd (omega (arith, lt, held, bid, up)) ] in
            let low = (subst (IsHolderSound s m) before (sound.holders v lv)).1 in
            let one = one_is (m (Dead o.processor)) killed in
            let own_ : n.processor ≡ c = a.1 ∙ at.own in
            let none : one_dead (m (Dead n.processor)) ≡ 0 = ap (λ (q : ℕ). one_dead (m (Dead q))) own_ ∙ one_alive (m (Dead c)) at.carried.lives.alive in
            holder_write s code made state sound c (live seat row e) (More seat row) (least seat row) v (word_of new) lv
            (subst (IsHolderSound s m) (sym after) (subst (λ (q : ℕ). q < s.processors) (sym own_) there, omega (arith, low, one, none, up))) (stands_then s code seat next) goes
        holder_made v lv (AHolder o) _ is now was a = absurd a
        holder_made v lv _ y is now was a = absurd a

        made_so : (x : Cell) → cell ≡ x → read s ws x ≡ word_of old → Made x
        made_so cells.FinishWord is was = finish_made new refl (subst (λ (z : Cell). TriesSo s code m seat z old new) is told.1)
        made_so (cells.BlockWord x) is was = quiet_made (cells.BlockWord x) (subst (λ (z : Cell). IsPooled s z) is (subst (IsPooledAt s) e (pooled c))) refl
        made_so (cells.Top v) is was = top_made v (ltb-true v s.processors (subst (λ (z : Cell). is_there s z ≡ true) is told.0)) new refl (subst (λ (z : Cell). TriesSo s code m seat z old new) is told.1)
        made_so (cells.EntryWord v i) is was =
            let shown = subst (λ (z : Cell). is_there s z ≡ true) is told.0 in
            entry_made v i is (ltb-true v s.processors (and_left (nat_lt v s.processors) (nat_lt i s.slots) shown)) (ltb-true i s.slots (and_right (nat_lt v s.processors) (nat_lt i s.slots) shown)) old new refl refl was
            (subst (λ (z : Cell). TriesSo s code m seat z old new) is told.1)
        made_so (cells.HolderWord v) is was = holder_made v (ltb-true v s.processors (subst (λ (z : Cell). is_there s z ≡ true) is told.0)) old new refl refl was (subst (λ (z : Cell). TriesSo s code m seat z old new) is told.1)
        made_so (cells.RoomCounter x) is was = absurd (subst (λ (z : Cell). TriesSo s code m seat z old new) is told.1)
        made_so (cells.ArrayWord x) is was = absurd (subst (λ (z : Cell). TriesSo s code m seat z old new) is told.1)
        made_so (cells.MessageWord x) is was = absurd (subst (λ (z : Cell). TriesSo s code m seat z old new) is told.1)
        made_so (cells.CarryWord x) is was = absurd (subst (λ (z : Cell). TriesSo s code m seat z old new) is told.1)
        made_so (cells.DeadWord x) is was = absurd (subst (λ (z : Cell). TriesSo s code m seat z old new) is told.1)
        made_so (cells.RestartWord x) is was = absurd (subst (λ (z : Cell). TriesSo s code m seat z old new) is told.1)

        exchange_step : (u : ℕ) → Goal (Step u) (IsWithin seat row)
        exchange_step u = by (read s ws cell == word_of old) refl
          where
            by : (b : Bool) → (read s ws cell == word_of old) ≡ b → IsSound s code (More seat row) (record { words = if b then store s ws cell (word_of new) else ws; stand = slice_set state.stand c (stands_then s code seat next) })
            by true eq = made_so cell refl (eqb-true (read s ws cell) (word_of old) eq)
            by false eq = waits s code made state sound c (live seat row e) (More seat row) (least seat row) (stands_then s code seat next) goes

      -- a capsule of a frame
      module _ (seat : Seat) where
        capsule_step : (rest : Rest) (e : stand_of state c ≡ IsRunning seat rest) (u : ℕ) → Goal (Step u) (IsRunning seat rest)
        capsule_step rest e u = by rest e
          where
            alive : (rest : Rest) → stand_of state c ≡ IsRunning seat rest → stand_of state c ≢ IsDone
            alive rest e z = let y : IsRunning seat rest ≡ IsDone = sym e ∙ z in cc

            sits_in : (rest : Rest) → stand_of state c ≡ IsRunning seat rest → Sits s m (kinds s ws) (bottoms s ws) c seat
            sits_in rest e = (sees_at (IsRunning seat rest) e).0

            run_on : (rest : Rest) → rest_is_there s seat rest ≡ true → IsSoundAt s code m (running s seat rest)
            run_on rest ok = subst (λ (b : Bool). IsSoundAt s code m (running_if seat rest b)) (sym ok) tt

            up : made ≤ made + 0
            up = omega arith

            quiet_cell : (cell : Cell) → IsQuietCell cell → IsCell s cell → (w : ℕ) (y : Standing) → stand_of state c ≢ IsDone → IsSoundAt s code m y → (cell ≢ cells.FinishWord)
                → IsSound s code (made + 0) (record { words = store s ws cell w; stand = slice_set state.stand c y })
            quiet_cell cell quiet is w y alive_ here ne = quiet_write s code made state sound c alive_ (made + 0) up cell w is (quiet_tells cell quiet ne) y here

            by : (rest : Rest) (e : stand_of state c ≡ IsRunning seat rest) → Goal (Step u) (IsRunning seat rest)
            by (Loads cell next) e = waits s code made state sound c (alive (Loads cell next) e) (made + 0) up (running s seat (next (read s ws cell))) (run_on (next (read s ws cell)) (strands.rests c seat cell next e))
            by (Stores cell content next) e =
                let sees = sees_at (IsRunning seat (Stores cell content next)) e in
                quiet_cell cell sees.2.0 (cell_is s cell sees.3 (subst (IsPooledAt s) e (pooled c))) (word_of content) (running s seat next) (alive (Stores cell content next) e) (run_on next (strands.stored c seat cell content next e)) (strands.spared c seat cell content next e)
            by Full e = full (slice_index ws 0 == 0)
              where
                full : (b : Bool) → IsSound s code (made + 0) (record { words = if b then slice_set ws 0 (finish_word (OutOfRoom seat.place)) else ws; stand = slice_set state.stand c (IsAt seat.place (Some seat.restart)) })
                full true = finish_write s code made state sound c (alive Full e) (made + 0) up (finish_word (OutOfRoom seat.place))
                    (subst SaysNoBreak (sym (read_back s ws cells.FinishWord (finish_word (OutOfRoom seat.place)) lawful.0 tt))
                    (says_fine (OutOfRoom seat.place) (let lt = (sits_in Full e).carried.place in let few = s.within.processors_most in omega (arith, lt, few)) tt)) (IsAt seat.place (Some seat.restart)) (sits_in Full e).there
                full false = waits s code made state sound c (alive Full e) (made + 0) up (IsAt seat.place (Some seat.restart)) (sits_in Full e).there
            by (Installs kind) e =
                let sees = sees_at (IsRunning seat (Installs kind)) e in
                restart_write s code made state sound c (alive (Installs kind) e) (made + 0) up seat.place (record { kind = kind; bottom = seat.restart.bottom }) (sits_in (Installs kind) e).carried.place lawful.0 sees.3 (strand_noted s m seat.place kind sees.2)
            by Breaks e = absurd (let z = (sees_at (IsRunning seat Breaks) e).3 in cc)

      -- the place that is carried is one
      carry_low : IsAlive m c → read s ws (cells.CarryWord c) < s.processors
      carry_low alive = elim (cases_lt (read s ws (cells.CarryWord c)) s.processors) [
        | inl lt ↦ lt
        | inr ge ↦ absurd (
            let at : m (Carry c) ≡ Number (read s ws (cells.CarryWord c)) = shows s ws (Carry c) (lt-ltb c s.processors there) in
            let named = lawful.1.holding.held c (read s ws (cells.CarryWord c)) alive at in
            let hidden : m (Holder (read s ws (cells.CarryWord c))) ≡ Held 0 (read s ws (cells.CarryWord c)) = if_false (is_shown s (Holder (read s ws (cells.CarryWord c)))) _ (absent (Holder (read s ws (cells.CarryWord c)))) (le-ltb (read s ws (cells.CarryWord c)) s.processors ge) in
            let same : read s ws (cells.CarryWord c) ≡ c = subst (λ (w : Word). Names w c) hidden named in
            omega (arith, same, ge, there))
      ]

      placed_sound : (found : ℕ) → found < s.processors → IsSoundAt s code m (placed s found)
      placed_sound found lt = subst (λ (b : Bool). IsSoundAt s code m (if b then IsPlaced found else IsBroken 64)) (sym (lt-ltb found s.processors lt)) tt

      restart_sound : (p : ℕ) (o : Option Restart) → IsRestartThere s o → IsSoundAt s code m (IsAt p o)
      restart_sound p None a = absurd a
      restart_sound p (Some r) a = a

      -- a row begins
      begin_sound : (p : ℕ) (r : Restart) → stand_of state c ≡ IsAt p (Some r) → (finish : ℕ) → IsSoundAt s code m (at_finish s code c p (Some r) finish)
      begin_sound p r e (suc finish) = tt
      begin_sound p r e zero =
          let is = sound_at (IsAt p (Some r)) e in
          let sees = sees_at (IsAt p (Some r)) e in
          subst (λ (b : Bool). IsSoundAt s code m (begins_if s code (record { own = c; place = p; restart = r }) b)) (sym is)
          (stands_sound s code m (record { own = c; place = p; restart = r }) is (row_of s (record { own = c; place = p; restart = r }) r.kind) (elim (strand_or s code r.kind) [
            | inl strand ↦ strands.begins c p r e strand
            | inr deque ↦ subst (λ (z : Seat). IsSoundRow s code m z (row_of s z r.kind)) (λ i. record { own = c; place = p; restart = record { kind = r.kind; bottom = sees.1.bottom i } })
                (begins_sound s code r.kind (own_here c p sees.0 r.kind sees.1.kind) deque)
          ]))

      still : made ≤ made + 0
      still = omega arith

      -- the acts of a processor that is not done
      step_sound : (u : ℕ) → u < s.processors → (x : Standing) → stand_of state c ≡ x → Goal (Step u) x
      step_sound u lt IsLost e = waits s code made state sound c (λ z. let y : IsLost ≡ IsDone = sym e ∙ z in cc) (made + 0) still (placed s (read s ws (cells.CarryWord c))) (placed_sound (read s ws (cells.CarryWord c)) (carry_low (sees_at IsLost e).alive))
      step_sound u lt (IsPlaced p) e = waits s code made state sound c (λ z. let y : IsPlaced p ≡ IsDone = sym e ∙ z in cc) (made + 0) still (IsAt p (restart_of (read s ws (cells.RestartWord p))))
          (restart_sound p (restart_of (read s ws (cells.RestartWord p))) (sound.restarts p (sees_at (IsPlaced p) e).place))
      step_sound u lt (IsAt p None) e = absurd (sound_at (IsAt p None) e)
      step_sound u lt (IsAt p (Some r)) e = waits s code made state sound c (λ z. let y : IsAt p (Some r) ≡ IsDone = sym e ∙ z in cc) (made + 0) still
          (at_finish s code c p (Some r) (read s ws cells.FinishWord)) (begin_sound p r e (read s ws cells.FinishWord))
      step_sound u lt (IsWithin seat (Now next)) e = now_step seat next e u lt
      step_sound u lt (IsWithin seat (Store cell content next)) e = store_step seat cell content next e u
      step_sound u lt (IsWithin seat (Exchange cell old new next)) e = exchange_step seat cell old new next e u
      step_sound u lt (IsRunning seat rest) e = capsule_step seat rest e u
      step_sound u lt (IsBroken p) e = absurd (sound_at (IsBroken p) e)
      step_sound u lt IsDone e = tag_still
        where
          tag_still : IsSound s code (made + 0) state
          tag_still = subst (λ (n : ℕ). IsSound s code n state) {x = made} (omega arith) sound

      alive_at : (x : Standing) → x ≢ IsDone → Sees s m (kinds s ws) (bottoms s ws) c x → IsAlive m c
      alive_at IsLost ne a = a.alive
      alive_at (IsPlaced p) ne a = a.lives.alive
      alive_at (IsAt p r) ne a = a.0.lives.alive
      alive_at (IsWithin seat left) ne a = a.0.carried.lives.alive
      alive_at (IsRunning seat rest) ne a = a.0.carried.lives.alive
      alive_at (IsBroken p) ne a = a.alive
      alive_at IsDone ne a = absurd (ne refl)

      soft_now : stand_of state c ≢ IsDone → IsSound s code (made + 0) (record { words = ws; stand = slice_set state.stand c IsLost })
      soft_now alive = waits s code made state sound c alive (made + 0) still IsLost tt

      hard_now : (live : stand_of state c ≢ IsDone) → IsSound s code (made + 0) (record { words = store s ws (cells.DeadWord c) 1; stand = slice_set state.stand c IsDone })
      hard_now live = dead_write s code made state sound c live (made + 0) still 1 there there
          (ap one_dead (view_here s ws (Dead c) 1 lawful.0 (lt-ltb c s.processors there)))
          (one_of (m (Dead c)) (alive_at (stand_of state c) live (lawful.1.sees c)))
        where
          one_of : (w : Word) → (IsDead w → ⊥) → one_dead w ≡ 0
          one_of (Number zero) a = refl
          one_of (Number (suc n)) a = absurd (a tt)
          one_of (Empty x) a = refl
          one_of (Local x y) a = refl
          one_of (Job x y) a = refl
          one_of (Taken x y) a = refl
          one_of (Held x y) a = refl
          one_of (Linked x) a = refl
          one_of (Restarts x y) a = refl
          one_of Unread a = refl

      quit_fine : (why : Why) → IsFinish (quit_with c why) × IsNoBreak (quit_with c why)
      quit_fine Turns = (let few = s.within.processors_most in omega (arith, few, there), tt)
      quit_fine Watch = (tt, tt)

      quit_now : (why : Why) → stand_of state c ≢ IsDone → (b : Bool) → IsSound s code (made + 0) (record { words = if b then slice_set ws 0 (finish_word (quit_with c why)) else ws; stand = slice_set state.stand c IsLost })
      quit_now why live true = finish_write s code made state sound c live (made + 0) still (finish_word (quit_with c why))
          (subst SaysNoBreak (sym (read_back s ws cells.FinishWord (finish_word (quit_with c why)) lawful.0 tt)) (says_fine (quit_with c why) (quit_fine why).0 (quit_fine why).1)) IsLost tt
      quit_now why live false = waits s code made state sound c live (made + 0) still IsLost tt

      other_sound : (act : Act) (x : Standing) → stand_of state c ≡ x → ((u : ℕ) → act ≢ Step u) → Goal act x
      other_sound (Step u) x e none = absurd (none u refl)
      other_sound Soft IsDone e none = step_sound 0 (let few = s.within.processors_least in omega (arith, few)) IsDone e
      other_sound Hard IsDone e none = step_sound 0 (let few = s.within.processors_least in omega (arith, few)) IsDone e
      other_sound (Quit why) IsDone e none = step_sound 0 (let few = s.within.processors_least in omega (arith, few)) IsDone e
      other_sound Soft IsLost e none = soft_now (λ z. let y : IsLost ≡ IsDone = sym e ∙ z in cc)
      other_sound Soft (IsPlaced p) e none = soft_now (λ z. let y : IsPlaced p ≡ IsDone = sym e ∙ z in cc)
      other_sound Soft (IsAt p r) e none = soft_now (λ z. let y : IsAt p r ≡ IsDone = sym e ∙ z in cc)
      other_sound Soft (IsWithin seat row) e none = soft_now (λ z. let y : IsWithin seat row ≡ IsDone = sym e ∙ z in cc)
      other_sound Soft (IsRunning seat rest) e none = soft_now (λ z. let y : IsRunning seat rest ≡ IsDone = sym e ∙ z in cc)
      other_sound Soft (IsBroken p) e none = soft_now (λ z. let y : IsBroken p ≡ IsDone = sym e ∙ z in cc)
      other_sound Hard IsLost e none = hard_now (λ z. let y : IsLost ≡ IsDone = sym e ∙ z in cc)
      other_sound Hard (IsPlaced p) e none = hard_now (λ z. let y : IsPlaced p ≡ IsDone = sym e ∙ z in cc)
      other_sound Hard (IsAt p r) e none = hard_now (λ z. let y : IsAt p r ≡ IsDone = sym e ∙ z in cc)
      other_sound Hard (IsWithin seat row) e none = hard_now (λ z. let y : IsWithin seat row ≡ IsDone = sym e ∙ z in cc)
      other_sound Hard (IsRunning seat rest) e none = hard_now (λ z. let y : IsRunning seat rest ≡ IsDone = sym e ∙ z in cc)
      other_sound Hard (IsBroken p) e none = hard_now (λ z. let y : IsBroken p ≡ IsDone = sym e ∙ z in cc)
      other_sound (Quit why) IsLost e none = quit_now why (λ z. let y : IsLost ≡ IsDone = sym e ∙ z in cc) (slice_index ws 0 == 0)
      other_sound (Quit why) (IsPlaced p) e none = quit_now why (λ z. let y : IsPlaced p ≡ IsDone = sym e ∙ z in cc) (slice_index ws 0 == 0)
      other_sound (Quit why) (IsAt p r) e none = quit_now why (λ z. let y : IsAt p r ≡ IsDone = sym e ∙ z in cc) (slice_index ws 0 == 0)
      other_sound (Quit why) (IsWithin seat row) e none = quit_now why (λ z. let y : IsWithin seat row ≡ IsDone = sym e ∙ z in cc) (slice_index ws 0 == 0)
      other_sound (Quit why) (IsRunning seat rest) e none = quit_now why (λ z. let y : IsRunning seat rest ≡ IsDone = sym e ∙ z in cc) (slice_index ws 0 == 0)
      other_sound (Quit why) (IsBroken p) e none = quit_now why (λ z. let y : IsBroken p ≡ IsDone = sym e ∙ z in cc) (slice_index ws 0 == 0)

      act_sound : (act : Act) → IsActAmong s.processors act → Goal act (stand_of state c)
      act_sound (Step u) among = step_sound u among (stand_of state c) refl
      act_sound Soft among = other_sound Soft (stand_of state c) refl (λ u z. cc)
      act_sound Hard among = other_sound Hard (stand_of state c) refl (λ u z. cc)
      act_sound (Quit why) among = other_sound (Quit why) (stand_of state c) refl (λ u z. cc)

    pub turn_sound : (turn : Turn) → IsTurnAmong s.processors turn → IsSound s code (raised_by made state turn) (happens s code state turn)
    turn_sound turn among = act_sound turn.processor among.processor turn.act among.act
