-- A row stores no message but that of its own place, and exchanges none.
use Rattle.std.proofs.Common.{◌≡◌, ◌<◌, ℕ, true, List, [], ◌∷◌, refl, subst, arith}
use Rattle.ppm_cells.proofs.CellLemmas.{few_words}
use Rattle.ppm_cells.specs.declared.cell.Cell.{Cell}
use Rattle.ppm_cells.specs.declared.cell.Cell.TheVariants.{MessageWord}
use Rattle.ppm_cells.specs.Restart.{address_fields}
use Rattle.ppm_cells.specs.Fields.{Fit}
use Rattle.ppm_cells.specs.declared.restart.RestartKind.{RestartKind}
use Rattle.ppm_cells.specs.declared.shape.Shape.{Shape}
use Rattle.ppm_cells.specs.declared.shape.Takeover.{Takeover}
use Rattle.ppm_step.specs.Rows.{found_at, row_of}
use Rattle.ppm_step.specs.There.{restart_is_there}
use Rattle.ppm_step.proofs.ThereLemmas.{restart_fits}
use Rattle.ppm_step.specs.declared.content.Content.{Content}
use Rattle.ppm_step.specs.declared.row.Row.{Row}
use Rattle.ppm_step.specs.declared.row.Row.TheVariants.{Now, Store, Exchange}
use Rattle.ppm_step.specs.declared.row.Seat.{Seat}
use Rattle.ppm_step.specs.declared.row.Then.TheVariants.{Load, Install, Fork, Begin, Move, Enter, Again, Broken}
use Rattle.ppm_tickets.specs.Saw.{rest_of, AreFit, IsQuietCell, HasSeen, Strand, Looks}
use Rattle.ppm_tickets.specs.View.{content_by}
use Rattle.ppm_tickets.specs.Words.{Word, Spot}
use Rattle.ppm_tickets.proofs.WalkLemmas.{Walk, FairRow, found_fair, begun_fair}

-- a store in a message is in the own place's
abbrev pub OwnNote : (place : ℕ) → Cell → Content → Type 0
OwnNote p (MessageWord q) x = p ≡ q
OwnNote p _ x = Unit {0}

-- no exchange is of a message
abbrev pub NoNote : Cell → (old new : Content) → Type 0
NoNote (MessageWord q) old new = ⊥
NoNote _ old new = Unit {0}

quiet_note : (p : ℕ) (cell : Cell) (x : Content) → IsQuietCell cell → OwnNote p cell x
quiet_note p (MessageWord q) x quiet = absurd quiet
quiet_note p _ x quiet = tt

quiet_none : (cell : Cell) (old new : Content) → IsQuietCell cell → NoNote cell old new
quiet_none (MessageWord q) old new quiet = absurd quiet
quiet_none _ old new quiet = tt

note_walk : (how : Takeover) (seat : Seat) → Walk how (OwnNote seat.place) NoNote seat
note_walk how seat = record {
  counter = λ x. tt;
  block = λ a x. tt;
  message = λ x. refl;
  finish = λ x y. tt;
  order = λ a x y. tt;
  top = λ v x y. tt;
  entry = λ v j a b law f g. tt;
  holder = λ e v x y. tt;
}

module _ (s : Shape) (seat : Seat) (small : seat.place < 64) where
  abbrev Noting : Row → Type 0
  Noting row = FairRow s.takeover (OwnNote seat.place) NoNote row

  rest_notes : (v : ℕ) (row : Row) (ws : List Word) → AreFit ws → Noting row → Noting (rest_of s seat v row ws)
  rest_notes v row [] fit f = f
  rest_notes v (Now (Load point)) (w ∷ ws) fit f =
      rest_notes v (found_at s seat v point (content_by w)) ws fit.1
      (found_fair s (OwnNote seat.place) NoNote seat (note_walk s.takeover seat) small v point (content_by w) f fit.0)
  rest_notes v (Now (Install x)) (w ∷ ws) fit f = tt
  rest_notes v (Now (Fork x)) (w ∷ ws) fit f = tt
  rest_notes v (Now (Begin x y z)) (w ∷ ws) fit f = tt
  rest_notes v (Now (Move x)) (w ∷ ws) fit f = tt
  rest_notes v (Now (Enter x)) (w ∷ ws) fit f = tt
  rest_notes v (Now Again) (w ∷ ws) fit f = tt
  rest_notes v (Now Broken) (w ∷ ws) fit f = tt
  rest_notes v (Store c x next) (w ∷ ws) fit f = rest_notes v (Now next) ws fit.1 f.1
  rest_notes v (Exchange c old new next) (w ∷ ws) fit f = rest_notes v (Now next) ws fit.1 f.1

abbrev NotesSo : Seat → Row → Type 0
NotesSo seat (Store c x next) = OwnNote seat.place c x
NotesSo seat (Exchange c old new next) = NoNote c old new
NotesSo seat (Now next) = Unit {0}

pub row_notes : (s : Shape) (seat : Seat) → seat.place < s.processors → restart_is_there s seat.restart ≡ true
    → (m : Spot → Word) (row : Row) → HasSeen s m seat row → NotesSo seat row
row_notes s seat place there m row seen = by row seen
  where
    small : seat.place < 64
    small = let few = s.within.processors_most in omega (arith, place, few)

    fair : (v : ℕ) (ws : List Word) → AreFit ws → (row : Row) → rest_of s seat v (row_of s seat seat.restart.kind) ws ≡ row
        → FairRow s.takeover (OwnNote seat.place) NoNote row
    fair v ws fit row is =
        let first = begun_fair s (OwnNote seat.place) NoNote seat (note_walk s.takeover seat) small seat.restart.kind
        (λ block k. (subst (λ (x : RestartKind). Fit (address_fields x)) k (restart_fits s (few_words s) seat.restart there).0).0) in
        subst (FairRow s.takeover (OwnNote seat.place) NoNote) is (rest_notes s seat small v (row_of s seat seat.restart.kind) ws fit first)

    by : (row : Row) → HasSeen s m seat row → NotesSo seat row
    by (Now next) seen = tt
    by (Store c x next) (Strand is quiet) = quiet_note seat.place c x quiet.0
    by (Store c x next) (Looks v ws fit is saw) = (fair v ws fit (Store c x next) is).0
    by (Exchange c old new next) (Strand is quiet) = quiet_none c old new quiet.0
    by (Exchange c old new next) (Looks v ws fit is saw) = (fair v ws fit (Exchange c old new next) is).0
