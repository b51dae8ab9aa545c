-- The rows of Take and Take2. One of Take tries to make its bid and goes on to Take2, or seeks work again; one of Take2 moves to the place for which
-- it has bid, or seeks work again.
use Rattle.std.proofs.Common.{◌≡◌, ◌⊎◌, ◌==◌, ℕ, zero, suc, Bool, true, false, if◌then◌else◌, List, [], ◌∷◌, inl, inr, refl, sym, ap, ◌∙◌, subst}
use Rattle.std.specs.Prelude.{◌&&◌}
use Rattle.ppm_cells.specs.declared.holder.Holder.{Holder as AHold}
use Rattle.ppm_cells.specs.declared.restart.RestartKind.{RestartKind}
use Rattle.ppm_cells.specs.declared.restart.RestartKind.TheVariants.{Seek, Take, Take2}
use Rattle.ppm_cells.specs.declared.shape.Shape.{Shape}
use Rattle.ppm_cells.specs.declared.shape.Takeover.{Takeover}
use Rattle.ppm_cells.specs.declared.shape.Takeover.TheVariants.{ByPlaces, ByEntries}
use Rattle.ppm_step.specs.Rows.{with_kind, lowered, by_places, found_at, row_of}
use Rattle.ppm_step.specs.declared.row.Point.TheVariants.{BidMessage, BidAgain, BidHolder}
use Rattle.ppm_step.specs.declared.row.Row.{Row}
use Rattle.ppm_step.specs.declared.row.Row.TheVariants.{Now, Exchange}
use Rattle.ppm_step.specs.declared.row.Seat.{Seat}
use Rattle.ppm_step.specs.declared.row.Then.TheVariants.{Load, Install, Move, Broken}
use Rattle.ppm_tickets.specs.Saw.{rest_of, Saw, IsStrand, HasSeen, Strand, Looks}
use Rattle.ppm_tickets.specs.View.{content_by}
use Rattle.ppm_tickets.specs.Words.{Word, Empty, Local, Job, Taken, Held, Number, Linked, Restarts, Unread, Spot, Bid}

-- a row of Take
abbrev pub TakeSo : Seat → (v d : ℕ) → Row → Type 0
TakeSo seat v d (Now (Load point)) = point ≡ BidMessage v d
TakeSo seat v d (Exchange c old new next) = next ≡ with_kind seat (Take2 v)
TakeSo seat v d (Now (Install re)) = (re.kind ≡ Take2 v) ⊎ (re.kind ≡ Seek)
TakeSo seat v d (Now Broken) = Unit {0}
TakeSo seat v d _ = ⊥

module _ (s : Shape) (seat : Seat) (v d u : ℕ) where
  abbrev So : Row → List Word → Type 0
  So row ws = TakeSo seat v d (rest_of s seat u row ws)

  broken_so : (ws : List Word) → So (Now Broken) ws
  broken_so [] = tt
  broken_so (w ∷ ws) = tt

  installs_so : (k : RestartKind) → (k ≡ Take2 v) ⊎ (k ≡ Seek) → (ws : List Word) → So (Now (with_kind seat k)) ws
  installs_so k is [] = is
  installs_so k is (w ∷ ws) = tt

  lowered_so : (t : ℕ) (message : AHold) (ws : List Word) → So (lowered t seat v d message) ws
  lowered_so zero message ws = broken_so ws
  lowered_so (suc t) message [] = refl
  lowered_so (suc t) message (w ∷ ws) = installs_so (Take2 v) (inl refl) ws

  made_so : (message : AHold) (y : Bool) (ws : List Word) → So (if y then lowered message.tag seat v d message else Now (with_kind seat Seek)) ws
  made_so message true ws = lowered_so message.tag message ws
  made_so message false ws = installs_so Seek (inr refl) ws

  take_so : (ws : List Word) → So (Now (Load (BidMessage v d))) ws
  take_so [] = refl
  take_so (Held t c ∷ ws) = made_so (record { tag = t; processor = c }) (c == seat.own) ws
  take_so (Empty t ∷ ws) = broken_so ws
  take_so (Local t x ∷ ws) = broken_so ws
  take_so (Job t x ∷ ws) = broken_so ws
  take_so (Taken t x ∷ ws) = broken_so ws
  take_so (Number x ∷ ws) = broken_so ws
  take_so (Linked x ∷ ws) = broken_so ws
  take_so (Restarts x y ∷ ws) = broken_so ws
  take_so (Unread ∷ ws) = broken_so ws

  take_by : (how : Takeover) (ws : List Word) → So (by_places how (Now (Load (BidMessage v d)))) ws
  take_by ByPlaces ws = take_so ws
  take_by ByEntries ws = broken_so ws

pub take_row : (s : Shape) (m : Spot → Word) (seat : Seat) (row : Row) (v d : ℕ) → seat.restart.kind ≡ Take v d → HasSeen s m seat row → TakeSo seat v d row
take_row s m seat row v d kind (Strand is quiet) = absurd (subst IsStrand kind is)
take_row s m seat row v d kind (Looks u ws fit is saw) =
    subst (TakeSo seat v d) is
    (subst (λ (k : RestartKind). TakeSo seat v d (rest_of s seat u (row_of s seat k) ws)) (sym kind) (take_by s seat v d u s.takeover ws))

-- a row of Take2; the message that it has loaded stands
abbrev pub Take2So : Seat → (m : Spot → Word) → (v : ℕ) → Row → Type 0
Take2So seat m v (Now (Load point)) =
    (point ≡ BidAgain v) ⊎ ((message : AHold) × (point ≡ BidHolder v message) × (m (Bid seat.place) ≡ Held message.tag message.processor))
Take2So seat m v (Now (Install re)) = re.kind ≡ Seek
Take2So seat m v (Now (Move p)) = p ≡ v
Take2So seat m v (Now Broken) = Unit {0}
Take2So seat m v _ = ⊥

module _ (s : Shape) (m : Spot → Word) (seat : Seat) (v u : ℕ) where
  abbrev So2 : Row → List Word → Type 0
  So2 row ws = Take2So seat m v (rest_of s seat u row ws)

  broken2 : (ws : List Word) → So2 (Now Broken) ws
  broken2 [] = tt
  broken2 (w ∷ ws) = tt

  ends2 : (y : Bool) (ws : List Word) → So2 (if y then Now (Move v) else Now (with_kind seat Seek)) ws
  ends2 true [] = refl
  ends2 true (w ∷ ws) = tt
  ends2 false [] = refl
  ends2 false (w ∷ ws) = tt

  held2 : (message : AHold) (w : Word) (ws : List Word) → So2 (found_at s seat u (BidHolder v message) (content_by w)) ws
  held2 message (Held t c) ws = ends2 ((message.tag == t) && (message.processor == c)) ws
  held2 message (Empty t) ws = broken2 ws
  held2 message (Local t x) ws = broken2 ws
  held2 message (Job t x) ws = broken2 ws
  held2 message (Taken t x) ws = broken2 ws
  held2 message (Number x) ws = broken2 ws
  held2 message (Linked x) ws = broken2 ws
  held2 message (Restarts x y) ws = broken2 ws
  held2 message Unread ws = broken2 ws

  first2 : (message : AHold) (y : Bool) → m (Bid seat.place) ≡ Held message.tag message.processor
      → So2 (if y then Now (Load (BidHolder v message)) else Now (with_kind seat Seek)) []
  first2 message true stands = inr (message, refl, stands)
  first2 message false stands = refl

  more2 : (message : AHold) (y : Bool) (w : Word) (ws : List Word)
      → So2 (if y then Now (Load (BidHolder v message)) else Now (with_kind seat Seek)) (w ∷ ws)
  more2 message true w ws = held2 message w ws
  more2 message false w ws = tt

  take2_so : (ws : List Word) → Saw s seat u m (Unit {0}) (Now (Load (BidAgain v))) ws → So2 (Now (Load (BidAgain v))) ws
  take2_so [] saw = inl refl
  take2_so (Held t c ∷ []) saw = first2 (record { tag = t; processor = c }) (c == seat.own) (sym (saw.1 refl))
  take2_so (Held t c ∷ w ∷ ws) saw = more2 (record { tag = t; processor = c }) (c == seat.own) w ws
  take2_so (Empty t ∷ ws) saw = broken2 ws
  take2_so (Local t x ∷ ws) saw = broken2 ws
  take2_so (Job t x ∷ ws) saw = broken2 ws
  take2_so (Taken t x ∷ ws) saw = broken2 ws
  take2_so (Number x ∷ ws) saw = broken2 ws
  take2_so (Linked x ∷ ws) saw = broken2 ws
  take2_so (Restarts x y ∷ ws) saw = broken2 ws
  take2_so (Unread ∷ ws) saw = broken2 ws

  take2_by : (how : Takeover) (ws : List Word) → Saw s seat u m (Unit {0}) (by_places how (Now (Load (BidAgain v)))) ws
      → So2 (by_places how (Now (Load (BidAgain v)))) ws
  take2_by ByPlaces ws saw = take2_so ws saw
  take2_by ByEntries ws saw = broken2 ws

pub take2_row : (s : Shape) (m : Spot → Word) (seat : Seat) (row : Row) (v : ℕ) → seat.restart.kind ≡ Take2 v → HasSeen s m seat row → Take2So seat m v row
take2_row s m seat row v kind (Strand is quiet) = absurd (subst IsStrand kind is)
take2_row s m seat row v kind (Looks u ws fit is saw) =
    subst (Take2So seat m v) (ap (λ (k : RestartKind). rest_of s seat u (row_of s seat k) ws) (sym kind) ∙ is)
    (take2_by s m seat v u s.takeover ws (subst (λ (k : RestartKind). Saw s seat u m (Unit {0}) (row_of s seat k) ws) kind saw))
