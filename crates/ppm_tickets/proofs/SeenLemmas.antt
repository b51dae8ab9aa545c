-- What was seen after a step.
use Rattle.std.proofs.Common.{◌∙◌, ◌≡◌, ◌≢◌, ◌⊎◌, ℕ, List, [], ◌∷◌, ◌++◌, inl, inr, sym, ap, subst}
use Rattle.ppm_cells.specs.declared.cell.Cell.{Cell}
use Rattle.ppm_cells.specs.declared.shape.Shape.{Shape}
use Rattle.ppm_cells.specs.declared.shape.Takeover.{Takeover}
use Rattle.ppm_cells.specs.declared.shape.Takeover.TheVariants.{ByPlaces, ByEntries}
use Rattle.ppm_step.specs.declared.row.Point.TheVariants.{TakenMessage, ClosedRestart}
use Rattle.ppm_step.specs.Contents.{IsContent}
use Rattle.ppm_step.specs.Rows.{found_at}
use Rattle.ppm_step.specs.declared.content.Content.{Content}
use Rattle.ppm_step.specs.declared.row.Point.{Point}
use Rattle.ppm_step.specs.declared.row.Row.{Row}
use Rattle.ppm_step.specs.declared.row.Row.TheVariants.{Now, Store, Exchange}
use Rattle.ppm_step.specs.declared.row.Seat.{Seat}
use Rattle.ppm_step.specs.declared.row.Then.{Then}
use Rattle.ppm_step.specs.declared.row.Then.TheVariants.{Load, Install, Fork, Begin, Move, Enter, Again, Broken}
use Rattle.ppm_tickets.specs.Lawful.{May, Grows}
use Rattle.ppm_tickets.specs.Saw.{spot_at, rest_of, Knows, Saw, AreFit}
use Rattle.ppm_tickets.specs.View.{word_as, content_by, reading_by, spot}
use Rattle.ppm_tickets.specs.Words.{Word, Spot, Message, Restart as RestartSpot}
use Rattle.ppm_tickets.proofs.WriteLemmas.{may_same, may_on}

missed_as : {A B X Y : Type 0} → (X → Y) → A ⊎ (B × X) → A ⊎ (B × Y)
missed_as f (inl a) = inl a
missed_as f (inr b) = inr (b.0, f b.1)

knows_on : (how : Takeover) (seat : Seat) (v : ℕ) (m n : Spot → Word) → Grows how seat.own seat.place m n → (point : Point) (w : Word) → Knows how seat v m point w → Knows how seat v n point w
knows_on how seat v m n g (TakenMessage by u i) w a = by_how how g a
  where
    by_how : (how : Takeover) → Grows how seat.own seat.place m n → Knows how seat v m (TakenMessage by u i) w → Knows how seat v n (TakenMessage by u i) w
    by_how ByPlaces g a = λ e. a e ∙ g.each (Message by) e
    by_how ByEntries g a = (elim a.0 [ inl e ↦ inl e | inr d ↦ inr (g.frozen by d).0 ], a.1 ∙ elim a.0 [ inl e ↦ g.each (Message by) e | inr d ↦ (g.frozen by d).2 ])
knows_on how seat v m n g (ClosedRestart u i x) w a = by_how how g a
  where
    by_how : (how : Takeover) → Grows how seat.own seat.place m n → Knows how seat v m (ClosedRestart u i x) w → Knows how seat v n (ClosedRestart u i x) w
    by_how ByPlaces g a = λ e. a e ∙ g.each (RestartSpot u) e
    by_how ByEntries g a = ((g.frozen u a.0).0, elim a.1 [ inl z ↦ inl (z ∙ (g.frozen u a.0).1) | inr z ↦ inr z ])
knows_on how seat v m n g point w a = let c = spot_at seat v point in may_on seat.own seat.place c w (m c) (n c) a (g.each c)

pub fit_more : (ws : List Word) (w : Word) → AreFit ws → IsContent (content_by w) → AreFit (ws ++ w ∷ [])
fit_more [] w a f = (f, tt)
fit_more (x ∷ ws) w a f = (a.0, fit_more ws w a.1 f)

module _ (s : Shape) (seat : Seat) (v : ℕ) where
  abbrev rest : Row → List Word → Row
  rest = rest_of s seat v

  abbrev saw : (Spot → Word) → Type 0 → Row → List Word → Type 0
  saw = Saw s seat v

  abbrev may : Spot → Word → Word → Type 0
  may = May seat.own seat.place

  -- what is known after a load, a store and an exchange
  abbrev after_load : (Spot → Word) → Type 0 → Point → Word → Type 0
  after_load m before point w = before × Knows s.takeover seat v m point w

  abbrev after_store : (Spot → Word) → Type 0 → Cell → Content → Type 0
  after_store m before c x = before × may (spot (reading_by x) c) (word_as x) (m (spot (reading_by x) c))

  abbrev after_exchange : (Spot → Word) → Type 0 → Cell → (old new : Content) → Word → Type 0
  after_exchange m before c old new w =
      ((w ≡ word_as new) ⊎ ((w ≢ word_as old) × before)) × may (spot (reading_by new) c) w (m (spot (reading_by new) c))

  -- what others do leaves it seen
  pub seen_stays : (m n : Spot → Word) → Grows s.takeover seat.own seat.place m n → (before after : Type 0) → (before → after) → (row : Row) (ws : List Word) → saw m before row ws → saw n after row ws
  seen_stays m n g before after f row [] a = f a
  seen_stays m n g before after f (Now (Load point)) (w ∷ ws) a =
      seen_stays m n g (before × Knows s.takeover seat v m point w) (after × Knows s.takeover seat v n point w) (λ x. (f x.0, knows_on s.takeover seat v m n g point w x.1)) (found_at s seat v point (content_by w)) ws a
  seen_stays m n g before after f (Store d x next) (w ∷ ws) a =
      let c = spot (reading_by x) d in
      seen_stays m n g (before × may c (word_as x) (m c)) (after × may c (word_as x) (n c)) (λ y. (f y.0, may_on seat.own seat.place c (word_as x) (m c) (n c) y.1 (g.each c))) (Now next) ws a
  seen_stays m n g before after f (Exchange d old new next) (w ∷ ws) a =
      let c = spot (reading_by new) d in
      seen_stays m n g (((w ≡ word_as new) ⊎ ((w ≢ word_as old) × before)) × may c w (m c)) (((w ≡ word_as new) ⊎ ((w ≢ word_as old) × after)) × may c w (n c))
      (λ x. (missed_as f x.0, may_on seat.own seat.place c w (m c) (n c) x.1 (g.each c))) (Now next) ws a
  seen_stays m n g before after f (Now (Install r)) (w ∷ ws) a = a
  seen_stays m n g before after f (Now (Fork r)) (w ∷ ws) a = a
  seen_stays m n g before after f (Now (Begin r x y)) (w ∷ ws) a = a
  seen_stays m n g before after f (Now (Move r)) (w ∷ ws) a = a
  seen_stays m n g before after f (Now (Enter r)) (w ∷ ws) a = a
  seen_stays m n g before after f (Now Again) (w ∷ ws) a = a
  seen_stays m n g before after f (Now Broken) (w ∷ ws) a = a

  -- a load of one's own, of a word that stands for what was found
  pub load_rest : (row : Row) (ws : List Word) (point : Point) (w : Word) → rest row ws ≡ Now (Load point) → rest row (ws ++ w ∷ []) ≡ found_at s seat v point (content_by w)
  load_rest row [] point w e = ap (λ (r : Row). rest r (w ∷ [])) e
  load_rest (Now (Load p)) (x ∷ ws) point w e = load_rest (found_at s seat v p (content_by x)) ws point w e
  load_rest (Store d y next) (x ∷ ws) point w e = load_rest (Now next) ws point w e
  load_rest (Exchange d y z next) (x ∷ ws) point w e = load_rest (Now next) ws point w e
  load_rest (Now (Install r)) (x ∷ ws) point w e = absurd (cc)
  load_rest (Now (Fork r)) (x ∷ ws) point w e = absurd (cc)
  load_rest (Now (Begin r y z)) (x ∷ ws) point w e = absurd (cc)
  load_rest (Now (Move r)) (x ∷ ws) point w e = absurd (cc)
  load_rest (Now (Enter r)) (x ∷ ws) point w e = absurd (cc)
  load_rest (Now Again) (x ∷ ws) point w e = absurd (cc)
  load_rest (Now Broken) (x ∷ ws) point w e = absurd (cc)

  pub load_seen : (m : Spot → Word) (before : Type 0) (row : Row) (ws : List Word) (point : Point) (w : Word) → rest row ws ≡ Now (Load point) → Knows s.takeover seat v m point w
      → saw m before row ws → saw m before row (ws ++ w ∷ [])
  load_seen m before row [] point w e k a = subst (λ (r : Row). saw m before r (w ∷ [])) (sym e) (a, k)
  load_seen m before (Now (Load p)) (x ∷ ws) point w e k a = load_seen m (after_load m before p x) (found_at s seat v p (content_by x)) ws point w e k a
  load_seen m before (Store d y next) (x ∷ ws) point w e k a = load_seen m (after_store m before d y) (Now next) ws point w e k a
  load_seen m before (Exchange d y z next) (x ∷ ws) point w e k a = load_seen m (after_exchange m before d y z x) (Now next) ws point w e k a
  load_seen m before (Now (Install r)) (x ∷ ws) point w e k a = a
  load_seen m before (Now (Fork r)) (x ∷ ws) point w e k a = a
  load_seen m before (Now (Begin r y z)) (x ∷ ws) point w e k a = a
  load_seen m before (Now (Move r)) (x ∷ ws) point w e k a = a
  load_seen m before (Now (Enter r)) (x ∷ ws) point w e k a = a
  load_seen m before (Now Again) (x ∷ ws) point w e k a = a
  load_seen m before (Now Broken) (x ∷ ws) point w e k a = a

  -- an exchange of one's own: whatever the words were before
  pub exchange_rest : (row : Row) (ws : List Word) (c : Cell) (old new : Content) (w : Word) (next : Then) → rest row ws ≡ Exchange c old new next → rest row (ws ++ w ∷ []) ≡ Now next
  exchange_rest row [] c old new w next e = ap (λ (r : Row). rest r (w ∷ [])) e
  exchange_rest (Now (Load p)) (x ∷ ws) c old new w next e = exchange_rest (found_at s seat v p (content_by x)) ws c old new w next e
  exchange_rest (Store d y to) (x ∷ ws) c old new w next e = exchange_rest (Now to) ws c old new w next e
  exchange_rest (Exchange d y z to) (x ∷ ws) c old new w next e = exchange_rest (Now to) ws c old new w next e
  exchange_rest (Now (Install r)) (x ∷ ws) c old new w next e = absurd (cc)
  exchange_rest (Now (Fork r)) (x ∷ ws) c old new w next e = absurd (cc)
  exchange_rest (Now (Begin r y z)) (x ∷ ws) c old new w next e = absurd (cc)
  exchange_rest (Now (Move r)) (x ∷ ws) c old new w next e = absurd (cc)
  exchange_rest (Now (Enter r)) (x ∷ ws) c old new w next e = absurd (cc)
  exchange_rest (Now Again) (x ∷ ws) c old new w next e = absurd (cc)
  exchange_rest (Now Broken) (x ∷ ws) c old new w next e = absurd (cc)

  pub exchange_made : (m n : Spot → Word) (before after : Type 0) (row : Row) (ws : List Word) (c : Cell) (old new : Content) (next : Then) → rest row ws ≡ Exchange c old new next
      → n (spot (reading_by new) c) ≡ word_as new → saw m before row ws → saw n after row (ws ++ n (spot (reading_by new) c) ∷ [])
  exchange_made m n before after row [] c old new next e d a =
      let at = spot (reading_by new) c in subst (λ (r : Row). saw n after r (n at ∷ [])) (sym e) (inl d, may_same seat.own seat.place at (n at))
  exchange_made m n before after (Now (Load p)) (x ∷ ws) c old new next e k a = exchange_made m n (after_load m before p x) (after_load n after p x) (found_at s seat v p (content_by x)) ws c old new next e k a
  exchange_made m n before after (Store d y to) (x ∷ ws) c old new next e k a = exchange_made m n (after_store m before d y) (after_store n after d y) (Now to) ws c old new next e k a
  exchange_made m n before after (Exchange d y z to) (x ∷ ws) c old new next e k a = exchange_made m n (after_exchange m before d y z x) (after_exchange n after d y z x) (Now to) ws c old new next e k a
  exchange_made m n before after (Now (Install r)) (x ∷ ws) c old new next e k a = a
  exchange_made m n before after (Now (Fork r)) (x ∷ ws) c old new next e k a = a
  exchange_made m n before after (Now (Begin r y z)) (x ∷ ws) c old new next e k a = a
  exchange_made m n before after (Now (Move r)) (x ∷ ws) c old new next e k a = a
  exchange_made m n before after (Now (Enter r)) (x ∷ ws) c old new next e k a = a
  exchange_made m n before after (Now Again) (x ∷ ws) c old new next e k a = a
  exchange_made m n before after (Now Broken) (x ∷ ws) c old new next e k a = a

  pub exchange_missed : (m : Spot → Word) (before : Type 0) (row : Row) (ws : List Word) (c : Cell) (old new : Content) (next : Then) → rest row ws ≡ Exchange c old new next
      → m (spot (reading_by new) c) ≢ word_as old → saw m before row ws → saw m before row (ws ++ m (spot (reading_by new) c) ∷ [])
  exchange_missed m before row [] c old new next e d a =
      let at = spot (reading_by new) c in subst (λ (r : Row). saw m before r (m at ∷ [])) (sym e) (inr (d, a), may_same seat.own seat.place at (m at))
  exchange_missed m before (Now (Load p)) (x ∷ ws) c old new next e k a = exchange_missed m (after_load m before p x) (found_at s seat v p (content_by x)) ws c old new next e k a
  exchange_missed m before (Store d y to) (x ∷ ws) c old new next e k a = exchange_missed m (after_store m before d y) (Now to) ws c old new next e k a
  exchange_missed m before (Exchange d y z to) (x ∷ ws) c old new next e k a = exchange_missed m (after_exchange m before d y z x) (Now to) ws c old new next e k a
  exchange_missed m before (Now (Install r)) (x ∷ ws) c old new next e k a = a
  exchange_missed m before (Now (Fork r)) (x ∷ ws) c old new next e k a = a
  exchange_missed m before (Now (Begin r y z)) (x ∷ ws) c old new next e k a = a
  exchange_missed m before (Now (Move r)) (x ∷ ws) c old new next e k a = a
  exchange_missed m before (Now (Enter r)) (x ∷ ws) c old new next e k a = a
  exchange_missed m before (Now Again) (x ∷ ws) c old new next e k a = a
  exchange_missed m before (Now Broken) (x ∷ ws) c old new next e k a = a
