-- What a place that is about to begin a branch has of it, with takeover by entries: it got it back or stole
-- it, or it inherits from a closed place that did; so no two places are about to begin one.
use Rattle.std.proofs.Common.{◌≡◌, ◌⊎◌, ◌-◌, ◌+◌, if◌then◌else◌, ℕ, zero, suc, List, [], ◌∷◌, length, Bool, true, false, inl, inr, refl, sym, ap, ◌∙◌, subst, arith}
use Rattle.std.specs.Prelude.{nat_lt, ◌^◌}
use Rattle.ppm_cells.specs.Cells.{word_count}
use Rattle.ppm_cells.specs.declared.cell.Cell.TheVariants.{EntryWord}
use Rattle.ppm_cells.specs.declared.entry.Entry.TheVariants as entries
use Rattle.ppm_cells.specs.declared.restart.Restart.{Restart}
use Rattle.ppm_cells.specs.declared.restart.RestartKind.{RestartKind}
use Rattle.ppm_cells.specs.declared.restart.RestartKind.TheVariants.{Pop2, Steal, Check}
use Rattle.ppm_cells.specs.declared.shape.Shape.{Shape}
use Rattle.ppm_cells.specs.declared.shape.Takeover.TheVariants.{ByEntries}
use Rattle.ppm_code.specs.declared.code.CodeParts.{CodeParts}
use Rattle.ppm_step.specs.Rows.{row_of, raised}
use Rattle.ppm_step.specs.Standings.{IsWithin}
use Rattle.ppm_step.specs.State.{State, stand_of}
use Rattle.ppm_step.specs.declared.row.Point.TheVariants.{Offset, PopAgain, PopAbove}
use Rattle.ppm_step.specs.declared.row.Row.{Row}
use Rattle.ppm_step.specs.declared.row.Row.TheVariants.{Now}
use Rattle.ppm_step.specs.declared.row.Seat.{Seat}
use Rattle.ppm_step.specs.declared.row.Then.TheVariants.{Load, Install, Begin, Broken}
use Rattle.ppm_tickets.specs.Heirs.{Inherits, MayBegin, MayTake, ChecksSo, Begins, IsTaker, HeirsTake, OneTakes, OneInherits}
use Rattle.ppm_tickets.specs.Homes.{Home, Popping, Stolen}
use Rattle.ppm_tickets.specs.Lawful.{IsLocal, IsEmpty, IsClaim, IsThief, Pops, AtBottom, heir_from, IsTrail, Closed, May, Estate}
use Rattle.ppm_tickets.specs.Renewal.{IsLawful}
use Rattle.ppm_tickets.specs.Saw.{IsStrand, rest_of, Saw, HasSeen, Strand, Looks, Sees}
use Rattle.ppm_tickets.specs.View.{view, kinds, bottoms, with_restarts}
use Rattle.ppm_tickets.specs.Words.{Word, Empty, Local, Job, Taken, Held, Number, Linked, Restarts, Unread, Spot, Slot}
use Rattle.ppm_tickets.proofs.EffectLemmas.{not_empty_local, gives_local}
use Rattle.ppm_tickets.proofs.EstateLemmas.{claims_shut, own, here}
use Rattle.ppm_tickets.proofs.HeirLemmas.{one_end}
use Rattle.ppm_tickets.proofs.HeirRows.{heirs_see}
use Rattle.ppm_tickets.proofs.StepLemmas.{shut_not}
use Rattle.ppm_tickets.proofs.WriteLemmas.{own_stays}

module _ (s : Shape) (seat : Seat) (v : ℕ) (M : Spot → Word) (r' : ℕ) where
  abbrev p : ℕ
  p = seat.place

  abbrev B : ℕ
  B = seat.restart.bottom

  abbrev Left : Row → List Word → Type 0
  Left row ws = Begins r' (rest_of s seat v row ws)

  abbrev Has : Type 0 → Row → List Word → Type 0
  Has before row ws = Saw s seat v M before row ws

  install_ends : (re : Restart) (ws : List Word) → Left (Now (Install re)) ws → ⊥
  install_ends re [] t = t
  install_ends re (w ∷ ws) t = t

  broken_ends : (ws : List Word) → Left (Now Broken) ws → ⊥
  broken_ends [] t = t
  broken_ends (w ∷ ws) t = t

  -- from the load of the offset on
  offset : (before : Type 0) (r low : ℕ) (ws : List Word) → Left (Now (Load (Offset r low))) ws → Has before (Now (Load (Offset r low))) ws → (r ≡ r') × before
  offset before r low [] t saw = (t, saw)
  offset before r low (Number d ∷ ws) t saw = by (nat_lt (r + d) (word_count s)) ws t saw
    where
      by : (y : Bool) (ws : List Word) → Left (if y then Now (Begin r (r + d) low) else Now Broken) ws → Has (before × Unit {0}) (if y then Now (Begin r (r + d) low) else Now Broken) ws → (r ≡ r') × before
      by true [] t saw = (t, saw.0)
      by true (x ∷ ws) t saw = absurd t
      by false ws t saw = absurd (broken_ends ws t)
  offset before r low (Empty t0 ∷ ws) t saw = absurd (broken_ends ws t)
  offset before r low (Local t0 x ∷ ws) t saw = absurd (broken_ends ws t)
  offset before r low (Job t0 x ∷ ws) t saw = absurd (broken_ends ws t)
  offset before r low (Taken t0 x ∷ ws) t saw = absurd (broken_ends ws t)
  offset before r low (Held t0 x ∷ ws) t saw = absurd (broken_ends ws t)
  offset before r low (Linked x ∷ ws) t saw = absurd (broken_ends ws t)
  offset before r low (Restarts x y ∷ ws) t saw = absurd (broken_ends ws t)
  offset before r low (Unread ∷ ws) t saw = absurd (broken_ends ws t)

  -- the entry below is local, or the one at the bottom is empty
  abbrev Popped : Type 0
  Popped = IsLocal (M (Slot p (B - 1))) ⊎ IsEmpty (M (Slot p B))

  local_below : (t0 x : ℕ) → May seat.own p (Slot p (B - 1)) (Local t0 x) (M (Slot p (B - 1))) → IsLocal (M (Slot p (B - 1)))
  local_below t0 x a = subst IsLocal (own_stays seat.own p (B - 1) (Local t0 x) (M (Slot p (B - 1))) (λ z. z) a) tt

  above : (r t0 x : ℕ) (ws : List Word) → Left (Now (Load (PopAbove r))) ws → Has (Unit {0} × May seat.own p (Slot p (B - 1)) (Local t0 x) (M (Slot p (B - 1)))) (Now (Load (PopAbove r))) ws → (r ≡ r') × Popped
  above r t0 x [] t saw = absurd t
  above r t0 x (Empty y ∷ ws) t saw = let a = offset _ r (B - 1) ws t saw in (a.0, inl (local_below t0 x a.1.0.1))
  above r t0 x (Job y z ∷ ws) t saw = let a = offset _ r (B - 1) ws t saw in (a.0, inl (local_below t0 x a.1.0.1))
  above r t0 x (Taken y z ∷ ws) t saw = let a = offset _ r (B - 1) ws t saw in (a.0, inl (local_below t0 x a.1.0.1))
  above r t0 x (Local y z ∷ ws) t saw = by (nat_lt (y + 1) (2 ^ 34)) ws t saw
    where
      by : (q : Bool) (ws : List Word) → Left (raised (EntryWord p B) (entries.Local y z) (entries.Empty (y + 1)) (Load (Offset r (B - 1))) q) ws
          → Has ((Unit {0} × May seat.own p (Slot p (B - 1)) (Local t0 x) (M (Slot p (B - 1)))) × May seat.own p (Slot p B) (Local y z) (M (Slot p B))) (raised (EntryWord p B) (entries.Local y z) (entries.Empty (y + 1)) (Load (Offset r (B - 1))) q) ws
          → (r ≡ r') × Popped
      by true [] t saw = absurd t
      by true (w ∷ ws) t saw = let a = offset _ r (B - 1) ws t saw in (
        a.0,
        elim a.1.0 [
          | inl made ↦ inr (subst IsEmpty (own_stays seat.own p B (Empty (y + 1)) (M (Slot p B)) (λ k. k) (subst (λ (k : Word). May seat.own p (Slot p B) k (M (Slot p B))) made a.1.1)) tt)
          | inr missed ↦ inl (local_below t0 x missed.1.0.1)
        ],
      )
      by false ws t saw = absurd (broken_ends ws t)
  above r t0 x (Number n ∷ ws) t saw = absurd (broken_ends ws t)
  above r t0 x (Held n y ∷ ws) t saw = absurd (broken_ends ws t)
  above r t0 x (Linked n ∷ ws) t saw = absurd (broken_ends ws t)
  above r t0 x (Restarts n y ∷ ws) t saw = absurd (broken_ends ws t)
  above r t0 x (Unread ∷ ws) t saw = absurd (broken_ends ws t)

  pub popped : (r : ℕ) (ws : List Word) → Left (Now (Load (PopAgain r))) ws → Has (Unit {0}) (Now (Load (PopAgain r))) ws → (r ≡ r') × Popped
  popped r [] t saw = absurd t
  popped r (Local t0 x ∷ ws) t saw = above r t0 x ws t saw
  popped r (Taken t0 x ∷ ws) t saw = absurd (install_ends _ ws t)
  popped r (Empty t0 ∷ ws) t saw = absurd (broken_ends ws t)
  popped r (Job t0 x ∷ ws) t saw = absurd (broken_ends ws t)
  popped r (Number n ∷ ws) t saw = absurd (broken_ends ws t)
  popped r (Held n y ∷ ws) t saw = absurd (broken_ends ws t)
  popped r (Linked n ∷ ws) t saw = absurd (broken_ends ws t)
  popped r (Restarts n y ∷ ws) t saw = absurd (broken_ends ws t)
  popped r (Unread ∷ ws) t saw = absurd (broken_ends ws t)

-- of the estate
module _ (shut : ℕ → Type 0) (m : Spot → Word) (k : ℕ → RestartKind) (b : ℕ → ℕ) (h : ℕ → Home) (e : Estate shut m k b h) (r : ℕ) where
  -- who has it, and how the place comes to it
  abbrev From : (w p : ℕ) → Type 0
  From w p = (w ≡ p) ⊎ ((i : Inherits shut m k b h e p) × (i.place ≡ w))

  abbrev Had : ℕ → Type 0
  Had p = (w : ℕ) × ((h r ≡ Popping w) ⊎ (h r ≡ Stolen w)) × From w p

  had : (p : ℕ) → MayTake shut m k b h e p r → Had p
  had p (inl is) = (p, inl is, inl refl)
  had p (inr (inl is)) = (p, inr is, inl refl)
  had p (inr (inr a)) = (a.0.place, a.1, inr (a.0, refl))

  abbrev place_had : Home → ℕ
  place_had (Popping w) = w
  place_had (Stolen w) = w
  place_had _ = 0

  has_place : (w : ℕ) → (h r ≡ Popping w) ⊎ (h r ≡ Stolen w) → place_had (h r) ≡ w
  has_place w (inl is) = ap place_had is
  has_place w (inr is) = ap place_had is

  closed : (p : ℕ) → (i : Inherits shut m k b h e p) → shut i.place
  closed p i = claims_shut e i.place i.way.0.slot (subst IsClaim (sym i.way.0.taken) (omega arith))

  pub one : (p q : ℕ) → (shut p → ⊥) → (shut q → ⊥) → MayTake shut m k b h e p r → MayTake shut m k b h e q r → p ≡ q
  one p q op oq x y =
      let a = had p x in
      let c = had q y in
      let same : a.0 ≡ c.0 = sym (has_place a.0 a.1) ∙ has_place c.0 c.1 in
      by a.0 c.0 same a.2 c.2
    where
      by : (w u : ℕ) → w ≡ u → From w p → From u q → p ≡ q
      by w u same (inl is) (inl also) = sym is ∙ same ∙ also
      by w u same (inl is) (inr c) = absurd (op (subst shut (c.1 ∙ sym same ∙ is) (closed q c.0)))
      by w u same (inr a) (inl also) = absurd (oq (subst shut (a.1 ∙ same ∙ also) (closed p a.0)))
      by w u same (inr a) (inr c) =
          one_end e p q a.0.place a.0.through c.0.through op oq a.0.way
          (subst (λ (y : ℕ). IsTrail e.ghost m k b q (y ∷ c.0.through)) (c.1 ∙ sym same ∙ sym a.1) c.0.way)

-- from a place outwards each thief's kind names the next closed place, so a trail of one length is one
module _ (shut : ℕ → Type 0) (m : Spot → Word) (k : ℕ → RestartKind) (b : ℕ → ℕ) (h : ℕ → Home) (e : Estate shut m k b h) (p : ℕ) where
  abbrev Way : List ℕ → Type 0
  Way l = IsTrail e.ghost m k b p l

  abbrev aimed : RestartKind → ℕ
  aimed (Steal x j) = x
  aimed (Check x j) = x
  aimed _ = 0

  aimed_is : (K : RestartKind) (x j : ℕ) → IsThief K x j → aimed K ≡ x
  aimed_is K x j (inl is) = ap aimed is
  aimed_is K x j (inr is) = ap aimed is

  same_way : (l c : List ℕ) → length l ≡ length c → Way l → Way c → l ≡ c
  same_way [] [] is a d = refl
  same_way [] (v ∷ c) is a d = absurd (omega (arith, is))
  same_way (v ∷ l) [] is a d = absurd (omega (arith, is))
  same_way (v ∷ l) (u ∷ c) is a d =
      let rest : l ≡ c = same_way l c (omega (arith, is)) a.1 d.1 in
      let one : v ≡ u = sym (aimed_is (k (heir_from p l)) v a.0.slot a.0.thief) ∙ ap (λ (y : List ℕ). aimed (k (heir_from p y))) rest ∙ aimed_is (k (heir_from p c)) u d.0.slot d.0.thief in
      (λ j. one j ∷ rest j)

  -- a longer one goes through the shorter one's place, which is a thief then
  through : (n y z : ℕ) (l c : List ℕ) → length c ≡ length l + 1 + n → Way (y ∷ l) → Way (z ∷ c) → (x : ℕ) × (j : ℕ) × IsThief (k y) x j
  through n y z l [] is a d = absurd (omega (arith, is))
  through zero y z l (v ∷ c) is a d =
      let one : (v ∷ c) ≡ (y ∷ l) = same_way (v ∷ c) (y ∷ l) (omega (arith, is)) d.1 a in
      (z, d.0.slot, subst (λ (c : List ℕ). IsThief (k (heir_from p c)) z d.0.slot) one d.0.thief)
  through (suc n) y z l (v ∷ c) is a d = through n y v l c (omega (arith, is)) a d.1

  abbrev pub IsNoThief : RestartKind → Type 0
  IsNoThief K = (x j : ℕ) → IsThief K x j → ⊥

  -- a place inherits from one place that is no thief
  pub one_place : (a c : Inherits shut m k b h e p) → IsNoThief (k a.place) → IsNoThief (k c.place) → a.place ≡ c.place
  one_place a c na nc = elim (order (length a.through) (length c.through)) [
    | inl same ↦ let one : (a.place ∷ a.through) ≡ (c.place ∷ c.through) = same_way (a.place ∷ a.through) (c.place ∷ c.through) (omega (arith, same)) a.way c.way in ap (heir_from p) one
    | inr less ↦ elim less [
      | inl longer ↦ let z = through longer.0 a.place c.place a.through c.through longer.1 a.way c.way in absurd (na z.0 z.1 z.2)
      | inr shorter ↦ let z = through shorter.0 c.place a.place c.through a.through shorter.1 c.way a.way in absurd (nc z.0 z.1 z.2)
    ]
  ]
    where
      order : (x y : ℕ) → (x ≡ y) ⊎ (((n : ℕ) × (y ≡ x + 1 + n)) ⊎ ((n : ℕ) × (x ≡ y + 1 + n)))
      order zero zero = inl refl
      order zero (suc y) = inr (inl (y, omega arith))
      order (suc x) zero = inr (inr (x, omega arith))
      order (suc x) (suc y) = elim (order x y) [
        | inl is ↦ inl (ap (λ (n : ℕ). suc n) is)
        | inr less ↦ elim less [
          | inl a ↦ inr (inl (a.0, let is = a.1 in omega (arith, is)))
          | inr a ↦ inr (inr (a.0, let is = a.1 in omega (arith, is)))
        ]
      ]

module _ (s : Shape) (code : CodeParts) (ih : s.takeover ≡ ByEntries) (state : State) (h : ℕ → Home) (f tk : List ℕ) (law : IsLawful s code state h f tk) where
  abbrev m : Spot → Word
  m = view s state.words

  abbrev k : ℕ → RestartKind
  k = kinds s state.words

  abbrev b : ℕ → ℕ
  b = bottoms s state.words

  abbrev estate : Estate (Closed s.takeover m) m k b h
  estate = law.1.board

  abbrev Takes : ℕ → ℕ → Type 0
  Takes p r = MayTake (Closed s.takeover m) m k b h estate p r

  popping : (p r : ℕ) → (Closed s.takeover m p → ⊥) → k p ≡ Pop2 r → IsLocal (m (Slot p (b p - 1))) ⊎ IsEmpty (m (Slot p (b p))) → h r ≡ Popping p
  popping p r open_ e has = estate.board.only (Popping p) r tt (here estate p open_) (subst (λ (a : RestartKind). Pops a (estate.ghost (Slot p (b p - 1))) r) (sym e) (refl, low))
    where
      low : IsLocal (estate.ghost (Slot p (b p - 1)))
      low = elim has [
        | inl a ↦ subst IsLocal (sym (own estate p (b p - 1) open_)) a
        | inr a ↦
            let at = subst (λ (a : RestartKind). AtBottom a (estate.ghost (Slot p (b p - 1))) (estate.ghost (Slot p (b p))) (estate.ghost (Slot p (b p + 1)))) e (estate.board.deque p).here in
            elim at.0 [
              | inl z ↦ absurd (not_empty_local (m (Slot p (b p))) a (subst IsLocal (own estate p (b p) open_) z.1))
              | inr z ↦ gives_local (estate.ghost (Slot p (b p - 1))) r z.0
            ]
      ]

  module _ (c : ℕ) (seat : Seat) (row : Row) (r : ℕ) (e : stand_of state c ≡ IsWithin seat row) (is : Begins r row) where
    sees : Sees s m k b c (IsWithin seat row)
    sees = subst (Sees s m k b c) e (law.1.sees c)

    pub opened : Closed s.takeover m seat.place → ⊥
    opened = shut_not s.takeover m c seat.place sees.0.carried.home sees.0.carried.lives.alive

    by_row : (row : Row) → Begins r row → ChecksSo (Closed s.takeover m) m k b h estate seat.place row → MayBegin (Closed s.takeover m) m k b h estate seat.place r
    by_row (Now (Load (Offset x low))) is a = subst (MayBegin (Closed s.takeover m) m k b h estate seat.place) is a
    by_row (Now (Begin x f low)) is a = subst (MayBegin (Closed s.takeover m) m k b h estate seat.place) is a
    by_row _ is a = absurd is

    pub takes : IsTaker seat.restart.kind → Takes seat.place r
    takes taker = by seat.restart.kind refl taker sees.1
      where
        by : (a : RestartKind) → seat.restart.kind ≡ a → IsTaker a → HasSeen s (with_restarts m k b) seat row → Takes seat.place r
        by (Pop2 q) ke taker (Strand is quiet) = absurd (subst IsStrand ke is)
        by (Pop2 q) ke taker (Looks v ws fit same saw) =
            let a = popped s seat v (with_restarts m k b) r q ws
            (subst (λ (z : RestartKind). Begins r (rest_of s seat v (row_of s seat z) ws)) ke (subst (Begins r) (sym same) is))
            (subst (λ (z : RestartKind). Saw s seat v (with_restarts m k b) (Unit {0}) (row_of s seat z) ws) ke saw) in
            let kind : k seat.place ≡ Pop2 r = sees.0.at.kind ∙ ke ∙ ap Pop2 a.0 in
            inl (popping seat.place r opened kind (subst (λ (z : ℕ). IsLocal (m (Slot seat.place (z - 1))) ⊎ IsEmpty (m (Slot seat.place z))) (sym sees.0.at.bottom) a.1))
        by (Check x i) ke taker seen = inr (by_row row is (heirs_see s code ih state h f tk law c seat row x i e ke))
        by _ ke taker seen = absurd taker

pub heirs_take : (s : Shape) (code : CodeParts) → HeirsTake s code
heirs_take s code ih state h f tk law c seat row r e is taker = takes s code ih state h f tk law c seat row r e is taker

pub one_inherits : (s : Shape) (code : CodeParts) → OneInherits s code
one_inherits s code state h f tk law p a c na nc = one_place (Closed s.takeover (view s state.words)) (view s state.words) (kinds s state.words) (bottoms s state.words) h law.1.board p a c na nc

pub one_takes : (s : Shape) (code : CodeParts) → OneTakes s code
one_takes s code ih state h f tk law c d seat chair row other r e is taker e' is' taker' =
    one (Closed s.takeover (view s state.words)) (view s state.words) (kinds s state.words) (bottoms s state.words) h law.1.board r seat.place chair.place
    (opened s code ih state h f tk law c seat row r e is) (opened s code ih state h f tk law d chair other r e' is')
    (takes s code ih state h f tk law c seat row r e is taker) (takes s code ih state h f tk law d chair other r e' is' taker')
