-- Who is about to take a branch has it at its home: with takeover by places, a place that got it back
-- or that stole it. So has a place that is still to push one.
use Rattle.std.proofs.Common.{◌≡◌, ◌⊎◌, ℕ, ◌+◌, ◌-◌, ◌==◌, Bool, true, false, if◌then◌else◌, List, [], ◌∷◌, inl, inr, refl, sym, ap, ◌∙◌, subst, arith}
use Rattle.std.specs.Prelude.{nat_lt, ◌^◌, ◌&&◌}
use Rattle.std.proofs.lemmas.Bool.{cases_Bool, eqb-true}
use Rattle.ppm_cells.specs.Cells.{word_count}
use Rattle.ppm_cells.specs.declared.entry.Entry.TheVariants as entries
use Rattle.ppm_cells.specs.declared.restart.Restart.{Restart}
use Rattle.ppm_cells.specs.declared.restart.RestartKind.{RestartKind}
use Rattle.ppm_cells.specs.declared.restart.RestartKind.TheVariants.{Run, Bump, Push1, Push2, Unwind, Arrive, Join, Pop1, Pop2, Seek, Steal, Check, Take, Take2}
use Rattle.ppm_cells.specs.declared.shape.Shape.{Shape}
use Rattle.ppm_cells.specs.declared.shape.Takeover.{Takeover}
use Rattle.ppm_cells.specs.declared.shape.Takeover.TheVariants.{ByPlaces, ByEntries}
use Rattle.ppm_code.specs.declared.code.CodeParts.{CodeParts}
use Rattle.ppm_step.specs.Rows.{row_of, raised, can_be_taken}
use Rattle.ppm_step.specs.Standings.{IsWithin}
use Rattle.ppm_step.specs.State.{State as RunState, stand_of}
use Rattle.ppm_cells.specs.declared.cell.Cell.TheVariants.{EntryWord}
use Rattle.ppm_step.specs.declared.row.Point.TheVariants.{PopAgain, PopAbove, Offset, TakenMessage, TakenEntry}
use Rattle.ppm_step.specs.declared.row.Row.{Row}
use Rattle.ppm_step.specs.declared.row.Row.TheVariants.{Now}
use Rattle.ppm_step.specs.declared.row.Seat.{Seat}
use Rattle.ppm_step.specs.declared.row.Then.TheVariants.{Load, Install, Begin, Broken}
use Rattle.ppm_tickets.specs.Homes.{Home, Pushing, Popping, Stolen}
use Rattle.ppm_tickets.specs.Lawful.{IsDead, IsEmpty, IsLocal, IsClaim, May, AtBottom, Pushes, Pops, Steals, Wins, Closed, Estate}
use Rattle.ppm_tickets.specs.Saw.{IsStrand, HasSeen, Strand, Looks, Sees, Knows, OfClosed, Saw, rest_of}
use Rattle.ppm_tickets.specs.Renewal.{IsLawful}
use Rattle.ppm_tickets.specs.View as spots
use Rattle.ppm_tickets.specs.Words.{Word, Empty, Local, Job, Taken, Held, Number, Linked, Restarts, Unread, Spot, Slot, Message, Dead}
use Rattle.ppm_tickets.proofs.EffectLemmas.{not_empty_local, gives_local}
use Rattle.ppm_tickets.proofs.EstateLemmas.{as_open}
use Rattle.ppm_tickets.proofs.WriteLemmas.{own_stays, taken_stays}
use Rattle.ppm_runs.specs.Laws.{IsTakers, TakersHave}

-- a row that is about to begin the branch of a block
abbrev IsTaking : ℕ → Row → Type 0
IsTaking r (Now (Load (Offset x b))) = x ≡ r
IsTaking r (Now (Begin x f b)) = x ≡ r
IsTaking r _ = ⊥

both_are : (x y : Bool) → (x && y) ≡ true → (x ≡ true) × (y ≡ true)
both_are true y e = (refl, e)
both_are false y e = absurd (cc)

module _ (s : Shape) (places : s.takeover ≡ ByPlaces) (seat : Seat) (v : ℕ) (M : Spot → Word) (r' : ℕ) where
  abbrev p : ℕ
  p = seat.place

  abbrev B : ℕ
  B = seat.restart.bottom

  abbrev Left : Row → List Word → Type 0
  Left row ws = IsTaking r' (rest_of s seat v row ws)

  abbrev Has : Type 0 → Row → List Word → Type 0
  Has before row ws = Saw s seat v M before row ws

  install_ends : (re : Restart) (ws : List Word) → Left (Now (Install re)) ws → ⊥
  install_ends re [] t = t
  install_ends re (w ∷ ws) t = t

  broken_ends : (ws : List Word) → Left (Now Broken) ws → ⊥
  broken_ends [] t = t
  broken_ends (w ∷ ws) t = t

  -- from the load of the offset on
  offset : (before : Type 0) (r low : ℕ) (ws : List Word) → Left (Now (Load (Offset r low))) ws → Has before (Now (Load (Offset r low))) ws → (r ≡ r') × before
  offset before r low [] t saw = (t, saw)
  offset before r low (Number d ∷ ws) t saw = by (nat_lt (r + d) (word_count s)) ws t saw
    where
      by : (y : Bool) (ws : List Word) → Left (if y then Now (Begin r (r + d) low) else Now Broken) ws → Has (before × Unit {0}) (if y then Now (Begin r (r + d) low) else Now Broken) ws → (r ≡ r') × before
      by true [] t saw = (t, saw.0)
      by true (x ∷ ws) t saw = absurd t
      by false ws t saw = absurd (broken_ends ws t)
  offset before r low (Empty t0 ∷ ws) t saw = absurd (broken_ends ws t)
  offset before r low (Local t0 x ∷ ws) t saw = absurd (broken_ends ws t)
  offset before r low (Job t0 x ∷ ws) t saw = absurd (broken_ends ws t)
  offset before r low (Taken t0 x ∷ ws) t saw = absurd (broken_ends ws t)
  offset before r low (Held t0 x ∷ ws) t saw = absurd (broken_ends ws t)
  offset before r low (Linked x ∷ ws) t saw = absurd (broken_ends ws t)
  offset before r low (Restarts x y ∷ ws) t saw = absurd (broken_ends ws t)
  offset before r low (Unread ∷ ws) t saw = absurd (broken_ends ws t)

  -- the entry below is local, or the one at the bottom is empty
  abbrev Popped : Type 0
  Popped = IsLocal (M (Slot p (B - 1))) ⊎ IsEmpty (M (Slot p B))

  local_below : (t0 x : ℕ) → May seat.own p (Slot p (B - 1)) (Local t0 x) (M (Slot p (B - 1))) → IsLocal (M (Slot p (B - 1)))
  local_below t0 x a = subst IsLocal (own_stays seat.own p (B - 1) (Local t0 x) (M (Slot p (B - 1))) (λ z. z) a) tt

  above : (r t0 x : ℕ) (ws : List Word) → Left (Now (Load (PopAbove r))) ws → Has (Unit {0} × May seat.own p (Slot p (B - 1)) (Local t0 x) (M (Slot p (B - 1)))) (Now (Load (PopAbove r))) ws → (r ≡ r') × Popped
  above r t0 x [] t saw = absurd t
  above r t0 x (Empty y ∷ ws) t saw = let a = offset _ r (B - 1) ws t saw in (a.0, inl (local_below t0 x a.1.0.1))
  above r t0 x (Job y z ∷ ws) t saw = let a = offset _ r (B - 1) ws t saw in (a.0, inl (local_below t0 x a.1.0.1))
  above r t0 x (Taken y z ∷ ws) t saw = let a = offset _ r (B - 1) ws t saw in (a.0, inl (local_below t0 x a.1.0.1))
  above r t0 x (Local y z ∷ ws) t saw = by (nat_lt (y + 1) (2 ^ 34)) ws t saw
    where
      by : (q : Bool) (ws : List Word) → Left (raised (EntryWord p B) (entries.Local y z) (entries.Empty (y + 1)) (Load (Offset r (B - 1))) q) ws
          → Has ((Unit {0} × May seat.own p (Slot p (B - 1)) (Local t0 x) (M (Slot p (B - 1)))) × May seat.own p (Slot p B) (Local y z) (M (Slot p B))) (raised (EntryWord p B) (entries.Local y z) (entries.Empty (y + 1)) (Load (Offset r (B - 1))) q) ws
          → (r ≡ r') × Popped
      by true [] t saw = absurd t
      by true (w ∷ ws) t saw = let a = offset _ r (B - 1) ws t saw in (
        a.0,
        elim a.1.0 [
          | inl made ↦ inr (subst IsEmpty (own_stays seat.own p B (Empty (y + 1)) (M (Slot p B)) (λ k. k) (subst (λ (k : Word). May seat.own p (Slot p B) k (M (Slot p B))) made a.1.1)) tt)
          | inr missed ↦ inl (local_below t0 x missed.1.0.1)
        ],
      )
      by false ws t saw = absurd (broken_ends ws t)
  above r t0 x (Number n ∷ ws) t saw = absurd (broken_ends ws t)
  above r t0 x (Held n y ∷ ws) t saw = absurd (broken_ends ws t)
  above r t0 x (Linked n ∷ ws) t saw = absurd (broken_ends ws t)
  above r t0 x (Restarts n y ∷ ws) t saw = absurd (broken_ends ws t)
  above r t0 x (Unread ∷ ws) t saw = absurd (broken_ends ws t)

  pub popped : (r : ℕ) (ws : List Word) → Left (Now (Load (PopAgain r))) ws → Has (Unit {0}) (Now (Load (PopAgain r))) ws → (r ≡ r') × Popped
  popped r [] t saw = absurd t
  popped r (Local t0 x ∷ ws) t saw = above r t0 x ws t saw
  popped r (Taken t0 x ∷ ws) t saw = absurd (install_ends _ ws t)
  popped r (Empty t0 ∷ ws) t saw = absurd (broken_ends ws t)
  popped r (Job t0 x ∷ ws) t saw = absurd (broken_ends ws t)
  popped r (Number n ∷ ws) t saw = absurd (broken_ends ws t)
  popped r (Held n y ∷ ws) t saw = absurd (broken_ends ws t)
  popped r (Linked n ∷ ws) t saw = absurd (broken_ends ws t)
  popped r (Restarts n y ∷ ws) t saw = absurd (broken_ends ws t)
  popped r (Unread ∷ ws) t saw = absurd (broken_ends ws t)

  -- the message is the job, and the entry was taken by this place
  second : (x i t0 r : ℕ) (ws : List Word) → Left (Now (Load (TakenEntry p x i (entries.Job t0 r)))) ws
      → Has (Unit {0} × Knows s.takeover seat v M (TakenMessage p x i) (Job t0 r)) (Now (Load (TakenEntry p x i (entries.Job t0 r)))) ws → Wins M p x i r'
  second x i t0 r [] t saw = absurd t
  second x i t0 r (Taken n q ∷ ws) t saw = test ((n == t0 + 1) && (q == p)) refl ws t saw
    where
      test : (y : Bool) → ((n == t0 + 1) && (q == p)) ≡ y → (ws : List Word) → Left (if y then Now (Load (Offset r B)) else Now (Install (record { kind = Seek; bottom = B }))) ws
          → Has ((Unit {0} × Knows s.takeover seat v M (TakenMessage p x i) (Job t0 r)) × May seat.own p (Slot x i) (Taken n q) (M (Slot x i))) (if y then Now (Load (Offset r B)) else Now (Install (record { kind = Seek; bottom = B }))) ws
          → Wins M p x i r'
      test true is ws t saw =
          let a = offset _ r B ws t saw in
          let two = both_are (n == t0 + 1) (q == p) is in
          let same : Taken n q ≡ Taken (t0 + 1) p = (λ j. Taken (eqb-true n (t0 + 1) two.0 j) (eqb-true q p two.1 j)) in
          let told : May seat.own p (Message p) (Job t0 r) (M (Message p)) = subst (λ (how : Takeover). OfClosed how seat v M (TakenMessage p x i) (Job t0 r) (((p ≡ seat.place) ⊎ IsDead (M (Dead p))) × (Job t0 r ≡ M (Message p)))) places a.1.0.1 in
          (t0, sym (told refl) ∙ ap (Job t0) a.0, sym (taken_stays seat.own p x i (Taken n q) (M (Slot x i)) tt a.1.1) ∙ same)
      test false is ws t saw = absurd (install_ends _ ws t)
  second x i t0 r (Empty n ∷ ws) t saw = absurd (install_ends _ ws t)
  second x i t0 r (Local n y ∷ ws) t saw = absurd (install_ends _ ws t)
  second x i t0 r (Job n y ∷ ws) t saw = absurd (install_ends _ ws t)
  second x i t0 r (Number n ∷ ws) t saw = absurd (broken_ends ws t)
  second x i t0 r (Held n y ∷ ws) t saw = absurd (broken_ends ws t)
  second x i t0 r (Linked n ∷ ws) t saw = absurd (broken_ends ws t)
  second x i t0 r (Restarts n y ∷ ws) t saw = absurd (broken_ends ws t)
  second x i t0 r (Unread ∷ ws) t saw = absurd (broken_ends ws t)

  -- by places no strand is inherited
  none_local : (how : Takeover) → how ≡ ByPlaces → (x i t0 y : ℕ) (ws : List Word) → Left (if can_be_taken how (entries.Local t0 y) then Now (Load (TakenEntry p x i (entries.Local t0 y))) else Now Broken) ws → ⊥
  none_local ByPlaces e x i t0 y ws t = broken_ends ws t
  none_local ByEntries e x i t0 y ws t = absurd (cc)

  pub checked : (x i : ℕ) (ws : List Word) → Left (Now (Load (TakenMessage p x i))) ws → Has (Unit {0}) (Now (Load (TakenMessage p x i))) ws → Wins M p x i r'
  checked x i [] t saw = absurd t
  checked x i (Job t0 r ∷ ws) t saw = second x i t0 r ws t saw
  checked x i (Local t0 y ∷ ws) t saw = absurd (none_local s.takeover places x i t0 y ws t)
  checked x i (Empty t0 ∷ ws) t saw = absurd (broken_ends ws t)
  checked x i (Taken t0 y ∷ ws) t saw = absurd (broken_ends ws t)
  checked x i (Number n ∷ ws) t saw = absurd (broken_ends ws t)
  checked x i (Held n y ∷ ws) t saw = absurd (broken_ends ws t)
  checked x i (Linked n ∷ ws) t saw = absurd (broken_ends ws t)
  checked x i (Restarts n y ∷ ws) t saw = absurd (broken_ends ws t)
  checked x i (Unread ∷ ws) t saw = absurd (broken_ends ws t)

module _ (s : Shape) (code : CodeParts) (places : s.takeover ≡ ByPlaces) (state : RunState) (h : ℕ → Home) (forked taken : List ℕ) (lawful : IsLawful s code state h forked taken) where
  abbrev m : Spot → Word
  m = spots.view s state.words

  abbrev k : ℕ → RestartKind
  k = spots.kinds s state.words

  abbrev b : ℕ → ℕ
  b = spots.bottoms s state.words

  abbrev pub estate : Estate (Closed s.takeover m) m k b h
  estate = lawful.1.board

  -- no entry was inherited, and no place was followed
  open_ : (u : ℕ) → Closed s.takeover m u → ⊥
  open_ u z = subst (λ (how : Takeover). Closed how m u) places z

  pub ghost_is : (u x : ℕ) → estate.ghost (Slot u x) ≡ m (Slot u x)
  ghost_is u x = (as_open (estate.covers.slots u x) (open_ u)).0

  pub not_gone : (u : ℕ) → estate.gone u ≡ false
  not_gone u = elim (cases_Bool (estate.gone u)) [
    | inr e ↦ e
    | inl e ↦
        let late = estate.late u e in
        absurd ((as_open (estate.covers.slots u _) (open_ u)).1 (subst IsClaim (sym late.2) (omega arith)))
  ]

  -- a place that is still to push has the branch
  pub pushing : (p r : ℕ) → k p ≡ Push1 r → h r ≡ Pushing p
  pushing p r e = estate.board.only (Pushing p) r tt (not_gone p) (subst (λ (a : RestartKind). Pushes a (estate.ghost (Slot p (b p))) r) (sym e) refl)

  pub popping : (p r : ℕ) → k p ≡ Pop2 r → IsLocal (m (Slot p (b p - 1))) ⊎ IsEmpty (m (Slot p (b p))) → h r ≡ Popping p
  popping p r e has = estate.board.only (Popping p) r tt (not_gone p) (subst (λ (a : RestartKind). Pops a (estate.ghost (Slot p (b p - 1))) r) (sym e) (refl, low))
    where
      low : IsLocal (estate.ghost (Slot p (b p - 1)))
      low = elim has [
        | inl a ↦ subst IsLocal (sym (ghost_is p (b p - 1))) a
        | inr a ↦
            let here = subst (λ (a : RestartKind). AtBottom a (estate.ghost (Slot p (b p - 1))) (estate.ghost (Slot p (b p))) (estate.ghost (Slot p (b p + 1)))) e (estate.board.deque p).here in
            elim here.0 [
              | inl z ↦ absurd (not_empty_local (m (Slot p (b p))) a (subst IsLocal (ghost_is p (b p)) z.1))
              | inr z ↦ gives_local (estate.ghost (Slot p (b p - 1))) r z.0
            ]
      ]

  pub stolen : (p x j r : ℕ) → k p ≡ Check x j → Wins m p x j r → h r ≡ Stolen p
  stolen p x j r e w = estate.board.only (Stolen p) r tt (not_gone p) (subst (λ (a : RestartKind). Steals estate.ghost p a r) (sym e)
      (w.0, estate.covers.others (Message p) (λ y i z. cc) ∙ w.1, ghost_is x j ∙ w.2))

  abbrev M : Spot → Word
  M = spots.with_restarts m k b

  -- who is about to take it
  takers : (c : ℕ) (seat : Seat) (row : Row) (r : ℕ) → IsTaking r row → stand_of state c ≡ IsWithin seat row → IsTakers seat.place seat.restart.kind (h r)
  takers c seat row r t e = by seat.restart.kind refl sees.1
    where
      sees : Sees s m k b c (IsWithin seat row)
      sees = subst (Sees s m k b c) e (lawful.1.sees c)

      seen : (a : RestartKind) → seat.restart.kind ≡ a → (v : ℕ) (ws : List Word) → rest_of s seat v (row_of s seat seat.restart.kind) ws ≡ row → IsTaking r (rest_of s seat v (row_of s seat a) ws)
      seen a ke v ws is = subst (λ (z : RestartKind). IsTaking r (rest_of s seat v (row_of s seat z) ws)) ke (subst (IsTaking r) (sym is) t)

      by : (a : RestartKind) → seat.restart.kind ≡ a → HasSeen s M seat row → IsTakers seat.place a (h r)
      by (Pop2 q) ke (Strand is quiet) = absurd (subst IsStrand ke is)
      by (Pop2 q) ke (Looks v ws fit is saw) =
          let a = popped s places seat v M r q ws (seen (Pop2 q) ke v ws is) (subst (λ (z : RestartKind). Saw s seat v M (Unit {0}) (row_of s seat z) ws) ke saw) in
          let kind : k seat.place ≡ Pop2 r = sees.0.at.kind ∙ ke ∙ ap Pop2 a.0 in
          popping seat.place r kind (subst (λ (z : ℕ). IsLocal (m (Slot seat.place (z - 1))) ⊎ IsEmpty (m (Slot seat.place z))) (sym sees.0.at.bottom) a.1)
      by (Check x j) ke (Strand is quiet) = absurd (subst IsStrand ke is)
      by (Check x j) ke (Looks v ws fit is saw) =
          stolen seat.place x j r (sees.0.at.kind ∙ ke) (checked s places seat v M r x j ws (seen (Check x j) ke v ws is) (subst (λ (z : RestartKind). Saw s seat v M (Unit {0}) (row_of s seat z) ws) ke saw))
      by (Run f y) ke see = tt
      by (Bump q) ke see = tt
      by (Push1 q) ke see = tt
      by (Push2 q) ke see = tt
      by (Unwind f) ke see = tt
      by (Arrive q d) ke see = tt
      by (Join q d) ke see = tt
      by Pop1 ke see = tt
      by Seek ke see = tt
      by (Steal x j) ke see = tt
      by (Take x j) ke see = tt
      by (Take2 x) ke see = tt

pub takers_have : TakersHave
takers_have s code places state h forked taken lawful = record {
  pushes = pushing s code places state h forked taken lawful;
  offsets = λ c seat r low e. takers s code places state h forked taken lawful c seat (Now (Load (Offset r low))) r refl e;
  begins = λ c seat r f low e. takers s code places state h forked taken lawful c seat (Now (Begin r f low)) r refl e;
}
