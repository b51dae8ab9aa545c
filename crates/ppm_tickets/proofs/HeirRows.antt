-- The row of a place that checks what it stole, with takeover by entries, link by link: what it has seen
-- tells what it is about to go on with.
use Rattle.std.proofs.Common.{◌≡◌, ◌⊎◌, ◌<◌, ◌≤◌, ◌-◌, ◌+◌, ◌==◌, if◌then◌else◌, ℕ, zero, suc, List, [], ◌∷◌, length, Bool, true, false, inl, inr, refl, sym, ap, ◌∙◌, subst, subst₂, arith, eqb-true, true≢false, le_refl}
use Rattle.std.specs.Prelude.{nat_lt, ◌&&◌}
use Rattle.std.proofs.lemmas.Bool.{ltb-true, cases_Bool}
use Rattle.ppm_cells.specs.Cells.{word_count}
use Rattle.ppm_cells.specs.declared.entry.Entry.{Entry as EntryOf}
use Rattle.ppm_cells.specs.declared.entry.Entry.TheVariants as entries
use Rattle.ppm_cells.specs.declared.link.LinkKind.{LinkKind}
use Rattle.ppm_cells.specs.declared.link.LinkKind.TheVariants.{Root, Call, Branch, Fork as ForkLink}
use Rattle.ppm_cells.specs.declared.restart.Restart.{Restart as RestartOf}
use Rattle.ppm_cells.specs.declared.restart.RestartKind.{RestartKind}
use Rattle.ppm_cells.specs.declared.restart.RestartKind.TheVariants.{Run, Bump, Push1, Push2, Unwind, Arrive, Join, Pop1, Pop2, Seek, Steal, Check, Take, Take2}
use Rattle.ppm_cells.specs.declared.shape.Shape.{Shape}
use Rattle.ppm_cells.specs.declared.shape.Takeover.{Takeover}
use Rattle.ppm_cells.specs.declared.shape.Takeover.TheVariants.{ByPlaces, ByEntries}
use Rattle.ppm_step.specs.Rows.{row_of, at_bottom, above_bottom, below_bottom, by_slot, follows, closed_link, can_be_taken}
use Rattle.ppm_step.specs.Standings.{Standing, IsWithin}
use Rattle.ppm_step.specs.There.{restart_is_there}
use Rattle.ppm_step.specs.declared.row.Point.TheVariants.{Offset, TakenMessage, TakenEntry, ClosedRestart, ClosedLink, ClosedBottom}
use Rattle.ppm_step.specs.declared.row.Row.{Row}
use Rattle.ppm_step.specs.declared.row.Row.TheVariants.{Now}
use Rattle.ppm_step.specs.declared.row.Seat.{Seat}
use Rattle.ppm_step.specs.declared.row.Then.TheVariants.{Load, Install, Begin, Broken}
use Rattle.ppm_tickets.specs.Heirs.{Inherits, GoesOnBy, MayBegin, ChecksSo, HeirsSee}
use Rattle.ppm_tickets.specs.Homes.{Home, Pushing, Popping, Stolen}
use Rattle.ppm_tickets.specs.Lawful.{IsLocal, IsClaim, IsThief, IsTrail, heir_from, IsDead, Gives, Pushes, Pops, Steals, Closed, May, active, active_at, is_local}
use Rattle.ppm_tickets.specs.Saw.{IsStrand, rest_of, OfClosed, Knows, Saw, HasSeen, Strand, Looks, Sees, Carried, Lawful}
use Rattle.ppm_tickets.specs.View.{view, kinds, bottoms, seeking, with_restarts}
use Rattle.ppm_tickets.specs.Words.{Word, Empty, Local, Job, Taken, Number, Linked, Restarts, Unread, Spot, Message, Slot, Dead, Restart}
use Rattle.ppm_tickets.proofs.WriteLemmas.{taken_stays}
use Rattle.ppm_tickets.proofs.ViewLemmas.{if_false}
use Rattle.ppm_tickets.proofs.EffectLemmas.{deque_as, not_local_taken}
use Rattle.ppm_tickets.proofs.EstateLemmas.{claims_shut, as_shown, here}
use Rattle.ppm_tickets.proofs.CountLemmas.{has_here}
use Rattle.ppm_tickets.proofs.HeirLemmas.{not_gone}
use Rattle.ppm_tickets.proofs.StepLemmas.{shut_not}

both_true : (x y : Bool) → (x && y) ≡ true → (x ≡ true) × (y ≡ true)
both_true true y e = (refl, e)
both_true false y e = absurd (cc)

module _ (s : Shape) (words : List ℕ) (stand : List Standing) (h : ℕ → Home) (f tk : List ℕ) (law : Lawful s (view s words) (kinds s words) (bottoms s words) stand h f tk) (o p : ℕ) (carried : Carried s (view s words) o p)
    (ih : s.takeover ≡ ByEntries) (x i : ℕ) (e : kinds s words p ≡ Check x i) (v : ℕ) where
  abbrev m : Spot → Word
  m = view s words

  abbrev k : ℕ → RestartKind
  k = kinds s words

  abbrev b : ℕ → ℕ
  b = bottoms s words

  abbrev M : Spot → Word
  M = with_restarts m k b

  abbrev SC : Seat
  SC = record { own = o; place = p; restart = record { kind = Check x i; bottom = b p } }

  open_ : Closed s.takeover m p → ⊥
  open_ = shut_not s.takeover m o p carried.home carried.lives.alive

  abbrev Heir : Type 0
  Heir = Inherits (Closed s.takeover m) m k b h law.board p

  abbrev Ends : Row → Type 0
  Ends row = ChecksSo (Closed s.takeover m) m k b h law.board p row

  -- what a row comes to, with at most c words found
  abbrev Steps : ℕ → Type 0 → Row → Type 0
  Steps c before R = (us : List Word) → length us ≤ c → Saw s SC v M before R us → Ends (rest_of s SC v R us)

  either : (c : ℕ) (before : Type 0) (test : Bool) (R T : Row) → (test ≡ true → Steps c before R) → (test ≡ false → Steps c before T) → Steps c before (if test then R else T)
  either c before true R T good bad = good refl
  either c before false R T good bad = bad refl

  broken : (c : ℕ) (before : Type 0) → Steps c before (Now Broken)
  broken c before [] le saw = tt
  broken c before (w ∷ us) le saw = absurd saw

  ending : (c : ℕ) (before : Type 0) (r : RestartOf) → (before → Ends (Now (Install r))) → Steps c before (Now (Install r))
  ending c before r g [] le saw = g saw
  ending c before r g (w ∷ us) le saw = absurd saw

  seek_end : (c : ℕ) (before : Type 0) → Steps c before (Now (Install (record { kind = Seek; bottom = b p })))
  seek_end c before = ending c before (record { kind = Seek; bottom = b p }) (λ a. inl refl)

  -- the right branch of a block
  beginning : (c : ℕ) (before : Type 0) (r : ℕ) → (before → MayBegin (Closed s.takeover m) m k b h law.board p r) → Steps c before (Now (Load (Offset r (b p))))
  beginning c before r g [] le saw = g saw
  beginning c before r g (Number d ∷ us) le saw = by (nat_lt (r + d) (word_count s)) us saw
    where
      by : (y : Bool) (us : List Word) → Saw s SC v M (before × Unit {0}) (if y then Now (Begin r (r + d) (b p)) else Now Broken) us → Ends (rest_of s SC v (if y then Now (Begin r (r + d) (b p)) else Now Broken) us)
      by true [] saw = g saw.0
      by true (w ∷ us) saw = absurd saw
      by false [] saw = tt
      by false (w ∷ us) saw = absurd saw
  beginning c before r g (_ ∷ []) le saw = tt
  beginning c before r g (_ ∷ w ∷ us) le saw = absurd saw

  -- who is on the way
  abbrev heir : List ℕ → ℕ
  heir l = heir_from p l

  abbrev Way : List ℕ → Type 0
  Way l = IsTrail law.board.ghost m k b p l

  record Node (w j z : ℕ) (l : List ℕ) : Type 0 where
    pub thief : IsThief (k (heir l)) w j
    pub tag : ℕ
    pub taken : m (Slot w j) ≡ Taken tag (heir l + 64)
    pub note : ℕ
    pub says : m (Message (heir l)) ≡ Local note z
    pub way : Way l

  shut_of : (w j z : ℕ) (l : List ℕ) → Node w j z l → Closed s.takeover m w
  shut_of w j z l n = claims_shut law.board w j (subst IsClaim (sym n.taken) (omega arith))

  was_local : (w j z : ℕ) (l : List ℕ) (n : Node w j z l) → law.board.ghost (Slot w j) ≡ Local n.note z
  was_local w j z l n = sym ((law.board.told (heir l) w j n.tag n.thief n.taken).0) ∙ n.says

  heired : (w j z : ℕ) (l : List ℕ) → Node w j z l → j ≡ active_at law.board.ghost k b w → Way (w ∷ l)
  heired w j z l n at = (record { slot = j; tag = n.tag; thief = n.thief; taken = n.taken; at = at }, n.way)

  active_is : (w : ℕ) (K : RestartKind) → k w ≡ K → active_at law.board.ghost k b w ≡ active K (b w) (law.board.ghost (Slot w (b w - 1))) (law.board.ghost (Slot w (b w)))
  active_is w K is = ap (λ (y : RestartKind). active y (b w) (law.board.ghost (Slot w (b w - 1))) (law.board.ghost (Slot w (b w)))) is

  dead_is : (how : Takeover) → how ≡ ByEntries → (w : ℕ) → Closed how m w → IsDead (m (Dead w))
  dead_is ByPlaces is w a = absurd (cc)
  dead_is ByEntries is w a = a

  -- the place at its end
  abbrev inherits : (w j z : ℕ) (l : List ℕ) → Node w j z l → j ≡ active_at law.board.ghost k b w → Heir
  inherits w j z l n at = record {
    place = w;
    through = l;
    way = heired w j z l n at;
    stays = not_gone law.board p open_ (w ∷ l) w (heired w j z l n at) (has_here w l);
    dead = dead_is s.takeover ih w (shut_of w j z l n);
  }

  -- what was found at a closed place still is
  restarts_are : (how : Takeover) → how ≡ ByEntries → (w j z : ℕ) (K : RestartKind) (B : ℕ)
      → OfClosed how SC v M (ClosedRestart w j z) (Restarts K B) (IsDead (M (Dead w)) × ((Restarts K B ≡ M (Restart w)) ⊎ (Restarts K B ≡ Unread))) → (k w ≡ K) × (b w ≡ B)
  restarts_are ByPlaces is w j z K B a = absurd (cc)
  restarts_are ByEntries is w j z K B a = elim a.1 [ inl c ↦ (cc, cc) | inr c ↦ absurd (cc) ]

  message_is : (how : Takeover) → how ≡ ByEntries → (w c d : ℕ) (word : Word) → OfClosed how SC v M (TakenMessage w c d) word (((w ≡ p) ⊎ IsDead (M (Dead w))) × (word ≡ M (Message w))) → word ≡ m (Message w)
  message_is ByPlaces is w c d word a = absurd (cc)
  message_is ByEntries is w c d word a = a.1

  -- a place that does not seek is one of the shape's
  place_there : (w c d : ℕ) → IsThief (k w) c d → w < s.processors
  place_there w c d th = elim (cases_Bool (nat_lt w s.processors)) [
    | inl y ↦ ltb-true w s.processors y
    | inr out ↦
        let is : k w ≡ Seek = ap (λ (r : RestartOf). r.kind) (if_false (nat_lt w s.processors) _ seeking out) in
        absurd (elim th [ inl q ↦ (let two : Seek ≡ Steal c d = sym is ∙ q in cc) | inr q ↦ (let two : Seek ≡ Check c d = sym is ∙ q in cc) ])
  ]

  cannot : (en : EntryOf) → can_be_taken ByEntries en ≡ false → can_be_taken s.takeover en ≡ true → ⊥
  cannot en is z = true≢false (sym z ∙ ap (λ (y : Takeover). can_be_taken y en) ih ∙ is)

  abbrev Found : Type 0 → (w j z : ℕ) → (K : RestartKind) → (B : ℕ) → Type 0
  Found before w j z K B = before × Knows s.takeover SC v M (ClosedRestart w j z) (Restarts K B)

  -- one link
  module _ (c : ℕ) (more : (w j z : ℕ) (l : List ℕ) (before : Type 0) → (before → Node w j z l) → Steps c before (Now (Load (ClosedRestart w j z))))
      (w j z : ℕ) (l : List ℕ) (before : Type 0) (node : before → Node w j z l) (K : RestartKind) (B : ℕ) where
    abbrev Now1 : Type 0
    Now1 = Found before w j z K B

    kind_is : Now1 → k w ≡ K
    kind_is a = (restarts_are s.takeover ih w j z K B a.1).0

    bottom_is : Now1 → b w ≡ B
    bottom_is a = (restarts_are s.takeover ih w j z K B a.1).1

    -- an end by which it goes on
    goes : (new : RestartKind) → (Now1 → j ≡ active_at law.board.ghost k b w) → (Now1 → GoesOnBy (Closed s.takeover m) m k b h law.board p w K new) → Steps c Now1 (Now (Install (record { kind = new; bottom = b p })))
    goes new at so = ending c Now1 (record { kind = new; bottom = b p })
        (λ a. inr (inherits w j z l (node a.0) (at a), subst (λ (y : RestartKind). GoesOnBy (Closed s.takeover m) m k b h law.board p w y new) (sym (kind_is a)) (so a), refl))

    -- at the bottom
    module _ (here : (j == B) ≡ true) where
      at_b : Now1 → j ≡ b w
      at_b a = eqb-true j B here ∙ sym (bottom_is a)

      low_local : (a : Now1) → law.board.ghost (Slot w (b w)) ≡ Local (node a.0).note z
      low_local a = ap (λ (y : ℕ). law.board.ghost (Slot w y)) (sym (at_b a)) ∙ was_local w j z l (node a.0)

      at_active : ((d y : Word) → active K (b w) d y ≡ b w) → Now1 → j ≡ active_at law.board.ghost k b w
      at_active act a = at_b a ∙ sym (active_is w K (kind_is a) ∙ act _ _)

    -- it had claimed another, or stolen
    module _ (x2 i2 : ℕ) (thief : Now1 → IsThief (k w) x2 i2) (at : Now1 → j ≡ active_at law.board.ghost k b w) where
      abbrev Now2 : Word → Type 0
      Now2 said = Now1 × Knows s.takeover SC v M (TakenMessage w x2 i2) said

      abbrev Now3 : Word → Word → Type 0
      Now3 said there = Now2 said × May o p (Slot x2 i2) there (m (Slot x2 i2))

      said_is : (said : Word) → Now2 said → m (Message w) ≡ said
      said_is said a = sym (message_is s.takeover ih w x2 i2 said a.1)

      entry_is : (said : Word) (n q : ℕ) → Now3 said (Taken n q) → m (Slot x2 i2) ≡ Taken n q
      entry_is said n q a = sym (taken_stays o p x2 i2 (Taken n q) (m (Slot x2 i2)) tt a.1)

      -- a job that it had won
      jobs : (t r : ℕ) → Steps c (Now2 (Job t r)) (Now (Load (TakenEntry w x2 i2 (entries.Job t r))))
      jobs t r [] le saw = (thief saw.0, said_is (Job t r) saw)
      jobs t r (Taken n q ∷ us) le saw =
          either c (Now3 (Job t r) (Taken n q)) ((n == t + 1) && (q == w)) (Now (Load (Offset r (b p)))) (Now (Install (record { kind = Seek; bottom = b p })))
          (λ is. beginning c (Now3 (Job t r) (Taken n q)) r (λ a.
          let two = both_true (n == t + 1) (q == w) is in
          let now : m (Slot x2 i2) ≡ Taken (t + 1) w = entry_is (Job t r) n q a ∙ (λ d. Taken (eqb-true n (t + 1) two.0 d) (eqb-true q w two.1 d)) in
          let th = thief a.0.0 in
          let small : w < s.processors = place_there w x2 i2 th in
          let shown : law.board.ghost (Slot x2 i2) ≡ Taken (t + 1) w = as_shown (law.board.covers.slots x2 i2) (λ d. let far : 64 ≤ w = subst IsClaim now d in omega (arith, far, small, s.within.processors_most)) ∙ now in
          let says : law.board.ghost (Message w) ≡ Job t r = law.board.covers.others (Message w) (λ y d d2. cc) ∙ said_is (Job t r) a.0 in
          let it = inherits w j z l (node a.0.0.0) (at a.0.0) in
          inr (
            it,
            inr (law.board.board.only (Stolen w) r tt it.stays
                (elim th [
                  | inl d ↦ subst (λ (y : RestartKind). Steals law.board.ghost w y r) (sym d) (t, says, shown)
                  | inr d ↦ subst (λ (y : RestartKind). Steals law.board.ghost w y r) (sym d) (t, says, shown)
                ])),
          )))
          (λ is. seek_end c (Now3 (Job t r) (Taken n q)))
          us (omega (arith, le)) saw
      jobs t r (Empty n ∷ us) le saw = seek_end c (Now3 (Job t r) (Empty n)) us (omega (arith, le)) saw
      jobs t r (Local n q ∷ us) le saw = seek_end c (Now3 (Job t r) (Local n q)) us (omega (arith, le)) saw
      jobs t r (Job n q ∷ us) le saw = seek_end c (Now3 (Job t r) (Job n q)) us (omega (arith, le)) saw
      jobs t r (_ ∷ []) le saw = tt
      jobs t r (_ ∷ d ∷ us) le saw = absurd saw

      -- another that it had inherited from
      locals : (t r : ℕ) → Steps c (Now2 (Local t r)) (Now (Load (TakenEntry w x2 i2 (entries.Local t r))))
      locals t r [] le saw = (thief saw.0, said_is (Local t r) saw)
      locals t r (Taken n q ∷ us) le saw =
          either c (Now3 (Local t r) (Taken n q)) ((n == t + 1) && (q == w + 64)) (Now (Load (ClosedRestart x2 i2 r))) (Now (Install (record { kind = Seek; bottom = b p })))
          (λ is. more x2 i2 r (w ∷ l) (Now3 (Local t r) (Taken n q)) (λ a.
          let two = both_true (n == t + 1) (q == w + 64) is in record {
            thief = thief a.0.0;
            tag = n;
            taken = entry_is (Local t r) n q a ∙ ap (Taken n) (eqb-true q (w + 64) two.1);
            note = t;
            says = said_is (Local t r) a.0;
            way = heired w j z l (node a.0.0.0) (at a.0.0);
          }))
          (λ is. seek_end c (Now3 (Local t r) (Taken n q)))
          us (omega (arith, le)) saw
      locals t r (Empty n ∷ us) le saw = seek_end c (Now3 (Local t r) (Empty n)) us (omega (arith, le)) saw
      locals t r (Local n q ∷ us) le saw = seek_end c (Now3 (Local t r) (Local n q)) us (omega (arith, le)) saw
      locals t r (Job n q ∷ us) le saw = seek_end c (Now3 (Local t r) (Job n q)) us (omega (arith, le)) saw
      locals t r (_ ∷ []) le saw = tt
      locals t r (_ ∷ d ∷ us) le saw = absurd saw

      messages : Steps c Now1 (Now (Load (TakenMessage w x2 i2)))
      messages [] le saw = thief saw
      messages (Job t r ∷ us) le saw = jobs t r us (omega (arith, le)) saw
      messages (Local t r ∷ us) le saw =
          either c (Now2 (Local t r)) (can_be_taken s.takeover (entries.Local t r)) (Now (Load (TakenEntry w x2 i2 (entries.Local t r)))) (Now Broken) (λ is. locals t r) (λ is. broken c (Now2 (Local t r)))
          us (omega (arith, le)) saw
      messages (Empty t ∷ us) le saw =
          either c (Now2 (Empty t)) (can_be_taken s.takeover (entries.Empty t)) (Now (Load (TakenEntry w x2 i2 (entries.Empty t)))) (Now Broken) (λ is. absurd (cannot (entries.Empty t) refl is)) (λ is. broken c (Now2 (Empty t)))
          us (omega (arith, le)) saw
      messages (Taken t r ∷ us) le saw =
          either c (Now2 (Taken t r)) (can_be_taken s.takeover (entries.Taken t r)) (Now (Load (TakenEntry w x2 i2 (entries.Taken t r)))) (Now Broken) (λ is. absurd (cannot (entries.Taken t r) refl is)) (λ is. broken c (Now2 (Taken t r)))
          us (omega (arith, le)) saw
      messages (_ ∷ []) le saw = tt
      messages (_ ∷ d ∷ us) le saw = absurd saw

  -- by the slot and by what the closed place is at
  module _ (c : ℕ) (more : (w j z : ℕ) (l : List ℕ) (before : Type 0) → (before → Node w j z l) → Steps c before (Now (Load (ClosedRestart w j z))))
      (w j z : ℕ) (l : List ℕ) (before : Type 0) (node : before → Node w j z l) (B : ℕ) where
    abbrev Now0 : RestartKind → Type 0
    Now0 K = Found before w j z K B

    kind_of : (K : RestartKind) → Now0 K → k w ≡ K
    kind_of K a = kind_is c more w j z l before node K B a

    alone : (K : RestartKind) (a : Now0 K) → j ≡ active_at law.board.ghost k b w → law.board.gone w ≡ false
    alone K a at = (inherits w j z l (node a.0) at).stays

    links : (r : ℕ) → (j == B) ≡ true → Steps c (Now0 (Bump r)) (Now (Load (ClosedLink r)))
    links r here [] le saw = (inherits w j z l (node saw.0) (at_active c more w j z l before node (Bump r) B here (λ d y. refl) saw), kind_of (Bump r) saw)
    links r here (Linked link ∷ us) le saw = by link.kind us saw
      where
        at_ : (a : Now0 (Bump r)) → j ≡ active_at law.board.ghost k b w
        at_ a = at_active c more w j z l before node (Bump r) B here (λ d y. refl) a

        by : (kind : LinkKind) (us : List Word) → Saw s SC v M (Now0 (Bump r) × Unit {0}) (closed_link SC r kind) us → Ends (rest_of s SC v (closed_link SC r kind) us)
        by (Call frame copy) [] saw = inr (inherits w j z l (node saw.0.0) (at_ saw.0), subst (λ (y : RestartKind). GoesOnBy (Closed s.takeover m) m k b h law.board p w y (Run r 0)) (sym (kind_of (Bump r) saw.0)) refl, refl)
        by (Call frame copy) (y ∷ us) saw = absurd saw
        by (ForkLink frame copy) [] saw = (inherits w j z l (node saw.0.0) (at_ saw.0), kind_of (Bump r) saw.0)
        by (ForkLink frame copy) (y ∷ us) saw = absurd saw
        by Root [] saw = tt
        by Root (y ∷ us) saw = absurd saw
        by (Branch side block) [] saw = tt
        by (Branch side block) (y ∷ us) saw = absurd saw
    links r here (_ ∷ []) le saw = tt
    links r here (_ ∷ y ∷ us) le saw = absurd saw

    -- a kind as it is
    plainly : (K new : RestartKind) → ((d y : Word) → active K (b w) d y ≡ b w) → ((a : Now0 K) → GoesOnBy (Closed s.takeover m) m k b h law.board p w K new) → (j == B) ≡ true → Steps c (Now0 K) (Now (Install (record { kind = new; bottom = b p })))
    plainly K new act so here = goes c more w j z l before node K B new (at_active c more w j z l before node K B here act) so

    -- one that pushes
    home_pushing : (K : RestartKind) (r : ℕ) (a : Now0 K) → j ≡ active_at law.board.ghost k b w → Pushes (k w) (law.board.ghost (Slot w (b w))) r → h r ≡ Pushing w
    home_pushing K r a at is = law.board.board.only (Pushing w) r tt (alone K a at) is

    push1_at : (r : ℕ) → (j == B) ≡ true → Steps c (Now0 (Push1 r)) (Now (Install (record { kind = Push1 r; bottom = b p })))
    push1_at r here = plainly (Push1 r) (Push1 r) (λ d y. refl)
        (λ a. (refl, home_pushing (Push1 r) r a (at_active c more w j z l before node (Push1 r) B here (λ d y. refl) a) (subst (λ (y : RestartKind). Pushes y (law.board.ghost (Slot w (b w))) r) (sym (kind_of (Push1 r) a)) refl))) here

    push2_at : (r : ℕ) → (j == B) ≡ true → Steps c (Now0 (Push2 r)) (Now (Install (record { kind = Push1 r; bottom = b p })))
    push2_at r here = goes c more w j z l before node (Push2 r) B (Push1 r) at_ (λ a. inl (
      refl,
      home_pushing (Push2 r) r a (at_ a)
          (subst₂ (λ (y : RestartKind) (d : Word). Pushes y d r) (sym (kind_of (Push2 r) a)) (sym (low_local c more w j z l before node (Push2 r) B here a)) (refl, tt)),
    ))
      where
        at_ : (a : Now0 (Push2 r)) → j ≡ active_at law.board.ghost k b w
        at_ a = at_b c more w j z l before node (Push2 r) B here a ∙ sym (active_is w (Push2 r) (kind_of (Push2 r) a) ∙ ap (λ (y : Word). if is_local y then b w else b w + 1) (low_local c more w j z l before node (Push2 r) B here a))

    stealing : (K : RestartKind) (x2 i2 : ℕ) → ((a : Now0 K) → IsThief (k w) x2 i2) → ((d y : Word) → active K (b w) d y ≡ b w) → (j == B) ≡ true → Steps c (Now0 K) (Now (Load (TakenMessage w x2 i2)))
    stealing K x2 i2 th act here = messages c more w j z l before node K B x2 i2 th (at_active c more w j z l before node K B here act)

    seek_now : (K : RestartKind) → Steps c (Now0 K) (Now (Install (record { kind = Seek; bottom = b p })))
    seek_now K = seek_end c (Now0 K)

    bottom_step : (K : RestartKind) → (j == B) ≡ true → Steps c (Now0 K) (at_bottom SC w K)
    bottom_step (Run f2 y) here = plainly (Run f2 y) (Run f2 y) (λ d y. refl) (λ a. refl) here
    bottom_step (Unwind f2) here = plainly (Unwind f2) (Unwind f2) (λ d y. refl) (λ a. refl) here
    bottom_step (Arrive r y) here = plainly (Arrive r y) (Arrive r y) (λ d y. refl) (λ a. refl) here
    bottom_step (Join r y) here = plainly (Join r y) (Join r y) (λ d y. refl) (λ a. refl) here
    bottom_step (Bump r) here = links r here
    bottom_step (Push1 r) here = push1_at r here
    bottom_step (Push2 r) here = push2_at r here
    bottom_step (Steal x2 i2) here = stealing (Steal x2 i2) x2 i2 (λ a. inl (kind_of (Steal x2 i2) a)) (λ d y. refl) here
    bottom_step (Check x2 i2) here = stealing (Check x2 i2) x2 i2 (λ a. inr (kind_of (Check x2 i2) a)) (λ d y. refl) here
    bottom_step Pop1 here = seek_now Pop1
    bottom_step (Pop2 r) here = seek_now (Pop2 r)
    bottom_step Seek here = seek_now Seek
    bottom_step (Take q d) here = seek_now (Take q d)
    bottom_step (Take2 q) here = seek_now (Take2 q)

    -- the job of Push2 was made and taken
    made : (r : ℕ) → (j == B + 1) ≡ true → Steps c (Now0 (Push2 r)) (Now (Load (ClosedBottom w B r)))
    made r up [] le saw =
        let kind : k w ≡ Push2 r = kind_of (Push2 r) saw in
        let low : b w ≡ B = bottom_is c more w j z l before node (Push2 r) B saw in (
          kind,
          λ none.
              let at : j ≡ active_at law.board.ghost k b w = eqb-true j (B + 1) up ∙ ap (λ (y : ℕ). y + 1) (sym low) ∙ sym (active_is w (Push2 r) kind ∙ ap (λ (y : Bool). if y then b w else b w + 1) none) in
              (inherits w j z l (node saw.0) at, refl),
          sym low,
        )
    made r up (Taken n q ∷ us) le saw =
        either c (Now0 (Push2 r) × May o p (Slot w B) (Taken n q) (m (Slot w B))) (nat_lt q 64) (Now (Install (record { kind = Run (r + 5) 0; bottom = b p }))) (Now (Install (record { kind = Seek; bottom = b p })))
        (λ is. ending c (Now0 (Push2 r) × May o p (Slot w B) (Taken n q) (m (Slot w B))) (record { kind = Run (r + 5) 0; bottom = b p }) (λ a.
        let kind : k w ≡ Push2 r = kind_of (Push2 r) a.0 in
        let low : b w ≡ B = bottom_is c more w j z l before node (Push2 r) B a.0 in
        let now : m (Slot w (b w)) ≡ Taken n q = ap (λ (y : ℕ). m (Slot w y)) low ∙ sym (taken_stays o p w B (Taken n q) (m (Slot w B)) tt a.1) in
        let less : q < 64 = ltb-true q 64 is in
        let shown : law.board.ghost (Slot w (b w)) ≡ Taken n q = as_shown (law.board.covers.slots w (b w)) (λ d. let far : 64 ≤ q = subst IsClaim now d in omega (arith, far, less)) ∙ now in
        let at : j ≡ active_at law.board.ghost k b w = eqb-true j (B + 1) up ∙ ap (λ (y : ℕ). y + 1) (sym low) ∙ sym (active_is w (Push2 r) kind ∙ ap (λ (y : Word). if is_local y then b w else b w + 1) shown) in
        inr (inherits w j z l (node a.0.0) at, subst (λ (y : RestartKind). GoesOnBy (Closed s.takeover m) m k b h law.board p w y (Run (r + 5) 0)) (sym kind) (inr (refl, λ d. subst IsLocal shown d)), refl)))
        (λ is. seek_end c (Now0 (Push2 r) × May o p (Slot w B) (Taken n q) (m (Slot w B))))
        us (omega (arith, le)) saw
    made r up (Empty n ∷ us) le saw = seek_end c (Now0 (Push2 r) × May o p (Slot w B) (Empty n) (m (Slot w B))) us (omega (arith, le)) saw
    made r up (Local n q ∷ us) le saw = seek_end c (Now0 (Push2 r) × May o p (Slot w B) (Local n q) (m (Slot w B))) us (omega (arith, le)) saw
    made r up (Job n q ∷ us) le saw = seek_end c (Now0 (Push2 r) × May o p (Slot w B) (Job n q) (m (Slot w B))) us (omega (arith, le)) saw
    made r up (_ ∷ []) le saw = tt
    made r up (_ ∷ y ∷ us) le saw = absurd saw

    above_step : (K : RestartKind) → (j == B + 1) ≡ true → Steps c (Now0 K) (above_bottom SC w B K)
    above_step (Push2 r) up = made r up
    above_step (Run f2 y) up = seek_now (Run f2 y)
    above_step (Bump r) up = seek_now (Bump r)
    above_step (Push1 r) up = seek_now (Push1 r)
    above_step (Unwind r) up = seek_now (Unwind r)
    above_step (Arrive r y) up = seek_now (Arrive r y)
    above_step (Join r y) up = seek_now (Join r y)
    above_step Pop1 up = seek_now Pop1
    above_step (Pop2 r) up = seek_now (Pop2 r)
    above_step Seek up = seek_now Seek
    above_step (Steal q d) up = seek_now (Steal q d)
    above_step (Check q d) up = seek_now (Check q d)
    above_step (Take q d) up = seek_now (Take q d)
    above_step (Take2 q) up = seek_now (Take2 q)

    -- the job of Pop1 and Pop2 was got back
    module _ (down : (j + 1 == B) ≡ true) where
      at_low : (K : RestartKind) (a : Now0 K) → j ≡ b w - 1
      at_low K a = let low : b w ≡ B = bottom_is c more w j z l before node K B a in let up : j + 1 ≡ B = eqb-true (j + 1) B down in omega (arith, low, up)

      low_is : (K : RestartKind) (a : Now0 K) → law.board.ghost (Slot w (b w - 1)) ≡ Local (node a.0).note z
      low_is K a = ap (λ (y : ℕ). law.board.ghost (Slot w y)) (sym (at_low K a)) ∙ was_local w j z l (node a.0)

      popping : (K : RestartKind) → ((a : Now0 K) → active_at law.board.ghost k b w ≡ b w - 1) → ((a : Now0 K) → Pops (k w) (law.board.ghost (Slot w (b w - 1))) z) → Steps c (Now0 K) (Now (Load (Offset z (b p))))
      popping K act is = beginning c (Now0 K) z (λ a.
          let it = inherits w j z l (node a.0) (at_low K a ∙ sym (act a)) in
          inr (it, inl (law.board.board.only (Popping w) z tt it.stays (is a))))

      pop2_same : (r : ℕ) (a : Now0 (Pop2 r)) → z ≡ r
      pop2_same r a = elim (deque_as law.board.board w (Pop2 r) (kind_of (Pop2 r) a)).here.0 [
        | inl d ↦ absurd (not_local_taken _ (subst IsLocal (sym (low_is (Pop2 r) a)) tt) d.0)
        | inr d ↦ subst (λ (y : Word). Gives y r) (low_is (Pop2 r) a) d.0
      ]

      below_step : (K : RestartKind) → Steps c (Now0 K) (below_bottom SC z K)
      below_step Pop1 = popping Pop1 (λ a. active_is w Pop1 (kind_of Pop1 a) ∙ ap (λ (y : Word). if is_local y then b w - 1 else b w) (low_is Pop1 a))
          (λ a. subst₂ (λ (y : RestartKind) (d : Word). Pops y d z) (sym (kind_of Pop1 a)) (sym (low_is Pop1 a)) refl)
      below_step (Pop2 r) = popping (Pop2 r) (λ a. active_is w (Pop2 r) (kind_of (Pop2 r) a) ∙ ap (λ (y : Word). if is_local y then b w - 1 else b w) (low_is (Pop2 r) a))
          (λ a. subst₂ (λ (y : RestartKind) (d : Word). Pops y d z) (sym (kind_of (Pop2 r) a)) (sym (low_is (Pop2 r) a)) (sym (pop2_same r a), tt))
      below_step (Run f2 y) = seek_now (Run f2 y)
      below_step (Bump r) = seek_now (Bump r)
      below_step (Push1 r) = seek_now (Push1 r)
      below_step (Push2 r) = seek_now (Push2 r)
      below_step (Unwind r) = seek_now (Unwind r)
      below_step (Arrive r y) = seek_now (Arrive r y)
      below_step (Join r y) = seek_now (Join r y)
      below_step Seek = seek_now Seek
      below_step (Steal q d) = seek_now (Steal q d)
      below_step (Check q d) = seek_now (Check q d)
      below_step (Take q d) = seek_now (Take q d)
      below_step (Take2 q) = seek_now (Take2 q)

    slot_step : (K : RestartKind) → Steps c (Now0 K) (by_slot SC w j z (record { kind = K; bottom = B }))
    slot_step K = either c (Now0 K) (j == B) (at_bottom SC w K) _ (bottom_step K) (λ not_at.
        either c (Now0 K) (j == B + 1) (above_bottom SC w B K) _ (above_step K) (λ not_above.
        either c (Now0 K) (j + 1 == B) (below_bottom SC z K) _ (λ down. below_step down K) (λ none. seek_now K)))

    link_step : (K : RestartKind) → Steps c (Now0 K) (follows s SC w j z (record { kind = K; bottom = B }))
    link_step K = either c (Now0 K) (restart_is_there s (record { kind = K; bottom = B })) (by_slot SC w j z (record { kind = K; bottom = B })) (Now Broken) (λ is. slot_step K) (λ is. broken c (Now0 K))

  -- all links
  follow : (c w j z : ℕ) (l : List ℕ) (before : Type 0) → (before → Node w j z l) → Steps c before (Now (Load (ClosedRestart w j z)))
  follow c w j z l before node [] le saw = (λ at. (inherits w j z l (node saw) at, refl), ((node saw).note, was_local w j z l (node saw)))
  follow zero w j z l before node (y ∷ us) le saw = absurd (omega (arith, le))
  follow (suc c) w j z l before node (Restarts K B ∷ us) le saw =
      link_step c (λ w2 j2 z2 l2 before2 node2. follow c w2 j2 z2 l2 before2 node2) w j z l before node B K us (omega (arith, le)) saw
  follow (suc c) w j z l before node (_ ∷ []) le saw = tt
  follow (suc c) w j z l before node (_ ∷ y ∷ us) le saw = absurd saw

  -- what it inherited itself
  inherited : (t0 y0 : ℕ) → (c : ℕ) → Steps c (Unit {0} × Knows s.takeover SC v M (TakenMessage p x i) (Local t0 y0)) (Now (Load (TakenEntry p x i (entries.Local t0 y0))))
  inherited t0 y0 c [] le saw = (inr e, sym (message_is s.takeover ih p x i (Local t0 y0) saw.1))
  inherited t0 y0 c (Taken n q ∷ us) le saw =
      either c ((Unit {0} × Knows s.takeover SC v M (TakenMessage p x i) (Local t0 y0)) × May o p (Slot x i) (Taken n q) (m (Slot x i))) ((n == t0 + 1) && (q == p + 64)) (Now (Load (ClosedRestart x i y0))) (Now (Install (record { kind = Seek; bottom = b p })))
      (λ is. follow c x i y0 [] ((Unit {0} × Knows s.takeover SC v M (TakenMessage p x i) (Local t0 y0)) × May o p (Slot x i) (Taken n q) (m (Slot x i))) (λ a.
      let two = both_true (n == t0 + 1) (q == p + 64) is in record {
        thief = inr e;
        tag = n;
        taken = sym (taken_stays o p x i (Taken n q) (m (Slot x i)) tt a.1) ∙ ap (Taken n) (eqb-true q (p + 64) two.1);
        note = t0;
        says = sym (message_is s.takeover ih p x i (Local t0 y0) a.0.1);
        way = tt;
      }))
      (λ is. seek_end c ((Unit {0} × Knows s.takeover SC v M (TakenMessage p x i) (Local t0 y0)) × May o p (Slot x i) (Taken n q) (m (Slot x i))))
      us (omega (arith, le)) saw
  inherited t0 y0 c (Empty n ∷ us) le saw = seek_end c ((Unit {0} × Knows s.takeover SC v M (TakenMessage p x i) (Local t0 y0)) × May o p (Slot x i) (Empty n) (m (Slot x i))) us (omega (arith, le)) saw
  inherited t0 y0 c (Local n q ∷ us) le saw = seek_end c ((Unit {0} × Knows s.takeover SC v M (TakenMessage p x i) (Local t0 y0)) × May o p (Slot x i) (Local n q) (m (Slot x i))) us (omega (arith, le)) saw
  inherited t0 y0 c (Job n q ∷ us) le saw = seek_end c ((Unit {0} × Knows s.takeover SC v M (TakenMessage p x i) (Local t0 y0)) × May o p (Slot x i) (Job n q) (m (Slot x i))) us (omega (arith, le)) saw
  inherited t0 y0 c (_ ∷ []) le saw = tt
  inherited t0 y0 c (_ ∷ y ∷ us) le saw = absurd saw

  -- what it stole itself
  won : (t0 r : ℕ) → (c : ℕ) → Steps c (Unit {0} × Knows s.takeover SC v M (TakenMessage p x i) (Job t0 r)) (Now (Load (TakenEntry p x i (entries.Job t0 r))))
  won t0 r c [] le saw = (inr e, sym (message_is s.takeover ih p x i (Job t0 r) saw.1))
  won t0 r c (Taken n q ∷ us) le saw =
      either c ((Unit {0} × Knows s.takeover SC v M (TakenMessage p x i) (Job t0 r)) × May o p (Slot x i) (Taken n q) (m (Slot x i))) ((n == t0 + 1) && (q == p)) (Now (Load (Offset r (b p)))) (Now (Install (record { kind = Seek; bottom = b p })))
      (λ is. beginning c ((Unit {0} × Knows s.takeover SC v M (TakenMessage p x i) (Job t0 r)) × May o p (Slot x i) (Taken n q) (m (Slot x i))) r (λ a.
      let two = both_true (n == t0 + 1) (q == p) is in
      let now : m (Slot x i) ≡ Taken (t0 + 1) p = sym (taken_stays o p x i (Taken n q) (m (Slot x i)) tt a.1) ∙ (λ d. Taken (eqb-true n (t0 + 1) two.0 d) (eqb-true q p two.1 d)) in
      let small : p < s.processors = carried.place in
      let shown : law.board.ghost (Slot x i) ≡ Taken (t0 + 1) p = as_shown (law.board.covers.slots x i) (λ d. let far : 64 ≤ p = subst IsClaim now d in omega (arith, far, small, s.within.processors_most)) ∙ now in
      let says : law.board.ghost (Message p) ≡ Job t0 r = law.board.covers.others (Message p) (λ y d d2. cc) ∙ sym (message_is s.takeover ih p x i (Job t0 r) a.0.1) in
      inl (law.board.board.only (Stolen p) r tt (here law.board p open_) (subst (λ (y : RestartKind). Steals law.board.ghost p y r) (sym e) (t0, says, shown)))))
      (λ is. seek_end c ((Unit {0} × Knows s.takeover SC v M (TakenMessage p x i) (Job t0 r)) × May o p (Slot x i) (Taken n q) (m (Slot x i))))
      us (omega (arith, le)) saw
  won t0 r c (Empty n ∷ us) le saw = seek_end c ((Unit {0} × Knows s.takeover SC v M (TakenMessage p x i) (Job t0 r)) × May o p (Slot x i) (Empty n) (m (Slot x i))) us (omega (arith, le)) saw
  won t0 r c (Local n q ∷ us) le saw = seek_end c ((Unit {0} × Knows s.takeover SC v M (TakenMessage p x i) (Job t0 r)) × May o p (Slot x i) (Local n q) (m (Slot x i))) us (omega (arith, le)) saw
  won t0 r c (Job n q ∷ us) le saw = seek_end c ((Unit {0} × Knows s.takeover SC v M (TakenMessage p x i) (Job t0 r)) × May o p (Slot x i) (Job n q) (m (Slot x i))) us (omega (arith, le)) saw
  won t0 r c (_ ∷ []) le saw = tt
  won t0 r c (_ ∷ y ∷ us) le saw = absurd saw

  -- the whole row
  checks : (c : ℕ) → Steps c (Unit {0}) (Now (Load (TakenMessage p x i)))
  checks c [] le saw = inr e
  checks c (Job t r ∷ us) le saw = won t r c us (omega (arith, le)) saw
  checks c (Local t r ∷ us) le saw =
      either c (Unit {0} × Knows s.takeover SC v M (TakenMessage p x i) (Local t r)) (can_be_taken s.takeover (entries.Local t r)) (Now (Load (TakenEntry p x i (entries.Local t r)))) (Now Broken)
      (λ is. inherited t r c) (λ is. broken c (Unit {0} × Knows s.takeover SC v M (TakenMessage p x i) (Local t r)))
      us (omega (arith, le)) saw
  checks c (Empty t ∷ us) le saw =
      either c (Unit {0} × Knows s.takeover SC v M (TakenMessage p x i) (Empty t)) (can_be_taken s.takeover (entries.Empty t)) (Now (Load (TakenEntry p x i (entries.Empty t)))) (Now Broken)
      (λ is. absurd (cannot (entries.Empty t) refl is)) (λ is. broken c (Unit {0} × Knows s.takeover SC v M (TakenMessage p x i) (Empty t)))
      us (omega (arith, le)) saw
  checks c (Taken t r ∷ us) le saw =
      either c (Unit {0} × Knows s.takeover SC v M (TakenMessage p x i) (Taken t r)) (can_be_taken s.takeover (entries.Taken t r)) (Now (Load (TakenEntry p x i (entries.Taken t r)))) (Now Broken)
      (λ is. absurd (cannot (entries.Taken t r) refl is)) (λ is. broken c (Unit {0} × Knows s.takeover SC v M (TakenMessage p x i) (Taken t r)))
      us (omega (arith, le)) saw
  checks c (_ ∷ []) le saw = tt
  checks c (_ ∷ y ∷ us) le saw = absurd saw

pub heirs_see : HeirsSee
heirs_see s code ih state h f tk law c seat row x i e ke = by sees.1
  where
    m : Spot → Word
    m = view s state.words

    sees : Sees s (view s state.words) (kinds s state.words) (bottoms s state.words) c (IsWithin seat row)
    sees = subst (Sees s (view s state.words) (kinds s state.words) (bottoms s state.words) c) e (law.1.sees c)

    by : HasSeen s (with_restarts (view s state.words) (kinds s state.words) (bottoms s state.words)) seat row
        → ChecksSo (Closed s.takeover (view s state.words)) (view s state.words) (kinds s state.words) (bottoms s state.words) h law.1.board seat.place row
    by (Strand is quiet) = absurd (subst IsStrand ke is)
    by (Looks v ws fit is saw) =
        let kind : kinds s state.words seat.place ≡ Check x i = sees.0.at.kind ∙ ke in
        let sits : seat ≡ record { own = c; place = seat.place; restart = record { kind = Check x i; bottom = bottoms s state.words seat.place } } =
        (λ j. record { own = sees.0.own j; place = seat.place; restart = record { kind = ke j; bottom = sym sees.0.at.bottom j } }) in
        subst (ChecksSo (Closed s.takeover (view s state.words)) (view s state.words) (kinds s state.words) (bottoms s state.words) h law.1.board seat.place)
        (sym (ap (λ (o : Seat). rest_of s o v (row_of s o o.restart.kind) ws) sits) ∙ is)
        (checks s state.words state.stand h f tk law.1 c seat.place sees.0.carried ih x i kind v (length ws) ws (le_refl (length ws))
        (subst (λ (o : Seat). Saw s o v (with_restarts (view s state.words) (kinds s state.words) (bottoms s state.words)) (Unit {0}) (row_of s o o.restart.kind) ws) sits saw))
