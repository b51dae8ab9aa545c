-- The rows that take a place over, word by word, and each kind.
use Rattle.std.proofs.Common.{◌≡◌, ◌≢◌, ◌<◌, ◌+◌, ℕ, zero, suc, List, [], ◌∷◌, Bool, true, false, if◌then◌else◌, ◌==◌, inl, inr, refl, sym, ap, ◌∙◌, subst, arith, eqb-true}
use Rattle.std.specs.Prelude.{slice_get, ◌&&◌}
use Rattle.std.proofs.lemmas.Bool.{ltb-true, lt-ltb}
use Rattle.ppm_cells.specs.Memory.{AreWordsOf}
use Rattle.ppm_cells.specs.declared.cell.Cell.TheVariants as cells
use Rattle.ppm_cells.specs.declared.restart.RestartKind.{RestartKind}
use Rattle.ppm_cells.specs.declared.restart.RestartKind.TheVariants.{Run, Bump, Push1, Push2, Unwind, Arrive, Join, Pop1, Pop2, Seek, Steal, Check, Take, Take2}
use Rattle.ppm_cells.specs.declared.shape.Shape.{Shape}
use Rattle.ppm_cells.specs.declared.shape.Takeover.TheVariants.{ByPlaces}
use Rattle.ppm_code.specs.declared.code.CodeParts.{CodeParts}
use Rattle.ppm_step.specs.Rows.{lowered}
use Rattle.ppm_step.specs.Standings.{Standing, IsPlaced, IsDone}
use Rattle.ppm_step.specs.State.{stand_in}
use Rattle.ppm_step.specs.There.{restart_is_there}
use Rattle.ppm_step.specs.declared.content.Content.TheVariants.{AHolder}
use Rattle.ppm_step.specs.declared.row.Point.TheVariants.{BidMessage, BidAgain, BidHolder}
use Rattle.ppm_step.specs.declared.row.Row.{Row}
use Rattle.ppm_step.specs.declared.row.Row.TheVariants.{Now}
use Rattle.ppm_step.specs.declared.row.Then.TheVariants.{Load, Install, Move}
use Rattle.ppm_tickets.specs.Homes.{Home}
use Rattle.ppm_tickets.specs.Lawful.{IsDead, Names, tag, May, Dooms}
use Rattle.ppm_tickets.specs.Saw.{rest_of, Saw, AreFit, IsStrand, HasSeen, Strand, Looks, Carried, Lawful}
use Rattle.ppm_tickets.specs.View.{view, kinds, bottoms, with_restarts}
use Rattle.ppm_tickets.specs.Words.{Word, Empty, Local, Job, Taken, Held, Number, Linked, Restarts, Unread, Spot, Bid, Holder, Carry, Dead}
use Rattle.ppm_tickets.proofs.WriteLemmas.{write_here, write_else}
use Rattle.ppm_tickets.proofs.ViewLemmas.{lone_holder, lone_carry}
use Rattle.ppm_tickets.proofs.QuietLemmas.{begun_quiet, rest_quiet}
use Rattle.ppm_tickets.proofs.OrderLemmas.{order_other}
use Rattle.ppm_tickets.proofs.HoldingLemmas.{holding_bid, holding_move}
use Rattle.ppm_tickets.proofs.EstateLemmas.{noted}
use Rattle.ppm_tickets.proofs.EffectLemmas.{plain_install, other_written}
use Rattle.ppm_tickets.proofs.StepLemmas.{RowsKeep, own_goes, looks, making, installs, only_end, ends, lift_row, strand_goal, fits_block, Goal, seat, restart, Stands, Row_, writing, both_true}
use Rattle.ppm_tickets.proofs.OwnRows.{push1, push2, pop1, pop2}
use Rattle.ppm_tickets.proofs.ThiefRows.{steal, check, seek}

module _ (base : Shape) (code : CodeParts) where
  abbrev s : Shape
  s = record base { takeover = ByPlaces }

  module _ (words : List ℕ) (stand : List Standing) (h : ℕ → Home) (f tk : List ℕ) (fit : AreWordsOf s words) where
    abbrev m : Spot → Word
    m = view s words

    abbrev k : ℕ → RestartKind
    k = kinds s words

    abbrev b : ℕ → ℕ
    b = bottoms s words

    abbrev M : Spot → Word
    M = with_restarts m k b

    module _ (law : Lawful s m k b stand h f tk) (o : ℕ) (live : stand_in (slice_get stand o) ≢ IsDone) where
      module _ (p : ℕ) (carried : Carried s m o p) where
        take : (x d : ℕ) → Stands s code words stand h f tk fit law o live p carried (Take x d)
        take x d e ta u nm v ws af saw = by ws af saw
          where
            seeks : Goal s code words stand h f tk fit law o live p carried (Take x d) e ta u nm (Now (Install (record { kind = Seek; bottom = b p })))
            seeks = installs s code words stand h f tk fit law o live p carried (Take x d) e ta u nm (record { kind = Seek; bottom = b p }) tt tt (own_goes s code words stand h f tk fit law o live p carried Seek (b p) tt (plain_install law.board.board p (Take x d) Seek e tt tt (λ q z. z) (λ q z. z))) law.counts

            dead : (t c : ℕ) → Held (t + 1) c ≡ m (Bid p) → m (Holder x) ≡ Held t d → IsDead (m (Dead d))
            dead t c message was =
                let doom = subst (Dooms m p) e (law.holding.doomed p) in
                let says : Held (t + 1) c ≡ Held (doom.0 + 1) doom.1 = message ∙ doom.2 in
                let same : t + 1 ≡ doom.0 + 1 = ap tag says in
                let tag_is : tag (m (Holder x)) ≡ t = ap tag was in
                elim doom.4 [ inl z ↦ z | inr lt ↦ absurd (omega (arith, lt, same, tag_is)) ]

            by : (ws : List Word) → AreFit ws → Saw s (seat s code words stand h f tk fit law o live p carried (Take x d) e) v M (Unit {0}) (Now (Load (BidMessage x d))) ws
                → Goal s code words stand h f tk fit law o live p carried (Take x d) e ta u nm (rest_of s (seat s code words stand h f tk fit law o live p carried (Take x d) e) v (Now (Load (BidMessage x d))) ws)
            by [] af saw = looks s code words stand h f tk fit law o live p carried (Take x d) e ta u nm v (λ n. Unit {0}) (Now (Load (BidMessage x d))) (lift_row s code words stand h f tk fit law o live p carried (Take x d) e ta u nm v) [] tt saw (BidMessage x d) refl (Bid p) refl refl refl (λ z. z) (λ x. refl) (λ z. z)
            by (Held t c ∷ us) af saw = test (c == o) refl us af.1 saw
              where
                test : (y : Bool) → (c == o) ≡ y → (us : List Word) → AreFit us
                    → Saw s (seat s code words stand h f tk fit law o live p carried (Take x d) e) v M (Unit {0} × May o p (Bid p) (Held t c) (m (Bid p))) (if y then lowered t (seat s code words stand h f tk fit law o live p carried (Take x d) e) x d (record { tag = t; processor = c }) else Now (Install (record { kind = Seek; bottom = b p }))) us
                    → Goal s code words stand h f tk fit law o live p carried (Take x d) e ta u nm (rest_of s (seat s code words stand h f tk fit law o live p carried (Take x d) e) v (if y then lowered t (seat s code words stand h f tk fit law o live p carried (Take x d) e) x d (record { tag = t; processor = c }) else Now (Install (record { kind = Seek; bottom = b p }))) us)
                test false same us af2 saw = only_end s code words stand h f tk fit law o live p carried (Take x d) e ta u nm v (record { kind = Seek; bottom = b p }) (λ a. seeks) us saw
                test true same us af2 saw = low t refl us af2 saw
                  where
                    low : (y : ℕ) → t ≡ y → (us : List Word) → AreFit us
                        → Saw s (seat s code words stand h f tk fit law o live p carried (Take x d) e) v M (Unit {0} × May o p (Bid p) (Held t c) (m (Bid p))) (lowered y (seat s code words stand h f tk fit law o live p carried (Take x d) e) x d (record { tag = t; processor = c })) us
                        → Goal s code words stand h f tk fit law o live p carried (Take x d) e ta u nm (rest_of s (seat s code words stand h f tk fit law o live p carried (Take x d) e) v (lowered y (seat s code words stand h f tk fit law o live p carried (Take x d) e) x d (record { tag = t; processor = c })) us)
                    low zero is [] af3 saw = ends s code words stand h f tk fit law o live p carried (Take x d) e ta u nm
                    low zero is (w ∷ us) af3 saw = absurd saw
                    low (suc y) is [] af3 saw =
                        let up : t ≡ y + 1 = omega (arith, is) in
                        let fits = fits_block s code words stand h f tk fit law o live p carried (Take x d) e ta in
                        making s code words stand h f tk fit law o live p carried (Take x d) e ta u nm v (λ n. Unit {0} × May o p (Bid p) (Held t c) (n (Bid p))) (lowered (suc y) (seat s code words stand h f tk fit law o live p carried (Take x d) e) x d (record { tag = t; processor = c }))
                        (λ n ws row af4 er saw. lift_row s code words stand h f tk fit law o live p carried (Take x d) e ta u nm v n (Held t c ∷ ws) row (af.0, af4)
                        (ap (λ (z : Bool). rest_of s (seat s code words stand h f tk fit law o live p carried (Take x d) e) v (if z then lowered t (seat s code words stand h f tk fit law o live p carried (Take x d) e) x d (record { tag = t; processor = c }) else Now (Install (record { kind = Seek; bottom = b p }))) ws) same
                        ∙ ap (λ (z : ℕ). rest_of s (seat s code words stand h f tk fit law o live p carried (Take x d) e) v (lowered z (seat s code words stand h f tk fit law o live p carried (Take x d) e) x d (record { tag = t; processor = c })) ws) is ∙ er)
                        (subst (λ (z : Bool). Saw s (seat s code words stand h f tk fit law o live p carried (Take x d) e) v n (Unit {0} × May o p (Bid p) (Held t c) (n (Bid p))) (if z then lowered t (seat s code words stand h f tk fit law o live p carried (Take x d) e) x d (record { tag = t; processor = c }) else Now (Install (record { kind = Seek; bottom = b p }))) ws) (sym same)
                        (subst (λ (z : ℕ). Saw s (seat s code words stand h f tk fit law o live p carried (Take x d) e) v n (Unit {0} × May o p (Bid p) (Held t c) (n (Bid p))) (lowered z (seat s code words stand h f tk fit law o live p carried (Take x d) e) x d (record { tag = t; processor = c })) ws) (sym is) saw)))
                        [] tt saw (cells.HolderWord x) (AHolder (record { tag = y; processor = d })) (AHolder (record { tag = t; processor = c })) (Install (record { kind = Take2 x; bottom = b p })) refl refl refl refl (λ z. z) (lone_holder s x) tt tt
                        (fits.0.0, (omega (arith, up, af.0.1.0), tt)) af.0 tt (λ y z. cc) (λ y z. cc)
                        (λ was.
                        let killed : IsDead (m (Dead d)) = dead y c (subst (λ (z : ℕ). Held z c ≡ m (Bid p)) up (saw.1 refl)) was in (
                          noted law.board (Holder x) (Held t c) (λ y i z. cc) (λ q y i z th. cc) (other_written law.board.board (Holder x) (Held t c) (λ y i z. cc) (λ q z. cc)),
                          order_other law.order (Holder x) (Held t c) (λ y i z. cc) (λ y z. cc),
                          holding_bid law.holding x y d (Held t c) killed was (omega (arith, up)),
                          law.counts,
                          λ z q ne other lives at. (λ named. absurd (lives.alive (subst (λ (y : ℕ). IsDead (m (Dead y))) named killed)), omega (arith, up)),
                        ))
                    low (suc y) is (w ∷ us) af3 saw = only_end s code words stand h f tk fit law o live p carried (Take x d) e ta u nm v (record { kind = Take2 x; bottom = b p })
                        (λ a. installs s code words stand h f tk fit law o live p carried (Take x d) e ta u nm (record { kind = Take2 x; bottom = b p }) tt tt (own_goes s code words stand h f tk fit law o live p carried (Take2 x) (b p) tt (plain_install law.board.board p (Take x d) (Take2 x) e tt tt (λ q z. z) (λ q z. z))) law.counts) us saw
            by (Empty t ∷ []) af saw = ends s code words stand h f tk fit law o live p carried (Take x d) e ta u nm
            by (Local t y ∷ []) af saw = ends s code words stand h f tk fit law o live p carried (Take x d) e ta u nm
            by (Job t y ∷ []) af saw = ends s code words stand h f tk fit law o live p carried (Take x d) e ta u nm
            by (Taken t y ∷ []) af saw = ends s code words stand h f tk fit law o live p carried (Take x d) e ta u nm
            by (Number t ∷ []) af saw = ends s code words stand h f tk fit law o live p carried (Take x d) e ta u nm
            by (Unread ∷ []) af saw = ends s code words stand h f tk fit law o live p carried (Take x d) e ta u nm
            by (Restarts kind_ bottom_ ∷ []) af saw = ends s code words stand h f tk fit law o live p carried (Take x d) e ta u nm
            by (Linked link_ ∷ []) af saw = ends s code words stand h f tk fit law o live p carried (Take x d) e ta u nm
            by _ af saw = absurd saw

        take2 : (x : ℕ) → Stands s code words stand h f tk fit law o live p carried (Take2 x)
        take2 x e ta u nm v ws af saw = by ws af saw
          where
            seeks : Goal s code words stand h f tk fit law o live p carried (Take2 x) e ta u nm (Now (Install (record { kind = Seek; bottom = b p })))
            seeks = installs s code words stand h f tk fit law o live p carried (Take2 x) e ta u nm (record { kind = Seek; bottom = b p }) tt tt (own_goes s code words stand h f tk fit law o live p carried Seek (b p) tt (plain_install law.board.board p (Take2 x) Seek e tt tt (λ q z. z) (λ q z. z))) law.counts

            moved : Names (m (Holder x)) o → Goal s code words stand h f tk fit law o live p carried (Take2 x) e ta u nm (Now (Move x))
            moved named there orderly =
                writing s code words stand h f tk fit law o live (Carry o) x (Number x) (lt-ltb o s.processors carried.lives.there) (lone_carry s o) refl tt h f tk
                (noted law.board (Carry o) (Number x) (λ y i z. cc) (λ q y i z th. cc) (other_written law.board.board (Carry o) (Number x) (λ y i z. cc) (λ q z. cc))) (order_other law.order (Carry o) (Number x) (λ y i z. cc) (λ y z. cc)) (holding_move law.holding o x named) tt law.counts tt
                (λ d q ne lives at same. absurd (ne (sym same))) (IsPlaced x) record {
                  lives = record { alive = λ z. carried.lives.alive (subst IsDead (write_else m (Carry o) (Number x) (Dead o) (λ z. cc)) z); there = carried.lives.there };
                  carry = write_here m (Carry o) (Number x);
                  place = ltb-true x s.processors there;
                  home = tt;
                }

            by : (ws : List Word) → AreFit ws → Saw s (seat s code words stand h f tk fit law o live p carried (Take2 x) e) v M (Unit {0}) (Now (Load (BidAgain x))) ws
                → Goal s code words stand h f tk fit law o live p carried (Take2 x) e ta u nm (rest_of s (seat s code words stand h f tk fit law o live p carried (Take2 x) e) v (Now (Load (BidAgain x))) ws)
            by [] af saw = looks s code words stand h f tk fit law o live p carried (Take2 x) e ta u nm v (λ n. Unit {0}) (Now (Load (BidAgain x))) (lift_row s code words stand h f tk fit law o live p carried (Take2 x) e ta u nm v) [] tt saw (BidAgain x) refl (Bid p) refl refl refl (λ z. z) (λ x. refl) (λ z. z)
            by (Held t c ∷ us) af saw = test (c == o) refl us af.1 saw
              where
                test : (y : Bool) → (c == o) ≡ y → (us : List Word) → AreFit us
                    → Saw s (seat s code words stand h f tk fit law o live p carried (Take2 x) e) v M (Unit {0} × May o p (Bid p) (Held t c) (m (Bid p))) (if y then Now (Load (BidHolder x (record { tag = t; processor = c }))) else Now (Install (record { kind = Seek; bottom = b p }))) us
                    → Goal s code words stand h f tk fit law o live p carried (Take2 x) e ta u nm (rest_of s (seat s code words stand h f tk fit law o live p carried (Take2 x) e) v (if y then Now (Load (BidHolder x (record { tag = t; processor = c }))) else Now (Install (record { kind = Seek; bottom = b p }))) us)
                test false same us af2 saw = only_end s code words stand h f tk fit law o live p carried (Take2 x) e ta u nm v (record { kind = Seek; bottom = b p }) (λ a. seeks) us saw
                test true same us af2 saw = second us af2 saw
                  where
                    second : (us : List Word) → AreFit us → Saw s (seat s code words stand h f tk fit law o live p carried (Take2 x) e) v M (Unit {0} × May o p (Bid p) (Held t c) (m (Bid p))) (Now (Load (BidHolder x (record { tag = t; processor = c })))) us
                        → Goal s code words stand h f tk fit law o live p carried (Take2 x) e ta u nm (rest_of s (seat s code words stand h f tk fit law o live p carried (Take2 x) e) v (Now (Load (BidHolder x (record { tag = t; processor = c })))) us)
                    second [] af3 saw = looks s code words stand h f tk fit law o live p carried (Take2 x) e ta u nm v (λ n. Unit {0} × May o p (Bid p) (Held t c) (n (Bid p))) (Now (Load (BidHolder x (record { tag = t; processor = c }))))
                        (λ n ws row af4 er saw. lift_row s code words stand h f tk fit law o live p carried (Take2 x) e ta u nm v n (Held t c ∷ ws) row (af.0, af4)
                        (ap (λ (z : Bool). rest_of s (seat s code words stand h f tk fit law o live p carried (Take2 x) e) v (if z then Now (Load (BidHolder x (record { tag = t; processor = c }))) else Now (Install (record { kind = Seek; bottom = b p }))) ws) same ∙ er)
                        (subst (λ (z : Bool). Saw s (seat s code words stand h f tk fit law o live p carried (Take2 x) e) v n (Unit {0} × May o p (Bid p) (Held t c) (n (Bid p))) (if z then Now (Load (BidHolder x (record { tag = t; processor = c }))) else Now (Install (record { kind = Seek; bottom = b p }))) ws) (sym same) saw))
                        [] tt saw (BidHolder x (record { tag = t; processor = c })) refl (Holder x) refl refl refl (λ z. z) (λ x. refl) (λ z. z)
                    second (Held t2 c2 ∷ us) af3 saw = kept ((t == t2) && (c == c2)) refl us saw
                      where
                        kept : (y : Bool) → ((t == t2) && (c == c2)) ≡ y → (us : List Word)
                            → Saw s (seat s code words stand h f tk fit law o live p carried (Take2 x) e) v M ((Unit {0} × May o p (Bid p) (Held t c) (m (Bid p))) × May o p (Holder x) (Held t2 c2) (m (Holder x))) (if y then Now (Move x) else Now (Install (record { kind = Seek; bottom = b p }))) us
                            → Goal s code words stand h f tk fit law o live p carried (Take2 x) e ta u nm (rest_of s (seat s code words stand h f tk fit law o live p carried (Take2 x) e) v (if y then Now (Move x) else Now (Install (record { kind = Seek; bottom = b p }))) us)
                        kept false is us saw = only_end s code words stand h f tk fit law o live p carried (Take2 x) e ta u nm v (record { kind = Seek; bottom = b p }) (λ a. seeks) us saw
                        kept true is [] saw =
                            let two = both_true s code (t == t2) (c == c2) is in
                            let named : Names (Held t2 c2) o = sym (eqb-true c c2 two.1) ∙ eqb-true c o same in
                            moved (subst (λ (y : Word). Names y o) (saw.1.0 named) named)
                        kept true is (w ∷ us) saw = absurd saw
                    second (Empty t ∷ []) af3 saw = ends s code words stand h f tk fit law o live p carried (Take2 x) e ta u nm
                    second (Local t y ∷ []) af3 saw = ends s code words stand h f tk fit law o live p carried (Take2 x) e ta u nm
                    second (Job t y ∷ []) af3 saw = ends s code words stand h f tk fit law o live p carried (Take2 x) e ta u nm
                    second (Taken t y ∷ []) af3 saw = ends s code words stand h f tk fit law o live p carried (Take2 x) e ta u nm
                    second (Number t ∷ []) af3 saw = ends s code words stand h f tk fit law o live p carried (Take2 x) e ta u nm
                    second (Unread ∷ []) af3 saw = ends s code words stand h f tk fit law o live p carried (Take2 x) e ta u nm
                    second (Restarts kind_ bottom_ ∷ []) af3 saw = ends s code words stand h f tk fit law o live p carried (Take2 x) e ta u nm
                    second (Linked link_ ∷ []) af3 saw = ends s code words stand h f tk fit law o live p carried (Take2 x) e ta u nm
                    second _ af3 saw = absurd saw
            by (Empty t ∷ []) af saw = ends s code words stand h f tk fit law o live p carried (Take2 x) e ta u nm
            by (Local t y ∷ []) af saw = ends s code words stand h f tk fit law o live p carried (Take2 x) e ta u nm
            by (Job t y ∷ []) af saw = ends s code words stand h f tk fit law o live p carried (Take2 x) e ta u nm
            by (Taken t y ∷ []) af saw = ends s code words stand h f tk fit law o live p carried (Take2 x) e ta u nm
            by (Number t ∷ []) af saw = ends s code words stand h f tk fit law o live p carried (Take2 x) e ta u nm
            by (Unread ∷ []) af saw = ends s code words stand h f tk fit law o live p carried (Take2 x) e ta u nm
            by (Restarts kind_ bottom_ ∷ []) af saw = ends s code words stand h f tk fit law o live p carried (Take2 x) e ta u nm
            by (Linked link_ ∷ []) af saw = ends s code words stand h f tk fit law o live p carried (Take2 x) e ta u nm
            by _ af saw = absurd saw

        -- each kind
        strand : (K : RestartKind) → IsStrand K → Stands s code words stand h f tk fit law o live p carried K
        strand K is e ta u nm v ws af saw = strand_goal s code words stand h f tk fit law o live p carried K e ta u nm (rest_of s (seat s code words stand h f tk fit law o live p carried K e) v (Row_ s code words stand h f tk fit law o live p carried K e) ws) is (rest_quiet (seat s code words stand h f tk fit law o live p carried K e) s v (Row_ s code words stand h f tk fit law o live p carried K e) ws (begun_quiet (seat s code words stand h f tk fit law o live p carried K e) s K refl is))

        by_kind : (K : RestartKind) → Stands s code words stand h f tk fit law o live p carried K
        by_kind (Push1 r) = push1 s code words stand h f tk fit law o live p carried r
        by_kind (Push2 r) = push2 s code words stand h f tk fit law o live p carried r
        by_kind Pop1 = pop1 s code words stand h f tk fit law o live p carried
        by_kind (Pop2 r) = pop2 s code words stand h f tk fit law o live p carried r
        by_kind Seek = seek s code words stand h f tk fit law o live p carried
        by_kind (Steal x i) = steal s code words stand h f tk fit law o live p carried x i
        by_kind (Check x i) = check s code words stand h f tk fit law o live p carried x i
        by_kind (Take x d) = take x d
        by_kind (Take2 x) = take2 x
        by_kind (Run a c) = strand (Run a c) tt
        by_kind (Bump a) = strand (Bump a) tt
        by_kind (Unwind a) = strand (Unwind a) tt
        by_kind (Arrive a c) = strand (Arrive a c) tt
        by_kind (Join a c) = strand (Join a c) tt

        -- a step of a row of this place
        pub row_keeps : (K : RestartKind) (e : k p ≡ K) (ta : restart_is_there s (restart s code words stand h f tk fit law o live p carried K e) ≡ true) (u : ℕ) (nm : u < s.processors) (row : Row) → HasSeen s M (seat s code words stand h f tk fit law o live p carried K e) row → Goal s code words stand h f tk fit law o live p carried K e ta u nm row
        row_keeps K e ta u nm row (Strand is q) = strand_goal s code words stand h f tk fit law o live p carried K e ta u nm row is q
        row_keeps K e ta u nm row (Looks v ws af er saw) = subst (Goal s code words stand h f tk fit law o live p carried K e ta u nm) er (by_kind K e ta u nm v ws af saw)

-- by places
pub place_rows : (base : Shape) (code : CodeParts) → RowsKeep (record base { takeover = ByPlaces }) code
place_rows base code words stand h f tk fit law o live p carried = row_keeps base code words stand h f tk fit law o live p carried
