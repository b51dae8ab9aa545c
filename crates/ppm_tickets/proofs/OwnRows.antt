-- The rows that push and pop, word by word.
use Rattle.std.proofs.Common.{◌≡◌, ◌≢◌, ◌⊎◌, ◌-◌, ◌+◌, ℕ, List, [], ◌∷◌, Bool, true, false, if◌then◌else◌, ◌==◌, inl, inr, refl, sym, ap, ◌∙◌, subst, arith, eqb-true}
use Rattle.std.specs.Prelude.{slice_get}
use Rattle.ppm_cells.specs.Memory.{read, AreWordsOf}
use Rattle.ppm_cells.specs.declared.cell.Cell.TheVariants as cells
use Rattle.ppm_cells.specs.declared.entry.Entry.TheVariants as entries
use Rattle.ppm_cells.specs.declared.restart.RestartKind.{RestartKind}
use Rattle.ppm_cells.specs.declared.restart.RestartKind.TheVariants.{Run, Push1, Push2, Pop1, Pop2, Seek}
use Rattle.ppm_cells.specs.declared.shape.Shape.{Shape}
use Rattle.ppm_cells.specs.declared.shape.Takeover.{Takeover}
use Rattle.ppm_cells.specs.declared.shape.Takeover.TheVariants.{ByPlaces, ByEntries}
use Rattle.ppm_tickets.specs.Along.{IsInlined}
use Rattle.ppm_code.specs.declared.code.CodeParts.{CodeParts}
use Rattle.ppm_cells.specs.JoinOrder.{both}
use Rattle.ppm_step.specs.Rows.{push_at, left_begins}
use Rattle.ppm_step.specs.Standings.{Standing, IsDone, stands_then}
use Rattle.ppm_step.specs.State.{stand_in}
use Rattle.ppm_step.specs.declared.row.Point.TheVariants.{PushOrder, PushAbove, PushBottom, Offset, PopBelow, PopAgain, PopAbove}
use Rattle.ppm_step.specs.declared.row.Row.{Row}
use Rattle.ppm_step.specs.declared.row.Row.TheVariants.{Now}
use Rattle.ppm_step.specs.declared.row.Then.TheVariants.{Load, Install, Begin}
use Rattle.ppm_tickets.specs.Homes.{Home, Unborn, Pushing, Listed, Popping, Inline, Begun}
use Rattle.ppm_tickets.specs.Lawful.{IsEmpty, IsLocal, IsTaken, Gives, May}
use Rattle.ppm_tickets.specs.Saw.{rest_of, Saw, AreFit, HasSeen, Looks, Carried, Lawful}
use Rattle.ppm_tickets.specs.View.{view, kinds, bottoms, with_restarts}
use Rattle.ppm_tickets.specs.Words.{Word, Empty, Local, Job, Taken, Held, Number, Linked, Restarts, Unread, Spot, Slot, put}
use Rattle.ppm_tickets.proofs.WriteLemmas.{own_stays, own_made, own_tried, job_not_local, ticket_stays, not_free}
use Rattle.ppm_tickets.proofs.CountLemmas.{counts_move, counts_take}
use Rattle.ppm_tickets.proofs.EffectLemmas.{push1_exchange, push1_install, push1_inline, push2_exchange, push2_install, pop1_exchange, pop1_install, pop1_lost, pop2_lost, pop2_exchange, pop2_begins, not_local_taken, not_empty_local, deque_as, gives_local}
use Rattle.ppm_tickets.proofs.StepLemmas.{mine, own_is, own_wrote, own_goes, loads, looks, raising, installs, only_end, ends, beginning, lift_row, sits, installing, fits_block, own_seen, own_order, Goal, seat, Stands, quieting, settled, quiet_there, last_empty}

module _ (s : Shape) (code : CodeParts) where
  module _ (words : List ℕ) (stand : List Standing) (h : ℕ → Home) (f tk : List ℕ) (fit : AreWordsOf s words) where
    abbrev m : Spot → Word
    m = view s words

    abbrev k : ℕ → RestartKind
    k = kinds s words

    abbrev b : ℕ → ℕ
    b = bottoms s words

    abbrev M : Spot → Word
    M = with_restarts m k b

    module _ (law : Lawful s m k b stand h f tk) (o : ℕ) (live : stand_in (slice_get stand o) ≢ IsDone) where
      module _ (p : ℕ) (carried : Carried s m o p) where
        pub push1 : (r : ℕ) → Stands s code words stand h f tk fit law o live p carried (Push1 r)
        push1 r e ta u nm v ws af saw = by s.takeover refl (b p + 1 == s.slots) refl ws af saw
          where
            K : RestartKind
            K = Push1 r

            lift : (how : Takeover) → s.takeover ≡ how → (x : Bool) → (b p + 1 == s.slots) ≡ x → (n : Spot → Word) (ws : List Word) (row : Row) → AreFit ws → rest_of s (seat s code words stand h f tk fit law o live p carried (Push1 r) e) v (push_at (seat s code words stand h f tk fit law o live p carried (Push1 r) e) how r x) ws ≡ row
                → Saw s (seat s code words stand h f tk fit law o live p carried (Push1 r) e) v n (Unit {0}) (push_at (seat s code words stand h f tk fit law o live p carried (Push1 r) e) how r x) ws → HasSeen s n (seat s code words stand h f tk fit law o live p carried (Push1 r) e) row
            lift how ih x is n ws row af er saw = Looks v ws af
                (ap (λ (y : Takeover). rest_of s (seat s code words stand h f tk fit law o live p carried (Push1 r) e) v (push_at (seat s code words stand h f tk fit law o live p carried (Push1 r) e) y r (b p + 1 == s.slots)) ws) ih ∙ ap (λ (z : Bool). rest_of s (seat s code words stand h f tk fit law o live p carried (Push1 r) e) v (push_at (seat s code words stand h f tk fit law o live p carried (Push1 r) e) how r z) ws) is ∙ er)
                (subst (λ (y : Takeover). Saw s (seat s code words stand h f tk fit law o live p carried (Push1 r) e) v n (Unit {0}) (push_at (seat s code words stand h f tk fit law o live p carried (Push1 r) e) y r (b p + 1 == s.slots)) ws) (sym ih)
                (subst (λ (z : Bool). Saw s (seat s code words stand h f tk fit law o live p carried (Push1 r) e) v n (Unit {0}) (push_at (seat s code words stand h f tk fit law o live p carried (Push1 r) e) how r z) ws) (sym is) saw))

            pushed : (IsLocal (m (Slot p (b p + 1)))) → Goal s code words stand h f tk fit law o live p carried (Push1 r) e ta u nm (Now (Install (record { kind = Push2 r; bottom = b p })))
            pushed up = installs s code words stand h f tk fit law o live p carried (Push1 r) e ta u nm (record { kind = Push2 r; bottom = b p }) tt tt (own_goes s code words stand h f tk fit law o live p carried (Push2 r) (b p) tt (push1_install law.board.board p r e (subst IsLocal (sym (own_is s code words stand h f tk fit law o live p carried (b p + 1))) up))) law.counts

            inlined : IsEmpty (m (Slot p (b p + 1))) → Goal s code words stand h f tk fit law o live p carried (Push1 r) e ta u nm (Now (left_begins r (b p)))
            inlined up =
                let k1 = push1_inline law.board.board p r (r + 5) 0 (mine s code words stand h f tk fit law o live p carried) e (subst IsEmpty (sym (own_is s code words stand h f tk fit law o live p carried (b p + 1))) up) in
                installs s code words stand h f tk fit law o live p carried (Push1 r) e ta u nm (record { kind = Run (r + 5) 0; bottom = b p }) tt tt (own_goes s code words stand h f tk fit law o live p carried (Run (r + 5) 0) (b p) tt k1.1)
                (counts_move h f tk r Inline law.counts (λ z. let x : Pushing p ≡ Unborn = sym k1.0 ∙ z in cc) (λ z. let x : Pushing p ≡ Begun = sym k1.0 ∙ z in cc) (λ z. cc) (λ z. cc))

            -- from the load of the entry above, however it was come to
            above : (before : (Spot → Word) → Type 0)
                → ((n : Spot → Word) (ws : List Word) (row : Row) → AreFit ws → rest_of s (seat s code words stand h f tk fit law o live p carried (Push1 r) e) v (Now (Load (PushAbove r))) ws ≡ row → Saw s (seat s code words stand h f tk fit law o live p carried (Push1 r) e) v n (before n) (Now (Load (PushAbove r))) ws → HasSeen s n (seat s code words stand h f tk fit law o live p carried (Push1 r) e) row)
                → (ws : List Word) → AreFit ws → Saw s (seat s code words stand h f tk fit law o live p carried (Push1 r) e) v M (before M) (Now (Load (PushAbove r))) ws → Goal s code words stand h f tk fit law o live p carried (Push1 r) e ta u nm (rest_of s (seat s code words stand h f tk fit law o live p carried (Push1 r) e) v (Now (Load (PushAbove r))) ws)
            above before lifts [] af saw = looks s code words stand h f tk fit law o live p carried (Push1 r) e ta u nm v before (Now (Load (PushAbove r))) lifts [] tt saw (PushAbove r) refl (Slot p (b p + 1)) refl refl refl (λ z. z) (λ x. refl) (λ z. z)
            above before lifts (Empty t ∷ ws) af saw =
                raising s code words stand h f tk fit law o live p carried (Push1 r) e ta u nm v (λ n. before n × May o p (Slot p (b p + 1)) (Empty t) (n (Slot p (b p + 1)))) p (b p + 1) (entries.Empty t) (entries.Local (t + 1) 0) (Install (record { kind = Push2 r; bottom = b p }))
                (λ n ws row af2 er saw. lifts n (Empty t ∷ ws) row (af.0, af2) er saw) af.0 (λ lt. (omega arith, (lt, (omega arith, tt)))) refl
                (λ a same. (own_wrote s code words stand h f tk fit law o live p carried (b p + 1) (Local (t + 1) 0) (λ z. z) (push1_exchange law.board.board p r t e (own_is s code words stand h f tk fit law o live p carried (b p + 1) ∙ same)), own_order s code words stand h f tk fit law o live p carried (b p + 1) (Empty t) (Local (t + 1) 0) same (λ z. z) (λ z. z), law.counts, own_seen s code words stand h f tk fit law o live p carried (b p + 1) (Empty t) (Local (t + 1) 0) (λ z. z) (omega arith) (λ z. z)))
                (λ w lf us af3 saw. only_end s code words stand h f tk fit law o live p carried (Push1 r) e ta u nm v (record { kind = Push2 r; bottom = b p })
                (λ saw. pushed (subst IsLocal (own_stays o p (b p + 1) (Local (t + 1) 0) _ (λ x. x) (own_made o p (b p + 1) (Empty t) (Local (t + 1) 0) w _ (λ x. x.1) (λ x. x) (λ x. x) saw)) tt)) us saw)
                ws af.1 saw
            above before lifts (Local t x ∷ []) af saw = pushed (subst IsLocal (own_stays o p (b p + 1) (Local t x) _ (λ x. x) saw.1) tt)
            above before lifts (Job t x ∷ []) af saw = absurd (not_free _ (ticket_stays o p (b p + 1) (Job t x) _ (inl tt) saw.1) (subst (λ (z : Word). IsEmpty z ⊎ IsLocal z) (own_is s code words stand h f tk fit law o live p carried (b p + 1)) (deque_as law.board.board p (Push1 r) e).here.2))
            above before lifts (Taken t x ∷ []) af saw = absurd (not_free _ (ticket_stays o p (b p + 1) (Taken t x) _ (inr tt) saw.1) (subst (λ (z : Word). IsEmpty z ⊎ IsLocal z) (own_is s code words stand h f tk fit law o live p carried (b p + 1)) (deque_as law.board.board p (Push1 r) e).here.2))
            above before lifts (Number n ∷ []) af saw = ends s code words stand h f tk fit law o live p carried (Push1 r) e ta u nm
            above before lifts (Held n x ∷ []) af saw = ends s code words stand h f tk fit law o live p carried (Push1 r) e ta u nm
            above before lifts (Unread ∷ []) af saw = ends s code words stand h f tk fit law o live p carried (Push1 r) e ta u nm
            above before lifts (Restarts kind_ bottom_ ∷ []) af saw = ends s code words stand h f tk fit law o live p carried (Push1 r) e ta u nm
            above before lifts (Linked link_ ∷ []) af saw = ends s code words stand h f tk fit law o live p carried (Push1 r) e ta u nm
            above before lifts _ af saw = absurd saw

            by : (how : Takeover) → s.takeover ≡ how → (x : Bool) → (b p + 1 == s.slots) ≡ x → (ws : List Word) → AreFit ws → Saw s (seat s code words stand h f tk fit law o live p carried (Push1 r) e) v M (Unit {0}) (push_at (seat s code words stand h f tk fit law o live p carried (Push1 r) e) how r x) ws
                → Goal s code words stand h f tk fit law o live p carried (Push1 r) e ta u nm (rest_of s (seat s code words stand h f tk fit law o live p carried (Push1 r) e) v (push_at (seat s code words stand h f tk fit law o live p carried (Push1 r) e) how r x) ws)
            by how ih true is [] af saw = λ there kept. quieting s code words stand h f tk fit law o live (cells.BlockWord (r + 1)) both tt (quiet_there s code (cells.BlockWord (r + 1)) tt there kept) (stands_then s code (seat s code words stand h f tk fit law o live p carried (Push1 r) e) (left_begins r (b p)))
                (settled s code m k b o (seat s code words stand h f tk fit law o live p carried (Push1 r) e) (sits s code words stand h f tk fit law o live p carried (Push1 r) e ta) (Now (left_begins r (b p))) (lift how ih true is M (Number 0 ∷ []) (Now (left_begins r (b p))) (tt, tt) refl (tt, tt)))
            by how ih true is (w ∷ []) af saw = inlined (last_empty s code words p (b p + 1) (eqb-true (b p + 1) s.slots is))
            by how ih true is (w ∷ x ∷ ws) af saw = absurd saw
            by ByPlaces ih false is ws af saw = above (λ n. Unit {0}) (lift ByPlaces ih false is) ws af saw
            by ByEntries ih false is ws af saw = order ws af saw
              where
                orders : Goal s code words stand h f tk fit law o live p carried (Push1 r) e ta u nm (Now (left_begins r (b p)))
                orders there orderly =
                    let up : IsEmpty (m (Slot p (b p + 1))) = subst (λ (y : Takeover). IsInlined y s words (seat s code words stand h f tk fit law o live p carried (Push1 r) e) (Push1 r) (Run (r + 5) 0)) ih orderly in
                    inlined up there orderly

                order : (ws : List Word) → AreFit ws → Saw s (seat s code words stand h f tk fit law o live p carried (Push1 r) e) v M (Unit {0}) (Now (Load (PushOrder r))) ws → Goal s code words stand h f tk fit law o live p carried (Push1 r) e ta u nm (rest_of s (seat s code words stand h f tk fit law o live p carried (Push1 r) e) v (Now (Load (PushOrder r))) ws)
                order [] af saw = loads s code words stand h f tk fit law o live p carried (Push1 r) e ta u nm v (λ n. Unit {0}) (Now (Load (PushOrder r))) (lift ByEntries ih false is) [] tt saw (PushOrder r) refl (Number (read s words (cells.BlockWord (r + 1)))) refl tt tt (λ x. refl)
                order (Number n ∷ us) af saw = test (n == both) refl us af.1 saw
                  where
                    lifts : (y : Bool) → (n == both) ≡ y → (l : Spot → Word) (ws : List Word) (row : Row) → AreFit ws → rest_of s (seat s code words stand h f tk fit law o live p carried (Push1 r) e) v (if y then Now (left_begins r (b p)) else Now (Load (PushAbove r))) ws ≡ row
                        → Saw s (seat s code words stand h f tk fit law o live p carried (Push1 r) e) v l (Unit {0} × Unit {0}) (if y then Now (left_begins r (b p)) else Now (Load (PushAbove r))) ws → HasSeen s l (seat s code words stand h f tk fit law o live p carried (Push1 r) e) row
                    lifts y same l ws row af2 er saw = lift ByEntries ih false is l (Number n ∷ ws) row (tt, af2)
                        (ap (λ (z : Bool). rest_of s (seat s code words stand h f tk fit law o live p carried (Push1 r) e) v (if z then Now (left_begins r (b p)) else Now (Load (PushAbove r))) ws) same ∙ er)
                        (subst (λ (z : Bool). Saw s (seat s code words stand h f tk fit law o live p carried (Push1 r) e) v l (Unit {0} × Unit {0}) (if z then Now (left_begins r (b p)) else Now (Load (PushAbove r))) ws) (sym same) saw)

                    test : (y : Bool) → (n == both) ≡ y → (us : List Word) → AreFit us → Saw s (seat s code words stand h f tk fit law o live p carried (Push1 r) e) v M (Unit {0} × Unit {0}) (if y then Now (left_begins r (b p)) else Now (Load (PushAbove r))) us
                        → Goal s code words stand h f tk fit law o live p carried (Push1 r) e ta u nm (rest_of s (seat s code words stand h f tk fit law o live p carried (Push1 r) e) v (if y then Now (left_begins r (b p)) else Now (Load (PushAbove r))) us)
                    test true same [] af2 saw = orders
                    test true same (w ∷ us) af2 saw = absurd saw
                    test false same us af2 saw = above (λ n. Unit {0} × Unit {0}) (lifts false same) us af2 saw
                order (_ ∷ []) af saw = ends s code words stand h f tk fit law o live p carried (Push1 r) e ta u nm
                order (_ ∷ w ∷ us) af saw = absurd saw

        pub push2 : (r : ℕ) → Stands s code words stand h f tk fit law o live p carried (Push2 r)
        push2 r e ta u nm v ws af saw = by ws af saw
          where
            ended : (IsLocal (m (Slot p (b p))) → ⊥) → Goal s code words stand h f tk fit law o live p carried (Push2 r) e ta u nm (Now (left_begins r (b p + 1)))
            ended free = installs s code words stand h f tk fit law o live p carried (Push2 r) e ta u nm (record { kind = Run (r + 5) 0; bottom = b p + 1 }) tt tt (own_goes s code words stand h f tk fit law o live p carried (Run (r + 5) 0) (b p + 1) tt (push2_install law.board.board p r (r + 5) 0 e (λ z. free (subst IsLocal (own_is s code words stand h f tk fit law o live p carried (b p)) z)))) law.counts

            by : (ws : List Word) → AreFit ws → Saw s (seat s code words stand h f tk fit law o live p carried (Push2 r) e) v M (Unit {0}) (Now (Load (PushBottom r))) ws → Goal s code words stand h f tk fit law o live p carried (Push2 r) e ta u nm (rest_of s (seat s code words stand h f tk fit law o live p carried (Push2 r) e) v (Now (Load (PushBottom r))) ws)
            by [] af saw = looks s code words stand h f tk fit law o live p carried (Push2 r) e ta u nm v (λ n. Unit {0}) (Now (Load (PushBottom r))) (lift_row s code words stand h f tk fit law o live p carried (Push2 r) e ta u nm v) [] tt saw (PushBottom r) refl (Slot p (b p)) refl refl refl (λ z. z) (λ x. refl) (λ z. z)
            by (Local t x ∷ ws) af saw =
                raising s code words stand h f tk fit law o live p carried (Push2 r) e ta u nm v (λ n. Unit {0} × May o p (Slot p (b p)) (Local t x) (n (Slot p (b p)))) p (b p) (entries.Local t x) (entries.Job (t + 1) r) (left_begins r (b p + 1))
                (λ n ws row af2 er saw. lift_row s code words stand h f tk fit law o live p carried (Push2 r) e ta u nm v n (Local t x ∷ ws) row (af.0, af2) er saw) af.0 (λ lt. ((fits_block s code words stand h f tk fit law o live p carried (Push2 r) e ta).0.0, (lt, (omega arith, tt)))) refl
                (λ a same.
                let q = push2_exchange law.board.board p r t x (mine s code words stand h f tk fit law o live p carried) e (own_is s code words stand h f tk fit law o live p carried (b p) ∙ same) in (
                  own_wrote s code words stand h f tk fit law o live p carried (b p) (Job (t + 1) r) (λ z. z) q.1,
                  own_order s code words stand h f tk fit law o live p carried (b p) (Local t x) (Job (t + 1) r) same (λ z. z) (λ z. z),
                  counts_move h f tk r (Listed p (b p) (t + 1)) law.counts (λ z. let y : Pushing p ≡ Unborn = sym q.0 ∙ z in cc) (λ z. let y : Pushing p ≡ Begun = sym q.0 ∙ z in cc) (λ z. cc) (λ z. cc),
                  own_seen s code words stand h f tk fit law o live p carried (b p) (Local t x) (Job (t + 1) r) (λ z. z) (omega arith) (λ z. z),
                ))
                (λ w lf us af3 saw. only_end s code words stand h f tk fit law o live p carried (Push2 r) e ta u nm v (record { kind = Run (r + 5) 0; bottom = b p + 1 })
                (λ saw. ended (job_not_local o p p (b p) (t + 1) r _ (own_made o p (b p) (Local t x) (Job (t + 1) r) w _ (λ x. x.1) (λ x. x) (λ x. x) saw) refl)) us saw)
                ws af.1 saw
            by (Empty t ∷ []) af saw = ended (subst (λ (w : Word). IsLocal w → ⊥) (own_stays o p (b p) (Empty t) _ (λ x. x) saw.1) (λ x. x))
            by (Job t x ∷ []) af saw = ended (job_not_local o p p (b p) t x _ saw.1 refl)
            by (Taken t x ∷ []) af saw = ended (subst (λ (w : Word). IsLocal w → ⊥) (own_stays o p (b p) (Taken t x) _ (λ x. x) saw.1) (λ x. x))
            by (Number n ∷ []) af saw = ends s code words stand h f tk fit law o live p carried (Push2 r) e ta u nm
            by (Held n x ∷ []) af saw = ends s code words stand h f tk fit law o live p carried (Push2 r) e ta u nm
            by (Unread ∷ []) af saw = ends s code words stand h f tk fit law o live p carried (Push2 r) e ta u nm
            by (Restarts kind_ bottom_ ∷ []) af saw = ends s code words stand h f tk fit law o live p carried (Push2 r) e ta u nm
            by (Linked link_ ∷ []) af saw = ends s code words stand h f tk fit law o live p carried (Push2 r) e ta u nm
            by _ af saw = absurd saw

        pub pop1 : Stands s code words stand h f tk fit law o live p carried Pop1
        pop1 e ta u nm v ws af saw = by ws af saw
          where
            by : (ws : List Word) → AreFit ws → Saw s (seat s code words stand h f tk fit law o live p carried Pop1 e) v M (Unit {0}) (Now (Load PopBelow)) ws → Goal s code words stand h f tk fit law o live p carried Pop1 e ta u nm (rest_of s (seat s code words stand h f tk fit law o live p carried Pop1 e) v (Now (Load PopBelow)) ws)
            by [] af saw = looks s code words stand h f tk fit law o live p carried Pop1 e ta u nm v (λ n. Unit {0}) (Now (Load PopBelow)) (lift_row s code words stand h f tk fit law o live p carried Pop1 e ta u nm v) [] tt saw PopBelow refl (Slot p (b p - 1)) refl refl refl (λ z. z) (λ x. refl) (λ z. z)
            by (Job t r ∷ ws) af saw =
                raising s code words stand h f tk fit law o live p carried Pop1 e ta u nm v (λ n. Unit {0} × May o p (Slot p (b p - 1)) (Job t r) (n (Slot p (b p - 1)))) p (b p - 1) (entries.Job t r) (entries.Local (t + 1) r) (Install (record { kind = Pop2 r; bottom = b p }))
                (λ n ws row af2 er saw. lift_row s code words stand h f tk fit law o live p carried Pop1 e ta u nm v n (Job t r ∷ ws) row (af.0, af2) er saw) af.0 (λ lt. (af.0.0, (lt, (omega arith, tt)))) refl
                (λ a same.
                let q = pop1_exchange law.board.board p t r (mine s code words stand h f tk fit law o live p carried) e (own_is s code words stand h f tk fit law o live p carried (b p - 1) ∙ same) in (
                  own_wrote s code words stand h f tk fit law o live p carried (b p - 1) (Local (t + 1) r) (λ z. z) q.1,
                  own_order s code words stand h f tk fit law o live p carried (b p - 1) (Job t r) (Local (t + 1) r) same (λ z. z) (λ z. z),
                  counts_move h f tk r (Popping p) law.counts (λ z. let y : Listed p (b p - 1) t ≡ Unborn = sym q.0 ∙ z in cc) (λ z. let y : Listed p (b p - 1) t ≡ Begun = sym q.0 ∙ z in cc) (λ z. cc) (λ z. cc),
                  own_seen s code words stand h f tk fit law o live p carried (b p - 1) (Job t r) (Local (t + 1) r) (λ z. z) (omega arith) (λ z. z),
                ))
                (λ w lf us af3 saw. only_end s code words stand h f tk fit law o live p carried Pop1 e ta u nm v (record { kind = Pop2 r; bottom = b p })
                (λ saw. installs s code words stand h f tk fit law o live p carried Pop1 e ta u nm (record { kind = Pop2 r; bottom = b p }) tt tt
                (own_goes s code words stand h f tk fit law o live p carried (Pop2 r) (b p) tt (pop1_install law.board.board p (t + 1) r e (subst (λ (z : Word). (z ≡ Local (t + 1) r) ⊎ IsTaken z) (sym (own_is s code words stand h f tk fit law o live p carried (b p - 1))) (own_tried o p (b p - 1) t r (Local (t + 1) r) w _ (λ x. x.1) (λ x. x) saw)))) law.counts) us saw)
                ws af.1 saw
            by (Local t r ∷ []) af saw = installs s code words stand h f tk fit law o live p carried Pop1 e ta u nm (record { kind = Pop2 r; bottom = b p }) tt tt (own_goes s code words stand h f tk fit law o live p carried (Pop2 r) (b p) tt (pop1_install law.board.board p t r e (inl (own_is s code words stand h f tk fit law o live p carried (b p - 1) ∙ sym (own_stays o p (b p - 1) (Local t r) _ (λ x. x) saw.1))))) law.counts
            by (Taken t x ∷ []) af saw = installs s code words stand h f tk fit law o live p carried Pop1 e ta u nm (record { kind = Seek; bottom = b p }) tt tt (own_goes s code words stand h f tk fit law o live p carried Seek (b p) tt (pop1_lost law.board.board p e (subst IsTaken (own_stays o p (b p - 1) (Taken t x) _ (λ x. x) saw.1 ∙ sym (own_is s code words stand h f tk fit law o live p carried (b p - 1))) tt))) law.counts
            by (Empty t ∷ []) af saw = ends s code words stand h f tk fit law o live p carried Pop1 e ta u nm
            by (Number n ∷ []) af saw = ends s code words stand h f tk fit law o live p carried Pop1 e ta u nm
            by (Held n x ∷ []) af saw = ends s code words stand h f tk fit law o live p carried Pop1 e ta u nm
            by (Unread ∷ []) af saw = ends s code words stand h f tk fit law o live p carried Pop1 e ta u nm
            by (Restarts kind_ bottom_ ∷ []) af saw = ends s code words stand h f tk fit law o live p carried Pop1 e ta u nm
            by (Linked link_ ∷ []) af saw = ends s code words stand h f tk fit law o live p carried Pop1 e ta u nm
            by _ af saw = absurd saw

        pub pop2 : (r : ℕ) → Stands s code words stand h f tk fit law o live p carried (Pop2 r)
        pop2 r e ta u nm v ws af saw = by ws af saw
          where
            G : Spot → Word
            G = law.board.ghost

            low : IsEmpty (m (Slot p (b p))) → IsLocal (law.board.ghost (Slot p (b p - 1)))
            low up = elim (deque_as law.board.board p (Pop2 r) e).here.0 [ inl a ↦ absurd (not_empty_local _ (subst IsEmpty (sym (own_is s code words stand h f tk fit law o live p carried (b p))) up) a.1) | inr a ↦ gives_local _ r a.0 ]

            gives : IsLocal (m (Slot p (b p - 1))) → Gives (law.board.ghost (Slot p (b p - 1))) r
            gives down = elim (deque_as law.board.board p (Pop2 r) e).here.0 [ inl a ↦ absurd (not_local_taken _ (subst IsLocal (sym (own_is s code words stand h f tk fit law o live p carried (b p - 1))) down) a.0) | inr a ↦ a.0 ]

            high : IsLocal (m (Slot p (b p - 1))) → IsEmpty (m (Slot p (b p))) ⊎ IsLocal (m (Slot p (b p)))
            high down = elim (deque_as law.board.board p (Pop2 r) e).here.0 [
              | inl a ↦ absurd (not_local_taken _ (subst IsLocal (sym (own_is s code words stand h f tk fit law o live p carried (b p - 1))) down) a.0)
              | inr a ↦ subst (λ (z : Word). IsEmpty z ⊎ IsLocal z) (own_is s code words stand h f tk fit law o live p carried (b p)) a.1
            ]

            won : IsEmpty (m (Slot p (b p))) → (frame : ℕ) → Goal s code words stand h f tk fit law o live p carried (Pop2 r) e ta u nm (Now (Begin r frame (b p - 1)))
            won up frame there orderly =
                let q = pop2_begins law.board.board p r frame 0 (mine s code words stand h f tk fit law o live p carried) e (low up) (subst IsEmpty (sym (own_is s code words stand h f tk fit law o live p carried (b p))) up) in
                installing s code words stand h f tk fit law o live p carried (record { kind = Run frame 0; bottom = b p - 1 }) there tt tt (put h r Begun) f (r ∷ tk) (own_goes s code words stand h f tk fit law o live p carried (Run frame 0) (b p - 1) tt q.1)
                (counts_take h f tk r law.counts (λ z. let y : Popping p ≡ Unborn = sym q.0 ∙ z in cc) (λ z. let y : Popping p ≡ Begun = sym q.0 ∙ z in cc))

            by : (ws : List Word) → AreFit ws → Saw s (seat s code words stand h f tk fit law o live p carried (Pop2 r) e) v M (Unit {0}) (Now (Load (PopAgain r))) ws → Goal s code words stand h f tk fit law o live p carried (Pop2 r) e ta u nm (rest_of s (seat s code words stand h f tk fit law o live p carried (Pop2 r) e) v (Now (Load (PopAgain r))) ws)
            by [] af saw = looks s code words stand h f tk fit law o live p carried (Pop2 r) e ta u nm v (λ n. Unit {0}) (Now (Load (PopAgain r))) (lift_row s code words stand h f tk fit law o live p carried (Pop2 r) e ta u nm v) [] tt saw (PopAgain r) refl (Slot p (b p - 1)) refl refl refl (λ z. z) (λ x. refl) (λ z. z)
            by (Taken t x ∷ []) af saw = installs s code words stand h f tk fit law o live p carried (Pop2 r) e ta u nm (record { kind = Seek; bottom = b p }) tt tt (own_goes s code words stand h f tk fit law o live p carried Seek (b p) tt (pop2_lost law.board.board p r e (subst IsTaken (own_stays o p (b p - 1) (Taken t x) _ (λ x. x) saw.1 ∙ sym (own_is s code words stand h f tk fit law o live p carried (b p - 1))) tt))) law.counts
            by (Empty t ∷ []) af saw = ends s code words stand h f tk fit law o live p carried (Pop2 r) e ta u nm
            by (Job t x ∷ []) af saw = ends s code words stand h f tk fit law o live p carried (Pop2 r) e ta u nm
            by (Number n ∷ []) af saw = ends s code words stand h f tk fit law o live p carried (Pop2 r) e ta u nm
            by (Held n x ∷ []) af saw = ends s code words stand h f tk fit law o live p carried (Pop2 r) e ta u nm
            by (Unread ∷ []) af saw = ends s code words stand h f tk fit law o live p carried (Pop2 r) e ta u nm
            by (Restarts kind_ bottom_ ∷ []) af saw = ends s code words stand h f tk fit law o live p carried (Pop2 r) e ta u nm
            by (Linked link_ ∷ []) af saw = ends s code words stand h f tk fit law o live p carried (Pop2 r) e ta u nm
            by (Local t x ∷ ws) af saw = above ws af.1 saw
              where
                down : Unit {0} × May o p (Slot p (b p - 1)) (Local t x) (m (Slot p (b p - 1))) → IsLocal (m (Slot p (b p - 1)))
                down a = subst IsLocal (own_stays o p (b p - 1) (Local t x) _ (λ x. x) a.1) tt

                above : (ws : List Word) → AreFit ws → Saw s (seat s code words stand h f tk fit law o live p carried (Pop2 r) e) v M (Unit {0} × May o p (Slot p (b p - 1)) (Local t x) (m (Slot p (b p - 1)))) (Now (Load (PopAbove r))) ws
                    → Goal s code words stand h f tk fit law o live p carried (Pop2 r) e ta u nm (rest_of s (seat s code words stand h f tk fit law o live p carried (Pop2 r) e) v (Now (Load (PopAbove r))) ws)
                above [] af2 saw = looks s code words stand h f tk fit law o live p carried (Pop2 r) e ta u nm v (λ n. Unit {0}) (Now (Load (PopAgain r))) (lift_row s code words stand h f tk fit law o live p carried (Pop2 r) e ta u nm v) (Local t x ∷ []) (af.0, tt) saw (PopAbove r) refl (Slot p (b p)) refl refl refl (λ z. z) (λ x. refl) (λ z. z)
                above (Empty y ∷ ws) af2 saw =
                    beginning s code words stand h f tk fit law o live p carried (Pop2 r) e ta u nm v (λ n. (Unit {0} × May o p (Slot p (b p - 1)) (Local t x) (n (Slot p (b p - 1)))) × May o p (Slot p (b p)) (Empty y) (n (Slot p (b p)))) r (b p - 1)
                    (λ n ws row af3 er saw. lift_row s code words stand h f tk fit law o live p carried (Pop2 r) e ta u nm v n (Local t x ∷ Empty y ∷ ws) row (af.0, (af2.0, af3)) er saw)
                    (λ a frame. won (subst IsEmpty (own_stays o p (b p) (Empty y) _ (λ x. x) a.1) tt) frame) ws af2.1 saw
                above (Local y z ∷ ws) af2 saw =
                    raising s code words stand h f tk fit law o live p carried (Pop2 r) e ta u nm v (λ n. (Unit {0} × May o p (Slot p (b p - 1)) (Local t x) (n (Slot p (b p - 1)))) × May o p (Slot p (b p)) (Local y z) (n (Slot p (b p)))) p (b p) (entries.Local y z) (entries.Empty (y + 1)) (Load (Offset r (b p - 1)))
                    (λ n ws row af3 er saw. lift_row s code words stand h f tk fit law o live p carried (Pop2 r) e ta u nm v n (Local t x ∷ Local y z ∷ ws) row (af.0, (af2.0, af3)) er saw) af2.0 (λ lt. (omega arith, (lt, (omega arith, tt)))) refl
                    (λ a same. (own_wrote s code words stand h f tk fit law o live p carried (b p) (Empty (y + 1)) (λ z. z) (pop2_exchange law.board.board p r y z e (gives (down a.0)) (own_is s code words stand h f tk fit law o live p carried (b p) ∙ same)), own_order s code words stand h f tk fit law o live p carried (b p) (Local y z) (Empty (y + 1)) same (λ z. z) (λ z. z), law.counts, own_seen s code words stand h f tk fit law o live p carried (b p) (Local y z) (Empty (y + 1)) (λ z. z) (omega arith) (λ z. z)))
                    (λ w lf us af3 saw. beginning s code words stand h f tk fit law o live p carried (Pop2 r) e ta u nm v
                    (λ n. ((w ≡ Empty (y + 1)) ⊎ ((w ≢ Local y z) × ((Unit {0} × May o p (Slot p (b p - 1)) (Local t x) (n (Slot p (b p - 1)))) × May o p (Slot p (b p)) (Local y z) (n (Slot p (b p)))))) × May o p (Slot p (b p)) w (n (Slot p (b p))))
                    r (b p - 1) lf
                    (λ saw frame. won (subst IsEmpty (own_stays o p (b p) (Empty (y + 1)) _ (λ x. x) (own_made o p (b p) (Local y z) (Empty (y + 1)) w _ (λ x. x.1) (λ x. x) (λ x. x) saw)) tt) frame) us af3 saw)
                    ws af2.1 saw
                above (Job y z ∷ ws) af2 saw =
                    beginning s code words stand h f tk fit law o live p carried (Pop2 r) e ta u nm v (λ n. (Unit {0} × May o p (Slot p (b p - 1)) (Local t x) (n (Slot p (b p - 1)))) × May o p (Slot p (b p)) (Job y z) (n (Slot p (b p)))) r (b p - 1)
                    (λ n ws row af3 er saw. lift_row s code words stand h f tk fit law o live p carried (Pop2 r) e ta u nm v n (Local t x ∷ Job y z ∷ ws) row (af.0, (af2.0, af3)) er saw)
                    (λ a frame. absurd (not_free _ (ticket_stays o p (b p) (Job y z) _ (inl tt) a.1) (high (down a.0)))) ws af2.1 saw
                above (Taken y z ∷ ws) af2 saw =
                    beginning s code words stand h f tk fit law o live p carried (Pop2 r) e ta u nm v (λ n. (Unit {0} × May o p (Slot p (b p - 1)) (Local t x) (n (Slot p (b p - 1)))) × May o p (Slot p (b p)) (Taken y z) (n (Slot p (b p)))) r (b p - 1)
                    (λ n ws row af3 er saw. lift_row s code words stand h f tk fit law o live p carried (Pop2 r) e ta u nm v n (Local t x ∷ Taken y z ∷ ws) row (af.0, (af2.0, af3)) er saw)
                    (λ a frame. absurd (not_free _ (ticket_stays o p (b p) (Taken y z) _ (inr tt) a.1) (high (down a.0)))) ws af2.1 saw
                above (Number y ∷ []) af2 saw = ends s code words stand h f tk fit law o live p carried (Pop2 r) e ta u nm
                above (Held y z ∷ []) af2 saw = ends s code words stand h f tk fit law o live p carried (Pop2 r) e ta u nm
                above (Unread ∷ []) af2 saw = ends s code words stand h f tk fit law o live p carried (Pop2 r) e ta u nm
                above (Restarts kind_ bottom_ ∷ []) af2 saw = ends s code words stand h f tk fit law o live p carried (Pop2 r) e ta u nm
                above (Linked link_ ∷ []) af2 saw = ends s code words stand h f tk fit law o live p carried (Pop2 r) e ta u nm
                above _ af2 saw = absurd saw
            by _ af saw = absurd saw
