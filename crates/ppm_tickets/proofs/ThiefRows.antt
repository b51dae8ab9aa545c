-- The rows that seek and steal, word by word.
use Rattle.std.proofs.Common.{◌⊎◌, ◌≤◌, Option, Some, None, ◌≡◌, ◌≢◌, ◌<◌, ◌+◌, ℕ, List, [], ◌∷◌, Bool, true, false, if◌then◌else◌, ◌==◌, inl, inr, refl, sym, ap, ◌∙◌, subst, arith, slice_set, eqb-true, eq-eqb, true≢false}
use Rattle.std.specs.Prelude.{nat_lt, slice_get, ◌&&◌, ◌^◌}
use Rattle.std.proofs.lemmas.Bool.{ltb-true, lt-ltb}
use Rattle.ppm_cells.specs.Cells.{address}
use Rattle.ppm_cells.specs.Memory.{write as store, AreWordsOf}
use Rattle.ppm_cells.specs.declared.cell.Cell.TheVariants as cells
use Rattle.ppm_cells.specs.Entry.{IsEntry}
use Rattle.ppm_cells.specs.Holder.{IsHolder}
use Rattle.ppm_cells.specs.declared.entry.Entry.{Entry}
use Rattle.ppm_cells.specs.declared.holder.Holder.{Holder as Hold}
use Rattle.ppm_cells.specs.declared.entry.Entry.TheVariants as entries
use Rattle.ppm_cells.specs.declared.restart.RestartKind.{RestartKind}
use Rattle.ppm_cells.specs.declared.restart.RestartKind.TheVariants.{Run, Seek, Steal, Check, Take}
use Rattle.ppm_cells.specs.declared.shape.Shape.{Shape}
use Rattle.ppm_cells.specs.declared.shape.Takeover.{Takeover}
use Rattle.ppm_cells.specs.declared.shape.Takeover.TheVariants.{ByPlaces, ByEntries}
use Rattle.ppm_step.specs.declared.row.Seat.{Seat}
use Rattle.ppm_code.specs.declared.code.CodeParts.{CodeParts}
use Rattle.ppm_step.specs.Contents.{content_of, word_of}
use Rattle.ppm_step.specs.Rows.{bids, notes, passes, passes_by, local_by, seek_by, seek_held, taken_so, changed, can_be_taken}
use Rattle.ppm_step.specs.Standings.{Standing, IsDone, stands_then}
use Rattle.ppm_step.specs.State.{stand_in}
use Rattle.ppm_step.specs.There.{restart_is_there}
use Rattle.ppm_step.specs.declared.content.Content.{Content}
use Rattle.ppm_step.specs.declared.content.Content.TheVariants.{ANumber, AnEntry, AHolder}
use Rattle.ppm_step.specs.declared.content.Reading.TheVariants.{AsEntry, AsHolder}
use Rattle.ppm_step.specs.declared.row.Point.TheVariants.{Offset, SeekHolder, SeekDead, SeekTop, SeekEntry, SeekClosed, StealMessage, TakenMessage, TakenEntry}
use Rattle.ppm_step.specs.declared.row.Row.{Row}
use Rattle.ppm_step.specs.declared.row.Row.TheVariants.{Now, Store}
use Rattle.ppm_step.specs.declared.row.Then.{Then}
use Rattle.ppm_step.specs.declared.row.Then.TheVariants.{Load, Install, Begin, Again, Broken}
use Rattle.ppm_tickets.specs.Homes.{Home, Unborn, Listed, Stolen, Begun}
use Rattle.ppm_tickets.specs.Lawful.{Changes, IsHome, IsTaken, IsLocal, IsClaim, IsThief, is_local, tag, IsDead, Closed, May, Aims}
use Rattle.ppm_tickets.specs.Saw.{rest_of, OfClosed, Knows, Saw, AreFit, HasSeen, Lives, Carried, Lawful}
use Rattle.ppm_tickets.specs.View.{word_as, view, kinds, bottoms, with_restarts}
use Rattle.ppm_tickets.specs.Words.{Word, Empty, Local, Job, Taken, Held, Number, Linked, Restarts, Unread, Spot, Message, Bid, Top, Slot, Holder, Carry, Dead, put, write}
use Rattle.ppm_tickets.proofs.WriteLemmas.{write_here, write_else, may_on, taken_stays, not_by, not_heir}
use Rattle.ppm_tickets.proofs.ViewLemmas.{again, lone_top, message_written, restarts_kept}
use Rattle.ppm_tickets.proofs.OrderLemmas.{order_entry, order_top, order_other}
use Rattle.ppm_tickets.proofs.HoldingLemmas.{holding_other, IsIdle}
use Rattle.ppm_tickets.proofs.CountLemmas.{counts_move, counts_take}
use Rattle.ppm_tickets.proofs.FollowRows.{inherits}
use Rattle.ppm_tickets.proofs.EstateLemmas.{closing, wrote, noted as noted_estate, noted_both, installed, claimed, as_shown, as_was}
use Rattle.ppm_tickets.proofs.EffectLemmas.{plain_install, message_written as message_board, other_written, steal_exchange, begins}
use Rattle.ppm_tickets.proofs.StepLemmas.{shut_not, home_as, Stills, mine, open_, own_goes, IsFree, free_thief, closed_kept, rooted_kept, looks, raising, making, installs, only_end, ends, agains, beginning, lift_row, installing, apart, Goal, seat, restart, Stands, sees_all, settled, becoming, length_set, both_true, both_are, grows_each}

module _ (s : Shape) (code : CodeParts) where
  module _ (words : List ℕ) (stand : List Standing) (h : ℕ → Home) (f tk : List ℕ) (fit : AreWordsOf s words) where
    abbrev m : Spot → Word
    m = view s words

    abbrev k : ℕ → RestartKind
    k = kinds s words

    abbrev b : ℕ → ℕ
    b = bottoms s words

    abbrev M : Spot → Word
    M = with_restarts m k b

    module _ (law : Lawful s m k b stand h f tk) (o : ℕ) (live : stand_in (slice_get stand o) ≢ IsDone) where
      module _ (p : ℕ) (carried : Carried s m o p) where
        job_taken : (how : Takeover) (t r : ℕ) → taken_so how p (entries.Job t r) ≡ Some (entries.Taken (t + 1) p)
        job_taken ByPlaces t r = refl
        job_taken ByEntries t r = refl

        empty_taken : (how : Takeover) (t : ℕ) → taken_so how p (entries.Empty t) ≡ None
        empty_taken ByPlaces t = refl
        empty_taken ByEntries t = refl

        taken_taken : (how : Takeover) (t y : ℕ) → taken_so how p (entries.Taken t y) ≡ None
        taken_taken ByPlaces t y = refl
        taken_taken ByEntries t y = refl

        -- the own message
        own_message : (how : Takeover) (x i : ℕ) (st : Seat) (v : ℕ) → st.place ≡ p → OfClosed how st v M (TakenMessage p x i) (m (Message p)) (((p ≡ st.place) ⊎ IsDead (M (Dead p))) × (m (Message p) ≡ M (Message p)))
        own_message ByPlaces x i st v e = λ same. refl
        own_message ByEntries x i st v e = (inl (sym e), refl)

        message_is : (how : Takeover) (x i : ℕ) (st : Seat) (v : ℕ) (w : Word) → st.place ≡ p → OfClosed how st v M (TakenMessage p x i) w (((p ≡ st.place) ⊎ IsDead (M (Dead p))) × (w ≡ M (Message p))) → w ≡ m (Message p)
        message_is ByPlaces x i st v w e a = a (sym e)
        message_is ByEntries x i st v w e a = a.1

        -- what a thief has taken is no claim
        small : p < 64
        small = omega (arith, carried.place, s.within.processors_most)

        shown_taken : (x i t : ℕ) → m (Slot x i) ≡ Taken t p → law.board.ghost (Slot x i) ≡ m (Slot x i)
        shown_taken x i t now = as_shown (law.board.covers.slots x i) (λ z. let far : 64 ≤ p = subst IsClaim now z in omega (arith, far, small))

        steal_slot : (v i y j : ℕ) → IsThief (Steal v i) y j → Slot v i ≡ Slot y j
        steal_slot v i y j th = elim th [ inl z ↦ cc | inr z ↦ absurd (cc) ]

        steal_place : (v i y j : ℕ) → IsThief (Steal v i) y j → v ≡ y
        steal_place v i y j th = elim th [ inl z ↦ cc | inr z ↦ absurd (cc) ]

        check_steal : (v i y j : ℕ) → IsThief (Check v i) y j → Steal v i ≡ Steal y j
        check_steal v i y j th = elim th [ inl z ↦ absurd (cc) | inr z ↦ cc ]

        pub steal : (x i : ℕ) → Stands s code words stand h f tk fit law o live p carried (Steal x i)
        steal x i e ta u nm v ws af saw = by ws af saw
          where
            aims : (j : ℕ) → j < i → IsTaken (m (Slot x j))
            aims = subst (Aims m) e (law.order.aimed p)

            nothing : (en : Entry) (X : Type 0) (y : Option Entry) → y ≡ None → (us : List Word) → Saw s (seat s code words stand h f tk fit law o live p carried (Steal x i) e) v M X (changed (cells.EntryWord x i) en y (Install (record { kind = Check x i; bottom = b p }))) us
                → Goal s code words stand h f tk fit law o live p carried (Steal x i) e ta u nm (rest_of s (seat s code words stand h f tk fit law o live p carried (Steal x i) e) v (changed (cells.EntryWord x i) en y (Install (record { kind = Check x i; bottom = b p }))) us)
            nothing en X None is [] saw = ends s code words stand h f tk fit law o live p carried (Steal x i) e ta u nm
            nothing en X None is (w ∷ us) saw = absurd saw
            nothing en X (Some z) is us saw = absurd (cc)

            checks : Goal s code words stand h f tk fit law o live p carried (Steal x i) e ta u nm (Now (Install (record { kind = Check x i; bottom = b p })))
            checks = installs s code words stand h f tk fit law o live p carried (Steal x i) e ta u nm (record { kind = Check x i; bottom = b p }) aims tt
                (installed law.board p (Check x i) (b p) (open_ s code words stand h f tk fit law o live p carried)
                (λ y j t' th is. let told = law.board.told p y j t' (inl (e ∙ check_steal x i y j th)) is in (told.0, told.1 (mine s code words stand h f tk fit law o live p carried)))
                (λ y j t' z th is. law.board.meant p y j t' z (inl (e ∙ check_steal x i y j th)) is)
                (plain_install law.board.board p (Steal x i) (Check x i) e tt tt (λ q z. z) (λ q z. z))) law.counts

            -- who lives has an open place
            far_from : (d q : ℕ) → Lives s m d → m (Carry d) ≡ Number q → x ≡ q → Closed s.takeover m x → ⊥
            far_from d q lives at same shut = shut_not s.takeover m d q (home_as s.takeover m d q law.rooted at) lives.alive (subst (Closed s.takeover m) same shut)

            by : (ws : List Word) → AreFit ws → Saw s (seat s code words stand h f tk fit law o live p carried (Steal x i) e) v M (Unit {0}) (Now (Load (StealMessage x i))) ws
                → Goal s code words stand h f tk fit law o live p carried (Steal x i) e ta u nm (rest_of s (seat s code words stand h f tk fit law o live p carried (Steal x i) e) v (Now (Load (StealMessage x i))) ws)
            by [] af saw = looks s code words stand h f tk fit law o live p carried (Steal x i) e ta u nm v (λ n. Unit {0}) (Now (Load (StealMessage x i))) (lift_row s code words stand h f tk fit law o live p carried (Steal x i) e ta u nm v) [] tt saw (StealMessage x i) refl (Message p) refl refl refl (λ z. z) (λ x. refl) (λ z. z)
            by (Job t r ∷ ws) af saw = by_row (taken_so s.takeover p (entries.Job t r)) refl (job_taken s.takeover t r) ws af.1 saw
              where
                lift_j : (y : Option Entry) → taken_so s.takeover p (entries.Job t r) ≡ y → y ≡ Some (entries.Taken (t + 1) p) → (n : Spot → Word) (ws : List Word) (row : Row) → AreFit ws
                    → rest_of s (seat s code words stand h f tk fit law o live p carried (Steal x i) e) v (changed (cells.EntryWord x i) (entries.Job t r) (Some (entries.Taken (t + 1) p)) (Install (record { kind = Check x i; bottom = b p }))) ws ≡ row
                    → Saw s (seat s code words stand h f tk fit law o live p carried (Steal x i) e) v n (Unit {0} × May o p (Message p) (Job t r) (n (Message p))) (changed (cells.EntryWord x i) (entries.Job t r) (Some (entries.Taken (t + 1) p)) (Install (record { kind = Check x i; bottom = b p }))) ws → HasSeen s n (seat s code words stand h f tk fit law o live p carried (Steal x i) e) row
                lift_j y ey es n ws row af2 er saw = lift_row s code words stand h f tk fit law o live p carried (Steal x i) e ta u nm v n (Job t r ∷ ws) row (af.0, af2)
                    (ap (λ (z : Option Entry). rest_of s (seat s code words stand h f tk fit law o live p carried (Steal x i) e) v (changed (cells.EntryWord x i) (entries.Job t r) z (Install (record { kind = Check x i; bottom = b p }))) ws) (ey ∙ es) ∙ er)
                    (subst (λ (z : Option Entry). Saw s (seat s code words stand h f tk fit law o live p carried (Steal x i) e) v n (Unit {0} × May o p (Message p) (Job t r) (n (Message p))) (changed (cells.EntryWord x i) (entries.Job t r) z (Install (record { kind = Check x i; bottom = b p }))) ws) (sym (ey ∙ es)) saw)

                by_row : (y : Option Entry) → taken_so s.takeover p (entries.Job t r) ≡ y → y ≡ Some (entries.Taken (t + 1) p) → (us : List Word) → AreFit us
                    → Saw s (seat s code words stand h f tk fit law o live p carried (Steal x i) e) v M (Unit {0} × May o p (Message p) (Job t r) (m (Message p))) (changed (cells.EntryWord x i) (entries.Job t r) y (Install (record { kind = Check x i; bottom = b p }))) us
                    → Goal s code words stand h f tk fit law o live p carried (Steal x i) e ta u nm (rest_of s (seat s code words stand h f tk fit law o live p carried (Steal x i) e) v (changed (cells.EntryWord x i) (entries.Job t r) y (Install (record { kind = Check x i; bottom = b p }))) us)
                by_row None ey es us af2 saw = absurd (cc)
                by_row (Some z) ey es us af2 saw = subst (λ (z : Option Entry). Saw s (seat s code words stand h f tk fit law o live p carried (Steal x i) e) v M (Unit {0} × May o p (Message p) (Job t r) (m (Message p))) (changed (cells.EntryWord x i) (entries.Job t r) z (Install (record { kind = Check x i; bottom = b p }))) us
                    → Goal s code words stand h f tk fit law o live p carried (Steal x i) e ta u nm (rest_of s (seat s code words stand h f tk fit law o live p carried (Steal x i) e) v (changed (cells.EntryWord x i) (entries.Job t r) z (Install (record { kind = Check x i; bottom = b p }))) us)) (sym es)
                    (λ saw. raising s code words stand h f tk fit law o live p carried (Steal x i) e ta u nm v (λ n. Unit {0} × May o p (Message p) (Job t r) (n (Message p))) x i (entries.Job t r) (entries.Taken (t + 1) p) (Install (record { kind = Check x i; bottom = b p }))
                    (lift_j (taken_so s.takeover p (entries.Job t r)) refl (job_taken s.takeover t r)) af.0 (λ lt. (omega (arith, carried.place, s.within.processors_most), (omega arith, (lt, (omega arith, tt))))) refl
                    (λ a same.
                    let was : law.board.ghost (Slot x i) ≡ m (Slot x i) = as_shown (law.board.covers.slots x i) (λ z. subst IsClaim same z) in
                    let q = steal_exchange law.board.board p x i t r (mine s code words stand h f tk fit law o live p carried) e (law.board.covers.others (Message p) (λ y j z. cc) ∙ sym (a.1 refl)) (was ∙ same) in (
                      wrote law.board x i (Taken (t + 1) p) (λ z. subst IsClaim same z) (λ z. omega (arith, z, carried.place, s.within.processors_most)) (inr (sym (ap is_local same))) q.1,
                      order_entry law.order x i (Taken (t + 1) p) (subst (λ (x : Word). IsTaken x → ⊥) (sym same) (λ z. z)) (λ z. aims),
                      counts_move h f tk r (Stolen p) law.counts (λ z. let y : Listed x i t ≡ Unborn = sym q.0 ∙ z in cc) (λ z. let y : Listed x i t ≡ Begun = sym q.0 ∙ z in cc) (λ z. cc) (λ z. cc),
                      λ d q ne lives at. inr record { free = λ x. x; rise = omega arith; other = λ t' same. ne (cc); heir = λ t' same. (let far : p ≡ q + 64 = cc in omega (arith, far, carried.place, s.within.processors_most)); own = λ same. (tt, tt) },
                    ))
                    (λ w lf us af3 saw. only_end s code words stand h f tk fit law o live p carried (Steal x i) e ta u nm v (record { kind = Check x i; bottom = b p })
                    (λ saw. checks) us saw)
                    us af2 saw) saw
            by (Empty t ∷ us) af saw = nothing (entries.Empty t) (Unit {0} × May o p (Message p) (Empty t) (m (Message p))) (taken_so s.takeover p (entries.Empty t)) (empty_taken s.takeover t) us saw
            by (Local t y ∷ ws) af saw = by_how s.takeover refl ws af.1 saw
              where
                NEXT : Then
                NEXT = Install (record { kind = Check x i; bottom = b p })

                lift_l : (how : Takeover) → s.takeover ≡ how → (n : Spot → Word) (ws : List Word) (row : Row) → AreFit ws
                    → rest_of s (seat s code words stand h f tk fit law o live p carried (Steal x i) e) v (changed (cells.EntryWord x i) (entries.Local t y) (taken_so how p (entries.Local t y)) (Install (record { kind = Check x i; bottom = b p }))) ws ≡ row
                    → Saw s (seat s code words stand h f tk fit law o live p carried (Steal x i) e) v n (Unit {0} × May o p (Message p) (Local t y) (n (Message p))) (changed (cells.EntryWord x i) (entries.Local t y) (taken_so how p (entries.Local t y)) (Install (record { kind = Check x i; bottom = b p }))) ws → HasSeen s n (seat s code words stand h f tk fit law o live p carried (Steal x i) e) row
                lift_l how ih n ws row af2 er saw = lift_row s code words stand h f tk fit law o live p carried (Steal x i) e ta u nm v n (Local t y ∷ ws) row (af.0, af2)
                    (ap (λ (z : Takeover). rest_of s (seat s code words stand h f tk fit law o live p carried (Steal x i) e) v (changed (cells.EntryWord x i) (entries.Local t y) (taken_so z p (entries.Local t y)) (Install (record { kind = Check x i; bottom = b p }))) ws) ih ∙ er)
                    (subst (λ (z : Takeover). Saw s (seat s code words stand h f tk fit law o live p carried (Steal x i) e) v n (Unit {0} × May o p (Message p) (Local t y) (n (Message p))) (changed (cells.EntryWord x i) (entries.Local t y) (taken_so z p (entries.Local t y)) (Install (record { kind = Check x i; bottom = b p }))) ws) (sym ih) saw)

                by_how : (how : Takeover) → s.takeover ≡ how → (us : List Word) → AreFit us
                    → Saw s (seat s code words stand h f tk fit law o live p carried (Steal x i) e) v M (Unit {0} × May o p (Message p) (Local t y) (m (Message p))) (changed (cells.EntryWord x i) (entries.Local t y) (taken_so how p (entries.Local t y)) (Install (record { kind = Check x i; bottom = b p }))) us
                    → Goal s code words stand h f tk fit law o live p carried (Steal x i) e ta u nm (rest_of s (seat s code words stand h f tk fit law o live p carried (Steal x i) e) v (changed (cells.EntryWord x i) (entries.Local t y) (taken_so how p (entries.Local t y)) (Install (record { kind = Check x i; bottom = b p }))) us)
                by_how ByPlaces ih [] af2 saw = ends s code words stand h f tk fit law o live p carried (Steal x i) e ta u nm
                by_how ByPlaces ih (w ∷ us) af2 saw = absurd saw
                by_how ByEntries ih us af2 saw =
                    raising s code words stand h f tk fit law o live p carried (Steal x i) e ta u nm v (λ n. Unit {0} × May o p (Message p) (Local t y) (n (Message p))) x i (entries.Local t y) (entries.Taken (t + 1) (p + 64)) (Install (record { kind = Check x i; bottom = b p }))
                    (lift_l ByEntries ih) af.0 (λ lt. (omega (arith, small), (omega arith, (lt, (omega arith, tt))))) (subst (λ (z : Takeover). Changes z (Local t y) (Taken (t + 1) (p + 64))) (sym ih) refl)
                    (λ a same. (
                      claimed law.board p x i t y (law.board.meant p x i t y (inl e) (sym (a.1 refl))) same (inl e) (sym (a.1 refl)),
                      order_entry law.order x i (Taken (t + 1) (p + 64)) (subst (λ (x : Word). IsTaken x → ⊥) (sym same) (λ z. z)) (λ z. aims),
                      law.counts,
                      λ d q ne lives at. inr record {
                        free = λ x. x;
                        rise = omega arith;
                        other = λ t' same. (let far : p + 64 ≡ q = cc in let home : q ≡ d = subst (λ (z : Takeover). IsHome z d q) ih (home_as s.takeover m d q law.rooted at) in omega (arith, far, home, lives.there, s.within.processors_most));
                        heir = λ t' same. (let far : p + 64 ≡ q + 64 = cc in ne (omega (arith, far)));
                        own = λ same. absurd (far_from d q lives at same (law.board.meant p x i t y (inl e) (sym (a.1 refl))));
                      },
                    ))
                    (λ w lf us af3 saw. only_end s code words stand h f tk fit law o live p carried (Steal x i) e ta u nm v (record { kind = Check x i; bottom = b p })
                    (λ saw. checks) us saw)
                    us af2 saw
            by (Taken t y ∷ us) af saw = nothing (entries.Taken t y) (Unit {0} × May o p (Message p) (Taken t y) (m (Message p))) (taken_so s.takeover p (entries.Taken t y)) (taken_taken s.takeover t y) us saw
            by (Number n ∷ []) af saw = ends s code words stand h f tk fit law o live p carried (Steal x i) e ta u nm
            by (Held n y ∷ []) af saw = ends s code words stand h f tk fit law o live p carried (Steal x i) e ta u nm
            by (Unread ∷ []) af saw = ends s code words stand h f tk fit law o live p carried (Steal x i) e ta u nm
            by (Restarts kind_ bottom_ ∷ []) af saw = ends s code words stand h f tk fit law o live p carried (Steal x i) e ta u nm
            by (Linked link_ ∷ []) af saw = ends s code words stand h f tk fit law o live p carried (Steal x i) e ta u nm
            by _ af saw = absurd saw

        pub check : (x i : ℕ) → Stands s code words stand h f tk fit law o live p carried (Check x i)
        check x i e ta u nm v ws af saw = by ws af saw
          where
            by : (ws : List Word) → AreFit ws → Saw s (seat s code words stand h f tk fit law o live p carried (Check x i) e) v M (Unit {0}) (Now (Load (TakenMessage p x i))) ws
                → Goal s code words stand h f tk fit law o live p carried (Check x i) e ta u nm (rest_of s (seat s code words stand h f tk fit law o live p carried (Check x i) e) v (Now (Load (TakenMessage p x i))) ws)
            by [] af saw = looks s code words stand h f tk fit law o live p carried (Check x i) e ta u nm v (λ n. Unit {0}) (Now (Load (TakenMessage p x i))) (lift_row s code words stand h f tk fit law o live p carried (Check x i) e ta u nm v) [] tt saw (TakenMessage p x i) refl (Message p) refl refl refl (λ z. z) (λ x. refl) (λ z. own_message s.takeover x i (seat s code words stand h f tk fit law o live p carried (Check x i) e) v refl)
            by (Job t r ∷ ws) af saw = second ws af.1 saw
              where
                won : Unit {0} × Knows s.takeover (seat s code words stand h f tk fit law o live p carried (Check x i) e) v M (TakenMessage p x i) (Job t r) → m (Slot x i) ≡ Taken (t + 1) p → (frame : ℕ) → Goal s code words stand h f tk fit law o live p carried (Check x i) e ta u nm (Now (Begin r frame (b p)))
                won a now frame there orderly =
                    let says : Job t r ≡ m (Message p) = message_is s.takeover x i (seat s code words stand h f tk fit law o live p carried (Check x i) e) v (Job t r) refl a.1 in
                    let q = begins law.board.board p x i t r frame 0 (mine s code words stand h f tk fit law o live p carried) e (law.board.covers.others (Message p) (λ y j z. cc) ∙ sym says) (shown_taken x i (t + 1) now ∙ now) in
                    installing s code words stand h f tk fit law o live p carried (record { kind = Run frame 0; bottom = b p }) there tt tt (put h r Begun) f (r ∷ tk) (own_goes s code words stand h f tk fit law o live p carried (Run frame 0) (b p) tt q.1)
                    (counts_take h f tk r law.counts (λ z. let y : Stolen p ≡ Unborn = sym q.0 ∙ z in cc) (λ z. let y : Stolen p ≡ Begun = sym q.0 ∙ z in cc))

                lost : (w : Word) → w ≢ Taken (t + 1) p → (Unit {0} × Knows s.takeover (seat s code words stand h f tk fit law o live p carried (Check x i) e) v M (TakenMessage p x i) (Job t r)) × May o p (Slot x i) w (m (Slot x i)) → Goal s code words stand h f tk fit law o live p carried (Check x i) e ta u nm (Now (Install (record { kind = Seek; bottom = b p })))
                lost w ne a = installs s code words stand h f tk fit law o live p carried (Check x i) e ta u nm (record { kind = Seek; bottom = b p }) tt tt
                    (own_goes s code words stand h f tk fit law o live p carried Seek (b p) tt (plain_install law.board.board p (Check x i) Seek e tt tt
                    (λ q z.
                    let says : Job t r ≡ Job z.0 q = message_is s.takeover x i (seat s code words stand h f tk fit law o live p carried (Check x i) e) v (Job t r) refl a.0.1 ∙ sym (law.board.covers.others (Message p) (λ y j u. cc)) ∙ z.1 in
                    let same : z.0 ≡ t = cc in
                    let now : m (Slot x i) ≡ Taken (z.0 + 1) p = sym (as_was (law.board.covers.slots x i) (λ u. subst IsLocal z.2 u)) ∙ z.2 in
                    absurd (not_by o p x i w (m (Slot x i)) (t + 1) ne a.1 (subst (λ (y : ℕ). m (Slot x i) ≡ Taken (y + 1) p) same now)))
                    (λ q z. absurd z)))
                    law.counts

                second : (ws : List Word) → AreFit ws → Saw s (seat s code words stand h f tk fit law o live p carried (Check x i) e) v M (Unit {0} × Knows s.takeover (seat s code words stand h f tk fit law o live p carried (Check x i) e) v M (TakenMessage p x i) (Job t r)) (Now (Load (TakenEntry p x i (entries.Job t r)))) ws
                    → Goal s code words stand h f tk fit law o live p carried (Check x i) e ta u nm (rest_of s (seat s code words stand h f tk fit law o live p carried (Check x i) e) v (Now (Load (TakenEntry p x i (entries.Job t r)))) ws)
                second [] af2 saw = looks s code words stand h f tk fit law o live p carried (Check x i) e ta u nm v (λ n. Unit {0}) (Now (Load (TakenMessage p x i))) (lift_row s code words stand h f tk fit law o live p carried (Check x i) e ta u nm v) (Job t r ∷ []) (af.0, tt) saw (TakenEntry p x i (entries.Job t r)) refl (Slot x i) refl refl refl (λ z. z) (λ x. refl) (λ z. z)
                second (Taken n q ∷ us) af2 saw = test ((n == t + 1) && (q == p)) refl us af2.1 saw
                  where
                    test : (y : Bool) → ((n == t + 1) && (q == p)) ≡ y → (us : List Word) → AreFit us
                        → Saw s (seat s code words stand h f tk fit law o live p carried (Check x i) e) v M ((Unit {0} × Knows s.takeover (seat s code words stand h f tk fit law o live p carried (Check x i) e) v M (TakenMessage p x i) (Job t r)) × May o p (Slot x i) (Taken n q) (m (Slot x i))) (if y then Now (Load (Offset r (b p))) else Now (Install (record { kind = Seek; bottom = b p }))) us
                        → Goal s code words stand h f tk fit law o live p carried (Check x i) e ta u nm (rest_of s (seat s code words stand h f tk fit law o live p carried (Check x i) e) v (if y then Now (Load (Offset r (b p))) else Now (Install (record { kind = Seek; bottom = b p }))) us)
                    test true is us af3 saw =
                        let two = both_true s code (n == t + 1) (q == p) is in
                        let same : Taken n q ≡ Taken (t + 1) p = (λ j. Taken (eqb-true n (t + 1) two.0 j) (eqb-true q p two.1 j)) in
                        beginning s code words stand h f tk fit law o live p carried (Check x i) e ta u nm v (λ l. (Unit {0} × Knows s.takeover (seat s code words stand h f tk fit law o live p carried (Check x i) e) v l (TakenMessage p x i) (Job t r)) × May o p (Slot x i) (Taken n q) (l (Slot x i))) r (b p)
                        (λ l ws row af4 er saw. lift_row s code words stand h f tk fit law o live p carried (Check x i) e ta u nm v l (Job t r ∷ Taken n q ∷ ws) row (af.0, (af2.0, af4))
                        (ap (λ (y : Bool). rest_of s (seat s code words stand h f tk fit law o live p carried (Check x i) e) v (if y then Now (Load (Offset r (b p))) else Now (Install (record { kind = Seek; bottom = b p }))) ws) is ∙ er)
                        (subst (λ (y : Bool). Saw s (seat s code words stand h f tk fit law o live p carried (Check x i) e) v l ((Unit {0} × Knows s.takeover (seat s code words stand h f tk fit law o live p carried (Check x i) e) v l (TakenMessage p x i) (Job t r)) × May o p (Slot x i) (Taken n q) (l (Slot x i))) (if y then Now (Load (Offset r (b p))) else Now (Install (record { kind = Seek; bottom = b p }))) ws) (sym is) saw))
                        (λ a frame. won a.0 (sym (taken_stays o p x i (Taken n q) (m (Slot x i)) tt a.1) ∙ same) frame) us af3 saw
                    test false is us af3 saw = only_end s code words stand h f tk fit law o live p carried (Check x i) e ta u nm v (record { kind = Seek; bottom = b p })
                        (λ a. lost (Taken n q) (λ z. true≢false (sym (both_are s code (n == t + 1) (q == p) (eq-eqb n (t + 1) (cc)) (eq-eqb q p (cc))) ∙ is)) a) us saw
                second (Empty n ∷ us) af2 saw = only_end s code words stand h f tk fit law o live p carried (Check x i) e ta u nm v (record { kind = Seek; bottom = b p }) (lost (Empty n) (λ z. cc)) us saw
                second (Local n y ∷ us) af2 saw = only_end s code words stand h f tk fit law o live p carried (Check x i) e ta u nm v (record { kind = Seek; bottom = b p }) (lost (Local n y) (λ z. cc)) us saw
                second (Job n y ∷ us) af2 saw = only_end s code words stand h f tk fit law o live p carried (Check x i) e ta u nm v (record { kind = Seek; bottom = b p }) (lost (Job n y) (λ z. cc)) us saw
                second (Number n ∷ []) af2 saw = ends s code words stand h f tk fit law o live p carried (Check x i) e ta u nm
                second (Held n y ∷ []) af2 saw = ends s code words stand h f tk fit law o live p carried (Check x i) e ta u nm
                second (Unread ∷ []) af2 saw = ends s code words stand h f tk fit law o live p carried (Check x i) e ta u nm
                second (Restarts kind_ bottom_ ∷ []) af2 saw = ends s code words stand h f tk fit law o live p carried (Check x i) e ta u nm
                second (Linked link_ ∷ []) af2 saw = ends s code words stand h f tk fit law o live p carried (Check x i) e ta u nm
                second _ af2 saw = absurd saw
            by (Empty t ∷ []) af saw = ends s code words stand h f tk fit law o live p carried (Check x i) e ta u nm
            by (Local t y ∷ ws) af saw = by_how s.takeover refl ws af.1 saw
              where
                lift_m : (how : Takeover) → s.takeover ≡ how → (n : Spot → Word) (ws : List Word) (row : Row) → AreFit ws
                    → rest_of s (seat s code words stand h f tk fit law o live p carried (Check x i) e) v (if can_be_taken how (entries.Local t y) then Now (Load (TakenEntry p x i (entries.Local t y))) else Now Broken) ws ≡ row
                    → Saw s (seat s code words stand h f tk fit law o live p carried (Check x i) e) v n (Unit {0} × Knows s.takeover (seat s code words stand h f tk fit law o live p carried (Check x i) e) v n (TakenMessage p x i) (Local t y)) (if can_be_taken how (entries.Local t y) then Now (Load (TakenEntry p x i (entries.Local t y))) else Now Broken) ws → HasSeen s n (seat s code words stand h f tk fit law o live p carried (Check x i) e) row
                lift_m how ih n ws row af2 er saw = lift_row s code words stand h f tk fit law o live p carried (Check x i) e ta u nm v n (Local t y ∷ ws) row (af.0, af2)
                    (ap (λ (z : Takeover). rest_of s (seat s code words stand h f tk fit law o live p carried (Check x i) e) v (if can_be_taken z (entries.Local t y) then Now (Load (TakenEntry p x i (entries.Local t y))) else Now Broken) ws) ih ∙ er)
                    (subst (λ (z : Takeover). Saw s (seat s code words stand h f tk fit law o live p carried (Check x i) e) v n (Unit {0} × Knows s.takeover (seat s code words stand h f tk fit law o live p carried (Check x i) e) v n (TakenMessage p x i) (Local t y)) (if can_be_taken z (entries.Local t y) then Now (Load (TakenEntry p x i (entries.Local t y))) else Now Broken) ws) (sym ih) saw)

                by_how : (how : Takeover) → s.takeover ≡ how → (us : List Word) → AreFit us
                    → Saw s (seat s code words stand h f tk fit law o live p carried (Check x i) e) v M (Unit {0} × Knows s.takeover (seat s code words stand h f tk fit law o live p carried (Check x i) e) v M (TakenMessage p x i) (Local t y)) (if can_be_taken how (entries.Local t y) then Now (Load (TakenEntry p x i (entries.Local t y))) else Now Broken) us
                    → Goal s code words stand h f tk fit law o live p carried (Check x i) e ta u nm (rest_of s (seat s code words stand h f tk fit law o live p carried (Check x i) e) v (if can_be_taken how (entries.Local t y) then Now (Load (TakenEntry p x i (entries.Local t y))) else Now Broken) us)
                by_how ByPlaces ih [] af2 saw = ends s code words stand h f tk fit law o live p carried (Check x i) e ta u nm
                by_how ByPlaces ih (w ∷ us) af2 saw = absurd saw
                by_how ByEntries ih us af2 saw = inherits s code words stand h f tk fit law o live p carried x i e ta u nm v t y ih (lift_m ByEntries ih) us af2 saw
            by (Taken t y ∷ []) af saw = ends s code words stand h f tk fit law o live p carried (Check x i) e ta u nm
            by (Number n ∷ []) af saw = ends s code words stand h f tk fit law o live p carried (Check x i) e ta u nm
            by (Held n y ∷ []) af saw = ends s code words stand h f tk fit law o live p carried (Check x i) e ta u nm
            by (Unread ∷ []) af saw = ends s code words stand h f tk fit law o live p carried (Check x i) e ta u nm
            by (Restarts kind_ bottom_ ∷ []) af saw = ends s code words stand h f tk fit law o live p carried (Check x i) e ta u nm
            by (Linked link_ ∷ []) af saw = ends s code words stand h f tk fit law o live p carried (Check x i) e ta u nm
            by _ af saw = absurd saw

        -- a place that seeks notes an entry or a bid in its message
        abbrev pub noted : Content → Spot → Word
        noted x = write (write m (Message p) (word_as (content_of AsEntry (word_of x)))) (Bid p) (word_as (content_of AsHolder (word_of x)))

        abbrev pub noted_all : Content → Spot → Word
        noted_all x = with_restarts (noted x) k b

        noted_else : (x : Content) (c : Spot) → c ≢ Message p → c ≢ Bid p → noted x c ≡ m c
        noted_else x c ne nb = write_else (write m (Message p) (word_as (content_of AsEntry (word_of x)))) (Bid p) (word_as (content_of AsHolder (word_of x))) c nb
            ∙ write_else m (Message p) (word_as (content_of AsEntry (word_of x))) c ne

        noted_entry : (a : Entry) → IsEntry a → noted (AnEntry a) (Message p) ≡ word_as (AnEntry a)
        noted_entry a fits = write_else (write m (Message p) (word_as (content_of AsEntry (word_of (AnEntry a))))) (Bid p) (word_as (content_of AsHolder (word_of (AnEntry a)))) (Message p) (λ z. cc)
            ∙ write_here m (Message p) (word_as (content_of AsEntry (word_of (AnEntry a)))) ∙ ap word_as (again (AnEntry a) tt fits)

        noted_bid : (a : Hold) → IsHolder a → noted (AHolder a) (Bid p) ≡ word_as (AHolder a)
        noted_bid a fits = write_here (write m (Message p) (word_as (content_of AsEntry (word_of (AHolder a))))) (Bid p) (word_as (content_of AsHolder (word_of (AHolder a))))
            ∙ ap word_as (again (AHolder a) tt fits)

        still_noted : (how : Takeover) (x : Content) → (Closed how m p → ⊥) → Stills how m (noted x) k k b b
        still_noted ByPlaces x shut = tt
        still_noted ByEntries x shut = λ q d. (
          subst IsDead (sym (noted_else x (Dead q) (λ z. cc) (λ z. cc))) d,
          refl,
          refl,
          noted_else x (Message q) (λ z. let same : q ≡ p = cc in shut (subst (λ (y : ℕ). IsDead (m (Dead y))) same d)) (λ z. cc),
        )

        noting : (e : k p ≡ Seek) (ta : restart_is_there s (restart s code words stand h f tk fit law o live p carried Seek e) ≡ true) (u : ℕ) (nm : u < s.processors) (x : Content) (next : Then)
            → HasSeen s (noted_all x) (seat s code words stand h f tk fit law o live p carried Seek e) (Now next) → Goal s code words stand h f tk fit law o live p carried Seek e ta u nm (Store (cells.MessageWord p) x next)
        noting e ta u nm x next own there orderly =
            let wa : Word = word_as (content_of AsEntry (word_of x)) in
            let wb : Word = word_as (content_of AsHolder (word_of x)) in
            let r = restarts_kept s words (cells.MessageWord p) (word_of x) carried.place (λ q z. cc) in
            let now = message_written s words p (word_of x) fit carried.place in
            let both = noted_both law.board (Message p) (Bid p) wa wb (λ y i z. cc) (λ y i z. cc)
            (λ q y i z th. let is : q ≡ p = cc in free_thief s code (k q) y i (subst (IsFree s code) (sym (ap k is ∙ e)) tt) th) (λ q y i z th. cc)
            (message_board law.board.board p wa e) (other_written (message_board law.board.board p wa e) (Bid p) wb (λ y i z. cc) (λ q z. cc)) in
            let shutter = closing both.0 (Closed s.takeover (noted x))
            (λ y z. closed_kept s.takeover (write m (Message p) wa) (Bid p) wb (λ q same. cc) y (closed_kept s.takeover m (Message p) wa (λ q same. cc) y z)) in (
              becoming s code (store s words (cells.MessageWord p) (word_of x)) (slice_set stand o (stands_then s code (seat s code words stand h f tk fit law o live p carried Seek e) next)) h f tk (noted x) k b law.board.gone
                  now (λ i q. (r i q).kind) (λ i q. (r i q).bottom) (length_set s code words (address s (cells.MessageWord p)) (word_of x) fit) (
                    record {
                      board = shutter.0;
                      bids = law.bids;
                      rooted = rooted_kept s.takeover (write m (Message p) wa) (Bid p) wb (λ q z. cc) (rooted_kept s.takeover m (Message p) wa (λ q z. cc) law.rooted);
                      order = order_other (order_other law.order (Message p) wa (λ y i z. cc) (λ y z. cc)) (Bid p) wb (λ y i z. cc) (λ y z. cc);
                      holding = holding_other (holding_other law.holding (Message p) wa (λ d z. cc) (λ d z. cc) (λ d z. cc) (λ q z. cc)) (Bid p) wb (λ d z. cc) (λ d z. cc) (λ d z. cc)
                          (λ q same. let is : q ≡ p = cc in subst IsIdle (sym (ap k is ∙ e)) tt);
                      counts = law.counts;
                      sees = sees_all s code words stand h f tk fit law o live (noted x) k b (stands_then s code (seat s code words stand h f tk fit law o live p carried Seek e) next) (still_noted s.takeover x (open_ s code words stand h f tk fit law o live p carried)) (λ d q ne lives at. (
                        λ c. may_on d q c (m c) (write m (Message p) wa c) (noted x c) (grows_each d q m (Message p) wa (λ same. absurd (apart s code words stand h f tk fit law o live p carried d q ne lives at (sym same))) c)
                            (grows_each d q (write m (Message p) wa) (Bid p) wb (λ same. absurd (apart s code words stand h f tk fit law o live p carried d q ne lives at (sym same))) c),
                        refl,
                        refl,
                      )) (settled s code (noted x) k b o (seat s code words stand h f tk fit law o live p carried Seek e) record {
                        own = refl;
                        carried = record {
                          lives = record { alive = λ z. carried.lives.alive (subst IsDead (noted_else x (Dead o) (λ z. cc) (λ z. cc)) z); there = carried.lives.there };
                          carry = noted_else x (Carry o) (λ z. cc) (λ z. cc) ∙ carried.carry;
                          place = carried.place;
                          home = carried.home;
                        };
                        at = record { kind = e; bottom = refl };
                        there = ta;
                      } (Now next) own);
                    },
                    λ y z. shutter.1 y (both.1 y z),
                  ),
              λ y i. inl (ap (λ (z : Spot → Word). z (Slot y i)) now ∙ noted_else x (Slot y i) (λ z. cc) (λ z. cc)),
            )

        -- from the load of the top on, however it was come to
        seek_tail : (e : k p ≡ Seek) (ta : restart_is_there s (restart s code words stand h f tk fit law o live p carried Seek e) ≡ true) (u : ℕ) (nm : u < s.processors) (v : ℕ) (before : (Spot → Word) → Type 0)
            → ((n : Spot → Word) (ws : List Word) (row : Row) → AreFit ws → rest_of s (seat s code words stand h f tk fit law o live p carried Seek e) v (Now (Load (SeekTop v))) ws ≡ row → Saw s (seat s code words stand h f tk fit law o live p carried Seek e) v n (before n) (Now (Load (SeekTop v))) ws → HasSeen s n (seat s code words stand h f tk fit law o live p carried Seek e) row)
            → ((x : Content) → before M → before (noted_all x)) → (ws : List Word) → AreFit ws → Saw s (seat s code words stand h f tk fit law o live p carried Seek e) v M (before M) (Now (Load (SeekTop v))) ws
            → Goal s code words stand h f tk fit law o live p carried Seek e ta u nm (rest_of s (seat s code words stand h f tk fit law o live p carried Seek e) v (Now (Load (SeekTop v))) ws)
        seek_tail e ta u nm v before lift keep [] af saw = looks s code words stand h f tk fit law o live p carried Seek e ta u nm v before (Now (Load (SeekTop v))) lift [] tt saw (SeekTop v) refl (Top v) refl refl refl (λ z. z) (λ x. refl) (λ z. z)
        seek_tail e ta u nm v before lift keep (Number i ∷ us) af saw = test (nat_lt i s.slots) refl us af.1 saw
          where
            test : (y : Bool) → nat_lt i s.slots ≡ y → (us : List Word) → AreFit us → Saw s (seat s code words stand h f tk fit law o live p carried Seek e) v M (before M × May o p (Top v) (Number i) (m (Top v))) (if y then Now (Load (SeekEntry v i)) else Now Broken) us
                → Goal s code words stand h f tk fit law o live p carried Seek e ta u nm (rest_of s (seat s code words stand h f tk fit law o live p carried Seek e) v (if y then Now (Load (SeekEntry v i)) else Now Broken) us)
            test false is [] af2 saw = ends s code words stand h f tk fit law o live p carried Seek e ta u nm
            test false is (x ∷ us) af2 saw = absurd saw
            test true is us af2 saw = entry us af2 saw
              where
                lifts : (n : Spot → Word) (ws : List Word) (row : Row) → AreFit ws → rest_of s (seat s code words stand h f tk fit law o live p carried Seek e) v (Now (Load (SeekEntry v i))) ws ≡ row
                    → Saw s (seat s code words stand h f tk fit law o live p carried Seek e) v n (before n × May o p (Top v) (Number i) (n (Top v))) (Now (Load (SeekEntry v i))) ws → HasSeen s n (seat s code words stand h f tk fit law o live p carried Seek e) row
                lifts n ws row af3 er saw = lift n (Number i ∷ ws) row (tt, af3) (ap (λ (y : Bool). rest_of s (seat s code words stand h f tk fit law o live p carried Seek e) v (if y then Now (Load (SeekEntry v i)) else Now Broken) ws) is ∙ er)
                    (subst (λ (y : Bool). Saw s (seat s code words stand h f tk fit law o live p carried Seek e) v n (before n × May o p (Top v) (Number i) (n (Top v))) (if y then Now (Load (SeekEntry v i)) else Now Broken) ws) (sym is) saw)

                aimed_at : (w : Word) → (IsTaken w → ⊥) → ((t y : ℕ) → m (Message p) ≡ Local t y → Closed s.takeover m v) → May o p (Slot v i) w (m (Slot v i)) → i ≤ tag (m (Top v)) → Goal s code words stand h f tk fit law o live p carried Seek e ta u nm (Now (Install (record { kind = Steal v i; bottom = b p })))
                aimed_at w free means seen low = installs s code words stand h f tk fit law o live p carried Seek e ta u nm (record { kind = Steal v i; bottom = b p }) (λ j lt. law.order.passed v j (omega (arith, lt, low))) tt
                    (installed law.board p (Steal v i) (b p) (open_ s code words stand h f tk fit law o live p carried)
                    (λ y j t th is. absurd (not_heir o p v i w (m (Slot v i)) t (λ z. free (subst IsTaken (sym z) tt)) seen (ap m (steal_slot v i y j th) ∙ is)))
                    (λ y j t z th is. subst (Closed s.takeover m) (steal_place v i y j th) (means t z is))
                    (plain_install law.board.board p Seek (Steal v i) e tt tt (λ q z. absurd z)
                    (λ q z. absurd (not_by o p v i w (m (Slot v i)) (z.0 + 1) (λ y. free (subst IsTaken (sym y) tt)) seen (sym (as_was (law.board.covers.slots v i) (λ y. subst IsLocal z.2 y)) ∙ z.2))))) law.counts

                entry : (us : List Word) → AreFit us → Saw s (seat s code words stand h f tk fit law o live p carried Seek e) v M (before M × May o p (Top v) (Number i) (m (Top v))) (Now (Load (SeekEntry v i))) us
                    → Goal s code words stand h f tk fit law o live p carried Seek e ta u nm (rest_of s (seat s code words stand h f tk fit law o live p carried Seek e) v (Now (Load (SeekEntry v i))) us)
                entry [] af3 saw = looks s code words stand h f tk fit law o live p carried Seek e ta u nm v (λ n. before n × May o p (Top v) (Number i) (n (Top v))) (Now (Load (SeekEntry v i))) lifts [] tt saw (SeekEntry v i) refl (Slot v i) refl refl refl (λ z. z) (λ x. refl) (λ z. z)
                entry (Job t r ∷ []) af3 saw = noting e ta u nm (AnEntry (entries.Job t r)) (Install (record { kind = Steal v i; bottom = b p }))
                    (lifts (noted_all (AnEntry (entries.Job t r))) (Job t r ∷ Number 0 ∷ []) (Now (Install (record { kind = Steal v i; bottom = b p }))) (af3.0, (tt, tt)) refl (
                      (
                        (keep (AnEntry (entries.Job t r)) saw.0.0, subst (May o p (Top v) (Number i)) (sym (noted_else (AnEntry (entries.Job t r)) (Top v) (λ z. cc) (λ z. cc))) saw.0.1),
                        subst (May o p (Slot v i) (Job t r)) (sym (noted_else (AnEntry (entries.Job t r)) (Slot v i) (λ z. cc) (λ z. cc))) saw.1,
                      ),
                      λ same. sym (noted_entry (entries.Job t r) af3.0),
                    ))
                entry (Job t r ∷ w ∷ []) af3 saw = aimed_at (Job t r) (λ z. z) (λ t' y is. absurd (let says : Job t r ≡ Local t' y = saw.1 refl ∙ is in cc)) saw.0.1 saw.0.0.1
                entry (Taken t q ∷ us) af3 saw = by_how s.takeover refl us saw
                  where
                    lift_t : (how : Takeover) → s.takeover ≡ how → (l : Spot → Word) (ws : List Word) (row : Row) → AreFit ws → rest_of s (seat s code words stand h f tk fit law o live p carried Seek e) v (passes_by s v i how) ws ≡ row
                        → Saw s (seat s code words stand h f tk fit law o live p carried Seek e) v l ((before l × May o p (Top v) (Number i) (l (Top v))) × May o p (Slot v i) (Taken t q) (l (Slot v i))) (passes_by s v i how) ws → HasSeen s l (seat s code words stand h f tk fit law o live p carried Seek e) row
                    lift_t how ih l ws row af4 er saw = lifts l (Taken t q ∷ ws) row (af3.0, af4) (ap (λ (z : Takeover). rest_of s (seat s code words stand h f tk fit law o live p carried Seek e) v (passes_by s v i z) ws) ih ∙ er)
                        (subst (λ (z : Takeover). Saw s (seat s code words stand h f tk fit law o live p carried Seek e) v l ((before l × May o p (Top v) (Number i) (l (Top v))) × May o p (Slot v i) (Taken t q) (l (Slot v i))) (passes_by s v i z) ws) (sym ih) saw)

                    pass : ((l : Spot → Word) (ws : List Word) (row : Row) → AreFit ws → rest_of s (seat s code words stand h f tk fit law o live p carried Seek e) v (passes v i) ws ≡ row
                        → Saw s (seat s code words stand h f tk fit law o live p carried Seek e) v l ((before l × May o p (Top v) (Number i) (l (Top v))) × May o p (Slot v i) (Taken t q) (l (Slot v i))) (passes v i) ws → HasSeen s l (seat s code words stand h f tk fit law o live p carried Seek e) row)
                        → (us : List Word) → Saw s (seat s code words stand h f tk fit law o live p carried Seek e) v M ((before M × May o p (Top v) (Number i) (m (Top v))) × May o p (Slot v i) (Taken t q) (m (Slot v i))) (passes v i) us
                        → Goal s code words stand h f tk fit law o live p carried Seek e ta u nm (rest_of s (seat s code words stand h f tk fit law o live p carried Seek e) v (passes v i) us)
                    pass lift_p [] saw = making s code words stand h f tk fit law o live p carried Seek e ta u nm v (λ n. (before n × May o p (Top v) (Number i) (n (Top v))) × May o p (Slot v i) (Taken t q) (n (Slot v i))) (passes v i)
                        lift_p [] tt saw (cells.Top v) (ANumber i) (ANumber (i + 1)) Again refl refl refl refl (λ z. z) (lone_top s v) tt tt tt tt tt (λ y z. cc) (λ y z. cc)
                        (λ same. (
                          noted_estate law.board (Top v) (Number (i + 1)) (λ y i z. cc) (λ q y i z th. cc) (other_written law.board.board (Top v) (Number (i + 1)) (λ y i z. cc) (λ q z. cc)),
                          order_top law.order v i same (subst IsTaken (taken_stays o p v i (Taken t q) (m (Slot v i)) tt saw.1) tt),
                          holding_other law.holding (Top v) (Number (i + 1)) (λ d z. cc) (λ d z. cc) (λ d z. cc) (λ q z. cc),
                          law.counts,
                          λ d q ne other lives at. omega arith,
                        ))
                    pass lift_p (w ∷ []) saw = agains s code words stand h f tk fit law o live p carried Seek e ta u nm
                    pass lift_p (w ∷ x ∷ us) saw = absurd saw

                    by_how : (how : Takeover) → s.takeover ≡ how → (us : List Word) → Saw s (seat s code words stand h f tk fit law o live p carried Seek e) v M ((before M × May o p (Top v) (Number i) (m (Top v))) × May o p (Slot v i) (Taken t q) (m (Slot v i))) (passes_by s v i how) us
                        → Goal s code words stand h f tk fit law o live p carried Seek e ta u nm (rest_of s (seat s code words stand h f tk fit law o live p carried Seek e) v (passes_by s v i how) us)
                    by_how ByPlaces ih us saw = pass (lift_t ByPlaces ih) us saw
                    by_how ByEntries ih us saw = below (nat_lt (i + 1) s.slots) refl us saw
                      where
                        below : (y : Bool) → nat_lt (i + 1) s.slots ≡ y → (us : List Word) → Saw s (seat s code words stand h f tk fit law o live p carried Seek e) v M ((before M × May o p (Top v) (Number i) (m (Top v))) × May o p (Slot v i) (Taken t q) (m (Slot v i))) (if y then passes v i else Now Again) us
                            → Goal s code words stand h f tk fit law o live p carried Seek e ta u nm (rest_of s (seat s code words stand h f tk fit law o live p carried Seek e) v (if y then passes v i else Now Again) us)
                        below true same us saw = pass (λ l ws row af4 er saw. lift_t ByEntries ih l ws row af4 (ap (λ (z : Bool). rest_of s (seat s code words stand h f tk fit law o live p carried Seek e) v (if z then passes v i else Now Again) ws) same ∙ er)
                            (subst (λ (z : Bool). Saw s (seat s code words stand h f tk fit law o live p carried Seek e) v l ((before l × May o p (Top v) (Number i) (l (Top v))) × May o p (Slot v i) (Taken t q) (l (Slot v i))) (if z then passes v i else Now Again) ws) (sym same) saw)) us saw
                        below false same [] saw = agains s code words stand h f tk fit law o live p carried Seek e ta u nm
                        below false same (w ∷ us) saw = absurd saw
                entry (Empty t ∷ []) af3 saw = agains s code words stand h f tk fit law o live p carried Seek e ta u nm
                entry (Local t y ∷ us) af3 saw = by_how s.takeover refl us af3.1 saw
                  where
                    lift_l : (how : Takeover) → s.takeover ≡ how → (l : Spot → Word) (ws : List Word) (row : Row) → AreFit ws → rest_of s (seat s code words stand h f tk fit law o live p carried Seek e) v (local_by v i (entries.Local t y) how) ws ≡ row
                        → Saw s (seat s code words stand h f tk fit law o live p carried Seek e) v l ((before l × May o p (Top v) (Number i) (l (Top v))) × May o p (Slot v i) (Local t y) (l (Slot v i))) (local_by v i (entries.Local t y) how) ws → HasSeen s l (seat s code words stand h f tk fit law o live p carried Seek e) row
                    lift_l how ih l ws row af4 er saw = lifts l (Local t y ∷ ws) row (af3.0, af4) (ap (λ (z : Takeover). rest_of s (seat s code words stand h f tk fit law o live p carried Seek e) v (local_by v i (entries.Local t y) z) ws) ih ∙ er)
                        (subst (λ (z : Takeover). Saw s (seat s code words stand h f tk fit law o live p carried Seek e) v l ((before l × May o p (Top v) (Number i) (l (Top v))) × May o p (Slot v i) (Local t y) (l (Slot v i))) (local_by v i (entries.Local t y) z) ws) (sym ih) saw)

                    by_how : (how : Takeover) → s.takeover ≡ how → (us : List Word) → AreFit us → Saw s (seat s code words stand h f tk fit law o live p carried Seek e) v M ((before M × May o p (Top v) (Number i) (m (Top v))) × May o p (Slot v i) (Local t y) (m (Slot v i))) (local_by v i (entries.Local t y) how) us
                        → Goal s code words stand h f tk fit law o live p carried Seek e ta u nm (rest_of s (seat s code words stand h f tk fit law o live p carried Seek e) v (local_by v i (entries.Local t y) how) us)
                    by_how ByPlaces ih [] af4 saw = agains s code words stand h f tk fit law o live p carried Seek e ta u nm
                    by_how ByPlaces ih (w ∷ us) af4 saw = absurd saw
                    by_how ByEntries ih [] af4 saw = looks s code words stand h f tk fit law o live p carried Seek e ta u nm v (λ l. (before l × May o p (Top v) (Number i) (l (Top v))) × May o p (Slot v i) (Local t y) (l (Slot v i))) (Now (Load (SeekClosed v i (entries.Local t y)))) (lift_l ByEntries ih) [] tt saw (SeekClosed v i (entries.Local t y)) refl (Dead v) refl refl refl (λ z. z) (λ x. refl) (λ z. z)
                    by_how ByEntries ih (Number n ∷ us) af4 saw = shut (n == 1) refl us saw
                      where
                        shut : (z : Bool) → (n == 1) ≡ z → (us : List Word) → Saw s (seat s code words stand h f tk fit law o live p carried Seek e) v M (((before M × May o p (Top v) (Number i) (m (Top v))) × May o p (Slot v i) (Local t y) (m (Slot v i))) × May o p (Dead v) (Number n) (m (Dead v))) (if z then notes (seat s code words stand h f tk fit law o live p carried Seek e) v i (entries.Local t y) else Now Again) us
                            → Goal s code words stand h f tk fit law o live p carried Seek e ta u nm (rest_of s (seat s code words stand h f tk fit law o live p carried Seek e) v (if z then notes (seat s code words stand h f tk fit law o live p carried Seek e) v i (entries.Local t y) else Now Again) us)
                        shut false same [] saw = agains s code words stand h f tk fit law o live p carried Seek e ta u nm
                        shut false same (w ∷ us) saw = absurd saw
                        shut true same [] saw = noting e ta u nm (AnEntry (entries.Local t y)) (Install (record { kind = Steal v i; bottom = b p }))
                            (lift_l ByEntries ih (noted_all (AnEntry (entries.Local t y))) (Number n ∷ Number 0 ∷ []) (Now (Install (record { kind = Steal v i; bottom = b p }))) (tt, (tt, tt))
                            (ap (λ (z : Bool). rest_of s (seat s code words stand h f tk fit law o live p carried Seek e) v (if z then notes (seat s code words stand h f tk fit law o live p carried Seek e) v i (entries.Local t y) else Now Again) (Number 0 ∷ [])) same)
                            (subst (λ (z : Bool). Saw s (seat s code words stand h f tk fit law o live p carried Seek e) v (noted_all (AnEntry (entries.Local t y))) (((before (noted_all (AnEntry (entries.Local t y))) × May o p (Top v) (Number i) (noted (AnEntry (entries.Local t y)) (Top v))) × May o p (Slot v i) (Local t y) (noted (AnEntry (entries.Local t y)) (Slot v i))) × May o p (Dead v) (Number n) (noted (AnEntry (entries.Local t y)) (Dead v))) (if z then notes (seat s code words stand h f tk fit law o live p carried Seek e) v i (entries.Local t y) else Now Again) (Number 0 ∷ [])) (sym same) (
                              (
                                (
                                  (keep (AnEntry (entries.Local t y)) saw.0.0.0, subst (May o p (Top v) (Number i)) (sym (noted_else (AnEntry (entries.Local t y)) (Top v) (λ z. cc) (λ z. cc))) saw.0.0.1),
                                  subst (May o p (Slot v i) (Local t y)) (sym (noted_else (AnEntry (entries.Local t y)) (Slot v i) (λ z. cc) (λ z. cc))) saw.0.1,
                                ),
                                subst (May o p (Dead v) (Number n)) (sym (noted_else (AnEntry (entries.Local t y)) (Dead v) (λ z. cc) (λ z. cc))) saw.1,
                              ),
                              λ z. sym (noted_entry (entries.Local t y) af3.0),
                            )))
                        shut true same (w ∷ []) saw = aimed_at (Local t y) (λ z. z) (λ t' z is. subst (λ (c : Takeover). Closed c m v) (sym ih) (saw.0.1.1 (subst (λ (c : ℕ). IsDead (Number c)) (sym (eqb-true n 1 same)) tt))) saw.0.0.1 saw.0.0.0.1
                        shut true same (w ∷ x ∷ us) saw = absurd saw
                    by_how ByEntries ih (_ ∷ []) af4 saw = ends s code words stand h f tk fit law o live p carried Seek e ta u nm
                    by_how ByEntries ih (_ ∷ w ∷ us) af4 saw = absurd saw
                entry (Number n ∷ []) af3 saw = ends s code words stand h f tk fit law o live p carried Seek e ta u nm
                entry (Held n y ∷ []) af3 saw = ends s code words stand h f tk fit law o live p carried Seek e ta u nm
                entry (Unread ∷ []) af3 saw = ends s code words stand h f tk fit law o live p carried Seek e ta u nm
                entry (Restarts kind_ bottom_ ∷ []) af3 saw = ends s code words stand h f tk fit law o live p carried Seek e ta u nm
                entry (Linked link_ ∷ []) af3 saw = ends s code words stand h f tk fit law o live p carried Seek e ta u nm
                entry _ af3 saw = absurd saw
        seek_tail e ta u nm v before lift keep (Empty t ∷ []) af saw = ends s code words stand h f tk fit law o live p carried Seek e ta u nm
        seek_tail e ta u nm v before lift keep (Local t x ∷ []) af saw = ends s code words stand h f tk fit law o live p carried Seek e ta u nm
        seek_tail e ta u nm v before lift keep (Job t x ∷ []) af saw = ends s code words stand h f tk fit law o live p carried Seek e ta u nm
        seek_tail e ta u nm v before lift keep (Taken t x ∷ []) af saw = ends s code words stand h f tk fit law o live p carried Seek e ta u nm
        seek_tail e ta u nm v before lift keep (Held t x ∷ []) af saw = ends s code words stand h f tk fit law o live p carried Seek e ta u nm
        seek_tail e ta u nm v before lift keep (Unread ∷ []) af saw = ends s code words stand h f tk fit law o live p carried Seek e ta u nm
        seek_tail e ta u nm v before lift keep (Restarts kind_ bottom_ ∷ []) af saw = ends s code words stand h f tk fit law o live p carried Seek e ta u nm
        seek_tail e ta u nm v before lift keep (Linked link_ ∷ []) af saw = ends s code words stand h f tk fit law o live p carried Seek e ta u nm
        seek_tail e ta u nm v before lift keep _ af saw = absurd saw

        pub seek : Stands s code words stand h f tk fit law o live p carried Seek
        seek e ta u nm v [] af saw = looks s code words stand h f tk fit law o live p carried Seek e ta u nm u (λ n. Unit {0}) (Now (Load SeekHolder)) (lift_row s code words stand h f tk fit law o live p carried Seek e ta u nm u) [] tt tt SeekHolder refl (Holder u) refl refl refl (λ z. lt-ltb u s.processors nm) (λ x. refl) (λ z. z)
        seek e ta u nm v (Held t d ∷ us) af saw = at_place (v == p) refl us af.1 saw
          where
            at_place : (y : Bool) → (v == p) ≡ y → (us : List Word) → AreFit us
                → Saw s (seat s code words stand h f tk fit law o live p carried Seek e) v M (Unit {0} × May o p (Holder v) (Held t d) (m (Holder v))) (if y then Now Again else seek_by s (seat s code words stand h f tk fit law o live p carried Seek e) v (record { tag = t; processor = d }) s.takeover) us
                → Goal s code words stand h f tk fit law o live p carried Seek e ta u nm (rest_of s (seat s code words stand h f tk fit law o live p carried Seek e) v (if y then Now Again else seek_by s (seat s code words stand h f tk fit law o live p carried Seek e) v (record { tag = t; processor = d }) s.takeover) us)
            at_place true is [] af2 saw = agains s code words stand h f tk fit law o live p carried Seek e ta u nm
            at_place true is (x ∷ us) af2 saw = absurd saw
            at_place false is us af2 saw = by_how s.takeover refl us af2 saw
              where
                by_how : (how : Takeover) → s.takeover ≡ how → (us : List Word) → AreFit us → Saw s (seat s code words stand h f tk fit law o live p carried Seek e) v M (Unit {0} × May o p (Holder v) (Held t d) (m (Holder v))) (seek_by s (seat s code words stand h f tk fit law o live p carried Seek e) v (record { tag = t; processor = d }) how) us
                    → Goal s code words stand h f tk fit law o live p carried Seek e ta u nm (rest_of s (seat s code words stand h f tk fit law o live p carried Seek e) v (seek_by s (seat s code words stand h f tk fit law o live p carried Seek e) v (record { tag = t; processor = d }) how) us)
                by_how ByEntries ih us af2 saw = seek_tail e ta u nm v (λ l. Unit {0} × May o p (Holder v) (Held t d) (l (Holder v)))
                    (λ l ws row af3 er saw. lift_row s code words stand h f tk fit law o live p carried Seek e ta u nm v l (Held t d ∷ ws) row (af.0, af3)
                    (ap (λ (z : Bool). rest_of s (seat s code words stand h f tk fit law o live p carried Seek e) v (if z then Now Again else seek_by s (seat s code words stand h f tk fit law o live p carried Seek e) v (record { tag = t; processor = d }) s.takeover) ws) is ∙ ap (λ (z : Takeover). rest_of s (seat s code words stand h f tk fit law o live p carried Seek e) v (seek_by s (seat s code words stand h f tk fit law o live p carried Seek e) v (record { tag = t; processor = d }) z) ws) ih ∙ er)
                    (subst (λ (z : Bool). Saw s (seat s code words stand h f tk fit law o live p carried Seek e) v l (Unit {0} × May o p (Holder v) (Held t d) (l (Holder v))) (if z then Now Again else seek_by s (seat s code words stand h f tk fit law o live p carried Seek e) v (record { tag = t; processor = d }) s.takeover) ws) (sym is)
                    (subst (λ (z : Takeover). Saw s (seat s code words stand h f tk fit law o live p carried Seek e) v l (Unit {0} × May o p (Holder v) (Held t d) (l (Holder v))) (seek_by s (seat s code words stand h f tk fit law o live p carried Seek e) v (record { tag = t; processor = d }) z) ws) (sym ih) saw)))
                    (λ x a. (tt, subst (May o p (Holder v) (Held t d)) (sym (noted_else x (Holder v) (λ z. cc) (λ z. cc))) a.1)) us af2 saw
                by_how ByPlaces ih us af2 saw = held (d == o) refl us af2 saw
                  where
                    lifts : (y : Bool) → (d == o) ≡ y → (n : Spot → Word) (ws : List Word) (row : Row) → AreFit ws → rest_of s (seat s code words stand h f tk fit law o live p carried Seek e) v (seek_held s (seat s code words stand h f tk fit law o live p carried Seek e) v (record { tag = t; processor = d }) y) ws ≡ row
                        → Saw s (seat s code words stand h f tk fit law o live p carried Seek e) v n (Unit {0} × May o p (Holder v) (Held t d) (n (Holder v))) (seek_held s (seat s code words stand h f tk fit law o live p carried Seek e) v (record { tag = t; processor = d }) y) ws → HasSeen s n (seat s code words stand h f tk fit law o live p carried Seek e) row
                    lifts y same n ws row af3 er saw = lift_row s code words stand h f tk fit law o live p carried Seek e ta u nm v n (Held t d ∷ ws) row (af.0, af3)
                        (ap (λ (z : Bool). rest_of s (seat s code words stand h f tk fit law o live p carried Seek e) v (if z then Now Again else seek_by s (seat s code words stand h f tk fit law o live p carried Seek e) v (record { tag = t; processor = d }) s.takeover) ws) is
                        ∙ ap (λ (z : Takeover). rest_of s (seat s code words stand h f tk fit law o live p carried Seek e) v (seek_by s (seat s code words stand h f tk fit law o live p carried Seek e) v (record { tag = t; processor = d }) z) ws) ih ∙ ap (λ (z : Bool). rest_of s (seat s code words stand h f tk fit law o live p carried Seek e) v (seek_held s (seat s code words stand h f tk fit law o live p carried Seek e) v (record { tag = t; processor = d }) z) ws) same ∙ er)
                        (subst (λ (z : Bool). Saw s (seat s code words stand h f tk fit law o live p carried Seek e) v n (Unit {0} × May o p (Holder v) (Held t d) (n (Holder v))) (if z then Now Again else seek_by s (seat s code words stand h f tk fit law o live p carried Seek e) v (record { tag = t; processor = d }) s.takeover) ws) (sym is)
                        (subst (λ (z : Takeover). Saw s (seat s code words stand h f tk fit law o live p carried Seek e) v n (Unit {0} × May o p (Holder v) (Held t d) (n (Holder v))) (seek_by s (seat s code words stand h f tk fit law o live p carried Seek e) v (record { tag = t; processor = d }) z) ws) (sym ih)
                        (subst (λ (z : Bool). Saw s (seat s code words stand h f tk fit law o live p carried Seek e) v n (Unit {0} × May o p (Holder v) (Held t d) (n (Holder v))) (seek_held s (seat s code words stand h f tk fit law o live p carried Seek e) v (record { tag = t; processor = d }) z) ws) (sym same) saw)))

                    still : (x : Content) → Unit {0} × May o p (Holder v) (Held t d) (m (Holder v)) → Unit {0} × May o p (Holder v) (Held t d) (noted x (Holder v))
                    still x a = (tt, subst (May o p (Holder v) (Held t d)) (sym (noted_else x (Holder v) (λ z. cc) (λ z. cc))) a.1)

                    lost : (d == o) ≡ false → (us : List Word) → AreFit us → Saw s (seat s code words stand h f tk fit law o live p carried Seek e) v M (Unit {0} × May o p (Holder v) (Held t d) (m (Holder v))) (Now (Load (SeekDead v (record { tag = t; processor = d })))) us
                        → Goal s code words stand h f tk fit law o live p carried Seek e ta u nm (rest_of s (seat s code words stand h f tk fit law o live p carried Seek e) v (Now (Load (SeekDead v (record { tag = t; processor = d })))) us)
                    lost same [] af3 saw = looks s code words stand h f tk fit law o live p carried Seek e ta u nm v (λ n. Unit {0} × May o p (Holder v) (Held t d) (n (Holder v))) (Now (Load (SeekDead v (record { tag = t; processor = d })))) (lifts false same) [] tt saw
                        (SeekDead v (record { tag = t; processor = d })) refl (Dead d) refl refl refl (λ z. z) (λ x. refl) (λ z. z)
                    lost same (Number n ∷ us) af3 saw = is_dead (n == 1) refl us af3.1 saw
                      where
                        is_dead : (y : Bool) → (n == 1) ≡ y → (us : List Word) → AreFit us
                            → Saw s (seat s code words stand h f tk fit law o live p carried Seek e) v M ((Unit {0} × May o p (Holder v) (Held t d) (m (Holder v))) × May o p (Dead d) (Number n) (m (Dead d)))
                            (if y then bids (seat s code words stand h f tk fit law o live p carried Seek e) v (record { tag = t; processor = d }) (nat_lt (t + 1) (2 ^ 58)) else Now (Load (SeekTop v))) us
                            → Goal s code words stand h f tk fit law o live p carried Seek e ta u nm (rest_of s (seat s code words stand h f tk fit law o live p carried Seek e) v (if y then bids (seat s code words stand h f tk fit law o live p carried Seek e) v (record { tag = t; processor = d }) (nat_lt (t + 1) (2 ^ 58)) else Now (Load (SeekTop v))) us)
                        is_dead false dead us af4 saw = seek_tail e ta u nm v (λ l. (Unit {0} × May o p (Holder v) (Held t d) (l (Holder v))) × May o p (Dead d) (Number n) (l (Dead d)))
                            (λ l ws row af5 er saw. lifts false same l (Number n ∷ ws) row (tt, af5)
                            (ap (λ (z : Bool). rest_of s (seat s code words stand h f tk fit law o live p carried Seek e) v (if z then bids (seat s code words stand h f tk fit law o live p carried Seek e) v (record { tag = t; processor = d }) (nat_lt (t + 1) (2 ^ 58)) else Now (Load (SeekTop v))) ws) dead ∙ er)
                            (subst (λ (z : Bool). Saw s (seat s code words stand h f tk fit law o live p carried Seek e) v l ((Unit {0} × May o p (Holder v) (Held t d) (l (Holder v))) × May o p (Dead d) (Number n) (l (Dead d)))
                            (if z then bids (seat s code words stand h f tk fit law o live p carried Seek e) v (record { tag = t; processor = d }) (nat_lt (t + 1) (2 ^ 58)) else Now (Load (SeekTop v))) ws) (sym dead) saw))
                            (λ x a. (still x a.0, subst (May o p (Dead d) (Number n)) (sym (noted_else x (Dead d) (λ z. cc) (λ z. cc))) a.1)) us af4 saw
                        is_dead true dead us af4 saw = can (nat_lt (t + 1) (2 ^ 58)) refl us af4 saw
                          where
                            can : (y : Bool) → nat_lt (t + 1) (2 ^ 58) ≡ y → (us : List Word) → AreFit us
                                → Saw s (seat s code words stand h f tk fit law o live p carried Seek e) v M ((Unit {0} × May o p (Holder v) (Held t d) (m (Holder v))) × May o p (Dead d) (Number n) (m (Dead d))) (bids (seat s code words stand h f tk fit law o live p carried Seek e) v (record { tag = t; processor = d }) y) us
                                → Goal s code words stand h f tk fit law o live p carried Seek e ta u nm (rest_of s (seat s code words stand h f tk fit law o live p carried Seek e) v (bids (seat s code words stand h f tk fit law o live p carried Seek e) v (record { tag = t; processor = d }) y) us)
                            can false lt [] af5 saw = ends s code words stand h f tk fit law o live p carried Seek e ta u nm
                            can false lt (x ∷ us) af5 saw = absurd saw
                            can true lt [] af5 saw =
                                let x : Content = AHolder (record { tag = t + 1; processor = o }) in
                                let fits : IsHolder (record { tag = t + 1; processor = o }) = (omega (arith, carried.lives.there, s.within.processors_most), (ltb-true (t + 1) (2 ^ 58) lt, tt)) in
                                noting e ta u nm x (Install (record { kind = Take v d; bottom = b p }))
                                (lifts false same (noted_all x) (Number n ∷ Number 0 ∷ []) (Now (Install (record { kind = Take v d; bottom = b p }))) (tt, (tt, tt)) (again_row (Number 0 ∷ []))
                                (again_saw (noted_all x) (Number 0 ∷ []) (
                                  (still x saw.0, subst (May o p (Dead d) (Number n)) (sym (noted_else x (Dead d) (λ z. cc) (λ z. cc))) saw.1),
                                  λ same. sym (noted_bid (record { tag = t + 1; processor = o }) fits),
                                )))
                              where
                                again_row : (ws : List Word) → rest_of s (seat s code words stand h f tk fit law o live p carried Seek e) v (if n == 1 then bids (seat s code words stand h f tk fit law o live p carried Seek e) v (record { tag = t; processor = d }) (nat_lt (t + 1) (2 ^ 58)) else Now (Load (SeekTop v))) ws
                                    ≡ rest_of s (seat s code words stand h f tk fit law o live p carried Seek e) v (bids (seat s code words stand h f tk fit law o live p carried Seek e) v (record { tag = t; processor = d }) true) ws
                                again_row ws = ap (λ (z : Bool). rest_of s (seat s code words stand h f tk fit law o live p carried Seek e) v (if z then bids (seat s code words stand h f tk fit law o live p carried Seek e) v (record { tag = t; processor = d }) (nat_lt (t + 1) (2 ^ 58)) else Now (Load (SeekTop v))) ws) dead
                                    ∙ ap (λ (z : Bool). rest_of s (seat s code words stand h f tk fit law o live p carried Seek e) v (bids (seat s code words stand h f tk fit law o live p carried Seek e) v (record { tag = t; processor = d }) z) ws) lt

                                again_saw : (l : Spot → Word) (ws : List Word)
                                    → Saw s (seat s code words stand h f tk fit law o live p carried Seek e) v l ((Unit {0} × May o p (Holder v) (Held t d) (l (Holder v))) × May o p (Dead d) (Number n) (l (Dead d))) (bids (seat s code words stand h f tk fit law o live p carried Seek e) v (record { tag = t; processor = d }) true) ws
                                    → Saw s (seat s code words stand h f tk fit law o live p carried Seek e) v l ((Unit {0} × May o p (Holder v) (Held t d) (l (Holder v))) × May o p (Dead d) (Number n) (l (Dead d)))
                                    (if n == 1 then bids (seat s code words stand h f tk fit law o live p carried Seek e) v (record { tag = t; processor = d }) (nat_lt (t + 1) (2 ^ 58)) else Now (Load (SeekTop v))) ws
                                again_saw l ws a =
                                    subst (λ (z : Bool). Saw s (seat s code words stand h f tk fit law o live p carried Seek e) v l ((Unit {0} × May o p (Holder v) (Held t d) (l (Holder v))) × May o p (Dead d) (Number n) (l (Dead d)))
                                    (if z then bids (seat s code words stand h f tk fit law o live p carried Seek e) v (record { tag = t; processor = d }) (nat_lt (t + 1) (2 ^ 58)) else Now (Load (SeekTop v))) ws) (sym dead)
                                    (subst (λ (z : Bool). Saw s (seat s code words stand h f tk fit law o live p carried Seek e) v l ((Unit {0} × May o p (Holder v) (Held t d) (l (Holder v))) × May o p (Dead d) (Number n) (l (Dead d))) (bids (seat s code words stand h f tk fit law o live p carried Seek e) v (record { tag = t; processor = d }) z) ws) (sym lt) a)
                            can true lt (w ∷ []) af5 saw = installs s code words stand h f tk fit law o live p carried Seek e ta u nm (record { kind = Take v d; bottom = b p }) tt
                                (t, o, sym (saw.1 refl), saw.0.0.1.1, inl (saw.0.1.1 (subst (λ (y : ℕ). IsDead (Number y)) (sym (eqb-true n 1 dead)) tt)))
                                (own_goes s code words stand h f tk fit law o live p carried (Take v d) (b p) tt (plain_install law.board.board p Seek (Take v d) e tt tt (λ q z. z) (λ q z. z))) law.counts
                            can true lt (w ∷ x ∷ us) af5 saw = absurd saw
                    lost same (Empty n ∷ []) af3 saw = ends s code words stand h f tk fit law o live p carried Seek e ta u nm
                    lost same (Local n x ∷ []) af3 saw = ends s code words stand h f tk fit law o live p carried Seek e ta u nm
                    lost same (Job n x ∷ []) af3 saw = ends s code words stand h f tk fit law o live p carried Seek e ta u nm
                    lost same (Taken n x ∷ []) af3 saw = ends s code words stand h f tk fit law o live p carried Seek e ta u nm
                    lost same (Held n x ∷ []) af3 saw = ends s code words stand h f tk fit law o live p carried Seek e ta u nm
                    lost same (Unread ∷ []) af3 saw = ends s code words stand h f tk fit law o live p carried Seek e ta u nm
                    lost same (Restarts kind_ bottom_ ∷ []) af3 saw = ends s code words stand h f tk fit law o live p carried Seek e ta u nm
                    lost same (Linked link_ ∷ []) af3 saw = ends s code words stand h f tk fit law o live p carried Seek e ta u nm
                    lost same _ af3 saw = absurd saw

                    held : (y : Bool) → (d == o) ≡ y → (us : List Word) → AreFit us → Saw s (seat s code words stand h f tk fit law o live p carried Seek e) v M (Unit {0} × May o p (Holder v) (Held t d) (m (Holder v))) (seek_held s (seat s code words stand h f tk fit law o live p carried Seek e) v (record { tag = t; processor = d }) y) us
                        → Goal s code words stand h f tk fit law o live p carried Seek e ta u nm (rest_of s (seat s code words stand h f tk fit law o live p carried Seek e) v (seek_held s (seat s code words stand h f tk fit law o live p carried Seek e) v (record { tag = t; processor = d }) y) us)
                    held true same us af3 saw = seek_tail e ta u nm v (λ n. Unit {0} × May o p (Holder v) (Held t d) (n (Holder v))) (lifts true same) still us af3 saw
                    held false same us af3 saw = lost same us af3 saw
        seek e ta u nm v (Empty t ∷ []) af saw = ends s code words stand h f tk fit law o live p carried Seek e ta u nm
        seek e ta u nm v (Local t x ∷ []) af saw = ends s code words stand h f tk fit law o live p carried Seek e ta u nm
        seek e ta u nm v (Job t x ∷ []) af saw = ends s code words stand h f tk fit law o live p carried Seek e ta u nm
        seek e ta u nm v (Taken t x ∷ []) af saw = ends s code words stand h f tk fit law o live p carried Seek e ta u nm
        seek e ta u nm v (Number t ∷ []) af saw = ends s code words stand h f tk fit law o live p carried Seek e ta u nm
        seek e ta u nm v (Unread ∷ []) af saw = ends s code words stand h f tk fit law o live p carried Seek e ta u nm
        seek e ta u nm v (Restarts kind_ bottom_ ∷ []) af saw = ends s code words stand h f tk fit law o live p carried Seek e ta u nm
        seek e ta u nm v (Linked link_ ∷ []) af saw = ends s code words stand h f tk fit law o live p carried Seek e ta u nm
        seek e ta u nm v _ af saw = absurd saw
