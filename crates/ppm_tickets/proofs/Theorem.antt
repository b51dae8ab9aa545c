-- The opening, and the theorem.
use Rattle.std.proofs.Common.{◌≡◌, ◌≢◌, ◌⊎◌, ◌<◌, ◌+◌, ◌==◌, ℕ, zero, suc, List, [], ◌∷◌, Bool, true, false, if◌then◌else◌, inl, inr, refl, sym, ap, ◌∙◌, subst, subst₂, arith, ne_eqb, true≢false}
use Rattle.std.proofs.Common.{replicate}
use Rattle.std.specs.Prelude.{nat_lt, slice_get}
use Rattle.std.proofs.lemmas.Bool.{ltb-true}
use mathlib.Core.Path.{fun_ext}
use Rattle.ppm_cells.specs.Entry.{IsEntry}
use Rattle.ppm_cells.specs.Restart.{restart_word, restart_of, IsRestart}
use Rattle.ppm_cells.specs.declared.cell.Cell.TheVariants as cells
use Rattle.ppm_cells.specs.declared.restart.Restart.{Restart}
use Rattle.ppm_cells.specs.declared.restart.RestartKind.{RestartKind}
use Rattle.ppm_cells.specs.declared.restart.RestartKind.TheVariants.{Run, Seek}
use Rattle.ppm_cells.specs.declared.shape.Shape.{Shape}
use Rattle.ppm_step.specs.declared.turn.Turn.{Turn}
use Rattle.ppm_cells.specs.declared.shape.Takeover.{Takeover}
use Rattle.ppm_cells.specs.declared.shape.Takeover.TheVariants.{ByPlaces, ByEntries}
use Rattle.ppm_tickets.proofs.EstateLemmas.{plain as plain_board, here, own, covers_as}
use Rattle.ppm_tickets.proofs.TakeRows.{place_rows}
use Rattle.ppm_tickets.proofs.HeirLemmas.{not_gone, one_end}
use Rattle.ppm_tickets.proofs.CountLemmas.{has_here}
use Rattle.ppm_tickets.proofs.EntryRows.{entry_rows}
use Rattle.ppm_tickets.proofs.StepLemmas.{RowsKeep}
use Rattle.ppm_cells.proofs.RestartLemmas.{restarts_exact}
use Rattle.ppm_cells.proofs.ExactLemmas.{unpack-pack}
use Rattle.ppm_code.specs.declared.code.CodeParts.{CodeParts}
use Rattle.ppm_step.specs.Contents.{content_of}
use Rattle.ppm_step.specs.Standings.{IsLost, IsDone}
use Rattle.ppm_step.specs.State.{State, stand_in, stand_of, happens, after, opening}
use Rattle.ppm_step.specs.declared.content.Content.TheVariants.{AnEntry, AHolder}
use Rattle.ppm_step.specs.declared.content.Reading.TheVariants.{AsEntry, AsHolder}
use Rattle.ppm_tickets.specs.Along.{homes, forked, taken, IsOrderly, AreOrderly}
use Rattle.ppm_tickets.specs.Homes.{Home, Unborn, Pushing, Listed, Popping, Stolen, Inline, Begun, Once}
use Rattle.ppm_tickets.specs.Lawful.{IsClaim, IsThief, Rooted, Stays, Closed, Changes, IsEmpty, IsTaken, IsDead, Names, tag, Deque, Steals, Carries, IsCarrier, Aims, Dooms}
use Rattle.ppm_tickets.specs.Saw.{Lives, Sees, IsBidThere, Lawful}
use Rattle.ppm_tickets.specs.Tickets.{first_entry, Opens, AtMostOnce, AtMostOnceByEntries, InEveryRun, InEveryRunByEntries, LawfulInEveryRun, OneMoreTurn}
use Rattle.ppm_tickets.specs.View.{word_as, is_shown, absent, view, seeking, restart_or, restart_at, kinds, bottoms}
use Rattle.ppm_tickets.specs.Words.{Word, Job, Held, Number, Spot, Slot, Top, Holder, Carry, Dead, has}
use Rattle.ppm_tickets.proofs.ViewLemmas.{shown_cell, shows, again, if_true, if_false}
use Rattle.ppm_tickets.proofs.EffectLemmas.{IsPlain, plain_pushes, plain_pops, bottom_plain}
use Rattle.ppm_tickets.proofs.ActLemmas.{KeepsState, act_keeps, run_keeps}
use Rattle.ppm_tickets.proofs.ListLemmas.{onto, forked_onto, taken_onto, has_same, once_same, orderly_as}

entry_case : (v i : ℕ) → IsEntry (first_entry i) × (word_as (AnEntry (first_entry i)) ≡ absent (Slot v i))
entry_case v zero = ((omega arith, (omega arith, (omega arith, (omega arith, tt)))), refl)
entry_case v (suc zero) = ((omega arith, (omega arith, (omega arith, tt))), refl)
entry_case v (suc (suc i)) =
    rw (ne_eqb (suc (suc i)) 0 (λ e. omega (arith, e)), ne_eqb (suc (suc i)) 1 (λ e. omega (arith, e))) ((omega arith, (omega arith, (omega arith, tt))), refl)

pub lost_or : (n o : ℕ) → ((stand_in (slice_get (replicate n IsLost) o) ≡ IsLost) × (o < n)) ⊎ (stand_in (slice_get (replicate n IsLost) o) ≡ IsDone)
lost_or zero o = inr refl
lost_or (suc n) zero = inl (refl, omega arith)
lost_or (suc n) (suc o) = elim (lost_or n o) [ inl a ↦ inl (a.0, omega (arith, a.1)) | inr e ↦ inr e ]

module _ (s : Shape) (code : CodeParts) (keeper frame : ℕ) (ws : List ℕ) (small : frame < 75497921) where
  module _ (opens : Opens s keeper frame ws) where
    abbrev m : Spot → Word
    m = view s ws

    shown_or : (d : Spot) → (is_shown s d ≡ true → m d ≡ absent d) → m d ≡ absent d
    shown_or d f = by (is_shown s d) refl
      where
        by : (y : Bool) → is_shown s d ≡ y → m d ≡ absent d
        by true e = f e
        by false e = if_false (is_shown s d) _ (absent d) e

    slot_is : (v i : ℕ) → m (Slot v i) ≡ absent (Slot v i)
    slot_is v i = shown_or (Slot v i) (λ e.
        let c = entry_case v i in
        shows s ws (Slot v i) e ∙ ap (λ (n : ℕ). word_as (content_of AsEntry n)) (opens.opened (cells.EntryWord v i) (shown_cell s (Slot v i) e)) ∙ ap word_as (again (AnEntry (first_entry i)) tt c.0) ∙ c.1)

    top_is : (v : ℕ) → m (Top v) ≡ Number 1
    top_is v = shown_or (Top v) (λ e. shows s ws (Top v) e ∙ ap Number (opens.opened (cells.Top v) (shown_cell s (Top v) e)))

    holder_is : (v : ℕ) → m (Holder v) ≡ Held 0 v
    holder_is v = shown_or (Holder v) (λ e.
        let lt = shown_cell s (Holder v) e in
        shows s ws (Holder v) e ∙ ap (λ (n : ℕ). word_as (content_of AsHolder n)) (opens.opened (cells.HolderWord v) lt)
        ∙ ap word_as (again (AHolder (record { tag = 0; processor = v })) tt (omega (arith, lt, s.within.processors_most), (omega arith, tt))))

    carry_is : (c : ℕ) → m (Carry c) ≡ Number c
    carry_is c = shown_or (Carry c) (λ e. shows s ws (Carry c) e ∙ ap Number (opens.opened (cells.CarryWord c) (shown_cell s (Carry c) e)))

    dead_is : (c : ℕ) → m (Dead c) ≡ Number 0
    dead_is c = shown_or (Dead c) (λ e. shows s ws (Dead c) e ∙ ap Number (opens.opened (cells.DeadWord c) (shown_cell s (Dead c) e)))

    -- each place seeks, but for the keeper's
    first_kind : (p : ℕ) → ((restart_at s ws p ≡ record { kind = Run frame 0; bottom = 1 }) ⊎ (restart_at s ws p ≡ record { kind = Seek; bottom = 1 }))
    first_kind p = by (nat_lt p s.processors) refl
      where
        there : (q : Bool) → (p == keeper) ≡ q → nat_lt p s.processors ≡ true
            → (restart_at s ws p ≡ record { kind = Run frame 0; bottom = 1 }) ⊎ (restart_at s ws p ≡ record { kind = Seek; bottom = 1 })
        there true q e = inl (if_true (nat_lt p s.processors) _ seeking e
            ∙ ap (λ (n : ℕ). restart_or (restart_of n)) (opens.opened (cells.RestartWord p) (ltb-true p s.processors e) ∙ ap (λ (y : Bool). restart_word (record { kind = if y then Run frame 0 else Seek; bottom = 1 })) q)
            ∙ ap restart_or (unpack-pack restart_word IsRestart restart_of restarts_exact (record { kind = Run frame 0; bottom = 1 }) ((omega (arith, small), (omega arith, (omega arith, tt))), omega arith)))
        there false q e = inr (if_true (nat_lt p s.processors) _ seeking e
            ∙ ap (λ (n : ℕ). restart_or (restart_of n)) (opens.opened (cells.RestartWord p) (ltb-true p s.processors e) ∙ ap (λ (y : Bool). restart_word (record { kind = if y then Run frame 0 else Seek; bottom = 1 })) q)
            ∙ ap restart_or (unpack-pack restart_word IsRestart restart_of restarts_exact (record { kind = Seek; bottom = 1 }) ((omega arith, tt), omega arith)))

        by : (y : Bool) → nat_lt p s.processors ≡ y → (restart_at s ws p ≡ record { kind = Run frame 0; bottom = 1 }) ⊎ (restart_at s ws p ≡ record { kind = Seek; bottom = 1 })
        by true e = there (p == keeper) refl e
        by false e = inr (if_false (nat_lt p s.processors) _ seeking e)

    at_kind : (P : RestartKind → Type 0) → P (Run frame 0) → P Seek → (p : ℕ) → P (kinds s ws p)
    at_kind P run seek p = elim (first_kind p) [ inl e ↦ subst (λ (r : Restart). P r.kind) (sym e) run | inr e ↦ subst (λ (r : Restart). P r.kind) (sym e) seek ]

    bottom_is : (p : ℕ) → bottoms s ws p ≡ 1
    bottom_is p = elim (first_kind p) [ inl e ↦ ap (λ (r : Restart). r.bottom) e | inr e ↦ ap (λ (r : Restart). r.bottom) e ]

    plain : (p : ℕ) → IsPlain (kinds s ws p)
    plain = at_kind IsPlain tt tt

    steals_none : (p q : ℕ) → Steals m p (kinds s ws p) q → ⊥
    steals_none p q = at_kind (λ (k : RestartKind). Steals m p k q → ⊥) (λ z. z) (λ z. z) p

    high : (v i : ℕ) → 1 + 1 < i → IsEmpty (absent (Slot v i))
    high v zero lt = absurd (omega arith)
    high v (suc zero) lt = absurd (omega arith)
    high v (suc (suc i)) lt = tt

    deque : (v : ℕ) → Deque (kinds s ws v) (bottoms s ws v) (λ i. m (Slot v i))
    deque v = subst₂ (λ (low : ℕ) (e : ℕ → Word). Deque (kinds s ws v) low e) (sym (bottom_is v)) (sym (fun_ext (slot_is v))) record {
      start = omega arith;
      floor = tt;
      below = λ i lt. absurd (omega (arith, lt));
      here = bottom_plain (kinds s ws v) _ _ _ (plain v) (inr tt, tt, tt);
      above = high v;
    }

    slot_taken : (v i : ℕ) → IsTaken (m (Slot v i)) → i ≡ 0
    slot_taken v i is = first i (subst IsTaken (slot_is v i) is)
      where
        first : (i : ℕ) → IsTaken (absent (Slot v i)) → i ≡ 0
        first zero is = refl
        first (suc zero) is = absurd is
        first (suc (suc i)) is = absurd is

    no_job : (v i t r : ℕ) → absent (Slot v i) ≡ Job t r → ⊥
    no_job v zero t r e = cc
    no_job v (suc zero) t r e = cc
    no_job v (suc (suc i)) t r e = cc

    only : (x : Home) (r : ℕ) → IsCarrier x → Carries m (kinds s ws) (bottoms s ws) x r → Unborn ≡ x
    only Unborn r is a = refl
    only Inline r is a = absurd is
    only Begun r is a = absurd is
    only (Pushing p) r is a = absurd (plain_pushes (kinds s ws p) _ r (plain p) a)
    only (Listed v i t) r is a = absurd (no_job v i t r (sym (slot_is v i) ∙ a))
    only (Popping p) r is a = absurd (plain_pops (kinds s ws p) _ r (plain p) a)
    only (Stolen p) r is a = absurd (steals_none p r a)

    lives : (o : ℕ) → o < s.processors → Lives s m o
    lives o there = record { alive = λ z. subst IsDead (dead_is o) z; there = there }

    no_claim : (v i : ℕ) → IsClaim (absent (Slot v i)) → ⊥
    no_claim v zero z = omega (arith, z)
    no_claim v (suc zero) z = z
    no_claim v (suc (suc i)) z = z

    no_thief : (v i q : ℕ) → IsThief (kinds s ws q) v i → ⊥
    no_thief v i = at_kind (λ (k : RestartKind). IsThief k v i → ⊥) (λ th. elim th [ inl z ↦ absurd (cc) | inr z ↦ absurd (cc) ]) (λ th. elim th [ inl z ↦ absurd (cc) | inr z ↦ absurd (cc) ])

    rooted_by : (how : Takeover) → Rooted how m
    rooted_by ByPlaces = tt
    rooted_by ByEntries = carry_is

    pub opens_lawful : Lawful s m (kinds s ws) (bottoms s ws) (replicate s.processors IsLost) (λ r. Unborn) [] []
    opens_lawful = record {
      board = record {
        ghost = m;
        gone = λ p. false;
        covers = record { others = λ d ne. refl; slots = λ v i. inl (refl, λ z. no_claim v i (subst IsClaim (slot_is v i) z)) };
        board = record { deque = deque; real = λ r. tt; stays = λ r. tt; only = λ x r is st a. only x r is a };
        late = λ v g. absurd (true≢false (sym g));
        told = λ q v i t th is. absurd (no_thief v i q th);
        meant = λ q v i t x th is. absurd (no_thief v i q th);
      };
      rooted = rooted_by s.takeover;
      bids = at_kind (IsBidThere s) tt tt;
      order = record {
        passed = λ v i lt. let low : i < 1 = subst (λ (w : Word). i < tag w) (top_is v) lt in
            let zero_ : i ≡ 0 = omega (arith, low) in subst (λ (j : ℕ). IsTaken (m (Slot v j))) (sym zero_) (subst IsTaken (sym (slot_is v 0)) tt);
        first = λ v i j lt is. let low = slot_taken v j is in absurd (omega (arith, lt, low));
        aimed = at_kind (Aims m) tt tt;
      };
      holding = record {
        held = λ c p alive is. let same : Number c ≡ Number p = sym (carry_is c) ∙ is in let at : p ≡ c = cc in subst (λ (w : Word). Names w c) (sym (holder_is p)) at;
        carried = λ c. (c, carry_is c);
        doomed = λ p. at_kind (Dooms m p) tt tt p;
      };
      counts = record { born = λ r e. absurd (cc); listed = λ r ne. absurd (ne refl); begun = λ r e. absurd (cc); counted = λ r e. absurd (cc); once = tt; forked_once = tt };
      sees = λ o. elim (lost_or s.processors o) [
        | inl a ↦ subst (Sees s m (kinds s ws) (bottoms s ws) o) (sym a.0) (lives o a.1)
        | inr e ↦ subst (Sees s m (kinds s ws) (bottoms s ws) o) (sym e) tt
      ];
    }

one : (w : Word) (c d : ℕ) → Names w c → Names w d → c ≡ d
one (Held t x) c d a b = sym a ∙ b
one _ c d a b = absurd a

carrier_or : (x : Home) → x ≢ Unborn → x ≢ Begun → IsCarrier x ⊎ (x ≡ Inline)
carrier_or Unborn a z = absurd (a refl)
carrier_or Begun a z = absurd (z refl)
carrier_or Inline a z = inr refl
carrier_or _ a z = inl tt

stays_all : (x : Home) → Stays (λ p. false) x
stays_all (Pushing p) = refl
stays_all (Popping p) = refl
stays_all (Stolen p) = refl
stays_all _ = tt

-- rows with either takeover
rows_by : (s : Shape) (code : CodeParts) (how : Takeover) → s.takeover ≡ how → RowsKeep s code
rows_by s code ByPlaces is = subst (λ (x : Shape). RowsKeep x code) (λ i. record s { takeover = (sym is) i }) (place_rows s code)
rows_by s code ByEntries is = subst (λ (x : Shape). RowsKeep x code) (λ i. record s { takeover = (sym is) i }) (entry_rows s code)

pub all_rows : (s : Shape) (code : CodeParts) → RowsKeep s code
all_rows s code = rows_by s code s.takeover refl

-- lists in order of the run
module _ (s : Shape) (code : CodeParts) (state : State) (h : ℕ → Home) (f tk fs ts : List ℕ) (ef : f ≡ onto fs []) (et : tk ≡ onto ts []) (keeps : KeepsState s code (all_rows s code) state h f tk) where
  abbrev law : Lawful s (view s state.words) (kinds s state.words) (bottoms s state.words) state.stand h f tk
  law = keeps.1

  forks : (r : ℕ) → has f r ≡ true → has fs r ≡ true
  forks r e = sym (has_same fs r) ∙ ap (λ (l : List ℕ). has l r) (sym ef) ∙ e

  back : (r : ℕ) → has fs r ≡ true → has f r ≡ true
  back r e = ap (λ (l : List ℕ). has l r) ef ∙ has_same fs r ∙ e

  takes : (r : ℕ) → has ts r ≡ true → has tk r ≡ true
  takes r e = ap (λ (l : List ℕ). has l r) et ∙ has_same ts r ∙ e

  first : (r : ℕ) → has ts r ≡ true → has fs r ≡ true
  first r e = forks r (law.counts.listed r (λ u. let k : Unborn ≡ Begun = sym u ∙ law.counts.begun r (takes r e) in cc))

  fair : (turn : Turn) → IsOrderly s state.words turn.act (stand_of state turn.processor) h fs → (v i : ℕ)
      → (view s (happens s code state turn).words (Slot v i) ≡ view s state.words (Slot v i)) ⊎ Changes s.takeover (view s state.words (Slot v i)) (view s (happens s code state turn).words (Slot v i))
  fair turn orderly v i = (act_keeps s code (all_rows s code) state.words state.stand h f tk keeps.0 law turn.processor turn.act
      (orderly_as s state.words h f fs (λ r. ap (λ (l : List ℕ). has l r) ef ∙ has_same fs r) turn.act (stand_of state turn.processor) orderly)).1 v i

  carried : (r : ℕ) → has fs r ≡ true → has ts r ≡ false → IsCarrier (h r) ⊎ (h r ≡ Inline)
  carried r e not = carrier_or (h r) (law.counts.born r (back r e)) (λ z. true≢false (sym (law.counts.counted r z) ∙ ap (λ (l : List ℕ). has l r) et ∙ has_same ts r ∙ not))

  at_most_once : s.takeover ≡ ByPlaces → AtMostOnce s code state h fs ts
  at_most_once places =
      let board = plain_board law.board (λ v z. subst (λ (how : Takeover). Closed how (view s state.words) v) places z) in record {
        shape = board.deque;
        order = law.order;
        apart = λ c d p lc ld ic id. one _ c d (law.holding.held c p lc ic) (law.holding.held d p ld id);
        held = law.holding.held;
        changes = fair;
        once = once_same ts (subst Once et law.counts.once);
        forked_once = once_same fs (subst Once ef law.counts.forked_once);
        forked_first = first;
        home = λ r e not. elim (carried r e not) [
          | inl carrier ↦ inl (h r, carrier, board.real r, λ y is here. sym (board.only y r is (stays_all y) here))
          | inr inline ↦ inr inline
        ];
      }

  at_most_once_by_entries : s.takeover ≡ ByEntries → AtMostOnceByEntries s code state h fs ts
  at_most_once_by_entries entries =
      record {
        ghost = law.board.ghost;
        gone = law.board.gone;
        inherited = covers_as law.board (λ v. IsDead (view s state.words (Dead v))) (λ v z. subst (λ (how : Takeover). Closed how (view s state.words) v) entries z);
        shape = law.board.board.deque;
        lives = λ v alive. let open_ : Closed s.takeover (view s state.words) v → ⊥ = λ z. alive (subst (λ (how : Takeover). Closed how (view s state.words) v) entries z) in (here law.board v open_, λ i. own law.board v i open_);
        followed = law.board.late;
        no_heir = λ p y l alive trail. not_gone law.board p (λ z. alive (subst (λ (how : Takeover). Closed how (view s state.words) p) entries z)) (y ∷ l) y trail (has_here y l);
        heirs = law.board.told;
        one_heir = λ p q y l c pl ql a d. one_end law.board p q y l c (λ z. pl (subst (λ (how : Takeover). Closed how (view s state.words) p) entries z)) (λ z. ql (subst (λ (how : Takeover). Closed how (view s state.words) q) entries z)) a d;
        order = law.order;
        own = subst (λ (how : Takeover). Rooted how (view s state.words)) entries law.rooted;
        changes = fair;
        once = once_same ts (subst Once et law.counts.once);
        forked_once = once_same fs (subst Once ef law.counts.forked_once);
        forked_first = first;
        home = λ r e not. elim (carried r e not) [
          | inl carrier ↦ inl (h r, carrier, law.board.board.stays r, law.board.board.real r, λ y is stay here. sym (law.board.board.only y r is stay here))
          | inr inline ↦ inr inline
        ];
      }

run : (s : Shape) (code : CodeParts) (keeper frame : ℕ) (ws : List ℕ) (turns : List Turn) → frame < 75497921 → Opens s keeper frame ws → AreOrderly s code (opening ws s.processors) (λ r. Unborn) [] turns
    → KeepsState s code (all_rows s code) (after s code (opening ws s.processors) turns) (homes s code (opening ws s.processors) (λ r. Unborn) turns)
    (forked s code (opening ws s.processors) [] turns) (taken s code (opening ws s.processors) [] turns)
run s code keeper frame ws turns small opens orderly =
    run_keeps s code (all_rows s code) turns (opening ws s.processors) (λ r. Unborn) [] [] (opens.fit, opens_lawful s code keeper frame ws small opens) orderly

pub in_every_run : (s : Shape) (code : CodeParts) → InEveryRun s code
in_every_run s code keeper frame ws turns places small opens orderly =
    at_most_once s code _ _ _ _ _ _ (forked_onto s code turns (opening ws s.processors) []) (taken_onto s code turns (opening ws s.processors) []) (run s code keeper frame ws turns small opens orderly) places

pub in_every_run_by_entries : (s : Shape) (code : CodeParts) → InEveryRunByEntries s code
in_every_run_by_entries s code keeper frame ws turns entries small opens orderly =
    at_most_once_by_entries s code _ _ _ _ _ _ (forked_onto s code turns (opening ws s.processors) []) (taken_onto s code turns (opening ws s.processors) []) (run s code keeper frame ws turns small opens orderly) entries

pub lawful_in_every_run : (s : Shape) (code : CodeParts) → LawfulInEveryRun s code
lawful_in_every_run s code keeper frame ws turns small opens orderly = run s code keeper frame ws turns small opens orderly

pub one_more_turn : (s : Shape) (code : CodeParts) → OneMoreTurn s code
one_more_turn s code [] turn state h f orderly next = (next, tt)
one_more_turn s code (first ∷ turns) turn state h f orderly next = (orderly.0, one_more_turn s code turns turn _ _ _ orderly.1 next)
