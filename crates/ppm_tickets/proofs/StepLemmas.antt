-- What a step of the machine comes to, over the view of its words.
use Rattle.std.proofs.Common.{ap₂, ◌≡◌, ◌≢◌, ◌⊎◌, ◌<◌, ◌≤◌, ◌+◌, ℕ, zero, suc, List, [], ◌∷◌, ◌++◌, Bool, true, false, if◌then◌else◌, ◌==◌, inl, inr, refl, sym, ap, ◌∙◌, subst, subst₂, arith, Option, Some, None, slice_set, eqb-true, eq-eqb, true≢false}
use Rattle.std.specs.Prelude.{nat_lt, slice_get, ◌&&◌, ◌^◌}
use Rattle.std.proofs.lemmas.Bool.{cases_eq, ltb-true, le-ltb}
use Rattle.ppm_cells.specs.Cells.{address, word_count, IsCell}
use Rattle.ppm_cells.specs.Memory.{read, write as store, AreWordsOf}
use Rattle.ppm_cells.specs.Restart.{restart_word, IsRestart}
use Rattle.ppm_cells.specs.declared.cell.Cell.{Cell}
use Rattle.ppm_cells.specs.declared.cell.Cell.TheVariants as cells
use Rattle.ppm_cells.specs.Entry.{IsEntry}
use Rattle.ppm_cells.specs.declared.entry.Entry.{Entry}
use Rattle.ppm_cells.specs.declared.restart.Restart.{Restart}
use Rattle.ppm_cells.specs.declared.restart.RestartKind.{RestartKind}
use Rattle.ppm_cells.specs.declared.restart.RestartKind.TheVariants.{Run, Bump, Push1, Unwind, Arrive, Join, Pop1, Steal, Check, Take}
use Rattle.ppm_cells.specs.declared.shape.Shape.{Shape}
use Rattle.ppm_cells.specs.declared.shape.Takeover.{Takeover}
use Rattle.ppm_cells.specs.declared.shape.Takeover.TheVariants.{ByPlaces, ByEntries}
use Rattle.ppm_code.specs.Capsules.{capsule_of}
use Rattle.ppm_code.specs.declared.code.Capsule.{Capsule as CodeCapsule}
use Rattle.ppm_code.specs.declared.code.CodeParts.{CodeParts}
use Rattle.ppm_step.specs.Contents.{content_of, word_of, IsContent}
use Rattle.ppm_step.specs.Frames.{Rest, rest_of as frame_rest}
use Rattle.ppm_step.specs.Points.{cell_at, reading_at}
use Rattle.ppm_cells.specs.DequeChange.{tag_of}
use Rattle.ppm_step.specs.Rows.{found_at, row_of, raised}
use Rattle.ppm_step.specs.Standings.{Standing, IsLost, IsPlaced, IsAt, IsWithin, IsRunning, IsBroken, IsDone, row_is_there, rest_is_there, within_if, running_if, enters, stands_then, stands, wanted_row, went_row}
use Rattle.ppm_step.specs.State.{stand_in, found_in, words_after, fork_row, take_row}
use Rattle.ppm_step.specs.There.{bottom_is_there, kind_is_there, restart_is_there, is_there}
use Rattle.ppm_step.specs.declared.ask.Want.TheVariants.{Stores}
use Rattle.ppm_step.specs.declared.content.Content.{Content}
use Rattle.ppm_step.specs.declared.content.Content.TheVariants.{AnEntry}
use Rattle.ppm_step.specs.declared.row.Point.{Point}
use Rattle.ppm_step.specs.declared.row.Point.TheVariants.{Offset}
use Rattle.ppm_step.specs.declared.row.Row.{Row}
use Rattle.ppm_step.specs.declared.row.Row.TheVariants.{Now, Store, Exchange}
use Rattle.ppm_step.specs.declared.row.Seat.{Seat}
use Rattle.ppm_step.specs.declared.row.Then.{Then}
use Rattle.ppm_step.specs.declared.row.Then.TheVariants.{Load, Install, Fork, Begin, Move, Enter, Again, Broken}
use Rattle.ppm_step.proofs.ThereLemmas.{restart_fits}
use Rattle.ppm_step.proofs.WordLemmas.{length_stays}
use Rattle.ppm_tickets.specs.Along.{by_words, by_install, by_row, IsPooled, IsJoined, IsOrderlyRow}
use Rattle.ppm_tickets.specs.Homes.{Home, Unborn, Pushing, Inline, Begun}
use Rattle.ppm_tickets.specs.Lawful.{IsEmpty, IsTaken, IsDead, IsClaim, IsThief, Names, tag, May, Frozen, Grows, Board, Closed, Rooted, IsHome, IsAlive, Dooms, Holding, Aims, Order, Counts, Steals, Changes}
use Rattle.ppm_tickets.specs.Saw.{spot_at, rest_of, Knows, Saw, AreFit, IsStrand, IsStrandOrPop, IsJoining, IsQuietCell, IsQuiet, IsModest, HasSeen, Strand, Looks, Lives, Carried, IsOf, Sits, Sees, IsBidThere, Lawful}
use Rattle.ppm_tickets.specs.View.{word_as, content_by, reading_by, cell_of, reading_of, spot, is_shown, absent, view, kinds, bottoms, with_restarts}
use Rattle.ppm_tickets.specs.Words.{Word, Held, Number, Spot, Message, Bid, Top, Slot, Holder, Carry, Dead, Restart as RestartSpot, Restarts, Other, put, write}
use Rattle.ppm_tickets.proofs.WriteLemmas.{put_here, put_else, write_here, write_else, same_spot_or, may_same}
use Rattle.ppm_tickets.proofs.SeenLemmas.{fit_more, seen_stays, load_rest, load_seen, exchange_rest, exchange_made, exchange_missed}
use Rattle.ppm_tickets.proofs.ViewLemmas.{if_false, IsPlain, back_plain, again, packed_as, shown_cell, shows, shows_content, shows_fit, view_kept, view_written, IsLone, lone_slot, restarts_kept, kinds_put, bottoms_put}
use Rattle.ppm_cells.proofs.CellLemmas.{few_words}
use Rattle.ppm_tickets.proofs.QuietLemmas.{spot_quiet, found_quiet, begun_quiet, rest_modest}
use Rattle.ppm_tickets.proofs.OrderLemmas.{order_install, order_entry}
use Rattle.ppm_tickets.proofs.HoldingLemmas.{holding_install, holding_other}
use Rattle.ppm_tickets.proofs.CountLemmas.{counts_fork, counts_take}
use Rattle.ppm_tickets.proofs.EstateLemmas.{After, closing, wrote, installed, here, own, as_open}
use Rattle.ppm_tickets.proofs.EffectLemmas.{fork, plain_install, pop_begins, inline_begins, IsPlain as IsPlainKind}

-- where processors stand once one has moved
pub stand_other : (l : List Standing) (o d : ℕ) (x : Standing) → d ≢ o → stand_in (slice_get (slice_set l o x) d) ≡ stand_in (slice_get l d)
stand_other [] o d x ne = refl
stand_other (y ∷ l) zero zero x ne = absurd (ne refl)
stand_other (y ∷ l) zero (suc d) x ne = refl
stand_other (y ∷ l) (suc o) zero x ne = refl
stand_other (y ∷ l) (suc o) (suc d) x ne = stand_other l o d x (λ e. ne (ap suc e))

pub stand_own : (l : List Standing) (o : ℕ) (x : Standing) → stand_in (slice_get l o) ≢ IsDone → stand_in (slice_get (slice_set l o x) o) ≡ x
stand_own [] o x live = absurd (live refl)
stand_own (y ∷ l) zero x live = refl
stand_own (y ∷ l) (suc o) x live = stand_own l o x live

pub grows_each : (o p : ℕ) (m : Spot → Word) (c : Spot) (w : Word) → May o p c (m c) w → (d : Spot) → May o p d (m d) (write m c w d)
grows_each o p m c w may d = elim (same_spot_or d c) [
  | inl e ↦ subst (λ (x : Spot). May o p x (m x) (write m c w x)) (sym e) (subst (May o p c (m c)) (sym (write_here m c w)) may)
  | inr ne ↦ subst (May o p d (m d)) (sym (write_else m c w d ne)) (may_same o p d (m d))
]

-- the words, with what places are at, have gone on
shown_each : (o p : ℕ) (m n : Spot → Word) (k l : ℕ → RestartKind) (b c : ℕ → ℕ) → ((d : Spot) → May o p d (m d) (n d)) → (l p ≡ k p) → (c p ≡ b p)
    → (d : Spot) → May o p d (with_restarts m k b d) (with_restarts n l c d)
shown_each o p m n k l b c f ek eb (RestartSpot q) = λ same. ap₂ Restarts (ap k same ∙ sym ek ∙ sym (ap l same)) (ap b same ∙ sym eb ∙ sym (ap c same))
shown_each o p m n k l b c f ek eb d = f d

-- closed places stay as they are
abbrev pub Stills : Takeover → (m n : Spot → Word) → (k l : ℕ → RestartKind) → (b c : ℕ → ℕ) → Type 0
Stills ByPlaces m n k l b c = Unit {0}
Stills ByEntries m n k l b c = (q : ℕ) → IsDead (m (Dead q)) → IsDead (n (Dead q)) × (l q ≡ k q) × (c q ≡ b q) × (n (Message q) ≡ m (Message q))

stills_frozen : (how : Takeover) (m n : Spot → Word) (k l : ℕ → RestartKind) (b c : ℕ → ℕ) → Stills how m n k l b c → Frozen how (with_restarts m k b) (with_restarts n l c)
stills_frozen ByPlaces m n k l b c a = tt
stills_frozen ByEntries m n k l b c a = λ q d. let z = a q d in (z.0, ap₂ Restarts (sym z.1) (sym z.2), sym z.3)

still_same : (how : Takeover) (m : Spot → Word) (k : ℕ → RestartKind) (b : ℕ → ℕ) → Stills how m m k k b b
still_same ByPlaces m k b = tt
still_same ByEntries m k b = λ q d. (d, refl, refl, refl)

-- a word is written that is no closed place's message, and brings no place to life
pub still_write : (how : Takeover) (m : Spot → Word) (k : ℕ → RestartKind) (b : ℕ → ℕ) (d : Spot) (w : Word) → ((q : ℕ) → IsDead (m (Dead q)) → Message q ≢ d) → ((q : ℕ) → Dead q ≡ d → IsDead w)
    → Stills how m (write m d w) k k b b
still_write ByPlaces m k b d w message dead = tt
still_write ByEntries m k b d w message dead = λ q z. (
  elim (same_spot_or (Dead q) d) [
    | inl e ↦ subst IsDead (sym (ap (write m d w) e ∙ write_here m d w)) (dead q e)
    | inr ne ↦ subst IsDead (sym (write_else m d w (Dead q) ne)) z
  ],
  refl,
  refl,
  write_else m d w (Message q) (message q z),
)

pub still_install : (how : Takeover) (m : Spot → Word) (k : ℕ → RestartKind) (b : ℕ → ℕ) (p : ℕ) (new : RestartKind) (low : ℕ) → (Closed how m p → ⊥) → Stills how m m k (put k p new) b (put b p low)
still_install ByPlaces m k b p new low open_ = tt
still_install ByEntries m k b p new low open_ = λ q d.
    let ne : q ≢ p = λ e. open_ (subst (λ (x : ℕ). IsDead (m (Dead x))) e d) in
    (d, put_else k p new q ne, put_else b p low q ne, refl)

pub shut_not : (how : Takeover) (m : Spot → Word) (o p : ℕ) → IsHome how o p → IsAlive m o → Closed how m p → ⊥
shut_not ByPlaces m o p home lives shut = shut
shut_not ByEntries m o p home lives shut = lives (subst (λ (x : ℕ). IsDead (m (Dead x))) home shut)

pub closed_kept : (how : Takeover) (m : Spot → Word) (d : Spot) (w : Word) → ((q : ℕ) → Dead q ≡ d → IsDead w) → (v : ℕ) → Closed how m v → Closed how (write m d w) v
closed_kept ByPlaces m d w dead v z = z
closed_kept ByEntries m d w dead v z = elim (same_spot_or (Dead v) d) [
  | inl e ↦ subst IsDead (sym (ap (write m d w) e ∙ write_here m d w)) (dead v e)
  | inr ne ↦ subst IsDead (sym (write_else m d w (Dead v) ne)) z
]

pub rooted_kept : (how : Takeover) (m : Spot → Word) (d : Spot) (w : Word) → ((q : ℕ) → Carry q ≢ d) → Rooted how m → Rooted how (write m d w)
rooted_kept ByPlaces m d w ne a = tt
rooted_kept ByEntries m d w ne a = λ q. write_else m d w (Carry q) (ne q) ∙ a q

pub home_as : (how : Takeover) (m : Spot → Word) (o p : ℕ) → Rooted how m → m (Carry o) ≡ Number p → IsHome how o p
home_as ByPlaces m o p a e = tt
home_as ByEntries m o p a e = let same : Number p ≡ Number o = sym e ∙ a o in cc

module _ (s : Shape) (code : CodeParts) where
  -- a row that goes on, or has come to its end
  module _ (m : Spot → Word) (k : ℕ → RestartKind) (b : ℕ → ℕ) (o : ℕ) (seat : Seat) (sits : Sits s m k b o seat) where
    within_sees : (row : Row) → HasSeen s (with_restarts m k b) seat row → (t : Bool) → row_is_there s seat row ≡ t → Sees s m k b o (within_if seat row t)
    within_sees row seen true e = (sits, seen, e)
    within_sees row seen false e = sits.carried.lives

    pub running_sees : (rest : Rest) → IsStrand seat.restart.kind → IsModest rest → (t : Bool) → rest_is_there s seat rest ≡ t → Sees s m k b o (running_if seat rest t)
    running_sees rest strand modest true e = (sits, strand, modest, e)
    running_sees rest strand modest false e = sits.carried.lives

    entered : (kind : RestartKind) → seat.restart.kind ≡ kind → (c : Option CodeCapsule) → Sees s m k b o (enters s code seat kind c)
    entered (Run frame copy) e (Some capsule) =
        running_sees (frame_rest s code seat.place (record { frame = frame; copy = copy; block = 0 }) (capsule_of s.arrays capsule.instrs)) (subst IsStrand (sym e) tt)
        (rest_modest s code seat.place (record { frame = frame; copy = copy; block = 0 }) (capsule_of s.arrays capsule.instrs))
        (rest_is_there s seat (frame_rest s code seat.place (record { frame = frame; copy = copy; block = 0 }) (capsule_of s.arrays capsule.instrs))) refl
    entered (Run frame copy) e None = sits.carried.lives
    entered _ e c = sits.carried.lives

    pub settled : (row : Row) → HasSeen s (with_restarts m k b) seat row → Sees s m k b o (stands s code seat row)
    settled (Now (Load x)) seen = within_sees (Now (Load x)) seen (row_is_there s seat (Now (Load x))) refl
    settled (Now (Install x)) seen = within_sees (Now (Install x)) seen (row_is_there s seat (Now (Install x))) refl
    settled (Now (Fork x)) seen = within_sees (Now (Fork x)) seen (row_is_there s seat (Now (Fork x))) refl
    settled (Now (Begin x y z)) seen = within_sees (Now (Begin x y z)) seen (row_is_there s seat (Now (Begin x y z))) refl
    settled (Now (Move x)) seen = within_sees (Now (Move x)) seen (row_is_there s seat (Now (Move x))) refl
    settled (Now (Enter x)) seen = entered seat.restart.kind refl (slice_get code.capsules x)
    settled (Now Again) seen = (sits.carried, sits.at)
    settled (Now Broken) seen = within_sees (Now Broken) seen (row_is_there s seat (Now Broken)) refl
    settled (Store c x next) seen = within_sees (Store c x next) seen (row_is_there s seat (Store c x next)) refl
    settled (Exchange c x y next) seen = within_sees (Exchange c x y next) seen (row_is_there s seat (Exchange c x y next)) refl

    -- a row begins
    begun_seen : (kind : RestartKind) → seat.restart.kind ≡ kind → HasSeen s (with_restarts m k b) seat (row_of s seat seat.restart.kind)
    begun_seen (Run frame copy) e = Strand (subst IsStrand (sym e) tt) (begun_quiet seat s seat.restart.kind refl (subst IsStrand (sym e) tt))
    begun_seen (Bump block) e = Strand (subst IsStrand (sym e) tt) (begun_quiet seat s seat.restart.kind refl (subst IsStrand (sym e) tt))
    begun_seen (Unwind frame) e = Strand (subst IsStrand (sym e) tt) (begun_quiet seat s seat.restart.kind refl (subst IsStrand (sym e) tt))
    begun_seen (Arrive block side) e = Strand (subst IsStrand (sym e) tt) (begun_quiet seat s seat.restart.kind refl (subst IsStrand (sym e) tt))
    begun_seen (Join block side) e = Strand (subst IsStrand (sym e) tt) (begun_quiet seat s seat.restart.kind refl (subst IsStrand (sym e) tt))
    begun_seen _ e = Looks 0 [] tt refl tt

    pub begins_sees : Sees s m k b o (stands s code seat (row_of s seat seat.restart.kind))
    begins_sees = settled (row_of s seat seat.restart.kind) (begun_seen seat.restart.kind refl)

  -- what others do: the one lemma
  module _ (m n : Spot → Word) (d : ℕ) (k l : ℕ → RestartKind) (b c : ℕ → ℕ) (still : Stills s.takeover m n k l b c) where
    abbrev Each : ℕ → Type 0
    Each q = (x : Spot) → May d q x (m x) (n x)

    alive_kept : (q : ℕ) → Each q → IsAlive m d → IsAlive n d
    alive_kept q g alive z = alive (subst IsDead (sym ((g (Dead d)).0 refl)) z)

    lives_kept : (q : ℕ) → Each q → Lives s m d → Lives s n d
    lives_kept q g a = record { alive = alive_kept q g a.alive; there = a.there }

    carried_kept : (q : ℕ) → Each q → Carried s m d q → Carried s n d q
    carried_kept q g a = record { lives = lives_kept q g a.lives; carry = sym (g (Carry d) refl) ∙ a.carry; place = a.place; home = a.home }

    of_kept : (q : ℕ) (r : Restart) → l q ≡ k q → c q ≡ b q → IsOf s m k b q r → IsOf s n l c q r
    of_kept q r ek eb a = record { kind = ek ∙ a.kind; bottom = eb ∙ a.bottom }

    seen_kept : (seat : Seat) (row : Row) → Grows s.takeover seat.own seat.place (with_restarts m k b) (with_restarts n l c) → HasSeen s (with_restarts m k b) seat row → HasSeen s (with_restarts n l c) seat row
    seen_kept seat row g (Strand a q) = Strand a q
    seen_kept seat row g (Looks v ws fit e saw) =
        Looks v ws fit e (seen_stays s seat v (with_restarts m k b) (with_restarts n l c) g (Unit {0}) (Unit {0}) (λ x. x) (row_of s seat seat.restart.kind) ws saw)

    sits_kept : (seat : Seat) → Each seat.place → l seat.place ≡ k seat.place → c seat.place ≡ b seat.place → Sits s m k b d seat → Sits s n l c d seat
    sits_kept seat g ek eb a = record { own = a.own; carried = carried_kept seat.place g a.carried; at = of_kept seat.place seat.restart ek eb a.at; there = a.there }

    abbrev Moves : Type 0
    Moves = (q : ℕ) → Lives s m d → m (Carry d) ≡ Number q → Each q × (l q ≡ k q) × (c q ≡ b q)

    others_keep : (x : Standing) → Moves → (q : ℕ) × (m (Carry d) ≡ Number q) → Sees s m k b d x → Sees s n l c d x
    others_keep IsLost g at a = lives_kept at.0 (g at.0 a at.1).0 a
    others_keep (IsPlaced q) g at a = carried_kept q (g q a.lives a.carry).0 a
    others_keep (IsAt q None) g at a = (carried_kept q (g q a.0.lives a.0.carry).0 a.0, tt)
    others_keep (IsAt q (Some r)) g at a =
        let f = g q a.0.lives a.0.carry in
        (carried_kept q f.0 a.0, of_kept q r f.1 f.2 a.1)
    others_keep (IsWithin seat row) g at a =
        let f = g seat.place a.0.carried.lives a.0.carried.carry in
        (sits_kept seat f.0 f.1 f.2 a.0, seen_kept seat row (record { each = subst (λ (x : ℕ). (y : Spot) → May x seat.place y (with_restarts m k b y) (with_restarts n l c y)) (sym a.0.own) (shown_each d seat.place m n k l b c f.0 f.1 f.2); frozen = stills_frozen s.takeover m n k l b c still }) a.1, a.2)
    others_keep (IsRunning seat rest) g at a =
        let f = g seat.place a.0.carried.lives a.0.carried.carry in
        (sits_kept seat f.0 f.1 f.2 a.0, a.1, a.2, a.3)
    others_keep (IsBroken q) g at a = lives_kept at.0 (g at.0 a at.1).0 a
    others_keep IsDone g at a = tt

  -- words that stand for what is lawful
  abbrev pub Keeps : List ℕ → List Standing → (ℕ → Home) → (forked taken : List ℕ) → Type 0
  Keeps words stand h f tk = AreWordsOf s words × Lawful s (view s words) (kinds s words) (bottoms s words) stand h f tk

  -- in which these places are followed
  abbrev pub KeepsOn : (gone : ℕ → Bool) → List ℕ → List Standing → (ℕ → Home) → (forked taken : List ℕ) → Type 0
  KeepsOn g words stand h f tk = (kept : Keeps words stand h f tk) × ((v : ℕ) → g v ≡ true → kept.1.board.gone v ≡ true)

  abbrev pub LawfulOn : (gone : ℕ → Bool) → (Spot → Word) → (ℕ → RestartKind) → (ℕ → ℕ) → List Standing → (ℕ → Home) → (forked taken : List ℕ) → Type 0
  LawfulOn g n l c stand h f tk = (law : Lawful s n l c stand h f tk) × ((v : ℕ) → g v ≡ true → law.board.gone v ≡ true)

  pub becoming : (words : List ℕ) (stand : List Standing) (h : ℕ → Home) (f tk : List ℕ) (n : Spot → Word) (l : ℕ → RestartKind) (c : ℕ → ℕ) (g : ℕ → Bool)
      → view s words ≡ n → kinds s words ≡ l → bottoms s words ≡ c → AreWordsOf s words → LawfulOn g n l c stand h f tk → KeepsOn g words stand h f tk
  becoming words stand h f tk n l c g en el ec fit law =
      let all : LawfulOn g (view s words) (kinds s words) (bottoms s words) stand h f tk =
      subst (λ (x : Spot → Word). LawfulOn g x (kinds s words) (bottoms s words) stand h f tk) (sym en)
      (subst (λ (x : ℕ → RestartKind). LawfulOn g n x (bottoms s words) stand h f tk) (sym el)
      (subst (λ (x : ℕ → ℕ). LawfulOn g n l x stand h f tk) (sym ec) law)) in
      ((fit, all.0), all.1)

  -- and with entries as they were, or lawfully changed
  abbrev pub MayGo : Spot → (old new : Word) → Type 0
  MayGo (Slot v i) old new = Changes s.takeover old new
  MayGo _ old new = Unit {0}

  abbrev pub Fair : (m n : Spot → Word) → Type 0
  Fair m n = (v i : ℕ) → (n (Slot v i) ≡ m (Slot v i)) ⊎ Changes s.takeover (m (Slot v i)) (n (Slot v i))

  abbrev pub Goes : (gone : ℕ → Bool) → (before words : List ℕ) → List Standing → (ℕ → Home) → (forked taken : List ℕ) → Type 0
  Goes g before words stand h f tk = KeepsOn g words stand h f tk × Fair (view s before) (view s words)

  fair_same : (m n : Spot → Word) → n ≡ m → Fair m n
  fair_same m n e = λ v i. inl (ap (λ (x : Spot → Word). x (Slot v i)) e)

  fair_write : (m n : Spot → Word) (d : Spot) (w : Word) → n ≡ write m d w → MayGo d (m d) w → Fair m n
  fair_write m n d w e may = λ v i. elim (same_spot_or (Slot v i) d) [
    | inl same ↦ inr (subst₂ (λ (x y : Word). Changes s.takeover x y) refl (sym (ap (λ (x : Spot → Word). x (Slot v i)) e ∙ ap (write m d w) same ∙ write_here m d w))
        (subst (λ (x : Word). Changes s.takeover x w) (ap m (sym same)) (subst (λ (x : Spot). MayGo x (m d) w) (sym same) may)))
    | inr ne ↦ inl (ap (λ (x : Spot → Word). x (Slot v i)) e ∙ write_else m d w (Slot v i) ne)
  ]

  quiet_apart : (d : Spot) (c : Cell) → is_shown s d ≡ true → IsQuietCell c → cell_of d ≢ c
  quiet_apart Other c shown q e = absurd (cc)
  quiet_apart (RestartSpot x) c shown q e = absurd (cc)
  quiet_apart (Message p) c shown q e = subst IsQuietCell (sym e) q
  quiet_apart (Bid p) c shown q e = subst IsQuietCell (sym e) q
  quiet_apart (Top p) c shown q e = subst IsQuietCell (sym e) q
  quiet_apart (Slot p i) c shown q e = subst IsQuietCell (sym e) q
  quiet_apart (Holder p) c shown q e = subst IsQuietCell (sym e) q
  quiet_apart (Carry p) c shown q e = subst IsQuietCell (sym e) q
  quiet_apart (Dead p) c shown q e = subst IsQuietCell (sym e) q

  restart_apart : (d : Spot) (p : ℕ) → is_shown s d ≡ true → cell_of d ≢ cells.RestartWord p
  restart_apart Other p shown e = absurd (cc)
  restart_apart (RestartSpot q) p shown e = absurd (cc)
  restart_apart _ p shown e = cc

  -- a spot that is shown is no place's restart
  pub as_words : (d : Spot) → is_shown s d ≡ true → (m : Spot → Word) (k : ℕ → RestartKind) (b : ℕ → ℕ) → with_restarts m k b d ≡ m d
  as_words (RestartSpot p) shown m k b = absurd (cc)
  as_words _ shown m k b = refl

  spot_apart : (d : Spot) (p : ℕ) → cells.RestartWord p ≢ cell_of d
  spot_apart Other p e = cc
  spot_apart _ p e = cc

  pub quiet_there : (c : Cell) → IsQuietCell c → is_there s c ≡ true → IsPooled s c → IsCell s c
  quiet_there cells.FinishWord q there kept = tt
  quiet_there (cells.RoomCounter a) q there kept = ltb-true a s.processors there
  quiet_there (cells.BlockWord a) q there kept = kept
  quiet_there (cells.ArrayWord a) q there kept = ltb-true a s.arrays there
  quiet_there _ q there kept = absurd q

  pub strand_plain : (K : RestartKind) → IsStrand K → IsPlainKind K × ((m : Spot → Word) (p q : ℕ) → Steals m p K q → ⊥)
  strand_plain (Run a c) is = (tt, λ m p q z. z)
  strand_plain (Bump a) is = (tt, λ m p q z. z)
  strand_plain (Unwind a) is = (tt, λ m p q z. z)
  strand_plain (Arrive a c) is = (tt, λ m p q z. z)
  strand_plain (Join a c) is = (tt, λ m p q z. z)
  strand_plain _ is = absurd is

  pub strand_aims : (m : Spot → Word) (p : ℕ) (K : RestartKind) → IsStrand K → Aims m K × Dooms m p K
  strand_aims m p (Run a c) is = (tt, tt)
  strand_aims m p (Bump a) is = (tt, tt)
  strand_aims m p (Unwind a) is = (tt, tt)
  strand_aims m p (Arrive a c) is = (tt, tt)
  strand_aims m p (Join a c) is = (tt, tt)
  strand_aims m p _ is = absurd is

  strand_install : (p : ℕ) (K x : RestartKind) (h : ℕ → Home) → IsStrand K → by_install p K x h ≡ h
  strand_install p (Run a c) x h is = refl
  strand_install p (Bump a) x h is = refl
  strand_install p (Unwind a) x h is = refl
  strand_install p (Arrive a c) x h is = refl
  strand_install p (Join a c) x h is = refl
  strand_install p _ x h is = absurd is

  -- of no thief
  abbrev pub IsFree : RestartKind → Type 0
  IsFree (Steal x i) = ⊥
  IsFree (Check x i) = ⊥
  IsFree _ = Unit {0}

  pub free_thief : (K : RestartKind) (v i : ℕ) → IsFree K → IsThief K v i → ⊥
  free_thief K v i is (inl e) = subst IsFree e is
  free_thief K v i is (inr e) = subst IsFree e is

  pub strand_free : (K : RestartKind) → IsStrand K → IsFree K
  strand_free (Steal x i) is = absurd is
  strand_free (Check x i) is = absurd is
  strand_free _ is = tt

  pop_or : (x : RestartKind) → IsStrandOrPop x → (x ≡ Pop1) ⊎ IsStrand x
  pop_or Pop1 is = inl refl
  pop_or (Run a c) is = inr is
  pop_or (Bump a) is = inr is
  pop_or (Unwind a) is = inr is
  pop_or (Arrive a c) is = inr is
  pop_or (Join a c) is = inr is
  pop_or _ is = absurd is

  joined : (K : RestartKind) (x : Home) → IsJoining K → IsJoined K x → x ≡ Inline
  joined (Join a c) x is e = e
  joined _ x is e = absurd is

  pub unborn_or : (x : Home) → (x ≡ Unborn) ⊎ (x ≢ Unborn)
  unborn_or Unborn = inl refl
  unborn_or _ = inr (λ e. cc)

  absent_empty : (v i : ℕ) → 2 ≤ i → IsEmpty (absent (Slot v i))
  absent_empty v zero two = absurd (omega arith)
  absent_empty v (suc zero) two = absurd (omega arith)
  absent_empty v (suc (suc i)) two = tt

  -- above the last slot nothing is
  pub last_empty : (words : List ℕ) (v i : ℕ) → i ≡ s.slots → IsEmpty (view s words (Slot v i))
  last_empty words v i e =
      subst IsEmpty (sym (if_false (is_shown s (Slot v i)) _ _ (hidden (nat_lt v s.processors)))) (absent_empty v i (omega (arith, e, s.within.slots_least)))
    where
      hidden : (x : Bool) → (x && nat_lt i s.slots) ≡ false
      hidden true = le-ltb i s.slots (omega (arith, e))
      hidden false = refl

  pub both_true : (x y : Bool) → (x && y) ≡ true → (x ≡ true) × (y ≡ true)
  both_true true y e = (refl, e)
  both_true false y e = absurd (cc)

  pub both_are : (x y : Bool) → x ≡ true → y ≡ true → (x && y) ≡ true
  both_are true y ex ey = ey
  both_are false y ex ey = absurd (cc)

  bid_there : (K : RestartKind) → kind_is_there s K ≡ true → IsBidThere s K
  bid_there (Take v d) is = ltb-true v s.processors (both_true (nat_lt v s.processors) (nat_lt d s.processors) is).0
  bid_there _ is = tt

  pub length_set : (words : List ℕ) (at w : ℕ) → AreWordsOf s words → AreWordsOf s (slice_set words at w)
  length_set words at w fit = length_stays words (Stores at w) ∙ fit

  -- the words of a machine, what holds of them, and a processor that takes a step
  module _ (words : List ℕ) (stand : List Standing) (h : ℕ → Home) (f tk : List ℕ) (fit : AreWordsOf s words) where
    abbrev m : Spot → Word
    m = view s words

    abbrev k : ℕ → RestartKind
    k = kinds s words

    abbrev b : ℕ → ℕ
    b = bottoms s words

    module _ (law : Lawful s m k b stand h f tk) (o : ℕ) (live : stand_in (slice_get stand o) ≢ IsDone) where
      -- the words with what places are at
      abbrev pub M : Spot → Word
      M = with_restarts m k b

      -- own state is new, the others' stay
      pub sees_all : (n : Spot → Word) (l : ℕ → RestartKind) (c : ℕ → ℕ) (x : Standing) → Stills s.takeover m n k l b c
          → ((d q : ℕ) → d ≢ o → Lives s m d → m (Carry d) ≡ Number q → ((y : Spot) → May d q y (m y) (n y)) × (l q ≡ k q) × (c q ≡ b q)) → Sees s n l c o x
          → (d : ℕ) → Sees s n l c d (stand_in (slice_get (slice_set stand o x) d))
      sees_all n l c x still g own d = elim (cases_eq d o) [
        | inl e ↦ subst (λ (y : ℕ). Sees s n l c y (stand_in (slice_get (slice_set stand o x) y))) (sym e) (subst (Sees s n l c o) (sym (stand_own stand o x live)) own)
        | inr ne ↦ subst (Sees s n l c d) (sym (stand_other stand o d x ne)) (others_keep m n d k l b c still (stand_in (slice_get stand d)) (λ q. g d q ne) (law.holding.carried d) (law.sees d))
      ]

      -- no word changes
      pub waiting : (x : Standing) → Sees s m k b o x → Goes law.board.gone words words (slice_set stand o x) h f tk
      waiting x own = (
        (
          (
            fit,
            record {
              board = law.board;
              order = law.order;
              holding = law.holding;
              rooted = law.rooted;
              bids = law.bids;
              counts = law.counts;
              sees = sees_all m k b x (still_same s.takeover m k b) (λ d q ne alive at. ((λ c. may_same d q c (m c)), refl, refl)) own;
            },
          ),
          λ v y. y,
        ),
        λ v i. inl refl,
      )

      -- one that no spot shows
      pub quieting : (c : Cell) (raw : ℕ) → IsQuietCell c → IsCell s c → (x : Standing) → Sees s m k b o x → Goes law.board.gone words (store s words c raw) (slice_set stand o x) h f tk
      quieting c raw quiet is x own =
          let r = restarts_kept s words c raw is (λ q e. subst IsQuietCell (sym e) quiet) in
          let kept = view_kept s words c raw is (λ d shown. quiet_apart d c shown quiet) in (
            becoming (store s words c raw) (slice_set stand o x) h f tk m k b law.board.gone kept
                (λ i q. (r i q).kind) (λ i q. (r i q).bottom) (length_set words (address s c) raw fit) ((waiting x own).0.0.1, (waiting x own).0.1),
            fair_same m (view s (store s words c raw)) kept,
          )

      -- that of a spot
      pub writing : (d : Spot) (raw : ℕ) (w : Word) → is_shown s d ≡ true → IsLone s d → word_as (content_of (reading_of d) raw) ≡ w → MayGo d (m d) w → (h' : ℕ → Home) (f' tk' : List ℕ)
          → After law.board.gone (Closed s.takeover (write m d w)) (write m d w) k b h' → Order (write m d w) k → Holding (write m d w) k → Rooted s.takeover (write m d w) → Counts h' f' tk'
          → Stills s.takeover m (write m d w) k k b b
          → ((x q : ℕ) → x ≢ o → Lives s m x → m (Carry x) ≡ Number q → May x q d (m d) w) → (x : Standing) → Sees s (write m d w) k b o x
          → Goes law.board.gone words (store s words (cell_of d) raw) (slice_set stand o x) h' f' tk'
      writing d raw w shown lone is may h' f' tk' bo or ho ro co still g x own =
          let r = restarts_kept s words (cell_of d) raw (shown_cell s d shown) (spot_apart d) in
          let now = view_written s words d raw fit shown lone ∙ ap (write m d) is in (
            becoming (store s words (cell_of d) raw) (slice_set stand o x) h' f' tk' (write m d w) k b law.board.gone now
                (λ i q. (r i q).kind) (λ i q. (r i q).bottom) (length_set words (address s (cell_of d)) raw fit) (
                  record {
                    board = bo.0;
                    order = or;
                    holding = ho;
                    rooted = ro;
                    bids = law.bids;
                    counts = co;
                    sees = sees_all (write m d w) k b x still (λ y q ne alive at. (grows_each y q m d w (g y q ne alive at), refl, refl)) own;
                  },
                  bo.1,
                ),
            fair_write m (view s (store s words (cell_of d) raw)) d w now may,
          )

      module _ (p : ℕ) (carried : Carried s m o p) where
        -- a place has one living processor
        pub apart : (d q : ℕ) → d ≢ o → Lives s m d → m (Carry d) ≡ Number q → q ≢ p
        apart d q ne lives at same =
            let a = law.holding.held d q lives.alive at in
            let c = law.holding.held o p carried.lives.alive carried.carry in
            ne (one (m (Holder q)) d o a (subst (λ (x : ℕ). Names (m (Holder x)) o) (sym same) c))
          where
            one : (w : Word) (c d : ℕ) → Names w c → Names w d → c ≡ d
            one (Held t x) c d a b = sym a ∙ b
            one _ c d a b = absurd a

        pub open_ : Closed s.takeover m p → ⊥
        open_ = shut_not s.takeover m o p carried.home carried.lives.alive

        pub mine : law.board.gone p ≡ false
        mine = here law.board p open_

        -- of an own entry and of what is no job of a place
        pub own_is : (i : ℕ) → law.board.ghost (Slot p i) ≡ m (Slot p i)
        own_is i = own law.board p i open_

        -- the restart word
        pub installing : {g : ℕ → Bool} (r : Restart) → restart_is_there s r ≡ true → Aims m r.kind → Dooms m p r.kind → (h' : ℕ → Home) (f' tk' : List ℕ)
            → After g (Closed s.takeover m) m (put k p r.kind) (put b p r.bottom) h' → Counts h' f' tk'
            → Goes g words (store s words (cells.RestartWord p) (restart_word r)) (slice_set stand o (IsAt p (Some r))) h' f' tk'
        installing {g} r there aim doom h' f' tk' board co =
            let ok : IsRestart r = restart_fits s (few_words s) r there in
            let kept = view_kept s words (cells.RestartWord p) (restart_word r) carried.place (λ d shown. restart_apart d p shown) in (
              becoming (store s words (cells.RestartWord p) (restart_word r)) (slice_set stand o (IsAt p (Some r))) h' f' tk' m (put k p r.kind) (put b p r.bottom) g
                  kept (kinds_put s words p r fit carried.place ok) (bottoms_put s words p r fit carried.place ok)
                  (length_set words (address s (cells.RestartWord p)) (restart_word r) fit) (
                    record {
                      board = board.0;
                      order = order_install law.order p r.kind aim;
                      holding = holding_install law.holding p r.kind doom;
                      rooted = law.rooted;
                      bids = λ q. elim (cases_eq q p) [
                        | inl e ↦ subst (IsBidThere s) (sym (ap (put k p r.kind) e ∙ put_here k p r.kind)) (bid_there r.kind (both_true (bottom_is_there s r.bottom) (kind_is_there s r.kind) there).1)
                        | inr ne ↦ subst (IsBidThere s) (sym (put_else k p r.kind q ne)) (law.bids q)
                      ];
                      counts = co;
                      sees = sees_all m (put k p r.kind) (put b p r.bottom) (IsAt p (Some r)) (still_install s.takeover m k b p r.kind r.bottom open_)
                          (λ d q ne lives at. let other = apart d q ne lives at in ((λ c. may_same d q c (m c)), put_else k p r.kind q other, put_else b p r.bottom q other))
                          (carried, record { kind = put_here k p r.kind; bottom = put_here b p r.bottom });
                    },
                    board.1,
                  ),
              fair_same m (view s (store s words (cells.RestartWord p) (restart_word r))) kept,
            )

        -- an own entry, and the own restart word
        pub own_wrote : (i : ℕ) (w : Word) {h' : ℕ → Home} → (IsClaim w → ⊥) → Board (write law.board.ghost (Slot p i) w) k b law.board.gone h' → After law.board.gone (Closed s.takeover m) (write m (Slot p i) w) k b h'
        own_wrote i w nor board = wrote law.board p i w (as_open (law.board.covers.slots p i) open_).1 nor (inl open_) board

        pub own_goes : (new : RestartKind) (low : ℕ) {h' : ℕ → Home} → IsFree new → Board law.board.ghost (put k p new) (put b p low) law.board.gone h' → After law.board.gone (Closed s.takeover m) m (put k p new) (put b p low) h'
        own_goes new low is board = installed law.board p new low open_ (λ v i t th. absurd (free_thief new v i is th)) (λ v i t x th. absurd (free_thief new v i is th)) board

        -- the seat of a kind
        module _ (K : RestartKind) (e : k p ≡ K) where
          abbrev pub restart : Restart
          restart = record { kind = K; bottom = b p }

          abbrev pub seat : Seat
          seat = record { own = o; place = p; restart = restart }

          module _ (there_at : restart_is_there s restart ≡ true) where
            pub sits : Sits s m k b o seat
            sits = record { own = refl; carried = carried; at = record { kind = e; bottom = refl }; there = there_at }

            -- what a step of a row is to keep, where the turn names the victim u
            module _ (u : ℕ) (names : u < s.processors) where
              abbrev pub GoalBy : (gone : ℕ → Bool) → Row → Type 0
              GoalBy g row = row_is_there s seat row ≡ true → IsOrderlyRow s words seat row h f
                  → Goes g words (words_after words (wanted_row s seat u row)) (slice_set stand o (went_row s code seat u (found_in words (wanted_row s seat u row)) row))
                  (by_row s words seat row h) (fork_row row ++ f) (take_row row ++ tk)

              abbrev pub Goal : Row → Type 0
              Goal row = GoalBy law.board.gone row

              pub not_there : {A : Type 0} → false ≡ true → A
              not_there e = absurd (cc)

              -- a row R, or what is left of one, seen as far as these words
              module _ (v : ℕ) (before : (Spot → Word) → Type 0) (R : Row)
                  (lift : (n : Spot → Word) (ws : List Word) (row : Row) → AreFit ws → rest_of s seat v R ws ≡ row → Saw s seat v n (before n) R ws → HasSeen s n seat row)
                  (ws : List Word) (af : AreFit ws) (saw : Saw s seat v M (before M) R ws) where
                -- a load
                pub loads : (point : Point) → rest_of s seat v R ws ≡ Now (Load point) → (w : Word)
                    → content_by w ≡ content_of (reading_at point) (read s words (cell_at seat u point)) → IsContent (content_by w)
                    → Knows s.takeover seat v M point w → ((x : Content) → found_at s seat u point x ≡ found_at s seat v point x) → Goal (Now (Load point))
                loads point er w is fits may same there orderly =
                    let found : Content = content_of (reading_at point) (read s words (cell_at seat u point)) in
                    waiting (stands s code seat (found_at s seat u point found)) (settled m k b o seat sits (found_at s seat u point found)
                    (subst (HasSeen s (with_restarts m k b) seat) (sym (same found ∙ ap (found_at s seat v point) (sym is)))
                    (lift M (ws ++ w ∷ []) (found_at s seat v point (content_by w)) (fit_more ws w af fits) (load_rest s seat v R ws point w er)
                    (load_seen s seat v M (before M) R ws point w er may saw))))

                -- of a spot
                pub looks : (point : Point) → rest_of s seat v R ws ≡ Now (Load point) → (d : Spot) → spot_at seat v point ≡ d → cell_of d ≡ cell_at seat u point → reading_of d ≡ reading_at point
                    → (row_is_there s seat (Now (Load point)) ≡ true → is_shown s d ≡ true) → ((x : Content) → found_at s seat u point x ≡ found_at s seat v point x)
                    → (May o p (spot_at seat v point) (m d) (M (spot_at seat v point)) → Knows s.takeover seat v M point (m d)) → Goal (Now (Load point))
                looks point er d ed ec rd shown same known there orderly =
                    loads point er (m d) (shows_content s words d (shown there) ∙ (λ i. content_of (rd i) (read s words (ec i)))) (shows_fit s words d (shown there))
                    (known (subst (λ (x : Spot). May o p x (m d) (M x)) (sym ed) (subst (May o p d (m d)) (sym (as_words d (shown there) m k b)) (may_same o p d (m d))))) same there orderly

                -- of where the right frame of a block is
                pub offset : (block low : ℕ) → rest_of s seat v R ws ≡ Now (Load (Offset block low)) → Goal (Now (Load (Offset block low)))
                offset block low er = loads (Offset block low) er (Number (read s words (cells.BlockWord (block + 4)))) refl tt tt (λ x. refl)

                -- an exchange
                pub making : (c : Cell) (old new : Content) (next : Then) → rest_of s seat v R ws ≡ Exchange c old new next
                    → cell_of (spot (reading_by new) c) ≡ c → reading_of (spot (reading_by new) c) ≡ reading_by old → reading_of (spot (reading_by new) c) ≡ reading_by new
                    → (is_there s c ≡ true → is_shown s (spot (reading_by new) c) ≡ true) → IsLone s (spot (reading_by new) c) → IsPlain old → IsPlain new → IsContent old → IsContent new
                    → MayGo (spot (reading_by new) c) (word_as old) (word_as new)
                    → ((x : ℕ) → Dead x ≢ spot (reading_by new) c) → ((x : ℕ) → Carry x ≢ spot (reading_by new) c)
                    → (m (spot (reading_by new) c) ≡ word_as old →
                    After law.board.gone (Closed s.takeover m) (write m (spot (reading_by new) c) (word_as new)) k b (by_words p (spot (reading_by new) c) (word_as old) (word_as new) h)
                    × Order (write m (spot (reading_by new) c) (word_as new)) k × Holding (write m (spot (reading_by new) c) (word_as new)) k
                    × Counts (by_words p (spot (reading_by new) c) (word_as old) (word_as new) h) f tk
                    × ((x q : ℕ) → x ≢ o → q ≢ p → Lives s m x → m (Carry x) ≡ Number q → May x q (spot (reading_by new) c) (word_as old) (word_as new)))
                    → Goal (Exchange c old new next)
                making c old new next er ec ro rn shown lone po pn fo fn may dead carry made there orderly = by (read s words c == word_of old) refl
                  where
                    found : m (spot (reading_by new) c) ≡ word_as (content_of (reading_by old) (read s words c))
                    found = shows s words (spot (reading_by new) c) (shown there) ∙ (λ i. word_as (content_of (ro i) (read s words (ec i))))

                    d : Spot
                    d = spot (reading_by new) c

                    n : Spot → Word
                    n = write m (spot (reading_by new) c) (word_as new)

                    N : Spot → Word
                    N = with_restarts (write m (spot (reading_by new) c) (word_as new)) k b

                    here_is : with_restarts (write m (spot (reading_by new) c) (word_as new)) k b (spot (reading_by new) c) ≡ word_as new
                    here_is = as_words (spot (reading_by new) c) (shown there) (write m (spot (reading_by new) c) (word_as new)) k b ∙ write_here m (spot (reading_by new) c) (word_as new)

                    was_is : with_restarts m k b (spot (reading_by new) c) ≡ m (spot (reading_by new) c)
                    was_is = as_words (spot (reading_by new) c) (shown there) m k b

                    no_message : (q : ℕ) → Message q ≢ spot (reading_by new) c
                    no_message q z =
                        let at : Bid q ≡ spot (reading_by new) c = lone (Bid q) (ap (is_shown s) z ∙ shown there) (ap cell_of z) in
                        let two : Bid q ≡ Message q = at ∙ sym z in cc

                    by : (x : Bool) → (read s words c == word_of old) ≡ x
                        → Goes law.board.gone words (if x then store s words c (word_of new) else words) (slice_set stand o (stands_then s code seat next))
                        (if x then by_words p (spot (reading_by new) c) (word_as old) (word_as new) h else h) f tk
                    by true q =
                        let same : (read s words c) ≡ word_of old = eqb-true (read s words c) (word_of old) q in
                        let is : m (spot (reading_by new) c) ≡ word_as old = found ∙ ap word_as (ap (content_of (reading_by old)) same ∙ again old po fo) in
                        let all = made is in
                        subst (λ (x : Cell). Goes law.board.gone words (store s words x (word_of new)) (slice_set stand o (stands_then s code seat next)) (by_words p (spot (reading_by new) c) (word_as old) (word_as new) h) f tk) ec
                        (writing (spot (reading_by new) c) (word_of new) (word_as new) (shown there) lone (ap word_as (ap (λ r. content_of r (word_of new)) rn ∙ again new pn fn)) (subst (λ (y : Word). MayGo (spot (reading_by new) c) y (word_as new)) (sym is) may) (by_words p (spot (reading_by new) c) (word_as old) (word_as new) h) f tk
                        (let shutter = closing all.0.0 (Closed s.takeover (write m (spot (reading_by new) c) (word_as new))) (closed_kept s.takeover m (spot (reading_by new) c) (word_as new) (λ x z. absurd (dead x z))) in
                        (shutter.0, λ v x. shutter.1 v (all.0.1 v x)))
                        all.1 all.2 (rooted_kept s.takeover m (spot (reading_by new) c) (word_as new) carry law.rooted) all.3
                        (still_write s.takeover m k b (spot (reading_by new) c) (word_as new) (λ x shut. no_message x) (λ x z. absurd (dead x z)))
                        (λ x q ne lives at. subst (λ (y : Word). May x q (spot (reading_by new) c) y (word_as new)) (sym is) (all.4 x q ne (apart x q ne lives at) lives at)) (stands_then s code seat next)
                        (settled (write m (spot (reading_by new) c) (word_as new)) k b o seat record {
                          own = refl;
                          carried = record {
                            lives = record { alive = λ z. carried.lives.alive (subst IsDead (write_else m (spot (reading_by new) c) (word_as new) (Dead o) (dead o)) z); there = carried.lives.there };
                            carry = write_else m (spot (reading_by new) c) (word_as new) (Carry o) (carry o) ∙ carried.carry;
                            place = carried.place;
                            home = carried.home;
                          };
                          at = record { kind = e; bottom = refl };
                          there = there_at;
                        } (Now next) (lift N (ws ++ N (spot (reading_by new) c) ∷ []) (Now next) (fit_more ws (N (spot (reading_by new) c)) af (subst IsContent (sym (ap content_by here_is ∙ back_plain new pn)) fn))
                        (exchange_rest s seat v R ws c old new (N (spot (reading_by new) c)) next er) (exchange_made s seat v M N (before M) (before N) R ws c old new next er here_is saw))))
                    by false q =
                        let ne : m (spot (reading_by new) c) ≢ word_as old = λ z. true≢false (sym (eq-eqb (read s words c) (word_of old) (packed_as old (read s words c) po (sym found ∙ z))) ∙ q) in
                        waiting (stands_then s code seat next) (settled m k b o seat sits (Now next) (lift M (ws ++ M (spot (reading_by new) c) ∷ []) (Now next) (fit_more ws (M (spot (reading_by new) c)) af (subst (λ (y : Word). IsContent (content_by y)) (sym was_is) (shows_fit s words (spot (reading_by new) c) (shown there))))
                        (exchange_rest s seat v R ws c old new (M (spot (reading_by new) c)) next er) (exchange_missed s seat v M (before M) R ws c old new next er (λ z. ne (sym was_is ∙ z)) saw)))

              -- an own row from its beginning
              pub lift_row : (v : ℕ) (n : Spot → Word) (ws : List Word) (row : Row) → AreFit ws → rest_of s seat v (row_of s seat K) ws ≡ row → Saw s seat v n (Unit {0}) (row_of s seat K) ws → HasSeen s n seat row
              lift_row v n ws row af er saw = Looks v ws af er saw

              -- rows of strands
              quiet_exchange : (c : Cell) (old new : Content) (next : Then) → IsStrand K → IsQuiet seat (Exchange c old new next) → Goal (Exchange c old new next)
              quiet_exchange c old new next strand q there kept = by (read s words c == word_of old)
                where
                  home : by_words p (spot (reading_by new) c) (word_as old) (word_as new) h ≡ h
                  home = ap (λ (x : Spot). by_words p x (word_as old) (word_as new) h) (spot_quiet (reading_by new) c q.0)

                  own : Sees s m k b o (stands_then s code seat next)
                  own = settled m k b o seat sits (Now next) (Strand strand q.1)

                  by : (x : Bool) → Goes law.board.gone words (if x then store s words c (word_of new) else words) (slice_set stand o (stands_then s code seat next))
                      (if x then by_words p (spot (reading_by new) c) (word_as old) (word_as new) h else h) f tk
                  by true = subst (λ (x : ℕ → Home). Goes law.board.gone words (store s words c (word_of new)) (slice_set stand o (stands_then s code seat next)) x f tk) (sym home)
                      (quieting c (word_of new) q.0 (quiet_there c q.0 there kept) (stands_then s code seat next) own)
                  by false = waiting (stands_then s code seat next) own

              pub strand_goal : (row : Row) → IsStrand K → IsQuiet seat row → Goal row
              strand_goal (Now (Load point)) strand q there orderly =
                  let found : Content = content_of (reading_at point) (read s words (cell_at seat u point)) in
                  waiting (stands s code seat (found_at s seat u point found))
                  (settled m k b o seat sits (found_at s seat u point found) (Strand strand (found_quiet seat s u point found q)))
              strand_goal (Now (Install r)) strand q there orderly =
                  let plain = strand_plain K strand in
                  subst (λ (x : ℕ → Home). Goes law.board.gone words (store s words (cells.RestartWord p) (restart_word r)) (slice_set stand o (IsAt p (Some r))) x f tk) (sym (strand_install p K r.kind h strand))
                  (elim (pop_or r.kind q.0) [
                    | inl pop ↦ installing r there (subst (Aims m) (sym pop) tt) (subst (Dooms m p) (sym pop) tt) h f tk
                        (subst₂ (λ (x : RestartKind) (y : ℕ). After law.board.gone (Closed s.takeover m) m (put k p x) (put b p y) h) (sym pop) (sym q.1) (own_goes Pop1 (b p) tt (pop_begins law.board.board p K e plain.0 (plain.1 law.board.ghost p)))) law.counts
                    | inr on ↦
                        let next = strand_plain r.kind on in
                        let aims = strand_aims m p r.kind on in
                        installing r there aims.0 aims.1 h f tk
                        (subst (λ (y : ℕ). After law.board.gone (Closed s.takeover m) m (put k p r.kind) (put b p y) h) (sym q.1)
                        (own_goes r.kind (b p) (strand_free r.kind on) (plain_install law.board.board p K r.kind e plain.0 next.0 (λ x z. absurd (plain.1 law.board.ghost p x z)) (λ x z. absurd (next.1 law.board.ghost p x z))))) law.counts
                  ])
              strand_goal (Now (Fork block)) strand q there fresh =
                  let plain = strand_plain K strand in
                  let new : h block ≡ Unborn = elim (unborn_or (h block)) [ inl z ↦ z | inr ne ↦ absurd (true≢false (sym (law.counts.listed block ne) ∙ fresh)) ] in
                  installing (record { kind = Push1 block; bottom = b p }) there tt tt (put h block (Pushing p)) (block ∷ f) tk (own_goes (Push1 block) (b p) tt (fork law.board.board p block K mine e plain.0 (plain.1 law.board.ghost p) new))
                  (counts_fork h f tk block (Pushing p) law.counts new (λ z. cc) (λ z. cc))
              strand_goal (Now (Begin block frame low)) strand q there inline =
                  let plain = strand_plain K strand in
                  let was : h block ≡ Inline = joined K (h block) q.0 inline in
                  installing (record { kind = Run frame 0; bottom = low }) there tt tt (put h block Begun) f (block ∷ tk)
                  (subst (λ (y : ℕ). After law.board.gone (Closed s.takeover m) m (put k p (Run frame 0)) (put b p y) (put h block Begun)) (sym q.1) (own_goes (Run frame 0) (b p) tt (inline_begins law.board.board p block frame 0 K e plain.0 (plain.1 law.board.ghost p) was)))
                  (counts_take h f tk block law.counts (λ z. let x : Inline ≡ Unborn = sym was ∙ z in cc) (λ z. let x : Inline ≡ Begun = sym was ∙ z in cc))
              strand_goal (Now (Move place)) strand q there orderly = absurd q
              strand_goal (Now (Enter capsule)) strand q there orderly = not_there there
              strand_goal (Now Again) strand q there orderly = not_there there
              strand_goal (Now Broken) strand q there orderly = not_there there
              strand_goal (Store c x next) strand q there kept =
                  quieting c (word_of x) q.0 (quiet_there c q.0 there kept) (stands_then s code seat next) (settled m k b o seat sits (Now next) (Strand strand q.1))
              strand_goal (Exchange c old new next) strand q there kept = quiet_exchange c old new next strand q there kept

              -- an entry is raised, where its tag can rise
              pub raising : (v : ℕ) (before : (Spot → Word) → Type 0) (x i : ℕ) (old new : Entry) (next : Then)
                  → ((n : Spot → Word) (ws : List Word) (row : Row) → AreFit ws → rest_of s seat v (raised (cells.EntryWord x i) old new next (nat_lt (tag_of old + 1) (2 ^ 34))) ws ≡ row
                  → Saw s seat v n (before n) (raised (cells.EntryWord x i) old new next (nat_lt (tag_of old + 1) (2 ^ 34))) ws → HasSeen s n seat row)
                  → IsEntry old → (tag_of old + 1 < 2 ^ 34 → IsEntry new) → Changes s.takeover (word_as (AnEntry old)) (word_as (AnEntry new))
                  → (before M → m (Slot x i) ≡ word_as (AnEntry old) →
                  After law.board.gone (Closed s.takeover m) (write m (Slot x i) (word_as (AnEntry new))) k b (by_words p (Slot x i) (word_as (AnEntry old)) (word_as (AnEntry new)) h)
                  × Order (write m (Slot x i) (word_as (AnEntry new))) k
                  × Counts (by_words p (Slot x i) (word_as (AnEntry old)) (word_as (AnEntry new)) h) f tk
                  × ((d q : ℕ) → q ≢ p → Lives s m d → m (Carry d) ≡ Number q → May d q (Slot x i) (word_as (AnEntry old)) (word_as (AnEntry new))))
                  → ((w : Word) → ((n : Spot → Word) (ws : List Word) (row : Row) → AreFit ws → rest_of s seat v (Now next) ws ≡ row
                  → Saw s seat v n (((w ≡ word_as (AnEntry new)) ⊎ ((w ≢ word_as (AnEntry old)) × before n)) × May o p (Slot x i) w (n (Slot x i))) (Now next) ws → HasSeen s n seat row)
                  → (ws : List Word) → AreFit ws
                  → Saw s seat v M (((w ≡ word_as (AnEntry new)) ⊎ ((w ≢ word_as (AnEntry old)) × before M)) × May o p (Slot x i) w (m (Slot x i))) (Now next) ws
                  → Goal (rest_of s seat v (Now next) ws))
                  → (ws : List Word) → AreFit ws → Saw s seat v M (before M) (raised (cells.EntryWord x i) old new next (nat_lt (tag_of old + 1) (2 ^ 34))) ws
                  → Goal (rest_of s seat v (raised (cells.EntryWord x i) old new next (nat_lt (tag_of old + 1) (2 ^ 34))) ws)
              raising v before x i old new next lift fo fn may made done ws af saw = by (nat_lt (tag_of old + 1) (2 ^ 34)) refl ws af saw
                where
                  lift_by : (y : Bool) → nat_lt (tag_of old + 1) (2 ^ 34) ≡ y → (n : Spot → Word) (ws : List Word) (row : Row) → AreFit ws
                      → rest_of s seat v (raised (cells.EntryWord x i) old new next y) ws ≡ row → Saw s seat v n (before n) (raised (cells.EntryWord x i) old new next y) ws → HasSeen s n seat row
                  lift_by y is n ws row af er saw = lift n ws row af (ap (λ (z : Bool). rest_of s seat v (raised (cells.EntryWord x i) old new next z) ws) is ∙ er)
                      (subst (λ (z : Bool). Saw s seat v n (before n) (raised (cells.EntryWord x i) old new next z) ws) (sym is) saw)

                  by : (y : Bool) → nat_lt (tag_of old + 1) (2 ^ 34) ≡ y → (ws : List Word) → AreFit ws → Saw s seat v M (before M) (raised (cells.EntryWord x i) old new next y) ws
                      → Goal (rest_of s seat v (raised (cells.EntryWord x i) old new next y) ws)
                  by false is [] af saw = λ there orderly. not_there there
                  by false is (w ∷ ws) af saw = absurd saw
                  by true is [] af saw = making v before (Exchange (cells.EntryWord x i) (AnEntry old) (AnEntry new) next) (lift_by true is) [] tt saw
                      (cells.EntryWord x i) (AnEntry old) (AnEntry new) next refl refl refl refl (λ z. z) (lone_slot s x i) tt tt fo (fn (ltb-true (tag_of old + 1) (2 ^ 34) is)) may (λ y z. cc) (λ y z. cc)
                      (λ same. let a = made saw same in (a.0, a.1, holding_other law.holding (Slot x i) (word_as (AnEntry new)) (λ d z. cc) (λ d z. cc) (λ d z. cc) (λ q z. cc), a.2, λ d q ne other lives at. a.3 d q other lives at))
                  by true is (w ∷ ws) af saw = done w (λ n us row af2 er saw. lift_by true is n (w ∷ us) row (af.0, af2) er saw) ws af.1 saw

              -- a restart word is stored
              pub installs : (r : Restart) → Aims m r.kind → Dooms m p r.kind → After law.board.gone (Closed s.takeover m) m (put k p r.kind) (put b p r.bottom) (by_install p K r.kind h) → Counts (by_install p K r.kind h) f tk → Goal (Now (Install r))
              installs r aim doom board co there orderly = installing r there aim doom (by_install p K r.kind h) f tk board co

              pub only_end : (v : ℕ) {X : Type 0} (r : Restart) → (X → Goal (Now (Install r))) → (ws : List Word) → Saw s seat v M X (Now (Install r)) ws → Goal (rest_of s seat v (Now (Install r)) ws)
              only_end v r f [] saw = f saw
              only_end v r f (x ∷ ws) saw = absurd saw

              pub agains : Goal (Now Again)
              agains there orderly = not_there there

              pub ends : Goal (Now Broken)
              ends there orderly = not_there there

              -- the right branch of a block begins, once it is known where its frame is
              pub beginning : (v : ℕ) (before : (Spot → Word) → Type 0) (block low : ℕ)
                  → ((n : Spot → Word) (ws : List Word) (row : Row) → AreFit ws → rest_of s seat v (Now (Load (Offset block low))) ws ≡ row
                  → Saw s seat v n (before n) (Now (Load (Offset block low))) ws → HasSeen s n seat row)
                  → (before M → (frame : ℕ) → Goal (Now (Begin block frame low)))
                  → (ws : List Word) → AreFit ws → Saw s seat v M (before M) (Now (Load (Offset block low))) ws → Goal (rest_of s seat v (Now (Load (Offset block low))) ws)
              beginning v before block low lift fin [] af saw = offset v before (Now (Load (Offset block low))) lift [] tt saw block low refl
              beginning v before block low lift fin (Number d ∷ ws) af saw = by (nat_lt (block + d) (word_count s)) ws saw
                where
                  by : (y : Bool) → (ws : List Word) → Saw s seat v M (before M × Unit {0}) (if y then Now (Begin block (block + d) low) else Now Broken) ws
                      → Goal (rest_of s seat v (if y then Now (Begin block (block + d) low) else Now Broken) ws)
                  by true [] saw = fin saw.0 (block + d)
                  by true (x ∷ ws) saw = absurd saw
                  by false [] saw = ends
                  by false (x ∷ ws) saw = absurd saw
              beginning v before block low lift fin (_ ∷ []) af saw = ends
              beginning v before block low lift fin (_ ∷ x ∷ ws) af saw = absurd saw

        -- what others see of an exchange of an own entry
        pub own_seen : (i : ℕ) (old new : Word) → (IsTaken old → ⊥) → tag old < tag new → (IsTaken new → ⊥) → (d q : ℕ) → q ≢ p → Lives s m d → m (Carry d) ≡ Number q → May d q (Slot p i) old new
        own_seen i old new free rise nor d q ne lives at = inr record { free = free; rise = rise; other = λ t e. nor (subst IsTaken (sym e) tt); heir = λ t e. nor (subst IsTaken (sym e) tt); own = λ e. absurd (ne (sym e)) }

        -- an own entry that isn't taken is written by a word that isn't
        pub own_order : (i : ℕ) (old new : Word) → m (Slot p i) ≡ old → (IsTaken old → ⊥) → (IsTaken new → ⊥) → Order (write m (Slot p i) new) k
        own_order i old new is free nor = order_entry law.order p i new (subst (λ (x : Word). IsTaken x → ⊥) (sym is) free) (λ z. absurd (nor z))

        abbrev pub Row_ : (K : RestartKind) → k p ≡ K → Row
        Row_ K e = row_of s (seat K e) K

        -- that each step of a row of this place keeps what always holds
        abbrev pub RowsAre : Type 0
        RowsAre = (K : RestartKind) (e : k p ≡ K) (ta : restart_is_there s (restart K e) ≡ true) (u : ℕ) (nm : u < s.processors) (row : Row) → HasSeen s M (seat K e) row → Goal K e ta u nm row

        abbrev pub Stands : (K : RestartKind) → Type 0
        Stands K = (e : k p ≡ K) (ta : restart_is_there s (restart K e) ≡ true) (u : ℕ) (nm : u < s.processors) (v : ℕ) (ws : List Word) → AreFit ws
            → Saw s (seat K e) v M (Unit {0}) (Row_ K e) ws → Goal K e ta u nm (rest_of s (seat K e) v (Row_ K e) ws)

        pub fits_block : (K : RestartKind) (e : k p ≡ K) → restart_is_there s (restart K e) ≡ true → IsRestart (restart K e)
        fits_block K e ta = restart_fits s (few_words s) (restart K e) ta

-- and at each place, whatever the words
abbrev pub RowsKeep : Shape → CodeParts → Type 0
RowsKeep s code = (words : List ℕ) (stand : List Standing) (h : ℕ → Home) (f tk : List ℕ) (fit : AreWordsOf s words) (law : Lawful s (view s words) (kinds s words) (bottoms s words) stand h f tk) (o : ℕ)
    (live : stand_in (slice_get stand o) ≢ IsDone) (p : ℕ) (carried : Carried s (view s words) o p) → RowsAre s code words stand h f tk fit law o live p carried
