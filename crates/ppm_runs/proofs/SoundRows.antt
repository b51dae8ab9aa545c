-- Each load of a row of the deques or of the places leads to what is sound, but for those of a Check by entries: entries have their
-- shape, holders name processors, messages are noted, and branches that may be taken stand in the words.
use Rattle.std.proofs.Common.{◌≡◌, ◌⊎◌, ◌≤◌, ◌<◌, ℕ, zero, suc, ◌+◌, ◌==◌, Bool, true, false, if◌then◌else◌, List, Option, Some, None, inl, inr, refl, sym, ap, ◌∙◌, subst, arith}
use Rattle.std.specs.Prelude.{nat_lt, nat_le, ◌&&◌, ◌^◌, ◌-◌}
use Rattle.std.proofs.Math.Path.{fun_ext}
use Rattle.std.proofs.lemmas.Bool.{cases_eq, cases_lt, ltb-true, leb-true, eqb-true, eqb-false, lt-ltb, le-leb}
use Rattle.ppm_cells.specs.Cells.{word_count}
use Rattle.ppm_cells.specs.Entry.{IsEntry}
use Rattle.ppm_cells.specs.Holder.{IsHolder}
use Rattle.ppm_cells.specs.Memory.{read}
use Rattle.ppm_cells.specs.Restart.{restart_of}
use Rattle.ppm_cells.specs.declared.restart.Restart.{Restart}
use Rattle.ppm_cells.specs.declared.cell.Cell.TheVariants as cells
use Rattle.ppm_cells.specs.declared.entry.Entry.{Entry}
use Rattle.ppm_cells.specs.declared.entry.Entry.TheVariants as entries
use Rattle.ppm_cells.specs.declared.holder.Holder.{Holder as AHold}
use Rattle.ppm_cells.specs.declared.restart.RestartKind.{RestartKind}
use Rattle.ppm_cells.specs.declared.restart.RestartKind.TheVariants.{Run, Push1, Push2, Pop1, Pop2, Seek, Steal, Check, Take, Take2}
use Rattle.ppm_cells.specs.declared.restart.RestartKind.TheVariants as kinds_are
use Rattle.ppm_cells.specs.declared.shape.Shape.{Shape}
use Rattle.ppm_cells.specs.declared.shape.Takeover.{Takeover}
use Rattle.ppm_cells.specs.declared.shape.Takeover.TheVariants.{ByPlaces, ByEntries}
use Rattle.ppm_cells.proofs.CellLemmas.{few_words}
use Rattle.ppm_code.specs.declared.code.CodeParts.{CodeParts}
use Rattle.ppm_cells.specs.DequeChange.{tag_of}
use Rattle.ppm_cells.specs.JoinOrder.{both}
use Rattle.ppm_step.specs.Contents.{content_of, IsContent}
use Rattle.ppm_step.specs.Points.{cell_at, reading_at, offset_word}
use Rattle.ppm_step.specs.Rows.{on_entry, on_holder, raised, changed, with_kind, left_begins, get_back, got_back, empty_above, pushes, push_by_order, push_above, push_bottom, right_begins, seek_holder, seek_held, seek_by, seek_dead, seek_top, seek_entry, seek_closed, notes, passes, passes_by, local_by, bids, taken_so, steals, can_be_taken, taken_message, taken_entry, took, goes_on_with, makes_bid, lowered, bid_again, bid_holder, push_at, found_at, by_places, row_of}
use Rattle.ppm_step.specs.Standings.{Standing, point_is_there}
use Rattle.ppm_step.specs.State.{State as RunState, is_work}
use Rattle.ppm_step.specs.There.{is_there, kind_is_there, bottom_is_there, restart_is_there}
use Rattle.ppm_step.specs.declared.content.Content.{Content}
use Rattle.ppm_step.specs.declared.content.Content.TheVariants.{AnEntry}
use Rattle.ppm_step.specs.declared.content.Reading.TheVariants.{AsEntry, AsHolder}
use Rattle.ppm_step.specs.declared.row.Point.{Point}
use Rattle.ppm_step.specs.declared.row.Point.TheVariants.{PushOrder, PushAbove, PushBottom, Offset, PopBelow, PopAgain, PopAbove, SeekHolder, SeekDead, SeekTop, SeekEntry, SeekClosed, StealMessage, TakenMessage, TakenEntry, ClosedRestart, ClosedLink, ClosedBottom, BidMessage, BidAgain, BidHolder}
use Rattle.ppm_step.specs.declared.row.Row.{Row}
use Rattle.ppm_step.specs.declared.row.Row.TheVariants.{Now}
use Rattle.ppm_step.specs.declared.row.Seat.{Seat}
use Rattle.ppm_step.specs.declared.row.Then.{Then}
use Rattle.ppm_step.specs.declared.row.Then.TheVariants.{Load, Begin, Move, Again, Broken}
use Rattle.ppm_tickets.specs.Homes.{Home, Listed, Popping}
use Rattle.ppm_tickets.specs.Lawful.{IsEmpty, IsLocal, IsTaken, IsTicket, IsClaim, Gives, Pops, AtBottom, Deque, Closed, Estate, Dooms, tag}
use Rattle.ppm_tickets.specs.Renewal.{IsLawful}
use Rattle.ppm_tickets.specs.Saw.{Carried, Lawful}
use Rattle.ppm_tickets.specs.View.{word_as, content_by, reading_of, cell_of, view, kinds, bottoms, is_shown, absent, restart_or, seeking, restart_at}
use Rattle.ppm_tickets.specs.Words.{Word, Empty, Local, Job, Taken, Held, Number, Linked, Restarts, Unread, Spot, Message, Bid, Top, Slot, Holder, Dead}
use Rattle.ppm_tickets.proofs.EstateLemmas.{as_shown, own as own_entry, here as open_place, plain}
use Rattle.ppm_tickets.proofs.StepLemmas.{shut_not}
use Rattle.ppm_tickets.proofs.ViewLemmas.{if_true, if_false, shows, shows_content, shows_fit}
use Rattle.ppm_kept.specs.Branches.{is_taker}
use Rattle.ppm_kept.specs.Fates.{Offered}
use Rattle.ppm_runs.specs.Run.{fate_of}
use Rattle.ppm_runs.specs.Sound.{IsHeld, LocalRises, IsRising, IsRisingEntry, IsTakenEntry, TakesPlaces, KnownByPlaces, Noted, IsLoadOf, GoesWell, IsNoted, IsSoundRow, IsHolderSound, IsTopLow, IsTagLow, IsRestartThere, IsSound, one_dead, deads}

pub and_is : (a b : Bool) → a ≡ true → b ≡ true → (a && b) ≡ true
and_is true b e f = f
and_is false b e f = absurd (cc)

pub and_left : (a b : Bool) → (a && b) ≡ true → a ≡ true
and_left true b e = refl
and_left false b e = absurd (cc)

pub and_right : (a b : Bool) → (a && b) ≡ true → b ≡ true
and_right true b e = e
and_right false b e = absurd (cc)

-- a word that is an entry's
abbrev IsEntryWord : Word → Type 0
IsEntryWord (Empty t) = Unit {0}
IsEntryWord (Local t x) = Unit {0}
IsEntryWord (Job t x) = Unit {0}
IsEntryWord (Taken t x) = Unit {0}
IsEntryWord _ = ⊥

empty_word : (w : Word) → IsEmpty w → IsEntryWord w
empty_word (Empty t) a = tt
empty_word _ a = absurd a

local_word : (w : Word) → IsLocal w → IsEntryWord w
local_word (Local t x) a = tt
local_word _ a = absurd a

ticket_word : (w : Word) → IsTicket w → IsEntryWord w
ticket_word (Job t x) a = tt
ticket_word (Taken t x) a = tt
ticket_word (Empty t) a = elim a [ inl z ↦ absurd z | inr z ↦ absurd z ]
ticket_word (Local t x) a = elim a [ inl z ↦ absurd z | inr z ↦ absurd z ]
ticket_word (Held t x) a = elim a [ inl z ↦ absurd z | inr z ↦ absurd z ]
ticket_word (Number x) a = elim a [ inl z ↦ absurd z | inr z ↦ absurd z ]
ticket_word (Linked x) a = elim a [ inl z ↦ absurd z | inr z ↦ absurd z ]
ticket_word (Restarts x y) a = elim a [ inl z ↦ absurd z | inr z ↦ absurd z ]
ticket_word Unread a = elim a [ inl z ↦ absurd z | inr z ↦ absurd z ]

taken_word : (w : Word) → IsTaken w → IsEntryWord w
taken_word (Taken t x) a = tt
taken_word _ a = absurd a

gives_word : (w : Word) (r : ℕ) → Gives w r → IsEntryWord w
gives_word (Local t x) r a = tt
gives_word _ r a = absurd a

-- the words at a bottom are entries
abbrev AreEntries : Word → Word → Word → Type 0
AreEntries d w u = IsEntryWord d × IsEntryWord w × IsEntryWord u

plain_entries : (d w u : Word) → IsTicket d × IsLocal w × IsEmpty u → AreEntries d w u
plain_entries d w u a = (ticket_word d a.0, local_word w a.1, empty_word u a.2)

bottom_entries : (k : RestartKind) (d w u : Word) → AtBottom k d w u → AreEntries d w u
bottom_entries (Push1 r) d w u a = (ticket_word d a.0, local_word w a.1, elim a.2 [ inl z ↦ empty_word u z | inr z ↦ local_word u z ])
bottom_entries (Push2 r) d w u a = (ticket_word d a.0, elim a.1 [ inl z ↦ local_word w z | inr z ↦ ticket_word w z ], local_word u a.2)
bottom_entries Pop1 d w u a = (elim a.0 [ inl z ↦ local_word d z | inr z ↦ ticket_word d z ], local_word w a.1, empty_word u a.2)
bottom_entries (Pop2 r) d w u a = elim a.0 [
  | inl z ↦ (taken_word d z.0, local_word w z.1, empty_word u a.2)
  | inr z ↦ (gives_word d r z.0, elim z.1 [ inl y ↦ empty_word w y | inr y ↦ local_word w y ], empty_word u a.2)
]
bottom_entries (Run f y) d w u a = plain_entries d w u a
bottom_entries (kinds_are.Bump r) d w u a = plain_entries d w u a
bottom_entries (kinds_are.Unwind f) d w u a = plain_entries d w u a
bottom_entries (kinds_are.Arrive r x) d w u a = plain_entries d w u a
bottom_entries (kinds_are.Join r x) d w u a = plain_entries d w u a
bottom_entries Seek d w u a = plain_entries d w u a
bottom_entries (Steal v i) d w u a = plain_entries d w u a
bottom_entries (Check v i) d w u a = plain_entries d w u a
bottom_entries (Take v x) d w u a = plain_entries d w u a
bottom_entries (Take2 v) d w u a = plain_entries d w u a

deque_entry : (k : RestartKind) (b : ℕ) (e : ℕ → Word) → Deque k b e → (i : ℕ) → IsEntryWord (e i)
deque_entry k b e d i = elim (cases_lt (i + 1) b) [
  | inl lt ↦ ticket_word (e i) (d.below i lt)
  | inr ge ↦ let at_ = bottom_entries k (e (b - 1)) (e b) (e (b + 1)) d.here in elim (cases_eq (i + 1) b) [
    | inl is ↦ subst (λ (j : ℕ). IsEntryWord (e j)) {x = b - 1} {y = i} (omega (arith, is)) at_.0
    | inr ne ↦ elim (cases_eq i b) [
      | inl is ↦ subst (λ (j : ℕ). IsEntryWord (e j)) (sym is) at_.1
      | inr other ↦ elim (cases_eq i (b + 1)) [
        | inl is ↦ subst (λ (j : ℕ). IsEntryWord (e j)) (sym is) at_.2
        | inr more ↦ empty_word (e i) (d.above i (omega (arith, ge, ne, other, more)))
      ]
    ]
  ]
]

-- all taken ones lie below a place's bottom, or at it where it pushes
local_not_taken : (w : Word) → IsLocal w → IsTaken w → ⊥
local_not_taken (Local t x) a z = z
local_not_taken _ a z = a

empty_not_taken : (w : Word) → IsEmpty w → IsTaken w → ⊥
empty_not_taken (Empty t) a z = z
empty_not_taken _ a z = a

gives_not_taken : (w : Word) (r : ℕ) → Gives w r → IsTaken w → ⊥
gives_not_taken (Local t x) r a z = z
gives_not_taken _ r a z = a

-- where one takeover is looked at
pub by_how : (P : Takeover → Type 0) → P ByPlaces → P ByEntries → (how : Takeover) → P how
by_how P a b ByPlaces = a
by_how P a b ByEntries = b

pub is_taken : (w : Word) → IsClaim w → IsEntryWord w
is_taken (Taken t x) a = tt
is_taken _ a = absurd a

-- what is local rises by entries
pub local_rises : (how : Takeover) (t : ℕ) → how ≡ ByEntries → t + 1 < 2 ^ 34 → LocalRises how t
local_rises how t e lt = subst (λ (x : Takeover). LocalRises x t) (sym e) lt

pub rises_so : (how : Takeover) (t : ℕ) → LocalRises how t → (how ≡ ByEntries) × (t + 1 < 2 ^ 34)
rises_so ByPlaces t a = absurd a
rises_so ByEntries t a = (refl, a)

-- what rises may be taken
pub can_take : (s : Shape) (x : Entry) → IsRisingEntry s x → can_be_taken s.takeover x ≡ true
can_take s (entries.Job t x) a = by_how (λ (how : Takeover). can_be_taken how (entries.Job t x) ≡ true) refl refl s.takeover
can_take s (entries.Local t x) a = ap (λ (how : Takeover). can_be_taken how (entries.Local t x)) (rises_so s.takeover t a).0
can_take s (entries.Empty t) a = absurd a
can_take s (entries.Taken t x) a = absurd a

known : (how : Takeover) (A : Type 0) → A → KnownByPlaces how A
known ByPlaces A a = a
known ByEntries A a = tt

known_so : (how : Takeover) (A : Type 0) → how ≡ ByPlaces → KnownByPlaces how A → A
known_so ByPlaces A e a = a
known_so ByEntries A e a = absurd (cc)

module _ (s : Shape) (code : CodeParts) where
  -- what the frames show of blocks: those of a place that pushes, and that none has followed, and those of
  -- branches that may be taken, with their right frames
  pub record Blocks (words : List ℕ) (gone : ℕ → Bool) (h : ℕ → Home) : Type 0 where
    pub pushes : (p r : ℕ) → gone p ≡ false → (kinds s words p ≡ Push1 r) ⊎ (kinds s words p ≡ Push2 r) → r + 5 < word_count s
    pub offers : (r : ℕ) → fate_of (h r) ≡ Offered → (r + 4 < word_count s) × (r + read s words (offset_word r) < word_count s)

  -- the seat of a processor at a place of this kind
  abbrev pub seat_of : List ℕ → (o p : ℕ) → RestartKind → Seat
  seat_of words o p k = record { own = o; place = p; restart = record { kind = k; bottom = bottoms s words p } }

  abbrev pub SoundAt : List ℕ → (o p : ℕ) → RestartKind → Row → Type 0
  SoundAt words o p k row = IsSoundRow s code (view s words) (seat_of words o p k) row

  -- a processor at a place, which is at a kind, in words that are lawful and sound
  pub record Here (words : List ℕ) (standings : List Standing) (h : ℕ → Home) (f tk : List ℕ) (made o p : ℕ) (K : RestartKind) : Type 0 where
    pub law : Lawful s (view s words) (kinds s words) (bottoms s words) standings h f tk
    pub few : made + 1 < 2 ^ 34
    pub holders : (v : ℕ) → v < s.processors → IsHolderSound s (view s words) (view s words (Holder v))
    pub tags : (v i : ℕ) → IsTagLow made (view s words (Slot v i))
    pub noted : (p : ℕ) → Noted s (view s words) p (kinds s words p)
    pub tops : (v : ℕ) → v < s.processors → IsTopLow s.takeover s (read s words (cells.Top v))
    pub blocks : Blocks words law.board.gone h
    pub bottoms_there : (v : ℕ) → v < s.processors → bottom_is_there s (bottoms s words v) ≡ true
    pub place : p < s.processors
    pub kind : kinds s words p ≡ K
    pub there : restart_is_there s (record { kind = K; bottom = bottoms s words p }) ≡ true
    pub opened : Closed s.takeover (view s words) p → ⊥

  module _ {words : List ℕ} {standings : List Standing} {h : ℕ → Home} {f tk : List ℕ} {made o p : ℕ} {K : RestartKind} (a : Here words standings h f tk made o p K) where
    abbrev m : Spot → Word
    m = view s words

    abbrev B : ℕ
    B = bottoms s words p

    abbrev seat : Seat
    seat = seat_of words o p K

    abbrev Sound : Row → Type 0
    Sound row = SoundAt words o p K row

    abbrev estate : Estate (Closed s.takeover m) m (kinds s words) (bottoms s words) h
    estate = a.law.board

    -- each word of a slot is an entry
    pub entry_word : (v i : ℕ) → IsEntryWord (m (Slot v i))
    entry_word v i = elim (estate.covers.slots v i) [
      | inl z ↦ subst IsEntryWord z.0 (deque_entry (kinds s words v) (bottoms s words v) (λ j. estate.ghost (Slot v j)) (estate.board.deque v) i)
      | inr z ↦ is_taken (m (Slot v i)) z.claim
    ]

    own_slot : (i : ℕ) → estate.ghost (Slot p i) ≡ m (Slot p i)
    own_slot i = own_entry estate p i a.opened

    pub not_gone : estate.gone p ≡ false
    not_gone = open_place estate p a.opened

    own_deque : Deque K B (λ i. m (Slot p i))
    own_deque = subst (λ (k : RestartKind). Deque k B (λ i. m (Slot p i))) a.kind (subst (Deque (kinds s words p) B) (fun_ext own_slot) (estate.board.deque p))

    -- where branches are
    popped : (r : ℕ) → Pops K (m (Slot p (B - 1))) r → h r ≡ Popping p
    popped r is = estate.board.only (Popping p) r tt not_gone
        (subst (λ (w : Word). Pops (kinds s words p) w r) (sym (own_slot (B - 1))) (subst (λ (k : RestartKind). Pops k (m (Slot p (B - 1))) r) (sym a.kind) is))

    listed : (v i t r : ℕ) → m (Slot v i) ≡ Job t r → h r ≡ Listed v i t
    listed v i t r is = estate.board.only (Listed v i t) r tt tt (as_shown (estate.covers.slots v i) (λ c. subst IsClaim is c) ∙ is)

    pub bottom_ok : bottom_is_there s B ≡ true
    bottom_ok = and_left (bottom_is_there s B) (kind_is_there s K) a.there

    kind_ok : kind_is_there s K ≡ true
    kind_ok = and_right (bottom_is_there s B) (kind_is_there s K) a.there

    pub bottom_low : 1 ≤ B
    bottom_low = leb-true 1 B (and_left (nat_le 1 B) (nat_lt B s.slots) bottom_ok)

    pub bottom_high : B < s.slots
    bottom_high = ltb-true B s.slots (and_right (nat_le 1 B) (nat_lt B s.slots) bottom_ok)

    with_bottom : (x : ℕ) → 1 ≤ x → x < s.slots → bottom_is_there s x ≡ true
    with_bottom x low high = and_is (nat_le 1 x) (nat_lt x s.slots) (le-leb 1 x low) (lt-ltb x s.slots high)

    pub goes_to : (kind : RestartKind) → kind_is_there s kind ≡ true → GoesWell s code m seat (with_kind seat kind)
    goes_to kind ok = and_is (bottom_is_there s B) (kind_is_there s kind) bottom_ok ok

    pub seeks : Sound (Now (with_kind seat Seek))
    seeks = (goes_to Seek refl, tt)

    pub entry_there : (v i : ℕ) → v < s.processors → i < s.slots → is_there s (cells.EntryWord v i) ≡ true
    entry_there v i vl il = and_is (nat_lt v s.processors) (nat_lt i s.slots) (lt-ltb v s.processors vl) (lt-ltb i s.slots il)

    -- what a load of an entry finds
    pub by_slot : (v i : ℕ) → is_there s (cells.EntryWord v i) ≡ true → (go : Entry → Row) → ((x : Entry) → IsEntry x → m (Slot v i) ≡ word_as (AnEntry x) → Sound (go x))
        → Sound (on_entry (content_of AsEntry (read s words (cells.EntryWord v i))) go)
    by_slot v i shown go each = subst (λ (c : Content). Sound (on_entry c go)) (shows_content s words (Slot v i) shown)
        (by (m (Slot v i)) refl (entry_word v i) (shows_fit s words (Slot v i) shown))
      where
        by : (w : Word) → m (Slot v i) ≡ w → IsEntryWord w → IsContent (content_by w) → Sound (on_entry (content_by w) go)
        by (Empty t) is en fit = each (entries.Empty t) fit is
        by (Local t x) is en fit = each (entries.Local t x) fit is
        by (Job t x) is en fit = each (entries.Job t x) fit is
        by (Taken t x) is en fit = each (entries.Taken t x) fit is
        by (Held t x) is en fit = absurd en
        by (Number x) is en fit = absurd en
        by (Linked x) is en fit = absurd en
        by (Restarts x y) is en fit = absurd en
        by Unread is en fit = absurd en

    -- its tag can rise, but for one that was taken
    can_rise : (v i : ℕ) (x : Entry) → (IsTakenEntry x → ⊥) → m (Slot v i) ≡ word_as (AnEntry x) → tag_of x + 1 < 2 ^ 34
    can_rise v i (entries.Empty t) free is = let low : t ≤ made = subst (IsTagLow made) is (a.tags v i) in (let few = a.few in omega (arith, low, few))
    can_rise v i (entries.Local t x) free is = let low : t ≤ made = subst (IsTagLow made) is (a.tags v i) in (let few = a.few in omega (arith, low, few))
    can_rise v i (entries.Job t x) free is = let low : t ≤ made = subst (IsTagLow made) is (a.tags v i) in (let few = a.few in omega (arith, low, few))
    can_rise v i (entries.Taken t x) free is = absurd (free tt)

    raises : (v i : ℕ) (old new : Entry) (next : Then) → tag_of old + 1 < 2 ^ 34 → (IsTakenEntry old → ⊥) → is_there s (cells.EntryWord v i) ≡ true → IsEntry old → IsEntry new → tag_of new ≡ tag_of old + 1
        → (IsTakenEntry new ⊎ (is_work K ≡ true)) → GoesWell s code m seat next → IsNoted s code m seat next → Sound (raised (cells.EntryWord v i) old new next (nat_lt (tag_of old + 1) (2 ^ 34)))
    raises v i old new next lt free shown fit fits up how goes noted_ =
        subst (λ (b : Bool). Sound (raised (cells.EntryWord v i) old new next b)) (sym (lt-ltb (tag_of old + 1) (2 ^ 34) lt)) (shown, (up, free, fit, fits, how), goes, noted_)

    here : AtBottom K (m (Slot p (B - 1))) (m (Slot p B)) (m (Slot p (B + 1)))
    here = own_deque.here

    -- a slot with a local entry is there
    local_there : (v i : ℕ) → 2 ≤ i → IsLocal (m (Slot v i)) → is_there s (cells.EntryWord v i) ≡ true
    local_there v i two local = by (is_shown s (Slot v i)) refl
      where
        hidden : (i : ℕ) → 2 ≤ i → IsLocal (absent (Slot v i)) → ⊥
        hidden zero le a = omega (arith, le)
        hidden (suc zero) le a = omega (arith, le)
        hidden (suc (suc i)) le a = a

        by : (b : Bool) → is_shown s (Slot v i) ≡ b → is_there s (cells.EntryWord v i) ≡ true
        by true is = is
        by false is = absurd (hidden i two (subst IsLocal (if_false (is_shown s (Slot v i)) _ (absent (Slot v i)) is) local))

    -- what stands of a branch that may be taken
    pub offered : (r : ℕ) → fate_of (h r) ≡ Offered → (r + 4 < word_count s) × (r + read s words (offset_word r) < word_count s)
    offered r is = a.blocks.offers r is

    small : (x : ℕ) → x < word_count s → x < 2 ^ 28
    small x lt = let most = few_words s in omega (arith, lt, most)

    -- the load of the offset of a branch that may be taken
    pub begins : (r low : ℕ) → fate_of (h r) ≡ Offered → 1 ≤ low → low < s.slots → Sound (right_begins s r low (read s words (offset_word r)))
    begins r low is low_least low_most =
        let there : r + read s words (offset_word r) < word_count s = (offered r is).1 in
        subst (λ (b : Bool). Sound (if b then Now (Begin r (r + read s words (offset_word r)) low) else Now Broken)) (sym (lt-ltb (r + read s words (offset_word r)) (word_count s) there)) (
          and_is (bottom_is_there s low) (kind_is_there s (Run (r + read s words (offset_word r)) 0)) (with_bottom low low_least low_most)
              (and_is (nat_lt (r + read s words (offset_word r)) (word_count s)) (nat_lt 0 2) (lt-ltb (r + read s words (offset_word r)) (word_count s) there) refl),
          tt,
        )

  -- Push1: the entry above becomes local
  module _ {words : List ℕ} {standings : List Standing} {h : ℕ → Home} {f tk : List ℕ} {made o p r : ℕ} (a : Here words standings h f tk made o p (Push1 r)) where
    left_block : r + 5 < word_count s
    left_block = a.blocks.pushes p r (not_gone a) (inl a.kind)

    left_here : GoesWell s code (view s words) (seat_of words o p (Push1 r)) (left_begins r (bottoms s words p))
    left_here = and_is (bottom_is_there s (bottoms s words p)) (kind_is_there s (Run (r + 5) 0)) (bottom_ok a) (and_is (nat_lt (r + 5) (word_count s)) (nat_lt 0 2) (lt-ltb (r + 5) (word_count s) left_block) refl)

    above_goes : bottoms s words p + 1 < s.slots → SoundAt words o p (Push1 r) (Now (Load (PushAbove r)))
    above_goes lt = ((entry_there a p (bottoms s words p + 1) a.place lt, refl), tt)

    push1_order : bottoms s words p + 1 < s.slots → (n : ℕ) → SoundAt words o p (Push1 r) (push_by_order (seat_of words o p (Push1 r)) r n)
    push1_order lt n = by (n == both)
      where
        by : (b : Bool) → SoundAt words o p (Push1 r) (if b then Now (left_begins r (bottoms s words p)) else Now (Load (PushAbove r)))
        by true = (left_here, tt)
        by false = above_goes lt

    push1_begins : bottoms s words p + 1 < s.slots → (how : Takeover) → SoundAt words o p (Push1 r) (pushes (seat_of words o p (Push1 r)) r how)
    push1_begins lt ByPlaces = above_goes lt
    push1_begins lt ByEntries = ((lt-ltb (r + 1) (word_count s) (let b = left_block in omega (arith, b)), (refl, lt)), tt)

    push1_above : is_there s (cells.EntryWord p (bottoms s words p + 1)) ≡ true
        → SoundAt words o p (Push1 r) (on_entry (content_of AsEntry (read s words (cells.EntryWord p (bottoms s words p + 1)))) (push_above (seat_of words o p (Push1 r)) r))
    push1_above shown = by_slot a p (bottoms s words p + 1) shown (push_above (seat_of words o p (Push1 r)) r) by
      where
        goes : GoesWell s code (view s words) (seat_of words o p (Push1 r)) (with_kind (seat_of words o p (Push1 r)) (Push2 r))
        goes = goes_to a (Push2 r) (kind_ok a)

        by : (x : Entry) → IsEntry x → view s words (Slot p (bottoms s words p + 1)) ≡ word_as (AnEntry x) → SoundAt words o p (Push1 r) (push_above (seat_of words o p (Push1 r)) r x)
        by (entries.Empty t) fit is =
            let lt = can_rise a p (bottoms s words p + 1) (entries.Empty t) (λ z. z) is in
            raises a p (bottoms s words p + 1) (entries.Empty t) (entries.Local (t + 1) 0) (with_kind (seat_of words o p (Push1 r)) (Push2 r)) lt (λ z. z) shown fit (omega arith, (lt, (omega arith, tt))) refl (inr refl) goes tt
        by (entries.Local t x) fit is = (goes, tt)
        by (entries.Job t x) fit is = (goes, tt)
        by (entries.Taken t x) fit is = (goes, tt)

  -- Push2: the bottom becomes the job, and the left branch begins
  module _ {words : List ℕ} {standings : List Standing} {h : ℕ → Home} {f tk : List ℕ} {made o p r : ℕ} (a : Here words standings h f tk made o p (Push2 r)) where
    block_there : r + 5 < word_count s
    block_there = a.blocks.pushes p r (not_gone a) (inr a.kind)

    next_bottom : bottoms s words p + 1 < s.slots
    next_bottom =
        let low = bottom_low a in
        let shown = local_there a p (bottoms s words p + 1) (omega (arith, low)) (here a).2 in
        ltb-true (bottoms s words p + 1) s.slots (and_right (nat_lt p s.processors) (nat_lt (bottoms s words p + 1) s.slots) shown)

    left_goes : GoesWell s code (view s words) (seat_of words o p (Push2 r)) (left_begins r (bottoms s words p + 1))
    left_goes = and_is (bottom_is_there s (bottoms s words p + 1)) (kind_is_there s (Run (r + 5) 0)) (with_bottom a (bottoms s words p + 1) (omega arith) next_bottom)
        (and_is (nat_lt (r + 5) (word_count s)) (nat_lt 0 2) (lt-ltb (r + 5) (word_count s) block_there) refl)

    push2_bottom : SoundAt words o p (Push2 r) (on_entry (content_of AsEntry (read s words (cells.EntryWord p (bottoms s words p)))) (push_bottom (seat_of words o p (Push2 r)) r))
    push2_bottom = by_slot a p (bottoms s words p) shown (push_bottom (seat_of words o p (Push2 r)) r) by
      where
        shown : is_there s (cells.EntryWord p (bottoms s words p)) ≡ true
        shown = entry_there a p (bottoms s words p) a.place (bottom_high a)

        by : (x : Entry) → IsEntry x → view s words (Slot p (bottoms s words p)) ≡ word_as (AnEntry x) → SoundAt words o p (Push2 r) (push_bottom (seat_of words o p (Push2 r)) r x)
        by (entries.Local t x) fit is =
            let lt = can_rise a p (bottoms s words p) (entries.Local t x) (λ z. z) is in
            raises a p (bottoms s words p) (entries.Local t x) (entries.Job (t + 1) r) (left_begins r (bottoms s words p + 1)) lt (λ z. z) shown fit (small a r (let b = block_there in omega (arith, b)), (lt, (omega arith, tt))) refl (inr refl) left_goes tt
        by (entries.Empty t) fit is = (left_goes, tt)
        by (entries.Job t x) fit is = (left_goes, tt)
        by (entries.Taken t x) fit is = (left_goes, tt)

  -- Pop1: the job below the bottom is got back
  module _ {words : List ℕ} {standings : List Standing} {h : ℕ → Home} {f tk : List ℕ} {made o p : ℕ} (a : Here words standings h f tk made o p Pop1) where
    below_there : is_there s (cells.EntryWord p (bottoms s words p - 1)) ≡ true
    below_there = entry_there a p (bottoms s words p - 1) a.place (let high = bottom_high a in omega (arith, high))

    popped_to : (x : ℕ) → fate_of (h x) ≡ Offered → GoesWell s code (view s words) (seat_of words o p Pop1) (with_kind (seat_of words o p Pop1) (Pop2 x))
    popped_to x is = goes_to a (Pop2 x) (lt-ltb x (word_count s) (let lt = (offered a x is).0 in omega (arith, lt)))

    not_empty_below : (t : ℕ) → view s words (Slot p (bottoms s words p - 1)) ≡ Empty t → ⊥
    not_empty_below t is = elim (here a).0 [
      | inl z ↦ subst IsLocal is z
      | inr z ↦ let y = subst IsTicket is z in elim y [ inl q ↦ q | inr q ↦ q ]
    ]

    pop1_below : SoundAt words o p Pop1 (on_entry (content_of AsEntry (read s words (cells.EntryWord p (bottoms s words p - 1)))) (get_back (seat_of words o p Pop1)))
    pop1_below = by_slot a p (bottoms s words p - 1) below_there (get_back (seat_of words o p Pop1)) by
      where
        by : (x : Entry) → IsEntry x → view s words (Slot p (bottoms s words p - 1)) ≡ word_as (AnEntry x) → SoundAt words o p Pop1 (get_back (seat_of words o p Pop1) x)
        by (entries.Empty t) fit is = absurd (not_empty_below t is)
        by (entries.Local t x) fit is =
            let home : h x ≡ Popping p = popped a x (subst (λ (w : Word). Gives w x) (sym is) refl) in
            (popped_to x (ap fate_of home), tt)
        by (entries.Job t x) fit is =
            let home : h x ≡ Listed p (bottoms s words p - 1) t = listed a p (bottoms s words p - 1) t x is in
            let lt = can_rise a p (bottoms s words p - 1) (entries.Job t x) (λ z. z) is in
            raises a p (bottoms s words p - 1) (entries.Job t x) (entries.Local (t + 1) x) (with_kind (seat_of words o p Pop1) (Pop2 x)) lt (λ z. z) below_there fit (fit.0, (lt, (omega arith, tt))) refl (inr refl) (popped_to x (ap fate_of home)) tt
        by (entries.Taken t x) fit is = seeks a

  -- Pop2: the entry above is emptied, and the right branch begins
  module _ {words : List ℕ} {standings : List Standing} {h : ℕ → Home} {f tk : List ℕ} {made o p r : ℕ} (a : Here words standings h f tk made o p (Pop2 r)) where
    lower_there : is_there s (cells.EntryWord p (bottoms s words p - 1)) ≡ true
    lower_there = entry_there a p (bottoms s words p - 1) a.place (let high = bottom_high a in omega (arith, high))

    here_there : is_there s (cells.EntryWord p (bottoms s words p)) ≡ true
    here_there = entry_there a p (bottoms s words p) a.place (bottom_high a)

    -- where the entry below is local the branch is this place's, and that is not the first entry
    popping : IsLocal (view s words (Slot p (bottoms s words p - 1))) → h r ≡ Popping p
    popping local = popped a r (refl, local)

    not_first : IsLocal (view s words (Slot p (bottoms s words p - 1))) → 2 ≤ bottoms s words p
    not_first local = elim (cases_lt (bottoms s words p) 2) [
      | inr le ↦ le
      | inl lt ↦ absurd (let low = bottom_low a in local_not_taken (view s words (Slot p (bottoms s words p - 1))) local
          (subst (λ (i : ℕ). IsTaken (view s words (Slot p i))) {x = 0} {y = bottoms s words p - 1} (omega (arith, lt, low)) (own_deque a).floor))
    ]

    pop2_again : SoundAt words o p (Pop2 r) (on_entry (content_of AsEntry (read s words (cells.EntryWord p (bottoms s words p - 1)))) (got_back (seat_of words o p (Pop2 r)) r))
    pop2_again = by_slot a p (bottoms s words p - 1) lower_there (got_back (seat_of words o p (Pop2 r)) r) by
      where
        none : {A : Type 0} → (w : Word) → view s words (Slot p (bottoms s words p - 1)) ≡ w → (IsTaken w → ⊥) → (Gives w r → ⊥) → A
        none w is taken gives = elim (here a).0 [
          | inl z ↦ absurd (taken (subst IsTaken is z.0))
          | inr z ↦ absurd (gives (subst (λ (w : Word). Gives w r) is z.0))
        ]

        by : (x : Entry) → IsEntry x → view s words (Slot p (bottoms s words p - 1)) ≡ word_as (AnEntry x) → SoundAt words o p (Pop2 r) (got_back (seat_of words o p (Pop2 r)) r x)
        by (entries.Local t x) fit is =
            let home = popping (subst IsLocal (sym is) tt) in
            ((here_there, (refl, (offered a r (ap fate_of home)).0, not_first (subst IsLocal (sym is) tt))), tt)
        by (entries.Taken t x) fit is = seeks a
        by (entries.Empty t) fit is = none (Empty t) is (λ z. z) (λ z. z)
        by (entries.Job t x) fit is = none (Job t x) is (λ z. z) (λ z. z)

    offset_goes : r + 4 < word_count s → 2 ≤ bottoms s words p → GoesWell s code (view s words) (seat_of words o p (Pop2 r)) (Load (Offset r (bottoms s words p - 1)))
    offset_goes lt two = (lt-ltb (r + 4) (word_count s) lt, (refl, omega (arith, two), omega (arith, two)))

    pop2_above : r + 4 < word_count s → 2 ≤ bottoms s words p
        → SoundAt words o p (Pop2 r) (on_entry (content_of AsEntry (read s words (cells.EntryWord p (bottoms s words p)))) (empty_above (seat_of words o p (Pop2 r)) r))
    pop2_above lt two = by_slot a p (bottoms s words p) here_there (empty_above (seat_of words o p (Pop2 r)) r) by
      where
        by : (x : Entry) → IsEntry x → view s words (Slot p (bottoms s words p)) ≡ word_as (AnEntry x) → SoundAt words o p (Pop2 r) (empty_above (seat_of words o p (Pop2 r)) r x)
        by (entries.Local t x) fit is =
            let up = can_rise a p (bottoms s words p) (entries.Local t x) (λ z. z) is in
            raises a p (bottoms s words p) (entries.Local t x) (entries.Empty (t + 1)) (Load (Offset r (bottoms s words p - 1))) up (λ z. z) here_there fit (omega arith, (up, (omega arith, tt))) refl (inr refl) (offset_goes lt two) tt
        by (entries.Empty t) fit is = (offset_goes lt two, tt)
        by (entries.Job t x) fit is = (offset_goes lt two, tt)
        by (entries.Taken t x) fit is = (offset_goes lt two, tt)

    pop2_offset : (low : ℕ) → low + 1 ≡ bottoms s words p → 1 ≤ low → fate_of (h r) ≡ Offered → SoundAt words o p (Pop2 r) (right_begins s r low (read s words (offset_word r)))
    pop2_offset low is least fate = begins a r low fate least (let high = bottom_high a in omega (arith, high, is))

  -- words that are shown as holders', and numbers of the dead
  one_most : (w : Word) → one_dead w ≤ 1
  one_most (Number zero) = omega arith
  one_most (Number (suc n)) = omega arith
  one_most (Empty t) = omega arith
  one_most (Local t x) = omega arith
  one_most (Job t x) = omega arith
  one_most (Taken t x) = omega arith
  one_most (Held t x) = omega arith
  one_most (Linked x) = omega arith
  one_most (Restarts x y) = omega arith
  one_most Unread = omega arith

  deads_most : (m : Spot → Word) (n : ℕ) → deads m n ≤ n
  deads_most m zero = omega arith
  deads_most m (suc n) = let one = one_most (m (Dead n)) in let rest = deads_most m n in omega (arith, one, rest)

  module _ {words : List ℕ} {standings : List Standing} {h : ℕ → Home} {f tk : List ℕ} {made o p : ℕ} {K : RestartKind} (a : Here words standings h f tk made o p K) where
    by_held : (d : Spot) → is_shown s d ≡ true → IsHeld (view s words d) → (go : AHold → Row) → ((t c : ℕ) → IsHolder (record { tag = t; processor = c }) → view s words d ≡ Held t c → SoundAt words o p K (go (record { tag = t; processor = c })))
        → SoundAt words o p K (on_holder (content_of (reading_of d) (read s words (cell_of d))) go)
    by_held d shown held go each = subst (λ (c : Content). SoundAt words o p K (on_holder c go)) (shows_content s words d shown) (by (view s words d) refl held (shows_fit s words d shown))
      where
        by : (w : Word) → view s words d ≡ w → IsHeld w → IsContent (content_by w) → SoundAt words o p K (on_holder (content_by w) go)
        by (Held t c) is held fit = each t c fit is
        by _ is held fit = absurd held

    -- the message of a place that steals
    pub by_rising : (q : ℕ) → is_there s (cells.MessageWord q) ≡ true → IsRising s (view s words (Message q)) → (go : Entry → Row)
        → ((x : Entry) → IsEntry x → IsRisingEntry s x → view s words (Message q) ≡ word_as (AnEntry x) → SoundAt words o p K (go x))
        → SoundAt words o p K (on_entry (content_of AsEntry (read s words (cells.MessageWord q))) go)
    by_rising q shown rising go each = subst (λ (c : Content). SoundAt words o p K (on_entry c go)) (shows_content s words (Message q) shown) (by (view s words (Message q)) refl rising (shows_fit s words (Message q) shown))
      where
        by : (w : Word) → view s words (Message q) ≡ w → IsRising s w → IsContent (content_by w) → SoundAt words o p K (on_entry (content_by w) go)
        by (Job t x) is rising fit = each (entries.Job t x) fit rising is
        by (Local t x) is rising fit = each (entries.Local t x) fit rising is
        by _ is rising fit = absurd rising

    held_word : (w : Word) → IsHolderSound s (view s words) w → IsHeld w
    held_word (Held t c) is = tt
    held_word _ is = absurd is

    own_there : is_there s (cells.MessageWord p) ≡ true
    own_there = lt-ltb p s.processors a.place

    -- some entry of a place's deque was not taken
    record FreeSlot (v : ℕ) : Type 0 where
      pub slot : ℕ
      pub there : slot < s.slots
      pub free : IsTaken (view s words (Slot v slot)) → ⊥

    free_slot : s.takeover ≡ ByPlaces → (v : ℕ) → v < s.processors → FreeSlot v
    free_slot places v lt = by (kinds s words v) ((plain a.law.board (λ v z. subst (λ (how : Takeover). Closed how (view s words) v) places z)).deque v).here
      where
        w : ℕ → Word
        w i = view s words (Slot v i)

        c : ℕ
        c = bottoms s words v

        low : 1 ≤ c
        low = leb-true 1 c (and_left (nat_le 1 c) (nat_lt c s.slots) (a.bottoms_there v lt))

        high : c < s.slots
        high = ltb-true c s.slots (and_right (nat_le 1 c) (nat_lt c s.slots) (a.bottoms_there v lt))

        at_bottom : IsLocal (view s words (Slot v c)) → FreeSlot v
        at_bottom local = record { slot = c; there = high; free = local_not_taken (view s words (Slot v c)) local }

        by : (k : RestartKind) → AtBottom k (view s words (Slot v (c - 1))) (view s words (Slot v c)) (view s words (Slot v (c + 1))) → FreeSlot v
        by (Push2 r) z = record {
          slot = c + 1;
          there = ltb-true (c + 1) s.slots (and_right (nat_lt v s.processors) (nat_lt (c + 1) s.slots) (local_there a v (c + 1) (let low = low in omega (arith, low)) z.2));
          free = local_not_taken (view s words (Slot v (c + 1))) z.2;
        }
        by (Pop2 r) z = elim z.0 [
          | inl y ↦ at_bottom y.1
          | inr y ↦ record { slot = c - 1; there = (let high = high in omega (arith, high)); free = λ taken. gives_not_taken (view s words (Slot v (c - 1))) r y.0 taken }
        ]
        by (Push1 r) z = at_bottom z.1
        by Pop1 z = at_bottom z.1
        by (Run g y) z = at_bottom z.1
        by (kinds_are.Bump r) z = at_bottom z.1
        by (kinds_are.Unwind g) z = at_bottom z.1
        by (kinds_are.Arrive r y) z = at_bottom z.1
        by (kinds_are.Join r y) z = at_bottom z.1
        by Seek z = at_bottom z.1
        by (Steal x i) z = at_bottom z.1
        by (Check x i) z = at_bottom z.1
        by (Take x y) z = at_bottom z.1
        by (Take2 x) z = at_bottom z.1

    top_low : (v : ℕ) → v < s.processors → read s words (cells.Top v) < s.slots
    top_low v lt = by s.takeover refl
      where
        by : (how : Takeover) → s.takeover ≡ how → read s words (cells.Top v) < s.slots
        by ByEntries e = subst (λ (how : Takeover). IsTopLow how s (read s words (cells.Top v))) e (a.tops v lt)
        by ByPlaces e = elim (cases_lt (read s words (cells.Top v)) s.slots) [
          | inl is ↦ is
          | inr ge ↦
              let one = free_slot e v lt in
              let top : tag (view s words (Top v)) ≡ read s words (cells.Top v) = ap tag (shows s words (Top v) (lt-ltb v s.processors lt)) in
              let there = one.there in
              absurd (one.free (a.law.order.passed v one.slot (omega (arith, top, ge, there))))
        ]

  -- Seek
  module _ {words : List ℕ} {standings : List Standing} {h : ℕ → Home} {f tk : List ℕ} {made o p : ℕ} (a : Here words standings h f tk made o p Seek) where
    seek_holders : (u : ℕ) → u < s.processors → SoundAt words o p Seek (on_holder (content_of AsHolder (read s words (cells.HolderWord u))) (seek_holder s (seat_of words o p Seek) u))
    seek_holders u lt = by_held a (Holder u) (lt-ltb u s.processors lt) (held_word a (view s words (Holder u)) (a.holders u lt)) (seek_holder s (seat_of words o p Seek) u) by
      where
        there : is_there s (cells.Top u) ≡ true
        there = lt-ltb u s.processors lt

        held : TakesPlaces s.takeover → (t c : ℕ) → view s words (Holder u) ≡ Held t c → (b : Bool) → SoundAt words o p Seek (seek_held s (seat_of words o p Seek) u (record { tag = t; processor = c }) b)
        held takes t c is true = ((there, lt), tt)
        held takes t c is false =
            let sound = subst (IsHolderSound s (view s words)) is (a.holders u lt) in
            let most = deads_most (view s words) s.processors in
            let few = s.within.processors_most in
            let low = sound.1 in
            ((lt-ltb c s.processors sound.0, (lt, omega (arith, most, few, low), sound.0, takes)), tt)

        by : (t c : ℕ) → IsHolder (record { tag = t; processor = c }) → view s words (Holder u) ≡ Held t c → SoundAt words o p Seek (seek_holder s (seat_of words o p Seek) u (record { tag = t; processor = c }))
        by t c fit is = own (u == p)
          where
            own : (b : Bool) → SoundAt words o p Seek (if b then Now Again else seek_by s (seat_of words o p Seek) u (record { tag = t; processor = c }) s.takeover)
            own true = (tt, tt)
            own false = by_how (λ (how : Takeover). (TakesPlaces how → TakesPlaces s.takeover) → SoundAt words o p Seek (seek_by s (seat_of words o p Seek) u (record { tag = t; processor = c }) how))
                (λ takes. held (takes tt) t c is (c == o)) (λ takes. ((there, lt), tt)) s.takeover (λ takes. takes)

    seek_deads : (v : ℕ) (holder : AHold) → v < s.processors → holder.tag + 1 < 2 ^ 58 → holder.processor < s.processors → TakesPlaces s.takeover → (n : ℕ) → SoundAt words o p Seek (seek_dead (seat_of words o p Seek) v holder n)
    seek_deads v holder lt rise there takes n = by (n == 1)
      where
        makes : SoundAt words o p Seek (bids (seat_of words o p Seek) v holder (nat_lt (holder.tag + 1) (2 ^ 58)))
        makes = subst (λ (b : Bool). SoundAt words o p Seek (bids (seat_of words o p Seek) v holder b)) (sym (lt-ltb (holder.tag + 1) (2 ^ 58) rise))
            (own_there a, (refl, refl), goes_to a (Take v holder.processor) (and_is (nat_lt v s.processors) (nat_lt holder.processor s.processors) (lt-ltb v s.processors lt) (lt-ltb holder.processor s.processors there)), takes)

        by : (b : Bool) → SoundAt words o p Seek (if b then bids (seat_of words o p Seek) v holder (nat_lt (holder.tag + 1) (2 ^ 58)) else Now (Load (SeekTop v)))
        by true = makes
        by false = ((lt-ltb v s.processors lt, lt), tt)

    seek_tops : (v : ℕ) → v < s.processors → SoundAt words o p Seek (seek_top s v (read s words (cells.Top v)))
    seek_tops v lt =
        let low = top_low a v lt in
        subst (λ (b : Bool). SoundAt words o p Seek (if b then Now (Load (SeekEntry v (read s words (cells.Top v)))) else Now Broken)) (sym (lt-ltb (read s words (cells.Top v)) s.slots low))
        ((entry_there a v (read s words (cells.Top v)) lt low, (lt, low)), tt)

    seek_entries : (v i : ℕ) → v < s.processors → i < s.slots → SoundAt words o p Seek (on_entry (content_of AsEntry (read s words (cells.EntryWord v i))) (seek_entry s (seat_of words o p Seek) v i))
    seek_entries v i lt low = by_slot a v i (entry_there a v i lt low) (seek_entry s (seat_of words o p Seek) v i) by
      where
        by : (x : Entry) → IsEntry x → view s words (Slot v i) ≡ word_as (AnEntry x) → SoundAt words o p Seek (seek_entry s (seat_of words o p Seek) v i x)
        by (entries.Empty t) fit is = (tt, tt)
        by (entries.Local t x) fit is = local s.takeover refl
          where
            local : (how : Takeover) → s.takeover ≡ how → SoundAt words o p Seek (local_by v i (entries.Local t x) how)
            local ByPlaces e = (tt, tt)
            local ByEntries e = ((lt-ltb v s.processors lt, (lt, low, local_rises s.takeover t e (can_rise a v i (entries.Local t x) (λ z. z) is), fit)), tt)
        by (entries.Job t x) fit is =
            let home : h x ≡ Listed v i t = listed a v i t x is in
            (own_there a, (refl, refl), goes_to a (Steal v i) (entry_there a v i lt low), ((can_rise a v i (entries.Job t x) (λ z. z) is, (offered a x (ap fate_of home)).0), fit))
        by (entries.Taken t x) fit is = passing s.takeover refl
          where
            above : (b : Bool) → s.takeover ≡ ByEntries → nat_lt (i + 1) s.slots ≡ b → SoundAt words o p Seek (if b then passes v i else Now Again)
            above true e up = (lt-ltb v s.processors lt, subst (λ (how : Takeover). IsTopLow how s (i + 1)) (sym e) (ltb-true (i + 1) s.slots up), tt, tt)
            above false e up = (tt, tt)

            passing : (how : Takeover) → s.takeover ≡ how → SoundAt words o p Seek (passes_by s v i how)
            passing ByPlaces e = (lt-ltb v s.processors lt, subst (λ (how : Takeover). IsTopLow how s (i + 1)) (sym e) tt, tt, tt)
            passing ByEntries e = above (nat_lt (i + 1) s.slots) e refl

    -- by entries a local one of a closed place is noted
    seek_shut : (v i : ℕ) (entry : Entry) → v < s.processors → i < s.slots → IsRisingEntry s entry → IsEntry entry → (n : ℕ) → SoundAt words o p Seek (seek_closed (seat_of words o p Seek) v i entry n)
    seek_shut v i entry lt low rising fit n = by (n == 1)
      where
        by : (b : Bool) → SoundAt words o p Seek (if b then notes (seat_of words o p Seek) v i entry else Now Again)
        by true = (own_there a, (refl, refl), goes_to a (Steal v i) (entry_there a v i lt low), (rising, fit))
        by false = (tt, tt)

  -- Steal: the entry is exchanged to what was taken
  module _ {words : List ℕ} {standings : List Standing} {h : ℕ → Home} {f tk : List ℕ} {made o p v i : ℕ} (a : Here words standings h f tk made o p (Steal v i)) where
    rising_now : IsRising s (view s words (Message p))
    rising_now = subst (Noted s (view s words) p) a.kind (a.noted p)

    steal_message : SoundAt words o p (Steal v i) (on_entry (content_of AsEntry (read s words (cells.MessageWord p))) (steals s (seat_of words o p (Steal v i)) v i))
    steal_message = by_rising a p (own_there a) rising_now (steals s (seat_of words o p (Steal v i)) v i) by
      where
        -- by the taker, told from others by 64 where it inherits
        taken : (old : Entry) (t by : ℕ) → tag_of old ≡ t → by < 128 → (IsTakenEntry old → ⊥) → t + 1 < 2 ^ 34 → IsEntry old
            → SoundAt words o p (Steal v i) (raised (cells.EntryWord v i) old (entries.Taken (t + 1) by) (with_kind (seat_of words o p (Steal v i)) (Check v i)) (nat_lt (tag_of old + 1) (2 ^ 34)))
        taken old t by is small_ free lt fit = raises a v i old (entries.Taken (t + 1) by) (with_kind (seat_of words o p (Steal v i)) (Check v i)) (omega (arith, is, lt)) free (kind_ok a) fit
            (small_, (omega arith, (lt, (omega arith, tt)))) (omega (arith, is)) (inl tt) (goes_to a (Check v i) (kind_ok a)) rising_now

        own_small : p < 128
        own_small = let place = a.place in let few = s.within.processors_most in omega (arith, place, few)

        heir_small : p + 64 < 128
        heir_small = let place = a.place in let few = s.within.processors_most in omega (arith, place, few)

        by : (x : Entry) → IsEntry x → IsRisingEntry s x → view s words (Message p) ≡ word_as (AnEntry x) → SoundAt words o p (Steal v i) (steals s (seat_of words o p (Steal v i)) v i x)
        by (entries.Job t x) fit rising is = by_how (λ (how : Takeover). SoundAt words o p (Steal v i) (changed (cells.EntryWord v i) (entries.Job t x) (taken_so how p (entries.Job t x)) (with_kind (seat_of words o p (Steal v i)) (Check v i))))
            (taken (entries.Job t x) t p refl own_small (λ z. z) rising.0 fit) (taken (entries.Job t x) t p refl own_small (λ z. z) rising.0 fit) s.takeover
        by (entries.Local t x) fit rising is =
            let so = rises_so s.takeover t rising in
            subst (λ (how : Takeover). SoundAt words o p (Steal v i) (changed (cells.EntryWord v i) (entries.Local t x) (taken_so how p (entries.Local t x)) (with_kind (seat_of words o p (Steal v i)) (Check v i)))) (sym so.0)
            (taken (entries.Local t x) t (p + 64) refl heir_small (λ z. z) so.1 fit)
        by (entries.Empty t) fit rising is = absurd rising
        by (entries.Taken t x) fit rising is = absurd rising

  -- Check: by places the job begins where it was won
  module _ {words : List ℕ} {standings : List Standing} {h : ℕ → Home} {f tk : List ℕ} {made o p v i : ℕ} (a : Here words standings h f tk made o p (Check v i)) (places : s.takeover ≡ ByPlaces) where
    check_message : SoundAt words o p (Check v i) (on_entry (content_of AsEntry (read s words (cells.MessageWord p))) (taken_message s p v i))
    check_message = by_rising a p (own_there a) (subst (Noted s (view s words) p) a.kind (a.noted p)) (taken_message s p v i) (λ x fit rising is.
        subst (λ (b : Bool). SoundAt words o p (Check v i) (if b then Now (Load (TakenEntry p v i x)) else Now Broken)) (sym (can_take s x rising))
        ((kind_ok a, known s.takeover ((p ≡ p) × (v ≡ v) × (i ≡ i) × IsRisingEntry s x) (refl, refl, refl, rising)), tt))

    check_entry : (message : Entry) → IsRisingEntry s message → SoundAt words o p (Check v i) (on_entry (content_of AsEntry (read s words (cells.EntryWord v i))) (taken_entry (seat_of words o p (Check v i)) p v i message))
    check_entry message job = by_slot a v i (kind_ok a) (taken_entry (seat_of words o p (Check v i)) p v i message) (λ x fit is. by message job x)
      where
        no_local : (how : Takeover) (t : ℕ) → how ≡ ByPlaces → LocalRises how t → ⊥
        no_local ByPlaces t e z = z
        no_local ByEntries t e z = absurd (cc)

        won : (message : Entry) → IsRisingEntry s message → (b : Bool) → SoundAt words o p (Check v i) (if b then goes_on_with (seat_of words o p (Check v i)) v i message else Now (with_kind (seat_of words o p (Check v i)) Seek))
        won message job false = seeks a
        won (entries.Job t x) job true = ((lt-ltb (x + 4) (word_count s) job.1, refl), tt)
        won (entries.Local t x) job true = absurd (no_local s.takeover t places job)
        won (entries.Empty t) job true = absurd job
        won (entries.Taken t x) job true = absurd job

        by : (message : Entry) → IsRisingEntry s message → (x : Entry) → SoundAt words o p (Check v i) (taken_entry (seat_of words o p (Check v i)) p v i message x)
        by message job x = won message job (took p message x)

    check_offset : (r : ℕ) → fate_of (h r) ≡ Offered → SoundAt words o p (Check v i) (right_begins s r (bottoms s words p) (read s words (offset_word r)))
    check_offset r fate = begins a r (bottoms s words p) fate (bottom_low a) (bottom_high a)

  -- Take: the bid is made
  module _ {words : List ℕ} {standings : List Standing} {h : ℕ → Home} {f tk : List ℕ} {made o p v d : ℕ} (a : Here words standings h f tk made o p (Take v d)) where
    take_message : SoundAt words o p (Take v d) (on_holder (content_of AsHolder (read s words (cells.MessageWord p))) (makes_bid (seat_of words o p (Take v d)) v d))
    take_message = by_held a (Bid p) (own_there a) (subst IsHeld (sym doom.2) tt) (makes_bid (seat_of words o p (Take v d)) v d) by
      where
        doom : Dooms (view s words) p (Take v d)
        doom = subst (Dooms (view s words) p) a.kind (a.law.holding.doomed p)

        lowers : (t c : ℕ) → IsHolder (record { tag = t; processor = c }) → view s words (Bid p) ≡ Held t c → c ≡ o → (y : ℕ) → t ≡ suc y → SoundAt words o p (Take v d) (lowered t (seat_of words o p (Take v d)) v d (record { tag = t; processor = c }))
        lowers t c fit bid own y is = subst (λ (z : ℕ). SoundAt words o p (Take v d) (lowered z (seat_of words o p (Take v d)) v d (record { tag = z; processor = c }))) (sym is) (
          and_left (nat_lt v s.processors) (nat_lt d s.processors) (kind_ok a),
          (omega (arith, is), own, (let few = s.within.processors_most in let lt = ltb-true d s.processors (and_right (nat_lt v s.processors) (nat_lt d s.processors) (kind_ok a)) in omega (arith, few, lt), (let f = fit.1.0 in omega (arith, f, is), tt)), subst (λ (z : ℕ). IsHolder (record { tag = z; processor = c })) is fit, refl, bid ∙ ap (λ (z : ℕ). Held z c) is),
          goes_to a (Take2 v) (and_left (nat_lt v s.processors) (nat_lt d s.processors) (kind_ok a)),
          (subst (Noted s (view s words) p) a.kind (a.noted p), subst IsHeld (sym doom.2) tt),
        )

        by : (t c : ℕ) → IsHolder (record { tag = t; processor = c }) → view s words (Bid p) ≡ Held t c → SoundAt words o p (Take v d) (makes_bid (seat_of words o p (Take v d)) v d (record { tag = t; processor = c }))
        by t c fit is = own (c == o) refl
          where
            own : (b : Bool) → (c == o) ≡ b → SoundAt words o p (Take v d) (if b then lowered t (seat_of words o p (Take v d)) v d (record { tag = t; processor = c }) else Now (with_kind (seat_of words o p (Take v d)) Seek))
            own true eq = lowers t c fit is (eqb-true c o eq) doom.0 (let z : t ≡ doom.0 + 1 = ap tag (sym is ∙ doom.2) in omega (arith, z))
            own false eq = seeks a

  -- Take2: the place is carried where the bid stands
  module _ {words : List ℕ} {standings : List Standing} {h : ℕ → Home} {f tk : List ℕ} {made o p v : ℕ} (a : Here words standings h f tk made o p (Take2 v)) where
    bid_message : SoundAt words o p (Take2 v) (on_holder (content_of AsHolder (read s words (cells.MessageWord p))) (bid_again (seat_of words o p (Take2 v)) v))
    bid_message = by_held a (Bid p) (own_there a) (subst (Noted s (view s words) p) a.kind (a.noted p)).1 (bid_again (seat_of words o p (Take2 v)) v) (λ t c fit is. by t c (c == o))
      where
        by : (t c : ℕ) (b : Bool) → SoundAt words o p (Take2 v) (if b then Now (Load (BidHolder v (record { tag = t; processor = c }))) else Now (with_kind (seat_of words o p (Take2 v)) Seek))
        by t c true = ((kind_ok a, refl), tt)
        by t c false = seeks a

    bid_holders : (message : AHold) → SoundAt words o p (Take2 v) (on_holder (content_of AsHolder (read s words (cells.HolderWord v))) (bid_holder (seat_of words o p (Take2 v)) v message))
    bid_holders message = by_held a (Holder v) (kind_ok a) (held_word a (view s words (Holder v)) (a.holders v (ltb-true v s.processors (kind_ok a)))) (bid_holder (seat_of words o p (Take2 v)) v message)
        (λ t c fit is. by ((message.tag == t) && (message.processor == c)))
      where
        by : (b : Bool) → SoundAt words o p (Take2 v) (if b then Now (Move v) else Now (with_kind (seat_of words o p (Take2 v)) Seek))
        by true = (kind_ok a, tt)
        by false = seeks a

  -- whether rows of a kind look at deques and places
  abbrev pub IsDequeKind : RestartKind → Type 0
  IsDequeKind (Push1 r) = Unit {0}
  IsDequeKind (Push2 r) = Unit {0}
  IsDequeKind Pop1 = Unit {0}
  IsDequeKind (Pop2 r) = Unit {0}
  IsDequeKind Seek = Unit {0}
  IsDequeKind (Steal v i) = Unit {0}
  IsDequeKind (Check v i) = Unit {0}
  IsDequeKind (Take v d) = Unit {0}
  IsDequeKind (Take2 v) = Unit {0}
  IsDequeKind _ = ⊥

  -- what a load of these finds
  abbrev Found : (words : List ℕ) (o p : ℕ) (K : RestartKind) (u : ℕ) → Point → Row
  Found words o p K u point = found_at s (seat_of words o p K) u point (content_of (reading_at point) (read s words (cell_at (seat_of words o p K) u point)))

  module _ {words : List ℕ} {standings : List Standing} {h : ℕ → Home} {f tk : List ℕ} {made o p : ℕ} where
    -- by places, of a Check
    check_loads : (v i : ℕ) → Here words standings h f tk made o p (Check v i) → s.takeover ≡ ByPlaces → (u : ℕ) → (point : Point) → IsLoadOf s p (bottoms s words p) (Check v i) point
        → ((r low : ℕ) → point ≡ Offset r low → fate_of (h r) ≡ Offered) → SoundAt words o p (Check v i) (Found words o p (Check v i) u point)
    check_loads v i a places u (TakenMessage by w j) fits fates =
        let so = known_so s.takeover ((by ≡ p) × (w ≡ v) × (j ≡ i)) places fits in
        subst (λ (z : ℕ). SoundAt words o p (Check v i) (Found words o p (Check v i) u (TakenMessage z w j))) (sym so.0)
        (subst (λ (z : ℕ). SoundAt words o p (Check v i) (Found words o p (Check v i) u (TakenMessage p z j))) (sym so.1)
        (subst (λ (z : ℕ). SoundAt words o p (Check v i) (Found words o p (Check v i) u (TakenMessage p v z))) (sym so.2) (check_message a places)))
    check_loads v i a places u (TakenEntry by w j message) fits fates =
        let so = known_so s.takeover ((by ≡ p) × (w ≡ v) × (j ≡ i) × IsRisingEntry s message) places fits in
        subst (λ (z : ℕ). SoundAt words o p (Check v i) (Found words o p (Check v i) u (TakenEntry z w j message))) (sym so.0)
        (subst (λ (z : ℕ). SoundAt words o p (Check v i) (Found words o p (Check v i) u (TakenEntry p z j message))) (sym so.1)
        (subst (λ (z : ℕ). SoundAt words o p (Check v i) (Found words o p (Check v i) u (TakenEntry p v z message))) (sym so.2) (check_entry a places message so.3)))
    check_loads v i a places u (Offset x low) fits fates =
        subst (λ (z : ℕ). SoundAt words o p (Check v i) (Found words o p (Check v i) u (Offset x z))) (sym fits) (check_offset a places x (fates x low refl))
    check_loads v i a places u (ClosedRestart w j x) fits fates = absurd (known_so s.takeover ⊥ places fits)
    check_loads v i a places u (ClosedLink x) fits fates = absurd (known_so s.takeover ⊥ places fits)
    check_loads v i a places u (ClosedBottom w j x) fits fates = absurd (known_so s.takeover ⊥ places fits)
    check_loads v i a places u _ fits fates = absurd fits

    -- where a branch whose offset is loaded may be taken; by entries loads of a Check are told apart
    pub loads_sound : (K : RestartKind) → Here words standings h f tk made o p K → IsDequeKind K → (u : ℕ) → u < s.processors → (point : Point) → IsLoadOf s p (bottoms s words p) K point
        → point_is_there s (seat_of words o p K) point ≡ true → (is_taker K ≡ true → (r low : ℕ) → point ≡ Offset r low → fate_of (h r) ≡ Offered)
        → (s.takeover ≡ ByEntries → (v i : ℕ) → K ≡ Check v i → SoundAt words o p K (Found words o p K u point)) → SoundAt words o p K (Found words o p K u point)
    loads_sound (Push1 r) a is u lt (PushOrder x) fits there fates entries =
        subst (λ (z : ℕ). SoundAt words o p (Push1 r) (Found words o p (Push1 r) u (PushOrder z))) (sym fits.0) (push1_order a fits.1 (read s words (cells.BlockWord (r + 1))))
    loads_sound (Push1 r) a is u lt (PushAbove x) fits there fates entries = subst (λ (z : ℕ). SoundAt words o p (Push1 r) (Found words o p (Push1 r) u (PushAbove z))) (sym fits) (push1_above a there)
    loads_sound (Push1 r) a is u lt _ fits there fates entries = absurd fits
    loads_sound (Push2 r) a is u lt (PushBottom x) fits there fates entries = subst (λ (z : ℕ). SoundAt words o p (Push2 r) (Found words o p (Push2 r) u (PushBottom z))) (sym fits) (push2_bottom a)
    loads_sound (Push2 r) a is u lt _ fits there fates entries = absurd fits
    loads_sound Pop1 a is u lt PopBelow fits there fates entries = pop1_below a
    loads_sound Pop1 a is u lt _ fits there fates entries = absurd fits
    loads_sound (Pop2 r) a is u lt (PopAgain x) fits there fates entries = subst (λ (z : ℕ). SoundAt words o p (Pop2 r) (Found words o p (Pop2 r) u (PopAgain z))) (sym fits) (pop2_again a)
    loads_sound (Pop2 r) a is u lt (PopAbove x) fits there fates entries = subst (λ (z : ℕ). SoundAt words o p (Pop2 r) (Found words o p (Pop2 r) u (PopAbove z))) (sym fits.0) (pop2_above a fits.1 fits.2)
    loads_sound (Pop2 r) a is u lt (Offset x low) fits there fates entries =
        subst (λ (z : ℕ). fate_of (h z) ≡ Offered → SoundAt words o p (Pop2 r) (Found words o p (Pop2 r) u (Offset z low))) (sym fits.0) (pop2_offset a low fits.1 fits.2) (fates refl x low refl)
    loads_sound (Pop2 r) a is u lt _ fits there fates entries = absurd fits
    loads_sound Seek a is u lt SeekHolder fits there fates entries = seek_holders a u lt
    loads_sound Seek a is u lt (SeekDead v holder) fits there fates entries = seek_deads a v holder fits.0 fits.1 fits.2 fits.3 (read s words (cells.DeadWord holder.processor))
    loads_sound Seek a is u lt (SeekTop v) fits there fates entries = seek_tops a v fits
    loads_sound Seek a is u lt (SeekEntry v i) fits there fates entries = seek_entries a v i fits.0 fits.1
    loads_sound Seek a is u lt (SeekClosed v i entry) fits there fates entries = seek_shut a v i entry fits.0 fits.1 fits.2 fits.3 (read s words (cells.DeadWord v))
    loads_sound Seek a is u lt _ fits there fates entries = absurd fits
    loads_sound (Steal v i) a is u lt (StealMessage w j) fits there fates entries =
        subst (λ (z : ℕ). SoundAt words o p (Steal v i) (Found words o p (Steal v i) u (StealMessage z j))) (sym fits.0)
        (subst (λ (z : ℕ). SoundAt words o p (Steal v i) (Found words o p (Steal v i) u (StealMessage v z))) (sym fits.1) (steal_message a))
    loads_sound (Steal v i) a is u lt _ fits there fates entries = absurd fits
    loads_sound (Check v i) a is u lt point fits there fates entries = by s.takeover refl
      where
        by : (how : Takeover) → s.takeover ≡ how → SoundAt words o p (Check v i) (Found words o p (Check v i) u point)
        by ByPlaces e = check_loads v i a e u point fits (fates refl)
        by ByEntries e = entries e v i refl
    loads_sound (Take v d) a is u lt (BidMessage w x) fits there fates entries =
        subst (λ (z : ℕ). SoundAt words o p (Take v d) (Found words o p (Take v d) u (BidMessage z x))) (sym fits.0)
        (subst (λ (z : ℕ). SoundAt words o p (Take v d) (Found words o p (Take v d) u (BidMessage v z))) (sym fits.1) (take_message a))
    loads_sound (Take v d) a is u lt _ fits there fates entries = absurd fits
    loads_sound (Take2 v) a is u lt (BidAgain w) fits there fates entries = subst (λ (z : ℕ). SoundAt words o p (Take2 v) (Found words o p (Take2 v) u (BidAgain z))) (sym fits) (bid_message a)
    loads_sound (Take2 v) a is u lt (BidHolder w message) fits there fates entries = subst (λ (z : ℕ). SoundAt words o p (Take2 v) (Found words o p (Take2 v) u (BidHolder z message))) (sym fits) (bid_holders a message)
    loads_sound (Take2 v) a is u lt _ fits there fates entries = absurd fits
    loads_sound _ a is u lt point fits there fates entries = absurd is

    -- the first of each row
    pub begins_sound : (K : RestartKind) → Here words standings h f tk made o p K → IsDequeKind K → SoundAt words o p K (row_of s (seat_of words o p K) K)
    begins_sound (Push1 r) a is = by (bottoms s words p + 1 == s.slots) refl
      where
        by : (b : Bool) → (bottoms s words p + 1 == s.slots) ≡ b → SoundAt words o p (Push1 r) (push_at (seat_of words o p (Push1 r)) s.takeover r b)
        by true eq = (lt-ltb (r + 1) (word_count s) (let lt = left_block a in omega (arith, lt)), tt, left_here a, tt)
        by false eq = push1_begins a (let high = bottom_high a in let ne = eqb-false (bottoms s words p + 1) s.slots eq in omega (arith, high, ne)) s.takeover
    begins_sound (Push2 r) a is = ((entry_there a p (bottoms s words p) a.place (bottom_high a), refl), tt)
    begins_sound Pop1 a is = ((below_there a, tt), tt)
    begins_sound (Pop2 r) a is = ((lower_there a, refl), tt)
    begins_sound Seek a is = ((refl, tt), tt)
    begins_sound (Steal v i) a is = ((own_there a, (refl, refl)), tt)
    begins_sound (Check v i) a is = ((own_there a, known s.takeover ((p ≡ p) × (v ≡ v) × (i ≡ i)) (refl, refl, refl)), tt)
    begins_sound (Take v d) a is = by_how (λ (how : Takeover). TakesPlaces how → SoundAt words o p (Take v d) (by_places how (Now (Load (BidMessage v d)))))
        (λ takes. ((own_there a, (refl, refl)), tt)) (λ takes. absurd takes) s.takeover (subst (Noted s (view s words) p) a.kind (a.noted p))
    begins_sound (Take2 v) a is = by_how (λ (how : Takeover). TakesPlaces how → SoundAt words o p (Take2 v) (by_places how (Now (Load (BidAgain v)))))
        (λ takes. ((own_there a, refl), tt)) (λ takes. absurd takes) s.takeover (subst (Noted s (view s words) p) a.kind (a.noted p)).0
    begins_sound _ a is = absurd is

  -- a processor that carries a place, in a sound state
  module _ (state : RunState) (h : ℕ → Home) (forked taken : List ℕ) (lawful : IsLawful s code state h forked taken) (made : ℕ) (few : made + 1 < 2 ^ 34) (sound : IsSound s code made state)
      (blocks : Blocks state.words lawful.1.board.gone h) where
    abbrev ws : List ℕ
    ws = state.words

    -- the restart of a place is there
    pub restart_known : (p : ℕ) → p < s.processors → restart_is_there s (restart_at s ws p) ≡ true
    restart_known p lt = subst (λ (r : Restart). restart_is_there s r ≡ true) (sym (if_true (nat_lt p s.processors) (restart_or (restart_of (read s ws (cells.RestartWord p)))) seeking (lt-ltb p s.processors lt))) (by (restart_of (read s ws (cells.RestartWord p))) (sound.restarts p lt))
      where
        by : (o : Option Restart) → IsRestartThere s o → restart_is_there s (restart_or o) ≡ true
        by None a = absurd a
        by (Some r) a = a

    pub here_of : (c p : ℕ) → Carried s (view s ws) c p → (K : RestartKind) → kinds s ws p ≡ K → Here ws state.stand h forked taken made c p K
    here_of c p carried K e = record {
      law = lawful.1;
      few = few;
      holders = sound.holders;
      tags = sound.tags;
      noted = sound.noted;
      tops = sound.tops;
      blocks = blocks;
      bottoms_there = λ v lv. and_left (bottom_is_there s (bottoms s ws v)) (kind_is_there s (kinds s ws v)) (restart_known v lv);
      place = carried.place;
      kind = e;
      there = subst (λ (k : RestartKind). restart_is_there s (record { kind = k; bottom = bottoms s ws p }) ≡ true) e (restart_known p carried.place);
      opened = shut_not s.takeover (view s ws) c p carried.home carried.lives.alive;
    }
