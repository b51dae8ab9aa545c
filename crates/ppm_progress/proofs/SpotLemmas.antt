-- What a turn makes of the words that say who holds a place, who carries it, who bids for it and who is dead.
use Rattle.std.proofs.Common.{◌≡◌, ◌≢◌, ◌⊎◌, ◌<◌, ◌+◌, ℕ, List, inl, inr, sym, ap, ◌∙◌, subst}
use Rattle.std.proofs.lemmas.Bool.{cases_eq, lt-ltb}
use Rattle.ppm_cells.specs.Cells.{IsCell}
use Rattle.ppm_cells.specs.Memory.{AreWordsOf, read, write as store}
use Rattle.ppm_cells.specs.declared.cell.Cell.{Cell}
use Rattle.ppm_cells.specs.declared.cell.Cell.TheVariants.{CarryWord, DeadWord, RestartWord, MessageWord, HolderWord, EntryWord}
use Rattle.ppm_cells.specs.declared.restart.RestartKind.TheVariants.{Take}
use Rattle.ppm_cells.specs.declared.shape.Shape.{Shape}
use Rattle.ppm_code.specs.declared.code.CodeParts.{CodeParts}
use Rattle.ppm_step.specs.Contents.{content_of, word_of}
use Rattle.ppm_step.specs.Standings.{Standing, IsWithin}
use Rattle.ppm_step.specs.declared.content.Content.{Content}
use Rattle.ppm_step.specs.declared.content.Content.TheVariants.{AHolder}
use Rattle.ppm_step.specs.declared.content.Reading.TheVariants.{AsHolder}
use Rattle.ppm_step.specs.declared.row.Row.TheVariants.{Exchange}
use Rattle.ppm_step.specs.declared.row.Seat.{Seat}
use Rattle.ppm_step.specs.declared.row.Then.{Then}
use Rattle.ppm_step.specs.declared.turn.Act.{Act}
use Rattle.ppm_tickets.specs.Lawful.{IsDead, IsAlive}
use Rattle.ppm_tickets.specs.View.{word_as, cell_of, view, kinds}
use Rattle.ppm_tickets.specs.Words.{Word, Held, Number, Spot, Bid, Holder, Carry, Dead}
use Rattle.ppm_tickets.proofs.ViewLemmas.{shows, again, view_else, view_here}
use Rattle.ppm_runs.specs.Sound.{RaisesHolder}
use Rattle.ppm_progress.proofs.WriteLemmas.{IsAside, MovesTo, StoresAt, Wrote, Nothing, Aside, Notes, Carries, Dies, Holds, Restarts, Changed}

abbrev message_place : Cell → ℕ
message_place (MessageWord p) = p
message_place _ = 0

abbrev holder_place : Cell → ℕ
holder_place (HolderWord v) = v
holder_place _ = 0

abbrev carry_of : Cell → ℕ
carry_of (CarryWord c) = c
carry_of _ = 0

abbrev dead_of : Cell → ℕ
dead_of (DeadWord c) = c
dead_of _ = 0

-- a bid that is made: the holder word of v is the message of the seat's place then, and names its processor
pub record Made (s : Shape) (words : List ℕ) (x : Standing) (now : List ℕ) (v : ℕ) : Type 0 where
  pub seat : Seat
  pub old : Content
  pub new : Content
  pub next : Then
  pub at : x ≡ IsWithin seat (Exchange (HolderWord v) old new next)
  pub was : ℕ
  pub kind : seat.restart.kind ≡ Take v was
  pub here : kinds s words seat.place ≡ Take v was
  pub before : ℕ
  pub old_is : view s words (Holder v) ≡ Held before was
  pub new_is : view s now (Holder v) ≡ Held (before + 1) seat.own
  pub told : view s words (Bid seat.place) ≡ Held (before + 1) seat.own

module _ (s : Shape) (code : CodeParts) (words : List ℕ) (fit : AreWordsOf s words) (act : Act) (x : Standing) (now : List ℕ)
    (wrote : Wrote s code words act x now) where
  abbrev m : Spot → Word
  m = view s words

  abbrev n : Spot → Word
  n = view s now

  -- a cell of no such word was written
  other : (d : Spot) (cell : Cell) (w : ℕ) → IsCell s cell → cell_of d ≢ cell → now ≡ store s words cell w → n d ≡ m d
  other d cell w is ne e = ap (λ (l : List ℕ). view s l d) e ∙ view_else s words cell w d is (λ shown. ne)

  same : (d : Spot) → now ≡ words → n d ≡ m d
  same d e = ap (λ (l : List ℕ). view s l d) e

  -- dead words
  pub dead_or : (d : ℕ) → (n (Dead d) ≡ m (Dead d)) ⊎ (n (Dead d) ≡ Number 1)
  dead_or d = by wrote
    where
      by : Wrote s code words act x now → (n (Dead d) ≡ m (Dead d)) ⊎ (n (Dead d) ≡ Number 1)
      by (Nothing e) = inl (same (Dead d) e)
      by (Aside cell w is aside e) = inl (other (Dead d) cell w is (λ z. subst IsAside (sym z) aside) e)
      by (Notes p w is at e) = inl (other (Dead d) (MessageWord p) w is (λ z. cc) e)
      by (Carries c p is moves e) = inl (other (Dead d) (CarryWord c) p is (λ z. cc) e)
      by (Dies c is hard e) = elim (cases_eq d c) [
        | inr ne ↦ inl (other (Dead d) (DeadWord c) 1 is (λ z. ne (ap dead_of z)) e)
        | inl one ↦
            let here = ap (λ (l : List ℕ). view s l (Dead c)) e ∙ view_here s words (Dead c) 1 fit (lt-ltb c s.processors is) in
            inr (ap (λ (q : ℕ). n (Dead q)) one ∙ here)
      ]
      by (Holds seat v old new next at is kind raises was e) = inl (other (Dead d) (HolderWord v) _ is (λ z. cc) e)
      by (Restarts p re is here gives e) = inl (other (Dead d) (RestartWord p) _ is (λ z. cc) e)
      by (Changed v i old new is fits law was e) = inl (other (Dead d) (EntryWord v i) _ is (λ z. cc) e)

  -- who lives has lived
  pub dead_goes : (d : ℕ) → IsDead (m (Dead d)) → IsDead (n (Dead d))
  dead_goes d dead = elim (dead_or d) [ inl same ↦ subst IsDead (sym same) dead | inr one ↦ subst IsDead (sym one) tt ]

  pub alive_was : (d : ℕ) → IsAlive n d → IsAlive m d
  alive_was d alive dead = alive (dead_goes d dead)

  -- carry words
  pub carry_goes : (d : ℕ) → (n (Carry d) ≡ m (Carry d)) ⊎ ((p : ℕ) × MovesTo act x d p × (n (Carry d) ≡ Number p))
  carry_goes d = by wrote
    where
      by : Wrote s code words act x now → (n (Carry d) ≡ m (Carry d)) ⊎ ((p : ℕ) × MovesTo act x d p × (n (Carry d) ≡ Number p))
      by (Nothing e) = inl (same (Carry d) e)
      by (Aside cell w is aside e) = inl (other (Carry d) cell w is (λ z. subst IsAside (sym z) aside) e)
      by (Notes p w is at e) = inl (other (Carry d) (MessageWord p) w is (λ z. cc) e)
      by (Carries c p is moves e) = elim (cases_eq d c) [
        | inr ne ↦ inl (other (Carry d) (CarryWord c) p is (λ z. ne (ap carry_of z)) e)
        | inl one ↦
            let here = ap (λ (l : List ℕ). view s l (Carry c)) e ∙ view_here s words (Carry c) p fit (lt-ltb c s.processors is) in
            inr (p, subst (λ (q : ℕ). MovesTo act x q p) (sym one) moves, ap (λ (q : ℕ). n (Carry q)) one ∙ here)
      ]
      by (Dies c is hard e) = inl (other (Carry d) (DeadWord c) 1 is (λ z. cc) e)
      by (Holds seat v old new next at is kind raises was e) = inl (other (Carry d) (HolderWord v) _ is (λ z. cc) e)
      by (Restarts p re is here gives e) = inl (other (Carry d) (RestartWord p) _ is (λ z. cc) e)
      by (Changed v i old new is fits law was e) = inl (other (Carry d) (EntryWord v i) _ is (λ z. cc) e)

  -- bids
  pub bid_goes : (q : ℕ) → (n (Bid q) ≡ m (Bid q)) ⊎ StoresAt x q
  bid_goes q = by wrote
    where
      by : Wrote s code words act x now → (n (Bid q) ≡ m (Bid q)) ⊎ StoresAt x q
      by (Nothing e) = inl (same (Bid q) e)
      by (Aside cell w is aside e) = inl (other (Bid q) cell w is (λ z. subst IsAside (sym z) aside) e)
      by (Notes p w is at e) = elim (cases_eq q p) [
        | inr ne ↦ inl (other (Bid q) (MessageWord p) w is (λ z. ne (ap message_place z)) e)
        | inl one ↦ inr (subst (StoresAt x) (sym one) at)
      ]
      by (Carries c p is moves e) = inl (other (Bid q) (CarryWord c) p is (λ z. cc) e)
      by (Dies c is hard e) = inl (other (Bid q) (DeadWord c) 1 is (λ z. cc) e)
      by (Holds seat v old new next at is kind raises was e) = inl (other (Bid q) (HolderWord v) _ is (λ z. cc) e)
      by (Restarts p re is here gives e) = inl (other (Bid q) (RestartWord p) _ is (λ z. cc) e)
      by (Changed v i old new is fits law was e) = inl (other (Bid q) (EntryWord v i) _ is (λ z. cc) e)

  -- holder words
  abbrev MadeOf : ℕ → Type 0
  MadeOf v = Made s words x now v

  made_of : (seat : Seat) (v : ℕ) (old new : Content) (next : Then) → x ≡ IsWithin seat (Exchange (HolderWord v) old new next) → v < s.processors
      → kinds s words seat.place ≡ seat.restart.kind → RaisesHolder s code m seat v old new → read s words (HolderWord v) ≡ word_of old
      → now ≡ store s words (HolderWord v) (word_of new) → MadeOf v
  made_of seat v (AHolder o) (AHolder w) next at is kind raises was e =
      let shown = lt-ltb v s.processors is in
      let tag_is = raises.0 in
      let before : m (Holder v) ≡ Held o.tag o.processor =
      shows s words (Holder v) shown ∙ ap (λ (a : ℕ). word_as (content_of AsHolder a)) was ∙ ap word_as (again (AHolder o) tt raises.2) in
      let after : n (Holder v) ≡ Held w.tag w.processor =
      ap (λ (l : List ℕ). view s l (Holder v)) e ∙ view_here s words (Holder v) (word_of (AHolder w)) fit shown
      ∙ ap word_as (again (AHolder w) tt raises.3) in
      let same_tag = ap (λ (a : ℕ). Held a w.processor) raises.0 ∙ ap (Held (o.tag + 1)) raises.1 in
      record {
        seat = seat;
        old = AHolder o;
        new = AHolder w;
        next = next;
        at = at;
        was = o.processor;
        kind = raises.4;
        here = kind ∙ raises.4;
        before = o.tag;
        old_is = before;
        new_is = after ∙ same_tag;
        told = raises.5 ∙ same_tag;
      }
  made_of seat v (AHolder o) _ next at is kind raises was e = absurd raises
  made_of seat v _ w next at is kind raises was e = absurd raises

  pub holder_goes : (v : ℕ) → (n (Holder v) ≡ m (Holder v)) ⊎ MadeOf v
  holder_goes v = by wrote
    where
      by : Wrote s code words act x now → (n (Holder v) ≡ m (Holder v)) ⊎ MadeOf v
      by (Nothing e) = inl (same (Holder v) e)
      by (Aside cell w is aside e) = inl (other (Holder v) cell w is (λ z. subst IsAside (sym z) aside) e)
      by (Notes p w is at e) = inl (other (Holder v) (MessageWord p) w is (λ z. cc) e)
      by (Carries c p is moves e) = inl (other (Holder v) (CarryWord c) p is (λ z. cc) e)
      by (Dies c is hard e) = inl (other (Holder v) (DeadWord c) 1 is (λ z. cc) e)
      by (Holds seat w old new next at is kind raises was e) = elim (cases_eq v w) [
        | inr ne ↦ inl (other (Holder v) (HolderWord w) _ is (λ z. ne (ap holder_place z)) e)
        | inl one ↦ inr (subst MadeOf (sym one) (made_of seat w old new next at is kind raises was e))
      ]
      by (Restarts p re is here gives e) = inl (other (Holder v) (RestartWord p) _ is (λ z. cc) e)
      by (Changed w i old new is fits law was e) = inl (other (Holder v) (EntryWord w i) _ is (λ z. cc) e)
