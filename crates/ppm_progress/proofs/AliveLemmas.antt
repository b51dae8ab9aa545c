-- Without hard faults nobody dies. Then no bid is made: it would be for the place of a processor that is dead, since the tag that it raises stands
-- there. So each place keeps its holder, and each processor its place.
use Rattle.std.proofs.Common.{◌≡◌, ◌≢◌, ◌<◌, ◌+◌, ℕ, Bool, true, false, List, inl, inr, refl, sym, ap, ◌∙◌, subst, Option, arith}
use Rattle.std.specs.Prelude.{nat_lt}
use Rattle.std.proofs.lemmas.Bool.{lt-ltb, ltb-true}
use Rattle.ppm_words.specs.declared.named_array.NamedArray.{NamedArray}
use Rattle.ppm_cells.specs.Cells.{IsCell}
use Rattle.ppm_cells.specs.Memory.{read, write as store}
use Rattle.ppm_cells.specs.declared.cell.Cell.{Cell}
use Rattle.ppm_cells.specs.declared.cell.Cell.TheVariants.{CarryWord, DeadWord, RestartWord, MessageWord, HolderWord, EntryWord}
use Rattle.ppm_cells.specs.declared.holder.Holder.{Holder as AHold}
use Rattle.ppm_cells.specs.declared.restart.RestartKind.{RestartKind}
use Rattle.ppm_cells.specs.declared.restart.RestartKind.TheVariants.{Take}
use Rattle.ppm_cells.specs.declared.shape.Shape.{Shape}
use Rattle.ppm_cells.specs.declared.shape.Takeover.{Takeover}
use Rattle.ppm_cells.specs.declared.shape.Takeover.TheVariants.{ByPlaces, ByEntries}
use Rattle.ppm_code.specs.declared.code.CodeParts.{CodeParts}
use Rattle.ppm_layout.specs.Correct.{Opens}
use Rattle.ppm_layout.specs.declared.images.Image.{Image}
use Rattle.ppm_layout.proofs.ValueLemmas.{stands_for}
use Rattle.ppm_step.specs.Contents.{read_so, content_of, word_of}
use Rattle.ppm_step.specs.Standings.{Standing}
use Rattle.ppm_step.specs.declared.content.Content.{Content}
use Rattle.ppm_step.specs.declared.content.Content.TheVariants.{AHolder}
use Rattle.ppm_step.specs.declared.content.Reading.TheVariants.{AsHolder}
use Rattle.ppm_step.specs.declared.row.Seat.{Seat}
use Rattle.ppm_step.specs.declared.turn.Act.{Act}
use Rattle.ppm_step.specs.declared.turn.Act.TheVariants.{Hard}
use Rattle.ppm_tickets.specs.Lawful.{IsDead, IsAlive, Dooms, Holding, Names, Rooted, tag}
use Rattle.ppm_tickets.specs.View.{word_as, view, kinds}
use Rattle.ppm_tickets.specs.Words.{Word, Held, Number, Spot, Holder, Carry, Dead}
use Rattle.ppm_tickets.proofs.ViewLemmas.{shows, again, view_else, if_false}
use Rattle.ppm_runs.specs.Sound.{RaisesHolder}
use Rattle.ppm_progress.specs.Works.{IsNoHard}
use Rattle.ppm_progress.proofs.WriteLemmas.{IsAside, Wrote, Nothing, Aside, Notes, Carries, Dies, Holds, Restarts, Changed}

-- nobody is dead, and each place is held by its own processor
pub record AreAtHome (m : Spot → Word) : Type 0 where
  pub alive : (c : ℕ) → IsAlive m c
  pub held : (v : ℕ) → (t : ℕ) × (m (Holder v) ≡ Held t v)

not_hard : (act : Act) → IsNoHard act → act ≢ Hard
not_hard act none e = subst IsNoHard e none

module _ (s : Shape) (code : CodeParts) (words : List ℕ) (act : Act) (x : Standing) (now : List ℕ) (none : IsNoHard act)
    (home : AreAtHome (view s words)) (holding : Holding (view s words) (kinds s words)) where
  abbrev m : Spot → Word
  m = view s words

  abbrev Stays : Type 0
  Stays = AreAtHome (view s now)

  -- a word that is no dead word and no holder word was written
  elsewhere : (cell : Cell) (n : ℕ) → IsCell s cell → ((q : ℕ) → DeadWord q ≢ cell) → ((q : ℕ) → HolderWord q ≢ cell)
      → now ≡ store s words cell n → Stays
  elsewhere cell n is dead holder e = subst (λ (l : List ℕ). AreAtHome (view s l)) (sym e) (record {
    alive = λ c. subst (λ (w : Word). IsDead w → ⊥) (sym (view_else s words cell n (Dead c) is (λ shown. dead c))) (home.alive c);
    held = λ v. let was = home.held v in (was.0, view_else s words cell n (Holder v) is (λ shown. holder v) ∙ was.1);
  })

  -- a bid that is made raises the tag that stands there, for a processor that is dead
  no_bid : (seat : Seat) (v : ℕ) (old new : Content) → v < s.processors → kinds s words seat.place ≡ seat.restart.kind
      → RaisesHolder s code m seat v old new → read s words (HolderWord v) ≡ word_of old → ⊥
  no_bid seat v (AHolder o) (AHolder n) there kind raises was =
      let doom : Dooms m seat.place (Take v o.processor) = subst (Dooms m seat.place) (kind ∙ raises.4) (holding.doomed seat.place) in
      let before : m (Holder v) ≡ Held o.tag o.processor =
      shows s words (Holder v) (lt-ltb v s.processors there) ∙ ap (λ (w : ℕ). word_as (content_of AsHolder w)) was
      ∙ ap word_as (again (AHolder o) tt raises.2) in
      let stands : tag (m (Holder v)) ≡ o.tag = ap tag before in
      let bid : n.tag ≡ doom.0 + 1 = ap tag (sym raises.5 ∙ doom.2) in
      let up = raises.0 in
      elim doom.4 [ inl dead ↦ home.alive o.processor dead | inr late ↦ omega (arith, late, stands, bid, up) ]
  no_bid seat v _ _ there kind raises was = absurd raises

  pub stays_home : Wrote s code words act x now → Stays
  stays_home (Nothing e) = subst (λ (l : List ℕ). AreAtHome (view s l)) (sym e) home
  stays_home (Aside cell n is aside e) = elsewhere cell n is (λ q z. subst IsAside (sym z) aside) (λ q z. subst IsAside (sym z) aside) e
  stays_home (Notes p n is at e) = elsewhere (MessageWord p) n is (λ q z. cc) (λ q z. cc) e
  stays_home (Carries c p is moves e) = elsewhere (CarryWord c) p is (λ q z. cc) (λ q z. cc) e
  stays_home (Dies c is hard e) = absurd (not_hard act none hard)
  stays_home (Holds seat v old new next at is kind raises was e) = absurd (no_bid seat v old new is kind raises was)
  stays_home (Restarts p re is here gives e) = elsewhere (RestartWord p) _ is (λ q z. cc) (λ q z. cc) e
  stays_home (Changed v i old new is fits law was e) = elsewhere (EntryWord v i) _ is (λ q z. cc) (λ q z. cc) e

-- then each processor carries its own place
pub carries_own : (how : Takeover) (m : Spot → Word) (k : ℕ → RestartKind) → AreAtHome m → Holding m k → Rooted how m → (c : ℕ) → m (Carry c) ≡ Number c
carries_own ByEntries m k home holding rooted c = rooted c
carries_own ByPlaces m k home holding rooted c =
    let a = holding.carried c in
    let named = subst (λ (w : Word). Names w c) (home.held a.0).1 (holding.held c a.0 (home.alive c) a.1) in
    a.1 ∙ ap Number named

-- it is so where a run opens
module _ (code : CodeParts) (input : List NamedArray) (s : Shape) (keeper : ℕ) (im : Image) (opens : Opens code input s keeper im) where
  first_alive : (c : ℕ) → view s im.words (Dead c) ≡ Number 0
  first_alive c = by (nat_lt c s.processors) refl
    where
      by : (y : Bool) → nat_lt c s.processors ≡ y → view s im.words (Dead c) ≡ Number 0
      by true e = shows s im.words (Dead c) e ∙ ap Number (opens.image_is.opened (DeadWord c) (ltb-true c s.processors e))
      by false e = if_false (nat_lt c s.processors) _ (Number 0) e

  first_held : (v : ℕ) → view s im.words (Holder v) ≡ Held 0 v
  first_held v = by (nat_lt v s.processors) refl
    where
      by : (y : Bool) → nat_lt v s.processors ≡ y → view s im.words (Holder v) ≡ Held 0 v
      by true e =
          let lt = ltb-true v s.processors e in
          shows s im.words (Holder v) e ∙ ap (λ (o : Option AHold). word_as (read_so AHolder o)) ((stands_for code input s keeper im opens).holder v lt)
      by false e = if_false (nat_lt v s.processors) _ (Held 0 v) e

  pub first_home : AreAtHome (view s im.words)
  first_home = record { alive = λ c. subst (λ (w : Word). IsDead w → ⊥) (sym (first_alive c)) (λ z. z); held = λ v. (0, first_held v) }
