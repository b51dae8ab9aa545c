-- The view of the words after a store.
use Rattle.std.proofs.Common.{◌≡◌, ◌≢◌, ◌<◌, ℕ, Bool, true, false, if◌then◌else◌, List, Option, Some, None, inl, inr, refl, sym, ap, ◌∙◌, subst}
use Rattle.std.specs.Prelude.{nat_lt, ◌&&◌}
use Rattle.std.proofs.lemmas.Bool.{cases_eq, ltb-true, lt-ltb}
use mathlib.Core.Path.{fun_ext}
use Rattle.ppm_cells.specs.Cells.{IsCell}
use Rattle.ppm_cells.specs.Entry.{entry_word, entry_of, IsEntry}
use Rattle.ppm_cells.specs.Holder.{holder_word, holder_of, IsHolder}
use Rattle.ppm_cells.specs.Memory.{read, write as store, AreWordsOf}
use Rattle.ppm_cells.specs.Restart.{restart_word, restart_of, IsRestart}
use Rattle.ppm_cells.specs.declared.cell.Cell.{Cell}
use Rattle.ppm_cells.specs.declared.cell.Cell.TheVariants as cells
use Rattle.ppm_cells.specs.declared.entry.Entry.{Entry}
use Rattle.ppm_cells.specs.declared.entry.Entry.TheVariants as entries
use Rattle.ppm_cells.specs.declared.holder.Holder.{Holder as AHold}
use Rattle.ppm_cells.specs.declared.restart.Restart.{Restart}
use Rattle.ppm_cells.specs.declared.shape.Shape.{Shape}
use Rattle.ppm_cells.proofs.EntryLemmas.{entries_exact}
use Rattle.ppm_cells.proofs.HolderLemmas.{holders_exact}
use Rattle.ppm_cells.proofs.RestartLemmas.{restarts_exact}
use Rattle.ppm_cells.proofs.ExactLemmas.{unpack-pack, pack-unpack}
use Rattle.ppm_cells.proofs.MemoryLemmas.{read_back, others}
use Rattle.ppm_step.proofs.ContentLemmas.{content_fits}
use Rattle.ppm_step.proofs.ThereLemmas.{addressable}
use Rattle.ppm_step.specs.Contents.{content_of, word_of, read_so, IsContent}
use Rattle.ppm_step.specs.There.{is_there}
use Rattle.ppm_step.specs.declared.content.Content.{Content}
use Rattle.ppm_step.specs.declared.content.Content.TheVariants.{ANumber, AnEntry, AHolder}
use Rattle.ppm_step.specs.declared.content.Reading.{Reading}
use Rattle.ppm_step.specs.declared.content.Reading.TheVariants.{AsNumber, AsEntry, AsHolder}
use Rattle.ppm_tickets.specs.View.{word_as, content_by, reading_by, cell_of, reading_of, is_shown, absent, view, seeking, restart_or, restart_at, kinds, bottoms}
use Rattle.ppm_tickets.specs.Words.{Word, Spot, Message, Bid, Top, Slot, Holder, Carry, Dead, Restart as RestartSpot, Other, put, write}
use Rattle.ppm_tickets.proofs.WriteLemmas.{put_here, put_else, write_here, write_else, same_spot_or}

pub if_true : {A : Type 0} (t : Bool) (a b : A) → t ≡ true → (if t then a else b) ≡ a
if_true true a b e = refl
if_true false a b e = absurd (cc)

pub if_false : {A : Type 0} (t : Bool) (a b : A) → t ≡ false → (if t then a else b) ≡ b
if_false true a b e = absurd (cc)
if_false false a b e = refl

-- readings that words have
abbrev pub IsPlainly : Reading → Type 0
IsPlainly AsNumber = Unit {0}
IsPlainly AsEntry = Unit {0}
IsPlainly AsHolder = Unit {0}
IsPlainly _ = ⊥

back_entry : (o : Option Entry) → content_by (word_as (read_so AnEntry o)) ≡ read_so AnEntry o
back_entry None = refl
back_entry (Some (entries.Empty t)) = refl
back_entry (Some (entries.Local t x)) = refl
back_entry (Some (entries.Job t x)) = refl
back_entry (Some (entries.Taken t x)) = refl

back_holder : (o : Option AHold) → content_by (word_as (read_so AHolder o)) ≡ read_so AHolder o
back_holder None = refl
back_holder (Some h) = refl

-- what was read is what its word stands for
pub back : (r : Reading) (raw : ℕ) → IsPlainly r → content_by (word_as (content_of r raw)) ≡ content_of r raw
back AsNumber raw p = refl
back AsEntry raw p = back_entry (entry_of raw)
back AsHolder raw p = back_holder (holder_of raw)
back _ raw p = absurd p

-- contents that are numbers, entries or holders
abbrev pub IsPlain : Content → Type 0
IsPlain (ANumber n) = Unit {0}
IsPlain (AnEntry e) = Unit {0}
IsPlain (AHolder h) = Unit {0}
IsPlain _ = ⊥

pub back_plain : (x : Content) → IsPlain x → content_by (word_as x) ≡ x
back_plain (ANumber n) p = refl
back_plain (AnEntry (entries.Empty t)) p = refl
back_plain (AnEntry (entries.Local t x)) p = refl
back_plain (AnEntry (entries.Job t x)) p = refl
back_plain (AnEntry (entries.Taken t x)) p = refl
back_plain (AHolder h) p = refl
back_plain _ p = absurd p

-- what is stored is read again
pub again : (x : Content) → IsPlain x → IsContent x → content_of (reading_by x) (word_of x) ≡ x
again (ANumber n) p fit = refl
again (AnEntry e) p fit = ap (read_so AnEntry) (unpack-pack entry_word IsEntry entry_of entries_exact e fit)
again (AHolder h) p fit = ap (read_so AHolder) (unpack-pack holder_word IsHolder holder_of holders_exact h fit)
again _ p fit = absurd p

entry_only : (o : Option Entry) (e : Entry) → read_so AnEntry o ≡ AnEntry e → o ≡ Some e
entry_only None e k = absurd (cc)
entry_only (Some d) e k = cc

holder_only : (o : Option AHold) (h : AHold) → read_so AHolder o ≡ AHolder h → o ≡ Some h
holder_only None h k = absurd (cc)
holder_only (Some d) h k = cc

-- and a word that is read so is its word
pub packed : (x : Content) (raw : ℕ) → IsPlain x → content_of (reading_by x) raw ≡ x → raw ≡ word_of x
packed (ANumber n) raw p e = cc
packed (AnEntry e) raw p k = sym (pack-unpack entry_word IsEntry entry_of entries_exact raw e (entry_only (entry_of raw) e k))
packed (AHolder h) raw p k = sym (pack-unpack holder_word IsHolder holder_of holders_exact raw h (holder_only (holder_of raw) h k))
packed _ raw p k = absurd p

plainly : (x : Content) → IsPlain x → IsPlainly (reading_by x)
plainly (ANumber n) p = tt
plainly (AnEntry e) p = tt
plainly (AHolder h) p = tt
plainly _ p = absurd p

pub packed_as : (x : Content) (raw : ℕ) → IsPlain x → word_as (content_of (reading_by x) raw) ≡ word_as x → raw ≡ word_of x
packed_as x raw p e = packed x raw p (sym (back (reading_by x) raw (plainly x p)) ∙ ap content_by e ∙ back_plain x p)

both : (a b : Bool) → (a && b) ≡ true → (a ≡ true) × (b ≡ true)
both true b e = (refl, e)
both false b e = absurd (cc)

module _ (s : Shape) where
  pub shown_cell : (d : Spot) → is_shown s d ≡ true → IsCell s (cell_of d)
  shown_cell (Message p) e = ltb-true p s.processors e
  shown_cell (Bid p) e = ltb-true p s.processors e
  shown_cell (Top v) e = ltb-true v s.processors e
  shown_cell (Slot v i) e = let two = both (nat_lt v s.processors) (nat_lt i s.slots) e in (ltb-true v s.processors two.0, ltb-true i s.slots two.1)
  shown_cell (Holder v) e = ltb-true v s.processors e
  shown_cell (Carry c) e = ltb-true c s.processors e
  shown_cell (Dead c) e = ltb-true c s.processors e
  shown_cell (RestartSpot c) e = absurd (cc)
  shown_cell Other e = absurd (cc)

  pub shown_there : (d : Spot) → is_shown s d ≡ true → is_there s (cell_of d) ≡ true
  shown_there (RestartSpot c) e = absurd (cc)
  shown_there Other e = absurd (cc)
  shown_there (Message p) e = e
  shown_there (Bid p) e = e
  shown_there (Top v) e = e
  shown_there (Slot v i) e = e
  shown_there (Holder v) e = e
  shown_there (Carry c) e = e
  shown_there (Dead c) e = e

  -- what a spot shows is what its cell is read as
  pub shows : (words : List ℕ) (d : Spot) → is_shown s d ≡ true → view s words d ≡ word_as (content_of (reading_of d) (read s words (cell_of d)))
  shows words d e = if_true (is_shown s d) _ _ e

  spot_plainly : (d : Spot) → IsPlainly (reading_of d)
  spot_plainly (Message p) = tt
  spot_plainly (Bid p) = tt
  spot_plainly (Slot v i) = tt
  spot_plainly (Holder v) = tt
  spot_plainly (Top v) = tt
  spot_plainly (Carry v) = tt
  spot_plainly (Dead v) = tt
  spot_plainly (RestartSpot v) = tt
  spot_plainly Other = tt

  pub shows_content : (words : List ℕ) (d : Spot) → is_shown s d ≡ true → content_by (view s words d) ≡ content_of (reading_of d) (read s words (cell_of d))
  shows_content words d e = ap content_by (shows words d e) ∙ back (reading_of d) (read s words (cell_of d)) (spot_plainly d)

  pub shows_fit : (words : List ℕ) (d : Spot) → is_shown s d ≡ true → IsContent (content_by (view s words d))
  shows_fit words d e = subst IsContent (sym (shows_content words d e)) (content_fits (reading_of d) (read s words (cell_of d)))

  -- a store elsewhere
  pub view_else : (words : List ℕ) (c : Cell) (w : ℕ) (d : Spot) → IsCell s c → (is_shown s d ≡ true → cell_of d ≢ c) → view s (store s words c w) d ≡ view s words d
  view_else words c w d there ne = by (is_shown s d) refl
    where
      by : (t : Bool) → is_shown s d ≡ t → (if t then word_as (content_of (reading_of d) (read s (store s words c w) (cell_of d))) else absent d)
          ≡ (if t then word_as (content_of (reading_of d) (read s words (cell_of d))) else absent d)
      by true e = ap (λ (n : ℕ). word_as (content_of (reading_of d) n)) (others s words c (cell_of d) w there (shown_cell d e) (ne e))
      by false e = refl

  pub view_here : (words : List ℕ) (d : Spot) (w : ℕ) → AreWordsOf s words → is_shown s d ≡ true → view s (store s words (cell_of d) w) d ≡ word_as (content_of (reading_of d) w)
  view_here words d w fit e = shows (store s words (cell_of d) w) d e
      ∙ ap (λ (n : ℕ). word_as (content_of (reading_of d) n)) (read_back s words (cell_of d) w fit (addressable s (cell_of d) (shown_there d e)))

  -- no spot shows it
  pub view_kept : (words : List ℕ) (c : Cell) (w : ℕ) → IsCell s c → ((d : Spot) → is_shown s d ≡ true → cell_of d ≢ c) → view s (store s words c w) ≡ view s words
  view_kept words c w there ne = fun_ext (λ d. view_else words c w d there (ne d))

  -- one spot alone shows it
  abbrev pub IsLone : Spot → Type 0
  IsLone d = (e : Spot) → is_shown s e ≡ true → cell_of e ≡ cell_of d → e ≡ d

  pub view_written : (words : List ℕ) (d : Spot) (w : ℕ) → AreWordsOf s words → is_shown s d ≡ true → IsLone d → view s (store s words (cell_of d) w) ≡ write (view s words) d (word_as (content_of (reading_of d) w))
  view_written words d w fit there lone = fun_ext (λ e. elim (same_spot_or e d) [
    | inl same ↦ ap (view s (store s words (cell_of d) w)) same ∙ view_here words d w fit there ∙ sym (ap (write (view s words) d (word_as (content_of (reading_of d) w))) same ∙ write_here (view s words) d (word_as (content_of (reading_of d) w)))
    | inr ne ↦ view_else words (cell_of d) w e (shown_cell d there) (λ shown at. ne (lone e shown at)) ∙ sym (write_else (view s words) d (word_as (content_of (reading_of d) w)) e ne)
  ])

  pub lone_slot : (v i : ℕ) → IsLone (Slot v i)
  lone_slot v i (Slot a c) shown at = cc
  lone_slot v i Other shown at = absurd (cc)
  lone_slot v i (RestartSpot a) shown at = absurd (cc)
  lone_slot v i _ shown at = absurd (cc)

  pub lone_top : (v : ℕ) → IsLone (Top v)
  lone_top v (Top a) shown at = cc
  lone_top v (RestartSpot a) shown at = absurd (cc)
  lone_top v _ shown at = absurd (cc)

  pub lone_holder : (v : ℕ) → IsLone (Holder v)
  lone_holder v (Holder a) shown at = cc
  lone_holder v (RestartSpot a) shown at = absurd (cc)
  lone_holder v _ shown at = absurd (cc)

  pub lone_carry : (v : ℕ) → IsLone (Carry v)
  lone_carry v (Carry a) shown at = cc
  lone_carry v (RestartSpot a) shown at = absurd (cc)
  lone_carry v _ shown at = absurd (cc)

  pub lone_dead : (v : ℕ) → IsLone (Dead v)
  lone_dead v (Dead a) shown at = cc
  lone_dead v (RestartSpot a) shown at = absurd (cc)
  lone_dead v _ shown at = absurd (cc)

  message_spot : (p : ℕ) (e : Spot) → is_shown s e ≡ true → e ≢ Message p → e ≢ Bid p → cell_of e ≢ cells.MessageWord p
  message_spot p (Message q) shown a z at = a (cc)
  message_spot p (Bid q) shown a z at = z (cc)
  message_spot p (RestartSpot q) shown a z at = absurd (cc)
  message_spot p _ shown a z at = cc

  -- a message is shown twice
  pub message_written : (words : List ℕ) (p w : ℕ) → AreWordsOf s words → p < s.processors
      → view s (store s words (cells.MessageWord p) w) ≡ write (write (view s words) (Message p) (word_as (content_of AsEntry w))) (Bid p) (word_as (content_of AsHolder w))
  message_written words p w fit there = fun_ext each
    where
      is : nat_lt p s.processors ≡ true
      is = lt-ltb p s.processors there

      one : Spot → Word
      one = write (view s words) (Message p) (word_as (content_of AsEntry w))

      each : (e : Spot) → view s (store s words (cells.MessageWord p) w) e ≡ write one (Bid p) (word_as (content_of AsHolder w)) e
      each e = elim (same_spot_or e (Bid p)) [
        | inl same ↦ ap (view s (store s words (cells.MessageWord p) w)) same ∙ view_here words (Bid p) w fit is ∙ sym (ap (write one (Bid p) (word_as (content_of AsHolder w))) same ∙ write_here one (Bid p) (word_as (content_of AsHolder w)))
        | inr nb ↦ elim (same_spot_or e (Message p)) [
          | inl same ↦ ap (view s (store s words (cells.MessageWord p) w)) same ∙ view_here words (Message p) w fit is
              ∙ sym (write_else one (Bid p) (word_as (content_of AsHolder w)) e nb ∙ ap one same ∙ write_here (view s words) (Message p) (word_as (content_of AsEntry w)))
          | inr nm ↦ view_else words (cells.MessageWord p) w e there (λ shown at. message_spot p e shown nm nb at)
              ∙ sym (write_else one (Bid p) (word_as (content_of AsHolder w)) e nb ∙ write_else (view s words) (Message p) (word_as (content_of AsEntry w)) e nm)
        ]
      ]

  -- restarts
  pub restart_else : (words : List ℕ) (c : Cell) (w : ℕ) → IsCell s c → (q : ℕ) → (q < s.processors → cells.RestartWord q ≢ c) → restart_at s (store s words c w) q ≡ restart_at s words q
  restart_else words c w there q ne = by (nat_lt q s.processors) refl
    where
      by : (t : Bool) → nat_lt q s.processors ≡ t → (if t then restart_or (restart_of (read s (store s words c w) (cells.RestartWord q))) else seeking)
          ≡ (if t then restart_or (restart_of (read s words (cells.RestartWord q))) else seeking)
      by true e = let lt = ltb-true q s.processors e in ap (λ (n : ℕ). restart_or (restart_of n)) (others s words c (cells.RestartWord q) w there lt (ne lt))
      by false e = refl

  pub restart_here : (words : List ℕ) (p : ℕ) (r : Restart) → AreWordsOf s words → p < s.processors → IsRestart r → restart_at s (store s words (cells.RestartWord p) (restart_word r)) p ≡ r
  restart_here words p r fit there ok = if_true (nat_lt p s.processors) _ _ (lt-ltb p s.processors there)
      ∙ ap (λ (n : ℕ). restart_or (restart_of n)) (read_back s words (cells.RestartWord p) (restart_word r) fit there)
      ∙ ap restart_or (unpack-pack restart_word IsRestart restart_of restarts_exact r ok)

  pub restarts_kept : (words : List ℕ) (c : Cell) (w : ℕ) → IsCell s c → ((q : ℕ) → cells.RestartWord q ≢ c) → restart_at s (store s words c w) ≡ restart_at s words
  restarts_kept words c w there ne = fun_ext (λ q. restart_else words c w there q (λ lt. ne q))

  put_as : {A : Type 0} (f g : ℕ → A) (p : ℕ) (x : A) → g p ≡ x → ((q : ℕ) → q ≢ p → g q ≡ f q) → g ≡ put f p x
  put_as f g p x here there = fun_ext (λ q. elim (cases_eq q p) [
    | inl e ↦ ap g e ∙ here ∙ sym (ap (put f p x) e ∙ put_here f p x)
    | inr ne ↦ there q ne ∙ sym (put_else f p x q ne)
  ])

  pub kinds_put : (words : List ℕ) (p : ℕ) (r : Restart) → AreWordsOf s words → p < s.processors → IsRestart r
      → kinds s (store s words (cells.RestartWord p) (restart_word r)) ≡ put (kinds s words) p r.kind
  kinds_put words p r fit there ok = put_as (kinds s words) (kinds s (store s words (cells.RestartWord p) (restart_word r))) p r.kind
      (ap (λ (x : Restart). x.kind) (restart_here words p r fit there ok)) (λ q ne. ap (λ (x : Restart). x.kind) (restart_else words (cells.RestartWord p) (restart_word r) there q (λ lt e. ne (cc))))

  pub bottoms_put : (words : List ℕ) (p : ℕ) (r : Restart) → AreWordsOf s words → p < s.processors → IsRestart r
      → bottoms s (store s words (cells.RestartWord p) (restart_word r)) ≡ put (bottoms s words) p r.bottom
  bottoms_put words p r fit there ok = put_as (bottoms s words) (bottoms s (store s words (cells.RestartWord p) (restart_word r))) p r.bottom
      (ap (λ (x : Restart). x.bottom) (restart_here words p r fit there ok)) (λ q ne. ap (λ (x : Restart). x.bottom) (restart_else words (cells.RestartWord p) (restart_word r) there q (λ lt e. ne (cc))))
