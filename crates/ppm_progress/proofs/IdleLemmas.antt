-- A place that looks for work has no job in its deque. It begins to look where it has found the entry below its bottom taken, and then all below
-- are. While it looks its bottom is the only local entry, so the bottom stays; and what is taken stays so.
use Rattle.std.proofs.Common.{◌≡◌, ◌≢◌, ◌⊎◌, ◌<◌, ◌+◌, ◌-◌, ℕ, Bool, true, false, List, inl, inr, refl, sym, ap, ◌∙◌, subst, arith}
use Rattle.std.proofs.lemmas.Bool.{cases_eq, cases_lt, lt-ltb, and_from, true≢false}
use Rattle.ppm_cells.specs.Cells.{IsCell}
use Rattle.ppm_cells.specs.Entry.{IsEntry}
use Rattle.ppm_cells.specs.Memory.{read, write as store}
use Rattle.ppm_cells.specs.declared.cell.Cell.{Cell}
use Rattle.ppm_cells.specs.declared.cell.Cell.TheVariants.{CarryWord, DeadWord, RestartWord, MessageWord, HolderWord, EntryWord}
use Rattle.ppm_cells.specs.declared.entry.Entry.{Entry}
use Rattle.ppm_cells.specs.declared.entry.Entry.TheVariants as entries
use Rattle.ppm_cells.specs.declared.restart.Restart.{Restart}
use Rattle.ppm_cells.specs.declared.restart.RestartKind.{RestartKind}
use Rattle.ppm_cells.specs.declared.restart.RestartKind.TheVariants.{Run, Bump, Push1, Push2, Unwind, Arrive, Join, Pop1, Pop2, Seek, Steal, Check, Take, Take2}
use Rattle.ppm_cells.specs.declared.shape.Shape.{Shape}
use Rattle.ppm_cells.specs.declared.shape.Takeover.{Takeover}
use Rattle.ppm_code.specs.declared.code.CodeParts.{CodeParts}
use Rattle.ppm_cells.specs.DequeChange.{Changes}
use Rattle.ppm_step.specs.Contents.{content_of, word_of}
use Rattle.ppm_step.specs.Rows.{row_of}
use Rattle.ppm_step.specs.Standings.{Standing}
use Rattle.ppm_step.specs.State.{is_work}
use Rattle.ppm_step.specs.declared.content.Content.TheVariants.{AnEntry}
use Rattle.ppm_step.specs.declared.content.Reading.TheVariants.{AsEntry}
use Rattle.ppm_step.specs.declared.row.Row.TheVariants.{Now}
use Rattle.ppm_step.specs.declared.row.Then.TheVariants.{Install}
use Rattle.ppm_step.specs.declared.turn.Act.{Act}
use Rattle.ppm_tickets.specs.Lawful.{IsEmpty, IsLocal, IsTaken, IsTicket, AtBottom, Deque}
use Rattle.ppm_tickets.specs.Saw.{IsStrand, IsStrandOrPop, IsQuiet, HasSeen, Strand, Looks}
use Rattle.ppm_tickets.specs.View.{word_as, is_shown, view}
use Rattle.ppm_tickets.specs.Words.{Word, Local, Spot, Slot}
use Rattle.ppm_tickets.proofs.QuietLemmas.{begun_quiet, rest_quiet}
use Rattle.ppm_tickets.proofs.ViewLemmas.{shows, again, view_else}
use Rattle.ppm_kept.specs.Pushing.{kind_seat}
use Rattle.ppm_runs.proofs.AgreeLemmas.{IsRunKind, push1_shape}
use Rattle.ppm_progress.proofs.PopRows.{GoesIdleSo, InstallsSo, push2_so, pop1_so, pop2_so}
use Rattle.ppm_progress.proofs.WriteLemmas.{IsAside, Wrote, Nothing, Aside, Notes, Carries, Dies, Holds, Restarts, Changed}

abbrev entry_place : Cell → ℕ
entry_place (EntryWord v i) = v
entry_place _ = 0

abbrev entry_slot : Cell → ℕ
entry_slot (EntryWord v i) = i
entry_slot _ = 0

-- no lawful change is of a taken entry
taken_changes : (how : Takeover) (e n : Entry) → IsTaken (word_as (AnEntry e)) → Changes how e n → ⊥
taken_changes how (entries.Taken t x) n is (inl owner) = owner
taken_changes how (entries.Taken t x) n is (inr thief) = thief.2
taken_changes how (entries.Empty t) n is law = is
taken_changes how (entries.Local t x) n is law = is
taken_changes how (entries.Job t x) n is law = is

-- what is taken stays taken
module _ (s : Shape) (code : CodeParts) (words : List ℕ) (act : Act) (x : Standing) (now : List ℕ) (v i : ℕ) (is : IsTaken (view s words (Slot v i))) where
  abbrev Same : Type 0
  Same = view s now (Slot v i) ≡ view s words (Slot v i)

  -- another word was written
  unwritten : (cell : Cell) (n : ℕ) → IsCell s cell → EntryWord v i ≢ cell → now ≡ store s words cell n → Same
  unwritten cell n there ne e =
      ap (λ (l : List ℕ). view s l (Slot v i)) e ∙ view_else s words cell n (Slot v i) there (λ shown. ne)

  -- the entry itself is not changed
  entry_kept : (old new : Entry) → IsCell s (EntryWord v i) → IsEntry old → Changes s.takeover old new
      → read s words (EntryWord v i) ≡ word_of (AnEntry old) → ⊥
  entry_kept old new cell fits law was =
      let there : is_shown s (Slot v i) ≡ true = and_from _ _ (lt-ltb v s.processors cell.0) (lt-ltb i s.slots cell.1) in
      let shown : view s words (Slot v i) ≡ word_as (AnEntry old) =
      shows s words (Slot v i) there ∙ ap (λ (n : ℕ). word_as (content_of AsEntry n)) was ∙ ap word_as (again (AnEntry old) tt fits) in
      taken_changes s.takeover old new (subst IsTaken shown is) law

  changed_kept : (p j : ℕ) (old new : Entry) → IsCell s (EntryWord p j) → IsEntry old → Changes s.takeover old new
      → read s words (EntryWord p j) ≡ word_of (AnEntry old) → now ≡ store s words (EntryWord p j) (word_of (AnEntry new)) → Same
  changed_kept p j old new cell fits law was e = elim (cases_eq v p) [
    | inr ne ↦ unwritten (EntryWord p j) (word_of (AnEntry new)) cell (λ z. ne (ap entry_place z)) e
    | inl vp ↦ elim (cases_eq i j) [
      | inr ne ↦ unwritten (EntryWord p j) (word_of (AnEntry new)) cell (λ z. ne (ap entry_slot z)) e
      | inl ij ↦
          let same : EntryWord p j ≡ EntryWord v i = λ k. EntryWord (sym vp k) (sym ij k) in
          absurd (entry_kept old new (subst (IsCell s) same cell) fits law (subst (λ (c : Cell). read s words c ≡ word_of (AnEntry old)) same was))
    ]
  ]

  pub taken_same : Wrote s code words act x now → Same
  taken_same (Nothing e) = ap (λ (l : List ℕ). view s l (Slot v i)) e
  taken_same (Aside cell n there aside e) = unwritten cell n there (λ z. subst IsAside (sym z) aside) e
  taken_same (Notes p n there at e) = unwritten (MessageWord p) n there (λ z. cc) e
  taken_same (Carries c p there moves e) = unwritten (CarryWord c) p there (λ z. cc) e
  taken_same (Dies c there hard e) = unwritten (DeadWord c) 1 there (λ z. cc) e
  taken_same (Holds seat p old new next at there kind raises was e) = unwritten (HolderWord p) _ there (λ z. cc) e
  taken_same (Restarts p re there here gives e) = unwritten (RestartWord p) _ there (λ z. cc) e
  taken_same (Changed p j old new cell fits law was e) = changed_kept p j old new cell fits law was e

  pub taken_stays : Wrote s code words act x now → IsTaken (view s now (Slot v i))
  taken_stays wrote = subst IsTaken (sym (taken_same wrote)) is

-- a place that looks for work has one local entry, at its bottom
pub idle_bottom : (k : RestartKind) (d w u : Word) → is_work k ≡ false → AtBottom k d w u → IsTicket d × IsLocal w × IsEmpty u
idle_bottom Seek d w u idle at = at
idle_bottom (Steal v i) d w u idle at = at
idle_bottom (Check v i) d w u idle at = at
idle_bottom (Take v h) d w u idle at = at
idle_bottom (Take2 v) d w u idle at = at
idle_bottom (Run f y) d w u idle at = absurd (true≢false idle)
idle_bottom (Bump r) d w u idle at = absurd (true≢false idle)
idle_bottom (Push1 r) d w u idle at = absurd (true≢false idle)
idle_bottom (Push2 r) d w u idle at = absurd (true≢false idle)
idle_bottom (Unwind f) d w u idle at = absurd (true≢false idle)
idle_bottom (Arrive r e) d w u idle at = absurd (true≢false idle)
idle_bottom (Join r e) d w u idle at = absurd (true≢false idle)
idle_bottom Pop1 d w u idle at = absurd (true≢false idle)
idle_bottom (Pop2 r) d w u idle at = absurd (true≢false idle)

ticket_not_local : (w : Word) → IsTicket w → IsLocal w → ⊥
ticket_not_local (Local t x) (inl a) c = a
ticket_not_local (Local t x) (inr a) c = a
ticket_not_local _ a c = absurd c

empty_not_local : (w : Word) → IsEmpty w → IsLocal w → ⊥
empty_not_local (Local t x) a c = a
empty_not_local _ a c = absurd c

module _ (e : ℕ → Word) (k : RestartKind) (b : ℕ) (deque : Deque k b e) (idle : is_work k ≡ false) where
  shape : IsTicket (e (b - 1)) × IsLocal (e b) × IsEmpty (e (b + 1))
  shape = idle_bottom k (e (b - 1)) (e b) (e (b + 1)) idle deque.here

  below_ticket : (i : ℕ) → i < b → IsTicket (e i)
  below_ticket i lt = elim (cases_eq (i + 1) b) [
    | inl last ↦ subst (λ (n : ℕ). IsTicket (e n)) (omega (arith, last)) shape.0
    | inr ne ↦ deque.below i (omega (arith, lt, ne))
  ]

  above_empty : (i : ℕ) → b < i → IsEmpty (e i)
  above_empty i lt = elim (cases_eq i (b + 1)) [
    | inl next ↦ subst (λ (n : ℕ). IsEmpty (e n)) (sym next) shape.2
    | inr ne ↦ deque.above i (omega (arith, lt, ne))
  ]

  pub local_is_bottom : (i : ℕ) → IsLocal (e i) → i ≡ b
  local_is_bottom i local_ = elim (cases_eq i b) [
    | inl same ↦ same
    | inr ne ↦ elim (cases_lt i b) [
      | inl lt ↦ absurd (ticket_not_local (e i) (below_ticket i lt) local_)
      | inr le ↦ absurd (empty_not_local (e i) (above_empty i (omega (arith, le, ne))) local_)
    ]
  ]

  pub no_job_idle : (i : ℕ) → ((j : ℕ) → j < b → IsTaken (e j)) → IsTaken (e i) ⊎ (IsLocal (e i) ⊎ IsEmpty (e i))
  no_job_idle i taken = elim (cases_lt i b) [
    | inl lt ↦ inl (taken i lt)
    | inr le ↦ elim (cases_eq i b) [
      | inl same ↦ inr (inl (subst (λ (n : ℕ). IsLocal (e n)) (sym same) shape.1))
      | inr ne ↦ inr (inr (above_empty i (omega (arith, le, ne))))
    ]
  ]

-- strands, and what runs a frame, are work
run_is_work : (k : RestartKind) → IsRunKind k → is_work k ≡ true
run_is_work (Run f y) is = refl
run_is_work _ is = absurd is

strand_is_work : (k : RestartKind) → IsStrandOrPop k → is_work k ≡ true
strand_is_work (Run f y) is = refl
strand_is_work (Bump r) is = refl
strand_is_work (Unwind f) is = refl
strand_is_work (Arrive r d) is = refl
strand_is_work (Join r d) is = refl
strand_is_work Pop1 is = refl
strand_is_work _ is = absurd is

pub installs_work : (k : RestartKind) → IsStrand k → is_work k ≡ true
installs_work (Run f y) is = refl
installs_work (Bump r) is = refl
installs_work (Unwind f) is = refl
installs_work (Arrive r d) is = refl
installs_work (Join r d) is = refl
installs_work _ is = absurd is

pub not_both : (b : Bool) → b ≡ true → b ≡ false → ⊥
not_both b yes_ no_ = true≢false (sym yes_ ∙ no_)

-- a place of work goes on with work, or it has found the entry below its bottom taken
module _ (s : Shape) (m : Spot → Word) (own p b : ℕ) (re : Restart) where
  abbrev Seen : RestartKind → Type 0
  Seen k = HasSeen s m (kind_seat own p k b) (Now (Install re))

  abbrev So : Type 0
  So = GoesIdleSo (m (Slot p (b - 1))) b re

  quiet : (k : RestartKind) → IsStrand k → Seen k → So
  quiet k strand (Strand is q) = inl (strand_is_work re.kind q.0)
  quiet k strand (Looks v ws fit is saw) =
      let seat = kind_seat own p k b in
      let all = subst (IsQuiet seat) is (rest_quiet seat s v (row_of s seat k) ws (begun_quiet seat s k refl strand)) in
      inl (strand_is_work re.kind all.0)

  pub work_goes : (k : RestartKind) → is_work k ≡ true → Seen k → So
  work_goes (Run f y) work seen = quiet (Run f y) tt seen
  work_goes (Bump r) work seen = quiet (Bump r) tt seen
  work_goes (Unwind f) work seen = quiet (Unwind f) tt seen
  work_goes (Arrive r d) work seen = quiet (Arrive r d) tt seen
  work_goes (Join r d) work seen = quiet (Join r d) tt seen
  work_goes (Push1 r) work seen = elim (push1_shape s own p b r (Now (Install re)) m seen) [
    | inl last ↦ inl (run_is_work re.kind last.1)
    | inr above ↦ elim above.1 [ inl push ↦ inl (ap is_work push.0) | inr runs ↦ inl (run_is_work re.kind runs.1) ]
  ]
  work_goes (Push2 r) work (Strand is q) = absurd is
  work_goes (Push2 r) work (Looks v ws fit is saw) = subst (InstallsSo (m (Slot p (b - 1))) b) is (push2_so s (kind_seat own p (Push2 r) b) v m r ws)
  work_goes Pop1 work (Strand is q) = absurd is
  work_goes Pop1 work (Looks v ws fit is saw) = subst (InstallsSo (m (Slot p (b - 1))) b) is (pop1_so s (kind_seat own p Pop1 b) v m ws saw)
  work_goes (Pop2 r) work (Strand is q) = absurd is
  work_goes (Pop2 r) work (Looks v ws fit is saw) = subst (InstallsSo (m (Slot p (b - 1))) b) is (pop2_so s (kind_seat own p (Pop2 r) b) v m r ws saw)
  work_goes Seek work seen = absurd (true≢false (sym work))
  work_goes (Steal v i) work seen = absurd (true≢false (sym work))
  work_goes (Check v i) work seen = absurd (true≢false (sym work))
  work_goes (Take v h) work seen = absurd (true≢false (sym work))
  work_goes (Take2 v) work seen = absurd (true≢false (sym work))
