-- The row of a place that follows the closed places that it has inherited from, link by link.
use Rattle.std.proofs.Common.{◌≡◌, ◌≢◌, ◌⊎◌, ◌<◌, ◌≤◌, ◌-◌, ◌+◌, ◌==◌, if◌then◌else◌, ℕ, zero, suc, List, [], ◌∷◌, length, Bool, true, false, Option, Some, None, inl, inr, refl, sym, ap, ◌∙◌, subst, subst₂, arith, eqb-true, true≢false, le_refl}
use Rattle.std.specs.Prelude.{nat_lt, slice_get, ◌&&◌}
use Rattle.std.proofs.lemmas.Bool.{ltb-true, cases_Bool}
use Rattle.ppm_cells.specs.Memory.{read, AreWordsOf}
use Rattle.ppm_cells.specs.Restart.{restart_of}
use Rattle.ppm_cells.specs.Link.{link_of}
use Rattle.ppm_cells.specs.declared.cell.Cell.TheVariants as cells
use Rattle.ppm_cells.specs.declared.entry.Entry.{Entry as EntryOf}
use Rattle.ppm_cells.specs.declared.entry.Entry.TheVariants as entries
use Rattle.ppm_cells.specs.declared.link.Link.{Link}
use Rattle.ppm_cells.specs.declared.link.LinkKind.{LinkKind}
use Rattle.ppm_cells.specs.declared.link.LinkKind.TheVariants.{Root, Call, Branch, Fork as ForkLink}
use Rattle.ppm_cells.specs.declared.restart.Restart.{Restart as RestartOf}
use Rattle.ppm_cells.specs.declared.restart.RestartKind.{RestartKind}
use Rattle.ppm_cells.specs.declared.restart.RestartKind.TheVariants.{Run, Bump, Push1, Push2, Unwind, Arrive, Join, Pop1, Pop2, Seek, Steal, Check, Take, Take2}
use Rattle.ppm_cells.specs.declared.shape.Shape.{Shape}
use Rattle.ppm_cells.specs.declared.shape.Takeover.{Takeover}
use Rattle.ppm_cells.specs.declared.shape.Takeover.TheVariants.{ByPlaces, ByEntries}
use Rattle.ppm_code.specs.declared.code.CodeParts.{CodeParts}
use Rattle.ppm_step.specs.Contents.{read_so, IsContent}
use Rattle.ppm_step.specs.declared.content.Content.TheVariants.{ARestart, ALink}
use Rattle.ppm_step.specs.declared.content.Reading.TheVariants.{AsRestart, AsLink}
use Rattle.ppm_step.proofs.ContentLemmas.{content_fits}
use Rattle.ppm_step.specs.Rows.{at_bottom, above_bottom, below_bottom, by_slot, follows, closed_link, can_be_taken}
use Rattle.ppm_step.specs.Standings.{Standing, IsDone}
use Rattle.ppm_step.specs.State.{stand_in}
use Rattle.ppm_step.specs.There.{restart_is_there}
use Rattle.ppm_step.specs.declared.row.Point.TheVariants.{Offset, TakenMessage, TakenEntry, ClosedRestart, ClosedLink, ClosedBottom}
use Rattle.ppm_step.specs.declared.row.Row.{Row}
use Rattle.ppm_step.specs.declared.row.Row.TheVariants.{Now}
use Rattle.ppm_step.specs.declared.row.Seat.{Seat}
use Rattle.ppm_step.specs.declared.row.Then.TheVariants.{Load, Install, Fork, Begin, Broken}
use Rattle.ppm_tickets.specs.Along.{by_install}
use Rattle.ppm_tickets.specs.Homes.{Home, Unborn, Pushing, Popping, Stolen, Begun}
use Rattle.ppm_tickets.specs.Lawful.{IsLocal, IsClaim, IsThief, IsDead, Gives, Pushes, Pops, Closed, Aims, Dooms, Steals, Counts, May, active, active_at, is_local}
use Rattle.ppm_tickets.specs.Saw.{rest_of, OfClosed, Knows, Saw, AreFit, HasSeen, Carried, Lawful}
use Rattle.ppm_tickets.specs.View.{view, kinds, bottoms, seeking, restart_or, restart_at, with_restarts}
use Rattle.ppm_tickets.specs.Words.{Word, Empty, Local, Job, Taken, Linked, Restarts, Unread, Spot, Message, Slot, Dead, Restart, put}
use Rattle.ppm_tickets.proofs.WriteLemmas.{taken_stays}
use Rattle.ppm_tickets.proofs.ViewLemmas.{if_false, if_true}
use Rattle.ppm_tickets.proofs.EffectLemmas.{IsPlain, plain_install, deque_as, not_local_taken}
use Rattle.ppm_tickets.proofs.EstateLemmas.{After, claims_shut, as_shown}
use Rattle.ppm_tickets.proofs.CountLemmas.{counts_move, counts_take, counts_fork, has_or}
use Rattle.ppm_tickets.proofs.HeirLemmas.{Bears, Bare, Bares, plain_bare, heir_bare, thief_bears, push1_bears, push2_bears, push2_bare, pop1_bears, pop2_bears, heir_of, Trail, weaker, strands_on, forks_on, pushes_on, begins_on, popped_left, stolen_left, not_followed}
use Rattle.ppm_tickets.proofs.StepLemmas.{open_, own_goes, loads, looks, installs, installing, ends, beginning, Goal, seat, restart, both_true, unborn_or}

module _ (s : Shape) (code : CodeParts) where
  module _ (words : List ℕ) (stand : List Standing) (h : ℕ → Home) (f tk : List ℕ) (fit : AreWordsOf s words) where
    abbrev m : Spot → Word
    m = view s words

    abbrev k : ℕ → RestartKind
    k = kinds s words

    abbrev b : ℕ → ℕ
    b = bottoms s words

    abbrev M : Spot → Word
    M = with_restarts m k b

    module _ (law : Lawful s m k b stand h f tk) (o : ℕ) (live : stand_in (slice_get stand o) ≢ IsDone) where
      module _ (p : ℕ) (carried : Carried s m o p) where
        module _ (x i : ℕ) (e : k p ≡ Check x i) (ta : restart_is_there s (restart s code words stand h f tk fit law o live p carried (Check x i) e) ≡ true) (u : ℕ) (nm : u < s.processors) (v : ℕ) (t0 y0 : ℕ) (ih : s.takeover ≡ ByEntries) where
          abbrev SC : Seat
          SC = seat s code words stand h f tk fit law o live p carried (Check x i) e

          abbrev Going : Row → Type 0
          Going row = Goal s code words stand h f tk fit law o live p carried (Check x i) e ta u nm row

          abbrev Lifts : ((Spot → Word) → Type 0) → Row → Type 0
          Lifts before R = (n : Spot → Word) (ws : List Word) (row : Row) → AreFit ws → rest_of s SC v R ws ≡ row → Saw s SC v n (before n) R ws → HasSeen s n SC row

          -- what is left of a row, with at most c words found
          abbrev Steps : ℕ → ((Spot → Word) → Type 0) → Row → Type 0
          Steps c before R = Lifts before R → (us : List Word) → length us ≤ c → AreFit us → Saw s SC v M (before M) R us → Going (rest_of s SC v R us)

          either : (c : ℕ) (before : (Spot → Word) → Type 0) (test : Bool) (R T : Row) → (test ≡ true → Steps c before R) → (test ≡ false → Steps c before T) → Steps c before (if test then R else T)
          either c before true R T good bad = good refl
          either c before false R T good bad = bad refl

          broken : (c : ℕ) (before : (Spot → Word) → Type 0) → Steps c before (Now Broken)
          broken c before lift [] le af saw = ends s code words stand h f tk fit law o live p carried (Check x i) e ta u nm
          broken c before lift (w ∷ us) le af saw = absurd saw

          ending : (c : ℕ) (before : (Spot → Word) → Type 0) (r : RestartOf) → (before M → Going (Now (Install r))) → Steps c before (Now (Install r))
          ending c before r g lift [] le af saw = g saw
          ending c before r g lift (w ∷ us) le af saw = absurd saw

          -- the estate, and who is on the way
          abbrev heir : List ℕ → ℕ
          heir l = heir_of law.board p (open_ s code words stand h f tk fit law o live p carried) l

          abbrev Way : List ℕ → Type 0
          Way l = Trail law.board p (open_ s code words stand h f tk fit law o live p carried) l

          pub record Node (w j z : ℕ) (l : List ℕ) : Type 0 where
            pub own : m (Message p) ≡ Local t0 y0
            pub thief : IsThief (k (heir l)) w j
            pub tag : ℕ
            pub taken : m (Slot w j) ≡ Taken tag (heir l + 64)
            pub note : ℕ
            pub says : m (Message (heir l)) ≡ Local note z
            pub way : Way l
            pub bares : Bares law.board l

          shut_of : (w j z : ℕ) (l : List ℕ) → Node w j z l → Closed s.takeover m w
          shut_of w j z l n = claims_shut law.board w j (subst IsClaim (sym n.taken) (omega arith))

          was_local : (w j z : ℕ) (l : List ℕ) (n : Node w j z l) → law.board.ghost (Slot w j) ≡ Local n.note z
          was_local w j z l n = sym ((law.board.told (heir l) w j n.tag n.thief n.taken).0) ∙ n.says

          heired : (w j z : ℕ) (l : List ℕ) → Node w j z l → j ≡ active_at law.board.ghost k b w → Way (w ∷ l)
          heired w j z l n at = (record { slot = j; tag = n.tag; thief = n.thief; taken = n.taken; at = at }, n.way)

          active_is : (w : ℕ) (K : RestartKind) → k w ≡ K → active_at law.board.ghost k b w ≡ active K (b w) (law.board.ghost (Slot w (b w - 1))) (law.board.ghost (Slot w (b w)))
          active_is w K is = ap (λ (y : RestartKind). active y (b w) (law.board.ghost (Slot w (b w - 1))) (law.board.ghost (Slot w (b w)))) is

          -- Seek: nothing is followed
          seeks : m (Message p) ≡ Local t0 y0 → Going (Now (Install (record { kind = Seek; bottom = b p })))
          seeks own = installs s code words stand h f tk fit law o live p carried (Check x i) e ta u nm (record { kind = Seek; bottom = b p }) tt tt
              (own_goes s code words stand h f tk fit law o live p carried Seek (b p) tt (plain_install law.board.board p (Check x i) Seek e tt tt
              (λ q z. let says : Local t0 y0 ≡ Job z.0 q = sym own ∙ sym (law.board.covers.others (Message p) (λ y j c. cc)) ∙ z.1 in cc) (λ q z. absurd z))) law.counts

          -- a strand
          strands : (w j z : ℕ) (l : List ℕ) → Node w j z l → (new : RestartKind) → ((c d : ℕ) → IsThief new c d → ⊥) → IsPlain new → ((q : ℕ) → Steals law.board.ghost p new q → ⊥) → Aims m new → Dooms m p new
              → by_install p (Check x i) new h ≡ h → j ≡ active_at law.board.ghost k b w → Bare law.board w → Going (Now (Install (record { kind = new; bottom = b p })))
          strands w j z l n new free plain none aims dooms same at bare = installs s code words stand h f tk fit law o live p carried (Check x i) e ta u nm (record { kind = new; bottom = b p }) aims dooms
              (subst (λ (g : ℕ → Home). After law.board.gone (Closed s.takeover m) m (put k p new) (put b p (b p)) g) (sym same)
              (weaker law.board p (open_ s code words stand h f tk fit law o live p carried) (w ∷ l) (strands_on law.board p (open_ s code words stand h f tk fit law o live p carried) x i t0 y0 e n.own new w l free plain none (heired w j z l n at) bare n.bares)))
              (subst (λ (g : ℕ → Home). Counts g f tk) (sym same) law.counts)

          pushes : (w j z : ℕ) (l : List ℕ) (n : Node w j z l) (r : ℕ) → j ≡ active_at law.board.ghost k b w → Bears law.board w r → h r ≡ Pushing w → Going (Now (Install (record { kind = Push1 r; bottom = b p })))
          pushes w j z l n r at bears was = installs s code words stand h f tk fit law o live p carried (Check x i) e ta u nm (record { kind = Push1 r; bottom = b p }) tt tt
              (weaker law.board p (open_ s code words stand h f tk fit law o live p carried) (w ∷ l) (pushes_on law.board p (open_ s code words stand h f tk fit law o live p carried) x i t0 y0 e n.own r w l (heired w j z l n at) was bears n.bares))
              (counts_move h f tk r (Pushing p) law.counts (λ c. let d : Pushing w ≡ Unborn = sym was ∙ c in cc) (λ c. let d : Pushing w ≡ Begun = sym was ∙ c in cc) (λ c. cc) (λ c. cc))

          fork : (w j z : ℕ) (l : List ℕ) (n : Node w j z l) (r : ℕ) → j ≡ active_at law.board.ghost k b w → Bare law.board w → Going (Now (Fork r))
          fork w j z l n r at bare there fresh =
              let new : h r ≡ Unborn = elim (unborn_or s code (h r)) [ inl c ↦ c | inr ne ↦ absurd (true≢false (sym (law.counts.listed r ne) ∙ fresh)) ] in
              installing s code words stand h f tk fit law o live p carried (record { kind = Push1 r; bottom = b p }) there tt tt (put h r (Pushing p)) (r ∷ f) tk
              (weaker law.board p (open_ s code words stand h f tk fit law o live p carried) (w ∷ l) (forks_on law.board p (open_ s code words stand h f tk fit law o live p carried) x i t0 y0 e n.own r w l (heired w j z l n at) new bare n.bares))
              (counts_fork h f tk r (Pushing p) law.counts new (λ c. cc) (λ c. cc))

          begin_popped : (w j z : ℕ) (l : List ℕ) (n : Node w j z l) (r frame : ℕ) → j ≡ active_at law.board.ghost k b w → Bears law.board w r → h r ≡ Popping w → Going (Now (Begin r frame (b p)))
          begin_popped w j z l n r frame at bears was there orderly =
              installing s code words stand h f tk fit law o live p carried (record { kind = Run frame 0; bottom = b p }) there tt tt (put h r Begun) f (r ∷ tk)
              (weaker law.board p (open_ s code words stand h f tk fit law o live p carried) (w ∷ l) (begins_on law.board p (open_ s code words stand h f tk fit law o live p carried) x i t0 y0 e n.own r frame w l (Popping w) (heired w j z l n at) was (popped_left law.board p (open_ s code words stand h f tk fit law o live p carried) x i t0 y0 e n.own w l) bears n.bares))
              (counts_take h f tk r law.counts (λ c. let d : Popping w ≡ Unborn = sym was ∙ c in cc) (λ c. let d : Popping w ≡ Begun = sym was ∙ c in cc))

          begin_stolen : (w j z : ℕ) (l : List ℕ) (n : Node w j z l) (r frame : ℕ) → j ≡ active_at law.board.ghost k b w → Bears law.board w r → h r ≡ Stolen w → Going (Now (Begin r frame (b p)))
          begin_stolen w j z l n r frame at bears was there orderly =
              installing s code words stand h f tk fit law o live p carried (record { kind = Run frame 0; bottom = b p }) there tt tt (put h r Begun) f (r ∷ tk)
              (weaker law.board p (open_ s code words stand h f tk fit law o live p carried) (w ∷ l) (begins_on law.board p (open_ s code words stand h f tk fit law o live p carried) x i t0 y0 e n.own r frame w l (Stolen w) (heired w j z l n at) was (stolen_left law.board p (open_ s code words stand h f tk fit law o live p carried) x i t0 y0 e n.own w l) bears n.bares))
              (counts_take h f tk r law.counts (λ c. let d : Stolen w ≡ Unborn = sym was ∙ c in cc) (λ c. let d : Stolen w ≡ Begun = sym was ∙ c in cc))

          -- what was found at a closed place still is
          restarts_are : (how : Takeover) → how ≡ ByEntries → (w j z : ℕ) (K : RestartKind) (B : ℕ)
              → OfClosed how SC v M (ClosedRestart w j z) (Restarts K B) (IsDead (M (Dead w)) × ((Restarts K B ≡ M (Restart w)) ⊎ (Restarts K B ≡ Unread))) → (k w ≡ K) × (b w ≡ B)
          restarts_are ByPlaces is w j z K B a = absurd (cc)
          restarts_are ByEntries is w j z K B a = elim a.1 [ inl c ↦ (cc, cc) | inr c ↦ absurd (cc) ]

          message_is : (how : Takeover) → how ≡ ByEntries → (w c d : ℕ) (word : Word) → OfClosed how SC v M (TakenMessage w c d) word (((w ≡ p) ⊎ IsDead (M (Dead w))) × (word ≡ M (Message w))) → word ≡ m (Message w)
          message_is ByPlaces is w c d word a = absurd (cc)
          message_is ByEntries is w c d word a = a.1

          dead_is : (how : Takeover) → how ≡ ByEntries → (w : ℕ) → Closed how m w → IsDead (m (Dead w))
          dead_is ByPlaces is w a = absurd (cc)
          dead_is ByEntries is w a = a

          closed_known : (how : Takeover) → how ≡ ByEntries → (w j z : ℕ) (word : Word) → IsDead (m (Dead w)) → (word ≡ Restarts (k w) (b w)) ⊎ (word ≡ Unread)
              → OfClosed how SC v M (ClosedRestart w j z) word (IsDead (M (Dead w)) × ((word ≡ M (Restart w)) ⊎ (word ≡ Unread)))
          closed_known ByPlaces is w j z word d a = absurd (cc)
          closed_known ByEntries is w j z word d a = (d, a)

          message_known : (how : Takeover) → how ≡ ByEntries → (w c d : ℕ) → IsDead (m (Dead w)) → OfClosed how SC v M (TakenMessage w c d) (m (Message w)) (((w ≡ p) ⊎ IsDead (M (Dead w))) × (m (Message w) ≡ M (Message w)))
          message_known ByPlaces is w c d a = absurd (cc)
          message_known ByEntries is w c d a = (inr a, refl)

          -- a place that does not seek is one of the shape's
          place_there : (w c d : ℕ) → IsThief (k w) c d → w < s.processors
          place_there w c d th = elim (cases_Bool (nat_lt w s.processors)) [
            | inl y ↦ ltb-true w s.processors y
            | inr out ↦
                let is : k w ≡ Seek = ap (λ (r : RestartOf). r.kind) (if_false (nat_lt w s.processors) _ seeking out) in
                absurd (elim th [ inl q ↦ (let two : Seek ≡ Steal c d = sym is ∙ q in cc) | inr q ↦ (let two : Seek ≡ Check c d = sym is ∙ q in cc) ])
          ]

          seek_end : (c : ℕ) (before : (Spot → Word) → Type 0) → (before M → m (Message p) ≡ Local t0 y0) → Steps c before (Now (Install (record { kind = Seek; bottom = b p })))
          seek_end c before own = ending c before (record { kind = Seek; bottom = b p }) (λ a. seeks (own a))

          abbrev Found : ((Spot → Word) → Type 0) → (w j z : ℕ) → (K : RestartKind) → (B : ℕ) → (Spot → Word) → Type 0
          Found before w j z K B n = before n × Knows s.takeover SC v n (ClosedRestart w j z) (Restarts K B)

          -- one link
          module _ (c : ℕ) (more : (w j z : ℕ) (l : List ℕ) (before : (Spot → Word) → Type 0) → (before M → Node w j z l) → Steps c before (Now (Load (ClosedRestart w j z))))
              (w j z : ℕ) (l : List ℕ) (before : (Spot → Word) → Type 0) (node : before M → Node w j z l) (K : RestartKind) (B : ℕ) where
            abbrev Now1 : (Spot → Word) → Type 0
            Now1 = Found before w j z K B

            owned : Now1 M → m (Message p) ≡ Local t0 y0
            owned a = (node a.0).own

            kind_is : Now1 M → k w ≡ K
            kind_is a = (restarts_are s.takeover ih w j z K B a.1).0

            bottom_is : Now1 M → b w ≡ B
            bottom_is a = (restarts_are s.takeover ih w j z K B a.1).1

            seek_now : Steps c Now1 (Now (Install (record { kind = Seek; bottom = b p })))
            seek_now = seek_end c Now1 owned

            -- at the bottom
            module _ (here : (j == B) ≡ true) where
              at_b : Now1 M → j ≡ b w
              at_b a = eqb-true j B here ∙ sym (bottom_is a)

              low_local : (a : Now1 M) → law.board.ghost (Slot w (b w)) ≡ Local (node a.0).note z
              low_local a = ap (λ (y : ℕ). law.board.ghost (Slot w y)) (sym (at_b a)) ∙ was_local w j z l (node a.0)

              goes : (new : RestartKind) → ((q d : ℕ) → IsThief new q d → ⊥) → IsPlain new → ((q : ℕ) → Steals law.board.ghost p new q → ⊥) → ((q : ℕ) → Steals law.board.ghost w K q → ⊥) → IsPlain K
                  → Aims m new → Dooms m p new → by_install p (Check x i) new h ≡ h → ((d y : Word) → active K (b w) d y ≡ b w) → Steps c Now1 (Now (Install (record { kind = new; bottom = b p })))
              goes new free plain none none_w plain_w aims dooms same act = ending c Now1 (record { kind = new; bottom = b p })
                  (λ a. strands w j z l (node a.0) new free plain none aims dooms same (at_b a ∙ sym (active_is w K (kind_is a) ∙ act _ _)) (plain_bare law.board w K (kind_is a) plain_w none_w))

            -- it had claimed another, or stolen
            module _ (x2 i2 : ℕ) (thief : Now1 M → IsThief (k w) x2 i2) (at_active : Now1 M → j ≡ active_at law.board.ghost k b w) where
              abbrev Now2 : Word → (Spot → Word) → Type 0
              Now2 said n = Now1 n × Knows s.takeover SC v n (TakenMessage w x2 i2) said

              abbrev Now3 : Word → Word → (Spot → Word) → Type 0
              Now3 said there n = Now2 said n × May o p (Slot x2 i2) there (n (Slot x2 i2))

              said_is : (said : Word) → Now2 said M → m (Message w) ≡ said
              said_is said a = sym (message_is s.takeover ih w x2 i2 said a.1)

              entry_is : (said : Word) (n q : ℕ) → Now3 said (Taken n q) M → m (Slot x2 i2) ≡ Taken n q
              entry_is said n q a = sym (taken_stays o p x2 i2 (Taken n q) (m (Slot x2 i2)) tt a.1)

              -- a job that it had won
              jobs : (t r : ℕ) → Steps c (Now2 (Job t r)) (Now (Load (TakenEntry w x2 i2 (entries.Job t r))))
              jobs t r lift [] le af saw = looks s code words stand h f tk fit law o live p carried (Check x i) e ta u nm v (Now2 (Job t r)) (Now (Load (TakenEntry w x2 i2 (entries.Job t r)))) lift [] tt saw (TakenEntry w x2 i2 (entries.Job t r)) refl (Slot x2 i2) refl refl refl (λ q. q) (λ q. refl) (λ q. q)
              jobs t r lift (Taken n q ∷ us) le af saw =
                  either c (Now3 (Job t r) (Taken n q)) ((n == t + 1) && (q == w)) (Now (Load (Offset r (b p)))) (Now (Install (record { kind = Seek; bottom = b p })))
                  (λ is lift us le af saw. beginning s code words stand h f tk fit law o live p carried (Check x i) e ta u nm v (Now3 (Job t r) (Taken n q)) r (b p) lift (λ a frame.
                  let two = both_true s code (n == t + 1) (q == w) is in
                  let now : m (Slot x2 i2) ≡ Taken (t + 1) w = entry_is (Job t r) n q a ∙ (λ d. Taken (eqb-true n (t + 1) two.0 d) (eqb-true q w two.1 d)) in
                  let th = thief a.0.0 in
                  let small : w < s.processors = place_there w x2 i2 th in
                  let shown : law.board.ghost (Slot x2 i2) ≡ Taken (t + 1) w = as_shown (law.board.covers.slots x2 i2) (λ d. let far : 64 ≤ w = subst IsClaim now d in omega (arith, far, small, s.within.processors_most)) ∙ now in
                  let says : law.board.ghost (Message w) ≡ Job t r = law.board.covers.others (Message w) (λ y d d2. cc) ∙ said_is (Job t r) a.0 in
                  let n0 = node a.0.0.0 in
                  begin_stolen w j z l n0 r frame (at_active a.0.0) (thief_bears law.board w x2 i2 t r th (said_is (Job t r) a.0))
                  (law.board.board.only (Stolen w) r tt (not_followed law.board p (open_ s code words stand h f tk fit law o live p carried) x i t0 y0 e n0.own w l (heired w j z l n0 (at_active a.0.0)))
                  (elim th [
                    | inl d ↦ subst (λ (y : RestartKind). Steals law.board.ghost w y r) (sym d) (t, says, shown)
                    | inr d ↦ subst (λ (y : RestartKind). Steals law.board.ghost w y r) (sym d) (t, says, shown)
                  ]))) us af saw)
                  (λ is. seek_end c (Now3 (Job t r) (Taken n q)) (λ a. owned a.0.0))
                  (λ l2 ws row af2 er saw2. lift l2 (Taken n q ∷ ws) row (af.0, af2) er saw2) us (omega (arith, le)) af.1 saw
              jobs t r lift (Empty n ∷ us) le af saw = seek_end c (Now3 (Job t r) (Empty n)) (λ a. owned a.0.0) (λ l2 ws row af2 er saw2. lift l2 (Empty n ∷ ws) row (af.0, af2) er saw2) us (omega (arith, le)) af.1 saw
              jobs t r lift (Local n q ∷ us) le af saw = seek_end c (Now3 (Job t r) (Local n q)) (λ a. owned a.0.0) (λ l2 ws row af2 er saw2. lift l2 (Local n q ∷ ws) row (af.0, af2) er saw2) us (omega (arith, le)) af.1 saw
              jobs t r lift (Job n q ∷ us) le af saw = seek_end c (Now3 (Job t r) (Job n q)) (λ a. owned a.0.0) (λ l2 ws row af2 er saw2. lift l2 (Job n q ∷ ws) row (af.0, af2) er saw2) us (omega (arith, le)) af.1 saw
              jobs t r lift (_ ∷ []) le af saw = ends s code words stand h f tk fit law o live p carried (Check x i) e ta u nm
              jobs t r lift (_ ∷ d ∷ us) le af saw = absurd saw

              -- another that it had inherited from
              locals : (t r : ℕ) → Steps c (Now2 (Local t r)) (Now (Load (TakenEntry w x2 i2 (entries.Local t r))))
              locals t r lift [] le af saw = looks s code words stand h f tk fit law o live p carried (Check x i) e ta u nm v (Now2 (Local t r)) (Now (Load (TakenEntry w x2 i2 (entries.Local t r)))) lift [] tt saw (TakenEntry w x2 i2 (entries.Local t r)) refl (Slot x2 i2) refl refl refl (λ q. q) (λ q. refl) (λ q. q)
              locals t r lift (Taken n q ∷ us) le af saw =
                  either c (Now3 (Local t r) (Taken n q)) ((n == t + 1) && (q == w + 64)) (Now (Load (ClosedRestart x2 i2 r))) (Now (Install (record { kind = Seek; bottom = b p })))
                  (λ is. more x2 i2 r (w ∷ l) (Now3 (Local t r) (Taken n q)) (λ a.
                  let two = both_true s code (n == t + 1) (q == w + 64) is in
                  let n0 = node a.0.0.0 in
                  let th = thief a.0.0 in record {
                    own = n0.own;
                    thief = th;
                    tag = n;
                    taken = entry_is (Local t r) n q a ∙ ap (Taken n) (eqb-true q (w + 64) two.1);
                    note = t;
                    says = said_is (Local t r) a.0;
                    way = heired w j z l n0 (at_active a.0.0);
                    bares = λ y d. elim (has_or w y l d) [
                      | inl same ↦ subst (Bare law.board) (sym same) (heir_bare law.board w x2 i2 t r th (said_is (Local t r) a.0))
                      | inr old ↦ n0.bares y old
                    ];
                  }))
                  (λ is. seek_end c (Now3 (Local t r) (Taken n q)) (λ a. owned a.0.0))
                  (λ l2 ws row af2 er saw2. lift l2 (Taken n q ∷ ws) row (af.0, af2) er saw2) us (omega (arith, le)) af.1 saw
              locals t r lift (Empty n ∷ us) le af saw = seek_end c (Now3 (Local t r) (Empty n)) (λ a. owned a.0.0) (λ l2 ws row af2 er saw2. lift l2 (Empty n ∷ ws) row (af.0, af2) er saw2) us (omega (arith, le)) af.1 saw
              locals t r lift (Local n q ∷ us) le af saw = seek_end c (Now3 (Local t r) (Local n q)) (λ a. owned a.0.0) (λ l2 ws row af2 er saw2. lift l2 (Local n q ∷ ws) row (af.0, af2) er saw2) us (omega (arith, le)) af.1 saw
              locals t r lift (Job n q ∷ us) le af saw = seek_end c (Now3 (Local t r) (Job n q)) (λ a. owned a.0.0) (λ l2 ws row af2 er saw2. lift l2 (Job n q ∷ ws) row (af.0, af2) er saw2) us (omega (arith, le)) af.1 saw
              locals t r lift (_ ∷ []) le af saw = ends s code words stand h f tk fit law o live p carried (Check x i) e ta u nm
              locals t r lift (_ ∷ d ∷ us) le af saw = absurd saw

              cannot : (en : EntryOf) → can_be_taken ByEntries en ≡ false → can_be_taken s.takeover en ≡ true → ⊥
              cannot en is z = true≢false (sym z ∙ ap (λ (y : Takeover). can_be_taken y en) ih ∙ is)

              messages : Steps c Now1 (Now (Load (TakenMessage w x2 i2)))
              messages lift [] le af saw = looks s code words stand h f tk fit law o live p carried (Check x i) e ta u nm v Now1 (Now (Load (TakenMessage w x2 i2))) lift [] tt saw (TakenMessage w x2 i2) refl (Message w) refl refl refl (λ q. q) (λ q. refl)
                  (λ q. message_known s.takeover ih w x2 i2 (dead_is s.takeover ih w (shut_of w j z l (node saw.0))))
              messages lift (Job t r ∷ us) le af saw = jobs t r (λ l2 ws row af2 er saw2. lift l2 (Job t r ∷ ws) row (af.0, af2) er saw2) us (omega (arith, le)) af.1 saw
              messages lift (Local t r ∷ us) le af saw =
                  either c (Now2 (Local t r)) (can_be_taken s.takeover (entries.Local t r)) (Now (Load (TakenEntry w x2 i2 (entries.Local t r)))) (Now Broken) (λ is. locals t r) (λ is. broken c (Now2 (Local t r)))
                  (λ l2 ws row af2 er saw2. lift l2 (Local t r ∷ ws) row (af.0, af2) er saw2) us (omega (arith, le)) af.1 saw
              messages lift (Empty t ∷ us) le af saw =
                  either c (Now2 (Empty t)) (can_be_taken s.takeover (entries.Empty t)) (Now (Load (TakenEntry w x2 i2 (entries.Empty t)))) (Now Broken) (λ is. absurd (cannot (entries.Empty t) refl is)) (λ is. broken c (Now2 (Empty t)))
                  (λ l2 ws row af2 er saw2. lift l2 (Empty t ∷ ws) row (af.0, af2) er saw2) us (omega (arith, le)) af.1 saw
              messages lift (Taken t r ∷ us) le af saw =
                  either c (Now2 (Taken t r)) (can_be_taken s.takeover (entries.Taken t r)) (Now (Load (TakenEntry w x2 i2 (entries.Taken t r)))) (Now Broken) (λ is. absurd (cannot (entries.Taken t r) refl is)) (λ is. broken c (Now2 (Taken t r)))
                  (λ l2 ws row af2 er saw2. lift l2 (Taken t r ∷ ws) row (af.0, af2) er saw2) us (omega (arith, le)) af.1 saw
              messages lift (_ ∷ []) le af saw = ends s code words stand h f tk fit law o live p carried (Check x i) e ta u nm
              messages lift (_ ∷ d ∷ us) le af saw = absurd saw

          -- by the slot and by what the closed place is at
          module _ (c : ℕ) (more : (w j z : ℕ) (l : List ℕ) (before : (Spot → Word) → Type 0) → (before M → Node w j z l) → Steps c before (Now (Load (ClosedRestart w j z))))
              (w j z : ℕ) (l : List ℕ) (before : (Spot → Word) → Type 0) (node : before M → Node w j z l) (B : ℕ) where
            abbrev Now0 : RestartKind → (Spot → Word) → Type 0
            Now0 K = Found before w j z K B

            kind_of : (K : RestartKind) → Now0 K M → k w ≡ K
            kind_of K a = kind_is c more w j z l before node K B a

            alone : (r : ℕ) (K : RestartKind) (a : Now0 K M) → j ≡ active_at law.board.ghost k b w → law.board.gone w ≡ false
            alone r K a at = not_followed law.board p (open_ s code words stand h f tk fit law o live p carried) x i t0 y0 e (node a.0).own w l (heired w j z l (node a.0) at)

            links : (r : ℕ) → (j == B) ≡ true → Steps c (Now0 (Bump r)) (Now (Load (ClosedLink r)))
            links r here lift [] le af saw = by (link_of (read s words (cells.BlockWord r))) refl
              where
                by : (y : Option Link) → link_of (read s words (cells.BlockWord r)) ≡ y → Going (Now (Load (ClosedLink r)))
                by (Some link) is = loads s code words stand h f tk fit law o live p carried (Check x i) e ta u nm v (Now0 (Bump r)) (Now (Load (ClosedLink r))) lift [] tt saw (ClosedLink r) refl (Linked link) (ap (read_so ALink) (sym is))
                    (subst IsContent (ap (read_so ALink) is) (content_fits AsLink (read s words (cells.BlockWord r)))) tt (λ q. refl)
                by None is = loads s code words stand h f tk fit law o live p carried (Check x i) e ta u nm v (Now0 (Bump r)) (Now (Load (ClosedLink r))) lift [] tt saw (ClosedLink r) refl Unread (ap (read_so ALink) (sym is))
                    (subst IsContent (ap (read_so ALink) is) (content_fits AsLink (read s words (cells.BlockWord r)))) tt (λ q. refl)
            links r here lift (Linked link ∷ us) le af saw = by link.kind (λ l2 ws row af2 er saw2. lift l2 (Linked link ∷ ws) row (af.0, af2) er saw2) us (omega (arith, le)) af.1 saw
              where
                at_ : (a : Now0 (Bump r) M) → j ≡ active_at law.board.ghost k b w
                at_ a = at_b c more w j z l before node (Bump r) B here a ∙ sym (active_is w (Bump r) (kind_of (Bump r) a))

                by : (kind : LinkKind) → Steps c (λ n. Now0 (Bump r) n × Unit {0}) (closed_link SC r kind)
                by (Call frame copy) = ending c (λ n. Now0 (Bump r) n × Unit {0}) (record { kind = Run r 0; bottom = b p })
                    (λ a. strands w j z l (node a.0.0) (Run r 0) (λ q d th. elim th [ inl d2 ↦ absurd (cc) | inr d2 ↦ absurd (cc) ]) tt (λ q d. d) tt tt refl (at_ a.0) (plain_bare law.board w (Bump r) (kind_of (Bump r) a.0) tt (λ q d. d)))
                by (ForkLink frame copy) = forks
                  where
                    forks : Steps c (λ n. Now0 (Bump r) n × Unit {0}) (Now (Fork r))
                    forks lift [] le af saw = fork w j z l (node saw.0.0) r (at_ saw.0) (plain_bare law.board w (Bump r) (kind_of (Bump r) saw.0) tt (λ q d. d))
                    forks lift (y ∷ us) le af saw = absurd saw
                by Root = broken c (λ n. Now0 (Bump r) n × Unit {0})
                by (Branch side block) = broken c (λ n. Now0 (Bump r) n × Unit {0})
            links r here lift (_ ∷ []) le af saw = ends s code words stand h f tk fit law o live p carried (Check x i) e ta u nm
            links r here lift (_ ∷ y ∷ us) le af saw = absurd saw

            plainly : (K : RestartKind) → ((q d : ℕ) → IsThief K q d → ⊥) → IsPlain K → ((y q : ℕ) → Steals law.board.ghost y K q → ⊥) → Aims m K → Dooms m p K → by_install p (Check x i) K h ≡ h
                → ((d y : Word) → active K (b w) d y ≡ b w) → (j == B) ≡ true → Steps c (Now0 K) (Now (Install (record { kind = K; bottom = b p })))
            plainly K free plain none aims dooms same act here = goes c more w j z l before node K B here K free plain (none p) (none w) plain aims dooms same act

            pushing : (K : RestartKind) (r : ℕ) → (j == B) ≡ true → ((a : Now0 K M) → active_at law.board.ghost k b w ≡ b w) → ((a : Now0 K M) → Bears law.board w r) → ((a : Now0 K M) → Pushes (k w) (law.board.ghost (Slot w (b w))) r)
                → Steps c (Now0 K) (Now (Install (record { kind = Push1 r; bottom = b p })))
            pushing K r here act bears is = ending c (Now0 K) (record { kind = Push1 r; bottom = b p }) (λ a.
                let at_ : j ≡ active_at law.board.ghost k b w = at_b c more w j z l before node K B here a ∙ sym (act a) in
                pushes w j z l (node a.0) r at_ (bears a) (law.board.board.only (Pushing w) r tt (alone r K a at_) (is a)))

            stealing : (K : RestartKind) (x2 i2 : ℕ) → ((a : Now0 K M) → IsThief (k w) x2 i2) → ((d y : Word) → active K (b w) d y ≡ b w) → (j == B) ≡ true → Steps c (Now0 K) (Now (Load (TakenMessage w x2 i2)))
            stealing K x2 i2 th act here = messages c more w j z l before node K B x2 i2 th (λ a. at_b c more w j z l before node K B here a ∙ sym (active_is w K (kind_of K a) ∙ act _ _))

            bottom_step : (K : RestartKind) → (j == B) ≡ true → Steps c (Now0 K) (at_bottom SC w K)
            bottom_step (Run f2 y) here = plainly (Run f2 y) (λ q d th. elim th [ inl d2 ↦ absurd (cc) | inr d2 ↦ absurd (cc) ]) tt (λ y q d. d) tt tt refl (λ d y. refl) here
            bottom_step (Unwind f2) here = plainly (Unwind f2) (λ q d th. elim th [ inl d2 ↦ absurd (cc) | inr d2 ↦ absurd (cc) ]) tt (λ y q d. d) tt tt refl (λ d y. refl) here
            bottom_step (Arrive r y) here = plainly (Arrive r y) (λ q d th. elim th [ inl d2 ↦ absurd (cc) | inr d2 ↦ absurd (cc) ]) tt (λ y q d. d) tt tt refl (λ d y. refl) here
            bottom_step (Join r y) here = plainly (Join r y) (λ q d th. elim th [ inl d2 ↦ absurd (cc) | inr d2 ↦ absurd (cc) ]) tt (λ y q d. d) tt tt refl (λ d y. refl) here
            bottom_step (Bump r) here = links r here
            bottom_step (Push1 r) here = pushing (Push1 r) r here (λ a. active_is w (Push1 r) (kind_of (Push1 r) a)) (λ a. push1_bears law.board w r (kind_of (Push1 r) a))
                (λ a. subst (λ (y : RestartKind). Pushes y (law.board.ghost (Slot w (b w))) r) (sym (kind_of (Push1 r) a)) refl)
            bottom_step (Push2 r) here = pushing (Push2 r) r here
                (λ a. active_is w (Push2 r) (kind_of (Push2 r) a) ∙ ap (λ (y : Word). if is_local y then b w else b w + 1) (low_local c more w j z l before node (Push2 r) B here a))
                (λ a. push2_bears law.board w r (kind_of (Push2 r) a))
                (λ a. subst₂ (λ (y : RestartKind) (d : Word). Pushes y d r) (sym (kind_of (Push2 r) a)) (sym (low_local c more w j z l before node (Push2 r) B here a)) (refl, tt))
            bottom_step (Steal x2 i2) here = stealing (Steal x2 i2) x2 i2 (λ a. inl (kind_of (Steal x2 i2) a)) (λ d y. refl) here
            bottom_step (Check x2 i2) here = stealing (Check x2 i2) x2 i2 (λ a. inr (kind_of (Check x2 i2) a)) (λ d y. refl) here
            bottom_step Pop1 here = seek_now c more w j z l before node Pop1 B
            bottom_step (Pop2 r) here = seek_now c more w j z l before node (Pop2 r) B
            bottom_step Seek here = seek_now c more w j z l before node Seek B
            bottom_step (Take q d) here = seek_now c more w j z l before node (Take q d) B
            bottom_step (Take2 q) here = seek_now c more w j z l before node (Take2 q) B

            -- the job of Push2 was made and taken
            made : (r : ℕ) → (j == B + 1) ≡ true → Steps c (Now0 (Push2 r)) (Now (Load (ClosedBottom w B r)))
            made r up lift [] le af saw = looks s code words stand h f tk fit law o live p carried (Check x i) e ta u nm v (Now0 (Push2 r)) (Now (Load (ClosedBottom w B r))) lift [] tt saw (ClosedBottom w B r) refl (Slot w B) refl refl refl (λ q. q) (λ q. refl) (λ q. q)
            made r up lift (Taken n q ∷ us) le af saw =
                either c (λ l2. Now0 (Push2 r) l2 × May o p (Slot w B) (Taken n q) (l2 (Slot w B))) (nat_lt q 64) (Now (Install (record { kind = Run (r + 5) 0; bottom = b p }))) (Now (Install (record { kind = Seek; bottom = b p })))
                (λ is. ending c (λ l2. Now0 (Push2 r) l2 × May o p (Slot w B) (Taken n q) (l2 (Slot w B))) (record { kind = Run (r + 5) 0; bottom = b p }) (λ a.
                let kind : k w ≡ Push2 r = kind_of (Push2 r) a.0 in
                let low : b w ≡ B = bottom_is c more w j z l before node (Push2 r) B a.0 in
                let now : m (Slot w (b w)) ≡ Taken n q = ap (λ (y : ℕ). m (Slot w y)) low ∙ sym (taken_stays o p w B (Taken n q) (m (Slot w B)) tt a.1) in
                let less : q < 64 = ltb-true q 64 is in
                let shown : law.board.ghost (Slot w (b w)) ≡ Taken n q = as_shown (law.board.covers.slots w (b w)) (λ d. let far : 64 ≤ q = subst IsClaim now d in omega (arith, far, less)) ∙ now in
                strands w j z l (node a.0.0) (Run (r + 5) 0) (λ q d th. elim th [ inl d2 ↦ absurd (cc) | inr d2 ↦ absurd (cc) ]) tt (λ q d. d) tt tt refl
                (eqb-true j (B + 1) up ∙ ap (λ (y : ℕ). y + 1) (sym low) ∙ sym (active_is w (Push2 r) kind ∙ ap (λ (y : Word). if is_local y then b w else b w + 1) shown))
                (push2_bare law.board w r kind (λ d. subst IsLocal shown d))))
                (λ is. seek_end c (λ l2. Now0 (Push2 r) l2 × May o p (Slot w B) (Taken n q) (l2 (Slot w B))) (λ a. owned c more w j z l before node (Push2 r) B a.0))
                (λ l2 ws row af2 er saw2. lift l2 (Taken n q ∷ ws) row (af.0, af2) er saw2) us (omega (arith, le)) af.1 saw
            made r up lift (Empty n ∷ us) le af saw = seek_end c (λ l2. Now0 (Push2 r) l2 × May o p (Slot w B) (Empty n) (l2 (Slot w B))) (λ a. owned c more w j z l before node (Push2 r) B a.0) (λ l2 ws row af2 er saw2. lift l2 (Empty n ∷ ws) row (af.0, af2) er saw2) us (omega (arith, le)) af.1 saw
            made r up lift (Local n q ∷ us) le af saw = seek_end c (λ l2. Now0 (Push2 r) l2 × May o p (Slot w B) (Local n q) (l2 (Slot w B))) (λ a. owned c more w j z l before node (Push2 r) B a.0) (λ l2 ws row af2 er saw2. lift l2 (Local n q ∷ ws) row (af.0, af2) er saw2) us (omega (arith, le)) af.1 saw
            made r up lift (Job n q ∷ us) le af saw = seek_end c (λ l2. Now0 (Push2 r) l2 × May o p (Slot w B) (Job n q) (l2 (Slot w B))) (λ a. owned c more w j z l before node (Push2 r) B a.0) (λ l2 ws row af2 er saw2. lift l2 (Job n q ∷ ws) row (af.0, af2) er saw2) us (omega (arith, le)) af.1 saw
            made r up lift (_ ∷ []) le af saw = ends s code words stand h f tk fit law o live p carried (Check x i) e ta u nm
            made r up lift (_ ∷ y ∷ us) le af saw = absurd saw

            above_step : (K : RestartKind) → (j == B + 1) ≡ true → Steps c (Now0 K) (above_bottom SC w B K)
            above_step (Push2 r) up = made r up
            above_step (Run f2 y) up = seek_now c more w j z l before node (Run f2 y) B
            above_step (Bump r) up = seek_now c more w j z l before node (Bump r) B
            above_step (Push1 r) up = seek_now c more w j z l before node (Push1 r) B
            above_step (Unwind r) up = seek_now c more w j z l before node (Unwind r) B
            above_step (Arrive r y) up = seek_now c more w j z l before node (Arrive r y) B
            above_step (Join r y) up = seek_now c more w j z l before node (Join r y) B
            above_step Pop1 up = seek_now c more w j z l before node Pop1 B
            above_step (Pop2 r) up = seek_now c more w j z l before node (Pop2 r) B
            above_step Seek up = seek_now c more w j z l before node Seek B
            above_step (Steal q d) up = seek_now c more w j z l before node (Steal q d) B
            above_step (Check q d) up = seek_now c more w j z l before node (Check q d) B
            above_step (Take q d) up = seek_now c more w j z l before node (Take q d) B
            above_step (Take2 q) up = seek_now c more w j z l before node (Take2 q) B

            -- the job of Pop1 and Pop2 was got back
            module _ (down : (j + 1 == B) ≡ true) where
              at_low : (K : RestartKind) (a : Now0 K M) → j ≡ b w - 1
              at_low K a = let low : b w ≡ B = bottom_is c more w j z l before node K B a in let up : j + 1 ≡ B = eqb-true (j + 1) B down in omega (arith, low, up)

              low_is : (K : RestartKind) (a : Now0 K M) → law.board.ghost (Slot w (b w - 1)) ≡ Local (node a.0).note z
              low_is K a = ap (λ (y : ℕ). law.board.ghost (Slot w y)) (sym (at_low K a)) ∙ was_local w j z l (node a.0)

              popping : (K : RestartKind) → ((a : Now0 K M) → active_at law.board.ghost k b w ≡ b w - 1) → ((a : Now0 K M) → Bears law.board w z) → ((a : Now0 K M) → Pops (k w) (law.board.ghost (Slot w (b w - 1))) z)
                  → Steps c (Now0 K) (Now (Load (Offset z (b p))))
              popping K act bears is lift us le af saw = beginning s code words stand h f tk fit law o live p carried (Check x i) e ta u nm v (Now0 K) z (b p) lift (λ a frame.
                  let at_ : j ≡ active_at law.board.ghost k b w = at_low K a ∙ sym (act a) in
                  begin_popped w j z l (node a.0) z frame at_ (bears a) (law.board.board.only (Popping w) z tt (alone z K a at_) (is a))) us af saw

              pop2_same : (r : ℕ) (a : Now0 (Pop2 r) M) → z ≡ r
              pop2_same r a = elim (deque_as law.board.board w (Pop2 r) (kind_of (Pop2 r) a)).here.0 [
                | inl d ↦ absurd (not_local_taken _ (subst IsLocal (sym (low_is (Pop2 r) a)) tt) d.0)
                | inr d ↦ subst (λ (y : Word). Gives y r) (low_is (Pop2 r) a) d.0
              ]

              below_step : (K : RestartKind) → Steps c (Now0 K) (below_bottom SC z K)
              below_step Pop1 = popping Pop1 (λ a. active_is w Pop1 (kind_of Pop1 a) ∙ ap (λ (y : Word). if is_local y then b w - 1 else b w) (low_is Pop1 a))
                  (λ a. pop1_bears law.board w (node a.0).note z (kind_of Pop1 a) (low_is Pop1 a))
                  (λ a. subst₂ (λ (y : RestartKind) (d : Word). Pops y d z) (sym (kind_of Pop1 a)) (sym (low_is Pop1 a)) refl)
              below_step (Pop2 r) = popping (Pop2 r) (λ a. active_is w (Pop2 r) (kind_of (Pop2 r) a) ∙ ap (λ (y : Word). if is_local y then b w - 1 else b w) (low_is (Pop2 r) a))
                  (λ a. subst (Bears law.board w) (sym (pop2_same r a)) (pop2_bears law.board w r (kind_of (Pop2 r) a)))
                  (λ a. subst₂ (λ (y : RestartKind) (d : Word). Pops y d z) (sym (kind_of (Pop2 r) a)) (sym (low_is (Pop2 r) a)) (sym (pop2_same r a), tt))
              below_step (Run f2 y) = seek_now c more w j z l before node (Run f2 y) B
              below_step (Bump r) = seek_now c more w j z l before node (Bump r) B
              below_step (Push1 r) = seek_now c more w j z l before node (Push1 r) B
              below_step (Push2 r) = seek_now c more w j z l before node (Push2 r) B
              below_step (Unwind r) = seek_now c more w j z l before node (Unwind r) B
              below_step (Arrive r y) = seek_now c more w j z l before node (Arrive r y) B
              below_step (Join r y) = seek_now c more w j z l before node (Join r y) B
              below_step Seek = seek_now c more w j z l before node Seek B
              below_step (Steal q d) = seek_now c more w j z l before node (Steal q d) B
              below_step (Check q d) = seek_now c more w j z l before node (Check q d) B
              below_step (Take q d) = seek_now c more w j z l before node (Take q d) B
              below_step (Take2 q) = seek_now c more w j z l before node (Take2 q) B

            slot_step : (K : RestartKind) → Steps c (Now0 K) (by_slot SC w j z (record { kind = K; bottom = B }))
            slot_step K = either c (Now0 K) (j == B) (at_bottom SC w K) _ (bottom_step K) (λ not_at.
                either c (Now0 K) (j == B + 1) (above_bottom SC w B K) _ (above_step K) (λ not_above.
                either c (Now0 K) (j + 1 == B) (below_bottom SC z K) _ (λ down. below_step down K) (λ none. seek_now c more w j z l before node K B)))

            link_step : (K : RestartKind) → Steps c (Now0 K) (follows s SC w j z (record { kind = K; bottom = B }))
            link_step K = either c (Now0 K) (restart_is_there s (record { kind = K; bottom = B })) (by_slot SC w j z (record { kind = K; bottom = B })) (Now Broken) (λ is. slot_step K) (λ is. broken c (Now0 K))

          -- the load of a closed place's restart word
          restart_load : (w j z : ℕ) (l : List ℕ) (before : (Spot → Word) → Type 0) → (before M → Node w j z l) → Lifts before (Now (Load (ClosedRestart w j z))) → before M → Going (Now (Load (ClosedRestart w j z)))
          restart_load w j z l before node lift saw there orderly = by (restart_of (read s words (cells.RestartWord w))) refl there orderly
            where
              dead : IsDead (m (Dead w))
              dead = dead_is s.takeover ih w (shut_of w j z l (node saw))

              by : (y : Option RestartOf) → restart_of (read s words (cells.RestartWord w)) ≡ y → Going (Now (Load (ClosedRestart w j z)))
              by (Some r) is =
                  let same : restart_at s words w ≡ r = if_true (nat_lt w s.processors) (restart_or (restart_of (read s words (cells.RestartWord w)))) seeking there ∙ ap restart_or is in
                  loads s code words stand h f tk fit law o live p carried (Check x i) e ta u nm v before (Now (Load (ClosedRestart w j z))) lift [] tt saw (ClosedRestart w j z) refl (Restarts r.kind r.bottom) (ap (read_so ARestart) (sym is))
                  (subst IsContent (ap (read_so ARestart) is) (content_fits AsRestart (read s words (cells.RestartWord w))))
                  (closed_known s.takeover ih w j z (Restarts r.kind r.bottom) dead (inl (ap (λ (y : RestartOf). Restarts y.kind y.bottom) (sym same)))) (λ q. refl)
              by None is = loads s code words stand h f tk fit law o live p carried (Check x i) e ta u nm v before (Now (Load (ClosedRestart w j z))) lift [] tt saw (ClosedRestart w j z) refl Unread (ap (read_so ARestart) (sym is))
                  (subst IsContent (ap (read_so ARestart) is) (content_fits AsRestart (read s words (cells.RestartWord w))))
                  (closed_known s.takeover ih w j z Unread dead (inr refl)) (λ q. refl)

          -- all links
          follow : (c w j z : ℕ) (l : List ℕ) (before : (Spot → Word) → Type 0) → (before M → Node w j z l) → Steps c before (Now (Load (ClosedRestart w j z)))
          follow c w j z l before node lift [] le af saw = restart_load w j z l before node lift saw
          follow zero w j z l before node lift (y ∷ us) le af saw = absurd (omega (arith, le))
          follow (suc c) w j z l before node lift (Restarts K B ∷ us) le af saw =
              link_step c (λ w2 j2 z2 l2 before2 node2. follow c w2 j2 z2 l2 before2 node2) w j z l before node B K
              (λ n ws row af2 er saw2. lift n (Restarts K B ∷ ws) row (af.0, af2) er saw2) us (omega (arith, le)) af.1 saw
          follow (suc c) w j z l before node lift (_ ∷ []) le af saw = ends s code words stand h f tk fit law o live p carried (Check x i) e ta u nm
          follow (suc c) w j z l before node lift (_ ∷ y ∷ us) le af saw = absurd saw

          -- whether the entry is this place's
          abbrev Own : (Spot → Word) → Type 0
          Own n = Unit {0} × Knows s.takeover SC v n (TakenMessage p x i) (Local t0 y0)

          pub inherits : Lifts Own (Now (Load (TakenEntry p x i (entries.Local t0 y0)))) → (us : List Word) → AreFit us → Saw s SC v M (Own M) (Now (Load (TakenEntry p x i (entries.Local t0 y0)))) us → Going (rest_of s SC v (Now (Load (TakenEntry p x i (entries.Local t0 y0)))) us)
          inherits lift [] af saw = looks s code words stand h f tk fit law o live p carried (Check x i) e ta u nm v Own (Now (Load (TakenEntry p x i (entries.Local t0 y0)))) lift [] tt saw (TakenEntry p x i (entries.Local t0 y0)) refl (Slot x i) refl refl refl (λ q. q) (λ q. refl) (λ q. q)
          inherits lift (Taken n q ∷ us) af saw =
              either (length us) (λ l2. Own l2 × May o p (Slot x i) (Taken n q) (l2 (Slot x i))) ((n == t0 + 1) && (q == p + 64)) (Now (Load (ClosedRestart x i y0))) (Now (Install (record { kind = Seek; bottom = b p })))
              (λ is. follow (length us) x i y0 [] (λ l2. Own l2 × May o p (Slot x i) (Taken n q) (l2 (Slot x i))) (λ a.
              let two = both_true s code (n == t0 + 1) (q == p + 64) is in
              let says : m (Message p) ≡ Local t0 y0 = sym (message_is s.takeover ih p x i (Local t0 y0) a.0.1) in record {
                own = says;
                thief = inr e;
                tag = n;
                taken = sym (taken_stays o p x i (Taken n q) (m (Slot x i)) tt a.1) ∙ ap (Taken n) (eqb-true q (p + 64) two.1);
                note = t0;
                says = says;
                way = tt;
                bares = λ y d. absurd (cc);
              }))
              (λ is. seek_end (length us) (λ l2. Own l2 × May o p (Slot x i) (Taken n q) (l2 (Slot x i))) (λ a. sym (message_is s.takeover ih p x i (Local t0 y0) a.0.1)))
              (λ l2 ws row af2 er saw2. lift l2 (Taken n q ∷ ws) row (af.0, af2) er saw2) us (le_refl (length us)) af.1 saw
          inherits lift (Empty n ∷ us) af saw = seek_end (length us) (λ l2. Own l2 × May o p (Slot x i) (Empty n) (l2 (Slot x i))) (λ a. sym (message_is s.takeover ih p x i (Local t0 y0) a.0.1)) (λ l2 ws row af2 er saw2. lift l2 (Empty n ∷ ws) row (af.0, af2) er saw2) us (le_refl (length us)) af.1 saw
          inherits lift (Local n q ∷ us) af saw = seek_end (length us) (λ l2. Own l2 × May o p (Slot x i) (Local n q) (l2 (Slot x i))) (λ a. sym (message_is s.takeover ih p x i (Local t0 y0) a.0.1)) (λ l2 ws row af2 er saw2. lift l2 (Local n q ∷ ws) row (af.0, af2) er saw2) us (le_refl (length us)) af.1 saw
          inherits lift (Job n q ∷ us) af saw = seek_end (length us) (λ l2. Own l2 × May o p (Slot x i) (Job n q) (l2 (Slot x i))) (λ a. sym (message_is s.takeover ih p x i (Local t0 y0) a.0.1)) (λ l2 ws row af2 er saw2. lift l2 (Job n q ∷ ws) row (af.0, af2) er saw2) us (le_refl (length us)) af.1 saw
          inherits lift (_ ∷ []) af saw = ends s code words stand h f tk fit law o live p carried (Check x i) e ta u nm
          inherits lift (_ ∷ y ∷ us) af saw = absurd saw
