-- What always holds, of words that come back.
use Rattle.std.proofs.Common.{[], ◌∷◌, ◌≡◌, ◌<◌, ◌+◌, ◌-◌, ℕ, List, Bool, true, false, inl, inr, refl, sym, ap, ◌∙◌, subst, arith, replicate, true≢false}
use Rattle.std.specs.Prelude.{nat_lt}
use Rattle.std.proofs.lemmas.Bool.{ltb-true, lt-ltb}
use mathlib.Core.Path.{fun_ext}
use Rattle.ppm_cells.specs.Memory.{read}
use Rattle.ppm_cells.specs.Restart.{restart_of}
use Rattle.ppm_cells.specs.declared.cell.Cell.TheVariants as cells
use Rattle.ppm_cells.specs.declared.restart.Restart.{Restart}
use Rattle.ppm_cells.specs.declared.restart.RestartKind.{RestartKind}
use Rattle.ppm_cells.specs.declared.restart.RestartKind.TheVariants.{Steal, Check, Take}
use Rattle.ppm_cells.specs.declared.shape.Shape.{Shape}
use Rattle.ppm_cells.specs.declared.shape.Takeover.{Takeover}
use Rattle.ppm_cells.specs.declared.shape.Takeover.TheVariants.{ByPlaces}
use Rattle.ppm_code.specs.declared.code.CodeParts.{CodeParts}
use Rattle.ppm_step.specs.Contents.{content_of}
use Rattle.ppm_step.specs.Standings.{Standing, IsLost}
use Rattle.ppm_step.specs.declared.content.Content.TheVariants.{AHolder}
use Rattle.ppm_step.specs.declared.content.Reading.TheVariants.{AsHolder}
use Rattle.ppm_step.specs.State.{State, opening}
use Rattle.ppm_tickets.specs.Homes.{Home, Unborn, Pushing, Listed, Popping, Stolen, Inline, Begun}
use Rattle.ppm_tickets.specs.Lawful.{IsTaken, IsClaim, IsDead, Names, tag, Steals, Carries, Aims, Dooms, Deque, Board, Order, Holding, Closed, Rooted}
use Rattle.ppm_tickets.specs.Renewal.{IsRenewal, IsLawful, ComesBack, StaysLawful, Part, Ran, CameBack, InParts, LawfulInParts}
use Rattle.ppm_tickets.specs.Saw.{Lives, Sees, IsBidThere, Lawful}
use Rattle.ppm_tickets.specs.View.{word_as, cell_of, reading_of, is_shown, absent, view, seeking, restart_or, restart_at, kinds, bottoms}
use Rattle.ppm_tickets.specs.Words.{Word, Held, Number, Spot, Message, Bid, Top, Slot, Holder, Carry, Dead}
use Rattle.ppm_tickets.proofs.ActLemmas.{run_keeps}
use Rattle.ppm_tickets.proofs.EstateLemmas.{plain, claims_shut}
use Rattle.ppm_tickets.proofs.Theorem.{opens_lawful, lost_or, all_rows}
use Rattle.ppm_tickets.proofs.ViewLemmas.{shown_cell, shows, again, if_true, if_false}

module _ (s : Shape) (places : s.takeover ≡ ByPlaces) (ws saved : List ℕ) (renewal : IsRenewal s ws saved) where
  abbrev m : Spot → Word
  m = view s ws

  abbrev n : Spot → Word
  n = view s saved

  -- what was not renewed
  same_at : (d : Spot) → (is_shown s d ≡ true → read s saved (cell_of d) ≡ read s ws (cell_of d)) → n d ≡ m d
  same_at d f = by (is_shown s d) refl
    where
      by : (y : Bool) → is_shown s d ≡ y → n d ≡ m d
      by true e = shows s saved d e ∙ ap (λ (w : ℕ). word_as (content_of (reading_of d) w)) (f e) ∙ sym (shows s ws d e)
      by false e = if_false (is_shown s d) _ (absent d) e ∙ sym (if_false (is_shown s d) _ (absent d) e)

  slot_is : (v i : ℕ) → n (Slot v i) ≡ m (Slot v i)
  slot_is v i = same_at (Slot v i) (λ e. renewal.renewed (cells.EntryWord v i) (shown_cell s (Slot v i) e))

  message_is : (p : ℕ) → n (Message p) ≡ m (Message p)
  message_is p = same_at (Message p) (λ e. renewal.renewed (cells.MessageWord p) (shown_cell s (Message p) e))

  bid_is : (p : ℕ) → n (Bid p) ≡ m (Bid p)
  bid_is p = same_at (Bid p) (λ e. renewal.renewed (cells.MessageWord p) (shown_cell s (Bid p) e))

  top_is : (v : ℕ) → n (Top v) ≡ m (Top v)
  top_is v = same_at (Top v) (λ e. renewal.renewed (cells.Top v) (shown_cell s (Top v) e))

  restart_same : (p : ℕ) → restart_at s saved p ≡ restart_at s ws p
  restart_same p = by (nat_lt p s.processors) refl
    where
      by : (y : Bool) → nat_lt p s.processors ≡ y → restart_at s saved p ≡ restart_at s ws p
      by true e = if_true (nat_lt p s.processors) _ seeking e ∙ ap (λ (w : ℕ). restart_or (restart_of w)) (renewal.renewed (cells.RestartWord p) (ltb-true p s.processors e)) ∙ sym (if_true (nat_lt p s.processors) _ seeking e)
      by false e = if_false (nat_lt p s.processors) _ seeking e ∙ sym (if_false (nat_lt p s.processors) _ seeking e)

  -- what was
  carry_is : (c : ℕ) → n (Carry c) ≡ Number c
  carry_is c = by (is_shown s (Carry c)) refl
    where
      by : (y : Bool) → is_shown s (Carry c) ≡ y → n (Carry c) ≡ Number c
      by true e = shows s saved (Carry c) e ∙ ap Number (renewal.renewed (cells.CarryWord c) (shown_cell s (Carry c) e))
      by false e = if_false (is_shown s (Carry c)) _ (absent (Carry c)) e

  dead_is : (c : ℕ) → n (Dead c) ≡ Number 0
  dead_is c = by (is_shown s (Dead c)) refl
    where
      by : (y : Bool) → is_shown s (Dead c) ≡ y → n (Dead c) ≡ Number 0
      by true e = shows s saved (Dead c) e ∙ ap Number (renewal.renewed (cells.DeadWord c) (shown_cell s (Dead c) e))
      by false e = if_false (is_shown s (Dead c)) _ (absent (Dead c)) e

  -- a holder that is there: its tag rises
  holder_at : (p : ℕ) → is_shown s (Holder p) ≡ true → (n (Holder p) ≡ Held (tag (m (Holder p)) + 1) p)
  holder_at p e =
      let there : p < s.processors = shown_cell s (Holder p) e in
      let r = renewal.renewed (cells.HolderWord p) there in
      let was : m (Holder p) ≡ Held r.0 r.1 = shows s ws (Holder p) e ∙ r.2 in
      shows s saved (Holder p) e ∙ ap (λ (w : ℕ). word_as (content_of AsHolder w)) r.4
      ∙ ap word_as (again (AHolder (record { tag = r.0 + 1; processor = p })) tt (omega (arith, there, s.within.processors_most), (r.3, tt)))
      ∙ ap (λ (w : Word). Held (tag w + 1) p) (sym was)

  named : (p : ℕ) → Names (n (Holder p)) p
  named p = by (is_shown s (Holder p)) refl
    where
      by : (y : Bool) → is_shown s (Holder p) ≡ y → Names (n (Holder p)) p
      by true e = subst (λ (w : Word). Names w p) (sym (holder_at p e)) refl
      by false e = subst (λ (w : Word). Names w p) (sym (if_false (is_shown s (Holder p)) _ (absent (Holder p)) e)) refl

  module _ (h : ℕ → Home) (k : ℕ → RestartKind) (b : ℕ → ℕ) where
    steals_to : (p r : ℕ) (K : RestartKind) → Steals m p K r → Steals n p K r
    steals_to p r (Steal v i) z = (z.0, message_is p ∙ z.1, slot_is v i ∙ z.2)
    steals_to p r (Check v i) z = (z.0, message_is p ∙ z.1, slot_is v i ∙ z.2)
    steals_to p r _ z = z

    steals_from : (p r : ℕ) (K : RestartKind) → Steals n p K r → Steals m p K r
    steals_from p r (Steal v i) z = (z.0, sym (message_is p) ∙ z.1, sym (slot_is v i) ∙ z.2)
    steals_from p r (Check v i) z = (z.0, sym (message_is p) ∙ z.1, sym (slot_is v i) ∙ z.2)
    steals_from p r _ z = z

    carries_to : (x : Home) (r : ℕ) → Carries m k b x r → Carries n k b x r
    carries_to (Pushing p) r z = subst (λ (w : Word). Carries (λ d. w) k b (Pushing p) r) (sym (slot_is p (b p))) z
    carries_to (Popping p) r z = subst (λ (w : Word). Carries (λ d. w) k b (Popping p) r) (sym (slot_is p (b p - 1))) z
    carries_to (Listed v i t) r z = slot_is v i ∙ z
    carries_to (Stolen p) r z = steals_to p r (k p) z
    carries_to Unborn r z = tt
    carries_to Inline r z = tt
    carries_to Begun r z = tt

    carries_from : (x : Home) (r : ℕ) → Carries n k b x r → Carries m k b x r
    carries_from (Pushing p) r z = subst (λ (w : Word). Carries (λ d. w) k b (Pushing p) r) (slot_is p (b p)) z
    carries_from (Popping p) r z = subst (λ (w : Word). Carries (λ d. w) k b (Popping p) r) (slot_is p (b p - 1)) z
    carries_from (Listed v i t) r z = sym (slot_is v i) ∙ z
    carries_from (Stolen p) r z = steals_from p r (k p) z
    carries_from Unborn r z = tt
    carries_from Inline r z = tt
    carries_from Begun r z = tt

    board_back : Board m k b (λ p. false) h → Board n k b (λ p. false) h
    board_back old = record {
      deque = λ v. subst (λ (e : ℕ → Word). Deque (k v) (b v) e) (fun_ext (λ i. sym (slot_is v i))) (old.deque v);
      real = λ r. carries_to (h r) r (old.real r);
      stays = old.stays;
      only = λ x r is st c. old.only x r is st (carries_from x r c);
    }

    taken_to : (v i : ℕ) → IsTaken (m (Slot v i)) → IsTaken (n (Slot v i))
    taken_to v i z = subst IsTaken (sym (slot_is v i)) z

    aims_to : (K : RestartKind) → Aims m K → Aims n K
    aims_to (Steal v i) a = λ j lt. taken_to v j (a j lt)
    aims_to (Check v i) a = λ j lt. taken_to v j (a j lt)
    aims_to _ a = tt

    order_back : Order m k → Order n k
    order_back old = record {
      passed = λ v i lt. taken_to v i (old.passed v i (subst (λ (w : Word). i < tag w) (top_is v) lt));
      first = λ v i j lt is. taken_to v i (old.first v i j lt (subst IsTaken (slot_is v j) is));
      aimed = λ p. aims_to (k p) (old.aimed p);
    }

    rises : (v : ℕ) → v < s.processors → tag (m (Holder v)) < tag (n (Holder v))
    rises v there = subst (λ (w : Word). tag (m (Holder v)) < tag w) (sym (holder_at v (lt-ltb v s.processors there))) (omega arith)

    dooms_to : (p : ℕ) (K : RestartKind) → IsBidThere s K → Dooms m p K → Dooms n p K
    dooms_to p (Take v d) there a = let up = rises v there in (a.0, a.1, bid_is p ∙ a.2, omega (arith, up, a.3), inr (omega (arith, up, a.3)))
    dooms_to p _ there a = tt

    holding_back : ((p : ℕ) → IsBidThere s (k p)) → Holding m k → Holding n k
    holding_back there old = record {
      held = λ c p alive is. (let same : Number c ≡ Number p = sym (carry_is c) ∙ is in let at : p ≡ c = cc in subst (Names (n (Holder p))) at (named p));
      carried = λ c. (c, carry_is c);
      doomed = λ p. dooms_to p (k p) (there p) (old.doomed p);
    }

  lives : (o : ℕ) → o < s.processors → Lives s n o
  lives o there = record { alive = λ z. subst IsDead (dead_is o) z; there = there }

  back : (h : ℕ → Home) (f tk : List ℕ) (stand : List Standing) → Lawful s m (kinds s ws) (bottoms s ws) stand h f tk → Lawful s n (kinds s ws) (bottoms s ws) (replicate s.processors IsLost) h f tk
  back h f tk stand law =
      let board = plain law.board (λ v z. subst (λ (how : Takeover). Closed how m v) places z) in
      let free : (v i : ℕ) → IsClaim (n (Slot v i)) → ⊥ = λ v i z. (own_claim v i (subst IsClaim (slot_is v i) z)) in record {
        board = record {
          ghost = n;
          gone = λ p. false;
          covers = record { others = λ d ne. refl; slots = λ v i. inl (refl, free v i) };
          board = board_back h (kinds s ws) (bottoms s ws) board;
          late = λ v g. absurd (true≢false (sym g));
          told = λ q v i t th is. absurd (free v i (subst IsClaim (sym is) (omega arith)));
          meant = λ q v i t x th is. subst (λ (how : Takeover). Closed how n v) (sym places) (subst (λ (how : Takeover). Closed how m v) places (law.board.meant q v i t x th (sym (message_is q) ∙ is)));
        };
        order = order_back h (kinds s ws) (bottoms s ws) law.order;
        holding = holding_back h (kinds s ws) (bottoms s ws) law.bids law.holding;
        rooted = subst (λ (how : Takeover). Rooted how n) (sym places) tt;
        bids = law.bids;
        counts = law.counts;
        sees = λ o. elim (lost_or s.processors o) [
          | inl a ↦ subst (Sees s n (kinds s ws) (bottoms s ws) o) (sym a.0) (lives o a.1)
          | inr e ↦ subst (Sees s n (kinds s ws) (bottoms s ws) o) (sym e) tt
        ];
      }
    where
      own_claim : (v i : ℕ) → IsClaim (m (Slot v i)) → ⊥
      own_claim v i z = subst (λ (how : Takeover). Closed how m v) places (claims_shut law.board v i z)

  pub comes_back : (h : ℕ → Home) (f tk : List ℕ) (stand : List Standing) → Lawful s m (kinds s ws) (bottoms s ws) stand h f tk
      → Lawful s n (kinds s saved) (bottoms s saved) (replicate s.processors IsLost) h f tk
  comes_back h f tk stand law =
      subst (λ (x : ℕ → RestartKind). Lawful s n x (bottoms s saved) (replicate s.processors IsLost) h f tk) (fun_ext (λ p. ap (λ (r : Restart). r.kind) (sym (restart_same p))))
      (subst (λ (x : ℕ → ℕ). Lawful s n (kinds s ws) x (replicate s.processors IsLost) h f tk) (fun_ext (λ p. ap (λ (r : Restart). r.bottom) (sym (restart_same p)))) (back h f tk stand law))

pub resumes : (s : Shape) (code : CodeParts) → ComesBack s code
resumes s code state saved h f tk places law renewal = (renewal.fit, comes_back s places state.words saved renewal h f tk state.stand law.1)

pub goes_on : (s : Shape) (code : CodeParts) → StaysLawful s code
goes_on s code state turns h f tk law orderly = run_keeps s code (all_rows s code) turns state h f tk law orderly

in_parts : (s : Shape) (code : CodeParts) → s.takeover ≡ ByPlaces → (parts : List Part) (state : State) (h : ℕ → Home) (f tk : List ℕ) → IsLawful s code state h f tk → InParts s code (IsLawful s code) state h f tk parts
in_parts s code places [] state h f tk law = law
in_parts s code places (Ran turns ∷ parts) state h f tk law = λ orderly. in_parts s code places parts _ _ _ _ (goes_on s code state turns h f tk law orderly)
in_parts s code places (CameBack saved ∷ parts) state h f tk law = λ renewal. in_parts s code places parts _ _ _ _ (resumes s code state saved h f tk places law renewal)

pub lawful_in_parts : (s : Shape) (code : CodeParts) → LawfulInParts s code
lawful_in_parts s code keeper frame ws parts places small opens =
    in_parts s code places parts (opening ws s.processors) (λ r. Unborn) [] [] (opens.fit, opens_lawful s code keeper frame ws small opens)
