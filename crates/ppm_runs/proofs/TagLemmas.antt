-- Tags of holders stay low, in each state of a run: a bid is for the place of a processor that is dead, so a tag is at most the number of the
-- dead, and what it was when fresh processors came. This rests on no bound of the work.
use Rattle.std.proofs.Common.{◌≡◌, ◌≢◌, ◌≤◌, ◌<◌, ℕ, zero, suc, ◌+◌, ◌*◌, ◌==◌, Bool, true, false, if◌then◌else◌, List, [], ◌∷◌, ◌++◌, length, Option, Some, None, inl, inr, refl, sym, ap, ◌∙◌, subst, arith}
use Rattle.std.specs.List.{AllByRecursion}
use Rattle.std.proofs.lemmas.Bool.{cases_eq, lt-ltb, eqb-true}
use Rattle.ppm_strands.specs.Tree.{Words, Tree}
use Rattle.ppm_strands.specs.Calm.{Calm}
use Rattle.ppm_words.specs.declared.named_array.NamedArray.{NamedArray}
use Rattle.ppm_cells.specs.Cells.{IsCell, address}
use Rattle.ppm_cells.specs.Holder.{holder_of}
use Rattle.ppm_cells.specs.Memory.{read, write as store}
use Rattle.ppm_cells.specs.Restart.{restart_word}
use Rattle.ppm_cells.specs.declared.cell.Cell.{Cell}
use Rattle.ppm_cells.specs.declared.cell.Cell.TheVariants as cells
use Rattle.ppm_cells.specs.declared.holder.Holder.{Holder as AHold}
use Rattle.ppm_cells.specs.declared.restart.Restart.{Restart}
use Rattle.ppm_cells.specs.declared.restart.RestartKind.TheVariants.{Take}
use Rattle.ppm_cells.specs.declared.shape.Shape.{Shape}
use Rattle.ppm_cells.specs.declared.shape.Takeover.TheVariants.{ByPlaces}
use Rattle.ppm_strands.specs.Strand.{Frame}
use Rattle.ppm_code.specs.Strands.{Point, Result}
use Rattle.ppm_code.specs.declared.code.CodeParts.{CodeParts}
use Rattle.ppm_code.specs.declared.location.FrameWord.{FrameWord}
use Rattle.ppm_layout.specs.Correct.{Opens}
use Rattle.ppm_layout.specs.Root.{root_strand}
use Rattle.ppm_layout.specs.declared.images.Image.{Image}
use Rattle.ppm_layout.proofs.ValueLemmas.{stands_for}
use Rattle.ppm_step.specs.Among.{IsTurnAmong}
use Rattle.ppm_step.specs.Contents.{content_of, word_of, read_so}
use Rattle.ppm_step.specs.Frames.{Rest, Loads, Stores, Full, Installs, Breaks}
use Rattle.ppm_step.specs.Standings.{Standing, IsLost, IsPlaced, IsAt, IsWithin, IsRunning, IsBroken, IsDone, forked as forked_by, begun, wanted_row, wanted_rest}
use Rattle.ppm_step.specs.State.{State as RunState, stand_of, words_after, happens, acts, after, forks_of, takes_of}
use Rattle.ppm_step.specs.declared.ask.Want.TheVariants.{Exchanges}
use Rattle.ppm_step.specs.declared.content.Content.{Content}
use Rattle.ppm_step.specs.declared.content.Content.TheVariants.{AHolder}
use Rattle.ppm_step.specs.declared.content.Reading.TheVariants.{AsHolder}
use Rattle.ppm_step.specs.declared.row.Row.{Row}
use Rattle.ppm_step.specs.declared.row.Row.TheVariants.{Now, Store, Exchange}
use Rattle.ppm_step.specs.declared.row.Seat.{Seat}
use Rattle.ppm_step.specs.declared.row.Then.TheVariants.{Load, Install, Fork, Begin, Move, Enter, Again, Broken}
use Rattle.ppm_step.specs.declared.turn.Act.{Act}
use Rattle.ppm_step.specs.declared.turn.Act.TheVariants.{Step, Soft, Hard, Quit}
use Rattle.ppm_step.specs.declared.turn.Turn.{Turn}
use Rattle.ppm_tickets.specs.Along.{by_act}
use Rattle.ppm_tickets.specs.Entries.{IsPooledAt}
use Rattle.ppm_tickets.specs.Homes.{Home}
use Rattle.ppm_tickets.specs.Lawful.{IsDead, Dooms, tag}
use Rattle.ppm_tickets.specs.Renewal.{IsLawful, IsRenewal}
use Rattle.ppm_tickets.specs.Saw.{IsQuietCell, Sees, Sits}
use Rattle.ppm_tickets.specs.View.{word_as, cell_of, view, kinds, bottoms}
use Rattle.ppm_tickets.specs.Words as words
use Rattle.ppm_tickets.specs.Words.{Word, Held, Number, Spot, Holder, Dead}
use Rattle.ppm_tickets.proofs.EntryLemmas.{cell_there}
use Rattle.ppm_tickets.proofs.ViewLemmas.{shows, view_here, view_else, again}
use Rattle.ppm_frames.specs.Seen.{arrays_at}
use Rattle.ppm_frames.specs.Skeletons.{Skeleton}
use Rattle.ppm_frames.specs.Views as frames
use Rattle.ppm_kept.specs.Running.{IsFair, strands}
use Rattle.ppm_kept.specs.Steps.{tree_after}
use Rattle.ppm_runs.specs.Legs.{Leg, words_then, state_then, AreLegs, homes_then, forked_then, taken_then, last_state}
use Rattle.ppm_runs.specs.Run.{setting, IsRun}
use Rattle.ppm_runs.specs.Sound.{RaisesHolder, one_dead, IsHolderWithin}
use Rattle.ppm_runs.specs.Tags.{TagsStayLow}
use Rattle.ppm_runs.proofs.BidLemmas.{Bids, Leaves, row_bids}
use Rattle.ppm_runs.proofs.HolderLemmas.{holder_same, holder_dies, deads_most}
use Rattle.ppm_runs.proofs.LegLemmas.{legs_stay}
use Rattle.ppm_runs.proofs.MomentLemmas.{turns_lead_on}
use Rattle.ppm_runs.proofs.OrderlyLemmas.{turns_are_orderly}

-- the cells of which tags speak
abbrev tells : Cell → Bool
tells (cells.HolderWord place) = true
tells (cells.DeadWord processor) = true
tells _ = false

tells_apart : (c d : Cell) → tells c ≡ true → tells d ≡ false → c ≢ d
tells_apart c d a b e = absurd (let z : true ≡ false = sym a ∙ ap tells e ∙ b in cc)

quiet_tells : (c : Cell) → IsQuietCell c → tells c ≡ false
quiet_tells cells.FinishWord q = refl
quiet_tells (cells.RoomCounter p) q = refl
quiet_tells (cells.BlockWord x) q = refl
quiet_tells (cells.ArrayWord x) q = refl
quiet_tells _ q = absurd q

abbrev holder_place : Cell → ℕ
holder_place (cells.HolderWord place) = place
holder_place _ = 0

abbrev dead_one : Cell → ℕ
dead_one (cells.DeadWord processor) = processor
dead_one _ = 0

-- each place has a holder whose tag is that low
abbrev pub AreLow : (s : Shape) (raised : ℕ) → List ℕ → Type 0
AreLow s raised ws = (v : ℕ) → v < s.processors → IsHolderWithin s raised (view s ws) (view s ws (Holder v))

module _ (s : Shape) (raised : ℕ) (ws : List ℕ) (low : AreLow s raised ws) where
  abbrev first : Spot → Word
  first = view s ws

  module _ (at : Cell) (w : ℕ) (there : IsCell s at) where
    abbrev then_ : Spot → Word
    then_ = view s (store s ws at w)

    same : (d : Spot) → cell_of d ≢ at → then_ d ≡ first d
    same d ne = view_else s ws at w d there (λ shown e. ne e)

    -- a word of another cell
    quiet_low : tells at ≡ false → AreLow s raised (store s ws at w)
    quiet_low quiet v lt =
        subst (IsHolderWithin s raised then_) (sym (same (Holder v) (tells_apart (cells.HolderWord v) at refl quiet)))
        (holder_same s raised first then_ (λ q. same (Dead q) (tells_apart (cells.DeadWord q) at refl quiet)) (first (Holder v)) (low v lt))

  -- a holder word
  holder_low : (v w : ℕ) → v < s.processors → IsHolderWithin s raised first (view s (store s ws (cells.HolderWord v) w) (Holder v)) → AreLow s raised (store s ws (cells.HolderWord v) w)
  holder_low v w there new q lt =
      let at = cells.HolderWord v in
      let dead : (x : ℕ) → then_ at w there (Dead x) ≡ first (Dead x) = λ x. same at w there (Dead x) (λ e. cc) in elim (cases_eq q v) [
        | inl e ↦ subst (λ (x : ℕ). IsHolderWithin s raised (then_ at w there) (then_ at w there (Holder x))) (sym e) (holder_same s raised first (then_ at w there) dead (then_ at w there (Holder v)) new)
        | inr ne ↦ subst (IsHolderWithin s raised (then_ at w there)) (sym (same at w there (Holder q) (λ e. ne (ap holder_place e)))) (holder_same s raised first (then_ at w there) dead (first (Holder q)) (low q lt))
      ]

  -- a processor dies
  dead_low : (c w : ℕ) → c < s.processors → one_dead (view s (store s ws (cells.DeadWord c) w) (Dead c)) ≡ 1 → one_dead (first (Dead c)) ≡ 0 → AreLow s raised (store s ws (cells.DeadWord c) w)
  dead_low c w there now was v lt =
      let at = cells.DeadWord c in
      subst (IsHolderWithin s raised (then_ at w there)) (sym (same at w there (Holder v) (λ e. cc)))
      (holder_dies first (then_ at w there) c now was (λ x ne. same at w there (Dead x) (λ e. ne (ap dead_one e))) s raised there (first (Holder v)) (low v lt))

one_alive : (w : Word) → (IsDead w → ⊥) → one_dead w ≡ 0
one_alive (Number zero) a = refl
one_alive (Number (suc n)) a = absurd (a tt)
one_alive (words.Empty x) a = refl
one_alive (words.Local x y) a = refl
one_alive (words.Job x y) a = refl
one_alive (words.Taken x y) a = refl
one_alive (Held x y) a = refl
one_alive (words.Linked x) a = refl
one_alive (words.Restarts x y) a = refl
one_alive words.Unread a = refl

one_is : (w : Word) → IsDead w → one_dead w ≡ 1
one_is (Number (suc n)) a = refl
one_is (Number zero) a = absurd a
one_is _ a = absurd a

-- a turn of a lawful state
module _ (s : Shape) (code : CodeParts) (state : RunState) (h : ℕ → Home) (forked taken : List ℕ) (lawful : IsLawful s code state h forked taken) (pooled : (c : ℕ) → IsPooledAt s (stand_of state c))
    (raised : ℕ) (low : AreLow s raised state.words) (c : ℕ) (there : c < s.processors) where
  abbrev ws : List ℕ
  ws = state.words

  abbrev m : Spot → Word
  m = view s ws

  abbrev Low : List ℕ → Type 0
  Low words = AreLow s raised words

  sees_at : (x : Standing) → stand_of state c ≡ x → Sees s m (kinds s ws) (bottoms s ws) c x
  sees_at x e = subst (Sees s m (kinds s ws) (bottoms s ws) c) e (lawful.1.sees c)

  quiet_store : (at : Cell) (w : ℕ) → IsCell s at → tells at ≡ false → Low (store s ws at w)
  quiet_store at w is quiet = quiet_low s raised ws low at w is quiet

  quiet_try : (at : Cell) (old new : ℕ) → IsCell s at → tells at ≡ false → Low (words_after ws (Exchanges (address s at) old new))
  quiet_try at old new is quiet = by (read s ws at == old)
    where
      by : (y : Bool) → Low (if y then store s ws at new else ws)
      by true = quiet_store at new is quiet
      by false = low

  -- a row under way
  module _ (seat : Seat) (row : Row) (e : stand_of state c ≡ IsWithin seat row) where
    sits : Sits s m (kinds s ws) (bottoms s ws) c seat
    sits = (sees_at (IsWithin seat row) e).0

    -- a bid raises a tag as there is one dead more than it counts
    bid_low : (v : ℕ) → v < s.processors → (old new : Content) → read s ws (cells.HolderWord v) ≡ word_of old → RaisesHolder s code m seat v old new → Low (store s ws (cells.HolderWord v) (word_of new))
    bid_low v lv (AHolder o) (AHolder n) was a =
        let shown = lt-ltb v s.processors lv in
        let before : m (Holder v) ≡ Held o.tag o.processor = shows s ws (Holder v) shown ∙ ap (λ (w : ℕ). word_as (content_of AsHolder w)) was ∙ ap word_as (again (AHolder o) tt a.2) in
        let behind : view s (store s ws (cells.HolderWord v) (word_of (AHolder n))) (Holder v) ≡ Held n.tag n.processor = view_here s ws (Holder v) (word_of (AHolder n)) lawful.0 shown ∙ ap word_as (again (AHolder n) tt a.3) in
        let doom : Dooms m seat.place (Take v o.processor) = subst (Dooms m seat.place) (sits.at.kind ∙ a.4) (lawful.1.holding.doomed seat.place) in
        let bid : n.tag ≡ doom.0 + 1 = ap tag (sym a.5 ∙ doom.2) in
        let held : tag (m (Holder v)) ≡ o.tag = ap tag before in
        let up = a.0 in
        let killed : IsDead (m (Dead o.processor)) = elim doom.4 [ inl z ↦ z | inr lt ↦ absurd (omega (arith, lt, held, bid, up)) ] in
        let below = (subst (IsHolderWithin s raised m) before (low v lv)).1 in
        let one = one_is (m (Dead o.processor)) killed in
        let own_ : n.processor ≡ c = a.1 ∙ sits.own in
        let none : one_dead (m (Dead n.processor)) ≡ 0 = ap (λ (q : ℕ). one_dead (m (Dead q))) own_ ∙ one_alive (m (Dead c)) sits.carried.lives.alive in
        holder_low s raised ws low v (word_of (AHolder n)) lv
        (subst (IsHolderWithin s raised m) (sym behind) (subst (λ (q : ℕ). q < s.processors) (sym own_) there, omega (arith, below, one, none, up)))
    bid_low v lv (AHolder o) _ was a = absurd a
    bid_low v lv _ new was a = absurd a

    install_low : (r : Restart) → Low (store s ws (cells.RestartWord seat.place) (restart_word r))
    install_low r = quiet_store (cells.RestartWord seat.place) (restart_word r) sits.carried.place refl

    store_low : (cell : Cell) (content : Content) → IsCell s cell → Leaves s code m seat cell → Low (store s ws cell (word_of content))
    store_low (cells.HolderWord v) content is leaves = absurd leaves
    store_low (cells.DeadWord q) content is leaves = absurd leaves
    store_low cells.FinishWord content is leaves = quiet_store cells.FinishWord (word_of content) is refl
    store_low (cells.CarryWord q) content is leaves = quiet_store (cells.CarryWord q) (word_of content) is refl
    store_low (cells.RestartWord q) content is leaves = quiet_store (cells.RestartWord q) (word_of content) is refl
    store_low (cells.MessageWord q) content is leaves = quiet_store (cells.MessageWord q) (word_of content) is refl
    store_low (cells.Top v) content is leaves = quiet_store (cells.Top v) (word_of content) is refl
    store_low (cells.RoomCounter q) content is leaves = quiet_store (cells.RoomCounter q) (word_of content) is refl
    store_low (cells.EntryWord v i) content is leaves = quiet_store (cells.EntryWord v i) (word_of content) is refl
    store_low (cells.BlockWord x) content is leaves = quiet_store (cells.BlockWord x) (word_of content) is refl
    store_low (cells.ArrayWord x) content is leaves = quiet_store (cells.ArrayWord x) (word_of content) is refl

    try_low : (cell : Cell) (old new : Content) → IsCell s cell → Bids s code m seat cell old new → Low (words_after ws (Exchanges (address s cell) (word_of old) (word_of new)))
    try_low (cells.HolderWord v) old new is bids = by (read s ws (cells.HolderWord v) == word_of old) refl
      where
        by : (y : Bool) → (read s ws (cells.HolderWord v) == word_of old) ≡ y → Low (if y then store s ws (cells.HolderWord v) (word_of new) else ws)
        by true eq = bid_low v is old new (eqb-true (read s ws (cells.HolderWord v)) (word_of old) eq) bids
        by false eq = low
    try_low (cells.DeadWord q) old new is bids = absurd bids
    try_low cells.FinishWord old new is bids = quiet_try cells.FinishWord (word_of old) (word_of new) is refl
    try_low (cells.CarryWord q) old new is bids = quiet_try (cells.CarryWord q) (word_of old) (word_of new) is refl
    try_low (cells.RestartWord q) old new is bids = quiet_try (cells.RestartWord q) (word_of old) (word_of new) is refl
    try_low (cells.MessageWord q) old new is bids = quiet_try (cells.MessageWord q) (word_of old) (word_of new) is refl
    try_low (cells.Top v) old new is bids = quiet_try (cells.Top v) (word_of old) (word_of new) is refl
    try_low (cells.RoomCounter q) old new is bids = quiet_try (cells.RoomCounter q) (word_of old) (word_of new) is refl
    try_low (cells.EntryWord v i) old new is bids = quiet_try (cells.EntryWord v i) (word_of old) (word_of new) is refl
    try_low (cells.BlockWord x) old new is bids = quiet_try (cells.BlockWord x) (word_of old) (word_of new) is refl
    try_low (cells.ArrayWord x) old new is bids = quiet_try (cells.ArrayWord x) (word_of old) (word_of new) is refl

  within_low : (seat : Seat) (u : ℕ) (row : Row) → stand_of state c ≡ IsWithin seat row → Low (words_after ws (wanted_row s seat u row))
  within_low seat u (Now (Load point)) e = low
  within_low seat u (Now (Install r)) e = install_low seat (Now (Install r)) e r
  within_low seat u (Now (Fork block)) e = install_low seat (Now (Fork block)) e (forked_by seat block)
  within_low seat u (Now (Begin block frame bottom)) e = install_low seat (Now (Begin block frame bottom)) e (begun frame bottom)
  within_low seat u (Now (Move place)) e = quiet_store (cells.CarryWord seat.own) place (subst (λ (q : ℕ). q < s.processors) (sym (sits seat (Now (Move place)) e).own) there) refl
  within_low seat u (Now (Enter capsule)) e = low
  within_low seat u (Now Again) e = low
  within_low seat u (Now Broken) e = low
  within_low seat u (Store cell content next) e =
      let sees = sees_at (IsWithin seat (Store cell content next)) e in
      store_low seat (Store cell content next) e cell content (cell_there s code cell sees.2 (subst (IsPooledAt s) e (pooled c))) (row_bids s code m (kinds s ws) (bottoms s ws) seat sees.0.there (Store cell content next) sees.1)
  within_low seat u (Exchange cell old new next) e =
      let sees = sees_at (IsWithin seat (Exchange cell old new next)) e in
      try_low seat (Exchange cell old new next) e cell old new (cell_there s code cell sees.2 (subst (IsPooledAt s) e (pooled c))) (row_bids s code m (kinds s ws) (bottoms s ws) seat sees.0.there (Exchange cell old new next) sees.1)

  finish_low : (w : ℕ) → Low (words_after ws (Exchanges 0 0 w))
  finish_low w = quiet_try cells.FinishWord 0 w tt refl

  running_low : (seat : Seat) (rest : Rest) → stand_of state c ≡ IsRunning seat rest → Low (words_after ws (wanted_rest s seat rest))
  running_low seat (Loads cell go) e = low
  running_low seat (Stores cell content rest) e =
      let sees = sees_at (IsRunning seat (Stores cell content rest)) e in
      quiet_store cell (word_of content) (cell_there s code cell sees.3 (subst (IsPooledAt s) e (pooled c))) (quiet_tells cell sees.2.0)
  running_low seat Full e = finish_low _
  running_low seat (Installs kind) e = quiet_store (cells.RestartWord seat.place) _ (sees_at (IsRunning seat (Installs kind)) e).0.carried.place refl
  running_low seat Breaks e = low

  step_low : (u : ℕ) (x : Standing) → stand_of state c ≡ x → Low (acts s code state c (Step u) x).words
  step_low u IsLost e = low
  step_low u (IsPlaced p) e = low
  step_low u (IsAt p r) e = low
  step_low u (IsWithin seat row) e = within_low seat u row e
  step_low u (IsRunning seat rest) e = running_low seat rest e
  step_low u (IsBroken p) e = finish_low _
  step_low u IsDone e = low

  -- it dies, and lived before
  dies_low : (IsDead (m (Dead c)) → ⊥) → Low (store s ws (cells.DeadWord c) 1)
  dies_low alive = dead_low s raised ws low c 1 there (ap one_dead (view_here s ws (Dead c) 1 lawful.0 (lt-ltb c s.processors there))) (one_alive (m (Dead c)) alive)

  act_low : (act : Act) (x : Standing) → stand_of state c ≡ x → Low (acts s code state c act x).words
  act_low (Step u) x e = step_low u x e
  act_low Soft IsLost e = low
  act_low Soft (IsPlaced p) e = low
  act_low Soft (IsAt p r) e = low
  act_low Soft (IsWithin seat row) e = low
  act_low Soft (IsRunning seat rest) e = low
  act_low Soft (IsBroken p) e = low
  act_low Soft IsDone e = low
  act_low Hard IsLost e = dies_low (sees_at IsLost e).alive
  act_low Hard (IsPlaced p) e = dies_low (sees_at (IsPlaced p) e).lives.alive
  act_low Hard (IsAt p r) e = dies_low (sees_at (IsAt p r) e).0.lives.alive
  act_low Hard (IsWithin seat row) e = dies_low (sees_at (IsWithin seat row) e).0.carried.lives.alive
  act_low Hard (IsRunning seat rest) e = dies_low (sees_at (IsRunning seat rest) e).0.carried.lives.alive
  act_low Hard (IsBroken p) e = dies_low (sees_at (IsBroken p) e).alive
  act_low Hard IsDone e = low
  act_low (Quit why) IsLost e = finish_low _
  act_low (Quit why) (IsPlaced p) e = finish_low _
  act_low (Quit why) (IsAt p r) e = finish_low _
  act_low (Quit why) (IsWithin seat row) e = finish_low _
  act_low (Quit why) (IsRunning seat rest) e = finish_low _
  act_low (Quit why) (IsBroken p) e = finish_low _
  act_low (Quit why) IsDone e = low

pub turn_low : (s : Shape) (code : CodeParts) (state : RunState) (h : ℕ → Home) (forked taken : List ℕ) → IsLawful s code state h forked taken → ((c : ℕ) → IsPooledAt s (stand_of state c))
    → (raised : ℕ) → AreLow s raised state.words → (turn : Turn) → IsTurnAmong s.processors turn → AreLow s raised (happens s code state turn).words
turn_low s code state h forked taken lawful pooled raised low turn among =
    act_low s code state h forked taken lawful pooled raised low turn.processor among.processor turn.act (stand_of state turn.processor) refl

-- words that come back: nobody is dead, and a tag is one more
module _ (s : Shape) (raised : ℕ) (ws back : List ℕ) (renewal : IsRenewal s ws back) (low : AreLow s raised ws) where
  dead_none : (c : ℕ) → c < s.processors → view s back (Dead c) ≡ Number 0
  dead_none c lt = shows s back (Dead c) (lt-ltb c s.processors lt) ∙ ap Number (renewal.renewed (cells.DeadWord c) lt)

  pub back_low : AreLow s (raised + (s.processors + 1)) back
  back_low v lt =
      let shown = lt-ltb v s.processors lt in
      let r = renewal.renewed (cells.HolderWord v) lt in
      let was : view s ws (Holder v) ≡ Held r.0 r.1 = shows s ws (Holder v) shown ∙ r.2 in
      let few = s.within.processors_most in
      let now : view s back (Holder v) ≡ Held (r.0 + 1) v = shows s back (Holder v) shown ∙ ap (λ (w : ℕ). word_as (content_of AsHolder w)) r.4
      ∙ ap word_as (again (AHolder (record { tag = r.0 + 1; processor = v })) tt (omega (arith, lt, few), (r.3, tt))) in
      let below = (subst (IsHolderWithin s raised (view s ws)) was (low v lt)).1 in
      let most = deads_most (view s ws) s.processors in
      let none : one_dead (view s back (Dead v)) ≡ 0 = ap one_dead (dead_none v lt) in
      subst (IsHolderWithin s (raised + (s.processors + 1)) (view s back)) (sym now) (lt, omega (arith, below, most, none))

-- the holder that is low
low_holder : (s : Shape) (raised : ℕ) (m : Spot → Word) (o : Option AHold) → IsHolderWithin s raised m (word_as (read_so AHolder o))
    → (holder : AHold) × (o ≡ Some holder) × (holder.tag ≤ s.processors + raised)
low_holder s raised m (Some h) low = (h, refl, let few = deads_most m s.processors in let tag_ = low.1 in omega (arith, few, tag_))
low_holder s raised m None low = absurd low

module _ (s : Shape) (code : CodeParts) (places : s.takeover ≡ ByPlaces) (fair : IsFair code) (root : Tree (Frame FrameWord Point) Result) (input : Words) where
  pub all_low : (raised : ℕ) (state : RunState) (h : ℕ → Home) (f tk : List ℕ) (t : Skeleton) (turns : List Turn) → AllByRecursion (IsTurnAmong s.processors) turns
      → IsRun s code root input state h f tk t → AreLow s raised state.words → AreLow s raised (after s code state turns).words
  all_low raised state h f tk t [] all run low = low
  all_low raised state h f tk t (turn ∷ more) all run low =
      all_low raised (happens s code state turn) (by_act s state.words turn.act (stand_of state turn.processor) h) (forks_of state turn ++ f) (takes_of state turn ++ tk) (tree_after (setting s code) state turn t) more all.1
      (turns_lead_on s code places fair root input state h f tk t run turn all.0)
      (turn_low s code state h f tk run.lawful (turns_are_orderly s code places fair root input state h f tk t run).pooled raised low turn all.0)

times_more : (n k : ℕ) → n * k + n ≡ n * suc k
times_more n k = grind arith

none_of : (n : ℕ) → n * 0 ≡ 0
none_of n = grind arith

module _ (code : CodeParts) (input : List NamedArray) (s : Shape) (keeper : ℕ) (im : Image) (places : s.takeover ≡ ByPlaces) (fair : IsFair code) (opens : Opens code input s keeper im)
    (calm : Calm (strands s code) (root_strand code input) (arrays_at (frames.view s im.words))) where
  -- how much tags have risen by legs
  abbrev pub risen : List Leg → ℕ
  risen legs = (s.processors + 1) * length legs

  opens_low : AreLow s 0 im.words
  opens_low v lt =
      let held : view s im.words (Holder v) ≡ Held 0 v = shows s im.words (Holder v) (lt-ltb v s.processors lt) ∙ ap (λ (o : Option AHold). word_as (read_so AHolder o)) ((stands_for code input s keeper im opens).holder v lt) in
      let alive : one_dead (view s im.words (Dead v)) ≡ 0 = ap one_dead (shows s im.words (Dead v) (lt-ltb v s.processors lt) ∙ ap Number (opens.image_is.opened (cells.DeadWord v) lt)) in
      subst (IsHolderWithin s 0 (view s im.words)) (sym held) (lt, omega (arith, alive))

  behind_low : (legs : List Leg) → AreLegs s code im.words legs → AreLow s (risen legs) (words_then s code im.words legs)
      → (turns : List Turn) → AllByRecursion (IsTurnAmong s.processors) turns → AreLow s (risen legs) (last_state s code im.words legs turns).words
  behind_low legs are low turns all =
      let run = legs_stay code input s keeper im places fair opens calm legs are [] tt in
      all_low s code places fair (root_strand code input) (arrays_at (frames.view s im.words)) (risen legs) (state_then s code im.words legs) (homes_then s code im.words legs) (forked_then s code im.words legs)
      (taken_then s code im.words legs) run.0 turns all run.1 low

  pub begins_low : (legs : List Leg) → AreLegs s code im.words legs → AreLow s (risen legs) (words_then s code im.words legs)
  begins_low [] are = subst (λ (n : ℕ). AreLow s n im.words) (sym (none_of (s.processors + 1))) opens_low
  begins_low (leg ∷ legs) are =
      subst (λ (n : ℕ). AreLow s n leg.back) (times_more (s.processors + 1) (length legs))
      (back_low s (risen legs) (last_state s code im.words legs leg.turns).words leg.back are.2.renewal (behind_low legs are.0 (begins_low legs are.0) leg.turns are.1))

pub tags_stay_low : TagsStayLow
tags_stay_low code input s keeper im places fair opens calm legs are turns all place there =
    let last = last_state s code im.words legs turns in
    let raised = risen code input s keeper im places fair opens calm legs in
    let shown : view s last.words (Holder place) ≡ word_as (read_so AHolder (holder_of (read s last.words (cells.HolderWord place)))) = shows s last.words (Holder place) (lt-ltb place s.processors there) in
    low_holder s raised (view s last.words) (holder_of (read s last.words (cells.HolderWord place)))
    (subst (IsHolderWithin s raised (view s last.words)) shown (behind_low code input s keeper im places fair opens calm legs are (begins_low code input s keeper im places fair opens calm legs are) turns all place there))
