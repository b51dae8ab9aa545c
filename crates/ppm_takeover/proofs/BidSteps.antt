-- A processor that looks at a place whose holder is dead bids for it. Within six steps more the place has another holder, by this bid or another one.
use Rattle.std.proofs.Common.{◌≡◌, ◌≢◌, ◌⊎◌, ◌≤◌, ◌<◌, ◌+◌, if◌then◌else◌, ℕ, zero, suc, Bool, true, false, List, [], ◌∷◌, ◌++◌, Some}
use Rattle.std.proofs.Common.{inl, inr, refl, sym, ap, ◌∙◌, subst, arith}
use Rattle.std.specs.List.{AllByRecursion}
use Rattle.std.specs.Prelude.{slice_get, slice_set, ◌^◌}
use Rattle.std.proofs.lemmas.Bool.{cases_eq, eq-eqb, ne_eqb, lt-ltb, true≢false}
use Rattle.ppm_strands.specs.Tree.{Words, Tree}
use Rattle.ppm_cells.specs.HoldChange.{bid_of}
use Rattle.ppm_cells.specs.Memory.{AreWordsOf, read, write as store}
use Rattle.ppm_cells.specs.declared.cell.Cell.TheVariants.{FinishWord, DeadWord, MessageWord, HolderWord}
use Rattle.ppm_cells.specs.declared.holder.Holder.{Holder as AHold}
use Rattle.ppm_cells.specs.declared.restart.Restart.{Restart}
use Rattle.ppm_cells.specs.declared.restart.RestartKind.TheVariants.{Seek, Take, Take2}
use Rattle.ppm_cells.specs.declared.shape.Shape.{Shape}
use Rattle.ppm_cells.specs.declared.shape.Takeover.{Takeover}
use Rattle.ppm_cells.specs.declared.shape.Takeover.TheVariants.{ByPlaces}
use Rattle.ppm_strands.specs.Strand.{Frame}
use Rattle.ppm_code.specs.Strands.{Point, Result}
use Rattle.ppm_code.specs.declared.code.CodeParts.{CodeParts}
use Rattle.ppm_code.specs.declared.location.FrameWord.{FrameWord}
use Rattle.ppm_step.specs.Among.{IsTurnAmong}
use Rattle.ppm_step.specs.Contents.{content_of, word_of}
use Rattle.ppm_step.specs.Laws.{reached, finish_at}
use Rattle.ppm_step.specs.Rows.{with_kind, bids, by_places, lowered, on_number, on_holder, seek_held, seek_by, seek_holder, seek_dead, makes_bid}
use Rattle.ppm_step.specs.Rows.{found_at}
use Rattle.ppm_step.specs.Standings.{Standing, IsAt, IsWithin, IsBroken, IsDone, row_is_there, then_is_there}
use Rattle.ppm_step.specs.Standings.{within_if, stands, begins_if, at_finish}
use Rattle.ppm_step.specs.State.{State as RunState, stand_in, stand_of, acts, happens, after, is_done_at}
use Rattle.ppm_step.specs.There.{restart_is_there}
use Rattle.ppm_step.specs.declared.content.Content.{Content}
use Rattle.ppm_step.specs.declared.content.Content.TheVariants.{ANumber, AHolder}
use Rattle.ppm_step.specs.declared.content.Reading.TheVariants.{AsNumber, AsHolder}
use Rattle.ppm_step.specs.declared.row.Point.TheVariants.{SeekHolder, SeekDead, BidMessage}
use Rattle.ppm_step.specs.declared.row.Row.{Row}
use Rattle.ppm_step.specs.declared.row.Row.TheVariants.{Now, Store, Exchange}
use Rattle.ppm_step.specs.declared.row.Seat.{Seat}
use Rattle.ppm_step.specs.declared.row.Then.TheVariants.{Load, Again}
use Rattle.ppm_step.specs.declared.turn.Act.TheVariants.{Step}
use Rattle.ppm_step.specs.declared.turn.Turn.{Turn}
use Rattle.ppm_tickets.specs.Lawful.{tag}
use Rattle.ppm_tickets.specs.View as spots
use Rattle.ppm_tickets.specs.View.{content_by, word_as}
use Rattle.ppm_tickets.specs.Words.{Word, Held, Number, Spot, Bid, Holder, Dead}
use Rattle.ppm_tickets.proofs.StepLemmas.{stand_own}
use Rattle.ppm_tickets.proofs.ViewLemmas.{shows, shows_content, again, packed_as, view_here}
use Rattle.ppm_kept.specs.Running.{IsFair}
use Rattle.ppm_runs.proofs.JoinLemmas.{stand_else}
use Rattle.ppm_progress.specs.Soon.{turns_of, StepsOnly}
use Rattle.ppm_progress.proofs.MomentLemmas.{IsMoment, AreMoments, first_moment, IsOn, sees_at, wrote_at, stores_carried, own_place, own_carrier}
use Rattle.ppm_progress.proofs.MomentLemmas.{other_here, own_here}
use Rattle.ppm_progress.proofs.SoonLemmas.{step_is, next_is, set_stays}
use Rattle.ppm_progress.proofs.SpotLemmas.{dead_or, bid_goes, holder_goes}
use Rattle.ppm_progress.proofs.WriteLemmas.{MovesTo, StoresAt}

-- processor c carries place q, and has seen place p held by d with tag t
module _ (s : Shape) (code : CodeParts) (places : s.takeover ≡ ByPlaces) (fair : IsFair code) (root : Tree (Frame FrameWord Point) Result) (input : Words)
    (ws : List ℕ) (c q : ℕ) (there : c < s.processors) (p t d : ℕ) (is_place : p < s.processors) (small : t + 1 < 2 ^ 58) where
  abbrev held : AHold
  held = record { tag = t; processor = d }

  abbrev Here : RunState → Type 0
  Here state = IsOn s code fair root input c q state

  abbrev told : RunState → Type 0
  told state = spots.view s state.words (Bid q) ≡ Held (suc t) c

  abbrev StandsAt : RunState → Seat → Row → Type 0
  StandsAt state seat row = stand_of state c ≡ IsWithin seat row

  -- the steps that are left until the bid is made: the dead word was not loaded yet; the bid is to be stored; Take is to be installed; the finish word
  -- is to be loaded; the message is; the bid is to be made
  abbrev Coming : (left : ℕ) → RunState → Type 0
  Coming (suc zero) state =
      (seat : Seat) × StandsAt state seat (Exchange (HolderWord p) (AHolder held) (AHolder (record { tag = suc t; processor = c })) (with_kind seat (Take2 p)))
  Coming (suc (suc zero)) state = (seat : Seat) × StandsAt state seat (Now (Load (BidMessage p d))) × told state
  Coming (suc (suc (suc zero))) state = (b : ℕ) × (stand_of state c ≡ IsAt q (Some (record { kind = Take p d; bottom = b }))) × told state
  Coming (suc (suc (suc (suc zero)))) state = (seat : Seat) × StandsAt state seat (Now (with_kind seat (Take p d))) × told state
  Coming (suc (suc (suc (suc (suc zero))))) state =
      (seat : Seat) × StandsAt state seat (Store (MessageWord seat.place) (AHolder (bid_of held seat.own)) (with_kind seat (Take p d)))
  Coming (suc (suc (suc (suc (suc (suc zero)))))) state = (seat : Seat) × StandsAt state seat (Now (Load (SeekDead p held)))
  Coming _ state = ⊥

  -- or words were found broken, and then the next step sets the finish word
  abbrev Bidding : (left : ℕ) → RunState → Type 0
  Bidding left state = Coming left state ⊎ ((place : ℕ) × (1 ≤ left) × (stand_of state c ≡ IsBroken place))

  -- the holder is the one that was seen, or has changed
  abbrev Risen : RunState → Type 0
  Risen state = t < tag (spots.view s state.words (Holder p))

  abbrev Outcome : RunState → List Turn → Type 0
  Outcome state more = Risen (after s code state more) ⊎ (finish_at s (after s code state more) ≢ 0)

  -- tags never sink
  pub tag_rises : (state : RunState) → IsMoment s code fair root input state → (turn : Turn) → turn.processor < s.processors → (v : ℕ)
      → tag (spots.view s state.words (Holder v)) ≤ tag (spots.view s (happens s code state turn).words (Holder v))
  tag_rises state now turn lt v =
      elim (holder_goes s code state.words now.advancing.run.halves.lawful.0 turn.act (stand_of state turn.processor) (happens s code state turn).words
      (wrote_at s code fair root input state now turn lt) v) [
        | inl same ↦ let e = ap tag same in omega (arith, e)
        | inr made ↦ let old = ap tag made.old_is in let new = ap tag made.new_is in omega (arith, old, new)
      ]

  pub risen_stays : (state : RunState) (more : List Turn) → AreMoments s code fair root input state more → AllByRecursion (IsTurnAmong s.processors) more
      → Risen state → Risen (after s code state more)
  risen_stays state [] are among up = up
  risen_stays state (turn ∷ more) are among up =
      let rise = tag_rises state are.0 turn among.0.processor p in
      risen_stays (happens s code state turn) more are.1 among.1 (omega (arith, up, rise))

  -- a holder that changes has a higher tag
  pub holder_or : (state : RunState) → IsMoment s code fair root input state → spots.view s state.words (Holder p) ≡ Held t d
      → (turn : Turn) → turn.processor < s.processors
      → (spots.view s (happens s code state turn).words (Holder p) ≡ Held t d) ⊎ Risen (happens s code state turn)
  holder_or state now is turn lt =
      elim (holder_goes s code state.words now.advancing.run.halves.lawful.0 turn.act (stand_of state turn.processor) (happens s code state turn).words
      (wrote_at s code fair root input state now turn lt) p) [
        | inl same ↦ inl (same ∙ is)
        | inr made ↦ let old = ap tag (sym is ∙ made.old_is) in let new = ap tag made.new_is in inr (omega (arith, old, new))
      ]

  -- the message of c's place is stored by c alone
  told_kept : (state : RunState) → Here state → (turn : Turn) → turn.processor < s.processors
      → ((z : ℕ) → turn.processor ≡ c → StoresAt (stand_of state turn.processor) z → ⊥) → told state → told (happens s code state turn)
  told_kept state now turn lt bare is =
      elim (bid_goes s code state.words now.moment.advancing.run.halves.lawful.0 turn.act (stand_of state turn.processor) (happens s code state turn).words
      (wrote_at s code fair root input state now.moment turn lt) q) [
        | inl same ↦ same ∙ is
        | inr at ↦
            let mine = own_carrier s code fair root input c q there state now turn.processor
            (stores_carried s code fair root input state now.moment turn.processor q (stand_of state turn.processor) refl at) in
            absurd (bare q mine at)
      ]

  -- another one's turn leaves it so
  coming_kept : (left : ℕ) (state : RunState) → Here state → (turn : Turn) → turn.processor < s.processors → turn.processor ≢ c
      → Bidding left state → Bidding left (happens s code state turn)
  coming_kept left state now turn lt ne at = by left at
    where
      same : stand_of (happens s code state turn) c ≡ stand_of state c
      same = stand_else s code state turn.processor c turn.act (stand_of state turn.processor) (λ z. ne (sym z))

      keeps : told state → told (happens s code state turn)
      keeps is = told_kept state now turn lt (λ z own. absurd (ne own)) is

      by : (left : ℕ) → Bidding left state → Bidding left (happens s code state turn)
      by left (inr broken) = inr (broken.0, broken.1, same ∙ broken.2)
      by (suc zero) (inl a) = inl (a.0, same ∙ a.1)
      by (suc (suc zero)) (inl a) = inl (a.0, same ∙ a.1, keeps a.2)
      by (suc (suc (suc zero))) (inl a) = inl (a.0, same ∙ a.1, keeps a.2)
      by (suc (suc (suc (suc zero)))) (inl a) = inl (a.0, same ∙ a.1, keeps a.2)
      by (suc (suc (suc (suc (suc zero))))) (inl a) = inl (a.0, same ∙ a.1)
      by (suc (suc (suc (suc (suc (suc zero)))))) (inl a) = inl (a.0, same ∙ a.1)
      by _ (inl a) = absurd a

  -- a step of its own
  module _ (state : RunState) (now : Here state) (v : ℕ) (holds : spots.view s state.words (Holder p) ≡ Held t d)
      (dead : spots.view s state.words (Dead d) ≡ Number 1) where
    abbrev turn : Turn
    turn = record { processor = c; act = Step v }

    abbrev next : RunState
    next = happens s code state turn

    abbrev m : Spot → Word
    m = spots.view s state.words

    fit : AreWordsOf s state.words
    fit = now.moment.advancing.run.halves.lawful.0

    live : (x : Standing) → stand_of state c ≡ x → is_done_at x ≡ false
    live x e = ap is_done_at (sym e) ∙ now.going

    -- where it stands then, and the words
    stands_at : (x y : Standing) → stand_of state c ≡ x → x ≢ IsDone → (acts s code state c (Step v) x).stand ≡ slice_set state.stand c y → stand_of next c ≡ y
    stands_at x y e alive stand =
        ap (λ (z : Standing). stand_of (acts s code state c (Step v) z) c) e ∙ ap (λ (l : List Standing). stand_in (slice_get l c)) stand
        ∙ stand_own state.stand c y (λ z. alive (sym e ∙ z))

    words_at : (x : Standing) → stand_of state c ≡ x → next.words ≡ (acts s code state c (Step v) x).words
    words_at x e = ap (λ (z : Standing). (acts s code state c (Step v) z).words) e

    -- a row that is there, or broken words
    comes : (left : ℕ) (seat : Seat) (row : Row) (y : Bool) → 1 ≤ left → stand_of next c ≡ within_if seat row y
        → (stand_of next c ≡ IsWithin seat row → Coming left next) → Bidding left next
    comes left seat row true some e go = inl (go e)
    comes left seat row false some e go = inr (seat.place, some, e)

    place_is : (seat : Seat) (row : Row) → StandsAt state seat row → q ≡ seat.place
    place_is seat row e =
        own_place s code fair root input c q there state now seat.place
        (sees_at s code fair root input state now.moment c (IsWithin seat row) e).0.carried

    own_is : (seat : Seat) (row : Row) → StandsAt state seat row → seat.own ≡ c
    own_is seat row e = (sees_at s code fair root input state now.moment c (IsWithin seat row) e).0.own

    keeps_told : (x : Standing) → stand_of state c ≡ x → ((z : ℕ) → StoresAt x z → ⊥) → told state → told next
    keeps_told x e bare is = told_kept state now turn there (λ z own at. bare z (subst (λ (y : Standing). StoresAt y z) e at)) is

    -- the load of the dead word
    dead_step : Coming (suc (suc (suc (suc (suc (suc zero)))))) state → Bidding (suc (suc (suc (suc (suc zero))))) next
    dead_step (seat, e) =
        let row = Now (Load (SeekDead p held)) in
        let sees = sees_at s code fair root input state now.moment c (IsWithin seat row) e in
        let w : content_of AsNumber (read s state.words (DeadWord d)) ≡ ANumber 1 = sym (shows_content s state.words (Dead d) sees.2) ∙ ap content_by dead in
        let then_ = Store (MessageWord seat.place) (AHolder (bid_of held seat.own)) (with_kind seat (Take p d)) in
        let found : found_at s seat v (SeekDead p held) (content_of AsNumber (read s state.words (DeadWord d))) ≡ then_ =
        ap (λ (z : Content). on_number z (seek_dead seat p held)) w ∙ ap (bids seat p held) (lt-ltb (t + 1) (2 ^ 58) small) in
        let at : stand_of next c ≡ within_if seat then_ (row_is_there s seat then_) =
        stands_at (IsWithin seat row) _ e (λ z. cc) refl ∙ ap (stands s code seat) found in
        comes (suc (suc (suc (suc (suc zero))))) seat then_ (row_is_there s seat then_) (omega arith) at (λ is. (seat, is))

    -- the store of the bid
    store_step : Coming (suc (suc (suc (suc (suc zero))))) state → Bidding (suc (suc (suc (suc zero)))) next
    store_step (seat, e) =
        let bid = bid_of held seat.own in
        let row = Store (MessageWord seat.place) (AHolder bid) (with_kind seat (Take p d)) in
        let sees = sees_at s code fair root input state now.moment c (IsWithin seat row) e in
        let then_ = Now (with_kind seat (Take p d)) in
        let few = s.within.processors_most in
        let own = own_is seat row e in
        let low_own : seat.own < 64 = omega (arith, own, there, few) in
        let shown = lt-ltb seat.place s.processors sees.0.carried.place in
        let said : spots.view s next.words (Bid seat.place) ≡ Held (t + 1) seat.own =
        ap (λ (l : List ℕ). spots.view s l (Bid seat.place)) (words_at (IsWithin seat row) e)
        ∙ view_here s state.words (Bid seat.place) (word_of (AHolder bid)) fit shown ∙ ap word_as (again (AHolder bid) tt (low_own, (small, tt))) in
        let one : t + 1 ≡ suc t = omega arith in
        let is : told next =
        ap (λ (z : ℕ). spots.view s next.words (Bid z)) (place_is seat row e) ∙ said ∙ ap (λ (z : ℕ). Held z seat.own) one ∙ ap (Held (suc t)) own in
        comes (suc (suc (suc (suc zero)))) seat then_ (then_is_there s seat (with_kind seat (Take p d))) (omega arith)
        (stands_at (IsWithin seat row) _ e (λ z. cc) refl) (λ at. (seat, at, is))

    -- the install of Take
    install_step : Coming (suc (suc (suc (suc zero)))) state → Bidding (suc (suc (suc zero))) next
    install_step (seat, e, is) =
        let row = Now (with_kind seat (Take p d)) in
        let at = stands_at (IsWithin seat row) _ e (λ z. cc) refl in
        let place = place_is seat row e in
        inl (
          seat.restart.bottom,
          at ∙ ap (λ (z : ℕ). IsAt z (Some (record { kind = Take p d; bottom = seat.restart.bottom }))) (sym place),
          keeps_told (IsWithin seat row) e (λ z a. a) is,
        )

    -- the load of the finish word
    finish_step : Coming (suc (suc (suc zero))) state → Bidding (suc (suc zero)) next ⊎ (finish_at s next ≢ 0)
    finish_step (b, e, is) = by (read s state.words FinishWord) refl
      where
        re : Restart
        re = record { kind = Take p d; bottom = b }

        seat : Seat
        seat = record { own = c; place = q; restart = re }

        words : next.words ≡ state.words
        words = words_at (IsAt q (Some re)) e

        at : stand_of next c ≡ at_finish s code c q (Some re) (read s state.words FinishWord)
        at = stands_at (IsAt q (Some re)) _ e (λ z. cc) refl

        told_now : told next
        told_now = keeps_told (IsAt q (Some re)) e (λ z a. a) is

        begins : (y : Bool) → stand_of next c ≡ begins_if s code seat y → Bidding (suc (suc zero)) next
        begins false z = inr (q, omega arith, z)
        begins true z =
            let row = Now (Load (BidMessage p d)) in
            let first : stand_of next c ≡ stands s code seat row = z ∙ ap (λ (how : Takeover). stands s code seat (by_places how row)) places in
            comes (suc (suc zero)) seat row (then_is_there s seat (Load (BidMessage p d))) (omega arith) first (λ i. (seat, i, told_now))

        by : (n : ℕ) → read s state.words FinishWord ≡ n → Bidding (suc (suc zero)) next ⊎ (finish_at s next ≢ 0)
        by (suc n) z = inr (λ none. let a = ap (λ (l : List ℕ). read s l FinishWord) words in omega (arith, a, z, none))
        by zero z = inl (begins (restart_is_there s re) (at ∙ ap (at_finish s code c q (Some re)) z))

    -- the load of the message
    message_step : Coming (suc (suc zero)) state → Bidding (suc zero) next
    message_step (seat, e, is) =
        let row = Now (Load (BidMessage p d)) in
        let sees = sees_at s code fair root input state now.moment c (IsWithin seat row) e in
        let place = place_is seat row e in
        let own = own_is seat row e in
        let message : AHold = record { tag = suc t; processor = c } in
        let shown = lt-ltb seat.place s.processors sees.0.carried.place in
        let w : content_of AsHolder (read s state.words (MessageWord seat.place)) ≡ AHolder message =
        sym (shows_content s state.words (Bid seat.place) shown) ∙ ap content_by (ap (λ (z : ℕ). m (Bid z)) (sym place) ∙ is) in
        let then_ = Exchange (HolderWord p) (AHolder held) (AHolder message) (with_kind seat (Take2 p)) in
        let found : found_at s seat v (BidMessage p d) (content_of AsHolder (read s state.words (MessageWord seat.place))) ≡ then_ =
        ap (λ (z : Content). on_holder z (makes_bid seat p d)) w
        ∙ ap (λ (y : Bool). if y then lowered (suc t) seat p d message else Now (with_kind seat Seek)) (eq-eqb c seat.own (sym own)) in
        let at : stand_of next c ≡ within_if seat then_ (row_is_there s seat then_) =
        stands_at (IsWithin seat row) _ e (λ z. cc) refl ∙ ap (stands s code seat) found in
        comes (suc zero) seat then_ (row_is_there s seat then_) (omega arith) at (λ i. (seat, i))

    -- the bid
    bid_step : Coming (suc zero) state → Risen next
    bid_step (seat, e) =
        let message : AHold = record { tag = suc t; processor = c } in
        let row = Exchange (HolderWord p) (AHolder held) (AHolder message) (with_kind seat (Take2 p)) in
        let shown = lt-ltb p s.processors is_place in
        let few = s.within.processors_most in
        let raw : read s state.words (HolderWord p) ≡ word_of (AHolder held) =
        packed_as (AHolder held) (read s state.words (HolderWord p)) tt (sym (shows s state.words (Holder p) shown) ∙ holds) in
        let words : next.words ≡ store s state.words (HolderWord p) (word_of (AHolder message)) =
        words_at (IsWithin seat row) e
        ∙ ap (λ (y : Bool). if y then store s state.words (HolderWord p) (word_of (AHolder message)) else state.words)
        (eq-eqb (read s state.words (HolderWord p)) (word_of (AHolder held)) raw) in
        let is : spots.view s next.words (Holder p) ≡ Held (suc t) c =
        ap (λ (l : List ℕ). spots.view s l (Holder p)) words
        ∙ view_here s state.words (Holder p) (word_of (AHolder message)) fit shown
        ∙ ap word_as (again (AHolder message) tt (omega (arith, there, few), (omega (arith, small), tt))) in
        let up = ap tag is in
        omega (arith, up)

    -- broken words
    broken_step : (place : ℕ) → stand_of state c ≡ IsBroken place → IsMoment s code fair root input next → finish_at s next ≢ 0
    broken_step place e then_ =
        let at = stands_at (IsBroken place) IsDone e (λ z. cc) refl in
        elim (own_here s code fair root input c q there state now v (λ z a. subst (λ (y : Standing). MovesTo (Step v) y c z) e a) then_) [
          | inr set ↦ set
          | inl here ↦ absurd (true≢false (sym (ap is_done_at at) ∙ here.going))
        ]

    -- one step
    abbrev Stepped : (left : ℕ) → Type 0
    Stepped left = Risen next ⊎ ((finish_at s next ≢ 0) ⊎ Bidding left next)

    one_step : (left : ℕ) → Bidding (suc left) state → IsMoment s code fair root input next → Stepped left
    one_step left (inr broken) then_ = inr (inl (broken_step broken.0 broken.2 then_))
    one_step zero (inl a) then_ = inl (bid_step a)
    one_step (suc zero) (inl a) then_ = inr (inr (message_step a))
    one_step (suc (suc zero)) (inl a) then_ = elim (finish_step a) [ inl on ↦ inr (inr on) | inr set ↦ inr (inl set) ]
    one_step (suc (suc (suc zero))) (inl a) then_ = inr (inr (install_step a))
    one_step (suc (suc (suc (suc zero)))) (inl a) then_ = inr (inr (store_step a))
    one_step (suc (suc (suc (suc (suc zero))))) (inl a) then_ = inr (inr (dead_step a))
    one_step _ (inl a) then_ = absurd a

    -- these rows don't move
    still : (left : ℕ) → Bidding left state → (z : ℕ) → MovesTo (Step v) (stand_of state c) c z → ⊥
    still left at z moves = by left at
      where
        none : (x : Standing) → stand_of state c ≡ x → (MovesTo (Step v) x c z → ⊥) → ⊥
        none x e bare = bare (subst (λ (y : Standing). MovesTo (Step v) y c z) e moves)

        by : (left : ℕ) → Bidding left state → ⊥
        by left (inr broken) = none (IsBroken broken.0) broken.2 (λ a. a)
        by (suc zero) (inl a) = none _ a.1 (λ a. a)
        by (suc (suc zero)) (inl a) = none _ a.1 (λ a. a)
        by (suc (suc (suc zero))) (inl a) = none _ a.1 (λ a. a)
        by (suc (suc (suc (suc zero)))) (inl a) = none _ a.1 (λ a. a)
        by (suc (suc (suc (suc (suc zero))))) (inl a) = none _ a.1 (λ a. a)
        by (suc (suc (suc (suc (suc (suc zero)))))) (inl a) = none _ a.1 (λ a. a)
        by _ (inl a) = a

  -- the load of the holder word, where the turn names p
  pub seek_step : (state : RunState) → Here state → spots.view s state.words (Holder p) ≡ Held t d → spots.view s state.words (Dead d) ≡ Number 1
      → (seat : Seat) → StandsAt state seat (Now (Load SeekHolder)) → p ≢ seat.place → d ≢ seat.own
      → Bidding (suc (suc (suc (suc (suc (suc zero)))))) (happens s code state (record { processor = c; act = Step p }))
  seek_step state now holds dead seat e away other =
      let w : content_of AsHolder (read s state.words (HolderWord p)) ≡ AHolder held =
      sym (shows_content s state.words (Holder p) (lt-ltb p s.processors is_place)) ∙ ap content_by holds in
      let then_ = Now (Load (SeekDead p held)) in
      let found : found_at s seat p SeekHolder (content_of AsHolder (read s state.words (HolderWord p))) ≡ then_ =
      ap (λ (z : Content). on_holder z (seek_holder s seat p)) w
      ∙ ap (λ (y : Bool). if y then Now Again else seek_by s seat p held s.takeover) (ne_eqb p seat.place away)
      ∙ ap (seek_by s seat p held) places ∙ ap (seek_held s seat p held) (ne_eqb d seat.own other) in
      let at : stand_of (happens s code state (record { processor = c; act = Step p })) c
      ≡ within_if seat then_ (then_is_there s seat (Load (SeekDead p held))) =
      stands_at state now p holds dead (IsWithin seat (Now (Load SeekHolder))) _ e (λ z. cc) refl ∙ ap (stands s code seat) found in
      comes state now p holds dead (suc (suc (suc (suc (suc (suc zero)))))) seat then_ (then_is_there s seat (Load (SeekDead p held))) (omega arith) at
      (λ is. (seat, is))

  some_left : (left : ℕ) (state : RunState) → Bidding left state → 1 ≤ left
  some_left left state (inr broken) = broken.1
  some_left (suc left) state (inl a) = omega arith
  some_left zero state (inl a) = absurd a

  pub dead_still : (state : RunState) → IsMoment s code fair root input state → (turn : Turn) → turn.processor < s.processors
      → spots.view s state.words (Dead d) ≡ Number 1 → spots.view s (happens s code state turn).words (Dead d) ≡ Number 1
  dead_still state now turn lt is =
      elim (dead_or s code state.words now.advancing.run.halves.lawful.0 turn.act (stand_of state turn.processor) (happens s code state turn).words
      (wrote_at s code fair root input state now turn lt) d) [ inl same ↦ same ∙ is | inr one ↦ one ]

  -- what follows from a step of its own, by what follows from the later turns
  module _ (v : ℕ) (more first : List Turn) (state : RunState) (on : state ≡ reached s code ws first)
      (are : AreMoments s code fair root input (happens s code state (record { processor = c; act = Step v })) more) (now : Here state)
      (holds : spots.view s state.words (Holder p) ≡ Held t d) (dead : spots.view s state.words (Dead d) ≡ Number 1)
      (among : AllByRecursion (IsTurnAmong s.processors) more)
      (ih : (left : ℕ) → Here (happens s code state (record { processor = c; act = Step v }))
      → Bidding left (happens s code state (record { processor = c; act = Step v })) → left ≤ turns_of c more
      → Outcome (happens s code state (record { processor = c; act = Step v })) more) where
    abbrev mine : Turn
    mine = record { processor = c; act = Step v }

    then_ : IsMoment s code fair root input (happens s code state mine)
    then_ = first_moment s code fair root input (happens s code state mine) more are

    set_on : finish_at s (happens s code state mine) ≢ 0 → Outcome state (mine ∷ more)
    set_on set =
        inr (set_stays s code fair root input ws c q there (first ++ mine ∷ []) more (happens s code state mine)
        (next_is s code fair root input ws c q there first mine state on) set)

    own_bids : (left : ℕ) → Bidding left state → left ≤ turns_of c (mine ∷ more) → Outcome state (mine ∷ more)
    own_bids zero at le = absurd (let some = some_left zero state at in omega (arith, some))
    own_bids (suc less) at le =
        let one : turns_of c (mine ∷ more) ≡ 1 + turns_of c more = ap (λ (y : Bool). (if y then 1 else 0) + turns_of c more) (eq-eqb c c refl) in
        elim (one_step state now v holds dead less at then_) [
          | inl up ↦ inl (risen_stays (happens s code state mine) more are among up)
          | inr (inl set) ↦ set_on set
          | inr (inr on_) ↦ elim (own_here s code fair root input c q there state now v (still state now v holds dead (suc less) at) then_) [
            | inr set ↦ set_on set
            | inl here ↦ ih less here on_ (omega (arith, le, one))
          ]
        ]

  -- so many steps are enough
  pub bid_soon : (more first : List Turn) (state : RunState) → state ≡ reached s code ws first → AreMoments s code fair root input state more → Here state
      → (left : ℕ) → Bidding left state → spots.view s state.words (Holder p) ≡ Held t d → spots.view s state.words (Dead d) ≡ Number 1
      → AllByRecursion (IsTurnAmong s.processors) more → AllByRecursion (StepsOnly c) more → left ≤ turns_of c more → Outcome state more
  bid_soon [] first state on are now left at holds dead among steps le = absurd (let some = some_left left state at in omega (arith, some, le))
  bid_soon (one ∷ more) first state on are now left at holds dead among steps le =
      let lt = among.0.processor in
      let gone = dead_still state now.moment one lt dead in
      let behind = next_is s code fair root input ws c q there first one state on in
      elim (holder_or state now.moment holds one lt) [
        | inr up ↦ inl (risen_stays (happens s code state one) more are.1 among.1 up)
        | inl same ↦ elim (cases_eq one.processor c) [
          | inr ne ↦
              let count : turns_of c (one ∷ more) ≡ 0 + turns_of c more =
              ap (λ (y : Bool). (if y then 1 else 0) + turns_of c more) (ne_eqb one.processor c ne) in
              let next = first_moment s code fair root input (happens s code state one) more are.1 in
              bid_soon more (first ++ one ∷ []) (happens s code state one) behind are.1
              (other_here s code fair root input c q there state now one lt ne next) left (coming_kept left state now one lt ne at) same gone among.1 steps.1
              (omega (arith, le, count))
          | inl own ↦
              let act = step_is one.act (steps.0 own) in
              (subst (λ (z : Turn). AreMoments s code fair root input (happens s code state z) more
              → ((less : ℕ) → Here (happens s code state z) → Bidding less (happens s code state z) → less ≤ turns_of c more
              → Outcome (happens s code state z) more)
              → left ≤ turns_of c (z ∷ more) → Outcome state (z ∷ more))
              (λ k. record { processor = sym own k; act = sym act.1 k })
              (λ are_ ih_ le_. own_bids act.0 more first state on are_ now holds dead among.1 ih_ left at le_)) are.1
              (λ less here on_ few. bid_soon more (first ++ one ∷ []) (happens s code state one) behind are.1 here less on_ same gone among.1 steps.1 few) le
        ]
      ]
