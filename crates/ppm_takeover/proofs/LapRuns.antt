-- By places in each lap somebody makes a work turn, or a place has a new holder. So there are no more laps than work turns and new holders while a run
-- isn't over.
use Rattle.std.proofs.Common.{◌≡◌, ◌≢◌, ◌⊎◌, ◌≤◌, ◌<◌, ◌+◌, ◌*◌, ℕ, zero, suc, true, List, [], ◌∷◌, ◌++◌, length, inl, inr, refl, sym, ap, ◌∙◌, subst}
use Rattle.std.proofs.Common.{arith}
use Rattle.std.specs.List.{AllByRecursion}
use Rattle.std.specs.Prelude.{◌^◌}
use Rattle.std.proofs.lemmas.Bool.{cases_eq, true≢false}
use Rattle.std.proofs.lemmas.Bool.Decides.{eqb_tells}
use Rattle.std.proofs.lemmas.List.{append_assoc}
use Rattle.ppm_strands.specs.Tree.{Words, Tree}
use Rattle.ppm_strands.specs.Calm.{Calm}
use Rattle.ppm_words.specs.declared.named_array.NamedArray.{NamedArray}
use Rattle.ppm_cells.specs.declared.restart.RestartKind.{RestartKind}
use Rattle.ppm_cells.specs.declared.restart.RestartKind.TheVariants.{Seek}
use Rattle.ppm_cells.specs.declared.shape.Shape.{Shape}
use Rattle.ppm_cells.specs.declared.shape.Takeover.TheVariants.{ByPlaces}
use Rattle.ppm_strands.specs.Strand.{Frame}
use Rattle.ppm_code.specs.Strands.{Point, Result}
use Rattle.ppm_code.specs.declared.code.CodeParts.{CodeParts}
use Rattle.ppm_code.specs.declared.location.FrameWord.{FrameWord}
use Rattle.ppm_layout.specs.Correct.{Opens}
use Rattle.ppm_layout.specs.Root.{root_strand}
use Rattle.ppm_layout.specs.declared.images.Image.{Image}
use Rattle.ppm_step.specs.Among.{IsTurnAmong}
use Rattle.ppm_step.specs.Laws.{reached, finish_at}
use Rattle.ppm_step.specs.Standings.{Standing, IsWithin}
use Rattle.ppm_step.proofs.FinishLemmas.{finish_stays}
use Rattle.ppm_step.specs.State.{is_work, State as RunState, stand_of, happens, after, along, opening, is_done_at, work_of, seeks_holder}
use Rattle.ppm_step.specs.declared.row.Point.TheVariants.{SeekHolder}
use Rattle.ppm_step.specs.declared.row.Row.TheVariants.{Now}
use Rattle.ppm_step.specs.declared.row.Seat.{Seat}
use Rattle.ppm_step.specs.declared.row.Then.TheVariants.{Load}
use Rattle.ppm_step.specs.declared.turn.Act.TheVariants.{Step}
use Rattle.ppm_step.specs.declared.turn.Turn.{Turn}
use Rattle.ppm_tickets.specs.Along.{homes, forked as forked_in, taken as taken_in}
use Rattle.ppm_tickets.specs.Homes.{Home}
use Rattle.ppm_tickets.specs.Lawful.{IsDead, Names, Steals, tag}
use Rattle.ppm_tickets.specs.Saw.{Sees}
use Rattle.ppm_tickets.specs.View as spots
use Rattle.ppm_tickets.specs.View.{content_by}
use Rattle.ppm_tickets.specs.Words.{Word, Empty, Local, Job, Taken, Held, Number, Linked, Restarts, Unread, Spot, Holder, Dead, has}
use Rattle.ppm_frames.specs.Views.{view}
use Rattle.ppm_frames.specs.Seen.{arrays_at}
use Rattle.ppm_frames.specs.Skeletons.{Skeleton}
use Rattle.ppm_kept.specs.Running.{IsFair, strands}
use Rattle.ppm_runs.specs.Legs.{Leg, words_then, state_then, AreLegs, last_state, all_homes, all_forked, all_taken, work_then, all_work}
use Rattle.ppm_runs.specs.Sound.{IsHolderWithin}
use Rattle.ppm_runs.specs.Work.{work_in}
use Rattle.ppm_runs.proofs.HeirWork.{work_is_bounded}
use Rattle.ppm_runs.proofs.HolderLemmas.{deads_most}
use Rattle.ppm_runs.proofs.LegWork.{work_over_legs}
use Rattle.ppm_runs.proofs.SeekLemmas.{seekers_are_idle_over_legs}
use Rattle.ppm_runs.proofs.StandLemmas.{kinds_same}
use Rattle.ppm_runs.proofs.WholeLemmas.{in_two}
use Rattle.ppm_progress.specs.Laps.{Portion, turns_in}
use Rattle.ppm_progress.specs.Works.{IsAtWork, Works}
use Rattle.ppm_progress.proofs.ListLemmas.{both, front, back, has_some, work_both}
use Rattle.ppm_progress.proofs.MomentLemmas.{number_of, AreMoments, first_moment, IsOn, sees_at, own_here}
use Rattle.ppm_progress.proofs.SoonLemmas.{next_is, set_stays}
use Rattle.ppm_takeover.specs.Laps.{LooksAt, TakesPart, IsLap, holder_tags, AreLaps, LapsHaveWorkOrTakeover, RunsEndByPlaces, LegsEndByPlaces}
use Rattle.ppm_takeover.specs.Lost.{BidsFor, ComesTo, IsLeft}
use Rattle.ppm_progress.proofs.ThiefLemmas.{works_from_place}
use Rattle.ppm_progress.proofs.WriteLemmas.{MovesTo}
use Rattle.ppm_takeover.proofs.BidSteps.{tag_rises, risen_stays, holder_or, dead_still, seek_step, bid_soon}
use Rattle.ppm_takeover.proofs.ComeSteps.{comes_few, AreAllHeld, come_soon}
use Rattle.ppm_takeover.proofs.SoonRuns.{tended_moments, tended_held}
use Rattle.ppm_takeover.proofs.CarriedRuns.{IsTended, all_tended, tended_then, raised_by, nothing_is_lost_over_legs}

-- tags of so many places
pub tags_rise : (n : ℕ) (m k : Spot → Word) → ((v : ℕ) → v < n → tag (m (Holder v)) ≤ tag (k (Holder v))) → holder_tags n m ≤ holder_tags n k
tags_rise zero m k each = let a : holder_tags zero m ≡ 0 = refl in let b : holder_tags zero k ≡ 0 = refl in omega (arith, a, b)
tags_rise (suc n) m k each =
    let rest = tags_rise n m k (λ v lt. each v (omega (arith, lt))) in
    let one = each n (omega arith) in
    let a : holder_tags (suc n) m ≡ tag (m (Holder n)) + holder_tags n m = refl in
    let b : holder_tags (suc n) k ≡ tag (k (Holder n)) + holder_tags n k = refl in
    omega (arith, rest, one, a, b)

pub tags_rise_at : (n p : ℕ) (m k : Spot → Word) → ((v : ℕ) → v < n → tag (m (Holder v)) ≤ tag (k (Holder v))) → p < n
    → tag (m (Holder p)) < tag (k (Holder p)) → holder_tags n m < holder_tags n k
tags_rise_at zero p m k each lt up = absurd (omega (arith, lt))
tags_rise_at (suc n) p m k each lt up =
    let a : holder_tags (suc n) m ≡ tag (m (Holder n)) + holder_tags n m = refl in
    let b : holder_tags (suc n) k ≡ tag (k (Holder n)) + holder_tags n k = refl in
    elim (cases_eq p n) [
      | inl here ↦
          let rest = tags_rise n m k (λ v lt. each v (omega (arith, lt))) in
          let one = subst (λ (z : ℕ). tag (m (Holder z)) < tag (k (Holder z))) here up in
          omega (arith, rest, one, a, b)
      | inr ne ↦
          let rest = tags_rise_at n p m k (λ v lt. each v (omega (arith, lt))) (omega (arith, lt, ne)) up in
          let one = each n (omega arith) in
          omega (arith, rest, one, a, b)
    ]

times_one_more : (n k : ℕ) → suc n * k ≡ k + n * k
times_one_more n k = grind arith

tags_most : (n k : ℕ) (m : Spot → Word) → ((v : ℕ) → v < n → tag (m (Holder v)) ≤ k) → holder_tags n m ≤ n * k
tags_most zero k m each = let a : holder_tags zero m ≡ 0 = refl in omega (arith, a)
tags_most (suc n) k m each =
    let rest = tags_most n k m (λ v lt. each v (omega (arith, lt))) in
    let one = each n (omega arith) in
    let a : holder_tags (suc n) m ≡ tag (m (Holder n)) + holder_tags n m = refl in
    let b = times_one_more n k in
    omega (arith, rest, one, a, b)

-- a standing before the load of a holder word
pub seeks_is : (x : Standing) → seeks_holder x ≡ true → (seat : Seat) × (x ≡ IsWithin seat (Now (Load SeekHolder)))
seeks_is (IsWithin seat (Now (Load SeekHolder))) e = (seat, refl)
seeks_is x e = absurd (true≢false (sym e))

-- a holder word that is low
low_held : (s : Shape) (raised : ℕ) (m : Spot → Word) (w : Word) → IsHolderWithin s raised m w
    → (t : ℕ) × (d : ℕ) × (w ≡ Held t d) × (t ≤ raised + s.processors)
low_held s raised m (Held t d) low = (t, d, refl, let few = deads_most m s.processors in let at = low.1 in omega (arith, few, at))
low_held s raised m (Empty t) low = absurd low
low_held s raised m (Local t x) low = absurd low
low_held s raised m (Job t x) low = absurd low
low_held s raised m (Taken t x) low = absurd low
low_held s raised m (Number x) low = absurd low
low_held s raised m (Linked x) low = absurd low
low_held s raised m (Restarts x y) low = absurd low
low_held s raised m Unread low = absurd low

module _ (s : Shape) (code : CodeParts) (places : s.takeover ≡ ByPlaces) (fair : IsFair code) (root : Tree (Frame FrameWord Point) Result) (input : Words)
    (raised : ℕ) (ws : List ℕ) (few : raised + s.processors + 1 < 2 ^ 58) where
  abbrev Tended : RunState → (ℕ → Home) → (forked taken : List ℕ) → Skeleton → Type 0
  Tended state h f tk t = IsTended s code places fair root input raised ws state h f tk t

  -- a place that a dead processor has left is looked at: by the end of the lap it has another holder
  module _ (first lap : List Turn) (h : ℕ → Home) (f tk : List ℕ) (tree : Skeleton) (now : Tended (reached s code ws first) h f tk tree)
      (among : AllByRecursion (IsTurnAmong s.processors) lap) (p : ℕ) (left : IsLeft s (reached s code ws first).words p)
      (looks : LooksAt s code (reached s code ws first) lap p) where
    abbrev state : RunState
    state = reached s code ws first

    abbrev m : Spot → Word
    m = spots.view s state.words

    holder : (t : ℕ) × (d : ℕ) × (m (Holder p) ≡ Held t d) × (t ≤ raised + s.processors)
    holder = low_held s raised m (m (Holder p)) (now.low p left.there)

    abbrev t : ℕ
    t = holder.0

    abbrev d : ℕ
    d = holder.1

    small : t + 1 < 2 ^ 58
    small = let low = holder.3 in omega (arith, low, few)

    gone : m (Dead d) ≡ Number 1
    gone =
        let one : d ≡ left.holder = subst (λ (w : Word). Names w left.holder) holder.2 left.held in
        now.ones d (subst (λ (z : ℕ). IsDead (m (Dead z))) (sym one) left.dead)

    abbrev c : ℕ
    c = looks.processor

    abbrev turn : Turn
    turn = record { processor = c; act = Step p }

    abbrev upto : List Turn
    upto = first ++ looks.before

    abbrev there : RunState
    there = after s code state looks.before

    on : there ≡ reached s code ws upto
    on = sym (in_two s code (opening ws s.processors) first looks.before)

    split : AllByRecursion (IsTurnAmong s.processors) (looks.before ++ turn ∷ looks.rest)
    split = subst (AllByRecursion (IsTurnAmong s.processors)) looks.lap_is among

    among_before : AllByRecursion (IsTurnAmong s.processors) looks.before
    among_before = front (IsTurnAmong s.processors) looks.before (turn ∷ looks.rest) split

    among_rest : AllByRecursion (IsTurnAmong s.processors) (turn ∷ looks.rest)
    among_rest = back (IsTurnAmong s.processors) looks.before (turn ∷ looks.rest) split

    tended : (u : Skeleton) × Tended there (homes s code state h looks.before) (forked_in s code state f looks.before) (taken_in s code state tk looks.before) u
    tended = all_tended s code places fair root input raised ws first state refl h f tk tree now looks.before among_before

    moments : AreMoments s code fair root input there (turn ∷ looks.rest)
    moments = tended_moments s code places fair root input raised ws upto there on _ _ _ tended.0 tended.1 (turn ∷ looks.rest) among_rest

    before_moments : AreMoments s code fair root input state looks.before
    before_moments = tended_moments s code places fair root input raised ws first state refl h f tk tree now looks.before among_before

    seat_is : (seat : Seat) × (stand_of there c ≡ IsWithin seat (Now (Load SeekHolder)))
    seat_is = seeks_is (stand_of there c) looks.seeks

    abbrev seat : Seat
    seat = seat_is.0

    sees : Sees s (spots.view s there.words) (spots.kinds s there.words) (spots.bottoms s there.words) c (IsWithin seat (Now (Load SeekHolder)))
    sees = sees_at s code fair root input there moments.0 c (IsWithin seat (Now (Load SeekHolder))) seat_is.1

    lt : c < s.processors
    lt = sees.0.carried.lives.there

    abbrev q : ℕ
    q = seat.place

    here : IsOn s code fair root input c q there
    here = record { moment = moments.0; going = ap is_done_at seat_is.1; carried = sees.0.carried.carry }

    abbrev Risen : RunState → Type 0
    Risen z = t < tag (spots.view s z.words (Holder p))

    -- the holder and the dead word along turns
    along_before : (z : RunState) (turns : List Turn) → AreMoments s code fair root input z turns → AllByRecursion (IsTurnAmong s.processors) turns
        → spots.view s z.words (Holder p) ≡ Held t d → spots.view s z.words (Dead d) ≡ Number 1
        → ((spots.view s (after s code z turns).words (Holder p) ≡ Held t d) × (spots.view s (after s code z turns).words (Dead d) ≡ Number 1))
        ⊎ Risen (after s code z turns)
    along_before z [] are all holds dead = inl (holds, dead)
    along_before z (one ∷ more) are all holds dead =
        elim (holder_or s code places fair root input ws c q lt p t d left.there small z are.0 holds one all.0.processor) [
          | inr up ↦ inr (risen_stays s code places fair root input ws c q lt p t d left.there small (happens s code z one) more are.1 all.1 up)
          | inl same ↦
              along_before (happens s code z one) more are.1 all.1 same
              (dead_still s code places fair root input ws c q lt p t d left.there small z are.0 one all.0.processor dead)
        ]

    abbrev Ending : Type 0
    Ending = Risen (after s code there (turn ∷ looks.rest)) ⊎ (finish_at s (after s code there (turn ∷ looks.rest)) ≢ 0)

    -- it is the dead one's still: then it is bid for
    bids_for : spots.view s there.words (Holder p) ≡ Held t d → spots.view s there.words (Dead d) ≡ Number 1 → Ending
    bids_for holds dead =
        let alive = sees.0.carried.lives.alive in
        let not_c : d ≢ c = λ one. alive (subst IsDead (sym (ap (λ (z : ℕ). spots.view s there.words (Dead z)) (sym one) ∙ dead)) tt) in
        let names = moments.0.advancing.run.halves.lawful.1.holding.held c q alive sees.0.carried.carry in
        let away : p ≢ q = λ one. not_c (subst (λ (w : Word). Names w c) (ap (λ (z : ℕ). spots.view s there.words (Holder z)) (sym one) ∙ holds) names) in
        let other : d ≢ seat.own = λ one. not_c (one ∙ sees.0.own) in
        let bids = seek_step s code places fair root input ws c q lt p t d left.there small there here holds dead seat seat_is.1 away other in
        let next = happens s code there turn in
        let behind = next_is s code fair root input ws c q lt upto turn there on in
        let then_ = first_moment s code fair root input next looks.rest moments.1 in
        elim (own_here s code fair root input c q lt there here p
        (λ z a. subst (λ (y : Standing). MovesTo (Step p) y c z) seat_is.1 a) then_) [
          | inr set ↦ inr (set_stays s code fair root input ws c q lt (upto ++ turn ∷ []) looks.rest next behind set)
          | inl here_ ↦ elim (holder_or s code places fair root input ws c q lt p t d left.there small there moments.0 holds turn lt) [
            | inr up ↦ inl (risen_stays s code places fair root input ws c q lt p t d left.there small next looks.rest moments.1 among_rest.1 up)
            | inl same ↦
                let still = dead_still s code places fair root input ws c q lt p t d left.there small there moments.0 turn lt dead in
                bid_soon s code places fair root input ws c q lt p t d left.there small looks.rest (upto ++ turn ∷ []) next behind moments.1 here_
                (suc (suc (suc (suc (suc (suc zero)))))) bids same still among_rest.1 looks.steps looks.enough
          ]
        ]

    end_is : after s code state lap ≡ after s code there (turn ∷ looks.rest)
    end_is = ap (after s code state) looks.lap_is ∙ in_two s code state looks.before (turn ∷ looks.rest)

    pub taken_over : (tag (m (Holder p)) < tag (spots.view s (after s code state lap).words (Holder p))) ⊎ (finish_at s (after s code state lap) ≢ 0)
    taken_over =
        let up : Risen (after s code there (turn ∷ looks.rest)) → tag (m (Holder p)) < tag (spots.view s (after s code state lap).words (Holder p)) =
        λ risen.
        let was = ap tag holder.2 in
        let is = ap (λ (z : RunState). tag (spots.view s z.words (Holder p))) end_is in
        omega (arith, risen, was, is) in
        let over : Ending → (tag (m (Holder p)) < tag (spots.view s (after s code state lap).words (Holder p))) ⊎ (finish_at s (after s code state lap) ≢ 0) =
        λ r. elim r [ inl risen ↦ inl (up risen) | inr set ↦ inr (λ z. set (sym (ap (finish_at s) end_is) ∙ z)) ] in
        elim (along_before state looks.before before_moments among_before holder.2 gone) [
          | inl same ↦ over (bids_for same.0 same.1)
          | inr risen ↦
              over (inl (risen_stays s code places fair root input ws c q lt p t d left.there small there (turn ∷ looks.rest) moments among_rest risen))
        ]

-- a place that seeks work is not at work
seek_not_at_work : (m : Spot → Word) (p : ℕ) (k : RestartKind) → IsAtWork m p k → k ≡ Seek → ⊥
seek_not_at_work m p k (inl work) seeks = true≢false (sym work ∙ ap is_work seeks)
seek_not_at_work m p k (inr steals) seeks = subst (λ (x : RestartKind). Steals m p x steals.0) seeks steals.1

-- products of numbers of legs and processors
pub no_legs : (n : ℕ) → n * 0 ≡ 0
no_legs n = grind arith

one_leg : (n k : ℕ) → n * (k + 1) ≡ n * k + n
one_leg n k = grind arith

-- whole runs, after any legs
module _ (code : CodeParts) (input : List NamedArray) (s : Shape) (keeper : ℕ) (im : Image) (places : s.takeover ≡ ByPlaces) (fair : IsFair code)
    (opens : Opens code input s keeper im) (calm : Calm (strands s code) (root_strand code input) (arrays_at (view s im.words)))
    (legs : List Leg) (are_legs : AreLegs s code im.words legs) (fewer : (s.processors + 1) * (length legs + 1) < 2 ^ 58) where
  abbrev root : Tree (Frame FrameWord Point) Result
  root = root_strand code input

  abbrev arrays : Words
  arrays = arrays_at (view s im.words)

  abbrev Among : List Turn → Type 0
  Among turns = AllByRecursion (IsTurnAmong s.processors) turns

  abbrev words : List ℕ
  words = words_then s code im.words legs

  abbrev at : List Turn → RunState
  at turns = last_state s code im.words legs turns

  abbrev Over : List Turn → Type 0
  Over turns = finish_at s (at turns) ≢ 0

  pub set_on : (first more : List Turn) → Over first → Over (first ++ more)
  set_on first more set unset = set (sym (finish_stays s code fair.code_is words first more set) ∙ unset)

  abbrev raised : ℕ
  raised = raised_by code input s keeper im places fair opens calm legs

  few : raised + s.processors + 1 < 2 ^ 58
  few =
      let is : raised ≡ (s.processors + 1) * length legs = refl in
      let whole = one_leg (s.processors + 1) (length legs) in
      omega (arith, is, whole, fewer)

  abbrev IsTendedAt : List Turn → Skeleton → Type 0
  IsTendedAt turns t =
      IsTended s code places fair root arrays raised words (at turns) (all_homes s code im.words legs turns) (all_forked s code im.words legs turns)
      (all_taken s code im.words legs turns) t

  tended_at : (turns : List Turn) → Among turns → (t : Skeleton) × IsTendedAt turns t
  tended_at turns among = tended_then code input s keeper im places fair opens calm legs are_legs turns among

  pub moments_at : (first more : List Turn) → Among first → Among more → AreMoments s code fair root arrays (at first) more
  moments_at first more a b =
      let now = tended_at first a in
      tended_moments s code places fair root arrays raised words first (at first) refl _ _ _ now.0 now.1 more b

  abbrev sum : List Turn → ℕ
  sum turns = holder_tags s.processors (spots.view s (at turns).words)

  abbrev tag_at : List Turn → ℕ → ℕ
  tag_at turns v = tag (spots.view s (at turns).words (Holder v))

  held_all : (c q p : ℕ) (there : c < s.processors) (first more : List Turn) → Among first → Among more
      → AreAllHeld s code fair root arrays words c q p there (at first) more
  held_all c q p there first more a b =
      let now = tended_at first a in
      tended_held s code places fair root arrays raised words c q p there first (at first) refl _ _ _ now.0 now.1 more b

  -- tags never sink
  tags_on : (z : RunState) (more : List Turn) → AreMoments s code fair root arrays z more → Among more → (v : ℕ)
      → tag (spots.view s z.words (Holder v)) ≤ tag (spots.view s (after s code z more).words (Holder v))
  tags_on z [] are all v = omega arith
  tags_on z (turn ∷ more) are all v =
      let one = tag_rises s code places fair root arrays words 0 0 s.within.processors_least 0 0 0 s.within.processors_least (omega arith) z are.0 turn
      all.0.processor v in
      let rest = tags_on (happens s code z turn) more are.1 all.1 v in
      omega (arith, one, rest)

  abbrev next_of_all : (first more : List Turn) → at (first ++ more) ≡ after s code (at first) more
  next_of_all first more = in_two s code (opening words s.processors) first more

  pub tags_after : (first more : List Turn) → Among first → Among more → (v : ℕ) → tag_at first v ≤ tag_at (first ++ more) v
  tags_after first more a b v =
      let up = tags_on (at first) more (moments_at first more a b) b v in
      let is = ap (λ (z : RunState). tag (spots.view s z.words (Holder v))) (next_of_all first more) in
      omega (arith, up, is)

  pub sum_after : (first more : List Turn) → Among first → Among more → sum first ≤ sum (first ++ more)
  sum_after first more a b =
      tags_rise s.processors (spots.view s (at first).words) (spots.view s (at (first ++ more)).words) (λ v lt. tags_after first more a b v)

  pub sum_most : (turns : List Turn) → Among turns → sum turns ≤ s.processors * (raised + s.processors)
  sum_most turns among =
      let now = tended_at turns among in
      tags_most s.processors (raised + s.processors) (spots.view s (at turns).words) (λ v lt.
      let low = low_held s raised (spots.view s (at turns).words) (spots.view s (at turns).words (Holder v)) (now.1.low v lt) in
      let is = ap tag low.2 in
      let most = low.3 in
      omega (arith, is, most))

  -- a lap
  abbrev Gains : (first lap : List Turn) → Type 0
  Gains first lap = (1 ≤ work_in s code (at first) lap) ⊎ ((sum first < sum (first ++ lap)) ⊎ Over (first ++ lap))

  work_or_set : (first lap : List Turn) (c : ℕ)
      → (has (along s code work_of (at first) lap) c ≡ true) ⊎ (finish_at s (after s code (at first) lap) ≢ 0) → Gains first lap
  work_or_set first lap c (inl found) = inl (has_some _ c found)
  work_or_set first lap c (inr set) = inr (inr (λ z. set (sym (ap (finish_at s) (next_of_all first lap)) ∙ z)))

  lap_gains : (first lap : List Turn) → Among first → Among lap → IsLap s code (at first) lap → Gains first lap
  lap_gains first lap a b is = elim (eqb_tells (finish_at s (at first)) 0) [
    | inr set ↦ inr (inr (set_on first lap set.1))
    | inl unset ↦ elim (nothing_is_lost_over_legs code input s keeper im places fair opens calm legs are_legs first a unset.1) [
      | inl works ↦ who_works works.0 works.1 (is.part works.0 works.1.there)
      | inr (inl comes) ↦ who_comes comes.0 comes.1 (is.part comes.0 comes.1.there)
      | inr (inr left) ↦ what_is_left left.0 left.1
    ]
  ]
    where
      state : RunState
      state = at first

      now : (t : Skeleton) × IsTendedAt first t
      now = tended_at first a

      are : AreMoments s code fair root arrays (at first) lap
      are = moments_at first lap a b

      who_works : (c : ℕ) → Works s (at first) c → TakesPart (at first) lap c → Gains first lap
      who_works c works (inl done) = absurd (true≢false (sym (ap is_done_at done) ∙ works.not_done))
      who_works c works (inr (inl seeks)) =
          let idle = seekers_are_idle_over_legs code input s keeper im places fair opens calm legs are_legs first a c seeks in
          let place : works.place ≡ idle.place = ap number_of (sym works.carried ∙ idle.carried) in
          let kind : spots.kinds s (at first).words works.place ≡ Seek =
          ap (spots.kinds s (at first).words) place ∙ sym (kinds_same s (at first).words idle.place) ∙ idle.seeks in
          absurd (seek_not_at_work (spots.view s (at first).words) works.place (spots.kinds s (at first).words works.place) works.at_work kind)
      who_works c works (inr (inr steps)) =
          let on : IsOn s code fair root arrays c works.place (at first) =
          record { moment = first_moment s code fair root arrays (at first) lap are; going = works.not_done; carried = works.carried } in
          let many = steps.0 in
          work_or_set first lap c
          (works_from_place s code fair root arrays words c works.place works.there first lap are on works.at_work b steps.1 (omega (arith, many)))

      who_comes : (c : ℕ) → ComesTo s (at first) c → TakesPart (at first) lap c → Gains first lap
      who_comes c comes_ (inl done) = absurd (true≢false (sym (ap is_done_at done) ∙ comes_.not_done))
      who_comes c comes_ (inr (inl seeks)) =
          let idle = seekers_are_idle_over_legs code input s keeper im places fair opens calm legs are_legs first a c seeks in
          let place : comes_.took.from ≡ idle.place = ap number_of (sym comes_.took.carried ∙ idle.carried) in
          let kind : spots.kinds s (at first).words comes_.took.from ≡ Seek =
          ap (spots.kinds s (at first).words) place ∙ sym (kinds_same s (at first).words idle.place) ∙ idle.seeks in
          absurd (subst (λ (k : RestartKind). BidsFor k comes_.place) kind comes_.took.bids)
      who_comes c comes_ (inr (inr steps)) =
          let q = comes_.took.from in
          let on : IsOn s code fair root arrays c q (at first) =
          record { moment = first_moment s code fair root arrays (at first) lap are; going = comes_.not_done; carried = comes_.took.carried } in
          let few_ = comes_few (spots.kinds s (at first).words q) (stand_of (at first) c) in
          let many = steps.0 in
          work_or_set first lap c
          (come_soon s code fair root arrays words c q comes_.place comes_.there lap first (at first) refl are
          (held_all c q comes_.place comes_.there first lap a b)
          (record { here = on; held = now.1.held; bids = comes_.took.bids; stands = comes_.took.stands; names = comes_.holds; work = comes_.at_work }) b steps.1
          (omega (arith, few_, many)))

      what_is_left : (p : ℕ) → IsLeft s (at first).words p → Gains first lap
      what_is_left p left =
          elim (taken_over s code places fair root arrays raised words few first lap _ _ _ now.0 now.1 b p left (is.looks p left)) [
            | inr set ↦ inr (inr (λ z. set (sym (ap (finish_at s) (next_of_all first lap)) ∙ z)))
            | inl up ↦
                let is_ = ap (λ (z : RunState). tag (spots.view s z.words (Holder p))) (next_of_all first lap) in
                inr (inl (tags_rise_at s.processors p (spots.view s (at first).words) (spots.view s (at (first ++ lap)).words)
                (λ v lt. tags_after first lap a b v) left.there (omega (arith, up, is_))))
          ]

  -- portions, one after the other
  abbrev start : RunState
  start = state_then s code im.words legs

  abbrev potential : List Turn → ℕ
  potential turns = work_in s code start turns + sum turns

  pub grows : (first more : List Turn) → Among first → Among more → potential first ≤ potential (first ++ more)
  grows first more a b =
      let one = work_both s code start first more in
      let two = sum_after first more a b in
      omega (arith, one, two)

  pub lap_grows : (first lap : List Turn) → Among first → Among lap → IsLap s code (at first) lap
      → (1 + potential first ≤ potential (first ++ lap)) ⊎ Over (first ++ lap)
  lap_grows first lap a b is =
      let two = sum_after first lap a b in
      let both_ = work_both s code start first lap in
      elim (lap_gains first lap a b is) [
        | inl worked ↦ inl (omega (arith, worked, two, both_))
        | inr (inl taken) ↦ inl (omega (arith, taken, both_))
        | inr (inr set) ↦ inr set
      ]

  portions_grow : (portions : List Portion) (first : List Turn) → Among first → Among (turns_in portions) → AreLaps s code (at first) portions
      → (length portions + potential first ≤ potential (first ++ turns_in portions)) ⊎ Over (first ++ turns_in portions)
  portions_grow [] first among all are = let le = grows first [] among tt in inl (omega (arith, le))
  portions_grow (portion ∷ portions) first among all are =
      let before = portion.before in
      let lap = portion.lap in
      let rest = turns_in portions in
      let upto = first ++ before in
      let at_upto = in_two s code start first before in
      let then_ = in_two s code start upto lap ∙ ap (λ (z : RunState). after s code z lap) at_upto in
      let among_before = front (IsTurnAmong s.processors) before (lap ++ rest) all in
      let among_upto = both (IsTurnAmong s.processors) first before among among_before in
      let all_lap = back (IsTurnAmong s.processors) before (lap ++ rest) all in
      let among_lap = front (IsTurnAmong s.processors) lap rest all_lap in
      let is = subst (λ (z : RunState). IsLap s code z lap) (sym at_upto) are.0 in
      let whole : (upto ++ lap) ++ rest ≡ first ++ (before ++ (lap ++ rest)) = append_assoc upto lap rest ∙ append_assoc first before (lap ++ rest) in
      elim (lap_grows upto lap among_upto among_lap is) [
        | inr set ↦ inr (subst Over whole (set_on (upto ++ lap) rest set))
        | inl one ↦
            elim (portions_grow portions (upto ++ lap) (both (IsTurnAmong s.processors) upto lap among_upto among_lap)
            (back (IsTurnAmong s.processors) lap rest all_lap)
            (subst (λ (z : RunState). AreLaps s code z portions) (sym then_) are.1)) [
              | inr set ↦ inr (subst Over whole set)
              | inl some ↦
                  let grown = grows first before among among_before in
                  let same = ap potential whole in
                  inl (omega (arith, one, some, grown, same))
            ]
      ]

  -- portions are no more than work and tags may grow
  pub portions_few : (portions : List Portion) → Among (turns_in portions) → AreLaps s code start portions
      → (length portions ≤ work_in s code start (turns_in portions) + s.processors * (raised + s.processors)) ⊎ Over (turns_in portions)
  portions_few portions among are = elim (portions_grow portions [] tt among are) [
    | inr set ↦ inr set
    | inl some ↦ let tags = sum_most (turns_in portions) among in inl (omega (arith, some, tags))
  ]

-- a number of legs and processors that is low
pub no_legs_few : (s : Shape) → (s.processors + 1) * (length {A = Leg} [] + 1) < 2 ^ 58
no_legs_few s =
    let whole = one_leg (s.processors + 1) 0 in
    let none = no_legs (s.processors + 1) in
    let most = s.within.processors_most in
    omega (arith, whole, none, most)

pub laps_have_work_or_takeover : LapsHaveWorkOrTakeover
laps_have_work_or_takeover code input s keeper im places fair opens calm first lap a b is =
    lap_gains code input s keeper im places fair opens calm [] tt (no_legs_few s) first lap a b is

pub runs_end_by_places : RunsEndByPlaces
runs_end_by_places code input s keeper im places fair opens calm portions among are end ends many =
    elim (portions_few code input s keeper im places fair opens calm [] tt (no_legs_few s) portions among are) [
      | inr set ↦ set
      | inl some ↦
          let most = work_is_bounded code input s keeper im fair opens calm (turns_in portions) among end ends in
          let n = s.processors in
          let none = no_legs (n + 1) in
          let zero_ : (n + 1) * 0 + n ≡ n = omega (arith, none) in
          let same : n * ((n + 1) * 0 + n) ≡ n * n = ap (λ (z : ℕ). n * z) zero_ in
          absurd (omega (arith, many, some, most, same))
    ]

pub legs_end_by_places : LegsEndByPlaces
legs_end_by_places code input s keeper im places fair opens calm legs are_legs fewer portions among are end ends many =
    elim (portions_few code input s keeper im places fair opens calm legs are_legs fewer portions among are) [
      | inr set ↦ set
      | inl some ↦
          let most = work_over_legs code input s keeper im places fair opens calm legs are_legs (turns_in portions) among end ends in
          let whole : all_work s code im.words legs (turns_in portions)
          ≡ work_then s code im.words legs + work_in s code (state_then s code im.words legs) (turns_in portions) = refl in
          absurd (omega (arith, many, some, most, whole))
    ]
