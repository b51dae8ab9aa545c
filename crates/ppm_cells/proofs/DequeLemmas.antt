-- What changes in a row do: the tag rises, so nothing comes back, and a taken entry has no change.
use Rattle.std.proofs.Common.{◌≡◌, ◌≢◌, ◌⊎◌, ℕ, ◌<◌, inl, inr, refl, sym, ap, subst, arith}
use Rattle.ppm_cells.specs.declared.entry.Entry.{Entry}
use Rattle.ppm_cells.specs.declared.entry.Entry.TheVariants.{Empty, Local, Job, Taken}
use Rattle.ppm_cells.specs.declared.shape.Takeover.{Takeover}
use Rattle.ppm_cells.specs.declared.shape.Takeover.TheVariants.{ByPlaces, ByEntries}
use Rattle.ppm_cells.specs.DequeChange.{tag_of, IsJob, IsTaken, IsTakenBy, OwnerChanges, Takes, Changes, OthersChange, OthersTake, BoardChanges}
use Rattle.ppm_cells.specs.DequeOrder.{Chain, Stays, Then, Later, LaterByOthers, LaterByThieves, LaterOnBoard}
use Rattle.ppm_cells.specs.DequeLaws.{NeverReturns, TakenStays, OthersTakeForThemselves, OthersLeaveOwn, OwnStaysUnlessJob}

-- a change of what is not taken, which raises the tag
abbrev Rises : (old new : Entry) → Type 0
Rises old new = (IsTaken old → ⊥) × (tag_of old < tag_of new)

by_owner : (old new : Entry) → OwnerChanges old new → Rises old new
by_owner (Empty tag) (Local next block) h = (λ t. t, omega (arith, h.0))
by_owner (Local tag block) (Job next other) h = (λ t. t, omega (arith, h))
by_owner (Job tag block) (Local next same) h = (λ t. t, omega (arith, h.0))
by_owner (Local tag block) (Empty next) h = (λ t. t, omega (arith, h))
by_owner _ _ h = absurd h

by_taker : (how : Takeover) (thief : ℕ) (old new : Entry) → Takes how thief old new → Rises old new
by_taker ByPlaces thief (Job tag block) (Taken next taker) h = (λ t. t, omega (arith, h.0))
by_taker ByEntries thief (Job tag block) (Taken next taker) h = (λ t. t, omega (arith, h.0))
by_taker ByEntries thief (Local tag block) (Taken next taker) h = (λ t. t, omega (arith, h.0))
by_taker _ _ _ _ h = absurd h

-- each lawful change is one
changes_rise : (how : Takeover) (old new : Entry) → Changes how old new → Rises old new
changes_rise how old new (inl h) = by_owner old new h
changes_rise how old new (inr h) = by_taker how h.0 old new h.2

-- and so on a board
board_rises : (old new : Entry) → BoardChanges old new → Rises old new
board_rises (Empty tag) (Job next block) h = (λ t. t, omega (arith, h))
board_rises (Job tag block) (Taken next taker) h = (λ t. t, omega (arith, h.0))
board_rises _ _ h = absurd h

module _ (Change : Entry → Entry → Type 0) where
  -- one change after the other
  joined : (old mid new : Entry) → Chain Change old mid → Chain Change mid new → Chain Change old new
  joined old mid new first (Stays entry) = first
  joined old mid new first (Then from at to chain change) = Then old at to (joined old from at first chain) change

  module _ (rise : (old new : Entry) → Change old new → Rises old new) where
    rises : (old new : Entry) → Chain Change old new → (old ≡ new) ⊎ Rises old new
    rises old new (Stays entry) = inl refl
    rises old new (Then from at to chain change) =
        let step : Rises at to = rise at to change in
        elim (rises from at chain) [
          | inl same ↦ inr (subst (λ (e : Entry). Rises e to) (sym same) step)
          | inr up ↦ inr (up.0, omega (arith, up.1, step.1))
        ]

    stays : TakenStays (Chain Change)
    stays old new taken chain = elim (rises old new chain) [ inl same ↦ same | inr up ↦ absurd (up.0 taken) ]

    same_tag : (old new : Entry) → Chain Change old new → tag_of old ≡ tag_of new → old ≡ new
    same_tag old new chain tags = elim (rises old new chain) [ inl same ↦ same | inr up ↦ absurd (omega (arith, up.1, tags)) ]

    both_ways : (old new : Entry) → Chain Change old new → Chain Change new old → old ≡ new
    both_ways old new there back = elim (rises old new there) [
      | inl same ↦ same
      | inr up ↦ elim (rises new old back) [ inl same ↦ sym same | inr down ↦ absurd (omega (arith, up.1, down.1)) ]
    ]

    no_return : (old now new : Entry) → Chain Change old now → Change now new → new ≢ old
    no_return old now new chain change back =
        let step : tag_of now < tag_of new = (rise now new change).1 in
        let tags : tag_of new ≡ tag_of old = ap tag_of back in
        elim (rises old now chain) [
          | inl same ↦ (let same_tags : tag_of old ≡ tag_of now = ap tag_of same in absurd (omega (arith, step, tags, same_tags)))
          | inr up ↦ absurd (omega (arith, step, tags, up.1))
        ]

    never_returns : NeverReturns (Chain Change) Change
    never_returns = record { goes_on = joined; rises = rises; same_tag = same_tag; both_ways = both_ways; no_return = no_return }

-- the laws of a deque's entries and of a board's
pub entries_never_return : (how : Takeover) → NeverReturns (Later how) (Changes how)
entries_never_return how = never_returns (Changes how) (changes_rise how)

pub board_never_returns : NeverReturns LaterOnBoard BoardChanges
board_never_returns = never_returns BoardChanges board_rises

pub taken_stays : (how : Takeover) → TakenStays (Later how)
taken_stays how = stays (Changes how) (changes_rise how)

pub taken_stays_on_board : TakenStays LaterOnBoard
taken_stays_on_board = stays BoardChanges board_rises

-- changes of one kind are changes of a wider kind
widened : (Change Wider : Entry → Entry → Type 0) → ((old new : Entry) → Change old new → Wider old new)
    → (old new : Entry) → Chain Change old new → Chain Wider old new
widened Change Wider wider old new (Stays entry) = Stays entry
widened Change Wider wider old new (Then from at to chain change) =
    Then from at to (widened Change Wider wider from at chain) (wider at to change)

module _ (how : Takeover) (place : ℕ) where
  not_by_place : (old new : Entry) → LaterByOthers how place old new → (IsTakenBy place old → ⊥) → IsTakenBy place new → ⊥
  not_by_place old new (Stays entry) free = free
  not_by_place old new (Then from at to chain change) free = change.1

  pub others_take_for_themselves : OthersTakeForThemselves how place
  others_take_for_themselves = record {
    goes_on = joined (OthersChange how place);
    lawful = widened (OthersChange how place) (Changes how) (λ old new h. h.0);
    not_by_place = not_by_place;
  }

  -- a thief's change leaves a taken entry
  by_thief : (old new : Entry) → OthersTake how place old new → Rises old new
  by_thief old new h = by_taker how h.0.0 old new h.0.2

  takes : (thief : ℕ) (old new : Entry) → Takes how thief old new → IsTaken new
  takes thief old new h = taken_by how thief old new h
    where
      taken_by : (how : Takeover) (thief : ℕ) (old new : Entry) → Takes how thief old new → IsTaken new
      taken_by ByPlaces thief (Job tag block) (Taken next taker) h = tt
      taken_by ByEntries thief (Job tag block) (Taken next taker) h = tt
      taken_by ByEntries thief (Local tag block) (Taken next taker) h = tt
      taken_by _ _ _ _ h = absurd h

  once : (old new : Entry) → LaterByThieves how place old new
      → (old ≡ new) ⊎ ((thief : ℕ) × (thief < 64) × Takes how thief old new × (IsTakenBy place new → ⊥))
  once old new (Stays entry) = inl refl
  once old new (Then from at to chain change) = elim (once from at chain) [
    | inl same ↦ inr (subst
        (λ (e : Entry). (thief : ℕ) × (thief < 64) × Takes how thief e to × (IsTakenBy place to → ⊥))
        (sym same) (change.0.0, change.0.1, change.0.2, change.1))
    | inr took ↦ absurd ((by_thief at to change).0 (takes took.0 from at took.2))
  ]

  pub others_leave_own : OthersLeaveOwn how place
  others_leave_own = record {
    goes_on = joined (OthersTake how place);
    lawful = widened (OthersTake how place) (OthersChange how place) (λ old new h. (inr h.0, h.1));
    once = once;
  }

-- with takeover by places a thief takes a job
takes_jobs : (thief : ℕ) (old new : Entry) → Takes ByPlaces thief old new → IsJob old
takes_jobs thief (Job tag block) new h = tt
takes_jobs thief (Empty tag) new h = absurd h
takes_jobs thief (Local tag block) new h = absurd h
takes_jobs thief (Taken tag taker) new h = absurd h

pub own_stays : (place : ℕ) → OwnStaysUnlessJob place
own_stays place old new no_job later = elim (once ByPlaces place old new later) [
  | inl same ↦ same
  | inr took ↦ absurd (no_job (takes_jobs took.0 old new took.2))
]
