-- What takeovers in a row do: the tag rises, so nothing comes back.
use Rattle.std.proofs.Common.{◌≡◌, ◌≢◌, ◌⊎◌, ℕ, ◌<◌, inl, inr, refl, sym, subst, arith}
use Rattle.ppm_cells.specs.declared.holder.Holder.{Holder}
use Rattle.ppm_cells.specs.HoldChange.{bid_of, Changes, OthersChange}
use Rattle.ppm_cells.specs.HoldOrder.{Chain, Stays, Then, Later, LaterByOthers}
use Rattle.ppm_cells.specs.HoldLaws.{BidsGoOn, NeverReturns, OthersBidForThemselves}

-- one change after the other
joined : (Change : Holder → Holder → Type 0) (old mid new : Holder) → Chain Change old mid → Chain Change mid new → Chain Change old new
joined Change old mid new first (Stays holder) = first
joined Change old mid new first (Then from at to chain change) = Then old at to (joined Change old from at first chain) change

-- changes of one kind are changes of a wider kind
widened : (Change Wider : Holder → Holder → Type 0) → ((old new : Holder) → Change old new → Wider old new)
    → (old new : Holder) → Chain Change old new → Chain Wider old new
widened Change Wider wider old new (Stays holder) = Stays holder
widened Change Wider wider old new (Then from at to chain change) =
    Then from at to (widened Change Wider wider from at chain) (wider at to change)

-- a later holder has the tag of the earlier one as it was, or a greater one
rises : (old new : Holder) → Later old new → (old ≡ new) ⊎ (old.tag < new.tag)
rises old new (Stays holder) = inl refl
rises old new (Then from at to chain change) =
    let step : at.tag < to.tag = omega (arith, change.2.0) in
    elim (rises from at chain) [
      | inl same ↦ inr (subst (λ (h : Holder). h.tag < to.tag) (sym same) step)
      | inr up ↦ inr (omega (arith, up, step))
    ]

same_tag : (old new : Holder) → Later old new → old.tag ≡ new.tag → old ≡ new
same_tag old new chain tags = elim (rises old new chain) [ inl same ↦ same | inr up ↦ absurd (omega (arith, up, tags)) ]

both_ways : (old new : Holder) → Later old new → Later new old → old ≡ new
both_ways old new there back = elim (rises old new there) [
  | inl same ↦ same
  | inr up ↦ elim (rises new old back) [ inl same ↦ sym same | inr down ↦ absurd (omega (arith, up, down)) ]
]

no_return : (old now new : Holder) → Later old now → Changes now new → new ≢ old
no_return old now new chain change back =
    let step : now.tag < new.tag = omega (arith, change.2.0) in
    let tags : new.tag ≡ old.tag = λ i. (back i).tag in
    elim (rises old now chain) [
      | inl same ↦ (let same_tags : old.tag ≡ now.tag = λ i. (same i).tag in absurd (omega (arith, step, tags, same_tags)))
      | inr up ↦ absurd (omega (arith, step, tags, up))
    ]

pub never_returns : NeverReturns
never_returns = record { rises = rises; same_tag = same_tag; both_ways = both_ways; no_return = no_return }

pub bids_go_on : BidsGoOn
bids_go_on = record {
  bid = λ seen own small. Then seen seen (bid_of seen own) (Stays seen) (own, small, (refl, refl));
  goes_on = joined Changes;
}

module _ (own : ℕ) where
  not_named : (old new : Holder) → LaterByOthers own old new → (old.processor ≡ own → ⊥) → new.processor ≡ own → ⊥
  not_named old new (Stays holder) free = free
  not_named old new (Then from at to chain change) free = change.1

  pub others_bid_for_themselves : OthersBidForThemselves own
  others_bid_for_themselves = record {
    goes_on = joined (OthersChange own);
    lawful = widened (OthersChange own) Changes (λ old new h. h.0);
    not_named = not_named;
    kept_was_made = λ old now message chain free is_kept. not_named old now chain free is_kept.1;
  }
