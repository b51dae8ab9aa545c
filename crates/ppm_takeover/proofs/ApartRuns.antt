-- After any legs, whatever the turns: messages are apart. Words that come back have messages of those before, but the tags of holders have risen, and
-- each place is held by its own processor: so no message may stand.
use Rattle.std.proofs.Common.{◌≡◌, ◌<◌, ◌+◌, ℕ, zero, suc, Bool, true, false, List, [], ◌∷◌, ◌++◌, inl, inr, refl, sym, ap, ◌∙◌, subst, arith, replicate}
use Rattle.std.specs.List.{AllByRecursion}
use Rattle.std.specs.Prelude.{nat_lt, slice_get}
use Rattle.std.proofs.lemmas.Bool.{cases_eq, lt-ltb, ltb-true}
use Rattle.ppm_strands.specs.Tree.{Words, Tree}
use Rattle.ppm_strands.specs.Calm.{Calm}
use Rattle.ppm_words.specs.declared.named_array.NamedArray.{NamedArray}
use Rattle.ppm_cells.specs.Memory.{read}
use Rattle.ppm_cells.specs.Restart.{restart_of}
use Rattle.ppm_cells.specs.declared.cell.Cell.TheVariants as cells
use Rattle.ppm_cells.specs.declared.cell.Cell.TheVariants.{RestartWord}
use Rattle.ppm_cells.specs.declared.restart.Restart.{Restart}
use Rattle.ppm_cells.specs.declared.restart.RestartKind.{RestartKind}
use Rattle.ppm_cells.specs.declared.shape.Shape.{Shape}
use Rattle.ppm_cells.specs.declared.shape.Takeover.TheVariants.{ByPlaces}
use Rattle.ppm_strands.specs.Strand.{Frame}
use Rattle.ppm_code.specs.Strands.{Point, Result}
use Rattle.ppm_code.specs.declared.code.CodeParts.{CodeParts}
use Rattle.ppm_code.specs.declared.location.FrameWord.{FrameWord}
use Rattle.ppm_layout.specs.Correct.{Opens}
use Rattle.ppm_layout.specs.Root.{root_strand}
use Rattle.ppm_layout.specs.declared.images.Image.{Image}
use Rattle.ppm_layout.proofs.ValueLemmas.{stands_for}
use Rattle.ppm_step.specs.Among.{IsTurnAmong}
use Rattle.ppm_step.specs.Contents.{content_of}
use Rattle.ppm_step.specs.Standings.{IsLost}
use Rattle.ppm_step.specs.State.{State as RunState, stand_in, happens, after, opening}
use Rattle.ppm_step.specs.declared.content.Content.TheVariants.{AHolder}
use Rattle.ppm_step.specs.declared.content.Reading.TheVariants.{AsHolder}
use Rattle.ppm_step.specs.declared.turn.Turn.{Turn}
use Rattle.ppm_tickets.specs.Lawful.{Names, Dooms, tag}
use Rattle.ppm_tickets.specs.Renewal.{IsRenewal}
use Rattle.ppm_tickets.specs.Saw.{IsBidThere}
use Rattle.ppm_tickets.specs.View as spots
use Rattle.ppm_tickets.specs.Words.{Word, Held, Spot, Bid, Holder}
use Rattle.ppm_tickets.proofs.ActLemmas.{restart_is}
use Rattle.ppm_tickets.proofs.ViewLemmas.{shows, again, if_false}
use Rattle.ppm_frames.specs.Views.{view}
use Rattle.ppm_frames.specs.Seen.{arrays_at}
use Rattle.ppm_frames.specs.Skeletons.{Skeleton}
use Rattle.ppm_kept.specs.Running.{IsFair, strands}
use Rattle.ppm_runs.specs.Legs.{Leg, words_then, state_then, AreLegs, last_state, all_homes, all_forked, all_taken}
use Rattle.ppm_runs.proofs.BackLemmas.{kinds_back}
use Rattle.ppm_runs.proofs.StandLemmas.{kinds_same}
use Rattle.ppm_runs.proofs.WholeLemmas.{in_two}
use Rattle.ppm_progress.proofs.AliveLemmas.{AreAtHome}
use Rattle.ppm_progress.proofs.LegRuns.{unhurt_then}
use Rattle.ppm_progress.proofs.ListLemmas.{both}
use Rattle.ppm_takeover.specs.Lost.{BidsFor}
use Rattle.ppm_takeover.proofs.CarriedRuns.{IsTended, tended_then, raised_by}
use Rattle.ppm_takeover.proofs.AimTurns.{AimsClearAt, MayStand, AreApart, apart_after}

lost_clear : (m : Spot → Word) (o k q : ℕ) → AimsClearAt m o (stand_in (slice_get (replicate k IsLost) q))
lost_clear m o zero q = tt
lost_clear m o (suc k) zero = tt
lost_clear m o (suc k) (suc q) = lost_clear m o k q

-- a place that is not there doesn't bid
bids_there : (s : Shape) (ws : List ℕ) (p v : ℕ) → BidsFor (spots.kinds s ws p) v → p < s.processors
bids_there s ws p v bids = by (nat_lt p s.processors) refl
  where
    by : (y : Bool) → nat_lt p s.processors ≡ y → p < s.processors
    by true e = ltb-true p s.processors e
    by false e =
        absurd (subst (λ (x : Restart). BidsFor x.kind v)
        (if_false (nat_lt p s.processors) (spots.restart_or (restart_of (read s ws (RestartWord p)))) spots.seeking e) bids)

-- words that come back
module _ (s : Shape) (ws back : List ℕ) (renewal : IsRenewal s ws back) where
  bid_back : (p : ℕ) → p < s.processors → spots.view s back (Bid p) ≡ spots.view s ws (Bid p)
  bid_back p lt =
      let e = lt-ltb p s.processors lt in
      shows s back (Bid p) e ∙ ap (λ (w : ℕ). spots.word_as (content_of AsHolder w)) (renewal.renewed (cells.MessageWord p) lt)
      ∙ sym (shows s ws (Bid p) e)

  -- holders have the next tags
  tag_back : (v : ℕ) → v < s.processors → tag (spots.view s back (Holder v)) ≡ tag (spots.view s ws (Holder v)) + 1
  tag_back v lt =
      let e = lt-ltb v s.processors lt in
      let few = s.within.processors_most in
      let r = renewal.renewed (cells.HolderWord v) lt in
      let now : spots.view s back (Holder v) ≡ Held (r.0 + 1) v =
      shows s back (Holder v) e ∙ ap (λ (w : ℕ). spots.word_as (content_of AsHolder w)) r.4
      ∙ ap spots.word_as (again (AHolder (record { tag = r.0 + 1; processor = v })) tt (omega (arith, lt, few), (r.3, tt))) in
      let was : spots.view s ws (Holder v) ≡ Held r.0 r.1 = shows s ws (Holder v) e ∙ r.2 in
      ap tag now ∙ ap (λ (n : ℕ). n + 1) (sym (ap tag was))

  kind_back : (p : ℕ) → spots.kinds s back p ≡ spots.kinds s ws p
  kind_back p = sym (kinds_same s back p) ∙ ap (λ (f : ℕ → RestartKind). f p) (kinds_back s ws back renewal) ∙ kinds_same s ws p

apart_back : (s : Shape) (state : RunState) (back : List ℕ) → IsRenewal s state.words back → AreAtHome (spots.view s back) → AreApart s state
    → AreApart s (opening back s.processors)
apart_back s state back renewal home was = record {
  rows = λ o. lost_clear n o s.processors o;
  home = λ v alive. owns v;
  late = λ p w bids. (there p w bids, let low = tag_low p w bids in omega (arith, low));
  away = λ p w bids told. not_own p w bids told;
  own = λ p c w alive bids told may. absurd (late_not p w bids may);
  apart = λ c v w alive took names bids told may. late_not v w bids may;
}
  where
    n : Spot → Word
    n = spots.view s back

    owns : (v : ℕ) → Names (spots.view s back (Holder v)) v
    owns v = let h = home.held v in subst (λ (w : Word). Names w v) (sym h.1) refl

    had : (p w : ℕ) → BidsFor (spots.kinds s back p) w → BidsFor (spots.kinds s state.words p) w
    had p w bids = subst (λ (k : RestartKind). BidsFor k w) (kind_back s state.words back renewal p) bids

    same : (p w : ℕ) → BidsFor (spots.kinds s back p) w → spots.view s back (Bid p) ≡ spots.view s state.words (Bid p)
    same p w bids = bid_back s state.words back renewal p (bids_there s back p w bids)

    there : (p w : ℕ) → BidsFor (spots.kinds s back p) w → w < s.processors
    there p w bids = (was.late p w (had p w bids)).0

    not_own : (p w : ℕ) → BidsFor (spots.kinds s back p) w → Names (spots.view s back (Bid p)) w → ⊥
    not_own p w bids told = was.away p w (had p w bids) (subst (λ (z : Word). Names z w) (same p w bids) told)

    tag_low : (p w : ℕ) → BidsFor (spots.kinds s back p) w → tag (spots.view s back (Bid p)) < tag (spots.view s back (Holder w)) + 1
    tag_low p w bids =
        let low = (was.late p w (had p w bids)).1 in
        let up = tag_back s state.words back renewal w (there p w bids) in
        let is = ap tag (same p w bids) in
        omega (arith, low, up, is)

    late_not : (p w : ℕ) → BidsFor (spots.kinds s back p) w → MayStand (spots.view s back) p w → ⊥
    late_not p w bids (inl stands) = not_own p w bids (subst (λ (z : Word). Names z w) (sym stands) (owns w))
    late_not p w bids (inr up) = let low = tag_low p w bids in omega (arith, low, up)

module _ (code : CodeParts) (input : List NamedArray) (s : Shape) (keeper : ℕ) (im : Image) (places : s.takeover ≡ ByPlaces) (fair : IsFair code)
    (opens : Opens code input s keeper im) (calm : Calm (strands s code) (root_strand code input) (arrays_at (view s im.words))) where
  abbrev root : Tree (Frame FrameWord Point) Result
  root = root_strand code input

  abbrev arrays : Words
  arrays = arrays_at (view s im.words)

  abbrev Among : List Turn → Type 0
  Among turns = AllByRecursion (IsTurnAmong s.processors) turns

  home_at : (legs : List Leg) → AreLegs s code im.words legs → AreAtHome (spots.view s (words_then s code im.words legs))
  home_at legs are = (unhurt_then code input s keeper im places fair opens calm legs are).1.home

  -- where a run opens no place bids
  no_bid : (p v : ℕ) → BidsFor (spots.kinds s im.words p) v → ⊥
  no_bid p v bids =
      let lt = bids_there s im.words p v bids in
      elim (cases_eq p keeper) [
        | inl same ↦
            let keeps = ap (λ (n : ℕ). restart_of (read s im.words (RestartWord n))) same ∙ (stands_for code input s keeper im opens).runs in
            subst (λ (x : Restart). BidsFor x.kind v) (restart_is s im.words p lt ∙ ap spots.restart_or keeps) bids
        | inr ne ↦
            subst (λ (x : Restart). BidsFor x.kind v)
            (restart_is s im.words p lt ∙ ap spots.restart_or ((stands_for code input s keeper im opens).seeks p lt ne)) bids
      ]

  first_apart : AreApart s (opening im.words s.processors)
  first_apart = record {
    rows = λ o. lost_clear (spots.view s im.words) o s.processors o;
    home = λ v alive. let h = (home_at [] tt).held v in subst (λ (w : Word). Names w v) (sym h.1) refl;
    late = λ p w bids. absurd (no_bid p w bids);
    away = λ p w bids told. no_bid p w bids;
    own = λ p c w alive bids told may. absurd (no_bid p w bids);
    apart = λ c v w alive took names bids told may. no_bid v w bids;
  }

  module _ (legs : List Leg) (are : AreLegs s code im.words legs) where
    abbrev at : List Turn → RunState
    at turns = last_state s code im.words legs turns

    abbrev raised : ℕ
    raised = raised_by code input s keeper im places fair opens calm legs

    abbrev IsTendedAt : List Turn → Skeleton → Type 0
    IsTendedAt turns t =
        IsTended s code places fair root arrays raised (words_then s code im.words legs) (at turns) (all_homes s code im.words legs turns)
        (all_forked s code im.words legs turns) (all_taken s code im.words legs turns) t

    tended : (turns : List Turn) → Among turns → (t : Skeleton) × IsTendedAt turns t
    tended turns among = tended_then code input s keeper im places fair opens calm legs are turns among

    apart_on : (more first : List Turn) → Among first → Among more → AreApart s (at first) → AreApart s (after s code (at first) more)
    apart_on [] first a b apart = apart
    apart_on (turn ∷ more) first a b apart =
        let now = tended first a in
        let run = now.1.advancing.run in
        let is : at (first ++ turn ∷ []) ≡ happens s code (at first) turn = in_two s code (state_then s code im.words legs) first (turn ∷ []) in
        let a_then = both (IsTurnAmong s.processors) first (turn ∷ []) a (b.0, tt) in
        let law = (tended (first ++ turn ∷ []) a_then).1.advancing.run.halves.lawful.1 in
        let doomed = λ (p : ℕ). subst (λ (z : RunState). Dooms (spots.view s z.words) p (spots.kinds s z.words p)) is (law.holding.doomed p) in
        let there = λ (p : ℕ). subst (λ (z : RunState). IsBidThere s (spots.kinds s z.words p)) is (law.bids p) in
        let next = apart_after s code places fair root arrays (at first) _ _ _ [] now.0 run.halves run.joint.agrees turn b.0 apart doomed there in
        subst (λ (z : RunState). AreApart s (after s code z more)) is
        (apart_on more (first ++ turn ∷ []) a_then b.1 (subst (AreApart s) (sym is) next))

  apart_begins : (legs : List Leg) → AreLegs s code im.words legs → AreApart s (state_then s code im.words legs)
  apart_begins [] are = first_apart
  apart_begins (leg ∷ legs) are =
      let was = apart_on legs are.0 leg.turns [] tt are.1 (apart_begins legs are.0) in
      apart_back s (last_state s code im.words legs leg.turns) leg.back are.2.renewal (home_at (leg ∷ legs) are) was

  pub apart_then : (legs : List Leg) → AreLegs s code im.words legs → (turns : List Turn) → Among turns → AreApart s (last_state s code im.words legs turns)
  apart_then legs are turns among = apart_on legs are turns [] tt among (apart_begins legs are)
