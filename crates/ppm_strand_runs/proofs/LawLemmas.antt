-- A fall in a run without faults refutes that what is done stands.
use Rattle.std.proofs.Common.{ℕ, zero, suc, List, [], ◌∷◌, ◌++◌, length, replicate, subst}
use Rattle.ppm_unseen.specs.Run.{System, State, AllStill, now, settled}
use Rattle.ppm_code.specs.Inputs.{words_in}
use Rattle.ppm_code.specs.Strands.{Result}
use Rattle.ppm_depth.specs.Start.{root_own, words_of}
use Rattle.ppm_filled.specs.Racing.{OwnWord, Place, Exit}
use Rattle.ppm_plan.specs.declared.strand_item.StrandAct.{StrandAct}
use Rattle.ppm_plan.specs.declared.strand_item.StrandAct.TheVariants as act
use Rattle.ppm_plan.specs.declared.strand_item.StrandItem.{StrandItem}
use Rattle.ppm_racy.specs.Code.{plain_code}
use Rattle.ppm_interleaving.specs.declared.deed.Turn.{Turn}
use Rattle.ppm_interleaving.specs.declared.deed.Turn.TheVariants.{Step, Fault}
use Rattle.ppm_interleaving.specs.Changes.{change_of}
use Rattle.ppm_interleaving.specs.Falls.{HaveNoFault, FallsRefute}
use Rattle.ppm_interleaving.specs.Turns.{Moment, moment, turns, deeds, ComesBy, Others, Goes, Does, Passes, Fails, Spared, IsRun, came}
use Rattle.ppm_interleaving.proofs.FallenLemmas.{still_back, still_reversed}
use Rattle.ppm_strand_runs.specs.Correct.{IsStep, AreSteps, FallsOfRunsRefute}
use Rattle.ppm_strand_runs.specs.First.{IsFirst, IsFirstFall}
use Rattle.ppm_strand_runs.specs.Order.{turn_of, turns_of, InOrder, Begins, Makes, IsNext, OfSchedule, OfRound}
use Rattle.ppm_strand_runs.specs.Run.{strands_of}

-- the turns of steps have no fault
several : (n : ℕ) (a : StrandAct) (rest : List Turn) → IsStep a → HaveNoFault rest → HaveNoFault (replicate n (turn_of a) ++ rest)
several zero a rest s f = f
several (suc n) (act.Step c) rest s f = several n (act.Step c) rest s f
several (suc n) (act.Fails c) rest s f = absurd s

no_faults : (items : List StrandItem) → AreSteps items → HaveNoFault (turns_of items)
no_faults [] s = tt
no_faults (i ∷ items) s = several i.times i.act (turns_of items) s.0 (no_faults items s.1)

-- a turn that is no fault, in front of others
first_free : (t : Turn) (left : List Turn) → HaveNoFault (t ∷ left) → (h : List Turn) → HaveNoFault h → HaveNoFault (t ∷ h)
first_free (Step i) left f h g = g
first_free (Fault i) left f h g = absurd f

rest_free : (t : Turn) (left : List Turn) → HaveNoFault (t ∷ left) → HaveNoFault left
rest_free (Step i) left f = f
rest_free (Fault i) left f = absurd f

-- what is left after a turn has none, and neither has the turn
next_free : {left after : List Turn} {next strands then_next : ℕ} {turn : Turn} → IsNext left next strands turn after then_next → HaveNoFault left
    → HaveNoFault after × ((h : List Turn) → HaveNoFault h → HaveNoFault (turn ∷ h))
next_free (OfSchedule t left next strands) f = (rest_free t left f, first_free t left f)
next_free (OfRound next strands) f = (tt, λ h g. g)

module _ (s : System OwnWord Place Exit Result) where
  made_free : {schedule left : List Turn} {h : List Moment} {next : ℕ} → InOrder s schedule h left next → HaveNoFault schedule
      → HaveNoFault left × HaveNoFault (turns h)
  made_free Begins f = (f, tt)
  made_free (Makes {h = h} turn d o goes is) f =
      let before = made_free o f in
      let more = next_free is before.0 in
      (more.0, more.1 (turns h) before.1)

  -- the moments before others have none
  before_free : (later h : List Moment) → HaveNoFault (turns (later ++ h)) → HaveNoFault (turns h)
  before_free [] h f = f
  before_free (m ∷ later) h f = before_free later h (rest_free m.turn (turns (later ++ h)) f)

  -- and are a run
  pub tail_of : {i : ℕ} {m : Moment} {h : List Moment} {σ : State OwnWord Place Exit} → ComesBy s i (m ∷ h) σ → (τ : State OwnWord Place Exit) × ComesBy s i h τ
  tail_of (Others turn d other done c) = (_, c)
  tail_of (Goes c ready step) = (_, c)
  tail_of (Does c ready deed) = (_, c)
  tail_of (Passes c still) = (_, c)
  tail_of (Fails c) = (_, c)
  tail_of (Spared c elsewhere) = (_, c)

  before_run : (later h : List Moment) → IsRun s (later ++ h) → IsRun s h
  before_run [] h r = r
  before_run (m ∷ later) h r = before_run later h (λ i. tail_of (r i).1)

pub falls_refute : ((s : System OwnWord Place Exit Result) → FallsRefute s) → FallsOfRunsRefute
falls_refute law code input schedule limit run fall steps r is stands =
    law s here fall.fallen.strand free along (f.is.state, f.is.comes, falls) stands
  where
    s : System OwnWord Place Exit Result
    s = strands_of code input

    f : IsFirst code (length (words_in input)) (root_own (plain_code code) input) (words_of (words_in input)) r.moments fall
    f = subst (λ found. IsFirstFall code (length (words_in input)) (root_own (plain_code code) input) (words_of (words_in input)) r.moments found) is r.come.fall

    here : List Moment
    here = moment f.turn f.deed ∷ f.before

    free : HaveNoFault (turns here)
    free = before_free s f.later here
        (subst (λ (h : List Moment). HaveNoFault (turns h)) f.order (made_free s r.order (no_faults schedule steps)).1)

    along : IsRun s here
    along = before_run s f.later here (subst (λ (h : List Moment). IsRun s h) f.order (λ i. ((r.come.shows.strands i).0, (r.come.shows.strands i).1)))

    falls : AllStill (now s (deeds here)) (settled (came s f.is.comes)) → ⊥
    falls still =
        let turned = still_reversed (now s (deeds here)) (settled (came s f.is.comes)) still in
        let later = still_back (now s (deeds here)) f.is.front (change_of fall.fallen.change ∷ f.is.later)
        (subst (AllStill (now s (deeds here))) f.is.order turned) in
        f.is.falls (later.0, tt)
