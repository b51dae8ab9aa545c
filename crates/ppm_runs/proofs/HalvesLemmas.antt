-- With takeover by entries: what the tickets say of a processor is what the frames ask of its turn, where it goes
-- on with nothing that it inherited.
use Rattle.std.proofs.Common.{◌≡◌, ◌<◌, ◌≤◌, ℕ, true, List, Option, Some, None, inl, inr, refl, sym, ap, ◌∙◌, subst}
use Rattle.std.proofs.Math.Path.{fun_ext}
use Rattle.ppm_strands.specs.Tree.{Words, Tree}
use Rattle.ppm_cells.specs.declared.restart.Restart.{Restart}
use Rattle.ppm_cells.specs.declared.restart.RestartKind.{RestartKind}
use Rattle.ppm_cells.specs.declared.restart.RestartKind.TheVariants.{Run, Bump, Push1, Push2, Unwind, Arrive, Join, Pop1, Pop2, Seek, Steal, Check, Take, Take2}
use Rattle.ppm_cells.specs.declared.shape.Shape.{Shape}
use Rattle.ppm_cells.specs.declared.shape.Takeover.TheVariants.{ByEntries}
use Rattle.ppm_strands.specs.Strand.{Frame}
use Rattle.ppm_code.specs.Strands.{Point, Result}
use Rattle.ppm_code.specs.declared.code.CodeParts.{CodeParts}
use Rattle.ppm_code.specs.declared.location.FrameWord.{FrameWord}
use Rattle.ppm_step.specs.Standings.{Standing, IsLost, IsPlaced, IsAt, IsWithin, IsRunning, IsBroken, IsDone}
use Rattle.ppm_step.specs.State.{State as RunState, stand_of, happens, forks_of}
use Rattle.ppm_step.specs.declared.row.Point.TheVariants.{Offset}
use Rattle.ppm_step.specs.declared.row.Row.{Row}
use Rattle.ppm_step.specs.declared.row.Row.TheVariants.{Now}
use Rattle.ppm_step.specs.declared.row.Seat.{Seat}
use Rattle.ppm_step.specs.declared.row.Then.TheVariants.{Load, Begin}
use Rattle.ppm_step.specs.declared.turn.Act.{Act}
use Rattle.ppm_step.specs.declared.turn.Act.TheVariants.{Step, Soft, Hard, Quit}
use Rattle.ppm_tickets.specs.Heirs.{IsTaker, MayTake}
use Rattle.ppm_tickets.specs.Homes.{Home}
use Rattle.ppm_tickets.specs.Lawful.{Closed}
use Rattle.ppm_tickets.specs.Saw.{Carried, Sees, IsOfIf}
use Rattle.ppm_tickets.specs.View as spots
use Rattle.ppm_tickets.specs.Words.{Word, Spot, has}
use Rattle.ppm_tickets.proofs.FollowedLemmas.{none_comes_back}
use Rattle.ppm_tickets.proofs.TakingRows.{heirs_take, one_takes}
use Rattle.ppm_frames.specs.Skeletons.{Skeleton}
use Rattle.ppm_kept.specs.Branches.{is_taker}
use Rattle.ppm_kept.specs.Running.{IsFair}
use Rattle.ppm_kept.specs.Kept.{Setting, State}
use Rattle.ppm_kept.specs.Births.{Births}
use Rattle.ppm_kept.specs.Fates.{Offered, Agrees}
use Rattle.ppm_kept.specs.Left.{Followed, left, IsAway, StandsAway, InheritsNone, StepsAway}
use Rattle.ppm_kept.specs.Places.{places_of, IsOf, Holds}
use Rattle.ppm_kept.specs.Steps.{TakesSo, IsKindIf, StandsSo, LeavesSo, ActsSo}
use Rattle.ppm_kept.specs.Takes.{IsAlone}
use Rattle.ppm_kept.proofs.BearLemmas.{turns_bear_left}
use Rattle.ppm_kept.proofs.FateLemmas.{fates_show}
use Rattle.ppm_kept.proofs.StepRows.{turns_keep_left}
use Rattle.ppm_runs.specs.Run.{setting, fate_of}
use Rattle.ppm_runs.specs.Follow.{IsHalves, LooksOnly, HalvesGoOn}
use Rattle.ppm_runs.proofs.BearingLemmas.{with_same}
use Rattle.ppm_runs.proofs.FollowLemmas.{stays_gone}
use Rattle.ppm_runs.proofs.ShownLemmas.{holds, carried_away}
use Rattle.ppm_runs.proofs.CameLemmas.{came_from}
use Rattle.ppm_runs.proofs.GoingLemmas.{doer}
use Rattle.ppm_runs.proofs.StandLemmas.{kinds_same}

taker_is : (k : RestartKind) → is_taker k ≡ true → IsTaker k
taker_is (Pop2 r) e = tt
taker_is (Check v j) e = tt
taker_is (Run f y) e = absurd (cc)
taker_is (Bump r) e = absurd (cc)
taker_is (Push1 r) e = absurd (cc)
taker_is (Push2 r) e = absurd (cc)
taker_is (Unwind f) e = absurd (cc)
taker_is (Arrive r d) e = absurd (cc)
taker_is (Join r d) e = absurd (cc)
taker_is Pop1 e = absurd (cc)
taker_is Seek e = absurd (cc)
taker_is (Steal v j) e = absurd (cc)
taker_is (Take v j) e = absurd (cc)
taker_is (Take2 v) e = absurd (cc)

module _ (s : Shape) (code : CodeParts) (ih : s.takeover ≡ ByEntries) (fair : IsFair code) (root : Tree (Frame FrameWord Point) Result) (input : Words) (state : RunState) (h : ℕ → Home) (forked taken : List ℕ) (l : List Followed) (t : Skeleton)
    (run : IsHalves s code root input state h forked taken l t) (agrees : Agrees t (λ r. fate_of (h r))) (broken : (c p : ℕ) → stand_of state c ≡ IsBroken p → p ≤ 64) where
  abbrev i : Setting
  i = setting s code

  abbrev S : State
  S = left i l (places_of s state)

  abbrev m : Spot → Word
  m = spots.view s state.words

  abbrev k : ℕ → RestartKind
  k = spots.kinds s state.words

  abbrev b : ℕ → ℕ
  b = spots.bottoms s state.words

  sees_at : (c : ℕ) (x : Standing) → stand_of state c ≡ x → Sees s m k b c x
  sees_at c x e = subst (Sees s m k b c) e (run.lawful.1.sees c)

  holds_at : (c p : ℕ) → Carried s m c p → IsOf p (stand_of state c) → Holds s state c p
  holds_at c p carried own = holds s code root input state h forked taken l t run c p carried own

  is_away : (c p : ℕ) → Carried s m c p → IsAway l p
  is_away c p carried = carried_away s code root input state h forked taken l t run c p carried

  -- a branch that is about to be begun is offered
  offered : (p r : ℕ) → MayTake (Closed s.takeover m) m k b h run.lawful.1.board p r → fate_of (h r) ≡ Offered
  offered p r (inl is) = ap fate_of is
  offered p r (inr (inl is)) = ap fate_of is
  offered p r (inr (inr a)) = elim a.1 [ inl is ↦ ap fate_of is | inr is ↦ ap fate_of is ]

  alone_in : (c : ℕ) (seat : Seat) (r f low : ℕ) → stand_of state c ≡ IsWithin seat (Now (Begin r f low)) → is_taker seat.restart.kind ≡ true → IsAlone (places_of s state) seat.place r
  alone_in c seat r f low e taker q f' low' ne other does =
      let d = doer (stand_of state) q (Now (Begin r f' low')) s.processors does in
      let sees = sees_at d.processor (IsWithin d.seat (Now (Begin r f' low'))) d.stand in
      let kind : is_taker d.seat.restart.kind ≡ true = ap is_taker (sym sees.0.at.kind ∙ sym (kinds_same s state.words d.seat.place)) ∙ ap (λ (z : ℕ). is_taker ((places_of s state).kind z)) d.place ∙ other in
      ne (sym d.place ∙ sym (one_takes s code ih state h forked taken run.lawful c d.processor seat d.seat (Now (Begin r f low)) (Now (Begin r f' low')) r e refl (taker_is seat.restart.kind taker) d.stand refl (taker_is d.seat.restart.kind kind)))

  takes_so : (c : ℕ) (seat : Seat) (row : Row) → stand_of state c ≡ IsWithin seat row → is_taker seat.restart.kind ≡ true → TakesSo i state t seat.place row
  takes_so c seat (Now (Load (Offset r low))) e taker =
      (fates_show i fair root input S t run.kept (λ x. fate_of (h x)) agrees).waits r
      (offered seat.place r (heirs_take s code ih state h forked taken run.lawful c seat (Now (Load (Offset r low))) r e refl (taker_is seat.restart.kind taker)))
  takes_so c seat (Now (Begin r f low)) e taker = alone_in c seat r f low e taker
  takes_so c seat _ e taker = tt

  stands_so : (c : ℕ) (x : Standing) → stand_of state c ≡ x → StandsSo i state t c x
  stands_so c IsLost e = tt
  stands_so c (IsPlaced p) e = tt
  stands_so c (IsAt p restart) e =
      let sees = sees_at c (IsAt p restart) e in
      (holds_at c p sees.0 (subst (IsOf p) (sym e) tt), kind_if restart sees.1)
    where
      kind_if : (restart : Option Restart) → IsOfIf s m k b p restart → IsKindIf i state.words p restart
      kind_if None a = tt
      kind_if (Some r) a = kinds_same s state.words p ∙ a.kind
  stands_so c (IsWithin seat row) e =
      let sees = sees_at c (IsWithin seat row) e in
      record {
        holds = holds_at c seat.place sees.0.carried (subst (IsOf seat.place) (sym e) refl);
        own = subst (λ (z : ℕ). z < s.processors) (sym sees.0.own) sees.0.carried.lives.there;
        kind = kinds_same s state.words seat.place ∙ sees.0.at.kind;
        there = sees.2;
        came = came_from s seat row (spots.with_restarts m k b) sees.2 sees.1;
        takes = takes_so c seat row e;
      }
  stands_so c (IsRunning seat rest) e =
      let sees = sees_at c (IsRunning seat rest) e in
      record { holds = holds_at c seat.place sees.0.carried (subst (IsOf seat.place) (sym e) refl); kind = kinds_same s state.words seat.place ∙ sees.0.at.kind; there = sees.3; counts = λ kind is k j so. refl }
  stands_so c (IsBroken p) e = broken c p e
  stands_so c IsDone e = tt

  leaves_so : (c : ℕ) (x : Standing) → stand_of state c ≡ x → LeavesSo s state c x
  leaves_so c (IsWithin seat row) e = holds_at c seat.place (sees_at c (IsWithin seat row) e).0.carried (subst (IsOf seat.place) (sym e) refl)
  leaves_so c (IsRunning seat rest) e = holds_at c seat.place (sees_at c (IsRunning seat rest) e).0.carried (subst (IsOf seat.place) (sym e) refl)
  leaves_so c IsLost e = tt
  leaves_so c (IsPlaced p) e = tt
  leaves_so c (IsAt p restart) e = tt
  leaves_so c (IsBroken p) e = tt
  leaves_so c IsDone e = tt

  pub acts_so : (c : ℕ) (act : Act) → c < s.processors → ActsSo i state t c act (stand_of state c)
  acts_so c (Step victim) there = (record { words = run.lawful.0; there = there }, stands_so c (stand_of state c) refl)
  acts_so c Soft there = (record { words = run.lawful.0; there = there }, leaves_so c (stand_of state c) refl)
  acts_so c Hard there = (record { words = run.lawful.0; there = there }, leaves_so c (stand_of state c) refl)
  acts_so c (Quit why) there = (record { words = run.lawful.0; there = there }, leaves_so c (stand_of state c) refl)

  stands_away : (c : ℕ) (x : Standing) → stand_of state c ≡ x → StandsAway l x
  stands_away c (IsAt p restart) e = is_away c p (sees_at c (IsAt p restart) e).0
  stands_away c (IsWithin seat row) e = is_away c seat.place (sees_at c (IsWithin seat row) e).0.carried
  stands_away c (IsRunning seat rest) e = is_away c seat.place (sees_at c (IsRunning seat rest) e).0.carried
  stands_away c IsLost e = tt
  stands_away c (IsPlaced p) e = tt
  stands_away c (IsBroken p) e = tt
  stands_away c IsDone e = tt

  none_of : (victim : ℕ) (x : Standing) → LooksOnly (Step victim) x → InheritsNone s.takeover x
  none_of victim (IsWithin seat row) looks = inr looks
  none_of victim IsLost looks = tt
  none_of victim (IsPlaced p) looks = tt
  none_of victim (IsAt p restart) looks = tt
  none_of victim (IsRunning seat rest) looks = tt
  none_of victim (IsBroken p) looks = tt
  none_of victim IsDone looks = tt

  pub steps_away : (c : ℕ) (act : Act) → LooksOnly act (stand_of state c) → StepsAway i l act (stand_of state c)
  steps_away c (Step victim) looks = (stands_away c (stand_of state c) refl, none_of victim (stand_of state c) looks)
  steps_away c Soft looks = tt
  steps_away c Hard looks = tt
  steps_away c (Quit why) looks = tt

pub halves_go_on : HalvesGoOn
halves_go_on s code ih fair root input state h forked taken l t run agrees broken turn there orderly looks =
    let so = acts_so s code ih fair root input state h forked taken l t run agrees broken turn.processor turn.act there in
    let away_ = steps_away s code ih fair root input state h forked taken l t run agrees broken turn.processor turn.act looks in
    let law = none_comes_back s code state h forked taken run.lawful turn orderly in record {
      lawful = law.0;
      apart = run.apart;
      gone = stays_gone l run.lawful.1.board.gone law.0.1.board.gone law.1 run.gone;
      kept = turns_keep_left (setting s code) fair root input state l run.apart t run.kept turn so away_;
      born = subst (Births (setting s code) (left (setting s code) l (places_of s (happens s code state turn)))) (fun_ext (with_same (forks_of state turn) forked))
          (turns_bear_left (setting s code) fair root input state l run.apart t run.kept (has forked) run.born turn so away_);
    }
