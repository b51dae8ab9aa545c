-- What the deque's half says of a place that goes on with what it inherited is what the frames' half asks.
use Rattle.std.proofs.Common.{◌≡◌, ◌≢◌, ◌<◌, ◌+◌, ℕ, zero, suc, Bool, true, false, if◌then◌else◌, List, [], ◌∷◌, ◌++◌, inl, inr, refl, sym, ap, ◌∙◌, subst, arith, true≢false}
use Rattle.std.specs.Prelude.{nat_lt}
use Rattle.std.proofs.Math.Path.{fun_ext}
use Rattle.std.proofs.lemmas.Bool.{eqb-true, ltb-true, cases_eq, cases_Bool}
use Rattle.ppm_strands.specs.Tree.{Words, Tree}
use Rattle.ppm_cells.specs.declared.cell.Cell.TheVariants.{BlockWord}
use Rattle.ppm_cells.specs.declared.link.LinkKind.{LinkKind}
use Rattle.ppm_cells.specs.declared.link.LinkKind.TheVariants.{Call as Called, Fork as Forked}
use Rattle.ppm_cells.specs.declared.restart.Restart.{Restart}
use Rattle.ppm_cells.specs.declared.restart.RestartKind.{RestartKind}
use Rattle.ppm_cells.specs.declared.restart.RestartKind.TheVariants.{Run, Bump, Push1, Push2, Unwind, Arrive, Join, Seek, Check}
use Rattle.ppm_cells.specs.declared.shape.Shape.{Shape}
use Rattle.ppm_cells.specs.declared.shape.Takeover.TheVariants.{ByEntries}
use Rattle.ppm_strands.specs.Strand.{Frame}
use Rattle.ppm_code.specs.Strands.{Point, Result}
use Rattle.ppm_code.specs.declared.code.CodeParts.{CodeParts}
use Rattle.ppm_code.specs.declared.location.FrameWord.{FrameWord}
use Rattle.ppm_step.specs.Standings.{Standing, IsLost, IsPlaced, IsAt, IsWithin, IsRunning, IsBroken, IsDone}
use Rattle.ppm_step.specs.State.{State as RunState, stand_of, happens, fork_row, take_row, row_by, step_by}
use Rattle.ppm_step.specs.declared.row.Row.TheVariants.{Now}
use Rattle.ppm_step.specs.declared.row.Seat.{Seat}
use Rattle.ppm_step.specs.declared.row.Then.{Then}
use Rattle.ppm_step.specs.declared.row.Then.TheVariants.{Install, Fork}
use Rattle.ppm_step.specs.declared.turn.Act.TheVariants.{Step}
use Rattle.ppm_tickets.specs.Along.{by_row, by_install}
use Rattle.ppm_tickets.specs.Heirs.{GoesOnBy, InheritsAt, IsLawfulOn, followed_too}
use Rattle.ppm_tickets.specs.Homes.{Home, Unborn, Pushing}
use Rattle.ppm_tickets.specs.Lawful.{IsClaim, Closed}
use Rattle.ppm_tickets.specs.Saw.{Carried, Sees}
use Rattle.ppm_tickets.specs.View as spots
use Rattle.ppm_tickets.specs.Words.{Word, Spot, put, has}
use Rattle.ppm_tickets.proofs.CountLemmas.{has_here}
use Rattle.ppm_tickets.proofs.EstateLemmas.{claims_shut, here}
use Rattle.ppm_tickets.proofs.FollowedLemmas.{heirs_follow}
use Rattle.ppm_tickets.proofs.HeirRows.{heirs_see}
use Rattle.ppm_tickets.proofs.StepLemmas.{shut_not}
use Rattle.ppm_tickets.proofs.ViewLemmas.{if_false}
use Rattle.ppm_tickets.proofs.WriteLemmas.{put_here, put_else}
use Rattle.ppm_frames.specs.Skeletons.{Skeleton}
use Rattle.ppm_frames.specs.Good.{link_at}
use Rattle.ppm_kept.specs.Running.{IsFair}
use Rattle.ppm_kept.specs.Kept.{Setting, Resting, State}
use Rattle.ppm_kept.specs.Bearing.{with_blocks}
use Rattle.ppm_kept.specs.Births.{Births}
use Rattle.ppm_kept.specs.Fates.{Agrees}
use Rattle.ppm_kept.specs.Fates as fates
use Rattle.ppm_kept.specs.Kept as kept
use Rattle.ppm_kept.specs.Heirs.{handed, OpensAs, GoesOnAs}
use Rattle.ppm_kept.specs.HeirTurns.{Heired, and_followed}
use Rattle.ppm_kept.specs.HeirTurns as turns
use Rattle.ppm_kept.specs.Laws.{kind_then}
use Rattle.ppm_kept.specs.Left.{Followed, left}
use Rattle.ppm_kept.specs.Moves.{doing_of}
use Rattle.ppm_kept.specs.Others.{IsIdle}
use Rattle.ppm_kept.specs.Places.{kinds_of, places_of, is_in, doing_in, IsOf, Holds}
use Rattle.ppm_kept.proofs.HeirTurns.{heir_turns_keep, heir_turns_bear, heir_turns_new}
use Rattle.ppm_kept.proofs.FateLemmas.{fates_stay, fork_has}
use Rattle.ppm_kept.proofs.LeftLemmas.{kind_away}
use Rattle.ppm_kept.proofs.PutLemmas as kept_puts
use Rattle.ppm_kept.proofs.UnrunUntaken.{unruns_are_untaken, handed_same}
use Rattle.ppm_runs.specs.Run.{setting, fate_of}
use Rattle.ppm_runs.specs.Follow.{AreGone, IsHalves, CarriesOn, OpensBlock, HeirsLead}
use Rattle.ppm_runs.proofs.AgreeLemmas.{home_or}
use Rattle.ppm_runs.proofs.BearingLemmas.{with_same}
use Rattle.ppm_runs.proofs.ShownLemmas.{away, holds}
use Rattle.ppm_runs.proofs.StandLemmas.{kinds_same}

-- who was followed stays so
pub stays_gone : (l : List Followed) (g n : ℕ → Bool) → ((v : ℕ) → g v ≡ true → n v ≡ true) → AreGone g l → AreGone n l
stays_gone [] g n f a = tt
stays_gone (v ∷ l) g n f a = (f v.place a.0, stays_gone l g n f a.1)

-- nobody is in the place
none_does : (f : ℕ → Standing) (w : ℕ) → ((d : ℕ) → is_in w (f d) ≡ false) → (n : ℕ) → doing_in f n w ≡ Resting
none_does f w none zero = refl
none_does f w none (suc n) = ap (λ (b : Bool). if b then doing_of (f n) else doing_in f n w) (none n) ∙ none_does f w none n

module _ (s : Shape) (code : CodeParts) (ih : s.takeover ≡ ByEntries) (fair : IsFair code) (root : Tree (Frame FrameWord Point) Result) (input : Words) (state : RunState) (h : ℕ → Home) (forked taken : List ℕ) (l : List Followed) (t : Skeleton)
    (run : IsHalves s code root input state h forked taken l t) (agrees : Agrees t (λ r. fate_of (h r))) where
  abbrev i : Setting
  i = setting s code

  abbrev P : State
  P = places_of s state

  abbrev S : State
  S = left i l P

  abbrev m : Spot → Word
  m = spots.view s state.words

  abbrev k : ℕ → RestartKind
  k = spots.kinds s state.words

  abbrev b : ℕ → ℕ
  b = spots.bottoms s state.words

  abbrev gone : ℕ → Bool
  gone = run.lawful.1.board.gone

  in_one : (d p : ℕ) (x : Standing) → Sees s m k b d x → is_in p x ≡ true → Carried s m d p
  in_one d p (IsWithin seat row) sees e = subst (Carried s m d) (eqb-true seat.place p e) sees.0.carried
  in_one d p (IsRunning seat rest) sees e = subst (Carried s m d) (eqb-true seat.place p e) sees.0.carried
  in_one d p IsLost sees e = absurd (cc)
  in_one d p (IsPlaced q) sees e = absurd (cc)
  in_one d p (IsAt q r) sees e = absurd (cc)
  in_one d p (IsBroken q) sees e = absurd (cc)
  in_one d p IsDone sees e = absurd (cc)

  -- none is in a closed one
  empty : (w : ℕ) → Closed s.takeover m w → (d : ℕ) → is_in w (stand_of state d) ≡ false
  empty w shut d = elim (cases_Bool (is_in w (stand_of state d))) [
    | inr out ↦ out
    | inl at ↦ let a = in_one d w (stand_of state d) (run.lawful.1.sees d) at in absurd (shut_not s.takeover m d w a.home a.lives.alive shut)
  ]

  -- a place that does not seek is one of the shape's
  place_there : (w : ℕ) → k w ≢ Seek → w < s.processors
  place_there w ne = elim (cases_Bool (nat_lt w s.processors)) [
    | inl y ↦ ltb-true w s.processors y
    | inr out ↦ absurd (ne (ap (λ (r : Restart). r.kind) (if_false (nat_lt w s.processors) _ spots.seeking out)))
  ]

  module _ (c victim : ℕ) (seat : Seat) (next : Then) (v slot : ℕ) (at : stand_of state c ≡ IsWithin seat (Now next)) (ke : seat.restart.kind ≡ Check v slot) where
    abbrev p : ℕ
    p = seat.place

    sees : Sees s m k b c (IsWithin seat (Now next))
    sees = subst (Sees s m k b c) at (run.lawful.1.sees c)

    open_ : Closed s.takeover m p → ⊥
    open_ = shut_not s.takeover m c p sees.0.carried.home sees.0.carried.lives.alive

    held : Holds s state c p
    held = holds s code root input state h forked taken l t run c p sees.0.carried (subst (IsOf p) (sym at) refl)

    module _ (it : InheritsAt s code state h forked taken run.lawful p) (opens : (r : ℕ) → kinds_of s state.words it.place ≡ Bump r → OpensBlock r next → OpensAs r (link_at (S.words (BlockWord r))).kind (kind_then next)) where
      abbrev w : ℕ
      w = it.place

      shut : Closed s.takeover m w
      shut = claims_shut run.lawful.1.board w it.way.0.slot (subst IsClaim (sym it.way.0.taken) (omega arith))

      goes_as : (K : RestartKind) → kinds_of s state.words w ≡ K → GoesOnBy (Closed s.takeover m) m k b h run.lawful.1.board p w K (kind_then next) → GoesOnAs S t w K (kind_then next)
      goes_as (Run f y) is g = g
      goes_as (Bump r) is g = opens r is (inl g)
      goes_as (Push1 r) is g = g.0
      goes_as (Push2 r) is (inl g) = inr (g.0, unruns_are_untaken t run.kept.apart r (agrees.to_push r (ap fate_of g.1)) w)
      goes_as (Push2 r) is (inr g) = inl g.0
      goes_as (Unwind f) is g = g
      goes_as (Arrive r d) is g = g
      goes_as (Join r d) is g = g
      goes_as _ is g = absurd g

      heired : k w ≢ Seek → turns.GoesOnBy next (kinds_of s state.words w) → GoesOnAs S t w (kinds_of s state.words w) (kind_then next) → Heired i state l t c seat next w
      heired ne ends goes = record {
        holds = held;
        kind = kinds_same s state.words p ∙ sees.0.at.kind;
        there = sees.2;
        idle = subst IsIdle (sym ke) tt;
        away = away l gone p run.gone (here run.lawful.1.board p open_);
        place = place_there w ne;
        still = away l gone w run.gone it.stays;
        rests = none_does (stand_of state) w (empty w shut) s.processors;
        ends = ends;
        goes = goes;
      }

      -- the tree has the same branches that were not run
      abbrev u : Skeleton
      u = handed w p t

      agrees_same : Agrees u (λ r. fate_of (h r))
      agrees_same = (fates_stay t u (λ r. fate_of (h r)) 0 run.kept.apart agrees).same (handed_same w p t)

      pushed_home : (K : RestartKind) (r : ℕ) → GoesOnBy (Closed s.takeover m) m k b h run.lawful.1.board p w K (Push1 r) → h r ≡ Pushing w
      pushed_home (Push1 x) r g = let z : Push1 r ≡ Push1 x = g.0 in let same : x ≡ r = cc in subst (λ (y : ℕ). h y ≡ Pushing w) same g.1
      pushed_home (Push2 x) r (inl g) = let z : Push1 r ≡ Push1 x = g.0 in let same : x ≡ r = cc in subst (λ (y : ℕ). h y ≡ Pushing w) same g.1
      pushed_home (Push2 x) r (inr g) = absurd (let z : Push1 r ≡ Run (x + 5) 0 = g.0 in cc)
      pushed_home (Run f y) r g = absurd (let z : Push1 r ≡ Run f y = g in cc)
      pushed_home (Bump x) r g = absurd (let z : Push1 r ≡ Run x 0 = g in cc)
      pushed_home (Unwind f) r g = absurd (let z : Push1 r ≡ Unwind f = g in cc)
      pushed_home (Arrive x d) r g = absurd (let z : Push1 r ≡ Arrive x d = g in cc)
      pushed_home (Join x d) r g = absurd (let z : Push1 r ≡ Join x d = g in cc)
      pushed_home _ r g = absurd g

      -- a branch that it is to push now has another place
      agrees_put : (r : ℕ) (x : Home) → fate_of (h r) ≡ fate_of x → Agrees u (λ q. fate_of (put h r x q))
      agrees_put r x same = subst (Agrees u) (fun_ext each) agrees_same
        where
          each : (q : ℕ) → fate_of (h q) ≡ fate_of (put h r x q)
          each q = elim (cases_eq q r) [
            | inl e ↦ ap (λ (y : ℕ). fate_of (h y)) e ∙ same ∙ sym (ap fate_of (ap (put h r x) e ∙ put_here h r x))
            | inr ne ↦ sym (ap fate_of (put_else h r x q ne))
          ]

      agrees_by : (new : RestartKind) → GoesOnBy (Closed s.takeover m) m k b h run.lawful.1.board p w (k w) new → Agrees u (λ q. fate_of (by_install p (Check v slot) new h q))
      agrees_by (Push1 r) g = agrees_put r (Pushing p) (ap fate_of (pushed_home (k w) r g))
      agrees_by _ g = agrees_same

      agrees_install : (new : RestartKind) → GoesOnBy (Closed s.takeover m) m k b h run.lawful.1.board p w (k w) new → Agrees u (λ q. fate_of (by_install p seat.restart.kind new h q))
      agrees_install new g = subst (λ (K : RestartKind). Agrees u (λ q. fate_of (by_install p K new h q))) (sym ke) (agrees_by new g)

      link_forked : (r : ℕ) (link : LinkKind) → OpensAs r link (Push1 r) → (g : ℕ) × (y : ℕ) × (link ≡ Forked g y)
      link_forked r (Forked g y) e = (g, y, refl)
      link_forked r (Called g y) e = absurd (let z : Push1 r ≡ Run r 0 = e in cc)
      link_forked r _ e = absurd e

      -- a block that it forks has its right branch beside the strand
      agrees_fork : (r : ℕ) → kinds_of s state.words w ≡ Bump r → OpensAs r (link_at (S.words (BlockWord r))).kind (Push1 r) → has forked r ≡ false → Agrees u (λ q. fate_of (put h r (Pushing p) q))
      agrees_fork r is opened fresh =
          let has = fork_has i fair root input S t run.kept w r r (kind_away l P.kind w (away l gone w run.gone it.stays) ∙ is) (refl, link_forked r (link_at (S.words (BlockWord r))).kind opened) in
          let unborn : h r ≡ Unborn = elim (home_or (h r)) [ inl z ↦ z | inr ne ↦ absurd (true≢false (sym (run.lawful.1.counts.listed r ne) ∙ fresh)) ] in
          let before = (fates_stay t t (λ q. fate_of (h q)) r run.kept.apart agrees).forks has (ap fate_of unborn) in
          subst (Agrees u) (fun_ext each) ((fates_stay t u (kept.put (λ y. fate_of (h y)) r fates.ToPush) 0 run.kept.apart before).same (handed_same w p t))
        where
          each : (q : ℕ) → kept.put (λ y. fate_of (h y)) r fates.ToPush q ≡ fate_of (put h r (Pushing p) q)
          each q = elim (cases_eq q r) [
            | inl e ↦ ap (kept.put (λ y. fate_of (h y)) r fates.ToPush) e ∙ kept_puts.put_here (λ y. fate_of (h y)) r fates.ToPush ∙ sym (ap fate_of (ap (put h r (Pushing p)) e ∙ put_here h r (Pushing p)))
            | inr ne ↦ kept_puts.put_else (λ y. fate_of (h y)) r fates.ToPush q ne ∙ sym (ap fate_of (put_else h r (Pushing p) q ne))
          ]

      halves : (h' : ℕ → Home) (f' tk' : List ℕ) → IsLawfulOn s code (followed_too s code state h forked taken run.lawful (w ∷ it.through)) (happens s code state (record { processor = c; act = Step victim })) h' f' tk'
          → with_blocks (step_by (row_by fork_row) (Step victim) (stand_of state c)) (has forked) ≡ has f'
          → Heired i state l t c seat next w
          → IsHalves s code root input (happens s code state (record { processor = c; act = Step victim })) h' f' tk' (and_followed i l P w) (handed w p t)
      halves h' f' tk' law born heir = record {
        lawful = law.0;
        apart = (heir.still, run.apart);
        gone = (law.1 w (in_too w (has_here w it.through)), stays_gone l gone law.0.1.board.gone (λ y e. law.1 y (more y e)) run.gone);
        kept = heir_turns_keep i fair root input state l run.apart t run.kept c victim seat next w at heir;
        born = subst (Births i (left i (and_followed i l P w) (places_of s (happens s code state (record { processor = c; act = Step victim }))))) born
            (heir_turns_bear i fair root input state l run.apart t run.kept (has forked) run.born c victim seat next w at heir);
      }
        where
          in_too : (y : ℕ) → has (w ∷ it.through) y ≡ true → followed_too s code state h forked taken run.lawful (w ∷ it.through) y ≡ true
          in_too y e = rw e

          more : (y : ℕ) → gone y ≡ true → followed_too s code state h forked taken run.lawful (w ∷ it.through) y ≡ true
          more y e = elim (cases_Bool (has (w ∷ it.through) y)) [ inl z ↦ in_too y z | inr z ↦ (rw z e) ]

  -- by how the row ends
  leads : (c victim : ℕ) (seat : Seat) (next : Then) (v slot : ℕ) → stand_of state c ≡ IsWithin seat (Now next) → seat.restart.kind ≡ Check v slot → CarriesOn next
      → ((it : InheritsAt s code state h forked taken run.lawful seat.place) → (r : ℕ) → kinds_of s state.words it.place ≡ Bump r → OpensBlock r next → OpensAs r (link_at (S.words (BlockWord r))).kind (kind_then next))
      → (w : ℕ) × Agrees (handed w seat.place t) (λ r. fate_of (by_row s state.words seat (Now next) h r)) × IsHalves s code root input (happens s code state (record { processor = c; act = Step victim })) (by_row s state.words seat (Now next) h) (fork_row (Now next) ++ forked) (take_row (Now next) ++ taken)
      (and_followed i l P w) (handed w seat.place t) × Heired i state l t c seat next w
  leads c victim seat (Install restart) v slot at ke on opens = elim (heirs_see s code ih state h forked taken run.lawful c seat (Now (Install restart)) v slot at ke) [
    | inl seeks ↦ absurd (on seeks)
    | inr a ↦
        let w = a.0.place in
        let same = kinds_same s state.words w in
        let heir = heired c victim seat (Install restart) v slot at ke a.0 (opens a.0)
        (λ e. subst (λ (K : RestartKind). GoesOnBy (Closed s.takeover m) m k b h run.lawful.1.board seat.place w K restart.kind) e a.1)
        tt
        (goes_as c victim seat (Install restart) v slot at ke a.0 (opens a.0) (kinds_of s state.words w) refl
        (subst (λ (K : RestartKind). GoesOnBy (Closed s.takeover m) m k b h run.lawful.1.board seat.place w K restart.kind) (sym same) a.1)) in (
          w,
          agrees_install c victim seat (Install restart) v slot at ke a.0 (opens a.0) restart.kind a.1,
          halves c victim seat (Install restart) v slot at ke a.0 (opens a.0) (by_row s state.words seat (Now (Install restart)) h) forked taken
              (heirs_follow s code state h forked taken run.lawful c victim seat (Now (Install restart)) v slot at ke a.0 a.1 a.2)
              (ap (λ (x : Standing). with_blocks (step_by (row_by fork_row) (Step victim) x) (has forked)) at)
              heir,
          heir,
        )
  ]
  leads c victim seat (Fork r) v slot at ke on opens =
      let a = heirs_see s code ih state h forked taken run.lawful c seat (Now (Fork r)) v slot at ke in
      let w = a.0.place in
      let is : kinds_of s state.words w ≡ Bump r = kinds_same s state.words w ∙ a.1 in
      let heir = heired c victim seat (Fork r) v slot at ke a.0 (opens a.0) (λ e. let two : Bump r ≡ Seek = sym a.1 ∙ e in cc) is
      (subst (λ (K : RestartKind). GoesOnAs S t w K (Push1 r)) (sym is) (opens a.0 r is (inr refl))) in
      let fresh : has forked r ≡ false = heir_turns_new i fair root input state l run.apart t run.kept c victim seat (Fork r) w at heir (has forked) run.born r is in (
        w,
        agrees_fork c victim seat (Fork r) v slot at ke a.0 (opens a.0) r is (opens a.0 r is (inr refl)) fresh,
        halves c victim seat (Fork r) v slot at ke a.0 (opens a.0) (by_row s state.words seat (Now (Fork r)) h) (r ∷ forked) taken
            (heirs_follow s code state h forked taken run.lawful c victim seat (Now (Fork r)) v slot at ke a.0 a.1 fresh)
            (ap (λ (x : Standing). with_blocks (step_by (row_by fork_row) (Step victim) x) (has forked)) at ∙ fun_ext (with_same (r ∷ []) forked))
            heir,
        heir,
      )
  leads c victim seat _ v slot at ke on opens = absurd on

pub heirs_lead : HeirsLead
heirs_lead s code ih fair root input state h forked taken l t run agrees c victim seat next v slot at ke on rightly = leads s code ih fair root input state h forked taken l t run agrees c victim seat next v slot at ke on
    (λ it r is by. rightly c seat next v slot at ke on it.place r (claims_shut run.lawful.1.board it.place it.way.0.slot (subst IsClaim (sym it.way.0.taken) (omega arith))) (away l run.lawful.1.board.gone it.place run.gone it.stays) is by)
