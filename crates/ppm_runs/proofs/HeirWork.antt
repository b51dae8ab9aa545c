-- The work of runs with takeover by entries: each turn leads from one moment to the next, also that by which a place goes on with what it
-- inherited; and the bound of both takeovers.
use Rattle.std.proofs.Common.{◌≡◌, ◌≢◌, ◌⊎◌, ◌≤◌, ℕ, ◌+◌, ◌*◌, true, false, List, [], ◌∷◌, ◌++◌, length, inl, inr, refl, sym, ap, ◌∙◌, subst, subst₂, arith, true≢false}
use Rattle.std.specs.List.{AllByRecursion}
use Rattle.std.proofs.lemmas.Bool.{cases_eq}
use Rattle.ppm_strands.specs.Tree.{Words, Tree}
use Rattle.ppm_strands.specs.Run.{End, Ends as EndsSo}
use Rattle.ppm_strands.proofs.ToComeLemmas.{strands_are_counted}
use Rattle.ppm_cells.specs.declared.cell.Cell.TheVariants.{BlockWord}
use Rattle.ppm_cells.specs.declared.link.LinkKind.{LinkKind}
use Rattle.ppm_cells.specs.declared.link.LinkKind.TheVariants.{Root, Call as Called, Branch, Fork as Forked}
use Rattle.ppm_cells.specs.declared.restart.RestartKind.{RestartKind}
use Rattle.ppm_cells.specs.declared.restart.RestartKind.TheVariants.{Run, Bump, Push1, Push2, Unwind, Arrive, Join, Seek, Check}
use Rattle.ppm_cells.specs.declared.shape.Shape.{Shape}
use Rattle.ppm_cells.specs.declared.shape.Takeover.{Takeover}
use Rattle.ppm_cells.specs.declared.shape.Takeover.TheVariants.{ByPlaces, ByEntries}
use Rattle.ppm_strands.specs.Strand.{Frame}
use Rattle.ppm_code.specs.Strands.{Point, Result}
use Rattle.ppm_code.specs.declared.code.CodeParts.{CodeParts}
use Rattle.ppm_code.specs.declared.location.FrameWord.{FrameWord}
use Rattle.ppm_layout.specs.Root.{root_strand}
use Rattle.ppm_step.specs.Among.{IsTurnAmong}
use Rattle.ppm_step.specs.Laws.{finish_at, reached}
use Rattle.ppm_step.specs.Standings.{Standing, IsLost, IsPlaced, IsAt, IsWithin, IsRunning, IsBroken, IsDone, then_is_there, forked as forked_restart}
use Rattle.ppm_step.specs.State.{State as RunState, stand_of, found_in, want_of, acts, happens, after, along, opening, is_done_at, is_work_turn, is_work_next, step_of, forks_of, takes_of, work_of, step_by, row_by, fork_row, take_row}
use Rattle.ppm_step.specs.declared.row.Row.TheVariants.{Now}
use Rattle.ppm_step.specs.declared.row.Seat.{Seat}
use Rattle.ppm_step.specs.declared.row.Then.{Then}
use Rattle.ppm_step.specs.declared.row.Then.TheVariants.{Install, Fork}
use Rattle.ppm_step.specs.declared.turn.Act.{Act}
use Rattle.ppm_step.specs.declared.turn.Act.TheVariants.{Step, Soft, Hard, Quit}
use Rattle.ppm_step.specs.declared.turn.Turn.{Turn}
use Rattle.ppm_paces.specs.Costs.{cost, due}
use Rattle.ppm_paces.specs.Paces.{made_behind}
use Rattle.ppm_paces.proofs.PaceLemmas.{one, most, made_few}
use Rattle.ppm_paces.proofs.RunLemmas.{turn_else}
use Rattle.ppm_tickets.specs.Along.{by_row, by_act, homes, forked as forked_in, taken as taken_in}
use Rattle.ppm_tickets.specs.Homes.{Home, Unborn}
use Rattle.ppm_tickets.specs.Lawful.{IsAlive, IsHome, Closed}
use Rattle.ppm_tickets.specs.Saw.{Sees}
use Rattle.ppm_tickets.specs.View as spots
use Rattle.ppm_tickets.specs.Words.{put}
use Rattle.ppm_tickets.proofs.EstateLemmas.{here}
use Rattle.ppm_tickets.proofs.WriteLemmas.{put_here, put_else}
use Rattle.ppm_frames.specs.Views.{view}
use Rattle.ppm_frames.specs.Seen.{arrays_at}
use Rattle.ppm_frames.specs.Good.{link_at}
use Rattle.ppm_frames.specs.Skeletons.{Skeleton}
use Rattle.ppm_kept.specs.Running.{IsFair, strands}
use Rattle.ppm_kept.specs.Fates.{Agrees}
use Rattle.ppm_kept.specs.Kept.{State}
use Rattle.ppm_kept.specs.Heirs.{handed, OpensAs, GoesOnAs}
use Rattle.ppm_kept.specs.HeirTurns.{and_followed, Heired}
use Rattle.ppm_kept.specs.Laws.{kind_then}
use Rattle.ppm_kept.specs.Left.{Followed, left, left_kinds, StepsAway}
use Rattle.ppm_kept.specs.Others.{IsIdle}
use Rattle.ppm_kept.specs.Places.{kinds_of, places_of}
use Rattle.ppm_kept.specs.Steps.{act_with}
use Rattle.ppm_kept.specs.Credit.{ended_by}
use Rattle.ppm_kept.proofs.CountLemmas.{counts_are_exact, heirs_count_none}
use Rattle.ppm_kept.proofs.CreditLemmas.{handed_owes}
use Rattle.ppm_kept.proofs.HeirLemmas.{not_idle}
use Rattle.ppm_kept.proofs.LeftLemmas.{kind_away}
use Rattle.ppm_kept.proofs.PayingLemmas.{credit_stays_left}
use Rattle.ppm_kept.proofs.PutLemmas.{put_here as set_here, put_else as set_else}
use Rattle.ppm_runs.specs.Run.{setting, fate_of}
use Rattle.ppm_runs.specs.Follow.{IsHalves, CarriesOn, LooksOnly}
use Rattle.ppm_runs.specs.Entries.{IsHeired}
use Rattle.ppm_runs.specs.Work.{undone_of, work_in, strikes_in, WorkIsBounded, WorkIsWithin256}
use Rattle.ppm_runs.proofs.AgainLemmas.{again, again_not, again_live, left_at, row_live}
use Rattle.ppm_runs.proofs.BoundLemmas.{live_stands, length_both, finish_still, undone_is, Stage, Pays, dues, agains, goes_on, alone_goes, made_all, work_of_stage, first_run, first_stage, first_tree}
use Rattle.ppm_runs.proofs.BrokenLemmas.{broken_stays}
use Rattle.ppm_runs.proofs.FollowLemmas.{heirs_lead}
use Rattle.ppm_runs.proofs.HalvesLemmas.{acts_so, steps_away, halves_go_on}
use Rattle.ppm_runs.proofs.HeirJoinLemmas.{heir_joint}
use Rattle.ppm_runs.proofs.HeiredLemmas.{looks_or, alone_of, inlined, heired_first}
use Rattle.ppm_runs.proofs.JoinLemmas.{joints_stay}
use Rattle.ppm_runs.proofs.LegWork.{none_of, work_over_legs}
use Rattle.ppm_runs.proofs.OrderlyLemmas.{how_or, halves_owe}
use Rattle.ppm_runs.proofs.StandLemmas.{kinds_same}
use Rattle.ppm_runs.proofs.SumLemmas.{sum_at, sum_le}
use Rattle.ppm_runs.proofs.WholeLemmas.{in_two}
use Rattle.ppm_runs.proofs.WorkLemmas.{kinds_then, free_at}

-- what has to be set aside for that with which an heir goes on was set aside for the closed place
opens_due : (r : ℕ) (link : LinkKind) (k : RestartKind) → OpensAs r link k → due k ≤ 10
opens_due r (Called g y) k e = let d = ap due e in omega (arith, d)
opens_due r (Forked g y) k e = let d = ap due e in omega (arith, d)
opens_due r Root k e = absurd e
opens_due r (Branch d q) k e = absurd e

heir_due : (z : State) (t : Skeleton) (v : ℕ) (closed next : RestartKind) → GoesOnAs z t v closed next → due next ≤ due closed + again ByEntries IsDone closed
heir_due z t v (Run f y) k g = let d = ap due g in omega (arith, d)
heir_due z t v (Bump r) k g = let d = opens_due r (link_at (z.words (BlockWord r))).kind k g in omega (arith, d)
heir_due z t v (Push1 r) k g = let d = ap due g in omega (arith, d)
heir_due z t v (Push2 r) k (inl g) = let d = ap due g in omega (arith, d)
heir_due z t v (Push2 r) k (inr g) = let d = ap due g.0 in omega (arith, d)
heir_due z t v (Unwind f) k g = let d = ap due g in omega (arith, d)
heir_due z t v (Arrive r d) k g = let e = ap due g in omega (arith, e)
heir_due z t v (Join r d) k g = let e = ap due g in omega (arith, e)
heir_due z t v _ k g = absurd g

-- a step that follows none, or one by which a place goes on with what it inherited
record Follows (x : Standing) : Type 0 where
  seat : Seat
  next : Then
  victim : ℕ
  slot : ℕ
  is : x ≡ IsWithin seat (Now next)
  check : seat.restart.kind ≡ Check victim slot
  on : CarriesOn next

step_or : (v : ℕ) (x : Standing) → LooksOnly (Step v) x ⊎ Follows x
step_or v (IsWithin seat row) = elim (looks_or seat.restart.kind row) [
  | inl looks ↦ inl looks
  | inr goes ↦ inr (record { seat = seat; next = goes.2; victim = goes.0; slot = goes.1; is = ap (IsWithin seat) goes.4; check = goes.3; on = goes.5 })
]
step_or v IsLost = inl tt
step_or v (IsPlaced p) = inl tt
step_or v (IsAt p re) = inl tt
step_or v (IsRunning seat rest) = inl tt
step_or v (IsBroken p) = inl tt
step_or v IsDone = inl tt

module _ (s : Shape) (code : CodeParts) (ih : s.takeover ≡ ByEntries) (fair : IsFair code) (root : Tree (Frame FrameWord Point) Result) (input : Words) where
  -- the processor of a place that was followed is done
  done_of : (state : RunState) (h : ℕ → Home) (forked taken : List ℕ) (l : List Followed) (t : Skeleton) (run : IsHalves s code root input state h forked taken l t) (q : ℕ) → run.lawful.1.board.gone q ≡ true → stand_of state q ≡ IsDone
  done_of state h forked taken l t run q gone = by (stand_of state q) (run.lawful.1.sees q)
    where
      none : IsAlive (spots.view s state.words) q → ⊥
      none alive = true≢false (sym gone ∙ here run.lawful.1.board q (λ shut. alive (subst (λ (how : Takeover). Closed how (spots.view s state.words) q) ih shut)))

      by : (x : Standing) → Sees s (spots.view s state.words) (spots.kinds s state.words) (spots.bottoms s state.words) q x → x ≡ IsDone
      by IsLost sees = absurd (none sees.alive)
      by (IsPlaced p) sees = absurd (none sees.lives.alive)
      by (IsAt p re) sees = absurd (none sees.0.lives.alive)
      by (IsWithin seat row) sees = absurd (none sees.0.carried.lives.alive)
      by (IsRunning seat rest) sees = absurd (none sees.0.carried.lives.alive)
      by (IsBroken p) sees = absurd (none sees.alive)
      by IsDone sees = refl

  module _ (end : End Result) (ends : EndsSo (strands s code) root input end) where
    -- a moment of the run
    record Moment (state : RunState) (h : ℕ → Home) (forked taken : List ℕ) (work strikes : ℕ) (made : ℕ → ℕ) : Type 0 where
      l : List Followed
      t : Skeleton
      run : IsHeired s code root input state h forked taken l t
      stage : Stage s code fair root input end ends 0 state h forked taken l t run.halves run.joint.agrees work strikes made

    module _ (state : RunState) (h : ℕ → Home) (forked taken : List ℕ) (work strikes : ℕ) (made : ℕ → ℕ) (now : Moment state h forked taken work strikes made) where
      abbrev l : List Followed
      l = now.l

      abbrev t : Skeleton
      t = now.t

      abbrev run : IsHeired s code root input state h forked taken l t
      run = now.run

      abbrev K : ℕ → RestartKind
      K = spots.kinds s state.words

      abbrev L : ℕ → RestartKind
      L = left_kinds l K

      -- what holds after a turn
      abbrev Then_ : (c : ℕ) → Act → Type 0
      Then_ c act = Moment (happens s code state (record { processor = c; act = act })) (by_act s state.words act (stand_of state c) h)
          (forks_of state (record { processor = c; act = act }) ++ forked) (takes_of state (record { processor = c; act = act }) ++ taken)
          (work + length (work_of state (record { processor = c; act = act }))) (strikes + length (undone_of s state (record { processor = c; act = act })))
          (λ d. made_behind s code d (made d) state (record { processor = c; act = act }))

      abbrev Stays : (c : ℕ) → Act → Type 0
      Stays c act = finish_at s state ≢ 0 → finish_at s (happens s code state (record { processor = c; act = act })) ≢ 0

      -- one that follows none
      others_go : (c : ℕ) (act : Act) → IsTurnAmong s.processors (record { processor = c; act = act }) → Stays c act → LooksOnly act (stand_of state c) → Then_ c act
      others_go c act among stays looks =
          let turn : Turn = record { processor = c; act = act } in
          let i = setting s code in
          let orderly = (halves_owe s code fair root input state h forked taken l t run.halves run.joint.agrees (λ d seat re e. inlined s code ih fair root input state h forked taken l t run d seat re e)).orderly turn among in
          let next = halves_go_on s code ih fair root input state h forked taken l t run.halves run.joint.agrees run.broken turn among.processor orderly looks in
          let so = acts_so s code ih fair root input state h forked taken l t run.halves run.joint.agrees run.broken c act among.processor in
          let away = steps_away s code ih fair root input state h forked taken l t run.halves run.joint.agrees run.broken c act looks in
          let counted = counts_are_exact i fair root input state l run.halves.apart t run.halves.kept turn so away in
          let halves : IsHalves s code root input (happens s code state turn) (by_act s state.words act (stand_of state c) h) (forks_of state turn ++ forked) (takes_of state turn ++ taken) l
          (act_with i (left i l (places_of s state)).words state.words act (stand_of state c) t) = record { lawful = next.lawful; apart = next.apart; gone = next.gone; kept = counted.0; born = next.born } in
          let joint = joints_stay s code fair root input state h forked taken l t run.halves run.joint turn among (alone_of s.takeover act (stand_of state c) looks) halves in
          let few = counted.1 in
          record {
            l = l;
            t = act_with i (left i l (places_of s state)).words state.words act (stand_of state c) t;
            run = record { halves = halves; joint = joint; broken = broken_stays s code state h forked taken run.halves.lawful run.broken turn };
            stage = alone_goes s code fair root input end ends 0 state h forked taken l t run.halves run.joint.agrees work strikes made now.stage c act among stays
                (act_with i (left i l (places_of s state)).words state.words act (stand_of state c) t) halves joint.agrees (omega (arith, few))
                (credit_stays_left i fair root input state l t run.halves.kept turn so away)
                (λ v is. free_at s code fair root input state h forked taken l t run.halves run.joint.agrees c (stand_of state c) refl (subst (λ (a : Act). StepsAway i l a (stand_of state c)) is away).1);
          }

      -- one by which a place goes on with what it inherited
      module _ (c victim : ℕ) (among : IsTurnAmong s.processors (record { processor = c; act = Step victim })) (stays : Stays c (Step victim)) (follows : Follows (stand_of state c)) where
        abbrev seat : Seat
        seat = follows.seat

        abbrev next : Then
        next = follows.next

        abbrev turn : Turn
        turn = record { processor = c; act = Step victim }

        abbrev n : RunState
        n = happens s code state turn

        abbrev x : Standing
        x = stand_of state c

        abbrev p : ℕ
        p = seat.place

        lead : (w : ℕ)
            × Agrees (handed w p t) (λ r. fate_of (by_row s state.words seat (Now next) h r))
            × IsHalves s code root input n (by_row s state.words seat (Now next) h) (fork_row (Now next) ++ forked) (take_row (Now next) ++ taken) (and_followed (setting s code) l (places_of s state) w) (handed w p t)
            × Heired (setting s code) state l t c seat next w
        lead = heirs_lead s code ih fair root input state h forked taken l t run.halves run.joint.agrees c victim seat next follows.victim follows.slot follows.is follows.check follows.on run.joint.opens

        abbrev w : ℕ
        w = lead.0

        heir : Heired (setting s code) state l t c seat next w
        heir = lead.3

        abbrev l' : List Followed
        l' = and_followed (setting s code) l (places_of s state) w

        abbrev t' : Skeleton
        t' = handed w p t

        -- the next state, by where the processor stood
        record Led (z : Standing) : Type 0 where
          run_ : IsHeired s code root input n (by_act s state.words (Step victim) z h) (step_by (row_by fork_row) (Step victim) z ++ forked) (step_by (row_by take_row) (Step victim) z ++ taken) l' t'
          counted : run_.halves.kept.ahead.0.capsules ≡ run.halves.kept.ahead.0.capsules

        led : Led x
        led = subst Led (sym follows.is) (
            let counts = heirs_count_none (setting s code) fair root input state l run.halves.apart t run.halves.kept c victim seat next w follows.is heir in
            let halves : IsHalves s code root input n (by_act s state.words (Step victim) (IsWithin seat (Now next)) h) (fork_row (Now next) ++ forked) (take_row (Now next) ++ taken) l' t' =
            record { lawful = lead.2.lawful; apart = lead.2.apart; gone = lead.2.gone; kept = counts.0; born = lead.2.born } in
            record {
              run_ = record {
                halves = halves;
                joint = heir_joint s code ih fair root input state h forked taken l t run.halves run.joint c victim seat next follows.victim follows.slot follows.is follows.check follows.on w lead.1 halves;
                broken = broken_stays s code state h forked taken run.halves.lawful run.broken turn;
              };
              counted = counts.1;
            })

        abbrev after_ : IsHalves s code root input n (by_act s state.words (Step victim) x h) (forks_of state turn ++ forked) (takes_of state turn ++ taken) l' t'
        after_ = led.run_.halves

        -- what places are at
        abbrev K' : ℕ → RestartKind
        K' = spots.kinds s n.words

        kinds_next : (next : Then) → CarriesOn next → then_is_there s seat next ≡ true → spots.kinds s (acts s code state c (Step victim) (IsWithin seat (Now next))).words ≡ put K p (kind_then next)
        kinds_next (Install re) on there = kinds_then s code fair root input state h forked taken l t run.halves run.joint.agrees p re heir.holds.place there
        kinds_next (Fork r) on there = kinds_then s code fair root input state h forked taken l t run.halves run.joint.agrees p (forked_restart seat r) heir.holds.place there
        kinds_next _ on there = absurd on

        put_kinds : K' ≡ put K p (kind_then next)
        put_kinds = ap (λ (z : Standing). spots.kinds s (acts s code state c (Step victim) z).words) follows.is ∙ kinds_next next follows.on heir.there

        apart : p ≢ w
        apart e = not_idle (left (setting s code) l (places_of s state)) t w (kinds_of s state.words w) (kind_then next) (subst IsIdle (sym (ap (kinds_of s state.words) (sym e) ∙ heir.kind)) heir.idle) heir.goes

        -- the sums
        here_kind : left_kinds l K' p ≡ kind_then next
        here_kind = kind_away l K' p heir.away ∙ ap (λ (f : ℕ → RestartKind). f p) put_kinds ∙ put_here K p (kind_then next)

        else_kind : (q : ℕ) → q ≢ p → left_kinds l K' q ≡ L q
        else_kind q ne = left_at l K K' q (ap (λ (f : ℕ → RestartKind). f q) put_kinds ∙ put_else K p (kind_then next) q ne)

        left_kind : (q : ℕ) → q ≢ w → left_kinds l' K' q ≡ left_kinds l K' q
        left_kind q ne = set_else (left_kinds l K') w Seek q ne

        out_kind : left_kinds l' K' w ≡ Seek
        out_kind = set_here (left_kinds l K') w Seek

        was_kind : L w ≡ kinds_of s state.words w
        was_kind = kind_away l K w heir.still ∙ sym (kinds_same s state.words w)

        check_kind : L p ≡ Check follows.victim follows.slot
        check_kind = kind_away l K p heir.away ∙ sym (kinds_same s state.words p) ∙ heir.kind ∙ follows.check

        dues_then : dues s code fair root input end ends l' n.words + due (kinds_of s state.words w) ≡ dues s code fair root input end ends l state.words + due (kind_then next)
        dues_then =
            let a = sum_at s.processors (λ q. due (L q)) (λ q. due (left_kinds l K' q)) p heir.holds.place (λ q ne. ap due (else_kind q ne)) in
            let b = sum_at s.processors (λ q. due (left_kinds l K' q)) (λ q. due (left_kinds l' K' q)) w heir.place (λ q ne. ap due (left_kind q ne)) in
            let a0 = ap due here_kind in let a1 = ap due check_kind in
            let b0 = ap due out_kind in let b1 = ap due (else_kind w (λ e. apart (sym e)) ∙ was_kind) in
            omega (arith, a, b, a0, a1, b0, b1)

        live_here : is_done_at (stand_of n c) ≡ false
        live_here = ap (λ (z : Standing). is_done_at (stand_of (acts s code state c (Step victim) z) c)) follows.is
            ∙ ap is_done_at (live_stands s code state c (Step victim) (IsWithin seat (Now next)) follows.is refl)
            ∙ row_live s code seat victim (found_in state.words (want_of s code c (Step victim) (IsWithin seat (Now next)))) (Now next)

        done_then : stand_of n w ≡ IsDone
        done_then = done_of n (by_act s state.words (Step victim) x h) (forks_of state turn ++ forked) (takes_of state turn ++ taken) l' t' after_ w after_.gone.0

        other : w ≢ c
        other e = true≢false (sym (ap is_done_at (ap (stand_of n) (sym e) ∙ done_then)) ∙ live_here)

        done_now : stand_of state w ≡ IsDone
        done_now = sym (turn_else s code fair.code_is state turn w other) ∙ done_then

        again_now : again s.takeover (stand_of state w) (L w) ≡ again ByEntries IsDone (kinds_of s state.words w)
        again_now = ap (λ (how : Takeover). again how (stand_of state w) (L w)) ih ∙ ap (λ (z : Standing). again ByEntries z (L w)) done_now ∙ ap (again ByEntries IsDone) was_kind

        abbrev f : ℕ → ℕ
        f q = again s.takeover (stand_of state q) (L q)

        agains_then : agains s code fair root input end ends l' n + again ByEntries IsDone (kinds_of s state.words w) ≤ agains s code fair root input end ends l state
        agains_then =
            let a = sum_at s.processors f (put f w 0) w heir.place (λ q ne. put_else f w 0 q ne) in
            let a0 = put_here f w 0 in
            let b = sum_le s.processors (λ q. again s.takeover (stand_of n q) (left_kinds l' K' q)) (put f w 0) (λ q lt. each q) in
            let c0 = again_now in
            omega (arith, a, a0, b, c0)
          where
            each : (q : ℕ) → again s.takeover (stand_of n q) (left_kinds l' K' q) ≤ put f w 0 q
            each q = elim (cases_eq q w) [
              | inl e ↦ let none = ap (λ (y : ℕ). again s.takeover (stand_of n q) (left_kinds l' K' y)) e ∙ ap (again s.takeover (stand_of n q)) out_kind ∙ again_not s.takeover (stand_of n q) Seek (λ r z. cc) in omega (arith, none)
              | inr ne ↦ elim (cases_eq q c) [
                | inl e ↦ let none = again_live s.takeover (stand_of n q) (left_kinds l' K' q) (ap (λ (y : ℕ). is_done_at (stand_of n y)) e ∙ live_here) in omega (arith, none)
                | inr out ↦
                    let same : again s.takeover (stand_of n q) (left_kinds l' K' q) ≡ f q = ap (λ (z : Standing). again s.takeover z (left_kinds l' K' q)) (turn_else s code fair.code_is state turn q out)
                    ∙ ap (again s.takeover (stand_of state q)) (left_kind q ne ∙ else_kind q (λ e. out (e ∙ home))) in
                    let is = put_else f w 0 q ne in
                    omega (arith, same, is)
              ]
            ]
              where
                sees : Sees s (spots.view s state.words) K (spots.bottoms s state.words) c (IsWithin seat (Now next))
                sees = subst (Sees s (spots.view s state.words) K (spots.bottoms s state.words) c) follows.is (run.halves.lawful.1.sees c)

                home : p ≡ c
                home = subst (λ (how : Takeover). IsHome how c p) ih sees.0.carried.home

        pays : Pays s code fair root input end ends 0 state h forked taken l t run.halves run.joint.agrees work strikes made now.stage c (Step victim) among stays l' t' after_ led.run_.joint.agrees
        pays =
            let ended : ended_by x ≡ 0 = ap ended_by follows.is in
            let counted = led.counted in
            record {
              counted = omega (arith, ended, counted);
              pays = λ then_.
                  let look : one (is_work_turn (Step victim) x) ≡ 0 = ap (λ (z : Standing). one (is_work_turn (Step victim) z)) follows.is ∙ ap (λ (k : RestartKind). one (is_work_next (step_of k))) follows.check in
                  let few = (made_few s code fair.code_is c (made c) x (now.stage.paces c)).0 in
                  let none : most (made c) x ≡ 0 = ap (most (made c)) follows.is ∙ ap cost follows.check in
                  let a = dues_then in let b = agains_then in let o = handed_owes w p t in
                  let d = heir_due (left (setting s code) l (places_of s state)) t w (kinds_of s state.words w) (kind_then next) heir.goes in
                  omega (arith, look, few, none, a, b, o, d);
              owes = λ places. let two : ByPlaces ≡ ByEntries = sym places ∙ ih in cc;
            }

        heirs_go : Then_ c (Step victim)
        heirs_go = record {
          l = l';
          t = t';
          run = led.run_;
          stage = goes_on s code fair root input end ends 0 state h forked taken l t run.halves run.joint.agrees work strikes made now.stage c (Step victim) among stays l' t' after_ led.run_.joint.agrees pays;
        }

      turn_goes : (c : ℕ) (act : Act) → IsTurnAmong s.processors (record { processor = c; act = act }) → Stays c act → Then_ c act
      turn_goes c (Step v) among stays = elim (step_or v (stand_of state c)) [
        | inl looks ↦ others_go c (Step v) among stays looks
        | inr follows ↦ heirs_go c v among stays follows
      ]
      turn_goes c Soft among stays = others_go c Soft among stays tt
      turn_goes c Hard among stays = others_go c Hard among stays tt
      turn_goes c (Quit why) among stays = others_go c (Quit why) among stays tt

    -- all turns
    all_go : (words : List ℕ) (first more : List Turn) (state : RunState) → state ≡ reached s code words first → (h : ℕ → Home) (forked taken : List ℕ) (work strikes : ℕ) (made : ℕ → ℕ)
        → AllByRecursion (IsTurnAmong s.processors) more → Moment state h forked taken work strikes made
        → Moment (after s code state more) (homes s code state h more) (forked_in s code state forked more) (taken_in s code state taken more)
        (work + length (along s code work_of state more)) (strikes + length (along s code (undone_of s) state more)) (made_all s code fair root input end ends made state more)
    all_go words first [] state is h forked taken work strikes made all now =
        let w : work ≡ work + 0 = omega arith in
        let z : strikes ≡ strikes + 0 = omega arith in
        subst₂ (λ (a b : ℕ). Moment state h forked taken a b made) w z now
    all_go words first (turn ∷ more) state is h forked taken work strikes made all now =
        let on : happens s code state turn ≡ reached s code words (first ++ turn ∷ []) = ap (λ (z : RunState). happens s code z turn) is ∙ sym (in_two s code (opening words s.processors) first (turn ∷ [])) in
        let rest = all_go words (first ++ turn ∷ []) more (happens s code state turn) on
        (by_act s state.words turn.act (stand_of state turn.processor) h) (forks_of state turn ++ forked) (takes_of state turn ++ taken)
        (work + length (work_of state turn)) (strikes + length (undone_of s state turn)) (λ d. made_behind s code d (made d) state turn) all.1
        (turn_goes state h forked taken work strikes made now turn.processor turn.act all.0 (finish_still s code fair words first state is turn)) in
        let a = length_both (work_of state turn) (along s code work_of (happens s code state turn) more) in
        let b = length_both (undone_of s state turn) (along s code (undone_of s) (happens s code state turn) more) in
        let w : work + length (work_of state turn) + length (along s code work_of (happens s code state turn) more) ≡ work + length (along s code work_of state (turn ∷ more)) = omega (arith, a) in
        let z : strikes + length (undone_of s state turn) + length (along s code (undone_of s) (happens s code state turn) more) ≡ strikes + length (along s code (undone_of s) state (turn ∷ more)) = omega (arith, b) in
        subst₂ (λ (x y : ℕ). Moment (after s code state (turn ∷ more)) (homes s code state h (turn ∷ more)) (forked_in s code state forked (turn ∷ more)) (taken_in s code state taken (turn ∷ more)) x y (made_all s code fair root input end ends made state (turn ∷ more))) w z rest

-- with either takeover: by places a run that no words come back in has no legs
pub work_is_bounded : WorkIsBounded
unfolding heired_first
work_is_bounded code input s keeper im fair opens calm turns all end ends = elim (how_or s.takeover) [
  | inl places ↦
      let state = opening im.words s.processors in
      let le : 0 + work_in s code state turns ≤ 218 * end.counts.capsules + 171 * (0 + strikes_in s code state turns) + 172 * (s.processors * 0) + 6 =
      work_over_legs code input s keeper im places fair opens calm [] tt turns all end ends in
      let none = none_of s.processors in
      let same = ap (λ (told : RunState → Turn → List ℕ). length (along s code told (opening im.words s.processors) turns)) (undone_is s places) in
      omega (arith, le, none, same)
  | inr ih ↦
      let root = root_strand code input in
      let arrays = arrays_at (view s im.words) in
      let state = opening im.words s.processors in
      let first = first_tree code input s keeper im fair opens calm end ends in
      let run = heired_first code input s keeper im opens calm in
      let stage = first_stage code input s keeper im fair opens calm end ends (first_run code input s keeper im fair opens calm end ends) in
      let last = all_go s code ih fair root arrays end ends im.words [] turns state refl (λ r. Unborn) [] [] 0 0 (λ c. 0) all (record { l = []; t = first; run = run; stage = stage }) in
      let le = work_of_stage s code fair root arrays end ends 0 (after s code state turns) (homes s code state (λ r. Unborn) turns) (forked_in s code state [] turns) (taken_in s code state [] turns)
      last.l last.t last.run.halves last.run.joint.agrees (0 + length (along s code work_of state turns)) (0 + length (along s code (undone_of s) state turns)) (made_all s code fair root arrays end ends (λ c. 0) state turns) last.stage in
      omega (arith, le)
]

pub work_is_within_256 : WorkIsWithin256
work_is_within_256 code input s keeper im fair opens calm turns all end ends =
    let le = work_is_bounded code input s keeper im fair opens calm turns all end ends in
    let some = strands_are_counted (strands s code) (root_strand code input) (arrays_at (view s im.words)) end ends in
    omega (arith, le, some)
