-- As many forks are counted as the blocks that were forked and those that are to be: after each turn, with
-- either takeover.
use Rattle.std.proofs.Common.{◌≡◌, ◌≢◌, ◌⊎◌, ℕ, ◌+◌, true, false, List, [], ◌∷◌, ◌++◌, length, inl, inr, refl, sym, ap, ◌∙◌, subst, arith, Some}
use Rattle.std.proofs.lemmas.Bool.{cases_Bool}
use Rattle.std.specs.List.{AllByRecursion}
use Rattle.ppm_strands.specs.Tree.{Words, Tree}
use Rattle.ppm_strands.specs.Run.{Counts, none, End, Ends as EndsSo}
use Rattle.ppm_strands.specs.Calm.{Calm}
use Rattle.ppm_strands.proofs.PartsLemmas.{ends_by_parts}
use Rattle.ppm_words.specs.declared.named_array.NamedArray.{NamedArray}
use Rattle.ppm_cells.specs.Cells.{pool_at}
use Rattle.ppm_cells.specs.Finish.{finish_of, IsOutcome}
use Rattle.ppm_cells.specs.Memory.{read}
use Rattle.ppm_cells.specs.declared.cell.Cell.TheVariants.{FinishWord, BlockWord}
use Rattle.ppm_cells.specs.declared.finish.Finish.{Finish}
use Rattle.ppm_cells.specs.declared.shape.Shape.{Shape}
use Rattle.ppm_cells.specs.declared.shape.Takeover.{Takeover}
use Rattle.ppm_cells.specs.declared.shape.Takeover.TheVariants.{ByPlaces, ByEntries}
use Rattle.ppm_strands.specs.Strand.{Frame}
use Rattle.ppm_code.specs.Sizes.{slots_of}
use Rattle.ppm_code.specs.Strands.{Point, Result}
use Rattle.ppm_code.specs.declared.code.CodeParts.{CodeParts}
use Rattle.ppm_code.specs.declared.location.FrameWord.{FrameWord}
use Rattle.ppm_layout.specs.Correct.{Opens}
use Rattle.ppm_layout.specs.Root.{root_strand}
use Rattle.ppm_layout.specs.declared.images.Image.{Image}
use Rattle.ppm_step.specs.Among.{IsTurnAmong}
use Rattle.ppm_step.specs.Standings.{Standing, IsLost, IsPlaced, IsAt, IsWithin, IsRunning, IsBroken, IsDone}
use Rattle.ppm_step.specs.State.{State as RunState, stand_of, happens, after, opening, forks_of, takes_of, step_by, row_by, fork_row, take_row}
use Rattle.ppm_step.specs.declared.row.Row.{Row}
use Rattle.ppm_step.specs.declared.row.Row.TheVariants.{Now}
use Rattle.ppm_step.specs.declared.row.Seat.{Seat}
use Rattle.ppm_step.specs.declared.row.Then.TheVariants.{Fork}
use Rattle.ppm_step.specs.declared.turn.Act.{Act}
use Rattle.ppm_step.specs.declared.turn.Act.TheVariants.{Step, Soft, Hard, Quit}
use Rattle.ppm_step.specs.declared.turn.Turn.{Turn}
use Rattle.ppm_tickets.specs.Along.{by_row, by_act, homes, forked as forked_in, taken as taken_in}
use Rattle.ppm_tickets.specs.Homes.{Home, Unborn, Pushing}
use Rattle.ppm_tickets.specs.Lawful.{Counts as Tallied}
use Rattle.ppm_tickets.specs.Words.{put, has}
use Rattle.ppm_tickets.proofs.CountLemmas.{has_here, has_more, has_or}
use Rattle.ppm_tickets.proofs.Theorem.{lost_or}
use Rattle.ppm_tickets.proofs.WriteLemmas.{put_here}
use Rattle.ppm_frames.specs.Views.{view}
use Rattle.ppm_frames.specs.Seen.{arrays_at}
use Rattle.ppm_frames.specs.Skeletons.{Begins, Over, InPlace, Fresh, Held, Skeleton, Leaf, result_at, tree_of}
use Rattle.ppm_kept.specs.Running.{IsFair, strands}
use Rattle.ppm_kept.specs.Kept.{State, IsKept}
use Rattle.ppm_kept.specs.Counting.{opened_by}
use Rattle.ppm_kept.specs.Credit.{by_step}
use Rattle.ppm_kept.specs.Fates.{Agrees, ToPush}
use Rattle.ppm_kept.specs.Fates as fates
use Rattle.ppm_kept.specs.Heirs.{handed}
use Rattle.ppm_kept.specs.HeirTurns.{and_followed}
use Rattle.ppm_kept.specs.Left.{Followed, left}
use Rattle.ppm_kept.specs.Places.{places_of}
use Rattle.ppm_kept.specs.Steps.{act_with}
use Rattle.ppm_kept.specs.Unruns.{HasUnrun}
use Rattle.ppm_kept.proofs.AnswerLemmas.{left_ends_as_meant}
use Rattle.ppm_kept.proofs.BeginLemmas.{machines_open}
use Rattle.ppm_kept.proofs.CountLemmas.{recount, exactly, exactly_is, exactly_says, counts_are_exact, heirs_count_none}
use Rattle.ppm_kept.proofs.StepRows.{act_away}
use Rattle.ppm_kept.proofs.UnrunUntaken.{handed_same}
use Rattle.ppm_runs.specs.Run.{setting, fate_of, IsRun}
use Rattle.ppm_runs.specs.Follow.{IsHalves, LooksOnly}
use Rattle.ppm_runs.specs.Joint.{IsCapped, AreJoint, StepsAlone}
use Rattle.ppm_runs.specs.Entries.{IsHeired, RunsForkSo}
use Rattle.ppm_runs.proofs.AgreeLemmas.{AgreeOn, agree_on, home_or}
use Rattle.ppm_runs.proofs.BearingLemmas.{births_follow}
use Rattle.ppm_runs.proofs.BrokenLemmas.{broken_stays}
use Rattle.ppm_runs.proofs.CountedLemmas.{AreCounted, counted_on, counted_more, counted_all}
use Rattle.ppm_runs.proofs.FollowLemmas.{heirs_lead}
use Rattle.ppm_runs.proofs.GoingLemmas.{turns_go_on}
use Rattle.ppm_runs.proofs.GoingLemmas as places_so
use Rattle.ppm_runs.proofs.HalvesLemmas.{halves_go_on, steps_away}
use Rattle.ppm_runs.proofs.HalvesLemmas as entries_so
use Rattle.ppm_runs.proofs.HeirJoinLemmas.{heir_joint}
use Rattle.ppm_runs.proofs.HeiredLemmas.{Inherits, looks_or, alone_of, inlined, not_within}
use Rattle.ppm_runs.proofs.JoinLemmas.{joints_stay, joint_of, alone_by, turns_open}
use Rattle.ppm_runs.proofs.OpenLemmas.{runs_open}
use Rattle.ppm_runs.proofs.OrderlyLemmas.{halves_owe, how_or}
use Rattle.ppm_runs.proofs.ShownLemmas.{halves}

pub has_both : (r : ℕ) (l f : List ℕ) → has f r ≡ true → has (l ++ f) r ≡ true
has_both r [] f e = e
has_both r (x ∷ l) f e = has_more x r (l ++ f) (has_both r l f e)

pub has_either : (r : ℕ) (l f : List ℕ) → has (l ++ f) r ≡ true → (has l r ≡ true) ⊎ (has f r ≡ true)
has_either r [] f e = inr e
has_either r (x ∷ l) f e = elim (has_or x r (l ++ f) e) [
  | inl is ↦ inl (has_here_at x r l is)
  | inr more ↦ elim (has_either r l f more) [ inl own ↦ inl (has_more x r l own) | inr old ↦ inr old ]
]
  where
    has_here_at : (x r : ℕ) (l : List ℕ) → r ≡ x → has (x ∷ l) r ≡ true
    has_here_at x r l e = subst (λ (y : ℕ). has (x ∷ l) y ≡ true) (sym e) (has_here x l)

-- a block that a turn forks is to be pushed
forked_row : (s : Shape) (words : List ℕ) (seat : Seat) (row : Row) (h : ℕ → Home) (r : ℕ) → has (fork_row row) r ≡ true → fate_of (by_row s words seat row h r) ≡ ToPush
forked_row s words seat (Now (Fork x)) h r e = elim (has_or x r [] e) [
  | inl is ↦ ap (λ (y : ℕ). fate_of (put h x (Pushing seat.place) y)) is ∙ ap fate_of (put_here h x (Pushing seat.place))
  | inr none ↦ absurd (let two : false ≡ true = none in cc)
]
forked_row s words seat _ h r e = absurd (let two : false ≡ true = e in cc)

forked_so : (s : Shape) (words : List ℕ) (act : Act) (x : Standing) (h : ℕ → Home) (r : ℕ) → has (step_by (row_by fork_row) act x) r ≡ true → fate_of (by_act s words act x h r) ≡ ToPush
forked_so s words (Step v) (IsWithin seat row) h r e = forked_row s words seat row h r e
forked_so s words _ _ h r e = absurd (let two : false ≡ true = e in cc)

-- a block that a turn forks has its right branch in the tree, which nobody has pushed
module _ (f l tk : List ℕ) (h y : ℕ → Home) (t u : Skeleton) (old : Tallied h f tk) (agrees : Agrees t (λ r. fate_of (h r))) (then_agrees : Agrees u (λ r. fate_of (y r)))
    (told : (r : ℕ) → has l r ≡ true → fate_of (y r) ≡ ToPush) (fresh : (r : ℕ) → y r ≢ Unborn → HasUnrun Fresh r u → HasUnrun Fresh r t)
    (held : (r : ℕ) → h r ≡ Unborn → HasUnrun Held r u → HasUnrun Held r t) where
  not_held : (r : ℕ) → h r ≡ Unborn → HasUnrun Held r t → ⊥
  not_held r unborn is = elim (agrees.held r is) [
    | inl e ↦ let two : fates.Unborn ≡ ToPush = sym (ap fate_of unborn) ∙ e in cc
    | inr e ↦ let two : fates.Unborn ≡ fates.Inline = sym (ap fate_of unborn) ∙ e in cc
  ]

  newly : (r : ℕ) → has (l ++ f) r ≡ true → (has f r ≡ true) ⊎ HasUnrun Fresh r t
  newly r e = elim (has_either r l f e) [
    | inr was ↦ inl was
    | inl own ↦ elim (home_or (h r)) [
      | inr ne ↦ inl (old.listed r ne)
      | inl unborn ↦ elim (then_agrees.to_push r (told r own)) [
        | inl is ↦ inr (fresh r (λ none. let two : fates.Unborn ≡ ToPush = sym (ap fate_of none) ∙ told r own in cc) is)
        | inr is ↦ absurd (not_held r unborn (held r unborn is))
      ]
    ]
  ]

-- both halves, with what is kept said otherwise
abbrev with_kept : {s : Shape} {code : CodeParts} {root : Tree (Frame FrameWord Point) Result} {input : Words} {state : RunState} {h : ℕ → Home} {f tk : List ℕ} {l : List Followed} {t : Skeleton}
    → IsHalves s code root input state h f tk l t → IsKept (setting s code) root input (left (setting s code) l (places_of s state)) t → IsHalves s code root input state h f tk l t
with_kept a kept = record { lawful = a.lawful; apart = a.apart; gone = a.gone; kept = kept; born = a.born }

-- a run's state, whose forks are counted
pub record IsForked (s : Shape) (code : CodeParts) (root : Tree (Frame FrameWord Point) Result) (input : Words) (state : RunState) (h : ℕ → Home) (forked taken : List ℕ) (l : List Followed) (t : Skeleton) : Type 0 where
  pub run : IsHeired s code root input state h forked taken l t
  pub counted : AreCounted forked t run.halves.kept.ahead.0

-- a turn by which no place goes on with what it inherited
module _ (s : Shape) (code : CodeParts) (fair : IsFair code) (root : Tree (Frame FrameWord Point) Result) (input : Words) (state : RunState) (h : ℕ → Home) (forked taken : List ℕ) (l : List Followed) (t : Skeleton)
    (run : IsHalves s code root input state h forked taken l t) (joint : AreJoint s code state h l t) (turn : Turn) (alone : StepsAlone s.takeover turn.act (stand_of state turn.processor)) where
  abbrev z : State
  z = left (setting s code) l (places_of s state)

  abbrev u : Skeleton
  u = act_with (setting s code) z.words state.words turn.act (stand_of state turn.processor) t

  abbrev g : ℕ → Home
  g = by_act s state.words turn.act (stand_of state turn.processor) h

  abbrev made : List ℕ
  made = forks_of state turn ++ forked

  new_made : AgreeOn s code fair root input state h forked taken l t run joint u g → (r : ℕ) → has made r ≡ true → (has forked r ≡ true) ⊎ HasUnrun Fresh r t
  new_made a = newly forked (forks_of state turn) taken h g t u run.lawful.1.counts joint.agrees a.agrees (forked_so s state.words turn.act (stand_of state turn.processor) h)
      (λ r ne is. elim (a.fresh r is) [ inl was ↦ was | inr new ↦ absurd (ne new.0) ])
      (λ r unborn is. elim (a.held r is) [ inl was ↦ was | inr new ↦ absurd (let two : Unborn ≡ Pushing new.0 = sym unborn ∙ new.1 in cc) ])

  more_made : (r : ℕ) → has forked r ≡ true → has made r ≡ true
  more_made r e = has_both r (forks_of state turn) forked e

  unforked : (r : ℕ) → h r ≡ Unborn → has forked r ≡ false
  unforked r e = elim (cases_Bool (has forked r)) [ inr out ↦ out | inl is ↦ absurd (run.lawful.1.counts.born r is e) ]

  counted_then : (after : IsHalves s code root input (happens s code state turn) g made (takes_of state turn ++ taken) l u)
      → after.kept.ahead.0.forks ≡ run.kept.ahead.0.forks + by_step (opened_by z.words) turn.act (stand_of state turn.processor)
      → AreCounted forked t run.kept.ahead.0 → AreCounted made u after.kept.ahead.0
  counted_then after count c = elim (turns_open s code fair root input state h forked taken l t run joint turn alone after) [
    | inl none ↦
        let a = none.0 in
        counted_on forked made t u run.kept.ahead.0 after.kept.ahead.0 c more_made (new_made (agree_on s code fair root input state h forked taken l t run joint u g a)) (let e = none.1 in omega (arith, count, e))
        (λ r is. elim (a.fresh r is) [ inl was ↦ was | inr new ↦ absurd new.1 ])
        (λ r is. elim (home_or (h r)) [ inl unborn ↦ inr (a.stays r unborn is) | inr ne ↦ inl (more_made r (run.lawful.1.counts.listed r ne)) ])
    | inr one ↦
        counted_more forked made t u run.kept.ahead.0 after.kept.ahead.0 c more_made (new_made one.3) (let e = one.4 in omega (arith, count, e)) one.0 (unforked one.0 one.1) one.2
  ]

-- with takeover by places
module _ (s : Shape) (code : CodeParts) (places : s.takeover ≡ ByPlaces) (fair : IsFair code) (root : Tree (Frame FrameWord Point) Result) (input : Words) where
  module _ (state : RunState) (h : ℕ → Home) (forked taken : List ℕ) (t : Skeleton) (now : IsForked s code root input state h forked taken [] t) where
    abbrev pub as_run : IsRun s code root input state h forked taken t
    as_run = record {
      lawful = now.run.halves.lawful;
      kept = now.run.halves.kept;
      agrees = now.run.joint.agrees;
      last = λ r p held home. subst (λ (how : Takeover). IsCapped how s state.words p) places (now.run.joint.last r p held home);
      ready = now.run.joint.ready;
      broken = now.run.broken;
      born = now.run.halves.born;
    }

    module _ (turn : Turn) (among : IsTurnAmong s.processors turn) where
      abbrev tree_then : Skeleton
      tree_then = act_with (setting s code) (places_of s state).words state.words turn.act (stand_of state turn.processor) t

      abbrev Halves : Type 0
      Halves = IsHalves s code root input (happens s code state turn) (by_act s state.words turn.act (stand_of state turn.processor) h) (forks_of state turn ++ forked) (takes_of state turn ++ taken) [] tree_then

      exact : (kept : IsKept (setting s code) root input (places_of s (happens s code state turn)) tree_then)
          × (kept.ahead.0.forks ≡ now.run.halves.kept.ahead.0.forks + by_step (opened_by (places_of s state).words) turn.act (stand_of state turn.processor))
      exact =
          let so = places_so.acts_so s code places fair root input state h forked taken t as_run turn.processor turn.act among.processor in
          let all = counts_are_exact (setting s code) fair root input state [] tt t now.run.halves.kept turn so (act_away (setting s code) places turn.act (stand_of state turn.processor)) in
          (all.0, all.2)

      abbrev after_ : Halves
      after_ = record {
        lawful = (turns_go_on s code places fair root input state h forked taken t as_run).lawful turn among;
        apart = tt;
        gone = tt;
        kept = exact.0;
        born = births_follow s code places fair root input state h forked taken t as_run turn among;
      }

      places_fork : IsForked s code root input (happens s code state turn) (by_act s state.words turn.act (stand_of state turn.processor) h) (forks_of state turn ++ forked) (takes_of state turn ++ taken) [] tree_then
      places_fork =
          let alone = alone_by s.takeover places turn.act (stand_of state turn.processor) in record {
            run = record {
              halves = after_;
              joint = joints_stay s code fair root input state h forked taken [] t now.run.halves now.run.joint turn among alone after_;
              broken = broken_stays s code state h forked taken now.run.halves.lawful now.run.broken turn;
            };
            counted = counted_then s code fair root input state h forked taken [] t now.run.halves now.run.joint turn alone after_ exact.1 now.counted;
          }

  -- what a run's state is, if its forks are counted
  pub forked_run : (state : RunState) (h : ℕ → Home) (forked taken : List ℕ) (t : Skeleton) (run : IsRun s code root input state h forked taken t) → AreCounted forked t run.kept.ahead.0 → IsForked s code root input state h forked taken [] t
  forked_run state h forked taken t run counted = record {
    run = record {
      halves = record { lawful = run.lawful; apart = tt; gone = tt; kept = run.kept; born = run.born };
      joint = joint_of s code places root input state h forked taken t run;
      broken = run.broken;
    };
    counted = counted;
  }

  pub all_places : (state : RunState) (h : ℕ → Home) (f tk : List ℕ) (t : Skeleton) (turns : List Turn) → AllByRecursion (IsTurnAmong s.processors) turns
      → IsForked s code root input state h f tk [] t
      → (v : Skeleton) × IsForked s code root input (after s code state turns) (homes s code state h turns) (forked_in s code state f turns) (taken_in s code state tk turns) [] v
  all_places state h f tk t [] all now = (t, now)
  all_places state h f tk t (turn ∷ more) all now =
      all_places (happens s code state turn) (by_act s state.words turn.act (stand_of state turn.processor) h) (forks_of state turn ++ f) (takes_of state turn ++ tk) _ more all.1
      (places_fork state h f tk t now turn all.0)

-- and by entries
module _ (s : Shape) (code : CodeParts) (ih : s.takeover ≡ ByEntries) (fair : IsFair code) (root : Tree (Frame FrameWord Point) Result) (input : Words) where
  module _ (state : RunState) (h : ℕ → Home) (forked taken : List ℕ) (l : List Followed) (t : Skeleton) (now : IsForked s code root input state h forked taken l t) where
    abbrev run : IsHeired s code root input state h forked taken l t
    run = now.run

    abbrev Forks : (c : ℕ) (act : Act) → Standing → Type 0
    Forks c act x = (m : List Followed) × (v : Skeleton)
        × IsForked s code root input (happens s code state (record { processor = c; act = act })) (by_act s state.words act x h) (step_by (row_by fork_row) act x ++ forked) (step_by (row_by take_row) act x ++ taken) m v

    others_fork : (c : ℕ) (act : Act) → IsTurnAmong s.processors (record { processor = c; act = act }) → LooksOnly act (stand_of state c) → Forks c act (stand_of state c)
    others_fork c act among looks =
        let turn : Turn = record { processor = c; act = act } in
        let orderly = (halves_owe s code fair root input state h forked taken l t run.halves run.joint.agrees (λ d seat re e. inlined s code ih fair root input state h forked taken l t run d seat re e)).orderly turn among in
        let next = halves_go_on s code ih fair root input state h forked taken l t run.halves run.joint.agrees run.broken turn among.processor orderly looks in
        let so = entries_so.acts_so s code ih fair root input state h forked taken l t run.halves run.joint.agrees run.broken c act among.processor in
        let exact = counts_are_exact (setting s code) fair root input state l run.halves.apart t run.halves.kept turn so (steps_away s code ih fair root input state h forked taken l t run.halves run.joint.agrees run.broken c act looks) in
        let alone = alone_of s.takeover act (stand_of state c) looks in (
          l,
          act_with (setting s code) (left (setting s code) l (places_of s state)).words state.words act (stand_of state c) t,
          record {
            run = record {
              halves = with_kept next exact.0;
              joint = joints_stay s code fair root input state h forked taken l t run.halves run.joint turn among alone (with_kept next exact.0);
              broken = broken_stays s code state h forked taken run.halves.lawful run.broken turn;
            };
            counted = counted_then s code fair root input state h forked taken l t run.halves run.joint turn alone (with_kept next exact.0) exact.2 now.counted;
          },
        )

    heirs_fork : (c victim : ℕ) (seat : Seat) (row : Row) → stand_of state c ≡ IsWithin seat row → Inherits seat.restart.kind row → Forks c (Step victim) (IsWithin seat row)
    heirs_fork c victim seat row e goes =
        let at = e ∙ ap (IsWithin seat) goes.4 in
        let lead = heirs_lead s code ih fair root input state h forked taken l t run.halves run.joint.agrees c victim seat goes.2 goes.0 goes.1 at goes.3 goes.5 run.joint.opens in
        let exact = heirs_count_none (setting s code) fair root input state l run.halves.apart t run.halves.kept c victim seat goes.2 lead.0 at lead.3 in
        let same = handed_same lead.0 seat.place t in
        subst (λ (x : Row). Forks c (Step victim) (IsWithin seat x)) (sym goes.4) (
          and_followed (setting s code) l (places_of s state) lead.0,
          handed lead.0 seat.place t,
          record {
            run = record {
              halves = with_kept lead.2 exact.0;
              joint = heir_joint s code ih fair root input state h forked taken l t run.halves run.joint c victim seat goes.2 goes.0 goes.1 at goes.3 goes.5 lead.0 lead.1 (with_kept lead.2 exact.0);
              broken = broken_stays s code state h forked taken run.halves.lawful run.broken (record { processor = c; act = Step victim });
            };
            counted = counted_on forked (fork_row (Now goes.2) ++ forked) t (handed lead.0 seat.place t) run.halves.kept.ahead.0 exact.0.ahead.0 now.counted
                (λ r was. has_both r (fork_row (Now goes.2)) forked was)
                (newly forked (fork_row (Now goes.2)) taken h (by_row s state.words seat (Now goes.2) h) t (handed lead.0 seat.place t) run.halves.lawful.1.counts run.joint.agrees lead.1
                (forked_row s state.words seat (Now goes.2) h) (λ r ne is. same.back Fresh tt r is) (λ r unborn is. same.back Held tt r is))
                exact.2 (λ r is. same.back Fresh tt r is) (λ r is. inr (same.on Fresh tt r is));
          },
        )

    steps_fork : (c victim : ℕ) → IsTurnAmong s.processors (record { processor = c; act = Step victim }) → (x : Standing) → stand_of state c ≡ x → Forks c (Step victim) x
    steps_fork c victim among (IsWithin seat row) e = elim (looks_or seat.restart.kind row) [
      | inl looks ↦ subst (Forks c (Step victim)) e (others_fork c (Step victim) among (subst (LooksOnly (Step victim)) (sym e) looks))
      | inr goes ↦ heirs_fork c victim seat row e goes
    ]
    steps_fork c victim among IsLost e = subst (Forks c (Step victim)) e (others_fork c (Step victim) among (subst (LooksOnly (Step victim)) (sym e) tt))
    steps_fork c victim among (IsPlaced p) e = subst (Forks c (Step victim)) e (others_fork c (Step victim) among (subst (LooksOnly (Step victim)) (sym e) tt))
    steps_fork c victim among (IsAt p re) e = subst (Forks c (Step victim)) e (others_fork c (Step victim) among (subst (LooksOnly (Step victim)) (sym e) tt))
    steps_fork c victim among (IsRunning seat rest) e = subst (Forks c (Step victim)) e (others_fork c (Step victim) among (subst (LooksOnly (Step victim)) (sym e) tt))
    steps_fork c victim among (IsBroken p) e = subst (Forks c (Step victim)) e (others_fork c (Step victim) among (subst (LooksOnly (Step victim)) (sym e) tt))
    steps_fork c victim among IsDone e = subst (Forks c (Step victim)) e (others_fork c (Step victim) among (subst (LooksOnly (Step victim)) (sym e) tt))

    acts_fork : (c : ℕ) (act : Act) → IsTurnAmong s.processors (record { processor = c; act = act }) → Forks c act (stand_of state c)
    acts_fork c (Step victim) among = steps_fork c victim among (stand_of state c) refl
    acts_fork c Soft among = others_fork c Soft among tt
    acts_fork c Hard among = others_fork c Hard among tt
    acts_fork c (Quit why) among = others_fork c (Quit why) among tt

  all_entries : (state : RunState) (h : ℕ → Home) (f tk : List ℕ) (l : List Followed) (t : Skeleton) (turns : List Turn) → AllByRecursion (IsTurnAmong s.processors) turns
      → IsForked s code root input state h f tk l t
      → (m : List Followed) × (v : Skeleton) × IsForked s code root input (after s code state turns) (homes s code state h turns) (forked_in s code state f turns) (taken_in s code state tk turns) m v
  all_entries state h f tk l t [] all now = (l, t, now)
  all_entries state h f tk l t (turn ∷ more) all now =
      let next = acts_fork state h f tk l t now turn.processor turn.act all.0 in
      all_entries (happens s code state turn) (by_act s state.words turn.act (stand_of state turn.processor) h) (forks_of state turn ++ f) (takes_of state turn ++ tk) next.0 next.1 more all.1 next.2

-- where a run opens none is counted
module _ (code : CodeParts) (input : List NamedArray) (s : Shape) (keeper : ℕ) (im : Image) (fair : IsFair code) (opens : Opens code input s keeper im)
    (calm : Calm (strands s code) (root_strand code input) (arrays_at (view s im.words))) where
  abbrev root : Tree (Frame FrameWord Point) Result
  root = root_strand code input

  abbrev first : RunState
  first = opening im.words s.processors

  abbrev seed : Skeleton
  seed = Leaf (InPlace keeper) (Begins 0) (pool_at s keeper) (slots_of code code.root)

  none_counted : (kept : IsKept (setting s code) root (arrays_at (view s im.words)) (places_of s first) seed) × (kept.ahead.0.forks ≡ 0)
  none_counted =
      let made = (machines_open code input s keeper im opens calm).1 (exactly none) (exactly_is none) in
      let plain = recount (record { shape = s; code = code; counted = exactly none }) (λ k. true) root (arrays_at (view s im.words)) (places_of s first) seed made refl in
      (plain.0, ap (λ (k : Counts). k.forks) (plain.1 ∙ exactly_says none made.ahead.0 made.counted))

  pub opens_forked : IsForked s code root (arrays_at (view s im.words)) first (λ r. Unborn) [] [] [] seed
  opens_forked =
      let run = runs_open code input s keeper im opens calm in record {
        run = record {
          halves = with_kept (halves run) none_counted.0;
          joint = record {
            agrees = run.agrees;
            last = λ r p held home. absurd held;
            ready = run.ready;
            unheld = λ e p r row ke de on held. held;
            opens = λ c seat next v slot stand ke on w r shut aw kw by. absurd (not_within (stand_of first c) seat (Now next) (elim (lost_or s.processors c) [ inl a ↦ inl a.0 | inr a ↦ inr a ]) stand);
          };
          broken = run.broken;
        };
        counted = record {
          blocks = [];
          once = tt;
          many = sym none_counted.1;
          made = λ r e. e;
          fresh = λ r is. absurd is;
          each = λ r e. inl e;
        };
      }

  -- forks are counted at each moment of a run from this state
  pub runs_fork : (turns : List Turn) → AllByRecursion (IsTurnAmong s.processors) turns
      → (l : List Followed) × (t : Skeleton) × IsForked s code root (arrays_at (view s im.words)) (after s code first turns) (homes s code first (λ r. Unborn) turns) (forked_in s code first [] turns) (taken_in s code first [] turns) l t
  runs_fork turns all = elim (how_or s.takeover) [
    | inl places ↦ let a = all_places s code places fair root (arrays_at (view s im.words)) first (λ r. Unborn) [] [] seed turns all opens_forked in ([], a.0, a.1)
    | inr ih ↦ all_entries s code ih fair root (arrays_at (view s im.words)) first (λ r. Unborn) [] [] [] seed turns all opens_forked
  ]

-- at an outcome one strand is left, which is over: as many were forked as the depth-first run forks
pub ends_forked : (s : Shape) (code : CodeParts) (root : Tree (Frame FrameWord Point) Result) (input : Words) (state : RunState) (h : ℕ → Home) (forked taken : List ℕ) (l : List Followed) (t : Skeleton)
    → IsForked s code root input state h forked taken l t → (finish : Finish) → finish_of (read s state.words FinishWord) ≡ Some finish → IsOutcome finish
    → (end : End Result) → EndsSo (strands s code) root input end → length forked ≡ end.counts.forks
ends_forked s code root input state h forked taken l t now finish says out end ends =
    let kept = now.run.halves.kept in
    let m = (left (setting s code) l (places_of s state)).words in
    let answer = left_ends_as_meant (setting s code) root input state l t kept finish says out in
    let d = (kept.ahead.1.ends end).0 ends in
    let last = result_at m answer.frame (m (BlockWord (answer.frame + 1))) in
    let rest = subst (λ (w : Tree (Frame FrameWord Point) Result). EndsSo (strands s code) w (arrays_at m) d.0) (ap (tree_of m) answer.alone) d.1 in
    let none_left : d.0.counts.forks ≡ 0 = ap (λ (e : End Result). e.counts.forks) (((ends_by_parts (strands s code)).over last (arrays_at m) d.0).0 rest) in
    let all : end.counts.forks ≡ kept.ahead.0.forks + d.0.counts.forks = ap (λ (e : End Result). e.counts.forks) d.2 in
    let many = counted_all forked (InPlace answer.place) Over answer.frame answer.slots kept.ahead.0 now.run.halves.lawful.1.counts.forked_once
    (subst (λ (w : Skeleton). AreCounted forked w kept.ahead.0) answer.alone now.counted) in
    omega (arith, none_left, all, many)

pub runs_fork_so : RunsForkSo
runs_fork_so code input s keeper im fair opens calm turns all finish says out end ends =
    let first : RunState = opening im.words s.processors in
    let a = runs_fork code input s keeper im fair opens calm turns all in
    ends_forked s code (root_strand code input) (arrays_at (view s im.words)) (after s code first turns) (homes s code first (λ r. Unborn) turns) (forked_in s code first [] turns) (taken_in s code first [] turns) a.0 a.1 a.2 finish says out end ends
