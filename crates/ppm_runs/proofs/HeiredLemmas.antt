-- With takeover by entries each turn of a run's state leads to the next; so all turns do.
use Rattle.std.proofs.Common.{◌≡◌, ◌≢◌, ◌⊎◌, ◌+◌, ℕ, List, [], ◌∷◌, ◌++◌, inl, inr, refl, sym, ap, ◌∙◌, subst}
use Rattle.std.specs.List.{AllByRecursion}
use Rattle.ppm_strands.specs.Tree.{Words, Tree}
use Rattle.ppm_strands.specs.Calm.{Calm}
use Rattle.ppm_words.specs.declared.named_array.NamedArray.{NamedArray}
use Rattle.ppm_cells.specs.Cells.{pool_at}
use Rattle.ppm_cells.specs.declared.restart.Restart.{Restart}
use Rattle.ppm_cells.specs.declared.restart.RestartKind.{RestartKind}
use Rattle.ppm_cells.specs.declared.restart.RestartKind.TheVariants.{Run, Bump, Push1, Push2, Unwind, Arrive, Join, Pop1, Pop2, Seek, Steal, Check, Take, Take2}
use Rattle.ppm_cells.specs.declared.shape.Shape.{Shape}
use Rattle.ppm_cells.specs.declared.shape.Takeover.{Takeover}
use Rattle.ppm_cells.specs.declared.shape.Takeover.TheVariants.{ByEntries}
use Rattle.ppm_strands.specs.Strand.{Frame}
use Rattle.ppm_code.specs.Sizes.{slots_of}
use Rattle.ppm_code.specs.Strands.{Point, Result}
use Rattle.ppm_code.specs.declared.code.CodeParts.{CodeParts}
use Rattle.ppm_code.specs.declared.location.FrameWord.{FrameWord}
use Rattle.ppm_layout.specs.Correct.{Opens}
use Rattle.ppm_layout.specs.Root.{root_strand}
use Rattle.ppm_layout.specs.declared.images.Image.{Image}
use Rattle.ppm_step.specs.Among.{IsTurnAmong}
use Rattle.ppm_step.specs.Laws.{reached}
use Rattle.ppm_step.specs.Standings.{Standing, IsLost, IsPlaced, IsAt, IsWithin, IsRunning, IsBroken, IsDone}
use Rattle.ppm_step.specs.State.{State as RunState, stand_of, happens, after, opening, forks_of, takes_of, step_by, row_by, fork_row, take_row}
use Rattle.ppm_step.specs.declared.row.Row.{Row}
use Rattle.ppm_step.specs.declared.row.Row.TheVariants.{Now, Store, Exchange}
use Rattle.ppm_step.specs.declared.row.Seat.{Seat}
use Rattle.ppm_step.specs.declared.row.Then.{Then}
use Rattle.ppm_step.specs.declared.row.Then.TheVariants.{Load, Install, Fork, Begin, Move, Enter, Again, Broken}
use Rattle.ppm_step.specs.declared.turn.Act.{Act}
use Rattle.ppm_step.specs.declared.turn.Act.TheVariants.{Step, Soft, Hard, Quit}
use Rattle.ppm_step.specs.declared.turn.Turn.{Turn}
use Rattle.ppm_tickets.specs.Along.{by_act, homes, forked as forked_in, taken as taken_in, IsInlined}
use Rattle.ppm_tickets.specs.Homes.{Home, Unborn, Pushing}
use Rattle.ppm_tickets.specs.Lawful.{IsEmpty}
use Rattle.ppm_tickets.specs.View as spots
use Rattle.ppm_tickets.specs.Words.{Slot}
use Rattle.ppm_tickets.proofs.Theorem.{lost_or}
use Rattle.ppm_frames.specs.Views.{view}
use Rattle.ppm_frames.specs.Seen.{arrays_at}
use Rattle.ppm_frames.specs.Skeletons.{Begins, Over, InPlace, Skeleton, Leaf}
use Rattle.ppm_kept.specs.Running.{IsFair, strands}
use Rattle.ppm_kept.specs.Kept.{InRow}
use Rattle.ppm_kept.specs.Fates.{Agrees}
use Rattle.ppm_kept.specs.Left.{Followed, left, LooksOn}
use Rattle.ppm_kept.specs.Others.{IsIdle}
use Rattle.ppm_kept.specs.Places.{places_of}
use Rattle.ppm_kept.specs.Steps.{act_with}
use Rattle.ppm_kept.proofs.AnswerLemmas.{left_ends_as_meant}
use Rattle.ppm_kept.proofs.FateLemmas.{none_is_left}
use Rattle.ppm_runs.specs.Run.{setting, fate_of}
use Rattle.ppm_runs.specs.Follow.{IsHalves, CarriesOn, LooksOnly}
use Rattle.ppm_runs.specs.Joint.{IsCapped, AreJoint, StepsAlone}
use Rattle.ppm_runs.specs.Entries.{IsHeired, HeirsLeadOn, RunsStayHeired, OnceByEntries, RunsEndByEntries, HalvesStay, OnceInEachRun, RunsEndSo}
use Rattle.ppm_runs.proofs.ShownLemmas.{halves, within}
use Rattle.ppm_runs.proofs.LeftLemmas.{shows}
use Rattle.ppm_runs.proofs.OrderlyLemmas.{halves_owe, how_or}
use Rattle.ppm_runs.proofs.OpenLemmas.{runs_open}
use Rattle.ppm_runs.proofs.BrokenLemmas.{broken_stays}
use Rattle.ppm_runs.proofs.OutcomeLemmas.{unborn_is, begun_is, same_lists}
use Rattle.ppm_runs.proofs.AgreeLemmas.{pushing_home, not_followed}
use Rattle.ppm_runs.proofs.JoinLemmas.{joints_stay}
use Rattle.ppm_runs.proofs.MomentLemmas.{are_once, once_at_each_moment, runs_stay}
use Rattle.ppm_runs.proofs.WholeLemmas.{runs_come_to}
use Rattle.ppm_runs.proofs.FollowLemmas.{heirs_lead}
use Rattle.ppm_runs.proofs.HalvesLemmas.{halves_go_on}
use Rattle.ppm_runs.proofs.HeirJoinLemmas.{heir_joint}

-- a kind without a strand, or none that seeks
idle_or : (k : RestartKind) → IsIdle k ⊎ (k ≢ Seek)
idle_or (Run f y) = inr (λ e. cc)
idle_or (Bump r) = inr (λ e. cc)
idle_or (Push1 r) = inr (λ e. cc)
idle_or (Push2 r) = inr (λ e. cc)
idle_or (Unwind f) = inr (λ e. cc)
idle_or (Arrive r d) = inr (λ e. cc)
idle_or (Join r d) = inr (λ e. cc)
idle_or Pop1 = inl tt
idle_or (Pop2 r) = inl tt
idle_or Seek = inl tt
idle_or (Steal v j) = inl tt
idle_or (Check v j) = inl tt
idle_or (Take v j) = inl tt
idle_or (Take2 v) = inl tt

-- a row by which a place goes on with what it inherited
abbrev pub Inherits : RestartKind → Row → Type 0
Inherits k row = (v : ℕ) × (j : ℕ) × (next : Then) × (k ≡ Check v j) × (row ≡ Now next) × CarriesOn next

check_or : (v j : ℕ) (next : Then) → LooksOn (Check v j) (Now next) ⊎ Inherits (Check v j) (Now next)
check_or v j (Install re) = elim (idle_or re.kind) [ inl a ↦ inl a | inr ne ↦ inr (v, j, Install re, refl, refl, ne) ]
check_or v j (Fork r) = inr (v, j, Fork r, refl, refl, tt)
check_or v j (Load x) = inl tt
check_or v j (Begin r f b) = inl tt
check_or v j (Move x) = inl tt
check_or v j (Enter x) = inl tt
check_or v j Again = inl tt
check_or v j Broken = inl tt

pub looks_or : (k : RestartKind) (row : Row) → LooksOn k row ⊎ Inherits k row
looks_or (Check v j) (Now next) = check_or v j next
looks_or (Check v j) (Store cell content next) = inl tt
looks_or (Check v j) (Exchange cell old new next) = inl tt
looks_or (Run f y) row = inl tt
looks_or (Bump r) row = inl tt
looks_or (Push1 r) row = inl tt
looks_or (Push2 r) row = inl tt
looks_or (Unwind f) row = inl tt
looks_or (Arrive r d) row = inl tt
looks_or (Join r d) row = inl tt
looks_or Pop1 row = inl tt
looks_or (Pop2 r) row = inl tt
looks_or Seek row = inl tt
looks_or (Steal v j) row = inl tt
looks_or (Take v j) row = inl tt
looks_or (Take2 v) row = inl tt

pub alone_of : (how : Takeover) (act : Act) (x : Standing) → LooksOnly act x → StepsAlone how act x
alone_of how (Step v) (IsWithin seat row) looks = inr looks
alone_of how (Step v) IsLost looks = tt
alone_of how (Step v) (IsPlaced p) looks = tt
alone_of how (Step v) (IsAt p re) looks = tt
alone_of how (Step v) (IsRunning seat rest) looks = tt
alone_of how (Step v) (IsBroken p) looks = tt
alone_of how (Step v) IsDone looks = tt
alone_of how Soft x looks = tt
alone_of how Hard x looks = tt
alone_of how (Quit why) x looks = tt

module _ (s : Shape) (code : CodeParts) (ih : s.takeover ≡ ByEntries) (fair : IsFair code) (root : Tree (Frame FrameWord Point) Result) (input : Words) (state : RunState) (h : ℕ → Home) (forked taken : List ℕ) (l : List Followed) (t : Skeleton)
    (run : IsHalves s code root input state h forked taken l t) (joint : AreJoint s code state h l t) where
  -- where an order word says that one strand runs both branches nothing is above the bottom
  module _ (c : ℕ) (seat : Seat) (re : Restart) (e : stand_of state c ≡ IsWithin seat (Now (Install re))) where
    empty_above : (b f y : ℕ) → seat.restart.kind ≡ Push1 b → re.kind ≡ Run f y → IsEmpty (spots.view s state.words (Slot seat.place (seat.restart.bottom + 1)))
    empty_above b f y ek er =
        let w = within s code root input state h forked taken l t run c seat (Now (Install re)) e in
        let held = joint.ready seat.place b f y re.bottom (w.kind ∙ ek) (w.doing ∙ ap (λ (k : RestartKind). InRow (Now (Install (record { kind = k; bottom = re.bottom })))) er) in
        let home : h b ≡ Pushing seat.place = pushing_home s code root input state h forked taken l t run seat.place b (not_followed s code root input state h forked taken l t run c seat.place w.sits.carried) (w.kind ∙ ek) in
        subst (λ (n : ℕ). IsEmpty (spots.view s state.words (Slot seat.place (n + 1)))) w.sits.at.bottom (subst (λ (how : Takeover). IsCapped how s state.words seat.place) ih (joint.last b seat.place held home))

    inlined_by : (k new : RestartKind) → seat.restart.kind ≡ k → re.kind ≡ new → IsInlined ByEntries s state.words seat k new
    inlined_by (Push1 b) (Run f y) ek er = empty_above b f y ek er
    inlined_by (Push1 b) _ ek er = tt
    inlined_by (Run f y) new ek er = tt
    inlined_by (Bump r) new ek er = tt
    inlined_by (Push2 r) new ek er = tt
    inlined_by (Unwind f) new ek er = tt
    inlined_by (Arrive r d) new ek er = tt
    inlined_by (Join r d) new ek er = tt
    inlined_by Pop1 new ek er = tt
    inlined_by (Pop2 r) new ek er = tt
    inlined_by Seek new ek er = tt
    inlined_by (Steal v j) new ek er = tt
    inlined_by (Check v j) new ek er = tt
    inlined_by (Take v j) new ek er = tt
    inlined_by (Take2 v) new ek er = tt

    pub inlined_so : IsInlined s.takeover s state.words seat seat.restart.kind re.kind
    inlined_so = subst (λ (how : Takeover). IsInlined how s state.words seat seat.restart.kind re.kind) (sym ih) (inlined_by seat.restart.kind re.kind refl refl)

module _ (s : Shape) (code : CodeParts) (ih : s.takeover ≡ ByEntries) (fair : IsFair code) (root : Tree (Frame FrameWord Point) Result) (input : Words) (state : RunState) (h : ℕ → Home) (forked taken : List ℕ) (l : List Followed) (t : Skeleton)
    (run : IsHeired s code root input state h forked taken l t) where
  pub inlined : (c : ℕ) (seat : Seat) (re : Restart) → stand_of state c ≡ IsWithin seat (Now (Install re)) → IsInlined s.takeover s state.words seat seat.restart.kind re.kind
  inlined c seat re e = inlined_so s code ih fair root input state h forked taken l t run.halves run.joint c seat re e

  -- after an act, by where its processor stood
  abbrev Leads : (c : ℕ) (act : Act) → Standing → Type 0
  Leads c act x = (m : List Followed) × (u : Skeleton)
      × IsHeired s code root input (happens s code state (record { processor = c; act = act })) (by_act s state.words act x h) (step_by (row_by fork_row) act x ++ forked) (step_by (row_by take_row) act x ++ taken) m u

  others_lead : (c : ℕ) (act : Act) → IsTurnAmong s.processors (record { processor = c; act = act }) → LooksOnly act (stand_of state c) → Leads c act (stand_of state c)
  others_lead c act among looks =
      let turn : Turn = record { processor = c; act = act } in
      let orderly = (halves_owe s code fair root input state h forked taken l t run.halves run.joint.agrees (λ d seat re e. inlined d seat re e)).orderly turn among in
      let next = halves_go_on s code ih fair root input state h forked taken l t run.halves run.joint.agrees run.broken turn among.processor orderly looks in (
        l,
        act_with (setting s code) (left (setting s code) l (places_of s state)).words state.words act (stand_of state c) t,
        record {
          halves = next;
          joint = joints_stay s code fair root input state h forked taken l t run.halves run.joint turn among (alone_of s.takeover act (stand_of state c) looks) next;
          broken = broken_stays s code state h forked taken run.halves.lawful run.broken turn;
        },
      )

  heirs_go : (c victim : ℕ) (seat : Seat) (row : Row) → stand_of state c ≡ IsWithin seat row → Inherits seat.restart.kind row → Leads c (Step victim) (IsWithin seat row)
  heirs_go c victim seat row e goes =
      let at = e ∙ ap (IsWithin seat) goes.4 in
      let lead = heirs_lead s code ih fair root input state h forked taken l t run.halves run.joint.agrees c victim seat goes.2 goes.0 goes.1 at goes.3 goes.5 run.joint.opens in
      subst (λ (x : Row). Leads c (Step victim) (IsWithin seat x)) (sym goes.4) (
        _,
        _,
        record {
          halves = lead.2;
          joint = heir_joint s code ih fair root input state h forked taken l t run.halves run.joint c victim seat goes.2 goes.0 goes.1 at goes.3 goes.5 lead.0 lead.1 lead.2;
          broken = broken_stays s code state h forked taken run.halves.lawful run.broken (record { processor = c; act = Step victim });
        },
      )

  steps_lead : (c victim : ℕ) → IsTurnAmong s.processors (record { processor = c; act = Step victim }) → (x : Standing) → stand_of state c ≡ x → Leads c (Step victim) x
  steps_lead c victim among (IsWithin seat row) e = elim (looks_or seat.restart.kind row) [
    | inl looks ↦ subst (Leads c (Step victim)) e (others_lead c (Step victim) among (subst (LooksOnly (Step victim)) (sym e) looks))
    | inr goes ↦ heirs_go c victim seat row e goes
  ]
  steps_lead c victim among IsLost e = subst (Leads c (Step victim)) e (others_lead c (Step victim) among (subst (LooksOnly (Step victim)) (sym e) tt))
  steps_lead c victim among (IsPlaced p) e = subst (Leads c (Step victim)) e (others_lead c (Step victim) among (subst (LooksOnly (Step victim)) (sym e) tt))
  steps_lead c victim among (IsAt p re) e = subst (Leads c (Step victim)) e (others_lead c (Step victim) among (subst (LooksOnly (Step victim)) (sym e) tt))
  steps_lead c victim among (IsRunning seat rest) e = subst (Leads c (Step victim)) e (others_lead c (Step victim) among (subst (LooksOnly (Step victim)) (sym e) tt))
  steps_lead c victim among (IsBroken p) e = subst (Leads c (Step victim)) e (others_lead c (Step victim) among (subst (LooksOnly (Step victim)) (sym e) tt))
  steps_lead c victim among IsDone e = subst (Leads c (Step victim)) e (others_lead c (Step victim) among (subst (LooksOnly (Step victim)) (sym e) tt))

  acts_lead : (c : ℕ) (act : Act) → IsTurnAmong s.processors (record { processor = c; act = act }) → Leads c act (stand_of state c)
  acts_lead c (Step victim) among = steps_lead c victim among (stand_of state c) refl
  acts_lead c Soft among = others_lead c Soft among tt
  acts_lead c Hard among = others_lead c Hard among tt
  acts_lead c (Quit why) among = others_lead c (Quit why) among tt

pub heirs_lead_on : HeirsLeadOn
heirs_lead_on s code ih fair root input state h forked taken l t run turn among = acts_lead s code ih fair root input state h forked taken l t run turn.processor turn.act among

module _ (s : Shape) (code : CodeParts) (ih : s.takeover ≡ ByEntries) (fair : IsFair code) (root : Tree (Frame FrameWord Point) Result) (input : Words) where
  all_lead : (state : RunState) (h : ℕ → Home) (f tk : List ℕ) (l : List Followed) (t : Skeleton) (turns : List Turn) → AllByRecursion (IsTurnAmong s.processors) turns
      → IsHeired s code root input state h f tk l t
      → (m : List Followed) × (u : Skeleton) × IsHeired s code root input (after s code state turns) (homes s code state h turns) (forked_in s code state f turns) (taken_in s code state tk turns) m u
  all_lead state h f tk l t [] all run = (l, t, run)
  all_lead state h f tk l t (turn ∷ more) all run =
      let next = heirs_lead_on s code ih fair root input state h f tk l t run turn all.0 in
      all_lead (happens s code state turn) (by_act s state.words turn.act (stand_of state turn.processor) h) (forks_of state turn ++ f) (takes_of state turn ++ tk) next.0 next.1 more all.1 next.2

-- where a run opens nobody is in a row
pub not_within : (x : Standing) (seat : Seat) (row : Row) → (x ≡ IsLost) ⊎ (x ≡ IsDone) → x ≡ IsWithin seat row → ⊥
not_within x seat row is e = elim is [
  | inl a ↦ absurd (let z : IsLost ≡ IsWithin seat row = sym a ∙ e in cc)
  | inr a ↦ absurd (let z : IsDone ≡ IsWithin seat row = sym a ∙ e in cc)
]

-- where a run opens none was followed
unfoldable pub heired_first : (code : CodeParts) (input : List NamedArray) (s : Shape) (keeper : ℕ) (im : Image) → Opens code input s keeper im → Calm (strands s code) (root_strand code input) (arrays_at (view s im.words))
    → IsHeired s code (root_strand code input) (arrays_at (view s im.words)) (opening im.words s.processors) (λ r. Unborn) [] [] [] (Leaf (InPlace keeper) (Begins 0) (pool_at s keeper) (slots_of code code.root))
heired_first code input s keeper im opens calm =
    let run = runs_open code input s keeper im opens calm in record {
      halves = halves run;
      joint = record {
        agrees = run.agrees;
        last = λ r p held home. absurd held;
        ready = run.ready;
        unheld = λ e p r row ke de on held. held;
        opens = λ c seat next v slot stand ke on w r shut aw kw by. absurd (not_within (stand_of (opening im.words s.processors) c) seat (Now next) (elim (lost_or s.processors c) [ inl a ↦ inl a.0 | inr a ↦ inr a ]) stand);
      };
      broken = run.broken;
    }

pub runs_stay_heired : RunsStayHeired
runs_stay_heired code input s keeper im ih fair opens calm turns all =
    all_lead s code ih fair (root_strand code input) (arrays_at (view s im.words)) (opening im.words s.processors) (λ r. Unborn) [] [] []
    (Leaf (InPlace keeper) (Begins 0) (pool_at s keeper) (slots_of code code.root)) turns all (heired_first code input s keeper im opens calm)

pub once_by_entries : OnceByEntries
once_by_entries code input s keeper im ih fair opens calm turns all =
    let run = runs_stay_heired code input s keeper im ih fair opens calm turns all in
    are_once (homes s code (opening im.words s.processors) (λ r. Unborn) turns) (forked_in s code (opening im.words s.processors) [] turns) (taken_in s code (opening im.words s.processors) [] turns) run.2.halves.lawful.1.counts

pub runs_end_by_entries : RunsEndByEntries
runs_end_by_entries code input s keeper im ih fair opens calm turns all finish says out =
    let run = runs_stay_heired code input s keeper im ih fair opens calm turns all in
    let h = homes s code (opening im.words s.processors) (λ r. Unborn) turns in
    let forked = forked_in s code (opening im.words s.processors) [] turns in
    let taken = taken_in s code (opening im.words s.processors) [] turns in
    let answer = left_ends_as_meant (setting s code) (root_strand code input) (arrays_at (view s im.words)) (reached s code im.words turns) run.0 run.1 run.2.halves.kept finish says out in
    let counts = run.2.halves.lawful.1.counts in
    let agrees = subst (λ (w : Skeleton). Agrees w (λ r. fate_of (h r))) answer.alone run.2.joint.agrees in (
      run.1,
      record {
        answer = answer;
        shown = shows s code (root_strand code input) (arrays_at (view s im.words)) (reached s code im.words turns) h forked taken run.0 run.1 run.2.halves;
        all = λ r. same_lists h forked taken counts r (elim (none_is_left (InPlace answer.place) Over answer.frame answer.slots (λ r. fate_of (h r)) agrees r) [
          | inl e ↦ inl (unborn_is (h r) e)
          | inr e ↦ inr (begun_is (h r) e)
        ]);
        forked_once = counts.forked_once;
        taken_once = counts.once;
      },
    )

-- whatever the takeover
pub halves_stay : HalvesStay
halves_stay code input s keeper im fair opens calm turns all = elim (how_or s.takeover) [
  | inl places ↦ let a = runs_stay code input s keeper im places fair opens calm turns all in ([], a.0, halves a.1)
  | inr ih ↦ let a = runs_stay_heired code input s keeper im ih fair opens calm turns all in (a.0, a.1, a.2.halves)
]

pub once_in_each_run : OnceInEachRun
once_in_each_run code input s keeper im fair opens calm turns all = elim (how_or s.takeover) [
  | inl places ↦ once_at_each_moment code input s keeper im places fair opens calm turns all
  | inr ih ↦ once_by_entries code input s keeper im ih fair opens calm turns all
]

pub runs_end_so : RunsEndSo
runs_end_so code input s keeper im fair opens calm turns all finish says out = elim (how_or s.takeover) [
  | inl places ↦ let a = runs_come_to code input s keeper im places fair opens calm turns all finish says out in
      (a.0, record { answer = a.1.answer; shown = a.1.shown; all = a.1.all; forked_once = a.1.forked_once; taken_once = a.1.taken_once })
  | inr ih ↦ runs_end_by_entries code input s keeper im ih fair opens calm turns all finish says out
]
