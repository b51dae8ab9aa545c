-- A processor whose place is at a kind of work loads the carry word, the restart word and the finish word, and then its step is work. Other
-- processors leave its standing and its place's kind as they are.
use Rattle.std.proofs.Common.{◌≡◌, ◌≢◌, ◌⊎◌, ◌≤◌, ◌<◌, ◌+◌, ◌==◌, if◌then◌else◌, ℕ, zero, suc, Bool, true, false, List, [], ◌∷◌, ◌++◌, Option, Some, None, inl}
use Rattle.std.proofs.Common.{inr, refl, sym, ap, ◌∙◌, subst, arith}
use Rattle.std.specs.List.{AllByRecursion}
use Rattle.std.specs.Prelude.{nat_lt, slice_get, slice_set}
use Rattle.std.proofs.lemmas.Bool.{cases_eq, eq-eqb, ne_eqb, true≢false}
use Rattle.ppm_strands.specs.Tree.{Words, Tree}
use Rattle.ppm_cells.specs.Memory.{read, AreWordsOf}
use Rattle.ppm_cells.specs.declared.cell.Cell.TheVariants.{FinishWord, CarryWord}
use Rattle.ppm_cells.specs.declared.restart.Restart.{Restart}
use Rattle.ppm_cells.specs.declared.restart.RestartKind.{RestartKind}
use Rattle.ppm_cells.specs.declared.shape.Shape.{Shape}
use Rattle.ppm_strands.specs.Strand.{Frame}
use Rattle.ppm_code.specs.Strands.{Point, Result}
use Rattle.ppm_code.specs.Code.{IsCode}
use Rattle.ppm_code.specs.declared.code.CodeParts.{CodeParts}
use Rattle.ppm_code.specs.declared.location.FrameWord.{FrameWord}
use Rattle.ppm_layout.specs.Root.{root_strand}
use Rattle.ppm_step.specs.Among.{IsTurnAmong}
use Rattle.ppm_step.specs.Laws.{reached, finish_at}
use Rattle.ppm_step.specs.Standings.{Standing, IsLost, IsPlaced, IsAt, IsWithin, IsRunning, IsBroken, IsDone, row_is_there, then_is_there}
use Rattle.ppm_step.specs.Standings.{within_if, stands, begins_if, placed, at_finish}
use Rattle.ppm_step.specs.There.{restart_is_there}
use Rattle.ppm_step.specs.declared.row.Row.{Row}
use Rattle.ppm_step.specs.declared.row.Row.TheVariants.{Now}
use Rattle.ppm_step.specs.declared.row.Seat.{Seat}
use Rattle.ppm_step.specs.declared.row.Then.TheVariants.{Load, Broken}
use Rattle.ppm_step.specs.declared.turn.Next.TheVariants.{Work, Look}
use Rattle.ppm_cells.specs.declared.restart.RestartKind.TheVariants.{Run, Bump, Push1, Push2, Unwind, Arrive, Join, Pop1, Pop2, Seek, Steal, Check, Take, Take2}
use Rattle.ppm_cells.specs.declared.shape.Takeover.{Takeover}
use Rattle.ppm_cells.specs.declared.shape.Takeover.TheVariants.{ByPlaces, ByEntries}
use Rattle.ppm_step.specs.Rows.{push_at, arrives, by_places, row_of}
use Rattle.ppm_step.specs.declared.row.Point.{Point as RowPoint}
use Rattle.ppm_step.specs.declared.row.Point.TheVariants.{Header, BumpLink, PushOrder, PushAbove, PushBottom, UnwindLink, JoinOrder}
use Rattle.ppm_step.specs.declared.row.Point.TheVariants.{PopBelow, PopAgain, SeekHolder, StealMessage, TakenMessage, BidMessage, BidAgain}
use Rattle.ppm_step.specs.State.{State as RunState, stand_of, acts, happens, after, opening, along, work_of, is_step, is_work, is_work_turn}
use Rattle.ppm_step.specs.State.{is_work_next, step_of, stand_in, is_done_at}
use Rattle.ppm_step.specs.declared.turn.Act.{Act}
use Rattle.ppm_step.specs.declared.turn.Act.TheVariants.{Step, Soft, Hard, Quit}
use Rattle.ppm_step.specs.declared.turn.Turn.{Turn}
use Rattle.ppm_step.proofs.FinishLemmas.{AllSpare, opening_spares, turn_spares}
use Rattle.ppm_tickets.specs.Along.{homes, forked as forked_in, taken as taken_in}
use Rattle.ppm_tickets.specs.Homes.{Home, Unborn}
use Rattle.ppm_tickets.specs.View as spots
use Rattle.ppm_tickets.specs.Words.{has}
use Rattle.ppm_tickets.proofs.StepLemmas.{stand_own}
use Rattle.ppm_frames.specs.Views.{view}
use Rattle.ppm_frames.specs.Seen.{arrays_at}
use Rattle.ppm_frames.specs.Skeletons.{Skeleton}
use Rattle.ppm_kept.specs.Running.{IsFair}
use Rattle.ppm_runs.proofs.BoundLemmas.{finish_still}
use Rattle.ppm_runs.proofs.ForkLemmas.{has_both}
use Rattle.ppm_runs.proofs.JoinLemmas.{stand_else}
use Rattle.ppm_runs.proofs.WholeLemmas.{in_two}
use Rattle.ppm_progress.specs.Soon.{turns_of, StepsOnly, WorksSoon}
use Rattle.ppm_progress.specs.Works.{HurtsNone}
use Rattle.ppm_progress.proofs.AliveLemmas.{carries_own}
use Rattle.ppm_progress.proofs.MomentLemmas.{IsMoment, AreMoments, first_moment, unhurt_moments, IsOn, sees_at, own_place, others_keep_kind, other_here}
use Rattle.ppm_progress.proofs.MomentLemmas.{own_here}
use Rattle.ppm_progress.proofs.UnhurtRuns.{IsUnhurt, all_unhurt, live_or, unhurt_first}
use Rattle.ppm_progress.proofs.WriteLemmas.{MovesTo}

-- how many loads come before a row
abbrev pub rank : Standing → ℕ
rank IsLost = 3
rank (IsPlaced p) = 2
rank (IsAt p re) = 1
rank _ = 0

-- a row that begins is past them
module _ (s : Shape) (code : CodeParts) where
  rank_within : (seat : Seat) (row : Row) (y : Bool) → rank (within_if seat row y) ≡ 0
  rank_within seat row true = refl
  rank_within seat row false = refl

  abbrev Begins : Seat → Row → Type 0
  Begins seat row = rank (stands s code seat row) ≡ 0

  loads : (seat : Seat) (point : RowPoint) → Begins seat (Now (Load point))
  loads seat point = rank_within seat (Now (Load point)) (then_is_there s seat (Load point))

  pushes : (seat : Seat) (how : Takeover) (r : ℕ) (last : Bool) → Begins seat (push_at seat how r last)
  pushes seat how r true = rank_within seat (push_at seat how r true) (row_is_there s seat (push_at seat how r true))
  pushes seat ByPlaces r false = loads seat (PushAbove r)
  pushes seat ByEntries r false = loads seat (PushOrder r)

  takes : (seat : Seat) (how : Takeover) (point : RowPoint) → Begins seat (by_places how (Now (Load point)))
  takes seat ByPlaces point = loads seat point
  takes seat ByEntries point = rank_within seat (Now Broken) (then_is_there s seat Broken)

  rank_begins : (seat : Seat) (k : RestartKind) → Begins seat (row_of s seat k)
  rank_begins seat (Run f y) = loads seat (Header f y)
  rank_begins seat (Bump r) = loads seat (BumpLink r)
  rank_begins seat (Push1 r) = pushes seat s.takeover r (seat.restart.bottom + 1 == s.slots)
  rank_begins seat (Push2 r) = loads seat (PushBottom r)
  rank_begins seat (Unwind f) = loads seat (UnwindLink f)
  rank_begins seat (Arrive r d) = rank_within seat (arrives seat r d) (row_is_there s seat (arrives seat r d))
  rank_begins seat (Join r d) = loads seat (JoinOrder r d)
  rank_begins seat Pop1 = loads seat PopBelow
  rank_begins seat (Pop2 r) = loads seat (PopAgain r)
  rank_begins seat Seek = loads seat SeekHolder
  rank_begins seat (Steal v i) = loads seat (StealMessage v i)
  rank_begins seat (Check v i) = loads seat (TakenMessage seat.place v i)
  rank_begins seat (Take v d) = takes seat s.takeover (BidMessage v d)
  rank_begins seat (Take2 v) = takes seat s.takeover (BidAgain v)

  rank_finish : (own p : ℕ) (re : Option Restart) (found : ℕ) → rank (at_finish s code own p re found) ≡ 0
  rank_finish own p re (suc found) = refl
  rank_finish own p None zero = refl
  rank_finish own p (Some re) zero = by (restart_is_there s re)
    where
      by : (y : Bool) → rank (begins_if s code (record { own = own; place = p; restart = re }) y) ≡ 0
      by true = rank_begins (record { own = own; place = p; restart = re }) re.kind
      by false = refl

  rank_placed : (found : ℕ) → rank (placed s found) ≤ 2
  rank_placed found = by (nat_lt found s.processors)
    where
      by : (y : Bool) → rank (if y then IsPlaced found else IsBroken 64) ≤ 2
      by true = omega arith
      by false = omega arith

-- a step, by the turn's processor and act
pub step_is : (act : Act) → is_step act ≡ true → (v : ℕ) × (act ≡ Step v)
step_is (Step v) e = (v, refl)
step_is Soft e = absurd (cc)
step_is Hard e = absurd (cc)
step_is (Quit why) e = absurd (cc)

-- a row of work is work
work_row : (seat : Seat) → is_work seat.restart.kind ≡ true → is_work_next (step_of seat.restart.kind) ≡ true
work_row seat work = ap (λ (y : Bool). is_work_next (if y then Work else Look)) work

has_own : (c : ℕ) (l : List ℕ) → has (c ∷ l) c ≡ true
has_own c l = by (c == c) (eq-eqb c c refl)
  where
    by : (y : Bool) → y ≡ true → (if y then true else has l c) ≡ true
    by true e = refl
    by false e = absurd (cc)

module _ (s : Shape) (code : CodeParts) (fair : IsFair code) (root : Tree (Frame FrameWord Point) Result) (input : Words) (ws : List ℕ)
    (c p : ℕ) (there : c < s.processors) where
  abbrev pub Outcome : RunState → List Turn → Type 0
  Outcome state more = (has (along s code work_of state more) c ≡ true) ⊎ (finish_at s (after s code state more) ≢ 0)

  pub next_is : (first : List Turn) (turn : Turn) (state : RunState) → state ≡ reached s code ws first
      → happens s code state turn ≡ reached s code ws (first ++ turn ∷ [])
  next_is first turn state e = ap (λ (z : RunState). happens s code z turn) e ∙ sym (in_two s code (opening ws s.processors) first (turn ∷ []))

  -- once the finish word is set it stays so
  pub set_stays : (first more : List Turn) (state : RunState) → state ≡ reached s code ws first → finish_at s state ≢ 0
      → finish_at s (after s code state more) ≢ 0
  set_stays first [] state e set = set
  set_stays first (turn ∷ more) state e set =
      set_stays (first ++ turn ∷ []) more (happens s code state turn) (next_is first turn state e) (finish_still s code fair ws first state e turn set)

  abbrev pub Here : RunState → Type 0
  Here state = IsOn s code fair root input c p state

  module _ (state : RunState) (now : Here state) where
    abbrev K : ℕ → RestartKind
    K = spots.kinds s state.words

    row_is_work : (seat : Seat) (row : Row) → stand_of state c ≡ IsWithin seat row → is_work (K p) ≡ true → is_work seat.restart.kind ≡ true
    row_is_work seat row e work =
        let sees = sees_at s code fair root input state now.moment c (IsWithin seat row) e in
        ap is_work (sym sees.0.at.kind)
        ∙ ap (λ (q : ℕ). is_work (K q)) (sym (own_place s code fair root input c p there state now seat.place sees.0.carried)) ∙ work

    -- what follows from the turns after this one
    abbrev Turned : List Turn → Turn → Type 0
    Turned more turn = (Here (happens s code state turn) → is_work (spots.kinds s (happens s code state turn).words p) ≡ true
        → rank (stand_of (happens s code state turn) c) < turns_of c more → Outcome (happens s code state turn) more)
        → rank (stand_of state c) < turns_of c (turn ∷ more) → Outcome state (turn ∷ more)

    pub later : (turn : Turn) (more : List Turn) → Outcome (happens s code state turn) more → Outcome state (turn ∷ more)
    later turn more (inl found) = inl (has_both c (work_of state turn) (along s code work_of (happens s code state turn) more) found)
    later turn more (inr set) = inr set

    -- a turn of another processor
    other_turn : (turn : Turn) (more : List Turn) → turn.processor < s.processors → turn.processor ≢ c
        → IsMoment s code fair root input (happens s code state turn) → is_work (K p) ≡ true → Turned more turn
    other_turn turn more lt ne next work ih low =
        let same = stand_else s code state turn.processor c turn.act (stand_of state turn.processor) (λ z. ne (sym z)) in
        let count : turns_of c (turn ∷ more) ≡ 0 + turns_of c more = ap (λ (y : Bool). (if y then 1 else 0) + turns_of c more) (ne_eqb turn.processor c ne) in
        let ranks = ap rank same in
        later turn more (ih (other_here s code fair root input c p there state now turn lt ne next)
        (ap is_work (others_keep_kind s code fair root input c p there state now turn lt ne) ∙ work) (omega (arith, low, count, ranks)))

    module _ (v : ℕ) (more first : List Turn) (on : state ≡ reached s code ws first)
        (then_ : IsMoment s code fair root input (happens s code state (record { processor = c; act = Step v }))) where
      abbrev pub own_turn : Turn
      own_turn = record { processor = c; act = Step v }

      pub counts : turns_of c (own_turn ∷ more) ≡ 1 + turns_of c more
      counts = ap (λ (y : Bool). (if y then 1 else 0) + turns_of c more) (eq-eqb c c refl)

      -- it is there still, or the finish word is set
      pub own_goes : ((q : ℕ) → MovesTo (Step v) (stand_of state c) c q → ⊥) → (Here (happens s code state own_turn) → Outcome state (own_turn ∷ more))
          → Outcome state (own_turn ∷ more)
      own_goes stays go = elim (own_here s code fair root input c p there state now v stays then_) [
        | inl here ↦ go here
        | inr set ↦
            inr (set_stays (first ++ own_turn ∷ []) more (happens s code state own_turn) (next_is first own_turn state on) set)
      ]

      -- a load before the row
      lower : (x y : Standing) → stand_of state c ≡ x → x ≢ IsDone → ((q : ℕ) → MovesTo (Step v) x c q → ⊥)
          → (acts s code state c (Step v) x).words ≡ state.words
          → (acts s code state c (Step v) x).stand ≡ slice_set state.stand c y → rank y + 1 ≤ rank x → is_work (K p) ≡ true → Turned more own_turn
      lower x y e live stays words stand less work ih low =
          let acted : happens s code state own_turn ≡ acts s code state c (Step v) x = ap (acts s code state c (Step v)) e in
          let kind = ap (λ (z : RunState). is_work (spots.kinds s z.words p)) acted ∙ ap (λ (l : List ℕ). is_work (spots.kinds s l p)) words ∙ work in
          let now_at = ap (λ (z : RunState). stand_of z c) acted ∙ ap (λ (l : List Standing). stand_in (slice_get l c)) stand
          ∙ stand_own state.stand c y (λ z. live (sym e ∙ z)) in
          let was = ap rank e in
          let is = ap rank now_at in
          let one = counts in
          own_goes (λ q moves. stays q (subst (λ (z : Standing). MovesTo (Step v) z c q) e moves))
          (λ here. later own_turn more (ih here kind (omega (arith, low, less, was, is, one))))

      -- a step of work
      pub works : (x : Standing) → stand_of state c ≡ x → is_work_turn (Step v) x ≡ true → Outcome state (own_turn ∷ more)
      works x e work =
          let told : work_of state own_turn ≡ c ∷ [] =
          ap (λ (z : Standing). if is_work_turn (Step v) z then c ∷ [] else []) e ∙ ap (λ (y : Bool). if y then c ∷ [] else []) work in
          inl (subst (λ (l : List ℕ). has (l ++ along s code work_of (happens s code state own_turn) more) c ≡ true) (sym told) (has_own c _))

      -- who has met broken words is done then, so the finish word is set
      pub breaks : (q : ℕ) → stand_of state c ≡ IsBroken q → Outcome state (own_turn ∷ more)
      breaks q e =
          let acted = ap (λ (z : Standing). stand_of (acts s code state c (Step v) z) c) e in
          let done = acted ∙ stand_own state.stand c IsDone (λ z. let k : IsBroken q ≡ IsDone = sym e ∙ z in cc) in
          own_goes (λ n moves. subst (λ (z : Standing). MovesTo (Step v) z c n) e moves)
          (λ here. absurd (true≢false (sym (ap is_done_at done) ∙ here.going)))

      own_step : is_work (K p) ≡ true → (x : Standing) → stand_of state c ≡ x → is_done_at x ≡ false → Turned more own_turn
      own_step work IsLost e live =
          lower IsLost _ e (λ z. cc) (λ q a. a) refl refl (let r = rank_placed s code (read s state.words (CarryWord c)) in omega (arith, r)) work
      own_step work (IsPlaced q) e live = lower (IsPlaced q) _ e (λ z. cc) (λ q a. a) refl refl (omega arith) work
      own_step work (IsAt q re) e live =
          lower (IsAt q re) _ e (λ z. cc) (λ q a. a) refl refl (let r = rank_finish s code c q re (read s state.words FinishWord) in omega (arith, r)) work
      own_step work (IsWithin seat row) e live = λ ih low. works (IsWithin seat row) e (work_row seat (row_is_work seat row e work))
      own_step work (IsRunning seat rest) e live = λ ih low. works (IsRunning seat rest) e refl
      own_step work (IsBroken q) e live = λ ih low. breaks q e
      own_step work IsDone e live = absurd (true≢false live)

    one_turn : (turn : Turn) (more first : List Turn) → state ≡ reached s code ws first → IsMoment s code fair root input (happens s code state turn)
        → is_work (K p) ≡ true → IsTurnAmong s.processors turn → StepsOnly c turn → Turned more turn
    one_turn turn more first on next work among steps = elim (cases_eq turn.processor c) [
      | inr ne ↦ other_turn turn more among.processor ne next work
      | inl own ↦
          let act = step_is turn.act (steps own) in
          (subst (λ (z : Turn). IsMoment s code fair root input (happens s code state z) → Turned more z)
          (λ k. record { processor = sym own k; act = sym act.1 k })
          (λ then_. own_step act.0 more first on then_ work (stand_of state c) refl now.going)) next
    ]

  -- the steps of c, by how many loads come before its row
  pub soon : (more first : List Turn) (state : RunState) → state ≡ reached s code ws first → AreMoments s code fair root input state more → Here state
      → is_work (spots.kinds s state.words p) ≡ true
      → AllByRecursion (IsTurnAmong s.processors) more → AllByRecursion (StepsOnly c) more
      → rank (stand_of state c) < turns_of c more → Outcome state more
  soon [] first state e are now work among steps lt = absurd (omega (arith, lt))
  soon (turn ∷ more) first state e are now work among steps lt =
      one_turn state now turn more first e (first_moment s code fair root input (happens s code state turn) more are.1) work among.0 steps.0
      (λ here kind low. soon more (first ++ turn ∷ []) (happens s code state turn) (next_is first turn state e) are.1 here kind among.1 steps.1 low) lt

pub rank_few : (x : Standing) → rank x ≤ 3
rank_few IsLost = omega arith
rank_few (IsPlaced p) = omega arith
rank_few (IsAt p re) = omega arith
rank_few (IsWithin seat row) = omega arith
rank_few (IsRunning seat rest) = omega arith
rank_few (IsBroken p) = omega arith
rank_few IsDone = omega arith

-- without hard faults each processor that is there carries its own place, or the finish word is set
pub unhurt_on : (s : Shape) (code : CodeParts) (fair : IsFair code) (root : Tree (Frame FrameWord Point) Result) (input : Words) (ws : List ℕ)
    → AreWordsOf s ws → (first more : List Turn) → AllByRecursion HurtsNone first → (h : ℕ → Home) (f tk : List ℕ) (t : Skeleton)
    → IsUnhurt s code root input (reached s code ws first) h f tk t → AllSpare s code fair.code_is (reached s code ws first)
    → AllByRecursion (IsTurnAmong s.processors) more → AllByRecursion HurtsNone more → (c : ℕ) → c < s.processors
    → (IsOn s code fair root input c c (reached s code ws first) × AreMoments s code fair root input (reached s code ws first) more)
    ⊎ (finish_at s (reached s code ws first) ≢ 0)
unhurt_on s code fair root input ws fit first more none h f tk t now spare among unhurt c there =
    let state = reached s code ws first in
    let are = unhurt_moments s code fair root input state h f tk t now spare more among unhurt in
    let law = now.advancing.run.halves.lawful.1 in
    let m = spots.view s state.words in
    elim (live_or s code fair ws fit first none c there) [
      | inr set ↦ inr set
      | inl going ↦ inl (
        record {
          moment = first_moment s code fair root input state more are;
          going = going;
          carried = carries_own s.takeover m (spots.kinds s state.words) now.home law.holding law.rooted c;
        },
        are,
      )
    ]

-- all spare the finish word, wherever they come from an opening
pub spare_at : (s : Shape) (code : CodeParts) (is : IsCode code) (state : RunState) (turns : List Turn) → AllSpare s code is state
    → AllSpare s code is (after s code state turns)
spare_at s code is state [] all = all
spare_at s code is state (turn ∷ more) all = spare_at s code is (happens s code state turn) more (turn_spares s code is state turn all)

pub works_soon : WorksSoon
works_soon code input s keeper im fair opens calm first more among_first among_more hurts_first hurts_more c there work steps four =
    let root = root_strand code input in
    let arrays = arrays_at (view s im.words) in
    let from = opening im.words s.processors in
    let begins = unhurt_first code input s keeper im opens calm in
    let fit = begins.advancing.run.halves.lawful.0 in
    let a = all_unhurt s code fair root arrays from (λ r. Unborn) [] [] _ first among_first hurts_first begins in
    let spare = spare_at s code fair.code_is from first (opening_spares s code fair.code_is s.processors) in
    let state = reached s code im.words first in
    let few = rank_few (stand_of state c) in
    let two = ap (finish_at s) (in_two s code from first more) in
    elim (unhurt_on s code fair root arrays im.words fit first more hurts_first (homes s code from (λ r. Unborn) first) (forked_in s code from [] first)
    (taken_in s code from [] first) a.0 a.1 spare among_more hurts_more c there) [
      | inr set ↦ inr (λ z. set_stays s code fair root arrays im.words c c there first more state refl set (sym two ∙ z))
      | inl on ↦
          elim (soon s code fair root arrays im.words c c there more first state refl on.1 on.0 work among_more steps (omega (arith, few, four))) [
            | inl found ↦ inl found
            | inr set ↦ inr (λ z. set (sym two ∙ z))
          ]
    ]
