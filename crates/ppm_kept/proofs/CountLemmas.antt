-- What a turn counts: it keeps all whatever is asked of the counts, so where no capsule ends they are the same.
use Rattle.std.proofs.Common.{◌≡◌, ◌≤◌, ◌<◌, ℕ, zero, suc, ◌+◌, ◌==◌, ◌&&◌, Bool, true, List, [], ◌∷◌, inl, inr, refl, sym, ap, ◌∙◌, subst, subst₂, arith, Option, Some, None}
use Rattle.std.proofs.Math.Path.{fun_ext}
use Rattle.std.proofs.lemmas.Bool.{eq-eqb, eqb-true, and_from, and_parts}
use Rattle.ppm_strands.specs.Tree.{Words, Tree}
use Rattle.ppm_strands.specs.Run.{Counts}
use Rattle.ppm_strands.proofs.RunLemmas.{counts_path}
use Rattle.ppm_cells.specs.declared.cell.Cell.{Cell}
use Rattle.ppm_cells.specs.declared.cell.Cell.TheVariants.{RoomCounter, BlockWord}
use Rattle.ppm_cells.specs.declared.link.LinkKind.{LinkKind}
use Rattle.ppm_cells.specs.declared.link.LinkKind.TheVariants.{Root, Call as Called, Branch, Fork as Forked}
use Rattle.ppm_cells.specs.declared.restart.Restart.{Restart}
use Rattle.ppm_cells.specs.declared.restart.RestartKind.{RestartKind}
use Rattle.ppm_cells.specs.declared.restart.RestartKind.TheVariants.{Run, Bump, Push1, Push2, Unwind, Arrive, Join, Pop1, Pop2, Seek, Steal, Check, Take, Take2}
use Rattle.ppm_strands.specs.Strand.{Frame}
use Rattle.ppm_code.specs.Strands.{Point, Result}
use Rattle.ppm_code.specs.declared.location.FrameWord.{FrameWord}
use Rattle.ppm_step.specs.Frames.{Rest, Loads, Stores, Full, Installs, Breaks}
use Rattle.ppm_step.specs.Standings.{Standing, IsLost, IsPlaced, IsAt, IsWithin, IsRunning, IsBroken, IsDone}
use Rattle.ppm_step.specs.State.{State as Machine, stand_of, happens}
use Rattle.ppm_step.specs.declared.row.Point.TheVariants.{Offset}
use Rattle.ppm_step.specs.declared.row.Row.{Row}
use Rattle.ppm_step.specs.declared.row.Row.TheVariants.{Now, Store, Exchange}
use Rattle.ppm_step.specs.declared.row.Seat.{Seat}
use Rattle.ppm_step.specs.declared.row.Then.{Then as Ending}
use Rattle.ppm_step.specs.declared.row.Then.TheVariants.{Load, Install, Fork, Begin, Move, Enter, Again, Broken}
use Rattle.ppm_step.specs.declared.turn.Act.{Act}
use Rattle.ppm_step.specs.declared.turn.Act.TheVariants.{Step, Soft, Hard, Quit}
use Rattle.ppm_step.specs.declared.turn.Turn.{Turn}
use Rattle.ppm_frames.specs.Views.{view}
use Rattle.ppm_frames.specs.Skeletons.{Stand, Skeleton, grow}
use Rattle.ppm_frames.specs.Good.{link_at}
use Rattle.ppm_kept.specs.Running.{IsFair}
use Rattle.ppm_kept.specs.Branches.{HasCopy}
use Rattle.ppm_kept.specs.Kept.{Setting, AllowsAll, start, end_of, Doing, Resting, InRow, InRest, State, ceiling, Free, Reach, Under, Does, Head, Ordered, IsKept}
use Rattle.ppm_kept.specs.Moves.{installs, opened, by_install}
use Rattle.ppm_kept.specs.Laws.{kind_then}
use Rattle.ppm_kept.specs.Heirs.{settled, handed, GoesOnAs}
use Rattle.ppm_kept.specs.HeirTurns.{Heired, and_followed}
use Rattle.ppm_kept.specs.Left.{Followed, left_words, left_kinds, left, IsAway, AreApart, StepsAway}
use Rattle.ppm_kept.specs.Places.{kinds_of, places_of}
use Rattle.ppm_kept.specs.Steps.{tree_with, act_with, TakesSo, InRestSo, IsKindIf, StandsSo, ActsSo}
use Rattle.ppm_kept.specs.Credit.{ended_by, by_step, CapsulesAreCounted}
use Rattle.ppm_kept.specs.Counting.{forks_with, opened_by, CountsAreExact, HeirsCountNone}
use Rattle.ppm_kept.proofs.OtherLemmas.{others_keep}
use Rattle.ppm_kept.proofs.RunRow.{rest_counts}
use Rattle.ppm_kept.proofs.StateLemmas.{doing_here, turns_show}
use Rattle.ppm_kept.proofs.LeftLemmas.{kind_away, installs_left}
use Rattle.ppm_kept.proofs.HeirTurns.{heir_turns_keep}
use Rattle.ppm_kept.proofs.StepRows.{turns_keep_left, act_away}

-- with another question
abbrev counting : (Counts → Bool) → Setting → Setting
counting q i = record { shape = i.shape; code = i.code; counted = q }

-- no definition but that of `IsKept` looks at it
module _ (i : Setting) (q : Counts → Bool) where
  abbrev j : Setting
  j = counting q i

  roof : (m : Cell → ℕ) (p : ℕ) (k : RestartKind) → ceiling j m p k ≡ ceiling i m p k
  roof m p (Run f y) = refl
  roof m p (Bump r) = refl
  roof m p (Push1 r) = refl
  roof m p (Push2 r) = refl
  roof m p (Unwind f) = refl
  roof m p (Arrive r d) = refl
  roof m p (Join r d) = refl
  roof m p Pop1 = refl
  roof m p (Pop2 r) = refl
  roof m p Seek = refl
  roof m p (Steal v x) = refl
  roof m p (Check v x) = refl
  roof m p (Take v x) = refl
  roof m p (Take2 v) = refl

  frees : (m : Cell → ℕ) (p : ℕ) (k : RestartKind) → Free i m p k → Free j m p k
  frees m p (Run f y) a = a
  frees m p (Bump r) a = a
  frees m p (Push1 r) a = a
  frees m p (Push2 r) a = a
  frees m p (Unwind f) a = a
  frees m p (Arrive r d) a = a
  frees m p (Join r d) a = a
  frees m p Pop1 a = a
  frees m p (Pop2 r) a = a
  frees m p Seek a = a
  frees m p (Steal v x) a = a
  frees m p (Check v x) a = a
  frees m p (Take v x) a = a
  frees m p (Take2 v) a = a

  reached : (m : Cell → ℕ) (seat : Seat) (k : ℕ) (r rest : Row) → Reach i m seat k r rest → Reach j m seat k r rest
  reached m seat zero r rest q = q
  reached m seat (suc k) (Now (Load point)) rest q = reached m seat k _ rest q
  reached m seat (suc k) (Now (Install x)) rest q = absurd q
  reached m seat (suc k) (Now (Fork x)) rest q = absurd q
  reached m seat (suc k) (Now (Begin x f b)) rest q = absurd q
  reached m seat (suc k) (Now (Move x)) rest q = absurd q
  reached m seat (suc k) (Now (Enter x)) rest q = absurd q
  reached m seat (suc k) (Now Again) rest q = absurd q
  reached m seat (suc k) (Now Broken) rest q = absurd q
  reached m seat (suc k) (Store c w next) rest q = (q.0, reached m seat k (Now next) rest q.1)
  reached m seat (suc k) (Exchange c old new next) rest q = (q.0, reached m seat k (Now next) rest q.1)

  under : (m : Cell → ℕ) (p : ℕ) (k : RestartKind) (row : Row) → Under i m p k row → Under j m p k row
  under m p (Run f y) row a = a
  under m p (Bump r) row a = (a.0, a.1, reached m _ a.1 _ row a.2)
  under m p (Unwind f) row a = (a.0, a.1, reached m _ a.1 _ row a.2)
  under m p (Arrive r d) row a = (a.0, a.1, reached m _ a.1 _ row a.2)
  under m p (Join r d) row (inl a) = inl (a.0, a.1, reached m _ a.1 _ row a.2)
  under m p (Join r d) row (inr a) = inr a
  under m p (Push1 r) row a = tt
  under m p (Push2 r) row a = tt
  under m p Pop1 row a = tt
  under m p (Pop2 r) row a = tt
  under m p Seek row a = tt
  under m p (Steal v x) row a = tt
  under m p (Check v x) row a = tt
  under m p (Take v x) row a = tt
  under m p (Take2 v) row a = tt

  does : (m : Cell → ℕ) (p : ℕ) (k : RestartKind) (d : Doing) → Does i m p k d → Does j m p k d
  does m p k Resting a = tt
  does m p k (InRow row) a = under m p k row a
  does m p (Run f y) (InRest rest) a = a
  does m p _ (InRest rest) a = absurd a

  head : (s : State) (t : Skeleton) (x : ℕ) → Head i s t x → Head j s t x
  head s t x a = record { there = a.there; first = a.first; under = subst (λ (z : ℕ). x < z) (sym (roof s.words _ (s.kind _))) a.under; bare = a.bare }

  ordered : (s : State) (t : Skeleton) (m : Cell → ℕ) (k : RestartKind) → Ordered i s t m k → Ordered j s t m k
  ordered s t m (Arrive r d) a = head s t (r + 1) a
  ordered s t m (Join r d) a = (head s t (r + 1) a.0, a.1)
  ordered s t m (Run f y) a = tt
  ordered s t m (Bump r) a = tt
  ordered s t m (Push1 r) a = tt
  ordered s t m (Push2 r) a = tt
  ordered s t m (Unwind f) a = tt
  ordered s t m Pop1 a = tt
  ordered s t m (Pop2 r) a = tt
  ordered s t m Seek a = tt
  ordered s t m (Steal v x) a = tt
  ordered s t m (Check v x) a = tt
  ordered s t m (Take v x) a = tt
  ordered s t m (Take2 v) a = tt

  -- what is kept is kept where that is true of its counts
  pub recount : (root : Tree (Frame FrameWord Point) Result) (input : Words) (s : State) (t : Skeleton) → (law : IsKept i root input s t) → q law.ahead.0 ≡ true
      → (kept : IsKept j root input s t) × (kept.ahead.0 ≡ law.ahead.0)
  recount root input s t law so = (
    record {
      ahead = law.ahead;
      good = law.good;
      apart = law.apart;
      below = λ x ne. let b = law.below x ne in (b.0, subst (λ (z : ℕ). x < z) (sym (roof s.words _ (s.kind _))) b.1);
      there = law.there;
      places = law.places;
      rooms = λ p. subst (λ (z : ℕ). (start i p ≤ z) × (z ≤ end_of i p)) (sym (roof s.words p (s.kind p))) (law.rooms p);
      free = λ p. frees s.words p (s.kind p) (law.free p);
      does = λ p. does s.words p (s.kind p) (s.doing p) (law.does p);
      orders = λ p. ordered s t s.words (s.kind p) (law.orders p);
      finished = law.finished;
      copies = law.copies;
      untaken = law.untaken;
      aims = law.aims;
      paid = λ p. let e = roof s.words p (s.kind p) in let a = law.paid p in omega (arith, e, a);
      counted = so;
    },
    refl,
  )

  -- the tree after a turn is the same
  opens_same : (m : Cell → ℕ) (p r : ℕ) (k : LinkKind) → opened j m p r k ≡ opened i m p r k
  opens_same m p r (Called g z) = refl
  opens_same m p r (Forked g z) = refl
  opens_same m p r Root = refl
  opens_same m p r (Branch d q) = refl

  run_same : (m : Cell → ℕ) (p f y : ℕ) (kind : RestartKind) (t : Skeleton) → by_install j m p (Run f y) kind t ≡ by_install i m p (Run f y) kind t
  run_same m p f y (Bump r) t = ap (λ (u : Stand → ℕ → ℕ → Skeleton). grow p u t) (opens_same m p r (link_at (m (BlockWord r))).kind)
  run_same m p f y (Run g z) t = refl
  run_same m p f y (Unwind g) t = refl
  run_same m p f y (Push1 r) t = refl
  run_same m p f y (Push2 r) t = refl
  run_same m p f y (Arrive r d) t = refl
  run_same m p f y (Join r d) t = refl
  run_same m p f y Pop1 t = refl
  run_same m p f y (Pop2 r) t = refl
  run_same m p f y Seek t = refl
  run_same m p f y (Steal v x) t = refl
  run_same m p f y (Check v x) t = refl
  run_same m p f y (Take v x) t = refl
  run_same m p f y (Take2 v) t = refl

  install_same : (m : Cell → ℕ) (p : ℕ) (k kind : RestartKind) (t : Skeleton) → by_install j m p k kind t ≡ by_install i m p k kind t
  install_same m p (Run f y) kind t = run_same m p f y kind t
  install_same m p (Bump r) kind t = refl
  install_same m p (Push1 r) kind t = refl
  install_same m p (Push2 r) kind t = refl
  install_same m p (Unwind f) kind t = refl
  install_same m p (Arrive r d) kind t = refl
  install_same m p (Join r d) kind t = refl
  install_same m p Pop1 kind t = refl
  install_same m p (Pop2 r) kind t = refl
  install_same m p Seek kind t = refl
  install_same m p (Steal v x) kind t = refl
  install_same m p (Check v x) kind t = refl
  install_same m p (Take v x) kind t = refl
  install_same m p (Take2 v) kind t = refl

  step_same : (m : Cell → ℕ) (words : List ℕ) (x : Standing) (t : Skeleton) → tree_with j m words x t ≡ tree_with i m words x t
  step_same m words (IsWithin seat (Now next)) t = refl
  step_same m words (IsWithin seat (Store cell content next)) t = refl
  step_same m words (IsWithin seat (Exchange cell old new next)) t = refl
  step_same m words (IsRunning seat (Installs kind)) t = install_same m seat.place seat.restart.kind kind t
  step_same m words (IsRunning seat (Loads cell go)) t = refl
  step_same m words (IsRunning seat (Stores cell content rest)) t = refl
  step_same m words (IsRunning seat Full) t = refl
  step_same m words (IsRunning seat Breaks) t = refl
  step_same m words IsLost t = refl
  step_same m words (IsPlaced p) t = refl
  step_same m words (IsAt p restart) t = refl
  step_same m words (IsBroken p) t = refl
  step_same m words IsDone t = refl

  pub tree_same : (m : Cell → ℕ) (words : List ℕ) (act : Act) (x : Standing) (t : Skeleton) → act_with j m words act x t ≡ act_with i m words act x t
  tree_same m words (Step v) x t = step_same m words x t
  tree_same m words Soft x t = refl
  tree_same m words Hard x t = refl
  tree_same m words (Quit why) x t = refl

  -- the followed places are left out alike
  settled_same : (m : Cell → ℕ) (v c : ℕ) → settled j m v c ≡ settled i m v c
  settled_same m v c = fun_ext by
    where
      by : (cell : Cell) → settled j m v c cell ≡ settled i m v c cell
      by (RoomCounter x) = refl
      by (BlockWord x) = refl
      by _ = refl

  words_same : (l : List Followed) (m : Cell → ℕ) → left_words j l m ≡ left_words i l m
  words_same [] m = refl
  words_same (v ∷ l) m = settled_same (left_words j l m) v.place v.top ∙ ap (λ (w : Cell → ℕ). settled i w v.place v.top) (words_same l m)

  pub left_same : (l : List Followed) (s : State) → left j l s ≡ left i l s
  left_same l s = ap (λ (w : Cell → ℕ). record { words = w; kind = left_kinds l s.kind; doing = s.doing }) (words_same l s.words)

  -- what the deque's half says is said of both
  takes : (state : Machine) (t : Skeleton) (p : ℕ) (row : Row) → TakesSo i state t p row → TakesSo j state t p row
  takes state t p (Now (Load (Offset r b))) a = a
  takes state t p (Now (Begin r f b)) a = a
  takes state t p _ a = tt

  kind_if : (words : List ℕ) (p : ℕ) (restart : Option Restart) → IsKindIf i words p restart → IsKindIf j words p restart
  kind_if words p None a = tt
  kind_if words p (Some restart) a = a

  -- but where a capsule ends
  none_ends : (seat : Seat) (rest : Rest) → ended_by (IsRunning seat rest) ≡ 0 → (kind : RestartKind) → rest ≡ Installs kind → AllowsAll j
  none_ends seat rest none kind e = absurd (let one : 1 ≡ 0 = ap (λ (x : Rest). ended_by (IsRunning seat x)) (sym e) ∙ none in omega (arith, one))

  stands : (state : Machine) (t : Skeleton) (c : ℕ) (x : Standing) → ended_by x ≡ 0 → StandsSo i state t c x → StandsSo j state t c x
  stands state t c IsLost none a = tt
  stands state t c (IsPlaced p) none a = tt
  stands state t c (IsAt p restart) none a = (a.0, kind_if state.words p restart a.1)
  stands state t c (IsWithin seat row) none a = record {
    holds = a.holds;
    own = a.own;
    kind = a.kind;
    there = a.there;
    came = a.came;
    takes = λ taker. takes state t seat.place row (a.takes taker);
  }
  stands state t c (IsRunning seat rest) none a = record { holds = a.holds; kind = a.kind; there = a.there; counts = none_ends seat rest none }
  stands state t c (IsBroken p) none a = a
  stands state t c IsDone none a = tt

  pub acts_more : (state : Machine) (t : Skeleton) (c : ℕ) (act : Act) (x : Standing) → by_step ended_by act x ≡ 0 → ActsSo i state t c act x → ActsSo j state t c act x
  acts_more state t c (Step v) x none a = (a.0, stands state t c x none a.1)
  acts_more state t c Soft x none a = a
  acts_more state t c Hard x none a = a
  acts_more state t c (Quit why) x none a = a

  away_more : (l : List Followed) (act : Act) (x : Standing) → StepsAway i l act x → StepsAway j l act x
  away_more l (Step v) x a = a
  away_more l Soft x a = a
  away_more l Hard x a = a
  away_more l (Quit why) x a = a

-- just these counts
abbrev pub exactly : Counts → Counts → Bool
exactly k j = (j.capsules == k.capsules) && ((j.forks == k.forks) && (j.block_words == k.block_words))

pub exactly_is : (k : Counts) → exactly k k ≡ true
exactly_is k = and_from (k.capsules == k.capsules) _ (eq-eqb k.capsules k.capsules refl)
    (and_from (k.forks == k.forks) _ (eq-eqb k.forks k.forks refl) (eq-eqb k.block_words k.block_words refl))

pub exactly_says : (k j : Counts) → exactly k j ≡ true → j ≡ k
exactly_says k j e =
    let two = and_parts (j.capsules == k.capsules) _ e in
    let more = and_parts (j.forks == k.forks) _ two.1 in
    counts_path (eqb-true j.capsules k.capsules two.0) (eqb-true j.forks k.forks more.0) (eqb-true j.block_words k.block_words more.1)

-- kept, with so many counted
abbrev pub Counted : (i : Setting) (root : Tree (Frame FrameWord Point) Result) (input : Words) → State → Skeleton → (capsules forks : ℕ) → Type 0
Counted i root input s t n m = (kept : IsKept i root input s t) × (kept.ahead.0.capsules ≡ n) × (kept.ahead.0.forks ≡ m)

-- what is kept whatever is asked of the counts has the counts that there were
module _ (i : Setting) (root : Tree (Frame FrameWord Point) Result) (input : Words) (s : State) (t : Skeleton) (law : IsKept i root input s t) where
  abbrev pub asked : Setting
  asked = counting (exactly law.ahead.0) i

  pub as_asked : IsKept asked root input s t
  as_asked = (recount i (exactly law.ahead.0) root input s t law (exactly_is law.ahead.0)).0

  pub answered : (z : State) (u : Skeleton) → IsKept asked root input z u → Counted i root input z u law.ahead.0.capsules law.ahead.0.forks
  answered z u kept =
      let same : kept.ahead.0 ≡ law.ahead.0 = exactly_says law.ahead.0 kept.ahead.0 kept.counted in
      let back = recount asked i.counted root input z u kept (ap i.counted same ∙ law.counted) in
      let all = back.1 ∙ same in
      (back.0, ap (λ (k : Counts). k.capsules) all, ap (λ (k : Counts). k.forks) all)

module _ (i : Setting) (fair : IsFair i.code) (root : Tree (Frame FrameWord Point) Result) (input : Words) (state : Machine) (l : List Followed) (apart : AreApart l) (t : Skeleton)
    (law : IsKept i root input (left i l (places_of i.shape state)) t) where
  abbrev S : State
  S = left i l (places_of i.shape state)

  abbrev k : Counts
  k = law.ahead.0

  abbrev other : Setting
  other = asked i root input S t law

  -- what is kept stays so with another question to the counts
  other_law : IsKept other root input (left other l (places_of i.shape state)) t
  other_law = subst (λ (z : State). IsKept other root input z t) (sym (left_same i (exactly k) l (places_of i.shape state))) (as_asked i root input S t law)

  -- after an act
  abbrev Then : (c : ℕ) (act : Act) → Standing → Type 0
  Then c act x = Counted i root input (left i l (places_of i.shape (happens i.shape i.code state (record { processor = c; act = act })))) (act_with i S.words state.words act x t)
      (k.capsules + by_step ended_by act x) (k.forks + by_step (opened_by S.words) act x)

  -- by which no capsule ends
  stays : (c : ℕ) (act : Act) → ActsSo i state t c act (stand_of state c) → StepsAway i l act (stand_of state c) → by_step ended_by act (stand_of state c) ≡ 0 → by_step (opened_by S.words) act (stand_of state c) ≡ 0 → Then c act (stand_of state c)
  stays c act so away none no_fork =
      let x = stand_of state c in
      let turn : Turn = record { processor = c; act = act } in
      let after = turns_keep_left other fair root input state l apart t other_law turn (acts_more i (exactly k) state t c act x none so) (away_more i (exactly k) l act x away) in
      let same = left_same i (exactly k) l in
      let kept = subst₂ (λ (z : State) (u : Skeleton). IsKept other root input z u) (same (places_of i.shape (happens i.shape i.code state turn)))
      (ap (λ (m : Cell → ℕ). act_with other m state.words act x t) (words_same i (exactly k) l (view i.shape state.words)) ∙ tree_same i (exactly k) S.words state.words act x t) after in
      let all = answered i root input S t law (left i l (places_of i.shape (happens i.shape i.code state turn))) (act_with i S.words state.words act x t) kept in
      (all.0, let a = all.1 in omega (arith, a, none), let a = all.2 in omega (arith, a, no_fork))

  -- the end of a capsule
  module _ (c v : ℕ) (seat : Seat) (kind : RestartKind) (e : stand_of state c ≡ IsRunning seat (Installs kind)) (so : InRestSo i state c seat (Installs kind)) (away : IsAway l seat.place) where
    abbrev p : ℕ
    p = seat.place

    doing : S.doing p ≡ InRest (Installs kind)
    doing = doing_here (stand_of state) (stand_of state) c p (IsRunning seat (Installs kind)) e (λ d ne. refl) so.holds.own refl so.holds.others i.shape.processors so.holds.there

    own_kind : S.kind p ≡ seat.restart.kind
    own_kind = kind_away l (places_of i.shape state).kind p away ∙ so.kind

    counts_at : (q : RestartKind) → S.kind p ≡ q → Does i S.words p q (InRest (Installs kind)) → Counted i root input (installs S p kind) (by_install i S.words p q kind t) (k.capsules + 1) (k.forks + forks_with S.words kind)
    counts_at (Run f y) ke come = rest_counts i fair root input S t law p so.holds.place (others_keep i fair root input S t law p) f y (subst HasCopy ke (law.copies p)) ke kind (so.counts kind refl) come
    counts_at _ ke come = absurd come

    ends_count : Then c (Step v) (IsRunning seat (Installs kind))
    ends_count =
        let shown = ((turns_show i.shape i.code state c).0 seat so.holds).1.installs v kind e so.there in
        subst (λ (z : State). Counted i root input z (by_install i S.words p seat.restart.kind kind t) (k.capsules + 1) (k.forks + forks_with S.words kind))
        (sym (ap (left i l) shown ∙ installs_left i root input (places_of i.shape state) l apart p kind away))
        (counts_at seat.restart.kind own_kind (subst₂ (λ (q : RestartKind) (d : Doing). Does i S.words p q d) own_kind doing (law.does p)))

  -- a step, by where the processor stands
  module _ (c v : ℕ) where
    others : (x : Standing) → stand_of state c ≡ x → ActsSo i state t c (Step v) x → StepsAway i l (Step v) x → ended_by x ≡ 0 → opened_by S.words x ≡ 0 → Then c (Step v) x
    others x e so away none no_fork = subst (Then c (Step v)) e
        (stays c (Step v) (subst (ActsSo i state t c (Step v)) (sym e) so) (subst (StepsAway i l (Step v)) (sym e) away) (ap ended_by e ∙ none) (ap (opened_by S.words) e ∙ no_fork))

    by_stand : (x : Standing) → stand_of state c ≡ x → ActsSo i state t c (Step v) x → StepsAway i l (Step v) x → Then c (Step v) x
    by_stand (IsRunning seat (Installs kind)) e so away = ends_count c v seat kind e so.1 away.0
    by_stand (IsRunning seat (Loads cell go)) e so away = others (IsRunning seat (Loads cell go)) e so away refl refl
    by_stand (IsRunning seat (Stores cell content rest)) e so away = others (IsRunning seat (Stores cell content rest)) e so away refl refl
    by_stand (IsRunning seat Full) e so away = others (IsRunning seat Full) e so away refl refl
    by_stand (IsRunning seat Breaks) e so away = others (IsRunning seat Breaks) e so away refl refl
    by_stand (IsWithin seat row) e so away = others (IsWithin seat row) e so away refl refl
    by_stand IsLost e so away = others IsLost e so away refl refl
    by_stand (IsPlaced q) e so away = others (IsPlaced q) e so away refl refl
    by_stand (IsAt q restart) e so away = others (IsAt q restart) e so away refl refl
    by_stand (IsBroken q) e so away = others (IsBroken q) e so away refl refl
    by_stand IsDone e so away = others IsDone e so away refl refl

  by_turn : (c : ℕ) (act : Act) → ActsSo i state t c act (stand_of state c) → StepsAway i l act (stand_of state c) → Then c act (stand_of state c)
  by_turn c (Step v) so away = by_stand c v (stand_of state c) refl so away
  by_turn c Soft so away = stays c Soft so away refl refl
  by_turn c Hard so away = stays c Hard so away refl refl
  by_turn c (Quit why) so away = stays c (Quit why) so away refl refl

  -- a turn of an heir
  module _ (c victim : ℕ) (seat : Seat) (next : Ending) (v : ℕ) (at : stand_of state c ≡ IsWithin seat (Now next)) (heir : Heired i state l t c seat next v) where
    abbrev P : State
    P = places_of i.shape state

    heir_too : Heired other state l t c seat next v
    heir_too = record {
      holds = heir.holds;
      kind = heir.kind;
      there = heir.there;
      idle = heir.idle;
      away = heir.away;
      place = heir.place;
      still = heir.still;
      rests = heir.rests;
      ends = heir.ends;
      goes = subst (λ (z : State). GoesOnAs z t v (kinds_of i.shape state.words v) (kind_then next)) (sym (left_same i (exactly k) l P)) heir.goes;
    }

    more_same : and_followed other l P v ≡ and_followed i l P v
    more_same = ap (λ (n : ℕ). record { place = v; top = n } ∷ l)
        (roof i (exactly k) (left other l P).words v (left_kinds l P.kind v) ∙ ap (λ (m : Cell → ℕ). ceiling i m v (left_kinds l P.kind v)) (words_same i (exactly k) l P.words))

    heir_counts : Counted i root input (left i (and_followed i l P v) (places_of i.shape (happens i.shape i.code state (record { processor = c; act = Step victim })))) (handed v seat.place t) k.capsules k.forks
    heir_counts =
        let n = places_of i.shape (happens i.shape i.code state (record { processor = c; act = Step victim })) in
        let after = heir_turns_keep other fair root input state l apart t other_law c victim seat next v at heir_too in
        answered i root input S t law (left i (and_followed i l P v) n) (handed v seat.place t)
        (subst (λ (z : State). IsKept other root input z (handed v seat.place t)) (ap (λ (m : List Followed). left other m n) more_same ∙ left_same i (exactly k) (and_followed i l P v) n) after)

pub counts_are_exact : CountsAreExact
counts_are_exact i fair root input state l apart t law turn so away = by_turn i fair root input state l apart t law turn.processor turn.act so away

pub heirs_count_none : HeirsCountNone
heirs_count_none i fair root input state l apart t law c victim seat next v at heir = heir_counts i fair root input state l apart t law c victim seat next v at heir

pub capsules_are_counted : CapsulesAreCounted
capsules_are_counted i fair plain root input state t law turn so =
    let all = counts_are_exact i fair root input state [] tt t law turn so (act_away i plain turn.act (stand_of state turn.processor)) in
    (all.0, let a = all.1 in omega (arith, a))
