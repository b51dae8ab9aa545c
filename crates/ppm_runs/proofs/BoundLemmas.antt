-- The work of runs is bounded, turn by turn.
use Rattle.std.proofs.Common.{◌≡◌, ◌≢◌, ◌⊎◌, ◌≤◌, ◌<◌, ℕ, zero, suc, ◌+◌, ◌*◌, ◌||◌, Bool, true, false, if◌then◌else◌, List, Option, Some, None, [], ◌∷◌, ◌++◌, length, replicate, inl, inr, refl, sym, ap, ◌∙◌, subst, subst₂, arith}
use Rattle.std.specs.Prelude.{slice_get, slice_index, nat_lt}
use Rattle.std.specs.List.{AllByRecursion}
use Rattle.std.proofs.Math.Path.{fun_ext}
use Rattle.std.proofs.lemmas.Bool.{cases_eq, cases_Bool, eq-eqb, ne_eqb}
use Rattle.ppm_strands.specs.Tree.{Words, Tree}
use Rattle.ppm_strands.specs.Calm.{Calm}
use Rattle.ppm_strands.specs.Run.{End, Ends as EndsSo}
use Rattle.ppm_words.specs.declared.named_array.NamedArray.{NamedArray}
use Rattle.ppm_cells.specs.Cells.{address, place_size, pool_at}
use Rattle.ppm_cells.specs.Memory.{read, AreWordsOf}
use Rattle.ppm_cells.specs.Restart.{restart_of}
use Rattle.ppm_cells.specs.declared.cell.Cell.TheVariants.{FinishWord, CarryWord, RestartWord}
use Rattle.ppm_cells.specs.declared.link.LinkKind.TheVariants.{Root}
use Rattle.ppm_cells.specs.declared.restart.Restart.{Restart}
use Rattle.ppm_cells.specs.declared.restart.RestartKind.{RestartKind}
use Rattle.ppm_cells.specs.declared.restart.RestartKind.TheVariants.{Run, Bump, Push1, Push2, Unwind, Arrive, Join, Pop1, Pop2, Seek, Steal, Check, Take, Take2}
use Rattle.ppm_cells.specs.declared.shape.Shape.{Shape}
use Rattle.ppm_cells.specs.declared.shape.Takeover.{Takeover}
use Rattle.ppm_cells.specs.declared.shape.Takeover.TheVariants.{ByPlaces, ByEntries}
use Rattle.ppm_strands.specs.Strand.{Frame}
use Rattle.ppm_code.specs.Sizes.{slots_of}
use Rattle.ppm_code.specs.Strands.{Point, Result}
use Rattle.ppm_code.specs.declared.code.CodeParts.{CodeParts}
use Rattle.ppm_code.specs.declared.location.FrameWord.{FrameWord}
use Rattle.ppm_layout.specs.Correct.{Opens}
use Rattle.ppm_layout.specs.Root.{root_strand}
use Rattle.ppm_layout.specs.declared.images.Image.{Image}
use Rattle.ppm_step.specs.Among.{IsTurnAmong}
use Rattle.ppm_step.specs.Laws.{finish_at, reached}
use Rattle.ppm_step.specs.Frames.{Installs}
use Rattle.ppm_step.specs.Standings.{Standing, IsLost, IsPlaced, IsAt, IsWithin, IsRunning, IsBroken, IsDone, unknown_place, at_finish, went}
use Rattle.ppm_step.specs.declared.row.Row.TheVariants.{Now}
use Rattle.ppm_step.specs.declared.row.Seat.{Seat}
use Rattle.ppm_step.specs.declared.row.Then.TheVariants.{Install, Fork, Begin, Move}
use Rattle.ppm_step.specs.State.{State as RunState, stand_in, stand_of, found_in, words_after, want_of, stand_after, acts, happens, after, along, opening, is_done_at, is_step, is_work_turn, forks_of, takes_of, work_of}
use Rattle.ppm_step.proofs.FinishLemmas.{finish_stays}
use Rattle.ppm_step.proofs.WordLemmas.{exchanged_to}
use Rattle.ppm_step.specs.declared.ask.Want.TheVariants.{Exchanges as WantsExchange}
use Rattle.ppm_step.specs.declared.turn.Act.{Act}
use Rattle.ppm_step.specs.declared.turn.Act.TheVariants.{Step, Soft, Hard, Quit}
use Rattle.ppm_step.specs.declared.turn.Turn.{Turn}
use Rattle.ppm_paces.specs.Costs.{cost, due}
use Rattle.ppm_paces.specs.Paces.{Paces, is_in_row, is_broken_at, keeps_row, made_then, made_behind, is_strike, strikes_of}
use Rattle.ppm_paces.proofs.PaceLemmas.{one, most, Sets, Halts, Keeps, before_none, made_few}
use Rattle.ppm_paces.proofs.RunLemmas.{stand_own, turn_keeps, turn_else, paces_behind}
use Rattle.ppm_tickets.specs.Along.{by_act, homes, forked as forked_in, taken as taken_in}
use Rattle.ppm_tickets.specs.Homes.{Home, Unborn}
use Rattle.ppm_tickets.specs.Lawful.{IsAlive, Rooted}
use Rattle.ppm_tickets.specs.Saw.{Sees, Sits}
use Rattle.ppm_tickets.specs.View as spots
use Rattle.ppm_tickets.specs.Words.{Spot, Carry, Word, Number, put}
use Rattle.ppm_tickets.proofs.WriteLemmas.{put_here, put_else}
use Rattle.ppm_frames.specs.Views.{view}
use Rattle.ppm_frames.specs.Seen.{arrays_at}
use Rattle.ppm_frames.specs.Skeletons.{Begins, InPlace, Skeleton, Leaf}
use Rattle.ppm_kept.specs.Running.{IsFair, strands}
use Rattle.ppm_kept.specs.Fates.{Agrees}
use Rattle.ppm_kept.specs.Kept.{State, put as set}
use Rattle.ppm_kept.specs.Left.{Followed, left_kinds, InheritsNone}
use Rattle.ppm_kept.specs.Steps.{tree_after}
use Rattle.ppm_kept.specs.Credit.{owed, paid_by, ended_by, by_step}
use Rattle.ppm_kept.proofs.BeginLemmas.{machines_open}
use Rattle.ppm_kept.proofs.CountLemmas.{capsules_are_counted}
use Rattle.ppm_kept.proofs.LeftLemmas.{kind_away, kind_or}
use Rattle.ppm_kept.proofs.PayingLemmas.{credit_stays}
use Rattle.ppm_kept.proofs.PutLemmas.{put_here as set_here, put_else as set_else}
use Rattle.ppm_runs.specs.Follow.{IsHalves}
use Rattle.ppm_runs.specs.Run.{setting, fate_of, IsRun}
use Rattle.ppm_runs.specs.Work.{is_push, is_at_push, undoes, undone_of, UndoneAreStruck}
use Rattle.ppm_runs.proofs.StandLemmas.{kinds_same}
use Rattle.ppm_runs.proofs.SumLemmas.{sum, sum_at, sum_le, sum_zero}
use Rattle.ppm_runs.proofs.OrderlyLemmas.{how_or}
use Rattle.ppm_runs.proofs.ShownLemmas.{halves}
use Rattle.ppm_runs.proofs.WorkLemmas.{Installed, IsFreeAt, step_kinds, act_kinds, Moves, act_carries, At, one_at, Claim, rows_within, few_capsules, free_at}
use Rattle.ppm_runs.proofs.GoingLemmas.{turns_go_on, acts_so}
use Rattle.ppm_runs.proofs.JoinLemmas.{joins_stay}
use Rattle.ppm_runs.proofs.BearingLemmas.{births_follow}
use Rattle.ppm_runs.proofs.BrokenLemmas.{broken_follow}
use Rattle.ppm_runs.proofs.OpenLemmas.{runs_open}
use Rattle.ppm_runs.proofs.WholeLemmas.{in_two}
use Rattle.ppm_runs.proofs.AgainLemmas.{again, again_none, again_live, again_push, again_not, left_at, step_live}

-- lists of none or one
told_one : (b : Bool) (c : ℕ) → length (if b then c ∷ [] else []) ≡ one b
told_one true c = refl
told_one false c = refl

pub length_both : (a b : List ℕ) → length (a ++ b) ≡ length a + length b
length_both [] b = omega arith
length_both (x ∷ a) b = let e = length_both a b in omega (arith, e)

-- the words of a machine have a finish word
some_words : (s : Shape) (words : List ℕ) → AreWordsOf s words → 0 < length words
some_words s words are = by s.processors (s.processors * place_size s) s.arrays (length words) are
  where
    by : (p x m n : ℕ) → n ≡ 1 + 2 * p + x + m → 0 < n
    by p x m n e = omega (arith, e)

module _ (s : Shape) (code : CodeParts) (state : RunState) (c : ℕ) (act : Act) where
  -- the words after an act of a processor that isn't done
  live_words : (x : Standing) → is_done_at x ≡ false → (acts s code state c act x).words ≡ words_after state.words (want_of s code c act x)
  live_words IsLost e = refl
  live_words (IsPlaced p) e = refl
  live_words (IsAt p r) e = refl
  live_words (IsWithin seat row) e = refl
  live_words (IsRunning seat rest) e = refl
  live_words (IsBroken p) e = refl
  live_words IsDone e = absurd (cc)

  pub live_stands : (x : Standing) → stand_of state c ≡ x → is_done_at x ≡ false
      → stand_of (acts s code state c act x) c ≡ stand_after s code c act (found_in state.words (want_of s code c act x)) x
  live_stands IsLost e live = stand_own state.stand c _ (λ d. let z = sym e ∙ d in cc)
  live_stands (IsPlaced p) e live = stand_own state.stand c _ (λ d. let z = sym e ∙ d in cc)
  live_stands (IsAt p r) e live = stand_own state.stand c _ (λ d. let z = sym e ∙ d in cc)
  live_stands (IsWithin seat row) e live = stand_own state.stand c _ (λ d. let z = sym e ∙ d in cc)
  live_stands (IsRunning seat rest) e live = stand_own state.stand c _ (λ d. let z = sym e ∙ d in cc)
  live_stands (IsBroken p) e live = stand_own state.stand c _ (λ d. let z = sym e ∙ d in cc)
  live_stands IsDone e live = absurd (cc)

-- what has been made of a row
then_most : (w r : Bool) (made : ℕ) → (if w then (if r then made + 1 else 0) else 0) ≤ made + one w
then_most true true made = omega arith
then_most true false made = omega arith
then_most false r made = omega arith

then_none : (w r : Bool) (made : ℕ) → w ≡ false → (if w then (if r then made + 1 else 0) else 0) ≡ 0
then_none true r made e = absurd (cc)
then_none false r made e = refl

-- an install, and a move, meet no broken words
leaves_whole : (s : Shape) (code : CodeParts) (c v found : ℕ) (x : Standing) → Sets x ⊎ Moves x → is_broken_at (went s code c v found x) ≡ false
leaves_whole s code c v found (IsWithin seat (Now (Install re))) a = refl
leaves_whole s code c v found (IsWithin seat (Now (Fork r))) a = refl
leaves_whole s code c v found (IsWithin seat (Now (Begin r f b))) a = refl
leaves_whole s code c v found (IsWithin seat (Now (Move q))) a = refl
leaves_whole s code c v found (IsRunning seat (Installs kind)) a = refl
leaves_whole s code c v found _ (inl a) = absurd a
leaves_whole s code c v found _ (inr a) = absurd a

-- a row begins only where the finish word is 0, and stays so
module _ (s : Shape) (code : CodeParts) (state : RunState) (c : ℕ) where
  steps_out : (v : ℕ) (x : Standing) → finish_at s (acts s code state c (Step v) x) ≢ 0 → is_in_row x ≡ false
      → is_in_row (stand_after s code c (Step v) (found_in state.words (want_of s code c (Step v) x)) x) ≡ false
  steps_out v IsLost some out = by (nat_lt (slice_index state.words (address s (CarryWord c))) s.processors)
    where
      by : (b : Bool) → is_in_row (if b then IsPlaced (slice_index state.words (address s (CarryWord c))) else IsBroken unknown_place) ≡ false
      by true = refl
      by false = refl
  steps_out v (IsPlaced p) some out = refl
  steps_out v (IsAt p r) some out = by (slice_index state.words (address s FinishWord)) some
    where
      by : (found : ℕ) → found ≢ 0 → is_in_row (at_finish s code c p r found) ≡ false
      by zero ne = absurd (ne refl)
      by (suc n) ne = refl
  steps_out v (IsWithin seat row) some out = absurd (cc)
  steps_out v (IsRunning seat rest) some out = absurd (cc)
  steps_out v (IsBroken p) some out = refl
  steps_out v IsDone some out = refl

  acts_out : (act : Act) (x : Standing) → finish_at s (acts s code state c act x) ≢ 0 → is_in_row x ≡ false
      → is_in_row (stand_after s code c act (found_in state.words (want_of s code c act x)) x) ≡ false
  acts_out (Step v) x some out = steps_out v x some out
  acts_out Soft x some out = refl
  acts_out Hard x some out = refl
  acts_out (Quit why) x some out = refl

  none_begins : (act : Act) (x : Standing) → stand_of state c ≡ x → finish_at s (acts s code state c act x) ≢ 0 → is_in_row x ≡ false
      → is_in_row (stand_of (acts s code state c act x) c) ≡ false
  none_begins act IsDone e some out = ap is_in_row e
  none_begins act IsLost e some out = ap is_in_row (live_stands s code state c act IsLost e refl) ∙ acts_out act IsLost some out
  none_begins act (IsPlaced p) e some out = ap is_in_row (live_stands s code state c act (IsPlaced p) e refl) ∙ acts_out act (IsPlaced p) some out
  none_begins act (IsAt p r) e some out = ap is_in_row (live_stands s code state c act (IsAt p r) e refl) ∙ acts_out act (IsAt p r) some out
  none_begins act (IsWithin seat row) e some out = absurd (cc)
  none_begins act (IsRunning seat rest) e some out = absurd (cc)
  none_begins act (IsBroken p) e some out = ap is_in_row (live_stands s code state c act (IsBroken p) e refl) ∙ acts_out act (IsBroken p) some out

-- no row makes more than 172 word steps
few_steps : (k : RestartKind) → cost k ≤ 172
few_steps (Run f y) = omega arith
few_steps (Bump r) = omega arith
few_steps (Push1 r) = omega arith
few_steps (Push2 r) = omega arith
few_steps (Unwind f) = omega arith
few_steps (Arrive r d) = omega arith
few_steps (Join r d) = omega arith
few_steps Pop1 = omega arith
few_steps (Pop2 r) = omega arith
few_steps Seek = omega arith
few_steps (Steal v x) = omega arith
few_steps (Check v x) = omega arith
few_steps (Take v x) = omega arith
few_steps (Take2 v) = omega arith

most_few : (s : Shape) (made : ℕ) (x : Standing) → Paces s made x → most made x ≤ 172
most_few s made (IsWithin seat row) p = few_steps seat.restart.kind
most_few s made (IsRunning seat rest) p = few_steps seat.restart.kind
most_few s made (IsBroken place) few = omega (arith, few)
most_few s made IsLost p = omega arith
most_few s made (IsPlaced place) p = omega arith
most_few s made (IsAt place r) p = omega arith
most_few s made IsDone p = omega arith

sum_const : (n : ℕ) → sum n (λ d. 172) ≡ 172 * n
sum_const zero = refl
sum_const (suc n) = let e = sum_const n in omega (arith, e)

-- a finish word that is set stays so
pub finish_still : (s : Shape) (code : CodeParts) (fair : IsFair code) (words : List ℕ) (first : List Turn) (state : RunState) → state ≡ reached s code words first → (turn : Turn)
    → finish_at s state ≢ 0 → finish_at s (happens s code state turn) ≢ 0
finish_still s code fair words first state is turn some zero_ =
    let on : happens s code state turn ≡ reached s code words (first ++ turn ∷ []) = ap (λ (z : RunState). happens s code z turn) is ∙ sym (in_two s code (opening words s.processors) first (turn ∷ [])) in
    let was : finish_at s (reached s code words first) ≢ 0 = λ z. some (ap (finish_at s) is ∙ z) in
    was (sym (finish_stays s code fair.code_is words first (turn ∷ []) was) ∙ sym (ap (finish_at s) on) ∙ zero_)

-- by places what is undone is what is struck
pub undone_are_struck : UndoneAreStruck
undone_are_struck s places state turn =
    ap (λ (how : Takeover). if undoes how turn.act (stand_of state turn.processor) (restart_of (read s state.words (RestartWord turn.processor))) then turn.processor ∷ [] else []) places

pub undone_is : (s : Shape) → s.takeover ≡ ByPlaces → undone_of s ≡ strikes_of
undone_is s places = fun_ext (λ state. fun_ext (λ turn. undone_are_struck s places state turn))

module _ (s : Shape) (code : CodeParts) (fair : IsFair code) (root : Tree (Frame FrameWord Point) Result) (input : Words) (end : End Result) (ends : EndsSo (strands s code) root input end) where
  abbrev N : ℕ
  N = s.processors

  -- what is set aside at places, but for those that others have followed; and beside for those closed at Push2
  abbrev pub dues : List Followed → List ℕ → ℕ
  dues l words = sum N (λ p. due (left_kinds l (spots.kinds s words) p))

  abbrev pub agains : List Followed → RunState → ℕ
  agains l state = sum N (λ p. again s.takeover (stand_of state p) (left_kinds l (spots.kinds s state.words) p))

  abbrev mosts : RunState → (ℕ → ℕ) → ℕ
  mosts state made = sum N (λ c. most (made c) (stand_of state c))

  -- What holds at each moment: processors keep their pace, and what those have made that met broken words is set aside at their
  -- places. While the finish word is 0 the work, what is set aside at places and what the tree owes are paid by the capsules that are
  -- counted, by what was undone and what was lost where words came back, and by what rows under way have made. By places they always are
  -- with all that those may come to, if each processor may lose one row more. And always the work, with all that rows under way may come
  -- to, is within the bound.
  pub record Stage (lost : ℕ) (state : RunState) (h : ℕ → Home) (forked taken : List ℕ) (l : List Followed) (t : Skeleton) (run : IsHalves s code root input state h forked taken l t) (agrees : Agrees t (λ r. fate_of (h r)))
      (work strikes : ℕ) (made : ℕ → ℕ) : Type 0 where
    pub paces : (c : ℕ) → Paces s (made c) (stand_of state c)
    pub claims : (c : ℕ) → Claim s code fair root input state h forked taken l t run agrees c (made c) (stand_of state c)
    pub paid : finish_at s state ≡ 0 → work + dues l state.words + agains l state + owed Root t ≤ 218 * run.kept.ahead.0.capsules + 171 * strikes + sum N made + lost + 6
    pub held : s.takeover ≡ ByPlaces → work + mosts state made + dues l state.words + owed Root t ≤ 218 * run.kept.ahead.0.capsules + 171 * strikes + sum N made + 172 * N + lost + 6
    pub bound : work + mosts state made ≤ 218 * end.counts.capsules + 171 * strikes + sum N made + lost + 6

  -- the bound follows from the payment
  bound_of : (lost : ℕ) (state : RunState) (h : ℕ → Home) (forked taken : List ℕ) (l : List Followed) (t : Skeleton) (run : IsHalves s code root input state h forked taken l t) (agrees : Agrees t (λ r. fate_of (h r))) (work strikes : ℕ) (made : ℕ → ℕ)
      → ((c : ℕ) → Claim s code fair root input state h forked taken l t run agrees c (made c) (stand_of state c))
      → work + dues l state.words + agains l state + owed Root t ≤ 218 * run.kept.ahead.0.capsules + 171 * strikes + sum N made + lost + 6
      → work + mosts state made ≤ 218 * end.counts.capsules + 171 * strikes + sum N made + lost + 6
  bound_of lost state h forked taken l t run agrees work strikes made claims paid =
      let rows = rows_within s code fair root input state h forked taken l t run agrees made claims end ends in
      let few = few_capsules s code fair root input state h forked taken l t run agrees end ends in
      omega (arith, paid, rows, few)

  -- after all turns
  pub work_of_stage : (lost : ℕ) (state : RunState) (h : ℕ → Home) (forked taken : List ℕ) (l : List Followed) (t : Skeleton) (run : IsHalves s code root input state h forked taken l t) (agrees : Agrees t (λ r. fate_of (h r))) (work strikes : ℕ) (made : ℕ → ℕ)
      → Stage lost state h forked taken l t run agrees work strikes made → work ≤ 218 * end.counts.capsules + 171 * strikes + lost + 6
  work_of_stage lost state h forked taken l t run agrees work strikes made stage =
      let less = sum_le N made (λ c. most (made c) (stand_of state c)) (λ c lt. (made_few s code fair.code_is c (made c) (stand_of state c) (stage.paces c)).0) in
      let bound = stage.bound in
      omega (arith, less, bound)

  -- one turn
  module _ (lost : ℕ) (state : RunState) (h : ℕ → Home) (forked taken : List ℕ) (l : List Followed) (t : Skeleton) (run : IsHalves s code root input state h forked taken l t) (agrees : Agrees t (λ r. fate_of (h r)))
      (work strikes : ℕ) (made : ℕ → ℕ) (stage : Stage lost state h forked taken l t run agrees work strikes made)
      (c : ℕ) (act : Act) (among : IsTurnAmong s.processors (record { processor = c; act = act }))
      (stays : finish_at s state ≢ 0 → finish_at s (happens s code state (record { processor = c; act = act })) ≢ 0) where
    abbrev turn : Turn
    turn = record { processor = c; act = act }

    abbrev n : RunState
    n = happens s code state turn

    abbrev x : Standing
    x = stand_of state c

    abbrev y : Standing
    y = stand_of n c

    abbrev k : ℕ
    k = run.kept.ahead.0.capsules

    abbrev made' : ℕ → ℕ
    made' d = made_behind s code d (made d) state turn

    -- what the turn makes of homes and lists
    abbrev h' : ℕ → Home
    h' = by_act s state.words act x h

    abbrev forked' : List ℕ
    forked' = forks_of state turn ++ forked

    abbrev taken' : List ℕ
    taken' = takes_of state turn ++ taken

    keeps : Keeps s code fair.code_is c (made c) act x y
    keeps = turn_keeps s code fair.code_is state turn (made c) (stage.paces c)

    -- the sums
    made_own : made' c ≡ made_then (made c) act x y
    made_own = ap (λ (b : Bool). if b then made_then (made c) act x y else made c) (eq-eqb c c refl)

    made_else : (d : ℕ) → d ≢ c → made' d ≡ made d
    made_else d ne = ap (λ (b : Bool). if b then made_then (made d) act (stand_of state d) (stand_of n d) else made d) (ne_eqb c d (λ e. ne (sym e)))

    made_sum : sum N made' + made c ≡ sum N made + made_then (made c) act x y
    made_sum = let e = sum_at N made made' c among.processor made_else in let own = made_own in omega (arith, e, own)

    stand_else : (d : ℕ) → d ≢ c → stand_of n d ≡ stand_of state d
    stand_else d ne = turn_else s code fair.code_is state turn d ne

    most_sum : mosts n made' + most (made c) x ≡ mosts state made + most (made_then (made c) act x y) y
    most_sum =
        let own : most (made' c) y ≡ most (made_then (made c) act x y) y = ap (λ (n : ℕ). most n y) made_own in
        let all = sum_at N (λ d. most (made d) (stand_of state d)) (λ d. most (made' d) (stand_of n d)) c among.processor
        (λ d ne. ap (λ (k : ℕ). most k (stand_of n d)) (made_else d ne) ∙ ap (most (made d)) (stand_else d ne)) in
        omega (arith, own, all)

    abbrev undone : Bool
    undone = undoes s.takeover act x (restart_of (read s state.words (RestartWord c)))

    abbrev work' : ℕ
    work' = work + length (work_of state turn)

    abbrev strikes' : ℕ
    strikes' = strikes + length (undone_of s state turn)

    work_is : length (work_of state turn) ≡ one (is_work_turn act x)
    work_is = told_one (is_work_turn act x) c

    strike_is : length (undone_of s state turn) ≡ one undone
    strike_is = told_one undone c

    -- where the finish word is set, no row begins
    bound_set : finish_at s n ≢ 0 → work' + mosts n made' ≤ 218 * end.counts.capsules + 171 * strikes' + sum N made' + lost + 6
    bound_set some =
        let spends = keeps.spends (none_begins s code state c act x refl some) in
        let bound = stage.bound in let w = work_is in let z = strike_is in let a = made_sum in let b = most_sum in
        omega (arith, spends, bound, w, z, a, b)

    -- the finish word is set by what halts
    pub halts_set : finish_at s state ≡ 0 → Halts s code fair.code_is c act x → finish_at s n ≢ 0
    halts_set unset halts =
        let words : n.words ≡ words_after state.words (WantsExchange 0 0 halts.1) = live_words s code state c act x halts.0 ∙ ap (words_after state.words) halts.3 in
        λ zero_. halts.2 (sym (ap (λ (ws : List ℕ). slice_index ws 0) words ∙ exchanged_to state.words halts.1 unset (some_words s state.words run.lawful.0)) ∙ zero_)

    -- a finish word that is 0 was 0
    pub was_unset : finish_at s n ≡ 0 → finish_at s state ≡ 0
    was_unset then_ = elim (cases_eq (finish_at s state) 0) [ inl e ↦ e | inr ne ↦ absurd (stays ne then_) ]

    abbrev K : ℕ → RestartKind
    K = spots.kinds s state.words

    abbrev K' : ℕ → RestartKind
    K' = spots.kinds s n.words

    abbrev L : ℕ → RestartKind
    L = left_kinds l K

    abbrev m' : Spot → Word
    m' = spots.view s n.words

    -- what a step makes of the kinds
    stepped : (v : ℕ) → ((spots.kinds s (acts s code state c (Step v) x).words ≡ K) × (Sets x → ⊥)) ⊎ Installed s code fair root input state h forked taken l t run agrees c v (made c) x
    stepped v = step_kinds s code fair root input state h forked taken l t run agrees c v (made c) x refl (stage.paces c)

    by_step_is : (v : ℕ) → act ≡ Step v → K' ≡ spots.kinds s (acts s code state c (Step v) x).words
    by_step_is v is = ap (λ (a : Act). spots.kinds s (acts s code state c a x).words) is

    faults_still : is_step act ≡ false → K' ≡ K
    faults_still e = act_kinds s code fair root input state h forked taken l t run agrees c among.processor act x e

    -- what a place is at stays, if no processor carries it that installs there
    stays_at : (q : ℕ) → ((place : ℕ) → At s code fair root input state h forked taken l t run agrees place c → q ≢ place) → K' q ≡ K q
    stays_at q other = by act refl
      where
        at_q : K' ≡ K → K' q ≡ K q
        at_q same = ap (λ (f : ℕ → RestartKind). f q) same

        by : (a : Act) → act ≡ a → K' q ≡ K q
        by (Step v) is = elim (stepped v) [
          | inl still ↦ at_q (by_step_is v is ∙ still.0)
          | inr put_ ↦ ap (λ (f : ℕ → RestartKind). f q) (by_step_is v is ∙ put_.kinds) ∙ put_else K put_.place put_.kind q (other put_.place (put_.alive, put_.carry))
        ]
        by Soft is = at_q (faults_still (ap is_step is))
        by Hard is = at_q (faults_still (ap is_step is))
        by (Quit why) is = at_q (faults_still (ap is_step is))

    -- the place that a living processor carries by entries
    carries_own : s.takeover ≡ ByEntries → (place : ℕ) → spots.view s state.words (Carry c) ≡ Number place → place ≡ c
    carries_own ih place carry = ap told (sym carry ∙ (subst (λ (how : Takeover). Rooted how (spots.view s state.words)) ih run.lawful.1.rooted) c)
      where
        told : Word → ℕ
        told (Number q) = q
        told _ = 0

    -- by entries the kinds of other places stay
    others_stay : s.takeover ≡ ByEntries → (q : ℕ) → q ≢ c → K' q ≡ K q
    others_stay ih q ne = stays_at q (λ place at_ e. ne (e ∙ carries_own ih place at_.1))

    -- what a processor has made whose place is at Push2
    pushes_few : s.takeover ≡ ByEntries → (r : ℕ) → K c ≡ Push2 r → made c ≤ 3
    pushes_few ih r push = by x refl (stage.paces c) (stage.claims c)
      where
        sees : (z : Standing) → x ≡ z → Sees s (spots.view s state.words) K (spots.bottoms s state.words) c z
        sees z e = subst (Sees s (spots.view s state.words) K (spots.bottoms s state.words) c) e (run.lawful.1.sees c)

        cost_is : (q : ℕ) → q ≡ c → cost (K q) ≡ 3
        cost_is q e = ap cost (ap K e ∙ push)

        by : (z : Standing) → x ≡ z → Paces s (made c) z → Claim s code fair root input state h forked taken l t run agrees c (made c) z → made c ≤ 3
        by (IsWithin seat row) e p claim =
            let a = (sees (IsWithin seat row) e).0 in
            let few = (made_few s code fair.code_is c (made c) (IsWithin seat row) p).0 in
            let same = ap cost a.at.kind in let is = cost_is seat.place (carries_own ih seat.place a.carried.carry) in omega (arith, few, same, is)
        by (IsRunning seat rest) e p claim =
            let a = (sees (IsRunning seat rest) e).0 in
            let few = (made_few s code fair.code_is c (made c) (IsRunning seat rest) p).0 in
            let same = ap cost a.at.kind in let is = cost_is seat.place (carries_own ih seat.place a.carried.carry) in omega (arith, few, same, is)
        by (IsBroken q) e p (inl none) = omega (arith, none)
        by (IsBroken q) e p (inr claim) = let few = claim.3 in let is = cost_is claim.0 (carries_own ih claim.0 claim.2.1) in omega (arith, few, is)
        by IsLost e p claim = omega (arith, p)
        by (IsPlaced q) e p claim = omega (arith, p)
        by (IsAt q re) e p claim = omega (arith, p)
        by IsDone e p claim = omega (arith, p)

    -- a fault that strikes undoes work, and so does one that closes a place at Push2
    strike_less : one (is_strike act x) ≤ one undone
    strike_less = by s.takeover act refl
      where
        either : (a b : Bool) → one a ≤ one (a || b)
        either true b = omega arith
        either false b = omega arith

        by : (how : Takeover) (a : Act) → act ≡ a → one (is_strike a x) ≤ one (undoes how a x (restart_of (read s state.words (RestartWord c))))
        by ByPlaces a e = omega arith
        by ByEntries Hard e = either (is_strike Hard x) (if is_done_at x then false else is_at_push (restart_of (read s state.words (RestartWord c))))
        by ByEntries Soft e = omega arith
        by ByEntries (Step v) e = omega arith
        by ByEntries (Quit why) e = omega arith

    push_undoes : s.takeover ≡ ByEntries → act ≡ Hard → is_done_at x ≡ false → (r : ℕ) → K c ≡ Push2 r → one undone ≡ 1
    push_undoes ih hard live r push = ap one (ap (λ (how : Takeover). undoes how act x (restart_of (read s state.words (RestartWord c)))) ih
        ∙ ap (λ (a : Act). undoes ByEntries a x (restart_of (read s state.words (RestartWord c)))) hard ∙ either (is_strike Hard x) (is_done_at x) live (seen (nat_lt c s.processors) (restart_of (read s state.words (RestartWord c))) push))
      where
        either : (a d : Bool) → d ≡ false → is_at_push (restart_of (read s state.words (RestartWord c))) ≡ true → (a || (if d then false else is_at_push (restart_of (read s state.words (RestartWord c))))) ≡ true
        either true d e p = refl
        either false true e p = absurd (cc)
        either false false e p = p

        seen : (b : Bool) (o : Option Restart) → (if b then spots.restart_or o else spots.seeking).kind ≡ Push2 r → is_at_push o ≡ true
        seen true (Some re) e = ap is_push e
        seen true None e = absurd (cc)
        seen false o e = absurd (cc)

    -- what is set aside beside does not rise, but where a fault closes a place at Push2
    abbrev Beside : Type 0
    Beside = one (is_work_turn act x) + made c + agains l n ≤ made_then (made c) act x y + agains l state + 171 * one undone

    again_sum : s.takeover ≡ ByEntries → agains l n + again s.takeover x (L c) ≡ agains l state + again s.takeover y (left_kinds l K' c)
    again_sum ih = sum_at N (λ p. again s.takeover (stand_of state p) (L p)) (λ p. again s.takeover (stand_of n p) (left_kinds l K' p)) c among.processor
        (λ q ne. ap (λ (z : Standing). again s.takeover z (left_kinds l K' q)) (stand_else q ne) ∙ ap (again s.takeover (stand_of state q)) (left_at l K K' q (others_stay ih q ne)))

    -- who is not done is not after a step, where the finish word is 0
    live_then : finish_at s n ≡ 0 → (v : ℕ) → act ≡ Step v → is_done_at x ≡ false → is_done_at y ≡ false
    live_then then_ v is live = ap is_done_at (live_stands s code state c act x refl live ∙ ap (λ (a : Act). stand_after s code c a (found_in state.words (want_of s code c a x)) x) is)
        ∙ step_live s code state c v x (some_words s state.words run.lawful.0) (was_unset then_) (ap (λ (a : Act). finish_at s (acts s code state c a x)) (sym is) ∙ then_) live

    -- a processor that is done stays so, and all stays
    done_stays : is_done_at x ≡ true → n ≡ state
    done_stays e = by x refl e
      where
        by : (z : Standing) → x ≡ z → is_done_at z ≡ true → acts s code state c act x ≡ state
        by IsDone is e = ap (acts s code state c act) is
        by IsLost is e = absurd (cc)
        by (IsPlaced p) is e = absurd (cc)
        by (IsAt p r) is e = absurd (cc)
        by (IsWithin seat row) is e = absurd (cc)
        by (IsRunning seat rest) is e = absurd (cc)
        by (IsBroken p) is e = absurd (cc)

    again_less : s.takeover ≡ ByEntries → is_done_at y ≡ false → agains l n ≤ agains l state
    again_less ih live = let e = again_sum ih in let none = again_live s.takeover y (left_kinds l K' c) live in omega (arith, e, none)

    again_done : is_done_at x ≡ true → agains l n ≡ agains l state
    again_done e = ap (agains l) (done_stays e)

    -- a step leaves `agains` as it is, or smaller
    again_step : s.takeover ≡ ByEntries → finish_at s n ≡ 0 → (v : ℕ) → act ≡ Step v → agains l n ≤ agains l state
    again_step ih then_ v is = elim (cases_Bool (is_done_at x)) [
      | inl e ↦ let same = again_done e in omega (arith, same)
      | inr live ↦ again_less ih (live_then then_ v is live)
    ]

    again_places : (z : RunState) → s.takeover ≡ ByPlaces → agains l z ≡ 0
    again_places z places = sum_zero N (λ p. again s.takeover (stand_of z p) (left_kinds l (spots.kinds s z.words) p)) (λ p. again_none s.takeover places (stand_of z p) (left_kinds l (spots.kinds s z.words) p))

    -- by any turn
    beside : finish_at s n ≡ 0 → one (is_work_turn act x) + made c ≤ made_then (made c) act x y + 171 * one (is_strike act x) → Beside
    beside then_ le = elim (how_or s.takeover) [
      | inl places ↦ let a = again_places n places in let b = again_places state places in let z = strike_less in omega (arith, a, b, z, le)
      | inr ih ↦ any_act ih act refl
    ]
      where
        less : agains l n ≤ agains l state → Beside
        less a = let z = strike_less in omega (arith, a, z, le)

        struck : s.takeover ≡ ByEntries → act ≡ Hard → is_done_at x ≡ false → (again ByEntries y (left_kinds l K' c) ≡ 0) ⊎ ((again ByEntries y (left_kinds l K' c) ≤ 4) × (r : ℕ) × (left_kinds l K' c ≡ Push2 r)) → Beside
        struck ih hard live (inl none) = less (let e = again_sum ih in let same = ap (λ (how : Takeover). again how y (left_kinds l K' c)) ih in omega (arith, e, none, same))
        struck ih hard live (inr push) =
            let raw : K c ≡ Push2 push.1 = raw_kind (kind_or l K' c) push.2 in
            let e = again_sum ih in let same = ap (λ (how : Takeover). again how y (left_kinds l K' c)) ih in
            let few = pushes_few ih push.1 raw in let one_ = push_undoes ih hard live push.1 raw in
            let look : one (is_work_turn act x) ≡ 0 = ap (λ (a : Act). one (is_work_turn a x)) hard in
            let four = push.0 in
            omega (arith, e, same, few, one_, look, four)
          where
            raw_kind : (left_kinds l K' c ≡ K' c) ⊎ (left_kinds l K' c ≡ Seek) → left_kinds l K' c ≡ Push2 push.1 → K c ≡ Push2 push.1
            raw_kind (inl is) e = sym (ap (λ (f : ℕ → RestartKind). f c) (faults_still (ap is_step hard))) ∙ sym is ∙ e
            raw_kind (inr is) e = absurd (let two : Seek ≡ Push2 push.1 = sym is ∙ e in cc)

        live_fault : s.takeover ≡ ByEntries → (a : Act) → act ≡ a → is_step a ≡ false → (is_done_at x ≡ false → is_done_at y ≡ false) → Beside
        live_fault ih a is fault lives = elim (cases_Bool (is_done_at x)) [
          | inl e ↦ less (let same = again_done e in omega (arith, same))
          | inr live ↦ less (again_less ih (lives live))
        ]

        any_act : s.takeover ≡ ByEntries → (a : Act) → act ≡ a → Beside
        any_act ih (Step v) is = less (again_step ih then_ v is)
        any_act ih Soft is = live_fault ih Soft is refl (λ live. ap is_done_at (live_stands s code state c act x refl live ∙ ap (λ (a : Act). stand_after s code c a (found_in state.words (want_of s code c a x)) x) is))
        any_act ih (Quit why) is = live_fault ih (Quit why) is refl (λ live. ap is_done_at (live_stands s code state c act x refl live ∙ ap (λ (a : Act). stand_after s code c a (found_in state.words (want_of s code c a x)) x) is))
        any_act ih Hard is = elim (cases_Bool (is_done_at x)) [
          | inl e ↦ less (let same = again_done e in omega (arith, same))
          | inr live ↦ struck ih is live (again_push y (left_kinds l K' c))
        ]

    -- what it leads to
    module _ (l' : List Followed) (t' : Skeleton) (run' : IsHalves s code root input n h' forked' taken' l' t') (agrees' : Agrees t' (λ r. fate_of (h' r))) where
      -- What a turn has to show: capsules are counted; while the finish word is 0 what it adds to the work, to what is set aside and to
      -- what the tree owes is paid; and by places that is so of the last two alone.
      pub record Pays : Type 0 where
        pub counted : k + by_step ended_by act x ≤ run'.kept.ahead.0.capsules
        pub pays : finish_at s n ≡ 0
            → one (is_work_turn act x) + made c + dues l' n.words + agains l' n + owed Root t'
            ≤ made_then (made c) act x y + dues l state.words + agains l state + owed Root t + 218 * by_step ended_by act x + 171 * one undone
        pub owes : s.takeover ≡ ByPlaces → dues l' n.words + owed Root t' ≤ dues l state.words + owed Root t + 218 * by_step ended_by act x

      -- who has met broken words
      alive_then : (d p : ℕ) → stand_of n d ≡ IsBroken p → IsAlive m' d
      alive_then d p e = (subst (Sees s m' K' (spots.bottoms s n.words) d) e (run'.lawful.1.sees d)).alive

      abbrev ClaimThen : (d made : ℕ) → Standing → Type 0
      ClaimThen d made z = Claim s code fair root input n h' forked' taken' l' t' run' agrees' d made z

      claim_kept : (d : ℕ) → d ≢ c → (z : Standing) → stand_of n d ≡ z → Claim s code fair root input state h forked taken l t run agrees d (made d) z → ClaimThen d (made d) z
      claim_kept d ne (IsBroken p) e (inl none) = inl none
      claim_kept d ne (IsBroken p) e (inr claim) =
          let same = stays_at claim.0 (λ place at_ q. ne (one_at s code fair root input state h forked taken l t run agrees place d c (subst (λ (z : ℕ). At s code fair root input state h forked taken l t run agrees z d) q claim.2) at_)) in
          inr (
            claim.0,
            claim.1,
            (alive_then d p e, act_carries s code fair root input state h forked taken l t run agrees c among.processor act d (inl ne) ∙ claim.2.1),
            subst (λ (z : RestartKind). made d ≤ cost z) (sym same) claim.3,
          )
      claim_kept d ne IsLost e claim = tt
      claim_kept d ne (IsPlaced p) e claim = tt
      claim_kept d ne (IsAt p r) e claim = tt
      claim_kept d ne (IsWithin seat row) e claim = tt
      claim_kept d ne (IsRunning seat rest) e claim = tt
      claim_kept d ne IsDone e claim = tt

      claim_else : (d : ℕ) → d ≢ c → ClaimThen d (made' d) (stand_of n d)
      claim_else d ne = subst (λ (k : ℕ). ClaimThen d k (stand_of n d)) (sym (made_else d ne))
          (claim_kept d ne (stand_of n d) refl (subst (Claim s code fair root input state h forked taken l t run agrees d (made d)) (sym (stand_else d ne)) (stage.claims d)))

      -- the processor itself, which meets them in its row
      made_most : made_then (made c) act x y ≤ made c + one (is_work_turn act x)
      made_most = then_most (is_work_turn act x) (keeps_row y) (made c)

      own_claim : (v p : ℕ) → act ≡ Step v → y ≡ IsBroken p → (seat : Seat) → Sits s (spots.view s state.words) K (spots.bottoms s state.words) c seat → is_done_at x ≡ false
          → most (made c) x ≡ cost seat.restart.kind → (is_in_row x ≡ false → ⊥) → ClaimThen c (made' c) (IsBroken p)
      own_claim v p is broke seat sits live same in_ =
          let stood : IsBroken p ≡ went s code c v (found_in state.words (want_of s code c (Step v) x)) x = sym broke ∙ live_stands s code state c act x refl live
          ∙ ap (λ (a : Act). stand_after s code c a (found_in state.words (want_of s code c a x)) x) is in
          let out : Sets x ⊎ Moves x → ⊥ = λ a. (let z : true ≡ false = ap is_broken_at stood ∙ leaves_whole s code c v (found_in state.words (want_of s code c (Step v) x)) x a in cc) in
          let spends = keeps.spends (λ e. absurd (in_ e)) in
          let m0 : most (made_then (made c) act x y) y ≡ made_then (made c) act x y = ap (most (made_then (made c) act x y)) broke in
          let few = made_most in
          let own = made_own in
          let kind : K' seat.place ≡ seat.restart.kind = still_own v is out seat.place ∙ sits.at.kind in
          inr (
            seat.place,
            sits.carried.place,
            (alive_then c p broke, act_carries s code fair root input state h forked taken l t run agrees c among.processor act c (inr (λ a. out (inr a))) ∙ sits.carried.carry),
            subst (λ (z : RestartKind). made' c ≤ cost z) (sym kind) (omega (arith, spends, m0, few, own, same)),
          )
        where
          still_own : (v : ℕ) → act ≡ Step v → (Sets x ⊎ Moves x → ⊥) → (q : ℕ) → K' q ≡ K q
          still_own v is out q = elim (stepped v) [
            | inl still ↦ ap (λ (f : ℕ → RestartKind). f q) (by_step_is v is ∙ still.0)
            | inr put_ ↦ absurd (out (inl put_.sets))
          ]

      none_claim : (p : ℕ) → is_work_turn act x ≡ false → ClaimThen c (made' c) (IsBroken p)
      none_claim p look = inl (made_own ∙ then_none (is_work_turn act x) (keeps_row y) (made c) look)

      step_claim : (v p : ℕ) → act ≡ Step v → y ≡ IsBroken p → (z : Standing) → x ≡ z → ClaimThen c (made' c) (IsBroken p)
      step_claim v p is broke (IsWithin seat row) e =
          let sees = subst (Sees s (spots.view s state.words) K (spots.bottoms s state.words) c) e (run.lawful.1.sees c) in
          own_claim v p is broke seat sees.0 (ap is_done_at e) (ap (most (made c)) e) (λ o. let z : true ≡ false = sym (ap is_in_row e) ∙ o in cc)
      step_claim v p is broke (IsRunning seat rest) e =
          let sees = subst (Sees s (spots.view s state.words) K (spots.bottoms s state.words) c) e (run.lawful.1.sees c) in
          own_claim v p is broke seat sees.0 (ap is_done_at e) (ap (most (made c)) e) (λ o. let z : true ≡ false = sym (ap is_in_row e) ∙ o in cc)
      step_claim v p is broke IsLost e = none_claim p (ap (is_work_turn act) e ∙ ap (λ (a : Act). is_work_turn a IsLost) is)
      step_claim v p is broke (IsPlaced q) e = none_claim p (ap (is_work_turn act) e ∙ ap (λ (a : Act). is_work_turn a (IsPlaced q)) is)
      step_claim v p is broke (IsAt q r) e = none_claim p (ap (is_work_turn act) e ∙ ap (λ (a : Act). is_work_turn a (IsAt q r)) is ∙ before_none r)
      step_claim v p is broke (IsBroken q) e = none_claim p (ap (is_work_turn act) e ∙ ap (λ (a : Act). is_work_turn a (IsBroken q)) is)
      step_claim v p is broke IsDone e = none_claim p (ap (is_work_turn act) e ∙ ap (λ (a : Act). is_work_turn a IsDone) is)

      broken_claim : (p : ℕ) → y ≡ IsBroken p → (a : Act) → act ≡ a → ClaimThen c (made' c) (IsBroken p)
      broken_claim p broke (Step v) is = step_claim v p is broke x refl
      broken_claim p broke Soft is = none_claim p (ap (λ (a : Act). is_work_turn a x) is)
      broken_claim p broke Hard is = none_claim p (ap (λ (a : Act). is_work_turn a x) is)
      broken_claim p broke (Quit why) is = none_claim p (ap (λ (a : Act). is_work_turn a x) is)

      claim_own : (z : Standing) → y ≡ z → ClaimThen c (made' c) z
      claim_own (IsBroken p) e = broken_claim p e act refl
      claim_own IsLost e = tt
      claim_own (IsPlaced p) e = tt
      claim_own (IsAt p r) e = tt
      claim_own (IsWithin seat row) e = tt
      claim_own (IsRunning seat rest) e = tt
      claim_own IsDone e = tt

      claims_then : (d : ℕ) → ClaimThen d (made' d) (stand_of n d)
      claims_then d = elim (cases_eq d c) [
        | inl e ↦ subst (λ (q : ℕ). ClaimThen q (made' q) (stand_of n q)) (sym e) (claim_own y refl)
        | inr ne ↦ claim_else d ne
      ]

      module _ (shown : Pays) where
        abbrev Paid : Type 0
        Paid = work' + dues l' n.words + agains l' n + owed Root t' ≤ 218 * run'.kept.ahead.0.capsules + 171 * strikes' + sum N made' + lost + 6

        paid_then : finish_at s n ≡ 0 → Paid
        paid_then then_ =
            let pays = shown.pays then_ in let paid = stage.paid (was_unset then_) in let mo = shown.counted in let w = work_is in let a = made_sum in let z = strike_is in
            omega (arith, pays, paid, mo, w, a, z)

        paces_then : (d : ℕ) → Paces s (made' d) (stand_of n d)
        paces_then d = paces_behind s code fair.code_is state turn d (made d) (stage.paces d)

        -- no row may come to more than 172
        held_then : s.takeover ≡ ByPlaces → work' + mosts n made' + dues l' n.words + owed Root t' ≤ 218 * run'.kept.ahead.0.capsules + 171 * strikes' + sum N made' + 172 * N + lost + 6
        held_then places = elim (cases_eq (finish_at s n) 0) [
          | inl e ↦
              let few = sum_le N (λ d. most (made' d) (stand_of n d)) (λ d. 172) (λ d lt. most_few s (made' d) (stand_of n d) (paces_then d)) in
              let all = sum_const N in
              let paid_ = paid_then e in
              omega (arith, few, all, paid_)
          | inr ne ↦
              let spends = keeps.spends (none_begins s code state c act x refl ne) in
              let owes = shown.owes places in let held = stage.held places in let mo = shown.counted in
              let w = work_is in let z = strike_is in let a = made_sum in let b = most_sum in
              omega (arith, spends, owes, held, mo, w, z, a, b)
        ]

        pub goes_on : Stage lost n h' forked' taken' l' t' run' agrees' work' strikes' made'
        goes_on = record {
          paces = paces_then;
          claims = claims_then;
          paid = paid_then;
          held = held_then;
          bound = elim (cases_eq (finish_at s n) 0) [
            | inl e ↦ bound_of lost n h' forked' taken' l' t' run' agrees' work' strikes' made' claims_then (paid_then e)
            | inr ne ↦ bound_set ne
          ];
        }

    -- where no place goes on with what it inherited
    module _ (t' : Skeleton) (run' : IsHalves s code root input n h' forked' taken' l t') (agrees' : Agrees t' (λ r. fate_of (h' r)))
        (counted : k + by_step ended_by act x ≤ run'.kept.ahead.0.capsules) (credit : owed Root t' + by_step paid_by act x ≤ owed Root t + 36 * by_step ended_by act x)
        (free : (v : ℕ) → act ≡ Step v → IsFreeAt x) where
      abbrev PaidSo : Type 0
      PaidSo = one (is_work_turn act x) + made c + dues l n.words + agains l n + owed Root t'
          ≤ made_then (made c) act x y + dues l state.words + agains l state + owed Root t + 218 * by_step ended_by act x + 171 * one undone

      abbrev Owes : Type 0
      Owes = dues l n.words + owed Root t' ≤ dues l state.words + owed Root t + 218 * by_step ended_by act x

      dues_same : K' ≡ K → dues l n.words ≡ dues l state.words
      dues_same same = ap (λ (f : ℕ → RestartKind). sum N (λ p. due (left_kinds l f p))) same

      -- no place is at another kind
      still_paid : K' ≡ K → ((is_step act ≡ true) × Sets x → ⊥) → finish_at s n ≡ 0 → PaidSo
      still_paid same none then_ =
          let dues_ = dues_same same in let cr = credit in
          elim keeps.pays [
            | inl sets ↦ absurd (none sets)
            | inr other ↦ elim other [
              | inl halts ↦ absurd (halts_set (was_unset then_) halts then_)
              | inr le ↦ let b = beside then_ le in omega (arith, dues_, cr, b)
            ]
          ]

      still_owes : K' ≡ K → Owes
      still_owes same = let dues_ = dues_same same in let cr = credit in omega (arith, dues_, cr)

      -- one is
      module _ (v : ℕ) (is : act ≡ Step v) (put_ : Installed s code fair root input state h forked taken l t run agrees c v (made c) x) where
        -- what an install makes of the work, of what is set aside and of what the tree owes
        put_pays : one (is_work_turn act x) + made c + dues l n.words + owed Root t' ≤ dues l state.words + owed Root t + 218 * by_step ended_by act x
        put_pays =
            let kinds_ : K' ≡ put K put_.place put_.kind = by_step_is v is ∙ put_.kinds in
            let else_ : (q : ℕ) → q ≢ put_.place → left_kinds l K' q ≡ L q = λ q ne. left_at l K K' q (ap (λ (f : ℕ → RestartKind). f q) kinds_ ∙ put_else K put_.place put_.kind q ne) in
            let dues_ = sum_at N (λ p. due (L p)) (λ p. due (left_kinds l K' p)) put_.place put_.there (λ q ne. ap due (else_ q ne)) in
            let own : due (left_kinds l K' put_.place) ≡ due put_.kind = ap due (kind_away l K' put_.place put_.away ∙ ap (λ (f : ℕ → RestartKind). f put_.place) kinds_ ∙ put_here K put_.place put_.kind) in
            let was : due (L put_.place) ≡ due (K put_.place) = ap due (kind_away l K put_.place put_.away) in
            let w0 : one (is_work_turn act x) ≡ one (is_work_turn (Step v) x) = ap (λ (a : Act). one (is_work_turn a x)) is in
            let p0 : by_step paid_by act x ≡ paid_by x = ap (λ (a : Act). by_step paid_by a x) is in
            let e0 : by_step ended_by act x ≡ ended_by x = ap (λ (a : Act). by_step ended_by a x) is in
            let cr = credit in let p1 = put_.paid (free v is) in
            omega (arith, dues_, own, was, w0, p0, e0, cr, p1)

        put_paid : finish_at s n ≡ 0 → PaidSo
        put_paid then_ = let pays_ = put_pays in elim (how_or s.takeover) [
          | inl places ↦ let a = again_places n places in let b = again_places state places in omega (arith, pays_, a, b)
          | inr ih ↦ let a = again_step ih then_ v is in omega (arith, pays_, a)
        ]

        put_owes : Owes
        put_owes = let pays_ = put_pays in omega (arith, pays_)

      alone_pays : Pays l t' run' agrees'
      alone_pays = record { counted = counted; pays = by act refl; owes = λ places. by_owes act refl }
        where
          faulted : (a : Act) → act ≡ a → is_step a ≡ false → finish_at s n ≡ 0 → PaidSo
          faulted a is other then_ = still_paid (faults_still (ap is_step is ∙ other)) (λ sets. let z : true ≡ false = sym sets.0 ∙ ap is_step is ∙ other in cc) then_

          by : (a : Act) → act ≡ a → finish_at s n ≡ 0 → PaidSo
          by (Step v) is then_ = elim (stepped v) [
            | inl still ↦ still_paid (by_step_is v is ∙ still.0) (λ sets. still.1 sets.1) then_
            | inr put_ ↦ put_paid v is put_ then_
          ]
          by Soft is then_ = faulted Soft is refl then_
          by Hard is then_ = faulted Hard is refl then_
          by (Quit why) is then_ = faulted (Quit why) is refl then_

          by_owes : (a : Act) → act ≡ a → Owes
          by_owes (Step v) is = elim (stepped v) [
            | inl still ↦ still_owes (by_step_is v is ∙ still.0)
            | inr put_ ↦ put_owes v is put_
          ]
          by_owes Soft is = still_owes (faults_still (ap is_step is))
          by_owes Hard is = still_owes (faults_still (ap is_step is))
          by_owes (Quit why) is = still_owes (faults_still (ap is_step is))

      pub alone_goes : Stage lost n h' forked' taken' l t' run' agrees' work' strikes' made'
      alone_goes = goes_on l t' run' agrees' alone_pays

  -- what was made after turns
  abbrev pub made_all : (ℕ → ℕ) → RunState → List Turn → ℕ → ℕ
  made_all made state [] = made
  made_all made state (turn ∷ more) = made_all (λ d. made_behind s code d (made d) state turn) (happens s code state turn) more

  -- with takeover by places
  module _ (places : s.takeover ≡ ByPlaces) where
    -- the next state, with its count of capsules
    run_then : (state : RunState) (h : ℕ → Home) (forked taken : List ℕ) (t : Skeleton) (run : IsRun s code root input state h forked taken t) (turn : Turn) → IsTurnAmong s.processors turn
        → (next : IsRun s code root input (happens s code state turn) (by_act s state.words turn.act (stand_of state turn.processor) h) (forks_of state turn ++ forked) (takes_of state turn ++ taken) (tree_after (setting s code) state turn t))
        × (run.kept.ahead.0.capsules + by_step ended_by turn.act (stand_of state turn.processor) ≤ next.kept.ahead.0.capsules)
    run_then state h forked taken t run turn among =
        let counted = capsules_are_counted (setting s code) fair places root input state t run.kept turn (acts_so s code places fair root input state h forked taken t run turn.processor turn.act among.processor) in
        let joined = joins_stay s code places fair root input state h forked taken t run turn among counted.0 in (
          record {
            lawful = (turns_go_on s code places fair root input state h forked taken t run).lawful turn among;
            kept = counted.0;
            agrees = joined.agrees;
            last = joined.last;
            ready = joined.ready;
            broken = broken_follow s code root input state h forked taken t run turn;
            born = births_follow s code places fair root input state h forked taken t run turn among;
          },
          counted.1,
        )

    -- what holds after turns
    abbrev pub StageBehind : (told : RunState → Turn → List ℕ) (lost : ℕ) (state : RunState) (h : ℕ → Home) (forked taken : List ℕ) (work strikes : ℕ) (made : ℕ → ℕ) → List Turn → Type 0
    StageBehind told lost state h forked taken work strikes made more =
        (t : Skeleton) × (run : IsRun s code root input (after s code state more) (homes s code state h more) (forked_in s code state forked more) (taken_in s code state taken more) t)
        × Stage lost (after s code state more) (homes s code state h more) (forked_in s code state forked more) (taken_in s code state taken more) [] t (halves run) run.agrees
        (work + length (along s code work_of state more)) (strikes + length (along s code told state more)) (made_all made state more)

    -- all turns
    all_stay : (lost : ℕ) (words : List ℕ) (first more : List Turn) (state : RunState) → state ≡ reached s code words first → (h : ℕ → Home) (forked taken : List ℕ) (t : Skeleton) (run : IsRun s code root input state h forked taken t) (work strikes : ℕ) (made : ℕ → ℕ)
        → AllByRecursion (IsTurnAmong s.processors) more → Stage lost state h forked taken [] t (halves run) run.agrees work strikes made
        → StageBehind (undone_of s) lost state h forked taken work strikes made more
    unfolding halves
    all_stay lost words first [] state is h forked taken t run work strikes made all stage =
        let w : work ≡ work + 0 = omega arith in
        let z : strikes ≡ strikes + 0 = omega arith in
        (t, run, subst₂ (λ (a b : ℕ). Stage lost state h forked taken [] t (halves run) run.agrees a b made) w z stage)
    all_stay lost words first (turn ∷ more) state is h forked taken t run work strikes made all stage =
        let next = run_then state h forked taken t run turn all.0 in
        let credit = credit_stays (setting s code) fair root input state t run.kept turn (acts_so s code places fair root input state h forked taken t run turn.processor turn.act all.0.processor) in
        let then_ = alone_goes lost state h forked taken [] t (halves run) run.agrees work strikes made stage turn.processor turn.act all.0 (finish_still s code fair words first state is turn)
        (tree_after (setting s code) state turn t) (halves next.0) next.0.agrees next.1 credit
        (λ v e. free_at s code fair root input state h forked taken [] t (halves run) run.agrees turn.processor (stand_of state turn.processor) refl (none_by (stand_of state turn.processor))) in
        let on : happens s code state turn ≡ reached s code words (first ++ turn ∷ []) = ap (λ (z : RunState). happens s code z turn) is ∙ sym (in_two s code (opening words s.processors) first (turn ∷ [])) in
        let rest = all_stay lost words (first ++ turn ∷ []) more (happens s code state turn) on
        (by_act s state.words turn.act (stand_of state turn.processor) h) (forks_of state turn ++ forked) (takes_of state turn ++ taken) (tree_after (setting s code) state turn t) next.0
        (work + length (work_of state turn)) (strikes + length (undone_of s state turn)) (λ d. made_behind s code d (made d) state turn) all.1 then_ in
        let a = length_both (work_of state turn) (along s code work_of (happens s code state turn) more) in
        let b = length_both (undone_of s state turn) (along s code (undone_of s) (happens s code state turn) more) in
        let w : work + length (work_of state turn) + length (along s code work_of (happens s code state turn) more) ≡ work + length (along s code work_of state (turn ∷ more)) = omega (arith, a) in
        let z : strikes + length (undone_of s state turn) + length (along s code (undone_of s) (happens s code state turn) more) ≡ strikes + length (along s code (undone_of s) state (turn ∷ more)) = omega (arith, b) in
        (rest.0, rest.1, subst₂ (λ (x y : ℕ). Stage lost (after s code state (turn ∷ more)) (homes s code state h (turn ∷ more)) (forked_in s code state forked (turn ∷ more)) (taken_in s code state taken (turn ∷ more)) [] rest.0 (halves rest.1) rest.1.agrees x y (made_all made state (turn ∷ more))) w z rest.2)
      where
        none_by : (x : Standing) → InheritsNone s.takeover x
        none_by (IsWithin seat row) = inl places
        none_by IsLost = tt
        none_by (IsPlaced p) = tt
        none_by (IsAt p r) = tt
        none_by (IsRunning seat rest) = tt
        none_by (IsBroken p) = tt
        none_by IsDone = tt

    -- by places what is undone is what is struck
    pub all_struck : (lost : ℕ) (words : List ℕ) (turns : List Turn) (state : RunState) → state ≡ reached s code words [] → (h : ℕ → Home) (forked taken : List ℕ) (t : Skeleton) (run : IsRun s code root input state h forked taken t) (work strikes : ℕ) (made : ℕ → ℕ)
        → AllByRecursion (IsTurnAmong s.processors) turns → Stage lost state h forked taken [] t (halves run) run.agrees work strikes made
        → StageBehind strikes_of lost state h forked taken work strikes made turns
    all_struck lost words turns state is h forked taken t run work strikes made all stage =
        subst (λ (told : RunState → Turn → List ℕ). StageBehind told lost state h forked taken work strikes made turns) (undone_is s places)
        (all_stay lost words [] turns state is h forked taken t run work strikes made all stage)

-- processors begin lost
pub lost_paces : (s : Shape) (n c : ℕ) → Paces s 0 (stand_in (slice_get (replicate n IsLost) c))
lost_paces s zero c = refl
lost_paces s (suc n) zero = refl
lost_paces s (suc n) (suc c) = lost_paces s n c

pub lost_claims : (s : Shape) (code : CodeParts) (fair : IsFair code) (root : Tree (Frame FrameWord Point) Result) (input : Words) (state : RunState) (h : ℕ → Home) (forked taken : List ℕ) (l : List Followed) (t : Skeleton)
    (run : IsHalves s code root input state h forked taken l t) (agrees : Agrees t (λ r. fate_of (h r))) (c : ℕ) (x : Standing) → Claim s code fair root input state h forked taken l t run agrees c 0 x
lost_claims s code fair root input state h forked taken l t run agrees c (IsBroken p) = inl refl
lost_claims s code fair root input state h forked taken l t run agrees c _ = tt

pub lost_most : (n c : ℕ) → most 0 (stand_in (slice_get (replicate n IsLost) c)) ≡ 0
lost_most zero c = refl
lost_most (suc n) zero = refl
lost_most (suc n) (suc c) = lost_most n c

-- one place runs, and all others seek
opening_kinds : (p f q : ℕ) (P : RestartKind → Type 0) → P Seek → P (Run f 0) → P (set (λ q. Seek) p (Run f 0) q)
opening_kinds p f q P seeks runs = elim (cases_eq q p) [
  | inl e ↦ subst P (sym (ap (set (λ q. Seek) p (Run f 0)) e ∙ set_here (λ q. Seek) p (Run f 0))) runs
  | inr ne ↦ subst P (sym (set_else (λ q. Seek) p (Run f 0) q ne)) seeks
]

-- a machine that opens an image is at the first moment
module _ (code : CodeParts) (input : List NamedArray) (s : Shape) (keeper : ℕ) (im : Image) (fair : IsFair code) (opens : Opens code input s keeper im)
    (calm : Calm (strands s code) (root_strand code input) (arrays_at (view s im.words))) (end : End Result) (ends : EndsSo (strands s code) (root_strand code input) (arrays_at (view s im.words)) end) where
  abbrev pub first_tree : Skeleton
  first_tree = Leaf (InPlace keeper) (Begins 0) (pool_at s keeper) (slots_of code code.root)

  abbrev pub first_run : IsRun s code (root_strand code input) (arrays_at (view s im.words)) (opening im.words s.processors) (λ r. Unborn) [] [] first_tree
  first_run = runs_open code input s keeper im opens calm

  pub first_stage : (run : IsRun s code (root_strand code input) (arrays_at (view s im.words)) (opening im.words s.processors) (λ r. Unborn) [] [] first_tree)
      → Stage s code fair (root_strand code input) (arrays_at (view s im.words)) end ends 0 (opening im.words s.processors) (λ r. Unborn) [] [] [] first_tree (halves run) run.agrees 0 0 (λ c. 0)
  unfolding view halves
  first_stage run =
      let root = root_strand code input in
      let arrays = arrays_at (view s im.words) in
      let opened = (machines_open code input s keeper im opens calm).0 in
      let kinds_ : (p : ℕ) → spots.kinds s im.words p ≡ set (λ q. Seek) keeper (Run (pool_at s keeper) 0) p = λ p. sym (kinds_same s im.words p) ∙ ap (λ (z : State). z.kind p) opened in
      let free = sum_zero s.processors (λ p. due (spots.kinds s im.words p))
      (λ p. ap due (kinds_ p) ∙ opening_kinds keeper (pool_at s keeper) p (λ k. due k ≡ 0) refl refl) in
      let beside_ = sum_zero s.processors (λ p. again s.takeover (stand_of (opening im.words s.processors) p) (spots.kinds s im.words p))
      (λ p. ap (again s.takeover (stand_of (opening im.words s.processors) p)) (kinds_ p) ∙ opening_kinds keeper (pool_at s keeper) p (λ k. again s.takeover (stand_of (opening im.words s.processors) p) k ≡ 0)
      (again_not s.takeover (stand_of (opening im.words s.processors) p) Seek (λ r e. cc))
      (again_not s.takeover (stand_of (opening im.words s.processors) p) (Run (pool_at s keeper) 0) (λ r e. cc))) in
      let still = sum_zero s.processors (λ c. most 0 (stand_in (slice_get (replicate s.processors IsLost) c))) (lost_most s.processors) in
      let none = sum_zero s.processors (λ c. 0) (λ c. refl) in
      record {
        paces = lost_paces s s.processors;
        claims = λ c. lost_claims s code fair root arrays (opening im.words s.processors) (λ r. Unborn) [] [] [] first_tree (halves run) run.agrees c (stand_of (opening im.words s.processors) c);
        paid = λ unset. omega (arith, free, none, beside_);
        held = λ places. omega (arith, free, still, none);
        bound = omega (arith, still, none);
      }
