-- Where that for which a frame waits is over: a return, the beginning of a right branch, or a join.
use Rattle.std.proofs.Common.{◌≡◌, ◌<◌, ◌≤◌, ℕ, ◌+◌, ◌-◌, ◌*◌, List, [], ◌∷◌, ◌++◌, length}
use Rattle.std.proofs.Common.{ap, ◌∙◌, subst, arith}
use Rattle.std.proofs.lemmas.List.{length_push}
use Rattle.ppm_strands.specs.Tree.{Words, Over, Code}
use Rattle.ppm_code.specs.declared.code.CodeParts.{CodeParts}
use Rattle.ppm_code.specs.Strands.{Result}
use Rattle.ppm_depth.specs.Moves.{resumed, stack_resumed, waiting_resumed, turns_of}
use Rattle.ppm_depth.specs.Stack.{Own, Strands, result_of, Waits, ForCallee, ForLeft, ForRight, Above, Root, On, listed, end_of, AreOne}
use Rattle.ppm_depth.specs.Stack.{IsLaidOut, IsNow, IsShownAt}
use Rattle.ppm_depth.specs.Turns.{strands_over}
use Rattle.ppm_depth.specs.declared.frame.Finish.{Finish as Finishes}
use Rattle.ppm_depth.specs.declared.frame.For.{For}
use Rattle.ppm_depth.specs.declared.frame.For.TheVariants.{Callee, Left, Right}
use Rattle.ppm_depth.specs.declared.frame.Now.{Now}
use Rattle.ppm_depth.specs.declared.frame.Now.TheVariants.{At, Over as IsOver}
use Rattle.ppm_depth.specs.declared.frame.Waiting.{Waiting}
use Rattle.ppm_depth.proofs.ResumeLemmas.{above_resumed, leaf_resumed, resumed_at}
use Rattle.ppm_depth.proofs.StackLemmas.{innermost}
use Rattle.ppm_stamps.specs.Stamps.{Stamps}
use Rattle.ppm_stamps.specs.Moments.{Comes, Returns, GoesRight, Joins}
use Rattle.ppm_races.specs.Walks.{start_of, outside_of, rise, marks_of, MarksResumed}
use Rattle.ppm_races.specs.declared.stamps.Mark.{Mark}

-- where that for which a frame waits is over
abbrev pub forks_resumed : ℕ → For → List Mark → List Mark
forks_resumed time (Callee to) ms = ms
forks_resumed time (Left r left_to to) ms = record { start = start_of ms; mid = time } ∷ outside_of ms
forks_resumed time (Right l left_to to) ms = outside_of ms

module _ (code : CodeParts) (array_words : ℕ) (root : Strands) (input : Words) where
  abbrev d : Code Own Result
  d = strands_over code array_words

  -- the moment then
  goes_up : (w : Waiting) (on : For) (v : Waits) (s : Above) (ms : List Mark) (done : Finishes) (a : Words) (u : Stamps) (blocks : List ℕ) (end top : ℕ)
      → AreOne code blocks end top w.frame on v → Comes d root input (rise (On w v s) ms) (Over (result_of done)) a u
      → Comes d root input (rise (above_resumed code array_words w on v done s) (forks_resumed u.time on ms)) (leaf_resumed code array_words v done) a u
  goes_up w (Callee to) (ForCallee f) s ms done a u blocks end top one come = Returns come
  goes_up w (Left r left_to to) (ForLeft f g) s ms done a u blocks end top one come = GoesRight come
  goes_up w (Right l left_to to) (ForRight f o) s ms done a u blocks end top one come = Joins come
  goes_up w (Callee to) (ForLeft f g) s ms done a u blocks end top one come = absurd one
  goes_up w (Callee to) (ForRight f o) s ms done a u blocks end top one come = absurd one
  goes_up w (Left r left_to to) (ForCallee f) s ms done a u blocks end top one come = absurd one
  goes_up w (Left r left_to to) (ForRight f o) s ms done a u blocks end top one come = absurd one
  goes_up w (Right l left_to to) (ForCallee f) s ms done a u blocks end top one come = absurd one
  goes_up w (Right l left_to to) (ForLeft f g) s ms done a u blocks end top one come = absurd one

  -- its marks
  marks_up : (w : Waiting) (on : For) (v : Waits) (s : Above) (ms : List Mark) (done : Finishes) (blocks : List ℕ) (end top time : ℕ) (old new : List Mark)
      → AreOne code blocks end top w.frame on v → old ≡ marks_of (rise (On w v s) ms) → MarksResumed time on old new
      → new ≡ marks_of (rise (above_resumed code array_words w on v done s) (forks_resumed time on ms))
  marks_up w (Callee to) (ForCallee f) s ms done blocks end top time old new one is changed = changed ∙ is
  marks_up w (Left r left_to to) (ForLeft f g) s ms done blocks end top time old new one is changed = changed (marks_of (rise s (outside_of ms)))
      (start_of ms) 0 is
  marks_up w (Right l left_to to) (ForRight f o) s ms done blocks end top time old new one is changed = changed (marks_of (rise s (outside_of ms))) _ is
  marks_up w (Callee to) (ForLeft f g) s ms done blocks end top time old new one is changed = absurd one
  marks_up w (Callee to) (ForRight f o) s ms done blocks end top time old new one is changed = absurd one
  marks_up w (Left r left_to to) (ForCallee f) s ms done blocks end top time old new one is changed = absurd one
  marks_up w (Left r left_to to) (ForRight f o) s ms done blocks end top time old new one is changed = absurd one
  marks_up w (Right l left_to to) (ForCallee f) s ms done blocks end top time old new one is changed = absurd one
  marks_up w (Right l left_to to) (ForLeft f g) s ms done blocks end top time old new one is changed = absurd one

  -- a moment, with its parts
  pub record Stands (blocks : List ℕ) (waiting : List Waiting) (current : Now) (marks : List Mark) (a : Words) (u : Stamps) : Type 0 where
    pub above : Above
    pub leaf : Strands
    pub forks : List Mark
    pub shown : IsShownAt code blocks waiting current above leaf
    pub come : Comes d root input (rise above forks) leaf a u
    pub marks_are : marks ≡ marks_of (rise above forks)

  -- the whole of it
  pub resumed_then : (ws : List Waiting) (w : Waiting) (done : Finishes) (blocks : List ℕ) (old new : List Mark) (a : Words) (u : Stamps)
      → Stands blocks (ws ++ (w ∷ [])) (IsOver done) old a u → MarksResumed u.time w.on old new
      → Stands (stack_resumed w w.on done blocks) (waiting_resumed w w.on done ws) (resumed w w.on done) new a u
  resumed_then ws w done blocks old new a u it changed = by it.above it.shown.waits it.leaf it.shown.at it.come it.marks_are
    where
      by : (s : Above) → listed s ≡ ws ++ (w ∷ []) → (leaf : Strands) → IsNow code blocks (IsOver done) s leaf
          → Comes d root input (rise s it.forks) leaf a u → old ≡ marks_of (rise s it.forks)
          → Stands (stack_resumed w w.on done blocks) (waiting_resumed w w.on done ws) (resumed w w.on done) new a u
      by Root e leaf at come is = absurd (innermost Root ws w e)
      by (On x v s) e leaf at come is =
          let last = innermost (On x v s) ws w e in
          let laid = subst (λ (y : Waiting). (y.block ≤ at.1) × (end_of code y.frame ≤ y.block) × AreOne code blocks at.2 (length blocks) y.frame y.on v
          × IsLaidOut code blocks s y.frame.base (end_of code y.frame) y.block) last.0 at.5 in
          let over = subst (λ (t : Strands). Comes d root input (rise (On x v s) it.forks) t a u) at.0 come in
          let named = subst (λ (y : Waiting). Comes d root input (rise (On y v s) it.forks) (Over (result_of done)) a u) last.0 over in
          let same = subst (λ (y : Waiting). old ≡ marks_of (rise (On y v s) it.forks)) last.0 is in
          record {
            above = above_resumed code array_words w w.on v done s;
            leaf = leaf_resumed code array_words v done;
            forks = forks_resumed u.time w.on it.forks;
            shown = subst (λ (zs : List Waiting). IsShownAt code (stack_resumed w w.on done blocks) (waiting_resumed w w.on done zs) (resumed w w.on done)
                (above_resumed code array_words w w.on v done s) (leaf_resumed code array_words v done)) last.1
                (resumed_at code array_words w w.on v s done blocks at.1 at.2 laid.0 at.3 at.4 laid.1 laid.2 laid.3);
            come = goes_up w w.on v s it.forks done a u blocks at.2 (length blocks) laid.2 named;
            marks_are = marks_up w w.on v s it.forks done blocks at.2 (length blocks) u.time old new laid.2 same changed;
          }

-- where nothing waits, all is over
pub over_root : (c : Code Own Result) (root : Strands) (input : Words) (ws : List Waiting) (s : Above) (ms : List Mark) (leaf : Strands) (a : Words)
    (u : Stamps)
    (o : Result) → listed s ≡ ws → length ws ≡ 0 → leaf ≡ Over o → Comes c root input (rise s ms) leaf a u → Comes c root input [] (Over o) a u
over_root c root input ws Root ms leaf a u o waits none over come = subst (λ (t : Strands). Comes c root input [] t a u) over come
over_root c root input ws (On w v s) ms leaf a u o waits none over come =
    absurd (let n = ap (λ (xs : List Waiting). length xs) waits in omega (arith, n, none, length_push (listed s) w))

-- a turn counts one at most
pub few_turns : (n : Now) → turns_of n ≤ 1
few_turns (At frame) = omega arith
few_turns (IsOver done) = omega arith

-- a capsule less is left
pub smaller_at : (limit a b p q r s : ℕ) → a ≡ b + 1 → b < limit → p ≤ q + 4 → r ≤ 1 → s ≡ 1 → 5 * (limit - a) + p + r < 5 * (limit - b) + q + s
smaller_at limit a b p q r s one less more few was = omega (arith, one, less, more, few, was)
