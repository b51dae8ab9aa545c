-- A turn leaves a tree that advances so that it does.
use Rattle.std.proofs.Common.{◌≡◌, ℕ, ◌+◌, ◌==◌, Bool, true, false, cond, List, inl, inr, refl, sym, ap, ◌∙◌, subst, arith}
use Rattle.std.proofs.lemmas.Bool.{cond-true, cond-false, cases_Bool, eqb-true}
use Rattle.ppm_strands.specs.Tree.{Words, Tree}
use Rattle.ppm_cells.specs.Memory.{read}
use Rattle.ppm_cells.specs.declared.cell.Cell.{Cell}
use Rattle.ppm_cells.specs.declared.cell.Cell.TheVariants.{BlockWord}
use Rattle.ppm_cells.specs.declared.link.LinkKind.{LinkKind}
use Rattle.ppm_cells.specs.declared.link.LinkKind.TheVariants.{Root, Call as Called, Branch, Fork as Forked}
use Rattle.ppm_cells.specs.declared.restart.RestartKind.{RestartKind}
use Rattle.ppm_cells.specs.declared.restart.RestartKind.TheVariants.{Run, Bump, Push1, Push2, Unwind, Arrive, Join, Pop1, Pop2, Seek, Steal, Check, Take, Take2}
use Rattle.ppm_cells.specs.declared.side.Side.{Side}
use Rattle.ppm_cells.specs.declared.side.Side.TheVariants.{Left, Right}
use Rattle.ppm_strands.specs.Strand.{Frame}
use Rattle.ppm_code.specs.Strands.{Point, Result}
use Rattle.ppm_code.specs.declared.location.FrameWord.{FrameWord}
use Rattle.ppm_step.specs.Contents.{word_of}
use Rattle.ppm_step.specs.Frames.{Loads, Stores, Full, Installs, Breaks}
use Rattle.ppm_step.specs.Rows.{is_inline}
use Rattle.ppm_step.specs.Standings.{Standing, IsLost, IsPlaced, IsAt, IsWithin, IsRunning, IsBroken, IsDone}
use Rattle.ppm_step.specs.State.{State as Machine, stand_of}
use Rattle.ppm_step.specs.declared.row.Row.TheVariants.{Now, Store, Exchange}
use Rattle.ppm_step.specs.declared.row.Then.{Then}
use Rattle.ppm_step.specs.declared.row.Then.TheVariants.{Install, Begin}
use Rattle.ppm_step.specs.declared.turn.Act.{Act}
use Rattle.ppm_step.specs.declared.turn.Act.TheVariants.{Step, Soft, Hard, Quit}
use Rattle.ppm_frames.specs.Skeletons.{Stand, Begins, Over, Arrives, InPlace, Fresh, Waiting, Held, Came, Inlined, Skeleton, Leaf, Calling, Forking}
use Rattle.ppm_frames.specs.Skeletons.{grow, over_left, inlined, Around, Top, AtCall, AtLeft, AtRight, plug, hook_at, at_rim}
use Rattle.ppm_frames.specs.Good.{link_at, Good, Match, mark, order_of, IsPlain}
use Rattle.ppm_frames.proofs.SkeletonLemmas.{grow_plug, over_plug, fork_with, BranchOf, branch_from}
use Rattle.ppm_frames.proofs.SwapLemmas.{good_here}
use Rattle.ppm_kept.specs.Running.{IsFair}
use Rattle.ppm_kept.specs.Kept.{Setting, InRow, State, side_code, carried, IsKept}
use Rattle.ppm_kept.specs.Moves.{doing_of, opened, by_install}
use Rattle.ppm_kept.specs.Laws.{kind_then}
use Rattle.ppm_kept.specs.Returns.{by_unwind}
use Rattle.ppm_kept.specs.Joins.{joined_by, by_join}
use Rattle.ppm_kept.specs.Left.{Followed, left, StandsAway, StepsAway}
use Rattle.ppm_kept.specs.Places.{places_of, Holds, IsOf}
use Rattle.ppm_kept.specs.Steps.{by_end, by_store, by_exchange, tree_with, act_with, StandsSo, ActsSo}
use Rattle.ppm_kept.specs.Unruns.{IsLeafOf, HasUnrun}
use Rattle.ppm_kept.proofs.LeftLemmas.{kind_away}
use Rattle.ppm_kept.proofs.StateLemmas.{doing_here}
use Rattle.ppm_kept.proofs.PlaceLemmas.{Leafed, leaf}
use Rattle.ppm_kept.proofs.UnrunLemmas.{unruns_stay}
use Rattle.ppm_advance.specs.Advance.{Advances}
use Rattle.ppm_advance.specs.Turns.{LeftIsLater, TurnsAdvance}
use Rattle.ppm_advance.proofs.AdvanceLemmas.{all_stay, all_there}

-- what the order word tells of the branch beside a place's own
not_held : (b : Skeleton) → order_of IsPlain (mark b) ≡ 0 → IsLeafOf Held b → ⊥
not_held (Leaf Held st f n) e is = absurd (cc)
not_held (Leaf (InPlace q) st f n) e is = absurd (cc)
not_held (Leaf Fresh st f n) e is = absurd (cc)
not_held (Leaf Waiting st f n) e is = absurd (cc)
not_held (Leaf Came st f n) e is = absurd (cc)
not_held (Leaf Inlined st f n) e is = absurd (cc)
not_held (Calling f n y t) e is = is
not_held (Forking f n y r a b) e is = is

not_came : (b : Skeleton) → order_of IsPlain (mark b) ≡ 0 → IsLeafOf Came b → ⊥
not_came (Leaf Came st f n) e is = absurd (cc)
not_came (Leaf (InPlace q) st f n) e is = absurd (cc)
not_came (Leaf Fresh st f n) e is = absurd (cc)
not_came (Leaf Waiting st f n) e is = absurd (cc)
not_came (Leaf Held st f n) e is = absurd (cc)
not_came (Leaf Inlined st f n) e is = absurd (cc)
not_came (Calling f n y t) e is = is
not_came (Forking f n y r a b) e is = is

left_not_came : (a : Skeleton) → order_of (mark a) IsPlain ≡ 0 → IsLeafOf Came a → ⊥
left_not_came (Leaf Came st f n) e is = absurd (cc)
left_not_came (Leaf (InPlace q) st f n) e is = absurd (cc)
left_not_came (Leaf Fresh st f n) e is = absurd (cc)
left_not_came (Leaf Waiting st f n) e is = absurd (cc)
left_not_came (Leaf Held st f n) e is = absurd (cc)
left_not_came (Leaf Inlined st f n) e is = absurd (cc)
left_not_came (Calling f n y t) e is = is
left_not_came (Forking f n y r a b) e is = is

left_not_inlined : (a : Skeleton) → order_of (mark a) IsPlain ≡ 0 → IsLeafOf Inlined a → ⊥
left_not_inlined (Leaf Inlined st f n) e is = absurd (cc)
left_not_inlined (Leaf (InPlace q) st f n) e is = absurd (cc)
left_not_inlined (Leaf Fresh st f n) e is = absurd (cc)
left_not_inlined (Leaf Waiting st f n) e is = absurd (cc)
left_not_inlined (Leaf Held st f n) e is = absurd (cc)
left_not_inlined (Leaf Came st f n) e is = absurd (cc)
left_not_inlined (Calling f n y t) e is = is
left_not_inlined (Forking f n y r a b) e is = is

is_held : (b : Skeleton) → order_of IsPlain (mark b) ≡ 3 → IsLeafOf Held b
is_held (Leaf Held st f n) e = refl
is_held (Leaf (InPlace q) st f n) e = absurd (cc)
is_held (Leaf Fresh st f n) e = absurd (cc)
is_held (Leaf Waiting st f n) e = absurd (cc)
is_held (Leaf Came st f n) e = absurd (cc)
is_held (Leaf Inlined st f n) e = absurd (cc)
is_held (Calling f n y t) e = absurd (cc)
is_held (Forking f n y r a b) e = absurd (cc)

-- a branch of a part is one of the whole tree
fresh_plug : (r : ℕ) (c : Around) (u : Skeleton) → HasUnrun Fresh r u → HasUnrun Fresh r (plug c u)
fresh_plug r Top u has = has
fresh_plug r (AtCall f n y c) u has = fresh_plug r c u has
fresh_plug r (AtLeft f n y q c b) u has = inr (inl (fresh_plug r c u has))
fresh_plug r (AtRight f n y q a c) u has = inr (inr (fresh_plug r c u has))

module _ (i : Setting) (fair : IsFair i.code) (root : Tree (Frame FrameWord Point) Result) (input : Words) (state : Machine) (l : List Followed) (t : Skeleton)
    (law : IsKept i root input (left i l (places_of i.shape state)) t) (left_later : LeftIsLater (left i l (places_of i.shape state)) t)
    (advances : Advances t) (c : ℕ) where
  abbrev P : State
  P = places_of i.shape state

  abbrev S : State
  S = left i l P

  abbrev m : Cell → ℕ
  m = S.words

  abbrev Goes : Standing → Type 0
  Goes x = Advances (tree_with i m state.words x t)

  doing_own : (p : ℕ) (x : Standing) → Holds i.shape state c p → stand_of state c ≡ x → IsOf p x → S.doing p ≡ doing_of x
  doing_own p x holds e of = doing_here (stand_of state) (stand_of state) c p x e (λ d ne. refl) holds.own of holds.others i.shape.processors holds.there

  -- the fork of a place that arrives or joins
  module _ (p r : ℕ) (d : Side) (g : Leafed i S t p) (hook : hook_at Root g.around ≡ Branch d r) where
    abbrev own : Skeleton
    own = Leaf (InPlace p) g.stand g.frame g.slots

    order_is : (z : BranchOf g.around r d) → Good i.code m S.kind (hook_at Root z.around) (fork_with z.frame z.slots z.copy r d own z.beside)
    order_is z =
        good_here i.code m S.kind Root z.around (fork_with z.frame z.slots z.copy r d own z.beside)
        (subst (Good i.code m S.kind Root) (g.is ∙ z.is own) law.good)

    alone : (z : BranchOf g.around r d) → at_rim p z.around ≡ 0
    alone z = let e = z.places p in let a = g.alone in omega (arith, e, a)

  match_as : (p : ℕ) (k : RestartKind) (g : Leafed i S t p) → S.kind p ≡ k → Match i.code m k (hook_at Root g.around) g.stand g.frame
  match_as p k g ke = subst (λ (x : RestartKind). Match i.code m x (hook_at Root g.around) g.stand g.frame) ke g.match

  arrive_hook : (r : ℕ) (d : Side) (st : Stand) (g : ℕ) (h : LinkKind) → Match i.code m (Arrive r d) h st g → h ≡ Branch d r
  arrive_hook r d Arrives g h match = match
  arrive_hook r d (Begins y) g h match = absurd match
  arrive_hook r d Over g h match = absurd match

  join_hook : (r : ℕ) (d : Side) (st : Stand) (g : ℕ) (h : LinkKind) → Match i.code m (Join r d) h st g → h ≡ Branch d r
  join_hook r d Arrives g h match = match
  join_hook r d (Begins y) g h match = absurd match
  join_hook r d Over g h match = absurd match

  none_first : (o : ℕ) (d : Side) → o ≡ 0 → cond {A = ℕ} (o == side_code d) 0 1 ≡ 1
  none_first o Left e = ap (λ (x : ℕ). cond {A = ℕ} (x == 1) 0 1) e
  none_first o Right e = ap (λ (x : ℕ). cond {A = ℕ} (x == 2) 0 1) e

  -- a branch comes first
  comes : (p r : ℕ) (d : Side) → S.kind p ≡ Arrive r d → m (BlockWord (r + 1)) ≡ 0 → Advances (grow p (λ st f n. Leaf Came st f n) t)
  comes p r d ke none =
      let g = leaf i fair root input S t law p (ap (carried m) ke ∙ none_first (m (BlockWord (r + 1))) d none) in
      by d ke g (arrive_hook r d g.stand g.frame (hook_at Root g.around) (match_as p (Arrive r d) g ke))
    where
      by : (d : Side) → S.kind p ≡ Arrive r d → (g : Leafed i S t p) → hook_at Root g.around ≡ Branch d r
          → Advances (grow p (λ st f n. Leaf Came st f n) t)
      by Left ke g hook = elim (branch_from Root g.around r Left hook) [
        | inl z ↦ absurd (let b = z.0 in cc)
        | inr z ↦
            let u : Skeleton = Leaf (InPlace p) g.stand g.frame g.slots in
            let good = order_is p r Left g hook z in
            let zero : order_of IsPlain (mark z.beside) ≡ 0 = sym good.0.order ∙ none in
            let is = g.is ∙ z.is u in
            let then_ = ap (grow p (λ st f n. Leaf Came st f n)) g.is
            ∙ grow_plug p (λ st f n. Leaf Came st f n) g.around g.stand g.frame g.slots g.alone ∙ z.is (Leaf Came g.stand g.frame g.slots) in
            subst Advances (sym then_) ((all_there p z.around z.frame z.slots z.copy r g.stand g.frame g.slots z.beside).came_left
            (λ e. left_later p r ke none (subst (HasUnrun Fresh r) (sym is)
            (fresh_plug r z.around (Forking z.frame z.slots z.copy r u z.beside) (inl (refl, e)))))
            (not_held z.beside zero) (not_came z.beside zero) (subst Advances is advances))
      ]
      by Right ke g hook = elim (branch_from Root g.around r Right hook) [
        | inl z ↦ absurd (let b = z.0 in cc)
        | inr z ↦
            let u : Skeleton = Leaf (InPlace p) g.stand g.frame g.slots in
            let good = order_is p r Right g hook z in
            let zero : order_of (mark z.beside) IsPlain ≡ 0 = sym good.0.order ∙ none in
            let is = g.is ∙ z.is u in
            let then_ = ap (grow p (λ st f n. Leaf Came st f n)) g.is
            ∙ grow_plug p (λ st f n. Leaf Came st f n) g.around g.stand g.frame g.slots g.alone ∙ z.is (Leaf Came g.stand g.frame g.slots) in
            subst Advances (sym then_) ((all_there p z.around z.frame z.slots z.copy r g.stand g.frame g.slots z.beside).came_right
            (left_not_came z.beside zero) (left_not_inlined z.beside zero) (subst Advances is advances))
      ]

  -- the strand of a left branch goes on with the right one, which is held
  passes : (p r : ℕ) (d : Side) (q f b : ℕ) → S.kind p ≡ Join r d → S.doing p ≡ InRow (Now (Begin q f b)) → Advances (over_left p (inlined p) t)
  passes p r d q f b ke de = by d ke ((unruns_stay i fair root input S t law p).begins r d q f b ke de).1
    where
      by : (d : Side) → S.kind p ≡ Join r d → is_inline (m (BlockWord (r + 1))) d ≡ true → Advances (over_left p (inlined p) t)
      by Right ke k = absurd (cc)
      by Left ke k =
          let three : m (BlockWord (r + 1)) ≡ 3 = eqb-true (m (BlockWord (r + 1))) 3 k in
          let g = leaf i fair root input S t law p (ap (carried m) ke ∙ ap (λ (x : ℕ). cond {A = ℕ} (x == 1) 0 1) three) in
          let hook = join_hook r Left g.stand g.frame (hook_at Root g.around) (match_as p (Join r Left) g ke) in
          elim (branch_from Root g.around r Left hook) [
            | inl z ↦ absurd (let b = z.0 in cc)
            | inr z ↦
                let u : Skeleton = Leaf (InPlace p) g.stand g.frame g.slots in
                let good = order_is p r Left g hook z in
                let is = g.is ∙ z.is u in
                let then_ = ap (over_left p (inlined p)) is
                ∙ over_plug p (inlined p) z.around z.frame z.slots z.copy r g.stand g.frame g.slots z.beside (alone p r Left g hook z) in
                subst Advances (sym then_) ((all_there p z.around z.frame z.slots z.copy r g.stand g.frame g.slots z.beside).inlines
                (is_held z.beside (sym good.0.order ∙ three)) (subst Advances is advances))
          ]

  -- a row ends
  unwinds : (p : ℕ) (k : RestartKind) → Advances (by_unwind p k t)
  unwinds p (Run g y) = (all_stay p t advances).returns (λ z. Begins z)
  unwinds p (Unwind g) = (all_stay p t advances).returns (λ z. Over)
  unwinds p (Arrive r d) = (all_stay p t advances).grows (λ st f n. Leaf (InPlace p) Arrives f n) (λ st f n. tt)
  unwinds p _ = advances

  joins : (p : ℕ) (k : RestartKind) → Advances (joined_by p k t)
  joins p (Run g y) = (all_stay p t advances).joins (λ z. Begins z)
  joins p (Unwind g) = (all_stay p t advances).joins (λ z. Over)
  joins p _ = advances

  join_ends : (p r : ℕ) (d : Side) → S.kind p ≡ Join r d → (next : Then) → S.doing p ≡ InRow (Now next) → Advances (by_join p next t)
  join_ends p r d ke (Begin q f b) de = passes p r d q f b ke de
  join_ends p r d ke (Install restart) de = joins p restart.kind
  join_ends p r d ke _ de = advances

  takes : (p : ℕ) (q : ℕ) (next : Then) → Advances (by_end p (Pop2 q) next t)
  takes p q (Begin r f b) = (all_stay p t advances).takes r
  takes p q _ = advances

  checks : (p v x : ℕ) (next : Then) → Advances (by_end p (Check v x) next t)
  checks p v x (Begin r f b) = (all_stay p t advances).takes r
  checks p v x _ = advances

  ends : (p : ℕ) (k : RestartKind) → S.kind p ≡ k → (next : Then) → S.doing p ≡ InRow (Now next) → Advances (by_end p k next t)
  ends p (Unwind f) ke next de = unwinds p (kind_then next)
  ends p (Join r d) ke next de = join_ends p r d ke next de
  ends p (Pop2 q) ke next de = takes p q next
  ends p (Check v x) ke next de = checks p v x next
  ends p (Run f y) ke next de = advances
  ends p (Bump r) ke next de = advances
  ends p (Push1 r) ke next de = advances
  ends p (Push2 r) ke next de = advances
  ends p (Arrive r d) ke next de = advances
  ends p Pop1 ke next de = advances
  ends p Seek ke next de = advances
  ends p (Steal v x) ke next de = advances
  ends p (Take v x) ke next de = advances
  ends p (Take2 v) ke next de = advances

  stores : (p : ℕ) (k : RestartKind) → Advances (by_store p k t)
  stores p (Push1 r) = (all_stay p t advances).pushes Held (inr refl)
  stores p _ = advances

  exchanges : (p : ℕ) (k : RestartKind) → S.kind p ≡ k → (made : Bool) → Advances (by_exchange m p k made t)
  exchanges p (Arrive r d) ke made = elim (cases_Bool (m (BlockWord (r + 1)) == 0)) [
    | inl e ↦ subst Advances (sym (cond-true (m (BlockWord (r + 1)) == 0) _ _ e)) (comes p r d ke (eqb-true (m (BlockWord (r + 1))) 0 e))
    | inr e ↦ subst Advances (sym (cond-false (m (BlockWord (r + 1)) == 0) _ _ e)) advances
  ]
  exchanges p (Push2 r) ke true = (all_stay p t advances).pushes Waiting (inl refl)
  exchanges p (Push2 r) ke false = advances
  exchanges p (Run f y) ke made = advances
  exchanges p (Bump r) ke made = advances
  exchanges p (Push1 r) ke made = advances
  exchanges p (Unwind f) ke made = advances
  exchanges p (Join r d) ke made = advances
  exchanges p Pop1 ke made = advances
  exchanges p (Pop2 r) ke made = advances
  exchanges p Seek ke made = advances
  exchanges p (Steal v x) ke made = advances
  exchanges p (Check v x) ke made = advances
  exchanges p (Take v x) ke made = advances
  exchanges p (Take2 v) ke made = advances

  -- a capsule ends
  opens : (p r : ℕ) (k : LinkKind) (st : Stand) (f n : ℕ) → Advances (opened i m p r k st f n)
  opens p r (Called g z) st f n = tt
  opens p r (Forked g z) st f n = inl (tt, inr (inl refl))
  opens p r Root st f n = tt
  opens p r (Branch d q) st f n = tt

  runs : (p f y : ℕ) (kind : RestartKind) → Advances (by_install i m p (Run f y) kind t)
  runs p f y (Run g z) = (all_stay p t advances).grows (λ st f n. Leaf (InPlace p) (Begins z) f n) (λ st f n. tt)
  runs p f y (Unwind g) = (all_stay p t advances).grows (λ st f n. Leaf (InPlace p) Over f n) (λ st f n. tt)
  runs p f y (Bump r) = (all_stay p t advances).grows (opened i m p r (link_at (m (BlockWord r))).kind) (opens p r (link_at (m (BlockWord r))).kind)
  runs p f y _ = advances

  installs : (p : ℕ) (k kind : RestartKind) → Advances (by_install i m p k kind t)
  installs p (Run f y) kind = runs p f y kind
  installs p _ kind = advances

  step_goes : (x : Standing) → stand_of state c ≡ x → StandsSo i state t c x → StandsAway l x → Goes x
  step_goes (IsWithin seat (Now next)) e a away =
      ends seat.place seat.restart.kind (kind_away l P.kind seat.place away ∙ a.kind) next (doing_own seat.place (IsWithin seat (Now next)) a.holds e refl)
  step_goes (IsWithin seat (Store cell content next)) e a away = stores seat.place seat.restart.kind
  step_goes (IsWithin seat (Exchange cell old new next)) e a away =
      exchanges seat.place seat.restart.kind (kind_away l P.kind seat.place away ∙ a.kind) (read i.shape state.words cell == word_of old)
  step_goes (IsRunning seat (Installs kind)) e a away = installs seat.place seat.restart.kind kind
  step_goes (IsRunning seat (Loads cell go)) e a away = advances
  step_goes (IsRunning seat (Stores cell content rest)) e a away = advances
  step_goes (IsRunning seat Full) e a away = advances
  step_goes (IsRunning seat Breaks) e a away = advances
  step_goes IsLost e a away = advances
  step_goes (IsPlaced p) e a away = advances
  step_goes (IsAt p restart) e a away = advances
  step_goes (IsBroken p) e a away = advances
  step_goes IsDone e a away = advances

  act_goes : (act : Act) (x : Standing) → stand_of state c ≡ x → ActsSo i state t c act x
      → ((v : ℕ) → act ≡ Step v → StandsAway l x) → Advances (act_with i m state.words act x t)
  act_goes (Step v) x e so away = step_goes x e so.1 (away v refl)
  act_goes Soft x e so away = advances
  act_goes Hard x e so away = advances
  act_goes (Quit why) x e so away = advances

pub trees_advance : TurnsAdvance
trees_advance i fair root input state l t law turn so away left_later advances =
    act_goes i fair root input state l t law left_later advances turn.processor turn.act (stand_of state turn.processor) refl so
    (λ v is. (subst (λ (act : Act). StepsAway i l act (stand_of state turn.processor)) is away).0)
