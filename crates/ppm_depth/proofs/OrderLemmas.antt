-- Steps of a depth-first run are steps in turn, and those of a part are steps of the whole.
use Rattle.std.proofs.Common.{inl, inr, sym, subst}
use Rattle.ppm_strands.specs.Tree.{Words, Tree, Call, Fork, Over, Code}
use Rattle.ppm_strands.specs.Run.{Counts, plus}
use Rattle.ppm_strands.specs.Ahead.{Step, Capsule, Store, Return, Join, Receive, Collect, UnderCall, InLeft, InRight, Steps, Done, More}
use Rattle.ppm_strands.specs.Turn.{IsInTurn, AreInTurn, StepsInTurn}
use Rattle.ppm_strands.proofs.RunLemmas.{plus_none, plus_assoc}
use Rattle.ppm_depth.specs.Order.{IsInOrder, AreInOrder, StepsInOrder, IsAtWork}
use Rattle.ppm_depth.specs.Stack.{Strands, ForCallee, ForLeft, ForRight, Above, Root, On, tree_at}

module _ {F O : Type 0} (c : Code F O) where
  -- a step of the run is in turn
  in_turn : {k : Counts} {t t' : Tree F O} {a a' : Words} (s : Step c k t a t' a') → IsInOrder s → IsInTurn s
  in_turn (Capsule f a) is = tt
  in_turn (Store f f' a a' again) is = absurd is
  in_turn (Return g o a) is = tt
  in_turn (Join g o p a) is = tt
  in_turn (Receive g g' o a same) is = absurd is
  in_turn (Collect g g' o p a same) is = absurd is
  in_turn (UnderCall g s) is = in_turn s is
  in_turn (InLeft g r s) is = in_turn s is
  in_turn (InRight g l s) is = (is.0, in_turn s is.1)

  all_in_turn : {k : Counts} {t u : Tree F O} {a b : Words} (s : Steps c k t a u b) → AreInOrder s → AreInTurn s
  all_in_turn (Done t a) are = tt
  all_in_turn (More s more) are = (in_turn s are.0, all_in_turn more are.1)

  pub turns : {k : Counts} {t u : Tree F O} {a b : Words} → StepsInOrder c k t a u b → StepsInTurn c k t a u b
  turns s = (s.0, all_in_turn s.0 s.1)

  -- one more before them
  pub before : {j k : Counts} {t t' u : Tree F O} {a a' b : Words} (s : Step c j t a t' a') → IsInOrder s → StepsInOrder c k t' a' u b
      → StepsInOrder c (plus j k) t a u b
  before s is more = (More s more.0, (is, more.1))

  -- steps after steps
  pub then_steps : {j k : Counts} {t u v : Tree F O} {a b d : Words} (s : Steps c j t a u b) → AreInOrder s → StepsInOrder c k u b v d
      → StepsInOrder c (plus j k) t a v d
  then_steps {k = k} {v = v} {d = d} (Done t a) are more = subst (λ (i : Counts). StepsInOrder c i t a v d) (sym (plus_none k)) more
  then_steps {k = k} {v = v} {d = d} (More {j = i} {k = j} {t = t} {a = a} s rest) are more =
      subst (λ (l : Counts). StepsInOrder c l t a v d) (sym (plus_assoc i j k)) (before s are.0 (then_steps rest are.1 more))

  -- the steps of a part are steps of the whole
  pub under : (g : F) {k : Counts} {t u : Tree F O} {a b : Words} (s : Steps c k t a u b) → AreInOrder s → StepsInOrder c k (Call g t) a (Call g u) b
  under g (Done t a) are = (Done (Call g t) a, tt)
  under g (More s more) are = before (UnderCall g s) are.0 (under g more are.1)

  pub left : (g : F) (r : Tree F O) {k : Counts} {t u : Tree F O} {a b : Words} (s : Steps c k t a u b) → AreInOrder s
      → StepsInOrder c k (Fork g t r) a (Fork g u r) b
  left g r (Done t a) are = (Done (Fork g t r) a, tt)
  left g r (More s more) are = before (InLeft g r s) are.0 (left g r more are.1)

  -- of a right branch once the left one is over
  pub right : (g : F) (o : O) {k : Counts} {t u : Tree F O} {a b : Words} (s : Steps c k t a u b) → AreInOrder s
      → StepsInOrder c k (Fork g (Over o) t) a (Fork g (Over o) u) b
  right g o (Done t a) are = (Done (Fork g (Over o) t) a, tt)
  right g o (More s more) are = before (InRight g (Over o) s) (tt, are.0) (right g o more are.1)

-- a strand that stands at its capsule is the one in turn of the tree in which it stands
pub at_work : (above : Above) (t : Strands) → IsAtWork t → IsAtWork (tree_at above t)
at_work Root t h = h
at_work (On w (ForCallee f) above) t h = at_work above (Call f t) h
at_work (On w (ForLeft f r) above) t h = at_work above (Fork f t _) (inl h)
at_work (On w (ForRight f o) above) t h = at_work above (Fork f (Over o) t) (inr (tt, h))
