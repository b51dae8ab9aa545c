-- Where that for which a frame waits is over: a return, the right branch's beginning, or a join, in turn.
use Rattle.std.proofs.Common.{◌≡◌, ◌<◌, ◌≤◌, ℕ, ◌+◌, List, [], ◌∷◌, ◌++◌, length, take, refl, sym, ap, ◌∙◌, subst, arith, Option, None, Some}
use Rattle.std.proofs.lemmas.List.{get_or-take, length-take-le}
use Rattle.ppm_strands.specs.Tree.{Words, Strand, Call, Fork, Over, Code}
use Rattle.ppm_strands.specs.Run.{Counts, none, rejoin}
use Rattle.ppm_strands.specs.Ahead.{Return, Join, Done}
use Rattle.ppm_depth.specs.Order.{StepsInOrder}
use Rattle.ppm_depth.proofs.OrderLemmas.{before}
use Rattle.ppm_strands.proofs.RunLemmas.{plus_none}
use Rattle.ppm_code.specs.declared.code.CodeParts.{CodeParts}
use Rattle.ppm_code.specs.Strands.{Result, Gave, resume, kept, with_value}
use Rattle.ppm_depth.specs.Moves.{gone_on, stack_gone_on, joined, stack_joined, with_slot, resumed, stack_resumed, waiting_resumed, AreSlotsThere, IsSlotThere, pending, pending_for, turns_of}
use Rattle.ppm_depth.proofs.AdvanceLemmas.{pending_push}
use Rattle.ppm_depth.specs.Stack.{Own, Strands, result_of, Waits, ForCallee, ForLeft, ForRight, Above, Root, On, listed, tree_at, waits_for, end_of, Holds, AreOne, IsLaidOut, IsNow, IsTarget, IsShown, IsShownAt}
use Rattle.ppm_depth.specs.Turns.{strands_over}
use Rattle.ppm_depth.specs.declared.frame.Frame.{Frame}
use Rattle.ppm_depth.specs.declared.frame.Finish.{Finish}
use Rattle.ppm_depth.specs.declared.frame.Finish.TheVariants as finish
use Rattle.ppm_depth.specs.declared.frame.For.{For}
use Rattle.ppm_depth.specs.declared.frame.For.TheVariants.{Callee, Left, Right}
use Rattle.ppm_depth.specs.declared.frame.Now.TheVariants.{Over as IsOver}
use Rattle.ppm_depth.specs.declared.frame.Waiting.{Waiting}
use Rattle.ppm_depth.proofs.StackLemmas.{holds_still, laid_still, innermost, lifted, shown_by}
use Rattle.ppm_depth.proofs.TurnLemmas.{gone_shown, gone_at, holds_with, with_laid, with_length, own_is}

module _ (code : CodeParts) (array_words : ℕ) where
  abbrev c : Code Own Result
  c = strands_over code array_words

  return_step : (g : Own) (o : Result) (a : Words) → StepsInOrder c none (Call g (Over o)) a (resume g o) a
  return_step g o a = subst (λ (k : Counts). StepsInOrder c k (Call g (Over o)) a (resume g o) a) (plus_none none)
      (before c (Return g o a) tt (Done (resume g o) a, tt))

  join_step : (g : Own) (o p : Result) (a : Words) → StepsInOrder c none (Fork g (Over o) (Over p)) a (rejoin c g o p) a
  join_step g o p a = subst (λ (k : Counts). StepsInOrder c k (Fork g (Over o) (Over p)) a (rejoin c g o p) a) (plus_none none)
      (before c (Join g o p a) tt (Done (rejoin c g o p) a, tt))

  -- the stack below a block
  below_holds : (blocks : List ℕ) (block : ℕ) (frame : Frame) (left_to to : Option ℕ) (f : Own) → end_of code frame ≤ block
      → Holds code blocks frame left_to to f → Holds code (take block blocks) frame left_to to f
  below_holds blocks block frame left_to to f fits holds =
      holds_still code blocks (take block blocks) frame left_to to f (λ x from less. get_or-take block blocks x 0 (omega (arith, less, fits))) holds

  below_laid : (blocks : List ℕ) (block : ℕ) (s : Above) (frame : Frame) → block ≤ length blocks → end_of code frame ≤ block
      → IsLaidOut code blocks s frame.base (end_of code frame) block
      → IsLaidOut code (take block blocks) s frame.base (end_of code frame) (length (take block blocks))
  below_laid blocks block s frame within fits laid =
      subst (λ (n : ℕ). IsLaidOut code (take block blocks) s frame.base (end_of code frame) n) (sym (length-take-le block blocks within))
      (laid_still code blocks (take block blocks) s frame.base (end_of code frame) block (λ x out less. get_or-take block blocks x 0 less) (omega arith) fits laid)

  -- after both branches: what stands above them stays
  joined_at : (blocks : List ℕ) (s : Above) (frame : Frame) (left_to to : Option ℕ) (f : Own) (l r : Finish) → Holds code blocks frame left_to to f
      → end_of code frame ≤ length blocks → IsLaidOut code blocks s frame.base (end_of code frame) (length blocks)
      → IsShownAt code (stack_joined frame left_to l to r blocks) (listed s) (joined frame l r) s (rejoin c f (result_of l) (result_of r))
  joined_at blocks s frame left_to to f (finish.Trapped trap line) r holds fits laid = record {
    waits = refl;
    at = (refl, frame.base, end_of code frame, omega arith, fits, laid);
  }
  joined_at blocks s frame left_to to f (finish.Gave v) r holds fits laid =
      let g : Own = record { own = with_value left_to v f.own; point = record { capsule = frame.capsule; left_to = None; to = to } } in
      let same : kept (record { own = f.own; point = record { capsule = frame.capsule; left_to = left_to; to = to } }) (Gave v) ≡ kept f (Gave v) =
      ap (λ (h : Own). kept h (Gave v)) (own_is code blocks frame left_to to f holds) in
      subst (λ (h : Own). IsShownAt code (stack_gone_on frame to r (with_slot frame left_to v blocks)) (listed s) (gone_on frame r) s
      (resume h (result_of r))) same
      (gone_at code (with_slot frame left_to v blocks) s frame to g r
      (holds_with code blocks frame left_to to f left_to v None to fits holds.left_target tt holds.target holds)
      (subst (λ (n : ℕ). end_of code frame ≤ n) (sym (with_length code blocks frame left_to v)) fits)
      (with_laid code blocks frame left_to v s fits holds.left_target laid))

  -- and the tree with it
  joined_shown : (blocks : List ℕ) (s : Above) (frame : Frame) (left_to to : Option ℕ) (f : Own) (l r : Finish) → Holds code blocks frame left_to to f
      → end_of code frame ≤ length blocks → IsLaidOut code blocks s frame.base (end_of code frame) (length blocks)
      → IsShown code (stack_joined frame left_to l to r blocks) (listed s) (joined frame l r) (tree_at s (rejoin c f (result_of l) (result_of r)))
  joined_shown blocks s frame left_to to f l r holds fits laid =
      shown_by code (stack_joined frame left_to l to r blocks) (listed s) (joined frame l r) s (rejoin c f (result_of l) (result_of r))
      (tree_at s (rejoin c f (result_of l) (result_of r))) refl (joined_at blocks s frame left_to to f l r holds fits laid)

  -- by what the frame waits for
  resumed_one : (w : Waiting) (on : For) (v : Waits) (s : Above) (done : Finish) (blocks : List ℕ) (a : Words) (begin end : ℕ)
      → w.block ≤ begin → begin ≤ end → end ≤ length blocks → end_of code w.frame ≤ w.block
      → AreOne code blocks end (length blocks) w.frame on v → IsLaidOut code blocks s w.frame.base (end_of code w.frame) w.block
      → (next : Strands) × StepsInOrder c none (tree_at s (waits_for v (Over (result_of done)))) a next a
      × IsShown code (stack_resumed w on done blocks) (waiting_resumed w on done (listed s)) (resumed w on done) next
  resumed_one w (Callee to) (ForCallee f) s done blocks a begin end lies first last fits one laid =
      let within : w.block ≤ length blocks = omega (arith, lies, first, last) in (
        tree_at s (resume f (result_of done)),
        lifted c s (return_step f (result_of done) a),
        gone_shown code (take w.block blocks) s w.frame to f done (below_holds blocks w.block w.frame None to f fits one)
            (subst (λ (n : ℕ). end_of code w.frame ≤ n) (sym (length-take-le w.block blocks within)) fits)
            (below_laid blocks w.block s w.frame within fits laid),
      )
  resumed_one w (Left right left_to to) (ForLeft f r) s done blocks a begin end lies first last fits one laid = (
    tree_at s (waits_for (ForLeft f r) (Over (result_of done))),
    (Done (tree_at s (waits_for (ForLeft f r) (Over (result_of done)))) a, tt),
    record {
      above = On (record { frame = w.frame; block = w.block; on = Right done left_to to }) (ForRight f (result_of done)) s;
      waits = refl;
      leaf = Strand r;
      tree = refl;
      at = (r, refl, one.1, one.3, (omega (arith, lies, first, one.2), fits, (one.0, refl), laid));
    },
  )
  resumed_one w (Right l left_to to) (ForRight f o) s done blocks a begin end lies first last fits one laid =
      let within : w.block ≤ length blocks = omega (arith, lies, first, last) in
      subst (λ (p : Result). (next : Strands) × StepsInOrder c none (tree_at s (Fork f (Over p) (Over (result_of done)))) a next a
      × IsShown code (stack_joined w.frame left_to l to done (take w.block blocks)) (listed s) (joined w.frame l done) next) (sym one.1) (
        tree_at s (rejoin c f (result_of l) (result_of done)),
        lifted c s (join_step f (result_of l) (result_of done) a),
        joined_shown (take w.block blocks) s w.frame left_to to f l done (below_holds blocks w.block w.frame left_to to f fits one.0)
            (subst (λ (n : ℕ). end_of code w.frame ≤ n) (sym (length-take-le w.block blocks within)) fits)
            (below_laid blocks w.block s w.frame within fits laid),
      )
  resumed_one w (Callee to) (ForLeft f g) s done blocks a begin end lies first last fits one laid = absurd one
  resumed_one w (Callee to) (ForRight f o) s done blocks a begin end lies first last fits one laid = absurd one
  resumed_one w (Left r left_to to) (ForCallee f) s done blocks a begin end lies first last fits one laid = absurd one
  resumed_one w (Left r left_to to) (ForRight f o) s done blocks a begin end lies first last fits one laid = absurd one
  resumed_one w (Right l left_to to) (ForCallee f) s done blocks a begin end lies first last fits one laid = absurd one
  resumed_one w (Right l left_to to) (ForLeft f g) s done blocks a begin end lies first last fits one laid = absurd one

  -- of the tree that is shown, the innermost frame goes on
  pub resumed_turn : (ws : List Waiting) (w : Waiting) (done : Finish) (blocks : List ℕ) (a : Words) (t : Strands)
      → IsShown code blocks (ws ++ (w ∷ [])) (IsOver done) t
      → (next : Strands) × StepsInOrder c none t a next a
      × IsShown code (stack_resumed w w.on done blocks) (waiting_resumed w w.on done ws) (resumed w w.on done) next
  resumed_turn ws w done blocks a t shown = by shown.above shown.waits shown.leaf shown.tree shown.at
    where
      by : (s : Above) → listed s ≡ ws ++ (w ∷ []) → (u : Strands) → t ≡ tree_at s u → IsNow code blocks (IsOver done) s u
          → (next : Strands) × StepsInOrder c none t a next a
          × IsShown code (stack_resumed w w.on done blocks) (waiting_resumed w w.on done ws) (resumed w w.on done) next
      by Root e u tree at = absurd (innermost Root ws w e)
      by (On x v s) e u tree at =
          let last = innermost (On x v s) ws w e in
          let whole : tree_at s (waits_for v (Over (result_of done))) ≡ t = ap (λ (z : Strands). tree_at s (waits_for v z)) (sym at.0) ∙ sym tree in
          let laid = subst (λ (y : Waiting). (y.block ≤ at.1) × (end_of code y.frame ≤ y.block) × AreOne code blocks at.2 (length blocks) y.frame y.on v
          × IsLaidOut code blocks s y.frame.base (end_of code y.frame) y.block) last.0 at.5 in
          let turn = resumed_one w w.on v s done blocks a at.1 at.2 laid.0 at.3 at.4 laid.1 laid.2 laid.3 in (
            turn.0,
            subst (λ (z : Strands). StepsInOrder c none z a turn.0 a) whole turn.1,
            subst (λ (zs : List Waiting). IsShown code (stack_resumed w w.on done blocks) (waiting_resumed w w.on done zs) (resumed w w.on done) turn.0)
                last.1 turn.2,
          )

  -- what stands above the strand then, and the strand
  abbrev pub above_resumed : Waiting → For → Waits → Finish → Above → Above
  above_resumed w (Callee to) v done s = s
  above_resumed w (Left right left_to to) (ForLeft f r) done s =
      On (record { frame = w.frame; block = w.block; on = Right done left_to to }) (ForRight f (result_of done)) s
  above_resumed w (Left right left_to to) (ForCallee f) done s = s
  above_resumed w (Left right left_to to) (ForRight f o) done s = s
  above_resumed w (Right l left_to to) v done s = s

  abbrev pub leaf_resumed : Waits → Finish → Strands
  leaf_resumed (ForCallee f) done = resume f (result_of done)
  leaf_resumed (ForLeft f r) done = Strand r
  leaf_resumed (ForRight f o) done = rejoin c f o (result_of done)

  pub resumed_at : (w : Waiting) (on : For) (v : Waits) (s : Above) (done : Finish) (blocks : List ℕ) (begin end : ℕ)
      → w.block ≤ begin → begin ≤ end → end ≤ length blocks → end_of code w.frame ≤ w.block
      → AreOne code blocks end (length blocks) w.frame on v → IsLaidOut code blocks s w.frame.base (end_of code w.frame) w.block
      → IsShownAt code (stack_resumed w on done blocks) (waiting_resumed w on done (listed s)) (resumed w on done)
      (above_resumed w on v done s) (leaf_resumed v done)
  resumed_at w (Callee to) (ForCallee f) s done blocks begin end lies first last fits one laid =
      let within : w.block ≤ length blocks = omega (arith, lies, first, last) in
      gone_at code (take w.block blocks) s w.frame to f done (below_holds blocks w.block w.frame None to f fits one)
      (subst (λ (n : ℕ). end_of code w.frame ≤ n) (sym (length-take-le w.block blocks within)) fits)
      (below_laid blocks w.block s w.frame within fits laid)
  resumed_at w (Left right left_to to) (ForLeft f r) s done blocks begin end lies first last fits one laid = record {
    waits = refl;
    at = (r, refl, one.1, one.3, (omega (arith, lies, first, one.2), fits, (one.0, refl), laid));
  }
  resumed_at w (Right l left_to to) (ForRight f o) s done blocks begin end lies first last fits one laid =
      let within : w.block ≤ length blocks = omega (arith, lies, first, last) in
      subst (λ (p : Result). IsShownAt code (stack_joined w.frame left_to l to done (take w.block blocks)) (listed s) (joined w.frame l done) s
      (rejoin c f p (result_of done))) (sym one.1)
      (joined_at (take w.block blocks) s w.frame left_to to f l done (below_holds blocks w.block w.frame left_to to f fits one.0)
      (subst (λ (n : ℕ). end_of code w.frame ≤ n) (sym (length-take-le w.block blocks within)) fits)
      (below_laid blocks w.block s w.frame within fits laid))
  resumed_at w (Callee to) (ForLeft f g) s done blocks begin end lies first last fits one laid = absurd one
  resumed_at w (Callee to) (ForRight f o) s done blocks begin end lies first last fits one laid = absurd one
  resumed_at w (Left r left_to to) (ForCallee f) s done blocks begin end lies first last fits one laid = absurd one
  resumed_at w (Left r left_to to) (ForRight f o) s done blocks begin end lies first last fits one laid = absurd one
  resumed_at w (Right l left_to to) (ForCallee f) s done blocks begin end lies first last fits one laid = absurd one
  resumed_at w (Right l left_to to) (ForLeft f g) s done blocks begin end lies first last fits one laid = absurd one

  -- the slots that it takes values in lie below its block
  pub slots_there : (ws : List Waiting) (w : Waiting) (done : Finish) (blocks : List ℕ) (t : Strands) → IsShown code blocks (ws ++ (w ∷ [])) (IsOver done) t
      → (w.block ≤ length blocks) × AreSlotsThere w.frame w.on w.block
  slots_there ws w done blocks t shown = by shown.above shown.waits shown.leaf shown.at
    where
      below : (frame : Frame) (block : ℕ) (to : Option ℕ) → end_of code frame ≤ block → IsTarget code frame to → IsSlotThere frame to block
      below frame block None fits one = tt
      below frame block (Some slot) fits one = omega (arith, fits, one)

      slots : (frame : Frame) (block top begin : ℕ) (on : For) (v : Waits) → end_of code frame ≤ block → AreOne code blocks begin top frame on v
          → AreSlotsThere frame on block
      slots frame block top begin (Callee to) (ForCallee f) fits one = below frame block to fits one.target
      slots frame block top begin (Left r left_to to) v fits one = tt
      slots frame block top begin (Right l left_to to) (ForRight f o) fits one =
          (below frame block left_to fits one.0.left_target, below frame block to fits one.0.target)
      slots frame block top begin (Callee to) (ForLeft f g) fits one = absurd one
      slots frame block top begin (Callee to) (ForRight f o) fits one = absurd one
      slots frame block top begin (Right l left_to to) (ForCallee f) fits one = absurd one
      slots frame block top begin (Right l left_to to) (ForLeft f g) fits one = absurd one

      by : (s : Above) → listed s ≡ ws ++ (w ∷ []) → (u : Strands) → IsNow code blocks (IsOver done) s u
          → (w.block ≤ length blocks) × AreSlotsThere w.frame w.on w.block
      by Root e u at = absurd (innermost Root ws w e)
      by (On x v s) e u at =
          let last = innermost (On x v s) ws w e in
          subst (λ (y : Waiting). (y.block ≤ length blocks) × AreSlotsThere y.frame y.on y.block) last.0
          (omega (arith, at.5.0, at.3, at.4), slots x.frame x.block (length blocks) at.2 x.on v at.5.1 at.5.2)

gone_few : (frame : Frame) (done : Finish) → turns_of (gone_on frame done) ≤ 1
gone_few frame (finish.Gave v) = omega arith
gone_few frame (finish.Trapped trap line) = omega arith

joined_few : (frame : Frame) (l r : Finish) → turns_of (joined frame l r) ≤ 1
joined_few frame (finish.Gave v) r = gone_few frame r
joined_few frame (finish.Trapped trap line) r = omega arith

-- a turn that is no capsule leaves less to do
pub resumed_less : (w : Waiting) (on : For) (done : Finish) (ws : List Waiting)
    → pending (waiting_resumed w on done ws) + turns_of (resumed w on done) < pending ws + pending_for on
resumed_less w (Callee to) done ws = let few = gone_few w.frame done in omega (arith, few)
resumed_less w (Left right left_to to) done ws =
    let more = pending_push ws (record { frame = w.frame; block = w.block; on = Right done left_to to }) in omega (arith, more)
resumed_less w (Right left left_to to) done ws = let few = joined_few w.frame left done in omega (arith, few)
