-- A fork: one capsule asks for the block, evaluates the arguments of both branches, and stores them into the two new frames.
use Rattle.std.proofs.Common.{◌≡◌, ◌≤◌, ◌<◌, ℕ, suc, ◌+◌, List, [], ◌∷◌, Result, Ok, Err, length, inl, inr, replicate, refl, ap, ◌∙◌, subst₂, arith}
use Rattle.std.specs.Prelude.{slice_index}
use Rattle.std.specs.List.{sum}
use Rattle.std.proofs.lemmas.List.{length-append}
use Rattle.ppm_strands.specs.Tree.{Words, Strand, Fork as Forking}
use Rattle.ppm_strands.specs.Capsule.{Memory, Capsule}
use Rattle.ppm_strands.specs.Strand.{New, new_of}
use Rattle.ppm_code.specs.declared.act.End.{End}
use Rattle.ppm_code.specs.declared.act.End.TheVariants as ends
use Rattle.ppm_code.specs.declared.code.CodeParts.{CodeParts}
use Rattle.ppm_code.specs.declared.instr.Instr.{Instr}
use Rattle.ppm_code.specs.declared.instr.Instr.TheVariants as instr
use Rattle.ppm_code.specs.declared.location.FrameWord.{FrameWord}
use Rattle.ppm_code.specs.declared.location.FrameWord.TheVariants.{Slot, Value}
use Rattle.ppm_code.specs.Sizes.{slots_of, left_at, right_at}
use Rattle.ppm_code.specs.Locations.{Where}
use Rattle.ppm_code.specs.Capsules.{capsule_from}
use Rattle.ppm_code.specs.Strands.{instrs_of, entry_of, built}
use Rattle.ppm_code.proofs.BuiltLemmas.{built_slot}
use Rattle.ppm_tree.specs.declared.tree.Parameter.{Parameter}
use Rattle.ppm_tree.specs.Limits.{IsNode}
use Rattle.ppm_tree.specs.Tree.{Side, Procedure}
use Rattle.ppm_tree.specs.State.{TrapAt, then_with, Frame, Arrays, empty_frame, procedure_named, entered, both_entered}
use Rattle.ppm_regions.specs.Scope.{Scope}
use Rattle.ppm_cut_code.specs.Layout.{Layout, parameter_layout, target_of}
use Rattle.ppm_cut_code.specs.Slots.{frame_words, fork_words}
use Rattle.ppm_cut_code.specs.Statements.{arguments_size, arguments_code, paired, stores_code, fork_code}
use Rattle.ppm_cut_code.specs.Statements.{callee_parameters, callee_slots, callee_number}
use Rattle.ppm_cut_correct.proofs.ChainLemmas.{cost, Chain}
use Rattle.ppm_cut_correct.proofs.Holding.{at_work, waits, strands, Forked}
use Rattle.ppm_cut_correct.proofs.Doing.{ForkDoes, argument_nodes}
use Rattle.ppm_cut_correct.proofs.ExprLemmas.{goes_on, goes_same, Meets, meets_at, bind_meets, all_front, all_behind}
use Rattle.ppm_cut_correct.proofs.StepLemmas.{start_at, sees, whole}
use Rattle.ppm_cut_correct.proofs.BlockLemmas.{stored, stored_at, stored_else, stored_own, stored_shared, stores_go}
use Rattle.ppm_cut_correct.proofs.ArgumentLemmas.{AreGiven, arguments_meet, paired_is, paired_few, parameters_fit, given_holds}

module _ (lengths : List ℕ) (code : CodeParts) (scope : Scope) (layout : Layout) (f : Frame) (own : FrameWord → ℕ) (a : Words) (arrays : Arrays)
    (at next : ℕ) (procedures : List Procedure) where
  abbrev W : ℕ
  W = sum lengths

  abbrev at_start : Memory Where
  at_start = start_at lengths code own at a

  module _ (s u : Side) where
    abbrev lefts : List Parameter
    lefts = callee_parameters procedures s

    abbrev rights : List Parameter
    rights = callee_parameters procedures u

    abbrev left_count : ℕ
    left_count = paired lefts s.arguments

    abbrev right_count : ℕ
    right_count = paired rights u.arguments

    abbrev room : ℕ
    room = fork_words (callee_slots procedures s) (callee_slots procedures u)

    abbrev fork_end : End
    fork_end = ends.Fork (callee_number procedures s) (callee_number procedures u) next (target_of layout s.target) (target_of layout u.target)

    -- after the arguments
    abbrev right_offset : ℕ
    right_offset = 11 + frame_words (callee_slots procedures s)

    abbrev right_stores : List Instr
    right_stores = stores_code right_offset left_count right_count (instr.Ends fork_end ∷ [])

    abbrev behind_arguments : List Instr
    behind_arguments = stores_code 11 0 left_count right_stores

    -- the numbers of the right branch's first argument, and of what is after all
    abbrev right_from : ℕ
    right_from = suc (arguments_size lefts s.arguments)

    abbrev stores_from : ℕ
    stores_from = right_from + arguments_size rights u.arguments

    abbrev right_arguments : List Instr
    right_arguments = arguments_code layout rights u.arguments left_count right_from behind_arguments

    abbrev from_arguments : Capsule Where End
    from_arguments = capsule_from W 1 0 (arguments_code layout lefts s.arguments 0 1 right_arguments) (replicate 64 0)

    -- both branches' arguments are in the registers
    pub record BothGiven (g : Frame × Frame) (h : List ℕ) : Type 0 where
      pub between : List ℕ
      pub left : AreGiven lengths lefts empty_frame 0 (replicate 64 0) g.0 between
      pub right : AreGiven lengths rights empty_frame left_count between g.1 h

    finish : instrs_of code at ≡ fork_code procedures layout s u next → slots_of code (callee_number procedures s) ≡ callee_slots procedures s
        → slots_of code (callee_number procedures u) ≡ callee_slots procedures u
        → left_count ≡ length (parameter_layout lefts) → right_count ≡ length (parameter_layout rights) → left_count + right_count ≤ 64
        → left_count ≤ callee_slots procedures s → right_count ≤ callee_slots procedures u
        → (t : Result (Frame × Frame) TrapAt) → Meets W stores_from behind_arguments BothGiven from_arguments at_start t
        → Forked lengths code procedures s u room own a at next (target_of layout s.target) (target_of layout u.target) t
    finish stands slots right_slots same_left same_right few low right_low (Err stop) goes =
        whole lengths code at (fork_code procedures layout s u next) stands own a (ends.Trap stop.0 stop.1) at_start room goes.ends goes.left
        (ap (λ (z : ℕ). room + z) goes.asks ∙ (let e : room + 0 ≡ room = omega arith in e))
    finish stands slots right_slots same_left same_right few low right_low (Ok g) h =
        let regs = h.0 in
        let m1 = stored regs 11 0 left_count at_start in
        let m2 = stored regs right_offset left_count right_count m1 in
        let first = stores_go W 11 0 left_count stores_from right_stores regs at_start (omega (arith, few)) in
        let second = stores_go W right_offset left_count right_count first.0 (instr.Ends fork_end ∷ []) regs m1 few in
        let goes = goes_on h.1 (goes_on first.1 second.1) in
        let frame = right_at code (callee_number procedures s) in
        let left_has = slots_of code (callee_number procedures s) in
        let right_has = slots_of code (callee_number procedures u) in
        let left = built left_has left_at (new_of m2) in
        let right = built right_has frame (new_of m2) in
        let left_slot : (k : ℕ) → k < length (parameter_layout lefts) → left (Slot k) ≡ slice_index h.2.between (0 + k) =
        λ k below. built_slot left_has left_at (new_of m2) k (omega (arith, below, same_left, low, slots))
        ∙ ap (λ (i : ℕ). m2 (New i)) (let e : 5 + (6 + k) ≡ 11 + k = omega arith in e)
        ∙ stored_else regs right_offset left_count right_count m1 (11 + k) (inl (omega (arith, below, same_left, low)))
        ∙ stored_at regs 11 0 left_count at_start k (omega (arith, below, same_left))
        ∙ h.2.right.keeps (0 + k) (omega (arith, below, same_left)) in
        let right_slot : (k : ℕ) → k < length (parameter_layout rights) → right (Slot k) ≡ slice_index regs (left_count + k) =
        λ k below. built_slot right_has frame (new_of m2) k (omega (arith, below, same_right, right_low, right_slots))
        ∙ ap (λ (i : ℕ). m2 (New i)) (let e : frame + (6 + k) ≡ right_offset + k = omega (arith, slots) in e)
        ∙ stored_at regs right_offset left_count right_count m1 k (omega (arith, below, same_right)) in
        let left_value : left Value ≡ 0 =
        stored_else regs right_offset left_count right_count m1 9 (inl (omega arith))
        ∙ stored_else regs 11 0 left_count at_start 9 (inl (omega arith)) in
        let right_value : right Value ≡ 0 =
        stored_else regs right_offset left_count right_count m1 (frame + 4) (inl (omega (arith, slots)))
        ∙ stored_else regs 11 0 left_count at_start (frame + 4) (inr (omega (arith, slots, low))) in
        let left_callee = at_work left (entry_of code (callee_number procedures s)) in
        let right_callee = at_work right (entry_of code (callee_number procedures u)) in
        let chain = whole lengths code at (fork_code procedures layout s u next) stands own a fork_end m2 room goes.ends goes.left
        (ap (λ (z : ℕ). room + z) goes.asks ∙ (let e : room + 0 ≡ room = omega arith in e)) in (
          left_callee,
          right_callee,
          record {
            own = left;
            at = refl;
            holds = given_holds lengths lefts empty_frame g.0 0 (replicate 64 0) h.2.between left h.2.left left_slot left_value;
          },
          record {
            own = right;
            at = refl;
            holds = given_holds lengths rights empty_frame g.1 left_count h.2.between regs right h.2.right right_slot right_value;
          },
          subst₂ (λ o b. Chain (strands lengths code) (cost 1 1 1 room) (Strand (at_work own at)) a
              (Forking (waits o next (target_of layout s.target) (target_of layout u.target)) (Strand left_callee) (Strand right_callee)) b)
              (stored_own regs right_offset left_count right_count m1 ∙ stored_own regs 11 0 left_count at_start)
              (stored_shared regs right_offset left_count right_count m1 ∙ stored_shared regs 11 0 left_count at_start) chain,
        )

  pub fork_does : ForkDoes lengths code scope layout f own a arrays at next procedures
  fork_does s u hand stands fits_s fits_u distinct_s distinct_u slots right_slots small =
      let ps = callee_parameters procedures s in
      let qs = callee_parameters procedures u in
      let left_nodes = argument_nodes s.arguments in
      let right_nodes = argument_nodes u.arguments in
      let both = length-append left_nodes right_nodes in
      let few_left = paired_few ps s.arguments in
      let few_right = paired_few qs u.arguments in
      let same_left = paired_is scope layout ps s.arguments fits_s.arguments in
      let same_right = paired_is scope layout qs u.arguments fits_u.arguments in
      let fit = parameters_fit (procedure_named procedures s.callee.name) in
      let right_fit = parameters_fit (procedure_named procedures u.callee.name) in
      let seen = sees lengths code scope layout f own a arrays at hand in
      let left_end = 1 + arguments_size ps s.arguments in
      let zeros : List ℕ = replicate 64 0 in
      finish s u stands slots right_slots same_left same_right (omega (arith, few_left, few_right, both, small.count))
      (omega (arith, same_left, fit)) (omega (arith, same_right, right_fit))
      (both_entered procedures f arrays s u)
      (bind_meets W (right_from s u) (stores_from s u) (right_arguments s u) (behind_arguments s u) (AreGiven lengths ps empty_frame 0 zeros)
      (BothGiven s u)
      (from_arguments s u) at_start (entered procedures f arrays s) (λ g. then_with (entered procedures f arrays u) (λ h. Ok (g, h)))
      (meets_at W left_end (right_from s u) (right_arguments s u) (AreGiven lengths ps empty_frame 0 zeros) (from_arguments s u) at_start
      (entered procedures f arrays s) (omega arith)
      (arguments_meet lengths scope layout f arrays at_start seen ps s.arguments empty_frame 0 1
      (right_arguments s u) zeros fits_s.arguments distinct_s
      (all_front IsNode left_nodes right_nodes small.each) (omega (arith, both, small.count)) refl)) (λ g between k.
      bind_meets W (stores_from s u) (stores_from s u) (behind_arguments s u) (behind_arguments s u)
      (AreGiven lengths qs empty_frame (left_count s u) between) (BothGiven s u)
      (capsule_from W (right_from s u) 0 (right_arguments s u) between) at_start (entered procedures f arrays u) (λ h. Ok (g, h))
      (arguments_meet lengths scope layout f arrays at_start seen qs u.arguments empty_frame (left_count s u) (right_from s u)
      (behind_arguments s u) between
      fits_u.arguments distinct_u (all_behind IsNode left_nodes right_nodes small.each)
      (omega (arith, few_left, both, small.count)) k.count) (λ h regs j. (
        regs,
        goes_same (capsule_from W (stores_from s u) 0
            (behind_arguments s u) regs) at_start,
        record { between = between; left = k; right = j },
      ))))
