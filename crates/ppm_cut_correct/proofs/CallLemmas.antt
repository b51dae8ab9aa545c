-- A call: one capsule asks for the block, evaluates the arguments, and stores them into the callee's frame.
use Rattle.std.proofs.Common.{◌≡◌, ◌≤◌, ◌<◌, ℕ, ◌+◌, List, [], ◌∷◌, None, Result, Ok, Err, length, inl, replicate, refl, ap, ◌∙◌, subst₂, arith}
use Rattle.std.specs.Prelude.{slice_index}
use Rattle.std.specs.List.{sum}
use Rattle.ppm_strands.specs.Tree.{Words, Strand, Call as Calling}
use Rattle.ppm_strands.specs.Capsule.{Memory, Capsule}
use Rattle.ppm_strands.specs.Strand.{New, new_of}
use Rattle.ppm_code.specs.declared.act.End.{End}
use Rattle.ppm_code.specs.declared.act.End.TheVariants as ends
use Rattle.ppm_code.specs.declared.code.CodeParts.{CodeParts}
use Rattle.ppm_code.specs.declared.instr.Instr.{Instr}
use Rattle.ppm_code.specs.declared.instr.Instr.TheVariants as instr
use Rattle.ppm_code.specs.declared.location.FrameWord.{FrameWord}
use Rattle.ppm_code.specs.declared.location.FrameWord.TheVariants.{Slot}
use Rattle.ppm_code.specs.Locations.{Where}
use Rattle.ppm_code.specs.Capsules.{capsule_from}
use Rattle.ppm_code.specs.Sizes.{slots_of}
use Rattle.ppm_code.specs.Strands.{instrs_of, entry_of, built}
use Rattle.ppm_code.proofs.BuiltLemmas.{built_slot}
use Rattle.ppm_tree.specs.declared.tree.Parameter.{Parameter}
use Rattle.ppm_tree.specs.Tree.{Side, Procedure}
use Rattle.ppm_tree.specs.State.{TrapAt, Frame, Arrays, empty_frame, procedure_named, entered}
use Rattle.ppm_regions.specs.Scope.{Scope}
use Rattle.ppm_cut_code.specs.Layout.{Layout, parameter_layout, target_of}
use Rattle.ppm_cut_code.specs.Slots.{frame_words}
use Rattle.ppm_cut_code.specs.Statements.{arguments_size, arguments_code, paired, stores_code, call_code}
use Rattle.ppm_cut_code.specs.Statements.{callee_parameters, callee_slots, callee_number}
use Rattle.ppm_cut_correct.proofs.ChainLemmas.{cost, Chain}
use Rattle.ppm_cut_correct.proofs.Holding.{at_work, waits, strands, Called}
use Rattle.ppm_cut_correct.proofs.Doing.{CallDoes}
use Rattle.ppm_cut_correct.proofs.ExprLemmas.{goes_on, Meets}
use Rattle.ppm_cut_correct.proofs.StepLemmas.{start_at, sees, whole}
use Rattle.ppm_cut_correct.proofs.BlockLemmas.{stored, stored_at, stored_else, stored_own, stored_shared, stores_go}
use Rattle.ppm_cut_correct.proofs.ArgumentLemmas.{AreGiven, arguments_meet, paired_is, paired_few, parameters_fit, given_holds}

module _ (lengths : List ℕ) (code : CodeParts) (scope : Scope) (layout : Layout) (f : Frame) (own : FrameWord → ℕ) (a : Words) (arrays : Arrays)
    (at next : ℕ) (procedures : List Procedure) where
  abbrev W : ℕ
  W = sum lengths

  abbrev at_start : Memory Where
  at_start = start_at lengths code own at a

  module _ (s : Side) where
    abbrev parameters : List Parameter
    parameters = callee_parameters procedures s

    abbrev count : ℕ
    count = paired parameters s.arguments

    abbrev room : ℕ
    room = frame_words (callee_slots procedures s)

    abbrev call_end : End
    call_end = ends.Call (callee_number procedures s) next (target_of layout s.target)

    -- after the arguments
    abbrev behind_arguments : List Instr
    behind_arguments = stores_code 6 0 count (instr.Ends call_end ∷ [])

    abbrev from_arguments : Capsule Where End
    from_arguments = capsule_from W 1 0 (arguments_code layout parameters s.arguments 0 1 behind_arguments) (replicate 64 0)

    abbrev Came : Result Frame TrapAt → Type 0
    Came t = Meets W (1 + arguments_size parameters s.arguments) behind_arguments
        (AreGiven lengths parameters empty_frame 0 (replicate 64 0)) from_arguments at_start t

    finish : instrs_of code at ≡ call_code procedures layout s next → slots_of code (callee_number procedures s) ≡ callee_slots procedures s
        → count ≡ length (parameter_layout parameters) → count ≤ 64 → count ≤ callee_slots procedures s
        → (t : Result Frame TrapAt) → Came t → Called lengths code procedures s (cost 1 1 0 room) own a at next (target_of layout s.target) t
    finish stands slots same few fit (Err stop) goes =
        whole lengths code at (call_code procedures layout s next) stands own a (ends.Trap stop.0 stop.1) at_start room goes.ends goes.left
        (ap (λ (z : ℕ). room + z) goes.asks ∙ (let e : room + 0 ≡ room = omega arith in e))
    finish stands slots same few fit (Ok g) h =
        let regs = h.0 in
        let m' = stored regs 6 0 count at_start in
        let stores = stores_go W 6 0 count (1 + arguments_size parameters s.arguments) (instr.Ends call_end ∷ []) regs at_start
        (omega (arith, few)) in
        let goes = goes_on h.1 stores.1 in
        let has = slots_of code (callee_number procedures s) in
        let own' = built has 0 (new_of m') in
        let at_slot : (k : ℕ) → k < length (parameter_layout parameters) → own' (Slot k) ≡ slice_index regs (0 + k) =
        λ k low. built_slot has 0 (new_of m') k (omega (arith, low, same, slots, fit))
        ∙ ap (λ (i : ℕ). m' (New i)) (let e : 0 + (6 + k) ≡ 6 + k = omega arith in e)
        ∙ stored_at regs 6 0 count at_start k (omega (arith, low, same)) in
        let callee = at_work own' (entry_of code (callee_number procedures s)) in
        let chain = whole lengths code at (call_code procedures layout s next) stands own a call_end m' room goes.ends goes.left
        (ap (λ (z : ℕ). room + z) goes.asks ∙ (let e : room + 0 ≡ room = omega arith in e)) in (
          callee,
          record {
            own = own';
            at = refl;
            holds = given_holds lengths parameters empty_frame g 0 (replicate 64 0) regs own' h.2 at_slot
                (stored_else regs 6 0 count at_start 4 (inl (omega arith)));
          },
          subst₂ (λ o b. Chain (strands lengths code) (cost 1 1 0 room) (Strand (at_work own at)) a
              (Calling (waits o next None (target_of layout s.target)) (Strand callee)) b)
              (stored_own regs 6 0 count at_start) (stored_shared regs 6 0 count at_start) chain,
        )

  pub call_does : CallDoes lengths code scope layout f own a arrays at next procedures
  call_does s hand stands fits distinct slots small =
      let ps = callee_parameters procedures s in
      let few = paired_few ps s.arguments in
      let same = paired_is scope layout ps s.arguments fits.arguments in
      let fit = parameters_fit (procedure_named procedures s.callee.name) in
      finish s stands slots same (omega (arith, few, small.count)) (omega (arith, same, fit)) (entered procedures f arrays s)
      (arguments_meet lengths scope layout f arrays at_start (sees lengths code scope layout f own a arrays at hand) ps s.arguments empty_frame 0 1
      (behind_arguments s) (replicate 64 0) fits.arguments distinct small.each (omega (arith, small.count)) refl)
