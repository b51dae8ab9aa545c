-- What a walk of a program tells of its trap is of the trap of its outcome.
use Rattle.std.proofs.Common.{◌≡◌, ◌⊎◌, ℕ, ℤ, List, Option, Some, None, refl, sym, ap, subst, inl, inr}
use Rattle.ppm_words.specs.declared.trap.Trap.{Trap}
use Rattle.ppm_words.specs.declared.outcome.Outcome.{Outcome}
use Rattle.ppm_words.specs.declared.outcome.Outcome.TheVariants as outcome
use Rattle.ppm_tree.specs.Tree.{ProgramTree}
use Rattle.ppm_tree.specs.State.{TrapAt, Arrays}
use Rattle.ppm_tree.specs.Meaning.{Plain, Counts, End, Ended, Trapped}
use Rattle.ppm_tree.specs.Program.{initial_arrays, values_of, main_of, main_frame, Means, outcome_of, Serial, Within, NotWithin}
use Rattle.ppm_tree.specs.Correct.{HaveOneEnd}
use Rattle.ppm_trapped.specs.declared.told.Told.{Told}
use Rattle.ppm_trapped.specs.Sites.{TrapsAt}
use Rattle.ppm_trapped.specs.Walks.{EndsSo, IsToldOfRun}
use Rattle.ppm_trapped.specs.Correct.{TrapPointsTrap}
use Rattle.ppm_program.specs.Programs.{HasProgram}
use Rattle.ppm_notes.specs.Traps.{trap_notes}
use Rattle.ppm_explained.specs.Trapping.{IsTrapExplained}

-- the trap of an outcome, or another
abbrev trap_in : TrapAt → Outcome → TrapAt
trap_in s (outcome.Trapped t line) = (t, line)
trap_in s (outcome.Ended arrays) = s
trap_in s outcome.NotWithin = s

no_more : {t : Trap} {line : ℕ} → outcome.Trapped t line ≡ outcome.NotWithin → ⊥
no_more e = cc

module _ (t : ProgramTree) (turns : ℕ) where
  abbrev Spends : Counts → End ℤ → Type 0
  Spends k z = Means Plain t (values_of (initial_arrays t)) k z

  -- the run of an outcome
  record RunOf (o : Outcome) : Type 0 where
    counts : Counts
    end : End ℤ
    run : Spends counts end
    is : o ≡ outcome_of (initial_arrays t) end

  run_of : (o : Outcome) → Serial t turns o → RunOf o ⊎ (o ≡ outcome.NotWithin)
  run_of o (Within k z run few) = inl (record { counts = k; end = z; run = run; is = refl })
  run_of o (NotWithin later) = inr refl

  -- the trap of an outcome is that of a run
  pub trap_run : (trap : Trap) (line : ℕ) → Serial t turns (outcome.Trapped trap line)
      → (k : Counts) × (a : Arrays) × Spends k (Trapped (trap, line) a)
  trap_run trap line s = go (run_of (outcome.Trapped trap line) s) where
    of_end : (k : Counts) (z : End ℤ) → Spends k z → outcome.Trapped trap line ≡ outcome_of (initial_arrays t) z
        → (k : Counts) × (a : Arrays) × Spends k (Trapped (trap, line) a)
    of_end k (Ended v a) run e = cc
    of_end k (Trapped stop a) run e =
        (k, a, subst (λ (s : TrapAt). Spends k (Trapped s a)) (sym (ap (trap_in stop) e)) run)

    go : RunOf (outcome.Trapped trap line) ⊎ (outcome.Trapped trap line ≡ outcome.NotWithin) → (k : Counts) × (a : Arrays) × Spends k (Trapped (trap, line) a)
    go (inl r) = of_end r.counts r.end r.run r.is
    go (inr e) = absurd (no_more e)

  module _ (ends : HaveOneEnd) where
    one_end : (j k : Counts) (y z : End ℤ) → Spends j y → Spends k z → y ≡ z
    one_end j k y z g h =
        ((ends Plain t.procedures).procedure (main_of t) (main_frame t.arrays (main_of t).parameters) (values_of (initial_arrays t)) j k y z g h).1

    -- a run to a trap is that of the outcome
    trap_is : (trap : Trap) (line : ℕ) (k : Counts) (stop : TrapAt) (a : Arrays) → Serial t turns (outcome.Trapped trap line) → Spends k (Trapped stop a)
        → stop ≡ (trap, line)
    trap_is trap line k stop a s h =
        let r = trap_run trap line s in ap (trap_of stop) (one_end k r.0 (Trapped stop a) (Trapped (trap, line) r.1) h r.2)
      where
        trap_of : TrapAt → End ℤ → TrapAt
        trap_of s (Ended v a) = s
        trap_of s (Trapped stop a) = stop

    -- a program that traps does not end
    pub not_ended : (trap : Trap) (line : ℕ) → Serial t turns (outcome.Trapped trap line) → EndsSo t → ⊥
    not_ended trap line s e =
        let r = trap_run trap line s in no_end (one_end e.counts r.0 (Ended e.value e.arrays) (Trapped (trap, line) r.1) e.means r.2)
      where
        no_end : {v : ℤ} {a b : Arrays} {stop : TrapAt} → Ended v a ≡ Trapped stop b → ⊥
        no_end p = cc

    -- what a walk tells explains the trap
    pub explained : TrapPointsTrap → (text : List ℕ) (trap : Trap) (line : ℕ) (notes : List ℕ) → HasProgram text t
        → Serial t turns (outcome.Trapped trap line) → (told : Told) → IsToldOfRun t (Some told) → notes ≡ trap_notes text told
        → IsTrapExplained turns text trap line notes
    explained law text trap line notes has s told w is =
        let r = law t w.0 (told.trap, told.line) w.1 in
        let same = trap_is trap line r.0 (told.trap, told.line) r.1 s r.2 in record {
          tree = t;
          program = has;
          serial = s;
          point = w.0;
          traps = subst (λ (stop : TrapAt). TrapsAt t w.0 stop) same w.1;
          told = told;
          is_told = w.2;
          is = is;
        }
