-- The run of the code, capsule by capsule, is that of the RAM, step by step.
use Rattle.std.proofs.Common.{◌≡◌, ◌∙◌, ◌<◌, ◌⊎◌, inl, inr, ℕ, zero, suc, ◌+◌, ◌*◌, ◌^◌, Bool, true, false, cond, ℤ, pos, List, [], ◌∷◌, ◌++◌, get_or, length, map}
use Rattle.std.proofs.Common.{Option, Some, None, Result, Ok, Err, refl, sym, ap, ap₂, subst, subst₂, arith, append-nil}
use Rattle.std.specs.Prelude.{slice_get, replicate, nat_lt, FitsSigned}
use Rattle.std.specs.Int.{w64}
use Rattle.std.specs.List.{AllByRecursion}
use Rattle.std.specs.Ordering.{int_eq}
use Rattle.std.proofs.lemmas.Bool.{both_ways, ltb-true}
use Rattle.ppm_words.specs.TwosComplement.{word_of, value_of}
use Rattle.ppm_words.specs.declared.trap.Trap.{Trap}
use Rattle.ppm_words.proofs.TwosComplementLemmas.{value_of-word_of}
use Rattle.ppm_strands.specs.Tree.{Words, Tree, Strand, Over, Code, forks_in}
use Rattle.ppm_strands.specs.Run.{Counts, none, plus, End, with_counts, counted, of_capsule, run}
use Rattle.ppm_strands.specs.Calm.{CalmWithin, Calm}
use Rattle.ppm_strands.specs.Capsule.{Ends, Memory, ending, leaves, asked}
use Rattle.ppm_strands.specs.Strand.{Frame, code_of as strands_in, start, own_of, new_of, shared_of}
use Rattle.ppm_code.specs.declared.act.End.{End as CapsuleEnd}
use Rattle.ppm_code.specs.declared.instr.Instr.{Instr}
use Rattle.ppm_code.specs.declared.location.FrameWord.{FrameWord}
use Rattle.ppm_code.specs.declared.location.FrameWord.TheVariants.{Slot, Value}
use Rattle.ppm_code.specs.Locations.{Where, code_locations}
use Rattle.ppm_code.specs.Capsules.{capsule_of}
use Rattle.ppm_code.specs.Strands.{Point, Result as FrameResult, Gave, Trapped as TrappedBy, at_capsule, instrs_in, instrs_of, opens, table_of}
use Rattle.ppm_tree.specs.Values.{fits}
use Rattle.ppm_ram.specs.declared.instruction.Instruction.{Instruction}
use Rattle.ppm_ram.specs.declared.instruction.Instruction.TheVariants as instruction
use Rattle.ppm_ram.specs.declared.ram.RamParts.{RamParts}
use Rattle.ppm_ram.specs.Program.{IsRam, has_value, has_target, is_final}
use Rattle.ppm_ram.specs.Meaning.{State, Move, GoesOn, Stops, End as RamEnd, Halted, Trapped, computed, loaded, stored, applied_by, held, index_of}
use Rattle.ppm_ram.specs.Meaning.{gone_to, with_register, with_memory, does, done, step, EndsIn, Last, Further}
use Rattle.ppm_ram_code.specs.declared.bank.Bank.{Bank}
use Rattle.ppm_ram_code.specs.Code.{capsule_at, capsule_for, capsules_from, instrs_for, code_of}
use Rattle.ppm_ram_code.proofs.ListLemmas.{all_at, some_at, next_there, capsule_there}
use Rattle.ppm_ram_code.proofs.CapsuleLemmas.{Goes}
use Rattle.ppm_ram_code.proofs.StepLemmas.{IsStored, Shows, frame_at, Comes, leads}

-- what a step leads to is told apart
abbrev HasStopped : Move → Type 0
HasStopped (GoesOn t) = ⊥
HasStopped (Stops f) = Unit {0}

goes_not_stops : {s : State} {e : RamEnd} → Stops e ≡ GoesOn s → ⊥
goes_not_stops h = subst HasStopped h tt

abbrev at_of : ℕ → Move → ℕ
at_of n (GoesOn t) = t.at
at_of n (Stops e) = n

-- where an instruction goes on: at the next one, or at its target
went_on : (s t : State) (count : ℕ) (i : Instruction) → does s i ≡ GoesOn t → has_target count i ≡ true → (is_final i ≡ false → s.at + 1 < count) → t.at < count
went_on s t count (instruction.Set to z) e target next = subst (λ (n : ℕ). n < count) (ap (at_of 0) e) (next refl)
went_on s t count (instruction.Compute o to x y) e target next = by (applied_by o (held s x) (held s y)) e
  where
    by : (v : Result ℤ Trap) → computed s to v ≡ GoesOn t → t.at < count
    by (Ok z) e = subst (λ (n : ℕ). n < count) (ap (at_of 0) e) (next refl)
    by (Err u) e = absurd (goes_not_stops e)
went_on s t count (instruction.Load to x) e target next = by (index_of s.memory (held s x)) e
  where
    by : (v : Option ℕ) → loaded s to v ≡ GoesOn t → t.at < count
    by (Some n) e = subst (λ (n : ℕ). n < count) (ap (at_of 0) e) (next refl)
    by None e = absurd (goes_not_stops e)
went_on s t count (instruction.Store x y) e target next = by (index_of s.memory (held s x)) e
  where
    by : (v : Option ℕ) → stored s (held s y) v ≡ GoesOn t → t.at < count
    by (Some n) e = subst (λ (n : ℕ). n < count) (ap (at_of 0) e) (next refl)
    by None e = absurd (goes_not_stops e)
went_on s t count (instruction.JumpIfZero x n) e target next = by (int_eq (held s x) (pos 0)) e
  where
    by : (v : Bool) → GoesOn (gone_to s (cond v n (s.at + 1))) ≡ GoesOn t → t.at < count
    by true e = subst (λ (n : ℕ). n < count) (ap (at_of 0) e) (ltb-true n count target)
    by false e = subst (λ (n : ℕ). n < count) (ap (at_of 0) e) (next refl)
went_on s t count (instruction.Jump n) e target next = subst (λ (n : ℕ). n < count) (ap (at_of 0) e) (ltb-true n count target)
went_on s t count instruction.Halt e target next = absurd (goes_not_stops e)

-- an end with what was counted before it
counted_back : (k : Counts) (o : Option (End FrameResult)) (d : End FrameResult) → counted k o ≡ Some d
    → (e : End FrameResult) × (o ≡ Some e) × (with_counts k e ≡ d)
counted_back k None d h = absurd (cc)
counted_back k (Some e) d h = (e, refl, cc)

-- the counts of so many steps
abbrev pub steps_counted : ℕ → Counts
steps_counted n = record { capsules = n; forks = 0; block_words = 0 }

one_more : (k : Counts) (n : ℕ) → k ≡ steps_counted n → plus (steps_counted 1) k ≡ steps_counted (suc n)
one_more k n e = ap (plus (steps_counted 1)) e ∙ (let h : 1 + n ≡ suc n = omega arith in ap steps_counted h)

module _ (r : RamParts) (is : IsRam r) (W : ℕ) (low : W < 2 ^ 32) where
  abbrev pub c : Code (Frame FrameWord Point) FrameResult
  c = strands_in code_locations (table_of (code_of r) W)

  -- an end of the run is that of the RAM, and tells so many steps
  pub record Tells (e : RamEnd) (steps : ℕ) (d : End FrameResult) : Type 0 where
    pub there : Comes W (Stops e) (Over d.outcome) d.words
    pub counts : d.counts ≡ steps_counted steps

  -- a capsule of the code is a step
  record IsStep (F : Frame FrameWord Point) (a : Words) (move : Move) : Type 0 where
    pub comes : Comes W move (c.next F a) (c.after F a)
    pub one : of_capsule c F a ≡ steps_counted 1

  forks_none : (move : Move) (tree : Tree (Frame FrameWord Point) FrameResult) (a : Words) → Comes W move tree a → forks_in tree ≡ 0
  forks_none (GoesOn t) tree a h = ap forks_in h.2
  forks_none (Stops (Halted memory)) tree a h = ap forks_in h.1
  forks_none (Stops (Trapped t line)) tree a h = ap forks_in h

  module _ (b : Bank) (s : State) (f : FrameWord → ℕ) (a : Words) (shows : Shows W b s f a) (there : s.at < length r.instructions) where
    abbrev F : Frame FrameWord Point
    F = frame_at s.at b f

    found : (i : Instruction) × (slice_get r.instructions s.at ≡ Some i)
    found = some_at r.instructions s.at there

    instrs_are : instrs_of (code_of r) (capsule_at s.at b) ≡ instrs_for s.at b found.0
    instrs_are =
        ap instrs_in (capsule_there r.instructions 0 s.at b found.0 found.1)
        ∙ (let h : 0 + s.at ≡ s.at = omega arith in ap (λ (n : ℕ). instrs_for n b found.0) h)

    a_step : IsStep F a (step r s)
    a_step =
        let m = start code_locations (table_of (code_of r) W) F a in
        let (e, n, goes, comes) = leads r W low b s f a shows found.0 (all_at (λ i. has_value i ≡ true) r.instructions is.constants s.at found.0 found.1) in
        let all : Goes (capsule_of W (instrs_of (code_of r) (capsule_at s.at b))) m (Ends e) n =
        subst (λ is. Goes (capsule_of W is) m (Ends e) n) (sym instrs_are) goes in
        let next : c.next F a ≡ opens (code_of r) e (own_of n) (new_of n) =
        ap₂ (λ (e : CapsuleEnd) (l : Memory Where). opens (code_of r) e (own_of l) (new_of l)) all.ends all.left in
        let after : c.after F a ≡ shared_of n = ap (λ (l : Memory Where). shared_of l) all.left in
        let move : does s found.0 ≡ step r s = ap (done s) (sym found.1) in
        let here : Comes W (step r s) (c.next F a) (c.after F a) =
        subst (λ (v : Move). Comes W v (c.next F a) (c.after F a)) move (subst₂ (λ t a. Comes W (does s found.0) t a) (sym next) (sym after) comes) in
        let none_forked = forks_none (step r s) (c.next F a) (c.after F a) here in
        let none_asked : c.asks F a ≡ 0 = all.asks in
        record { comes = here; one = λ i. record { capsules = 1; forks = none_forked i; block_words = none_asked i } }

    stays : (t : State) → step r s ≡ GoesOn t → t.at < length r.instructions
    stays t e =
        went_on s t (length r.instructions) found.0 (ap (done s) (sym found.1) ∙ e)
        (all_at (λ i. has_target (length r.instructions) i ≡ true) r.instructions is.targets s.at found.0 found.1)
        (next_there r.instructions is.end s.at found.0 found.1)

    -- at an end
    last_told : (e : RamEnd) → Comes W (Stops e) (c.next F a) (c.after F a)
        → (o : FrameResult) × (c.next F a ≡ Over o) × Comes W (Stops e) (Over o) (c.after F a)
    last_told (Halted memory) h = (Gave h.0, h.1, (h.0, refl, h.2, h.3))
    last_told (Trapped t line) h = (TrappedBy t line, h, refl)

    ended : (e : RamEnd) (n : ℕ) → step r s ≡ Stops e
        → (d : End FrameResult) × (run c (suc (suc n)) (Strand F) a ≡ Some d) × Tells e 1 d
    ended e n stops =
        let (o, over, told) = last_told e (subst (λ v. Comes W v (c.next F a) (c.after F a)) stops a_step.comes) in
        let d : End FrameResult = record { outcome = o; words = c.after F a; counts = none } in (
          with_counts (steps_counted 1) d,
          ap₂ (λ k t. counted k (run c (suc n) t (c.after F a))) a_step.one over,
          record { there = told; counts = refl },
        )

  -- where the RAM ends its code does
  pub forward : (n : ℕ) (s : State) (e : RamEnd) → EndsIn r s n e → (b : Bank) (f : FrameWord → ℕ) (a : Words) → Shows W b s f a
      → s.at < length r.instructions → (d : End FrameResult) × (run c (suc n) (Strand (frame_at s.at b f)) a ≡ Some d) × Tells e n d
  forward _ s e (Last _ _ stops) b f a shows there = ended b s f a shows there e 0 stops
  forward _ s e (Further _ t n _ goes rest) b f a shows there =
      let F = frame_at s.at b f in
      let here = a_step b s f a shows there in
      let (b', f', strand, shows') = subst (λ v. Comes W v (c.next F a) (c.after F a)) goes here.comes in
      let (d, runs, told) = forward n t e rest b' f' (c.after F a) shows' (stays b s f a shows there t goes) in (
        with_counts (steps_counted 1) d,
        ap₂ (λ k u. counted k (run c (suc n) u (c.after F a))) here.one strand ∙ ap (counted (steps_counted 1)) runs,
        record { there = told.there; counts = one_more d.counts n told.counts },
      )

  -- where the code ends the RAM does
  pub backward : (n : ℕ) (s : State) (d : End FrameResult) (b : Bank) (f : FrameWord → ℕ) (a : Words) → Shows W b s f a
      → s.at < length r.instructions → run c n (Strand (frame_at s.at b f)) a ≡ Some d → (k : ℕ) × (e : RamEnd) × EndsIn r s k e × Tells e k d
  backward zero s d b f a shows there runs = absurd (cc)
  backward (suc n) s d b f a shows there runs =
      by (step r s) refl (λ t d' b' f' w shows' there' runs'. backward n t d' b' f' w shows' there' runs')
    where
      F : Frame FrameWord Point
      F = frame_at s.at b f

      here : IsStep F a (step r s)
      here = a_step b s f a shows there

      left : counted (steps_counted 1) (run c n (c.next F a) (c.after F a)) ≡ Some d
      left = ap (λ k. counted k (run c n (c.next F a) (c.after F a))) (sym here.one) ∙ runs

      over : (n : ℕ) (o : FrameResult) (w : Words) (d : End FrameResult) → run c n (Over o) w ≡ Some d → d ≡ record { outcome = o; words = w; counts = none }
      over zero o w d h = absurd (cc)
      over (suc n) o w d h = cc

      by : (move : Move) → step r s ≡ move
          → ((t : State) (d : End FrameResult) (b : Bank) (f : FrameWord → ℕ) (w : Words) → Shows W b t f w → t.at < length r.instructions
          → run c n (Strand (frame_at t.at b f)) w ≡ Some d → (k : ℕ) × (e : RamEnd) × EndsIn r t k e × Tells e k d)
          → (k : ℕ) × (e : RamEnd) × EndsIn r s k e × Tells e k d
      by (GoesOn t) goes back =
          let (b', f', strand, shows') = subst (λ v. Comes W v (c.next F a) (c.after F a)) goes here.comes in
          let (d', runs', same) = counted_back (steps_counted 1) (run c n (c.next F a) (c.after F a)) d left in
          let (k, e, ends, told) = back t d' b' f' (c.after F a) shows' (stays b s f a shows there t goes)
          (ap (λ u. run c n u (c.after F a)) (sym strand) ∙ runs') in (
            suc k,
            e,
            Further s t k e goes ends,
            subst (λ d. Tells e (suc k) d) same (record { there = told.there; counts = one_more d'.counts k told.counts }),
          )
      by (Stops e) stops back =
          let (o, is_over, told) = last_told b s f a shows there e (subst (λ v. Comes W v (c.next F a) (c.after F a)) stops here.comes) in
          let (d', runs', same) = counted_back (steps_counted 1) (run c n (c.next F a) (c.after F a)) d left in
          let end = over n o (c.after F a) d' (ap (λ u. run c n u (c.after F a)) (sym is_over) ∙ runs') in (
            1,
            e,
            Last s e stops,
            subst (λ d. Tells e 1 d) (ap (with_counts (steps_counted 1)) (sym end) ∙ same) (record { there = told; counts = refl }),
          )

  -- and no branch is there that could race
  pub calm_from : (n : ℕ) (s : State) (b : Bank) (f : FrameWord → ℕ) (a : Words) → Shows W b s f a → s.at < length r.instructions
      → CalmWithin c n (Strand (frame_at s.at b f)) a
  calm_from zero s b f a shows there = tt
  calm_from (suc n) s b f a shows there = by (step r s) refl (λ t b' f' w shows' there'. calm_from n t b' f' w shows' there')
    where
      F : Frame FrameWord Point
      F = frame_at s.at b f

      here : IsStep F a (step r s)
      here = a_step b s f a shows there

      calm_over : (n : ℕ) (o : FrameResult) (w : Words) → CalmWithin c n (Over o) w
      calm_over zero o w = tt
      calm_over (suc n) o w = tt

      by : (move : Move) → step r s ≡ move
          → ((t : State) (b : Bank) (f : FrameWord → ℕ) (w : Words) → Shows W b t f w → t.at < length r.instructions
          → CalmWithin c n (Strand (frame_at t.at b f)) w)
          → CalmWithin c n (c.next F a) (c.after F a)
      by (GoesOn t) goes calm =
          let (b', f', strand, shows') = subst (λ v. Comes W v (c.next F a) (c.after F a)) goes here.comes in
          subst (λ u. CalmWithin c n u (c.after F a)) (sym strand) (calm t b' f' (c.after F a) shows' (stays b s f a shows there t goes))
      by (Stops e) stops calm =
          let (o, is_over, told) = last_told b s f a shows there e (subst (λ v. Comes W v (c.next F a) (c.after F a)) stops here.comes) in
          subst (λ u. CalmWithin c n u (c.after F a)) (sym is_over) (calm_over n o (c.after F a))
