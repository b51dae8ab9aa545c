-- The theorem, from the two directions.
use Rattle.std.proofs.Common.{◌≡◌, inl, inr, ℕ, ℤ, suc, List, codes, length, refl, sym, ap, subst, arith}
use Rattle.std.proofs.lemmas.List.{length-map}
use Rattle.ppm_strands.specs.Tree.{Words, Tree, Code, Strand, Over}
use Rattle.ppm_strands.specs.Run.{none as nothing, End as CapsuleEnd, with_counts, Ends}
use Rattle.ppm_strands.specs.Turn.{StepsInTurn}
use Rattle.ppm_strands.proofs.ChainLemmas.{chains_keep_ends}
use Rattle.ppm_strands.proofs.RunLemmas.{one_end}
use Rattle.ppm_words.specs.declared.named_array.NamedArray.{NamedArray}
use Rattle.ppm_code.specs.declared.location.FrameWord.{FrameWord}
use Rattle.ppm_code.specs.Strands.{Result as Outcome, Gave, Trapped as TrappedAt, entry_of}
use Rattle.ppm_code.specs.Inputs.{words_in}
use Rattle.ppm_depth.specs.Start.{words_of, root_own}
use Rattle.ppm_depth.specs.Run.{strands_of}
use Rattle.ppm_depth.proofs.GoingLemmas.{goes_on_in_order}
use Rattle.ppm_tree.specs.declared.tree.Parameter.{Parameter}
use Rattle.ppm_tree.specs.Tree.{Procedure, ProgramTree}
use Rattle.ppm_tree.specs.Limits.{IsWithin}
use Rattle.ppm_tree.specs.Meaning.{Whole, Counts, End, Ended, Trapped, arrays_of, Enter}
use Rattle.ppm_tree.specs.Program.{values_of, main_of, main_frame, Means}
use Rattle.ppm_regions.specs.Scope.{scope_of}
use Rattle.ppm_regions.specs.Admission.{IsAdmitted}
use Rattle.ppm_cut_bounds.specs.Bounds.{IsWithinBounds}
use Rattle.ppm_ownership.specs.Coming.{Main}
use Rattle.ppm_cut_code.specs.Inputs.{IsInputOf}
use Rattle.ppm_cut_code.specs.Layout.{parameter_layout}
use Rattle.ppm_cut_code.specs.Slots.{named_slots}
use Rattle.ppm_cut_code.specs.Routines.{code_of}
use Rattle.ppm_cut_code.specs.Statements.{number_of}
use Rattle.ppm_cut_code.specs.Standing.{HasBody}
use Rattle.ppm_cut_code.proofs.MainLemmas.{main_is}
use Rattle.ppm_cut_code.proofs.CaughtLemmas.{each_once}
use Rattle.ppm_cut_code.proofs.RegionWords.{lengths_of}
use Rattle.ppm_cut_correct.specs.Correct.{IsEndOf, EndsAsMeant, EndAsMeant}
use Rattle.ppm_cut_correct.proofs.Holding.{CodeFrame, at_work, strands}
use Rattle.ppm_cut_correct.proofs.Places.{Place}
use Rattle.ppm_cut_correct.proofs.Given.{AllDo, Given, budget}
use Rattle.ppm_cut_correct.proofs.GivenLemmas.{all_given}
use Rattle.ppm_cut_correct.proofs.ReachLemmas.{Returned}
use Rattle.ppm_cut_correct.proofs.RootLemmas.{input_shown, strands_are, root_holds, said_shown, said_trapped, run_keeps_count}
use Rattle.ppm_cut_correct.proofs.StatementLemmas.{let_does, assign_does, test_does, give_does, onward_does, finish_does}
use Rattle.ppm_cut_correct.proofs.PutLemmas.{put_does}
use Rattle.ppm_cut_correct.proofs.SplitLemmas.{split_does}
use Rattle.ppm_cut_correct.proofs.CallLemmas.{call_does}
use Rattle.ppm_cut_correct.proofs.ForkLemmas.{fork_does}
use Rattle.ppm_cut_correct.proofs.EntryLemmas.{entry_does, each_does}
use Rattle.ppm_cut_correct.proofs.HalvingLemmas.{halving_does}
use Rattle.ppm_cut_correct.proofs.Forward.{enters}
use Rattle.ppm_cut_correct.proofs.Progress.{OfBlock, progress}

-- all constructs do what they are to do
all_do : (t : ProgramTree) → AllDo (lengths_of t.arrays) (code_of t) t.procedures
all_do t = record {
  declare = let_does (lengths_of t.arrays) (code_of t);
  assign = assign_does (lengths_of t.arrays) (code_of t);
  put = put_does (lengths_of t.arrays) (code_of t);
  test = test_does (lengths_of t.arrays) (code_of t);
  split = split_does (lengths_of t.arrays) (code_of t);
  give = give_does (lengths_of t.arrays) (code_of t);
  onward = onward_does (lengths_of t.arrays) (code_of t);
  finish = finish_does (lengths_of t.arrays) (code_of t);
  call = λ scope layout f own a arrays at next. call_does (lengths_of t.arrays) (code_of t) scope layout f own a arrays at next t.procedures;
  fork = λ scope layout f own a arrays at next. fork_does (lengths_of t.arrays) (code_of t) scope layout f own a arrays at next t.procedures;
  each = each_does (lengths_of t.arrays) (code_of t);
  entry = entry_does (lengths_of t.arrays) (code_of t);
  halving = halving_does (lengths_of t.arrays) (code_of t);
}

module _ (t : ProgramTree) (within : IsWithin t) (admitted : IsAdmitted t) (bounds : IsWithinBounds t) (input : List NamedArray)
    (is : IsInputOf t input) where
  facts : Given t (code_of t)
  facts = all_given t within admitted bounds (all_do t)

  abbrev main : List ℕ
  main = codes "main"

  abbrev p : Procedure
  p = main_of t

  abbrev own : FrameWord → ℕ
  own = root_own (code_of t) input

  abbrev a : Words
  a = words_of (words_in input)

  abbrev here : Code CodeFrame Outcome
  here = strands (lengths_of t.arrays) (code_of t)

  abbrev root : Tree CodeFrame Outcome
  root = Strand (at_work own (entry_of (code_of t) (number_of t.procedures main)))

  -- the strands of the code, over the input
  same_strands : strands_of (code_of t) input ≡ here
  same_strands = strands_are t input is

  body : HasBody t.procedures (code_of t) (number_of t.procedures main) p
  body = facts.stands.each main (main_is t admitted)

  place : Place t (scope_of p) (parameter_layout p.parameters) (named_slots p) p.body (main_frame t.arrays p.parameters)
  place =
      let fits = facts.fits main in
      let modest = facts.modest main in
      let same = length-map p.parameters (λ (q : Parameter). q.name.name) in record {
        p = p;
        g = main_frame t.arrays p.parameters;
        comes = Main;
        fits = fits.body;
        once = each_once (parameter_layout p.parameters) fits.distinct;
        room = omega (arith, same);
        few = modest.few;
        modest = modest.body;
      }

  back : (k : Counts) (z : End ℤ) → Means Whole t (values_of input) k z → Returned (lengths_of t.arrays) (code_of t) (budget t k) root a z
  back k z run = enters t (code_of t) facts run (number_of t.procedures main) own a place body (facts.fits main) (facts.modest main)
      (root_holds t input admitted is) (input_shown t input is)

  -- the end of the code, from a chain to it
  abbrev EndOf : Counts → End ℤ → Type 0
  EndOf k z = (e : CapsuleEnd Outcome) × Ends here root a e × IsEndOf t input e k z

  ends_by : (k : Counts) (z : End ℤ) → length (arrays_of z) ≡ length input → Returned (lengths_of t.arrays) (code_of t) (budget t k) root a z
      → EndOf k z
  ends_by k (Ended v arrays) count q =
      let m = q.made in
      let d : CapsuleEnd Outcome = record { outcome = Gave m.0; words = m.1; counts = nothing } in
      let e = with_counts m.4.0 d in (
        e,
        (chains_keep_ends here m.4.0 root (Over (Gave m.0)) a m.1 m.4.1.0 m.4.1.1 e).1 (d, (1, refl), refl),
        record {
          outcome = said_shown t input is m.1 arrays m.0 v count m.3;
          capsules = omega (arith, m.4.2.most);
          forks = omega (arith, m.4.2.forks);
          pool_words = omega (arith, m.4.2.words, body.slots);
        },
      )
  ends_by k (Trapped stop arrays) count q =
      let m = q.made in
      let d : CapsuleEnd Outcome = record { outcome = TrappedAt stop.0 stop.1; words = m.0; counts = nothing } in
      let e = with_counts m.2.0 d in (
        e,
        (chains_keep_ends here m.2.0 root (Over (TrappedAt stop.0 stop.1)) a m.0 m.2.1.0 m.2.1.1 e).1 (d, (1, refl), refl),
        record {
          outcome = said_trapped input m.0 stop arrays;
          capsules = omega (arith, m.2.2.most);
          forks = omega (arith, m.2.2.forks);
          pool_words = omega (arith, m.2.2.words, body.slots);
        },
      )

  code_ends : (k : Counts) (z : End ℤ) → Means Whole t (values_of input) k z → EndOf k z
  code_ends k z run = ends_by k z (run_keeps_count Whole t admitted input k z run) (back k z run)

  -- the meaning has an end, or the code goes on for so many capsules
  goes : (n : ℕ) → OfBlock t (code_of t) facts n p.body (main_frame t.arrays p.parameters) (values_of input) own
      (entry_of (code_of t) (number_of t.procedures main)) a
  goes n = (progress t (code_of t) facts n).block p.body (main_frame t.arrays p.parameters) (values_of input) (scope_of p)
      (parameter_layout p.parameters) (named_slots p)
      (entry_of (code_of t) (number_of t.procedures main)) body.h _ own a place body.body (root_holds t input admitted is) (input_shown t input is)

  code_ends_only : (e : CapsuleEnd Outcome) → Ends here root a e → (k : Counts) × (z : End ℤ) × Means Whole t (values_of input) k z
      × IsEndOf t input e k z
  code_ends_only e h = elim (goes (suc e.counts.capsules)) [
    | inl d ↦ of_run (Enter p (main_frame t.arrays p.parameters) (values_of input) d.2)
    | inr l ↦
        let d = (chains_keep_ends here l.0 root l.1 a l.2 l.3.0 l.3.1 e).0 h in
        let same = ap (λ (z : CapsuleEnd Outcome). z.counts.capsules) d.2 in
        absurd (omega (arith, same, l.4))
  ]
    where
      of_run : {k : Counts} {z : End ℤ} → Means Whole t (values_of input) k z → (k : Counts) × (z : End ℤ) × Means Whole t (values_of input) k z
          × IsEndOf t input e k z
      of_run {k = k} {z = z} run =
          let q = code_ends k z run in
          (k, z, run, subst (λ (d : CapsuleEnd Outcome). IsEndOf t input d k z) (one_end here root a q.0 e q.1 h) q.2)

  pub as_meant : EndsAsMeant t input
  as_meant = record {
    root = omega (arith, body.slots);
    ends = λ k z run. let q = code_ends k z run in (q.0, subst (λ (c : Code CodeFrame Outcome). Ends c root a q.0) (sym same_strands) q.1, q.2);
    ends_only = λ e h. code_ends_only e (subst (λ (c : Code CodeFrame Outcome). Ends c root a e) same_strands h);
    goes_on = λ n. elim (goes n) [
      | inl d ↦ inl (_, _, Enter p (main_frame t.arrays p.parameters) (values_of input) d.2)
      | inr l ↦
          let s = goes_on_in_order (code_of t) input n root l.1 a l.2 l.0
          (subst (λ (c : Code CodeFrame Outcome). StepsInTurn c l.0 root a l.1 l.2) (sym same_strands) l.3) l.4 in
          inr (s.0, s.1, s.2, s.3, omega (arith, s.4))
    ];
  }

pub end_as_meant_everywhere : EndAsMeant
end_as_meant_everywhere t within admitted bounds input is = as_meant t within admitted bounds input is
