-- A schedule has one run, as far as it is told.
use Rattle.std.proofs.Common.{◌≡◌, ◌⊎◌, ◌<◌, ℕ, List, length, Some, sym, ap, ◌∙◌, subst, inl, inr, arith}
use Rattle.std.proofs.lemmas.Bool.{cases_order}
use Rattle.ppm_strands.specs.Tree.{Words}
use Rattle.ppm_unseen.specs.Run.{System}
use Rattle.ppm_code.specs.declared.location.FrameWord.{FrameWord}
use Rattle.ppm_code.specs.Inputs.{words_in}
use Rattle.ppm_code.specs.Strands.{Result}
use Rattle.ppm_depth.specs.Start.{root_own, words_of}
use Rattle.ppm_filled.specs.Racing.{OwnWord, Place, Exit}
use Rattle.ppm_racy.specs.declared.code.RacyParts.{RacyParts}
use Rattle.ppm_racy.specs.Code.{plain_code}
use Rattle.ppm_depth.specs.declared.frame.Finish.{Finish}
use Rattle.ppm_interleaving.specs.Shows.{finish_in}
use Rattle.ppm_interleaving.specs.Steps.{result_of}
use Rattle.ppm_interleaving.specs.Turns.{Moment, deeds, IsRun, SchedulesHaveOneRun}
use Rattle.ppm_interleaving.proofs.OnceLemmas.{AreOverOnce}
use Rattle.ppm_strand_runs.specs.declared.run.StrandRun.{StrandRun}
use Rattle.ppm_strand_runs.specs.Correct.{AreAlike, RunsAreOne}
use Rattle.ppm_strand_runs.specs.Order.{turns_of}
use Rattle.ppm_strand_runs.specs.Run.{Comes, HasCome, IsRunOf, strands_of}
use Rattle.ppm_strand_runs.proofs.FirstLemmas.{one_first_fall}
use Rattle.ppm_strand_runs.proofs.SameLemmas.{not_shorter, one_order}
use Rattle.ppm_strand_runs.proofs.ToldLemmas.{one_done, one_finish, one_words}

module _ (code : RacyParts) (array_words : ℕ) (root : FrameWord → ℕ) (arrays : Words) where
  -- strands of a run that a machine shows are over once
  once : (h : List Moment) (run : StrandRun) → HasCome code array_words root arrays h run → AreOverOnce (deeds h)
  once h run c i o p left right =
      let f = c.shows.finishes.alone i o left in
      let g = c.shows.finishes.alone i p right in
      f.2 ∙ ap result_of (same f.0 g.0 (sym f.1 ∙ g.1)) ∙ sym g.2
    where
      same : (f g : Finish) → Some f ≡ Some g → f ≡ g
      same f g e = cc

  -- runs that have come along the same moments are alike
  alike : (h : List Moment) (a b : StrandRun) → HasCome code array_words root arrays h a → HasCome code array_words root arrays h b → AreAlike a b
  alike h a b c d = record {
    turns = c.turns ∙ sym d.turns;
    done = one_done code array_words root arrays h a.done.items b.done.items c.done d.done;
    fall = one_first_fall code array_words root arrays h (once h a c) a.fall b.fall c.fall d.fall;
    words = one_words code array_words root arrays h a.machine b.machine c.shows d.shows;
    finish = one_finish (finish_in a.machine.strands.items) (finish_in b.machine.strands.items) (deeds h) c.shows.finishes d.shows.finishes 0;
  }

pub runs_are_one : ((s : System OwnWord Place Exit Result) → SchedulesHaveOneRun s) → RunsAreOne
runs_are_one law code input schedule limit a b p q =
    alike code (length (words_in input)) (root_own (plain_code code) input) (words_of (words_in input)) p.moments a b p.come
    (subst (λ (h : List Moment). Comes code input h b) (sym same) q.come)
  where
    s : System OwnWord Place Exit Result
    s = strands_of code input

    along : (run : StrandRun) (r : IsRunOf code input schedule limit run) → IsRun s r.moments
    along run r i = ((r.come.shows.strands i).0, (r.come.shows.strands i).1)

    shorter : (x y : StrandRun) (r : IsRunOf code input schedule limit x) (t : IsRunOf code input schedule limit y) → length r.moments < length t.moments → ⊥
    shorter x y r t less =
        let many = t.come.turns in
        let few = t.within in
        not_shorter s (law s) (turns_of schedule) r.moments t.moments r.left t.left r.next t.next limit (finish_in x.machine.strands.items)
        r.come.shows.finishes (λ none. sym r.come.turns ∙ r.ended none) (omega (arith, many, few)) r.order t.order (along x r) (along y t) less

    same : p.moments ≡ q.moments
    same = by (cases_order (length p.moments) (length q.moments))
      where
        by : (length p.moments ≡ length q.moments) ⊎ ((length p.moments < length q.moments) ⊎ (length q.moments < length p.moments)) → p.moments ≡ q.moments
        by (inl many) = (one_order s (law s) (turns_of schedule) p.moments q.moments many p.left q.left p.next q.next p.order q.order (along a p) (along b q)).0
        by (inr (inl less)) = absurd (shorter a b p q less)
        by (inr (inr less)) = absurd (shorter b a q p less)
