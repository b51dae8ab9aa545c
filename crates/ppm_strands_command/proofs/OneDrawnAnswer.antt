-- A text has one answer where its strands are run by schedules that are drawn.
use Rattle.std.proofs.Common.{◌≡◌, ◌⊎◌, ◌<◌, ◌+◌, ℕ, List, Option, Some, None, IsSome, refl, sym, ap, ◌∙◌, subst, inl, inr}
use Rattle.std.proofs.lemmas.Bool.{cases_order}
use Rattle.ppm_words.specs.declared.named_array.NamedArray.{NamedArray}
use Rattle.ppm_racy.specs.declared.code.RacyParts.{RacyParts}
use Rattle.ppm_racy_case.specs.Correct.{RacyFaultsTellCases}
use Rattle.ppm_strand_runs.specs.declared.done.Fall.{Fall}
use Rattle.ppm_strand_runs.specs.declared.drawn.DrawnRun.{DrawnRun}
use Rattle.ppm_strand_runs.specs.Correct.{RunsAreOne}
use Rattle.ppm_strand_runs.specs.Draws.{HasStood, TellsDrawn}
use Rattle.ppm_strand_runs.specs.Run.{IsRunOf}
use Rattle.ppm_answers.specs.declared.sweep.Came.{Came}
use Rattle.ppm_answers.specs.declared.answer.Answer.{Answer}
use Rattle.ppm_answers.specs.declared.answer.Answer.TheVariants as answers
use Rattle.ppm_cli.specs.declared.strands.DrawnStrandsOptions.{DrawnStrandsOptions}
use Rattle.ppm_strands_command.specs.Cases.{OfTidy}
use Rattle.ppm_strands_command.specs.Lines.{drawn_line}
use Rattle.ppm_strands_command.specs.Strands.{answer_by, came_of, run_answer}
use Rattle.ppm_strands_command.specs.Drawn.{OfDraws, HaveOneDrawnAnswer, drawn_answer, schedule_of}
use Rattle.ppm_strands_command.proofs.CaseAnswers as case_answers
use Rattle.ppm_strands_command.proofs.RunAnswers.{one_answer}
use Rattle.ppm_strands_command.proofs.TidyAnswers.{one_of}

-- what is there is not none
not_none : (f : Option Fall) → f ≡ None → IsSome f → ⊥
not_none None e h = cc
not_none (Some f) e h = cc

module _ (o : DrawnStrandsOptions) (code : RacyParts) (input : List NamedArray) where
  -- the answers of drawn runs, and that a store is not tidy
  abbrev pub IsOfDraws : Answer → Type 0
  IsOfDraws (answers.Untidy s) = Unit {0}
  IsOfDraws (answers.Fell lines c fall) = Unit {0}
  IsOfDraws (answers.AllStood runs) = runs ≡ o.runs
  IsOfDraws answer = ⊥

  abbrev Tells : Option DrawnRun → Type 0
  Tells found = TellsDrawn code input o.seed o.strands o.steps o.turns o.runs found

  -- each answer of a case is that nothing fell, or tells a run in which something did, or a store
  pub of_draws : (a : Answer) → OfTidy (OfDraws o) code input a → IsOfDraws a
  of_draws a (inr h) = subst IsOfDraws (sym h.tells) tt
  of_draws a (inl h) = subst IsOfDraws (sym h.1.tells) (by h.1.found h.1.is)
    where
      by_fall : (lines : List ℕ) (c : Came) (f : Option Fall) → IsSome f → IsOfDraws (answer_by lines c input f)
      by_fall lines c None there = absurd (not_none None refl there)
      by_fall lines c (Some f) there = tt

      by : (found : Option DrawnRun) → Tells found → IsOfDraws (drawn_answer o code input found)
      by None t = refl
      by (Some d) t = by_fall _ (came_of input d.run) d.run.fall t.2

  module _ (runs : RunsAreOne) where
    -- where nothing has fallen, nothing falls
    stands : (d : DrawnRun) → Tells (Some d) → HasStood code input o.seed o.strands o.steps o.turns d.number → ⊥
    stands d t s =
        let alike = runs code input (schedule_of o code input d.number) o.turns d.run s.run t.1 s.is in
        not_none d.run.fall (alike.fall ∙ s.stood) t.2

    same_number : (d e : DrawnRun) → Tells (Some d) → Tells (Some e) → d.number ≡ e.number
    same_number d e t u = by (cases_order d.number e.number)
      where
        by : (d.number ≡ e.number) ⊎ ((d.number < e.number) ⊎ (e.number < d.number)) → d.number ≡ e.number
        by (inl same) = same
        by (inr (inl less)) = absurd (stands d t (u.3 d.number less))
        by (inr (inr less)) = absurd (stands e u (t.3 e.number less))

    -- two drawn runs of one number have one answer
    one_drawn : (d e : DrawnRun) → Tells (Some d) → Tells (Some e) → drawn_answer o code input (Some d) ≡ drawn_answer o code input (Some e)
    one_drawn d e t u =
        let same = same_number d e t u in
        let here = subst (λ (n : ℕ). IsRunOf code input (schedule_of o code input n) o.turns d.run) same t.1 in
        ap (λ (n : ℕ). run_answer (drawn_line (o.seed + n) (schedule_of o code input n)) o.form input d.run) same
        ∙ one_answer (drawn_line (o.seed + e.number) (schedule_of o code input e.number)) o.form input d.run e.run
        (runs code input (schedule_of o code input e.number) o.turns d.run e.run here u.1)

    one_found : (f g : Option DrawnRun) → Tells f → Tells g → drawn_answer o code input f ≡ drawn_answer o code input g
    one_found None None t u = refl
    one_found None (Some e) t u = absurd (stands e u (t e.number u.0))
    one_found (Some d) None t u = absurd (stands d t (u d.number t.0))
    one_found (Some d) (Some e) t u = one_drawn d e t u

    case_one : (a b : Answer) → OfDraws o code input a → OfDraws o code input b → a ≡ b
    case_one a b h k = h.tells ∙ one_found h.found k.found h.is k.is ∙ sym k.tells

-- with all options
pub have_one_drawn_answer : RacyFaultsTellCases → RunsAreOne → HaveOneDrawnAnswer
have_one_drawn_answer law runs = record {
  one = λ o.
      case_answers.one (OfTidy (OfDraws o)) law (λ code input a b. one_of (OfDraws o) code input a b (case_one o code input runs a b));
  front = λ o. case_answers.front (OfTidy (OfDraws o)) law;
}
