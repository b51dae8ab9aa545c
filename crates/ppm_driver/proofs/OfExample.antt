-- The rows of `self`.
use Rattle.std.proofs.Common.{◌≡◌, ◌⊎◌, ℕ, List, sym, subst, inl, inr}
use Rattle.ppm_ports.specs.Ports.{Gets}
use Rattle.ppm_ports.specs.Outside.{KeepFronts, Outside, ToldLists}
use Rattle.ppm_cli.specs.declared.example.SelfOptions.{SelfOptions}
use Rattle.ppm_cli.specs.Words.{AreSelf}
use Rattle.ppm_answers.specs.declared.answer.Answer.{Answer}
use Rattle.ppm_answers.specs.declared.refused.Refused.{Refused}
use Rattle.ppm_answers.specs.declared.answer.Answer.TheVariants as answers
use Rattle.ppm_answers.specs.declared.sums.Sums.{Sums}
use Rattle.ppm_answers.specs.declared.status.Status.{Status}
use Rattle.ppm_answers.specs.declared.status.Status.TheVariants as statuses
use Rattle.ppm_answers.specs.Delivery.{Delivers, IsWritten}
use Rattle.ppm_answers.specs.Reading.{Answers}
use Rattle.ppm_answers.specs.Statuses.{status_of}
use Rattle.ppm_answers.specs.Texts.{IsFixed, sums_text}
use Rattle.ppm_answers.proofs.Delivered.{own_or_fault, write_failed}
use Rattle.ppm_driver.specs.Examples.{ExampleMay, ExampleTells, ExamplesSumUp, SumsUp, items_of, run_options_of, sums_drawn, text_of}
use Rattle.ppm_driver.specs.ExampleRows.{ExampleSays, ExampleRows, WritesSums}
use Rattle.ppm_outcomes.specs.Meant.{RunsAreAsPrograms}
use Rattle.ppm_driver.proofs.ExampleLemmas.{kind, wants}
use Rattle.ppm_outcomes.proofs.MeantRows.{run_is, run_ends}

module _ (law : RunsAreAsPrograms) (all : ExamplesSumUp) (options : SelfOptions) (are : AreSelf options) (o : Outside) where
  -- what is told is that of the example
  summed : (sums : Sums) → sums ≡ sums_drawn options → ExampleMay options o.told_before o.told_now (answers.Summed sums)
      → Gets o.out (sums_text sums) → WritesSums options o
  summed sums same h gets =
      let up = subst (SumsUp options o.told_before o.told_now h.0) same h.2 in
      record {
        tree = h.0;
        program = h.1;
        sums_up = up;
        meant = run_ends law (text_of options) h.0 h.1 (run_options_of options) options.processors o.told_before o.told_now
            (items_of options) up.arrays up.has;
        gets = subst (λ (s : Sums). Gets o.out (sums_text s)) same gets;
      }

  -- each answer's own status says its sentence
  by : (a : Answer) → ExampleMay options o.told_before o.told_now a → ExampleTells options a o.told_before o.told_now
      → IsWritten o.out o.err a (status_of a) → ExampleSays options o (status_of a)
  by answers.NoMemory h told w = told.2
  by (answers.Summed sums) h told w = summed sums (all options are o.told_before o.told_now (answers.Summed sums) h) h w.out_takes.0
  by a h told w = absurd (all options are o.told_before o.told_now a h)

  -- what the status says
  example_says : (status : Status) → Answers (ExampleMay options o.told_before o.told_now) (ExampleTells options) o status
      → ExampleSays options o status
  example_says status a = go (own_or_fault o.out o.err a.answer status a.delivered)
    where
      go : (status ≡ statuses.WriteFault) ⊎ IsWritten o.out o.err a.answer status → ExampleSays options o status
      go (inl e) = subst (ExampleSays options o) (sym e) (write_failed o.out o.err a.answer status a.delivered e)
      go (inr w) =
          subst (ExampleSays options o) (sym w.own) (by a.answer a.cause a.told (subst (IsWritten o.out o.err a.answer) w.own w))

  -- all rows
  pub example_rows : (status : Status) → Answers (ExampleMay options o.told_before o.told_now) (ExampleTells options) o status
      → ExampleRows options o status
  example_rows status a = record {
    says = example_says status a;
    meant = λ t has answer h. run_is law (text_of options) t has (run_options_of options) options.processors o.told_before o.told_now
        (items_of options) answer h;
  }

-- what was delivered is the answer, or want of memory in its place
pub example_delivered : (options : SelfOptions) (o : Outside) (a : Answer) (status : Status) → KeepFronts o.told_before o.told_now
    → ExampleTells options a o.told_before o.told_now → ExampleMay options o.told_before o.told_now a
    → Delivers o.out o.err a status ⊎ ((¬ IsFixed a) × Delivers o.out o.err answers.NoMemory status)
    → Answers (ExampleMay options o.told_before o.told_now) (ExampleTells options) o status
example_delivered options o a status kept told may (inl d) = record { answer = a; cause = may; delivered = d; told = told }
example_delivered options o a status kept told may (inr d) = record {
  answer = answers.NoMemory;
  cause = tt;
  delivered = d.1;
  told = (kept, told.1, wants options o.told_before o.told_now a may told);
}

-- the example is no reading command, and its plan and words are never refused
module _ (options : SelfOptions) (before now : ToldLists) where
  pub no_read_fault : ExampleMay options before now answers.ReadFault → ⊥
  no_read_fault h = kind options before now h.0 answers.ReadFault h.2

  pub no_words_refused : ExampleMay options before now answers.WordsRefused → ⊥
  no_words_refused h = kind options before now h.0 answers.WordsRefused h.2

  pub none_explained : (r : Refused) (notes : List ℕ) → ExampleMay options before now (answers.Explained r notes) → ⊥
  none_explained r notes h = kind options before now h.0 (answers.Explained r notes) h.2

  pub no_plan_refused : (number : ℕ) → ExampleMay options before now (answers.PlanRefused number) → ⊥
  no_plan_refused number h = kind options before now h.0 (answers.PlanRefused number) h.2
