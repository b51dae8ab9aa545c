-- What statuses say of a command that runs a program on a machine by a plan or a schedule: the sentences that these share.
use Rattle.std.specs.Prelude.{ℕ, List}
use Rattle.ppm_ports.specs.Ports.{Gets}
use Rattle.ppm_ports.specs.Outside.{Ports}
use Rattle.ppm_text.specs.Limits.{text_limit}
use Rattle.ppm_plan.specs.Forms.{Form}
use Rattle.ppm_answers.specs.declared.refusal.Refusal.{Refusal}
use Rattle.ppm_answers.specs.declared.answer.Answer.{Answer}
use Rattle.ppm_answers.specs.declared.answer.Answer.TheVariants as answers
use Rattle.ppm_answers.specs.Texts.{plan_text, refusal_text}
use Rattle.ppm_answers.specs.Reading.{ReadHas}
use Rattle.ppm_loading.specs.Planned.{IsRefusedBy, HasByItems}

-- the plan is refused by a number, and err got exactly the line with the number
pub record RefusesPlan {A : Type 0} (form : Form A) (plan : List ℕ) (processors : ℕ) (o : Ports) : Type 0 where
  pub number : ℕ
  pub refused : IsRefusedBy form plan processors number
  pub gets : Gets o.err (plan_text number)

module _ {A : Type 0} (form : Form A) (plan : List ℕ) (processors : ℕ) (Has : List A → List ℕ → Answer → Type 0) (o : Ports) where
  -- the text that was read has this answer, by the items of the plan
  abbrev pub HasRead : Answer → Type 0
  HasRead answer = ReadHas text_limit (HasByItems form plan processors Has) o.source answer

  -- the text that was read is refused, and err got exactly the refusal's text
  abbrev pub WritesRefusal : Type 0
  WritesRefusal = (r : Refusal) × HasRead (answers.SourceRefused r) × Gets o.err (refusal_text r)
