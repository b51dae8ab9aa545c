-- A plan or a schedule has one answer where it is explained.
use Rattle.std.proofs.Common.{◌≡◌, ◌⊎◌, ℕ, List, refl, sym, ap, ◌∙◌, inl, inr}
use Rattle.ppm_plan.specs.declared.plan_error.PlanError.{PlanError}
use Rattle.ppm_plan.specs.Correct.{HasOneAnswer, HaveOneAnswer as FormsHaveOne, SomeAccepted}
use Rattle.ppm_plan.specs.Forms.{Form, plan_form, schedule_form}
use Rattle.ppm_plan.specs.Refusals.{number_of}
use Rattle.ppm_answers.specs.declared.answer.Answer.{Answer}
use Rattle.ppm_answers.specs.declared.answer.Answer.TheVariants as answers
use Rattle.ppm_answers.specs.declared.refused.Refused.{Refused}
use Rattle.ppm_answers.specs.declared.refused.Refused.TheVariants as refused
use Rattle.ppm_cli.specs.declared.explain.ExplainedOrders.{ExplainedOrders}
use Rattle.ppm_cli.specs.declared.explain.ExplainedOrders.TheVariants as orders
use Rattle.ppm_cli.specs.declared.explain.ExplainOptions.{ExplainOptions}
use Rattle.ppm_notes.specs.Orders.{orders_notes}
use Rattle.ppm_explained.specs.Orders.{AllHaveOneAnswer, AreOrdersExplained, IsDisorderly, IsOrderly, IsRefusedFor, OrdersHave, OrdersToldBy}

module _ {A : Type 0} (form : Form A) (law : HasOneAnswer form) (text : List ℕ) (p : ℕ) where
  form_apart : (e : PlanError) → SomeAccepted form text p → IsRefusedFor form p text e → ⊥
  form_apart e a r = law.apart text p a.items e r.of_text a.accepted r.refused

  form_one : (e f : PlanError) → IsRefusedFor form p text e → IsRefusedFor form p text f → e ≡ f
  form_one e f r s = law.refusals text p e f r.of_text s.of_text r.refused s.refused

  form_some : SomeAccepted form text p ⊎ ((e : PlanError) × IsRefusedFor form p text e)
  form_some = elim (law.some text p) [
    | inl a ↦ inl a
    | inr r ↦ inr (r.error, record { of_text = r.of_text; refused = r.refused })
  ]

module _ (law : FormsHaveOne) (text : List ℕ) (p : ℕ) where
  apart : (o : ExplainedOrders) (e : PlanError) → IsOrderly o p text → IsDisorderly o p text e → ⊥
  apart orders.Plan e a r = form_apart plan_form law.plans text p e a r
  apart orders.Schedule e a r = form_apart schedule_form law.schedules text p e a r

  one_error : (o : ExplainedOrders) (e f : PlanError) → IsDisorderly o p text e → IsDisorderly o p text f → e ≡ f
  one_error orders.Plan e f r s = form_one plan_form law.plans text p e f r s
  one_error orders.Schedule e f r s = form_one schedule_form law.schedules text p e f r s

  some : (o : ExplainedOrders) → IsOrderly o p text ⊎ ((e : PlanError) × IsDisorderly o p text e)
  some orders.Plan = form_some plan_form law.plans text p
  some orders.Schedule = form_some schedule_form law.schedules text p

module _ (law : FormsHaveOne) (options : ExplainOptions) (text : List ℕ) where
  told : (m n : ℕ) (xs ys : List ℕ) → AreOrdersExplained options text m xs → AreOrdersExplained options text n ys
      → answers.Explained (refused.Plan m) xs ≡ answers.Explained (refused.Plan n) ys
  told m n xs ys a b =
      let same = one_error law text options.processors options.orders a.error b.error a.refusal b.refusal in
      ap (λ k. answers.Explained (refused.Plan k) xs) (a.number_is ∙ ap number_of same ∙ sym b.number_is)
      ∙ ap (λ zs. answers.Explained (refused.Plan n) zs) (a.told ∙ ap (orders_notes options.orders options.processors text) same ∙ sym b.told)

  not_both : (n : ℕ) (notes : List ℕ) → IsOrderly options.orders options.processors text → AreOrdersExplained options text n notes → ⊥
  not_both n notes a r = apart law text options.processors options.orders r.error a r.refusal

  explained : (q r : Refused) (xs ys : List ℕ) → OrdersToldBy options text q xs → OrdersToldBy options text r ys
      → answers.Explained q xs ≡ answers.Explained r ys
  explained (refused.Plan m) (refused.Plan n) xs ys a b = told m n xs ys a b
  explained (refused.Plan m) r xs ys a b = absurd b
  explained q r xs ys a b = absurd a

  accepted : (r : Refused) (notes : List ℕ) → IsOrderly options.orders options.processors text → OrdersToldBy options text r notes → ⊥
  accepted (refused.Plan n) notes a r = not_both n notes a r
  accepted r notes a h = h

  of_accepted : (b : Answer) → IsOrderly options.orders options.processors text → OrdersHave options text b → answers.Accepted ≡ b
  of_accepted answers.Accepted h k = refl
  of_accepted (answers.Explained r notes) h k = absurd (accepted r notes h k)
  of_accepted b h k = absurd k

  of_explained : (q : Refused) (xs : List ℕ) (b : Answer) → OrdersToldBy options text q xs → OrdersHave options text b → answers.Explained q xs ≡ b
  of_explained q xs answers.Accepted h k = absurd (accepted q xs k h)
  of_explained q xs (answers.Explained r ys) h k = explained q r xs ys h k
  of_explained q xs b h k = absurd k

  one : (a b : Answer) → OrdersHave options text a → OrdersHave options text b → a ≡ b
  one answers.Accepted b h k = of_accepted b h k
  one (answers.Explained q xs) b h k = of_explained q xs b h k
  one a b h k = absurd h

  there : ((number : ℕ) (notes : List ℕ) → ¬ AreOrdersExplained options text number notes) → IsOrderly options.orders options.processors text
  there none = elim (some law text options.processors options.orders) [
    | inl a ↦ a
    | inr r ↦ absurd (none (number_of r.0) (orders_notes options.orders options.processors text r.0)
        (record { error = r.0; refusal = r.1; number_is = refl; told = refl }))
  ]

pub have_one_answer : FormsHaveOne → AllHaveOneAnswer
have_one_answer law options text = record { one = one law options text; some = there law options text }
