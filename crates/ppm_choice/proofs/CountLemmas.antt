-- A pace after an act.
use Rattle.std.proofs.Common.{◌≡◌, ℕ, ◌+◌, ◌==◌, ◌^◌, min, Bool, true, false, if◌then◌else◌, arith, ◌∙◌, ap}
use Rattle.ppm_plan.specs.Schedules.{Planned}
use Rattle.ppm_step.specs.declared.turn.Next.{Next}
use Rattle.ppm_step.specs.Standings.{Standing}
use Rattle.ppm_step.specs.State.{next_of, seeks_holder}
use Rattle.ppm_choice.specs.declared.limits.Limits.{Limits}
use Rattle.ppm_choice.specs.declared.pace.Pace.{Pace}
use Rattle.ppm_choice.specs.Deeds.{Deed}
use Rattle.ppm_choice.specs.Obeying.{Past, behind, is_work_deed}
use Rattle.ppm_choice.specs.Paces.{IsPace, looks_along}

-- one more, up to the most
one_more : (n most a : ℕ) → a ≡ min n most → min (a + 1) most ≡ min (n + 1) most
one_more n most a e = omega (arith, e)

pub none : (most : ℕ) → 0 ≡ min 0 most
none most = omega arith

looks_are : (w : Bool) (n most a : ℕ) → a ≡ min n most → (if w then 0 else min (a + 1) most) ≡ min (if w then 0 else n + 1) most
looks_are true n most a e = none most
looks_are false n most a e = one_more n most a e

work_is_kept : (w : Bool) (n most a : ℕ) → a ≡ min n most → (if w then min (a + 1) most else a) ≡ min (if w then n + 1 else n) most
work_is_kept true n most a e = one_more n most a e
work_is_kept false n most a e = e

-- so many more, up to the most
so_many_more : (n m steps most a b : ℕ) → a ≡ min n most → b ≡ min (a + steps) most → m ≡ n + steps → b ≡ min m most
so_many_more n m steps most a b e f g = omega (arith, e, f, g)

further_looks : (n m a b work looks most : ℕ) → a ≡ min n most → b ≡ min (looks_along a work looks) most → m ≡ looks_along n work looks
    → b ≡ min m most
further_looks n m a b work looks most e f g = by (work == 0) f g
  where
    by : (z : Bool) → b ≡ min (if z then a + looks else looks) most → m ≡ (if z then n + looks else looks) → b ≡ min m most
    by true f g = omega (arith, e, f, g)
    by false f g = omega (arith, f, g)

-- after an act
pub counted : (plan : Planned) (limits : Limits) (past : Past) (deed : Deed) (stands : Standing) (old : Pace) (acts work looks : ℕ) (w : Bool)
    (next : Next) (due : Bool) → acts ≡ min (old.acts + 1) (2 ^ 32) → work ≡ (if w then min (old.work + 1) limits.turns else old.work)
    → looks ≡ (if w then 0 else min (old.looks + 1) limits.looks) → w ≡ is_work_deed deed → next ≡ next_of stands → due ≡ seeks_holder stands
    → IsPace plan limits past deed.stood old
    → IsPace plan limits (behind past deed) stands
    (record { processor = old.processor; keeper = old.keeper; acts = acts; work = work; looks = looks; next = next; due = due })
counted plan limits past deed stands old acts work looks w next due acts_are work_is looks_is works next_is due_is p = record {
  keeper = p.keeper;
  acts = acts_are ∙ one_more past.acts (2 ^ 32) old.acts p.acts;
  work =
      work_is ∙ work_is_kept w past.work limits.turns old.work p.work
      ∙ ap (λ b. min (if b then past.work + 1 else past.work) limits.turns) works;
  looks =
      looks_is ∙ looks_are w past.looks limits.looks old.looks p.looks
      ∙ ap (λ b. min (if b then 0 else past.looks + 1) limits.looks) works;
  next = next_is;
  due = due_is;
}

-- after steps in a row
pub steps_counted : (plan : Planned) (limits : Limits) (past past' : Past) (stood stands : Standing) (old : Pace) (acts steps worked work looks further : ℕ)
    (next : Next) (due : Bool) → acts ≡ min (old.acts + steps) (2 ^ 32) → worked ≡ min (old.work + work) limits.turns → looks ≡ min (looks_along old.looks work further) limits.looks
    → IsPace plan limits past stood old → past'.acts ≡ past.acts + steps → past'.work ≡ past.work + work
    → past'.looks ≡ looks_along past.looks work further → next ≡ next_of stands → due ≡ seeks_holder stands
    → IsPace plan limits past' stands
    (record { processor = old.processor; keeper = old.keeper; acts = acts; work = worked; looks = looks; next = next; due = due })
steps_counted plan limits past past' stood stands old acts steps worked work looks further next due acts_are work_is looks_are p acts' work' looks' next_is due_is = record {
  keeper = p.keeper;
  acts = so_many_more past.acts past'.acts steps (2 ^ 32) old.acts acts p.acts acts_are acts';
  work = so_many_more past.work past'.work work limits.turns old.work worked p.work work_is work';
  looks = further_looks past.looks past'.looks old.looks looks work further limits.looks p.looks looks_are looks';
  next = next_is;
  due = due_is;
}
