-- The counts stay far from their ends.
use Rattle.std.proofs.Common.{arith, ◌≡◌, refl, ℕ, zero, suc, ◌+◌, ◌-◌, ◌<◌, ◌≤◌, Bool, true, false, List, [], ◌∷◌, ap, if◌then◌else◌, slice_index, slice_set, replicate}
use Rattle.ppm_plan.specs.declared.schedule_item.ScheduledAct.{ScheduledAct}
use Rattle.ppm_plan.specs.declared.schedule_item.ScheduledAct.TheVariants as scheduled
use Rattle.ppm_step.specs.declared.turn.Turn.{Turn}
use Rattle.ppm_core.specs.Situation.{Situation, turned}
use Rattle.ppm_following.specs.declared.following.Way.{Way}
use Rattle.ppm_choice.specs.Course.{Course, seeks, loads_behind}
use Rattle.ppm_choice.proofs.LoadLemmas.{none_at}
use Rattle.ppm_following.specs.Following.{course, IsReady}

-- one count is one more
one_more_at : (xs : List ℕ) (p c : ℕ) → slice_index (slice_set xs p (slice_index xs p + 1)) c ≤ slice_index xs c + 1
one_more_at [] p c = omega arith
one_more_at (x ∷ xs) zero zero = omega arith
one_more_at (x ∷ xs) zero (suc c) = omega arith
one_more_at (x ∷ xs) (suc p) zero = omega arith
one_more_at (x ∷ xs) (suc p) (suc c) = one_more_at xs p c

one_more_if : (b : Bool) (xs : List ℕ) (p c : ℕ)
    → slice_index (if b then slice_set xs p (slice_index xs p + 1) else xs) c ≤ slice_index xs c + 1
one_more_if true xs p c = one_more_at xs p c
one_more_if false xs p c = omega arith

one_more_load : (w : Course) (act : ScheduledAct) (c : ℕ) → slice_index (loads_behind w act) c ≤ slice_index w.loads c + 1
one_more_load w (scheduled.Step processor stated) c = one_more_if (seeks w processor) w.loads processor c
one_more_load w (scheduled.Fails processor fault) c = omega arith

pub ready_behind : {m m' : Situation} {way v : Way} (act : ScheduledAct) (turn : Turn) → IsReady m way → 0 < way.left
    → v.loads ≡ loads_behind (course m way) act → v.left ≡ way.left → m' ≡ turned m turn
    → IsReady m' (record { loads = v.loads; left = v.left - 1 })
ready_behind {m} {m'} {way} {v} act turn ready some loads left is = record {
  turns = omega (arith, ready.turns, some, left, ap (λ k. k.turns) is);
  loads = λ c. few c;
}
  where
    few : (c : ℕ) → slice_index v.loads c + (v.left - 1) ≤ 1099511627776
    few c = omega (arith, ready.loads c, some, left, ap (λ xs. slice_index xs c) loads, one_more_load (course m way) act c)

-- at the beginning
pub ready_first : (m : Situation) (turns : ℕ) → m.turns ≤ 2305843009213693952 → turns ≤ 1099511627776
    → IsReady m (record { loads = replicate 64 0; left = turns })
ready_first m turns few within = record {
  turns = omega (arith, few, within);
  loads = λ c. omega (arith, none_at 64 c, within);
}
