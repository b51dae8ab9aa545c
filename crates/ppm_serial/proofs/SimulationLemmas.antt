-- What a step spends and leaves, by the ways to go on.
use Rattle.std.proofs.Common.{◌≡◌, ◌≤◌, ◌+◌, ◌-◌, ℕ, ℤ, Bool, true, false, List, Result, Ok, Err, refl, arith, nat_lt}
use Rattle.std.specs.Prelude.{if◌then◌else◌}
use Rattle.std.proofs.lemmas.Bool.{ltb-true, ltb-false}
use Rattle.ppm_tree.specs.Tree.{Procedure}
use Rattle.ppm_tree.specs.State.{TrapAt, then_with, Arrays}
use Rattle.ppm_tree.specs.Meaning.{End}
use Rattle.ppm_serial.specs.declared.code.Stop.{Stop}
use Rattle.ppm_serial.specs.declared.code.Stop.TheVariants as stop
use Rattle.ppm_serial.specs.declared.run.Run.{Run}
use Rattle.ppm_serial.specs.Code.{Laid}
use Rattle.ppm_serial.specs.Worth.{stopped}
use Rattle.ppm_serial.specs.Machine.{spending, with_left}
use Rattle.ppm_serial.specs.ToCome.{Opens, Shifts}
use Rattle.ppm_serial.specs.Simulation.{Moves}
use Rattle.ppm_serial.proofs.ToComeLemmas.{same, chain}

module _ (procedures : List Procedure) (c : Laid) where
  -- a step after so many turns
  pub moves_behind : (k left : ℕ) (A B : ℕ → End ℤ → Type 0) → Shifts k A B → k ≤ left → (r : Result Run Stop) → Moves procedures c (left - k) B r
      → Moves procedures c left A r
  moves_behind k left A B p l (Ok t) m = record { point = m.point; spent = k + m.spent; shows = m.shows; sum = let e = m.sum in omega (arith, l, e); shifts = chain p m.shifts }
  moves_behind k left A B p l (Err (stop.Trapped t line)) m =
      record { arrays = m.arrays; spent = k + m.spent; within = let e = m.within in omega (arith, l, e); shifts = chain p m.shifts }
  moves_behind k left A B p l (Err stop.NotWithin) m = λ n z a. let w = p.on n z a in let h = m w.rest z w.next in let e = w.sum in omega (arith, h, e, l)
  moves_behind k left A B p l (Err stop.NoMemory) m = m

  -- turns that are spent, or too many
  pub moves_spent : (k : ℕ) (s : Run) (A B : ℕ → End ℤ → Type 0) (go : Run → Result Run Stop) → Shifts k A B
      → (k ≤ s.left → Moves procedures c (s.left - k) B (go (with_left s (s.left - k)))) → Moves procedures c s.left A (then_with (spending k s) go)
  moves_spent k s A B go p rest = by_test (nat_lt s.left k) refl
    where
      by_test : (b : Bool) → nat_lt s.left k ≡ b → Moves procedures c s.left A (then_with (if b then Err stop.NotWithin else Ok (with_left s (s.left - k))) go)
      by_test true e = λ n z a. let w = p.on n z a in let h = w.sum in omega (arith, h, ltb-true s.left k e)
      by_test false e = moves_behind k s.left A B p (ltb-false s.left k e) (go (with_left s (s.left - k))) (rest (ltb-false s.left k e))

  -- a value that is found, or a trap
  pub moves_opened : {T : Type 0} (left : ℕ) (a : Arrays) (r : Result T TrapAt) (way : T → ℕ → End ℤ → Type 0) (go : T → Result Run Stop)
      → ((x : T) → r ≡ Ok x → Moves procedures c left (way x) (go x)) → Moves procedures c left (Opens r a way) (then_with (stopped r) go)
  moves_opened left a (Ok x) way go rest = rest x refl
  moves_opened left a (Err t) way go rest = record { arrays = a; spent = 0; within = omega arith; shifts = same }
