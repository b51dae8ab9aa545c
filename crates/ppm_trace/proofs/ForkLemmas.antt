-- The forks and takes that are counted are those that the machine counts.
use Rattle.std.proofs.Common.{◌≡◌, ◌∙◌, ℕ, ◌+◌, ◌≤◌, true, if◌then◌else◌, List, [], ◌∷◌, ap, arith, refl}
use Rattle.ppm_core.specs.Situation.{Situation, run_on, turned}
use Rattle.ppm_core.proofs.RunLemmas.{run_step}
use Rattle.ppm_lines.specs.Marks.{marks_of}
use Rattle.ppm_lines.specs.declared.mark.Mark.{Mark}
use Rattle.ppm_lines.specs.declared.mark.Mark.TheVariants as mark
use Rattle.ppm_step.specs.State.{stand_of}
use Rattle.ppm_step.specs.declared.turn.Turn.{Turn}
use Rattle.ppm_trace.specs.Counts.{all_marked, counted, marked, no_counts}
use Rattle.ppm_trace.specs.Trace.{counts_along, is_told, told_counts}
use Rattle.ppm_trace.specs.declared.counts.Counts.{Counts}
use Rattle.ppm_trace.proofs.MarkLemmas.{of_act, of_mark, of_marks, marks_both, Both}

-- counts with so many more
record Adds (c after : Counts) (more : Both) : Type 0 where
  forks : after.forks ≡ c.forks + more.forks
  takes : after.takes ≡ c.takes + more.takes

adds_mark : (c : Counts) (m : Mark) → Adds c (marked c m) (of_mark m)
adds_mark c mark.Fork = record { forks = refl; takes = omega arith }
adds_mark c mark.Take = record { forks = omega arith; takes = refl }
adds_mark c mark.Push = record { forks = omega arith; takes = omega arith }
adds_mark c mark.Pop = record { forks = omega arith; takes = omega arith }
adds_mark c mark.Try = record { forks = omega arith; takes = omega arith }
adds_mark c mark.Inherit = record { forks = omega arith; takes = omega arith }
adds_mark c mark.Won = record { forks = omega arith; takes = omega arith }
adds_mark c mark.Heir = record { forks = omega arith; takes = omega arith }
adds_mark c mark.Lost = record { forks = omega arith; takes = omega arith }
adds_mark c mark.First = record { forks = omega arith; takes = omega arith }
adds_mark c mark.Last = record { forks = omega arith; takes = omega arith }
adds_mark c mark.Inline = record { forks = omega arith; takes = omega arith }
adds_mark c mark.Bid = record { forks = omega arith; takes = omega arith }
adds_mark c mark.Carries = record { forks = omega arith; takes = omega arith }
adds_mark c mark.Outbid = record { forks = omega arith; takes = omega arith }
adds_mark c mark.Soft = record { forks = omega arith; takes = omega arith }
adds_mark c mark.Hard = record { forks = omega arith; takes = omega arith }
adds_mark c mark.End = record { forks = omega arith; takes = omega arith }
adds_mark c mark.Done = record { forks = omega arith; takes = omega arith }

adds_all : (c : Counts) (ms : List Mark) → Adds c (all_marked c ms) (of_marks ms)
adds_all c [] = record { forks = omega arith; takes = omega arith }
adds_all c (m ∷ ms) =
    let one = adds_mark c m in
    let more = adds_all (marked c m) ms in
    record { forks = omega (arith, one.forks, more.forks); takes = omega (arith, one.takes, more.takes) }

-- a turn that is told
adds_turn : (from : ℕ) (c : Counts) (m : Situation) (turn : Turn) → from ≤ m.turns
    → Adds c (told_counts from c m turn) (of_act turn.act (stand_of m.state turn.processor))
adds_turn from c m turn since =
    let told : is_told from m ≡ true = grind (arith, since) in
    let marks = marks_of m.shape m.code m.state turn in
    let all = adds_all (record c { acts = c.acts + 1 }) marks in
    let same = marks_both m.shape m.code m.state.words turn.act (stand_of m.state turn.processor) in
    record {
      forks = ap (λ b. (if b then counted c marks else c).forks) told ∙ all.forks ∙ ap (λ more. c.forks + more.forks) same;
      takes = ap (λ b. (if b then counted c marks else c).takes) told ∙ all.takes ∙ ap (λ more. c.takes + more.takes) same;
    }

-- the machine's counts after a run, and those before it
record AreCounted (from : ℕ) (c : Counts) (m : Situation) (turns : List Turn) : Type 0 where
  forks : (run_on m turns).forks + c.forks ≡ m.forks + (counts_along from c m turns).forks
  takes : (run_on m turns).takes + c.takes ≡ m.takes + (counts_along from c m turns).takes

along : (from : ℕ) (c : Counts) (m : Situation) (turns : List Turn) → from ≤ m.turns → AreCounted from c m turns
along from c m [] since = record { forks = omega arith; takes = omega arith }
along from c m (turn ∷ turns) since =
    let one = adds_turn from c m turn since in
    let more = along from (told_counts from c m turn) (turned m turn) turns (omega (arith, since)) in
    let run = run_step m turn turns in
    record {
      forks = omega (arith, one.forks, more.forks, ap (λ k. k.forks) run);
      takes = omega (arith, one.takes, more.takes, ap (λ k. k.takes) run);
    }

pub all_counted : (from : ℕ) (m : Situation) (turns : List Turn) → from ≤ m.turns
    → ((run_on m turns).forks ≡ m.forks + (counts_along from no_counts m turns).forks)
    × ((run_on m turns).takes ≡ m.takes + (counts_along from no_counts m turns).takes)
all_counted from m turns since =
    let all = along from no_counts m turns since in (omega (arith, all.forks), omega (arith, all.takes))
