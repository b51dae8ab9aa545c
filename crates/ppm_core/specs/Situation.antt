-- A machine as its contracts see it, and what turns make of it.
use Rattle.std.specs.Prelude.{ℕ, ◌+◌, List, length, take, drop, get_or}
use Rattle.std.specs.List.{sum}
use Rattle.ppm_cells.specs.Cells.{arrays_at}
use Rattle.ppm_cells.specs.Memory.{read}
use Rattle.ppm_cells.specs.declared.cell.Cell.TheVariants.{FinishWord}
use Rattle.ppm_cells.specs.declared.shape.Shape.{Shape}
use Rattle.ppm_code.specs.declared.code.CodeParts.{CodeParts}
use Rattle.ppm_step.specs.declared.turn.Turn.{Turn}
use Rattle.ppm_step.specs.State.{State, happens, after, along, opening, forks_of, takes_of, work_of}

-- the sizes, the code, the lengths of the arrays, the words and processors, and how many forks, takes, work turns and turns there
-- were since it was loaded
pub record Situation : Type 0 where
  pub shape : Shape
  pub code : CodeParts
  pub array_lengths : List ℕ
  pub state : State
  pub forks : ℕ
  pub takes : ℕ
  pub work : ℕ
  pub turns : ℕ

-- with these words, before its first turn
abbrev pub loaded : Shape → CodeParts → (array_lengths words : List ℕ) → Situation
loaded s code array_lengths words = record {
  shape = s;
  code = code;
  array_lengths = array_lengths;
  state = opening words s.processors;
  forks = 0;
  takes = 0;
  work = 0;
  turns = 0;
}

-- after a turn
abbrev pub turned : Situation → Turn → Situation
turned m turn = record {
  shape = m.shape;
  code = m.code;
  array_lengths = m.array_lengths;
  state = happens m.shape m.code m.state turn;
  forks = m.forks + length (forks_of m.state turn);
  takes = m.takes + length (takes_of m.state turn);
  work = m.work + length (work_of m.state turn);
  turns = m.turns + 1;
}

-- after a list of turns
abbrev pub run_on : Situation → List Turn → Situation
run_on m turns = record {
  shape = m.shape;
  code = m.code;
  array_lengths = m.array_lengths;
  state = after m.shape m.code m.state turns;
  forks = m.forks + length (along m.shape m.code forks_of m.state turns);
  takes = m.takes + length (along m.shape m.code takes_of m.state turns);
  work = m.work + length (along m.shape m.code work_of m.state turns);
  turns = m.turns + length turns;
}

-- the finish word
abbrev pub finish_in : Situation → ℕ
finish_in m = read m.shape m.state.words FinishWord

-- where an array begins, and its words: the arrays lie one after the other
abbrev pub array_start : Situation → (number : ℕ) → ℕ
array_start m number = arrays_at m.shape + sum (take number m.array_lengths)

abbrev pub array_in : Situation → (number : ℕ) → List ℕ
array_in m number = take (get_or m.array_lengths number 0) (drop (array_start m number) m.state.words)
