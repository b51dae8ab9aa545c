-- Laws of traces.
use Rattle.std.specs.Prelude.{◌≡◌, ℕ, ◌+◌, ◌≤◌, if◌then◌else◌, List, [], ◌++◌, length}
use Rattle.ppm_core.specs.Situation.{Situation, run_on}
use Rattle.ppm_lines.specs.Shown.{is_shown}
use Rattle.ppm_lines.specs.declared.shown.Only.{Only}
use Rattle.ppm_lines.specs.declared.shown.Only.TheVariants.{Turns}
use Rattle.ppm_naming.specs.declared.names.Names.{Names}
use Rattle.ppm_step.specs.declared.turn.Turn.{Turn}
use Rattle.ppm_trace.specs.Counts.{no_counts}
use Rattle.ppm_trace.specs.Trace.{along_turns, counts_along, shown_line}
use Rattle.ppm_trace.specs.declared.counts.Counts.{Counts}

-- the lines of turns after others are those from the situation that these make
abbrev pub LinesFollowOn : Type 0
LinesFollowOn = (names : Names) (only : Only) (from : ℕ) (m : Situation) (first more : List Turn)
    → along_turns (shown_line names only from) m (first ++ more)
    ≡ along_turns (shown_line names only from) m first ++ along_turns (shown_line names only from) (run_on m first) more

-- what is counted along turns after others goes on from what those counted
abbrev pub CountsFollowOn : Type 0
CountsFollowOn = (from : ℕ) (c : Counts) (m : Situation) (first more : List Turn)
    → counts_along from c m (first ++ more) ≡ counts_along from (counts_along from c m first) (run_on m first) more

-- the line of a turn among all lines, if it is shown
abbrev pub thinned_line : Names → Only → (from : ℕ) → Situation → Turn → List ℕ
thinned_line names only from m turn = if is_shown m.shape m.code only m.state turn then shown_line names Turns from m turn else []

-- of rows and of marks the lines are those of all turns that are shown, unchanged and in their order
abbrev pub ThinnerAreAmong : Type 0
ThinnerAreAmong = (names : Names) (only : Only) (from : ℕ) (m : Situation) (turns : List Turn)
    → along_turns (shown_line names only from) m turns ≡ along_turns (thinned_line names only from) m turns

-- where no act of the run comes before the first one that is told, the forks and takes of the tail are those that the machine counts
abbrev pub CountsAreTheMachines : Type 0
CountsAreTheMachines = (from : ℕ) (m : Situation) (turns : List Turn) → from ≤ m.turns
    → ((run_on m turns).forks ≡ m.forks + (counts_along from no_counts m turns).forks)
    × ((run_on m turns).takes ≡ m.takes + (counts_along from no_counts m turns).takes)

-- what is told from an act on is a part of the whole: the lines of the turns that come from that act on
abbrev pub WindowsAreParts : Type 0
WindowsAreParts = (names : Names) (only : Only) (from : ℕ) (m : Situation) (first more : List Turn) → m.turns + length first ≡ from
    → along_turns (shown_line names only from) m (first ++ more) ≡ along_turns (shown_line names only 0) (run_on m first) more
