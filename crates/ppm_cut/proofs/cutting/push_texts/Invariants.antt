use Rattle.std.proofs.Common.{◌≡◌, ◌≤◌, ◌+◌, drop, length, map}
use Rattle.std.specs.List.{AllByRecursion}
use Rattle.ppm_tree.specs.Tree.{procedure_of}
use Rattle.ppm_cut_code.specs.Routines.{texts_from}
use Rattle.ppm_cut.specs.Counts.{own_counts, hidden_counts, IsShortProcedure}
use Rattle.ppm_cut.proofs.Texts.{Left}
use Rattle.ppm_cut.proofs.cutting.push_texts.Given as goal

-- those that follow are left, with the numbers that they need
abbrev pub invariant-loop-procedure : goal.invariant-loop-procedure
invariant-loop-procedure l =
    let rest = drop l.procedure-index l.procedures in
    let all = map procedure_of l.procedures in
    let behind = map procedure_of rest in
    record {
      count : length l.draft.procedures.items ≡ l.procedure-index;
      next_fits : l.draft.next + own_counts behind ≤ own_counts all;
      hidden_fits : l.hidden + hidden_counts behind ≤ length l.procedures + hidden_counts all;
      own : own_counts behind ≤ own_counts all;
      within : hidden_counts behind ≤ hidden_counts all;
      short : AllByRecursion (λ p. IsShortProcedure (procedure_of p)) rest;
      are : Left (map procedure_of l.callees) (texts_from (length l.procedures) all) (texts_from l.hidden behind) l.initial.draft l.draft;
    }
