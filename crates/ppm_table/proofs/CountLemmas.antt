-- What a processor has counted, a deed at a time.
use Rattle.std.proofs.Common.{◌≡◌, ◌≢◌, ◌∙◌, ◌≤◌, ℕ, suc, ◌+◌, ◌-◌, true, List, [], ◌∷◌, ◌++◌, length, drop, get_or, take, take_all, le_refl, sym, refl, ap, arith}
use Rattle.ppm_cells.specs.declared.shape.Shape.{Shape}
use Rattle.ppm_code.specs.declared.code.CodeParts.{CodeParts}
use Rattle.ppm_step.specs.declared.local.Local.{Local}
use Rattle.ppm_step.specs.declared.turn.Act.{Act}
use Rattle.ppm_step.specs.declared.turn.Act.TheVariants.{Step, Soft, Hard, Quit}
use Rattle.ppm_step.specs.declared.turn.Told.{Told}
use Rattle.ppm_step.specs.declared.turn.Turn.{Turn}
use Rattle.ppm_step.specs.Locals.{IsLocal, standing_of}
use Rattle.ppm_step.specs.Standings.{Standing, IsLost, IsDone}
use Rattle.ppm_step.specs.State.{want_of}
use Rattle.ppm_table.specs.declared.processor.Processor.{Processor}
use Rattle.ppm_table.specs.declared.processor.Shared.{Shared}
use Rattle.ppm_table.specs.declared.act_counts.ActCounts.{ActCounts}
use Rattle.ppm_table.specs.declared.view.Deed.{Deed}
use Rattle.ppm_table.specs.declared.view.Opening.{Opening}
use Rattle.ppm_table.specs.Counting.{both_counts, none_counted, counted, counts_below, counts_along, counts_by}
use Rattle.ppm_table.specs.Events.{HasActed}
use Rattle.ppm_table.specs.Run.{act_by, behind, deed_of, deeds_in_run, stood, IsActAt}
use Rattle.ppm_table.specs.Shown.{AllIn, HasCounted, InOrder, IsOf, deeds_of_processor, opening_of, counts_with}
use Rattle.ppm_table.proofs.AskedLemmas.{asked}
use Rattle.ppm_table.proofs.StandLemmas.{step_told}

-- the act that a deed tells is the one that was made
pub act_told : (s : Shape) (code : CodeParts) (local : Local) (act : Act) (found : ℕ) → IsLocal s code local → standing_of s code local ≢ IsDone
    → IsActAt s (standing_of s code local) act
    → act_by s (standing_of s code local) (deed_of act (want_of s code local.own act (standing_of s code local)) found) ≡ act
act_told s code local (Step victim) found holds lives may =
    step_told s local.own victim (standing_of s code local) (want_of s code local.own (Step victim) (standing_of s code local)) found
    (asked s code local victim holds lives) may refl
act_told s code local Soft found holds lives may = refl
act_told s code local Hard found holds lives may = refl
act_told s code local (Quit why) found holds lives may = refl

-- a deed more
pub counts_more : (s : Shape) (code : CodeParts) (own : ℕ) (t : ActCounts) (standing : Standing) (deeds : List Deed) (deed : Deed)
    → counts_along s code own t standing (deeds ++ deed ∷ [])
    ≡ counted (act_by s (stood s code own standing deeds) deed) (stood s code own standing deeds) (counts_along s code own t standing deeds)
counts_more s code own t standing [] deed = refl
counts_more s code own t standing (d ∷ deeds) deed =
    counts_more s code own (counted (act_by s standing d) standing t) (behind s code own standing d) deeds deed

-- a processor that has counted its deeds, and counts one more, has counted that too
pub counts_on : (s : Shared) (p q : Processor) (act : Act) (told : Told) → IsOf s p
    → standing_of s.shape s.code p.local ≢ IsDone → IsActAt s.shape (standing_of s.shape s.code p.local) act
    → q.local.own ≡ p.local.own
    → HasActed s.shape s.code p.local.own act (standing_of s.shape s.code p.local) (standing_of s.shape s.code q.local) (deeds_of_processor p)
    (deeds_of_processor q) told
    → (s.counted ≡ true → q.counts ≡ counted act (standing_of s.shape s.code p.local) p.counts) → HasCounted s q
counts_on s p q act told of lives may same acted more on =
    let k = opening_of s in
    let own = p.local.own in
    let deeds = deeds_of_processor p in
    let t = counts_by k own deeds in
    let st = standing_of s.shape s.code p.local in
    let deed = deed_of act (want_of s.shape s.code own act st) acted.found in
    more on
    ∙ ap (λ (u : ActCounts). counted act st u) (of.counts on)
    ∙ ap (λ (a : Act). counted a st t) (sym (act_told s.shape s.code p.local act acted.found of.holds lives may))
    ∙ ap (λ (z : Shape). counted (act_by z st deed) st t) (sym s.told.0)
    ∙ ap (λ (x : Standing). counted (act_by k.shape x deed) x t) of.stands
    ∙ sym (counts_more k.shape k.code own none_counted IsLost deeds deed)
    ∙ ap (λ (l : List Deed). counts_by k own l) (sym acted.deed)
    ∙ ap (λ (c : ℕ). counts_by k c (deeds_of_processor q)) (sym same)

-- what the processors of a table have counted is what they do in its run
module _ (s : Shared) (turns : List Turn) where
  abbrev k : Opening
  k = opening_of s

  pub counts_in : (c : ℕ) (ps : List Processor) → s.counted ≡ true → InOrder s c ps → AllIn k turns ps
      → counts_with (counts_below k turns c) ps ≡ counts_below k turns (c + length ps)
  counts_in c [] on order all = ap (λ (n : ℕ). counts_below k turns n) (omega arith)
  counts_in c (p ∷ ps) on order all =
      let mine : p.counts ≡ counts_by k c (deeds_in_run k c turns) =
      order.1.counts on ∙ ap (λ (l : List Deed). counts_by k p.local.own l) all.0
      ∙ ap (λ (n : ℕ). counts_by k n (deeds_in_run k n turns)) order.0 in
      ap (λ (t : ActCounts). counts_with (both_counts (counts_below k turns c) t) ps) mine
      ∙ counts_in (suc c) ps on order.2 all.1
      ∙ ap (λ (n : ℕ). counts_below k turns n) (omega arith)

-- a loop over processors: what is left after the first one
rest_is : (p : Processor) (ps : List Processor) → take (length (p ∷ ps) - 1) ps ≡ ps
rest_is p ps =
    let one : length (p ∷ ps) - 1 ≡ length ps = omega arith in
    ap (λ k. take k ps) one ∙ take_all (length ps) ps (le_refl (length ps))

-- a processor more
pub counts_step : (t u all : ActCounts) (left : List Processor) (d : Processor) → 1 ≤ length left
    → u ≡ both_counts t (get_or left 0 d).counts → counts_with t left ≡ all → counts_with u (take (length left - 1) (drop 1 left)) ≡ all
counts_step t u all [] d h is whole = absurd (omega (arith, h))
counts_step t u all (p ∷ ps) d h is whole =
    ap (λ l. counts_with u l) (rest_is p ps) ∙ ap (λ (x : ActCounts). counts_with x ps) is ∙ whole
