-- How a run ends in which each processor obeys.
use Rattle.std.proofs.Common.{◌≡◌, ◌≢◌, ◌∙◌, ◌⊎◌, ◌<◌, ◌==◌, ℕ, suc, true, false, List, [], ◌∷◌, ◌++◌, inl, inr, refl, ap, subst, arith}
use Rattle.std.specs.List.{All}
use Rattle.std.proofs.lemmas.Bool.{both_ways}
use Rattle.std.proofs.lemmas.Bool.Decides.{eqb_tells}
use Rattle.ppm_cells.specs.Finish.{finish_word, finish_of, IsFinish}
use Rattle.ppm_cells.specs.Memory.{read}
use Rattle.ppm_cells.specs.declared.cell.Cell.TheVariants.{FinishWord}
use Rattle.ppm_cells.specs.declared.finish.Finish.TheVariants.{OutOfTurns}
use Rattle.ppm_cells.specs.declared.shape.Shape.{Shape}
use Rattle.ppm_cells.proofs.ExactLemmas.{unpack-pack}
use Rattle.ppm_cells.proofs.FinishLemmas.{finishes_exact}
use Rattle.ppm_code.specs.Code.{IsCode}
use Rattle.ppm_code.specs.declared.code.CodeParts.{CodeParts}
use Rattle.ppm_plan.specs.Refusals.{is_killed}
use Rattle.ppm_plan.specs.Forms.{plan_form}
use Rattle.ppm_step.specs.declared.turn.Act.TheVariants.{Hard, Quit}
use Rattle.ppm_step.specs.declared.turn.Turn.{Turn}
use Rattle.ppm_step.specs.Among.{IsTurnAmong}
use Rattle.ppm_step.specs.Laws.{IsStruck, IsProposedWord, IsQuitWord, finish_at, reached}
use Rattle.ppm_step.specs.Standings.{Standing, IsDone}
use Rattle.ppm_step.specs.State.{State, stand_of, quit_with, happens, after, opening}
use Rattle.ppm_step.proofs.FinishLemmas.{finish_stays, done_has_cause}
use Rattle.ppm_step.proofs.FilledLemmas.{room_has_header}
use Rattle.ppm_step.proofs.QuitLemmas.{finish_has_cause}
use Rattle.ppm_choice.specs.Deeds.{Deed, deeds_of, work_made}
use Rattle.ppm_choice.specs.Finishes.{Finishes, Proposed, Spent, Stood}
use Rattle.ppm_choice.specs.Laws.{QuitsWhereSpent, KeeperEnds, RunsFinish}
use Rattle.ppm_choice.specs.Obeying.{nothing_done, Obeys, ObeysIn}
use Rattle.ppm_choice.proofs.DeedLemmas.{count_work, deed_at, deeds_split, work_is_counted}
use Rattle.ppm_choice.proofs.SpentLemmas.{at_most, spent, for_turns}
use Rattle.ppm_choice.proofs.StruckLemmas.{struck_is_killed, done_at_end}

pub quits_where_spent : (s : Shape) (code : CodeParts) → QuitsWhereSpent s code
quits_where_spent s code plan limits c state first more why obeys =
    let turn : Turn = record { processor = c; act = Quit why } in
    let front : List Deed = deeds_of s code c state first in
    let quit : Deed = deed_at s code c (after s code state first) turn in
    let rest : List Deed = deeds_of s code c (happens s code (after s code state first) turn) more in
    let stands : Standing = stand_of (after s code state (first ++ (turn ∷ more))) c in
    let split = deeds_split s code c state first turn more refl in
    let in_parts : Obeys plan limits c nothing_done (front ++ (quit ∷ rest)) stands =
    subst (λ (deeds : List Deed). Obeys plan limits c nothing_done deeds stands) split obeys in
    let most = at_most plan limits c nothing_done (front ++ (quit ∷ rest)) stands in_parts (omega arith) in
    let least = spent plan limits c nothing_done front quit rest why stands refl in_parts in
    let counted = work_is_counted s code c state (first ++ (turn ∷ more)) ∙ ap count_work split in (
      for_turns plan limits c nothing_done front quit rest why stands refl in_parts,
      omega (arith, most, least, counted),
    )

pub keeper_ends : (s : Shape) (code : CodeParts) → KeeperEnds s code
keeper_ends s code plan limits c state turns keeper obeys = (
  done_at_end plan limits c nothing_done (deeds_of s code c state turns) (stand_of (after s code state turns) c) keeper obeys,
  λ struck. both_ways (is_killed plan_form c plan.items) keeper.spared (killed struck),
)
  where
    killed : IsStruck c turns → is_killed plan_form c plan.items ≡ true
    killed struck =
        let turn : Turn = record { processor = c; act = Hard } in
        let split = ap (deeds_of s code c state) struck.turns_are ∙ deeds_split s code c state struck.first turn struck.more refl in
        struck_is_killed plan limits c nothing_done (deeds_of s code c state struck.first) (deed_at s code c (after s code state struck.first) turn)
        (deeds_of s code c (happens s code (after s code state struck.first) turn) struck.more) (stand_of (after s code state turns) c) refl
        (subst (λ (deeds : List Deed). Obeys plan limits c nothing_done deeds (stand_of (after s code state turns) c)) split obeys)

-- what holds of all turns holds of one of them
in_middle : (P : Turn → Type 0) (first : List Turn) (turn : Turn) (more : List Turn) → All P (first ++ (turn ∷ more)) → P turn
in_middle P [] turn more all = all 0 turn (omega arith)
in_middle P (t ∷ first) turn more all = in_middle P first turn more (λ k d less. all (suc k) d (omega (arith, less)))

pub runs_finish : (s : Shape) (code : CodeParts) → IsCode code → RunsFinish s code
runs_finish s code is plan limits keeper words turns words_are spared there all = (some, by (eqb_tells (read s words FinishWord) 0))
  where
    start : State
    start = opening words s.processors

    word : ℕ
    word = finish_at s (reached s code words turns)

    of_keeper : (stand_of (after s code start turns) keeper ≡ IsDone) × (¬ IsStruck keeper turns)
    of_keeper = keeper_ends s code plan limits keeper start turns spared (all.obeys keeper there)

    by_cause : IsStruck keeper turns ⊎ (word ≢ 0) → word ≢ 0
    by_cause (inl struck) = absurd (of_keeper.1 struck)
    by_cause (inr h) = h

    some : word ≢ 0
    some = by_cause (done_has_cause s code is words turns keeper words_are there of_keeper.0)

    -- the word of a quit
    of_quit : IsQuitWord s code words turns word → Finishes s code limits start turns word
    of_quit q =
        let quit : Turn = record { processor = q.processor; act = Quit q.why } in
        let less : q.processor < s.processors =
        (in_middle (IsTurnAmong s.processors) q.quits.first quit q.quits.more (subst (All (IsTurnAmong s.processors)) q.quits.turns_are all.among)).processor in
        let h = quits_where_spent s code plan limits q.processor start q.quits.first q.quits.more q.why
        (subst (λ (l : List Turn). ObeysIn plan limits q.processor s code start l) q.quits.turns_are (all.obeys q.processor less)) in
        let is_word : word ≡ finish_word (OutOfTurns q.processor) = q.word_is ∙ ap (λ w. finish_word (quit_with q.processor w)) h.0 in
        let fits : q.processor < 64 = omega (arith, less, s.within.processors_most) in
        Spent q.processor less
        (ap finish_of is_word ∙ unpack-pack finish_word IsFinish finish_of finishes_exact (OutOfTurns q.processor) fits)
        (ap (work_made s code q.processor start) q.quits.turns_are ∙ h.1)

    -- from words that say nothing
    of_unset : read s words FinishWord ≡ 0
        → (word ≡ read s words FinishWord) ⊎ (IsProposedWord s.processors word ⊎ IsQuitWord s code words turns word)
        → Finishes s code limits start turns word
    of_unset unset (inl same) = absurd (some (same ∙ unset))
    of_unset unset (inr (inl proposed)) = Proposed proposed (λ place. room_has_header s code is words turns place unset)
    of_unset unset (inr (inr quit)) = of_quit quit

    by : (((read s words FinishWord == 0) ≡ true) × (read s words FinishWord ≡ 0))
        ⊎ (((read s words FinishWord == 0) ≡ false) × (read s words FinishWord ≢ 0)) → Finishes s code limits start turns word
    by (inl none) = of_unset none.1 (finish_has_cause s code is words turns)
    by (inr set) = Stood (finish_stays s code is words [] turns set.1) some
