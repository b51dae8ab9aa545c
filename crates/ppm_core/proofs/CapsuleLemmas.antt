-- A processor goes through a capsule of a frame: what a word step makes of where it stands.
use Rattle.std.proofs.Common.{◌≡◌, ◌∙◌, ◌+◌, ◌<◌, ℕ, zero, suc, true, false, List, [], ◌∷◌, Some, refl, sym, ap, subst, arith}
use Rattle.std.specs.Prelude.{slice_index, slice_set}
use Rattle.ppm_cells.specs.Memory.{read}
use Rattle.ppm_cells.specs.Cells.{address}
use Rattle.ppm_cells.specs.Restart.{restart_word}
use Rattle.ppm_cells.specs.declared.cell.Cell.TheVariants.{FinishWord, RestartWord, BlockWord}
use Rattle.ppm_cells.specs.declared.shape.Shape.{Shape}
use Rattle.ppm_code.specs.declared.act.End.TheVariants.{Next}
use Rattle.ppm_code.specs.declared.act.Step.TheVariants as steps
use Rattle.ppm_code.specs.declared.code.CodeParts.{CodeParts}
use Rattle.ppm_code.specs.declared.instr.Instr.{Instr}
use Rattle.ppm_code.specs.declared.work.Reached.TheVariants.{AtEnd}
use Rattle.ppm_step.specs.declared.frame.Home.{Home}
use Rattle.ppm_step.specs.declared.row.Seat.{Seat}
use Rattle.ppm_step.specs.Frames.{Rest, ending, other_copy}
use Rattle.ppm_step.specs.Points.{header_word}
use Rattle.ppm_step.specs.Standings.{Standing, IsAt, IsBroken, rest_is_there, running, running_if}
use Rattle.ppm_engine.specs.Waiting.{goes_round, stands_before}
use Rattle.ppm_core.specs.Rounds.{IsComing, LedTo, WentAlong, stands_at, stands_behind}
use Rattle.ppm_core.specs.declared.capsule.Stretch.{Stretch}
use Rattle.ppm_core.specs.declared.capsule.Way.{Way}
use Rattle.ppm_core.specs.declared.capsule.Way.TheVariants.{Made, Stops}
use Rattle.ppm_core.specs.declared.frames.NextCapsule.{NextCapsule}
use Rattle.ppm_core.specs.Moments.{Moment, moment, StepsTo}
use Rattle.ppm_core.proofs.MomentLemmas.{both, in_capsule}

-- a store elsewhere than at the first word leaves that as it is
pub first_stays : (words : List ℕ) (at word : ℕ) → 0 < at → slice_index (slice_set words at word) 0 ≡ slice_index words 0
first_stays words zero word some = absurd (omega (arith, some))
first_stays [] (suc at) word some = refl
first_stays (x ∷ xs) (suc at) word some = refl

pub block_same : (a b : ℕ) → BlockWord a ≡ BlockWord b → a ≡ b
block_same a b e = cc

module _ (s : Shape) (code : CodeParts) (seat : Seat) where
  -- no steps
  pub none : {t u : Moment} → t ≡ u → StepsTo s code seat.own 0 0 t u
  none {t} {u} same = record { goes = record { moves = tt; comes_to = sym same; works = refl; forked = refl; taken = refl }; ends = tt }

  module _ (home : Home) (instrs : List Instr) where
    -- steps, and then others
    pub led_on : (from at made n : ℕ) (registers reg more words words' last : List ℕ) (way : Way) → LedTo s code seat home instrs from registers reg words words' made (Made at)
        → LedTo s code seat home instrs at reg more words' last n way → LedTo s code seat home instrs from registers more words last (made + n) way
    led_on from at made n registers reg more words words' last way first second = record {
      steps = both s code seat.own first.steps second.steps;
      stopped = second.stopped;
    }

  -- the two stores with which a frame goes round
  module _ (home : Home) (capsule : ℕ) where
    abbrev rest_at_end : (n : ℕ) → Rest
    rest_at_end n = ending code home (Next capsule) n

    pub turned_back : (n : ℕ) → false ≡ rest_is_there s seat (rest_at_end n) → running s seat (rest_at_end n) ≡ IsBroken seat.place
    turned_back n gone = ap (running_if seat (rest_at_end n)) (sym gone)

    pub turned_once : (words words' : List ℕ) (header number : ℕ) → read s words FinishWord ≡ 0 → true ≡ rest_is_there s seat (rest_at_end 0)
        → BlockWord header ≡ header_word home.frame (other_copy home.copy) → number ≡ capsule → words' ≡ slice_set words header number
        → StepsTo s code seat.own 1 1 (moment words (running s seat (rest_at_end 0))) (moment words' (running s seat (rest_at_end 1)))
    turned_once words words' header number finish there at is stored =
        subst (λ (st : Standing). StepsTo s code seat.own 1 1 (moment words st) (moment words' (running s seat (rest_at_end 1)))) (ap (running_if seat (rest_at_end 0)) there)
        (in_capsule s code seat.own seat (rest_at_end 0) words words' (running s seat (rest_at_end 1)) finish
        (stored ∙ (λ i. slice_set words (block_same header (home.frame + 2 + other_copy home.copy) at i) (is i))) refl)

    pub finish_stays : (words words' : List ℕ) (header number : ℕ) → read s words FinishWord ≡ 0
        → BlockWord header ≡ header_word home.frame (other_copy home.copy) → words' ≡ slice_set words header number → read s words' FinishWord ≡ 0
    finish_stays words words' header number finish at stored =
        let is = block_same header (home.frame + 2 + other_copy home.copy) at in
        ap (λ (l : List ℕ). slice_index l 0) stored ∙ first_stays words header number (omega (arith, is)) ∙ finish

    pub turned_twice : (words words' : List ℕ) (at word : ℕ) → read s words FinishWord ≡ 0 → true ≡ rest_is_there s seat (rest_at_end 1)
        → at ≡ address s (RestartWord seat.place) → word ≡ restart_word (goes_round seat home) → words' ≡ slice_set words at word
        → StepsTo s code seat.own 1 1 (moment words (running s seat (rest_at_end 1))) (moment words' (IsAt seat.place (Some (goes_round seat home))))
    turned_twice words words' at word finish there is same stored =
        subst (λ (st : Standing). StepsTo s code seat.own 1 1 (moment words st) (moment words' (IsAt seat.place (Some (goes_round seat home)))))
        (ap (running_if seat (rest_at_end 1)) there)
        (in_capsule s code seat.own seat (rest_at_end 1) words words' (IsAt seat.place (Some (goes_round seat home))) finish (stored ∙ (λ i. slice_set words (is i) (same i))) refl)

  -- a capsule gone through up to the end with which its frame goes round
  pub along_to_end : (coming : NextCapsule) (reg words words' : List ℕ) (stretch : Stretch) (next capsule : ℕ) → stretch.way ≡ Stops next (AtEnd (Next capsule))
      → WentAlong s code seat coming reg words words' (Some stretch)
      → StepsTo s code seat.own stretch.made stretch.made (moment words (stands_at s code seat coming)) (moment words' (running s seat (ending code coming.home (Next capsule) 0)))
  along_to_end coming reg words words' stretch next capsule is along =
      let instrs = along.0.instrs in
      subst (λ (st : Standing). StepsTo s code seat.own stretch.made stretch.made (moment words st) (moment words' (running s seat (ending code coming.home (Next capsule) 0)))) (sym along.3)
      (subst (λ (st : Standing). StepsTo s code seat.own stretch.made stretch.made (moment words (stands_before s code seat coming.home instrs 0 along.2)) (moment words' st))
      (ap (λ (way : Way). stands_behind s code seat coming.home instrs reg way) is) along.4.steps)

  -- a round more, with the two steps in front
  pub round_more : {n w made : ℕ} {first last : Moment} (words : List ℕ) (coming : NextCapsule) → StepsTo s code seat.own n w first (moment words (IsAt seat.place (Some seat.restart)))
      → IsComing s code seat words coming → StepsTo s code seat.own made made (moment words (stands_at s code seat coming)) last
      → StepsTo s code seat.own (n + made + 2) (w + made + 1) first last
  round_more {n} {w} {made} {first} {last} words coming so_far is more =
      subst (λ (v : ℕ). StepsTo s code seat.own (n + made + 2) v first last) (one w made)
      (subst (λ (k : ℕ). StepsTo s code seat.own k (w + (1 + made)) first last) (two n made)
      (both s code seat.own so_far (both s code seat.own is.steps more)))
    where
      one : (w made : ℕ) → w + (1 + made) ≡ w + made + 1
      one w made = omega arith

      two : (n made : ℕ) → n + (2 + made) ≡ n + made + 2
      two n made = omega arith
