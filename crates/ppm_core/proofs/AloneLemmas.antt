-- A step within a row on a machine's words.
use Rattle.std.proofs.Common.{◌≡◌, ◌∙◌, ◌+◌, ◌<◌, ◌⊎◌, inl, inr, ℕ, Bool, true, false, if◌then◌else◌, List, refl, sym, ap, arith}
use Rattle.std.specs.Prelude.{◌==◌, slice_index, slice_set}
use Rattle.ppm_cells.specs.Memory.{AreWordsOf, read}
use Rattle.ppm_cells.specs.declared.cell.Cell.TheVariants.{FinishWord}
use Rattle.ppm_cells.specs.declared.shape.Shape.{Shape}
use Rattle.ppm_code.specs.declared.code.CodeParts.{CodeParts}
use Rattle.ppm_step.specs.declared.ask.Want.{Want}
use Rattle.ppm_step.specs.declared.ask.Want.TheVariants.{Loads, Stores, Exchanges, Nothing}
use Rattle.ppm_step.specs.declared.row.Row.{Row}
use Rattle.ppm_step.specs.declared.row.Row.TheVariants.{Now, Store, Exchange}
use Rattle.ppm_step.specs.declared.row.Seat.{Seat}
use Rattle.ppm_step.specs.declared.row.Then.TheVariants.{Load, Install, Fork, Begin, Move, Enter, Again, Broken}
use Rattle.ppm_step.specs.Standings.{Standing, IsLost, IsPlaced, IsAt, IsWithin, IsRunning, IsBroken, IsDone, went, went_row}
use Rattle.ppm_step.specs.State.{found_in, words_after}
use Rattle.ppm_engine.specs.Memory.{IsToMake, IsSparing, IsLast, is_within, one}
use Rattle.ppm_core.specs.Alone.{Led, StandsOn}
use Rattle.ppm_core.specs.Moments.{Moment, moment, moved, Goes}
use Rattle.ppm_core.proofs.CapsuleLemmas.{first_stays}
use Rattle.ppm_core.proofs.MomentLemmas.{goes_both}

-- the first word stays, if the step spares it
if_stays : (words : List ℕ) (at word : ℕ) (b : Bool) → 0 < at → slice_index (if b then slice_set words at word else words) 0 ≡ slice_index words 0
if_stays words at word true some = first_stays words at word some
if_stays words at word false some = refl

first_after : (words : List ℕ) (want : Want) → IsSparing want → slice_index (words_after words want) 0 ≡ slice_index words 0
first_after words (Loads at) spares = refl
first_after words (Stores at word) spares = first_stays words at word spares
first_after words (Exchanges at old new) spares = if_stays words at new (slice_index words at == old) spares
first_after words Nothing spares = refl

none_more : (n : ℕ) → n ≡ n + 0
none_more n = omega arith

module _ (s : Shape) (code : CodeParts) (seat : Seat) where
  -- after the last step of a row a processor stands no longer within it
  ends_row : (row : Row) (found : ℕ) → IsLast (IsWithin seat row) → is_within (went_row s code seat 0 found row) ≡ true → ⊥
  ends_row (Exchange cell old new Again) found last within = cc
  ends_row (Exchange cell old new (Load point)) found last within = absurd last
  ends_row (Exchange cell old new (Install restart)) found last within = absurd last
  ends_row (Exchange cell old new (Fork block)) found last within = absurd last
  ends_row (Exchange cell old new (Begin block frame bottom)) found last within = absurd last
  ends_row (Exchange cell old new (Move place)) found last within = absurd last
  ends_row (Exchange cell old new (Enter capsule)) found last within = absurd last
  ends_row (Exchange cell old new Broken) found last within = absurd last
  ends_row (Now next) found last within = absurd last
  ends_row (Store cell content next) found last within = absurd last

  finish_after : (row : Row) (want : Want) (found : ℕ) (words words' : List ℕ) → IsSparing want ⊎ IsLast (IsWithin seat row)
      → read s words FinishWord ≡ 0 → words' ≡ words_after words want → is_within (went_row s code seat 0 found row) ≡ true → read s words' FinishWord ≡ 0
  finish_after row want found words words' (inl spares) finish stored within =
      ap (λ (l : List ℕ). slice_index l 0) stored ∙ first_after words want spares ∙ finish
  finish_after row want found words words' (inr last) finish stored within = absurd (ends_row row found last within)

pub made_one : (s : Shape) (code : CodeParts) (own place : ℕ) (x : Standing) (want : Want) (found : ℕ) (words words' : List ℕ) → StandsOn s words x
    → IsToMake s own place x want → found ≡ found_in words want → words' ≡ words_after words want → AreWordsOf s words'
    → Led s code own words x words' (went s code own 0 found x) (one x want)
made_one s code own place (IsWithin seat row) want found words words' at is finds stored count = record {
  to = record { count = count; finish = finish_after s code seat row want found words words' is.keeps (at.finish refl) stored };
  goes = λ n work forks takes first so.
      let step : Goes s code own 1 (one (IsWithin seat row) want).work (one (IsWithin seat row) want).forks (one (IsWithin seat row) want).takes
      (moment words (IsWithin seat row)) (moment words' (went s code own 0 found (IsWithin seat row))) =
      record {
        moves = (record { finish = at.finish refl; lives = refl; seeks_none = is.due }, tt);
        comes_to = λ i. record {
          words = (stored ∙ ap (λ (w : Want). words_after words w) (sym is.wants)) i;
          stand = went s code own 0 ((finds ∙ ap (λ (w : Want). found_in words w) (sym is.wants)) i) (IsWithin seat row);
        };
        works = none_more _;
        forked = none_more _;
        taken = none_more _;
      } in goes_both s code own so step;
}
made_one s code own place IsLost want found words words' at is finds stored count = let e : false ≡ true = is.row in absurd cc
made_one s code own place (IsPlaced it) want found words words' at is finds stored count = let e : false ≡ true = is.row in absurd cc
made_one s code own place (IsAt it restart) want found words words' at is finds stored count = let e : false ≡ true = is.row in absurd cc
made_one s code own place (IsRunning seat rest) want found words words' at is finds stored count = let e : false ≡ true = is.row in absurd cc
made_one s code own place (IsBroken it) want found words words' at is finds stored count = let e : false ≡ true = is.row in absurd cc
made_one s code own place IsDone want found words words' at is finds stored count = let e : false ≡ true = is.row in absurd cc
