use Rattle.std.proofs.Common.{◌∙◌, List, ℕ, [], refl, sym, ap}
use Rattle.ppm_pieces.specs.Pieces.{split}
use Rattle.ppm_case.specs.Judged.{judged}
use Rattle.ppm_case.proofs.JudgeLemmas.{judged_none, judged_more, judged_last}
use Rattle.ppm_case.proofs.line.judge_values.Goals as goal

-- a word says no values
pub returns-in_default-take_word : goal.returns-in_default-take_word
returns-in_default-take_word c =
    sym (judged_none c.loop-word.room_left c.in-Some.word.now (split 32 c.in-Some.rest.now) (sym c.in_default-take_word.ensures))
    ∙ ap (λ (l : List (List ℕ)). judged c.loop-word.room_left l) (sym c.in-Some.ensures.pieces) ∙ c.loop-word.invariant

-- one word more
pub loop-word-preserved : goal.loop-word-preserved
loop-word-preserved c =
    sym (judged_more c.loop-word.room_left c.in-Some-take_word.next c.in-Some.word.now (split 32 c.in-Some.rest.now) (sym c.in-Some-take_word.ensures))
    ∙ ap (λ (l : List (List ℕ)). judged c.loop-word.room_left l) (sym c.in-Some.ensures.pieces) ∙ c.loop-word.invariant

-- the last one
pub returns-in-Some-take_word-2 : goal.returns-in-Some-take_word-2
returns-in-Some-take_word-2 c =
    sym (judged_last c.loop-word.room_left c.in-Some-take_word-2.last c.loop-word.left.now (sym c.in-Some-take_word-2.ensures))
    ∙ ap (λ (l : List (List ℕ)). judged c.loop-word.room_left l) (sym c.in_default.ensures.pieces) ∙ c.loop-word.invariant

pub returns-in-None : goal.returns-in-None
returns-in-None c =
    sym (judged_none c.loop-word.room_left c.loop-word.left.now [] (sym c.in-None.ensures))
    ∙ ap (λ (l : List (List ℕ)). judged c.loop-word.room_left l) (sym c.in_default.ensures.pieces) ∙ c.loop-word.invariant
