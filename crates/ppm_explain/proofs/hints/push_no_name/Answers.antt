use Rattle.std.proofs.Common.{◌≡◌, ◌++◌, OnOk, codes, subst}
use Rattle.ppm_explain.specs.Words.{four_text}
use Rattle.ppm_explain.specs.Hints.{word_advice}
use Rattle.ppm_explain.proofs.hints.push_no_name.Goals as goal

-- the four parts are those of the word
pub returns : goal.returns
returns c =
    subst
    (λ w. OnOk c.push_four.result
    (c.push_four.new.text.items
    ≡ c.args.text.now.items
    ++ four_text (codes "note: `") w (codes "` is a word of the language, and no name") (word_advice c.args.keyword)))
    c.keyword_spelling.ensures
    (subst
    (λ w. OnOk c.push_four.result
    (c.push_four.new.text.items
    ≡ c.args.text.now.items
    ++ four_text (codes "note: `") c.keyword_spelling.result.now (codes "` is a word of the language, and no name") w))
    c.word_advice.ensures c.push_four.ensures)
