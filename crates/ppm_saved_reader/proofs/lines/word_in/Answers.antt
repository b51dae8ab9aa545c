use Rattle.std.proofs.Common.{◌∙◌, sym, codes, arith}
use Rattle.ppm_saved_reader.proofs.FormLemmas.{word_large, last_word}
use Rattle.ppm_saved_reader.proofs.lines.word_in.Goals as goal

-- digits of the last word's value are those of it
pub returns-else-same_bytes : goal.returns-else-same_bytes
returns-else-same_bytes c =
    word_large c.args.digits.now (codes "18446744073709551615") c.requires (omega (arith, c.value-word.ensures, c.if-word-lt18446744073709551615.false)) last_word
    (sym c.same_bytes.ensures ∙ c.if-same_bytes.false)
