use Rattle.std.proofs.Common.{◌≡◌, ◌↔◌, Option, subst, sym}
use Rattle.std.specs.Int.{bit_at}
use Rattle.ppm_code.specs.declared.register.Register.{Register}
use Rattle.ppm_gaps.specs.Hanging.{IsWordBehind}
use Rattle.ppm_gaps.proofs.HangingLemmas.{set_word, cleared_word, kept_words}
use Rattle.ppm_gaps.proofs.hanging.words_behind.Goals as goal

-- the word is set by what comes of a find
pub returns-then-hung : goal.returns-then-hung
returns-then-hung c = λ r range. subst (λ (o : Option Register). (bit_at c.with_word.result r ≡ 1) ↔ IsWordBehind c.args.words c.args.hung o r) (sym c.in-Some.is) (set_word c.args.words c.with_word.result c.args.hung c.in-Some.register r c.if-hung.true
    c.with_word.ensures.same (c.with_word.ensures.others r))

-- or by what does not
pub returns-else-hung : goal.returns-else-hung
returns-else-hung c = λ r range. subst (λ (o : Option Register). (bit_at c.without_word.result r ≡ 1) ↔ IsWordBehind c.args.words c.args.hung o r) (sym c.in-Some.is) (cleared_word c.args.words c.without_word.result c.args.hung c.in-Some.register r c.if-hung.false
    c.without_word.ensures.same (c.without_word.ensures.others r range))

-- or none is
pub returns-in-None : goal.returns-in-None
returns-in-None c = λ r range. subst (λ (o : Option Register). (bit_at c.args.words r ≡ 1) ↔ IsWordBehind c.args.words c.args.hung o r) (sym c.in-None.is) (kept_words c.args.words c.args.hung r)
