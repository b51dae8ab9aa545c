use Rattle.std.proofs.Common.{sym, ne_eqb}
use Rattle.std.proofs.Math.Bool.{and-false}
use Rattle.ppm_text.specs.Spelling.{keyword_of}
use Rattle.ppm_text.proofs.spelling.keyword_of_five.Goals as goal

-- no keyword of five bytes begins with another
pub returns-in_default-17 : goal.returns-in_default-17
unfolding keyword_of
returns-in_default-17 c =
    let other = c.in_default.is-0 in
    let a = ne_eqb 97 c.args.a (λ e. other.0.0.0.1 (sym e)) in
    let i = ne_eqb 105 c.args.a (λ e. other.0.0.1 (sym e)) in
    let w = ne_eqb 119 c.args.a (λ e. other.0.1 (sym e)) in
    let s = ne_eqb 115 c.args.a (λ e. other.1 (sym e)) in
    rw (a, i, w, s) (simp (and-false))
