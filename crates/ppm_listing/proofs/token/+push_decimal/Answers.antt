-- The last digit, after those of a tenth of the number.
use Rattle.std.proofs.Common.{◌∙◌, ◌++◌, ◌∷◌, [], ◌+◌, ◌/◌, ◌%◌, ap, sym, arith, append_assoc, decimal}
use Rattle.std.proofs.lemmas.Fmt.{decimal_digit, decimal_step}
use Rattle.ppm_listing.proofs.token.+push_decimal.Goals as goal

pub returns-then-number-lt10 : goal.returns-then-number-lt10
returns-then-number-lt10 t c =
    c.in_ok-push.ensures.items
    ∙ ap (λ d. c.args.text.now.items ++ d) (sym (decimal_digit c.args.number (omega (arith, c.if-number-lt10.true))))

pub returns : goal.returns
returns t c =
    let n = c.args.number in
    let last = (48 + n % 10) ∷ [] in
    let front = c.args.text.now.items in
    c.in_ok-push-2.ensures.items
    ∙ ap (λ l. l ++ last) c.in_ok-push_decimal.ensures
    ∙ append_assoc front (decimal (n / 10)) last
    ∙ ap (λ d. front ++ d) (sym (decimal_step n (omega (arith, c.if-number-lt10.false)) (omega (arith, c.ranges.number.fits))))
