use Rattle.ppm_listing.proofs.token.+push_decimal.Given as goal

-- a tenth of the number is left each time
abbrev pub decreases-push_decimal : goal.decreases-push_decimal
decreases-push_decimal l = l.number
