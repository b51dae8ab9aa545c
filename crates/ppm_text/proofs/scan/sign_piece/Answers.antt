use Rattle.std.proofs.Common.{inr}
use Rattle.ppm_text.proofs.SpellingLemmas.{longest_two, longest_one}
use Rattle.ppm_text.proofs.ScanLemmas.{front_nothing}
use Rattle.ppm_text.proofs.scan.sign_piece.Goals as goal

-- the first two bytes are a sign
pub returns-in-Some : goal.returns-in-Some
returns-in-Some c = (longest_two c.args.bytes.now c.in-Some.mark c.requires c.in-Some.ensures.some, tt)

-- the first byte is a sign, and the first two are none
pub returns-in-Some-front_sign : goal.returns-in-Some-front_sign
returns-in-Some-front_sign c =
    let none = c.in_default.ensures.none in
    (longest_one c.args.bytes.now c.in-Some-front_sign.mark c.requires none c.in-Some-front_sign.ensures.some, tt)

-- neither is a sign
pub returns-in-None : goal.returns-in-None
returns-in-None c = inr (front_nothing c.args.place c.args.bytes.now c.requires c.in_default.ensures.none c.in-None.ensures.none)
