use Rattle.std.proofs.Common.{◌≡◌, ◌∙◌, [], ◌∷◌, ◌++◌, ap, arith, map, sym}
use Rattle.std.proofs.lemmas.List.FromFn.{map-range_with_len_more}
use Rattle.ppm_words.specs.TwosComplement.{value_of}
use Rattle.ppm_core.specs.Machine.{seen}
use Rattle.ppm_core.specs.Situation.{array_in}
use Rattle.ppm_calls.proofs.following.arrays_of.Goals as goal

-- those of one array more
pub loop-number-preserved : goal.loop-number-preserved
loop-number-preserved c =
    let at = c.loop-number.number in
    let one : c.from_vec.result ≡ map value_of (array_in (seen c.args.machine.now) at) =
    c.from_vec.ensures ∙ c.in_ok-values.ensures ∙ ap (map value_of) c.array.ensures in
    c.in_ok-push.ensures.items ∙ (λ i. c.loop-number.invariant i ++ one i ∷ [])
    ∙ sym (map-range_with_len_more (λ number. map value_of (array_in (seen c.args.machine.now) number)) 0 at at (omega arith))
