use Rattle.std.proofs.Common.{ap, subst, ◌∙◌}
use Rattle.std.proofs.lemmas.Result.{IfOk-weaker}
use Rattle.ppm_explain.specs.Sources.{fault_notes}
use Rattle.ppm_explain.specs.Spread.{IsJudged, spread, faulty}
use Rattle.ppm_explain.proofs.source.region_notes.Goals as goal

-- the notes are those of these tokens, by how the spread text is judged
pub returns : goal.returns
returns c =
    IfOk-weaker c.fault_notes.result _ _
    (λ text e. record {
      tokens = c.args.all.now.tokens;
      lexed = c.requires.lexed;
      judged = c.in_ok-judged.judged;
      judges = subst (λ ts. IsJudged (spread ts) c.in_ok-judged.judged) c.as_slice-tokens.ensures.value c.in_ok-judged.ensures;
      is = e
          ∙ ap (λ ts. fault_notes c.args.source.now ts (faulty c.args.refusal ts c.in_ok-judged.judged) c.args.refusal)
          c.as_slice-tokens.ensures.value;
    }) c.fault_notes.ensures
