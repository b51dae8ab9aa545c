use Rattle.std.proofs.Common.{List, map, ap, ◌∙◌}
use Rattle.std.proofs.lemmas.Result.{IfOk-weaker}
use Rattle.ppm_text.specs.declared.token.Token.{Token}
use Rattle.ppm_expected.specs.declared.expected.Expected.{Expected}
use Rattle.ppm_expected.specs.Correct.{CanFollow}
use Rattle.ppm_expected.specs.Language.{terminal_of}
use Rattle.ppm_explain.specs.Sources.{Follow, stop_notes}
use Rattle.ppm_explain.proofs.source.stopped_notes.Goals as goal

-- what can follow by the answer
by_answer : {front : List Token} {e : Expected} → CanFollow front e → Follow front (map terminal_of e.terminals.items) e.end
by_answer f = record { exactly = f.exactly; order = f.order }

-- the notes are those of these tokens, by what can stand where they go no further
pub returns : goal.returns
returns c =
    let go = c.in_ok-expected.ensures.farthest in
    IfOk-weaker c.stop_notes.result _ _
    (λ text e. record {
      tokens = c.args.all.now.tokens;
      lexed = c.requires.lexed;
      front = go.front;
      rest = go.rest;
      goes = record { shape = go.shape; begins = go.begins; ends = go.ends };
      kinds = map terminal_of c.in_ok-expected.expected.terminals.items;
      end = c.in_ok-expected.expected.end;
      follows = by_answer go.follows;
      unexpected = λ place fault. by_answer (c.in_ok-expected.ensures.unexpected place fault);
      ended = λ h. by_answer (c.in_ok-expected.ensures.ended h);
      is = e
          ∙ ap (λ ts. stop_notes c.args.source.now ts (map terminal_of c.in_ok-expected.expected.terminals.items) c.in_ok-expected.expected.end c.args.refusal)
          c.as_slice.ensures.value;
    }) c.stop_notes.ensures
