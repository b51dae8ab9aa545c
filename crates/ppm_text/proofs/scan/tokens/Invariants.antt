use Rattle.std.proofs.Common.{◌≡◌, ◌≤◌, ◌+◌, length}
use Rattle.ppm_text.specs.Lexing.{Lexes}
use Rattle.ppm_text.specs.Limits.{text_limit}
use Rattle.ppm_text.proofs.scan.tokens.Given as goal

abbrev pub invariant-loop-rest : goal.invariant-loop-rest
invariant-loop-rest l = record {
  lexed : Lexes 0 1 l.text l.all.items l.place l.line l.rest;
  place : l.place + length l.rest ≡ length l.text;
  line : l.line ≤ l.place + 1;
  within : length l.text ≤ text_limit;
}

abbrev pub decreases-loop-rest : goal.decreases-loop-rest
decreases-loop-rest l = length l.rest
