use Rattle.std.proofs.Common.{rules, [], ◌∷◌, refl}
use Rattle.std.proofs.lemmas.Result.{MatchResult-weaker}
use Rattle.ppm_grammar.specs.Rows.{Take}
use Rattle.ppm_text.specs.declared.token.Sign.TheVariants as s
use Rattle.ppm_rows.specs.Kinds.{Mark}
use Rattle.ppm_parser.proofs.Exits.{exit_by}
use Rattle.ppm_parser.proofs.Reading.{then_reads, then_fails, front_fails, take_reads, take_fails}
use Rattle.ppm_parser.proofs.Expressions.{counts_of, not_front, number_read, len_read, minus_read, minus_fails, group_read, group_fails}
use Rattle.ppm_parser.proofs.Expressions.{alone_read, alone_many, element_read, element_fails, operation_read, operation_front, operation_fails, plain_read, plain_stops}
use Rattle.ppm_parser.proofs.Expressions.{stay_read, further_many, further_front, once_read, further_read, further_fails, name_read, name_stops, literal_value}
use Rattle.ppm_parser.specs.Parsing.{IsNameAt}
use Rattle.ppm_parser.proofs.expression.+expression.Goals as goal

-- no operator follows
pub further-returns-in_default : goal.further-returns-in_default
further-returns-in_default t c =
    stay_read c.args.level c.in_default.ensures

-- the operator is one node too many
pub further-returns-in_err-room : goal.further-returns-in_err-room
further-returns-in_err-room t c =
    exit_by _ _ _ c.from_residual.result c.from_residual.ensures.1
    (further_many c.args.level c.in-Some.ensures.0 c.in_err-room.ensures.0 c.in_err-room.ensures.1)

-- the second operand stops
pub further-returns-in_err-second : goal.further-returns-in_err-second
further-returns-in_err-second t c =
    exit_by _ _ _ c.from_residual-in_err-second.result c.from_residual-in_err-second.ensures.1
    (further_front c.args.level c.in-Some.ensures.0 (counts_of c.in_ok-room.ensures) c.in_err-second.ensures)

-- a comparison comes once
pub further-returns-then-is_once : goal.further-returns-then-is_once
further-returns-then-is_once t c =
    rw c.in_ok-both.ensures
    (once_read c.args.level c.in-Some.ensures.0 (counts_of c.in_ok-room.ensures) c.in_ok-second.ensures (search rules))

-- others go on
pub further-returns : goal.further-returns
further-returns t c =
    MatchResult-weaker _ c.further.ensures
    (λ r h. further_read c.args.level c.in-Some.ensures.0 (counts_of c.in_ok-room.ensures) c.in_ok-second.ensures (search rules)
    (rw c.in_ok-both.ensures at h))
    (λ e h. further_fails c.args.level c.in-Some.ensures.0 (counts_of c.in_ok-room.ensures) c.in_ok-second.ensures (search rules) h)

-- the name is one node too many
pub named-returns-in_err-room : goal.named-returns-in_err-room
named-returns-in_err-room t c =
    exit_by _ _ _ c.from_residual.result c.from_residual.ensures.1
    (alone_many (not_front (Mark s.OpenBracket) c.args.at.tokens.now _ c.in_default.ensures) c.in_err-room.ensures.0 c.in_err-room.ensures.1)

-- a name alone
pub named-returns-in_default : goal.named-returns-in_default
named-returns-in_default t c =
    alone_read (not_front (Mark s.OpenBracket) c.args.at.tokens.now _ c.in_default.ensures) (counts_of c.in_ok-room.ensures)

-- the index stops
pub named-returns-in_err-index : goal.named-returns-in_err-index
named-returns-in_err-index t c =
    exit_by _ _ _ c.from_residual-in_err-index.result c.from_residual-in_err-index.ensures.1
    (element_fails c.in-Ok.ensures.0 c.in_ok-inner.ensures (counts_of c.in_ok-room-2.ensures) c.in_err-index.ensures)

-- an element
pub named-returns : goal.named-returns
named-returns t c =
    rw c.in_ok-index-2.ensures.ok
    (element_read c.in-Ok.ensures.0 c.in_ok-inner.ensures (counts_of c.in_ok-room-2.ensures) c.in_ok-index.ensures)

-- what is negated stops
pub operand-returns-in_err-negated-in-Sign-Minus : goal.operand-returns-in_err-negated-in-Sign-Minus
operand-returns-in_err-negated-in-Sign-Minus t c =
    exit_by _ _ _ c.from_residual-in_err-negated-in-Sign-Minus.result c.from_residual-in_err-negated-in-Sign-Minus.ensures.1
    (minus_fails c.in-Some.ensures.cases.0 c.in_ok-inner-in-Sign-Minus.ensures (search rules) (counts_of c.in_ok-room-in-Sign-Minus.ensures)
    c.in_err-negated-in-Sign-Minus.ensures)

-- a number
pub operand-returns-in_ok-room-in-Number : goal.operand-returns-in_ok-room-in-Number
operand-returns-in_ok-room-in-Number t c =
    let v = c.to_i64.ensures in
    rw (literal_value c.in-Number.literal c.to_i64.result v.value v.limit)
    (number_read c.in-Some.ensures.cases.0 c.in-Number.literal c.in-Number.is (counts_of c.in_ok-room-in-Number.ensures))

-- a name, alone or with an index
pub operand-returns-in_ok-name-in-Name : goal.operand-returns-in_ok-name-in-Name
operand-returns-in_ok-name-in-Name t c =
    let is : IsNameAt c.in-Some.token.now (record { name = c.in_ok-name-in-Name.name; line = c.in-Some.token.now.line }) c.in-Some.token.now.place =
    record { is = rw c.in_ok-name-in-Name.ensures c.in-Name.is; line = refl; at = refl } in
    MatchResult-weaker _ c.named.ensures (λ r h. name_read c.in-Some.ensures.cases.0 is h) (λ e h. name_stops c.in-Some.ensures.cases.0 is h)

-- a length
pub operand-returns-in_ok-region-in-Keyword-Len : goal.operand-returns-in_ok-region-in-Keyword-Len
operand-returns-in_ok-region-in-Keyword-Len t c =
    rw c.in_ok-region-in-Keyword-Len.ensures.1
    (len_read c.in-Some.ensures.cases.0 (search rules) (counts_of c.in_ok-room-in-Keyword-Len.ensures) c.in_ok-region-in-Keyword-Len.ensures.0)

-- a minus
pub operand-returns-in_ok-new-in-Sign-Minus : goal.operand-returns-in_ok-new-in-Sign-Minus
operand-returns-in_ok-new-in-Sign-Minus t c =
    rw c.in_ok-new-in-Sign-Minus.ensures.ok
    (minus_read c.in-Some.ensures.cases.0 c.in_ok-inner-in-Sign-Minus.ensures (search rules) (counts_of c.in_ok-room-in-Sign-Minus.ensures)
    c.in_ok-negated-in-Sign-Minus.ensures)

-- a parenthesis
pub operand-returns-in_ok-inner-in-Sign-OpenParen : goal.operand-returns-in_ok-inner-in-Sign-OpenParen
operand-returns-in_ok-inner-in-Sign-OpenParen t c =
    MatchResult-weaker _ c.up_to.ensures
    (λ r h. group_read c.in-Some.ensures.cases.0 c.in_ok-inner-in-Sign-OpenParen.ensures (search rules) h)
    (λ e h. group_fails c.in-Some.ensures.cases.0 c.in_ok-inner-in-Sign-OpenParen.ensures (search rules) h)

-- the one operand stops
pub operation-returns-in_err-whole : goal.operation-returns-in_err-whole
operation-returns-in_err-whole t c =
    exit_by _ _ _ c.from_residual.result c.from_residual.ensures.1
    (plain_stops c.in_err-whole.ensures c.args.level)

-- it is the whole operation
pub operation-returns-then-has_none : goal.operation-returns-then-has_none
operation-returns-then-has_none t c =
    plain_read c.in_ok-whole.ensures c.args.level (c.has_none.ensures c.if-has_none.true)

-- the first operand stops
pub operation-returns-in_err-first : goal.operation-returns-in_err-first
operation-returns-in_err-first t c =
    exit_by _ _ _ c.from_residual-in_err-first.result c.from_residual-in_err-first.ensures.1
    (operation_front c.args.level c.in_err-first.ensures)

-- the first operand goes on
pub operation-returns : goal.operation-returns
operation-returns t c =
    MatchResult-weaker _ c.further.ensures
    (λ r h. operation_read c.args.level c.in_ok-first.ensures h)
    (λ e h. operation_fails c.args.level c.in_ok-first.ensures h)

-- the expression stops
pub up_to-returns-in_err-whole : goal.up_to-returns-in_err-whole
up_to-returns-in_err-whole t c =
    exit_by _ _ _ c.from_residual.result c.from_residual.ensures.1
    (front_fails (Take (Mark c.args.sign) ∷ []) c.in_err-whole.ensures)

-- the sign is missing
pub up_to-returns-in_err-at : goal.up_to-returns-in_err-at
up_to-returns-in_err-at t c =
    exit_by _ _ _ c.from_residual-in_err-at.result c.from_residual-in_err-at.ensures.1
    (then_fails c.in_ok-whole.ensures (take_fails (Mark c.args.sign) c.in_ok-whole.at.tokens.now c.in_err-at.ensures))

-- the sign stands after it
pub up_to-returns : goal.up_to-returns
up_to-returns t c =
    rw c.in_ok-at.ensures.1 (record { end = c.in_ok-at.ensures.0.token; parses = then_reads c.in_ok-whole.ensures (take_reads c.in_ok-at.ensures.0) })
