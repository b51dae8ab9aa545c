use Rattle.std.proofs.Common.{rules, refl}
use Rattle.std.proofs.lemmas.Result.{MatchResult-weaker}
use Rattle.ppm_text.specs.declared.token.Keyword.TheVariants as k
use Rattle.ppm_rows.specs.Kinds.{Word}
use Rattle.ppm_parser.specs.Parsing.{IsNameAt}
use Rattle.ppm_parser.proofs.Exits.{exit_by}
use Rattle.ppm_parser.proofs.Expressions.{not_front}
use Rattle.ppm_parser.proofs.Statements.{test_fails, choice_block_fails, choice_alone, choice_else_fails, choice_read, loop_fails, loop_read}
use Rattle.ppm_parser.proofs.Statements.{split_size_fails, split_into_missing, split_first_missing, split_comma_missing, split_second_missing, split_fails, split_read}
use Rattle.ppm_parser.proofs.Statements.{each_part_missing, each_in_missing, each_region_missing, each_fails, each_read, choice_of, choice_of_one, loop_of, split_of, each_of}
use Rattle.ppm_parser.proofs.Statements.{let_statement, let_stops, if_statement, if_stops, while_statement, while_stops}
use Rattle.ppm_parser.proofs.Statements.{call_statement, call_stops, fork_statement, fork_stops, split_statement, split_stops, named_statement, named_stops}
use Rattle.ppm_parser.proofs.Statements.{each_many, each_statement, each_stops, runs_start, runs_step, runs_fail, runs_end, block_fails, block_unclosed, block_read}
use Rattle.ppm_parser.proofs.statement.+statement.Goals as goal

-- the test stops
pub choice-returns-in_err-test : goal.choice-returns-in_err-test
choice-returns-in_err-test t c =
    exit_by _ _ _ c.from_residual.result c.from_residual.ensures.1
    (test_fails _ c.in_err-test.ensures)

-- the block stops
pub choice-returns-in_err-holds : goal.choice-returns-in_err-holds
choice-returns-in_err-holds t c =
    exit_by _ _ _ c.from_residual-in_err-holds.result c.from_residual-in_err-holds.ensures.1
    (choice_block_fails c.in_ok-test.ensures c.in_err-holds.ensures)

-- no other block
pub choice-returns-in_default : goal.choice-returns-in_default
choice-returns-in_default t c =
    choice_of_one c.in_ok-test.test c.in_ok-holds.holds c.new.result c.new.ensures.items
    (choice_alone c.in_ok-test.ensures c.in_ok-holds.ensures (not_front (Word k.Else) c.in_ok-holds.at.tokens.now _ c.in_default.ensures))

-- the other block stops
pub choice-returns-in_err-otherwise : goal.choice-returns-in_err-otherwise
choice-returns-in_err-otherwise t c =
    exit_by _ _ _ c.from_residual-in_err-otherwise.result c.from_residual-in_err-otherwise.ensures.1
    (choice_else_fails c.in_ok-test.ensures c.in_ok-holds.ensures c.in-Ok.ensures.0 (rw c.in-Ok.ensures.1 at c.in_err-otherwise.ensures))

-- two blocks
pub choice-returns : goal.choice-returns
choice-returns t c =
    choice_of c.in_ok-test.test c.in_ok-holds.holds c.in_ok-otherwise.otherwise
    (choice_read c.in_ok-test.ensures c.in_ok-holds.ensures c.in-Ok.ensures.0 (rw c.in-Ok.ensures.1 at c.in_ok-otherwise.ensures))

-- the test stops
pub repeated-returns-in_err-test : goal.repeated-returns-in_err-test
repeated-returns-in_err-test t c =
    exit_by _ _ _ c.from_residual.result c.from_residual.ensures.1
    (test_fails _ c.in_err-test.ensures)

-- the block stops
pub repeated-returns-in_err-body : goal.repeated-returns-in_err-body
repeated-returns-in_err-body t c =
    exit_by _ _ _ c.from_residual-in_err-body.result c.from_residual-in_err-body.ensures.1
    (loop_fails c.in_ok-test.ensures c.in_err-body.ensures)

-- a test and a block
pub repeated-returns : goal.repeated-returns
repeated-returns t c =
    loop_of c.in_ok-test.test c.in_ok-body.body (loop_read c.in_ok-test.ensures c.in_ok-body.ensures)

-- the size stops
pub split-returns-in_err-size : goal.split-returns-in_err-size
split-returns-in_err-size t c =
    exit_by _ _ _ c.from_residual-in_err-size.result c.from_residual-in_err-size.ensures.1
    (split_size_fails c.in_ok-region.ensures.0 c.in_ok-at.ensures.0 (rw (c.in_ok-at.ensures.1, c.in_ok-region.ensures.1) at c.in_err-size.ensures))

-- no `into`
pub split-returns-in_err-at-2 : goal.split-returns-in_err-at-2
split-returns-in_err-at-2 t c =
    exit_by _ _ _ c.from_residual-in_err-at-2.result c.from_residual-in_err-at-2.ensures.1
    (split_into_missing c.in_ok-region.ensures.0 c.in_ok-at.ensures.0 (rw (c.in_ok-at.ensures.1, c.in_ok-region.ensures.1) at c.in_ok-size.ensures)
    c.in_err-at-2.ensures)

-- no first part
pub split-returns-in_err-first : goal.split-returns-in_err-first
split-returns-in_err-first t c =
    exit_by _ _ _ c.from_residual-in_err-first.result c.from_residual-in_err-first.ensures.1
    (split_first_missing c.in_ok-region.ensures.0 c.in_ok-at.ensures.0 (rw (c.in_ok-at.ensures.1, c.in_ok-region.ensures.1) at c.in_ok-size.ensures)
    c.in_ok-at-2.ensures.0 c.in_err-first.ensures)

-- no comma
pub split-returns-in_err-at-3 : goal.split-returns-in_err-at-3
split-returns-in_err-at-3 t c =
    exit_by _ _ _ c.from_residual-in_err-at-3.result c.from_residual-in_err-at-3.ensures.1
    (split_comma_missing c.in_ok-region.ensures.0 c.in_ok-at.ensures.0 (rw (c.in_ok-at.ensures.1, c.in_ok-region.ensures.1) at c.in_ok-size.ensures)
    c.in_ok-at-2.ensures.0 c.in_ok-first.ensures.0 c.in_err-at-3.ensures)

-- no second part
pub split-returns-in_err-second : goal.split-returns-in_err-second
split-returns-in_err-second t c =
    exit_by _ _ _ c.from_residual-in_err-second.result c.from_residual-in_err-second.ensures.1
    (split_second_missing c.in_ok-region.ensures.0 c.in_ok-at.ensures.0 (rw (c.in_ok-at.ensures.1, c.in_ok-region.ensures.1) at c.in_ok-size.ensures)
    c.in_ok-at-2.ensures.0 c.in_ok-first.ensures.0 c.in_ok-at-3.ensures.0
    c.in_err-second.ensures)

-- the block stops
pub split-returns-in_err-body : goal.split-returns-in_err-body
split-returns-in_err-body t c =
    exit_by _ _ _ c.from_residual-in_err-body.result c.from_residual-in_err-body.ensures.1
    (split_fails c.in_ok-region.ensures.0 c.in_ok-at.ensures.0 (rw (c.in_ok-at.ensures.1, c.in_ok-region.ensures.1) at c.in_ok-size.ensures)
    c.in_ok-at-2.ensures.0 c.in_ok-first.ensures.0 c.in_ok-at-3.ensures.0
    c.in_ok-second.ensures.0 (rw (c.in_ok-second.ensures.1, c.in_ok-at-3.ensures.1, c.in_ok-first.ensures.1, c.in_ok-at-2.ensures.1) at c.in_err-body.ensures))

-- two parts and a block
pub split-returns : goal.split-returns
split-returns t c =
    split_of c.in_ok-region.region c.in_ok-size.size c.in_ok-first.first c.in_ok-second.second c.in_ok-body.body
    (split_read c.in_ok-region.ensures.0 c.in_ok-at.ensures.0 (rw (c.in_ok-at.ensures.1, c.in_ok-region.ensures.1) at c.in_ok-size.ensures)
    c.in_ok-at-2.ensures.0 c.in_ok-first.ensures.0 c.in_ok-at-3.ensures.0
    c.in_ok-second.ensures.0 (rw (c.in_ok-second.ensures.1, c.in_ok-at-3.ensures.1, c.in_ok-first.ensures.1, c.in_ok-at-2.ensures.1) at c.in_ok-body.ensures))

-- no part
pub each-returns-in_err-part : goal.each-returns-in_err-part
each-returns-in_err-part t c =
    exit_by _ _ _ c.from_residual-in_err-part.result c.from_residual-in_err-part.ensures.1
    (each_part_missing c.in_ok-index.ensures.0 c.in_ok-at.ensures.0 c.in_err-part.ensures)

-- no `in`
pub each-returns-in_err-at-2 : goal.each-returns-in_err-at-2
each-returns-in_err-at-2 t c =
    exit_by _ _ _ c.from_residual-in_err-at-2.result c.from_residual-in_err-at-2.ensures.1
    (each_in_missing c.in_ok-index.ensures.0 c.in_ok-at.ensures.0 c.in_ok-part.ensures.0 c.in_err-at-2.ensures)

-- no region
pub each-returns-in_err-region : goal.each-returns-in_err-region
each-returns-in_err-region t c =
    exit_by _ _ _ c.from_residual-in_err-region.result c.from_residual-in_err-region.ensures.1
    (each_region_missing c.in_ok-index.ensures.0 c.in_ok-at.ensures.0 c.in_ok-part.ensures.0 c.in_ok-at-2.ensures.0 c.in_err-region.ensures)

-- the block stops
pub each-returns-in_err-body : goal.each-returns-in_err-body
each-returns-in_err-body t c =
    exit_by _ _ _ c.from_residual-in_err-body.result c.from_residual-in_err-body.ensures.1
    (each_fails c.in_ok-index.ensures.0 c.in_ok-at.ensures.0 c.in_ok-part.ensures.0 c.in_ok-at-2.ensures.0 c.in_ok-region.ensures.0
    (rw (c.in_ok-region.ensures.1, c.in_ok-at-2.ensures.1, c.in_ok-part.ensures.1, c.in_ok-at.ensures.1, c.in_ok-index.ensures.1) at c.in_err-body.ensures))

-- a region and a block
pub each-returns : goal.each-returns
each-returns t c =
    each_of c.in_ok-index.index c.in_ok-part.part c.in_ok-region.region c.in_ok-body.body
    (each_read c.in_ok-index.ensures.0 c.in_ok-at.ensures.0 c.in_ok-part.ensures.0 c.in_ok-at-2.ensures.0 c.in_ok-region.ensures.0
    (rw (c.in_ok-region.ensures.1, c.in_ok-at-2.ensures.1, c.in_ok-part.ensures.1, c.in_ok-at.ensures.1, c.in_ok-index.ensures.1) at c.in_ok-body.ensures))

-- a statement that begins with a name
pub statement-returns-in_ok-name-in-Name : goal.statement-returns-in_ok-name-in-Name
statement-returns-in_ok-name-in-Name t c =
    let is : IsNameAt c.in-Some.token.now (record { name = c.in_ok-name-in-Name.name; line = c.in-Some.token.now.line }) c.in-Some.token.now.place =
    record { is = rw c.in_ok-name-in-Name.ensures c.in-Name.is; line = refl; at = refl } in
    MatchResult-weaker _ c.after_name.ensures (λ r h. named_statement c.in-Some.ensures.cases.0 c.in_statement-room.ensures is h)
    (λ e h. named_stops c.in-Some.ensures.cases.0 c.in_statement-room.ensures is h)

-- the keyword `let`
pub statement-returns-in-Keyword-Let : goal.statement-returns-in-Keyword-Let
statement-returns-in-Keyword-Let t c =
    MatchResult-weaker _ c.local.ensures (λ r h. let_statement c.in-Some.ensures.cases.0 c.in_statement-room.ensures (search rules) h)
    (λ e h. let_stops c.in-Some.ensures.cases.0 c.in_statement-room.ensures (search rules) h)

-- the keyword `if`
pub statement-returns-in-Keyword-If : goal.statement-returns-in-Keyword-If
statement-returns-in-Keyword-If t c =
    MatchResult-weaker _ c.choice.ensures (λ r h. if_statement c.in-Some.ensures.cases.0 c.in_statement-room.ensures (search rules) h)
    (λ e h. if_stops c.in-Some.ensures.cases.0 c.in_statement-room.ensures (search rules) h)

-- the keyword `while`
pub statement-returns-in-Keyword-While : goal.statement-returns-in-Keyword-While
statement-returns-in-Keyword-While t c =
    MatchResult-weaker _ c.repeated.ensures (λ r h. while_statement c.in-Some.ensures.cases.0 c.in_statement-room.ensures (search rules) h)
    (λ e h. while_stops c.in-Some.ensures.cases.0 c.in_statement-room.ensures (search rules) h)

-- the keyword `call`
pub statement-returns-in-Keyword-Call : goal.statement-returns-in-Keyword-Call
statement-returns-in-Keyword-Call t c =
    MatchResult-weaker _ c.called.ensures (λ r h. call_statement c.in-Some.ensures.cases.0 c.in_statement-room.ensures (search rules) h)
    (λ e h. call_stops c.in-Some.ensures.cases.0 c.in_statement-room.ensures (search rules) h)

-- the keyword `fork`
pub statement-returns-in-Keyword-Fork : goal.statement-returns-in-Keyword-Fork
statement-returns-in-Keyword-Fork t c =
    MatchResult-weaker _ c.fork.ensures (λ r h. fork_statement c.in-Some.ensures.cases.0 c.in_statement-room.ensures (search rules) h)
    (λ e h. fork_stops c.in-Some.ensures.cases.0 c.in_statement-room.ensures (search rules) h)

-- the keyword `split`
pub statement-returns-in-Keyword-Split : goal.statement-returns-in-Keyword-Split
statement-returns-in-Keyword-Split t c =
    MatchResult-weaker _ c.split.ensures (λ r h. split_statement c.in-Some.ensures.cases.0 c.in_statement-room.ensures (search rules) h)
    (λ e h. split_stops c.in-Some.ensures.cases.0 c.in_statement-room.ensures (search rules) h)

-- one procedure too many
pub statement-returns-in_err-room-in-Keyword-Each : goal.statement-returns-in_err-room-in-Keyword-Each
statement-returns-in_err-room-in-Keyword-Each t c =
    exit_by _ _ _ c.from_residual-in_err-room-in-Keyword-Each.result c.from_residual-in_err-room-in-Keyword-Each.ensures.1
    (each_many c.in-Some.ensures.cases.0 (search rules) c.in_statement-room.ensures c.in_err-room-in-Keyword-Each.ensures.0
    c.in_err-room-in-Keyword-Each.ensures.1)

-- the keyword `each`
pub statement-returns-in_ok-room-in-Keyword-Each : goal.statement-returns-in_ok-room-in-Keyword-Each
statement-returns-in_ok-room-in-Keyword-Each t c =
    MatchResult-weaker _ c.each.ensures
    (λ r h. each_statement c.in-Some.ensures.cases.0 (search rules) c.in_statement-room.ensures c.in_ok-room-in-Keyword-Each.ensures h)
    (λ e h. each_stops c.in-Some.ensures.cases.0 (search rules) c.in_statement-room.ensures c.in_ok-room-in-Keyword-Each.ensures h)

-- none was read
pub statements-further-init : goal.statements-further-init
statements-further-init t c =
    rw c.in_ok-all.ensures.items (runs_start c.args.depth c.args.at.room c.args.at.tokens.now)

-- a further one stops
pub statements-returns-in_err-next : goal.statements-returns-in_err-next
statements-returns-in_err-next t c =
    exit_by _ _ _ c.from_residual-in_err-next.result c.from_residual-in_err-next.ensures.1
    (runs_fail c.further.invariant (search rules) c.in_err-next.ensures)

-- after it stand fewer tokens
pub statements-further-smaller : goal.statements-further-smaller
statements-further-smaller t c =
    c.in_ok-next.ensures.smaller

-- a further one was read
pub statements-further-preserved : goal.statements-further-preserved
statements-further-preserved t c =
    rw c.in_ok-push.ensures.items (runs_step c.further.invariant (search rules) c.in_ok-next.next c.in_ok-next.ensures)

-- none follows
pub statements-returns : goal.statements-returns
statements-returns t c =
    runs_end c.further.invariant (search rules)

-- the statements stop
pub block-returns-in_err-all : goal.block-returns-in_err-all
block-returns-in_err-all t c =
    exit_by _ _ _ c.from_residual-in_err-all.result c.from_residual-in_err-all.ensures.1
    (block_fails c.in_ok-place.ensures.0 c.in_ok-inner.ensures (rw c.in_ok-place.ensures.1 at c.in_err-all.ensures))

-- the brace is missing
pub block-returns-in_err-at : goal.block-returns-in_err-at
block-returns-in_err-at t c =
    exit_by _ _ _ c.from_residual-in_err-at.result c.from_residual-in_err-at.ensures.1
    (block_unclosed c.in_ok-place.ensures.0 c.in_ok-inner.ensures (rw c.in_ok-place.ensures.1 at c.in_ok-all.ensures) c.in_err-at.ensures)

-- statements in braces
pub block-returns : goal.block-returns
block-returns t c =
    rw c.in_ok-at.ensures.1 (block_read c.in_ok-place.ensures.0 c.in_ok-inner.ensures (rw c.in_ok-place.ensures.1 at c.in_ok-all.ensures) c.in_ok-at.ensures.0)
