use Rattle.std.proofs.Common.{rules, arith, inr}
use Rattle.ppm_text.proofs.ScanLemmas.{front_keyword, front_is_name, front_short_name, front_long_name}
use Rattle.ppm_text.proofs.scan.identifier_piece.Goals as goal

-- the identifier in front stands in the table
pub returns-in-Some : goal.returns-in-Some
returns-in-Some c =
    let len = c.name_len-len.ensures.len in
    (front_keyword c.args.bytes.now c.name_len-len.result c.in-Some.found c.requires len (search rules), tt)

-- it stands not there, and is too long for a name
pub returns-then-len-gt-NAME_LIMIT : goal.returns-then-len-gt-NAME_LIMIT
returns-then-len-gt-NAME_LIMIT c =
    let len = c.name_len-len.ensures.len in
    inr (front_long_name c.args.place c.args.bytes.now c.name_len-len.result c.requires len (search rules) (omega arith))

-- it has the form of a name
pub name-requires : goal.name-requires
name-requires c = front_is_name c.args.bytes.now c.name_len-len.result c.requires c.name_len-len.ensures.len (omega arith)

-- it is a name within the limit
pub returns : goal.returns
returns c =
    let len = c.name_len-len.ensures.len in
    let name = c.in_ok-name.field-0 in
    front_short_name c.args.bytes.now c.name_len-len.result name c.requires len (search rules) (omega arith) c.in_ok-name.ensures
