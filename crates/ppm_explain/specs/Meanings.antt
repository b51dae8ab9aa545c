-- What each refusal of a source means, in a line of words, by its pass and its number.
use Rattle.std.specs.Prelude.{ℕ, ◌==◌, if◌then◌else◌, List, [], ◌++◌, codes}
use Rattle.ppm_answers.specs.declared.refusal.Pass.{Pass}
use Rattle.ppm_answers.specs.declared.refusal.Pass.TheVariants as pass
use Rattle.ppm_answers.specs.declared.refusal.Refusal.{Refusal}

-- faults of bytes
abbrev pub text_meaning : ℕ → List ℕ
text_meaning n =
    if n == 1 then codes "the text is of ASCII alone, in comments too"
    else if n == 2 then codes "no token begins with this byte; a comment begins with `#`"
    else if n == 3 then codes "a number is 9223372036854775807 at most"
    else if n == 4 then codes "a name has 32 bytes at most"
    else if n == 5 then codes "a text has 1048576 bytes at most"
    else []

-- faults of tokens
abbrev pub syntax_meaning : ℕ → List ℕ
syntax_meaning n =
    if n == 1 then codes "no text of the grammar has this here"
    else if n == 2 then codes "the text ends too early: a block, a list or a statement is not closed"
    else if n == 3 then codes "with this more than 32 openings are open: `(`, `[`, `{` and a `-` in front of an operand"
    else if n == 4 then codes "with this a limit is passed: 64 arrays, 4194304 words of all arrays, 1024 procedures and blocks of `each`, 12 parameters or arguments, 48 operands and operators in the expressions of a statement"
    else []

-- faults of names and regions
abbrev pub region_meaning : ℕ → List ℕ
region_meaning n =
    if n == 1 then codes "a name of this line is not in force here: it is no parameter of the procedure, and no `let`, part or index of a block that is open here; an array is seen only as a parameter. Or it is called, and no procedure has it"
    else if n == 2 then codes "a name is declared in this line that is in force already, hidden or not; or a second array, procedure or input has it"
    else if n == 3 then codes "a region (an array, a `mut`, a `ref` or a part) stands where a number is asked for, or a number where the name of a region is"
    else if n == 4 then codes "the procedure that is called in this line has more or fewer parameters than the call has arguments"
    else if n == 5 then codes "a region that is `ref` is written in this line, or lent to a `mut` parameter"
    else if n == 6 then codes "a region of this line is lent twice in one call or fork, both sides counted, and not to `ref` parameters alone; `split` makes two regions of one"
    else if n == 7 then codes "a region of this line is in parts here: in the block of its `split` or `each` only the parts may be used"
    else if n == 8 then codes "the program needs one `proc main`; each parameter of it is `mut` or `ref` with the name of an array, and it ends without `give`"
    else if n == 9 then codes "the input of this line is for no array, or has more values than its array has words"
    else if n == 10 then codes "a value is taken of a procedure that gives none: its body ends without `give`"
    else if n == 11 then codes "both sides of a fork give their value to one name"
    else if n == 12 then codes "in the block of an `each` a region of outside is written in this line, or lent to a `mut` parameter; there only the element may be"
    else if n == 13 then codes "in the block of an `each` its index, or a number of outside, is assigned in this line"
    else []

-- bounds of the compiler
abbrev pub cut_meaning : ℕ → List ℕ
cut_meaning n =
    if n == 1 then codes "the procedure, or the block of an `each` in it, has more than 24 slots: one for each name in force at one place, parameters among them, and two more where it assigns to an element"
    else if n == 2 then codes "the program has more than 65535 capsules: four for each statement and two for each procedure; a `give` is a statement, an `each` is five and a procedure"
    else if n == 3 then codes "the block of an `each` in the procedure names more than 10 names of outside"
    else []

-- each refusal of a source
abbrev pub meaning_by : Pass → ℕ → List ℕ
meaning_by pass.Text n = text_meaning n
meaning_by pass.Syntax n = syntax_meaning n
meaning_by pass.Region n = region_meaning n
meaning_by pass.Cut n = cut_meaning n
meaning_by pass.Ram n = []

-- a line of words
abbrev pub note_text : List ℕ → List ℕ
note_text words = codes "note: " ++ words ++ codes "\n"

-- the line of a refusal
abbrev pub meaning_text : Refusal → List ℕ
meaning_text r = note_text (meaning_by r.pass r.number)
