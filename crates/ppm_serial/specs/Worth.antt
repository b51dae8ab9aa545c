-- What expressions over slots are worth.
use Rattle.std.specs.Prelude.{ℕ, ℤ, pos, Option, Some, None, Result, Ok, Err, get_or, option_and_then}
use Rattle.std.specs.Result.{result_ok}
use Rattle.ppm_words.specs.declared.trap.Trap.{Trap}
use Rattle.ppm_tree.specs.declared.operator.Operator.{Operator}
use Rattle.ppm_tree.specs.Values.{applied, decided, negated}
use Rattle.ppm_tree.specs.State.{TrapAt, Region, then_with, nowhere, index_in, word_at, Arrays}
use Rattle.ppm_serial.specs.declared.code.Stop.{Stop}
use Rattle.ppm_serial.specs.declared.code.Stop.TheVariants as stop
use Rattle.ppm_serial.specs.declared.code.Value.{Value}
use Rattle.ppm_serial.specs.declared.code.Value.TheVariants as value
use Rattle.ppm_serial.specs.Slots.{Slots}

-- a result whose trap stops the run
abbrev pub stopped : {A : Type 0} → Result A TrapAt → Result A Stop
stopped (Ok x) = Ok x
stopped (Err t) = Err (stop.Trapped t.0 t.1)

-- a result whose trap, in a line, stops the run
abbrev pub at_line : ℕ → Result ℤ Trap → Result ℤ Stop
at_line line (Ok x) = Ok x
at_line line (Err t) = Err (stop.Trapped t line)

-- goes on with the right operand where the left one has not decided
abbrev pub unless : Option ℤ → Result ℤ Stop → Result ℤ Stop
unless (Some v) right = Ok v
unless None right = right

-- what an operator is worth, by what its operands are worth
abbrev pub operated : Operator → ℕ → Result ℤ Stop → Result ℤ Stop → Result ℤ Stop
operated o line l r = then_with l (λ x. unless (decided o x) (then_with r (λ y. at_line line (applied o x y))))

-- what an expression over slots is worth
abbrev pub worth : Slots → Arrays → Value → Result ℤ Stop
worth s a (value.Number z) = Ok z
worth s a (value.Local k) = Ok (get_or s.locals k (pos 0))
worth s a (value.Element' k line p index) =
    then_with (worth s a index) (λ i. then_with (stopped (index_in line (get_or s.regions k nowhere) i)) (λ j. Ok (word_at a (get_or s.regions k nowhere) j)))
worth s a (value.Len k) = Ok (pos (get_or s.regions k nowhere).length)
worth s a (value.Minus' line p e) = then_with (worth s a e) (λ x. at_line line (negated x))
worth s a (value.Binary' o line p left q right) =
    then_with (worth s a left) (λ x. unless (decided o x) (then_with (worth s a right) (λ y. at_line line (applied o x y))))
worth s a (value.AtLocals o line j k) = at_line line (applied o (get_or s.locals j (pos 0)) (get_or s.locals k (pos 0)))
worth s a (value.AtNumber o line k z) = at_line line (applied o (get_or s.locals k (pos 0)) z)

-- the first of two values that is there
abbrev pub or_else : Option ℤ → Option ℤ → Option ℤ
or_else (Some v) other = Some v
or_else None other = other

-- the word of a region at an index, if there is one
abbrev pub word_if : Arrays → Region → Result ℕ Stop → Option ℤ
word_if a r (Ok j) = Some (word_at a r j)
word_if a r (Err e) = None

-- what an expression over slots is worth, none where it traps
abbrev pub untrapped : Slots → Arrays → Value → Option ℤ
untrapped s a (value.Number z) = Some z
untrapped s a (value.Local k) = Some (get_or s.locals k (pos 0))
untrapped s a (value.Element' k line p index) =
    option_and_then (λ i. word_if a (get_or s.regions k nowhere) (stopped (index_in line (get_or s.regions k nowhere) i))) (untrapped s a index)
untrapped s a (value.Len k) = Some (pos (get_or s.regions k nowhere).length)
untrapped s a (value.Minus' line p e) = option_and_then (λ x. result_ok (negated x)) (untrapped s a e)
untrapped s a (value.Binary' o line p left q right) =
    option_and_then (λ x. or_else (decided o x) (option_and_then (λ y. result_ok (applied o x y)) (untrapped s a right))) (untrapped s a left)
untrapped s a (value.AtLocals o line j k) = result_ok (applied o (get_or s.locals j (pos 0)) (get_or s.locals k (pos 0)))
untrapped s a (value.AtNumber o line k z) = result_ok (applied o (get_or s.locals k (pos 0)) z)
