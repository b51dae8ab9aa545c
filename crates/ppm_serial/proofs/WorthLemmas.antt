-- What an expression is worth without its trap.
use Rattle.std.proofs.Common.{◌≡◌, ◌∙◌, ap, refl, sym, ℕ, ℤ, pos, Option, Some, None, Result, Ok, Err, get_or}
use Rattle.std.specs.Prelude.{option_and_then}
use Rattle.std.specs.Result.{result_ok}
use Rattle.ppm_words.specs.declared.trap.Trap.{Trap}
use Rattle.ppm_tree.specs.declared.operator.Operator.{Operator}
use Rattle.ppm_tree.specs.Values.{applied, decided, negated}
use Rattle.ppm_tree.specs.State.{Region, then_with, nowhere, index_in, word_at, Arrays}
use Rattle.ppm_serial.specs.declared.code.Stop.{Stop}
use Rattle.ppm_serial.specs.declared.code.Value.{Value}
use Rattle.ppm_serial.specs.declared.code.Value.TheVariants as value
use Rattle.ppm_serial.specs.Slots.{Slots}
use Rattle.ppm_serial.specs.Worth.{at_line, stopped, unless, worth, or_else, word_if, untrapped}

-- a trap's line is no part of a value
line_dropped : (line : ℕ) (r : Result ℤ Trap) → result_ok r ≡ result_ok (at_line line r)
line_dropped line (Ok x) = refl
line_dropped line (Err t) = refl

-- a word of a region
word_found : (a : Arrays) (g : Region) (r : Result ℕ Stop) → word_if a g r ≡ result_ok (then_with r (λ j. Ok (word_at a g j)))
word_found a g (Ok j) = refl
word_found a g (Err e) = refl

-- an element
element_found : (a : Arrays) (g : Region) (line : ℕ) (r : Result ℤ Stop) → option_and_then (λ i. word_if a g (stopped (index_in line g i))) (result_ok r)
    ≡ result_ok (then_with r (λ i. then_with (stopped (index_in line g i)) (λ j. Ok (word_at a g j))))
element_found a g line (Ok i) = word_found a g (stopped (index_in line g i))
element_found a g line (Err e) = refl

-- a value with the other sign
minus_found : (line : ℕ) (r : Result ℤ Stop) → option_and_then (λ x. result_ok (negated x)) (result_ok r) ≡ result_ok (then_with r (λ x. at_line line (negated x)))
minus_found line (Ok x) = line_dropped line (negated x)
minus_found line (Err e) = refl

-- an operator whose left operand has been found
right_found : (o : Operator) (line : ℕ) (x : ℤ) (d : Option ℤ) (r : Result ℤ Stop) → or_else d (option_and_then (λ y. result_ok (applied o x y)) (result_ok r))
    ≡ result_ok (unless d (then_with r (λ y. at_line line (applied o x y))))
right_found o line x (Some v) r = refl
right_found o line x None (Ok y) = line_dropped line (applied o x y)
right_found o line x None (Err e) = refl

-- an operator
binary_found : (o : Operator) (line : ℕ) (l r : Result ℤ Stop) → option_and_then (λ x. or_else (decided o x) (option_and_then (λ y. result_ok (applied o x y)) (result_ok r))) (result_ok l)
    ≡ result_ok (then_with l (λ x. unless (decided o x) (then_with r (λ y. at_line line (applied o x y)))))
binary_found o line (Ok x) r = right_found o line x (decided o x) r
binary_found o line (Err e) r = refl

-- the value alone is what an expression is worth, where it does not trap
value_alone : (s : Slots) (a : Arrays) (v : Value) → untrapped s a v ≡ result_ok (worth s a v)
value_alone s a (value.Number z) = refl
value_alone s a (value.Local k) = refl
value_alone s a (value.Element' k line p index) =
    ap (λ (o : Option ℤ). option_and_then (λ i. word_if a (get_or s.regions k nowhere) (stopped (index_in line (get_or s.regions k nowhere) i))) o) (value_alone s a index)
    ∙ element_found a (get_or s.regions k nowhere) line (worth s a index)
value_alone s a (value.Len k) = refl
value_alone s a (value.Minus' line p e) =
    ap (λ (o : Option ℤ). option_and_then (λ x. result_ok (negated x)) o) (value_alone s a e) ∙ minus_found line (worth s a e)
value_alone s a (value.Binary' o line p left q right) =
    ap (λ (d : Option ℤ). option_and_then (λ x. or_else (decided o x) (option_and_then (λ y. result_ok (applied o x y)) d)) (untrapped s a left)) (value_alone s a right)
    ∙ ap (λ (d : Option ℤ). option_and_then (λ x. or_else (decided o x) (option_and_then (λ y. result_ok (applied o x y)) (result_ok (worth s a right)))) d) (value_alone s a left)
    ∙ binary_found o line (worth s a left) (worth s a right)
value_alone s a (value.AtLocals o line j k) = line_dropped line (applied o (get_or s.locals j (pos 0)) (get_or s.locals k (pos 0)))
value_alone s a (value.AtNumber o line k z) = line_dropped line (applied o (get_or s.locals k (pos 0)) z)

-- a result with this value
ok_is : (x : ℤ) (r : Result ℤ Stop) → result_ok r ≡ Some x → r ≡ Ok x
ok_is x (Ok y) e = cc
ok_is x (Err t) e = cc

-- an expression without a trap is worth its value
pub worth_is : (s : Slots) (a : Arrays) (v : Value) (x : ℤ) → untrapped s a v ≡ Some x → worth s a v ≡ Ok x
worth_is s a v x e = ok_is x (worth s a v) (sym (value_alone s a v) ∙ e)
