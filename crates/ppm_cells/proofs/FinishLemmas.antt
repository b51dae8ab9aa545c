-- Finish words come back from their words.
use Rattle.std.proofs.Common.{◌≡◌, ℕ, ◌+◌, ◌-◌, ◌^◌, ◌<◌, ◌≤◌, Bool, true, false, cond, eqb, leb, [], ◌∷◌, Option, Some, None, IfSome, refl, ◌∙◌, arith, lit<}
use Rattle.std.specs.Option.{option_map}
use Rattle.std.proofs.lemmas.Bool.{eqb-false, ne_eqb, leb-false, lt-leb}
use Rattle.ppm_words.specs.declared.trap.Trap.{Trap}
use Rattle.ppm_words.specs.declared.trap.Trap.TheVariants.{Overflow, DivZero, Index, Split}
use Rattle.ppm_cells.specs.Fields.{Bits, number_of, bits}
use Rattle.ppm_cells.specs.Exact.{IsExact}
use Rattle.ppm_cells.specs.Finish.{trap_number, fields_with, finish_word, IsFinish, trap_with, at_line, finish_with, finish_read, finish_of}
use Rattle.ppm_cells.specs.declared.finish.Finish.{Finish}
use Rattle.ppm_cells.specs.declared.finish.Finish.TheVariants.{Unset, Ended, Trapped, OutOfTurns, OutOfRoom, Stopped, Broken}
use Rattle.ppm_cells.proofs.FieldsLemmas.{bits-number_of, bits-bound}
use Rattle.ppm_cells.proofs.ExactLemmas.{exact, either}

-- the three fields of a word are read again
fields_again : (tag trap number : ℕ) → tag < 2 ^ 3 → trap < 2 ^ 3 → number < 2 ^ 26
    → finish_read (number_of (fields_with tag trap number)) ≡ finish_with tag trap number
fields_again tag trap number p q r =
    let low = bits-number_of [] 3 tag (Bits 3 trap ∷ Bits 26 number ∷ Bits 32 0 ∷ []) tt p in
    let middle = bits-number_of (Bits 3 tag ∷ []) 3 trap (Bits 26 number ∷ Bits 32 0 ∷ []) (p, tt) q in
    let high = bits-number_of (Bits 3 tag ∷ Bits 3 trap ∷ []) 26 number (Bits 32 0 ∷ []) (p, (q, tt)) r in
    λ i. finish_with (low i) (middle i) (high i)

trap_number-bound : (trap : Trap) → trap_number trap < 2 ^ 3
trap_number-bound Overflow = lit< tt
trap_number-bound DivZero = lit< tt
trap_number-bound Index = lit< tt
trap_number-bound Split = lit< tt

trap_with-trap_number : (trap : Trap) → trap_with (trap_number trap) ≡ Some trap
trap_with-trap_number Overflow = refl
trap_with-trap_number DivZero = refl
trap_with-trap_number Index = refl
trap_with-trap_number Split = refl

-- the word of a finish is read as that finish
again : (finish : Finish) → IsFinish finish → finish_read (finish_word finish) ≡ Some finish
again Unset fit = fields_again 0 0 0 (lit< tt) (lit< tt) (lit< tt)
again Ended fit = fields_again 1 0 0 (lit< tt) (lit< tt) (lit< tt)
again (Trapped trap line) fit =
    let real : eqb line 0 ≡ false = ne_eqb line 0 (λ e. omega (arith, fit.0, e)) in
    fields_again 2 (trap_number trap) line (lit< tt) (trap_number-bound trap) fit.1
    ∙ (rw (real, trap_with-trap_number trap) refl)
again (OutOfTurns processor) fit =
    let small : leb 64 processor ≡ false = lt-leb 64 processor fit in
    fields_again 3 0 processor (lit< tt) (lit< tt) (omega (arith, fit)) ∙ (rw small refl)
again (OutOfRoom place) fit =
    let small : leb 64 place ≡ false = lt-leb 64 place fit in
    fields_again 4 0 place (lit< tt) (lit< tt) (omega (arith, fit)) ∙ (rw small refl)
again Stopped fit = fields_again 6 0 0 (lit< tt) (lit< tt) (lit< tt)
again (Broken place) fit =
    let small : leb 66 (place + 1) ≡ false = lt-leb 66 (place + 1) (omega (arith, fit)) in
    let less : (place + 1) - 1 ≡ place = omega arith in
    fields_again 7 0 (place + 1) (lit< tt) (lit< tt) (omega (arith, fit)) ∙ (rw (small, less) refl)

-- a trap in a line from 1 on
trapped : (number : ℕ) (o : Option Trap) → 1 ≤ number → number < 2 ^ 26 → IfSome (option_map (at_line number) o) IsFinish
trapped number None p q = tt
trapped number (Some trap) p q = (p, q)

-- a test that refuses
refuses : (t : Bool) (o : Option Finish) → (t ≡ false → IfSome o IsFinish) → IfSome (cond t None o) IsFinish
refuses true o h = tt
refuses false o h = h refl

-- what is read is in its ranges
in_range : (tag trap number : ℕ) → number < 2 ^ 26 → IfSome (finish_with tag trap number) IsFinish
in_range tag trap number small =
    either IsFinish (eqb tag 0) _ _ tt
    (either IsFinish (eqb tag 1) _ _ tt
    (either IsFinish (eqb tag 2) _ _
    (refuses (eqb number 0) _ (λ e. trapped number (trap_with trap) (omega (arith, eqb-false number 0 e)) small))
    (either IsFinish (eqb tag 3) _ _ (refuses (leb 64 number) (Some (OutOfTurns number)) (λ e. leb-false 64 number e))
    (either IsFinish (eqb tag 4) _ _ (refuses (leb 64 number) (Some (OutOfRoom number)) (λ e. leb-false 64 number e))
    (either IsFinish (eqb tag 6) _ _ tt
    (either IsFinish (eqb tag 7) _ _
    (refuses (leb 66 number) (Some (Broken (number - 1))) (λ e. omega (arith, leb-false 66 number e))) tt))))))

fits : (word : ℕ) → IfSome (finish_read word) IsFinish
fits word = in_range (bits 0 3 word) (bits 3 3 word) (bits 6 26 word) (bits-bound 6 26 word)

pub finishes_exact : IsExact finish_word IsFinish finish_of
finishes_exact word finish = exact finish_word finish_read IsFinish fits again word finish
