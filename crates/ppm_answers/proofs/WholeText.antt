-- What was read of a text within the limit is all of it, and of a longer text a front past the limit.
use Rattle.std.proofs.Common.{◌≡◌, ℕ, ◌≤◌, ◌<◌, Bool, true, false, nat_le, List, ◌++◌, length, Option, Some, None}
use Rattle.std.proofs.Common.{refl, sym, ap, ◌∙◌, subst, arith, append-nil, length-append}
use Rattle.std.proofs.lemmas.Bool.{leb-true, leb-false}
use Rattle.std.specs.Io.KnownBytes.{Consumes}
use Rattle.ppm_ports.specs.Whole.{ReadsTo}
use Rattle.ppm_answers.specs.declared.answer.Answer.{Answer}
use Rattle.ppm_answers.specs.Reading.{FrontsDecide}

-- what is read of a text within the limit is all of it
pub whole_read : (limit : ℕ) (all : List ℕ) (now : Option (List ℕ)) (text : List ℕ) → ReadsTo limit (Some all) now text →
    length text ≤ limit → all ≡ text
whole_read limit all None text r h = absurd r.front
whole_read limit all (Some rest) text r h = r.front ∙ ap (λ l. text ++ l) (r.end h) ∙ append-nil text

-- what is read is no longer than all that there is
pub front_short : (all : List ℕ) (now : Option (List ℕ)) (text : List ℕ) → Consumes (Some all) now text → length text ≤ length all
front_short all None text h = absurd h
front_short all (Some rest) text h = let e : length all ≡ length (text ++ rest) = ap length h in omega (arith, length-append text rest)

-- what is read of a text past the limit is past it, and the text is
pub long_all : (limit : ℕ) (all : List ℕ) (now : Option (List ℕ)) (text : List ℕ) → Consumes (Some all) now text → limit < length text →
    limit < length all
long_all limit all now text r h = let less : length text ≤ length all = front_short all now text r in omega (arith, h, less)

-- where what stands after the limit changes no answer, what a text that was read has for an answer, the whole text has
pub whole : (limit : ℕ) (Has : List ℕ → Answer → Type 0) → FrontsDecide limit Has → (all : List ℕ) (now : Option (List ℕ)) (text : List ℕ)
    (a : Answer) → ReadsTo limit (Some all) now text → Has text a → Has all a
whole limit Has front all None text a r h = absurd r.front
whole limit Has front all (Some rest) text a r h = by (nat_le (length text) limit) refl
  where
    by : (b : Bool) → nat_le (length text) limit ≡ b → Has all a
    by true e = subst (λ l. Has l a) (sym (whole_read limit all (Some rest) text r (leb-true (length text) limit e))) h
    by false e = subst (λ l. Has l a) (sym r.front) (front text rest a (omega (arith, leb-false (length text) limit e)) h)
