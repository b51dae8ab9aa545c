-- A capsule that reads a word, writes it and is stopped once.
use Rattle.std.proofs.Common.{◌≡◌, ℕ, ◌+◌, [], ◌∷◌, refl, sym, ap, ◌∙◌, arith}
use Rattle.ppm_strands.specs.Capsule.{Equality, Memory, Whole, store}
use Rattle.ppm_strands.specs.Stopped.{CountsTwice, AConflictMayShow}
use Rattle.ppm_strands.proofs.LocationLemmas.{store_at}

module _ {L : Type 0} (eq : Equality L) where
  -- it finds what it had stored
  counts_twice : (l : L) (m : Memory L) → CountsTwice eq l m
  counts_twice l m =
      let found = store_at eq m l (m l + 1) in
      record {
        end = refl;
        word = found;
        end_after_stop = found;
        word_after_stop = store_at eq (store eq m l (m l + 1)) l _ ∙ ap (λ (v : ℕ). v + 1) found;
      }

  one_more : (n : ℕ) → n + 1 ≡ n → ⊥
  one_more n h = omega (arith, h)

  pub a_conflict_may_show : AConflictMayShow eq
  a_conflict_may_show l m =
      let twice = counts_twice l m in
      (twice, λ same. one_more (m l) (sym twice.end_after_stop ∙ ap (λ (r : Whole L ℕ). r.end) (same (2 ∷ [])) ∙ twice.end))
