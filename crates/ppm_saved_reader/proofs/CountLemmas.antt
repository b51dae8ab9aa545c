-- How many words the lines of a text have, line by line.
use Rattle.std.proofs.Common.{◌≡◌, ◌∙◌, ◌⊎◌, inl, inr, ℕ, ◌+◌, ◌-◌, ◌<◌, ◌≤◌, Bool, true, false, ◌&&◌, ◌||◌, nat_lt, List, [], ◌∷◌, length, replicate, Option, Some, None, refl, sym, ap, arith}
use Rattle.std.proofs.lemmas.Bool.{both_ways, ltb-true, ltb-false, lt-ltb, le-ltb, cases_lt}
use Rattle.std.proofs.lemmas.List.{length-replicate}
use Rattle.std.proofs.Common.{length-append}
use Rattle.ppm_pieces.specs.Pieces.{split}
use Rattle.ppm_saved.specs.Runs.{words_of}
use Rattle.ppm_saved.specs.declared.run.Run.{Run}
use Rattle.ppm_saved_reader.specs.Lines.{run_in}
use Rattle.ppm_saved_reader.specs.Rules.{runs_in, run_or_none, is_run, are_runs, word_sum, is_other_count}
use Rattle.ppm_saved_reader.proofs.LineLemmas.{some_piece}

no_cons : {x : List ℕ} {xs : List (List ℕ)} → [] ≡ x ∷ xs → ⊥
no_cons e = omega (arith, ap (λ (l : List (List ℕ)). length l) e)

-- what the lines of a text say, by the first of them
runs_line : (l : List ℕ) (ps : List (List ℕ)) → ((q : List ℕ) × (qs : List (List ℕ)) × (ps ≡ q ∷ qs))
    → (runs_in (l ∷ ps) ≡ run_or_none (run_in l) (runs_in ps)) × (are_runs (l ∷ ps) ≡ (is_run (run_in l) && are_runs ps))
runs_line l [] k = absurd (no_cons k.2)
runs_line l (p ∷ ps) k = (refl, refl)

-- whether so many words are others than lines have, all of which are runs or not
abbrev decide : ℕ → List (Option ℕ × ℕ) → Bool → Bool
decide c rs all = nat_lt c (word_sum rs) || (all && nat_lt (word_sum rs) c)

by_line : (c : ℕ) (t l r : List ℕ) → split 10 t ≡ l ∷ split 10 r
    → is_other_count c t ≡ decide c (run_or_none (run_in l) (runs_in (split 10 r))) (is_run (run_in l) && are_runs (split 10 r))
by_line c t l r e =
    let k = runs_line l (split 10 r) (some_piece 10 r) in
    ap (λ (ps : List (List ℕ)). decide c (runs_in ps) (are_runs ps)) e ∙ (λ i. decide c (k.0 i) (k.1 i))

same_lt : (a b c d : ℕ) → (a < b → c < d) → (c < d → a < b) → nat_lt a b ≡ nat_lt c d
same_lt a b c d f g = by (nat_lt a b) refl (nat_lt c d) refl
  where
    by : (x : Bool) → nat_lt a b ≡ x → (y : Bool) → nat_lt c d ≡ y → x ≡ y
    by true e true k = refl
    by false e false k = refl
    by true e false k = absurd (omega (arith, f (ltb-true a b e), ltb-false c d k))
    by false e true k = absurd (omega (arith, g (ltb-true c d k), ltb-false a b e))

-- after a run the others are to have the rest
pub count_line : (c : ℕ) (t l r : List ℕ) (w : Option ℕ) (n : ℕ) → split 10 t ≡ l ∷ split 10 r → run_in l ≡ Some (w, n) → n ≤ c
    → is_other_count c t ≡ is_other_count (c - n) r
count_line c t l r w n e f h =
    let rest = word_sum (runs_in (split 10 r)) in
    let more = same_lt c (n + rest) (c - n) rest (λ k. omega (arith, k, h)) (λ k. omega (arith, k, h)) in
    let less = same_lt (n + rest) c rest (c - n) (λ k. omega (arith, k, h)) (λ k. omega (arith, k, h)) in
    by_line c t l r e
    ∙ ap (λ (o : Option (Option ℕ × ℕ)). decide c (run_or_none o (runs_in (split 10 r))) (is_run o && are_runs (split 10 r))) f
    ∙ (λ i. more i || (are_runs (split 10 r) && less i))

-- a run that is too long is one of too many words
pub count_past : (c : ℕ) (t l r : List ℕ) (w : Option ℕ) (n : ℕ) → split 10 t ≡ l ∷ split 10 r → run_in l ≡ Some (w, n) → c < n
    → is_other_count c t ≡ true
count_past c t l r w n e f h =
    let rest = word_sum (runs_in (split 10 r)) in
    by_line c t l r e
    ∙ ap (λ (o : Option (Option ℕ × ℕ)). decide c (run_or_none o (runs_in (split 10 r))) (is_run o && are_runs (split 10 r))) f
    ∙ ap (λ b. b || (are_runs (split 10 r) && nat_lt (n + rest) c)) (lt-ltb c (n + rest) (omega (arith, h)))

-- a line that is no run ends the count
pub count_none : (c : ℕ) (t l r : List ℕ) → split 10 t ≡ l ∷ split 10 r → run_in l ≡ None → is_other_count c t ≡ false
count_none c t l r e f =
    by_line c t l r e
    ∙ ap (λ (o : Option (Option ℕ × ℕ)). decide c (run_or_none o (runs_in (split 10 r))) (is_run o && are_runs (split 10 r))) f
    ∙ ap (λ b. b || false) (le-ltb c 0 (omega arith))

-- without a line there are no words
pub count_end : (c : ℕ) (t : List ℕ) → split 10 t ≡ t ∷ [] → is_other_count c t ≡ nat_lt 0 c
count_end c t e =
    ap (λ (ps : List (List ℕ)). decide c (runs_in ps) (are_runs ps)) e ∙ ap (λ b. b || nat_lt 0 c) (le-ltb c 0 (omega arith))

-- a run of words that are counted right is no longer than they are, and those after it are counted right
pub record IsCounted (c n : ℕ) (r : List ℕ) : Type 0 where
  pub within : n ≤ c
  pub others : is_other_count (c - n) r ≡ false

pub counted_line : (c : ℕ) (t l r : List ℕ) (w : Option ℕ) (n : ℕ) → split 10 t ≡ l ∷ split 10 r → run_in l ≡ Some (w, n)
    → is_other_count c t ≡ false → IsCounted c n r
counted_line c t l r w n e f h = by (cases_lt c n)
  where
    by : (c < n) ⊎ (n ≤ c) → IsCounted c n r
    by (inl k) = absurd (both_ways (is_other_count c t) h (count_past c t l r w n e f k))
    by (inr k) = record { within = k; others = sym (count_line c t l r w n e f k) ∙ h }

pub counted_end : (c : ℕ) (t : List ℕ) → split 10 t ≡ t ∷ [] → is_other_count c t ≡ false → c ≡ 0
counted_end c t e h = omega (arith, ltb-false 0 c (sym (count_end c t e) ∙ h))

-- how many words runs have
abbrev pub times_sum : List Run → ℕ
times_sum [] = 0
times_sum (r ∷ rs) = r.times + times_sum rs

pub length-words_of : (rs : List Run) → length (words_of rs) ≡ times_sum rs
length-words_of [] = refl
length-words_of (r ∷ rs) =
    length-append (replicate r.times r.word) (words_of rs)
    ∙ (λ i. length-replicate r.times r.word i + length-words_of rs i)
