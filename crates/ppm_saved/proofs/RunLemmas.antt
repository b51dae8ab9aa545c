-- The longest runs of words: the first of them, and that there are no others.
use Rattle.std.proofs.Common.{◌≡◌, ◌≢◌, ◌∙◌, ◌⊎◌, inl, inr, ℕ, zero, suc, ◌+◌, ◌-◌, ◌≤◌, ◌==◌, Bool, true, false, cond, List, [], ◌∷◌, ◌++◌, length, get_or, take, drop, take_all, le_refl, replicate, refl, sym, ap, subst, arith}
use Rattle.std.specs.List.{prefix_len}
use Rattle.std.proofs.lemmas.Bool.{both_ways, eq-eqb}
use Rattle.std.proofs.lemmas.Bool.Decides.{eqb_tells}
use Rattle.ppm_saved.specs.declared.run.Run.{Run}
use Rattle.ppm_saved.specs.Runs.{run, in_front, runs_of, words_of, AreLongest, RunsAreLongest}

-- equal words stand within the words
pub prefix_le : (p : ℕ → Bool) (xs : List ℕ) → prefix_len p xs ≤ length xs
prefix_le p [] = omega arith
prefix_le p (x ∷ xs) = go (p x) (prefix_le p xs)
  where
    go : (b : Bool) → prefix_len p xs ≤ length xs → cond b (1 + prefix_len p xs) 0 ≤ length (x ∷ xs)
    go true h = omega arith
    go false h = omega arith

-- how many words in front are this one
abbrev pub more : ℕ → List ℕ → ℕ
more w ws = prefix_len (λ v. v == w) ws

-- the first of the longest runs, and those of the words after it
pub first_run : (w : ℕ) (ws : List ℕ) → runs_of (w ∷ ws) ≡ run w (1 + more w ws) ∷ runs_of (drop (more w ws) ws)
first_run w [] = refl
first_run w (v ∷ vs) = ap (in_front w) (first_run v vs) ∙ by (v == w) (eqb_tells v w) (first_run v vs)
  where
    by : (same : Bool) → ((same ≡ true) × (v ≡ w)) ⊎ ((same ≡ false) × (v ≢ w))
        → runs_of (v ∷ vs) ≡ run v (1 + more v vs) ∷ runs_of (drop (more v vs) vs)
        → cond same (run w (1 + (1 + more v vs)) ∷ runs_of (drop (more v vs) vs)) (run w 1 ∷ run v (1 + more v vs) ∷ runs_of (drop (more v vs) vs))
        ≡ run w (1 + cond same (1 + more w vs) 0) ∷ runs_of (drop (cond same (1 + more w vs) 0) (v ∷ vs))
    by true (inl t) first =
        let one : suc (more w vs) ≡ 1 + more w vs = omega arith in
        ap (λ u. run w (1 + (1 + more u vs)) ∷ runs_of (drop (more u vs) vs)) t.1
        ∙ ap (λ n. run w (1 + (1 + more w vs)) ∷ runs_of (drop n (v ∷ vs))) one
    by true (inr t) first = absurd (both_ways true t.0 refl)
    by false (inl t) first = absurd (both_ways false refl t.0)
    by false (inr t) first = ap (λ rs. run w 1 ∷ rs) (sym first)

-- the longest runs of words, by the first word and those after it
pub first_of : (ws : List ℕ) → 1 ≤ length ws
    → runs_of ws ≡ run (get_or ws 0 0) (1 + more (get_or ws 0 0) (take (length ws - 1) (drop 1 ws)))
    ∷ runs_of (drop (more (get_or ws 0 0) (take (length ws - 1) (drop 1 ws))) (take (length ws - 1) (drop 1 ws)))
first_of [] h = absurd (omega (arith, h))
first_of (w ∷ vs) h =
    let one : length (w ∷ vs) - 1 ≡ length vs = omega arith in
    let rest : take (length (w ∷ vs) - 1) vs ≡ vs = ap (λ k. take k vs) one ∙ take_all (length vs) vs (le_refl (length vs)) in
    subst (λ l. runs_of (w ∷ vs) ≡ run w (1 + more w l) ∷ runs_of (drop (more w l) l)) (sym rest) (first_run w vs)

-- the words of runs with a word more in front
front_words : (w : ℕ) (rs : List Run) → words_of (in_front w rs) ≡ w ∷ words_of rs
front_words w [] = refl
front_words w (r ∷ rs) = by (r.word == w) (eqb_tells r.word w)
  where
    by : (same : Bool) → ((same ≡ true) × (r.word ≡ w)) ⊎ ((same ≡ false) × (r.word ≢ w))
        → words_of (cond same (run w (1 + r.times) ∷ rs) (run w 1 ∷ r ∷ rs)) ≡ w ∷ words_of (r ∷ rs)
    by true (inl t) =
        let one : 1 + r.times ≡ suc r.times = omega arith in
        ap (λ n. replicate n w ++ words_of rs) one ∙ ap (λ u. w ∷ (replicate r.times u ++ words_of rs)) (sym t.1)
    by true (inr t) = absurd (both_ways true t.0 refl)
    by false (inl t) = absurd (both_ways false refl t.0)
    by false (inr t) = refl

words_are : (ws : List ℕ) → words_of (runs_of ws) ≡ ws
words_are [] = refl
words_are (w ∷ ws) = front_words w (runs_of ws) ∙ ap (λ vs. w ∷ vs) (words_are ws)

-- the longest runs with a word more in front are the longest
front_longest : (w : ℕ) (rs : List Run) → AreLongest rs → AreLongest (in_front w rs)
front_longest w [] h = omega arith
front_longest w (r ∷ []) h = by (r.word == w) (eqb_tells r.word w)
  where
    by : (same : Bool) → ((same ≡ true) × (r.word ≡ w)) ⊎ ((same ≡ false) × (r.word ≢ w))
        → AreLongest (cond same (run w (1 + r.times) ∷ []) (run w 1 ∷ r ∷ []))
    by true t = omega arith
    by false (inl t) = absurd (both_ways false refl t.0)
    by false (inr t) = (omega arith, (λ e. t.1 (sym e)), h)
front_longest w (r ∷ q ∷ rs) h = by (r.word == w) (eqb_tells r.word w)
  where
    by : (same : Bool) → ((same ≡ true) × (r.word ≡ w)) ⊎ ((same ≡ false) × (r.word ≢ w))
        → AreLongest (cond same (run w (1 + r.times) ∷ q ∷ rs) (run w 1 ∷ r ∷ q ∷ rs))
    by true (inl t) = (omega arith, (λ e. h.1 (t.1 ∙ e)), h.2)
    by true (inr t) = absurd (both_ways true t.0 refl)
    by false (inl t) = absurd (both_ways false refl t.0)
    by false (inr t) = (omega arith, (λ e. t.1 (sym e)), h)

are_longest : (ws : List ℕ) → AreLongest (runs_of ws)
are_longest [] = tt
are_longest (w ∷ ws) = front_longest w (runs_of ws) (are_longest ws)

-- runs do not begin with this word
abbrev pub BeginOther : ℕ → List Run → Type 0
BeginOther w [] = Unit {0}
BeginOther w (r ∷ rs) = w ≢ r.word

-- what the longest runs say of the first one and of those after it
parts : (r : Run) (rs : List Run) → AreLongest (r ∷ rs) → (1 ≤ r.times) × BeginOther r.word rs × AreLongest rs
parts r [] h = (h, tt, tt)
parts r (q ∷ rs) h = h

-- a word in front of runs that begin with another one begins a run
begins : (w : ℕ) (rs : List Run) → BeginOther w rs → in_front w rs ≡ run w 1 ∷ rs
begins w [] h = refl
begins w (r ∷ rs) h = by (r.word == w) (eqb_tells r.word w)
  where
    by : (same : Bool) → ((same ≡ true) × (r.word ≡ w)) ⊎ ((same ≡ false) × (r.word ≢ w))
        → cond same (run w (1 + r.times) ∷ rs) (run w 1 ∷ r ∷ rs) ≡ run w 1 ∷ r ∷ rs
    by true (inl t) = absurd (h (sym t.1))
    by true (inr t) = absurd (both_ways true t.0 refl)
    by false t = refl

-- equal words in front of runs that begin with another one are one run
pub run_in_front : (w n : ℕ) (ws : List ℕ) (rs : List Run) → BeginOther w rs → runs_of ws ≡ rs
    → runs_of (replicate (suc n) w ++ ws) ≡ run w (suc n) ∷ rs
run_in_front w zero ws rs h e = ap (in_front w) e ∙ begins w rs h
run_in_front w (suc n) ws rs h e =
    let longer : 1 + suc n ≡ suc (suc n) = omega arith in
    ap (in_front w) (run_in_front w n ws rs h e)
    ∙ ap (λ b. cond b (run w (1 + suc n) ∷ rs) (run w 1 ∷ run w (suc n) ∷ rs)) (eq-eqb w w refl)
    ∙ ap (λ k. run w k ∷ rs) longer

no_others : (rs : List Run) → AreLongest rs → runs_of (words_of rs) ≡ rs
no_others [] h = refl
no_others (r ∷ rs) h =
    let k = parts r rs h in
    let times : suc (r.times - 1) ≡ r.times = omega (arith, k.0) in
    subst (λ n. runs_of (replicate n r.word ++ words_of rs) ≡ run r.word n ∷ rs) times
    (run_in_front r.word (r.times - 1) (words_of rs) rs k.1 (no_others rs k.2))

pub runs_are_longest : RunsAreLongest
runs_are_longest = record { words = words_are; longest = are_longest; one = no_others }
