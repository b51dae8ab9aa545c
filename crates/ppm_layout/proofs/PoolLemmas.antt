-- Words of one kind in a row: the zeros of a deque and of a pool, and the root's frame in front of some.
use Rattle.std.proofs.Common.{◌≡◌, ℕ, zero, suc, inl, inr, ◌+◌, ◌-◌, ◌*◌, ◌<◌, ◌≤◌, List, [], ◌∷◌, ◌++◌, length, map, get_or, replicate, eqb, leb, refl, sym, ap, ap₂, ◌∙◌, arith, false}
use Rattle.std.specs.List.{range_with_len}
use Rattle.std.proofs.Math.Nat.{mul-le-mul_right}
use Rattle.std.proofs.lemmas.Bool.{cases_lt, cond-true, cond-false, le-leb, lt-leb, ne_eqb}
use Rattle.std.proofs.lemmas.List.{append_assoc, get_or_past}
use Rattle.ppm_cells.specs.declared.entry.Entry.TheVariants.{Empty, Taken, Local}
use Rattle.ppm_cells.specs.declared.shape.Shape.{Shape}
use Rattle.ppm_cells.specs.Cells.{place_size, pool_at}
use Rattle.ppm_cells.specs.Entry.{entry_word}
use Rattle.ppm_cells.specs.Fields.{number_of}
use Rattle.ppm_layout.specs.Opening.{first_entry, first_block}
use Rattle.ppm_layout.specs.Sequence.{entry_words, block_words}

-- what is 0 everywhere in a range
zeros : (f : ℕ → ℕ) (a n : ℕ) → ((k : ℕ) → a ≤ k → k < a + n → f k ≡ 0) → map f (range_with_len a n) ≡ replicate n 0
zeros f a zero h = refl
zeros f a (suc n) h =
    ap₂ (λ x xs. x ∷ xs) (h a (omega arith) (omega arith)) (zeros f (a + 1) n (λ k low high. h k (omega (arith, low)) (omega (arith, high))))

-- what are these words at first, and then 0
words_first : (f : ℕ → ℕ) (words : List ℕ) (a m : ℕ) → ((k : ℕ) → f (a + k) ≡ get_or words k 0)
    → map f (range_with_len a (length words + m)) ≡ words ++ replicate m 0
words_first f [] a m h =
    let none : 0 + m ≡ m = omega arith in
    ap (λ n. map f (range_with_len a n)) none
    ∙ zeros f a m (λ k low high. let is : k ≡ a + (k - a) = omega (arith, low) in ap f is ∙ h (k - a))
words_first f (word ∷ words) a m h =
    let more : suc (length words) + m ≡ suc (length words + m) = omega arith in
    let first : a ≡ a + 0 = omega arith in
    let next : (k : ℕ) → a + 1 + k ≡ a + suc k = λ k. omega arith in
    ap (λ n. map f (range_with_len a n)) more
    ∙ ap₂ (λ x xs. x ∷ xs) (ap f first ∙ h 0) (words_first f words (a + 1) m (λ k. ap f (next k) ∙ h (suc k)))

-- an empty entry with tag 0
empty_is_zero : entry_word (Empty 0) ≡ 0
unfolding number_of
empty_is_zero = refl

-- a deque: the entries from 2 on are empty
entries_are : (slots : ℕ) → 2 ≤ slots → entry_words slots ≡ entry_word (Taken 0 0) ∷ entry_word (Local 0 0) ∷ replicate (slots - 2) 0
entries_are zero h = absurd (omega (arith, h))
entries_are (suc zero) h = absurd (omega (arith, h))
entries_are (suc (suc n)) h =
    let rest : suc (suc n) - 2 ≡ n = omega arith in
    ap (λ xs. entry_word (Taken 0 0) ∷ entry_word (Local 0 0) ∷ xs) (zeros (λ slot. entry_word (first_entry slot)) 2 n (λ k low high. empty k low))
    ∙ ap (λ k. entry_word (Taken 0 0) ∷ entry_word (Local 0 0) ∷ replicate k 0) (sym rest)
  where
    empty : (k : ℕ) → 2 ≤ k → entry_word (first_entry k) ≡ 0
    empty k low =
        let not_0 : eqb k 0 ≡ false = ne_eqb k 0 (λ e. omega (arith, low, e)) in
        let not_1 : eqb k 1 ≡ false = ne_eqb k 1 (λ e. omega (arith, low, e)) in
        rw (not_0, not_1) empty_is_zero

-- its words, pushed after others
pub entries_pushed : (old one two new : List ℕ) (first second slots : ℕ) → one ≡ old ++ first ∷ [] → two ≡ one ++ second ∷ []
    → new ≡ two ++ replicate (slots - 2) 0 → first ≡ entry_word (Taken 0 0) → second ≡ entry_word (Local 0 0) → 2 ≤ slots
    → new ≡ old ++ entry_words slots
entries_pushed old one two new first second slots a b c p q h =
    let rest : List ℕ = replicate (slots - 2) 0 in
    c ∙ ap (λ ws. ws ++ rest) (b ∙ ap (λ ws. ws ++ second ∷ []) a)
    ∙ append_assoc (old ++ first ∷ []) (second ∷ []) rest ∙ append_assoc old (first ∷ []) (second ∷ rest)
    ∙ ap₂ (λ x y. old ++ x ∷ y ∷ rest) p q ∙ ap (λ ws. old ++ ws) (sym (entries_are slots h))

-- the root's frame and the zeros after it, pushed after others
pub frame_pushed : (old one new frame pool : List ℕ) (left : ℕ) → one ≡ old ++ frame → new ≡ one ++ replicate left 0
    → pool ≡ frame ++ replicate left 0 → new ≡ old ++ pool
frame_pushed old one new frame pool left a b is =
    b ∙ ap (λ ws. ws ++ replicate left 0) a ∙ append_assoc old frame (replicate left 0) ∙ ap (λ ws. old ++ ws) (sym is)

module _ (s : Shape) (keeper : ℕ) (frame : List ℕ) (short : length frame ≤ s.room) where
  -- the keeper's pool
  pub keepers_pool : block_words s keeper frame (pool_at s keeper) s.room ≡ frame ++ replicate (s.room - length frame) 0
  keepers_pool =
      let at : ℕ = pool_at s keeper in
      let left : ℕ = s.room - length frame in
      let is : s.room ≡ length frame + left = omega (arith, short) in
      ap (λ n. block_words s keeper frame at n) is
      ∙ words_first (first_block s keeper frame) frame at left
      (λ k. cond-true (leb at (at + k)) (get_or frame (at + k - at) 0) 0 (le-leb at (at + k) (omega arith))
      ∙ (let index : at + k - at ≡ k = omega arith in ap (λ n. get_or frame n 0) index))

  -- any other pool
  pub other_pool : (place : ℕ) → (place ≡ keeper → ⊥) → block_words s keeper frame (pool_at s place) s.room ≡ replicate s.room 0
  other_pool place other = zeros (first_block s keeper frame) (pool_at s place) s.room block where
    block : (k : ℕ) → pool_at s place ≤ k → k < pool_at s place + s.room → first_block s keeper frame k ≡ 0
    block k low high = elim (cases_lt place keeper) [
      | inl before ↦
          let end : suc place * place_size s ≤ keeper * place_size s = mul-le-mul_right (place_size s) (omega (arith, before)) in
          cond-false (leb (pool_at s keeper) k) (get_or frame (k - pool_at s keeper) 0) 0
          (lt-leb (pool_at s keeper) k (omega (arith, end, high)))
      | inr not_before ↦ elim (cases_lt keeper place) [
        | inl behind ↦
            let end : suc keeper * place_size s ≤ place * place_size s = mul-le-mul_right (place_size s) (omega (arith, behind)) in
            cond-true (leb (pool_at s keeper) k) (get_or frame (k - pool_at s keeper) 0) 0 (le-leb (pool_at s keeper) k (omega (arith, end, low)))
            ∙ get_or_past frame (k - pool_at s keeper) 0 (omega (arith, end, low, short))
        | inr not_behind ↦ absurd (other (omega (arith, not_before, not_behind)))
      ]
    ]
