-- The lines of arrays above a line, and what they leave of a number, one after another.
use Rattle.std.proofs.Common.{◌≡◌, ℕ, zero, suc, ◌-◌, Bool, true, false, ◌||◌, List, [], ◌∷◌, refl, sym, arith}
use Rattle.std.specs.Str.{bytes_eq}
use Rattle.ppm_notes.specs.Rows.{is_named_in, left_by}
use Rattle.ppm_notes.specs.Words.{word_at}

-- this line has the name
pub named_here : (n : ℕ) (l name : List ℕ) (ls all : List (List ℕ)) → all ≡ l ∷ ls → (n ≡ 0 → ⊥) → true ≡ bytes_eq (word_at 1 l) name
    → true ≡ is_named_in n all name
named_here zero l name ls all e more h = absurd (more refl)
named_here (suc n) l name ls all e more h = rw (e, sym h) refl

-- a later one may have it
pub named_later : (n : ℕ) (l name : List ℕ) (ls all : List (List ℕ)) → all ≡ l ∷ ls → (n ≡ 0 → ⊥) → false ≡ bytes_eq (word_at 1 l) name
    → is_named_in (n - 1) ls name ≡ is_named_in n all name
named_later zero l name ls all e more h = absurd (more refl)
named_later (suc n) l name ls all e more h = let one : suc n - 1 ≡ n = omega arith in rw (one, e, sym h) refl

-- of no lines none does
pub none_named : (n : ℕ) (ls : List (List ℕ)) (name : List ℕ) → n ≡ 0 → false ≡ is_named_in n ls name
none_named n ls name none = rw none refl

no_lines : (n : ℕ) (name : List ℕ) → is_named_in n [] name ≡ false
no_lines zero name = refl
no_lines (suc n) name = refl

-- the last line is the only one that is left
pub named_last : (n : ℕ) (l name : List ℕ) (all : List (List ℕ)) → all ≡ l ∷ [] → (n ≡ 0 → ⊥) → bytes_eq (word_at 1 l) name ≡ is_named_in n all name
named_last zero l name all e more = absurd (more refl)
named_last (suc n) l name all e more = rw (e, no_lines n name) (go (bytes_eq (word_at 1 l) name)) where
  go : (b : Bool) → b ≡ (b || false)
  go true = refl
  go false = refl

-- the first line takes its part
pub next_left : (taken : List ℕ → ℕ) (left n : ℕ) (l : List ℕ) (ls all : List (List ℕ)) → all ≡ l ∷ ls → (n ≡ 0 → ⊥)
    → left_by taken (left - taken l) (n - 1) ls ≡ left_by taken left n all
next_left taken left zero l ls all e more = absurd (more refl)
next_left taken left (suc n) l ls all e more = let one : suc n - 1 ≡ n = omega arith in rw (one, e) refl

untaken : (taken : List ℕ → ℕ) (left n : ℕ) → left_by taken left n [] ≡ left
untaken taken left zero = refl
untaken taken left (suc n) = refl

-- the last line is the only one that is left
pub last_left : (taken : List ℕ → ℕ) (left n : ℕ) (l : List ℕ) (all : List (List ℕ)) → all ≡ l ∷ [] → (n ≡ 0 → ⊥)
    → left - taken l ≡ left_by taken left n all
last_left taken left zero l all e more = absurd (more refl)
last_left taken left (suc n) l all e more = rw e (sym (untaken taken (left - taken l) n))

-- no lines take nothing
pub none_left : (taken : List ℕ → ℕ) (left n : ℕ) (ls : List (List ℕ)) → n ≡ 0 → left_by taken left n ls ≡ left
none_left taken left n ls none = rw none refl
