-- The lines of arrays in front of a text, one after another.
use Rattle.std.proofs.Common.{◌≡◌, ◌≤◌, ℕ, suc, ◌+◌, ◌==◌, Bool, true, false, if◌then◌else◌, List, [], ◌∷◌, length, refl, sym, arith}
use Rattle.ppm_pieces.specs.Pieces.{in_front, split}
use Rattle.ppm_notes.specs.Rows.{arrays_in, is_array}

-- one more is counted
pub one_more : (l : List ℕ) (ls all : List (List ℕ)) → all ≡ l ∷ ls → true ≡ is_array l → 1 + arrays_in ls ≡ arrays_in all
one_more l ls all e h = rw (e, sym h) refl

-- another line ends them
pub no_more : (l : List ℕ) (ls all : List (List ℕ)) → all ≡ l ∷ ls → false ≡ is_array l → arrays_in all ≡ 0
no_more l ls all e h = rw (e, sym h) refl

-- and so does the end
pub last_one : (l : List ℕ) (all : List (List ℕ)) → all ≡ l ∷ [] → true ≡ is_array l → arrays_in all ≡ 1
last_one l all e h = rw (e, sym h) refl

few_lines : (ls : List (List ℕ)) → arrays_in ls ≤ length ls
few_lines [] = omega arith
few_lines (l ∷ ls) = go (is_array l) (few_lines ls) where
  go : (b : Bool) → arrays_in ls ≤ length ls → (if b then 1 + arrays_in ls else 0) ≤ suc (length ls)
  go true h = omega (arith, h)
  go false h = omega arith

-- a text has no more lines than line feeds and one
pieces_few : (bs : List ℕ) → length (split 10 bs) ≤ length bs + 1
pieces_few [] = omega arith
pieces_few (b ∷ bs) = go (b == 10) (split 10 bs) (pieces_few bs) where
  go : (feed : Bool) (ps : List (List ℕ)) → length ps ≤ length bs + 1 → length (if feed then [] ∷ ps else in_front b ps) ≤ suc (length bs) + 1
  go true ps h = omega (arith, h)
  go false [] h = omega arith
  go false (p ∷ ps) h = omega (arith, h)

-- a text has at most one line of an array more than it has bytes
pub few : (text : List ℕ) → arrays_in (split 10 text) ≤ length text + 1
few text =
    let lines = few_lines (split 10 text) in
    let pieces = pieces_few text in
    omega (arith, lines, pieces)
