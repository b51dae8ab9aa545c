-- The lines of a text, one after another.
use Rattle.std.proofs.Common.{◌≡◌, ◌≤◌, ◌==◌, ℕ, zero, suc, ◌-◌, Bool, true, false, cond, List, [], ◌∷◌, length, refl, sym, ap, ◌∙◌, arith}
use Rattle.std.specs.List.{filter}
use Rattle.std.proofs.lemmas.List.Sums.{length-filter, count_by-le-length}
use Rattle.ppm_pieces.specs.Pieces.{in_front, split}
use Rattle.ppm_explain.specs.Places.{last_of, line_behind}

-- of some bytes no more are line feeds than there are
pub feeds_few : (bs : List ℕ) → length (filter (λ b. b == 10) bs) ≤ length bs
feeds_few bs = let few = count_by-le-length (λ b. b == 10) bs in rw (length-filter (λ b. b == 10) bs) few

-- a text has a line
some_line : (feed : Bool) (b : ℕ) (ps : List (List ℕ)) → (p : List ℕ) × (qs : List (List ℕ)) × (cond feed ([] ∷ ps) (in_front b ps) ≡ p ∷ qs)
some_line true b ps = ([], ps, refl)
some_line false b [] = (b ∷ [], [], refl)
some_line false b (p ∷ ps) = (b ∷ p, ps, refl)

-- a line in front of a text is not the last
last_next : (p bs : List ℕ) → last_of (p ∷ split 10 bs) ≡ last_of (split 10 bs)
last_next p [] = refl
last_next p (b ∷ bs) = let s = some_line (b == 10) b (split 10 bs) in rw s.2 refl

-- after a line feed stands the same last line
pub last_kept : (p left rest : List ℕ) → split 10 left ≡ p ∷ split 10 rest → last_of (split 10 rest) ≡ last_of (split 10 left)
last_kept p left rest e = sym (last_next p rest) ∙ ap last_of (sym e)

-- without one it is the text
pub last_one : (left : List ℕ) → split 10 left ≡ left ∷ [] → last_of (split 10 left) ≡ left
last_one left e = ap last_of e

-- after the first line one line fewer is in front
pub line_next : (n : ℕ) (l : List ℕ) (ls all : List (List ℕ)) → all ≡ l ∷ ls → (n ≡ 0 → ⊥) → line_behind (n - 1) ls ≡ line_behind n all
line_next zero l ls all e more = absurd (more refl)
line_next (suc n) l ls all e more = let one : suc n - 1 ≡ n = omega arith in rw (one, e) refl

-- with none in front it is the first
pub line_here : (n : ℕ) (l : List ℕ) (ls all : List (List ℕ)) → all ≡ l ∷ ls → n ≡ 0 → line_behind n all ≡ l
line_here n l ls all e none = rw (e, none) refl

-- after the last there is none
pub line_none : (n : ℕ) (l : List ℕ) (all : List (List ℕ)) → all ≡ l ∷ [] → (n ≡ 0 → ⊥) → line_behind n all ≡ []
line_none zero l all e more = absurd (more refl)
line_none (suc n) l all e more = rw e refl
