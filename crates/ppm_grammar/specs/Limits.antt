-- Limits on openings and on numbers that the tokens count up.
use Rattle.std.specs.Prelude.{◌≡◌, ℕ, suc, ◌+◌, ◌-◌, ◌==◌, ◌≤◌, nat_lt, List, [], ◌∷◌, Option, Some, None, if◌then◌else◌}
use Rattle.ppm_grammar.specs.Derivation.{Mark}

-- what a token does to one of the numbers: it begins anew from 0, or grows by an amount
pub data Count : Type 0 where
  Anew : (which : ℕ) → Count
  Adds : (which amount : ℕ) → Count

-- what was counted, number by number
abbrev pub Tally : Type 0
Tally = ℕ → ℕ

-- nothing was counted
abbrev pub none_counted : Tally
none_counted which = 0

-- what was counted after one count more
abbrev pub with_count : Count → Tally → Tally
with_count (Anew w) c = λ which. if which == w then 0 else c which
with_count (Adds w n) c = λ which. if which == w then c which + n else c which

-- after the number grew by an amount
abbrev pub adds : ℕ → ℕ → Tally → Tally
adds w n c = with_count (Adds w n) c

-- and after several counts
abbrev pub with_counts : List Count → Tally → Tally
with_counts [] c = c
with_counts (x ∷ xs) c = with_counts xs (with_count x c)

-- the most that a number may be
pub record Limit : Type 0 where
  pub which : ℕ
  pub most : ℕ

-- how many openings may be open, the limits on numbers, and what a token counts by what it counts as and by the tokens after it
pub record Limits (T C : Type 0) : Type 0 where
  pub depth : ℕ
  pub most : List Limit
  pub counts : C → T → List T → List Count

-- the first of the limits that is passed
abbrev pub passed : List Limit → Tally → Option ℕ
passed [] c = None
passed (l ∷ ls) c = if nat_lt l.most (c l.which) then Some l.which else passed ls c

-- what was counted after a token that counts as all this, with these after it
abbrev pub after_token : {T C : Type 0} → Limits T C → List C → T → List T → Tally → Tally
after_token l [] t ts c = c
after_token l (x ∷ xs) t ts c = after_token l xs t ts (with_counts (l.counts x t ts) c)

-- what was counted after the tokens that have marks
abbrev pub after_marks : {T C : Type 0} → Limits T C → List (Mark C) → List T → Tally → Tally
after_marks l (m ∷ ms) (t ∷ ts) c = after_marks l ms ts (after_token l m.counts t ts c)
after_marks l _ _ c = c

-- none of the tokens that have marks passes a limit
abbrev pub Keeps : {T C : Type 0} → Limits T C → List (Mark C) → List T → Tally → Type 0
Keeps l [] ts c = Unit {0}
Keeps l (m ∷ ms) [] c = ⊥
Keeps l (m ∷ ms) (t ∷ ts) c =
    (m.depth ≤ l.depth) × (passed l.most (after_token l m.counts t ts c) ≡ None) × Keeps l ms ts (after_token l m.counts t ts c)

-- the number may grow by so much more, and no further
pub record Leaves {T C : Type 0} (l : Limits T C) (which room : ℕ) (c : Tally) : Type 0 where
  pub free : (n : ℕ) → n ≤ room → passed l.most (adds which n c) ≡ None
  pub full : passed l.most (adds which (suc room) c) ≡ Some which

-- of each number with a limit so much may still come
abbrev pub Remains : List Limit → Tally → Tally → Type 0
Remains [] left c = Unit {0}
Remains (l ∷ ls) left c = (c l.which + left l.which ≡ l.most) × Remains ls left c

-- what may still come after the number grew by an amount
abbrev pub takes : ℕ → ℕ → Tally → Tally
takes w n left = λ which. if which == w then left which - n else left which

-- and after it began anew, with this limit
abbrev pub fills : ℕ → ℕ → Tally → Tally
fills w m left = λ which. if which == w then m else left which
