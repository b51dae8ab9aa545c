-- The line of the calls that are open, put together.
use Rattle.std.proofs.Common.{◌≡◌, ◌<◌, ◌++◌, ◌∙◌, ℕ, Bool, true, false, nat_eq, List, [], ◌∷◌, Result, Ok, Err, refl, sym, ap, arith, codes, append_assoc}
use Rattle.std.specs.Prelude.{decimal, OnOk, if◌then◌else◌}
use Rattle.std.proofs.lemmas.Bool.{eqb-true}
use Rattle.ppm_notes.specs.Traps.{calls_text, innermost_text}

-- a call is open, and its line is told
pub innermost_told : (old mid new : List ℕ) (calls line n : ℕ) → 0 < calls → mid ≡ old ++ codes ", the innermost in line " → n ≡ line → new ≡ mid ++ decimal n
    → new ≡ old ++ innermost_text calls line
innermost_told old mid new calls line n some e same f = by (nat_eq calls 0) refl
  where
    by : (b : Bool) → nat_eq calls 0 ≡ b → new ≡ old ++ innermost_text calls line
    by true z = absurd (let o = eqb-true calls 0 z in omega (arith, some, o))
    by false z =
        f ∙ ap (λ (n : ℕ). mid ++ decimal n) same ∙ ap (λ xs. xs ++ decimal line) e ∙ append_assoc old (codes ", the innermost in line ") (decimal line)
        ∙ ap (λ (b : Bool). old ++ (if b then [] else codes ", the innermost in line " ++ decimal line)) (sym z)

-- four pieces after some bytes
regrouped : (a w d i n : List ℕ) → (((a ++ w) ++ d) ++ i) ++ n ≡ a ++ (((w ++ d) ++ i) ++ n)
regrouped a w d i n = simp (append_assoc)

pub calls_told : {E : Type 0} (r : Result (Unit {0}) E) (a b c d e : List ℕ) (calls line : ℕ) → b ≡ a ++ codes "calls open: " → c ≡ b ++ decimal calls
    → d ≡ c ++ innermost_text calls line → OnOk r (e ≡ d ++ codes "\n") → OnOk r (e ≡ a ++ calls_text calls line)
calls_told (Ok u) a b c d e calls line f g h i =
    i ∙ ap (λ xs. xs ++ codes "\n") (h ∙ ap (λ xs. xs ++ innermost_text calls line) (g ∙ ap (λ xs. xs ++ decimal calls) f))
    ∙ regrouped a (codes "calls open: ") (decimal calls) (innermost_text calls line) (codes "\n")
calls_told (Err x) a b c d e calls line f g h i = tt
