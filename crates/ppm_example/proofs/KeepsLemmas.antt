-- Tokens that count little pass no limit: those that count nothing, and those that pass none where more was counted before.
use Rattle.std.proofs.Common.{◌≡◌, ℕ, ◌+◌, ◌≤◌, Bool, true, false, nat_lt, nat_le, ◌==◌, ◌&&◌, List, [], ◌∷◌, ◌++◌, Some, None, refl, sym, subst, arith, cond}
use Rattle.std.specs.Prelude.{Option}
use Rattle.std.proofs.lemmas.Bool.{leb-true, ltb-true, ltb-false}
use Rattle.ppm_grammar.specs.Derivation.{Mark}
use Rattle.ppm_grammar.specs.Limits.{Count, Anew, Adds, Tally, with_count, with_counts, Limit, passed, after_token, Keeps}
use Rattle.ppm_text.specs.declared.token.Token.{Token}
use Rattle.ppm_rows.specs.Language.{Counted}
use Rattle.ppm_rows.specs.Limits.{limits, counts}
use Rattle.ppm_example.proofs.LexingLemmas.{both_hold}

-- no more was counted of any number
abbrev pub IsLess : Tally → Tally → Type 0
IsLess c d = (w : ℕ) → c w ≤ d w

one_less : (x : Count) (c d : Tally) → IsLess c d → IsLess (with_count x c) (with_count x d)
one_less (Anew n) c d less w = go (w == n)
  where
    go : (b : Bool) → cond b 0 (c w) ≤ cond b 0 (d w)
    go true = omega arith
    go false = less w
one_less (Adds n k) c d less w = go (w == n)
  where
    go : (b : Bool) → cond b (c w + k) (c w) ≤ cond b (d w + k) (d w)
    go true = omega (arith, less w)
    go false = less w

all_less : (xs : List Count) (c d : Tally) → IsLess c d → IsLess (with_counts xs c) (with_counts xs d)
all_less [] c d less = less
all_less (x ∷ xs) c d less = all_less xs (with_count x c) (with_count x d) (one_less x c d less)

token_less : (cs : List Counted) (t : Token) (ts : List Token) (c d : Tally) → IsLess c d
    → IsLess (after_token limits cs t ts c) (after_token limits cs t ts d)
token_less [] t ts c d less = less
token_less (x ∷ cs) t ts c d less =
    token_less cs t ts (with_counts (counts x t ts) c) (with_counts (counts x t ts) d) (all_less (counts x t ts) c d less)

-- where more passes no limit, so does less
pub passes_less : (ls : List Limit) (c d : Tally) → IsLess c d → passed ls d ≡ None → passed ls c ≡ None
passes_less [] c d less none = refl
passes_less (l ∷ ls) c d less none = go (nat_lt l.most (c l.which)) (nat_lt l.most (d l.which)) refl refl none (passes_less ls c d less)
  where
    go : (a b : Bool) → nat_lt l.most (c l.which) ≡ a → nat_lt l.most (d l.which) ≡ b → cond b (Some l.which) (passed ls d) ≡ None
        → (passed ls d ≡ None → passed ls c ≡ None) → cond a (Some l.which) (passed ls c) ≡ None
    go a true p q h next = absurd (cc (h))
    go true false p q h next = absurd (omega (arith, ltb-true l.most (c l.which) p, ltb-false l.most (d l.which) q, less l.which))
    go false false p q h next = next h

pub keeps_less : (ms : List (Mark Counted)) (ts : List Token) (c d : Tally) → IsLess c d → Keeps limits ms ts d → Keeps limits ms ts c
keeps_less [] ts c d less keeps = tt
keeps_less (m ∷ ms) [] c d less keeps = absurd keeps
keeps_less (m ∷ ms) (t ∷ ts) c d less keeps =
    let next = token_less m.counts t ts c d less in (
      keeps.0,
      passes_less limits.most (after_token limits m.counts t ts c) (after_token limits m.counts t ts d) next keeps.1,
      keeps_less ms ts (after_token limits m.counts t ts c) (after_token limits m.counts t ts d) next keeps.2,
    )

-- marks that count nothing, as many as tokens, in few openings
abbrev pub ArePlain : List (Mark Counted) → List Token → Type 0
ArePlain [] [] = Unit {0}
ArePlain (m ∷ ms) (t ∷ ts) = (m.depth ≤ limits.depth) × (m.counts ≡ []) × ArePlain ms ts
ArePlain _ _ = ⊥

pub keeps_plain : (ms ns : List (Mark Counted)) (ts us : List Token) (c : Tally) → ArePlain ms ts → passed limits.most c ≡ None → Keeps limits ns us c
    → Keeps limits (ms ++ ns) (ts ++ us) c
keeps_plain [] ns [] us c plain none keeps = keeps
keeps_plain [] ns (t ∷ ts) us c plain none keeps = absurd plain
keeps_plain (m ∷ ms) ns [] us c plain none keeps = absurd plain
keeps_plain (m ∷ ms) ns (t ∷ ts) us c plain none keeps =
    let same : c ≡ after_token limits m.counts t (ts ++ us) c =
    subst (λ (cs : List Counted). c ≡ after_token limits cs t (ts ++ us) c) (sym plain.1) refl in (
      plain.0,
      subst (λ (e : Tally). passed limits.most e ≡ None) same none,
      subst (λ (e : Tally). Keeps limits (ms ++ ns) (ts ++ us) e) same (keeps_plain ms ns ts us c plain.2 none keeps),
    )

-- a test that there is none
abbrev is_none : Option ℕ → Bool
is_none None = true
is_none (Some n) = false

abbrev pub keeps_all : List (Mark Counted) → List Token → Tally → Bool
keeps_all [] ts c = true
keeps_all (m ∷ ms) [] c = false
keeps_all (m ∷ ms) (t ∷ ts) c =
    nat_le m.depth limits.depth && (is_none (passed limits.most (after_token limits m.counts t ts c)) && keeps_all ms ts (after_token limits m.counts t ts c))

none_is : (o : Option ℕ) → is_none o ≡ true → o ≡ None
none_is None h = refl
none_is (Some n) h = absurd (cc (h))

pub keeps_sound : (ms : List (Mark Counted)) (ts : List Token) (c : Tally) → keeps_all ms ts c ≡ true → Keeps limits ms ts c
keeps_sound [] ts c h = tt
keeps_sound (m ∷ ms) [] c h = absurd (cc (h))
keeps_sound (m ∷ ms) (t ∷ ts) c h =
    let behind = after_token limits m.counts t ts c in
    let p = both_hold (nat_le m.depth limits.depth) (is_none (passed limits.most behind) && keeps_all ms ts behind) h in
    let q = both_hold (is_none (passed limits.most behind)) (keeps_all ms ts behind) p.1 in
    (leb-true m.depth limits.depth p.0, none_is (passed limits.most behind) q.0, keeps_sound ms ts behind q.1)
