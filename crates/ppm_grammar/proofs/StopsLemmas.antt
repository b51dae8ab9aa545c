-- The faults at the first token of a part or of a token that is to come.
use Rattle.std.proofs.Common.{◌≡◌, ℕ, ◌<◌, ◌≤◌, Bool, true, false, List, [], ◌∷◌, ◌++◌, refl, ◌∙◌, arith}
use Rattle.std.proofs.lemmas.List.{append-nil as append_nil}
use Rattle.std.specs.Prelude.{nat_lt, Some}
use Rattle.ppm_grammar.specs.Rows.{In, Item, Take, Part, Row, Grammar}
use Rattle.ppm_grammar.specs.Derivation.{Due, Within, due, mark, inside}
use Rattle.ppm_grammar.specs.Limits.{Limits, Tally, passed, after_token}
use Rattle.ppm_grammar.specs.Faults.{Expected, Ended, TooDeep, TooMany}
use Rattle.ppm_grammar.specs.Predictive.{may_be_empty, starts, IsPredictive}
use Rattle.ppm_grammar.specs.Stack.{Move, move, next, step}
use Rattle.ppm_grammar.specs.Reading.{Fails}
use Rattle.ppm_grammar.proofs.StackLemmas.{same_kind_is, part_step, next_none}
use Rattle.ppm_grammar.proofs.TextLemmas.{other_kind}

module _ {T K P V C : Type 0} (g : Grammar T K P V C) (l : Limits T C) where
  -- a token that is missing
  pub token_ended : {c : Tally} {d : ℕ} {x : K} {xs : List (Due K P)} {ts : List T} → ts ≡ [] → Fails g l c (Within d (Take x) ∷ xs) ts (Some Ended)
  token_ended is = record { tells = λ st f e. rw is e }

  -- another token stands there
  pub token_unexpected : {c : Tally} {d : ℕ} {x : K} {t : T} {xs : List (Due K P)} {ts rest : List T} → ts ≡ t ∷ rest → (g.kind t ≡ x → ⊥) →
      Fails g l c (Within d (Take x) ∷ xs) ts (Some (Expected (g.place t)))
  token_unexpected {x = x} {t = t} is other = record { tells = λ st f e. rw (is, other_kind g x (g.kind t) other) e }

  -- a token whose mark in a part is known, and that is within too many openings or passes a limit there
  pub deep_at : {c : Tally} {d : ℕ} {n : P} {t : T} {m : Move K P C} {xs : List (Due K P)} {ts rest : List T} → ts ≡ t ∷ rest → next g d n (g.kind t) ≡ Some m →
      l.depth < m.marked.depth → Fails g l c (Within d (Part n) ∷ xs) ts (Some (TooDeep (g.place t)))
  deep_at {m = m} is one deep = record {
    tells = λ st f e. let over : nat_lt l.depth m.marked.depth ≡ true = grind (arith, deep) in rw (is, one, over) e;
  }

  -- or on a number
  pub many_at : {c : Tally} {d which : ℕ} {n : P} {t : T} {m : Move K P C} {xs : List (Due K P)} {ts rest : List T} → ts ≡ t ∷ rest →
      next g d n (g.kind t) ≡ Some m → m.marked.depth ≤ l.depth → passed l.most (after_token l m.marked.counts t rest c) ≡ Some which →
      Fails g l c (Within d (Part n) ∷ xs) ts (Some (TooMany (g.place t) which))
  many_at {m = m} is one shallow many = record {
    tells = λ st f e. let under : nat_lt l.depth m.marked.depth ≡ false = grind (arith, shallow) in rw (is, one, under, many) e;
  }

  module _ (follows : P → K → Bool) (p : IsPredictive g follows) where
    -- the move at such a row
    row_step : (d : ℕ) (n : P) (row : Row K P V C) (x : K) (ys : List (Item K P)) (t : T) (st : List (Due K P)) → In row (g.rows n) → row.items ≡ Take x ∷ ys →
        g.kind t ≡ x → step g (Within d (Part n) ∷ st) (g.kind t) ≡ Some (move (mark (inside row d) row.counts) (due (inside row d) ys ++ st))
    row_step d n row x ys t st i items kind =
        part_step g follows p d n (g.kind t) row st i (rw (items, kind) (same_kind_is g x))
        ∙ rw (items, kind, same_kind_is g x, append_nil row.counts) refl

    -- a token that is within too many openings or passes a limit there
    pub too_deep : {c : Tally} {d : ℕ} {n : P} {x : K} {t : T} {ys : List (Item K P)} {xs : List (Due K P)} {ts rest : List T} (row : Row K P V C) →
        In row (g.rows n) → row.items ≡ Take x ∷ ys → ts ≡ t ∷ rest → g.kind t ≡ x → l.depth < inside row d →
        Fails g l c (Within d (Part n) ∷ xs) ts (Some (TooDeep (g.place t)))
    too_deep {d = d} {n = n} {x = x} {t = t} {ys = ys} {xs = xs} row i items is kind deep = record {
      tells = λ st f e.
          let over : nat_lt l.depth (inside row d) ≡ true = grind (arith, deep) in
          rw (is, row_step d n row x ys t (xs ++ st) i items kind, over) e;
    }

    -- or passes a limit on a number
    pub too_many : {c : Tally} {d which : ℕ} {n : P} {x : K} {t : T} {ys : List (Item K P)} {xs : List (Due K P)} {ts rest : List T} (row : Row K P V C) →
        In row (g.rows n) → row.items ≡ Take x ∷ ys → ts ≡ t ∷ rest → g.kind t ≡ x → inside row d ≤ l.depth →
        passed l.most (after_token l row.counts t rest c) ≡ Some which → Fails g l c (Within d (Part n) ∷ xs) ts (Some (TooMany (g.place t) which))
    too_many {d = d} {n = n} {x = x} {t = t} {ys = ys} {xs = xs} row i items is kind shallow many = record {
      tells = λ st f e.
          let under : nat_lt l.depth (inside row d) ≡ false = grind (arith, shallow) in
          rw (is, row_step d n row x ys t (xs ++ st) i items kind, under, many) e;
    }

    -- no token that can begin the part, which has tokens
    pub ended : {c : Tally} {d : ℕ} {n : P} {xs : List (Due K P)} {ts : List T} → may_be_empty g n ≡ false → ts ≡ [] →
        Fails g l c (Within d (Part n) ∷ xs) ts (Some Ended)
    ended full is = record { tells = λ st f e. rw (is, full) e }

    -- another token stands there
    pub unexpected : {c : Tally} {d : ℕ} {n : P} {t : T} {xs : List (Due K P)} {ts rest : List T} → may_be_empty g n ≡ false → ts ≡ t ∷ rest →
        starts g n (g.kind t) ≡ false → Fails g l c (Within d (Part n) ∷ xs) ts (Some (Expected (g.place t)))
    unexpected {d = d} {n = n} {t = t} full is none = record { tells = λ st f e. rw (is, next_none g follows p d n (g.kind t) none, full) e }
