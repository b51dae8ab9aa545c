-- What is derived within the limits, with what was counted before and after each of its parts.
use Rattle.std.proofs.Common.{◌≡◌, ℕ, suc, ◌+◌, ◌≤◌, Bool, List, [], ◌∷◌, ◌++◌, refl, sym, ◌∙◌, ap, subst, arith, append_assoc}
use Rattle.std.specs.Prelude.{None}
use Rattle.std.specs.List.{AllByRecursion}
use Rattle.ppm_grammar.specs.Rows.{In, Item, Take, Part, Row, Grammar}
use Rattle.ppm_grammar.specs.Derivation.{Due, Within, due, Mark, mark, counting, inside, Derives, nothing, token, part}
use Rattle.ppm_grammar.specs.Limits.{Limits, Tally, passed, after_token, Keeps}
use Rattle.ppm_grammar.specs.Predictive.{Closed, IsPredictive}
use Rattle.ppm_grammar.proofs.DerivationLemmas.{items_of, items_of_due, Nothing, derives_nothing, Allowed, allowed, behind_part, Begun, begins}

module _ {T K P V C : Type 0} (g : Grammar T K P V C) (l : Limits T C) where
  -- what was counted after the first token counted as these
  abbrev pub counts_first : List C → List T → Tally → Tally
  counts_first [] ts c = c
  counts_first (x ∷ xs) [] c = c
  counts_first (x ∷ xs) (t ∷ ts) c = after_token l (x ∷ xs) t ts c

  -- a token is in front
  pub record HasFirst (ts : List T) : Type 0 where
    pub first : T
    pub behind : List T
    pub shape : ts ≡ first ∷ behind

  -- where there are items, a token is
  abbrev pub Begins : List (Item K P) → List T → Type 0
  Begins [] ts = Unit {0}
  Begins (x ∷ xs) ts = HasFirst ts

  -- the items are derived, from what was counted before to what was then; what may follow a part does
  pub data Walk (Fine : T → Type 0) (follows : P → K → Bool) : List (Due K P) → Tally → List T → List V → Tally → List T → Type 0 where
    done : {c : Tally} {ts : List T} → Walk Fine follows [] c ts [] c ts
    took : {d : ℕ} {x : K} {t : T} {xs : List (Due K P)} {c c' : Tally} {ts rest : List T} {vs : List V}
        → g.kind t ≡ x → Fine t → d ≤ l.depth → passed l.most c ≡ None → Walk Fine follows xs c ts vs c' rest
        → Walk Fine follows (Within d (Take x) ∷ xs) c (t ∷ ts) (g.value t ∷ vs) c' rest
    parted : {d : ℕ} {n : P} {row : Row K P V C} {xs : List (Due K P)} {c c₁ c' : Tally} {ts mid rest : List T} {us vs : List V}
        → In row (g.rows n) → Begins row.items ts → Allowed g (follows n) mid
        → Walk Fine follows (due (inside row d) row.items) (counts_first row.counts ts c) ts us c₁ mid → Walk Fine follows xs c₁ mid vs c' rest
        → Walk Fine follows (Within d (Part n) ∷ xs) c ts (row.make us ∷ vs) c' rest

  -- how many steps a walk has
  abbrev pub height : {Fine : T → Type 0} {follows : P → K → Bool} {xs : List (Due K P)} {c c' : Tally} {ts rest : List T} {vs : List V} →
      Walk Fine follows xs c ts vs c' rest → ℕ
  height done = 1
  height (took is fine deep free w) = suc (height w)
  height (parted i b ok w r) = suc (height w + height r)

  -- one at least
  pub tall : {Fine : T → Type 0} {follows : P → K → Bool} {xs : List (Due K P)} {c c' : Tally} {ts rest : List T} {vs : List V} →
      (w : Walk Fine follows xs c ts vs c' rest) → 1 ≤ height w
  tall done = omega arith
  tall (took is fine deep free w) = omega arith
  tall (parted i b ok w r) = omega arith

  -- a token counts as these and then as those
  after_append : (cs ds : List C) (t : T) (ts : List T) (c : Tally) → after_token l (cs ++ ds) t ts c ≡ after_token l ds t ts (after_token l cs t ts c)
  after_append [] ds t ts c = refl
  after_append (x ∷ cs) ds t ts c = after_append cs ds t ts _

  -- it counts as these first
  first_is : (cs : List C) (t : T) (ts : List T) (c : Tally) → counts_first cs (t ∷ ts) c ≡ after_token l cs t ts c
  first_is [] t ts c = refl
  first_is (x ∷ cs) t ts c = refl

  -- and the tokens keep the limits from there
  keeps_first : (cs : List C) (m : Mark C) (ms : List (Mark C)) (t : T) (ts : List T) (c : Tally) → Keeps l (mark m.depth (cs ++ m.counts) ∷ ms) (t ∷ ts) c →
      Keeps l (m ∷ ms) (t ∷ ts) (counts_first cs (t ∷ ts) c)
  keeps_first cs m ms t ts c h =
      let same : after_token l (cs ++ m.counts) t ts c ≡ after_token l m.counts t ts (counts_first cs (t ∷ ts) c) =
      after_append cs m.counts t ts c ∙ ap (after_token l m.counts t ts) (sym (first_is cs t ts c)) in
      (h.0, subst (λ q. passed l.most q ≡ None) same h.1, subst (Keeps l ms ts) same h.2)

  module _ (Fine : T → Type 0) (follows : P → K → Bool) (p : IsPredictive g follows)
      (silent : (n : P) (row : Row K P V C) → In row (g.rows n) → row.items ≡ [] → row.counts ≡ []) where
    -- the items are walked, and what follows keeps the limits
    pub record Walked (xs : List (Due K P)) (c : Tally) (ts : List T) (vs : List V) (more : List (Mark C)) (rest : List T) : Type 0 where
      pub after : Tally
      pub walk : Walk Fine follows xs c ts vs after rest
      pub keeps : Keeps l more rest after
      pub fine : AllByRecursion Fine rest

    -- what is derived within the limits is walked
    pub walked : {xs : List (Due K P)} {ts rest : List T} {vs : List V} {ms : List (Mark C)} (f : K → Bool) → Derives g xs ts vs ms rest →
        Closed g follows (items_of xs) f → Allowed g f rest → (more : List (Mark C)) (c : Tally) → Keeps l (ms ++ more) ts c → AllByRecursion Fine ts →
        Walked xs c ts vs more rest
    walked f nothing shut h more c keeps fine = record { after = c; walk = done; keeps = keeps; fine = fine }
    walked f (token is d) shut h more c keeps fine =
        let r = walked f d shut h more c keeps.2 fine.1 in
        record { after = r.after; walk = took is fine.0 keeps.0 keeps.1 r.walk; keeps = r.keeps; fine = r.fine }
    walked f (part {d = d} {n = n} {row = row} {xs = xs} {ts = ts} {mid = mid} {us = us} {ls = ls} {ms = ms} i inner d') shut h more c keeps fine =
        let ok : Allowed g (follows n) mid = behind_part g follows p n (items_of xs) f mid shut.0 (allowed g follows p f d' h) in
        let closed : Closed g follows (items_of (due (inside row d) row.items)) (follows n) = rw (items_of_due (inside row d) row.items) (p.closed n row i) in
        let from = go row.items refl (λ z zs here. begins g follows p inner (inside row _) z zs (due (inside row _) zs) (ap (due (inside row _)) here) n row i here)
        (λ here. derives_nothing g inner (ap (due (inside row _)) here)) (subst (λ q. Keeps l q ts c) (append_assoc (counting row.counts ls) ms more) keeps) in
        let a = walked (follows n) inner closed ok (ms ++ more) (counts_first row.counts ts c) from.1 fine in
        let r = walked f d' shut.1 h more a.after a.keeps a.fine in
        record { after = r.after; walk = parted i from.0 ok a.walk r.walk; keeps = r.keeps; fine = r.fine }
      where
        go : (items : List (Item K P)) → row.items ≡ items → ((z : Item K P) (zs : List (Item K P)) → row.items ≡ z ∷ zs → Begun g follows p z ts ls) →
            (row.items ≡ [] → Nothing g ts us ls mid) → Keeps l (counting row.counts ls ++ (ms ++ more)) ts c →
            Begins row.items ts × Keeps l (ls ++ (ms ++ more)) ts (counts_first row.counts ts c)
        go [] here begun same h =
            let s = same here in
            (rw here tt, rw (s.marks, silent n row i here) (subst (λ q. Keeps l (counting row.counts q ++ (ms ++ more)) ts c) s.marks h))
        go (z ∷ zs) here begun same h =
            let b = begun z zs here in (
              rw here (record { first = b.t; behind = b.behind; shape = b.shape }),
              rw (b.marks, b.shape) (keeps_first row.counts b.m (b.others ++ (ms ++ more)) b.t b.behind c
                  (rw (b.marks, b.shape) at h)),
            )
