-- Tokens that can come one after the other: a text of the grammar begins with them, and they have its marks.
use Rattle.std.proofs.Common.{◌≡◌, suc, Bool, List, [], ◌∷◌, ◌++◌, length, refl, ap, subst, arith}
use Rattle.std.specs.Prelude.{Option, Some, None}
use Rattle.ppm_grammar.specs.Rows.{Grammar}
use Rattle.ppm_grammar.specs.Derivation.{Due, Mark, Derives, beginning, Begins}
use Rattle.ppm_grammar.specs.Predictive.{HasGround, IsPredictive}
use Rattle.ppm_grammar.specs.Stack.{Move, Trace, Whole, Cut, Stuck, On, ons, goes_on, step, trace}
use Rattle.ppm_grammar.proofs.TextLemmas.{Derived, step_sound, one_value, stack_text}
use Rattle.ppm_grammar.proofs.DerivationLemmas.{text_trace}

-- how the last trace ends is how both end
pub never_cut : {C : Type 0} (ms ns : List (Mark C)) → ons ms Whole ≡ ons ns Cut → ⊥
never_cut [] [] h = cc
never_cut [] (n ∷ ns) h = cc
never_cut (m ∷ ms) [] h = cc
never_cut (m ∷ ms) (n ∷ ns) h = let h' : ons ms Whole ≡ ons ns Cut = cc in never_cut ms ns h'

-- nor is one stuck
pub never_stuck : {C : Type 0} (ms ns : List (Mark C)) → ons ms Whole ≡ ons ns Stuck → ⊥
never_stuck [] [] h = cc
never_stuck [] (n ∷ ns) h = cc
never_stuck (m ∷ ms) [] h = cc
never_stuck (m ∷ ms) (n ∷ ns) h = let h' : ons ms Whole ≡ ons ns Stuck = cc in never_stuck ms ns h'

module _ {T K P V C : Type 0} (g : Grammar T K P V C) where
  -- the tokens can come, with these marks, and then this is still to come
  pub data Moves : List (Due K P) → List T → List (Mark C) → List (Due K P) → Type 0 where
    here : {st : List (Due K P)} → Moves st [] [] st
    there : {st later : List (Due K P)} {t : T} {ts : List T} {m : Move K P C} {ms : List (Mark C)} → step g st (g.kind t) ≡ Some m →
        Moves m.still ts ms later → Moves st (t ∷ ts) (m.marked ∷ ms) later

  -- each token has its mark
  pub moves_each : {st later : List (Due K P)} {ts : List T} {ms : List (Mark C)} → Moves st ts ms later → length ms ≡ length ts
  moves_each here = refl
  moves_each (there is r) = ap suc (moves_each r)

  -- one token more
  pub moves_on : {st later : List (Due K P)} {ts : List T} {ms : List (Mark C)} (t : T) (m : Move K P C) → Moves st ts ms later →
      step g later (g.kind t) ≡ Some m → Moves st (ts ++ t ∷ []) (ms ++ m.marked ∷ []) m.still
  moves_on t m here is = there is here
  moves_on t m (there is' r) is = there is' (moves_on t m r is)

  -- what was derived after the tokens is derived with them
  pub moves_sound : {st later : List (Due K P)} {front ts rest : List T} {ms ns : List (Mark C)} → Moves st front ms later → Derived g later ts ns rest →
      Derived g st (front ++ ts) (ms ++ ns) rest
  moves_sound here r = r
  moves_sound {st = st} (there {t = t} {m = m} is a) r = step_sound g st t m is (moves_sound a r)

  -- how the tokens and others go on
  pub moves_trace : {st later : List (Due K P)} {front : List T} {ms : List (Mark C)} → Moves st front ms later → (rest : List T) →
      trace g st (front ++ rest) ≡ ons ms (trace g later rest)
  moves_trace here rest = refl
  moves_trace (there is a) rest = rw (is, moves_trace a rest) refl

  -- where they go on with marks, they can come
  record Comes (st : List (Due K P)) (front : List T) (ms : List (Mark C)) (more : List T) (ns : List (Mark C)) (end : Trace C) : Type 0 where
    later : List (Due K P)
    moves : Moves st front ms later
    others : trace g later more ≡ ons ns end

  -- token by token
  comes : (st : List (Due K P)) (front more : List T) (ms ns : List (Mark C)) (end : Trace C) → trace g st (front ++ more) ≡ ons (ms ++ ns) end →
      length ms ≡ length front → Comes st front ms more ns end
  comes st [] more [] ns end h each = record { later = st; moves = here; others = h }
  comes st [] more (m ∷ ms) ns end h each = absurd (grind (arith, each))
  comes st (t ∷ front) more [] ns end h each = absurd (grind (arith, each))
  comes st (t ∷ front) more (m ∷ ms) ns end h each =
      go (step g st (g.kind t)) refl h (λ later h'. comes later front more ms ns end h' (grind (arith, each)))
    where
      go : (o : Option (Move K P C)) → step g st (g.kind t) ≡ o → goes_on o (λ later. trace g later (front ++ more)) ≡ On m (ons (ms ++ ns) end) →
          ((later : List (Due K P)) → trace g later (front ++ more) ≡ ons (ms ++ ns) end → Comes later front ms more ns end) →
          Comes st (t ∷ front) (m ∷ ms) more ns end
      go None is h below = cc
      go (Some m') is h below =
          let same : m'.marked ≡ m = cc in
          let b = below m'.still (cc) in
          record { later = b.later; moves = subst (λ q. Moves st (t ∷ front) (q ∷ ms) b.later) same (there is b.moves); others = b.others }

  -- a text begins with tokens that can come
  pub begins_so : ((n : P) → HasGround g n) → {later : List (Due K P)} {ts : List T} {ms : List (Mark C)} → Moves (beginning g) ts ms later → Begins g ts ms
  begins_so ground {later = later} {ts = ts} {ms = ms} a =
      let more = stack_text g ground later in
      let whole = moves_sound a (record { values = more.values; derived = more.derived }) in
      let v = one_value g whole.derived in
      record {
        more = more.tokens;
        value = v.0;
        others = more.marks;
        each = moves_each a;
        text = subst (λ q. Derives g (beginning g) (ts ++ more.tokens) q (ms ++ more.marks) []) v.1 whole.derived;
      }

  -- and they can come where a text begins with them
  pub record Come (ts : List T) (ms : List (Mark C)) : Type 0 where
    pub later : List (Due K P)
    pub moves : Moves (beginning g) ts ms later

  -- by what is derived
  pub they_come : (follows : P → K → Bool) → IsPredictive g follows → (ts : List T) (ms : List (Mark C)) → Begins g ts ms → Come ts ms
  they_come follows p ts ms b =
      let c = comes (beginning g) ts b.more ms b.others Whole (text_trace g follows p (ts ++ b.more) b.value (ms ++ b.others) b.text) b.each in
      record { later = c.later; moves = c.moves }
