-- A move before what is derived is derived, and whatever is still to come has a text.
use Rattle.std.proofs.Common.{◌≡◌, ℕ, zero, suc, ◌+◌, ◌<◌, ◌≤◌, Bool, true, false, List, [], ◌∷◌, ◌++◌, length, refl, sym, ◌∙◌, ap, subst, arith, append_assoc}
use Rattle.std.specs.Prelude.{Option, Some, None, if◌then◌else◌}
use Rattle.std.proofs.lemmas.List.{length-append as length_append}
use Rattle.ppm_grammar.specs.Rows.{In, first, later, Item, Take, Part, Row, Grammar}
use Rattle.ppm_grammar.specs.Derivation.{Due, Within, due, Mark, mark, counting, inside, Derives, nothing, token, part}
use Rattle.ppm_grammar.specs.Predictive.{is_empty, same_kind, may_be_empty, LiesBelow, HasGround}
use Rattle.ppm_grammar.specs.Stack.{Move, move, ahead, counted, or_else, chosen, move_in, move_of, next_within, next, step, can_end}
use Rattle.ppm_grammar.proofs.ListLemmas.{number_below, same_number, some_in, and_left, and_right}

module _ {T K P V C : Type 0} (g : Grammar T K P V C) where
  -- kinds of one number are one
  pub same_kind_one : (x k : K) → same_kind g x k ≡ true → x ≡ k
  same_kind_one x k h = same_number g.kinds x k (grind (arith, h))

  -- another kind of token
  pub other_kind : (x k : K) → (k ≡ x → ⊥) → same_kind g x k ≡ false
  other_kind x k h = go (same_kind g x k) refl
    where
      go : (b : Bool) → same_kind g x k ≡ b → same_kind g x k ≡ false
      go true e = absurd (h (sym (same_kind_one x k e)))
      go false e = e

  -- the items are derived with some values
  pub record Derived (xs : List (Due K P)) (ts : List T) (ms : List (Mark C)) (rest : List T) : Type 0 where
    pub values : List V
    pub derived : Derives g xs ts values ms rest

  -- what two lists of items derive, one after the other
  pub record Splits (xs ys : List (Due K P)) (ts : List T) (vs : List V) (ms : List (Mark C)) (rest : List T) : Type 0 where
    pub mid : List T
    pub before : List V
    pub behind : List V
    pub firsts : List (Mark C)
    pub lasts : List (Mark C)
    pub left : Derives g xs ts before firsts mid
    pub right : Derives g ys mid behind lasts rest
    pub values : vs ≡ before ++ behind
    pub marks : ms ≡ firsts ++ lasts

  -- by the items of the first
  pub split : (xs : List (Due K P)) {ys : List (Due K P)} {ts rest : List T} {vs : List V} {ms : List (Mark C)} → Derives g (xs ++ ys) ts vs ms rest →
      Splits xs ys ts vs ms rest
  split [] d = record { mid = _; before = []; behind = _; firsts = []; lasts = _; left = nothing; right = d; values = refl; marks = refl }
  split (Within d (Take x) ∷ xs) (token {t = t} is r) =
      let s = split xs r in
      record {
        mid = s.mid;
        before = g.value t ∷ s.before;
        behind = s.behind;
        firsts = mark d [] ∷ s.firsts;
        lasts = s.lasts;
        left = token is s.left;
        right = s.right;
        values = ap (λ q. g.value t ∷ q) s.values;
        marks = ap (λ q. mark d [] ∷ q) s.marks;
      }
  split (Within d (Part n) ∷ xs) (part {row = row} {us = us} {ls = ls} i inner r) =
      let s = split xs r in
      record {
        mid = s.mid;
        before = row.make us ∷ s.before;
        behind = s.behind;
        firsts = counting row.counts ls ++ s.firsts;
        lasts = s.lasts;
        left = part i inner s.left;
        right = s.right;
        values = ap (λ q. row.make us ∷ q) s.values;
        marks = ap (λ q. counting row.counts ls ++ q) s.marks ∙ sym (append_assoc (counting row.counts ls) s.firsts s.lasts);
      }

  -- a part with one of its rows in front
  record Gives (d : ℕ) (n : P) (ts : List T) (ms : List (Mark C)) (rest : List T) : Type 0 where
    row : Row K P V C
    values : List V
    marks : List (Mark C)
    within : In row (g.rows n)
    derived : Derives g (due (inside row d) row.items) ts values marks rest
    counted_so : counting row.counts marks ≡ ms

  -- a part is derived by one of its rows, and others after it
  given : {d : ℕ} {n : P} {xs : List (Due K P)} {ts mid rest : List T} {vs : List V} {ms ns : List (Mark C)} → Gives d n ts ms mid →
      Derives g xs mid vs ns rest → Derived (Within d (Part n) ∷ xs) ts (ms ++ ns) rest
  given {d = d} {n = n} {xs = xs} {ts = ts} {rest = rest} {vs = vs} {ns = ns} a r =
      record {
        values = a.row.make a.values ∷ vs;
        derived = subst (λ q. Derives g (Within d (Part n) ∷ xs) ts (a.row.make a.values ∷ vs) (q ++ ns) rest) a.counted_so
            (part a.within a.derived r);
      }

  -- the first row that there is a move of
  record Found (next : ℕ → P → K → Option (Move K P C)) (d : ℕ) (rows : List (Row K P V C)) (k : K) (m : Move K P C) : Type 0 where
    row : Row K P V C
    within : In row rows
    is : counted row.counts (move_in g next (inside row d) row.items k) ≡ Some m

  -- which is there where a move is
  first_found : (next : ℕ → P → K → Option (Move K P C)) (d : ℕ) (rows : List (Row K P V C)) (k : K) (m : Move K P C) →
      move_of g next d rows k ≡ Some m → Found next d rows k m
  first_found next d [] k m h = cc
  first_found next d (row ∷ rows) k m h =
      go (counted row.counts (move_in g next (inside row d) row.items k)) refl h (first_found next d rows k m)
    where
      go : (o : Option (Move K P C)) → counted row.counts (move_in g next (inside row d) row.items k) ≡ o → or_else o (move_of g next d rows k) ≡ Some m →
          (move_of g next d rows k ≡ Some m → Found next d rows k m) → Found next d (row ∷ rows) k m
      go None e h below = let b = below h in record { row = b.row; within = later b.within; is = b.is }
      go (Some m') e h below = record { row = row; within = first; is = e ∙ h }

  -- a token before what is still to come of a part
  next_sound : (f d : ℕ) (n : P) (t : T) (m : Move K P C) {ts rest : List T} {vs : List V} {ms : List (Mark C)} →
      next_within g f d n (g.kind t) ≡ Some m → Derives g m.still ts vs ms rest → Gives d n (t ∷ ts) (m.marked ∷ ms) rest
  next_sound zero d n t m h r = cc
  next_sound (suc f) d n t m {ts = ts} {rest = rest} {vs = vs} {ms = ms} h r =
      let b = first_found (next_within g f) d (g.rows n) (g.kind t) m h in
      go b.row b.within (move_in g (next_within g f) (inside b.row d) b.row.items (g.kind t)) refl b.is
      (λ e n' m' ts' vs' ms' rest' h' r'. next_sound f e n' t m' h' r')
    where
      Below : Type 0
      Below = (e : ℕ) (n' : P) (m' : Move K P C) (ts' : List T) (vs' : List V) (ms' : List (Mark C)) (rest' : List T) →
          next_within g f e n' (g.kind t) ≡ Some m' → Derives g m'.still ts' vs' ms' rest' → Gives e n' (t ∷ ts') (m'.marked ∷ ms') rest'

      items : (e : ℕ) (xs : List (Item K P)) (m0 : Move K P C) → move_in g (next_within g f) e xs (g.kind t) ≡ Some m0 → m0.still ≡ m.still →
          Below → Derived (due e xs) (t ∷ ts) (m0.marked ∷ ms) rest
      items e [] m0 is same below = cc
      items e (Take x ∷ xs) m0 is same below = taken (same_kind g x (g.kind t)) refl is
        where
          taken : (b : Bool) → same_kind g x (g.kind t) ≡ b → (if b then Some (move {C = C} (mark e []) (due e xs)) else None) ≡ Some m0 →
              Derived (Within e (Take x) ∷ due e xs) (t ∷ ts) (m0.marked ∷ ms) rest
          taken true h is =
              let m0_is : m0 ≡ move (mark e []) (due e xs) = cc in
              let still : m.still ≡ due e xs = sym same ∙ ap (λ q. q.still) m0_is in
              let r' = subst (λ q. Derives g q ts vs ms rest) still r in
              rw m0_is (record { values = _; derived = token (sym (same_kind_one x (g.kind t) h)) r' })
          taken false h is = cc
      items e (Part n' ∷ xs) m0 is same below = taken (next_within g f e n' (g.kind t)) refl is
        where
          taken : (o : Option (Move K P C)) → next_within g f e n' (g.kind t) ≡ o → ahead o (due e xs) ≡ Some m0 →
              Derived (Within e (Part n') ∷ due e xs) (t ∷ ts) (m0.marked ∷ ms) rest
          taken None h is = cc
          taken (Some m1) h is =
              let m0_is : m0 ≡ move m1.marked (m1.still ++ due e xs) = cc in
              let still : m.still ≡ m1.still ++ due e xs = sym same ∙ ap (λ q. q.still) m0_is in
              let s = split m1.still (subst (λ q. Derives g q ts vs ms rest) still r) in
              let a = given (below e n' m1 _ _ _ _ h s.left) s.right in
              rw (m0_is, s.marks) a

      go : (row : Row K P V C) → In row (g.rows n) → (o : Option (Move K P C)) → move_in g (next_within g f) (inside row d) row.items (g.kind t) ≡ o →
          counted row.counts o ≡ Some m → Below → Gives d n (t ∷ ts) (m.marked ∷ ms) rest
      go row i None e is below = cc
      go row i (Some m0) e is below =
          let m_is : m ≡ move (mark m0.marked.depth (row.counts ++ m0.marked.counts)) m0.still = cc in
          let a = items (inside row d) row.items m0 e (sym (ap (λ q. q.still) m_is)) below in
          record { row = row; values = a.values; marks = m0.marked ∷ ms; within = i; derived = a.derived; counted_so = rw m_is refl }

  -- a part that may be empty derives nothing
  record Empty (n : P) : Type 0 where
    row : Row K P V C
    within : In row (g.rows n)
    is : row.items ≡ []

  -- by its empty row
  empty_row : (n : P) → may_be_empty g n ≡ true → Empty n
  empty_row n h = let r = some_in (λ row. is_empty row) (g.rows n) h in record { row = r.found; within = r.within; is = go r.found.items r.passes }
    where
      go : (xs : List (Item K P)) → elim xs [ [] ↦ true | y ∷ ys ↦ false ] ≡ true → xs ≡ []
      go [] h = refl
      go (x ∷ xs) h = cc

  -- a part that may be empty derives nothing in front of others
  pub over_empty : {d : ℕ} {n : P} {st : List (Due K P)} {ts rest : List T} {ms : List (Mark C)} → may_be_empty g n ≡ true → Derived st ts ms rest →
      Derived (Within d (Part n) ∷ st) ts ms rest
  over_empty {d = d} {n = n} {st = st} {ts = ts} h r =
      let e = empty_row n h in
      let none : Derives g (due (inside e.row d) e.row.items) ts [] [] ts = rw e.is nothing in
      record { values = _; derived = part e.within none r.derived }

  -- a token before what is still to come is to come
  pub step_sound : (st : List (Due K P)) (t : T) (m : Move K P C) {ts rest : List T} {ms : List (Mark C)} → step g st (g.kind t) ≡ Some m →
      Derived m.still ts ms rest → Derived st (t ∷ ts) (m.marked ∷ ms) rest
  step_sound [] t m h r = cc
  step_sound (Within d (Take x) ∷ st) t m {ts = ts} {rest = rest} {ms = ms} h r = taken (same_kind g x (g.kind t)) refl h
    where
      taken : (b : Bool) → same_kind g x (g.kind t) ≡ b → (if b then Some (move {C = C} (mark d []) st) else None) ≡ Some m →
          Derived (Within d (Take x) ∷ st) (t ∷ ts) (m.marked ∷ ms) rest
      taken true h is =
          let m_is : m ≡ move (mark d []) st = cc in
          let r' = subst (λ q. Derives g q ts r.values ms rest) (ap (λ q. q.still) m_is) r.derived in
          rw m_is (record { values = _; derived = token (sym (same_kind_one x (g.kind t) h)) r' })
      taken false h is = cc
  step_sound (Within d (Part n) ∷ st) t m {ts = ts} {rest = rest} {ms = ms} h r =
      go (next g d n (g.kind t)) (may_be_empty g n) refl refl h (λ h'. step_sound st t m h' r)
    where
      go : (o : Option (Move K P C)) (b : Bool) → next g d n (g.kind t) ≡ o → may_be_empty g n ≡ b → chosen o b st (step g st (g.kind t)) ≡ Some m →
          (step g st (g.kind t) ≡ Some m → Derived st (t ∷ ts) (m.marked ∷ ms) rest) → Derived (Within d (Part n) ∷ st) (t ∷ ts) (m.marked ∷ ms) rest
      go (Some m0) b h e is below =
          let m_is : m ≡ move m0.marked (m0.still ++ st) = cc in
          let s = split m0.still (subst (λ q. Derives g q ts r.values ms rest) (ap (λ q. q.still) m_is) r.derived) in
          let a = given (next_sound (length g.parts.all) d n t m0 h s.left) s.right in
          rw (m_is, s.marks) a
      go None true h e is below = over_empty e (below is)
      go None false h e is below = cc

  -- where a text may end
  pub end_sound : (st : List (Due K P)) → can_end g st ≡ true → Derived st [] [] []
  end_sound [] h = record { values = []; derived = nothing }
  end_sound (Within d (Take x) ∷ st) h = cc
  end_sound (Within d (Part n) ∷ st) h = over_empty (and_left _ _ h) (end_sound st (and_right _ _ h))

  -- one item has one value
  pub one_value : {d : ℕ} {x : Item K P} {ts rest : List T} {vs : List V} {ms : List (Mark C)} → Derives g (Within d x ∷ []) ts vs ms rest →
      (v : V) × (vs ≡ v ∷ [])
  one_value (token {t = t} is nothing) = (g.value t, refl)
  one_value (part {row = row} {us = us} i inner nothing) = (row.make us, refl)

  -- tokens that are what is to come, in front of others
  pub record Text (xs : List (Due K P)) (rest : List T) : Type 0 where
    pub tokens : List T
    pub values : List V
    pub marks : List (Mark C)
    pub derived : Derives g xs tokens values marks rest

  -- a part in front of others
  part_text : {d : ℕ} {n : P} {row : Row K P V C} {xs : List (Due K P)} {rest : List T} → In row (g.rows n) → (r : Text xs rest) →
      Text (due (inside row d) row.items) r.tokens → Text (Within d (Part n) ∷ xs) rest
  part_text {row = row} i r a =
      record { tokens = a.tokens; values = row.make a.values ∷ r.values; marks = counting row.counts a.marks ++ r.marks; derived = part i a.derived r.derived }

  -- a token in front of others
  take_text : {d : ℕ} (x : K) {xs : List (Due K P)} {rest : List T} → Text xs rest → Text (Within d (Take x) ∷ xs) rest
  take_text {d = d} x r =
      record { tokens = g.sample x ∷ r.tokens; values = g.value (g.sample x) ∷ r.values; marks = mark d [] ∷ r.marks; derived = token (g.sampled x) r.derived }

  module _ (ground : (n : P) → HasGround g n) where
    -- a row of each part has a text, by the order in which the parts are listed
    row_text : (f : ℕ) (n : P) → length g.parts.all ≤ f + g.parts.number n → (e : ℕ) (rest : List T) → Text (due e (ground n).row.items) rest
    row_text zero n h e rest = let b = number_below g.parts n in absurd (omega (arith, h, b))
    row_text (suc f) n h e rest =
        go (λ m less e' rest'. row_text f m (omega (arith, h, less)) e' rest') (ground n).row.items (ground n).below
      where
        go : ((m : P) → g.parts.number n < g.parts.number m → (e' : ℕ) (rest' : List T) → Text (due e' (ground m).row.items) rest') →
            (xs : List (Item K P)) → LiesBelow g n xs → Text (due e xs) rest
        go below [] b = record { tokens = rest; values = []; marks = []; derived = nothing }
        go below (Take x ∷ xs) b = take_text x (go below xs b)
        go below (Part m ∷ xs) b = let r = go below xs b.1 in part_text (ground m).within r (below m b.0 (inside (ground m).row e) r.tokens)

    -- whatever is still to come has a text
    pub stack_text : (st : List (Due K P)) → Text st []
    stack_text [] = record { tokens = []; values = []; marks = []; derived = nothing }
    stack_text (Within d (Take x) ∷ st) = take_text x (stack_text st)
    stack_text (Within d (Part n) ∷ st) =
        let r = stack_text st in
        part_text (ground n).within r (row_text (length g.parts.all) n (omega arith) (inside (ground n).row d) r.tokens)

  -- each token that is derived has its mark
  pub record Consumes (ts : List T) (ms : List (Mark C)) (rest : List T) : Type 0 where
    pub front : List T
    pub shape : ts ≡ front ++ rest
    pub each : length ms ≡ length front

  -- counting more changes no length
  count_each : (cs : List C) (ms : List (Mark C)) → length (counting cs ms) ≡ length ms
  count_each cs [] = refl
  count_each cs (m ∷ ms) = refl

  -- case by case
  pub consumes : {xs : List (Due K P)} {ts rest : List T} {vs : List V} {ms : List (Mark C)} → Derives g xs ts vs ms rest → Consumes ts ms rest
  consumes nothing = record { front = []; shape = refl; each = refl }
  consumes (token {t = t} is r) = let s = consumes r in record { front = t ∷ s.front; shape = ap (λ q. t ∷ q) s.shape; each = ap suc s.each }
  consumes (part {row = row} {ls = ls} {ms = ms} i inner r) =
      let a = consumes inner in
      let b = consumes r in
      let each = count_each row.counts ls ∙ a.each in
      record {
        front = a.front ++ b.front;
        shape = a.shape ∙ ap (λ q. a.front ++ q) b.shape ∙ sym (append_assoc a.front b.front _);
        each = omega (arith, length_append (counting row.counts ls) ms, length_append a.front b.front, each, b.each);
      }
