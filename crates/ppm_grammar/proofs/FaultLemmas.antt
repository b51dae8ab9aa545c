-- The fault that the tokens go on to is their fault, and the only one.
use Rattle.std.proofs.Common.{◌≡◌, ℕ, ◌≤◌, Bool, true, false, List, [], ◌∷◌, ◌++◌, length, refl, sym, ◌∙◌, ap, subst, arith, append_assoc, inl, inr}
use Rattle.std.proofs.lemmas.List.{append-nil as append_nil}
use Rattle.std.specs.Prelude.{◌⊎◌, nat_lt, Option, Some, None}
use Rattle.ppm_grammar.specs.Rows.{Grammar}
use Rattle.ppm_grammar.specs.Derivation.{Due, Mark, Derives, beginning, Begins}
use Rattle.ppm_grammar.specs.Limits.{Limits, Tally, none_counted, passed, after_token, after_marks, Keeps}
use Rattle.ppm_grammar.specs.Faults.{Fault, Expected, Ended, TooDeep, TooMany, HasTree, StandsAt, IsFirstUnexpected, IsEnded, IsTooDeep, IsTooMany, HasFault}
use Rattle.ppm_grammar.specs.Predictive.{HasGround, IsPredictive}
use Rattle.ppm_grammar.specs.Stack.{Move, Trace, Whole, Cut, Stuck, ons, step, can_end, trace, fault_of, fault_at}
use Rattle.ppm_grammar.proofs.DerivationLemmas.{text_trace}
use Rattle.ppm_grammar.proofs.TextLemmas.{end_sound, one_value, consumes}
use Rattle.ppm_grammar.proofs.MovesLemmas.{never_cut, never_stuck, Moves, here, there, moves_each, moves_on, moves_sound, moves_trace, begins_so, they_come}

-- lists that are equal have equal heads
head_of : {A : Type 0} {x y : A} {xs ys : List A} → x ∷ xs ≡ y ∷ ys → x ≡ y
head_of h = cc

module _ {T K P V C : Type 0} (g : Grammar T K P V C) (l : Limits T C) where
  -- one token more is within the limits
  keeps_on : (front : List T) (t : T) (ts : List T) (ms : List (Mark C)) (m : Mark C) (c : Tally) → length ms ≡ length front → Keeps l ms (front ++ t ∷ ts) c →
      m.depth ≤ l.depth → passed l.most (after_token l m.counts t ts (after_marks l ms (front ++ t ∷ ts) c)) ≡ None → Keeps l (ms ++ m ∷ []) (front ++ t ∷ ts) c
  keeps_on [] t ts [] m c each k deep many = (deep, many, tt)
  keeps_on [] t ts (n ∷ ms) m c each k deep many = absurd (grind (arith, each))
  keeps_on (u ∷ front) t ts [] m c each k deep many = absurd (grind (arith, each))
  keeps_on (u ∷ front) t ts (n ∷ ms) m c each k deep many = (k.0, k.1, keeps_on front t ts ms m _ (grind (arith, each)) k.2 deep many)

  -- what was counted then
  after_on : (front : List T) (t : T) (ts : List T) (ms : List (Mark C)) (m : Mark C) (c : Tally) → length ms ≡ length front →
      after_marks l (ms ++ m ∷ []) (front ++ t ∷ ts) c ≡ after_token l m.counts t ts (after_marks l ms (front ++ t ∷ ts) c)
  after_on [] t ts [] m c each = refl
  after_on [] t ts (n ∷ ms) m c each = absurd (grind (arith, each))
  after_on (u ∷ front) t ts [] m c each = absurd (grind (arith, each))
  after_on (u ∷ front) t ts (n ∷ ms) m c each = after_on front t ts ms m _ (grind (arith, each))

  -- tokens within the limits have no fault up to the rest
  pub no_fault_before : (front rest : List T) (ms : List (Mark C)) (r : Trace C) (c : Tally) → length ms ≡ length front → Keeps l ms (front ++ rest) c →
      fault_of g l (front ++ rest) (ons ms r) c ≡ fault_of g l rest r (after_marks l ms (front ++ rest) c)
  no_fault_before [] rest [] r c each k = refl
  no_fault_before [] rest (m ∷ ms) r c each k = absurd (grind (arith, each))
  no_fault_before (t ∷ front) rest [] r c each k = absurd (grind (arith, each))
  no_fault_before (t ∷ front) rest (m ∷ ms) r c each k =
      let shallow : nat_lt l.depth m.depth ≡ false = grind (arith, k.0) in
      rw (shallow, k.1) (no_fault_before front rest ms r _ (grind (arith, each)) k.2)

  -- tokens with such a front have the fault of the rest
  behind : {st later : List (Due K P)} (front rest : List T) (ms : List (Mark C)) (c : Tally) → Moves g st front ms later → Keeps l ms (front ++ rest) c →
      fault_at g l st c (front ++ rest) ≡ fault_at g l later (after_marks l ms (front ++ rest) c) rest
  behind front rest ms c a k =
      ap (λ q. fault_of g l (front ++ rest) q c) (moves_trace g a rest) ∙ no_fault_before front rest ms _ c (moves_each g a) k

  -- a tree within the limits, or a fault
  abbrev pub Answer : List T → Type 0
  Answer ts = ((v : V) × HasTree g l ts v) ⊎ ((e : Fault) × HasFault g l ts e)

  module _ (follows : P → K → Bool) (p : IsPredictive g follows) where
    -- a stuck token begins no text with those before it
    no_beginning : (front : List T) (t : T) (ms ns : List (Mark C)) (later : List (Due K P)) → Moves g (beginning g) front ms later →
        step g later (g.kind t) ≡ None → Begins g (front ++ t ∷ []) ns → ⊥
    no_beginning front t ms ns later a is b =
        let whole = text_trace g follows p _ b.value (ns ++ b.others) b.text in
        let same : front ++ t ∷ [] ++ b.more ≡ front ++ (t ∷ b.more) = append_assoc front (t ∷ []) b.more in
        let stuck : trace g (beginning g) (front ++ (t ∷ b.more)) ≡ ons ms Stuck = moves_trace g a (t ∷ b.more) ∙ rw is refl in
        never_stuck (ns ++ b.others) ms (sym whole ∙ ap (trace g (beginning g)) same ∙ stuck)

    -- the tokens that were read end a text, or a text goes on from them
    at_the_end : (ground : (n : P) → HasGround g n) (ts : List T) (ms : List (Mark C)) (later : List (Due K P)) → Moves g (beginning g) ts ms later →
        Keeps l ms ts none_counted → (b : Bool) → can_end g later ≡ b → Answer ts
    at_the_end ground ts ms later a k true e =
        let whole = moves_sound g a (end_sound g later e) in
        let short = subst (λ q. Derives g (beginning g) q whole.values (ms ++ []) []) (append_nil ts) whole.derived in
        let exact = subst (λ q. Derives g (beginning g) ts whole.values q []) (append_nil ms) short in
        let v = one_value g exact in
        inl (v.0, record { marks = ms; text = subst (λ q. Derives g (beginning g) ts q ms []) v.1 exact; keeps = k })
    at_the_end ground ts ms later a k false e =
        inr (
          Ended,
          record {
            marks = ms;
            begins = begins_so g ground a;
            keeps = k;
            ends = λ v ns text.
                let cut : trace g (beginning g) (ts ++ []) ≡ ons ms Cut = moves_trace g a [] ∙ rw e refl in
                never_cut ns ms (sym (text_trace g follows p ts v ns text) ∙ ap (trace g (beginning g)) (sym (append_nil ts)) ∙ cut);
          },
        )

    -- the tokens after those that were read, and which fault they have
    walk : (ground : (n : P) → HasGround g n) (ts front all : List T) (ms : List (Mark C)) (later : List (Due K P)) → all ≡ front ++ ts →
        Moves g (beginning g) front ms later → Keeps l ms all none_counted → Answer all
    walk ground [] front all ms later shape a k =
        let same : all ≡ front = shape ∙ append_nil front in
        at_the_end ground all ms later (subst (λ q. Moves g (beginning g) q ms later) (sym same) a) k (can_end g later) refl
    walk ground (t ∷ ts) front all ms later shape a k =
        go (step g later (g.kind t)) refl (λ m is deep many. walk ground ts (front ++ t ∷ []) all (ms ++ m.marked ∷ []) m.still
        (shape ∙ sym (append_assoc front (t ∷ []) ts)) (moves_on g t m a is)
        (rw (← shape) at (keeps_on front t ts ms m.marked none_counted (moves_each g a) (rw shape at k) deep many)))
      where
        stands : StandsAt g l all (g.place t) front t ms
        stands = record { more = ts; shape = shape; at_place = refl; keeps = k }

        tally : Tally
        tally = after_marks l ms (front ++ t ∷ ts) none_counted

        go : (o : Option (Move K P C)) → step g later (g.kind t) ≡ o →
            ((m : Move K P C) → step g later (g.kind t) ≡ Some m → m.marked.depth ≤ l.depth →
            passed l.most (after_token l m.marked.counts t ts (after_marks l ms (front ++ t ∷ ts) none_counted)) ≡ None → Answer all) → Answer all
        go None is below =
            inr (
              Expected (g.place t),
              record {
                front = front;
                found = t;
                marks = ms;
                stands = stands;
                begins = begins_so g ground a;
                ends = λ ns b. no_beginning front t ms ns later a is b;
              },
            )
        go (Some m) is below = deep (nat_lt l.depth m.marked.depth) refl
          where
            begins : Begins g (front ++ t ∷ []) (ms ++ m.marked ∷ [])
            begins = begins_so g ground (moves_on g t m a is)

            deep : (b : Bool) → nat_lt l.depth m.marked.depth ≡ b → Answer all
            deep true e =
                inr (
                  TooDeep (g.place t),
                  record {
                    front = front;
                    found = t;
                    marks = ms;
                    last = m.marked;
                    stands = stands;
                    begins = begins;
                    deep = grind (arith, e);
                  },
                )
            deep false e = many (passed l.most (after_token l m.marked.counts t ts (after_marks l ms (front ++ t ∷ ts) none_counted))) refl
              where
                many : (o : Option ℕ) → passed l.most (after_token l m.marked.counts t ts (after_marks l ms (front ++ t ∷ ts) none_counted)) ≡ o → Answer all
                many None e' = below m is (grind (arith, e)) e'
                many (Some which) e' =
                    inr (
                      TooMany (g.place t) which,
                      record {
                        front = front;
                        found = t;
                        marks = ms;
                        last = m.marked;
                        stands = stands;
                        begins = begins;
                        shallow = grind (arith, e);
                        many = ap (λ q. passed l.most (after_marks l (ms ++ m.marked ∷ []) q none_counted)) shape
                            ∙ ap (passed l.most) (after_on front t ts ms m.marked none_counted (moves_each g a)) ∙ e';
                      },
                    )

    -- tokens have a tree within the limits or a fault
    pub answer : ((n : P) → HasGround g n) → (ts : List T) → Answer ts
    answer ground ts = walk ground ts [] ts [] (beginning g) refl here tt

    -- tokens of a text within the limits have no fault
    pub tree_has_none : (ts : List T) (v : V) → HasTree g l ts v → fault_at g l (beginning g) none_counted ts ≡ None
    tree_has_none ts v h =
        let c = consumes g h.text in
        ap (λ q. fault_of g l ts q none_counted) (text_trace g follows p ts v h.marks h.text)
        ∙ ap (λ q. fault_of g l q (ons h.marks Whole) none_counted) c.shape
        ∙ no_fault_before c.front [] h.marks Whole none_counted c.each (subst (λ q. Keeps l h.marks q none_counted) c.shape h.keeps)

    -- the last of the tokens that can come
    record Last (st : List (Due K P)) (front : List T) (t : T) (ms : List (Mark C)) (m : Mark C) : Type 0 where
      before : List (Due K P)
      moves : Moves g st front ms before
      move : Move K P C
      is : step g before (g.kind t) ≡ Some move
      marked : move.marked ≡ m

    -- which is there where several can come
    last : {st later : List (Due K P)} {all : List T} {marks : List (Mark C)} → Moves g st all marks later →
        (front : List T) (t : T) (ms : List (Mark C)) (m : Mark C) → all ≡ front ++ t ∷ [] → marks ≡ ms ++ m ∷ [] → Last st front t ms m
    last here [] t ms m a b = cc
    last here (u ∷ front) t ms m a b = cc
    last (there {st = st} {m = move} is here) [] t [] m a b =
        record { before = st; moves = here; move = move; is = ap (λ q. step g st (g.kind q)) (sym (head_of a)) ∙ is; marked = head_of b }
    last (there is here) [] t (n ∷ []) m a b = cc
    last (there is here) [] t (n ∷ o ∷ ms) m a b = cc
    last (there is here) (u ∷ []) t ms m a b = cc
    last (there is here) (u ∷ v ∷ front) t ms m a b = cc
    last (there is (there is' r)) [] t ms m a b = cc
    last (there is (there is' r)) (u ∷ front) t [] m a b = cc
    last (there {st = st} {m = move} is (there is' r)) (u ∷ front) t (n ∷ ms) m a b =
        let s = last (there is' r) front t ms m (cc) (cc) in
        record {
          before = s.before;
          move = s.move;
          is = s.is;
          marked = s.marked;
          moves = subst (λ q. Moves g st (u ∷ front) (q ∷ ms) s.before) (head_of b) (there (ap (λ q. step g st (g.kind q)) (sym (head_of a)) ∙ is) s.moves);
        }

    -- up to a token the tokens have no fault
    up_to : (front more all : List T) (t : T) (ms : List (Mark C)) (later : List (Due K P)) → Moves g (beginning g) front ms later → all ≡ front ++ t ∷ more →
        Keeps l ms all none_counted →
        fault_at g l (beginning g) none_counted all ≡ fault_at g l later (after_marks l ms (front ++ t ∷ more) none_counted) (t ∷ more)
    up_to front more all t ms later a shape k =
        ap (fault_at g l (beginning g) none_counted) shape ∙ behind front (t ∷ more) ms none_counted a (subst (λ q. Keeps l ms q none_counted) shape k)

    -- the first token that cannot come
    told_unexpected : ((n : P) → HasGround g n) → (ts : List T) (place : ℕ) → IsFirstUnexpected g l ts place →
        fault_at g l (beginning g) none_counted ts ≡ Some (Expected place)
    told_unexpected ground ts place h =
        let s = h.stands in
        let c = they_come g follows p h.front h.marks h.begins in
        up_to h.front s.more ts h.found h.marks c.later c.moves s.shape s.keeps
        ∙ go c.later (after_marks l h.marks (h.front ++ h.found ∷ s.more) none_counted) (step g c.later (g.kind h.found)) refl
        (λ m is. h.ends (h.marks ++ m.marked ∷ []) (begins_so g ground (moves_on g h.found m c.moves is)))
        ∙ ap (λ q. Some (Expected q)) s.at_place
      where
        go : (later : List (Due K P)) (c : Tally) (o : Option (Move K P C)) → step g later (g.kind h.found) ≡ o →
            ((m : Move K P C) → step g later (g.kind h.found) ≡ Some m → ⊥) →
            fault_at g l later c (h.found ∷ h.stands.more) ≡ Some (Expected (g.place h.found))
        go later c None is never = rw is refl
        go later c (Some m) is never = absurd (never m is)

    -- the end of the tokens
    told_ended : (ts : List T) → IsEnded g l ts → fault_at g l (beginning g) none_counted ts ≡ Some Ended
    told_ended ts h =
        let c = they_come g follows p ts h.marks h.begins in
        let same = sym (append_nil ts) in
        ap (fault_at g l (beginning g) none_counted) same
        ∙ behind ts [] h.marks none_counted c.moves (subst (λ q. Keeps l h.marks q none_counted) same h.keeps)
        ∙ go c.later (after_marks l h.marks (ts ++ []) none_counted) (can_end g c.later) refl (λ e. ended c.later c.moves e)
      where
        ended : (later : List (Due K P)) → Moves g (beginning g) ts h.marks later → can_end g later ≡ true → ⊥
        ended later a e =
            let whole = moves_sound g a (end_sound g later e) in
            let short = subst (λ q. Derives g (beginning g) q whole.values (h.marks ++ []) []) (append_nil ts) whole.derived in
            let v = one_value g short in
            h.ends v.0 (h.marks ++ []) (subst (λ q. Derives g (beginning g) ts q (h.marks ++ []) []) v.1 short)

        go : (later : List (Due K P)) (c : Tally) (b : Bool) → can_end g later ≡ b → (can_end g later ≡ true → ⊥) → fault_at g l later c [] ≡ Some Ended
        go later c true e never = absurd (never e)
        go later c false e never = rw e refl

    -- a token that passes a limit
    told_deep : (ts : List T) (place : ℕ) → IsTooDeep g l ts place → fault_at g l (beginning g) none_counted ts ≡ Some (TooDeep place)
    told_deep ts place h =
        let s = h.stands in
        let c = they_come g follows p (h.front ++ h.found ∷ []) (h.marks ++ h.last ∷ []) h.begins in
        let b = last c.moves h.front h.found h.marks h.last refl refl in
        let deep : nat_lt l.depth b.move.marked.depth ≡ true = rw b.marked (grind (arith, h.deep)) in
        up_to h.front s.more ts h.found h.marks b.before b.moves s.shape s.keeps
        ∙ rw (b.is, deep) (ap (λ q. Some (TooDeep q)) s.at_place)

    -- or passes a limit on a number
    told_many : (ts : List T) (place which : ℕ) → IsTooMany g l ts place which → fault_at g l (beginning g) none_counted ts ≡ Some (TooMany place which)
    told_many ts place which h =
        let s = h.stands in
        let c = they_come g follows p (h.front ++ h.found ∷ []) (h.marks ++ h.last ∷ []) h.begins in
        let b = last c.moves h.front h.found h.marks h.last refl refl in
        let shallow : nat_lt l.depth b.move.marked.depth ≡ false = rw b.marked (grind (arith, h.shallow)) in
        let before = after_marks l h.marks (h.front ++ h.found ∷ s.more) none_counted in
        let counts : passed l.most (after_token l h.last.counts h.found s.more before) ≡ Some which =
        ap (passed l.most) (sym (after_on h.front h.found s.more h.marks h.last none_counted (moves_each g b.moves)))
        ∙ ap (λ q. passed l.most (after_marks l (h.marks ++ h.last ∷ []) q none_counted)) (sym s.shape) ∙ h.many in
        let many : passed l.most (after_token l b.move.marked.counts h.found s.more before) ≡ Some which =
        rw b.marked counts in
        up_to h.front s.more ts h.found h.marks b.before b.moves s.shape s.keeps
        ∙ rw (b.is, shallow, many) (ap (λ q. Some (TooMany q which)) s.at_place)

    -- a fault is what the tokens go on to
    pub told : ((n : P) → HasGround g n) → (ts : List T) (e : Fault) → HasFault g l ts e → fault_at g l (beginning g) none_counted ts ≡ Some e
    told ground ts (Expected place) h = told_unexpected ground ts place h
    told ground ts Ended h = told_ended ts h
    told ground ts (TooDeep place) h = told_deep ts place h
    told ground ts (TooMany place which) h = told_many ts place which h
