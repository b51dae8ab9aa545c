-- What is derived is passed over, with its marks, and is derived in one way.
use Rattle.std.proofs.Common.{◌≡◌, ℕ, Bool, true, List, [], ◌∷◌, ◌++◌, refl, sym, ◌∙◌, ap, subst}
use Rattle.std.specs.Prelude.{Option, Some, None}
use Rattle.ppm_grammar.specs.Rows.{In, Item, Take, Part, Row, Grammar}
use Rattle.ppm_grammar.specs.Derivation.{Due, Within, due, Mark, mark, counting, inside, Derives, nothing, token, part, beginning, IsText}
use Rattle.ppm_grammar.specs.Predictive.{is_empty, may_be_empty, can_start, starts, may_begin, Closed, IsPredictive}
use Rattle.ppm_grammar.specs.Stack.{Move, counted, Trace, Whole, On, ons, goes_on, step, trace}
use Rattle.ppm_grammar.proofs.ListLemmas.{in_some, or_left, or_right, both}
use Rattle.ppm_grammar.proofs.StackLemmas.{same_kind_is, part_step, passed_over}

-- the items that are to come
abbrev pub items_of : {K P : Type 0} → List (Due K P) → List (Item K P)
items_of [] = []
items_of (Within d x ∷ xs) = x ∷ items_of xs

-- the items of a row are those that were put down
pub items_of_due : {K P : Type 0} (d : ℕ) (xs : List (Item K P)) → items_of (due d xs) ≡ xs
items_of_due d [] = refl
items_of_due d (x ∷ xs) = ap (λ q. x ∷ q) (items_of_due d xs)

-- the trace whose first token counts as these too
abbrev pub count_first : {C : Type 0} → List C → Trace C → Trace C
count_first cs (On m r) = On (mark m.depth (cs ++ m.counts)) r
count_first cs r = r

-- counts in front of a trace that begins with marks go to the first of these
pub count_ons : {C : Type 0} (cs : List C) (m : Mark C) (ms : List (Mark C)) (r : Trace C) →
    count_first cs (ons (m ∷ ms) r) ≡ ons (counting cs (m ∷ ms)) r
count_ons cs m ms r = refl

-- and after a move
pub count_goes_on : {K P C : Type 0} (cs : List C) (o : Option (Move K P C)) (next : List (Due K P) → Trace C) →
    goes_on (counted cs o) next ≡ count_first cs (goes_on o next)
count_goes_on cs None next = refl
count_goes_on cs (Some m) next = refl

-- marks after others
pub ons_append : {C : Type 0} (ms ns : List (Mark C)) (r : Trace C) → ons (ms ++ ns) r ≡ ons ms (ons ns r)
ons_append [] ns r = refl
ons_append (m ∷ ms) ns r = ap (On m) (ons_append ms ns r)

module _ {T K P V C : Type 0} (g : Grammar T K P V C) where
  -- no items derive nothing
  pub record Nothing (ts : List T) (vs : List V) (ms : List (Mark C)) (rest : List T) : Type 0 where
    pub tokens : ts ≡ rest
    pub values : vs ≡ []
    pub marks : ms ≡ []

  -- whose tokens are the rest
  pub derives_nothing : {xs : List (Due K P)} {ts rest : List T} {vs : List V} {ms : List (Mark C)} → Derives g xs ts vs ms rest → xs ≡ [] →
      Nothing ts vs ms rest
  derives_nothing nothing h = record { tokens = refl; values = refl; marks = refl }
  derives_nothing (token is d) h = cc
  derives_nothing (part i d e) h = cc

  -- such a token stands in front, or none
  abbrev pub Allowed : (K → Bool) → List T → Type 0
  Allowed f [] = Unit {0}
  Allowed f (t ∷ ts) = f (g.kind t) ≡ true

  module _ (follows : P → K → Bool) (p : IsPredictive g follows) where
    -- how tokens begin that are derived from a row with items
    pub record Begun (x : Item K P) (ts : List T) (ms : List (Mark C)) : Type 0 where
      pub t : T
      pub behind : List T
      pub m : Mark C
      pub others : List (Mark C)
      pub shape : ts ≡ t ∷ behind
      pub marks : ms ≡ m ∷ others
      pub starts_so : (xs : List (Item K P)) → can_start g (starts g) (x ∷ xs) (g.kind t) ≡ true

    -- the first of two lists that are one
    same_due : {d e : ℕ} {x y : Item K P} {xs zs : List (Due K P)} → Within d x ∷ xs ≡ Within e y ∷ zs → x ≡ y
    same_due h = cc

    -- a part with a row that a token can begin can begin with it
    pub begins_part : (n : P) (row : Row K P V C) (k : K) → In row (g.rows n) → can_start g (starts g) row.items k ≡ true → starts g n k ≡ true
    begins_part n row k i h = p.starts_is n k ∙ in_some (λ row. can_start g (starts g) row.items k) i h

    -- a part with an empty row may be empty
    pub may_be : (n : P) (row : Row K P V C) → In row (g.rows n) → row.items ≡ [] → may_be_empty g n ≡ true
    may_be n row i is = let h : is_empty row ≡ true = rw is refl in in_some (λ row. is_empty row) i h

    pub begins : {xs : List (Due K P)} {ts rest : List T} {vs : List V} {ms : List (Mark C)} → Derives g xs ts vs ms rest →
        (e : ℕ) (y : Item K P) (ys : List (Item K P)) (zs : List (Due K P)) → xs ≡ Within e y ∷ zs →
        (n : P) (row : Row K P V C) → In row (g.rows n) → row.items ≡ y ∷ ys → Begun y ts ms
    begins nothing e y ys zs same n row i is = cc
    begins (token {d = d} {x = x} {t = t} {ts = ts} {ms = ms} kind rest) e y ys zs same n row i is =
        let eq : y ≡ Take x = sym (same_due same) in
        record { t = t; behind = ts; m = mark d []; others = ms; shape = refl; marks = refl; starts_so = λ xs. rw (eq, kind) (same_kind_is g x) }
    begins (part {n = m} {row = inner} {xs = xs} {ts = ts} {ls = ls} {ms = ms} j d r) e y ys zs same n row i is =
        go inner.items refl (λ z zs' here. begins d (inside inner _) z zs' (due (inside inner _) zs') (ap (due (inside inner _)) here) m inner j here)
      where
        go : (items : List (Item K P)) → inner.items ≡ items → ((z : Item K P) (zs : List (Item K P)) → inner.items ≡ z ∷ zs → Begun z ts ls) →
            Begun y ts (counting inner.counts ls ++ ms)
        go [] at_start below =
            let eq : y ≡ Part m = sym (same_due same) in
            let never = (p.solid n m row ys i (is ∙ ap (λ q. q ∷ ys) eq)).0 in
            let ever = may_be m inner j at_start in absurd (cc)
        go (z ∷ zs') at_start below =
            let eq : y ≡ Part m = sym (same_due same) in
            let b = below z zs' at_start in
            let h = begins_part m inner (g.kind b.t) j (rw at_start (b.starts_so zs')) in
            record {
              t = b.t;
              behind = b.behind;
              m = mark b.m.depth (inner.counts ++ b.m.counts);
              others = b.others ++ ms;
              shape = b.shape;
              marks = rw b.marks refl;
              starts_so = λ xs. rw eq h;
            }

    -- a token that stands in front of what is derived may begin the items
    pub allowed : {xs : List (Due K P)} {ts rest : List T} {vs : List V} {ms : List (Mark C)} (f : K → Bool) → Derives g xs ts vs ms rest → Allowed f rest →
        Allowed (may_begin g (items_of xs) f) ts
    allowed f (nothing {ts = ts}) h = go ts h
      where
        go : (ts : List T) → Allowed f ts → Allowed (may_begin g [] f) ts
        go [] h = tt
        go (t ∷ ts) h = h
    allowed f (token {x = x} {t = t} is d) h = rw is (same_kind_is g x)
    allowed f (part {d = d} {n = n} {row = row} {xs = xs} {ts = ts} {mid = mid} {us = us} {ls = ls} i inner r) h =
        go row.items refl (allowed f r h)
        (λ z zs here. begins inner (inside row _) z zs (due (inside row _) zs) (ap (due (inside row _)) here) n row i here)
        (λ here. (derives_nothing inner (ap (due (inside row _)) here)).tokens)
      where
        over : (ts : List T) → may_be_empty g n ≡ true → Allowed (may_begin g (items_of xs) f) ts → Allowed (may_begin g (Part n ∷ items_of xs) f) ts
        over [] e h = tt
        over (t ∷ ts) e h = or_right (starts g n (g.kind t)) _ (both (may_be_empty g n) _ e h)

        go : (items : List (Item K P)) → row.items ≡ items → Allowed (may_begin g (items_of xs) f) mid →
            ((z : Item K P) (zs : List (Item K P)) → row.items ≡ z ∷ zs → Begun z ts ls) → (row.items ≡ [] → ts ≡ mid) →
            Allowed (may_begin g (Part n ∷ items_of xs) f) ts
        go [] here h begun same = rw (same here) (over mid (may_be n row i here) h)
        go (z ∷ zs) here h begun same =
            let b = begun z zs here in
            rw b.shape (or_left (starts g n (g.kind b.t)) _ (begins_part n row (g.kind b.t) i (rw here (b.starts_so zs))))

    -- what may follow a part in front of items
    pub behind_part : (n : P) (xs : List (Item K P)) (f : K → Bool) (mid : List T) → ((k : K) → may_begin g xs f k ≡ true → follows n k ≡ true) →
        Allowed (may_begin g xs f) mid → Allowed (follows n) mid
    behind_part n xs f [] c h = tt
    behind_part n xs f (t ∷ ts) c h = c (g.kind t) h

    -- a part that may be empty is passed over by what may follow it
    empty_over : (d : ℕ) (n : P) (ts : List T) (st : List (Due K P)) → may_be_empty g n ≡ true → Allowed (follows n) ts →
        trace g (Within d (Part n) ∷ st) ts ≡ trace g st ts
    empty_over d n [] st e h = rw e refl
    empty_over d n (t ∷ ts) st e h = rw (passed_over g follows p d n (g.kind t) st e (p.apart n (g.kind t) e h)) refl

    -- a part whose row begins so goes on as the row, with more counts
    row_over : (d : ℕ) (n : P) (row : Row K P V C) (ts : List T) (st : List (Due K P)) (x : Item K P) (xs : List (Item K P)) (ms : List (Mark C)) →
        In row (g.rows n) → row.items ≡ x ∷ xs → Begun x ts ms →
        trace g (Within d (Part n) ∷ st) ts ≡ count_first row.counts (trace g (due (inside row d) row.items ++ st) ts)
    row_over d n row ts st x xs ms i here b =
        rw (b.shape, part_step g follows p d n (g.kind b.t) row st i (rw here (b.starts_so xs)))
        (count_goes_on row.counts (step g (due (inside row d) row.items ++ st) (g.kind b.t)) (λ later. trace g later b.behind))

    -- what is derived is passed over, with its marks
    pub passes : {xs : List (Due K P)} {ts rest : List T} {vs : List V} {ms : List (Mark C)} (f : K → Bool) → Derives g xs ts vs ms rest →
        Closed g follows (items_of xs) f → Allowed f rest → (st : List (Due K P)) → trace g (xs ++ st) ts ≡ ons ms (trace g st rest)
    passes f nothing c h st = refl
    passes f (token {x = x} {t = t} is d) c h st = rw (is, same_kind_is g x) (rw (passes f d c h st) refl)
    passes f (part {d = d} {n = n} {row = row} {xs = xs} {ts = ts} {mid = mid} {rest = rest} {us = us} {ls = ls} {ms = ms} i inner r) c h st =
        let ok : Allowed (follows n) mid = behind_part n (items_of xs) f mid c.0 (allowed f r h) in
        let shut : Closed g follows (items_of (due (inside row d) row.items)) (follows n) = rw (items_of_due (inside row d) row.items) (p.closed n row i) in
        go row.items refl ok (passes (follows n) inner shut ok (xs ++ st)) (passes f r c.1 h st)
        (λ z zs here. begins inner (inside row _) z zs (due (inside row _) zs) (ap (due (inside row _)) here) n row i here)
        (λ here. derives_nothing inner (ap (due (inside row _)) here))
      where
        go : (items : List (Item K P)) → row.items ≡ items → Allowed (follows n) mid →
            trace g (due (inside row d) row.items ++ (xs ++ st)) ts ≡ ons ls (trace g (xs ++ st) mid) →
            trace g (xs ++ st) mid ≡ ons ms (trace g st rest) →
            ((z : Item K P) (zs : List (Item K P)) → row.items ≡ z ∷ zs → Begun z ts ls) → (row.items ≡ [] → Nothing ts us ls mid) →
            trace g (Within d (Part n) ∷ xs ++ st) ts ≡ ons (counting row.counts ls ++ ms) (trace g st rest)
        go [] here ok one two begun same =
            let s = same here in
            rw (s.tokens, s.marks) (empty_over d n mid (xs ++ st) (may_be n row i here) ok ∙ two)
        go (z ∷ zs) here ok one two begun same =
            let b = begun z zs here in
            row_over d n row ts (xs ++ st) z zs ls i here b
            ∙ ap (count_first row.counts) one
            ∙ rw (b.marks, two) (count_ons row.counts b.m b.others (ons ms (trace g st rest))
            ∙ sym (ons_append (counting row.counts (b.m ∷ b.others)) ms (trace g st rest)))

    -- no token both follows the part, which may be empty, and begins one of its rows
    never_both : (n : P) (row : Row K P V C) (x : Item K P) (xs : List (Item K P)) (ts : List T) (ms : List (Mark C)) → may_be_empty g n ≡ true →
        In row (g.rows n) → row.items ≡ x ∷ xs → Begun x ts ms → Allowed (follows n) ts → ⊥
    never_both n row x xs ts ms e i here b h =
        let h' : follows n (g.kind b.t) ≡ true = subst (Allowed (follows n)) b.shape h in
        let no_start = p.apart n (g.kind b.t) e h' in
        let start = begins_part n row (g.kind b.t) i (rw here (b.starts_so xs)) in absurd (cc)

    -- two rows that derive from the same tokens are one
    same_row : (n : P) (row other : Row K P V C) (d e : ℕ) {ts mid mid' : List T} {us us' : List V} {ls ls' : List (Mark C)} → In row (g.rows n) →
        In other (g.rows n) → Derives g (due d row.items) ts us ls mid → Derives g (due e other.items) ts us' ls' mid' → Allowed (follows n) mid →
        Allowed (follows n) mid' → row ≡ other
    same_row n row other d e {ts = ts} {mid = mid} {mid' = mid'} {us = us} {us' = us'} {ls = ls} {ls' = ls'} i j r r' h h' =
        go row.items other.items refl refl
        (λ z zs here. begins r d z zs (due d zs) (ap (due d) here) n row i here) (λ here. (derives_nothing r (ap (due d) here)).tokens)
        (λ z zs here. begins r' e z zs (due e zs) (ap (due e) here) n other j here) (λ here. (derives_nothing r' (ap (due e) here)).tokens)
      where
        go : (xs ys : List (Item K P)) → row.items ≡ xs → other.items ≡ ys →
            ((z : Item K P) (zs : List (Item K P)) → row.items ≡ z ∷ zs → Begun z ts ls) → (row.items ≡ [] → ts ≡ mid) →
            ((z : Item K P) (zs : List (Item K P)) → other.items ≡ z ∷ zs → Begun z ts ls') → (other.items ≡ [] → ts ≡ mid') → row ≡ other
        go [] [] a b begun same begun' same' =
            let u : is_empty row ≡ true = rw a refl in let v : is_empty other ≡ true = rw b refl in p.one_empty n row other i j u v
        go [] (y ∷ ys) a b begun same begun' same' =
            absurd (never_both n other y ys ts ls' (may_be n row i a) j b (begun' y ys b) (subst (Allowed (follows n)) (sym (same a)) h))
        go (x ∷ xs) [] a b begun same begun' same' =
            absurd (never_both n row x xs ts ls (may_be n other j b) i a (begun x xs a) (subst (Allowed (follows n)) (sym (same' b)) h'))
        go (x ∷ xs) (y ∷ ys) a b begun same begun' same' =
            let u = begun x xs a in
            let v = begun' y ys b in
            let t : v.t ≡ u.t = cc (u.shape, v.shape) in
            p.single n (g.kind u.t) row other i j (rw a (u.starts_so xs)) (rw b (rw t at (v.starts_so ys)))

    -- two derivations agree
    pub record Agree (vs vs' : List V) (ms ms' : List (Mark C)) (rest rest' : List T) : Type 0 where
      pub values : vs ≡ vs'
      pub marks : ms ≡ ms'
      pub rests : rest ≡ rest'

    -- what is derived is derived in one way
    pub one : {xs : List (Due K P)} {ts rest rest' : List T} {vs vs' : List V} {ms ms' : List (Mark C)} (f : K → Bool) → Derives g xs ts vs ms rest →
        Derives g xs ts vs' ms' rest' → Closed g follows (items_of xs) f → Allowed f rest → Allowed f rest' → Agree vs vs' ms ms' rest rest'
    one f nothing nothing c h h' = record { values = refl; marks = refl; rests = refl }
    one f (token {d = d} {t = t} is r) (token is' r') c h h' =
        let s = one f r r' c h h' in record { values = ap (λ q. g.value t ∷ q) s.values; marks = ap (λ q. mark d [] ∷ q) s.marks; rests = s.rests }
    one {xs = Within d (Part n) ∷ xs} {rest = rest} {rest' = rest'} f (part {row = row} {ts = ts} {mid = mid} {us = us} {ls = ls} i inner r)
        (part {row = other} {mid = mid'} {us = us'} {vs = vs'} {ls = ls'} {ms = ms'} j inner' r') c h h' =
        let ok = behind_part n (items_of xs) f mid c.0 (allowed f r h) in
        let ok' = behind_part n (items_of xs) f mid' c.0 (allowed f r' h') in
        let shut : Closed g follows (items_of (due (inside row d) row.items)) (follows n) = rw (items_of_due (inside row d) row.items) (p.closed n row i) in
        let same = same_row n row other (inside row d) (inside other d) i j inner inner' ok ok' in
        let a = one (follows n) inner (subst (λ q. Derives g (due (inside q d) q.items) ts us' ls' mid') (sym same) inner') shut ok ok' in
        let b = one f r (subst (λ q. Derives g xs q vs' ms' rest') (sym a.rests) r') c.1 h h' in
        record {
          values = λ k. (same k).make (a.values k) ∷ b.values k;
          marks = λ k. counting (same k).counts (a.marks k) ++ b.marks k;
          rests = b.rests;
        }

    -- a text goes on so to its end
    pub text_trace : (ts : List T) (v : V) (ms : List (Mark C)) → IsText g ts v ms → trace g (beginning g) ts ≡ ons ms Whole
    text_trace ts v ms a = passes (follows g.whole) a ((λ k h. h), tt) tt []

    -- a text has one value and one list of marks
    pub one_text : (ts : List T) (v w : V) (ms ns : List (Mark C)) → IsText g ts v ms → IsText g ts w ns → (v ≡ w) × (ms ≡ ns)
    one_text ts v w ms ns a b =
        let s = one (follows g.whole) a b ((λ k h. h), tt) tt tt in
        let same = s.values in (cc same, s.marks)
