-- A part that goes on with one of its rows, or with none.
use Rattle.std.proofs.Common.{◌≡◌, ℕ, ◌≤◌, Bool, true, false, List, [], ◌∷◌, ◌++◌, refl, sym, ◌∙◌, ap, subst, append_assoc}
use Rattle.std.specs.Prelude.{◌&&◌, Option, Some, None}
use Rattle.ppm_grammar.specs.Rows.{In, first, later, Item, Take, Part, Row, Grammar}
use Rattle.ppm_grammar.specs.Derivation.{Due, Within, due, Mark, mark, counting, inside, Derives, nothing, token, part}
use Rattle.ppm_grammar.specs.Limits.{Limits, Tally, passed, with_counts, after_token, after_marks, Keeps}
use Rattle.ppm_grammar.specs.Predictive.{may_be_empty, can_start, starts, IsPredictive}
use Rattle.ppm_grammar.specs.Stack.{Move, counted, Trace, Whole, Cut, Stuck, On, ons, step, can_end, trace, fault_of, fault_at}
use Rattle.ppm_grammar.specs.Reading.{Reads}
use Rattle.ppm_grammar.proofs.StackLemmas.{same_kind_is, part_step, passed_over, next_none}
use Rattle.ppm_grammar.proofs.DerivationLemmas.{count_first, count_goes_on, count_ons, begins, Begun, begins_part, may_be}
use Rattle.ppm_grammar.proofs.LeadsLemmas.{LeadsTo, on, leads_token, fronts, backs}
use Rattle.ppm_grammar.proofs.TextLemmas.{other_kind}

-- counting nothing more changes nothing
count_none : {C : Type 0} (ms : List (Mark C)) → counting [] ms ≡ ms
count_none [] = refl
count_none (m ∷ ms) = refl

-- nor a move
counted_none : {K P C : Type 0} (o : Option (Move K P C)) → counted [] o ≡ o
counted_none None = refl
counted_none (Some m) = refl

module _ {T K P V C : Type 0} (g : Grammar T K P V C) (l : Limits T C) where
  -- what counts as two lists counts as the one and then as the other
  after_append : (cs ds : List C) (t : T) (ts : List T) (c : Tally) → after_token l (cs ++ ds) t ts c ≡ after_token l ds t ts (after_token l cs t ts c)
  after_append [] ds t ts c = refl
  after_append (x ∷ cs) ds t ts c = after_append cs ds t ts (with_counts (l.counts x t ts) c)

  -- the first token's counts, before those of its own mark
  count_fault : (cs : List C) (t : T) (ts : List T) (r : Trace C) (c : Tally) →
      fault_of g l (t ∷ ts) (count_first cs r) c ≡ fault_of g l (t ∷ ts) r (after_token l cs t ts c)
  count_fault cs t ts Whole c = refl
  count_fault cs t ts Cut c = refl
  count_fault cs t ts Stuck c = refl
  count_fault cs t ts (On m r) c = rw (after_append cs m.counts t ts c) refl

  -- the limits are kept with these counts of the first token
  count_keeps : (cs : List C) (m : Mark C) (ms : List (Mark C)) (t : T) (ts : List T) (c c' : Tally) → after_token l cs t ts c ≡ c' →
      Keeps l (m ∷ ms) (t ∷ ts) c' → Keeps l (counting cs (m ∷ ms)) (t ∷ ts) c
  count_keeps cs m ms t ts c c' tally k =
      let same : after_token l (cs ++ m.counts) t ts c ≡ after_token l m.counts t ts c' =
      after_append cs m.counts t ts c ∙ ap (after_token l m.counts t ts) tally in
      (k.0, ap (passed l.most) same ∙ k.1, subst (Keeps l ms ts) (sym same) k.2)

  -- and so much was counted
  count_after : (cs : List C) (m : Mark C) (ms : List (Mark C)) (t : T) (ts : List T) (c c' : Tally) → after_token l cs t ts c ≡ c' →
      after_marks l (counting cs (m ∷ ms)) (t ∷ ts) c ≡ after_marks l (m ∷ ms) (t ∷ ts) c'
  count_after cs m ms t ts c c' tally =
      ap (after_marks l ms ts) (after_append cs m.counts t ts c ∙ ap (after_token l m.counts t ts) tally)

  -- items of a row in front of others
  record Parts (e : ℕ) (items : List (Item K P)) (ys : List (Due K P)) (ts : List T) (vs : List V) (ms : List (Mark C)) (rest : List T) : Type 0 where
    mid : List T
    firsts : List (Mark C)
    lasts : List (Mark C)
    left : Derives g (due e items) ts (fronts items vs) firsts mid
    right : Derives g ys mid (backs items vs) lasts rest
    marks : ms ≡ firsts ++ lasts

  -- their values apart
  parts : (e : ℕ) (items : List (Item K P)) {ys : List (Due K P)} {ts rest : List T} {vs : List V} {ms : List (Mark C)} →
      Derives g (due e items ++ ys) ts vs ms rest → Parts e items ys ts vs ms rest
  parts e [] d = record { mid = _; firsts = []; lasts = _; left = nothing; right = d; marks = refl }
  parts e (Take x ∷ items) (token {t = t} is r) =
      let s = parts e items r in
      record { mid = s.mid; firsts = mark e [] ∷ s.firsts; lasts = s.lasts; left = token is s.left; right = s.right; marks = ap (λ q. mark e [] ∷ q) s.marks }
  parts e (Part n ∷ items) (part {row = row} {us = us} {ls = ls} i inner r) =
      let s = parts e items r in
      record {
        mid = s.mid;
        firsts = counting row.counts ls ++ s.firsts;
        lasts = s.lasts;
        left = part i inner s.left;
        right = s.right;
        marks = ap (λ q. counting row.counts ls ++ q) s.marks ∙ sym (append_assoc (counting row.counts ls) s.firsts s.lasts);
      }

  -- a part with a row, by how the tokens go on and what they count
  row_reads : {c c' c'' : Tally} {d : ℕ} {n : P} {row : Row K P V C} {xs : List (Due K P)} {ts end : List T} {vs : List V} → In row (g.rows n) →
      (r : Reads g l c' (due (inside row d) row.items ++ xs) ts vs c'' end) → (s : Parts (inside row d) row.items xs ts vs r.marks end) →
      Keeps l (counting row.counts s.firsts ++ s.lasts) ts c → after_marks l (counting row.counts s.firsts ++ s.lasts) ts c ≡ c'' →
      ((st : List (Due K P)) → trace g (Within d (Part n) ∷ xs ++ st) ts ≡ ons (counting row.counts s.firsts ++ s.lasts) (trace g st end)) →
      Reads g l c (Within d (Part n) ∷ xs) ts (row.make (fronts row.items vs) ∷ backs row.items vs) c'' end
  row_reads {row = row} i r s k a p =
      record { marks = counting row.counts s.firsts ++ s.lasts; derived = part i s.left s.right; keeps = k; counts = a; passes = p }

  module _ (follows : P → K → Bool) (p : IsPredictive g follows) where
    -- where a token is in front that can begin a row, the part goes on with the row, whose first token counts as more
    pub leads_into : {c c' : Tally} {d : ℕ} {n : P} {t : T} {xs : List (Due K P)} {ts rest : List T} (row : Row K P V C) → In row (g.rows n) → ts ≡ t ∷ rest →
        can_start g (starts g) row.items (g.kind t) ≡ true → after_token l row.counts t rest c ≡ c' →
        LeadsTo g l c (Within d (Part n) ∷ xs) ts (λ vs. row.make (fronts row.items vs) ∷ backs row.items vs) c' (due (inside row d) row.items ++ xs) ts
    leads_into {c = c} {c' = c'} {d = d} {n = n} {t = t} {xs = xs} {ts = ts} {rest = rest} row i is can tally = record {
      reads = λ end vs c'' r. reads end vs c'' r;
      same = told;
    }
      where
        over : (st : List (Due K P)) →
            trace g (Within d (Part n) ∷ xs ++ st) ts ≡ count_first row.counts (trace g (due (inside row d) row.items ++ (xs ++ st)) ts)
        over st =
            rw (is, part_step g follows p d n (g.kind t) row (xs ++ st) i can)
            (count_goes_on row.counts (step g (due (inside row d) row.items ++ (xs ++ st)) (g.kind t)) (λ later. trace g later rest))

        told : (st : List (Due K P)) → fault_at g l (Within d (Part n) ∷ xs ++ st) c ts ≡ fault_at g l (due (inside row d) row.items ++ xs ++ st) c' ts
        told st =
            ap (λ q. fault_of g l ts q c) (over st)
            ∙ ap (λ q. fault_of g l ts (count_first row.counts (trace g q ts)) c) (sym (append_assoc (due (inside row d) row.items) xs st))
            ∙ rw is (count_fault row.counts t rest (trace g (due (inside row d) row.items ++ xs ++ st) (t ∷ rest)) c)
            ∙ ap (fault_of g l ts (trace g (due (inside row d) row.items ++ xs ++ st) ts)) tally

        reads : (end : List T) (vs : List V) (c'' : Tally) → Reads g l c' (due (inside row d) row.items ++ xs) ts vs c'' end →
            Reads g l c (Within d (Part n) ∷ xs) ts (row.make (fronts row.items vs) ∷ backs row.items vs) c'' end
        reads end vs c'' r = go (parts (inside row d) row.items r.derived)
          where
            go : Parts (inside row d) row.items xs ts vs r.marks end →
                Reads g l c (Within d (Part n) ∷ xs) ts (row.make (fronts row.items vs) ∷ backs row.items vs) c'' end
            go s =
                begun row.items refl
                (λ y ys here. begins g follows p s.left (inside row d) y ys (due (inside row d) ys) (ap (due (inside row d)) here) n row i here)
              where
                begun : (items : List (Item K P)) → row.items ≡ items →
                    ((y : Item K P) (ys : List (Item K P)) → row.items ≡ y ∷ ys → Begun g follows p y ts s.firsts) →
                    Reads g l c (Within d (Part n) ∷ xs) ts (row.make (fronts row.items vs) ∷ backs row.items vs) c'' end
                begun [] here b = let never = rw here at can in absurd (cc)
                begun (y ∷ ys) here b =
                    let m = b y ys here in
                    let first_marks : r.marks ≡ m.m ∷ m.others ++ s.lasts = s.marks ∙ rw m.marks refl in
                    let last_marks : counting row.counts (m.m ∷ m.others ++ s.lasts) ≡ counting row.counts s.firsts ++ s.lasts = rw m.marks refl in
                    let keeps = subst (λ q. Keeps l r.marks q c') is r.keeps in
                    let counts = ap (λ q. after_marks l r.marks q c') (sym is) ∙ r.counts in
                    row_reads i r s
                    (subst (λ q. Keeps l q ts c) last_marks (subst (λ q. Keeps l (counting row.counts (m.m ∷ m.others ++ s.lasts)) q c) (sym is)
                    (count_keeps row.counts m.m (m.others ++ s.lasts) t rest c c' tally (subst (λ q. Keeps l q (t ∷ rest) c') first_marks keeps))))
                    (ap (λ q. after_marks l q ts c) (sym last_marks) ∙ ap (λ q. after_marks l (counting row.counts (m.m ∷ m.others ++ s.lasts)) q c) is
                    ∙ count_after row.counts m.m (m.others ++ s.lasts) t rest c c' tally ∙ ap (λ q. after_marks l q (t ∷ rest) c') (sym first_marks) ∙ counts)
                    (λ st. over st
                    ∙ ap (count_first row.counts) (ap (λ q. trace g q ts) (sym (append_assoc (due (inside row d) row.items) xs st)) ∙ r.passes st)
                    ∙ ap (λ q. count_first row.counts (ons q (trace g st end))) first_marks
                    ∙ count_ons row.counts m.m (m.others ++ s.lasts) (trace g st end) ∙ ap (λ q. ons q (trace g st end)) last_marks)

    -- a part whose first token is that of another in one of its rows, which counts nothing, goes on with the row
    corner_trace : (d : ℕ) (n m : P) (row : Row K P V C) (ys : List (Item K P)) → In row (g.rows n) → row.counts ≡ [] → row.items ≡ Part m ∷ ys →
        (ts : List T) (st : List (Due K P)) → (ts ≡ [] → (may_be_empty g n && can_end g st) ≡ false) →
        ((t : T) (rest : List T) → ts ≡ t ∷ rest → starts g m (g.kind t) ≡ false → step g (Within d (Part n) ∷ st) (g.kind t) ≡ None) →
        trace g (Within d (Part n) ∷ st) ts ≡ trace g (due (inside row d) row.items ++ st) ts
    corner_trace d n m row ys within none items ts st ends stuck = go ts ends stuck
      where
        not_below : may_be_empty g m ≡ false
        not_below = (p.solid n m row ys within items).0

        go : (ts : List T) → (ts ≡ [] → (may_be_empty g n && can_end g st) ≡ false) →
            ((t : T) (rest : List T) → ts ≡ t ∷ rest → starts g m (g.kind t) ≡ false → step g (Within d (Part n) ∷ st) (g.kind t) ≡ None) →
            trace g (Within d (Part n) ∷ st) ts ≡ trace g (due (inside row d) row.items ++ st) ts
        go [] ends stuck = rw (ends refl, items, not_below) refl
        go (t ∷ ts) ends stuck = can (starts g m (g.kind t)) refl
          where
            can : (b : Bool) → starts g m (g.kind t) ≡ b → trace g (Within d (Part n) ∷ st) (t ∷ ts) ≡ trace g (due (inside row d) row.items ++ st) (t ∷ ts)
            can true e =
                let begins : can_start g (starts g) row.items (g.kind t) ≡ true = rw items e in
                let same = part_step g follows p d n (g.kind t) row st within begins
                ∙ ap (λ q. counted q (step g (due (inside row d) row.items ++ st) (g.kind t))) none
                ∙ counted_none (step g (due (inside row d) row.items ++ st) (g.kind t)) in
                rw same refl
            can false e = rw (stuck t ts refl e, items, next_none g follows p (inside row d) m (g.kind t) e, not_below) refl

    -- the tokens lead on to the items of the row
    leads_corner : {c : Tally} {d : ℕ} {n : P} {xs : List (Due K P)} {ts : List T} (row : Row K P V C) → In row (g.rows n) → row.counts ≡ [] →
        ((st : List (Due K P)) → trace g (Within d (Part n) ∷ xs ++ st) ts ≡ trace g (due (inside row d) row.items ++ (xs ++ st)) ts) →
        LeadsTo g l c (Within d (Part n) ∷ xs) ts (λ vs. row.make (fronts row.items vs) ∷ backs row.items vs) c (due (inside row d) row.items ++ xs) ts
    leads_corner {c = c} {d = d} {n = n} {xs = xs} {ts = ts} row within none same = record {
      reads = λ end vs c'' r.
          let s = parts (inside row d) row.items r.derived in
          let marks : r.marks ≡ counting row.counts s.firsts ++ s.lasts =
          s.marks ∙ ap (λ q. q ++ s.lasts) (sym (count_none s.firsts)) ∙ ap (λ q. counting q s.firsts ++ s.lasts) (sym none) in
          row_reads within r s (subst (λ q. Keeps l q ts c) marks r.keeps) (ap (λ q. after_marks l q ts c) (sym marks) ∙ r.counts)
          (λ st. over st ∙ r.passes st ∙ ap (λ q. ons q (trace g st end)) marks);
      same = λ st. ap (λ q. fault_of g l ts q c) (over st);
    }
      where
        over : (st : List (Due K P)) → trace g (Within d (Part n) ∷ xs ++ st) ts ≡ trace g (due (inside row d) row.items ++ xs ++ st) ts
        over st = same st ∙ ap (λ q. trace g q ts) (sym (append_assoc (due (inside row d) row.items) xs st))

    -- a part that has tokens goes on with a row that begins with a part and counts nothing, where no other row can begin with the token in front
    pub leads_other : {c : Tally} {d : ℕ} {n m : P} {ys : List (Item K P)} {xs : List (Due K P)} {ts : List T} (row : Row K P V C) → In row (g.rows n) →
        may_be_empty g n ≡ false → row.counts ≡ [] → row.items ≡ Part m ∷ ys →
        ((t : T) (rest : List T) → ts ≡ t ∷ rest → starts g m (g.kind t) ≡ false → starts g n (g.kind t) ≡ false) →
        LeadsTo g l c (Within d (Part n) ∷ xs) ts (λ vs. row.make (fronts row.items vs) ∷ backs row.items vs) c (due (inside row d) row.items ++ xs) ts
    leads_other {c = c} {d = d} {n = n} {m = m} {ys = ys} {xs = xs} {ts = ts} row within full none items other =
        leads_corner {c = c} {d = d} {n = n} {xs = xs} {ts = ts} row within none
        (λ st. corner_trace d n m row ys within none items ts (xs ++ st) (λ e. rw full refl)
        (λ t rest is e. rw (next_none g follows p d n (g.kind t) (other t rest is e), full) refl))

    -- a part with one row alone, which begins with a part and counts nothing, is that row
    pub leads_only : {c : Tally} {d : ℕ} {n m : P} {ys : List (Item K P)} {xs : List (Due K P)} {ts : List T} (row : Row K P V C) → g.rows n ≡ row ∷ [] →
        row.counts ≡ [] → row.items ≡ Part m ∷ ys →
        LeadsTo g l c (Within d (Part n) ∷ xs) ts (λ vs. row.make (fronts row.items vs) ∷ backs row.items vs) c (due (inside row d) row.items ++ xs) ts
    leads_only {c = c} {d = d} {n = n} {m = m} {ys = ys} {xs = xs} {ts = ts} row rows none items =
        leads_corner {c = c} {d = d} {n = n} {xs = xs} {ts = ts} row within none
        (λ st. corner_trace d n m row ys within none items ts (xs ++ st) (λ e. rw not_empty refl) (λ t rest is e. stuck t e (xs ++ st)))
      where
        within : In row (g.rows n)
        within = subst (In row) (sym rows) first

        not_empty : may_be_empty g n ≡ false
        not_empty = rw (rows, items) refl

        stuck : (t : T) → starts g m (g.kind t) ≡ false → (st : List (Due K P)) → step g (Within d (Part n) ∷ st) (g.kind t) ≡ None
        stuck t e st =
            let never : starts g n (g.kind t) ≡ false = p.starts_is n (g.kind t) ∙ rw (rows, items, e) refl in
            rw (next_none g follows p d n (g.kind t) never, not_empty) refl

    -- where what follows can neither end nor go on with the token in front, a part that is empty or a row goes on with the row
    pub record IsShut (xs : List (Due K P)) (ts : List T) : Type 0 where
      pub ends : (st : List (Due K P)) → ts ≡ [] → can_end g (xs ++ st) ≡ false
      pub stuck : (st : List (Due K P)) (t : T) (rest : List T) → ts ≡ t ∷ rest → step g (xs ++ st) (g.kind t) ≡ None

    -- a part that is empty or a row leads on to the row
    pub leads_first : {c : Tally} {d : ℕ} {n m : P} {ys : List (Item K P)} {xs : List (Due K P)} {ts : List T} (none row : Row K P V C) →
        g.rows n ≡ none ∷ row ∷ [] → none.items ≡ [] → row.counts ≡ [] → row.items ≡ Part m ∷ ys → IsShut xs ts →
        LeadsTo g l c (Within d (Part n) ∷ xs) ts (λ vs. row.make (fronts row.items vs) ∷ backs row.items vs) c (due (inside row d) row.items ++ xs) ts
    leads_first {c = c} {d = d} {n = n} {m = m} {ys = ys} {xs = xs} {ts = ts} empty row rows empties none items shut =
        leads_corner {c = c} {d = d} {n = n} {xs = xs} {ts = ts} row within none
        (λ st. corner_trace d n m row ys within none items ts (xs ++ st) (λ e. rw (may_be g follows p n empty other empties, shut.ends st e) refl)
        (λ t rest is e. passed_over g follows p d n (g.kind t) (xs ++ st) (may_be g follows p n empty other empties) (never t e) ∙ shut.stuck st t rest is))
      where
        within : In row (g.rows n)
        within = subst (In row) (sym rows) (later first)

        other : In empty (g.rows n)
        other = subst (In empty) (sym rows) first

        never : (t : T) → starts g m (g.kind t) ≡ false → starts g n (g.kind t) ≡ false
        never t e = p.starts_is n (g.kind t) ∙ rw (rows, empties, items, e) refl

    -- a token in front of which a further token is to come
    pub shut_by : {d : ℕ} {x : K} {xs : List (Due K P)} {ts : List T} → ((t : T) (rest : List T) → ts ≡ t ∷ rest → g.kind t ≡ x → ⊥) →
        IsShut (Within d (Take x) ∷ xs) ts
    shut_by {x = x} other = record { ends = λ st e. refl; stuck = λ st t rest is. rw (other_kind g x (g.kind t) (other t rest is)) refl }

    -- a part that was read begins with a token that can begin it
    pub record Front (n : P) (ts : List T) : Type 0 where
      pub t : T
      pub rest : List T
      pub shape : ts ≡ t ∷ rest
      pub starts_it : starts g n (g.kind t) ≡ true

    -- by what was derived
    pub front : {d : ℕ} {n : P} {xs : List (Due K P)} {ts rest : List T} {vs : List V} {ms : List (Mark C)} → Derives g (Within d (Part n) ∷ xs) ts vs ms rest →
        may_be_empty g n ≡ false → Front n ts
    front (part {d = d} {n = n} {row = row} {ts = ts} {ls = ls} i inner r) full =
        go row.items refl (λ y ys here. begins g follows p inner (inside row d) y ys (due (inside row d) ys) (ap (due (inside row d)) here) n row i here)
      where
        go : (items : List (Item K P)) → row.items ≡ items →
            ((y : Item K P) (ys : List (Item K P)) → row.items ≡ y ∷ ys → Begun g follows p y ts ls) → Front n ts
        go [] here begun = let never = may_be g follows p n row i here in absurd (cc)
        go (y ∷ ys) here begun =
            let b = begun y ys here in
            record { t = b.t; rest = b.behind; shape = b.shape; starts_it = begins_part g follows p n row (g.kind b.t) i (rw here (b.starts_so ys)) }

    -- what was read as the first part of a row leads on to the row
    pub leads_read : {c c' : Tally} {d e : ℕ} {n m : P} {ys : List (Item K P)} {xs : List (Due K P)} {ts mid : List T} {vs : List V} (row : Row K P V C) →
        In row (g.rows n) → row.counts ≡ [] → row.items ≡ Part m ∷ ys → Reads g l c (Within e (Part m) ∷ []) ts vs c' mid →
        LeadsTo g l c (Within d (Part n) ∷ xs) ts (λ vs. row.make (fronts row.items vs) ∷ backs row.items vs) c (due (inside row d) row.items ++ xs) ts
    leads_read {c = c} {d = d} {n = n} {m = m} {ys = ys} {xs = xs} row i none items r =
        let b = front r.derived (p.solid n m row ys i items).0 in
        leads_into {c = c} {d = d} {n = n} {xs = xs} row i b.shape (ap (λ q. can_start g (starts g) q (g.kind b.t)) items ∙ b.starts_it)
        (ap (λ q. after_token l q b.t b.rest c) none)

    -- a part that may be empty, in front of the end or of a token that begins none of its rows
    past_trace : (d : ℕ) (n : P) (ts : List T) (st : List (Due K P)) → may_be_empty g n ≡ true →
        ((t : T) (rest : List T) → ts ≡ t ∷ rest → starts g n (g.kind t) ≡ false) → trace g (Within d (Part n) ∷ st) ts ≡ trace g st ts
    past_trace d n [] st e none = rw e refl
    past_trace d n (t ∷ ts) st e none = rw (passed_over g follows p d n (g.kind t) st e (none t ts refl)) refl

    -- a part that is empty leads on to what follows it
    pub leads_past : {c : Tally} {d : ℕ} {n : P} {xs : List (Due K P)} {ts : List T} (row : Row K P V C) → In row (g.rows n) → row.items ≡ [] →
        ((t : T) (rest : List T) → ts ≡ t ∷ rest → starts g n (g.kind t) ≡ false) → LeadsTo g l c (Within d (Part n) ∷ xs) ts (λ vs. row.make [] ∷ vs) c xs ts
    leads_past {c = c} {d = d} {n = n} {xs = xs} {ts = ts} row i items none = record {
      reads = λ end vs c'' r.
          let inner : Derives g (due (inside row d) row.items) ts [] [] ts = rw items nothing in
          record {
            marks = r.marks;
            derived = part i inner r.derived;
            keeps = r.keeps;
            counts = r.counts;
            passes = λ st. past_trace d n ts (xs ++ st) (may_be g follows p n row i items) none ∙ r.passes st;
          };
      same = λ st. ap (λ q. fault_of g l ts q c) (past_trace d n ts (xs ++ st) (may_be g follows p n row i items) none);
    }

    -- a row that begins with a token
    pub leads_row : {c c' : Tally} {d : ℕ} {n : P} {x : K} {t : T} {ys : List (Item K P)} {xs : List (Due K P)} {ts rest : List T} (row : Row K P V C) →
        In row (g.rows n) → row.items ≡ Take x ∷ ys → ts ≡ t ∷ rest → g.kind t ≡ x → inside row d ≤ l.depth → after_token l row.counts t rest c ≡ c' →
        passed l.most c' ≡ None →
        LeadsTo g l c (Within d (Part n) ∷ xs) ts (λ vs. row.make (g.value t ∷ fronts ys vs) ∷ backs ys vs) c' (due (inside row d) ys ++ xs) rest
    leads_row {c = c} {c' = c'} {d = d} {n = n} {x = x} {t = t} {ys = ys} {xs = xs} {ts = ts} {rest = rest} row i items is kind shallow tally free =
        let can : can_start g (starts g) row.items (g.kind t) ≡ true = rw (items, kind) (same_kind_is g x) in
        let into = subst (λ q. LeadsTo g l c (Within d (Part n) ∷ xs) ts (λ vs. row.make (fronts q vs) ∷ backs q vs) c' (due (inside row d) q ++ xs) ts) items
        (leads_into {c = c} {c' = c'} {d = d} {n = n} {xs = xs} row i is can tally) in
        on g l into (leads_token g l is kind shallow free)
