-- The chain of a row's parts for a parser that knows the state of what was counted.
use Rattle.std.proofs.Common.{◌≡◌, ℕ, zero, suc, ◌+◌, ◌≤◌, ◌<◌, Bool, true, false, List, [], ◌∷◌, ◌++◌, length, refl, sym, ◌∙◌, ap, subst, arith}
use Rattle.std.proofs.lemmas.List.{append-nil as append_nil}
use Rattle.std.specs.Prelude.{Option, Some, None}
use Rattle.ppm_grammar.specs.Rows.{In, Item, Take, Part, Row, Grammar}
use Rattle.ppm_grammar.specs.Derivation.{Due, Within, due, mark, inside}
use Rattle.ppm_grammar.specs.Stack.{move, next}
use Rattle.ppm_grammar.specs.Limits.{Limits, Tally, adds, passed, after_token, Leaves}
use Rattle.ppm_grammar.specs.Faults.{Fault, Expected, Ended, TooDeep, TooMany}
use Rattle.ppm_grammar.specs.Predictive.{may_be_empty, can_start, starts, IsPredictive}
use Rattle.ppm_grammar.specs.Reading.{ReadsItems, FailsItems, ReadsState, FailsState}
use Rattle.ppm_grammar.proofs.LeadsLemmas as base
use Rattle.ppm_grammar.proofs.LeadsLemmas.{LeadsTo, fronts, backs}
use Rattle.ppm_grammar.proofs.RowsLemmas as rows
use Rattle.ppm_grammar.proofs.RowsLemmas.{IsShut}
use Rattle.ppm_grammar.proofs.StopsLemmas as stop
use Rattle.ppm_grammar.proofs.ItemsLemmas.{due_both}

-- so many more openings
abbrev pub raised : ℕ → ℕ → ℕ
raised zero d = d
raised (suc n) d = suc (raised n d)

raised_is : (n d : ℕ) → raised n d ≡ n + d
raised_is zero d = omega arith
raised_is (suc n) d = let h = raised_is n d in omega (arith, h)

module _ {T K P V C S : Type 0} (g : Grammar T K P V C) (l : Limits T C) (Has : S → Tally → Type 0)
    (free : (s : S) (c : Tally) → Has s c → passed l.most c ≡ None) where
  -- from what was counted the tokens lead on, and what was counted then is of the state
  pub record LeadsThen (c : Tally) (xs : List (Due K P)) (ts : List T) (values : List V → List V) (s : S) (ys : List (Due K P)) (rest : List T) : Type 0 where
    pub tally : Tally
    pub has : Has s tally
    pub leads : LeadsTo g l c xs ts values tally ys rest

  -- where the items are to come in one state, the tokens lead on to others in another
  pub record LeadsState (depth : ℕ) (s : S) (xs : List (Item K P)) (ts : List T) (values : List V → List V) (s' : S) (ys : List (Item K P))
      (rest : List T) : Type 0 where
    pub shorter : length rest ≤ length ts
    pub leads : (d : ℕ) (c : Tally) → d + depth ≡ l.depth → Has s c → LeadsThen c (due d xs) ts values s' (due d ys) rest

  -- a token whose mark in a part is known: so many openings within those of the part
  pub record MoveAt (n : P) (t : T) (above : ℕ) (counts : List C) : Type 0 where
    pub still : ℕ → List (Due K P)
    pub moves : (d : ℕ) → next g d n (g.kind t) ≡ Some (move (mark (raised above d) counts) (still d))

  module _ {depth : ℕ} where
    -- one chain after another
    pub on : {s s' s'' : S} {xs ys zs : List (Item K P)} {ts mid rest : List T} {f h : List V → List V} → LeadsState depth s xs ts f s' ys mid →
        LeadsState depth s' ys mid h s'' zs rest → LeadsState depth s xs ts (λ vs. f (h vs)) s'' zs rest
    on a b = record {
      shorter = omega (arith, a.shorter, b.shorter);
      leads = λ d c deep has.
          let u = a.leads d c deep has in
          let v = b.leads d u.tally deep u.has in
          record { tally = v.tally; has = v.has; leads = base.on g l u.leads v.leads };
    }

    -- what a chain leads on to is read, or fails
    pub reads : {s s' s'' : S} {xs ys : List (Item K P)} {ts mid rest : List T} {f : List V → List V} {vs : List V} → LeadsState depth s xs ts f s' ys mid →
        ReadsState g l Has depth s' ys mid vs s'' rest → ReadsState g l Has depth s xs ts (f vs) s'' rest
    reads {rest = rest} {vs = vs} a b = record {
      shorter = omega (arith, a.shorter, b.shorter);
      reads = λ d c deep has.
          let u = a.leads d c deep has in
          let v = b.reads d u.tally deep u.has in
          record { tally = v.tally; has = v.has; reads = u.leads.reads rest vs v.tally v.reads };
    }

    -- where the others fail, so does the whole
    pub fails : {s s' : S} {xs ys : List (Item K P)} {ts mid : List T} {f : List V → List V} {o : Option Fault} → LeadsState depth s xs ts f s' ys mid →
        FailsState g l Has depth s' ys mid o → FailsState g l Has depth s xs ts o
    fails a b = record { tells = λ d c deep has. let u = a.leads d c deep has in base.fails g l u.leads (b.tells d u.tally deep u.has) }

    -- nothing more
    pub read : {s : S} {ts : List T} → ReadsState g l Has depth s [] ts [] s ts
    read = record { shorter = omega arith; reads = λ d c deep has. record { tally = c; has = has; reads = base.read g l } }

    -- a step that counts nothing
    same : {s : S} {xs ys : List (Item K P)} {ts rest : List T} {f : List V → List V} → length rest ≤ length ts →
        ((d : ℕ) (c : Tally) → d + depth ≡ l.depth → Has s c → LeadsTo g l c (due d xs) ts f c (due d ys) rest) → LeadsState depth s xs ts f s ys rest
    same short a = record { shorter = short; leads = λ d c deep has. record { tally = c; has = has; leads = a d c deep has } }

    -- a token
    pub a_token : {s : S} {x : K} {t : T} {xs : List (Item K P)} {ts rest : List T} → ts ≡ t ∷ rest → g.kind t ≡ x →
        LeadsState depth s (Take x ∷ xs) ts (λ vs. g.value t ∷ vs) s xs rest
    a_token {s = s} is kind =
        same (omega (arith, ap length is)) (λ d c deep has. base.leads_token g l is kind (omega (arith, deep)) (free s c has))

    -- a part that is read
    pub a_part : {s s' : S} {n : P} {v : V} {xs : List (Item K P)} {ts rest : List T} → ReadsState g l Has depth s (Part n ∷ []) ts (v ∷ []) s' rest →
        LeadsState depth s (Part n ∷ xs) ts (λ vs. v ∷ vs) s' xs rest
    a_part a = record {
      shorter = a.shorter;
      leads = λ d c deep has. let u = a.reads d c deep has in record { tally = u.tally; has = u.has; leads = base.leads_part g l u.reads };
    }

    -- a part that fails does so in front of others
    pub stops : {s : S} {n : P} {xs : List (Item K P)} {ts : List T} {o : Option Fault} → FailsState g l Has depth s (Part n ∷ []) ts o →
        FailsState g l Has depth s (Part n ∷ xs) ts o
    stops a = record { tells = λ d c deep has. base.stops g l (a.tells d c deep has) }

    -- items that are read, or fail, by what is left of one number
    pub of_items : {s s' : S} {which room left : ℕ} {xs : List (Item K P)} {ts rest : List T} {vs : List V} →
        ReadsItems g l depth which room xs ts vs left rest →
        ((c : Tally) → Has s c → Leaves l which room c) → ((n : ℕ) (c : Tally) → n + left ≡ room → Has s c → Has s' (adds which n c)) →
        ReadsState g l Has depth s xs ts vs s' rest
    of_items {which = which} a leaves after = record {
      shorter = a.shorter;
      reads = λ d c deep has. record { tally = adds which a.used c; has = after a.used c a.spent has; reads = a.reads d c deep (leaves c has) };
    }

    -- or fail
    pub of_failing : {s : S} {which room : ℕ} {xs : List (Item K P)} {ts : List T} {o : Option Fault} → FailsItems g l depth which room xs ts o →
        ((c : Tally) → Has s c → Leaves l which room c) → FailsState g l Has depth s xs ts o
    of_failing a leaves = record { tells = λ d c deep has. a.tells d c deep (leaves c has) }

    -- a token that is missing
    pub token_ended : {s : S} {x : K} {xs : List (Item K P)} {ts : List T} → ts ≡ [] → FailsState g l Has depth s (Take x ∷ xs) ts (Some Ended)
    token_ended is = record { tells = λ d c deep has. stop.token_ended g l is }

    -- another token stands there
    pub token_unexpected : {s : S} {x : K} {t : T} {xs : List (Item K P)} {ts rest : List T} → ts ≡ t ∷ rest → (g.kind t ≡ x → ⊥) →
        FailsState g l Has depth s (Take x ∷ xs) ts (Some (Expected (g.place t)))
    token_unexpected is other = record { tells = λ d c deep has. stop.token_unexpected g l is other }

    -- it is within too many openings
    pub deep_at : {s : S} {n : P} {t : T} {above : ℕ} {counts : List C} {xs : List (Item K P)} {ts rest : List T} → MoveAt n t above counts → ts ≡ t ∷ rest →
        depth < above → FailsState g l Has depth s (Part n ∷ xs) ts (Some (TooDeep (g.place t)))
    deep_at {above = above} m is deep = record {
      tells = λ d c left has. let at = raised_is above d in stop.deep_at g l is (m.moves d) (omega (arith, left, deep, at));
    }

    -- or on a number
    pub many_at : {s : S} {which : ℕ} {n : P} {t : T} {above : ℕ} {counts : List C} {xs : List (Item K P)} {ts rest : List T} → MoveAt n t above counts →
        ts ≡ t ∷ rest → above ≤ depth → ((c : Tally) → Has s c → passed l.most (after_token l counts t rest c) ≡ Some which) →
        FailsState g l Has depth s (Part n ∷ xs) ts (Some (TooMany (g.place t) which))
    many_at {above = above} m is shallow many = record {
      tells = λ d c left has. let at = raised_is above d in stop.many_at g l is (m.moves d) (omega (arith, left, shallow, at)) (many c has);
    }

    module _ (follows : P → K → Bool) (p : IsPredictive g follows) where
      -- a row that opens nothing, where a token is in front that can begin it
      pub a_corner : {s s' : S} {n : P} {t : T} {xs : List (Item K P)} {ts rest : List T} (row : Row K P V C) → In row (g.rows n) → row.opens ≡ false →
          ts ≡ t ∷ rest → can_start g (starts g) row.items (g.kind t) ≡ true → ((c : Tally) → Has s c → Has s' (after_token l row.counts t rest c)) →
          LeadsState depth s (Part n ∷ xs) ts (λ vs. row.make (fronts row.items vs) ∷ backs row.items vs) s' (row.items ++ xs) ts
      a_corner {n = n} {t = t} {xs = xs} {ts = ts} {rest = rest} row i shut is can after = record {
        shorter = omega arith;
        leads = λ d c deep has.
            let at : inside row d ≡ d = rw shut refl in
            record {
              tally = after_token l row.counts t rest c;
              has = after c has;
              leads = subst (λ q. LeadsTo g l c (Within d (Part n) ∷ due d xs) ts (λ vs. row.make (fronts row.items vs) ∷ backs row.items vs)
                  (after_token l row.counts t rest c) q ts) (ap (λ q. due q row.items ++ due d xs) at ∙ sym (due_both d row.items xs))
                  (rows.leads_into g l follows p row i is can refl);
            };
      }

      -- a row that begins with a token and opens nothing
      pub a_row : {s s' : S} {n : P} {x : K} {t : T} {ys xs : List (Item K P)} {ts rest : List T} (row : Row K P V C) → In row (g.rows n) →
          row.items ≡ Take x ∷ ys → row.opens ≡ false → ts ≡ t ∷ rest → g.kind t ≡ x → ((c : Tally) → Has s c → Has s' (after_token l row.counts t rest c)) →
          LeadsState depth s (Part n ∷ xs) ts (λ vs. row.make (g.value t ∷ fronts ys vs) ∷ backs ys vs) s' (ys ++ xs) rest
      a_row {s' = s'} {n = n} {t = t} {ys = ys} {xs = xs} {ts = ts} {rest = rest} row i items shut is kind after = record {
        shorter = omega (arith, ap length is);
        leads = λ d c deep has.
            let at : inside row d ≡ d = rw shut refl in
            let then = after c has in
            record {
              tally = after_token l row.counts t rest c;
              has = then;
              leads = subst (λ q. LeadsTo g l c (Within d (Part n) ∷ due d xs) ts (λ vs. row.make (g.value t ∷ fronts ys vs) ∷ backs ys vs)
                  (after_token l row.counts t rest c) q rest) (ap (λ q. due q ys ++ due d xs) at ∙ sym (due_both d ys xs))
                  (rows.leads_row g l follows p row i items is kind (rw at (omega (arith, deep))) refl (free s' _ then));
            };
      }

      -- a row of a part that may be empty, or its only row, that begins with a part and counts nothing
      pub a_first : {s : S} {n m : P} {ys xs : List (Item K P)} {ts : List T} (none row : Row K P V C) → g.rows n ≡ none ∷ row ∷ [] → none.items ≡ [] →
          row.counts ≡ [] → row.items ≡ Part m ∷ ys → row.opens ≡ false → ((d : ℕ) → IsShut g l follows p (due d xs) ts) →
          LeadsState depth s (Part n ∷ xs) ts (λ vs. row.make (fronts row.items vs) ∷ backs row.items vs) s (row.items ++ xs) ts
      a_first {n = n} {xs = xs} {ts = ts} none row both empty counts items shut closed = same (omega arith) (λ d c deep has.
          let at : inside row d ≡ d = rw shut refl in
          subst (λ q. LeadsTo g l c (Within d (Part n) ∷ due d xs) ts (λ vs. row.make (fronts row.items vs) ∷ backs row.items vs) c q ts)
          (ap (λ q. due q row.items ++ due d xs) at ∙ sym (due_both d row.items xs))
          (rows.leads_first g l follows p none row both empty counts items (closed d)))

      -- a row that begins with a part and counts nothing, where no other row can begin with the token in front
      pub an_other : {s : S} {n m : P} {ys xs : List (Item K P)} {ts : List T} (row : Row K P V C) → In row (g.rows n) → may_be_empty g n ≡ false →
          row.counts ≡ [] → row.items ≡ Part m ∷ ys → row.opens ≡ false →
          ((t : T) (rest : List T) → ts ≡ t ∷ rest → starts g m (g.kind t) ≡ false → starts g n (g.kind t) ≡ false) →
          LeadsState depth s (Part n ∷ xs) ts (λ vs. row.make (fronts row.items vs) ∷ backs row.items vs) s (row.items ++ xs) ts
      an_other {n = n} {xs = xs} {ts = ts} row i full counts items shut other = same (omega arith) (λ d c deep has.
          let at : inside row d ≡ d = rw shut refl in
          subst (λ q. LeadsTo g l c (Within d (Part n) ∷ due d xs) ts (λ vs. row.make (fronts row.items vs) ∷ backs row.items vs) c q ts)
          (ap (λ q. due q row.items ++ due d xs) at ∙ sym (due_both d row.items xs))
          (rows.leads_other g l follows p row i full counts items other))

      -- the only row of a part
      pub an_only : {s : S} {n m : P} {ys xs : List (Item K P)} {ts : List T} (row : Row K P V C) → g.rows n ≡ row ∷ [] → row.counts ≡ [] →
          row.items ≡ Part m ∷ ys → row.opens ≡ false →
          LeadsState depth s (Part n ∷ xs) ts (λ vs. row.make (fronts row.items vs) ∷ backs row.items vs) s (row.items ++ xs) ts
      an_only {n = n} {xs = xs} {ts = ts} row one counts items shut = same (omega arith) (λ d c deep has.
          let at : inside row d ≡ d = rw shut refl in
          subst (λ q. LeadsTo g l c (Within d (Part n) ∷ due d xs) ts (λ vs. row.make (fronts row.items vs) ∷ backs row.items vs) c q ts)
          (ap (λ q. due q row.items ++ due d xs) at ∙ sym (due_both d row.items xs))
          (rows.leads_only g l follows p row one counts items))

      -- a part that is empty
      pub a_past : {s : S} {n : P} {xs : List (Item K P)} {ts : List T} (row : Row K P V C) → In row (g.rows n) → row.items ≡ [] →
          ((t : T) (rest : List T) → ts ≡ t ∷ rest → starts g n (g.kind t) ≡ false) →
          LeadsState depth s (Part n ∷ xs) ts (λ vs. row.make [] ∷ vs) s xs ts
      a_past row i items none = same (omega arith) (λ d c deep has. rows.leads_past g l follows p row i items none)

      -- no token that can begin the part
      pub ended : {s : S} {n : P} {xs : List (Item K P)} {ts : List T} → may_be_empty g n ≡ false → ts ≡ [] →
          FailsState g l Has depth s (Part n ∷ xs) ts (Some Ended)
      ended full is = record { tells = λ d c deep has. stop.ended g l follows p full is }

      -- another token stands there
      pub unexpected : {s : S} {n : P} {t : T} {xs : List (Item K P)} {ts rest : List T} → may_be_empty g n ≡ false → ts ≡ t ∷ rest →
          starts g n (g.kind t) ≡ false → FailsState g l Has depth s (Part n ∷ xs) ts (Some (Expected (g.place t)))
      unexpected full is none = record { tells = λ d c deep has. stop.unexpected g l follows p full is none }

      -- a token with which a number passes its limit
      pub too_many : {s : S} {which : ℕ} {n : P} {x : K} {t : T} {ys xs : List (Item K P)} {ts rest : List T} (row : Row K P V C) → In row (g.rows n) →
          row.items ≡ Take x ∷ ys → row.opens ≡ false → ts ≡ t ∷ rest → g.kind t ≡ x →
          ((c : Tally) → Has s c → passed l.most (after_token l row.counts t rest c) ≡ Some which) →
          FailsState g l Has depth s (Part n ∷ xs) ts (Some (TooMany (g.place t) which))
      too_many row i items shut is kind many = record {
        tells = λ d c deep has.
            let at : inside row d ≡ d = rw shut refl in
            stop.too_many g l follows p row i items is kind (rw at (omega (arith, deep))) (many c has);
      }

  -- a row that begins with a token and opens: after the token, one opening fewer is left
  module _ {depth inner : ℕ} (less : depth ≡ suc inner) (follows : P → K → Bool) (p : IsPredictive g follows) where
    -- the token leads on to the items after it
    opened : {s' : S} {d : ℕ} {c : Tally} {n : P} {x : K} {t : T} {ys : List (Item K P)} {ts rest : List T} (row : Row K P V C) → In row (g.rows n) →
        row.items ≡ Take x ∷ ys → row.opens ≡ true → ts ≡ t ∷ rest → g.kind t ≡ x → Has s' (after_token l row.counts t rest c) → d + depth ≡ l.depth →
        LeadsTo g l c (Within d (Part n) ∷ []) ts (λ vs. row.make (g.value t ∷ fronts ys vs) ∷ backs ys vs) (after_token l row.counts t rest c)
        (due (suc d) ys) rest
    opened {s' = s'} {d = d} {c = c} {n = n} {t = t} {ys = ys} {ts = ts} {rest = rest} row i items opens is kind has deep =
        let at : inside row d ≡ suc d = rw opens refl in
        let after = after_token l row.counts t rest c in
        subst (λ q. LeadsTo g l c (Within d (Part n) ∷ []) ts (λ vs. row.make (g.value t ∷ fronts ys vs) ∷ backs ys vs) after q rest)
        (append_nil (due (inside row d) ys) ∙ ap (λ q. due q ys) at)
        (rows.leads_row g l follows p row i items is kind (rw at (omega (arith, deep, less))) refl (free s' _ has))

    -- where these are read, so is the part
    pub open_reads : {s s' s'' : S} {n : P} {x : K} {t : T} {ys : List (Item K P)} {ts behind rest : List T} {vs : List V} (row : Row K P V C) →
        In row (g.rows n) → row.items ≡ Take x ∷ ys → row.opens ≡ true → ts ≡ t ∷ behind → g.kind t ≡ x →
        ((c : Tally) → Has s c → Has s' (after_token l row.counts t behind c)) → ReadsState g l Has inner s' ys behind vs s'' rest →
        ReadsState g l Has depth s (Part n ∷ []) ts (row.make (g.value t ∷ fronts ys vs) ∷ backs ys vs) s'' rest
    open_reads {s' = s'} {n = n} {ys = ys} {rest = rest} {vs = vs} row i items opens is kind after a = record {
      shorter = omega (arith, ap length is, a.shorter);
      reads = λ d c deep has.
          let lead = opened {s' = s'} {d = d} {c = c} {n = n} {ys = ys} row i items opens is kind (after c has) deep in
          let u = a.reads (suc d) _ (omega (arith, deep, less)) (after c has) in
          record { tally = u.tally; has = u.has; reads = lead.reads rest vs u.tally u.reads };
    }

    -- where these fail, so does the part
    pub open_fails : {s s' : S} {n : P} {x : K} {t : T} {ys : List (Item K P)} {ts behind : List T} {o : Option Fault} (row : Row K P V C) →
        In row (g.rows n) → row.items ≡ Take x ∷ ys → row.opens ≡ true → ts ≡ t ∷ behind → g.kind t ≡ x →
        ((c : Tally) → Has s c → Has s' (after_token l row.counts t behind c)) → FailsState g l Has inner s' ys behind o →
        FailsState g l Has depth s (Part n ∷ []) ts o
    open_fails {s' = s'} {n = n} {ys = ys} row i items opens is kind after a = record {
      tells = λ d c deep has.
          let lead = opened {s' = s'} {d = d} {c = c} {n = n} {ys = ys} row i items opens is kind (after c has) deep in
          base.fails g l lead (a.tells (suc d) _ (omega (arith, deep, less)) (after c has));
    }

    -- a token with which a number passes its limit
    pub open_too_many : {s : S} {which : ℕ} {n : P} {x : K} {t : T} {ys xs : List (Item K P)} {ts rest : List T} (row : Row K P V C) → In row (g.rows n) →
        row.items ≡ Take x ∷ ys → row.opens ≡ true → ts ≡ t ∷ rest → g.kind t ≡ x →
        ((c : Tally) → Has s c → passed l.most (after_token l row.counts t rest c) ≡ Some which) →
        FailsState g l Has depth s (Part n ∷ xs) ts (Some (TooMany (g.place t) which))
    open_too_many row i items opens is kind many = record {
      tells = λ d c deep has.
          let at : inside row d ≡ suc d = rw opens refl in
          stop.too_many g l follows p row i items is kind (rw at (omega (arith, deep, less))) (many c has);
    }

  -- where no opening is left
  pub too_deep : {s : S} (follows : P → K → Bool) (p : IsPredictive g follows) {n : P} {x : K} {t : T} {ys xs : List (Item K P)} {ts rest : List T}
      (row : Row K P V C) → In row (g.rows n) → row.items ≡ Take x ∷ ys → row.opens ≡ true → ts ≡ t ∷ rest → g.kind t ≡ x →
      FailsState g l Has 0 s (Part n ∷ xs) ts (Some (TooDeep (g.place t)))
  too_deep follows p row i items opens is kind = record {
    tells = λ d c deep has.
        let at : inside row d ≡ suc d = rw opens refl in
        stop.too_deep g l follows p row i items is kind (rw at (omega (arith, deep)));
  }
