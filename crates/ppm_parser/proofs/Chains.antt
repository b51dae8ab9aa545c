-- Items that are read one list after the other, and parts that are read by one of their rows.
use Rattle.std.proofs.Common.{◌≡◌, ℕ, suc, Bool, true, false, List, [], ◌∷◌, ◌++◌, length, refl, sym, ◌∙◌, ap, subst, arith, append_assoc}
use Rattle.std.proofs.lemmas.List.{append-nil as append_nil}
use Rattle.std.specs.Prelude.{Option, None}
use Rattle.ppm_grammar.specs.Rows.{In, Item, Take, Part, Row, Grammar}
use Rattle.ppm_grammar.specs.Derivation.{Within, due, Mark, Derives, token, part, nothing}
use Rattle.ppm_grammar.specs.Limits.{Limits, Tally, passed, after_token}
use Rattle.ppm_grammar.specs.Faults.{Fault}
use Rattle.ppm_grammar.specs.Predictive.{may_be_empty, can_start, starts, IsPredictive}
use Rattle.ppm_grammar.specs.Stack.{fault_at}
use Rattle.ppm_grammar.specs.Reading.{Reads, ReadsState, FailsState}
use Rattle.ppm_grammar.proofs.LeadsLemmas as base
use Rattle.ppm_grammar.proofs.LeadsLemmas.{LeadsTo, fronts, backs}
use Rattle.ppm_grammar.proofs.StatesLemmas as states
use Rattle.ppm_grammar.proofs.StatesLemmas.{LeadsState, LeadsThen}
use Rattle.ppm_grammar.proofs.ItemsLemmas.{due_both}

module _ {T K P V C S : Type 0} (g : Grammar T K P V C) (l : Limits T C) (Has : S → Tally → Type 0)
    (free : (s : S) (c : Tally) → Has s c → passed l.most c ≡ None) where
  -- as many values as items
  each_value : (d : ℕ) (ys : List (Item K P)) {ts rest : List T} {vs : List V} {ms : List (Mark C)} → Derives g (due d ys) ts vs ms rest →
      (fronts ys vs ≡ vs) × (backs ys vs ≡ [])
  each_value d [] nothing = (refl, refl)
  each_value d (Take x ∷ ys) (token {t = t} is r) = let h = each_value d ys r in (ap (λ q. g.value t ∷ q) h.0, h.1)
  each_value d (Part n ∷ ys) (part {row = row} {us = us} i inner r) = let h = each_value d ys r in (ap (λ q. row.make us ∷ q) h.0, h.1)

  module _ {depth : ℕ} where
    -- items that are read lead on to those after them
    leads : {s s' : S} {xs : List (Item K P)} (ys : List (Item K P)) {ts mid : List T} {us : List V} → ReadsState g l Has depth s xs ts us s' mid →
        LeadsState g l Has free depth s (xs ++ ys) ts (λ vs. us ++ vs) s' ys mid
    leads {xs = xs} ys {ts = ts} {mid = mid} {us = us} a = record {
      shorter = a.shorter;
      leads = λ d c deep has.
          let u = a.reads d c deep has in
          record {
            tally = u.tally;
            has = u.has;
            leads = subst (λ q. LeadsTo g l c q ts (λ vs. us ++ vs) u.tally (due d ys) mid) (sym (due_both d xs ys)) (base.leads_items g l u.reads);
          };
    }

    -- one list after another
    pub then_reads : {s s' s'' : S} {xs ys : List (Item K P)} {ts mid rest : List T} {us vs : List V} → ReadsState g l Has depth s xs ts us s' mid →
        ReadsState g l Has depth s' ys mid vs s'' rest → ReadsState g l Has depth s (xs ++ ys) ts (us ++ vs) s'' rest
    then_reads {ys = ys} a b = states.reads g l Has free (leads ys a) b

    -- the second fails
    pub then_fails : {s s' : S} {xs ys : List (Item K P)} {ts mid : List T} {us : List V} {o : Option Fault} → ReadsState g l Has depth s xs ts us s' mid →
        FailsState g l Has depth s' ys mid o → FailsState g l Has depth s (xs ++ ys) ts o
    then_fails {ys = ys} a b = states.fails g l Has free (leads ys a) b

    -- the first fails
    pub front_fails : {s : S} {xs : List (Item K P)} {ts : List T} {o : Option Fault} (ys : List (Item K P)) → FailsState g l Has depth s xs ts o →
        FailsState g l Has depth s (xs ++ ys) ts o
    front_fails {xs = xs} {ts = ts} ys a = record {
      tells = λ d c deep has. record {
        tells = λ st f is.
            ap (λ q. fault_at g l (q ++ st) c ts) (due_both d xs ys) ∙ ap (λ q. fault_at g l q c ts) (append_assoc (due d xs) (due d ys) st)
            ∙ (a.tells d c deep has).tells (due d ys ++ st) f is;
      };
    }

    -- no fault is told where memory was refused
    pub none_fails : {s : S} {xs : List (Item K P)} {ts : List T} → FailsState g l Has depth s xs ts None
    none_fails = record { tells = λ d c deep has. record { tells = λ st f is. cc } }

    -- what leads on to the items of a row makes the part
    row_read : {s s' s'' : S} {n : P} {ys : List (Item K P)} {ts mid rest : List T} {vs : List V} (us : List V) (make : List V → V) →
        LeadsState g l Has free depth s (Part n ∷ []) ts (λ vs. make (us ++ fronts ys vs) ∷ backs ys vs) s' (ys ++ []) mid →
        ReadsState g l Has depth s' ys mid vs s'' rest → ReadsState g l Has depth s (Part n ∷ []) ts (make (us ++ vs) ∷ []) s'' rest
    row_read {n = n} {ys = ys} {ts = ts} {mid = mid} {rest = rest} {vs = vs} us make a b = record {
      shorter = omega (arith, a.shorter, b.shorter);
      reads = λ d c deep has.
          let u = a.leads d c deep has in
          let v = b.reads d u.tally deep u.has in
          let values = each_value d ys v.reads.derived in
          record {
            tally = v.tally;
            has = v.has;
            reads = subst (λ q. Reads g l c (Within d (Part n) ∷ []) ts q v.tally rest)
                (ap (λ q. make (us ++ q) ∷ backs ys vs) values.0 ∙ ap (λ q. make (us ++ vs) ∷ q) values.1)
                (u.leads.reads rest vs v.tally (subst (λ q. Reads g l u.tally (due d q) mid vs v.tally rest) (sym (append_nil ys)) v.reads));
          };
    }

    -- where the items of the row fail, so does the part
    row_failed : {s s' : S} {n : P} {ys : List (Item K P)} {ts mid : List T} {f : List V → List V} {o : Option Fault} →
        LeadsState g l Has free depth s (Part n ∷ []) ts f s' (ys ++ []) mid → FailsState g l Has depth s' ys mid o →
        FailsState g l Has depth s (Part n ∷ []) ts o
    row_failed {s' = s'} {ys = ys} {mid = mid} {o = o} a b =
        states.fails g l Has free a (subst (λ q. FailsState g l Has depth s' q mid o) (sym (append_nil ys)) b)

    module _ (follows : P → K → Bool) (p : IsPredictive g follows) where
      -- a row that begins with a token and opens nothing
      pub row_reads : {s s' s'' : S} {n : P} {x : K} {t : T} {ys : List (Item K P)} {ts behind rest : List T} {vs : List V} (row : Row K P V C) →
          In row (g.rows n) → row.items ≡ Take x ∷ ys → row.opens ≡ false → ts ≡ t ∷ behind → g.kind t ≡ x →
          ((c : Tally) → Has s c → Has s' (after_token l row.counts t behind c)) → ReadsState g l Has depth s' ys behind vs s'' rest →
          ReadsState g l Has depth s (Part n ∷ []) ts (row.make (g.value t ∷ vs) ∷ []) s'' rest
      row_reads {t = t} {ys = ys} row i items shut is kind after b =
          row_read {ys = ys} (g.value t ∷ []) row.make (states.a_row g l Has free follows p row i items shut is kind after) b

      pub row_fails : {s s' : S} {n : P} {x : K} {t : T} {ys : List (Item K P)} {ts behind : List T} {o : Option Fault} (row : Row K P V C) →
          In row (g.rows n) → row.items ≡ Take x ∷ ys → row.opens ≡ false → ts ≡ t ∷ behind → g.kind t ≡ x →
          ((c : Tally) → Has s c → Has s' (after_token l row.counts t behind c)) → FailsState g l Has depth s' ys behind o →
          FailsState g l Has depth s (Part n ∷ []) ts o
      row_fails {ys = ys} row i items shut is kind after b =
          row_failed {ys = ys} (states.a_row g l Has free follows p row i items shut is kind after) b

      -- a row that opens nothing, where a token is in front that can begin it
      pub corner_reads : {s s' s'' : S} {n : P} {t : T} {ts behind rest : List T} {vs : List V} (row : Row K P V C) → In row (g.rows n) →
          row.opens ≡ false → ts ≡ t ∷ behind → can_start g (starts g) row.items (g.kind t) ≡ true →
          ((c : Tally) → Has s c → Has s' (after_token l row.counts t behind c)) → ReadsState g l Has depth s' row.items ts vs s'' rest →
          ReadsState g l Has depth s (Part n ∷ []) ts (row.make vs ∷ []) s'' rest
      corner_reads row i shut is can after b =
          row_read {ys = row.items} [] row.make (states.a_corner g l Has free follows p row i shut is can after) b

      pub corner_fails : {s s' : S} {n : P} {t : T} {ts behind : List T} {o : Option Fault} (row : Row K P V C) → In row (g.rows n) →
          row.opens ≡ false → ts ≡ t ∷ behind → can_start g (starts g) row.items (g.kind t) ≡ true →
          ((c : Tally) → Has s c → Has s' (after_token l row.counts t behind c)) → FailsState g l Has depth s' row.items ts o →
          FailsState g l Has depth s (Part n ∷ []) ts o
      corner_fails row i shut is can after b =
          row_failed {ys = row.items} (states.a_corner g l Has free follows p row i shut is can after) b

      -- the only row of a part, which begins with a part
      pub only_reads : {s s'' : S} {n m : P} {ys : List (Item K P)} {ts rest : List T} {vs : List V} (row : Row K P V C) → g.rows n ≡ row ∷ [] →
          row.counts ≡ [] → row.items ≡ Part m ∷ ys → row.opens ≡ false → ReadsState g l Has depth s row.items ts vs s'' rest →
          ReadsState g l Has depth s (Part n ∷ []) ts (row.make vs ∷ []) s'' rest
      only_reads row one counts items shut b =
          row_read {ys = row.items} [] row.make (states.an_only g l Has free follows p row one counts items shut) b

      pub only_fails : {s : S} {n m : P} {ys : List (Item K P)} {ts : List T} {o : Option Fault} (row : Row K P V C) → g.rows n ≡ row ∷ [] →
          row.counts ≡ [] → row.items ≡ Part m ∷ ys → row.opens ≡ false → FailsState g l Has depth s row.items ts o →
          FailsState g l Has depth s (Part n ∷ []) ts o
      only_fails row one counts items shut b = row_failed {ys = row.items} (states.an_only g l Has free follows p row one counts items shut) b

      -- a row that begins with a part, where no other row can begin with the token in front
      pub other_reads : {s s'' : S} {n m : P} {ys : List (Item K P)} {ts rest : List T} {vs : List V} (row : Row K P V C) → In row (g.rows n) →
          may_be_empty g n ≡ false → row.counts ≡ [] → row.items ≡ Part m ∷ ys → row.opens ≡ false →
          ((t : T) (rest : List T) → ts ≡ t ∷ rest → starts g m (g.kind t) ≡ false → starts g n (g.kind t) ≡ false) →
          ReadsState g l Has depth s row.items ts vs s'' rest → ReadsState g l Has depth s (Part n ∷ []) ts (row.make vs ∷ []) s'' rest
      other_reads row i full counts items shut other b =
          row_read {ys = row.items} [] row.make (states.an_other g l Has free follows p row i full counts items shut other) b

      pub other_fails : {s : S} {n m : P} {ys : List (Item K P)} {ts : List T} {o : Option Fault} (row : Row K P V C) → In row (g.rows n) →
          may_be_empty g n ≡ false → row.counts ≡ [] → row.items ≡ Part m ∷ ys → row.opens ≡ false →
          ((t : T) (rest : List T) → ts ≡ t ∷ rest → starts g m (g.kind t) ≡ false → starts g n (g.kind t) ≡ false) →
          FailsState g l Has depth s row.items ts o → FailsState g l Has depth s (Part n ∷ []) ts o
      other_fails row i full counts items shut other b =
          row_failed {ys = row.items} (states.an_other g l Has free follows p row i full counts items shut other) b

      -- a part that is empty
      pub past_reads : {s : S} {n : P} {ts : List T} (row : Row K P V C) → In row (g.rows n) → row.items ≡ [] →
          ((t : T) (rest : List T) → ts ≡ t ∷ rest → starts g n (g.kind t) ≡ false) → ReadsState g l Has depth s (Part n ∷ []) ts (row.make [] ∷ []) s ts
      past_reads row i items none = states.reads g l Has free (states.a_past g l Has free follows p row i items none) (states.read g l Has free)

  -- a row that begins with a token and opens: after the token, one opening fewer is left
  module _ {depth inner : ℕ} (less : depth ≡ suc inner) (follows : P → K → Bool) (p : IsPredictive g follows) where
    pub open_reads : {s s' s'' : S} {n : P} {x : K} {t : T} {ys : List (Item K P)} {ts behind rest : List T} {vs : List V} (row : Row K P V C) →
        In row (g.rows n) → row.items ≡ Take x ∷ ys → row.opens ≡ true → ts ≡ t ∷ behind → g.kind t ≡ x →
        ((c : Tally) → Has s c → Has s' (after_token l row.counts t behind c)) → ReadsState g l Has inner s' ys behind vs s'' rest →
        ReadsState g l Has depth s (Part n ∷ []) ts (row.make (g.value t ∷ vs) ∷ []) s'' rest
    open_reads {s' = s'} {n = n} {t = t} {ys = ys} {ts = ts} {rest = rest} {vs = vs} row i items opens is kind after b = record {
      shorter = omega (arith, ap length is, b.shorter);
      reads = λ d c deep has.
          let u = (states.open_reads g l Has free less follows p row i items opens is kind after b).reads d c deep has in
          let values = each_value (suc d) ys (b.reads (suc d) _ (omega (arith, deep, less)) (after c has)).reads.derived in
          record {
            tally = u.tally;
            has = u.has;
            reads = subst (λ q. Reads g l c (Within d (Part n) ∷ []) ts q u.tally rest)
                (ap (λ q. row.make (g.value t ∷ q) ∷ backs ys vs) values.0 ∙ ap (λ q. row.make (g.value t ∷ vs) ∷ q) values.1) u.reads;
          };
    }

    pub open_fails : {s s' : S} {n : P} {x : K} {t : T} {ys : List (Item K P)} {ts behind : List T} {o : Option Fault} (row : Row K P V C) →
        In row (g.rows n) → row.items ≡ Take x ∷ ys → row.opens ≡ true → ts ≡ t ∷ behind → g.kind t ≡ x →
        ((c : Tally) → Has s c → Has s' (after_token l row.counts t behind c)) → FailsState g l Has inner s' ys behind o →
        FailsState g l Has depth s (Part n ∷ []) ts o
    open_fails row i items opens is kind after b = states.open_fails g l Has free less follows p row i items opens is kind after b
