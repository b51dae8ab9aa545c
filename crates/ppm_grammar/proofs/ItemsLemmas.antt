-- The chain of a row's parts for a parser that knows how many openings and how much of one number are left.
use Rattle.std.proofs.Common.{◌≡◌, ℕ, suc, ◌+◌, ◌≤◌, Bool, true, false, List, [], ◌∷◌, ◌++◌, length, refl, sym, ◌∙◌, ap, subst, arith}
use Rattle.std.specs.Prelude.{Option, Some}
use Rattle.std.proofs.lemmas.List.{append-nil as append_nil}
use Rattle.ppm_grammar.specs.Rows.{In, Item, Take, Part, Row, Grammar}
use Rattle.ppm_grammar.specs.Derivation.{Within, due, inside}
use Rattle.ppm_grammar.specs.Limits.{Limits, Tally, adds, after_token, Leaves}
use Rattle.ppm_grammar.specs.Faults.{Fault, Expected, Ended, TooDeep, TooMany}
use Rattle.ppm_grammar.specs.Predictive.{may_be_empty, can_start, starts, IsPredictive}
use Rattle.ppm_grammar.specs.Reading.{Reads, ReadsItems, FailsItems}
use Rattle.ppm_grammar.proofs.LeadsLemmas as base
use Rattle.ppm_grammar.proofs.LeadsLemmas.{LeadsTo, fronts, backs}
use Rattle.ppm_grammar.proofs.RowsLemmas as rows
use Rattle.ppm_grammar.proofs.RowsLemmas.{IsShut}
use Rattle.ppm_grammar.proofs.StopsLemmas as stop
use Rattle.ppm_grammar.proofs.TallyLemmas.{adds_twice, adds_none, leaves_free, leaves_less}

-- items in front of others, all within so many openings
pub due_both : {K P : Type 0} (d : ℕ) (xs ys : List (Item K P)) → due d (xs ++ ys) ≡ due d xs ++ due d ys
due_both d [] ys = refl
due_both d (x ∷ xs) ys = ap (λ q. Within d x ∷ q) (due_both d xs ys)

module _ {T K P V C : Type 0} (g : Grammar T K P V C) (l : Limits T C) where
  -- where the items are to come, the tokens lead on to others in front of the rest, and leave so much
  pub record LeadsItems (depth which room : ℕ) (xs : List (Item K P)) (ts : List T) (values : List V → List V) (left : ℕ) (ys : List (Item K P))
      (rest : List T) : Type 0 where
    pub used : ℕ
    pub spent : used + left ≡ room
    pub shorter : length rest ≤ length ts
    pub leads : (d : ℕ) (c : Tally) → d + depth ≡ l.depth → Leaves l which room c → LeadsTo g l c (due d xs) ts values (adds which used c) (due d ys) rest

  module _ {depth which : ℕ} where
    -- one chain after another
    pub on : {room left last : ℕ} {xs ys zs : List (Item K P)} {ts mid rest : List T} {f h : List V → List V} →
        LeadsItems depth which room xs ts f left ys mid →
        LeadsItems depth which left ys mid h last zs rest → LeadsItems depth which room xs ts (λ vs. f (h vs)) last zs rest
    on {left = left} {xs = xs} {zs = zs} {ts = ts} {rest = rest} {f = f} {h = h} a b = record {
      used = a.used + b.used;
      spent = omega (arith, a.spent, b.spent);
      shorter = omega (arith, a.shorter, b.shorter);
      leads = λ d c deep some.
          subst (λ q. LeadsTo g l c (due d xs) ts (λ vs. f (h vs)) q (due d zs) rest) (adds_twice which a.used b.used c)
          (base.on g l (a.leads d c deep some) (b.leads d (adds which a.used c) deep (leaves_less l a.used left a.spent some)));
    }

    -- what a chain leads on to is read, or fails
    pub reads : {room left last : ℕ} {xs ys : List (Item K P)} {ts mid rest : List T} {f : List V → List V} {vs : List V} →
        LeadsItems depth which room xs ts f left ys mid → ReadsItems g l depth which left ys mid vs last rest →
        ReadsItems g l depth which room xs ts (f vs) last rest
    reads {left = left} {xs = xs} {ts = ts} {rest = rest} {f = f} {vs = vs} a b = record {
      used = a.used + b.used;
      spent = omega (arith, a.spent, b.spent);
      shorter = omega (arith, a.shorter, b.shorter);
      reads = λ d c deep some.
          subst (λ q. Reads g l c (due d xs) ts (f vs) q rest) (adds_twice which a.used b.used c)
          ((a.leads d c deep some).reads rest vs _ (b.reads d (adds which a.used c) deep (leaves_less l a.used left a.spent some)));
    }

    -- where the others fail, so does the whole
    pub fails : {room left : ℕ} {xs ys : List (Item K P)} {ts mid : List T} {f : List V → List V} {o : Option Fault} →
        LeadsItems depth which room xs ts f left ys mid →
        FailsItems g l depth which left ys mid o → FailsItems g l depth which room xs ts o
    fails {left = left} a b = record {
      tells = λ d c deep some. base.fails g l (a.leads d c deep some) (b.tells d (adds which a.used c) deep (leaves_less l a.used left a.spent some));
    }

    -- nothing more
    pub read : {room : ℕ} {ts : List T} → ReadsItems g l depth which room [] ts [] room ts
    read {ts = ts} = record {
      used = 0;
      spent = omega arith;
      shorter = omega arith;
      reads = λ d c deep some. subst (λ q. Reads g l c [] ts [] q ts) (sym (adds_none which c)) (base.read g l);
    }

    -- a step that counts nothing
    same : {room : ℕ} {xs ys : List (Item K P)} {ts rest : List T} {f : List V → List V} → length rest ≤ length ts →
        ((d : ℕ) (c : Tally) → d + depth ≡ l.depth → Leaves l which room c → LeadsTo g l c (due d xs) ts f c (due d ys) rest) →
        LeadsItems depth which room xs ts f room ys rest
    same {xs = xs} {ys = ys} {ts = ts} {rest = rest} {f = f} short a = record {
      used = 0;
      spent = omega arith;
      shorter = short;
      leads = λ d c deep some. subst (λ q. LeadsTo g l c (due d xs) ts f q (due d ys) rest) (sym (adds_none which c)) (a d c deep some);
    }

    -- a token
    pub a_token : {room : ℕ} {x : K} {t : T} {xs : List (Item K P)} {ts rest : List T} → ts ≡ t ∷ rest → g.kind t ≡ x →
        LeadsItems depth which room (Take x ∷ xs) ts (λ vs. g.value t ∷ vs) room xs rest
    a_token is kind =
        same (omega (arith, ap length is)) (λ d c deep some. base.leads_token g l is kind (omega (arith, deep)) (leaves_free l some))

    -- a part that is read, or fails
    pub a_part : {room left : ℕ} {n : P} {v : V} {xs : List (Item K P)} {ts rest : List T} →
        ReadsItems g l depth which room (Part n ∷ []) ts (v ∷ []) left rest →
        LeadsItems depth which room (Part n ∷ xs) ts (λ vs. v ∷ vs) left xs rest
    a_part a = record { used = a.used; spent = a.spent; shorter = a.shorter; leads = λ d c deep some. base.leads_part g l (a.reads d c deep some) }

    -- a part that fails does so in front of others
    pub stops : {room : ℕ} {n : P} {xs : List (Item K P)} {ts : List T} {o : Option Fault} → FailsItems g l depth which room (Part n ∷ []) ts o →
        FailsItems g l depth which room (Part n ∷ xs) ts o
    stops a = record { tells = λ d c deep some. base.stops g l (a.tells d c deep some) }

    -- a token that is missing
    pub token_ended : {room : ℕ} {x : K} {xs : List (Item K P)} {ts : List T} → ts ≡ [] → FailsItems g l depth which room (Take x ∷ xs) ts (Some Ended)
    token_ended is = record { tells = λ d c deep some. stop.token_ended g l is }

    -- another token stands there
    pub token_unexpected : {room : ℕ} {x : K} {t : T} {xs : List (Item K P)} {ts rest : List T} → ts ≡ t ∷ rest → (g.kind t ≡ x → ⊥) →
        FailsItems g l depth which room (Take x ∷ xs) ts (Some (Expected (g.place t)))
    token_unexpected is other = record { tells = λ d c deep some. stop.token_unexpected g l is other }

    module _ (follows : P → K → Bool) (p : IsPredictive g follows) where
      -- a row that begins with a token and opens nothing
      pub a_row : {room left : ℕ} {n : P} {x : K} {t : T} {ys xs : List (Item K P)} {ts rest : List T} (row : Row K P V C) (amount : ℕ) → In row (g.rows n) →
          row.items ≡ Take x ∷ ys → row.opens ≡ false → ts ≡ t ∷ rest → g.kind t ≡ x → ((c : Tally) → after_token l row.counts t rest c ≡ adds which amount c) →
          amount + left ≡ room →
          LeadsItems depth which room (Part n ∷ xs) ts (λ vs. row.make (g.value t ∷ fronts ys vs) ∷ backs ys vs) left (ys ++ xs) rest
      a_row {n = n} {t = t} {ys = ys} {xs = xs} {ts = ts} {rest = rest} row amount i items shut is kind counts spent = record {
        used = amount;
        spent = spent;
        shorter = omega (arith, ap length is);
        leads = λ d c deep some.
            let at : inside row d ≡ d = rw shut refl in
            subst (λ q. LeadsTo g l c (Within d (Part n) ∷ due d xs) ts (λ vs. row.make (g.value t ∷ fronts ys vs) ∷ backs ys vs) (adds which amount c) q rest)
            (ap (λ q. due q ys ++ due d xs) at ∙ sym (due_both d ys xs))
            (rows.leads_row g l follows p row i items is kind (rw at (omega (arith, deep))) (counts c) (some.free amount (omega (arith, spent))));
      }

      -- a row of a part that may be empty, or its only row, that begins with a part and counts nothing
      pub a_first : {room : ℕ} {n m : P} {ys xs : List (Item K P)} {ts : List T} (none row : Row K P V C) → g.rows n ≡ none ∷ row ∷ [] → none.items ≡ [] →
          row.counts ≡ [] → row.items ≡ Part m ∷ ys → row.opens ≡ false → ((d : ℕ) → IsShut g l follows p (due d xs) ts) →
          LeadsItems depth which room (Part n ∷ xs) ts (λ vs. row.make (fronts row.items vs) ∷ backs row.items vs) room (row.items ++ xs) ts
      a_first {n = n} {xs = xs} {ts = ts} none row both empty counts items shut closed = same (omega arith) (λ d c deep some.
          let at : inside row d ≡ d = rw shut refl in
          subst (λ q. LeadsTo g l c (Within d (Part n) ∷ due d xs) ts (λ vs. row.make (fronts row.items vs) ∷ backs row.items vs) c q ts)
          (ap (λ q. due q row.items ++ due d xs) at ∙ sym (due_both d row.items xs))
          (rows.leads_first g l follows p none row both empty counts items (closed d)))

      -- the only row of a part
      pub an_only : {room : ℕ} {n m : P} {ys xs : List (Item K P)} {ts : List T} (row : Row K P V C) → g.rows n ≡ row ∷ [] → row.counts ≡ [] →
          row.items ≡ Part m ∷ ys → row.opens ≡ false →
          LeadsItems depth which room (Part n ∷ xs) ts (λ vs. row.make (fronts row.items vs) ∷ backs row.items vs) room (row.items ++ xs) ts
      an_only {n = n} {xs = xs} {ts = ts} row one counts items shut = same (omega arith) (λ d c deep some.
          let at : inside row d ≡ d = rw shut refl in
          subst (λ q. LeadsTo g l c (Within d (Part n) ∷ due d xs) ts (λ vs. row.make (fronts row.items vs) ∷ backs row.items vs) c q ts)
          (ap (λ q. due q row.items ++ due d xs) at ∙ sym (due_both d row.items xs))
          (rows.leads_only g l follows p row one counts items))

      -- a row that begins with a part, where a token is in front that can begin it
      pub a_corner : {room left : ℕ} {n : P} {t : T} {xs : List (Item K P)} {ts rest : List T} (row : Row K P V C) (amount : ℕ) → In row (g.rows n) →
          row.opens ≡ false → ts ≡ t ∷ rest → can_start g (starts g) row.items (g.kind t) ≡ true →
          ((c : Tally) → after_token l row.counts t rest c ≡ adds which amount c) → amount + left ≡ room →
          LeadsItems depth which room (Part n ∷ xs) ts (λ vs. row.make (fronts row.items vs) ∷ backs row.items vs) left (row.items ++ xs) ts
      a_corner {n = n} {xs = xs} {ts = ts} row amount i shut is can counts spent = record {
        used = amount;
        spent = spent;
        shorter = omega arith;
        leads = λ d c deep some.
            let at : inside row d ≡ d = rw shut refl in
            subst (λ q. LeadsTo g l c (Within d (Part n) ∷ due d xs) ts (λ vs. row.make (fronts row.items vs) ∷ backs row.items vs) (adds which amount c) q ts)
            (ap (λ q. due q row.items ++ due d xs) at ∙ sym (due_both d row.items xs))
            (rows.leads_into g l follows p row i is can (counts c));
      }

      -- a part that is empty
      pub a_past : {room : ℕ} {n : P} {xs : List (Item K P)} {ts : List T} (row : Row K P V C) → In row (g.rows n) → row.items ≡ [] →
          ((t : T) (rest : List T) → ts ≡ t ∷ rest → starts g n (g.kind t) ≡ false) →
          LeadsItems depth which room (Part n ∷ xs) ts (λ vs. row.make [] ∷ vs) room xs ts
      a_past row i items none = same (omega arith) (λ d c deep some. rows.leads_past g l follows p row i items none)

      -- no token that can begin the part
      pub ended : {room : ℕ} {n : P} {xs : List (Item K P)} {ts : List T} → may_be_empty g n ≡ false → ts ≡ [] →
          FailsItems g l depth which room (Part n ∷ xs) ts (Some Ended)
      ended full is = record { tells = λ d c deep some. stop.ended g l follows p full is }

      -- another token stands there
      pub unexpected : {room : ℕ} {n : P} {t : T} {xs : List (Item K P)} {ts rest : List T} → may_be_empty g n ≡ false → ts ≡ t ∷ rest →
          starts g n (g.kind t) ≡ false → FailsItems g l depth which room (Part n ∷ xs) ts (Some (Expected (g.place t)))
      unexpected full is none = record { tells = λ d c deep some. stop.unexpected g l follows p full is none }

      -- a token with which the number passes its limit
      pub too_many : {n : P} {x : K} {t : T} {ys xs : List (Item K P)} {ts rest : List T} (row : Row K P V C) → In row (g.rows n) → row.items ≡ Take x ∷ ys →
          row.opens ≡ false → ts ≡ t ∷ rest → g.kind t ≡ x → ((c : Tally) → after_token l row.counts t rest c ≡ adds which 1 c) →
          FailsItems g l depth which 0 (Part n ∷ xs) ts (Some (TooMany (g.place t) which))
      too_many row i items shut is kind counts = record {
        tells = λ d c deep some.
            let at : inside row d ≡ d = rw shut refl in
            stop.too_many g l follows p row i items is kind (rw at (omega (arith, deep))) (rw (counts c) some.full);
      }

  -- a row that begins with a token and opens: after the token, one opening fewer is left
  module _ {depth inner which : ℕ} (less : depth ≡ suc inner) (follows : P → K → Bool) (p : IsPredictive g follows) where
    -- the token leads on to the items after it
    opened : {room d : ℕ} (left : ℕ) {c : Tally} {n : P} {x : K} {t : T} {ys : List (Item K P)} {ts rest : List T} (row : Row K P V C) (amount : ℕ) →
        In row (g.rows n) → row.items ≡ Take x ∷ ys → row.opens ≡ true → ts ≡ t ∷ rest → g.kind t ≡ x →
        ((c : Tally) → after_token l row.counts t rest c ≡ adds which amount c) → amount + left ≡ room → d + depth ≡ l.depth → Leaves l which room c →
        LeadsTo g l c (Within d (Part n) ∷ []) ts (λ vs. row.make (g.value t ∷ fronts ys vs) ∷ backs ys vs) (adds which amount c) (due (suc d) ys) rest
    opened {d = d} left {c = c} {n = n} {t = t} {ys = ys} {ts = ts} {rest = rest} row amount i items opens is kind counts spent deep some =
        let at : inside row d ≡ suc d = rw opens refl in
        subst (λ q. LeadsTo g l c (Within d (Part n) ∷ []) ts (λ vs. row.make (g.value t ∷ fronts ys vs) ∷ backs ys vs) (adds which amount c) q rest)
        (append_nil (due (inside row d) ys) ∙ ap (λ q. due q ys) at)
        (rows.leads_row g l follows p row i items is kind (rw at (omega (arith, deep, less))) (counts c) (some.free amount (omega (arith, spent))))

    -- where these are read, so is the part
    pub open_reads : {room left last : ℕ} {n : P} {x : K} {t : T} {ys : List (Item K P)} {ts behind rest : List T} {vs : List V} (row : Row K P V C)
        (amount : ℕ) →
        In row (g.rows n) → row.items ≡ Take x ∷ ys → row.opens ≡ true → ts ≡ t ∷ behind → g.kind t ≡ x →
        ((c : Tally) → after_token l row.counts t behind c ≡ adds which amount c) → amount + left ≡ room →
        ReadsItems g l inner which left ys behind vs last rest →
        ReadsItems g l depth which room (Part n ∷ []) ts (row.make (g.value t ∷ fronts ys vs) ∷ backs ys vs) last rest
    open_reads {room = room} {left = left} {n = n} {t = t} {ys = ys} {ts = ts} {behind = behind} {rest = rest} {vs = vs} row amount i items opens is
        kind counts spent a = record {
          used = amount + a.used;
          spent = omega (arith, a.spent, spent);
          shorter = omega (arith, ap length is, a.shorter);
          reads = λ d c deep some.
              let lead = opened {room = room} {d = d} left {c = c} {n = n} {ys = ys} row amount i items opens is kind counts spent deep some in
              let inner_reads = a.reads (suc d) (adds which amount c) (omega (arith, deep, less)) (leaves_less l amount left spent some) in
              subst (λ q. Reads g l c (Within d (Part n) ∷ []) ts (row.make (g.value t ∷ fronts ys vs) ∷ backs ys vs) q rest) (adds_twice which amount a.used c)
              (lead.reads rest vs _ inner_reads);
        }

    -- where these fail, so does the part
    pub open_fails : {room left : ℕ} {n : P} {x : K} {t : T} {ys : List (Item K P)} {ts behind : List T} {o : Option Fault} (row : Row K P V C) (amount : ℕ) →
        In row (g.rows n) → row.items ≡ Take x ∷ ys → row.opens ≡ true → ts ≡ t ∷ behind → g.kind t ≡ x →
        ((c : Tally) → after_token l row.counts t behind c ≡ adds which amount c) → amount + left ≡ room → FailsItems g l inner which left ys behind o →
        FailsItems g l depth which room (Part n ∷ []) ts o
    open_fails {room = room} {left = left} {n = n} {ys = ys} {behind = behind} {o = o} row amount i items opens is kind counts spent a = record {
      tells = λ d c deep some.
          let lead = opened {room = room} {d = d} left {c = c} {n = n} {ys = ys} row amount i items opens is kind counts spent deep some in
          let inner_fails = a.tells (suc d) (adds which amount c) (omega (arith, deep, less)) (leaves_less l amount left spent some) in
          base.fails g l lead inner_fails;
    }

    -- a token with which the number passes its limit
    pub open_too_many : {n : P} {x : K} {t : T} {ys xs : List (Item K P)} {ts rest : List T} (row : Row K P V C) → In row (g.rows n) → row.items ≡ Take x ∷ ys →
        row.opens ≡ true → ts ≡ t ∷ rest → g.kind t ≡ x → ((c : Tally) → after_token l row.counts t rest c ≡ adds which 1 c) →
        FailsItems g l depth which 0 (Part n ∷ xs) ts (Some (TooMany (g.place t) which))
    open_too_many row i items opens is kind counts = record {
      tells = λ d c deep some.
          let at : inside row d ≡ suc d = rw opens refl in
          stop.too_many g l follows p row i items is kind (rw at (omega (arith, deep, less))) (rw (counts c) some.full);
    }

  -- where no opening is left
  pub too_deep : {which room : ℕ} (follows : P → K → Bool) (p : IsPredictive g follows) {n : P} {x : K} {t : T} {ys xs : List (Item K P)} {ts rest : List T}
      (row : Row K P V C) → In row (g.rows n) → row.items ≡ Take x ∷ ys → row.opens ≡ true → ts ≡ t ∷ rest → g.kind t ≡ x →
      FailsItems g l 0 which room (Part n ∷ xs) ts (Some (TooDeep (g.place t)))
  too_deep follows p row i items opens is kind = record {
    tells = λ d c deep some.
        let at : inside row d ≡ suc d = rw opens refl in
        stop.too_deep g l follows p row i items is kind (rw at (omega (arith, deep)));
  }
