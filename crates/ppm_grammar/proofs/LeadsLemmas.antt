-- From what the parts of a row read, or stop with, to what the row does: one chain for both.
use Rattle.std.proofs.Common.{◌≡◌, ℕ, ◌≤◌, false, List, [], ◌∷◌, ◌++◌, length, refl, sym, ◌∙◌, ap, subst, arith, append_assoc}
use Rattle.std.specs.Prelude.{nat_lt, Option, None}
use Rattle.ppm_grammar.specs.Rows.{Item, Take, Part, Grammar}
use Rattle.ppm_grammar.specs.Derivation.{Due, Within, Mark, mark, counting, Derives, nothing, token, part}
use Rattle.ppm_grammar.specs.Limits.{Limits, Tally, passed, after_marks, Keeps}
use Rattle.ppm_grammar.specs.Faults.{Fault}
use Rattle.ppm_grammar.specs.Stack.{On, ons, trace, fault_of, fault_at}
use Rattle.ppm_grammar.specs.Reading.{Reads, Fails}
use Rattle.ppm_grammar.proofs.StackLemmas.{same_kind_is}
use Rattle.ppm_grammar.proofs.DerivationLemmas.{ons_append}
use Rattle.ppm_grammar.proofs.TextLemmas.{Consumes, consumes}
use Rattle.ppm_grammar.proofs.FaultLemmas.{no_fault_before}

-- as many values as there are items, and those after them
abbrev pub fronts : {K P V : Type 0} → List (Item K P) → List V → List V
fronts [] vs = []
fronts (x ∷ xs) [] = []
fronts (x ∷ xs) (v ∷ vs) = v ∷ fronts xs vs

-- the values after those
abbrev pub backs : {K P V : Type 0} → List (Item K P) → List V → List V
backs [] vs = vs
backs (x ∷ xs) [] = []
backs (x ∷ xs) (v ∷ vs) = backs xs vs

-- counting nothing more changes no marks
count_none : {C : Type 0} (ms : List (Mark C)) → counting [] ms ≡ ms
count_none [] = refl
count_none (m ∷ ms) = refl

module _ {T K P V C : Type 0} (g : Grammar T K P V C) (l : Limits T C) where
  -- where the items are to come and this was counted, the tokens lead on to others in front of the rest, where that was counted; the values become these
  pub record LeadsTo (c : Tally) (xs : List (Due K P)) (ts : List T) (values : List V → List V) (c' : Tally) (ys : List (Due K P))
      (rest : List T) : Type 0 where
    pub reads : (end : List T) (vs : List V) (c'' : Tally) → Reads g l c' ys rest vs c'' end → Reads g l c xs ts (values vs) c'' end
    pub same : (st : List (Due K P)) → fault_at g l (xs ++ st) c ts ≡ fault_at g l (ys ++ st) c' rest

  -- one chain after another
  pub on : {c c' c'' : Tally} {xs ys zs : List (Due K P)} {ts mid rest : List T} {f h : List V → List V} → LeadsTo c xs ts f c' ys mid →
      LeadsTo c' ys mid h c'' zs rest → LeadsTo c xs ts (λ vs. f (h vs)) c'' zs rest
  on a b = record { reads = λ end vs e r. a.reads end _ e (b.reads end vs e r); same = λ st. a.same st ∙ b.same st }

  -- nothing more
  pub read : {c : Tally} {ts : List T} → Reads g l c [] ts [] c ts
  read = record { marks = []; derived = nothing; keeps = tt; counts = refl; passes = λ st. refl }

  -- a token
  pub leads_token : {c : Tally} {d : ℕ} {x : K} {t : T} {xs : List (Due K P)} {ts rest : List T} → ts ≡ t ∷ rest → g.kind t ≡ x → d ≤ l.depth →
      passed l.most c ≡ None → LeadsTo c (Within d (Take x) ∷ xs) ts (λ vs. g.value t ∷ vs) c xs rest
  leads_token {c = c} {d = d} {x = x} {t = t} {xs = xs} {rest = rest} is kind shallow free = record {
    reads = λ end vs e r. rw is (record {
      marks = mark d [] ∷ r.marks;
      derived = token kind r.derived;
      keeps = (shallow, free, r.keeps);
      counts = r.counts;
      passes = λ st. rw (kind, same_kind_is g x) (ap (On (mark d [])) (r.passes st));
    });
    same = λ st. let not_deep : nat_lt l.depth d ≡ false = grind (arith, shallow) in rw (is, kind, same_kind_is g x, not_deep, free) refl;
  }

  -- two lists of items, one after the other
  join : {xs ys : List (Due K P)} {ts mid rest : List T} {vs ws : List V} {ms ns : List (Mark C)} → Derives g xs ts vs ms mid → Derives g ys mid ws ns rest →
      Derives g (xs ++ ys) ts (vs ++ ws) (ms ++ ns) rest
  join nothing r = r
  join (token is d) r = token is (join d r)
  join {xs = Within d (Part n) ∷ xs} {ys = ys} {ts = ts} {rest = rest} {ws = ws} {ns = ns}
      (part {row = row} {us = us} {vs = vs} {ls = ls} {ms = ms} i inner d') r =
      subst (λ q. Derives g (Within d (Part n) ∷ xs ++ ys) ts (row.make us ∷ vs ++ ws) q rest) (sym (append_assoc (counting row.counts ls) ms ns))
      (part i inner (join d' r))

  -- marks after others
  keeps_both : (front mid : List T) (ms ns : List (Mark C)) (c : Tally) → length ms ≡ length front → Keeps l ms (front ++ mid) c →
      Keeps l ns mid (after_marks l ms (front ++ mid) c) → Keeps l (ms ++ ns) (front ++ mid) c
  keeps_both [] mid [] ns c each a b = b
  keeps_both [] mid (m ∷ ms) ns c each a b = absurd (grind (arith, each))
  keeps_both (t ∷ front) mid [] ns c each a b = absurd (grind (arith, each))
  keeps_both (t ∷ front) mid (m ∷ ms) ns c each a b = (a.0, a.1, keeps_both front mid ms ns _ (grind (arith, each)) a.2 b)

  -- what was counted after both
  after_both : (front mid : List T) (ms ns : List (Mark C)) (c : Tally) → length ms ≡ length front →
      after_marks l (ms ++ ns) (front ++ mid) c ≡ after_marks l ns mid (after_marks l ms (front ++ mid) c)
  after_both [] mid [] [] c each = refl
  after_both [] mid [] (n ∷ ns) c each = refl
  after_both [] mid (m ∷ ms) ns c each = absurd (grind (arith, each))
  after_both (t ∷ front) mid [] ns c each = absurd (grind (arith, each))
  after_both (t ∷ front) mid (m ∷ ms) ns c each = after_both front mid ms ns _ (grind (arith, each))

  -- items that are read, in front of others
  pub leads_items : {c c' : Tally} {xs ys : List (Due K P)} {ts mid : List T} {us : List V} → Reads g l c xs ts us c' mid →
      LeadsTo c (xs ++ ys) ts (λ vs. us ++ vs) c' ys mid
  leads_items {c = c} {c' = c'} {xs = xs} {ys = ys} {ts = ts} {mid = mid} a = record {
    reads = λ end vs e r. record {
      marks = a.marks ++ r.marks;
      derived = join a.derived r.derived;
      keeps = subst (λ q. Keeps l (a.marks ++ r.marks) q c) (sym s.shape)
          (keeps_both s.front mid a.marks r.marks c s.each (subst (λ q. Keeps l a.marks q c) s.shape a.keeps)
          (subst (Keeps l r.marks mid) (sym counts) r.keeps));
      counts = ap (λ q. after_marks l (a.marks ++ r.marks) q c) s.shape ∙ after_both s.front mid a.marks r.marks c s.each
          ∙ ap (after_marks l r.marks mid) counts ∙ r.counts;
      passes = λ st. ap (λ q. trace g q ts) (append_assoc xs ys st) ∙ a.passes (ys ++ st) ∙ ap (ons a.marks) (r.passes st) ∙ sym (ons_append a.marks r.marks _);
    };
    same = told;
  }
    where
      s : Consumes g ts a.marks mid
      s = consumes g a.derived

      counts : after_marks l a.marks (s.front ++ mid) c ≡ c'
      counts = ap (λ q. after_marks l a.marks q c) (sym s.shape) ∙ a.counts

      told : (st : List (Due K P)) → fault_at g l (xs ++ ys ++ st) c ts ≡ fault_at g l (ys ++ st) c' mid
      told st =
          ap (λ q. fault_of g l ts q c) (ap (λ q. trace g q ts) (append_assoc xs ys st) ∙ a.passes (ys ++ st))
          ∙ ap (λ q. fault_of g l q (ons a.marks (trace g (ys ++ st) mid)) c) s.shape
          ∙ no_fault_before g l s.front mid a.marks (trace g (ys ++ st) mid) c s.each (subst (λ q. Keeps l a.marks q c) s.shape a.keeps)
          ∙ ap (fault_of g l mid (trace g (ys ++ st) mid)) counts

  -- one item that is read
  pub leads_part : {c c' : Tally} {d : ℕ} {x : Item K P} {ys : List (Due K P)} {ts mid : List T} {v : V} → Reads g l c (Within d x ∷ []) ts (v ∷ []) c' mid →
      LeadsTo c (Within d x ∷ ys) ts (λ vs. v ∷ vs) c' ys mid
  leads_part a = leads_items a

  -- where the others fail, so do the items
  pub fails : {c c' : Tally} {xs ys : List (Due K P)} {ts rest : List T} {f : List V → List V} {o : Option Fault} → LeadsTo c xs ts f c' ys rest →
      Fails g l c' ys rest o → Fails g l c xs ts o
  fails a b = record { tells = λ st f is. a.same st ∙ b.tells st f is }

  -- an item that stops does so in front of others
  pub stops : {c : Tally} {d : ℕ} {x : Item K P} {xs : List (Due K P)} {ts : List T} {o : Option Fault} → Fails g l c (Within d x ∷ []) ts o →
      Fails g l c (Within d x ∷ xs) ts o
  stops {xs = xs} f = record { tells = λ st e is. f.tells (xs ++ st) e is }
