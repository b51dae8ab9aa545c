-- The first write to which paths from a place lead, by the places to which its instruction leads.
use Rattle.std.proofs.Common.{◌≡◌, ◌<◌, ◌≤◌, ℕ, zero, suc, ◌+◌, max, Bool, true, false, List, length, ◌⊎◌, inl, inr, refl, sym, subst, arith}
use Rattle.std.proofs.Common.{Option, Some, None, nat_lt, get_or, replicate, set, if◌then◌else◌}
use Rattle.std.proofs.lemmas.Bool.{ltb-true, ltb-false}
use Rattle.std.proofs.lemmas.List.{get_or-set_same, get_or-set_other}
use Rattle.ppm_code.specs.declared.class.Class.{Class}
use Rattle.ppm_code.specs.declared.class.May.{May}
use Rattle.ppm_code.specs.declared.class.May.TheVariants.{Work, Read, Write, Branch, Stop}
use Rattle.ppm_code.specs.declared.instr.Instr.{Instr}
use Rattle.ppm_code.specs.Paths.{Does, GoesTo, Path, Any, Here, Then}
use Rattle.ppm_war.specs.Search.{IsFirst, LeadsToWrite, first_behind, lesser}
use Rattle.ppm_war.proofs.MarkLemmas.{goes_forward, path_forward, same_what}
use Rattle.ppm_war.proofs.DecodedLemmas.{does_below}

-- the first of which it holds
pub first_is : (P : ℕ → Type 0) (n : ℕ) → P n → ((k : ℕ) → P k → n ≤ k) → IsFirst P (Some n)
first_is P n p least = record {
  none = λ e k q. cc;
  some = λ k e. let same : n ≡ k = cc in subst P same p;
  least = λ k j e q. let same : n ≡ k = cc in subst (λ (m : ℕ). m ≤ j) same (least j q);
}

-- there is none
pub first_none : (P : ℕ → Type 0) → ((k : ℕ) → P k → ⊥) → IsFirst P None
first_none P none = record { none = λ e. none; some = λ k e. cc; least = λ k j e q. cc }

module _ (P Q : ℕ → Type 0) where
  -- of what holds of the same numbers
  pub first_same : (o : Option ℕ) → ((k : ℕ) → P k → Q k) → ((k : ℕ) → Q k → P k) → IsFirst P o → IsFirst Q o
  first_same o to from f = record {
    none = λ e k q. f.none e k (from k q);
    some = λ k e. to k (f.some k e);
    least = λ k j e q. f.least k j e (from j q);
  }

  -- of one or the other
  pub first_either : (a b : Option ℕ) → IsFirst P a → IsFirst Q b → IsFirst (λ k. P k ⊎ Q k) (lesser a b)
  first_either None b f g = record {
    none = λ e k h. elim h [ inl p ↦ f.none refl k p | inr q ↦ g.none e k q ];
    some = λ k e. inr (g.some k e);
    least = λ k j e h. elim h [ inl p ↦ absurd (f.none refl j p) | inr q ↦ g.least k j e q ];
  }
  first_either (Some a) None f g = record {
    none = λ e k h. cc;
    some = λ k e. inl (f.some k e);
    least = λ k j e h. elim h [ inl p ↦ f.least k j e p | inr q ↦ absurd (g.none refl j q) ];
  }
  first_either (Some a) (Some b) f g = by (nat_lt b a) refl
    where
      by : (t : Bool) → nat_lt b a ≡ t → IsFirst (λ k. P k ⊎ Q k) (if t then Some b else Some a)
      by true e = first_is (λ k. P k ⊎ Q k) b (inr (g.some b refl)) (λ k h. elim h [
        | inl p ↦ omega (arith, ltb-true b a e, f.least a k refl p)
        | inr q ↦ g.least b k refl q
      ])
      by false e = first_is (λ k. P k ⊎ Q k) a (inl (f.some a refl)) (λ k h. elim h [
        | inl p ↦ f.least a k refl p
        | inr q ↦ omega (arith, ltb-false b a e, g.least b k refl q)
      ])

module _ (is : List Instr) (q : May → Type 0) where
  -- how a path begins that is not over
  pub record Begins (from to : ℕ) : Type 0 where
    pub what : May
    pub here : Does is from what
    pub allowed : q what
    pub next : ℕ
    pub goes : GoesTo what from next
    pub rest : Path is q next to

  pub path_begins : (from to : ℕ) → Path is q from to → (from ≡ to) ⊎ Begins from to
  path_begins from _ (Here _) = inl refl
  path_begins from to (Then _ at _ m p here allowed goes) = elim (path_begins from at p) [
    | inl e ↦ inr (record {
      what = m;
      here = subst (λ (n : ℕ). Does is n m) (sym e) here;
      allowed = allowed;
      next = to;
      goes = subst (λ (n : ℕ). GoesTo m n to) (sym e) goes;
      rest = Here to;
    })
    | inr b ↦ inr (record {
      what = b.what;
      here = b.here;
      allowed = b.allowed;
      next = b.next;
      goes = b.goes;
      rest = Then b.next at to m b.rest here allowed goes;
    })
  ]

  -- an instruction in front of a path
  begin : (m : May) (from next to : ℕ) → Does is from m → q m → GoesTo m from next → Path is q next to → Path is q from to
  begin m from next _ here allowed goes (Here _) = Then from from next m (Here from) here allowed goes
  begin m from next to here allowed goes (Then _ at _ n p there also on) =
      Then from at to n (begin m from next at here allowed goes p) there also on

module _ (is : List Instr) (c : Class) where
  -- a write leads to itself first
  pub writes_here : (at : ℕ) → Does is at (Write c) → IsFirst (LeadsToWrite is c at) (Some at)
  writes_here at does = first_is (LeadsToWrite is c at) at (Here at, does) (λ k h. path_forward is Any at k h.0)

  module _ (m : May) (at : ℕ) (here : Does is at m) (other : m ≡ Write c → ⊥) where
    -- where another instruction leads
    onward : (write : ℕ) → LeadsToWrite is c at write → (next : ℕ) × GoesTo m at next × LeadsToWrite is c next write
    onward write h = elim (path_begins is Any at write h.0) [
      | inl e ↦ absurd (other (same_what is Any at (Write c) m (subst (λ (n : ℕ). Does is n (Write c)) (sym e) h.1) here))
      | inr b ↦ (b.next, subst (λ (n : May). GoesTo n at b.next) (same_what is Any at m b.what here b.here) b.goes, (b.rest, h.1))
    ]

    back : (next write : ℕ) → GoesTo m at next → LeadsToWrite is c next write → LeadsToWrite is c at write
    back next write goes h = (begin is Any m at next write here tt goes h.0, h.1)

    -- the next instruction alone follows
    pub to_next : (o : Option ℕ) → ((next : ℕ) → GoesTo m at next → next ≡ at + 1) → GoesTo m at (at + 1) → IsFirst (LeadsToWrite is c (at + 1)) o
        → IsFirst (LeadsToWrite is c at) o
    to_next o alone goes = first_same (LeadsToWrite is c (at + 1)) (LeadsToWrite is c at) o (λ k h. back (at + 1) k goes h) (λ k h.
        let on = onward k h in subst (λ (n : ℕ). LeadsToWrite is c n k) (alone on.0 on.1) on.2)

  -- the first write of later places, where this is none
  pub behind : (firsts : List (Option ℕ)) (m : May) (at : ℕ) → Does is at m → (m ≡ Write c → ⊥)
      → ((from : ℕ) → at < from → IsFirst (LeadsToWrite is c from) (get_or firsts from None)) → IsFirst (LeadsToWrite is c at) (first_behind firsts m at)
  behind firsts Work at here other later = to_next Work at here other (get_or firsts (at + 1) None) (λ n e. e) refl (later (at + 1) (omega arith))
  behind firsts (Read d) at here other later = to_next (Read d) at here other (get_or firsts (at + 1) None) (λ n e. e) refl (later (at + 1) (omega arith))
  behind firsts (Write d) at here other later = to_next (Write d) at here other (get_or firsts (at + 1) None) (λ n e. e) refl (later (at + 1) (omega arith))
  behind firsts (Branch t) at here other later =
      let P = LeadsToWrite is c (at + 1) in
      let Q = LeadsToWrite is c (max t (at + 1)) in
      first_same (λ k. P k ⊎ Q k) (LeadsToWrite is c at) (first_behind firsts (Branch t) at)
      (λ k h. elim h [ inl p ↦ back (Branch t) at here other (at + 1) k (inl refl) p | inr p ↦ back (Branch t) at here other (max t (at + 1)) k (inr refl) p ])
      (λ k h.
      let on = onward (Branch t) at here other k h in
      elim on.1 [
        | inl e ↦ inl (subst (λ (n : ℕ). LeadsToWrite is c n k) e on.2)
        | inr e ↦ inr (subst (λ (n : ℕ). LeadsToWrite is c n k) e on.2)
      ])
      (first_either P Q (get_or firsts (at + 1) None) (get_or firsts (max t (at + 1)) None) (later (at + 1) (omega arith))
      (later (max t (at + 1)) (goes_forward (Branch t) at (max t (at + 1)) (inr refl))))
  behind firsts Stop at here other later = first_none (LeadsToWrite is c at) (λ k h. (onward Stop at here other k h).1)

  abbrev nothing : Option ℕ
  nothing = None

  -- nothing is found in a new row
  blank : (n k : ℕ) → nothing ≡ get_or (replicate n nothing) k nothing
  blank zero k = refl
  blank (suc n) zero = refl
  blank (suc n) (suc k) = blank n k

  -- from after the last instruction no path leads to a write
  pub past_end : (n from : ℕ) → length is ≤ from → IsFirst (LeadsToWrite is c from) (get_or (replicate n None) from None)
  past_end n from past = subst (IsFirst (LeadsToWrite is c from)) (blank n from) (first_none (LeadsToWrite is c from) (λ k h.
      omega (arith, past, path_forward is Any from k h.0, does_below is k (Write c) h.1)))

  -- one more is found
  pub one_more : (firsts : List (Option ℕ)) (at : ℕ) (o : Option ℕ) → at < length firsts
      → ((from : ℕ) → at < from → IsFirst (LeadsToWrite is c from) (get_or firsts from None)) → IsFirst (LeadsToWrite is c at) o
      → (from : ℕ) → at ≤ from → IsFirst (LeadsToWrite is c from) (get_or (set firsts at o) from None)
  one_more firsts at o less later here from up = by (nat_lt at from) refl
    where
      by : (b : Bool) → nat_lt at from ≡ b → IsFirst (LeadsToWrite is c from) (get_or (set firsts at o) from None)
      by true e = subst (IsFirst (LeadsToWrite is c from)) (sym (get_or-set_other firsts at from o None (λ s. omega (arith, s, ltb-true at from e))))
          (later from (ltb-true at from e))
      by false e =
          let same : at ≡ from = omega (arith, up, ltb-false at from e) in
          subst (λ (n : ℕ). IsFirst (LeadsToWrite is c n) (get_or (set firsts at o) n None)) same
          (subst (IsFirst (LeadsToWrite is c at)) (sym (get_or-set_same firsts at o None less)) here)
