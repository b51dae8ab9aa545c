-- Which branches were forked and taken, after a branch has moved.
use Rattle.std.proofs.Common.{◌≡◌, ◌≢◌, ◌⊎◌, ℕ, List, ◌∷◌, true, ◌==◌, inl, inr, refl, sym, ap, ◌∙◌, subst, eqb-true, eq-eqb}
use Rattle.std.proofs.lemmas.Bool.{cases_eq, cases_Bool}
use Rattle.ppm_tickets.specs.Words.{put, has}
use Rattle.ppm_tickets.specs.Homes.{Home, Unborn, Begun}
use Rattle.ppm_tickets.specs.Lawful.{Counts}
use Rattle.ppm_tickets.proofs.WriteLemmas.{put_here, put_else}

put_or : (h : ℕ → Home) (r : ℕ) (y : Home) (q : ℕ) → ((q ≡ r) × (put h r y q ≡ y)) ⊎ ((q ≢ r) × (put h r y q ≡ h q))
put_or h r y q = elim (cases_eq q r) [ inl e ↦ inl (e, ap (put h r y) e ∙ put_here h r y) | inr ne ↦ inr (ne, put_else h r y q ne) ]

pub has_here : (r : ℕ) (l : List ℕ) → has (r ∷ l) r ≡ true
has_here r l = rw (eq-eqb r r refl)

pub has_more : (r q : ℕ) (l : List ℕ) → has l q ≡ true → has (r ∷ l) q ≡ true
has_more r q l e = elim (cases_Bool (r == q)) [ inl k ↦ rw k | inr k ↦ rw k e ]

pub has_or : (r q : ℕ) (l : List ℕ) → has (r ∷ l) q ≡ true → (q ≡ r) ⊎ (has l q ≡ true)
has_or r q l e = elim (cases_Bool (r == q)) [ inl k ↦ inl (sym (eqb-true r q k)) | inr k ↦ inr (rw k at e) ]

at : (l : List ℕ) (q r : ℕ) → q ≡ r → has l r ≡ true → has l q ≡ true
at l q r e = subst (λ (x : ℕ). has l x ≡ true) (sym e)

pub counts_move : (h : ℕ → Home) (f tk : List ℕ) (r : ℕ) (y : Home) → Counts h f tk → h r ≢ Unborn → h r ≢ Begun → y ≢ Unborn → y ≢ Begun → Counts (put h r y) f tk
counts_move h f tk r y c a z yu yb = record {
  born = λ q e. elim (put_or h r y q) [ inl i ↦ λ k. yu (sym i.1 ∙ k) | inr i ↦ λ k. c.born q e (sym i.1 ∙ k) ];
  listed = λ q ne. elim (put_or h r y q) [ inl i ↦ at f q r i.0 (c.listed r a) | inr i ↦ c.listed q (λ k. ne (i.1 ∙ k)) ];
  begun = λ q e. elim (put_or h r y q) [ inl i ↦ absurd (z (c.begun r (at tk r q (sym i.0) e))) | inr i ↦ i.1 ∙ c.begun q e ];
  counted = λ q e. elim (put_or h r y q) [ inl i ↦ absurd (yb (sym i.1 ∙ e)) | inr i ↦ c.counted q (sym i.1 ∙ e) ];
  once = c.once;
  forked_once = c.forked_once;
}

pub counts_fork : (h : ℕ → Home) (f tk : List ℕ) (r : ℕ) (y : Home) → Counts h f tk → h r ≡ Unborn → y ≢ Unborn → y ≢ Begun → Counts (put h r y) (r ∷ f) tk
counts_fork h f tk r y c a yu yb = record {
  born = λ q e. elim (put_or h r y q) [
    | inl i ↦ λ k. yu (sym i.1 ∙ k)
    | inr i ↦ λ k. elim (has_or r q f e) [ inl s ↦ i.0 s | inr o ↦ c.born q o (sym i.1 ∙ k) ]
  ];
  listed = λ q ne. elim (put_or h r y q) [ inl i ↦ at (r ∷ f) q r i.0 (has_here r f) | inr i ↦ has_more r q f (c.listed q (λ k. ne (i.1 ∙ k))) ];
  begun = λ q e. elim (put_or h r y q) [
    | inl i ↦ let b : h r ≡ Begun = c.begun r (at tk r q (sym i.0) e) in absurd (let e : Unborn ≡ Begun = sym a ∙ b in cc)
    | inr i ↦ i.1 ∙ c.begun q e
  ];
  counted = λ q e. elim (put_or h r y q) [ inl i ↦ absurd (yb (sym i.1 ∙ e)) | inr i ↦ c.counted q (sym i.1 ∙ e) ];
  once = c.once;
  forked_once = (elim (cases_Bool (has f r)) [ inl e ↦ absurd (c.born r e a) | inr e ↦ e ], c.forked_once);
}

pub counts_take : (h : ℕ → Home) (f tk : List ℕ) (r : ℕ) → Counts h f tk → h r ≢ Unborn → h r ≢ Begun → Counts (put h r Begun) f (r ∷ tk)
counts_take h f tk r c a z = record {
  born = λ q e. elim (put_or h r Begun q) [ inl i ↦ λ k. absurd (let e : Begun ≡ Unborn = sym i.1 ∙ k in cc) | inr i ↦ λ k. c.born q e (sym i.1 ∙ k) ];
  listed = λ q ne. elim (put_or h r Begun q) [ inl i ↦ at f q r i.0 (c.listed r a) | inr i ↦ c.listed q (λ k. ne (i.1 ∙ k)) ];
  begun = λ q e. elim (put_or h r Begun q) [ inl i ↦ i.1 | inr i ↦ elim (has_or r q tk e) [ inl s ↦ absurd (i.0 s) | inr o ↦ i.1 ∙ c.begun q o ] ];
  counted = λ q e. elim (put_or h r Begun q) [ inl i ↦ at (r ∷ tk) q r i.0 (has_here r tk) | inr i ↦ has_more r q tk (c.counted q (sym i.1 ∙ e)) ];
  once = (elim (cases_Bool (has tk r)) [ inl e ↦ absurd (z (c.begun r e)) | inr e ↦ e ], c.once);
  forked_once = c.forked_once;
}
