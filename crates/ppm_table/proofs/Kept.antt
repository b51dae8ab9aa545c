-- Each step keeps the run.
use Rattle.std.proofs.Common.{◌≡◌, ◌≢◌, ◌⊎◌, ℕ, zero, suc, ◌+◌, ◌<◌, List, [], ◌∷◌, ◌++◌, length, set, sym, refl, ap, ◌∙◌, subst, inl, inr, arith, append-nil, drop}
use Rattle.std.specs.Prelude.{slice_index, slice_set}
use mathlib.Core.Option.{some, some-injective, some-ne-none}
use lib.ListN.{get_elem?}
use Rattle.atomic_table.specs.Table.{State as TableState, keeps, Allows, Joins, opening as opening_table}
use Rattle.atomic_table.proofs.Lists.{at_set}
use Rattle.ppm_cells.specs.declared.shape.Shape.{Shape}
use Rattle.ppm_code.specs.declared.code.CodeParts.{CodeParts}
use Rattle.ppm_step.specs.declared.ask.Want.{Want}
use Rattle.ppm_step.specs.declared.turn.Act.{Act}
use Rattle.ppm_step.specs.declared.turn.Turn.{Turn}
use Rattle.ppm_step.specs.Standings.{Standing, IsDone}
use Rattle.ppm_step.specs.State.{State, stand_of, happens, want_of, found_in, words_after}
use Rattle.ppm_table.specs.declared.view.Deed.{Deed}
use Rattle.ppm_table.specs.declared.view.Opening.{Opening}
use Rattle.ppm_table.specs.declared.view.Record.{Record}
use Rattle.ppm_table.specs.declared.view.View.{View}
use Rattle.ppm_table.specs.declared.view.View.TheVariants.{Maker, Spent}
use Rattle.ppm_table.specs.Run.{padding, stood, deed_of, act_by, deed_at, IsTold, start, behind_turns, deeds_in_run, stands_by, maker, record_with, seated, records_in, deeds_in, FitsOne, Fits, Below, Numbered, IsRun, seen, Mine, both_of, IsSeat}
use Rattle.ppm_table.proofs.ListLemmas.{behind, set_behind}
use Rattle.ppm_table.proofs.RunLemmas.{after_more, deeds_more, told_more, happens_live, lost_at, lost_length, length_stays, own_deed, no_deed, stands_as}

-- a processor makes an act, and its seat keeps the deed
module _ (k : Opening) (t : TableState (Unit {0}) View) (r : IsRun k t) (id c : ℕ) (ds : List Deed) (at : get_elem? t.views id ≡ some (seated c ds)) (act : Act)
    (lives : stands_by k c ds ≢ IsDone)
    (tells : act_by k.shape (stands_by k c ds)
    (deed_of act (want_of k.shape k.code c act (stands_by k c ds)) (found_in (behind_turns k r.turns).words (want_of k.shape k.code c act (stands_by k c ds)))) ≡ act) where
  abbrev s : Shape
  s = k.shape

  abbrev code : CodeParts
  code = k.code

  abbrev here : State
  here = behind_turns k r.turns

  abbrev turn : Turn
  turn = record { processor = c; act = act }

  abbrev want : Want
  want = want_of s code c act (stands_by k c ds)

  abbrev deed : Deed
  deed = deed_of act want (found_in here.words want)

  mine : FitsOne k r.turns (record_with c ds)
  mine = (r.fits id (seated c ds) at).0

  stands : stand_of here c ≡ stands_by k c ds
  stands =
      let small : c < length (start k).stand = omega (arith, mine.number, lost_length k.shape.processors) in
      stands_as s code c (start k) r.turns small r.told
      ∙ ap (λ (st : Standing). stood k.shape k.code c st (deeds_in_run k c r.turns)) (lost_at k.shape.processors c mine.number)
      ∙ ap (λ (l : List Deed). stands_by k c l) (sym mine.deeds)

  deed_is : deed_at s code here turn ≡ deed
  deed_is = ap (λ (st : Standing). deed_of act (want_of s code c act st) (found_in here.words (want_of s code c act st))) stands

  is_told : IsTold s code here turn
  is_told = record {
    lives = λ e. lives (sym stands ∙ e);
    act = ap (λ (d : Deed). act_by s (stand_of here c) d) deed_is ∙ ap (λ (st : Standing). act_by s st deed) stands ∙ tells;
  }

  words_are : (happens s code here turn).words ≡ words_after here.words want
  words_are = ap (λ (n : State). n.words) (happens_live s code here turn is_told.lives)
      ∙ ap (λ (st : Standing). words_after here.words (want_of s code c act st)) stands

  abbrev new : View
  new = seen (seated c ds) deed

  new_one : FitsOne k (r.turns ++ turn ∷ []) (record_with c (ds ++ deed ∷ []))
  new_one = record {
    number = mine.number;
    deeds = ap (λ (xs : List Deed). xs ++ deed ∷ []) mine.deeds
        ∙ ap (λ (d : Deed). deeds_in_run k c r.turns ++ d ∷ []) (sym deed_is)
        ∙ ap (λ (xs : List Deed). deeds_in_run k c r.turns ++ xs) (sym (own_deed s code here turn))
        ∙ sym (deeds_more s code c (start k) r.turns turn);
  }

  same_deeds : (d : ℕ) → c ≢ d → deeds_in_run k d (r.turns ++ turn ∷ []) ≡ deeds_in_run k d r.turns
  same_deeds d ne = deeds_more s code d (start k) r.turns turn
      ∙ ap (λ (xs : List Deed). deeds_in_run k d r.turns ++ xs) (no_deed s code here turn d ne) ∙ append-nil _

  other_one : (q : Record) → q.number ≢ c → FitsOne k r.turns q → FitsOne k (r.turns ++ turn ∷ []) q
  other_one q ne f = record { number = f.number; deeds = f.deeds ∙ sym (same_deeds q.number (λ e. ne (sym e))) }

  others : (rs : List Record) → (Numbered rs c → ⊥) → Fits k r.turns rs → Fits k (r.turns ++ turn ∷ []) rs
  others [] ne f = tt
  others (q ∷ rs) ne f = (other_one q (λ e. ne (inl e)) f.0, others rs (λ h. ne (inr h)) f.1)

  own_number : (v : View) → new ≡ v → (d : ℕ) → Numbered (records_in v) d → c ≡ d
  own_number v e d h = elim (subst (λ (x : View). Numbered (records_in x) d) (sym e) h) [ inl p ↦ p | inr p ↦ absurd p ]

  -- the run with one turn more
  pub kept_turn : (ws : List ℕ) → drop padding ws ≡ words_after here.words want → IsRun k record { words = ws; homes = t.homes; views = set t.views id new }
  kept_turn ws is = record {
    turns = r.turns ++ turn ∷ [];
    words = is ∙ sym words_are ∙ ap (λ (n : State). n.words) (sym (after_more s code (start k) r.turns turn));
    stand = ap (λ (n : State). length n.stand) (after_more s code (start k) r.turns turn) ∙ length_stays s code here turn is_told.lives ∙ r.stand;
    told = told_more s code (start k) r.turns turn r.told is_told;
    fits = λ j v e. elim (at_set t.views id j new v e) [
      | inl p ↦ subst (λ (x : View). Fits k (r.turns ++ turn ∷ []) (records_in x)) p.1 (new_one, tt)
      | inr p ↦ others (records_in v) (λ h. p.0 (r.apart j id c v (seated c ds) p.1 at h (inl refl))) (r.fits j v p.1)
    ];
    apart = λ i j d u v eu ev nu nv. elim (at_set t.views id i new u eu) [
      | inl p ↦ elim (at_set t.views id j new v ev) [
        | inl q ↦ p.0 ∙ sym q.0
        | inr q ↦ p.0 ∙ r.apart id j d (seated c ds) v at q.1 (inl (own_number u p.1 d nu)) nv
      ]
      | inr p ↦ elim (at_set t.views id j new v ev) [
        | inl q ↦ r.apart i id d u (seated c ds) p.1 at nu (inl (own_number v q.1 d nv)) ∙ sym q.0
        | inr q ↦ r.apart i j d u v p.1 q.1 nu nv
      ]
    ];
    made = λ i j n v ei ej. elim (at_set t.views id i new (Maker n) ei) [
      | inl p ↦ absurd (cc)
      | inr p ↦ elim (at_set t.views id j new v ej) [
        | inl q ↦ subst (λ (x : View). Below n (records_in x)) q.1 ((r.made i id n (seated c ds) p.1 at).0, tt)
        | inr q ↦ r.made i j n v p.1 q.1
      ]
    ];
    fresh = λ i n d ei le. elim (at_set t.views id i new (Maker n) ei) [
      | inl p ↦ absurd (cc)
      | inr p ↦
          let below = (r.made i id n (seated c ds) p.1 at).0 in
          let ne : c ≢ d = omega arith in
          same_deeds d ne ∙ r.fresh i n d p.1 le
    ];
    one = λ i j n m ei ej. elim (at_set t.views id i new (Maker n) ei) [
      | inl p ↦ absurd (cc)
      | inr p ↦ elim (at_set t.views id j new (Maker m) ej) [ inl q ↦ absurd (cc) | inr q ↦ r.one i j n m p.1 q.1 ]
    ];
  }

-- what an atomic step owes
pub allows : (k : Opening) (slots id c : ℕ) (act : Act) (me : Mine) (i : ℕ) (f : ℕ → ℕ) (d : ℕ → Deed)
    → IsSeat c me → stands_by k c (deeds_in me.0) ≢ IsDone
    → ((ws : List ℕ) → slice_set ws i (f (slice_index ws i)) ≡ words_after ws (want_of k.shape k.code c act (stands_by k c (deeds_in me.0))))
    → ((ws : List ℕ) → d (slice_index ws i)
    ≡ deed_of act (want_of k.shape k.code c act (stands_by k c (deeds_in me.0))) (found_in ws (want_of k.shape k.code c act (stands_by k c (deeds_in me.0)))))
    → ((n : ℕ) → act_by k.shape (stands_by k c (deeds_in me.0)) (d n) ≡ act)
    → Allows (IsRun k) slots id me (padding + i) f (λ n new. new ≡ (seen me.0 (d n), me.1))
allows k slots id c act me i f d own lives writes says tells s r homes at small =
    let ds = deeds_in me.0 in
    let is : me.0 ≡ seated c ds = ap (λ (z : Mine). z.0) own in
    let here : List ℕ = (behind_turns k r.turns).words in
    let n = slice_index s.words (padding + i) in
    let index : slice_index here i ≡ n = ap (λ (ws : List ℕ). slice_index ws i) (sym r.words) ∙ behind padding s.words i in
    let words : drop padding (slice_set s.words (padding + i) (f n)) ≡ words_after here (want_of k.shape k.code c act (stands_by k c ds)) =
    set_behind padding s.words i (f n) ∙ ap (λ (ws : List ℕ). slice_set ws i (f n)) r.words ∙ ap (λ (m : ℕ). slice_set here i (f m)) (sym index) ∙ writes here in
    let kept = kept_turn k s r id c ds (at ∙ ap some is) act lives
    (ap (λ (e : Deed). act_by k.shape (stands_by k c ds) e) (sym (says here)) ∙ tells (slice_index here i)) (slice_set s.words (padding + i) (f n)) words in (
      seen me.0 (d n),
      keeps,
      tt,
      subst (λ (v : View). IsRun k record { words = slice_set s.words (padding + i) (f n); homes = s.homes; views = set s.views id v })
          (ap (λ (e : Deed). seen (seated c ds) e) (sym (says here) ∙ ap d index) ∙ ap (λ (v : View). seen v (d n)) (sym is)) kept,
      refl,
    )

-- what an atomic step owes, where the deed is told for each address that is the word's
pub allows_at : (k : Opening) (slots id : ℕ) (me : Mine) (i : ℕ) (f : ℕ → ℕ) (d : ℕ → ℕ → Deed)
    → Allows (IsRun k) slots id me (padding + i) f (λ n new. new ≡ (seen me.0 (d i n), me.1))
    → Allows (IsRun k) slots id me (padding + i) f (λ n new. (at : ℕ) → padding + i ≡ padding + at → new ≡ (seen me.0 (d at n), me.1))
allows_at k slots id me i f d owed s r homes at small =
    let o = owed s r homes at small in
    let n = slice_index s.words (padding + i) in (
      o.0,
      o.1,
      o.2,
      o.3,
      λ a e. o.4 ∙ ap (λ (j : ℕ). (seen me.0 (d j n), me.1)) (let h : i ≡ a = omega (arith, e) in h),
    )

-- the opening table
pub opens : (k : Opening) (ws : List ℕ) → drop padding ws ≡ k.words → IsRun k (opening_table {S = Unit {0}} {V = View} ws [] (maker 0))
opens k ws is = record {
  turns = [];
  words = is;
  stand = lost_length k.shape.processors;
  told = tt;
  fits = λ j v e. subst (λ (x : View). Fits k [] (records_in x)) (only j v e).1 tt;
  apart = λ i j c u v ei ej ni nj. absurd (subst (λ (x : View). Numbered (records_in x) c) (sym (only i u ei).1) ni);
  made = λ i j m v ei ej. subst (λ (x : View). Below m (records_in x)) (only j v ej).1 tt;
  fresh = λ i m c ei le. refl;
  one = λ i j m n ei ej. (only i _ ei).0 ∙ sym (only j _ ej).0;
}
  where
    only : (j : ℕ) (v : View) → get_elem? (maker 0 ∷ []) j ≡ some v → (j ≡ 0) × (maker 0 ≡ v)
    only zero v e = (refl, some-injective _ _ e)
    only (suc j) v e = absurd (some-ne-none v (sym e))

at_end : {A : Type 0} (l : List A) (a b : A) (j : ℕ) → get_elem? (l ++ a ∷ []) j ≡ some b → ((j < length l) × (get_elem? l j ≡ some b)) ⊎ ((j ≡ length l) × (a ≡ b))
at_end [] a b zero e = inr (refl, some-injective a b e)
at_end [] a b (suc j) e = absurd (some-ne-none b (sym e))
at_end (x ∷ l) a b zero e = inl (omega arith, e)
at_end (x ∷ l) a b (suc j) e = elim (at_end l a b j e) [ inl p ↦ inl (omega arith, p.1) | inr p ↦ inr (ap suc p.0, p.1) ]

numbered_below : (n : ℕ) (rs : List Record) (c : ℕ) → Below n rs → Numbered rs c → c < n
numbered_below n [] c b h = absurd h
numbered_below n (r ∷ rs) c b h = elim h [ inl p ↦ omega (arith, p, b.0) | inr p ↦ numbered_below n rs c b.1 p ]

below_more : (n : ℕ) (rs : List Record) → Below n rs → Below (n + 1) rs
below_more n [] b = tt
below_more n (r ∷ rs) b = (omega (arith, b.0), below_more n rs b.1)

-- a view is cut in two
module _ (k : Opening) (s : TableState (Unit {0}) View) (r : IsRun k s) (id n : ℕ) (small : n < k.shape.processors) (at : get_elem? s.views id ≡ some (maker n)) where
  abbrev cut : List View
  cut = set s.views id (maker (n + 1))

  -- a view after the cut: the maker's, one that was there, or the new one
  data Now (j : ℕ) (v : View) : Type 0 where
    mine_is : j ≡ id → maker (n + 1) ≡ v → Now j v
    old_is : j ≢ id → get_elem? s.views j ≡ some v → j < length cut → Now j v
    new_is : j ≡ length cut → seated n [] ≡ v → Now j v

  now : (j : ℕ) (v : View) → get_elem? (cut ++ seated n [] ∷ []) j ≡ some v → Now j v
  now j v e = elim (at_end cut (seated n []) v j e) [
    | inl p ↦ elim (at_set s.views id j (maker (n + 1)) v p.1) [ inl q ↦ mine_is q.0 q.1 | inr q ↦ old_is q.0 q.1 p.0 ]
    | inr p ↦ new_is p.0 p.1
  ]

  fits_now : (j : ℕ) (v : View) → Now j v → Fits k r.turns (records_in v)
  fits_now j v (mine_is e m) = subst (λ (x : View). Fits k r.turns (records_in x)) m tt
  fits_now j v (old_is ne o lt) = r.fits j v o
  fits_now j v (new_is e m) = let f = r.fresh id n n at (omega arith) in subst (λ (x : View). Fits k r.turns (records_in x)) m (record { number = small; deeds = sym f }, tt)

  new_number : (v : View) (c : ℕ) → seated n [] ≡ v → Numbered (records_in v) c → n ≡ c
  new_number v c e h = elim (subst (λ (x : View). Numbered (records_in x) c) (sym e) h) [ inl p ↦ p | inr p ↦ absurd p ]

  apart_now : (i j c : ℕ) (u v : View) → Now i u → Now j v → Numbered (records_in u) c → Numbered (records_in v) c → i ≡ j
  apart_now i j c u v (mine_is e m) y nu nv = absurd (subst (λ (x : View). Numbered (records_in x) c) (sym m) nu)
  apart_now i j c u v x (mine_is e m) nu nv = absurd (subst (λ (x : View). Numbered (records_in x) c) (sym m) nv)
  apart_now i j c u v (old_is a p x) (old_is b q y) nu nv = r.apart i j c u v p q nu nv
  apart_now i j c u v (old_is a p x) (new_is b q) nu nv =
      let m : n ≡ c = new_number v c q nv in let lt = numbered_below n (records_in u) c (r.made id i n u at p) nu in absurd (omega arith)
  apart_now i j c u v (new_is a p) (old_is b q y) nu nv =
      let m : n ≡ c = new_number u c p nu in let lt = numbered_below n (records_in v) c (r.made id j n v at q) nv in absurd (omega arith)
  apart_now i j c u v (new_is a p) (new_is b q) nu nv = a ∙ sym b

  maker_at : (i m : ℕ) → Now i (Maker m) → (i ≡ id) × (m ≡ n + 1)
  maker_at i m (mine_is e p) = (e, cc)
  maker_at i m (old_is ne o lt) = absurd (ne (r.one i id m n o at))
  maker_at i m (new_is e p) = absurd (cc)

  below_now : (j : ℕ) (v : View) → Now j v → Below (n + 1) (records_in v)
  below_now j v (mine_is e m) = subst (λ (x : View). Below (n + 1) (records_in x)) m tt
  below_now j v (old_is ne o lt) = below_more n (records_in v) (r.made id j n v at o)
  below_now j v (new_is e m) = let lt : n < n + 1 = omega arith in subst (λ (x : View). Below (n + 1) (records_in x)) m (lt, tt)

  pub splits : IsRun k record { words = s.words; homes = s.homes; views = cut ++ seated n [] ∷ [] }
  splits = record {
    turns = r.turns;
    words = r.words;
    stand = r.stand;
    told = r.told;
    fits = λ j v e. fits_now j v (now j v e);
    apart = λ i j c u v ei ej nu nv. apart_now i j c u v (now i u ei) (now j v ej) nu nv;
    made = λ i j m v ei ej. let mk = maker_at i m (now i (Maker m) ei) in subst (λ (x : ℕ). Below x (records_in v)) (sym mk.1) (below_now j v (now j v ej));
    fresh = λ i m c ei le. let mk = maker_at i m (now i (Maker m) ei) in r.fresh id n c at (omega arith);
    one = λ i j m x ei ej. (maker_at i m (now i (Maker m) ei)).0 ∙ sym (maker_at j x (now j (Maker x) ej)).0;
  }

fits_append : (k : Opening) (turns : List Turn) (xs ys : List Record) → Fits k turns xs → Fits k turns ys → Fits k turns (xs ++ ys)
fits_append k turns [] ys f g = g
fits_append k turns (x ∷ xs) ys f g = (f.0, fits_append k turns xs ys f.1 g)

below_append : (n : ℕ) (xs ys : List Record) → Below n xs → Below n ys → Below n (xs ++ ys)
below_append n [] ys f g = g
below_append n (x ∷ xs) ys f g = (f.0, below_append n xs ys f.1 g)

numbered_append : (xs ys : List Record) (c : ℕ) → Numbered (xs ++ ys) c → Numbered xs c ⊎ Numbered ys c
numbered_append [] ys c h = inr h
numbered_append (x ∷ xs) ys c h = elim h [ inl p ↦ inl (inl p) | inr p ↦ elim (numbered_append xs ys c p) [ inl q ↦ inl (inr q) | inr q ↦ inr q ] ]

-- two views are put together: their records stand in one, and the other has none
module _ (k : Opening) (s : TableState (Unit {0}) View) (r : IsRun k s) (id other : ℕ) (v w : View) (at : get_elem? s.views id ≡ some v) (apart : other ≢ id) (at2 : get_elem? s.views other ≡ some w) where
  abbrev one_of : List View
  one_of = set (set s.views id (both_of v w)) other Spent

  data Met (j : ℕ) (x : View) : Type 0 where
    both_is : j ≡ id → both_of v w ≡ x → Met j x
    spent_is : Spent ≡ x → Met j x
    kept_is : j ≢ id → j ≢ other → get_elem? s.views j ≡ some x → Met j x

  met : (j : ℕ) (x : View) → get_elem? one_of j ≡ some x → Met j x
  met j x e = elim (at_set (set s.views id (both_of v w)) other j Spent x e) [
    | inl p ↦ spent_is p.1
    | inr p ↦ elim (at_set s.views id j (both_of v w) x p.1) [ inl q ↦ both_is q.0 q.1 | inr q ↦ kept_is q.0 p.0 q.1 ]
  ]

  fits_met : (j : ℕ) (x : View) → Met j x → Fits k r.turns (records_in x)
  fits_met j x (both_is e m) = subst (λ (y : View). Fits k r.turns (records_in y)) m (fits_append k r.turns (records_in v) (records_in w) (r.fits id v at) (r.fits other w at2))
  fits_met j x (spent_is m) = subst (λ (y : View). Fits k r.turns (records_in y)) m tt
  fits_met j x (kept_is a b o) = r.fits j x o

  -- a record of the two is in no other view
  no_third : (j c : ℕ) (x y : View) → j ≢ id → j ≢ other → get_elem? s.views j ≡ some x → Numbered (records_in x) c → both_of v w ≡ y → Numbered (records_in y) c → ⊥
  no_third j c x y a b o nx e ny = elim (numbered_append (records_in v) (records_in w) c (subst (λ (z : View). Numbered (records_in z) c) (sym e) ny)) [
    | inl p ↦ a (r.apart j id c x v o at nx p)
    | inr p ↦ b (r.apart j other c x w o at2 nx p)
  ]

  apart_met : (i j c : ℕ) (x y : View) → Met i x → Met j y → Numbered (records_in x) c → Numbered (records_in y) c → i ≡ j
  apart_met i j c x y (spent_is m) q nx ny = absurd (subst (λ (z : View). Numbered (records_in z) c) (sym m) nx)
  apart_met i j c x y p (spent_is m) nx ny = absurd (subst (λ (z : View). Numbered (records_in z) c) (sym m) ny)
  apart_met i j c x y (both_is e m) (both_is f n) nx ny = e ∙ sym f
  apart_met i j c x y (both_is e m) (kept_is a b o) nx ny = absurd (no_third j c y x a b o ny m nx)
  apart_met i j c x y (kept_is a b o) (both_is e m) nx ny = absurd (no_third i c x y a b o nx m ny)
  apart_met i j c x y (kept_is a b o) (kept_is d f q) nx ny = r.apart i j c x y o q nx ny

  maker_met : (i m : ℕ) → Met i (Maker m) → get_elem? s.views i ≡ some (Maker m)
  maker_met i m (both_is e p) = absurd (cc)
  maker_met i m (spent_is p) = absurd (cc)
  maker_met i m (kept_is a b o) = o

  below_met : (i j m : ℕ) (x : View) → get_elem? s.views i ≡ some (Maker m) → Met j x → Below m (records_in x)
  below_met i j m x o (both_is e p) = subst (λ (y : View). Below m (records_in y)) p (below_append m (records_in v) (records_in w) (r.made i id m v o at) (r.made i other m w o at2))
  below_met i j m x o (spent_is p) = subst (λ (y : View). Below m (records_in y)) p tt
  below_met i j m x o (kept_is a b q) = r.made i j m x o q

  pub joins : IsRun k record { words = s.words; homes = s.homes; views = one_of }
  joins = record {
    turns = r.turns;
    words = r.words;
    stand = r.stand;
    told = r.told;
    fits = λ j x e. fits_met j x (met j x e);
    apart = λ i j c x y ei ej nx ny. apart_met i j c x y (met i x ei) (met j y ej) nx ny;
    made = λ i j m x ei ej. below_met i j m x (maker_met i m (met i (Maker m) ei)) (met j x ej);
    fresh = λ i m c ei le. r.fresh i m c (maker_met i m (met i (Maker m) ei)) le;
    one = λ i j m x ei ej. r.one i j m x (maker_met i m (met i (Maker m) ei)) (maker_met j x (met j (Maker x) ej));
  }

pub merges : (k : Opening) (id other : ℕ) (v w : View) → Joins (IsRun k) id v other w (both_of v w) Spent
merges k id other v w s r at apart at' =
    let there : get_elem? s.views other ≡ some w = elim (at_set s.views id other (both_of v w) w at') [ inl p ↦ absurd (apart p.0) | inr p ↦ p.1 ] in
    joins k s r id other v w at apart there
