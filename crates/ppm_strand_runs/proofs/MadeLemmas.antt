-- Notes tell in which turns changes were made.
use Rattle.std.proofs.Common.{◌≡◌, ◌⊎◌, ◌<◌, ◌≤◌, ◌==◌, ℕ, ◌+◌, Bool, true, false, nat_lt, if◌then◌else◌, List, [], ◌∷◌, ◌++◌, length}
use Rattle.std.proofs.Common.{Option, Some, None, refl, sym, ap, ◌∙◌, subst, inl, inr, arith, ltb-true, ltb-false, length-append, append-nil}
use Rattle.std.specs.Prelude.{slice_get}
use Rattle.std.proofs.lemmas.Bool.{and_from, and_left, and_right, cases_order, eq-eqb, ne_eqb}
use Rattle.std.proofs.lemmas.List.{length-map, length-reverse}
use Rattle.ppm_strands.specs.Tree.{Words}
use Rattle.ppm_unseen.specs.Capsule.{Loads as LoadsOwn, Keeps, Reads as ReadsWord, Changes, Ends as Stops, Next, GoesOn, Forks, Closes}
use Rattle.ppm_unseen.specs.Run.{System, Deed, State, NotYet, UnderWay, Waits, IsOver, Asked, asked, passed, settled}
use Rattle.ppm_unseen.specs.Run.{Comes, Begins, Others, Goes, Does, Takes, Stores, Finds, Leaves, Opens, Joins, Faults, Alters, Splits, Finishes}
use Rattle.ppm_code.specs.declared.location.FrameWord.{FrameWord}
use Rattle.ppm_code.specs.Strands.{Result}
use Rattle.ppm_depth.specs.declared.frame.Finish.{Finish}
use Rattle.ppm_filled.specs.Racing.{OwnWord, Place, Exit}
use Rattle.ppm_racy.specs.declared.code.RacyParts.{RacyParts}
use Rattle.ppm_interleaving.specs.declared.deed.Turn.{Turn}
use Rattle.ppm_interleaving.specs.declared.deed.Turn.TheVariants.{Step, Fault}
use Rattle.ppm_interleaving.specs.declared.machine.Machine.{Machine}
use Rattle.ppm_interleaving.specs.declared.strand.Strand.{Strand}
use Rattle.ppm_interleaving.specs.declared.strand.Strand.TheVariants.{Running, Waiting, Tells, Over}
use Rattle.ppm_interleaving.specs.Changes.{change_of, changes_of}
use Rattle.ppm_interleaving.specs.Steps.{result_of}
use Rattle.ppm_interleaving.specs.Shows.{Shows, asked_in, system}
use Rattle.ppm_interleaving.specs.Turns.{Moment, deeds, ComesBy, came, strand_of}
use Rattle.ppm_interleaving.proofs.OnceLemmas.{AreOverOnce, Standing, standing, Outcome, IsLast, Last, Makes, MovesTo, OpensTo, comes_once, once_before, view}
use Rattle.ppm_strand_runs.specs.declared.made.Made.{Made}
use Rattle.ppm_strand_runs.specs.Made.{count_of, count_in, made_now, turn_by, made_in, HasMade, IsMadeIn, AreMade}

-- ---- notes

-- a note more
in_more : (made : List Made) (m : Made) (i n other : ℕ) → made_in (made ++ m ∷ []) i n other ≡ turn_by m i n (made_in made i n other)
in_more [] m i n other = refl
in_more (x ∷ made) m i n other = in_more made m i n (turn_by x i n other)

-- it is of this change, or not
of_this : (m : Made) (i n other : ℕ) → m.strand ≡ i → m.number ≡ n → turn_by m i n other ≡ m.turn
of_this m i n other p q =
    ap (λ (b : Bool). if b then m.turn else other) (and_from (m.strand == i) (m.number == n) (eq-eqb m.strand i p) (eq-eqb m.number n q))

of_another : (m : Made) (i n other : ℕ) → (m.strand ≡ i → ⊥) → turn_by m i n other ≡ other
of_another m i n other ne = ap (λ (b : Bool). if b then m.turn else other) (and_left (m.strand == i) (m.number == n) (ne_eqb m.strand i ne))

of_other : (m : Made) (i n other : ℕ) → (m.number ≡ n → ⊥) → turn_by m i n other ≡ other
of_other m i n other ne = ap (λ (b : Bool). if b then m.turn else other) (and_right (m.strand == i) (m.number == n) (ne_eqb m.number n ne))

abbrev note : (strand number turn : ℕ) → Made
note strand number turn = record { strand = strand; number = number; turn = turn }

-- ---- counts

-- how many changes a strand has asked for, by what the machine has of it
counted : (found : Option Strand) → length (asked_in found).all ≡ count_of found
counted None = refl
counted (Some (Running r)) =
    length-reverse (changes_of (r.settled.items ++ r.since.items)) ∙ length-map (r.settled.items ++ r.since.items) change_of
    ∙ length-append r.settled.items r.since.items
counted (Some (Waiting w)) = refl
counted (Some (Tells f)) = refl
counted (Some (Over f)) = refl

-- what is settled was asked for
settled_few : {s : System OwnWord Place Exit Result} {me : ℕ} {t : List (Deed OwnWord Place Result)} {σ : State OwnWord Place Exit}
    (c : Comes s (Unit {0}) me t σ) → length (settled c) ≤ length (passed c)
settled_few Begins = omega arith
settled_few (Others d ne h) = settled_few h
settled_few (Goes h (Takes x go)) = settled_few h
settled_few (Goes h (Stores x v rest)) = settled_few h
settled_few (Goes h (Finds x go)) = settled_few h
settled_few (Goes h (Leaves x g rest same)) = let few = settled_few h in omega (arith, few)
settled_few (Goes h (Opens e f is)) = omega arith
settled_few (Goes h (Joins g n fs os over)) = omega arith
settled_few (Goes h (Faults z o' kept)) = omega arith
settled_few (Does h (Alters x g rest ne)) = omega arith
settled_few (Does h (Splits e fs g is)) = omega arith
settled_few (Does h (Finishes e outcome is)) = omega arith

abbrev asked_by : Outcome → ℕ
asked_by r = length r.then_is.asks.all

module _ (s : System OwnWord Place Exit Result) (me : ℕ) where
  -- a turn of a strand asks for one change at most
  opens_few : (t : List (Deed OwnWord Place Result)) (n : Next OwnWord Place Result) (a : ℕ) (r : Outcome) → OpensTo s me t n r → asked_by r ≤ a
  opens_few t (GoesOn f) a r h = let e = ap asked_by h in omega (arith, e)
  opens_few t (Forks fs g) a r h = let e = ap asked_by h in omega (arith, e)
  opens_few t (Closes result) a r h = let e = ap asked_by h in omega (arith, e)

  moves_few : (t : List (Deed OwnWord Place Result)) (σ : State OwnWord Place Exit) (a : Asked) (r : Outcome) → MovesTo s me t σ a r
      → asked_by r ≤ length a.all + 1
  moves_few t NotYet a r h = absurd h
  moves_few t IsOver a r h = absurd h
  moves_few t (Waits g n fs) a r h = let e = ap asked_by h.2 in omega (arith, e)
  moves_few t (UnderWay k (LoadsOwn x go) o) a r h = let e = ap asked_by h in omega (arith, e)
  moves_few t (UnderWay k (Keeps x v rest) o) a r h = let e = ap asked_by h in omega (arith, e)
  moves_few t (UnderWay k (ReadsWord x go) o) a r h = let e = ap asked_by h in omega (arith, e)
  moves_few t (UnderWay k (Changes x g rest) o) a r (inl h) = let e = ap asked_by h.1 in omega (arith, e)
  moves_few t (UnderWay k (Changes x g rest) o) a r (inr h) = let e = ap asked_by h.1 in omega (arith, e)
  moves_few t (UnderWay k (Stops e) o) a r h = opens_few t (s.code.opens e o) (length a.all + 1) r h

  makes_few : (t : List (Deed OwnWord Place Result)) (b : Standing) (turn : Turn) (r : Outcome) → Makes s me t b turn r
      → asked_by r ≤ length b.asks.all + 1
  makes_few t b (Step i) r (inl h) = moves_few t h.0 b.asks r h.2
  makes_few t b (Step i) r (inr h) = let e = ap asked_by h.1 in omega (arith, e)
  makes_few t b (Fault i) r (inl h) = let e = ap asked_by h.4 in omega (arith, e)
  makes_few t b (Fault i) r (inr h) = let e = ap asked_by h.1 in omega (arith, e)

  -- what it had asked for before the last turn
  record Grown (m : Moment) (h : List Moment) (n : ℕ) : Type 0 where
    before : State OwnWord Place Exit
    comes : ComesBy s me h before
    few : n ≤ length (passed (came s comes)) + 1
    others : (strand_of m.turn ≡ me → ⊥) → n ≡ length (passed (came s comes))

  grown_last : (m : Moment) (h : List Moment) (e : Standing) → Last s me m h e → Grown m h (length e.asks.all)
  grown_last m h e l = by l.turn
    where
      by : IsLast s me m h (standing l.state (asked (came s l.comes))) e → Grown m h (length e.asks.all)
      by (inl other) =
          let same = ap (λ (f : Standing). length f.asks.all) other.1 in
          record { before = l.state; comes = l.comes; few = omega (arith, same); others = λ ne. same }
      by (inr own) = record {
        before = l.state;
        comes = l.comes;
        few = makes_few (deeds h) (standing l.state (asked (came s l.comes))) m.turn _ own.1;
        others = λ ne. absurd (ne own.0);
      }

  grown : (m : Moment) (h : List Moment) (σ : State OwnWord Place Exit) (c : ComesBy s me (m ∷ h) σ) → Grown m h (length (passed (came s c)))
  grown m h σ c = grown_last m h (standing σ (asked (came s c))) (view s me c)

module _ (code : RacyParts) (array_words : ℕ) (root : FrameWord → ℕ) (arrays : Words) where
  -- strands of a run that a machine shows are over once
  pub over_once : (h : List Moment) (m : Machine) → Shows code array_words root arrays h m → AreOverOnce (deeds h)
  over_once h m shows i o p left right =
      let f = shows.finishes.alone i o left in
      let g = shows.finishes.alone i p right in
      f.2 ∙ ap result_of (same f.0 g.0 (sym f.1 ∙ g.1)) ∙ sym g.2
    where
      same : (f g : Finish) → Some f ≡ Some g → f ≡ g
      same f g e = cc

  -- a capsule has made so many changes in one way
  one_count : (h : List Moment) → AreOverOnce (deeds h) → (i m n : ℕ) → HasMade code array_words root arrays h i m → HasMade code array_words root arrays h i n
      → m ≡ n
  one_count h once i m n a b =
      sym a.many ∙ ap (λ (e : Standing). length e.asks.all) (comes_once (system code array_words root arrays) i h once a.state b.state a.comes b.comes) ∙ b.many

  -- a machine has what capsules have made
  has_made : (h : List Moment) (m : Machine) → Shows code array_words root arrays h m → (i : ℕ)
      → HasMade code array_words root arrays h i (count_in m.strands.items i)
  has_made h m shows i =
      let there = shows.strands i in
      record { state = there.0; comes = there.1; many = ap (λ (a : Asked). length a.all) there.3 ∙ counted (slice_get m.strands.items i) }

  -- no capsule has made a change before any turn
  pub none_made : AreMade code array_words root arrays [] []
  none_made i n k made less =
      let none = ap (λ (e : Standing). length e.asks.all) (view (system code array_words root arrays) i made.comes) in
      let many = made.many in
      absurd (omega (arith, less, none, many))

  -- what a note more tells of a change that was made before
  made_before : (h : List Moment) (m : Moment) (made : List Made) (i n k : ℕ) → IsMadeIn code array_words root arrays i n h (made_in made i n 0)
      → HasMade code array_words root arrays (m ∷ h) i k → n < k → (now : ℕ) → now ≡ made_in made i n 0
      → IsMadeIn code array_words root arrays i n (m ∷ h) now
  made_before h m made i n k was has less now same =
      inr (subst (λ (t : ℕ). IsMadeIn code array_words root arrays i n h t) (sym same) was, (k, has, less))

  module _ (h : List Moment) (m : Moment) (old new : Machine) (shows : Shows code array_words root arrays h old)
      (later : Shows code array_words root arrays (m ∷ h) new) (made : List Made) (are : AreMade code array_words root arrays h made) where
    before_once : AreOverOnce (deeds h)
    before_once = over_once h old shows

    -- strand i, which had made so many changes before the last turn
    of_strand : (i n k : ℕ) → HasMade code array_words root arrays (m ∷ h) i k → n < k
        → (j : ℕ) × HasMade code array_words root arrays h i j × (k ≤ j + 1) × ((strand_of m.turn ≡ i → ⊥) → k ≡ j)
    of_strand i n k has less =
        let g = grown (system code array_words root arrays) i m h has.state has.comes in
        let many = has.many in
        let few = g.few in (
          length (passed (came (system code array_words root arrays) g.comes)),
          record { state = g.before; comes = g.comes; many = refl },
          omega (arith, many, few),
          λ ne. sym has.many ∙ g.others ne,
        )

    -- the strand whose turn it was
    of_own : (i n : ℕ) → strand_of m.turn ≡ i → n < count_in new.strands.items i → count_in new.strands.items i ≤ count_in old.strands.items i + 1
        → IsMadeIn code array_words root arrays i n (m ∷ h)
        (made_in (made ++ made_now (length h + 1) (strand_of m.turn) (count_in old.strands.items i) (count_in new.strands.items i)) i n 0)
    of_own i n is less few = by (nat_lt (count_in old.strands.items i) (count_in new.strands.items i)) refl
      where
        had : ℕ
        had = count_in old.strands.items i

        has : ℕ
        has = count_in new.strands.items i

        Told : List Made → Type 0
        Told notes = IsMadeIn code array_words root arrays i n (m ∷ h) (made_in (made ++ notes) i n 0)

        low_so : n < has
        low_so = less

        few_so : has ≤ had + 1
        few_so = few

        as_before : n < had → Told []
        as_before low =
            made_before h m made i n has (are i n had (has_made h old shows i) low) (has_made (m ∷ h) new later i) less (made_in (made ++ []) i n 0)
            (ap (λ (l : List Made). made_in l i n 0) (append-nil made))

        noted : had < has → Told (note (strand_of m.turn) had (length h + 1) ∷ [])
        noted more = go (cases_order n had)
          where
            now : List Made → ℕ
            now l = made_in l i n 0

            go : (n ≡ had) ⊎ ((n < had) ⊎ (had < n)) → Told (note (strand_of m.turn) had (length h + 1) ∷ [])
            go (inl same) = inl (
              subst (λ (c : ℕ). HasMade code array_words root arrays h i c) (sym same) (has_made h old shows i),
              subst (λ (c : ℕ). HasMade code array_words root arrays (m ∷ h) i c) (omega (arith, same, more, few_so)) (has_made (m ∷ h) new later i),
              in_more made (note (strand_of m.turn) had (length h + 1)) i n 0
                  ∙ of_this (note (strand_of m.turn) had (length h + 1)) i n (made_in made i n 0) is (sym same),
            )
            go (inr (inl low)) =
                made_before h m made i n has (are i n had (has_made h old shows i) low) (has_made (m ∷ h) new later i) less
                (made_in (made ++ note (strand_of m.turn) had (length h + 1) ∷ []) i n 0)
                (in_more made (note (strand_of m.turn) had (length h + 1)) i n 0
                ∙ of_other (note (strand_of m.turn) had (length h + 1)) i n (made_in made i n 0) (λ e. omega (arith, e, low)))
            go (inr (inr high)) = absurd (omega (arith, high, low_so, few_so))

        by : (b : Bool) → nat_lt had has ≡ b → Told (made_now (length h + 1) (strand_of m.turn) had has)
        by true e =
            subst (λ (t : Bool). Told (if t then note (strand_of m.turn) had (length h + 1) ∷ [] else [])) (sym e) (noted (ltb-true had has e))
        by false e =
            subst (λ (t : Bool). Told (if t then note (strand_of m.turn) had (length h + 1) ∷ [] else [])) (sym e)
            (as_before (let many = ltb-false had has e in omega (arith, many, low_so)))

    -- another strand
    of_others : (i n k : ℕ) → (strand_of m.turn ≡ i → ⊥) → HasMade code array_words root arrays (m ∷ h) i k → n < k
        → IsMadeIn code array_words root arrays i n (m ∷ h)
        (made_in (made ++ made_now (length h + 1) (strand_of m.turn) (count_in old.strands.items (strand_of m.turn))
        (count_in new.strands.items (strand_of m.turn))) i n 0)
    of_others i n k ne has less =
        by (nat_lt (count_in old.strands.items (strand_of m.turn)) (count_in new.strands.items (strand_of m.turn)))
      where
        before : (j : ℕ) × HasMade code array_words root arrays h i j × (k ≤ j + 1) × ((strand_of m.turn ≡ i → ⊥) → k ≡ j)
        before = of_strand i n k has less

        was : IsMadeIn code array_words root arrays i n h (made_in made i n 0)
        was = are i n before.0 before.1 (let same = before.3 ne in omega (arith, same, less))

        had : ℕ
        had = count_in old.strands.items (strand_of m.turn)

        by : (b : Bool) → IsMadeIn code array_words root arrays i n (m ∷ h)
            (made_in (made ++ (if b then note (strand_of m.turn) had (length h + 1) ∷ [] else [])) i n 0)
        by true =
            made_before h m made i n k was has less (made_in (made ++ note (strand_of m.turn) had (length h + 1) ∷ []) i n 0)
            (in_more made (note (strand_of m.turn) had (length h + 1)) i n 0
            ∙ of_another (note (strand_of m.turn) had (length h + 1)) i n (made_in made i n 0) ne)
        by false =
            made_before h m made i n k was has less (made_in (made ++ []) i n 0) (ap (λ (l : List Made). made_in l i n 0) (append-nil made))

    -- notes tell all turns once that of the last one is there
    pub made_more : AreMade code array_words root arrays (m ∷ h)
        (made ++ made_now (length h + 1) (strand_of m.turn) (count_in old.strands.items (strand_of m.turn)) (count_in new.strands.items (strand_of m.turn)))
    made_more i n k has less = by (cases_order (strand_of m.turn) i)
      where
        Made_so : ℕ → Type 0
        Made_so w = IsMadeIn code array_words root arrays i n (m ∷ h)
            (made_in (made ++ made_now (length h + 1) (strand_of m.turn) (count_in old.strands.items w) (count_in new.strands.items w)) i n 0)

        own : strand_of m.turn ≡ i → Made_so i
        own same =
            let before = of_strand i n k has less in
            let j : before.0 ≡ count_in old.strands.items i = one_count h before_once i before.0 (count_in old.strands.items i) before.1 (has_made h old shows i) in
            let l : k ≡ count_in new.strands.items i = one_count (m ∷ h) (over_once (m ∷ h) new later) i k (count_in new.strands.items i) has (has_made (m ∷ h) new later i) in
            let few = before.2 in
            of_own i n same (omega (arith, less, l)) (omega (arith, j, l, few))

        by : (strand_of m.turn ≡ i) ⊎ ((strand_of m.turn < i) ⊎ (i < strand_of m.turn)) → Made_so (strand_of m.turn)
        by (inl same) = subst Made_so (sym same) (own same)
        by (inr (inl low)) = of_others i n k (λ e. omega (arith, e, low)) has less
        by (inr (inr high)) = of_others i n k (λ e. omega (arith, e, high)) has less

  -- a change is made in one turn
  has_more : (i n : ℕ) (h : List Moment) (t : ℕ) → IsMadeIn code array_words root arrays i n h t
      → (k : ℕ) × HasMade code array_words root arrays h i k × (n < k)
  has_more i n [] t made = absurd made
  has_more i n (m ∷ h) t (inl made) = (n + 1, made.1, omega arith)
  has_more i n (m ∷ h) t (inr made) = made.1

  not_yet : (i n : ℕ) (h : List Moment) → AreOverOnce (deeds h) → (t : ℕ) → HasMade code array_words root arrays h i n
      → IsMadeIn code array_words root arrays i n h t → ⊥
  not_yet i n h once t has made =
      let more = has_more i n h t made in
      let same = one_count h once i n more.0 has more.1 in
      let less = more.2 in omega (arith, same, less)

  pub one_turn : (i n : ℕ) (h : List Moment) → AreOverOnce (deeds h) → (t u : ℕ) → IsMadeIn code array_words root arrays i n h t
      → IsMadeIn code array_words root arrays i n h u → t ≡ u
  one_turn i n [] once t u a b = absurd a
  one_turn i n (m ∷ h) once t u (inl a) (inl b) = a.2 ∙ sym b.2
  one_turn i n (m ∷ h) once t u (inl a) (inr b) =
      absurd (not_yet i n h (once_before (system code array_words root arrays) 0 m h once) u a.0 b.0)
  one_turn i n (m ∷ h) once t u (inr a) (inl b) =
      absurd (not_yet i n h (once_before (system code array_words root arrays) 0 m h once) t b.0 a.0)
  one_turn i n (m ∷ h) once t u (inr a) (inr b) =
      one_turn i n h (once_before (system code array_words root arrays) 0 m h once) t u a.0 b.0

  -- what falls is told with its turn
  pub falls_in : (h : List Moment) (made : List Made) → AreMade code array_words root arrays h made → (i n : ℕ) (σ : State OwnWord Place Exit)
      (c : ComesBy (system code array_words root arrays) i h σ) → n < length (settled (came (system code array_words root arrays) c))
      → IsMadeIn code array_words root arrays i n h (made_in made i n 0)
  falls_in h made are i n σ c less =
      let few = settled_few (came (system code array_words root arrays) c) in
      are i n (length (passed (came (system code array_words root arrays) c))) (record { state = σ; comes = c; many = refl }) (omega (arith, few, less))
