-- Logs that are looked through and marked, touch by touch.
use Rattle.std.proofs.Common.{◌≡◌, ◌<◌, ◌≤◌, ℕ, Bool, true, false, ◌&&◌, ◌||◌, List, [], ◌∷◌, ◌++◌, length, get_or, set, take, drop, ◌-◌}
use Rattle.std.proofs.Common.{refl, sym, ap, ◌∙◌, subst, arith, inl, inr}
use Rattle.std.specs.Prelude.{◌⊎◌, ◌↔◌}
use Rattle.std.proofs.lemmas.Bool.{cases_Bool, cases_eq}
use Rattle.std.specs.List.{AllByRecursion}
use Rattle.std.proofs.lemmas.List.{append-nil, append_assoc, get_or-set_same, get_or-set_other, length-set, take_all}
use Rattle.ppm_strands.specs.Tree.{Has}
use Rattle.ppm_strands.proofs.CalmLemmas.{has_or_not}
use Rattle.ppm_races.specs.Touches.{words_in, with_written, written_in, AreThere}
use Rattle.ppm_races.specs.Beside.{stands_beside, meets, HasMet, IsFirst, IsFirstMet, wrote_with, touched_with, NoneMeets, AreMarked}
use Rattle.ppm_races.specs.declared.stamps.Mark.{Mark}
use Rattle.ppm_races.specs.declared.stamps.Met.{Met}
use Rattle.ppm_races.specs.declared.touch.Touch.{Touch}

-- what is after the first of a list
rest_is : {X : Type 0} (x : X) (xs : List X) → take (length (x ∷ xs) - 1) (drop 1 (x ∷ xs)) ≡ xs
rest_is x xs = take_all (length (x ∷ xs) - 1) xs (omega arith)

-- a join is false where both are
pub or_none : (x y : Bool) → (x || y) ≡ false → (x ≡ false) × (y ≡ false)
or_none true y h = absurd (cc)
or_none false y h = (refl, h)

-- a word that is written, by its first
pub written_one : (b : Bool) (y x : ℕ) (xs : List ℕ) → Has x (with_written b y xs) → ((b ≡ true) × (x ≡ y)) ⊎ Has x xs
written_one true y x xs h = elim h [ inl e ↦ inl (refl, e) | inr z ↦ inr z ]
written_one false y x xs h = inr h

-- the first, where it writes
one_written : (b : Bool) (y : ℕ) (xs : List ℕ) → b ≡ true → Has y (with_written b y xs)
one_written true y xs h = inl refl
one_written false y xs h = absurd (cc)

-- one of the others
more_written : (b : Bool) (y x : ℕ) (xs : List ℕ) → Has x xs → Has x (with_written b y xs)
more_written true y x xs h = inr h
more_written false y x xs h = h

-- a touch of a log is of one of its words, and, where it writes, of one of those that are written
pub in_words : (front rest : List Touch) (t : Touch) → Has t.word (words_in (front ++ (t ∷ rest)))
in_words [] rest t = inl refl
in_words (x ∷ front) rest t = inr (in_words front rest t)

-- and of those that are written
pub in_written : (front rest : List Touch) (t : Touch) → t.writes ≡ true → Has t.word (written_in (front ++ (t ∷ rest)))
in_written [] rest t e = one_written t.writes t.word (written_in rest) e
in_written (x ∷ front) rest t e = more_written x.writes x.word t.word (written_in (front ++ (t ∷ rest))) (in_written front rest t e)

-- a touch of a log of array words is of one
pub word_there : (n : ℕ) (front rest : List Touch) (t : Touch) → AreThere n (front ++ (t ∷ rest)) → t.word < n
word_there n [] rest t h = h.0
word_there n (x ∷ front) rest t h = word_there n front rest t h.1

-- what a test says of a list and of one more
all_push : (test : Touch → Bool) (front : List Touch) (t : Touch) → AllByRecursion (λ x. test x ≡ false) front → test t ≡ false
    → AllByRecursion (λ x. test x ≡ false) (front ++ (t ∷ []))
all_push test [] t h e = (e, tt)
all_push test (x ∷ front) t h e = (h.0, all_push test front t h.1 e)

-- a log is looked through up to here: a front of which a test says no, and what is left
pub record IsPassed (test : Touch → Bool) (log left : List Touch) : Type 0 where
  pub front : List Touch
  pub all : log ≡ front ++ left
  pub none : AllByRecursion (λ x. test x ≡ false) front

-- at the beginning
pub none_passed : (test : Touch → Bool) (log : List Touch) → IsPassed test log log
none_passed test log = record { front = []; all = refl; none = tt }

-- one touch more
one_passed : (test : Touch → Bool) (log left : List Touch) (t : Touch) → test t ≡ false → IsPassed test log (t ∷ left) → IsPassed test log left
one_passed test log left t e it = record {
  front = it.front ++ (t ∷ []);
  all = it.all ∙ sym (append_assoc it.front (t ∷ []) left);
  none = all_push test it.front t it.none e;
}

module _ (q : ℕ → Bool) (wrote touched : List ℕ) where
  not_met : (b w : Bool) → (w && b) ≡ false → w ≡ true → b ≡ false
  not_met b true h e = h
  not_met b false h e = absurd (cc)

  -- of a log of which no touch meets anything
  none_meets : (log : List Touch) → AllByRecursion (λ x. meets q wrote touched x ≡ false) log → NoneMeets q wrote touched log
  none_meets [] h = record { unwritten = λ x has. absurd has; untouched = λ x has. absurd has }
  none_meets (t ∷ log) h =
      let rest = none_meets log h.1 in
      let parts = or_none (q (get_or wrote t.word 0)) (t.writes && q (get_or touched t.word 0)) h.0 in
      record {
        unwritten = λ x has. elim has [
          | inl e ↦ ap (λ (y : ℕ). q (get_or wrote y 0)) e ∙ parts.0
          | inr y ↦ rest.unwritten x y
        ];
        untouched = λ x has. elim (written_one t.writes t.word x (written_in log) has) [
          | inl e ↦ ap (λ (y : ℕ). q (get_or touched y 0)) e.1 ∙ not_met (q (get_or touched t.word 0)) t.writes parts.1 e.0
          | inr y ↦ rest.untouched x y
        ];
      }

  -- the next touch of what is left meets nothing
  pub passed_next : (log left : List Touch) (d : Touch) → 1 ≤ length left → meets q wrote touched (get_or left 0 d) ≡ false
      → IsPassed (meets q wrote touched) log left → IsPassed (meets q wrote touched) log (take (length left - 1) (drop 1 left))
  passed_next log [] d some e it = absurd (omega (arith, some))
  passed_next log (t ∷ left) d some e it =
      subst (λ (xs : List Touch). IsPassed (meets q wrote touched) log xs) (sym (rest_is t left)) (one_passed (meets q wrote touched) log left t e it)

  -- none is left
  pub passed_all : (log left : List Touch) → length left < 1 → IsPassed (meets q wrote touched) log left → NoneMeets q wrote touched log
  passed_all log [] none it = none_meets log (subst (λ (xs : List Touch). AllByRecursion (λ x. meets q wrote touched x ≡ false) xs)
      (sym (it.all ∙ append-nil it.front)) it.none)
  passed_all log (t ∷ left) none it = absurd (omega (arith, none))

-- the next one meets something
pub met_next : (marks : List Mark) (wrote touched : List ℕ) (log left : List Touch) (d : Touch) (met : Met) → 1 ≤ length left
    → HasMet marks wrote touched (get_or left 0 d) met → IsPassed (meets (stands_beside marks) wrote touched) log left
    → IsFirstMet marks wrote touched log met
met_next marks wrote touched log [] d met some h it = absurd (omega (arith, some))
met_next marks wrote touched log (t ∷ left) d met some h it = record {
  first = subst (λ (u : Touch). IsFirst (meets (stands_beside marks) wrote touched) log u) (sym h.touch)
      (record { front = it.front; rest = left; all = it.all; none = it.none; here = h.met_there });
  whom = subst (λ (u : Touch). HasMet marks wrote touched u met) (sym h.touch) h;
}

-- what is left decides whether a word is written
abbrev pub WritesAs : (word : ℕ) → List Touch → List Touch → Type 0
WritesAs word log left = Has word (written_in log) ↔ Has word (written_in left)

-- the next touch does not write it
pub writes_next : (word : ℕ) (log left : List Touch) (d : Touch) → 1 ≤ length left
    → ((get_or left 0 d).writes ≡ true → word ≡ (get_or left 0 d).word → ⊥) → WritesAs word log left
    → WritesAs word log (take (length left - 1) (drop 1 left))
writes_next word log [] d some other it = absurd (omega (arith, some))
writes_next word log (t ∷ left) d some other it =
    subst (λ (xs : List Touch). WritesAs word log xs) (sym (rest_is t left)) (
      λ h. elim (written_one t.writes t.word word (written_in left) (it.0 h)) [ inl e ↦ absurd (other e.0 e.1) | inr y ↦ y ],
      λ h. it.1 (more_written t.writes t.word word (written_in left) h),
    )

-- the next touch writes it
pub writes_here : (word : ℕ) (log left : List Touch) (d : Touch) → 1 ≤ length left → (get_or left 0 d).writes ≡ true → word ≡ (get_or left 0 d).word
    → WritesAs word log left → Has word (written_in log)
writes_here word log [] d some e same it = absurd (omega (arith, some))
writes_here word log (t ∷ left) d some e same it =
    it.1 (subst (λ (z : ℕ). Has z (with_written t.writes t.word (written_in left))) (sym same) (one_written t.writes t.word (written_in left) e))

-- none is left
pub writes_none : (word : ℕ) (log left : List Touch) → length left < 1 → WritesAs word log left → Has word (written_in log) → ⊥
writes_none word log [] none it h = it.0 h
writes_none word log (t ∷ left) none it h = absurd (omega (arith, none))

-- of what is left to mark the whole log comes
abbrev pub MarksAs : (q : ℕ → Bool) (time : ℕ) (wrote touched : List ℕ) → List Touch → (wrote' touched' : List ℕ) → List Touch → Type 0
MarksAs q time wrote touched log wrote' touched' left =
    (w t : List ℕ) → AreMarked q wrote' touched' time left w t → AreMarked q wrote touched time log w t

-- at the beginning
pub marks_whole : (q : ℕ → Bool) (time : ℕ) (wrote touched : List ℕ) (log : List Touch) → MarksAs q time wrote touched log wrote touched log
marks_whole q time wrote touched log w t h = h

-- at the end
pub marks_done : (q : ℕ → Bool) (time : ℕ) (wrote touched wrote' touched' : List ℕ) (log : List Touch)
    → MarksAs q time wrote touched log wrote' touched' [] → AreMarked q wrote touched time log wrote' touched'
marks_done q time wrote touched wrote' touched' log it = it wrote' touched' (record {
  wrote_length = refl;
  touched_length = refl;
  wrote = λ x h. absurd h;
  unwritten = λ x h. refl;
  stays = λ x h b. absurd h;
  touched = λ x h b. absurd h;
  untouched = λ x h. refl;
})

module _ (q : ℕ → Bool) (time : ℕ) (now : q time ≡ false) (wrote touched : List ℕ) (t : Touch) (there : t.word < length wrote) (at : t.word < length touched)
  where
    set_wrote : (b : Bool) (x : ℕ) → x ≡ t.word → b ≡ true → get_or (wrote_with b t.word time wrote) x 0 ≡ time
    set_wrote true x e is = ap (λ (y : ℕ). get_or (set wrote t.word time) y 0) e ∙ get_or-set_same wrote t.word time 0 there
    set_wrote false x e is = absurd (cc)

    -- other words keep their writer
    kept_wrote : (b : Bool) (x : ℕ) → (x ≡ t.word → b ≡ true → ⊥) → get_or (wrote_with b t.word time wrote) x 0 ≡ get_or wrote x 0
    kept_wrote true x ne = get_or-set_other wrote t.word x time 0 (λ e. ne e refl)
    kept_wrote false x ne = refl

    -- lengths stay
    wrote_long : (b : Bool) → length (wrote_with b t.word time wrote) ≡ length wrote
    wrote_long true = length-set wrote t.word time
    wrote_long false = refl

    -- the list of touches keeps its length
    touched_long : (b : Bool) → length (touched_with b t.word time touched) ≡ length touched
    touched_long true = refl
    touched_long false = length-set touched t.word time

    -- what is asked of the stamp at a word, after the mark: as before where it stands beside, else not
    module _ (b : Bool) (is : q (get_or touched t.word 0) ≡ b) where
      other : (x : ℕ) → (x ≡ t.word → ⊥) → get_or (touched_with b t.word time touched) x 0 ≡ get_or touched x 0
      other x ne = by b
        where
          by : (b : Bool) → get_or (touched_with b t.word time touched) x 0 ≡ get_or touched x 0
          by true = refl
          by false = get_or-set_other touched t.word x time 0 ne

      -- what stands beside stays
      same_true : b ≡ true → (x : ℕ) → get_or (touched_with b t.word time touched) x 0 ≡ get_or touched x 0
      same_true e x = ap (λ (c : Bool). get_or (touched_with c t.word time touched) x 0) e

      -- else the stamp is now
      same_false : b ≡ false → get_or (touched_with b t.word time touched) t.word 0 ≡ time
      same_false e = ap (λ (c : Bool). get_or (touched_with c t.word time touched) t.word 0) e ∙ get_or-set_same touched t.word time 0 at

      -- at each word q says of it what it said
      says : (x : ℕ) → q (get_or (touched_with b t.word time touched) x 0) ≡ q (get_or touched x 0)
      says x = elim (cases_eq x t.word) [
        | inl e ↦ elim (cases_Bool b) [
          | inl y ↦ ap q (same_true y x)
          | inr n ↦ ap (λ (y : ℕ). q (get_or (touched_with b t.word time touched) y 0)) e ∙ ap q (same_false n) ∙ now
              ∙ sym (ap (λ (y : ℕ). q (get_or touched y 0)) e ∙ is ∙ n)
        ]
        | inr ne ↦ ap q (other x ne)
      ]

      -- one touch is marked, then the others
      pub marks_one : (left : List Touch) (w v : List ℕ)
          → AreMarked q (wrote_with t.writes t.word time wrote) (touched_with b t.word time touched) time left w v
          → AreMarked q wrote touched time (t ∷ left) w v
      marks_one left w v it = record {
        wrote_length = it.wrote_length ∙ wrote_long t.writes;
        touched_length = it.touched_length ∙ touched_long b;
        wrote = λ x h. elim (has_or_not x (written_in left)) [
          | inl y ↦ it.wrote x y
          | inr n ↦ elim (written_one t.writes t.word x (written_in left) h) [
            | inl e ↦ it.unwritten x n ∙ set_wrote t.writes x e.1 e.0
            | inr y ↦ absurd (n y)
          ]
        ];
        unwritten = λ x h. it.unwritten x (λ y. h (more_written t.writes t.word x (written_in left) y))
            ∙ kept_wrote t.writes x (λ e y. h (subst (λ (z : ℕ). Has z (with_written t.writes t.word (written_in left))) (sym e)
            (one_written t.writes t.word (written_in left) y)));
        stays = λ x h y. elim (has_or_not x (words_in left)) [
          | inl has ↦ it.stays x has (says x ∙ y) ∙ stays_here x y
          | inr n ↦ it.untouched x n ∙ stays_here x y
        ];
        touched = λ x h n. elim (has_or_not x (words_in left)) [
          | inl has ↦ it.touched x has (says x ∙ n)
          | inr out ↦ elim h [
            | inl e ↦ it.untouched x out ∙ ap (λ (y : ℕ). get_or (touched_with b t.word time touched) y 0) e
                ∙ same_false (sym is ∙ sym (ap (λ (y : ℕ). q (get_or touched y 0)) e) ∙ n)
            | inr y ↦ absurd (out y)
          ]
        ];
        untouched = λ x h. it.untouched x (λ y. h (inr y)) ∙ other x (λ e. h (inl e));
      }
        where
          stays_here : (x : ℕ) → q (get_or touched x 0) ≡ true → get_or (touched_with b t.word time touched) x 0 ≡ get_or touched x 0
          stays_here x y = elim (cases_eq x t.word) [
            | inl e ↦ same_true (sym is ∙ sym (ap (λ (z : ℕ). q (get_or touched z 0)) e) ∙ y) x
            | inr ne ↦ other x ne
          ]

-- those that are left are there
pub there_next : (n m : ℕ) (left : List Touch) → 1 ≤ length left → m ≡ n → AreThere n left → AreThere m (take (length left - 1) (drop 1 left))
there_next n m [] some same h = absurd (omega (arith, some))
there_next n m (t ∷ left) some same h =
    subst (λ (xs : List Touch). AreThere m xs) (sym (rest_is t left)) (subst (λ (k : ℕ). AreThere k left) (sym same) h.1)

-- lengths stay
pub wrote_kept : (b : Bool) (word time : ℕ) (wrote : List ℕ) → length (wrote_with b word time wrote) ≡ length wrote
wrote_kept true word time wrote = length-set wrote word time
wrote_kept false word time wrote = refl

-- the list of touches keeps its length
pub touched_kept : (b : Bool) (word time : ℕ) (touched : List ℕ) → length (touched_with b word time touched) ≡ length touched
touched_kept true word time touched = refl
touched_kept false word time touched = length-set touched word time

-- one touch more is marked
pub marks_next : (q : ℕ → Bool) (time : ℕ) → q time ≡ false → (wrote touched : List ℕ) (log : List Touch) (w v w' v' : List ℕ) (left : List Touch) (d : Touch)
    → 1 ≤ length left → AreThere (length w) left → AreThere (length v) left → MarksAs q time wrote touched log w v left
    → w' ≡ wrote_with (get_or left 0 d).writes (get_or left 0 d).word time w
    → v' ≡ touched_with (q (get_or v (get_or left 0 d).word 0)) (get_or left 0 d).word time v
    → MarksAs q time wrote touched log w' v' (take (length left - 1) (drop 1 left))
marks_next q time now wrote touched log w v w' v' [] d some there at it we ve = absurd (omega (arith, some))
marks_next q time now wrote touched log w v w' v' (t ∷ left) d some there at it we ve =
    subst (λ (xs : List Touch). MarksAs q time wrote touched log w' v' xs) (sym (rest_is t left))
    (λ x y h. it x y (marks_one q time now w v t there.0 at.0 (q (get_or v t.word 0)) refl left x y
    (subst (λ (k : List ℕ). AreMarked q k (touched_with (q (get_or v t.word 0)) t.word time v) time left x y) we
    (subst (λ (k : List ℕ). AreMarked q w' k time left x y) ve h))))

-- none is left
pub marks_all : (q : ℕ → Bool) (time : ℕ) (wrote touched wrote' touched' : List ℕ) (log left : List Touch) → length left < 1
    → MarksAs q time wrote touched log wrote' touched' left → AreMarked q wrote touched time log wrote' touched'
marks_all q time wrote touched wrote' touched' log [] none it = marks_done q time wrote touched wrote' touched' log it
marks_all q time wrote touched wrote' touched' log (t ∷ left) none it = absurd (omega (arith, none))
