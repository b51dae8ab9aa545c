-- Tokens can come just where a text begins with them, and of what is still to come the first kinds are those that can stand next.
use Rattle.std.proofs.Common.{◌≡◌, Bool, true, false, List, [], ◌∷◌, ◌++◌, length, refl, sym, ◌∙◌, ap, subst, append_assoc}
use Rattle.std.proofs.lemmas.List.{append-nil as append_nil}
use Rattle.std.specs.Prelude.{◌||◌, ◌&&◌, Option, Some, None, is_some, cond, if◌then◌else◌}
use Rattle.std.specs.List.{filter}
use Rattle.ppm_grammar.specs.Rows.{In, first, later, Take, Part, Grammar}
use Rattle.ppm_grammar.specs.Derivation.{Due, Within, Mark, mark, Derives, beginning, IsText}
use Rattle.ppm_grammar.specs.Predictive.{same_kind, may_be_empty, IsPredictive}
use Rattle.ppm_grammar.specs.Stack.{Move, move, chosen, Cut, ons, step, can_end, trace}
use Rattle.ppm_grammar.proofs.ListLemmas.{listed_in}
use Rattle.ppm_grammar.proofs.StackLemmas.{next_there}
use Rattle.ppm_grammar.proofs.DerivationLemmas.{text_trace}
use Rattle.ppm_grammar.proofs.TextLemmas.{end_sound, one_value, consumes}
use Rattle.ppm_grammar.proofs.MovesLemmas.{Moves, here, there, moves_sound, moves_trace, begins_so, they_come, never_cut}
use Rattle.ppm_grammar.proofs.PredictiveLemmas.{predictive}
use Rattle.ppm_expected.specs.Next.{BeginsText, IsWholeText, AreExpected}
use Rattle.ppm_expected.specs.Machine.{items_due, after_move, still, comes_first, may_end}
use Rattle.ppm_expected.specs.Machine.{kinds_first, ends_there, expected_kinds, expected_end, CollectsExpected}

-- a part that goes on with its row, is empty, or cannot come
chosen_there : {K P C : Type 0} (o : Option (Move K P C)) (b : Bool) (st : List (Due K P)) (other : Option (Move K P C)) →
    is_some (chosen o b st other) ≡ (is_some o || (b && is_some other))
chosen_there None true st other = refl
chosen_there None false st other = refl
chosen_there (Some m) b st other = refl

-- what is there
pub record There {A : Type 0} (o : Option A) : Type 0 where
  pub found : A
  pub is : o ≡ Some found

-- is there
pub there_is : {A : Type 0} (o : Option A) → is_some o ≡ true → There o
there_is None h = cc
there_is (Some a) h = record { found = a; is = refl }

-- what is not there is none
none_there : {A : Type 0} (o : Option A) → is_some o ≡ false → o ≡ None
none_there None h = refl
none_there (Some a) h = cc

-- the elements that pass a test are those of the list that do
module _ {A : Type 0} (p : A → Bool) where
  in_filter : {x : A} {xs : List A} → In x xs → p x ≡ true → In x (filter p xs)
  in_filter {x = x} (first {xs = xs}) h = rw h first
  in_filter {x = x} (later {y = y} {xs = xs} i) h = go (p y) (in_filter i h)
    where
      go : (b : Bool) → In x (filter p xs) → In x (cond b (y ∷ filter p xs) (filter p xs))
      go true j = later j
      go false j = j

  -- the first of a list, or a later one
  passes_in : {x y : A} {ys : List A} → p y ≡ true → (In x ys → p x ≡ true) → In x (y ∷ ys) → p x ≡ true
  passes_in h below first = h
  passes_in h below (later i) = below i

  -- and no others
  filter_passes : {x : A} (xs : List A) → In x (filter p xs) → p x ≡ true
  filter_passes [] i = elim i [ ]
  filter_passes {x = x} (y ∷ xs) i = go (p y) refl i (λ j. filter_passes xs j)
    where
      go : (b : Bool) → p y ≡ b → In x (cond b (y ∷ filter p xs) (filter p xs)) → (In x (filter p xs) → p x ≡ true) → p x ≡ true
      go true e j below = passes_in e below j
      go false e j below = below j

module _ {T K P V C : Type 0} (g : Grammar T K P V C) where
  -- tokens that can come leave what is still to come
  pub moves_still : {st left : List (Due K P)} {ts : List T} {ms : List (Mark C)} → Moves g st ts ms left → still g st ts ≡ Some left
  moves_still here = refl
  moves_still (there is r) = rw is (moves_still r)

  -- the tokens can come, and leave this
  pub record Came (st : List (Due K P)) (ts : List T) (left : List (Due K P)) : Type 0 where
    pub marks : List (Mark C)
    pub moves : Moves g st ts marks left

  -- they can where something is left
  still_moves : (st : List (Due K P)) (ts : List T) (left : List (Due K P)) → still g st ts ≡ Some left → Came st ts left
  still_moves st [] left h = let same : st ≡ left = cc in record { marks = []; moves = rw same here }
  still_moves st (t ∷ ts) left h = go (step g st (g.kind t)) refl h (λ m is. still_moves m.still ts left is)
    where
      go : (o : Option (Move K P C)) → step g st (g.kind t) ≡ o → after_move o (λ l. still g l ts) ≡ Some left →
          ((m : Move K P C) → still g m.still ts ≡ Some left → Came m.still ts left) → Came st (t ∷ ts) left
      go None is h below = cc
      go (Some m) is h below = let r = below m h in record { marks = m.marked ∷ r.marks; moves = there is r.moves }

  -- tokens after tokens
  pub still_on : (st : List (Due K P)) (front : List T) (t : T) (left : List (Due K P)) → still g st front ≡ Some left →
      still g st (front ++ t ∷ []) ≡ after_move (step g left (g.kind t)) (λ l. Some l)
  still_on st [] t left h = let same : st ≡ left = cc in rw same refl
  still_on st (u ∷ front) t left h = go (step g st (g.kind u)) h (λ l is. still_on l front t left is)
    where
      go : (o : Option (Move K P C)) → after_move o (λ l. still g l front) ≡ Some left →
          ((l : List (Due K P)) → still g l front ≡ Some left → still g l (front ++ t ∷ []) ≡ after_move (step g left (g.kind t)) (λ l. Some l)) →
          after_move o (λ l. still g l (front ++ t ∷ [])) ≡ after_move (step g left (g.kind t)) (λ l. Some l)
      go None h below = cc
      go (Some m) h below = below m.still h

  -- none after tokens that cannot come
  pub still_none : (st : List (Due K P)) (front ts : List T) → still g st front ≡ None → still g st (front ++ ts) ≡ None
  still_none st [] ts h = cc
  still_none st (u ∷ front) ts h = go (step g st (g.kind u)) h (λ l is. still_none l front ts is)
    where
      go : (o : Option (Move K P C)) → after_move o (λ l. still g l front) ≡ None →
          ((l : List (Due K P)) → still g l front ≡ None → still g l (front ++ ts) ≡ None) → after_move o (λ l. still g l (front ++ ts)) ≡ None
      go None h below = refl
      go (Some m) h below = below m.still h

  -- tokens that go no further, and tokens in front of one that cannot come, are the same where both are followed alike
  pub same_front : (st : List (Due K P)) (f h rest more : List T) (t : T) {left left' : List (Due K P)} → f ++ rest ≡ h ++ t ∷ more →
      still g st f ≡ Some left → ((u : T) (us : List T) → rest ≡ u ∷ us → step g left (g.kind u) ≡ None) → still g st h ≡ Some left' →
      step g left' (g.kind t) ≡ None → f ≡ h
  same_front st [] [] rest more t shape a stuck b none = refl
  same_front st [] (u ∷ h) rest more t {left = left} {left' = left'} shape a stuck b none =
      let same : left ≡ st = cc in
      let never : step g st (g.kind u) ≡ None = ap (λ q. step g q (g.kind u)) (sym same) ∙ stuck u (h ++ t ∷ more) shape in
      let b' : None ≡ Some left' = ap (λ q. after_move q (λ l. still g l h)) (sym never) ∙ b in absurd (cc)
  same_front st (v ∷ f) [] rest more t {left = left} {left' = left'} shape a stuck b none =
      let same : left' ≡ st = cc in
      let token : t ≡ v = cc in
      let never : step g st (g.kind v) ≡ None = ap (λ q. step g q (g.kind v)) (sym same) ∙ ap (λ q. step g left' (g.kind q)) (sym token) ∙ none in
      let a' : None ≡ Some left = ap (λ q. after_move q (λ l. still g l f)) (sym never) ∙ a in absurd (cc)
  same_front st (v ∷ f) (u ∷ h) rest more t {left = left} {left' = left'} shape a stuck b none =
      let same : u ≡ v = cc in
      let tail : f ++ rest ≡ h ++ t ∷ more = cc in
      let b' : after_move (step g st (g.kind v)) (λ l. still g l h) ≡ Some left' = rw (← same) b in
      let below = go (step g st (g.kind v)) a b' (λ l x y. same_front l f h rest more t tail x stuck y none) in
      ap (λ q. v ∷ q) below ∙ ap (λ q. q ∷ h) (sym same)
    where
      go : (o : Option (Move K P C)) → after_move o (λ l. still g l f) ≡ Some left → after_move o (λ l. still g l h) ≡ Some left' →
          ((l : List (Due K P)) → still g l f ≡ Some left → still g l h ≡ Some left' → f ≡ h) → f ≡ h
      go None x y below = cc
      go (Some m) x y below = below m.still x y

  -- tokens that go no further are all of them, where all can come
  pub all_read : (st : List (Due K P)) (f rest : List T) {left left' : List (Due K P)} → still g st f ≡ Some left →
      ((u : T) (us : List T) → rest ≡ u ∷ us → step g left (g.kind u) ≡ None) → still g st (f ++ rest) ≡ Some left' → rest ≡ []
  all_read st f [] a stuck b = refl
  all_read st f (u ∷ us) {left = left} {left' = left'} a stuck b =
      let one : still g st (f ++ u ∷ []) ≡ None = still_on st f u left a ∙ ap (λ q. after_move q (λ l. Some l)) (stuck u us refl) in
      let all : still g st (f ++ u ∷ us) ≡ None = ap (still g st) (sym (append_assoc f (u ∷ []) us)) ∙ still_none st (f ++ u ∷ []) us one in
      absurd (cc (all, b))

  module _ (follows : P → K → Bool) (p : IsPredictive g follows) where
    -- a text begins with tokens just where something is left
    pub left_by : (ts : List T) → BeginsText g ts → There (still g (beginning g) ts)
    left_by ts b = let c = they_come g follows p ts b.marks b.begins in record { found = c.later; is = moves_still c.moves }

    -- and it begins where something is
    pub begun_by : (ts : List T) (left : List (Due K P)) → still g (beginning g) ts ≡ Some left → BeginsText g ts
    begun_by ts left h = let c = still_moves (beginning g) ts left h in record { marks = c.marks; begins = begins_so g p.grounded c.moves }

    -- nor where no text begins with the tokens
    pub none_next : (front : List T) (t : T) (left : List (Due K P)) → still g (beginning g) front ≡ Some left → (BeginsText g (front ++ t ∷ []) → ⊥) →
        step g left (g.kind t) ≡ None
    none_next front t left h never = go (step g left (g.kind t)) refl
      where
        go : (o : Option (Move K P C)) → step g left (g.kind t) ≡ o → o ≡ None
        go None is = refl
        go (Some m) is =
            absurd (never (begun_by (front ++ t ∷ []) m.still (still_on (beginning g) front t left h ∙ ap (λ q. after_move q (λ l. Some l)) is)))

    -- no text begins with tokens and one for which there is no step
    pub never_next : (front : List T) (t : T) (left : List (Due K P)) → still g (beginning g) front ≡ Some left → step g left (g.kind t) ≡ None →
        BeginsText g (front ++ t ∷ []) → ⊥
    never_next front t left h none b =
        let s = left_by (front ++ t ∷ []) b in
        let never : still g (beginning g) (front ++ t ∷ []) ≡ None = still_on (beginning g) front t left h ∙ ap (λ q. after_move q (λ l. Some l)) none in
        absurd (cc (s.is, never))

    -- a step is there at the kinds that can come first
    pub step_there : (st : List (Due K P)) (k : K) → is_some (step g st k) ≡ comes_first g (items_due st) k
    step_there [] k = refl
    step_there (Within d (Take x) ∷ st) k = go (same_kind g x k)
      where
        go : (b : Bool) → is_some (if b then Some (move {C = C} (mark d []) st) else None) ≡ (b || false)
        go true = refl
        go false = refl
    step_there (Within d (Part n) ∷ st) k =
        chosen_there _ (may_be_empty g n) st (step g st k) ∙ rw (next_there g follows p d n k, step_there st k) refl

    -- no step is there at others
    pub step_none : (st : List (Due K P)) (k : K) → comes_first g (items_due st) k ≡ false → step g st k ≡ None
    step_none st k never = none_there (step g st k) (step_there st k ∙ never)

    -- a text may end where all that is to come may have no tokens
    pub end_there : (st : List (Due K P)) → can_end g st ≡ may_end g (items_due st)
    end_there [] = refl
    end_there (Within d (Take x) ∷ st) = refl
    end_there (Within d (Part n) ∷ st) = ap (λ q. may_be_empty g n && q) (end_there st)

    -- the tokens are a text where a text may end
    whole_by : (ts : List T) (left : List (Due K P)) → still g (beginning g) ts ≡ Some left → may_end g (items_due left) ≡ true → IsWholeText g ts
    whole_by ts left h e =
        let c = still_moves (beginning g) ts left h in
        let whole = moves_sound g c.moves (end_sound g left (end_there left ∙ e)) in
        let short = subst (λ q. Derives g (beginning g) q whole.values (c.marks ++ []) []) (append_nil ts) whole.derived in
        let v = one_value g short in
        record { value = v.0; marks = c.marks ++ []; text = subst (λ q. Derives g (beginning g) ts q (c.marks ++ []) []) v.1 short }

    -- and nowhere else
    ends_by : (ts : List T) (left : List (Due K P)) → still g (beginning g) ts ≡ Some left → IsWholeText g ts → may_end g (items_due left) ≡ true
    ends_by ts left h w = sym (end_there left) ∙ go (can_end g left) refl
      where
        go : (b : Bool) → can_end g left ≡ b → b ≡ true
        go true e = refl
        go false e =
            let c = still_moves (beginning g) ts left h in
            let cut : trace g (beginning g) (ts ++ []) ≡ ons c.marks Cut = moves_trace g c.moves [] ∙ rw e refl in
            absurd (never_cut w.marks c.marks (sym (text_trace g follows p ts w.value w.marks w.text) ∙ ap (trace g (beginning g)) (sym (append_nil ts)) ∙ cut))

    -- a whole text is one that a text begins with
    whole_begins : (ts : List T) → IsWholeText g ts → BeginsText g ts
    whole_begins ts w =
        let c = consumes g w.text in
        let same : c.front ≡ ts = sym (c.shape ∙ append_nil c.front) in
        record {
          marks = w.marks;
          begins = record {
            more = [];
            value = w.value;
            others = [];
            text = subst (λ q. IsText g q w.value (w.marks ++ [])) (sym (append_nil ts)) (subst (IsText g ts w.value) (sym (append_nil w.marks)) w.text);
            each = c.each ∙ ap length same;
          };
        }

    -- where this is left, a token can stand next just if it can come first
    next_by : (front : List T) (left : List (Due K P)) (t : T) → still g (beginning g) front ≡ Some left → comes_first g (items_due left) (g.kind t) ≡ true →
        BeginsText g (front ++ t ∷ [])
    next_by front left t h e =
        let s = there_is (step g left (g.kind t)) (step_there left (g.kind t) ∙ e) in
        begun_by (front ++ t ∷ []) s.found.still (still_on (beginning g) front t left h ∙ ap (λ q. after_move q (λ l. Some l)) s.is)

    -- and no other can
    comes_by : (front : List T) (left : List (Due K P)) (t : T) → still g (beginning g) front ≡ Some left → BeginsText g (front ++ t ∷ []) →
        comes_first g (items_due left) (g.kind t) ≡ true
    comes_by front left t h b =
        let s = left_by (front ++ t ∷ []) b in
        sym (step_there left (g.kind t)) ∙ go (step g left (g.kind t)) (sym (still_on (beginning g) front t left h) ∙ s.is)
      where
        go : {l : List (Due K P)} (o : Option (Move K P C)) → after_move o (λ l. Some l) ≡ Some l → is_some o ≡ true
        go None h = cc
        go (Some m) h = refl

    -- what is collected where this is left
    pub are_expected : (front : List T) (left : List (Due K P)) → still g (beginning g) front ≡ Some left →
        AreExpected g front (filter (comes_first g (items_due left)) g.kinds.all) (may_end g (items_due left))
    are_expected front left h = record {
      tokens = λ t. (
        λ i. next_by front left t h (filter_passes (comes_first g (items_due left)) g.kinds.all i),
        λ b. in_filter (comes_first g (items_due left)) (listed_in g.kinds (g.kind t)) (comes_by front left t h b),
      );
      whole = (λ e. whole_by front left h e, λ w. ends_by front left h w);
    }

    -- nothing, where the tokens cannot come
    none_expected : (front : List T) → still g (beginning g) front ≡ None → AreExpected g front [] false
    none_expected front h = record {
      tokens = λ t. (
        λ i. elim i [ ],
        λ b. let s = left_by (front ++ t ∷ []) b in let none = still_none (beginning g) front (t ∷ []) h in absurd (cc (s.is, none)),
      );
      whole = (λ e. absurd (cc), λ w. let s = left_by front (whole_begins front w) in absurd (cc (s.is, h)));
    }

    -- both
    collected : (front : List T) → AreExpected g front (expected_kinds g front) (expected_end g front)
    collected front = go (still g (beginning g) front) refl
      where
        go : (o : Option (List (Due K P))) → still g (beginning g) front ≡ o → AreExpected g front (kinds_first g o) (ends_there g o)
        go None h = none_expected front h
        go (Some left) h = are_expected front left h

-- the law of all grammars
pub collects_expected : {T K P V C : Type 0} (g : Grammar T K P V C) → CollectsExpected g
collects_expected g follows test front = collected g follows (predictive g follows test) front
