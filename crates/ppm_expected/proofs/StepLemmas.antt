-- What a token leaves to come, item by item.
use Rattle.std.proofs.Common.{◌≡◌, ℕ, Bool, true, false, List, [], ◌∷◌, ◌++◌, length, reverse, refl, sym, ◌∙◌, ap, subst, append_assoc, arith}
use Rattle.std.proofs.lemmas.List.{reverse-append as reverse_append, map-append as map_append}
use Rattle.std.specs.Prelude.{Option, Some, None, is_some, if◌then◌else◌}
use Rattle.ppm_grammar.specs.Rows.{Take, Part}
use Rattle.ppm_grammar.specs.Derivation.{Within, due, mark, inside, beginning}
use Rattle.ppm_grammar.specs.Predictive.{same_kind, may_be_empty, can_start, starts}
use Rattle.ppm_grammar.specs.Stack.{move, counted, chosen, step}
use Rattle.ppm_grammar.proofs.StackLemmas.{part_step, next_none}
use Rattle.ppm_text.specs.declared.token.Token.{Token}
use Rattle.ppm_rows.specs.Kinds.{Terminal, terminal}
use Rattle.ppm_rows.specs.Phrases.{Phrase}
use Rattle.ppm_rows.specs.Phrases as p
use Rattle.ppm_rows.specs.Language.{Counted, language}
use Rattle.ppm_rows.specs.Follow.{may_follow}
use Rattle.ppm_expected.specs.Machine.{items_due, after_move, can_begin, comes_first}
use Rattle.ppm_expected.specs.Language.{Piece, phrase_of, item_of, items_of, to_come}
use Rattle.ppm_expected.specs.Steps.{Dues, TokenMove, BeginsRow, Enters, Advances, ReadsTo, StopsAt}
use Rattle.ppm_expected.specs.declared.row.Item.{Item as Held}
use Rattle.ppm_expected.specs.declared.row.Item.TheVariants as i
use Rattle.ppm_expected.specs.declared.phrase.Phrase.{Phrase as Holding}
use Rattle.ppm_expected.specs.declared.phrase.Phrase.TheVariants as h
use Rattle.ppm_expected.proofs.NextLemmas.{step_there, still_on, there_is}
use Rattle.ppm_expected.proofs.ChoiceLemmas.{predictive}

-- the last item of a stack comes first
pub last_first : (xs : List Held) (x : Held) → to_come (xs ++ x ∷ []) ≡ item_of x ∷ to_come xs
last_first xs x = ap reverse (map_append item_of xs (x ∷ [])) ∙ reverse_append (items_of xs) (item_of x ∷ [])

-- the items of a row, and then the others
due_then : (e : ℕ) (xs : List Piece) (st : Dues) → items_due (due e xs ++ st) ≡ xs ++ items_due st
due_then e [] st = refl
due_then e (x ∷ xs) st = ap (λ q. x ∷ q) (due_then e xs st)

-- the move whose token counts as less
record Uncounted (o : Option TokenMove) (m : TokenMove) : Type 0 where
  inner : TokenMove
  is : o ≡ Some inner
  still : inner.still ≡ m.still

-- leaves the same
uncounted : (cs : List Counted) (o : Option TokenMove) (m : TokenMove) → counted cs o ≡ Some m → Uncounted o m
uncounted cs None m h = cc
uncounted cs (Some n) m h = record { inner = n; is = refl; still = cc }

-- a token that is to come leaves what follows it
took : (x k : Terminal) (st : Dues) (d : ℕ) (m : TokenMove) → same_kind language x k ≡ true → step language (Within d (Take x) ∷ st) k ≡ Some m → m.still ≡ st
took x k st d m can is = go (same_kind language x k) can is
  where
    go : (b : Bool) → b ≡ true → (if b then Some (move {C = Counted} (mark d []) st) else None) ≡ Some m → m.still ≡ st
    go true e is = cc
    go false e is = cc

-- a token that is to come is entered
pub enters_take : (x k : Terminal) (old : List Piece) → Enters (Take x) k old old
enters_take x k old = record { leaves = λ d st m left can is. ap items_due (took x k st d m can is) ∙ left }

-- an item of a row that can begin it can begin so
first_can : (x : Piece) (xs : List Piece) (k : Terminal) → can_start language (starts language) (x ∷ xs) k ≡ can_begin language x k
first_can (Take x) xs k = refl
first_can (Part n) xs k = refl

-- a part leaves what the first item of its row leaves, in front of the others
pub enters_row : {n : Phrase} {k : Terminal} {x : Piece} {xs old new : List Piece} → BeginsRow n k (x ∷ xs) → Enters x k (xs ++ old) new →
    Enters (Part n) k old new
enters_row {n = n} {k = k} {x = x} {xs = xs} {old = old} {new = new} b enters = record { leaves = λ d st m left can is. leaves d st m left is }
  where
    leaves : (d : ℕ) (st : Dues) (m : TokenMove) → items_due st ≡ old → step language (Within d (Part n) ∷ st) k ≡ Some m → items_due m.still ≡ new
    leaves d st m left is =
        let can' : can_start language (starts language) b.row.items k ≡ true = rw b.is b.can in
        let over = sym (part_step language may_follow predictive d n k b.row st b.within can') ∙ is in
        let u = uncounted b.row.counts (step language (due (inside b.row d) b.row.items ++ st) k) m over in
        let inner : step language (Within (inside b.row d) x ∷ (due (inside b.row d) xs ++ st)) k ≡ Some u.inner =
        ap (λ q. step language (due (inside b.row d) q ++ st) k) (sym b.is) ∙ u.is in
        ap items_due (sym u.still)
        ∙ enters.leaves (inside b.row d) (due (inside b.row d) xs ++ st) u.inner (due_then (inside b.row d) xs st ∙ ap (λ q. xs ++ q) left)
        (sym (first_can x xs k) ∙ b.can) inner

-- nothing that comes where nothing can
never_some : {m : TokenMove} (o : Option TokenMove) → is_some o ≡ false → o ≡ Some m → ⊥
never_some None h is = cc
never_some (Some n) h is = cc

-- where nothing is to come no token can
pub advances_none : (k : Terminal) (new : List Piece) → Advances k [] new
advances_none k new = record { leaves = λ st m left is. leaves st m left is }
  where
    leaves : (st : Dues) (m : TokenMove) → items_due st ≡ [] → step language st k ≡ Some m → items_due m.still ≡ new
    leaves [] m left is = cc
    leaves (Within d x ∷ st) m left is = absurd (cc)

-- a part that is not begun is passed over
chosen_other : (o : Option TokenMove) (b : Bool) (st : Dues) (other : Option TokenMove) (m : TokenMove) → o ≡ None →
    chosen o b st other ≡ Some m → other ≡ Some m
chosen_other None true st other m none is = is
chosen_other None false st other m none is = cc
chosen_other (Some n) b st other m none is = cc

-- an item that cannot begin so is passed over
passed : (d : ℕ) (x : Piece) (k : Terminal) (st : Dues) (m : TokenMove) → can_begin language x k ≡ false → step language (Within d x ∷ st) k ≡ Some m →
    step language st k ≡ Some m
passed d (Take x) k st m never is = go (same_kind language x k) never is
  where
    go : (b : Bool) → b ≡ false → (if b then Some (move {C = Counted} (mark d []) st) else None) ≡ Some m → step language st k ≡ Some m
    go true e is = cc
    go false e is = absurd (cc)
passed d (Part n) k st m never is =
    chosen_other _ (may_be_empty language n) st (step language st k) m (next_none language may_follow predictive d n k never) is

-- the items that are to come begin with this one
record Front (st : Dues) (x : Piece) (xs : List Piece) : Type 0 where
  depth : ℕ
  others : Dues
  is : st ≡ Within depth x ∷ others
  left : items_due others ≡ xs

-- they do
front : (st : Dues) (x : Piece) (xs : List Piece) → items_due st ≡ x ∷ xs → Front st x xs
front [] x xs h = cc
front (Within d y ∷ st) x xs h = let same : y ≡ x = cc in record { depth = d; others = st; is = ap (λ q. Within d q ∷ st) same; left = cc }

-- a piece that cannot begin with the token is left out
pub advances_over : (x : Piece) (k : Terminal) (xs new : List Piece) → can_begin language x k ≡ false → Advances k xs new → Advances k (x ∷ xs) new
advances_over x k xs new never a = record {
  leaves = λ st m left is.
      let f = front st x xs left in
      a.leaves f.others m f.left (passed f.depth x k f.others m never (ap (λ q. step language q k) (sym f.is) ∙ is));
}

-- one that can is entered
pub advances_enter : (x : Piece) (k : Terminal) (xs new : List Piece) → can_begin language x k ≡ true → Enters x k xs new → Advances k (x ∷ xs) new
advances_enter x k xs new can e = record {
  leaves = λ st m left is.
      let f = front st x xs left in e.leaves f.depth f.others m f.left can (ap (λ q. step language q k) (sym f.is) ∙ is);
}

-- at first a whole text is to come
pub reads_none : (ts : List Token) → ReadsTo ts (Part p.Source ∷ []) ts
reads_none ts = record { front = []; shape = refl; left = beginning language; comes = refl; due = refl }

-- one token more
pub reads_on : {ts : List Token} {t : Token} {items new : List Piece} {rest : List Token} → ReadsTo ts items (t ∷ rest) →
    comes_first language items (terminal t.kind) ≡ true → Advances (terminal t.kind) items new → ReadsTo ts new rest
reads_on {t = t} {items = items} {rest = rest} r can a =
    let s = there_is (step language r.left (terminal t.kind))
    (step_there language may_follow predictive r.left (terminal t.kind) ∙ ap (λ q. comes_first language q (terminal t.kind)) r.due ∙ can) in
    record {
      front = r.front ++ t ∷ [];
      shape = r.shape ∙ sym (append_assoc r.front (t ∷ []) rest);
      left = s.found.still;
      comes = still_on language (beginning language) r.front t r.left r.comes ∙ ap (λ q. after_move q (λ l. Some l)) s.is;
      due = a.leaves r.left s.found r.due s.is;
    }

-- the next token cannot come
pub stops_at : {ts : List Token} {t : Token} {items : List Piece} {rest : List Token} → ReadsTo ts items (t ∷ rest) →
    comes_first language items (terminal t.kind) ≡ false → StopsAt ts items
stops_at {t = t} {items = items} {rest = rest} r never = record {
  rest = t ∷ rest;
  reads = r;
  stuck = λ u more is. let same : t ≡ u = cc in ap (λ q. comes_first language items (terminal q.kind)) (sym same) ∙ never;
}

-- or none follows
pub stops_end : {ts : List Token} {items : List Piece} → ReadsTo ts items [] → StopsAt ts items
stops_end r = record { rest = []; reads = r; stuck = λ t more is. absurd (cc) }

-- an empty stack
none_come : (stack : List Held) → length stack ≡ 0 → to_come stack ≡ []
none_come [] h = refl
none_come (x ∷ xs) h = absurd (omega (arith, h))

-- what the first item of its row leaves, the part leaves
pub entered : (held first : Held) (phrase : Holding) (items rest : List Held) {k : Terminal} {old mid new : List Piece} → held ≡ i.Part phrase →
    BeginsRow (phrase_of phrase) k (items_of items) → items ≡ first ∷ rest → mid ≡ items_of rest ++ old → Enters (item_of first) k mid new →
    Enters (item_of held) k old new
entered held first phrase items rest {k = k} {old = old} {new = new} is b row pushed e =
    subst (λ q. Enters (item_of q) k old new) (sym is)
    (enters_row (subst (λ q. BeginsRow (phrase_of phrase) k (items_of q)) row b) (subst (λ q. Enters (item_of first) k q new) pushed e))

-- the item on top can begin so
pub advanced : (stack rest : List Held) (x : Held) {k : Terminal} {new : List Piece} → stack ≡ rest ++ x ∷ [] → true ≡ can_begin language (item_of x) k →
    Enters (item_of x) k (to_come rest) new → Advances k (to_come stack) new
advanced stack rest x {k = k} {new = new} is can e =
    subst (λ q. Advances k q new) (sym (ap to_come is ∙ last_first rest x)) (advances_enter (item_of x) k (to_come rest) new (sym can) e)

-- it cannot
pub advanced_over : (stack rest : List Held) (x : Held) {k : Terminal} {new : List Piece} → stack ≡ rest ++ x ∷ [] →
    false ≡ can_begin language (item_of x) k → Advances k (to_come rest) new → Advances k (to_come stack) new
advanced_over stack rest x {k = k} {new = new} is never a =
    subst (λ q. Advances k q new) (sym (ap to_come is ∙ last_first rest x)) (advances_over (item_of x) k (to_come rest) new (sym never) a)

-- nothing is on the stack
pub advanced_none : (stack : List Held) (k : Terminal) (new : List Piece) → length stack ≡ 0 → Advances k (to_come stack) new
advanced_none stack k new is = subst (λ q. Advances k q new) (sym (none_come stack is)) (advances_none k new)

-- a stack with the whole text alone
pub read_none : (empty stack : List Held) (ts : List Token) → empty ≡ [] → stack ≡ empty ++ i.Part h.Source ∷ [] → ReadsTo ts (to_come stack) ts
read_none empty stack ts none is = subst (λ q. ReadsTo ts (to_come q) ts) (sym (is ∙ ap (λ q. q ++ i.Part h.Source ∷ []) none)) (reads_none ts)

-- one token more is read
pub read_on : (stack seen new : List Held) (t : Token) {k : Terminal} {ts left rest : List Token} → ReadsTo ts (to_come stack) left → left ≡ t ∷ rest →
    seen ≡ stack → k ≡ terminal t.kind → true ≡ comes_first language (to_come seen) k → Advances k (to_come stack) (to_come new) → ReadsTo ts (to_come new) rest
read_on stack seen new t {k = k} {ts = ts} r is same kind can a =
    reads_on (subst (ReadsTo ts (to_come stack)) is r)
    (ap (λ q. comes_first language q (terminal t.kind)) (ap to_come (sym same)) ∙ ap (comes_first language (to_come seen)) (sym kind) ∙ sym can)
    (subst (λ q. Advances q (to_come stack) (to_come new)) kind a)
