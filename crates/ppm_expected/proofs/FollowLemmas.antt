-- What can stand where tokens go no further.
use Rattle.std.proofs.Common.{◌≡◌, ℕ, zero, suc, ◌<◌, Bool, true, false, List, [], ◌∷◌, ◌++◌, length, map, refl, sym, ◌∙◌, ap, subst, append_assoc, arith}
use Rattle.std.proofs.lemmas.List.{append-nil as append_nil, map-append as map_append}
use Rattle.std.proofs.lemmas.List.Kept.{AllPairs-cons, AllPairs-filter}
use Rattle.std.specs.Prelude.{nat_lt, cond, ◌&&◌, None}
use Rattle.std.specs.List.{All, AllPairs, filter}
use Rattle.ppm_grammar.specs.Derivation.{beginning}
use Rattle.ppm_grammar.specs.Faults.{IsFirstUnexpected, IsEnded}
use Rattle.ppm_grammar.specs.Predictive.{every}
use Rattle.ppm_grammar.specs.Stack.{step}
use Rattle.ppm_grammar.proofs.ListLemmas.{and_left, and_right}
use Rattle.ppm_text.specs.declared.token.Token.{Token}
use Rattle.ppm_rows.specs.Kinds.{Terminal, terminal, terminal_number, terminals}
use Rattle.ppm_rows.specs.Language.{language}
use Rattle.ppm_rows.specs.Follow.{may_follow}
use Rattle.ppm_rows.specs.Limits.{limits}
use Rattle.ppm_expected.specs.declared.expected.Expected.{Expected}
use Rattle.ppm_expected.specs.declared.row.Item.{Item}
use Rattle.ppm_expected.specs.declared.terminal.Terminal.{Terminal as Kind}
use Rattle.ppm_expected.specs.Next.{AreExpected}
use Rattle.ppm_expected.specs.Machine.{items_due, still, comes_first, may_end}
use Rattle.ppm_expected.specs.Language.{Piece, terminal_of, to_come}
use Rattle.ppm_expected.specs.Steps.{StopsAt}
use Rattle.ppm_expected.specs.Correct.{CanFollow, CanGoOn}
use Rattle.ppm_expected.proofs.NextLemmas.{left_by, begun_by, never_next, are_expected, step_none, none_next, same_front, all_read}
use Rattle.ppm_expected.proofs.ChoiceLemmas.{predictive}

-- a number that is below another by the test
below_by : (a b : ℕ) → nat_lt a b ≡ true → a < b
below_by a b h = grind (arith, h)

-- each kind is below those after it: a test
abbrev rises : List Terminal → Bool
rises [] = true
rises (x ∷ xs) = every (λ y. nat_lt (terminal_number x) (terminal_number y)) xs && rises xs

-- the kinds are in the order of their numbers
abbrev pub Below : Terminal → Terminal → Type 0
Below x y = terminal_number x < terminal_number y

-- element by element
all_above : (x : Terminal) (xs : List Terminal) → every (λ y. nat_lt (terminal_number x) (terminal_number y)) xs ≡ true → All (Below x) xs
all_above x [] h k d less = absurd (omega (arith, less))
all_above x (y ∷ ys) h zero d less = below_by (terminal_number x) (terminal_number y) (and_left _ _ h)
all_above x (y ∷ ys) h (suc k) d less = all_above x ys (and_right _ _ h) k d (omega (arith, less))

-- by the test
in_order : (xs : List Terminal) → rises xs ≡ true → AllPairs Below xs
in_order [] h = λ i j d less below. absurd (omega (arith, below))
in_order (x ∷ xs) h = AllPairs-cons Below x xs (all_above x xs (and_left _ _ h)) (in_order xs (and_right _ _ h))

-- the terminals that pass a test are in order
pub found_in_order : (p : Terminal → Bool) → AllPairs Below (filter p terminals)
found_in_order p = AllPairs-filter Below p terminals (in_order terminals refl)

-- of these tokens no more can come, so the next cannot
stuck_at : {ts : List Token} {items : List Piece} (s : StopsAt ts items) (u : Token) (us : List Token) → s.rest ≡ u ∷ us →
    step language s.reads.left (terminal u.kind) ≡ None
stuck_at s u us is =
    step_none language may_follow predictive s.reads.left (terminal u.kind)
    (ap (λ q. comes_first language q (terminal u.kind)) s.reads.due ∙ s.stuck u us is)

-- the front of an unexpected token is as far as the tokens can come
front_of : {ts : List Token} {items : List Piece} {place : ℕ} (s : StopsAt ts items) (h : IsFirstUnexpected language limits ts place) →
    s.reads.front ≡ h.front
front_of s h =
    let b = left_by language may_follow predictive h.front (record { marks = h.marks; begins = h.begins }) in
    let none = none_next language may_follow predictive h.front h.found b.found b.is (λ q. h.ends q.marks q.begins) in
    same_front language (beginning language) s.reads.front h.front s.rest h.stands.more h.found (sym s.reads.shape ∙ h.stands.shape) s.reads.comes
    (stuck_at s) b.is none

-- all tokens can come where they only end
front_whole : {ts : List Token} {items : List Piece} (s : StopsAt ts items) → IsEnded language limits ts → s.reads.front ≡ ts
front_whole {ts = ts} s h =
    let b = left_by language may_follow predictive ts (record { marks = h.marks; begins = h.begins }) in
    let none = all_read language (beginning language) s.reads.front s.rest s.reads.comes (stuck_at s)
    (ap (still language (beginning language)) (sym s.reads.shape) ∙ b.is) in
    sym (append_nil s.reads.front) ∙ ap (λ q. s.reads.front ++ q) (sym none) ∙ sym s.reads.shape

-- what is collected there can follow
follows : {ts : List Token} {items : List Piece} (s : StopsAt ts items) (e : Expected) →
    map terminal_of e.terminals.items ≡ filter (comes_first language items) terminals → e.end ≡ may_end language items → CanFollow s.reads.front e
follows {items = items} s e kinds end = record {
  exactly = subst (λ q. AreExpected language s.reads.front q e.end) (ap (λ q. filter (comes_first language q) terminals) s.reads.due ∙ sym kinds)
      (subst (AreExpected language s.reads.front (filter (comes_first language (items_due s.reads.left)) terminals))
      (ap (may_end language) s.reads.due ∙ sym end) (are_expected language may_follow predictive s.reads.front s.reads.left s.reads.comes));
  order = subst (AllPairs Below) (sym kinds) (found_in_order (comes_first language items));
}

-- what a stack tells where the tokens stop
pub record Tells (ts : List Token) (e : Expected) : Type 0 where
  pub items : List Piece
  pub stops : StopsAt ts items
  pub kinds : map terminal_of e.terminals.items ≡ filter (comes_first language items) terminals
  pub end : e.end ≡ may_end language items

-- of the stack at the end, which three calls see
pub tells : {ts : List Token} {e : Expected} (all : List Token) (stack seen also : List Item) → StopsAt all (to_come stack) → all ≡ ts → seen ≡ stack →
    also ≡ stack → map terminal_of e.terminals.items ≡ filter (comes_first language (to_come seen)) terminals → e.end ≡ may_end language (to_come also) →
    Tells ts e
tells all stack seen also s is same same' kinds end = record {
  items = to_come stack;
  stops = subst (λ q. StopsAt q (to_come stack)) is s;
  kinds = kinds ∙ ap (λ q. filter (comes_first language (to_come q)) terminals) same;
  end = end ∙ ap (λ q. may_end language (to_come q)) same';
}

-- as far as the tokens go
pub goes_farthest : {ts : List Token} {e : Expected} → Tells ts e → CanGoOn ts e
goes_farthest {ts = ts} {e = e} t = record {
  front = s.reads.front;
  rest = s.rest;
  shape = s.reads.shape;
  begins = begun_by language may_follow predictive s.reads.front s.reads.left s.reads.comes;
  ends = λ u us is. never_next language may_follow predictive s.reads.front u s.reads.left s.reads.comes (stuck_at s u us is);
  follows = follows s e t.kinds t.end;
}
  where
    s : StopsAt ts t.items
    s = t.stops

-- at a token that cannot come
pub follows_unexpected : {ts : List Token} {place : ℕ} {e : Expected} → Tells ts e → (h : IsFirstUnexpected language limits ts place) → CanFollow h.front e
follows_unexpected {e = e} t h = subst (λ q. CanFollow q e) (front_of t.stops h) (follows t.stops e t.kinds t.end)

-- at the end
pub follows_ended : {ts : List Token} {e : Expected} → Tells ts e → IsEnded language limits ts → CanFollow ts e
follows_ended {e = e} t h = subst (λ q. CanFollow q e) (front_whole t.stops h) (follows t.stops e t.kinds t.end)

-- what is found and what comes first of the kinds that are left is all that can come first
pub record Collects (stack : List Item) (found left : List Kind) : Type 0 where
  pub same : map terminal_of found ++ filter (comes_first language (to_come stack)) (map terminal_of left)
      ≡ filter (comes_first language (to_come stack)) terminals

-- at first nothing is found
pub collects_none : (stack : List Item) (found left : List Kind) → found ≡ [] → map terminal_of left ≡ terminals → Collects stack found left
collects_none stack found left none all = record {
  same = ap (λ q. map terminal_of q ++ filter (comes_first language (to_come stack)) (map terminal_of left)) none
      ∙ ap (filter (comes_first language (to_come stack))) all;
}

-- the first of those that are left, by whether it can come first
filter_one : (p : Terminal → Bool) (x : Terminal) (xs : List Terminal) (b : Bool) → p x ≡ b → filter p (x ∷ xs) ≡ cond b (x ∷ filter p xs) (filter p xs)
filter_one p x xs b h = ap (λ q. cond q (x ∷ filter p xs) (filter p xs)) h

-- a kind that can come first is found
pub collects_one : {stack : List Item} (found more left rest : List Kind) (x : Kind) → Collects stack found left → left ≡ x ∷ rest →
    true ≡ comes_first language (to_come stack) (terminal_of x) → more ≡ found ++ x ∷ [] → Collects stack more rest
collects_one {stack = stack} found more left rest x c is can on = record {
  same = ap (λ q. q ++ filter p (map terminal_of rest)) (ap (map terminal_of) on ∙ map_append terminal_of found (x ∷ []))
      ∙ append_assoc (map terminal_of found) (terminal_of x ∷ []) (filter p (map terminal_of rest))
      ∙ ap (λ q. map terminal_of found ++ q) (sym (filter_one p (terminal_of x) (map terminal_of rest) true (sym can)))
      ∙ ap (λ q. map terminal_of found ++ filter p (map terminal_of q)) (sym is) ∙ c.same;
}
  where
    p : Terminal → Bool
    p = comes_first language (to_come stack)

-- another is not
pub collects_other : {stack : List Item} (found left rest : List Kind) (x : Kind) → Collects stack found left → left ≡ x ∷ rest →
    false ≡ comes_first language (to_come stack) (terminal_of x) → Collects stack found rest
collects_other {stack = stack} found left rest x c is never = record {
  same = ap (λ q. map terminal_of found ++ q) (sym (filter_one p (terminal_of x) (map terminal_of rest) false (sym never)))
      ∙ ap (λ q. map terminal_of found ++ filter p (map terminal_of q)) (sym is) ∙ c.same;
}
  where
    p : Terminal → Bool
    p = comes_first language (to_come stack)

-- none is left
pub collects_all : {stack : List Item} (found left : List Kind) → Collects stack found left → length left ≡ 0 →
    map terminal_of found ≡ filter (comes_first language (to_come stack)) terminals
collects_all found [] c is = sym (append_nil (map terminal_of found)) ∙ c.same
collects_all found (x ∷ xs) c is = absurd (omega (arith, is))
