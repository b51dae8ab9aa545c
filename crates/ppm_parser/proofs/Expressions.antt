-- From the parts of an expression to the expression.
use Rattle.std.proofs.Common.{◌≡◌, ◌≢◌, ℕ, suc, Bool, true, false, ℤ, pos, List, [], ◌∷◌, refl, sym, ◌∙◌, ap, subst, arith}
use Rattle.std.specs.Prelude.{Some, None, map, ◌==◌, ◌<◌, if◌then◌else◌}
use Rattle.std.proofs.Common.{w64, to_z, of_z}
use Rattle.std.proofs.lemmas.Int.{ints, to_z-of_z}
use Rattle.ppm_words.specs.Limits.{value_bound}
use Rattle.ppm_grammar.specs.Rows.{In, first, later, element, Take, Part}
use Rattle.ppm_grammar.specs.Limits.{Tally, Adds, adds, passed, with_counts, after_token}
use Rattle.ppm_grammar.specs.Faults as of
use Rattle.ppm_grammar.specs.Predictive.{some, can_start, starts}
use Rattle.ppm_grammar.proofs.TextLemmas.{other_kind}
use Rattle.ppm_text.specs.declared.token.Keyword.TheVariants as k
use Rattle.ppm_text.specs.declared.token.Sign.{Sign}
use Rattle.ppm_text.specs.declared.token.Sign.TheVariants as s
use Rattle.ppm_text.specs.declared.token.Kind.{Kind}
use Rattle.ppm_text.specs.declared.token.Kind.TheVariants as kind
use Rattle.ppm_text.specs.declared.token.Token.{Token}
use Rattle.ppm_tree.specs.declared.named.Named.{Named}
use Rattle.ppm_tree.specs.declared.operator.Operator.{Operator}
use Rattle.ppm_tree.specs.Tree.{Expression}
use Rattle.ppm_tree.specs.Tree as tree
use Rattle.ppm_rows.specs.declared.level.Level.{Level}
use Rattle.ppm_rows.specs.declared.level.Level.TheVariants as level
use Rattle.ppm_rows.specs.Operations.{Operation, operation, operations, operator_among, operator_at}
use Rattle.ppm_rows.specs.Kinds.{Terminal, Mark, terminal, terminals, mark_number, mark_listed}
use Rattle.ppm_rows.specs.Values.{Value, Lexed, named, name_of, number_of}
use Rattle.ppm_rows.specs.Values as v
use Rattle.ppm_rows.specs.Phrases.{Phrase, operand}
use Rattle.ppm_rows.specs.Phrases as p
use Rattle.ppm_rows.specs.Language.{language, rows, expr, AName, goes_on, operation_form}
use Rattle.ppm_rows.specs.Limits.{limits, nodes, is_index, has_index}
use Rattle.ppm_rows.proofs.OneAnswer.{is_predictive_language}
use Rattle.ppm_parser.specs.declared.limit.Limit.TheVariants as limit
use Rattle.ppm_parser.specs.declared.room.Room.{Room}
use Rattle.ppm_parser.specs.declared.stop.Stop.{Stop}
use Rattle.ppm_parser.specs.declared.stop.Stop.TheVariants as stop
use Rattle.ppm_parser.specs.Faults.{fault_of}
use Rattle.ppm_parser.specs.Room.{Has, with_nodes}
use Rattle.ppm_parser.specs.Fronts.{InFront, HasAt, HasName, HasOperator, Misses, NoOperator, NoneWithin, IsNotFront, line_of, comes_once}
use Rattle.ppm_parser.specs.Parsing.{Parses, Stops, ParsesExpression, ParsesFrom, ParsesUpTo, IsNameAt, ParsesNamed, StopsNamed}
use Rattle.ppm_parser.proofs.Reading.{then_reads, then_fails, front_fails, read, of_same, name_reads}
use Rattle.ppm_parser.proofs.Reading.{row_reads, row_fails, row_many, only_reads, only_fails, past_reads}
use Rattle.ppm_parser.proofs.Reading.{open_reads, open_fails, named_is, after_node, no_node}

-- one node is counted
pub record Counts (room room' : Room) : Type 0 where
  pub less : room.nodes ≡ suc room'.nodes
  pub same : room' ≡ with_nodes room'.nodes room

-- by what the code says
pub counts_of : {room room' : Room} → (room.nodes ≡ suc room'.nodes) × (room' ≡ with_nodes room'.nodes room) → Counts room room'
counts_of h = record { less = h.0; same = h.1 }

-- the room after a node is that of a tally with one node more
after : {room room' : Room} → Counts room room' → (c : _) → Has room c → Has room' (adds nodes 1 c)
after {room = room} {room' = room'} h c has = after_node room room' h.less h.same c has

-- the expression with the line of the tokens
lined : {ts rest : List Token} {t : Token} {e : Expression} → ts ≡ t ∷ rest → v.Expr t.line e ≡ v.Expr (line_of ts) e
lined {e = e} is = ap (λ q. v.Expr q e) (ap line_of (sym is))

module _ {depth : ℕ} {room : Room} {ts rest : List Token} {t : Token} (is : ts ≡ t ∷ rest) where
  -- a number
  pub number_read : {room' : Room} (n : ℕ) → t.kind ≡ kind.Number n → Counts room room' →
      ParsesExpression depth room p.Operand ts (tree.Number (pos n)) room' rest
  number_read n kind counts =
      of_same (ap (λ q. q ∷ []) (ap (λ q. v.Expr t.line (tree.Number (pos (number_of q)))) kind ∙ lined is))
      (row_reads _ (later first) refl refl is (ap terminal kind) (after counts) read)

  -- a length
  pub len_read : {room' : Room} {x : Named} {end : List Token} → t.kind ≡ kind.Keyword k.Len → Counts room room' → HasName rest x end →
      ParsesExpression depth room p.Operand ts (tree.Len x) room' end
  len_read kind counts h =
      of_same (ap (λ q. q ∷ []) (ap (λ q. v.Expr t.line (tree.Len q)) (named_is h) ∙ lined is))
      (row_reads _ (later (later (later first))) refl refl is (ap terminal kind) (after counts) (name_reads h))

  -- a minus
  pub minus_read : {inner : ℕ} {between room' : Room} {end : List Token} {e : Expression} → depth ≡ suc inner → t.kind ≡ kind.Sign s.Minus → Counts room between →
      ParsesExpression inner between p.Operand rest e room' end → ParsesExpression depth room p.Operand ts (tree.Minus t.line e) room' end
  minus_read less kind counts h =
      of_same (ap (λ q. q ∷ []) (lined is)) (open_reads less _ first refl refl is (ap terminal kind) (after counts) h)

  pub minus_fails : {inner : ℕ} {between : Room} {e : Stop} → depth ≡ suc inner → t.kind ≡ kind.Sign s.Minus → Counts room between →
      Stops inner between (Part p.Operand ∷ []) rest e → Stops depth room (Part p.Operand ∷ []) ts e
  minus_fails less kind counts h = open_fails less _ first refl refl is (ap terminal kind) (after counts) h

  -- a parenthesis
  pub group_read : {inner : ℕ} {room' : Room} {end : List Token} {e : Expression} → depth ≡ suc inner → t.kind ≡ kind.Sign s.OpenParen →
      ParsesUpTo inner room s.CloseParen rest e room' end → ParsesExpression depth room p.Operand ts e room' end
  group_read less kind h =
      of_same (ap (λ q. q ∷ []) (lined is))
      (open_reads less _ (later (later (later (later first)))) refl refl is (ap terminal kind) (λ c has. has) h.parses)

  pub group_fails : {inner : ℕ} {e : Stop} → depth ≡ suc inner → t.kind ≡ kind.Sign s.OpenParen →
      Stops inner room (expr ∷ Take (Mark s.CloseParen) ∷ []) rest e → Stops depth room (Part p.Operand ∷ []) ts e
  group_fails less kind h = open_fails less _ (later (later (later (later first)))) refl refl is (ap terminal kind) (λ c has. has) h

-- no token of the kind is in front where it is missed
pub not_front : (x : Terminal) (ts : List Token) (e : Stop) → Misses x ts e → IsNotFront x ts
not_front x [] e h = tt
not_front x (t ∷ ts) e h = h.1

-- the kind of a sign
sign_of : (x : Kind) (sign : Sign) → terminal x ≡ Mark sign → x ≡ kind.Sign sign
sign_of (kind.Name bytes) sign h = cc
sign_of (kind.Number n) sign h = cc
sign_of (kind.Keyword word) sign h = cc
sign_of (kind.Sign other) sign h = cc

-- an index is in front, or none
index_front : {ts rest : List Token} {t : Token} → InFront (Mark s.OpenBracket) ts t rest → has_index ts ≡ true
index_front {t = t} h = rw (h.shape, sign_of t.kind s.OpenBracket h.is) refl

no_index : (ts : List Token) → IsNotFront (Mark s.OpenBracket) ts → has_index ts ≡ false
no_index [] h = refl
no_index (t ∷ ts) h = go t.kind h
  where
    go : (x : Kind) → terminal x ≢ Mark s.OpenBracket → is_index x ≡ false
    go (kind.Sign s.OpenBracket) h = absurd (h refl)
    go _ h = refl

-- where none is, the name counts as a node
after_name : {room room' : Room} (t : Token) (ts : List Token) → has_index ts ≡ false → Counts room room' → (c : Tally) → Has room c →
    Has room' (after_token limits (AName ∷ []) t ts c)
after_name {room' = room'} t ts none counts c has = subst (λ q. Has room' (with_counts (if q then [] else Adds nodes 1 ∷ []) c)) (sym none) (after counts c has)

-- where one is, it does not
after_region : (room : Room) (t : Token) (ts : List Token) → has_index ts ≡ true → (c : Tally) → Has room c → Has room (after_token limits (AName ∷ []) t ts c)
after_region room t ts some c has = subst (λ q. Has room (with_counts (if q then [] else Adds nodes 1 ∷ []) c)) (sym some) has

-- no index begins
index_starts : (t : Token) → terminal t.kind ≢ Mark s.OpenBracket → starts language p.Index (terminal t.kind) ≡ false
index_starts t h = is_predictive_language.starts_is p.Index (terminal t.kind) ∙ rw (other_kind language (Mark s.OpenBracket) (terminal t.kind) h) refl

module _ {depth : ℕ} {room : Room} {x : Named} {place : ℕ} {ts : List Token} where
  -- a name alone
  pub alone_read : {room' : Room} → IsNotFront (Mark s.OpenBracket) ts → Counts room room' → ParsesNamed depth room x place ts (tree.Name x) room' ts
  alone_read none counts t is =
      of_same (ap (λ q. q ∷ []) (λ i. v.Expr (is.line i) (tree.Name (record { name = ap name_of is.is i; line = is.line i }))))
      (row_reads _ (later (later first)) refl refl refl (ap terminal is.is) (after_name t ts (no_index ts none) counts)
      (past_reads _ first refl (λ u rest shape. index_starts u (front_of shape none))))
    where
      front_of : {u : Token} {rest : List Token} → ts ≡ u ∷ rest → IsNotFront (Mark s.OpenBracket) ts → terminal u.kind ≢ Mark s.OpenBracket
      front_of shape h = subst (IsNotFront (Mark s.OpenBracket)) shape h

  pub alone_many : {e : Stop} → IsNotFront (Mark s.OpenBracket) ts → room.nodes ≡ 0 → e ≡ stop.TooMany place limit.Nodes → StopsNamed depth room x place ts e
  alone_many none full told t is =
      row_many _ (later (later first)) refl refl refl (ap terminal is.is) (ap fault_of told ∙ ap (λ q. Some (of.TooMany q nodes)) (sym is.at))
      (λ c has. subst (λ q. passed limits.most (with_counts (if q then [] else Adds nodes 1 ∷ []) c) ≡ Some nodes) (sym (no_index ts none)) (no_node room full c has))

  -- an element
  pub element_read : {inner place' : ℕ} {between room' : Room} {behind rest : List Token} {e : Expression} → HasAt (Mark s.OpenBracket) ts place' behind →
      depth ≡ suc inner → Counts room between → ParsesUpTo inner between s.CloseBracket behind e room' rest →
      ParsesNamed depth room x place ts (tree.Element x e) room' rest
  element_read {e = e} h less counts r t is =
      of_same (ap (λ q. q ∷ []) (λ i. v.Expr (is.line i) (tree.Element (record { name = ap name_of is.is i; line = is.line i }) e)))
      (row_reads _ (later (later first)) refl refl refl (ap terminal is.is) (after_region room t ts (index_front h.front))
      (open_reads less _ (later first) refl refl h.front.shape h.front.is (after counts) r.parses))

  pub element_fails : {inner place' : ℕ} {between : Room} {behind : List Token} {e : Stop} → HasAt (Mark s.OpenBracket) ts place' behind → depth ≡ suc inner →
      Counts room between → Stops inner between (expr ∷ Take (Mark s.CloseBracket) ∷ []) behind e → StopsNamed depth room x place ts e
  element_fails h less counts r t is =
      row_fails _ (later (later first)) refl refl refl (ap terminal is.is) (after_region room t ts (index_front h.front))
      (open_fails less _ (later first) refl refl h.front.shape h.front.is (after counts) r)

-- an element of a list, where a function was applied to it
in_map : {A B : Type 0} (f : A → B) {x : A} {xs : List A} → In x xs → In (f x) (map f xs)
in_map f first = first
in_map f (later i) = later (in_map f i)

-- signs with one number are one
one_sign : (a b : Sign) → mark_number a ≡ mark_number b → a ≡ b
one_sign a b h =
    let same : Some (Mark a) ≡ Some (Mark b) = sym (mark_listed a) ∙ ap (element terminals) h ∙ mark_listed b in cc

-- the operation of a sign is listed
listed : (xs : List Operation) (sign : Sign) (o : Operator) → operator_among xs sign ≡ Some o → In (operation sign o) xs
listed [] sign o h = cc
listed (x ∷ xs) sign o h = go (mark_number x.sign == mark_number sign) refl h (listed xs sign o)
  where
    go : (b : Bool) → (mark_number x.sign == mark_number sign) ≡ b → (if b then Some x.operator else operator_among xs sign) ≡ Some o →
        (operator_among xs sign ≡ Some o → In (operation sign o) xs) → In (operation sign o) (x ∷ xs)
    go true e k others =
        let is : x.sign ≡ sign = one_sign x.sign sign (grind (arith, e)) in
        let has : x.operator ≡ o = cc in
        subst (λ q. In q (x ∷ xs)) (λ i. record { sign = is i; operator = has i }) first
    go false e k others = later (others k)

-- no sign of the operations is in front
none_starts : (level : Level) (xs : List Operation) (x : Terminal) → ((sign : Sign) → x ≡ Mark sign → operator_among xs sign ≡ None) →
    some (λ row. can_start language (starts language) row.items x) (map (λ y. operation_form level y) xs) ≡ false
none_starts level [] x h = refl
none_starts level (y ∷ ys) x h =
    let other = other_kind language (Mark y.sign) x (λ is. never y.sign is) in
    rw (other) (none_starts level ys x (λ sign is. go sign (mark_number y.sign == mark_number sign) (h sign is)))
  where
    never : (sign : Sign) → x ≡ Mark y.sign → ⊥
    never sign is =
        let found = h y.sign is in
        let same : (mark_number y.sign == mark_number y.sign) ≡ true = grind arith in
        let none : (if mark_number y.sign == mark_number y.sign then Some y.operator else operator_among ys y.sign) ≡ None = found in absurd (cc)

    go : (sign : Sign) (b : Bool) → (if b then Some y.operator else operator_among ys sign) ≡ None → operator_among ys sign ≡ None
    go sign true k = cc
    go sign false k = k

-- no operation goes on
no_operation : (level : Level) (t : Token) → ((sign : Sign) → t.kind ≡ kind.Sign sign → operator_at level sign ≡ None) →
    starts language (p.FromOperand level) (terminal t.kind) ≡ false
no_operation level t h = is_predictive_language.starts_is (p.FromOperand level) (terminal t.kind)
    ∙ none_starts level (operations level) (terminal t.kind) (λ sign is. h sign (sign_of t.kind sign is))

-- the row of an operator that is in front
row_in : (level : Level) {ts behind : List Token} {o : Operator} {place line : ℕ} (h : HasOperator level ts o place line behind) →
    In (operation_form level (operation h.sign o)) (rows (p.FromOperand level))
row_in level h = later (in_map (λ y. operation_form level y) (listed (operations level) h.sign _ h.operator))

-- the level goes on
pub goes : (level : Level) → comes_once level ≡ false → goes_on level ≡ Part (p.FromOperand level) ∷ []
goes level.Either h = refl
goes level.Both h = refl
goes level.Comparison h = cc
goes level.Sum h = refl
goes level.Product h = refl

pub goes_no_further : (level : Level) → comes_once level ≡ true → goes_on level ≡ []
goes_no_further level.Either h = cc
goes_no_further level.Both h = cc
goes_no_further level.Comparison h = refl
goes_no_further level.Sum h = cc
goes_no_further level.Product h = cc

module _ {depth : ℕ} {room : Room} (level : Level) {ts : List Token} where
  -- an operand and what goes on from it
  pub operation_read : {between room' : Room} {mid rest : List Token} {first' e : Expression} →
      ParsesExpression depth room (operand level) ts first' between mid → ParsesFrom depth between level first' mid e room' rest →
      ParsesExpression depth room (p.Operation level) ts e room' rest
  operation_read a b =
      of_same (ap (λ q. v.Expr (line_of ts) q ∷ []) b.makes) (only_reads _ refl refl refl refl (then_reads a b.parses))

  pub operation_front : {e : Stop} → Stops depth room (Part (operand level) ∷ []) ts e → Stops depth room (Part (p.Operation level) ∷ []) ts e
  operation_front h = only_fails _ refl refl refl refl (front_fails (Part (p.FromOperand level) ∷ []) h)

  pub operation_fails : {between : Room} {mid : List Token} {first' : Expression} {e : Stop} → ParsesExpression depth room (operand level) ts first' between mid →
      Stops depth between (Part (p.FromOperand level) ∷ []) mid e → Stops depth room (Part (p.Operation level) ∷ []) ts e
  operation_fails a h = only_fails _ refl refl refl refl (then_fails a h)

  -- no operation
  pub stay_read : {first' : Expression} → NoOperator level ts → ParsesFrom depth room level first' ts first' room ts
  stay_read none = record {
    function = λ e. e;
    parses = past_reads _ first refl (λ t rest shape. no_operation level t (subst (NoOperator level) shape none));
    makes = refl;
  }

  module _ {o : Operator} {place line : ℕ} {behind : List Token} (h : HasOperator level ts o place line behind) where
    pub further_many : {e : Stop} → room.nodes ≡ 0 → e ≡ stop.TooMany place limit.Nodes → Stops depth room (Part (p.FromOperand level) ∷ []) ts e
    further_many full told =
        row_many _ (row_in level h) refl refl h.shape (ap terminal h.is) (ap fault_of told ∙ ap (λ q. Some (of.TooMany q nodes)) (sym h.at)) (no_node room full)

    pub further_front : {between : Room} {e : Stop} → Counts room between → Stops depth between (Part (operand level) ∷ []) behind e →
        Stops depth room (Part (p.FromOperand level) ∷ []) ts e
    further_front counts r = row_fails _ (row_in level h) refl refl h.shape (ap terminal h.is) (after counts) (front_fails (goes_on level) r)

    module _ {between left : Room} {mid : List Token} {second : Expression} (counts : Counts room between)
        (a : ParsesExpression depth between (operand level) behind second left mid) where
      -- the last one
      pub once_read : {first' : Expression} → comes_once level ≡ true →
          ParsesFrom depth room level first' ts (tree.Binary o line first' second) left mid
      once_read {first' = first'} once = record {
        function = λ e. tree.Binary o h.token.line e second;
        parses = row_reads _ (row_in level h) refl refl h.shape (ap terminal h.is) (after counts)
            (subst (λ q. Parses depth between (Part (operand level) ∷ q) behind (v.Expr (line_of behind) second ∷ []) left mid) (sym (goes_no_further level once)) a);
        makes = ap (λ q. tree.Binary o q first' second) h.in_line;
      }

      -- others go on
      pub further_read : {room' : Room} {rest : List Token} {first' e : Expression} → comes_once level ≡ false →
          ParsesFrom depth left level (tree.Binary o line first' second) mid e room' rest → ParsesFrom depth room level first' ts e room' rest
      further_read {room' = room'} {rest = rest} {first' = first'} on b = record {
        function = λ e. b.function (tree.Binary o h.token.line e second);
        parses = row_reads _ (row_in level h) refl refl h.shape (ap terminal h.is) (after counts)
            (subst (λ q. Parses depth between (Part (operand level) ∷ q) behind (v.Expr (line_of behind) second ∷ v.FromOperand b.function ∷ []) room' rest)
            (sym (goes level on)) (then_reads a b.parses));
        makes = ap (λ q. b.function (tree.Binary o q first' second)) h.in_line ∙ b.makes;
      }

      pub further_fails : {e : Stop} → comes_once level ≡ false → Stops depth left (Part (p.FromOperand level) ∷ []) mid e →
          Stops depth room (Part (p.FromOperand level) ∷ []) ts e
      further_fails {e = e} on r =
          row_fails _ (row_in level h) refl refl h.shape (ap terminal h.is) (after counts)
          (subst (λ q. Stops depth between (Part (operand level) ∷ q) behind e) (sym (goes level on)) (then_fails a r))

-- the operand of a name that stands in front
module _ {depth : ℕ} {room : Room} {ts behind : List Token} {t : Token} (shape : ts ≡ t ∷ behind) {x : Named} {place : ℕ} (is : IsNameAt t x place) where
  pub name_read : {room' : Room} {rest : List Token} {e : Expression} → ParsesNamed depth room x place behind e room' rest →
      ParsesExpression depth room p.Operand ts e room' rest
  name_read {room' = room'} {rest = rest} {e = e} h =
      of_same (ap (λ q. v.Expr q e ∷ []) (sym is.line ∙ ap line_of (sym shape)))
      (subst (λ q. Parses depth room (Part p.Operand ∷ []) q (v.Expr x.line e ∷ []) room' rest) (sym shape) (h t is))

  pub name_stops : {e : Stop} → StopsNamed depth room x place behind e → Stops depth room (Part p.Operand ∷ []) ts e
  name_stops {e = e} h = subst (λ q. Stops depth room (Part p.Operand ∷ []) q e) (sym shape) (h t is)

-- a literal keeps its value
pub literal_value : (n : ℕ) (z : ℤ) → z ≡ pos n → n < value_bound → to_z w64 (of_z w64 z) ≡ pos n
literal_value n z is small = rw is (to_z-of_z w64 (pos n) (omega (arith, ints, small)))

module _ {depth : ℕ} {room : Room} {ts : List Token} where
  -- an operand after which no operator stands is the operation of each level in turn
  module _ {room' : Room} {rest : List Token} {e : Expression} (a : ParsesExpression depth room p.Operand ts e room' rest) where
    product_read : NoneWithin level.Product rest → ParsesExpression depth room (p.Operation level.Product) ts e room' rest
    product_read none = operation_read level.Product a (stay_read level.Product none)

    sum_read : NoneWithin level.Sum rest → ParsesExpression depth room (p.Operation level.Sum) ts e room' rest
    sum_read none = operation_read level.Sum (product_read none.1) (stay_read level.Sum none.0)

    comparison_read : NoneWithin level.Comparison rest → ParsesExpression depth room (p.Operation level.Comparison) ts e room' rest
    comparison_read none = operation_read level.Comparison (sum_read (none.1, none.2)) (stay_read level.Comparison none.0)

    both_read : NoneWithin level.Both rest → ParsesExpression depth room (p.Operation level.Both) ts e room' rest
    both_read none = operation_read level.Both (comparison_read (none.1, none.2, none.3)) (stay_read level.Both none.0)

    either_read : NoneWithin level.Either rest → ParsesExpression depth room (p.Operation level.Either) ts e room' rest
    either_read none = operation_read level.Either (both_read (none.1, none.2, none.3, none.4)) (stay_read level.Either none.0)

    pub plain_read : (level : Level) → NoneWithin level rest → ParsesExpression depth room (p.Operation level) ts e room' rest
    plain_read level.Either none = either_read none
    plain_read level.Both none = both_read none
    plain_read level.Comparison none = comparison_read none
    plain_read level.Sum none = sum_read none
    plain_read level.Product none = product_read none

  -- where it stops, so does each
  module _ {e : Stop} (h : Stops depth room (Part p.Operand ∷ []) ts e) where
    product_stops : Stops depth room (Part (p.Operation level.Product) ∷ []) ts e
    product_stops = operation_front level.Product h

    sum_stops : Stops depth room (Part (p.Operation level.Sum) ∷ []) ts e
    sum_stops = operation_front level.Sum product_stops

    comparison_stops : Stops depth room (Part (p.Operation level.Comparison) ∷ []) ts e
    comparison_stops = operation_front level.Comparison sum_stops

    both_stops : Stops depth room (Part (p.Operation level.Both) ∷ []) ts e
    both_stops = operation_front level.Both comparison_stops

    either_stops : Stops depth room (Part (p.Operation level.Either) ∷ []) ts e
    either_stops = operation_front level.Either both_stops

    pub plain_stops : (level : Level) → Stops depth room (Part (p.Operation level) ∷ []) ts e
    plain_stops level.Either = either_stops
    plain_stops level.Both = both_stops
    plain_stops level.Comparison = comparison_stops
    plain_stops level.Sum = sum_stops
    plain_stops level.Product = product_stops
