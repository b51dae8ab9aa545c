-- Calls and their arguments.
use Rattle.std.proofs.Common.{◌≡◌, ℕ, suc, ◌≤◌, Bool, true, false, List, [], ◌∷◌, ◌++◌, refl, sym, ◌∙◌, ap, subst, arith}
use Rattle.std.specs.Prelude.{Option, Some, None, nat_lt, ◌+◌, if◌then◌else◌}
use Rattle.ppm_grammar.specs.Rows.{first, later, Take, Part}
use Rattle.ppm_grammar.specs.Limits.{Tally, Adds, adds, passed, with_counts, after_token}
use Rattle.ppm_grammar.specs.Predictive.{starts}
use Rattle.ppm_grammar.specs.Derivation.{Due}
use Rattle.ppm_grammar.specs.Stack.{Move, next}
use Rattle.ppm_grammar.specs.Reading.{FailsState}
use Rattle.ppm_grammar.proofs.StatesLemmas as states
use Rattle.ppm_grammar.proofs.StatesLemmas.{MoveAt}
use Rattle.ppm_grammar.proofs.TextLemmas.{other_kind}
use Rattle.ppm_rows.proofs.OneAnswer.{is_predictive_language}
use Rattle.ppm_text.specs.declared.token.Keyword.TheVariants as k
use Rattle.ppm_text.specs.declared.token.Sign.TheVariants as s
use Rattle.ppm_text.specs.declared.token.Kind.{Kind}
use Rattle.ppm_text.specs.declared.token.Kind.TheVariants as kind
use Rattle.ppm_text.specs.declared.token.Token.{Token}
use Rattle.ppm_tree.specs.Limits.{array_limit, word_limit, procedure_limit, parameter_limit}
use Rattle.ppm_tree.specs.declared.named.Named.{Named}
use Rattle.ppm_tree.specs.Tree.{Expression, Argument, Side}
use Rattle.ppm_rows.specs.Kinds.{Terminal, Name, Number, Word, Mark, terminal}
use Rattle.ppm_rows.specs.Values.{Value, Lexed, named}
use Rattle.ppm_rows.specs.Values as v
use Rattle.ppm_rows.specs.Phrases as p
use Rattle.ppm_rows.specs.Making.{for_target}
use Rattle.ppm_rows.specs.Making as make
use Rattle.ppm_rows.specs.Language.{language, expr, Counted, AnElement, ANode, AName}
use Rattle.ppm_rows.specs.Phrases.{Phrase}
use Rattle.ppm_rows.specs.Limits.{limits, elements, nodes, has_index}
use Rattle.ppm_parser.specs.declared.limit.Limit.TheVariants as limit
use Rattle.ppm_parser.specs.declared.room.Room.{Room}
use Rattle.ppm_parser.specs.declared.stop.Stop.{Stop}
use Rattle.ppm_parser.specs.declared.stop.Stop.TheVariants as stop
use Rattle.ppm_parser.specs.Faults.{fault_of}
use Rattle.ppm_parser.specs.Room.{Has, with_elements}
use Rattle.ppm_parser.specs.Fronts.{HasAt, HasName, HasExpression, BeginsExpression, opened_by, IsNotFront, Misses, line_of}
use Rattle.ppm_parser.specs.Parsing.{Parses, Stops, ParsesExpression, ParsesClosed}
use Rattle.ppm_parser.proofs.Reading.{free, of_same}
use Rattle.ppm_parser.proofs.Reading.{row_reads, row_fails, corner_reads, corner_fails, NoOther, other_reads, other_fails, open_reads, open_fails, named_is}
use Rattle.ppm_parser.proofs.Reading.{after_element, after_list}
use Rattle.ppm_parser.proofs.Lists.{Goes}
use Rattle.ppm_parser.proofs.Lists as lists

-- one element is counted
pub record CountsElement (room room' : Room) : Type 0 where
  pub less : room.elements ≡ suc room'.elements
  pub same : room' ≡ with_elements room'.elements room

-- by what the code says
pub element_of : {room room' : Room} → (room.elements ≡ suc room'.elements) × (room' ≡ with_elements room'.elements room) → CountsElement room room'
element_of h = record { less = h.0; same = h.1 }

-- the room after an element is that of a tally with one element more
pub after_counted : {room room' : Room} → CountsElement room room' → (c : Tally) → Has room c → Has room' (adds elements 1 c)
after_counted {room = room} {room' = room'} h c has = after_element room room' h.less h.same c has

-- what begins an expression can begin one
begins_it : (x : Kind) → BeginsExpression x → starts language p.Expression (terminal x) ≡ true
begins_it (kind.Name x) h = refl
begins_it (kind.Number n) h = refl
begins_it (kind.Keyword k.Len) h = refl
begins_it (kind.Sign s.Minus) h = refl
begins_it (kind.Sign s.OpenParen) h = refl
begins_it _ h = absurd h

module _ {depth place line : ℕ} {room : Room} {ts : List Token} (h : HasExpression depth ts place line) where
  -- an argument
  pub argument_read : {between room' : Room} {rest : List Token} {e : Expression} → CountsElement room between →
      ParsesExpression depth between p.Expression ts e room' rest →
      Parses depth room (Part p.Argument ∷ []) ts (v.OneArgument (record { line = line; value = e }) ∷ []) room' rest
  argument_read {e = e} counts r =
      of_same (ap (λ q. v.OneArgument (record { line = q; value = e }) ∷ []) (ap line_of h.shape ∙ h.in_line))
      (corner_reads _ first refl h.shape (begins_it h.token.kind h.begins) (after_counted counts) r)

  pub argument_fails : {between : Room} {e : Stop} → CountsElement room between → Stops depth between (expr ∷ []) ts e → Stops depth room (Part p.Argument ∷ []) ts e
  argument_fails counts r = corner_fails _ first refl h.shape (begins_it h.token.kind h.begins) (after_counted counts) r

-- what is still to come after a token
abbrev pub still_of : Option (Move Terminal Phrase Counted) → List (Due Terminal Phrase)
still_of None = []
still_of (Some m) = m.still

-- where no element is left one more passes the limit, whatever nodes are counted
pub passes : (room : Room) → room.elements ≡ 0 → (c c' : Tally) → Has room c → c' 1 ≡ c 1 → c' 2 ≡ c 2 → c' 3 ≡ c 3 → c' 4 ≡ c 4 + 1 →
    passed limits.most c' ≡ Some elements
passes room full c c' (a, (w, (n, (x, u)))) is1 is2 is3 is4 =
    let few1 : nat_lt array_limit (c' 1) ≡ false = grind (arith, a, is1) in
    let few2 : nat_lt word_limit (c' 2) ≡ false = grind (arith, w, is2) in
    let few3 : nat_lt procedure_limit (c' 3) ≡ false = grind (arith, n, is3) in
    let many : nat_lt parameter_limit (c' 4) ≡ true = grind (arith, x, is4, full) in
    rw (few1, few2, few3, many) refl

module _ {depth : ℕ} {room : Room} {ts behind : List Token} {t : Token} {e : Stop} (shape : ts ≡ t ∷ behind) where
  -- a token that opens, where no opening is left
  deep_at : {counts : List Counted} → depth ≡ 0 → e ≡ stop.TooDeep t.place → MoveAt language limits Has free p.Argument t 1 counts →
      Stops depth room (Part p.Argument ∷ []) ts e
  deep_at none told m = record {
    fails = subst (λ q. FailsState language limits Has depth room (Part p.Argument ∷ []) ts q) (sym (ap fault_of told))
        (states.deep_at language limits Has free m shape (omega (arith, none)));
  }

  pub minus_first : t.kind ≡ kind.Sign s.Minus → depth ≡ 0 → e ≡ stop.TooDeep t.place → Stops depth room (Part p.Argument ∷ []) ts e
  minus_first is none told = deep_at {counts = AnElement ∷ ANode ∷ []} none told (record {
    still = λ d. still_of (next language d p.Argument (Mark s.Minus));
    moves = λ d. ap (λ q. next language d p.Argument (terminal q)) is;
  })

  pub group_first : t.kind ≡ kind.Sign s.OpenParen → depth ≡ 0 → e ≡ stop.TooDeep t.place → Stops depth room (Part p.Argument ∷ []) ts e
  group_first is none told = deep_at {counts = AnElement ∷ []} none told (record {
    still = λ d. still_of (next language d p.Argument (Mark s.OpenParen));
    moves = λ d. ap (λ q. next language d p.Argument (terminal q)) is;
  })

  -- the first token of one argument too many
  module _ (full : room.elements ≡ 0) (told : e ≡ stop.TooMany t.place limit.Elements) where
    many_at : {above : ℕ} {counts : List Counted} → above ≤ depth → MoveAt language limits Has free p.Argument t above counts →
        ((c : Tally) → Has room c → passed limits.most (after_token limits counts t behind c) ≡ Some elements) → Stops depth room (Part p.Argument ∷ []) ts e
    many_at shallow m many = record {
      fails = subst (λ q. FailsState language limits Has depth room (Part p.Argument ∷ []) ts q) (sym (ap fault_of told))
          (states.many_at language limits Has free m shape shallow many);
    }

    pub many_first : (x : Kind) → t.kind ≡ x → BeginsExpression x → opened_by x ≤ depth → Stops depth room (Part p.Argument ∷ []) ts e
    many_first (kind.Name x) is h shallow = many_at {counts = AnElement ∷ AName ∷ []} shallow
        (record { still = λ d. still_of (next language d p.Argument Name); moves = λ d. ap (λ q. next language d p.Argument (terminal q)) is })
        (λ c has. go c has (has_index behind))
      where
        go : (c : Tally) → Has room c → (b : Bool) → passed limits.most (with_counts (if b then [] else Adds nodes 1 ∷ []) (adds elements 1 c)) ≡ Some elements
        go c has true = passes room full c (adds elements 1 c) has refl refl refl refl
        go c has false = passes room full c (adds nodes 1 (adds elements 1 c)) has refl refl refl refl
    many_first (kind.Number n) is h shallow = many_at {counts = AnElement ∷ ANode ∷ []} shallow
        (record { still = λ d. still_of (next language d p.Argument Number); moves = λ d. ap (λ q. next language d p.Argument (terminal q)) is })
        (λ c has. passes room full c (adds nodes 1 (adds elements 1 c)) has refl refl refl refl)
    many_first (kind.Keyword k.Len) is h shallow = many_at {counts = AnElement ∷ ANode ∷ []} shallow
        (record { still = λ d. still_of (next language d p.Argument (Word k.Len)); moves = λ d. ap (λ q. next language d p.Argument (terminal q)) is })
        (λ c has. passes room full c (adds nodes 1 (adds elements 1 c)) has refl refl refl refl)
    many_first (kind.Sign s.Minus) is h shallow = many_at {counts = AnElement ∷ ANode ∷ []} shallow
        (record { still = λ d. still_of (next language d p.Argument (Mark s.Minus)); moves = λ d. ap (λ q. next language d p.Argument (terminal q)) is })
        (λ c has. passes room full c (adds nodes 1 (adds elements 1 c)) has refl refl refl refl)
    many_first (kind.Sign s.OpenParen) is h shallow = many_at {counts = AnElement ∷ []} shallow
        (record { still = λ d. still_of (next language d p.Argument (Mark s.OpenParen)); moves = λ d. ap (λ q. next language d p.Argument (terminal q)) is })
        (λ c has. passes room full c (adds elements 1 c) has refl refl refl refl)
    many_first _ is h shallow = absurd h

-- one argument too many
pub argument_many : {depth place line : ℕ} {room : Room} {ts : List Token} {e : Stop} (h : HasExpression depth ts place line) → room.elements ≡ 0 →
    e ≡ stop.TooMany place limit.Elements → Stops depth room (Part p.Argument ∷ []) ts e
argument_many h full told =
    many_first h.shape full (told ∙ ap (λ q. stop.TooMany q limit.Elements) (sym h.at)) h.token.kind refl h.begins h.within

-- the lists of arguments
abbrev pub ArgumentsGo : ℕ → Room → List Token → List Argument → Room → List Token → Type 0
ArgumentsGo depth room ts all room' rest = Goes p.SomeArguments p.MoreArguments s.CloseParen v.Arguments depth room ts all room' rest

module _ {depth : ℕ} {room : Room} {ts : List Token} where
  pub arguments_first : {room' : Room} {rest : List Token} {a : Argument} → IsNotFront (Mark s.CloseParen) ts →
      Parses depth room (Part p.Argument ∷ []) ts (v.OneArgument a ∷ []) room' rest → ArgumentsGo depth room ts (a ∷ []) room' rest
  arguments_first none r = lists.first_goes p.MoreArguments p.Argument s.CloseParen v.Arguments v.OneArgument (make.arguments 1) refl (λ t a xs. refl)
      p.SomeArguments (make.arguments 0) refl (λ a xs. refl) none r

  pub arguments_first_fails : {e : Stop} → IsNotFront (Mark s.CloseParen) ts → Stops depth room (Part p.Argument ∷ []) ts e →
      Stops depth room (Part p.SomeArguments ∷ Take (Mark s.CloseParen) ∷ []) ts e
  arguments_first_fails none r = lists.first_fails p.MoreArguments p.Argument s.CloseParen v.Arguments v.OneArgument (make.arguments 1) refl (λ t a xs. refl)
      p.SomeArguments (make.arguments 0) refl (λ a xs. refl) none r

  pub no_arguments : {place : ℕ} {end : List Token} (h : HasAt (Mark s.CloseParen) ts place end) →
      Parses depth room (Part p.SomeArguments ∷ Take (Mark s.CloseParen) ∷ []) ts (v.Arguments [] ∷ Lexed h.token ∷ []) room end
  no_arguments h = lists.none_reads p.MoreArguments p.Argument s.CloseParen v.Arguments v.OneArgument (make.arguments 1) refl (λ t a xs. refl)
      p.SomeArguments (make.arguments 0) refl (λ a xs. refl) (λ t is. rw is refl) h

  module _ {all : List Argument} {room' : Room} {rest : List Token} (g : ArgumentsGo depth room ts all room' rest) where
    pub arguments_step : {place : ℕ} {behind rest' : List Token} {room'' : Room} {a : Argument} → HasAt (Mark s.Comma) rest place behind →
        Parses depth room' (Part p.Argument ∷ []) behind (v.OneArgument a ∷ []) room'' rest' → ArgumentsGo depth room ts (all ++ a ∷ []) room'' rest'
    arguments_step h r = lists.step p.MoreArguments p.Argument s.CloseParen v.Arguments v.OneArgument (make.arguments 1) refl (λ t a xs. refl) g h r

    pub arguments_step_fails : {place : ℕ} {behind : List Token} {e : Stop} → HasAt (Mark s.Comma) rest place behind →
        Stops depth room' (Part p.Argument ∷ []) behind e → Stops depth room (Part p.SomeArguments ∷ Take (Mark s.CloseParen) ∷ []) ts e
    arguments_step_fails h r = lists.step_fails p.MoreArguments p.Argument s.CloseParen v.Arguments v.OneArgument (make.arguments 1) refl (λ t a xs. refl) g h r

    pub arguments_end : {place : ℕ} {end : List Token} → IsNotFront (Mark s.Comma) rest → (h : HasAt (Mark s.CloseParen) rest place end) →
        Parses depth room (Part p.SomeArguments ∷ Take (Mark s.CloseParen) ∷ []) ts (v.Arguments all ∷ Lexed h.token ∷ []) room' end
    arguments_end none h = lists.end_reads p.MoreArguments p.Argument s.CloseParen v.Arguments v.OneArgument (make.arguments 1) refl (λ t a xs. refl) g none h

    pub arguments_end_fails : {e : Stop} → IsNotFront (Mark s.Comma) rest → Misses (Mark s.CloseParen) rest e →
        Stops depth room (Part p.SomeArguments ∷ Take (Mark s.CloseParen) ∷ []) ts e
    arguments_end_fails none h =
        lists.end_fails p.MoreArguments p.Argument s.CloseParen v.Arguments v.OneArgument (make.arguments 1) refl (λ t a xs. refl) g none h

-- an argument list
module _ {depth inner place : ℕ} {room between : Room} {ts behind : List Token} (h : HasAt (Mark s.OpenParen) ts place behind) (less : depth ≡ suc inner)
    (list : between ≡ with_elements parameter_limit room) where
  pub arguments_read : {room' : Room} {rest : List Token} {all : List Argument} → ParsesClosed inner between p.SomeArguments s.CloseParen behind (v.Arguments all) room' rest →
      Parses depth room (Part p.ArgumentList ∷ []) ts (v.Arguments all ∷ []) room' rest
  arguments_read r = open_reads less _ first refl refl h.front.shape h.front.is (after_list room between list) r.parses

  pub arguments_fails : {e : Stop} → Stops inner between (Part p.SomeArguments ∷ Take (Mark s.CloseParen) ∷ []) behind e →
      Stops depth room (Part p.ArgumentList ∷ []) ts e
  arguments_fails r = open_fails less _ first refl refl h.front.shape h.front.is (after_list room between list) r

-- no target is in front
no_target : (ts : List Token) → IsNotFront (Mark s.Assign) ts → NoOther p.AfterTarget p.ArgumentList ts
no_target ts none t rest shape never =
    is_predictive_language.starts_is p.AfterTarget (terminal t.kind)
    ∙ rw (other_kind language (Mark s.Assign) (terminal t.kind) (subst (IsNotFront (Mark s.Assign)) shape none), never) refl

-- a call
module _ {depth : ℕ} {room : Room} {ts behind : List Token} {x : Named} (h : HasName ts x behind) where
  pub call_read : {room' : Room} {rest : List Token} {all : List Argument} → Parses depth room (Part p.ArgumentList ∷ []) behind (v.Arguments all ∷ []) room' rest →
      Parses depth room (Part p.Call ∷ []) ts (v.OneSide (record { target = None; callee = x; arguments = all }) ∷ []) room' rest
  call_read {all = all} r =
      of_same (ap (λ q. v.OneSide (record { target = None; callee = q; arguments = all }) ∷ []) (named_is h))
      (row_reads _ first refl refl h.shape (ap terminal h.is) (λ c has. has) r)

  pub call_fails : {e : Stop} → Stops depth room (Part p.ArgumentList ∷ []) behind e → Stops depth room (Part p.Call ∷ []) ts e
  call_fails r = row_fails _ first refl refl h.shape (ap terminal h.is) (λ c has. has) r

  -- a side of a fork with no target
  module _ (none : IsNotFront (Mark s.Assign) behind) where
    pub side_read : {room' : Room} {rest : List Token} {all : List Argument} → Parses depth room (Part p.ArgumentList ∷ []) behind (v.Arguments all ∷ []) room' rest →
        Parses depth room (Part p.Side ∷ []) ts (v.OneSide (record { target = None; callee = x; arguments = all }) ∷ []) room' rest
    side_read {all = all} r =
        of_same (ap (λ q. v.OneSide (record { target = None; callee = q; arguments = all }) ∷ []) (named_is h))
        (row_reads _ first refl refl h.shape (ap terminal h.is) (λ c has. has)
        (other_reads _ (later first) refl refl refl refl (no_target behind none) r))

    pub side_fails : {e : Stop} → Stops depth room (Part p.ArgumentList ∷ []) behind e → Stops depth room (Part p.Side ∷ []) ts e
    side_fails r =
        row_fails _ first refl refl h.shape (ap terminal h.is) (λ c has. has) (other_fails _ (later first) refl refl refl refl (no_target behind none) r)

  -- with a target
  pub targeted_read : {place : ℕ} {room' : Room} {after rest : List Token} {side : Side} (g : HasAt (Mark s.Assign) behind place after) →
      Parses depth room (Part p.Call ∷ []) after (v.OneSide side ∷ []) room' rest →
      Parses depth room (Part p.Side ∷ []) ts (v.OneSide (for_target side x) ∷ []) room' rest
  targeted_read {side = side} g r =
      of_same (ap (λ q. v.OneSide (for_target side q) ∷ []) (named_is h))
      (row_reads _ first refl refl h.shape (ap terminal h.is) (λ c has. has)
      (row_reads _ first refl refl g.front.shape g.front.is (λ c has. has) r))

  pub targeted_fails : {place : ℕ} {after : List Token} {e : Stop} → HasAt (Mark s.Assign) behind place after →
      Stops depth room (Part p.Call ∷ []) after e → Stops depth room (Part p.Side ∷ []) ts e
  targeted_fails g r =
      row_fails _ first refl refl h.shape (ap terminal h.is) (λ c has. has)
      (row_fails _ first refl refl g.front.shape g.front.is (λ c has. has) r)
