-- Statements.
use Rattle.std.proofs.Common.{◌≡◌, ◌≢◌, ℕ, suc, ◌≤◌, true, false, List, [], ◌∷◌, ◌++◌, length, Vec, Global, refl, sym, ◌∙◌, ap, subst, arith}
use Rattle.std.specs.Prelude.{Option, Some, None}
use Rattle.ppm_grammar.specs.Rows.{In, first, later, Take, Part}
use Rattle.ppm_grammar.specs.Limits.{Tally, Anew, adds, with_count, after_token}
use Rattle.ppm_grammar.specs.Predictive.{starts}
use Rattle.ppm_grammar.proofs.TallyLemmas.{remains_full}
use Rattle.ppm_grammar.proofs.TextLemmas.{other_kind}
use Rattle.ppm_text.specs.declared.token.Keyword.TheVariants as k
use Rattle.ppm_text.specs.declared.token.Sign.TheVariants as s
use Rattle.ppm_text.specs.declared.token.Kind.TheVariants as kind
use Rattle.ppm_text.specs.declared.token.Token.{Token}
use Rattle.ppm_tree.specs.Limits.{procedure_limit, node_limit}
use Rattle.ppm_tree.specs.declared.named.Named.{Named}
use Rattle.ppm_tree.specs.declared.tree.Expr.{Expr}
use Rattle.ppm_tree.specs.declared.tree.Stmt.{Stmt}
use Rattle.ppm_tree.specs.declared.tree.Stmt as stmt
use Rattle.ppm_tree.specs.Tree.{Expression, Side, Statement, Block, Nil, Then, Give, expression_of, statement_of, block_of}
use Rattle.ppm_tree.specs.Tree as tree
use Rattle.ppm_rows.specs.Kinds.{Terminal, Word, Mark, terminal}
use Rattle.ppm_rows.specs.Values.{Value, Lexed, name_of, named}
use Rattle.ppm_rows.specs.Values as v
use Rattle.ppm_rows.specs.Phrases.{Phrase}
use Rattle.ppm_rows.specs.Phrases as p
use Rattle.ppm_rows.specs.Making.{for_target}
use Rattle.ppm_rows.specs.Language.{Form, language, rows, name, sign, word, expr, AStatement}
use Rattle.ppm_rows.specs.Limits.{limits, procedures, nodes}
use Rattle.ppm_rows.proofs.OneAnswer.{is_predictive_language}
use Rattle.ppm_parser.specs.declared.limit.Limit.TheVariants as limit
use Rattle.ppm_parser.specs.declared.room.Room.{Room}
use Rattle.ppm_parser.specs.declared.stop.Stop.{Stop}
use Rattle.ppm_parser.specs.declared.stop.Stop.TheVariants as stop
use Rattle.ppm_parser.specs.Faults.{fault_of}
use Rattle.ppm_parser.specs.Room.{left, Has, with_procedures, with_nodes}
use Rattle.ppm_parser.specs.Fronts.{HasFront, HasAt, HasName, HasGive, IsNotFront, Misses, MissesName, line_of, starts_at}
use Rattle.ppm_parser.specs.Parsing.{Items, Parses, Stops, ParsesTo, MakesBehind, ParsesExpression, ParsesUpTo, IsNameAt}
use Rattle.ppm_parser.specs.Statements.{local_items, choice_items, loop_items, call_items, fork_items, split_items, each_items, ParsesLocal, ParsesChoice}
use Rattle.ppm_parser.specs.Statements.{ParsesLoop, ParsesCall, ParsesFork, ParsesSplit, ParsesEach, ParsesAfterName, ParsesStatement}
use Rattle.ppm_parser.proofs.Reading.{then_reads, then_fails, front_fails, of_same, take_reads, take_fails, word_reads, name_reads, name_fails}
use Rattle.ppm_parser.proofs.Reading.{row_reads, row_fails, row_many, corner_reads, corner_fails, NoOther, other_reads, other_fails, past_reads, open_reads, open_fails}
use Rattle.ppm_parser.proofs.Reading.{named_is, after_statement}
use Rattle.ppm_parser.proofs.Declarations.{part_misses}
use Rattle.ppm_tree.proofs.Blocks as rows_of

-- a local
module _ {depth : ℕ} {room : Room} {ts behind after : List Token} {x : Named} {place : ℕ} (g : HasName ts x behind) (h : HasAt (Mark s.Assign) behind place after) where
  pub local_read : {room' : Room} {rest : List Token} {e : Expression} → ParsesUpTo depth room s.Semicolon after e room' rest →
      ParsesLocal depth room ts (tree.Let x e) room' rest
  local_read {e = e} r = record {
    values = Lexed g.token ∷ Lexed h.token ∷ v.Expr (line_of after) e ∷ Lexed r.end ∷ [];
    parses = then_reads (then_reads (name_reads g) (take_reads h)) r.parses;
    is = λ w i. v.OneStatement (tree.Let (named_is g i) e);
  }

  pub local_fails : {e : Stop} → Stops depth room (expr ∷ sign s.Semicolon ∷ []) after e → Stops depth room local_items ts e
  local_fails r = then_fails (then_reads (name_reads g) (take_reads h)) r

-- no other part than an element is after a name where no `=` is in front
no_assign : (ts : List Token) → IsNotFront (Mark s.Assign) ts → NoOther p.AfterName p.Element ts
no_assign ts none t rest shape never =
    is_predictive_language.starts_is p.AfterName (terminal t.kind)
    ∙ rw (other_kind language (Mark s.Assign) (terminal t.kind) (subst (IsNotFront (Mark s.Assign)) shape none), never) refl

never_element : (y : Terminal) → y ≢ Mark s.OpenBracket → starts language p.Element y ≡ false
never_element y h = is_predictive_language.starts_is p.Element y ∙ rw (other_kind language (Mark s.OpenBracket) y h) refl

-- an assignment to an element
module _ {depth : ℕ} {room : Room} {ts : List Token} (none : IsNotFront (Mark s.Assign) ts) where
  put_fails : {e : Stop} → Stops depth room (Part p.Element ∷ sign s.Assign ∷ expr ∷ sign s.Semicolon ∷ []) ts e → Stops depth room (Part p.AfterName ∷ []) ts e
  put_fails r = other_fails _ (later first) refl refl refl refl (no_assign ts none) r

  element_stops : {e : Stop} → Stops depth room (Part p.Element ∷ []) ts e → Stops depth room (Part p.AfterName ∷ []) ts e
  element_stops r = put_fails (front_fails (sign s.Assign ∷ expr ∷ sign s.Semicolon ∷ []) r)

  pub put_missing : {e : Stop} → Misses (Mark s.OpenBracket) ts e → Stops depth room (Part p.AfterName ∷ []) ts e
  put_missing h = element_stops (part_misses p.Element (Mark s.OpenBracket) ts refl never_element h)

  module _ {place : ℕ} {behind : List Token} (h : HasAt (Mark s.OpenBracket) ts place behind) where
    module _ {inner : ℕ} (less : depth ≡ suc inner) where
      pub put_index_fails : {e : Stop} → Stops inner room (expr ∷ sign s.CloseBracket ∷ []) behind e → Stops depth room (Part p.AfterName ∷ []) ts e
      put_index_fails r = element_stops (open_fails less _ first refl refl h.front.shape h.front.is (λ c has. has) r)

      module _ {between : Room} {end : List Token} {index : Expression} (r : ParsesUpTo inner room s.CloseBracket behind index between end) where
        element_parses : Parses depth room (Part p.Element ∷ []) ts (v.Expr (line_of behind) index ∷ []) between end
        element_parses = open_reads less _ first refl refl h.front.shape h.front.is (λ c has. has) r.parses

        pub put_unassigned : {e : Stop} → Misses (Mark s.Assign) end e → Stops depth room (Part p.AfterName ∷ []) ts e
        put_unassigned q = put_fails (then_fails element_parses (front_fails (expr ∷ sign s.Semicolon ∷ []) (take_fails (Mark s.Assign) end q)))

        module _ {place' : ℕ} {after : List Token} (g : HasAt (Mark s.Assign) end place' after) where
          pub put_value_fails : {e : Stop} → Stops depth between (expr ∷ sign s.Semicolon ∷ []) after e → Stops depth room (Part p.AfterName ∷ []) ts e
          put_value_fails q = put_fails (then_fails (then_reads element_parses (take_reads g)) q)

          pub put_read : {x : Named} {room' : Room} {rest : List Token} {e : Expression} → ParsesUpTo depth between s.Semicolon after e room' rest →
              ParsesAfterName p.AfterName depth room x ts (tree.Put x index e) room' rest
          put_read {e = e} q = record {
            function = λ y. tree.Put y index e;
            parses = other_reads _ (later first) refl refl refl refl (no_assign ts none) (then_reads (then_reads element_parses (take_reads g)) q.parses);
            makes = refl;
          }

-- no other part than an expression is assigned where no call is
no_call : (ts : List Token) → IsNotFront (Word k.Call) ts → NoOther p.Assigned p.Expression ts
no_call ts none t rest shape never =
    is_predictive_language.starts_is p.Assigned (terminal t.kind)
    ∙ rw (other_kind language (Word k.Call) (terminal t.kind) (subst (IsNotFront (Word k.Call)) shape none), never) refl

-- what is assigned
module _ {depth : ℕ} {room : Room} {ts : List Token} where
  pub assigned_read : {x : Named} {room' : Room} {rest : List Token} {e : Expression} → IsNotFront (Word k.Call) ts → ParsesUpTo depth room s.Semicolon ts e room' rest →
      ParsesAfterName p.Assigned depth room x ts (tree.Assign x e) room' rest
  assigned_read {e = e} none r = record {
    function = λ y. tree.Assign y e;
    parses = other_reads _ first refl refl refl refl (no_call ts none) r.parses;
    makes = refl;
  }

  pub assigned_fails : {e : Stop} → IsNotFront (Word k.Call) ts → Stops depth room (expr ∷ sign s.Semicolon ∷ []) ts e → Stops depth room (Part p.Assigned ∷ []) ts e
  assigned_fails none r = other_fails _ first refl refl refl refl (no_call ts none) r

  module _ {behind : List Token} (h : HasFront (Word k.Call) ts behind) where
    pub assigned_call_fails : {e : Stop} → Stops depth room (Part p.Call ∷ []) behind e → Stops depth room (Part p.Assigned ∷ []) ts e
    assigned_call_fails r =
        row_fails _ (later first) refl refl h.front.shape h.front.is (λ c has. has) (front_fails (sign s.Semicolon ∷ []) r)

    module _ {between : Room} {end : List Token} {side : Side} (r : Parses depth room (Part p.Call ∷ []) behind (v.OneSide side ∷ []) between end) where
      pub assigned_call_unended : {e : Stop} → Misses (Mark s.Semicolon) end e → Stops depth room (Part p.Assigned ∷ []) ts e
      assigned_call_unended q =
          row_fails _ (later first) refl refl h.front.shape h.front.is (λ c has. has) (then_fails r (take_fails (Mark s.Semicolon) end q))

      pub assigned_call_read : {x : Named} {place : ℕ} {rest : List Token} → HasAt (Mark s.Semicolon) end place rest →
          ParsesAfterName p.Assigned depth room x ts (tree.Call (for_target side x)) between rest
      assigned_call_read q = record {
        function = λ y. tree.Call (for_target side y);
        parses = row_reads _ (later first) refl refl h.front.shape h.front.is (λ c has. has) (then_reads r (take_reads q));
        makes = refl;
      }

  -- after the name
  module _ {place : ℕ} {behind : List Token} (h : HasAt (Mark s.Assign) ts place behind) where
    pub after_assign : {x : Named} {y : Statement} {room' : Room} {rest : List Token} → ParsesAfterName p.Assigned depth room x behind y room' rest →
        ParsesAfterName p.AfterName depth room x ts y room' rest
    after_assign r = record {
      function = r.function;
      parses = row_reads _ first refl refl h.front.shape h.front.is (λ c has. has) r.parses;
      makes = r.makes;
    }

    pub after_assign_fails : {e : Stop} → Stops depth room (Part p.Assigned ∷ []) behind e → Stops depth room (Part p.AfterName ∷ []) ts e
    after_assign_fails r = row_fails _ first refl refl h.front.shape h.front.is (λ c has. has) r

-- a call
module _ {depth : ℕ} {room between : Room} {ts end : List Token} {side : Side} (r : Parses depth room (Part p.Call ∷ []) ts (v.OneSide side ∷ []) between end) where
  pub called_read : {place : ℕ} {rest : List Token} → HasAt (Mark s.Semicolon) end place rest → ParsesCall depth room ts (tree.Call side) between rest
  called_read q = record { values = v.OneSide side ∷ Lexed q.token ∷ []; parses = then_reads r (take_reads q); is = λ w. refl }

  pub called_unended : {e : Stop} → Misses (Mark s.Semicolon) end e → Stops depth room call_items ts e
  called_unended q = then_fails r (take_fails (Mark s.Semicolon) end q)

pub called_fails : {depth : ℕ} {room : Room} {ts : List Token} {e : Stop} → Stops depth room (Part p.Call ∷ []) ts e → Stops depth room call_items ts e
called_fails r = front_fails (sign s.Semicolon ∷ []) r

-- a fork
pub fork_fails : {depth : ℕ} {room : Room} {ts : List Token} {e : Stop} → Stops depth room (Part p.Side ∷ []) ts e → Stops depth room fork_items ts e
fork_fails r = front_fails (word k.And ∷ Part p.Side ∷ sign s.Semicolon ∷ []) r

module _ {depth : ℕ} {room between : Room} {ts end : List Token} {side : Side} (r : Parses depth room (Part p.Side ∷ []) ts (v.OneSide side ∷ []) between end) where
  pub fork_unjoined : {e : Stop} → Misses (Word k.And) end e → Stops depth room fork_items ts e
  fork_unjoined q = then_fails r (front_fails (Part p.Side ∷ sign s.Semicolon ∷ []) (take_fails (Word k.And) end q))

  module _ {behind : List Token} (h : HasFront (Word k.And) end behind) where
    pub fork_right_fails : {e : Stop} → Stops depth between (Part p.Side ∷ []) behind e → Stops depth room fork_items ts e
    fork_right_fails q = then_fails (then_reads r (word_reads h)) (front_fails (sign s.Semicolon ∷ []) q)

    module _ {last : Room} {end' : List Token} {other : Side} (q : Parses depth between (Part p.Side ∷ []) behind (v.OneSide other ∷ []) last end') where
      pub fork_unended : {e : Stop} → Misses (Mark s.Semicolon) end' e → Stops depth room fork_items ts e
      fork_unended u = then_fails (then_reads (then_reads r (word_reads h)) q) (take_fails (Mark s.Semicolon) end' u)

      pub fork_read : {place : ℕ} {rest : List Token} → HasAt (Mark s.Semicolon) end' place rest → ParsesFork depth room ts (tree.Fork side other) last rest
      fork_read u = record {
        values = v.OneSide side ∷ Lexed h.token ∷ v.OneSide other ∷ Lexed u.token ∷ [];
        parses = then_reads (then_reads (then_reads r (word_reads h)) q) (take_reads u);
        is = λ w. refl;
      }

-- no other block follows
no_else : (t : Token) → terminal t.kind ≢ Word k.Else → starts language p.Else (terminal t.kind) ≡ false
no_else t h = is_predictive_language.starts_is p.Else (terminal t.kind) ∙ rw (other_kind language (Word k.Else) (terminal t.kind) h) refl

-- a test and blocks
pub test_fails : {depth : ℕ} {room : Room} {ts : List Token} {e : Stop} (ys : Items) → Stops depth room (Part p.Expression ∷ []) ts e → Stops depth room (expr ∷ ys) ts e
test_fails ys r = front_fails ys r

module _ {depth : ℕ} {room between : Room} {ts behind : List Token} {test : Expression} (g : ParsesExpression depth room p.Expression ts test between behind) where
  pub choice_block_fails : {e : Stop} → Stops depth between (Part p.Block ∷ []) behind e → Stops depth room choice_items ts e
  choice_block_fails r = then_fails g (front_fails (Part p.Else ∷ []) r)

  pub loop_fails : {e : Stop} → Stops depth between (Part p.Block ∷ []) behind e → Stops depth room loop_items ts e
  loop_fails r = then_fails g r

  module _ {last : Room} {end : List Token} {b : Block} (r : Parses depth between (Part p.Block ∷ []) behind (v.Statements b ∷ []) last end) where
    pub loop_read : ParsesLoop depth room ts (tree.While test b) last end
    loop_read = record { values = v.Expr (line_of ts) test ∷ v.Statements b ∷ []; parses = then_reads g r; is = λ w. refl }

    pub choice_alone : IsNotFront (Word k.Else) end → ParsesChoice depth room ts (tree.If test b Nil) last end
    choice_alone none = record {
      values = v.Expr (line_of ts) test ∷ v.Statements b ∷ v.Statements Nil ∷ [];
      parses = then_reads (then_reads g r) (past_reads _ first refl (λ t rest shape. no_else t (subst (IsNotFront (Word k.Else)) shape none)));
      is = λ w. refl;
    }

    module _ {after : List Token} (h : HasFront (Word k.Else) end after) where
      pub choice_else_fails : {e : Stop} → Stops depth last (Part p.Block ∷ []) after e → Stops depth room choice_items ts e
      choice_else_fails q = then_fails (then_reads g r) (row_fails _ (later first) refl refl h.front.shape h.front.is (λ c has. has) q)

      pub choice_read : {room' : Room} {rest : List Token} {other : Block} → Parses depth last (Part p.Block ∷ []) after (v.Statements other ∷ []) room' rest →
          ParsesChoice depth room ts (tree.If test b other) room' rest
      choice_read {other = other} q = record {
        values = v.Expr (line_of ts) test ∷ v.Statements b ∷ v.Statements other ∷ [];
        parses = then_reads (then_reads g r) (row_reads _ (later first) refl refl h.front.shape h.front.is (λ c has. has) q);
        is = λ w. refl;
      }

-- a split
module _ {depth : ℕ} {room : Room} {ts ts1 ts2 : List Token} {region : Named} (g : HasName ts region ts1) (h : HasFront (Word k.At) ts1 ts2) where
  split_front : Parses depth room (name ∷ word k.At ∷ []) ts (Lexed g.token ∷ Lexed h.token ∷ []) room ts2
  split_front = then_reads (name_reads g) (word_reads h)

  pub split_size_fails : {e : Stop} → Stops depth room (Part p.Expression ∷ []) ts2 e → Stops depth room split_items ts e
  split_size_fails r = then_fails split_front (front_fails (word k.Into ∷ name ∷ sign s.Comma ∷ name ∷ Part p.Block ∷ []) r)

  module _ {between : Room} {ts3 : List Token} {size : Expression} (r : ParsesExpression depth room p.Expression ts2 size between ts3) where
    pub split_into_missing : {e : Stop} → Misses (Word k.Into) ts3 e → Stops depth room split_items ts e
    split_into_missing q = then_fails (then_reads split_front r) (front_fails (name ∷ sign s.Comma ∷ name ∷ Part p.Block ∷ []) (take_fails (Word k.Into) ts3 q))

    module _ {ts4 : List Token} (i : HasFront (Word k.Into) ts3 ts4) where
      pub split_first_missing : {e : Stop} → MissesName ts4 e → Stops depth room split_items ts e
      split_first_missing q =
          then_fails (then_reads (then_reads split_front r) (word_reads i)) (front_fails (sign s.Comma ∷ name ∷ Part p.Block ∷ []) (name_fails ts4 q))

      module _ {ts5 : List Token} {x : Named} (a : HasName ts4 x ts5) where
        pub split_comma_missing : {e : Stop} → Misses (Mark s.Comma) ts5 e → Stops depth room split_items ts e
        split_comma_missing q =
            then_fails (then_reads (then_reads (then_reads split_front r) (word_reads i)) (name_reads a))
            (front_fails (name ∷ Part p.Block ∷ []) (take_fails (Mark s.Comma) ts5 q))

        module _ {place : ℕ} {ts6 : List Token} (m : HasAt (Mark s.Comma) ts5 place ts6) where
          pub split_second_missing : {e : Stop} → MissesName ts6 e → Stops depth room split_items ts e
          split_second_missing q =
              then_fails (then_reads (then_reads (then_reads (then_reads split_front r) (word_reads i)) (name_reads a)) (take_reads m))
              (front_fails (Part p.Block ∷ []) (name_fails ts6 q))

          module _ {ts7 : List Token} {y : Named} (b : HasName ts6 y ts7) where
            split_parts : Parses depth room (name ∷ word k.At ∷ expr ∷ word k.Into ∷ name ∷ sign s.Comma ∷ name ∷ []) ts
                (Lexed g.token ∷ Lexed h.token ∷ v.Expr (line_of ts2) size ∷ Lexed i.token ∷ Lexed a.token ∷ Lexed m.token ∷ Lexed b.token ∷ []) between ts7
            split_parts = then_reads (then_reads (then_reads (then_reads (then_reads split_front r) (word_reads i)) (name_reads a)) (take_reads m)) (name_reads b)

            pub split_fails : {e : Stop} → Stops depth between (Part p.Block ∷ []) ts7 e → Stops depth room split_items ts e
            split_fails q = then_fails split_parts q

            pub split_read : {line : ℕ} {room' : Room} {rest : List Token} {body : Block} →
                Parses depth between (Part p.Block ∷ []) ts7 (v.Statements body ∷ []) room' rest →
                ParsesSplit depth room line ts (tree.Split line region size x y body) room' rest
            split_read {body = body} q = record {
              values = Lexed g.token ∷ Lexed h.token ∷ v.Expr (line_of ts2) size ∷ Lexed i.token ∷ Lexed a.token ∷ Lexed m.token ∷ Lexed b.token
                  ∷ v.Statements body ∷ [];
              parses = then_reads split_parts q;
              is = λ t at i'. v.OneStatement (tree.Split (at i') (named_is g i') size (named_is a i') (named_is b i') body);
            }

-- what is missing of an each
pub each_part_missing : {depth place : ℕ} {room : Room} {ts ts1 ts2 : List Token} {i : Named} {e : Stop} → HasName ts i ts1 → HasAt (Mark s.Comma) ts1 place ts2 →
    MissesName ts2 e → Stops depth room each_items ts e
each_part_missing {ts2 = ts2} a m q =
    then_fails (then_reads (name_reads a) (take_reads m)) (front_fails (word k.In ∷ name ∷ Part p.Block ∷ []) (name_fails ts2 q))

module _ {depth place : ℕ} {room : Room} {ts ts1 ts2 ts3 : List Token} {i x : Named} (a : HasName ts i ts1) (m : HasAt (Mark s.Comma) ts1 place ts2)
    (b : HasName ts2 x ts3) where
  each_front : Parses depth room (name ∷ sign s.Comma ∷ name ∷ []) ts (Lexed a.token ∷ Lexed m.token ∷ Lexed b.token ∷ []) room ts3
  each_front = then_reads (then_reads (name_reads a) (take_reads m)) (name_reads b)

  pub each_in_missing : {e : Stop} → Misses (Word k.In) ts3 e → Stops depth room each_items ts e
  each_in_missing q = then_fails each_front (front_fails (name ∷ Part p.Block ∷ []) (take_fails (Word k.In) ts3 q))

  pub each_region_missing : {ts4 : List Token} {e : Stop} → HasFront (Word k.In) ts3 ts4 → MissesName ts4 e → Stops depth room each_items ts e
  each_region_missing {ts4 = ts4} h q = then_fails (then_reads each_front (word_reads h)) (front_fails (Part p.Block ∷ []) (name_fails ts4 q))

-- an each
module _ {depth place : ℕ} {room : Room} {ts ts1 ts2 ts3 ts4 ts5 : List Token} {i x region : Named} (a : HasName ts i ts1) (m : HasAt (Mark s.Comma) ts1 place ts2)
    (b : HasName ts2 x ts3) (h : HasFront (Word k.In) ts3 ts4) (g : HasName ts4 region ts5) where
  each_parts : Parses depth room (name ∷ sign s.Comma ∷ name ∷ word k.In ∷ name ∷ []) ts
      (Lexed a.token ∷ Lexed m.token ∷ Lexed b.token ∷ Lexed h.token ∷ Lexed g.token ∷ []) room ts5
  each_parts = then_reads (then_reads (then_reads (then_reads (name_reads a) (take_reads m)) (name_reads b)) (word_reads h)) (name_reads g)

  pub each_fails : {e : Stop} → Stops depth room (Part p.Block ∷ []) ts5 e → Stops depth room each_items ts e
  each_fails q = then_fails each_parts q

  pub each_read : {room' : Room} {rest : List Token} {body : Block} → Parses depth room (Part p.Block ∷ []) ts5 (v.Statements body ∷ []) room' rest →
      ParsesEach depth room ts (tree.Each i x region body) room' rest
  each_read {body = body} q = record {
    values = Lexed a.token ∷ Lexed m.token ∷ Lexed b.token ∷ Lexed h.token ∷ Lexed g.token ∷ v.Statements body ∷ [];
    parses = then_reads each_parts q;
    is = λ w j. v.OneStatement (tree.Each (named_is a j) (named_is b j) (named_is g j) body);
  }

-- blocks as the code holds them
pub choice_of : {depth : ℕ} {room room' : Room} {ts rest : List Token} (e : Expr) (a b : Vec Stmt Global) →
    ParsesChoice depth room ts (tree.If (expression_of e) (block_of a.items) (block_of b.items)) room' rest →
    ParsesChoice depth room ts (statement_of (stmt.If e a b)) room' rest
choice_of {depth = depth} {room = room} {room' = room'} {ts = ts} {rest = rest} e a b r =
    subst (λ q. ParsesChoice depth room ts q room' rest) (sym (rows_of.if_is e a b)) r

pub choice_of_one : {depth : ℕ} {room room' : Room} {ts rest : List Token} (e : Expr) (a b : Vec Stmt Global) → b.items ≡ [] →
    ParsesChoice depth room ts (tree.If (expression_of e) (block_of a.items) Nil) room' rest →
    ParsesChoice depth room ts (statement_of (stmt.If e a b)) room' rest
choice_of_one {depth = depth} {room = room} {room' = room'} {ts = ts} {rest = rest} e a b none r =
    choice_of e a b (subst (λ q. ParsesChoice depth room ts (tree.If (expression_of e) (block_of a.items) (block_of q)) room' rest) (sym none) r)

pub loop_of : {depth : ℕ} {room room' : Room} {ts rest : List Token} (e : Expr) (a : Vec Stmt Global) →
    ParsesLoop depth room ts (tree.While (expression_of e) (block_of a.items)) room' rest → ParsesLoop depth room ts (statement_of (stmt.While e a)) room' rest
loop_of {depth = depth} {room = room} {room' = room'} {ts = ts} {rest = rest} e a r =
    subst (λ q. ParsesLoop depth room ts q room' rest) (sym (rows_of.while_is e a)) r

pub split_of : {depth line : ℕ} {room room' : Room} {ts rest : List Token} (region : Named) (e : Expr) (x y : Named) (a : Vec Stmt Global) →
    ParsesSplit depth room line ts (tree.Split line region (expression_of e) x y (block_of a.items)) room' rest →
    ParsesSplit depth room line ts (statement_of (stmt.Split line region e x y a)) room' rest
split_of {depth = depth} {line = line} {room = room} {room' = room'} {ts = ts} {rest = rest} region e x y a r =
    subst (λ q. ParsesSplit depth room line ts q room' rest) (sym (rows_of.split_is line region e x y a)) r

pub each_of : {depth : ℕ} {room room' : Room} {ts rest : List Token} (i x region : Named) (a : Vec Stmt Global) →
    ParsesEach depth room ts (tree.Each i x region (block_of a.items)) room' rest → ParsesEach depth room ts (statement_of (stmt.Each i x region a)) room' rest
each_of {depth = depth} {room = room} {room' = room'} {ts = ts} {rest = rest} i x region a r =
    subst (λ q. ParsesEach depth room ts q room' rest) (sym (rows_of.each_is i x region a)) r

-- after the first token of a statement stand fewer
smaller : {depth inner : ℕ} {room inside room' : Room} {ys : Items} {ts behind rest : List Token} {t : Token} {vs : List Value} {y : Statement} →
    ts ≡ t ∷ behind → Parses inner inside ys behind vs room' rest → Parses depth room (Part p.Statement ∷ []) ts (v.OneStatement y ∷ []) room' rest →
    ParsesStatement depth room ts y room' rest
smaller shape r q = record { parses = q; smaller = let a = ap length shape in let b = r.shorter in omega (arith, a, b) }

-- what is after the first token of a statement makes it
module _ {depth : ℕ} {room inside : Room} {ts behind : List Token} {t : Token} (shape : ts ≡ t ∷ behind) where
  -- of one that counts as a statement alone
  module _ (anew : inside ≡ with_nodes node_limit room) where
    made : {x : Terminal} {ys : Items} {room' : Room} {rest : List Token} {y : Statement} (row : Form) → In row (rows p.Statement) → row.items ≡ Take x ∷ ys →
        row.opens ≡ false → row.counts ≡ AStatement ∷ [] → terminal t.kind ≡ x → ParsesTo depth inside ys behind (MakesBehind row.make (v.OneStatement y)) room' rest →
        ParsesStatement depth room ts y room' rest
    made row i items shut counts kind r =
        smaller shape r.parses (of_same (ap (λ q. q ∷ []) (r.is (Lexed t)))
        (row_reads row i items shut shape kind (λ c has. subst (λ q. Has inside (after_token limits q t behind c)) (sym counts) (after_statement room inside anew c has))
        r.parses))

    pub let_statement : {room' : Room} {rest : List Token} {y : Statement} → t.kind ≡ kind.Keyword k.Let → ParsesLocal depth inside behind y room' rest →
        ParsesStatement depth room ts y room' rest
    let_statement is r = made _ first refl refl refl (ap terminal is) r

    pub let_stops : {e : Stop} → t.kind ≡ kind.Keyword k.Let → Stops depth inside local_items behind e → Stops depth room (Part p.Statement ∷ []) ts e
    let_stops is r = row_fails _ first refl refl shape (ap terminal is) (after_statement room inside anew) r

    pub if_statement : {room' : Room} {rest : List Token} {y : Statement} → t.kind ≡ kind.Keyword k.If → ParsesChoice depth inside behind y room' rest →
        ParsesStatement depth room ts y room' rest
    if_statement is r = made _ (later (later first)) refl refl refl (ap terminal is) r

    pub if_stops : {e : Stop} → t.kind ≡ kind.Keyword k.If → Stops depth inside choice_items behind e → Stops depth room (Part p.Statement ∷ []) ts e
    if_stops is r = row_fails _ (later (later first)) refl refl shape (ap terminal is) (after_statement room inside anew) r

    pub while_statement : {room' : Room} {rest : List Token} {y : Statement} → t.kind ≡ kind.Keyword k.While → ParsesLoop depth inside behind y room' rest →
        ParsesStatement depth room ts y room' rest
    while_statement is r = made _ (later (later (later first))) refl refl refl (ap terminal is) r

    pub while_stops : {e : Stop} → t.kind ≡ kind.Keyword k.While → Stops depth inside loop_items behind e → Stops depth room (Part p.Statement ∷ []) ts e
    while_stops is r = row_fails _ (later (later (later first))) refl refl shape (ap terminal is) (after_statement room inside anew) r

    pub call_statement : {room' : Room} {rest : List Token} {y : Statement} → t.kind ≡ kind.Keyword k.Call → ParsesCall depth inside behind y room' rest →
        ParsesStatement depth room ts y room' rest
    call_statement is r = made _ (later (later (later (later first)))) refl refl refl (ap terminal is) r

    pub call_stops : {e : Stop} → t.kind ≡ kind.Keyword k.Call → Stops depth inside call_items behind e → Stops depth room (Part p.Statement ∷ []) ts e
    call_stops is r = row_fails _ (later (later (later (later first)))) refl refl shape (ap terminal is) (after_statement room inside anew) r

    pub fork_statement : {room' : Room} {rest : List Token} {y : Statement} → t.kind ≡ kind.Keyword k.Fork → ParsesFork depth inside behind y room' rest →
        ParsesStatement depth room ts y room' rest
    fork_statement is r = made _ (later (later (later (later (later first))))) refl refl refl (ap terminal is) r

    pub fork_stops : {e : Stop} → t.kind ≡ kind.Keyword k.Fork → Stops depth inside fork_items behind e → Stops depth room (Part p.Statement ∷ []) ts e
    fork_stops is r = row_fails _ (later (later (later (later (later first))))) refl refl shape (ap terminal is) (after_statement room inside anew) r

    pub split_statement : {room' : Room} {rest : List Token} {y : Statement} → t.kind ≡ kind.Keyword k.Split → ParsesSplit depth inside t.line behind y room' rest →
        ParsesStatement depth room ts y room' rest
    split_statement is r =
        smaller shape r.parses (of_same (ap (λ q. q ∷ []) (r.is t refl))
        (row_reads _ (later (later (later (later (later (later first)))))) refl refl shape (ap terminal is) (after_statement room inside anew) r.parses))

    pub split_stops : {e : Stop} → t.kind ≡ kind.Keyword k.Split → Stops depth inside split_items behind e → Stops depth room (Part p.Statement ∷ []) ts e
    split_stops is r =
        row_fails _ (later (later (later (later (later (later first)))))) refl refl shape (ap terminal is) (after_statement room inside anew) r

    pub named_statement : {room' : Room} {rest : List Token} {x : Named} {place : ℕ} {y : Statement} → IsNameAt t x place →
        ParsesAfterName p.AfterName depth inside x behind y room' rest → ParsesStatement depth room ts y room' rest
    named_statement {x = x} is r =
        smaller shape r.parses (of_same (ap (λ q. v.OneStatement q ∷ []) (ap r.function same ∙ r.makes))
        (row_reads _ (later first) refl refl shape (ap terminal is.is) (after_statement room inside anew) r.parses))
      where
        same : named t ≡ x
        same = λ i. record { name = ap name_of is.is i; line = is.line i }

    pub named_stops : {x : Named} {place : ℕ} {e : Stop} → IsNameAt t x place → Stops depth inside (Part p.AfterName ∷ []) behind e →
        Stops depth room (Part p.Statement ∷ []) ts e
    named_stops is r = row_fails _ (later first) refl refl shape (ap terminal is.is) (after_statement room inside anew) r

-- an each counts as a procedure too
after_each : (r between r' : Room) → between ≡ with_nodes node_limit r → (between.procedures ≡ suc r'.procedures) × (r' ≡ with_procedures r'.procedures between) →
    (c : Tally) → Has r c → Has r' (adds procedures 1 (with_count (Anew nodes) c))
after_each r between r' anew counts c has = go (after_statement r between anew c has)
  where
    go : Has between (with_count (Anew nodes) c) → Has r' (adds procedures 1 (with_count (Anew nodes) c))
    go (a, (w, (q, (e, (n, u))))) =
        let less = counts.0 in
        subst (λ z. Has z (adds procedures 1 (with_count (Anew nodes) c))) (sym counts.1) (a, (w, (omega (arith, q, less), (e, (n, tt)))))

module _ {depth : ℕ} {room between : Room} {ts behind : List Token} {t : Token} (shape : ts ≡ t ∷ behind) (is : t.kind ≡ kind.Keyword k.Each)
    (anew : between ≡ with_nodes node_limit room) where
  pub each_many : {e : Stop} → between.procedures ≡ 0 → e ≡ stop.TooMany t.place limit.Procedures → Stops depth room (Part p.Statement ∷ []) ts e
  each_many full told =
      row_many _ (later (later (later (later (later (later (later first))))))) refl refl shape (ap terminal is) (ap fault_of told)
      (λ c has. remains_full procedures procedure_limit 1 limits.most (left between) (with_count (Anew nodes) c) refl (after_statement room between anew c has)
      (omega (arith, full)))

  module _ {inside : Room} (counts : (between.procedures ≡ suc inside.procedures) × (inside ≡ with_procedures inside.procedures between)) where
    pub each_statement : {room' : Room} {rest : List Token} {y : Statement} → ParsesEach depth inside behind y room' rest →
        ParsesStatement depth room ts y room' rest
    each_statement r =
        smaller shape r.parses (of_same (ap (λ q. q ∷ []) (r.is (Lexed t)))
        (row_reads _ (later (later (later (later (later (later (later first))))))) refl refl shape (ap terminal is) (after_each room between inside anew counts)
        r.parses))

    pub each_stops : {e : Stop} → Stops depth inside each_items behind e → Stops depth room (Part p.Statement ∷ []) ts e
    each_stops r =
        row_fails _ (later (later (later (later (later (later (later first))))))) refl refl shape (ap terminal is) (after_each room between inside anew counts) r

-- statements in front of others
abbrev pub onto : List Stmt → Block → Block
onto [] b = b
onto (x ∷ xs) b = Then (statement_of x) (onto xs b)

onto_more : (xs : List Stmt) (x : Stmt) (b : Block) → onto (xs ++ x ∷ []) b ≡ onto xs (Then (statement_of x) b)
onto_more [] x b = refl
onto_more (y ∷ ys) x b = ap (Then (statement_of y)) (onto_more ys x b)

onto_none : (xs : List Stmt) → onto xs Nil ≡ block_of xs
onto_none [] = refl
onto_none (x ∷ xs) = ap (Then (statement_of x)) (onto_none xs)

-- from where the statements were to come these were read, and more may come
pub record Runs (depth : ℕ) (room : Room) (ts : List Token) (all : List Stmt) (room' : Room) (rest : List Token) : Type 0 where
  pub shorter : length rest ≤ length ts
  pub reads : (b : Block) (room'' : Room) (rest' : List Token) → Parses depth room' (Part p.Statements ∷ []) rest (v.Statements b ∷ []) room'' rest' →
      Parses depth room (Part p.Statements ∷ []) ts (v.Statements (onto all b) ∷ []) room'' rest'
  pub fails : (e : Stop) → Stops depth room' (Part p.Statements ∷ []) rest e → Stops depth room (Part p.Statements ∷ []) ts e

pub runs_start : (depth : ℕ) (room : Room) (ts : List Token) → Runs depth room ts [] room ts
runs_start depth room ts = record { shorter = omega arith; reads = λ b last rest r. r; fails = λ e r. r }

-- a token that begins a statement is in front
record Front (ts : List Token) : Type 0 where
  token : Token
  behind : List Token
  shape : ts ≡ token ∷ behind
  begins_it : starts language p.Statement (terminal token.kind) ≡ true

front_of : (ts : List Token) → starts_at p.Statement ts ≡ true → Front ts
front_of [] h = cc
front_of (t ∷ ts) h = record { token = t; behind = ts; shape = refl; begins_it = h }

-- none is
no_front : (ts : List Token) → starts_at p.Statement ts ≡ false → (t : Token) (rest : List Token) → ts ≡ t ∷ rest →
    starts language p.Statements (terminal t.kind) ≡ false
no_front ts h t rest shape =
    let never : starts language p.Statement (terminal t.kind) ≡ false = ap (starts_at p.Statement) (sym shape) ∙ h in
    is_predictive_language.starts_is p.Statements (terminal t.kind) ∙ rw never refl

module _ {depth : ℕ} {room room' : Room} {ts rest : List Token} {all : List Stmt} (g : Runs depth room ts all room' rest) where
  module _ (some : starts_at p.Statement rest ≡ true) where
    pub runs_step : {room'' : Room} {rest' : List Token} (x : Stmt) → ParsesStatement depth room' rest (statement_of x) room'' rest' →
        Runs depth room ts (all ++ x ∷ []) room'' rest'
    runs_step x r = record {
      shorter = let a = g.shorter in let b = r.smaller in omega (arith, a, b);
      reads = λ b last end q.
          of_same (ap (λ z. v.Statements z ∷ []) (sym (onto_more all x b)))
          (g.reads (Then (statement_of x) b) last end
          (corner_reads _ (later first) refl (front_of rest some).shape (front_of rest some).begins_it (λ c has. has) (then_reads r.parses q)));
      fails = λ e q. g.fails e (corner_fails _ (later first) refl (front_of rest some).shape (front_of rest some).begins_it (λ c has. has) (then_fails r.parses q));
    }

    pub runs_fail : {e : Stop} → Stops depth room' (Part p.Statement ∷ []) rest e → Stops depth room (Part p.Statements ∷ []) ts e
    runs_fail {e = e} r =
        g.fails e (corner_fails _ (later first) refl (front_of rest some).shape (front_of rest some).begins_it (λ c has. has)
        (front_fails (Part p.Statements ∷ []) r))

  pub runs_end : starts_at p.Statement rest ≡ false → Parses depth room (Part p.Statements ∷ []) ts (v.Statements (block_of all) ∷ []) room' rest
  runs_end none =
      of_same (ap (λ z. v.Statements z ∷ []) (onto_none all)) (g.reads Nil room' rest (past_reads _ first refl (no_front rest none)))

-- a block
module _ {depth inner place : ℕ} {room : Room} {ts behind : List Token} (h : HasAt (Mark s.OpenBrace) ts place behind) (less : depth ≡ suc inner) where
  pub block_fails : {e : Stop} → Stops inner room (Part p.Statements ∷ []) behind e → Stops depth room (Part p.Block ∷ []) ts e
  block_fails r = open_fails less _ first refl refl h.front.shape h.front.is (λ c has. has) (front_fails (sign s.CloseBrace ∷ []) r)

  pub body_stops : {e : Stop} → Stops inner room (Part p.Statements ∷ []) behind e → Stops depth room (Part p.Body ∷ []) ts e
  body_stops r = open_fails less _ first refl refl h.front.shape h.front.is (λ c has. has) (front_fails (Part p.Give ∷ sign s.CloseBrace ∷ []) r)

  module _ {room' : Room} {end : List Token} {b : Block} (r : Parses inner room (Part p.Statements ∷ []) behind (v.Statements b ∷ []) room' end) where
    pub block_unclosed : {e : Stop} → Misses (Mark s.CloseBrace) end e → Stops depth room (Part p.Block ∷ []) ts e
    block_unclosed q = open_fails less _ first refl refl h.front.shape h.front.is (λ c has. has) (then_fails r (take_fails (Mark s.CloseBrace) end q))

    pub block_read : {place' : ℕ} {rest : List Token} → HasAt (Mark s.CloseBrace) end place' rest →
        Parses depth room (Part p.Block ∷ []) ts (v.Statements b ∷ []) room' rest
    block_read q = open_reads less _ first refl refl h.front.shape h.front.is (λ c has. has) (then_reads r (take_reads q))

    pub body_give_stops : {e : Stop} → Stops inner room' (Part p.Give ∷ []) end e → Stops depth room (Part p.Body ∷ []) ts e
    body_give_stops q =
        open_fails less _ first refl refl h.front.shape h.front.is (λ c has. has) (then_fails r (front_fails (sign s.CloseBrace ∷ []) q))

    module _ {last : Room} {end' : List Token} {give : Option Give} (q : Parses inner room' (Part p.Give ∷ []) end (v.Gives give ∷ []) last end') where
      pub body_unclosed : {e : Stop} → Misses (Mark s.CloseBrace) end' e → Stops depth room (Part p.Body ∷ []) ts e
      body_unclosed u =
          open_fails less _ first refl refl h.front.shape h.front.is (λ c has. has) (then_fails (then_reads r q) (take_fails (Mark s.CloseBrace) end' u))

      pub body_read : {place' : ℕ} {rest : List Token} → HasAt (Mark s.CloseBrace) end' place' rest →
          Parses depth room (Part p.Body ∷ []) ts (v.Body b give ∷ []) last rest
      body_read u = open_reads less _ first refl refl h.front.shape h.front.is (λ c has. has) (then_reads (then_reads r q) (take_reads u))

-- what a body gives
never_give : (t : Token) → terminal t.kind ≢ Word k.Give → starts language p.Give (terminal t.kind) ≡ false
never_give t h = is_predictive_language.starts_is p.Give (terminal t.kind) ∙ rw (other_kind language (Word k.Give) (terminal t.kind) h) refl

pub gives_nothing : {depth : ℕ} {room : Room} {ts : List Token} → IsNotFront (Word k.Give) ts → Parses depth room (Part p.Give ∷ []) ts (v.Gives None ∷ []) room ts
gives_nothing none = past_reads _ first refl (λ t rest shape. never_give t (subst (IsNotFront (Word k.Give)) shape none))

module _ {depth line : ℕ} {room inside : Room} {ts behind : List Token} (h : HasGive ts line behind) (anew : inside ≡ with_nodes node_limit room) where
  pub give_read : {room' : Room} {rest : List Token} {e : Expression} → ParsesUpTo depth inside s.Semicolon behind e room' rest →
      Parses depth room (Part p.Give ∷ []) ts (v.Gives (Some (record { line = line; value = e })) ∷ []) room' rest
  give_read {e = e} r =
      of_same (ap (λ q. v.Gives (Some (record { line = q; value = e })) ∷ []) h.in_line)
      (row_reads _ (later first) refl refl h.shape (ap terminal h.is) (after_statement room inside anew) r.parses)

  pub give_fails : {e : Stop} → Stops depth inside (expr ∷ sign s.Semicolon ∷ []) behind e → Stops depth room (Part p.Give ∷ []) ts e
  give_fails r = row_fails _ (later first) refl refl h.shape (ap terminal h.is) (after_statement room inside anew) r
