-- The chains at the language: tokens, counts and rows in the words of the parser's clauses.
use Rattle.std.proofs.Common.{◌≡◌, ℕ, suc, true, false, List, [], ◌∷◌, ◌++◌, refl, sym, ap, subst, arith, inl, inr}
use Rattle.std.specs.Prelude.{Some, None}
use Rattle.ppm_grammar.specs.Rows.{In, Take, Part}
use Rattle.ppm_grammar.specs.Limits.{Tally, passed, adds, with_count, Anew, after_token}
use Rattle.ppm_grammar.specs.Predictive.{can_start, starts, may_be_empty}
use Rattle.ppm_grammar.specs.Faults as of
use Rattle.ppm_grammar.specs.Reading.{FailsState}
use Rattle.ppm_grammar.proofs.TallyLemmas.{remains_free, remains_full}
use Rattle.ppm_grammar.proofs.StatesLemmas as states
use Rattle.ppm_text.specs.declared.token.Token.{Token}
use Rattle.ppm_tree.specs.Limits.{parameter_limit, node_limit}
use Rattle.ppm_tree.specs.declared.named.Named.{Named}
use Rattle.ppm_rows.specs.Kinds.{Terminal, Name, terminal}
use Rattle.ppm_rows.specs.Values.{Value, Lexed, name_of, named}
use Rattle.ppm_rows.specs.Phrases.{Phrase}
use Rattle.ppm_rows.specs.Language.{Form, language, rows}
use Rattle.ppm_rows.specs.Follow.{may_follow}
use Rattle.ppm_rows.specs.Limits.{limits, nodes, elements}
use Rattle.ppm_rows.proofs.OneAnswer.{is_predictive_language}
use Rattle.ppm_parser.specs.declared.room.Room.{Room}
use Rattle.ppm_parser.specs.declared.stop.Stop.{Stop}
use Rattle.ppm_parser.specs.declared.stop.Stop.TheVariants as stop
use Rattle.ppm_parser.specs.Faults.{fault_of}
use Rattle.ppm_parser.specs.Room.{left, Has, with_elements, with_nodes}
use Rattle.ppm_parser.specs.Fronts.{InFront, HasFront, HasAt, HasName, Misses, MissesName}
use Rattle.ppm_parser.specs.Parsing.{Items, Parses, Stops}
use Rattle.ppm_parser.proofs.Chains as chains

-- where some may still come, no limit is passed
pub free : (r : Room) (c : Tally) → Has r c → passed limits.most c ≡ None
free r c h = remains_free limits.most (left r) c h

-- where the token in front cannot begin the one part, it cannot begin the other
abbrev pub NoOther : Phrase → Phrase → List Token → Type 0
NoOther n m ts =
    (t : Token) (rest : List Token) → ts ≡ t ∷ rest → starts language m (terminal t.kind) ≡ false → starts language n (terminal t.kind) ≡ false

module _ {depth : ℕ} where
  -- one list of items after another
  pub then_reads : {room between room' : Room} {xs ys : Items} {ts mid rest : List Token} {us vs : List Value} →
      Parses depth room xs ts us between mid → Parses depth between ys mid vs room' rest → Parses depth room (xs ++ ys) ts (us ++ vs) room' rest
  then_reads a b = chains.then_reads language limits Has free a b

  pub then_fails : {room between : Room} {xs ys : Items} {ts mid : List Token} {us : List Value} {e : Stop} → Parses depth room xs ts us between mid →
      Stops depth between ys mid e → Stops depth room (xs ++ ys) ts e
  then_fails a b = record { fails = chains.then_fails language limits Has free a b.fails }

  pub front_fails : {room : Room} {xs : Items} {ts : List Token} {e : Stop} (ys : Items) → Stops depth room xs ts e → Stops depth room (xs ++ ys) ts e
  front_fails ys a = record { fails = chains.front_fails language limits Has free ys a.fails }

  -- nothing more
  pub read : {room : Room} {ts : List Token} → Parses depth room [] ts [] room ts
  read = states.read language limits Has free

  -- nothing is said where memory was refused
  pub refused : {room : Room} {xs : Items} {ts : List Token} {e : Stop} → e ≡ stop.NoMemory → Stops depth room xs ts e
  refused {room = room} {xs = xs} {ts = ts} h = subst (λ q. Stops depth room xs ts q) (sym h) (record { fails = chains.none_fails language limits Has free })

  -- what is read as some values is read as equal ones
  pub of_same : {room room' : Room} {xs : Items} {ts rest : List Token} {vs ws : List Value} → vs ≡ ws → Parses depth room xs ts vs room' rest →
      Parses depth room xs ts ws room' rest
  of_same {room = room} {room' = room'} {xs = xs} {ts = ts} {rest = rest} h a = subst (λ q. Parses depth room xs ts q room' rest) h a

  -- a token of the kind
  pub front_reads : {room : Room} {x : Terminal} {t : Token} {ts rest : List Token} → InFront x ts t rest →
      Parses depth room (Take x ∷ []) ts (Lexed t ∷ []) room rest
  front_reads h = states.reads language limits Has free (states.a_token language limits Has free h.shape h.is) read

  pub take_reads : {room : Room} {x : Terminal} {place : ℕ} {ts rest : List Token} (h : HasAt x ts place rest) →
      Parses depth room (Take x ∷ []) ts (Lexed h.token ∷ []) room rest
  take_reads h = front_reads h.front

  pub word_reads : {room : Room} {x : Terminal} {ts rest : List Token} (h : HasFront x ts rest) →
      Parses depth room (Take x ∷ []) ts (Lexed h.token ∷ []) room rest
  word_reads h = front_reads h.front

  pub name_reads : {room : Room} {x : Named} {ts rest : List Token} (h : HasName ts x rest) →
      Parses depth room (Take Name ∷ []) ts (Lexed h.token ∷ []) room rest
  name_reads h = front_reads (record { shape = h.shape; is = ap terminal h.is })

  -- no token of the kind
  pub take_fails : {room : Room} (x : Terminal) (ts : List Token) {e : Stop} → Misses x ts e → Stops depth room (Take x ∷ []) ts e
  take_fails {room = room} x [] h =
      subst (λ q. Stops depth room (Take x ∷ []) [] q) (sym h) (record { fails = states.token_ended language limits Has free refl })
  take_fails {room = room} x (t ∷ ts) h =
      subst (λ q. Stops depth room (Take x ∷ []) (t ∷ ts) q) (sym h.0) (record { fails = states.token_unexpected language limits Has free refl h.1 })

  pub name_fails : {room : Room} (ts : List Token) {e : Stop} → MissesName ts e → Stops depth room (Take Name ∷ []) ts e
  name_fails ts (inl h) = refused h
  name_fails ts (inr h) = take_fails Name ts h

  -- a row that begins with a token and opens nothing
  pub row_reads : {room between room' : Room} {n : Phrase} {x : Terminal} {t : Token} {ys : Items} {ts behind rest : List Token} {vs : List Value} (row : Form) →
      In row (rows n) → row.items ≡ Take x ∷ ys → row.opens ≡ false → ts ≡ t ∷ behind → terminal t.kind ≡ x →
      ((c : Tally) → Has room c → Has between (after_token limits row.counts t behind c)) → Parses depth between ys behind vs room' rest →
      Parses depth room (Part n ∷ []) ts (row.make (Lexed t ∷ vs) ∷ []) room' rest
  row_reads row i items shut is kind after b =
      chains.row_reads language limits Has free may_follow is_predictive_language row i items shut is kind after b

  pub row_fails : {room between : Room} {n : Phrase} {x : Terminal} {t : Token} {ys : Items} {ts behind : List Token} {e : Stop} (row : Form) →
      In row (rows n) → row.items ≡ Take x ∷ ys → row.opens ≡ false → ts ≡ t ∷ behind → terminal t.kind ≡ x →
      ((c : Tally) → Has room c → Has between (after_token limits row.counts t behind c)) → Stops depth between ys behind e →
      Stops depth room (Part n ∷ []) ts e
  row_fails row i items shut is kind after b =
      record { fails = chains.row_fails language limits Has free may_follow is_predictive_language row i items shut is kind after b.fails }

  -- or passes a limit there
  pub row_many : {room : Room} {which : ℕ} {n : Phrase} {x : Terminal} {t : Token} {ys : Items} {ts behind : List Token} {e : Stop} (row : Form) →
      In row (rows n) → row.items ≡ Take x ∷ ys → row.opens ≡ false → ts ≡ t ∷ behind → terminal t.kind ≡ x →
      fault_of e ≡ Some (of.TooMany t.place which) →
      ((c : Tally) → Has room c → passed limits.most (after_token limits row.counts t behind c) ≡ Some which) → Stops depth room (Part n ∷ []) ts e
  row_many {room = room} {n = n} {ts = ts} row i items shut is kind told many =
      record {
        fails = subst (λ q. FailsState language limits Has depth room (Part n ∷ []) ts q) (sym told)
            (states.too_many language limits Has free may_follow is_predictive_language row i items shut is kind many);
      }

  -- a row that opens nothing, where a token is in front that can begin it
  pub corner_reads : {room between room' : Room} {n : Phrase} {t : Token} {ts behind rest : List Token} {vs : List Value} (row : Form) → In row (rows n) →
      row.opens ≡ false → ts ≡ t ∷ behind → can_start language (starts language) row.items (terminal t.kind) ≡ true →
      ((c : Tally) → Has room c → Has between (after_token limits row.counts t behind c)) → Parses depth between row.items ts vs room' rest →
      Parses depth room (Part n ∷ []) ts (row.make vs ∷ []) room' rest
  corner_reads row i shut is can after b =
      chains.corner_reads language limits Has free may_follow is_predictive_language row i shut is can after b

  pub corner_fails : {room between : Room} {n : Phrase} {t : Token} {ts behind : List Token} {e : Stop} (row : Form) → In row (rows n) →
      row.opens ≡ false → ts ≡ t ∷ behind → can_start language (starts language) row.items (terminal t.kind) ≡ true →
      ((c : Tally) → Has room c → Has between (after_token limits row.counts t behind c)) → Stops depth between row.items ts e →
      Stops depth room (Part n ∷ []) ts e
  corner_fails row i shut is can after b =
      record { fails = chains.corner_fails language limits Has free may_follow is_predictive_language row i shut is can after b.fails }

  -- the only row of a part, which begins with a part
  pub only_reads : {room room' : Room} {n m : Phrase} {ys : Items} {ts rest : List Token} {vs : List Value} (row : Form) → rows n ≡ row ∷ [] →
      row.counts ≡ [] → row.items ≡ Part m ∷ ys → row.opens ≡ false → Parses depth room row.items ts vs room' rest →
      Parses depth room (Part n ∷ []) ts (row.make vs ∷ []) room' rest
  only_reads row one counts items shut b =
      chains.only_reads language limits Has free may_follow is_predictive_language row one counts items shut b

  pub only_fails : {room : Room} {n m : Phrase} {ys : Items} {ts : List Token} {e : Stop} (row : Form) → rows n ≡ row ∷ [] → row.counts ≡ [] →
      row.items ≡ Part m ∷ ys → row.opens ≡ false → Stops depth room row.items ts e → Stops depth room (Part n ∷ []) ts e
  only_fails row one counts items shut b =
      record { fails = chains.only_fails language limits Has free may_follow is_predictive_language row one counts items shut b.fails }

  -- a row that begins with a part, where no other row can begin with the token in front
  pub other_reads : {room room' : Room} {n m : Phrase} {ys : Items} {ts rest : List Token} {vs : List Value} (row : Form) → In row (rows n) →
      may_be_empty language n ≡ false → row.counts ≡ [] → row.items ≡ Part m ∷ ys → row.opens ≡ false → NoOther n m ts →
      Parses depth room row.items ts vs room' rest → Parses depth room (Part n ∷ []) ts (row.make vs ∷ []) room' rest
  other_reads row i full counts items shut other b =
      chains.other_reads language limits Has free may_follow is_predictive_language row i full counts items shut other b

  pub other_fails : {room : Room} {n m : Phrase} {ys : Items} {ts : List Token} {e : Stop} (row : Form) → In row (rows n) →
      may_be_empty language n ≡ false → row.counts ≡ [] → row.items ≡ Part m ∷ ys → row.opens ≡ false → NoOther n m ts →
      Stops depth room row.items ts e → Stops depth room (Part n ∷ []) ts e
  other_fails row i full counts items shut other b =
      record { fails = chains.other_fails language limits Has free may_follow is_predictive_language row i full counts items shut other b.fails }

  -- a part that is empty
  pub past_reads : {room : Room} {n : Phrase} {ts : List Token} (row : Form) → In row (rows n) → row.items ≡ [] →
      ((t : Token) (rest : List Token) → ts ≡ t ∷ rest → starts language n (terminal t.kind) ≡ false) →
      Parses depth room (Part n ∷ []) ts (row.make [] ∷ []) room ts
  past_reads row i items none = chains.past_reads language limits Has free may_follow is_predictive_language row i items none

  -- no token that can begin the part
  pub part_ended : {room : Room} {n : Phrase} {ts : List Token} {e : Stop} → may_be_empty language n ≡ false → ts ≡ [] → e ≡ stop.Ended →
      Stops depth room (Part n ∷ []) ts e
  part_ended {room = room} {n = n} {ts = ts} full is h = subst (λ q. Stops depth room (Part n ∷ []) ts q) (sym h)
      (record { fails = states.ended language limits Has free may_follow is_predictive_language full is })

  pub part_unexpected : {room : Room} {n : Phrase} {t : Token} {ts rest : List Token} {e : Stop} → may_be_empty language n ≡ false → ts ≡ t ∷ rest →
      starts language n (terminal t.kind) ≡ false → e ≡ stop.Expected t.place → Stops depth room (Part n ∷ []) ts e
  part_unexpected {room = room} {n = n} {ts = ts} full is none h = subst (λ q. Stops depth room (Part n ∷ []) ts q) (sym h)
      (record { fails = states.unexpected language limits Has free may_follow is_predictive_language full is none })

-- a row that begins with a token and opens: after the token, one opening fewer is left
module _ {depth inner : ℕ} (less : depth ≡ suc inner) where
  pub open_reads : {room between room' : Room} {n : Phrase} {x : Terminal} {t : Token} {ys : Items} {ts behind rest : List Token} {vs : List Value} (row : Form) →
      In row (rows n) → row.items ≡ Take x ∷ ys → row.opens ≡ true → ts ≡ t ∷ behind → terminal t.kind ≡ x →
      ((c : Tally) → Has room c → Has between (after_token limits row.counts t behind c)) → Parses inner between ys behind vs room' rest →
      Parses depth room (Part n ∷ []) ts (row.make (Lexed t ∷ vs) ∷ []) room' rest
  open_reads row i items opens is kind after b =
      chains.open_reads language limits Has free less may_follow is_predictive_language row i items opens is kind after b

  pub open_fails : {room between : Room} {n : Phrase} {x : Terminal} {t : Token} {ys : Items} {ts behind : List Token} {e : Stop} (row : Form) →
      In row (rows n) → row.items ≡ Take x ∷ ys → row.opens ≡ true → ts ≡ t ∷ behind → terminal t.kind ≡ x →
      ((c : Tally) → Has room c → Has between (after_token limits row.counts t behind c)) → Stops inner between ys behind e →
      Stops depth room (Part n ∷ []) ts e
  open_fails row i items opens is kind after b =
      record { fails = chains.open_fails language limits Has free less may_follow is_predictive_language row i items opens is kind after b.fails }

-- where no opening is left
pub too_deep : {depth : ℕ} {room : Room} {n : Phrase} {x : Terminal} {t : Token} {ys : Items} {ts behind : List Token} {e : Stop} (row : Form) → depth ≡ 0 →
    In row (rows n) → row.items ≡ Take x ∷ ys → row.opens ≡ true → ts ≡ t ∷ behind → terminal t.kind ≡ x → fault_of e ≡ Some (of.TooDeep t.place) →
    Stops depth room (Part n ∷ []) ts e
too_deep {room = room} {n = n} {ts = ts} {e = e} row none i items opens is kind told =
    subst (λ q. Stops q room (Part n ∷ []) ts e) (sym none)
    (record {
      fails = subst (λ q. FailsState language limits Has 0 room (Part n ∷ []) ts q) (sym told)
          (states.too_deep language limits Has free may_follow is_predictive_language row i items opens is kind);
    })

-- the name that a token is
pub named_is : {ts rest : List Token} {x : Named} (h : HasName ts x rest) → named h.token ≡ x
named_is h = λ i. record { name = ap name_of h.is i; line = h.line i }

-- the rooms after what was counted
pub after_node : (r r' : Room) → r.nodes ≡ suc r'.nodes → r' ≡ with_nodes r'.nodes r → (c : Tally) → Has r c → Has r' (adds nodes 1 c)
after_node r r' less is c (a, (w, (p, (e, (n, u))))) =
    subst (λ q. Has q (adds nodes 1 c)) (sym is) (a, (w, (p, (e, (omega (arith, n, less), tt)))))

pub after_element : (r r' : Room) → r.elements ≡ suc r'.elements → r' ≡ with_elements r'.elements r → (c : Tally) → Has r c → Has r' (adds elements 1 c)
after_element r r' less is c (a, (w, (p, (e, (n, u))))) =
    subst (λ q. Has q (adds elements 1 c)) (sym is) (a, (w, (p, (omega (arith, e, less), (n, tt)))))

pub after_statement : (r r' : Room) → r' ≡ with_nodes node_limit r → (c : Tally) → Has r c → Has r' (with_count (Anew nodes) c)
after_statement r r' is c (a, (w, (p, (e, (n, u))))) = subst (λ q. Has q (with_count (Anew nodes) c)) (sym is) (a, (w, (p, (e, (refl, tt)))))

pub after_list : (r r' : Room) → r' ≡ with_elements parameter_limit r → (c : Tally) → Has r c → Has r' (with_count (Anew elements) c)
after_list r r' is c (a, (w, (p, (e, (n, u))))) = subst (λ q. Has q (with_count (Anew elements) c)) (sym is) (a, (w, (p, (refl, (n, tt)))))

-- a number of which none may come passes its limit
pub no_node : (r : Room) → r.nodes ≡ 0 → (c : Tally) → Has r c → passed limits.most (adds nodes 1 c) ≡ Some nodes
no_node r none c h = remains_full nodes node_limit 1 limits.most (left r) c refl h (omega (arith, none))
