-- Declarations one after the other make the program.
use Rattle.std.proofs.Common.{◌≡◌, ℕ, suc, ◌+◌, ◌<◌, ◌≤◌, Bool, true, false, List, [], ◌∷◌, ◌++◌, length, refl, sym, ◌∙◌, ap, subst, arith, append_assoc}
use Rattle.std.proofs.lemmas.List.{append-nil as append_nil, length-append}
use Rattle.std.specs.Prelude.{◌==◌, Some}
use Rattle.ppm_grammar.specs.Rows.{first, later, Part}
use Rattle.ppm_grammar.specs.Derivation.{Within, part, nothing, beginning}
use Rattle.ppm_grammar.specs.Limits.{Tally, none_counted}
use Rattle.ppm_grammar.specs.Faults.{Fault, Expected, Ended, TooDeep, TooMany}
use Rattle.ppm_grammar.specs.Predictive.{starts}
use Rattle.ppm_grammar.specs.Reading.{Reads}
use Rattle.ppm_grammar.specs.Stack.{fault_at}
use Rattle.ppm_grammar.proofs.DerivationLemmas.{begins}
use Rattle.ppm_grammar.proofs.StackLemmas.{next_none}
use Rattle.ppm_grammar.proofs.TextLemmas.{consumes}
use Rattle.ppm_grammar.proofs.LeadsLemmas as base
use Rattle.ppm_grammar.proofs.LeadsLemmas.{LeadsTo, on}
use Rattle.ppm_grammar.proofs.StatesLemmas as states
use Rattle.ppm_grammar.proofs.StatesLemmas.{LeadsState}
use Rattle.ppm_grammar.proofs.Theorem.{parsers_answer}
use Rattle.ppm_text.specs.declared.token.Token.{Token}
use Rattle.ppm_text.specs.Tokens.{TextTokens}
use Rattle.ppm_tree.specs.Limits.{depth_limit}
use Rattle.ppm_tree.specs.Tree.{ProgramTree}
use Rattle.ppm_rows.specs.Kinds.{terminal}
use Rattle.ppm_rows.specs.Values.{Value, Program, Declaration, AnArray, AProcedure, AnInput, declaring, no_program}
use Rattle.ppm_rows.specs.Values as v
use Rattle.ppm_rows.specs.Phrases as p
use Rattle.ppm_rows.specs.Making as make
use Rattle.ppm_rows.specs.Language.{Form, form, language}
use Rattle.ppm_rows.specs.Follow.{may_follow}
use Rattle.ppm_rows.specs.Limits.{limits}
use Rattle.ppm_rows.specs.Correct.{HasTree}
use Rattle.ppm_rows.proofs.OneAnswer.{is_predictive_language, is_tested}
use Rattle.ppm_parser.specs.declared.room.Room.{Room}
use Rattle.ppm_parser.specs.declared.stop.Stop.{Stop}
use Rattle.ppm_parser.specs.declared.stop.Stop.TheVariants as stop
use Rattle.ppm_parser.specs.SyntaxErrorNumbers.{which_of}
use Rattle.ppm_parser.specs.Room.{Has, whole_room}
use Rattle.ppm_parser.specs.Faults.{IsFault, in_text}
use Rattle.ppm_parser.specs.Parsing.{Parses, Stops}
use Rattle.ppm_parser.specs.Declarations.{with_declaration, TellsStop}
use Rattle.ppm_parser.proofs.Reading.{free}

-- what is declared first, and then more
abbrev pub joined : ProgramTree → ProgramTree → ProgramTree
joined d t = record { arrays = d.arrays ++ t.arrays; procedures = d.procedures ++ t.procedures; inputs = d.inputs ++ t.inputs }

-- the row of a declaration with others after it
abbrev further : Form
further = form (Part p.Declaration ∷ Part p.Source ∷ []) make.program

-- these were declared, and more may come
pub record Goes (ts : List Token) (d : ProgramTree) (room : Room) (rest : List Token) : Type 0 where
  pub tally : Tally
  pub has : Has room tally
  pub values : List Value → List Value
  pub leads : LeadsTo language limits none_counted (beginning language) ts values tally (beginning language) rest
  pub makes : (t : ProgramTree) → values (Program t ∷ []) ≡ Program (joined d t) ∷ []

-- nothing was
pub goes_first : (ts : List Token) → Goes ts no_program whole_room ts
goes_first ts = record {
  tally = none_counted;
  has = (refl, (refl, (refl, (refl, (refl, tt)))));
  values = λ vs. vs;
  leads = record { reads = λ end vs e r. r; same = λ st. refl };
  makes = λ t. refl;
}

-- one thing more in front of others, or after some
one_more : (d : ProgramTree) (x : Declaration) (t : ProgramTree) → joined d (declaring x t) ≡ joined (with_declaration d x) t
one_more d (AnArray a) t = λ i. record { arrays = sym (append_assoc d.arrays (a ∷ []) t.arrays) i; procedures = d.procedures ++ t.procedures; inputs = d.inputs ++ t.inputs }
one_more d (AProcedure q) t =
    λ i. record { arrays = d.arrays ++ t.arrays; procedures = sym (append_assoc d.procedures (q ∷ []) t.procedures) i; inputs = d.inputs ++ t.inputs }
one_more d (AnInput x) t = λ i. record { arrays = d.arrays ++ t.arrays; procedures = d.procedures ++ t.procedures; inputs = sym (append_assoc d.inputs (x ∷ []) t.inputs) i }

-- where a declaration can begin, the program goes on with it
leads_further : (room : Room) {t : Token} {ts behind : List Token} → ts ≡ t ∷ behind → starts language p.Declaration (terminal t.kind) ≡ true →
    LeadsState language limits Has free depth_limit room (Part p.Source ∷ []) ts (λ vs. further.make (base.fronts further.items vs) ∷ base.backs further.items vs) room
    (further.items ++ []) ts
leads_further room is can =
    states.a_corner language limits Has free {depth = depth_limit} may_follow is_predictive_language {xs = []} further (later first) refl is can (λ q h. h)

-- a declaration was read
pub goes_on : {ts rest after : List Token} {d : ProgramTree} {x : Declaration} {room left : Room} → Goes ts d room rest →
    Parses depth_limit room (Part p.Declaration ∷ []) rest (v.Declares x ∷ []) left after → Goes ts (with_declaration d x) left after
goes_on {rest = rest} {after = after} {d = d} {x = x} {room = room} h a =
    let before = a.reads 0 h.tally (omega arith) h.has in
    let b = begins language may_follow is_predictive_language before.reads.derived 0 (Part p.Declaration) (Part p.Source ∷ []) [] refl p.Source further (later first) refl in
    let one = (leads_further room b.shape (b.starts_so [])).leads 0 h.tally (omega arith) h.has in
    let r = a.reads 0 one.tally (omega arith) one.has in
    let two : LeadsTo language limits one.tally (Within 0 (Part p.Declaration) ∷ beginning language) rest (λ vs. v.Declares x ∷ vs) r.tally (beginning language) after =
    base.leads_items language limits r.reads in
    record {
      tally = r.tally;
      has = r.has;
      values = λ vs. h.values (further.make (base.fronts further.items (v.Declares x ∷ vs)) ∷ base.backs further.items (v.Declares x ∷ vs));
      leads = on language limits h.leads (on language limits one.leads two);
      makes = λ t. h.makes (declaring x t) ∙ ap (λ q. Program q ∷ []) (one_more d x t);
    }

-- the tokens end after them
pub goes_last : {ts : List Token} {d : ProgramTree} {room : Room} → Goes ts d room [] → HasTree ts d
goes_last {ts = ts} {d = d} h =
    let end : Reads language limits h.tally (beginning language) [] (Program no_program ∷ []) h.tally [] =
    record { marks = []; derived = part first nothing nothing; keeps = tt; counts = refl; passes = λ st. refl } in
    let all = h.leads.reads [] (Program no_program ∷ []) h.tally end in
    let is : h.values (Program no_program ∷ []) ≡ Program d ∷ [] =
    h.makes no_program ∙ ap (λ q. Program q ∷ [])
    (λ i. record { arrays = append_nil d.arrays i; procedures = append_nil d.procedures i; inputs = append_nil d.inputs i }) in
    (parsers_answer language may_follow is_tested limits ts).tree (Program d) h.tally
    (subst (λ q. Reads language limits none_counted (beginning language) ts q h.tally []) is all)

-- where no declaration can begin, the token in front is the fault
no_declaration : (c : Tally) (t : Token) (behind : List Token) (f : Fault) → starts language p.Declaration (terminal t.kind) ≡ false →
    fault_at language limits (Within 0 (Part p.Declaration) ∷ []) c (t ∷ behind) ≡ Some f → fault_at language limits (beginning language) c (t ∷ behind) ≡ Some f
no_declaration c t behind f none h =
    let pl = is_predictive_language in
    let never : starts language p.Source (terminal t.kind) ≡ false = pl.starts_is p.Source (terminal t.kind) ∙ rw none refl in
    rw (next_none language may_follow pl 0 p.Source (terminal t.kind) never)
    (rw (next_none language may_follow pl 0 p.Declaration (terminal t.kind) none) at h)

-- no declaration was read
pub goes_stopped : {ts : List Token} {d : ProgramTree} {room : Room} {t : Token} {rest behind : List Token} {e : Stop} → rest ≡ t ∷ behind → Goes ts d room rest →
    Stops depth_limit room (Part p.Declaration ∷ []) rest e → TellsStop ts e
goes_stopped {ts = ts} {room = room} {t = t} {rest = rest} {behind = behind} {e = e} is h a f told =
    (parsers_answer language may_follow is_tested limits ts).fault f (h.leads.same [] ∙ go (starts language p.Declaration (terminal t.kind)) refl)
  where
    go : (b : Bool) → starts language p.Declaration (terminal t.kind) ≡ b → fault_at language limits (beginning language) h.tally rest ≡ Some f
    go true can =
        let one = (leads_further room is can).leads 0 h.tally (omega arith) h.has in
        one.leads.same [] ∙ (a.fails.tells 0 one.tally (omega arith) one.has).tells (beginning language) f told
    go false none =
        rw is (no_declaration h.tally t behind f none (subst (λ q. fault_at language limits (Within 0 (Part p.Declaration) ∷ []) h.tally q ≡ Some f) is
        ((a.fails.tells 0 h.tally (omega arith) h.has).tells [] f told)))

-- it has one token at least
pub goes_shorter : {ts rest after : List Token} {d : ProgramTree} {x : Declaration} {room left : Room} → Goes ts d room rest →
    Parses depth_limit room (Part p.Declaration ∷ []) rest (v.Declares x ∷ []) left after → length after < length rest
goes_shorter {rest = rest} {after = after} h a =
    let before = (a.reads 0 h.tally (omega arith) h.has).reads in
    let b = begins language may_follow is_predictive_language before.derived 0 (Part p.Declaration) (Part p.Source ∷ []) [] refl p.Source further (later first) refl in
    let s = consumes language before.derived in
    let some : length before.marks ≡ suc (length b.others) = ap length b.marks in
    let all : length rest ≡ length s.front + length after = ap length s.shape ∙ length-append s.front after in
    let each = s.each in omega (arith, some, all, each)

-- where tokens are left, a declaration stops the parser
pub stops_all : {ts : List Token} {d : ProgramTree} {room : Room} {e : Stop} (rest : List Token) → (length rest == 0) ≡ false → Goes ts d room rest →
    Stops depth_limit room (Part p.Declaration ∷ []) rest e → TellsStop ts e
stops_all [] some h a = cc
stops_all (t ∷ behind) some h a = goes_stopped refl h a

-- where none are, it has the program
pub ends_all : {ts : List Token} {d : ProgramTree} {room : Room} (rest : List Token) → (length rest == 0) ≡ true → Goes ts d room rest → HasTree ts d
ends_all [] none h = goes_last h
ends_all (t ∷ behind) none h = let some : 1 ≤ length (t ∷ behind) = omega arith in absurd (grind (arith, none, some))

-- a stop is the fault of the text's tokens
pub stop_is : (all : TextTokens) (n : ℕ) (e : Stop) → n ≡ all.text_len → TellsStop all.tokens e → IsFault all (in_text n e)
stop_is all n (stop.Expected place) same h = h (Expected place) refl
stop_is all n stop.Ended same h = (h Ended refl, same)
stop_is all n (stop.TooDeep place) same h = h (TooDeep place) refl
stop_is all n (stop.TooMany place which) same h = h (TooMany place (which_of which)) refl
stop_is all n stop.NoMemory same h = tt
