-- Declarations.
use Rattle.std.proofs.Common.{◌≡◌, ◌≢◌, ℕ, suc, ◌+◌, ◌<◌, false, ℤ, pos, List, [], ◌∷◌, ◌++◌, refl, sym, ◌∙◌, ap, subst, arith}
use Rattle.std.proofs.Common.{zero, negsuc, w64, to_z, of_z, append_assoc}
use Rattle.std.proofs.lemmas.Int.{ints, to_z-of_z}
use Rattle.std.proofs.lemmas.List.{append-nil as append_nil}
use Rattle.ppm_words.specs.Limits.{value_bound}
use Rattle.std.specs.Prelude.{Option, neg_ℤ, ◌-ℤ◌}
use Rattle.ppm_grammar.specs.Rows.{In, first, later, Take, Part}
use Rattle.ppm_grammar.specs.Limits.{Tally, Adds, adds, with_count, after_token}
use Rattle.ppm_grammar.specs.Predictive.{starts, may_be_empty}
use Rattle.ppm_grammar.proofs.TextLemmas.{other_kind}
use Rattle.ppm_text.specs.declared.token.Keyword.TheVariants as k
use Rattle.ppm_text.specs.declared.token.Sign.TheVariants as s
use Rattle.ppm_text.specs.declared.token.Kind.TheVariants as kind
use Rattle.ppm_text.specs.declared.token.Token.{Token}
use Rattle.ppm_tree.specs.Limits.{depth_limit, IsInputValue}
use Rattle.ppm_tree.specs.Tree.{Procedure, Block, Give}
use Rattle.ppm_tree.specs.declared.named.Named.{Named}
use Rattle.ppm_tree.specs.declared.tree.Array.{Array}
use Rattle.ppm_tree.specs.declared.tree.ArrayInput.{ArrayInput}
use Rattle.ppm_tree.specs.declared.tree.Parameter.{Parameter}
use Rattle.ppm_rows.specs.Kinds.{Terminal, Number, Mark, terminal}
use Rattle.ppm_rows.specs.Values.{Value, Lexed, number_of, named}
use Rattle.ppm_rows.specs.Values as v
use Rattle.ppm_rows.specs.Phrases.{Phrase}
use Rattle.ppm_rows.specs.Phrases as p
use Rattle.ppm_rows.specs.Making.{Make}
use Rattle.ppm_rows.specs.Making as make
use Rattle.ppm_rows.specs.Language.{Form, language, rows, sign}
use Rattle.ppm_rows.specs.Limits.{limits, arrays, words, procedures}
use Rattle.ppm_rows.proofs.OneAnswer.{is_predictive_language}
use Rattle.ppm_parser.specs.declared.room.Room.{Room}
use Rattle.ppm_parser.specs.declared.stop.Stop.{Stop}
use Rattle.ppm_parser.specs.Room.{Has, with_arrays, with_words, with_procedures}
use Rattle.ppm_parser.specs.Fronts.{InFront, HasAt, HasName, HasNumber, HasLiteral, IsNotFront, Misses, MissesNumber}
use Rattle.ppm_parser.specs.Parsing.{Items, Parses, Stops, ParsesTo, MakesBehind}
use Rattle.ppm_parser.specs.Declarations.{array_items, procedure_items, input_items, ParsesArray, ParsesInteger, StopsInteger, ParsesIntegers, StopsIntegers, ParsesInput}
use Rattle.ppm_parser.proofs.Reading.{then_reads, then_fails, front_fails, of_same, read, front_reads, take_reads, take_fails, name_reads}
use Rattle.ppm_parser.proofs.Reading.{row_reads, row_fails, part_ended, part_unexpected, open_reads, open_fails, named_is}
use Rattle.ppm_parser.proofs.Lists.{Goes}
use Rattle.ppm_parser.proofs.Lists as lists

-- a part that one kind of token alone can begin
pub part_misses : {depth : ℕ} {room : Room} (n : Phrase) (x : Terminal) (ts : List Token) {e : Stop} → may_be_empty language n ≡ false →
    ((y : Terminal) → y ≢ x → starts language n y ≡ false) → Misses x ts e → Stops depth room (Part n ∷ []) ts e
part_misses n x [] full never h = part_ended full refl h
part_misses n x (t ∷ ts) full never h = part_unexpected full refl (never (terminal t.kind) h.1) h.0

-- the words of an array are counted
pub record CountsWords (n : ℕ) (room room' : Room) : Type 0 where
  pub less : room.words ≡ n + room'.words
  pub same : room' ≡ with_words room'.words room

-- by what the code says
pub words_of : {n : ℕ} {room room' : Room} → (room.words ≡ n + room'.words) × (room' ≡ with_words room'.words room) → CountsWords n room room'
words_of h = record { less = h.0; same = h.1 }

after_words : (n m : ℕ) (r r' : Room) → m ≡ n → CountsWords n r r' → (c : Tally) → Has r c → Has r' (with_count (Adds words m) c)
after_words n m r r' is counts c (a, (w, (q, (e, (x, u))))) =
    let less = counts.less in
    subst (λ z. Has z (with_count (Adds words m) c)) (sym counts.same) (a, (omega (arith, w, less, is), (q, (e, (x, tt)))))

-- nothing but a number is a length
never_words : (y : Terminal) → y ≢ Number → starts language p.Words y ≡ false
never_words y h = is_predictive_language.starts_is p.Words y ∙ rw (other_kind language Number y h) refl

module _ {room : Room} {ts behind : List Token} {x : Named} (g : HasName ts x behind) where
  module _ {place : ℕ} {inside : List Token} (open_at : HasAt (Mark s.OpenBracket) behind place inside) where
    length_fails : {inner : ℕ} {e : Stop} → depth_limit ≡ suc inner → Stops inner room (Part p.Words ∷ sign s.CloseBracket ∷ []) inside e →
        Stops depth_limit room array_items ts e
    length_fails less r = then_fails (name_reads g)
        (front_fails (sign s.Semicolon ∷ []) (open_fails less _ first refl refl open_at.front.shape open_at.front.is (λ c has. has) r))

    pub array_unnumbered : {e : Stop} → MissesNumber inside e → Stops depth_limit room array_items ts e
    array_unnumbered r = length_fails refl (front_fails (sign s.CloseBracket ∷ []) (part_misses p.Words Number inside refl never_words r))

    module _ {n place' : ℕ} {end : List Token} (h : HasNumber inside n place' end) where
      module _ {room' : Room} (counts : CountsWords n room room') where
        words_read : {depth : ℕ} → Parses depth room (Part p.Words ∷ []) inside (Lexed h.token ∷ []) room' end
        words_read = row_reads _ first refl refl h.shape (ap terminal h.is) (after_words n (number_of h.token.kind) room room' (ap number_of h.is) counts) read

        pub array_unclosed : {e : Stop} → Misses (Mark s.CloseBracket) end e → Stops depth_limit room array_items ts e
        array_unclosed r = length_fails refl (then_fails words_read (take_fails (Mark s.CloseBracket) end r))

        module _ {place'' : ℕ} {closed : List Token} (close_at : HasAt (Mark s.CloseBracket) end place'' closed) where
          length_read : Parses depth_limit room (Part p.Length ∷ []) behind (Lexed h.token ∷ []) room' closed
          length_read = open_reads refl _ first refl refl open_at.front.shape open_at.front.is (λ c has. has) (then_reads words_read (take_reads close_at))

          pub array_unended : {e : Stop} → Misses (Mark s.Semicolon) closed e → Stops depth_limit room array_items ts e
          array_unended r = then_fails (then_reads (name_reads g) length_read) (take_fails (Mark s.Semicolon) closed r)

          pub array_read : {place''' : ℕ} {rest : List Token} → HasAt (Mark s.Semicolon) closed place''' rest →
              ParsesArray room ts (record { name = x; words = n }) room' rest
          array_read r = record {
            values = Lexed g.token ∷ Lexed h.token ∷ Lexed r.token ∷ [];
            parses = then_reads (then_reads (name_reads g) length_read) (take_reads r);
            is = λ w i. v.Declares (v.AnArray (record { name = named_is g i; words = ap number_of h.is i }));
          }

-- a procedure
module _ {room : Room} {ts behind : List Token} {x : Named} (g : HasName ts x behind) where
  pub parameters_fail : {e : Stop} → Stops depth_limit room (Part p.ParameterList ∷ []) behind e → Stops depth_limit room procedure_items ts e
  parameters_fail h = then_fails (name_reads g) (front_fails (Part p.Body ∷ []) h)

  module _ {between : Room} {mid : List Token} {ps : List Parameter}
      (h : Parses depth_limit room (Part p.ParameterList ∷ []) behind (v.Parameters ps ∷ []) between mid) where
    pub body_fails : {e : Stop} → Stops depth_limit between (Part p.Body ∷ []) mid e → Stops depth_limit room procedure_items ts e
    body_fails r = then_fails (then_reads (name_reads g) h) r

    pub procedure_read : {room' : Room} {rest : List Token} {b : Block} {give : Option Give} →
        Parses depth_limit between (Part p.Body ∷ []) mid (v.Body b give ∷ []) room' rest →
        ParsesTo depth_limit room procedure_items ts
        (MakesBehind make.procedure (v.Declares (v.AProcedure (record { name = x; parameters = ps; body = b; give = give })))) room' rest
    procedure_read {b = b} {give = give} r = record {
      values = Lexed g.token ∷ v.Parameters ps ∷ v.Body b give ∷ [];
      parses = then_reads (then_reads (name_reads g) h) r;
      is = λ w i. v.Declares (v.AProcedure (record { name = named_is g i; parameters = ps; body = b; give = give }));
    }

-- a value of an input
literal_front : {ts rest : List Token} {z : ℤ} (h : HasLiteral ts z rest) → InFront Number ts h.token rest
literal_front h = record { shape = h.shape; is = ap terminal h.is }

-- a literal keeps its value, and so does its negative
pub kept : (z : ℤ) → IsInputValue z → to_z w64 (of_z w64 z) ≡ z
kept (pos n) small = to_z-of_z w64 (pos n) (omega (arith, ints, small))
kept (negsuc n) small = to_z-of_z w64 (negsuc n) (omega (arith, ints, small))

negative_small : (n : ℕ) → n < value_bound → IsInputValue (neg_ℤ (pos n))
negative_small zero small = omega arith
negative_small (suc n) small = omega (arith, small)

subtracted : (n : ℕ) → pos 0 -ℤ pos n ≡ neg_ℤ (pos n)
subtracted n = omega (arith, ints)

pub negated_is : (n : ℕ) (z : ℤ) → z ≡ pos n → n < value_bound → to_z w64 (of_z w64 (pos 0 -ℤ to_z w64 (of_z w64 z))) ≡ neg_ℤ (pos n)
negated_is n z is small =
    rw (is, kept (pos n) small, subtracted n) (kept (neg_ℤ (pos n)) (negative_small n small))

pub plain_read : {ts rest : List Token} {z : ℤ} → HasLiteral ts z rest → ParsesInteger ts z rest
plain_read h = record {
  small = rw h.value h.small;
  parses = λ depth room.
      of_same (ap (λ q. v.Integer q ∷ []) (ap (λ q. pos (number_of q)) h.is ∙ sym h.value))
      (row_reads _ first refl refl h.shape (ap terminal h.is) (λ c has. has) read);
}

never_integer : (y : Terminal) → y ≢ Mark s.Minus → y ≢ Number → starts language p.Integer y ≡ false
never_integer y h g = is_predictive_language.starts_is p.Integer y ∙ rw (other_kind language Number y g, other_kind language (Mark s.Minus) y h) refl

pub plain_fails : (ts : List Token) {e : Stop} → IsNotFront (Mark s.Minus) ts → MissesNumber ts e → StopsInteger ts e
plain_fails [] none h depth room = part_ended refl refl h
plain_fails (t ∷ ts) none h depth room = part_unexpected refl refl (never_integer (terminal t.kind) none h.1) h.0

pub negative_read : {ts behind rest : List Token} {place : ℕ} {z : ℤ} → HasAt (Mark s.Minus) ts place behind → (h : HasLiteral behind z rest) →
    ParsesInteger ts (neg_ℤ (pos h.number)) rest
negative_read g h = record {
  small = negative_small h.number h.small;
  parses = λ depth room.
      of_same (ap (λ q. v.Integer (neg_ℤ (pos (number_of q))) ∷ []) h.is)
      (row_reads _ (later first) refl refl g.front.shape g.front.is (λ c has. has) (front_reads (literal_front h)));
}

pub negative_fails : {ts behind : List Token} {place : ℕ} {e : Stop} → HasAt (Mark s.Minus) ts place behind → MissesNumber behind e → StopsInteger ts e
negative_fails {behind = behind} g h depth room =
    row_fails _ (later first) refl refl g.front.shape g.front.is (λ c has. has) (take_fails Number behind h)

-- the values of an input after the first
abbrev pub IntegersGo : ℕ → Room → List Token → List ℤ → Room → List Token → Type 0
IntegersGo depth room ts all room' rest = Goes p.MoreIntegers p.MoreIntegers s.Semicolon v.Integers depth room ts all room' rest

-- all so far, whatever the room
pub record Values (some : List ℤ) (ts : List Token) (all : List ℤ) (rest : List Token) : Type 0 where
  pub others : List ℤ
  pub shape : all ≡ some ++ others
  pub go : (depth : ℕ) (room : Room) → IntegersGo depth room ts others room rest

pub values_start : (some : List ℤ) (ts : List Token) → Values some ts some ts
values_start some ts = record {
  others = [];
  shape = sym (append_nil some);
  go = λ depth room. lists.start p.MoreIntegers p.Integer s.Semicolon v.Integers v.Integer make.more_integers refl (λ t a xs. refl);
}

module _ {some : List ℤ} {ts rest : List Token} {all : List ℤ} (g : Values some ts all rest) where
  pub values_step : {place : ℕ} {behind rest' : List Token} {z : ℤ} → HasAt (Mark s.Comma) rest place behind → ParsesInteger behind z rest' →
      Values some ts (all ++ z ∷ []) rest'
  values_step {z = z} h r = record {
    others = g.others ++ z ∷ [];
    shape = ap (λ q. q ++ z ∷ []) g.shape ∙ append_assoc some g.others (z ∷ []);
    go = λ depth room. lists.step p.MoreIntegers p.Integer s.Semicolon v.Integers v.Integer make.more_integers refl (λ t a xs. refl)
        (g.go depth room) h (r.parses depth room);
  }

  pub values_step_fails : {place : ℕ} {behind : List Token} {e : Stop} → HasAt (Mark s.Comma) rest place behind → StopsInteger behind e → StopsIntegers ts e
  values_step_fails h r depth room = lists.step_fails p.MoreIntegers p.Integer s.Semicolon v.Integers v.Integer make.more_integers refl (λ t a xs. refl)
      (g.go depth room) h (r depth room)

  pub values_end : {place : ℕ} {end : List Token} → IsNotFront (Mark s.Comma) rest → HasAt (Mark s.Semicolon) rest place end → ParsesIntegers some ts all end
  values_end none h = record {
    others = g.others;
    end = h.token;
    shape = g.shape;
    parses = λ depth room. lists.end_reads p.MoreIntegers p.Integer s.Semicolon v.Integers v.Integer make.more_integers refl (λ t a xs. refl)
        (g.go depth room) none h;
  }

  pub values_end_fails : {e : Stop} → IsNotFront (Mark s.Comma) rest → Misses (Mark s.Semicolon) rest e → StopsIntegers ts e
  values_end_fails none h depth room =
      lists.end_fails p.MoreIntegers p.Integer s.Semicolon v.Integers v.Integer make.more_integers refl (λ t a xs. refl) (g.go depth room) none h

-- an input
module _ {ts behind : List Token} {x : Named} (g : HasName ts x behind) where
  module _ {place : ℕ} {after : List Token} (h : HasAt (Mark s.Assign) behind place after) where
    pub first_value_fails : {e : Stop} → StopsInteger after e → (depth : ℕ) (room : Room) → Stops depth room input_items ts e
    first_value_fails r depth room =
        then_fails (then_reads (name_reads g) (take_reads h)) (front_fails (Part p.MoreIntegers ∷ sign s.Semicolon ∷ []) (r depth room))

    module _ {z : ℤ} {mid : List Token} (r : ParsesInteger after z mid) where
      pub values_fail : {e : Stop} → StopsIntegers mid e → (depth : ℕ) (room : Room) → Stops depth room input_items ts e
      values_fail q depth room = then_fails (then_reads (then_reads (name_reads g) (take_reads h)) (r.parses depth room)) (q depth room)

      pub input_read : {all : List ℤ} {rest : List Token} → ParsesIntegers (z ∷ []) mid all rest → ParsesInput ts (record { name = x; values = all }) rest
      input_read q depth room = record {
        values = Lexed g.token ∷ Lexed h.token ∷ v.Integer z ∷ v.Integers q.others ∷ Lexed q.end ∷ [];
        parses = then_reads (then_reads (then_reads (name_reads g) (take_reads h)) (r.parses depth room)) (q.parses depth room);
        is = λ w i. v.Declares (v.AnInput (record { name = named_is g i; values = sym q.shape i }));
      }

-- the rooms after an array and a procedure
after_array : (r r' : Room) → (r.arrays ≡ suc r'.arrays) × (r' ≡ with_arrays r'.arrays r) → (c : Tally) → Has r c → Has r' (adds arrays 1 c)
after_array r r' h c (a, (w, (q, (e, (n, u))))) =
    let less = h.0 in subst (λ z. Has z (adds arrays 1 c)) (sym h.1) (omega (arith, a, less), (w, (q, (e, (n, tt)))))

after_procedure : (r r' : Room) → (r.procedures ≡ suc r'.procedures) × (r' ≡ with_procedures r'.procedures r) → (c : Tally) → Has r c →
    Has r' (adds procedures 1 c)
after_procedure r r' h c (a, (w, (q, (e, (n, u))))) =
    let less = h.0 in subst (λ z. Has z (adds procedures 1 c)) (sym h.1) (a, (w, (omega (arith, q, less), (e, (n, tt)))))

-- what is after the keyword of a declaration makes it
module _ {room : Room} {ts behind : List Token} {t : Token} (shape : ts ≡ t ∷ behind) where
  made : {between room' : Room} {ys : Items} {rest : List Token} {x : Terminal} {d : Value} (row : Form) → In row (rows p.Declaration) →
      row.items ≡ Take x ∷ ys → row.opens ≡ false → terminal t.kind ≡ x →
      ((c : Tally) → Has room c → Has between (after_token limits row.counts t behind c)) →
      ParsesTo depth_limit between ys behind (MakesBehind row.make d) room' rest → Parses depth_limit room (Part p.Declaration ∷ []) ts (d ∷ []) room' rest
  made row i items shut kind after r =
      of_same (ap (λ q. q ∷ []) (r.is (Lexed t))) (row_reads row i items shut shape kind after r.parses)

  -- an array
  pub array_declared : {between room' : Room} {rest : List Token} {a : Array} → t.kind ≡ kind.Keyword k.Array →
      (room.arrays ≡ suc between.arrays) × (between ≡ with_arrays between.arrays room) → ParsesArray between behind a room' rest →
      Parses depth_limit room (Part p.Declaration ∷ []) ts (v.Declares (v.AnArray a) ∷ []) room' rest
  array_declared {between = between} is counts r = made _ first refl refl (ap terminal is) (after_array room between counts) r

  pub array_fails : {between : Room} {e : Stop} → t.kind ≡ kind.Keyword k.Array →
      (room.arrays ≡ suc between.arrays) × (between ≡ with_arrays between.arrays room) → Stops depth_limit between array_items behind e →
      Stops depth_limit room (Part p.Declaration ∷ []) ts e
  array_fails {between = between} is counts r = row_fails _ first refl refl shape (ap terminal is) (after_array room between counts) r

  -- a procedure
  pub procedure_declared : {between room' : Room} {rest : List Token} {x : Procedure} → t.kind ≡ kind.Keyword k.Proc →
      (room.procedures ≡ suc between.procedures) × (between ≡ with_procedures between.procedures room) →
      ParsesTo depth_limit between procedure_items behind (MakesBehind make.procedure (v.Declares (v.AProcedure x))) room' rest →
      Parses depth_limit room (Part p.Declaration ∷ []) ts (v.Declares (v.AProcedure x) ∷ []) room' rest
  procedure_declared {between = between} is counts r = made _ (later first) refl refl (ap terminal is) (after_procedure room between counts) r

  pub procedure_fails : {between : Room} {e : Stop} → t.kind ≡ kind.Keyword k.Proc →
      (room.procedures ≡ suc between.procedures) × (between ≡ with_procedures between.procedures room) →
      Stops depth_limit between procedure_items behind e → Stops depth_limit room (Part p.Declaration ∷ []) ts e
  procedure_fails {between = between} is counts r = row_fails _ (later first) refl refl shape (ap terminal is) (after_procedure room between counts) r

  -- an input
  pub input_declared : {rest : List Token} {i : ArrayInput} → t.kind ≡ kind.Keyword k.Input → ParsesInput behind i rest →
      Parses depth_limit room (Part p.Declaration ∷ []) ts (v.Declares (v.AnInput i) ∷ []) room rest
  input_declared is r = made _ (later (later first)) refl refl (ap terminal is) (λ c has. has) (r depth_limit room)

  pub input_fails : {e : Stop} → t.kind ≡ kind.Keyword k.Input → ((depth : ℕ) (room : Room) → Stops depth room input_items behind e) →
      Stops depth_limit room (Part p.Declaration ∷ []) ts e
  input_fails is r = row_fails _ (later (later first)) refl refl shape (ap terminal is) (λ c has. has) (r depth_limit room)
