-- Parameters and their lists.
use Rattle.std.proofs.Common.{◌≡◌, ◌≢◌, ℕ, suc, true, false, List, [], ◌∷◌, ◌++◌, refl, sym, ◌∙◌, ap, subst, arith}
use Rattle.ppm_grammar.specs.Rows.{first, later, Take, Part}
use Rattle.ppm_grammar.specs.Limits.{adds}
use Rattle.ppm_grammar.specs.Stack.{next}
use Rattle.ppm_grammar.specs.Predictive.{starts}
use Rattle.ppm_grammar.specs.Reading.{FailsState}
use Rattle.ppm_grammar.proofs.StatesLemmas as states
use Rattle.ppm_grammar.proofs.StatesLemmas.{MoveAt}
use Rattle.ppm_grammar.proofs.TextLemmas.{other_kind}
use Rattle.ppm_text.specs.declared.token.Keyword.{Keyword}
use Rattle.ppm_text.specs.declared.token.Keyword.TheVariants as k
use Rattle.ppm_text.specs.declared.token.Sign.TheVariants as s
use Rattle.ppm_text.specs.declared.token.Kind.{Kind}
use Rattle.ppm_text.specs.declared.token.Kind.TheVariants as kind
use Rattle.ppm_text.specs.declared.token.Token.{Token}
use Rattle.ppm_tree.specs.Limits.{parameter_limit}
use Rattle.ppm_tree.specs.declared.mode.Mode.{Mode}
use Rattle.ppm_tree.specs.declared.mode.Mode.TheVariants as mode
use Rattle.ppm_tree.specs.declared.named.Named.{Named}
use Rattle.ppm_tree.specs.declared.tree.Parameter.{Parameter}
use Rattle.ppm_rows.specs.Kinds.{Word, Mark, terminal}
use Rattle.ppm_rows.specs.Values.{Value, Lexed}
use Rattle.ppm_rows.specs.Values as v
use Rattle.ppm_rows.specs.Phrases as p
use Rattle.ppm_rows.specs.Making as make
use Rattle.ppm_rows.specs.Language.{language, AnElement}
use Rattle.ppm_rows.specs.Limits.{limits}
use Rattle.ppm_rows.proofs.OneAnswer.{is_predictive_language}
use Rattle.ppm_parser.specs.declared.limit.Limit.TheVariants as limit
use Rattle.ppm_parser.specs.declared.room.Room.{Room}
use Rattle.ppm_parser.specs.declared.stop.Stop.{Stop}
use Rattle.ppm_parser.specs.declared.stop.Stop.TheVariants as stop
use Rattle.ppm_parser.specs.Faults.{fault_of}
use Rattle.ppm_parser.specs.Room.{Has, with_elements}
use Rattle.ppm_parser.specs.Fronts.{HasAt, HasName, HasMode, word_of, IsNotFront, Misses, MissesName, MissesMode}
use Rattle.ppm_parser.specs.Parsing.{Parses, Stops, ParsesClosed}
use Rattle.ppm_parser.proofs.Reading.{free, then_reads, then_fails, of_same, read, name_reads, name_fails, row_reads, corner_reads, corner_fails}
use Rattle.ppm_parser.proofs.Reading.{part_ended, part_unexpected, open_reads, open_fails, named_is, after_list}
use Rattle.ppm_parser.proofs.Calls.{CountsElement, after_counted, still_of, passes}
use Rattle.ppm_parser.proofs.Lists.{Goes}
use Rattle.ppm_parser.proofs.Lists as lists

-- the kind of a keyword
pub keyword_of : (x : Kind) (word : Keyword) → terminal x ≡ Word word → x ≡ kind.Keyword word
keyword_of (kind.Name bytes) word h = cc
keyword_of (kind.Number n) word h = cc
keyword_of (kind.Keyword other) word h = cc
keyword_of (kind.Sign sign) word h = cc

-- a mode
mode_reads : {depth : ℕ} {room : Room} {ts rest : List Token} {place : ℕ} (m : Mode) → HasMode ts m place rest →
    Parses depth room (Part p.Mode ∷ []) ts (v.Taken m ∷ []) room rest
mode_reads mode.Mut h = row_reads _ first refl refl h.shape (ap terminal h.is) (λ c has. has) read
mode_reads mode.Ref h = row_reads _ (later first) refl refl h.shape (ap terminal h.is) (λ c has. has) read
mode_reads mode.Int h = row_reads _ (later (later first)) refl refl h.shape (ap terminal h.is) (λ c has. has) read

-- its keyword begins one
mode_starts : (m : Mode) (x : Kind) → x ≡ kind.Keyword (word_of m) → starts language p.Mode (terminal x) ≡ true
mode_starts mode.Mut x h = rw h refl
mode_starts mode.Ref x h = rw h refl
mode_starts mode.Int x h = rw h refl

-- no other does
no_mode : (x : Kind) → ((m : Mode) → x ≢ kind.Keyword (word_of m)) → starts language p.Parameter (terminal x) ≡ false
no_mode x h =
    let a = other_kind language (Word k.Mut) (terminal x) (λ is. h mode.Mut (keyword_of x k.Mut is)) in
    let b = other_kind language (Word k.Ref) (terminal x) (λ is. h mode.Ref (keyword_of x k.Ref is)) in
    let c = other_kind language (Word k.Int) (terminal x) (λ is. h mode.Int (keyword_of x k.Int is)) in
    let none : starts language p.Mode (terminal x) ≡ false = is_predictive_language.starts_is p.Mode (terminal x) ∙ rw (a, b, c) refl in
    is_predictive_language.starts_is p.Parameter (terminal x) ∙ rw none refl

-- no mode is in front
pub mode_fails : {depth : ℕ} {room : Room} (ts : List Token) {e : Stop} → MissesMode ts e → Stops depth room (Part p.Parameter ∷ []) ts e
mode_fails [] h = part_ended refl refl h
mode_fails (t ∷ ts) h = part_unexpected refl refl (no_mode t.kind h.1) h.0

module _ {depth : ℕ} {room : Room} {ts behind : List Token} {m : Mode} {place : ℕ} (h : HasMode ts m place behind) where
  -- a parameter
  pub parameter_read : {between : Room} {x : Named} {rest : List Token} → CountsElement room between → HasName behind x rest →
      Parses depth room (Part p.Parameter ∷ []) ts (v.OneParameter (record { mode = m; name = x }) ∷ []) between rest
  parameter_read counts g =
      of_same (ap (λ q. v.OneParameter (record { mode = m; name = q }) ∷ []) (named_is g))
      (corner_reads _ first refl h.shape (mode_starts m h.token.kind h.is) (after_counted counts) (then_reads (mode_reads m h) (name_reads g)))

  pub parameter_fails : {between : Room} {e : Stop} → CountsElement room between → MissesName behind e → Stops depth room (Part p.Parameter ∷ []) ts e
  parameter_fails counts g =
      corner_fails _ first refl h.shape (mode_starts m h.token.kind h.is) (after_counted counts) (then_fails (mode_reads m h) (name_fails behind g))

  -- one too many
  pub parameter_many : {e : Stop} → room.elements ≡ 0 → e ≡ stop.TooMany place limit.Elements → Stops depth room (Part p.Parameter ∷ []) ts e
  parameter_many {e = e} full told = go m h.is
    where
      many_at : MoveAt language limits Has free p.Parameter h.token 0 (AnElement ∷ []) → Stops depth room (Part p.Parameter ∷ []) ts e
      many_at move = record {
        fails = subst (λ q. FailsState language limits Has depth room (Part p.Parameter ∷ []) ts q)
            (sym (ap fault_of (told ∙ ap (λ q. stop.TooMany q limit.Elements) (sym h.at))))
            (states.many_at language limits Has free move h.shape (omega arith) (λ c has. passes room full c (adds 4 1 c) has refl refl refl refl));
      }

      go : (n : Mode) → h.token.kind ≡ kind.Keyword (word_of n) → Stops depth room (Part p.Parameter ∷ []) ts e
      go mode.Mut is = many_at (record {
        still = λ d. still_of (next language d p.Parameter (Word k.Mut));
        moves = λ d. ap (λ q. next language d p.Parameter (terminal q)) is;
      })
      go mode.Ref is = many_at (record {
        still = λ d. still_of (next language d p.Parameter (Word k.Ref));
        moves = λ d. ap (λ q. next language d p.Parameter (terminal q)) is;
      })
      go mode.Int is = many_at (record {
        still = λ d. still_of (next language d p.Parameter (Word k.Int));
        moves = λ d. ap (λ q. next language d p.Parameter (terminal q)) is;
      })

-- the lists of parameters
abbrev pub ParametersGo : ℕ → Room → List Token → List Parameter → Room → List Token → Type 0
ParametersGo depth room ts all room' rest = Goes p.SomeParameters p.MoreParameters s.CloseParen v.Parameters depth room ts all room' rest

module _ {depth : ℕ} {room : Room} {ts : List Token} where
  pub parameters_first : {room' : Room} {rest : List Token} {a : Parameter} → IsNotFront (Mark s.CloseParen) ts →
      Parses depth room (Part p.Parameter ∷ []) ts (v.OneParameter a ∷ []) room' rest → ParametersGo depth room ts (a ∷ []) room' rest
  parameters_first none r = lists.first_goes p.MoreParameters p.Parameter s.CloseParen v.Parameters v.OneParameter (make.parameters 1) refl (λ t a xs. refl)
      p.SomeParameters (make.parameters 0) refl (λ a xs. refl) none r

  pub parameters_first_fails : {e : Stop} → IsNotFront (Mark s.CloseParen) ts → Stops depth room (Part p.Parameter ∷ []) ts e →
      Stops depth room (Part p.SomeParameters ∷ Take (Mark s.CloseParen) ∷ []) ts e
  parameters_first_fails none r =
      lists.first_fails p.MoreParameters p.Parameter s.CloseParen v.Parameters v.OneParameter (make.parameters 1) refl (λ t a xs. refl)
      p.SomeParameters (make.parameters 0) refl (λ a xs. refl) none r

  pub no_parameters : {place : ℕ} {end : List Token} (h : HasAt (Mark s.CloseParen) ts place end) →
      Parses depth room (Part p.SomeParameters ∷ Take (Mark s.CloseParen) ∷ []) ts (v.Parameters [] ∷ Lexed h.token ∷ []) room end
  no_parameters h = lists.none_reads p.MoreParameters p.Parameter s.CloseParen v.Parameters v.OneParameter (make.parameters 1) refl (λ t a xs. refl)
      p.SomeParameters (make.parameters 0) refl (λ a xs. refl) (λ t is. rw is refl) h

  module _ {all : List Parameter} {room' : Room} {rest : List Token} (g : ParametersGo depth room ts all room' rest) where
    pub parameters_step : {place : ℕ} {behind rest' : List Token} {room'' : Room} {a : Parameter} → HasAt (Mark s.Comma) rest place behind →
        Parses depth room' (Part p.Parameter ∷ []) behind (v.OneParameter a ∷ []) room'' rest' → ParametersGo depth room ts (all ++ a ∷ []) room'' rest'
    parameters_step h r = lists.step p.MoreParameters p.Parameter s.CloseParen v.Parameters v.OneParameter (make.parameters 1) refl (λ t a xs. refl) g h r

    pub parameters_step_fails : {place : ℕ} {behind : List Token} {e : Stop} → HasAt (Mark s.Comma) rest place behind →
        Stops depth room' (Part p.Parameter ∷ []) behind e → Stops depth room (Part p.SomeParameters ∷ Take (Mark s.CloseParen) ∷ []) ts e
    parameters_step_fails h r =
        lists.step_fails p.MoreParameters p.Parameter s.CloseParen v.Parameters v.OneParameter (make.parameters 1) refl (λ t a xs. refl) g h r

    pub parameters_end : {place : ℕ} {end : List Token} → IsNotFront (Mark s.Comma) rest → (h : HasAt (Mark s.CloseParen) rest place end) →
        Parses depth room (Part p.SomeParameters ∷ Take (Mark s.CloseParen) ∷ []) ts (v.Parameters all ∷ Lexed h.token ∷ []) room' end
    parameters_end none h =
        lists.end_reads p.MoreParameters p.Parameter s.CloseParen v.Parameters v.OneParameter (make.parameters 1) refl (λ t a xs. refl) g none h

    pub parameters_end_fails : {e : Stop} → IsNotFront (Mark s.Comma) rest → Misses (Mark s.CloseParen) rest e →
        Stops depth room (Part p.SomeParameters ∷ Take (Mark s.CloseParen) ∷ []) ts e
    parameters_end_fails none h =
        lists.end_fails p.MoreParameters p.Parameter s.CloseParen v.Parameters v.OneParameter (make.parameters 1) refl (λ t a xs. refl) g none h

-- a parameter list
module _ {depth inner place : ℕ} {room between : Room} {ts behind : List Token} (h : HasAt (Mark s.OpenParen) ts place behind) (less : depth ≡ suc inner)
    (list : between ≡ with_elements parameter_limit room) where
  pub parameters_read : {room' : Room} {rest : List Token} {all : List Parameter} →
      ParsesClosed inner between p.SomeParameters s.CloseParen behind (v.Parameters all) room' rest →
      Parses depth room (Part p.ParameterList ∷ []) ts (v.Parameters all ∷ []) room' rest
  parameters_read r = open_reads less _ first refl refl h.front.shape h.front.is (after_list room between list) r.parses

  pub parameters_fails : {e : Stop} → Stops inner between (Part p.SomeParameters ∷ Take (Mark s.CloseParen) ∷ []) behind e →
      Stops depth room (Part p.ParameterList ∷ []) ts e
  parameters_fails r = open_fails less _ first refl refl h.front.shape h.front.is (after_list room between list) r
