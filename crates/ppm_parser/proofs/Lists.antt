-- Lists of parts with commas between them, up to the sign that closes them.
use Rattle.std.proofs.Common.{◌≡◌, ◌≢◌, ℕ, ◌≤◌, false, List, [], ◌∷◌, ◌++◌, length, refl, sym, ◌∙◌, ap, subst, arith, append_assoc}
use Rattle.std.proofs.lemmas.List.{append-nil as append_nil}
use Rattle.ppm_grammar.specs.Rows.{In, first, later, Take, Part}
use Rattle.ppm_grammar.specs.Predictive.{some, can_start, starts}
use Rattle.ppm_grammar.proofs.TextLemmas.{other_kind}
use Rattle.ppm_grammar.proofs.StatesLemmas as states
use Rattle.ppm_grammar.proofs.StatesLemmas.{LeadsState}
use Rattle.ppm_grammar.proofs.LeadsLemmas.{fronts, backs}
use Rattle.ppm_grammar.proofs.RowsLemmas.{shut_by}
use Rattle.ppm_text.specs.declared.token.Sign.{Sign}
use Rattle.ppm_text.specs.declared.token.Sign.TheVariants as s
use Rattle.ppm_text.specs.declared.token.Token.{Token}
use Rattle.ppm_rows.specs.Kinds.{Mark, terminal}
use Rattle.ppm_rows.specs.Values.{Value, Lexed}
use Rattle.ppm_rows.specs.Phrases.{Phrase}
use Rattle.ppm_rows.specs.Making.{Make, always}
use Rattle.ppm_rows.specs.Language.{form, sign, language, rows}
use Rattle.ppm_rows.specs.Follow.{may_follow}
use Rattle.ppm_rows.specs.Limits.{limits}
use Rattle.ppm_rows.proofs.OneAnswer.{is_predictive_language}
use Rattle.ppm_parser.specs.declared.room.Room.{Room}
use Rattle.ppm_parser.specs.declared.stop.Stop.{Stop}
use Rattle.ppm_parser.specs.Room.{Has}
use Rattle.ppm_parser.specs.Fronts.{HasAt, Misses, IsNotFront}
use Rattle.ppm_parser.specs.Parsing.{Items, Parses, Stops}
use Rattle.ppm_parser.proofs.Reading.{free, then_reads, then_fails, front_fails, of_same, take_reads, take_fails}

-- from where the part was to come these were read, and more may come
pub record Goes {A : Type 0} (n more : Phrase) (close : Sign) (wrap : List A → Value) (depth : ℕ) (room : Room) (ts : List Token) (all : List A)
    (room' : Room) (rest : List Token) : Type 0 where
  pub shorter : length rest ≤ length ts
  pub reads : (xs : List A) (end : Token) (room'' : Room) (rest' : List Token) →
      Parses depth room' (Part more ∷ Take (Mark close) ∷ []) rest (wrap xs ∷ Lexed end ∷ []) room'' rest' →
      Parses depth room (Part n ∷ Take (Mark close) ∷ []) ts (wrap (all ++ xs) ∷ Lexed end ∷ []) room'' rest'
  pub fails : (e : Stop) → Stops depth room' (Part more ∷ Take (Mark close) ∷ []) rest e → Stops depth room (Part n ∷ Take (Mark close) ∷ []) ts e

-- what leads on to a rest that stops, stops there too
leads_fails : {depth : ℕ} {room room' : Room} {xs ys : Items} {ts rest : List Token} {f : List Value → List Value} {e : Stop} →
    LeadsState language limits Has free depth room xs ts f room' ys rest → Stops depth room' ys rest e → Stops depth room xs ts e
leads_fails a b = record { fails = states.fails language limits Has free a b.fails }

-- a part and another
abbrev both : Phrase → Phrase → Items
both one more = Part one ∷ Part more ∷ []

-- the first elements of one list are one
head_is : {t u : Token} {xs ys : List Token} → t ∷ xs ≡ u ∷ ys → t ≡ u
head_is h = cc

module _ (more one : Phrase) (close : Sign) {A : Type 0} (wrap : List A → Value) (value : A → Value) (make : Make)
    (is_more : rows more ≡ form [] (always (wrap [])) ∷ form (sign s.Comma ∷ Part one ∷ Part more ∷ []) make ∷ [])
    (makes : (t : Token) (a : A) (xs : List A) → make (Lexed t ∷ value a ∷ wrap xs ∷ []) ≡ wrap (a ∷ xs)) where
  -- no comma, so no more
  none_starts : (t : Token) → terminal t.kind ≢ Mark s.Comma → starts language more (terminal t.kind) ≡ false
  none_starts t h =
      is_predictive_language.starts_is more (terminal t.kind)
      ∙ ap (λ q. some (λ row. can_start language (starts language) row.items (terminal t.kind)) q) is_more
      ∙ rw (other_kind language (Mark s.Comma) (terminal t.kind) h) refl

  module _ {depth : ℕ} {room' : Room} {rest : List Token} where
    -- a comma in front
    comma_leads : {place : ℕ} {behind : List Token} (h : HasAt (Mark s.Comma) rest place behind) →
        LeadsState language limits Has free depth room' (Part more ∷ Take (Mark close) ∷ []) rest
        (λ vs. make (Lexed h.token ∷ fronts (both one more) vs) ∷ backs (both one more) vs) room'
        (Part one ∷ Part more ∷ Take (Mark close) ∷ []) behind
    comma_leads h =
        states.a_row language limits Has free may_follow is_predictive_language (form (sign s.Comma ∷ Part one ∷ Part more ∷ []) make)
        (subst (λ q. In (form (sign s.Comma ∷ Part one ∷ Part more ∷ []) make) q) (sym is_more) (later first)) refl refl h.front.shape h.front.is
        (λ c has. has)

    -- no comma in front
    past_leads : IsNotFront (Mark s.Comma) rest →
        LeadsState language limits Has free depth room' (Part more ∷ Take (Mark close) ∷ []) rest (λ vs. wrap [] ∷ vs) room' (Take (Mark close) ∷ []) rest
    past_leads none =
        states.a_past language limits Has free may_follow is_predictive_language (form [] (always (wrap [])))
        (subst (λ q. In (form [] (always (wrap []))) q) (sym is_more) first) refl
        (λ t behind shape. none_starts t (subst (IsNotFront (Mark s.Comma)) shape none))

    module _ {n : Phrase} {room : Room} {ts : List Token} {all : List A} (g : Goes n more close wrap depth room ts all room' rest) where
      -- one more
      pub step : {place : ℕ} {behind rest' : List Token} {room'' : Room} {a : A} → HasAt (Mark s.Comma) rest place behind →
          Parses depth room' (Part one ∷ []) behind (value a ∷ []) room'' rest' → Goes n more close wrap depth room ts (all ++ a ∷ []) room'' rest'
      step {a = a} h r = record {
        shorter = let g1 = g.shorter in let g2 = r.shorter in let g3 = (comma_leads h).shorter in omega (arith, g1, g2, g3);
        reads = λ xs end last end_rest b.
            of_same (ap (λ q. wrap q ∷ Lexed end ∷ []) (sym (append_assoc all (a ∷ []) xs)))
            (g.reads (a ∷ xs) end last end_rest (of_same (ap (λ q. q ∷ Lexed end ∷ []) (makes h.token a xs))
            (states.reads language limits Has free (comma_leads h) (then_reads r b))));
        fails = λ e b. g.fails e (leads_fails (comma_leads h) (then_fails r b));
      }

      -- which stops
      pub step_fails : {place : ℕ} {behind : List Token} {e : Stop} → HasAt (Mark s.Comma) rest place behind → Stops depth room' (Part one ∷ []) behind e →
          Stops depth room (Part n ∷ Take (Mark close) ∷ []) ts e
      step_fails {e = e} h r = g.fails e (leads_fails (comma_leads h) (front_fails (Part more ∷ Take (Mark close) ∷ []) r))

      -- the end
      pub end_reads : {place : ℕ} {end : List Token} → IsNotFront (Mark s.Comma) rest → (h : HasAt (Mark close) rest place end) →
          Parses depth room (Part n ∷ Take (Mark close) ∷ []) ts (wrap all ∷ Lexed h.token ∷ []) room' end
      end_reads {end = end} none h =
          of_same (ap (λ q. wrap q ∷ Lexed h.token ∷ []) (append_nil all))
          (g.reads [] h.token room' end (states.reads language limits Has free (past_leads none) (take_reads h)))

      -- which is missing
      pub end_fails : {e : Stop} → IsNotFront (Mark s.Comma) rest → Misses (Mark close) rest e → Stops depth room (Part n ∷ Take (Mark close) ∷ []) ts e
      end_fails {e = e} none h = g.fails e (leads_fails (past_leads none) (take_fails (Mark close) rest h))

  -- nothing was read
  pub start : {depth : ℕ} {room : Room} {ts : List Token} → Goes more more close wrap depth room ts [] room ts
  start = record { shorter = omega arith; reads = λ xs end last end_rest b. b; fails = λ e b. b }

  module _ (list : Phrase) (make_list : Make)
      (is_list : rows list ≡ form [] (always (wrap [])) ∷ form (Part one ∷ Part more ∷ []) make_list ∷ [])
      (makes_list : (a : A) (xs : List A) → make_list (value a ∷ wrap xs ∷ []) ≡ wrap (a ∷ xs)) {depth : ℕ} {room : Room} {ts : List Token} where
    -- the sign that closes is not in front, so the first is to come
    first_leads : IsNotFront (Mark close) ts →
        LeadsState language limits Has free depth room (Part list ∷ Take (Mark close) ∷ []) ts
        (λ vs. make_list (fronts (both one more) vs) ∷ backs (both one more) vs) room
        (Part one ∷ Part more ∷ Take (Mark close) ∷ []) ts
    first_leads none =
        states.a_first language limits Has free may_follow is_predictive_language (form [] (always (wrap []))) (form (Part one ∷ Part more ∷ []) make_list)
        is_list refl refl refl refl (λ d. shut_by language limits may_follow is_predictive_language
        (λ t behind shape is. subst (IsNotFront (Mark close)) shape none is))

    -- the first
    pub first_goes : {room' : Room} {rest : List Token} {a : A} → IsNotFront (Mark close) ts → Parses depth room (Part one ∷ []) ts (value a ∷ []) room' rest →
        Goes list more close wrap depth room ts (a ∷ []) room' rest
    first_goes {a = a} none r = record {
      shorter = r.shorter;
      reads = λ xs end last end_rest b. of_same (ap (λ q. q ∷ Lexed end ∷ []) (makes_list a xs))
          (states.reads language limits Has free (first_leads none) (then_reads r b));
      fails = λ e b. leads_fails (first_leads none) (then_fails r b);
    }

    -- which stops
    pub first_fails : {e : Stop} → IsNotFront (Mark close) ts → Stops depth room (Part one ∷ []) ts e →
        Stops depth room (Part list ∷ Take (Mark close) ∷ []) ts e
    first_fails none r = leads_fails (first_leads none) (front_fails (Part more ∷ Take (Mark close) ∷ []) r)

    -- none
    pub none_reads : {place : ℕ} {end : List Token} → ((t : Token) → terminal t.kind ≡ Mark close → starts language list (terminal t.kind) ≡ false) →
        (h : HasAt (Mark close) ts place end) → Parses depth room (Part list ∷ Take (Mark close) ∷ []) ts (wrap [] ∷ Lexed h.token ∷ []) room end
    none_reads none h =
        states.reads language limits Has free (states.a_past language limits Has free may_follow is_predictive_language (form [] (always (wrap [])))
        (subst (λ q. In (form [] (always (wrap []))) q) (sym is_list) first) refl
        (λ t behind shape. none t (subst (λ q. terminal q.kind ≡ Mark close) (head_is (sym h.front.shape ∙ shape)) h.front.is))) (take_reads h)
