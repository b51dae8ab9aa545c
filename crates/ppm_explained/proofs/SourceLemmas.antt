-- A source that is refused has notes, and no two.
use Rattle.std.proofs.Common.{◌≡◌, ℕ, suc, ◌<◌, ◌≤◌, Bool, true, false, List, [], ◌∷◌, ◌++◌, length, Option, Some, None, refl, sym, ap, ◌∙◌, subst, arith}
use Rattle.std.proofs.Common.{append-nil}
use Rattle.std.specs.Prelude.{nat_lt, slice_index_or}
use Rattle.std.specs.List.{AllPairs, filter}
use Rattle.ppm_text.specs.declared.token.Token.{Token}
use Rattle.ppm_text.proofs.LexingLemmas.{one_lexing}
use Rattle.ppm_grammar.specs.Rows.{In, first, later}
use Rattle.ppm_grammar.specs.Derivation.{beginning}
use Rattle.ppm_grammar.specs.Faults.{IsFirstUnexpected, IsEnded}
use Rattle.ppm_grammar.specs.Stack.{step}
use Rattle.ppm_rows.specs.Kinds.{Terminal, sample, sampled, terminal, terminal_number, terminals}
use Rattle.ppm_rows.specs.Follow.{may_follow}
use Rattle.ppm_rows.specs.Language.{language}
use Rattle.ppm_rows.specs.Limits.{limits}
use Rattle.ppm_rows.specs.Correct.{HasTree, TokensHaveOneAnswer}
use Rattle.ppm_tree.specs.Tree.{ProgramTree}
use Rattle.ppm_expected.specs.Machine.{comes_first, items_due, may_end, still}
use Rattle.ppm_expected.specs.Next.{AreExpected, BeginsText}
use Rattle.ppm_expected.proofs.ChoiceLemmas.{predictive}
use Rattle.ppm_expected.proofs.FollowLemmas.{found_in_order}
use Rattle.ppm_expected.proofs.NextLemmas.{all_read, are_expected, left_by, none_next, same_front}
use Rattle.ppm_parser.specs.declared.syntax_error.SyntaxError.{SyntaxError}
use Rattle.ppm_parser.specs.declared.syntax_error.SyntaxError.TheVariants as syntax_error
use Rattle.ppm_answers.specs.declared.refusal.Pass.{Pass}
use Rattle.ppm_answers.specs.declared.refusal.Pass.TheVariants as pass
use Rattle.ppm_answers.specs.declared.refusal.Refusal.{Refusal}
use Rattle.ppm_program.specs.Programs.{HasTokens, HasProgram}
use Rattle.ppm_program.specs.Refusals.{IsRefusal, IsSyntaxFault, by_text, by_syntax, by_region, by_bound, syntax_refusal}
use Rattle.ppm_program.specs.Correct.{HaveOneAnswer as ProgramsAreOne}
use Rattle.ppm_explain.specs.Spread.{IsJudged, faulty, spread}
use Rattle.ppm_explain.specs.Sources.{AreNotes, ByFault, ByStop, BySyntax, ByTokens, ByTree, ExplainedBy, Follow, GoTo, bound_notes, bytes_notes, fault_notes, limit_notes, stop_notes}

-- ---- how far tokens go

-- where nothing more can come of these, no step is there
stuck : {ts front rest : List Token} → GoTo ts front rest → {left : _} → still language (beginning language) front ≡ Some left
    → (u : Token) (us : List Token) → rest ≡ u ∷ us → step language left (terminal u.kind) ≡ None
stuck {front = front} g {left} is u us e = none_next language may_follow predictive front u left is (g.ends u us e)

-- tokens go to one place
pub one_front : (ts f g r q : List Token) → GoTo ts f r → GoTo ts g q → f ≡ g
one_front ts f g r [] a b =
    let x = left_by language may_follow predictive f a.begins in
    let y = left_by language may_follow predictive g b.begins in
    let whole : ts ≡ g = b.shape ∙ append-nil g in
    let none = all_read language (beginning language) f r x.is (stuck a x.is)
    (ap (still language (beginning language)) (sym a.shape ∙ whole) ∙ y.is) in
    sym (append-nil f) ∙ ap (λ s. f ++ s) (sym none) ∙ sym a.shape ∙ whole
one_front ts f g r (u ∷ us) a b =
    let x = left_by language may_follow predictive f a.begins in
    let y = left_by language may_follow predictive g b.begins in
    same_front language (beginning language) f g r us u (sym a.shape ∙ b.shape) x.is (stuck a x.is) y.is (stuck b y.is u us refl)

same_head : {x y : Token} {xs ys : List Token} → x ∷ xs ≡ y ∷ ys → x ≡ y
same_head e = cc

-- they go to a token that cannot come
pub to_unexpected : {ts : List Token} {place : ℕ} (h : IsFirstUnexpected language limits ts place) → GoTo ts h.front (h.found ∷ h.stands.more)
to_unexpected h = record {
  shape = h.stands.shape;
  begins = record { marks = h.marks; begins = h.begins };
  ends = λ t more e b.
      let c : BeginsText language (h.front ++ h.found ∷ []) = subst (λ u. BeginsText language (h.front ++ u ∷ [])) (sym (same_head e)) b in
      h.ends c.marks c.begins;
}

no_more : {t : Token} {more : List Token} → [] ≡ t ∷ more → ⊥
no_more e = cc

-- or to their end
pub to_end : {ts : List Token} → IsEnded language limits ts → GoTo ts ts []
to_end {ts = ts} h = record {
  shape = sym (append-nil ts);
  begins = record { marks = h.marks; begins = h.begins };
  ends = λ t more e b. no_more e;
}

-- ---- what can follow

abbrev Below : Terminal → Terminal → Type 0
Below x y = terminal_number x < terminal_number y

-- what is in a list that is above a kind is above it
above : (x : Terminal) {y : Terminal} {ys : List Terminal} → ((k : ℕ) (d : Terminal) → k < length ys → Below x (slice_index_or ys k d))
    → In y ys → Below x y
above x {y = y} h first = h 0 y (omega arith)
above x {y = y} h (later {xs = zs} i) = above x {y = y} {ys = zs} (λ k d less. h (suc k) d (omega (arith, less))) i

-- the others of an ordered list
above_first : (x : Terminal) {y : Terminal} (xs : List Terminal) → AllPairs Below (x ∷ xs) → In y xs → Below x y
above_first x {y = y} xs o i = above x {y = y} {ys = xs} (λ k d less. o 0 (suc k) d (omega arith) (omega (arith, less))) i

tail_of : (x : Terminal) (xs : List Terminal) → AllPairs Below (x ∷ xs) → AllPairs Below xs
tail_of x xs o i j d less below = o (suc i) (suc j) d (omega (arith, less)) (omega (arith, below))

-- two ordered lists with the same elements have the same first
heads : {x y : Terminal} {xs ys : List Terminal} → AllPairs Below (x ∷ xs) → AllPairs Below (y ∷ ys) → In x (y ∷ ys) → In y (x ∷ xs) → x ≡ y
heads o p first j = refl
heads o p (later i) first = refl
heads {x = x} {y = y} {xs = xs} {ys = ys} o p (later i) (later j) =
    let a : Below y x = above_first y ys p i in
    let b : Below x y = above_first x xs o j in
    absurd (omega (arith, a, b))

-- what is after the first of one is after that of the other
behind : {x y k : Terminal} {xs ys : List Terminal} → x ≡ y → AllPairs Below (x ∷ xs) → In k xs → In k (y ∷ ys) → In k ys
behind {x = x} {y = y} {xs = xs} e o i first =
    let a : Below x y = above_first x xs o i in
    let same = ap terminal_number e in
    absurd (omega (arith, a, same))
behind e o i (later j) = j

one_list : (xs ys : List Terminal) → AllPairs Below xs → AllPairs Below ys → ((k : Terminal) → In k xs → In k ys) → ((k : Terminal) → In k ys → In k xs)
    → xs ≡ ys
one_list [] [] o p to from = refl
one_list [] (y ∷ ys) o p to from = elim (from y first) [ ]
one_list (x ∷ xs) [] o p to from = elim (to x first) [ ]
one_list (x ∷ xs) (y ∷ ys) o p to from =
    let e : x ≡ y = heads o p (to x first) (from y first) in
    let rest = one_list xs ys (tail_of x xs o) (tail_of y ys p) (λ k i. behind e o i (to k (later i)))
    (λ k i. behind (sym e) p i (from k (later i))) in
    ap (λ z. z ∷ xs) e ∙ ap (λ zs. y ∷ zs) rest

-- a kind that can stand there by one list can by another
by_sample : {front : List Token} {kinds others : List Terminal} {end end' : Bool} → AreExpected language front kinds end
    → AreExpected language front others end' → (k : Terminal) → In k kinds → In k others
by_sample {kinds = kinds} {others = others} a b k i =
    subst (λ x. In x others) (sampled k) ((b.tokens (sample k)).1 ((a.tokens (sample k)).0 (subst (λ x. In x kinds) (sym (sampled k)) i)))

one_end : (a b : Bool) → (a ≡ true → b ≡ true) → (b ≡ true → a ≡ true) → a ≡ b
one_end true b to from = sym (to refl)
one_end false true to from = from refl
one_end false false to from = refl

-- what can follow is one
pub one_kinds : {front : List Token} {kinds others : List Terminal} {end end' : Bool} → Follow front kinds end → Follow front others end' → kinds ≡ others
one_kinds {kinds = kinds} {others = others} a b =
    one_list kinds others a.order b.order (by_sample a.exactly b.exactly) (by_sample b.exactly a.exactly)

pub same_end : {front : List Token} {kinds others : List Terminal} {end end' : Bool} → Follow front kinds end → Follow front others end' → end ≡ end'
same_end {end = end} {end' = end'} a b =
    one_end end end' (λ e. b.exactly.whole.1 (a.exactly.whole.0 e)) (λ e. a.exactly.whole.1 (b.exactly.whole.0 e))

-- after tokens with which a text begins something can, or nothing
pub record Followed (front : List Token) : Type 0 where
  pub kinds : List Terminal
  pub end : Bool
  pub follows : Follow front kinds end

pub followed : (front : List Token) → BeginsText language front → Followed front
followed front b =
    let left = left_by language may_follow predictive front b in
    record {
      kinds = filter (comes_first language (items_due left.found)) terminals;
      end = may_end language (items_due left.found);
      follows = record {
        exactly = are_expected language may_follow predictive front left.found left.is;
        order = found_in_order (comes_first language (items_due left.found));
      };
    }

-- ---- the notes of a stop

module _ (programs : ProgramsAreOne) where
  -- how a text is judged is one
  one_judged : (given : List ℕ) (j k : Option Refusal) → IsJudged given j → IsJudged given k → j ≡ k
  one_judged given None None a b = refl
  one_judged given None (Some s) a b = absurd ((programs given).either s b a.tree a.program)
  one_judged given (Some r) None a b = absurd ((programs given).either r a b.tree b.program)
  one_judged given (Some r) (Some s) a b = ap (λ x. Some x) ((programs given).refusal r s a b)

module _ (text : List ℕ) (programs : ProgramsAreOne) (trees : TokensHaveOneAnswer) where
  -- two tokens lists of a text are one
  one_tokens : {ts us : List Token} → HasTokens text ts → HasTokens text us → ts ≡ us
  one_tokens a b = one_lexing a.lexed b.lexed

  by_tokens : (f : List Token → List ℕ) (m n : List ℕ) → ByTokens text f m → ByTokens text f n → m ≡ n
  by_tokens f m n a b = a.is ∙ ap f (one_tokens a.lexed b.lexed) ∙ sym b.is

  by_tree : (f : List Token → ProgramTree → List ℕ) (m n : List ℕ) → ByTree text f m → ByTree text f n → m ≡ n
  by_tree f m n a b =
      let same = one_tokens a.lexed b.lexed in
      let derived : HasTree b.tokens a.tree = subst (λ ts. HasTree ts a.tree) same a.derived in
      a.is ∙ ap (λ ts. f ts a.tree) same ∙ ap (f b.tokens) ((trees b.tokens).tree a.tree b.tree derived b.derived) ∙ sym b.is

  by_fault : (r : Refusal) (m n : List ℕ) → ByFault text r m → ByFault text r n → m ≡ n
  by_fault r m n a b =
      let same = one_tokens a.lexed b.lexed in
      let judges : IsJudged (spread b.tokens) a.judged = subst (λ ts. IsJudged (spread ts) a.judged) same a.judges in
      a.is ∙ ap (λ ts. fault_notes text ts (faulty r ts a.judged) r) same
      ∙ ap (λ j. fault_notes text b.tokens (faulty r b.tokens j) r) (one_judged programs (spread b.tokens) a.judged b.judged judges b.judges)
      ∙ sym b.is

  by_stop : (r : Refusal) (m n : List ℕ) → ByStop text r m → ByStop text r n → m ≡ n
  by_stop r m n a b =
      let same = one_tokens a.lexed b.lexed in
      let front : a.front ≡ b.front = one_front b.tokens a.front b.front a.rest b.rest (subst (λ ts. GoTo ts a.front a.rest) same a.goes) b.goes in
      let follows : Follow b.front a.kinds a.end = subst (λ f. Follow f a.kinds a.end) front a.follows in
      a.is ∙ ap (λ ts. stop_notes text ts a.kinds a.end r) same
      ∙ ap (λ ks. stop_notes text b.tokens ks a.end r) (one_kinds follows b.follows)
      ∙ ap (λ e. stop_notes text b.tokens b.kinds e r) (same_end follows b.follows) ∙ sym b.is

  below_by : (a b : ℕ) → nat_lt a b ≡ true → a < b
  below_by a b h = grind (arith, h)

  above_by : (a b : ℕ) → nat_lt a b ≡ false → b ≤ a
  above_by a b h = grind (arith, h)

  by_syntax_notes : (r : Refusal) (m n : List ℕ) → BySyntax text r m → BySyntax text r n → m ≡ n
  by_syntax_notes r m n a b = go (nat_lt r.number 3) refl where
    go : (few : Bool) → nat_lt r.number 3 ≡ few → m ≡ n
    go true e = let few = below_by r.number 3 e in by_stop r m n (a.stops few) (b.stops few)
    go false e = let many = above_by r.number 3 e in by_tokens (λ ts. limit_notes text ts r) m n (a.passes many) (b.passes many)

  by_pass : (p : Pass) (r : Refusal) (m n : List ℕ) → ExplainedBy p text r m → ExplainedBy p text r n → m ≡ n
  by_pass pass.Text r m n a b = a ∙ sym b
  by_pass pass.Syntax r m n a b = by_syntax_notes r m n a b
  by_pass pass.Region r m n a b = by_fault r m n a b
  by_pass pass.Cut r m n a b = by_tree (bound_notes r) m n a b
  by_pass pass.Ram r m n a b = a ∙ sym b

  -- the notes of a refusal are one
  pub one_notes : (r : Refusal) (m n : List ℕ) → AreNotes text r m → AreNotes text r n → m ≡ n
  one_notes r m n a b = by_pass r.pass r m n a b

-- ---- and they are there

module _ (text : List ℕ) (programs : ProgramsAreOne) where
  -- without them there is a contradiction
  abbrev pub HasNotes : Refusal → Type 0
  HasNotes r = ((notes : List ℕ) → AreNotes text r notes → ⊥) → ⊥

  -- the notes of tokens that go to a place
  stopped : (r : Refusal) (ts : List Token) → HasTokens text ts → (f q : List Token) → GoTo ts f q → (notes : List ℕ) × ByStop text r notes
  stopped r ts lexed f q g =
      let s = followed f g.begins in (
        stop_notes text ts s.kinds s.end r,
        record {
          tokens = ts;
          lexed = lexed;
          front = f;
          rest = q;
          goes = g;
          kinds = s.kinds;
          end = s.end;
          follows = s.follows;
          unexpected = λ place h. subst (λ x. Follow x s.kinds s.end) (one_front ts f h.front q (h.found ∷ h.stands.more) g (to_unexpected h)) s.follows;
          ended = λ h. subst (λ x. Follow x s.kinds s.end) (one_front ts f ts q [] g (to_end h)) s.follows;
          is = refl;
        },
      )

  -- those of the numbers 1 and 2
  few_notes : (r : Refusal) → r.number < 3 → (notes : List ℕ) × ByStop text r notes → (notes : List ℕ) × BySyntax text r notes
  few_notes r few n = (n.0, record { stops = λ h. n.1; passes = λ many. absurd (omega (arith, few, many)) })

  -- those of the others
  many_notes : (r : Refusal) → 3 ≤ r.number → (ts : List Token) → HasTokens text ts → (notes : List ℕ) × BySyntax text r notes
  many_notes r many ts lexed = (
    limit_notes text ts r,
    record { stops = λ few. absurd (omega (arith, few, many)); passes = λ h. record { tokens = ts; lexed = lexed; is = refl } },
  )

  syntax_has : (e : SyntaxError) → IsSyntaxFault text e → (notes : List ℕ) × BySyntax text (syntax_refusal e) notes
  syntax_has (syntax_error.Expected place) f =
      few_notes _ (omega arith) (stopped _ f.tokens f.lexed f.fault.front (f.fault.found ∷ f.fault.stands.more) (to_unexpected f.fault))
  syntax_has (syntax_error.Ended place) f =
      few_notes _ (omega arith) (stopped _ f.tokens f.lexed f.tokens [] (to_end f.fault.0))
  syntax_has (syntax_error.TooDeep place) f = many_notes _ (omega arith) f.tokens f.lexed
  syntax_has (syntax_error.TooMany place which) f = many_notes _ (omega arith) f.tokens f.lexed
  syntax_has syntax_error.NoMemory f = absurd (f.given refl)

  -- the text with each token in a line of its own is judged
  judged_has : (r : Refusal) (ts : List Token) → HasTokens text ts → ((notes : List ℕ) → ByFault text r notes → ⊥) → ⊥
  judged_has r ts lexed none = judged None (record { tree = found.0; program = found.1 })
    where
      judged : (j : Option Refusal) → IsJudged (spread ts) j → ⊥
      judged j is = none (fault_notes text ts (faulty r ts j) r) (record { tokens = ts; lexed = lexed; judged = j; judges = is; is = refl })

      found : (t : ProgramTree) × HasProgram (spread ts) t
      found = (programs (spread ts)).none (λ s k. judged (Some s) k)

  -- each refusal has notes
  pub some_notes : {r : Refusal} → IsRefusal text r → HasNotes r
  some_notes {r = r} (by_text f) none = none (bytes_notes text r) refl
  some_notes (by_syntax {e = e} f) none = let n = syntax_has e f in none n.0 n.1
  some_notes {r = r} (by_region f) none = judged_has r f.derived.tokens f.derived.lexed none
  some_notes {r = r} (by_bound f) none =
      none (bound_notes r f.admitted.tree.tokens f.tree)
      (record { tokens = f.admitted.tree.tokens; lexed = f.admitted.tree.lexed; tree = f.tree; derived = f.admitted.tree.tree; is = refl })
