-- Tokens have a tree, or one fault as the parser tells it.
use Rattle.std.proofs.Common.{◌≡◌, ◌≢◌, ◌⊎◌, inl, inr, ℕ, Bool, true, false, if◌then◌else◌, List, [], ◌∷◌, ◌++◌, Option, Some, None, refl, sym, ap, ◌∙◌, subst}
use Rattle.ppm_grammar.specs.Limits.{Tally, none_counted, passed, after_marks}
use Rattle.ppm_grammar.specs.Faults.{Fault, Expected, Ended, TooDeep, TooMany}
use Rattle.ppm_text.specs.declared.token.Token.{Token}
use Rattle.ppm_text.specs.Tokens.{text_tokens}
use Rattle.ppm_tree.specs.Tree.{ProgramTree}
use Rattle.ppm_rows.specs.Limits.{limits}
use Rattle.ppm_rows.specs.Correct.{HasTree, HasFault, HasOneAnswer}
use Rattle.ppm_parser.specs.declared.limit.Limit.{Limit}
use Rattle.ppm_parser.specs.declared.limit.Limit.TheVariants as limit
use Rattle.ppm_parser.specs.declared.syntax_error.SyntaxError.{SyntaxError}
use Rattle.ppm_parser.specs.declared.syntax_error.SyntaxError.TheVariants as syntax_error
use Rattle.ppm_parser.specs.SyntaxErrorNumbers.{number_of, place_of, which_of}
use Rattle.ppm_parser.specs.Faults.{IsFault}
use Rattle.ppm_answers.specs.declared.refusal.Pass.TheVariants as pass
use Rattle.ppm_program.specs.Refusals.{syntax_refusal}

-- the parser may tell this of the tokens of a text of so many bytes
pub record ToldOf (ts : List Token) (text_len : ℕ) (e : SyntaxError) : Type 0 where
  pub fault : IsFault (text_tokens ts text_len) e
  pub given : e ≢ syntax_error.NoMemory

-- the fault of the grammar that is told; none where memory was refused
abbrev fault_in : SyntaxError → Option Fault
fault_in (syntax_error.Expected p) = Some (Expected p)
fault_in (syntax_error.Ended p) = Some Ended
fault_in (syntax_error.TooDeep p) = Some (TooDeep p)
fault_in (syntax_error.TooMany p which) = Some (TooMany p (which_of which))
fault_in syntax_error.NoMemory = None

-- what is told is a fault of the tokens
has_fault : (ts : List Token) (n : ℕ) (e : SyntaxError) → IsFault (text_tokens ts n) e → e ≢ syntax_error.NoMemory →
    (f : Fault) × (fault_in e ≡ Some f) × HasFault ts f
has_fault ts n (syntax_error.Expected p) h given = (Expected p, refl, h)
has_fault ts n (syntax_error.Ended p) h given = (Ended, refl, h.0)
has_fault ts n (syntax_error.TooDeep p) h given = (TooDeep p, refl, h)
has_fault ts n (syntax_error.TooMany p which) h given = (TooMany p (which_of which), refl, h)
has_fault ts n syntax_error.NoMemory h given = absurd (given refl)

-- of one fault one number and place are told
told : (ts : List Token) (n : ℕ) (d e : SyntaxError) → IsFault (text_tokens ts n) d → IsFault (text_tokens ts n) e → d ≢ syntax_error.NoMemory →
    fault_in d ≡ fault_in e → (number_of d ≡ number_of e) × (place_of d ≡ place_of e)
told ts n (syntax_error.Expected p) (syntax_error.Expected q) h k given same = (refl, cc)
told ts n (syntax_error.Ended p) (syntax_error.Ended q) h k given same = (refl, h.1 ∙ sym k.1)
told ts n (syntax_error.TooDeep p) (syntax_error.TooDeep q) h k given same = (refl, cc)
told ts n (syntax_error.TooMany p c) (syntax_error.TooMany q d) h k given same = (refl, cc)
told ts n syntax_error.NoMemory e h k given same = absurd (given refl)
told ts n d e h k given same = cc

-- the refusals for what is told of tokens are one
pub one_syntax : {ts : List Token} → HasOneAnswer ts → (n : ℕ) (d e : SyntaxError) → IsFault (text_tokens ts n) d → IsFault (text_tokens ts n) e →
    d ≢ syntax_error.NoMemory → e ≢ syntax_error.NoMemory → syntax_refusal d ≡ syntax_refusal e
one_syntax {ts = ts} law n d e h k g i =
    let f = has_fault ts n d h g in
    let o = has_fault ts n e k i in
    let same = told ts n d e h k g (f.1 ∙ ap (λ x. Some x) (law.fault f.0 o.0 f.2 o.2) ∙ sym o.1) in
    λ i. record { pass = pass.Syntax; number = same.0 i; place = same.1 i }

-- tokens that have a tree have no fault
pub not_both : {ts : List Token} → HasOneAnswer ts → (n : ℕ) (t : ProgramTree) (e : SyntaxError) → HasTree ts t → IsFault (text_tokens ts n) e →
    e ≢ syntax_error.NoMemory → ⊥
not_both {ts = ts} law n t e h k given = let f = has_fault ts n e k given in law.either t f.0 h f.2

-- the limit of a number that is told
with_number : (a b c d e : Bool) (n : ℕ) → (if a then Some 1 else if b then Some 2 else if c then Some 3 else if d then Some 4 else if e then Some 5 else None)
    ≡ Some n → (l : Limit) × (which_of l ≡ n)
with_number true b c d e n h = (limit.Arrays, cc)
with_number false true c d e n h = (limit.ArrayWords, cc)
with_number false false true d e n h = (limit.Procedures, cc)
with_number false false false true e n h = (limit.Elements, cc)
with_number false false false false true n h = (limit.Nodes, cc)
with_number false false false false false n h = cc

passed_limit : (c : Tally) (n : ℕ) → passed limits.most c ≡ Some n → (l : Limit) × (which_of l ≡ n)
passed_limit c n h = with_number _ _ _ _ _ n h

-- a fault of too many is not want of memory
many_given : (p : ℕ) (l : Limit) → syntax_error.TooMany p l ≢ syntax_error.NoMemory
many_given p l = λ f. cc

-- what passes a limit is told by the limit
many : (ts : List Token) (n p which : ℕ) → HasFault ts (TooMany p which) → (l : Limit) × (which_of l ≡ which) → (e : SyntaxError) × ToldOf ts n e
many ts n p which h l =
    (syntax_error.TooMany p l.0, record { fault = subst (λ w. HasFault ts (TooMany p w)) (sym l.1) h; given = many_given p l.0 })

-- a fault of tokens is told
faulty : (ts : List Token) (n : ℕ) (f : Fault) → HasFault ts f → (e : SyntaxError) × ToldOf ts n e
faulty ts n (Expected p) h = (syntax_error.Expected p, record { fault = h; given = λ f. cc })
faulty ts n Ended h = (syntax_error.Ended n, record { fault = (h, refl); given = λ f. cc })
faulty ts n (TooDeep p) h = (syntax_error.TooDeep p, record { fault = h; given = λ f. cc })
faulty ts n (TooMany p which) h = many ts n p which h (passed_limit (after_marks limits (h.marks ++ h.last ∷ []) ts none_counted) which h.many)

-- tokens of which nothing is told have a tree
pub tree_or_fault : {ts : List Token} → HasOneAnswer ts → (n : ℕ) → ((e : SyntaxError) → ToldOf ts n e → ⊥) → (t : ProgramTree) × HasTree ts t
tree_or_fault {ts = ts} law n free = go law.one where
  go : ((t : ProgramTree) × HasTree ts t) ⊎ ((f : Fault) × HasFault ts f) → (t : ProgramTree) × HasTree ts t
  go (inl r) = r
  go (inr r) = let e = faulty ts n r.0 r.1 in absurd (free e.0 e.1)
