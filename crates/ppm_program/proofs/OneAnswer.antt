-- A text has one program, or one refusal: from what is true of its bytes, its tokens, its tree and the tree's faults.
use Rattle.std.proofs.Common.{◌≡◌, ◌≢◌, ℕ, ◌≤◌, ◌<◌, Bool, true, false, List, length, ◌++◌, refl, ap, subst, arith, length-append}
use Rattle.std.specs.Prelude.{nat_lt}
use Rattle.ppm_text.specs.declared.token.Token.{Token}
use Rattle.ppm_text.specs.declared.text_error.TextError.{TextError}
use Rattle.ppm_text.specs.declared.text_error.TextError.TheVariants as text_error
use Rattle.ppm_text.specs.Limits.{text_limit}
use Rattle.ppm_text.specs.Tokens.{text_tokens}
use Rattle.ppm_text.specs.Lexing.{IsTextOf}
use Rattle.ppm_text.specs.Refusals.{IsRefused, too_long, faulty, no_memory}
use Rattle.ppm_text.specs.Refusals.{IsFault, not_ascii, bad_char, number_too_big, name_too_long}
use Rattle.ppm_text.specs.Correct.{HaveOneReading}
use Rattle.ppm_tree.specs.Tree.{ProgramTree}
use Rattle.ppm_rows.specs.Correct.{HasTree, TokensHaveOneAnswer}
use Rattle.ppm_parser.specs.declared.syntax_error.SyntaxError.{SyntaxError}
use Rattle.ppm_parser.specs.Faults as syntax
use Rattle.ppm_regions.specs.declared.region_error.RegionError.{RegionError}
use Rattle.ppm_regions.specs.declared.region_error.RegionError.TheVariants as region_error
use Rattle.ppm_regions.specs.Admission.{IsAdmitted}
use Rattle.ppm_regions.specs.Admission as region
use Rattle.ppm_regions.specs.Correct.{HaveOneFault}
use Rattle.ppm_cut_bounds.specs.declared.bound_error.BoundError.{BoundError}
use Rattle.ppm_cut_bounds.specs.Bounds.{IsWithinBounds}
use Rattle.ppm_cut_bounds.specs.Refusals as bound
use Rattle.ppm_cut_bounds.specs.Correct.{HaveOneFault as HaveOneBoundFault}
use Rattle.ppm_answers.specs.declared.refusal.Refusal.{Refusal}
use Rattle.ppm_program.specs.Programs.{HasTokens, IsTreeOf, IsAdmittedTreeOf, HasProgram}
use Rattle.ppm_program.specs.Refusals.{IsTextFault, IsSyntaxFault, IsRegionFault, IsBoundFault, IsRefusal, by_text, by_syntax, by_region, by_bound}
use Rattle.ppm_program.specs.Refusals.{text_refusal, syntax_refusal, region_refusal, bound_refusal}
use Rattle.ppm_program.specs.Correct.{HasNoProgram, HaveOneAnswer}
use Rattle.ppm_program.proofs.SyntaxFaults.{one_syntax, not_both, tree_or_fault, ToldOf}
use Rattle.ppm_program.proofs.RegionFaults.{one_region, not_admitted, admitted_or_fault}

-- what the crates below show of every text
pub record Laws : Type 0 where
  pub reading : HaveOneReading
  pub tokens : TokensHaveOneAnswer
  pub regions : HaveOneFault
  pub bounds : HaveOneBoundFault

-- a text with tokens is not refused as a text
lexed_unrefused : Laws → (text : List ℕ) (e : TextError) → (ts : List Token) → HasTokens text ts → IsTextFault text e → ⊥
lexed_unrefused laws text e ts h k = go e k.fault k.given where
  go : (e : TextError) → IsRefused text e → e ≢ text_error.NoMemory → ⊥
  go _ (too_long over) given = let short = h.short in absurd (omega (arith, over, short))
  go e (faulty short f) given = (laws.reading text).either ts e h.lexed f
  go _ (no_memory short) given = given refl

-- a text is refused as a text in one way
one_text_fault : Laws → (text : List ℕ) (e f : TextError) → IsRefused text e → IsRefused text f → e ≢ text_error.NoMemory →
    f ≢ text_error.NoMemory → e ≡ f
one_text_fault laws text _ _ (too_long h) (too_long k) g i = refl
one_text_fault laws text _ o (too_long h) (faulty k f) g i = absurd (omega (arith, h, k))
one_text_fault laws text e _ (faulty h f) (too_long k) g i = absurd (omega (arith, h, k))
one_text_fault laws text e o (faulty h f) (faulty k p) g i = (laws.reading text).fault e o f p
one_text_fault laws text _ o (no_memory h) k g i = absurd (g refl)
one_text_fault laws text e _ h (no_memory k) g i = absurd (i refl)

-- the tokens of a text are one list
one_tokens : Laws → (text : List ℕ) (ts us : List Token) → HasTokens text ts → HasTokens text us → ts ≡ us
one_tokens laws text ts us h k = (laws.reading text).tokens ts us h.lexed k.lexed

-- and its trees one tree
one_tree : Laws → (text : List ℕ) (t u : ProgramTree) → IsTreeOf text t → IsTreeOf text u → t ≡ u
one_tree laws text t u h k =
    let same : h.tokens ≡ k.tokens = one_tokens laws text h.tokens k.tokens h.lexed k.lexed in
    (laws.tokens k.tokens).tree t u (subst (λ ts. HasTree ts t) same h.tree) k.tree

-- a text with a tree has no fault of its tokens
tree_unfaulted : Laws → (text : List ℕ) (t : ProgramTree) (e : SyntaxError) → IsTreeOf text t → IsSyntaxFault text e → ⊥
tree_unfaulted laws text t e h f =
    let same : h.tokens ≡ f.tokens = one_tokens laws text h.tokens f.tokens h.lexed f.lexed in
    not_both (laws.tokens f.tokens) (length text) t e (subst (λ ts. HasTree ts t) same h.tree) f.fault f.given

-- the tokens of a text have one fault
one_syntax_fault : Laws → (text : List ℕ) (e f : SyntaxError) → IsSyntaxFault text e → IsSyntaxFault text f → syntax_refusal e ≡ syntax_refusal f
one_syntax_fault laws text e f h k =
    let same : h.tokens ≡ k.tokens = one_tokens laws text h.tokens k.tokens h.lexed k.lexed in
    one_syntax (laws.tokens k.tokens) (length text) e f (subst (λ ts. syntax.IsFault (text_tokens ts (length text)) e) same h.fault) k.fault
    h.given k.given

-- the tree of a text has one fault
one_region_fault : Laws → (text : List ℕ) (e f : RegionError) → IsRegionFault text e → IsRegionFault text f → region_refusal e ≡ region_refusal f
one_region_fault laws text e f h k =
    let same : h.tree ≡ k.tree = one_tree laws text h.tree k.tree h.derived k.derived in
    one_region laws.regions k.tree e f (subst (λ t. region.IsRefused t e) same h.fault) k.fault h.given k.given

-- an admitted tree has no fault
admitted_unfaulted : Laws → (text : List ℕ) (t : ProgramTree) (e : RegionError) → IsAdmittedTreeOf text t → IsRegionFault text e → ⊥
admitted_unfaulted laws text t e h f =
    let same : t ≡ f.tree = one_tree laws text t f.tree h.tree f.derived in
    not_admitted f.tree e f.fault f.given (subst IsAdmitted same h.admitted)

-- an admitted tree passes one bound first
one_bound_fault : Laws → (text : List ℕ) (e f : BoundError) → IsBoundFault text e → IsBoundFault text f → e ≡ f
one_bound_fault laws text e f h k =
    let same : h.tree ≡ k.tree = one_tree laws text h.tree k.tree h.admitted.tree k.admitted.tree in
    (laws.bounds k.tree).fault e f (record { refused = subst (λ t. bound.IsRefused t e) same h.fault; given = h.given })
    (record { refused = k.fault; given = k.given })

-- one that is within the bounds passes none
bounded_unfaulted : Laws → (text : List ℕ) (t : ProgramTree) (e : BoundError) → HasProgram text t → IsBoundFault text e → ⊥
bounded_unfaulted laws text t e h f =
    let same : t ≡ f.tree = one_tree laws text t f.tree h.admitted.tree f.admitted.tree in
    (laws.bounds f.tree).either e (record { refused = f.fault; given = f.given }) (subst IsWithinBounds same h.bounded)

module _ (laws : Laws) (text : List ℕ) where
  -- a text with a tree has no fault as a text
  tree_unrefused : (t : ProgramTree) (e : TextError) → IsTreeOf text t → IsTextFault text e → ⊥
  tree_unrefused t e h f = lexed_unrefused laws text e h.tokens h.lexed f

  -- two refusals of a text are one
  one_refusal : (r s : Refusal) → IsRefusal text r → IsRefusal text s → r ≡ s
  one_refusal _ _ (by_text {e = e} h) (by_text {e = f} k) = ap text_refusal (one_text_fault laws text e f h.fault k.fault h.given k.given)
  one_refusal _ _ (by_text {e = e} h) (by_syntax k) = absurd (lexed_unrefused laws text e k.tokens k.lexed h)
  one_refusal _ _ (by_text {e = e} h) (by_region k) = absurd (tree_unrefused k.tree e k.derived h)
  one_refusal _ _ (by_text {e = e} h) (by_bound k) = absurd (tree_unrefused k.tree e k.admitted.tree h)
  one_refusal _ _ (by_syntax h) (by_text {e = f} k) = absurd (lexed_unrefused laws text f h.tokens h.lexed k)
  one_refusal _ _ (by_syntax {e = e} h) (by_syntax {e = f} k) = one_syntax_fault laws text e f h k
  one_refusal _ _ (by_syntax {e = e} h) (by_region k) = absurd (tree_unfaulted laws text k.tree e k.derived h)
  one_refusal _ _ (by_syntax {e = e} h) (by_bound k) = absurd (tree_unfaulted laws text k.tree e k.admitted.tree h)
  one_refusal _ _ (by_region h) (by_text {e = f} k) = absurd (tree_unrefused h.tree f h.derived k)
  one_refusal _ _ (by_region h) (by_syntax {e = f} k) = absurd (tree_unfaulted laws text h.tree f h.derived k)
  one_refusal _ _ (by_region {e = e} h) (by_region {e = f} k) = one_region_fault laws text e f h k
  one_refusal _ _ (by_region {e = e} h) (by_bound k) = absurd (admitted_unfaulted laws text k.tree e k.admitted h)
  one_refusal _ _ (by_bound h) (by_text {e = f} k) = absurd (tree_unrefused h.tree f h.admitted.tree k)
  one_refusal _ _ (by_bound h) (by_syntax {e = f} k) = absurd (tree_unfaulted laws text h.tree f h.admitted.tree k)
  one_refusal _ _ (by_bound h) (by_region {e = f} k) = absurd (admitted_unfaulted laws text h.tree f h.admitted k)
  one_refusal _ _ (by_bound {e = e} h) (by_bound {e = f} k) = ap bound_refusal (one_bound_fault laws text e f h k)

  -- a text that is refused has no program
  refused_no_program : (r : Refusal) → IsRefusal text r → HasNoProgram text
  refused_no_program _ (by_text {e = e} h) t has = tree_unrefused t e has.admitted.tree h
  refused_no_program _ (by_syntax {e = e} h) t has = tree_unfaulted laws text t e has.admitted.tree h
  refused_no_program _ (by_region {e = e} h) t has = admitted_unfaulted laws text t e has.admitted h
  refused_no_program _ (by_bound {e = e} h) t has = bounded_unfaulted laws text t e has h

-- what stands after more bytes than a text may have changes no refusal
front : (text rest : List ℕ) (r : Refusal) → text_limit < length text → IsRefusal text r → IsRefusal (text ++ rest) r
front text rest _ long (by_text {e = e} h) = go e h.fault h.given where
  go : (e : TextError) → IsRefused text e → e ≢ text_error.NoMemory → IsRefusal (text ++ rest) (text_refusal e)
  go _ (too_long over) given = by_text (record { fault = too_long (omega (arith, over, length-append text rest)); given = given })
  go e (faulty short f) given = absurd (omega (arith, long, short))
  go _ (no_memory short) given = absurd (given refl)
front text rest _ long (by_syntax h) = let short = h.lexed.short in absurd (omega (arith, long, short))
front text rest _ long (by_region h) = let short = h.derived.lexed.short in absurd (omega (arith, long, short))
front text rest _ long (by_bound h) = let short = h.admitted.tree.lexed.short in absurd (omega (arith, long, short))

-- a fault of a text is not want of memory
fault_given : {place : ℕ} {bytes : List ℕ} {e : TextError} → IsFault place bytes e → e ≢ text_error.NoMemory
fault_given (not_ascii class) = λ h. cc
fault_given (bad_char class begins) = λ h. cc
fault_given (number_too_big longest over) = λ h. cc
fault_given (name_too_long longest over) = λ h. cc

-- a text that is not refused
module _ (laws : Laws) (text : List ℕ) (free : (r : Refusal) → IsRefusal text r → ⊥) where
  -- keeps the limit on its bytes
  is_short : length text ≤ text_limit
  is_short = go (nat_lt text_limit (length text)) refl
    where
      go : (b : Bool) → nat_lt text_limit (length text) ≡ b → length text ≤ text_limit
      go true over = absurd (free _ (by_text {e = text_error.TooLong text_limit} (record { fault = too_long (grind (arith, over)); given = λ h. cc })))
      go false over = grind (arith, over)

  -- has tokens
  has_tokens : (ts : List Token) × HasTokens text ts
  has_tokens =
      let r : (ts : List Token) × IsTextOf text ts =
      (laws.reading text).none (λ e f. free (text_refusal e) (by_text (record { fault = faulty is_short f; given = fault_given f.fault }))) in
      (r.0, record { short = is_short; lexed = r.1 })

  -- its tokens have a tree
  has_tree : (t : ProgramTree) × IsTreeOf text t
  has_tree =
      let ts = has_tokens in
      let no_fault : (e : SyntaxError) → ToldOf ts.0 (length text) e → ⊥ =
      λ e f. free (syntax_refusal e) (by_syntax (record { tokens = ts.0; lexed = ts.1; fault = f.fault; given = f.given })) in
      let r = tree_or_fault (laws.tokens ts.0) (length text) no_fault in
      (r.0, record { tokens = ts.0; lexed = ts.1; tree = r.1 })

  -- the tree is admitted
  has_admitted : (t : ProgramTree) × IsAdmittedTreeOf text t
  has_admitted =
      let r = has_tree in
      let no_fault : (e : RegionError) → region.IsRefused r.0 e → e ≢ region_error.NoMemory → ⊥ =
      λ e f given. free (region_refusal e) (by_region (record { tree = r.0; derived = r.1; fault = f; given = given })) in
      (r.0, record { tree = r.1; admitted = admitted_or_fault laws.regions r.0 no_fault })

  -- and within the bounds
  has_program : (t : ProgramTree) × HasProgram text t
  has_program =
      let r = has_admitted in (
        r.0,
        record {
          admitted = r.1;
          bounded = (laws.bounds r.0).none (λ e f. free (bound_refusal e)
              (by_bound (record { tree = r.0; admitted = r.1; fault = f.refused; given = f.given })));
        },
      )

-- a text has one program, or one refusal
pub have_one_answer : Laws → HaveOneAnswer
have_one_answer laws text = record {
  program = λ t u h k. one_tree laws text t u h.admitted.tree k.admitted.tree;
  refusal = one_refusal laws text;
  either = refused_no_program laws text;
  none = has_program laws text;
  front = front text;
}
