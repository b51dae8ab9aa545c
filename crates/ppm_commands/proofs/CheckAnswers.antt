-- A text has one answer where it is checked.
use Rattle.std.proofs.Common.{◌≡◌, ℕ, List, refl, sym, ◌∙◌, ap, subst}
use Rattle.ppm_code.specs.declared.code.CodeParts.{CodeParts}
use Rattle.ppm_war.specs.Conflicts.{IsFirstConflictOf}
use Rattle.ppm_listing_reader.specs.ErrorNumbers.{fault_number}
use Rattle.ppm_listing_reader.specs.Correct.{IsListing, FaultsTellListings}
use Rattle.ppm_answers.specs.declared.conflict.Conflict.{Conflict}
use Rattle.ppm_answers.specs.declared.conflict.ListingRefusal.{ListingRefusal}
use Rattle.ppm_answers.specs.declared.answer.Answer.{Answer}
use Rattle.ppm_answers.specs.declared.answer.Answer.TheVariants as answers
use Rattle.ppm_commands.specs.Check.{IsAccepted, IsConflicting, IsUnlisted, CheckHas, conflict_told, HaveOneAnswer}
use Rattle.ppm_gaps.proofs.FirstConflict.{one_conflict}
use Rattle.ppm_commands.proofs.LeastLemmas.{no_fault, no_conflict}
use Rattle.ppm_commands.proofs.LongTexts.{front}

-- a refusal by its parts
pub refusal_path : (q r : ListingRefusal) → q.number ≡ r.number → q.line ≡ r.line → q ≡ r
refusal_path q r number line = λ i. record { number = number i; line = line i }

module _ (law : FaultsTellListings) where
  -- an accepted code has no conflict
  not_both : (text : List ℕ) (c : Conflict) → IsAccepted text → IsConflicting text c → ⊥
  not_both text c a k =
      let same : k.code ≡ a.code = law.one_code text k.code a.code k.listed a.listed in
      let of_a = subst (λ x. IsFirstConflictOf x k.conflict) same k.first in
      a.free k.conflict.capsule k.conflict.read_at k.conflict.write_at k.conflict.class of_a.first.first.conflict

  -- a listing has no fault
  not_listed : (text : List ℕ) (code : CodeParts) (r : ListingRefusal) → IsListing text code → IsUnlisted text r → ⊥
  not_listed text code r l u = law.excludes text code u.rule r.line l u.first.there

  -- two conflicts of a text are one
  same_conflict : (text : List ℕ) (c d : Conflict) → IsConflicting text c → IsConflicting text d → c ≡ d
  same_conflict text c d k l =
      let same : k.code ≡ l.code = law.one_code text k.code l.code k.listed l.listed in
      let one : k.conflict ≡ l.conflict =
      one_conflict l.code k.conflict l.conflict (subst (λ x. IsFirstConflictOf x k.conflict) same k.first) l.first in
      k.tells ∙ ap conflict_told one ∙ sym l.tells

  -- two refusals of a text are one
  pub same_refusal : (text : List ℕ) (q r : ListingRefusal) → IsUnlisted text q → IsUnlisted text r → q ≡ r
  same_refusal text q r u v =
      let same = law.one_fault text u.rule v.rule q.line r.line u.first v.first in
      refusal_path q r (u.number ∙ ap fault_number same.0 ∙ sym v.number) same.1

  -- the answer of a text whose code is accepted is that
  of_accepted : (text : List ℕ) (b : Answer) → IsAccepted text → CheckHas text b → answers.Accepted ≡ b
  of_accepted text answers.Accepted h k = refl
  of_accepted text (answers.Conflicting c) h k = absurd (not_both text c h k)
  of_accepted text (answers.ListingRefused r) h k = absurd (not_listed text h.code r h.listed k)
  of_accepted text b h k = absurd k

  -- that of a text whose code has conflicts is the first of them
  of_conflict : (text : List ℕ) (c : Conflict) (b : Answer) → IsConflicting text c → CheckHas text b → answers.Conflicting c ≡ b
  of_conflict text c answers.Accepted h k = absurd (not_both text c k h)
  of_conflict text c (answers.Conflicting d) h k = ap (λ x. answers.Conflicting x) (same_conflict text c d h k)
  of_conflict text c (answers.ListingRefused r) h k = absurd (not_listed text h.code r h.listed k)
  of_conflict text c b h k = absurd k

  -- and that of a text that is no listing is its fault
  of_refusal : (text : List ℕ) (q : ListingRefusal) (b : Answer) → IsUnlisted text q → CheckHas text b → answers.ListingRefused q ≡ b
  of_refusal text q answers.Accepted h k = absurd (not_listed text k.code q k.listed h)
  of_refusal text q (answers.Conflicting c) h k = absurd (not_listed text k.code q k.listed h)
  of_refusal text q (answers.ListingRefused r) h k = ap (λ x. answers.ListingRefused x) (same_refusal text q r h k)
  of_refusal text q b h k = absurd k

  one : (text : List ℕ) (a b : Answer) → CheckHas text a → CheckHas text b → a ≡ b
  one text answers.Accepted b h k = of_accepted text b h k
  one text (answers.Conflicting c) b h k = of_conflict text c b h k
  one text (answers.ListingRefused q) b h k = of_refusal text q b h k
  one text a b h k = absurd h

  -- a text without a first fault is the listing of a code, which is accepted where it has no first conflict
  some : (text : List ℕ) → ((r : ListingRefusal) → ¬ IsUnlisted text r) → ((c : Conflict) → ¬ IsConflicting text c) → IsAccepted text
  some text unfaulted unconflicting =
      let listed : (code : CodeParts) × IsListing text code = law.covers text (no_fault text
      (λ rule line f. unfaulted (record { number = fault_number rule; line = line }) (record { rule = rule; first = f; number = refl }))) in
      record {
        code = listed.0;
        listed = listed.1;
        free = no_conflict listed.0 (λ c f. unconflicting (conflict_told c)
            (record { code = listed.0; listed = listed.1; conflict = c; first = f; tells = refl }));
      }

  pub have_one_answer : HaveOneAnswer
  have_one_answer = record { one = one; front = front law; some = some }
