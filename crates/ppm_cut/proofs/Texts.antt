-- Procedures of which some are added, and the others are still to be added.
use Rattle.std.proofs.Common.{◌≡◌, ℕ, suc, List, [], ◌∷◌, ◌++◌, length, refl, sym, ap, subst, ◌∙◌, append_assoc}
use Rattle.std.proofs.lemmas.List.{append-nil}
use Rattle.ppm_code.specs.declared.code.CodeParts.{CodeParts}
use Rattle.ppm_tree.specs.Tree.{Procedure, ProgramTree}
use Rattle.ppm_cut_code.specs.Numbers.{hidden_behind_block}
use Rattle.ppm_cut_code.specs.Routines.{Routine, texts_from, hidden_from, routines_of, procedures_from, capsules_from, code_of}
use Rattle.ppm_cut.specs.declared.draft.Draft.{Draft}
use Rattle.ppm_cut.specs.Drafts.{Drafts}
use Rattle.ppm_cut.proofs.Drafting.{drafts_none, drafts_then}

-- of all procedures these are left
pub record Left (procedures : List Procedure) (all left : List Routine) (old now : Draft) : Type 0 where
  pub added : List Routine
  pub drafts : Drafts procedures added old now
  pub is : all ≡ added ++ left

module _ (procedures : List Procedure) (all : List Routine) where
  pub all_left : (a : Draft) → Left procedures all all a a
  all_left a = record { added = []; drafts = drafts_none procedures a; is = refl }

  pub fewer_left : (xs left : List Routine) (old now new : Draft) → Left procedures all (xs ++ left) old now → Drafts procedures xs now new
      → Left procedures all left old new
  fewer_left xs left old now new h more = record {
    added = h.added ++ xs;
    drafts = drafts_then procedures h.added xs old now new h.drafts more;
    is = h.is ∙ sym (append_assoc h.added xs left);
  }

  pub none_left : (old now : Draft) → Left procedures all [] old now → Drafts procedures all old now
  none_left old now h = subst (λ xs. Drafts procedures xs old now) (sym (h.is ∙ append-nil h.added)) h.drafts

-- those of the text are as many as the procedures
pub texts_length : (h : ℕ) (ps : List Procedure) → length (texts_from h ps) ≡ length ps
texts_length h [] = refl
texts_length h (p ∷ ps) = ap suc (texts_length (hidden_behind_block p.body h) ps)

-- the code of a tree: its root, the arrays, and all that was added to nothing
pub parts_are : (t : ProgramTree) (root : ℕ) (arrays : List ℕ) (a b c : Draft) → a.procedures.items ≡ [] → a.capsules.items ≡ [] → a.next ≡ 0
    → Drafts t.procedures (texts_from (length t.procedures) t.procedures) a b → Drafts t.procedures (hidden_from (length t.procedures) t.procedures) b c
    → root ≡ (code_of t).root → arrays ≡ (code_of t).arrays
    → ◌≡◌ {A = CodeParts} (record { root = root; arrays = arrays; procedures = c.procedures.items; capsules = c.capsules.items }) (code_of t)
parts_are t root arrays a b c no_procedures no_capsules none first second e f =
    let n = length t.procedures in
    let all = routines_of t.procedures in
    let both = drafts_then t.procedures (texts_from n t.procedures) (hidden_from n t.procedures) a b c first second in
    let procedures = both.procedures_are ∙ ap (λ l. l ++ procedures_from a.next all) no_procedures ∙ ap (λ at. procedures_from at all) none in
    let capsules = both.capsules_are ∙ ap (λ l. l ++ capsules_from t.procedures (length a.procedures.items) a.next all) no_capsules
    ∙ ap (λ l. capsules_from t.procedures (length l) a.next all) no_procedures ∙ ap (λ at. capsules_from t.procedures 0 at all) none in
    λ i. record { root = e i; arrays = f i; procedures = procedures i; capsules = capsules i }
