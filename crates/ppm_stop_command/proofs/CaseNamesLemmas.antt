-- The arrays of a case are named as those of a saved state.
use Rattle.std.proofs.Common.{◌≡◌, ◌≤◌, ℕ, false, true, List, [], ◌∷◌, ◌++◌, Option, Some, None, is_none, map, refl, sym, subst}
use Rattle.std.specs.List.{All, AllByRecursion, IsDistinct, sum}
use Rattle.std.specs.Str.{bytes_eq}
use Rattle.std.proofs.lemmas.Bool.{and_parts, or_parts}
use Rattle.std.proofs.lemmas.List.{append_assoc, append-nil}
use Rattle.std.proofs.lemmas.List.Elements.{All-from_recursion}
use Rattle.ppm_words.specs.Limits.{array_limit, word_limit}
use Rattle.ppm_words.specs.declared.named_array.NamedArray.{NamedArray}
use Rattle.ppm_text.specs.Spelling.{keyword_of}
use Rattle.ppm_code.specs.declared.code.CodeParts.{CodeParts}
use Rattle.ppm_case.specs.Case.{IsCaseOf}
use Rattle.ppm_case.specs.Rules.{AllFollow, is_named}
use Rattle.ppm_case.specs.Spelling.{Written, array_of, is_array_name, is_name}
use Rattle.ppm_case.proofs.FormLemmas.{form_parts, name_back}
use Rattle.ppm_loading.proofs.CaseInputLemmas.{case_input}
use Rattle.ppm_saved.specs.Names.{AreNames, IsArrayName}
use Rattle.ppm_saved.specs.declared.names.NamedLength.{NamedLength}
use Rattle.ppm_outcomes.specs.Stops.{names_of}
use Rattle.ppm_stop_command.proofs.NamesLemmas.{lengths_are, as_many}

-- a name that may be that of an array is no keyword
no_keyword : {K : Type 0} (o : Option K) → is_none o ≡ true → o ≡ None
no_keyword None h = refl
no_keyword (Some k) h = absurd (differ h)
  where
    differ : false ≡ true → ⊥
    differ e = cc

-- and is a name of the language
named : (name : List ℕ) → is_array_name name ≡ true → IsArrayName name
named name h = record { form = name_back name h; plain = no_keyword (keyword_of name) (and_parts (is_name name) (is_none (keyword_of name)) h).1 }

-- each name of arrays that may stand after others is one that an array may have
named_all : (more : List Written) (done : List NamedArray) → AllFollow done more
    → AllByRecursion (λ (a : NamedLength). IsArrayName a.name) (names_of (map array_of more))
named_all [] done h = tt
named_all (a ∷ more) done h = (named a.name (form_parts a h.0.form).name, named_all more (done ++ array_of a ∷ []) h.1)

-- each array has the name of one
abbrev AreNamed : List NamedArray → Type 0
AreNamed arrays = All (λ (a : NamedLength). IsArrayName a.name) (names_of arrays)

-- the names that a saved state has for arrays
abbrev saved_names : List NamedArray → List (List ℕ)
saved_names arrays = map (λ (a : NamedLength). a.name) (names_of arrays)

abbrev AreDistinct : List NamedArray → Type 0
AreDistinct arrays = IsDistinct bytes_eq (saved_names arrays)

-- a name is another one than those of arrays and than that of one more
differs_more : (name : List ℕ) (xs : List NamedArray) (a : NamedArray) → AllByRecursion (λ m. bytes_eq name m ≡ false) (saved_names xs)
    → bytes_eq name a.name ≡ false → AllByRecursion (λ m. bytes_eq name m ≡ false) (saved_names (xs ++ a ∷ []))
differs_more name [] a h k = (k, tt)
differs_more name (x ∷ xs) a h k = (h.0, differs_more name xs a h.1 k)

distinct_more : (xs : List NamedArray) (a : NamedArray) → AreDistinct xs → is_named xs a.name ≡ false → AreDistinct (xs ++ a ∷ [])
unfolding IsDistinct
distinct_more [] a h k = (tt, tt)
distinct_more (x ∷ xs) a h k =
    let parts = or_parts (bytes_eq x.name a.name) (is_named xs a.name) k in
    (differs_more x.name xs a h.0 parts.0, distinct_more xs a h.1 parts.1)

-- no two names of arrays that may stand after one another are the same
differ : (more : List Written) (done : List NamedArray) → AreDistinct done → AllFollow done more → AreDistinct (done ++ map array_of more)
differ [] done h follow = subst AreDistinct (sym (append-nil done)) h
differ (a ∷ more) done h follow =
    subst AreDistinct (append_assoc done (array_of a ∷ []) (map array_of more))
    (differ more (done ++ array_of a ∷ []) (distinct_more done (array_of a) h follow.0.new) follow.1)

none_differ : AreDistinct []
unfolding IsDistinct
none_differ = tt

-- those of a case are names of a saved state
pub names_are : (text : List ℕ) (code : CodeParts) (input : List NamedArray) → IsCaseOf text code input → AreNames (names_of input)
names_are text code input is =
    let fits = case_input text code input is in
    let listed : AreDistinct (map array_of is.front.arrays) = differ is.front.arrays [] none_differ is.front.follow in
    record {
      most = subst (λ n. n ≤ array_limit) (sym (as_many input)) fits.arrays_bound;
      names = subst AreNamed (sym is.arrays)
          (All-from_recursion (λ (a : NamedLength). IsArrayName a.name) (names_of (map array_of is.front.arrays))
          (named_all is.front.arrays [] is.front.follow));
      differ = subst AreDistinct (sym is.arrays) listed;
      words_most = subst (λ ls. sum ls ≤ word_limit) (sym (lengths_are input)) fits.values_bound;
    }
