-- A text has one answer where races of its case are sought.
use Rattle.std.proofs.Common.{◌≡◌, ◌⊎◌, ◌<◌, ℕ, ◌-◌, List, [], ◌∷◌, length, refl, sym, ◌∙◌, ap, subst, inl, inr, arith}
use Rattle.std.proofs.lemmas.Bool.{cases_lt}
use Rattle.ppm_words.specs.Inputs.{value_count}
use Rattle.ppm_words.specs.declared.named_array.NamedArray.{NamedArray}
use Rattle.ppm_code.specs.declared.code.CodeParts.{CodeParts}
use Rattle.ppm_war.specs.declared.checked.Conflict.{Conflict}
use Rattle.ppm_war.specs.Conflicts.{IsFree, IsFirstConflictOf}
use Rattle.ppm_races.specs.declared.race.Race.{Race}
use Rattle.ppm_races.specs.declared.judging.Verdict.{Verdict}
use Rattle.ppm_races.specs.declared.judging.Verdict.TheVariants as verdict
use Rattle.ppm_races.specs.Verdicts.{IsVerdict, VerdictsAreOne, VerdictsAreThere}
use Rattle.ppm_case.specs.Correct.{FaultsTellCases, HasCase}
use Rattle.ppm_answers.specs.declared.case.UntidyStore.{UntidyStore}
use Rattle.ppm_answers.specs.declared.conflict.Conflict.{Conflict as ToldConflict}
use Rattle.ppm_answers.specs.declared.race.Race.{Race as ToldRace}
use Rattle.ppm_answers.specs.declared.answer.Answer.{Answer}
use Rattle.ppm_answers.specs.declared.answer.Answer.TheVariants as answers
use Rattle.ppm_commands.specs.Check.{conflict_told}
use Rattle.ppm_loading.specs.Telling.{IsUntidy, counts_told, line_at, store_told}
use Rattle.ppm_commands.specs.Races.{IsWordOf, TellsRace, HasConflict, RacesOf, RacesHas, HaveOneAnswer}
use Rattle.ppm_loading.specs.Telling.{MayBeRun}
use Rattle.ppm_commands.specs.Races.{conflict_answer, opener_told, visit_told, touching_told}
use Rattle.ppm_commands.proofs.CaseAnswers as case_answers
use Rattle.ppm_gaps.proofs.FirstConflict.{one_conflict}
use Rattle.ppm_loading.proofs.FirstStore.{one_told, none_told}
use Rattle.ppm_commands.proofs.LeastLemmas.{no_conflict}
use Rattle.ppm_loading.proofs.TidyLemmas.{all_are}
use Rattle.ppm_commands.proofs.TouchLemmas.{race_within}
use Rattle.ppm_commands.proofs.WordLemmas.{count-cons, one_word}

-- a code without conflicts has no first one
pub none_conflicts : (code : CodeParts) (c : Conflict) → IsFree code → IsFirstConflictOf code c → ⊥
none_conflicts code c free f = free c.capsule c.read_at c.write_at c.class f.first.first.conflict

module _ (code : CodeParts) (input : List NamedArray) where
  -- a race is told in one way
  one_race : (race : Race) (r s : ToldRace) → TellsRace code input race r → TellsRace code input race s → r ≡ s
  one_race race r s h k =
      let word = one_word input race.word r.array s.array r.index s.index h.word k.word in
      let fork = h.fork ∙ sym k.fork in
      let left = h.left ∙ sym k.left in
      let right = h.right ∙ sym k.right in
      λ i. record { array = word.0 i; index = word.1 i; fork = fork i; left = left i; right = right i }

  module _ (capsules : ℕ) where
    -- the answer says this verdict
    abbrev Says : Verdict → Answer → Type 0
    Says (verdict.Calm run) a = a ≡ answers.Sound (counts_told run)
    Says (verdict.Races race) a = (told : ToldRace) × TellsRace code input race told × (a ≡ answers.Raced told)
    Says verdict.NotWithin a = a ≡ answers.NotWithinCapsules capsules

    -- a verdict of a code that may be run, a store that is not tidy, or a conflict
    abbrev IsVerdicts : Answer → Type 0
    IsVerdicts a = MayBeRun code × (v : Verdict) × IsVerdict code input capsules v × Says v a

    abbrev IsStores : Answer → Type 0
    IsStores a = IsFree code × (u : UntidyStore) × IsUntidy code input u × (a ≡ answers.Untidy u)

    abbrev IsConflicts : Answer → Type 0
    IsConflicts a = (c : Conflict) × IsFirstConflictOf code c × (a ≡ conflict_answer (length input) code c)

    -- a conflict that is told
    of_conflict : (c : ToldConflict) (read write : ℕ) → HasConflict code input c read write → IsConflicts (answers.ConflictingAt c read write)
    of_conflict c read write h =
        (h.conflict, h.first, (λ i. answers.ConflictingAt (h.tells i) (h.read_line i) (h.write_line i)))

    -- each answer of a case is one of these
    of_case : (a : Answer) → RacesOf capsules code input a → IsVerdicts a ⊎ (IsStores a ⊎ IsConflicts a)
    of_case (answers.Sound k) h = inl (
      record { free = h.sound.free; tidy = h.sound.tidy },
      verdict.Calm h.run,
      (h.sound.calm, h.within),
      ap (λ x. answers.Sound x) h.counts,
    )
    of_case (answers.Raced r) h = inl (h.may, verdict.Races h.race, h.first, (r, h.tells, refl))
    of_case (answers.NotWithinCapsules n) h = inl (h.1.may, verdict.NotWithin, h.1.more, ap (λ m. answers.NotWithinCapsules m) h.0)
    of_case (answers.Untidy u) h = inr (inl (h.0, u, h.1, refl))
    of_case (answers.ConflictingAt c read write) h = inr (inr (of_conflict c read write h))
    of_case a h = absurd h

    -- two answers that say a verdict are one
    says_one : (v : Verdict) (a b : Answer) → Says v a → Says v b → a ≡ b
    says_one (verdict.Calm run) a b x y = x ∙ sym y
    says_one (verdict.Races race) a b (r, h, x) (s, k, y) = x ∙ ap (λ t. answers.Raced t) (one_race race r s h k) ∙ sym y
    says_one verdict.NotWithin a b x y = x ∙ sym y

    module _ (law : VerdictsAreOne) where
      one_verdict : (a b : Answer) → IsVerdicts a → IsVerdicts b → a ≡ b
      one_verdict a b (m, v, h, x) (n, w, k, y) =
          let same : v ≡ w = law code input capsules v w h k in
          says_one w a b (subst (λ u. Says u a) same x) y

      one_of : (a b : Answer) → RacesOf capsules code input a → RacesOf capsules code input b → a ≡ b
      one_of a b h k = go (of_case a h) (of_case b k)
        where
          go : IsVerdicts a ⊎ (IsStores a ⊎ IsConflicts a) → IsVerdicts b ⊎ (IsStores b ⊎ IsConflicts b) → a ≡ b
          go (inl x) (inl y) = one_verdict a b x y
          go (inl (m, v, h, x)) (inr (inl (f, u, s, y))) = absurd (none_told code input u s m.tidy)
          go (inl (m, v, h, x)) (inr (inr (c, g, y))) = absurd (none_conflicts code c m.free g)
          go (inr (inl (f, u, s, x))) (inl (m, v, h, y)) = absurd (none_told code input u s m.tidy)
          go (inr (inl (f, u, s, x))) (inr (inl (g, w, t, y))) = x ∙ ap (λ z. answers.Untidy z) (one_told code input u w s t) ∙ sym y
          go (inr (inl (f, u, s, x))) (inr (inr (c, g, y))) = absurd (none_conflicts code c f g)
          go (inr (inr (c, g, x))) (inl (m, v, h, y)) = absurd (none_conflicts code c m.free g)
          go (inr (inr (c, g, x))) (inr (inl (f, u, s, y))) = absurd (none_conflicts code c f g)
          go (inr (inr (c, g, x))) (inr (inr (d, h, y))) = x ∙ ap (conflict_answer (length input) code) (one_conflict code c d g h) ∙ sym y

-- a word of arrays is one of an array of them
has_place : (input : List NamedArray) (word : ℕ) → word < value_count input → (name : List ℕ) × (index : ℕ) × IsWordOf input word name index
has_place [] word less = absurd (omega (arith, less))
has_place (a ∷ input) word less = elim (cases_lt word (length a.values)) [
  | inl inside ↦ (
    a.name,
    word,
    record { front = []; array = a; rest = input; all = refl; address = omega arith; inside = inside; name_is = refl },
  )
  | inr past ↦
      let count = count-cons a input in
      let it = has_place input (word - length a.values) (omega (arith, less, past, count)) in
      let place = it.2 in
      let at = place.address in
      let front = count-cons a place.front in (
        it.0,
        it.1,
        record {
          front = a ∷ place.front;
          array = place.array;
          rest = place.rest;
          all = ap (λ (xs : List NamedArray). a ∷ xs) place.all;
          address = omega (arith, past, at, front);
          inside = place.inside;
          name_is = place.name_is;
        },
      )
]

module _ (capsules : ℕ) (text : List ℕ) (case : HasCase text) (may : MayBeRun case.code) where
  -- the answer of a case that may be run, by its verdict
  verdict_has : (v : Verdict) → IsVerdict case.code case.input capsules v → (a : Answer) × RacesHas capsules text a
  verdict_has (verdict.Calm run) is = (
    answers.Sound (counts_told run),
    (case, record { sound = record { tidy = may.tidy; free = may.free; calm = is.0 }; run = run; within = is.1; counts = refl }),
  )
  verdict_has (verdict.Races race) is =
      let place = has_place case.input race.word (race_within case.code case.input race is.1) in
      let told : ToldRace = record {
        array = place.0;
        index = place.1;
        fork = opener_told race.fork;
        left = visit_told race.left;
        right = touching_told (length case.input) case.code race.right;
      } in (
        answers.Raced told,
        (case, record { may = may; race = race; first = is; tells = record { word = place.2; fork = refl; left = refl; right = refl } }),
      )
  verdict_has verdict.NotWithin is = (answers.NotWithinCapsules capsules, (case, (refl, record { may = may; more = is })))

module _ (capsules : ℕ) (text : List ℕ) (case : HasCase text) where
  -- a case without a conflict and without an untidy store may be run, and has a verdict
  case_has_one : VerdictsAreThere → ((c : ToldConflict) (read write : ℕ) → ¬ RacesHas capsules text (answers.ConflictingAt c read write))
      → ((u : UntidyStore) → ¬ RacesHas capsules text (answers.Untidy u)) → (a : Answer) × RacesHas capsules text a
  case_has_one there none_conflict no_store =
      let code = case.code in
      let arrays = length case.input in
      let free = no_conflict code (λ c f. none_conflict (conflict_told c) (line_at arrays code c.capsule c.read_at) (line_at arrays code c.capsule c.write_at)
      (case, record { conflict = c; first = f; tells = refl; read_line = refl; write_line = refl })) in
      let tidy = all_are code (λ s f. no_store (store_told arrays code s) (case, (free, record { store = s; first = f; tells = refl }))) in
      let it = there code case.input capsules in
      verdict_has capsules text case (record { free = free; tidy = tidy }) it.verdict it.is

-- `races` has one answer, whatever the number of capsules
pub have_one_answer : FaultsTellCases → VerdictsAreOne → VerdictsAreThere → HaveOneAnswer
have_one_answer faults law there capsules = record {
  one = case_answers.one (RacesOf capsules) faults (λ code input. one_of code input capsules law);
  front = case_answers.front (RacesOf capsules) faults;
  some = λ text no_input no_listing none_conflict no_store.
      case_has_one capsules text (case_answers.has_case (RacesOf capsules) faults text no_input no_listing) there none_conflict no_store;
}
