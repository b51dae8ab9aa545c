-- A text has one answer where it is explained.
use Rattle.std.proofs.Common.{◌≡◌, ℕ, List, ◌++◌, Option, Some, None, refl, sym, ap, ◌∙◌, subst, arith}
use Rattle.ppm_listing_reader.specs.Correct.{FaultsTellListings}
use Rattle.ppm_rows.specs.Correct.{TokensHaveOneAnswer}
use Rattle.ppm_program.specs.Correct.{HaveOneAnswer as ProgramsAreOne}
use Rattle.ppm_answers.specs.declared.answer.Answer.{Answer}
use Rattle.ppm_answers.specs.declared.answer.Answer.TheVariants as answers
use Rattle.ppm_answers.specs.declared.refused.Refused.{Refused}
use Rattle.ppm_answers.specs.declared.refused.Refused.TheVariants as refused
use Rattle.ppm_answers.specs.Reading.{AreOne, FrontsDecide}
use Rattle.ppm_answers.specs.Refused.{refused_answer}
use Rattle.ppm_cli.specs.declared.explain.ExplainedText.{ExplainedText}
use Rattle.ppm_cli.specs.declared.explain.ExplainedText.TheVariants as texts
use Rattle.ppm_commands.specs.Check.{HaveOneAnswer as ListingsAreOne}
use Rattle.ppm_case.specs.Correct.{FaultsTellCases}
use Rattle.ppm_commands.specs.Races.{RacesHas, HaveOneAnswer as CasesAreOne}
use Rattle.ppm_commands.specs.Show.{IsShownBy, ShowHas, HaveOneAnswer as StatesAreOne}
use Rattle.ppm_saved.specs.Names.{lengths_of}
use Rattle.ppm_show.specs.Names.{scene_of}
use Rattle.ppm_show.specs.Show.{show_text}
use Rattle.ppm_notes.specs.Lines.{case_notes, input_notes, saved_notes, untidy_notes}
use Rattle.ppm_notes.specs.Listings.{conflict_notes, listing_notes}
use Rattle.ppm_explained.specs.Texts.{AreNotesOf, HasSomeState, IsAccepted, IsRefused, limit_of}
use Rattle.ppm_explained.specs.Explaining.{ExplainHas, HasOneAnswer, HaveOneAnswer, IsExplained}
use Rattle.ppm_explained.proofs.SourceLemmas as of_sources
use Rattle.ppm_explained.proofs.FrontLemmas as fronts
use Rattle.ppm_explained.proofs.ListingLemmas as of_listings
use Rattle.ppm_explained.proofs.CaseLemmas as of_cases

-- the refusal that an answer is
abbrev refused_in : Answer → Option Refused
refused_in (answers.SourceRefused r) = Some (refused.Source r)
refused_in (answers.ListingRefused r) = Some (refused.Listing r)
refused_in (answers.Conflicting c) = Some (refused.Conflict c)
refused_in (answers.InputRefused r) = Some (refused.Input r)
refused_in (answers.ConflictingAt c read write) = Some (refused.ConflictAt c read write)
refused_in (answers.Untidy u) = Some (refused.Untidy u)
refused_in (answers.SavedRefused r) = Some (refused.Saved r)
refused_in (answers.PlanRefused number) = Some (refused.Plan number)
refused_in a = None

refused_back : (r : Refused) → refused_in (refused_answer r) ≡ Some r
refused_back (refused.Source r) = refl
refused_back (refused.Listing r) = refl
refused_back (refused.Conflict c) = refl
refused_back (refused.Input r) = refl
refused_back (refused.ConflictAt c read write) = refl
refused_back (refused.Untidy u) = refl
refused_back (refused.Saved r) = refl
refused_back (refused.Plan number) = refl

some_same : {a b : Refused} → Some a ≡ Some b → a ≡ b
some_same e = cc

-- a refusal by its answer
pub one_refused : (q r : Refused) → refused_answer q ≡ refused_answer r → q ≡ r
one_refused q r e = some_same (sym (refused_back q) ∙ ap refused_in e ∙ refused_back r)

-- none is that the text is accepted
not_accepted : (r : Refused) → answers.Accepted ≡ refused_answer r → ⊥
not_accepted (refused.Source r) e = cc
not_accepted (refused.Listing r) e = cc
not_accepted (refused.Conflict c) e = cc
not_accepted (refused.Input r) e = cc
not_accepted (refused.ConflictAt c read write) e = cc
not_accepted (refused.Untidy u) e = cc
not_accepted (refused.Saved r) e = cc
not_accepted (refused.Plan number) e = cc

not_shown : (shown : List ℕ) (r : Refused) → answers.Shown shown ≡ refused_answer r → ⊥
not_shown shown (refused.Source r) e = cc
not_shown shown (refused.Listing r) e = cc
not_shown shown (refused.Conflict c) e = cc
not_shown shown (refused.Input r) e = cc
not_shown shown (refused.ConflictAt c read write) e = cc
not_shown shown (refused.Untidy u) e = cc
not_shown shown (refused.Saved r) e = cc
not_shown shown (refused.Plan number) e = cc

-- what makes the answers of a text one: its refusals and their notes are, and none comes where it is accepted
record AreSingle (kind : ExplainedText) : Type 0 where
  either : (text : List ℕ) (r : Refused) → IsAccepted kind text → IsRefused kind text r → ⊥
  refusal : (text : List ℕ) (q r : Refused) → IsRefused kind text q → IsRefused kind text r → q ≡ r
  notes : (text : List ℕ) (r : Refused) (m n : List ℕ) → IsRefused kind text r → AreNotesOf kind text r m → AreNotesOf kind text r n → m ≡ n

module _ (kind : ExplainedText) (law : AreSingle kind) where
  explained : (text : List ℕ) (q r : Refused) (m n : List ℕ) → IsExplained kind text q m → IsExplained kind text r n
      → answers.Explained q m ≡ answers.Explained r n
  explained text q r m n a b =
      let same = law.refusal text q r a.refusal b.refusal in
      let told : AreNotesOf kind text r m = subst (λ x. AreNotesOf kind text x m) same a.told in
      ap (λ x. answers.Explained x m) same ∙ ap (λ x. answers.Explained r x) (law.notes text r m n b.refusal told b.told)

  of_accepted : (text : List ℕ) (b : Answer) → IsAccepted kind text → ExplainHas kind text b → answers.Accepted ≡ b
  of_accepted text answers.Accepted h k = refl
  of_accepted text (answers.Explained r n) h k = absurd (law.either text r h k.refusal)
  of_accepted text b h k = absurd k

  of_explained : (text : List ℕ) (q : Refused) (m : List ℕ) (b : Answer) → IsExplained kind text q m → ExplainHas kind text b
      → answers.Explained q m ≡ b
  of_explained text q m answers.Accepted h k = absurd (law.either text q k h.refusal)
  of_explained text q m (answers.Explained r n) h k = explained text q r m n h k
  of_explained text q m b h k = absurd k

  are_one : AreOne (ExplainHas kind)
  are_one text answers.Accepted b h k = of_accepted text b h k
  are_one text (answers.Explained q m) b h k = of_explained text q m b h k
  are_one text a b h k = absurd h

module _ (programs : ProgramsAreOne) (trees : TokensHaveOneAnswer) where
  source_either : (text : List ℕ) (r : Refused) → IsAccepted texts.Source text → IsRefused texts.Source text r → ⊥
  source_either text (refused.Source r) h k = (programs text).either r k h.tree h.program
  source_either text r h k = absurd k

  source_refusal : (text : List ℕ) (q r : Refused) → IsRefused texts.Source text q → IsRefused texts.Source text r → q ≡ r
  source_refusal text (refused.Source q) (refused.Source r) h k = ap (λ x. refused.Source x) ((programs text).refusal q r h k)
  source_refusal text (refused.Source q) r h k = absurd k
  source_refusal text q r h k = absurd h

  source_notes : (text : List ℕ) (r : Refused) (m n : List ℕ) → IsRefused texts.Source text r → AreNotesOf texts.Source text r m
      → AreNotesOf texts.Source text r n → m ≡ n
  source_notes text (refused.Source r) m n h a b = of_sources.one_notes text programs trees r m n a b
  source_notes text r m n h a b = absurd h

  source_front : FrontsDecide (limit_of texts.Source) (ExplainHas texts.Source)
  source_front text rest answers.Accepted long h = let short = h.program.admitted.tree.lexed.short in absurd (omega (arith, long, short))
  source_front text rest (answers.Explained (refused.Source r) notes) long h = record {
    refusal = (programs text).front rest r long h.refusal;
    told = fronts.notes_stay text rest notes long h.refusal h.told;
  }
  source_front text rest (answers.Explained r notes) long h = absurd h.refusal
  source_front text rest a long h = absurd h

  source_some : (text : List ℕ) → ((r : Refused) (notes : List ℕ) → ¬ IsExplained texts.Source text r notes) → IsAccepted texts.Source text
  source_some text none =
      let t = (programs text).none
      (λ r k. of_sources.some_notes text programs k (λ notes told. none (refused.Source r) notes (record { refusal = k; told = told }))) in
      record { tree = t.0; program = t.1 }

  source_answers : HasOneAnswer texts.Source
  source_answers = record {
    one = are_one texts.Source (record { either = source_either; refusal = source_refusal; notes = source_notes });
    front = source_front;
    some = source_some;
  }

module _ (listings : ListingsAreOne) (law : FaultsTellListings) where
  listing_single : AreSingle texts.Listing
  listing_single = record {
    either = λ text r h k. not_accepted r (listings.one text answers.Accepted (refused_answer r) h k);
    refusal = λ text q r h k. one_refused q r (listings.one text (refused_answer q) (refused_answer r) h k);
    notes = λ text r m n k. of_listings.one_notes law text r m n;
  }

  listing_front : FrontsDecide (limit_of texts.Listing) (ExplainHas texts.Listing)
  listing_front text rest answers.Accepted long h = listings.front text rest answers.Accepted long h
  listing_front text rest (answers.Explained r notes) long h = record {
    refusal = listings.front text rest (refused_answer r) long h.refusal;
    told = of_listings.notes_stay law text rest r notes long h.refusal h.told;
  }
  listing_front text rest a long h = absurd h

  listing_some : (text : List ℕ) → ((r : Refused) (notes : List ℕ) → ¬ IsExplained texts.Listing text r notes) → IsAccepted texts.Listing text
  listing_some text none =
      listings.some text (λ r u. none (refused.Listing r) (listing_notes text r) (record { refusal = u; told = refl }))
      (λ c k. none (refused.Conflict c) _ (record { refusal = k; told = of_listings.of_conflict text c k }))

  listing_answers : HasOneAnswer texts.Listing
  listing_answers = record { one = are_one texts.Listing listing_single; front = listing_front; some = listing_some }

module _ (cases : CasesAreOne) (law : FaultsTellCases) where
  case_single : AreSingle texts.Case
  case_single = record {
    either = of_cases.not_both law;
    refusal = λ text q r h k.
        one_refused q r ((cases 1).one text (refused_answer q) (refused_answer r) (of_cases.to_races text q h) (of_cases.to_races text r k));
    notes = λ text r m n k. of_cases.one_notes text r m n;
  }

  case_front : FrontsDecide (limit_of texts.Case) (ExplainHas texts.Case)
  case_front text rest answers.Accepted long h =
      let short = law.short text h.0.code h.0.input h.0.is in absurd (omega (arith, long, short))
  case_front text rest (answers.Explained r notes) long h = record {
    refusal = of_cases.from_races (text ++ rest) r ((cases 1).front text rest (refused_answer r) long (of_cases.to_races text r h.refusal));
    told = of_cases.notes_stay law text rest r notes long h.refusal h.told;
  }
  case_front text rest a long h = absurd h

  case_some : (text : List ℕ) → ((r : Refused) (notes : List ℕ) → ¬ IsExplained texts.Case text r notes) → IsAccepted texts.Case text
  case_some text none =
      let a = (cases 1).some text
      (λ r h. none (refused.Input r) (input_notes text r) (record { refusal = h; told = refl }))
      (λ r h. none (refused.Listing r) (case_notes text r) (record { refusal = h; told = refl }))
      (λ c read write h. none (refused.ConflictAt c read write) (conflict_notes text read write) (record { refusal = h; told = refl }))
      (λ u h. none (refused.Untidy u) (untidy_notes text u) (record { refusal = h; told = refl })) in
      ready a.0 a.1
    where
      ready : (a : Answer) → RacesHas 1 text a → IsAccepted texts.Case text
      ready (answers.InputRefused r) h = absurd (none (refused.Input r) (input_notes text r) (record { refusal = h; told = refl }))
      ready (answers.ListingRefused r) h = absurd (none (refused.Listing r) (case_notes text r) (record { refusal = h; told = refl }))
      ready (answers.ConflictingAt c read write) h =
          absurd (none (refused.ConflictAt c read write) (conflict_notes text read write) (record { refusal = h; told = refl }))
      ready (answers.Untidy u) h = absurd (none (refused.Untidy u) (untidy_notes text u) (record { refusal = h; told = refl }))
      ready (answers.Sound k) h = (h.0, record { free = h.1.sound.free; tidy = h.1.sound.tidy })
      ready (answers.Raced r) h = (h.0, h.1.may)
      ready (answers.NotWithinCapsules n) h = (h.0, h.1.1.may)
      ready a h = absurd h.1

  case_answers : HasOneAnswer texts.Case
  case_answers = record { one = are_one texts.Case case_single; front = case_front; some = case_some }

module _ (states : StatesAreOne) where
  -- a state has its lines
  shows : (text : List ℕ) (s : HasSomeState text) → ShowHas text (answers.Shown (show_text (scene_of s.shape s.arrays (lengths_of s.arrays) s.code s.words)))
  shows text s = record { shape = s.shape; arrays = s.arrays; code = s.code; words = s.words; saved = s.saved; tells = refl }

  state_of : (text shown : List ℕ) → IsShownBy text shown → HasSomeState text
  state_of text shown s = record { shape = s.shape; arrays = s.arrays; code = s.code; words = s.words; saved = s.saved }

  saved_notes_one : (text : List ℕ) (r : Refused) (m n : List ℕ) → AreNotesOf texts.Saved text r m → AreNotesOf texts.Saved text r n → m ≡ n
  saved_notes_one text (refused.Saved r) m n a b = a ∙ sym b
  saved_notes_one text r m n a b = absurd a

  saved_single : AreSingle texts.Saved
  saved_single = record {
    either = λ text r h k. not_shown _ r (states.one text (answers.Shown _) (refused_answer r) (shows text h) k);
    refusal = λ text q r h k. one_refused q r (states.one text (refused_answer q) (refused_answer r) h k);
    notes = λ text r m n k. saved_notes_one text r m n;
  }

  saved_front : FrontsDecide (limit_of texts.Saved) (ExplainHas texts.Saved)
  saved_front text rest answers.Accepted long h = state_of (text ++ rest) _ (states.front text rest (answers.Shown _) long (shows text h))
  saved_front text rest (answers.Explained (refused.Saved r) notes) long h = record {
    refusal = states.front text rest (answers.SavedRefused r) long h.refusal;
    told = h.told ∙ of_cases.saved_long text rest r long;
  }
  saved_front text rest (answers.Explained r notes) long h = absurd h.told
  saved_front text rest a long h = absurd h

  saved_some : (text : List ℕ) → ((r : Refused) (notes : List ℕ) → ¬ IsExplained texts.Saved text r notes) → IsAccepted texts.Saved text
  saved_some text none =
      let s = states.some text (λ r u. none (refused.Saved r) (saved_notes text r) (record { refusal = u; told = refl })) in
      state_of text s.0 s.1

  saved_answers : HasOneAnswer texts.Saved
  saved_answers = record { one = are_one texts.Saved saved_single; front = saved_front; some = saved_some }

-- each kind of text has one answer
pub have_one_answer : ProgramsAreOne → TokensHaveOneAnswer → ListingsAreOne → FaultsTellListings → CasesAreOne → FaultsTellCases → StatesAreOne → HaveOneAnswer
have_one_answer programs trees listings law cases faults states texts.Source = source_answers programs trees
have_one_answer programs trees listings law cases faults states texts.Listing = listing_answers listings law
have_one_answer programs trees listings law cases faults states texts.Case = case_answers cases faults
have_one_answer programs trees listings law cases faults states texts.Saved = saved_answers states
