-- A frame that waits makes its step: it goes on once its branches are over, and passes its turn before.
use Rattle.std.proofs.Common.{◌≡◌, ◌<◌, ℕ, zero, suc, List, [], ◌∷◌, length, refl, sym, ap, ◌∙◌, subst, Option, Some, None, arith}
use Rattle.ppm_strands.specs.Capsule.{Memory}
use Rattle.ppm_strands.specs.Tree.{Words}
use Rattle.ppm_strands.specs.Strand.{Frame}
use Rattle.ppm_unseen.specs.Run.{Deed, State, Waits, IsOver, Joins, Finishes, HasFinished, HaveFinished, begun, asked, nothing}
use Rattle.ppm_code.specs.declared.code.CodeParts.{CodeParts}
use Rattle.ppm_code.specs.declared.location.FrameWord.{FrameWord}
use Rattle.ppm_code.specs.Strands.{Result}
use Rattle.ppm_depth.specs.declared.frame.Finish.{Finish}
use Rattle.ppm_filled.specs.Racing.{OwnWord, Place, At, Exit, Tells as Telling, rejoining}
use Rattle.ppm_racy.specs.declared.code.RacyParts.{RacyParts}
use Rattle.ppm_racy.specs.Code.{plain_code}
use Rattle.ppm_interleaving.specs.declared.deed.Turn.TheVariants.{Step}
use Rattle.ppm_interleaving.specs.declared.stepped.Stepped.TheVariants.{Goes, Closes}
use Rattle.ppm_interleaving.specs.declared.strand.Branches.TheVariants.{Callee, Both}
use Rattle.ppm_interleaving.specs.declared.strand.Waiting.{Waiting}
use Rattle.ppm_interleaving.specs.declared.strand.Strand.{Strand}
use Rattle.ppm_interleaving.specs.declared.strand.Strand.TheVariants.{Running, Waiting as IsWaiting, Tells, Over}
use Rattle.ppm_interleaving.specs.Owns.{ShowsOwn}
use Rattle.ppm_interleaving.specs.Steps.{GoesOnAs, branch_count, point_by, result_of}
use Rattle.ppm_interleaving.specs.Shows.{FinishesAre, ShowsStrand, ShowsState, asked_in, finish_in, finish_of, system}
use Rattle.ppm_interleaving.specs.Stepping.{MakesStep}
use Rattle.ppm_interleaving.specs.Turns.{Moment, moment, deeds, ComesBy, Goes as GoesBy, Does as DoesBy, Passes, AsItIs, came}
use Rattle.ppm_interleaving.proofs.EndLemmas.{begun_state, begun_asks, telling_state}

module _ (code : RacyParts) (array_words : ℕ) (root : FrameWord → ℕ) (arrays : Words) (h : List Moment) (i : ℕ) where
  -- a strand that begins as a frame does, or tells a trap
  begins : (x : Strand) (f : Frame OwnWord Place) → GoesOnAs x f
      → ShowsState code array_words (Some x) (begun (system code array_words root arrays) f) × (asked_in (Some x) ≡ nothing)
  begins (Running r) f goes = ((f.own, goes.own, begun_state code array_words root arrays r f goes), begun_asks r.capsule r.own r goes.begun)
  begins (Tells fin) f goes = ((f.own, telling_state code array_words root arrays (result_of fin) f goes), refl)
  begins (IsWaiting w) f goes = absurd goes
  begins (Over fin) f goes = absurd goes

  module _ (w : Waiting) (shows : ShowsStrand code array_words root arrays (Some (IsWaiting w)) i h) where
    abbrev pub g : Frame OwnWord Place
    g = shows.2.0

    abbrev pub fs : List (Frame OwnWord Place)
    fs = shows.2.1

    -- it waits
    waits : (c : ComesBy (system code array_words root arrays) i h (Waits g w.first fs)) × (asked (came (system code array_words root arrays) c) ≡ nothing)
    waits = subst (λ (σ : State OwnWord Place Exit). (c : ComesBy (system code array_words root arrays) i h σ)
        × (asked (came (system code array_words root arrays) c) ≡ nothing)) shows.2.3 (shows.1, shows.3)

    -- some branch is not over
    pub passes : ((os : List Result) → HaveFinished w.first fs os (deeds h) → ⊥) → ShowsStrand code array_words root arrays (Some (IsWaiting w)) i (moment (Step i) None ∷ h)
    passes still = (Waits g w.first fs, Passes waits.0 still, (g, fs, shows.2.2, refl), waits.1)

    -- all are over
    pub joins : (x : Strand) (os : List Result) → HaveFinished w.first fs os (deeds h)
        → GoesOnAs x (rejoining (plain_code code) g.own g.point os) → ShowsStrand code array_words root arrays (Some x) i (moment (Step i) None ∷ h)
    joins x os over goes =
        let c = GoesBy waits.0 (AsItIs refl) (Joins g w.first fs os over) in
        let b = begins x (rejoining (plain_code code) g.own g.point os) goes in
        (begun (system code array_words root arrays) (rejoining (plain_code code) g.own g.point os), c, b.0, sym b.1)

-- frames that are over so, where there is one, and where there are two
have_one : (n : ℕ) (fs : List (Frame OwnWord Place)) (o : Result) (t : List (Deed OwnWord Place Result)) → length fs ≡ 1
    → HasFinished n o t → HaveFinished n fs (o ∷ []) t
have_one n [] o t one over = absurd (omega (arith, one))
have_one n (f ∷ []) o t one over = (over, tt)
have_one n (e ∷ f ∷ gs) o t one over = absurd (omega (arith, one))

have_two : (n : ℕ) (fs : List (Frame OwnWord Place)) (o p : Result) (t : List (Deed OwnWord Place Result)) → length fs ≡ 2
    → HasFinished n o t → HasFinished (suc n) p t → HaveFinished n fs (o ∷ p ∷ []) t
have_two n [] o p t two left right = absurd (omega (arith, two))
have_two n (f ∷ []) o p t two left right = absurd (omega (arith, two))
have_two n (e ∷ f ∷ []) o p t two left right = (left, (right, tt))
have_two n (e ∷ f ∷ g' ∷ gs) o p t two left right = absurd (omega (arith, two))

-- the first one isn't over, or the second
first_is_not : (n k : ℕ) (fs : List (Frame OwnWord Place)) (os : List Result) (t : List (Deed OwnWord Place Result)) → length fs ≡ suc k
    → ((o : Result) → HasFinished n o t → ⊥) → HaveFinished n fs os t → ⊥
first_is_not n k [] os t some none over = absurd (omega (arith, some))
first_is_not n k (e ∷ es) [] t some none over = over
first_is_not n k (e ∷ es) (o ∷ os) t some none over = none o over.0

second_is_not : (n : ℕ) (fs : List (Frame OwnWord Place)) (os : List Result) (t : List (Deed OwnWord Place Result)) → length fs ≡ 2
    → ((o : Result) → HasFinished (suc n) o t → ⊥) → HaveFinished n fs os t → ⊥
second_is_not n [] os t two none over = absurd (omega (arith, two))
second_is_not n (e ∷ es) [] t two none over = over
second_is_not n (e ∷ es) (o ∷ os) t two none over = first_is_not (suc n) 0 es os t (omega (arith, two)) none over.1

-- where a strand is not over in the machine, it is not
is_not_over : (strands : List Strand) (n : ℕ) (t : List (Deed OwnWord Place Result)) → FinishesAre (finish_in strands) t → finish_in strands n ≡ None
    → (o : Result) → HasFinished n o t → ⊥
is_not_over strands n t finishes none o over = let a = finishes.alone n o over in apart a.0 (sym none ∙ a.1)
  where
    apart : (f : Finish) → None ≡ Some f → ⊥
    apart f e = cc

-- what goes on isn't over
under_way_still : (x : Strand) (f : Frame OwnWord Place) → GoesOnAs x f → finish_of (Some x) ≡ None
under_way_still (Running r) f goes = refl
under_way_still (Tells fin) f goes = refl
under_way_still (IsWaiting w) f goes = refl
under_way_still (Over fin) f goes = absurd goes

module _ (w : Waiting) (strands : List Strand) where
  -- its branches are over so, and it goes on
  goes_on : (x : Strand) (os : List Result)
      → ((fs : List (Frame OwnWord Place)) (t : List (Deed OwnWord Place Result)) → length fs ≡ branch_count w.branches
      → FinishesAre (finish_in strands) t → HaveFinished w.first fs os t)
      → ((code : CodeParts) (o : Memory OwnWord) → ShowsOwn w.own o → GoesOnAs x (rejoining code o (At (point_by w.capsule w.branches)) os))
      → (code : RacyParts) (words : List ℕ) → MakesStep code (IsWaiting w) strands words (Goes x) words
  goes_on x os over goes code words = (
    refl,
    λ root arrays h i beside shows.
        let frame = shows.2.0 in
        let goes_so = subst (λ (p : Place). GoesOnAs x (rejoining (plain_code code) frame.own p os)) (sym shows.2.2.point)
        (goes (plain_code code) frame.own shows.2.2.own) in (
          joins code (length words) root arrays h i w shows x os (over shows.2.1 (deeds h) shows.2.2.branches beside.finishes) goes_so,
          under_way_still x (rejoining (plain_code code) frame.own frame.point os) goes_so,
        ),
  )

  -- some branch of it isn't over
  stays : ((fs : List (Frame OwnWord Place)) (os : List Result) (t : List (Deed OwnWord Place Result)) → length fs ≡ branch_count w.branches
      → FinishesAre (finish_in strands) t → HaveFinished w.first fs os t → ⊥)
      → (code : RacyParts) (words : List ℕ) → MakesStep code (IsWaiting w) strands words (Goes (IsWaiting w)) words
  stays still code words = (
    refl,
    λ root arrays h i beside shows. (
      passes code (length words) root arrays h i w shows (λ os. still shows.2.1 os (deeds h) shows.2.2.branches beside.finishes),
      refl,
    ),
  )

  -- its callee is over
  pub after_callee : (x : Strand) (to : Option ℕ) (f : Finish) → w.branches ≡ Callee to → finish_in strands w.first ≡ Some f
      → ((code : CodeParts) (o : Memory OwnWord) → ShowsOwn w.own o → GoesOnAs x (rejoining code o (At (point_by w.capsule (Callee to))) (result_of f ∷ [])))
      → (code : RacyParts) (words : List ℕ) → MakesStep code (IsWaiting w) strands words (Goes x) words
  after_callee x to f is over goes =
      goes_on x (result_of f ∷ [])
      (λ fs t count finishes. have_one w.first fs (result_of f) t (count ∙ ap branch_count is) (finishes.told w.first f over))
      (λ code o shows. subst (λ b. GoesOnAs x (rejoining code o (At (point_by w.capsule b)) (result_of f ∷ []))) (sym is) (goes code o shows))

  -- both its branches are
  pub after_both : (x : Strand) (left_to to : Option ℕ) (l r : Finish) → w.branches ≡ Both left_to to → finish_in strands w.first ≡ Some l
      → finish_in strands (suc w.first) ≡ Some r
      → ((code : CodeParts) (o : Memory OwnWord) → ShowsOwn w.own o
      → GoesOnAs x (rejoining code o (At (point_by w.capsule (Both left_to to))) (result_of l ∷ result_of r ∷ [])))
      → (code : RacyParts) (words : List ℕ) → MakesStep code (IsWaiting w) strands words (Goes x) words
  after_both x left_to to l r is left right goes =
      goes_on x (result_of l ∷ result_of r ∷ [])
      (λ fs t count finishes.
      have_two w.first fs (result_of l) (result_of r) t (count ∙ ap branch_count is) (finishes.told w.first l left) (finishes.told (suc w.first) r right))
      (λ code o shows.
      subst (λ b. GoesOnAs x (rejoining code o (At (point_by w.capsule b)) (result_of l ∷ result_of r ∷ []))) (sym is) (goes code o shows))

  -- its callee or its left branch isn't
  pub before_callee : (to : Option ℕ) → w.branches ≡ Callee to → finish_in strands w.first ≡ None
      → (code : RacyParts) (words : List ℕ) → MakesStep code (IsWaiting w) strands words (Goes (IsWaiting w)) words
  before_callee to is none =
      stays (λ fs os t count finishes. first_is_not w.first 0 fs os t (count ∙ ap branch_count is) (is_not_over strands w.first t finishes none))

  pub before_left : (left_to to : Option ℕ) → w.branches ≡ Both left_to to → finish_in strands w.first ≡ None
      → (code : RacyParts) (words : List ℕ) → MakesStep code (IsWaiting w) strands words (Goes (IsWaiting w)) words
  before_left left_to to is none =
      stays (λ fs os t count finishes. first_is_not w.first 1 fs os t (count ∙ ap branch_count is) (is_not_over strands w.first t finishes none))

  -- its right branch isn't
  pub before_right : (left_to to : Option ℕ) → w.branches ≡ Both left_to to → finish_in strands (suc w.first) ≡ None
      → (code : RacyParts) (words : List ℕ) → MakesStep code (IsWaiting w) strands words (Goes (IsWaiting w)) words
  before_right left_to to is none =
      stays (λ fs os t count finishes. second_is_not w.first fs os t (count ∙ ap branch_count is) (is_not_over strands (suc w.first) t finishes none))

-- where a strand is over it is there
pub is_there : (strands : List Strand) (n : ℕ) (f : Finish) → finish_in strands n ≡ Some f → n < length strands
is_there [] n f over = absurd (apart over)
  where
    apart : None ≡ Some f → ⊥
    apart e = cc
is_there (x ∷ xs) zero f over = omega arith
is_there (x ∷ xs) (suc n) f over = omega (arith, is_there xs n f over)

-- a strand that tells the trap of a branch is over by that, and one that is over stays so
pub tells_it : (code : RacyParts) (f : Finish) (strands : List Strand) (words : List ℕ) → MakesStep code (Tells f) strands words (Closes f) words
tells_it code f strands words = (
  refl,
  λ root arrays h i beside shows.
      let c = subst (λ (σ : State OwnWord Place Exit). ComesBy (system code (length words) root arrays) i h σ) shows.2.1 shows.1 in
      ((IsOver, DoesBy c (AsItIs refl) (Finishes (Telling (result_of f)) (result_of f) refl), refl, refl), refl),
)

pub stays_over : (code : RacyParts) (f : Finish) (strands : List Strand) (words : List ℕ) → MakesStep code (Over f) strands words (Goes (Over f)) words
stays_over code f strands words = (
  refl,
  λ root arrays h i beside shows.
      let c = subst (λ (σ : State OwnWord Place Exit). (c : ComesBy (system code (length words) root arrays) i h σ)
      × (asked (came (system code (length words) root arrays) c) ≡ nothing)) shows.2 (shows.1, shows.3) in
      ((IsOver, Passes c.0 tt, refl, c.1), refl),
)
