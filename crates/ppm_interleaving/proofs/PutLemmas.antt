-- What a step comes to is put back, and the machine shows the run with that turn: case by case.
use Rattle.std.proofs.Common.{◌≡◌, inl, inr, Ok, Err, IfOk, OnOk, Result as Answer, ◌<◌, ◌≤◌, ℕ, zero, suc, ◌+◌, ◌==◌, true, false, cond, List, [], ◌∷◌, ◌++◌, length, map, get_or, set, is_some, refl, sym, ap, ◌∙◌, subst, Option, Some, None, arith, length-append}
use Rattle.std.specs.Prelude.{slice_get}
use Rattle.std.proofs.lemmas.List.{length-set}
use Rattle.std.proofs.lemmas.Option.{slice_get_past}
use Rattle.ppm_strands.specs.Ahead.{put}
use Rattle.ppm_strands.specs.Tree.{Words}
use Rattle.ppm_strands.specs.Strand.{Frame}
use Rattle.ppm_unseen.specs.Run.{System, Deed, State, NotYet, IsOver, asked, nothing, doer, HasFinished, count, now}
use Rattle.ppm_unseen.specs.Run.{Changed as HasChanged, Forked as HasForked, Finished as IsFinished}
use Rattle.ppm_code.specs.declared.location.FrameWord.{FrameWord}
use Rattle.ppm_code.specs.Strands.{Result}
use Rattle.ppm_depth.specs.declared.frame.Finish.{Finish}
use Rattle.ppm_filled.specs.Racing.{OwnWord, Place, Exit}
use Rattle.ppm_racy.specs.declared.code.RacyParts.{RacyParts}
use Rattle.ppm_interleaving.specs.declared.deed.Deed.{Deed as Told}
use Rattle.ppm_interleaving.specs.declared.deed.Turn.{Turn}
use Rattle.ppm_interleaving.specs.declared.deed.Turn.TheVariants.{Step, Fault}
use Rattle.ppm_interleaving.specs.declared.machine.Machine.{Machine}
use Rattle.ppm_interleaving.specs.declared.running.Running.{Running}
use Rattle.ppm_interleaving.specs.declared.stepped.Stepped.{Stepped}
use Rattle.ppm_interleaving.specs.declared.stepped.Stepped.TheVariants.{Goes, Changed, Calls, Forks, Closes}
use Rattle.ppm_interleaving.specs.declared.strand.Waiting.{Waiting}
use Rattle.ppm_interleaving.specs.declared.strand.Strand.{Strand}
use Rattle.ppm_interleaving.specs.declared.strand.Strand.TheVariants.{Running as IsRunning, Waiting as IsWaiting, Tells, Over}
use Rattle.ppm_interleaving.specs.Steps.{IsBegun, result_of}
use Rattle.ppm_interleaving.specs.Shows.{FinishesAre, IsTold, MakesTurn, Shows, ShowsStrand, finish_in, finish_of, system}
use Rattle.ppm_interleaving.specs.Stepping.{FailsTo, MakesStep, PutsBack, StepsTo}
use Rattle.ppm_interleaving.specs.Turns.{Moment, moment, deeds, strand_of, Passes, ComesBy, came}
use Rattle.ppm_interleaving.proofs.ShowLemmas.{not_yet, rests, sees_change, sees_finish}
use Rattle.ppm_interleaving.proofs.StartLemmas.{fails, spared, tells_again}
use Rattle.ppm_interleaving.proofs.ForkLemmas.{BeginAll, get_front, get_back, seen_before, seen_after}
use Rattle.ppm_interleaving.proofs.MachineLemmas.{Same, One, Two, compare, IsBack, is_back, beside, put_one, finishes_stay}

-- strands are over as before, where all are over as before, and where a deed closes none
finishes_as : (old new : ℕ → Option Finish) (t : List (Deed OwnWord Place Result)) → ((j : ℕ) → new j ≡ old j) → FinishesAre old t → FinishesAre new t
finishes_as old new t same finishes = record {
  told = λ j f is. finishes.told j f (sym (same j) ∙ is);
  alone = λ j result over. let a = finishes.alone j result over in (a.0, same j ∙ a.1, a.2);
}

finishes_past : (now : ℕ → Option Finish) (d : Deed OwnWord Place Result) (t : List (Deed OwnWord Place Result))
    → ((j : ℕ) (result : Result) → d ≡ IsFinished j result → ⊥) → FinishesAre now t → FinishesAre now (d ∷ t)
finishes_past now d t other finishes = record { told = λ j f is. inr (finishes.told j f is); alone = alone }
  where
    alone : (j : ℕ) (result : Result) → HasFinished j result (d ∷ t) → (f : Finish) × (now j ≡ Some f) × (result ≡ result_of f)
    alone j result (inl is) = absurd (other j result is)
    alone j result (inr over) = finishes.alone j result over

abbrev changed : (who x v : ℕ) → Deed OwnWord Place Result
changed who x v = HasChanged who x v

change_closes_none : (who x v j : ℕ) (result : Result) → changed who x v ≡ IsFinished j result → ⊥
change_closes_none who x v j result e = cc

fork_closes_none : (who : ℕ) (fs : List (Frame OwnWord Place)) (j : ℕ) (result : Result) → HasForked who fs ≡ IsFinished j result → ⊥
fork_closes_none who fs j result e = cc

-- the outcome of a deed, if it closes a strand
abbrev outcome_or : Result → Deed OwnWord Place Result → Result
outcome_or other (HasChanged who x v) = other
outcome_or other (HasForked who fs) = other
outcome_or other (IsFinished who result) = result

-- an option that is something is not nothing
some_is_not_none : (f : Finish) → None ≡ Some f → ⊥
some_is_not_none f e = cc

-- what there is, if there is something
pub what_is : (o : Option Finish) → is_some o ≡ true → (f : Finish) × (o ≡ Some f)
what_is (Some f) e = (f, refl)
what_is None e = absurd (apart e)
  where
    apart : false ≡ true → ⊥
    apart e = cc

same_finish : (f g : Finish) → Some f ≡ Some g → f ≡ g
same_finish f g e = cc

-- with one strand more that is over, which was not before
finishes_more : (old new : ℕ → Option Finish) (i : ℕ) (f : Finish) (t : List (Deed OwnWord Place Result)) → old i ≡ None → new i ≡ Some f
    → ((j : ℕ) → (i ≡ j → ⊥) → new j ≡ old j) → FinishesAre old t → FinishesAre new (IsFinished i (result_of f) ∷ t)
finishes_more old new i f t none over same finishes = record { told = λ j g is. told j g is (compare i j); alone = alone }
  where
    told : (j : ℕ) (g : Finish) → new j ≡ Some g → Same i j → HasFinished j (result_of g) (IsFinished i (result_of f) ∷ t)
    told j g is (One e) = inl (λ k. IsFinished (e k) (result_of (same_finish f g (sym over ∙ ap new e ∙ is) k)))
    told j g is (Two other) = inr (finishes.told j g (sym (same j other) ∙ is))

    before : (j : ℕ) (result : Result) → HasFinished j result t → Same i j → (g : Finish) × (new j ≡ Some g) × (result ≡ result_of g)
    before j result past (One e) = let a = finishes.alone j result past in absurd (some_is_not_none a.0 (sym none ∙ ap old e ∙ a.1))
    before j result past (Two other) = let a = finishes.alone j result past in (a.0, same j other ∙ a.1, a.2)

    alone : (j : ℕ) (result : Result) → HasFinished j result (IsFinished i (result_of f) ∷ t) → (g : Finish) × (new j ≡ Some g) × (result ≡ result_of g)
    alone j result (inl is) = (f, ap new (sym (ap doer is)) ∙ over, sym (ap (outcome_or result) is))
    alone j result (inr past) = before j result past (compare i j)

-- a number is one of those so far, or comes after them
data Position (n j : ℕ) : Type 0 where
  Front : j < n → Position n j
  Behind : (k : ℕ) → n + k ≡ j → Position n j

position : (n j : ℕ) → Position n j
position zero j = Behind j (omega arith)
position (suc n) zero = Front (omega arith)
position (suc n) (suc j) = by (position n j)
  where
    by : Position n j → Position (suc n) (suc j)
    by (Front less) = Front (omega (arith, less))
    by (Behind k is) = Behind k (omega (arith, is))

-- branches that begin are not over
none_over : (rs : List Running) (k : ℕ) → finish_in (map IsRunning rs) k ≡ None
none_over [] k = refl
none_over (r ∷ rs) zero = refl
none_over (r ∷ rs) (suc k) = none_over rs k

begin_as_many : (rs : List Running) (fs : List (Frame OwnWord Place)) → BeginAll rs fs → length (map IsRunning rs) ≡ length fs
begin_as_many [] [] b = refl
begin_as_many [] (f ∷ fs) b = absurd b
begin_as_many (r ∷ rs) [] b = absurd b
begin_as_many (r ∷ rs) (f ∷ fs) b = ap suc (begin_as_many rs fs b.1)

module _ (code : RacyParts) (array_words : ℕ) (root : FrameWord → ℕ) (arrays : Words) (h : List Moment)
    (old : Machine) (shows : Shows code array_words root arrays h old) (i : ℕ) (less : i < length old.strands.items)
    (not_over : finish_in old.strands.items i ≡ None) (dummy : Strand) (new : Machine) where
  abbrev s : System OwnWord Place Exit Result
  s = system code array_words root arrays

  -- the strands with one that is put back
  abbrev with_one : Strand → List Strand
  with_one x = set (set old.strands.items i dummy) i x

  one_back : (x : Strand) → new.strands.items ≡ with_one x → IsBack old.strands.items new.strands.items i x
  one_back x after = subst (λ (xs : List Strand). IsBack old.strands.items xs i x) (sym after) (is_back old.strands.items i dummy x less)

  as_many : (x : Strand) → length (with_one x) ≡ length old.strands.items
  as_many x = length-set (set old.strands.items i dummy) i x ∙ length-set old.strands.items i dummy

  -- it goes on unseen
  pub goes_back : (x : Strand) → new.strands.items ≡ with_one x → new.words.items ≡ old.words.items → finish_of (Some x) ≡ None
      → ShowsStrand code array_words root arrays (Some x) i (moment (Step i) None ∷ h) → Shows code array_words root arrays (moment (Step i) None ∷ h) new
  goes_back x after words none here =
      put_one code array_words root arrays h old shows i (Step i) None new x (one_back x after) (ap length after ∙ as_many x) here
      (λ found j other there. rests code array_words root arrays h found j (Step i) other there)
      (λ y. shows.words y ∙ ap (λ (ws : List ℕ). get_or ws y 0) (sym words)) (ap length words ∙ shows.word_count) refl
      (finishes_as (finish_in old.strands.items) (finish_in new.strands.items) (deeds h)
      (finishes_stay code array_words root arrays h old shows i new x (one_back x after) (none ∙ sym not_over)) shows.finishes)

  -- it has changed a word
  pub changes_back : (r : Running) (word is : ℕ) → new.strands.items ≡ with_one (IsRunning r)
      → length new.words.items ≡ length old.words.items
      → ((y : ℕ) → get_or new.words.items y 0 ≡ put (λ x. get_or old.words.items x 0) word is y)
      → ShowsStrand code array_words root arrays (Some (IsRunning r)) i (moment (Step i) (Some (HasChanged i word is)) ∷ h)
      → Shows code array_words root arrays (moment (Step i) (Some (HasChanged i word is)) ∷ h) new
  changes_back r word is after same_length words here =
      put_one code array_words root arrays h old shows i (Step i) (Some (HasChanged i word is)) new (IsRunning r) (one_back (IsRunning r) after)
      (ap length after ∙ as_many (IsRunning r)) here
      (λ found j other there. sees_change code array_words root arrays h found j i word is other there)
      (λ y. ap (λ (w : ℕ). cond (y == word) is w) (shows.words y) ∙ sym (words y)) (same_length ∙ shows.word_count) refl
      (finishes_past (finish_in new.strands.items) (HasChanged i word is) (deeds h) (change_closes_none i word is)
      (finishes_as (finish_in old.strands.items) (finish_in new.strands.items) (deeds h)
      (finishes_stay code array_words root arrays h old shows i new (IsRunning r) (one_back (IsRunning r) after) (sym not_over)) shows.finishes))

  -- it is over
  pub closes_back : (f : Finish) → new.strands.items ≡ with_one (Over f) → new.words.items ≡ old.words.items
      → ShowsStrand code array_words root arrays (Some (Over f)) i (moment (Step i) (Some (IsFinished i (result_of f))) ∷ h)
      → Shows code array_words root arrays (moment (Step i) (Some (IsFinished i (result_of f))) ∷ h) new
  closes_back f after words here =
      let back = one_back (Over f) after in
      put_one code array_words root arrays h old shows i (Step i) (Some (IsFinished i (result_of f))) new (Over f) back
      (ap length after ∙ as_many (Over f)) here
      (λ found j other there. sees_finish code array_words root arrays h found j i (result_of f) other there)
      (λ y. shows.words y ∙ ap (λ (ws : List ℕ). get_or ws y 0) (sym words)) (ap length words ∙ shows.word_count) refl
      (finishes_more (finish_in old.strands.items) (finish_in new.strands.items) i f (deeds h) not_over (ap finish_of back.there)
      (λ j other. ap finish_of (back.elsewhere j other)) shows.finishes)

  -- it has forked branches, which come after all others
  pub forks_back : (w : Waiting) (rs : List Running) (fs : List (Frame OwnWord Place)) → BeginAll rs fs
      → new.strands.items ≡ with_one (IsWaiting w) ++ map IsRunning rs → new.words.items ≡ old.words.items
      → ShowsStrand code array_words root arrays (Some (IsWaiting w)) i (moment (Step i) (Some (HasForked i fs)) ∷ h)
      → Shows code array_words root arrays (moment (Step i) (Some (HasForked i fs)) ∷ h) new
  forks_back w rs fs begin after words here = record {
    words = λ y. shows.words y ∙ ap (λ (ws : List ℕ). get_or ws y 0) (sym words);
    word_count = ap length words ∙ shows.word_count;
    strand_count =
        ap (λ (n : ℕ). n + length fs) (shows.strand_count ∙ sym (as_many (IsWaiting w)))
        ∙ ap (λ (n : ℕ). length (with_one (IsWaiting w)) + n) (sym (begin_as_many rs fs begin))
        ∙ sym (length-append (with_one (IsWaiting w)) (map IsRunning rs)) ∙ ap length (sym after);
    strands = λ j. at j (position (length old.strands.items) j);
    finishes = finishes_past (finish_in new.strands.items) (HasForked i fs) (deeds h) (fork_closes_none i fs)
        (finishes_as (finish_in old.strands.items) (finish_in new.strands.items) (deeds h) (λ j. over j (position (length old.strands.items) j)) shows.finishes);
  }
    where
      back : IsBack old.strands.items (with_one (IsWaiting w)) i (IsWaiting w)
      back = is_back old.strands.items i dummy (IsWaiting w) less

      -- a strand that was there, and one that wasn't
      in_front : (j : ℕ) → j < length old.strands.items → slice_get new.strands.items j ≡ slice_get (with_one (IsWaiting w)) j
      in_front j there =
          ap (λ (xs : List Strand). slice_get xs j) after
          ∙ get_front (with_one (IsWaiting w)) (map IsRunning rs) j (subst (λ (n : ℕ). j < n) (sym (as_many (IsWaiting w))) there)

      behind : (k : ℕ) → slice_get new.strands.items (length old.strands.items + k) ≡ slice_get (map IsRunning rs) k
      behind k =
          (λ l. slice_get (after l) (sym (as_many (IsWaiting w)) l + k))
          ∙ get_back (with_one (IsWaiting w)) (map IsRunning rs) k

      before : (j : ℕ) → j < length old.strands.items → Same i j
          → ShowsStrand code array_words root arrays (slice_get new.strands.items j) j (moment (Step i) (Some (HasForked i fs)) ∷ h)
      before j there (One e) =
          subst (λ (k : ℕ). ShowsStrand code array_words root arrays (slice_get new.strands.items k) k (moment (Step i) (Some (HasForked i fs)) ∷ h)) e
          (subst (λ found. ShowsStrand code array_words root arrays found i (moment (Step i) (Some (HasForked i fs)) ∷ h)) (sym (in_front i less ∙ back.there)) here)
      before j there (Two other) =
          subst (λ found. ShowsStrand code array_words root arrays found j (moment (Step i) (Some (HasForked i fs)) ∷ h))
          (sym (in_front j there ∙ back.elsewhere j other))
          (seen_before code array_words root arrays h i fs (slice_get old.strands.items j) j (subst (λ (n : ℕ). j < n) (sym shows.strand_count) there) other
          (shows.strands j))

      at : (j : ℕ) → Position (length old.strands.items) j
          → ShowsStrand code array_words root arrays (slice_get new.strands.items j) j (moment (Step i) (Some (HasForked i fs)) ∷ h)
      at j (Front there) = before j there (compare i j)
      at j (Behind k is) =
          let place : count s (deeds h) + k ≡ j = ap (λ (n : ℕ). n + k) shows.strand_count ∙ is in
          subst (λ (n : ℕ). ShowsStrand code array_words root arrays (slice_get new.strands.items n) n (moment (Step i) (Some (HasForked i fs)) ∷ h)) place
          (subst (λ found. ShowsStrand code array_words root arrays found (count s (deeds h) + k) (moment (Step i) (Some (HasForked i fs)) ∷ h))
          (sym (ap (slice_get new.strands.items) (place ∙ sym is) ∙ behind k))
          (seen_after code array_words root arrays h i fs rs k begin
          (λ e. omega (arith, less, e, shows.strand_count))
          (subst (λ found. ShowsStrand code array_words root arrays found (count s (deeds h) + k) h)
          (slice_get_past old.strands.items (count s (deeds h) + k) (omega (arith, shows.strand_count))) (shows.strands (count s (deeds h) + k)))))

      over : (j : ℕ) → Position (length old.strands.items) j → finish_in new.strands.items j ≡ finish_in old.strands.items j
      over j (Front there) = there_over (compare i j)
        where
          there_over : Same i j → finish_in new.strands.items j ≡ finish_in old.strands.items j
          there_over (One e) =
              ap finish_of (in_front j there) ∙ ap (finish_in (with_one (IsWaiting w))) (sym e) ∙ ap finish_of back.there ∙ sym not_over ∙ ap (finish_in old.strands.items) e
          there_over (Two other) = ap finish_of (in_front j there ∙ back.elsewhere j other)
      over j (Behind k is) =
          ap (finish_in new.strands.items) (sym is) ∙ ap finish_of (behind k) ∙ none_over rs k
          ∙ sym (ap finish_of (slice_get_past old.strands.items j (omega (arith, is))))

-- whatever a step comes to
module _ (code : RacyParts) (old new : Machine) (i : ℕ) (x dummy : Strand) (there : slice_get old.strands.items i ≡ Some x)
    (less : i < length old.strands.items) (not_over : finish_in old.strands.items i ≡ None) (none : finish_of (Some dummy) ≡ None)
    (root : FrameWord → ℕ) (arrays : Words) where
  -- what the step is, in the run that the machine shows
  stepped_to : (stepped : Stepped) (h : List Moment) → MakesStep code x (set old.strands.items i dummy) old.words.items stepped new.words.items
      → Shows code (length old.words.items) root arrays h old → StepsTo code (length old.words.items) root arrays h i x stepped
  stepped_to stepped h step shows =
      step.1 root arrays h i (beside code (length old.words.items) root arrays h old shows i dummy less not_over none)
      (subst (λ found. ShowsStrand code (length old.words.items) root arrays found i h) there (shows.strands i))

  still_under_way : finish_of (Some x) ≡ None
  still_under_way = ap finish_of (sym there) ∙ not_over

  pub steps_back : (stepped : Stepped) (tells : Option Told)
      → MakesStep code x (set old.strands.items i dummy) old.words.items stepped new.words.items
      → PutsBack (set old.strands.items i dummy) i stepped tells new.strands.items
      → MakesTurn code (length old.words.items) root arrays (Step i) tells old new
  steps_back (Goes y) tells step back h shows =
      let to = stepped_to (Goes y) h step shows in
      subst (λ t. (d : Option (Deed OwnWord Place Result)) × Shows code (length old.words.items) root arrays (moment (Step i) d ∷ h) new
      × IsTold code (length old.words.items) root arrays i t (deeds h) d) (sym back.0)
      (None, goes_back code (length old.words.items) root arrays h old shows i less not_over dummy new y back.1 step.0 (to.1 ∙ still_under_way) to.0, refl)
  steps_back (Changed r word was is) tells step back h shows =
      let to = stepped_to (Changed r word was is) h step shows in
      subst (λ t. (d : Option (Deed OwnWord Place Result)) × Shows code (length old.words.items) root arrays (moment (Step i) d ∷ h) new
      × IsTold code (length old.words.items) root arrays i t (deeds h) d) (sym back.0) (
        Some (HasChanged i word is),
        changes_back code (length old.words.items) root arrays h old shows i less not_over dummy new r word is back.1 step.0.1 step.0.2 to.0,
        (refl, step.0.0 ∙ sym (shows.words word)),
      )
  steps_back (Calls r w) tells step back h shows =
      let to = stepped_to (Calls r w) h step shows in
      subst (λ t. (d : Option (Deed OwnWord Place Result)) × Shows code (length old.words.items) root arrays (moment (Step i) d ∷ h) new
      × IsTold code (length old.words.items) root arrays i t (deeds h) d) (sym back.0) (
        Some (HasForked i (to.0 ∷ [])),
        forks_back code (length old.words.items) root arrays h old shows i less not_over dummy new w (r ∷ []) (to.0 ∷ []) (to.1, tt) back.1 step.0 to.2,
        (to.0 ∷ [], refl, length-set old.strands.items i dummy ∙ sym shows.strand_count, refl),
      )
  steps_back (Forks l r w) tells step back h shows =
      let to = stepped_to (Forks l r w) h step shows in
      subst (λ t. (d : Option (Deed OwnWord Place Result)) × Shows code (length old.words.items) root arrays (moment (Step i) d ∷ h) new
      × IsTold code (length old.words.items) root arrays i t (deeds h) d) (sym back.0) (
        Some (HasForked i (to.0 ∷ to.1 ∷ [])),
        forks_back code (length old.words.items) root arrays h old shows i less not_over dummy new w (l ∷ r ∷ []) (to.0 ∷ to.1 ∷ [])
            (to.2, (to.3, tt)) back.1 step.0 to.4,
        (to.0 ∷ to.1 ∷ [], refl, length-set old.strands.items i dummy ∙ sym shows.strand_count, refl),
      )
  steps_back (Closes f) tells step back h shows =
      let to = stepped_to (Closes f) h step shows in
      subst (λ t. (d : Option (Deed OwnWord Place Result)) × Shows code (length old.words.items) root arrays (moment (Step i) d ∷ h) new
      × IsTold code (length old.words.items) root arrays i t (deeds h) d) (sym back.0) (
        Some (IsFinished i (result_of f)),
        closes_back code (length old.words.items) root arrays h old shows i less not_over dummy new f back.1 step.0 to.0,
        refl,
      )

-- a strand after a fault
pub fails_running : (old new : Running) → IsBegun old.capsule old.own new → FailsTo (IsRunning old) (IsRunning new)
fails_running old new begins = (refl, λ code array_words root arrays h i shows. fails code array_words root arrays h i old new begins shows)

pub fails_waiting : (w : Waiting) → FailsTo (IsWaiting w) (IsWaiting w)
fails_waiting w = (
  refl,
  λ code array_words root arrays h i shows. spared code array_words root arrays h i (Some (IsWaiting w)) (λ o is. not_running o is) (λ f is. not_telling f is) shows,
)
  where
    not_running : (o : Running) → Some (IsWaiting w) ≡ Some (IsRunning o) → ⊥
    not_running o e = cc

    not_telling : (f : Finish) → Some (IsWaiting w) ≡ Some (Tells f) → ⊥
    not_telling f e = cc

pub fails_telling : (f : Finish) → FailsTo (Tells f) (Tells f)
fails_telling f = (refl, λ code array_words root arrays h i shows. tells_again code array_words root arrays h i f shows)

pub fails_over : (g : Finish) → FailsTo (Over g) (Over g)
fails_over g = (
  refl,
  λ code array_words root arrays h i shows. spared code array_words root arrays h i (Some (Over g)) (λ o is. not_running o is) (λ f is. not_telling f is) shows,
)
  where
    not_running : (o : Running) → Some (Over g) ≡ Some (IsRunning o) → ⊥
    not_running o e = cc

    not_telling : (f : Finish) → Some (Over g) ≡ Some (Tells f) → ⊥
    not_telling f e = cc

-- it is put back
pub fails_back : (code : RacyParts) (old new : Machine) (i : ℕ) (x y dummy : Strand) → slice_get old.strands.items i ≡ Some x
    → i < length old.strands.items → FailsTo x y → new.strands.items ≡ set (set old.strands.items i dummy) i y → new.words.items ≡ old.words.items
    → (root : FrameWord → ℕ) (arrays : Words) → MakesTurn code (length old.words.items) root arrays (Fault i) None old new
fails_back code old new i x y dummy there less to after words root arrays h shows =
    let back = subst (λ (xs : List Strand). IsBack old.strands.items xs i y) (sym after) (is_back old.strands.items i dummy y less) in (
      None,
      put_one code (length old.words.items) root arrays h old shows i (Fault i) None new y back
          (ap length after ∙ length-set (set old.strands.items i dummy) i y ∙ length-set old.strands.items i dummy)
          (to.1 code (length old.words.items) root arrays h i
          (subst (λ found. ShowsStrand code (length old.words.items) root arrays found i h) there (shows.strands i)))
          (λ found j other there. rests code (length old.words.items) root arrays h found j (Fault i) other there)
          (λ y. shows.words y ∙ ap (λ (ws : List ℕ). get_or ws y 0) (sym words)) (ap length words ∙ shows.word_count) refl
          (finishes_as (finish_in old.strands.items) (finish_in new.strands.items) (deeds h)
          (finishes_stay code (length old.words.items) root arrays h old shows i new y back (to.0 ∙ ap finish_of (sym there))) shows.finishes),
      refl,
    )

-- a turn that leaves all as it is
module _ (code : RacyParts) (m : Machine) (root : FrameWord → ℕ) (arrays : Words) (h : List Moment) (shows : Shows code (length m.words.items) root arrays h m) where
  leaves_all : (turn : Turn)
      → ShowsStrand code (length m.words.items) root arrays (slice_get m.strands.items (strand_of turn)) (strand_of turn) (moment turn None ∷ h)
      → Shows code (length m.words.items) root arrays (moment turn None ∷ h) m
  leaves_all turn here = record {
    words = shows.words;
    word_count = shows.word_count;
    strand_count = shows.strand_count;
    strands = λ j. at j (compare (strand_of turn) j);
    finishes = shows.finishes;
  }
    where
      at : (j : ℕ) → Same (strand_of turn) j
          → ShowsStrand code (length m.words.items) root arrays (slice_get m.strands.items j) j (moment turn None ∷ h)
      at j (One e) =
          subst (λ (k : ℕ). ShowsStrand code (length m.words.items) root arrays (slice_get m.strands.items k) k (moment turn None ∷ h)) e here
      at j (Two other) = rests code (length m.words.items) root arrays h (slice_get m.strands.items j) j turn other (shows.strands j)

  -- of a strand that isn't there
  absent : (i : ℕ) → length m.strands.items ≤ i → ShowsStrand code (length m.words.items) root arrays None i h
  absent i past = subst (λ found. ShowsStrand code (length m.words.items) root arrays found i h) (slice_get_past m.strands.items i past) (shows.strands i)

  pub steps_absent : (i : ℕ) → length m.strands.items ≤ i → Shows code (length m.words.items) root arrays (moment (Step i) None ∷ h) m
  steps_absent i past =
      let c = not_yet code (length m.words.items) root arrays h i (absent i past) in
      leaves_all (Step i) (subst (λ found. ShowsStrand code (length m.words.items) root arrays found i (moment (Step i) None ∷ h))
      (sym (slice_get_past m.strands.items i past)) (NotYet, Passes c.0 tt, refl, c.1))

  pub fails_absent : (i : ℕ) → length m.strands.items ≤ i → Shows code (length m.words.items) root arrays (moment (Fault i) None ∷ h) m
  fails_absent i past =
      leaves_all (Fault i) (subst (λ found. ShowsStrand code (length m.words.items) root arrays found i (moment (Fault i) None ∷ h))
      (sym (slice_get_past m.strands.items i past))
      (spared code (length m.words.items) root arrays h i None (λ o is. not_running o is) (λ f is. not_telling f is) (absent i past)))
    where
      not_running : (o : Running) → None ≡ Some (IsRunning o) → ⊥
      not_running o e = cc

      not_telling : (f : Finish) → None ≡ Some (Tells f) → ⊥
      not_telling f e = cc

  -- of one that is over
  pub steps_over : (i : ℕ) (f : Finish) → finish_in m.strands.items i ≡ Some f → Shows code (length m.words.items) root arrays (moment (Step i) None ∷ h) m
  steps_over i f over = leaves_all (Step i) (by (slice_get m.strands.items i) over (shows.strands i))
    where
      some_over : (x : Strand) → finish_of (Some x) ≡ Some f → ShowsStrand code (length m.words.items) root arrays (Some x) i h
          → ShowsStrand code (length m.words.items) root arrays (Some x) i (moment (Step i) None ∷ h)
      some_over (IsRunning r) e there = absurd (some_is_not_none f e)
      some_over (IsWaiting w) e there = absurd (some_is_not_none f e)
      some_over (Tells g) e there = absurd (some_is_not_none f e)
      some_over (Over g) e there =
          let c = subst (λ (σ : State OwnWord Place Exit). (c : ComesBy (system code (length m.words.items) root arrays) i h σ)
          × (asked (came (system code (length m.words.items) root arrays) c) ≡ nothing)) there.2 (there.1, there.3) in
          (IsOver, Passes c.0 tt, refl, c.1)

      by : (found : Option Strand) → finish_of found ≡ Some f → ShowsStrand code (length m.words.items) root arrays found i h
          → ShowsStrand code (length m.words.items) root arrays found i (moment (Step i) None ∷ h)
      by None e there = absurd (some_is_not_none f e)
      by (Some x) e there = some_over x e there

-- a step beside the same strands and words
pub same_step : (code : RacyParts) (x : Strand) (stepped : Stepped) (strands others : List Strand) (words same after later : List ℕ)
    → strands ≡ others → words ≡ same → later ≡ after → MakesStep code x strands words stepped after → MakesStep code x others same stepped later
same_step code x stepped strands others words same after later p q r step =
    subst (λ (xs : List Strand). MakesStep code x xs same stepped later) p
    (subst (λ (ws : List ℕ). MakesStep code x strands ws stepped later) q
    (subst (λ (ws : List ℕ). MakesStep code x strands words stepped ws) (sym r) step))

-- what a result has, if it has something, where something else is true then
pub if_ok_then : {A E : Type 0} (P Q : A → Type 0) (X : Type 0) (r : Answer A E) → ((a : A) → P a → X → Q a) → IfOk r P → OnOk r X → IfOk r Q
if_ok_then P Q X (Ok a) f h x = f a h x
if_ok_then P Q X (Err e) f h x = h
