-- What is found of some schedules, and then of more.
use Rattle.std.proofs.Common.{◌≡◌, ◌∙◌, refl, sym, ap, subst, arith, not, ℕ, ◌+◌, List, [], ◌∷◌, ◌++◌, length, Result, Ok, Err, append_assoc}
use Rattle.std.proofs.lemmas.List.{length-append}
use Rattle.std.proofs.lemmas.List.Elements.{filter-append}
use Rattle.std.specs.List.{AllByRecursion}
use Rattle.ppm_words.specs.declared.outcome.Outcome.{Outcome}
use Rattle.ppm_core.specs.Situation.{Situation}
use Rattle.ppm_sweep.specs.declared.found.Stop.{Stop}
use Rattle.ppm_sweep.specs.declared.found.Stop.TheVariants.{Differs, NoMemory}
use Rattle.ppm_sweep.specs.declared.found.Tally.{Tally}
use Rattle.ppm_sweep.specs.Found.{faults_in, acts_in, short, left_out, Comes, AllCome, Stops, Finds}
use Rattle.ppm_sweep.specs.Sweep.{Swept, is_short}

faults_both : (first more : List Swept) → faults_in (first ++ more) ≡ faults_in first + faults_in more
faults_both [] more = omega arith
faults_both (v ∷ first) more = omega (arith, faults_both first more)

-- nothing stands after them
pub no_more : {A : Type 0} (list : List A) → list ++ [] ≡ list
no_more [] = refl
no_more (v ∷ list) = ap (λ l. v ∷ l) (no_more list)

-- those of two lists that are short, and those that are left out
short_both : (first more : List Swept) → short (first ++ more) ≡ short first ++ short more
short_both first more = filter-append is_short first more

left_both : (first more : List Swept) → left_out (first ++ more) ≡ left_out first ++ left_out more
left_both first more = filter-append (λ v. not (is_short v)) first more

module _ (m : Situation) (turns : ℕ) (wanted : Outcome) where
  acts_both : (first more : List Swept) → acts_in m turns wanted (first ++ more) ≡ acts_in m turns wanted first + acts_in m turns wanted more
  acts_both [] more = omega arith
  acts_both (v ∷ first) more = omega (arith, acts_both first more)

  come_both : (first more : List Swept) → AllByRecursion (Comes m turns wanted) first → AllByRecursion (Comes m turns wanted) more
      → AllByRecursion (Comes m turns wanted) (first ++ more)
  come_both [] more all also = also
  come_both (v ∷ first) more all also = (all.0, come_both first more all.1 also)

  -- these are short, those are left out, and so it is counted
  pub counted : (swept kept gone : List Swept) (t u : Tally) → short swept ≡ kept → left_out swept ≡ gone → AllByRecursion (Comes m turns wanted) kept
      → u.runs ≡ t.runs + length kept → u.met ≡ t.met + faults_in kept → u.acts ≡ t.acts + acts_in m turns wanted kept → u.left ≡ t.left + length gone
      → AllCome m turns wanted swept t u
  counted swept kept gone t u s g all runs met acts left = record {
    all = subst (λ l. AllByRecursion (Comes m turns wanted) l) (sym s) all;
    runs = runs ∙ ap (λ l. t.runs + length l) (sym s);
    met = met ∙ ap (λ l. t.met + faults_in l) (sym s);
    acts = acts ∙ ap (λ l. t.acts + acts_in m turns wanted l) (sym s);
    left = left ∙ ap (λ l. t.left + length l) (sym g);
  }

  -- of none all do
  pub none_come : (tally : Tally) → AllCome m turns wanted [] tally tally
  none_come tally = record { all = tt; runs = omega arith; met = omega arith; acts = omega arith; left = omega arith }

  pub all_both : (first more : List Swept) (t u v : Tally) → AllCome m turns wanted first t u → AllCome m turns wanted more u v
      → AllCome m turns wanted (first ++ more) t v
  all_both first more t u v a b =
      counted (first ++ more) (short first ++ short more) (left_out first ++ left_out more) t v (short_both first more) (left_both first more)
      (come_both (short first) (short more) a.all b.all)
      (omega (arith, a.runs, b.runs, length-append (short first) (short more)))
      (omega (arith, a.met, b.met, faults_both (short first) (short more)))
      (omega (arith, a.acts, b.acts, acts_both (short first) (short more)))
      (omega (arith, a.left, b.left, length-append (left_out first) (left_out more)))

  -- the first that differs is among those in front, or among those after these
  pub stops_in : (first more : List Swept) (stop : Stop) → Stops m turns wanted first stop → Stops m turns wanted (first ++ more) stop
  stops_in first more (Differs d) h = record {
    before = h.before;
    first = h.first;
    after = h.after ++ more;
    swept_are = ap (λ l. l ++ more) h.swept_are ∙ append_assoc h.before (h.first ∷ h.after) more;
    few = h.few;
    all = h.all;
    items = h.items;
    machine = h.machine;
    differs = h.differs;
  }
  stops_in first more NoMemory h = tt

  pub stops_after : (first more : List Swept) (t u : Tally) (stop : Stop) → AllCome m turns wanted first t u → Stops m turns wanted more stop
      → Stops m turns wanted (first ++ more) stop
  stops_after first more t u (Differs d) a h = record {
    before = first ++ h.before;
    first = h.first;
    after = h.after;
    swept_are = ap (λ l. first ++ l) h.swept_are ∙ sym (append_assoc first h.before (h.first ∷ h.after));
    few = h.few;
    all =
        subst (λ l. AllByRecursion (Comes m turns wanted) l) (sym (short_both first h.before))
        (come_both (short first) (short h.before) a.all h.all);
    items = h.items;
    machine = h.machine;
    differs = h.differs;
  }
  stops_after first more t u NoMemory a h = tt

  pub finds_after : (first more : List Swept) (t u v : Tally) (found : Result Unit Stop) → AllCome m turns wanted first t u
      → Finds m turns wanted more u v found → Finds m turns wanted (first ++ more) t v found
  finds_after first more t u v (Ok x) a h = all_both first more t u v a h
  finds_after first more t u v (Err stop) a h = stops_after first more t u stop a h
