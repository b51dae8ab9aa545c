-- A code and an input have one verdict within a limit: moments of one number are one, and the first touch of a log that meets anything is one.
use Rattle.std.proofs.Common.{◌≡◌, ◌<◌, inl, inr, ℕ, ◌+◌, List, [], ◌∷◌, ◌++◌, refl, sym, ap, ◌∙◌, subst, subst₂, arith, length, Bool, true}
use Rattle.std.proofs.Common.{false}
use Rattle.std.specs.Prelude.{◌↔◌}
use Rattle.std.specs.List.{AllByRecursion}
use Rattle.std.proofs.lemmas.Bool.{cases_lt}
use Rattle.ppm_words.specs.declared.named_array.NamedArray.{NamedArray}
use Rattle.ppm_code.specs.declared.code.CodeParts.{CodeParts}
use Rattle.ppm_code.specs.Inputs.{words_in}
use Rattle.ppm_code.specs.Strands.{Result}
use Rattle.ppm_depth.specs.Run.{strands_of, said_of, pool_words, IsWithin}
use Rattle.ppm_depth.specs.Start.{words_of, root_strand}
use Rattle.ppm_depth.specs.Stack.{Own, Strands}
use Rattle.ppm_depth.specs.Turns.{strands_over}
use Rattle.ppm_depth.specs.declared.depth.DepthRun.{DepthRun}
use Rattle.ppm_strands.specs.Tree.{Words, Code, Strand, Has}
use Rattle.ppm_strands.specs.Run.{End}
use Rattle.ppm_strands.proofs.RunLemmas.{one_end}
use Rattle.ppm_stamps.specs.Stamps.{Stamps}
use Rattle.ppm_stamps.specs.Moments.{Above, beside_of, IsOpen}
use Rattle.ppm_stamps.proofs.OneWayLemmas.{moments_are_one, earlier_pass}
use Rattle.ppm_stamps.proofs.OpenLemmas.{lefts_are_one, open_beside}
use Rattle.ppm_races.specs.Beside.{IsFirst}
use Rattle.ppm_races.specs.Verdicts.{IsMeeting, IsOpener, IsRace, IsVerdict, IsVisit, MomentOf, log_of, meets_at, met_at, touch_of}
use Rattle.ppm_races.specs.declared.judging.Verdict.{Verdict}
use Rattle.ppm_races.specs.declared.judging.Verdict.TheVariants.{Calm, Races, NotWithin}
use Rattle.ppm_races.specs.declared.race.Opener.{Opener}
use Rattle.ppm_races.specs.declared.race.Race.{Race}
use Rattle.ppm_races.specs.declared.race.Touching.{Touching}
use Rattle.ppm_races.specs.declared.race.Visit.{Visit}
use Rattle.ppm_races.specs.declared.touch.Touch.{Touch}
use Rattle.ppm_races.proofs.VerdictLemmas.{passes_not_meets, touch_meets}

-- the first one of a list, and the others
abbrev head_of : Touch → List Touch → Touch
head_of d [] = d
head_of d (t ∷ log) = t

-- the others
abbrev rest_of : List Touch → List Touch
rest_of [] = []
rest_of (t ∷ log) = log

-- a log has one first touch of which a test holds
first_by : (test : Touch → Bool) (t u : Touch) → test t ≡ true → test u ≡ true → (front rest front' rest' : List Touch)
    → front ++ (t ∷ rest) ≡ front' ++ (u ∷ rest') → AllByRecursion (λ x. test x ≡ false) front → AllByRecursion (λ x. test x ≡ false) front' → t ≡ u
first_by test t u yes_t yes_u [] rest [] rest' e no_t no_u = ap (λ (l : List Touch). head_of t l) e
first_by test t u yes_t yes_u [] rest (x ∷ front') rest' e no_t no_u =
    absurd (let same = ap (λ (l : List Touch). test (head_of t l)) e in let out = no_u.0 in cc)
first_by test t u yes_t yes_u (x ∷ front) rest [] rest' e no_t no_u =
    absurd (let same = ap (λ (l : List Touch). test (head_of x l)) e in let out = no_t.0 in cc)
first_by test t u yes_t yes_u (x ∷ front) rest (y ∷ front') rest' e no_t no_u =
    first_by test t u yes_t yes_u front rest front' rest' (ap (λ (l : List Touch). rest_of l) e) no_t.1 no_u.1

-- a log has one
first_one : (test : Touch → Bool) (log : List Touch) (t u : Touch) → IsFirst test log t → IsFirst test log u → t ≡ u
first_one test log t u p q = first_by test t u p.here q.here p.front p.rest q.front q.rest (sym p.all ∙ q.all) p.none q.none

-- two answers that hold in the same case are one
bool_one : (a b : Bool) {P : Type 0} → (a ≡ true) ↔ P → (b ≡ true) ↔ P → a ≡ b
bool_one true true p q = refl
bool_one false false p q = refl
bool_one true false p q = sym (q.1 (p.0 refl))
bool_one false true p q = p.1 (q.0 refl)

module _ (code : CodeParts) (root : Strands) (input : Words) (n : ℕ) where
  abbrev c : Code Own Result
  c = strands_over code n

  -- two moments have the same parts
  record AreSame (i j : ℕ) (p : MomentOf code root input n i) (q : MomentOf code root input n j) : Type 0 where
    pub above : p.above ≡ q.above
    pub frame : p.frame ≡ q.frame
    pub words : p.words ≡ q.words
    pub stamps : p.stamps ≡ q.stamps

  -- moments of equal numbers do
  same_moments : (i j : ℕ) → i ≡ j → (p : MomentOf code root input n i) (q : MomentOf code root input n j) → AreSame i j p q
  same_moments i j e p q =
      let it = moments_are_one c root input i p
      (record { above = q.above; frame = q.frame; words = q.words; stamps = q.stamps; come = q.come; time = q.time ∙ sym e }) in
      record { above = it.above; frame = it.frame; words = it.words; stamps = it.stamps }

  -- a capsule has one number in the code
  same_capsule : (i j k l : ℕ) → i ≡ j → (p : MomentOf code root input n i) (q : MomentOf code root input n j) → p.frame.point.capsule ≡ k
      → q.frame.point.capsule ≡ l → k ≡ l
  same_capsule i j k l e p q a b = sym a ∙ ap (λ (f : Own). f.point.capsule) (same_moments i j e p q).frame ∙ b

  -- who meets something is the first that does
  meeting_meets : (word : ℕ) (r : Touching) (later : ℕ) → IsMeeting code root input n word r → MomentOf code root input n later → r.run < later → ⊥
  meeting_meets word r later it q less =
      passes_not_meets c (beside_of it.moment.above) it.moment.frame it.moment.words it.moment.stamps
      (earlier_pass c root input r.run later it.moment q less)
      (touch_meets code n it.moment.frame it.moment.words (beside_of it.moment.above) it.moment.stamps it.first.front it.first.rest (touch_of word r)
      it.first.all it.first.here)

  -- two that do have one number
  same_run : (word word' : ℕ) (r s : Touching) → IsMeeting code root input n word r → IsMeeting code root input n word' s → r.run ≡ s.run
  same_run word word' r s p q = elim (cases_lt r.run s.run) [
    | inl h ↦ absurd (meeting_meets word r s.run p q.moment h)
    | inr h ↦ elim (cases_lt s.run r.run) [
      | inl k ↦ absurd (meeting_meets word' s r.run q p.moment k)
      | inr k ↦ omega (arith, h, k)
    ]
  ]

  -- and one touch
  same_touch : (word word' : ℕ) (r s : Touching) (p : IsMeeting code root input n word r) (q : IsMeeting code root input n word' s)
      → touch_of word r ≡ touch_of word' s
  same_touch word word' r s p q =
      let same = same_moments r.run s.run (same_run word word' r s p q) p.moment q.moment in
      first_one (meets_at (beside_of q.moment.above) q.moment.stamps) (log_of code n q.moment.frame q.moment.words) (touch_of word r) (touch_of word' s)
      (subst₂ (λ (u : List (Above Own Result)) (v : Stamps). IsFirst (meets_at (beside_of u) v) (log_of code n q.moment.frame q.moment.words) (touch_of word r))
      same.above same.stamps
      (subst₂ (λ (f : Own) (a : Words). IsFirst (meets_at (beside_of p.moment.above) p.moment.stamps) (log_of code n f a) (touch_of word r))
      same.frame same.words p.first)) q.first

  -- and are one
  same_right : (word word' : ℕ) (r s : Touching) (p : IsMeeting code root input n word r) (q : IsMeeting code root input n word' s) → r ≡ s
  same_right word word' r s p q =
      let run = same_run word word' r s p q in
      let touch = same_touch word word' r s p q in
      let capsule = same_capsule r.run s.run r.capsule s.capsule run p.moment q.moment p.capsule q.capsule in
      λ i. record {
        run = run i;
        capsule = capsule i;
        at = (touch i).at;
        writes = (touch i).writes;
      }

  -- visits of one number are one
  same_visit : (word word' : ℕ) (v w : Visit) → word ≡ word' → v.run ≡ w.run → IsVisit code root input n word v → IsVisit code root input n word' w → v ≡ w
  same_visit word word' v w words run p q =
      let same = same_moments v.run w.run run p.moment q.moment in
      let capsule = same_capsule v.run w.run v.capsule w.capsule run p.moment q.moment p.capsule q.capsule in
      let one = subst (λ (x : ℕ). (v.writes ≡ true) ↔ Has x (c.writes p.moment.frame p.moment.words)) words p.written in
      let writes = bool_one v.writes w.writes
      (subst₂ (λ (f : Own) (a : Words). (v.writes ≡ true) ↔ Has word' (c.writes f a)) same.frame same.words one) q.written in
      λ i. record { run = run i; capsule = capsule i; writes = writes i }

  -- and openers
  same_fork : (o u : Opener) → o.run ≡ u.run → IsOpener code root input n o → IsOpener code root input n u → o ≡ u
  same_fork o u run p q =
      let capsule = same_capsule o.run u.run o.capsule u.capsule run p.moment q.moment p.capsule q.capsule in
      λ i. record { run = run i; capsule = capsule i }

  -- the run has one first race
  same_race : (a b : Race) → IsRace code root input n a → IsRace code root input n b → a ≡ b
  same_race a b p q =
      let same = same_moments a.right.run b.right.run (same_run a.word b.word a.right b.right p.right q.right) p.right.moment q.right.moment in
      let touch = same_touch a.word b.word a.right b.right p.right q.right in
      let word = ap (λ (t : Touch). t.word) touch in
      let right = same_right a.word b.word a.right b.right p.right q.right in
      let met : met_at (beside_of p.right.moment.above) p.right.moment.stamps a.word ≡ met_at (beside_of q.right.moment.above) q.right.moment.stamps b.word =
      λ i. met_at (beside_of (same.above i)) (same.stamps i) (word i) in
      let left_run : a.left.run ≡ b.left.run = p.run ∙ met ∙ sym q.run in
      let left = same_visit a.word b.word a.left b.left word left_run p.left q.left in
      let there = subst (λ (u : List (Above Own Result)). IsOpen (b.fork.run + 1) q.mid u) (sym same.above) q.both in
      let one = lefts_are_one c root input p.right.moment.above (Strand p.right.moment.frame) p.right.moment.words p.right.moment.stamps p.right.moment.come
      a.left.run (open_beside p.right.moment.above (a.fork.run + 1) p.mid a.left.run p.both p.from p.before) in
      let mine = (one.alone (a.fork.run + 1) p.mid p.both p.from p.before).0 in
      let since = q.from in
      let until = q.before in
      let other = (one.alone (b.fork.run + 1) q.mid there (omega (arith, since, left_run)) (omega (arith, until, left_run))).0 in
      let fork_run : a.fork.run ≡ b.fork.run = omega (arith, mine, other) in
      let fork = same_fork a.fork b.fork fork_run p.fork q.fork in
      λ i. record { word = word i; fork = fork i; left = left i; right = right i }

module _ (code : CodeParts) (input : List NamedArray) where
  -- the run has one end
  same_end : (limit : ℕ) (r s : DepthRun) → IsWithin code input limit r → IsWithin code input limit s → r ≡ s
  same_end limit r s p q =
      let ends = one_end (strands_of code input) (root_strand code input) (words_of (words_in input)) p.end q.end p.comes q.comes in
      let outcome : r.outcome ≡ s.outcome = p.outcome ∙ ap (λ (e : End Result). said_of input e.words e.outcome) ends ∙ sym q.outcome in
      let capsules : r.capsules ≡ s.capsules = p.counts.capsules ∙ ap (λ (e : End Result). e.counts.capsules) ends ∙ sym q.counts.capsules in
      let forks : r.forks ≡ s.forks = p.counts.forks ∙ ap (λ (e : End Result). e.counts.forks) ends ∙ sym q.counts.forks in
      let pools : r.pool_words ≡ s.pool_words =
      p.counts.pool_words ∙ ap (λ (e : End Result). pool_words code e.counts) ends ∙ sym q.counts.pool_words in
      λ i. record { outcome = outcome i; capsules = capsules i; forks = forks i; pool_words = pools i }

  -- by the cases of both
  pub verdicts_are_one : (limit : ℕ) (v w : Verdict) → IsVerdict code input limit v → IsVerdict code input limit w → v ≡ w
  verdicts_are_one limit (Calm r) (Calm s) p q = ap (λ (d : DepthRun). Calm d) (same_end limit r s p.1 q.1)
  verdicts_are_one limit (Races a) (Races b) p q =
      ap (λ (d : Race). Races d) (same_race code (root_strand code input) (words_of (words_in input)) (length (words_in input)) a b p.1 q.1)
  verdicts_are_one limit NotWithin NotWithin p q = refl
  verdicts_are_one limit (Calm r) (Races b) p q = absurd (q.0 p.0)
  verdicts_are_one limit (Races a) (Calm s) p q = absurd (p.0 q.0)
  verdicts_are_one limit (Calm r) NotWithin p q =
      let more = q.0 p.1.end p.1.comes in let few = p.1.within in absurd (omega (arith, more, few))
  verdicts_are_one limit NotWithin (Calm s) p q =
      let more = p.0 q.1.end q.1.comes in let few = q.1.within in absurd (omega (arith, more, few))
  verdicts_are_one limit (Races a) NotWithin p q =
      let few = p.2 in
      absurd (meeting_meets code (root_strand code input) (words_of (words_in input)) (length (words_in input)) a.word a.right (limit + 1) p.1.right q.1
      (omega (arith, few)))
  verdicts_are_one limit NotWithin (Races b) p q =
      let few = q.2 in
      absurd (meeting_meets code (root_strand code input) (words_of (words_in input)) (length (words_in input)) b.word b.right (limit + 1) q.1.right p.1
      (omega (arith, few)))
