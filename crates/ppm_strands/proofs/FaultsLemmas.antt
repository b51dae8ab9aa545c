-- Faults do not show: at each moment what each capsule of a running tree has done stands, and each thing that happens is steps of the tree.
use Rattle.std.proofs.Common.{◌≡◌, ◌⊎◌, ℕ, zero, inl, inr, refl, sym, ap, ap₂, ◌∙◌, subst, subst₂}
use Rattle.std.proofs.Math.Path.{fun_ext}
use Rattle.ppm_strands.specs.Tree.{Words, Tree, Strand, Call, Fork, Over, Has}
use Rattle.ppm_strands.specs.Run.{Counts, none, rejoin}
use Rattle.ppm_strands.specs.Calm.{Calm, touches}
use Rattle.ppm_strands.specs.Beside.{HasStrand, AreBeside}
use Rattle.ppm_strands.specs.Ahead.{Step, Return, Join, Steps, Done, More}
use Rattle.ppm_strands.proofs.RunLemmas.{plus_none, plus_comm}
use Rattle.ppm_strands.proofs.PartsLemmas.{calm_by_parts}
use Rattle.ppm_strands.proofs.BesideLemmas.{beside_apart}
use Rattle.ppm_strands.proofs.ChainLemmas.{joined_steps, call_steps, left_steps, right_steps}
use Rattle.ppm_strands.proofs.StepLemmas.{steps_ahead, steps_end}
use Rattle.ppm_strands.specs.Capsule.{Equality, Capsule, Reads, Writes, Asks, Ends, Memory, In, exposed, written}
use Rattle.ppm_strands.specs.Stopped.{Progress, at, one, Stands}
use Rattle.ppm_strands.specs.Strand.{Location, Own, New, Shared, Frame, Table, shared_of, frame_of, code_of, IsClean}
use Rattle.ppm_strands.specs.Faults.{UnderWay, Running, Runs, Calls, Forks, IsOver, memory, progress, come_to, frame, shown, begun}
use Rattle.ppm_strands.specs.Faults.{Happens, WordStep, Fault, Opens, Returns, Joins, InCallee, InLeftBranch, InRightBranch, Happen, Nothing, Next}
use Rattle.ppm_strands.specs.Faults.{IsRestartable, FaultyRunsAreAhead, FaultyRunsEndAlike}
use Rattle.ppm_strands.proofs.LocationLemmas.{decide, store_else}
use Rattle.ppm_strands.proofs.StandsLemmas.{one_moment, is_written}
use Rattle.ppm_strands.proofs.StrandLemmas.{clean_after, ends_are_steps, code_is_local}
use Rattle.ppm_strands.proofs.KeepLemmas.{others_keep, written_by, touched_by}
use Rattle.ppm_strands.proofs.MomentLemmas.{one_stores}

module _ {S N K E O : Type 0} (table : Table S N K E O) where
  -- a tree begun shows itself
  pub shown_begun : (t : Tree (Frame S K) O) → shown (begun table t) ≡ t
  shown_begun (Strand f) = refl
  shown_begun (Call g t) = ap (λ (u : Tree (Frame S K) O). Call g u) (shown_begun t)
  shown_begun (Fork g l r) = ap₂ (λ (u v : Tree (Frame S K) O). Fork g u v) (shown_begun l) (shown_begun r)
  shown_begun (Over o) = refl

-- the words that a strand finds are those to which its capsule has come
pub words_back : {S N K E : Type 0} (k : K) (g : Progress (Location S N) E) → memory (come_to k g) (shared_of g.words) ≡ g.words
words_back k g = fun_ext (λ l. elim l as (λ z. memory (come_to k g) (shared_of g.words) z ≡ g.words z) [ Own s ↦ refl | New n ↦ refl | Shared x ↦ refl ])

module _ {S N K E O : Type 0} (eq : Equality (Location S N)) (table : Table S N K E O) where
  -- what each capsule of a running tree has done stands, and its new block is clean
  abbrev pub AllStand : Running S N K E O → Words → Type 0
  AllStand (Runs w) a = Stands eq (table.capsule w.point) w.rest (memory w a) × IsClean eq table w.point (memory w a)
  AllStand (Calls g t) a = AllStand t a
  AllStand (Forks g l r) a = AllStand l a × AllStand r a
  AllStand (IsOver o) a = Unit {0}

  -- at the beginning of each capsule what it has done stands
  pub begun_stand : (t : Tree (Frame S K) O) (a : Words) → AllStand (begun table t) a
  begun_stand (Strand f) a = ((zero, refl), λ n out. refl)
  begun_stand (Call g t) a = begun_stand t a
  begun_stand (Fork g l r) a = (begun_stand l a, begun_stand r a)
  begun_stand (Over o) a = tt

  -- each shared word is as it was, or is one that the capsule of a strand of the tree writes
  abbrev Changes : Running S N K E O → Words → Words → Type 0
  Changes t a b = (x : ℕ) → (b x ≡ a x) ⊎ ((f : Frame S K) × HasStrand (shown t) f × Has x ((code_of eq table).writes f a))

  module _ (safe : IsRestartable eq table) where
    -- where no word changes that a strand of the tree touches, all stands
    stand_elsewhere : (t : Running S N K E O) (a b : Words)
        → ((f : Frame S K) → HasStrand (shown t) f → (x : ℕ) → Has x (touches (code_of eq table) f a) → b x ≡ a x) → AllStand t a → AllStand t b
    stand_elsewhere (Runs w) a b same all =
        let still : (l : Location S N) → In l (exposed eq (table.capsule w.point) (memory w a)) ⊎ In l (written eq (table.capsule w.point) (memory w a))
        → memory w b l ≡ memory w a l
        = λ l. elim l as (λ z. In z (exposed eq (table.capsule w.point) (memory w a)) ⊎ In z (written eq (table.capsule w.point) (memory w a))
        → memory w b z ≡ memory w a z) [
          | Own s ↦ λ i. refl
          | New n ↦ λ i. refl
          | Shared x ↦ λ i. same (frame w) refl x (touched_by eq table w.point (memory w a) (safe w.point (memory w a)) x i)
        ] in
        let kept = others_keep eq table w.point w.rest (memory w a) (memory w b) still (λ o. refl) (safe w.point (memory w a)) all.0 in
        (kept.1, kept.2 all.1)
    stand_elsewhere (Calls g t) a b same all = stand_elsewhere t a b same all
    stand_elsewhere (Forks g l r) a b same all =
        (stand_elsewhere l a b (λ f i. same f (inl i)) all.0, stand_elsewhere r a b (λ f i. same f (inr i)) all.1)
    stand_elsewhere (IsOver o) a b same all = tt

    -- a word step keeps the new block clean, and stores what its strand's capsule writes
    pub one_clean : (k : K) (rest : Capsule (Location S N) E) (m : Memory (Location S N)) → Stands eq (table.capsule k) rest m → IsClean eq table k m
        → IsClean eq table k (one eq (at rest m)).words
    one_clean k (Reads l go) m h clean = clean
    one_clean k (Asks n go) m h clean = clean
    one_clean k (Ends e) m h clean = clean
    one_clean k (Writes l v go) m h clean = clean_after eq table k l v go m (safe k m) h clean

    one_changes : (k : K) (rest : Capsule (Location S N) E) (m : Memory (Location S N)) → Stands eq (table.capsule k) rest m → (x : ℕ)
        → ((one eq (at rest m)).words (Shared x) ≡ m (Shared x)) ⊎ Has x ((code_of eq table).writes (frame_of k m) (shared_of m))
    one_changes k (Reads l go) m h x = inl refl
    one_changes k (Asks n go) m h x = inl refl
    one_changes k (Ends e) m h x = inl refl
    one_changes k (Writes l v go) m h x = elim (decide eq (Shared x) l) [
      | inl e ↦ inr (written_by eq table k m (safe k m) x (subst (λ (z : Location S N). In z (written eq (table.capsule k) m)) (sym e)
          (is_written eq (table.capsule k) l v go m (safe k m).free h)))
      | inr ne ↦ inl (store_else eq m l v (Shared x) ne.1)
    ]

    -- what comes of one thing that happens: steps of what the tree shows, what is done stands, and the changes are those of its strands
    pub record Goes (k : Counts) (t : Running S N K E O) (a : Words) (u : Running S N K E O) (b : Words) : Type 0 where
      pub steps : Steps (code_of eq table) k (shown t) a (shown u) b
      pub stand : AllStand u b
      pub changes : Changes t a b

    word_step : (w : UnderWay S N K E) (a : Words) → AllStand (Runs w) a
        → Goes none (Runs w) a (Runs (come_to w.point (one eq (progress w a)))) (shared_of (one eq (progress w a)).words)
    word_step w a all =
        let m = memory w a in
        let now = one_moment eq (table.capsule w.point) w.rest m (safe w.point m).free all.0 in
        let back = words_back w.point (one eq (at w.rest m)) in
        record {
          steps = one_stores eq table w.point w.rest m (safe w.point m) all.0;
          stand = (
            subst (λ (n : Memory (Location S N)). Stands eq (table.capsule w.point) (one eq (at w.rest m)).rest n) (sym back) now.stands,
            subst (λ (n : Memory (Location S N)). IsClean eq table w.point n) (sym back) (one_clean w.point w.rest m all.0 all.1),
          );
          changes = λ x. elim (one_changes w.point w.rest m all.0 x) [ inl e ↦ inl e | inr i ↦ inr (frame w, refl, i) ];
        }

    -- a step of the tree to a tree that is then begun
    to_begun : {k : Counts} (t : Running S N K E O) (a : Words) (u : Tree (Frame S K) O) → Step (code_of eq table) k (shown t) a u a
        → Goes k t a (begun table u) a
    to_begun {k = k} t a u s = record {
      steps = subst₂ (λ (j : Counts) (v : Tree (Frame S K) O). Steps (code_of eq table) j (shown t) a v a) (plus_comm k none ∙ plus_none k)
          (sym (shown_begun table u)) (More s (Done u a));
      stand = begun_stand u a;
      changes = λ x. inl refl;
    }

    -- in the other branch all stands, since the two do not race
    other_stands : (t : Tree (Frame S K) O) (l r : Running S N K E O) (a b : Words) → Calm (code_of eq table) t a
        → ((f h : Frame S K) → HasStrand (shown l) f → HasStrand (shown r) h → AreBeside t f h) → Changes l a b → AllStand r a → AllStand r b
    other_stands t l r a b calm beside changes all = stand_elsewhere r a b (λ h i x touched. elim (changes x) [
      | inl e ↦ e
      | inr w ↦ absurd (beside_apart (code_of eq table) t a w.0 h calm (beside w.0 h w.1 i) x w.2 touched)
    ]) all

    pub goes : {k : Counts} {t u : Running S N K E O} {a b : Words} → Happens eq table k t a u b → Calm (code_of eq table) (shown t) a → AllStand t a
        → Goes k t a u b
    goes (WordStep w a) calm all = word_step w a all
    goes (Fault w a) calm all = record { steps = Done (Strand (frame w)) a; stand = ((zero, refl), all.1); changes = λ x. inl refl }
    goes (Opens w e a is) calm all =
        to_begun (Runs w) a (table.opens w.point e w.own w.new)
        (ends_are_steps eq table w.point e (memory w a) (safe w.point (memory w a)) all.1
        (subst (λ (rest : Capsule (Location S N) E). Stands eq (table.capsule w.point) rest (memory w a)) is all.0))
    goes (Returns g o a) calm all = to_begun (Calls g (IsOver o)) a (table.resume g o) (Return g o a)
    goes (Joins g o p a) calm all = to_begun (Forks g (IsOver o) (IsOver p)) a (rejoin (code_of eq table) g o p) (Join g o p a)
    goes (InCallee g {t = t} {a = a} s) calm all =
        let part = goes s (((calm_by_parts (code_of eq table)).call g (shown t) a).0 calm).0 all in
        record { steps = call_steps (code_of eq table) g part.steps; stand = part.stand; changes = part.changes }
    goes (InLeftBranch g r {t = t} {a = a} {b = b} s) calm all =
        let part = goes s (((calm_by_parts (code_of eq table)).fork g (shown t) (shown r) a).0 calm).0 all.0 in
        record {
          steps = left_steps (code_of eq table) g (shown r) part.steps;
          stand = (part.stand, other_stands (Fork g (shown t) (shown r)) t r a b calm (λ f h i j. inl (i, j)) part.changes all.1);
          changes = λ x. elim (part.changes x) [ inl e ↦ inl e | inr w ↦ inr (w.0, inl w.1, w.2) ];
        }
    goes (InRightBranch g l {t = t} {a = a} {b = b} s) calm all =
        let part = goes s (((calm_by_parts (code_of eq table)).fork g (shown l) (shown t) a).0 calm).1 all.1 in
        record {
          steps = right_steps (code_of eq table) g (shown l) part.steps;
          stand = (other_stands (Fork g (shown l) (shown t)) t l a b calm (λ f h i j. inr (inl (i, j))) part.changes all.0, part.stand);
          changes = λ x. elim (part.changes x) [ inl e ↦ inl e | inr w ↦ inr (w.0, inr w.1, w.2) ];
        }

    -- any number of things that happen
    pub all_go : {k : Counts} {t u : Running S N K E O} {a b : Words} → Happen eq table k t a u b → Calm (code_of eq table) (shown t) a → AllStand t a
        → Steps (code_of eq table) k (shown t) a (shown u) b
    all_go (Nothing t a) calm all = Done (shown t) a
    all_go (Next s more) calm all =
        let first = goes s calm all in
        joined_steps (code_of eq table) first.steps
        (all_go more (steps_ahead (code_of eq table) (code_is_local eq table) first.steps calm).calm first.stand)

    -- from the beginning
    pub all_steps : {k : Counts} (t : Tree (Frame S K) O) {u : Running S N K E O} {a b : Words} → Calm (code_of eq table) t a
        → Happen eq table k (begun table t) a u b → Steps (code_of eq table) k t a (shown u) b
    all_steps {k = k} t {u = u} {a = a} {b = b} calm run =
        let same = shown_begun table t in
        subst (λ (v : Tree (Frame S K) O). Steps (code_of eq table) k v a (shown u) b) same
        (all_go run (subst (λ (v : Tree (Frame S K) O). Calm (code_of eq table) v a) (sym same) calm) (begun_stand t a))

  pub faulty_runs_are_ahead : FaultyRunsAreAhead eq table
  faulty_runs_are_ahead safe k t u a b calm run = steps_ahead (code_of eq table) (code_is_local eq table) (all_steps safe t calm run) calm

  pub faulty_runs_end_alike : FaultyRunsEndAlike eq table
  faulty_runs_end_alike safe k t o a b calm run = steps_end (code_of eq table) (code_is_local eq table) (all_steps safe t calm run) calm
