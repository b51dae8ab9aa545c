-- The depth-first run of a tree of capsules as a run of word steps, without a fault.
use Rattle.std.proofs.Common.{◌≡◌, ℕ, zero, suc, Some, refl, sym, ap, ap₂, ◌∙◌, subst}
use Rattle.ppm_strands.specs.Tree.{Words, Tree, Strand, Call, Fork, Over, forks_in}
use Rattle.ppm_strands.specs.Run.{Counts, none, plus, of_capsule, rejoin, End, with_counts, run}
use Rattle.ppm_strands.proofs.RunLemmas.{counts_path, plus_none, plus_comm, plus_assoc, end_or, counted_some, then_some}
use Rattle.ppm_strands.specs.Capsule.{Equality, Capsule, Reads, Writes, Asks, Ends, Memory, DoesTheSame, ending, leaves, store}
use Rattle.ppm_strands.specs.Stopped.{Progress, at, one, Stands}
use Rattle.ppm_strands.specs.Strand.{Location, Frame, Table, shared_of, frame_of, start, opened, code_of, IsClean}
use Rattle.ppm_strands.specs.Faults.{Running, Runs, Calls, Forks, IsOver, come_to, begun, Happens, WordStep, Opens, Returns, Joins}
use Rattle.ppm_strands.specs.Faults.{InCallee, InLeftBranch, InRightBranch, Happen, Nothing, Next, IsRestartable, DepthFirstHappens}
use Rattle.ppm_strands.proofs.StandsLemmas.{one_moment, no_change, then_same}
use Rattle.ppm_strands.proofs.StrandLemmas.{fresh_same}
use Rattle.ppm_strands.proofs.FaultsLemmas.{words_back, one_clean}

module _ {S N K E O : Type 0} (eq : Equality (Location S N)) (table : Table S N K E O) where
  -- runs one after another, and of a part of a tree
  joined_runs : {j k : Counts} {t u v : Running S N K E O} {a b d : Words} → Happen eq table j t a u b → Happen eq table k u b v d
      → Happen eq table (plus j k) t a v d
  joined_runs {k = k} {v = v} {d = d} (Nothing t a) more = subst (λ (i : Counts). Happen eq table i t a v d) (sym (plus_none k)) more
  joined_runs {k = k} {v = v} {d = d} (Next {j = i} {k = j} {t = t} {a = a} s rest) more =
      subst (λ (l : Counts). Happen eq table l t a v d) (sym (plus_assoc i j k)) (Next s (joined_runs rest more))

  in_callee : (g : Frame S K) {k : Counts} {t u : Running S N K E O} {a b : Words} → Happen eq table k t a u b → Happen eq table k (Calls g t) a (Calls g u) b
  in_callee g (Nothing t a) = Nothing (Calls g t) a
  in_callee g (Next s more) = Next (InCallee g s) (in_callee g more)

  in_left : (g : Frame S K) (r : Running S N K E O) {k : Counts} {t u : Running S N K E O} {a b : Words} → Happen eq table k t a u b
      → Happen eq table k (Forks g t r) a (Forks g u r) b
  in_left g r (Nothing t a) = Nothing (Forks g t r) a
  in_left g r (Next s more) = Next (InLeftBranch g r s) (in_left g r more)

  in_right : (g : Frame S K) (l : Running S N K E O) {k : Counts} {t u : Running S N K E O} {a b : Words} → Happen eq table k t a u b
      → Happen eq table k (Forks g l t) a (Forks g l u) b
  in_right g l (Nothing t a) = Nothing (Forks g l t) a
  in_right g l (Next s more) = Next (InRightBranch g l s) (in_right g l more)

  -- one word step of a strand that has come so far
  word_step_at : (k : K) (g : Progress (Location S N) E)
      → Happens eq table none (Runs (come_to k g)) (shared_of g.words) (Runs (come_to k (one eq g))) (shared_of (one eq g).words)
  word_step_at k g = subst (λ (m : Memory (Location S N)).
      Happens eq table none (Runs (come_to k g)) (shared_of g.words) (Runs (come_to k (one eq (at g.rest m)))) (shared_of (one eq (at g.rest m)).words))
      (words_back k g) (WordStep (come_to k g) (shared_of g.words))

  -- all of them, to its end
  word_steps : (k : K) (rest : Capsule (Location S N) E) (m : Memory (Location S N))
      → Happen eq table none (Runs (come_to k (at rest m))) (shared_of m)
      (Runs (come_to k (at (Ends (ending eq rest m)) (leaves eq rest m)))) (shared_of (leaves eq rest m))
  word_steps k (Reads l go) m = Next (word_step_at k (at (Reads l go) m)) (word_steps k (go (m l)) m)
  word_steps k (Writes l v go) m = Next (word_step_at k (at (Writes l v go) m)) (word_steps k go (store eq m l v))
  word_steps k (Asks n go) m = Next (word_step_at k (at (Asks n go) m)) (word_steps k go m)
  word_steps k (Ends e) m = Nothing (Runs (come_to k (at (Ends e) m))) (shared_of m)

  module _ (safe : IsRestartable eq table) where
    -- at its end the capsule would do the same from the beginning, and the new block is clean
    to_the_end : (k : K) (rest : Capsule (Location S N) E) (m : Memory (Location S N)) → Stands eq (table.capsule k) rest m → IsClean eq table k m
        → DoesTheSame eq (table.capsule k) m (leaves eq rest m) × IsClean eq table k (leaves eq rest m)
    to_the_end k (Ends e) m h clean = (no_change eq (table.capsule k) m, clean)
    to_the_end k (Asks n go) m h clean = to_the_end k go m (one_moment eq (table.capsule k) (Asks n go) m (safe k m).free h).stands clean
    to_the_end k (Reads l go) m h clean = to_the_end k (go (m l)) m (one_moment eq (table.capsule k) (Reads l go) m (safe k m).free h).stands clean
    to_the_end k (Writes l v go) m h clean =
        let now = one_moment eq (table.capsule k) (Writes l v go) m (safe k m).free h in
        let later = to_the_end k go (store eq m l v) now.stands (one_clean eq table safe k (Writes l v go) m h clean) in
        (then_same eq (table.capsule k) m (store eq m l v) (leaves eq go (store eq m l v)) now.same later.0, later.1)

    -- the end counts what the whole capsule counts
    same_counts : (f : Frame S K) (a : Words) → let n = leaves eq (table.capsule f.point) (start eq table f a) in
        of_capsule (code_of eq table) (frame_of f.point n) (shared_of n) ≡ of_capsule (code_of eq table) f a
    same_counts f a =
        let p = table.capsule f.point in
        let m = start eq table f a in
        let last = to_the_end f.point p m (zero, refl) (λ n out. refl) in
        let fresh = fresh_same eq table f.point (leaves eq p m) (safe f.point (leaves eq p m)) last.1 in
        let same = then_same eq p m (leaves eq p m) _ last.0 fresh in
        counts_path refl
        (ap (λ (t : Tree (Frame S K) O). forks_in t)
        (ap₂ (λ (e : E) (o : Memory (Location S N)). opened eq table f.point e o) same.ends same.words))
        same.asks

    -- a whole capsule
    whole_runs : (f : Frame S K) (a : Words) → Happen eq table (of_capsule (code_of eq table) f a) (begun table (Strand f)) a
        (begun table ((code_of eq table).next f a)) ((code_of eq table).after f a)
    whole_runs f a =
        let p = table.capsule f.point in
        let n = leaves eq p (start eq table f a) in
        let e = ending eq p (start eq table f a) in
        let last = Next (Opens (come_to f.point (at (Ends e) n)) e (shared_of n) refl) (Nothing (begun table (opened eq table f.point e n)) (shared_of n)) in
        subst (λ (k : Counts). Happen eq table k (begun table (Strand f)) a (begun table (opened eq table f.point e n)) (shared_of n))
        (plus_none (plus (of_capsule (code_of eq table) (frame_of f.point n) (shared_of n)) none)
        ∙ plus_comm (of_capsule (code_of eq table) (frame_of f.point n) (shared_of n)) none
        ∙ plus_none (of_capsule (code_of eq table) (frame_of f.point n) (shared_of n)) ∙ same_counts f a)
        (joined_runs (word_steps f.point p (start eq table f a)) last)

    -- a run to an end
    abbrev RunsTo : Running S N K E O → Words → End O → Type 0
    RunsTo t a e = Happen eq table e.counts t a (IsOver e.outcome) e.words

    call_runs : (g : Frame S K) (t : Tree (Frame S K) O) (a : Words) (d s : End O) → RunsTo (begun table t) a d
        → RunsTo (begun table (table.resume g d.outcome)) d.words s → RunsTo (begun table (Call g t)) a (with_counts d.counts s)
    call_runs g t a d s p q =
        let back = subst (λ (k : Counts). Happen eq table k (Calls g (IsOver d.outcome)) d.words (IsOver s.outcome) s.words) (plus_none s.counts)
        (Next (Returns g d.outcome d.words) q) in
        joined_runs (in_callee g p) back

    fork_runs : (g : Frame S K) (l r : Tree (Frame S K) O) (a : Words) (d p s : End O) → RunsTo (begun table l) a d → RunsTo (begun table r) d.words p
        → RunsTo (begun table (rejoin (code_of eq table) g d.outcome p.outcome)) p.words s
        → RunsTo (begun table (Fork g l r)) a (with_counts d.counts (with_counts p.counts s))
    fork_runs g l r a d p s i j k =
        let back = subst (λ (m : Counts). Happen eq table m (Forks g (IsOver d.outcome) (IsOver p.outcome)) p.words (IsOver s.outcome) s.words)
        (plus_none s.counts) (Next (Joins g d.outcome p.outcome p.words) k) in
        joined_runs (in_left g (begun table r) i) (joined_runs (in_right g (IsOver d.outcome) j) back)

    depth_first : (n : ℕ) (t : Tree (Frame S K) O) (a : Words) (e : End O) → run (code_of eq table) n t a ≡ Some e → RunsTo (begun table t) a e
    depth_first zero t a e h = absurd (cc)
    depth_first (suc n) (Over o) a e h = subst (λ (z : End O). RunsTo (IsOver o) a z) (ap (end_or e) h) (Nothing (IsOver o) a)
    depth_first (suc n) (Strand f) a e h =
        let c = code_of eq table in
        let s = counted_some (of_capsule c f a) (run c n (c.next f a) (c.after f a)) e h in
        subst (λ (z : End O). RunsTo (begun table (Strand f)) a z) (sym s.2)
        (joined_runs (whole_runs f a) (depth_first n (c.next f a) (c.after f a) s.0 s.1))
    depth_first (suc n) (Call g t) a e h =
        let c = code_of eq table in
        let s = then_some (run c n t a) _ e h in
        subst (λ (z : End O). RunsTo (begun table (Call g t)) a z) (sym s.4)
        (call_runs g t a s.0 s.2 (depth_first n t a s.0 s.1) (depth_first n (c.resume g s.0.outcome) s.0.words s.2 s.3))
    depth_first (suc n) (Fork g l r) a e h =
        let c = code_of eq table in
        let s = then_some (run c n l a) _ e h in
        let u = then_some (run c n r s.0.words) _ s.2 s.3 in
        subst (λ (z : End O). RunsTo (begun table (Fork g l r)) a z) (sym (s.4 ∙ ap (with_counts s.0.counts) u.4))
        (fork_runs g l r a s.0 u.0 u.2 (depth_first n l a s.0 s.1) (depth_first n r s.0.words u.0 u.1)
        (depth_first n (rejoin c g s.0.outcome u.0.outcome) u.0.words u.2 u.3))

  pub depth_first_happens : DepthFirstHappens eq table
  depth_first_happens safe t a e ends = depth_first safe ends.0 t a e ends.1
