-- At each moment of a run with stops a strand has come by stores; and the whole run is one capsule of it.
use Rattle.std.proofs.Common.{ℕ, zero, suc, List, [], ◌∷◌, refl, sym, ◌∙◌, subst}
use Rattle.ppm_strands.specs.Tree.{Strand}
use Rattle.ppm_strands.specs.Run.{Counts, none, of_capsule}
use Rattle.ppm_strands.specs.Ahead.{Steps, Done, More}
use Rattle.ppm_strands.proofs.RunLemmas.{plus_none, plus_comm}
use Rattle.ppm_strands.proofs.ChainLemmas.{joined_steps}
use Rattle.ppm_strands.specs.Capsule.{Equality, Capsule, Reads, Writes, Asks, Ends, Memory, Whole, In, store, leaves, ending, DoesTheSame}
use Rattle.ppm_strands.specs.Stopped.{IsConflictFree, Progress, at, one, steps, stopped, Stands}
use Rattle.ppm_strands.specs.Strand.{Location, New, Table, shared_of, frame_of, opened, code_of}
use Rattle.ppm_strands.specs.Strand.{MayBeginAgain, MomentsAreSteps, RunsWithStopsAreOneCapsule}
use Rattle.ppm_strands.proofs.StandsLemmas.{one_moment, steps_moment, stops_moment, is_idempotent}
use Rattle.ppm_strands.proofs.StrandLemmas.{store_is_a_step, whole_is_a_step}

module _ {S N K E O : Type 0} (eq : Equality (Location S N)) (table : Table S N K E O) (k : K) where
  -- stores lead from one memory to another
  abbrev pub Stores : Memory (Location S N) → Memory (Location S N) → Type 0
  Stores m n = Steps (code_of eq table) none (Strand (frame_of k m)) (shared_of m) (Strand (frame_of k n)) (shared_of n)

  -- what may be begun again may be so from a memory from which the capsule does the same
  again_at : (m n : Memory (Location S N)) → MayBeginAgain eq table k m → DoesTheSame eq (table.capsule k) m n → IsConflictFree eq (table.capsule k) n
      → MayBeginAgain eq table k n
  again_at m n again same free = record {
    free = free;
    unread = λ o i. again.unread o (subst (λ (ls : List (Location S N)). In (New o) ls) same.reads i);
  }

  -- one word step
  pub one_stores : (rest : Capsule (Location S N) E) (m : Memory (Location S N)) → MayBeginAgain eq table k m → Stands eq (table.capsule k) rest m
      → Stores m (one eq (at rest m)).words
  one_stores (Reads l go) m again h = Done (Strand (frame_of k m)) (shared_of m)
  one_stores (Asks n go) m again h = Done (Strand (frame_of k m)) (shared_of m)
  one_stores (Ends e) m again h = Done (Strand (frame_of k m)) (shared_of m)
  one_stores (Writes l v go) m again h =
      More (store_is_a_step eq table k l v go m again h) (Done (Strand (frame_of k (store eq m l v))) (shared_of (store eq m l v)))

  -- any number of word steps
  steps_store : (n : ℕ) (g : Progress (Location S N) E) → MayBeginAgain eq table k g.words → Stands eq (table.capsule k) g.rest g.words
      → Stores g.words (steps eq n g).words
  steps_store zero g again h = Done (Strand (frame_of k g.words)) (shared_of g.words)
  steps_store (suc n) g again h =
      let now = one_moment eq (table.capsule k) g.rest g.words again.free h in
      joined_steps (code_of eq table) (one_stores g.rest g.words again h)
      (steps_store n (one eq g) (again_at g.words (one eq g).words again now.same now.free) now.stands)

  -- and stops
  stops_store : (stops : List ℕ) (m : Memory (Location S N)) → MayBeginAgain eq table k m → Stores m (stopped eq stops (table.capsule k) m)
  stops_store [] m again = Done (Strand (frame_of k m)) (shared_of m)
  stops_store (n ∷ stops) m again =
      let now = steps_moment eq n (table.capsule k) (at (table.capsule k) m) again.free (zero, refl) in
      joined_steps (code_of eq table) (steps_store n (at (table.capsule k) m) again (zero, refl))
      (stops_store stops (steps eq n (at (table.capsule k) m)).words (again_at m _ again now.same now.free))

pub moments_are_steps : {S N K E O : Type 0} (eq : Equality (Location S N)) (table : Table S N K E O) → MomentsAreSteps eq table
moments_are_steps eq table k m stops n again =
    let now = stops_moment eq stops (table.capsule k) m again.free in
    joined_steps (code_of eq table) (stops_store eq table k stops m again)
    (steps_store eq table k n (at (table.capsule k) (stopped eq stops (table.capsule k) m)) (again_at eq table k m _ again now.same now.free) (zero, refl))

-- the run comes to what the whole capsule comes to
pub runs_with_stops_are_one_capsule : {S N K E O : Type 0} (eq : Equality (Location S N)) (table : Table S N K E O)
    → RunsWithStopsAreOneCapsule eq table
runs_with_stops_are_one_capsule {S = S} {N = N} {E = E} eq table k m stops again clean =
    let chain = subst (λ (i : Counts).
    Steps (code_of eq table) i (Strand (frame_of k m)) (shared_of m)
    (opened eq table k (ending eq (table.capsule k) m) (leaves eq (table.capsule k) m)) (shared_of (leaves eq (table.capsule k) m)))
    (plus_comm (of_capsule (code_of eq table) (frame_of k m) (shared_of m)) none ∙ plus_none (of_capsule (code_of eq table) (frame_of k m) (shared_of m)))
    (More (whole_is_a_step eq table k m again clean) (Done _ _)) in
    subst (λ (r : Whole (Location S N) E).
    Steps (code_of eq table) (of_capsule (code_of eq table) (frame_of k m) (shared_of m)) (Strand (frame_of k m)) (shared_of m)
    (opened eq table k r.end r.words) (shared_of r.words)) (sym (is_idempotent eq (table.capsule k) m again.free stops)) chain
