-- Code without a conflict on its paths makes its changes before its reads.
use Rattle.std.proofs.Common.{◌≡◌, ◌≤◌, ◌<◌, ℕ, ◌+◌, List, [], ◌∷◌, length, Some, refl, arith, slice_set}
use Rattle.std.specs.Prelude.{slice_get}
use Rattle.ppm_unseen.specs.Capsule.{Capsule as Racing}
use Rattle.ppm_unseen.specs.Conditions.{IsOrdered, HasNoChange}
use Rattle.ppm_code.specs.declared.act.End.{End}
use Rattle.ppm_code.specs.declared.act.End.TheVariants.{Next, Finish, Trap as Trapping, Call, Fork}
use Rattle.ppm_code.specs.declared.class.Class.TheVariants.{Array}
use Rattle.ppm_code.specs.declared.class.May.TheVariants.{Read}
use Rattle.ppm_code.specs.declared.instr.Instr.{Instr}
use Rattle.ppm_code.specs.Paths.{may, Does, GoesTo, Path, Here, Any, HasNoConflict}
use Rattle.ppm_filled.specs.Racing.{OwnWord, Exit, ending, dropping, built_by}
use Rattle.ppm_filled.proofs.PathLemmas.{append, weaken, one, forward, there}
use Rattle.ppm_filled.proofs.TurnLemmas.{Turn, Halts, Fails, Works, Asks, Branches, Takes, Finds, Fills, Builds, Puts, turn, from}

-- ends change nothing
dropped_changes : (xs : List OwnWord) (rest : Racing OwnWord Exit) → HasNoChange rest → HasNoChange (dropping xs rest)
dropped_changes [] rest h = h
dropped_changes (x ∷ xs) rest h = dropped_changes xs rest h

ends_change_nothing : (block : List OwnWord) (e : End) → HasNoChange (ending block e)
ends_change_nothing block (Next c) = tt
ends_change_nothing block Finish = tt
ends_change_nothing block (Trapping t l) = dropped_changes block _ tt
ends_change_nothing block (Call p c to) = tt
ends_change_nothing block (Fork p q c lt rt) = tt

-- nor do they read
dropped_ordered : (xs : List OwnWord) (rest : Racing OwnWord Exit) → IsOrdered rest → IsOrdered (dropping xs rest)
dropped_ordered [] rest h = h
dropped_ordered (x ∷ xs) rest h = dropped_ordered xs rest h

ends_are_ordered : (block : List OwnWord) (e : End) → IsOrdered (ending block e)
ends_are_ordered block (Next c) = tt
ends_are_ordered block Finish = tt
ends_are_ordered block (Trapping t l) = dropped_ordered block _ tt
ends_are_ordered block (Call p c to) = tt
ends_are_ordered block (Fork p q c lt rt) = tt

module _ (words : ℕ) (is : List Instr) (free : HasNoConflict is) where
  -- an array word was read on the way to a place
  record HasFound (at : ℕ) : Type 0 where
    read : ℕ
    reads : Does is read (Read Array)
    before : Path is Any 0 read
    between : Path is Any (read + 1) at

  on_to : (at to : ℕ) (i : Instr) → HasFound at → slice_get is at ≡ Some i → GoesTo (may i) at to → HasFound to
  on_to at to i f e goes = record { read = f.read; reads = f.reads; before = f.before; between = append f.between (one Any at to i e tt goes) }

  -- after it nothing is changed
  abbrev NoChange : ℕ → List ℕ → Type 0
  NoChange at g = HasFound at → HasNoChange (from words is at g)

  no_change_there : (at : ℕ) (g : List ℕ) → ((to : ℕ) (h : List ℕ) → at + 1 ≤ to → at < length is → NoChange to h) → NoChange at g
  no_change_there at g rec f = on (turn words is at g)
    where
      on : {c : Racing OwnWord Exit} → Turn words is at g c → HasNoChange c
      on (Halts e none stop same) = ends_change_nothing (built_by is) e
      on (Fails i t l e may_fail) = ends_change_nothing (built_by is) (Trapping t l)
      on (Works i d v e m goes) = rec (at + 1) _ (omega arith) (there is at i e) (on_to at (at + 1) i f e goes)
      on (Asks i e m goes) = rec (at + 1) g (omega arith) (there is at i e) (on_to at (at + 1) i f e goes)
      on (Branches i t to e m goes less) = rec to g less (there is at i e) (on_to at to i f e goes)
      on (Takes i d s e m set goes) = λ v. rec (at + 1) _ (omega arith) (there is at i e) (on_to at (at + 1) i f e goes)
      on (Finds i d x e m set goes) = λ v. rec (at + 1) _ (omega arith) (there is at i e) (on_to at (at + 1) i f e goes)
      on (Fills i k v e m goes) = rec (at + 1) g (omega arith) (there is at i e) (on_to at (at + 1) i f e goes)
      on (Builds i o v e m goes) = rec (at + 1) g (omega arith) (there is at i e) (on_to at (at + 1) i f e goes)
      on (Puts i x v e m goes) = free f.read at Array (record {
        exposed = record { reads = f.reads; before = weaken (λ k h. tt) f.before };
        next = f.read + 1;
        goes_on = refl;
        between = f.between;
        writes = (i, e, m);
      })

  abbrev Ordered : ℕ → List ℕ → Type 0
  Ordered at g = Path is Any 0 at → IsOrdered (from words is at g)

  ordered_there : (at : ℕ) (g : List ℕ) → ((to : ℕ) (h : List ℕ) → at + 1 ≤ to → at < length is → Ordered to h) → Ordered at g
  ordered_there at g rec p = on (turn words is at g)
    where
      on : {c : Racing OwnWord Exit} → Turn words is at g c → IsOrdered c
      on (Halts e none stop same) = ends_are_ordered (built_by is) e
      on (Fails i t l e may_fail) = ends_are_ordered (built_by is) (Trapping t l)
      on (Works i d v e m goes) = rec (at + 1) _ (omega arith) (there is at i e) (append p (one Any at (at + 1) i e tt goes))
      on (Asks i e m goes) = rec (at + 1) g (omega arith) (there is at i e) (append p (one Any at (at + 1) i e tt goes))
      on (Branches i t to e m goes less) = rec to g less (there is at i e) (append p (one Any at to i e tt goes))
      on (Takes i d s e m set goes) = λ v. rec (at + 1) _ (omega arith) (there is at i e) (append p (one Any at (at + 1) i e tt goes))
      on (Finds i d x e m set goes) = λ v. forward is NoChange no_change_there (length is) (at + 1) (slice_set g d.index v) (omega arith)
          (record { read = at; reads = (i, e, m); before = p; between = Here (at + 1) })
      on (Fills i k v e m goes) = rec (at + 1) g (omega arith) (there is at i e) (append p (one Any at (at + 1) i e tt goes))
      on (Builds i o v e m goes) = rec (at + 1) g (omega arith) (there is at i e) (append p (one Any at (at + 1) i e tt goes))
      on (Puts i x v e m goes) = rec (at + 1) g (omega arith) (there is at i e) (append p (one Any at (at + 1) i e tt goes))

  pub ordered : (g : List ℕ) → IsOrdered (from words is 0 g)
  ordered g = forward is Ordered ordered_there (length is) 0 g (omega arith) (Here 0)
