-- What a capsule has done stands while others store: elsewhere, and in a calm tree the strands beside its own.
use Rattle.std.proofs.Common.{◌≡◌, ◌⊎◌, ℕ, List, inl, inr, sym, ◌∙◌, subst}
use Rattle.ppm_strands.specs.Tree.{Words, Has}
use Rattle.ppm_strands.specs.Calm.{touches}
use Rattle.ppm_strands.proofs.BesideLemmas.{beside_apart}
use Rattle.ppm_strands.proofs.PartsLemmas.{has_left, has_right}
use Rattle.ppm_strands.specs.Capsule.{Equality, Memory, In, store, exposed, written}
use Rattle.ppm_strands.specs.Strand.{Location, Own, New, Shared, Table, shared_of, frame_of, code_of}
use Rattle.ppm_strands.specs.Strand.{MayBeginAgain, OthersKeep, StrandsBesideKeep}
use Rattle.ppm_strands.proofs.LocationLemmas.{decide, store_else}
use Rattle.ppm_strands.proofs.AlikeLemmas.{alike}
use Rattle.ppm_strands.proofs.StandsLemmas.{elsewhere, is_written}
use Rattle.ppm_strands.proofs.StrandLemmas.{in_addresses, fresh, fresh_alike}

module _ {S N : Type 0} where
  abbrev IsNew : Location S N → Type 0
  IsNew (Own s) = ⊥
  IsNew (New o) = Unit {0}
  IsNew (Shared x) = ⊥

  -- a word of a new block is no shared word
  not_shared : (o : N) (x : ℕ) → ◌≡◌ {A = Location S N} (New o) (Shared x) → ⊥
  not_shared o x e = subst (λ (z : Location S N). IsNew z) e tt

module _ {S N K E O : Type 0} (eq : Equality (Location S N)) (table : Table S N K E O) where
  pub others_keep : OthersKeep eq table
  others_keep k rest m n same news again h =
      let both = alike eq (table.capsule k) m n (λ l i. same l (inl i)) in (
        record {
          free = λ l i j. again.free l (subst (λ (ls : List (Location S N)). In l ls) both.reads i)
              (subst (λ (ls : List (Location S N)). In l ls) both.writes j);
          unread = λ o i. again.unread o (subst (λ (ls : List (Location S N)). In (New o) ls) both.reads i);
        },
        elsewhere eq (table.capsule k) rest m n same h,
        λ clean o out. news o ∙ clean o (λ i. out (subst (λ (ls : List (Location S N)). In (New o) ls) (sym both.writes) i)),
      )

  -- a shared word that a capsule under way writes, or reads exposed, is one that its strand's whole capsule does
  pub written_by : (k : K) (m : Memory (Location S N)) → MayBeginAgain eq table k m → (x : ℕ) → In (Shared x) (written eq (table.capsule k) m)
      → Has x ((code_of eq table).writes (frame_of k m) (shared_of m))
  written_by k m again x i = in_addresses x (written eq (table.capsule k) (fresh eq table k m again))
      (subst (λ (ls : List (Location S N)). In (Shared x) ls) (sym (fresh_alike eq table k m again).writes) i)

  read_by : (k : K) (m : Memory (Location S N)) → MayBeginAgain eq table k m → (x : ℕ) → In (Shared x) (exposed eq (table.capsule k) m)
      → Has x ((code_of eq table).reads (frame_of k m) (shared_of m))
  read_by k m again x i = in_addresses x (exposed eq (table.capsule k) (fresh eq table k m again))
      (subst (λ (ls : List (Location S N)). In (Shared x) ls) (sym (fresh_alike eq table k m again).reads) i)

  pub touched_by : (k : K) (m : Memory (Location S N)) → MayBeginAgain eq table k m → (x : ℕ)
      → In (Shared x) (exposed eq (table.capsule k) m) ⊎ In (Shared x) (written eq (table.capsule k) m)
      → Has x (touches (code_of eq table) (frame_of k m) (shared_of m))
  touched_by k m again x (inl i) = has_left x ((code_of eq table).reads (frame_of k m) (shared_of m)) _ (read_by k m again x i)
  touched_by k m again x (inr i) = has_right x ((code_of eq table).reads (frame_of k m) (shared_of m)) _ (written_by k m again x i)

  pub strands_beside_keep : StrandsBesideKeep eq table
  strands_beside_keep t j k x v go rest m n calm beside one ready doing again h =
      let writes = subst (λ (a : Words). Has x ((code_of eq table).writes (frame_of j n) a)) one
      (written_by j n ready x (is_written eq (table.capsule j) (Shared x) v go n ready.free doing)) in
      let apart : (l : Location S N) → In l (exposed eq (table.capsule k) m) ⊎ In l (written eq (table.capsule k) m) → store eq m (Shared x) v l ≡ m l
      = λ l i. elim (decide eq l (Shared x)) [
        | inl e ↦ absurd (beside_apart (code_of eq table) t (shared_of m) (frame_of j n) (frame_of k m) calm beside x writes
            (touched_by k m again x (subst (λ (z : Location S N).
            In z (exposed eq (table.capsule k) m) ⊎ In z (written eq (table.capsule k) m)) e i)))
        | inr ne ↦ store_else eq m (Shared x) v l ne.1
      ] in
      others_keep k rest m (store eq m (Shared x) v) apart (λ o. elim (decide eq (New o) (Shared x)) [
        | inl e ↦ absurd (not_shared o x e)
        | inr ne ↦ store_else eq m (Shared x) v (New o) ne.1
      ]) again h
