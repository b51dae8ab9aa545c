-- The two copies do not conflict and do not race, so their end is that of the depth-first run.
use Rattle.std.proofs.Common.{◌≡◌, ℕ, zero, suc, List, [], ◌∷◌, inl, inr, refl, sym, ap, ◌∙◌, subst}
use Rattle.ppm_strands.specs.Tree.{Words, Strand, Has, Code}
use Rattle.ppm_strands.specs.Run.{Counts, End, Ends as EndsAs}
use Rattle.ppm_strands.specs.Calm.{touches, Gathers, Calm}
use Rattle.ppm_strands.proofs.RunLemmas.{one_end}
use Rattle.ppm_strands.proofs.PartsLemmas.{gathers_by_parts, calm_by_parts}
use Rattle.ppm_strands.specs.Strand.{Location, New, Shared, Frame, code_of}
use Rattle.ppm_strands.proofs.PathLemmas.{paths_are_enough}
use Rattle.ppm_test_laws.specs.Copies.{numbered, copies, copy, frame_at, both, CopiesAreRestartable, AreCopied}

abbrev code : Code (Frame ℕ ℕ) ℕ
code = code_of numbered copies

abbrev IsShared : Location ℕ ℕ → Type 0
IsShared (Shared x) = Unit {0}
IsShared (New n) = ⊥
IsShared _ = ⊥

not_new : (n x : ℕ) → ◌≡◌ {A = Location ℕ ℕ} (New n) (Shared x) → ⊥
not_new n x e = subst IsShared (sym e) tt

-- one word is read, and another written
pub copies_are_restartable : CopiesAreRestartable
copies_are_restartable zero m = record {
  free = paths_are_enough numbered (copy 0 1) m (λ v. ((λ i. elim i [ inl e ↦ cc | inr none ↦ absurd none ]), tt));
  unread = λ n i. elim i [ inl e ↦ not_new n 0 e | inr none ↦ absurd none ];
}
copies_are_restartable (suc zero) m = record {
  free = paths_are_enough numbered (copy 2 3) m (λ v. ((λ i. elim i [ inl e ↦ cc | inr none ↦ absurd none ]), tt));
  unread = λ n i. elim i [ inl e ↦ not_new n 2 e | inr none ↦ absurd none ];
}
copies_are_restartable (suc (suc k)) m = record { free = λ l i j. i; unread = λ n i. i }

-- the words of a strand are those of its capsule
strand_words : (s : Frame ℕ ℕ → Words → List ℕ) (k x : ℕ) (a : Words) → Gathers code s (Strand (frame_at k)) a x → Has x (s (frame_at k) a)
strand_words s k x a h = elim (((gathers_by_parts code s).strand (frame_at k) a x).0 h) [
  | inl i ↦ i
  | inr none ↦ absurd ((gathers_by_parts code s).over _ _ x none)
]

-- no word that the one strand writes is read or written by the other
apart_01 : (x : ℕ) → Has x (1 ∷ []) → Has x (2 ∷ 3 ∷ []) → ⊥
apart_01 x (inl e) (inl f) = cc
apart_01 x (inl e) (inr (inl f)) = cc
apart_01 x (inr none) h = absurd none
apart_01 x h (inr (inr none)) = absurd none

apart_10 : (x : ℕ) → Has x (3 ∷ []) → Has x (0 ∷ 1 ∷ []) → ⊥
apart_10 x (inl e) (inl f) = cc
apart_10 x (inl e) (inr (inl f)) = cc
apart_10 x (inr none) h = absurd none
apart_10 x h (inr (inr none)) = absurd none

pub both_calm : (a : Words) → Calm code both a
both_calm a =
    let parts = calm_by_parts code in
    (parts.fork (frame_at 2) (Strand (frame_at 0)) (Strand (frame_at 1)) a).1 (
      (parts.strand (frame_at 0) a).1 (parts.over 1 _),
      (parts.strand (frame_at 1) a).1 (parts.over 1 _),
      λ x i j. apart_01 x (strand_words code.writes 0 x a i) (strand_words (touches code) 1 x a j),
      λ x i j. apart_10 x (strand_words code.writes 1 x a i) (strand_words (touches code) 0 x a j),
      λ d p i j. parts.over _ _,
    )

-- the depth-first run, by running it
both_end : (a : Words) → (e : End ℕ) × EndsAs code both a e × (e.words 1 ≡ a 0) × (e.words 3 ≡ a 2) × (e.counts.capsules ≡ 2)
both_end a = (_, (3, refl), refl, refl, refl)

pub are_copied : (k : Counts) (o : ℕ) (a b : Words) → EndsAs code both a (record { outcome = o; words = b; counts = k }) → AreCopied k a b
are_copied k o a b ends =
    let d = both_end a in
    let same = one_end code both a (record { outcome = o; words = b; counts = k }) d.0 ends d.1 in
    record {
      first = ap (λ (e : End ℕ). e.words 1) same ∙ d.2;
      second = ap (λ (e : End ℕ). e.words 3) same ∙ d.3;
      counted = ap (λ (e : End ℕ). e.counts.capsules) same ∙ d.4;
    }
