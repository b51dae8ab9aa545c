-- Where branches own apart by their labels, a tree is calm: by induction on the bound, with what it touches and writes.
use Rattle.std.proofs.Common.{ℕ, zero, suc, inl, inr}
use Rattle.ppm_strands.specs.Tree.{Words, Tree, Strand, Call, Fork, Over, Code, Has}
use Rattle.ppm_strands.specs.Run.{End, joined, rejoin, run}
use Rattle.ppm_strands.specs.Calm.{gathered, touches, CalmWithin, Calm}
use Rattle.ppm_strands.specs.Labels.{IsGood as IsGoodTree, Respects as RespectsLabels}
use Rattle.ppm_strands.proofs.PartsLemmas.{has_cases, list_some, then_all}

module _ {F O : Type 0} {L : Type 0} (Owns MayWrite : L → ℕ → Type 0) (Runs Waits : L → F → Type 0) where
  abbrev IsGood : L → Tree F O → Type 0
  IsGood l t = IsGoodTree Owns MayWrite Runs Waits l t

  module _ (c : Code F O) (respects : RespectsLabels Owns MayWrite Runs Waits c) where
    -- within the bound the tree is calm, touches only what the label owns and writes only what it may write
    pub record Inside (n : ℕ) (l : L) (t : Tree F O) (a : Words) : Type 0 where
      pub calm : CalmWithin c n t a
      pub touches : (x : ℕ) → Has x (gathered c (touches c) n t a) → Owns l x
      pub writes : (x : ℕ) → Has x (gathered c c.writes n t a) → MayWrite l x

    module _ (n : ℕ) (ih : (l : L) (t : Tree F O) (a : Words) → IsGood l t → Inside n l t a) where
      inside_strand : (l : L) (f : F) (a : Words) → Runs l f → Inside (suc n) l (Strand f) a
      inside_strand l f a runs =
          let later = ih l (c.next f a) (c.after f a) (respects.opens l f a runs) in
          record {
            calm = later.calm;
            touches = λ x h. elim (has_cases x (touches c f a) _ h) [
              | inl i ↦ elim (has_cases x (c.reads f a) _ i) [
                | inl j ↦ respects.reads l f a runs x j
                | inr j ↦ respects.owns_what_it_writes l x (respects.writes l f a runs x j)
              ]
              | inr i ↦ later.touches x i
            ];
            writes = λ x h. elim (has_cases x (c.writes f a) _ h) [
              | inl i ↦ respects.writes l f a runs x i
              | inr i ↦ later.writes x i
            ];
          }

      inside_call : (l : L) (g : F) (t : Tree F O) (a : Words) → IsGood l (Call g t) → Inside (suc n) l (Call g t) a
      inside_call l g t a good =
          let callee = ih good.1 t a good.2 in
          let less = good.3 in
          let later = λ (d : End O). ih l (c.resume g d.outcome) d.words (respects.resumes l g d.outcome good.0) in
          record {
            calm = (callee.calm, then_all (run c n t a) _ (λ d is. (later d).calm));
            touches = λ x h. elim (has_cases x (gathered c (touches c) n t a) _ h) [
              | inl i ↦ less.owned x (callee.touches x i)
              | inr i ↦ let d = list_some x (run c n t a) _ i in (later d.0).touches x d.2
            ];
            writes = λ x h. elim (has_cases x (gathered c c.writes n t a) _ h) [
              | inl i ↦ less.written x (callee.writes x i)
              | inr i ↦ let d = list_some x (run c n t a) _ i in (later d.0).writes x d.2
            ];
          }

      inside_fork : (l : L) (g : F) (t u : Tree F O) (a : Words) → IsGood l (Fork g t u) → Inside (suc n) l (Fork g t u) a
      inside_fork l g t u a good =
          let left = ih good.1 t a good.3 in
          let right = ih good.2 u a good.4 in
          let later = λ (d p : End O). ih l (rejoin c g d.outcome p.outcome) p.words
          (respects.resumes l (c.kept g d.outcome) (joined c d.outcome p.outcome) (respects.keeps l g d.outcome good.0)) in
          record {
            calm = (
              left.calm,
              right.calm,
              λ x i j. good.7.left x (left.writes x i) (right.touches x j),
              λ x i j. good.7.right x (left.touches x j) (right.writes x i),
              then_all (run c n t a) _ (λ d is. then_all (run c n u d.words) _ (λ p iz. (later d p).calm)),
            );
            touches = λ x h. elim (has_cases x (gathered c (touches c) n t a) _ h) [
              | inl i ↦ good.5.owned x (left.touches x i)
              | inr k ↦ elim (has_cases x (gathered c (touches c) n u a) _ k) [
                | inl i ↦ good.6.owned x (right.touches x i)
                | inr i ↦
                    let d = list_some x (run c n t a) _ i in
                    let p = list_some x (run c n u d.0.words) _ d.2 in
                    (later d.0 p.0).touches x p.2
              ]
            ];
            writes = λ x h. elim (has_cases x (gathered c c.writes n t a) _ h) [
              | inl i ↦ good.5.written x (left.writes x i)
              | inr k ↦ elim (has_cases x (gathered c c.writes n u a) _ k) [
                | inl i ↦ good.6.written x (right.writes x i)
                | inr i ↦
                    let d = list_some x (run c n t a) _ i in
                    let p = list_some x (run c n u d.0.words) _ d.2 in
                    (later d.0 p.0).writes x p.2
              ]
            ];
          }

      inside_more : (l : L) (t : Tree F O) (a : Words) → IsGood l t → Inside (suc n) l t a
      inside_more l (Strand f) a good = inside_strand l f a good
      inside_more l (Call g t) a good = inside_call l g t a good
      inside_more l (Fork g t u) a good = inside_fork l g t u a good
      inside_more l (Over o) a good = record { calm = tt; touches = λ x h. absurd h; writes = λ x h. absurd h }

    inside : (n : ℕ) (l : L) (t : Tree F O) (a : Words) → IsGood l t → Inside n l t a
    inside zero l t a good = record { calm = tt; touches = λ x h. absurd h; writes = λ x h. absurd h }
    inside (suc n) l t a good = inside_more n (inside n) l t a good

    -- such a tree is calm from all words
    pub good_is_calm : (l : L) (t : Tree F O) (a : Words) → IsGood l t → Calm c t a
    good_is_calm l t a good n = (inside n l t a good).calm
