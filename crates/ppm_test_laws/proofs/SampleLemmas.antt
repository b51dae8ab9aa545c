-- The plain run of the small instance: its fork, and how far its counts can go.
use Rattle.std.proofs.Common.{◌≡◌, ℕ, zero, suc, ◌+◌, ◌-◌, ◌^◌, ◌<◌, ◌≤◌, List, Some, refl, sym, ap, ◌∙◌, subst, pow-suc, le_trans, lit<, lit≤, arith}
use Rattle.ppm_strands.specs.Tree.{Words, Tree, Strand, Fork}
use Rattle.ppm_strands.specs.Run.{End, with_counts, joined, run}
use Rattle.ppm_test_laws.specs.Sample.{AreAtMost, counts_of, end_of, resumed_tree, sample, words_of}
use Rattle.ppm_test_laws.specs.declared.sample.Capsule.{Capsule}
use Rattle.ppm_test_laws.specs.declared.sample.Counts.{Counts}
use Rattle.ppm_test_laws.specs.declared.sample.End as plain
use Rattle.ppm_test_laws.specs.declared.sample.Outcome.{Outcome}
use Rattle.ppm_strands.proofs.RunLemmas.{then_made}

-- more leave room for as many
pub at_most : (m n : ℕ) (k : Counts) → m ≤ n → AreAtMost m k → AreAtMost n k
at_most m n k le h = record { capsules = le_trans h.capsules le; forks = le_trans h.forks le; block_words = let b = h.block_words in omega arith }

-- three runs of a smaller bound
pub thrice : (b : ℕ) → (b ≡ 0 → ⊥) → 3 ^ b ≡ 3 ^ (b - 1) + 3 ^ (b - 1) + 3 ^ (b - 1)
thrice zero ne = absurd (ne refl)
thrice (suc b) ne = let e : suc b - 1 ≡ b = omega arith in rw (pow-suc, e) (omega arith)

-- powers of three
pub three_pos : (k : ℕ) → 0 < 3 ^ k
three_pos zero = lit< tt
three_pos (suc k) = let h = three_pos k in rw (pow-suc) (omega arith)

three_mono : (k n : ℕ) → 3 ^ n ≤ 3 ^ (k + n)
three_mono zero n = let e : 0 + n ≡ n = omega arith in rw e (omega arith)
three_mono (suc k) n = let e : suc k + n ≡ suc (k + n) = omega arith in let h = three_mono k n in rw (e, pow-suc) (omega arith)

-- a run of a smaller bound does not count too much
pub not_many : (b : ℕ) → b ≤ 30 → 3 ^ (b - 1) ≤ 2 ^ 47
not_many b le =
    let e : (29 - (b - 1)) + (b - 1) ≡ 29 = omega arith in
    let few : 3 ^ 29 ≤ 2 ^ 47 = lit≤ tt in
    le_trans (subst (λ (n : ℕ). 3 ^ (b - 1) ≤ 3 ^ n) e (three_mono (29 - (b - 1)) (b - 1))) few

-- the run of a fork from those of its branches and of its frame
pub fork_made : (table : List Capsule) (b n g l r : ℕ) (ws : List ℕ) (d p s f e : plain.End) (o : Outcome) (t : Tree ℕ Outcome) → b ≡ suc n
    → Some (end_of d) ≡ run (sample table) n (Strand l) (words_of ws) → Some (end_of p) ≡ run (sample table) n (Strand r) (words_of d.words)
    → o ≡ joined (sample table) d.outcome p.outcome → t ≡ resumed_tree g o → Some (end_of s) ≡ run (sample table) n t (words_of p.words)
    → end_of f ≡ with_counts (counts_of p.counts) (end_of s) → end_of e ≡ with_counts (counts_of d.counts) (end_of f)
    → Some (end_of e) ≡ run (sample table) b (Fork g (Strand l) (Strand r)) (words_of ws)
fork_made table b n g l r ws d p s f e o t is hd hp ho ht hs hf he =
    let c = sample table in
    let goes = ap (λ (u : Tree ℕ Outcome). run c n u (words_of p.words)) (sym (ht ∙ ap (resumed_tree g) ho)) ∙ sym hs in
    let after = λ (q : Outcome) (m : Words). run c n (resumed_tree g (joined c d.outcome q)) m in
    let both = then_made (run c n (Strand r) (words_of d.words)) after (end_of p) (end_of s) (sym hp) goes in
    let all = then_made (run c n (Strand l) (words_of ws)) _ (end_of d) (with_counts (counts_of p.counts) (end_of s)) (sym hd) both in
    let end = he ∙ ap (with_counts (counts_of d.counts)) hf in
    ap (λ (z : End Outcome). Some z) end ∙ sym all ∙ ap (λ (m : ℕ). run c m (Fork g (Strand l) (Strand r)) (words_of ws)) (sym is)
