-- The blocks of forks that were counted: each was forked since, or its branch is still to be pushed.
use Rattle.std.proofs.Common.{◌≡◌, ◌⊎◌, ℕ, ◌+◌, Bool, true, false, List, ◌∷◌, length, inl, inr, refl, sym, ◌∙◌, subst, arith}
use Rattle.std.proofs.lemmas.Bool.{cases_eq, cases_Bool}
use Rattle.ppm_strands.specs.Run.{Counts}
use Rattle.ppm_tickets.specs.Homes.{Once}
use Rattle.ppm_tickets.specs.Words.{has}
use Rattle.ppm_tickets.proofs.CountLemmas.{has_here, has_more, has_or}
use Rattle.ppm_frames.specs.Skeletons.{Stand, Who, Fresh, Skeleton, Leaf}
use Rattle.ppm_kept.specs.Unruns.{HasUnrun, OneChanges, IsNone, Is}
use Rattle.ppm_runs.proofs.LongLemmas.{as_long}

-- as many blocks as forks are counted, none of them twice: those that were forked, and those in the tree
-- whose right branches nobody has pushed
pub record AreCounted (forked : List ℕ) (t : Skeleton) (counts : Counts) : Type 0 where
  pub blocks : List ℕ
  pub once : Once blocks
  pub many : length blocks ≡ counts.forks
  pub made : (r : ℕ) → has forked r ≡ true → has blocks r ≡ true
  pub fresh : (r : ℕ) → HasUnrun Fresh r t → has blocks r ≡ true
  pub each : (r : ℕ) → has blocks r ≡ true → (has forked r ≡ true) ⊎ HasUnrun Fresh r t

module _ (f g : List ℕ) (t u : Skeleton) (j k : Counts) (c : AreCounted f t j)
    (more : (r : ℕ) → has f r ≡ true → has g r ≡ true) (new : (r : ℕ) → has g r ≡ true → (has f r ≡ true) ⊎ HasUnrun Fresh r t) where
  made_then : (r : ℕ) → has g r ≡ true → has c.blocks r ≡ true
  made_then r e = elim (new r e) [ inl was ↦ c.made r was | inr fresh ↦ c.fresh r fresh ]

  -- where no fork is counted each branch stays so until its fork is made, and none is new
  pub counted_on : k.forks ≡ j.forks → ((r : ℕ) → HasUnrun Fresh r u → HasUnrun Fresh r t)
      → ((r : ℕ) → HasUnrun Fresh r t → (has g r ≡ true) ⊎ HasUnrun Fresh r u) → AreCounted g u k
  counted_on same back on = record {
    blocks = c.blocks;
    once = c.once;
    many = c.many ∙ sym same;
    made = made_then;
    fresh = λ r h. c.fresh r (back r h);
    each = λ r e. elim (c.each r e) [ inl was ↦ inl (more r was) | inr fresh ↦ on r fresh ];
  }

  -- where one is, the branch of its block is
  pub counted_more : k.forks ≡ j.forks + 1 → (q : ℕ) → has f q ≡ false → OneChanges q IsNone (Is Fresh) t u → AreCounted g u k
  counted_more one q unforked change = record {
    blocks = q ∷ c.blocks;
    once = (
      elim (cases_Bool (has c.blocks q)) [
        | inr out ↦ out
        | inl here ↦ elim (c.each q here) [
          | inl was ↦ absurd (let e : true ≡ false = sym was ∙ unforked in cc)
          | inr fresh ↦ absurd ((change.old Fresh tt).0 fresh)
        ]
      ],
      c.once,
    );
    many = let e = c.many in omega (arith, e, one);
    made = λ r e. has_more q r c.blocks (made_then r e);
    fresh = λ r h. elim (cases_eq r q) [
      | inl e ↦ subst (λ (x : ℕ). has (q ∷ c.blocks) x ≡ true) (sym e) (has_here q c.blocks)
      | inr ne ↦ has_more q r c.blocks (c.fresh r ((change.others Fresh tt r ne).1 h))
    ];
    each = λ r e. elim (cases_eq r q) [
      | inl is ↦ inr (subst (λ (x : ℕ). HasUnrun Fresh x u) (sym is) ((change.new Fresh tt).1 refl))
      | inr ne ↦ elim (has_or q r c.blocks e) [
        | inl is ↦ absurd (ne is)
        | inr had ↦ elim (c.each r had) [ inl was ↦ inl (more r was) | inr fresh ↦ inr ((change.others Fresh tt r ne).0 fresh) ]
      ]
    ];
  }

both_say : (a b : Bool) → (a ≡ true → b ≡ true) → (b ≡ true → a ≡ true) → a ≡ b
both_say true b on back = sym (on refl)
both_say false true on back = back refl
both_say false false on back = refl

-- where one strand is left as many were forked as are counted
pub counted_all : (f : List ℕ) (w : Who) (st : Stand) (g n : ℕ) (k : Counts) → Once f → AreCounted f (Leaf w st g n) k → length f ≡ k.forks
counted_all f w st g n k once c =
    as_long f c.blocks once c.once (λ r. both_say (has f r) (has c.blocks r) (c.made r) (λ e. elim (c.each r e) [ inl was ↦ was | inr fresh ↦ absurd fresh ])) ∙ c.many
