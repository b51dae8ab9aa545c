-- A run goes on from each moment, by its tree, until it is over, or a capsule meets something.
use Rattle.std.proofs.Common.{◌≡◌, ◌⊎◌, inl, inr, ℕ, zero, suc, ◌+◌, List, [], ◌∷◌, arith}
use Rattle.ppm_strands.specs.Tree.{Words, Tree, Strand, Call, Fork, Over, Code}
use Rattle.ppm_strands.specs.Run.{rejoin}
use Rattle.ppm_stamps.specs.Stamps.{Stamps, fresh}
use Rattle.ppm_stamps.specs.Moments.{Above, InCallee, InLeft, InRight, beside_of, Moment}
use Rattle.ppm_stamps.specs.Moments.{Comes, Begins, Runs, Calls, Forks, Returns, GoesRight, Joins}
use Rattle.ppm_stamps.specs.Within.{IsLeaf, GoesOnAtOnce, IsEndedWithin, IsMetWithin, AreToldWithin}
use Rattle.ppm_stamps.proofs.ToldLemmas.{marked, marks, meets_or_passes}

module _ {F O : Type 0} (c : Code F O) (on : GoesOnAtOnce c) (root : Tree F O) (input : Words) where
  -- at these words a capsule is next, somewhere in the tree
  record IsNext (a : Words) (s : Stamps) : Type 0 where
    pub above : List (Above F O)
    pub frame : F
    pub come : Comes c root input above (Strand frame) a s

  -- what stands below these frames is over
  record IsOverBelow (above : List (Above F O)) (a : Words) (s : Stamps) : Type 0 where
    pub outcome : O
    pub come : Comes c root input above (Over outcome) a s

  -- a leaf is over, or its capsule is next
  leaf : (above : List (Above F O)) (t : Tree F O) (a : Words) (s : Stamps) → IsLeaf t → Comes c root input above t a s → IsOverBelow above a s ⊎ IsNext a s
  leaf above (Strand f) a s is come = inr (record { above = above; frame = f; come = come })
  leaf above (Call g t) a s is come = absurd is
  leaf above (Fork g l r) a s is come = absurd is
  leaf above (Over o) a s is come = inl (record { outcome = o; come = come })

  -- a join goes on at once
  joined : (above : List (Above F O)) (g : F) (o p : O) (start mid : ℕ) (a : Words) (s : Stamps)
      → Comes c root input (InRight g o start mid ∷ above) (Over p) a s → IsOverBelow above a s ⊎ IsNext a s
  joined above g o p start mid a s come = leaf above (rejoin c g o p) a s (on.resume (c.kept g o) _) (Joins come)

  -- down a tree to its first strand
  down : (t : Tree F O) (above : List (Above F O)) (a : Words) (s : Stamps) → Comes c root input above t a s → IsOverBelow above a s ⊎ IsNext a s
  down (Strand f) above a s come = leaf above (Strand f) a s tt come
  down (Over o) above a s come = leaf above (Over o) a s tt come
  down (Call g t) above a s come = elim (down t (InCallee g ∷ above) a s (Calls come)) [
    | inl y ↦ leaf above (c.resume g y.outcome) a s (on.resume g y.outcome) (Returns y.come)
    | inr y ↦ inr y
  ]
  down (Fork g l r) above a s come = elim (down l (InLeft g r s.time ∷ above) a s (Forks come)) [
    | inl y ↦ elim (down r (InRight g y.outcome s.time s.time ∷ above) a s (GoesRight y.come)) [
      | inl z ↦ joined above g y.outcome z.outcome s.time s.time a s z.come
      | inr z ↦ inr z
    ]
    | inr y ↦ inr y
  ]

  -- up from what is over, to the next strand or the end
  up : (above : List (Above F O)) (a : Words) (s : Stamps) → IsOverBelow above a s → IsOverBelow [] a s ⊎ IsNext a s
  up [] a s it = inl it
  up (InCallee g ∷ above) a s it = elim (leaf above (c.resume g it.outcome) a s (on.resume g it.outcome) (Returns it.come)) [
    | inl y ↦ up above a s y
    | inr y ↦ inr y
  ]
  up (InLeft g r start ∷ above) a s it = elim (down r (InRight g it.outcome start s.time ∷ above) a s (GoesRight it.come)) [
    | inl y ↦ elim (joined above g it.outcome y.outcome start s.time a s y.come) [
      | inl z ↦ up above a s z
      | inr z ↦ inr z
    ]
    | inr y ↦ inr y
  ]
  up (InRight g o start mid ∷ above) a s it = elim (joined above g o it.outcome start mid a s it.come) [
    | inl y ↦ up above a s y
    | inr y ↦ inr y
  ]

  -- from each moment
  on_from : (above : List (Above F O)) (t : Tree F O) (a : Words) (s : Stamps) → Comes c root input above t a s → IsOverBelow [] a s ⊎ IsNext a s
  on_from above t a s come = elim (down t above a s come) [ inl y ↦ up above a s y | inr y ↦ inr y ]

  -- what the next capsule is, where so many were run
  told_at : (n : ℕ) (a : Words) (s : Stamps) → s.time ≡ n + 1 → IsOverBelow [] a s ⊎ IsNext a s → IsEndedWithin c root input n ⊎ Moment c root input (n + 1)
  told_at n a s time (inl y) = inl (record { outcome = y.outcome; words = a; stamps = s; come = y.come; few = omega (arith, time) })
  told_at n a s time (inr y) = inr (record { above = y.above; frame = y.frame; words = a; stamps = s; come = y.come; time = time })

  -- the next capsule is run: it meets something, or one more may be next
  one_more : (n : ℕ) → Moment c root input (n + 1)
      → IsEndedWithin c root input (suc n) ⊎ (IsMetWithin c root input (suc n) ⊎ Moment c root input (suc n + 1))
  one_more n m =
      let b = beside_of m.above in
      elim (meets_or_passes c b m.frame m.words m.stamps) [
        | inl meets ↦ inr (inl (record { number = n + 1; moment = m; few = omega arith; meets = meets }))
        | inr passes ↦
            let u = marked c b m.frame m.words m.stamps in
            let now = Runs m.come passes (marks c b m.frame m.words m.stamps) in
            let time = m.time in
            elim (told_at (suc n) (c.after m.frame m.words) u (omega (arith, time))
            (on_from m.above (c.next m.frame m.words) (c.after m.frame m.words) u now)) [
              | inl y ↦ inl y
              | inr y ↦ inr (inr y)
            ]
      ]

  -- by induction on the number
  told_within : (limit : ℕ) → IsEndedWithin c root input limit ⊎ (IsMetWithin c root input limit ⊎ Moment c root input (limit + 1))
  told_within zero = elim (told_at 0 input fresh (omega arith) (on_from [] root input fresh Begins)) [
    | inl y ↦ inl y
    | inr y ↦ inr (inr y)
  ]
  told_within (suc n) = elim (told_within n) [
    | inl y ↦ let few = y.few in
        inl (record { outcome = y.outcome; words = y.words; stamps = y.stamps; come = y.come; few = omega (arith, few) })
    | inr y ↦ elim y [
      | inl z ↦ let few = z.few in inr (inl (record { number = z.number; moment = z.moment; few = omega (arith, few); meets = z.meets }))
      | inr z ↦ one_more n z
    ]
  ]

-- within any number of capsules a run comes to its end, meets something, or has one capsule more next
pub are_told_within : {F O : Type 0} (c : Code F O) → GoesOnAtOnce c → AreToldWithin c
are_told_within c on root input limit = told_within c on root input limit
