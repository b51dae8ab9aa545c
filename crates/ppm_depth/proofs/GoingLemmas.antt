-- Depth first a tree of a code's strands is over before so many capsules are run, or it runs so many.
use Rattle.std.proofs.Common.{◌≡◌, ◌<◌, ◌≤◌, inl, inr, ℕ, zero, suc, List, refl, ap, ◌∙◌, subst, arith}
use Rattle.std.specs.Prelude.{◌⊎◌}
use Rattle.ppm_strands.specs.Tree.{Words, Strand, Call, Fork, Over, Code}
use Rattle.ppm_strands.specs.Run.{Counts, none, of_capsule, rejoin, joined, End, with_counts}
use Rattle.ppm_strands.specs.Ahead.{Capsule, Return, Join, Done}
use Rattle.ppm_strands.specs.Turn.{StepsInTurn}
use Rattle.ppm_strands.proofs.ChainLemmas.{chains_keep_ends}
use Rattle.ppm_strands.proofs.RunLemmas.{plus_none, plus_comm}
use Rattle.ppm_words.specs.declared.named_array.NamedArray.{NamedArray}
use Rattle.ppm_code.specs.declared.code.CodeParts.{CodeParts}
use Rattle.ppm_code.specs.Strands.{Result, Gave, Trapped, resume, kept}
use Rattle.ppm_depth.specs.Order.{StepsInOrder, IsAtWork}
use Rattle.ppm_depth.specs.Run.{strands_of}
use Rattle.ppm_depth.specs.Stack.{Own, Strands}
use Rattle.ppm_depth.proofs.OrderLemmas.{turns, before, then_steps, under, left, right}

module _ (code : CodeParts) (input : List NamedArray) where
  abbrev c : Code Own Result
  c = strands_of code input

  -- steps that count nothing lead to an outcome, or to a capsule
  abbrev Settles : Strands → Words → Type 0
  Settles t a = ((o : Result) × StepsInOrder c none t a (Over o) a) ⊎ ((u : Strands) × StepsInOrder c none t a u a × IsAtWork u)

  -- a frame that goes on is over, or at a capsule
  gone_on : (g : Own) (o : Result) (a : Words) → Settles (resume g o) a
  gone_on g (Trapped trap line) a = inl (Trapped trap line, (Done (resume g (Trapped trap line)) a, tt))
  gone_on g (Gave v) a = inr (resume g (Gave v), (Done (resume g (Gave v)) a, tt), tt)

  -- what steps lead to settles as the whole does
  behind : (t u : Strands) (a : Words) → StepsInOrder c none t a u a → Settles u a → Settles t a
  behind t u a s (inl h) = inl (h.0, then_steps c s.0 s.1 h.1)
  behind t u a s (inr h) = inr (h.0, then_steps c s.0 s.1 h.1, h.2)

  settles : (t : Strands) (a : Words) → Settles t a
  settles (Over o) a = inl (o, (Done (Over o) a, tt))
  settles (Strand f) a = inr (Strand f, (Done (Strand f) a, tt), tt)
  settles (Call g t) a = elim (settles t a) [
    | inl h ↦ behind (Call g t) (resume g h.0) a
        (let first = under c g h.1.0 h.1.1 in then_steps c first.0 first.1 (before c (Return g h.0 a) tt (Done (resume g h.0) a, tt)))
        (gone_on g h.0 a)
    | inr h ↦ inr (Call g h.0, under c g h.1.0 h.1.1, h.2)
  ]
  settles (Fork g l r) a = elim (settles l a) [
    | inl h ↦ elim (settles r a) [
      | inl i ↦ behind (Fork g l r) (rejoin c g h.0 i.0) a
          (let first = left c g r h.1.0 h.1.1 in
          let second = right c g h.0 i.1.0 i.1.1 in
          then_steps c first.0 first.1 (then_steps c second.0 second.1
          (before c (Join g h.0 i.0 a) tt (Done (rejoin c g h.0 i.0) a, tt))))
          (gone_on (kept g h.0) (joined c h.0 i.0) a)
      | inr i ↦ inr (
        Fork g (Over h.0) i.0,
        (let first = left c g r h.1.0 h.1.1 in let second = right c g h.0 i.1.0 i.1.1 in then_steps c first.0 first.1 second),
        inr (tt, i.2),
      )
    ]
    | inr h ↦ inr (Fork g h.0 r, left c g r h.1.0 h.1.1, inl h.2)
  ]

  -- the capsule that is next is run
  works : (t : Strands) (a : Words) → IsAtWork t → (k : Counts) × (u : Strands) × (b : Words) × StepsInOrder c k t a u b × (k.capsules ≡ 1)
  works (Strand f) a h = (
    of_capsule c f a,
    c.next f a,
    c.after f a,
    subst (λ (k : Counts). StepsInOrder c k (Strand f) a (c.next f a) (c.after f a))
        (plus_comm (of_capsule c f a) none ∙ plus_none (of_capsule c f a)) (before c (Capsule f a) tt (Done (c.next f a) (c.after f a), tt)),
    refl,
  )
  works (Call g t) a h = let w = works t a h in (w.0, Call g w.1, w.2, under c g w.3.0 w.3.1, w.4)
  works (Fork g l r) a (inl h) = let w = works l a h in (w.0, Fork g w.1 r, w.2, left c g r w.3.0 w.3.1, w.4)
  works (Fork g (Over o) r) a (inr h) = let w = works r a h.1 in (w.0, Fork g (Over o) w.1, w.2, right c g o w.3.0 w.3.1, w.4)
  works (Fork g (Strand f) r) a (inr h) = absurd h.0
  works (Fork g (Call f t) r) a (inr h) = absurd h.0
  works (Fork g (Fork f s t) r) a (inr h) = absurd h.0
  works (Over o) a h = absurd h

  -- the tree is over before n capsules are run, or n are run
  abbrev pub Goes : ℕ → Strands → Words → Type 0
  Goes n t a = ((k : Counts) × (o : Result) × (b : Words) × StepsInOrder c k t a (Over o) b × (k.capsules < n))
      ⊎ ((k : Counts) × (u : Strands) × (b : Words) × StepsInOrder c k t a u b × (k.capsules ≡ n))

  pub goes : (n : ℕ) (t : Strands) (a : Words) → Goes n t a
  goes zero t a = inr (none, t, a, (Done t a, tt), refl)
  goes (suc n) t a = elim (goes n t a) [
    | inl h ↦ inl (h.0, h.1, h.2, h.3, omega (arith, h.4))
    | inr h ↦ elim (settles h.1 h.2) [
      | inl i ↦ inl (_, i.0, h.2, then_steps c h.3.0 h.3.1 i.1, omega (arith, h.4))
      | inr i ↦
          let w = works i.0 h.2 i.2 in
          let rest = then_steps c i.1.0 i.1.1 w.3 in
          inr (_, w.1, w.2, then_steps c h.3.0 h.3.1 rest, omega (arith, h.4, w.4))
    ]
  ]

  -- where steps in turn, of any kind, run n capsules, so does the depth-first run
  pub goes_on_in_order : (n : ℕ) (t v : Strands) (a d : Words) (j : Counts) → StepsInTurn c j t a v d → n ≤ j.capsules
      → (k : Counts) × (u : Strands) × (b : Words) × StepsInOrder c k t a u b × (k.capsules ≡ n)
  goes_on_in_order n t v a d j s long = elim (goes n t a) [
    | inl h ↦
        let over : End Result = record { outcome = h.1; words = h.2; counts = none } in
        let whole = turns c h.3 in
        let ends = (chains_keep_ends c h.0 t (Over h.1) a h.2 whole.0 whole.1 (with_counts h.0 over)).1 (over, (1, refl), refl) in
        let rest = (chains_keep_ends c j t v a d s.0 s.1 (with_counts h.0 over)).0 ends in
        let same = ap (λ (e : End Result). e.counts.capsules) rest.2 in
        let few = h.4 in
        absurd (omega (arith, same, few, long))
    | inr h ↦ h
  ]
