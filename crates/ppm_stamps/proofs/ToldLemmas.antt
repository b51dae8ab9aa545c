-- A run that comes to its end is told clean, or something is found in it: each capsule passes or meets something, and can be marked.
use Rattle.std.proofs.Common.{◌≡◌, ◌⊎◌, inl, inr, refl, ap, ◌∙◌, ℕ, zero, suc, cond, List, [], ◌∷◌, Some, Bool, true, false}
use Rattle.std.proofs.lemmas.Bool.{cases_Bool}
use Rattle.ppm_strands.specs.Tree.{Words, Tree, Strand, Call, Fork, Over, Code, Has}
use Rattle.ppm_strands.specs.Run.{End, run, rejoin}
use Rattle.ppm_strands.specs.Calm.{touches}
use Rattle.ppm_strands.proofs.RunLemmas.{counted_some, then_some}
use Rattle.ppm_strands.proofs.CalmLemmas.{has_or_not}
use Rattle.ppm_stamps.specs.Stamps.{Stamps, right_of, Passes, Meets, Marks, IsClean, IsFound}

-- one of the addresses is met, or none
some_met : (q : ℕ → Bool) (xs : List ℕ) → ((x : ℕ) × Has x xs × (q x ≡ true)) ⊎ ((x : ℕ) → Has x xs → q x ≡ false)
some_met q [] = inr (λ x h. absurd h)
some_met q (y ∷ xs) = elim (cases_Bool (q y)) [
  | inl e ↦ inl (y, inl refl, e)
  | inr n ↦ elim (some_met q xs) [
    | inl h ↦ inl (h.0, inr h.1, h.2)
    | inr h ↦ inr (λ x i. elim i [ inl e ↦ ap q e ∙ n | inr j ↦ h x j ])
  ]
]

-- what stands at an address that is one of a list, and else
abbrev choose : {P : Type 0} → P ⊎ (P → ⊥) → ℕ → ℕ → ℕ
choose (inl h) i j = i
choose (inr h) i j = j

chosen : {P : Type 0} (p : P ⊎ (P → ⊥)) (i j : ℕ) → P → choose p i j ≡ i
chosen (inl h) i j is = refl
chosen (inr h) i j is = absurd (h is)

unchosen : {P : Type 0} (p : P ⊎ (P → ⊥)) (i j : ℕ) → (P → ⊥) → choose p i j ≡ j
unchosen (inl h) i j out = absurd (out h)
unchosen (inr h) i j out = refl

cond_true : (b : Bool) (i j : ℕ) → b ≡ true → cond b i j ≡ i
cond_true true i j h = refl
cond_true false i j h = absurd (cc)

cond_false : (b : Bool) (i j : ℕ) → b ≡ false → cond b i j ≡ j
cond_false true i j h = absurd (cc)
cond_false false i j h = refl

module _ {F O : Type 0} (c : Code F O) where
  pub meets_or_passes : (beside : ℕ → Bool) (f : F) (a : Words) (s : Stamps) → Meets c beside f a s ⊎ Passes c beside f a s
  meets_or_passes beside f a s = elim (some_met (λ x. beside (s.wrote x)) (touches c f a)) [
    | inl h ↦ inl (h.0, inl (h.1, h.2))
    | inr h ↦ elim (some_met (λ x. beside (s.touched x)) (c.writes f a)) [
      | inl k ↦ inl (k.0, inr (k.1, k.2))
      | inr k ↦ inr (record { unwritten = h; untouched = k })
    ]
  ]

  abbrev pub marked : (beside : ℕ → Bool) → F → Words → Stamps → Stamps
  marked beside f a s = record {
    time = suc s.time;
    wrote = λ x. choose (has_or_not x (c.writes f a)) s.time (s.wrote x);
    touched = λ x. choose (has_or_not x (touches c f a)) (cond (beside (s.touched x)) (s.touched x) s.time) (s.touched x);
  }

  pub marks : (beside : ℕ → Bool) (f : F) (a : Words) (s : Stamps) → Marks c beside f a s (marked beside f a s)
  marks beside f a s = record {
    time = refl;
    wrote = λ x h. chosen (has_or_not x (c.writes f a)) _ _ h;
    unwritten = λ x h. unchosen (has_or_not x (c.writes f a)) _ _ h;
    stays = λ x h b. chosen (has_or_not x (touches c f a)) _ _ h ∙ cond_true (beside (s.touched x)) _ _ b;
    touched = λ x h b. chosen (has_or_not x (touches c f a)) _ _ h ∙ cond_false (beside (s.touched x)) _ _ b;
    untouched = λ x h. unchosen (has_or_not x (touches c f a)) _ _ h;
  }

  pub told : (n : ℕ) (beside : ℕ → Bool) (t : Tree F O) (a : Words) (s : Stamps) (e : End O) → run c n t a ≡ Some e
      → IsFound c n beside t a s ⊎ ((u : Stamps) × IsClean c n beside t a s u)
  told zero beside t a s e h = absurd (cc)
  told (suc n) beside (Over o) a s e h = inr (s, refl)
  told (suc n) beside (Strand f) a s e h =
      let d = counted_some _ (run c n (c.next f a) (c.after f a)) e h in
      elim (meets_or_passes beside f a s) [
        | inl y ↦ inl (inl y)
        | inr y ↦ elim (told n beside (c.next f a) (c.after f a) (marked beside f a s) d.0 d.1) [
          | inl z ↦ inl (inr (marked beside f a s, y, marks beside f a s, z))
          | inr z ↦ inr (z.0, (marked beside f a s, y, marks beside f a s, z.1))
        ]
      ]
  told (suc n) beside (Call g t) a s e h =
      let d = then_some (run c n t a) _ e h in
      elim (told n beside t a s d.0 d.1) [
        | inl y ↦ inl (inl y)
        | inr y ↦ elim (told n beside (c.resume g d.0.outcome) d.0.words y.0 d.2 d.3) [
          | inl z ↦ inl (inr (y.0, d.0, y.1, (n, d.1), z))
          | inr z ↦ inr (z.0, (y.0, d.0, y.1, (n, d.1), z.1))
        ]
      ]
  told (suc n) beside (Fork g l r) a s e h =
      let d = then_some (run c n l a) _ e h in
      let p = then_some (run c n r d.0.words) _ d.2 d.3 in
      elim (told n beside l a s d.0 d.1) [
        | inl y ↦ inl (inl y)
        | inr y ↦ elim (told n (right_of beside s.time y.0.time) r d.0.words y.0 p.0 p.1) [
          | inl z ↦ inl (inr (inl (y.0, d.0, y.1, (n, d.1), z)))
          | inr z ↦ elim (told n beside (rejoin c g d.0.outcome p.0.outcome) p.0.words z.0 p.2 p.3) [
            | inl w ↦ inl (inr (inr (y.0, z.0, d.0, p.0, y.1, (n, d.1), z.1, (n, p.1), w)))
            | inr w ↦ inr (w.0, (y.0, z.0, d.0, p.0, y.1, (n, d.1), z.1, (n, p.1), w.1))
          ]
        ]
      ]
