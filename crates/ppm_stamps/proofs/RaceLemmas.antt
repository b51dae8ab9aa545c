-- A run that is told clean is of a calm tree; one in which something is found is not.
use Rattle.std.proofs.Common.{◌≡◌, ◌⊎◌, inl, inr, refl, sym, ap, ◌∙◌, subst, subst₂, ◌↔◌, ◌<◌, ℕ, zero, suc, List, Bool, true, false, lt_irrefl}
use Rattle.std.proofs.Common.{le_refl, lt_of_lt_of_le, lt-suc_self, lt_trans, le_of_lt}
use Rattle.std.proofs.lemmas.Bool.{both_ways, cases_Bool}
use Rattle.ppm_strands.specs.Tree.{Words, Tree, Strand, Call, Fork, Over, Code, Local, Has}
use Rattle.ppm_strands.specs.Run.{End, with_counts, of_capsule, rejoin, Ends}
use Rattle.ppm_strands.specs.Calm.{touches, Gathers, Writes, Touches, Calm}
use Rattle.ppm_strands.specs.Locality.{RunsAlike}
use Rattle.ppm_strands.proofs.RunLemmas.{one_end}
use Rattle.ppm_strands.proofs.PartsLemmas.{has_right, over_end, call_ends, fork_ends, ends_by_parts, gathers_by_parts, calm_by_parts}
use Rattle.ppm_strands.proofs.CalmLemmas.{has_or_not}
use Rattle.ppm_strands.proofs.LocalityLemmas.{unwritten, runs_alike}
use Rattle.ppm_stamps.specs.Stamps.{Stamps, right_of, Passes, Marks, IsClean, IsFound}
use Rattle.ppm_stamps.proofs.CoverLemmas.{Told, Covers, IsInside, SaysMore, SaysAll, covers_as, covers_none, covers_both, covers_fork, apart_left, apart_right}
use Rattle.ppm_stamps.proofs.CoverLemmas.{right_more, right_all, right_only}

module _ {F O : Type 0} (c : Code F O) (local : Local c) where
  -- what is written is touched
  writes_touch_at : (f : F) (a : Words) (x : ℕ) → Has x (c.writes f a) → Has x (touches c f a)
  writes_touch_at f a x h = has_right x (c.reads f a) _ h

  -- one capsule that passes, and its marks
  module _ (beside : ℕ → Bool) (f : F) (a : Words) (s m : Stamps) (low : (k : ℕ) → beside k ≡ true → k < s.time)
      (low_wrote : (x : ℕ) → s.wrote x < s.time) (low_touched : (x : ℕ) → s.touched x < s.time)
      (passes : Passes c beside f a s) (marks : Marks c beside f a s m) where
    step_later : s.time < m.time
    step_later = subst (λ (k : ℕ). s.time < k) (sym marks.time) (lt-suc_self s.time)

    step_wrote : (x : ℕ) → m.wrote x < m.time
    step_wrote x = elim (has_or_not x (c.writes f a)) [
      | inl h ↦ subst (λ (k : ℕ). k < m.time) (sym (marks.wrote x h)) step_later
      | inr h ↦ subst (λ (k : ℕ). k < m.time) (sym (marks.unwritten x h)) (lt_trans (low_wrote x) step_later)
    ]

    step_touched : (x : ℕ) → m.touched x < m.time
    step_touched x = elim (has_or_not x (touches c f a)) [
      | inl h ↦ elim (cases_Bool (beside (s.touched x))) [
        | inl y ↦ subst (λ (k : ℕ). k < m.time) (sym (marks.stays x h y)) (lt_trans (low_touched x) step_later)
        | inr n ↦ subst (λ (k : ℕ). k < m.time) (sym (marks.touched x h n)) step_later
      ]
      | inr h ↦ subst (λ (k : ℕ). k < m.time) (sym (marks.untouched x h)) (lt_trans (low_touched x) step_later)
    ]

    -- who asks of no more than what is beside says no of what is now, and of what isn't beside
    not_now : (q : ℕ → Bool) → IsInside q beside m.time → (k : ℕ) → k ≡ s.time → q k ≡ false
    not_now q in_ k e = elim (cases_Bool (q k)) [
      | inl y ↦ absurd (lt_irrefl s.time (subst (λ (i : ℕ). i < s.time) e (low k (in_ k (subst (λ (i : ℕ). i < m.time) (sym e) step_later) y))))
      | inr n ↦ n
    ]

    not_beside : (q : ℕ → Bool) → IsInside q beside m.time → (k : ℕ) → k < m.time → beside k ≡ false → q k ≡ false
    not_beside q in_ k lt out = elim (cases_Bool (q k)) [ inl y ↦ absurd (both_ways _ out (in_ k lt y)) | inr n ↦ n ]

    step_inside_wrote : (q : ℕ → Bool) → IsInside q beside m.time → (x : ℕ) → q (m.wrote x) ≡ q (s.wrote x)
    step_inside_wrote q in_ x = elim (has_or_not x (c.writes f a)) [
      | inl h ↦ not_now q in_ (m.wrote x) (marks.wrote x h)
          ∙ sym (not_beside q in_ (s.wrote x) (lt_trans (low_wrote x) step_later) (passes.unwritten x (writes_touch_at f a x h)))
      | inr h ↦ ap q (marks.unwritten x h)
    ]

    step_inside_touched : (q : ℕ → Bool) → IsInside q beside m.time → (x : ℕ) → q (m.touched x) ≡ q (s.touched x)
    step_inside_touched q in_ x = elim (has_or_not x (touches c f a)) [
      | inl h ↦ elim (cases_Bool (beside (s.touched x))) [
        | inl y ↦ ap q (marks.stays x h y)
        | inr n ↦ not_now q in_ (m.touched x) (marks.touched x h n)
            ∙ sym (not_beside q in_ (s.touched x) (lt_trans (low_touched x) step_later) n)
      ]
      | inr h ↦ ap q (marks.untouched x h)
    ]

    module _ (q : ℕ → Bool) (more : SaysMore q beside) (all : SaysAll q s.time m.time) where
      now_told : (k : ℕ) → k ≡ s.time → q k ≡ true
      now_told k e = subst (λ (i : ℕ). q i ≡ true) (sym e) (all s.time (le_refl s.time) step_later)

      step_told_wrote : (x : ℕ) → Told q s.wrote m.wrote (λ y. Has y (c.writes f a)) x
      step_told_wrote x = elim (has_or_not x (c.writes f a)) [
        | inl h ↦ record { kept = λ y. now_told _ (marks.wrote x h); added = λ y. now_told _ (marks.wrote x h); only = λ y. inr h }
        | inr h ↦ record {
          kept = λ y. ap q (marks.unwritten x h) ∙ y;
          added = λ y. absurd (h y);
          only = λ y. inl (sym (ap q (marks.unwritten x h)) ∙ y);
        }
      ]

      step_told_touched : (x : ℕ) → Told q s.touched m.touched (λ y. Has y (touches c f a)) x
      step_told_touched x = elim (has_or_not x (touches c f a)) [
        | inl h ↦ elim (cases_Bool (beside (s.touched x))) [
          | inl b ↦ record {
            kept = λ y. ap q (marks.stays x h b) ∙ y;
            added = λ y. ap q (marks.stays x h b) ∙ more (s.touched x) b;
            only = λ y. inr h;
          }
          | inr n ↦ record { kept = λ y. now_told _ (marks.touched x h n); added = λ y. now_told _ (marks.touched x h n); only = λ y. inr h }
        ]
        | inr h ↦ record {
          kept = λ y. ap q (marks.untouched x h) ∙ y;
          added = λ y. absurd (h y);
          only = λ y. inl (sym (ap q (marks.untouched x h)) ∙ y);
        }
      ]

    covers_step : Covers beside (λ x. Has x (c.writes f a)) (λ x. Has x (touches c f a)) s m
    covers_step = record {
      later = le_of_lt step_later;
      below_wrote = step_wrote;
      below_touched = step_touched;
      unwritten = passes.unwritten;
      untouched = passes.untouched;
      inside_wrote = step_inside_wrote;
      inside_touched = step_inside_touched;
      told_wrote = step_told_wrote;
      told_touched = step_told_touched;
    }

  -- the words of what follows the one end of a part
  behind : (s : F → Words → List ℕ) (t : Tree F O) (a : Words) (d : End O) (k : O → Tree F O) (x : ℕ) → Ends c t a d
      → ((e : End O) × Ends c t a e × Gathers c s (k e.outcome) e.words x) → Gathers c s (k d.outcome) d.words x
  behind s t a d k x is h = subst (λ (e : End O). Gathers c s (k e.outcome) e.words x) (one_end c t a h.0 d h.1 is) h.2

  over_words : (s : F → Words → List ℕ) (o : O) (a : Words) (x : ℕ) → ⊥ ↔ Gathers c s (Over o) a x
  over_words s o a x = (λ h. absurd h, (gathers_by_parts c s).over o a x)

  strand_words : (s : F → Words → List ℕ) (f : F) (a : Words) (x : ℕ)
      → (Has x (s f a) ⊎ Gathers c s (c.next f a) (c.after f a) x) ↔ Gathers c s (Strand f) a x
  strand_words s f a x = (((gathers_by_parts c s).strand f a x).1, ((gathers_by_parts c s).strand f a x).0)

  call_words : (s : F → Words → List ℕ) (g : F) (t : Tree F O) (a : Words) (d : End O) → Ends c t a d → (x : ℕ)
      → (Gathers c s t a x ⊎ Gathers c s (c.resume g d.outcome) d.words x) ↔ Gathers c s (Call g t) a x
  call_words s g t a d is x = (
    λ h. ((gathers_by_parts c s).call g t a x).1 (elim h [ inl y ↦ inl y | inr y ↦ inr (d, is, y) ]),
    λ h. elim (((gathers_by_parts c s).call g t a x).0 h) [ inl y ↦ inl y | inr y ↦ inr (behind s t a d (λ o. c.resume g o) x is y) ],
  )

  -- a fork whose right branch meets the same words from those that the left one leaves
  fork_words : (s : F → Words → List ℕ) (g : F) (l r : Tree F O) (a : Words) (d p : End O) → Ends c l a d → Ends c r d.words p
      → ((x : ℕ) → Gathers c s r a x ↔ Gathers c s r d.words x) → (x : ℕ)
      → ((Gathers c s l a x ⊎ Gathers c s r d.words x) ⊎ Gathers c s (rejoin c g d.outcome p.outcome) p.words x) ↔ Gathers c s (Fork g l r) a x
  fork_words s g l r a d p i j same x = (
    λ h. ((gathers_by_parts c s).fork g l r a x).1 (elim h [
      | inl y ↦ elim y [ inl z ↦ inl z | inr z ↦ inr (inl ((same x).1 z)) ]
      | inr y ↦ inr (inr (d, p, i, j, y))
    ]),
    λ h. elim (((gathers_by_parts c s).fork g l r a x).0 h) [
      | inl y ↦ inl (inl y)
      | inr k ↦ elim k [
        | inl y ↦ inl (inr ((same x).0 y))
        | inr y ↦
            let e = one_end c l a y.0 d y.2 i in
            let f = one_end c r d.words y.1 p (subst (λ (z : End O). Ends c r z.words y.1) e y.3) j in
            inr (subst₂ (λ (z w : End O). Gathers c s (rejoin c g z.outcome w.outcome) w.words x) e f y.4)
      ]
    ],
  )

  -- what a clean run shows: its end, that its tree is calm, and what stamps say of it
  pub record Clean (beside : ℕ → Bool) (t : Tree F O) (a : Words) (s u : Stamps) : Type 0 where
    pub end : (e : End O) × Ends c t a e
    pub calm : Calm c t a
    pub covers : Covers beside (Writes c t a) (Touches c t a) s u

  -- the right branch of a fork, from the words that the left one leaves and from those at the fork
  module _ (l r : Tree F O) (a : Words) (d : End O) (calm_l : Calm c l a) (is : Ends c l a d) where
    -- from the former it is calm, and meets no word that the left one writes
    right_back : Calm c r d.words → ((x : ℕ) → Writes c l a x → Touches c r d.words x → ⊥) → RunsAlike c r d.words a
    right_back calm apart = runs_alike c local r d.words a calm (λ x h. sym (unwritten c local l a calm_l d is x (λ w. apart x w h)))

    -- or from the latter
    right_forth : Calm c r a → ((x : ℕ) → Writes c l a x → Touches c r a x → ⊥) → RunsAlike c r a d.words
    right_forth calm apart = runs_alike c local r a d.words calm (λ x h. unwritten c local l a calm_l d is x (λ w. apart x w h))

  pub clean : (n : ℕ) (beside : ℕ → Bool) (t : Tree F O) (a : Words) (s u : Stamps) → ((k : ℕ) → beside k ≡ true → k < s.time)
      → ((x : ℕ) → s.wrote x < s.time) → ((x : ℕ) → s.touched x < s.time) → IsClean c n beside t a s u → Clean beside t a s u
  clean zero beside t a s u low lw lt h = absurd h
  clean (suc n) beside (Over o) a s u low lw lt h = record {
    end = (over_end o a, (1, refl));
    calm = (calm_by_parts c).over o a;
    covers = subst (λ (v : Stamps). Covers beside (Writes c (Over o) a) (Touches c (Over o) a) s v) (sym h)
        (covers_as beside (λ x. ⊥) (λ x. ⊥) _ _ s s (over_words c.writes o a) (over_words (touches c) o a) (covers_none beside s lw lt));
  }
  clean (suc n) beside (Strand f) a s u low lw lt h =
      let m = h.0 in
      let step = covers_step beside f a s m low lw lt h.1 h.2 in
      let rest = clean n beside (c.next f a) (c.after f a) m u (λ k y. lt_of_lt_of_le (low k y) step.later) step.below_wrote step.below_touched h.3 in
      record {
        end = (with_counts (of_capsule c f a) rest.end.0, ((ends_by_parts c).strand f a _).1 (rest.end.0, rest.end.1, refl));
        calm = ((calm_by_parts c).strand f a).1 rest.calm;
        covers = covers_as beside _ _ _ _ s u (strand_words c.writes f a) (strand_words (touches c) f a)
            (covers_both beside _ _ _ _ s m u step rest.covers);
      }
  clean (suc n) beside (Call g t) a s u low lw lt h =
      let m = h.0 in
      let d = h.1 in
      let first = clean n beside t a s m low lw lt h.2 in
      let rest = clean n beside (c.resume g d.outcome) d.words m u (λ k y. lt_of_lt_of_le (low k y) first.covers.later)
      first.covers.below_wrote first.covers.below_touched h.4 in
      record {
        end = (with_counts d.counts rest.end.0, call_ends c g t a d rest.end.0 h.3 rest.end.1);
        calm = ((calm_by_parts c).call g t a).1
            (first.calm, λ e i. subst (λ (z : End O). Calm c (c.resume g z.outcome) z.words) (one_end c t a d e h.3 i) rest.calm);
        covers = covers_as beside _ _ _ _ s u (call_words c.writes g t a d h.3) (call_words (touches c) g t a d h.3)
            (covers_both beside _ _ _ _ s m u first.covers rest.covers);
      }
  clean (suc n) beside (Fork g l r) a s u low lw lt h =
      let m = h.0 in
      let v = h.1 in
      let d = h.2 in
      let p = h.3 in
      let left = clean n beside l a s m low lw lt h.4 in
      let low_right : (k : ℕ) → right_of beside s.time m.time k ≡ true → k < m.time = λ k y. elim (right_only beside s.time m.time k y) [
        | inl z ↦ lt_of_lt_of_le (low k z) left.covers.later
        | inr z ↦ z.1
      ] in
      let right = clean n (right_of beside s.time m.time) r d.words m v low_right left.covers.below_wrote left.covers.below_touched h.6 in
      let lr = apart_left beside _ _ _ _ s m v left.covers right.covers in
      let rl = apart_right beside _ _ _ _ s m v left.covers right.covers in
      let back = right_back l r a d left.calm h.5 right.calm lr in
      let both = covers_fork beside _ _ _ _ s m v left.covers right.covers in
      let rest = clean n beside (rejoin c g d.outcome p.outcome) p.words v u (λ k y. lt_of_lt_of_le (low k y) both.later)
      both.below_wrote both.below_touched h.8 in
      record {
        end = (_, fork_ends c g l r a d p rest.end.0 h.5 h.7 rest.end.1);
        calm = ((calm_by_parts c).fork g l r a).1 (
          left.calm,
          back.calm,
          λ x i j. lr x i ((back.touches x).0 j),
          λ x i j. rl x ((back.writes x).0 i) j,
          λ e f i j.
              let same = one_end c l a d e h.5 i in
              let alike = one_end c r d.words p f h.7 (subst (λ (z : End O). Ends c r z.words f) (sym same) j) in
              subst₂ (λ (z w : End O). Calm c (rejoin c g z.outcome w.outcome) w.words) same alike rest.calm,
        );
        covers = covers_as beside _ _ _ _ s u (fork_words c.writes g l r a d p h.5 h.7 back.writes)
            (fork_words (touches c) g l r a d p h.5 h.7 back.touches) (covers_both beside _ _ _ _ s v u both rest.covers);
      }

  -- what is found in a calm tree was met outside of it
  abbrev pub IsMet : (ℕ → Bool) → Tree F O → Words → Stamps → Type 0
  IsMet beside t a s = (x : ℕ) × ((Touches c t a x × (beside (s.wrote x) ≡ true)) ⊎ (Writes c t a x × (beside (s.touched x) ≡ true)))

  pub found : (n : ℕ) (beside : ℕ → Bool) (t : Tree F O) (a : Words) (s : Stamps) → ((k : ℕ) → beside k ≡ true → k < s.time)
      → ((x : ℕ) → s.wrote x < s.time) → ((x : ℕ) → s.touched x < s.time) → IsFound c n beside t a s → Calm c t a → IsMet beside t a s
  found zero beside t a s low lw lt h calm = absurd h
  found (suc n) beside (Over o) a s low lw lt h calm = absurd h
  found (suc n) beside (Strand f) a s low lw lt (inl h) calm = (
    h.0,
    elim h.1 [
      | inl y ↦ inl ((strand_words (touches c) f a h.0).0 (inl y.0), y.1)
      | inr y ↦ inr ((strand_words c.writes f a h.0).0 (inl y.0), y.1)
    ],
  )
  found (suc n) beside (Strand f) a s low lw lt (inr h) calm =
      let m = h.0 in
      let step = covers_step beside f a s m low lw lt h.1 h.2 in
      let it = found n beside (c.next f a) (c.after f a) m (λ k y. lt_of_lt_of_le (low k y) step.later) step.below_wrote step.below_touched h.3
      (((calm_by_parts c).strand f a).0 calm) in (
        it.0,
        elim it.1 [
          | inl y ↦ inl ((strand_words (touches c) f a it.0).0 (inr y.0), sym (step.inside_wrote beside (λ k lt z. z) it.0) ∙ y.1)
          | inr y ↦ inr ((strand_words c.writes f a it.0).0 (inr y.0), sym (step.inside_touched beside (λ k lt z. z) it.0) ∙ y.1)
        ],
      )
  found (suc n) beside (Call g t) a s low lw lt (inl h) calm =
      let it = found n beside t a s low lw lt h (((calm_by_parts c).call g t a).0 calm).0 in (
        it.0,
        elim it.1 [
          | inl y ↦ inl (((gathers_by_parts c (touches c)).call g t a it.0).1 (inl y.0), y.1)
          | inr y ↦ inr (((gathers_by_parts c c.writes).call g t a it.0).1 (inl y.0), y.1)
        ],
      )
  found (suc n) beside (Call g t) a s low lw lt (inr h) calm =
      let m = h.0 in
      let d = h.1 in
      let first = (clean n beside t a s m low lw lt h.2).covers in
      let it = found n beside (c.resume g d.outcome) d.words m (λ k y. lt_of_lt_of_le (low k y) first.later) first.below_wrote first.below_touched h.4
      ((((calm_by_parts c).call g t a).0 calm).1 d h.3) in (
        it.0,
        elim it.1 [
          | inl y ↦ inl ((call_words (touches c) g t a d h.3 it.0).0 (inr y.0), sym (first.inside_wrote beside (λ k lt z. z) it.0) ∙ y.1)
          | inr y ↦ inr ((call_words c.writes g t a d h.3 it.0).0 (inr y.0), sym (first.inside_touched beside (λ k lt z. z) it.0) ∙ y.1)
        ],
      )
  found (suc n) beside (Fork g l r) a s low lw lt (inl h) calm =
      let it = found n beside l a s low lw lt h (((calm_by_parts c).fork g l r a).0 calm).0 in (
        it.0,
        elim it.1 [
          | inl y ↦ inl (((gathers_by_parts c (touches c)).fork g l r a it.0).1 (inl y.0), y.1)
          | inr y ↦ inr (((gathers_by_parts c c.writes).fork g l r a it.0).1 (inl y.0), y.1)
        ],
      )
  found (suc n) beside (Fork g l r) a s low lw lt (inr (inl h)) calm =
      let m = h.0 in
      let d = h.1 in
      let parts = ((calm_by_parts c).fork g l r a).0 calm in
      let left = (clean n beside l a s m low lw lt h.2).covers in
      let low_right : (k : ℕ) → right_of beside s.time m.time k ≡ true → k < m.time = λ k y. elim (right_only beside s.time m.time k y) [
        | inl z ↦ lt_of_lt_of_le (low k z) left.later
        | inr z ↦ z.1
      ] in
      let forth = right_forth l r a d parts.0 h.3 parts.1 parts.2 in
      let it = found n (right_of beside s.time m.time) r d.words m low_right left.below_wrote left.below_touched h.4 forth.calm in
      let more = right_more beside s.time m.time in
      let all = right_all beside s.time m.time in (
        it.0,
        elim it.1 [
          | inl y ↦
              let z = (forth.touches it.0).0 y.0 in
              elim ((left.told_wrote (right_of beside s.time m.time) more all it.0).only y.1) [
                | inl w ↦ elim (right_only beside s.time m.time (s.wrote it.0) w) [
                  | inl b ↦ inl (((gathers_by_parts c (touches c)).fork g l r a it.0).1 (inr (inl z)), b)
                  | inr b ↦ absurd (lt_irrefl _ (lt_of_lt_of_le (lw it.0) b.0))
                ]
                | inr w ↦ absurd (parts.2 it.0 w z)
              ]
          | inr y ↦
              let z = (forth.writes it.0).0 y.0 in
              elim ((left.told_touched (right_of beside s.time m.time) more all it.0).only y.1) [
                | inl w ↦ elim (right_only beside s.time m.time (s.touched it.0) w) [
                  | inl b ↦ inr (((gathers_by_parts c c.writes).fork g l r a it.0).1 (inr (inl z)), b)
                  | inr b ↦ absurd (lt_irrefl _ (lt_of_lt_of_le (lt it.0) b.0))
                ]
                | inr w ↦ absurd (parts.3 it.0 z w)
              ]
        ],
      )
  found (suc n) beside (Fork g l r) a s low lw lt (inr (inr h)) calm =
      let m = h.0 in
      let v = h.1 in
      let d = h.2 in
      let p = h.3 in
      let parts = ((calm_by_parts c).fork g l r a).0 calm in
      let left = (clean n beside l a s m low lw lt h.4).covers in
      let low_right : (k : ℕ) → right_of beside s.time m.time k ≡ true → k < m.time = λ k y. elim (right_only beside s.time m.time k y) [
        | inl z ↦ lt_of_lt_of_le (low k z) left.later
        | inr z ↦ z.1
      ] in
      let right = (clean n (right_of beside s.time m.time) r d.words m v low_right left.below_wrote left.below_touched h.6).covers in
      let both = covers_fork beside _ _ _ _ s m v left right in
      let it = found n beside (rejoin c g d.outcome p.outcome) p.words v (λ k y. lt_of_lt_of_le (low k y) both.later)
      both.below_wrote both.below_touched h.8 (parts.4 d p h.5 h.7) in (
        it.0,
        elim it.1 [
          | inl y ↦ inl (
            ((gathers_by_parts c (touches c)).fork g l r a it.0).1 (inr (inr (d, p, h.5, h.7, y.0))),
            sym (both.inside_wrote beside (λ k lt z. z) it.0) ∙ y.1,
          )
          | inr y ↦ inr (
            ((gathers_by_parts c c.writes).fork g l r a it.0).1 (inr (inr (d, p, h.5, h.7, y.0))),
            sym (both.inside_touched beside (λ k lt z. z) it.0) ∙ y.1,
          )
        ],
      )
