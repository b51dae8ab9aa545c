-- A tree that advances has something to do, and the changes of skeletons leave it advancing.
use Rattle.std.proofs.Common.{◌≡◌, ◌⊎◌, ℕ, ◌==◌, Bool, true, false, cond, inl, inr, refl, arith}
use Rattle.std.proofs.lemmas.Bool.{cond-true, eq-eqb}
use Rattle.ppm_frames.specs.Skeletons.{Stand, Who, InPlace, Fresh, Waiting, Held, Came, Inlined, Skeleton, Leaf, Calling, Forking}
use Rattle.ppm_frames.specs.Skeletons.{is_at, holds, grow_leaf, grow, back, joined, over_left, readied, pushed, roused, awake, take_in}
use Rattle.ppm_frames.specs.Skeletons.{Around, Top, AtCall, AtLeft, AtRight, plug}
use Rattle.ppm_kept.specs.Unruns.{IsLeafOf}
use Rattle.ppm_advance.specs.Advance.{IsPaused, Advances, HasReady, AdvancingAreReady, AllAdvance, AllAdvanceThere}

-- A place's leaf is one strand at that place. What a part has ready the whole tree has.
own : (p : ℕ) → is_at p (InPlace p) ≡ 1
own p = cond-true {A = ℕ} (p == p) 1 0 (eq-eqb p p refl)

in_left : (f n y r : ℕ) (a b : Skeleton) → HasReady a → HasReady (Forking f n y r a b)
in_left f n y r a b (inl s) = let le = s.1 in inl (s.0, omega (arith, le))
in_left f n y r a b (inr s) = inr (inr (inl s))

in_right : (f n y r : ℕ) (a b : Skeleton) → HasReady b → HasReady (Forking f n y r a b)
in_right f n y r a b (inl s) = let le = s.1 in inl (s.0, omega (arith, le))
in_right f n y r a b (inr s) = inr (inr (inr s))

in_call : (f n y : ℕ) (t : Skeleton) → HasReady t → HasReady (Calling f n y t)
in_call f n y t (inl s) = inl s
in_call f n y t (inr s) = inr s

pub ready : AdvancingAreReady
ready (Leaf (InPlace p) st f n) a = let one = own p in inl (p, omega (arith, one))
ready (Leaf Fresh st f n) a = absurd a
ready (Leaf Waiting st f n) a = absurd a
ready (Leaf Held st f n) a = absurd a
ready (Leaf Came st f n) a = absurd a
ready (Leaf Inlined st f n) a = absurd a
ready (Calling f n y t) a = in_call f n y t (ready t a)
ready (Forking f n y r a b) (inl x) = in_left f n y r a b (ready a x.0)
ready (Forking f n y r a b) (inr (inl x)) = elim x.1 [ inl on ↦ in_right f n y r a b (ready b on) | inr waits ↦ inr (inl waits) ]
ready (Forking f n y r a b) (inr (inr x)) = in_right f n y r a b (ready b x.1)

-- a leaf of no place
abbrev IsOther : Who → Type 0
IsOther w = (q : ℕ) → InPlace q ≡ w → ⊥

fresh : IsOther Fresh
fresh q e = absurd (cc)

waiting : IsOther Waiting
waiting q e = absurd (cc)

held : IsOther Held
held q e = absurd (cc)

came : IsOther Came
came q e = absurd (cc)

passed_on : IsOther Inlined
passed_on q e = absurd (cc)

-- a part that advanced advances still, and a leaf of no place stays what it is
record Keeps (a c : Skeleton) : Type 0 where
  advances : Advances a → Advances c
  leaf : (w : Who) → IsOther w → IsLeafOf w a → IsLeafOf w c

paused_keeps : (a c : Skeleton) → Keeps a c → IsPaused a → IsPaused c
paused_keeps a c t (inl x) = inl (t.leaf Fresh fresh x)
paused_keeps a c t (inr (inl x)) = inr (inl (t.leaf Waiting waiting x))
paused_keeps a c t (inr (inr (inl x))) = inr (inr (inl (t.leaf Held held x)))
paused_keeps a c t (inr (inr (inr x))) = inr (inr (inr (t.leaf Came came x)))

either : (b : Bool) (u v : Skeleton) → Advances u → Advances v → Advances (cond b u v)
either true u v x y = x
either false u v x y = y

fork_keeps : (f n y r : ℕ) (a b c d : Skeleton) → Keeps a c → Keeps b d → Advances (Forking f n y r a b) → Advances (Forking f n y r c d)
fork_keeps f n y r a b c d l g (inl x) = inl (l.advances x.0, elim x.1 [ inl on ↦ inl (g.advances on) | inr paused ↦ inr (paused_keeps b d g paused) ])
fork_keeps f n y r a b c d l g (inr (inl x)) =
    inr (inl (l.leaf Came came x.0, elim x.1 [ inl on ↦ inl (g.advances on) | inr waits ↦ inr (g.leaf Waiting waiting waits) ]))
fork_keeps f n y r a b c d l g (inr (inr x)) = inr (inr (l.leaf Inlined passed_on x.0, g.advances x.1))

-- the strand of a place goes on as something that advances
module _ (p : ℕ) (u : Stand → ℕ → ℕ → Skeleton) (all : (st : Stand) (f n : ℕ) → Advances (u st f n)) where
  grow_leaf_advances : (w : Who) (st : Stand) (f n : ℕ) → Advances (Leaf w st f n) → Advances (grow_leaf p u w st f n)
  grow_leaf_advances (InPlace q) st f n a = either (q == p) (u st f n) (Leaf (InPlace q) st f n) (all st f n) a
  grow_leaf_advances Fresh st f n a = absurd a
  grow_leaf_advances Waiting st f n a = absurd a
  grow_leaf_advances Held st f n a = absurd a
  grow_leaf_advances Came st f n a = absurd a
  grow_leaf_advances Inlined st f n a = absurd a

  grow_other : (t : Skeleton) (w : Who) → IsOther w → IsLeafOf w t → IsLeafOf w (grow p u t)
  grow_other (Leaf (InPlace q) st f n) w o e = absurd (o q e)
  grow_other (Leaf Fresh st f n) w o e = e
  grow_other (Leaf Waiting st f n) w o e = e
  grow_other (Leaf Held st f n) w o e = e
  grow_other (Leaf Came st f n) w o e = e
  grow_other (Leaf Inlined st f n) w o e = e
  grow_other (Calling f n y t) w o e = e
  grow_other (Forking f n y r a b) w o e = e

  grow_advances : (t : Skeleton) → Advances t → Advances (grow p u t)
  grow_advances (Leaf w st f n) a = grow_leaf_advances w st f n a
  grow_advances (Calling f n y t) a = grow_advances t a
  grow_advances (Forking f n y r a b) x =
      fork_keeps f n y r a b (grow p u a) (grow p u b) (record { advances = grow_advances a; leaf = grow_other a })
      (record { advances = grow_advances b; leaf = grow_other b }) x

-- a frame that waited for a callee, or for its branches, goes on at the place
module _ (p : ℕ) (k : ℕ → Stand) where
  back_other : (t : Skeleton) (w : Who) → IsOther w → IsLeafOf w t → IsLeafOf w (back p k t)
  back_other (Leaf v st f n) w o e = e
  back_other (Calling f n y t) w o e = absurd e
  back_other (Forking f n y r a b) w o e = e

  back_advances : (t : Skeleton) → Advances t → Advances (back p k t)
  back_advances (Leaf w st f n) a = a
  back_advances (Calling f n y t) a = either (holds p t) (Leaf (InPlace p) (k y) f n) (Calling f n y (back p k t)) tt (back_advances t a)
  back_advances (Forking f n y r a b) x =
      fork_keeps f n y r a b (back p k a) (back p k b) (record { advances = back_advances a; leaf = back_other a })
      (record { advances = back_advances b; leaf = back_other b }) x

  joined_other : (t : Skeleton) (w : Who) → IsOther w → IsLeafOf w t → IsLeafOf w (joined p k t)
  joined_other (Leaf v st f n) w o e = e
  joined_other (Calling f n y t) w o e = e
  joined_other (Forking f n y r a b) w o e = absurd e

  joined_advances : (t : Skeleton) → Advances t → Advances (joined p k t)
  joined_advances (Leaf w st f n) a = a
  joined_advances (Calling f n y t) a = joined_advances t a
  joined_advances (Forking f n y r a b) x =
      either (holds p a) (Leaf (InPlace p) (k y) f n) (cond (holds p b) (Leaf (InPlace p) (k y) f n) (Forking f n y r (joined p k a) (joined p k b))) tt
      (either (holds p b) (Leaf (InPlace p) (k y) f n) (Forking f n y r (joined p k a) (joined p k b)) tt
      (fork_keeps f n y r a b (joined p k a) (joined p k b) (record { advances = joined_advances a; leaf = joined_other a })
      (record { advances = joined_advances b; leaf = joined_other b }) x))

-- a fork is pushed: its right branch waits, or is held
module _ (w : Who) (so : (w ≡ Waiting) ⊎ (w ≡ Held)) where
  readied_paused : (b : Skeleton) → IsPaused b → IsPaused (readied w b)
  readied_paused (Leaf Fresh st f n) x = elim so [ inl e ↦ inr (inl e) | inr e ↦ inr (inr (inl e)) ]
  readied_paused (Leaf (InPlace q) st f n) x = x
  readied_paused (Leaf Waiting st f n) x = x
  readied_paused (Leaf Held st f n) x = x
  readied_paused (Leaf Came st f n) x = x
  readied_paused (Leaf Inlined st f n) x = x
  readied_paused (Calling f n y t) x = x
  readied_paused (Forking f n y r a b) x = x

  readied_advances : (b : Skeleton) → Advances b → Advances (readied w b)
  readied_advances (Leaf Fresh st f n) x = absurd x
  readied_advances (Leaf (InPlace q) st f n) x = x
  readied_advances (Leaf Waiting st f n) x = x
  readied_advances (Leaf Held st f n) x = x
  readied_advances (Leaf Came st f n) x = x
  readied_advances (Leaf Inlined st f n) x = x
  readied_advances (Calling f n y t) x = x
  readied_advances (Forking f n y r a b) x = x

  readied_waits : (b : Skeleton) → IsLeafOf Waiting b → IsLeafOf Waiting (readied w b)
  readied_waits (Leaf Fresh st f n) x = absurd (cc)
  readied_waits (Leaf (InPlace q) st f n) x = x
  readied_waits (Leaf Waiting st f n) x = x
  readied_waits (Leaf Held st f n) x = x
  readied_waits (Leaf Came st f n) x = x
  readied_waits (Leaf Inlined st f n) x = x
  readied_waits (Calling f n y t) x = x
  readied_waits (Forking f n y r a b) x = x

  pushed_advances : (f n y r : ℕ) (a b : Skeleton) → Advances (Forking f n y r a b) → Advances (pushed w f n y r a b)
  pushed_advances f n y r a b (inl x) = inl (x.0, elim x.1 [ inl on ↦ inl (readied_advances b on) | inr paused ↦ inr (readied_paused b paused) ])
  pushed_advances f n y r a b (inr (inl x)) = inr (inl (x.0, elim x.1 [ inl on ↦ inl (readied_advances b on) | inr waits ↦ inr (readied_waits b waits) ]))
  pushed_advances f n y r a b (inr (inr x)) = inr (inr (x.0, readied_advances b x.1))

  over_other : (p : ℕ) (t : Skeleton) (v : Who) → IsOther v → IsLeafOf v t → IsLeafOf v (over_left p (pushed w) t)
  over_other p (Leaf u st f n) v o e = e
  over_other p (Calling f n y t) v o e = e
  over_other p (Forking f n y r a b) v o e = absurd e

  over_advances : (p : ℕ) (t : Skeleton) → Advances t → Advances (over_left p (pushed w) t)
  over_advances p (Leaf v st f n) a = a
  over_advances p (Calling f n y t) a = over_advances p t a
  over_advances p (Forking f n y r a b) x =
      either (holds p a) (pushed w f n y r a b) (Forking f n y r (over_left p (pushed w) a) (over_left p (pushed w) b)) (pushed_advances f n y r a b x)
      (fork_keeps f n y r a b (over_left p (pushed w) a) (over_left p (pushed w) b) (record { advances = over_advances p a; leaf = over_other p a })
      (record { advances = over_advances p b; leaf = over_other p b }) x)

-- a place takes a branch that waits
module _ (p : ℕ) where
  awake_waits : (b : Skeleton) → IsLeafOf Waiting b → Advances (awake p b)
  awake_waits (Leaf Waiting st f n) x = tt
  awake_waits (Leaf (InPlace q) st f n) x = tt
  awake_waits (Leaf Fresh st f n) x = absurd (cc)
  awake_waits (Leaf Held st f n) x = absurd (cc)
  awake_waits (Leaf Came st f n) x = absurd (cc)
  awake_waits (Leaf Inlined st f n) x = absurd (cc)
  awake_waits (Calling f n y t) x = absurd x
  awake_waits (Forking f n y r a b) x = absurd x

  awake_advances : (b : Skeleton) → Advances b → Advances (awake p b)
  awake_advances (Leaf Waiting st f n) x = absurd x
  awake_advances (Leaf (InPlace q) st f n) x = x
  awake_advances (Leaf Fresh st f n) x = x
  awake_advances (Leaf Held st f n) x = x
  awake_advances (Leaf Came st f n) x = x
  awake_advances (Leaf Inlined st f n) x = x
  awake_advances (Calling f n y t) x = x
  awake_advances (Forking f n y r a b) x = x

  awake_paused : (b : Skeleton) → IsPaused b → Advances (awake p b) ⊎ IsPaused (awake p b)
  awake_paused (Leaf Waiting st f n) x = inl tt
  awake_paused (Leaf (InPlace q) st f n) x = inr x
  awake_paused (Leaf Fresh st f n) x = inr x
  awake_paused (Leaf Held st f n) x = inr x
  awake_paused (Leaf Came st f n) x = inr x
  awake_paused (Leaf Inlined st f n) x = inr x
  awake_paused (Calling f n y t) x = inr x
  awake_paused (Forking f n y r a b) x = inr x

  awake_fork : (f n y r : ℕ) (a b : Skeleton) → Advances (Forking f n y r a b) → Advances (Forking f n y r a (awake p b))
  awake_fork f n y r a b (inl x) = inl (x.0, elim x.1 [ inl on ↦ inl (awake_advances b on) | inr paused ↦ awake_paused b paused ])
  awake_fork f n y r a b (inr (inl x)) = inr (inl (x.0, elim x.1 [ inl on ↦ inl (awake_advances b on) | inr waits ↦ inl (awake_waits b waits) ]))
  awake_fork f n y r a b (inr (inr x)) = inr (inr (x.0, awake_advances b x.1))

  take_other : (r : ℕ) (t : Skeleton) (w : Who) → IsOther w → IsLeafOf w t → IsLeafOf w (take_in r p t)
  take_other r (Leaf v st f n) w o e = e
  take_other r (Calling f n y t) w o e = e
  take_other r (Forking f n y q a b) w o e = absurd e

  take_advances : (r : ℕ) (t : Skeleton) → Advances t → Advances (take_in r p t)
  take_advances r (Leaf w st f n) a = a
  take_advances r (Calling f n y t) a = take_advances r t a
  take_advances r (Forking f n y q a b) x =
      either (q == r) (Forking f n y q a (awake p b)) (Forking f n y q (take_in r p a) (take_in r p b)) (awake_fork f n y q a b x)
      (fork_keeps f n y q a b (take_in r p a) (take_in r p b) (record { advances = take_advances r a; leaf = take_other r a })
      (record { advances = take_advances r b; leaf = take_other r b }) x)

pub all_stay : AllAdvance
all_stay p t a = record {
  grows = λ u all. grow_advances p u all t a;
  returns = λ k. back_advances p k t a;
  joins = λ k. joined_advances p k t a;
  pushes = λ w so. over_advances w so p t a;
  takes = λ r. take_advances p r t a;
}

-- a part that is no such leaf may be swapped for another that advances where it did
abbrev Goes : Skeleton → Type 0
Goes t = (w : Who) → IsOther w → IsLeafOf w t → ⊥

goes_plug : (c : Around) (u : Skeleton) → Goes u → Goes (plug c u)
goes_plug Top u g w o e = g w o e
goes_plug (AtCall f n y c) u g w o e = e
goes_plug (AtLeft f n y r c b) u g w o e = e
goes_plug (AtRight f n y r a c) u g w o e = e

no_pause : (t : Skeleton) → Goes t → IsPaused t → ⊥
no_pause t g (inl x) = g Fresh fresh x
no_pause t g (inr (inl x)) = g Waiting waiting x
no_pause t g (inr (inr (inl x))) = g Held held x
no_pause t g (inr (inr (inr x))) = g Came came x

swap : (c : Around) (u v : Skeleton) → Goes u → (Advances u → Advances v) → Advances (plug c u) → Advances (plug c v)
swap Top u v g on a = on a
swap (AtCall f n y c) u v g on a = swap c u v g on a
swap (AtLeft f n y r c b) u v g on (inl x) = inl (swap c u v g on x.0, x.1)
swap (AtLeft f n y r c b) u v g on (inr (inl x)) = absurd (goes_plug c u g Came came x.0)
swap (AtLeft f n y r c b) u v g on (inr (inr x)) = absurd (goes_plug c u g Inlined passed_on x.0)
swap (AtRight f n y r a c) u v g on (inl x) = inl (
  x.0,
  elim x.1 [
    | inl advances ↦ inl (swap c u v g on advances)
    | inr paused ↦ absurd (no_pause (plug c u) (goes_plug c u g) paused)
  ],
)
swap (AtRight f n y r a c) u v g on (inr (inl x)) = inr (inl (
  x.0,
  elim x.1 [
    | inl advances ↦ inl (swap c u v g on advances)
    | inr waits ↦ absurd (goes_plug c u g Waiting waiting waits)
  ],
))
swap (AtRight f n y r a c) u v g on (inr (inr x)) = inr (inr (x.0, swap c u v g on x.1))

-- at the fork of a place's branch
module _ (p f n y r : ℕ) (st : Stand) (g m : ℕ) (b : Skeleton) where
  came_left_on : (IsLeafOf Fresh b → ⊥) → (IsLeafOf Held b → ⊥) → (IsLeafOf Came b → ⊥)
      → Advances (Forking f n y r (Leaf (InPlace p) st g m) b) → Advances (Forking f n y r (Leaf Came st g m) b)
  came_left_on nf nh nc (inl x) = elim x.1 [
    | inl on ↦ inr (inl (refl, inl on))
    | inr paused ↦ elim paused [
      | inl e ↦ absurd (nf e)
      | inr more ↦ elim more [ inl e ↦ inr (inl (refl, inr e)) | inr last ↦ elim last [ inl e ↦ absurd (nh e) | inr e ↦ absurd (nc e) ] ]
    ]
  ]
  came_left_on nf nh nc (inr (inl x)) = absurd (let e = x.0 in cc)
  came_left_on nf nh nc (inr (inr x)) = absurd (let e = x.0 in cc)

  came_right_on : (IsLeafOf Came b → ⊥) → (IsLeafOf Inlined b → ⊥)
      → Advances (Forking f n y r b (Leaf (InPlace p) st g m)) → Advances (Forking f n y r b (Leaf Came st g m))
  came_right_on nc ni (inl x) = inl (x.0, inr (inr (inr (inr refl))))
  came_right_on nc ni (inr (inl x)) = absurd (nc x.0)
  came_right_on nc ni (inr (inr x)) = absurd (ni x.0)

roused_advances : (p : ℕ) (b : Skeleton) → IsLeafOf Held b → Advances (roused p b)
roused_advances p (Leaf Held st f n) x = tt
roused_advances p (Leaf (InPlace q) st f n) x = tt
roused_advances p (Leaf Fresh st f n) x = absurd (cc)
roused_advances p (Leaf Waiting st f n) x = absurd (cc)
roused_advances p (Leaf Came st f n) x = absurd (cc)
roused_advances p (Leaf Inlined st f n) x = absurd (cc)
roused_advances p (Calling f n y t) x = absurd x
roused_advances p (Forking f n y r a b) x = absurd x

pub all_there : AllAdvanceThere
all_there p c f n y r st g m b = record {
  came_left = λ nf nh nc a. swap c _ _ (λ w o e. e) (came_left_on p f n y r st g m b nf nh nc) a;
  came_right = λ nc ni a. swap c _ _ (λ w o e. e) (came_right_on p f n y r st g m b nc ni) a;
  inlines = λ is a. swap c _ _ (λ w o e. e) (λ x. inr (inr (refl, roused_advances p b is))) a;
}
