-- Faults are invisible: by induction on the history a strand has one without faults beside it (`BesideLemmas`). That what is settled stands is asked
-- of the history before the deed, which is that of a run without faults.
use Rattle.std.proofs.Common.{◌≡◌, ℕ, List, [], ◌∷◌, inl, inr, refl, sym, ap, ◌∙◌}
use Rattle.std.proofs.lemmas.Bool.{false_from_ne_true, true≢false}
use Rattle.std.specs.Prelude.{Option, Some, None}
use Rattle.ppm_strands.specs.Strand.{Frame}
use Rattle.ppm_unseen.specs.Capsule.{Loads, Keeps, Reads, Changes, Ends}
use Rattle.ppm_unseen.specs.Run.{System, Deed, doer, State, NotYet, UnderWay, Waits, IsOver, Change, AllStill}
use Rattle.ppm_unseen.specs.Run.{now, numbered, begun, begun_if_any, forked_by, once_done, passed, settled, IsHistory}
use Rattle.ppm_unseen.specs.Run.{Comes, Begins, Others, Goes, Does, Unseen, Takes, Stores, Finds, Leaves, Opens, Joins, Faults, Alters, Splits, Finishes}
use Rattle.ppm_unseen.specs.Conditions.{IsFilled, AreOrdered, AreFilled, Stands}
use Rattle.ppm_unseen.specs.Correct.{IsBetween, FaultsAreInvisible, FaultsAreInvisibleSo}
use Rattle.ppm_unseen.proofs.OwnLemmas.{AreSameOff, store_same_off}
use Rattle.ppm_unseen.proofs.WayLemmas.{onto}
use Rattle.ppm_unseen.proofs.BesideLemmas.{Quiet, Faulty, Made, Beside}
use Rattle.ppm_unseen.proofs.BesideLemmas.{takes_early, takes_late, stores_early, stores_late, finds_early, finds_late, leaves_early, alters_early}
use Rattle.ppm_unseen.proofs.ReplayLemmas.{replay_takes, replay_stores, replay_finds, replay_leaves, replay_alters, again, end_of, others_made}

module _ {A K E O : Type 0} (s : System A K E O) (me : ℕ) (ordered : AreOrdered s) (filled : AreFilled s) where
  -- a capsule that begins
  begins : {t : List (Deed A K O)} (f : Frame A K) (run : Quiet s me t (begun s f)) → passed run ≡ [] → settled run ≡ []
      → Beside s me t (begun s f)
  begins {t = t} f run none unsettled =
      let all : IsFilled (s.code.builds f.point) (s.code.capsule f.point) = filled f.point in
      let fills = all f.own in
      let here : Made s me fills.0 f.own t f.point (s.code.capsule f.point) = record {
        q = f.own;
        w = [];
        run = run;
        made = λ h hh. (0, (refl, ap (λ (ks : List Change). onto ks []) none, refl, λ x i. absurd i));
        inputs = λ x i. refl;
        fills = fills.1;
        ordered = ordered f.point;
      } in (
        record { out = fills.0; o = f.own; rest = s.code.capsule f.point; at = here; same = none ∙ sym unsettled; built = fills.2 },
        (λ x i. refl, inr (inl (record { at = here; agree = λ x i. refl }))),
      )

  -- or a strand that is not forked yet
  begins_if_any : {t : List (Deed A K O)} (f : Option (Frame A K)) (run : Quiet s me t (begun_if_any s f)) → passed run ≡ [] → settled run ≡ []
      → Beside s me t (begun_if_any s f)
  begins_if_any None run none unsettled = record { run = run; none = none; unsettled = unsettled }
  begins_if_any (Some f) run none unsettled = begins f run none unsettled

  -- others do something meanwhile
  others : (t : List (Deed A K O)) (d : Deed A K O) → (doer d ≡ me → ⊥) → (σ : State A K E) → Beside s me t σ
      → Beside s me (d ∷ t) (once_done s me t d σ)
  others t d ne NotYet so = begins_if_any (forked_by s t d me) (Others d ne so.run) so.none so.unsettled
  others t d ne (Waits g n fs) so = Others d ne so
  others t d ne IsOver so = Others d ne so
  others t d ne (UnderWay k rest f) so = (
    record { out = so.0.out; o = so.0.o; rest = so.0.rest; at = others_made s me so.0.out so.0.o d ne so.0.at; same = so.0.same; built = so.0.built },
    (
      so.1.0,
      elim so.1.1 [
        | inl r ↦ inl (record { n = r.n; w = r.w; to_do = r.to_do; goes = r.goes; still = r.still })
        | inr e ↦ elim e [
          | inl e ↦ inr (inl (record { at = others_made s me so.0.out so.0.o d ne e.at; agree = e.agree }))
          | inr l ↦ inr (inr (record {
            q = l.q;
            w = l.w;
            run = Others d ne l.run;
            agree = l.agree;
            inputs = l.inputs;
            fills = l.fills;
            none = l.none;
          }))
        ]
      ],
    ),
  )

  -- what is settled stands after the histories of M
  abbrev StandsIn : (List (Deed A K O) → Type 0) → Type 0
  StandsIn M = (t : List (Deed A K O)) (σ : State A K E) (h : Quiet s me t σ) → M t → AllStill (now s t) (settled h)

  -- the histories before the last deed are of M
  abbrev Before : (List (Deed A K O) → Type 0) → List (Deed A K O) → Type 0
  Before M [] = Unit {0}
  Before M (d ∷ t) = M t × Before M t

  module _ (M : List (Deed A K O) → Type 0) (stands : StandsIn M) where
    -- a strand with faults has one without beside it
    beside : {t : List (Deed A K O)} {σ : State A K E} → Before M t → Faulty s me t σ → Beside s me t σ
    beside all Begins = begins_if_any (numbered 0 s.start me) Begins refl refl
    beside all (Others {σ = σ} d ne h) = others _ d ne σ (beside all.1 h)
    beside all (Goes h (Takes {o = f} x go)) = let so = beside all h in (
      so.0,
      elim so.1.1 [
        | inl r ↦ replay_takes s me f so.0 x go so.1.0 r.n r.w r.to_do r.goes r.still
        | inr e ↦ elim e [
          | inl e ↦ (so.1.0, inr (inl (takes_early s me so.0.out so.0.o f x go so.1.0 e)))
          | inr l ↦ (so.1.0, inr (inr (takes_late s me so.0.out so.0.o f x go so.1.0 l)))
        ]
      ],
    )
    beside all (Goes h (Stores {o = f} x v rest)) = let so = beside all h in (
      so.0,
      elim so.1.1 [
        | inl r ↦ replay_stores s me f so.0 x v rest so.1.0 r.n r.w r.to_do r.goes r.still
        | inr e ↦ elim e [
          | inl e ↦ (store_same_off s.code.names so.0.out so.0.o f x v e.at.fills.0 so.1.0, inr (inl (stores_early s me so.0.out so.0.o f x v rest e)))
          | inr l ↦ (store_same_off s.code.names so.0.out so.0.o f x v l.fills.0 so.1.0, inr (inr (stores_late s me so.0.out so.0.o f x v rest l)))
        ]
      ],
    )
    beside all (Goes h (Finds {o = f} x go)) = let so = beside all h in (
      so.0,
      (
        so.1.0,
        elim so.1.1 [
          | inl r ↦ inr (inr (replay_finds s me f so.0 x go r.n r.w r.to_do r.goes))
          | inr e ↦ elim e [
            | inl e ↦ inr (inr (finds_early s me so.0.out so.0.o f x go e))
            | inr l ↦ inr (inr (finds_late s me so.0.out so.0.o f x go l))
          ]
        ],
      ),
    )
    beside all (Goes h (Leaves {o = f} x g rest same)) = let so = beside all h in (
      so.0,
      (
        so.1.0,
        elim so.1.1 [
          | inl r ↦ replay_leaves s me f so.0 x g rest same r.n r.w r.to_do r.goes r.still
          | inr e ↦ elim e [
            | inl e ↦ inr (inl (leaves_early s me so.0.out so.0.o f x g rest same e))
            | inr l ↦ absurd l.none
          ]
        ],
      ),
    )
    beside all (Does h (Alters {o = f} x g rest ne)) = let so = beside all.1 h in elim so.1.1 [
      | inl r ↦ replay_alters s me f so.0 x g rest ne so.1.0 r.n r.w r.to_do r.goes (r.still _ (stands _ _ so.0.at.run all.0))
      | inr e ↦ elim e [
        | inl e ↦ alters_early s me so.0.out so.0.o so.0.built f x g rest ne so.1.0 e
        | inr l ↦ absurd l.none
      ]
    ]
    beside all (Goes h (Opens {o = f} e g is)) = begins g (Goes (end_of s me e f (beside all h)) (Opens e g is)) refl refl
    beside all (Does h (Splits {o = f} e fs g is)) = Does (end_of s me e f (beside all.1 h)) (Splits e fs g is)
    beside all (Does h (Finishes {o = f} e outcome is)) = Does (end_of s me e f (beside all.1 h)) (Finishes e outcome is)
    beside all (Goes h (Joins g n fs os over)) = begins (s.code.rejoin g os) (Goes (beside all h) (Joins g n fs os over)) refl refl
    beside all (Goes {t = t} h (Faults {k = k} {o = f} z f' kept)) =
        let so = beside all h in
        let inputs : AreSameOff so.0.out so.0.o f' = λ x off.
        kept x (false_from_ne_true (s.code.builds k x) (λ b. true≢false (sym (so.0.built x b) ∙ off))) ∙ so.1.0 x off in
        (so.0, (inputs, inl (again s me f' so.0 inputs)))

    -- some run without faults has these deeds
    possible_at : {t : List (Deed A K O)} (σ : State A K E) → Beside s me t σ → (τ : State A K E) × Quiet s me t τ
    possible_at NotYet so = (_, so.run)
    possible_at (UnderWay k rest f) so = (_, so.0.at.run)
    possible_at (Waits g n fs) so = (_, so)
    possible_at IsOver so = (_, so)

    pub possible : {t : List (Deed A K O)} {σ : State A K E} → Before M t → Faulty s me t σ → (τ : State A K E) × Quiet s me t τ
    possible {σ = σ} all h = possible_at σ (beside all h)

    -- between capsules the strand is where it is with faults
    between_at : {t : List (Deed A K O)} (σ : State A K E) → IsBetween σ → Beside s me t σ → Quiet s me t σ
    between_at NotYet b so = so.run
    between_at (UnderWay k (Loads x go) f) b so = absurd b
    between_at (UnderWay k (Keeps x v rest) f) b so = absurd b
    between_at (UnderWay k (Reads x go) f) b so = absurd b
    between_at (UnderWay k (Changes x g rest) f) b so = absurd b
    between_at (UnderWay k (Ends e) f) b so = end_of s me e f so
    between_at (Waits g n fs) b so = so
    between_at IsOver b so = so

    pub between : {t : List (Deed A K O)} (σ : State A K E) → IsBetween σ → Before M t → Faulty s me t σ → Quiet s me t σ
    between σ b all h = between_at σ b (beside all h)

module _ {A K E O : Type 0} (s : System A K E O) where
  -- a run up to its last deed
  abbrev Cut : (faults : Type 0) → ℕ → List (Deed A K O) → Type 0
  Cut faults me [] = Unit {0}
  Cut faults me (d ∷ t) = (σ : State A K E) × Comes s faults me t σ

  cut : {faults : Type 0} {me : ℕ} {t : List (Deed A K O)} {σ : State A K E} → Comes s faults me t σ → Cut faults me t
  cut Begins = tt
  cut (Others d ne h) = (_, h)
  cut (Goes h u) = cut h
  cut (Does h u) = (_, h)

  -- a history up to its last deed is one
  pub history_before : {faults : Type 0} (d : Deed A K O) (t : List (Deed A K O)) → IsHistory s faults (d ∷ t) → IsHistory s faults t
  history_before d t all i = cut (all i).1

  -- a run without faults is one with faults, of which it has none
  faultless_step : {t : List (Deed A K O)} {σ τ : State A K E} → Unseen s ⊥ t σ τ → Unseen s (Unit {0}) t σ τ
  faultless_step (Takes x go) = Takes x go
  faultless_step (Stores x v rest) = Stores x v rest
  faultless_step (Finds x go) = Finds x go
  faultless_step (Leaves x g rest same) = Leaves x g rest same
  faultless_step (Opens e f is) = Opens e f is
  faultless_step (Joins g n fs os over) = Joins g n fs os over
  faultless_step (Faults z o' kept) = absurd z

  faultless : {me : ℕ} {t : List (Deed A K O)} {σ : State A K E} → Comes s ⊥ me t σ → Comes s (Unit {0}) me t σ
  faultless Begins = Begins
  faultless (Others d ne h) = Others d ne (faultless h)
  faultless (Goes h u) = Goes (faultless h) (faultless_step u)
  faultless (Does h u) = Does (faultless h) u

  module _ (ordered : AreOrdered s) (filled : AreFilled s) (stands : Stands s) where
    -- each history before the last deed of a run with faults is one of a run without
    before : (t : List (Deed A K O)) → IsHistory s (Unit {0}) t → (i : ℕ) → Before s i ordered filled (IsHistory s ⊥) t
    before [] all i = tt
    before (d ∷ t) all i =
        let one = history_before d t all in
        ((λ j. possible s j ordered filled (IsHistory s ⊥) (λ u σ h m. stands j u σ h m) (before t one j) (one j).1), before t one i)

    invisible : FaultsAreInvisible s
    invisible = record {
      histories = λ t. (
        λ all i. possible s i ordered filled (IsHistory s ⊥) (λ u σ h m. stands i u σ h m) (before t all i) (all i).1,
        λ all i. ((all i).0, faultless (all i).1),
      );
      strands = λ t all i σ b h. between s i ordered filled (IsHistory s ⊥) (λ u τ g m. stands i u τ g m) σ b (before t all i) h;
    }

-- the law
pub faults_are_invisible : {A K E O : Type 0} (s : System A K E O) → FaultsAreInvisibleSo s
faults_are_invisible s ordered filled stands = invisible s ordered filled stands
