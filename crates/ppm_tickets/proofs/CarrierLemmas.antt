-- Which branches the words show, before and after one change.
use Rattle.std.proofs.Common.{◌+◌, ◌≡◌, ◌≢◌, ◌⊎◌, ◌-◌, ℕ, Bool, inl, inr, refl, sym, ap, ◌∙◌, subst, subst₂}
use Rattle.std.proofs.lemmas.Bool.{cases_eq}
use Rattle.ppm_cells.specs.declared.restart.RestartKind.{RestartKind}
use Rattle.ppm_cells.specs.declared.restart.RestartKind.TheVariants.{Steal, Check}
use Rattle.ppm_tickets.specs.Words.{Word, Job, Taken, Spot, Message, Slot, put, write}
use Rattle.ppm_tickets.specs.Homes.{Home, Unborn, Pushing, Listed, Popping, Stolen, Inline, Begun}
use Rattle.ppm_tickets.specs.Lawful.{IsTaken, IsThief, Pushes, Pops, Wins, Steals, Carries, IsCarrier, Stays, Board, Deque}
use Rattle.ppm_tickets.proofs.WriteLemmas.{put_here, put_else, write_here, write_else, same_spot_or}

abbrev pub Sort : Type 1
Sort = Home → ℕ → Type 0

abbrev pub Is : ℕ → Home → Sort
Is r x z q = (z ≡ x) × (q ≡ r)

abbrev pub None : Sort
None z q = ⊥

-- what the words and kinds show after a change is what they showed before, but for these
pub record Change (m n : Spot → Word) (k l : ℕ → RestartKind) (b c : ℕ → ℕ) (E D : Sort) : Type 0 where
  pub to : (z : Home) (q : ℕ) → Carries m k b z q → E z q ⊎ Carries n l c z q
  pub from : (z : Home) (q : ℕ) → IsCarrier z → Carries n l c z q → D z q ⊎ Carries m k b z q

right : {A : Type 0} → ⊥ ⊎ A → A
right (inl e) = absurd e
right (inr a) = a

right_as : {A B C : Type 0} → (B → C) → A ⊎ B → A ⊎ C
right_as f (inl a) = inl a
right_as f (inr b) = inr (f b)

-- nothing moves
pub keeps : {m n : Spot → Word} {k l : ℕ → RestartKind} {b c : ℕ → ℕ} {gone : ℕ → Bool} {h : ℕ → Home} → Board m k b gone h → Change m n k l b c None None
    → ((v : ℕ) → Deque (l v) (c v) (λ i. n (Slot v i))) → Board n l c gone h
keeps {h = h} old ch d = record {
  deque = d;
  real = λ r. right (ch.to (h r) r (old.real r));
  stays = old.stays;
  only = λ z r is st s. old.only z r is st (right (ch.from z r is s));
}

-- one branch moves
pub moves : {m n : Spot → Word} {k l : ℕ → RestartKind} {b c : ℕ → ℕ} {gone : ℕ → Bool} {h : ℕ → Home} (r : ℕ) (x y : Home) → Board m k b gone h → Change m n k l b c (Is r x) (Is r y)
    → h r ≡ x → (IsCarrier x → Carries n l c x r → ⊥) → Carries n l c y r → Stays gone y
    → ((v : ℕ) → Deque (l v) (c v) (λ i. n (Slot v i))) → Board n l c gone (put h r y)
moves {m} {n} {k} {l} {b} {c} {gone} {h} r x y old ch was left come at d = record { deque = d; real = real; stays = stays; only = only }
  where
    real : (q : ℕ) → Carries n l c (put h r y q) q
    real q = elim (cases_eq q r) [
      | inl e ↦ subst (λ (j : ℕ). Carries n l c (put h r y j) j) (sym e) (subst (λ (z : Home). Carries n l c z r) (sym (put_here h r y)) come)
      | inr ne ↦ subst (λ (z : Home). Carries n l c z q) (sym (put_else h r y q ne)) (elim (ch.to (h q) q (old.real q)) [ inl a ↦ absurd (ne a.1) | inr s ↦ s ])
    ]

    stays : (q : ℕ) → Stays gone (put h r y q)
    stays q = elim (cases_eq q r) [
      | inl e ↦ subst (Stays gone) (sym (ap (put h r y) e ∙ put_here h r y)) at
      | inr ne ↦ subst (Stays gone) (sym (put_else h r y q ne)) (old.stays q)
    ]

    only : (z : Home) (q : ℕ) → IsCarrier z → Stays gone z → Carries n l c z q → put h r y q ≡ z
    only z q is st s = elim (ch.from z q is s) [
      | inl a ↦ ap (put h r y) a.1 ∙ put_here h r y ∙ sym a.0
      | inr t ↦ elim (cases_eq q r) [
        | inl e ↦
            let z_is : z ≡ x = sym (old.only z q is st t) ∙ ap h e ∙ was in
            absurd (left (subst IsCarrier z_is is) (subst (λ (j : ℕ). Carries n l c x j) e (subst (λ (w : Home). Carries n l c w q) z_is s)))
        | inr ne ↦ put_else h r y q ne ∙ old.only z q is st t
      ]
    ]

-- one branch is handed over: it is still where it was by the words, but nothing there counts
pub handed : {m : Spot → Word} {k l : ℕ → RestartKind} {b c : ℕ → ℕ} {gone marked : ℕ → Bool} {h : ℕ → Home} (r : ℕ) (x y : Home) → Board m k b gone h → Change m m k l b c None (Is r y)
    → h r ≡ x → (Stays marked x → ⊥) → Carries m l c y r → Stays marked y → ((z : Home) → Stays marked z → Stays gone z) → ((q : ℕ) → q ≢ r → Stays marked (h q))
    → ((v : ℕ) → Deque (l v) (c v) (λ i. m (Slot v i))) → Board m l c marked (put h r y)
handed {m} {k} {l} {b} {c} {gone} {marked} {h} r x y old ch was left come at less stay d = record { deque = d; real = real; stays = stays; only = only }
  where
    real : (q : ℕ) → Carries m l c (put h r y q) q
    real q = elim (cases_eq q r) [
      | inl e ↦ subst (λ (j : ℕ). Carries m l c (put h r y j) j) (sym e) (subst (λ (z : Home). Carries m l c z r) (sym (put_here h r y)) come)
      | inr ne ↦ subst (λ (z : Home). Carries m l c z q) (sym (put_else h r y q ne)) (right (ch.to (h q) q (old.real q)))
    ]

    stays : (q : ℕ) → Stays marked (put h r y q)
    stays q = elim (cases_eq q r) [
      | inl e ↦ subst (Stays marked) (sym (ap (put h r y) e ∙ put_here h r y)) at
      | inr ne ↦ subst (Stays marked) (sym (put_else h r y q ne)) (stay q ne)
    ]

    only : (z : Home) (q : ℕ) → IsCarrier z → Stays marked z → Carries m l c z q → put h r y q ≡ z
    only z q is st s = elim (ch.from z q is s) [
      | inl a ↦ ap (put h r y) a.1 ∙ put_here h r y ∙ sym a.0
      | inr t ↦
          let home : h q ≡ z = old.only z q is (less z st) t in
          elim (cases_eq q r) [
            | inl e ↦ absurd (left (subst (Stays marked) (sym home ∙ ap h e ∙ was) st))
            | inr ne ↦ put_else h r y q ne ∙ home
          ]
    ]

-- more places are followed, where no branch is
pub marking : {m : Spot → Word} {k : ℕ → RestartKind} {b : ℕ → ℕ} {gone marked : ℕ → Bool} {h : ℕ → Home} → Board m k b gone h → ((z : Home) → Stays marked z → Stays gone z) → ((q : ℕ) → Stays marked (h q))
    → Board m k b marked h
marking old less stay = record { deque = old.deque; real = old.real; stays = stay; only = λ z q is st s. old.only z q is (less z st) s }

-- thieves
steals_or : {X : Type 0} (m n : Spot → Word) (p r : ℕ) (k : RestartKind) → ((v i : ℕ) → IsThief k v i → Wins m p v i r → X ⊎ Wins n p v i r) → Steals m p k r → X ⊎ Steals n p k r
steals_or m n p r (Steal v i) f s = f v i (inl refl) s
steals_or m n p r (Check v i) f s = f v i (inr refl) s
steals_or m n p r _ f s = absurd s

-- an entry is written
module _ (m : Spot → Word) (k : ℕ → RestartKind) (b : ℕ → ℕ) (v i : ℕ) (u w : Word) (was : m (Slot v i) ≡ u) where
  abbrev now : Spot → Word
  now = write m (Slot v i) w

  pub record EntryFits (E D : Sort) : Type 0 where
    pub job_to : (t q : ℕ) → u ≡ Job t q → E (Listed v i t) q
    pub job_from : (t q : ℕ) → w ≡ Job t q → D (Listed v i t) q
    pub taken_to : IsTaken u → ⊥
    pub taken_from : (p t q : ℕ) → IsThief (k p) v i → m (Message p) ≡ Job t q → w ≡ Taken (t + 1) p → D (Stolen p) q
    pub push_to : b v ≡ i → (q : ℕ) → Pushes (k v) u q → E (Pushing v) q ⊎ Pushes (k v) w q
    pub push_from : b v ≡ i → (q : ℕ) → Pushes (k v) w q → D (Pushing v) q ⊎ Pushes (k v) u q
    pub pop_to : b v - 1 ≡ i → (q : ℕ) → Pops (k v) u q → E (Popping v) q ⊎ Pops (k v) w q
    pub pop_from : b v - 1 ≡ i → (q : ℕ) → Pops (k v) w q → D (Popping v) q ⊎ Pops (k v) u q

  -- the slot itself, or one that is as it was
  pub slot_or : (v' i' : ℕ) → ((v' ≡ v) × (i' ≡ i) × (m (Slot v' i') ≡ u) × (now (Slot v' i') ≡ w)) ⊎ (now (Slot v' i') ≡ m (Slot v' i'))
  slot_or v' i' = elim (same_spot_or (Slot v' i') (Slot v i)) [
    | inl e ↦ inl (cc, cc, ap m e ∙ was, ap now e ∙ write_here m (Slot v i) w)
    | inr ne ↦ inr (write_else m (Slot v i) w (Slot v' i') ne)
  ]

  message : (p : ℕ) → now (Message p) ≡ m (Message p)
  message p = write_else m (Slot v i) w (Message p) (λ e. cc)

  pub entry_change : (E D : Sort) → EntryFits E D → Change m now k k b b E D
  entry_change E D f = record { to = to; from = from }
    where
      to : (z : Home) (q : ℕ) → Carries m k b z q → E z q ⊎ Carries now k b z q
      to Unborn q s = inr tt
      to (Pushing p) q s = elim (slot_or p (b p)) [
        | inl a ↦ right_as (λ t. subst (λ (x : Word). Pushes (k p) x q) (sym a.3) t)
            (subst (λ (x : ℕ). b x ≡ i → (j : ℕ) → Pushes (k x) u j → E (Pushing x) j ⊎ Pushes (k x) w j) (sym a.0) f.push_to a.1 q (subst (λ (x : Word). Pushes (k p) x q) a.2 s))
        | inr e ↦ inr (subst (λ (x : Word). Pushes (k p) x q) (sym e) s)
      ]
      to (Popping p) q s = elim (slot_or p (b p - 1)) [
        | inl a ↦ right_as (λ t. subst (λ (x : Word). Pops (k p) x q) (sym a.3) t)
            (subst (λ (x : ℕ). b x - 1 ≡ i → (j : ℕ) → Pops (k x) u j → E (Popping x) j ⊎ Pops (k x) w j) (sym a.0) f.pop_to a.1 q (subst (λ (x : Word). Pops (k p) x q) a.2 s))
        | inr e ↦ inr (subst (λ (x : Word). Pops (k p) x q) (sym e) s)
      ]
      to (Listed v' i' t) q s = elim (slot_or v' i') [
        | inl a ↦ inl (subst₂ (λ (x y : ℕ). E (Listed x y t) q) (sym a.0) (sym a.1) (f.job_to t q (sym a.2 ∙ s)))
        | inr e ↦ inr (e ∙ s)
      ]
      to (Stolen p) q s = steals_or m now p q (k p) (λ v' i' is wins. elim (slot_or v' i') [
        | inl a ↦ absurd (f.taken_to (subst IsTaken (sym wins.2 ∙ a.2) tt))
        | inr e ↦ inr (wins.0, message p ∙ wins.1, e ∙ wins.2)
      ]) s
      to Inline q s = inr tt
      to Begun q s = inr tt

      from : (z : Home) (q : ℕ) → IsCarrier z → Carries now k b z q → D z q ⊎ Carries m k b z q
      from Unborn q is s = absurd is
      from (Pushing p) q is s = elim (slot_or p (b p)) [
        | inl a ↦ right_as (λ t. subst (λ (x : Word). Pushes (k p) x q) (sym a.2) t)
            (subst (λ (x : ℕ). b x ≡ i → (j : ℕ) → Pushes (k x) w j → D (Pushing x) j ⊎ Pushes (k x) u j) (sym a.0) f.push_from a.1 q (subst (λ (x : Word). Pushes (k p) x q) a.3 s))
        | inr e ↦ inr (subst (λ (x : Word). Pushes (k p) x q) e s)
      ]
      from (Popping p) q is s = elim (slot_or p (b p - 1)) [
        | inl a ↦ right_as (λ t. subst (λ (x : Word). Pops (k p) x q) (sym a.2) t)
            (subst (λ (x : ℕ). b x - 1 ≡ i → (j : ℕ) → Pops (k x) w j → D (Popping x) j ⊎ Pops (k x) u j) (sym a.0) f.pop_from a.1 q (subst (λ (x : Word). Pops (k p) x q) a.3 s))
        | inr e ↦ inr (subst (λ (x : Word). Pops (k p) x q) e s)
      ]
      from (Listed v' i' t) q is s = elim (slot_or v' i') [
        | inl a ↦ inl (subst₂ (λ (x y : ℕ). D (Listed x y t) q) (sym a.0) (sym a.1) (f.job_from t q (sym a.3 ∙ s)))
        | inr e ↦ inr (sym e ∙ s)
      ]
      from (Stolen p) q is s = steals_or now m p q (k p) (λ v' i' th wins. elim (slot_or v' i') [
        | inl a ↦ inl (f.taken_from p wins.0 q (subst₂ (λ (x y : ℕ). IsThief (k p) x y) a.0 a.1 th) (sym (message p) ∙ wins.1) (sym a.3 ∙ wins.2))
        | inr e ↦ inr (wins.0, sym (message p) ∙ wins.1, sym e ∙ wins.2)
      ]) s
      from Inline q is s = absurd is
      from Begun q is s = absurd is

-- a message or a top is written, by a place that steals nothing
module _ (m : Spot → Word) (k : ℕ → RestartKind) (b : ℕ → ℕ) (c : Spot) (w : Word) (entry : (v i : ℕ) → Slot v i ≢ c) (none : (p q : ℕ) → Message p ≡ c → Steals m p (k p) q → ⊥)
    (nor : (p q : ℕ) → Message p ≡ c → Steals (write m c w) p (k p) q → ⊥) where
  slot : (v i : ℕ) → write m c w (Slot v i) ≡ m (Slot v i)
  slot v i = write_else m c w (Slot v i) (entry v i)

  pub other_change : Change m (write m c w) k k b b None None
  other_change = record { to = to; from = from }
    where
      to : (z : Home) (q : ℕ) → Carries m k b z q → ⊥ ⊎ Carries (write m c w) k b z q
      to Unborn q s = inr tt
      to (Pushing p) q s = inr (subst (λ (x : Word). Pushes (k p) x q) (sym (slot p (b p))) s)
      to (Popping p) q s = inr (subst (λ (x : Word). Pops (k p) x q) (sym (slot p (b p - 1))) s)
      to (Listed v i t) q s = inr (slot v i ∙ s)
      to (Stolen p) q s = elim (same_spot_or (Message p) c) [
        | inl e ↦ absurd (none p q e s)
        | inr ne ↦ steals_or m (write m c w) p q (k p) (λ v i th wins. inr (wins.0, write_else m c w (Message p) ne ∙ wins.1, slot v i ∙ wins.2)) s
      ]
      to Inline q s = inr tt
      to Begun q s = inr tt

      from : (z : Home) (q : ℕ) → IsCarrier z → Carries (write m c w) k b z q → ⊥ ⊎ Carries m k b z q
      from Unborn q is s = absurd is
      from (Pushing p) q is s = inr (subst (λ (x : Word). Pushes (k p) x q) (slot p (b p)) s)
      from (Popping p) q is s = inr (subst (λ (x : Word). Pops (k p) x q) (slot p (b p - 1)) s)
      from (Listed v i t) q is s = inr (sym (slot v i) ∙ s)
      from (Stolen p) q is s = elim (same_spot_or (Message p) c) [
        | inl e ↦ absurd (nor p q e s)
        | inr ne ↦ steals_or (write m c w) m p q (k p) (λ v i th wins. inr (wins.0, sym (write_else m c w (Message p) ne) ∙ wins.1, sym (slot v i) ∙ wins.2)) s
      ]
      from Inline q is s = absurd is
      from Begun q is s = absurd is

-- a restart word is written
module _ (m : Spot → Word) (k : ℕ → RestartKind) (b : ℕ → ℕ) (p : ℕ) (old new : RestartKind) (low : ℕ) (is_old : k p ≡ old) where
  pub record InstallFits (E D : Sort) : Type 0 where
    pub push_to : (q : ℕ) → Pushes old (m (Slot p (b p))) q → E (Pushing p) q ⊎ Pushes new (m (Slot p low)) q
    pub push_from : (q : ℕ) → Pushes new (m (Slot p low)) q → D (Pushing p) q ⊎ Pushes old (m (Slot p (b p))) q
    pub pop_to : (q : ℕ) → Pops old (m (Slot p (b p - 1))) q → E (Popping p) q ⊎ Pops new (m (Slot p (low - 1))) q
    pub pop_from : (q : ℕ) → Pops new (m (Slot p (low - 1))) q → D (Popping p) q ⊎ Pops old (m (Slot p (b p - 1))) q
    pub steal_to : (q : ℕ) → Steals m p old q → E (Stolen p) q ⊎ Steals m p new q
    pub steal_from : (q : ℕ) → Steals m p new q → D (Stolen p) q ⊎ Steals m p old q

  pub install_change : (E D : Sort) → InstallFits E D → Change m m k (put k p new) b (put b p low) E D
  install_change E D f = record { to = to; from = from }
    where
      to : (z : Home) (q : ℕ) → Carries m k b z q → E z q ⊎ Carries m (put k p new) (put b p low) z q
      to Unborn q s = inr tt
      to (Pushing c) q s = elim (cases_eq c p) [
        | inl e ↦ subst (λ (x : ℕ). E (Pushing x) q ⊎ Pushes (put k p new x) (m (Slot x (put b p low x))) q) (sym e)
            (subst₂ (λ (x : RestartKind) (y : ℕ). E (Pushing p) q ⊎ Pushes x (m (Slot p y)) q) (sym (put_here k p new)) (sym (put_here b p low))
            (f.push_to q (subst (λ (x : RestartKind). Pushes x (m (Slot p (b p))) q) is_old (subst (λ (x : ℕ). Pushes (k x) (m (Slot x (b x))) q) e s))))
        | inr ne ↦ inr (subst₂ (λ (x : RestartKind) (y : ℕ). Pushes x (m (Slot c y)) q) (sym (put_else k p new c ne)) (sym (put_else b p low c ne)) s)
      ]
      to (Popping c) q s = elim (cases_eq c p) [
        | inl e ↦ subst (λ (x : ℕ). E (Popping x) q ⊎ Pops (put k p new x) (m (Slot x (put b p low x - 1))) q) (sym e)
            (subst₂ (λ (x : RestartKind) (y : ℕ). E (Popping p) q ⊎ Pops x (m (Slot p (y - 1))) q) (sym (put_here k p new)) (sym (put_here b p low))
            (f.pop_to q (subst (λ (x : RestartKind). Pops x (m (Slot p (b p - 1))) q) is_old (subst (λ (x : ℕ). Pops (k x) (m (Slot x (b x - 1))) q) e s))))
        | inr ne ↦ inr (subst₂ (λ (x : RestartKind) (y : ℕ). Pops x (m (Slot c (y - 1))) q) (sym (put_else k p new c ne)) (sym (put_else b p low c ne)) s)
      ]
      to (Listed v i t) q s = inr s
      to (Stolen c) q s = elim (cases_eq c p) [
        | inl e ↦ subst (λ (x : ℕ). E (Stolen x) q ⊎ Steals m x (put k p new x) q) (sym e)
            (subst (λ (x : RestartKind). E (Stolen p) q ⊎ Steals m p x q) (sym (put_here k p new)) (f.steal_to q (subst (λ (x : RestartKind). Steals m p x q) is_old (subst (λ (x : ℕ). Steals m x (k x) q) e s))))
        | inr ne ↦ inr (subst (λ (x : RestartKind). Steals m c x q) (sym (put_else k p new c ne)) s)
      ]
      to Inline q s = inr tt
      to Begun q s = inr tt

      from : (z : Home) (q : ℕ) → IsCarrier z → Carries m (put k p new) (put b p low) z q → D z q ⊎ Carries m k b z q
      from Unborn q is s = absurd is
      from (Pushing c) q is s = elim (cases_eq c p) [
        | inl e ↦ subst (λ (x : ℕ). D (Pushing x) q ⊎ Pushes (k x) (m (Slot x (b x))) q) (sym e)
            (subst (λ (x : RestartKind). D (Pushing p) q ⊎ Pushes x (m (Slot p (b p))) q) (sym is_old) (f.push_from q (subst₂ (λ (x : RestartKind) (y : ℕ). Pushes x (m (Slot p y)) q) (put_here k p new) (put_here b p low)
            (subst (λ (x : ℕ). Pushes (put k p new x) (m (Slot x (put b p low x))) q) e s))))
        | inr ne ↦ inr (subst₂ (λ (x : RestartKind) (y : ℕ). Pushes x (m (Slot c y)) q) (put_else k p new c ne) (put_else b p low c ne) s)
      ]
      from (Popping c) q is s = elim (cases_eq c p) [
        | inl e ↦ subst (λ (x : ℕ). D (Popping x) q ⊎ Pops (k x) (m (Slot x (b x - 1))) q) (sym e)
            (subst (λ (x : RestartKind). D (Popping p) q ⊎ Pops x (m (Slot p (b p - 1))) q) (sym is_old) (f.pop_from q (subst₂ (λ (x : RestartKind) (y : ℕ). Pops x (m (Slot p (y - 1))) q) (put_here k p new) (put_here b p low)
            (subst (λ (x : ℕ). Pops (put k p new x) (m (Slot x (put b p low x - 1))) q) e s))))
        | inr ne ↦ inr (subst₂ (λ (x : RestartKind) (y : ℕ). Pops x (m (Slot c (y - 1))) q) (put_else k p new c ne) (put_else b p low c ne) s)
      ]
      from (Listed v i t) q is s = inr s
      from (Stolen c) q is s = elim (cases_eq c p) [
        | inl e ↦ subst (λ (x : ℕ). D (Stolen x) q ⊎ Steals m x (k x) q) (sym e)
            (subst (λ (x : RestartKind). D (Stolen p) q ⊎ Steals m p x q) (sym is_old) (f.steal_from q (subst (λ (x : RestartKind). Steals m p x q) (put_here k p new) (subst (λ (x : ℕ). Steals m x (put k p new x) q) e s))))
        | inr ne ↦ inr (subst (λ (x : RestartKind). Steals m c x q) (put_else k p new c ne) s)
      ]
      from Inline q is s = absurd is
      from Begun q is s = absurd is
