-- A place follows the closed places that it has inherited from.
use Rattle.std.proofs.Common.{◌+◌, ◌≡◌, ◌≢◌, ◌⊎◌, ◌-◌, if◌then◌else◌, ℕ, List, [], ◌∷◌, Bool, true, false, inl, inr, refl, sym, ap, ◌∙◌, subst, subst₂, arith, true≢false}
use Rattle.std.proofs.lemmas.Bool.{cases_eq, cases_Bool}
use Rattle.ppm_cells.specs.declared.restart.RestartKind.{RestartKind}
use Rattle.ppm_cells.specs.declared.restart.RestartKind.TheVariants.{Run, Push1, Push2, Pop1, Pop2, Steal, Check}
use Rattle.ppm_tickets.specs.Words.{Word, Local, Job, Taken, Spot, Message, Slot, put, has}
use Rattle.ppm_tickets.specs.Homes.{Home, Unborn, Pushing, Listed, Popping, Stolen, Inline, Begun}
use Rattle.ppm_tickets.specs.Lawful.{IsLocal, IsClaim, IsThief, IsTicket, IsEmpty, Gives, Pushes, Pops, Wins, Steals, Carries, Stays, active, active_at, Board, Estate, IsHeir, heir_from, IsTrail}
use Rattle.ppm_tickets.proofs.WriteLemmas.{put_here, put_else}
use Rattle.ppm_tickets.proofs.CarrierLemmas.{Is, None, handed, marking, install_change}
use Rattle.ppm_tickets.proofs.EffectLemmas.{IsPlain, fork, plain_install, plain_pushes, plain_pops, deque_as, here_deque}
use Rattle.ppm_tickets.proofs.EstateLemmas.{After, here, claims_shut}
use Rattle.ppm_tickets.proofs.CountLemmas.{has_here, has_more, has_or}

module _ {shut : ℕ → Type 0} {m : Spot → Word} {k : ℕ → RestartKind} {b : ℕ → ℕ} {h : ℕ → Home} (e : Estate shut m k b h) where
  abbrev pub Heir : (q w : ℕ) → Type 0
  Heir q w = IsHeir e.ghost m k b q w

  one_heir : (q r w : ℕ) → Heir q w → Heir r w → q ≡ r
  one_heir q r w a c =
      let same : a.slot ≡ c.slot = a.at ∙ sym c.at in
      let words : Taken a.tag (q + 64) ≡ Taken c.tag (r + 64) = sym a.taken ∙ ap (λ (y : ℕ). m (Slot w y)) same ∙ c.taken in
      let far : q + 64 ≡ r + 64 = cc in
      omega (arith, far)

  heir_shut : (q w : ℕ) → Heir q w → shut w
  heir_shut q w a = claims_shut e w a.slot (subst IsClaim (sym a.taken) (omega arith))

  -- a closed place has one heir that lives, through however many that do not
  pub one_end : (p q y : ℕ) (l c : List ℕ) → (shut p → ⊥) → (shut q → ⊥) → IsTrail e.ghost m k b p (y ∷ l) → IsTrail e.ghost m k b q (y ∷ c) → p ≡ q
  one_end p q y [] [] op oq a d = one_heir p q y a.0 d.0
  one_end p q y [] (v ∷ c) op oq a d = absurd (op (subst shut (sym (one_heir p v y a.0 d.0)) (heir_shut (heir_from q c) v d.1.0)))
  one_end p q y (v ∷ l) [] op oq a d = absurd (oq (subst shut (one_heir v q y a.0 d.0) (heir_shut (heir_from p l) v a.1.0)))
  one_end p q y (v ∷ l) (u ∷ c) op oq a d =
      one_end p q v l c op oq a.1 (subst (λ (z : ℕ). IsTrail e.ghost m k b q (z ∷ c)) (sym (one_heir v u y a.0 d.0)) d.1)

  abbrev pub IsAt : Home → ℕ → Type 0
  IsAt (Pushing q) w = q ≡ w
  IsAt (Popping q) w = q ≡ w
  IsAt (Stolen q) w = q ≡ w
  IsAt _ w = ⊥

  abbrev pub Bears : (w r : ℕ) → Type 0
  Bears w r = (q : ℕ) → IsAt (h q) w → q ≡ r

  abbrev pub Bare : ℕ → Type 0
  Bare w = (q : ℕ) → IsAt (h q) w → ⊥

  abbrev pub Bares : List ℕ → Type 0
  Bares l = (w : ℕ) → has l w ≡ true → Bare w

  -- what a branch at w shows
  at_real : (w q : ℕ) (P : Type 0) → (Pushes (k w) (e.ghost (Slot w (b w))) q → P) → (Pops (k w) (e.ghost (Slot w (b w - 1))) q → P) → (Steals e.ghost w (k w) q → P) → IsAt (h q) w → P
  at_real w q P f g s is = by (h q) (e.board.real q) is
    where
      by : (z : Home) → Carries e.ghost k b z q → IsAt z w → P
      by (Pushing v) c same = f (subst (λ (x : ℕ). Pushes (k x) (e.ghost (Slot x (b x))) q) same c)
      by (Popping v) c same = g (subst (λ (x : ℕ). Pops (k x) (e.ghost (Slot x (b x - 1))) q) same c)
      by (Stolen v) c same = s (subst (λ (x : ℕ). Steals e.ghost x (k x) q) same c)
      by Unborn c same = absurd same
      by (Listed v i t) c same = absurd same
      by Inline c same = absurd same
      by Begun c same = absurd same

  pub plain_bare : (w : ℕ) (K : RestartKind) → k w ≡ K → IsPlain K → ((q : ℕ) → Steals e.ghost w K q → ⊥) → Bare w
  plain_bare w K is plain none q = at_real w q ⊥ (λ s. plain_pushes K _ q plain (subst (λ (x : RestartKind). Pushes x (e.ghost (Slot w (b w))) q) is s))
      (λ s. plain_pops K _ q plain (subst (λ (x : RestartKind). Pops x (e.ghost (Slot w (b w - 1))) q) is s)) (λ s. none q (subst (λ (x : RestartKind). Steals e.ghost w x q) is s))

  says : (w : ℕ) → e.ghost (Message w) ≡ m (Message w)
  says w = e.covers.others (Message w) (λ v i z. cc)

  no_win : (w v i t x q : ℕ) → m (Message w) ≡ Local t x → Wins e.ghost w v i q → ⊥
  no_win w v i t x q is s = let both : Local t x ≡ Job s.0 q = sym is ∙ sym (says w) ∙ s.1 in cc

  pub heir_bare : (w v i t x : ℕ) → IsThief (k w) v i → m (Message w) ≡ Local t x → Bare w
  heir_bare w v i t x th is = elim th [
    | inl z ↦ plain_bare w (Steal v i) z tt (λ q s. no_win w v i t x q is s)
    | inr z ↦ plain_bare w (Check v i) z tt (λ q s. no_win w v i t x q is s)
  ]

  pub thief_bears : (w v i t r : ℕ) → IsThief (k w) v i → m (Message w) ≡ Job t r → Bears w r
  thief_bears w v i t r th is q = elim th [ inl z ↦ by (Steal v i) z tt (λ s. s) | inr z ↦ by (Check v i) z tt (λ s. s) ]
    where
      by : (K : RestartKind) → k w ≡ K → IsPlain K → (Steals e.ghost w K q → Wins e.ghost w v i q) → IsAt (h q) w → q ≡ r
      by K z plain won = at_real w q (q ≡ r) (λ s. absurd (plain_pushes K _ q plain (subst (λ (x : RestartKind). Pushes x (e.ghost (Slot w (b w))) q) z s)))
          (λ s. absurd (plain_pops K _ q plain (subst (λ (x : RestartKind). Pops x (e.ghost (Slot w (b w - 1))) q) z s)))
          (λ s. let a = won (subst (λ (x : RestartKind). Steals e.ghost w x q) z s) in let both : Job t r ≡ Job a.0 q = sym is ∙ sym (says w) ∙ a.1 in cc)

  pub push1_bears : (w r : ℕ) → k w ≡ Push1 r → Bears w r
  push1_bears w r z q = at_real w q (q ≡ r) (λ s. sym (subst (λ (x : RestartKind). Pushes x (e.ghost (Slot w (b w))) q) z s))
      (λ s. absurd (subst (λ (x : RestartKind). Pops x (e.ghost (Slot w (b w - 1))) q) z s)) (λ s. absurd (subst (λ (x : RestartKind). Steals e.ghost w x q) z s))

  pub push2_bears : (w r : ℕ) → k w ≡ Push2 r → Bears w r
  push2_bears w r z q = at_real w q (q ≡ r) (λ s. let a : Pushes (Push2 r) (e.ghost (Slot w (b w))) q = subst (λ (x : RestartKind). Pushes x (e.ghost (Slot w (b w))) q) z s in sym a.0)
      (λ s. absurd (subst (λ (x : RestartKind). Pops x (e.ghost (Slot w (b w - 1))) q) z s)) (λ s. absurd (subst (λ (x : RestartKind). Steals e.ghost w x q) z s))

  pub push2_bare : (w r : ℕ) → k w ≡ Push2 r → (IsLocal (e.ghost (Slot w (b w))) → ⊥) → Bare w
  push2_bare w r z made q = at_real w q ⊥ (λ s. let a : Pushes (Push2 r) (e.ghost (Slot w (b w))) q = subst (λ (x : RestartKind). Pushes x (e.ghost (Slot w (b w))) q) z s in made a.1)
      (λ s. subst (λ (x : RestartKind). Pops x (e.ghost (Slot w (b w - 1))) q) z s) (λ s. subst (λ (x : RestartKind). Steals e.ghost w x q) z s)

  pub pop1_bears : (w t r : ℕ) → k w ≡ Pop1 → e.ghost (Slot w (b w - 1)) ≡ Local t r → Bears w r
  pop1_bears w t r z low q = at_real w q (q ≡ r) (λ s. absurd (subst (λ (x : RestartKind). Pushes x (e.ghost (Slot w (b w))) q) z s))
      (λ s. sym (subst (λ (y : Word). Gives y q) low (subst (λ (x : RestartKind). Pops x (e.ghost (Slot w (b w - 1))) q) z s))) (λ s. absurd (subst (λ (x : RestartKind). Steals e.ghost w x q) z s))

  pub pop2_bears : (w r : ℕ) → k w ≡ Pop2 r → Bears w r
  pop2_bears w r z q = at_real w q (q ≡ r) (λ s. absurd (subst (λ (x : RestartKind). Pushes x (e.ghost (Slot w (b w))) q) z s))
      (λ s. let a : Pops (Pop2 r) (e.ghost (Slot w (b w - 1))) q = subst (λ (x : RestartKind). Pops x (e.ghost (Slot w (b w - 1))) q) z s in sym a.0) (λ s. absurd (subst (λ (x : RestartKind). Steals e.ghost w x q) z s))

  module _ (p : ℕ) (open_ : shut p → ⊥) where
    -- the places that were followed, newest first
    abbrev pub heir_of : List ℕ → ℕ
    heir_of l = heir_from p l

    abbrev pub Trail : List ℕ → Type 0
    Trail l = IsTrail e.ghost m k b p l

    heir_in : (v : ℕ) (l : List ℕ) → (heir_of l ≡ p) ⊎ (has (v ∷ l) (heir_of l) ≡ true)
    heir_in v [] = inl refl
    heir_in v (u ∷ l) = inr (has_more v u (u ∷ l) (has_here u l))

    who : (l : List ℕ) (w : ℕ) → Trail l → has l w ≡ true → (q : ℕ) × ((q ≡ p) ⊎ (has l q ≡ true)) × Heir q w
    who [] w tr is = absurd (cc)
    who (v ∷ l) w tr is = elim (has_or v w l is) [
      | inl z ↦ (heir_of l, heir_in v l, subst (Heir (heir_of l)) (sym z) tr.0)
      | inr more ↦ let a = who l w tr.1 more in (a.0, elim a.1 [ inl z ↦ inl z | inr z ↦ inr (has_more v a.0 l z) ], a.2)
    ]

    first_stays : (l : List ℕ) → ((u : ℕ) → has l u ≡ true → e.gone u ≡ false) → e.gone (heir_of l) ≡ false
    first_stays [] f = here e p open_
    first_stays (u ∷ l) f = f u (has_here u l)

    pub not_gone : (l : List ℕ) (w : ℕ) → Trail l → has l w ≡ true → e.gone w ≡ false
    not_gone [] w tr is = absurd (cc)
    not_gone (v ∷ l) w tr is = elim (has_or v w l is) [
      | inl z ↦ subst (λ (x : ℕ). e.gone x ≡ false) (sym z) ((e.told (heir_of l) v tr.0.slot tr.0.tag tr.0.thief tr.0.taken).1 (first_stays l (λ u c. not_gone l u tr.1 c)) tr.0.at)
      | inr more ↦ not_gone l w tr.1 more
    ]

    abbrev pub marks : List ℕ → ℕ → Bool
    marks l w = if has l w then true else e.gone w

    marks_in : (l : List ℕ) (w : ℕ) → has l w ≡ true → marks l w ≡ true
    marks_in l w is = rw is

    pub marks_more : (l : List ℕ) (w : ℕ) → e.gone w ≡ true → marks l w ≡ true
    marks_more l w is = elim (cases_Bool (has l w)) [ inl z ↦ marks_in l w z | inr z ↦ (rw z is) ]

    -- who was followed before
    pub weaker : (l : List ℕ) {new : ℕ → RestartKind} {low : ℕ → ℕ} {h' : ℕ → Home} → After (marks l) shut m new low h' → After e.gone shut m new low h'
    weaker l a = (a.0, λ v x. a.1 v (marks_more l v x))

    marks_out : (l : List ℕ) (w : ℕ) → (has l w ≡ true → ⊥) → e.gone w ≡ false → marks l w ≡ false
    marks_out l w out old = elim (cases_Bool (has l w)) [ inl z ↦ absurd (out z) | inr z ↦ (rw z old) ]

    marks_or : (l : List ℕ) (w : ℕ) → marks l w ≡ true → (has l w ≡ true) ⊎ (e.gone w ≡ true)
    marks_or l w is = elim (cases_Bool (has l w)) [ inl z ↦ inl z | inr z ↦ inr (sym (ap (λ (x : Bool). if x then true else e.gone w) z) ∙ is) ]

    marks_less : (l : List ℕ) (w : ℕ) → marks l w ≡ false → e.gone w ≡ false
    marks_less l w is = elim (cases_Bool (has l w)) [
      | inl z ↦ absurd (true≢false (sym (marks_in l w z) ∙ is))
      | inr z ↦ sym (ap (λ (x : Bool). if x then true else e.gone w) z) ∙ is
    ]

    less : (l : List ℕ) (z : Home) → Stays (marks l) z → Stays e.gone z
    less l (Pushing w) s = marks_less l w s
    less l (Popping w) s = marks_less l w s
    less l (Stolen w) s = marks_less l w s
    less l Unborn s = tt
    less l (Listed v i t) s = tt
    less l Inline s = tt
    less l Begun s = tt

    stays_else : (y : ℕ) (l : List ℕ) (q : ℕ) → (IsAt (h q) y → ⊥) → Bares l → Stays (marks (y ∷ l)) (h q)
    stays_else y l q far bare = by (h q) (e.board.stays q) far (λ w is. bare w is q)
      where
        out : (w : ℕ) → (w ≢ y) → (has l w ≡ true → ⊥) → has (y ∷ l) w ≡ true → ⊥
        out w ne free is = elim (has_or y w l is) [ inl z ↦ ne z | inr z ↦ free z ]

        by : (z : Home) → Stays e.gone z → (IsAt z y → ⊥) → ((w : ℕ) → has l w ≡ true → IsAt z w → ⊥) → Stays (marks (y ∷ l)) z
        by (Pushing w) s far free = marks_out (y ∷ l) w (out w far (λ is. free w is refl)) s
        by (Popping w) s far free = marks_out (y ∷ l) w (out w far (λ is. free w is refl)) s
        by (Stolen w) s far free = marks_out (y ∷ l) w (out w far (λ is. free w is refl)) s
        by Unborn s far free = tt
        by (Listed v i t) s far free = tt
        by Inline s far free = tt
        by Begun s far free = tt

    open_mark : (l : List ℕ) → Trail l → marks l p ≡ false
    open_mark l tr = marks_out l p (λ is. let a = who l p tr is in open_ (claims_shut e p a.2.slot (subst IsClaim (sym a.2.taken) (omega arith)))) (here e p open_)

    -- the places on the trail are followed
    followed : (new : RestartKind) (l : List ℕ) {h' : ℕ → Home} → ((v i : ℕ) → IsThief new v i → ⊥) → Trail l → Board e.ghost (put k p new) (put b p (b p)) (marks l) h' → After (marks l) shut m (put k p new) (put b p (b p)) h'
    followed new l free tr board = (record { ghost = e.ghost; gone = marks l; covers = e.covers; board = board; late = late; told = told; meant = meant }, λ v x. x)
      where
        act : (x : ℕ) → shut x → active_at e.ghost (put k p new) (put b p (b p)) x ≡ active_at e.ghost k b x
        act x closed =
            let ne : x ≢ p = λ z. open_ (subst shut z closed) in
            subst₂ (λ (y : RestartKind) (z : ℕ). active y z (e.ghost (Slot x (z - 1))) (e.ghost (Slot x z)) ≡ active_at e.ghost k b x) (sym (put_else k p new x ne)) (sym (put_else b p (b p) x ne)) refl

        late : (x : ℕ) → marks l x ≡ true → (t : ℕ) × (q : ℕ) × (m (Slot x (active_at e.ghost (put k p new) (put b p (b p)) x)) ≡ Taken t (q + 64))
        late x is = elim (marks_or l x is) [
          | inl z ↦
              let a = who l x tr z in
              let now : m (Slot x (active_at e.ghost k b x)) ≡ Taken a.2.tag (a.0 + 64) = subst (λ (j : ℕ). m (Slot x j) ≡ Taken a.2.tag (a.0 + 64)) a.2.at a.2.taken in
              (a.2.tag, a.0, subst (λ (j : ℕ). m (Slot x j) ≡ Taken a.2.tag (a.0 + 64)) (sym (act x (claims_shut e x _ (subst IsClaim (sym now) (omega arith))))) now)
          | inr z ↦
              let a = e.late x z in
              (a.0, a.1, subst (λ (j : ℕ). m (Slot x j) ≡ Taken a.0 (a.1 + 64)) (sym (act x (claims_shut e x _ (subst IsClaim (sym a.2) (omega arith))))) a.2)
        ]

        other : (q x j : ℕ) → IsThief (put k p new q) x j → (q ≢ p) × IsThief (k q) x j
        other q x j th = elim (cases_eq q p) [
          | inl z ↦ absurd (free x j (subst (λ (y : RestartKind). IsThief y x j) (ap (put k p new) z ∙ put_here k p new) th))
          | inr ne ↦ (ne, subst (λ (y : RestartKind). IsThief y x j) (put_else k p new q ne) th)
        ]

        told : (q x j t : ℕ) → IsThief (put k p new q) x j → m (Slot x j) ≡ Taken t (q + 64)
            → (m (Message q) ≡ e.ghost (Slot x j)) × (marks l q ≡ false → j ≡ active_at e.ghost (put k p new) (put b p (b p)) x → marks l x ≡ false)
        told q x j t th is =
            let o = other q x j th in
            let a = e.told q x j t o.1 is in
            let closed : shut x = claims_shut e x j (subst IsClaim (sym is) (omega arith)) in (
              a.0,
              λ g at. marks_out l x (λ z.
                  let c = who l x tr z in
                  let same : j ≡ c.2.slot = at ∙ act x closed ∙ sym c.2.at in
                  let words : Taken t (q + 64) ≡ Taken c.2.tag (c.0 + 64) = sym is ∙ ap (λ (y : ℕ). m (Slot x y)) same ∙ c.2.taken in
                  let far : q + 64 ≡ c.0 + 64 = cc in
                  let one : q ≡ c.0 = omega (arith, far) in
                  elim c.1 [ inl y ↦ o.0 (one ∙ y) | inr y ↦ true≢false (sym (marks_in l c.0 y) ∙ ap (marks l) (sym one) ∙ g) ])
                  (a.1 (marks_less l q g) (at ∙ act x closed)),
            )

        meant : (q x j t y : ℕ) → IsThief (put k p new q) x j → m (Message q) ≡ Local t y → shut x
        meant q x j t y th is = e.meant q x j t y (other q x j th).1 is

    module _ (x i t0 z0 : ℕ) (is : k p ≡ Check x i) (own : m (Message p) ≡ Local t0 z0) where
      no_steals : (q : ℕ) → Steals e.ghost p (Check x i) q → ⊥
      no_steals q s = no_win p x i t0 z0 q own s

      at_place : IsTicket (e.ghost (Slot p (b p - 1))) × IsLocal (e.ghost (Slot p (b p))) × IsEmpty (e.ghost (Slot p (b p + 1)))
      at_place = (deque_as e.board p (Check x i) is).here

      -- a strand goes on
      pub strands_on : (new : RestartKind) (y : ℕ) (l : List ℕ) → ((v j : ℕ) → IsThief new v j → ⊥) → IsPlain new → ((q : ℕ) → Steals e.ghost p new q → ⊥) → Trail (y ∷ l) → Bare y → Bares l
          → After (marks (y ∷ l)) shut m (put k p new) (put b p (b p)) h
      strands_on new y l free plain none tr bare bares = followed new (y ∷ l) free tr
          (marking (plain_install e.board p (Check x i) new is tt plain (λ q s. absurd (no_steals q s)) (λ q s. absurd (none q s))) (less (y ∷ l)) (λ q. stays_else y l q (bare q) bares))

      -- a block that was built is forked
      pub forks_on : (r y : ℕ) (l : List ℕ) → Trail (y ∷ l) → h r ≡ Unborn → Bare y → Bares l → After (marks (y ∷ l)) shut m (put k p (Push1 r)) (put b p (b p)) (put h r (Pushing p))
      forks_on r y l tr new bare bares = followed (Push1 r) (y ∷ l) (λ v j th. elim th [ inl z ↦ absurd (cc) | inr z ↦ absurd (cc) ]) tr
          (marking (fork e.board p r (Check x i) (here e p open_) is tt no_steals new) (less (y ∷ l)) (λ q. elim (cases_eq q r) [
            | inl z ↦ subst (Stays (marks (y ∷ l))) (sym (ap (put h r (Pushing p)) z ∙ put_here h r (Pushing p))) (open_mark (y ∷ l) tr)
            | inr ne ↦ subst (Stays (marks (y ∷ l))) (sym (put_else h r (Pushing p) q ne)) (stays_else y l q (bare q) bares)
          ]))

      -- one that pushes
      pub pushes_on : (r y : ℕ) (l : List ℕ) → Trail (y ∷ l) → h r ≡ Pushing y → Bears y r → Bares l → After (marks (y ∷ l)) shut m (put k p (Push1 r)) (put b p (b p)) (put h r (Pushing p))
      pushes_on r y l tr was bears bares = followed (Push1 r) (y ∷ l) (λ v j th. elim th [ inl z ↦ absurd (cc) | inr z ↦ absurd (cc) ]) tr
          (handed r (Pushing y) (Pushing p) e.board
          (install_change e.ghost k b p (Check x i) (Push1 r) (b p) is None (Is r (Pushing p)) record {
            push_to = λ q s. absurd s;
            push_from = λ q s. inl (refl, sym s);
            pop_to = λ q s. absurd s;
            pop_from = λ q s. absurd s;
            steal_to = λ q s. absurd (no_steals q s);
            steal_from = λ q s. absurd s;
          })
          was (λ s. true≢false (sym (marks_in (y ∷ l) y (has_here y l)) ∙ s))
          (subst (λ (c : RestartKind). Pushes c (e.ghost (Slot p (put b p (b p) p))) r) (sym (put_here k p (Push1 r))) refl) (open_mark (y ∷ l) tr) (less (y ∷ l))
          (λ q ne. stays_else y l q (λ at. ne (bears q at)) bares)
          (here_deque e.board p (Check x i) (Push1 r) is (at_place.0, at_place.1, inl at_place.2)))

      -- a branch begins
      pub begins_on : (r f y : ℕ) (l : List ℕ) (from : Home) → Trail (y ∷ l) → h r ≡ from → (Stays (marks (y ∷ l)) from → ⊥) → Bears y r → Bares l → After (marks (y ∷ l)) shut m (put k p (Run f 0)) (put b p (b p)) (put h r Begun)
      begins_on r f y l from tr was left bears bares = followed (Run f 0) (y ∷ l) (λ v j th. elim th [ inl z ↦ absurd (cc) | inr z ↦ absurd (cc) ]) tr
          (handed r from Begun e.board
          (install_change e.ghost k b p (Check x i) (Run f 0) (b p) is None (Is r Begun) record {
            push_to = λ q s. absurd s;
            push_from = λ q s. absurd s;
            pop_to = λ q s. absurd s;
            pop_from = λ q s. absurd s;
            steal_to = λ q s. absurd (no_steals q s);
            steal_from = λ q s. absurd s;
          })
          was left tt tt (less (y ∷ l))
          (λ q ne. stays_else y l q (λ at. ne (bears q at)) bares)
          (here_deque e.board p (Check x i) (Run f 0) is at_place))

      pub popped_left : (y : ℕ) (l : List ℕ) → Stays (marks (y ∷ l)) (Popping y) → ⊥
      popped_left y l s = true≢false (sym (marks_in (y ∷ l) y (has_here y l)) ∙ s)

      pub stolen_left : (y : ℕ) (l : List ℕ) → Stays (marks (y ∷ l)) (Stolen y) → ⊥
      stolen_left y l s = true≢false (sym (marks_in (y ∷ l) y (has_here y l)) ∙ s)

      pub not_followed : (y : ℕ) (l : List ℕ) → Trail (y ∷ l) → e.gone y ≡ false
      not_followed y l tr = not_gone (y ∷ l) y tr (has_here y l)
