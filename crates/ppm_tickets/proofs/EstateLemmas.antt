-- What closed places have left, after one change.
use Rattle.std.proofs.Common.{◌+◌, ◌≡◌, ◌≢◌, ◌⊎◌, ◌-◌, ℕ, Bool, true, false, inl, inr, refl, sym, ap, ◌∙◌, subst, subst₂, arith}
use Rattle.std.proofs.lemmas.Bool.{cases_eq, cases_Bool}
use mathlib.Core.Path.{fun_ext}
use Rattle.ppm_cells.specs.declared.restart.RestartKind.{RestartKind}
use Rattle.ppm_cells.specs.declared.restart.RestartKind.TheVariants.{Push2, Pop1, Pop2}
use Rattle.ppm_tickets.specs.Words.{Word, Local, Taken, Spot, Message, Bid, Top, Slot, Holder, Carry, Dead, Restart, Other, put, write}
use Rattle.ppm_tickets.specs.Homes.{Home}
use Rattle.ppm_tickets.specs.Lawful.{IsLocal, IsClaim, Inherited, Covers, is_local, active, active_at, IsThief, Board, Estate}
use Rattle.ppm_tickets.proofs.WriteLemmas.{put_here, put_else, write_here, write_else, same_spot_or}

heir_claims : (w : Word) (t q : ℕ) → w ≡ Taken t (q + 64) → IsClaim w
heir_claims w t q e = subst IsClaim (sym e) (omega arith)

-- an entry that is not inherited is what the words show
pub as_shown : {shut : Type 0} {g w : Word} → ((g ≡ w) × (IsClaim w → ⊥)) ⊎ Inherited shut g w → (IsClaim w → ⊥) → g ≡ w
as_shown s free = elim s [ inl a ↦ a.0 | inr z ↦ absurd (free z.claim) ]

pub as_was : {shut : Type 0} {g w : Word} → ((g ≡ w) × (IsClaim w → ⊥)) ⊎ Inherited shut g w → (IsLocal g → ⊥) → g ≡ w
as_was s free = elim s [ inl a ↦ a.0 | inr z ↦ absurd (free z.local) ]

pub as_open : {shut : Type 0} {g w : Word} → ((g ≡ w) × (IsClaim w → ⊥)) ⊎ Inherited shut g w → (shut → ⊥) → (g ≡ w) × (IsClaim w → ⊥)
as_open s free = elim s [ inl a ↦ a | inr z ↦ absurd (free z.is_shut) ]

active_same : (k : RestartKind) (b : ℕ) (d w d' w' : Word) → is_local d ≡ is_local d' → is_local w ≡ is_local w' → active k b d w ≡ active k b d' w'
active_same (Push2 r) b d w d' w' ed ew = rw ew
active_same Pop1 b d w d' w' ed ew = rw ed
active_same (Pop2 r) b d w d' w' ed ew = rw ed
active_same _ b d w d' w' ed ew = refl

-- an estate in which these places are followed
abbrev pub After : (gone : ℕ → Bool) → (shut : ℕ → Type 0) → (Spot → Word) → (ℕ → RestartKind) → (ℕ → ℕ) → (ℕ → Home) → Type 0
After gone shut m k b h = (e : Estate shut m k b h) × ((v : ℕ) → gone v ≡ true → e.gone v ≡ true)

module _ {shut : ℕ → Type 0} {m : Spot → Word} {k : ℕ → RestartKind} {b : ℕ → ℕ} {h : ℕ → Home} (e : Estate shut m k b h) where
  -- a claim is of a closed place
  pub claims_shut : (v i : ℕ) → IsClaim (m (Slot v i)) → shut v
  claims_shut v i is = elim (e.covers.slots v i) [ inl a ↦ absurd (a.1 is) | inr z ↦ z.is_shut ]

  -- an open place
  pub here : (p : ℕ) → (shut p → ⊥) → e.gone p ≡ false
  here p open_ = elim (cases_Bool (e.gone p)) [
    | inl g ↦ let l = e.late p g in absurd (open_ (claims_shut p (active_at e.ghost k b p) (heir_claims _ l.0 l.1 l.2)))
    | inr f ↦ f
  ]

  pub own : (p i : ℕ) → (shut p → ⊥) → e.ghost (Slot p i) ≡ m (Slot p i)
  own p i open_ = (as_open (e.covers.slots p i) open_).0

  -- more is closed
  pub closing : (shut' : ℕ → Type 0) → ((v : ℕ) → shut v → shut' v) → After e.gone shut' m k b h
  closing shut' f = (
    record {
      ghost = e.ghost;
      gone = e.gone;
      covers = record {
        others = e.covers.others;
        slots = λ v i. elim (e.covers.slots v i) [ inl a ↦ inl a | inr z ↦ inr (record { is_shut = f v z.is_shut; local = z.local; claim = z.claim }) ];
      };
      board = e.board;
      late = e.late;
      told = e.told;
      meant = λ q v i t x th is. f v (e.meant q v i t x th is);
    },
    λ v x. x,
  )

  -- an entry that is no claim is written, at an open place, or by a word that is no more local than
  -- it was
  pub wrote : (v i : ℕ) (w : Word) {h' : ℕ → Home} → (IsClaim (m (Slot v i)) → ⊥) → (IsClaim w → ⊥) → (shut v → ⊥) ⊎ (is_local w ≡ is_local (m (Slot v i)))
      → Board (write e.ghost (Slot v i) w) k b e.gone h' → After e.gone shut (write m (Slot v i) w) k b h'
  wrote v i w free nor how board = (record { ghost = G; gone = e.gone; covers = record { others = others; slots = slots }; board = board; late = late; told = told; meant = λ q x j t y th is. e.meant q x j t y th (sym (write_else m (Slot v i) w (Message q) (λ z. cc)) ∙ is) }, λ v x. x)
    where
      G : Spot → Word
      G = write e.ghost (Slot v i) w

      n : Spot → Word
      n = write m (Slot v i) w

      others : (d : Spot) → ((x j : ℕ) → Slot x j ≢ d) → G d ≡ n d
      others d ne = write_else e.ghost (Slot v i) w d (λ z. ne v i (sym z)) ∙ e.covers.others d ne ∙ sym (write_else m (Slot v i) w d (λ z. ne v i (sym z)))

      at : (x j : ℕ) → ((Slot x j ≡ Slot v i) × (n (Slot x j) ≡ w) × (G (Slot x j) ≡ w)) ⊎ ((n (Slot x j) ≡ m (Slot x j)) × (G (Slot x j) ≡ e.ghost (Slot x j)))
      at x j = elim (same_spot_or (Slot x j) (Slot v i)) [
        | inl z ↦ inl (z, ap n z ∙ write_here m (Slot v i) w, ap G z ∙ write_here e.ghost (Slot v i) w)
        | inr ne ↦ inr (write_else m (Slot v i) w (Slot x j) ne, write_else e.ghost (Slot v i) w (Slot x j) ne)
      ]

      slots : (x j : ℕ) → ((G (Slot x j) ≡ n (Slot x j)) × (IsClaim (n (Slot x j)) → ⊥)) ⊎ Inherited (shut x) (G (Slot x j)) (n (Slot x j))
      slots x j = elim (at x j) [
        | inl a ↦ inl (a.2 ∙ sym a.1, λ z. nor (subst IsClaim a.1 z))
        | inr a ↦ subst₂ (λ (y z : Word). ((y ≡ z) × (IsClaim z → ⊥)) ⊎ Inherited (shut x) y z) (sym a.1) (sym a.0) (e.covers.slots x j)
      ]

      old : (x j t q : ℕ) → n (Slot x j) ≡ Taken t (q + 64) → m (Slot x j) ≡ Taken t (q + 64)
      old x j t q z = elim (at x j) [ inl a ↦ absurd (nor (heir_claims w t q (sym a.1 ∙ z))) | inr a ↦ sym a.0 ∙ z ]

      new : (x j t q : ℕ) → m (Slot x j) ≡ Taken t (q + 64) → n (Slot x j) ≡ Taken t (q + 64)
      new x j t q z = elim (at x j) [ inl a ↦ absurd (free (subst (λ (d : Spot). IsClaim (m d)) a.0 (heir_claims _ t q z))) | inr a ↦ a.0 ∙ z ]

      local : (x j : ℕ) → shut x → is_local (G (Slot x j)) ≡ is_local (e.ghost (Slot x j))
      local x j closed = elim (at x j) [
        | inl a ↦ elim how [
          | inl open_ ↦ let same : x ≡ v = cc in absurd (open_ (subst shut same closed))
          | inr z ↦ ap is_local a.2 ∙ z ∙ ap is_local (sym (as_shown (e.covers.slots v i) free)) ∙ ap (λ (d : Spot). is_local (e.ghost d)) (sym a.0)
        ]
        | inr a ↦ ap is_local a.1
      ]

      act : (x : ℕ) → shut x → active_at G k b x ≡ active_at e.ghost k b x
      act x closed = active_same (k x) (b x) _ _ _ _ (local x (b x - 1) closed) (local x (b x) closed)

      late : (x : ℕ) → e.gone x ≡ true → (t : ℕ) × (q : ℕ) × (n (Slot x (active_at G k b x)) ≡ Taken t (q + 64))
      late x g =
          let l = e.late x g in
          let closed : shut x = claims_shut x _ (heir_claims _ l.0 l.1 l.2) in
          (l.0, l.1, subst (λ (a : ℕ). n (Slot x a) ≡ Taken l.0 (l.1 + 64)) (sym (act x closed)) (new x (active_at e.ghost k b x) l.0 l.1 l.2))

      told : (q x j t : ℕ) → IsThief (k q) x j → n (Slot x j) ≡ Taken t (q + 64)
          → (n (Message q) ≡ G (Slot x j)) × (e.gone q ≡ false → j ≡ active_at G k b x → e.gone x ≡ false)
      told q x j t th is =
          let was = old x j t q is in
          let a = e.told q x j t th was in
          let closed : shut x = claims_shut x j (heir_claims _ t q was) in (
            write_else m (Slot v i) w (Message q) (λ z. cc) ∙ a.0 ∙ elim (at x j) [ inl c ↦ absurd (nor (heir_claims w t q (sym c.1 ∙ is))) | inr c ↦ sym c.1 ],
            λ g at_. a.1 g (at_ ∙ act x closed),
          )

  -- a word of no deque is written, and no message of a thief
  pub noted : (d : Spot) (w : Word) {h' : ℕ → Home} → ((v i : ℕ) → Slot v i ≢ d) → ((q v i : ℕ) → Message q ≡ d → IsThief (k q) v i → ⊥)
      → Board (write e.ghost d w) k b e.gone h' → After e.gone shut (write m d w) k b h'
  noted d w entry idle board = (
    record {
      ghost = write e.ghost d w;
      gone = e.gone;
      covers = record {
        others = λ x ne. elim (same_spot_or x d) [
          | inl z ↦ ap (write e.ghost d w) z ∙ write_here e.ghost d w ∙ sym (ap (write m d w) z ∙ write_here m d w)
          | inr z ↦ write_else e.ghost d w x z ∙ e.covers.others x ne ∙ sym (write_else m d w x z)
        ];
        slots = λ x j. subst₂ (λ (y z : Word). ((y ≡ z) × (IsClaim z → ⊥)) ⊎ Inherited (shut x) y z) (sym (gs x j)) (sym (ms x j)) (e.covers.slots x j);
      };
      board = board;
      late = λ x g. let l = e.late x g in (l.0, l.1, subst (λ (a : ℕ). write m d w (Slot x a) ≡ Taken l.0 (l.1 + 64)) (sym (act x)) (ms x (active_at e.ghost k b x) ∙ l.2));
      told = λ q x j t th is.
          let a = e.told q x j t th (sym (ms x j) ∙ is) in
          (write_else m d w (Message q) (λ z. idle q x j z th) ∙ a.0 ∙ sym (gs x j), λ g at_. a.1 g (at_ ∙ act x));
      meant = λ q x j t y th is. e.meant q x j t y th (sym (write_else m d w (Message q) (λ z. idle q x j z th)) ∙ is);
    },
    λ v x. x,
  )
    where
      gs : (x j : ℕ) → write e.ghost d w (Slot x j) ≡ e.ghost (Slot x j)
      gs x j = write_else e.ghost d w (Slot x j) (entry x j)

      ms : (x j : ℕ) → write m d w (Slot x j) ≡ m (Slot x j)
      ms x j = write_else m d w (Slot x j) (entry x j)

      act : (x : ℕ) → active_at (write e.ghost d w) k b x ≡ active_at e.ghost k b x
      act x = active_same (k x) (b x) _ _ _ _ (ap is_local (gs x (b x - 1))) (ap is_local (gs x (b x)))

  -- an open place goes on
  pub installed : (p : ℕ) (new : RestartKind) (low : ℕ) {h' : ℕ → Home} → (shut p → ⊥)
      → ((v i t : ℕ) → IsThief new v i → m (Slot v i) ≡ Taken t (p + 64) → (m (Message p) ≡ e.ghost (Slot v i)) × (i ≡ active_at e.ghost k b v → e.gone v ≡ false))
      → ((v i t x : ℕ) → IsThief new v i → m (Message p) ≡ Local t x → shut v)
      → Board e.ghost (put k p new) (put b p low) e.gone h' → After e.gone shut m (put k p new) (put b p low) h'
  installed p new low open_ thief means board = (record { ghost = e.ghost; gone = e.gone; covers = e.covers; board = board; late = late; told = told; meant = meant }, λ v x. x)
    where
      act : (x : ℕ) → shut x → active_at e.ghost (put k p new) (put b p low) x ≡ active_at e.ghost k b x
      act x closed =
          let ne : x ≢ p = λ z. open_ (subst shut z closed) in
          subst₂ (λ (y : RestartKind) (z : ℕ). active y z (e.ghost (Slot x (z - 1))) (e.ghost (Slot x z)) ≡ active_at e.ghost k b x) (sym (put_else k p new x ne)) (sym (put_else b p low x ne)) refl

      late : (x : ℕ) → e.gone x ≡ true → (t : ℕ) × (q : ℕ) × (m (Slot x (active_at e.ghost (put k p new) (put b p low) x)) ≡ Taken t (q + 64))
      late x g =
          let l = e.late x g in
          (l.0, l.1, subst (λ (a : ℕ). m (Slot x a) ≡ Taken l.0 (l.1 + 64)) (sym (act x (claims_shut x _ (heir_claims _ l.0 l.1 l.2)))) l.2)

      meant : (q x j t y : ℕ) → IsThief (put k p new q) x j → m (Message q) ≡ Local t y → shut x
      meant q x j t y th is = elim (cases_eq q p) [
        | inl z ↦ means x j t y (subst (λ (a : RestartKind). IsThief a x j) (ap (put k p new) z ∙ put_here k p new) th) (ap (λ (a : ℕ). m (Message a)) (sym z) ∙ is)
        | inr ne ↦ e.meant q x j t y (subst (λ (a : RestartKind). IsThief a x j) (put_else k p new q ne) th) is
      ]

      told : (q x j t : ℕ) → IsThief (put k p new q) x j → m (Slot x j) ≡ Taken t (q + 64)
          → (m (Message q) ≡ e.ghost (Slot x j)) × (e.gone q ≡ false → j ≡ active_at e.ghost (put k p new) (put b p low) x → e.gone x ≡ false)
      told q x j t th is =
          let closed : shut x = claims_shut x j (heir_claims _ t q is) in
          elim (cases_eq q p) [
            | inl z ↦
                let a = thief x j t (subst (λ (y : RestartKind). IsThief y x j) (ap (put k p new) z ∙ put_here k p new) th) (subst (λ (y : ℕ). m (Slot x j) ≡ Taken t (y + 64)) z is) in
                (ap (λ (y : ℕ). m (Message y)) z ∙ a.0, λ g at_. a.1 (at_ ∙ act x closed))
            | inr ne ↦
                let a = e.told q x j t (subst (λ (y : RestartKind). IsThief y x j) (put_else k p new q ne) th) is in
                (a.0, λ g at_. a.1 g (at_ ∙ act x closed))
          ]

  -- an entry of a closed place is inherited
  pub claimed : (p v i t x : ℕ) → shut v → m (Slot v i) ≡ Local t x → IsThief (k p) v i → m (Message p) ≡ Local t x
      → After e.gone shut (write m (Slot v i) (Taken (t + 1) (p + 64))) k b h
  claimed p v i t x closed is thief says = (record { ghost = e.ghost; gone = e.gone; covers = record { others = others; slots = slots }; board = e.board; late = late; told = told; meant = λ q y j u z th now. e.meant q y j u z th (sym (write_else m (Slot v i) (Taken (t + 1) (p + 64)) (Message q) (λ w. cc)) ∙ now) }, λ v x. x)
    where
      n : Spot → Word
      n = write m (Slot v i) (Taken (t + 1) (p + 64))

      free : IsClaim (m (Slot v i)) → ⊥
      free z = subst IsClaim is z

      was : e.ghost (Slot v i) ≡ Local t x
      was = as_shown (e.covers.slots v i) free ∙ is

      others : (d : Spot) → ((a j : ℕ) → Slot a j ≢ d) → e.ghost d ≡ n d
      others d ne = e.covers.others d ne ∙ sym (write_else m (Slot v i) (Taken (t + 1) (p + 64)) d (λ z. ne v i (sym z)))

      at : (a j : ℕ) → ((Slot a j ≡ Slot v i) × (n (Slot a j) ≡ Taken (t + 1) (p + 64))) ⊎ (n (Slot a j) ≡ m (Slot a j))
      at a j = elim (same_spot_or (Slot a j) (Slot v i)) [
        | inl z ↦ inl (z, ap n z ∙ write_here m (Slot v i) (Taken (t + 1) (p + 64)))
        | inr ne ↦ inr (write_else m (Slot v i) (Taken (t + 1) (p + 64)) (Slot a j) ne)
      ]

      slots : (a j : ℕ) → ((e.ghost (Slot a j) ≡ n (Slot a j)) × (IsClaim (n (Slot a j)) → ⊥)) ⊎ Inherited (shut a) (e.ghost (Slot a j)) (n (Slot a j))
      slots a j = elim (at a j) [
        | inl z ↦ let same : a ≡ v = cc in
            inr (record {
              is_shut = subst shut (sym same) closed;
              local = subst IsLocal (sym (ap e.ghost z.0 ∙ was)) tt;
              claim = subst IsClaim (sym z.1) (omega arith);
            })
        | inr z ↦ subst (λ (y : Word). ((e.ghost (Slot a j) ≡ y) × (IsClaim y → ⊥)) ⊎ Inherited (shut a) (e.ghost (Slot a j)) y) (sym z) (e.covers.slots a j)
      ]

      late : (a : ℕ) → e.gone a ≡ true → (u : ℕ) × (q : ℕ) × (n (Slot a (active_at e.ghost k b a)) ≡ Taken u (q + 64))
      late a g =
          let l = e.late a g in (
            l.0,
            l.1,
            elim (at a (active_at e.ghost k b a)) [
              | inl z ↦ absurd (free (subst (λ (d : Spot). IsClaim (m d)) z.0 (heir_claims _ l.0 l.1 l.2)))
              | inr z ↦ z ∙ l.2
            ],
          )

      told : (q a j u : ℕ) → IsThief (k q) a j → n (Slot a j) ≡ Taken u (q + 64)
          → (n (Message q) ≡ e.ghost (Slot a j)) × (e.gone q ≡ false → j ≡ active_at e.ghost k b a → e.gone a ≡ false)
      told q a j u th now = elim (at a j) [
        | inl z ↦
            let words : Taken u (q + 64) ≡ Taken (t + 1) (p + 64) = sym now ∙ z.1 in
            let far : q + 64 ≡ p + 64 = cc in
            let same : q ≡ p = omega (arith, far) in (
              write_else m (Slot v i) (Taken (t + 1) (p + 64)) (Message q) (λ y. cc) ∙ ap (λ (y : ℕ). m (Message y)) same ∙ says ∙ sym (ap e.ghost z.0 ∙ was),
              λ g at_. elim (cases_Bool (e.gone a)) [
                | inl c ↦
                    let l = e.late a c in
                    absurd (free (subst (λ (d : Spot). IsClaim (m d)) z.0 (subst (λ (y : ℕ). IsClaim (m (Slot a y))) (sym at_) (heir_claims _ l.0 l.1 l.2))))
                | inr f ↦ f
              ],
            )
        | inr z ↦
            let o = e.told q a j u th (sym z ∙ now) in
            (write_else m (Slot v i) (Taken (t + 1) (p + 64)) (Message q) (λ y. cc) ∙ o.0, o.1)
      ]

pub noted_both : {shut : ℕ → Type 0} {m : Spot → Word} {k : ℕ → RestartKind} {b : ℕ → ℕ} {h : ℕ → Home} (e : Estate shut m k b h) (d c : Spot) (w x : Word)
    → ((v i : ℕ) → Slot v i ≢ d) → ((v i : ℕ) → Slot v i ≢ c) → ((q v i : ℕ) → Message q ≡ d → IsThief (k q) v i → ⊥) → ((q v i : ℕ) → Message q ≡ c → IsThief (k q) v i → ⊥)
    → Board (write e.ghost d w) k b e.gone h → Board (write (write e.ghost d w) c x) k b e.gone h → After e.gone shut (write (write m d w) c x) k b h
unfolding noted
noted_both e d c w x ed ec id ic first second = ((noted (noted e d w ed id first).0 c x ec ic second).0, λ v y. y)

-- where no place is closed
module _ {shut : ℕ → Type 0} {m : Spot → Word} {k : ℕ → RestartKind} {b : ℕ → ℕ} {h : ℕ → Home} (e : Estate shut m k b h) (none : (v : ℕ) → shut v → ⊥) where
  ghost_is : (d : Spot) → e.ghost d ≡ m d
  ghost_is (Slot v i) = own e v i (none v)
  ghost_is (Message p) = e.covers.others (Message p) (λ v i z. cc)
  ghost_is (Bid p) = e.covers.others (Bid p) (λ v i z. cc)
  ghost_is (Top p) = e.covers.others (Top p) (λ v i z. cc)
  ghost_is (Holder p) = e.covers.others (Holder p) (λ v i z. cc)
  ghost_is (Carry p) = e.covers.others (Carry p) (λ v i z. cc)
  ghost_is (Dead p) = e.covers.others (Dead p) (λ v i z. cc)
  ghost_is (Restart p) = e.covers.others (Restart p) (λ v i z. cc)
  ghost_is Other = e.covers.others Other (λ v i z. cc)

  pub plain : Board m k b (λ p. false) h
  plain = subst₂ (λ (g : Spot → Word) (gone : ℕ → Bool). Board g k b gone h) (fun_ext ghost_is) (fun_ext (λ p. here e p (none p))) e.board

pub covers_as : {shut : ℕ → Type 0} {m : Spot → Word} {k : ℕ → RestartKind} {b : ℕ → ℕ} {h : ℕ → Home} (e : Estate shut m k b h) (wider : ℕ → Type 0) → ((v : ℕ) → shut v → wider v) → Covers wider e.ghost m
covers_as e wider f = record {
  others = e.covers.others;
  slots = λ v i. elim (e.covers.slots v i) [ inl a ↦ inl a | inr z ↦ inr (record { is_shut = f v z.is_shut; local = z.local; claim = z.claim }) ];
}
