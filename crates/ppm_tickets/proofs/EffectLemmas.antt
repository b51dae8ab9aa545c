-- What each effect does to the deques and the tickets.
use Rattle.std.proofs.Common.{◌+◌, ◌≡◌, ◌≢◌, ◌⊎◌, ◌≤◌, ◌-◌, ℕ, Bool, false, inl, inr, refl, sym, ap, ◌∙◌, subst, subst₂, arith}
use Rattle.std.proofs.lemmas.Bool.{cases_eq}
use Rattle.ppm_cells.specs.declared.restart.RestartKind.{RestartKind}
use Rattle.ppm_cells.specs.declared.restart.RestartKind.TheVariants.{Run, Push1, Push2, Pop1, Pop2, Seek, Steal, Check}
use Rattle.ppm_tickets.specs.Words.{Word, Empty, Local, Job, Taken, Spot, Message, Slot, put, write}
use Rattle.ppm_tickets.specs.Homes.{Home, Unborn, Pushing, Listed, Popping, Stolen, Inline, Begun}
use Rattle.ppm_tickets.specs.Lawful.{IsEmpty, IsLocal, IsJob, IsTaken, AtBottom, Deque, IsTicket, Pushes, Pops, Gives, Steals, Board}
use Rattle.ppm_tickets.proofs.WriteLemmas.{put_here, write_here, write_else}
use Rattle.ppm_tickets.proofs.CarrierLemmas.{Is, None, keeps, moves, entry_change, other_change, install_change}
use Rattle.ppm_tickets.proofs.DequeLemmas.{install_deque, other_deque, entry_deque}

-- kinds that neither make a job nor get one back
abbrev pub IsPlain : RestartKind → Type 0
IsPlain (Push1 r) = ⊥
IsPlain (Push2 r) = ⊥
IsPlain Pop1 = ⊥
IsPlain (Pop2 r) = ⊥
IsPlain _ = Unit {0}

pub plain_pushes : (k : RestartKind) (w : Word) (q : ℕ) → IsPlain k → Pushes k w q → ⊥
plain_pushes (Push1 r) w q is s = is
plain_pushes (Push2 r) w q is s = is
plain_pushes _ w q is s = s

pub plain_pops : (k : RestartKind) (w : Word) (q : ℕ) → IsPlain k → Pops k w q → ⊥
plain_pops Pop1 w q is s = is
plain_pops (Pop2 r) w q is s = is
plain_pops _ w q is s = s

plain_bottom : (k : RestartKind) (d w u : Word) → IsPlain k → AtBottom k d w u → IsTicket d × IsLocal w × IsEmpty u
plain_bottom (Push1 r) d w u is s = absurd is
plain_bottom (Push2 r) d w u is s = absurd is
plain_bottom Pop1 d w u is s = absurd is
plain_bottom (Pop2 r) d w u is s = absurd is
plain_bottom _ d w u is s = s

pub bottom_plain : (k : RestartKind) (d w u : Word) → IsPlain k → IsTicket d × IsLocal w × IsEmpty u → AtBottom k d w u
bottom_plain (Push1 r) d w u is s = absurd is
bottom_plain (Push2 r) d w u is s = absurd is
bottom_plain Pop1 d w u is s = absurd is
bottom_plain (Pop2 r) d w u is s = absurd is
bottom_plain _ d w u is s = s

-- a word, or what it is once a job there is taken
abbrev OrTaken : Word → Word → Type 0
OrTaken x y = (y ≡ x) ⊎ (IsJob x × IsTaken y)

pub not_local_taken : (w : Word) → IsLocal w → IsTaken w → ⊥
not_local_taken (Local t x) a b = b
not_local_taken _ a b = a

pub not_empty_local : (w : Word) → IsEmpty w → IsLocal w → ⊥
not_empty_local (Empty t) a b = b
not_empty_local _ a b = a

not_local_job : (w : Word) → IsLocal w → IsJob w → ⊥
not_local_job (Local t x) a b = b
not_local_job _ a b = a

not_empty_job : (w : Word) → IsEmpty w → IsJob w → ⊥
not_empty_job (Empty t) a b = b
not_empty_job _ a b = a

pub gives_local : (w : Word) (r : ℕ) → Gives w r → IsLocal w
gives_local (Local t x) r s = tt
gives_local _ r s = s

gives_or : (x y : Word) (r : ℕ) → OrTaken x y → Gives x r → Gives y r
gives_or x y r o is = elim o [ inl e ↦ subst (λ (w : Word). Gives w r) (sym e) is | inr k ↦ absurd (not_local_job x (gives_local x r is) k.0) ]

local_or : (x y : Word) → OrTaken x y → IsLocal x → IsLocal y
local_or x y o is = elim o [ inl e ↦ subst IsLocal (sym e) is | inr k ↦ absurd (not_local_job x is k.0) ]

empty_or : (x y : Word) → OrTaken x y → IsEmpty x → IsEmpty y
empty_or x y o is = elim o [ inl e ↦ subst IsEmpty (sym e) is | inr k ↦ absurd (not_empty_job x is k.0) ]

taken_or : (x y : Word) → OrTaken x y → IsTaken x → IsTaken y
taken_or x y o is = elim o [ inl e ↦ subst IsTaken (sym e) is | inr k ↦ k.1 ]

ticket_or : (x y : Word) → OrTaken x y → IsTicket x → IsTicket y
ticket_or x y o is = elim o [ inl e ↦ subst IsTicket (sym e) is | inr k ↦ inr k.1 ]

bottom_or : (k : RestartKind) (d w u d' w' u' : Word) → OrTaken d d' → OrTaken w w' → OrTaken u u' → AtBottom k d w u → AtBottom k d' w' u'
bottom_or (Push1 r) d w u d' w' u' a b c s = (ticket_or d d' a s.0, local_or w w' b s.1, elim s.2 [ inl e ↦ inl (empty_or u u' c e) | inr l ↦ inr (local_or u u' c l) ])
bottom_or (Push2 r) d w u d' w' u' a b c s = (ticket_or d d' a s.0, elim s.1 [ inl e ↦ inl (local_or w w' b e) | inr l ↦ inr (ticket_or w w' b l) ], local_or u u' c s.2)
bottom_or Pop1 d w u d' w' u' a b c s = (elim s.0 [ inl e ↦ inl (local_or d d' a e) | inr l ↦ inr (ticket_or d d' a l) ], local_or w w' b s.1, empty_or u u' c s.2)
bottom_or (Pop2 r) d w u d' w' u' a b c s = (
  elim s.0 [
    | inl e ↦ inl (taken_or d d' a e.0, local_or w w' b e.1)
    | inr l ↦ inr (gives_or d d' r a l.0, elim l.1 [ inl e ↦ inl (empty_or w w' b e) | inr k ↦ inr (local_or w w' b k) ])
  ],
  tt,
  empty_or u u' c s.2,
)
bottom_or _ d w u d' w' u' a b c s = (ticket_or d d' a s.0, local_or w w' b s.1, empty_or u u' c s.2)

pushes_taken : (x : RestartKind) (t r u c q : ℕ) → Pushes x (Job t r) q → Pushes x (Taken u c) q
pushes_taken (Push2 y) t r u c q s = absurd s.1
pushes_taken _ t r u c q s = s

taken_pushes : (x : RestartKind) (t r u c q : ℕ) → Pushes x (Taken u c) q → Pushes x (Job t r) q
taken_pushes (Push2 y) t r u c q s = absurd s.1
taken_pushes _ t r u c q s = s

pops_none : (x : RestartKind) (w : Word) (q : ℕ) → IsTicket w → Pops x w q → ⊥
pops_none Pop1 (Local t y) q is s = elim is [ inl a ↦ a | inr a ↦ a ]
pops_none Pop1 _ q is s = s
pops_none (Pop2 r) w q is s = elim is [ inl a ↦ not_local_job w s.1 a | inr a ↦ not_local_taken w s.1 a ]
pops_none _ w q is s = s

module _ {m : Spot → Word} {k : ℕ → RestartKind} {b : ℕ → ℕ} {gone : ℕ → Bool} {h : ℕ → Home} (board : Board m k b gone h) where
  pub deque_as : (p : ℕ) (x : RestartKind) → k p ≡ x → Deque x (b p) (λ i. m (Slot p i))
  deque_as p x e = subst (λ (y : RestartKind). Deque y (b p) (λ i. m (Slot p i))) e (board.deque p)

  -- an entry at the bottom or beside it is written
  own_deque : (p i : ℕ) (n : Word) (x : RestartKind) → k p ≡ x → (IsTaken (m (Slot p i)) → ⊥) → b p ≤ i + 1 → i ≤ (b p + 1)
      → ((w : ℕ → Word) → w i ≡ n → ((j : ℕ) → j ≢ i → w j ≡ m (Slot p j)) → AtBottom x (w (b p - 1)) (w (b p)) (w (b p + 1)))
      → (v : ℕ) → Deque (k v) (b v) (λ j. write m (Slot p i) n (Slot v j))
  own_deque p i n x e free lo hi new =
      let d = deque_as p x e in
      entry_deque m k b p i n board.deque (λ w here other. subst (λ (y : RestartKind). Deque y (b p) w) (sym e) record {
        start = d.start;
        floor = subst IsTaken (sym (other 0 (λ z. free (subst (λ (j : ℕ). IsTaken (m (Slot p j))) z d.floor)))) d.floor;
        below = λ j lt. subst IsTicket (sym (other j (omega arith))) (d.below j lt);
        here = new w here other;
        above = λ j lt. subst IsEmpty (sym (other j (omega arith))) (d.above j lt);
      })

  -- the bottom stays
  pub here_deque : (p : ℕ) (x y : RestartKind) → k p ≡ x → AtBottom y (m (Slot p (b p - 1))) (m (Slot p (b p))) (m (Slot p (b p + 1))) → (v : ℕ) → Deque (put k p y v) (put b p (b p) v) (λ i. m (Slot v i))
  here_deque p x y e here =
      let d = deque_as p x e in
      install_deque m k b p y (b p) board.deque record { start = d.start; floor = d.floor; below = d.below; here = here; above = d.above }

  -- between kinds that make no job, at the same bottom
  pub plain_install : (p : ℕ) (x y : RestartKind) → k p ≡ x → IsPlain x → IsPlain y → ((q : ℕ) → Steals m p x q → Steals m p y q) → ((q : ℕ) → Steals m p y q → Steals m p x q)
      → Board m (put k p y) (put b p (b p)) gone h
  plain_install p x y e px py to from = keeps board
      (install_change m k b p x y (b p) e None None record {
        push_to = λ q s. absurd (plain_pushes x _ q px s);
        push_from = λ q s. absurd (plain_pushes y _ q py s);
        pop_to = λ q s. absurd (plain_pops x _ q px s);
        pop_from = λ q s. absurd (plain_pops y _ q py s);
        steal_to = λ q s. inr (to q s);
        steal_from = λ q s. inr (from q s);
      })
      (here_deque p x y e (bottom_plain y _ _ _ py (plain_bottom x _ _ _ px (deque_as p x e).here)))

  -- a strand forks
  pub fork : (p r : ℕ) (x : RestartKind) → gone p ≡ false → k p ≡ x → IsPlain x → ((q : ℕ) → Steals m p x q → ⊥) → h r ≡ Unborn → Board m (put k p (Push1 r)) (put b p (b p)) gone (put h r (Pushing p))
  fork p r x mine e px none new =
      let at = plain_bottom x _ _ _ px (deque_as p x e).here in
      moves r Unborn (Pushing p) board
      (install_change m k b p x (Push1 r) (b p) e (Is r Unborn) (Is r (Pushing p)) record {
        push_to = λ q s. absurd (plain_pushes x _ q px s);
        push_from = λ q s. inl (refl, sym s);
        pop_to = λ q s. absurd (plain_pops x _ q px s);
        pop_from = λ q s. absurd s;
        steal_to = λ q s. absurd (none q s);
        steal_from = λ q s. absurd s;
      })
      new (λ is. absurd is) (subst (λ (y : RestartKind). Pushes y (m (Slot p (put b p (b p) p))) r) (sym (put_here k p (Push1 r))) refl) mine
      (here_deque p x (Push1 r) e (at.0, at.1, inl at.2))

  pub push1_exchange : (p r t : ℕ) → k p ≡ Push1 r → m (Slot p (b p + 1)) ≡ Empty t → Board (write m (Slot p (b p + 1)) (Local (t + 1) 0)) k b gone h
  push1_exchange p r t e is =
      let d = deque_as p (Push1 r) e in
      keeps board
      (entry_change m k b p (b p + 1) (Empty t) (Local (t + 1) 0) is None None record {
        job_to = λ t' q e. cc;
        job_from = λ t' q e. cc;
        taken_to = λ e. e;
        taken_from = λ p' t' q th ms e. cc;
        push_to = λ same. absurd (omega arith);
        push_from = λ same. absurd (omega arith);
        pop_to = λ same. absurd (omega arith);
        pop_from = λ same. absurd (omega arith);
      })
      (own_deque p (b p + 1) (Local (t + 1) 0) (Push1 r) e (subst (λ (w : Word). IsTaken w → ⊥) (sym is) (λ z. z)) (omega arith) (omega arith) (λ w here other.
      (subst IsTicket (sym (other (b p - 1) (omega arith))) d.here.0, subst IsLocal (sym (other (b p) (omega arith))) d.here.1, inr (subst IsLocal (sym here) tt))))

  pub push1_install : (p r : ℕ) → k p ≡ Push1 r → IsLocal (m (Slot p (b p + 1))) → Board m (put k p (Push2 r)) (put b p (b p)) gone h
  push1_install p r e up =
      let d = deque_as p (Push1 r) e in
      keeps board
      (install_change m k b p (Push1 r) (Push2 r) (b p) e None None record {
        push_to = λ q s. inr (s, d.here.1);
        push_from = λ q s. inr s.0;
        pop_to = λ q s. absurd s;
        pop_from = λ q s. absurd s;
        steal_to = λ q s. absurd s;
        steal_from = λ q s. absurd s;
      })
      (here_deque p (Push1 r) (Push2 r) e (d.here.0, inl d.here.1, up))

  -- at the last slot one strand runs both branches
  pub push1_inline : (p r f y : ℕ) → gone p ≡ false → k p ≡ Push1 r → IsEmpty (m (Slot p (b p + 1))) → (h r ≡ Pushing p) × Board m (put k p (Run f y)) (put b p (b p)) gone (put h r Inline)
  push1_inline p r f y mine e up =
      let d = deque_as p (Push1 r) e in
      let was : h r ≡ Pushing p = board.only (Pushing p) r tt mine (subst (λ (z : RestartKind). Pushes z (m (Slot p (b p))) r) (sym e) refl) in (
        was,
        moves r (Pushing p) Inline board
            (install_change m k b p (Push1 r) (Run f y) (b p) e (Is r (Pushing p)) (Is r Inline) record {
              push_to = λ q s. inl (refl, sym s);
              push_from = λ q s. absurd s;
              pop_to = λ q s. absurd s;
              pop_from = λ q s. absurd s;
              steal_to = λ q s. absurd s;
              steal_from = λ q s. absurd s;
            })
            was (λ c s. subst (λ (z : RestartKind). Pushes z (m (Slot p (put b p (b p) p))) r) (put_here k p (Run f y)) s) tt tt
            (here_deque p (Push1 r) (Run f y) e (d.here.0, d.here.1, up)),
      )

  -- and comes to the right one
  pub inline_begins : (p r f y : ℕ) (x : RestartKind) → k p ≡ x → IsPlain x → ((q : ℕ) → Steals m p x q → ⊥) → h r ≡ Inline
      → Board m (put k p (Run f y)) (put b p (b p)) gone (put h r Begun)
  inline_begins p r f y x e px none was =
      moves r Inline Begun board
      (install_change m k b p x (Run f y) (b p) e (Is r Inline) (Is r Begun) record {
        push_to = λ q s. absurd (plain_pushes x _ q px s);
        push_from = λ q s. absurd s;
        pop_to = λ q s. absurd (plain_pops x _ q px s);
        pop_from = λ q s. absurd s;
        steal_to = λ q s. absurd (none q s);
        steal_from = λ q s. absurd s;
      })
      was (λ is. absurd is) tt tt
      (here_deque p x (Run f y) e (plain_bottom x _ _ _ px (deque_as p x e).here))

  pub push2_exchange : (p r t x : ℕ) → gone p ≡ false → k p ≡ Push2 r → m (Slot p (b p)) ≡ Local t x → (h r ≡ Pushing p) × Board (write m (Slot p (b p)) (Job (t + 1) r)) k b gone (put h r (Listed p (b p) (t + 1)))
  push2_exchange p r t x mine e is =
      let d = deque_as p (Push2 r) e in
      let start = d.start in
      let was : h r ≡ Pushing p = board.only (Pushing p) r tt mine (subst₂ (λ (y : RestartKind) (w : Word). Pushes y w r) (sym e) (sym is) (refl, tt)) in (
        was,
        moves r (Pushing p) (Listed p (b p) (t + 1)) board
            (entry_change m k b p (b p) (Local t x) (Job (t + 1) r) is (Is r (Pushing p)) (Is r (Listed p (b p) (t + 1))) record {
              job_to = λ t' q e. absurd (cc);
              job_from = λ t' q e. (cc, cc);
              taken_to = λ e. e;
              taken_from = λ p' t' q th ms e. absurd (cc);
              push_to = λ same q s. let a : Pushes (Push2 r) (Local t x) q = subst (λ (y : RestartKind). Pushes y (Local t x) q) e s in inl (refl, sym a.0);
              push_from = λ same q s. let a : Pushes (Push2 r) (Job (t + 1) r) q = subst (λ (y : RestartKind). Pushes y (Job (t + 1) r) q) e s in absurd a.1;
              pop_to = λ same. absurd (omega arith);
              pop_from = λ same. absurd (omega arith);
            })
            was (λ c s. let a : Pushes (Push2 r) (Job (t + 1) r) r = subst₂ (λ (y : RestartKind) (w : Word). Pushes y w r) e (write_here m (Slot p (b p)) (Job (t + 1) r)) s in a.1)
            (write_here m (Slot p (b p)) (Job (t + 1) r)) tt
            (own_deque p (b p) (Job (t + 1) r) (Push2 r) e (subst (λ (w : Word). IsTaken w → ⊥) (sym is) (λ z. z)) (omega arith) (omega arith) (λ w here other.
            (subst IsTicket (sym (other (b p - 1) (omega arith))) d.here.0, inr (inl (subst IsJob (sym here) tt)), subst IsLocal (sym (other (b p + 1) (omega arith))) d.here.2))),
      )

  pub push2_install : (p r f y : ℕ) → k p ≡ Push2 r → (IsLocal (m (Slot p (b p))) → ⊥) → Board m (put k p (Run f y)) (put b p (b p + 1)) gone h
  push2_install p r f y e done =
      let d = deque_as p (Push2 r) e in
      let here_is : b p ≡ (b p + 1) - 1 = omega arith in
      let ticket : IsTicket (m (Slot p (b p))) = elim d.here.1 [ inl l ↦ absurd (done l) | inr s ↦ s ] in
      keeps board
      (install_change m k b p (Push2 r) (Run f y) (b p + 1) e None None record {
        push_to = λ q s. absurd (done s.1);
        push_from = λ q s. absurd s;
        pop_to = λ q s. absurd s;
        pop_from = λ q s. absurd s;
        steal_to = λ q s. absurd s;
        steal_from = λ q s. absurd s;
      })
      (install_deque m k b p (Run f y) (b p + 1) board.deque record {
        start = omega arith;
        floor = d.floor;
        below = λ i lt. elim (cases_eq i (b p - 1)) [
          | inl same ↦ subst (λ (j : ℕ). IsTicket (m (Slot p j))) (sym same) d.here.0
          | inr ne ↦ d.below i (omega arith)
        ];
        here = (subst (λ (j : ℕ). IsTicket (m (Slot p j))) here_is ticket, d.here.2, d.above ((b p + 1) + 1) (omega arith));
        above = λ i lt. d.above i (omega arith);
      })

  pub pop1_exchange : (p t r : ℕ) → gone p ≡ false → k p ≡ Pop1 → m (Slot p (b p - 1)) ≡ Job t r → (h r ≡ Listed p (b p - 1) t) × Board (write m (Slot p (b p - 1)) (Local (t + 1) r)) k b gone (put h r (Popping p))
  pop1_exchange p t r mine e is =
      let d = deque_as p Pop1 e in
      let start = d.start in
      let was : h r ≡ Listed p (b p - 1) t = board.only (Listed p (b p - 1) t) r tt tt is in (
        was,
        moves r (Listed p (b p - 1) t) (Popping p) board
            (entry_change m k b p (b p - 1) (Job t r) (Local (t + 1) r) is (Is r (Listed p (b p - 1) t)) (Is r (Popping p)) record {
              job_to = λ t' q e. (cc, cc);
              job_from = λ t' q e. absurd (cc);
              taken_to = λ e. e;
              taken_from = λ p' t' q th ms e. absurd (cc);
              push_to = λ same. absurd (omega arith);
              push_from = λ same. absurd (omega arith);
              pop_to = λ same q s. absurd (pops_none (k p) (Job t r) q (inl tt) s);
              pop_from = λ same q s. let a : Pops Pop1 (Local (t + 1) r) q = subst (λ (y : RestartKind). Pops y (Local (t + 1) r) q) e s in inl (refl, sym a);
            })
            was (λ c s. absurd (let e : Local (t + 1) r ≡ Job t r = sym (write_here m (Slot p (b p - 1)) (Local (t + 1) r)) ∙ s in cc))
            (subst₂ (λ (y : RestartKind) (w : Word). Pops y w r) (sym e) (sym (write_here m (Slot p (b p - 1)) (Local (t + 1) r))) refl) mine
            (own_deque p (b p - 1) (Local (t + 1) r) Pop1 e (subst (λ (w : Word). IsTaken w → ⊥) (sym is) (λ z. z)) (omega arith) (omega arith) (λ w here other.
            (inl (subst IsLocal (sym here) tt), subst IsLocal (sym (other (b p) (omega arith))) d.here.1, subst IsEmpty (sym (other (b p + 1) (omega arith))) d.here.2))),
      )

  -- a strand is over
  pub pop_begins : (p : ℕ) (x : RestartKind) → k p ≡ x → IsPlain x → ((q : ℕ) → Steals m p x q → ⊥) → Board m (put k p Pop1) (put b p (b p)) gone h
  pop_begins p x e px none =
      let at = plain_bottom x _ _ _ px (deque_as p x e).here in
      keeps board
      (install_change m k b p x Pop1 (b p) e None None record {
        push_to = λ q s. absurd (plain_pushes x _ q px s);
        push_from = λ q s. absurd s;
        pop_to = λ q s. absurd (plain_pops x _ q px s);
        pop_from = λ q s. absurd (pops_none Pop1 _ q at.0 s);
        steal_to = λ q s. absurd (none q s);
        steal_from = λ q s. absurd s;
      })
      (here_deque p x Pop1 e (inr at.0, at.1, at.2))

  -- what Pop1 leaves: the job of r got back, or lost
  pub pop1_install : (p t r : ℕ) → k p ≡ Pop1 → (m (Slot p (b p - 1)) ≡ Local t r) ⊎ IsTaken (m (Slot p (b p - 1))) → Board m (put k p (Pop2 r)) (put b p (b p)) gone h
  pop1_install p t r e got =
      let d = deque_as p Pop1 e in
      keeps board
      (install_change m k b p Pop1 (Pop2 r) (b p) e None None record {
        push_to = λ q s. absurd s;
        push_from = λ q s. absurd s;
        pop_to = λ q s. elim got [
          | inl l ↦ inr (subst (λ (w : Word). Gives w q) l s, subst IsLocal (sym l) tt)
          | inr o ↦ absurd (pops_none Pop1 _ q (inr o) s)
        ];
        pop_from = λ q s. elim got [ inl l ↦ inr (subst (λ (w : Word). Gives w q) (sym l) s.0) | inr o ↦ absurd (not_local_taken _ s.1 o) ];
        steal_to = λ q s. absurd s;
        steal_from = λ q s. absurd s;
      })
      (here_deque p Pop1 (Pop2 r) e (elim got [ inl l ↦ inr (subst (λ (w : Word). Gives w r) (sym l) refl, inr d.here.1) | inr o ↦ inl (o, d.here.1) ], tt, d.here.2))

  pub pop1_lost : (p : ℕ) → k p ≡ Pop1 → IsTaken (m (Slot p (b p - 1))) → Board m (put k p Seek) (put b p (b p)) gone h
  pop1_lost p e lost =
      let d = deque_as p Pop1 e in
      keeps board
      (install_change m k b p Pop1 Seek (b p) e None None record {
        push_to = λ q s. absurd s;
        push_from = λ q s. absurd s;
        pop_to = λ q s. absurd (pops_none Pop1 _ q (inr lost) s);
        pop_from = λ q s. absurd s;
        steal_to = λ q s. absurd s;
        steal_from = λ q s. absurd s;
      })
      (here_deque p Pop1 Seek e (inr lost, d.here.1, d.here.2))

  pub pop2_lost : (p r : ℕ) → k p ≡ Pop2 r → IsTaken (m (Slot p (b p - 1))) → Board m (put k p Seek) (put b p (b p)) gone h
  pop2_lost p r e lost =
      let d = deque_as p (Pop2 r) e in
      keeps board
      (install_change m k b p (Pop2 r) Seek (b p) e None None record {
        push_to = λ q s. absurd s;
        push_from = λ q s. absurd s;
        pop_to = λ q s. absurd (pops_none (Pop2 r) _ q (inr lost) s);
        pop_from = λ q s. absurd s;
        steal_to = λ q s. absurd s;
        steal_from = λ q s. absurd s;
      })
      (here_deque p (Pop2 r) Seek e (inr lost, elim d.here.0 [ inl a ↦ a.1 | inr a ↦ absurd (not_local_taken _ (gives_local _ r a.0) lost) ], d.here.2))

  pub pop2_exchange : (p r t x : ℕ) → k p ≡ Pop2 r → Gives (m (Slot p (b p - 1))) r → m (Slot p (b p)) ≡ Local t x → Board (write m (Slot p (b p)) (Empty (t + 1))) k b gone h
  pop2_exchange p r t x e low is =
      let d = deque_as p (Pop2 r) e in
      let start = d.start in
      keeps board
      (entry_change m k b p (b p) (Local t x) (Empty (t + 1)) is None None record {
        job_to = λ t' q e. cc;
        job_from = λ t' q e. cc;
        taken_to = λ e. e;
        taken_from = λ p' t' q th ms e. cc;
        push_to = λ same q s. absurd (subst (λ (y : RestartKind). Pushes y (Local t x) q) e s);
        push_from = λ same q s. absurd (subst (λ (y : RestartKind). Pushes y (Empty (t + 1)) q) e s);
        pop_to = λ same. absurd (omega arith);
        pop_from = λ same. absurd (omega arith);
      })
      (own_deque p (b p) (Empty (t + 1)) (Pop2 r) e (subst (λ (w : Word). IsTaken w → ⊥) (sym is) (λ z. z)) (omega arith) (omega arith) (λ w here other.
      (inr (subst (λ (z : Word). Gives z r) (sym (other (b p - 1) (omega arith))) low, inl (subst IsEmpty (sym here) tt)), tt, subst IsEmpty (sym (other (b p + 1) (omega arith))) d.here.2)))

  pub pop2_begins : (p r f y : ℕ) → gone p ≡ false → k p ≡ Pop2 r → IsLocal (m (Slot p (b p - 1))) → IsEmpty (m (Slot p (b p)))
      → (h r ≡ Popping p) × Board m (put k p (Run f y)) (put b p (b p - 1)) gone (put h r Begun)
  pop2_begins p r f y mine e low up =
      let d = deque_as p (Pop2 r) e in
      let start = d.start in
      let ne : b p ≢ 1 = λ one. let z : b p - 1 ≡ 0 = omega arith in not_local_taken _ low (subst (λ (j : ℕ). IsTaken (m (Slot p j))) (sym z) d.floor) in
      let was : h r ≡ Popping p = board.only (Popping p) r tt mine (subst (λ (y : RestartKind). Pops y (m (Slot p (b p - 1))) r) (sym e) (refl, low)) in
      let next : (b p - 1 + 1) ≡ b p = omega arith in (
        was,
        moves r (Popping p) Begun board
            (install_change m k b p (Pop2 r) (Run f y) (b p - 1) e (Is r (Popping p)) (Is r Begun) record {
              push_to = λ q s. absurd s;
              push_from = λ q s. absurd s;
              pop_to = λ q s. inl (refl, sym s.0);
              pop_from = λ q s. absurd s;
              steal_to = λ q s. absurd s;
              steal_from = λ q s. absurd s;
            })
            was (λ c s. subst (λ (y : RestartKind). Pops y (m (Slot p (put b p (b p - 1) p - 1))) r) (put_here k p (Run f y)) s) tt tt
            (install_deque m k b p (Run f y) (b p - 1) board.deque record {
              start = omega arith;
              floor = d.floor;
              below = λ i lt. d.below i (omega arith);
              here = (d.below (b p - 1 - 1) (omega arith), low, subst (λ (j : ℕ). IsEmpty (m (Slot p j))) (sym next) up);
              above = λ i lt. elim (cases_eq i (b p + 1)) [
                | inl same ↦ subst (λ (j : ℕ). IsEmpty (m (Slot p j))) (sym same) d.here.2
                | inr other ↦ d.above i (omega arith)
              ];
            }),
      )

  -- the message of a place that steals nothing
  pub message_written : (p : ℕ) (w : Word) → k p ≡ Seek → Board (write m (Message p) w) k b gone h
  message_written p w e = keeps board
      (other_change m k b (Message p) w (λ v i e. cc)
      (λ q r same s. let is : q ≡ p = cc in subst (λ (y : RestartKind). Steals m q y r) (ap k is ∙ e) s)
      (λ q r same s. let is : q ≡ p = cc in subst (λ (y : RestartKind). Steals (write m (Message p) w) q y r) (ap k is ∙ e) s))
      (other_deque m k b (Message p) w (λ v i e. cc) board.deque)

  pub other_written : (c : Spot) (w : Word) → ((v i : ℕ) → Slot v i ≢ c) → ((p : ℕ) → Message p ≢ c) → Board (write m c w) k b gone h
  other_written c w entry message = keeps board (other_change m k b c w entry (λ p q e. absurd (message p e)) (λ p q e. absurd (message p e))) (other_deque m k b c w entry board.deque)

  pub steal_exchange : (p v i t r : ℕ) → gone p ≡ false → k p ≡ Steal v i → m (Message p) ≡ Job t r → m (Slot v i) ≡ Job t r
      → (h r ≡ Listed v i t) × Board (write m (Slot v i) (Taken (t + 1) p)) k b gone (put h r (Stolen p))
  steal_exchange p v i t r mine e ms is =
      let d = board.deque v in
      let was : h r ≡ Listed v i t = board.only (Listed v i t) r tt tt is in
      let job : IsJob (m (Slot v i)) = subst IsJob (sym is) tt in
      let message : write m (Slot v i) (Taken (t + 1) p) (Message p) ≡ Job t r = write_else m (Slot v i) (Taken (t + 1) p) (Message p) (λ e. cc) ∙ ms in (
        was,
        moves r (Listed v i t) (Stolen p) board
            (entry_change m k b v i (Job t r) (Taken (t + 1) p) is (Is r (Listed v i t)) (Is r (Stolen p)) record {
              job_to = λ t' q e. (cc, cc);
              job_from = λ t' q e. absurd (cc);
              taken_to = λ e. e;
              taken_from = λ p' t' q th ms' e. let same : p' ≡ p = cc in let back : m (Message p) ≡ Job t' q = subst (λ (c : ℕ). m (Message c) ≡ Job t' q) same ms' in (ap Stolen same, cc);
              push_to = λ same q s. inr (pushes_taken (k v) t r (t + 1) p q s);
              push_from = λ same q s. inr (taken_pushes (k v) t r (t + 1) p q s);
              pop_to = λ same q s. absurd (pops_none (k v) (Job t r) q (inl tt) s);
              pop_from = λ same q s. absurd (pops_none (k v) (Taken (t + 1) p) q (inr tt) s);
            })
            was (λ c s. absurd (let e : Taken (t + 1) p ≡ Job t r = sym (write_here m (Slot v i) (Taken (t + 1) p)) ∙ s in cc))
            (subst (λ (y : RestartKind). Steals (write m (Slot v i) (Taken (t + 1) p)) p y r) (sym e) (t, message, write_here m (Slot v i) (Taken (t + 1) p))) mine
            (entry_deque m k b v i (Taken (t + 1) p) board.deque (λ w here other.
            let or : (j : ℕ) → OrTaken (m (Slot v j)) (w j) = λ j. elim (cases_eq j i) [
              | inl same ↦ inr (subst (λ (x : ℕ). IsJob (m (Slot v x)) × IsTaken (w x)) (sym same) (job, subst IsTaken (sym here) tt))
              | inr ne ↦ inl (other j ne)
            ] in record {
              start = d.start;
              floor = taken_or _ _ (or 0) d.floor;
              below = λ j lt. ticket_or _ _ (or j) (d.below j lt);
              here = bottom_or (k v) _ _ _ _ _ _ (or (b v - 1)) (or (b v)) (or (b v + 1)) d.here;
              above = λ j lt. empty_or _ _ (or j) (d.above j lt);
            })),
      )

  pub begins : (p v i t r f y : ℕ) → gone p ≡ false → k p ≡ Check v i → m (Message p) ≡ Job t r → m (Slot v i) ≡ Taken (t + 1) p
      → (h r ≡ Stolen p) × Board m (put k p (Run f y)) (put b p (b p)) gone (put h r Begun)
  begins p v i t r f y mine e ms is =
      let was : h r ≡ Stolen p = board.only (Stolen p) r tt mine (subst (λ (y : RestartKind). Steals m p y r) (sym e) (t, ms, is)) in (
        was,
        moves r (Stolen p) Begun board
            (install_change m k b p (Check v i) (Run f y) (b p) e (Is r (Stolen p)) (Is r Begun) record {
              push_to = λ q s. absurd s;
              push_from = λ q s. absurd s;
              pop_to = λ q s. absurd s;
              pop_from = λ q s. absurd s;
              steal_to = λ q s. let t' = s.0 in let ms' = s.1 in inl (refl, cc);
              steal_from = λ q s. absurd s;
            })
            was (λ c s. subst (λ (y : RestartKind). Steals m p y r) (put_here k p (Run f y)) s) tt tt
            (here_deque p (Check v i) (Run f y) e (deque_as p (Check v i) e).here),
      )
