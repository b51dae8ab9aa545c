-- Who holds a place, after one change.
use Rattle.std.proofs.Common.{◌≡◌, ◌≢◌, ◌≤◌, ℕ, inl, inr, sym, ap, ◌∙◌, subst, subst₂, le_trans, le_refl}
use Rattle.std.proofs.lemmas.Bool.{cases_eq}
use Rattle.ppm_cells.specs.declared.restart.RestartKind.{RestartKind}
use Rattle.ppm_cells.specs.declared.restart.RestartKind.TheVariants.{Take}
use Rattle.ppm_tickets.specs.Words.{Word, Held, Number, Spot, Bid, Holder, Carry, Dead, put, write}
use Rattle.ppm_tickets.specs.Lawful.{IsDead, Names, tag, IsAlive, Dooms, Holding}
use Rattle.ppm_tickets.proofs.WriteLemmas.{put_here, put_else, write_here, write_else, same_spot_or}

-- kinds that bid for no place
abbrev pub IsIdle : RestartKind → Type 0
IsIdle (Take v d) = ⊥
IsIdle _ = Unit {0}

idle_dooms : (n : Spot → Word) (p : ℕ) (k : RestartKind) → IsIdle k → Dooms n p k
idle_dooms n p (Take v d) is = absurd is
idle_dooms n p _ is = tt

pub dooms_kept : (m n : Spot → Word) (p : ℕ) (k : RestartKind) → n (Bid p) ≡ m (Bid p) → ((v : ℕ) → tag (m (Holder v)) ≤ tag (n (Holder v))) → ((d : ℕ) → IsDead (m (Dead d)) → IsDead (n (Dead d))) → Dooms m p k → Dooms n p k
dooms_kept m n p (Take v d) f g h a = (a.0, a.1, f ∙ a.2, le_trans a.3 (g v), elim a.4 [ inl z ↦ inl (h d z) | inr lt ↦ inr (le_trans lt (g v)) ])
dooms_kept m n p _ f g h a = tt

same_tag : (u w : Word) → w ≡ u → tag u ≤ tag w
same_tag u w e = subst (λ (x : Word). tag u ≤ tag x) (sym e) (le_refl (tag u))

module _ {m : Spot → Word} {k : ℕ → RestartKind} (hold : Holding m k) where
  pub holding_other : (c : Spot) (w : Word) → ((d : ℕ) → Holder d ≢ c) → ((d : ℕ) → Carry d ≢ c) → ((d : ℕ) → Dead d ≢ c) → ((p : ℕ) → Bid p ≡ c → IsIdle (k p)) → Holding (write m c w) k
  holding_other c w holder carry dead message = record {
    held = λ d q alive is. subst (λ (x : Word). Names x d) (sym (write_else m c w (Holder q) (holder q)))
        (hold.held d q (λ z. alive (subst IsDead (sym (write_else m c w (Dead d) (dead d))) z)) (sym (write_else m c w (Carry d) (carry d)) ∙ is));
    carried = λ d. let old = hold.carried d in (old.0, write_else m c w (Carry d) (carry d) ∙ old.1);
    doomed = λ p. elim (same_spot_or (Bid p) c) [
      | inl e ↦ idle_dooms (write m c w) p (k p) (message p e)
      | inr ne ↦ dooms_kept m (write m c w) p (k p) (write_else m c w (Bid p) ne) (λ v. same_tag _ _ (write_else m c w (Holder v) (holder v))) (λ d z. subst IsDead (sym (write_else m c w (Dead d) (dead d))) z) (hold.doomed p)
    ];
  }

  pub holding_install : (p : ℕ) (new : RestartKind) → Dooms m p new → Holding m (put k p new)
  holding_install p new doom = record {
    held = hold.held;
    carried = hold.carried;
    doomed = λ q. elim (cases_eq q p) [
      | inl e ↦ subst (λ (x : ℕ). Dooms m x (put k p new x)) (sym e) (subst (Dooms m p) (sym (put_here k p new)) doom)
      | inr ne ↦ subst (Dooms m q) (sym (put_else k p new q ne)) (hold.doomed q)
    ];
  }

  -- a dead processor's place is bid for
  pub holding_bid : (v t h : ℕ) (w : Word) → IsDead (m (Dead h)) → m (Holder v) ≡ Held t h → t ≤ tag w → Holding (write m (Holder v) w) k
  holding_bid v t h w dead was rise = record {
    held = λ d q alive is.
        let alive' : IsAlive m d = λ z. alive (subst IsDead (sym (write_else m (Holder v) w (Dead d) (λ e. cc))) z) in
        let old = hold.held d q alive' (sym (write_else m (Holder v) w (Carry d) (λ e. cc)) ∙ is) in
        elim (cases_eq q v) [
          | inl e ↦ absurd (alive' (subst (λ (x : ℕ). IsDead (m (Dead x))) (subst (λ (x : Word). Names x d) (ap (λ (x : ℕ). m (Holder x)) e ∙ was) old) dead))
          | inr ne ↦ subst (λ (x : Word). Names x d) (sym (write_else m (Holder v) w (Holder q) (λ e. ne (cc)))) old
        ];
    carried = λ d. let old = hold.carried d in (old.0, write_else m (Holder v) w (Carry d) (λ e. cc) ∙ old.1);
    doomed = λ p. dooms_kept m (write m (Holder v) w) p (k p) (write_else m (Holder v) w (Bid p) (λ e. cc))
        (λ x. elim (cases_eq x v) [
          | inl e ↦ subst (λ (y : ℕ). tag (m (Holder y)) ≤ tag (write m (Holder v) w (Holder y))) (sym e)
              (subst₂ (λ (a b : Word). tag a ≤ tag b) (sym was) (sym (write_here m (Holder v) w)) rise)
          | inr ne ↦ same_tag _ _ (write_else m (Holder v) w (Holder x) (λ e. ne (cc)))
        ]) (λ d z. subst IsDead (sym (write_else m (Holder v) w (Dead d) (λ e. cc))) z) (hold.doomed p);
  }

  -- a processor carries a place that it holds
  pub holding_move : (o v : ℕ) → Names (m (Holder v)) o → Holding (write m (Carry o) (Number v)) k
  holding_move o v mine = record {
    held = λ d q alive is. subst (λ (x : Word). Names x d) (sym (write_else m (Carry o) (Number v) (Holder q) (λ e. cc)))
        (elim (cases_eq d o) [
          | inl e ↦
              let same : Number v ≡ Number q = sym (write_here m (Carry o) (Number v)) ∙ ap (λ (x : ℕ). write m (Carry o) (Number v) (Carry x)) (sym e) ∙ is in
              let at : v ≡ q = cc in
              subst (λ (x : ℕ). Names (m (Holder x)) d) at (subst (Names (m (Holder v))) (sym e) mine)
          | inr ne ↦ hold.held d q (λ z. alive (subst IsDead (sym (write_else m (Carry o) (Number v) (Dead d) (λ e. cc))) z)) (sym (write_else m (Carry o) (Number v) (Carry d) (λ e. ne (cc))) ∙ is)
        ]);
    carried = λ d. elim (cases_eq d o) [
      | inl e ↦ (v, ap (λ (x : ℕ). write m (Carry o) (Number v) (Carry x)) e ∙ write_here m (Carry o) (Number v))
      | inr ne ↦ let old = hold.carried d in (old.0, write_else m (Carry o) (Number v) (Carry d) (λ e. ne (cc)) ∙ old.1)
    ];
    doomed = λ p. dooms_kept m (write m (Carry o) (Number v)) p (k p) (write_else m (Carry o) (Number v) (Bid p) (λ e. cc)) (λ x. same_tag _ _ (write_else m (Carry o) (Number v) (Holder x) (λ e. cc))) (λ d z. subst IsDead (sym (write_else m (Carry o) (Number v) (Dead d) (λ e. cc))) z) (hold.doomed p);
  }

  pub dead_stays : (o d : ℕ) → IsDead (m (Dead d)) → IsDead (write m (Dead o) (Number 1) (Dead d))
  dead_stays o d z = elim (cases_eq d o) [
    | inl e ↦ subst IsDead (sym (ap (λ (x : ℕ). write m (Dead o) (Number 1) (Dead x)) e ∙ write_here m (Dead o) (Number 1))) tt
    | inr ne ↦ subst IsDead (sym (write_else m (Dead o) (Number 1) (Dead d) (λ e. ne (cc)))) z
  ]

  pub holding_die : (o : ℕ) → Holding (write m (Dead o) (Number 1)) k
  holding_die o = record {
    held = λ d q alive is. subst (λ (x : Word). Names x d) (sym (write_else m (Dead o) (Number 1) (Holder q) (λ e. cc)))
        (hold.held d q (λ z. alive (dead_stays o d z)) (sym (write_else m (Dead o) (Number 1) (Carry d) (λ e. cc)) ∙ is));
    carried = λ d. let old = hold.carried d in (old.0, write_else m (Dead o) (Number 1) (Carry d) (λ e. cc) ∙ old.1);
    doomed = λ p. dooms_kept m (write m (Dead o) (Number 1)) p (k p) (write_else m (Dead o) (Number 1) (Bid p) (λ e. cc)) (λ x. same_tag _ _ (write_else m (Dead o) (Number 1) (Holder x) (λ e. cc))) (dead_stays o) (hold.doomed p);
  }
