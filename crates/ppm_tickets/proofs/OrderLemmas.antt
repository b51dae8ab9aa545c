-- Jobs are taken from the top, after one change.
use Rattle.std.proofs.Common.{◌+◌, ◌≡◌, ◌≢◌, ◌<◌, ℕ, inl, inr, sym, ap, ◌∙◌, subst, arith}
use Rattle.std.proofs.lemmas.Bool.{cases_eq}
use Rattle.ppm_cells.specs.declared.restart.RestartKind.{RestartKind}
use Rattle.ppm_cells.specs.declared.restart.RestartKind.TheVariants.{Steal, Check}
use Rattle.ppm_tickets.specs.Words.{Word, Number, Spot, Top, Slot, put, write}
use Rattle.ppm_tickets.specs.Lawful.{IsTaken, tag, Aims, Order}
use Rattle.ppm_tickets.proofs.WriteLemmas.{put_here, put_else, write_here, write_else, same_spot_or}

aims_kept : (m n : Spot → Word) (k : RestartKind) → ((v i : ℕ) → IsTaken (m (Slot v i)) → IsTaken (n (Slot v i))) → Aims m k → Aims n k
aims_kept m n (Steal v i) f a = λ j lt. f v j (a j lt)
aims_kept m n (Check v i) f a = λ j lt. f v j (a j lt)
aims_kept m n _ f a = tt

module _ {m : Spot → Word} {k : ℕ → RestartKind} (o : Order m k) where
  pub order_entry : (v i : ℕ) (w : Word) → (IsTaken (m (Slot v i)) → ⊥) → (IsTaken w → (j : ℕ) → j < i → IsTaken (m (Slot v j))) → Order (write m (Slot v i) w) k
  order_entry v i w free low = record {
    passed = λ x j lt. kept x j (o.passed x j (subst (λ (y : Word). j < tag y) (write_else m (Slot v i) w (Top x) (λ e. cc)) lt));
    first = λ x a j lt is. elim (same_spot_or (Slot x j) (Slot v i)) [
      | inl e ↦ let xv : x ≡ v = cc in let ji : j ≡ i = cc in
          kept x a (subst (λ (y : ℕ). IsTaken (m (Slot y a))) (sym xv) (low (subst IsTaken (ap (write m (Slot v i) w) e ∙ write_here m (Slot v i) w) is) a (omega arith)))
      | inr ne ↦ kept x a (o.first x a j lt (subst IsTaken (write_else m (Slot v i) w (Slot x j) ne) is))
    ];
    aimed = λ p. aims_kept m (write m (Slot v i) w) (k p) kept (o.aimed p);
  }
    where
      kept : (x j : ℕ) → IsTaken (m (Slot x j)) → IsTaken (write m (Slot v i) w (Slot x j))
      kept x j is = elim (same_spot_or (Slot x j) (Slot v i)) [
        | inl e ↦ absurd (free (subst (λ (c : Spot). IsTaken (m c)) e is))
        | inr ne ↦ subst IsTaken (sym (write_else m (Slot v i) w (Slot x j) ne)) is
      ]

  pub order_top : (v i : ℕ) → m (Top v) ≡ Number i → IsTaken (m (Slot v i)) → Order (write m (Top v) (Number (i + 1))) k
  order_top v i was here = record {
    passed = λ x j lt. kept x j (elim (cases_eq x v) [
      | inl e ↦
          let now : j < i + 1 = subst (λ (y : Word). j < tag y) (ap (write m (Top v) (Number (i + 1))) (ap Top e) ∙ write_here m (Top v) (Number (i + 1))) lt in
          subst (λ (y : ℕ). IsTaken (m (Slot y j))) (sym e) (elim (cases_eq j i) [
            | inl same ↦ subst (λ (y : ℕ). IsTaken (m (Slot v y))) (sym same) here
            | inr ne ↦ o.passed v j (subst (λ (y : Word). j < tag y) (sym was) (omega arith))
          ])
      | inr ne ↦ o.passed x j (subst (λ (y : Word). j < tag y) (write_else m (Top v) (Number (i + 1)) (Top x) (λ e. ne (cc))) lt)
    ]);
    first = λ x a j lt is. kept x a (o.first x a j lt (subst IsTaken (write_else m (Top v) (Number (i + 1)) (Slot x j) (λ e. cc)) is));
    aimed = λ p. aims_kept m (write m (Top v) (Number (i + 1))) (k p) kept (o.aimed p);
  }
    where
      kept : (x j : ℕ) → IsTaken (m (Slot x j)) → IsTaken (write m (Top v) (Number (i + 1)) (Slot x j))
      kept x j is = subst IsTaken (sym (write_else m (Top v) (Number (i + 1)) (Slot x j) (λ e. cc))) is

  pub order_other : (c : Spot) (w : Word) → ((v i : ℕ) → Slot v i ≢ c) → ((v : ℕ) → Top v ≢ c) → Order (write m c w) k
  order_other c w entry top = record {
    passed = λ x j lt. kept x j (o.passed x j (subst (λ (y : Word). j < tag y) (write_else m c w (Top x) (top x)) lt));
    first = λ x a j lt is. kept x a (o.first x a j lt (subst IsTaken (write_else m c w (Slot x j) (entry x j)) is));
    aimed = λ q. aims_kept m (write m c w) (k q) kept (o.aimed q);
  }
    where
      kept : (x j : ℕ) → IsTaken (m (Slot x j)) → IsTaken (write m c w (Slot x j))
      kept x j is = subst IsTaken (sym (write_else m c w (Slot x j) (entry x j))) is

  pub order_install : (p : ℕ) (new : RestartKind) → Aims m new → Order m (put k p new)
  order_install p new aim = record {
    passed = o.passed;
    first = o.first;
    aimed = λ q. elim (cases_eq q p) [
      | inl e ↦ subst (Aims m) (sym (ap (put k p new) e ∙ put_here k p new)) aim
      | inr ne ↦ subst (Aims m) (sym (put_else k p new q ne)) (o.aimed q)
    ];
  }
