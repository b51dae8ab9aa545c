-- The deques' shape after one change.
use Rattle.std.proofs.Common.{◌≡◌, ◌≢◌, ℕ, inl, inr, sym, subst, subst₂}
use Rattle.std.proofs.lemmas.Bool.{cases_eq}
use mathlib.Core.Path.{fun_ext}
use Rattle.ppm_cells.specs.declared.restart.RestartKind.{RestartKind}
use Rattle.ppm_tickets.specs.Words.{Word, Spot, Slot, put, write}
use Rattle.ppm_tickets.specs.Lawful.{Deque}
use Rattle.ppm_tickets.proofs.WriteLemmas.{put_here, put_else, write_here, write_else}

-- of all places the one that changed, and the others
each : (P : ℕ → Type 0) (p : ℕ) → P p → ((v : ℕ) → v ≢ p → P v) → (v : ℕ) → P v
each P p here else v = elim (cases_eq v p) [ inl e ↦ subst P (sym e) here | inr ne ↦ else v ne ]

pub install_deque : (m : Spot → Word) (k : ℕ → RestartKind) (b : ℕ → ℕ) (p : ℕ) (new : RestartKind) (low : ℕ) → ((v : ℕ) → Deque (k v) (b v) (λ i. m (Slot v i)))
    → Deque new low (λ i. m (Slot p i)) → (v : ℕ) → Deque (put k p new v) (put b p low v) (λ i. m (Slot v i))
install_deque m k b p new low old d = each _ p
    (subst₂ (λ (x : RestartKind) (y : ℕ). Deque x y (λ i. m (Slot p i))) (sym (put_here k p new)) (sym (put_here b p low)) d)
    (λ v ne. subst₂ (λ (x : RestartKind) (y : ℕ). Deque x y (λ i. m (Slot v i))) (sym (put_else k p new v ne)) (sym (put_else b p low v ne)) (old v))

pub other_deque : (m : Spot → Word) (k : ℕ → RestartKind) (b : ℕ → ℕ) (c : Spot) (w : Word) → ((v i : ℕ) → Slot v i ≢ c) → ((v : ℕ) → Deque (k v) (b v) (λ i. m (Slot v i)))
    → (v : ℕ) → Deque (k v) (b v) (λ i. write m c w (Slot v i))
other_deque m k b c w ne old v = subst (λ (e : ℕ → Word). Deque (k v) (b v) e) (fun_ext (λ i. sym (write_else m c w (Slot v i) (ne v i)))) (old v)

pub entry_deque : (m : Spot → Word) (k : ℕ → RestartKind) (b : ℕ → ℕ) (v i : ℕ) (w : Word) → ((x : ℕ) → Deque (k x) (b x) (λ j. m (Slot x j)))
    → ((e : ℕ → Word) → e i ≡ w → ((j : ℕ) → j ≢ i → e j ≡ m (Slot v j)) → Deque (k v) (b v) e)
    → (x : ℕ) → Deque (k x) (b x) (λ j. write m (Slot v i) w (Slot x j))
entry_deque m k b v i w old new = each _ v
    (new _ (write_here m (Slot v i) w) (λ j ne. write_else m (Slot v i) w (Slot v j) (λ e. ne (cc))))
    (λ x ne. subst (λ (e : ℕ → Word). Deque (k x) (b x) e) (fun_ext (λ j. sym (write_else m (Slot v i) w (Slot x j) (λ e. ne (cc))))) (old x))
