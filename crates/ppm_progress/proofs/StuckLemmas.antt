-- A fork, a deque and holder words with which nobody ever works again, and each of which one fact of a run's state allows.
use Rattle.std.proofs.Common.{◌≡◌, ◌<◌, ℕ, zero, suc, ◌+◌, ◌==◌, Bool, true, false, if◌then◌else◌, inl, inr, refl, sym, ap, subst, arith}
use Rattle.ppm_cells.specs.declared.restart.RestartKind.TheVariants.{Run, Seek}
use Rattle.ppm_tickets.specs.Lawful.{IsEmpty, IsTicket, IsDead, IsAlive, Names, Dooms}
use Rattle.ppm_tickets.specs.Words.{Word, Number, Spot, Holder, Dead}
use Rattle.ppm_frames.specs.Skeletons.{Stand, Came, Leaf, Forking}
use Rattle.ppm_advance.specs.Advance.{HasReady}
use Rattle.ppm_progress.specs.Stuck.{OrdersAllowBothToCome, with_job, DequesAllowIdleJobs, left_behind, HoldersAllowALeftPlace}

none_ready : (f n y r : ℕ) (st su : Stand) (g m k l : ℕ) → HasReady (Forking f n y r (Leaf Came st g m) (Leaf Came su k l)) → ⊥
none_ready f n y r st su g m k l (inl strand) = let one = strand.1 in omega (arith, one)
none_ready f n y r st su g m k l (inr (inl waits)) = cc
none_ready f n y r st su g m k l (inr (inr (inl none))) = none
none_ready f n y r st su g m k l (inr (inr (inr none))) = none

pub orders_allow_both : OrdersAllowBothToCome
orders_allow_both f n y r st su g m k l = (refl, none_ready f n y r st su g m k l)

below_two : (t r i : ℕ) → i + 1 < 2 → IsTicket (with_job t r i)
below_two t r zero lt = inr tt
below_two t r (suc i) lt = absurd (omega (arith, lt))

above_three : (t r i : ℕ) → 3 < i → IsEmpty (with_job t r i)
above_three t r zero lt = absurd (omega (arith, lt))
above_three t r (suc zero) lt = absurd (omega (arith, lt))
above_three t r (suc (suc zero)) lt = absurd (omega (arith, lt))
above_three t r (suc (suc (suc i))) lt = tt

pub deques_allow_idle_jobs : DequesAllowIdleJobs
deques_allow_idle_jobs t r = (
  record { start = omega arith; floor = tt; below = below_two t r; here = (inl tt, tt, tt); above = above_three t r },
  tt,
)

-- processor 1 is dead, and each other one holds its own place
own_held : (c : ℕ) → IsAlive left_behind c → Names (left_behind (Holder c)) c
own_held zero alive = refl
own_held (suc zero) alive = absurd (alive tt)
own_held (suc (suc c)) alive = refl

abbrev number_in : Word → ℕ
number_in (Number n) = n
number_in _ = 0

dooms_none : (m : Spot → Word) (p : ℕ) (y : Bool) (f c : ℕ) → Dooms m p (if y then Run f c else Seek)
dooms_none m p true f c = tt
dooms_none m p false f c = tt

pub holders_allow_a_left_place : HoldersAllowALeftPlace
holders_allow_a_left_place f y = (
  record {
    held = λ c p alive carry. let same : c ≡ p = ap number_in carry in subst (λ (q : ℕ). Names (left_behind (Holder q)) c) same (own_held c alive);
    carried = λ c. (c, refl);
    doomed = λ p. dooms_none left_behind p (p == 1) f y;
  },
  refl,
  λ dead. dead,
  λ c alive carry. let one : c ≡ 1 = ap number_in carry in alive (subst (λ (q : ℕ). IsDead (left_behind (Dead q))) (sym one) tt),
)
