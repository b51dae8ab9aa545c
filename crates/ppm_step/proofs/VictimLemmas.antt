-- Victims: where one is due the step loads its holder word, and elsewhere it doesn't matter which a turn names.
use Rattle.std.proofs.Common.{◌≡◌, ◌≢◌, ℕ, zero, suc, ◌+◌, ◌*◌, ◌<◌, ◌≤◌, ◌⊎◌, inl, inr, Bool, true, false, sym, refl, ap, ◌∙◌, arith, ◌==◌, if◌then◌else◌}
use Rattle.std.proofs.lemmas.Bool.{cases_order, eq-eqb}
use Rattle.std.proofs.lemmas.Bool.Decides.{eqb_tells}
use Rattle.ppm_cells.specs.Cells.{address, place_size}
use Rattle.ppm_cells.specs.declared.cell.Cell.TheVariants.{HolderWord}
use Rattle.ppm_cells.specs.declared.shape.Shape.{Shape}
use Rattle.ppm_code.specs.declared.code.CodeParts.{CodeParts}
use Rattle.ppm_step.specs.declared.ask.Want.TheVariants.{Loads}
use Rattle.ppm_step.specs.declared.row.Point.TheVariants.{Header, BumpLink, PushOrder, PushAbove, PushBottom, UnwindLink, UnwindOutcome, Target}
use Rattle.ppm_step.specs.declared.row.Point.TheVariants.{GivenValue, JoinOrder, JoinLink, JoinLeft, JoinRight, RightFrame, Offset, PopBelow}
use Rattle.ppm_step.specs.declared.row.Point.TheVariants.{PopAgain, PopAbove, SeekHolder, SeekDead, SeekTop, SeekEntry, SeekClosed, StealMessage}
use Rattle.ppm_step.specs.declared.row.Point.TheVariants.{TakenMessage, TakenEntry, ClosedRestart, ClosedLink, ClosedBottom, BidMessage, BidAgain, BidHolder}
use Rattle.ppm_step.specs.declared.row.Then.TheVariants.{Load, Install, Fork, Begin, Move, Enter, Again, Broken}
use Rattle.ppm_step.specs.declared.row.Row.TheVariants.{Now, Store, Exchange}
use Rattle.ppm_step.specs.Standings.{Standing, IsLost, IsPlaced, IsAt, IsWithin, IsRunning, IsBroken, IsDone, wanted, went}
use Rattle.ppm_step.specs.State.{seeks_holder}
use Rattle.ppm_step.specs.Stood.{holder_below, holder_at}

-- where a victim is due, the step loads its holder word
pub loads_holder : (s : Shape) (own victim : ℕ) (standing : Standing) → seeks_holder standing ≡ true
    → wanted s own victim standing ≡ Loads (address s (HolderWord victim))
loads_holder s own victim IsLost e = cc
loads_holder s own victim (IsPlaced place) e = cc
loads_holder s own victim (IsAt place restart) e = cc
loads_holder s own victim (IsWithin seat (Now (Load (Header a0 a1)))) e = cc
loads_holder s own victim (IsWithin seat (Now (Load (BumpLink a0)))) e = cc
loads_holder s own victim (IsWithin seat (Now (Load (PushOrder a0)))) e = cc
loads_holder s own victim (IsWithin seat (Now (Load (PushAbove a0)))) e = cc
loads_holder s own victim (IsWithin seat (Now (Load (PushBottom a0)))) e = cc
loads_holder s own victim (IsWithin seat (Now (Load (UnwindLink a0)))) e = cc
loads_holder s own victim (IsWithin seat (Now (Load (UnwindOutcome a0 a1)))) e = cc
loads_holder s own victim (IsWithin seat (Now (Load (Target a0 a1 a2 a3)))) e = cc
loads_holder s own victim (IsWithin seat (Now (Load (GivenValue a0 a1 a2 a3 a4)))) e = cc
loads_holder s own victim (IsWithin seat (Now (Load (JoinOrder a0 a1)))) e = cc
loads_holder s own victim (IsWithin seat (Now (Load (JoinLink a0)))) e = cc
loads_holder s own victim (IsWithin seat (Now (Load (JoinLeft a0 a1 a2)))) e = cc
loads_holder s own victim (IsWithin seat (Now (Load (JoinRight a0 a1 a2 a3)))) e = cc
loads_holder s own victim (IsWithin seat (Now (Load (RightFrame a0 a1 a2)))) e = cc
loads_holder s own victim (IsWithin seat (Now (Load (Offset a0 a1)))) e = cc
loads_holder s own victim (IsWithin seat (Now (Load PopBelow))) e = cc
loads_holder s own victim (IsWithin seat (Now (Load (PopAgain a0)))) e = cc
loads_holder s own victim (IsWithin seat (Now (Load (PopAbove a0)))) e = cc
loads_holder s own victim (IsWithin seat (Now (Load SeekHolder))) e = refl
loads_holder s own victim (IsWithin seat (Now (Load (SeekDead a0 a1)))) e = cc
loads_holder s own victim (IsWithin seat (Now (Load (SeekTop a0)))) e = cc
loads_holder s own victim (IsWithin seat (Now (Load (SeekEntry a0 a1)))) e = cc
loads_holder s own victim (IsWithin seat (Now (Load (SeekClosed a0 a1 a2)))) e = cc
loads_holder s own victim (IsWithin seat (Now (Load (StealMessage a0 a1)))) e = cc
loads_holder s own victim (IsWithin seat (Now (Load (TakenMessage a0 a1 a2)))) e = cc
loads_holder s own victim (IsWithin seat (Now (Load (TakenEntry a0 a1 a2 a3)))) e = cc
loads_holder s own victim (IsWithin seat (Now (Load (ClosedRestart a0 a1 a2)))) e = cc
loads_holder s own victim (IsWithin seat (Now (Load (ClosedLink a0)))) e = cc
loads_holder s own victim (IsWithin seat (Now (Load (ClosedBottom a0 a1 a2)))) e = cc
loads_holder s own victim (IsWithin seat (Now (Load (BidMessage a0 a1)))) e = cc
loads_holder s own victim (IsWithin seat (Now (Load (BidAgain a0)))) e = cc
loads_holder s own victim (IsWithin seat (Now (Load (BidHolder a0 a1)))) e = cc
loads_holder s own victim (IsWithin seat (Now (Install a))) e = cc
loads_holder s own victim (IsWithin seat (Now (Fork a))) e = cc
loads_holder s own victim (IsWithin seat (Now (Begin a b c))) e = cc
loads_holder s own victim (IsWithin seat (Now (Move a))) e = cc
loads_holder s own victim (IsWithin seat (Now (Enter a))) e = cc
loads_holder s own victim (IsWithin seat (Now Again)) e = cc
loads_holder s own victim (IsWithin seat (Now Broken)) e = cc
loads_holder s own victim (IsWithin seat (Store a b c)) e = cc
loads_holder s own victim (IsWithin seat (Exchange a b c d)) e = cc
loads_holder s own victim (IsRunning seat rest) e = cc
loads_holder s own victim (IsBroken place) e = cc
loads_holder s own victim IsDone e = cc

-- elsewhere than at the load of a holder word it doesn't matter which victim a turn names
pub any_victim : (s : Shape) (code : CodeParts) (own v w found : ℕ) (standing : Standing) → seeks_holder standing ≡ false
    → went s code own v found standing ≡ went s code own w found standing
any_victim s code own v w found IsLost e = refl
any_victim s code own v w found (IsPlaced place) e = refl
any_victim s code own v w found (IsAt place restart) e = refl
any_victim s code own v w found (IsWithin seat (Now (Load (Header a0 a1)))) e = refl
any_victim s code own v w found (IsWithin seat (Now (Load (BumpLink a0)))) e = refl
any_victim s code own v w found (IsWithin seat (Now (Load (PushOrder a0)))) e = refl
any_victim s code own v w found (IsWithin seat (Now (Load (PushAbove a0)))) e = refl
any_victim s code own v w found (IsWithin seat (Now (Load (PushBottom a0)))) e = refl
any_victim s code own v w found (IsWithin seat (Now (Load (UnwindLink a0)))) e = refl
any_victim s code own v w found (IsWithin seat (Now (Load (UnwindOutcome a0 a1)))) e = refl
any_victim s code own v w found (IsWithin seat (Now (Load (Target a0 a1 a2 a3)))) e = refl
any_victim s code own v w found (IsWithin seat (Now (Load (GivenValue a0 a1 a2 a3 a4)))) e = refl
any_victim s code own v w found (IsWithin seat (Now (Load (JoinOrder a0 a1)))) e = refl
any_victim s code own v w found (IsWithin seat (Now (Load (JoinLink a0)))) e = refl
any_victim s code own v w found (IsWithin seat (Now (Load (JoinLeft a0 a1 a2)))) e = refl
any_victim s code own v w found (IsWithin seat (Now (Load (JoinRight a0 a1 a2 a3)))) e = refl
any_victim s code own v w found (IsWithin seat (Now (Load (RightFrame a0 a1 a2)))) e = refl
any_victim s code own v w found (IsWithin seat (Now (Load (Offset a0 a1)))) e = refl
any_victim s code own v w found (IsWithin seat (Now (Load PopBelow))) e = refl
any_victim s code own v w found (IsWithin seat (Now (Load (PopAgain a0)))) e = refl
any_victim s code own v w found (IsWithin seat (Now (Load (PopAbove a0)))) e = refl
any_victim s code own v w found (IsWithin seat (Now (Load SeekHolder))) e = cc
any_victim s code own v w found (IsWithin seat (Now (Load (SeekDead a0 a1)))) e = refl
any_victim s code own v w found (IsWithin seat (Now (Load (SeekTop a0)))) e = refl
any_victim s code own v w found (IsWithin seat (Now (Load (SeekEntry a0 a1)))) e = refl
any_victim s code own v w found (IsWithin seat (Now (Load (SeekClosed a0 a1 a2)))) e = refl
any_victim s code own v w found (IsWithin seat (Now (Load (StealMessage a0 a1)))) e = refl
any_victim s code own v w found (IsWithin seat (Now (Load (TakenMessage a0 a1 a2)))) e = refl
any_victim s code own v w found (IsWithin seat (Now (Load (TakenEntry a0 a1 a2 a3)))) e = refl
any_victim s code own v w found (IsWithin seat (Now (Load (ClosedRestart a0 a1 a2)))) e = refl
any_victim s code own v w found (IsWithin seat (Now (Load (ClosedLink a0)))) e = refl
any_victim s code own v w found (IsWithin seat (Now (Load (ClosedBottom a0 a1 a2)))) e = refl
any_victim s code own v w found (IsWithin seat (Now (Load (BidMessage a0 a1)))) e = refl
any_victim s code own v w found (IsWithin seat (Now (Load (BidAgain a0)))) e = refl
any_victim s code own v w found (IsWithin seat (Now (Load (BidHolder a0 a1)))) e = refl
any_victim s code own v w found (IsWithin seat (Now (Install a))) e = refl
any_victim s code own v w found (IsWithin seat (Now (Fork a))) e = refl
any_victim s code own v w found (IsWithin seat (Now (Begin a b c))) e = refl
any_victim s code own v w found (IsWithin seat (Now (Move a))) e = refl
any_victim s code own v w found (IsWithin seat (Now (Enter a))) e = refl
any_victim s code own v w found (IsWithin seat (Now Again)) e = refl
any_victim s code own v w found (IsWithin seat (Now Broken)) e = refl
any_victim s code own v w found (IsWithin seat (Store a b c)) e = refl
any_victim s code own v w found (IsWithin seat (Exchange a b c d)) e = refl
any_victim s code own v w found (IsRunning seat rest) e = refl
any_victim s code own v w found (IsBroken place) e = refl
any_victim s code own v w found IsDone e = refl

-- no two places have one holder word
apart : (s : Shape) (n v : ℕ) → v < n → address s (HolderWord n) ≢ address s (HolderWord v)
apart s n v less same =
    let grows : v * place_size s + place_size s ≡ (v + 1) * place_size s = grind arith in
    let most : (v + 1) * place_size s ≤ n * place_size s = grind arith in
    absurd (omega (arith, same, grows, most))

pub holder_is : (s : Shape) (n v : ℕ) → v < n → holder_below s n (address s (HolderWord v)) ≡ v
holder_is s zero v less = absurd (omega (arith, less))
holder_is s (suc n) v less =
    by (address s (HolderWord n) == address s (HolderWord v)) (eqb_tells (address s (HolderWord n)) (address s (HolderWord v))) (cases_order v n)
    (λ small. holder_is s n v small)
  where
    by : (b : Bool) → ((b ≡ true) × (address s (HolderWord n) ≡ address s (HolderWord v)))
        ⊎ ((b ≡ false) × (address s (HolderWord n) ≢ address s (HolderWord v)))
        → (v ≡ n) ⊎ ((v < n) ⊎ (n < v)) → (v < n → holder_below s n (address s (HolderWord v)) ≡ v)
        → (if b then n else holder_below s n (address s (HolderWord v))) ≡ v
    by true t (inl same) rest = sym same
    by true (inl t) (inr (inl small)) rest = absurd (apart s n v small t.1)
    by true (inr t) (inr (inl small)) rest = cc (t.0)
    by b t (inr (inr more)) rest = absurd (omega (arith, less, more))
    by false (inl t) (inl same) rest = cc (t.0)
    by false (inr t) (inl same) rest = absurd (t.1 (ap (λ m. address s (HolderWord m)) (sym same)))
    by false t (inr (inl small)) rest = rest small

-- a place is below the address of its holder word
times : (v k : ℕ) → 0 < k → v ≤ v * k
times zero k some = omega arith
times (suc v) k some =
    let grows : v * k + k ≡ (v + 1) * k = grind arith in
    let rest : v ≤ v * k = times v k some in
    omega (arith, grows, rest, some)

below_holder : (s : Shape) (v : ℕ) → v < address s (HolderWord v)
below_holder s v =
    let most : v ≤ v * place_size s = times v (place_size s) (omega arith) in
    above s.processors v (v * place_size s) most
  where
    above : (p v x : ℕ) → v ≤ x → v < 1 + 2 * p + x + 2
    above p v x most = omega (arith, most)

pub holder_at_is : (s : Shape) (v : ℕ) → holder_at s (address s (HolderWord v)) ≡ v
holder_at_is s v = holder_is s (address s (HolderWord v)) v (below_holder s v)
