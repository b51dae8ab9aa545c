-- Beginnings of one list, and the exchange that adds a turn to a history.
use Rattle.std.proofs.Common.{◌≡◌, ◌∙◌, ◌+◌, ◌≤◌, ◌<◌, ◌==◌, ℕ, Bool, true, false, List, [], ◌∷◌, ◌++◌, length, None, refl, sym, ap, subst, arith, inl, append_assoc, length-append}
use Rattle.std.proofs.lemmas.List.{append-nil}
use Rattle.std.proofs.lemmas.List.Elements.{All-push}
use Rattle.std.proofs.lemmas.Bool.Decides.{nat_tests}
use mathlib.Core.List.{IsPrefix}
use prog.Atomic.{either}
use Rattle.logbook.specs.Pages.{Cell, cell, keeps, no_nib, step, Moves, Goes}
use Rattle.ppm_step.specs.declared.turn.Turn.{Turn}
use Rattle.ppm_locked.specs.Held.{HaveSeen, Seated}
use Rattle.ppm_locked.specs.History.{IsKept, Adds}

-- each list begins with itself
pub prefix_self : (xs : List Turn) → IsPrefix xs xs
prefix_self xs = ([], append-nil xs)

pub prefix_trans : (xs ys zs : List Turn) → IsPrefix xs ys → IsPrefix ys zs → IsPrefix xs zs
prefix_trans xs ys zs p q = (p.0 ++ q.0, sym (append_assoc xs p.0 q.0) ∙ (ap (λ w. w ++ q.0) p.1 ∙ q.1))

-- a beginning that is as long as the whole is the whole
pub prefix_whole : (xs ys : List Turn) → IsPrefix xs ys → length ys ≤ length xs → xs ≡ ys
prefix_whole [] [] p le = refl
prefix_whole [] (y ∷ ys) p le = absurd (omega arith)
prefix_whole (x ∷ xs) [] p le = absurd (cc (p.1))
prefix_whole (x ∷ xs) (y ∷ ys) p le =
    let rest = prefix_whole xs ys (p.0, cc (p.1)) (omega arith) in cc (p.1, rest)

pub prefix_length : (xs ys : List Turn) → IsPrefix xs ys → length xs ≤ length ys
prefix_length xs ys p = omega (arith, sym (ap (λ (l : List Turn). length l) p.1) ∙ length-append xs p.0)

abbrev shown : List Turn → List Turn
shown turns = []

abbrev moved : List Turn → List Turn → ℕ → Type 0
moved before now answer = Unit {0}

adds_goes : (turns seen : List Turn) (turn : Turn) (old : ℕ) → old ≤ length seen → IsPrefix seen turns → (b : Bool) → (length turns == old) ≡ b
    → Goes IsKept shown moved 0 (seen, (no_nib, None)) (λ n. either (n == old) (old + 1) n) (Adds (step 0 old (old + 1) turn) (seen, (no_nib, None)))
    ((length turns, true) ∷ (0, true) ∷ []) turns
adds_goes turns seen turn old long begins true is =
    let here : length turns ≡ old = grind (arith, nat_tests) in
    let same : seen ≡ turns = prefix_whole seen turns begins (omega arith) in
    let shorter = prefix_length seen turns begins in
    let n : either (length turns == old) (old + 1) (length turns) ≡ length (turns ++ turn ∷ []) = rw is (omega (arith, length-append turns (turn ∷ []))) in (
      keeps,
      turn ∷ [],
      None,
      tt,
      ap (λ (k : ℕ). (k, true) ∷ (0, true) ∷ []) n,
      inl (refl, refl),
      λ found. (omega arith, ap (λ w. w ++ turn ∷ []) (sym same)),
    )
adds_goes turns seen turn old long begins false is =
    let n : either (length turns == old) (old + 1) (length turns) ≡ length (turns ++ []) = rw is (ap (λ (l : List Turn). length l) (sym (append-nil turns))) in (
      keeps,
      [],
      None,
      tt,
      ap (λ (k : ℕ). (k, true) ∷ (0, true) ∷ []) n,
      inl (refl, refl),
      λ found. absurd (let here : length turns ≡ old = found in grind (arith, nat_tests)),
    )

-- whatever the history is, the exchange adds the turn to all that was seen, or it finds another number of turns
pub adds_moves : (seen : List Turn) (turn : Turn) (old : ℕ) → old ≤ length seen
    → Moves IsKept shown moved 0 (seen, (no_nib, None)) (λ n. either (n == old) (old + 1) n) (Adds (step 0 old (old + 1) turn) (seen, (no_nib, None)))
adds_moves seen turn old long cs turns kept begins away =
    let P : List Cell → Type 0 = λ c. (0 < length c) × ((cell c 0).1 ≡ true)
    × Goes IsKept shown moved 0 (seen, (no_nib, None)) (λ n. either (n == old) (old + 1) n) (Adds (step 0 old (old + 1) turn) (seen, (no_nib, None))) c turns in
    subst P (sym kept) (omega arith, refl, adds_goes turns seen turn old long begins (length turns == old) refl)

-- seats that have seen beginnings of a list, and one more
pub all_seen : (rest : List Seated) (seat : Seated) (seats : List Seated) (turns : List Turn) → seats ≡ rest ++ seat ∷ [] → HaveSeen rest turns → IsPrefix seat.seen turns
    → HaveSeen seats turns
all_seen rest seat seats turns seats_are seen own =
    subst (λ (l : List Seated). HaveSeen l turns) (sym seats_are) (All-push (λ (s : Seated). IsPrefix s.seen turns) rest seat seen own)
