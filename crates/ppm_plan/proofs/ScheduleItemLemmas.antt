-- Items of schedules are read as they are written.
use Rattle.std.proofs.Common.{◌≡◌, ◌∙◌, ℕ, ◌^◌, ◌<◌, ◌≤◌, nat_le, Bool, true, false, ◌&&◌, cond, List, [], ◌∷◌, ◌++◌, Option, Some, None, decimal}
use Rattle.std.proofs.Common.{refl, ap, sym, subst, arith, le-leb, leb-true}
use Rattle.std.proofs.lemmas.List.{append-nil}
use Rattle.std.proofs.lemmas.Option.{none-some}
use Rattle.ppm_plan.specs.declared.fault.Fault.{Fault}
use Rattle.ppm_plan.specs.declared.fault.Fault.TheVariants.{Soft, Hard}
use Rattle.ppm_plan.specs.declared.schedule_item.ScheduledAct.TheVariants.{Step, Fails}
use Rattle.ppm_plan.specs.declared.schedule_item.ScheduleItem.{ScheduleItem}
use Rattle.ppm_pieces.specs.Pieces.{halves_of}
use Rattle.ppm_pieces.specs.Numbers.{is_digit, number_of}
use Rattle.ppm_plan.specs.Items.{letter_of, most_times, act_text, FitsAct, WritesScheduleItem, Once, Times, fault_of, stepping, stepping_at, steps_of}
use Rattle.ppm_plan.specs.Items.{times_in_range, steps_times, repeated, failing, failing_or_steps, schedule_item_of}
use Rattle.ppm_pieces.proofs.NumberLemmas.{both_parts}
use Rattle.ppm_plan.proofs.SpellingLemmas.{same_there, number_read, number_back, lacks, decimal_lacks, both_lack, halves_at, no_halves, halves_back}

-- a step with a fixed number of times
abbrev step : (c : ℕ) (victim : Option ℕ) (n : ℕ) → ScheduleItem
step c victim n = record { act = Step c victim; times = n }

-- a step's text has no sign that its numbers and its victim's sign have not
pub step_lacks : (separator c : ℕ) (victim : Option ℕ) → is_digit separator ≡ false → lacks separator (62 ∷ []) ≡ true → FitsAct (Step c victim)
    → lacks separator (act_text (Step c victim)) ≡ true
step_lacks separator c None h apart fits = both_lack separator (decimal c) [] (decimal_lacks separator c h fits.0) refl
step_lacks separator c (Some v) h apart fits =
    both_lack separator (decimal c) (62 ∷ decimal v) (decimal_lacks separator c h fits.0)
    (both_lack separator (62 ∷ []) (decimal v) apart (decimal_lacks separator v h fits.1))

-- a step is read so many times
steps_read : (c : ℕ) (victim : Option ℕ) (n : ℕ) → FitsAct (Step c victim)
    → steps_of (act_text (Step c victim)) (halves_of 62 (act_text (Step c victim))) n ≡ Some (step c victim n)
steps_read c None n fits =
    ap (λ l. steps_of l (halves_of 62 l) n) (append-nil (decimal c))
    ∙ ap (λ o. steps_of (decimal c) o n) (no_halves 62 (decimal c) (decimal_lacks 62 c refl fits.0))
    ∙ rw (number_read c fits.0) refl
steps_read c (Some v) n fits =
    ap (λ o. steps_of (act_text (Step c (Some v))) o n) (halves_at 62 (decimal c) (decimal v) (decimal_lacks 62 c refl fits.0))
    ∙ rw (number_read c fits.0, number_read v fits.1) refl

-- a letter is read as its fault
fault_read : (fault : Fault) → fault_of (letter_of fault ∷ []) ≡ Some fault
fault_read Soft = refl
fault_read Hard = refl

-- a number of times in the range is read
times_read : (n : ℕ) → 1 ≤ n → n ≤ most_times → times_in_range (Some n) ≡ Some n
times_read n low high = rw (le-leb 1 n low, le-leb n most_times high) refl

-- what writes an item reads as it
pub item_read : (piece : List ℕ) (i : ScheduleItem) → WritesScheduleItem piece i → schedule_item_of piece ≡ Some i
item_read piece i (Once (Step c victim) fits) =
    ap (failing_or_steps (act_text (Step c victim))) (no_halves 33 (act_text (Step c victim)) (step_lacks 33 c victim refl refl fits))
    ∙ ap (repeated (act_text (Step c victim))) (no_halves 42 (act_text (Step c victim)) (step_lacks 42 c victim refl refl fits))
    ∙ steps_read c victim 1 fits
item_read piece i (Once (Fails c fault) fits) =
    ap (failing_or_steps (act_text (Fails c fault))) (halves_at 33 (decimal c) (letter_of fault ∷ []) (decimal_lacks 33 c refl fits))
    ∙ ap (λ o. failing o (fault_of (letter_of fault ∷ []))) (number_read c fits) ∙ ap (failing (Some c)) (fault_read fault)
item_read piece i (Times c victim n fits low high) =
    let small : n < 2 ^ 32 = omega (arith, high) in
    let whole = act_text (Step c victim) ++ 42 ∷ decimal n in
    ap (failing_or_steps whole) (no_halves 33 whole (both_lack 33 (act_text (Step c victim)) (42 ∷ decimal n) (step_lacks 33 c victim refl refl fits)
    (both_lack 33 (42 ∷ []) (decimal n) refl (decimal_lacks 33 n refl small))))
    ∙ ap (repeated whole) (halves_at 42 (act_text (Step c victim)) (decimal n) (step_lacks 42 c victim refl refl fits))
    ∙ ap (λ o. steps_times (act_text (Step c victim)) (times_in_range o)) (number_read n small)
    ∙ ap (steps_times (act_text (Step c victim))) (times_read n low high) ∙ steps_read c victim n fits

-- a letter that is read as a fault is its letter
fault_back : (bs : List ℕ) (fault : Fault) → fault_of bs ≡ Some fault → bs ≡ letter_of fault ∷ []
fault_back [] fault h = absurd (none-some fault h)
fault_back (b ∷ c ∷ bs) fault h = absurd (none-some fault h)
fault_back (b ∷ []) fault h = go (nat_le b 115 && nat_le 115 b) refl (nat_le b 104 && nat_le 104 b) refl h
  where
    same : (n : ℕ) → (nat_le b n && nat_le n b) ≡ true → b ≡ n
    same n e = let k = both_parts (nat_le b n) (nat_le n b) e in omega (arith, leb-true b n k.0, leb-true n b k.1)

    go : (p : Bool) → (nat_le b 115 && nat_le 115 b) ≡ p → (q : Bool) → (nat_le b 104 && nat_le 104 b) ≡ q
        → cond p (Some Soft) (cond q (Some Hard) None) ≡ Some fault → b ∷ [] ≡ letter_of fault ∷ []
    go true e q f k = ap (λ l. l ∷ []) (same 115 e) ∙ ap (λ g. letter_of g ∷ []) (same_there Soft fault k)
    go false e true f k = ap (λ l. l ∷ []) (same 104 f) ∙ ap (λ g. letter_of g ∷ []) (same_there Hard fault k)
    go false e false f k = absurd (none-some fault k)

-- times that are read are in the range
times_back : (o : Option ℕ) (n : ℕ) → times_in_range o ≡ Some n → (o ≡ Some n) × (1 ≤ n) × (n ≤ most_times)
times_back None n h = absurd (none-some n h)
times_back (Some m) n h = go (nat_le 1 m) refl (nat_le m most_times) refl h
  where
    go : (p : Bool) → nat_le 1 m ≡ p → (q : Bool) → nat_le m most_times ≡ q → cond p (cond q (Some m) None) None ≡ Some n
        → (Some m ≡ Some n) × (1 ≤ n) × (n ≤ most_times)
    go false e q f k = absurd (none-some n k)
    go true e false f k = absurd (none-some n k)
    go true e true f k =
        let one = same_there m n k in
        (k, omega (arith, one, leb-true 1 m e), omega (arith, one, leb-true m most_times f))

-- an item that is read of a step
record IsStepOf (piece : List ℕ) (n : ℕ) (i : ScheduleItem) : Type 0 where
  c : ℕ
  victim : Option ℕ
  fits : FitsAct (Step c victim)
  text : piece ≡ act_text (Step c victim)
  item : step c victim n ≡ i

steps_back : (piece : List ℕ) (n : ℕ) (i : ScheduleItem) → steps_of piece (halves_of 62 piece) n ≡ Some i → IsStepOf piece n i
steps_back piece n i = go (halves_of 62 piece) refl
  where
    alone : (o : Option ℕ) → number_of piece ≡ o → stepping o n ≡ Some i → IsStepOf piece n i
    alone None e h = absurd (none-some i h)
    alone (Some c) e h =
        let k = number_back piece c e in
        record { c = c; victim = None; fits = (k.0, tt); text = k.1 ∙ sym (append-nil (decimal c)); item = same_there (step c None n) i h }

    both : (front behind : List ℕ) → piece ≡ front ++ 62 ∷ behind → (o : Option ℕ) → number_of front ≡ o → (p : Option ℕ) → number_of behind ≡ p
        → stepping_at o p n ≡ Some i → IsStepOf piece n i
    both front behind whole None e p f h = absurd (none-some i h)
    both front behind whole (Some c) e None f h = absurd (none-some i h)
    both front behind whole (Some c) e (Some v) f h =
        let k = number_back front c e in
        let m = number_back behind v f in
        record {
          c = c;
          victim = Some v;
          fits = (k.0, m.0);
          text = whole ∙ ap (λ l. l ++ 62 ∷ behind) k.1 ∙ ap (λ l. decimal c ++ 62 ∷ l) m.1;
          item = same_there (step c (Some v) n) i h;
        }

    go : (o : Option (List ℕ × List ℕ)) → halves_of 62 piece ≡ o → steps_of piece o n ≡ Some i → IsStepOf piece n i
    go None e h = alone (number_of piece) refl h
    go (Some (front, behind)) e h =
        both front behind (halves_back 62 piece front behind e) (number_of front) refl (number_of behind) refl h

-- a step that is written once, or so many times
written_once : (piece : List ℕ) (i : ScheduleItem) → IsStepOf piece 1 i → WritesScheduleItem piece i
written_once piece i k =
    subst (λ l. WritesScheduleItem l i) (sym k.text) (subst (WritesScheduleItem (act_text (Step k.c k.victim))) k.item (Once (Step k.c k.victim) k.fits))

written_times : (piece front behind : List ℕ) (n : ℕ) (i : ScheduleItem) → piece ≡ front ++ 42 ∷ behind → behind ≡ decimal n → 1 ≤ n → n ≤ most_times
    → IsStepOf front n i → WritesScheduleItem piece i
written_times piece front behind n i whole digits low high k =
    let text : piece ≡ act_text (Step k.c k.victim) ++ 42 ∷ decimal n =
    whole ∙ ap (λ l. l ++ 42 ∷ behind) k.text ∙ ap (λ l. act_text (Step k.c k.victim) ++ 42 ∷ l) digits in
    subst (λ l. WritesScheduleItem l i) (sym text)
    (subst (WritesScheduleItem (act_text (Step k.c k.victim) ++ 42 ∷ decimal n)) k.item (Times k.c k.victim n k.fits low high))

-- steps, once or more often
repeated_back : (piece : List ℕ) (i : ScheduleItem) → repeated piece (halves_of 42 piece) ≡ Some i → WritesScheduleItem piece i
repeated_back piece i = go (halves_of 42 piece) refl
  where
    often : (front behind : List ℕ) → piece ≡ front ++ 42 ∷ behind → (o : Option ℕ) → times_in_range (number_of behind) ≡ o → steps_times front o ≡ Some i
        → WritesScheduleItem piece i
    often front behind whole None e h = absurd (none-some i h)
    often front behind whole (Some n) e h =
        let k = times_back (number_of behind) n e in
        written_times piece front behind n i whole (number_back behind n k.0).1 k.1 k.2 (steps_back front n i h)

    go : (o : Option (List ℕ × List ℕ)) → halves_of 42 piece ≡ o → repeated piece o ≡ Some i → WritesScheduleItem piece i
    go None e h = written_once piece i (steps_back piece 1 i h)
    go (Some (front, behind)) e h =
        often front behind (halves_back 42 piece front behind e) (times_in_range (number_of behind)) refl h

-- what reads as an item writes it
pub item_back : (piece : List ℕ) (i : ScheduleItem) → schedule_item_of piece ≡ Some i → WritesScheduleItem piece i
item_back piece i = go (halves_of 33 piece) refl
  where
    fails : (front behind : List ℕ) → piece ≡ front ++ 33 ∷ behind → (o : Option ℕ) → number_of front ≡ o → (p : Option Fault) → fault_of behind ≡ p
        → failing o p ≡ Some i → WritesScheduleItem piece i
    fails front behind whole None e p f h = absurd (none-some i h)
    fails front behind whole (Some c) e None f h = absurd (none-some i h)
    fails front behind whole (Some c) e (Some fault) f h =
        let k = number_back front c e in
        let text : piece ≡ act_text (Fails c fault) =
        whole ∙ ap (λ l. l ++ 33 ∷ behind) k.1 ∙ ap (λ l. decimal c ++ 33 ∷ l) (fault_back behind fault f) in
        subst (λ l. WritesScheduleItem l i) (sym text)
        (subst (WritesScheduleItem (act_text (Fails c fault))) (same_there (record { act = Fails c fault; times = 1 }) i h) (Once (Fails c fault) k.0))

    go : (o : Option (List ℕ × List ℕ)) → halves_of 33 piece ≡ o → failing_or_steps piece o ≡ Some i → WritesScheduleItem piece i
    go None e h = repeated_back piece i h
    go (Some (front, behind)) e h =
        fails front behind (halves_back 33 piece front behind e) (number_of front) refl (fault_of behind) refl h
