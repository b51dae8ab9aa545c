-- Items of plans are read as they are written.
use Rattle.std.proofs.Common.{◌≡◌, ◌∙◌, ℕ, ◌^◌, ◌<◌, true, List, [], ◌∷◌, ◌++◌, Option, Some, None, decimal, refl, ap, sym, subst}
use Rattle.std.proofs.lemmas.List.{append_assoc}
use Rattle.std.proofs.lemmas.Option.{none-some}
use Rattle.ppm_plan.specs.declared.fault.Fault.{Fault}
use Rattle.ppm_plan.specs.declared.fault.Fault.TheVariants.{Soft, Hard}
use Rattle.ppm_plan.specs.declared.plan_item.PlanItem.{PlanItem}
use Rattle.ppm_pieces.specs.Pieces.{halves_of}
use Rattle.ppm_pieces.specs.Numbers.{number_of}
use Rattle.ppm_plan.specs.Items.{letter_of, plan_item_text, FitsPlanItem, ended_at, ended_by, timed, or_else, timed_by, timed_halves, plan_item_of}
use Rattle.ppm_plan.proofs.SpellingLemmas.{same_there, number_read, number_back, lacks, decimal_lacks, both_lack, halves_at, no_halves, halves_back}

-- the turn in front of its letter
ended_read : (letter t : ℕ) → lacks letter (decimal t) ≡ true → t < 2 ^ 32 → ended_by letter (decimal t ++ letter ∷ []) ≡ Some t
ended_read letter t apart h = ap ended_at (halves_at letter (decimal t) [] apart) ∙ number_read t h

-- and back
ended_back : (letter : ℕ) (bs : List ℕ) (t : ℕ) → ended_by letter bs ≡ Some t → (t < 2 ^ 32) × (bs ≡ decimal t ++ letter ∷ [])
ended_back letter bs t = go (halves_of letter bs) refl
  where
    go : (o : Option (List ℕ × List ℕ)) → halves_of letter bs ≡ o → ended_at o ≡ Some t → (t < 2 ^ 32) × (bs ≡ decimal t ++ letter ∷ [])
    go None e h = absurd (none-some t h)
    go (Some (digits, [])) e h =
        let k = number_back digits t h in
        (k.0, halves_back letter bs digits [] e ∙ ap (λ l. l ++ letter ∷ []) k.1)
    go (Some (digits, b ∷ cs)) e h = absurd (none-some t h)

-- a turn with its letter
timed_read : (c t : ℕ) (fault : Fault) → t < 2 ^ 32
    → timed_by (Some c) (decimal t ++ letter_of fault ∷ []) ≡ Some (record { processor = c; turn = t; fault = fault })
timed_read c t Soft h =
    ap (λ o. or_else (timed c Soft o) (timed c Hard (ended_by 104 (decimal t ++ 115 ∷ [])))) (ended_read 115 t (decimal_lacks 115 t refl h) h)
timed_read c t Hard h =
    ap (λ o. or_else (timed c Soft (ended_at o)) (timed c Hard (ended_by 104 (decimal t ++ 104 ∷ []))))
    (no_halves 115 (decimal t ++ 104 ∷ []) (both_lack 115 (decimal t) (104 ∷ []) (decimal_lacks 115 t refl h) refl))
    ∙ ap (timed c Hard) (ended_read 104 t (decimal_lacks 104 t refl h) h)

-- and back
timed_back : (c : ℕ) (bs : List ℕ) (i : PlanItem) → timed_by (Some c) bs ≡ Some i
    → (i.processor ≡ c) × (i.turn < 2 ^ 32) × (bs ≡ decimal i.turn ++ letter_of i.fault ∷ [])
timed_back c bs i = go (ended_by 115 bs) refl (ended_by 104 bs) refl
  where
    found : (fault : Fault) (t : ℕ) → ended_by (letter_of fault) bs ≡ Some t → Some (record { processor = c; turn = t; fault = fault }) ≡ Some i
        → (i.processor ≡ c) × (i.turn < 2 ^ 32) × (bs ≡ decimal i.turn ++ letter_of i.fault ∷ [])
    found fault t e h =
        let k = ended_back (letter_of fault) bs t e in
        subst (λ j. (j.processor ≡ c) × (j.turn < 2 ^ 32) × (bs ≡ decimal j.turn ++ letter_of j.fault ∷ []))
        (same_there (record { processor = c; turn = t; fault = fault }) i h) (refl, k.0, k.1)

    go : (o : Option ℕ) → ended_by 115 bs ≡ o → (p : Option ℕ) → ended_by 104 bs ≡ p → or_else (timed c Soft o) (timed c Hard p) ≡ Some i
        → (i.processor ≡ c) × (i.turn < 2 ^ 32) × (bs ≡ decimal i.turn ++ letter_of i.fault ∷ [])
    go (Some t) e p f h = found Soft t e h
    go None e (Some t) f h = found Hard t f h
    go None e None f h = absurd (none-some i h)

-- an item's text, by what stands in front of its sign and after it
grouped : (i : PlanItem) → plan_item_text i ≡ decimal i.processor ++ 64 ∷ (decimal i.turn ++ letter_of i.fault ∷ [])
grouped i = append_assoc (decimal i.processor) (64 ∷ decimal i.turn) (letter_of i.fault ∷ [])

-- an item's text reads as this item
pub item_read : (i : PlanItem) → FitsPlanItem i → plan_item_of (plan_item_text i) ≡ Some i
item_read i h =
    ap plan_item_of (grouped i)
    ∙ ap timed_halves (halves_at 64 (decimal i.processor) (decimal i.turn ++ letter_of i.fault ∷ []) (decimal_lacks 64 i.processor refl h.processor))
    ∙ ap (λ o. timed_by o (decimal i.turn ++ letter_of i.fault ∷ [])) (number_read i.processor h.processor)
    ∙ timed_read i.processor i.turn i.fault h.turn

-- and what reads as it is its text
pub item_back : (piece : List ℕ) (i : PlanItem) → plan_item_of piece ≡ Some i → FitsPlanItem i × (piece ≡ plan_item_text i)
item_back piece i = go (halves_of 64 piece) refl
  where
    named : (front behind : List ℕ) (o : Option ℕ) → number_of front ≡ o → piece ≡ front ++ 64 ∷ behind → timed_by o behind ≡ Some i
        → FitsPlanItem i × (piece ≡ plan_item_text i)
    named front behind None e whole h = absurd (none-some i h)
    named front behind (Some c) e whole h =
        let k = timed_back c behind i h in
        let n = number_back front c e in (
          record { processor = subst (λ d. d < 2 ^ 32) (sym k.0) n.0; turn = k.1 },
          whole ∙ ap (λ l. l ++ 64 ∷ behind) (n.1 ∙ ap decimal (sym k.0)) ∙ ap (λ l. decimal i.processor ++ 64 ∷ l) k.2 ∙ sym (grouped i),
        )

    go : (o : Option (List ℕ × List ℕ)) → halves_of 64 piece ≡ o → timed_halves o ≡ Some i → FitsPlanItem i × (piece ≡ plan_item_text i)
    go None e h = absurd (none-some i h)
    go (Some (front, behind)) e h = named front behind (number_of front) refl (halves_back 64 piece front behind e) h
