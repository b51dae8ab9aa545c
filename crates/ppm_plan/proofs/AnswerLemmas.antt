-- A text has one answer, whatever its form.
use Rattle.std.proofs.Common.{◌≡◌, ◌⊎◌, inl, inr, ◌∙◌, ℕ, zero, suc, ◌+◌, ◌<◌, ◌≤◌, nat_le, Bool, true, false, List, [], ◌∷◌, map, length, Option, Some, None, refl, ap, sym, subst, arith, leb-true, leb-false}
use Rattle.std.proofs.lemmas.Bool.{both_ways}
use Rattle.std.proofs.lemmas.Option.{none-some}
use Rattle.ppm_plan.specs.declared.plan_error.PlanError.{PlanError}
use Rattle.ppm_plan.specs.declared.plan_error.PlanError.TheVariants.{BadItem, NoSuchProcessor, TooManyFaults, AllKilled, NoMemory}
use Rattle.ppm_plan.specs.Forms.{Form}
use Rattle.ppm_plan.specs.Refusals.{first_at, is_missing, readings, HasItems, is_killed, IsKeeper, MayNotBeObeyed, HasRefusedItems, IsRefused, IsAccepted, item_limit}
use Rattle.ppm_plan.specs.Correct.{is_of_text, SomeAccepted, SomeRefused, HasOneAnswer}

-- the values that are there
abbrev values : {A : Type 0} → List (Option A) → List A
values [] = []
values (None ∷ os) = values os
values (Some a ∷ os) = a ∷ values os

values_back : {A : Type 0} (xs : List A) → values (map Some xs) ≡ xs
values_back [] = refl
values_back (x ∷ xs) = ap (λ l. x ∷ l) (values_back xs)

one_list : {A : Type 0} (xs ys : List A) → map Some xs ≡ map Some ys → xs ≡ ys
one_list xs ys e = sym (values_back xs) ∙ ap values e ∙ values_back ys

-- where all are there, none is missing
none_missing : {A : Type 0} (n : ℕ) (xs : List A) → first_at is_missing n (map Some xs) ≡ None
none_missing n [] = refl
none_missing n (x ∷ xs) = none_missing (n + 1) xs

-- all are there, or one is missing
data AllOrMissing {A : Type 0} (n : ℕ) (os : List (Option A)) : Type 0 where
  AllThere : (xs : List A) → os ≡ map Some xs → AllOrMissing n os
  Missing : (k : ℕ) → first_at is_missing n os ≡ Some k → AllOrMissing n os

all_or_missing : {A : Type 0} (n : ℕ) (os : List (Option A)) → AllOrMissing n os
all_or_missing n [] = AllThere [] refl
all_or_missing n (None ∷ os) = Missing n refl
all_or_missing n (Some a ∷ os) = go (all_or_missing (n + 1) os)
  where
    go : AllOrMissing (n + 1) os → AllOrMissing n (Some a ∷ os)
    go (AllThere xs e) = AllThere (a ∷ xs) (ap (λ l. Some a ∷ l) e)
    go (Missing k e) = Missing k e

-- the number that is there
abbrev number_in : Option ℕ → ℕ
number_in None = 0
number_in (Some n) = n

-- nothing and something differ
none_is_not_some : {A : Type 0} (o : Option A) (a : A) → o ≡ None → o ≡ Some a → ⊥
none_is_not_some o a e f = none-some a (sym e ∙ f)

-- a keeper, or all are killed
data KeeperOrNone {A : Type 0} (form : Form A) (items : List A) (p : ℕ) : Type 0 where
  Kept : (k : ℕ) → k < p → IsKeeper form items k → KeeperOrNone form items p
  Killed : ((c : ℕ) → c < p → is_killed form c items ≡ true) → KeeperOrNone form items p

keeper_or_none : {A : Type 0} (form : Form A) (items : List A) (p : ℕ) → KeeperOrNone form items p
keeper_or_none form items zero = Killed (λ c h. absurd (omega (arith, h)))
keeper_or_none form items (suc p) = go (keeper_or_none form items p)
  where
    last : ((c : ℕ) → c < p → is_killed form c items ≡ true) → (b : Bool) → is_killed form p items ≡ b → KeeperOrNone form items (suc p)
    last all false e = Kept p (omega arith) (record { spared = e; least = all })
    last all true e = Killed (λ c h. either c (nat_le (c + 1) p) refl h)
      where
        either : (c : ℕ) → (b : Bool) → nat_le (c + 1) p ≡ b → c < suc p → is_killed form c items ≡ true
        either c true f h = all c (omega (arith, leb-true (c + 1) p f))
        either c false f h = ap (λ d. is_killed form d items) (omega (arith, leb-false (c + 1) p f, h)) ∙ e

    go : KeeperOrNone form items p → KeeperOrNone form items (suc p)
    go (Kept k h keeper) = Kept k (omega (arith, h)) keeper
    go (Killed all) = last all (is_killed form p items) refl

-- items are accepted, or refused
judged : {A : Type 0} (form : Form A) (text : List ℕ) (p : ℕ) (items : List A) → HasItems form text items
    → SomeAccepted form text p ⊎ SomeRefused form text p
judged form text p items has = there (first_at (form.is_outside p) 1 items) refl
  where
    kept : first_at (form.is_outside p) 1 items ≡ None → length items ≤ item_limit → KeeperOrNone form items p
        → SomeAccepted form text p ⊎ SomeRefused form text p
    kept e few (Kept k h keeper) = inl (record {
      items = items;
      accepted = record { has = has; keeper = k; obeyed = record { there = e; few = few; kept = keeper; below = h } };
    })
    kept e few (Killed all) = inr (record {
      error = AllKilled;
      refused = record { items = items; has = has; refused = record { there = e; few = few; killed = all } };
      of_text = refl;
    })

    few : first_at (form.is_outside p) 1 items ≡ None → (b : Bool) → nat_le (length items) item_limit ≡ b
        → SomeAccepted form text p ⊎ SomeRefused form text p
    few e true h = kept e (leb-true (length items) item_limit h) (keeper_or_none form items p)
    few e false h = inr (record {
      error = TooManyFaults;
      refused = record { items = items; has = has; refused = (e, leb-false (length items) item_limit h) };
      of_text = refl;
    })

    there : (o : Option ℕ) → first_at (form.is_outside p) 1 items ≡ o → SomeAccepted form text p ⊎ SomeRefused form text p
    there None e = few e (nat_le (length items) item_limit) refl
    there (Some n) e = inr (record { error = NoSuchProcessor n; refused = record { items = items; has = has; refused = e }; of_text = refl })

-- a text has an answer
some_answer : {A : Type 0} (form : Form A) (text : List ℕ) (p : ℕ) → SomeAccepted form text p ⊎ SomeRefused form text p
some_answer form text p = go (all_or_missing 1 (readings form text))
  where
    go : AllOrMissing 1 (readings form text) → SomeAccepted form text p ⊎ SomeRefused form text p
    go (AllThere xs e) = judged form text p xs e
    go (Missing k e) = inr (record { error = BadItem k; refused = e; of_text = refl })

-- its items are the only ones
same_items : {A : Type 0} (form : Form A) (text : List ℕ) (a b : List A) → HasItems form text a → HasItems form text b → a ≡ b
same_items form text a b h k = one_list a b (sym h ∙ k)

-- a text with items has no bad one
no_bad : {A : Type 0} (form : Form A) (text : List ℕ) (a : List A) (n : ℕ) → HasItems form text a
    → first_at is_missing 1 (readings form text) ≡ Some n → ⊥
no_bad form text a n h e = none_is_not_some (first_at is_missing 1 (map Some a)) n (none_missing 1 a) (ap (first_at is_missing 1) (sym h) ∙ e)

-- the refused items of a text are those that it has
refused_ones : {A : Type 0} (form : Form A) (text : List ℕ) (p : ℕ) (a : List A) (e : PlanError) → HasItems form text a
    → HasRefusedItems form text p e → MayNotBeObeyed form p a e
refused_ones form text p a e h r =
    subst (λ l. MayNotBeObeyed form p l e) (same_items form text r.items a r.has h) r.refused

-- what is accepted is not refused
apart : {A : Type 0} (form : Form A) (text : List ℕ) (p : ℕ) (a : List A) (e : PlanError) → is_of_text e ≡ true
    → IsAccepted form text p a → IsRefused form text p e → ⊥
apart form text p a (BadItem n) o h r = no_bad form text a n h.has r
apart form text p a (NoSuchProcessor n) o h r =
    none_is_not_some (first_at (form.is_outside p) 1 a) n h.obeyed.there (refused_ones form text p a (NoSuchProcessor n) h.has r)
apart form text p a TooManyFaults o h r = omega (arith, (refused_ones form text p a TooManyFaults h.has r).1, h.obeyed.few)
apart form text p a AllKilled o h r =
    both_ways (is_killed form h.keeper a) h.obeyed.kept.spared ((refused_ones form text p a AllKilled h.has r).killed h.keeper h.obeyed.below)
apart form text p a NoMemory o h r = both_ways false refl o

-- two refusals are one
one_refusal : {A : Type 0} (form : Form A) (text : List ℕ) (p : ℕ) (e f : PlanError) → is_of_text e ≡ true → is_of_text f ≡ true
    → IsRefused form text p e → IsRefused form text p f → e ≡ f
one_refusal form text p (BadItem n) (BadItem m) o q r s = ap BadItem (ap number_in (sym r ∙ s))
one_refusal form text p (BadItem n) (NoSuchProcessor m) o q r s = absurd (no_bad form text s.items n s.has r)
one_refusal form text p (BadItem n) TooManyFaults o q r s = absurd (no_bad form text s.items n s.has r)
one_refusal form text p (BadItem n) AllKilled o q r s = absurd (no_bad form text s.items n s.has r)
one_refusal form text p (BadItem n) NoMemory o q r s = absurd (both_ways false refl q)
one_refusal form text p (NoSuchProcessor n) (BadItem m) o q r s = absurd (no_bad form text r.items m r.has s)
one_refusal form text p (NoSuchProcessor n) (NoSuchProcessor m) o q r s =
    ap NoSuchProcessor (ap number_in (sym r.refused ∙ refused_ones form text p r.items (NoSuchProcessor m) r.has s))
one_refusal form text p (NoSuchProcessor n) TooManyFaults o q r s =
    absurd (none_is_not_some _ n (refused_ones form text p r.items TooManyFaults r.has s).0 r.refused)
one_refusal form text p (NoSuchProcessor n) AllKilled o q r s =
    absurd (none_is_not_some _ n (refused_ones form text p r.items AllKilled r.has s).there r.refused)
one_refusal form text p (NoSuchProcessor n) NoMemory o q r s = absurd (both_ways false refl q)
one_refusal form text p TooManyFaults (BadItem m) o q r s = absurd (no_bad form text r.items m r.has s)
one_refusal form text p TooManyFaults (NoSuchProcessor m) o q r s =
    absurd (none_is_not_some _ m r.refused.0 (refused_ones form text p r.items (NoSuchProcessor m) r.has s))
one_refusal form text p TooManyFaults TooManyFaults o q r s = refl
one_refusal form text p TooManyFaults AllKilled o q r s =
    absurd (omega (arith, r.refused.1, (refused_ones form text p r.items AllKilled r.has s).few))
one_refusal form text p TooManyFaults NoMemory o q r s = absurd (both_ways false refl q)
one_refusal form text p AllKilled (BadItem m) o q r s = absurd (no_bad form text r.items m r.has s)
one_refusal form text p AllKilled (NoSuchProcessor m) o q r s =
    absurd (none_is_not_some _ m r.refused.there (refused_ones form text p r.items (NoSuchProcessor m) r.has s))
one_refusal form text p AllKilled TooManyFaults o q r s =
    absurd (omega (arith, r.refused.few, (refused_ones form text p r.items TooManyFaults r.has s).1))
one_refusal form text p AllKilled AllKilled o q r s = refl
one_refusal form text p AllKilled NoMemory o q r s = absurd (both_ways false refl q)
one_refusal form text p NoMemory f o q r s = absurd (both_ways false refl o)

-- each form has one answer
pub has_one_answer : {A : Type 0} (form : Form A) → HasOneAnswer form
has_one_answer form = record { some = some_answer form; items = same_items form; apart = apart form; refusals = one_refusal form }
