-- The first fall of moments is one.
use Rattle.std.proofs.Common.{◌≡◌, ◌⊎◌, ◌<◌, ℕ, ◌+◌, ◌==◌, Bool, true, false, cond, List, [], ◌∷◌, ◌++◌, length, reverse, Option, Some, None}
use Rattle.std.proofs.Common.{refl, sym, ap, ◌∙◌, subst, inl, inr, arith, append-nil}
use Rattle.std.proofs.lemmas.Bool.{cases_order, eqb-true, eqb-false}
use Rattle.ppm_strands.specs.Tree.{Words}
use Rattle.ppm_unseen.specs.Capsule.{constant, exchange}
use Rattle.ppm_unseen.specs.Run.{AllStill, Change as Asking, Deed, settled, now}
use Rattle.ppm_code.specs.declared.location.FrameWord.{FrameWord}
use Rattle.ppm_code.specs.Strands.{Result}
use Rattle.ppm_filled.specs.Racing.{OwnWord, Place}
use Rattle.ppm_racy.specs.declared.code.RacyParts.{RacyParts}
use Rattle.ppm_interleaving.specs.declared.change.Change.{Change}
use Rattle.ppm_interleaving.specs.declared.change.Change.TheVariants.{Puts, Exchanges}
use Rattle.ppm_interleaving.specs.declared.deed.Turn.{Turn}
use Rattle.ppm_interleaving.specs.declared.fallen.Fallen.{Fallen}
use Rattle.ppm_interleaving.specs.Changes.{change_of}
use Rattle.ppm_interleaving.specs.Shows.{IsFirstFallen, IsTold, system}
use Rattle.ppm_interleaving.specs.Turns.{Moment, moment, deeds, came, strand_of}
use Rattle.ppm_interleaving.proofs.FallenLemmas.{still_back, still_reversed}
use Rattle.ppm_interleaving.proofs.OnceLemmas.{AreOverOnce, Standing, comes_once, once_before}
use Rattle.ppm_strand_runs.specs.declared.done.Fall.{Fall}
use Rattle.ppm_strand_runs.specs.First.{AllStood, IsFirst, IsFirstFall}
use Rattle.ppm_strand_runs.specs.Made.{IsMadeIn}
use Rattle.ppm_strand_runs.proofs.MadeLemmas.{one_turn}
use Rattle.ppm_strand_runs.proofs.ToldLemmas.{one_told}

-- ---- lists

-- of two fronts of a list one goes on with what the other one lacks
data Fronts {X : Type 0} (xs ys c d : List X) : Type 0 where
  Longer : (more : List X) → ys ≡ xs ++ more → c ≡ more ++ d → Fronts xs ys c d
  Shorter : (x : X) (more : List X) → xs ≡ ys ++ x ∷ more → d ≡ x ∷ more ++ c → Fronts xs ys c d

abbrev first_or : {X : Type 0} → X → List X → X
first_or other [] = other
first_or other (x ∷ xs) = x

abbrev rest_of : {X : Type 0} → List X → List X
rest_of [] = []
rest_of (x ∷ xs) = xs

fronts : {X : Type 0} (xs ys c d : List X) → xs ++ c ≡ ys ++ d → Fronts xs ys c d
fronts [] ys c d e = Longer ys refl e
fronts (x ∷ xs) [] c d e = Shorter x xs refl (sym e)
fronts (x ∷ xs) (y ∷ ys) c d e = by (fronts xs ys c d (ap rest_of e))
  where
    same : x ≡ y
    same = ap (first_or x) e

    by : Fronts xs ys c d → Fronts (x ∷ xs) (y ∷ ys) c d
    by (Longer more a b) = Longer more (λ i. sym same i ∷ a i) b
    by (Shorter z more a b) = Shorter z more (λ i. same i ∷ a i) b

-- ---- changes that do not stand

-- what an exchange makes of the old word, and of another one
made_old : (old new word : ℕ) → word ≡ old → exchange old new word ≡ new
made_old old new word e = by (word == old) refl
  where
    by : (b : Bool) → (word == old) ≡ b → cond (word == old) new word ≡ new
    by true is = ap (λ (t : Bool). cond t new word) is
    by false is = absurd (eqb-false word old is e)

made_other : (old new word : ℕ) → (word ≡ old → ⊥) → exchange old new word ≡ word
made_other old new word ne = by (word == old) refl
  where
    by : (b : Bool) → (word == old) ≡ b → cond (word == old) new word ≡ word
    by true is = absurd (ne (eqb-true word old is))
    by false is = ap (λ (t : Bool). cond t new word) is

-- an exchange that would change a word finds the old one there
finds_old : (old new word : ℕ) → (exchange old new word ≡ word → ⊥) → word ≡ old
finds_old old new word falls = by (word == old) refl
  where
    by : (b : Bool) → (word == old) ≡ b → word ≡ old
    by true is = eqb-true word old is
    by false is = absurd (falls (made_other old new word (eqb-false word old is)))

falls_by : (a : Words) (k : Change) → (AllStill a (change_of k ∷ []) → ⊥) → (change_of k).by (a (change_of k).at) ≡ a (change_of k).at → ⊥
falls_by a k falls still = falls (still, tt)

-- no exchange puts the same into each word
not_constant : (v old new : ℕ) → ((w : ℕ) → constant v w ≡ exchange old new w) → ⊥
not_constant v old new same =
    let other = made_other old new (old + v + 1) (λ e. omega (arith, e)) in
    let is : v ≡ old + v + 1 = same (old + v + 1) ∙ other in
    omega (arith, is)

-- changes that do the same to all words and would change one, are the same
one_change : (a : Words) (k l : Change) → change_of k ≡ change_of l → (AllStill a (change_of k ∷ []) → ⊥) → (AllStill a (change_of l ∷ []) → ⊥) → k ≡ l
one_change a (Puts x v) (Puts y w) e p q =
    let place : x ≡ y = ap (λ (c : Asking). c.at) e in
    let value : v ≡ w = ap (λ (c : Asking). c.by 0) e in
    λ i. Puts (place i) (value i)
one_change a (Puts x v) (Exchanges y old new) e p q = absurd (not_constant v old new (λ w. ap (λ (c : Asking). c.by w) e))
one_change a (Exchanges x old new) (Puts y v) e p q = absurd (not_constant v old new (λ w. sym (ap (λ (c : Asking). c.by w) e)))
one_change a (Exchanges x old new) (Exchanges y odd now_is) e p q =
    let place : x ≡ y = ap (λ (c : Asking). c.at) e in
    let first : a x ≡ old = finds_old old new (a x) (falls_by a (Exchanges x old new) p) in
    let second : a y ≡ odd = finds_old odd now_is (a y) (falls_by a (Exchanges y odd now_is) q) in
    let olds : old ≡ odd = sym first ∙ ap a place ∙ second in
    let news : new ≡ now_is = sym (made_old old new old refl) ∙ ap (λ (c : Asking). c.by old) e ∙ made_old odd now_is old olds in
    λ i. Exchanges (place i) (olds i) (news i)

module _ (code : RacyParts) (array_words : ℕ) (root : FrameWord → ℕ) (arrays : Words) where
  -- what falls is among what its strand has settled
  falls_of : (h : List Moment) (f : Fallen) (is : IsFirstFallen code array_words root arrays h f)
      → AllStill (now (system code array_words root arrays) (deeds h)) (settled (came (system code array_words root arrays) is.comes)) → ⊥
  falls_of h f is still =
      let turned = still_reversed (now (system code array_words root arrays) (deeds h)) (settled (came (system code array_words root arrays) is.comes)) still in
      let later = still_back (now (system code array_words root arrays) (deeds h)) is.front (change_of f.change ∷ is.later)
      (subst (AllStill (now (system code array_words root arrays) (deeds h))) is.order turned) in
      is.falls (later.0, tt)

  -- the first change of a list that does not stand is one, with its place
  one_place : (a : Words) (all : List Asking) (k l : Change) (xs ys later behind : List Asking) → all ≡ xs ++ change_of k ∷ later
      → all ≡ ys ++ change_of l ∷ behind → AllStill a xs → AllStill a ys → (AllStill a (change_of k ∷ []) → ⊥) → (AllStill a (change_of l ∷ []) → ⊥)
      → (length xs ≡ length ys) × (k ≡ l)
  one_place a all k l xs ys later behind p q still_xs still_ys falls_k falls_l =
      by (fronts xs ys (change_of k ∷ later) (change_of l ∷ behind) (sym p ∙ q))
    where
      by : Fronts xs ys (change_of k ∷ later) (change_of l ∷ behind) → (length xs ≡ length ys) × (k ≡ l)
      by (Longer [] same rest) =
          (ap (λ (zs : List Asking). length zs) (sym (append-nil xs) ∙ sym same), one_change a k l (ap (first_or (change_of k)) rest) falls_k falls_l)
      by (Longer (z ∷ more) same rest) =
          let here = subst (λ (zs : List Asking). AllStill a zs) same still_ys in
          let is : z ≡ change_of k = sym (ap (first_or (change_of k)) rest) in
          absurd (falls_k (subst (λ (c : Asking). AllStill a (c ∷ [])) is ((still_back a xs (z ∷ more) here).0, tt)))
      by (Shorter z more same rest) =
          let here = subst (λ (zs : List Asking). AllStill a zs) same still_xs in
          let is : z ≡ change_of l = sym (ap (first_or (change_of l)) rest) in
          absurd (falls_l (subst (λ (c : Asking). AllStill a (c ∷ [])) is ((still_back a ys (z ∷ more) here).0, tt)))

  -- the first change that does not stand is one
  one_fallen : (h : List Moment) → AreOverOnce (deeds h) → (f g : Fallen) → IsFirstFallen code array_words root arrays h f
      → IsFirstFallen code array_words root arrays h g → f ≡ g
  one_fallen h once f g p q = by (cases_order f.strand g.strand)
    where
      by_same : (q : IsFirstFallen code array_words root arrays h (record { strand = f.strand; number = g.number; change = g.change }))
          → (f.number ≡ g.number) × (f.change ≡ g.change)
      by_same q =
          let one = comes_once (system code array_words root arrays) f.strand h once p.state q.state p.comes q.comes in
          let asks : settled (came (system code array_words root arrays) p.comes) ≡ settled (came (system code array_words root arrays) q.comes) =
          ap (λ (e : Standing). e.asks.settled) one in
          let there = one_place (now (system code array_words root arrays) (deeds h)) _ f.change g.change p.front q.front p.later q.later p.order
          (ap (λ (l : List Asking). reverse l) asks ∙ q.order) p.stand q.stand p.falls q.falls in
          (sym p.number ∙ there.0 ∙ q.number, there.1)

      by : (f.strand ≡ g.strand) ⊎ ((f.strand < g.strand) ⊎ (g.strand < f.strand)) → f ≡ g
      by (inl same) =
          let here = subst (λ (n : ℕ). IsFirstFallen code array_words root arrays h (record { strand = n; number = g.number; change = g.change })) (sym same) q in
          let rest = by_same here in
          λ i. record { strand = same i; number = rest.0 i; change = rest.1 i }
      by (inr (inl less)) = absurd (falls_of h f p (q.before f.strand less p.state p.comes))
      by (inr (inr less)) = absurd (falls_of h g q (p.before g.strand less q.state q.comes))

  -- where all stood after moments, it did after those before them
  stood_before : (later h : List Moment) → AllStood code array_words root arrays (later ++ h) → AllStood code array_words root arrays h
  stood_before [] h stood = stood
  stood_before (m ∷ later) h stood = stood_before later h stood.1

  no_fall : (h : List Moment) (fall : Fall) → IsFirst code array_words root arrays h fall → AllStood code array_words root arrays h → ⊥
  no_fall h fall f stood =
      let here = stood_before f.later (moment f.turn f.deed ∷ f.before) (subst (λ (g : List Moment). AllStood code array_words root arrays g) f.order stood) in
      falls_of (moment f.turn f.deed ∷ f.before) fall.fallen f.is (here.0 fall.fallen.strand f.is.state f.is.comes)

  -- strands that are over once after moments are so before them
  once_of : (later h : List Moment) → AreOverOnce (deeds (later ++ h)) → AreOverOnce (deeds h)
  once_of [] h once = once
  once_of (m ∷ later) h once = once_of later h (once_before (system code array_words root arrays) 0 m (later ++ h) once)

  -- the moments of two first falls are the same
  same_moment : (h : List Moment) (a b : Fall) (f : IsFirst code array_words root arrays h a) (g : IsFirst code array_words root arrays h b)
      → moment f.turn f.deed ∷ f.before ≡ moment g.turn g.deed ∷ g.before
  same_moment h a b f g =
      by (fronts f.later g.later (moment f.turn f.deed ∷ f.before) (moment g.turn g.deed ∷ g.before) (sym f.order ∙ g.order))
    where
      by : Fronts f.later g.later (moment f.turn f.deed ∷ f.before) (moment g.turn g.deed ∷ g.before)
          → moment f.turn f.deed ∷ f.before ≡ moment g.turn g.deed ∷ g.before
      by (Longer [] same rest) = rest
      by (Longer (m ∷ more) same rest) =
          let stood = subst (λ (k : List Moment). AllStood code array_words root arrays k) (ap rest_of rest) f.stood in
          let here = stood_before more (moment g.turn g.deed ∷ g.before) stood in
          absurd (falls_of (moment g.turn g.deed ∷ g.before) b.fallen g.is (here.0 b.fallen.strand g.is.state g.is.comes))
      by (Shorter m more same rest) =
          let stood = subst (λ (k : List Moment). AllStood code array_words root arrays k) (ap rest_of rest) g.stood in
          let here = stood_before more (moment f.turn f.deed ∷ f.before) stood in
          absurd (falls_of (moment f.turn f.deed ∷ f.before) a.fallen f.is (here.0 a.fallen.strand f.is.state f.is.comes))

  one_first : (h : List Moment) → AreOverOnce (deeds h) → (a b : Fall) → IsFirst code array_words root arrays h a → IsFirst code array_words root arrays h b → a ≡ b
  one_first h once a b f g =
      let same = same_moment h a b f g in
      let turn : f.turn ≡ g.turn = ap (λ (l : List Moment). (first_or (moment f.turn f.deed) l).turn) same in
      let deed = ap (λ (l : List Moment). (first_or (moment f.turn f.deed) l).deed) same in
      let before : f.before ≡ g.before = ap rest_of same in
      let strand : a.strand ≡ b.strand = f.strand ∙ ap strand_of turn ∙ sym g.strand in
      let number : a.turn ≡ b.turn = f.number ∙ ap (λ (l : List Moment). length l + 1) before ∙ sym g.number in
      let here = once_of f.later (moment f.turn f.deed ∷ f.before) (subst (λ (k : List Moment). AreOverOnce (deeds k)) f.order once) in
      let there = subst (λ (k : List Moment). IsFirstFallen code array_words root arrays k b.fallen) (sym same) g.is in
      let fallen : a.fallen ≡ b.fallen = one_fallen (moment f.turn f.deed ∷ f.before) here a.fallen b.fallen f.is there in
      let told = one_told code array_words root arrays (strand_of f.turn) a.deed b.deed (deeds f.before) f.deed f.told (same_told turn deed before g.told) in
      let made = one_turn code array_words root arrays a.fallen.strand a.fallen.number (moment f.turn f.deed ∷ f.before) here a.made b.made f.made
      (subst (λ (x : Fallen). IsMadeIn code array_words root arrays x.strand x.number (moment f.turn f.deed ∷ f.before) b.made) (sym fallen)
      (subst (λ (k : List Moment). IsMadeIn code array_words root arrays b.fallen.strand b.fallen.number k b.made) (sym same) g.made)) in
      λ i. record { fallen = fallen i; made = made i; turn = number i; strand = strand i; deed = told i }
    where
      same_told : f.turn ≡ g.turn → f.deed ≡ g.deed → f.before ≡ g.before
          → IsTold code array_words root arrays (strand_of g.turn) b.deed (deeds g.before) g.deed
          → IsTold code array_words root arrays (strand_of f.turn) b.deed (deeds f.before) f.deed
      same_told turn deed before is =
          subst (λ (t : Turn). IsTold code array_words root arrays (strand_of t) b.deed (deeds f.before) f.deed) (sym turn)
          (subst (λ (d : Option (Deed OwnWord Place Result)). IsTold code array_words root arrays (strand_of g.turn) b.deed (deeds f.before) d) (sym deed)
          (subst (λ (k : List Moment). IsTold code array_words root arrays (strand_of g.turn) b.deed (deeds k) g.deed) (sym before) is))

  -- and what is said of it
  pub one_first_fall : (h : List Moment) → AreOverOnce (deeds h) → (a b : Option Fall) → IsFirstFall code array_words root arrays h a
      → IsFirstFall code array_words root arrays h b → a ≡ b
  one_first_fall h once None None f g = refl
  one_first_fall h once None (Some b) f g = absurd (no_fall h b g f)
  one_first_fall h once (Some a) None f g = absurd (no_fall h a f g)
  one_first_fall h once (Some a) (Some b) f g = ap (λ (x : Fall). Some x) (one_first h once a b f g)
