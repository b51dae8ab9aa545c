-- Texts are read as they are written, whatever the items are.
use Rattle.std.proofs.Common.{◌≡◌, ◌∙◌, ◌↔◌, ℕ, ◌≤◌, ◌==◌, Bool, true, false, not, cond, List, [], ◌∷◌, ◌++◌, map, length, Option, Some, None, codes}
use Rattle.std.proofs.Common.{refl, ap, sym, subst, arith, eqb-true}
use Rattle.std.proofs.lemmas.Bool.{both_ways}
use Rattle.std.proofs.lemmas.Option.{none-some}
use Rattle.std.proofs.lemmas.Slice.Eq.{bytes_eq-Decides}
use Rattle.std.specs.Str.{bytes_eq}
use Rattle.ppm_pieces.specs.Pieces.{in_front, split}
use Rattle.ppm_plan.specs.Forms.{Form}
use Rattle.ppm_plan.specs.Refusals.{HasItems}
use Rattle.ppm_plan.specs.Spellings.{WritesInTurn, Last, More, WritesAll}
use Rattle.ppm_pieces.proofs.NumberLemmas.{both_parts}
use Rattle.ppm_plan.proofs.SpellingLemmas.{lacks}

-- the first of a list, if there is one, and those after it
abbrev first_of : {A : Type 0} → List (Option A) → Option A
first_of [] = None
first_of (x ∷ xs) = x

abbrev rest_of : {A : Type 0} → List A → List A
rest_of [] = []
rest_of (x ∷ xs) = xs

-- pieces with commas between them
abbrev joined : List (List ℕ) → List ℕ
joined [] = []
joined (p ∷ []) = p
joined (p ∷ q ∷ ps) = p ++ 44 ∷ joined (q ∷ ps)

joined_in_front : (b : ℕ) (ps : List (List ℕ)) → joined (in_front b ps) ≡ b ∷ joined ps
joined_in_front b [] = refl
joined_in_front b (p ∷ []) = refl
joined_in_front b (p ∷ q ∷ ps) = refl

-- there is a piece
in_front_some : (b : ℕ) (ps : List (List ℕ)) → 1 ≤ length (in_front b ps)
in_front_some b [] = omega arith
in_front_some b (p ∷ ps) = omega arith

split_some : (bs : List ℕ) → 1 ≤ length (split 44 bs)
split_some [] = omega arith
split_some (b ∷ bs) = go (b == 44)
  where
    go : (same : Bool) → 1 ≤ length (cond same ([] ∷ split 44 bs) (in_front b (split 44 bs)))
    go true = omega arith
    go false = in_front_some b (split 44 bs)

joined_first : (ps : List (List ℕ)) → 1 ≤ length ps → joined ([] ∷ ps) ≡ 44 ∷ joined ps
joined_first [] h = absurd (omega (arith, h))
joined_first (p ∷ ps) h = refl

-- the pieces of a text, joined again
joined_split : (bs : List ℕ) → joined (split 44 bs) ≡ bs
joined_split [] = refl
joined_split (b ∷ bs) = go (b == 44) refl (joined_split bs)
  where
    go : (same : Bool) → (b == 44) ≡ same → joined (split 44 bs) ≡ bs → joined (cond same ([] ∷ split 44 bs) (in_front b (split 44 bs))) ≡ b ∷ bs
    go true e h = joined_first (split 44 bs) (split_some bs) ∙ ap (λ l. 44 ∷ l) h ∙ ap (λ c. c ∷ bs) (sym (eqb-true b 44 e))
    go false e h = joined_in_front b (split 44 bs) ∙ ap (λ l. b ∷ l) h

-- a piece without a comma
split_alone : (xs : List ℕ) → lacks 44 xs ≡ true → split 44 xs ≡ xs ∷ []
split_alone [] h = refl
split_alone (x ∷ xs) h = go (x == 44) refl (split_alone xs)
  where
    go : (same : Bool) → (x == 44) ≡ same → (lacks 44 xs ≡ true → split 44 xs ≡ xs ∷ [])
        → cond same ([] ∷ split 44 xs) (in_front x (split 44 xs)) ≡ (x ∷ xs) ∷ []
    go true e f = absurd (both_ways (not (x == 44)) (ap not e) (both_parts (not (x == 44)) (lacks 44 xs) h).0)
    go false e f = ap (in_front x) (f (both_parts (not (x == 44)) (lacks 44 xs) h).1)

-- and one in front of a comma
split_at : (xs ys : List ℕ) → lacks 44 xs ≡ true → split 44 (xs ++ 44 ∷ ys) ≡ xs ∷ split 44 ys
split_at [] ys h = refl
split_at (x ∷ xs) ys h = go (x == 44) refl (split_at xs ys)
  where
    go : (same : Bool) → (x == 44) ≡ same → (lacks 44 xs ≡ true → split 44 (xs ++ 44 ∷ ys) ≡ xs ∷ split 44 ys)
        → cond same ([] ∷ split 44 (xs ++ 44 ∷ ys)) (in_front x (split 44 (xs ++ 44 ∷ ys))) ≡ (x ∷ xs) ∷ split 44 ys
    go true e f = absurd (both_ways (not (x == 44)) (ap not e) (both_parts (not (x == 44)) (lacks 44 xs) h).0)
    go false e f = ap (in_front x) (f (both_parts (not (x == 44)) (lacks 44 xs) h).1)

-- the form of a text reads its items as they are written, and they have no commas
pub record ReadsItems {A : Type 0} (form : Form A) (Writes : List ℕ → A → Type 0) : Type 0 where
  pub read : (piece : List ℕ) (i : A) → Writes piece i → form.reading piece ≡ Some i
  pub back : (piece : List ℕ) (i : A) → form.reading piece ≡ Some i → Writes piece i
  pub lack : (piece : List ℕ) (i : A) → Writes piece i → lacks 44 piece ≡ true
  pub none : form.reading (codes "none") ≡ None

module _ {A : Type 0} (form : Form A) (Writes : List ℕ → A → Type 0) (r : ReadsItems form Writes) where
  -- pieces that read as items write them
  in_turn : (p : List ℕ) (ps : List (List ℕ)) (i : A) (items : List A) → map form.reading (p ∷ ps) ≡ map Some (i ∷ items)
      → WritesInTurn Writes (joined (p ∷ ps)) (i ∷ items)
  in_turn p [] i [] h = Last (r.back p i (ap first_of h))
  in_turn p [] i (j ∷ items) h = absurd (omega (arith, ap length h))
  in_turn p (q ∷ ps) i [] h = absurd (omega (arith, ap length h))
  in_turn p (q ∷ ps) i (j ∷ items) h = More (r.back p i (ap first_of h)) (in_turn q ps j items (ap rest_of h))

  -- and back
  pieces_back : (text : List ℕ) (items : List A) → WritesInTurn Writes text items → map form.reading (split 44 text) ≡ map Some items
  pieces_back text items (Last {piece = piece} {i = i} w) =
      ap (map form.reading) (split_alone piece (r.lack piece i w)) ∙ ap (λ o. o ∷ []) (r.read piece i w)
  pieces_back text items (More {piece = piece} {text = behind} {i = i} {items = more} w ws) =
      ap (map form.reading) (split_at piece behind (r.lack piece i w)) ∙ ap (λ o. o ∷ map form.reading (split 44 behind)) (r.read piece i w)
      ∙ ap (λ l. Some i ∷ l) (pieces_back behind more ws)

  -- a text that has items writes them
  has_written : (text : List ℕ) (items : List A) → HasItems form text items → WritesAll Writes text items
  has_written text items h = go (bytes_eq text (codes "none")) refl h
    where
      empty : (items : List A) → text ≡ codes "none" → [] ≡ map Some items → WritesAll Writes text items
      empty [] e k = e
      empty (i ∷ items) e k = absurd (omega (arith, ap length k))

      some : (ps : List (List ℕ)) (items : List A) → 1 ≤ length ps → joined ps ≡ text → map form.reading ps ≡ map Some items → WritesAll Writes text items
      some [] items n e k = absurd (omega (arith, n))
      some (p ∷ ps) [] n e k = absurd (omega (arith, ap length k))
      some (p ∷ ps) (i ∷ items) n e k = subst (λ l. WritesInTurn Writes l (i ∷ items)) e (in_turn p ps i items k)

      go : (b : Bool) → bytes_eq text (codes "none") ≡ b → map form.reading (cond b [] (split 44 text)) ≡ map Some items → WritesAll Writes text items
      go true e k = empty items ((bytes_eq-Decides text (codes "none")).0 e) k
      go false e k = some (split 44 text) items (split_some text) (joined_split text) k

  -- and back
  written_has : (text : List ℕ) (items : List A) → WritesAll Writes text items → HasItems form text items
  written_has text [] h = subst (λ l. HasItems form l []) (sym h) refl
  written_has text (i ∷ items) h = go (bytes_eq text (codes "none")) refl (pieces_back text (i ∷ items) h)
    where
      go : (b : Bool) → bytes_eq text (codes "none") ≡ b → map form.reading (split 44 text) ≡ map Some (i ∷ items)
          → map form.reading (cond b [] (split 44 text)) ≡ map Some (i ∷ items)
      go true e k =
          let same = (bytes_eq-Decides text (codes "none")).0 e in
          let first : form.reading (codes "none") ≡ Some i = ap first_of (ap (λ l. map form.reading (split 44 l)) (sym same) ∙ k) in
          absurd (none-some i (sym r.none ∙ first))
      go false e k = k

  -- both ways
  pub reads_all : (text : List ℕ) (items : List A) → HasItems form text items ↔ WritesAll Writes text items
  reads_all text items = (has_written text items, written_has text items)
