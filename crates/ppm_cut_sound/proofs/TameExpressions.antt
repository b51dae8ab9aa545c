-- An expression in front of what is tame is tame: it reads elements of regions alone, and uses no register below its own.
use Rattle.std.proofs.Common.{◌≡◌, ◌<◌, ℕ, suc, ◌+◌, ◌-◌, ◌==◌, max, cond, int_lt, int_le, List, ◌∷◌, slice_set, refl, sym, ap, ◌∙◌, subst, arith}
use Rattle.std.specs.Prelude.{pos, ◌+ℤ◌, ◌-ℤ◌, ◌*ℤ◌, int_div, int_rem}
use Rattle.ppm_strands.specs.Capsule.{Capsule, Memory}
use Rattle.ppm_strands.specs.Strand.{Own}
use Rattle.ppm_words.specs.TwosComplement.{word_of, value_of}
use Rattle.ppm_code.specs.declared.location.FrameWord.TheVariants.{Slot}
use Rattle.ppm_code.specs.declared.act.End.{End}
use Rattle.ppm_code.specs.declared.instr.Instr.{Instr}
use Rattle.ppm_code.specs.declared.instr.Instr.TheVariants as instr
use Rattle.ppm_code.specs.Acts.{held, start_of, length_of}
use Rattle.ppm_code.specs.Locations.{Where}
use Rattle.ppm_code.specs.Capsules.{capsule_from}
use Rattle.ppm_tree.specs.declared.named.Named.{Named}
use Rattle.ppm_tree.specs.declared.operator.Operator.{Operator}
use Rattle.ppm_tree.specs.declared.operator.Operator.TheVariants as operator
use Rattle.ppm_tree.specs.Tree.{Expression}
use Rattle.ppm_tree.specs.Tree as tree
use Rattle.ppm_regions.specs.Scope.{Scope}
use Rattle.ppm_cut_code.specs.Layout.{Layout, slot_of, register}
use Rattle.ppm_cut_code.specs.Expressions.{last_size, branch_size, size_of, truth_code, operator_code}
use Rattle.ppm_cut_code.specs.Expressions.{right_register, branch_code, expression_code}
use Rattle.ppm_cut_code.specs.Fits.{IsRegion, FitsExpression}
use Rattle.ppm_cut_sound.proofs.TameLemmas.{World, Tame, Goes, Then, Keeps, keeps_itself, keeps_set, keeps_on, held_set, go_set}
use Rattle.ppm_cut_sound.proofs.TameLemmas.{go_work, go_load, go_get, go_zero, go_other, whole_works, divided_works}

-- instructions that are passed over
module _ (words : ℕ) (g : List ℕ) where
  -- a place stays the same by other numbers
  shift : (is : List Instr) (here there k n : ℕ) → k ≡ n → there ≡ here → capsule_from words here k is g ≡ capsule_from words there n is g
  shift is here there k n e f = ap (λ (j : ℕ). capsule_from words here j is g) e ∙ ap (λ (j : ℕ). capsule_from words j n is g) (sym f)

  past_branch : (o : Operator) (d target : ℕ) (is : List Instr) (here there k n : ℕ) → k ≡ branch_size o + n → there ≡ here + branch_size o
      → capsule_from words here k (branch_code o d target is) g ≡ capsule_from words there n is g
  past_branch operator.And d target is here there k n e f =
      shift (branch_code operator.And d target is) here here k (suc n) (omega (arith, e)) refl ∙ shift is (here + 1) there n n refl f
  past_branch operator.Or d target is here there k n e f =
      shift (branch_code operator.Or d target is) here here k (suc n) (omega (arith, e)) refl ∙ shift is (here + 1) there n n refl f
  past_branch operator.Add d target is here there k n e f = shift is here there k n (omega (arith, e)) (omega (arith, f))
  past_branch operator.Sub d target is here there k n e f = shift is here there k n (omega (arith, e)) (omega (arith, f))
  past_branch operator.Mul d target is here there k n e f = shift is here there k n (omega (arith, e)) (omega (arith, f))
  past_branch operator.Div d target is here there k n e f = shift is here there k n (omega (arith, e)) (omega (arith, f))
  past_branch operator.Rem d target is here there k n e f = shift is here there k n (omega (arith, e)) (omega (arith, f))
  past_branch operator.Eq d target is here there k n e f = shift is here there k n (omega (arith, e)) (omega (arith, f))
  past_branch operator.Ne d target is here there k n e f = shift is here there k n (omega (arith, e)) (omega (arith, f))
  past_branch operator.Lt d target is here there k n e f = shift is here there k n (omega (arith, e)) (omega (arith, f))
  past_branch operator.Le d target is here there k n e f = shift is here there k n (omega (arith, e)) (omega (arith, f))
  past_branch operator.Gt d target is here there k n e f = shift is here there k n (omega (arith, e)) (omega (arith, f))
  past_branch operator.Ge d target is here there k n e f = shift is here there k n (omega (arith, e)) (omega (arith, f))

  past_operator : (o : Operator) (line d : ℕ) (is : List Instr) (here there k n : ℕ) → k ≡ last_size o + n → there ≡ here + last_size o
      → capsule_from words here k (operator_code o line d is) g ≡ capsule_from words there n is g
  past_operator operator.And line d is here there k n e f =
      shift (truth_code d is) here here k (suc (suc n)) (omega (arith, e)) refl ∙ shift is (here + 1 + 1) there n n refl (omega (arith, f))
  past_operator operator.Or line d is here there k n e f =
      shift (truth_code d is) here here k (suc (suc n)) (omega (arith, e)) refl ∙ shift is (here + 1 + 1) there n n refl (omega (arith, f))
  past_operator operator.Add line d is here there k n e f =
      shift (operator_code operator.Add line d is) here here k (suc n) (omega (arith, e)) refl ∙ shift is (here + 1) there n n refl f
  past_operator operator.Sub line d is here there k n e f =
      shift (operator_code operator.Sub line d is) here here k (suc n) (omega (arith, e)) refl ∙ shift is (here + 1) there n n refl f
  past_operator operator.Mul line d is here there k n e f =
      shift (operator_code operator.Mul line d is) here here k (suc n) (omega (arith, e)) refl ∙ shift is (here + 1) there n n refl f
  past_operator operator.Div line d is here there k n e f =
      shift (operator_code operator.Div line d is) here here k (suc n) (omega (arith, e)) refl ∙ shift is (here + 1) there n n refl f
  past_operator operator.Rem line d is here there k n e f =
      shift (operator_code operator.Rem line d is) here here k (suc n) (omega (arith, e)) refl ∙ shift is (here + 1) there n n refl f
  past_operator operator.Eq line d is here there k n e f =
      shift (operator_code operator.Eq line d is) here here k (suc n) (omega (arith, e)) refl ∙ shift is (here + 1) there n n refl f
  past_operator operator.Ne line d is here there k n e f =
      shift (operator_code operator.Ne line d is) here here k (suc n) (omega (arith, e)) refl ∙ shift is (here + 1) there n n refl f
  past_operator operator.Lt line d is here there k n e f =
      shift (operator_code operator.Lt line d is) here here k (suc n) (omega (arith, e)) refl ∙ shift is (here + 1) there n n refl f
  past_operator operator.Le line d is here there k n e f =
      shift (operator_code operator.Le line d is) here here k (suc n) (omega (arith, e)) refl ∙ shift is (here + 1) there n n refl f
  past_operator operator.Gt line d is here there k n e f =
      shift (operator_code operator.Gt line d is) here here k (suc n) (omega (arith, e)) refl ∙ shift is (here + 1) there n n refl f
  past_operator operator.Ge line d is here there k n e f =
      shift (operator_code operator.Ge line d is) here here k (suc n) (omega (arith, e)) refl ∙ shift is (here + 1) there n n refl f

  pub past_expression : (layout : Layout) (e : Expression) (d at : ℕ) (is : List Instr) (here there k n : ℕ) → k ≡ size_of e + n
      → there ≡ here + size_of e
      → capsule_from words here k (expression_code layout e d at is) g ≡ capsule_from words there n is g
  past_expression layout (tree.Number z) d at is here there k n p q =
      shift (instr.Const (register d) z ∷ is) here here k (suc n) (omega (arith, p)) refl ∙ shift is (here + 1) there n n refl q
  past_expression layout (tree.Name x) d at is here there k n p q =
      shift (instr.LoadSlot (register d) (slot_of layout x.name) ∷ is) here here k (suc n) (omega (arith, p)) refl
      ∙ shift is (here + 1) there n n refl q
  past_expression layout (tree.Element x index) d at is here there k n p q =
      let u = here + size_of index in
      past_expression layout index d at (instr.LoadSlot (register (suc d)) (slot_of layout x.name) ∷ instr.Get (register d) (register (suc d))
      (register d) x.line ∷ is)
      here u k (suc (suc n)) (omega (arith, p)) refl
      ∙ shift is (u + 1 + 1) there n n refl (omega (arith, q))
  past_expression layout (tree.Len x) d at is here there k n p q =
      shift (instr.LoadSlot (register d) (slot_of layout x.name) ∷ instr.Len (register d) (register d) ∷ is) here here k (suc (suc n)) (omega
      (arith, p)) refl
      ∙ shift is (here + 1 + 1) there n n refl (omega (arith, q))
  past_expression layout (tree.Minus line e) d at is here there k n p q =
      let rest = instr.Sub (register d) (register d) (register (suc d)) line ∷ is in
      let u = here + 1 + size_of e in
      shift (instr.Const (register d) (pos 0) ∷ expression_code layout e (suc d) (suc at) rest) here here k (suc (size_of e + suc n)) (omega
      (arith, p)) refl
      ∙ past_expression layout e (suc d) (suc at) rest (here + 1) u (size_of e + suc n) (suc n) refl refl
      ∙ shift is (u + 1) there n n refl (omega (arith, q))
  past_expression layout (tree.Binary o line left right) d at is here there k n p q =
      let from = at + size_of left + branch_size o in
      let last = operator_code o line d is in
      let second = expression_code layout right (right_register o d) from last in
      let a = size_of right + (last_size o + n) in
      let b = branch_size o + a in
      let u = here + size_of left in
      let v = u + branch_size o in
      let w = v + size_of right in
      past_expression layout left d at (branch_code o d (from + size_of right) second) here u k b (omega (arith, p)) refl
      ∙ past_branch o d (from + size_of right) second u v b a refl refl
      ∙ past_expression layout right (right_register o d) from last v w a (last_size o + n) refl refl
      ∙ past_operator o line d is w there (last_size o + n) n refl (omega (arith, q))

-- an operator, once its operands are there
module _ (world : World) (m : Memory Where) where
  -- a place stays the same by another number
  pub moved : (is : List Instr) (g : List ℕ) (here there : ℕ) → there ≡ here → Goes world there is g m → Goes world here is g m
  moved is g here there e h = subst (λ (n : ℕ). Goes world n is g m) e h

  module _ (line d here there : ℕ) (is : List Instr) (f g : List ℕ) (keep : Keeps d f g) (go : (h : List ℕ) → Keeps d f h
      → Goes world there is h m) where
    set_there : there ≡ here + 1 → (v : ℕ) → Goes world (here + 1) is (slice_set g (register d).index v) m
    set_there e v =
        moved is (slice_set g (register d).index v) (here + 1) there e (go (slice_set g (register d).index v) (keeps_set d d v f g
        (omega arith) keep))

    truth : there ≡ here + 2 → Goes world here (truth_code d is) g m
    truth e =
        let g' = slice_set g (register (suc d)).index (word_of (pos 0)) in
        go_set world here (instr.NotEqual (register d) (register d) (register (suc d)) ∷ is) g m (instr.Const (register (suc d)) (pos 0))
        (register (suc d)) (word_of (pos 0)) refl
        (go_set world (here + 1) is g' m (instr.NotEqual (register d) (register d) (register (suc d))) (register d) (cond (held g'
        (register d) == held g' (register (suc d))) 0 1) refl
        (moved is (slice_set g' (register d).index (cond (held g' (register d) == held g' (register (suc d))) 0 1)) (here + 1 + 1) there (omega
        (arith, e))
        (go (slice_set g' (register d).index (cond (held g' (register d) == held g' (register (suc d))) 0 1))
        (keeps_set d d (cond (held g' (register d) == held g' (register (suc d))) 0 1) f g' (omega arith) (keeps_set d (suc d) (word_of
        (pos 0)) f g (omega arith) keep)))))

    abbrev left_word : ℕ
    left_word = held g (register d)

    abbrev right_word : ℕ
    right_word = held g (register (suc d))

    operator_tame : (o : Operator) → there ≡ here + last_size o → Goes world here (operator_code o line d is) g m
    operator_tame operator.And e = truth e
    operator_tame operator.Or e = truth e
    operator_tame operator.Add e =
        go_work world here is g m (instr.Add (register d) (register d) (register (suc d)) line) (register d)
        (whole_works world line (register d) (value_of left_word +ℤ value_of right_word)) (set_there e)
    operator_tame operator.Sub e =
        go_work world here is g m (instr.Sub (register d) (register d) (register (suc d)) line) (register d)
        (whole_works world line (register d) (value_of left_word -ℤ value_of right_word)) (set_there e)
    operator_tame operator.Mul e =
        go_work world here is g m (instr.Mul (register d) (register d) (register (suc d)) line) (register d)
        (whole_works world line (register d) (value_of left_word *ℤ value_of right_word)) (set_there e)
    operator_tame operator.Div e =
        go_work world here is g m (instr.Div (register d) (register d) (register (suc d)) line) (register d)
        (divided_works world line (register d) (value_of left_word) (value_of right_word) (int_div (value_of left_word) (value_of right_word)))
        (set_there e)
    operator_tame operator.Rem e =
        go_work world here is g m (instr.Rem (register d) (register d) (register (suc d)) line) (register d)
        (divided_works world line (register d) (value_of left_word) (value_of right_word) (int_rem (value_of left_word) (value_of right_word)))
        (set_there e)
    operator_tame operator.Eq e =
        let v = cond (left_word == right_word) 1 0 in
        go_set world here is g m (instr.Equal (register d) (register d) (register (suc d))) (register d) v refl (set_there e v)
    operator_tame operator.Ne e =
        let v = cond (left_word == right_word) 0 1 in
        go_set world here is g m (instr.NotEqual (register d) (register d) (register (suc d))) (register d) v refl (set_there e v)
    operator_tame operator.Lt e =
        let v = cond (int_lt (value_of left_word) (value_of right_word)) 1 0 in
        go_set world here is g m (instr.Less (register d) (register d) (register (suc d))) (register d) v refl (set_there e v)
    operator_tame operator.Le e =
        let v = cond (int_le (value_of left_word) (value_of right_word)) 1 0 in
        go_set world here is g m (instr.AtMost (register d) (register d) (register (suc d))) (register d) v refl (set_there e v)
    operator_tame operator.Gt e =
        let v = cond (int_lt (value_of right_word) (value_of left_word)) 1 0 in
        go_set world here is g m (instr.Less (register d) (register (suc d)) (register d)) (register d) v refl (set_there e v)
    operator_tame operator.Ge e =
        let v = cond (int_le (value_of right_word) (value_of left_word)) 1 0 in
        go_set world here is g m (instr.AtMost (register d) (register (suc d)) (register d)) (register d) v refl (set_there e v)

-- how far a branch goes past
skipped_is : (target here n : ℕ) → target ≡ here + n → max target here - here ≡ n + 0
skipped_is target here n e = omega (arith, e)

-- an expression in front of what is tame
module _ (world : World) (scope : Scope) (layout : Layout) (m : Memory Where)
    (owned : (x : Named) → IsRegion scope layout x → (i : ℕ) → i < length_of (m (Own (Slot (slot_of layout x.name))))
    → world.Owns (start_of (m (Own (Slot (slot_of layout x.name)))) + i)) where
  abbrev Tames : Expression → Type 0
  Tames e = (d at here there : ℕ) (is : List Instr) (f g : List ℕ) → at ≡ here → there ≡ here + size_of e → Keeps d f g
      → ((h : List ℕ) → Keeps d f h → Goes world there is h m) → Goes world here (expression_code layout e d at is) g m

  -- with an operator that may go past its right operand
  module _ (left right : Expression) (tames_left : Tames left) (tames_right : Tames right) (line d at here there : ℕ) (is : List Instr)
      (f g : List ℕ)
      (at_is : at ≡ here) (keep : Keeps d f g) (go : (h : List ℕ) → Keeps d f h → Goes world there is h m) where
    plain_tame : (o : Operator) → branch_size o ≡ 0 → right_register o d ≡ suc d
        → ((target : ℕ) (rest : List Instr) → branch_code o d target rest ≡ rest)
        → there ≡ here + (size_of left + branch_size o + size_of right + last_size o)
        → Goes world here (expression_code layout (tree.Binary o line left right) d at is) g m
    plain_tame o none reg branch e =
        let from = at + size_of left + branch_size o in
        let last = operator_code o line d is in
        let second = expression_code layout right (right_register o d) from last in
        let u = here + size_of left in
        let w = u + size_of right in
        tames_left d at here u (branch_code o d (from + size_of right) second) f g at_is refl keep (λ h k.
        subst (λ (rest : List Instr). Goes world u rest h m) (sym (branch (from + size_of right) second))
        (subst (λ (r : ℕ). Goes world u (expression_code layout right r from last) h m) (sym reg)
        (tames_right (suc d) from u w last h h (omega (arith, at_is, none)) refl (keeps_itself (suc d) h k.file) (λ h' k'.
        operator_tame world m line d w there is f h' (keeps_on d (suc d) f h h' (omega arith) k k') go o (omega (arith, e, none))))))

    -- after the right operand, from where it was to begin
    past_right : (o : Operator) (r from target u : ℕ) (h : List ℕ) → last_size o ≡ 2 → target ≡ u + 1 + size_of right
        → there ≡ u + 1 + size_of right + 2 → Keeps d f h
        → Then world u (max target (u + 1)) (expression_code layout right r from (operator_code o line d is)) h m
    past_right o r from target u h two t e k =
        let last = operator_code o line d is in
        let w = u + 1 + size_of right in
        let skipped : max target (u + 1) - (u + 1) ≡ size_of right + 0 = skipped_is target (u + 1) (size_of right) t in
        subst (λ (c : Capsule Where End). Tame world c m)
        (sym (past_expression world.words h layout right r from last (u + 1) w (max target (u + 1) - (u + 1)) 0 skipped refl))
        (operator_tame world m line d w there is f h k go o (omega (arith, e, two)))

    -- and from its beginning, in the register of the left one
    into_right : (o : Operator) (from u : ℕ) (h : List ℕ) → last_size o ≡ 2 → from ≡ u + 1 → there ≡ u + 1 + size_of right + 2 → Keeps d f h
        → Goes world (u + 1) (expression_code layout right d from (operator_code o line d is)) h m
    into_right o from u h two e t k =
        let w = u + 1 + size_of right in
        tames_right d from (u + 1) w (operator_code o line d is) f h e refl k (λ h' k'. operator_tame world m line d w there is f h' k' go o
        (omega (arith, t, two)))

    and_tame : there ≡ here + (size_of left + 1 + size_of right + 2)
        → Goes world here (expression_code layout (tree.Binary operator.And line left right) d at is) g m
    and_tame e =
        let from = at + size_of left + 1 in
        let u = here + size_of left in
        let second = expression_code layout right d from (truth_code d is) in
        tames_left d at here u (instr.BranchZero (register d) (from + size_of right) ∷ second) f g at_is refl keep (λ h k.
        go_zero world u second h m (register d) (from + size_of right)
        (past_right operator.And d from (from + size_of right) u h refl (omega (arith, at_is)) (omega (arith, e)) k)
        (into_right operator.And from u h refl (omega (arith, at_is)) (omega (arith, e)) k))

    or_tame : there ≡ here + (size_of left + 1 + size_of right + 2)
        → Goes world here (expression_code layout (tree.Binary operator.Or line left right) d at is) g m
    or_tame e =
        let from = at + size_of left + 1 in
        let u = here + size_of left in
        let second = expression_code layout right d from (truth_code d is) in
        tames_left d at here u (instr.BranchNonZero (register d) (from + size_of right) ∷ second) f g at_is refl keep (λ h k.
        go_other world u second h m (register d) (from + size_of right)
        (past_right operator.Or d from (from + size_of right) u h refl (omega (arith, at_is)) (omega (arith, e)) k)
        (into_right operator.Or from u h refl (omega (arith, at_is)) (omega (arith, e)) k))

    binary_tame : (o : Operator) → there ≡ here + (size_of left + branch_size o + size_of right + last_size o)
        → Goes world here (expression_code layout (tree.Binary o line left right) d at is) g m
    binary_tame operator.And e = and_tame e
    binary_tame operator.Or e = or_tame e
    binary_tame operator.Add e = plain_tame operator.Add refl refl (λ target rest. refl) e
    binary_tame operator.Sub e = plain_tame operator.Sub refl refl (λ target rest. refl) e
    binary_tame operator.Mul e = plain_tame operator.Mul refl refl (λ target rest. refl) e
    binary_tame operator.Div e = plain_tame operator.Div refl refl (λ target rest. refl) e
    binary_tame operator.Rem e = plain_tame operator.Rem refl refl (λ target rest. refl) e
    binary_tame operator.Eq e = plain_tame operator.Eq refl refl (λ target rest. refl) e
    binary_tame operator.Ne e = plain_tame operator.Ne refl refl (λ target rest. refl) e
    binary_tame operator.Lt e = plain_tame operator.Lt refl refl (λ target rest. refl) e
    binary_tame operator.Le e = plain_tame operator.Le refl refl (λ target rest. refl) e
    binary_tame operator.Gt e = plain_tame operator.Gt refl refl (λ target rest. refl) e
    binary_tame operator.Ge e = plain_tame operator.Ge refl refl (λ target rest. refl) e

  pub tame_expression : (e : Expression) → FitsExpression scope layout e → Tames e
  tame_expression (tree.Number z) fits d at here there is f g at_is e keep go =
      let h = slice_set g (register d).index (word_of z) in
      go_set world here is g m (instr.Const (register d) z) (register d) (word_of z) refl
      (moved world m is h (here + 1) there e (go h (keeps_set d d (word_of z) f g (omega arith) keep)))
  tame_expression (tree.Name x) fits d at here there is f g at_is e keep go =
      let v = m (Own (Slot (slot_of layout x.name))) in
      let h = slice_set g (register d).index v in
      go_load world here is g m (register d) (slot_of layout x.name) (moved world m is h (here + 1) there e (go h (keeps_set d d v f g
      (omega arith) keep)))
  tame_expression (tree.Element x index) fits d at here there is f g at_is e keep go =
      let slot = slot_of layout x.name in
      let w = m (Own (Slot slot)) in
      let u = here + size_of index in
      let get = instr.Get (register d) (register (suc d)) (register d) x.line ∷ is in
      tame_expression index fits.1 d at here u (instr.LoadSlot (register (suc d)) slot ∷ get) f g at_is refl keep (λ h k.
      let h' = slice_set h (register (suc d)).index w in
      let k' = keeps_set d (suc d) w f h (omega arith) k in
      let holds : w ≡ held h' (register (suc d)) = sym (held_set h (register (suc d)) w k.file) in
      go_load world u get h m (register (suc d)) slot
      (go_get world (u + 1) is h' m (register d) (register (suc d)) (register d) x.line
      (subst (λ (q : ℕ). (i : ℕ) → i < length_of q → world.Owns (start_of q + i)) holds (owned x fits.0))
      (λ v. moved world m is (slice_set h' (register d).index v) (u + 1 + 1) there (omega (arith, e))
      (go (slice_set h' (register d).index v) (keeps_set d d v f h' (omega arith) k')))))
  tame_expression (tree.Len x) fits d at here there is f g at_is e keep go =
      let slot = slot_of layout x.name in
      let w = m (Own (Slot slot)) in
      let h = slice_set g (register d).index w in
      let k = keeps_set d d w f g (omega arith) keep in
      let v = length_of (held h (register d)) in
      let h' = slice_set h (register d).index v in
      go_load world here (instr.Len (register d) (register d) ∷ is) g m (register d) slot
      (go_set world (here + 1) is h m (instr.Len (register d) (register d)) (register d) v refl
      (moved world m is h' (here + 1 + 1) there (omega (arith, e)) (go h' (keeps_set d d v f h (omega arith) k))))
  tame_expression (tree.Minus line x) fits d at here there is f g at_is e keep go =
      let h = slice_set g (register d).index (word_of (pos 0)) in
      let k = keeps_set d d (word_of (pos 0)) f g (omega arith) keep in
      let u = here + 1 + size_of x in
      let sub = instr.Sub (register d) (register d) (register (suc d)) line in
      go_set world here (expression_code layout x (suc d) (suc at) (sub ∷ is)) g m (instr.Const (register d) (pos 0)) (register d) (word_of
      (pos 0)) refl
      (tame_expression x fits (suc d) (suc at) (here + 1) u (sub ∷ is) h h (omega (arith, at_is)) refl (keeps_itself (suc d) h k.file) (λ h' k'.
      go_work world u is h' m sub (register d) (whole_works world line (register d) (value_of (held h' (register d)) -ℤ value_of (held h'
      (register (suc d)))))
      (λ v. moved world m is (slice_set h' (register d).index v) (u + 1) there (omega (arith, e))
      (go (slice_set h' (register d).index v) (keeps_set d d v f h' (omega arith) (keeps_on d (suc d) f h h' (omega arith) k k'))))))
  tame_expression (tree.Binary o line left right) fits d at here there is f g at_is e keep go =
      binary_tame left right (tame_expression left fits.0) (tame_expression right fits.1) line d at here there is f g at_is keep go o e
