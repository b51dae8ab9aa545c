-- What the code of a program lists stands at its numbers: the capsules of each procedure from its entry on, one after the other.
use Rattle.std.proofs.Common.{◌≡◌, ◌≢◌, ◌<◌, ℕ, zero, suc, ◌+◌, cond, Bool, true, false, List, [], ◌∷◌, ◌++◌, Some}
use Rattle.std.proofs.Common.{None, length, map, slice_get, refl, sym, ap, ◌∙◌, subst, arith}
use Rattle.std.specs.Str.{bytes_eq}
use Rattle.ppm_code.specs.declared.code.Capsule.{Capsule}
use Rattle.ppm_code.specs.declared.code.CodeParts.{CodeParts}
use Rattle.ppm_code.specs.Sizes.{slots_of, slots_in}
use Rattle.ppm_code.specs.Strands.{instrs_in, entry_of, entry_in}
use Rattle.ppm_tree.specs.Tree.{Statement, Block, Nil, Then, Procedure, ProgramTree}
use Rattle.ppm_tree.specs.Tree as tree
use Rattle.ppm_tree.specs.State.{procedure_named}
use Rattle.ppm_regions.specs.Scope.{first_named}
use Rattle.ppm_cut_code.specs.Layout.{Layout, parameter_layout, caught}
use Rattle.ppm_cut_code.specs.Numbers.{behind, end_of, hidden_behind, hidden_behind_block, element_block}
use Rattle.ppm_cut_code.specs.Slots.{named_slots, hidden_named_slots}
use Rattle.ppm_cut_code.specs.Statements.{Instrs, Last, OnTo, Gives, with_lets, with_parts, hidden_layout, statement_code, block_code, number_of}
use Rattle.ppm_cut_code.specs.Routines.{Routine, OfText, Hidden, routine_slots, routine_behind, hidden_of, hidden_of_block, texts_from}
use Rattle.ppm_cut_code.specs.Routines.{hidden_from, routines_of, procedures_from, routine_code, capsules_from, code_of}
use Rattle.ppm_cut_code.specs.Standing.{HasStatement, HasBlock, HasBody}
use Rattle.ppm_cut_code.specs.Correct.{ProceduresStand}

-- the number after the items of a list, the first of which has the number n
abbrev pub past : {A : Type 0} → List A → ℕ → ℕ
past [] n = n
past (x ∷ xs) n = past xs (suc n)

pub past_append : {A : Type 0} (xs ys : List A) (n : ℕ) → past (xs ++ ys) n ≡ past ys (past xs n)
past_append [] ys n = refl
past_append (x ∷ xs) ys n = past_append xs ys (suc n)

pub past_length : {A : Type 0} (xs : List A) (n : ℕ) → past xs n ≡ length xs + n
past_length [] n = omega arith
past_length (x ∷ xs) n = let h = past_length xs (suc n) in omega (arith, h)

pub past_map : {A B : Type 0} (f : A → B) (xs : List A) (n : ℕ) → past (map f xs) n ≡ past xs n
past_map f [] n = refl
past_map f (x ∷ xs) n = past_map f xs (suc n)

-- the numbers of capsules are those that the lists of capsules give
module _ (procedures : List Procedure) where
  mutual
    pub statement_past : (spare : ℕ) (layout : Layout) (at h : ℕ) (s : Statement)
        → past (statement_code procedures spare layout at h s) at ≡ behind s at
    statement_past spare layout at h (tree.Let x e) = refl
    statement_past spare layout at h (tree.Assign x e) = refl
    statement_past spare layout at h (tree.Put x index e) = refl
    statement_past spare layout at h (tree.If e holds other) =
        let first = suc (end_of holds (suc at)) in
        let next = suc (end_of other first) in
        let xs = block_code procedures spare layout (suc at) h (OnTo next) holds in
        let ys = block_code procedures spare layout first (hidden_behind_block holds h) (OnTo next) other in
        past_append xs ys (suc at) ∙ ap (past ys) (block_past spare layout (suc at) h (OnTo next) holds)
        ∙ block_past spare layout first (hidden_behind_block holds h) (OnTo next) other
    statement_past spare layout at h (tree.While e block) = block_past spare layout (suc at) h (OnTo at) block
    statement_past spare layout at h (tree.Call s) = refl
    statement_past spare layout at h (tree.Fork s t) = refl
    statement_past spare layout at h (tree.Split line r e x y block) =
        block_past spare (with_parts layout x y) (suc at) h (OnTo (suc (end_of block (suc at)))) block
    statement_past spare layout at h (tree.Each i x r block) = refl

    pub block_past : (spare : ℕ) (layout : Layout) (at h : ℕ) (last : Last) (b : Block)
        → past (block_code procedures spare layout at h last b) at ≡ suc (end_of b at)
    block_past spare layout at h last Nil = refl
    block_past spare layout at h last (Then s rest) =
        let ys = block_code procedures spare (with_lets layout s) (behind s at) (hidden_behind s h) last rest in
        past_append (statement_code procedures spare layout at h s) ys at ∙ ap (past ys) (statement_past spare layout at h s)
        ∙ block_past spare (with_lets layout s) (behind s at) (hidden_behind s h) last rest

  pub routine_past : (at : ℕ) (r : Routine) → past (routine_code procedures at r) at ≡ routine_behind r at
  routine_past at (OfText p h) = block_past (named_slots p) (parameter_layout p.parameters) at h (Gives p.give) p.body
  routine_past at (Hidden s) =
      block_past (hidden_named_slots (length s.names) s.block) (s.part ∷ s.index ∷ s.names) (element_block at) (suc s.number) (Gives None) s.block

-- and so are the numbers of hidden procedures
mutual
  pub hidden_past : (layout : Layout) (h : ℕ) (s : Statement) → past (hidden_of layout h s) h ≡ hidden_behind s h
  hidden_past layout h (tree.Let x e) = refl
  hidden_past layout h (tree.Assign x e) = refl
  hidden_past layout h (tree.Put x index e) = refl
  hidden_past layout h (tree.If e holds other) =
      let ys = hidden_of_block layout (hidden_behind_block holds h) other in
      past_append (hidden_of_block layout h holds) ys h ∙ ap (past ys) (hidden_past_block layout h holds)
      ∙ hidden_past_block layout (hidden_behind_block holds h) other
  hidden_past layout h (tree.While e block) = hidden_past_block layout h block
  hidden_past layout h (tree.Call s) = refl
  hidden_past layout h (tree.Fork s t) = refl
  hidden_past layout h (tree.Split line r e x y block) = hidden_past_block (with_parts layout x y) h block
  hidden_past layout h (tree.Each i x r block) = hidden_past_block (hidden_layout layout i x block) (suc h) block

  pub hidden_past_block : (layout : Layout) (h : ℕ) (b : Block) → past (hidden_of_block layout h b) h ≡ hidden_behind_block b h
  hidden_past_block layout h Nil = refl
  hidden_past_block layout h (Then s rest) =
      let ys = hidden_of_block (with_lets layout s) (hidden_behind s h) rest in
      past_append (hidden_of layout h s) ys h ∙ ap (past ys) (hidden_past layout h s)
      ∙ hidden_past_block (with_lets layout s) (hidden_behind s h) rest

pub texts_past : (h : ℕ) (ps : List Procedure) (n : ℕ) → past (texts_from h ps) n ≡ past ps n
texts_past h [] n = refl
texts_past h (p ∷ ps) n = texts_past (hidden_behind_block p.body h) ps (suc n)

-- what is found in a list is in it
pub found_there : {A : Type 0} {x : A} (xs : List A) (n : ℕ) → slice_get xs n ≡ Some x → n < length xs
found_there [] n h = absurd (cc)
found_there (y ∷ xs) zero h = omega arith
found_there (y ∷ xs) (suc n) h = let rest = found_there xs n h in omega (arith, rest)

-- a capsule with the number of its procedure
abbrev pub of_procedure : ℕ → Instrs → Capsule
of_procedure q is = record { procedure = q; instrs = is }

module _ (procedures : List Procedure) (code : CodeParts) where
  -- the capsules of the list are those of the code from this number on
  abbrev pub Listed : ℕ → List Capsule → Type 0
  Listed at [] = Unit {0}
  Listed at (c ∷ cs) = (slice_get code.capsules at ≡ Some c) × Listed (suc at) cs

  pub listed_first : (xs ys : List Capsule) (at : ℕ) → Listed at (xs ++ ys) → Listed at xs
  listed_first [] ys at h = tt
  listed_first (x ∷ xs) ys at h = (h.0, listed_first xs ys (suc at) h.1)

  pub listed_second : (xs ys : List Capsule) (at : ℕ) → Listed at (xs ++ ys) → Listed (past xs at) ys
  listed_second [] ys at h = h
  listed_second (x ∷ xs) ys at h = listed_second xs ys (suc at) h.1

  pub listed : (cs : List Capsule) (at : ℕ) → ((i : ℕ) → slice_get code.capsules (i + at) ≡ slice_get cs i) → Listed at cs
  listed [] at h = tt
  listed (c ∷ cs) at h =
      let first : 0 + at ≡ at = omega arith in
      let next : (i : ℕ) → i + suc at ≡ suc i + at = λ i. omega arith in
      (ap (slice_get code.capsules) (sym first) ∙ h 0, listed cs (suc at) (λ i. ap (slice_get code.capsules) (next i) ∙ h (suc i)))

  -- the instructions of the list are those of the capsules from this number on, all of the procedure q
  abbrev pub Stands : (q at : ℕ) → List Instrs → Type 0
  Stands q at [] = Unit {0}
  Stands q at (is ∷ rest) = (slice_get code.capsules at ≡ Some (of_procedure q is)) × Stands q (suc at) rest

  pub stands_listed : (q at : ℕ) (xs : List Instrs) → Listed at (map (of_procedure q) xs) → Stands q at xs
  stands_listed q at [] h = tt
  stands_listed q at (x ∷ xs) h = (h.0, stands_listed q (suc at) xs h.1)

  pub stands_first : (q at : ℕ) (xs ys : List Instrs) → Stands q at (xs ++ ys) → Stands q at xs
  stands_first q at [] ys h = tt
  stands_first q at (x ∷ xs) ys h = (h.0, stands_first q (suc at) xs ys h.1)

  pub stands_second : (q at next : ℕ) (xs ys : List Instrs) → past xs at ≡ next → Stands q at (xs ++ ys) → Stands q next ys
  stands_second q at next [] ys e h = subst (λ (k : ℕ). Stands q k ys) e h
  stands_second q at next (x ∷ xs) ys e h = stands_second q (suc at) next xs ys e h.1

  -- a procedure of the code stands at its entry, and its frames have its slots
  pub record IsPlaced (q : ℕ) (r : Routine) : Type 0 where
    pub there : q < length code.procedures
    pub slots : slots_of code q ≡ routine_slots r
    pub stands : Stands q (entry_of code q) (routine_code procedures (entry_of code q) r)

  -- the procedures from the number q on are these
  abbrev pub ArePlaced : ℕ → List Routine → Type 0
  ArePlaced q [] = Unit {0}
  ArePlaced q (r ∷ rs) = IsPlaced q r × ArePlaced (suc q) rs

  pub placed_first : (xs ys : List Routine) (q : ℕ) → ArePlaced q (xs ++ ys) → ArePlaced q xs
  placed_first [] ys q h = tt
  placed_first (x ∷ xs) ys q h = (h.0, placed_first xs ys (suc q) h.1)

  pub placed_second : (xs ys : List Routine) (q next : ℕ) → past xs q ≡ next → ArePlaced q (xs ++ ys) → ArePlaced next ys
  placed_second [] ys q next e h = subst (λ (k : ℕ). ArePlaced k ys) e h
  placed_second (x ∷ xs) ys q next e h = placed_second xs ys (suc q) next e h.1

  mutual
    pub statement_has : (q spare : ℕ) (layout : Layout) (at h : ℕ) (s : Statement) → Stands q at (statement_code procedures spare layout at h s)
        → ArePlaced h (hidden_of layout h s) → HasStatement procedures code spare layout at h s
    statement_has q spare layout at h (tree.Let x e) c r = ap instrs_in c.0
    statement_has q spare layout at h (tree.Assign x e) c r = (ap instrs_in c.0, ap instrs_in c.1.0)
    statement_has q spare layout at h (tree.Put x index e) c r = (ap instrs_in c.0, ap instrs_in c.1.0)
    statement_has q spare layout at h (tree.If e holds other) c r =
        let first = suc (end_of holds (suc at)) in
        let next = suc (end_of other first) in
        let between = hidden_behind_block holds h in
        let xs = block_code procedures spare layout (suc at) h (OnTo next) holds in
        let ys = block_code procedures spare layout first between (OnTo next) other in
        let hidden = hidden_of_block layout h holds in
        let more = hidden_of_block layout between other in (
          ap instrs_in c.0,
          block_has q spare layout (suc at) h (OnTo next) holds (stands_first q (suc at) xs ys c.1) (placed_first hidden more h r),
          block_has q spare layout first between (OnTo next) other
              (stands_second q (suc at) first xs ys (block_past procedures spare layout (suc at) h (OnTo next) holds) c.1)
              (placed_second hidden more h between (hidden_past_block layout h holds) r),
        )
    statement_has q spare layout at h (tree.While e block) c r = (ap instrs_in c.0, block_has q spare layout (suc at) h (OnTo at) block c.1 r)
    statement_has q spare layout at h (tree.Call s) c r = ap instrs_in c.0
    statement_has q spare layout at h (tree.Fork s t) c r = ap instrs_in c.0
    statement_has q spare layout at h (tree.Split line region e x y block) c r =
        (ap instrs_in c.0, block_has q spare (with_parts layout x y) (suc at) h (OnTo (suc (end_of block (suc at)))) block c.1 r)
    statement_has q spare layout at h (tree.Each i x region block) c r =
        let own = r.0.stands in
        let names = length (caught layout block) in (
          ap instrs_in c.0,
          ap instrs_in own.0,
          ap instrs_in own.1.0,
          ap instrs_in own.1.1.0,
          r.0.slots,
          block_has h (hidden_named_slots names block) (hidden_layout layout i x block) (element_block (entry_of code h)) (suc h) (Gives None) block
              own.1.1.1 r.1,
        )

    pub block_has : (q spare : ℕ) (layout : Layout) (at h : ℕ) (last : Last) (b : Block)
        → Stands q at (block_code procedures spare layout at h last b) → ArePlaced h (hidden_of_block layout h b)
        → HasBlock procedures code spare layout at h last b
    block_has q spare layout at h last Nil c r = ap instrs_in c.0
    block_has q spare layout at h last (Then s rest) c r =
        let front = statement_code procedures spare layout at h s in
        let back = block_code procedures spare (with_lets layout s) (behind s at) (hidden_behind s h) last rest in
        let hidden = hidden_of layout h s in
        let more = hidden_of_block (with_lets layout s) (hidden_behind s h) rest in (
          statement_has q spare layout at h s (stands_first q at front back c) (placed_first hidden more h r),
          block_has q spare (with_lets layout s) (behind s at) (hidden_behind s h) last rest
              (stands_second q at (behind s at) front back (statement_past procedures spare layout at h s) c)
              (placed_second hidden more h (hidden_behind s h) (hidden_past layout h s) r),
        )

  -- the procedures of a list, where the first has the number q and its first hidden one the number h
  pub bodies_have : (ps : List Procedure) (q h : ℕ) → ArePlaced q (texts_from h ps) → ArePlaced h (hidden_from h ps) → (x : List ℕ)
      → first_named (λ p. p.name.name) ps x ≢ None → HasBody procedures code (number_of ps x + q) (procedure_named ps x)
  bodies_have [] q h texts hidden x found = absurd (found refl)
  bodies_have (p ∷ ps) q h texts hidden x found =
      let own = hidden_of_block (parameter_layout p.parameters) h p.body in
      let next = hidden_behind_block p.body h in
      let rest = placed_second own (hidden_from next ps) h next (hidden_past_block (parameter_layout p.parameters) h p.body) hidden in
      go (bytes_eq p.name.name x) (bodies_have ps (suc q) next texts.1 rest x) found
    where
      body : HasBody procedures code q p
      body = record {
        h = h;
        body = block_has q (named_slots p) (parameter_layout p.parameters) (entry_of code q) h (Gives p.give) p.body texts.0.stands
            (placed_first (hidden_of_block (parameter_layout p.parameters) h p.body) (hidden_from (hidden_behind_block p.body h) ps) h hidden);
        slots = texts.0.slots;
      }

      go : (b : Bool) → (first_named (λ p. p.name.name) ps x ≢ None → HasBody procedures code (number_of ps x + suc q) (procedure_named ps x))
          → cond b (Some p) (first_named (λ p. p.name.name) ps x) ≢ None
          → HasBody procedures code (cond b 0 (suc (number_of ps x)) + q) (cond b p (procedure_named ps x))
      go true more found = let e : q ≡ 0 + q = omega arith in subst (λ (k : ℕ). HasBody procedures code k p) e body
      go false more found =
          let e : number_of ps x + suc q ≡ suc (number_of ps x) + q = omega arith in
          subst (λ (k : ℕ). HasBody procedures code k (procedure_named ps x)) e (more found)

  -- the code lists these procedures from the number q on, the first of which is entered at the capsule `at`
  pub all_placed : (rs : List Routine) (q at : ℕ) → ((i : ℕ) → slice_get code.procedures (i + q) ≡ slice_get (procedures_from at rs) i)
      → Listed at (capsules_from procedures q at rs) → ArePlaced q rs
  all_placed [] q at h c = tt
  all_placed (r ∷ rs) q at h c = (placed, all_placed rs (suc q) (routine_behind r at) later behind_r)
    where
      first : slice_get code.procedures q ≡ Some (record { slots = routine_slots r; entry = at })
      first = let e : q ≡ 0 + q = omega arith in ap (slice_get code.procedures) e ∙ h 0

      entry : at ≡ entry_of code q
      entry = sym (ap entry_in first)

      stands : Stands q at (routine_code procedures at r)
      stands = stands_listed q at (routine_code procedures at r)
          (listed_first (map (of_procedure q) (routine_code procedures at r)) (capsules_from procedures (suc q) (routine_behind r at) rs) at c)

      placed : IsPlaced q r
      placed = record {
        there = found_there code.procedures q first;
        slots = ap slots_in first;
        stands = subst (λ (k : ℕ). Stands q k (routine_code procedures k r)) entry stands;
      }

      later : (i : ℕ) → slice_get code.procedures (i + suc q) ≡ slice_get (procedures_from (routine_behind r at) rs) i
      later i = let e : i + suc q ≡ suc i + q = omega arith in ap (slice_get code.procedures) e ∙ h (suc i)

      behind_r : Listed (routine_behind r at) (capsules_from procedures (suc q) (routine_behind r at) rs)
      behind_r = subst (λ (k : ℕ). Listed k (capsules_from procedures (suc q) (routine_behind r at) rs))
          (past_map (of_procedure q) (routine_code procedures at r) at ∙ routine_past procedures at r)
          (listed_second (map (of_procedure q) (routine_code procedures at r)) (capsules_from procedures (suc q) (routine_behind r at) rs) at c)

-- all procedures of the code of a program
pub routines_placed : (t : ProgramTree) → ArePlaced t.procedures (code_of t) 0 (routines_of t.procedures)
routines_placed t =
    let e : (i : ℕ) → i + 0 ≡ i = λ i. omega arith in
    all_placed t.procedures (code_of t) (routines_of t.procedures) 0 0 (λ i. ap (slice_get (code_of t).procedures) (e i))
    (listed t.procedures (code_of t) (code_of t).capsules 0 (λ i. ap (slice_get (code_of t).capsules) (e i)))

pub procedures_have : ProceduresStand
procedures_have t = record { each = each }
  where
    placed : ArePlaced t.procedures (code_of t) 0 (routines_of t.procedures)
    placed = routines_placed t

    each : (x : List ℕ) → first_named (λ p. p.name.name) t.procedures x ≢ None
        → HasBody t.procedures (code_of t) (number_of t.procedures x) (procedure_named t.procedures x)
    each x found =
        let ps = t.procedures in
        let n = length t.procedures in
        let e : number_of ps x + 0 ≡ number_of ps x = omega arith in
        let count : past (texts_from n ps) 0 ≡ n = let p = texts_past n ps 0 in let l = past_length ps 0 in omega (arith, p, l) in
        subst (λ (k : ℕ). HasBody t.procedures (code_of t) k (procedure_named ps x)) e
        (bodies_have ps (code_of t) ps 0 n (placed_first ps (code_of t) (texts_from n ps) (hidden_from n ps) 0 placed)
        (placed_second ps (code_of t) (texts_from n ps) (hidden_from n ps) 0 n count placed) x found)
