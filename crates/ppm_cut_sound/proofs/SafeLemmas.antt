-- The capsules of statements that fit are safe: each reads slots of names and stores into others, or into the new block.
use Rattle.std.proofs.Common.{◌≡◌, ◌≢◌, ◌<◌, ◌≤◌, inl, inr, ℕ, zero, suc, ◌+◌, List, [], ◌∷◌, None, Some, length, refl, arith}
use Rattle.std.specs.List.{AllByRecursion}
use Rattle.ppm_code.specs.declared.act.End.TheVariants as ends
use Rattle.ppm_code.specs.declared.class.Class.{Class}
use Rattle.ppm_code.specs.declared.class.Class.TheVariants.{Slot}
use Rattle.ppm_code.specs.declared.code.CodeParts.{CodeParts}
use Rattle.ppm_code.specs.declared.instr.Instr.TheVariants as instr
use Rattle.ppm_code.specs.Sizes.{slots_of}
use Rattle.ppm_tree.specs.declared.mode.Mode.{Mode}
use Rattle.ppm_tree.specs.declared.mode.Mode.TheVariants as mode
use Rattle.ppm_tree.specs.declared.named.Named.{Named}
use Rattle.ppm_tree.specs.declared.operator.Operator.{Operator}
use Rattle.ppm_tree.specs.declared.operator.Operator.TheVariants as operator
use Rattle.ppm_tree.specs.declared.tree.Parameter.{Parameter}
use Rattle.ppm_tree.specs.Tree.{Expression, Number, Name, Element, Len, Minus, Binary, Argument, Side, Block, Give, Procedure}
use Rattle.ppm_tree.specs.State.{procedure_named}
use Rattle.ppm_regions.specs.Scope.{Scope, first_named}
use Rattle.ppm_cut_code.specs.Layout.{Layout, slot_of, register, caught, target_of}
use Rattle.ppm_cut_code.specs.Expressions.{size_of, branch_size, right_register, branch_code, operator_code, expression_code}
use Rattle.ppm_cut_code.specs.Slots.{procedure_slots, hidden_slots, frame_words}
use Rattle.ppm_cut_code.specs.Statements.{Instrs, onward, let_code, value_code, move_code, element_code, put_code, test_code, split_code}
use Rattle.ppm_cut_code.specs.Statements.{lent_code, argument_size, argument_code, arguments_size, arguments_code, paired, stores_code}
use Rattle.ppm_cut_code.specs.Statements.{give_code, loads_code, each_code, entry_code, names_code, halving_code, number_of}
use Rattle.ppm_cut_code.specs.Statements.{callee_parameters, callee_number, callee_slots, call_code, fork_code}
use Rattle.ppm_cut_code.specs.Fits.{Has, FitsExpression, FitsLent, FitsArgument, FitsArguments, FitsSide}
use Rattle.ppm_cut_sound.proofs.PlainLemmas.{Below, IsSafe, built_end, built_stores, AreSafe, plain_first, end_last, end_first}
use Rattle.ppm_cut_sound.proofs.PlainLemmas.{store_first, built_new, new_first, give_first, put_first, stores_first, safe}

-- the slots of a capsule that reads nothing else
abbrev OnlySlot : ℕ → Class → Type 0
OnlySlot n (Slot i) = i ≡ n
OnlySlot n c = ⊥

abbrev AnySlot : Class → Type 0
AnySlot (Slot i) = Unit {0}
AnySlot c = ⊥

module _ (code : CodeParts) where
  -- names that are captured one after the other
  safe_loads : (layout names : Layout) → AllByRecursion (Has layout) names → (d : ℕ) (rest : Instrs) → AreSafe code (Below (length layout)) rest
      → AreSafe code (Below (length layout)) (loads_code layout names d rest)
  safe_loads layout [] all d rest h = h
  safe_loads layout (x ∷ names) all d rest h =
      plain_first code (Below (length layout)) (instr.LoadSlot (register d) (slot_of layout x)) (loads_code layout names (suc d) rest) all.0
      (safe_loads layout names all.1 (suc d) rest h)

  safe_names : (n slot d count : ℕ) → slot + count ≤ n → (rest : Instrs) → AreSafe code (Below n) rest
      → AreSafe code (Below n) (names_code slot d count rest)
  safe_names n slot d zero enough rest h = h
  safe_names n slot d (suc count) enough rest h =
      plain_first code (Below n) (instr.LoadSlot (register d) slot) (names_code (suc slot) (suc d) count rest) (omega (arith, enough))
      (safe_names n (suc slot) (suc d) count (omega (arith, enough)) rest h)

  module _ (scope : Scope) (layout : Layout) where
    abbrev Reads : Class → Type 0
    Reads = Below (length layout)

    safe_operator : (o : Operator) (line d : ℕ) (rest : Instrs) → AreSafe code Reads rest → AreSafe code Reads (operator_code o line d rest)
    safe_operator operator.Add line d rest h = plain_first code Reads _ rest tt h
    safe_operator operator.Sub line d rest h = plain_first code Reads _ rest tt h
    safe_operator operator.Mul line d rest h = plain_first code Reads _ rest tt h
    safe_operator operator.Div line d rest h = plain_first code Reads _ rest tt h
    safe_operator operator.Rem line d rest h = plain_first code Reads _ rest tt h
    safe_operator operator.Eq line d rest h = plain_first code Reads _ rest tt h
    safe_operator operator.Ne line d rest h = plain_first code Reads _ rest tt h
    safe_operator operator.Lt line d rest h = plain_first code Reads _ rest tt h
    safe_operator operator.Le line d rest h = plain_first code Reads _ rest tt h
    safe_operator operator.Gt line d rest h = plain_first code Reads _ rest tt h
    safe_operator operator.Ge line d rest h = plain_first code Reads _ rest tt h
    safe_operator operator.And line d rest h = plain_first code Reads _ _ tt (plain_first code Reads _ rest tt h)
    safe_operator operator.Or line d rest h = plain_first code Reads _ _ tt (plain_first code Reads _ rest tt h)

    safe_branch : (o : Operator) (d target : ℕ) (rest : Instrs) → AreSafe code Reads rest → AreSafe code Reads (branch_code o d target rest)
    safe_branch operator.And d target rest h = plain_first code Reads _ rest tt h
    safe_branch operator.Or d target rest h = plain_first code Reads _ rest tt h
    safe_branch o d target rest h = h

    safe_expression : (e : Expression) → FitsExpression scope layout e → (d at : ℕ) (rest : Instrs) → AreSafe code Reads rest
        → AreSafe code Reads (expression_code layout e d at rest)
    safe_expression (Number z) fits d at rest h = plain_first code Reads _ rest tt h
    safe_expression (Name x) fits d at rest h = plain_first code Reads _ rest fits.has h
    safe_expression (Element x index) fits d at rest h =
        safe_expression index fits.1 d at _ (plain_first code Reads _ _ fits.0.has (plain_first code Reads _ rest tt h))
    safe_expression (Len x) fits d at rest h = plain_first code Reads _ _ fits.has (plain_first code Reads _ rest tt h)
    safe_expression (Minus line e) fits d at rest h =
        plain_first code Reads _ _ tt (safe_expression e fits (suc d) (suc at) _ (plain_first code Reads _ rest tt h))
    safe_expression (Binary o line left right) fits d at rest h =
        let from = at + size_of left + branch_size o in
        let last = operator_code o line d rest in
        let second = expression_code layout right (right_register o d) from last in
        safe_expression left fits.0 d at (branch_code o d (from + size_of right) second)
        (safe_branch o d (from + size_of right) second
        (safe_expression right fits.1 (right_register o d) from last (safe_operator o line d rest h)))

    safe_lent : (e : Expression) → FitsLent scope layout e → (d : ℕ) (rest : Instrs) → AreSafe code Reads rest
        → AreSafe code Reads (lent_code layout e d ∷ rest)
    safe_lent (Name x) fits d rest h = plain_first code Reads _ rest fits.has h
    safe_lent (Number z) fits d rest h = absurd fits
    safe_lent (Element x index) fits d rest h = absurd fits
    safe_lent (Len x) fits d rest h = absurd fits
    safe_lent (Minus line e) fits d rest h = absurd fits
    safe_lent (Binary o line left right) fits d rest h = absurd fits

    safe_argument : (m : Mode) (e : Expression) → FitsArgument scope layout m e → (d at : ℕ) (rest : Instrs) → AreSafe code Reads rest
        → AreSafe code Reads (argument_code layout m e d at rest)
    safe_argument mode.Int e fits d at rest h = safe_expression e fits d at rest h
    safe_argument mode.Mut e fits d at rest h = safe_lent e fits d rest h
    safe_argument mode.Ref e fits d at rest h = safe_lent e fits d rest h

    safe_arguments : (ps : List Parameter) (arguments : List Argument) → FitsArguments scope layout ps arguments → (d at : ℕ) (rest : Instrs)
        → AreSafe code Reads rest → AreSafe code Reads (arguments_code layout ps arguments d at rest)
    safe_arguments [] arguments fits d at rest h = h
    safe_arguments (p ∷ ps) [] fits d at rest h = h
    safe_arguments (p ∷ ps) (a ∷ arguments) fits d at rest h =
        let next = at + argument_size p.mode a.value in
        safe_argument p.mode a.value fits.0 d at (arguments_code layout ps arguments (suc d) next rest)
        (safe_arguments ps arguments fits.1 (suc d) next rest h)

    pub safe_onward : (next : ℕ) → AreSafe code Reads (onward next)
    safe_onward next = end_last code Reads (ends.Next next)

    pub safe_let : (e : Expression) → FitsExpression scope layout e → (next : ℕ) → IsSafe code (let_code layout e next)
    safe_let e fits next =
        safe code Reads (let_code layout e next)
        (safe_expression e fits 0 0 _ (store_first code Reads _ _ (onward next) (λ below. omega (arith, below)) (safe_onward next)))

    pub safe_value : (spare : ℕ) → length layout ≤ spare → (e : Expression) → FitsExpression scope layout e → (next : ℕ)
        → IsSafe code (value_code layout spare e next)
    safe_value spare enough e fits next =
        safe code Reads (value_code layout spare e next)
        (safe_expression e fits 0 0 _ (store_first code Reads _ _ (onward next) (λ below. omega (arith, below, enough)) (safe_onward next)))

    pub safe_move : (spare : ℕ) → length layout ≤ spare → (x : Named) → Has layout x.name → (next : ℕ) → IsSafe code (move_code layout spare x next)
    safe_move spare enough x has next =
        safe code (OnlySlot spare) (move_code layout spare x next)
        (plain_first code (OnlySlot spare) _ _ refl
        (store_first code (OnlySlot spare) _ _ (onward next) (λ same. omega (arith, same, has, enough))
        (end_last code (OnlySlot spare) (ends.Next next))))

    pub safe_element : (spare : ℕ) → length layout ≤ spare → (index e : Expression) → FitsExpression scope layout index
        → FitsExpression scope layout e
        → (next : ℕ) → IsSafe code (element_code layout spare index e next)
    safe_element spare enough index e fits fits' next =
        safe code Reads (element_code layout spare index e next)
        (safe_expression index fits 0 0 _ (safe_expression e fits' 1 (size_of index) _
        (store_first code Reads _ _ _ (λ below. omega (arith, below, enough))
        (store_first code Reads _ _ (onward next) (λ below. omega (arith, below, enough)) (safe_onward next)))))

    pub safe_put : (spare : ℕ) (x : Named) (next : ℕ) → IsSafe code (put_code layout spare x next)
    safe_put spare x next =
        safe code AnySlot (put_code layout spare x next)
        (plain_first code AnySlot _ _ tt (plain_first code AnySlot _ _ tt (plain_first code AnySlot _ _ tt
        (put_first code AnySlot _ _ _ _ (onward next) (λ none. none) (end_last code AnySlot (ends.Next next))))))

    pub safe_test : (e : Expression) → FitsExpression scope layout e → (inside next : ℕ) → IsSafe code (test_code layout e inside next)
    safe_test e fits inside next =
        safe code Reads (test_code layout e inside next)
        (safe_expression e fits 0 0 _ (plain_first code Reads _ _ tt (end_first code Reads (ends.Next inside) (onward next) (safe_onward next))))

    pub safe_split : (line : ℕ) (r : Named) (e : Expression) → Has layout r.name → FitsExpression scope layout e → (next : ℕ)
        → IsSafe code (split_code layout line r e next)
    safe_split line r e has fits next =
        safe code Reads (split_code layout line r e next)
        (safe_expression e fits 0 0 _ (plain_first code Reads _ _ has (plain_first code Reads _ _ tt (plain_first code Reads _ _ tt
        (store_first code Reads _ _ _ (λ below. omega (arith, below))
        (store_first code Reads _ _ (onward next) (λ below. omega (arith, below)) (safe_onward next)))))))

    pub safe_give : (g : Give) → FitsExpression scope layout g.value → IsSafe code (give_code layout (Some g))
    safe_give g fits =
        safe code Reads _ (safe_expression g.value fits 0 0 _ (give_first code Reads _ _ (λ none. none) (end_last code Reads ends.Finish)))

    -- the call of the hidden procedure of an `each`
    pub safe_each : (r : Named) (block : Block) (hidden next : ℕ) → Has layout r.name → AllByRecursion (Has layout) (caught layout block)
        → slots_of code hidden ≡ hidden_slots (length (caught layout block)) block → IsSafe code (each_code layout r block hidden next)
    safe_each r block hidden next has all slots =
        let names = caught layout block in
        let e = ends.Call hidden next None in
        safe code Reads (each_code layout r block hidden next)
        (plain_first code Reads _ _ tt (plain_first code Reads _ _ has (plain_first code Reads _ _ tt
        (safe_loads layout names all 2 _
        (stores_first code Reads 6 0 (suc (suc (length names))) (instr.Ends e ∷ []) (λ word none. none)
        (λ word from below. built_end code e word (omega (arith, from), omega (arith, below, slots)))
        (end_last code Reads e))))))

-- the capsules of a hidden procedure in front of its block
pub safe_entry : (code : CodeParts) (entry : ℕ) → IsSafe code (entry_code entry)
safe_entry code entry =
    let R = Below 1 in
    safe code R (entry_code entry)
    (plain_first code R _ _ (omega arith) (plain_first code R _ _ tt (plain_first code R _ _ tt (plain_first code R _ _ tt (plain_first code R _ _ tt
    (end_first code R _ _ (plain_first code R _ _ tt (end_first code R _ _ (end_last code R ends.Finish)))))))))

pub safe_halving : (code : CodeParts) (entry hidden slots names line : ℕ) → slots_of code hidden ≡ slots → 2 + names ≤ slots
    → IsSafe code (halving_code entry hidden slots names line)
safe_halving code entry hidden slots names line same enough =
    let R = Below (2 + names) in
    let e = ends.Fork hidden hidden (suc (suc entry)) None None in
    let last = instr.Ends e ∷ [] in
    let none = λ (word : ℕ) (never : ⊥). never in
    let right_at = 11 + frame_words slots in
    let right = stores_code (suc (suc right_at)) 6 names last in
    let more = instr.StoreNew (suc right_at) (register 5) ∷ right in
    let second = instr.StoreNew right_at (register 3) ∷ more in
    let left = stores_code 13 6 names second in
    let in_right = λ (word : ℕ) (from : right_at ≤ word) (below : word < suc (suc right_at) + names).
    built_end code e word (inr (omega (arith, from, same), omega (arith, below, same, enough))) in
    let in_left = λ (word : ℕ) (from : 11 ≤ word) (below : word < 13 + names).
    built_new code word right_at (register 3) more (built_new code word (suc right_at) (register 5) right
    (built_stores code word (suc (suc right_at)) 6 names last
    (built_end code e word (inl (omega (arith, from), omega (arith, below, same, enough)))))) in
    let safe_right = stores_first code R (suc (suc right_at)) 6 names last none
    (λ word from below. in_right word (omega (arith, from)) below) (end_last code R e) in
    let safe_second = new_first code R right_at (register 3) more (none right_at)
    (built_new code right_at (suc right_at) (register 5) right
    (built_stores code right_at (suc (suc right_at)) 6 names last (in_right right_at (omega arith) (omega arith))))
    (new_first code R (suc right_at) (register 5) right (none (suc right_at))
    (built_stores code (suc right_at) (suc (suc right_at)) 6 names last (in_right (suc right_at) (omega arith) (omega arith))) safe_right) in
    let safe_left = stores_first code R 13 6 names second none (λ word from below. in_left word (omega (arith, from)) below) safe_second in
    let safe_first = new_first code R 11 (register 2) (instr.StoreNew 12 (register 4) ∷ left) (none 11)
    (built_new code 11 12 (register 4) left (built_stores code 11 13 6 names second (in_left 11 (omega arith) (omega arith))))
    (new_first code R 12 (register 4) left (none 12) (built_stores code 12 13 6 names second (in_left 12 (omega arith) (omega arith))) safe_left) in
    safe code R (halving_code entry hidden slots names line)
    (plain_first code R _ _ tt (plain_first code R _ _ (omega arith) (plain_first code R _ _ tt (plain_first code R _ _ tt
    (plain_first code R _ _ tt (plain_first code R _ _ tt (plain_first code R _ _ tt (plain_first code R _ _ (omega arith)
    (plain_first code R _ _ tt (safe_names code (2 + names) 2 6 names (omega arith) _ safe_first))))))))))

module _ (procedures : List Procedure) (code : CodeParts) where
  -- the procedures that a program calls have their slots
  pub record HasSlots : Type 0 where
    pub each : (x : List ℕ) → first_named (λ p. p.name.name) procedures x ≢ None
        → slots_of code (number_of procedures x) ≡ procedure_slots (procedure_named procedures x)

  paired_within : (ps : List Parameter) (arguments : List Argument) → paired ps arguments ≤ length ps
  paired_within [] arguments = omega arith
  paired_within (p ∷ ps) [] = omega arith
  paired_within (p ∷ ps) (a ∷ arguments) = let rest = paired_within ps arguments in omega (arith, rest)

  module _ (have : HasSlots) (scope : Scope) (layout : Layout) where
    pub safe_call : (s : Side) → FitsSide procedures scope layout s → (next : ℕ) → IsSafe code (call_code procedures layout s next)
    safe_call s fits next =
        let R = Below (length layout) in
        let ps = callee_parameters procedures s in
        let count = paired ps s.arguments in
        let e = ends.Call (callee_number procedures s) next (target_of layout s.target) in
        let slots = have.each s.callee.name fits.callee in
        let few = paired_within ps s.arguments in
        safe code R (call_code procedures layout s next)
        (plain_first code R _ _ tt (safe_arguments code scope layout ps s.arguments fits.arguments 0 1 _
        (stores_first code R 6 0 count (instr.Ends e ∷ []) (λ word none. none)
        (λ word from below. built_end code e word (omega (arith, from), omega (arith, below, slots, few)))
        (end_last code R e))))

    pub safe_fork : (s u : Side) → FitsSide procedures scope layout s → FitsSide procedures scope layout u → (next : ℕ)
        → IsSafe code (fork_code procedures layout s u next)
    safe_fork s u fits fits' next =
        let R = Below (length layout) in
        let l = callee_parameters procedures s in
        let r = callee_parameters procedures u in
        let lefts = paired l s.arguments in
        let rights = paired r u.arguments in
        let e = ends.Fork (callee_number procedures s) (callee_number procedures u) next (target_of layout s.target) (target_of layout u.target) in
        let slots = have.each s.callee.name fits.callee in
        let slots' = have.each u.callee.name fits'.callee in
        let few = paired_within l s.arguments in
        let few' = paired_within r u.arguments in
        let right_at = 11 + frame_words (callee_slots procedures s) in
        let last = instr.Ends e ∷ [] in
        let right = stores_code right_at lefts rights last in
        safe code R (fork_code procedures layout s u next)
        (plain_first code R _ _ tt (safe_arguments code scope layout l s.arguments fits.arguments 0 1 _
        (safe_arguments code scope layout r u.arguments fits'.arguments lefts (suc (arguments_size l s.arguments)) _
        (stores_first code R 11 0 lefts right (λ word none. none)
        (λ word from below. built_stores code word right_at lefts rights last
        (built_end code e word (inl (omega (arith, from), omega (arith, below, slots, few)))))
        (stores_first code R right_at lefts rights last (λ word none. none)
        (λ word from below. built_end code e word (inr (omega (arith, from, slots), omega (arith, below, slots, slots', few'))))
        (end_last code R e))))))
