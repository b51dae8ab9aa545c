-- The code that clears a word in two branches: its paths are filled, and all that it puts is 0.
use Rattle.std.proofs.Common.{◌≡◌, ◌∙◌, ◌⊎◌, ◌≤◌, ◌<◌, ℕ, zero, suc, ◌+◌, true, false, List, [], ◌∷◌, Option, Some, None, replicate, slice_set}
use Rattle.std.proofs.Common.{inl, inr, refl, sym, ap, subst, arith}
use Rattle.std.specs.Prelude.{slice_get}
use Rattle.ppm_strands.specs.Capsule.{Capsule}
use Rattle.ppm_strands.specs.Equalities.{numbers}
use Rattle.ppm_strands.proofs.LocationLemmas.{decide}
use Rattle.ppm_code.specs.declared.act.End.{End}
use Rattle.ppm_code.specs.declared.act.End.TheVariants.{Finish}
use Rattle.ppm_code.specs.declared.act.Step.TheVariants.{Loads, Stores}
use Rattle.ppm_code.specs.declared.class.Class.{Class}
use Rattle.ppm_code.specs.declared.class.Class.TheVariants.{Slot, New, Value, Room, Array}
use Rattle.ppm_code.specs.declared.class.May.{May}
use Rattle.ppm_code.specs.declared.class.May.TheVariants.{Work, Read, Write, Branch, Stop}
use Rattle.ppm_code.specs.declared.instr.Instr.{Instr}
use Rattle.ppm_code.specs.declared.instr.Instr.TheVariants.{LoadSlot, Put, Get, Ends}
use Rattle.ppm_code.specs.declared.location.Location.TheVariants.{Array as ArrayWord}
use Rattle.ppm_code.specs.declared.register.Register.{Register}
use Rattle.ppm_code.specs.Acts.{at_element, element_of, held}
use Rattle.ppm_code.specs.Capsules.{capsule_from, at_act}
use Rattle.ppm_code.specs.Locations.{Where}
use Rattle.ppm_code.specs.Paths.{may, Does, GoesTo, Path, Here, Then, Any, Exposes, HasNoConflict}
use Rattle.ppm_code.specs.Strands.{instrs_of}
use Rattle.ppm_code.proofs.CapsuleLemmas.{at_instr}
use Rattle.ppm_filled.specs.Racing.{Place, At, HasTrapped, EndWord, racing, racing_code, racing_system}
use Rattle.ppm_filled.specs.Filled.{may_trap, IsOfFrame, IsFind, IsStop, builder_at, Mark, Way, Word, Hangs, Finds, Takes, Stays, Parts, GoesOn}
use Rattle.ppm_filled.specs.Filled.{IsFilledOnPaths}
use Rattle.ppm_test_laws.specs.Clears.{r0, r1, r2, fork_two, clear_and_give, clearing, ClearingMeetsBoth}
use Rattle.ppm_test_laws.proofs.ConstantLemmas.{PutsOnly, constant_puts_stand}

one_some : {A : Type 0} {x y : A} → Some x ≡ Some y → x ≡ y
one_some h = cc

none_or_some : {A : Type 0} {x : A} → None ≡ Some x → ⊥
none_or_some h = cc

not_true : false ≡ true → ⊥
not_true h = cc

read_is : {c d : Class} → Read c ≡ Read d → d ≡ c
read_is h = cc

write_is : {c d : Class} → Write c ≡ Write d → d ≡ c
write_is h = cc

write_reads : {c d : Class} → Write c ≡ Read d → ⊥
write_reads h = cc

read_writes : {c d : Class} → Read c ≡ Write d → ⊥
read_writes h = cc

stop_reads : {d : Class} → Stop ≡ Read d → ⊥
stop_reads h = cc

stop_writes : {d : Class} → Stop ≡ Write d → ⊥
stop_writes h = cc

read_branches : {c : Class} {t : ℕ} → Read c ≡ Branch t → ⊥
read_branches h = cc

write_branches : {c : Class} {t : ℕ} → Write c ≡ Branch t → ⊥
write_branches h = cc

stop_branches : {t : ℕ} → Stop ≡ Branch t → ⊥
stop_branches h = cc

room_or_new : {n : ℕ} → Room ≡ New n → ⊥
room_or_new h = cc

slot_or_new : {s n : ℕ} → Slot s ≡ New n → ⊥
slot_or_new h = cc

slot_or_array : {s : ℕ} → Slot s ≡ Array → ⊥
slot_or_array h = cc

slot_or_value : {s : ℕ} → Slot s ≡ Value → ⊥
slot_or_value h = cc

array_or_value : Array ≡ Value → ⊥
array_or_value h = cc

new_or_array : {n : ℕ} → New n ≡ Array → ⊥
new_or_array h = cc

new_or_value : {n : ℕ} → New n ≡ Value → ⊥
new_or_value h = cc

-- what the instruction at a place may do, and whether it traps
told : {j i : Instr} {m : May} → Some j ≡ Some i → may i ≡ m → may j ≡ m
told e m = ap may (one_some e) ∙ m

sure : {j i : Instr} → Some j ≡ Some i → may_trap i ≡ true → may_trap j ≡ true
sure e f = ap may_trap (one_some e) ∙ f

below : (a b : ℕ) → (a ≡ b → ⊥) → a < b + 1 → a < b
below zero zero ne less = absurd (ne refl)
below zero (suc b) ne less = omega arith
below (suc a) zero ne less = absurd (omega (arith, less))
below (suc a) (suc b) ne less = let l = below a b (λ e. ne (ap suc e)) (omega (arith, less)) in omega (arith, l)

-- instructions without a branch
abbrev IsStraight : List Instr → Type 0
IsStraight is = (at t : ℕ) → Does is at (Branch t) → ⊥

module _ (is : List Instr) (straight : IsStraight is) where
  next : (m : May) (at to : ℕ) → Does is at m → GoesTo m at to → to ≡ at + 1
  next Work at to here e = e
  next (Read c) at to here e = e
  next (Write c) at to here e = e
  next (Branch t) at to here e = absurd (straight at t here)
  next Stop at to here e = absurd e

  onward : {q : May → Type 0} {from to : ℕ} → Path is q from to → from ≤ to
  onward (Here at) = omega arith
  onward (Then from at to m p here ok goes) = let less = onward p in let e = next m at to here goes in omega (arith, less, e)

  -- a path passes each place between, and no end stands there
  record Passed (q : May → Type 0) (k : ℕ) : Type 0 where
    does : May
    here : Does is k does
    ok : q does
    goes : GoesTo does k (k + 1)

  passed : {q : May → Type 0} {from to : ℕ} (k : ℕ) → Path is q from to → from ≤ k → k < to → Passed q k
  passed k (Here at) low high = absurd (omega (arith, low, high))
  passed {q = q} k (Then from at to m p here ok goes) low high =
      let e = next m at to here goes in
      elim (decide numbers k at) [
        | inl is_at ↦ subst (λ (j : ℕ). Passed q j) (sym is_at) (record { does = m; here = here; ok = ok; goes = subst (λ (j : ℕ). GoesTo m at j) e goes })
        | inr ne ↦ passed k p low (below k at ne.0 (omega (arith, high, e)))
      ]

-- a capsule that writes nothing, builds nothing and cannot trap
module _ (is : List Instr) (none_written : (at : ℕ) (c : Class) → Does is at (Write c) → ⊥) (none_built : (at : ℕ) → builder_at is at ≡ None)
    (none_traps : (at : ℕ) (i : Instr) → slice_get is at ≡ Some i → may_trap i ≡ true → ⊥) where
  idle_free : HasNoConflict is
  idle_free read write c conflict = none_written write c conflict.writes

  idle_filled : IsFilledOnPaths is
  idle_filled = record {
    none_left_out = λ find write stop c out. none_written write c out.writes;
    none_unbuilt = λ write stop word un. none_written write (New word) un.writes;
    one_block = λ stop other b. none_or_some (sym (none_built other) ∙ b.some.1);
    none_hung = λ at h. none_traps at h.instr h.there h.traps;
  }

-- where no capsule is
empty_writes : (at : ℕ) (c : Class) → Does [] at (Write c) → ⊥
empty_writes at c here = none_or_some here.1

empty_builds : (at : ℕ) → builder_at [] at ≡ None
empty_builds at = refl

empty_traps : (at : ℕ) (i : Instr) → slice_get [] at ≡ Some i → may_trap i ≡ true → ⊥
empty_traps at i e f = none_or_some e

-- the root's second capsule
end_writes : (at : ℕ) (c : Class) → Does (Ends Finish ∷ []) at (Write c) → ⊥
end_writes zero c here = stop_writes (told here.1 here.2)
end_writes (suc at) c here = none_or_some here.1

end_builds : (at : ℕ) → builder_at (Ends Finish ∷ []) at ≡ None
end_builds zero = refl
end_builds (suc at) = refl

end_traps : (at : ℕ) (i : Instr) → slice_get (Ends Finish ∷ []) at ≡ Some i → may_trap i ≡ true → ⊥
end_traps zero i e f = not_true (sure e f)
end_traps (suc at) i e f = none_or_some e

-- the root's first capsule
fork_straight : IsStraight fork_two
fork_straight zero t here = read_branches (told here.1 here.2)
fork_straight (suc zero) t here = read_branches (told here.1 here.2)
fork_straight (suc (suc zero)) t here = write_branches (told here.1 here.2)
fork_straight (suc (suc (suc zero))) t here = write_branches (told here.1 here.2)
fork_straight (suc (suc (suc (suc zero)))) t here = stop_branches (told here.1 here.2)
fork_straight (suc (suc (suc (suc (suc at))))) t here = none_or_some here.1

fork_reads : (at : ℕ) (c : Class) → Does fork_two at (Read c) → (c ≡ Room) ⊎ (c ≡ Slot 0)
fork_reads zero c here = inl (read_is (told here.1 here.2))
fork_reads (suc zero) c here = inr (read_is (told here.1 here.2))
fork_reads (suc (suc zero)) c here = absurd (write_reads (told here.1 here.2))
fork_reads (suc (suc (suc zero))) c here = absurd (write_reads (told here.1 here.2))
fork_reads (suc (suc (suc (suc zero)))) c here = absurd (stop_reads (told here.1 here.2))
fork_reads (suc (suc (suc (suc (suc at))))) c here = absurd (none_or_some here.1)

fork_writes : (at : ℕ) (c : Class) → Does fork_two at (Write c) → (c ≡ New 11) ⊎ (c ≡ New 18)
fork_writes zero c here = absurd (read_writes (told here.1 here.2))
fork_writes (suc zero) c here = absurd (read_writes (told here.1 here.2))
fork_writes (suc (suc zero)) c here = inl (write_is (told here.1 here.2))
fork_writes (suc (suc (suc zero))) c here = inr (write_is (told here.1 here.2))
fork_writes (suc (suc (suc (suc zero)))) c here = absurd (stop_writes (told here.1 here.2))
fork_writes (suc (suc (suc (suc (suc at))))) c here = absurd (none_or_some here.1)

fork_traps : (at : ℕ) (i : Instr) → slice_get fork_two at ≡ Some i → may_trap i ≡ true → ⊥
fork_traps zero i e f = not_true (sure e f)
fork_traps (suc zero) i e f = not_true (sure e f)
fork_traps (suc (suc zero)) i e f = not_true (sure e f)
fork_traps (suc (suc (suc zero))) i e f = not_true (sure e f)
fork_traps (suc (suc (suc (suc zero)))) i e f = not_true (sure e f)
fork_traps (suc (suc (suc (suc (suc at))))) i e f = none_or_some e

fork_stops : (at : ℕ) → IsStop fork_two at → 4 ≤ at
fork_stops zero h = absurd (not_true h)
fork_stops (suc zero) h = absurd (not_true h)
fork_stops (suc (suc zero)) h = absurd (not_true h)
fork_stops (suc (suc (suc zero))) h = absurd (not_true h)
fork_stops (suc (suc (suc (suc at)))) h = omega arith

fork_builds : (at : ℕ) (b : EndWord) → builder_at fork_two at ≡ Some b → at ≡ 4
fork_builds zero b e = absurd (none_or_some e)
fork_builds (suc zero) b e = absurd (none_or_some e)
fork_builds (suc (suc zero)) b e = absurd (none_or_some e)
fork_builds (suc (suc (suc zero))) b e = absurd (none_or_some e)
fork_builds (suc (suc (suc (suc zero)))) b e = refl
fork_builds (suc (suc (suc (suc (suc at))))) b e = absurd (none_or_some e)

fork_free : HasNoConflict fork_two
fork_free read write c conflict = elim (fork_reads read c conflict.exposed.reads) [
  | inl r ↦ elim (fork_writes write c conflict.writes) [ inl w ↦ room_or_new (sym r ∙ w) | inr w ↦ room_or_new (sym r ∙ w) ]
  | inr r ↦ elim (fork_writes write c conflict.writes) [ inl w ↦ slot_or_new (sym r ∙ w) | inr w ↦ slot_or_new (sym r ∙ w) ]
]

-- both slots are stored on the one path, at whose end a fork stands
fork_stores : (word : ℕ) → (New word ≡ New 11) ⊎ (New word ≡ New 18) → (stop : ℕ) → Path fork_two (Exposes (New word)) 0 stop → IsStop fork_two stop → ⊥
fork_stores word (inl e) stop p stops =
    let far = fork_stops stop stops in
    let at = passed fork_two fork_straight 2 p (omega arith) (omega (arith, far)) in
    at.ok (sym (told at.here.1 at.here.2) ∙ ap Write (sym e))
fork_stores word (inr e) stop p stops =
    let far = fork_stops stop stops in
    let at = passed fork_two fork_straight 3 p (omega arith) (omega (arith, far)) in
    at.ok (sym (told at.here.1 at.here.2) ∙ ap Write (sym e))

fork_ends : (stop : ℕ) → Path fork_two Any 0 stop → IsStop fork_two stop → stop ≡ 4
fork_ends stop p stops = elim (decide numbers stop 4) [
  | inl e ↦ e
  | inr ne ↦
      let far = fork_stops stop stops in
      let at = passed fork_two fork_straight 4 p (omega arith) (below 4 stop (λ e. ne.0 (sym e)) (omega (arith, far))) in
      absurd (subst (λ (m : May). GoesTo m 4 5) (sym (told at.here.1 at.here.2)) at.goes)
]

new_is_not : {c : Class} {n : ℕ} → c ≡ New n → IsOfFrame c → ⊥
new_is_not e h = subst IsOfFrame e h

fork_filled : IsFilledOnPaths fork_two
fork_filled = record {
  none_left_out = λ find write stop c out. elim (fork_writes write c out.writes) [
    | inl w ↦ new_is_not w out.of_frame
    | inr w ↦ new_is_not w out.of_frame
  ];
  none_unbuilt = λ write stop word un. fork_stores word (fork_writes write (New word) un.writes) stop un.to_stop un.stops;
  one_block = λ stop other b. b.another (ap (builder_at fork_two) (fork_ends stop b.to_stop b.stops ∙ sym (fork_builds other b.some.0 b.some.1)));
  none_hung = λ at h. fork_traps at h.instr h.there h.traps;
}

-- the capsule of a branch
clear_straight : IsStraight clear_and_give
clear_straight zero t here = read_branches (told here.1 here.2)
clear_straight (suc zero) t here = write_branches (told here.1 here.2)
clear_straight (suc (suc zero)) t here = read_branches (told here.1 here.2)
clear_straight (suc (suc (suc zero))) t here = write_branches (told here.1 here.2)
clear_straight (suc (suc (suc (suc zero)))) t here = stop_branches (told here.1 here.2)
clear_straight (suc (suc (suc (suc (suc at))))) t here = none_or_some here.1

clear_reads : (at : ℕ) (c : Class) → Does clear_and_give at (Read c) → ((at ≡ 0) × (c ≡ Slot 0)) ⊎ ((at ≡ 2) × (c ≡ Array))
clear_reads zero c here = inl (refl, read_is (told here.1 here.2))
clear_reads (suc zero) c here = absurd (write_reads (told here.1 here.2))
clear_reads (suc (suc zero)) c here = inr (refl, read_is (told here.1 here.2))
clear_reads (suc (suc (suc zero))) c here = absurd (write_reads (told here.1 here.2))
clear_reads (suc (suc (suc (suc zero)))) c here = absurd (stop_reads (told here.1 here.2))
clear_reads (suc (suc (suc (suc (suc at))))) c here = absurd (none_or_some here.1)

clear_writes : (at : ℕ) (c : Class) → Does clear_and_give at (Write c) → ((at ≡ 1) × (c ≡ Array)) ⊎ ((at ≡ 3) × (c ≡ Value))
clear_writes zero c here = absurd (read_writes (told here.1 here.2))
clear_writes (suc zero) c here = inl (refl, write_is (told here.1 here.2))
clear_writes (suc (suc zero)) c here = absurd (read_writes (told here.1 here.2))
clear_writes (suc (suc (suc zero))) c here = inr (refl, write_is (told here.1 here.2))
clear_writes (suc (suc (suc (suc zero)))) c here = absurd (stop_writes (told here.1 here.2))
clear_writes (suc (suc (suc (suc (suc at))))) c here = absurd (none_or_some here.1)

clear_stops : (at : ℕ) → IsStop clear_and_give at → 4 ≤ at
clear_stops zero h = absurd (not_true h)
clear_stops (suc zero) h = absurd (not_true h)
clear_stops (suc (suc zero)) h = absurd (not_true h)
clear_stops (suc (suc (suc zero))) h = absurd (not_true h)
clear_stops (suc (suc (suc (suc at)))) h = omega arith

clear_builds : (at : ℕ) → builder_at clear_and_give at ≡ None
clear_builds zero = refl
clear_builds (suc zero) = refl
clear_builds (suc (suc zero)) = refl
clear_builds (suc (suc (suc zero))) = refl
clear_builds (suc (suc (suc (suc zero)))) = refl
clear_builds (suc (suc (suc (suc (suc at))))) = refl

-- after its read it cannot trap
clear_traps : (at : ℕ) (i : Instr) → slice_get clear_and_give at ≡ Some i → 3 ≤ at → may_trap i ≡ true → ⊥
clear_traps zero i e late f = absurd (omega (arith, late))
clear_traps (suc zero) i e late f = absurd (omega (arith, late))
clear_traps (suc (suc zero)) i e late f = absurd (omega (arith, late))
clear_traps (suc (suc (suc zero))) i e late f = not_true (sure e f)
clear_traps (suc (suc (suc (suc zero)))) i e late f = not_true (sure e f)
clear_traps (suc (suc (suc (suc (suc at))))) i e late f = none_or_some e

clear_free : HasNoConflict clear_and_give
clear_free read write c conflict = elim (clear_reads read c conflict.exposed.reads) [
  | inl r ↦ elim (clear_writes write c conflict.writes) [ inl w ↦ slot_or_array (sym r.1 ∙ w.1) | inr w ↦ slot_or_value (sym r.1 ∙ w.1) ]
  | inr r ↦ elim (clear_writes write c conflict.writes) [
    | inl w ↦
        let less = onward clear_and_give clear_straight conflict.between in
        let on = conflict.goes_on in
        absurd (omega (arith, less, on, r.0, w.0))
    | inr w ↦ array_or_value (sym r.1 ∙ w.1)
  ]
]

-- its one find is the read of the array word
clear_finds : (at : ℕ) → IsFind clear_and_give at → at ≡ 2
clear_finds at (inl h) = elim (clear_reads at Array h.1) [ inl r ↦ absurd (slot_or_array (sym r.1)) | inr r ↦ r.0 ]
clear_finds at (inr r) = elim (clear_writes r.store (Slot r.slot) r.stores) [ inl w ↦ absurd (slot_or_array w.1) | inr w ↦ absurd (slot_or_value w.1) ]

clear_hangs : (at : ℕ) (m : Mark) → Hangs clear_and_give at m → 3 ≤ at
clear_hangs at m (Finds k i d find e t) = let second = clear_finds k find in omega (arith, second)
clear_hangs at m (Takes k i a d h e j t) = let late = clear_hangs k (Word a.index) h in omega (arith, late)
clear_hangs at m (Stays k to i r h e other goes) =
    let late = clear_hangs k (Word r) h in
    let one = next clear_and_give clear_straight (may i) k to (i, e, refl) goes in
    omega (arith, late, one)
clear_hangs at m (Parts k to i a t h e j b goes) =
    let late = clear_hangs k (Word a.index) h in
    let one = next clear_and_give clear_straight (may i) k to (i, e, refl) goes in
    omega (arith, late, one)
clear_hangs at m (GoesOn k to i h e goes) =
    let late = clear_hangs k Way h in
    let one = next clear_and_give clear_straight (may i) k to (i, e, refl) goes in
    omega (arith, late, one)

clear_left : (find stop : ℕ) (c : Class) → find ≡ 2 → c ≡ Value → Path clear_and_give (Exposes c) (find + 1) stop → IsStop clear_and_give stop → ⊥
clear_left find stop c second value p stops =
    let far = clear_stops stop stops in
    let at = passed clear_and_give clear_straight 3 (subst (λ (k : Class). Path clear_and_give (Exposes k) (find + 1) stop) value p)
    (omega (arith, second)) (omega (arith, far)) in
    at.ok (sym (told at.here.1 at.here.2))

clear_filled : IsFilledOnPaths clear_and_give
clear_filled = record {
  none_left_out = λ find write stop c out. elim (clear_writes write c out.writes) [
    | inl w ↦ subst IsOfFrame w.1 out.of_frame
    | inr w ↦ clear_left find stop c (clear_finds find out.finds) w.1 out.to_stop out.stops
  ];
  none_unbuilt = λ write stop word un. elim (clear_writes write (New word) un.writes) [ inl w ↦ new_or_array w.1 | inr w ↦ new_or_value w.1 ];
  one_block = λ stop other b. none_or_some (sym (clear_builds other) ∙ b.some.1);
  none_hung = λ at h.
      let late : 3 ≤ at = elim h.hangs [ inl way ↦ clear_hangs at Way way | inr word ↦ clear_hangs at (Word word.0.index) word.2 ] in
      clear_traps at h.instr h.there late h.traps;
}

-- all capsules
free_at : (number : ℕ) → HasNoConflict (instrs_of clearing number)
free_at zero = fork_free
free_at (suc zero) = idle_free (Ends Finish ∷ []) end_writes end_builds end_traps
free_at (suc (suc zero)) = clear_free
free_at (suc (suc (suc number))) = idle_free [] empty_writes empty_builds empty_traps

filled_at : (number : ℕ) → IsFilledOnPaths (instrs_of clearing number)
filled_at zero = fork_filled
filled_at (suc zero) = idle_filled (Ends Finish ∷ []) end_writes end_builds end_traps
filled_at (suc (suc zero)) = clear_filled
filled_at (suc (suc (suc number))) = idle_filled [] empty_writes empty_builds empty_traps

-- what is left of a branch at a place puts 0, wherever it does
module _ (words : ℕ) where
  abbrev PutsZero : ℕ → List ℕ → Type 0
  PutsZero at g = PutsOnly 0 (racing [] (capsule_from words 0 at clear_and_give g))

  abbrev go : ℕ → List ℕ → Capsule Where End
  go at g = capsule_from words 0 at clear_and_give g

  put_zero : (at : ℕ) (g : List ℕ) (w : ℕ) → w ≡ 0 → (o : Option ℕ) → PutsZero at g
      → PutsOnly 0 (racing [] (at_act go at (at_element 1 o (λ x. Stores (ArrayWord x) w)) g))
  put_zero at g w is None rest = tt
  put_zero at g w is (Some x) rest = (λ u. is, rest)

  get_any : (at : ℕ) (g : List ℕ) (d : Register) (o : Option ℕ) → ((v : ℕ) → PutsZero at (slice_set g d.index v))
      → PutsOnly 0 (racing [] (at_act go at (at_element 1 o (λ x. Loads (ArrayWord x) d)) g))
  get_any at g d None rest = tt
  get_any at g d (Some x) rest = rest

  at_give : (g : List ℕ) → PutsZero 3 g
  at_give g = tt

  at_get : (g : List ℕ) → PutsZero 2 g
  at_get g = subst (λ (c : Capsule Where End). PutsOnly 0 (racing [] c)) (sym (at_instr words 2 clear_and_give g (Get r2 r0 r1 1) refl))
      (get_any 3 g r2 (element_of words (held g r0) (held g r1)) (λ v. at_give (slice_set g r2.index v)))

  at_put : (g : List ℕ) → held g r1 ≡ 0 → PutsZero 1 g
  at_put g is = subst (λ (c : Capsule Where End). PutsOnly 0 (racing [] c)) (sym (at_instr words 1 clear_and_give g (Put r0 r1 r1 1) refl))
      (put_zero 2 g (held g r1) is (element_of words (held g r0) (held g r1)) (at_get g))

  at_load : PutsZero 0 (replicate 64 0)
  at_load = subst (λ (c : Capsule Where End). PutsOnly 0 (racing [] c)) (sym (at_instr words 0 clear_and_give (replicate 64 0) (LoadSlot r0 0) refl))
      (λ region. at_put (slice_set (replicate 64 0) r0.index region) refl)

puts_zero : (array_words number : ℕ) (left_to to : Option ℕ)
    → PutsOnly 0 ((racing_code clearing array_words).capsule (At (record { capsule = number; left_to = left_to; to = to })))
puts_zero words zero left_to to = λ region. tt
puts_zero words (suc zero) left_to to = tt
puts_zero words (suc (suc zero)) left_to to = at_load words
puts_zero words (suc (suc (suc number))) left_to to = tt

each_puts_zero : (array_words : ℕ) (place : Place) → PutsOnly 0 ((racing_code clearing array_words).capsule place)
each_puts_zero words (At point) = puts_zero words point.capsule point.left_to point.to
each_puts_zero words (HasTrapped result) = tt

pub meets_both : ClearingMeetsBoth
meets_both = record {
  filled = record { free = free_at; filled = filled_at };
  stands = λ words root arrays. constant_puts_stand (racing_system clearing words root arrays) 0 (each_puts_zero words);
}
