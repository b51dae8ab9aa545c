-- Lists of processors.
use Rattle.std.proofs.Common.{◌≡◌, ℕ, zero, suc, ◌+◌, List, [], ◌∷◌, ◌++◌, length, take, sym, refl, ap, ◌∙◌, subst, inl, inr, arith}
use mathlib.Core.Option.{some, some-injective, some-ne-none}
use lib.ListN.{get_elem?}
use Rattle.atomic_table.specs.Seated.{TableId}
use Rattle.ppm_step.specs.declared.turn.Turn.{Turn}
use Rattle.ppm_table.specs.declared.view.Opening.{Opening}
use Rattle.ppm_table.specs.declared.view.Record.{Record}
use Rattle.ppm_table.specs.declared.view.View.{View}
use Rattle.ppm_table.specs.declared.processor.Processor.{Processor}
use Rattle.ppm_table.specs.declared.processor.Shared.{Shared}
use Rattle.ppm_table.specs.Run.{Mine, records_in, record_with, Fits, FitsOne}
use Rattle.ppm_table.specs.Shown.{InOrder, AllNew, AllOf, AllHeld, AllIn, Has, IsOf, deeds_of_processor}

pub all_of_append : (t : TableId) (ps qs : List Processor) → AllOf t (ps ++ qs) → AllOf t ps × AllOf t qs
all_of_append t [] qs h = (tt, h)
all_of_append t (p ∷ ps) qs h = let r = all_of_append t ps qs h.1 in ((h.0, r.0), r.1)

pub in_order_all : (s : Shared) (c : ℕ) (ps : List Processor) → InOrder s c ps → AllOf s.words.shared.table_id ps
in_order_all s c [] h = tt
in_order_all s c (p ∷ ps) h = (h.1.table, in_order_all s (suc c) ps h.2)

pub in_order_more : (s : Shared) (c : ℕ) (ps : List Processor) (p : Processor) → InOrder s c ps → p.local.own ≡ c + length ps → IsOf s p → InOrder s c (ps ++ p ∷ [])
in_order_more s c [] p h n t = (omega (arith, n), t, tt)
in_order_more s c (q ∷ ps) p h n t = (h.0, h.1, in_order_more s (suc c) ps p h.2 (omega (arith, n)) t)

pub new_more : (ps : List Processor) (p : Processor) → AllNew ps → deeds_of_processor p ≡ [] → AllNew (ps ++ p ∷ [])
new_more [] p h n = (n, tt)
new_more (q ∷ ps) p h n = (h.0, new_more ps p h.1 n)

pub has_left : {A : Type 0} (x : A) (xs ys : List A) → Has x xs → Has x (xs ++ ys)
has_left x [] ys h = absurd h
has_left x (y ∷ xs) ys h = elim h [ inl p ↦ inl p | inr p ↦ inr (has_left x xs ys p) ]

pub has_right : {A : Type 0} (x : A) (xs ys : List A) → Has x ys → Has x (xs ++ ys)
has_right x [] ys h = h
has_right x (y ∷ xs) ys h = inr (has_right x xs ys h)

pub held_append : (ps qs : List Processor) (v : View) → AllHeld ps v → AllHeld qs v → AllHeld (ps ++ qs) v
held_append [] qs v h k = k
held_append (p ∷ ps) qs v h k = (h.0, held_append ps qs v h.1 k)

abbrev pub own : Processor → Record
own p = record_with p.local.own (deeds_of_processor p)

pub own_held : (p : Processor) → Has (own p) (records_in p.seat.me.0)
own_held p = subst (λ (v : View). Has (own p) (records_in v)) (sym (ap (λ (z : Mine). z.0) p.mine)) (inl refl)

pub fits_has : (k : Opening) (turns : List Turn) (rs : List Record) (r : Record) → Fits k turns rs → Has r rs → FitsOne k turns r
fits_has k turns [] r f h = absurd h
fits_has k turns (q ∷ rs) r f h = elim h [ inl p ↦ subst (FitsOne k turns) (sym p) f.0 | inr p ↦ fits_has k turns rs r f.1 p ]

pub held_in : (k : Opening) (turns : List Turn) (ps : List Processor) (v : View) → Fits k turns (records_in v) → AllHeld ps v → AllIn k turns ps
held_in k turns [] v f h = tt
held_in k turns (p ∷ ps) v f h = ((fits_has k turns (records_in v) (own p) f h.0).deeds, held_in k turns ps v f h.1)
