-- Restarts come back from their words.
use Rattle.std.proofs.Common.{◌≡◌, ℕ, ◌^◌, ◌<◌, eqb, [], ◌∷◌, Option, Some, None, IfSome, refl, ap, ◌∙◌, lit<}
use Rattle.std.specs.Option.{option_map}
use Rattle.ppm_cells.specs.Fields.{Bits, number_of, Fit, bits}
use Rattle.ppm_cells.specs.Exact.{IsExact}
use Rattle.ppm_cells.specs.Sides.{side_number, side_with}
use Rattle.ppm_cells.specs.Restart.{kind_number, address_fields, restart_word, IsRestart, kind_with, with_bottom, restart_read, restart_of}
use Rattle.ppm_cells.specs.declared.side.Side.{Side}
use Rattle.ppm_cells.specs.declared.side.Side.TheVariants.{Left, Right}
use Rattle.ppm_cells.specs.declared.restart.Restart.{Restart}
use Rattle.ppm_cells.specs.declared.restart.RestartKind.{RestartKind}
use Rattle.ppm_cells.specs.declared.restart.RestartKind.TheVariants.{Run, Bump, Push1, Push2, Unwind, Arrive, Join, Pop1, Pop2, Seek, Steal, Check, Take, Take2}
use Rattle.ppm_cells.proofs.FieldsLemmas.{bits-number_of, bits-bound, number_of-bound}
use Rattle.ppm_cells.proofs.ExactLemmas.{exact, either}

-- a branch's number is below 2, and gives the branch
side_number-bound : (side : Side) → side_number side < 2
side_number-bound Left = lit< tt
side_number-bound Right = lit< tt

side_with-side_number : (side : Side) → side_with (side_number side) ≡ side
side_with-side_number Left = refl
side_with-side_number Right = refl

-- the kind's own address is read as the kind
kind_again : (kind : RestartKind) → Fit (address_fields kind) → kind_with (kind_number kind) (number_of (address_fields kind)) ≡ Some kind
kind_again (Run frame copy) fit =
    let low = bits-number_of [] 28 frame (Bits 1 copy ∷ Bits 3 0 ∷ []) tt fit.0 in
    let high = bits-number_of (Bits 28 frame ∷ []) 1 copy (Bits 3 0 ∷ []) (fit.0, tt) fit.1.0 in
    λ i. Some (Run (low i) (high i))
kind_again (Bump block) fit = ap (λ n. Some (Bump n)) (bits-number_of [] 28 block (Bits 4 0 ∷ []) tt fit.0)
kind_again (Push1 block) fit = ap (λ n. Some (Push1 n)) (bits-number_of [] 28 block (Bits 4 0 ∷ []) tt fit.0)
kind_again (Push2 block) fit = ap (λ n. Some (Push2 n)) (bits-number_of [] 28 block (Bits 4 0 ∷ []) tt fit.0)
kind_again (Unwind frame) fit = ap (λ n. Some (Unwind n)) (bits-number_of [] 28 frame (Bits 4 0 ∷ []) tt fit.0)
kind_again (Arrive block side) fit =
    let low = bits-number_of [] 28 block (Bits 1 (side_number side) ∷ Bits 3 0 ∷ []) tt fit.0 in
    let high = bits-number_of (Bits 28 block ∷ []) 1 (side_number side) (Bits 3 0 ∷ []) (fit.0, tt) fit.1.0 in
    let which = ap side_with high ∙ side_with-side_number side in
    λ i. Some (Arrive (low i) (which i))
kind_again (Join block side) fit =
    let low = bits-number_of [] 28 block (Bits 1 (side_number side) ∷ Bits 3 0 ∷ []) tt fit.0 in
    let high = bits-number_of (Bits 28 block ∷ []) 1 (side_number side) (Bits 3 0 ∷ []) (fit.0, tt) fit.1.0 in
    let which = ap side_with high ∙ side_with-side_number side in
    λ i. Some (Join (low i) (which i))
kind_again Pop1 fit = refl
kind_again (Pop2 block) fit = ap (λ n. Some (Pop2 n)) (bits-number_of [] 28 block (Bits 4 0 ∷ []) tt fit.0)
kind_again Seek fit = refl
kind_again (Steal victim slot) fit =
    let low = bits-number_of [] 16 slot (Bits 6 victim ∷ Bits 10 0 ∷ []) tt fit.0 in
    let high = bits-number_of (Bits 16 slot ∷ []) 6 victim (Bits 10 0 ∷ []) (fit.0, tt) fit.1.0 in
    λ i. Some (Steal (high i) (low i))
kind_again (Check victim slot) fit =
    let low = bits-number_of [] 16 slot (Bits 6 victim ∷ Bits 10 0 ∷ []) tt fit.0 in
    let high = bits-number_of (Bits 16 slot ∷ []) 6 victim (Bits 10 0 ∷ []) (fit.0, tt) fit.1.0 in
    λ i. Some (Check (high i) (low i))
kind_again (Take victim dead) fit =
    let low = bits-number_of [] 6 dead (Bits 6 victim ∷ Bits 20 0 ∷ []) tt fit.0 in
    let high = bits-number_of (Bits 6 dead ∷ []) 6 victim (Bits 20 0 ∷ []) (fit.0, tt) fit.1.0 in
    λ i. Some (Take (high i) (low i))
kind_again (Take2 victim) fit = ap (λ n. Some (Take2 n)) (bits-number_of [] 6 victim (Bits 26 0 ∷ []) tt fit.0)

-- a kind's number fits five bits
kind_number-bound : (kind : RestartKind) → kind_number kind < 2 ^ 5
kind_number-bound (Run frame copy) = lit< tt
kind_number-bound (Bump block) = lit< tt
kind_number-bound (Push1 block) = lit< tt
kind_number-bound (Push2 block) = lit< tt
kind_number-bound (Unwind frame) = lit< tt
kind_number-bound (Arrive block side) = lit< tt
kind_number-bound (Join block side) = lit< tt
kind_number-bound Pop1 = lit< tt
kind_number-bound (Pop2 block) = lit< tt
kind_number-bound Seek = lit< tt
kind_number-bound (Steal victim slot) = lit< tt
kind_number-bound (Check victim slot) = lit< tt
kind_number-bound (Take victim dead) = lit< tt
kind_number-bound (Take2 victim) = lit< tt

-- an address has 32 bits
address_bound : (kind : RestartKind) → Fit (address_fields kind) → number_of (address_fields kind) < 2 ^ 32
address_bound (Run frame copy) fit = number_of-bound (address_fields (Run frame copy)) fit
address_bound (Bump block) fit = number_of-bound (address_fields (Bump block)) fit
address_bound (Push1 block) fit = number_of-bound (address_fields (Push1 block)) fit
address_bound (Push2 block) fit = number_of-bound (address_fields (Push2 block)) fit
address_bound (Unwind frame) fit = number_of-bound (address_fields (Unwind frame)) fit
address_bound (Arrive block side) fit = number_of-bound (address_fields (Arrive block side)) fit
address_bound (Join block side) fit = number_of-bound (address_fields (Join block side)) fit
address_bound Pop1 fit = number_of-bound (address_fields Pop1) fit
address_bound (Pop2 block) fit = number_of-bound (address_fields (Pop2 block)) fit
address_bound Seek fit = number_of-bound (address_fields Seek) fit
address_bound (Steal victim slot) fit = number_of-bound (address_fields (Steal victim slot)) fit
address_bound (Check victim slot) fit = number_of-bound (address_fields (Check victim slot)) fit
address_bound (Take victim dead) fit = number_of-bound (address_fields (Take victim dead)) fit
address_bound (Take2 victim) fit = number_of-bound (address_fields (Take2 victim)) fit

-- what is read fits its fields
kind_fits : (number address : ℕ) → IfSome (kind_with number address) (λ kind. Fit (address_fields kind))
kind_fits number address =
    let P : RestartKind → Type 0 = λ kind. Fit (address_fields kind) in
    let block = bits-bound 0 28 address in
    let one = side_number-bound (side_with (bits 28 1 address)) in
    either P (eqb number 1) _ _ (block, (bits-bound 28 1 address, (lit< tt, tt)))
    (either P (eqb number 2) _ _ (block, (lit< tt, tt))
    (either P (eqb number 3) _ _ (block, (lit< tt, tt))
    (either P (eqb number 4) _ _ (block, (lit< tt, tt))
    (either P (eqb number 5) _ _ (block, (lit< tt, tt))
    (either P (eqb number 6) _ _ (block, (one, (lit< tt, tt)))
    (either P (eqb number 7) _ _ (block, (one, (lit< tt, tt)))
    (either P (eqb number 8) _ _ (lit< tt, tt)
    (either P (eqb number 9) _ _ (block, (lit< tt, tt))
    (either P (eqb number 10) _ _ (lit< tt, tt)
    (either P (eqb number 11) _ _ (bits-bound 0 16 address, (bits-bound 16 6 address, (lit< tt, tt)))
    (either P (eqb number 12) _ _ (bits-bound 0 16 address, (bits-bound 16 6 address, (lit< tt, tt)))
    (either P (eqb number 13) _ _ (bits-bound 0 6 address, (bits-bound 6 6 address, (lit< tt, tt)))
    (either P (eqb number 14) _ _ (bits-bound 0 6 address, (lit< tt, tt)) tt)))))))))))))

-- a restart's own word is read as that restart
again : (restart : Restart) → IsRestart restart → restart_read (restart_word restart) ≡ Some restart
again restart fit =
    let w : ℕ = restart_word restart in
    let a : ℕ = number_of (address_fields restart.kind) in
    let small = address_bound restart.kind fit.0 in
    let low : bits 0 32 w ≡ a = bits-number_of [] 32 a (Bits 27 restart.bottom ∷ Bits 5 (kind_number restart.kind) ∷ []) tt small in
    let middle : bits 32 27 w ≡ restart.bottom
    = bits-number_of (Bits 32 a ∷ []) 27 restart.bottom (Bits 5 (kind_number restart.kind) ∷ []) (small, tt) fit.1 in
    let high : bits 59 5 w ≡ kind_number restart.kind
    = bits-number_of (Bits 32 a ∷ Bits 27 restart.bottom ∷ []) 5 (kind_number restart.kind) [] (small, (fit.1, tt)) (kind_number-bound restart.kind) in
    (λ i. option_map (with_bottom (middle i)) (kind_with (high i) (low i)))
    ∙ ap (option_map (with_bottom restart.bottom)) (kind_again restart.kind fit.0)

-- with the bottom
bottom_fits : (word : ℕ) (kind : Option RestartKind) → IfSome kind (λ k. Fit (address_fields k))
    → IfSome (option_map (with_bottom (bits 32 27 word)) kind) IsRestart
bottom_fits word None h = tt
bottom_fits word (Some kind) h = (h, bits-bound 32 27 word)

fits : (word : ℕ) → IfSome (restart_read word) IsRestart
fits word = bottom_fits word (kind_with (bits 59 5 word) (bits 0 32 word)) (kind_fits (bits 59 5 word) (bits 0 32 word))

pub restarts_exact : IsExact restart_word IsRestart restart_of
restarts_exact word restart = exact restart_word restart_read IsRestart fits again word restart
