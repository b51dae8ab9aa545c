-- Links come back from their words.
use Rattle.std.proofs.Common.{◌≡◌, ℕ, ◌^◌, ◌<◌, eqb, [], ◌∷◌, Option, Some, None, IfSome, refl, ap, ◌∙◌, lit<}
use Rattle.std.specs.Option.{option_map}
use Rattle.ppm_cells.specs.Fields.{Bits, number_of, Fit, bits}
use Rattle.ppm_cells.specs.Exact.{IsExact}
use Rattle.ppm_cells.specs.Link.{link_number, link_address, link_word, IsLink, link_with, with_size, link_read, link_of}
use Rattle.ppm_cells.specs.declared.link.Link.{Link}
use Rattle.ppm_cells.specs.declared.link.LinkKind.{LinkKind}
use Rattle.ppm_cells.specs.declared.link.LinkKind.TheVariants.{Root, Call, Branch, Fork}
use Rattle.ppm_cells.specs.declared.side.Side.TheVariants.{Left, Right}
use Rattle.ppm_cells.proofs.FieldsLemmas.{bits-number_of, bits-bound, number_of-bound}
use Rattle.ppm_cells.proofs.ExactLemmas.{exact, either}

-- the kind's own address is read as the kind
kind_again : (kind : LinkKind) → Fit (link_address kind) → link_with (link_number kind) (number_of (link_address kind)) ≡ Some kind
kind_again Root fit = refl
kind_again (Call frame copy) fit =
    let low = bits-number_of [] 28 frame (Bits 1 copy ∷ []) tt fit.0 in
    let high = bits-number_of (Bits 28 frame ∷ []) 1 copy [] (fit.0, tt) fit.1.0 in
    λ i. Some (Call (low i) (high i))
kind_again (Fork frame copy) fit =
    let low = bits-number_of [] 28 frame (Bits 1 copy ∷ []) tt fit.0 in
    let high = bits-number_of (Bits 28 frame ∷ []) 1 copy [] (fit.0, tt) fit.1.0 in
    λ i. Some (Fork (low i) (high i))
kind_again (Branch Left block) fit = ap (λ n. Some (Branch Left n)) (bits-number_of [] 28 block (Bits 1 0 ∷ []) tt fit.0)
kind_again (Branch Right block) fit = ap (λ n. Some (Branch Right n)) (bits-number_of [] 28 block (Bits 1 0 ∷ []) tt fit.0)

-- a kind's number fits three bits
link_number-bound : (kind : LinkKind) → link_number kind < 2 ^ 3
link_number-bound Root = lit< tt
link_number-bound (Call frame copy) = lit< tt
link_number-bound (Branch Left block) = lit< tt
link_number-bound (Branch Right block) = lit< tt
link_number-bound (Fork frame copy) = lit< tt

-- an address with its copy has 29 bits
address_bound : (kind : LinkKind) → Fit (link_address kind) → number_of (link_address kind) < 2 ^ 29
address_bound Root fit = number_of-bound (link_address Root) fit
address_bound (Call frame copy) fit = number_of-bound (link_address (Call frame copy)) fit
address_bound (Branch side block) fit = number_of-bound (link_address (Branch side block)) fit
address_bound (Fork frame copy) fit = number_of-bound (link_address (Fork frame copy)) fit

-- what is read fits its fields
kind_fits : (number address : ℕ) → IfSome (link_with number address) (λ kind. Fit (link_address kind))
kind_fits number address =
    let P : LinkKind → Type 0 = λ kind. Fit (link_address kind) in
    let block = bits-bound 0 28 address in
    let copied = bits-bound 28 1 address in
    either P (eqb number 1) _ _ (lit< tt, (lit< tt, tt))
    (either P (eqb number 2) _ _ (block, (copied, tt))
    (either P (eqb number 3) _ _ (block, (lit< tt, tt))
    (either P (eqb number 4) _ _ (block, (lit< tt, tt))
    (either P (eqb number 5) _ _ (block, (copied, tt)) tt))))

-- a link's own word is read as that link
again : (link : Link) → IsLink link → link_read (link_word link) ≡ Some link
again link fit =
    let w : ℕ = link_word link in
    let a : ℕ = number_of (link_address link.kind) in
    let n : ℕ = link_number link.kind in
    let small = address_bound link.kind fit.0 in
    let low : bits 0 29 w ≡ a = bits-number_of [] 29 a (Bits 28 link.size ∷ Bits 3 n ∷ Bits 4 0 ∷ []) tt small in
    let middle : bits 29 28 w ≡ link.size = bits-number_of (Bits 29 a ∷ []) 28 link.size (Bits 3 n ∷ Bits 4 0 ∷ []) (small, tt) fit.1 in
    let high : bits 57 3 w ≡ n
    = bits-number_of (Bits 29 a ∷ Bits 28 link.size ∷ []) 3 n (Bits 4 0 ∷ []) (small, (fit.1, tt)) (link_number-bound link.kind) in
    (λ i. option_map (with_size (middle i)) (link_with (high i) (low i)))
    ∙ ap (option_map (with_size link.size)) (kind_again link.kind fit.0)

-- with the size
size_fits : (word : ℕ) (kind : Option LinkKind) → IfSome kind (λ k. Fit (link_address k))
    → IfSome (option_map (with_size (bits 29 28 word)) kind) IsLink
size_fits word None h = tt
size_fits word (Some kind) h = (h, bits-bound 29 28 word)

fits : (word : ℕ) → IfSome (link_read word) IsLink
fits word = size_fits word (link_with (bits 57 3 word) (bits 0 29 word)) (kind_fits (bits 57 3 word) (bits 0 29 word))

pub links_exact : IsExact link_word IsLink link_of
links_exact word link = exact link_word link_read IsLink fits again word link
