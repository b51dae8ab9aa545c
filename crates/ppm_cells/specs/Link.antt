-- The packing of links: kind in bits 57 to 59, size in 29 to 56, copy in 28, address in 0 to 27; bits 60 to 63 are 0.
use Rattle.std.specs.Prelude.{ℕ, ◌^◌, ◌<◌, ◌==◌, if◌then◌else◌, List, [], ◌∷◌, Option, Some, None}
use Rattle.std.specs.Option.{option_map}
use Rattle.ppm_cells.specs.Fields.{Field, Bits, number_of, Fit, bits}
use Rattle.ppm_cells.specs.Exact.{unpacked}
use Rattle.ppm_cells.specs.declared.link.Link.{Link}
use Rattle.ppm_cells.specs.declared.link.LinkKind.{LinkKind}
use Rattle.ppm_cells.specs.declared.link.LinkKind.TheVariants.{Root, Call, Branch, Fork}
use Rattle.ppm_cells.specs.declared.side.Side.TheVariants.{Left, Right}

-- the kinds by number
abbrev pub link_number : LinkKind → ℕ
link_number Root = 1
link_number (Call frame copy) = 2
link_number (Branch Left block) = 3
link_number (Branch Right block) = 4
link_number (Fork frame copy) = 5

-- the address and the copy, the lowest first
abbrev pub link_address : LinkKind → List Field
link_address Root = Bits 28 0 ∷ Bits 1 0 ∷ []
link_address (Call frame copy) = Bits 28 frame ∷ Bits 1 copy ∷ []
link_address (Branch side block) = Bits 28 block ∷ Bits 1 0 ∷ []
link_address (Fork frame copy) = Bits 28 frame ∷ Bits 1 copy ∷ []

-- a link's fields, the lowest first: address with copy, size, kind
abbrev pub link_fields : Link → List Field
link_fields link =
    Bits 29 (number_of (link_address link.kind)) ∷ Bits 28 link.size ∷ Bits 3 (link_number link.kind) ∷ Bits 4 0 ∷ []

-- the word that a link packs to
abbrev pub link_word : Link → ℕ
link_word link = number_of (link_fields link)

-- each of its numbers fits its field
abbrev pub IsLink : Link → Type 0
IsLink link = Fit (link_address link.kind) × (link.size < 2 ^ 28)

-- the kind with a number, read from an address with its copy
abbrev pub link_with : (number address : ℕ) → Option LinkKind
link_with number address =
    if number == 1 then Some Root
    else (if number == 2 then Some (Call (bits 0 28 address) (bits 28 1 address))
    else (if number == 3 then Some (Branch Left (bits 0 28 address))
    else (if number == 4 then Some (Branch Right (bits 0 28 address))
    else (if number == 5 then Some (Fork (bits 0 28 address) (bits 28 1 address))
    else None))))

-- with this size
abbrev pub with_size : ℕ → LinkKind → Link
with_size size kind = record { kind = kind; size = size }

-- a link read from its bits
abbrev pub link_read : ℕ → Option Link
link_read word = option_map (with_size (bits 29 28 word)) (link_with (bits 57 3 word) (bits 0 29 word))

-- the link that a word stands for
abbrev pub link_of : ℕ → Option Link
link_of word = unpacked link_word link_read word
