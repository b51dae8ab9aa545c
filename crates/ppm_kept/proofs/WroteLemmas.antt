-- What a step of one place may write, case by case, and the words that stay for another place.
use Rattle.std.proofs.Common.{◌≡◌, ◌≢◌, ◌⊎◌, ◌≤◌, ◌<◌, ℕ, ◌+◌, inl, inr, refl, sym, ap, ◌∙◌, subst, arith}
use Rattle.std.proofs.lemmas.Bool.{cases_eq}
use Rattle.ppm_strands.specs.Tree.{Words, Tree}
use Rattle.ppm_cells.specs.declared.cell.Cell.{Cell}
use Rattle.ppm_cells.specs.declared.cell.Cell.TheVariants.{FinishWord, CarryWord, DeadWord, RestartWord, MessageWord, HolderWord, Top, RoomCounter, EntryWord, BlockWord, ArrayWord}
use Rattle.ppm_cells.specs.declared.link.LinkKind.{LinkKind}
use Rattle.ppm_cells.specs.declared.link.LinkKind.TheVariants.{Root, Call as Called, Branch, Fork as Forked}
use Rattle.ppm_cells.specs.declared.side.Side.{Side}
use Rattle.ppm_strands.specs.Strand.{Frame}
use Rattle.ppm_code.specs.Strands.{Point, Result}
use Rattle.ppm_code.specs.declared.location.FrameWord.{FrameWord}
use Rattle.ppm_frames.specs.Views.{written as write}
use Rattle.ppm_frames.specs.Skeletons.{Skeleton, count, plain, at, Around, plug, hook_at, plain_rim}
use Rattle.ppm_frames.specs.Laws.{Same}
use Rattle.ppm_frames.proofs.WriteLemmas.{write_here, write_else, address}
use Rattle.ppm_frames.proofs.SkeletonLemmas.{count_plug, plain_plug, plain_count, plain_rim_rim}
use Rattle.ppm_kept.specs.Running.{IsFair}
use Rattle.ppm_kept.specs.Kept.{Setting, start, end_of, owner, State, ceiling, Head, side_code, IsKept}
use Rattle.ppm_kept.specs.Others.{Mine, Claims, Wrote}
use Rattle.ppm_kept.proofs.OwnerLemmas.{owned}
use Rattle.ppm_kept.proofs.PlaceLemmas.{head_on, mine_around}
use Rattle.ppm_kept.proofs.NearLemmas.{own, near}

-- the order word of a branch is stored by it
pub record Claimed (s : State) (c : Around) (cell : Cell) (w : ℕ) : Type 0 where
  pub block : ℕ
  pub side : Side
  pub hook : hook_at Root c ≡ Branch side block
  pub is : cell ≡ BlockWord (block + 1)
  pub was : (s.words cell ≡ 0) ⊎ (s.words cell ≡ w)
  pub gets : (w ≡ side_code side) ⊎ (w ≡ 3)

pub data What (i : Setting) (s : State) (p : ℕ) (c : Around) (u : Skeleton) (cell : Cell) (w : ℕ) : Type 0 where
  OfPart : (x : ℕ) → cell ≡ BlockWord x → 1 ≤ plain (hook_at Root c) u x → What i s p c u cell w
  OfFree : (x : ℕ) → cell ≡ BlockWord x → ceiling i s.words p (s.kind p) ≤ x → x < end_of i p → What i s p c u cell w
  OfRoom : cell ≡ RoomCounter p → What i s p c u cell w
  OfArray : (x : ℕ) → cell ≡ ArrayWord x → Wrote i s.words u x → What i s p c u cell w
  OfFinish : cell ≡ FinishWord → s.words FinishWord ≡ 0 → What i s p c u cell w
  OfOrder : Claimed s c cell w → What i s p c u cell w

module _ (i : Setting) (fair : IsFair i.code) (root : Tree (Frame FrameWord Point) Result) (input : Words) (s : State) (t : Skeleton) (law : IsKept i root input s t) (p : ℕ)
    (c : Around) (u : Skeleton) where
  abbrev m : Cell → ℕ
  m = s.words

  mine_what : (w : ℕ) (cell : Cell) → Mine i s p (hook_at Root c) u cell → What i s p c u cell w
  mine_what w (BlockWord x) (inl one) = OfPart x refl one
  mine_what w (BlockWord x) (inr free) = OfFree x refl free.0 free.1
  mine_what w (RoomCounter q) k = OfRoom (ap RoomCounter k)
  mine_what w (ArrayWord x) k = OfArray x refl k
  mine_what w FinishWord k = OfFinish refl k
  mine_what w (CarryWord q) k = absurd k
  mine_what w (DeadWord q) k = absurd k
  mine_what w (RestartWord q) k = absurd k
  mine_what w (MessageWord q) k = absurd k
  mine_what w (HolderWord q) k = absurd k
  mine_what w (Top q) k = absurd k
  mine_what w (EntryWord q j) k = absurd k

  claims_what : (w : ℕ) (h : LinkKind) → hook_at Root c ≡ h → (cell : Cell) → Claims m h cell w → Claimed s c cell w
  claims_what w (Branch d r) he (BlockWord x) k = record { block = r; side = d; hook = he; is = ap BlockWord k.0; was = k.1; gets = k.2 }
  claims_what w (Branch d r) he (RoomCounter q) k = absurd k
  claims_what w (Branch d r) he (ArrayWord x) k = absurd k
  claims_what w (Branch d r) he FinishWord k = absurd k
  claims_what w (Branch d r) he (CarryWord q) k = absurd k
  claims_what w (Branch d r) he (DeadWord q) k = absurd k
  claims_what w (Branch d r) he (RestartWord q) k = absurd k
  claims_what w (Branch d r) he (MessageWord q) k = absurd k
  claims_what w (Branch d r) he (HolderWord q) k = absurd k
  claims_what w (Branch d r) he (Top q) k = absurd k
  claims_what w (Branch d r) he (EntryWord q j) k = absurd k
  claims_what w Root he cell k = absurd k
  claims_what w (Called f y) he cell k = absurd k
  claims_what w (Forked f y) he cell k = absurd k

  module _ (cell : Cell) (w : ℕ) (is : t ≡ plug c u) (mine : Mine i s p (hook_at Root c) u cell ⊎ Claims s.words (hook_at Root c) cell w) where
    abbrev n : Cell → ℕ
    n = write m cell w

    pub what : What i s p c u cell w
    what = elim mine [ inl k ↦ mine_what w cell k | inr k ↦ OfOrder (claims_what w (hook_at Root c) refl cell k) ]

    pub claimed_head : (g : Claimed s c cell w) → Head i s t (g.block + 1)
    claimed_head g = head_on i fair root input s t law p c u g.block g.side is g.hook

    -- no word around the part, but for order words
    pub wrote_around : Same (plain_rim Root c) m n
    wrote_around x there = by mine
      where
        order : (g : Claimed s c cell w) → n (BlockWord x) ≡ m (BlockWord x)
        order g = write_else m cell w (BlockWord x) (λ e.
            let head = claimed_head g in
            let xe : x ≡ g.block + 1 = ap address (e ∙ g.is) in
            let bare : plain Root (plug c u) x ≡ 0 = ap (λ (v : Skeleton). plain Root v x) (sym is) ∙ ap (plain Root t) xe ∙ head.bare in
            let sum = plain_plug Root c u x in there (omega (arith, bare, sum)))

        by : Mine i s p (hook_at Root c) u cell ⊎ Claims s.words (hook_at Root c) cell w → n (BlockWord x) ≡ m (BlockWord x)
        by (inl k) = mine_around i fair root input s t law p c u cell w is k x (λ z. there (let le = plain_rim_rim Root c x in omega (arith, le, z)))
        by (inr k) = order (claims_what w (hook_at Root c) refl cell k)

    -- the finish word stays where it is set
    pub finish_stays : (m FinishWord ≡ 0 → ⊥) → n FinishWord ≡ m FinishWord
    finish_stays set = write_else m cell w FinishWord (by what)
      where
        by : What i s p c u cell w → FinishWord ≢ cell
        by (OfPart x e k) q = let d = q ∙ e in cc
        by (OfFree x e k l) q = let d = q ∙ e in cc
        by (OfRoom e) q = let d = q ∙ e in cc
        by (OfArray x e k) q = let d = q ∙ e in cc
        by (OfFinish e k) q = set k
        by (OfOrder g) q = let d = q ∙ g.is in cc

    -- a word of the pools that is stored lies below its owner's ceiling, or is a free one of p
    low_word : (x : ℕ) → BlockWord x ≡ cell → (x < ceiling i m (owner i x) (s.kind (owner i x))) ⊎ ((start i p ≤ x) × (x < end_of i p))
    low_word x e = by what
      where
        by : What i s p c u cell w → (x < ceiling i m (owner i x) (s.kind (owner i x))) ⊎ ((start i p ≤ x) × (x < end_of i p))
        by (OfPart y ce one) =
            let xe : x ≡ y = ap address (e ∙ ce) in
            let one' = subst (λ (z : ℕ). 1 ≤ plain (hook_at Root c) u z) (sym xe) one in
            inl (law.below x (λ z. let sum = ap (λ (v : Skeleton). count Root v x) is ∙ count_plug Root c u x in let le = plain_count (hook_at Root c) u x in omega (arith, z, sum, le, one'))).1
        by (OfFree y ce low high) = let xe : x ≡ y = ap address (e ∙ ce) in let a = (law.rooms p).0 in inr (omega (arith, a, low, xe), omega (arith, high, xe))
        by (OfRoom ce) = absurd (let d = e ∙ ce in cc)
        by (OfArray y ce k) = absurd (let d = e ∙ ce in cc)
        by (OfFinish ce k) = absurd (let d = e ∙ ce in cc)
        by (OfOrder g) = let xe : x ≡ g.block + 1 = ap address (e ∙ g.is) in
            inl (subst (λ (z : ℕ). z < ceiling i m (owner i z) (s.kind (owner i z))) (sym xe) (claimed_head g).under)

    module _ (only : (q : ℕ) → q ≢ p → at q u ≡ 0) (q : ℕ) (ne : q ≢ p) where
      pub room : n (RoomCounter q) ≡ m (RoomCounter q)
      room = write_else m cell w (RoomCounter q) (by what)
        where
          by : What i s p c u cell w → RoomCounter q ≢ cell
          by (OfPart x e k) z = let d = z ∙ e in cc
          by (OfFree x e k l) z = let d = z ∙ e in cc
          by (OfRoom e) z = ne (ap address (z ∙ e))
          by (OfArray x e k) z = let d = z ∙ e in cc
          by (OfFinish e k) z = let d = z ∙ e in cc
          by (OfOrder g) z = let d = z ∙ g.is in cc

      -- free words of another place stay
      pub free : (o : ℕ) → ceiling i m q (s.kind q) + o < end_of i q → n (BlockWord (ceiling i m q (s.kind q) + o)) ≡ m (BlockWord (ceiling i m q (s.kind q) + o))
      free o lt = write_else m cell w (BlockWord (ceiling i m q (s.kind q) + o)) (λ e.
          let x : ℕ = ceiling i m q (s.kind q) + o in
          let least : start i q ≤ x = (let a = (law.rooms q).0 in omega (arith, a)) in
          let own_is = owned i q x least lt in elim (low_word x e) [
            | inl under ↦ let a = subst (λ (z : ℕ). x < ceiling i m z (s.kind z)) own_is under in omega (arith, a)
            | inr pair ↦ ne (sym own_is ∙ owned i p x pair.0 pair.1)
          ])

      -- the words of each node over the leaf of q
      pub over : (d : Around) (v : Skeleton) → t ≡ plug d v → 1 ≤ at q v → Same (own (hook_at Root d) v) m n
      over d v at_ one x there = wrote_around x (λ z. there (let le = near q Root c u d v (sym is ∙ at_) (only q ne) one x in omega (arith, le, z)))

    -- an order word stays, or was claimed
    pub head_view : (x : ℕ) → Head i s t x → (n (BlockWord x) ≡ m (BlockWord x)) ⊎ (Claimed s c (BlockWord x) w × (n (BlockWord x) ≡ w))
    head_view x head = by what
      where
        by : What i s p c u cell w → (n (BlockWord x) ≡ m (BlockWord x)) ⊎ (Claimed s c (BlockWord x) w × (n (BlockWord x) ≡ w))
        by (OfPart y e one) = inl (write_else m cell w (BlockWord x) (λ z.
            let xe : x ≡ y = ap address (z ∙ e) in
            let one' = subst (λ (z : ℕ). 1 ≤ plain (hook_at Root c) u z) (sym xe) one in
            let sum = plain_plug Root c u x in
            let none : plain Root (plug c u) x ≡ 0 = ap (λ (v : Skeleton). plain Root v x) (sym is) ∙ head.bare in omega (arith, sum, none, one')))
        by (OfFree y e low high) = inl (write_else m cell w (BlockWord x) (λ z.
            let xe : x ≡ y = ap address (z ∙ e) in
            let r = (law.rooms p).0 in
            let own_is : owner i x ≡ p = owned i p x (omega (arith, low, r, xe)) (omega (arith, high, xe)) in
            let lt = subst (λ (z : ℕ). x < ceiling i m z (s.kind z)) own_is head.under in omega (arith, lt, low, xe)))
        by (OfRoom e) = inl (write_else m cell w (BlockWord x) (λ z. let d = z ∙ e in cc))
        by (OfArray y e k) = inl (write_else m cell w (BlockWord x) (λ z. let d = z ∙ e in cc))
        by (OfFinish e k) = inl (write_else m cell w (BlockWord x) (λ z. let d = z ∙ e in cc))
        by (OfOrder g) = elim (cases_eq x (g.block + 1)) [
          | inl xe ↦
              let ce : cell ≡ BlockWord x = g.is ∙ ap BlockWord (sym xe) in
              inr (subst (λ (z : Cell). Claimed s c z w) ce g, subst (λ (z : Cell). n z ≡ w) ce (write_here m cell w))
          | inr other ↦ inl (write_else m cell w (BlockWord x) (λ z. other (ap address (z ∙ g.is))))
        ]

    -- an order word that is set stays
    pub set_stays : (x : ℕ) → Head i s t x → (m (BlockWord x) ≡ 0 → ⊥) → n (BlockWord x) ≡ m (BlockWord x)
    set_stays x head set = elim (head_view x head) [ inl e ↦ e | inr k ↦ elim k.0.was [ inl z ↦ absurd (set z) | inr z ↦ k.1 ∙ sym z ] ]
