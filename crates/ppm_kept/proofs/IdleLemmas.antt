-- Places without strands keep what they have, whatever another place stores.
use Rattle.std.proofs.Common.{◌≡◌, ◌≢◌, ◌⊎◌, ◌≤◌, ◌<◌, ℕ, ◌+◌, inl, inr, refl, sym, ap, ◌∙◌, subst, arith}
use Rattle.ppm_strands.specs.Tree.{Words, Tree}
use Rattle.ppm_cells.specs.declared.cell.Cell.{Cell}
use Rattle.ppm_cells.specs.declared.cell.Cell.TheVariants.{RoomCounter, BlockWord}
use Rattle.ppm_cells.specs.declared.link.LinkKind.{LinkKind}
use Rattle.ppm_cells.specs.declared.link.LinkKind.TheVariants.{Root, Call as Called, Branch, Fork as Forked}
use Rattle.ppm_cells.specs.declared.restart.RestartKind.{RestartKind}
use Rattle.ppm_cells.specs.declared.restart.RestartKind.TheVariants.{Pop1, Pop2, Seek, Steal, Check, Take, Take2}
use Rattle.ppm_strands.specs.Strand.{Frame}
use Rattle.ppm_code.specs.Strands.{Point, Result}
use Rattle.ppm_code.specs.declared.location.FrameWord.{FrameWord}
use Rattle.ppm_frames.specs.Views.{written as write}
use Rattle.ppm_frames.specs.Skeletons.{Skeleton, count, plain, Around, plug, hook_at}
use Rattle.ppm_frames.proofs.WriteLemmas.{write_else}
use Rattle.ppm_frames.proofs.SkeletonLemmas.{count_plug, plain_count}
use Rattle.ppm_kept.specs.Running.{IsFair}
use Rattle.ppm_kept.specs.Kept.{Setting, start, end_of, owner, State, Doing, Resting, InRow, InRest, Blank, ceiling, Free, Does, Ordered, carried, IsKept}
use Rattle.ppm_kept.specs.Others.{KeptAt, Mine, Claims, IsIdle}
use Rattle.ppm_kept.proofs.OwnerLemmas.{owned}
use Rattle.ppm_kept.proofs.PlaceLemmas.{head_on}

-- what an idle place has, whatever the words are but for its counter and its free words
pub idle_roof : (i : Setting) (n : Cell → ℕ) (q : ℕ) (k : RestartKind) → IsIdle k → ceiling i n q k ≡ n (RoomCounter q)
idle_roof i n q Pop1 h = refl
idle_roof i n q (Pop2 r) h = refl
idle_roof i n q Seek h = refl
idle_roof i n q (Steal v x) h = refl
idle_roof i n q (Check v x) h = refl
idle_roof i n q (Take v x) h = refl
idle_roof i n q (Take2 v) h = refl
idle_roof i n q _ h = absurd h

idle_carried : (m n : Cell → ℕ) (k : RestartKind) → IsIdle k → carried n k ≡ carried m k
idle_carried m n Pop1 h = refl
idle_carried m n (Pop2 r) h = refl
idle_carried m n Seek h = refl
idle_carried m n (Steal v x) h = refl
idle_carried m n (Check v x) h = refl
idle_carried m n (Take v x) h = refl
idle_carried m n (Take2 v) h = refl
idle_carried m n _ h = absurd h

pub idle_free : (i : Setting) (n : Cell → ℕ) (q : ℕ) (k : RestartKind) → IsIdle k → Blank i n q (n (RoomCounter q)) → Free i n q k
idle_free i n q Pop1 h b = b
idle_free i n q (Pop2 r) h b = b
idle_free i n q Seek h b = b
idle_free i n q (Steal v x) h b = b
idle_free i n q (Check v x) h b = b
idle_free i n q (Take v x) h b = b
idle_free i n q (Take2 v) h b = b
idle_free i n q _ h b = absurd h

pub idle_blank : (i : Setting) (n : Cell → ℕ) (q : ℕ) (k : RestartKind) → IsIdle k → Free i n q k → Blank i n q (n (RoomCounter q))
idle_blank i n q Pop1 h b = b
idle_blank i n q (Pop2 r) h b = b
idle_blank i n q Seek h b = b
idle_blank i n q (Steal v x) h b = b
idle_blank i n q (Check v x) h b = b
idle_blank i n q (Take v x) h b = b
idle_blank i n q (Take2 v) h b = b
idle_blank i n q _ h b = absurd h

idle_does : (i : Setting) (m n : Cell → ℕ) (q : ℕ) (k : RestartKind) (d : Doing) → IsIdle k → Does i m q k d → Does i n q k d
idle_does i m n q k Resting h e = tt
idle_does i m n q Pop1 (InRow row) h e = tt
idle_does i m n q (Pop2 r) (InRow row) h e = tt
idle_does i m n q Seek (InRow row) h e = tt
idle_does i m n q (Steal v x) (InRow row) h e = tt
idle_does i m n q (Check v x) (InRow row) h e = tt
idle_does i m n q (Take v x) (InRow row) h e = tt
idle_does i m n q (Take2 v) (InRow row) h e = tt
idle_does i m n q Pop1 (InRest rest) h e = e
idle_does i m n q (Pop2 r) (InRest rest) h e = e
idle_does i m n q Seek (InRest rest) h e = e
idle_does i m n q (Steal v x) (InRest rest) h e = e
idle_does i m n q (Check v x) (InRest rest) h e = e
idle_does i m n q (Take v x) (InRest rest) h e = e
idle_does i m n q (Take2 v) (InRest rest) h e = e
idle_does i m n q _ d h e = absurd h

pub idle_order : (i : Setting) (s : State) (t : Skeleton) (n : Cell → ℕ) (k : RestartKind) → IsIdle k → Ordered i s t n k
idle_order i s t n Pop1 h = tt
idle_order i s t n (Pop2 r) h = tt
idle_order i s t n Seek h = tt
idle_order i s t n (Steal v x) h = tt
idle_order i s t n (Check v x) h = tt
idle_order i s t n (Take v x) h = tt
idle_order i s t n (Take2 v) h = tt
idle_order i s t n _ h = absurd h

module _ (i : Setting) (fair : IsFair i.code) (root : Tree (Frame FrameWord Point) Result) (input : Words) (s : State) (t : Skeleton) (law : IsKept i root input s t) (p : ℕ)
    (c : Around) (u : Skeleton) (cell : Cell) (w : ℕ) (is : t ≡ plug c u) (mine : Mine i s p (hook_at Root c) u cell ⊎ Claims s.words (hook_at Root c) cell w) (q : ℕ) (ne : q ≢ p)
    (idle : IsIdle (s.kind q)) where
  abbrev m : Cell → ℕ
  m = s.words

  -- a word of the pools that is stored lies below its owner's ceiling, or is a free one of p
  below : (x : ℕ) → cell ≡ BlockWord x → (x < ceiling i m (owner i x) (s.kind (owner i x))) ⊎ ((start i p ≤ x) × (x < end_of i p))
  below x e = by mine
    where
      counted : 1 ≤ plain (hook_at Root c) u x → x < ceiling i m (owner i x) (s.kind (owner i x))
      counted one = (law.below x (λ z. let sum = ap (λ (v : Skeleton). count Root v x) is ∙ count_plug Root c u x in let le = plain_count (hook_at Root c) u x in omega (arith, z, sum, le, one))).1

      claims : (h : LinkKind) → hook_at Root c ≡ h → Claims m h (BlockWord x) w → x < ceiling i m (owner i x) (s.kind (owner i x))
      claims (Branch d r) he k = subst (λ (z : ℕ). z < ceiling i m (owner i z) (s.kind (owner i z))) (sym k.0) (head_on i fair root input s t law p c u r d is he).under
      claims Root he k = absurd k
      claims (Called g y) he k = absurd k
      claims (Forked g y) he k = absurd k

      by : Mine i s p (hook_at Root c) u cell ⊎ Claims m (hook_at Root c) cell w → (x < ceiling i m (owner i x) (s.kind (owner i x))) ⊎ ((start i p ≤ x) × (x < end_of i p))
      by (inl k) = elim (subst (Mine i s p (hook_at Root c) u) e k) [
        | inl one ↦ inl (counted one)
        | inr free ↦ inr (let a = (law.rooms p).0 in let b = free.0 in omega (arith, a, b), free.1)
      ]
      by (inr k) = inl (claims (hook_at Root c) refl (subst (λ (z : Cell). Claims m (hook_at Root c) z w) e k))

  no_room : RoomCounter q ≢ cell
  no_room e = by mine
    where
      claims : (h : LinkKind) → Claims m h (RoomCounter q) w → ⊥
      claims (Branch d r) k = k
      claims Root k = k
      claims (Called g y) k = k
      claims (Forked g y) k = k

      by : Mine i s p (hook_at Root c) u cell ⊎ Claims m (hook_at Root c) cell w → ⊥
      by (inl k) = ne (subst (Mine i s p (hook_at Root c) u) (sym e) k)
      by (inr k) = claims (hook_at Root c) (subst (λ (z : Cell). Claims m (hook_at Root c) z w) (sym e) k)

  room_is : write m cell w (RoomCounter q) ≡ m (RoomCounter q)
  room_is = write_else m cell w (RoomCounter q) no_room

  -- no free word of q
  no_free : (o : ℕ) → m (RoomCounter q) + o < end_of i q → BlockWord (m (RoomCounter q) + o) ≢ cell
  no_free o lt e =
      let x : ℕ = m (RoomCounter q) + o in
      let roof = idle_roof i m q (s.kind q) idle in
      let least : start i q ≤ x = (let a = (law.rooms q).0 in omega (arith, a, roof)) in
      let own = owned i q x least lt in elim (below x (sym e)) [
        | inl under ↦ let a = subst (λ (z : ℕ). x < ceiling i m z (s.kind z)) own under in omega (arith, a, roof)
        | inr free ↦ ne (sym own ∙ owned i p x free.0 free.1)
      ]

  pub idle_kept : KeptAt i s t (write m cell w) q
  idle_kept = record {
    roof = idle_roof i (write m cell w) q (s.kind q) idle ∙ room_is ∙ sym (idle_roof i m q (s.kind q) idle);
    strand = idle_carried m (write m cell w) (s.kind q) idle;
    free = idle_free i (write m cell w) q (s.kind q) idle (λ o lt.
        let lt' : m (RoomCounter q) + o < end_of i q = subst (λ (z : ℕ). z + o < end_of i q) room_is lt in
        ap (λ (z : ℕ). write m cell w (BlockWord (z + o))) room_is ∙ write_else m cell w (BlockWord (m (RoomCounter q) + o)) (no_free o lt')
        ∙ idle_blank i m q (s.kind q) idle (law.free q) o lt');
    does = idle_does i m (write m cell w) q (s.kind q) (s.doing q) idle (law.does q);
    order = idle_order i s t (write m cell w) (s.kind q) idle;
  }
