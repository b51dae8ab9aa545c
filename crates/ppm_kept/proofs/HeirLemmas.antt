-- The strand of a closed place becomes its heir's: by rows of the closed place it comes to the kind that
-- the heir is to have, its pool is settled, and its leaf is handed over.
use Rattle.std.proofs.Common.{◌≡◌, ◌≢◌, ◌⊎◌, ◌≤◌, ◌<◌, ℕ, ◌+◌, ◌-◌, ◌==◌, ◌&&◌, cond, Bool, true, false, inl, inr, refl, sym, ap, ◌∙◌, subst, subst₂, arith}
use Rattle.std.specs.Prelude.{nat_lt, nat_le}
use Rattle.std.proofs.Math.Path.{fun_ext}
use Rattle.std.proofs.lemmas.Bool.{cases_eq, cases_lt, cases_Bool, cond-true, cond-false, eqb-true, eq-eqb, ltb-true, leb-true, lt-ltb, le-leb}
use Rattle.ppm_strands.specs.Tree.{Words, Tree}
use Rattle.ppm_cells.specs.declared.cell.Cell.{Cell}
use Rattle.ppm_cells.specs.declared.cell.Cell.TheVariants.{FinishWord, CarryWord, DeadWord, RestartWord, MessageWord, HolderWord, Top, RoomCounter, EntryWord, BlockWord, ArrayWord}
use Rattle.ppm_cells.specs.declared.link.LinkKind.{LinkKind}
use Rattle.ppm_cells.specs.declared.link.LinkKind.TheVariants.{Root, Call as Called, Branch, Fork as Forked}
use Rattle.ppm_cells.specs.declared.restart.RestartKind.{RestartKind}
use Rattle.ppm_cells.specs.declared.restart.RestartKind.TheVariants.{Run, Bump, Push1, Push2, Unwind, Arrive, Join, Pop1, Pop2, Seek, Steal, Check, Take, Take2}
use Rattle.ppm_cells.specs.declared.side.Side.{Side}
use Rattle.ppm_strands.specs.Strand.{Frame}
use Rattle.ppm_code.specs.Strands.{Point, Result}
use Rattle.ppm_code.specs.declared.location.FrameWord.{FrameWord}
use Rattle.ppm_frames.specs.Views.{written as write}
use Rattle.ppm_frames.specs.Skeletons.{Stand, InPlace, Skeleton, Leaf, at, Around, plug, at_rim}
use Rattle.ppm_frames.proofs.SkeletonLemmas.{at_plug}
use Rattle.ppm_frames.specs.Good.{link_at}
use Rattle.ppm_frames.proofs.WriteLemmas.{write_here, write_else}
use Rattle.ppm_kept.specs.Running.{IsFair}
use Rattle.ppm_kept.specs.Branches.{Untaken, Unpushed, is_taker, HasCopy}
use Rattle.ppm_kept.specs.Kept.{Setting, end_of, Doing, Resting, State, put, side_code, Blank, carried, ceiling, Free, IsKept}
use Rattle.ppm_kept.specs.Moves.{installs}
use Rattle.ppm_kept.specs.Others.{IsIdle}
use Rattle.ppm_kept.specs.Heirs.{handed, settled, OpensAs, GoesOnAs, inherits, HeirsKeep}
use Rattle.ppm_kept.proofs.BumpRow.{counter_stored, call_installs, fork_installs}
use Rattle.ppm_kept.proofs.HandLemmas.{kind_q, hands_keep, nothing_handed, none_untaken, untaken_moves, leaf_hand, none_hand, leaf_handed}
use Rattle.ppm_kept.proofs.IdleLemmas.{idle_blank}
use Rattle.ppm_kept.proofs.OtherLemmas.{others_keep}
use Rattle.ppm_kept.proofs.PlaceLemmas.{Leafed, leaf}
use Rattle.ppm_kept.proofs.PushRows.{second_runs, second_again}
use Rattle.ppm_kept.proofs.PutLemmas.{put_here, put_else}
use Rattle.ppm_kept.proofs.SettleLemmas.{clean_moves, zeros, zero_else, zero_out, zero_in, words_settled}

idle_none : (m : Cell → ℕ) (k : RestartKind) → IsIdle k → carried m k ≡ 0
idle_none m Pop1 h = refl
idle_none m (Pop2 r) h = refl
idle_none m Seek h = refl
idle_none m (Steal v x) h = refl
idle_none m (Check v x) h = refl
idle_none m (Take v x) h = refl
idle_none m (Take2 v) h = refl
idle_none m _ h = absurd h

-- what is put where it was put before
put_twice : {A : Type 0} (f : ℕ → A) (p : ℕ) (x y : A) → put (put f p x) p y ≡ put f p y
put_twice f p x y = fun_ext (λ q. elim (cases_eq q p) [
  | inl e ↦ ap (put (put f p x) p y) e ∙ put_here (put f p x) p y ∙ sym (ap (put f p y) e ∙ put_here f p y)
  | inr ne ↦ put_else (put f p x) p y q ne ∙ put_else f p x q ne ∙ sym (put_else f p y q ne)
])

put_same : {A : Type 0} (f : ℕ → A) (p : ℕ) (x : A) → f p ≡ x → put f p x ≡ f
put_same f p x e = fun_ext (λ q. elim (cases_eq q p) [
  | inl is ↦ ap (put f p x) is ∙ put_here f p x ∙ sym e ∙ ap f (sym is)
  | inr ne ↦ put_else f p x q ne
])

-- a test of both bounds
both_true : (a b : Bool) → a ≡ true → b ≡ true → (a && b) ≡ true
both_true true b e d = d
both_true false b e d = absurd (cc)

both_are : (a b : Bool) → (a && b) ≡ true → (a ≡ true) × (b ≡ true)
both_are true b e = (refl, e)
both_are false b e = absurd (cc)

-- words that are settled, by what each sort of cell has
settle_is : (i : Setting) (m n : Cell → ℕ) (v c : ℕ) → n (RoomCounter v) ≡ c → ((x : ℕ) → c ≤ x → x < end_of i v → n (BlockWord x) ≡ 0)
    → ((x : ℕ) → (c ≤ x → x < end_of i v → ⊥) → n (BlockWord x) ≡ m (BlockWord x))
    → ((cell : Cell) → ((x : ℕ) → BlockWord x ≢ cell) → RoomCounter v ≢ cell → n cell ≡ m cell)
    → n ≡ settled i m v c
settle_is i m n v c counter above else_ others = fun_ext by
  where
    by : (cell : Cell) → n cell ≡ settled i m v c cell
    by (RoomCounter q) = elim (cases_Bool (q == v)) [
      | inl e ↦ ap (λ (b : ℕ). n (RoomCounter b)) (eqb-true q v e) ∙ counter ∙ sym (cond-true (q == v) c (m (RoomCounter q)) e)
      | inr e ↦ others (RoomCounter q) (λ x z. cc) (λ z. absurd (let k = number_of z in let a = sym e ∙ eq-eqb q v (sym k) in cc)) ∙ sym (cond-false (q == v) c (m (RoomCounter q)) e)
    ]
      where
        told : Cell → ℕ
        told (RoomCounter b) = b
        told cell = 0

        number_of : RoomCounter v ≡ RoomCounter q → v ≡ q
        number_of z = ap told z
    by (BlockWord x) = elim (cases_Bool (nat_le c x && nat_lt x (end_of i v))) [
      | inl e ↦ let two = both_are (nat_le c x) (nat_lt x (end_of i v)) e in above x (leb-true c x two.0) (ltb-true x (end_of i v) two.1) ∙ sym (cond-true (nat_le c x && nat_lt x (end_of i v)) 0 (m (BlockWord x)) e)
      | inr e ↦ else_ x (λ low high. let a = sym e ∙ both_true (nat_le c x) (nat_lt x (end_of i v)) (le-leb c x low) (lt-ltb x (end_of i v) high) in cc) ∙ sym (cond-false (nat_le c x && nat_lt x (end_of i v)) 0 (m (BlockWord x)) e)
    ]
    by FinishWord = others FinishWord (λ x z. cc) (λ z. cc)
    by (CarryWord q) = others (CarryWord q) (λ x z. cc) (λ z. cc)
    by (DeadWord q) = others (DeadWord q) (λ x z. cc) (λ z. cc)
    by (RestartWord q) = others (RestartWord q) (λ x z. cc) (λ z. cc)
    by (MessageWord q) = others (MessageWord q) (λ x z. cc) (λ z. cc)
    by (HolderWord q) = others (HolderWord q) (λ x z. cc) (λ z. cc)
    by (Top q) = others (Top q) (λ x z. cc) (λ z. cc)
    by (EntryWord q j) = others (EntryWord q j) (λ x z. cc) (λ z. cc)
    by (ArrayWord x) = others (ArrayWord x) (λ x z. cc) (λ z. cc)

-- where nothing was stored above
blank_settled : (i : Setting) (m : Cell → ℕ) (v : ℕ) → Blank i m v (m (RoomCounter v)) → m ≡ settled i m v (m (RoomCounter v))
blank_settled i m v blank = settle_is i m m v (m (RoomCounter v)) refl
    (λ x low high. subst (λ (b : ℕ). m (BlockWord b) ≡ 0) {x = m (RoomCounter v) + (x - m (RoomCounter v))} (omega (arith, low)) (blank (x - m (RoomCounter v)) (omega (arith, low, high))))
    (λ x out. refl) (λ cell a b. refl)

-- the counter raised before
raised_settled : (i : Setting) (m : Cell → ℕ) (v c : ℕ) → Blank i m v c → write m (RoomCounter v) c ≡ settled i m v c
raised_settled i m v c blank = settle_is i m (write m (RoomCounter v) c) v c (write_here m (RoomCounter v) c)
    (λ x low high. write_else m (RoomCounter v) c (BlockWord x) (λ e. cc) ∙ subst (λ (b : ℕ). m (BlockWord b) ≡ 0) {x = c + (x - c)} (omega (arith, low)) (blank (x - c) (omega (arith, low, high))))
    (λ x out. write_else m (RoomCounter v) c (BlockWord x) (λ e. cc))
    (λ cell a b. write_else m (RoomCounter v) c cell (λ e. b (sym e)))

-- and where a capsule's words are 0 again
zeros_settled : (i : Setting) (m : Cell → ℕ) (v : ℕ) → m (RoomCounter v) ≤ end_of i v → zeros m (m (RoomCounter v)) (end_of i v - m (RoomCounter v)) ≡ settled i m v (m (RoomCounter v))
zeros_settled i m v fit = settle_is i m (zeros m (m (RoomCounter v)) (end_of i v - m (RoomCounter v))) v (m (RoomCounter v))
    (zero_else m (m (RoomCounter v)) (end_of i v - m (RoomCounter v)) (RoomCounter v) (λ x e. cc))
    (λ x low high. zero_in m (m (RoomCounter v)) (end_of i v - m (RoomCounter v)) x low (omega (arith, high, fit)))
    (λ x out. zero_out m (m (RoomCounter v)) (end_of i v - m (RoomCounter v)) x (elim (cases_lt x (m (RoomCounter v))) [
      | inl less ↦ inl less
      | inr low ↦ elim (cases_lt x (end_of i v)) [ inl high ↦ absurd (out low high) | inr past ↦ inr (omega (arith, past, fit)) ]
    ]))
    (λ cell a b. zero_else m (m (RoomCounter v)) (end_of i v - m (RoomCounter v)) cell a)

-- what the one had to push is the other's to push
unpushed_moves : (v p : ℕ) (k : RestartKind) (c : Around) (st : Stand) (f n : ℕ) → at_rim p c ≡ 0 → Unpushed v (plug c (Leaf (InPlace v) st f n)) k → Unpushed p (plug c (Leaf (InPlace p) st f n)) k
unpushed_moves v p (Bump r) c st f n e old = untaken_moves v p r c st f n e old
unpushed_moves v p (Push1 r) c st f n e old = untaken_moves v p r c st f n e old
unpushed_moves v p (Run g y) c st f n e old = tt
unpushed_moves v p (Push2 r) c st f n e old = tt
unpushed_moves v p (Unwind g) c st f n e old = tt
unpushed_moves v p (Arrive r d) c st f n e old = tt
unpushed_moves v p (Join r d) c st f n e old = tt
unpushed_moves v p Pop1 c st f n e old = tt
unpushed_moves v p (Pop2 r) c st f n e old = tt
unpushed_moves v p Seek c st f n e old = tt
unpushed_moves v p (Steal w x) c st f n e old = tt
unpushed_moves v p (Check w x) c st f n e old = tt
unpushed_moves v p (Take w x) c st f n e old = tt
unpushed_moves v p (Take2 w) c st f n e old = tt

none_unpushed : (p : ℕ) (k : RestartKind) (t : Skeleton) → at p t ≡ 0 → Unpushed p t k
none_unpushed p (Bump r) t e = none_untaken p r t e
none_unpushed p (Push1 r) t e = none_untaken p r t e
none_unpushed p (Run g y) t e = tt
none_unpushed p (Push2 r) t e = tt
none_unpushed p (Unwind g) t e = tt
none_unpushed p (Arrive r d) t e = tt
none_unpushed p (Join r d) t e = tt
none_unpushed p Pop1 t e = tt
none_unpushed p (Pop2 r) t e = tt
none_unpushed p Seek t e = tt
none_unpushed p (Steal w x) t e = tt
none_unpushed p (Check w x) t e = tt
none_unpushed p (Take w x) t e = tt
none_unpushed p (Take2 w) t e = tt

module _ (i : Setting) (fair : IsFair i.code) (root : Tree (Frame FrameWord Point) Result) (input : Words) (v p : ℕ) (ne : p ≢ v) (t : Skeleton) where
  -- from a closed place at the very kind that the heir is to have
  hand_over : (w : State) → IsKept i root input w t → (k : RestartKind) → w.kind v ≡ k → w.doing v ≡ Resting → IsIdle (w.kind p) → ((q : ℕ) → ceiling i w.words q k ≡ w.words (RoomCounter q))
      → Blank i w.words v (w.words (RoomCounter v)) → Free i w.words p k → is_taker k ≡ false → (carried w.words k ≡ 1) ⊎ (carried w.words k ≡ 0)
      → IsKept i root input (record { words = w.words; kind = put (put w.kind v Seek) p k; doing = put w.doing p Resting }) (handed v p t)
  hand_over w law k kv rests idle roofs blank frees none strand = elim strand [
    | inl one ↦
        let g : Leafed i w t v = leaf i fair root input w t law v (ap (carried w.words) kv ∙ one) in
        let hand = leaf_hand i root input w t law v p ne (put (put w.kind v Seek) p k) (kind_q i root input w t law v p ne idle k kv rests) away g (put_here (put w.kind v Seek) p k ∙ sym kv) in
        let pushes = unpushed_moves v p k g.around g.stand g.frame g.slots (hand_away g) (subst₂ (Unpushed v) g.is kv (law.untaken v)) in
        subst (IsKept i root input (after w k)) (sym (ap (handed v p) g.is ∙ leaf_handed v p g.around g.stand g.frame g.slots g.alone))
        (hands_keep i root input w t law v p ne idle k kv rests roofs blank frees none hand pushes)
    | inr zero_ ↦
        let empty : at v t ≡ 0 = law.places v ∙ ap (carried w.words) kv ∙ zero_ in
        let hand = none_hand i root input w t law v p ne (put (put w.kind v Seek) p k) (kind_q i root input w t law v p ne idle k kv rests) away empty in
        subst (IsKept i root input (after w k)) (sym (nothing_handed v p t empty))
        (hands_keep i root input w t law v p ne idle k kv rests roofs blank frees none hand (none_unpushed p k t away))
  ]
    where
      after : State → RestartKind → State
      after w k = record { words = w.words; kind = put (put w.kind v Seek) p k; doing = put w.doing p Resting }

      away : at p t ≡ 0
      away = law.places p ∙ idle_none w.words (w.kind p) idle

      hand_away : (g : Leafed i w t v) → at_rim p g.around ≡ 0
      hand_away g = let e = ap (at p) (sym g.is) ∙ away in let a = at_plug p g.around (Leaf (InPlace v) g.stand g.frame g.slots) in omega (arith, e, a)

-- a place that goes on is not one without a strand
pub not_idle : (s : State) (t : Skeleton) (v : ℕ) (closed next : RestartKind) → IsIdle closed → GoesOnAs s t v closed next → ⊥
not_idle s t v Pop1 k h g = g
not_idle s t v (Pop2 r) k h g = g
not_idle s t v Seek k h g = g
not_idle s t v (Steal w x) k h g = g
not_idle s t v (Check w x) k h g = g
not_idle s t v (Take w x) k h g = g
not_idle s t v (Take2 w) k h g = g
not_idle s t v _ k h g = h

module _ (i : Setting) (fair : IsFair i.code) (root : Tree (Frame FrameWord Point) Result) (input : Words) (s : State) (t : Skeleton) (law : IsKept i root input s t) (v p : ℕ) (there : v < i.shape.processors)
    (idle : IsIdle (s.kind p)) (rests : s.doing v ≡ Resting) where
  abbrev m : Cell → ℕ
  m = s.words

  abbrev Done : RestartKind → Type 0
  Done k = IsKept i root input (inherits i s v p k) (handed v p t)

  abbrev roof : ℕ
  roof = ceiling i m v (s.kind v)

  to_inherited : (w : State) (k : RestartKind) → w.words ≡ settled i m v roof → put w.kind v Seek ≡ put s.kind v Seek → put w.doing p Resting ≡ put s.doing p Resting
      → IsKept i root input (record { words = w.words; kind = put (put w.kind v Seek) p k; doing = put w.doing p Resting }) (handed v p t) → Done k
  to_inherited w k a b d kept = subst (λ (z : State). IsKept i root input z (handed v p t)) (λ j. record { words = a j; kind = put (b j) p k; doing = d j }) kept

  module _ (ne : p ≢ v) where
    idle_free_words : (w : State) → IsKept i root input w t → IsIdle (w.kind p) → Blank i w.words p (w.words (RoomCounter p))
    idle_free_words w lw h = idle_blank i w.words p (w.kind p) h (lw.free p)

    -- a frame that runs, in words that are settled
    run_over : (w : State) → IsKept i root input w t → (f y : ℕ) → w.kind v ≡ Run f y → w.doing v ≡ Resting → IsIdle (w.kind p) → Blank i w.words v (w.words (RoomCounter v))
        → IsKept i root input (record { words = w.words; kind = put (put w.kind v Seek) p (Run f y); doing = put w.doing p Resting }) (handed v p t)
    run_over w lw f y kv rw iw blank = hand_over i fair root input v p ne t w lw (Run f y) kv rw iw (λ q. refl) blank
        (clean_moves i.shape i.code fair w.words v p f y (subst HasCopy kv (lw.copies v)) (idle_free_words w lw iw) (subst (Free i w.words v) kv (lw.free v))) refl (inl refl)

    run_case : (f y : ℕ) → s.kind v ≡ Run f y → Done (Run f y)
    run_case f y kv =
        let top_ : roof ≡ m (RoomCounter v) = ap (ceiling i m v) kv in
        let fit : m (RoomCounter v) ≤ end_of i v = subst (λ (b : ℕ). b ≤ end_of i v) top_ (law.rooms v).1 in
        let w : State = record { words = zeros m (m (RoomCounter v)) (end_of i v - m (RoomCounter v)); kind = s.kind; doing = s.doing } in
        let lw : IsKept i root input w t = words_settled i fair root input s t law v there f y kv rests (end_of i v - m (RoomCounter v)) (omega (arith, fit)) in
        let counter : w.words (RoomCounter v) ≡ m (RoomCounter v) = zero_else m (m (RoomCounter v)) (end_of i v - m (RoomCounter v)) (RoomCounter v) (λ x e. cc) in
        to_inherited w (Run f y) (zeros_settled i m v fit ∙ ap (settled i m v) (sym top_)) refl refl
        (run_over w lw f y kv rests idle (λ o lt. ap (λ (b : ℕ). w.words (BlockWord (b + o))) counter
        ∙ zero_in m (m (RoomCounter v)) (end_of i v - m (RoomCounter v)) (m (RoomCounter v) + o) (omega arith) (let a : m (RoomCounter v) + o < end_of i v = subst (λ (b : ℕ). b + o < end_of i v) counter lt in omega (arith, a))))

    -- a kind in whose words nothing was stored above the counter
    plain_case : (k : RestartKind) → s.kind v ≡ k → ((q : ℕ) → ceiling i m q k ≡ m (RoomCounter q)) → Blank i m v (m (RoomCounter v)) → (Blank i m p (m (RoomCounter p)) → Free i m p k) → is_taker k ≡ false
        → (carried m k ≡ 1) ⊎ (carried m k ≡ 0) → Done k
    plain_case k kv roofs blank frees none strand =
        let top_ : roof ≡ m (RoomCounter v) = ap (ceiling i m v) kv ∙ roofs v in
        to_inherited s k (blank_settled i m v blank ∙ ap (settled i m v) (sym top_)) refl refl
        (hand_over i fair root input v p ne t s law k kv rests idle roofs blank (frees (idle_free_words s law idle)) none strand)

    blank_of : (k : RestartKind) → s.kind v ≡ k → Free i m v k
    blank_of k kv = subst (Free i m v) kv (law.free v)

    order_case : (r : ℕ) (d : Side) → (◌≡◌ {A = ℕ} (cond (m (BlockWord (r + 1)) == side_code d) 0 1) 1) ⊎ (◌≡◌ {A = ℕ} (cond (m (BlockWord (r + 1)) == side_code d) 0 1) 0)
    order_case r d = elim (cases_Bool (m (BlockWord (r + 1)) == side_code d)) [
      | inl e ↦ inr (cond-true {A = ℕ} (m (BlockWord (r + 1)) == side_code d) 0 1 e)
      | inr e ↦ inl (cond-false {A = ℕ} (m (BlockWord (r + 1)) == side_code d) 0 1 e)
    ]

    -- after an install that the closed place might have made
    installed : (w : State) (k : RestartKind) → w.kind ≡ put s.kind v k → w.doing ≡ put s.doing v Resting → (put w.kind v Seek ≡ put s.kind v Seek) × (put w.doing p Resting ≡ put s.doing p Resting) × (w.kind v ≡ k) × (w.doing v ≡ Resting) × IsIdle (w.kind p)
    installed w k a b = (
      ap (λ (g : ℕ → RestartKind). put g v Seek) a ∙ put_twice s.kind v k Seek,
      ap (λ (g : ℕ → Doing). put g p Resting) (b ∙ put_same s.doing v Resting rests),
      ap (λ (g : ℕ → RestartKind). g v) a ∙ put_here s.kind v k,
      ap (λ (g : ℕ → Doing). g v) b ∙ put_here s.doing v Resting,
      subst IsIdle (sym (ap (λ (g : ℕ → RestartKind). g p) a ∙ put_else s.kind v k p ne)) idle,
    )

    push2_case : (r : ℕ) → s.kind v ≡ Push2 r → (k : RestartKind) → (k ≡ Run (r + 5) 0) ⊎ ((k ≡ Push1 r) × Untaken v r t) → Done k
    push2_case r kv k (inl e) =
        let w = installs s v (Run (r + 5) 0) in
        let lw : IsKept i root input w t = second_runs i fair root input s t law v there (others_keep i fair root input s t law v) r kv in
        let at_ = installed w (Run (r + 5) 0) refl refl in
        let blank : Blank i m v (m (RoomCounter v)) = blank_of (Push2 r) kv in
        subst Done (sym e) (to_inherited w (Run (r + 5) 0) (blank_settled i m v blank ∙ ap (settled i m v) (sym (ap (ceiling i m v) kv))) at_.0 at_.1 (run_over w lw (r + 5) 0 at_.2 at_.3 at_.4 blank))
    push2_case r kv k (inr e) =
        let w = installs s v (Push1 r) in
        let lw : IsKept i root input w t = second_again i fair root input s t law v there (others_keep i fair root input s t law v) r kv e.1 in
        let at_ = installed w (Push1 r) refl refl in
        let blank : Blank i m v (m (RoomCounter v)) = blank_of (Push2 r) kv in
        subst Done (sym e.0) (to_inherited w (Push1 r) (blank_settled i m v blank ∙ ap (settled i m v) (sym (ap (ceiling i m v) kv))) at_.0 at_.1
        (hand_over i fair root input v p ne t w lw (Push1 r) at_.2 at_.3 at_.4 (λ q. refl) blank (idle_free_words w lw at_.4) refl (inl refl)))

    -- a block that was built is opened
    module _ (r : ℕ) (kv : s.kind v ≡ Bump r) where
      abbrev size : ℕ
      size = (link_at (m (BlockWord r))).size

      abbrev m1 : Cell → ℕ
      m1 = write m (RoomCounter v) (r + size)

      abbrev raised : State
      raised = record { words = m1; kind = s.kind; doing = put s.doing v Resting }

      law1 : IsKept i root input raised t
      law1 = counter_stored i fair root input s t law v there (others_keep i fair root input s t law v) r kv Resting (λ n a b. tt)

      blank1 : Blank i m v (r + size)
      blank1 = blank_of (Bump r) kv

      same_link : m1 (BlockWord r) ≡ m (BlockWord r)
      same_link = write_else m (RoomCounter v) (r + size) (BlockWord r) (λ e. cc)

      counter : m1 (RoomCounter v) ≡ r + size
      counter = write_here m (RoomCounter v) (r + size)

      stored : m1 (RoomCounter v) ≡ r + (link_at (m1 (BlockWord r))).size
      stored = counter ∙ sym (ap (λ (w : ℕ). r + (link_at w).size) same_link)

      settled1 : m1 ≡ settled i m v roof
      settled1 = raised_settled i m v (r + size) blank1 ∙ ap (settled i m v) (sym (ap (ceiling i m v) kv))

      blank2 : Blank i m1 v (m1 (RoomCounter v))
      blank2 o lt = write_else m (RoomCounter v) (r + size) (BlockWord (m1 (RoomCounter v) + o)) (λ e. cc) ∙ ap (λ (b : ℕ). m (BlockWord (b + o))) counter ∙ blank1 o (subst (λ (b : ℕ). b + o < end_of i v) counter lt)

      rests_twice : put raised.doing v Resting ≡ put s.doing v Resting
      rests_twice = put_twice s.doing v Resting Resting

      bump_case : (l : LinkKind) → (link_at (m (BlockWord r))).kind ≡ l → (k : RestartKind) → OpensAs r l k → Done k
      bump_case (Called g y) le k e =
          let w = installs raised v (Run r 0) in
          let lw : IsKept i root input w t = call_installs i fair root input raised t law1 v there (others_keep i fair root input raised t law1 v) r kv g y (ap (λ (w : ℕ). (link_at w).kind) same_link ∙ le) stored in
          let at_ = installed w (Run r 0) refl rests_twice in
          subst Done (sym e) (to_inherited w (Run r 0) settled1 at_.0 at_.1 (run_over w lw r 0 at_.2 at_.3 at_.4 blank2))
      bump_case (Forked g y) le k e =
          let w = installs raised v (Push1 r) in
          let lw : IsKept i root input w t = fork_installs i fair root input raised t law1 v there (others_keep i fair root input raised t law1 v) r kv g y (ap (λ (w : ℕ). (link_at w).kind) same_link ∙ le) stored in
          let at_ = installed w (Push1 r) refl rests_twice in
          subst Done (sym e) (to_inherited w (Push1 r) settled1 at_.0 at_.1
          (hand_over i fair root input v p ne t w lw (Push1 r) at_.2 at_.3 at_.4 (λ q. refl) blank2 (idle_free_words w lw at_.4) refl (inl refl)))
      bump_case Root le k e = absurd e
      bump_case (Branch d q) le k e = absurd e

    by_kind : (closed : RestartKind) → s.kind v ≡ closed → (k : RestartKind) → GoesOnAs s t v closed k → Done k
    by_kind (Run f y) kv k e = subst Done (sym e) (run_case f y kv)
    by_kind (Bump r) kv k e = bump_case r kv (link_at (m (BlockWord r))).kind refl k e
    by_kind (Push1 r) kv k e = subst Done (sym e) (plain_case (Push1 r) kv (λ q. refl) (blank_of (Push1 r) kv) (λ b. b) refl (inl refl))
    by_kind (Push2 r) kv k e = push2_case r kv k e
    by_kind (Unwind f) kv k e = subst Done (sym e) (plain_case (Unwind f) kv (λ q. refl) (blank_of (Unwind f) kv) (λ b. b) refl (inl refl))
    by_kind (Arrive r d) kv k e = subst Done (sym e) (plain_case (Arrive r d) kv (λ q. refl) (blank_of (Arrive r d) kv) (λ b. b) refl (order_case r d))
    by_kind (Join r d) kv k e = subst Done (sym e) (plain_case (Join r d) kv (λ q. refl) (blank_of (Join r d) kv) (λ b. b) refl (order_case r d))
    by_kind Pop1 kv k e = absurd e
    by_kind (Pop2 r) kv k e = absurd e
    by_kind Seek kv k e = absurd e
    by_kind (Steal w x) kv k e = absurd e
    by_kind (Check w x) kv k e = absurd e
    by_kind (Take w x) kv k e = absurd e
    by_kind (Take2 w) kv k e = absurd e

pub heirs_keep : HeirsKeep
heirs_keep i fair root input s t law v p there here idle rests k goes =
    by_kind i fair root input s t law v p there idle rests (λ e. not_idle s t v (s.kind v) k (subst (λ (q : ℕ). IsIdle (s.kind q)) e idle) goes) (s.kind v) refl k goes
