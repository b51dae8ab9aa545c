-- Framing: a word of no frame of the tree changes nothing of it, and a step of one part is one of
-- the whole.
use Rattle.std.proofs.Common.{◌≡◌, ◌⊎◌, ◌≤◌, ◌<◌, ℕ, zero, suc, ◌+◌, ◌==◌, leb, ltb, cond, true, false, inl, inr, refl, sym, ap, ap₂, ◌∙◌, subst, subst₂, arith, Option, None}
use Rattle.std.proofs.Math.Path.{fun_ext}
use Rattle.std.proofs.lemmas.Bool.{cases_Bool, cases_lt, cond-false, cond-true, eq-eqb, eqb-true, le-leb, lt-ltb, leb-true, ltb-true}
use Rattle.ppm_strands.specs.Tree.{Words, Tree, Strand, Call, Fork, Code}
use Rattle.ppm_strands.specs.Tree as tree
use Rattle.ppm_strands.specs.Run.{Counts}
use Rattle.ppm_strands.specs.Ahead.{Step, UnderCall, InLeft, InRight}
use Rattle.ppm_cells.specs.Finish.{finish_of}
use Rattle.ppm_cells.specs.declared.cell.Cell.{Cell}
use Rattle.ppm_cells.specs.declared.cell.Cell.TheVariants.{BlockWord}
use Rattle.ppm_cells.specs.declared.link.LinkKind.{LinkKind}
use Rattle.ppm_cells.specs.declared.link.LinkKind.TheVariants.{Root, Call as Called, Branch, Fork as Forked}
use Rattle.ppm_cells.specs.declared.side.Side.{Side}
use Rattle.ppm_cells.specs.declared.side.Side.TheVariants.{Left, Right}
use Rattle.ppm_strands.specs.Strand.{Frame}
use Rattle.ppm_code.specs.Sizes.{value_at, slot_at}
use Rattle.ppm_code.specs.Strands.{Point, Result}
use Rattle.ppm_code.specs.declared.location.FrameWord.{FrameWord}
use Rattle.ppm_code.specs.declared.location.FrameWord.TheVariants.{Slot, Value}
use Rattle.ppm_frames.specs.Seen.{own_at}
use Rattle.ppm_frames.specs.Skeletons.{Stand, Begins, Over, Arrives, InPlace, Fresh, Waiting, Held, Came, Inlined, Skeleton, Leaf, Calling, Forking, header, top, named, target_at, frame_at, arrival, result_by, result_at, leaf_of, tree_at, inside, hung, count, plain, at, holds, grow, back, over_left, Around, Top, AtCall, AtLeft, AtRight, plug, hook_at, rim, plain_rim, at_rim}
use Rattle.ppm_frames.specs.Laws.{Same}
use Rattle.ppm_frames.proofs.SeenLemmas.{choice}

pub inside_is : (f n j : ℕ) → j < n → inside f n (f + j) ≡ 1
inside_is f n j lt = cond-true (leb f (f + j)) _ _ (le-leb f (f + j) (omega arith)) ∙ cond-true (ltb (f + j) (f + n)) _ _ (lt-ltb (f + j) (f + n) (omega (arith, lt)))

-- an address inside is between
pub inside_from : (f n x : ℕ) → (inside f n x ≡ 0 → ⊥) → (f ≤ x) × (x < f + n)
inside_from f n x ne = elim (cases_Bool (leb f x)) [
  | inl e ↦ elim (cases_Bool (ltb x (f + n))) [
    | inl d ↦ (leb-true f x e, ltb-true x (f + n) d)
    | inr d ↦ absurd (ne (cond-true (leb f x) _ _ e ∙ cond-false (ltb x (f + n)) _ _ d))
  ]
  | inr e ↦ absurd (ne (cond-false (leb f x) _ _ e))
]

pub inside_one : (f n x : ℕ) → inside f n x ≤ 1
inside_one f n x = elim (cases_Bool (leb f x)) [
  | inl e ↦ elim (cases_Bool (ltb x (f + n))) [
    | inl d ↦ let z = cond-true (leb f x) (cond {A = ℕ} (ltb x (f + n)) 1 0) 0 e ∙ cond-true {A = ℕ} (ltb x (f + n)) 1 0 d in omega (arith, z)
    | inr d ↦ let z = cond-true (leb f x) (cond {A = ℕ} (ltb x (f + n)) 1 0) 0 e ∙ cond-false {A = ℕ} (ltb x (f + n)) 1 0 d in omega (arith, z)
  ]
  | inr e ↦ let z = cond-false (leb f x) (cond {A = ℕ} (ltb x (f + n)) 1 0) 0 e in omega (arith, z)
]

-- a word by its place in the addresses
pub same_at : (c : ℕ → ℕ) (m n : Cell → ℕ) → Same c m n → (x : ℕ) → 1 ≤ c x → n (BlockWord x) ≡ m (BlockWord x)
same_at c m n s x le = s x (λ z. omega (arith, z, le))

pub inside_at : (f n x j : ℕ) → x ≡ f + j → j < n → 1 ≤ inside f n x
inside_at f n x j e lt = subst (λ (z : ℕ). 1 ≤ inside f n z) (sym e) (subst (λ (z : ℕ). 1 ≤ z) (sym (inside_is f n j lt)) (omega arith))

header_in : (f l y : ℕ) → 1 ≤ inside f (6 + l) (header f y)
header_in f l zero = inside_at f (6 + l) (f + 2) 2 refl (omega arith)
header_in f l (suc y) = inside_at f (6 + l) (f + 3) 3 refl (omega arith)

module _ (m n : Cell → ℕ) where
  -- the words of a frame
  pub record SameFrame (f l : ℕ) : Type 0 where
    pub header : (y : ℕ) → n (BlockWord (header f y)) ≡ m (BlockWord (header f y))
    pub link : n (BlockWord f) ≡ m (BlockWord f)
    pub outcome : n (BlockWord (f + 1)) ≡ m (BlockWord (f + 1))
    pub value : n (BlockWord (f + value_at)) ≡ m (BlockWord (f + value_at))
    pub target : n (BlockWord (f + 5)) ≡ m (BlockWord (f + 5))
    pub slots : (j : ℕ) → j < l → n (BlockWord (f + slot_at j)) ≡ m (BlockWord (f + slot_at j))

  pub same_frame : (c : ℕ → ℕ) (f l : ℕ) → ((x : ℕ) → inside f (6 + l) x ≤ c x) → Same c m n → SameFrame f l
  same_frame c f l le s =
      let word : (j : ℕ) → j < 6 + l → n (BlockWord (f + j)) ≡ m (BlockWord (f + j)) = λ j lt. same_at c m n s (f + j) (let i = inside_at f (6 + l) (f + j) j refl lt in omega (arith, i, le (f + j))) in
      record {
        header = λ y. same_at c m n s (header f y) (let i = header_in f l y in omega (arith, i, le (header f y)));
        link = same_at c m n s f (let i = inside_at f (6 + l) f 0 (omega arith) (omega arith) in omega (arith, i, le f));
        outcome = word 1 (omega arith);
        value = word 4 (omega arith);
        target = word 5 (omega arith);
        slots = λ j lt. word (slot_at j) (omega (arith, lt));
      }

  pub own_same : (f l : ℕ) → SameFrame f l → own_at n f l ≡ own_at m f l
  own_same f l s = fun_ext by
    where
      by : (w : FrameWord) → own_at n f l w ≡ own_at m f l w
      by (Slot j) = choice j l _ _ (λ lt. s.slots j lt)
      by Value = s.value

  pub frame_path : {own own' : FrameWord → ℕ} {k k' : ℕ} {a a' b b' : Option ℕ} → own ≡ own' → k ≡ k' → a ≡ a' → b ≡ b'
      → ◌≡◌ {A = Frame FrameWord Point} (record { own = own; point = record { capsule = k; left_to = a; to = b } }) (record { own = own'; point = record { capsule = k'; left_to = a'; to = b' } })
  frame_path p q r s = λ i. record { own = p i; point = record { capsule = q i; left_to = r i; to = s i } }

  pub frame_same : (f l y : ℕ) (a a' b b' : Option ℕ) → SameFrame f l → a' ≡ a → b' ≡ b → frame_at n f l y a' b' ≡ frame_at m f l y a b
  frame_same f l y a a' b b' s left to = frame_path (own_same f l s) (s.header y) left to

  arrival_same : (h : LinkKind) → ((x : ℕ) → 1 ≤ hung h x → n (BlockWord x) ≡ m (BlockWord x)) → arrival n h ≡ arrival m h
  arrival_same (Branch Left r) s = s (r + 2) (inside_at (r + 2) 1 (r + 2) 0 (omega arith) (omega arith))
  arrival_same (Branch Right r) s = s (r + 3) (inside_at (r + 3) 1 (r + 3) 0 (omega arith) (omega arith))
  arrival_same Root s = refl
  arrival_same (Called f y) s = refl
  arrival_same (Forked f y) s = refl

  pub hung_same : (c : ℕ → ℕ) (h : LinkKind) → ((x : ℕ) → hung h x ≤ c x) → Same c m n → arrival n h ≡ arrival m h
  hung_same c h le s = arrival_same h (λ x one. same_at c m n s x (omega (arith, one, le x)))

  pub result_same : (f l o o' : ℕ) → SameFrame f l → o' ≡ o → result_at n f o' ≡ result_at m f o
  result_same f l o o' s e = ap₂ (λ (v w : ℕ). result_by v (finish_of w)) s.value e

  pub leaf_same : (h : LinkKind) (st : Stand) (f l : ℕ) → SameFrame f l → arrival n h ≡ arrival m h → leaf_of n h st f l ≡ leaf_of m h st f l
  leaf_same h (Begins y) f l s a = ap tree.Strand (frame_same f l y None None None None s refl refl)
  leaf_same h Over f l s a = ap tree.Over (result_same f l _ _ s s.outcome)
  leaf_same h Arrives f l s a = ap tree.Over (result_same f l _ _ s a)

  sub : (c d : ℕ → ℕ) → ((x : ℕ) → d x ≤ c x) → Same c m n → Same d m n
  sub c d le s x ne = s x (λ z. ne (omega (arith, le x, z)))

  -- two parts that aim at one slot of what they hang on
  pub record Aim (u v : Skeleton) : Type 0 where
    pub head : top v ≡ top u
    pub aim : n (BlockWord (top u + 5)) ≡ m (BlockWord (top u + 5))

  pub top_frame : (h : LinkKind) (t : Skeleton) → Same (count h t) m n → n (BlockWord (top t + 5)) ≡ m (BlockWord (top t + 5))
  top_frame h (Leaf w st f l) s = (same_frame (count h (Leaf w st f l)) f l (λ x. omega arith) s).target
  top_frame h (Calling f l y t) s = (same_frame (count h (Calling f l y t)) f l (λ x. omega arith) s).target
  top_frame h (Forking f l y r a b) s = (same_frame (count h (Forking f l y r a b)) f l (λ x. omega arith) s).target

  pub aim_same : (h : LinkKind) (t : Skeleton) → Same (count h t) m n → Aim t t
  aim_same h t s = record { head = refl; aim = top_frame h t s }

  pub aim_plug : (h : LinkKind) (c : Around) (u v : Skeleton) → Same (rim h c) m n → Aim u v → Aim (plug c u) (plug c v)
  aim_plug h Top u v s a = a
  aim_plug h (AtCall f l y c) u v s a = record { head = refl; aim = (same_frame (rim h (AtCall f l y c)) f l (λ x. omega arith) s).target }
  aim_plug h (AtLeft f l y r c b) u v s a = record { head = refl; aim = (same_frame (rim h (AtLeft f l y r c b)) f l (λ x. omega arith) s).target }
  aim_plug h (AtRight f l y r b c) u v s a = record { head = refl; aim = (same_frame (rim h (AtRight f l y r b c)) f l (λ x. omega arith) s).target }

  pub target_same : (u v : Skeleton) → Aim u v → target_at n (top v) ≡ target_at m (top u)
  target_same u v a = ap named (ap (λ (z : ℕ). n (BlockWord (z + 5))) a.head ∙ a.aim)

  -- a tree whose words are the same is the same
  pub tree_same : (h : LinkKind) (t : Skeleton) → Same (count h t) m n → tree_at n h t ≡ tree_at m h t
  tree_same h (Leaf w st f l) s =
      leaf_same h st f l (same_frame (count h (Leaf w st f l)) f l (λ x. omega arith) s) (hung_same (count h (Leaf w st f l)) h (λ x. omega arith) s)
  tree_same h (Calling f l y t) s =
      let below = sub (count h (Calling f l y t)) (count (Called f y) t) (λ x. omega arith) s in
      ap₂ (λ (g : Frame FrameWord Point) (u : Tree (Frame FrameWord Point) Result). Call g u)
      (frame_same f l y None None (target_at m (top t)) (target_at n (top t)) (same_frame (count h (Calling f l y t)) f l (λ x. omega arith) s) refl (target_same t t (aim_same (Called f y) t below)))
      (tree_same (Called f y) t below)
  tree_same h (Forking f l y r a b) s =
      let left = sub (count h (Forking f l y r a b)) (count (Branch Left r) a) (λ x. omega arith) s in
      let right = sub (count h (Forking f l y r a b)) (count (Branch Right r) b) (λ x. omega arith) s in
      ap₂ (λ (u v : Tree (Frame FrameWord Point) Result). Fork (frame_at n f l y (target_at n (top a)) (target_at n (top b))) u v) (tree_same (Branch Left r) a left) (tree_same (Branch Right r) b right)
      ∙ ap (λ (g : Frame FrameWord Point). Fork g (tree_at m (Branch Left r) a) (tree_at m (Branch Right r) b))
      (frame_same f l y (target_at m (top a)) (target_at n (top a)) (target_at m (top b)) (target_at n (top b)) (same_frame (count h (Forking f l y r a b)) f l (λ x. omega arith) s)
      (target_same a a (aim_same (Branch Left r) a left)) (target_same b b (aim_same (Branch Right r) b right)))

  abbrev T : Type 0
  T = Tree (Frame FrameWord Point) Result

  abbrev F : Type 0
  F = Frame FrameWord Point

  -- a step of a part is a step of the whole, if no word around it changes
  pub step_in : (c : Code (Frame FrameWord Point) Result) (k : Counts) (a b : Words) (h : LinkKind) (around : Around) (u v : Skeleton) → Same (rim h around) m n → Aim u v
      → Step c k (tree_at m (hook_at h around) u) a (tree_at n (hook_at h around) v) b
      → Step c k (tree_at m h (plug around u)) a (tree_at n h (plug around v)) b
  step_in c k a b h Top u v s aim step = step
  step_in c k a b h (AtCall f l y around) u v s aim step =
      let in_ = sub (rim h (AtCall f l y around)) (rim (Called f y) around) (λ x. omega arith) s in
      subst (λ (g : F). Step c k (tree_at m h (plug (AtCall f l y around) u)) a (Call g (tree_at n (Called f y) (plug around v))) b)
      (sym (frame_same f l y None None (target_at m (top (plug around u))) (target_at n (top (plug around v))) (same_frame (rim h (AtCall f l y around)) f l (λ x. omega arith) s) refl
      (target_same (plug around u) (plug around v) (aim_plug (Called f y) around u v in_ aim))))
      (UnderCall (frame_at m f l y None (target_at m (top (plug around u)))) (step_in c k a b (Called f y) around u v in_ aim step))
  step_in c k a b h (AtLeft f l y r around r') u v s aim step =
      let in_ = sub (rim h (AtLeft f l y r around r')) (rim (Branch Left r) around) (λ x. omega arith) s in
      let beside = sub (rim h (AtLeft f l y r around r')) (count (Branch Right r) r') (λ x. omega arith) s in
      subst₂ (λ (g : F) (z : T). Step c k (tree_at m h (plug (AtLeft f l y r around r') u)) a (Fork g (tree_at n (Branch Left r) (plug around v)) z) b)
      (sym (frame_same f l y (target_at m (top (plug around u))) (target_at n (top (plug around v))) (target_at m (top r')) (target_at n (top r'))
      (same_frame (rim h (AtLeft f l y r around r')) f l (λ x. omega arith) s)
      (target_same (plug around u) (plug around v) (aim_plug (Branch Left r) around u v in_ aim)) (target_same r' r' (aim_same (Branch Right r) r' beside))))
      (sym (tree_same (Branch Right r) r' beside))
      (InLeft (frame_at m f l y (target_at m (top (plug around u))) (target_at m (top r'))) (tree_at m (Branch Right r) r') (step_in c k a b (Branch Left r) around u v in_ aim step))
  step_in c k a b h (AtRight f l y r l' around) u v s aim step =
      let in_ = sub (rim h (AtRight f l y r l' around)) (rim (Branch Right r) around) (λ x. omega arith) s in
      let beside = sub (rim h (AtRight f l y r l' around)) (count (Branch Left r) l') (λ x. omega arith) s in
      subst₂ (λ (g : F) (z : T). Step c k (tree_at m h (plug (AtRight f l y r l' around) u)) a (Fork g z (tree_at n (Branch Right r) (plug around v))) b)
      (sym (frame_same f l y (target_at m (top l')) (target_at n (top l')) (target_at m (top (plug around u))) (target_at n (top (plug around v)))
      (same_frame (rim h (AtRight f l y r l' around)) f l (λ x. omega arith) s)
      (target_same l' l' (aim_same (Branch Left r) l' beside)) (target_same (plug around u) (plug around v) (aim_plug (Branch Right r) around u v in_ aim))))
      (sym (tree_same (Branch Left r) l' beside))
      (InRight (frame_at m f l y (target_at m (top l')) (target_at m (top (plug around u)))) (tree_at m (Branch Left r) l') (step_in c k a b (Branch Right r) around u v in_ aim step))

  -- a part that is the same leaves the whole the same
  pub tree_in : (h : LinkKind) (around : Around) (u v : Skeleton) → Same (rim h around) m n → Aim u v → tree_at n (hook_at h around) v ≡ tree_at m (hook_at h around) u
      → tree_at n h (plug around v) ≡ tree_at m h (plug around u)
  tree_in h Top u v s aim e = e
  tree_in h (AtCall f l y around) u v s aim e =
      let in_ = sub (rim h (AtCall f l y around)) (rim (Called f y) around) (λ x. omega arith) s in
      ap₂ (λ (g : F) (z : T). Call g z)
      (frame_same f l y None None (target_at m (top (plug around u))) (target_at n (top (plug around v))) (same_frame (rim h (AtCall f l y around)) f l (λ x. omega arith) s) refl
      (target_same (plug around u) (plug around v) (aim_plug (Called f y) around u v in_ aim)))
      (tree_in (Called f y) around u v in_ aim e)
  tree_in h (AtLeft f l y r around b) u v s aim e =
      let in_ = sub (rim h (AtLeft f l y r around b)) (rim (Branch Left r) around) (λ x. omega arith) s in
      let beside = sub (rim h (AtLeft f l y r around b)) (count (Branch Right r) b) (λ x. omega arith) s in
      ap₂ (λ (w z : T). Fork (frame_at n f l y (target_at n (top (plug around v))) (target_at n (top b))) w z) (tree_in (Branch Left r) around u v in_ aim e) (tree_same (Branch Right r) b beside)
      ∙ ap (λ (g : F). Fork g (tree_at m (Branch Left r) (plug around u)) (tree_at m (Branch Right r) b))
      (frame_same f l y (target_at m (top (plug around u))) (target_at n (top (plug around v))) (target_at m (top b)) (target_at n (top b))
      (same_frame (rim h (AtLeft f l y r around b)) f l (λ x. omega arith) s)
      (target_same (plug around u) (plug around v) (aim_plug (Branch Left r) around u v in_ aim)) (target_same b b (aim_same (Branch Right r) b beside)))
  tree_in h (AtRight f l y r a around) u v s aim e =
      let in_ = sub (rim h (AtRight f l y r a around)) (rim (Branch Right r) around) (λ x. omega arith) s in
      let beside = sub (rim h (AtRight f l y r a around)) (count (Branch Left r) a) (λ x. omega arith) s in
      ap₂ (λ (w z : T). Fork (frame_at n f l y (target_at n (top a)) (target_at n (top (plug around v)))) w z) (tree_same (Branch Left r) a beside) (tree_in (Branch Right r) around u v in_ aim e)
      ∙ ap (λ (g : F). Fork g (tree_at m (Branch Left r) a) (tree_at m (Branch Right r) (plug around u)))
      (frame_same f l y (target_at m (top a)) (target_at n (top a)) (target_at m (top (plug around u))) (target_at n (top (plug around v)))
      (same_frame (rim h (AtRight f l y r a around)) f l (λ x. omega arith) s)
      (target_same a a (aim_same (Branch Left r) a beside)) (target_same (plug around u) (plug around v) (aim_plug (Branch Right r) around u v in_ aim)))

-- addresses and places of a part and of what is around it
pub count_plug : (h : LinkKind) (c : Around) (u : Skeleton) (x : ℕ) → count h (plug c u) x ≡ rim h c x + count (hook_at h c) u x
count_plug h Top u x = omega arith
count_plug h (AtCall f n y c) u x = let e = count_plug (Called f y) c u x in omega (arith, e)
count_plug h (AtLeft f n y r c b) u x = let e = count_plug (Branch Left r) c u x in omega (arith, e)
count_plug h (AtRight f n y r a c) u x = let e = count_plug (Branch Right r) c u x in omega (arith, e)

pub plain_plug : (h : LinkKind) (c : Around) (u : Skeleton) (x : ℕ) → plain h (plug c u) x ≡ plain_rim h c x + plain (hook_at h c) u x
plain_plug h Top u x = omega arith
plain_plug h (AtCall f n y c) u x = let e = plain_plug (Called f y) c u x in omega (arith, e)
plain_plug h (AtLeft f n y r c b) u x = let e = plain_plug (Branch Left r) c u x in omega (arith, e)
plain_plug h (AtRight f n y r a c) u x = let e = plain_plug (Branch Right r) c u x in omega (arith, e)

pub plain_count : (h : LinkKind) (t : Skeleton) (x : ℕ) → plain h t x ≤ count h t x
plain_count h (Leaf w st f n) x = omega arith
plain_count h (Calling f n y t) x = let e = plain_count (Called f y) t x in omega (arith, e)
plain_count h (Forking f n y r a b) x = let e = plain_count (Branch Left r) a x in let k = plain_count (Branch Right r) b x in omega (arith, e, k)

pub plain_rim_rim : (h : LinkKind) (c : Around) (x : ℕ) → plain_rim h c x ≤ rim h c x
plain_rim_rim h Top x = omega arith
plain_rim_rim h (AtCall f n y c) x = let e = plain_rim_rim (Called f y) c x in omega (arith, e)
plain_rim_rim h (AtLeft f n y r c b) x = let e = plain_rim_rim (Branch Left r) c x in let k = plain_count (Branch Right r) b x in omega (arith, e, k)
plain_rim_rim h (AtRight f n y r a c) x = let e = plain_rim_rim (Branch Right r) c x in let k = plain_count (Branch Left r) a x in omega (arith, e, k)

-- an order word is no plain word
pub order_lacks : (h : LinkKind) (c : Around) (f n y r : ℕ) (a b : Skeleton) (x : ℕ) → plain h (plug c (Forking f n y r a b)) x + inside (r + 1) 1 x ≤ count h (plug c (Forking f n y r a b)) x
order_lacks h c f n y r a b x =
    let p = plain_plug h c (Forking f n y r a b) x in let k = count_plug h c (Forking f n y r a b) x in let e = plain_rim_rim h c x in
    let l = plain_count (Branch Left r) a x in let m = plain_count (Branch Right r) b x in omega (arith, p, k, e, l, m)

pub at_plug : (p : ℕ) (c : Around) (u : Skeleton) → at p (plug c u) ≡ at_rim p c + at p u
at_plug p Top u = omega arith
at_plug p (AtCall f n y c) u = at_plug p c u
at_plug p (AtLeft f n y r c b) u = let e = at_plug p c u in omega (arith, e)
at_plug p (AtRight f n y r a c) u = let e = at_plug p c u in omega (arith, e)

is_here : (p : ℕ) → (p == p) ≡ true
is_here p = eq-eqb p p refl

-- where a place has no leaf nothing grows
grow_else : (p : ℕ) (u : Stand → ℕ → ℕ → Skeleton) (t : Skeleton) → at p t ≡ 0 → grow p u t ≡ t
grow_else p u (Leaf (InPlace q) st f n) z = elim (cases_Bool (q == p)) [ inl e ↦ absurd (let one = cond-true {A = ℕ} (q == p) 1 0 e in omega (arith, one, z)) | inr e ↦ cond-false (q == p) _ _ e ]
grow_else p u (Leaf Waiting st f n) z = refl
grow_else p u (Leaf Fresh st f n) z = refl
grow_else p u (Leaf Held st f n) z = refl
grow_else p u (Leaf Inlined st f n) z = refl
grow_else p u (Leaf Came st f n) z = refl
grow_else p u (Calling f n y t) z = ap (λ (s : Skeleton). Calling f n y s) (grow_else p u t z)
grow_else p u (Forking f n y r a b) z = ap₂ (λ (s t : Skeleton). Forking f n y r s t) (grow_else p u a (omega (arith, z))) (grow_else p u b (omega (arith, z)))

pub grow_plug : (p : ℕ) (u : Stand → ℕ → ℕ → Skeleton) (c : Around) (st : Stand) (f n : ℕ) → at_rim p c ≡ 0 → grow p u (plug c (Leaf (InPlace p) st f n)) ≡ plug c (u st f n)
grow_plug p u Top st f n z = cond-true (p == p) _ _ (is_here p)
grow_plug p u (AtCall g l y c) st f n z = ap (λ (s : Skeleton). Calling g l y s) (grow_plug p u c st f n z)
grow_plug p u (AtLeft g l y r c b) st f n z = ap₂ (λ (s t : Skeleton). Forking g l y r s t) (grow_plug p u c st f n (omega (arith, z))) (grow_else p u b (omega (arith, z)))
grow_plug p u (AtRight g l y r a c) st f n z = ap₂ (λ (s t : Skeleton). Forking g l y r s t) (grow_else p u a (omega (arith, z))) (grow_plug p u c st f n (omega (arith, z)))

pub holds_at : (p : ℕ) (t : Skeleton) → at p t ≡ 0 → holds p t ≡ false
holds_at p (Leaf (InPlace q) st f n) z = elim (cases_Bool (q == p)) [ inl e ↦ absurd (let one = cond-true {A = ℕ} (q == p) 1 0 e in omega (arith, one, z)) | inr e ↦ e ]
holds_at p (Leaf Waiting st f n) z = refl
holds_at p (Leaf Fresh st f n) z = refl
holds_at p (Leaf Held st f n) z = refl
holds_at p (Leaf Inlined st f n) z = refl
holds_at p (Leaf Came st f n) z = refl
holds_at p (Calling f n y t) z = refl
holds_at p (Forking f n y r a b) z = refl

back_else : (p : ℕ) (k : ℕ → Stand) (t : Skeleton) → at p t ≡ 0 → back p k t ≡ t
back_else p k (Leaf w st f n) z = refl
back_else p k (Calling f n y t) z = cond-false (holds p t) _ _ (holds_at p t z) ∙ ap (λ (s : Skeleton). Calling f n y s) (back_else p k t z)
back_else p k (Forking f n y r a b) z = ap₂ (λ (s t : Skeleton). Forking f n y r s t) (back_else p k a (omega (arith, z))) (back_else p k b (omega (arith, z)))

pub back_plug : (p : ℕ) (k : ℕ → Stand) (c : Around) (g l y : ℕ) (st : Stand) (f n : ℕ) → at_rim p c ≡ 0
    → back p k (plug c (Calling g l y (Leaf (InPlace p) st f n))) ≡ plug c (Leaf (InPlace p) (k y) g l)
back_plug p k Top g l y st f n z = cond-true (p == p) _ _ (is_here p)
back_plug p k (AtCall g' l' y' c) g l y st f n z = cond-false (holds p (plug c (Calling g l y (Leaf (InPlace p) st f n)))) _ _ (no_leaf c) ∙ ap (λ (s : Skeleton). Calling g' l' y' s) (back_plug p k c g l y st f n z)
  where
    no_leaf : (c : Around) → holds p (plug c (Calling g l y (Leaf (InPlace p) st f n))) ≡ false
    no_leaf Top = refl
    no_leaf (AtCall _ _ _ c) = refl
    no_leaf (AtLeft _ _ _ _ c b) = refl
    no_leaf (AtRight _ _ _ _ a c) = refl
back_plug p k (AtLeft g' l' y' r c b) g l y st f n z = ap₂ (λ (s t : Skeleton). Forking g' l' y' r s t) (back_plug p k c g l y st f n (omega (arith, z))) (back_else p k b (omega (arith, z)))
back_plug p k (AtRight g' l' y' r a c) g l y st f n z = ap₂ (λ (s t : Skeleton). Forking g' l' y' r s t) (back_else p k a (omega (arith, z))) (back_plug p k c g l y st f n (omega (arith, z)))

over_else : (p : ℕ) (e : (f n y r : ℕ) → Skeleton → Skeleton → Skeleton) (t : Skeleton) → at p t ≡ 0 → over_left p e t ≡ t
over_else p e (Leaf w st f n) z = refl
over_else p e (Calling f n y t) z = ap (λ (s : Skeleton). Calling f n y s) (over_else p e t z)
over_else p e (Forking f n y r a b) z = cond-false (holds p a) _ _ (holds_at p a (omega (arith, z)))
    ∙ ap₂ (λ (s t : Skeleton). Forking f n y r s t) (over_else p e a (omega (arith, z))) (over_else p e b (omega (arith, z)))

pub over_plug : (p : ℕ) (e : (f n y r : ℕ) → Skeleton → Skeleton → Skeleton) (c : Around) (g l y r : ℕ) (st : Stand) (f n : ℕ) (b : Skeleton) → at_rim p c ≡ 0
    → over_left p e (plug c (Forking g l y r (Leaf (InPlace p) st f n) b)) ≡ plug c (e g l y r (Leaf (InPlace p) st f n) b)
over_plug p e c g l y r st f n b z = by c z
  where
    u : Skeleton
    u = Forking g l y r (Leaf (InPlace p) st f n) b

    no_leaf : (c : Around) → holds p (plug c u) ≡ false
    no_leaf Top = refl
    no_leaf (AtCall _ _ _ c) = refl
    no_leaf (AtLeft _ _ _ _ c b) = refl
    no_leaf (AtRight _ _ _ _ a c) = refl

    by : (c : Around) → at_rim p c ≡ 0 → over_left p e (plug c u) ≡ plug c (e g l y r (Leaf (InPlace p) st f n) b)
    by Top z = cond-true (p == p) _ _ (is_here p)
    by (AtCall f' n' w c) z = ap (λ (s : Skeleton). Calling f' n' w s) (by c z)
    by (AtLeft f' n' w q c d) z = cond-false (holds p (plug c u)) _ _ (no_leaf c) ∙ ap₂ (λ (s t : Skeleton). Forking f' n' w q s t) (by c (omega (arith, z))) (over_else p e d (omega (arith, z)))
    by (AtRight f' n' w q d c) z = cond-false (holds p d) _ _ (holds_at p d (omega (arith, z))) ∙ ap₂ (λ (s t : Skeleton). Forking f' n' w q s t) (over_else p e d (omega (arith, z))) (by c (omega (arith, z)))

-- a leaf with what is around it
pub record Found (p : ℕ) (t : Skeleton) : Type 0 where
  pub around : Around
  pub stand : Stand
  pub frame : ℕ
  pub slots : ℕ
  pub is : t ≡ plug around (Leaf (InPlace p) stand frame slots)

pub find : (p : ℕ) (t : Skeleton) → 1 ≤ at p t → Found p t
find p (Leaf (InPlace q) st f n) one = elim (cases_Bool (q == p)) [
  | inl e ↦ record { around = Top; stand = st; frame = f; slots = n; is = ap (λ (z : ℕ). Leaf (InPlace z) st f n) (eqb-true q p e) }
  | inr e ↦ absurd (let no = cond-false {A = ℕ} (q == p) 1 0 e in omega (arith, no, one))
]
find p (Leaf Waiting st f n) one = absurd (omega (arith, one))
find p (Leaf Fresh st f n) one = absurd (omega (arith, one))
find p (Leaf Held st f n) one = absurd (omega (arith, one))
find p (Leaf Inlined st f n) one = absurd (omega (arith, one))
find p (Leaf Came st f n) one = absurd (omega (arith, one))
find p (Calling f n y t) one = let r = find p t one in
    record { around = AtCall f n y r.around; stand = r.stand; frame = r.frame; slots = r.slots; is = ap (λ (s : Skeleton). Calling f n y s) r.is }
find p (Forking f n y r a b) one = elim (cases_lt 0 (at p a)) [
  | inl lt ↦ let s = find p a (omega (arith, lt)) in
      record { around = AtLeft f n y r s.around b; stand = s.stand; frame = s.frame; slots = s.slots; is = ap (λ (z : Skeleton). Forking f n y r z b) s.is }
  | inr le ↦ let s = find p b (omega (arith, le, one)) in
      record { around = AtRight f n y r a s.around; stand = s.stand; frame = s.frame; slots = s.slots; is = ap (λ (z : Skeleton). Forking f n y r a z) s.is }
]

-- the frame that a part hangs on, where that is by a call
pub record CalledFrom (h : LinkKind) (c : Around) (g y : ℕ) : Type 0 where
  pub around : Around
  pub slots : ℕ
  pub is : (u : Skeleton) → plug c u ≡ plug around (Calling g slots y u)
  pub places : (p : ℕ) → at_rim p around ≡ at_rim p c

pub called_from : (h : LinkKind) (c : Around) (g y : ℕ) → hook_at h c ≡ Called g y → ((h ≡ Called g y) × (c ≡ Top)) ⊎ CalledFrom h c g y
called_from h Top g y e = inl (e, refl)
called_from h (AtCall f n z c) g y e = inr (elim (called_from (Called f z) c g y e) [
  | inl o ↦ let fe : f ≡ g = ap frame_of o.0 in let ze : z ≡ y = ap copy_of o.0 in
      record { around = Top; slots = n; is = λ u. ap (λ (d : Around). Calling f n z (plug d u)) o.1 ∙ ap₂ (λ (f z : ℕ). Calling f n z u) fe ze; places = λ p. sym (ap (at_rim p) o.1) }
  | inr o ↦ record { around = AtCall f n z o.around; slots = o.slots; is = λ u. ap (λ (s : Skeleton). Calling f n z s) (o.is u); places = λ p. o.places p }
])
  where
    frame_of : LinkKind → ℕ
    frame_of (Called f y) = f
    frame_of _ = 0

    copy_of : LinkKind → ℕ
    copy_of (Called f y) = y
    copy_of _ = 0
called_from h (AtLeft f n z r c b) g y e = inr (elim (called_from (Branch Left r) c g y e) [
  | inl o ↦ absurd (cc)
  | inr o ↦ record { around = AtLeft f n z r o.around b; slots = o.slots; is = λ u. ap (λ (s : Skeleton). Forking f n z r s b) (o.is u); places = λ p. ap (λ (k : ℕ). k + at p b) (o.places p) }
])
called_from h (AtRight f n z r a c) g y e = inr (elim (called_from (Branch Right r) c g y e) [
  | inl o ↦ absurd (cc)
  | inr o ↦ record { around = AtRight f n z r a o.around; slots = o.slots; is = λ u. ap (λ (s : Skeleton). Forking f n z r a s) (o.is u); places = λ p. ap (λ (k : ℕ). at p a + k) (o.places p) }
])

abbrev pub fork_with : (f n y r : ℕ) → Side → Skeleton → Skeleton → Skeleton
fork_with f n y r Left u b = Forking f n y r u b
fork_with f n y r Right u b = Forking f n y r b u

-- the fork that a branch hangs on
pub record BranchOf (c : Around) (r : ℕ) (side : Side) : Type 0 where
  pub around : Around
  pub frame : ℕ
  pub slots : ℕ
  pub copy : ℕ
  pub beside : Skeleton
  pub is : (u : Skeleton) → plug c u ≡ plug around (fork_with frame slots copy r side u beside)
  pub places : (p : ℕ) → at_rim p around + at p beside ≡ at_rim p c

abbrev block_of : LinkKind → ℕ
block_of (Branch s r) = r
block_of _ = 0

left_not_right : (r q : ℕ) → Branch Left r ≡ Branch Right q → ⊥
left_not_right r q e = let d : Left ≡ Right = ap side_of e in cc
  where
    side_of : LinkKind → Side
    side_of (Branch s r) = s
    side_of _ = Left

pub branch_from : (h : LinkKind) (c : Around) (r : ℕ) (side : Side) → hook_at h c ≡ Branch side r → ((h ≡ Branch side r) × (c ≡ Top)) ⊎ BranchOf c r side
branch_from h Top r side e = inl (e, refl)
branch_from h (AtCall f n y c) r side e = inr (elim (branch_from (Called f y) c r side e) [
  | inl o ↦ absurd (let d = o.0 in cc)
  | inr o ↦ record { around = AtCall f n y o.around; frame = o.frame; slots = o.slots; copy = o.copy; beside = o.beside; is = λ u. ap (λ (s : Skeleton). Calling f n y s) (o.is u); places = o.places }
])
branch_from h (AtLeft f n y q c b) r Left e = inr (elim (branch_from (Branch Left q) c r Left e) [
  | inl o ↦ record {
    around = Top;
    frame = f;
    slots = n;
    copy = y;
    beside = b;
    is = λ u. ap (λ (d : Around). Forking f n y q (plug d u) b) o.1 ∙ ap (λ (z : ℕ). Forking f n y z u b) (ap block_of o.0);
    places = λ p. sym (ap (λ (d : Around). at_rim p d + at p b) o.1);
  }
  | inr o ↦ record {
    around = AtLeft f n y q o.around b;
    frame = o.frame;
    slots = o.slots;
    copy = o.copy;
    beside = o.beside;
    is = λ u. ap (λ (s : Skeleton). Forking f n y q s b) (o.is u);
    places = λ p. let e = o.places p in omega (arith, e);
  }
])
branch_from h (AtLeft f n y q c b) r Right e = inr (elim (branch_from (Branch Left q) c r Right e) [
  | inl o ↦ absurd (left_not_right q r o.0)
  | inr o ↦ record {
    around = AtLeft f n y q o.around b;
    frame = o.frame;
    slots = o.slots;
    copy = o.copy;
    beside = o.beside;
    is = λ u. ap (λ (s : Skeleton). Forking f n y q s b) (o.is u);
    places = λ p. let e = o.places p in omega (arith, e);
  }
])
branch_from h (AtRight f n y q a c) r Right e = inr (elim (branch_from (Branch Right q) c r Right e) [
  | inl o ↦ record {
    around = Top;
    frame = f;
    slots = n;
    copy = y;
    beside = a;
    is = λ u. ap (λ (d : Around). Forking f n y q a (plug d u)) o.1 ∙ ap (λ (z : ℕ). Forking f n y z a u) (ap block_of o.0);
    places = λ p. let e : at_rim p c ≡ 0 = ap (at_rim p) o.1 in omega (arith, e);
  }
  | inr o ↦ record {
    around = AtRight f n y q a o.around;
    frame = o.frame;
    slots = o.slots;
    copy = o.copy;
    beside = o.beside;
    is = λ u. ap (λ (s : Skeleton). Forking f n y q a s) (o.is u);
    places = λ p. let e = o.places p in omega (arith, e);
  }
])
branch_from h (AtRight f n y q a c) r Left e = inr (elim (branch_from (Branch Right q) c r Left e) [
  | inl o ↦ absurd (left_not_right r q (sym o.0))
  | inr o ↦ record {
    around = AtRight f n y q a o.around;
    frame = o.frame;
    slots = o.slots;
    copy = o.copy;
    beside = o.beside;
    is = λ u. ap (λ (s : Skeleton). Forking f n y q a s) (o.is u);
    places = λ p. let e = o.places p in omega (arith, e);
  }
])
