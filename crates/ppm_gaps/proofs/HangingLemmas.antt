-- What comes of a find comes by the last instruction that a path passes.
use Rattle.std.proofs.Common.{◌≡◌, ◌↔◌, ◌<◌, ◌≤◌, ℕ, zero, suc, ◌+◌, Bool, true, false, IsTrue, List, [], ◌∷◌, length, Option, Some, None, ◌⊎◌, inl, inr}
use Rattle.std.proofs.Common.{refl, sym, ap, ◌∙◌, subst, arith, nat_lt, get_or, replicate, set, bit_or}
use Rattle.std.specs.Int.{bit_at}
use Rattle.std.specs.Prelude.{slice_get}
use Rattle.std.proofs.lemmas.Bool.{ltb-true, ltb-false, cases_eq}
use Rattle.std.proofs.lemmas.List.{get_or-set_same, get_or-set_other}
use Rattle.std.proofs.lemmas.Nat.Bits.{bit_at_or, bit_at-lt, bit_at-zero}
use Rattle.std.proofs.lemmas.Option.{none-some, same_Some, slice_get_within}
use Rattle.ppm_strands.specs.Capsule.{In}
use Rattle.ppm_code.specs.Limits.{instr_limit}
use Rattle.ppm_code.specs.declared.class.May.{May}
use Rattle.ppm_code.specs.declared.class.May.TheVariants.{Branch}
use Rattle.ppm_code.specs.declared.instr.Instr.{Instr}
use Rattle.ppm_code.specs.declared.instr.Instr.TheVariants.{Const, Move, Add, Sub, Mul, Div, Rem, Equal, NotEqual, Less, AtMost, Len, CutLeft, CutRight}
use Rattle.ppm_code.specs.declared.instr.Instr.TheVariants.{LoadSlot, StoreCur, Give, Get, Put, BranchZero, BranchNonZero, Room as RoomFor, StoreNew, Ends}
use Rattle.ppm_code.specs.declared.register.Register.{Register}
use Rattle.ppm_code.specs.Paths.{may, GoesTo}
use Rattle.ppm_filled.specs.Filled.{Hangs, Finds, Takes, Stays, Parts, GoesOn, IsFind, IsHung, Mark, Word, Way, may_trap, operands_of, target_of}
use Rattle.ppm_war.proofs.ConflictLemmas.{is_false}
use Rattle.ppm_war.proofs.MarkLemmas.{goes_forward}
use Rattle.ppm_gaps.specs.declared.hanging.Hanging.{Hanging}
use Rattle.ppm_gaps.specs.Hanging.{Behind, Has, HasAt, HasBit, HasOperand, HasOperandIn, HasTrapping, IsBranch, IsInRange, IsWordBehind, listed, nothing, with_first}
use Rattle.ppm_gaps.specs.declared.operands.Operands.{Operands}

-- an instruction that sets a register goes on with the next one
pub sets_goes : (i : Instr) (d : Register) (at to : ℕ) → target_of i ≡ Some d → GoesTo (may i) at to ↔ (to ≡ at + 1)
sets_goes (Const d' v) d at to e = (λ g. g, λ g. g)
sets_goes (Move d' a) d at to e = (λ g. g, λ g. g)
sets_goes (Add d' a b l) d at to e = (λ g. g, λ g. g)
sets_goes (Sub d' a b l) d at to e = (λ g. g, λ g. g)
sets_goes (Mul d' a b l) d at to e = (λ g. g, λ g. g)
sets_goes (Div d' a b l) d at to e = (λ g. g, λ g. g)
sets_goes (Rem d' a b l) d at to e = (λ g. g, λ g. g)
sets_goes (Equal d' a b) d at to e = (λ g. g, λ g. g)
sets_goes (NotEqual d' a b) d at to e = (λ g. g, λ g. g)
sets_goes (Less d' a b) d at to e = (λ g. g, λ g. g)
sets_goes (AtMost d' a b) d at to e = (λ g. g, λ g. g)
sets_goes (Len d' a) d at to e = (λ g. g, λ g. g)
sets_goes (CutLeft d' a b l) d at to e = (λ g. g, λ g. g)
sets_goes (CutRight d' a b l) d at to e = (λ g. g, λ g. g)
sets_goes (LoadSlot d' s) d at to e = (λ g. g, λ g. g)
sets_goes (StoreCur s a) d at to e = absurd (none-some d e)
sets_goes (Give a) d at to e = absurd (none-some d e)
sets_goes (Get d' a b l) d at to e = (λ g. g, λ g. g)
sets_goes (Put a b s l) d at to e = absurd (none-some d e)
sets_goes (BranchZero a t) d at to e = absurd (none-some d e)
sets_goes (BranchNonZero a t) d at to e = absurd (none-some d e)
sets_goes (RoomFor n) d at to e = absurd (none-some d e)
sets_goes (StoreNew o a) d at to e = absurd (none-some d e)
sets_goes (Ends stop) d at to e = absurd (none-some d e)

-- what comes of more
pub behind_more : (has more : Mark → Type 0) (f g : Type 0) (i : Instr) (m : Mark) → IsInRange m → ((n : Mark) → IsInRange n → has n → more n) → (f → g)
    → Behind has f i m → Behind more g i m
behind_more has more f g i (Word r) range all to (inl (d, sets, same, inl find)) = inl (d, sets, same, inl (to find))
behind_more has more f g i (Word r) range all to (inl (d, sets, same, inr (a, operand, h))) = inl (d, sets, same, inr (a, operand, all (Word a.index) a.in_range h))
behind_more has more f g i (Word r) range all to (inr (h, other)) = inr (all (Word r) range h, other)
behind_more has more f g i Way range all to (inl h) = inl (all Way tt h)
behind_more has more f g i Way range all to (inr (a, t, operand, h, branch)) = inr (a, t, operand, all (Word a.index) a.in_range h, branch)

-- nothing comes of a find in new rows
pub blank : (n to : ℕ) (m : Mark) → HasAt (replicate n nothing) to m → ⊥
blank zero to (Word r) h = let e : 0 ≡ 1 = sym (bit_at-zero r) ∙ h in omega (arith, e)
blank zero to Way h = cc
blank (suc n) zero (Word r) h = let e : 0 ≡ 1 = sym (bit_at-zero r) ∙ h in omega (arith, e)
blank (suc n) zero Way h = cc
blank (suc n) (suc to) m h = blank n to m h

-- a row is put to that at a place
pub put_row : (rows : List Hanging) (place : ℕ) (row new : Hanging) → place < length rows
    → ((m : Mark) → Has new m ↔ (Has (get_or rows place nothing) m ⊎ Has row m))
    → (to : ℕ) (m : Mark) → HasAt (set rows place new) to m ↔ (HasAt rows to m ⊎ ((to ≡ place) × Has row m))
put_row rows place row new there joined to m = elim (cases_eq place to) [
  | inl same ↦ subst (λ (n : ℕ). HasAt (set rows place new) n m ↔ (HasAt rows n m ⊎ ((n ≡ place) × Has row m))) same here
  | inr other ↦ (
    λ h. inl (subst (λ (r : Hanging). Has r m) (get_or-set_other rows place to new nothing (λ s. other (sym s))) h),
    λ h. elim h [
      | inl old ↦ subst (λ (r : Hanging). Has r m) (sym (get_or-set_other rows place to new nothing (λ s. other (sym s)))) old
      | inr there ↦ absurd (other (sym there.0))
    ],
  )
]
  where
    here : HasAt (set rows place new) place m ↔ (HasAt rows place m ⊎ ((place ≡ place) × Has row m))
    here =
        let set_is = get_or-set_same rows place new nothing there in (
          λ h. elim ((joined m).0 (subst (λ (r : Hanging). Has r m) set_is h)) [ inl old ↦ inl old | inr one ↦ inr (refl, one) ],
          λ h. subst (λ (r : Hanging). Has r m) (sym set_is) ((joined m).1 (elim h [ inl old ↦ inl old | inr one ↦ inr one.1 ])),
        )

-- or there is no such place
pub put_past : (rows : List Hanging) (place : ℕ) (row : Hanging) (to : ℕ) (m : Mark) → instr_limit ≤ place → to < instr_limit
    → HasAt rows to m ↔ (HasAt rows to m ⊎ ((to ≡ place) × Has row m))
put_past rows place row to m past less = (λ h. inl h, λ h. elim h [ inl old ↦ old | inr one ↦ absurd (omega (arith, past, less, one.0)) ])

module _ (is : List Instr) where
  -- the last instruction that is passed is below k, and this comes of a find after it
  pub record CameBy (k to : ℕ) (m : Mark) : Type 0 where
    pub at : ℕ
    pub below : at < k
    pub instr : Instr
    pub there : slice_get is at ≡ Some instr
    pub goes : GoesTo (may instr) at to
    pub comes : Behind (Hangs is at) (IsFind is at) instr m

  hangs_behind : (at to : ℕ) (i : Instr) (m : Mark) → slice_get is at ≡ Some i → GoesTo (may i) at to → Behind (Hangs is at) (IsFind is at) i m → Hangs is to m
  hangs_behind at to i (Word r) there goes (inl (d, sets, same, inl find)) =
      subst (λ (n : ℕ). Hangs is to (Word n)) same (subst (λ (n : ℕ). Hangs is n (Word d.index)) (sym ((sets_goes i d at to sets).0 goes)) (Finds at i d find there sets))
  hangs_behind at to i (Word r) there goes (inl (d, sets, same, inr (a, operand, h))) =
      subst (λ (n : ℕ). Hangs is to (Word n)) same
      (subst (λ (n : ℕ). Hangs is n (Word d.index)) (sym ((sets_goes i d at to sets).0 goes)) (Takes at i a d h there operand sets))
  hangs_behind at to i (Word r) there goes (inr (h, other)) = Stays at to i r h there other goes
  hangs_behind at to i Way there goes (inl h) = GoesOn at to i h there goes
  hangs_behind at to i Way there goes (inr (a, t, operand, h, branch)) = Parts at to i a t h there operand branch goes

  -- of a place up to k it is whether this comes of a find there
  pub came_by : (k to : ℕ) (m : Mark) → to ≤ k → Hangs is to m → CameBy k to m
  came_by k _ _ less (Finds at i d find there sets) = record {
    at = at;
    below = omega (arith, less);
    instr = i;
    there = there;
    goes = (sets_goes i d at (at + 1) sets).1 refl;
    comes = inl (d, sets, refl, inl find);
  }
  came_by k _ _ less (Takes at i a d h there operand sets) = record {
    at = at;
    below = omega (arith, less);
    instr = i;
    there = there;
    goes = (sets_goes i d at (at + 1) sets).1 refl;
    comes = inl (d, sets, refl, inr (a, operand, h));
  }
  came_by k to _ less (Stays at _ i r h there other goes) = record {
    at = at;
    below = omega (arith, less, goes_forward (may i) at to goes);
    instr = i;
    there = there;
    goes = goes;
    comes = inr (h, other);
  }
  came_by k to _ less (Parts at _ i a t h there operand branch goes) = record {
    at = at;
    below = omega (arith, less, goes_forward (may i) at to goes);
    instr = i;
    there = there;
    goes = goes;
    comes = inr (a, t, operand, h, branch);
  }
  came_by k to _ less (GoesOn at _ i h there goes) = record {
    at = at;
    below = omega (arith, less, goes_forward (may i) at to goes);
    instr = i;
    there = there;
    goes = goes;
    comes = inl h;
  }

  pub hangs : (k to : ℕ) (m : Mark) → CameBy k to m → Hangs is to m
  hangs k to m c = hangs_behind c.at to c.instr m c.there c.goes c.comes

  module _ (k : ℕ) (i : Instr) (there : slice_get is k ≡ Some i) where
    -- past the instruction at k
    passed : (to : ℕ) (m : Mark) → CameBy k to m → CameBy (k + 1) to m
    passed to m c = record { at = c.at; below = omega (arith, c.below); instr = c.instr; there = c.there; goes = c.goes; comes = c.comes }

    -- the last instruction is that at k, or one below it
    last : (to : ℕ) (m : Mark) → CameBy (k + 1) to m → CameBy k to m ⊎ (GoesTo (may i) k to × Behind (Hangs is k) (IsFind is k) i m)
    last to m c = by (nat_lt c.at k) refl
      where
        by : (b : Bool) → nat_lt c.at k ≡ b → CameBy k to m ⊎ (GoesTo (may i) k to × Behind (Hangs is k) (IsFind is k) i m)
        by true e = inl (record { at = c.at; below = ltb-true c.at k e; instr = c.instr; there = c.there; goes = c.goes; comes = c.comes })
        by false e =
            let same : c.at ≡ k = omega (arith, c.below, ltb-false c.at k e) in
            let one : c.instr ≡ i = same_Some c.instr i (sym c.there ∙ ap (λ (n : ℕ). slice_get is n) same ∙ there) in
            inr (
              subst (λ (j : Instr). GoesTo (may j) k to) one (subst (λ (n : ℕ). GoesTo (may c.instr) n to) same c.goes),
              subst (λ (j : Instr). Behind (Hangs is k) (IsFind is k) j m) one
                  (subst (λ (n : ℕ). Behind (Hangs is n) (IsFind is n) c.instr m) same c.comes),
            )

    -- when the rows below k have been passed, that at k is whole; and then so are they past it
    module _ (old new : List Hanging) (finds : Type 0) (found : finds ↔ IsFind is k) (small : k < instr_limit)
        (met : (to : ℕ) (m : Mark) → to < instr_limit → IsInRange m → HasAt old to m ↔ CameBy k to m)
        (pass : (to : ℕ) (m : Mark) → to < instr_limit → IsInRange m
        → HasAt new to m ↔ (HasAt old to m ⊎ (GoesTo (may i) k to × Behind (HasAt old k) finds i m))) where
      whole : (m : Mark) → IsInRange m → HasAt old k m → Hangs is k m
      whole m range h = hangs k k m ((met k m small range).0 h)

      has : (m : Mark) → IsInRange m → Hangs is k m → HasAt old k m
      has m range h = (met k m small range).1 (came_by k k m (omega arith) h)

      pub grown : (to : ℕ) (m : Mark) → to < instr_limit → IsInRange m → HasAt new to m ↔ CameBy (k + 1) to m
      grown to m less range = (
        λ h. elim ((pass to m less range).0 h) [
          | inl o ↦ passed to m ((met to m less range).0 o)
          | inr b ↦ record {
            at = k;
            below = omega arith;
            instr = i;
            there = there;
            goes = b.0;
            comes = behind_more (HasAt old k) (Hangs is k) finds (IsFind is k) i m range whole found.0 b.1;
          }
        ],
        λ c. elim (last to m c) [
          | inl d ↦ (pass to m less range).1 (inl ((met to m less range).1 d))
          | inr b ↦ (pass to m less range).1 (inr (b.0, behind_more (Hangs is k) (HasAt old k) (IsFind is k) finds i m range has found.1 b.1))
        ],
      )

  -- nothing came by an instruction in front of the first one
  pub begun : (n to : ℕ) (m : Mark) → HasAt (replicate n nothing) to m ↔ CameBy 0 to m
  begun n to m = (λ h. absurd (blank n to m h), λ c. absurd (omega (arith, c.below)))

  -- a trap hangs on a find, as the row at its place says
  module _ (at : ℕ) (i : Instr) (there : slice_get is at ≡ Some i) (row : Hanging) (met : (m : Mark) → IsInRange m → Has row m ↔ Hangs is at m) where
    pub hung : (may_trap i ≡ true) × (Has row Way ⊎ HasTrapping row.words i) → IsHung is at
    hung h = record {
      instr = i;
      there = there;
      traps = h.0;
      hangs = elim h.1 [ inl way ↦ inl ((met Way tt).0 way) | inr (a, operand, bit) ↦ inr (a, operand, (met (Word a.index) a.in_range).0 bit) ];
    }

    pub is_hung : IsHung is at → (may_trap i ≡ true) × (Has row Way ⊎ HasTrapping row.words i)
    is_hung h =
        let same : h.instr ≡ i = same_Some h.instr i (sym h.there ∙ there) in (
          subst (λ (j : Instr). may_trap j ≡ true) same h.traps,
          subst (λ (j : Instr). Has row Way ⊎ HasTrapping row.words j) same
              (elim h.hangs [ inl way ↦ inl ((met Way tt).1 way) | inr (a, operand, w) ↦ inr (a, operand, (met (Word a.index) a.in_range).1 w) ]),
        )

-- one of up to three registers that are named
pub in_first : (words : ℕ) (o : Option Register) (rest : List Register) → HasOperandIn words (with_first o rest) ↔ (HasBit words o ⊎ HasOperandIn words rest)
in_first words None rest = (λ h. inr h, λ h. elim h [ inl b ↦ absurd b | inr r ↦ r ])
in_first words (Some r) rest = (
  λ h. elim h.1 [ inl same ↦ inl (subst (λ (s : Register). bit_at words s.index ≡ 1) same h.2) | inr more ↦ inr (h.0, more, h.2) ],
  λ h. elim h [ inl bit ↦ (r, inl refl, bit) | inr (a, more, bit) ↦ (a, inr more, bit) ],
)

none_listed : (words : ℕ) → HasOperandIn words [] → ⊥
none_listed words h = h.1

pub one_of : (words : ℕ) (o : Operands) → HasBit words o.first ⊎ (HasBit words o.second ⊎ HasBit words o.third) → HasOperandIn words (listed o)
one_of words o (inl b) = (in_first words o.first (with_first o.second (with_first o.third []))).1 (inl b)
one_of words o (inr (inl b)) =
    (in_first words o.first (with_first o.second (with_first o.third []))).1 (inr ((in_first words o.second (with_first o.third [])).1 (inl b)))
one_of words o (inr (inr b)) =
    (in_first words o.first (with_first o.second (with_first o.third []))).1
    (inr ((in_first words o.second (with_first o.third [])).1 (inr ((in_first words o.third []).1 (inl b)))))

pub of_one : (words : ℕ) (o : Operands) → HasOperandIn words (listed o) → HasBit words o.first ⊎ (HasBit words o.second ⊎ HasBit words o.third)
of_one words o h = elim ((in_first words o.first (with_first o.second (with_first o.third []))).0 h) [
  | inl b ↦ inl b
  | inr r ↦ elim ((in_first words o.second (with_first o.third [])).0 r) [
    | inl b ↦ inr (inl b)
    | inr s ↦ elim ((in_first words o.third []).0 s) [ inl b ↦ inr (inr b) | inr none ↦ absurd (none_listed words none) ]
  ]
]

-- what comes of a find as one of two rows says
pub joined : (a b : Hanging) (words : ℕ) (way : Bool) → ((r : ℕ) → (bit_at words r ≡ 1) ↔ ((bit_at a.words r ≡ 1) ⊎ (bit_at b.words r ≡ 1)))
    → IsTrue way ↔ (IsTrue a.way ⊎ IsTrue b.way) → (m : Mark) → Has (record { words = words; way = way }) m ↔ (Has a m ⊎ Has b m)
joined a b words way bits ways (Word r) = bits r
joined a b words way bits ways Way = ways

-- what comes of a find after an instruction
pub is_behind : (row : Hanging) (finds : Bool) (i : Instr) (hung sets parted : Bool) (words : ℕ) (way : Bool) (to : Option Register) → to ≡ target_of i
    → IsTrue hung ↔ HasOperand row.words i → IsTrue sets ↔ (IsTrue finds ⊎ IsTrue hung) → IsTrue parted ↔ (IsTrue hung × IsBranch i)
    → ((r : ℕ) → r < 64 → (bit_at words r ≡ 1) ↔ IsWordBehind row.words sets to r) → IsTrue way ↔ (IsTrue row.way ⊎ IsTrue parted)
    → (m : Mark) → IsInRange m → Has (record { words = words; way = way }) m ↔ Behind (Has row) (IsTrue finds) i m
is_behind row finds i hung sets parted words way to target operand set part bits ways (Word r) range = (
  λ h. elim ((bits r range).0 h) [
    | inl s ↦ inl (s.0, sym target ∙ s.1, s.2, elim (set.0 s.3) [ inl f ↦ inl f | inr o ↦ inr (operand.0 o) ])
    | inr kept ↦ inr (kept.0, λ d e. kept.1 d (target ∙ e))
  ],
  λ b. (bits r range).1 (elim b [
    | inl s ↦ inl (s.0, target ∙ s.1, s.2, set.1 (elim s.3 [ inl f ↦ inl f | inr o ↦ inr (operand.1 o) ]))
    | inr kept ↦ inr (kept.0, λ d e. kept.1 d (sym target ∙ e))
  ]),
)
is_behind row finds i hung sets parted words way to target operand set part bits ways Way range = (
  λ h. elim (ways.0 h) [
    | inl w ↦ inl w
    | inr p ↦
        let one = part.0 p in
        let o = operand.0 one.0 in
        inr (o.0, one.1.target, o.1, o.2, one.1.branches)
  ],
  λ b. ways.1 (elim b [ inl w ↦ inl w | inr (a, t, o, h, branch) ↦ inr (part.1 (operand.1 (a, o, h), record { target = t; branches = branch })) ]),
)

-- it goes on where paths do
pub goes_on : (old new : List Hanging) (at to : ℕ) (m : Mark) → IsInRange m → (row next : Hanging) (finds : Bool) (i : Instr) (what : May) → what ≡ may i
    → row ≡ get_or old at nothing → Has next m ↔ Behind (Has row) (IsTrue finds) i m
    → HasAt new to m ↔ (HasAt old to m ⊎ (GoesTo what at to × Has next m))
    → HasAt new to m ↔ (HasAt old to m ⊎ (GoesTo (may i) at to × Behind (HasAt old at) (IsTrue finds) i m))
goes_on old new at to m range row next finds i what is_may is_row behind on =
    let here : Has next m ↔ Behind (HasAt old at) (IsTrue finds) i m =
    subst (λ (r : Hanging). Has next m ↔ Behind (Has r) (IsTrue finds) i m) is_row behind in
    subst (λ (w : May). HasAt new to m ↔ (HasAt old to m ⊎ (GoesTo w at to × Behind (HasAt old at) (IsTrue finds) i m))) is_may (
      λ h. elim (on.0 h) [ inl o ↦ inl o | inr g ↦ inr (g.0, here.0 g.1) ],
      λ h. on.1 (elim h [ inl o ↦ inl o | inr g ↦ inr (g.0, here.1 g.1) ]),
    )

-- a row that was read
pub row_met : (is : List Instr) (at : ℕ) (rows : List Hanging) (row : Hanging) → row ≡ get_or rows at nothing
    → ((m : Mark) → IsInRange m → HasAt rows at m ↔ Hangs is at m) → (m : Mark) → IsInRange m → Has row m ↔ Hangs is at m
row_met is at rows row read met m range = subst (λ (r : Hanging). Has r m ↔ Hangs is at m) (sym read) (met m range)

pub hung_below : (is : List Instr) (at : ℕ) → IsHung is at → at < length is
hung_below is at h = slice_get_within is at h.instr h.there

-- a bit of two sets
pub in_either : (a b r : ℕ) → (bit_at (bit_or a b) r ≡ 1) ↔ ((bit_at a r ≡ 1) ⊎ (bit_at b r ≡ 1))
in_either a b r = (
  λ h. elim (cases_eq (bit_at a r) 1) [
    | inl e ↦ inl e
    | inr other ↦ inr (omega (arith, h, other, bit_at_or a b r, bit_at-lt a r, bit_at-lt b r))
  ],
  λ h. elim h [
    | inl e ↦ omega (arith, e, bit_at_or a b r, bit_at-lt b r)
    | inr e ↦ omega (arith, e, bit_at_or a b r, bit_at-lt a r)
  ],
)

-- the words after an instruction that sets a register by what comes of a find, by what does not, and after one that sets none
module _ (words new : ℕ) (hung : Bool) (d : Register) (r : ℕ) where
  pub set_word : hung ≡ true → bit_at new d.index ≡ 1 → ((r ≡ d.index → ⊥) → bit_at new r ≡ bit_at words r)
      → (bit_at new r ≡ 1) ↔ IsWordBehind words hung (Some d) r
  set_word sets same others = elim (cases_eq r d.index) [
    | inl here ↦ (λ h. inl (d, refl, sym here, sets), λ b. subst (λ (n : ℕ). bit_at new n ≡ 1) (sym here) same)
    | inr other ↦ (
      λ h. inr (sym (others other) ∙ h, λ e f g. other (sym g ∙ ap (λ (a : Register). a.index) (sym (same_Some d e f)))),
      λ b. elim b [
        | inl s ↦ absurd (other (sym s.2 ∙ ap (λ (a : Register). a.index) (sym (same_Some d s.0 s.1))))
        | inr kept ↦ others other ∙ kept.0
      ],
    )
  ]

  pub cleared_word : hung ≡ false → bit_at new d.index ≡ 0 → ((r ≡ d.index → ⊥) → bit_at new r ≡ bit_at words r)
      → (bit_at new r ≡ 1) ↔ IsWordBehind words hung (Some d) r
  cleared_word clear same others = elim (cases_eq r d.index) [
    | inl here ↦ (
      λ h. absurd (omega (arith, h, subst (λ (n : ℕ). bit_at new n ≡ 0) (sym here) same)),
      λ b. elim b [ inl s ↦ absurd (is_false hung clear s.3) | inr kept ↦ absurd (kept.1 d refl (sym here)) ],
    )
    | inr other ↦ (
      λ h. inr (sym (others other) ∙ h, λ e f g. other (sym g ∙ ap (λ (a : Register). a.index) (sym (same_Some d e f)))),
      λ b. elim b [ inl s ↦ absurd (is_false hung clear s.3) | inr kept ↦ others other ∙ kept.0 ],
    )
  ]

pub kept_words : (words : ℕ) (hung : Bool) (r : ℕ) → (bit_at words r ≡ 1) ↔ IsWordBehind words hung None r
kept_words words hung r = (
  λ h. inr (h, λ d e g. none-some d e),
  λ b. elim b [ inl s ↦ absurd (none-some s.0 s.1) | inr kept ↦ kept.0 ],
)
