-- What the stores of an end into its block leave as it was, what is found of them, and that the
-- trees that ends open don't show them.
use Rattle.std.proofs.Common.{◌≡◌, ◌≢◌, ◌≤◌, ◌<◌, ◌⊎◌, ℕ, ◌+◌, Bool, true, false, List, [], ◌∷◌, Option, Some, None, inl, inr, refl, sym, ◌∙◌, subst, arith}
use Rattle.std.specs.Prelude.{nat_lt, if◌then◌else◌}
use Rattle.std.proofs.Math.Path.{fun_ext}
use Rattle.std.proofs.lemmas.Bool.{ltb-true, ne_eqb, cond-true, cond-false}
use Rattle.ppm_strands.specs.Tree.{Call as Calling, Fork as Forking}
use Rattle.ppm_strands.specs.Capsule.{Memory, In, exposed, ending, store}
use Rattle.ppm_strands.specs.EndStores.{stored_at, after_stores, with_end_stores_in, AreUnseen}
use Rattle.ppm_strands.specs.Strand.{New, Own, addresses, own_of, new_of, opened, MayBeginAgain}
use Rattle.ppm_strands.proofs.EndStoresLemmas.{does_then_stores}
use Rattle.ppm_code.specs.Locations.{Where, code_locations}
use Rattle.ppm_code.specs.Sizes.{slots_of, value_at, slot_at, left_at, right_at}
use Rattle.ppm_code.specs.Strands.{Point, built, begun, table_of}
use Rattle.ppm_code.specs.declared.act.End.{End}
use Rattle.ppm_code.specs.declared.act.End.TheVariants.{Next, Finish, Trap, Call, Fork}
use Rattle.ppm_code.specs.declared.code.CodeParts.{CodeParts}
use Rattle.ppm_code.specs.declared.location.FrameWord.{FrameWord}
use Rattle.ppm_code.specs.declared.location.FrameWord.TheVariants.{Slot, Value}
use Rattle.ppm_step.specs.Contents.{word_of}
use Rattle.ppm_step.specs.declared.content.Content.{Content}
use Rattle.ppm_step.specs.declared.frame.Home.{Home}
use Rattle.ppm_ends.specs.Ends.{call_stores, fork_stores_by, block_stores, located, tails_of}

pub new_at : (m : Memory Where) (i o v : ℕ) → i ≡ o → store code_locations m (New o) v (New i) ≡ v
new_at m i o v e =
    subst (λ (j : ℕ). store code_locations m (New o) v (New j) ≡ v) (sym e)
    (cond-true (code_locations.same (New o) (New o)) v (m (New o)) (code_locations.is_self (New o)))

pub new_else : (m : Memory Where) (i o v : ℕ) → i ≢ o → store code_locations m (New o) v (New i) ≡ m (New i)
new_else m i o v other = cond-false (code_locations.same (New i) (New o)) v (m (New i)) (ne_eqb i o other)

-- no store goes to the offset
abbrev pub AreElsewhere : ℕ → List (ℕ × Content) → Type 0
AreElsewhere i [] = Unit {0}
AreElsewhere i (p ∷ ps) = (i ≢ p.0) × AreElsewhere i ps

pub passes : (i : ℕ) (ps : List (ℕ × Content)) (m : Memory Where) → AreElsewhere i ps
    → after_stores code_locations (located ps) m (New i) ≡ m (New i)
passes i [] m h = refl
passes i (p ∷ ps) m h = passes i ps (store code_locations m (New p.0) (word_of p.1)) h.1 ∙ new_else m i p.0 (word_of p.1) h.0

pub own_passes : (w : FrameWord) (ps : List (ℕ × Content)) (m : Memory Where) → after_stores code_locations (located ps) m (Own w) ≡ m (Own w)
own_passes w [] m = refl
own_passes w (p ∷ ps) m = own_passes w ps (store code_locations m (New p.0) (word_of p.1))

-- the last store to the offset is of this word
abbrev pub Finds : (i v : ℕ) → List (ℕ × Content) → Type 0
Finds i v [] = ⊥
Finds i v (p ∷ ps) = ((i ≡ p.0) × (v ≡ word_of p.1) × AreElsewhere i ps) ⊎ Finds i v ps

pub found : (i v : ℕ) (ps : List (ℕ × Content)) (m : Memory Where) → Finds i v ps → after_stores code_locations (located ps) m (New i) ≡ v
found i v [] m h = absurd h
found i v (p ∷ ps) m (inl h) =
    passes i ps (store code_locations m (New p.0) (word_of p.1)) h.2 ∙ new_at m i p.0 (word_of p.1) h.0 ∙ sym h.1
found i v (p ∷ ps) m (inr h) = found i v ps (store code_locations m (New p.0) (word_of p.1)) h

-- a built frame to whose value and slots nothing is stored is as it was
pub built_same : (slots frame : ℕ) (ps : List (ℕ × Content)) (m : Memory Where) → AreElsewhere (frame + value_at) ps
    → ((i : ℕ) → i < slots → AreElsewhere (frame + slot_at i) ps)
    → built slots frame (new_of (after_stores code_locations (located ps) m)) ≡ built slots frame (new_of m)
built_same slots frame ps m at_value at_slots = fun_ext (λ w. go w)
  where
    at : (i : ℕ) (b : Bool) → nat_lt i slots ≡ b
        → (if b then after_stores code_locations (located ps) m (New (frame + slot_at i)) else 0) ≡ (if b then m (New (frame + slot_at i)) else 0)
    at i true e = passes (frame + slot_at i) ps m (at_slots i (ltb-true i slots e))
    at i false e = refl

    go : (w : FrameWord) → built slots frame (new_of (after_stores code_locations (located ps) m)) w ≡ built slots frame (new_of m) w
    go Value = passes (frame + value_at) ps m at_value
    go (Slot i) = at i (nat_lt i slots) refl

module _ (code : CodeParts) (home : Home) where
  -- a callee's value and slots
  pub call_elsewhere : (q : ℕ) (to : Option ℕ) (i : ℕ) → 4 ≤ i → i ≢ 5 → AreElsewhere i (call_stores code home q to)
  call_elsewhere q None i low other = (λ e. omega (arith, e, low), (λ e. omega (arith, e, low), (λ e. omega (arith, e, low), tt)))
  call_elsewhere q (Some slot) i low other =
      (λ e. omega (arith, e, low), (λ e. omega (arith, e, low), (λ e. omega (arith, e, low), (other, tt))))

  -- those of a left branch lie below the right frame
  pub left_elsewhere : (l r : ℕ) (left_to right_to : Option ℕ) (i : ℕ) → 9 ≤ i → i ≢ 10 → i < right_at code l
      → AreElsewhere i (fork_stores_by code home l r left_to right_to)
  left_elsewhere l r None None i low other less = (
    λ e. omega (arith, e, low),
    (
      λ e. omega (arith, e, low),
      (
        λ e. omega (arith, e, low),
        (
          λ e. omega (arith, e, low),
          (
            λ e. omega (arith, e, low),
            (λ e. omega (arith, e, less), (λ e. omega (arith, e, less), (λ e. omega (arith, e, less), tt))),
          ),
        ),
      ),
    ),
  )
  left_elsewhere l r None (Some b) i low other less = (
    λ e. omega (arith, e, low),
    (
      λ e. omega (arith, e, low),
      (
        λ e. omega (arith, e, low),
        (
          λ e. omega (arith, e, low),
          (
            λ e. omega (arith, e, low),
            (
              other,
              (λ e. omega (arith, e, less), (λ e. omega (arith, e, less), (λ e. omega (arith, e, less), (λ e. omega (arith, e, less), tt)))),
            ),
          ),
        ),
      ),
    ),
  )
  left_elsewhere l r (Some a) right_to i low other less = (
    λ e. omega (arith, e, low),
    (
      λ e. omega (arith, e, low),
      (
        λ e. omega (arith, e, low),
        (
          λ e. omega (arith, e, low),
          (
            λ e. omega (arith, e, low),
            (
              other,
              (λ e. omega (arith, e, less), (λ e. omega (arith, e, less), (λ e. omega (arith, e, less), (λ e. omega (arith, e, less), tt)))),
            ),
          ),
        ),
      ),
    ),
  )

  pub right_elsewhere : (l r : ℕ) (left_to right_to : Option ℕ) (i : ℕ) → right_at code l + 4 ≤ i → i ≢ right_at code l + 5
      → AreElsewhere i (fork_stores_by code home l r left_to right_to)
  right_elsewhere l r None None i low other = (
    λ e. omega (arith, e, low),
    (
      λ e. omega (arith, e, low),
      (
        λ e. omega (arith, e, low),
        (
          λ e. omega (arith, e, low),
          (
            λ e. omega (arith, e, low),
            (λ e. omega (arith, e, low), (λ e. omega (arith, e, low), (λ e. omega (arith, e, low), tt))),
          ),
        ),
      ),
    ),
  )
  right_elsewhere l r None (Some b) i low other = (
    λ e. omega (arith, e, low),
    (
      λ e. omega (arith, e, low),
      (
        λ e. omega (arith, e, low),
        (
          λ e. omega (arith, e, low),
          (
            λ e. omega (arith, e, low),
            (λ e. omega (arith, e, low), (λ e. omega (arith, e, low), (λ e. omega (arith, e, low), (λ e. omega (arith, e, low), (other, tt))))),
          ),
        ),
      ),
    ),
  )
  right_elsewhere l r (Some a) right_to i low other = (
    λ e. omega (arith, e, low),
    (
      λ e. omega (arith, e, low),
      (
        λ e. omega (arith, e, low),
        (
          λ e. omega (arith, e, low),
          (
            λ e. omega (arith, e, low),
            (λ e. omega (arith, e, low), (λ e. omega (arith, e, low), (λ e. omega (arith, e, low), (λ e. omega (arith, e, low), (other, tt))))),
          ),
        ),
      ),
    ),
  )

  -- the frames that an end builds are as they were
  pub callee_same : (q : ℕ) (to : Option ℕ) (m : Memory Where)
      → built (slots_of code q) 0 (new_of (after_stores code_locations (located (call_stores code home q to)) m))
      ≡ built (slots_of code q) 0 (new_of m)
  callee_same q to m = built_same (slots_of code q) 0 (call_stores code home q to) m
      (call_elsewhere q to (0 + value_at) (omega arith) (λ e. omega (arith, e)))
      (λ i less. call_elsewhere q to (0 + slot_at i) (omega arith) (λ e. omega (arith, e)))

  pub left_same : (l r : ℕ) (left_to right_to : Option ℕ) (m : Memory Where)
      → built (slots_of code l) left_at (new_of (after_stores code_locations (located (fork_stores_by code home l r left_to right_to)) m))
      ≡ built (slots_of code l) left_at (new_of m)
  left_same l r left_to right_to m = built_same (slots_of code l) left_at (fork_stores_by code home l r left_to right_to) m
      (left_elsewhere l r left_to right_to (left_at + value_at) (omega arith) (λ e. omega (arith, e)) (omega arith))
      (λ i less. left_elsewhere l r left_to right_to (left_at + slot_at i) (omega arith) (λ e. omega (arith, e)) (omega (arith, less)))

  pub right_same : (l r : ℕ) (left_to right_to : Option ℕ) (m : Memory Where)
      → built (slots_of code r) (right_at code l) (new_of (after_stores code_locations (located (fork_stores_by code home l r left_to right_to)) m))
      ≡ built (slots_of code r) (right_at code l) (new_of m)
  right_same l r left_to right_to m = built_same (slots_of code r) (right_at code l) (fork_stores_by code home l r left_to right_to) m
      (right_elsewhere l r left_to right_to (right_at code l + value_at) (omega arith) (λ e. omega (arith, e)))
      (λ i less. right_elsewhere l r left_to right_to (right_at code l + slot_at i) (omega arith) (λ e. omega (arith, e)))

  pub own_same : (ps : List (ℕ × Content)) (m : Memory Where) → own_of (after_stores code_locations (located ps) m) ≡ own_of m
  own_same ps m = fun_ext (λ w. own_passes w ps m)

  -- after the stores an end opens the tree that it opened before them
  pub opened_same : (array_words : ℕ) (point : Point) (e : End) (m : Memory Where)
      → opened code_locations (table_of code array_words) point e (after_stores code_locations (located (block_stores code home e)) m)
      ≡ opened code_locations (table_of code array_words) point e m
  opened_same array_words point (Next k) m = refl
  opened_same array_words point Finish m = refl
  opened_same array_words point (Trap trap line) m = refl
  opened_same array_words point (Call q k to) m =
      let p = own_same (call_stores code home q to) m in
      let b = callee_same q to m in
      λ i. Calling (record { own = p i; point = record { capsule = k; left_to = None; to = to } }) (begun code q (b i))
  opened_same array_words point (Fork l r k left_to right_to) m =
      let p = own_same (fork_stores_by code home l r left_to right_to) m in
      let b = left_same l r left_to right_to m in
      let c = right_same l r left_to right_to m in
      λ i. Forking (record { own = p i; point = record { capsule = k; left_to = left_to; to = right_to } }) (begun code l (b i)) (begun code r (c i))

-- none is to a shared word
none_shared : (ps : List (ℕ × Content)) → addresses (stored_at (located ps)) ≡ []
none_shared [] = refl
none_shared (p ∷ ps) = none_shared ps

pub unseen : (code : CodeParts) (array_words : ℕ) (homes : Point → Home)
    → AreUnseen code_locations (table_of code array_words) (tails_of code homes)
unseen code array_words homes = record {
  unshared = λ point e. none_shared (block_stores code (homes point) e);
  unseen = λ point e m. opened_same code (homes point) array_words point e m;
}

-- each is to a word of the block
all_new : (ps : List (ℕ × Content)) (l : Where) → In l (stored_at (located ps)) → (n : ℕ) × (l ≡ New n)
all_new [] l h = absurd h
all_new (p ∷ ps) l (inl e) = (p.0, e)
all_new (p ∷ ps) l (inr h) = all_new ps l h

pub begin_again : (code : CodeParts) (array_words : ℕ) (homes : Point → Home) (point : Point) (m : Memory Where)
    → MayBeginAgain code_locations (table_of code array_words) point m
    → MayBeginAgain code_locations (with_end_stores_in code_locations (table_of code array_words) (tails_of code homes)) point m
begin_again code array_words homes point m again =
    let p = (table_of code array_words).capsule point in
    let both = does_then_stores code_locations (tails_of code homes point) p m in record {
      free = both.free again.free (λ l read stored.
          let is = all_new (block_stores code (homes point) (ending code_locations p m)) l stored in
          again.unread is.0 (subst (λ (k : Where). In k (exposed code_locations p m)) is.1 read));
      unread = λ n read. again.unread n (subst (λ (ls : List Where). In (New n) ls) both.reads read);
    }
