-- The map from names to procedures: its steps, and what it finds.
use Rattle.std.proofs.Common.{◌≡◌, ◌<◌, ◌+◌, ℕ, Bool, true, false, cond, List, [], ◌∷◌, ◌++◌, Option, Some, None, map, take, length, get_or, refl, sym, ap, subst, ◌∙◌, Bor, MatchOption}
use Rattle.std.specs.Str.{bytes_eq}
use Rattle.std.specs.HashMap.{HashMap, get_by}
use Rattle.std.specs.Option.{option_map, option_copied, is_some}
use Rattle.std.proofs.lemmas.List.{take_more}
use Rattle.ppm_tree.specs.declared.tree.Proc.{Proc}
use Rattle.ppm_tree.specs.declared.tree.Tree.{Tree}
use Rattle.ppm_tree.specs.declared.named.Named.{Named}
use Rattle.ppm_tree.specs.Tree.{procedure_of, tree_of}
use Rattle.ppm_regions.specs.Scope.{first_named}
use Rattle.ppm_regions.specs.Uses.{callee_of}
use Rattle.ppm_regions.specs.Deciding.{IsIndex}
use Rattle.ppm_regions.proofs.Names.{known_name, new_name}

module _ {S : Type 0} (m : HashMap (Bor (List ℕ)) (Bor Proc) S) (front : List Proc) (p : Proc) (bytes : List ℕ) (index : IsIndex m front) (named : bytes ≡ p.name.name) where
  -- a name that the map has already
  step_known : (r : Option (Bor (Bor Proc))) → option_copied r ≡ get_by (λ k. bytes_eq bytes k.now) m → is_some r ≡ true → IsIndex m (front ++ p ∷ [])
  step_known None e there = absurd (cc)
  step_known (Some q) e there = λ x.
      let found : first_named (λ z. z.name.name) front p.name.name ≡ Some q.now.now
      = sym (index p.name.name) ∙ sym (ap (option_map (λ z. z.now)) (e ∙ ap (λ b. get_by (λ k. bytes_eq b k.now) m) named)) in
      index x ∙ sym (known_name (λ z. z.name.name) front p q.now.now x found)

  -- a name that it has not yet
  step_new : (n : HashMap (Bor (List ℕ)) (Bor Proc) S) (r : Option (Bor (Bor Proc))) (w : Bor Proc) → w.now ≡ p
      → option_copied r ≡ get_by (λ k. bytes_eq bytes k.now) m → is_some r ≡ false
      → ((x : List ℕ) → get_by (λ k. bytes_eq x k.now) n ≡ cond (bytes_eq bytes x) (Some w) (get_by (λ k. bytes_eq x k.now) m)) → IsIndex n (front ++ p ∷ [])
  step_new n (Some q) w at e absent updated = absurd (cc)
  step_new n None w at e absent updated = λ x.
      let missing : first_named (λ z. z.name.name) front p.name.name ≡ None
      = sym (index p.name.name) ∙ sym (ap (option_map (λ z. z.now)) (e ∙ ap (λ b. get_by (λ k. bytes_eq b k.now) m) named)) in
      ap (option_map (λ z. z.now)) (updated x) ∙ go (bytes_eq bytes x) (get_by (λ k. bytes_eq x k.now) m) (first_named (λ z. z.name.name) front x) (index x)
      ∙ ap (λ b. cond (bytes_eq b x) (Some p) (first_named (λ z. z.name.name) front x)) named ∙ sym (new_name (λ z. z.name.name) front p x missing)
    where
      go : (b : Bool) (o : Option (Bor Proc)) (f : Option Proc) → option_map (λ z. z.now) o ≡ f → option_map (λ z. z.now) (cond b (Some w) o) ≡ cond b (Some p) f
      go true o f h = ap Some at
      go false o f h = h

-- the procedures so far and one more
pub front_next : {S : Type 0} (m : HashMap (Bor (List ℕ)) (Bor Proc) S) (xs : List Proc) (i : ℕ) (x : Proc) → i < length xs → x ≡ get_or xs i x
    → IsIndex m (take i xs ++ x ∷ []) → IsIndex m (take (i + 1) xs)
front_next m xs i x in' at h =
    let next = take_more xs i x in' ∙ ap (λ y. take i xs ++ (y ∷ [])) (sym at) in
    subst (IsIndex m) (sym next) h

pub next_known : {S : Type 0} (m : HashMap (Bor (List ℕ)) (Bor Proc) S) (xs : List Proc) (i : ℕ) (x : Proc) (bytes : List ℕ) (r : Option (Bor (Bor Proc))) → i < length xs
    → x ≡ get_or xs i x → IsIndex m (take i xs) → bytes ≡ x.name.name → option_copied r ≡ get_by (λ k. bytes_eq bytes k.now) m → is_some r ≡ true
    → IsIndex m (take (i + 1) xs)
next_known m xs i x bytes r in' at index named e there = front_next m xs i x in' at (step_known m (take i xs) x bytes index named r e there)

pub next_new : {S : Type 0} (m n : HashMap (Bor (List ℕ)) (Bor Proc) S) (xs : List Proc) (i : ℕ) (x : Proc) (bytes : List ℕ) (r : Option (Bor (Bor Proc))) (w : Bor Proc)
    → i < length xs → x ≡ get_or xs i x → IsIndex m (take i xs) → bytes ≡ x.name.name → w.now ≡ x
    → option_copied r ≡ get_by (λ k. bytes_eq bytes k.now) m → is_some r ≡ false
    → ((q : List ℕ) → get_by (λ k. bytes_eq q k.now) n ≡ cond (bytes_eq bytes q) (Some w) (get_by (λ k. bytes_eq q k.now) m)) → IsIndex n (take (i + 1) xs)
next_new m n xs i x bytes r w in' at index named held e absent updated =
    front_next n xs i x in' at (step_new m (take i xs) x bytes index named n r w held e absent updated)

-- the first procedure of a name, seen without pointers
image_named : (procs : List Proc) (x : List ℕ) → first_named (λ p. p.name.name) (map procedure_of procs) x ≡ option_map procedure_of (first_named (λ p. p.name.name) procs x)
image_named [] x = refl
image_named (p ∷ procs) x = go (bytes_eq p.name.name x) refl (image_named procs x)
  where
    go : (b : Bool) → bytes_eq p.name.name x ≡ b
        → first_named (λ q. q.name.name) (map procedure_of procs) x ≡ option_map procedure_of (first_named (λ q. q.name.name) procs x)
        → first_named (λ q. q.name.name) (map procedure_of (p ∷ procs)) x ≡ option_map procedure_of (first_named (λ q. q.name.name) (p ∷ procs) x)
    go true e further = rw e refl
    go false e further = rw e further

-- what the map has is what is called
pub called : {S : Type 0} (m : HashMap (Bor (List ℕ)) (Bor Proc) S) (t t' : Tree) (name : Named) (bytes : List ℕ) (found : Option (Bor Proc)) → IsIndex m t'.procedures → t' ≡ t
    → bytes ≡ name.name → found ≡ get_by (λ k. bytes_eq bytes k.now) m
    → MatchOption found (callee_of (tree_of t) name ≡ None) (λ p. callee_of (tree_of t) name ≡ Some (procedure_of p.now))
called m t t' name bytes found index same named e = go found there
  where
    there : option_map (λ p. procedure_of p.now) found ≡ callee_of (tree_of t) name
    there =
        ap (option_map (λ p. procedure_of p.now)) (e ∙ ap (λ b. get_by (λ k. bytes_eq b k.now) m) named)
        ∙ twice (get_by (λ k. bytes_eq name.name k.now) m) ∙ ap (option_map procedure_of) (index name.name) ∙ sym (image_named t'.procedures name.name)
        ∙ ap (λ (z : Tree). callee_of (tree_of z) name) same
      where
        twice : (o : Option (Bor Proc)) → option_map (λ p. procedure_of p.now) o ≡ option_map procedure_of (option_map (λ p. p.now) o)
        twice None = refl
        twice (Some p) = refl

    go : (o : Option (Bor Proc)) → option_map (λ p. procedure_of p.now) o ≡ callee_of (tree_of t) name
        → MatchOption o (callee_of (tree_of t) name ≡ None) (λ p. callee_of (tree_of t) name ≡ Some (procedure_of p.now))
    go None h = sym h
    go (Some p) h = sym h
