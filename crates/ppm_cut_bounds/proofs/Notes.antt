-- What is noted of several names, one list after the other.
use Rattle.std.proofs.Common.{◌≡◌, ◌||◌, ◌&&◌, not, Bool, true, false, ℕ, List, [], ◌∷◌, ◌++◌, length, take, refl, sym, ap, subst, ◌∙◌}
use Rattle.std.specs.Str.{bytes_eq}
use Rattle.std.specs.List.{IsDistinct}
use Rattle.std.proofs.Math.Seq.{take-append_seam}
use Rattle.std.proofs.lemmas.List.{append-nil, append_assoc}
use Rattle.std.proofs.lemmas.Map.Keys.{IsDistinct-push}
use Rattle.std.proofs.lemmas.Map.Made.{length-from_keys}
use Rattle.ppm_tree.specs.declared.named.Named.{Named}
use Rattle.ppm_tree.specs.Tree.{Statement, Block, Nil, Then}
use Rattle.ppm_cut_bounds.specs.Names.{without, used_by, free_within, free_names, lets_of, caught_count}
use Rattle.ppm_cut_bounds.specs.Catching.{Walked, has, Notes, Declares, HasEachOnce}
use Rattle.ppm_cut_bounds.proofs.Members.{same_bytes, has-append, has-without, bytes_laws}

-- of no names none is noted
nothing : (a o : Bool) → (a || (not o && false)) ≡ a
nothing true o = refl
nothing false true = refl
nothing false false = refl

-- two lists of names, one after the other
both : (a n x y : Bool) → ((a || (n && x)) || (n && y)) ≡ (a || (n && (x || y)))
both true n x y = refl
both false true x y = refl
both false false x y = refl

-- names after a declaration
behind : (a o x l r : Bool) → ((a || (not o && x)) || (not (o || l) && r)) ≡ (a || (not o && (x || (r && not l))))
behind true o x l r = refl
behind false true x l r = refl
behind false false true l r = refl
behind false false false true true = refl
behind false false false true false = refl
behind false false false false true = refl
behind false false false false false = refl

-- names under two declarations
under : (a o e f r : Bool) → (a || (not ((o || (e || false)) || (f || false)) && r)) ≡ (a || (not o && (r && not (e || (f || false)))))
under true o e f r = refl
under false true e f r = refl
under false false true f true = refl
under false false true f false = refl
under false false false true true = refl
under false false false true false = refl
under false false false false true = refl
under false false false false false = refl

-- no name is noted
pub none_noted : (w : Walked) → Notes [] w w
none_noted w = record { own = refl; caught = λ q. sym (nothing (has w.caught q) (has w.own q)); once = λ d. d }

-- a name that was noted before
pub noted_before : (w : Walked) (x : List ℕ) → has w.caught x ≡ true → Notes (x ∷ []) w w
noted_before w x h = record { own = refl; caught = λ q. by q (bytes_eq q x) refl; once = λ d. d }
  where
    by : (q : List ℕ) (b : Bool) → bytes_eq q x ≡ b → has w.caught q ≡ (has w.caught q || (not (has w.own q) && (bytes_eq q x || false)))
    by q true e = let there : has w.caught q ≡ true = ap (has w.caught) (same_bytes q x e) ∙ h in rw there refl
    by q false e = rw e (sym (nothing (has w.caught q) (has w.own q)))

-- a name of the block
pub noted_own : (w : Walked) (x : List ℕ) → has w.own x ≡ true → Notes (x ∷ []) w w
noted_own w x h = record { own = refl; caught = λ q. by q (bytes_eq q x) refl; once = λ d. d }
  where
    hidden : (a b : Bool) → a ≡ (a || (not true && b))
    hidden true b = refl
    hidden false b = refl

    by : (q : List ℕ) (b : Bool) → bytes_eq q x ≡ b → has w.caught q ≡ (has w.caught q || (not (has w.own q) && (bytes_eq q x || false)))
    by q true e = let there : has w.own q ≡ true = ap (has w.own) (same_bytes q x e) ∙ h in rw there (hidden (has w.caught q) (bytes_eq q x || false))
    by q false e = rw e (sym (nothing (has w.caught q) (has w.own q)))

-- a name that is noted now
pub noted_now : (old new : Walked) (x : List ℕ) → has old.caught x ≡ false → has old.own x ≡ false → new.own ≡ old.own → new.caught ≡ old.caught ++ x ∷ []
    → Notes (x ∷ []) old new
noted_now old new x fresh outer own caught = record {
  own = own;
  caught = λ q. ap (λ l. has l q) caught ∙ has-append old.caught (x ∷ []) q ∙ by q (bytes_eq q x) refl;
  once = λ d. subst (IsDistinct bytes_eq) (sym caught) (IsDistinct-push bytes_laws old.caught x d fresh);
}
  where
    by : (q : List ℕ) (b : Bool) → bytes_eq q x ≡ b → (has old.caught q || has (x ∷ []) q) ≡ (has old.caught q || (not (has old.own q) && has (x ∷ []) q))
    by q true e = let there : has old.own q ≡ false = ap (has old.own) (same_bytes q x e) ∙ outer in rw there refl
    by q false e = rw e (let n = nothing (has old.caught q) (has old.own q) in nothing_more (has old.caught q) ∙ sym n)
      where
        nothing_more : (a : Bool) → (a || false) ≡ a
        nothing_more true = refl
        nothing_more false = refl

-- two lists of names, one after the other
pub then_noted : {xs ys : List (List ℕ)} {a b c : Walked} → Notes xs a b → Notes ys b c → Notes (xs ++ ys) a c
then_noted {xs = xs} {ys = ys} {a = a} {b = b} {c = c} f g = record {
  own = g.own ∙ f.own;
  caught = λ q. g.caught q ∙ ap (λ o. has b.caught q || (not (has o q) && has ys q)) f.own ∙ ap (λ h. h || (not (has a.own q) && has ys q)) (f.caught q)
      ∙ both (has a.caught q) (not (has a.own q)) (has xs q) (has ys q) ∙ ap (λ h. has a.caught q || (not (has a.own q) && h)) (sym (has-append xs ys q));
  once = λ d. g.once (f.once d);
}

-- names that are equal are noted alike
pub noted_same : {xs ys : List (List ℕ)} {a b : Walked} → xs ≡ ys → Notes xs a b → Notes ys a b
noted_same {a = a} {b = b} e n = subst (λ l. Notes l a b) e n

-- names of which each is one of others, and the other way round
pub noted_alike : {xs ys : List (List ℕ)} {a b : Walked} → ((q : List ℕ) → has xs q ≡ has ys q) → Notes xs a b → Notes ys a b
noted_alike {a = a} same n = record {
  own = n.own;
  caught = λ q. n.caught q ∙ ap (λ h. has a.caught q || (not (has a.own q) && h)) (same q);
  once = n.once;
}

-- what a loop that notes names has still to come to
pub record InNames (all rest : List (List ℕ)) (start now : Walked) : Type 0 where
  pub own : now.own ≡ start.own
  pub ahead : (q : List ℕ) → (has now.caught q || (not (has now.own q) && has rest q)) ≡ (has start.caught q || (not (has start.own q) && has all q))
  pub once : IsDistinct bytes_eq start.caught → IsDistinct bytes_eq now.caught

pub names_begin : (all : List (List ℕ)) (w : Walked) → InNames all all w w
names_begin all w = record { own = refl; ahead = λ q. refl; once = λ d. d }

pub names_step : {all rest xs after : List (List ℕ)} {start now next : Walked} → rest ≡ xs ++ after → InNames all rest start now → Notes xs now next
    → InNames all after start next
names_step {rest = rest} {xs = xs} {after = after} {start = start} {now = now} {next = next} e i n = record {
  own = n.own ∙ i.own;
  ahead = λ q. ap (λ o. has next.caught q || (not (has o q) && has after q)) n.own ∙ ap (λ h. h || (not (has now.own q) && has after q)) (n.caught q)
      ∙ both (has now.caught q) (not (has now.own q)) (has xs q) (has after q)
      ∙ ap (λ h. has now.caught q || (not (has now.own q) && h)) (sym (has-append xs after q) ∙ ap (λ l. has l q) (sym e)) ∙ i.ahead q;
  once = λ d. n.once (i.once d);
}

pub names_end : {all rest : List (List ℕ)} {start now : Walked} → rest ≡ [] → InNames all rest start now → Notes all start now
names_end {rest = rest} {now = now} e i = record {
  own = i.own;
  caught = λ q. sym (nothing (has now.caught q) (has now.own q)) ∙ ap (λ l. has now.caught q || (not (has now.own q) && has l q)) (sym e) ∙ i.ahead q;
  once = i.once;
}

-- what a walk through a block has still to come to
pub record InBlock (all rest : Block) (start now : Walked) : Type 0 where
  pub declared : List (List ℕ)
  pub own : now.own ≡ start.own ++ declared
  pub ahead : (q : List ℕ)
      → (has now.caught q || (not (has now.own q) && has (free_names rest) q)) ≡ (has start.caught q || (not (has start.own q) && has (free_names all) q))
  pub once : IsDistinct bytes_eq start.caught → IsDistinct bytes_eq now.caught

pub block_begin : (all : Block) (w : Walked) → InBlock all all w w
block_begin all w = record { declared = []; own = sym (append-nil w.own); ahead = λ q. refl; once = λ d. d }

pub block_step : {all rest after : Block} {s : Statement} {start now used within next : Walked} → rest ≡ Then s after → InBlock all rest start now
    → Notes (used_by s) now used → Notes (free_within s) used within → Declares (lets_of s) within next → InBlock all after start next
block_step {all = all} {rest = rest} {after = after} {s = s} {start = start} {now = now} {within = within} {next = next} e i u w d =
    let n : Notes (used_by s ++ free_within s) now within = then_noted u w in
    record {
      declared = i.declared ++ lets_of s;
      own = d.own ∙ ap (λ o. o ++ lets_of s) (n.own ∙ i.own) ∙ append_assoc start.own i.declared (lets_of s);
      ahead = λ q.
          ap (λ c. has c q || (not (has next.own q) && has (free_names after) q)) d.caught
          ∙ ap (λ h. h || (not (has next.own q) && has (free_names after) q)) (n.caught q)
          ∙ ap (λ h. (has now.caught q || (not (has now.own q) && has (used_by s ++ free_within s) q)) || (not h && has (free_names after) q))
          (ap (λ o. has o q) (d.own ∙ ap (λ o. o ++ lets_of s) n.own) ∙ has-append now.own (lets_of s) q)
          ∙ behind (has now.caught q) (has now.own q) (has (used_by s ++ free_within s) q) (has (lets_of s) q) (has (free_names after) q)
          ∙ ap (λ h. has now.caught q || (not (has now.own q) && h))
          (ap (λ h. has (used_by s ++ free_within s) q || h) (sym (has-without (lets_of s) (free_names after) q))
          ∙ sym (has-append (used_by s ++ free_within s) (without (lets_of s) (free_names after)) q) ∙ ap (λ b. has (free_names b) q) (sym e))
          ∙ i.ahead q;
      once = λ x. subst (IsDistinct bytes_eq) (sym d.caught) (n.once (i.once x));
    }

pub block_end : {all rest : Block} {start now end : Walked} → rest ≡ Nil → InBlock all rest start now → end.own ≡ take (length start.own) now.own → end.caught ≡ now.caught
    → Notes (free_names all) start end
block_end {rest = rest} {start = start} {now = now} e i own caught = record {
  own = own ∙ ap (take (length start.own)) i.own ∙ take-append_seam start.own i.declared;
  caught = λ q. ap (λ l. has l q) caught ∙ sym (nothing (has now.caught q) (has now.own q))
      ∙ ap (λ b. has now.caught q || (not (has now.own q) && has (free_names b) q)) (sym e) ∙ i.ahead q;
  once = λ d. subst (IsDistinct bytes_eq) (sym caught) (i.once d);
}

-- a block in which two more names are in force
pub under_two : {x y : List ℕ} {l : List (List ℕ)} {start one two now end : Walked} → Declares (x ∷ []) start one → Declares (y ∷ []) one two → Notes l two now
    → end.own ≡ take (length start.own) now.own → end.caught ≡ now.caught → Notes (without (x ∷ y ∷ []) l) start end
under_two {x = x} {y = y} {l = l} {start = start} {one = one} {two = two} {now = now} d e n own caught =
    let inner : two.own ≡ (start.own ++ x ∷ []) ++ y ∷ [] = e.own ∙ ap (λ o. o ++ y ∷ []) d.own in
    record {
      own = own ∙ ap (take (length start.own)) (n.own ∙ inner ∙ append_assoc start.own (x ∷ []) (y ∷ [])) ∙ take-append_seam start.own (x ∷ y ∷ []);
      caught = λ q. ap (λ c. has c q) caught ∙ n.caught q ∙ ap (λ c. has c q || (not (has two.own q) && has l q)) (e.caught ∙ d.caught)
          ∙ ap (λ o. has start.caught q || (not o && has l q))
          (ap (λ o. has o q) inner ∙ has-append (start.own ++ x ∷ []) (y ∷ []) q ∙ ap (λ h. h || (bytes_eq q y || false)) (has-append start.own (x ∷ []) q))
          ∙ under (has start.caught q) (has start.own q) (bytes_eq q x) (bytes_eq q y) (has l q)
          ∙ ap (λ h. has start.caught q || (not (has start.own q) && h)) (sym (has-without (x ∷ y ∷ []) l q));
      once = λ h. subst (IsDistinct bytes_eq) (sym caught) (n.once (subst (IsDistinct bytes_eq) (sym (e.caught ∙ d.caught)) h));
    }

none_twice : IsDistinct bytes_eq []
unfolding IsDistinct
none_twice = tt

-- from nothing noted, what is noted has each name once
pub once_from : {names : List (List ℕ)} {start end : Walked} → start ≡ record { own = []; caught = [] } → Notes names start end → HasEachOnce names end.caught
once_from {names = names} {start = start} {end = end} e n = record {
  same = λ q. n.caught q ∙ ap (λ w. has w.caught q || (not (has w.own q) && has names q)) e;
  distinct = n.once (subst (λ w. IsDistinct bytes_eq w.caught) (sym e) none_twice);
}

-- how many names an `each` catches
pub counted : {names : List (List ℕ)} (i x : Named) (block : Block) → HasEachOnce (without (i.name ∷ x.name ∷ []) (free_names block)) names
    → length names ≡ caught_count i x block
counted {names = names} i x block h = length-from_keys bytes_laws names (without (i.name ∷ x.name ∷ []) (free_names block)) h.distinct h.same
