-- The touches of a capsule's instructions are what the capsule reads and writes.
use Rattle.std.proofs.Common.{◌≡◌, ℕ, zero, suc, ◌+◌, ◌-◌, max, Bool, true, false, List, [], ◌∷◌, ◌++◌, refl, sym, ap, subst}
use Rattle.std.proofs.Common.{cond, slice_set, inl, inr}
use Rattle.std.specs.Prelude.{◌⊎◌, ◌↔◌, replicate}
use Rattle.std.proofs.lemmas.Bool.{cond-false}
use Rattle.ppm_strands.specs.Tree.{Has}
use Rattle.ppm_strands.proofs.LocationLemmas.{in_or_not}
use Rattle.ppm_strands.specs.Capsule.{Capsule, Reads, Writes, Asks as AsksFor, Ends, Memory, In, is_in, store, written, exposed, exposed_past}
use Rattle.ppm_strands.specs.Strand.{Own, New as NewWord, Shared, addresses}
use Rattle.ppm_code.specs.declared.act.Act.{Act}
use Rattle.ppm_code.specs.declared.act.Act.TheVariants.{Sets, Passes, Jumps, Steps, Ends as Stops}
use Rattle.ppm_code.specs.declared.act.End.{End}
use Rattle.ppm_code.specs.declared.act.Step.TheVariants.{Loads, Stores, Asks}
use Rattle.ppm_code.specs.declared.instr.Instr.{Instr}
use Rattle.ppm_code.specs.declared.location.Location.{Location}
use Rattle.ppm_code.specs.declared.location.Location.TheVariants.{Frame, New, Array}
use Rattle.ppm_code.specs.Acts.{does}
use Rattle.ppm_code.specs.Capsules.{at_act, capsule_from, capsule_of}
use Rattle.ppm_code.specs.Locations.{Where, code_locations, location_of}
use Rattle.ppm_races.specs.Touches.{touches_at, words_in, written_in, after_act, touches_from, touches_of}
use Rattle.ppm_races.specs.declared.touch.Touch.{Touch}

-- all that a capsule reads and writes, in the order in which it does
abbrev accessed : Capsule Where End → Memory Where → List Where
accessed (Reads l go) m = l ∷ accessed (go (m l)) m
accessed (Writes l v go) m = l ∷ accessed go (store code_locations m l v)
accessed (AsksFor n go) m = accessed go m
accessed (Ends e) m = []

-- what a step touches is what its location's address is
address_first : (l : Location) (b : Bool) (at : ℕ) (log : List Touch) (ls : List Where) → words_in log ≡ addresses ls
    → words_in (touches_at l b at ++ log) ≡ addresses (location_of l ∷ ls)
address_first (Frame own) b at log ls same = same
address_first (New offset) b at log ls same = same
address_first (Array word) b at log ls same = ap (λ (xs : List ℕ). word ∷ xs) same

-- a write is noted as written
written_first : (l : Location) (at : ℕ) (log : List Touch) (ls : List Where) → written_in log ≡ addresses ls
    → written_in (touches_at l true at ++ log) ≡ addresses (location_of l ∷ ls)
written_first (Frame own) at log ls same = same
written_first (New offset) at log ls same = same
written_first (Array word) at log ls same = ap (λ (xs : List ℕ). word ∷ xs) same

-- a read is not
read_first : (l : Location) (at : ℕ) (log : List Touch) (ls : List Where) → written_in log ≡ addresses ls
    → written_in (touches_at l false at ++ log) ≡ addresses ls
read_first (Frame own) at log ls same = same
read_first (New offset) at log ls same = same
read_first (Array word) at log ls same = same

-- touches and a capsule have the same words
pub record AreOf (log : List Touch) (c : Capsule Where End) (m : Memory Where) : Type 0 where
  pub all : words_in log ≡ addresses (accessed c m)
  pub written : written_in log ≡ addresses (written code_locations c m)

-- by what an instruction does
step_of : (log_at : ℕ → List ℕ → Memory Where → List Touch) (capsule_at : ℕ → List ℕ → Capsule Where End)
    → ((t : ℕ) (h : List ℕ) (n : Memory Where) → AreOf (log_at t h n) (capsule_at t h) n) → (here : ℕ) (a : Act) (g : List ℕ) (m : Memory Where)
    → AreOf (after_act log_at here a g m) (at_act capsule_at (here + 1) a g) m
step_of log_at capsule_at same here (Sets d v) g m = same (here + 1) (slice_set g d.index v) m
step_of log_at capsule_at same here Passes g m = same (here + 1) g m
step_of log_at capsule_at same here (Jumps t) g m = same (max t (here + 1)) g m
step_of log_at capsule_at same here (Steps (Loads l d)) g m =
    let h = slice_set g d.index (m (location_of l)) in
    let rest = same (here + 1) h m in
    record {
      all = address_first l false here (log_at (here + 1) h m) (accessed (capsule_at (here + 1) h) m) rest.all;
      written = read_first l here (log_at (here + 1) h m) (written code_locations (capsule_at (here + 1) h) m) rest.written;
    }
step_of log_at capsule_at same here (Steps (Stores l v)) g m =
    let n = store code_locations m (location_of l) v in
    let rest = same (here + 1) g n in
    record {
      all = address_first l true here (log_at (here + 1) g n) (accessed (capsule_at (here + 1) g) n) rest.all;
      written = written_first l here (log_at (here + 1) g n) (written code_locations (capsule_at (here + 1) g) n) rest.written;
    }
step_of log_at capsule_at same here (Steps (Asks n)) g m = let rest = same (here + 1) g m in record { all = rest.all; written = rest.written }
step_of log_at capsule_at same here (Stops e) g m = record { all = refl; written = refl }

-- at each instruction
touches_are : (array_words here skip : ℕ) (is : List Instr) (g : List ℕ) (m : Memory Where)
    → AreOf (touches_from array_words here skip is g m) (capsule_from array_words here skip is g) m
touches_are array_words here skip [] g m = record { all = refl; written = refl }
touches_are array_words here (suc skip) (i ∷ is) g m = touches_are array_words (here + 1) skip is g m
touches_are array_words here zero (i ∷ is) g m =
    step_of (λ t h n. touches_from array_words (here + 1) (t - (here + 1)) is h n) (λ t h. capsule_from array_words (here + 1) (t - (here + 1)) is h)
    (λ t h n. touches_are array_words (here + 1) (t - (here + 1)) is h n) here (does array_words i g) g m

-- what is read without having been written, and what is written, is all that is accessed
address_in : (x : ℕ) (ls : List Where) → In (Shared x) ls → Has x (addresses ls)
address_in x [] h = absurd h
address_in x (Own s ∷ ls) h = elim h [ inl e ↦ absurd (cc) | inr y ↦ address_in x ls y ]
address_in x (NewWord n ∷ ls) h = elim h [ inl e ↦ absurd (cc) | inr y ↦ address_in x ls y ]
address_in x (Shared z ∷ ls) h = elim h [ inl e ↦ inl (cc) | inr y ↦ inr (address_in x ls y) ]

-- an address of a list is of its first location or of the others
head : (x : ℕ) (l : Where) (ls : List Where) → Has x (addresses (l ∷ ls)) → (l ≡ Shared x) ⊎ Has x (addresses ls)
head x (Own s) ls h = inr h
head x (NewWord n) ls h = inr h
head x (Shared z) ls h = elim h [ inl e ↦ inl (ap (λ (y : ℕ). Shared y) (sym e)) | inr y ↦ inr y ]

-- the address of the first location
front : (x : ℕ) (l : Where) (ls : List Where) → l ≡ Shared x → Has x (addresses (l ∷ ls))
front x l ls e = subst (λ (k : Where). Has x (addresses (k ∷ ls))) (sym e) (inl refl)

-- an address of the others
more_there : (x : ℕ) (l : Where) (ls : List Where) → Has x (addresses ls) → Has x (addresses (l ∷ ls))
more_there x (Own s) ls h = h
more_there x (NewWord n) ls h = h
more_there x (Shared z) ls h = inr h

-- an address of the others, where the first location may be left out
cond_more : (b : Bool) (x : ℕ) (l : Where) (ls : List Where) → Has x (addresses ls) → Has x (addresses (cond b ls (l ∷ ls)))
cond_more true x l ls h = h
cond_more false x l ls h = more_there x l ls h

-- an address, where the first location may be left out
cond_less : (b : Bool) (x : ℕ) (l : Where) (ls ks : List Where) → (Has x (addresses ls) → Has x (addresses ks)) → Has x (addresses (cond b ls (l ∷ ls)))
    → Has x (addresses (l ∷ ks))
cond_less true x l ls ks f h = more_there x l ks (f h)
cond_less false x l ls ks f h = elim (head x l ls h) [ inl e ↦ front x l ks e | inr y ↦ more_there x l ks (f y) ]

-- what is accessed was written before, or is read or written now
forth : (x : ℕ) (w : List Where) (p : Capsule Where End) (m : Memory Where) → Has x (addresses (accessed p m))
    → Has x (addresses w) ⊎ (Has x (addresses (exposed_past code_locations w p m)) ⊎ Has x (addresses (written code_locations p m)))
forth x w (Reads l go) m h = elim (head x l _ h) [
  | inl e ↦ elim (in_or_not code_locations l w) [
    | inl i ↦ inl (address_in x w (subst (λ (k : Where). In k w) e i.0))
    | inr o ↦ inr (inl (subst (λ (ls : List Where). Has x (addresses ls))
        (sym (cond-false (is_in code_locations l w) (exposed_past code_locations w (go (m l)) m) (l ∷ exposed_past code_locations w (go (m l)) m) o.1))
        (front x l _ e)))
  ]
  | inr y ↦ elim (forth x w (go (m l)) m y) [
    | inl z ↦ inl z
    | inr z ↦ elim z [ inl u ↦ inr (inl (cond_more (is_in code_locations l w) x l _ u)) | inr u ↦ inr (inr u) ]
  ]
]
forth x w (Writes l v go) m h = elim (head x l _ h) [
  | inl e ↦ inr (inr (front x l _ e))
  | inr y ↦ elim (forth x (l ∷ w) go (store code_locations m l v) y) [
    | inl z ↦ elim (head x l w z) [ inl e ↦ inr (inr (front x l _ e)) | inr u ↦ inl u ]
    | inr z ↦ elim z [ inl u ↦ inr (inl u) | inr u ↦ inr (inr (more_there x l _ u)) ]
  ]
]
forth x w (AsksFor n go) m h = forth x w go m h
forth x w (Ends e) m h = absurd h

-- what is read or written is accessed
back : (x : ℕ) (w : List Where) (p : Capsule Where End) (m : Memory Where)
    → Has x (addresses (exposed_past code_locations w p m)) ⊎ Has x (addresses (written code_locations p m)) → Has x (addresses (accessed p m))
back x w (Reads l go) m (inl h) =
    cond_less (is_in code_locations l w) x l (exposed_past code_locations w (go (m l)) m) (accessed (go (m l)) m) (λ y. back x w (go (m l)) m (inl y)) h
back x w (Reads l go) m (inr h) = more_there x l _ (back x w (go (m l)) m (inr h))
back x w (Writes l v go) m (inl h) = more_there x l _ (back x (l ∷ w) go (store code_locations m l v) (inl h))
back x w (Writes l v go) m (inr h) = elim (head x l _ h) [
  | inl e ↦ front x l _ e
  | inr y ↦ more_there x l _ (back x (l ∷ w) go (store code_locations m l v) (inr y))
]
back x w (AsksFor n go) m h = back x w go m h
back x w (Ends e) m (inl h) = absurd h
back x w (Ends e) m (inr h) = absurd h

-- the touches of a capsule are what it reads and writes
pub record IsLogOf (log : List Touch) (p : Capsule Where End) (m : Memory Where) : Type 0 where
  pub touched : (x : ℕ) → Has x (words_in log) ↔ (Has x (addresses (exposed code_locations p m)) ⊎ Has x (addresses (written code_locations p m)))
  pub written : (x : ℕ) → Has x (written_in log) ↔ Has x (addresses (written code_locations p m))

-- the touches from the first instruction on
pub is_log : (array_words : ℕ) (is : List Instr) (m : Memory Where) → IsLogOf (touches_of array_words is m) (capsule_of array_words is) m
is_log array_words is m =
    let same = touches_are array_words 0 0 is (replicate 64 0) m in
    record {
      touched = λ x. (
        λ h. elim (forth x [] (capsule_of array_words is) m (subst (λ (xs : List ℕ). Has x xs) same.all h)) [ inl y ↦ absurd y | inr y ↦ y ],
        λ h. subst (λ (xs : List ℕ). Has x xs) (sym same.all) (back x [] (capsule_of array_words is) m h),
      );
      written = λ x. (
        λ h. subst (λ (xs : List ℕ). Has x xs) same.written h,
        λ h. subst (λ (xs : List ℕ). Has x xs) (sym same.written) h,
      );
    }
