-- What is laid out stands for what it was made from.
use Rattle.std.proofs.Common.{◌≡◌, ◌<◌, ℕ, ℤ, pos, Bool, true, false, ◌&&◌, List, [], ◌∷◌, Option, Some, None, Result, Ok, Err, refl, sym, ap, subst, ◌∙◌, length, get_or}
use Rattle.ppm_words.specs.declared.trap.Trap.{Trap}
use Rattle.ppm_tree.specs.declared.operator.Operator.{Operator}
use Rattle.ppm_tree.specs.declared.operator.Operator.TheVariants as operator
use Rattle.std.specs.Prelude.{◌||◌, if◌then◌else◌}
use Rattle.ppm_tree.specs.declared.mode.Mode.{Mode}
use Rattle.ppm_tree.specs.declared.mode.Mode.TheVariants as mode
use Rattle.ppm_tree.specs.declared.named.Named.{Named}
use Rattle.ppm_tree.specs.declared.tree.Parameter.{Parameter}
use Rattle.ppm_tree.specs.Tree.{Expression, Argument, Side, Statement, Block, Nil, Then, Let, Assign, Put, If, While, Split, Give, Procedure}
use Rattle.ppm_tree.specs.Tree as tree
use Rattle.ppm_tree.specs.Values.{applied, decided, holds, negated, truth}
use Rattle.ppm_tree.specs.State.{TrapAt, then_with, Frame, Arrays, nowhere, Region, index_in, word_at, unless_decided, evaluate, lent, with_argument, with_arguments, with_local, with_region, procedure_named, no_procedure}
use Rattle.ppm_tree.specs.State as state
use Rattle.ppm_serial.specs.declared.code.Stop.{Stop}
use Rattle.ppm_serial.specs.declared.code.Value.{Value}
use Rattle.ppm_serial.specs.declared.code.Value.TheVariants as value
use Rattle.ppm_serial.specs.declared.code.Passed.{Passed}
use Rattle.ppm_serial.specs.declared.code.Passed.TheVariants as passed
use Rattle.ppm_serial.specs.Slots.{Slots, with_local_at, with_region_at}
use Rattle.ppm_serial.specs.Worth.{worth, operated, stopped, at_line, unless}
use Rattle.ppm_serial.specs.Names.{Slotted, slot_in, frame_of}
use Rattle.ppm_serial.specs.Machine.{passing}
use Rattle.ppm_serial.specs.Laying.{Fits, IsWorth, IsLocal, IsRegion, as_frame, FitsIfAny, Passes}
use Rattle.ppm_serial.specs.Laying.{is_number, PassesOne, PassesAll, NoParameter, NoArgument, OneMore}
use Rattle.ppm_serial.proofs.SlotLemmas.{wrote_local, wrote_region, fits_local, fits_region}
use Rattle.ppm_serial.proofs.KeepLemmas.{HasParameter, HasParameters}

-- a trap stops what goes on with a value
stopped_then : {A B : Type 0} (r : Result A TrapAt) (go : A → Result B TrapAt) → then_with (stopped r) (λ x. stopped (go x)) ≡ stopped (then_with r go)
stopped_then (Ok x) go = refl
stopped_then (Err t) go = refl

stopped_line : (line : ℕ) (r : Result ℤ Trap) → at_line line r ≡ stopped (state.at_line line r)
stopped_line line (Ok x) = refl
stopped_line line (Err t) = refl

stopped_unless : (d : Option ℤ) (r : Result ℤ TrapAt) → unless d (stopped r) ≡ stopped (unless_decided d r)
stopped_unless (Some v) r = refl
stopped_unless None r = refl

-- an element, a unary minus and a binary operation by slots
element_worth : (s : Slots) (a : Arrays) (g : Region) (line : ℕ) (i : Result ℤ TrapAt)
    → then_with (stopped i) (λ i. then_with (stopped (index_in line g i)) (λ j. Ok (word_at a g j))) ≡ stopped (then_with i (λ i. then_with (index_in line g i) (λ j. Ok (word_at a g j))))
element_worth s a g line (Ok x) = stopped_then (index_in line g x) (λ j. Ok (word_at a g j))
element_worth s a g line (Err t) = refl

minus_worth : (line : ℕ) (r : Result ℤ TrapAt) → then_with (stopped r) (λ x. at_line line (negated x)) ≡ stopped (then_with r (λ x. state.at_line line (negated x)))
minus_worth line (Ok x) = stopped_line line (negated x)
minus_worth line (Err t) = refl

right_worth : (o : Operator) (line : ℕ) (x : ℤ) (r : Result ℤ TrapAt) → then_with (stopped r) (λ y. at_line line (applied o x y)) ≡ stopped (then_with r (λ y. state.at_line line (applied o x y)))
right_worth o line x (Ok y) = stopped_line line (applied o x y)
right_worth o line x (Err t) = refl

binary_worth : (o : Operator) (line : ℕ) (l r : Result ℤ TrapAt)
    → then_with (stopped l) (λ x. unless (decided o x) (then_with (stopped r) (λ y. at_line line (applied o x y))))
    ≡ stopped (then_with l (λ x. unless_decided (decided o x) (then_with r (λ y. state.at_line line (applied o x y)))))
binary_worth o line (Ok x) r = ap (unless (decided o x)) (right_worth o line x r) ∙ stopped_unless (decided o x) (then_with r (λ y. state.at_line line (applied o x y)))
binary_worth o line (Err t) r = refl

abbrev element_by : Slots → Arrays → Region → ℕ → Result ℤ Stop → Result ℤ Stop
element_by s a g line o = then_with o (λ i. then_with (stopped (index_in line g i)) (λ j. Ok (word_at a g j)))

abbrev minus_by : ℕ → Result ℤ Stop → Result ℤ Stop
minus_by line o = then_with o (λ x. at_line line (negated x))

pub worth_element : (n : Slotted) (x : Named) (e : Expression) (k : ℕ) (v : Value) → k ≡ slot_in n.regions x.name → IsWorth n e v → (s : Slots) (a : Arrays)
    → element_by s a (get_or s.regions k nowhere) x.line (worth s a v) ≡ stopped (evaluate (frame_of n s) a (tree.Element x e))
worth_element n x e k v i w s a =
    ap (λ (k : ℕ). element_by s a (get_or s.regions k nowhere) x.line (worth s a v)) i
    ∙ ap (element_by s a ((frame_of n s).regions x.name) x.line) (w s a) ∙ element_worth s a ((frame_of n s).regions x.name) x.line (evaluate (frame_of n s) a e)

pub worth_minus : (n : Slotted) (line : ℕ) (e : Expression) (v : Value) → IsWorth n e v → (s : Slots) (a : Arrays)
    → minus_by line (worth s a v) ≡ stopped (evaluate (frame_of n s) a (tree.Minus line e))
worth_minus n line e v w s a = ap (minus_by line) (w s a) ∙ minus_worth line (evaluate (frame_of n s) a e)

pub worth_binary : (n : Slotted) (o : Operator) (line : ℕ) (d e : Expression) (u v : Value) → IsWorth n d u → IsWorth n e v → (s : Slots) (a : Arrays)
    → operated o line (worth s a u) (worth s a v) ≡ stopped (evaluate (frame_of n s) a (tree.Binary o line d e))
worth_binary n o line d e u v w w' s a =
    ap (λ (r : Result ℤ Stop). operated o line r (worth s a v)) (w s a) ∙ ap (operated o line (stopped (evaluate (frame_of n s) a d))) (w' s a)
    ∙ binary_worth o line (evaluate (frame_of n s) a d) (evaluate (frame_of n s) a e)

-- what decides is what is applied
undecided : (o : Operator) (line : ℕ) (x y : ℤ) → unless (decided o x) (at_line line (applied o x y)) ≡ at_line line (applied o x y)
undecided operator.Add line x y = refl
undecided operator.Sub line x y = refl
undecided operator.Mul line x y = refl
undecided operator.Div line x y = refl
undecided operator.Rem line x y = refl
undecided operator.Eq line x y = refl
undecided operator.Ne line x y = refl
undecided operator.Lt line x y = refl
undecided operator.Le line x y = refl
undecided operator.Gt line x y = refl
undecided operator.Ge line x y = refl
undecided operator.And line x y = go (holds x)
  where
    go : (h : Bool) → unless (if h then None else Some (pos 0)) (at_line line (Ok (truth (h && holds y)))) ≡ at_line line (Ok (truth (h && holds y)))
    go true = refl
    go false = refl
undecided operator.Or line x y = go (holds x)
  where
    go : (h : Bool) → unless (if h then Some (pos 1) else None) (at_line line (Ok (truth (h || holds y)))) ≡ at_line line (Ok (truth (h || holds y)))
    go true = refl
    go false = refl

-- an operator at two locals, and at a local and a number
pub worth_locals : (o : Operator) (line k j : ℕ) (u v : Value) → u ≡ value.Local k → v ≡ value.Local j → (s : Slots) (a : Arrays)
    → worth s a (value.AtLocals o line k j) ≡ operated o line (worth s a u) (worth s a v)
worth_locals o line k j u v p q s a =
    sym (undecided o line (get_or s.locals k (pos 0)) (get_or s.locals j (pos 0)))
    ∙ ap (λ (u : Value). operated o line (worth s a u) (worth s a (value.Local j))) (sym p) ∙ ap (λ (v : Value). operated o line (worth s a u) (worth s a v)) (sym q)

pub worth_number : (o : Operator) (line k : ℕ) (z : ℤ) (u v : Value) → u ≡ value.Local k → v ≡ value.Number z → (s : Slots) (a : Arrays)
    → worth s a (value.AtNumber o line k z) ≡ operated o line (worth s a u) (worth s a v)
worth_number o line k z u v p q s a =
    sym (undecided o line (get_or s.locals k (pos 0)) z)
    ∙ ap (λ (u : Value). operated o line (worth s a u) (worth s a (value.Number z))) (sym p) ∙ ap (λ (v : Value). operated o line (worth s a u) (worth s a v)) (sym q)

-- two results with one value
abbrev ok_or : Frame → Result Frame Stop → Frame
ok_or d (Ok x) = x
ok_or d (Err e) = d

abbrev ok_frame : Frame → Result Frame Stop
ok_frame x = Ok x

ok_value : {x y : Frame} → ok_frame x ≡ ok_frame y → x ≡ y
ok_value {x = x} e = ap (ok_or x) e

-- two results of slots, one after the other, as frames
passing_first : (s : Slots) (a : Arrays) (v : Passed) (vs : List Passed) (g : Slots) → passing s a (v ∷ vs) g ≡ then_with (passing s a (v ∷ []) g) (passing s a vs)
passing_first s a (passed.Number k e) vs g = go (worth s a e)
  where
    go : (o : Result ℤ Stop) → then_with o (λ x. passing s a vs (with_local_at g k x)) ≡ then_with (then_with o (λ x. passing s a [] (with_local_at g k x))) (passing s a vs)
    go (Ok x) = refl
    go (Err e) = refl
passing_first s a (passed.Region k j) vs g = refl
passing_first s a (passed.Nowhere k) vs g = refl

-- what one argument passes
record PassesIt (n m : Slotted) (p : Parameter) (e : Expression) (v : Passed) (s : Slots) (a : Arrays) (g : Slots) : Type 0 where
  pub value : as_frame m (passing s a (v ∷ []) g) ≡ stopped (with_argument (frame_of n s) a p.mode p.name.name e (frame_of m g))
  pub fits : FitsIfAny m (passing s a (v ∷ []) g)

number_passed : (n m : Slotted) (x : List ℕ) (e : Expression) (k : ℕ) (v : Value) (s : Slots) (a : Arrays) (g : Slots) → IsLocal m x k → IsWorth n e v → Fits m g
    → as_frame m (then_with (worth s a v) (λ y. Ok (with_local_at g k y))) ≡ stopped (then_with (evaluate (frame_of n s) a e) (λ y. Ok (with_local (frame_of m g) x y)))
number_passed n m x e k v s a g i w f = ap (λ (o : Result ℤ Stop). as_frame m (then_with o (λ y. Ok (with_local_at g k y)))) (w s a) ∙ go (evaluate (frame_of n s) a e)
  where
    go : (o : Result ℤ TrapAt) → as_frame m (then_with (stopped o) (λ y. Ok (with_local_at g k y))) ≡ stopped (then_with o (λ y. Ok (with_local (frame_of m g) x y)))
    go (Ok y) = ap (λ (h : Frame). Ok h) (sym (wrote_local m g x k y i f))
    go (Err t) = refl

number_fits : (m : Slotted) (k : ℕ) (g : Slots) → Fits m g → (o : Result ℤ Stop) → FitsIfAny m (then_with o (λ y. Ok (with_local_at g k y)))
number_fits m k g f (Ok y) = fits_local k y f
number_fits m k g f (Err e) = tt

passes_one : (n m : Slotted) (p : Parameter) (e : Expression) (v : Passed) → HasParameter m p → PassesOne n m p e v → (s : Slots) (a : Arrays) (g : Slots) → Fits m g → PassesIt n m p e v s a g
passes_one n m p e (passed.Number k v) h (is, at, w) s a g f = by_mode p.mode refl
  where
    slot : IsLocal m p.name.name k
    slot = record { slot = at; there = subst (λ (j : ℕ). j < length m.locals) (sym at) (h.local is) }

    by_mode : (t : Mode) → p.mode ≡ t → PassesIt n m p e (passed.Number k v) s a g
    by_mode mode.Int q = record {
      value = subst (λ (t : Mode). as_frame m (passing s a (passed.Number k v ∷ []) g) ≡ stopped (with_argument (frame_of n s) a t p.name.name e (frame_of m g))) (sym q)
          (number_passed n m p.name.name e k v s a g slot w f);
      fits = number_fits m k g f (worth s a v);
    }
    by_mode mode.Mut q = absurd (let i = sym is ∙ ap is_number q in cc)
    by_mode mode.Ref q = absurd (let i = sym is ∙ ap is_number q in cc)
passes_one n m p e (passed.Region k j) h (is, q_) s a g f = by_mode p.mode refl
  where
    slot : IsRegion m p.name.name k
    slot = record { slot = q_.0; there = subst (λ (j : ℕ). j < length m.regions) (sym q_.0) h.region }

    same_ : frame_of m (with_region_at g k (get_or s.regions j nowhere)) ≡ with_region (frame_of m g) p.name.name (lent (frame_of n s) e)
    same_ = sym (wrote_region m g p.name.name k (get_or s.regions j nowhere) slot f) ∙ ap (with_region (frame_of m g) p.name.name) (sym (q_.1 s))

    by_mode : (t : Mode) → p.mode ≡ t → PassesIt n m p e (passed.Region k j) s a g
    by_mode mode.Int q = absurd (let i = sym is ∙ ap is_number q in cc)
    by_mode mode.Mut q = record {
      value = subst (λ (t : Mode). as_frame m (passing s a (passed.Region k j ∷ []) g) ≡ stopped (with_argument (frame_of n s) a t p.name.name e (frame_of m g))) (sym q) (ap (λ (h : Frame). Ok h) same_);
      fits = fits_region k (get_or s.regions j nowhere) f;
    }
    by_mode mode.Ref q = record {
      value = subst (λ (t : Mode). as_frame m (passing s a (passed.Region k j ∷ []) g) ≡ stopped (with_argument (frame_of n s) a t p.name.name e (frame_of m g))) (sym q) (ap (λ (h : Frame). Ok h) same_);
      fits = fits_region k (get_or s.regions j nowhere) f;
    }
passes_one n m p e (passed.Nowhere k) h (is, q_) s a g f = by_mode p.mode refl
  where
    slot : IsRegion m p.name.name k
    slot = record { slot = q_.0; there = subst (λ (j : ℕ). j < length m.regions) (sym q_.0) h.region }

    same_ : frame_of m (with_region_at g k nowhere) ≡ with_region (frame_of m g) p.name.name (lent (frame_of n s) e)
    same_ = sym (wrote_region m g p.name.name k nowhere slot f) ∙ ap (with_region (frame_of m g) p.name.name) (sym (q_.1 (frame_of n s)))

    by_mode : (t : Mode) → p.mode ≡ t → PassesIt n m p e (passed.Nowhere k) s a g
    by_mode mode.Int q = absurd (let i = sym is ∙ ap is_number q in cc)
    by_mode mode.Mut q = record {
      value = subst (λ (t : Mode). as_frame m (passing s a (passed.Nowhere k ∷ []) g) ≡ stopped (with_argument (frame_of n s) a t p.name.name e (frame_of m g))) (sym q) (ap (λ (h : Frame). Ok h) same_);
      fits = fits_region k nowhere f;
    }
    by_mode mode.Ref q = record {
      value = subst (λ (t : Mode). as_frame m (passing s a (passed.Nowhere k ∷ []) g) ≡ stopped (with_argument (frame_of n s) a t p.name.name e (frame_of m g))) (sym q) (ap (λ (h : Frame). Ok h) same_);
      fits = fits_region k nowhere f;
    }

-- what goes on with slots goes on with their frame
passed_on : (n m : Slotted) (ps : List Parameter) (es : List Argument) (vs : List Passed) (s : Slots) (a : Arrays) (o : Result Slots Stop) (r : Result Frame TrapAt)
    → as_frame m o ≡ stopped r → FitsIfAny m o → ((g : Slots) → Fits m g → Passes n m ps es vs s a g)
    → (as_frame m (then_with o (passing s a vs)) ≡ stopped (then_with r (with_arguments (frame_of n s) a ps es))) × FitsIfAny m (then_with o (passing s a vs))
passed_on n m ps es vs s a (Ok g) (Ok h) e f rest =
    let q = rest g f in
    (q.value ∙ ap (λ (h : Frame). stopped (with_arguments (frame_of n s) a ps es h)) (ok_value e), q.fits)
passed_on n m ps es vs s a (Ok g) (Err t) e f rest = cc
passed_on n m ps es vs s a (Err x) (Ok h) e f rest = cc
passed_on n m ps es vs s a (Err x) (Err t) e f rest = (e, tt)

pub passes_all : (n m : Slotted) (ps : List Parameter) (es : List Argument) (vs : List Passed) → HasParameters m ps → PassesAll n m ps es vs → (s : Slots) (a : Arrays) (g : Slots) → Fits m g
    → Passes n m ps es vs s a g
passes_all n m _ _ _ h (NoParameter es) s a g f = record { value = refl; fits = f }
passes_all n m _ _ _ h (NoArgument p ps) s a g f = record { value = refl; fits = f }
passes_all n m _ _ _ h (OneMore p ps e es v vs one rest) s a g f =
    let i = passes_one n m p e.value v h.0 one s a g f in
    let r = passed_on n m ps es vs s a (passing s a (v ∷ []) g) (with_argument (frame_of n s) a p.mode p.name.name e.value (frame_of m g)) i.value i.fits
    (λ g f. passes_all n m ps es vs h.1 rest s a g f) in
    record {
      value = ap (as_frame m) (passing_first s a v vs g) ∙ r.0;
      fits = subst (FitsIfAny m) (sym (passing_first s a v vs g)) r.1;
    }
