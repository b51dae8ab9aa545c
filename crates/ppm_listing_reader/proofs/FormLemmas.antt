-- Lines and their forms: what is read of a line tells its text.
use Rattle.std.proofs.Common.{◌≡◌, ◌∙◌, ℕ, zero, suc, ◌+◌, ◌-◌, ◌^◌, ◌<◌, ◌==◌, min, Bool, true, false, not, ◌&&◌, cond, nat_lt, nat_le, List}
use Rattle.std.proofs.Common.{[], ◌∷◌, get_or, drop, decimal, is_some, Option, Some, None, refl, sym, ap, subst, arith}
use Rattle.std.proofs.Common.{ltb-true, leb-true, eqb-true, get_or-drop, drop-drop}
use Rattle.std.specs.Prelude.{ℤ, pos, negsuc}
use Rattle.std.specs.List.{list_all, AllByRecursion}
use Rattle.std.proofs.lemmas.Bool.{both_ways}
use Rattle.ppm_words.specs.declared.trap.Trap.{Trap}
use Rattle.ppm_words.specs.declared.trap.Trap.TheVariants.{Overflow, DivZero, Index, Split}
use Rattle.ppm_code.specs.declared.register.Register.{Register as TheRegister}
use Rattle.ppm_code.specs.declared.act.End.TheVariants.{Trap as Trapping, Fork}
use Rattle.ppm_code.specs.declared.instr.Instr.{Instr}
use Rattle.ppm_code.specs.declared.instr.Instr.TheVariants.{Const, Ends}
use Rattle.ppm_listing.specs.declared.keyword.Keyword.{Keyword}
use Rattle.ppm_listing.specs.declared.keyword.Keyword.TheVariants as keyword
use Rattle.ppm_listing.specs.declared.token.Token.{Token as Written}
use Rattle.ppm_listing.specs.declared.token.Token.TheVariants as written
use Rattle.ppm_listing.specs.Tokens.{Line, line, token_text}
use Rattle.ppm_listing.specs.Listing.{number, slot_token, trap_number, instr_line, root_line, procedure_line, capsule_line}
use Rattle.ppm_listing.specs.Correct.{Fits}
use Rattle.ppm_listing_reader.specs.declared.token.Token.{Token}
use Rattle.ppm_listing_reader.specs.declared.token.Token.TheVariants.{Name, Register, Number, Negative, Absent, Other}
use Rattle.ppm_listing_reader.specs.declared.form.Sort.{Sort}
use Rattle.ppm_listing_reader.specs.declared.form.Sort.TheVariants as sort
use Rattle.ppm_listing_reader.specs.declared.part.Part.{Part}
use Rattle.ppm_listing_reader.specs.declared.part.Part.TheVariants as part
use Rattle.ppm_listing_reader.specs.Forms.{is_of, are_of, sorts, token_at, is_absent, has_form, number_of, number_at, slot_of, register_with}
use Rattle.ppm_listing_reader.specs.Forms.{register_of, register_at, constant_of, trap_of, is_register}
use Rattle.ppm_listing_reader.specs.Forms.{constant, trapping, instr_of, part_of}
use Rattle.ppm_pieces.proofs.NumberLemmas.{both_parts}
use Rattle.ppm_listing_reader.proofs.WordLemmas.{word_of, IsWhole}

-- a constant, or any
abbrev pub some_constant : Option ℤ → ℤ
some_constant None = pos 0
some_constant (Some z) = z

-- what is written for a token where it is of a sort
abbrev pub rewritten : Sort → Token → Written
rewritten sort.Register t = written.Register (register_of t)
rewritten sort.Number t = number (number_of t)
rewritten sort.Constant t = written.Number (some_constant (constant_of t))
rewritten sort.Slot t = slot_token (slot_of t)
rewritten sort.Version t = number 1
rewritten sort.Slots t = written.Name keyword.Slots
rewritten sort.Entry t = written.Name keyword.Entry
rewritten sort.Proc t = written.Name keyword.Proc

abbrev pub all_rewritten : ℕ → List Sort → List Token → List Written
all_rewritten n [] ts = []
all_rewritten n (s ∷ ss) ts = rewritten s (token_at ts n) ∷ all_rewritten (n + 1) ss ts

-- what a token names is there
abbrev pub Names : Sort → Token → Type 0
Names sort.Register t = is_register t ≡ true
Names sort.Constant t = is_some (constant_of t) ≡ true
Names _ t = Unit {0}

abbrev pub AllName : ℕ → List Sort → List Token → Type 0
AllName n [] ts = Unit {0}
AllName n (s ∷ ss) ts = Names s (token_at ts n) × AllName (n + 1) ss ts

-- a number that is not cut off
abbrev pub small_limit : ℕ
small_limit = 2 ^ 32 - 1

abbrev pub IsBelow : (limit : ℕ) → Written → Type 0
IsBelow limit (written.Number (pos n)) = n < limit
IsBelow limit _ = Unit {0}

abbrev pub IsSmall : Written → Type 0
IsSmall w = IsBelow small_limit w

abbrev pub IsRightBelow : (limit : ℕ) → Sort → Written → Type 0
IsRightBelow limit sort.Constant w = Unit {0}
IsRightBelow limit sort.Register w = Unit {0}
IsRightBelow limit _ w = IsBelow limit w

abbrev pub IsRight : Sort → Written → Type 0
IsRight s w = IsRightBelow small_limit s w

abbrev pub AreRightBelow : (limit : ℕ) → List Sort → List Written → Type 0
AreRightBelow limit [] ws = Unit {0}
AreRightBelow limit (s ∷ ss) [] = Unit {0}
AreRightBelow limit (s ∷ ss) (w ∷ ws) = IsRightBelow limit s w × AreRightBelow limit ss ws

abbrev pub AreRight : List Sort → List Written → Type 0
AreRight ss ws = AreRightBelow small_limit ss ws

-- the numbers of a line are below a limit, but for a constant
abbrev pub IsLineBelow : (limit : ℕ) → Line → Type 0
IsLineBelow limit l = of_keyword l.keyword l.operands
  where
    of_keyword : Keyword → List Written → Type 0
    of_keyword keyword.Root ws = AllByRecursion (IsBelow limit) ws
    of_keyword k ws = AreRightBelow limit (sorts k) ws

abbrev pub IsSmallLine : Line → Type 0
IsSmallLine l = IsLineBelow small_limit l

-- a register is told by its number
register_index : (n : ℕ) → nat_lt n 64 ≡ true → (register_of (Register n)).index ≡ n
register_index n h = go (nat_lt n 64) refl h
  where
    go : (small : Bool) (e : nat_lt n 64 ≡ small) → small ≡ true → (register_with n small e).index ≡ n
    go true e h = refl
    go false e h = absurd (both_ways false refl h)

-- one token: it is whole, its word is what is written, and that fits
pub record IsToken (t : Token) (w : Written) : Type 0 where
  pub whole : IsWhole t
  pub word : word_of t ≡ token_text w
  pub fits : Fits w

pub small_number : (n : ℕ) → min n (2 ^ 32 - 1) < small_limit → IsToken (Number n) (number (min n (2 ^ 32 - 1)))
small_number n h = let same : n ≡ min n (2 ^ 32 - 1) = omega (arith, h) in record {
  whole = omega (arith, h);
  word = ap decimal same;
  fits = record { sfits = omega (arith, h) };
}

positive : (n : ℕ) → is_some (constant_of (Number n)) ≡ true → IsToken (Number n) (written.Number (some_constant (constant_of (Number n))))
positive n h = go (nat_lt n (2 ^ 63)) refl h
  where
    go : (small : Bool) → nat_lt n (2 ^ 63) ≡ small → is_some (cond small (Some (pos n)) None) ≡ true
        → IsToken (Number n) (written.Number (some_constant (cond small (Some (pos n)) None)))
    go true e h = record { whole = omega (arith, ltb-true n (2 ^ 63) e); word = refl; fits = record { sfits = ltb-true n (2 ^ 63) e } }
    go false e h = absurd (both_ways false refl h)

negative : (n : ℕ) → 0 < n → is_some (constant_of (Negative n)) ≡ true → IsToken (Negative n) (written.Number (some_constant (constant_of (Negative n))))
negative n some h = go (nat_le n (2 ^ 63)) refl h
  where
    go : (small : Bool) → nat_le n (2 ^ 63) ≡ small → is_some (cond small (Some (negsuc (n - 1))) None) ≡ true
        → IsToken (Negative n) (written.Number (some_constant (cond small (Some (negsuc (n - 1))) None)))
    go true e h =
        let low = leb-true n (2 ^ 63) e in
        let same : n ≡ suc (n - 1) = omega (arith, some) in
        record { whole = omega (arith, low); word = ap (λ m. 45 ∷ decimal m) same; fits = record { sfits = omega (arith, some, low) } }
    go false e h = absurd (both_ways false refl h)

-- a number after a minus is not 0
abbrev pub IsProper : Token → Type 0
IsProper (Negative n) = 0 < n
IsProper _ = Unit {0}

no : {A : Type 0} → false ≡ true → A
no h = absurd (both_ways false refl h)

one_token : (s : Sort) (t : Token) → IsProper t → is_of s t ≡ true → Names s t → IsRight s (rewritten s t) → IsToken t (rewritten s t)
one_token sort.Register (Register n) p h g r =
    record { whole = omega (arith, ltb-true n 64 g); word = ap (λ m. 114 ∷ decimal m) (sym (register_index n g)); fits = tt }
one_token sort.Register (Name k) p h g r = no h
one_token sort.Register (Number n) p h g r = no h
one_token sort.Register (Negative n) p h g r = no h
one_token sort.Register Absent p h g r = no h
one_token sort.Register Other p h g r = no h
one_token sort.Number (Number n) p h g r = small_number n r
one_token sort.Number (Name k) p h g r = no h
one_token sort.Number (Register n) p h g r = no h
one_token sort.Number (Negative n) p h g r = no h
one_token sort.Number Absent p h g r = no h
one_token sort.Number Other p h g r = no h
one_token sort.Constant (Number n) p h g r = positive n g
one_token sort.Constant (Negative n) p h g r = negative n p g
one_token sort.Constant (Name k) p h g r = no h
one_token sort.Constant (Register n) p h g r = no h
one_token sort.Constant Absent p h g r = no h
one_token sort.Constant Other p h g r = no h
one_token sort.Slot (Number n) p h g r = small_number n r
one_token sort.Slot Absent p h g r = record { whole = tt; word = refl; fits = tt }
one_token sort.Slot (Name k) p h g r = no h
one_token sort.Slot (Register n) p h g r = no h
one_token sort.Slot (Negative n) p h g r = no h
one_token sort.Slot Other p h g r = no h
one_token sort.Version (Number n) p h g r =
    let one = eqb-true n 1 h in record { whole = omega (arith, one); word = ap decimal one; fits = record { sfits = omega arith } }
one_token sort.Version (Name k) p h g r = no h
one_token sort.Version (Register n) p h g r = no h
one_token sort.Version (Negative n) p h g r = no h
one_token sort.Version Absent p h g r = no h
one_token sort.Version Other p h g r = no h
one_token sort.Slots t p h g r = slots t h
  where
    slots : (t : Token) → is_of sort.Slots t ≡ true → IsToken t (written.Name keyword.Slots)
    slots (Name keyword.Slots) h = record { whole = tt; word = refl; fits = tt }
    slots _ h = no h
one_token sort.Entry t p h g r = entry t h
  where
    entry : (t : Token) → is_of sort.Entry t ≡ true → IsToken t (written.Name keyword.Entry)
    entry (Name keyword.Entry) h = record { whole = tt; word = refl; fits = tt }
    entry _ h = no h
one_token sort.Proc t p h g r = proc t h
  where
    proc : (t : Token) → is_of sort.Proc t ≡ true → IsToken t (written.Name keyword.Proc)
    proc (Name keyword.Proc) h = record { whole = tt; word = refl; fits = tt }
    proc _ h = no h

-- the tokens after a keyword
pub data AreTokens : List Token → List Written → Type 0 where
  None_left : AreTokens [] []
  One_more : (t : Token) (w : Written) (ts : List Token) (ws : List Written) → IsToken t w → AreTokens ts ws → AreTokens (t ∷ ts) (w ∷ ws)

-- the first of what is left is the token at the place
first_left : (n : ℕ) (ts us : List Token) (u : Token) → drop n ts ≡ u ∷ us → token_at ts n ≡ u
first_left n ts us u e = let same : n + 0 ≡ n = omega arith in sym (get_or-drop n ts 0 Other ∙ ap (token_at ts) same) ∙ ap (λ l. get_or l 0 Other) e

rest_left : (n : ℕ) (ts us : List Token) (u : Token) → drop n ts ≡ u ∷ us → drop (n + 1) ts ≡ us
rest_left n ts us u e = sym (drop-drop 1 n ts) ∙ ap (drop 1) e

pub all_tokens : (ss : List Sort) (n : ℕ) (ts us : List Token) → drop n ts ≡ us → AllByRecursion IsProper us → are_of ss us ≡ true → AllName n ss ts
    → AreRight ss (all_rewritten n ss ts) → AreTokens us (all_rewritten n ss ts)
all_tokens [] n ts [] e p f g r = None_left
all_tokens [] n ts (u ∷ us) e p f g r = no f
all_tokens (s ∷ ss) n ts [] e p f g r = no f
all_tokens (s ∷ ss) n ts (u ∷ us) e p f g r =
    let is = first_left n ts us u e in
    let tests = both_parts (is_of s u) (are_of ss us) f in
    One_more u (rewritten s (token_at ts n)) us (all_rewritten (n + 1) ss ts)
    (subst (λ t. IsToken u (rewritten s t)) (sym is) (one_token s u p.0 tests.0 (subst (Names s) is g.0) (subst (λ t. IsRight s (rewritten s t)) is r.0)))
    (all_tokens ss (n + 1) ts us (rest_left n ts us u e) p.1 tests.1 g.1 r.1)

-- the line of a part; an instruction that names what is not there has none
abbrev pub part_line : Part → Line
part_line part.Version = line keyword.Ppm (number 1 ∷ [])
part_line (part.Root procedure arrays) = root_line procedure arrays
part_line (part.Procedure i slots entry) = procedure_line i (record { slots = slots; entry = entry })
part_line (part.Capsule c procedure) = capsule_line c (record { procedure = procedure; instrs = [] })
part_line (part.Instr None) = line keyword.End []
part_line (part.Instr (Some i)) = instr_line i

abbrev pub IsWholePart : Part → Type 0
IsWholePart (part.Instr None) = ⊥
IsWholePart _ = Unit {0}

-- what a keyword's operands tell
pub record Tells (k : Keyword) (ts : List Token) (x : Part) : Type 0 where
  pub named : AllName 0 (sorts k) ts
  pub line : part_line x ≡ line k (all_rewritten 0 (sorts k) ts)

carried : (j i : Instr) (l : Line) → Some j ≡ Some i → instr_line j ≡ l → instr_line i ≡ l
carried j i l e h = let same : j ≡ i = cc in subst (λ x. instr_line x ≡ l) same h

registers_there : (ts : List Token) → list_all is_register ts ≡ true → (n : ℕ) → is_register (token_at ts n) ≡ true
registers_there [] h n = refl
registers_there (t ∷ ts) h zero = (both_parts (is_register t) (list_all is_register ts) h).0
registers_there (t ∷ ts) h (suc n) = registers_there ts (both_parts (is_register t) (list_all is_register ts) h).1 n

told_constant : (d : TheRegister) (o : Option ℤ) (i : Instr) → constant d o ≡ Some i
    → (is_some o ≡ true) × (instr_line i ≡ line keyword.Const (written.Register d ∷ written.Number (some_constant o) ∷ []))
told_constant d None i e = cc
told_constant d (Some z) i e = (refl, carried (Const d z) i _ e refl)

trap_number-trap_of : (n : ℕ) (trap : Trap) → trap_of n ≡ Some trap → trap_number trap ≡ n
trap_number-trap_of n trap h = by_one (n == 1) refl h
  where
    by_four : (t : Bool) → (n == 4) ≡ t → cond t (Some Split) None ≡ Some trap → trap_number trap ≡ n
    by_four true e h = let is : Split ≡ trap = cc in ap trap_number (sym is) ∙ sym (eqb-true n 4 e)
    by_four false e h = cc

    by_three : (t : Bool) → (n == 3) ≡ t → cond t (Some Index) (cond (n == 4) (Some Split) None) ≡ Some trap → trap_number trap ≡ n
    by_three true e h = let is : Index ≡ trap = cc in ap trap_number (sym is) ∙ sym (eqb-true n 3 e)
    by_three false e h = by_four (n == 4) refl h

    by_two : (t : Bool) → (n == 2) ≡ t → cond t (Some DivZero) (cond (n == 3) (Some Index) (cond (n == 4) (Some Split) None)) ≡ Some trap
        → trap_number trap ≡ n
    by_two true e h = let is : DivZero ≡ trap = cc in ap trap_number (sym is) ∙ sym (eqb-true n 2 e)
    by_two false e h = by_three (n == 3) refl h

    by_one : (t : Bool) → (n == 1) ≡ t
        → cond t (Some Overflow) (cond (n == 2) (Some DivZero) (cond (n == 3) (Some Index) (cond (n == 4) (Some Split) None))) ≡ Some trap
        → trap_number trap ≡ n
    by_one true e h = let is : Overflow ≡ trap = cc in ap trap_number (sym is) ∙ sym (eqb-true n 1 e)
    by_one false e h = by_two (n == 2) refl h

told_trap : (n at : ℕ) (o : Option Trap) (i : Instr) → trap_of n ≡ o → trapping o at ≡ Some i
    → instr_line i ≡ line keyword.Trap (number n ∷ number at ∷ [])
told_trap n at None i is e = cc
told_trap n at (Some trap) i is e =
    carried (Ends (Trapping trap at)) i _ e (ap (λ m. line keyword.Trap (number m ∷ number at ∷ [])) (trap_number-trap_of n trap is))

told_fork : (q p k : ℕ) (t u : Token) (i : Instr) → is_of sort.Slot t ≡ true → is_of sort.Slot u ≡ true → not (is_absent t && is_absent u) ≡ true
    → Some (Ends (Fork q p k (slot_of t) (slot_of u))) ≡ Some i
    → instr_line i ≡ line keyword.ForkTo (number q ∷ number p ∷ number k ∷ slot_token (slot_of t) ∷ slot_token (slot_of u) ∷ [])
told_fork q p k (Number n) u i f g h e = carried _ i _ e refl
told_fork q p k Absent (Number n) i f g h e = carried _ i _ e refl
told_fork q p k Absent Absent i f g h e = no h
told_fork q p k Absent (Name n) i f g h e = no g
told_fork q p k Absent (Register n) i f g h e = no g
told_fork q p k Absent (Negative n) i f g h e = no g
told_fork q p k Absent Other i f g h e = no g
told_fork q p k (Name n) u i f g h e = no f
told_fork q p k (Register n) u i f g h e = no f
told_fork q p k (Negative n) u i f g h e = no f
told_fork q p k Other u i f g h e = no f

-- tokens of sorts, by place
abbrev AllOf : ℕ → List Sort → List Token → Type 0
AllOf n [] ts = Unit {0}
AllOf n (s ∷ ss) ts = (is_of s (token_at ts n) ≡ true) × AllOf (n + 1) ss ts

sort_at : (ss : List Sort) (n : ℕ) (ts us : List Token) → drop n ts ≡ us → are_of ss us ≡ true → AllOf n ss ts
sort_at [] n ts us e f = tt
sort_at (s ∷ ss) n ts [] e f = no f
sort_at (s ∷ ss) n ts (u ∷ us) e f =
    let tests = both_parts (is_of s u) (are_of ss us) f in
    (ap (is_of s) (first_left n ts us u e) ∙ tests.0, sort_at ss (n + 1) ts us (rest_left n ts us u e) tests.1)

told_instr : (k : Keyword) (ts : List Token) (i : Instr) → ((n : ℕ) → is_register (token_at ts n) ≡ true) → has_form k ts ≡ true → instr_of k ts ≡ Some i
    → Tells k ts (part.Instr (Some i))
told_instr keyword.Ppm ts i r f e = cc
told_instr keyword.Root ts i r f e = cc
told_instr keyword.Proc ts i r f e = cc
told_instr keyword.Slots ts i r f e = cc
told_instr keyword.Entry ts i r f e = cc
told_instr keyword.Capsule ts i r f e = cc
told_instr keyword.Const ts i r f e =
    let told = told_constant (register_at ts 0) (constant_of (token_at ts 1)) i e in record { named = (r 0, (told.0, tt)); line = told.1 }
told_instr keyword.Move ts i r f e = record { named = (r 0, (r 1, tt)); line = carried _ i _ e refl }
told_instr keyword.Add ts i r f e = record { named = (r 0, (r 1, (r 2, (tt, tt)))); line = carried _ i _ e refl }
told_instr keyword.Sub ts i r f e = record { named = (r 0, (r 1, (r 2, (tt, tt)))); line = carried _ i _ e refl }
told_instr keyword.Mul ts i r f e = record { named = (r 0, (r 1, (r 2, (tt, tt)))); line = carried _ i _ e refl }
told_instr keyword.Div ts i r f e = record { named = (r 0, (r 1, (r 2, (tt, tt)))); line = carried _ i _ e refl }
told_instr keyword.Rem ts i r f e = record { named = (r 0, (r 1, (r 2, (tt, tt)))); line = carried _ i _ e refl }
told_instr keyword.Equal ts i r f e = record { named = (r 0, (r 1, (r 2, tt))); line = carried _ i _ e refl }
told_instr keyword.NotEqual ts i r f e = record { named = (r 0, (r 1, (r 2, tt))); line = carried _ i _ e refl }
told_instr keyword.Less ts i r f e = record { named = (r 0, (r 1, (r 2, tt))); line = carried _ i _ e refl }
told_instr keyword.AtMost ts i r f e = record { named = (r 0, (r 1, (r 2, tt))); line = carried _ i _ e refl }
told_instr keyword.Len ts i r f e = record { named = (r 0, (r 1, tt)); line = carried _ i _ e refl }
told_instr keyword.CutLeft ts i r f e = record { named = (r 0, (r 1, (r 2, (tt, tt)))); line = carried _ i _ e refl }
told_instr keyword.CutRight ts i r f e = record { named = (r 0, (r 1, (r 2, (tt, tt)))); line = carried _ i _ e refl }
told_instr keyword.LoadSlot ts i r f e = record { named = (r 0, (tt, tt)); line = carried _ i _ e refl }
told_instr keyword.StoreCur ts i r f e = record { named = (tt, (r 1, tt)); line = carried _ i _ e refl }
told_instr keyword.Give ts i r f e = record { named = (r 0, tt); line = carried _ i _ e refl }
told_instr keyword.Get ts i r f e = record { named = (r 0, (r 1, (r 2, (tt, tt)))); line = carried _ i _ e refl }
told_instr keyword.Put ts i r f e = record { named = (r 0, (r 1, (r 2, (tt, tt)))); line = carried _ i _ e refl }
told_instr keyword.BranchZero ts i r f e = record { named = (r 0, (tt, tt)); line = carried _ i _ e refl }
told_instr keyword.BranchNonZero ts i r f e = record { named = (r 0, (tt, tt)); line = carried _ i _ e refl }
told_instr keyword.Room ts i r f e = record { named = (tt, tt); line = carried _ i _ e refl }
told_instr keyword.StoreNew ts i r f e = record { named = (tt, (r 1, tt)); line = carried _ i _ e refl }
told_instr keyword.Next ts i r f e = record { named = (tt, tt); line = carried _ i _ e refl }
told_instr keyword.End ts i r f e = record { named = tt; line = carried _ i _ e refl }
told_instr keyword.Call ts i r f e = record { named = (tt, (tt, tt)); line = carried _ i _ e refl }
told_instr keyword.CallTo ts i r f e = record { named = (tt, (tt, (tt, tt))); line = carried _ i _ e refl }
told_instr keyword.Fork ts i r f e = record { named = (tt, (tt, (tt, tt))); line = carried _ i _ e refl }
told_instr keyword.Trap ts i r f e =
    record { named = (tt, (tt, tt)); line = told_trap (number_at ts 0) (number_at ts 1) (trap_of (number_at ts 0)) i refl e }
told_instr keyword.ForkTo ts i r f e =
    let tests = both_parts (are_of (sorts keyword.ForkTo) ts) (not (is_absent (token_at ts 3) && is_absent (token_at ts 4))) f in
    let of = sort_at (sorts keyword.ForkTo) 0 ts ts refl tests.0 in
    record {
      named = (tt, (tt, (tt, (tt, (tt, tt)))));
      line = told_fork (number_at ts 0) (number_at ts 1) (number_at ts 2) (token_at ts 3) (token_at ts 4) i of.1.1.1.0 of.1.1.1.1.0 tests.1 e;
    }

by_instr : (k : Keyword) (ts : List Token) (x : Part) → has_form k ts ≡ true → (there : Bool) → list_all is_register ts ≡ there
    → part.Instr (cond there (instr_of k ts) None) ≡ x → IsWholePart x → Tells k ts x
by_instr k ts x f false h e w = absurd (subst IsWholePart (sym e) w)
by_instr k ts x f true h e w = go (instr_of k ts) refl e
  where
    go : (o : Option Instr) → instr_of k ts ≡ o → part.Instr o ≡ x → Tells k ts x
    go None is e = absurd (subst IsWholePart (sym e) w)
    go (Some i) is e = subst (Tells k ts) e (told_instr k ts i (registers_there ts h) f is)

-- what a keyword that is not the root's tells of its line
pub told : (k : Keyword) (ts : List Token) (x : Part) → (k ≡ keyword.Root → ⊥) → has_form k ts ≡ true → part_of k ts ≡ x → IsWholePart x → Tells k ts x
told keyword.Ppm ts x other f e w = subst (Tells keyword.Ppm ts) e (record { named = (tt, tt); line = refl })
told keyword.Root ts x other f e w = absurd (other refl)
told keyword.Proc ts x other f e w = subst (Tells keyword.Proc ts) e (record { named = (tt, (tt, (tt, (tt, (tt, tt))))); line = refl })
told keyword.Slots ts x other f e w = no f
told keyword.Entry ts x other f e w = no f
told keyword.Capsule ts x other f e w = subst (Tells keyword.Capsule ts) e (record { named = (tt, (tt, (tt, tt))); line = refl })
told keyword.Const ts x other f e w = by_instr keyword.Const ts x f (list_all is_register ts) refl e w
told keyword.Move ts x other f e w = by_instr keyword.Move ts x f (list_all is_register ts) refl e w
told keyword.Add ts x other f e w = by_instr keyword.Add ts x f (list_all is_register ts) refl e w
told keyword.Sub ts x other f e w = by_instr keyword.Sub ts x f (list_all is_register ts) refl e w
told keyword.Mul ts x other f e w = by_instr keyword.Mul ts x f (list_all is_register ts) refl e w
told keyword.Div ts x other f e w = by_instr keyword.Div ts x f (list_all is_register ts) refl e w
told keyword.Rem ts x other f e w = by_instr keyword.Rem ts x f (list_all is_register ts) refl e w
told keyword.Equal ts x other f e w = by_instr keyword.Equal ts x f (list_all is_register ts) refl e w
told keyword.NotEqual ts x other f e w = by_instr keyword.NotEqual ts x f (list_all is_register ts) refl e w
told keyword.Less ts x other f e w = by_instr keyword.Less ts x f (list_all is_register ts) refl e w
told keyword.AtMost ts x other f e w = by_instr keyword.AtMost ts x f (list_all is_register ts) refl e w
told keyword.Len ts x other f e w = by_instr keyword.Len ts x f (list_all is_register ts) refl e w
told keyword.CutLeft ts x other f e w = by_instr keyword.CutLeft ts x f (list_all is_register ts) refl e w
told keyword.CutRight ts x other f e w = by_instr keyword.CutRight ts x f (list_all is_register ts) refl e w
told keyword.LoadSlot ts x other f e w = by_instr keyword.LoadSlot ts x f (list_all is_register ts) refl e w
told keyword.StoreCur ts x other f e w = by_instr keyword.StoreCur ts x f (list_all is_register ts) refl e w
told keyword.Give ts x other f e w = by_instr keyword.Give ts x f (list_all is_register ts) refl e w
told keyword.Get ts x other f e w = by_instr keyword.Get ts x f (list_all is_register ts) refl e w
told keyword.Put ts x other f e w = by_instr keyword.Put ts x f (list_all is_register ts) refl e w
told keyword.BranchZero ts x other f e w = by_instr keyword.BranchZero ts x f (list_all is_register ts) refl e w
told keyword.BranchNonZero ts x other f e w = by_instr keyword.BranchNonZero ts x f (list_all is_register ts) refl e w
told keyword.Room ts x other f e w = by_instr keyword.Room ts x f (list_all is_register ts) refl e w
told keyword.StoreNew ts x other f e w = by_instr keyword.StoreNew ts x f (list_all is_register ts) refl e w
told keyword.Next ts x other f e w = by_instr keyword.Next ts x f (list_all is_register ts) refl e w
told keyword.End ts x other f e w = by_instr keyword.End ts x f (list_all is_register ts) refl e w
told keyword.Trap ts x other f e w = by_instr keyword.Trap ts x f (list_all is_register ts) refl e w
told keyword.Call ts x other f e w = by_instr keyword.Call ts x f (list_all is_register ts) refl e w
told keyword.CallTo ts x other f e w = by_instr keyword.CallTo ts x f (list_all is_register ts) refl e w
told keyword.Fork ts x other f e w = by_instr keyword.Fork ts x f (list_all is_register ts) refl e w
told keyword.ForkTo ts x other f e w = by_instr keyword.ForkTo ts x f (list_all is_register ts) refl e w
