-- Lines that break no rule make a code, and are its listing.
use Rattle.std.proofs.Common.{◌≡◌, ◌∙◌, ℕ, zero, suc, ◌+◌, ◌<◌, ◌≤◌, ◌==◌, Bool, true, false, not, ◌&&◌, nat_lt, nat_le, List, [], ◌∷◌, ◌++◌}
use Rattle.std.proofs.Common.{map, length, slice_get, IfSome, Option, Some, None, refl, sym, ap, subst, arith}
use Rattle.std.proofs.Common.{ltb-false, leb-false, eqb-true, eq-eqb, append_assoc, append-nil, length-append}
use Rattle.std.specs.List.{All, list_any}
use Rattle.std.proofs.lemmas.Bool.{both_ways, not-false}
use Rattle.ppm_words.specs.Limits.{array_limit}
use Rattle.ppm_code.specs.declared.act.End.{End}
use Rattle.ppm_code.specs.declared.code.Capsule.{Capsule}
use Rattle.ppm_code.specs.declared.code.Procedure.{Procedure}
use Rattle.ppm_code.specs.declared.code.CodeParts.{CodeParts}
use Rattle.ppm_code.specs.declared.instr.Instr.{Instr}
use Rattle.ppm_code.specs.declared.instr.Instr.TheVariants.{Const, Move, Add, Sub, Mul, Div, Rem, Equal, NotEqual, Less, AtMost, Len, CutLeft, CutRight}
use Rattle.ppm_code.specs.declared.instr.Instr.TheVariants.{LoadSlot, StoreCur, Give, Get, Put, BranchZero, BranchNonZero, Room, StoreNew, Ends}
use Rattle.ppm_code.specs.Limits.{procedure_limit, capsule_limit, instr_limit, slot_limit}
use Rattle.ppm_code.specs.Sizes.{slots_of}
use Rattle.ppm_code.specs.Strands.{instrs_in as instrs_within, instrs_of}
use Rattle.ppm_code.specs.Code.{room_of, IsProcedure, IsCapsuleOf, Fits, IsCapsule, IsCode}
use Rattle.ppm_listing.specs.declared.keyword.Keyword.TheVariants as keyword
use Rattle.ppm_listing.specs.Tokens.{line}
use Rattle.ppm_listing.specs.Listing.{number, instr_line, procedure_line, procedure_lines, root_line, capsule_line, capsule_lines, lines_of}
use Rattle.ppm_listing.proofs.TextLemmas.{cons_path}
use Rattle.ppm_listing_reader.specs.declared.part.Part.{Part}
use Rattle.ppm_listing_reader.specs.declared.part.Part.TheVariants as part
use Rattle.ppm_listing_reader.specs.declared.place.Place.TheVariants.{AtVersion, AtRoot, AtProcedure, Within}
use Rattle.ppm_listing_reader.specs.Tokens.{is_empty}
use Rattle.ppm_listing_reader.specs.Places.{procedures_in, instrs_in, capsules_in, code_in, room_behind}
use Rattle.ppm_listing_reader.specs.Faults.{is_end, is_procedure, is_capsule_of}
use Rattle.ppm_listing_reader.proofs.FormLemmas.{part_line}
use Rattle.ppm_listing_reader.proofs.CleanLemmas.{neither, IsClean, AllClean, RoomIs, room_kept, instr_fits, capsule_there, procedure_there}

yes : {A : Type 0} → true ≡ false → A
yes h = absurd (both_ways true h refl)

no : {A : Type 0} → false ≡ true → A
no h = absurd (both_ways false refl h)

-- what the parts of lines declare
abbrev pub instrs_from : List Part → List Instr
instrs_from xs = instrs_in (map Some xs)

abbrev pub capsules_from : List Part → List Capsule
capsules_from xs = capsules_in (map Some xs)

abbrev pub procedures_from : List Part → List Procedure
procedures_from xs = procedures_in (map Some xs)

-- a fact of the first and of each other is one of all
all_cons : {X : Type 0} (P : X → Type 0) (x : X) (xs : List X) → P x → All P xs → All P (x ∷ xs)
all_cons P x xs is all zero d h = is
all_cons P x xs is all (suc k) d h = all k d (omega (arith, h))

all_none : {X : Type 0} (P : X → Type 0) → All P []
all_none P k d h = absurd (omega (arith, h))

-- an element after others
got_behind : {X : Type 0} (front : List X) (x : X) (rest : List X) → slice_get (front ++ x ∷ rest) (length front) ≡ Some x
got_behind [] x rest = refl
got_behind (y ∷ front) x rest = got_behind front x rest

one_more : {X : Type 0} (front : List X) (x : X) (rest : List X) → front ++ x ∷ rest ≡ (front ++ x ∷ []) ++ rest
one_more front x rest = sym (append_assoc front (x ∷ []) rest)

length_more : {X : Type 0} (front : List X) (x : X) → length front + 1 ≡ length (front ++ x ∷ [])
length_more front x = omega (arith, length-append front (x ∷ []))

module _ (code : CodeParts) where
  -- the capsules after some lines of a capsule
  pub record Behind (capsule : ℕ) (whole : List Instr) (front : List Instr) (procedure : ℕ) (xs : List Part) : Type 0 where
    pub each : (k : ℕ) (i : Instr) → slice_get (instrs_from xs) k ≡ Some i → Fits code procedure whole (length front + k) i
    pub most : length whole ≤ instr_limit
    pub last : 0 < length (instrs_from xs) → (before : List Instr) × (e : End) × (instrs_from xs ≡ before ++ (Ends e ∷ []))
    pub lines : map part_line xs ≡ map instr_line (instrs_from xs) ++ capsule_lines (capsule + 1) (capsules_from xs)
    pub capsules : All (IsCapsule code) (capsules_from xs)
    pub count : capsule + 1 + length (capsules_from xs) ≤ capsule_limit

  -- a capsule with its line, by what stands after it
  capsule_whole : (capsule procedure : ℕ) (xs : List Part) → is_procedure code procedure ≡ true → 0 < length (instrs_from xs)
      → Behind capsule (instrs_from xs) [] procedure xs → IsCapsule code (record { procedure = procedure; instrs = instrs_from xs })
  capsule_whole capsule procedure xs there some b = record {
    procedure = procedure_there code procedure there;
    most = b.most;
    last = b.last some;
    each = λ at i h. subst (λ n. Fits code procedure (instrs_from xs) n i) (omega arith) (b.each at i h);
  }

  some_instr : (is js : List Instr) → is ≡ js → is_empty is ≡ false → 0 < length js
  some_instr is [] e h = yes (sym (ap is_empty e) ∙ h)
  some_instr is (j ∷ js) e h = omega arith

  ends_with : (i : Instr) → is_end i ≡ true → (e : End) × (i ≡ Ends e)
  ends_with (Ends e) h = (e, refl)
  ends_with (Const d n) h = no h
  ends_with (Move d a) h = no h
  ends_with (Add d a b l) h = no h
  ends_with (Sub d a b l) h = no h
  ends_with (Mul d a b l) h = no h
  ends_with (Div d a b l) h = no h
  ends_with (Rem d a b l) h = no h
  ends_with (Equal d a b) h = no h
  ends_with (NotEqual d a b) h = no h
  ends_with (Less d a b) h = no h
  ends_with (AtMost d a b) h = no h
  ends_with (Len d a) h = no h
  ends_with (CutLeft d a b l) h = no h
  ends_with (CutRight d a b l) h = no h
  ends_with (LoadSlot d s) h = no h
  ends_with (StoreCur s a) h = no h
  ends_with (Give a) h = no h
  ends_with (Get d a b l) h = no h
  ends_with (Put a b s l) h = no h
  ends_with (BranchZero a t) h = no h
  ends_with (BranchNonZero a t) h = no h
  ends_with (Room n) h = no h
  ends_with (StoreNew o a) h = no h

  -- the last instruction is an end
  last_is_end : (is : List Instr) (i : Instr) (whole front rest : List Instr) → is ≡ whole → whole ≡ front ++ i ∷ rest → rest ≡ []
      → ((length front + 1 == length is) && not (is_end i)) ≡ false → (e : End) × (i ≡ Ends e)
  last_is_end is i whole front rest same e none h = ends_with i (go (length front + 1 == length is) (is_end i) full h)
    where
      full : (length front + 1 == length is) ≡ true
      full = eq-eqb (length front + 1) (length is) (sym (ap length (same ∙ e ∙ ap (λ r. front ++ i ∷ r) none) ∙ sym (length_more front i)))

      go : (t u : Bool) → t ≡ true → (t && not u) ≡ false → u ≡ true
      go true true t h = refl
      go true false t h = yes h
      go false u t h = no t

  pub walk : (capsule procedure : ℕ) (room : Option ℕ) (whole front : List Instr) (pre : List Capsule) (xs : List Part)
      → AllClean code (Within capsule procedure (length front) room) xs
      → instrs_of code capsule ≡ whole → whole ≡ front ++ instrs_from xs → RoomIs code room whole → length front ≤ instr_limit
      → code.capsules ≡ pre ++ capsules_from xs → length pre ≡ capsule + 1 → capsule + 1 ≤ capsule_limit
      → Behind capsule whole front procedure xs
  walk capsule procedure room whole front pre [] clean is e r few cs n most = record {
    each = λ k i h. none_got k i h;
    most = omega (arith, few, ap length (e ∙ append-nil front));
    last = λ h. absurd (omega (arith, h));
    lines = refl;
    capsules = all_none (IsCapsule code);
    count = omega (arith, most);
  }
    where
      none_got : (k : ℕ) (i : Instr) → slice_get {X = Instr} [] k ≡ Some i → Fits code procedure whole (length front + k) i
      none_got k i h = cc
  walk capsule procedure room whole front pre (part.Instr (Some i) ∷ xs) clean is e r few cs n most =
      let limit = leb-false instr_limit (length front) (neither (nat_le instr_limit (length front)) _ clean.0.there).0 in
      let b = walk capsule procedure (room_behind (length front) (Some i) room) whole (front ++ i ∷ []) pre xs
      (subst (λ n. AllClean code (Within capsule procedure n (room_behind (length front) (Some i) room)) xs) (length_more front i) clean.1)
      is (e ∙ one_more front i (instrs_from xs)) (room_kept code front i (instrs_from xs) whole room e r)
      (omega (arith, limit, length_more front i)) cs n most in
      record {
        each = λ k j h. each_of b k j h;
        most = b.most;
        last = λ h. last_of b (instrs_from xs) refl;
        lines = cons_path refl b.lines;
        capsules = b.capsules;
        count = b.count;
      }
    where
      each_of : (b : Behind capsule whole (front ++ i ∷ []) procedure xs) (k : ℕ) (j : Instr) → slice_get (i ∷ instrs_from xs) k ≡ Some j
          → Fits code procedure whole (length front + k) j
      each_of b zero j h =
          let same : i ≡ j = cc in
          let here : length front ≡ length front + 0 = omega arith in
          subst (λ n. Fits code procedure whole n j) here
          (subst (Fits code procedure whole (length front)) same (instr_fits code capsule procedure (length front) room whole is r i clean.0))
      each_of b (suc k) j h =
          subst (λ n. Fits code procedure whole n j) (omega (arith, length_more front i)) (b.each k j h)

      last_of : (b : Behind capsule whole (front ++ i ∷ []) procedure xs) (rest : List Instr) → instrs_from xs ≡ rest
          → (before : List Instr) × (e : End) × (i ∷ instrs_from xs ≡ before ++ (Ends e ∷ []))
      last_of b [] none =
          let (x, end) = last_is_end (instrs_of code capsule) i whole front (instrs_from xs) is e none clean.0.end in
          ([], x, λ k. end k ∷ none k)
      last_of b (j ∷ js) some =
          let (before, x, ends) = b.last (omega (arith, ap length some)) in
          (i ∷ before, x, ap (λ l. i ∷ l) ends)
  walk capsule procedure room whole front pre (part.Capsule d q ∷ xs) clean is e r few cs n most =
      let number_is = eqb-true d (capsule + 1) clean.0.stands in
      let there = neither (nat_le capsule_limit d) (not (is_procedure code q)) clean.0.there in
      let c : Capsule = record { procedure = q; instrs = instrs_from xs } in
      let got : slice_get code.capsules d ≡ Some c = ap (slice_get code.capsules) (number_is ∙ sym n) ∙ ap (λ l. slice_get l (length pre)) cs
      ∙ got_behind pre c (capsules_from xs) in
      let own : instrs_of code d ≡ instrs_from xs = ap instrs_within got in
      let limit = leb-false capsule_limit d there.0 in
      let b = walk d q None (instrs_from xs) [] (pre ++ c ∷ []) xs clean.1 own refl (λ words h. none_some words h) (omega arith)
      (cs ∙ one_more pre c (capsules_from xs)) (omega (arith, length_more pre c, n, number_is)) (omega (arith, limit)) in
      record {
        each = λ k i h. none_got k i h;
        most = omega (arith, few, ap length (e ∙ append-nil front));
        last = λ h. absurd (omega (arith, h));
        lines = (λ i. capsule_line (number_is i) (record { procedure = q; instrs = [] }) ∷ b.lines i)
            ∙ ap (λ m. capsule_line (capsule + 1) c ∷ map instr_line (instrs_from xs) ++ capsule_lines (m + 1) (capsules_from xs)) number_is;
        capsules = all_cons (IsCapsule code) c (capsules_from xs)
            (capsule_whole d q xs (not-false (is_procedure code q) there.1) (some_instr (instrs_of code d) (instrs_from xs) own clean.0.end) b) b.capsules;
        count = omega (arith, b.count, number_is);
      }
    where
      none_some : (words : ℕ) → None ≡ Some words → room_of (instrs_from xs) ≡ Some words
      none_some words h = cc

      none_got : (k : ℕ) (i : Instr) → slice_get {X = Instr} [] k ≡ Some i → Fits code procedure whole (length front + k) i
      none_got k i h = cc
  walk capsule procedure room whole front pre (part.Version ∷ xs) clean is e r few cs n most = no clean.0.stands
  walk capsule procedure room whole front pre (part.Root q xs' ∷ xs) clean is e r few cs n most = no clean.0.stands
  walk capsule procedure room whole front pre (part.Procedure i s k ∷ xs) clean is e r few cs n most = no clean.0.stands
  walk capsule procedure room whole front pre (part.Instr None ∷ xs) clean is e r few cs n most = yes clean.0.range

  -- after a capsule no procedure stands
  no_procedures : (capsule procedure at : ℕ) (room : Option ℕ) (xs : List Part) → AllClean code (Within capsule procedure at room) xs → procedures_from xs ≡ []
  no_procedures capsule procedure at room [] clean = refl
  no_procedures capsule procedure at room (part.Instr i ∷ xs) clean = no_procedures capsule procedure (at + 1) (room_behind at i room) xs clean.1
  no_procedures capsule procedure at room (part.Capsule d q ∷ xs) clean = no_procedures d q 0 None xs clean.1
  no_procedures capsule procedure at room (part.Version ∷ xs) clean = no clean.0.stands
  no_procedures capsule procedure at room (part.Root q xs' ∷ xs) clean = no clean.0.stands
  no_procedures capsule procedure at room (part.Procedure i s k ∷ xs) clean = no clean.0.stands

  -- the procedures from one on, and the capsules after them
  pub record FromProcedure (first : ℕ) (xs : List Part) : Type 0 where
    pub most : first + length (procedures_from xs) ≤ procedure_limit
    pub slots : All (λ p. p.slots ≤ slot_limit) (procedures_from xs)
    pub entries : (k : ℕ) (p : Procedure) → slice_get (procedures_from xs) k ≡ Some p → IsCapsuleOf code (first + k) p.entry
    pub lines : map part_line xs ≡ procedure_lines first (procedures_from xs) ++ capsule_lines 0 (capsules_from xs)
    pub capsules : All (IsCapsule code) (capsules_from xs)
    pub count : length (capsules_from xs) ≤ capsule_limit

  pub walk_procedures : (first : ℕ) (xs : List Part) → AllClean code (AtProcedure first) xs → first ≤ procedure_limit → code.capsules ≡ capsules_from xs
      → FromProcedure first xs
  walk_procedures first [] clean few cs = yes clean
  walk_procedures first (part.Procedure i s k ∷ xs) clean few cs =
      let number_is = eqb-true i first clean.0.stands in
      let there = neither (nat_le procedure_limit i) (not (is_capsule_of code i k)) clean.0.there in
      let limit = leb-false procedure_limit i there.0 in
      let p : Procedure = record { slots = s; entry = k } in
      let b = walk_procedures (first + 1) xs clean.1 (omega (arith, limit, number_is)) cs in
      record {
        most = omega (arith, b.most);
        slots = all_cons (λ p. p.slots ≤ slot_limit) p (procedures_from xs) (ltb-false slot_limit s clean.0.range) b.slots;
        entries = λ n q h. entries_of b number_is (capsule_there code i k (not-false (is_capsule_of code i k) there.1)) n q h;
        lines = λ j. procedure_line (number_is j) p ∷ b.lines j;
        capsules = b.capsules;
        count = b.count;
      }
    where
      entries_of : (b : FromProcedure (first + 1) xs) (number_is : i ≡ first) (own : IsCapsuleOf code i k) (n : ℕ) (q : Procedure)
          → slice_get (record { slots = s; entry = k } ∷ procedures_from xs) n ≡ Some q → IsCapsuleOf code (first + n) q.entry
      entries_of b number_is own zero q h =
          let same : k ≡ q.entry = cc in
          let here : i ≡ first + 0 = omega (arith, number_is) in
          subst (λ m. IsCapsuleOf code m q.entry) here (subst (IsCapsuleOf code i) same own)
      entries_of b number_is own (suc n) q h = subst (λ m. IsCapsuleOf code m q.entry) (omega arith) (b.entries n q h)
  walk_procedures first (part.Capsule d q ∷ xs) clean few cs =
      let number_is = eqb-true d 0 clean.0.stands in
      let there = neither (nat_le capsule_limit d) (not (is_procedure code q)) clean.0.there in
      let c : Capsule = record { procedure = q; instrs = instrs_from xs } in
      let got : slice_get code.capsules d ≡ Some c = ap (slice_get code.capsules) number_is ∙ ap (λ l. slice_get l 0) cs in
      let own : instrs_of code d ≡ instrs_from xs = ap instrs_within got in
      let limit = leb-false capsule_limit d there.0 in
      let b = walk d q None (instrs_from xs) [] (c ∷ []) xs clean.1 own refl (λ words h. none_some words h) (omega arith) cs
      (omega (arith, number_is)) (omega (arith, limit)) in
      let none : procedures_from xs ≡ [] = no_procedures d q 0 None xs clean.1 in
      record {
        most = omega (arith, few, ap length none);
        slots = subst (All (λ (p : Procedure). p.slots ≤ slot_limit)) (sym none) (all_none (λ (p : Procedure). p.slots ≤ slot_limit));
        entries = λ n p h. none_got n p (ap (λ l. slice_get l n) (sym none) ∙ h);
        lines = (λ i. capsule_line (number_is i) (record { procedure = q; instrs = [] }) ∷ b.lines i)
            ∙ ap (λ m. capsule_line 0 c ∷ map instr_line (instrs_from xs) ++ capsule_lines m (capsules_from xs)) (omega (arith, number_is))
            ∙ ap (λ ps. procedure_lines first ps ++ capsule_lines 0 (c ∷ capsules_from xs)) (sym none);
        capsules = all_cons (IsCapsule code) c (capsules_from xs)
            (capsule_whole d q xs (not-false (is_procedure code q) there.1) (some_instr (instrs_of code d) (instrs_from xs) own clean.0.end) b) b.capsules;
        count = omega (arith, b.count, number_is);
      }
    where
      none_some : (words : ℕ) → None ≡ Some words → room_of (instrs_from xs) ≡ Some words
      none_some words h = cc

      none_got : (n : ℕ) (p : Procedure) → slice_get {X = Procedure} [] n ≡ Some p → IsCapsuleOf code (first + n) p.entry
      none_got n p h = cc
  walk_procedures first (part.Version ∷ xs) clean few cs = no clean.0.stands
  walk_procedures first (part.Root q xs' ∷ xs) clean few cs = no clean.0.stands
  walk_procedures first (part.Instr i ∷ xs) clean few cs = no clean.0.stands

-- the arrays are within their limit
arrays_within : (xs : List ℕ) → list_any (λ a. nat_le array_limit a) xs ≡ false → All (λ a. a < array_limit) xs
arrays_within [] h = all_none (λ a. a < array_limit)
arrays_within (a ∷ xs) h =
    let tests = neither (nat_le array_limit a) (list_any (λ b. nat_le array_limit b) xs) h in
    all_cons (λ b. b < array_limit) a xs (leb-false array_limit a tests.0) (arrays_within xs tests.1)

if_got : {X : Type 0} (P : X → Type 0) (o : Option X) → ((x : X) → o ≡ Some x → P x) → IfSome o P
if_got P None f = tt
if_got P (Some x) f = f x refl

-- parts that break no rule of the code that they make
pub record MakeCode (xs : List Part) : Type 0 where
  pub code : IsCode (code_in (map Some xs))
  pub lines : map part_line xs ≡ lines_of (code_in (map Some xs))

from_root : (q : ℕ) (xs' : List ℕ) (ys : List Part) (code : CodeParts) → code ≡ code_in (map Some (part.Version ∷ part.Root q xs' ∷ ys))
    → IsClean code AtRoot (part.Root q xs') → AllClean code (AtProcedure 0) ys → MakeCode (part.Version ∷ part.Root q xs' ∷ ys)
from_root q xs' ys code same root clean =
    let b = walk_procedures code 0 ys clean (omega arith) (ap (λ c. c.capsules) same) in
    let range = neither (list_any (λ a. nat_le array_limit a) xs') (is_procedure code q && nat_lt (slots_of code q) (length xs')) root.range in
    let there = not-false (is_procedure code q) root.there in
    record {
      code = subst IsCode same (record {
        root = subst (IsProcedure code) (sym (ap (λ c. c.root) same)) (procedure_there code q there);
        root_slots = subst (λ c. length c.arrays ≤ slots_of c c.root) (sym same)
            (subst (λ c. length xs' ≤ slots_of c q) same (ltb-false (slots_of code q) (length xs')
            (second (is_procedure code q) (nat_lt (slots_of code q) (length xs')) there range.1)));
        arrays = subst (All (λ a. a < array_limit)) (sym (ap (λ c. c.arrays) same)) (arrays_within xs' range.0);
        procedures_most = omega (arith, b.most, ap (λ c. length c.procedures) same);
        capsules_most = omega (arith, b.count, ap (λ c. length c.capsules) same);
        slots_most = subst (All (λ p. p.slots ≤ slot_limit)) (sym (ap (λ c. c.procedures) same)) b.slots;
        entries = λ procedure. if_got (λ p. IsCapsuleOf code procedure p.entry) (slice_get code.procedures procedure)
            (λ p h. subst (λ m. IsCapsuleOf code m p.entry) (omega arith) (b.entries procedure p (sym (ap (λ c. slice_get c.procedures procedure) same) ∙ h)));
        capsules = subst (All (IsCapsule code)) (sym (ap (λ c. c.capsules) same)) b.capsules;
      });
      lines = ap (λ ls. line keyword.Ppm (number 1 ∷ []) ∷ root_line q xs' ∷ ls) b.lines;
    }
  where
    second : (a b : Bool) → a ≡ true → (a && b) ≡ false → b ≡ false
    second true b t h = h
    second false b t h = no t

pub make_code : (xs : List Part) → AllClean (code_in (map Some xs)) AtVersion xs → MakeCode xs
make_code [] clean = yes clean
make_code (part.Version ∷ []) clean = yes clean.1
make_code (part.Version ∷ part.Root q xs' ∷ ys) clean = from_root q xs' ys (code_in (map Some (part.Version ∷ part.Root q xs' ∷ ys))) refl clean.1.0 clean.1.1
make_code (part.Version ∷ part.Version ∷ ys) clean = no clean.1.0.stands
make_code (part.Version ∷ part.Procedure i s k ∷ ys) clean = no clean.1.0.stands
make_code (part.Version ∷ part.Capsule c p ∷ ys) clean = no clean.1.0.stands
make_code (part.Version ∷ part.Instr i ∷ ys) clean = no clean.1.0.stands
make_code (part.Root q xs' ∷ ys) clean = no clean.0.stands
make_code (part.Procedure i s k ∷ ys) clean = no clean.0.stands
make_code (part.Capsule c p ∷ ys) clean = no clean.0.stands
make_code (part.Instr i ∷ ys) clean = no clean.0.stands
