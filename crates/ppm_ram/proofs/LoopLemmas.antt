-- What the loops over lines and words have found out so far.
use Rattle.std.proofs.Common.{◌≡◌, ◌∙◌, ℕ, suc, ◌+◌, ◌==◌, Bool, true, false, ◌&&◌, nat_lt, cond, ℤ, List, [], ◌∷◌, ◌++◌, length, Option, Some, None, Result, Ok, Err, refl, sym, ap, subst, arith, append_assoc, append-nil}
use Rattle.std.proofs.lemmas.Bool.{cond-false}
use Rattle.ppm_pieces.specs.Numbers.{is_empty}
use Rattle.ppm_pieces.specs.Pieces.{split, in_front}
use Rattle.ppm_ram.specs.declared.instruction.Instruction.{Instruction}
use Rattle.ppm_ram.specs.declared.ram.RamParts.{RamParts}
use Rattle.ppm_ram.specs.declared.ram_error.RamFault.{RamFault}
use Rattle.ppm_ram.specs.declared.ram_error.RamFault.TheVariants as fault
use Rattle.ppm_ram.specs.declared.ram_error.RamError.{RamError}
use Rattle.ppm_ram.specs.declared.ram_error.RamError.TheVariants as error
use Rattle.ppm_ram.specs.Limits.{text_limit, line_of}
use Rattle.ppm_ram.specs.Numbers.{in_range_both, pair_of, made_of, value_in, values_in}
use Rattle.ppm_ram.specs.Lines.{Fault, judged, instruction_in, in_front as instruction_in_front, with_line, instructions_in, count_of, line_then}
use Rattle.ppm_ram.specs.Lines.{values_of, with_size, with_values, with_instructions, size_in, with_head, ram_in, IsRefusal}
use Rattle.ppm_ram.specs.Said.{at_line, IsFaultOf, behind, words_left, numbers_if, joined_with, followed_by, sized, headed}

-- there is a piece at least
pub some_piece : (s : ℕ) (t : List ℕ) → (p : List ℕ) × (ps : List (List ℕ)) × (split s t ≡ p ∷ ps)
some_piece s [] = ([], [], refl)
some_piece s (b ∷ bs) = by (b == s) (split s bs)
  where
    by : (same : Bool) (l : List (List ℕ)) → (p : List ℕ) × (ps : List (List ℕ)) × (cond same ([] ∷ l) (in_front b l) ≡ p ∷ ps)
    by true l = ([], l, refl)
    by false [] = (b ∷ [], [], refl)
    by false (p ∷ ps) = (b ∷ p, ps, refl)

-- a line with its line feed
pub line_first : (number : ℕ) (f : List ℕ → List (List ℕ) → Result RamParts Fault) (text line rest : List ℕ) → split 10 text ≡ line ∷ split 10 rest
    → line_then number f (split 10 text) ≡ f line (split 10 rest)
line_first number f text line rest cut =
    let (p, ps, is) = some_piece 10 rest in
    ap (line_then number f) (cut ∙ ap (λ (l : List (List ℕ)). line ∷ l) is) ∙ ap (f line) (sym is)

-- one without it
pub line_none : (number : ℕ) (f : List ℕ → List (List ℕ) → Result RamParts Fault) (text : List ℕ) → split 10 text ≡ text ∷ []
    → line_then number f (split 10 text) ≡ Err (fault.NoSuchForm, number)
line_none number f text whole = ap (line_then number f) whole

pub count_more : (text line rest : List ℕ) → split 10 text ≡ line ∷ split 10 rest → count_of (split 10 text) ≡ 1 + count_of (split 10 rest)
count_more text line rest cut =
    let (p, ps, is) = some_piece 10 rest in
    ap count_of (cut ∙ ap (λ (l : List (List ℕ)). line ∷ l) is) ∙ ap (λ (l : List (List ℕ)). 1 + count_of l) (sym is)

pub count_last : (left : List ℕ) (end : Bool) → split 10 left ≡ left ∷ [] → is_empty left ≡ end → count_of (split 10 left) ≡ cond end 0 1
count_last left end whole e = ap count_of whole ∙ ap (λ (b : Bool). cond b 0 1) e

-- instructions
pub behind_none : (r : Result (List Instruction) Fault) → behind [] r ≡ r
behind_none (Ok is) = refl
behind_none (Err f) = refl

behind_more : (is : List Instruction) (i : Instruction) (r : Result (List Instruction) Fault)
    → behind is (instruction_in_front i r) ≡ behind (is ++ i ∷ []) r
behind_more is i (Ok js) = ap Ok (sym (append_assoc is (i ∷ []) js))
behind_more is i (Err f) = refl

line_is : (count number : ℕ) (left line rest : List ℕ) → split 10 left ≡ line ∷ split 10 rest
    → instructions_in count number (split 10 left)
    ≡ with_line (line_of number) (judged count number (instruction_in line)) (instructions_in count (number + 1) (split 10 rest))
line_is count number left line rest cut =
    let (p, ps, is) = some_piece 10 rest in
    ap (instructions_in count number) (cut ∙ ap (λ (l : List (List ℕ)). line ∷ l) is)
    ∙ ap (λ l. with_line (line_of number) (judged count number (instruction_in line)) (instructions_in count (number + 1) l)) (sym is)

pub one_more : (count number : ℕ) (left line rest : List ℕ) (is : List Instruction) (i : Instruction) → split 10 left ≡ line ∷ split 10 rest
    → judged count number (instruction_in line) ≡ Ok i
    → behind is (instructions_in count number (split 10 left)) ≡ behind (is ++ i ∷ []) (instructions_in count (number + 1) (split 10 rest))
one_more count number left line rest is i cut good =
    ap (behind is) (line_is count number left line rest cut
    ∙ ap (λ v. with_line (line_of number) v (instructions_in count (number + 1) (split 10 rest))) good)
    ∙ behind_more is i (instructions_in count (number + 1) (split 10 rest))

pub bad_line : (count number : ℕ) (left line rest : List ℕ) (is : List Instruction) (rule : RamFault) → split 10 left ≡ line ∷ split 10 rest
    → judged count number (instruction_in line) ≡ Err rule
    → behind is (instructions_in count number (split 10 left)) ≡ Err (rule, line_of number)
bad_line count number left line rest is rule cut bad =
    ap (behind is) (line_is count number left line rest cut
    ∙ ap (λ v. with_line (line_of number) v (instructions_in count (number + 1) (split 10 rest))) bad)

-- the last piece
pub last_piece : (count number : ℕ) (left : List ℕ) (is : List Instruction) (end : Bool) → split 10 left ≡ left ∷ []
    → (is_empty left && nat_lt 0 number) ≡ end
    → behind is (instructions_in count number (split 10 left)) ≡ cond end (Ok is) (Err (fault.NoSuchForm, line_of number))
last_piece count number left is true whole e =
    ap (λ l. behind is (instructions_in count number l)) whole ∙ ap (λ (b : Bool). behind is (cond b (Ok []) (Err (fault.NoSuchForm, line_of number)))) e
    ∙ ap Ok (append-nil is)
last_piece count number left is false whole e =
    ap (λ l. behind is (instructions_in count number l)) whole ∙ ap (λ (b : Bool). behind is (cond b (Ok []) (Err (fault.NoSuchForm, line_of number)))) e

-- a fault that is handed on
pub handed_on : {A B : Type 0} (v : Result A Fault) (w : Result B Fault) (e : RamError) → ((f : Fault) → v ≡ Err f → w ≡ Err f) → IsFaultOf v e → IsFaultOf w e
handed_on v w (error.Refused rule line) go h = go (rule, line) h
handed_on v w error.NoMemory go h = tt

pub refused_values : (memory : ℕ) (v : Result (List ℤ) RamFault) (ls : List (List ℕ)) (f : Fault) → at_line 3 v ≡ Err f → with_values memory v ls ≡ Err f
refused_values memory (Ok zs) ls f e = absurd (cc)
refused_values memory (Err rule) ls f e = let same : (rule, 3) ≡ f = cc in ap (λ (g : Fault). Err g) same

pub refused_instructions : (memory : ℕ) (zs : List ℤ) (v : Result (List Instruction) Fault) (f : Fault) → v ≡ Err f → with_instructions memory zs v ≡ Err f
refused_instructions memory zs v f e = ap (with_instructions memory zs) e

pub refused_text : (text : List ℕ) (v : Result RamParts Fault) (e : RamError) → ram_in text ≡ v → IsFaultOf v e → IsRefusal text e
refused_text text v (error.Refused rule line) is h = is ∙ h
refused_text text v error.NoMemory is h = tt

-- a text that is not too long
pub lines_of_text : (text : List ℕ) → nat_lt text_limit (length text) ≡ false → ram_in text ≡ headed (split 10 text)
lines_of_text text short = cond-false (nat_lt text_limit (length text)) (Err (fault.NoSuchForm, 1)) (line_then 1 with_head (split 10 text)) short

-- the words that are left, if there are more
pub words_more : (more : Bool) (left w : List ℕ) (ws : List (List ℕ)) → more ≡ true → split 32 left ≡ w ∷ ws → words_left more left ≡ w ∷ ws
words_more more left w ws e cut = ap (λ (b : Bool). words_left b left) e ∙ cut

-- the values of words
pub bad_word : (w : List ℕ) (ws : List (List ℕ)) (zs : Option (List ℤ)) → value_in w ≡ Some None
    → followed_by zs (values_in (w ∷ ws)) ≡ followed_by None (values_in ws)
bad_word w ws zs e =
    ap (λ v. followed_by zs (made_of (λ (p : ℤ × List ℤ). p.0 ∷ p.1) (pair_of v (values_in ws)))) e ∙ by zs (values_in ws)
  where
    by : (zs : Option (List ℤ)) (more : Option (Option (List ℤ)))
        → followed_by zs (made_of (λ (p : ℤ × List ℤ). p.0 ∷ p.1) (pair_of (Some None) more)) ≡ followed_by None more
    by zs None = refl
    by None (Some r) = refl
    by (Some ys) (Some r) = refl

pub good_word : (w : List ℕ) (ws : List (List ℕ)) (fit : Bool) (zs : List ℤ) (z : ℤ) → value_in w ≡ Some (Some z)
    → followed_by (numbers_if fit zs) (values_in (w ∷ ws)) ≡ followed_by (numbers_if fit (zs ++ z ∷ [])) (values_in ws)
good_word w ws fit zs z e =
    ap (λ v. followed_by (numbers_if fit zs) (made_of (λ (p : ℤ × List ℤ). p.0 ∷ p.1) (pair_of v (values_in ws)))) e ∙ by fit (values_in ws)
  where
    by : (fit : Bool) (more : Option (Option (List ℤ)))
        → followed_by (numbers_if fit zs) (made_of (λ (p : ℤ × List ℤ). p.0 ∷ p.1) (pair_of (Some (Some z)) more))
        ≡ followed_by (numbers_if fit (zs ++ z ∷ [])) more
    by fit None = refl
    by true (Some None) = refl
    by false (Some None) = refl
    by true (Some (Some ys)) = ap (λ (l : List ℤ). Some (Some l)) (sym (append_assoc zs (z ∷ []) ys))
    by false (Some (Some ys)) = refl

pub no_word : (w : List ℕ) (ws : List (List ℕ)) (zs : Option (List ℤ)) → value_in w ≡ None → followed_by zs (values_in (w ∷ ws)) ≡ None
no_word w ws zs e = ap (λ v. followed_by zs (made_of (λ (p : ℤ × List ℤ). p.0 ∷ p.1) (pair_of v (values_in ws)))) e

pub no_values_before : (v : Option (Option (List ℤ))) → followed_by (Some []) v ≡ v
no_values_before None = refl
no_values_before (Some None) = refl
no_values_before (Some (Some zs)) = refl

pub no_words_left : (fit : Bool) (zs : List ℤ) → followed_by (numbers_if fit zs) (values_in []) ≡ Some (numbers_if fit zs)
no_words_left true zs = ap (λ (l : List ℤ). Some (Some l)) (append-nil zs)
no_words_left false zs = refl
