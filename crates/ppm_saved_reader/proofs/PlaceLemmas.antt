-- From a place reading goes on in one way, or stops in one.
use Rattle.std.proofs.Common.{◌≡◌, ◌∙◌, ℕ, ◌+◌, ◌≤◌, List, [], ◌∷◌, ◌++◌, length, take, drop, Option, refl, sym, ap, subst, arith}
use Rattle.std.proofs.lemmas.Bool.{both_ways}
use Rattle.ppm_code.specs.Free.{IsFree}
use Rattle.ppm_code.specs.Tidy.{IsTidy}
use Rattle.ppm_code.specs.declared.code.CodeParts.{CodeParts}
use Rattle.ppm_listing.proofs.CodeLemmas.{listing_tells_code}
use Rattle.ppm_listing_reader.specs.Correct.{IsListing}
use Rattle.ppm_saved.specs.declared.names.NamedLength.{NamedLength}
use Rattle.ppm_saved.specs.declared.run.Run.{Run}
use Rattle.ppm_saved_reader.specs.declared.lines.Sizes.{Sizes}
use Rattle.ppm_saved_reader.specs.declared.saved_error.Fault.{Fault}
use Rattle.ppm_saved_reader.specs.Rules.{saved_limit, line_feeds, sizes_fit, is_twice, is_past, is_other_count, ends_with}
use Rattle.ppm_saved_reader.specs.Places.{Place, AtVersion, AtArrays, AtWords, AtRuns, array_of}
use Rattle.ppm_saved_reader.specs.Places.{Goes, Version, Shaped, Array, Coded, Counted, Repeated, LeadsTo, Stays, Then}
use Rattle.ppm_saved_reader.specs.Places.{IsWrong, NoVersion, NoSizes, NoFit, NoArray, BadArray, BadCode, NoCount, OtherCount, NoRun, Same, NoWord}
use Rattle.ppm_saved_reader.specs.Places.{IsBadArray, Twice, TooMany, IsBadCode, Short, NoListing, Conflicting}
use Rattle.ppm_saved_reader.specs.Correct.{IsRead, IsWrongAt, Breaks, TooLong, IsRefusal}
use Rattle.ppm_saved_reader.specs.ErrorNumbers.{refusal_at}
use Rattle.ppm_saved_reader.specs.declared.saved_error.Fault.TheVariants as fault
use Rattle.ppm_saved_reader.proofs.OptionLemmas.{or_else, some_one, not_both, first_part, second_part}

-- a listing is that of one code
pub one_code : (text : List ℕ) (c d : CodeParts) → IsListing text c → IsListing text d → c ≡ d
one_code text c d f g = listing_tells_code c d f.fits g.fits (sym f.same ∙ g.same)

-- the run of a word that is there
abbrev run_of : Option ℕ × ℕ → Run
run_of p = record { word = or_else 0 p.0; times = p.1 }

-- reading goes on in one way
goes_one : {p q u : Place} {t r x : List ℕ} {n m : ℕ} → Goes p t n q r → Goes p t m u x → (n ≡ m) × (q ≡ u) × (r ≡ x)
goes_one (Version e) (Version f) = (refl, refl, second_part (some_one e f))
goes_one (Shaped e a) (Shaped f b) =
    let k = some_one e f in
    (refl, ap (λ (z : Sizes). AtArrays z []) (first_part k), second_part k)
goes_one (Array {z = z} {arrays = arrays} e a b) (Array f c d) =
    let k = some_one e f in
    (refl, ap (λ (line : List ℕ × ℕ). AtArrays z (arrays ++ array_of line ∷ [])) (first_part k), second_part k)
goes_one (Array e a b) (Coded n f s is named free tidy) = absurd (not_both n e)
goes_one (Coded n f s is named free tidy) (Array e a b) = absurd (not_both n e)
goes_one (Coded {z = z} {arrays = arrays} {code = c} n e s is named free tidy) (Coded {code = d} o f l other a b h) =
    let k = some_one e f in
    let same = one_code _ c d is (subst (λ (k : ℕ × List ℕ). IsListing (take k.0 k.1) d) (sym k) other) in (
      ap (λ (k : ℕ × List ℕ). 1 + line_feeds (take k.0 k.1)) k,
      ap (λ code. AtWords z arrays code) same,
      ap (λ (k : ℕ × List ℕ). drop k.0 k.1) k,
    )
goes_one (Counted e a b) (Counted f c d) = (refl, refl, second_part (some_one e f))
goes_one (Repeated {z = z} {arrays = arrays} {code = code} {rs = rs} e a) (Repeated f b) =
    let k = some_one e f in
    (refl, ap (λ (p : Option ℕ × ℕ). AtRuns z arrays code (rs ++ run_of p ∷ [])) (first_part k), second_part k)

-- a line of an array is bad in one way, and so is a code
bad_array_one : {arrays : List NamedLength} {line : List ℕ × ℕ} {f g : Fault} → IsBadArray arrays line f → IsBadArray arrays line g → f ≡ g
bad_array_one (Twice a) (Twice b) = refl
bad_array_one (Twice a) (TooMany b c) = absurd (both_ways _ b a)
bad_array_one (TooMany b c) (Twice a) = absurd (both_ways _ b a)
bad_array_one (TooMany b c) (TooMany d e) = refl

bad_code_one : {arrays : List NamedLength} {bytes : ℕ} {rest : List ℕ} {f g : Fault} → IsBadCode arrays bytes rest f → IsBadCode arrays bytes rest g
    → f ≡ g
bad_code_one (Short a) (Short b) = refl
bad_code_one (Short a) (NoListing b never) = absurd (omega (arith, a, b))
bad_code_one (Short a) (Conflicting b is named never) = absurd (omega (arith, a, b))
bad_code_one (NoListing a never) (Short b) = absurd (omega (arith, a, b))
bad_code_one (NoListing a never) (NoListing b none) = refl
bad_code_one (NoListing a never) (Conflicting {code = code} b is named none) = absurd (never code is named)
bad_code_one (Conflicting a is named never) (Short b) = absurd (omega (arith, a, b))
bad_code_one (Conflicting {code = code} a is named never) (NoListing b none) = absurd (none code is named)
bad_code_one (Conflicting a is named never) (Conflicting b other these none) = refl

-- a line is wrong in one way
wrong_one : {p : Place} {t : List ℕ} {f g : Fault} → IsWrong p t f → IsWrong p t g → f ≡ g
wrong_one (NoVersion e) (NoVersion f) = refl
wrong_one (NoSizes e) (NoSizes f) = refl
wrong_one (NoSizes e) (NoFit f a) = absurd (not_both e f)
wrong_one (NoFit f a) (NoSizes e) = absurd (not_both e f)
wrong_one (NoFit e a) (NoFit f b) = refl
wrong_one (NoArray e f) (NoArray g h) = refl
wrong_one (NoArray e f) (BadArray g a) = absurd (not_both e g)
wrong_one (NoArray e f) (BadCode g h a) = absurd (not_both f h)
wrong_one (BadArray g a) (NoArray e f) = absurd (not_both e g)
wrong_one (BadArray {arrays = arrays} {f = f} g a) (BadArray h b) =
    bad_array_one (subst (λ (line : List ℕ × ℕ). IsBadArray arrays line f) (first_part (some_one g h)) a) b
wrong_one (BadArray g a) (BadCode e f b) = absurd (not_both e g)
wrong_one (BadCode g h a) (NoArray e f) = absurd (not_both f h)
wrong_one (BadCode e f b) (BadArray g a) = absurd (not_both e g)
wrong_one (BadCode {arrays = arrays} {f = f} e g a) (BadCode h i b) =
    bad_code_one (subst (λ (k : ℕ × List ℕ). IsBadCode arrays k.0 k.1 f) (some_one g i) a) b
wrong_one (NoCount e) (NoCount f) = refl
wrong_one (NoCount e) (OtherCount f a) = absurd (not_both e f)
wrong_one (OtherCount f a) (NoCount e) = absurd (not_both e f)
wrong_one (OtherCount e a) (OtherCount f b) = refl
wrong_one (NoRun a e) (NoRun b f) = refl
wrong_one (NoRun a e) (Same f b) = absurd (not_both e f)
wrong_one (NoRun a e) (NoWord f) = absurd (not_both e f)
wrong_one (Same f b) (NoRun a e) = absurd (not_both e f)
wrong_one (Same e a) (Same f b) = refl
wrong_one (Same e a) (NoWord f) = absurd (not_both (first_part (first_part (some_one e f))) refl)
wrong_one (NoWord f) (NoRun a e) = absurd (not_both e f)
wrong_one (NoWord f) (Same e a) = absurd (not_both (first_part (first_part (some_one e f))) refl)
wrong_one (NoWord e) (NoWord f) = refl

-- and where it is wrong reading does not go on
goes_wrong : {p q : Place} {t r : List ℕ} {n : ℕ} {f : Fault} → Goes p t n q r → IsWrong p t f → ⊥
goes_wrong (Version e) (NoVersion w) = not_both w e
goes_wrong (Shaped e a) (NoSizes w) = not_both w e
goes_wrong (Shaped e a) (NoFit f b) = both_ways _ b (sym (ap (λ (z : Sizes). sizes_fit z) (first_part (some_one e f))) ∙ a)
goes_wrong (Array e a b) (NoArray w v) = not_both w e
goes_wrong (Array {arrays = arrays} e a b) (BadArray f (Twice c)) =
    both_ways _ a (ap (λ (line : List ℕ × ℕ). is_twice arrays line.0) (first_part (some_one e f)) ∙ c)
goes_wrong (Array {arrays = arrays} e a b) (BadArray f (TooMany c d)) =
    both_ways _ b (ap (λ (line : List ℕ × ℕ). is_past arrays line.1) (first_part (some_one e f)) ∙ d)
goes_wrong (Array e a b) (BadCode w f x) = not_both w e
goes_wrong (Coded n e s is named free tidy) (NoArray w v) = not_both v e
goes_wrong (Coded n e s is named free tidy) (BadArray f x) = not_both n f
goes_wrong (Coded n e s is named free tidy) (BadCode w f (Short x)) =
    let k = some_one e f in
    omega (arith, s, x, first_part k, ap (λ (l : List ℕ). length l) (second_part k))
goes_wrong (Coded {code = code} n e s is named free tidy) (BadCode w f (NoListing x never)) =
    never code (subst (λ (k : ℕ × List ℕ). IsListing (take k.0 k.1) code) (some_one e f) is) named
goes_wrong (Coded {code = c} n e s is named free tidy) (BadCode w f (Conflicting {code = d} x other these never)) =
    let same = one_code _ c d (subst (λ (k : ℕ × List ℕ). IsListing (take k.0 k.1) c) (some_one e f) is) other in
    never (subst IsFree same free) (subst IsTidy same tidy)
goes_wrong (Counted e a b) (NoCount w) = not_both w e
goes_wrong (Counted e a b) (OtherCount f x) =
    let k = some_one e f in
    both_ways _ b (ap (λ (k : ℕ × List ℕ). is_other_count k.0 k.1) k ∙ x (sym (first_part k) ∙ a))
goes_wrong (Repeated e a) (NoRun some w) = not_both w e
goes_wrong (Repeated {rs = rs} e a) (Same f b) =
    both_ways _ a (ap (λ (p : Option ℕ × ℕ). ends_with rs (or_else 0 p.0)) (first_part (some_one e f)) ∙ b)
goes_wrong (Repeated e a) (NoWord f) = not_both (first_part (first_part (some_one e f))) refl

-- two ways from a place to wrong lines are one
chain_one : {p q u : Place} {t r x : List ℕ} {n m : ℕ} {f g : Fault} → LeadsTo p t n q r → IsWrong q r f → LeadsTo p t m u x → IsWrong u x g
    → (n ≡ m) × (f ≡ g)
chain_one Stays w Stays v = (refl, wrong_one w v)
chain_one Stays w (Then a b) v = absurd (goes_wrong a w)
chain_one (Then a b) w Stays v = absurd (goes_wrong a v)
chain_one (Then {mid = mid} a b) w (Then {last = last} {m = m} {between = between} {rest = rest} c d) v =
    let k = goes_one a c in
    let there = subst (λ l. LeadsTo mid l m last rest) (sym k.2) (subst (λ place. LeadsTo place between m last rest) (sym k.1) d) in
    let left = chain_one b w there v in
    (omega (arith, k.0, left.0), left.1)

-- a text is wrong at one line, and in one way
pub one_fault : (text : List ℕ) (f g : Fault) (line later : ℕ) → IsWrongAt text f line → IsWrongAt text g later → (f ≡ g) × (line ≡ later)
one_fault text f g line later (Breaks r w) (Breaks s v) =
    let k = chain_one r.leads w s.leads v in
    (k.1, r.counted ∙ ap (λ n. 1 + n) k.0 ∙ sym s.counted)
one_fault text f g line later (Breaks r w) (TooLong long) = absurd (omega (arith, r.short, long))
one_fault text f g line later (TooLong long) (Breaks r w) = absurd (omega (arith, r.short, long))
one_fault text f g line later (TooLong long) (TooLong more) = (refl, refl)

-- two ways in a row are one
pub leads_on : {p q s : Place} {t r x : List ℕ} {n m : ℕ} → LeadsTo p t n q r → LeadsTo q r m s x → LeadsTo p t (n + m) s x
leads_on {p = p} {s = s} {t = t} {x = x} {m = m} Stays g =
    let same : m ≡ 0 + m = omega arith in
    subst (λ k. LeadsTo p t k s x) same g
leads_on {p = p} {s = s} {t = t} {x = x} {m = m} (Then {n = a} {m = b} c d) g =
    let sums : a + (b + m) ≡ a + b + m = omega arith in
    subst (λ k. LeadsTo p t k s x) sums (Then c (leads_on d g))

-- a text that was read up to a place is read on
pub reads_on : {text : List ℕ} {p q : Place} {t r : List ℕ} {line n : ℕ} → IsRead text p line t → Goes p t n q r → IsRead text q (line + n) r
reads_on {n = n} k g = record {
  short = k.short;
  lines = k.lines + (n + 0);
  leads = leads_on k.leads (Then g Stays);
  counted = omega (arith, k.counted);
}

-- nothing was read yet
pub reads_all : (text : List ℕ) → length text ≤ saved_limit → IsRead text AtVersion 1 text
reads_all text h = record { short = h; lines = 0; leads = Stays; counted = refl }

-- what is wrong at a place that was reached is the refusal of the text
pub refused : (text : List ℕ) {p : Place} {t : List ℕ} (line : ℕ) (f : Fault) → IsRead text p line t → IsWrong p t f → IsRefusal text (refusal_at f line)
refused text line fault.NoSuchForm k w = Breaks k w
refused text line fault.OutOfRange k w = Breaks k w
refused text line fault.BadListing k w = Breaks k w
refused text line fault.BadCode k w = Breaks k w
refused text line fault.WrongCount k w = Breaks k w

-- where reading is at its end, and nothing is wrong, no other way leads to a wrong line
pub none_wrong : {p q u : Place} {t r x : List ℕ} {n m : ℕ} {f : Fault} → ((v : Place) (y : List ℕ) (k : ℕ) → Goes q r k v y → ⊥)
    → ((g : Fault) → IsWrong q r g → ⊥) → LeadsTo p t n q r → LeadsTo p t m u x → IsWrong u x f → ⊥
none_wrong {f = f} stuck fine Stays Stays v = fine f v
none_wrong stuck fine Stays (Then {mid = mid} {n = k} {between = between} a b) v = stuck mid between k a
none_wrong stuck fine (Then a b) Stays v = goes_wrong a v
none_wrong stuck fine (Then {mid = mid} a b) (Then {last = last} {m = m} {between = between} {rest = rest} c d) v =
    let k = goes_one a c in
    let there = subst (λ l. LeadsTo mid l m last rest) (sym k.2) (subst (λ place. LeadsTo place between m last rest) (sym k.1) d) in
    none_wrong stuck fine b there v
