-- The first fault of a text by its front and its outline.
use Rattle.std.proofs.Common.{◌≡◌, ◌∙◌, ◌⊎◌, inl, inr, ℕ, zero, suc, ◌+◌, ◌^◌, ◌<◌, ◌≤◌, ◌==◌, Bool, true, false, ◌||◌, cond, nat_lt, nat_le}
use Rattle.std.proofs.Common.{IsTrue, ltb-true, ltb-false}
use Rattle.std.proofs.Common.{List, [], ◌∷◌, ◌++◌, length, Option, Some, None, refl, sym, ap, subst, arith, append_assoc, append-nil, length-append}
use Rattle.std.proofs.lemmas.Bool.{both_ways}
use Rattle.ppm_code.specs.declared.code.CodeParts.{CodeParts}
use Rattle.ppm_code.specs.Limits.{procedure_limit, capsule_limit, instr_limit}
use Rattle.ppm_listing_reader.specs.declared.listing_error.Fault.{Fault}
use Rattle.ppm_listing_reader.specs.declared.listing_error.Fault.TheVariants.{NoSuchForm, NotThere}
use Rattle.ppm_listing_reader.specs.declared.part.Part.{Part}
use Rattle.ppm_listing_reader.specs.declared.part.Part.TheVariants as part
use Rattle.ppm_listing_reader.specs.declared.place.Place.{Place}
use Rattle.ppm_listing_reader.specs.declared.place.Place.TheVariants.{AtVersion, AtRoot, AtProcedure, Within}
use Rattle.ppm_listing_reader.specs.declared.reader.Reader.{Reader}
use Rattle.ppm_listing_reader.specs.Limits.{listing_limit}
use Rattle.ppm_listing_reader.specs.ErrorNumbers.{fault_number, refusal_at}
use Rattle.ppm_listing_reader.specs.Tokens.{split}
use Rattle.ppm_listing_reader.specs.Forms.{line_of, lines_in, lines_of}
use Rattle.ppm_listing_reader.specs.Places.{standing, next, standing_from, counted, code_in}
use Rattle.ppm_listing_reader.specs.Faults.{breaks, BreaksAt, KeepsRules, IsFirstBreak}
use Rattle.ppm_listing_reader.specs.Outlines.{outline_of, no_outline, added}
use Rattle.ppm_listing_reader.specs.Fronts.{breaks_alone, after, AlwaysBreaks, IsFront, HasRead, Takes}
use Rattle.ppm_listing_reader.specs.Correct.{standing_of, IsListing, IsRefusal}
use Rattle.ppm_listing_reader.proofs.OutlineLemmas.{outlined_code, outlined_more}
use Rattle.ppm_listing_reader.proofs.AgreeLemmas.{from_outline, to_outline}
use Rattle.ppm_listing_reader.proofs.FirstLemmas.{counted-next}
use Rattle.ppm_listing_reader.proofs.FaultLemmas.{line_step, first_fault_of, refusal_of}
use Rattle.ppm_listing_reader.proofs.ReadingLemmas.{text_is_listing}

or_left : (a b : Bool) → a ≡ true → IsTrue (a || b)
or_left true b h = refl
or_left false b h = absurd (both_ways false refl h)

-- what breaks a rule alone
broken_alone : (place : Place) (l : Option Part) → breaks_alone place l ≡ true → (code : CodeParts) → (fault : Fault) × IsTrue (breaks code fault place l)
broken_alone place None h code = (NoSuchForm, refl)
broken_alone place (Some (part.Procedure i s k)) h code = (NotThere, or_left (nat_le procedure_limit i) _ h)
broken_alone place (Some (part.Capsule c q)) h code = (NotThere, or_left (nat_le capsule_limit c) _ h)
broken_alone place (Some part.Version) h code = absurd (both_ways false refl h)
broken_alone place (Some (part.Root q xs)) h code = absurd (both_ways false refl h)
broken_alone AtVersion (Some (part.Instr i)) h code = absurd (both_ways false refl h)
broken_alone AtRoot (Some (part.Instr i)) h code = absurd (both_ways false refl h)
broken_alone (AtProcedure n) (Some (part.Instr i)) h code = absurd (both_ways false refl h)
broken_alone (Within c q at room) (Some (part.Instr None)) h code = (NotThere, h)
broken_alone (Within c q at room) (Some (part.Instr (Some i))) h code = (NotThere, or_left (nat_le instr_limit at) _ h)

-- a place after lines, and a line that stands there
after_more : (place : Place) (ls : List (Option Part)) (l : Option Part) → after place (ls ++ l ∷ []) ≡ next (after place ls) l
after_more place [] l = refl
after_more place (k ∷ ls) l = after_more (next place k) ls l

breaks_last : (code : CodeParts) (fault : Fault) (place : Place) (ls : List (Option Part)) (l : Option Part)
    → IsTrue (breaks code fault (after place ls) l) → BreaksAt code fault place (ls ++ l ∷ []) (length ls)
breaks_last code fault place [] l h = h
breaks_last code fault place (k ∷ ls) l h = breaks_last code fault (next place k) ls l h

last_breaks : (ls : List (Option Part)) (l : Option Part) → breaks_alone (after AtVersion ls) l ≡ true → AlwaysBreaks (ls ++ l ∷ [])
last_breaks ls l h code =
    let (fault, is) = broken_alone (after AtVersion ls) l h code in
    (fault, length ls, breaks_last code fault AtVersion ls l is, omega (arith, length-append ls (l ∷ [])))

-- a line more is kept, or not
front_more : (kept ls : List (Option Part)) (is_broken : Bool) (place : Place) (l : Option Part) → place ≡ after AtVersion ls → IsFront kept is_broken ls
    → IsFront (cond is_broken kept (kept ++ l ∷ [])) (is_broken || breaks_alone place l) (ls ++ l ∷ [])
front_more kept ls true place l e f = record {
  behind = f.behind ++ l ∷ [];
  same = sym (append_assoc kept f.behind (l ∷ [])) ∙ ap (λ x. x ++ l ∷ []) f.same;
  whole = λ h. absurd (both_ways true h refl);
  broken = f.broken;
}
front_more kept ls false place l e f =
    let all : kept ≡ ls = sym (append-nil kept) ∙ ap (λ x. kept ++ x) (sym (f.whole refl)) ∙ f.same in
    record {
      behind = [];
      same = append-nil (kept ++ l ∷ []) ∙ ap (λ x. x ++ l ∷ []) all;
      whole = λ h. refl;
      broken = λ h. last_breaks kept l (ap (λ p. breaks_alone p l) (ap (after AtVersion) all ∙ sym e) ∙ h);
    }

pub read_more : (old new : Reader) (line : Option Part) (ls : List (Option Part)) → HasRead old ls → Takes old line new
    → HasRead new (ls ++ standing old.place line ∷ [])
read_more old new line ls r t =
    let l = standing old.place line in
    record {
      outline = t.outline ∙ ap (λ o. added o l) r.outline ∙ sym (outlined_more no_outline ls l);
      place = t.place ∙ ap (λ p. next p l) r.place ∙ sym (after_more AtVersion ls l);
      front = subst (λ k. IsFront k new.is_broken (ls ++ l ∷ [])) (sym t.kept)
          (subst (λ b. IsFront (cond old.is_broken old.kept.items (old.kept.items ++ l ∷ [])) b (ls ++ l ∷ [])) (sym t.is_broken)
          (front_more old.kept.items ls old.is_broken old.place l r.place r.front));
    }

-- a place counts no more than the lines before it
counted-after : (place : Place) (ls : List (Option Part)) → counted (after place ls) ≤ counted place + length ls
counted-after place [] = omega arith
counted-after place (l ∷ ls) = omega (arith, counted-after (next place l) ls, counted-next place l)

-- some lines were read, and the rest stands after them
pub record Goes (text : List ℕ) (r : Reader) (left : List ℕ) : Type 0 where
  pub so_far : List (Option Part)
  pub read : HasRead r so_far
  pub same : so_far ++ standing_from r.place (lines_of left) ≡ standing_of text
  pub most : length so_far + length left ≤ length text

module _ (text : List ℕ) where
  pub goes_none : (r : Reader) → HasRead r [] → Goes text r text
  goes_none r read = record {
    so_far = [];
    read = read;
    same = ap (λ p. standing_from p (lines_of text)) read.place;
    most = omega arith;
  }

  pub goes_more : (old new : Reader) (line : Option Part) (left bytes rest : List ℕ) → split 10 left ≡ bytes ∷ split 10 rest → length rest < length left
      → line ≡ line_of bytes → Goes text old left → Takes old line new → Goes text new rest
  goes_more old new line left bytes rest pieces shorter is g t =
      let l = standing old.place line in
      let named = ap (standing old.place) is in
      record {
        so_far = g.so_far ++ l ∷ [];
        read = read_more old new line g.so_far g.read t;
        same = ap (λ p. (g.so_far ++ l ∷ []) ++ standing_from p (lines_of rest)) t.place
            ∙ ap (λ k. (g.so_far ++ k ∷ []) ++ standing_from (next old.place k) (lines_of rest)) named
            ∙ line_step (standing_of text) g.so_far old.place left bytes rest pieces g.same;
        most = omega (arith, g.most, shorter, length-append g.so_far (l ∷ []));
      }

  -- a line more can be counted
  pub goes_counted : (r : Reader) (left : List ℕ) → length text ≤ listing_limit → Goes text r left → counted r.place + 1 < 2 ^ 32
  goes_counted r left few g = omega (arith, few, g.most, counted-after AtVersion g.so_far, ap counted g.read.place)

  -- no more lines are kept than were read
  kept_most : (kept ls : List (Option Part)) (is_broken : Bool) → IsFront kept is_broken ls → length kept ≤ length ls
  kept_most kept ls is_broken f = omega (arith, length-append kept f.behind, ap length f.same)

  pub record AllRead (r : Reader) : Type 0 where
    pub lines : HasRead r (standing_of text)
    pub most : length r.kept.items ≤ length text

  -- nothing is left
  pub goes_ended : (r : Reader) (left : List ℕ) → split 10 left ≡ left ∷ [] → left ≡ [] → Goes text r left → AllRead r
  goes_ended r left pieces none g =
      let all : g.so_far ≡ standing_of text = sym (append-nil g.so_far) ∙ ap (λ l. g.so_far ++ standing_from r.place (lines_of l)) (sym none) ∙ g.same in
      record {
        lines = subst (HasRead r) all g.read;
        most = omega (arith, g.most, kept_most r.kept.items g.so_far r.is_broken g.read.front);
      }

  -- a line without its line feed is
  pub goes_unended : (old new : Reader) (left : List ℕ) → split 10 left ≡ left ∷ [] → false ≡ (length left == 0) → Goes text old left
      → Takes old None new → AllRead new
  goes_unended old new [] pieces some g t = absurd (both_ways false refl some)
  goes_unended old new (b ∷ bs) pieces some g t =
      let read = read_more old new None g.so_far g.read t in
      let all : g.so_far ++ None ∷ [] ≡ standing_of text =
      ap (λ ps. g.so_far ++ standing_from old.place (lines_in ps)) (sym pieces) ∙ g.same in
      record {
        lines = subst (HasRead new) all read;
        most = omega (arith, g.most, kept_most new.kept.items (g.so_far ++ None ∷ []) new.is_broken read.front, length-append g.so_far (None ∷ []));
      }

-- rules on a front of lines
in_front : (code : CodeParts) (fault : Fault) (place : Place) (kept behind : List (Option Part)) (number : ℕ) → number < length kept
    → BreaksAt code fault place (kept ++ behind) number → BreaksAt code fault place kept number
in_front code fault place [] behind number few h = absurd (omega (arith, few))
in_front code fault place (l ∷ ls) behind zero few h = h
in_front code fault place (l ∷ ls) behind (suc n) few h = in_front code fault (next place l) ls behind n (omega (arith, few)) h

in_whole : (code : CodeParts) (fault : Fault) (place : Place) (kept behind : List (Option Part)) (number : ℕ) → number < length kept
    → BreaksAt code fault place kept number → BreaksAt code fault place (kept ++ behind) number
in_whole code fault place [] behind number few h = absurd (omega (arith, few))
in_whole code fault place (l ∷ ls) behind zero few h = h
in_whole code fault place (l ∷ ls) behind (suc n) few h = in_whole code fault (next place l) ls behind n (omega (arith, few)) h

either : (b : Bool) → (b ≡ false) ⊎ (b ≡ true)
either false = inl refl
either true = inr refl

-- what breaks a rule first in a front in which one always does, does so in all lines
first_in_whole : (code : CodeParts) (kept behind : List (Option Part)) (fault : Fault) (number : ℕ) → AlwaysBreaks kept
    → IsFirstBreak code AtVersion kept fault number → IsFirstBreak code AtVersion (kept ++ behind) fault number
first_in_whole code kept behind fault number always b = record {
  there = in_whole code fault AtVersion kept behind number few b.there;
  first = after_it;
  within = omega (arith, b.within, length-append kept behind);
}
  where
    sooner : (other : Fault) (n : ℕ) → n < length kept → (number < n) ⊎ ((number ≡ n) × (fault_number fault ≤ fault_number other))
        → number < length kept
    sooner other n h (inl less) = omega (arith, h, less)
    sooner other n h (inr (same, _)) = omega (arith, h, same)

    few : number < length kept
    few = let (other, n, breaks, within) = always code in sooner other n within (b.first other n breaks)

    after_it : (other : Fault) (later : ℕ) → BreaksAt code other AtVersion (kept ++ behind) later
        → (number < later) ⊎ ((number ≡ later) × (fault_number fault ≤ fault_number other))
    after_it other later h = go (either (nat_lt later (length kept)))
      where
        go : (nat_lt later (length kept) ≡ false) ⊎ (nat_lt later (length kept) ≡ true)
            → (number < later) ⊎ ((number ≡ later) × (fault_number fault ≤ fault_number other))
        go (inr in_kept) = b.first other later (in_front code other AtVersion kept behind later (ltb-true later (length kept) in_kept) h)
        go (inl past) = inl (omega (arith, few, ltb-false later (length kept) past))

-- the first broken rule of what is kept, by the outline
first_of_all : (code : CodeParts) (kept ls : List (Option Part)) (is_broken : Bool) (fault : Fault) (number : ℕ) → IsFront kept is_broken ls
    → IsFirstBreak (outline_of code) AtVersion kept fault number → IsFirstBreak code AtVersion ls fault number
first_of_all code kept ls is_broken fault number f b = go (either is_broken)
  where
    own : IsFirstBreak code AtVersion kept fault number
    own = record {
      there = from_outline code fault AtVersion kept number b.there;
      first = λ other later h. b.first other later (to_outline code other AtVersion kept later h);
      within = b.within;
    }

    go : (is_broken ≡ false) ⊎ (is_broken ≡ true) → IsFirstBreak code AtVersion ls fault number
    go (inl not) = subst (λ x. IsFirstBreak code AtVersion x fault number) (sym (append-nil kept) ∙ ap (λ x. kept ++ x) (sym (f.whole not)) ∙ f.same) own
    go (inr is) = subst (λ x. IsFirstBreak code AtVersion x fault number) f.same (first_in_whole code kept f.behind fault number (f.broken is) own)

-- where none is broken, all lines are kept
none_of_all : (code : CodeParts) (kept ls : List (Option Part)) (is_broken : Bool) → IsFront kept is_broken ls
    → KeepsRules (outline_of code) AtVersion kept → kept ≡ ls
none_of_all code kept ls is_broken f keeps = go (either is_broken)
  where
    go : (is_broken ≡ false) ⊎ (is_broken ≡ true) → kept ≡ ls
    go (inl not) = sym (append-nil kept) ∙ ap (λ x. kept ++ x) (sym (f.whole not)) ∙ f.same
    go (inr is) = let (fault, n, breaks, within) = f.broken is code in absurd (keeps fault n (to_outline code fault AtVersion kept n breaks))

module _ (text : List ℕ) (r : Reader) (read : HasRead r (standing_of text)) where
  outline : r.outline ≡ outline_of (code_in (standing_of text))
  outline = read.outline ∙ outlined_code (standing_of text)

  pub found_refusal : length text ≤ listing_limit → (kept : List (Option Part)) → kept ≡ r.kept.items → (fault : Fault) (number : ℕ)
      → IsFirstBreak r.outline AtVersion kept fault number → IsRefusal text (refusal_at fault (number + 1))
  found_refusal few kept same fault number b =
      refusal_of text fault (number + 1) (first_fault_of text fault number few
      (first_of_all (code_in (standing_of text)) r.kept.items (standing_of text) r.is_broken fault number read.front
      (subst (λ o. IsFirstBreak o AtVersion r.kept.items fault number) outline
      (subst (λ k. IsFirstBreak r.outline AtVersion k fault number) same b))))

  pub found_listing : (parts : CodeParts) (kept again : List (Option Part)) → kept ≡ r.kept.items → again ≡ r.kept.items → parts ≡ code_in again
      → KeepsRules r.outline AtVersion kept → IsListing text parts
  found_listing parts kept again same other made keeps =
      let code = code_in (standing_of text) in
      let kept_rules = subst (λ o. KeepsRules o AtVersion r.kept.items) outline (subst (KeepsRules r.outline AtVersion) same keeps) in
      let all : r.kept.items ≡ standing_of text = none_of_all code r.kept.items (standing_of text) r.is_broken read.front kept_rules in
      subst (IsListing text) (sym (made ∙ ap code_in (other ∙ all)))
      (text_is_listing text (λ fault number h. subst (KeepsRules (outline_of code) AtVersion) all kept_rules fault number
      (to_outline code fault AtVersion (standing_of text) number h)))
