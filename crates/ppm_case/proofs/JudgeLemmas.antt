-- What the functions find out about the words of a line, and the array that they are of.
use Rattle.std.proofs.Common.{◌≡◌, ◌∙◌, ℕ, ◌+◌, ◌-◌, ◌≤◌, Bool, true, false, ◌&&◌, nat_le, cond, is_some, List, [], ◌∷◌, ◌++◌, length, Option, Some, None, refl, sym, ap, subst, arith}
use Rattle.std.specs.List.{list_all}
use Rattle.std.proofs.lemmas.Bool.{both_ways, and_parts, cond-true, leb-true}
use Rattle.std.specs.Cmp.Derive.{both_true}
use Rattle.ppm_words.specs.Limits.{word_limit}
use Rattle.ppm_words.specs.declared.named_array.NamedArray.{NamedArray}
use Rattle.ppm_pieces.specs.Numbers.{is_numeral, value}
use Rattle.ppm_pieces.specs.Pieces.{split, halves_of}
use Rattle.ppm_case.specs.declared.run.Run.{Run}
use Rattle.ppm_case.specs.declared.line.Room.{Room}
use Rattle.ppm_case.specs.declared.line.Numbers.{Numbers}
use Rattle.ppm_case.specs.declared.case_error.InputFault.TheVariants as input
use Rattle.ppm_case.specs.Spelling.{array_word, joined, Written, array_text, array_line, run_in, is_array_name, has_form, begins_array}
use Rattle.ppm_case.specs.Rules.{run_fits, said_fits, times_of, values_fit, is_in_range, is_named, is_past, Follows}
use Rattle.ppm_case.specs.Judged.{room_after, taken, judged, room_of, with_len, numbers_of, HasHead, IsWordsOf, IsNext}
use Rattle.ppm_case.specs.Faults.{IsBadLine, NoForm, PastRange, Again, TooMany}
use Rattle.ppm_case.proofs.OptionLemmas.{some_same, not_both, and_group, and_true, or_else}
use Rattle.ppm_case.proofs.WordLemmas.{is_piece, some_piece, joined_split, split_joined, halves_back}
use Rattle.ppm_case.proofs.FormLemmas.{Parts, form_parts, form_from, form_pieces, words_of_line, line_before, line_of_text}

-- a line of two words has no numbers
pub no_numbers : (line word rest name numbers : List ℕ) → split 32 line ≡ word ∷ split 32 rest → split 32 rest ≡ rest ∷ []
    → HasHead line name numbers → ⊥
no_numbers line word rest name numbers cut last h =
    let (p, ps, some) = some_piece 32 numbers in
    let long = ap (λ (l : List (List ℕ)). length l) (sym h.words ∙ cut ∙ ap (λ (l : List (List ℕ)). word ∷ l) last) in
    let more = ap (λ (l : List (List ℕ)). length l) some in
    omega (arith, long, more)

-- whether values fit, by the first of their words
abbrev judged_by : Room → Option Run → List (List ℕ) → Option Bool
judged_by room said ws =
    cond (is_some said && list_all (λ w. is_some (run_in w)) ws) (Some (room.fits && (said_fits room.left said && values_fit (room.left - times_of said) ws))) None

pub judged_none : (room : Room) (w : List ℕ) (ws : List (List ℕ)) → taken room (run_in w) ≡ None → judged room (w ∷ ws) ≡ None
judged_none room w ws h = by (run_in w) h
  where
    by : (o : Option Run) → taken room o ≡ None → judged_by room o ws ≡ None
    by None e = refl
    by (Some r) e = absurd (not_both e refl)

pub judged_more : (room next : Room) (w : List ℕ) (ws : List (List ℕ)) → taken room (run_in w) ≡ Some next → judged room (w ∷ ws) ≡ judged next ws
judged_more room next w ws h = by (run_in w) h
  where
    by : (o : Option Run) → taken room o ≡ Some next → judged_by room o ws ≡ judged next ws
    by None e = absurd (not_both refl e)
    by (Some r) e =
        ap (λ (b : Bool). cond (list_all (λ w. is_some (run_in w)) ws) (Some b) None) (and_group room.fits (run_fits room.left r) (values_fit (room.left - r.times) ws))
        ∙ ap (λ (n : Room). judged n ws) (some_same e)

pub judged_last : (room last : Room) (w : List ℕ) → taken room (run_in w) ≡ Some last → judged room (w ∷ []) ≡ Some last.fits
judged_last room last w h = judged_more room last w [] h ∙ ap (λ (b : Bool). Some b) (and_true last.fits)

-- the numbers of a line that has its form
pub numbers_formed : (a : Written) → has_form a ≡ true → numbers_of (a.len ∷ a.values) ≡ Some (record { len = value a.len; fits = is_in_range a })
numbers_formed a h =
    let k = form_parts a h in
    cond-true (is_numeral a.len) (with_len (value a.len) (judged (room_of (value a.len)) a.values)) None k.len
    ∙ ap (λ (o : Option Bool). with_len (value a.len) o)
    (cond-true (list_all (λ w. is_some (run_in w)) a.values) (Some (is_in_range a)) None k.values)

-- a line whose name and numbers have their forms is that of an array
pub record Found (line name numbers : List ℕ) (n : Numbers) : Type 0 where
  pub array : Written
  pub same : line ≡ array_text array
  pub form : has_form array ≡ true
  pub range : is_in_range array ≡ n.fits
  pub of_it : IsWordsOf array name numbers n.len

pub found : (line name numbers : List ℕ) (n : Numbers) → HasHead line name numbers → numbers_of (split 32 numbers) ≡ Some n → Found line name numbers n
found line name numbers n h e = by (split 32 numbers) refl e
  where
    of_words : (l : List ℕ) (ws : List (List ℕ)) → split 32 numbers ≡ l ∷ ws → is_numeral l ≡ true → (said : Bool)
        → list_all (λ w. is_some (run_in w)) ws ≡ said
        → with_len (value l) (cond said (Some (nat_le (value l) word_limit && values_fit (value l) ws)) None) ≡ Some n → Found line name numbers n
    of_words l ws cut numeral false s e = absurd (not_both refl e)
    of_words l ws cut numeral true s e =
        let a : Written = record { name = name; len = l; values = ws } in
        let same : record { len = value l; fits = is_in_range a } ≡ n = some_same e in
        record {
          array = a;
          same = sym (joined_split line) ∙ ap (λ (k : List (List ℕ)). joined k) (h.words ∙ ap (λ (k : List (List ℕ)). array_word ∷ name ∷ k) cut);
          form = form_from a (record { name = h.name_is; len = numeral; values = s });
          range = ap (λ (m : Numbers). m.fits) same;
          of_it = record { name_is = refl; numbers_are = cut; len_is = ap (λ (m : Numbers). m.len) same };
        }

    by_len : (l : List ℕ) (ws : List (List ℕ)) → split 32 numbers ≡ l ∷ ws → (numeral : Bool) → is_numeral l ≡ numeral
        → cond numeral (with_len (value l) (judged (room_of (value l)) ws)) None ≡ Some n → Found line name numbers n
    by_len l ws cut true s e = of_words l ws cut s (list_all (λ w. is_some (run_in w)) ws) refl e
    by_len l ws cut false s e = absurd (not_both refl e)

    by : (words : List (List ℕ)) → split 32 numbers ≡ words → numbers_of words ≡ Some n → Found line name numbers n
    by [] cut e = absurd (not_both refl e)
    by (l ∷ ws) cut e = by_len l ws cut (is_numeral l) refl e

-- what stands after two words
abbrev behind_two : List (List ℕ) → List (List ℕ)
behind_two [] = []
behind_two (a ∷ []) = []
behind_two (a ∷ b ∷ ws) = ws

module _ (arrays : List NamedArray) (line text rest : List ℕ) (cut : halves_of 10 text ≡ Some (line, rest)) where
  -- the line of an array that begins the text is this one
  its_line : (a : Written) (more : List ℕ) → has_form a ≡ true → text ≡ array_line a ++ more → line ≡ array_text a
  its_line a more form same =
      ap (λ (p : List ℕ × List ℕ). p.0)
      (some_same (sym cut ∙ ap (λ (t : List ℕ). halves_of 10 t) same ∙ line_of_text a more form))

  -- a line without name and numbers is that of no array
  pub no_head : begins_array text ≡ true → ((name numbers : List ℕ) → HasHead line name numbers → ⊥) → IsBadLine arrays text input.NoSuchForm
  no_head begins none = NoForm begins (λ a more form same.
      let k = form_pieces a form in
      let name_and = and_parts (list_all is_piece a.name) (list_all (λ w. list_all is_piece w) (a.len ∷ a.values)) k in
      let len_and = and_parts (list_all is_piece a.len) (list_all (λ w. list_all is_piece w) a.values) name_and.1 in
      none a.name (joined (a.len ∷ a.values)) (record {
        words = ap (λ (t : List ℕ). split 32 t) (its_line a more form same) ∙ words_of_line a form
            ∙ ap (λ (k : List (List ℕ)). array_word ∷ a.name ∷ k) (sym (split_joined a.len a.values len_and.0 len_and.1));
        name_is = (form_parts a form).name;
      }))

  module _ (name numbers : List ℕ) (head : HasHead line name numbers) where
    -- nor is one whose numbers have no form
    pub no_form : begins_array text ≡ true → numbers_of (split 32 numbers) ≡ None → IsBadLine arrays text input.NoSuchForm
    no_form begins none = NoForm begins (λ a more form same.
        let words : array_word ∷ name ∷ split 32 numbers ≡ array_word ∷ a.name ∷ a.len ∷ a.values =
        sym head.words ∙ ap (λ (t : List ℕ). split 32 t) (its_line a more form same) ∙ words_of_line a form in
        let tail : split 32 numbers ≡ a.len ∷ a.values = ap (λ (l : List (List ℕ)). behind_two l) words in
        not_both (sym (ap (λ (l : List (List ℕ)). numbers_of l) tail) ∙ none) (numbers_formed a form))

    module _ (n : Numbers) (says : numbers_of (split 32 numbers) ≡ Some n) where
      abbrev its : Found line name numbers n
      its = found line name numbers n head says

      stands : text ≡ array_line its.array ++ rest
      stands = halves_back 10 text line rest cut ∙ ap (λ (l : List ℕ). l ++ 10 ∷ rest) its.same ∙ sym (line_before its.array rest)

      new_name : (b : Bool) → is_named arrays name ≡ b → is_named arrays its.array.name ≡ b
      new_name b h = ap (λ (m : List ℕ). is_named arrays m) its.of_it.name_is ∙ h

      long_as : (b : Bool) → is_past arrays n.len ≡ b → is_past arrays (value its.array.len) ≡ b
      long_as b h = ap (λ (m : ℕ). is_past arrays m) its.of_it.len_is ∙ h

      -- it is that of an array, with a number out of its range, or a name that was there, or one too many
      pub past_range : n.fits ≡ false → IsBadLine arrays text input.OutOfRange
      past_range h = PastRange its.array rest stands its.form (its.range ∙ h)

      pub named_again : n.fits ≡ true → is_named arrays name ≡ true → IsBadLine arrays text input.NamedTwice
      named_again h k = Again its.array rest stands its.form (its.range ∙ h) (new_name true k)

      pub too_many : n.fits ≡ true → is_named arrays name ≡ false → is_past arrays n.len ≡ true → IsBadLine arrays text input.TooMuch
      too_many h k l = TooMany its.array rest stands its.form (its.range ∙ h) (new_name false k) (long_as true l)

-- or it may stand there
pub next_is : (arrays : List NamedArray) (line name numbers : List ℕ) (n : Numbers) → HasHead line name numbers → numbers_of (split 32 numbers) ≡ Some n
    → n.fits ≡ true → is_named arrays name ≡ false → is_past arrays n.len ≡ false → IsNext arrays line name numbers n.len
next_is arrays line name numbers n head says h k l =
    let f = found line name numbers n head says in
    record {
      array = f.array;
      same = f.same;
      follows = record {
        form = f.form;
        range = f.range ∙ h;
        new = ap (λ (m : List ℕ). is_named arrays m) f.of_it.name_is ∙ k;
        within = ap (λ (m : ℕ). is_past arrays m) f.of_it.len_is ∙ l;
      };
      of_it = f.of_it;
    }
