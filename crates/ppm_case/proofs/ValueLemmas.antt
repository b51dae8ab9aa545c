-- The values of words for which there is room.
use Rattle.std.proofs.Common.{◌≡◌, ◌∙◌, ℕ, ◌+◌, ◌-◌, ◌≤◌, Bool, true, false, ◌&&◌, nat_le, is_some, List, [], ◌∷◌, ◌++◌, length, take, replicate, take_all, Option, Some, None, refl, sym, ap, subst, arith, length-append, append_assoc}
use Rattle.std.specs.Prelude.{ℤ, pos}
use Rattle.std.proofs.lemmas.Bool.{both_ways, and_parts, leb-true}
use Rattle.std.proofs.lemmas.List.{length-replicate, append-nil}
use Rattle.ppm_words.specs.Limits.{word_limit}
use Rattle.ppm_words.specs.Names.{IsName}
use Rattle.ppm_words.specs.declared.named_array.NamedArray.{NamedArray}
use Rattle.ppm_pieces.specs.Numbers.{value}
use Rattle.ppm_pieces.specs.Pieces.{split}
use Rattle.ppm_case.specs.declared.run.Run.{Run}
use Rattle.ppm_case.specs.Spelling.{Written, run_in, number_values, run_values, values_in, filled, array_of}
use Rattle.ppm_case.specs.Rules.{run_fits, said_fits, times_of, values_fit, is_in_range}
use Rattle.ppm_case.specs.Judged.{HasRoom, IsWordsOf, CanStand}
use Rattle.ppm_case.proofs.FormLemmas.{Parts, form_parts, name_back}

-- the values of a run are as many as it says, or none
number_length : (times : ℕ) (o : Option ℤ) → length (number_values times o) ≤ times
number_length times None = omega arith
number_length times (Some z) = omega (arith, length-replicate times z)

run_length : (o : Option Run) → length (run_values o) ≤ times_of o
run_length None = omega arith
run_length (Some r) = number_length r.times r.number

said_within : (room : ℕ) (o : Option Run) → said_fits room o ≡ true → times_of o ≤ room
said_within room None h = absurd (both_ways false refl h)
said_within room (Some r) h =
    leb-true r.times room (and_parts (nat_le 1 r.times) (nat_le r.times room) (and_parts (is_some r.number) (nat_le 1 r.times && nat_le r.times room) h).1).1

-- there is room for the first word, and then for the others
pub room_more : (w : List ℕ) (ws : List (List ℕ)) → HasRoom (w ∷ ws) → (times_of (run_in w) ≤ word_limit) × HasRoom ws
room_more w ws h =
    let k = and_parts (said_fits h.room (run_in w)) (values_fit (h.room - times_of (run_in w)) ws) h.fits in
    let within = said_within h.room (run_in w) k.0 in
    (omega (arith, within, h.few), record { room = h.room - times_of (run_in w); few = omega (arith, h.few); fits = k.1 })

-- values that fit are no more than there is room for
pub fits_length : (room : ℕ) (ws : List (List ℕ)) → values_fit room ws ≡ true → length (values_in ws) ≤ room
fits_length room [] h = omega arith
fits_length room (w ∷ ws) h =
    let k = and_parts (said_fits room (run_in w)) (values_fit (room - times_of (run_in w)) ws) h in
    omega (
      arith,
      said_within room (run_in w) k.0,
      run_length (run_in w),
      fits_length (room - times_of (run_in w)) ws k.1,
      length-append (run_values (run_in w)) (values_in ws),
    )

-- zeros fill them up
pub fill : (len : ℕ) (ws : List (List ℕ)) (zs : List ℤ) → values_fit len ws ≡ true → zs ≡ values_in ws
    → take len zs ++ replicate (len - length zs) (pos 0) ≡ filled len (values_in ws)
fill len ws zs h e =
    ap (λ (l : List ℤ). take len l ++ replicate (len - length l) (pos 0)) e
    ∙ ap (λ (l : List ℤ). l ++ replicate (len - length (values_in ws)) (pos 0)) (take_all len (values_in ws) (fits_length len ws h))

-- an array has as many values as its length says
pub array_length : (a : Written) → values_fit (value a.len) a.values ≡ true → length (filled (value a.len) (values_in a.values)) ≡ value a.len
array_length a h =
    omega (
      arith,
      fits_length (value a.len) a.values h,
      length-append (values_in a.values) (replicate (value a.len - length (values_in a.values)) (pos 0)),
      length-replicate (value a.len - length (values_in a.values)) (pos 0),
    )

-- the parts of a range
pub range_parts : (a : Written) → is_in_range a ≡ true → (value a.len ≤ word_limit) × (values_fit (value a.len) a.values ≡ true)
range_parts a h =
    let k = and_parts (nat_le (value a.len) word_limit) (values_fit (value a.len) a.values) h in
    (leb-true (value a.len) word_limit k.0, k.1)

-- what is known of an array that can stand
abbrev tail_of : List (List ℕ) → List (List ℕ)
tail_of [] = []
tail_of (w ∷ ws) = ws

module _ {name numbers : List ℕ} {len : ℕ} where
  pub stand_few : CanStand name numbers len → len ≤ word_limit
  stand_few h = omega (arith, h.of_it.len_is, (range_parts h.array h.range).0)

  pub stand_name : CanStand name numbers len → IsName name
  stand_name h = subst IsName h.of_it.name_is (name_back h.array.name (form_parts h.array h.form).name)

  pub stand_fit : CanStand name numbers len → (l : List ℕ) (ws : List (List ℕ)) → split 32 numbers ≡ l ∷ ws → values_fit len ws ≡ true
  stand_fit h l ws cut =
      ap (λ (n : ℕ). values_fit n ws) (sym h.of_it.len_is)
      ∙ ap (λ (v : List (List ℕ)). values_fit (value h.array.len) (tail_of v)) (sym cut ∙ h.of_it.numbers_are)
      ∙ (range_parts h.array h.range).1

  -- its values and its name are the array
  pub array_made : (a : Written) → IsWordsOf a name numbers len → (called : List ℕ) → called ≡ name → (values : List ℤ)
      → ((l : List ℕ) (ws : List (List ℕ)) → split 32 numbers ≡ l ∷ ws → values ≡ filled len (values_in ws))
      → record { name = called; values = values } ≡ array_of a
  array_made a h called same values f =
      let names : called ≡ a.name = same ∙ sym h.name_is in
      let these : values ≡ filled (value a.len) (values_in a.values) =
      f a.len a.values h.numbers_are ∙ ap (λ (n : ℕ). filled n (values_in a.values)) (sym h.len_is) in
      λ i. record { name = names i; values = these i }
