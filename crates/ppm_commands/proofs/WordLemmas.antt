-- A word of arrays that lie one after the other lies in one of them.
use Rattle.std.proofs.Common.{◌≡◌, ◌<◌, ◌≤◌, ℕ, ◌+◌, ◌-◌, List, [], ◌∷◌, ◌++◌, length, map, get_or, take, drop, refl}
use Rattle.std.proofs.Common.{length-append, append_assoc, sym, ap, ap₂, ◌∙◌, subst, arith}
use Rattle.std.proofs.lemmas.List.{take_all}
use Rattle.std.proofs.lemmas.List.Sums.{sum_by-cons}
use Rattle.ppm_words.specs.declared.named_array.NamedArray.{NamedArray}
use Rattle.ppm_words.specs.Inputs.{value_count}
use Rattle.ppm_commands.specs.Races.{IsAt, IsWordOf}

-- the values of arrays are those of the first and those of the others
pub count-cons : (a : NamedArray) (input : List NamedArray) → value_count (a ∷ input) ≡ length a.values + value_count input
count-cons a input = sum_by-cons (λ x. x) (length a.values) (map (λ (b : NamedArray). length b.values) input)

-- of two places of a word the array is one, and the index
same_place : (front other : List NamedArray) (a b : NamedArray) (rest more : List NamedArray) (i j : ℕ) → front ++ (a ∷ rest) ≡ other ++ (b ∷ more)
    → value_count front + i ≡ value_count other + j → i < length a.values → j < length b.values → (a ≡ b) × (i ≡ j)
same_place [] [] a b rest more i j same at inside within = (cc, omega (arith, at))
same_place [] (c ∷ other) a b rest more i j same at inside within =
    let first : a ≡ c = cc in
    let size : length a.values ≡ length c.values = ap (λ (x : NamedArray). length x.values) first in
    absurd (omega (arith, count-cons c other, size, at, inside))
same_place (c ∷ front) [] a b rest more i j same at inside within =
    let first : c ≡ b = cc in
    let size : length c.values ≡ length b.values = ap (λ (x : NamedArray). length x.values) first in
    absurd (omega (arith, count-cons c front, size, at, within))
same_place (c ∷ front) (d ∷ other) a b rest more i j same at inside within =
    let first : c ≡ d = cc in
    let tails : front ++ (a ∷ rest) ≡ other ++ (b ∷ more) = cc in
    let size : length c.values ≡ length d.values = ap (λ (x : NamedArray). length x.values) first in
    same_place front other a b rest more i j tails (omega (arith, count-cons c front, count-cons d other, size, at)) inside within

-- a word has one name and one index
pub one_word : (input : List NamedArray) (word : ℕ) (x y : List ℕ) (i j : ℕ) → IsWordOf input word x i → IsWordOf input word y j → (x ≡ y) × (i ≡ j)
one_word input word x y i j h k =
    let place = same_place h.front k.front h.array k.array h.rest k.rest i j (sym h.all ∙ k.all) (sym h.address ∙ k.address) h.inside k.inside in
    (h.name_is ∙ ap (λ (a : NamedArray). a.name) place.0 ∙ sym k.name_is, place.1)

-- the word is in the arrays that are left, so many words after their start, and so many arrays stand in front of them
pub record IsSoFar (arrays : List NamedArray) (word : ℕ) (left : List NamedArray) (number index : ℕ) : Type 0 where
  pub front : List NamedArray
  pub all : arrays ≡ front ++ left
  pub number_is : number ≡ length front
  pub address : word ≡ value_count front + index
  pub inside : index < value_count left

-- at the start
pub so_far : (arrays : List NamedArray) (word : ℕ) → word < value_count arrays → IsSoFar arrays word arrays 0 word
so_far arrays word less = record { front = []; all = refl; number_is = refl; address = omega arith; inside = less }

-- an array more after others
count_push : (front : List NamedArray) (a : NamedArray) → value_count (front ++ (a ∷ [])) ≡ value_count front + length a.values
count_push [] a = omega (arith, count-cons a [])
count_push (b ∷ front) a = omega (arith, count-cons b front, count-cons b (front ++ (a ∷ [])), count_push front a)

-- the word is not in the first of them
pub passed : (arrays : List NamedArray) (word : ℕ) (a : NamedArray) (rest : List NamedArray) (number index : ℕ)
    → IsSoFar arrays word (a ∷ rest) number index → length a.values ≤ index → IsSoFar arrays word rest (number + 1) (index - length a.values)
passed arrays word a rest number index s past = record {
  front = s.front ++ (a ∷ []);
  all = s.all ∙ sym (append_assoc s.front (a ∷ []) rest);
  number_is = omega (arith, s.number_is, length-append s.front (a ∷ []));
  address = omega (arith, s.address, past, count_push s.front a);
  inside = omega (arith, s.inside, past, count-cons a rest);
}

-- it is in the first of them
pub found : (arrays : List NamedArray) (word : ℕ) (a : NamedArray) (rest : List NamedArray) (number index : ℕ)
    → IsSoFar arrays word (a ∷ rest) number index → index < length a.values → IsAt arrays word (record { array = number; index = index })
found arrays word a rest number index s less =
    record { front = s.front; array = a; rest = rest; all = s.all; number = s.number_is; address = s.address; inside = less }

-- there are so few in front that one more can be counted
pub numbered : (arrays : List NamedArray) (word : ℕ) (left : List NamedArray) (number index : ℕ) → IsSoFar arrays word left number index
    → number ≤ length arrays
numbered arrays word left number index s =
    let all = ap (λ (xs : List NamedArray). length xs) s.all in
    omega (arith, all, s.number_is, length-append s.front left)

-- the array with the number of the cell
pub at_cell : (front : List NamedArray) (a : NamedArray) (rest : List NamedArray) → get_or (front ++ (a ∷ rest)) (length front) a ≡ a
at_cell [] a rest = refl
at_cell (b ∷ front) a rest = at_cell front a rest

-- the first of arrays, and the others
pub split_off : (xs : List NamedArray) (a : NamedArray) → 1 ≤ length xs → a ≡ get_or xs 0 a → xs ≡ a ∷ take (length xs - 1) (drop 1 xs)
split_off [] a h e = absurd (omega (arith, h))
split_off (x ∷ xs) a h e = ap₂ (λ (y : NamedArray) (ys : List NamedArray). y ∷ ys) (sym e) (sym (take_all (length (x ∷ xs) - 1) xs (omega arith)))

-- a word that is not in the first array is in the others
pub passed_by : (arrays : List NamedArray) (word : ℕ) (left : List NamedArray) (a : NamedArray) (number index n : ℕ) → IsSoFar arrays word left number index
    → 1 ≤ length left → a ≡ get_or left 0 a → n ≡ length a.values → n ≤ index
    → IsSoFar arrays word (take (length left - 1) (drop 1 left)) (number + 1) (index - n)
passed_by arrays word left a number index n s h e k past =
    let rest = take (length left - 1) (drop 1 left) in
    let here = subst (λ (xs : List NamedArray). IsSoFar arrays word xs number index) (split_off left a h e) s in
    subst (λ (m : ℕ). IsSoFar arrays word rest (number + 1) (index - m)) (sym k) (passed arrays word a rest number index here (omega (arith, k, past)))
