-- From the test of a table to what it says.
use Rattle.std.proofs.Common.{◌≡◌, ◌<◌, Bool, true, false, List, [], ◌∷◌, arith}
use Rattle.std.specs.Prelude.{◌&&◌, not, nat_lt}
use Rattle.ppm_grammar.specs.Rows.{Item, Take, Part, Grammar}
use Rattle.ppm_grammar.specs.Predictive.{is_empty, may_be_empty, can_start, starts}
use Rattle.ppm_grammar.specs.Predictive.{is_closed, begins_below, lies_below, is_told, is_sound, is_predictive, Closed, LiesBelow, HasGround, IsPredictive}
use Rattle.ppm_grammar.proofs.ListLemmas.{and_left, and_right, implied, excluded, not_true, is_alike, every_in, some_in, one_passes, listed_in}

module _ {T K P V C : Type 0} (g : Grammar T K P V C) (follows : P → K → Bool) where
  -- the items are closed at each kind
  closed : (n : P) (xs : List (Item K P)) (behind : K → Bool) → ((k : K) → is_closed g follows xs behind k ≡ true) → Closed g follows xs behind
  closed n [] behind h = tt
  closed n (Take x ∷ xs) behind h = closed n xs behind h
  closed n (Part m ∷ xs) behind h = (λ k b. implied _ _ (and_left _ _ (h k)) b, closed n xs behind (λ k. and_right _ _ (h k)))

  -- the parts lie below
  below : (n : P) (xs : List (Item K P)) → lies_below g n xs ≡ true → LiesBelow g n xs
  below n [] h = tt
  below n (Take x ∷ xs) h = below n xs h
  below n (Part m ∷ xs) h =
      let less = and_left (nat_lt (g.parts.number n) (g.parts.number m)) _ h in
      (grind (arith, less), below n xs (and_right _ _ h))

  -- a row that begins with a part
  solid : (n m : P) (items xs : List (Item K P)) → items ≡ Part m ∷ xs → begins_below g n items ≡ true →
      (may_be_empty g m ≡ false) × (g.parts.number n < g.parts.number m)
  solid n m items xs is h =
      let h' : (not (may_be_empty g m) && nat_lt (g.parts.number n) (g.parts.number m)) ≡ true = rw is at h in
      let less = and_right _ (nat_lt (g.parts.number n) (g.parts.number m)) h' in
      (not_true _ (and_left _ _ h'), grind (arith, less))

  module _ (test : is_predictive g follows ≡ true) where
    -- of each part, and at each kind
    sound : (n : P) → is_sound g follows n ≡ true
    sound n = every_in (λ n. is_sound g follows n) test (listed_in g.parts n)

    told : (n : P) (k : K) → is_told g follows n k ≡ true
    told n k = every_in (λ k. is_told g follows n k) (and_left _ _ (and_left _ _ (and_left _ _ (sound n)))) (listed_in g.kinds k)

    -- some row has all parts below
    grounded : (n : P) → HasGround g n
    grounded n =
        let r = some_in (λ row. lies_below g n row.items) (g.rows n) (and_right _ _ (sound n)) in
        record { row = r.found; within = r.within; below = below n r.found.items r.passes }

    -- what the test says
    pub predictive : IsPredictive g follows
    predictive = record {
      starts_is = λ n k. is_alike _ _ (and_right _ _ (and_left _ _ (and_left _ _ (told n k))));
      single = λ n k row other i j h h'.
          one_passes (λ row. can_start g (starts g) row.items k) (and_left _ _ (and_left _ _ (and_left _ _ (told n k)))) i j h h';
      one_empty = λ n row other i j h h'. one_passes (λ row. is_empty row) (and_right _ _ (and_left _ _ (and_left _ _ (sound n)))) i j h h';
      apart = λ n k h h'. excluded _ _ _ (and_right _ _ (and_left _ _ (told n k))) h h';
      solid = λ n m row xs i is. solid n m row.items xs is (every_in (λ row. begins_below g n row.items) (and_right _ _ (and_left _ _ (sound n))) i);
      closed = λ n row i. closed n row.items (follows n) (λ k. every_in (λ row. is_closed g follows row.items (follows n) k) (and_right _ _ (told n k)) i);
      grounded = grounded;
    }
