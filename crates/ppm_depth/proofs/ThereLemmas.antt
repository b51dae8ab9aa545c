-- Each code has a run within each number of capsules: from a tree it goes on to the next capsule or the end, capsule by capsule.
use Rattle.std.proofs.Common.{◌≡◌, ◌⊎◌, inl, inr, refl, subst, ℕ, zero, suc, ◌≤◌, ◌<◌, arith, List}
use Rattle.ppm_strands.specs.Tree.{Words, Strand, Call, Fork, Over, Code}
use Rattle.ppm_strands.specs.Run.{Counts, End, none, plus, with_counts, of_capsule}
use Rattle.ppm_strands.specs.Ahead.{Step, Capsule, Return, Join, Done}
use Rattle.ppm_strands.specs.Turn.{IsOver}
use Rattle.ppm_strands.proofs.RunLemmas.{plus_none}
use Rattle.ppm_strands.proofs.ChainLemmas.{chains_keep_ends, chains_count_no_more}
use Rattle.ppm_words.specs.declared.named_array.NamedArray.{NamedArray}
use Rattle.ppm_words.specs.declared.outcome.Outcome.TheVariants.{NotWithin}
use Rattle.ppm_code.specs.declared.code.CodeParts.{CodeParts}
use Rattle.ppm_code.specs.Inputs.{words_in}
use Rattle.ppm_code.specs.Strands.{Result, Gave, Trapped, resume}
use Rattle.ppm_depth.specs.Order.{IsInOrder, StepsInOrder, IsAtWork}
use Rattle.ppm_depth.specs.Run.{strands_of, said_of, pool_words, ComesTo, HasRunWithin}
use Rattle.ppm_depth.specs.Stack.{Own, Strands}
use Rattle.ppm_depth.specs.Start.{words_of, root_strand}
use Rattle.ppm_depth.proofs.OrderLemmas.{turns, before, then_steps, under, left, right}

module _ (code : CodeParts) (input : List NamedArray) where
  abbrev c : Code Own Result
  c = strands_of code input

  -- steps that count nothing, and then others
  and_then : {k : Counts} {t u v : Strands} {a b d : Words} → StepsInOrder c none t a u b → StepsInOrder c k u b v d → StepsInOrder c k t a v d
  and_then {k = k} {t = t} {v = v} {a = a} {d = d} s more =
      subst (λ (i : Counts). StepsInOrder c i t a v d) (plus_none k) (then_steps c s.0 s.1 more)

  one_and : {k : Counts} {t u v : Strands} {a b d : Words} (s : Step c none t a u b) → IsInOrder s → StepsInOrder c k u b v d → StepsInOrder c k t a v d
  one_and {k = k} {t = t} {v = v} {a = a} {d = d} s is more =
      subst (λ (i : Counts). StepsInOrder c i t a v d) (plus_none k) (before c s is more)

  -- nothing is done
  stays : (t : Strands) (a : Words) → StepsInOrder c none t a t a
  stays t a = (Done t a, tt)

  -- steps that count nothing lead to the next capsule, or to the end
  abbrev Goes : Strands → Words → Type 0
  Goes t a = ((o : Result) × StepsInOrder c none t a (Over o) a) ⊎ ((u : Strands) × IsAtWork u × StepsInOrder c none t a u a)

  -- what a frame that goes on is
  resumed : (g : Own) (o : Result) (a : Words) → Goes (resume g o) a
  resumed g (Gave value) a = inr (resume g (Gave value), tt, stays (resume g (Gave value)) a)
  resumed g (Trapped trap line) a = inl (Trapped trap line, stays (resume g (Trapped trap line)) a)

  -- one step first
  goes_after : {t u : Strands} {a : Words} (s : Step c none t a u a) → IsInOrder s → Goes u a → Goes t a
  goes_after s is (inl y) = inl (y.0, one_and s is y.1)
  goes_after s is (inr y) = inr (y.0, y.1, one_and s is y.2)

  -- steps first
  goes_then : {t u : Strands} {a : Words} → StepsInOrder c none t a u a → Goes u a → Goes t a
  goes_then s (inl y) = inl (y.0, and_then s y.1)
  goes_then s (inr y) = inr (y.0, y.1, and_then s y.2)

  -- by the tree
  goes : (t : Strands) (a : Words) → Goes t a
  goes (Strand f) a = inr (Strand f, tt, stays (Strand f) a)
  goes (Over o) a = inl (o, stays (Over o) a)
  goes (Call g t) a = elim (goes t a) [
    | inl y ↦ goes_then (under c g y.1.0 y.1.1) (goes_after (Return g y.0 a) tt (resumed g y.0 a))
    | inr y ↦ inr (Call g y.0, y.1, under c g y.2.0 y.2.1)
  ]
  goes (Fork g l r) a = elim (goes l a) [
    | inl y ↦ goes_then (left c g r y.1.0 y.1.1) (elim (goes r a) [
      | inl z ↦ goes_then (right c g y.0 z.1.0 z.1.1) (goes_after (Join g y.0 z.0 a) tt (resumed (c.kept g y.0) _ a))
      | inr z ↦ inr (Fork g (Over y.0) z.0, inr (tt, z.1), right c g y.0 z.2.0 z.2.1)
    ])
    | inr y ↦ inr (Fork g y.0 r, inl y.1, left c g r y.2.0 y.2.1)
  ]

  -- the next capsule is run
  record HasNext (t : Strands) (a : Words) : Type 0 where
    pub counts : Counts
    pub tree : Strands
    pub words : Words
    pub steps : StepsInOrder c counts t a tree words
    pub one : counts.capsules ≡ 1

  in_right : (g : Own) (l r : Strands) (a : Words) → IsOver l → HasNext r a → HasNext (Fork g l r) a
  in_right g (Over o) r a over it =
      record { counts = it.counts; tree = Fork g (Over o) it.tree; words = it.words; steps = right c g o it.steps.0 it.steps.1; one = it.one }
  in_right g (Strand f) r a over it = absurd over
  in_right g (Call f t) r a over it = absurd over
  in_right g (Fork f t u) r a over it = absurd over

  next : (t : Strands) (a : Words) → IsAtWork t → HasNext t a
  next (Strand f) a is = record {
    counts = plus (of_capsule c f a) none;
    tree = c.next f a;
    words = c.after f a;
    steps = before c (Capsule f a) tt (stays (c.next f a) (c.after f a));
    one = omega arith;
  }
  next (Over o) a is = absurd is
  next (Call g t) a is =
      let it = next t a is in
      record { counts = it.counts; tree = Call g it.tree; words = it.words; steps = under c g it.steps.0 it.steps.1; one = it.one }
  next (Fork g l r) a (inl is) =
      let it = next l a is in
      record { counts = it.counts; tree = Fork g it.tree r; words = it.words; steps = left c g r it.steps.0 it.steps.1; one = it.one }
  next (Fork g l r) a (inr is) = in_right g l r a is.0 (next r a is.1)

  abbrev root : Strands
  root = root_strand code input

  abbrev words : Words
  words = words_of (words_in input)

  -- the run has come to its end, or one more capsule is next
  abbrev IsOverBy : ℕ → Type 0
  IsOverBy n = (k : Counts) × (o : Result) × (b : Words) × StepsInOrder c k root words (Over o) b × (k.capsules ≤ n)

  abbrev GoesOnAt : ℕ → Type 0
  GoesOnAt n = (k : Counts) × (u : Strands) × (b : Words) × StepsInOrder c k root words u b × IsAtWork u × (k.capsules ≡ n)

  -- from a tree after so many capsules
  on_from : (n : ℕ) (k : Counts) (t : Strands) (b : Words) → StepsInOrder c k root words t b → k.capsules ≡ n → IsOverBy n ⊎ GoesOnAt n
  on_from n k t b s all = elim (goes t b) [
    | inl y ↦ inl (plus k none, y.0, b, then_steps c s.0 s.1 y.1, omega (arith, all))
    | inr y ↦ inr (plus k none, y.0, b, then_steps c s.0 s.1 y.2, y.1, omega (arith, all))
  ]

  run_for : (n : ℕ) → IsOverBy n ⊎ GoesOnAt n
  run_for zero = on_from 0 none root words (stays root words) refl
  run_for (suc n) = elim (run_for n) [
    | inl y ↦ let few = y.4 in inl (y.0, y.1, y.2, y.3, omega (arith, few))
    | inr y ↦
        let it = next y.1 y.2 y.4 in
        let all = y.5 in
        let one = it.one in
        on_from (suc n) (plus y.0 it.counts) it.tree it.words (then_steps c y.3.0 y.3.1 it.steps) (omega (arith, all, one))
  ]

  -- it is over
  over_within : (n : ℕ) → IsOverBy n → HasRunWithin code input n
  over_within n y =
      let over : End Result = record { outcome = y.1; words = y.2; counts = none } in
      let end : End Result = with_counts y.0 over in
      let whole = turns c y.3 in
      let few = y.4 in
      record {
        run = record {
          outcome = said_of input end.words end.outcome;
          capsules = end.counts.capsules;
          forks = end.counts.forks;
          pool_words = pool_words code end.counts;
        };
        is = inl (record {
          end = end;
          comes = (chains_keep_ends c y.0 root (Over y.1) words y.2 whole.0 whole.1 end).1 (over, (1, refl), refl);
          within = omega (arith, few);
          outcome = refl;
          counts = record { capsules = refl; forks = refl; pool_words = refl };
        });
      }

  -- it goes on, so each end has more
  more : (n : ℕ) (y : GoesOnAt n) (e : End Result) → ComesTo code input e → n < e.counts.capsules
  more n y e comes =
      let it = next y.1 y.2 y.4 in
      let whole = turns c (then_steps c y.3.0 y.3.1 it.steps) in
      let most = (chains_count_no_more c (plus y.0 it.counts) root it.tree words it.words whole e comes).capsules in
      let all = y.5 in
      let one = it.one in
      omega (arith, most, all, one)

  on_within : (n : ℕ) → GoesOnAt n → HasRunWithin code input n
  on_within n y = record {
    run = record { outcome = NotWithin; capsules = y.0.capsules; forks = y.0.forks; pool_words = pool_words code y.0 };
    is = inr (record {
      outcome = refl;
      more = more n y;
      front = y.0;
      left = y.1;
      words = y.2;
      begins = y.3;
      all = y.5;
      next = y.4;
      counts = record { capsules = refl; forks = refl; pool_words = refl };
    });
  }

  -- a run within so many capsules
  pub has_run : (n : ℕ) → HasRunWithin code input n
  has_run n = elim (run_for n) [ inl y ↦ over_within n y | inr y ↦ on_within n y ]
