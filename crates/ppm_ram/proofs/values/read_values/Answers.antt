use Rattle.std.proofs.Common.{◌≡◌, ◌∙◌, Bool, true, false, ℤ, List, [], ◌∷◌, ◌++◌, ℕ, length, w64, to_z, of_z, Option, Some, None, Ok, Err, sym, ap, arith}
use Rattle.std.proofs.lemmas.Bool.{lt-ltb, le-ltb, cond-true, cond-false}
use Rattle.ppm_pieces.specs.Pieces.{split}
use Rattle.ppm_ram.specs.declared.ram_error.RamFault.TheVariants as fault
use Rattle.ppm_ram.specs.Numbers.{value_in, values_in}
use Rattle.ppm_ram.specs.Lines.{fitting}
use Rattle.ppm_ram.specs.Said.{at_line, followed_by, numbers_if, words_left}
use Rattle.std.proofs.lemmas.Int.{to_z-of_z}
use Rattle.ppm_ram.proofs.NumberLemmas.{fits_signed, value_spelled}
use Rattle.ppm_ram.proofs.LoopLemmas.{words_more, bad_word, good_word, no_word, no_values_before, no_words_left}
use Rattle.ppm_ram.proofs.values.read_values.Goals as goal

-- no word was read yet
pub loop-more-init : goal.loop-more-init
loop-more-init c =
    let all = values_in (split 32 c.args.words.now) in
    ap (λ (zs : List ℤ). followed_by (Some zs) all) c.new-values.ensures.items ∙ no_values_before all

-- a word that is no number
pub returns-in-None-clause-err : goal.returns-in-None-clause-err
returns-in-None-clause-err c =
    let w = c.cut-first.result.word.now in
    let ws = words_left c.cut-first.result.more c.cut-first.result.rest.now in
    let zs = numbers_if c.loop-more.fit c.loop-more.values.items in
    let said = c.in-None.ensures in
    let none : value_in w ≡ None = cc in
    ap (λ v. at_line 3 (fitting c.args.memory v))
    (sym c.loop-more.invariant
    ∙ ap (λ l. followed_by zs (values_in l)) (words_more c.loop-more.more c.loop-more.left.now w ws c.loop-more-test.true c.cut-first.ensures.pieces)
    ∙ no_word w ws zs none)

-- a number out of its range
pub loop-more-preserved-in-None-said : goal.loop-more-preserved-in-None-said
loop-more-preserved-in-None-said c =
    let w = c.cut-first.result.word.now in
    let ws = words_left c.cut-first.result.more c.cut-first.result.rest.now in
    let zs = numbers_if c.loop-more.fit c.loop-more.values.items in
    let said = c.in-Some.ensures in
    let nothing = c.in-None-said.is in
    let none : value_in w ≡ Some None = cc in
    sym (bad_word w ws zs none)
    ∙ ap (λ l. followed_by zs (values_in l)) (sym (words_more c.loop-more.more c.loop-more.left.now w ws c.loop-more-test.true c.cut-first.ensures.pieces))
    ∙ c.loop-more.invariant

-- a value more
pub loop-more-preserved : goal.loop-more-preserved
loop-more-preserved c =
    let w = c.cut-first.result.word.now in
    let ws = words_left c.cut-first.result.more c.cut-first.result.rest.now in
    let zs = numbers_if c.loop-more.fit c.loop-more.values.items in
    let said = c.in-Some.ensures in
    let something = c.in-Some-said.is in
    let one : value_in w ≡ Some (Some c.in-Some-said.value) = cc in
    let z = c.in-Some-said.value in
    let same : to_z w64 (of_z w64 z) ≡ z = to_z-of_z w64 z (fits_signed z (value_spelled w z one).1) in
    ap (λ (zs : List ℤ). followed_by (numbers_if c.loop-more.fit zs) (values_in ws)) c.in_ok-push-in-Some-said.ensures.items
    ∙ ap (λ (z : ℤ). followed_by (numbers_if c.loop-more.fit (c.loop-more.values.items ++ z ∷ [])) (values_in ws)) same
    ∙ sym (good_word w ws c.loop-more.fit c.loop-more.values.items c.in-Some-said.value one)
    ∙ ap (λ l. followed_by zs (values_in l)) (sym (words_more c.loop-more.more c.loop-more.left.now w ws c.loop-more-test.true c.cut-first.ensures.pieces))
    ∙ c.loop-more.invariant

-- all were read, and one was out of its range
pub returns-then-not-fit-clause-err : goal.returns-then-not-fit-clause-err
returns-then-not-fit-clause-err c =
    let zs = c.loop-more.values.items in
    ap (λ v. at_line 3 (fitting c.args.memory v))
    (sym c.loop-more.invariant
    ∙ ap (λ (b : Bool). followed_by (numbers_if c.loop-more.fit zs) (values_in (words_left b c.loop-more.left.now))) c.loop-more-test.false
    ∙ no_words_left c.loop-more.fit zs ∙ ap (λ (b : Bool). Some (numbers_if b zs)) c.if-not-fit.true)

-- there are too many
pub returns-then-len-memory-clause-err : goal.returns-then-len-memory-clause-err
returns-then-len-memory-clause-err c =
    let zs = c.loop-more.values.items in
    let many = c.if-len-memory.true in
    let count = c.len.ensures in
    ap (λ v. at_line 3 (fitting c.args.memory v))
    (sym c.loop-more.invariant
    ∙ ap (λ (b : Bool). followed_by (numbers_if c.loop-more.fit zs) (values_in (words_left b c.loop-more.left.now))) c.loop-more-test.false
    ∙ no_words_left c.loop-more.fit zs ∙ ap (λ (b : Bool). Some (numbers_if b zs)) c.if-not-fit.false)
    ∙ ap (λ r. at_line 3 r) (cond-true _ (Err fault.TooManyValues) (Ok zs) (lt-ltb c.args.memory (length zs) (omega (arith, many, count))))

-- or not
pub returns-clause-ok : goal.returns-clause-ok
returns-clause-ok c =
    let zs = c.loop-more.values.items in
    let few = c.if-len-memory.false in
    let count = c.len.ensures in
    ap (fitting c.args.memory)
    (sym c.loop-more.invariant
    ∙ ap (λ (b : Bool). followed_by (numbers_if c.loop-more.fit zs) (values_in (words_left b c.loop-more.left.now))) c.loop-more-test.false
    ∙ no_words_left c.loop-more.fit zs ∙ ap (λ (b : Bool). Some (numbers_if b zs)) c.if-not-fit.false)
    ∙ cond-false _ (Err fault.TooManyValues) (Ok zs) (le-ltb c.args.memory (length zs) (omega (arith, few, count)))
