use Rattle.std.proofs.Common.{List, map, subst}
use Rattle.ppm_words.specs.declared.named_array.NamedArray.{NamedArray}
use Rattle.ppm_code.specs.declared.code.CodeParts.{CodeParts}
use Rattle.ppm_ram.specs.Program.{memory_of}
use Rattle.ppm_ram_code.specs.Code.{code_of}
use Rattle.ppm_ram_code.specs.Correct.{input_of}
use Rattle.ppm_outcomes.specs.Runs.{CodeHas, CodeWants}
use Rattle.ppm_outcomes.proofs.WantLemmas.{at_err, nothing_told}
use Rattle.ppm_outcomes.proofs.WatchLemmas.{fronts_stay, others_still}
use Rattle.ppm_driver.proofs.ram.ran_ram.Goals as goal

-- what the run of its code on its memory comes to
pub returns-clause-has : goal.returns-clause-has
returns-clause-has g c =
    let before = map g.W.Watch.told c.args.watch.now.items in
    let now = map g.W.Watch.told c.ran_code.new.watch.items in
    let Has : CodeParts → List NamedArray → Type 0 =
    λ code input. CodeHas c.args.options c.args.options.processors before now c.args.plan.now.items code input c.in_ok-answer.answer in
    subst (λ (k : CodeParts). Has k (input_of (memory_of c.args.ram.now))) c.in_ok-code.ensures
    (subst (λ (l : List NamedArray). Has c.in_ok-code.code l) c.in_ok-input.ensures c.in_ok-answer.ensures.has)

-- where there was no code or no input, nobody was told anything
pub returns-in_err-code-clause-wants : goal.returns-in_err-code-clause-wants
returns-in_err-code-clause-wants g c = at_err (nothing_told _ _ _) _

pub returns-in_err-input-clause-wants : goal.returns-in_err-input-clause-wants
returns-in_err-input-clause-wants g c = at_err (nothing_told _ _ _) _

-- where memory was wanting in its run, what that run says
pub returns-in_err-answer-clause-wants : goal.returns-in_err-answer-clause-wants
returns-in_err-answer-clause-wants g c =
    let before = map g.W.Watch.told c.args.watch.now.items in
    let now = map g.W.Watch.told c.ran_code.new.watch.items in
    let Wants : CodeParts → List NamedArray → Type 0 =
    λ code input. CodeWants c.args.options c.args.options.processors before now c.args.plan.now.items code input in
    at_err (subst (λ (k : CodeParts). Wants k (input_of (memory_of c.args.ram.now))) c.in_ok-code.ensures
    (subst (λ (l : List NamedArray). Wants c.in_ok-code.code l) c.in_ok-input.ensures c.in_err-answer.ensures.wants)) _

-- where there was no code or no input, each list is as it was
pub returns-in_err-code-clause-kept : goal.returns-in_err-code-clause-kept
returns-in_err-code-clause-kept g c = fronts_stay _

pub returns-in_err-input-clause-kept : goal.returns-in_err-input-clause-kept
returns-in_err-input-clause-kept g c = fronts_stay _

pub returns-in_err-code-clause-others : goal.returns-in_err-code-clause-others
returns-in_err-code-clause-others g c = others_still _ _

pub returns-in_err-input-clause-others : goal.returns-in_err-input-clause-others
returns-in_err-input-clause-others g c = others_still _ _
