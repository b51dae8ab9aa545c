use Rattle.ppm_expected.proofs.FollowLemmas.{tells, goes_farthest, follows_unexpected, follows_ended}
use Rattle.ppm_expected.proofs.expected.expected_at_fault.Goals as goal

-- as far as the tokens go
pub returns-clause-farthest : goal.returns-clause-farthest
returns-clause-farthest c =
    goes_farthest
    (tells c.as_slice.result.now c.in_ok-stack.stack.items c.deref.result.now c.deref-2.result.now c.in_ok-stack.ensures c.as_slice.ensures.value
    c.deref.ensures.value c.deref-2.ensures.value c.in_ok-terminals.ensures c.can_end.ensures)

-- at a token that cannot come
pub returns-clause-unexpected : goal.returns-clause-unexpected
returns-clause-unexpected c = λ place h.
    follows_unexpected
    (tells c.as_slice.result.now c.in_ok-stack.stack.items c.deref.result.now c.deref-2.result.now c.in_ok-stack.ensures c.as_slice.ensures.value
    c.deref.ensures.value c.deref-2.ensures.value c.in_ok-terminals.ensures c.can_end.ensures) h

-- at the end
pub returns-clause-ended : goal.returns-clause-ended
returns-clause-ended c = λ h.
    follows_ended
    (tells c.as_slice.result.now c.in_ok-stack.stack.items c.deref.result.now c.deref-2.result.now c.in_ok-stack.ensures c.as_slice.ensures.value
    c.deref.ensures.value c.deref-2.ensures.value c.in_ok-terminals.ensures c.can_end.ensures) h
