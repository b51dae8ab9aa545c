-- By the touch that register work comes to.
use Rattle.std.proofs.Common.{rules, refl, subst, length, slice_set}
use Rattle.ppm_racy.specs.Capsules.{TouchesWithin}
use Rattle.ppm_interleaving.proofs.ReachLemmas.{if_ok, left_in, stores_turn, exchanges_turn, loads_turn}
use Rattle.ppm_interleaving.proofs.running.Running.turn.Goals as goal

pub returns-in-Loads : goal.returns-in-Loads
returns-in-Loads c = λ code is.
    loads_turn code c.args.self (record {
      capsule = c.args.self.capsule;
      at = c.reach-stop.result.next;
      registers = slice_set c.reach-stop.new.registers c.from.result c.found.result;
      own = c.args.self.own;
      settled = c.args.self.settled;
      since = c.args.self.since;
    }) c.reach-stop.result.next c.reach-stop.new.registers c.args.words.now.items c.in-Loads.location c.in-Loads.to
    (left_in code c.args.self c.args.instrs.now c.len.result (length c.args.words.now.items) c.reach-stop.result.next _ _ c.reach-stop.new.registers is
    (search rules) c.in-Loads.is c.reach-stop.ensures.left)
    refl refl (search rules) refl refl refl

pub returns-in-Stores : goal.returns-in-Stores
returns-in-Stores c =
    if_ok _ _ c.store.result (λ touched stores code is.
    stores_turn code c.args.self _ c.reach-stop.result.next c.reach-stop.new.registers
    (record { capsule = refl; at = refl; registers = refl; own = refl; settled = refl; since = refl })
    c.args.words.now.items c.store.new.words.items c.in-Stores.location c.in-Stores.word touched
    (left_in code c.args.self c.args.instrs.now c.len.result (length c.args.words.now.items) c.reach-stop.result.next _ _ c.reach-stop.new.registers is
    (search rules) c.in-Stores.is c.reach-stop.ensures.left)
    (subst (TouchesWithin (length c.args.words.now.items)) c.in-Stores.is
    (subst (λ n. TouchesWithin n c.reach-stop.result.touch) (search rules) c.reach-stop.ensures.within))
    stores) c.store.ensures

pub returns-in-Exchanges : goal.returns-in-Exchanges
returns-in-Exchanges c =
    if_ok _ _ c.change.result (λ touched asks code is.
    exchanges_turn code c.args.self _ c.reach-stop.result.next c.reach-stop.new.registers
    (record { capsule = refl; at = refl; registers = refl; own = refl; settled = refl; since = refl })
    c.args.words.now.items c.change.new.words.items c.in-Exchanges.word c.in-Exchanges.old c.in-Exchanges.new touched
    (left_in code c.args.self c.args.instrs.now c.len.result (length c.args.words.now.items) c.reach-stop.result.next _ _ c.reach-stop.new.registers is
    (search rules) c.in-Exchanges.is c.reach-stop.ensures.left)
    (subst (TouchesWithin (length c.args.words.now.items)) c.in-Exchanges.is
    (subst (λ n. TouchesWithin n c.reach-stop.result.touch) (search rules) c.reach-stop.ensures.within))
    asks) c.change.ensures
