use Rattle.std.proofs.Common.{refl}
use Rattle.steal_pool.specs.Owners.{Fresh}
use Rattle.steal_pool.proofs.StateLists.{root_given}
use Rattle.steal_pool.proofs.RootGiven.{given_ready, given_holds, given_last}
use Rattle.steal_pool.proofs.pool.give_root.Goals as goal

pub returns-clause-deques : goal.returns-clause-deques
returns-clause-deques g c = root_given (Fresh c.args.workers) c.args.stealers.now.items c.args.states.items
    c.pop.new.self.items c.push-2.new.self.items c.in-Some.last (record c.in-Some.last { hand = c.push.new.self })
    c.requires.deques c.in-Some.ensures.items refl c.in_ok-push-2.ensures.items

pub returns-clause-ready : goal.returns-clause-ready
returns-clause-ready g c =
    given_ready g.K.VisitedJobs.is_visited g.K.BoxWeight.answers g.K.BoxWeight.weight c.args.stealers.now.items
    c.args.root c.args.states.items c.pop.new.self.items c.push-2.new.self.items c.in-Some.last
    (record c.in-Some.last { hand = c.push.new.self })
    c.requires.states c.in-Some.ensures.items c.in_ok-push-2.ensures.items
    (record { owner = refl; passes = refl; output = refl; hand = c.in_ok-push.ensures.items }) c.requires.root

pub returns-clause-sums : goal.returns-clause-sums
returns-clause-sums g c =
    given_holds g.K.VisitedJobs.is_visited g.K.BoxWeight.answers g.K.BoxWeight.weight c.args.stealers.now.items
    c.args.root c.args.states.items c.pop.new.self.items c.push-2.new.self.items c.in-Some.last
    (record c.in-Some.last { hand = c.push.new.self })
    c.requires.states c.in-Some.ensures.items c.in_ok-push-2.ensures.items
    (record { owner = refl; passes = refl; output = refl; hand = c.in_ok-push.ensures.items })

pub returns-clause-root : goal.returns-clause-root
returns-clause-root g c =
    given_last g.K.VisitedJobs.is_visited g.K.BoxWeight.answers g.K.BoxWeight.weight c.args.stealers.now.items
    c.args.root c.args.states.items c.pop.new.self.items c.push-2.new.self.items c.in-Some.last
    (record c.in-Some.last { hand = c.push.new.self })
    c.in_ok-push-2.ensures.items (record { owner = refl; passes = refl; output = refl; hand = c.in_ok-push.ensures.items })
