-- `exhaustive_answer::count` meets its contract. What is the same for every way, the observed way's statistics, and the walk.
use Rattle.lists.proofs.Base.{◌≡◌, refl, arith, rules, length}
use Rattle.exhaustive_answer.proofs.JudgedDesigns.{judged-sound, samples-long, basis-ready, see-ready, room-ready, count-ready}
use Rattle.exhaustive_answer.proofs.LotCounts.{counted_is}
use Rattle.exhaustive_answer.proofs.count.Goals as goal

pub shared_ref_as_front-ks : goal.shared_ref_as_front-ks
shared_ref_as_front-ks c = let few = (judged-sound c.requires).few in let long : length c.args.d.samples ≡ 256 = search rules in omega arith

pub invariant_of-basis : goal.invariant_of-basis
invariant_of-basis c = record { prepared = basis-ready c.requires c.args.o.total c.frame_of.ensures }

pub see-seen-requires-clause-judged : goal.see-seen-requires-clause-judged
see-seen-requires-clause-judged c = see-ready c.requires c.args.o.total c.frame_of.ensures

pub see-seen-requires-clause-room : goal.see-seen-requires-clause-room
see-seen-requires-clause-room c = room-ready c.requires c.args.o.total c.frame_of.ensures refl

pub count_hits-hits-requires-clause-ways : goal.count_hits-hits-requires-clause-ways
count_hits-hits-requires-clause-ways c = count-ready c.requires c.args.o.total c.frame_of.ensures c.args.label_counts.now refl

pub count_hits-hits-requires-clause-room : goal.count_hits-hits-requires-clause-room
count_hits-hits-requires-clause-room c = room-ready c.requires c.args.o.total c.frame_of.ensures c.see-seen.auto.scores

pub returns : goal.returns
returns c lot own eo = counted_is c.requires lot own eo c.frame_of.ensures (samples-long c.requires) c.see-seen.ensures c.count_hits-hits.ensures
