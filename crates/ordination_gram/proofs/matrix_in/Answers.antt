-- `ordination_gram::matrix_in` meets its contract: a refusal leaves everything as it was, and an answer the matrix and cleared words.
use Rattle.lists.proofs.Base.{sym, ap, ◌∙◌, ◌≤◌, arith, length, length-take-le, ℕ}
use Rattle.limits.specs.Limits.{most_selected}
use Rattle.std.specs.Prelude.{Result}
use Rattle.outcome.specs.declared.Refusal.{Refusal}
use Rattle.ordination_gram.specs.Call.{outcome_of, called}
use Rattle.ordination_sets.proofs.AcceptedSets.{Accepted}
use Rattle.ordination_gram.proofs.GramCalls.{checked-answer, checked-climbs, call-refused, call-answered}
use Rattle.outcome.proofs.Table.{passed-on}
use Rattle.ordination_gram.proofs.matrix_in.Goals as goal
use Rattle.ordination_gram.proofs.matrix_in.Goals.{In_ok-m}

-- where the answer is a number of hashes, no line holds, and there is room for them and their means
told : (c : In_ok-m) → let a = c.args in let call = c.check_gram in let m = c.in_ok-m.m in
    Accepted a.n a.hashes.now a.offsets.now a.short a.beyond × (m ≤ most_selected) × (m ≤ length call.new.chosen) × (m ≤ length call.new.means)
told c =
    let a = c.args in
    let call = c.check_gram in
    let t = checked-answer a.n a.hashes.now a.offsets.now a.short a.beyond call.ensures c.in_ok-m.was in
    let most = t.1.most in
    let room = c.requires.most_selected_in_bounds in
    (t.1, omega (arith, t.0), omega (arith, t.0, room.0, call.auto.chosen), omega (arith, t.0, room.1, call.auto.means))

pub returns-in_err-m : goal.returns-in_err-m
returns-in_err-m c =
    let a = c.args in
    let same = passed-on _ c.from_residual.ensures.1 in
    call-refused a.n a.hashes.now a.offsets.now a.short a.beyond a.b.now a.words.now _ same (ap outcome_of (same ∙ sym c.in_err-m.was) ∙ c.check_gram.ensures.told)

pub slice_bounds-fill_gram-end : goal.slice_bounds-fill_gram-end
slice_bounds-fill_gram-end c = (told (goal.at.slice_bounds-fill_gram-end c).In_ok-m).2

pub slice_bounds-fill_gram-end-2 : goal.slice_bounds-fill_gram-end-2
slice_bounds-fill_gram-end-2 c = sym (length-take-le c.in_ok-m.m c.check_gram.new.chosen (told (goal.at.slice_bounds-fill_gram-end-2 c).In_ok-m).2)

pub slice_bounds-fill_gram-end-3 : goal.slice_bounds-fill_gram-end-3
slice_bounds-fill_gram-end-3 c = (told (goal.at.slice_bounds-fill_gram-end-3 c).In_ok-m).3

pub slice_bounds-fill_gram-end-4 : goal.slice_bounds-fill_gram-end-4
slice_bounds-fill_gram-end-4 c = sym (length-take-le c.in_ok-m.m c.check_gram.new.means (told (goal.at.slice_bounds-fill_gram-end-4 c).In_ok-m).3)

pub fill_gram-requires : goal.fill_gram-requires
fill_gram-requires c =
    let a = c.args in
    let call = c.check_gram in
    let p = told (goal.at.fill_gram-requires c).In_ok-m in
    let m = length-take-le c.in_ok-m.m call.new.means p.3 in
    let room = c.requires.n_in_bounds p.0.enough in record {
      offsets = (p.0.sets, omega (arith, p.1), checked-climbs a.n a.hashes.now a.offsets.now a.short a.beyond call.ensures c.in_ok-m.was);
      n_in_bounds = (room.0, room.1, omega (arith, p.0.few, c.requires.most_selected_in_bounds.2));
    }

pub returns : goal.returns
returns c =
    let a = c.args in
    let filled = c.fill_gram in
    sym (ap (λ (r : Result ℕ Refusal). called r filled.new.out filled.new.words) c.in_ok-m.was)
    ∙ call-answered a.n a.hashes.now a.offsets.now a.short a.beyond a.b.now a.words.now c.in_ok-m.m
    c.check_gram.ensures c.in_ok-m.was filled.ensures.0 filled.ensures.1
