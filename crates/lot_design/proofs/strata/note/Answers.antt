-- `lot_design::strata::note` meets its contract. One answer for each of the three cases.
use Rattle.lists.proofs.Base.{rules, ◌≡◌, sym, ◌∙◌, take}
use Rattle.lists.specs.Numbers.{contains}
use Rattle.lists.proofs.Chains.{any_from}
use Rattle.lot.proofs.Numbering.{note-none, note-seen, note-new}
use Rattle.lot_design.proofs.strata.note.Goals as goal
use Rattle.lot_design.proofs.strata.note.Goals.{then-s-via-then-s, then-s-via-else-s+then-contains}

pub returns-then-s : goal.returns-then-s
unfolding contains
returns-then-s c = elim c.then-s.branch [
  | then-s-via-then-s w ↦ note-none _ _ _ c.requires w.if-s.true
  | then-s-via-else-s+then-contains w ↦ let seen : w.contains.result ≡ contains c.args.s (take c.args.k c.args.ns.now) = search (rules, any_from) in
      note-seen _ _ _ c.requires w.if-s.false (sym seen ∙ w.if-contains.true)
]

pub returns : goal.returns
unfolding contains
returns c =
    let seen : c.contains.result ≡ contains c.args.s (take c.args.k c.args.ns.now) = search (rules, any_from) in
    note-new _ _ _ c.requires c.if-s.false (sym seen ∙ c.if-contains.false)
