-- `ordination_gram::columns::entry` meets its contract: the parts that are lent are the rows, and a count of selected hashes is an f64.
use Rattle.lists.proofs.Base.{sym, ap, ap₂, ◌∙◌, ℕ, ◌^◌, arith, le→leb, get_or}
use lib.Ieee.{nan, in_float}
use Rattle.float.specs.Floats.{◌⊕◌, ◌⊖◌, num}
use Rattle.lists.proofs.Rows.{part-row, length_part}
use Rattle.ordination_gram.specs.inner.{Bits.common, Columns.entry_at}
use Rattle.ordination_gram.proofs.columns.entry.Goals as goal

pub common_bits-c-requires : goal.common_bits-c-requires
common_bits-c-requires c =
    let a = c.args in
    let one = length_part a.w a.i a.words.now (omega arith) in
    let two = length_part a.w a.j a.words.now (omega arith) in (two ∙ sym one, omega arith)

pub int_to_float-result : goal.int_to_float-result
unfolding in_float
int_to_float-result c = le→leb c.common_bits-c.result (2 ^ 53) (omega (arith, c.common_bits-c.ensures.1))

pub returns : goal.returns
unfolding entry_at
returns c =
    let a = c.args in
    let bits = c.common_bits-c.ensures.0 ∙ ap₂ common (part-row a.w a.i a.words.now) (part-row a.w a.j a.words.now) in
    ap (λ (k : ℕ). num k ⊖ get_or a.sums.now a.i nan ⊖ get_or a.sums.now a.j nan ⊕ a.t) bits
